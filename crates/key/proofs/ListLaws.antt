-- A list of replacements of which only the contract is known answers as the plain book (specs/Lists): call by call it is the definition's list, which demand 3 has.
use mathlib.Core.Path.{◌≡◌, refl, ap, ◌∙◌}
use mathlib.Core.List.{List, [], ◌∷◌}
use Prim.Native.Nat.{ℕ}
use Rattle.std.specs.Prelude.{Result}
use Rattle.format.specs.Answer.{Answer}
use Rattle.format.specs.Calls.{replace_call}
use Rattle.format.specs.Refusals.{answered, Leaves}
use Rattle.format.specs.Book.{Call, Seen, used_after, call_on, run_calls}
use Rattle.format.specs.declared.refusal.Refusal.{Refusal}
use Rattle.format.proofs.Demand3.{begins, as_book}
use Rattle.key.specs.Lists.{seen_by, Ran, ended, next, AsTheBook}

one : (ty buffer : List ℕ) (used : ℕ) (c : Call) (r : Result ℕ Refusal) (buffer' : List ℕ) → Leaves (replace_call ty buffer used c.field c.words c.pool) r buffer'
    → seen_by used r buffer' ≡ call_on ty buffer used c
one ty buffer used c r buffer' h =
    let a = (replace_call ty buffer used c.field c.words c.pool).answer in
    ap (λ (x : Answer ℕ). record { answer = x; used = used_after used x; buffer = buffer' }) h.answer
    ∙ ap (λ (x : List ℕ). record { answer = a; used = used_after used a; buffer = x }) h.left

pub ran : (ty buffer : List ℕ) (used : ℕ) (cs : List Call) (l : List Seen) → Ran ty buffer used cs l → l ≡ run_calls ty buffer used cs
unfolding run_calls
ran ty buffer used [] l (ended _ _) = refl
ran ty buffer used (c ∷ cs) _ (next _ _ _ _ r buffer' l h t) =
    ap (λ (m : List Seen). seen_by used r buffer' ∷ m) (ran ty buffer' (used_after used (answered r)) cs l t)
    ∙ ap (λ (s : Seen). s ∷ run_calls ty s.buffer s.used cs) (one ty buffer used c r buffer' h)

-- so its answers, used lengths and buffers are the book's
pub ran_as_book : AsTheBook
ran_as_book = record { rows = λ ty words pool lent b cs l s h t. ran ty b.buffer b.used cs l t ∙ (as_book ty b cs (begins ty words pool lent b s) h).answers }
