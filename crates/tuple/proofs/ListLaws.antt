-- A list of tuple_replace calls of which only the contract is known answers as the plain book (specs/Lists): call by call it is the definition's list, which demand 3 has.
use mathlib.Core.Path.{◌≡◌, refl, ap, ◌∙◌}
use mathlib.Core.List.{List, [], ◌∷◌, map}
use Prim.Native.Nat.{ℕ}
use native.Mathlib.Omega.{arith}
use Rattle.format.specs.Answer.{Answer, ok, refused}
use Rattle.format.specs.Calls.{replace_call}
use Rattle.format.specs.Book.{Call, used_after, call_on, run_calls}
use Rattle.format.proofs.Tests.{eqb_no}
use Rattle.format.proofs.Demand3.{begins, as_book}
use Rattle.tuple.specs.Numbers.{length_of, Writes, Numbered}
use Rattle.tuple.specs.Lists.{goes_on, Row, row_of, Ran, ended, next, AsTheBook}
use Rattle.tuple.specs.declared.answers.Length.{Length}
use Rattle.tuple.proofs.Refusals.{refusals_numbered}

on_with : (used : ℕ) (a : Answer ℕ) → Numbered a → goes_on used (length_of a) ≡ used_after used a
on_with used (ok n) h = refl
on_with used (refused n d) h = rw (eqb_no n 0 (λ e. omega (arith, h, e)))

one : (ty buffer : List ℕ) (used : ℕ) (c : Call) (r : Length) (buffer' : List ℕ) → Writes (replace_call ty buffer used c.field c.words c.pool) r buffer'
    → ◌≡◌ {A = Row} (record { answer = r; used = goes_on used r; buffer = buffer' }) (row_of (call_on ty buffer used c))
one ty buffer used c r buffer' h =
    let a = (replace_call ty buffer used c.field c.words c.pool).answer in
    ap (λ (x : Length). record { answer = x; used = goes_on used x; buffer = buffer' }) h.answer
    ∙ ap (λ (n : ℕ). record { answer = length_of a; used = n; buffer = buffer' }) (on_with used a (refusals_numbered.replace ty buffer used c.field c.words c.pool))
    ∙ ap (λ (x : List ℕ). record { answer = length_of a; used = used_after used a; buffer = x }) h.left

pub ran : (ty buffer : List ℕ) (used : ℕ) (cs : List Call) (l : List Row) → Ran ty buffer used cs l → l ≡ map row_of (run_calls ty buffer used cs)
unfolding run_calls
ran ty buffer used [] l (ended _ _) = refl
ran ty buffer used (c ∷ cs) _ (next _ _ _ _ r buffer' l h t) =
    ap (λ (m : List Row). record { answer = r; used = goes_on used r; buffer = buffer' } ∷ m) (ran ty buffer' (goes_on used r) cs l t)
    ∙ ap (λ (s : Row). s ∷ map row_of (run_calls ty s.buffer s.used cs)) (one ty buffer used c r buffer' h)

-- so its answers, used lengths and buffers are the book's
pub as_the_book : AsTheBook
as_the_book = record { rows = λ ty words pool lent b cs l s h t. ran ty b.buffer b.used cs l t ∙ ap (map row_of) (as_book ty b cs (begins ty words pool lent b s) h).answers }
