-- One turn of the walk: a group's end, or a field.
use mathlib.Core.Bool.{Bool, true, false, ◌&&◌, and-false}
use mathlib.Core.Path.{◌≡◌, refl, ap, ◌∙◌}
use mathlib.Core.List.{List, [], ◌∷◌}
use Prim.Native.Nat.{ℕ, ◌+◌, ◌-◌, ◌<◌}
use native.Mathlib.Omega.{arith}
use lib.Dec.{ltb, eqb}
use lib.ListN.{length, get_or, drop, length-append}
use lib.Seq.{drop_at}
use borrow.Author.Tests.{eqb-true, lt-ltb, ltb-true}
use Rattle.format.specs.Answer.{ok, refused}
use Rattle.format.specs.Encode.{max_depth}
use Rattle.format.specs.Read.{Read, ends_here}
use Rattle.format.specs.Fields.{taken_from}
use Rattle.format.specs.Skip.{pass_field, turn}
use Rattle.format.proofs.SkipLaws.{turn_takes}
use Rattle.scalar.proofs.Reading.{Front, Took, took, refuses}
use Rattle.scalar.proofs.GroupLaws.{ends_other}
use Rattle.skip.specs.Tokens.{field}

-- ---- a group's end

abbrev pub Ending : ℕ → List ℕ → Bool
Ending depth s = ltb 0 depth && ends_here s

ends_some : (depth : ℕ) (s : List ℕ) → Ending depth s ≡ true → (0 < depth) × (0 < length s)
unfolding ends_here
ends_some depth s e = go (ltb 0 depth) refl s e
  where
    go : (b : Bool) → ltb 0 depth ≡ b → (t : List ℕ) → (b && ends_here t) ≡ true → (0 < depth) × (0 < length t)
    go true p [] q = let z : ◌≡◌ {A = ℕ} 0 1 = cc in absurd (omega arith)
    go true p (m ∷ t) q = (ltb-true 0 depth p, omega arith)
    go false p t q = let z : ◌≡◌ {A = ℕ} 0 1 = cc in absurd (omega arith)

pub ends_open : (depth : ℕ) (s : List ℕ) → Ending depth s ≡ true → 0 < depth
ends_open depth s e = (ends_some depth s e).0

-- ---- a record opens

abbrev pub Opening : ℕ → List ℕ → Bool
Opening depth s = eqb (get_or s 0 0) 0x22 && ltb depth max_depth

and_both : (x y : Bool) → (x && y) ≡ true → (x ≡ true) × (y ≡ true)
and_both true y e = (refl, e)
and_both false y e = let z : ◌≡◌ {A = ℕ} 0 1 = cc in absurd (omega arith)

pub opens_low : (depth : ℕ) (s : List ℕ) → Opening depth s ≡ true → depth < 256
opens_low depth s e = ltb-true depth 256 (and_both (eqb (get_or s 0 0) 0x22) (ltb depth max_depth) e).1

-- a byte that is not 00 is there
pub byte_there : (s : List ℕ) → (get_or s 0 0 ≡ 0 → ⊥) → 0 < length s
byte_there [] some = absurd (some refl)
byte_there (b ∷ s) some = omega arith

-- ---- what a turn is

module _ (escape : Bool) (depth : ℕ) where
  pub turn_field : (s : List ℕ) → Ending depth s ≡ false → turn escape depth s ≡ field escape depth s
  unfolding turn field
  turn_field [] e = refl
  turn_field (m ∷ s) e = rw e

  turn_ends : (s : List ℕ) → Ending depth s ≡ true → turn escape depth s ≡ Read.got (depth - 1) (drop 1 s)
  unfolding turn
  turn_ends [] e = let h = ends_some depth [] e in absurd (omega arith)
  turn_ends (m ∷ s) e = rw e

  -- a turn is a field where no 00 stands
  pub turn_mark : (s : List ℕ) → (get_or s 0 0 ≡ 0 → ⊥) → turn escape depth s ≡ pass_field escape depth (get_or s 0 0) (drop 1 s)
  unfolding field
  turn_mark [] some = absurd (some refl)
  turn_mark (m ∷ s) some = turn_field (m ∷ s) (rw (← ends_other (m ∷ s) some) (and-false (ltb 0 depth)))

  turn_front : (s : List ℕ) (d : ℕ) (r : List ℕ) → turn escape depth s ≡ Read.got d r → Front s r
  turn_front s d r e =
      let h = turn_takes escape depth s e in
      let l = length-append h.0 r in
      let k : length s ≡ length h.0 + length r = ap length h.1 ∙ l in
      let n : length h.0 ≡ length s - length r = omega arith in
      record { some = omega (arith, h.2); rest = ap (drop (length s - length r)) h.1 ∙ drop_at h.0 r (length s - length r) n }

  -- what the answer of a field's function says of the turn
  pub turn_took : (s : List ℕ) {d n : ℕ} → Ending depth s ≡ false → ok (record { value = d; used = n }) ≡ taken_from s (field escape depth s) → Took s (turn escape depth s) d n
  turn_took s e a = took s (turn_front s) (rw (turn_field s e) a)

  pub turn_refuses : (s : List ℕ) {n d : ℕ} → Ending depth s ≡ false → refused n d ≡ taken_from s (field escape depth s) → turn escape depth s ≡ Read.bad n d
  turn_refuses s e a = refuses s (rw (turn_field s e) a)

  -- a group's end takes its 00, a record its mark
  pub turn_closes : (s : List ℕ) → Ending depth s ≡ true → Took s (turn escape depth s) (depth - 1) 1
  turn_closes s e = let h = ends_some depth s e in record { reads = turn_ends s e; some = omega arith; within = omega arith }

  pub turn_opens : (s : List ℕ) → Opening depth s ≡ true → Took s (turn escape depth s) (depth + 1) 1
  unfolding pass_field
  turn_opens s e =
      let h = eqb-true (get_or s 0 0) 0x22 (and_both (eqb (get_or s 0 0) 0x22) (ltb depth max_depth) e).0 in
      let some : get_or s 0 0 ≡ 0 → ⊥ = λ z. omega arith in
      record {
        reads = turn_mark s some ∙ rw (h, lt-ltb depth 256 (opens_low depth s e));
        some = omega arith;
        within = byte_there s some;
      }
