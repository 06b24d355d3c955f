-- Bytes stored in a buffer, one after another, where there is room; and the zeros escaped in them.
use mathlib.Core.Path.{◌≡◌, refl, sym, ap, ◌∙◌}
use mathlib.Core.List.{List, [], ◌∷◌, ◌++◌}
use Prim.Native.Nat.{ℕ, ◌+◌, ◌-◌, ◌≤◌, ◌<◌}
use native.Mathlib.Omega.{arith}
use lib.ListN.{length, set, length-append, length-set}
use Rattle.format.specs.Scalar.{escaped}
use Rattle.format.specs.Fields.{put}
use Rattle.format.specs.Zeros.{zeros}
use Rattle.format.proofs.ZeroLaws.{zeros_le}
use Rattle.blocks.proofs.Put.{put_none, put_then, set_put, length_put}
use Rattle.scalar.specs.declared.runs.Written.{Written}
use Rattle.scalar.specs.Runs.{WritesRun}
use Rattle.write.specs.Write.{Stored, Counted}

pub stored_then : {l m l' : List ℕ} {at a b : ℕ} {xs ys : List ℕ} → Stored l at xs a m → Stored m a ys b l' → Stored l at (xs ++ ys) b l'
stored_then {l} {at = at} {xs = xs} {ys = ys} s t =
    record {
      inside = omega (arith, s.kept, t.inside);
      kept = t.kept ∙ s.kept;
      right = λ h.
          let n = length-append xs ys in
          let f = s.right (omega arith) in
          let g = t.right (omega (arith, f.0, s.kept)) in
          (omega (arith, f.0, g.0), put_then l at xs ys (omega arith) f.0 f.1 g.1);
    }

module _ {l : List ℕ} {at : ℕ} where
  -- one byte
  pub byte_stored : {b : ℕ} → at < length l → Stored l at (b ∷ []) (at + 1) (set l at b)
  byte_stored {b} h = record { inside = omega arith; kept = length-set l at b; right = λ f. (refl, set_put l at b h) }

  -- bytes that fit in what is left
  pub put_stored : {bs : List ℕ} {r : ℕ} {l' : List ℕ} → at ≤ length l → length bs ≤ length l - at → r ≡ at + length bs → l' ≡ put l at bs → Stored l at bs r l'
  put_stored {bs} h g e f = record { inside = omega arith; kept = ap length f ∙ length_put l at bs (omega arith); right = λ k. (e, f) }

  -- nothing is written where there is no room
  pub no_room : {bs : List ℕ} → at ≤ length l → length l < at + length bs → Stored l at bs at l
  no_room h g = record { inside = h; kept = refl; right = λ f. absurd (omega arith) }

  -- no bytes
  pub none_stored : at ≤ length l → Stored l at [] at l
  none_stored h = record { inside = h; kept = refl; right = λ f. (omega arith, sym (put_none l at)) }

-- ---- zeros

-- bytes of no payload
pub none_counted : (s : List ℕ) → length s ≡ 0 → {l : List ℕ} {at : ℕ} {bs : List ℕ} {e : ℕ} {l' : List ℕ} → Stored l at bs e l' → Counted l at bs (zeros s) (record { end = e; zeros = 0 }) l'
none_counted s h st = let few = zeros_le s in record { stored = st; few = omega arith; counted = λ f. omega arith }

-- a mark, and a run behind it
module _ {l m : List ℕ} {at a b : ℕ} (s : List ℕ) (st : Stored l at (b ∷ []) a m) where
  pub run_counted : {w : Written} {l' : List ℕ} → length (escaped s) ≤ length m - a → WritesRun m a s w l' → Counted l at (b ∷ escaped s) (zeros s) w l'
  run_counted room run = record {
    stored = stored_then st (put_stored (omega (arith, st.inside, st.kept)) room run.ends run.wrote);
    few = omega (arith, run.counted);
    counted = λ f. run.counted;
  }

  pub run_short : length m - a < length (escaped s) → Counted l at (b ∷ escaped s) (zeros s) (record { end = a; zeros = 0 }) m
  run_short h = record {
    stored = stored_then st (no_room (omega (arith, st.inside, st.kept)) (omega arith));
    few = omega arith;
    counted = λ f. absurd (omega (arith, st.kept, (st.right (omega arith)).0));
  }
