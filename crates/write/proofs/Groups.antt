-- A group by the numbers on its sheet, as PlainLaws has the values that are none: the values in it, a union's payload being one, the bytes before and behind, and the zeros.
use mathlib.Core.Bool.{Bool}
use mathlib.Core.Path.{◌≡◌, refl, ap}
use mathlib.Core.List.{List, [], ◌∷◌, ◌++◌, append-nil}
use Prim.Native.Nat.{ℕ, ◌+◌, ◌≤◌}
use native.Mathlib.Omega.{arith}
use borrow.Author.Tests.{lt-ltb}
use Rattle.format.specs.Answer.{Answer, and_then}
use Rattle.format.specs.Scalar.{tag_bytes}
use Rattle.format.specs.Tree.{Ty, Tys, Val, Vals, val_kind, number_in, fields_in, payload_in}
use Rattle.format.specs.Sheet.{val_count, val_words, val_pool, vals_words, vals_pool}
use Rattle.format.specs.ValueSheet.{Proper, AllProper}
use Rattle.format.specs.Encode.{val_bytes, vals_bytes, fits, fits_all, fine}
use Rattle.format.specs.Zeros.{val_zeros, vals_zeros}
use Rattle.format.proofs.ValuePlaces.{ValueIn, ValuesIn, word_of, record_in, union_in}
use Rattle.format.proofs.Tests.{Test, holds, fails, eqb_test}
use Rattle.format.proofs.KindLaws.{built}
use Rattle.format.proofs.FitLaws.{of_value, value_kinds, fields_fit, payload_fits}
use Rattle.write.specs.Write.{group_count, group_bytes}

pub record Group (words pool : List ℕ) (w p e f k x depth : ℕ) (v : Val) : Type 0 where
  pub types : Tys
  pub inside : Vals
  pub fit : fits_all types (depth + 1) inside ≡ fine
  pub proper : AllProper inside
  pub count : group_count k x ≡ val_count inside
  pub stand : ValuesIn words pool (w + 2) p inside e f
  pub bytes : val_bytes depth v ≡ group_bytes k x ++ (vals_bytes (depth + 1) inside ++ 0 ∷ [])
  pub zeros : val_zeros v ≡ vals_zeros inside

module _ (words pool : List ℕ) (w p e f depth : ℕ) (t : Ty) where
  abbrev Grouped : Val → Type 0
  Grouped v = fits t depth v ≡ fine → Proper v → ValueIn words pool w p v e f → Group words pool w p e f (val_kind v) (word_of v) depth v

  a_record : (vs : Vals) → Grouped (Val.Record vs)
  unfolding val_bytes Proper val_zeros
  a_record vs fit ok i =
      let h = fields_fit t depth vs fit in
      record { types = h.0; inside = vs; fit = h.1; proper = ok; count = refl; stand = record_in words pool w p e f vs i; bytes = refl; zeros = refl }

  a_union : (d : ℕ) (u : Val) → Grouped (Val.Union d u)
  unfolding fits val_bytes val_count vals_words vals_pool tag_bytes Proper val_zeros
  a_union d u fit ok i =
      let h = payload_fits t depth d u fit in
      let j = union_in words pool w p e f d u i in
      record {
        types = Tys.AddTy h.0 Tys.NoTy;
        inside = Vals.AddVal u Vals.NoVal;
        fit = ap (λ (a : Answer Unit). and_then a (λ n. fine)) h.1;
        proper = (ok.1, tt);
        count = refl;
        stand = record { words = rw (append-nil (val_words u)) j.words; pool = rw (append-nil (val_pool u)) j.pool };
        bytes = rw (lt-ltb d 4294967296 ok.0, append-nil (val_bytes (depth + 1) u));
        zeros = omega arith;
      }

  pub group : {k x : ℕ} (v : Val) → val_kind v ≡ k → word_of v ≡ x → 5 ≤ k → fits t depth v ≡ fine → Proper v → ValueIn words pool w p v e f → Group words pool w p e f k x depth v
  unfolding built
  group {k} {x} v kk kx up fit ok i = rw (kk, kx) at (go (eqb_test (val_kind v) 5) fit ok i)
    where
      go : {b : Bool} → Test (val_kind v ≡ 5) (val_kind v ≡ 5 → ⊥) b → Grouped v
      go (holds q) = of_value Grouped 5 v q (a_record (fields_in v))
      go (fails q) = of_value Grouped 6 v (omega (arith, value_kinds v)) (a_union (number_in v) (payload_in v))
