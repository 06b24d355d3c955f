-- Values compare equal exactly if they are equal.
use mathlib.Core.Path.{◌≡◌, refl, sym, ap, ◌∙◌, subst, ap₂}
use mathlib.Core.Logic.{◌↔◌}
use Prim.Native.Nat.{Ordering}
use Prim.Native.Nat.{◌^◌, ◌<◌, compare}
use native.Mathlib.Omega.{arith}
use Rattle.format.specs.Tree.{Val, Vals, number_in, run_in, fields_in, payload_in}
use Rattle.format.specs.Order.{then, cmp_bytes, cmp_val, cmp_vals, offset, rank}
use Rattle.format.proofs.CompareLaws.{alike, then_both, compare_eq, cmp_bytes_refl, cmp_bytes_eq}
use Rattle.format.proofs.Sound.{Sound, AllSound}
use Rattle.format.proofs.KindLaws.{built, kind_of, is_made}

mutual
  unfolding cmp_val cmp_vals built kind_of

  pub cmp_val_eq : (a b : Val) → Sound a → Sound b → cmp_val a b ≡ Ordering.eq → a ≡ b
  cmp_val_eq Val.Null b wa wb e = sym (is_made b (rank Val.Null) (compare_eq (rank Val.Null) (rank b) e))
  cmp_val_eq (Val.Str x) b wa wb e =
      let h = then_both (compare (rank (Val.Str x)) (rank b)) (cmp_bytes x (run_in b)) e in
      ap Val.Str (cmp_bytes_eq x (run_in b) h.1) ∙ sym (is_made b (rank (Val.Str x)) (compare_eq (rank (Val.Str x)) (rank b) h.0))
  cmp_val_eq (Val.Record vs) b wa wb e =
      let h = then_both (compare (rank (Val.Record vs)) (rank b)) (cmp_vals vs (fields_in b)) e in
      let m = is_made b (rank (Val.Record vs)) (compare_eq (rank (Val.Record vs)) (rank b) h.0) in
      ap Val.Record (cmp_vals_eq vs (fields_in b) wa (subst Sound m wb) h.1) ∙ sym m
  cmp_val_eq (Val.Int w) b wa wb e =
      let h = then_both (compare (rank (Val.Int w)) (rank b)) (compare (offset w) (offset (number_in b))) e in
      let m = is_made b (rank (Val.Int w)) (compare_eq (rank (Val.Int w)) (rank b) h.0) in
      let l : number_in b < 2 ^ 64 = subst Sound m wb in
      let l₂ : w < 2 ^ 64 = wa in
      let p : w ≡ number_in b = omega (arith, compare_eq (offset w) (offset (number_in b)) h.1) in
      ap Val.Int p ∙ sym m
  cmp_val_eq (Val.Ref r) b wa wb e =
      let h = then_both (compare (rank (Val.Ref r)) (rank b)) (compare r (number_in b)) e in
      ap Val.Ref (compare_eq r (number_in b) h.1) ∙ sym (is_made b (rank (Val.Ref r)) (compare_eq (rank (Val.Ref r)) (rank b) h.0))
  cmp_val_eq (Val.Union d v) b wa wb e =
      let h = then_both (compare (rank (Val.Union d v)) (rank b)) (then (compare d (number_in b)) (cmp_val v (payload_in b))) e in
      let g = then_both (compare d (number_in b)) (cmp_val v (payload_in b)) h.1 in
      let m = is_made b (rank (Val.Union d v)) (compare_eq (rank (Val.Union d v)) (rank b) h.0) in
      let wu : Sound (Val.Union (number_in b) (payload_in b)) = subst Sound m wb in
      ap₂ Val.Union (compare_eq d (number_in b) g.0) (cmp_val_eq v (payload_in b) wa.1 wu.1 g.1) ∙ sym m
  cmp_val_eq (Val.Bytes x) b wa wb e =
      let h = then_both (compare (rank (Val.Bytes x)) (rank b)) (cmp_bytes x (run_in b)) e in
      ap Val.Bytes (cmp_bytes_eq x (run_in b) h.1) ∙ sym (is_made b (rank (Val.Bytes x)) (compare_eq (rank (Val.Bytes x)) (rank b) h.0))

  pub cmp_vals_eq : (vs us : Vals) → AllSound vs → AllSound us → cmp_vals vs us ≡ Ordering.eq → vs ≡ us
  cmp_vals_eq Vals.NoVal Vals.NoVal wv wu e = refl
  cmp_vals_eq Vals.NoVal (Vals.AddVal u us) wv wu e = cc
  cmp_vals_eq (Vals.AddVal v vs) Vals.NoVal wv wu e = cc
  cmp_vals_eq (Vals.AddVal v vs) (Vals.AddVal u us) wv wu e =
      let h = then_both (cmp_val v u) (cmp_vals vs us) e in
      ap₂ Vals.AddVal (cmp_val_eq v u wv.0 wu.0 h.0) (cmp_vals_eq vs us wv.1 wu.1 h.1)

mutual
  unfolding cmp_val cmp_vals

  pub cmp_val_refl : (a : Val) → cmp_val a a ≡ Ordering.eq
  cmp_val_refl Val.Null = refl
  cmp_val_refl (Val.Str x) = cmp_bytes_refl x
  cmp_val_refl (Val.Record vs) = cmp_vals_refl vs
  cmp_val_refl (Val.Int w) = alike (offset w)
  cmp_val_refl (Val.Ref r) = alike r
  cmp_val_refl (Val.Union d v) = rw (alike d) (cmp_val_refl v)
  cmp_val_refl (Val.Bytes x) = cmp_bytes_refl x

  pub cmp_vals_refl : (vs : Vals) → cmp_vals vs vs ≡ Ordering.eq
  cmp_vals_refl Vals.NoVal = refl
  cmp_vals_refl (Vals.AddVal v vs) = rw (cmp_val_refl v) (cmp_vals_refl vs)

pub cmp_val_iff : (a b : Val) → Sound a → Sound b → (cmp_val a b ≡ Ordering.eq) ↔ (a ≡ b)
cmp_val_iff a b wa wb = (cmp_val_eq a b wa wb, λ e. rw e (cmp_val_refl b))
