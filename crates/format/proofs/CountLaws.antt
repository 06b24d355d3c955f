-- A decoding, accepted or refused, begins at most one value more than there are bytes; so the count that a decoding call gives is at most that.
use mathlib.Core.Path.{◌≡◌, refl, ap, subst}
use mathlib.Core.Bool.{Bool, true, false}
use mathlib.Core.List.{List, [], ◌∷◌, ◌++◌}
use mathlib.Core.Option.{Option, some, none}
use Prim.Native.Nat.{ℕ, ◌+◌, ◌≤◌, zero-le}
use native.Mathlib.Omega.{arith}
use lib.Dec.{ltb, eqb, lit≤}
use lib.ListN.{length, length-append}
use Rattle.format.specs.Answer.{if, UnexpectedMark}
use Rattle.format.specs.Tree.{Ty, Tys, Alts, Val, Vals}
use Rattle.format.specs.Sheet.{val_words, val_pool}
use Rattle.format.specs.TypeSheet.{type_of}
use Rattle.format.specs.Scalar.{uint_bytes}
use Rattle.format.specs.Encode.{val_bytes, vals_bytes, max_depth}
use Rattle.format.specs.Read.{Read, get_int, get_str, get_bytes, get_ref, get_uint, ends_here, null_at}
use Rattle.format.specs.Decode.{Decoded, scalar, after, both, union_end, with_tag, blank_or, decode, decode_group, decode_union, decode_bare, whole, decode_typed, decode_key}
use Rattle.format.specs.Calls.{Filled, filled, decoded_by, checked_by, decode_typed_call, decode_key_call, check_key_call}
use Rattle.format.proofs.Bytes.{AllBytes, bytes_behind}
use Rattle.format.proofs.Begun.{begun, begun_all}
use Rattle.format.proofs.Sound.{Sound, AllSound}
use Rattle.format.proofs.OrderLaws.{marked}
use Rattle.format.proofs.BackLaws.{uint_back}
use Rattle.format.proofs.CanonLaws.{canon}

-- each value has a byte of its own
mutual
  unfolding val_bytes begun

  pub held : (depth : ℕ) (v : Val) → Sound v → begun v ≤ length (val_bytes depth v)
  held depth Val.Null s = rw (marked depth Val.Null s).bytes (omega arith)
  held depth (Val.Int w) s = rw (marked depth (Val.Int w) s).bytes (omega arith)
  held depth (Val.Str x) s = omega arith
  held depth (Val.Bytes x) s = omega arith
  held depth (Val.Ref r) s = omega arith
  held depth (Val.Record vs) s = omega (arith, held_all (depth + 1) vs s, length-append (vals_bytes (depth + 1) vs) (0 ∷ []))
  held depth (Val.Union d v) s =
      let inside : List ℕ = val_bytes (depth + 1) v in
      omega (arith, held (depth + 1) v s.1, length-append inside (0 ∷ []), length-append (uint_bytes d) (inside ++ 0 ∷ []))

  pub held_all : (depth : ℕ) (vs : Vals) → AllSound vs → begun_all vs ≤ length (vals_bytes depth vs)
  held_all depth Vals.NoVal s = lit≤ tt
  held_all depth (Vals.AddVal v vs) s = omega (arith, held depth v s.0, held_all depth vs s.1, length-append (val_bytes depth v) (vals_bytes depth vs))

-- the values that a decoding began, refused or not
abbrev pub begun_of : {A : Type 0} → Decoded A → ℕ
begun_of (Decoded.got a r k) = k
begun_of (Decoded.bad n d k) = k

begun_if : {A : Type 0} (b : Bool) (x y : Decoded A) {n : ℕ} → begun_of x ≤ n → begun_of y ≤ n → begun_of (if b x y) ≤ n
begun_if true x y p q = p
begun_if false x y p q = q

begun_scalar : {A : Type 0} (f : A → Val) (m : Read A) → begun_of (scalar f m) ≡ 1
begun_scalar f (Read.got a r) = refl
begun_scalar f (Read.bad n d) = refl

begun_after : {A B : Type 0} (k : ℕ) (f : A → B) (m : Decoded A) → begun_of (after k f m) ≡ k + begun_of m
begun_after k f (Decoded.got a r j) = refl
begun_after k f (Decoded.bad n d j) = refl

begun_end : {A : Type 0} (m : Decoded A) → begun_of (union_end m) ≤ begun_of m
unfolding union_end
begun_end (Decoded.got a [] k) = omega arith
begun_end (Decoded.got a (b ∷ bs) k) = begun_if (ends_here (b ∷ bs)) (Decoded.got a bs k) (Decoded.bad UnexpectedMark b k) (omega arith) (omega arith)
begun_end (Decoded.bad n d k) = omega arith

begun_both : {A B C : Type 0} (m : Decoded A) (f : List ℕ → Decoded B) (g : A → B → C) (n : ℕ) → begun_of m ≤ n
    → ((a : A) (s : List ℕ) (k : ℕ) → m ≡ Decoded.got a s k → k + begun_of (f s) ≤ n) → begun_of (both m f g) ≤ n
begun_both (Decoded.got a s k) f g n p q = rw (begun_after k (g a) (f s)) (q a s k refl)
begun_both (Decoded.bad e d k) f g n p q = p

begun_blank : (m : Read Unit) (d : Decoded Val) (n : ℕ) → begun_of d ≤ n + 1 → begun_of (blank_or m d) ≤ n + 1
begun_blank (Read.got u rest) d n h = omega arith
begun_blank (Read.bad k e) d n h = h

-- values decoded, and the bytes left
spent : (t : Ty) (depth : ℕ) (bs : List ℕ) (a : Val) (r : List ℕ) (n : ℕ) → AllBytes bs → decode t depth bs ≡ Decoded.got a r n
    → n + length r ≤ length bs
spent t depth bs a r n h e =
    let c = canon t depth bs a r n h e in
    omega (arith, c.count, held depth a c.sound, ap length c.bytes, length-append (val_bytes depth a) r)

mutual
  unfolding decode

  pub few : (t : Ty) (depth : ℕ) (bs : List ℕ) → AllBytes bs → begun_of (decode t depth bs) ≤ length bs + 1
  few Ty.Int depth bs h = omega (arith, begun_scalar Val.Int (get_int bs))
  few Ty.Str depth bs h = omega (arith, begun_scalar Val.Str (get_str bs))
  few Ty.Bytes depth bs h = omega (arith, begun_scalar Val.Bytes (get_bytes bs))
  few (Ty.Ref p) depth bs h = omega (arith, begun_scalar Val.Ref (get_ref p bs))
  few (Ty.Record ts) depth [] h = lit≤ tt
  few (Ty.Record ts) depth (m ∷ bs) h =
      begun_if (eqb m 0x22) _ _ (begun_if (ltb depth max_depth) _ _ (omega (arith, begun_after 1 Val.Record (decode_group ts (depth + 1) bs), few_group ts (depth + 1) bs h.1)) (omega arith)) (omega arith)
  few (Ty.Union alts) depth [] h = lit≤ tt
  few (Ty.Union alts) depth (m ∷ bs) h = begun_if (eqb m 0x52) _ _ (tagged (get_uint bs) refl (λ tag more b. few_union alts depth tag more b)) (omega arith)
    where
      tagged : (g : Read ℕ) → get_uint bs ≡ g
          → ((tag : ℕ) (more : List ℕ) → AllBytes more → begun_of (decode_union alts depth tag more) ≤ length more + 2)
          → begun_of (with_tag depth g (λ tag more. decode_union alts depth tag more)) ≤ length (m ∷ bs) + 1
      tagged (Read.bad n d) e f = omega arith
      tagged (Read.got tag more) e f =
          let u = (uint_back bs h.1 e).0 in
          begun_if (ltb depth max_depth) _ _ (omega (arith, f tag more (bytes_behind (uint_bytes tag) more (subst AllBytes u h.1)), ap length u, length-append (uint_bytes tag) more)) (omega arith)
  few (Ty.Optional t) depth bs h = begun_blank (null_at depth bs) (decode t depth bs) (length bs) (few t depth bs h)

  pub few_group : (ts : Tys) (depth : ℕ) (bs : List ℕ) → AllBytes bs → begun_of (decode_group ts depth bs) ≤ length bs + 1
  few_group Tys.NoTy depth [] h = lit≤ tt
  few_group Tys.NoTy depth (b ∷ bs) h = begun_if (ends_here (b ∷ bs)) _ _ (omega arith) (omega arith)
  few_group (Tys.AddTy t ts) depth [] h = lit≤ tt
  few_group (Tys.AddTy t ts) depth (b ∷ bs) h =
      begun_if (ends_here (b ∷ bs)) _ _ (omega arith)
      (begun_both (decode t depth (b ∷ bs)) (λ rest. decode_group ts depth rest) Vals.AddVal (length (b ∷ bs) + 1) (few t depth (b ∷ bs) h)
      (λ a s k e. omega (arith, spent t depth (b ∷ bs) a s k h e, few_group ts depth s (bytes_behind (val_bytes depth a) s (subst AllBytes (canon t depth (b ∷ bs) a s k h e).bytes h)))))

  pub few_union : (alts : Alts) (depth tag : ℕ) (bs : List ℕ) → AllBytes bs → begun_of (decode_union alts depth tag bs) ≤ length bs + 2
  few_union Alts.NoAlt depth tag bs h = omega arith
  few_union (Alts.AddAlt e t alts) depth tag bs h =
      begun_if (eqb e tag) _ _
      (omega (arith, begun_after 1 (Val.Union tag) (union_end (decode t (depth + 1) bs)), begun_end (decode t (depth + 1) bs), few t (depth + 1) bs h))
      (few_union alts depth tag bs h)

-- ---- whole calls

begun_whole : {A : Type 0} (m : Decoded A) → begun_of (whole m) ≡ begun_of m
unfolding whole
begun_whole (Decoded.got a [] k) = refl
begun_whole (Decoded.got a (b ∷ bs) k) = refl
begun_whole (Decoded.bad n d k) = refl

few_bare : (ts : Tys) (bs : List ℕ) → AllBytes bs → begun_of (decode_bare ts bs) ≤ length bs + 1
unfolding decode_bare
few_bare Tys.NoTy bs h = omega arith
few_bare (Tys.AddTy t ts) bs h =
    begun_both (decode t 0 bs) (λ rest. decode_bare ts rest) Vals.AddVal (length bs + 1) (few t 0 bs h)
    (λ a s k e. omega (arith, spent t 0 bs a s k h e, few_bare ts s (bytes_behind (val_bytes 0 a) s (subst AllBytes (canon t 0 bs a s k h e).bytes h))))

pub few_typed : (t : Ty) (bs : List ℕ) → AllBytes bs → begun_of (decode_typed t bs) ≤ length bs + 1
few_typed t bs h = rw (begun_whole (decode t 0 bs)) (few t 0 bs h)

pub few_key : (t : Ty) (bs : List ℕ) → AllBytes bs → begun_of (decode_key t bs) ≤ length bs + 1
unfolding decode_key
few_key Ty.Int bs h = few_typed Ty.Int bs h
few_key Ty.Str bs h = few_typed Ty.Str bs h
few_key Ty.Bytes bs h = few_typed Ty.Bytes bs h
few_key (Ty.Ref p) bs h = few_typed (Ty.Ref p) bs h
few_key (Ty.Record ts) bs h = omega (arith, begun_whole (after 0 Val.Record (decode_bare ts bs)), begun_after 0 Val.Record (decode_bare ts bs), few_bare ts bs h)
few_key (Ty.Union alts) bs h = few_typed (Ty.Union alts) bs h
few_key (Ty.Optional t) bs h = few_typed (Ty.Optional t) bs h

-- ---- the calls of that count

few_by : (o : Option Ty) (f : Ty → Decoded Val) {n : ℕ} → ((t : Ty) → begun_of (f t) ≤ n) → begun_of (decoded_by o f) ≤ n
few_by (some t) f h = h t
few_by none f h = zero-le

either_begun : (b : Bool) (x y : Filled) {k : ℕ} → x.begun ≡ k → y.begun ≡ k → (if b x y).begun ≡ k
either_begun true x y p q = p
either_begun false x y p q = q

begun_filled : (words pool : List ℕ) (m : Decoded Val) → (filled words pool m).begun ≡ begun_of m
begun_filled words pool (Decoded.got v rest k) = either_begun (ltb (length words) (length (val_words v))) _ _ refl (either_begun (ltb (length pool) (length (val_pool v))) _ _ refl refl)
begun_filled words pool (Decoded.bad n d k) = refl

begun_checked : (m : Decoded Val) → (checked_by m).begun ≡ begun_of m
begun_checked (Decoded.got v rest k) = refl
begun_checked (Decoded.bad n d k) = refl

pub few_typed_call : (ty bytes words pool : List ℕ) → AllBytes bytes → (decode_typed_call ty bytes words pool).begun ≤ length bytes + 1
unfolding decode_typed_call
few_typed_call ty bytes words pool h =
    rw (begun_filled words pool (decoded_by (type_of ty) (λ t. decode_typed t bytes))) (few_by (type_of ty) (λ t. decode_typed t bytes) (λ t. few_typed t bytes h))

pub few_key_call : (ty bytes words pool : List ℕ) → AllBytes bytes → (decode_key_call ty bytes words pool).begun ≤ length bytes + 1
unfolding decode_key_call
few_key_call ty bytes words pool h =
    rw (begun_filled words pool (decoded_by (type_of ty) (λ t. decode_key t bytes))) (few_by (type_of ty) (λ t. decode_key t bytes) (λ t. few_key t bytes h))

pub few_check_call : (ty bytes : List ℕ) → AllBytes bytes → (check_key_call ty bytes).begun ≤ length bytes + 1
unfolding check_key_call
few_check_call ty bytes h =
    rw (begun_checked (decoded_by (type_of ty) (λ t. decode_key t bytes))) (few_by (type_of ty) (λ t. decode_key t bytes) (λ t. few_key t bytes h))
