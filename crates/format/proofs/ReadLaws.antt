-- What is written of an integer, a run or a reference is read again, whatever follows it.
use mathlib.Core.Path.{◌≡◌, refl}
use mathlib.Core.Logic.{◌≢◌}
use mathlib.Core.Bool.{Bool, true, false}
use mathlib.Core.List.{List, [], ◌∷◌, ◌++◌}
use Prim.Native.Nat.{ℕ, zero, suc, ◌+◌, ◌-◌, ◌*◌, ◌/◌, ◌^◌, ◌≤◌, ◌<◌}
use native.Mathlib.Nat.{pow-suc}
use native.Mathlib.Omega.{arith}
use lib.Dec.{ltb, eqb}
use lib.ListN.{length, length-append}
use lib.Seq.{take_at, drop_at}
use Rattle.format.specs.Answer.{if}
use Rattle.format.specs.Utf8.{utf8}
use Rattle.format.specs.Scalar.{be, width, uint_bytes, neg_bytes, int_bytes, magnitude, escaped, str_bytes, bytes_bytes, ref_bytes}
use Rattle.format.specs.Encode.{fits_ref, fine}
use Rattle.format.specs.Read.{Read, number, get_big, width_is, get_uint, get_neg, get_int, starts_ff, get_run, after_zero, get_str, get_bytes, get_ref}
use Rattle.format.proofs.Tests.{Test, holds, fails, ltb_test, eqb_test, leb_yes, ltb_yes, ltb_no, eqb_yes}
use Rattle.format.proofs.ScalarLaws.{wide, width_pos, neg_low}

number_snoc : (a : ℕ) (xs : List ℕ) (b : ℕ) → number a (xs ++ b ∷ []) ≡ number a xs * 256 + b
unfolding number
number_snoc a [] b = refl
number_snoc a (x ∷ xs) b = number_snoc (a * 256 + x) xs b

pub length_be : (k n : ℕ) → length (be k n) ≡ k
unfolding be
length_be zero n = refl
length_be (suc k) n = rw (length-append, length_be k (n / 256)) (omega arith)

number_be : (k n : ℕ) → n < 256 ^ k → number 0 (be k n) ≡ n
unfolding be number
number_be zero n h = omega arith
number_be (suc k) n h = rw (number_snoc, number_be k (n / 256) (omega (arith, pow-suc 256 k))) (omega arith)

pub get_big_be : (w n : ℕ) (r : List ℕ) → n < 256 ^ w → get_big w (be w n ++ r) ≡ Read.got n r
unfolding get_big
get_big_be w n r h =
    rw (leb_yes w (length (be w n ++ r)) (rw (length-append, length_be) (omega arith)), take_at (be w n) r w (length_be w n), drop_at (be w n) r w (length_be w n), number_be w n h)

pub get_uint_bytes : (n : ℕ) (r : List ℕ) → n < 2 ^ 64 → get_uint (uint_bytes n ++ r) ≡ Read.got n r
unfolding get_uint uint_bytes width_is
get_uint_bytes n r h =
    let w = wide n h in
    let e : 0x48 + width n - 0x48 ≡ width n = omega arith in
    rw (ltb_no (0x48 + width n) 0x48 (omega arith), leb_yes (0x48 + width n) 0x50 (omega arith), e, get_big_be (width n) n r w.above, eqb_yes (width n) (width n) refl)

get_neg_bytes : (m : ℕ) (r : List ℕ) → m < 2 ^ 64 → get_neg (width m) (be (width m) (2 ^ 64 - 1 - m) ++ r) ≡ Read.got m r
unfolding get_neg width_is
get_neg_bytes m r h =
    let l : m < 256 ^ width m = (wide m h).above in
    let e : 256 ^ width m - 1 - (256 ^ width m - 1 - m) ≡ m = omega arith in
    rw (neg_low (width m) m (wide m h).most l, get_big_be (width m) (256 ^ width m - 1 - m) r (omega arith), e, eqb_yes (width m) (width m) refl)

pub get_int_bytes : (w : ℕ) (r : List ℕ) → w < 2 ^ 64 → get_int (int_bytes w ++ r) ≡ Read.got w r
unfolding get_int int_bytes uint_bytes neg_bytes
get_int_bytes w r h = go (ltb w (2 ^ 63)) (ltb_test w (2 ^ 63))
  where
    go : (b : Bool) → Test (w < 2 ^ 63) (2 ^ 63 ≤ w) b → get_int (if b (uint_bytes w) (neg_bytes (magnitude w)) ++ r) ≡ Read.got w r
    go _ (holds p) = rw (ltb_no (0x48 + width w) 0x40 (omega arith), ltb_no (0x48 + width w) 0x48 (omega arith), get_uint_bytes w r h, ltb_yes w (2 ^ 63) p)
    go _ (fails p) =
        let m : ℕ = magnitude w in
        let l : magnitude w < 2 ^ 64 = omega arith in
        let k : width (magnitude w) ≤ 8 = (wide (magnitude w) l).most in
        let k₂ : 0 < width (magnitude w) = width_pos (magnitude w) (omega arith) l in
        let e : 0x48 - (0x48 - width (magnitude w)) ≡ width (magnitude w) = omega arith in
        let f : 2 ^ 64 - magnitude w ≡ w = omega arith in
        rw (ltb_no (0x48 - width (magnitude w)) 0x40 (omega arith), ltb_yes (0x48 - width (magnitude w)) 0x48 (omega arith), e, get_neg_bytes (magnitude w) r l, leb_yes (magnitude w) (2 ^ 63) (omega arith), f)

pub get_run_escaped : (s r : List ℕ) → starts_ff r ≡ false → get_run (escaped s ++ r) ≡ Read.got s r
unfolding get_run escaped starts_ff
get_run_escaped [] r e = ended r e
  where
    ended : (x : List ℕ) → starts_ff x ≡ false → after_zero x ≡ Read.got [] x
    ended [] h = refl
    ended (c ∷ x) h = rw h
get_run_escaped (b ∷ s) r e = go (eqb b 0) (eqb_test b 0) refl (get_run_escaped s r e)
  where
    go : (c : Bool) → Test (b ≡ 0) (b ≢ 0) c → eqb b 0 ≡ c → get_run (escaped s ++ r) ≡ Read.got s r
        → get_run (if c (0 ∷ 0xFF ∷ escaped s) (b ∷ escaped s) ++ r) ≡ Read.got (b ∷ s) r
    go _ (holds p) q ih = rw (ih, p)
    go _ (fails p) q ih = rw (q, ih)

pub get_str_bytes : (s r : List ℕ) → utf8 s ≡ true → starts_ff r ≡ false → get_str (str_bytes s ++ r) ≡ Read.got s r
unfolding get_str
get_str_bytes s r u e = rw (get_run_escaped s r e, u)

pub get_bytes_bytes : (s r : List ℕ) → starts_ff r ≡ false → get_bytes (bytes_bytes s ++ r) ≡ Read.got s r
unfolding get_bytes
get_bytes_bytes s r e = get_run_escaped s r e

pub get_ref_bytes : (p q : ℕ) (r : List ℕ) → q < 2 ^ 64 → fits_ref p q ≡ fine → get_ref p (ref_bytes q ++ r) ≡ Read.got q r
unfolding get_ref
get_ref_bytes p q r h f = rw (get_big_be 8 q r h, f)
