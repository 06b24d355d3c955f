-- Laws of integers and references: one for each way out of the functions that fill them.
use Rattle.std.proofs.Common.{◌≡◌, ℕ, zero, suc, ◌+◌, ◌-◌, ◌*◌, ◌/◌, ◌%◌, ◌^◌, ◌<◌, ◌≤◌, Bool, ltb, List, []}
use Rattle.std.proofs.Common.{◌∷◌, ◌++◌, length, get_or, take, drop, sym, refl, ap, ◌∙◌, add-zero, div-one, arith, length-append, length-drop, get_or-drop, drop-drop}
use native.Mathlib.Nat.{pow-succ', div-div-eq-div-mul}
use Rattle.format.specs.Answer.{if}
use Rattle.format.specs.Tree.{Val}
use Rattle.format.specs.Scalar.{be, width, magnitude, uint_bytes, neg_bytes, int_bytes, ref_bytes}
use Rattle.format.specs.Encode.{val_bytes}
use Rattle.format.specs.Read.{Read, number, get_big}
use Rattle.format.specs.Fields.{put}
use Rattle.format.proofs.ReadLaws.{length_be, get_big_be}
use Rattle.format.proofs.ScalarLaws.{wide, width_pos, neg_low}
use Rattle.format.proofs.Tests.{Test, holds, fails, ltb_test}
use Rattle.format.proofs.OrderLaws.{marked}
use Rattle.blocks.proofs.Put.{length_put}
use Rattle.scalar.proofs.Parts.{part_rest}
use Rattle.scalar.proofs.Numbers.{pow_256, number_take_suc, ones_shift}
use Rattle.scalar.proofs.Integers.{big_read}
use Rattle.fill.proofs.PlaceLaws.{head_at}
use Rattle.fill.specs.Fill.{Width, NumberFilled}

-- the first k of k + d bytes
high_bytes : (s : List ℕ) → ((i : ℕ) → get_or s i 0 < 256) → (k d : ℕ) → k + d ≤ length s → number 0 (take (k + d) s) / 256 ^ d ≡ number 0 (take k s)
high_bytes s b k zero h = rw add-zero (div-one (number 0 (take k s)))
high_bytes s b k (suc d) h =
    let e : k + suc d ≡ k + d + 1 = omega arith in
    let f : number 0 (take (k + suc d) s) ≡ number 0 (take (k + d) s) * 256 + get_or s (k + d) 0 = ap (λ (j : ℕ). number 0 (take j s)) e ∙ number_take_suc 0 s (k + d) (omega arith) in
    let g : (number 0 (take (k + d) s) * 256 + get_or s (k + d) 0) / 256 ≡ number 0 (take (k + d) s) = omega (arith, b (k + d)) in
    rw (f, pow-succ', ← div-div-eq-div-mul, g) (high_bytes s b k d (omega arith))

-- eight bytes, shifted
shifted : (s : List ℕ) → ((i : ℕ) → get_or s i 0 < 256) → (k : ℕ) → k ≤ 8 → 8 ≤ length s → number 0 (take 8 s) / 2 ^ (64 - 8 * k) ≡ number 0 (take k s)
shifted s b k h l =
    let e : k + (8 - k) ≡ 8 = omega arith in
    let f : 64 - 8 * k ≡ (8 - k) * 8 = omega arith in
    let g : 2 ^ (64 - 8 * k) ≡ 256 ^ (8 - k) = ap (λ (j : ℕ). 2 ^ j) f ∙ sym (pow_256 (8 - k)) in
    ap (λ (j : ℕ). number 0 (take 8 s) / j) g ∙ ap (λ (j : ℕ). number 0 (take j s) / 256 ^ (8 - k)) (sym e) ∙ high_bytes s b k (8 - k) (omega arith)

-- at a place of a key
module _ (bytes : List ℕ) (j k : ℕ) where
  pub number_is : {r : ℕ} → r ≡ number 0 (take k (take (length bytes - j) (drop j bytes))) → r ≡ number 0 (take k (drop j bytes))
  number_is e = e ∙ ap (λ (l : List ℕ). number 0 (take k l)) (part_rest j bytes)

  pub number_none : k ≡ 0 → 0 ≡ number 0 (take k (drop j bytes))
  unfolding number
  number_none e = rw e

  pub number_shifted : {r : ℕ} → ((i : ℕ) → get_or bytes i 0 < 256) → k ≤ 8 → 8 ≤ length bytes - j → r ≡ number 0 (take 8 (take (length bytes - j) (drop j bytes))) → r / 2 ^ (64 - 8 * k) ≡ number 0 (take k (drop j bytes))
  number_shifted b h l e =
      ap (λ (x : ℕ). x / 2 ^ (64 - 8 * k)) (e ∙ ap (λ (s : List ℕ). number 0 (take 8 s)) (part_rest j bytes))
      ∙ shifted (drop j bytes) (λ i. rw get_or-drop (b (j + i))) k h (omega (arith, length-drop j bytes))

-- k bytes as a number
big_at : (k x : ℕ) (bs rest : List ℕ) → x < 256 ^ k → bs ≡ be k x ++ rest → (k ≤ length bs) × (number 0 (take k bs) ≡ x) × (drop k bs ≡ rest)
big_at k x bs rest l e =
    let n : length bs ≡ length (be k x) + length rest = ap length e ∙ length-append (be k x) rest in
    let h : k ≤ length bs = omega (arith, length_be k x) in
    let q : Read.got (number 0 (take k bs)) (drop k bs) ≡ Read.got x rest = sym (big_read k bs h) ∙ ap (get_big k) e ∙ get_big_be k x rest l in
    (h, cc, cc)

-- a number of k bytes behind the mark m: what stands there, and the place behind it
record Number (bytes : List ℕ) (i m k x : ℕ) (rest : List ℕ) : Type 0 where
  pub mark : get_or bytes i 0 ≡ m
  pub inside : i + 1 + k ≤ length bytes
  pub value : number 0 (take k (drop (i + 1) bytes)) ≡ x
  pub left : drop (i + 1 + k) bytes ≡ rest

behind_mark : (bytes : List ℕ) (i m k x : ℕ) (rest : List ℕ) → x < 256 ^ k → drop i bytes ≡ m ∷ (be k x ++ rest) → Number bytes i m k x rest
behind_mark bytes i m k x rest l e =
    let h = head_at bytes i e in
    let b = big_at k x (drop (i + 1) bytes) rest l h.2 in
    record { mark = h.1; inside = omega (arith, b.0, h.0, length-drop (i + 1) bytes); value = b.1; left = sym (drop-drop k (i + 1) bytes) ∙ b.2 }

uint_at : (bytes : List ℕ) (i x : ℕ) (rest : List ℕ) → x < 2 ^ 64 → drop i bytes ≡ uint_bytes x ++ rest → Number bytes i (0x48 + width x) (width x) x rest
unfolding uint_bytes
uint_at bytes i x rest l e = behind_mark bytes i (0x48 + width x) (width x) x rest (wide x l).above e

-- ---- how wide an unsigned integer is

module _ {bytes : List ℕ} {i : ℕ} (h : i < length bytes) where
  pub width_low : get_or bytes i 0 < 0x48 → Width bytes i 0
  width_low l = record { most = omega arith; inside = omega arith; right = λ x rest s e. absurd (omega (arith, (uint_at bytes i x rest s e).mark)) }

  pub width_high : 0x50 < get_or bytes i 0 → Width bytes i 0
  width_high l = record { most = omega arith; inside = omega arith; right = λ x rest s e. absurd (omega (arith, (uint_at bytes i x rest s e).mark, (wide x s).most)) }

  pub width_short : length bytes - i ≤ get_or bytes i 0 - 0x48 → Width bytes i 0
  width_short l = record { most = omega arith; inside = omega arith; right = λ x rest s e. let u = uint_at bytes i x rest s e in absurd (omega (arith, u.mark, u.inside)) }

  pub width_is : get_or bytes i 0 ≤ 0x50 → get_or bytes i 0 - 0x48 < length bytes - i → Width bytes i (get_or bytes i 0 - 0x48)
  width_is m l = record { most = omega arith; inside = omega arith; right = λ x rest s e. omega (arith, (uint_at bytes i x rest s e).mark) }

-- ---- numbers filled

-- two words are put, and the sheet is as long
pub two_kept : (win : List ℕ) (w kind x : ℕ) {wout : List ℕ} → w + 2 ≤ length win → wout ≡ put win w (kind ∷ x ∷ []) → length wout ≡ length win
two_kept win w kind x room e = ap length e ∙ length_put win w (kind ∷ x ∷ []) (omega arith)

module _ {bytes : List ℕ} {i : ℕ} {win : List ℕ} {w : ℕ} {wout : List ℕ} (room : w + 2 ≤ length win) where
  pub uint_filled : {kind k x : ℕ} → Width bytes i k → x ≡ number 0 (take k (drop (i + 1) bytes)) → wout ≡ put win w (kind ∷ x ∷ []) → NumberFilled uint_bytes kind bytes i win w (i + 1 + k) wout
  uint_filled {kind} {k} {x} wd ex ew =
      record {
        on = omega arith;
        inside = wd.inside;
        kept = two_kept win w kind x room ew;
        right = λ y rest s e.
            let u = uint_at bytes i y rest s e in
            let q : k ≡ width y = wd.right y rest s e in
            let f : x ≡ y = ex ∙ ap (λ (j : ℕ). number 0 (take j (drop (i + 1) bytes))) q ∙ u.value in
            (ap (λ (j : ℕ). drop (i + 1 + j) bytes) q ∙ u.left, ew ∙ ap (λ (z : ℕ). put win w (kind ∷ z ∷ [])) f);
      }

  pub ref_filled : {x : ℕ} → 8 ≤ length bytes - (i + 1) → x ≡ number 0 (take 8 (take (length bytes - (i + 1)) (drop (i + 1) bytes))) → wout ≡ put win w (4 ∷ x ∷ [])
      → NumberFilled ref_bytes 4 bytes i win w (i + 1 + 8) wout
  ref_filled {x} long ex ew =
      record {
        on = omega arith;
        inside = omega arith;
        kept = two_kept win w 4 x room ew;
        right = λ y rest s e.
            let u = behind_mark bytes i 0x51 8 y rest s e in
            let f : x ≡ y = number_is bytes (i + 1) 8 ex ∙ u.value in
            (u.left, ew ∙ ap (λ (z : ℕ). put win w (4 ∷ z ∷ [])) f);
      }

  -- the word of a negative integer: what its bytes make, less as many ones
  pub negative_filled : {n x : ℕ} → 0x40 ≤ get_or bytes i 0 → get_or bytes i 0 < 0x48 → 0x48 - get_or bytes i 0 < length bytes - i → n ≡ number 0 (take (0x48 - get_or bytes i 0) (drop (i + 1) bytes)) → x < 2 ^ 64
      → (x + (2 ^ 64 - 1) / 2 ^ (64 - 8 * (0x48 - get_or bytes i 0))) % 2 ^ 64 ≡ n → wout ≡ put win w (1 ∷ x ∷ []) → NumberFilled int_bytes 1 bytes i win w (i + 1 + (0x48 - get_or bytes i 0)) wout
  unfolding int_bytes neg_bytes
  negative_filled {n} {x} lo hi long en small ex ew =
      record { on = omega arith; inside = omega arith; kept = two_kept win w 1 x room ew; right = λ y rest s e. go y rest s (ltb y (2 ^ 63)) (ltb_test y (2 ^ 63)) e }
    where
      go : (y : ℕ) (rest : List ℕ) → y < 2 ^ 64 → (b : Bool) → Test (y < 2 ^ 63) (2 ^ 63 ≤ y) b → drop i bytes ≡ if b (uint_bytes y) (neg_bytes (magnitude y)) ++ rest
          → (drop (i + 1 + (0x48 - get_or bytes i 0)) bytes ≡ rest) × (wout ≡ put win w (1 ∷ y ∷ []))
      go y rest s _ (holds p) e = absurd (omega (arith, (uint_at bytes i y rest s e).mark))
      go y rest s _ (fails p) e =
          let l : magnitude y < 2 ^ 64 = omega arith in
          let d = width (magnitude y) in
          let most : d ≤ 8 = (wide (magnitude y) l).most in
          let above : magnitude y < 256 ^ d = (wide (magnitude y) l).above in
          let low : be d (2 ^ 64 - 1 - magnitude y) ≡ be d (256 ^ d - 1 - magnitude y) = neg_low d (magnitude y) most above in
          let u = behind_mark bytes i (0x48 - d) d (256 ^ d - 1 - magnitude y) rest (omega arith) (e ∙ ap (λ (z : List ℕ). (0x48 - d) ∷ (z ++ rest)) low) in
          let q : 0x48 - get_or bytes i 0 ≡ d = omega (arith, u.mark) in
          let o : (2 ^ 64 - 1) / 2 ^ (64 - 8 * (0x48 - get_or bytes i 0)) ≡ 256 ^ d - 1 = ones_shift (0x48 - get_or bytes i 0) (omega arith) ∙ ap (λ (j : ℕ). 256 ^ j - 1) q in
          let v : n ≡ 256 ^ d - 1 - magnitude y = en ∙ ap (λ (j : ℕ). number 0 (take j (drop (i + 1) bytes))) q ∙ u.value in
          let f : (x + (256 ^ d - 1)) % 2 ^ 64 ≡ 256 ^ d - 1 - magnitude y = ap (λ (j : ℕ). (x + j) % 2 ^ 64) (sym o) ∙ ex ∙ v in
          let xy : x ≡ y = omega arith in
          (ap (λ (j : ℕ). drop (i + 1 + j) bytes) q ∙ u.left, ew ∙ ap (λ (z : ℕ). put win w (1 ∷ z ∷ [])) xy)

-- ---- where no number stands

module _ {bytes : List ℕ} {i : ℕ} {win : List ℕ} {w : ℕ} (h : i < length bytes) where
  pub no_int : get_or bytes i 0 < 0x40 → NumberFilled int_bytes 1 bytes i win w (length bytes) win
  unfolding val_bytes
  no_int l = record { on = h; inside = omega arith; kept = refl; right = λ x rest s e. let m = marked 0 (Val.Int x) s in absurd (omega (arith, m.least, (head_at bytes i (e ∙ ap (λ (t : List ℕ). t ++ rest) m.bytes)).1)) }

  -- a negative integer has its bytes
  pub int_short : get_or bytes i 0 < 0x48 → length bytes - i ≤ 0x48 - get_or bytes i 0 → NumberFilled int_bytes 1 bytes i win w (length bytes) win
  unfolding int_bytes neg_bytes
  int_short m l = record { on = h; inside = omega arith; kept = refl; right = λ x rest s e. absurd (go x rest s (ltb x (2 ^ 63)) (ltb_test x (2 ^ 63)) e) }
    where
      go : (x : ℕ) (rest : List ℕ) → x < 2 ^ 64 → (b : Bool) → Test (x < 2 ^ 63) (2 ^ 63 ≤ x) b → drop i bytes ≡ if b (uint_bytes x) (neg_bytes (magnitude x)) ++ rest → ⊥
      go x rest s _ (holds p) e = omega (arith, (uint_at bytes i x rest s e).mark)
      go x rest s _ (fails p) e =
          let d = width (magnitude x) in
          let most : d ≤ 8 = (wide (magnitude x) (omega arith)).most in
          let u = head_at bytes i e in
          let n = ap length u.2 ∙ length-append (be d (2 ^ 64 - 1 - magnitude x)) rest in
          omega (arith, u.0, u.1, n, length_be d (2 ^ 64 - 1 - magnitude x), length-drop (i + 1) bytes)

  pub ref_not : length bytes - (i + 1) < 8 → NumberFilled ref_bytes 4 bytes i win w (length bytes) win
  ref_not l = record { on = h; inside = omega arith; kept = refl; right = λ x rest s e. absurd (omega (arith, (behind_mark bytes i 0x51 8 x rest s e).inside)) }

-- from mark 48 on an integer is unsigned
pub as_int : {bytes : List ℕ} {i : ℕ} {win : List ℕ} {w r : ℕ} {wout : List ℕ} → 0x48 ≤ get_or bytes i 0 → NumberFilled uint_bytes 1 bytes i win w r wout → NumberFilled int_bytes 1 bytes i win w r wout
unfolding int_bytes neg_bytes
as_int {bytes} {i} {win} {w} {r} {wout} m f = record { on = f.on; inside = f.inside; kept = f.kept; right = λ x rest s e. go x rest s (ltb x (2 ^ 63)) (ltb_test x (2 ^ 63)) e }
  where
    go : (x : ℕ) (rest : List ℕ) → x < 2 ^ 64 → (b : Bool) → Test (x < 2 ^ 63) (2 ^ 63 ≤ x) b → drop i bytes ≡ if b (uint_bytes x) (neg_bytes (magnitude x)) ++ rest → (drop r bytes ≡ rest) × (wout ≡ put win w (1 ∷ x ∷ []))
    go x rest s _ (holds p) e = f.right x rest s e
    go x rest s _ (fails p) e =
        let l : magnitude x < 2 ^ 64 = omega arith in
        absurd (omega (arith, (head_at bytes i e).1, width_pos (magnitude x) (omega arith) l))
