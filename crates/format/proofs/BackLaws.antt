-- What is read of an integer, a run or a reference is what is written of it: their bytes are canonical.
use mathlib.Core.Path.{◌≡◌, refl, sym, ap, ◌∙◌}
use mathlib.Core.Logic.{◌≢◌}
use mathlib.Core.Bool.{Bool, true}
use mathlib.Core.List.{List, [], ◌∷◌, ◌++◌}
use Prim.Native.Nat.{ℕ, zero, suc, ◌+◌, ◌-◌, ◌*◌, ◌/◌, ◌%◌, ◌^◌, ◌≤◌, ◌<◌}
use native.Mathlib.Nat.{le_trans, pow-suc, pow-succ', pow-le-pow_right, mul-le-mul_right, div-eq_of_lt-le, div-div-eq-div-mul, div-one}
use native.Mathlib.Omega.{arith}
use lib.Dec.{ltb, leb, eqb, lit<}
use lib.ListN.{length, take, drop, take-append-drop}
use lib.Seq.{length-take-le}
use Rattle.format.specs.Answer.{Answer, ok, refused, if, BadString, Overflow, Underflow}
use Rattle.format.specs.Utf8.{utf8}
use Rattle.format.specs.Scalar.{be, width, uint_bytes, neg_bytes, int_bytes, escaped, str_bytes, bytes_bytes, ref_bytes}
use Rattle.format.specs.Encode.{fits_ref, fine}
use Rattle.format.specs.Read.{Read, then_read, number, get_big, width_is, get_uint, get_neg, get_int, cons_read, get_run, after_zero, get_str, get_bytes, get_ref, ref_read, marked}
use Rattle.format.proofs.Bytes.{AllBytes, bytes_before}
use Rattle.format.proofs.Tests.{Test, holds, fails, leb_test, ltb_test, eqb_test, bool_test, ltb_yes, ltb_no, eqb_no, passed, failed}
use Rattle.format.proofs.ScalarLaws.{wide, neg_low}

-- ---- readers taken apart

pub bad_got : {A : Type 0} {n d : ℕ} {a : A} {r : List ℕ} → Read.bad n d ≡ Read.got a r → ⊥
bad_got e = let z : ◌≡◌ {A = ℕ} 0 1 = cc in omega arith

pub then_got : {A B : Type 0} (m : Read A) (f : A → List ℕ → Read B) {b : B} {r : List ℕ} → then_read m f ≡ Read.got b r
    → (a : A) × (s : List ℕ) × (m ≡ Read.got a s) × (f a s ≡ Read.got b r)
then_got (Read.got a s) f e = (a, s, refl, e)
then_got (Read.bad n d) f e = absurd (bad_got e)

pub cons_got : (b : ℕ) (m : Read (List ℕ)) {s r : List ℕ} → cons_read b m ≡ Read.got s r → (t : List ℕ) × (m ≡ Read.got t r) × (s ≡ b ∷ t)
cons_got b (Read.got t r) e = (t, cc, cc)
cons_got b (Read.bad n d) e = absurd (bad_got e)

pub marked_got : {A : Type 0} (mark : ℕ) (f : List ℕ → Read A) (bs : List ℕ) {a : A} {r : List ℕ} → marked mark f bs ≡ Read.got a r
    → (rest : List ℕ) × (bs ≡ mark ∷ rest) × (f rest ≡ Read.got a r)
marked_got mark f [] e = absurd (bad_got e)
marked_got mark f (m ∷ bs) e = let h = passed _ _ (eqb_test m mark) bad_got e in (bs, ap (λ (x : ℕ). x ∷ bs) h.0, h.1)

-- ---- numbers

number_ge : (a : ℕ) (xs : List ℕ) → a * 256 ^ length xs ≤ number a xs
unfolding number
number_ge a [] = omega arith
number_ge a (b ∷ xs) = rw (pow-suc 256 (length xs)) (omega (arith, number_ge (a * 256 + b) xs))

number_lt : (a : ℕ) (xs : List ℕ) → AllBytes xs → number a xs < (a + 1) * 256 ^ length xs
unfolding number
number_lt a [] h = omega arith
number_lt a (b ∷ xs) h =
    let l : a * 256 + b + 1 ≤ a * 256 + 256 = omega (arith, h.0) in
    rw (pow-suc 256 (length xs)) (omega (arith, number_lt (a * 256 + b) xs h.1, mul-le-mul_right (256 ^ length xs) l))

pub be_cons : (k n : ℕ) → be (suc k) n ≡ (n / 256 ^ k % 256) ∷ be k n
unfolding be
be_cons zero n = rw div-one
be_cons (suc k) n = rw (be_cons k (n / 256), div-div-eq-div-mul, ← (pow-succ' 256 k))

be_number : (a : ℕ) (xs : List ℕ) → AllBytes xs → be (length xs) (number a xs) ≡ xs
unfolding number be
be_number a [] h = refl
be_number a (b ∷ xs) h =
    let e : (a * 256 + b) % 256 ≡ b = omega (arith, h.0) in
    be_cons (length xs) (number (a * 256 + b) xs)
    ∙ rw (div-eq_of_lt-le {k = a * 256 + b} (256 ^ length xs) (number_ge (a * 256 + b) xs) (number_lt (a * 256 + b) xs h.1), e, be_number (a * 256 + b) xs h.1)

-- w bytes read as a number
pub big_back : (w : ℕ) (bs : List ℕ) {n : ℕ} {r : List ℕ} → AllBytes bs → get_big w bs ≡ Read.got n r → (bs ≡ be w n ++ r) × (n < 256 ^ w)
unfolding get_big
big_back w bs {n} {r} h e =
    let p = passed _ _ (leb_test w (length bs)) bad_got e in
    let l : length (take w bs) ≡ w = length-take-le w bs p.0 in
    let en : number 0 (take w bs) ≡ n = cc p.1 in
    let er : drop w bs ≡ r = cc p.1 in
    let t : AllBytes (take w bs) = bytes_before w bs h in
    let q : be w n ≡ take w bs = rw (l, en) at (be_number 0 (take w bs) t) in
    (sym (take-append-drop w bs) ∙ rw (er, q), omega (arith, rw (l, en) at (number_lt 0 (take w bs) t)))

pub width_back : (w n : ℕ) (s : List ℕ) {m : ℕ} {r : List ℕ} → width_is w n s ≡ Read.got m r → (width m ≡ w) × (n ≡ m) × (s ≡ r)
unfolding width_is
width_back w n s {m} {r} e =
    let p = passed _ _ (eqb_test (width n) w) bad_got e in
    let en : n ≡ m = cc p.1 in
    (rw en at p.0, en, cc p.1)

pub uint_back : (bs : List ℕ) {n : ℕ} {r : List ℕ} → AllBytes bs → get_uint bs ≡ Read.got n r → (bs ≡ uint_bytes n ++ r) × (n < 2 ^ 64)
unfolding get_uint uint_bytes
uint_back [] h e = absurd (bad_got e)
uint_back (m ∷ bs) {n} {r} h e =
    let p = failed _ _ (ltb_test m 0x48) bad_got e in
    let q = passed _ _ (leb_test m 0x50) bad_got p.1 in
    let g = then_got (get_big (m - 0x48) bs) (λ k rest. width_is (m - 0x48) k rest) q.1 in
    let w = width_back (m - 0x48) g.0 g.1 g.3 in
    let b = big_back (m - 0x48) bs h.1 g.2 in
    let em : 0x48 + width n ≡ m = omega (arith, w.0, p.0) in
    let eb : bs ≡ be (width n) n ++ r = rw w.0 (rw (w.1, w.2) at b.0) in
    let k : m - 0x48 ≤ 8 = omega (arith, q.0) in
    (rw (em, eb), le_trans (rw w.1 at b.1) (pow-le-pow_right (lit< tt) k))

-- the magnitude behind a negative mark
neg_back : (w : ℕ) (bs : List ℕ) {m : ℕ} {r : List ℕ} → w ≤ 8 → AllBytes bs → get_neg w bs ≡ Read.got m r
    → (width m ≡ w) × (bs ≡ be (width m) (2 ^ 64 - 1 - m) ++ r) × (m < 256 ^ w)
unfolding get_neg
neg_back w bs {m} {r} k h e =
    let g = then_got (get_big w bs) (λ n rest. width_is w (256 ^ w - 1 - n) rest) e in
    let v = width_back w (256 ^ w - 1 - g.0) g.1 g.3 in
    let b = big_back w bs h g.2 in
    let l : g.0 < 256 ^ w = b.1 in
    let en : 256 ^ w - 1 - m ≡ g.0 = omega (arith, v.1) in
    let lm : m < 256 ^ w = omega (arith, v.1) in
    (v.0, rw (v.0, neg_low w m k lm, en) (rw v.2 at b.0), lm)

pub int_back : (bs : List ℕ) {w : ℕ} {r : List ℕ} → AllBytes bs → get_int bs ≡ Read.got w r → (bs ≡ int_bytes w ++ r) × (w < 2 ^ 64)
unfolding get_int int_bytes neg_bytes
int_back [] h e = absurd (bad_got e)
int_back (m ∷ bs) {w} {r} h e = let p = failed _ _ (ltb_test m 0x40) bad_got e in go (ltb m 0x48) (ltb_test m 0x48) p.0 p.1
  where
    go : (b : Bool) → Test (m < 0x48) (0x48 ≤ m) b → 0x40 ≤ m
        → if b (then_read (get_neg (0x48 - m) bs) (λ mag rest. if (leb mag (2 ^ 63)) (Read.got (2 ^ 64 - mag) rest) (Read.bad Underflow 0))) (then_read (get_uint (m ∷ bs)) (λ n rest. if (ltb n (2 ^ 63)) (Read.got n rest) (Read.bad Overflow 0))) ≡ Read.got w r
        → (m ∷ bs ≡ int_bytes w ++ r) × (w < 2 ^ 64)
    go _ (holds l) l₂ f =
        let g = then_got (get_neg (0x48 - m) bs) (λ mag rest. if (leb mag (2 ^ 63)) (Read.got (2 ^ 64 - mag) rest) (Read.bad Underflow 0)) f in
        let p = passed _ _ (leb_test g.0 (2 ^ 63)) bad_got g.3 in
        let most : g.0 ≤ 2 ^ 63 = p.0 in
        let en : 2 ^ 64 - g.0 ≡ w = cc p.1 in
        let er : g.1 ≡ r = cc p.1 in
        let b = neg_back (0x48 - m) bs (omega arith) h.1 g.2 in
        let wd : width g.0 ≡ 0x48 - m = b.0 in
        let pos : 1 ≤ g.0 = (wide g.0 (omega arith)).filled 0 (omega arith) in
        let mag : 2 ^ 64 - w ≡ g.0 = omega arith in
        let em : 0x48 - width g.0 ≡ m = omega arith in
        (rw (ltb_no w (2 ^ 63) (omega arith), mag, em) (ap (λ (x : List ℕ). m ∷ x) (rw er at b.1)), omega arith)
    go _ (fails l) l₂ f =
        let g = then_got (get_uint (m ∷ bs)) (λ n rest. if (ltb n (2 ^ 63)) (Read.got n rest) (Read.bad Overflow 0)) f in
        let p = passed _ _ (ltb_test g.0 (2 ^ 63)) bad_got g.3 in
        let en : g.0 ≡ w = cc p.1 in
        let er : g.1 ≡ r = cc p.1 in
        let b = uint_back (m ∷ bs) h g.2 in
        (rw (ltb_yes w (2 ^ 63) (rw en at p.0)) (rw (en, er) at b.0), rw en at b.1)

-- ---- runs

mutual
  unfolding get_run escaped

  pub run_back : (bs s r : List ℕ) → get_run bs ≡ Read.got s r → bs ≡ escaped s ++ r
  run_back [] s r e = absurd (bad_got e)
  run_back (b ∷ bs) s r e = go (eqb b 0) (eqb_test b 0) e (λ t z f. zero_back bs t z f) (λ t z f. run_back bs t z f)
    where
      go : (c : Bool) → Test (b ≡ 0) (b ≢ 0) c → if c (after_zero bs) (cons_read b (get_run bs)) ≡ Read.got s r
          → ((t z : List ℕ) → after_zero bs ≡ Read.got t z → 0 ∷ bs ≡ escaped t ++ z) → ((t z : List ℕ) → get_run bs ≡ Read.got t z → bs ≡ escaped t ++ z)
          → b ∷ bs ≡ escaped s ++ r
      go _ (holds p) f zb rb = rw p (zb s r f)
      go _ (fails p) f zb rb = let g = cons_got b (get_run bs) f in rw (g.2, eqb_no b 0 p) (ap (λ (x : List ℕ). b ∷ x) (rb g.0 r g.1))

  pub zero_back : (bs s r : List ℕ) → after_zero bs ≡ Read.got s r → 0 ∷ bs ≡ escaped s ++ r
  zero_back [] s r e = let es : s ≡ [] = cc in let er : r ≡ [] = cc in rw (es, er)
  zero_back (c ∷ bs) s r e = go (eqb c 0xFF) (eqb_test c 0xFF) e (λ t z f. run_back bs t z f)
    where
      go : (b : Bool) → Test (c ≡ 0xFF) (c ≢ 0xFF) b → if b (cons_read 0 (get_run bs)) (Read.got [] (c ∷ bs)) ≡ Read.got s r
          → ((t z : List ℕ) → get_run bs ≡ Read.got t z → bs ≡ escaped t ++ z) → 0 ∷ c ∷ bs ≡ escaped s ++ r
      go _ (holds p) f rb = let g = cons_got 0 (get_run bs) f in rw (g.2, p) (ap (λ (x : List ℕ). 0 ∷ 0xFF ∷ x) (rb g.0 r g.1))
      go _ (fails p) f rb = let es : s ≡ [] = cc in let er : r ≡ c ∷ bs = cc in rw (es, er)

-- a run of bytes from bytes
pub run_bytes : (s r : List ℕ) → AllBytes (escaped s ++ r) → AllBytes s
unfolding escaped
run_bytes [] r h = tt
run_bytes (b ∷ s) r h = go (eqb b 0) (eqb_test b 0) h (run_bytes s r)
  where
    go : (c : Bool) → Test (b ≡ 0) (b ≢ 0) c → AllBytes (if c (0 ∷ 0xFF ∷ escaped s) (b ∷ escaped s) ++ r) → (AllBytes (escaped s ++ r) → AllBytes s)
        → AllBytes (b ∷ s)
    go _ (holds p) g rest = (rw p (lit< tt), rest g.1.1)
    go _ (fails p) g rest = (g.0, rest g.1)

pub str_back : (bs s r : List ℕ) → get_str bs ≡ Read.got s r → (bs ≡ str_bytes s ++ r) × (utf8 s ≡ true)
unfolding get_str
str_back bs s r e =
    let g = marked_got 0x21 (λ b. then_read (get_run b) (λ t rest. if (utf8 t) (Read.got t rest) (Read.bad BadString 0))) bs e in
    let h = then_got (get_run g.0) (λ t rest. if (utf8 t) (Read.got t rest) (Read.bad BadString 0)) g.2 in
    let p = passed _ _ (bool_test (utf8 h.0)) bad_got h.3 in
    let es : h.0 ≡ s = cc p.1 in
    let er : h.1 ≡ r = cc p.1 in
    (rw g.1 (ap (λ (x : List ℕ). 0x21 ∷ x) (rw (es, er) at (run_back g.0 h.0 h.1 h.2))), rw es at p.0)

pub bytes_back : (bs s r : List ℕ) → get_bytes bs ≡ Read.got s r → bs ≡ bytes_bytes s ++ r
unfolding get_bytes
bytes_back bs s r e = let g = marked_got 0x53 get_run bs e in rw g.1 (ap (λ (x : List ℕ). 0x53 ∷ x) (run_back g.0 s r g.2))

ref_got : (q : ℕ) (rest : List ℕ) (a : Answer Unit) {n : ℕ} {r : List ℕ} → ref_read q rest a ≡ Read.got n r → (a ≡ fine) × (q ≡ n) × (rest ≡ r)
ref_got q rest (ok u) e = (refl, cc, cc)
ref_got q rest (refused n d) e = absurd (bad_got e)

pub ref_back : (p : ℕ) (bs : List ℕ) (q : ℕ) (r : List ℕ) → AllBytes bs → get_ref p bs ≡ Read.got q r
    → (bs ≡ ref_bytes q ++ r) × (q < 2 ^ 64) × (fits_ref p q ≡ fine)
unfolding get_ref
ref_back p bs q r h e =
    let g = marked_got 0x51 (λ b. then_read (get_big 8 b) (λ n rest. ref_read n rest (fits_ref p n))) bs e in
    let t = then_got (get_big 8 g.0) (λ n rest. ref_read n rest (fits_ref p n)) g.2 in
    let f = ref_got t.0 t.1 (fits_ref p t.0) t.3 in
    let b = big_back 8 g.0 (rw g.1 at h).1 t.2 in
    (rw g.1 (ap (λ (x : List ℕ). 0x51 ∷ x) (rw (f.1, f.2) at b.0)), rw f.1 at b.1, rw f.1 at f.0)
