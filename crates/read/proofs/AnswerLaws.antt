-- A walk's answer against the definition's: how it is made, what it says, and how it is part of more.
use mathlib.Core.Path.{◌≡◌, refl, sym, ap, ◌∙◌}
use mathlib.Core.Bool.{Bool}
use mathlib.Core.List.{List}
use Prim.Native.Nat.{ℕ, ◌+◌, ◌*◌, ◌^◌, ◌≤◌, ◌<◌}
use native.Mathlib.Nat.{zero-add, add_assoc}
use native.Mathlib.Omega.{arith}
use lib.ListN.{drop}
use Rattle.std.specs.Prelude.{Result, Ok, Err}
use Rattle.format.specs.Refusals.{number_of, detail_of}
use Rattle.format.specs.Decode.{Decoded, after}
use Rattle.format.specs.Calls.{Sizes}
use Rattle.read.specs.Walk.{Well, Walks, well, ill, good, bad, plus, Small, InKey}
use Rattle.read.specs.declared.Walked.{Walked}
use Rattle.read.specs.declared.Refused.{Refused}

-- what a good answer says
pub record Says {A : Type 0} (g : A → Sizes) (bytes : List ℕ) (i : ℕ) (asked : Bool) (end most : ℕ) (D : Decoded A) (x : Walked) : Type 0 where
  pub a : A
  pub is : D ≡ Decoded.got a (drop x.next bytes) x.begun
  pub so : Well bytes i asked end most (g a) (drop x.next bytes) x

module _ {A : Type 0} {g : A → Sizes} {bytes : List ℕ} {i : ℕ} {asked : Bool} {end most : ℕ} where
  -- a refusal, and a good answer, that the definition gives too
  pub refuse : {D : Decoded A} {f : Refused} → D ≡ Decoded.bad (number_of f.why) (detail_of f.why) f.begun → f.begun ≤ most → Walks g bytes i asked end most (Err f) D
  refuse e h = rw e (ill h)

  pub accept : {D : Decoded A} {x : Walked} → Says g bytes i asked end most D x → Walks g bytes i asked end most (Ok x) D
  accept s = rw s.is (well s.so)

  -- the other way round
  pub bad_says : {D : Decoded A} {f : Refused} → Walks g bytes i asked end most (Err f) D → (D ≡ Decoded.bad (number_of f.why) (detail_of f.why) f.begun) × (f.begun ≤ most)
  bad_says (ill h) = (refl, h)

  pub good_says : {D : Decoded A} {x : Walked} → Walks g bytes i asked end most (Ok x) D → Says g bytes i asked end most D x
  good_says (well {w = x} {a = a} h) = record {
    a = a;
    is = ap (λ (l : List ℕ). Decoded.got a l x.begun) (sym h.left);
    so = record { behind = h.behind; left = refl; words_are = h.words_are; pool_is = h.pool_is; place = h.place; short = h.short; few = h.few; small = h.small };
  }

  -- under a type of more words
  pub wider : {r : Result Walked Refused} {D : Decoded A} {most' : ℕ} → most ≤ most' → Walks g bytes i asked end most r D → Walks g bytes i asked end most' r D
  wider l (well h) =
      well
      (record {
        behind = h.behind;
        left = h.left;
        words_are = h.words_are;
        pool_is = h.pool_is;
        place = h.place;
        short = h.short;
        few = omega (arith, h.few);
        small = omega (arith, h.small);
      })
  wider l (ill h) = ill (omega arith)

  -- sums over an answer are not too large
  pub is_small : {r : Result Walked Refused} {D : Decoded A} → Walks g bytes i asked end most r D → most < 2 ^ 61 → Small r
  is_small (well h) m = (omega (arith, h.small), omega (arith, h.few))
  is_small (ill h) m = omega arith

  pub in_key_lem : {r : Result Walked Refused} {D : Decoded A} → Walks g bytes i asked end most r D → InKey bytes r
  in_key_lem (well h) = h.place
  in_key_lem (ill h) = tt

-- what was read is put into more: w words, p pool bytes and k values begun stand before it
pub plus_law : {A B : Type 0} {g : A → Sizes} {g' : B → Sizes} (φ : A → B) (w p k : ℕ) {bytes : List ℕ} {i i1 : ℕ} {asked : Bool} {end most most' : ℕ} {r : Result Walked Refused} {D : Decoded A}
    → ((a : A) → ((g' (φ a)).words ≡ w + (g a).words) × ((g' (φ a)).pool ≡ p + (g a).pool)) → i + p ≤ i1 → k + most ≤ most' → w + 2 * most ≤ 2 * most'
    → Walks g bytes i1 asked end most r D → Walks g' bytes i asked end most' (plus w p k r) (after k φ D)
plus_law φ w p k eg low hk hw (well {w = x} {a = a} h) =
    well {w = good x.at x.next (w + x.words) (p + x.pool) (k + x.begun)} {a = φ a}
    (record {
      behind = h.behind;
      left = h.left;
      words_are = omega (arith, (eg a).0, h.words_are);
      pool_is = omega (arith, (eg a).1, h.pool_is);
      place = h.place;
      short = omega (arith, h.short);
      few = omega (arith, h.few);
      small = omega (arith, h.small);
    })
plus_law φ w p k eg low hk hw (ill {f = f} h) = ill {f = bad f.why (k + f.begun)} (omega arith)

pub plus_plus : (w p b w1 p1 b1 : ℕ) (r : Result Walked Refused) → plus w p b (plus w1 p1 b1 r) ≡ plus (w + w1) (p + p1) (b + b1) r
plus_plus w p b w1 p1 b1 (Ok x) = λ j. Ok (good x.at x.next (sym (add_assoc w w1 x.words) j) (sym (add_assoc p p1 x.pool) j) (sym (add_assoc b b1 x.begun) j))
plus_plus w p b w1 p1 b1 (Err f) = ap (λ (k : ℕ). Err (bad f.why k)) (sym (add_assoc b b1 f.begun))

pub plus_zero : (r : Result Walked Refused) → r ≡ plus 0 0 0 r
plus_zero (Ok x) = λ j. Ok (good x.at x.next (sym (zero-add x.words) j) (sym (zero-add x.pool) j) (sym (zero-add x.begun) j))
plus_zero (Err f) = ap (λ (k : ℕ). Err (bad f.why k)) (sym (zero-add f.begun))
