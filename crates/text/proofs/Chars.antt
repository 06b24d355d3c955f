-- The character at a place of a list, from its bytes: which they are is given beside them, as the code reads them.
use Prim.Native.Nat.{ℕ, ◌+◌, ◌≤◌, ◌<◌}
use mathlib.Core.List.{List, ◌∷◌}
use mathlib.Core.Bool.{Bool, true, false}
use mathlib.Core.Path.{◌≡◌, sym, ◌∙◌}
use native.Mathlib.Omega.{arith}
use native.Mathlib.Numerals.{add-one}
use lib.ListN.{length, drop, get_or, drop_of_length-le}
use lib.Seq.{drop-cons}
use borrow.Author.Tests.{lt-ltb, le-ltb}
use Rattle.format.specs.Utf8.{char, none, first_char, second, third, fourth, is2, is3, is4, code2, code3, code4}

pub front : (w : List ℕ) (at : ℕ) → at < length w → drop at w ≡ get_or w at 0 ∷ drop (at + 1) w
front w at h = rw (add-one, drop-cons w at 0)

-- the same with a byte that is the one there
begins : (w : List ℕ) (at a : ℕ) → at < length w → a ≡ get_or w at 0 → drop at w ≡ a ∷ drop (at + 1) w
begins w at a h e = rw e (front w at h)

-- what is at the place is none, or one of each width
module _ (w : List ℕ) (at : ℕ) where
  pub none_at : length w ≤ at → none ≡ first_char (drop at w)
  unfolding first_char
  none_at h = rw (drop_of_length-le w h)

  module _ (a : ℕ) (la : at < length w) (ea : a ≡ get_or w at 0) where
    pub one_at : a < 0x80 → {k : ℕ} → k ≡ a → char 1 k ≡ first_char (drop at w)
    unfolding first_char
    one_at h {k} f = rw (begins w at a la ea, lt-ltb a 0x80 h, f)

    module _ (high : 0x80 ≤ a) where
      behind_one : first_char (drop at w) ≡ second a (drop (at + 1) w)
      unfolding first_char
      behind_one = rw (begins w at a la ea, le-ltb a 0x80 high)

      pub cut_two : length w ≤ at + 1 → none ≡ first_char (drop at w)
      unfolding second
      cut_two h = rw (behind_one, drop_of_length-le w h)

      module _ (b : ℕ) (lb : at + 1 < length w) (eb : b ≡ get_or w (at + 1) 0) where
        open_two : first_char (drop at w) ≡ second a (b ∷ drop (at + 1 + 1) w)
        open_two = rw (behind_one, begins w (at + 1) b lb eb)

        pub two_at : {r : Bool} → r ≡ is2 a b → r ≡ true → {k : ℕ} → k ≡ code2 a b → char 2 k ≡ first_char (drop at w)
        unfolding second
        two_at {r} e t {k} f = rw (open_two, sym e ∙ t, f)

        module _ {r : Bool} (e2 : r ≡ is2 a b) (f2 : r ≡ false) where
          behind_two : first_char (drop at w) ≡ third a b (drop (at + 2) w)
          unfolding second
          behind_two = let p : at + 1 + 1 ≡ at + 2 = omega arith in rw (open_two, sym e2 ∙ f2, p)

          pub cut_three : length w ≤ at + 2 → none ≡ first_char (drop at w)
          unfolding third
          cut_three h = rw (behind_two, drop_of_length-le w h)

          module _ (c : ℕ) (lc : at + 2 < length w) (ec : c ≡ get_or w (at + 2) 0) where
            open_three : first_char (drop at w) ≡ third a b (c ∷ drop (at + 2 + 1) w)
            open_three = rw (behind_two, begins w (at + 2) c lc ec)

            pub three_at : {s : Bool} → s ≡ is3 a b c → s ≡ true → {k : ℕ} → k ≡ code3 a b c → char 3 k ≡ first_char (drop at w)
            unfolding third
            three_at {s} e t {k} f = rw (open_three, sym e ∙ t, f)

            module _ {s : Bool} (e3 : s ≡ is3 a b c) (f3 : s ≡ false) where
              behind_three : first_char (drop at w) ≡ fourth a b c (drop (at + 3) w)
              unfolding third
              behind_three = let p : at + 2 + 1 ≡ at + 3 = omega arith in rw (open_three, sym e3 ∙ f3, p)

              pub cut_four : length w ≤ at + 3 → none ≡ first_char (drop at w)
              unfolding fourth
              cut_four h = rw (behind_three, drop_of_length-le w h)

              module _ (d : ℕ) (ld : at + 3 < length w) (ed : d ≡ get_or w (at + 3) 0) {u : Bool} (e4 : u ≡ is4 a b c d) where
                pub four_at : u ≡ true → {k : ℕ} → k ≡ code4 a b c d → char 4 k ≡ first_char (drop at w)
                unfolding fourth
                four_at t {k} f = rw (behind_three, begins w (at + 3) d ld ed, sym e4 ∙ t, f)

                pub not_four : u ≡ false → none ≡ first_char (drop at w)
                unfolding fourth
                not_four t = rw (behind_three, begins w (at + 3) d ld ed, sym e4 ∙ t)
