-- A run's payload, as a loop writes it: the bytes before the next zero are copied, then the zero is written, until nothing is left.
use Rattle.std.proofs.Common.{◌≡◌, ℕ, ◌+◌, ◌-◌, ◌^◌, ◌<◌, ◌≤◌, List, [], ◌∷◌, length, drop, set, arith}
use lib.Seq.{slice}
use Rattle.format.specs.Fields.{put}
use Rattle.blocks.specs.Zeros.{ZeroFrom}
use Rattle.blocks.proofs.Put.{Left, left_store, left_none}
use Rattle.scalar.specs.Runs.{unescape}
use Rattle.scalar.proofs.Chunks.{unescape_ahead, unescape_copied, unescape_over, unescape_past}

-- from i on the next zero is at z, and what is left to be put from o on makes the whole, t from at on
module _ {s : List ℕ} {i z : ℕ} (f : ZeroFrom s i z) {d₀ : List ℕ} {at : ℕ} {t d : List ℕ} {o : ℕ} where
  module _ (l : Left d₀ at t d o (unescape (drop i s))) (fits : at + length t ≤ length d₀) where
    pub payload_room : o + (z - i) ≤ length d
    payload_room = omega (arith, unescape_ahead s i z f)

    pub payload_place : length d₀ < 2 ^ 64 → o + (z - i) < 2 ^ 64
    payload_place n = omega (arith, payload_room)

    module _ {d' : List ℕ} (p : d' ≡ put d o (slice i z s)) where
      -- a zero is next
      module _ (h : z < length s) where
        payload_zero : Left d₀ at t d' (o + (z - i)) (0 ∷ unescape (drop (z + 2) s))
        payload_zero = rw (unescape_over s i z f h) at (unescape_copied s i z f fits l p)

        pub payload_zero_room : o + (z - i) < length d'
        payload_zero_room = let a = payload_zero in omega arith

        pub payload_on : Left d₀ at t (set d' (o + (z - i)) 0) (o + (z - i) + 1) (unescape (drop (z + 2) s))
        payload_on = left_store fits payload_zero

      -- nothing is left
      module _ (h : length s ≤ z) where
        payload_all : Left d₀ at t d' (o + (z - i)) []
        payload_all = rw (unescape_past s z h) at (unescape_copied s i z f fits l p)

        pub payload_long : length d' ≡ length d₀
        payload_long = payload_all.long

        pub payload_done : (o + (z - i) ≡ at + length t) × (d' ≡ put d₀ at t)
        payload_done = (omega (arith, payload_all.ends), left_none payload_all)

-- all of a payload was written
module _ (s : List ℕ) (i : ℕ) {d₀ : List ℕ} {at : ℕ} {t d : List ℕ} {o : ℕ} (l : Left d₀ at t d o (unescape (drop i s))) (h : length s ≤ i) where
  past : Left d₀ at t d o []
  past = rw (unescape_past s i h) at l

  pub past_ends : o ≡ at + length t
  past_ends = let a = past in omega arith

  pub past_whole : d ≡ put d₀ at t
  past_whole = left_none past
