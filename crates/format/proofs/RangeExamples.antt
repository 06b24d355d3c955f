-- Ends above a prefix, worked by hand: what strinc gives; the ends of two wrong programs, above every string with the prefix and not the least; and why only byte
-- strings compete.
use mathlib.Core.Path.{◌≡◌, refl, ap}
use mathlib.Core.List.{List, [], ◌∷◌, map}
use Prim.Native.Nat.{Ordering}
use Prim.Native.Nat.{ℕ, ◌<◌}
use native.Mathlib.Omega.{arith}
use lib.Dec.{lit<}
use lib.ListN.{length}
use Rattle.format.specs.Answer.{Answer, ok, refused}
use Rattle.format.specs.Order.{cmp_bytes}
use Rattle.format.specs.Bounds.{trimmed, raised, strinc, ByteString, Above, Least}
use Rattle.format.proofs.StrincLaws.{no_bytes, one_more, strinc_least, least_one}

abbrev prefixes : List (List ℕ)
prefixes = (0x0A ∷ 0xFF ∷ []) ∷ (0x41 ∷ []) ∷ (0x0A ∷ 0x0B ∷ []) ∷ (0x00 ∷ 0xFF ∷ 0xFF ∷ []) ∷ (0xFF ∷ []) ∷ [] ∷ []

abbrev ends : List (Answer (List ℕ))
ends = ok (0x0B ∷ []) ∷ ok (0x42 ∷ []) ∷ ok (0x0A ∷ 0x0C ∷ []) ∷ ok (0x01 ∷ []) ∷ refused 19 0 ∷ refused 19 0 ∷ []

pub ends_agree : map strinc prefixes ≡ ends
unfolding strinc trimmed raised
ends_agree = refl

-- an end of another length than strinc's is not the least
no_other : (p q r : List ℕ) → ByteString p → strinc p ≡ ok q → (length r ≡ length q → ⊥) → Least p r → ⊥
no_other p q r h e n l = n (ap length (least_one p r q l (strinc_least p q h e)))

two_bytes : (b c : ℕ) → b < 256 → c < 256 → ByteString (b ∷ c ∷ [])
two_bytes b c h k = one_more b (c ∷ []) h (one_more c [] k no_bytes)

-- a 00 behind: 0B 00 is above all that begins with 0A FF, and so is 0B, which is less
pub not_00_behind : Above (0x0A ∷ 0xFF ∷ []) (0x0B ∷ 0x00 ∷ []) × (Least (0x0A ∷ 0xFF ∷ []) (0x0B ∷ 0x00 ∷ []) → ⊥)
unfolding strinc trimmed raised cmp_bytes
not_00_behind = (λ s hs. refl, no_other (0x0A ∷ 0xFF ∷ []) (0x0B ∷ []) (0x0B ∷ 0x00 ∷ []) (two_bytes 0x0A 0xFF (lit< tt) (lit< tt)) refl (λ z. omega arith))

-- the first byte raised: 0B is above all that begins with 0A 0B, and so is 0A 0C, which is less
pub not_first_raised : Above (0x0A ∷ 0x0B ∷ []) (0x0B ∷ []) × (Least (0x0A ∷ 0x0B ∷ []) (0x0B ∷ []) → ⊥)
unfolding strinc trimmed raised cmp_bytes
not_first_raised = (λ s hs. refl, no_other (0x0A ∷ 0x0B ∷ []) (0x0A ∷ 0x0C ∷ []) (0x0B ∷ []) (two_bytes 0x0A 0x0B (lit< tt) (lit< tt)) refl (λ z. omega arith))

-- among lists of any numbers 42 is not the least end above 41 FF: 41, 256 is above every byte string that begins so, and below 42
pub among_numbers : Above (0x41 ∷ 0xFF ∷ []) (0x41 ∷ 256 ∷ []) × (cmp_bytes (0x42 ∷ []) (0x41 ∷ 256 ∷ []) ≡ Ordering.gt)
unfolding cmp_bytes
among_numbers = (λ s hs. refl, refl)
