-- A union's first alternative with a tag: what encoding and decoding a union go by.
use Prim.Native.Nat.{ℕ, ◌+◌}
use mathlib.Core.List.{List}
use mathlib.Core.Bool.{Bool, true, false}
use mathlib.Core.Option.{Option, some, none}
use mathlib.Core.Path.{◌≡◌, refl}
use lib.Dec.{eqb}
use Rattle.format.specs.Answer.{refused, if, UnknownDiscriminant}
use Rattle.format.specs.Tree.{Ty, Alts, Val}
use Rattle.format.specs.Encode.{fits, fits_union, in_union, group_at}
use Rattle.format.specs.Decode.{Decoded, decode, decode_union, after, union_end}

-- the type of the first alternative with a tag, and the alternatives behind it
abbrev pub pick : Bool → Ty → Alts → Option (Ty × Alts) → Option (Ty × Alts)
pick true t us o = some (t, us)
pick false t us o = o

unfoldable pub choose : ℕ → Alts → Option (Ty × Alts)
choose tag Alts.NoAlt = none
choose tag (Alts.AddAlt d t us) = pick (eqb d tag) t us (choose tag us)

-- what a choice makes of a payload's type; nothing was found where there is none
abbrev pub chosen : {A : Type 0} → Option (Ty × Alts) → (Ty → A) → A → A
chosen (some c) f a = f c.0
chosen none f a = a

pick_or : {A : Type 0} (b : Bool) (t : Ty) (us : Alts) (o : Option (Ty × Alts)) (f : Ty → A) (a r : A) → r ≡ chosen o f a → if b (f t) r ≡ chosen (pick b t us o) f a
pick_or true t us o f a r e = refl
pick_or false t us o f a r e = e

-- a union's payload is encoded, and decoded, under the chosen type
pub fits_chosen : (us : Alts) (depth tag : ℕ) (v : Val) → fits_union us depth tag v ≡ chosen (choose tag us) (λ t. in_union tag (group_at depth (fits t (depth + 1) v))) (refused UnknownDiscriminant tag)
unfolding fits choose
fits_chosen Alts.NoAlt depth tag v = refl
fits_chosen (Alts.AddAlt d t us) depth tag v = pick_or (eqb d tag) t us (choose tag us) _ _ (fits_union us depth tag v) (fits_chosen us depth tag v)

pub decode_chosen : (us : Alts) (depth tag : ℕ) (bs : List ℕ) → decode_union us depth tag bs ≡ chosen (choose tag us) (λ t. after 1 (Val.Union tag) (union_end (decode t (depth + 1) bs))) (Decoded.bad UnknownDiscriminant tag 1)
unfolding decode choose
decode_chosen Alts.NoAlt depth tag bs = refl
decode_chosen (Alts.AddAlt d t us) depth tag bs = pick_or (eqb d tag) t us (choose tag us) _ _ (decode_union us depth tag bs) (decode_chosen us depth tag bs)
