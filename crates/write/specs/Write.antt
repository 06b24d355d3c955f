-- What the writing walk leaves in the buffer: the bytes of whatever value stands at its places and fits some type at its depth, where there is room for them; and
-- the zeros that it says were escaped, which are that value's.
use Rattle.std.specs.Prelude.{◌≡◌, List, [], ◌∷◌, ℕ, ◌+◌, ◌^◌, ◌≤◌, eqb, ltb, length}
use Rattle.format.specs.Answer.{if}
use Rattle.format.specs.Scalar.{tag_bytes}
use Rattle.format.specs.Tree.{Ty, Tys, Val, Vals}
use Rattle.format.specs.Sheet.{val_count}
use Rattle.format.specs.ValueSheet.{Proper, AllProper}
use Rattle.format.specs.Encode.{val_bytes, vals_bytes, fits, fits_all, fine, max_depth}
use Rattle.format.specs.Fields.{put}
use Rattle.format.specs.Zeros.{val_zeros, vals_zeros}
use Rattle.format.proofs.ValuePlaces.{ValueIn, ValuesIn}
use Rattle.scalar.specs.declared.runs.Written.{Written}
use Rattle.write.specs.declared.Put.{Put}

-- the bytes stand in the buffer from `at` on, where there is room for them, and r is the place behind
pub record Stored (l : List ℕ) (at : ℕ) (bs : List ℕ) (r : ℕ) (l' : List ℕ) : Type 0 where
  pub inside : r ≤ length l
  pub kept : length l' ≡ length l
  pub right : at + length bs ≤ length l → (r ≡ at + length bs) × (l' ≡ put l at bs)

-- the same of bytes with z zeros escaped in them: all are counted where there is room, and never more
pub record Counted (l : List ℕ) (at : ℕ) (bs : List ℕ) (z : ℕ) (r : Written) (l' : List ℕ) : Type 0 where
  pub stored : Stored l at bs r.end l'
  pub few : r.zeros ≤ z
  pub counted : at + length bs ≤ length l → r.zeros ≡ z

-- a group of a kind and with the second word x: how many values it has, a union one, and the bytes before them (no sheet has a discriminant of 2^32 or more)
abbrev pub group_count : ℕ → ℕ → ℕ
group_count k x = if (eqb k 5) x 1

abbrev pub group_bytes : ℕ → ℕ → List ℕ
group_bytes k x = if (eqb k 5) (0x22 ∷ []) (if (ltb x (2 ^ 32)) (tag_bytes x) [])

-- a walk that stands there, with so many zeros escaped
abbrev pub standing : (word pool at zeros : ℕ) → Put
standing word pool at zeros = record { word = word; pool = pool; at = at; zeros = zeros }

-- the places lie within the sheet and the buffer; the depth is at most the groups' limit, and one more for each word before
pub record Ready (words pool out : List ℕ) (s : Put) (depth : ℕ) : Type 0 where
  pub word_in : s.word ≤ length words
  pub pool_in : s.pool ≤ length pool
  pub at_in : s.at ≤ length out
  pub deep : depth ≤ s.word + max_depth

-- and so do those behind, which are not before it; no more zeros were escaped than bytes of the pool passed
pub record Onward (words pool l : List ℕ) (s r : Put) (l' : List ℕ) : Type 0 where
  pub on : s.word ≤ r.word
  pub few : s.pool + r.zeros ≤ r.pool + s.zeros
  pub word_in : r.word ≤ length words
  pub pool_in : r.pool ≤ length pool
  pub at_in : r.at ≤ length l
  pub kept : length l' ≡ length l

-- the walk stands at e and f with z zeros escaped, and the bytes are written from `at` on
pub record Done (e f at z : ℕ) (l bs : List ℕ) (r : Put) (l' : List ℕ) : Type 0 where
  pub at_word : r.word ≡ e
  pub at_pool : r.pool ≡ f
  pub at_byte : r.at ≡ at + length bs
  pub counted : r.zeros ≡ z
  pub wrote : l' ≡ put l at bs

-- whatever value stands at the places, proper as on an admitted sheet, and fits some type at the depth
pub record One (words pool : List ℕ) (s : Put) (depth : ℕ) (l : List ℕ) (r : Put) (l' : List ℕ) : Type 0 where
  pub one : (t : Ty) (v : Val) (e f : ℕ) → fits t depth v ≡ fine → Proper v → ValueIn words pool s.word s.pool v e f → s.at + length (val_bytes depth v) ≤ length l
      → Done e f s.at (val_zeros v + s.zeros) l (val_bytes depth v) r l'

-- and whatever n values in a row
pub record Row (words pool : List ℕ) (s : Put) (n depth : ℕ) (l : List ℕ) (r : Put) (l' : List ℕ) : Type 0 where
  pub row : (ts : Tys) (vs : Vals) (e f : ℕ) → fits_all ts depth vs ≡ fine → AllProper vs → n ≡ val_count vs → ValuesIn words pool s.word s.pool vs e f
      → s.at + length (vals_bytes depth vs) ≤ length l → Done e f s.at (vals_zeros vs + s.zeros) l (vals_bytes depth vs) r l'

pub record WroteValue (words pool : List ℕ) (s : Put) (depth : ℕ) (l : List ℕ) (r : Put) (l' : List ℕ) : Type 0 where
  pub onward : Onward words pool l s r l'
  pub says : One words pool s depth l r l'

pub record WroteFields (words pool : List ℕ) (s : Put) (n depth : ℕ) (l : List ℕ) (r : Put) (l' : List ℕ) : Type 0 where
  pub onward : Onward words pool l s r l'
  pub says : Row words pool s n depth l r l'
