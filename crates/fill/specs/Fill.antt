-- What the filling walk leaves on the sheet: the words and the pool bytes of whatever value stands in the key from a place on, where there is room for them.
use Rattle.std.specs.Prelude.{◌≡◌, ℕ, ◌+◌, ◌^◌, ◌<◌, ◌≤◌, Bool, true, false, ◌||◌, List, [], ◌∷◌, ◌++◌, length, drop, ◌==◌, nat_lt, slice_index}
use Rattle.format.specs.Answer.{if}
use Rattle.format.specs.Tree.{Ty, Tys, Val, Vals}
use Rattle.format.specs.Sheet.{val_count, val_words, vals_words, val_pool, vals_pool}
use Rattle.format.specs.Scalar.{width, uint_bytes, escaped}
use Rattle.format.specs.Encode.{val_bytes, vals_bytes, fits, fits_all, fine, max_depth}
use Rattle.format.specs.Read.{starts_ff, ends_here}
use Rattle.format.specs.Decode.{Decoded, decode, decode_bare}
use Rattle.format.specs.Calls.{over}
use Rattle.format.specs.Fields.{put}
use Rattle.format.proofs.Sound.{Sound, AllSound}
use Rattle.fill.specs.declared.Filled.{Filled}

-- ---- the calls: the sheet of what the bytes decode to, over the beginnings of both buffers, where they have room

pub record ValueFilled (bytes win pin wout pout : List ℕ) : Type 0 where
  pub fills : (t : Ty) (v : Val) (k : ℕ) → decode t 0 bytes ≡ Decoded.got v [] k → length (val_words v) ≤ length win → length (val_pool v) ≤ length pin
      → (wout ≡ over (val_words v) win) × (pout ≡ over (val_pool v) pin)

pub record BareFilled (bytes win pin wout pout : List ℕ) : Type 0 where
  pub fills : (ts : Tys) (vs : Vals) (k : ℕ) → decode_bare ts bytes ≡ Decoded.got vs [] k → length (val_words (Val.Record vs)) ≤ length win → length (val_pool (Val.Record vs)) ≤ length pin
      → (wout ≡ over (val_words (Val.Record vs)) win) × (pout ≡ over (val_pool (Val.Record vs)) pin)

-- ---- within the crate: numbers

-- the bytes behind an integer's mark
pub record Width (bytes : List ℕ) (i k : ℕ) : Type 0 where
  pub most : k ≤ 8
  pub inside : i + 1 + k ≤ length bytes
  pub right : (x : ℕ) (rest : List ℕ) → x < 2 ^ 64 → drop i bytes ≡ uint_bytes x ++ rest → k ≡ width x

-- whatever number stands at the place, as f writes it
pub record NumberFilled (f : ℕ → List ℕ) (kind : ℕ) (bytes : List ℕ) (i : ℕ) (win : List ℕ) (w r : ℕ) (wout : List ℕ) : Type 0 where
  pub on : i < r
  pub inside : r ≤ length bytes
  pub kept : length wout ≡ length win
  pub right : (x : ℕ) (rest : List ℕ) → x < 2 ^ 64 → drop i bytes ≡ f x ++ rest → (drop r bytes ≡ rest) × (wout ≡ put win w (kind ∷ x ∷ []))

-- ---- within the crate: the walk

-- the sheet that is lent
pub record Lent : Type 0 where
  pub words : List ℕ
  pub pool : List ℕ

abbrev pub lent : (words pool : List ℕ) → Lent
lent words pool = record { words = words; pool = pool }

-- a walk that stands there, with so many fields passed
abbrev pub standing : (next words pool count : ℕ) → Filled
standing next words pool count = record { next = next; words = words; pool = pool; count = count }

-- does a group open by the mark?
abbrev pub opens : ℕ → Bool
opens m = m == 0x22 || m == 0x52

-- what ends the fields: the end of the key, and inside a group the group's
unfoldable pub fields_end : ℕ → List ℕ → Bool
fields_end depth [] = true
fields_end depth (b ∷ bs) = if (nat_lt 0 depth) (ends_here (b ∷ bs)) false

-- how many bytes of the pool a value took that is no group, by its mark and its second word; and so where the walk stands behind it
unfoldable pub taken : ℕ → ℕ → ℕ
taken m x = if (m == 0x21) x (if (m == 0x53) x 0)

abbrev pub behind_leaf : (bytes : List ℕ) (s : Filled) (r : ℕ) (wout : List ℕ) → Filled
behind_leaf bytes s r wout = standing r (s.words + 2) (s.pool + taken (slice_index bytes s.next) (slice_index wout (s.words + 1))) 0

-- behind a group's end, which stands at i
pub record Behind (bytes : List ℕ) (i r : ℕ) : Type 0 where
  pub on : i ≤ r
  pub inside : r ≤ length bytes
  pub right : i < length bytes → r ≡ i + 1

-- the places lie within the key and the sheet; the depth is at most the groups' limit, and one more for each byte before
pub record Ready (bytes : List ℕ) (s : Filled) (depth : ℕ) (a : Lent) : Type 0 where
  pub place : s.next ≤ length bytes
  pub word_in : s.words ≤ length a.words
  pub pool_in : s.pool ≤ length a.pool
  pub deep : depth ≤ s.next + max_depth

-- and so do those behind, not before i
pub record Onward (bytes : List ℕ) (i : ℕ) (a : Lent) (r : Filled) (b : Lent) : Type 0 where
  pub on : i ≤ r.next
  pub inside : r.next ≤ length bytes
  pub word_in : r.words ≤ length a.words
  pub pool_in : r.pool ≤ length a.pool
  pub few : r.count ≤ r.next
  pub kept_words : length b.words ≡ length a.words
  pub kept_pool : length b.pool ≡ length a.pool

-- what was read is behind, and written: the words ws and the pool bytes ps
pub record Done (bytes rest : List ℕ) (s : Filled) (a : Lent) (ws ps : List ℕ) (r : Filled) (b : Lent) : Type 0 where
  pub left : drop r.next bytes ≡ rest
  pub at_words : r.words ≡ s.words + length ws
  pub at_pool : r.pool ≡ s.pool + length ps
  pub written : b.words ≡ put a.words s.words ws
  pub pooled : b.pool ≡ put a.pool s.pool ps

-- whatever run stands behind the mark at the place
pub record RunFilled (kind : ℕ) (bytes : List ℕ) (s : Filled) (a : Lent) (r : ℕ) (b : Lent) : Type 0 where
  pub onward : Onward bytes (s.next + 1) a (standing r (s.words + 2) (s.pool + slice_index b.words (s.words + 1)) 0) b
  pub right : (x rest : List ℕ) → starts_ff rest ≡ false → drop (s.next + 1) bytes ≡ escaped x ++ rest → s.pool + length x ≤ length a.pool
      → Done bytes rest s a (kind ∷ length x ∷ []) x (standing r (s.words + 2) (s.pool + slice_index b.words (s.words + 1)) 0) b

-- whatever value stands at the place and fits some type at the depth
pub record One (bytes : List ℕ) (s : Filled) (depth : ℕ) (a : Lent) (r : Filled) (b : Lent) : Type 0 where
  pub one : (t : Ty) (v : Val) (rest : List ℕ) → fits t depth v ≡ fine → Sound v → starts_ff rest ≡ false → drop s.next bytes ≡ val_bytes depth v ++ rest
      → s.words + length (val_words v) ≤ length a.words → s.pool + length (val_pool v) ≤ length a.pool → Done bytes rest s a (val_words v) (val_pool v) r b

-- and whatever fields up to their end, counted from those passed before
pub record Row (bytes : List ℕ) (s : Filled) (depth : ℕ) (a : Lent) (r : Filled) (b : Lent) : Type 0 where
  pub row : (ts : Tys) (vs : Vals) (rest : List ℕ) → fits_all ts depth vs ≡ fine → AllSound vs → fields_end depth rest ≡ true → drop s.next bytes ≡ vals_bytes depth vs ++ rest
      → s.words + length (vals_words vs) ≤ length a.words → s.pool + length (vals_pool vs) ≤ length a.pool
      → Done bytes rest s a (vals_words vs) (vals_pool vs) r b × (r.count ≡ s.count + val_count vs)

pub record GroupFilled (bytes : List ℕ) (s : Filled) (depth : ℕ) (a : Lent) (r : Filled) (b : Lent) : Type 0 where
  pub onward : Onward bytes (s.next + 1) a r b
  pub says : One bytes s depth a r b

-- a value that is no group and no blank has the same bytes at every depth
pub record LeafFilled (bytes : List ℕ) (s : Filled) (a : Lent) (r : ℕ) (b : Lent) : Type 0 where
  pub onward : Onward bytes (s.next + 1) a (behind_leaf bytes s r b.words) b
  pub says : (depth : ℕ) → One bytes s depth a (behind_leaf bytes s r b.words) b

pub record FieldsFilled (bytes : List ℕ) (s : Filled) (depth : ℕ) (a : Lent) (r : Filled) (b : Lent) : Type 0 where
  pub onward : Onward bytes s.next a r b
  pub says : Row bytes s depth a r b
