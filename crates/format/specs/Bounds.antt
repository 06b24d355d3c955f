-- The ends of ranges of keys: strinc, above_field, and the two ends of the keys with the same first k fields.
use Prim.Native.Nat.{Ordering}
use Rattle.std.specs.Prelude.{ℕ, zero, suc, ◌<◌, ◌≡◌, ◌≢◌, List, [], ◌∷◌, ◌++◌, eqb, get_or}
use Rattle.format.specs.Answer.{if, Answer, ok, refused, NoBound}
use Rattle.format.specs.Tree.{Vals}
use Rattle.format.specs.Encode.{vals_bytes}
use Rattle.format.specs.Order.{cmp_bytes}

-- b in front of what is left, which drops b too where nothing is left and b is FF
abbrev pub before : ℕ → List ℕ → List ℕ
before b [] = if (eqb b 0xFF) [] (b ∷ [])
before b (c ∷ s) = b ∷ c ∷ s

-- without trailing FF
unfoldable pub trimmed : List ℕ → List ℕ
trimmed [] = []
trimmed (b ∷ bs) = before b (trimmed bs)

-- one added to the last byte
unfoldable pub raised : List ℕ → List ℕ
raised [] = []
raised (b ∷ []) = suc b ∷ []
raised (b ∷ c ∷ s) = b ∷ raised (c ∷ s)

abbrev pub raised_or : List ℕ → Answer (List ℕ)
raised_or [] = refused NoBound 0
raised_or (b ∷ bs) = ok (raised (b ∷ bs))

-- strinc drops trailing FF and adds one to the last byte left; where none is left it is NoBound
unfoldable pub strinc : List ℕ → Answer (List ℕ)
strinc p = raised_or (trimmed p)

-- every number of a list is below n
abbrev pub Below : ℕ → List ℕ → Type 0
Below n l = (i : ℕ) → get_or l i 0 < n

-- numbers that are bytes, as the code's u8
abbrev pub ByteString : List ℕ → Type 0
ByteString l = Below 256 l

-- q is above every byte string that begins with p
abbrev pub Above : (p q : List ℕ) → Type 0
Above p q = (s : List ℕ) → ByteString s → cmp_bytes (p ++ s) q ≡ Ordering.lt

-- of all byte strings above every byte string that begins with p, q is the least; strinc's end is (Ranges.StrincTight, theorem strinc_tight)
pub record Least (p q : List ℕ) : Type 0 where
  pub bytes : ByteString q
  pub above : Above p q
  pub least : (r : List ℕ) → ByteString r → Above p r → cmp_bytes q r ≢ Ordering.gt

-- above_field adds FF
abbrev pub above_field : List ℕ → List ℕ
above_field key = key ++ 0xFF ∷ []

-- the first k fields, and those behind them
unfoldable pub firsts : ℕ → Vals → Vals
firsts zero vs = Vals.NoVal
firsts (suc k) Vals.NoVal = Vals.NoVal
firsts (suc k) (Vals.AddVal v vs) = Vals.AddVal v (firsts k vs)

unfoldable pub rests : ℕ → Vals → Vals
rests zero vs = vs
rests (suc k) Vals.NoVal = Vals.NoVal
rests (suc k) (Vals.AddVal v vs) = rests k vs

-- the bytes of the first k fields: these values encoded bare at depth 0
abbrev pub first_bytes : ℕ → Vals → List ℕ
first_bytes k vs = vals_bytes 0 (firsts k vs)

-- a key lies at or above the lower end and below the upper one
pub record Between (low high key : List ℕ) : Type 0 where
  pub from_low : cmp_bytes low key ≢ Ordering.gt
  pub below_high : cmp_bytes key high ≡ Ordering.lt
