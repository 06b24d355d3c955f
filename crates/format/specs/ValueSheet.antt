-- A value sheet: the tree that its words and its pool write down, if they are admitted. Words are u64 and the pool is bytes: the code's types.
use Rattle.std.specs.Prelude.{ℕ, zero, suc, ◌≤◌, ◌<◌, ◌^◌, max, List, [], ◌∷◌, Bool, true, false, ◌&&◌, ◌≡◌, leb, ltb, length, take, drop}
use Rattle.std.proofs.Math.Option.{Option, some, none}
use Rattle.format.specs.Tree.{Val, Vals}
use Rattle.format.specs.Sheet.{val_words, val_pool}
use Rattle.format.specs.Utf8.{utf8}
use Rattle.format.specs.TypeSheet.{keep, max_groups}

-- a value has at most 1,048,576 words, and as many bytes of pool
abbrev pub max_value_words : ℕ
max_value_words = 1048576

-- what was read, and the words and the pool behind it; or nothing
pub data Parts (A : Type 0) : Type 0 where
  got : A → List ℕ → List ℕ → Parts A
  no : Parts A

abbrev pub map : {A B : Type 0} → (A → B) → Parts A → Parts B
map f (got a r b) = got (f a) r b
map f no = no

abbrev pub after : {A B : Type 0} → Parts A → (A → List ℕ → List ℕ → Parts B) → Parts B
after (got a r b) f = f a r b
after no f = no

abbrev pub only : {A : Type 0} → Bool → Parts A → Parts A
only true q = q
only false q = no

-- the next n bytes of the pool, where they pass a test
abbrev pub bytes : (List ℕ → Val) → (List ℕ → Bool) → ℕ → List ℕ → List ℕ → Parts Val
bytes f t n r b = only (leb n (length b) && t (take n b)) (got (f (take n b)) r (drop n b))

abbrev pub any : List ℕ → Bool
any s = true

-- one value, where f reads n fields and h reads a union's payload
unfoldable pub one_value : (ℕ → List ℕ → List ℕ → Parts Vals) → (List ℕ → List ℕ → Parts Val) → List ℕ → List ℕ → Parts Val
one_value f h [] b = no
one_value f h (zero ∷ r) b = got Val.Null r b
one_value f h (suc zero ∷ []) b = no
one_value f h (suc zero ∷ x ∷ r) b = got (Val.Int x) r b
one_value f h (suc (suc zero) ∷ []) b = no
one_value f h (suc (suc zero) ∷ x ∷ r) b = bytes Val.Str utf8 x r b
one_value f h (suc (suc (suc zero)) ∷ []) b = no
one_value f h (suc (suc (suc zero)) ∷ x ∷ r) b = bytes Val.Bytes any x r b
one_value f h (suc (suc (suc (suc zero))) ∷ []) b = no
one_value f h (suc (suc (suc (suc zero))) ∷ x ∷ r) b = got (Val.Ref x) r b
one_value f h (suc (suc (suc (suc (suc zero)))) ∷ []) b = no
one_value f h (suc (suc (suc (suc (suc zero)))) ∷ x ∷ r) b = map Val.Record (f x r b)
one_value f h (suc (suc (suc (suc (suc (suc zero))))) ∷ []) b = no
one_value f h (suc (suc (suc (suc (suc (suc zero))))) ∷ x ∷ r) b = only (ltb x (2 ^ 32)) (map (Val.Union x) (h r b))
one_value f h (suc (suc (suc (suc (suc (suc (suc k)))))) ∷ r) b = no

-- n values, one after the other, each read by p
unfoldable pub values : (List ℕ → List ℕ → Parts Val) → ℕ → List ℕ → List ℕ → Parts Vals
values p zero r b = got Vals.NoVal r b
values p (suc n) r b = after (p r b) (λ v s c. map (Vals.AddVal v) (values p n s c))

-- the value at the front, of at most g groups in one another
unfoldable pub value_at : ℕ → List ℕ → List ℕ → Parts Val
value_at zero w b = one_value (λ n r c. no) (λ r c. no) w b
value_at (suc g) w b = one_value (values (value_at g)) (value_at g) w b

-- how many groups stand in one another
unfoldable mutual
  pub nesting : Val → ℕ
  nesting Val.Null = 0
  nesting (Val.Int x) = 0
  nesting (Val.Str s) = 0
  nesting (Val.Bytes s) = 0
  nesting (Val.Ref x) = 0
  nesting (Val.Record vs) = suc (nestings vs)
  nesting (Val.Union d v) = suc (nesting v)

  pub nestings : Vals → ℕ
  nestings Vals.NoVal = 0
  nestings (Vals.AddVal v vs) = max (nesting v) (nestings vs)

-- every Str is text, and every discriminant is below 2^32
unfoldable mutual
  pub Proper : Val → Type 0
  Proper Val.Null = Unit {0}
  Proper (Val.Int x) = Unit {0}
  Proper (Val.Str s) = utf8 s ≡ true
  Proper (Val.Bytes s) = Unit {0}
  Proper (Val.Ref x) = Unit {0}
  Proper (Val.Record vs) = AllProper vs
  Proper (Val.Union d v) = (d < 2 ^ 32) × Proper v

  pub AllProper : Vals → Type 0
  AllProper Vals.NoVal = Unit {0}
  AllProper (Vals.AddVal v vs) = Proper v × AllProper vs

abbrev pub whole : {A : Type 0} → Parts A → Option A
whole (got a [] []) = some a
whole (got a [] (y ∷ b)) = none
whole (got a (x ∷ r) b) = none
whole no = none

-- the value of an admitted sheet: words and pool used up exactly, known kinds, text where it says text, within the limits
unfoldable pub value_of : List ℕ → List ℕ → Option Val
value_of w b = keep (leb (length w) max_value_words && leb (length b) max_value_words) (whole (value_at max_groups w b))

-- w and b are the admitted sheet of v
pub record Admitted (w b : List ℕ) (v : Val) : Type 0 where
  pub words : val_words v ≡ w
  pub pool : val_pool v ≡ b
  pub proper : Proper v
  pub deep : nesting v ≤ max_groups
  pub long : length w ≤ max_value_words
  pub large : length b ≤ max_value_words
