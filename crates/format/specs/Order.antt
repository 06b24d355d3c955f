-- The order of values, as Value::cmp, and of byte strings.
use Prim.Native.Nat.{ℕ, ◌+◌, ◌%◌, ◌^◌, compare, Ordering}
use Rattle.std.specs.Prelude.{List, [], ◌∷◌}
use Rattle.format.specs.Tree.{Val, Vals, number_in, run_in, fields_in, payload_in}

-- the first comparison that decides
abbrev pub then : Ordering → Ordering → Ordering
then Ordering.lt o = Ordering.lt
then Ordering.eq o = o
then Ordering.gt o = Ordering.gt

-- bytes compare at the first that differs, else the shorter comes first
unfoldable pub cmp_bytes : List ℕ → List ℕ → Ordering
cmp_bytes [] [] = Ordering.eq
cmp_bytes [] (b ∷ bs) = Ordering.lt
cmp_bytes (a ∷ as₁) [] = Ordering.gt
cmp_bytes (a ∷ as₁) (b ∷ bs) = then (compare a b) (cmp_bytes as₁ bs)

-- words of integers compare signed: as they do with the top bit flipped
abbrev pub offset : ℕ → ℕ
offset w = (w + 2 ^ 63) % 2 ^ 64

-- the kinds in their order, Null, Str, Record, Int, Reference, Union, Bytes: each by its least mark, as in the Rust
abbrev pub rank : Val → ℕ
rank Val.Null = 0x00
rank (Val.Str s) = 0x21
rank (Val.Record vs) = 0x22
rank (Val.Int w) = 0x40
rank (Val.Ref r) = 0x51
rank (Val.Union d v) = 0x52
rank (Val.Bytes s) = 0x53

-- by kind; then signed, bytewise, raw, field by field with the shorter first, or discriminant and payload
unfoldable mutual
  pub cmp_val : Val → Val → Ordering
  cmp_val Val.Null b = compare (rank Val.Null) (rank b)
  cmp_val (Val.Str s) b = then (compare (rank (Val.Str s)) (rank b)) (cmp_bytes s (run_in b))
  cmp_val (Val.Record vs) b = then (compare (rank (Val.Record vs)) (rank b)) (cmp_vals vs (fields_in b))
  cmp_val (Val.Int w) b = then (compare (rank (Val.Int w)) (rank b)) (compare (offset w) (offset (number_in b)))
  cmp_val (Val.Ref r) b = then (compare (rank (Val.Ref r)) (rank b)) (compare r (number_in b))
  cmp_val (Val.Union d v) b = then (compare (rank (Val.Union d v)) (rank b)) (then (compare d (number_in b)) (cmp_val v (payload_in b)))
  cmp_val (Val.Bytes s) b = then (compare (rank (Val.Bytes s)) (rank b)) (cmp_bytes s (run_in b))

  pub cmp_vals : Vals → Vals → Ordering
  cmp_vals Vals.NoVal Vals.NoVal = Ordering.eq
  cmp_vals Vals.NoVal (Vals.AddVal v vs) = Ordering.lt
  cmp_vals (Vals.AddVal v vs) Vals.NoVal = Ordering.gt
  cmp_vals (Vals.AddVal v vs) (Vals.AddVal u us) = then (cmp_val v u) (cmp_vals vs us)
