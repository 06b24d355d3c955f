-- How many values a whole value holds: what a decoding that gives it has begun.
use Prim.Native.Nat.{ℕ, ◌+◌}
use Rattle.format.specs.Tree.{Val, Vals}

unfoldable mutual
  pub begun : Val → ℕ
  begun Val.Null = 1
  begun (Val.Int w) = 1
  begun (Val.Str s) = 1
  begun (Val.Bytes s) = 1
  begun (Val.Ref r) = 1
  begun (Val.Record vs) = 1 + begun_all vs
  begun (Val.Union d v) = 1 + begun v

  pub begun_all : Vals → ℕ
  begun_all Vals.NoVal = 0
  begun_all (Vals.AddVal v vs) = begun v + begun_all vs
