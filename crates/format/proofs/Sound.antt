-- Values as a sheet can hold them: words of 64 bits, runs of bytes, strings in UTF-8. Every law about values takes its values so.
use mathlib.Core.Path.{◌≡◌}
use mathlib.Core.Bool.{true}
use Prim.Native.Nat.{◌^◌, ◌<◌}
use Rattle.format.specs.Tree.{Val, Vals}
use Rattle.format.specs.Utf8.{utf8}
use Rattle.format.proofs.Bytes.{AllBytes}

abbrev mutual
  pub Sound : Val → Type 0
  Sound Val.Null = Unit
  Sound (Val.Int w) = w < 2 ^ 64
  Sound (Val.Str s) = (utf8 s ≡ true) × AllBytes s
  Sound (Val.Bytes s) = AllBytes s
  Sound (Val.Ref r) = r < 2 ^ 64
  Sound (Val.Record vs) = AllSound vs
  Sound (Val.Union d v) = (d < 2 ^ 64) × Sound v

  pub AllSound : Vals → Type 0
  AllSound Vals.NoVal = Unit
  AllSound (Vals.AddVal v vs) = Sound v × AllSound vs
