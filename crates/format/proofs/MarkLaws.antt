-- The first byte of a value tells its kind.
use mathlib.Core.Path.{◌≡◌, refl, sym}
use mathlib.Core.Bool.{Bool, true, false}
use mathlib.Core.List.{List, [], ◌∷◌}
use Prim.Native.Nat.{ℕ}
use native.Mathlib.Omega.{arith}
use lib.Dec.{eqb, ltb, lit<}
use Rattle.format.specs.Answer.{if}
use Rattle.format.specs.Tree.{Val, val_kind}
use Rattle.format.specs.Encode.{val_bytes}
use Rattle.format.proofs.Sound.{Sound}
use Rattle.format.proofs.Tests.{eqb_no}
use Rattle.format.proofs.OrderLaws.{marked}

-- the kind of the values that begin with a byte: any byte that is no other kind's mark is an integer's, where it is one at all
unfoldable pub mark_kind : ℕ → ℕ
mark_kind m = if (eqb m 0x21) 2 (if (eqb m 0x53) 3 (if (eqb m 0x51) 4 (if (eqb m 0x22) 5 (if (eqb m 0x52) 6 (if (eqb m 0) 0 1)))))

-- no other kind's mark
pub record IntMark (m : ℕ) : Type 0 where
  pub no_str : m ≡ 0x21 → ⊥
  pub no_bytes : m ≡ 0x53 → ⊥
  pub no_ref : m ≡ 0x51 → ⊥
  pub no_record : m ≡ 0x22 → ⊥
  pub no_union : m ≡ 0x52 → ⊥
  pub no_null : m ≡ 0 → ⊥

pub int_kind : (m : ℕ) → IntMark m → mark_kind m ≡ 1
unfolding mark_kind
int_kind m i =
    rw (eqb_no m 0x21 i.no_str, eqb_no m 0x53 i.no_bytes, eqb_no m 0x51 i.no_ref, eqb_no m 0x22 i.no_record, eqb_no m 0x52 i.no_union, eqb_no m 0 i.no_null)

-- a value's bytes, by the first of them
pub record First (bs : List ℕ) (kind : ℕ) : Type 0 where
  pub mark : ℕ
  pub body : List ℕ
  pub bytes : bs ≡ mark ∷ body
  pub kind_is : kind ≡ mark_kind mark

pub first : (depth : ℕ) (v : Val) → Sound v → First (val_bytes depth v) (val_kind v)
unfolding val_bytes mark_kind
first depth Val.Null s = go (ltb 0 depth)
  where
    go : (b : Bool) → First (if b (0 ∷ 0xFF ∷ []) (0 ∷ [])) 0
    go true = record { mark = 0; body = _; bytes = refl; kind_is = refl }
    go false = record { mark = 0; body = _; bytes = refl; kind_is = refl }
first depth (Val.Int w) s =
    let m = marked depth (Val.Int w) s in
    let high = m.below (Val.Ref 0) (lit< tt) in
    record {
      mark = m.mark;
      body = m.body;
      bytes = m.bytes;
      kind_is = sym (int_kind m.mark
          (record {
            no_str = λ q. omega (arith, m.least);
            no_bytes = λ q. omega arith;
            no_ref = λ q. omega arith;
            no_record = λ q. omega (arith, m.least);
            no_union = λ q. omega arith;
            no_null = λ q. omega (arith, m.least);
          }));
    }
first depth (Val.Str x) s = record { mark = 0x21; body = _; bytes = refl; kind_is = refl }
first depth (Val.Bytes x) s = record { mark = 0x53; body = _; bytes = refl; kind_is = refl }
first depth (Val.Ref r) s = record { mark = 0x51; body = _; bytes = refl; kind_is = refl }
first depth (Val.Record vs) s = record { mark = 0x22; body = _; bytes = refl; kind_is = refl }
first depth (Val.Union d v) s = record { mark = 0x52; body = _; bytes = refl; kind_is = refl }
