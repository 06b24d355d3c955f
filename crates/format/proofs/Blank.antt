-- The claims of specs/Blank: blanks by computing, the order by ranks, and word 7 by reading the sheet of the tree back.
use Prim.Native.Nat.{ℕ, suc}
use mathlib.Core.List.{List, [], ◌∷◌}
use mathlib.Core.Bool.{Bool, true, false}
use mathlib.Core.Option.{Option, none}
use mathlib.Core.Path.{◌≡◌, refl, ap}
use native.Mathlib.Omega.{arith}
use lib.Dec.{ltb, leb}
use lib.ListN.{length}
use Rattle.format.specs.Answer.{if, Answer, ok, refused, NoField}
use Rattle.format.specs.Tree.{Ty, Tys, Val, val_kind}
use Rattle.format.specs.Sheet.{ty_words, val_words, field_count}
use Rattle.format.specs.TypeSheet.{one_type, any_type, type_at, type_of, keep, max_type_words, nesting, Single}
use Rattle.format.specs.ValueSheet.{one_value, value_at, value_of}
use Rattle.format.specs.Encode.{encode, encode_typed, key_bytes, encode_key, fits, val_bytes}
use Rattle.format.specs.Read.{Read, starts_ff}
use Rattle.format.specs.Decode.{blank_or, decode, decode_typed, decode_key, whole}
use Rattle.format.specs.Order.{cmp_val}
use Rattle.format.specs.Bounds.{first_bytes}
use Rattle.format.specs.Calls.{with_type, with_value, with_fields, with_key, with_used, written, filled, decoded_by, bounded, replaced, encode_typed_call, encode_key_call, decode_typed_call, decode_key_call, bounds_call, replace_call}
use Rattle.format.specs.Blank.{Blank, NullFirst, OneSeven, OptionalTop}
use Rattle.format.proofs.CompareLaws.{less}
use Rattle.format.proofs.Tests.{ltb_yes, eqb_no}
use Rattle.format.proofs.KindLaws.{is_null, not_zero}
use Rattle.format.proofs.TypeLaws.{admitted}

pub blanks : (t : Ty) → Blank t
unfolding encode fits val_bytes val_words decode starts_ff key_bytes decode_key nesting
blanks t = record {
  bare = refl;
  inside = λ depth. rw (ltb_yes 0 (suc depth) (omega arith));
  word = refl;
  read_bare = λ rest. refl;
  read_inside = λ depth rest. rw (ltb_yes 0 (suc depth) (omega arith));
  other = λ depth v n. rw (eqb_no (val_kind v) 0 (λ e. n (is_null v e)));
  read_other = λ depth bytes n d e. ap (λ (m : Read Unit). blank_or m (decode t depth bytes)) e;
  key = λ v. refl;
  read_key = λ bytes. refl;
  no_record = λ f. refl;
  no_group = refl;
}

pub null_first : NullFirst
unfolding cmp_val
null_first v n = less (not_zero v (λ e. n (is_null v e)))

pub one_seven : OneSeven
unfolding type_of type_at any_type one_type ty_words nesting Single
one_seven = record {
  before = λ words t e o h.
      let a = (admitted words t).0 e in
      (admitted (7 ∷ words) (Ty.Optional t)).1 (record { words = ap (λ (l : List ℕ). 7 ∷ l) a.words; single = (o, a.single); deep = a.deep; long = omega arith });
  twice = λ words. none_kept (leb (length (7 ∷ 7 ∷ words)) max_type_words);
  alone = refl;
  anywhere = λ words t e. ((admitted words t).0 e).single;
}
  where
    none_kept : (b : Bool) → keep {A = Ty} b none ≡ none
    none_kept true = refl
    none_kept false = refl

pub optional_top : OptionalTop
unfolding encode_typed_call encode_key_call decode_typed_call decode_key_call bounds_call replace_call value_of value_at one_value encode_key key_bytes encode fits val_bytes decode decode_key whole
optional_top words t e o h =
    let q = one_seven.before words t e o h in
    record {
      key = λ out. ap (λ (m : Option Ty). written out (with_type m (λ u. encode_key u Val.Null))) q;
      typed = λ out. ap (λ (m : Option Ty). written out (with_type m (λ u. encode_typed u Val.Null))) q;
      read_key = λ w p. ap (λ (m : Option Ty). filled w p (decoded_by m (λ u. decode_key u (0 ∷ [])))) q;
      read_typed = λ w p. ap (λ (m : Option Ty). filled w p (decoded_by m (λ u. decode_typed u (0 ∷ [])))) q;
      no_bounds = λ bytes k lower upper. ap (λ (m : Option Ty). bounded lower upper (with_type m (λ u. with_fields u (in_key bytes k)))) q;
      no_replacement = λ buffer used field w p. ap (λ (m : Option Ty). written buffer (with_type m (λ u. with_fields u (in_buffer buffer used field w p)))) q;
    }
  where
    in_key : List ℕ → ℕ → Tys → Answer (List ℕ)
    in_key bytes k ts = if (leb k (field_count ts)) (with_key (decode_key (Ty.Record ts) bytes) (λ vs. ok (first_bytes k vs))) (refused NoField 0)

    in_buffer : List ℕ → ℕ → ℕ → List ℕ → List ℕ → Tys → Answer (List ℕ)
    in_buffer buffer used field w p ts =
        if (ltb field (field_count ts)) (with_used buffer used (λ bytes. with_key (decode_key (Ty.Record ts) bytes) (λ vs. with_value (value_of w p) (λ u. replaced ts field u vs bytes)))) (refused NoField 0)
