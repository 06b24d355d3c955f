-- From what was measured and written to the call's answer and buffer.
use mathlib.Core.Path.{◌≡◌, refl, sym, ap, ◌∙◌}
use mathlib.Core.Option.{Option, some, none}
use mathlib.Core.List.{List}
use Prim.Native.Nat.{ℕ, ◌^◌, ◌≤◌, ◌<◌}
use native.Mathlib.Omega.{arith}
use native.Mathlib.Nat.{zero-add}
use borrow.Author.Tests.{le-leb, lt-leb, lt-ltb}
use lib.ListN.{length}
use Rattle.std.specs.Prelude.{Result, Ok, Err}
use Rattle.format.specs.Answer.{Answer, ok, refused, KeyTooLong}
use Rattle.format.specs.Refusals.{number_of, detail_of}
use Rattle.format.specs.declared.refusal.Refusal.{Refusal}
use Rattle.format.specs.declared.refusal.Refusal.TheVariants as made
use Rattle.format.specs.Tree.{Ty, Val}
use Rattle.format.specs.TypeSheet.{type_of}
use Rattle.format.specs.ValueSheet.{value_of}
use Rattle.format.specs.Encode.{key_bytes, encode_typed, encode_key, max_key_bytes, fine}
use Rattle.format.specs.Calls.{Called, with_type, with_value, written, encode_typed_call, encode_key_call, over}
use Rattle.format.specs.Zeros.{zeros, shown_zeros, encode_typed_zeros, encode_key_zeros}
use Rattle.format.proofs.FitLaws.{clash}
use Rattle.format.proofs.ZeroLaws.{zeros_escaped}
use Rattle.encode.specs.declared.Encoded.{Encoded}
use Rattle.encode.specs.Encoded.{admitted, sized, key_of, Sheets, Wrote, Encodes}
use Rattle.encode.proofs.Keys.{key_is_lem}

-- ---- what was measured

pub said_no : (a : Answer (List ℕ)) {n d : ℕ} → refused n d ≡ sized a → a ≡ refused n d
said_no (ok bs) e = clash e
said_no (refused n d) e = cc

pub said_ok : (a : Answer (List ℕ)) {n : ℕ} → ok n ≡ sized a → (bs : List ℕ) × (a ≡ ok bs) × (n ≡ length bs)
said_ok (ok bs) e = (bs, refl, cc)
said_ok (refused n d) e = clash (sym e)

-- ---- a call with an encoder F

abbrev called : (F : Ty → Val → Answer (List ℕ)) (ty words pool out : List ℕ) → Called ℕ
called F ty words pool out = written out (with_type (type_of ty) (λ t. with_value (value_of words pool) (λ v. F t v)))

abbrev shown : (F : Ty → Val → Answer (List ℕ)) (ty words pool out : List ℕ) → ℕ
shown F ty words pool out = shown_zeros (called F ty words pool out).answer (value_of words pool)

abbrev Call : (F : Ty → Val → Answer (List ℕ)) (ty words pool out : List ℕ) → Result Encoded Refusal → List ℕ → Type 0
Call F = Encodes (called F) (shown F)

-- an accepted call's zeros are the pool's: what ZeroLaws says of either encoder
abbrev OfPool : (F : Ty → Val → Answer (List ℕ)) → Type 0
OfPool F = (ty words pool out : List ℕ) (n : ℕ) → (called F ty words pool out).answer ≡ ok n → shown F ty words pool out ≡ zeros pool

pub typed_pool : OfPool encode_typed
unfolding encode_typed_call encode_typed_zeros
typed_pool = zeros_escaped.typed

pub key_pool : OfPool encode_key
unfolding encode_key_call encode_key_zeros
key_pool = zeros_escaped.key

module _ (F : Ty → Val → Answer (List ℕ)) where
  -- a refused call shows 0
  turned_down : {ty words pool out : List ℕ} {e : Refusal} → called F ty words pool out ≡ record { answer = refused (number_of e) (detail_of e); buffer = out } → Call F ty words pool out (Err e) out
  turned_down {words = words} {pool} c =
      let a = ap (λ (k : Called ℕ). k.answer) c in
      record {
        answer = sym a;
        buffer = sym (ap (λ (k : Called ℕ). k.buffer) c);
        shows = sym (ap (λ (x : Answer ℕ). shown_zeros x (value_of words pool)) a);
        of_pool = λ n e. clash (sym a ∙ e);
      }

  -- sheets that are not admitted
  pub bad_sheets : {ty words pool : List ℕ} (out : List ℕ) {e : Refusal} → ◌≡◌ {A = Answer Unit} (refused (number_of e) (detail_of e)) (admitted ty words pool) → Call F ty words pool out (Err e) out
  bad_sheets {ty} {words} {pool} out h = turned_down (ap (written out) (go (type_of ty) (value_of words pool) h))
    where
      go : {n d : ℕ} (t : Option Ty) (v : Option Val) → refused n d ≡ with_type t (λ u. with_value v (λ w. fine)) → with_type t (λ u. with_value v (λ w. F u w)) ≡ refused n d
      go (some t) (some v) k = clash k
      go (some t) none k = cc
      go none v k = cc

  module _ {ty words pool : List ℕ} (s : Sheets ty words pool) (out : List ℕ) where
    pub refuses : {e : Refusal} → F s.t s.v ≡ refused (number_of e) (detail_of e) → Call F ty words pool out (Err e) out
    refuses e = turned_down (rw (s.is_type, s.is_value, e))

    module _ {bs : List ℕ} (is : F s.t s.v ≡ ok bs) {n : ℕ} (long : n ≡ length bs) where
      pub no_room : length out < n → n < 2 ^ 64 → Call F ty words pool out (Err (made.NoRoom n)) out
      no_room h g = turned_down (rw (s.is_type, s.is_value, is, lt-leb (length bs) (length out) (omega arith), lt-ltb (length bs) (2 ^ 64) (omega arith), long))

      pub done : OfPool F → n ≤ length out → {z : ℕ} {l' : List ℕ} → (length bs ≤ length out → Wrote words pool out bs z l') → Call F ty words pool out (Ok (record { length = n; zeros = z })) l'
      done law h {z} wrote =
          let w = wrote (omega arith) in
          let c : called F ty words pool out ≡ record { answer = ok (length bs); buffer = over bs out } = rw (s.is_type, s.is_value, is, le-leb (length bs) (length out) (omega arith)) in
          let a = ap (λ (k : Called ℕ). k.answer) c in
          let shows : z ≡ shown F ty words pool out = w.zeros ∙ ap (λ (x : Answer ℕ). shown_zeros x (value_of words pool)) (sym a) in
          record {
            answer = ap ok long ∙ sym a;
            buffer = w.bytes ∙ (rw zero-add) ∙ sym (ap (λ (k : Called ℕ). k.buffer) c);
            shows = shows;
            of_pool = λ k e. shows ∙ law ty words pool out k e;
          }

-- ---- the length limit of a key

module _ {ty words pool : List ℕ} (s : Sheets ty words pool) where
  pub key_refused : {n d : ℕ} → refused n d ≡ sized (key_of ty words pool) → encode_key s.t s.v ≡ refused n d
  unfolding encode_key
  key_refused e = rw (said_no (key_bytes s.t s.v) (e ∙ ap sized (key_is_lem s)))

  module _ {bs : List ℕ} (is : key_of ty words pool ≡ ok bs) where
    pub key_long : max_key_bytes < length bs → encode_key s.t s.v ≡ refused KeyTooLong (length bs)
    unfolding encode_key
    key_long h = rw (← key_is_lem s, is, lt-leb (length bs) max_key_bytes h)

    pub key_short : length bs ≤ max_key_bytes → encode_key s.t s.v ≡ ok bs
    unfolding encode_key
    key_short h = rw (← key_is_lem s, is, le-leb (length bs) max_key_bytes h)
