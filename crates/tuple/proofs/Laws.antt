-- From what a call of the library promises, and how its answer became numbers, to what the exported call promises.
use mathlib.Core.Path.{◌≡◌, refl, sym, ap, ap₂, ◌∙◌, subst}
use mathlib.Core.List.{List}
use Prim.Native.Nat.{ℕ, ◌+◌, ◌≤◌}
use native.Mathlib.Omega.{arith}
use lib.ListN.{length}
use Rattle.std.specs.Prelude.{Result, Ok, Err}
use Rattle.format.specs.Answer.{Answer, ok}
use Rattle.format.specs.Calls as calls
use Rattle.format.specs.Fields.{Payload}
use Rattle.format.specs.Refusals.{number_of, answered, Leaves}
use Rattle.format.specs.Zeros.{zeros}
use Rattle.format.specs.declared.refusal.Refusal.{Refusal}
use Rattle.encode.specs.Encoded as encode
use Rattle.encode.specs.declared.Encoded as encoded
use Rattle.decode.specs.Answers as decode
use Rattle.decode.specs.declared.Decoded.{Decoded}
use Rattle.read.specs.declared.Refused.{Refused}
use Rattle.scalar.specs.Answers.{got_part, Gives}
use Rattle.scalar.specs.declared.payloads.Place.{Place}
use Rattle.scalar.specs.declared.taken.Taken.{Taken}
use Rattle.key.specs.Keys.{BoundsLeft, bounded_of}
use Rattle.key.specs.declared.bounding.Ends as key
use Rattle.tuple.specs.Numbers.{length_of, encoded_of, sheet_of, checked_of, ends_of, part_of, Writes, Encodes, Fills, Checks, Bounds, Hands, decoded_numbers, checked_numbers, Numbered}
use Rattle.tuple.specs.declared.answers.Length.{Length}
use Rattle.tuple.specs.declared.answers.Encoded.{Encoded}
use Rattle.tuple.specs.declared.answers.Sheet.{Sheet}
use Rattle.tuple.specs.declared.answers.Ends.{Ends}
use Rattle.tuple.specs.declared.answers.Part.{Part}

pub wrote : (c : calls.Called ℕ) (w : Result ℕ Refusal) (r : Length) (b : List ℕ) → r ≡ length_of (answered w) → Leaves c w b → Writes c r b
wrote c w r b e h = record { answer = e ∙ ap length_of h.answer; left = h.left }

-- refusal 0 says that the call was accepted, since every refusal has a number above 0
pub encoded_as : {call : (ty words pool out : List ℕ) → calls.Called ℕ} {shown : (ty words pool out : List ℕ) → ℕ} {ty words pool out : List ℕ} (x : Result encoded.Encoded Refusal) {r : Encoded} {left : List ℕ}
    → Numbered (call ty words pool out).answer → r ≡ encoded_of (encode.length_in x) (encode.zeros_in x) → encode.Encodes call shown ty words pool out x left
    → Encodes call shown ty words pool out r left
encoded_as {pool = pool} x {r} k e h =
    record { answer = e ∙ ap₂ encoded_of h.answer h.shows; buffer = h.buffer; of_pool = go x e _ k h.answer h.of_pool }
  where
    go : (y : Result encoded.Encoded Refusal) → r ≡ encoded_of (encode.length_in y) (encode.zeros_in y) → (a : Answer ℕ) → Numbered a → encode.length_in y ≡ a
        → ((n : ℕ) → a ≡ ok n → encode.zeros_in y ≡ zeros pool) → r.refusal ≡ 0 → r.zeros ≡ zeros pool
    go (Ok done) f a k is p q = ap (λ (t : Encoded). t.zeros) f ∙ p done.length (sym is)
    go (Err e) f a k is p q =
        let some = subst (λ (y : Answer ℕ). Numbered y) (sym is) k in
        let no : r.refusal ≡ number_of e = ap (λ (t : Encoded). t.refusal) f in
        absurd (omega (arith, some.some))

pub bounded : (c : calls.Bounded) (x : Result key.Ends Refusal) (r : Ends) (l u : List ℕ) → r ≡ ends_of (bounded_of x) → BoundsLeft c x l u → Bounds c r l u
bounded c x r l u e h = record { answer = e ∙ ap ends_of h.answer; left_lower = h.low; left_upper = h.high }

pub handed : (c : Payload) (x : Result (Taken Place) Refusal) (r : Part) (b : List ℕ) → r ≡ part_of (got_part x) → Gives c x b → Hands c r b
handed c x r b e h = record { answer = e ∙ ap part_of h.answer; left = h.left }

-- the numbers do not depend on what the buffers hold
numbers : (x : Result Decoded Refused) (words pool : List ℕ) → decoded_numbers x ≡ sheet_of (decode.decoded_of x words pool).answer (decode.decoded_of x words pool).begun
numbers (Ok d) words pool = refl
numbers (Err f) words pool = refl

words_of : (x : Result Decoded Refused) (words pool : List ℕ) → words ≡ (decode.decoded_of x words pool).words
words_of (Ok d) words pool = refl
words_of (Err f) words pool = refl

pool_of : (x : Result Decoded Refused) (words pool : List ℕ) → pool ≡ (decode.decoded_of x words pool).pool
pool_of (Ok d) words pool = refl
pool_of (Err f) words pool = refl

pub filled : (c : calls.Filled) (bytes : List ℕ) (x : Result Decoded Refused) (r : Sheet) (words pool : List ℕ) → r ≡ decoded_numbers x → decode.Decodes c bytes x words pool → Fills c bytes r words pool
filled c bytes x r words pool e h =
    record {
      answer = e ∙ numbers x words pool ∙ ap (λ (f : calls.Filled). sheet_of f.answer f.begun) h.is;
      left_words = words_of x words pool ∙ ap (λ (f : calls.Filled). f.words) h.is;
      left_pool = pool_of x words pool ∙ ap (λ (f : calls.Filled). f.pool) h.is;
      few = subst (λ (k : ℕ). k ≤ length bytes + 1) (ap (λ (f : calls.Filled). f.begun) h.is) h.few;
    }

pub checked : (c : calls.Checked) (bytes : List ℕ) (x : Result ℕ Refused) (r : Sheet) → r ≡ checked_numbers x → decode.ChecksKey c bytes x → Checks c bytes r
checked c bytes x r e h =
    record {
      answer = e ∙ ap (λ (f : calls.Checked). checked_of f.answer f.begun) h.is;
      few = subst (λ (k : ℕ). k ≤ length bytes + 1) (ap (λ (f : calls.Checked). f.begun) h.is) h.few;
    }
