-- The claims of specs/Ranges: refusal 0 says that the definition's call is accepted, with the same length and buffer, and format's claim is about that call.
use mathlib.Core.Path.{◌≡◌, ap}
use mathlib.Core.List.{List}
use Prim.Native.Nat.{ℕ}
use native.Mathlib.Omega.{arith}
use Rattle.format.specs.Answer.{Answer, ok, refused, NoBound}
use Rattle.format.specs.Calls as calls
use Rattle.format.specs.Calls.{Called}
use Rattle.format.proofs.Ranges.{strinc_tight, spans, prefixes, key_left}
use Rattle.tuple.specs.Numbers.{length_of, encoded_of, ends_of, ends, Writes, Numbered}
use Rattle.tuple.specs.Ranges.{TightCall, ExactCall, PrefixCall}
use Rattle.tuple.specs.declared.answers.Length.{Length}
use Rattle.tuple.specs.declared.answers.Encoded.{Encoded}
use Rattle.tuple.specs.declared.answers.Ends.{Ends}
use Rattle.tuple.proofs.Refusals.{refusals_numbered}
use Rattle.tuple.proofs.BeginningLaws.{starts_numbered}

-- refusal 0 says that a call was accepted
accepted : (c : Called ℕ) (r : Length) (left : List ℕ) → Writes c r left → Numbered c.answer → r.refusal ≡ 0 → c.answer ≡ ok r.length
accepted c r left w k z = go c.answer w.answer k
  where
    go : (a : Answer ℕ) → r ≡ length_of a → Numbered a → a ≡ ok r.length
    go (ok n) e k = rw e
    go (refused n d) e k =
        let f : r.refusal ≡ n = ap (λ (x : Length). x.refusal) e in
        absurd (omega (arith, k.some))

pub tight_call : TightCall
tight_call = record {
  least = λ prefix out r left h w z.
      rw w.left (strinc_tight.least prefix out r.length h (accepted _ r left w (refusals_numbered.strinc prefix out) z));
}

-- the same of the two calls of a span
encoded_ok : (a : Answer ℕ) (z : ℕ) (r : Encoded) → r ≡ encoded_of a z → Numbered a → r.refusal ≡ 0 → a ≡ ok r.length
encoded_ok (ok n) z r e k q = rw e
encoded_ok (refused n d) z r e k q =
    let f : r.refusal ≡ n = ap (λ (x : Encoded). x.refusal) e in
    absurd (omega (arith, k.some))

bounded_ok : (a : Answer calls.Ends) (r : Ends) → r ≡ ends_of a → Numbered a → r.refusal ≡ 0 → a ≡ ok (ends r.lower r.upper)
bounded_ok (ok x) r e k q = rw e
bounded_ok (refused n d) r e k q =
    let f : r.refusal ≡ n = ap (λ (x : Ends). x.refusal) e in
    absurd (omega (arith, k.some))

pub exact_call : ExactCall
exact_call = record {
  exact = λ ty words pool low_words low_pool high_words high_pool lower upper r lower' upper' hp hl hh b z.
      let a = bounded_ok _ r b.answer (refusals_numbered.span ty words pool low_words low_pool high_words high_pool lower upper) z in
      rw (b.left_lower, b.left_upper) (spans.exact ty words pool low_words low_pool high_words high_pool lower upper (ends r.lower r.upper) hp hl hh a);
  key_of = λ ty words pool out r left h e z.
      rw e.buffer (key_left ty words pool out r.length h (encoded_ok _ _ r e.answer (refusals_numbered.encode_key ty words pool out) z));
}

-- an answer with that refusal is that refusal
bounded_no : (a : Answer calls.Ends) (r : Ends) → r ≡ ends_of a → r.refusal ≡ NoBound → a ≡ refused NoBound r.detail
bounded_no (ok x) r e q = absurd (let f : r.refusal ≡ 0 = ap (λ (y : Ends). y.refusal) e in omega arith)
bounded_no (refused n d) r e q =
    let f : r.refusal ≡ n = ap (λ (y : Ends). y.refusal) e in
    let g : r.detail ≡ d = ap (λ (y : Ends). y.detail) e in
    cc

pub prefix_call_lem : PrefixCall
prefix_call_lem = record {
  exact = λ ty words pool s lower upper r low high hp hs b z.
      let a = bounded_ok _ r b.answer (starts_numbered.starting_with ty words pool s lower upper) z in
      rw (b.left_lower, b.left_upper) (prefixes.exact ty words pool s lower upper (ends r.lower r.upper) hp hs a);
  bounded = λ ty words pool s lower upper r low high b z. prefixes.bounded ty words pool s lower upper r.detail (bounded_no _ r b.answer z);
}
