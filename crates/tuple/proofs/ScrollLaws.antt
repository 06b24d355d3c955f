-- Steps and an answer in the numbers of C (specs/Scrolling) tell the definition's, which `names` is about: refusal 0 is told apart, since every refusal is numbered.
use mathlib.Core.Path.{◌≡◌, refl, sym, ap, ◌∙◌}
use mathlib.Core.Logic.{◌≢◌}
use mathlib.Core.Bool.{Bool, false}
use mathlib.Core.List.{List, [], ◌∷◌, map}
use Prim.Native.Nat.{ℕ}
use native.Mathlib.Omega.{arith}
use lib.ListN.{length}
use Rattle.format.specs.Answer.{Answer, ok, refused}
use Rattle.format.specs.Fields as fields
use Rattle.format.specs.Fields.{Taken, Place, in_key, in_scratch, get_str_call}
use Rattle.format.specs.Chars.{Step, Stepped, step_at, opened}
use Rattle.format.proofs.Tests.{eqb_no}
use Rattle.chars.specs.Names.{steps_from, steps_of, name_in, Shown, Named}
use Rattle.chars.proofs.NameLaws.{names}
use Rattle.tuple.specs.Numbers.{part_of, Hands, Numbered}
use Rattle.tuple.specs.StepNumbers.{opened_length, char_of, CharNumbered}
use Rattle.tuple.specs.Scrolling.{told_by, Ran, ended, next, part_by, ShownBy, Scrolled, Scrolls}
use Rattle.tuple.specs.declared.answers.Length.{Length}
use Rattle.tuple.specs.declared.answers.Part.{Part}
use Rattle.tuple.specs.declared.steps.CharStep.{CharStep}
use Rattle.tuple.proofs.Refusals.{refusals_numbered, steps_numbered}

-- ---- steps

told : (t : Stepped) → CharNumbered t.step → (told_by (char_of t) ≡ t.step) × ((char_of t).at ≡ t.at) × ((char_of t).done ≡ t.done)
told t k = go t.step t.at t.done k
  where
    go : (s : Step) (at : ℕ) (done : Bool) → CharNumbered s
        → (told_by (char_of (record { step = s; at = at; done = done })) ≡ s) × ((char_of (record { step = s; at = at; done = done })).at ≡ at) × ((char_of (record { step = s; at = at; done = done })).done ≡ done)
    go (Step.char c) at done k = (refl, refl, refl)
    go Step.end at done k = (refl, refl, refl)
    go (Step.bad n d) at done k = (rw (eqb_no n 0 (λ e. omega (arith, k.some))), refl, refl)

ran : (text : List ℕ) (at : ℕ) (done : Bool) (rs : List CharStep) → Ran text at done rs → map told_by rs ≡ steps_from text at done (length rs)
unfolding steps_from
ran text at done [] (ended _ _) = refl
ran text at done (r ∷ rs) (next _ _ _ _ e l) =
    let h = ran text r.at r.done rs l in
    let t = told (step_at text at done) (steps_numbered.chars_next text at done) in
    rw (h, e, t.0, t.1, t.2)

-- ---- the answer

part_by_lem : (bytes scratch : List ℕ) (a : Answer (Taken Place)) → part_by bytes scratch (part_of a) ≡ fields.part_of bytes scratch a
part_by_lem bytes scratch (refused n d) = refl
part_by_lem bytes scratch (ok t) = go t.value
  where
    go : (p : Place) → part_by bytes scratch (part_of (ok (record { value = p; used = t.used }))) ≡ fields.part_of bytes scratch (ok (record { value = p; used = t.used }))
    go (in_key at len) = refl
    go (in_scratch len) = refl

placed_refusal : (t : Taken Place) → (part_of (ok t)).refusal ≡ 0
placed_refusal t = go t.value
  where
    go : (p : Place) → (part_of (ok (record { value = p; used = t.used }))).refusal ≡ 0
    go (in_key at len) = refl
    go (in_scratch len) = refl

-- what an answer's refusal says of the definition's answer
taken : (a : Answer (Taken Place)) → Numbered a → (part_of a).refusal ≡ 0 → (t : Taken Place) × (a ≡ ok t)
taken (ok t) k z = (t, refl)
taken (refused n d) k z = absurd (omega (arith, k.some))

denied : (a : Answer (Taken Place)) → (part_of a).refusal ≢ 0 → a ≡ refused (part_of a).refusal (part_of a).detail
denied (ok t) h = absurd (h (placed_refusal t))
denied (refused n d) h = refl

module _ (s : List ℕ) where
  abbrev bytes : List ℕ
  bytes = 0x21 ∷ s

  module _ (scratch : List ℕ) (p : Part) (left : List ℕ) (h : Hands (get_str_call bytes scratch) p left) where
    handed : part_by bytes left p ≡ name_in bytes (get_str_call bytes scratch)
    handed = rw (h.answer, h.left) (part_by_lem bytes (get_str_call bytes scratch).scratch (get_str_call bytes scratch).answer)

    accepts : p.refusal ≡ 0 → (t : Taken Place) × ((get_str_call bytes scratch).answer ≡ ok t)
    accepts z = taken (get_str_call bytes scratch).answer (refusals_numbered.get_str bytes scratch) (sym (ap (λ (x : Part). x.refusal) h.answer) ∙ z)

    denies : p.refusal ≢ 0 → (get_str_call bytes scratch).answer ≡ refused p.refusal p.detail
    denies z = rw h.answer (denied (get_str_call bytes scratch).answer (λ e. z (ap (λ (x : Part). x.refusal) h.answer ∙ e)))

    is_accepted : (t : Taken Place) → (get_str_call bytes scratch).answer ≡ ok t → p.refusal ≡ 0
    is_accepted t e = ap (λ (x : Part). x.refusal) (h.answer ∙ ap part_of e) ∙ placed_refusal t

  module _ (rs : List CharStep) (e : map told_by rs ≡ steps_of bytes (length rs)) where
    as_shown : (codes : List ℕ) (last : Step) → Shown bytes (length rs) (steps_of bytes (length rs)) codes last → ShownBy bytes rs codes last
    as_shown codes last h = rw e h

    scrolled : (scratch : List ℕ) (p : Part) (left : List ℕ) → Hands (get_str_call bytes scratch) p left → Scrolled bytes rs p left
    scrolled scratch p left h =
        let n : Named bytes scratch = names.named s scratch in record {
          accepted = λ z. let t = accepts scratch p left h z in as_shown _ _ (rw (handed scratch p left h) (n.accepted t.0 t.1 (length rs)));
          short = λ z. let w = n.short p.detail (denies scratch p left h (λ q. omega (arith, z, q)) ∙ ap (λ (m : ℕ). refused m p.detail) z) in (
            w.name,
            w.long,
            (λ wide p' left' h' l. let t = w.accepts wide l in (is_accepted wide p' left' h' t.0 t.1, handed wide p' left' h' ∙ w.decodes wide l)),
            as_shown _ _ (w.spelt (length rs)),
          );
          refuses = λ z ne. let b = n.refuses p.refusal p.detail ne (denies scratch p left h z) in (b.codes, b.refusal, b.detail, as_shown _ _ (b.steps (length rs)));
        }

  opens : (o : Length) → o ≡ opened_length (opened bytes) → (o.refusal ≡ 0) × (o.length ≡ 0)
  opens o e = rw (e, (names.named s []).opens) (refl, refl)

pub scrolls : Scrolls
scrolls = record { opens = opens; scrolled = λ s scratch rs p left r h. scrolled s rs (ran s 0 false rs r) scratch p left h }
