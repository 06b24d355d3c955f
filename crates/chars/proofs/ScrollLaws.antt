-- Steps and an answer of which only the contracts are known (specs/Scrolling) are those of the definitions, which `names` is about.
use Rattle.std.specs.Prelude.{false, Result, Ok, Err, IsOk}
use mathlib.Core.Path.{◌≡◌, refl, sym, ◌∙◌}
use mathlib.Core.List.{List, [], ◌∷◌, map}
use Prim.Native.Nat.{ℕ}
use lib.ListN.{length}
use Rattle.format.specs.Fields.{get_str_call}
use Rattle.format.specs.Chars as chars
use Rattle.format.proofs.EncodeLaws.{no_answer}
use Rattle.scalar.specs.Answers.{got_part}
use Rattle.format.specs.declared.refusal.Refusal.{Refusal}
use Rattle.chars.specs.Reader.{Step, step_of, closed, Opens}
use Rattle.chars.specs.Names.{steps_from, steps_of, name_in, Shown, Named}
use Rattle.chars.specs.Scrolling.{Began, Ran, ended, next, GotPart, Got, ShownBy, Scrolled, Scrolls}
use Rattle.chars.specs.declared.StrChars.{StrChars}
use Rattle.chars.specs.declared.Opened.{Opened}
use Rattle.chars.proofs.NameLaws.{names}

-- calls of next give the definition's steps
ran : (r : StrChars) (ts : List Step) → Ran r ts → map step_of ts ≡ steps_from r.bytes.now r.at r.done (length ts)
unfolding steps_from
ran r [] (ended _) = refl
ran r (t ∷ ts) (next _ _ r' _ m l) = let h = ran r' ts l in rw (m.gives, h, m.held, m.place, m.flag)

module _ (s : List ℕ) where
  abbrev bytes : List ℕ
  bytes = 0x21 ∷ s

  -- a reader of bytes that begin with the mark is not refused
  pub not_refused : (r : Result Unit Refusal) → Opens bytes r → IsOk r × (closed r ≡ false)
  not_refused (Ok u) o = (refl, refl)
  not_refused (Err e) o = absurd (no_answer (o.answer ∙ (names.named s []).opens))

  begins : (o : Opened) (ts : List Step) → Began bytes o → Ran o.chars ts → map step_of ts ≡ steps_of bytes (length ts)
  begins o ts b r = ran o.chars ts r ∙ rw (b.held, b.at_start, b.finished, (not_refused o.opened b.opens).1)

  -- the answer and the part are the definition's
  answered : (scratch : List ℕ) (g : GotPart) (part : List ℕ) → Got bytes scratch g part → (get_str_call bytes scratch).answer ≡ got_part g
  answered scratch g part h = sym h.answer.answer

  handed : (scratch : List ℕ) (g : GotPart) (part : List ℕ) → Got bytes scratch g part → part ≡ name_in bytes (get_str_call bytes scratch)
  handed scratch g part h = h.picked ∙ rw (h.answer.left, h.answer.answer)

  module _ (ts : List Step) (e : map step_of ts ≡ steps_of bytes (length ts)) where
    as_shown : (codes : List ℕ) (last : chars.Step) → Shown bytes (length ts) (steps_of bytes (length ts)) codes last → ShownBy bytes ts codes last
    as_shown codes last h = rw e h

    pub scrolled : (scratch : List ℕ) (g : GotPart) (part : List ℕ) → Got bytes scratch g part → Scrolled bytes ts g part
    scrolled scratch g part h =
        let n : Named bytes scratch = names.named s scratch in
        let a = answered scratch g part h in record {
          accepted = λ t k. as_shown _ _ (rw (handed scratch g part h) (n.accepted t (a ∙ k) (length ts)));
          short = λ d k. let w = n.short d (a ∙ k) in (
            w.name,
            w.long,
            (λ wide g' part' h' l. let t = w.accepts wide l in ((t.0, sym (answered wide g' part' h') ∙ t.1), handed wide g' part' h' ∙ w.decodes wide l)),
            as_shown _ _ (w.spelt (length ts)),
          );
          refuses = λ m d ne k. let b = n.refuses m d ne (a ∙ k) in (b.codes, b.refusal, b.detail, as_shown _ _ (b.steps (length ts)));
        }

pub scrolls : Scrolls
scrolls = record { opens = λ s o b. (not_refused s o.opened b.opens).0; scrolled = λ s scratch o ts g part b r h. scrolled s ts (begins s o ts b r) scratch g part h }
