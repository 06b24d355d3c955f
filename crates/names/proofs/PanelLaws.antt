-- The twelve steps of a name that begins with the mark are the definition's, and so is get_str's answer; so they are what crate chars says of such steps (U14).
use Rattle.std.proofs.Common.{◌≡◌, ℕ, zero, suc, Bool, List, [], ◌∷◌, map, length, refl, ap, ◌∙◌}
use Rattle.format.specs.Fields.{get_str_call, part_of}
use Rattle.format.specs.Chars.{Step, step_at}
use Rattle.scalar.specs.Answers as scalar
use Rattle.chars.specs.Reader.{step_of, closed}
use Rattle.chars.specs.Names.{steps_from, steps_of}
use Rattle.chars.specs.Scrolling.{GotPart}
use Rattle.chars.proofs.ScrollLaws.{not_refused, scrolled}
use Rattle.names.specs.Steps.{step_in, tells_of, Gives, Shows}
use Rattle.names.specs.declared.Seen.{Seen}
use Rattle.names.specs.declared.Given.{Given}

-- n steps are n
many : (s : List ℕ) (at : ℕ) (done : Bool) (n : ℕ) → length (steps_from s at done n) ≡ n
unfolding steps_from
many s at done zero = refl
many s at done (suc n) = ap suc (many s (step_at s at done).at (step_at s at done).done n)

told : (l : List Seen) → map step_of (map (λ (x : Seen). x.step) l) ≡ map step_in l
told [] = refl
told (x ∷ l) = ap (λ (r : List Step). step_in x ∷ r) (told l)

as_many : (l : List Seen) → length (map (λ (x : Seen). x.step) l) ≡ length (map step_in l)
as_many [] = refl
as_many (x ∷ l) = ap suc (as_many l)

twelve : (s : List ℕ) (g : Given) → Gives (0x21 ∷ s) g → map step_of (tells_of g) ≡ steps_of (0x21 ∷ s) (length (tells_of g))
twelve s g e =
    let n : length (tells_of g) ≡ 12 = as_many g.seen ∙ ap length e.steps ∙ many s 0 (closed g.opened) 12 in
    rw n (told g.seen ∙ e.steps ∙ rw (not_refused s g.opened e.opens).1)

pub shows : (name scratch : List ℕ) (g : Given) (got : GotPart) (left : List ℕ) → Gives name g → scalar.Gives (get_str_call name scratch) got left
    → Shows name scratch (record { given = g; got = got }) left
shows name scratch g got left e h = record {
  given = e;
  got = h;
  scrolled = λ s m. rw m (scrolled s (tells_of g) (twelve s g (rw m at e)) scratch got (part_of (0x21 ∷ s) left (scalar.got_part got)) (record { left = left; answer = rw m at h; picked = refl }));
}
