-- By the refusal's variant: the definition tests its number.
use mathlib.Core.Logic.{inl, inr}
use mathlib.Core.Path.{◌≡◌, refl}
use Prim.Native.Nat.{ℕ}
use Rattle.std.specs.Prelude.{Err}
use Rattle.format.specs.Answer.{Answer}
use Rattle.format.specs.Encode.{in_union}
use Rattle.format.specs.declared.refusal.Refusal.{Refusal}
use Rattle.format.specs.declared.refusal.Refusal.TheVariants as made
use Rattle.fit.specs.Fit.{answer_of}
use Rattle.fit.proofs.union_refusal.Goals as goal

-- what no other refusal is turned into
kept : (tag : ℕ) (e : Refusal) → (e ≡ made.BadRecord → ⊥) → ((k : ℕ) → e ≡ made.TypeMismatch k → ⊥) → ◌≡◌ {A = Answer Unit} (answer_of (Err e)) (in_union tag (answer_of (Err e)))
unfolding in_union
kept tag made.BadRecord n m = absurd (n refl)
kept tag (made.TypeMismatch k) n m = absurd (m k refl)
kept tag e n m = refl

pub returns-in-BadRecord : goal.returns-in-BadRecord
unfolding in_union
returns-in-BadRecord c = elim c.in-BadRecord.is [ inl w ↦ rw w | inr w ↦ rw w.1 ]

pub returns-in_default : goal.returns-in_default
returns-in_default c = search kept
