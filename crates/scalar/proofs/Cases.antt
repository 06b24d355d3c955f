-- By the two answers of a test.
use Rattle.std.proofs.Common.{◌≡◌, Bool, true, false, refl}

pub by_test : (b : Bool) {A : Type 0} → (b ≡ true → A) → (b ≡ false → A) → A
by_test true t f = t refl
by_test false t f = f refl
