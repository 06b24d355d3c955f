-- The walk of skip without its number of turns: each turn takes a byte, so turns beyond the bytes change nothing, and a walk is one turn and a walk.
use mathlib.Core.Path.{◌≡◌, refl, sym, ap, subst}
use mathlib.Core.Bool.{Bool, true, false, ◌||◌, ◌&&◌}
use mathlib.Core.List.{List, [], ◌∷◌, ◌++◌}
use Prim.Native.Nat.{ℕ, zero, suc, ◌+◌, ◌-◌, ◌<◌}
use native.Mathlib.Omega.{arith}
use lib.Dec.{ltb, leb, eqb}
use lib.ListN.{length, take, drop, take-append-drop, length-append}
use Rattle.format.specs.Answer.{if, UnexpectedTerminator, BadInteger}
use Rattle.format.specs.Scalar.{width, escaped}
use Rattle.format.specs.Encode.{max_depth}
use Rattle.format.specs.Read.{Read, then_read, get_big, get_uint, width_is, get_run, starts_ff, ends_here}
use Rattle.format.specs.Skip.{pass_bytes, pass_null, pass_field, turn, walk, skip}
use Rattle.format.proofs.BackLaws.{bad_got, run_back}

-- ---- what is read is a beginning of the bytes

abbrev Ahead : {A : Type 0} → List ℕ → Read A → Type 0
Ahead bs (Read.got a rest) = (x : List ℕ) × (bs ≡ x ++ rest)
Ahead bs (Read.bad n d) = Unit

either : {A : Type 0} (bs : List ℕ) (b : Bool) (x y : Read A) → Ahead bs x → Ahead bs y → Ahead bs (if b x y)
either bs true x y p q = p
either bs false x y p q = q

then_ahead : {A : Type 0} (bs : List ℕ) (m : Read A) (depth : ℕ) → Ahead bs m → Ahead bs (then_read m (λ a rest. Read.got depth rest))
then_ahead bs (Read.got a rest) depth h = h
then_ahead bs (Read.bad n d) depth h = tt

big_ahead : (w : ℕ) (bs : List ℕ) → Ahead bs (get_big w bs)
unfolding get_big
big_ahead w bs = either bs (leb w (length bs)) _ _ (take w bs, sym (take-append-drop w bs)) tt

width_ahead : (w : ℕ) (bs : List ℕ) (m : Read ℕ) → Ahead bs m → Ahead bs (then_read m (λ n rest. width_is w n rest))
unfolding width_is
width_ahead w bs (Read.got n rest) h = either bs (eqb (width n) w) (Read.got n rest) (Read.bad BadInteger 0) h tt
width_ahead w bs (Read.bad n d) h = tt

uint_ahead : (bs : List ℕ) → Ahead bs (get_uint bs)
unfolding get_uint
uint_ahead [] = tt
uint_ahead (m ∷ bs) =
    either (m ∷ bs) (ltb m 0x48) _ _ tt
    (either (m ∷ bs) (leb m 0x50) _ _ (later m bs (then_read (get_big (m - 0x48) bs) (λ n rest. width_is (m - 0x48) n rest)) (width_ahead (m - 0x48) bs (get_big (m - 0x48) bs) (big_ahead (m - 0x48) bs))) tt)
  where
    later : (b : ℕ) (cs : List ℕ) (r : Read ℕ) → Ahead cs r → Ahead (b ∷ cs) r
    later b cs (Read.got n rest) h = (b ∷ h.0, ap (λ (x : List ℕ). b ∷ x) h.1)
    later b cs (Read.bad n d) h = tt

run_ahead : (bs : List ℕ) (m : Read (List ℕ)) → get_run bs ≡ m → Ahead bs m
run_ahead bs (Read.got s rest) e = (escaped s, run_back bs s rest e)
run_ahead bs (Read.bad n d) e = tt

pass_ahead : (w depth : ℕ) (bs : List ℕ) → Ahead bs (pass_bytes w depth bs)
pass_ahead w depth bs = then_ahead bs (get_big w bs) depth (big_ahead w bs)

null_ahead : (escape : Bool) (depth : ℕ) (bs : List ℕ) → Ahead bs (pass_null escape depth bs)
unfolding starts_ff
null_ahead escape depth bs = either bs (escape || ltb 0 depth) _ _ (escaped_null bs) ([], refl)
  where
    escaped_null : (cs : List ℕ) → Ahead cs (if (starts_ff cs) (Read.got depth (drop 1 cs)) (Read.bad UnexpectedTerminator 0))
    escaped_null [] = tt
    escaped_null (c ∷ cs) = either (c ∷ cs) (eqb c 0xFF) (Read.got depth cs) (Read.bad UnexpectedTerminator 0) (c ∷ [], refl) tt

field_ahead : (escape : Bool) (depth m : ℕ) (bs : List ℕ) → Ahead bs (pass_field escape depth m bs)
unfolding pass_field
field_ahead escape depth m bs =
    let opens : Ahead bs (Read.got (depth + 1) bs) = ([], refl) in
    either bs (eqb m 0x00) _ _ (null_ahead escape depth bs)
    (either bs (eqb m 0x21 || eqb m 0x53) _ _ (then_ahead bs (get_run bs) depth (run_ahead bs (get_run bs) refl))
    (either bs (eqb m 0x22) _ _ (either bs (ltb depth max_depth) _ _ opens tt)
    (either bs (ltb m 0x40) _ _ tt
    (either bs (ltb m 0x48) _ _ (pass_ahead (0x48 - m) depth bs)
    (either bs (leb m 0x50) _ _ (pass_ahead (m - 0x48) depth bs)
    (either bs (eqb m 0x51) _ _ (pass_ahead _ depth bs)
    (either bs (eqb m 0x52) _ _ (either bs (ltb depth max_depth) _ _ (then_ahead bs (get_uint bs) (depth + 1) (uint_ahead bs)) tt) tt)))))))

-- a turn takes a byte at least
pub turn_takes : (escape : Bool) (depth : ℕ) (bs : List ℕ) {d : ℕ} {rest : List ℕ} → turn escape depth bs ≡ Read.got d rest
    → (x : List ℕ) × (bs ≡ x ++ rest) × (0 < length x)
unfolding turn
turn_takes escape depth [] e = absurd (bad_got e)
turn_takes escape depth (m ∷ bs) e =
    let h = subst (Ahead bs) e (either bs (ltb 0 depth && ends_here (m ∷ bs)) (Read.got (depth - 1) bs) (pass_field escape depth m bs) ([], refl) (field_ahead escape depth m bs)) in
    (m ∷ h.0, ap (λ (x : List ℕ). m ∷ x) h.1, omega arith)

pub turn_shorter : (escape : Bool) (depth : ℕ) (bs : List ℕ) {d : ℕ} {rest : List ℕ} → turn escape depth bs ≡ Read.got d rest
    → length rest < length bs
turn_shorter escape depth bs {rest = r} e = let h = turn_takes escape depth bs e in omega (arith, h.2, ap length h.1, length-append h.0 r)

-- ---- turns enough

-- what comes after a turn: no group is open and the walk ends, or it goes on
abbrev pub ended : (ℕ → List ℕ → Read Unit) → ℕ → List ℕ → Read Unit
ended more d rest = if (eqb d 0) (Read.got tt rest) (more d rest)

-- two ways to go on that agree behind a turn
same_turn : (m : Read ℕ) (f g : ℕ → List ℕ → Read Unit) → ((d : ℕ) (rest : List ℕ) → m ≡ Read.got d rest → f d rest ≡ g d rest)
    → then_read m (ended f) ≡ then_read m (ended g)
same_turn (Read.bad n d) f g h = refl
same_turn (Read.got d rest) f g h = rw (h d rest refl)

-- turns beyond the number of bytes change nothing
pub enough : (k n : ℕ) (escape : Bool) (depth : ℕ) (bs : List ℕ) → length bs < k → length bs < n → walk k escape depth bs ≡ walk n escape depth bs
unfolding walk
enough zero n escape depth bs p q = absurd (omega arith)
enough (suc k) zero escape depth bs p q = absurd (omega arith)
enough (suc k) (suc n) escape depth bs p q =
    same_turn (turn escape depth bs) (λ d rest. walk k escape d rest) (λ d rest. walk n escape d rest)
    (λ d rest e. let l = turn_shorter escape depth bs e in enough k n escape d rest (omega arith) (omega arith))

-- turns until no group is open, however many
unfoldable pub walk_from : Bool → ℕ → List ℕ → Read Unit
walk_from escape depth bs = walk (suc (length bs)) escape depth bs

-- a walk is one turn and a walk
pub walk_step : (escape : Bool) (depth : ℕ) (bs : List ℕ) → walk_from escape depth bs ≡ then_read (turn escape depth bs) (ended (walk_from escape))
unfolding walk_from walk
walk_step escape depth bs =
    same_turn (turn escape depth bs) (λ d rest. walk (length bs) escape d rest) (walk_from escape)
    (λ d rest e. enough (length bs) (suc (length rest)) escape d rest (turn_shorter escape depth bs e) (omega arith))

pub skip_walk : (escape : Bool) (bs : List ℕ) → skip escape bs ≡ walk_from escape 0 bs
unfolding skip walk_from
skip_walk escape bs = refl
