-- Laws of optional types: a null is read first, and what is none is a value of the type behind word 7.
use mathlib.Core.Path.{◌≡◌, refl, ap, subst, ◌∙◌}
use mathlib.Core.Bool.{Bool, true, false}
use mathlib.Core.List.{List, [], ◌∷◌}
use Prim.Native.Nat.{ℕ, ◌+◌, ◌-◌, ◌≤◌, ◌<◌}
use native.Mathlib.Omega.{arith}
use lib.Dec.{ltb}
use lib.ListN.{length, get_or, take, drop, length-drop}
use lib.Seq.{drop-drop}
use Rattle.std.specs.Prelude.{Result, Ok, Err}
use Rattle.format.specs.Answer.{if}
use Rattle.format.specs.Tree.{Ty, Val}
use Rattle.format.specs.Sheet.{val_words, val_pool}
use Rattle.format.specs.Read.{Read, got, bad, starts_ff, null_at}
use Rattle.format.specs.Decode.{Decoded, decode, blank_or}
use Rattle.format.specs.Skip.{end_of}
use Rattle.format.specs.Refusals.{answered}
use Rattle.format.specs.declared.refusal.Refusal.{Refusal}
use Rattle.format.proofs.Tests.{eqb_test, passed}
use Rattle.format.proofs.TypePlaces.{TypeIn}
use Rattle.format.proofs.TypeKinds.{kind_here, optional_here, plain_kind}
use Rattle.sheet.specs.Places.{SkipsType}
use Rattle.scalar.proofs.Parts.{part_rest}
use Rattle.scalar.proofs.Reading.{Front, Took, front_drop, no_got, end_took, end_refuses}
use Rattle.scalar.proofs.GroupLaws.{null_depth}
use Rattle.read.specs.Walk.{TypeAt, ValueWalk, good}
use Rattle.read.specs.declared.Walked.{Walked}
use Rattle.read.specs.declared.Refused.{Refused}
use Rattle.read.proofs.AnswerLaws.{accept, wider}

-- ---- the null itself

null_front : (depth : ℕ) (b : List ℕ) (u : Unit) (r : List ℕ) → null_at depth b ≡ got u r → Front b r
unfolding starts_ff
null_front depth [] u r p = no_got 1 0 u r p
null_front depth (m ∷ s) u r p =
    let q = passed _ (bad 2 m) (eqb_test m 0) (λ e. no_got 2 m u r e) p in
    go (ltb 0 depth) s q.1
  where
    go : (c : Bool) (s : List ℕ) → ◌≡◌ {A = Read (Unit {0})} (if c (if (starts_ff s) (got tt (drop 1 s)) (bad 3 0)) (got tt s)) (got u r) → Front (m ∷ s) r
    go true [] e = no_got 3 0 u r e
    go true (x ∷ s) e =
        let q = (passed _ (bad 3 0) (eqb_test x 0xFF) (λ f. no_got 3 0 u r f) e).1 in
        let k : s ≡ r = cc in
        rw (← k) (front_drop (m ∷ x ∷ s) 2 (omega arith) (omega arith))
    go false s e = let k : s ≡ r = cc in rw (← k) (front_drop (m ∷ s) 1 (omega arith) (omega arith))

-- what the step answered, where the escape is due inside a group
abbrev NullStep : List ℕ → ℕ → ℕ → Result ℕ Refusal → Type 0
NullStep bytes i depth o = answered o ≡ end_of (take (length bytes - i) (drop i bytes)) (null_at (if (ltb 0 depth) 1 0) (take (length bytes - i) (drop i bytes)))

null_here : (bytes : List ℕ) (i depth : ℕ) (o : Result ℕ Refusal) → NullStep bytes i depth o → answered o ≡ end_of (drop i bytes) (null_at depth (drop i bytes))
null_here bytes i depth o h = rw (part_rest i bytes, null_depth depth (drop i bytes)) at h

module _ (bytes : List ℕ) (i depth : ℕ) {o : Result ℕ Refusal} (h : NullStep bytes i depth o) where
  null_took : {used : ℕ} → o ≡ Ok used → Took (drop i bytes) (null_at depth (drop i bytes)) tt used
  null_took e = end_took (drop i bytes) (null_front depth (drop i bytes)) (rw e at (null_here bytes i depth o h))

  pub null_room : {used : ℕ} → i ≤ length bytes → o ≡ Ok used → i + used ≤ length bytes
  null_room l e = omega (arith, (null_took e).within, length-drop i bytes)

-- an optional type in the definition
optional_is : {ty : List ℕ} {at end : ℕ} (t : Ty) (s : TypeIn ty at t end) (k : get_or ty at 0 ≡ 7) (bytes : List ℕ) (i depth : ℕ)
    → decode t depth (drop i bytes) ≡ blank_or (null_at depth (drop i bytes)) (decode (optional_here t s k).filled depth (drop i bytes))
unfolding decode
optional_is t s k bytes i depth = ap (λ (u : Ty). decode u depth (drop i bytes)) (optional_here t s k).is

-- ---- a blank, and the place to go on at

module _ {ty : List ℕ} {at : ℕ} {bytes : List ℕ} {i depth : ℕ} (k : get_or ty at 0 ≡ 7) {o : Result ℕ Refusal} (h : NullStep bytes i depth o) where
  pub v_blank : {asked : Bool} {used a : ℕ} {r : Result Walked Refused} → i ≤ length bytes → o ≡ Ok used → (asked ≡ true → SkipsType ty at a) → r ≡ Ok (good a (i + used) 1 0 1)
      → ValueWalk ty at bytes i depth asked r
  unfolding val_pool val_words
  v_blank {used = used} l e skips q = rw q (record {
    walk = λ t end s deep.
        let z = optional_here t s k in
        accept
        (record {
          a = Val.Null;
          is = optional_is t s k bytes i depth ∙ ap (λ (x : Read Unit). blank_or x (decode z.filled depth (drop i bytes))) (null_took bytes i depth h e).reads
              ∙ ap (λ (x : List ℕ). Decoded.got Val.Null x 1) (drop-drop used i bytes);
          so =
              record {
                behind = λ y. (skips y).skips t end s deep;
                left = refl;
                words_are = refl;
                pool_is = refl;
                place = null_room bytes i depth h l e;
                short = omega arith;
                few = omega (arith, s.span.long, z.behind.span.long);
                small = omega (arith, s.span.long, z.behind.span.long);
              };
        });
  })

-- bytes that are no null here are read as the type at `place`: that behind word 7, or one that has none before it
pub data Peeled (ty : List ℕ) (at : ℕ) (bytes : List ℕ) (i depth place : ℕ) : Type 0 where
  plain : (get_or ty at 0 ≡ 7 → ⊥) → place ≡ at → Peeled ty at bytes i depth place
  filled : {n d : ℕ} → get_or ty at 0 ≡ 7 → null_at depth (drop i bytes) ≡ bad n d → place ≡ at + 1 → Peeled ty at bytes i depth place

module _ {ty : List ℕ} {at : ℕ} {bytes : List ℕ} {i depth place : ℕ} where
  pub p_filled : get_or ty at 0 ≡ 7 → {o : Result ℕ Refusal} → NullStep bytes i depth o → {e : Refusal} → o ≡ Err e → place ≡ at + 1 → Peeled ty at bytes i depth place
  p_filled k {o} h e p = filled k (end_refuses (drop i bytes) (rw e at (null_here bytes i depth o h))) p

  -- what the walk under the type there asks
  pub p_next : Peeled ty at bytes i depth place → TypeAt ty at → TypeAt ty place × (get_or ty place 0 < 7) × (at ≤ place)
  p_next (plain k p) g = rw p (g, omega (arith, (kind_here g.t g.here).2), omega arith)
  p_next (filled k q p) g =
      let z = optional_here g.t g.here k in
      rw p (record { t = z.filled; end = g.end; here = z.behind; deep = omega (arith, z.deep, g.deep) }, omega (arith, plain_kind z.filled z.behind z.plain), omega arith)

  -- its answer is that of the whole type
  pub p_value : Peeled ty at bytes i depth place → {asked : Bool} {r : Result Walked Refused} → ValueWalk ty place bytes i depth asked r → ValueWalk ty at bytes i depth asked r
  p_value (plain k p) {asked} {r} v = subst (λ (x : ℕ). ValueWalk ty x bytes i depth asked r) p v
  p_value (filled k q p) {asked} {r} v = record {
    walk = λ t end s deep.
        let z = optional_here t s k in
        rw (optional_is t s k bytes i depth, q) (wider (omega (arith, s.span.long, z.behind.span.long)) ((rw p at v).walk z.filled end z.behind (omega (arith, z.deep))));
  }
