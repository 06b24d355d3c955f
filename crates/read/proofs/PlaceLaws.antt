-- Fields and alternatives by their places in the sheet.
use mathlib.Core.Path.{◌≡◌, refl}
use mathlib.Core.Bool.{Bool, true, false}
use mathlib.Core.Option.{Option, some, none}
use mathlib.Core.List.{List, ◌++◌}
use Prim.Native.Nat.{ℕ, ◌+◌, ◌-◌, ◌≤◌, ◌<◌}
use native.Mathlib.Omega.{arith}
use lib.Dec.{eqb}
use lib.ListN.{length, length-append}
use Rattle.std.specs.Prelude.{None, Some}
use Rattle.format.specs.Tree.{Ty, Tys, Alts, Val}
use Rattle.format.specs.Sheet.{ty_words, tys_words, alts_words, field_count, alt_count}
use Rattle.format.specs.TypeSheet.{max_groups, nesting, nestings, alt_nestings}
use Rattle.format.specs.Answer.{UnknownDiscriminant}
use Rattle.format.specs.Decode.{Decoded, decode, decode_union, after, union_end}
use Rattle.format.proofs.TypePlaces.{TypeIn, TypesIn, AltsIn, field_in}
use Rattle.format.proofs.Choose.{choose, pick, chosen, decode_chosen}
use Rattle.format.proofs.FitLaws.{chosen_nesting}
use Rattle.sheet.specs.Places.{Chosen, Picks}

-- ---- fields

-- the first of some fields, and the others
pub record FirstField (ty : List ℕ) (at n : ℕ) (ts : Tys) (e : ℕ) : Type 0 where
  pub t : Ty
  pub more : Tys
  pub end : ℕ
  pub is : ts ≡ Tys.AddTy t more
  pub here : TypeIn ty at t end
  pub behind : TypesIn ty end more e
  pub count : n - 1 ≡ field_count more
  pub deep : nesting t ≤ max_groups
  pub deeps : nestings more ≤ max_groups
  pub long : length (tys_words ts) ≡ length (ty_words t) + length (tys_words more)

pub first_field : {ty : List ℕ} {at n e : ℕ} → 0 < n → (ts : Tys) → TypesIn ty at ts e → n ≡ field_count ts → nestings ts ≤ max_groups → FirstField ty at n ts e
unfolding field_count nestings tys_words
first_field nz Tys.NoTy s q d = absurd (omega arith)
first_field {ty} {at} {n} {e} nz (Tys.AddTy t more) s q d =
    let f = field_in ty at e t more s in
    record {
      t = t;
      more = more;
      end = at + length (ty_words t);
      is = refl;
      here = f.0;
      behind = f.1;
      count = omega arith;
      deep = omega arith;
      deeps = omega arith;
      long = length-append (ty_words t) (tys_words more);
    }

pub no_field : {n : ℕ} → n ≤ 0 → (ts : Tys) → n ≡ field_count ts → ts ≡ Tys.NoTy
unfolding field_count
no_field z Tys.NoTy q = refl
no_field z (Tys.AddTy t ts) q = absurd (omega arith)

-- ---- a union's alternatives

-- what was chosen is a part of the union
chosen_long : (tag : ℕ) (us : Alts) (c : Ty × Alts) → choose tag us ≡ some c → length (ty_words c.0) + length (alts_words c.1) < length (alts_words us)
unfolding choose alts_words
chosen_long tag Alts.NoAlt c h = let z : ◌≡◌ {A = ℕ} 0 1 = cc in absurd (omega arith)
chosen_long tag (Alts.AddAlt d u us) c h = go (eqb d tag) (λ k. chosen_long tag us c k) h
  where
    n : length (ty_words u ++ alts_words us) ≡ length (ty_words u) + length (alts_words us)
    n = length-append (ty_words u) (alts_words us)

    go : (b : Bool) → (choose tag us ≡ some c → length (ty_words c.0) + length (alts_words c.1) < length (alts_words us)) → pick b u us (choose tag us) ≡ some c
        → length (ty_words c.0) + length (alts_words c.1) < length (alts_words (Alts.AddAlt d u us))
    go true more h = let f : ◌≡◌ {A = Ty × Alts} (u, us) c = cc in rw (← f) (omega (arith, n))
    go false more h = omega (arith, n, more h)

-- the alternative that a tag names: its type at a place, the alternatives behind it, and what a payload then means
pub record Picked (ty : List ℕ) (at tag place left : ℕ) (us : Alts) (e : ℕ) : Type 0 where
  pub t : Ty
  pub more : Alts
  pub end : ℕ
  pub here : TypeIn ty place t end
  pub behind : AltsIn ty end more e
  pub count : alt_count more ≡ left
  pub deep : nesting t ≤ max_groups
  pub deeps : alt_nestings more ≤ max_groups
  pub on : at + 2 + length (ty_words t) ≤ e
  pub later : at < place
  pub meaning : (depth : ℕ) (bs : List ℕ) → decode_union us depth tag bs ≡ after 1 (Val.Union tag) (union_end (decode t (depth + 1) bs))

module _ {ty : List ℕ} {at tag left : ℕ} (us : Alts) {e : ℕ} (s : TypeIn ty at (Ty.Union us) e) (d : nesting (Ty.Union us) ≤ max_groups) where
  pub missing : Picks ty at tag None left → (depth : ℕ) (bs : List ℕ) → decode_union us depth tag bs ≡ Decoded.bad UnknownDiscriminant tag 1
  missing h depth bs = go (choose tag us) (decode_chosen us depth tag bs) (h.picks us e s d)
    where
      go : (o : Option (Ty × Alts)) → decode_union us depth tag bs ≡ chosen o (λ t. after 1 (Val.Union tag) (union_end (decode t (depth + 1) bs))) (Decoded.bad UnknownDiscriminant tag 1)
          → Chosen ty e None left o → decode_union us depth tag bs ≡ Decoded.bad UnknownDiscriminant tag 1
      go (some c) f k = absurd k
      go none f k = f

  pub picked : {place : ℕ} → Picks ty at tag (Some place) left → Picked ty at tag place left us e
  unfolding nesting ty_words
  picked {place} h = go (choose tag us) refl (λ depth bs. decode_chosen us depth tag bs) (h.picks us e s d)
    where
      go : (o : Option (Ty × Alts)) → choose tag us ≡ o
          → ((depth : ℕ) (bs : List ℕ) → decode_union us depth tag bs ≡ chosen o (λ t. after 1 (Val.Union tag) (union_end (decode t (depth + 1) bs))) (Decoded.bad UnknownDiscriminant tag 1))
          → Chosen ty e (Some place) left o → Picked ty at tag place left us e
      go (some c) q f k =
          let m = chosen_nesting us tag c q in
          let l = chosen_long tag us c q in
          record {
            t = c.0;
            more = c.1;
            end = k.1;
            here = k.2;
            behind = k.3;
            count = k.4;
            deep = omega (arith, m.0);
            deeps = omega (arith, m.1);
            on = omega (arith, s.span.long);
            later = omega (arith, k.2.span.long, k.3.span.long, s.span.long);
            meaning = f;
          }
      go none q f k = let z : ◌≡◌ {A = ℕ} 0 1 = cc in absurd (omega arith)
