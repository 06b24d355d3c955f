-- Laws of the scalars' walks: one for each way out of them.
use mathlib.Core.Path.{◌≡◌, refl, sym, ap, subst, ◌∙◌}
use mathlib.Core.Bool.{Bool, true, false}
use mathlib.Core.List.{List}
use Prim.Native.Nat.{ℕ, ◌+◌, ◌≤◌, ◌<◌}
use native.Mathlib.Omega.{arith}
use lib.ListN.{length, get_or, drop, length-drop}
use lib.Seq.{drop-drop}
use Rattle.std.specs.Prelude.{Result, Ok, Err}
use Rattle.format.specs.Refusals.{number_of, detail_of, answered}
use Rattle.format.specs.declared.refusal.Refusal.{Refusal}
use Rattle.format.specs.declared.refusal.Refusal.TheVariants as made
use Rattle.format.specs.Answer.{if, Answer, ok, refused}
use Rattle.format.specs.Tree.{Ty, Val}
use Rattle.format.specs.Sheet.{ty_words, val_words, val_pool}
use Rattle.format.specs.Utf8.{utf8}
use Rattle.format.specs.Encode.{fits_ref}
use Rattle.format.specs.Read.{Read, ref_read, marked, get_run, get_str, get_bytes, get_ref, get_fact_id}
use Rattle.format.specs.Decode.{Decoded, decode, scalar}
use Rattle.format.specs.Fields.{get_i64_call}
use Rattle.format.proofs.TypeKinds.{kind_here, int_here, str_here, bytes_here, ref_here}
use Rattle.format.proofs.TypePlaces.{TypeIn}
use Rattle.scalar.specs.Answers.{got_int, get_fact_id_call, judged_of}
use Rattle.scalar.specs.Runs.{marked_by, payload_to, RunIn}
use Rattle.scalar.specs.declared.taken.Taken.{Taken}
use Rattle.scalar.specs.declared.runs.Run.{Run}
use Rattle.scalar.proofs.Integers.{i64_took, i64_refuses}
use Rattle.scalar.proofs.References.{id_took, id_refuses, ref_judged}
use Rattle.scalar.proofs.Measures.{found_run, found_none}
use Rattle.scalar.proofs.Placing.{str_marked}
use Rattle.read.specs.Walk.{TypeAt, Walks, LeafWalk, ScalarWalk, val_sizes, good, bad}
use Rattle.read.specs.declared.Walked.{Walked}
use Rattle.read.specs.declared.Refused.{Refused}
use Rattle.read.proofs.AnswerLaws.{refuse, accept}

module _ {t : Ty} {rest : List ℕ} {i end : ℕ} where
  leaf_bad : {e : Refusal} → ((depth : ℕ) → decode t depth rest ≡ Decoded.bad (number_of e) (detail_of e) 1) → LeafWalk t rest i end (Err (bad e 1))
  leaf_bad h = record { walk = λ bytes q inl depth asked most nz. refuse (h depth) (omega arith) }

  -- the value v takes so many of the bytes left
  leaf_good : (v : Val) {used next pool : ℕ} → ((depth : ℕ) → decode t depth rest ≡ Decoded.got v (drop used rest) 1) → 2 ≡ length (val_words v) → pool ≡ length (val_pool v)
      → pool ≤ used → used ≤ length rest → next ≡ i + used → LeafWalk t rest i end (Ok (good end next 2 pool 1))
  leaf_good v {used} h ew ep short within en = record {
    walk = λ bytes q inl depth asked most nz.
        accept
        (record {
          a = v;
          is = h depth ∙ ap (λ (l : List ℕ). Decoded.got v l 1) (ap (drop used) (sym q) ∙ drop-drop used i bytes ∙ ap (λ (n : ℕ). drop n bytes) (sym en));
          so =
              record {
                behind = λ y. refl;
                left = refl;
                words_are = ew;
                pool_is = ep;
                place = omega (arith, ap length q, length-drop i bytes);
                short = omega arith;
                few = omega arith;
                small = omega arith;
              };
        });
  }

-- a reference and a string by what the steps answered: each is read, and then judged
ref_none : (q : ℕ) (rest : List ℕ) {n d : ℕ} → get_fact_id rest ≡ Read.bad n d → get_ref q rest ≡ Read.bad n d
ref_none q rest e = ref_judged q rest ∙ rw e

ref_read_lem : (q : ℕ) (rest : List ℕ) {x : ℕ} {l : List ℕ} (a : Answer Unit) → get_fact_id rest ≡ Read.got x l → a ≡ fits_ref q x → get_ref q rest ≡ ref_read x l a
ref_read_lem q rest a e k = ref_judged q rest ∙ rw (e, k)

str_none : (rest : List ℕ) {n d : ℕ} → marked 0x21 get_run rest ≡ Read.bad n d → get_str rest ≡ Read.bad n d
str_none rest e = str_marked rest ∙ rw e

str_read : (rest : List ℕ) (s l : List ℕ) (q : Bool) → marked 0x21 get_run rest ≡ Read.got s l → q ≡ utf8 s → get_str rest ≡ if q (Read.got s l) (Read.bad 4 0)
str_read rest s l q e u = str_marked rest ∙ rw (e, u)

module _ {rest : List ℕ} {i end : ℕ} where
  -- ---- integers

  module _ {r : Result (Taken ℕ) Refusal} (h : got_int r ≡ get_i64_call rest) where
    pub int_bad : {e : Refusal} → r ≡ Err e → LeafWalk Ty.Int rest i end (Err (bad e 1))
    unfolding decode
    int_bad e = leaf_bad (λ depth. ap (scalar Val.Int) (i64_refuses rest (rw e at h)))

    pub int_good : {x : Taken ℕ} → r ≡ Ok x → LeafWalk Ty.Int rest i end (Ok (good end (i + x.used) 2 0 1))
    unfolding decode val_pool val_words
    int_good {x} e = let t = i64_took rest (rw e at h) in leaf_good (Val.Int x.value) (λ depth. ap (scalar Val.Int) t.reads) refl refl (omega arith) t.within refl

  -- ---- references

  module _ {q : ℕ} {r : Result (Taken ℕ) Refusal} (h : got_int r ≡ get_fact_id_call rest) where
    pub ref_bad : {e : Refusal} → r ≡ Err e → LeafWalk (Ty.Ref q) rest i end (Err (bad e 1))
    unfolding decode
    ref_bad e = leaf_bad (λ depth. ap (scalar Val.Ref) (ref_none q rest (id_refuses rest (rw e at h))))

    module _ {x : Taken ℕ} (e : r ≡ Ok x) {j : Result Unit Refusal} (k : judged_of j ≡ fits_ref q x.value) where
      pub ref_other : {f : Refusal} → j ≡ Err f → LeafWalk (Ty.Ref q) rest i end (Err (bad f 1))
      unfolding decode
      ref_other f = leaf_bad (λ depth. ap (scalar Val.Ref) (ref_read_lem q rest (refused _ _) (id_took rest (rw e at h)).reads (rw f at k)))

      pub ref_good : j ≡ Ok tt → LeafWalk (Ty.Ref q) rest i end (Ok (good end (i + x.used) 2 0 1))
      unfolding decode val_pool val_words
      ref_good f =
          leaf_good (Val.Ref x.value) (λ depth. ap (scalar Val.Ref) (ref_read_lem q rest (ok tt) (id_took rest (rw e at h)).reads (rw f at k))) refl refl (omega arith) (id_took rest (rw e at h)).within refl

  -- ---- runs

  module _ {r : Result Run Refusal} (h : answered r ≡ marked_by rest (marked 0x53 get_run rest)) where
    pub bytes_bad : {e : Refusal} → r ≡ Err e → LeafWalk Ty.Bytes rest i end (Err (bad e 1))
    unfolding decode get_bytes
    bytes_bad e = leaf_bad (λ depth. ap (scalar Val.Bytes) (found_none 0x53 rest _ _ (rw e at h)))

    pub bytes_good : {x : Run} → r ≡ Ok x → LeafWalk Ty.Bytes rest i end (Ok (good end (i + x.end + 1) 2 x.len 1))
    unfolding decode get_bytes val_pool val_words
    bytes_good {x} e =
        let f = found_run 0x53 rest _ (rw e at h) in
        leaf_good (Val.Bytes (payload_to x.end rest)) {used = x.end + 1} (λ depth. ap (scalar Val.Bytes) f.reads) refl f.run.long (omega (arith, f.run.escapes)) (omega (arith, f.run.within)) (omega arith)

  module _ {r : Result Run Refusal} (h : answered r ≡ marked_by rest (marked 0x21 get_run rest)) where
    pub str_bad : {e : Refusal} → r ≡ Err e → LeafWalk Ty.Str rest i end (Err (bad e 1))
    unfolding decode
    str_bad e = leaf_bad (λ depth. ap (scalar Val.Str) (str_none rest (found_none 0x21 rest _ _ (rw e at h))))

    module _ {x : Run} (e : r ≡ Ok x) {q : Bool} (u : q ≡ utf8 (payload_to x.end rest)) where
      pub str_not : q ≡ false → LeafWalk Ty.Str rest i end (Err (bad made.BadString 1))
      unfolding decode
      str_not k = leaf_bad (λ depth. ap (scalar Val.Str) (str_read rest _ _ false (found_run 0x21 rest _ (rw e at h)).reads (sym k ∙ u)))

      pub str_good : q ≡ true → LeafWalk Ty.Str rest i end (Ok (good end (i + x.end + 1) 2 x.len 1))
      unfolding decode val_pool val_words
      str_good k =
          let f = found_run 0x21 rest _ (rw e at h) in
          leaf_good (Val.Str (payload_to x.end rest)) {used = x.end + 1} (λ depth. ap (scalar Val.Str) (str_read rest _ _ true f.reads (sym k ∙ u))) refl f.run.long (omega (arith, f.run.escapes)) (omega (arith, f.run.within)) (omega arith)

-- what was read lies within the bytes
pub int_within : (rest : List ℕ) {r : Result (Taken ℕ) Refusal} {x : Taken ℕ} → got_int r ≡ get_i64_call rest → r ≡ Ok x → x.used ≤ length rest
int_within rest h e = (i64_took rest (rw e at h)).within

pub ref_within : (rest : List ℕ) {r : Result (Taken ℕ) Refusal} {x : Taken ℕ} → got_int r ≡ get_fact_id_call rest → r ≡ Ok x → x.used ≤ length rest
ref_within rest h e = (id_took rest (rw e at h)).within

pub run_within : (mark : ℕ) (rest : List ℕ) {r : Result Run Refusal} {x : Run} → answered r ≡ marked_by rest (marked mark get_run rest) → r ≡ Ok x → RunIn rest x.end x.len
run_within mark rest h e = (found_run mark rest _ (rw e at h)).run

-- ---- whatever scalar stands at a place

module _ {ty : List ℕ} {at : ℕ} {rest : List ℕ} {i : ℕ} {s : Result Walked Refused} where
  leaf : (c : Ty) {end : ℕ} → ((t : Ty) (e : ℕ) → TypeIn ty at t e → (t ≡ c) × (e ≡ end)) → at < end → LeafWalk c rest i end s → ScalarWalk ty at rest i s
  leaf c {end} is on h = record {
    walk = λ t e l bytes q inl depth asked.
        let k = is t e l in
        subst (λ (x : ℕ × Ty). Walks val_sizes bytes i asked x.0 (length (ty_words t)) s (decode x.1 depth rest)) (λ j. (sym k.1 j, sym k.0 j))
        (h.walk bytes q inl depth asked (length (ty_words t)) (omega (arith, l.span.long, k.1)));
  }

  pub s_int : get_or ty at 0 ≡ 1 → LeafWalk Ty.Int rest i (at + 1) s → ScalarWalk ty at rest i s
  s_int k h = leaf Ty.Int (λ t e l. int_here t l k) (omega arith) h

  pub s_str : get_or ty at 0 ≡ 2 → LeafWalk Ty.Str rest i (at + 1) s → ScalarWalk ty at rest i s
  s_str k h = leaf Ty.Str (λ t e l. str_here t l k) (omega arith) h

  pub s_bytes : get_or ty at 0 ≡ 3 → LeafWalk Ty.Bytes rest i (at + 1) s → ScalarWalk ty at rest i s
  s_bytes k h = leaf Ty.Bytes (λ t e l. bytes_here t l k) (omega arith) h

  pub s_ref : get_or ty at 0 ≡ 4 → LeafWalk (Ty.Ref (get_or ty (at + 1) 0)) rest i (at + 2) s → ScalarWalk ty at rest i s
  s_ref k h = leaf (Ty.Ref (get_or ty (at + 1) 0)) (λ t e l. let z = ref_here t l k in (z.is, z.end)) (omega arith) h

-- the fourth kind is what is left of those below a record's
module _ {ty : List ℕ} {at : ℕ} (g : TypeAt ty at) where
  pub is_ref : get_or ty at 0 < 5 → (get_or ty at 0 ≡ 1 → ⊥) → (get_or ty at 0 ≡ 2 → ⊥) → (get_or ty at 0 ≡ 3 → ⊥) → get_or ty at 0 ≡ 4
  is_ref a k1 k2 k3 = omega (arith, (kind_here g.t g.here).1)

  pub ref_second : get_or ty at 0 ≡ 4 → at + 1 < length ty
  ref_second k = (ref_here g.t g.here k).second
