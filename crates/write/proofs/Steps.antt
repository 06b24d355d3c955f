-- What is written of a value, by its kind, and of values one after another.
use mathlib.Core.Path.{◌≡◌, refl, sym, ap, ◌∙◌}
use mathlib.Core.List.{List, [], ◌∷◌, ◌++◌}
use Prim.Native.Nat.{ℕ, ◌+◌, ◌-◌, ◌≤◌, ◌<◌}
use native.Mathlib.Omega.{arith}
use lib.ListN.{length, get_or, take, drop, length-append}
use lib.Seq.{slice, take-add, drop_at, length-take-le, length-slice}
use Rattle.format.specs.Tree.{Tys, Val, Vals, val_kind}
use Rattle.format.specs.Sheet.{val_words, val_pool, val_count, vals_words, vals_pool}
use Rattle.format.specs.ValueSheet.{Proper, AllProper}
use Rattle.format.specs.Encode.{null_bytes, val_bytes, vals_bytes, fits, fits_all, fine}
use Rattle.format.specs.Zeros.{zeros, val_zeros, vals_zeros}
use Rattle.format.proofs.ValuePlaces.{ValueIn, ValuesIn, word_of, kind_is, word_is_lem, field_in}
use Rattle.format.proofs.KindLaws.{is_null}
use Rattle.format.proofs.FitLaws.{clash, both_fit}
use Rattle.format.proofs.PlainLaws.{plain_pool, plain_bytes, Plain, plain, part_is}
use Rattle.format.proofs.ZeroLaws.{zeros_le, pool_zeros}
use Rattle.blocks.proofs.Put.{put_none, put_then}
use Rattle.scalar.specs.declared.runs.Written.{Written}
use Rattle.write.specs.declared.Put.{Put}
use Rattle.write.specs.Write.{standing, group_count, group_bytes, Stored, Counted, Ready, Onward, Done, Row, WroteValue, WroteFields}
use Rattle.write.proofs.Groups.{group}

-- ---- a value

-- the part of the pool that is lent for m bytes from p on
lent : (p m : ℕ) (b : List ℕ) → p + m ≤ length b → take (p + m - p) (drop p b) ≡ slice p (p + m) b
lent p m b h =
    let n : p + m - p ≡ m = omega arith in
    sym (rw (n, take-add p m b) (drop_at (take p b) (take m (drop p b)) p (length-take-le p b (omega arith))))

-- the kind and the second word of what stands there and is no blank
numbers : (words pool : List ℕ) (w p : ℕ) {k x : ℕ} → k ≡ get_or words w 0 → (k ≡ 0 → ⊥) → x ≡ get_or words (w + 1) 0 → (v : Val) {e f : ℕ} → ValueIn words pool w p v e f → (val_kind v ≡ k) × (word_of v ≡ x)
numbers words pool w p kw some kx v {e} {f} i =
    let q = sym (kind_is words pool w p e f v i).1 ∙ sym kw in
    (q, sym (word_is_lem words pool w p e f v i (λ z. some (sym q ∙ z))).1 ∙ sym kx)

module _ {words pool : List ℕ} {s : Put} {depth : ℕ} {l : List ℕ} (a : Ready words pool l s depth) where
  -- no value stands here, and the walk stays
  stays : ((v : Val) (e f : ℕ) → ValueIn words pool s.word s.pool v e f → ⊥) → WroteValue words pool s depth l s l
  stays h =
      record {
        onward = record { on = omega arith; few = omega arith; word_in = a.word_in; pool_in = a.pool_in; at_in = a.at_in; kept = refl };
        says = record { one = λ t v e f fit ok i room. absurd (h v e f i) };
      }

  pub past : length words ≤ s.word → WroteValue words pool s depth l s l
  past h = stays (λ v e f i. omega (arith, (kind_is words pool s.word s.pool e f v i).0))

  -- a blank
  pub wrote_null : {b : ℕ} {l' : List ℕ} → s.word < length words → get_or words s.word 0 ≡ 0 → Stored l s.at (null_bytes depth) b l' → WroteValue words pool s depth l (standing (s.word + 1) s.pool b s.zeros) l'
  unfolding val_words val_pool val_bytes val_zeros
  wrote_null h z st =
      record {
        onward = record { on = omega arith; few = omega arith; word_in = omega arith; pool_in = a.pool_in; at_in = st.inside; kept = st.kept };
        says = record {
          one = λ t v e f fit ok i room.
              let q = is_null v (sym (kind_is words pool s.word s.pool e f v i).1 ∙ z) in
              let j = rw q at i in
              let g = st.right (rw q at room) in
              rw q (record { at_word = sym j.words.long; at_pool = omega (arith, j.pool.long); at_byte = g.0; counted = omega arith; wrote = g.1 });
        };
      }

  -- no blank, and the sheet ends behind its kind
  pub short : (get_or words s.word 0 ≡ 0 → ⊥) → length words - s.word < 2 → WroteValue words pool s depth l s l
  short some h = stays (λ v e f i. omega (arith, (word_is_lem words pool s.word s.pool e f v i (λ z. some ((kind_is words pool s.word s.pool e f v i).1 ∙ z))).0))

  module _ {k x : ℕ} (two : 2 ≤ length words - s.word) (kw : k ≡ get_or words s.word 0) (some : k ≡ 0 → ⊥) (kx : x ≡ get_or words (s.word + 1) 0) where
    plain_here : k < 5 → (v : Val) {e f : ℕ} → ValueIn words pool s.word s.pool v e f → Plain pool s.word s.pool e f k x depth v
    plain_here low v {e} {f} i =
        let n = numbers words pool s.word s.pool kw some kx v i in
        plain words pool s.word s.pool e f k x depth v n.0 n.1 (omega arith) low i

    pub too_long : k < 5 → length pool - s.pool < plain_pool k x → WroteValue words pool s depth l s l
    too_long low h = stays (λ v e f i. let q = plain_here low v i in omega (arith, q.pool_ends, q.pool_in))

    pub wrote_plain : {m z : ℕ} {w : Written} {l' : List ℕ} → k < 5 → m ≡ plain_pool k x → m ≤ length pool - s.pool
        → Counted l s.at (plain_bytes k x (take (s.pool + m - s.pool) (drop s.pool pool))) (zeros (take (s.pool + m - s.pool) (drop s.pool pool))) w l'
        → z ≡ w.zeros + s.zeros → WroteValue words pool s depth l (standing (s.word + 2) (s.pool + m) w.end z) l'
    wrote_plain {m} {w = w} low j fits_in lent_st sum =
        let part = slice s.pool (s.pool + m) pool in
        let st = rw (lent s.pool m pool (omega (arith, a.pool_in))) at lent_st in
        let long = length-slice s.pool (s.pool + m) pool (omega (arith, a.pool_in)) in
        record {
          onward = record {
            on = omega arith;
            few = omega (arith, st.few, zeros_le part);
            word_in = omega (arith, a.word_in);
            pool_in = omega (arith, a.pool_in);
            at_in = st.stored.inside;
            kept = st.stored.kept;
          };
          says = record {
            one = λ t v e f fit ok i room.
                let q = plain_here low v i in
                let b : val_bytes depth v ≡ plain_bytes k x part = q.bytes ∙ ap (λ (y : ℕ). plain_bytes k x (slice s.pool (s.pool + y) pool)) (sym j) in
                let here = rw b at room in
                let g = st.stored.right here in
                let end : f ≡ s.pool + m = omega (arith, q.pool_ends) in
                let z : val_zeros v ≡ zeros part = pool_zeros v ∙ ap zeros (sym (part_is pool s.pool (val_pool v) f i.pool) ∙ ap (λ (y : ℕ). slice s.pool y pool) end) in
                record { at_word = sym q.ends; at_pool = sym end; at_byte = rw b g.0; counted = omega (arith, st.counted here); wrote = rw b g.1 };
          };
        }

    -- a group: its beginning, the values in it one deeper, its end
    pub wrote_group : {i j z : ℕ} {l₁ l₂ l' : List ℕ} {r : Put} → 5 ≤ k → Stored l s.at (group_bytes k x) i l₁ → WroteFields words pool (standing (s.word + 2) s.pool i 0) (group_count k x) (depth + 1) l₁ r l₂
        → Stored l₂ r.at (0 ∷ []) j l' → z ≡ r.zeros + s.zeros → WroteValue words pool s depth l (standing r.word r.pool j z) l'
    wrote_group {i} {j} {l₁ = l₁} {l₂} {l'} {r} up st row en sum =
        let o = row.onward in
        record {
          onward = record {
            on = omega (arith, o.on);
            few = omega (arith, o.few);
            word_in = o.word_in;
            pool_in = o.pool_in;
            at_in = omega (arith, en.inside, o.kept, st.kept);
            kept = en.kept ∙ o.kept ∙ st.kept;
          };
          says = record {
            one = λ t v e f fit ok h room.
                let n = numbers words pool s.word s.pool kw some kx v h in
                let q = group words pool s.word s.pool e f depth t v n.0 n.1 up fit ok h in
                let begin = group_bytes k x in
                let inner = vals_bytes (depth + 1) q.inside in
                let n1 = length-append begin (inner ++ 0 ∷ []) in
                let n2 = length-append inner (0 ∷ []) in
                let here : s.at + length (begin ++ (inner ++ 0 ∷ [])) ≤ length l = rw q.bytes at room in
                let g = st.right (omega arith) in
                let d = row.says.row q.types q.inside e f q.fit q.proper q.count q.stand (omega (arith, st.kept, g.0)) in
                let z = en.right (omega (arith, st.kept, o.kept, g.0, d.at_byte)) in
                rw q.bytes
                (record {
                  at_word = d.at_word;
                  at_pool = d.at_pool;
                  at_byte = omega (arith, g.0, d.at_byte, z.0);
                  counted = omega (arith, q.zeros, d.counted);
                  wrote = put_then l s.at begin (inner ++ 0 ∷ []) (omega arith) g.0 g.1 (put_then l₁ i inner (0 ∷ []) (omega (arith, st.kept, g.0)) d.at_byte d.wrote z.1);
                });
          };
        }

-- ---- values one after another

abbrev These : (words pool : List ℕ) (s : Put) (n depth : ℕ) (l : List ℕ) (r : Put) (l' : List ℕ) → Tys → Vals → Type 0
These words pool s n depth l r l' ts vs = (e f : ℕ) → fits_all ts depth vs ≡ fine → AllProper vs → n ≡ val_count vs → ValuesIn words pool s.word s.pool vs e f
    → s.at + length (vals_bytes depth vs) ≤ length l → Done e f s.at (vals_zeros vs + s.zeros) l (vals_bytes depth vs) r l'

module _ {words pool : List ℕ} {s : Put} {n depth : ℕ} {l : List ℕ} where
  -- none is left
  pub row_none : n ≤ 0 → Row words pool s n depth l s l
  unfolding val_bytes val_count vals_words vals_pool val_zeros
  row_none h = record { row = λ ts vs. go vs ts }
    where
      go : (vs : Vals) (ts : Tys) → These words pool s n depth l s l ts vs
      go Vals.NoVal ts e f fit ok i b room = record { at_word = omega (arith, b.words.long); at_pool = omega (arith, b.pool.long); at_byte = omega arith; counted = omega arith; wrote = sym (put_none l s.at) }
      go (Vals.AddVal v vs) ts e f fit ok i b room = absurd (omega arith)

  -- the first, and the rest
  pub row_more : {first r : Put} {k : ℕ} {m l' : List ℕ} → n ≡ k + 1 → WroteValue words pool s depth l first m → Row words pool first k depth m r l' → Row words pool s n depth l r l'
  unfolding fits val_bytes val_count Proper val_zeros
  row_more {first} {r} {m} {l'} h here rest = record { row = go }
    where
      go : (ts : Tys) (vs : Vals) → These words pool s n depth l r l' ts vs
      go ts Vals.NoVal e f fit ok i b room = absurd (omega arith)
      go Tys.NoTy (Vals.AddVal v vs) e f fit ok i b room = clash fit
      go (Tys.AddTy t ts) (Vals.AddVal v vs) e f fit ok i b room =
          let q = both_fit (fits t depth v) (fits_all ts depth vs) fit in
          let k = length-append (val_bytes depth v) (vals_bytes depth vs) in
          let c = field_in words pool s.word s.pool e f v vs b in
          let d = here.says.one t v _ _ q.0 ok.0 c.0 (omega arith) in
          let g = rest.row ts vs e f q.1 ok.1 (omega arith) (rw (d.at_word, d.at_pool) c.1) (omega (arith, d.at_byte, here.onward.kept)) in
          record {
            at_word = g.at_word;
            at_pool = g.at_pool;
            at_byte = omega (arith, d.at_byte, g.at_byte);
            counted = omega (arith, d.counted, g.counted);
            wrote = put_then l s.at (val_bytes depth v) (vals_bytes depth vs) (omega arith) d.at_byte d.wrote g.wrote;
          }

-- what a value is written as behind others: its zeros are added to those so far
added : {words pool : List ℕ} {s r : Put} {depth : ℕ} {l l' : List ℕ} → WroteValue words pool (standing s.word s.pool s.at 0) depth l r l'
    → WroteValue words pool s depth l (standing r.word r.pool r.at (s.zeros + r.zeros)) l'
added {s = s} {r = r} v =
    let o = v.onward in
    record {
      onward = record { on = o.on; few = omega (arith, o.few); word_in = o.word_in; pool_in = o.pool_in; at_in = o.at_in; kept = o.kept };
      says = record {
        one = λ t u e f fit ok i room.
            let d = v.says.one t u e f fit ok i room in
            record { at_word = d.at_word; at_pool = d.at_pool; at_byte = d.at_byte; counted = omega (arith, d.counted); wrote = d.wrote };
      };
    }

-- ---- the loop: what the values that are left write, they write of all

pub record Walking (words pool : List ℕ) (s₀ : Put) (n₀ depth : ℕ) (l : List ℕ) (s : Put) (n : ℕ) (l' : List ℕ) : Type 0 where
  pub onward : Onward words pool l s₀ s l'
  pub so_far : (r : Put) (m : List ℕ) → Row words pool s n depth l' r m → Row words pool s₀ n₀ depth l r m

module _ {words pool : List ℕ} {s₀ : Put} {n₀ depth : ℕ} {l : List ℕ} where
  pub walk_start : {n : ℕ} → n₀ ≡ n → Ready words pool l s₀ depth → Walking words pool s₀ n₀ depth l s₀ n l
  walk_start e a = rw (← e) (record { onward = record { on = omega arith; few = omega arith; word_in = a.word_in; pool_in = a.pool_in; at_in = a.at_in; kept = refl }; so_far = λ r m row. row })

  module _ {s : Put} {n : ℕ} {l' : List ℕ} (i : Walking words pool s₀ n₀ depth l s n l') where
    -- the walk stands where the next value may
    pub walk_ready : depth ≤ s₀.word + 256 → Ready words pool l' (standing s.word s.pool s.at 0) depth
    walk_ready h = record { word_in = i.onward.word_in; pool_in = i.onward.pool_in; at_in = omega (arith, i.onward.at_in, i.onward.kept); deep = omega (arith, i.onward.on) }

    -- the zeros so far and the next value's are no more than the bytes of the pool
    pub walk_room : {r : Put} {m : List ℕ} → WroteValue words pool (standing s.word s.pool s.at 0) depth l' r m → s₀.pool + (s.zeros + r.zeros) ≤ length pool + s₀.zeros
    walk_room v = omega (arith, i.onward.few, v.onward.few, v.onward.pool_in)

    pub walk_value : {r : Put} {k : ℕ} {m : List ℕ} → n ≡ k + 1 → WroteValue words pool (standing s.word s.pool s.at 0) depth l' r m
        → Walking words pool s₀ n₀ depth l (standing r.word r.pool r.at (s.zeros + r.zeros)) k m
    walk_value some w =
        let v = added {s = s} w in
        let o = v.onward in
        record {
          onward = record {
            on = omega (arith, i.onward.on, o.on);
            few = omega (arith, i.onward.few, o.few);
            word_in = o.word_in;
            pool_in = o.pool_in;
            at_in = omega (arith, o.at_in, i.onward.kept);
            kept = o.kept ∙ i.onward.kept;
          };
          so_far = λ e d row. i.so_far e d (row_more some v row);
        }

    pub walk_end : n ≤ 0 → WroteFields words pool s₀ n₀ depth l s l'
    walk_end none = record { onward = i.onward; says = i.so_far s l' (row_none none) }
