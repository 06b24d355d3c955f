-- Laws of the walk over fields and groups: one for each way out of it.
use Rattle.std.proofs.Common.{◌≡◌, ℕ, ◌+◌, ◌-◌, ◌<◌, ◌≤◌, Bool, true, false, not, ltb, ◌≢◌, List, [], ◌∷◌, ◌++◌, length}
use Rattle.std.proofs.Common.{get_or, drop, sym, refl, ap, ◌∙◌, append_assoc, append-nil, add-zero, arith, length-append, length-drop, drop-drop, drop_at, lt-ltb, ne_eqb, eqb-true}
use Rattle.format.specs.Answer.{if, Answer, and_then}
use Rattle.format.specs.Tree.{Ty, Tys, Val, Vals, val_kind, number_in, fields_in, payload_in}
use Rattle.format.specs.Sheet.{val_count, val_words, vals_words, val_pool, vals_pool}
use Rattle.format.specs.Scalar.{uint_bytes}
use Rattle.format.specs.Encode.{null_bytes, val_bytes, vals_bytes, fits, fits_all, fine}
use Rattle.format.specs.Fields.{put}
use Rattle.format.specs.Read.{starts_ff, ends_here}
use Rattle.format.proofs.Sound.{Sound, AllSound}
use Rattle.format.proofs.SheetPlaces.{front, all_words}
use Rattle.format.proofs.ValuePlaces.{ValueIn, kind_is, word_is_lem}
use Rattle.format.proofs.Tests.{Test, holds, fails, eqb_test, eqb_no}
use Rattle.format.proofs.KindLaws.{built, is_null, not_zero}
use Rattle.format.proofs.FitLaws.{of_value, clash, fields_fit, payload_fits, both_fit}
use Rattle.format.proofs.MarkLaws.{mark_kind}
use Rattle.format.proofs.OrderLaws.{marked}
use Rattle.format.proofs.RoundLaws.{starts_vals, ends}
use Rattle.blocks.proofs.Put.{put_none, length_put, put_then}
use Rattle.fill.proofs.PlaceLaws.{head_at, kind_at, null_at_lem, put_before}
use Rattle.fill.specs.declared.Filled.{Filled}
use Rattle.fill.specs.Fill.{Lent, lent, standing, opens, fields_end, Behind, Ready, Onward, NumberFilled, Done, One, Row, GroupFilled, LeafFilled, FieldsFilled, behind_leaf}

-- ---- where fields end

-- by what is left of the key
module _ (depth : ℕ) where
  pub end_past : (l : List ℕ) → length l ≤ 0 → true ≡ fields_end depth l
  unfolding fields_end
  end_past [] h = refl
  end_past (b ∷ bs) h = absurd (omega arith)

  pub end_outside : (l : List ℕ) → 0 < length l → depth ≡ 0 → false ≡ fields_end depth l
  unfolding fields_end
  end_outside [] h z = absurd (omega arith)
  end_outside (b ∷ bs) h z = rw z

  pub end_inside : (l : List ℕ) → 0 < length l → (depth ≡ 0 → ⊥) → ends_here l ≡ fields_end depth l
  unfolding fields_end
  end_inside [] h z = absurd (omega arith)
  end_inside (b ∷ bs) h z = rw (lt-ltb 0 depth (omega arith))

-- where they do not, the key goes on
pub goes_on : (bytes : List ℕ) (j depth : ℕ) → false ≡ fields_end depth (drop j bytes) → j < length bytes
unfolding fields_end
goes_on bytes j depth h = omega (arith, length-drop j bytes, some (drop j bytes) h)
  where
    some : (l : List ℕ) → false ≡ fields_end depth l → 0 < length l
    some [] e = let z : ◌≡◌ {A = ℕ} 0 1 = cc in absurd (omega arith)
    some (b ∷ bs) e = omega arith

-- a value does not begin with an end, a blank neither
begins : (depth : ℕ) (v : Val) (rest : List ℕ) → Sound v → fields_end depth (val_bytes depth v ++ rest) ≡ false
unfolding fields_end ends_here starts_ff val_bytes
begins depth v rest so = go (ltb 0 depth) (eqb_test (val_kind v) 0) refl
  where
    go : (b : Bool) {c : Bool} → Test (val_kind v ≡ 0) (val_kind v ≢ 0) c → ltb 0 depth ≡ b → fields_end depth (val_bytes depth v ++ rest) ≡ false
    go false t e = rw ((marked depth v so).bytes, e)
    go true (holds p) e = rw (is_null v p, e) (rw e)
    go true (fails p) e = let m = marked depth v so in rw (m.bytes, e, eqb_no m.mark 0 (omega (arith, m.least, not_zero v p)))

-- what begins with an end does not begin with FF
end_starts : (depth : ℕ) (rest : List ℕ) → fields_end depth rest ≡ true → starts_ff rest ≡ false
unfolding fields_end ends_here starts_ff
end_starts depth [] e = refl
end_starts depth (b ∷ bs) e = go (ltb 0 depth) (eqb_test b 0) e
  where
    go : (c : Bool) {d : Bool} → Test (b ≡ 0) (b ≡ 0 → ⊥) d → if c (if d (not (starts_ff bs)) false) false ≡ true → starts_ff (b ∷ bs) ≡ false
    go c (holds q) e = eqb_no b 0xFF (λ z. omega arith)
    go true (fails q) e = let z : ◌≡◌ {A = ℕ} 0 1 = cc in absurd (omega arith)
    go false (fails q) e = let z : ◌≡◌ {A = ℕ} 0 1 = cc in absurd (omega arith)

-- a group's end is one
group_end_lem : (depth : ℕ) (rest : List ℕ) → starts_ff rest ≡ false → fields_end (depth + 1) (0 ∷ rest) ≡ true
unfolding fields_end
group_end_lem depth rest f = rw (lt-ltb 0 (depth + 1) (omega arith)) (ends rest f)

-- a value has one word at least, and two where it is no blank
few_words : (v : Val) → (1 ≤ length (val_words v)) × ((val_kind v ≡ 0 → ⊥) → 2 ≤ length (val_words v))
few_words v =
    let i : ValueIn (val_words v) (val_pool v) 0 0 v (length (val_words v)) (length (val_pool v)) = record { words = all_words _ _ refl; pool = all_words _ _ refl } in
    (omega (arith, (kind_is (val_words v) (val_pool v) 0 0 _ _ v i).0), λ z. omega (arith, (word_is_lem (val_words v) (val_pool v) 0 0 _ _ v i z).0))

-- ---- fields one after another

abbrev These : (bytes : List ℕ) (s : Filled) (depth : ℕ) (a : Lent) (r : Filled) (b : Lent) → Tys → Vals → Type 0
These bytes s depth a r b ts vs = (rest : List ℕ) → fits_all ts depth vs ≡ fine → AllSound vs → fields_end depth rest ≡ true → drop s.next bytes ≡ vals_bytes depth vs ++ rest
    → s.words + length (vals_words vs) ≤ length a.words → s.pool + length (vals_pool vs) ≤ length a.pool
    → Done bytes rest s a (vals_words vs) (vals_pool vs) r b × (r.count ≡ s.count + val_count vs)

-- none stands at an end
pub row_none : {bytes : List ℕ} {s : Filled} {depth : ℕ} {a : Lent} → true ≡ fields_end depth (drop s.next bytes) → Row bytes s depth a s a
unfolding fits vals_bytes vals_words vals_pool val_count
row_none {bytes} {s} {depth} {a} h = record { row = go }
  where
    go : (ts : Tys) (vs : Vals) → These bytes s depth a s a ts vs
    go ts Vals.NoVal rest fit so en e lw lp = (
      record { left = e; at_words = sym (add-zero s.words); at_pool = sym (add-zero s.pool); written = sym (put_none a.words s.words); pooled = sym (put_none a.pool s.pool) },
      sym (add-zero s.count),
    )
    go Tys.NoTy (Vals.AddVal v vs) rest fit so en e lw lp = clash fit
    go (Tys.AddTy t ts) (Vals.AddVal v vs) rest fit so en e lw lp =
        let b = begins depth v (vals_bytes depth vs ++ rest) so.0 in
        let z : ◌≡◌ {A = ℕ} 0 1 = cc (append_assoc (val_bytes depth v) (vals_bytes depth vs) rest) in
        absurd (omega arith)

module _ {bytes : List ℕ} {s : Filled} {depth : ℕ} {a : Lent} {r : Filled} {b : Lent} (h : false ≡ fields_end depth (drop s.next bytes)) where
  -- a field stands here, so one at least does
  row_some : ((t : Ty) (ts : Tys) (v : Val) (vs : Vals) → These bytes s depth a r b (Tys.AddTy t ts) (Vals.AddVal v vs)) → Row bytes s depth a r b
  unfolding fits vals_bytes
  row_some f = record { row = go }
    where
      go : (ts : Tys) (vs : Vals) → These bytes s depth a r b ts vs
      go ts Vals.NoVal rest fit so en e lw lp = let z : ◌≡◌ {A = ℕ} 0 1 = cc in absurd (omega arith)
      go Tys.NoTy (Vals.AddVal v vs) rest fit so en e lw lp = clash fit
      go (Tys.AddTy t ts) (Vals.AddVal v vs) rest fit so en e lw lp = f t ts v vs rest fit so en e lw lp

  -- and has no room: none at all where it is a blank
  pub row_short : length a.words - s.words < 2 → (get_or bytes s.next 0 ≡ 0 → length a.words ≤ s.words) → Row bytes s depth a r b
  unfolding vals_bytes vals_words
  row_short l n = row_some (λ t ts v vs rest fit so en e lw lp.
      let k = few_words v in
      let long = length-append (val_words v) (vals_words vs) in
      let d = e ∙ append_assoc (val_bytes depth v) (vals_bytes depth vs) rest in
      absurd (omega (arith, k.1 (λ z. omega (arith, k.0, n (null_at_lem bytes s.next depth v (vals_bytes depth vs ++ rest) d z))))))

  -- or is filled, with those behind it
  pub row_more : {m : Filled} {d : Lent} → GroupFilled bytes (standing s.next s.words s.pool 0) depth a m d → Row bytes (standing m.next m.words m.pool (s.count + 1)) depth d r b → Row bytes s depth a r b
  unfolding fits vals_bytes vals_words vals_pool val_count
  row_more {m} {d} here rest_of = row_some (λ t ts v vs rest fit so en e lw lp.
      let q = both_fit (fits t depth v) (fits_all ts depth vs) fit in
      let nw = length-append (val_words v) (vals_words vs) in
      let np = length-append (val_pool v) (vals_pool vs) in
      let o = here.onward in
      let f = here.says.one t v (vals_bytes depth vs ++ rest) q.0 so.0 (starts_vals depth vs so.1 rest (end_starts depth rest en)) (e ∙ append_assoc (val_bytes depth v) (vals_bytes depth vs) rest)
      (omega arith) (omega arith) in
      let g = rest_of.row ts vs rest q.1 so.1 en f.left (omega (arith, f.at_words, o.kept_words)) (omega (arith, f.at_pool, o.kept_pool)) in (
        record {
          left = g.0.left;
          at_words = omega (arith, f.at_words, g.0.at_words);
          at_pool = omega (arith, f.at_pool, g.0.at_pool);
          written = put_then a.words s.words (val_words v) (vals_words vs) (omega arith) f.at_words f.written g.0.written;
          pooled = put_then a.pool s.pool (val_pool v) (vals_pool vs) (omega arith) f.at_pool f.pooled g.0.pooled;
        },
        omega (arith, g.1),
      ))

-- a value that is no group, at this depth as at any
pub leaf_filled : {bytes : List ℕ} {s : Filled} {a : Lent} {r : ℕ} {b : Lent} (depth : ℕ) → LeafFilled bytes s a r b → GroupFilled bytes s depth a (behind_leaf bytes s r b.words) b
leaf_filled depth f = record { onward = f.onward; says = f.says depth }

-- ---- the loop: what the fields that are left fill, they fill of all

pub record Passing (bytes : List ℕ) (s₀ : Filled) (depth : ℕ) (a₀ : Lent) (s : Filled) (a : Lent) : Type 0 where
  pub onward : Onward bytes s₀.next a₀ s a
  pub so_far : (r : Filled) (b : Lent) → Row bytes s depth a r b → Row bytes s₀ depth a₀ r b

module _ {bytes : List ℕ} {s₀ : Filled} {depth : ℕ} {a₀ : Lent} where
  pub passing_start : s₀.count ≤ s₀.next → Ready bytes s₀ depth a₀ → Passing bytes s₀ depth a₀ s₀ a₀
  passing_start c q =
      record { onward = record { on = omega arith; inside = q.place; word_in = q.word_in; pool_in = q.pool_in; few = c; kept_words = refl; kept_pool = refl }; so_far = λ r b row. row }

  module _ {s : Filled} {a : Lent} (i : Passing bytes s₀ depth a₀ s a) where
    -- the next field may stand here
    pub passing_ready : depth ≤ s₀.next + 256 → Ready bytes (standing s.next s.words s.pool 0) depth a
    passing_ready h =
        let o = i.onward in
        record { place = o.inside; word_in = omega (arith, o.word_in, o.kept_words); pool_in = omega (arith, o.pool_in, o.kept_pool); deep = omega (arith, o.on) }

    -- it is filled
    pub passing_on : {m : Filled} {b : Lent} {ws ps : List ℕ} {j w p : ℕ} → false ≡ fields_end depth (drop s.next bytes) → GroupFilled bytes (standing s.next s.words s.pool 0) depth a m b
        → ws ≡ b.words → ps ≡ b.pool → j ≡ m.next → w ≡ m.words → p ≡ m.pool → Passing bytes s₀ depth a₀ (standing j w p (s.count + 1)) (lent ws ps)
    passing_on h f e₁ e₂ e₃ e₄ e₅ =
        let o = i.onward in
        let q = f.onward in
        rw (e₁, e₂, e₃, e₄, e₅)
        (record {
          onward = record {
            on = omega (arith, o.on, q.on);
            inside = q.inside;
            word_in = omega (arith, q.word_in, o.kept_words);
            pool_in = omega (arith, q.pool_in, o.kept_pool);
            few = omega (arith, o.few, q.on);
            kept_words = q.kept_words ∙ o.kept_words;
            kept_pool = q.kept_pool ∙ o.kept_pool;
          };
          so_far = λ r c row. i.so_far r c (row_more h f row);
        })

    -- none is left, or there is no room for another
    pub passing_end : true ≡ fields_end depth (drop s.next bytes) → FieldsFilled bytes s₀ depth a₀ s a
    passing_end h = record { onward = i.onward; says = i.so_far s a (row_none h) }

    pub passing_short : false ≡ fields_end depth (drop s.next bytes) → length a.words - s.words < 2 → (get_or bytes s.next 0 ≡ 0 → length a.words ≤ s.words) → FieldsFilled bytes s₀ depth a₀ s a
    passing_short h l n = record { onward = i.onward; says = i.so_far s a (row_short h l n) }

-- ---- blanks and groups

-- the value v stands here
abbrev This : (bytes : List ℕ) (s : Filled) (depth : ℕ) (a : Lent) (r : Filled) (b : Lent) → Val → Type 0
This bytes s depth a r b v = (t : Ty) (rest : List ℕ) → fits t depth v ≡ fine → Sound v → starts_ff rest ≡ false → drop s.next bytes ≡ val_bytes depth v ++ rest
    → s.words + length (val_words v) ≤ length a.words → s.pool + length (val_pool v) ≤ length a.pool → Done bytes rest s a (val_words v) (val_pool v) r b

by_kind : {bytes : List ℕ} {s : Filled} {depth : ℕ} {a : Lent} {r : Filled} {b : Lent} (k : ℕ) → mark_kind (get_or bytes s.next 0) ≡ k → ((v : Val) → This bytes s depth a r b (built k v)) → One bytes s depth a r b
by_kind {bytes} {s} {depth} {a} {r} {b} k e f =
    record { one = λ t v rest fit so st d lw lp. of_value (This bytes s depth a r b) k v (kind_at bytes s.next depth v rest so d ∙ e) (f v) t rest fit so st d lw lp }

-- a blank's bytes lie within the key, for the fields do not end here
pub null_long : (bytes : List ℕ) (j depth : ℕ) → false ≡ fields_end depth (drop j bytes) → get_or bytes j 0 ≡ 0 → (0 < length (null_bytes depth)) × (j + length (null_bytes depth) ≤ length bytes)
unfolding fields_end ends_here starts_ff
null_long bytes j depth h m =
    let on = goes_on bytes j depth h in
    let k = go (ltb 0 depth) (drop (j + 1) bytes) (h ∙ ap (fields_end depth) (front bytes j on) ∙ ap (λ (b : ℕ). fields_end depth (b ∷ drop (j + 1) bytes)) m) in
    (k.0, omega (arith, k.1, length-drop (j + 1) bytes))
  where
    go : (b : Bool) (l : List ℕ) → false ≡ if b (not (starts_ff l)) false → (0 < length {A = ℕ} (if b (0 ∷ 0xFF ∷ []) (0 ∷ []))) × (length {A = ℕ} (if b (0 ∷ 0xFF ∷ []) (0 ∷ [])) ≤ 1 + length l)
    go true [] e = let z : ◌≡◌ {A = ℕ} 0 1 = cc in absurd (omega arith)
    go true (c ∷ l) e = (omega arith, omega arith)
    go false l e = (omega arith, omega arith)

-- a blank: one word, and nothing of the pool
pub null_filled : {bytes : List ℕ} {s : Filled} {depth : ℕ} {a : Lent} {n : ℕ} {wout : List ℕ} → false ≡ fields_end depth (drop s.next bytes) → get_or bytes s.next 0 ≡ 0 → s.words < length a.words
    → s.pool ≤ length a.pool → (n ≡ length (null_bytes depth)) × (wout ≡ put a.words s.words (0 ∷ []))
    → GroupFilled bytes s depth a (standing (s.next + n) (s.words + 1) s.pool 0) (lent wout a.pool)
unfolding built val_bytes val_words val_pool mark_kind
null_filled {bytes} {s} {depth} {a} {n} h m room pl f =
    let k = null_long bytes s.next depth h m in
    record {
      onward = record {
        on = omega (arith, f.0, k.0);
        inside = omega (arith, f.0, k.1);
        word_in = omega arith;
        pool_in = pl;
        few = omega arith;
        kept_words = ap length f.1 ∙ length_put a.words s.words (0 ∷ []) (omega arith);
        kept_pool = refl;
      };
      says = by_kind 0 (ap mark_kind m) (λ v t rest fit so st e lw lp.
          record {
            left = sym (drop-drop n s.next bytes) ∙ ap (drop n) e ∙ drop_at (null_bytes depth) rest n (sym f.0);
            at_words = refl;
            at_pool = sym (add-zero s.pool);
            written = f.1;
            pooled = sym (put_none a.pool s.pool);
          });
    }

-- a group's mark is a record's or a union's
pub union_mark_lem : (m : ℕ) → opens m ≡ true → (m ≡ 0x22 → ⊥) → m ≡ 0x52
union_mark_lem m h n = eqb-true m 0x52 (rw (ne_eqb m 0x22 n) at h)

module _ {bytes : List ℕ} {s : Filled} {depth : ℕ} {a : Lent} (h : s.next < length bytes) (room : s.words + 2 ≤ length a.words) where
  -- a union without its tag
  pub no_tag : s.pool ≤ length a.pool → get_or bytes s.next 0 ≡ 0x52 → length bytes ≤ s.next + 1 → GroupFilled bytes s depth a (standing (s.next + 1) s.words s.pool 0) a
  unfolding built val_bytes uint_bytes mark_kind
  no_tag pl m l =
      record {
        onward = record { on = omega arith; inside = omega arith; word_in = omega arith; pool_in = pl; few = omega arith; kept_words = refl; kept_pool = refl };
        says = by_kind 6 (ap mark_kind m) (λ v t rest fit so st e lw lp. absurd (omega (arith, (head_at bytes (s.next + 1) (head_at bytes s.next e).2).0)));
      }

  module _ {r : Filled} {next : ℕ} {wout pout : List ℕ} (back : Behind bytes r.next next) where
    -- a record: its fields one deeper, then its two words before theirs
    pub record_filled : {w1 : List ℕ} → get_or bytes s.next 0 ≡ 0x22 → FieldsFilled bytes (standing (s.next + 1) (s.words + 2) s.pool 0) (depth + 1) a r (lent w1 pout) → wout ≡ put w1 s.words (5 ∷ r.count ∷ [])
        → GroupFilled bytes s depth a (standing next r.words r.pool 0) (lent wout pout)
    unfolding built val_bytes val_words val_pool mark_kind
    record_filled {w1} m f e1 =
        let o = f.onward in
        record {
          onward = record {
            on = omega (arith, o.on, back.on);
            inside = back.inside;
            word_in = o.word_in;
            pool_in = o.pool_in;
            few = omega arith;
            kept_words = ap length e1 ∙ length_put w1 s.words (5 ∷ r.count ∷ []) (omega (arith, o.kept_words)) ∙ o.kept_words;
            kept_pool = o.kept_pool;
          };
          says = by_kind 5 (ap mark_kind m) (λ v t rest fit so st e lw lp.
              let vs = fields_in v in
              let g = fields_fit t depth vs fit in
              let u = head_at bytes s.next e in
              let d = f.says.row g.0 vs (0 ∷ rest) g.1 so (group_end_lem depth rest st) (u.2 ∙ append_assoc (vals_bytes (depth + 1) vs) (0 ∷ []) rest) (omega arith) lp in
              let z = head_at bytes r.next d.0.left in
              let c : r.count ≡ val_count vs = omega (arith, d.1) in
              record {
                left = ap (λ (k : ℕ). drop k bytes) (back.right z.0) ∙ z.2;
                at_words = omega (arith, d.0.at_words);
                at_pool = d.0.at_pool;
                written = e1 ∙ ap (λ (k : ℕ). put w1 s.words (5 ∷ k ∷ [])) c ∙ ap (λ (l : List ℕ). put l s.words (5 ∷ val_count vs ∷ [])) d.0.written
                    ∙ put_before a.words s.words (5 ∷ val_count vs ∷ []) (vals_words vs) (omega arith);
                pooled = d.0.pooled;
              });
        }

    -- a union: its two words by its tag, then its payload, which is one field one deeper
    pub union_filled : {i : ℕ} {w1 : List ℕ} → get_or bytes s.next 0 ≡ 0x52 → NumberFilled uint_bytes 6 bytes (s.next + 1) a.words s.words i w1
        → FieldsFilled bytes (standing i (s.words + 2) s.pool 0) (depth + 1) (lent w1 a.pool) r (lent wout pout) → GroupFilled bytes s depth a (standing next r.words r.pool 0) (lent wout pout)
    unfolding built fits val_bytes vals_bytes val_words vals_words val_pool vals_pool mark_kind
    union_filled {i} {w1} m tag f =
        let o = f.onward in
        record {
          onward = record {
            on = omega (arith, tag.on, o.on, back.on);
            inside = back.inside;
            word_in = omega (arith, o.word_in, tag.kept);
            pool_in = o.pool_in;
            few = omega arith;
            kept_words = o.kept_words ∙ tag.kept;
            kept_pool = o.kept_pool;
          };
          says = by_kind 6 (ap mark_kind m) (λ v t rest fit so st e lw lp.
              let d = number_in v in
              let x = payload_in v in
              let g = payload_fits t depth d x fit in
              let inner = val_bytes (depth + 1) x in
              let u = head_at bytes s.next e in
              let n = tag.right d ((inner ++ 0 ∷ []) ++ rest) so.0 (u.2 ∙ append_assoc (uint_bytes d) (inner ++ 0 ∷ []) rest) in
              let nw = append-nil (val_words x) in
              let np = append-nil (val_pool x) in
              let all : fits_all (Tys.AddTy g.0 Tys.NoTy) (depth + 1) (Vals.AddVal x Vals.NoVal) ≡ fine = ap (λ (q : Answer Unit). and_then q (λ k. fine)) g.1 in
              let y = f.says.row (Tys.AddTy g.0 Tys.NoTy) (Vals.AddVal x Vals.NoVal) (0 ∷ rest) all (so.1, tt) (group_end_lem depth rest st)
              (n.0 ∙ append_assoc inner (0 ∷ []) rest ∙ ap (λ (l : List ℕ). l ++ 0 ∷ rest) (sym (append-nil inner))) (omega (arith, tag.kept, ap length nw)) (omega (arith, ap length np)) in
              let z = head_at bytes r.next y.0.left in
              record {
                left = ap (λ (k : ℕ). drop k bytes) (back.right z.0) ∙ z.2;
                at_words = omega (arith, y.0.at_words, ap length nw);
                at_pool = omega (arith, y.0.at_pool, ap length np);
                written = put_then a.words s.words (6 ∷ d ∷ []) (val_words x) (omega arith) refl n.1 (y.0.written ∙ ap (put w1 (s.words + 2)) nw);
                pooled = y.0.pooled ∙ ap (put a.pool s.pool) np;
              });
        }
