-- Laws of the values that are no groups, each by its mark: the mark tells the kind, and the value of a kind is its parts.
use Rattle.std.proofs.Common.{◌≡◌, ℕ, ◌+◌, ◌<◌, ◌≤◌, true, false, List, [], ◌∷◌, ◌++◌, length, get_or, drop, sym, refl, ap, ◌∙◌, subst, arith}
use Rattle.format.specs.Tree.{Val, number_in, run_in}
use Rattle.format.specs.Sheet.{val_words, val_pool}
use Rattle.format.specs.Scalar.{int_bytes, ref_bytes}
use Rattle.format.specs.Encode.{val_bytes}
use Rattle.format.specs.Read.{starts_ff}
use Rattle.format.specs.Fields.{put}
use Rattle.format.proofs.Sound.{Sound}
use Rattle.format.proofs.Tests.{eqb_yes, eqb_no}
use Rattle.format.proofs.KindLaws.{built}
use Rattle.format.proofs.FitLaws.{of_value}
use Rattle.format.proofs.MarkLaws.{mark_kind, int_kind}
use Rattle.blocks.proofs.Put.{put_none}
use Rattle.fill.proofs.PlaceLaws.{head_at, kind_at}
use Rattle.fill.specs.declared.Filled.{Filled}
use Rattle.fill.specs.Fill.{Lent, lent, standing, opens, taken, Onward, Done, One, NumberFilled, RunFilled, LeafFilled}

-- ---- how much of the pool a value takes

module _ (m x : ℕ) where
  pub taken_str : m ≡ 0x21 → x ≡ taken m x
  unfolding taken
  taken_str h = rw (eqb_yes m 0x21 h)

  pub taken_bytes : m ≡ 0x53 → x ≡ taken m x
  unfolding taken
  taken_bytes h = rw h

  pub taken_none : (m ≡ 0x21 → ⊥) → (m ≡ 0x53 → ⊥) → 0 ≡ taken m x
  unfolding taken
  taken_none h g = rw (eqb_no m 0x21 h, eqb_no m 0x53 g)

-- ---- a value by its mark

no_group : (m : ℕ) → opens m ≡ false → (m ≡ 0x22 → ⊥) × (m ≡ 0x52 → ⊥)
no_group m h = (λ q. shut (rw q at h), λ q. shut (rw q at h))
  where
    shut : true ≡ false → ⊥
    shut e = let z : ◌≡◌ {A = ℕ} 0 1 = cc in omega arith

-- the value v stands here
abbrev This : (bytes : List ℕ) (s : Filled) (a : Lent) (r : Filled) (b : Lent) (depth : ℕ) → Val → Type 0
This bytes s a r b depth v = (rest : List ℕ) → Sound v → starts_ff rest ≡ false → drop s.next bytes ≡ val_bytes depth v ++ rest → s.pool + length (val_pool v) ≤ length a.pool
    → Done bytes rest s a (val_words v) (val_pool v) r b

module _ {bytes : List ℕ} {s : Filled} {a : Lent} {n : ℕ} {b : Lent} where
  -- the kind k, and what it takes of the pool
  by_kind : (k : ℕ) {x : ℕ} → x ≡ taken (get_or bytes s.next 0) (get_or b.words (s.words + 1) 0) → Onward bytes (s.next + 1) a (standing n (s.words + 2) (s.pool + x) 0) b
      → mark_kind (get_or bytes s.next 0) ≡ k → ((depth : ℕ) (v : Val) → This bytes s a (standing n (s.words + 2) (s.pool + x) 0) b depth (built k v)) → LeafFilled bytes s a n b
  by_kind k {x} e o is f =
      record {
        onward = subst (λ (y : ℕ). Onward bytes (s.next + 1) a (standing n (s.words + 2) (s.pool + y) 0) b) e o;
        says = λ depth. subst (λ (y : ℕ). One bytes s depth a (standing n (s.words + 2) (s.pool + y) 0) b) e
            (record {
              one = λ t v rest fit so st d lw lp.
                  of_value (This bytes s a (standing n (s.words + 2) (s.pool + x) 0) b depth) k v (kind_at bytes s.next depth v rest so d ∙ is) (f depth v) rest so st d lp;
            });
      }

  pub a_str : get_or bytes s.next 0 ≡ 0x21 → RunFilled 2 bytes s a n b → LeafFilled bytes s a n b
  unfolding built val_bytes val_words val_pool mark_kind
  a_str m f = by_kind 2 (taken_str _ _ m) f.onward (ap mark_kind m) (λ depth v rest so st e lp. f.right (run_in v) rest st (head_at bytes s.next e).2 lp)

  pub a_bytes : get_or bytes s.next 0 ≡ 0x53 → RunFilled 3 bytes s a n b → LeafFilled bytes s a n b
  unfolding built val_bytes val_words val_pool mark_kind
  a_bytes m f = by_kind 3 (taken_bytes _ _ m) f.onward (ap mark_kind m) (λ depth v rest so st e lp. f.right (run_in v) rest st (head_at bytes s.next e).2 lp)

-- ---- numbers, which leave the pool as it is

module _ (bytes : List ℕ) (s : Filled) (a : Lent) (n : ℕ) (wout : List ℕ) where
  number_onward : {f : ℕ → List ℕ} {kind : ℕ} → s.words + 2 ≤ length a.words → s.pool ≤ length a.pool → NumberFilled f kind bytes s.next a.words s.words n wout
      → Onward bytes (s.next + 1) a (standing n (s.words + 2) (s.pool + 0) 0) (lent wout a.pool)
  number_onward room pl f = record { on = omega (arith, f.on); inside = f.inside; word_in = room; pool_in = omega arith; few = omega arith; kept_words = f.kept; kept_pool = refl }

  number_done : (kind x : ℕ) (rest : List ℕ) → (drop n bytes ≡ rest) × (wout ≡ put a.words s.words (kind ∷ x ∷ []))
      → Done bytes rest s a (kind ∷ x ∷ []) [] (standing n (s.words + 2) (s.pool + 0) 0) (lent wout a.pool)
  number_done kind x rest f = record { left = f.0; at_words = refl; at_pool = refl; written = f.1; pooled = sym (put_none a.pool s.pool) }

module _ {bytes : List ℕ} {s : Filled} {a : Lent} {n : ℕ} {wout : List ℕ} (room : s.words + 2 ≤ length a.words) (pl : s.pool ≤ length a.pool) where
  pub a_ref : get_or bytes s.next 0 ≡ 0x51 → NumberFilled ref_bytes 4 bytes s.next a.words s.words n wout → LeafFilled bytes s a n (lent wout a.pool)
  unfolding built val_bytes val_words val_pool mark_kind
  a_ref m f = by_kind 4 (taken_none _ _ (λ q. omega arith) (λ q. omega arith)) (number_onward bytes s a n wout room pl f) (ap mark_kind m)
      (λ depth v rest so st e lp. number_done bytes s a n wout 4 (number_in v) rest (f.right (number_in v) rest so e))

  pub an_int : (get_or bytes s.next 0 ≡ 0x21 → ⊥) → (get_or bytes s.next 0 ≡ 0x53 → ⊥) → (get_or bytes s.next 0 ≡ 0x51 → ⊥) → 0 < get_or bytes s.next 0 → opens (get_or bytes s.next 0) ≡ false
      → NumberFilled int_bytes 1 bytes s.next a.words s.words n wout → LeafFilled bytes s a n (lent wout a.pool)
  unfolding built val_bytes val_words val_pool mark_kind
  an_int x y z l h f =
      let shut = no_group (get_or bytes s.next 0) h in
      by_kind 1 (taken_none _ _ x y) (number_onward bytes s a n wout room pl f)
      (int_kind _ (record { no_str = x; no_bytes = y; no_ref = z; no_record = shut.0; no_union = shut.1; no_null = λ q. omega arith }))
      (λ depth v rest so st e lp. number_done bytes s a n wout 1 (number_in v) rest (f.right (number_in v) rest so e))
