-- What a span on the field behind the first k cuts out of the keys of a type: with nothing behind it a value's bytes are at most those of the fields from there on
-- exactly if the value is, and with FF behind them they are above exactly if it is not below.
use mathlib.Core.Path.{◌≡◌, refl, sym, ap, ◌∙◌, subst}
use mathlib.Core.Logic.{◌≢◌, ◌↔◌}
use mathlib.Core.List.{List, [], ◌∷◌, ◌++◌, append_assoc, append-nil}
use Prim.Native.Nat.{ℕ, suc, ◌<◌, Ordering}
use Rattle.format.specs.Tree.{Val, Vals}
use Rattle.format.specs.Sheet.{val_count}
use Rattle.format.specs.Encode.{val_bytes, vals_bytes}
use Rattle.format.specs.Order.{then, cmp_bytes, cmp_val, cmp_vals}
use Rattle.format.specs.Bounds.{above_field, firsts, rests, Between}
use Rattle.format.specs.Replace.{field_at}
use Rattle.format.specs.Spans.{span_ends, InSpan}
use Rattle.format.proofs.CompareLaws.{flip, then_eq, cmp_bytes_flip, lt_gt, nil_first, cmp_bytes_trans}
use Rattle.format.proofs.ScalarLaws.{Low, low_nil, low_end}
use Rattle.format.proofs.Sound.{Sound, AllSound}
use Rattle.format.proofs.OrderLaws.{low_val, low_vals, order}
use Rattle.format.proofs.KeyLaws.{bare_order}
use Rattle.format.proofs.EqualLaws.{cmp_vals_eq, cmp_vals_refl}
use Rattle.format.proofs.BoundLaws.{split_sound, rest_low}
use Rattle.format.proofs.ReplaceLaws.{field_split, field_sound}

-- ---- values compare as their bytes: so both ways round, and one after another

val_order : (a b : Val) → Sound a → Sound b → cmp_bytes (val_bytes 0 a) (val_bytes 0 b) ≡ cmp_val a b
unfolding cmp_bytes
val_order a b wa wb = simp (append-nil, then_eq) at (order 0 a b wa wb [] [] low_nil low_nil)

val_flip : (a b : Val) → Sound a → Sound b → cmp_val b a ≡ flip (cmp_val a b)
val_flip a b wa wb = sym (val_order b a wb wa) ∙ cmp_bytes_flip (val_bytes 0 a) (val_bytes 0 b) ∙ ap flip (val_order a b wa wb)

-- nothing lies between a lowest and a highest below it
pub span_none : (lo hi v : Val) → Sound lo → Sound hi → Sound v → cmp_val lo hi ≡ Ordering.gt → InSpan lo hi v → ⊥
span_none lo hi v wl wh wv g s =
    let from : cmp_bytes (val_bytes 0 lo) (val_bytes 0 v) ≢ Ordering.gt = λ e. s.from_lowest (sym (val_order lo v wl wv) ∙ e) in
    let to : cmp_bytes (val_bytes 0 v) (val_bytes 0 hi) ≢ Ordering.gt = λ e. s.to_highest (sym (val_order v hi wv wh) ∙ e) in
    cmp_bytes_trans (val_bytes 0 lo) (val_bytes 0 v) (val_bytes 0 hi) from to (val_order lo hi wl wh ∙ g)

-- ---- a span on the field behind the first k

module _ (k : ℕ) (ps vs : Vals) (count : val_count ps ≡ val_count (firsts k vs)) (l : k < val_count vs) (wp : AllSound ps) (wv : AllSound vs) where
  abbrev next : Val
  next = field_at k vs

  -- the k values against the key's
  abbrev firstly : Ordering
  firstly = cmp_vals ps (firsts k vs)

  abbrev behind : List ℕ
  behind = vals_bytes 0 (rests (suc k) vs)

  next_sound : Sound next
  next_sound = field_sound k vs wv

  behind_low : Low behind
  behind_low = rw append-nil at (low_vals 0 (rests (suc k) vs) (split_sound (suc k) vs wv).1 [] low_nil)

  -- any bytes behind the k values, against a key
  against : (r : List ℕ) → Low r → cmp_bytes (vals_bytes 0 ps ++ r) (vals_bytes 0 vs) ≡ then firstly (cmp_bytes r (val_bytes 0 next ++ behind))
  against r lr =
      ap (λ (x : List ℕ). cmp_bytes (vals_bytes 0 ps ++ r) x) (field_split k vs l)
      ∙ bare_order 0 ps (firsts k vs) count wp (split_sound k vs wv).0 r (val_bytes 0 next ++ behind) lr (low_val 0 next next_sound behind)

  -- the lower end
  from : (lo : Val) → Sound lo → cmp_bytes (vals_bytes 0 ps ++ val_bytes 0 lo) (vals_bytes 0 vs) ≡ then firstly (then (cmp_val lo next) (cmp_bytes [] behind))
  from lo wl =
      against (val_bytes 0 lo) (rw append-nil at (low_val 0 lo wl []))
      ∙ ap (then firstly) (rw append-nil at (order 0 lo next wl next_sound [] behind low_nil behind_low))

  -- the upper end
  to : (hi : Val) → Sound hi → cmp_bytes (vals_bytes 0 vs) (above_field (vals_bytes 0 ps ++ val_bytes 0 hi)) ≡ flip (then firstly (then (cmp_val hi next) Ordering.gt))
  to hi wh =
      cmp_bytes_flip (above_field (vals_bytes 0 ps ++ val_bytes 0 hi)) (vals_bytes 0 vs)
      ∙ ap flip (ap (λ (x : List ℕ). cmp_bytes x (vals_bytes 0 vs)) (append_assoc (vals_bytes 0 ps) (val_bytes 0 hi) (0xFF ∷ []))
      ∙ against (val_bytes 0 hi ++ 0xFF ∷ []) (low_val 0 hi wh (0xFF ∷ []))
      ∙ ap (then firstly) (order 0 hi next wh next_sound (0xFF ∷ []) behind low_end behind_low
      ∙ ap (then (cmp_val hi next)) (rest_low (rests (suc k) vs) (split_sound (suc k) vs wv).1)))

  -- a key lies between the two ends exactly if its first k fields are these and the next lies in the span
  pub span : (lo hi : Val) → Sound lo → Sound hi → Between (span_ends ps lo hi).low (span_ends ps lo hi).high (vals_bytes 0 vs) ↔ ((ps ≡ firsts k vs) × InSpan lo hi (field_at k vs))
  span lo hi wl wh = (λ b. there firstly refl b, λ h. back (subst (λ (us : Vals). cmp_vals ps us ≡ Ordering.eq) h.0 (cmp_vals_refl ps)) h.1)
    where
      there : (o : Ordering) → firstly ≡ o → Between (span_ends ps lo hi).low (span_ends ps lo hi).high (vals_bytes 0 vs) → (ps ≡ firsts k vs) × InSpan lo hi next
      there Ordering.lt e b = absurd (lt_gt (sym b.below_high ∙ rw e at (to hi wh)))
      there Ordering.gt e b = absurd (b.from_low (rw e at (from lo wl)))
      there Ordering.eq e b = (
        cmp_vals_eq ps (firsts k vs) wp (split_sound k vs wv).0 e,
        record {
          from_lowest = λ g. b.from_low (rw (e, g) at (from lo wl));
          to_highest = λ g. lt_gt (sym b.below_high ∙ rw (e, val_flip next hi next_sound wh ∙ ap flip g) at (to hi wh));
        },
      )

      low_part : (a : Ordering) → cmp_val lo next ≡ a → (cmp_val lo next ≢ Ordering.gt) → then a (cmp_bytes [] behind) ≢ Ordering.gt
      low_part Ordering.lt q n g = lt_gt g
      low_part Ordering.eq q n g = nil_first behind g
      low_part Ordering.gt q n g = n q

      high_part : (c : Ordering) → cmp_val hi next ≡ c → (cmp_val next hi ≢ Ordering.gt) → flip (then c Ordering.gt) ≡ Ordering.lt
      high_part Ordering.lt q n = absurd (n (val_flip hi next wh next_sound ∙ ap flip q))
      high_part Ordering.eq q n = refl
      high_part Ordering.gt q n = refl

      back : firstly ≡ Ordering.eq → InSpan lo hi next → Between (span_ends ps lo hi).low (span_ends ps lo hi).high (vals_bytes 0 vs)
      back e s = record {
        from_low = λ g. low_part (cmp_val lo next) refl s.from_lowest (sym (rw e at (from lo wl)) ∙ g);
        below_high = (rw e at (to hi wh)) ∙ high_part (cmp_val hi next) refl s.to_highest;
      }
