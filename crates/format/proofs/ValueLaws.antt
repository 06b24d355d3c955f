-- A value sheet is admitted exactly where it writes a proper tree down that is not too deep and not too long, and it writes one tree only.
use Prim.Native.Nat.{ℕ, zero, suc, ◌≤◌, ◌^◌, max}
use mathlib.Core.List.{List, [], ◌∷◌, ◌++◌, append_assoc, append-nil}
use mathlib.Core.Path.{◌≡◌, refl, ap, sym, ◌∙◌, subst}
use mathlib.Core.Logic.{◌↔◌}
use mathlib.Core.Bool.{Bool, true, false, ◌&&◌}
use mathlib.Core.Option.{some}
use native.Mathlib.Omega.{arith}
use lib.Dec.{leb, ltb}
use lib.ListN.{length, take, drop, length-append, take-append-drop}
use lib.Seq.{take-append_seam, drop-append_seam, length-take-le}
use borrow.Author.Tests.{leb-true, le-leb, lt-ltb, ltb-true}
use Rattle.format.specs.Tree.{Val, Vals}
use Rattle.format.specs.Sheet.{val_words, vals_words, val_pool, vals_pool, val_count}
use Rattle.format.specs.Utf8.{utf8}
use Rattle.format.specs.TypeSheet.{max_groups, keep, is_some}
use Rattle.format.specs.ValueSheet.{max_value_words, Parts, got, no, map, after, only, bytes, any, one_value, values, value_at, nesting, nestings, Proper, AllProper, whole, value_of, Admitted}
use Rattle.format.proofs.TypeLaws.{some_of}

bytes_back : (f : List ℕ → Val) (t : List ℕ → Bool) (s r b : List ℕ) → t s ≡ true → bytes f t (length s) r (s ++ b) ≡ got (f s) r b
bytes_back f t s r b h =
    let l : length s ≤ length (s ++ b) = omega (arith, length-append s b) in
    rw (le-leb (length s) (length (s ++ b)) l, take-append_seam s b, drop-append_seam s b, h)

-- A tree that is not too deep is read back, whatever stands behind it.
mutual
  unfolding value_at one_value values val_words val_pool val_count nesting Proper

  pub reads_back : (v : Val) (g : ℕ) (r b : List ℕ) → nesting v ≤ g → Proper v → value_at g (val_words v ++ r) (val_pool v ++ b) ≡ got v r b
  reads_back Val.Null zero r b h s = refl
  reads_back Val.Null (suc g) r b h s = refl
  reads_back (Val.Int x) zero r b h s = refl
  reads_back (Val.Int x) (suc g) r b h s = refl
  reads_back (Val.Str l) zero r b h s = bytes_back Val.Str utf8 l r b s
  reads_back (Val.Str l) (suc g) r b h s = bytes_back Val.Str utf8 l r b s
  reads_back (Val.Bytes l) zero r b h s = bytes_back Val.Bytes any l r b refl
  reads_back (Val.Bytes l) (suc g) r b h s = bytes_back Val.Bytes any l r b refl
  reads_back (Val.Ref x) zero r b h s = refl
  reads_back (Val.Ref x) (suc g) r b h s = refl
  reads_back (Val.Record vs) zero r b h s = absurd (omega arith)
  reads_back (Val.Record vs) (suc g) r b h s = ap (map Val.Record) (all_back vs g r b (omega arith) s)
  reads_back (Val.Union d v) zero r b h s = absurd (omega arith)
  reads_back (Val.Union d v) (suc g) r b h s =
      ap (λ (t : Bool). only t (map (Val.Union d) (value_at g (val_words v ++ r) (val_pool v ++ b)))) (lt-ltb d (2 ^ 32) s.0)
      ∙ ap (map (Val.Union d)) (reads_back v g r b (omega arith) s.1)

  pub all_back : (vs : Vals) (g : ℕ) (r b : List ℕ) → nestings vs ≤ g → AllProper vs → values (value_at g) (val_count vs) (vals_words vs ++ r) (vals_pool vs ++ b) ≡ got vs r b
  all_back Vals.NoVal g r b h s = refl
  all_back (Vals.AddVal v vs) g r b h s =
      rw (append_assoc (val_words v) (vals_words vs) r, append_assoc (val_pool v) (vals_pool vs) b, reads_back v g (vals_words vs ++ r) (vals_pool vs ++ b) (omega arith) s.0)
      (ap (map (Vals.AddVal v)) (all_back vs g r b (omega arith) s.1))

-- What is read is written down by what was read, and is proper and not too deep.
abbrev pub Reads : ℕ → List ℕ → List ℕ → Parts Val → Type 0
Reads g w b (got v r c) = (w ≡ val_words v ++ r) × (b ≡ val_pool v ++ c) × (nesting v ≤ g) × Proper v
Reads g w b no = Unit {0}

abbrev ReadsAll : ℕ → ℕ → List ℕ → List ℕ → Parts Vals → Type 0
ReadsAll g n w b (got vs r c) = (w ≡ vals_words vs ++ r) × (b ≡ vals_pool vs ++ c) × (nestings vs ≤ g) × (val_count vs ≡ n) × AllProper vs
ReadsAll g n w b no = Unit {0}

values_read : (g : ℕ) (p : List ℕ → List ℕ → Parts Val) → ((w b : List ℕ) → Reads g w b (p w b)) → (n : ℕ) (w b : List ℕ) → ReadsAll g n w b (values p n w b)
unfolding values val_words val_pool val_count nesting Proper
values_read g p ih zero w b = (refl, refl, omega arith, refl, tt)
values_read g p ih (suc n) w b = go (p w b) (ih w b) (λ s c. values_read g p ih n s c)
  where
    end : (v : Val) (s c : List ℕ) (q : Parts Vals) → w ≡ val_words v ++ s → b ≡ val_pool v ++ c → nesting v ≤ g → Proper v → ReadsAll g n s c q → ReadsAll g (suc n) w b (map (Vals.AddVal v) q)
    end v s c (got vs r d) e f k o h = (cc (append_assoc (val_words v) (vals_words vs) r), cc (append_assoc (val_pool v) (vals_pool vs) d), omega (arith, h.2), ap suc h.3, (o, h.4))
    end v s c no e f k o h = tt

    go : (q : Parts Val) → Reads g w b q → ((s c : List ℕ) → ReadsAll g n s c (values p n s c)) → ReadsAll g (suc n) w b (after q (λ v s c. map (Vals.AddVal v) (values p n s c)))
    go (got v s c) h k = end v s c (values p n s c) h.0 h.1 h.2 h.3 (k s c)
    go no h k = tt

record_reads : (g n : ℕ) (w b : List ℕ) (q : Parts Vals) → ReadsAll g n w b q → Reads (suc g) (5 ∷ n ∷ w) b (map Val.Record q)
unfolding val_words val_pool nesting Proper
record_reads g n w b (got vs r c) h = (cc (h.0, h.3), h.1, omega (arith, h.2), h.4)
record_reads g n w b no h = tt

union_reads : (g d : ℕ) (w b : List ℕ) (q : Parts Val) → Reads g w b q → Reads (suc g) (6 ∷ d ∷ w) b (only (ltb d (2 ^ 32)) (map (Val.Union d) q))
unfolding val_words val_pool nesting Proper
union_reads g d w b q h = go (ltb d (2 ^ 32)) refl q h
  where
    go : (t : Bool) → ltb d (2 ^ 32) ≡ t → (q : Parts Val) → Reads g w b q → Reads (suc g) (6 ∷ d ∷ w) b (only t (map (Val.Union d) q))
    go true e (got v r c) k = (cc k.0, k.1, omega (arith, k.2), (ltb-true d (2 ^ 32) e, k.3))
    go true e no k = tt
    go false e q k = tt

str_reads : (g x : ℕ) (r b : List ℕ) → Reads g (2 ∷ x ∷ r) b (bytes Val.Str utf8 x r b)
unfolding val_words val_pool nesting Proper
str_reads g x r b = go (leb x (length b)) refl (utf8 (take x b)) refl
  where
    go : (t : Bool) → leb x (length b) ≡ t → (u : Bool) → utf8 (take x b) ≡ u → Reads g (2 ∷ x ∷ r) b (only (t && u) (got (Val.Str (take x b)) r (drop x b)))
    go true e true f = (cc (length-take-le x b (leb-true x (length b) e)), sym (take-append-drop x b), omega arith, f)
    go true e false f = tt
    go false e u f = tt

bytes_reads : (g x : ℕ) (r b : List ℕ) → Reads g (3 ∷ x ∷ r) b (bytes Val.Bytes any x r b)
unfolding val_words val_pool nesting Proper
bytes_reads g x r b = go (leb x (length b)) refl
  where
    go : (t : Bool) → leb x (length b) ≡ t → Reads g (3 ∷ x ∷ r) b (only (t && true) (got (Val.Bytes (take x b)) r (drop x b)))
    go true e = (cc (length-take-le x b (leb-true x (length b) e)), sym (take-append-drop x b), omega arith, tt)
    go false e = tt

one_reads : (g : ℕ) (f : ℕ → List ℕ → List ℕ → Parts Vals) (h : List ℕ → List ℕ → Parts Val) → ((n : ℕ) (r b : List ℕ) → Reads g (5 ∷ n ∷ r) b (map Val.Record (f n r b)))
    → ((d : ℕ) (r b : List ℕ) → Reads g (6 ∷ d ∷ r) b (only (ltb d (2 ^ 32)) (map (Val.Union d) (h r b)))) → (w b : List ℕ) → Reads g w b (one_value f h w b)
unfolding one_value val_words val_pool nesting Proper
one_reads g f h rf rh [] b = tt
one_reads g f h rf rh (zero ∷ r) b = (refl, refl, omega arith, tt)
one_reads g f h rf rh (suc zero ∷ []) b = tt
one_reads g f h rf rh (suc zero ∷ x ∷ r) b = (refl, refl, omega arith, tt)
one_reads g f h rf rh (suc (suc zero) ∷ []) b = tt
one_reads g f h rf rh (suc (suc zero) ∷ x ∷ r) b = str_reads g x r b
one_reads g f h rf rh (suc (suc (suc zero)) ∷ []) b = tt
one_reads g f h rf rh (suc (suc (suc zero)) ∷ x ∷ r) b = bytes_reads g x r b
one_reads g f h rf rh (suc (suc (suc (suc zero))) ∷ []) b = tt
one_reads g f h rf rh (suc (suc (suc (suc zero))) ∷ x ∷ r) b = (refl, refl, omega arith, tt)
one_reads g f h rf rh (suc (suc (suc (suc (suc zero)))) ∷ []) b = tt
one_reads g f h rf rh (suc (suc (suc (suc (suc zero)))) ∷ x ∷ r) b = rf x r b
one_reads g f h rf rh (suc (suc (suc (suc (suc (suc zero))))) ∷ []) b = tt
one_reads g f h rf rh (suc (suc (suc (suc (suc (suc zero))))) ∷ x ∷ r) b = rh x r b
one_reads g f h rf rh (suc (suc (suc (suc (suc (suc (suc k)))))) ∷ r) b = tt

no_union : (g d : ℕ) (r b : List ℕ) (t : Bool) → Reads g (6 ∷ d ∷ r) b (only t no)
no_union g d r b true = tt
no_union g d r b false = tt

pub value_reads : (g : ℕ) (w b : List ℕ) → Reads g w b (value_at g w b)
unfolding value_at
value_reads zero w b = one_reads zero (λ n r c. no) (λ r c. no) (λ n r c. tt) (λ d r c. no_union zero d r c (ltb d (2 ^ 32))) w b
value_reads (suc g) w b =
    one_reads (suc g) (values (value_at g)) (value_at g)
    (λ n r c. record_reads g n r c (values (value_at g) n r c) (values_read g (value_at g) (λ u d. value_reads g u d) n r c))
    (λ d r c. union_reads g d r c (value_at g r c) (value_reads g r c))
    w b

pub read_words : (g : ℕ) (w b : List ℕ) {v : Val} {r c : List ℕ} → value_at g w b ≡ got v r c → (w ≡ val_words v ++ r) × (b ≡ val_pool v ++ c) × (nesting v ≤ g) × Proper v
read_words g w b e = subst (Reads g w b) e (value_reads g w b)

-- The words and the pool of one tree are never the beginnings of another's.
pub one_tree : (v v' : Val) (r r' b b' : List ℕ) → Proper v → Proper v' → val_words v ++ r ≡ val_words v' ++ r' → val_pool v ++ b ≡ val_pool v' ++ b' → (v ≡ v') × (r ≡ r') × (b ≡ b')
one_tree v v' r r' b b' s s' e f =
    let x = reads_back v (max (nesting v) (nesting v')) r b (omega arith) s in
    let y = reads_back v' (max (nesting v) (nesting v')) r' b' (omega arith) s' in
    let same : got v r b ≡ got v' r' b' = cc in
    (cc, cc, cc)

whole_is : (g : ℕ) (w b : List ℕ) {v : Val} (q : Parts Val) → value_at g w b ≡ q → whole q ≡ some v → value_at g w b ≡ got v [] []
whole_is g w b (got a [] []) e h = cc
whole_is g w b (got a [] (y ∷ c)) e h = let z : ◌≡◌ {A = ℕ} 0 1 = cc in absurd (omega arith)
whole_is g w b (got a (x ∷ r) c) e h = let z : ◌≡◌ {A = ℕ} 0 1 = cc in absurd (omega arith)
whole_is g w b no e h = let z : ◌≡◌ {A = ℕ} 0 1 = cc in absurd (omega arith)

pub admitted : (w b : List ℕ) (v : Val) → (value_of w b ≡ some v) ↔ Admitted w b v
unfolding value_of
admitted w b v = (λ h. fits (leb (length w) max_value_words) refl (leb (length b) max_value_words) refl h, λ a. back a)
  where
    fits : (t : Bool) → leb (length w) max_value_words ≡ t → (u : Bool) → leb (length b) max_value_words ≡ u → keep (t && u) (whole (value_at max_groups w b)) ≡ some v → Admitted w b v
    fits true e true f h =
        let k = read_words max_groups w b (whole_is max_groups w b (value_at max_groups w b) refl h) in
        record { words = sym (k.0 ∙ append-nil (val_words v)); pool = sym (k.1 ∙ append-nil (val_pool v)); proper = k.3; deep = k.2; long = leb-true _ _ e; large = leb-true _ _ f }
    fits true e false f h = let z : ◌≡◌ {A = ℕ} 0 1 = cc in absurd (omega arith)
    fits false e u f h = let z : ◌≡◌ {A = ℕ} 0 1 = cc in absurd (omega arith)

    back : Admitted w b v → keep (leb (length w) max_value_words && leb (length b) max_value_words) (whole (value_at max_groups w b)) ≡ some v
    back a =
        rw (le-leb (length w) max_value_words a.long, le-leb (length b) max_value_words a.large)
        (ap whole (subst (λ (l : List ℕ). value_at max_groups l b ≡ got v [] []) (append-nil (val_words v) ∙ a.words)
        (subst (λ (l : List ℕ). value_at max_groups (val_words v ++ []) l ≡ got v [] []) (append-nil (val_pool v) ∙ a.pool) (reads_back v max_groups [] [] a.deep a.proper))))

pub its_tree : (w b : List ℕ) → is_some (value_of w b) ≡ true → (v : Val) × Admitted w b v
its_tree w b h = let o = some_of (value_of w b) h in (o.0, (admitted w b o.0).0 o.1)

pub no_tree : (w b : List ℕ) → is_some (value_of w b) ≡ false → (v : Val) → Admitted w b v → ⊥
no_tree w b h v a =
    let e = (admitted w b v).1 a in
    let k : is_some (value_of w b) ≡ true = ap is_some e in
    let z : ◌≡◌ {A = ℕ} 0 1 = cc in
    omega arith
