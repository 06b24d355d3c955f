-- Laws of runs: one for each way out of the function that fills them.
use Rattle.std.proofs.Common.{◌≡◌, ℕ, ◌+◌, ◌-◌, ◌<◌, ◌≤◌, false, List, [], ◌∷◌, ◌++◌, length, get_or, take, drop, sym, refl, ap, ◌∙◌, arith, length-drop, drop-drop}
use Rattle.std.specs.Prelude.{Option, Some, None}
use Rattle.format.specs.Scalar.{escaped}
use Rattle.format.specs.Read.{Read, get_run, starts_ff}
use Rattle.format.specs.Fields.{put}
use Rattle.format.proofs.ReadLaws.{get_run_escaped}
use Rattle.blocks.proofs.Put.{length_put}
use Rattle.scalar.specs.Runs.{measured, unescape}
use Rattle.scalar.specs.declared.runs.Run.{Run}
use Rattle.scalar.proofs.Parts.{part_rest}
use Rattle.scalar.proofs.Measures.{Measured, measured_run, measured_none}
use Rattle.fill.proofs.PlaceLaws.{second_put}
use Rattle.fill.proofs.NumberLaws.{two_kept}
use Rattle.fill.specs.declared.Filled.{Filled}
use Rattle.fill.specs.Fill.{Lent, lent, RunFilled}

-- a run measured behind the mark at i: it ends e bytes on, and its payload has n
module _ (bytes : List ℕ) (i : ℕ) {m : Option Run} (q : m ≡ measured (take (length bytes - (i + 1)) (drop (i + 1) bytes))) where
  its : measured (drop (i + 1) bytes) ≡ m
  its = sym (q ∙ ap measured (part_rest (i + 1) bytes))

  unended : m ≡ None → (x rest : List ℕ) → starts_ff rest ≡ false → drop (i + 1) bytes ≡ escaped x ++ rest → ⊥
  unended y x rest f e =
      let b : Read.bad 1 0 ≡ Read.got x rest = sym (measured_none (drop (i + 1) bytes) (its ∙ y)) ∙ ap get_run e ∙ get_run_escaped x rest f in
      let z : ◌≡◌ {A = ℕ} 0 1 = cc in
      omega arith

  module _ {e n : ℕ} (y : m ≡ Some (record { end = e; len = n })) where
    its_run : Measured (drop (i + 1) bytes) e n
    its_run = measured_run (drop (i + 1) bytes) (record { end = e; len = n }) (its ∙ y)

    pub run_in : i + 1 + e < length bytes
    run_in = omega (arith, its_run.inside, length-drop (i + 1) bytes)

    same_part : take (i + 1 + e - (i + 1)) (drop (i + 1) bytes) ≡ take e (drop (i + 1) bytes)
    same_part = let z : i + 1 + e - (i + 1) ≡ e = omega arith in ap (λ (k : ℕ). take k (drop (i + 1) bytes)) z

    pub run_long : n ≡ length (unescape (take (i + 1 + e - (i + 1)) (drop (i + 1) bytes)))
    run_long = its_run.long ∙ sym (ap (λ (l : List ℕ). length (unescape l)) same_part)

    read_run : (x rest : List ℕ) → starts_ff rest ≡ false → drop (i + 1) bytes ≡ escaped x ++ rest → (unescape (take e (drop (i + 1) bytes)) ≡ x) × (drop (i + 1 + e + 1) bytes ≡ rest)
    read_run x rest f d =
        let b : Read.got (unescape (take e (drop (i + 1) bytes))) (drop (e + 1) (drop (i + 1) bytes)) ≡ Read.got x rest = sym its_run.reads ∙ ap get_run d ∙ get_run_escaped x rest f in
        let far : i + 1 + (e + 1) ≡ i + 1 + e + 1 = omega arith in
        let bs : unescape (take e (drop (i + 1) bytes)) ≡ x = cc in
        let br : drop (e + 1) (drop (i + 1) bytes) ≡ rest = cc in
        (bs, ap (λ (k : ℕ). drop k bytes) (sym far) ∙ sym (drop-drop (e + 1) (i + 1) bytes) ∙ br)

-- the two words of a run
module _ (win : List ℕ) (w kind n : ℕ) {wout : List ℕ} (room : w + 2 ≤ length win) (ew : wout ≡ put win w (kind ∷ n ∷ [])) where
  long_word : get_or wout (w + 1) 0 ≡ n
  long_word = ap (λ (l : List ℕ). get_or l (w + 1) 0) ew ∙ second_put win w kind n room

module _ {bytes : List ℕ} {s : Filled} {a : Lent} {kind : ℕ} (h : s.next < length bytes) (room : s.words + 2 ≤ length a.words) (pl : s.pool ≤ length a.pool) where
  -- no run is filled
  none_filled : {wout : List ℕ} → wout ≡ put a.words s.words (kind ∷ 0 ∷ [])
      → ((x rest : List ℕ) → starts_ff rest ≡ false → drop (s.next + 1) bytes ≡ escaped x ++ rest → s.pool + length x ≤ length a.pool → ⊥) → RunFilled kind bytes s a (length bytes) (lent wout a.pool)
  none_filled ew never =
      let z = long_word a.words s.words kind 0 room ew in
      record {
        onward = record { on = omega arith; inside = omega arith; word_in = room; pool_in = omega arith; few = omega arith; kept_words = two_kept a.words s.words kind 0 room ew; kept_pool = refl };
        right = λ x rest f e l. absurd (never x rest f e l);
      }

  module _ {m : Option Run} (q : m ≡ measured (take (length bytes - (s.next + 1)) (drop (s.next + 1) bytes))) where
    pub run_not : {wout : List ℕ} → m ≡ None → wout ≡ put a.words s.words (kind ∷ 0 ∷ []) → RunFilled kind bytes s a (length bytes) (lent wout a.pool)
    run_not y ew = none_filled ew (λ x rest f e l. unended bytes s.next q y x rest f e)

    module _ {e n : ℕ} (y : m ≡ Some (record { end = e; len = n })) where
      pub run_short : {wout : List ℕ} → length a.pool - s.pool < n → wout ≡ put a.words s.words (kind ∷ 0 ∷ []) → RunFilled kind bytes s a (length bytes) (lent wout a.pool)
      run_short l ew =
          none_filled ew (λ x rest f d fit. omega (arith, (its_run bytes s.next q y).long, ap length (read_run bytes s.next q y x rest f d).0))

      pub run_filled : {wout pout : List ℕ} → n ≤ length a.pool - s.pool → wout ≡ put a.words s.words (kind ∷ n ∷ [])
          → pout ≡ put a.pool s.pool (unescape (take (s.next + 1 + e - (s.next + 1)) (drop (s.next + 1) bytes))) → RunFilled kind bytes s a (s.next + 1 + e + 1) (lent wout pout)
      run_filled {wout} {pout} l ew ep =
          let z = long_word a.words s.words kind n room ew in
          let long = (its_run bytes s.next q y).long in
          let payload = unescape (take e (drop (s.next + 1) bytes)) in
          let ep2 : pout ≡ put a.pool s.pool payload = ep ∙ ap (λ (x : List ℕ). put a.pool s.pool (unescape x)) (same_part bytes s.next q y) in
          record {
            onward = record {
              on = omega arith;
              inside = omega (arith, run_in bytes s.next q y);
              word_in = room;
              pool_in = omega arith;
              few = omega arith;
              kept_words = two_kept a.words s.words kind n room ew;
              kept_pool = ap length ep2 ∙ length_put a.pool s.pool payload (omega arith);
            };
            right = λ x rest f d fit.
                let r = read_run bytes s.next q y x rest f d in
                let ls : n ≡ length x = long ∙ ap length r.0 in
                record {
                  left = r.1;
                  at_words = refl;
                  at_pool = omega arith;
                  written = ew ∙ ap (λ (k : ℕ). put a.words s.words (kind ∷ k ∷ [])) ls;
                  pooled = ep2 ∙ ap (put a.pool s.pool) r.0;
                };
          }
