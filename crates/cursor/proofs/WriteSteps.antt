-- What a writing step answers and leaves, by what putting its bytes answered and left.
use Rattle.std.proofs.Common.{◌≡◌, ◌∙◌, refl, sym, ap, true, List, [], ◌∷◌, ℕ, ◌+◌, ◌-◌, arith, eqb, ltb, take, lt-ltb, le-ltb, Result, Err}
use Rattle.format.specs.Answer.{ok, refused}
use Rattle.format.specs.Refusals.{number_of, detail_of, answered, Leaves}
use Rattle.format.specs.declared.refusal.Refusal.{Refusal}
use Rattle.format.specs.Scalar.{int_bytes, uint_bytes, bytes_bytes, str_bytes, ref_bytes, tag_bytes}
use Rattle.format.specs.Utf8.{utf8}
use Rattle.format.specs.Calls.{Called}
use Rattle.format.specs.Fields.{put_at, put_i64_call, put_u64_call, put_str_call, put_bytes_call, put_fact_id_call}
use Rattle.format.specs.Cursor as cursor
use Rattle.scalar.specs.Answers.{TagIn}
use Rattle.scalar.proofs.Cases.{by_test}
use Rattle.cursor.proofs.ReadSteps.{no_depth, refusal_at}
use Rattle.cursor.specs.declared.Cursor.{Cursor}
use Rattle.cursor.specs.Steps.{cursor_of, inner, outer, wrote_of, put_moved, StepLeaves}

module _ (b : List ℕ) (c : Cursor) where
  module _ (r : Result Cursor Refusal) (p : Result ℕ Refusal) (l : List ℕ) where
    left_by : (n : ℕ) → wrote_of r ≡ put_moved n (answered p) → (q : Called ℕ) → Leaves q p l → StepLeaves (cursor.wrote_at n q) r l
    left_by n w q h = record { answer = w ∙ ap (put_moved n) h.answer; left = h.left }

    module _ (d : ℕ) (f : d ≡ cursor.deep (cursor_of c)) (w : wrote_of r ≡ put_moved d (answered p)) where
      pub i64_left : (x : ℕ) → Leaves (put_i64_call b c.at x) p l → StepLeaves (cursor.put_i64 b (cursor_of c) x) r l
      unfolding put_i64_call cursor.put_i64
      i64_left x h = rw (← f) (left_by d w (put_at b c.at (int_bytes x)) h)

      pub u64_left : (x : ℕ) → Leaves (put_u64_call b c.at x) p l → StepLeaves (cursor.put_u64 b (cursor_of c) x) r l
      unfolding put_u64_call cursor.put_u64
      u64_left x h = rw (← f) (left_by d w (put_at b c.at (uint_bytes x)) h)

      pub id_left : (x : ℕ) → Leaves (put_fact_id_call b c.at x) p l → StepLeaves (cursor.put_fact_id b (cursor_of c) x) r l
      unfolding put_fact_id_call cursor.put_fact_id
      id_left x h = rw (← f) (left_by d w (put_at b c.at (ref_bytes x)) h)

      pub bytes_left : (s : List ℕ) → Leaves (put_bytes_call b c.at s) p l → StepLeaves (cursor.put_bytes b (cursor_of c) s) r l
      unfolding put_bytes_call cursor.put_bytes
      bytes_left s h = rw (← f) (left_by d w (put_at b c.at (bytes_bytes s)) h)

      pub str_left : (s : List ℕ) → Leaves (put_str_call b c.at s) p l → StepLeaves (cursor.put_str b (cursor_of c) s) r l
      unfolding put_str_call cursor.put_str
      str_left s h =
          rw (← f)
          (by_test (utf8 s) (λ t. rw t (left_by d w (put_at b c.at (str_bytes s)) (rw t at h)))
          (λ t. rw t (let k = rw t at h in record { answer = w ∙ ap (put_moved d) k.answer; left = k.left })))

      -- a null outside every group, and in one
      module _ {n : ℕ} (h : Leaves (put_at b c.at (take n (0 ∷ 0xFF ∷ []))) p l) where
        pub null_left : n ≡ 1 → d ≡ 0 → StepLeaves (cursor.put_null b (cursor_of c)) r l
        unfolding cursor.put_null
        null_left k z = rw (← f, le-ltb 0 d (omega arith)) (left_by d w (put_at b c.at (0 ∷ [])) (rw k at h))

        pub null_in_left : n ≡ 2 → (d ≡ 0 → ⊥) → StepLeaves (cursor.put_null b (cursor_of c)) r l
        unfolding cursor.put_null
        null_in_left k z = rw (← f, lt-ltb 0 d (omega arith)) (left_by d w (put_at b c.at (0 ∷ 0xFF ∷ [])) (rw k at h))

    -- a group opens, and ends
    module _ (d : ℕ) (w : wrote_of r ≡ put_moved d (answered p)) where
      module _ (i : ok d ≡ inner (cursor_of c)) where
        opened : (s : List ℕ) → Leaves (put_at b c.at s) p l → ltb (cursor.deep (cursor_of c)) 256 ≡ true → StepLeaves (cursor.wrote_at (cursor.deep (cursor_of c) + 1) (put_at b c.at s)) r l
        opened s h t = let q : ok d ≡ ok (cursor.deep (cursor_of c) + 1) = rw t at i in let z : d ≡ cursor.deep (cursor_of c) + 1 = cc in rw (← z) (left_by d w (put_at b c.at s) h)

        pub record_left : Leaves (put_at b c.at (0x22 ∷ [])) p l → StepLeaves (cursor.put_record b (cursor_of c)) r l
        unfolding cursor.put_record
        record_left h = by_test (ltb (cursor.deep (cursor_of c)) 256) (λ t. rw t (opened (0x22 ∷ []) h t)) (λ t. no_depth (sym (rw t at i)))

        pub union_left : (x : ℕ) (t : List ℕ) (n : ℕ) → TagIn x t n → Leaves (put_at b c.at (take n t)) p l → StepLeaves (cursor.put_union b (cursor_of c) x) r l
        unfolding cursor.put_union
        union_left x t n k h = by_test (ltb (cursor.deep (cursor_of c)) 256) (λ u. rw u (opened (tag_bytes x) (rw k.front at h) u)) (λ u. no_depth (sym (rw u at i)))

      pub end_left : ok d ≡ outer (cursor_of c) → Leaves (put_at b c.at (0 ∷ [])) p l → StepLeaves (cursor.put_end b (cursor_of c)) r l
      unfolding cursor.put_end
      end_left o h =
          by_test (eqb c.depth 0) (λ t. no_depth (sym (rw t at o)))
          (λ t. let q : ok d ≡ ok (cursor.deep (cursor_of c) - 1) = rw t at o in
          let z : d ≡ cursor.deep (cursor_of c) - 1 = cc in rw (t, ← z) (left_by d w (put_at b c.at (0 ∷ [])) h))

  -- it may not open, or none is open
  module _ (x : Refusal) where
    module _ (i : refused (number_of x) (detail_of x) ≡ inner (cursor_of c)) where
      pub record_none : StepLeaves (cursor.put_record b (cursor_of c)) (Err x) b
      unfolding cursor.put_record
      record_none = by_test (ltb (cursor.deep (cursor_of c)) 256) (λ t. no_depth (rw t at i)) (λ t. rw t (record { answer = refusal_at (rw t at i); left = refl }))

      pub union_none : (n : ℕ) → StepLeaves (cursor.put_union b (cursor_of c) n) (Err x) b
      unfolding cursor.put_union
      union_none n = by_test (ltb (cursor.deep (cursor_of c)) 256) (λ t. no_depth (rw t at i)) (λ t. rw t (record { answer = refusal_at (rw t at i); left = refl }))

    pub end_none : refused (number_of x) (detail_of x) ≡ outer (cursor_of c) → StepLeaves (cursor.put_end b (cursor_of c)) (Err x) b
    unfolding cursor.put_end
    end_none o = by_test (eqb c.depth 0) (λ t. rw t (record { answer = refusal_at (rw t at o); left = refl })) (λ t. no_depth (rw t at o))
