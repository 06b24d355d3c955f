-- U14 (specs/Names): a new reader beside get_str on the same bytes. By the bytes that are left: a step takes one character off the run and off its payload, or
-- is the end where the payload is, or refuses where the payload cannot be text.
use mathlib.Core.Path.{◌≡◌, refl, sym, ap, ◌∙◌, subst}
use mathlib.Core.Logic.{◌≢◌}
use mathlib.Core.Bool.{Bool, true, false, false≢true}
use mathlib.Core.List.{List, [], ◌∷◌, ◌++◌}
use Prim.Native.Nat.{ℕ, zero, suc, ◌+◌, ◌-◌, ◌≤◌, ◌<◌}
use native.Mathlib.Omega.{arith}
use lib.Dec.{eqb}
use lib.ListN.{length, take, drop, replicate, length-append, length-drop, length-take}
use lib.Seq.{drop-drop, take-append_seam}
use borrow.Author.Tests.{eq-eqb, ne_eqb, lt-ltb, le-ltb, eqb-true}
use Rattle.format.specs.Answer.{if, Answer, ok, refused, shown, no_room, NoRoom, BadString, UnexpectedEof}
use Rattle.format.specs.Utf8.{first_char, width_of, code_of, utf8, text_from}
use Rattle.format.specs.Read.{Read, got, bad, cons_read, get_run, after_zero, starts_ff, get_str}
use Rattle.format.specs.Fields.{Taken, Place, in_key, in_scratch, Payload, has_zero, placed, placed_from, get_str_call}
use Rattle.format.specs.Calls.{over}
use Rattle.format.specs.Chars.{Step, lead_width, finished, gave, sequence_at, step_on, step_at, opened}
use Rattle.format.proofs.Tests.{Test, holds, fails, eqb_test, ltb_test, leb_test, leb_yes}
use Rattle.format.proofs.EncodeLaws.{no_answer}
use Rattle.format.proofs.BackLaws.{bad_got}
use Rattle.text.proofs.Fronts.{width_fits, char_append, char_take}
use Rattle.text.proofs.Texts.{text_append}
use Rattle.text.proofs.Leads.{lead_some, lead_text}
use Rattle.scalar.proofs.Escapes.{run_eof}
use Rattle.chars.specs.Names.{steps_from, steps_of, codes_from, codes_of, giving, name_in, Shown, Spells, Breaks, Named, Names}
use Rattle.chars.proofs.FrontLaws.{good_front, cons_all, all_got, all_bad, char_over, plain_run}

-- ---- steps, one after another

-- a finished reader gives only the end
ended : (s : List ℕ) (at n : ℕ) → steps_from s at true n ≡ replicate n Step.end
unfolding steps_from step_at
ended s at zero = refl
ended s at (suc n) = ap (λ (l : List Step). Step.end ∷ l) (ended s at n)

module _ (s : List ℕ) (at : ℕ) where
  -- a step that finishes the reader, and one that gives a character
  last_step : (last : Step) → step_at s at false ≡ finished last at → (n : ℕ) → steps_from s at false n ≡ giving [] last n
  unfolding steps_from giving
  last_step last e zero = refl
  last_step last e (suc n) = rw e (ap (λ (l : List Step). last ∷ l) (ended s at n))

  char_step : (c next : ℕ) (codes : List ℕ) (last : Step) → step_at s at false ≡ gave c next → ((n : ℕ) → steps_from s next false n ≡ giving codes last n)
      → (n : ℕ) → steps_from s at false n ≡ giving (c ∷ codes) last n
  unfolding steps_from giving
  char_step c next codes last e h zero = refl
  char_step c next codes last e h (suc n) = rw e (ap (λ (l : List Step). Step.char c ∷ l) (h n))

-- the steps from a place on: these characters, which are no more than the bytes there, and then this
record Runs (s : List ℕ) (at : ℕ) (codes : List ℕ) (last : Step) : Type 0 where
  steps : (n : ℕ) → steps_from s at false n ≡ giving codes last n
  few : length codes ≤ length (drop at s)

-- a refusal before any end
record Stops (s : List ℕ) (at : ℕ) : Type 0 where
  codes : List ℕ
  refusal : ℕ
  detail : ℕ
  runs : Runs s at codes (Step.bad refusal detail)

-- what the steps from a place on are, by what the run from there reads: a text's characters and the end, or a refusal
abbrev Follows : (s : List ℕ) (at : ℕ) → Read (List ℕ) → Type 0
Follows s at (Read.got p rest) = (utf8 p ≡ true → Runs s at (codes_of p) Step.end) × (utf8 p ≡ false → Stops s at)
Follows s at (Read.bad n d) = Stops s at

module _ (s : List ℕ) (at : ℕ) where
  ends_with : (last : Step) → step_at s at false ≡ finished last at → Runs s at [] last
  ends_with last e = record { steps = last_step s at last e; few = omega arith }

  -- the end
  at_end : (rest : List ℕ) → step_at s at false ≡ finished Step.end at → Follows s at (got [] rest)
  unfolding codes_from text_from
  at_end rest e = (λ u. ends_with Step.end e, λ u. absurd (false≢true (sym u)))

  -- a refusal, where the payload that may follow is no text
  at_stop : (m d : ℕ) (r : Read (List ℕ)) → step_at s at false ≡ finished (Step.bad m d) at → ((p rest : List ℕ) → r ≡ got p rest → utf8 p ≡ true → ⊥) → Follows s at r
  at_stop m d r e h = go r h
    where
      here : Stops s at
      here = record { codes = []; refusal = m; detail = d; runs = ends_with (Step.bad m d) e }

      go : (r : Read (List ℕ)) → ((p rest : List ℕ) → r ≡ got p rest → utf8 p ≡ true → ⊥) → Follows s at r
      go (Read.got p rest) h = (λ u. absurd (h p rest refl u), λ u. here)
      go (Read.bad n d) h = here

  -- a character of the bytes bs, in front of what follows
  module _ (c next : ℕ) (bs : List ℕ) (e : step_at s at false ≡ gave c next) (l : length (drop next s) < length (drop at s))
      (ut : (p : List ℕ) → utf8 (bs ++ p) ≡ utf8 p) (cs : (p : List ℕ) → codes_of (bs ++ p) ≡ c ∷ codes_of p) where
    run_on : (codes : List ℕ) (last : Step) → Runs s next codes last → Runs s at (c ∷ codes) last
    run_on codes last h = record { steps = char_step s at c next codes last e h.steps; few = omega (arith, h.few) }

    stop_on : Stops s next → Stops s at
    stop_on h = record { codes = c ∷ h.codes; refusal = h.refusal; detail = h.detail; runs = run_on h.codes (Step.bad h.refusal h.detail) h.runs }

    at_char : (m : Read (List ℕ)) → Follows s next m → Follows s at (cons_all bs m)
    at_char (Read.got p rest) h = rw (all_got bs p rest, cs p) (λ u. run_on (codes_of p) Step.end (h.0 (sym (ut p) ∙ u)), λ u. stop_on (h.1 (sym (ut p) ∙ u)))
    at_char (Read.bad n d) h = rw (all_bad bs n d) (stop_on h)

-- ---- the code points of a character in front

codes_skip : (x p : List ℕ) → codes_from (length x) (x ++ p) ≡ codes_of p
unfolding codes_from
codes_skip [] p = refl
codes_skip (b ∷ x) p = codes_skip x p

codes_char : (b : ℕ) (x p : List ℕ) → width_of (first_char (b ∷ x)) ≡ suc (length x) → codes_of ((b ∷ x) ++ p) ≡ code_of (first_char (b ∷ x)) ∷ codes_of p
unfolding codes_from
codes_char b x p e =
    let f : first_char ((b ∷ x) ++ p) ≡ first_char (b ∷ x) = char_append (b ∷ x) p (λ z. omega arith) in
    rw (f, e) (ap (λ (l : List ℕ). code_of (first_char (b ∷ x)) ∷ l) (codes_skip x p))

zero_text : (p : List ℕ) → utf8 ((0 ∷ []) ++ p) ≡ utf8 p
unfolding text_from first_char
zero_text p = refl

zero_codes : (p : List ℕ) → codes_of ((0 ∷ []) ++ p) ≡ 0 ∷ codes_of p
unfolding codes_from first_char
zero_codes p = refl

-- ---- one step, with what follows known

-- the reader's place as the bytes that are left
behind : (s : List ℕ) (at k : ℕ) (l : List ℕ) → drop at s ≡ l → drop (at + k) s ≡ drop k l
behind s at k l e = sym (drop-drop k at s) ∙ ap (drop k) e

module _ (s : List ℕ) (at : ℕ) (ih : (next : ℕ) → length (drop next s) < length (drop at s) → Follows s next (get_run (drop next s))) where
  step_is : (l : List ℕ) → drop at s ≡ l → step_at s at false ≡ step_on at l
  unfolding step_at
  step_is l e = ap (step_on at) e

  -- what follows the next k bytes
  ih_at : (k : ℕ) (r : List ℕ) → drop (at + k) s ≡ r → length r < length (drop at s) → Follows s (at + k) (get_run r)
  ih_at k r e l = subst (λ (x : List ℕ). Follows s (at + k) (get_run x)) e (ih (at + k) (rw e l))

  at_zero : (r : List ℕ) → drop at s ≡ 0 ∷ r → Follows s at (after_zero r)
  unfolding get_run step_on starts_ff
  at_zero [] e = at_end s at [] (step_is (0 ∷ []) e)
  at_zero (c ∷ r) e = go (eqb_test c 0xFF) refl
    where
      go : {x : Bool} → Test (c ≡ 0xFF) (c ≢ 0xFF) x → eqb c 0xFF ≡ x → Follows s at (if x (cons_read 0 (get_run r)) (got [] (c ∷ r)))
      go (fails f) q = at_end s at (c ∷ r) (step_is (0 ∷ c ∷ r) e ∙ rw q)
      go (holds f) q =
          let n : drop (at + 2) s ≡ r = behind s at 2 (0 ∷ c ∷ r) e in
          let l : length r < length (drop at s) = rw e (omega arith) in
          at_char s at 0 (at + 2) (0 ∷ []) (step_is (0 ∷ c ∷ r) e ∙ rw q) (rw n l) zero_text zero_codes (get_run r) (ih_at 2 r n l)

  -- at another byte than 00, a lead
  module _ (b : ℕ) (r : List ℕ) (e : drop at s ≡ b ∷ r) (z : b ≡ 0 → ⊥) where
    in_sequence : step_at s at false ≡ sequence_at at (lead_width b) (b ∷ r)
    unfolding step_on
    in_sequence = step_is (b ∷ r) e ∙ rw (ne_eqb b 0 z)

    -- too few bytes; no character; and a character of width suc k
    at_short : length (b ∷ r) < lead_width b → Follows s at (get_run (b ∷ r))
    at_short h = at_stop s at UnexpectedEof 0 (get_run (b ∷ r)) (in_sequence ∙ rw (lt-ltb (length (b ∷ r)) (lead_width b) h))
        (λ p rest g u. let w = good_front b r p rest z g u in omega (arith, width_fits (b ∷ r)))

    at_bad : lead_width b ≤ length (b ∷ r) → utf8 (take (lead_width b) (b ∷ r)) ≡ false → Follows s at (get_run (b ∷ r))
    at_bad h f = at_stop s at BadString 0 (get_run (b ∷ r)) (in_sequence ∙ rw (le-ltb (length (b ∷ r)) (lead_width b) h, f))
        (λ p rest g u. false≢true (sym f ∙ lead_text b r ∙ eq-eqb (width_of (first_char (b ∷ r))) (lead_width b) (good_front b r p rest z g u)))

    at_good : (k : ℕ) → lead_width b ≡ suc k → suc k ≤ length (b ∷ r) → utf8 (take (lead_width b) (b ∷ r)) ≡ true → Follows s at (get_run (b ∷ r))
    unfolding get_run
    at_good k w h f =
        let wide : width_of (first_char (b ∷ r)) ≡ suc k = eqb-true (width_of (first_char (b ∷ r))) (lead_width b) (sym (lead_text b r) ∙ f) ∙ w in
        let lx : length (take k r) ≡ k = length-take k r ∙ omega (arith, h) in
        let same : first_char (b ∷ take k r) ≡ first_char (b ∷ r) = char_take (suc k) (b ∷ r) (omega (arith, wide)) in
        let tx : utf8 (b ∷ take k r) ≡ true = subst (λ (n : ℕ). utf8 (take n (b ∷ r)) ≡ true) w f in
        let n : drop (at + suc k) s ≡ drop k r = behind s at (suc k) (b ∷ r) e in
        let l : length (drop k r) < length (drop at s) = rw e (omega (arith, length-drop k r)) in
        let st : step_at s at false ≡ gave (code_of (first_char (b ∷ r))) (at + suc k) = in_sequence ∙ rw (w, le-ltb (length (b ∷ r)) (suc k) h, tx) in
        let cs : (p : List ℕ) → codes_of ((b ∷ take k r) ++ p) ≡ code_of (first_char (b ∷ r)) ∷ codes_of p =
        λ p. codes_char b (take k r) p (ap width_of same ∙ wide ∙ ap suc (sym lx)) ∙ ap (λ (x : ℕ). x ∷ codes_of p) (ap code_of same) in
        rw (ne_eqb b 0 z, char_over b k r wide (omega (arith, h))) (
        at_char s at (code_of (first_char (b ∷ r))) (at + suc k) (b ∷ take k r) st (rw n l) (λ p. text_append (b ∷ take k r) p tx) cs (get_run (drop k r)) (ih_at (suc k) (drop k r) n l))

    at_lead : Follows s at (get_run (b ∷ r))
    at_lead = short (ltb_test (length (b ∷ r)) (lead_width b))
      where
        good : (k : ℕ) → lead_width b ≡ k → 0 < k → k ≤ length (b ∷ r) → (x : Bool) → utf8 (take (lead_width b) (b ∷ r)) ≡ x → Follows s at (get_run (b ∷ r))
        good zero w p h x f = absurd (omega arith)
        good (suc k) w p h true f = at_good k w h f
        good (suc k) w p h false f = at_bad (omega (arith, w)) f

        short : {x : Bool} → Test (length (b ∷ r) < lead_width b) (lead_width b ≤ length (b ∷ r)) x → Follows s at (get_run (b ∷ r))
        short (holds h) = at_short h
        short (fails h) = good (lead_width b) refl (lead_some b) h (utf8 (take (lead_width b) (b ∷ r))) refl

  one_step : (l : List ℕ) → drop at s ≡ l → Follows s at (get_run l)
  unfolding get_run step_on
  one_step [] e = at_stop s at UnexpectedEof 0 (bad UnexpectedEof 0) (step_is [] e) (λ p rest g u. bad_got g)
  one_step (b ∷ r) e = go (eqb_test b 0) refl
    where
      go : {x : Bool} → Test (b ≡ 0) (b ≢ 0) x → eqb b 0 ≡ x → Follows s at (get_run (b ∷ r))
      go (holds z) q = rw q (at_zero r (e ∙ ap (λ (c : ℕ). c ∷ r) z))
      go (fails z) q = at_lead b r e z

-- all steps, by the bytes that are left
follow : (k : ℕ) (s : List ℕ) (at : ℕ) → length (drop at s) ≤ k → Follows s at (get_run (drop at s))
follow zero s at h = one_step s at (λ next l. absurd (omega arith)) (drop at s) refl
follow (suc k) s at h = one_step s at (λ next l. follow k s next (omega arith)) (drop at s) refl

-- ---- get_str

-- a payload is handed out, or there is not room enough for it
data Handed (bytes p scratch : List ℕ) (c : Payload) : Type 0 where
  out : (t : Taken Place) → c.answer ≡ ok t → name_in bytes c ≡ p → Handed bytes p scratch c
  no_room_at : c.answer ≡ no_room (length p) → length scratch < length p → Handed bytes p scratch c

module _ (s : List ℕ) where
  abbrev bytes : List ℕ
  bytes = 0x21 ∷ s

  handed : (used : ℕ) (p rest scratch : List ℕ) → get_run s ≡ got p rest → Handed bytes p scratch (placed 0 used p scratch)
  handed used p rest scratch e = go (has_zero p) refl (leb_test (length p) (length scratch))
    where
      go : (x : Bool) → has_zero p ≡ x → {y : Bool} → Test (length p ≤ length scratch) (length scratch < length p) y
          → Handed bytes p scratch (if x (if y (record { answer = ok (record { value = in_scratch (length p); used = used }); scratch = over p scratch }) (record { answer = no_room (length p); scratch = scratch }))
          (record { answer = ok (record { value = in_key 1 (length p); used = used }); scratch = scratch }))
      go true q (holds h) = out (record { value = in_scratch (length p); used = used }) refl
          (rw (leb_yes (0 + length p) (length (over p scratch)) (omega (arith, length-append p (drop (length p) scratch)))) (take-append_seam p (drop (length p) scratch)))
      go true q (fails h) = no_room_at refl h
      go false q y = let r = plain_run s p rest e q in
          out (record { value = in_key 1 (length p); used = used }) refl (rw (leb_yes (1 + length p) (length bytes) (omega (arith, r.0))) r.1)

  -- what get_str reads, beside what the reader gives
  data Outcome : Type 0 where
    text : (p rest : List ℕ) → get_str bytes ≡ got p rest → get_run s ≡ got p rest → Spells bytes p → Outcome
    no_text : (n d : ℕ) → get_str bytes ≡ bad n d → n ≢ NoRoom → Breaks bytes → Outcome

  shown_by : (codes : List ℕ) (last : Step) → Runs s 0 codes last → (n : ℕ) → Shown bytes n (steps_of bytes n) codes last
  shown_by codes last r n = record { given = r.steps n; few = omega (arith, r.few) }

  breaks : Stops s 0 → Breaks bytes
  breaks r = record { codes = r.codes; refusal = r.refusal; detail = r.detail; steps = shown_by r.codes (Step.bad r.refusal r.detail) r.runs }

  outcome : Outcome
  unfolding get_str
  outcome = go (get_run s) refl (follow (length s) s 0 (omega arith))
    where
      go : (m : Read (List ℕ)) → get_run s ≡ m → Follows s 0 m → Outcome
      go (Read.bad n d) e f = let k : bad n d ≡ bad 1 0 = sym e ∙ run_eof s n d e in no_text n d (rw e) (λ z. let q : n ≡ 1 = cc in omega arith) (breaks f)
      go (Read.got p rest) e f = judged (utf8 p) refl
        where
          judged : (x : Bool) → utf8 p ≡ x → Outcome
          judged true u = text p rest (rw (e, u)) e (shown_by (codes_of p) Step.end (f.0 u))
          judged false u = no_text BadString 0 (rw (e, u)) (λ z. omega arith) (breaks (f.1 u))

  placed_by : (m : Read (List ℕ)) → get_str bytes ≡ m → (scratch : List ℕ) → get_str_call bytes scratch ≡ placed_from 0 bytes scratch m
  unfolding get_str_call
  placed_by m e scratch = ap (placed_from 0 bytes scratch) e

  opens_at : opened bytes ≡ ok s
  unfolding opened
  opens_at = refl

  named_text : (p rest : List ℕ) → get_str bytes ≡ got p rest → get_run s ≡ got p rest → Spells bytes p → (scratch : List ℕ) → Named bytes scratch
  named_text p rest e f sp scratch = record {
    opens = opens_at;
    accepted = λ t a. given (here scratch) a;
    short = λ d a. record { name = p; long = needs (here scratch) a; accepts = λ wide l. (fits l (here wide)).0; decodes = λ wide l. (fits l (here wide)).1; spelt = sp };
    refuses = λ n d h a. absurd (only (here scratch) h a);
  }
    where
      Out : List ℕ → Type 0
      Out scratch = Handed bytes p scratch (get_str_call bytes scratch)

      here : (scratch : List ℕ) → Out scratch
      here scratch = rw (placed_by (got p rest) e scratch) (handed (length bytes - length rest) p rest scratch f)

      given : {scratch : List ℕ} {t : Taken Place} → Out scratch → (get_str_call bytes scratch).answer ≡ ok t → Spells bytes (name_in bytes (get_str_call bytes scratch))
      given (out t a n) b = rw n sp
      given (no_room_at a l) b = absurd (no_answer (sym a ∙ b))

      needs : {scratch : List ℕ} {d : ℕ} → Out scratch → (get_str_call bytes scratch).answer ≡ refused NoRoom d → d ≡ shown (length p)
      needs (out t a n) b = absurd (no_answer (sym b ∙ a))
      needs {scratch} {d} (no_room_at a l) b = let q : ◌≡◌ {A = Answer (Taken Place)} (no_room (length p)) (refused NoRoom d) = sym a ∙ b in cc

      fits : {scratch : List ℕ} → length p ≤ length scratch → Out scratch → ((t : Taken Place) × ((get_str_call bytes scratch).answer ≡ ok t)) × (name_in bytes (get_str_call bytes scratch) ≡ p)
      fits h (out t a n) = ((t, a), n)
      fits h (no_room_at a l) = absurd (omega arith)

      only : {scratch : List ℕ} {n d : ℕ} → Out scratch → n ≢ NoRoom → (get_str_call bytes scratch).answer ≡ refused n d → ⊥
      only (out t a n) h b = no_answer (sym b ∙ a)
      only {scratch} {n} {d} (no_room_at a l) h b = h (let q : ◌≡◌ {A = Answer (Taken Place)} (no_room (length p)) (refused n d) = sym a ∙ b in cc)

  named_none : (n d : ℕ) → get_str bytes ≡ bad n d → n ≢ NoRoom → Breaks bytes → (scratch : List ℕ) → Named bytes scratch
  named_none n d e h b scratch = record {
    opens = opens_at;
    accepted = λ t a. absurd (no_answer (sym here ∙ a));
    short = λ k a. absurd (h (let q : ◌≡◌ {A = Answer (Taken Place)} (refused n d) (refused NoRoom k) = sym here ∙ a in cc));
    refuses = λ m k ne a. b;
  }
    where
      here : (get_str_call bytes scratch).answer ≡ refused n d
      here = ap (λ (c : Payload). c.answer) (placed_by (bad n d) e scratch)

  named_by : Outcome → (scratch : List ℕ) → Named bytes scratch
  named_by (text p rest e f sp) = named_text p rest e f sp
  named_by (no_text n d e h b) = named_none n d e h b

pub names : Names
names = record { named = λ s scratch. named_by s (outcome s) scratch }
