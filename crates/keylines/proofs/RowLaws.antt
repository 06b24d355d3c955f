-- Laws of a row, of the rows of key lines, and of a piece of them.
use Rattle.std.specs.Prelude.{Some, None, Result, Ok, Err}
use mathlib.Core.Path.{◌≡◌, refl, sym, ap, ◌∙◌}
use mathlib.Core.List.{List, [], ◌∷◌, ◌++◌, append_assoc}
use Prim.Native.Nat.{ℕ, ◌+◌, ◌-◌, ◌*◌, ◌^◌, ◌≤◌, ◌<◌}
use native.Mathlib.Nat.{zero-add}
use native.Mathlib.Omega.{arith}
use lib.ListN.{length, take, drop, set, length-append, drop_of_length-le}
use lib.Seq.{sets-eq, take_at, drop_at}
use Rattle.format.specs.Calls.{Checked, check_key_call}
use Rattle.format.specs.Keylist.{Line, lines_of, in_line, key_in, decimal, row, answer_row, key_row, key_rows, no_type}
use Rattle.format.specs.declared.refusal.Refusal.TheVariants as made
use Rattle.read.specs.declared.Refused.{Refused}
use Rattle.decode.specs.Answers.{checked_of}
use Rattle.keylines.specs.Answers.{rows_left, PieceAsked, FrontPut, PiecePut, NoTypePut, Found, KeyRead, row_of, KeyTold, LineTold, Put, RowPut, NumberPut}
use Rattle.keylines.specs.declared.pieces.Left.{Left}
use Rattle.keylines.specs.declared.pieces.Line as told
use Rattle.keylines.specs.declared.pieces.Piece.{Piece}
use Rattle.keylines.proofs.TextLaws.{line_here, line_left}
use Rattle.keylines.proofs.PairLaws.{counts}
use Rattle.keylines.proofs.DecimalLaws.{put_byte, put_both, put_is, decimal_short}

-- ---- a row

-- a number and the byte behind it
pub put_number : {l m : List ℕ} {at i n : ℕ} (x : ℕ) → Put l m at i (decimal n) → NumberPut l (set m i x) at (i + 1) n x
put_number {l} {m} {at} {i} {n} x p = record { put = put_both p (put_byte m i x); end = omega (arith, p.end) }

pub row_long : (p n e k : ℕ) → length (row p n e k) ≡ length (decimal p) + length (decimal n) + length (decimal e) + length (decimal k) + 4
unfolding row
row_long p n e k = simp length-append (omega arith)

pub row_put : {l m1 m2 m3 m4 : List ℕ} {at a b c d p n e k : ℕ} → NumberPut l m1 at a p 9 → NumberPut m1 m2 a b n 9 → NumberPut m2 m3 b c e 9
    → NumberPut m3 m4 c d k 10 → Put l m4 at d (row p n e k)
unfolding row
row_put p1 p2 p3 p4 = put_is (simp append_assoc) (put_both (put_both (put_both p1.put p2.put) p3.put) p4.put)

-- a row's length, by its numbers' widths
pub row_short : (p n e k : ℕ) → p < 100000 → n < 2 ^ 32 → e < 2 ^ 64 → k < 2 ^ 64 → length (row p n e k) ≤ 59
row_short p n e k hp hn he hk =
    omega (arith, row_long p n e k, decimal_short 4 p hp, decimal_short 9 n (omega arith), decimal_short 19 e (omega arith), decimal_short 19 k (omega arith))

-- what is put at a buffer's front
module _ {l m xs : List ℕ} {r : ℕ} (p : Put l m 0 r xs) (h : length xs ≤ length l) where
  all : m ≡ xs ++ drop (length xs) l
  all = p.stored ∙ sets-eq xs l 0 (omega arith) ∙ ap (λ (k : ℕ). xs ++ drop k l) (zero-add (length xs))

  counted : length xs ≡ r
  counted = omega (arith, p.end)

  pub front_is : take r m ≡ xs
  front_is = ap (take r) all ∙ take_at xs _ r counted

  pub front_put : FrontPut l m r
  front_put = record { counts = counts r m (omega (arith, p.end, p.long)); kept = ap (drop r) all ∙ drop_at xs _ r counted ∙ ap (λ (k : ℕ). drop k l) counted }

-- ---- the row of no type

pub no_type_put : {l m : List ℕ} {r : ℕ} → RowPut l m 0 r (row 0 15 0 0) → 59 ≤ length l → NoTypePut l m r
unfolding no_type
no_type_put {l} p h =
    let room : length (row 0 15 0 0) ≤ length l = omega (arith, p.short) in
    record { front = front_put p.put room; row = front_is p.put room }

-- ---- a key line's row

-- of a line that holds no key
abbrev pub bad_line : Refused
bad_line = record { why = made.BadLine; begun = 0 }

pub key_bad : {ty text buf : List ℕ} → KeyRead text buf None → KeyTold ty text (Err bad_line)
key_bad {ty} v = record { told = λ place. ap (key_row ty place) (sym v.is) }

row_is : (place : ℕ) (r : Result ℕ Refused) → answer_row place (checked_of r).answer (checked_of r).begun ≡ row_of place r
row_is place (Ok k) = refl
row_is place (Err e) = refl

pub key_told : {ty text buf : List ℕ} {n : ℕ} {r : Result ℕ Refused} → KeyRead text buf (Some n) → checked_of r ≡ check_key_call ty (take n buf) → KeyTold ty text r
key_told {ty} {r = r} v e =
    record {
      told = λ place. ap (key_row ty place) (sym v.is) ∙ ap (λ (c : Checked). answer_row place c.answer c.begun) (sym e) ∙ row_is place r;
    }

-- ---- the rows of key lines

rows_none : (ty : List ℕ) (place : ℕ) → key_rows ty place [] ≡ []
unfolding key_rows
rows_none ty place = refl

rows_one : (ty : List ℕ) (place : ℕ) (l : Line) (ls : List Line) → key_rows ty place (l ∷ ls) ≡ key_row ty place (in_line key_in l) ++ key_rows ty (place + 1) ls
unfolding key_rows
rows_one ty place l ls = refl

lines_none : lines_of [] ≡ []
unfolding lines_of
lines_none = refl

-- no rows behind the end
pub rows_left_lem : (ty input : List ℕ) (at place : ℕ) → length input ≤ at → key_rows ty place (lines_of (drop at input)) ≡ []
rows_left_lem ty input at place h = ap (λ (s : List ℕ). key_rows ty place (lines_of s)) (drop_of_length-le input h) ∙ ap (key_rows ty place) lines_none ∙ rows_none ty place

module _ {ty input : List ℕ} {at feed : ℕ} (f : Found input at 10 feed) where
  pub line_bad : at < length input → feed ≡ length input → LineTold ty input at (record { told = Err bad_line; next = feed })
  line_bad h e =
      record {
        rows = λ place. ap (key_rows ty place) (line_left f h e) ∙ rows_one ty place _ []
            ∙ ap (λ (l : List ℕ). row place 20 0 0 ++ l) (rows_none ty (place + 1) ∙ sym (rows_left_lem ty input feed (place + 1) (omega arith)));
        on = omega arith;
        within = omega arith;
      }

  pub line_told : {t : Result ℕ Refused} → KeyTold ty (take (feed - at) (drop at input)) t → feed < length input
      → LineTold ty input at (record { told = t; next = feed + 1 })
  line_told {t} told h =
      record {
        rows = λ place. ap (key_rows ty place) (line_here f h) ∙ rows_one ty place _ _
            ∙ ap (λ (l : List ℕ). l ++ key_rows ty (place + 1) (lines_of (drop (feed + 1) input))) (told.told place);
        on = omega (arith, f.from);
        within = omega arith;
      }

-- ---- a piece

-- the rows of the lines before `at` are put
pub record PieceDone (ty input : List ℕ) (left : Left) (buffer piece : List ℕ) (at number end : ℕ) : Type 0 where
  pub done : List ℕ
  pub rows : rows_left ty input left ≡ done ++ key_rows ty number (lines_of (drop at input))
  pub put : Put buffer piece 0 end done
  pub asked : PieceAsked input ty (record { at = at; line = number })
  pub room : end ≤ length buffer
  pub limit : end ≤ 16384
  -- each line has a row of at most 59 bytes, and a byte of the input at least
  pub few : end + 59 * left.line ≤ 59 * number
  pub steps : number + left.at ≤ at + left.line
  pub moved : left.at < at → left.line < number

pub piece_start : {ty input : List ℕ} {left : Left} (buffer : List ℕ) → PieceAsked input ty left
    → PieceDone ty input left buffer buffer left.at left.line 0
piece_start buffer h =
    record {
      done = [];
      rows = refl;
      put = record { stored = refl; end = refl; long = refl };
      asked = h;
      room = omega arith;
      limit = omega arith;
      few = omega arith;
      steps = omega arith;
      moved = λ k. absurd (omega arith);
    }

module _ {ty input : List ℕ} {left : Left} {buffer piece : List ℕ} {at number end : ℕ} (v : PieceDone ty input left buffer piece at number end) where
  pub line_near : number < 100000
  line_near = omega (arith, v.asked.short, v.asked.place, v.asked.low)

  pub piece_row : {r : told.Line} → LineTold ty input at r → 59 ≤ 16384 - end → length piece ≡ 16384 → {after : List ℕ} {i : ℕ}
      → RowPut piece after end i (row_of number r.told) → PieceDone ty input left buffer after r.next (number + 1) i
  piece_row {r} told h size {after} {i} q =
      let p = q.put in
      let short = q.short in
      record {
        done = v.done ++ row_of number r.told;
        rows = v.rows ∙ ap (λ (l : List ℕ). v.done ++ l) (told.rows number) ∙ sym (append_assoc v.done _ _);
        put = put_both v.put p;
        asked = record { admitted = v.asked.admitted; short = v.asked.short; place = told.within; low = omega (arith, v.asked.low, told.on) };
        room = omega (arith, p.end, v.limit, v.put.long);
        limit = omega (arith, p.end, v.limit);
        few = omega (arith, v.few, p.end);
        steps = omega (arith, v.steps, told.on);
        moved = λ _. omega (arith, v.few);
      }

  abbrev now : Piece
  now = record { len = end; left = record { at = at; line = number } }

  ended : (left.at < length input → (left.at < at) × (left.line < number)) → PiecePut ty input left buffer piece now
  ended on =
      let room : length v.done ≤ length buffer = omega (arith, v.room, v.put.end) in
      record {
        front = front_put v.put room;
        rows = v.rows ∙ ap (λ (l : List ℕ). l ++ key_rows ty number (lines_of (drop at input))) (sym (front_is v.put room));
        asked = v.asked;
        on = on;
      }

  -- no line is left
  pub piece_end : length input ≤ at → PiecePut ty input left buffer piece now
  piece_end h = ended (λ k. (omega arith, v.moved (omega arith)))

  -- no room is left
  pub piece_full : 16384 - end < 59 → PiecePut ty input left buffer piece now
  piece_full h = ended (λ _. (omega (arith, v.few, v.steps, v.limit), omega (arith, v.few, v.limit)))
