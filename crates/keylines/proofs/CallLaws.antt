-- What a program writes that calls as keylist does, by the calls' contracts alone: the pieces of the rows, one after another until nothing is left, are
-- together what is due, and each call leaves less than it found.
use Rattle.std.specs.Prelude.{Ok, Err}
use mathlib.Core.Path.{◌≡◌, sym, ap, ◌∙◌}
use mathlib.Core.List.{List, [], ◌++◌}
use Prim.Native.Nat.{ℕ, ◌+◌, ◌≤◌, ◌<◌}
use native.Mathlib.Omega.{arith}
use lib.ListN.{length, take}
use Rattle.format.specs.Keylist.{keylist}
use Rattle.keylines.specs.Answers.{rows_left, FirstRead, PiecePut, NoTypePut}
use Rattle.keylines.specs.declared.reason.Reason.{Reason}
use Rattle.keylines.specs.declared.pieces.Left.{Left}
use Rattle.keylines.specs.declared.pieces.Piece.{Piece}
use Rattle.keylines.proofs.RowLaws.{rows_left_lem}

-- calls of put_piece, one after another, of which only the contract is known, and the bytes that they put
pub data Calls (ty input : List ℕ) : Left → List ℕ → Type 0 where
  done : {left : Left} → length input ≤ left.at → Calls ty input left []
  then : {left : Left} {buffer after : List ℕ} {r : Piece} {rest : List ℕ} → left.at < length input → PiecePut ty input left buffer after r
      → Calls ty input r.left rest → Calls ty input left (take r.len after ++ rest)

pub joined : {ty input : List ℕ} {left : Left} {out : List ℕ} → Calls ty input left out → out ≡ rows_left ty input left
joined {ty} {input} {left} (done h) = sym (rows_left_lem ty input left.at left.line h)
joined (then {after = after} {r = r} h p rest) = ap (λ (l : List ℕ). take r.len after ++ l) (joined rest) ∙ sym p.rows

-- there are no more calls than bytes
abbrev pub count : {ty input : List ℕ} {left : Left} {out : List ℕ} → Calls ty input left out → ℕ
count (done h) = 0
count (then h p rest) = 1 + count rest

pub few : {ty input : List ℕ} {left : Left} {out : List ℕ} (c : Calls ty input left out) → left.at ≤ length input → count c + left.at ≤ length input
few (done h) k = omega arith
few (then h p rest) k = omega (arith, few rest p.asked.place, (p.on h).0)

-- after the type was read
pub typed : {input buffer : List ℕ} {n : ℕ} {left : Left} {out : List ℕ} → FirstRead input buffer (Ok (record { words = n; left = left })) → Calls (take n buffer) input left out
    → out ≡ keylist input
typed first calls = joined calls ∙ sym first.is.rows

-- after there was none
pub untyped : {input buffer : List ℕ} {why : Reason} → FirstRead input buffer (Err why) → {before after : List ℕ} {r : ℕ} → NoTypePut before after r
    → take r after ≡ keylist input
untyped first put = put.row ∙ sym first.is
