-- Skipping one field without its type, from any start. It checks no range, UTF-8 or reference, and no width but a discriminant's.
use Rattle.std.specs.Prelude.{ℕ, zero, suc, ◌+◌, ◌-◌, List, [], ◌∷◌, Bool, ◌||◌, ◌&&◌, ltb, leb, eqb, length, drop}
use Rattle.format.specs.Answer.{if, Answer, ok, refused, UnexpectedEof, UnexpectedMark, UnexpectedTerminator, BadRecord}
use Rattle.format.specs.Encode.{max_depth}
use Rattle.format.specs.Read.{Read, then_read, get_big, get_uint, get_run, starts_ff, ends_here}

-- w bytes passed over, at the depth that stays
abbrev pub pass_bytes : ℕ → ℕ → List ℕ → Read ℕ
pass_bytes w depth bs = then_read (get_big w bs) (λ n rest. Read.got depth rest)

-- a null, behind its 00: FF inside a group or where the escape is required, a 00 without it being UnexpectedTerminator; else nothing more
abbrev pub pass_null : Bool → ℕ → List ℕ → Read ℕ
pass_null escape depth bs = if (escape || ltb 0 depth) (if (starts_ff bs) (Read.got depth (drop 1 bs)) (Read.bad UnexpectedTerminator 0)) (Read.got depth bs)

-- a field behind its mark: a scalar is passed over, a group is opened, depth before discriminant
unfoldable pub pass_field : Bool → ℕ → ℕ → List ℕ → Read ℕ
pass_field escape depth m bs =
    if (eqb m 0x00) (pass_null escape depth bs)
    (if (eqb m 0x21 || eqb m 0x53) (then_read (get_run bs) (λ s rest. Read.got depth rest))
    (if (eqb m 0x22) (if (ltb depth max_depth) (Read.got (depth + 1) bs) (Read.bad BadRecord 0))
    (if (ltb m 0x40) (Read.bad UnexpectedMark m)
    (if (ltb m 0x48) (pass_bytes (0x48 - m) depth bs)
    (if (leb m 0x50) (pass_bytes (m - 0x48) depth bs)
    (if (eqb m 0x51) (pass_bytes 8 depth bs)
    (if (eqb m 0x52) (if (ltb depth max_depth) (then_read (get_uint bs) (λ d rest. Read.got (depth + 1) rest)) (Read.bad BadRecord 0))
    (Read.bad UnexpectedMark m))))))))

-- one turn: a group's end or a field; the depth and the bytes after it
unfoldable pub turn : Bool → ℕ → List ℕ → Read ℕ
turn escape depth [] = Read.bad UnexpectedEof 0
turn escape depth (m ∷ bs) = if (ltb 0 depth && ends_here (m ∷ bs)) (Read.got (depth - 1) bs) (pass_field escape depth m bs)

-- turns until no group is open. Each takes a byte, so as many as there are bytes and one more suffice (proofs/SkipLaws: enough)
unfoldable pub walk : ℕ → Bool → ℕ → List ℕ → Read Unit
walk zero escape depth bs = Read.bad UnexpectedEof 0
walk (suc turns) escape depth bs = then_read (turn escape depth bs) (λ d rest. if (eqb d 0) (Read.got tt rest) (walk turns escape d rest))

-- one field at the front of bytes
unfoldable pub skip : Bool → List ℕ → Read Unit
skip escape bs = walk (suc (length bs)) escape 0 bs

abbrev pub end_of : List ℕ → Read Unit → Answer ℕ
end_of key (Read.got u rest) = ok (length key - length rest)
end_of key (Read.bad n d) = refused n d

-- the place in the key behind the field that starts at a place; past the key's end there are no bytes
unfoldable pub skip_from : List ℕ → ℕ → Bool → Answer ℕ
skip_from key start escape = end_of key (skip escape (drop start key))
