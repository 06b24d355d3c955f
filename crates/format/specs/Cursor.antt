-- The reading and the writing cursor: a place and a depth, by value. After a refusal the cursor is the one given.
use Rattle.std.specs.Prelude.{ℕ, ◌+◌, ◌-◌, List, [], ◌∷◌, Bool, false, ltb, eqb, length, drop}
use Rattle.format.specs.Answer.{if, Answer, ok, refused, and_then, UnexpectedEof, UnexpectedMark, BadString, BadRecord}
use Rattle.format.specs.Scalar.{int_bytes, uint_bytes, str_bytes, bytes_bytes, ref_bytes, tag_bytes}
use Rattle.format.specs.Utf8.{utf8}
use Rattle.format.specs.Encode.{max_depth, null_bytes}
use Rattle.format.specs.Read.{Read, get_int, get_uint, get_str, get_bytes, get_fact_id, ends_here}
pub use Rattle.format.specs.Read.{null_at}
use Rattle.format.specs.Calls.{Called}
use Rattle.format.specs.Fields.{Place, Payload, placed_from, put_at}

pub record Cursor : Type 0 where
  pub at : ℕ
  pub depth : ℕ

-- a depth over 256 reads as 256
abbrev pub deep : Cursor → ℕ
deep c = if (ltb c.depth max_depth) c.depth max_depth

-- a place past the end reads as no bytes left
abbrev pub rest : List ℕ → Cursor → List ℕ
rest key c = drop c.at key

-- a value, and the cursor behind it
pub record Moved (A : Type 0) : Type 0 where
  pub value : A
  pub next : Cursor

-- the cursor so many bytes on, and at a depth
abbrev pub on_to : Cursor → ℕ → ℕ → Cursor
on_to c n depth = record { at = c.at + n; depth = depth }

abbrev pub moved_by : {A : Type 0} → List ℕ → Cursor → ℕ → Read A → Answer (Moved A)
moved_by bytes c depth (Read.got a behind) = ok (record { value = a; next = on_to c (length bytes - length behind) depth })
moved_by bytes c depth (Read.bad n d) = refused n d

-- ---- reading

unfoldable pub take_i64 : List ℕ → Cursor → Answer (Moved ℕ)
take_i64 key c = moved_by (rest key c) c (deep c) (get_int (rest key c))

unfoldable pub take_u64 : List ℕ → Cursor → Answer (Moved ℕ)
take_u64 key c = moved_by (rest key c) c (deep c) (get_uint (rest key c))

-- ReservedFactId, but no predicate check: no type is at hand
unfoldable pub take_fact_id : List ℕ → Cursor → Answer (Moved ℕ)
take_fact_id key c = moved_by (rest key c) c (deep c) (get_fact_id (rest key c))

unfoldable pub take_null : List ℕ → Cursor → Answer (Moved Unit)
take_null key c = moved_by (rest key c) c (deep c) (null_at (deep c) (rest key c))

-- a payload in the key or the scratch buffer; `at` of its place is the key's
pub record MovedPayload : Type 0 where
  pub answer : Answer (Moved Place)
  pub scratch : List ℕ

abbrev pub payload_moved : Cursor → Payload → MovedPayload
payload_moved c p = record { answer = and_then p.answer (λ t. ok (record { value = t.value; next = on_to c t.used (deep c) })); scratch = p.scratch }

unfoldable pub take_str : (key : List ℕ) → Cursor → (scratch : List ℕ) → MovedPayload
take_str key c scratch = payload_moved c (placed_from c.at (rest key c) scratch (get_str (rest key c)))

unfoldable pub take_bytes : (key : List ℕ) → Cursor → (scratch : List ℕ) → MovedPayload
take_bytes key c scratch = payload_moved c (placed_from c.at (rest key c) scratch (get_bytes (rest key c)))

-- a record's mark, then its depth
abbrev pub record_mark : ℕ → List ℕ → Read Unit
record_mark depth [] = Read.bad UnexpectedEof 0
record_mark depth (b ∷ bs) = if (eqb b 0x22) (if (ltb depth max_depth) (Read.got tt bs) (Read.bad BadRecord 0)) (Read.bad UnexpectedMark b)

unfoldable pub open_record : List ℕ → Cursor → Answer (Moved Unit)
open_record key c = moved_by (rest key c) c (deep c + 1) (record_mark (deep c) (rest key c))

-- a union's mark, its discriminant, then its depth
abbrev pub tag_at : ℕ → Read ℕ → Read ℕ
tag_at depth (Read.got tag behind) = if (ltb depth max_depth) (Read.got tag behind) (Read.bad BadRecord 0)
tag_at depth (Read.bad n d) = Read.bad n d

abbrev pub union_mark : ℕ → List ℕ → Read ℕ
union_mark depth [] = Read.bad UnexpectedEof 0
union_mark depth (b ∷ bs) = if (eqb b 0x52) (tag_at depth (get_uint bs)) (Read.bad UnexpectedMark b)

unfoldable pub open_union : List ℕ → Cursor → Answer (Moved ℕ)
open_union key c = moved_by (rest key c) c (deep c + 1) (union_mark (deep c) (rest key c))

-- the end of the group that is open, or the byte met
abbrev pub group_end : List ℕ → Read Unit
group_end [] = Read.bad UnexpectedEof 0
group_end (b ∷ bs) = if (ends_here (b ∷ bs)) (Read.got tt bs) (Read.bad UnexpectedMark b)

-- closing at depth 0 is BadRecord, before any byte is looked at
unfoldable pub close : List ℕ → Cursor → Answer (Moved Unit)
close key c = if (eqb c.depth 0) (refused BadRecord 0) (moved_by (rest key c) c (deep c - 1) (group_end (rest key c)))

-- does the open group end here? At depth 0 no group is open
abbrev pub end_ahead : List ℕ → Answer Bool
end_ahead [] = refused UnexpectedEof 0
end_ahead (b ∷ bs) = ok (ends_here (b ∷ bs))

unfoldable pub is_record_end : List ℕ → Cursor → Answer Bool
is_record_end key c = if (eqb c.depth 0) (ok false) (end_ahead (rest key c))

-- ---- writing

-- what a writing step leaves: the next cursor, and the buffer
pub record Wrote : Type 0 where
  pub answer : Answer Cursor
  pub buffer : List ℕ

abbrev pub wrote_at : ℕ → Called ℕ → Wrote
wrote_at depth p = record { answer = and_then p.answer (λ at. ok (record { at = at; depth = depth })); buffer = p.buffer }

abbrev pub kept : List ℕ → ℕ → ℕ → Wrote
kept buffer n d = record { answer = refused n d; buffer = buffer }

unfoldable pub put_null : List ℕ → Cursor → Wrote
put_null buffer c = wrote_at (deep c) (put_at buffer c.at (null_bytes (deep c)))

unfoldable pub put_i64 : List ℕ → Cursor → ℕ → Wrote
put_i64 buffer c word = wrote_at (deep c) (put_at buffer c.at (int_bytes word))

unfoldable pub put_u64 : List ℕ → Cursor → ℕ → Wrote
put_u64 buffer c number = wrote_at (deep c) (put_at buffer c.at (uint_bytes number))

-- bytes that are not UTF-8 are BadString, before NoRoom
unfoldable pub put_str : List ℕ → Cursor → List ℕ → Wrote
put_str buffer c text = if (utf8 text) (wrote_at (deep c) (put_at buffer c.at (str_bytes text))) (kept buffer BadString 0)

unfoldable pub put_bytes : List ℕ → Cursor → List ℕ → Wrote
put_bytes buffer c payload = wrote_at (deep c) (put_at buffer c.at (bytes_bytes payload))

unfoldable pub put_fact_id : List ℕ → Cursor → ℕ → Wrote
put_fact_id buffer c raw = wrote_at (deep c) (put_at buffer c.at (ref_bytes raw))

-- a group opens at depth 0 to 255; BadRecord before NoRoom
unfoldable pub put_record : List ℕ → Cursor → Wrote
put_record buffer c = if (ltb (deep c) max_depth) (wrote_at (deep c + 1) (put_at buffer c.at (0x22 ∷ []))) (kept buffer BadRecord 0)

unfoldable pub put_union : List ℕ → Cursor → ℕ → Wrote
put_union buffer c disc = if (ltb (deep c) max_depth) (wrote_at (deep c + 1) (put_at buffer c.at (tag_bytes disc))) (kept buffer BadRecord 0)

unfoldable pub put_end : List ℕ → Cursor → Wrote
put_end buffer c = if (eqb c.depth 0) (kept buffer BadRecord 0) (wrote_at (deep c - 1) (put_at buffer c.at (0 ∷ [])))
