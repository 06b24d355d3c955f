-- Single fields outside a tree: what the get and put calls answer, and where a payload lies.
use Rattle.std.specs.Prelude.{ℕ, ◌+◌, ◌-◌, List, [], ◌∷◌, ◌++◌, Bool, true, false, ltb, leb, eqb, length, take, drop}
use Rattle.format.specs.Answer.{if, Answer, ok, refused, no_room, BadString}
use Rattle.format.specs.Scalar.{int_bytes, uint_bytes, str_bytes, bytes_bytes, ref_bytes}
use Rattle.format.specs.Utf8.{utf8}
use Rattle.format.specs.Read.{Read, get_int, get_uint, get_str, get_bytes}
use Rattle.format.specs.Calls.{Called, over}

-- ---- reading: the value and how many bytes it took

pub record Taken (A : Type 0) : Type 0 where
  pub value : A
  pub used : ℕ

abbrev pub taken_from : {A : Type 0} → List ℕ → Read A → Answer (Taken A)
taken_from bytes (Read.got a rest) = ok (record { value = a; used = length bytes - length rest })
taken_from bytes (Read.bad n d) = refused n d

unfoldable pub get_i64_call : List ℕ → Answer (Taken ℕ)
get_i64_call bytes = taken_from bytes (get_int bytes)

unfoldable pub get_u64_call : List ℕ → Answer (Taken ℕ)
get_u64_call bytes = taken_from bytes (get_uint bytes)

-- ---- payloads: a part of the key where no escape occurs, otherwise of the scratch buffer, filled just before

-- where a payload is: so many bytes of the key from a place on, or so many from the scratch buffer's start
pub data Place : Type 0 where
  in_key : (at len : ℕ) → Place
  in_scratch : (len : ℕ) → Place

-- does a payload hold a zero, so that its run has an escape?
unfoldable pub has_zero : List ℕ → Bool
has_zero [] = false
has_zero (b ∷ bs) = if (eqb b 0) true (has_zero bs)

-- a call that hands out a payload: where it is and how many bytes the field took, and the scratch buffer afterwards
pub record Payload : Type 0 where
  pub answer : Answer (Taken Place)
  pub scratch : List ℕ

-- a payload read behind a mark at place `at` of its key; NoRoom with the payload's length where it has escapes and the scratch buffer is short
abbrev pub placed : (at used : ℕ) (payload scratch : List ℕ) → Payload
placed at used payload scratch =
    if (has_zero payload)
    (if (leb (length payload) (length scratch))
    (record { answer = ok (record { value = in_scratch (length payload); used = used }); scratch = over payload scratch })
    (record { answer = no_room (length payload); scratch = scratch }))
    (record { answer = ok (record { value = in_key (at + 1) (length payload); used = used }); scratch = scratch })

abbrev pub placed_from : (at : ℕ) (bytes scratch : List ℕ) → Read (List ℕ) → Payload
placed_from at bytes scratch (Read.got s rest) = placed at (length bytes - length rest) s scratch
placed_from at bytes scratch (Read.bad n d) = record { answer = refused n d; scratch = scratch }

-- BadString before NoRoom: text is judged without writing
unfoldable pub get_str_call : (bytes scratch : List ℕ) → Payload
get_str_call bytes scratch = placed_from 0 bytes scratch (get_str bytes)

unfoldable pub get_bytes_call : (bytes scratch : List ℕ) → Payload
get_bytes_call bytes scratch = placed_from 0 bytes scratch (get_bytes bytes)

-- a part of a list that lies within it, or the empty part
abbrev pub part_within : List ℕ → ℕ → ℕ → List ℕ
part_within l at len = if (leb (at + len) (length l)) (take len (drop at l)) []

-- the part of one of the two that an answer names; a refused one is the empty part
abbrev pub part_of : List ℕ → List ℕ → Answer (Taken Place) → List ℕ
part_of key scratch (refused n d) = []
part_of key scratch (ok t) = pick_part key scratch t.value
  where
    pick_part : List ℕ → List ℕ → Place → List ℕ
    pick_part key scratch (in_key at len) = part_within key at len
    pick_part key scratch (in_scratch len) = part_within scratch 0 len

-- ---- writing at a place of a buffer: NoRoom counts from the buffer's start, and a place past the buffer is NoRoom with that place

-- bytes put over a buffer from a place on
abbrev pub put : List ℕ → ℕ → List ℕ → List ℕ
put buffer at bytes = take at buffer ++ (bytes ++ drop (at + length bytes) buffer)

-- the place behind what is written is the answer
abbrev pub put_at : (buffer : List ℕ) (at : ℕ) (bytes : List ℕ) → Called ℕ
put_at buffer at bytes =
    if (ltb (length buffer) at) (record { answer = no_room at; buffer = buffer })
    (if (ltb (length buffer) (at + length bytes)) (record { answer = no_room (at + length bytes); buffer = buffer })
    (record { answer = ok (at + length bytes); buffer = put buffer at bytes }))

unfoldable pub put_i64_call : (buffer : List ℕ) (at word : ℕ) → Called ℕ
put_i64_call buffer at word = put_at buffer at (int_bytes word)

unfoldable pub put_u64_call : (buffer : List ℕ) (at number : ℕ) → Called ℕ
put_u64_call buffer at number = put_at buffer at (uint_bytes number)

unfoldable pub put_bytes_call : (buffer : List ℕ) (at : ℕ) (payload : List ℕ) → Called ℕ
put_bytes_call buffer at payload = put_at buffer at (bytes_bytes payload)

-- bytes that are not UTF-8 are BadString, before NoRoom
unfoldable pub put_str_call : (buffer : List ℕ) (at : ℕ) (text : List ℕ) → Called ℕ
put_str_call buffer at text = if (utf8 text) (put_at buffer at (str_bytes text)) (record { answer = refused BadString 0; buffer = buffer })

unfoldable pub put_fact_id_call : (buffer : List ℕ) (at raw : ℕ) → Called ℕ
put_fact_id_call buffer at raw = put_at buffer at (ref_bytes raw)
