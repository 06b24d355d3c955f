-- Every refusal of a call is one of the numbered ones, from 1 to the last; so refusal 0 in an answer says that the call was accepted.
use mathlib.Core.Bool.{Bool, true, false, ◌||◌, ◌&&◌}
use mathlib.Core.List.{List, [], ◌∷◌}
use mathlib.Core.Option.{Option, some, none}
use Prim.Native.Nat.{ℕ, zero, suc, ◌+◌, ◌-◌, ◌^◌}
use lib.Dec.{T, ltb, leb, eqb, lit<, lit≤}
use lib.ListN.{length, take, drop}
use Rattle.format.specs.Answer.{if, Answer, ok, refused, and_then, no_room, BadRecord, TypeMismatch, BadString, NoField}
use Rattle.format.specs.Tree.{Ty, Tys, Alts, Val, Vals, val_kind, number_in, fields_in, payload_in}
use Rattle.format.specs.Sheet.{field_count, val_count, val_words, val_pool}
use Rattle.format.specs.TypeSheet.{type_of}
use Rattle.format.specs.ValueSheet.{value_of}
use Rattle.format.specs.Scalar.{width as int_width, int_bytes, uint_bytes, str_bytes, bytes_bytes, ref_bytes, sequence_of, predicate_of, tag_bytes}
use Rattle.format.specs.Utf8.{utf8}
use Rattle.format.specs.Encode.{null_bytes, vals_bytes, max_depth, max_key_bytes, fine, of_kind, in_union, fits_ref, group_at, fits, fits_all, fits_union, encode, encode_typed, key_bytes, encode_key}
use Rattle.format.specs.Read.{Read, then_read, get_big, width_is, get_uint, get_neg, get_int, starts_ff, ends_here, cons_read, get_run, after_zero, marked, get_str, get_bytes, ref_read, get_ref, get_fact_id}
use Rattle.format.specs.Decode.{Decoded, scalar, after, both, union_end, opened, with_tag, blank_or, decode, decode_group, decode_union, decode_bare, whole, decode_typed, decode_key}
use Rattle.format.specs.Skip.{pass_bytes, pass_field, turn, walk, skip, end_of, skip_from}
use Rattle.format.specs.Order.{cmp_val}
use Rattle.format.specs.Bounds.{raised_or, trimmed, strinc, above_field, first_bytes}
use Rattle.format.specs.Replace.{set_field, spliced}
use Rattle.format.specs.Calls as calls
use Rattle.format.specs.Calls.{with_type, with_value, written, filled, decoded_by, checked_by, TwoEnds, both_ends, bounded, with_fields, with_key, replaced, with_used}
use Rattle.format.specs.Spans.{with_record, first_tys, field_type, with_next, span_of, span_for, span_call}
use Rattle.format.specs.Fields as fields
use Rattle.format.specs.Fields.{taken_from, placed_from, has_zero, put_at}
use Rattle.tuple.specs.Numbers.{last_refusal, Listed, Numbered, RefusalsNumbered}
use Rattle.tuple.specs.StepNumbers.{StepsNumbered, CharNumbered}
use Rattle.format.specs.Cursor as cursor
use Rattle.format.specs.Cursor.{Cursor, deep, rest, moved_by, null_at, record_mark, tag_at, union_mark, group_end, end_ahead, wrote_at}
use Rattle.format.specs.Chars as chars

-- ---- steps

-- a number that is written out
pub listed : {n : ℕ} → T (ltb 0 n) → T (leb n last_refusal) → Listed n
listed low high = record { some = lit< low; known = lit≤ high }

pub numbered_if : {A : Type 0} (b : Bool) (x y : Answer A) → Numbered x → Numbered y → Numbered (if b x y)
numbered_if true x y p q = p
numbered_if false x y p q = q

pub numbered_then : {A B : Type 0} (m : Answer A) (f : A → Answer B) → Numbered m → ((a : A) → Numbered (f a)) → Numbered (and_then m f)
numbered_then (ok a) f p q = q a
numbered_then (refused n d) f p q = p

abbrev Reads : {A : Type 0} → Read A → Type 0
Reads (Read.got a r) = Unit
Reads (Read.bad n d) = Listed n

reads_if : {A : Type 0} (b : Bool) (x y : Read A) → Reads x → Reads y → Reads (if b x y)
reads_if true x y p q = p
reads_if false x y p q = q

reads_then : {A B : Type 0} (m : Read A) (f : A → List ℕ → Read B) → Reads m → ((a : A) (r : List ℕ) → Reads (f a r)) → Reads (then_read m f)
reads_then (Read.got a r) f p q = q a r
reads_then (Read.bad n d) f p q = p

abbrev Decodes : {A : Type 0} → Decoded A → Type 0
Decodes (Decoded.got a r k) = Unit
Decodes (Decoded.bad n d k) = Listed n

decodes_if : {A : Type 0} (b : Bool) (x y : Decoded A) → Decodes x → Decodes y → Decodes (if b x y)
decodes_if true x y p q = p
decodes_if false x y p q = q

-- ---- reading

big : (w : ℕ) (bs : List ℕ) → Reads (get_big w bs)
unfolding get_big
big w bs = reads_if (leb w (length bs)) _ _ tt (listed tt tt)

width : (w n : ℕ) (r : List ℕ) → Reads (width_is w n r)
unfolding width_is
width w n r = reads_if (eqb (int_width n) w) _ _ tt (listed tt tt)

uint : (bs : List ℕ) → Reads (get_uint bs)
unfolding get_uint
uint [] = listed tt tt
uint (m ∷ bs) =
    reads_if (ltb m 0x48) _ _ (listed tt tt)
    (reads_if (leb m 0x50) _ _ (reads_then (get_big (m - 0x48) bs) _ (big (m - 0x48) bs) (λ n r. width (m - 0x48) n r)) (listed tt tt))

neg : (w : ℕ) (bs : List ℕ) → Reads (get_neg w bs)
unfolding get_neg
neg w bs = reads_then (get_big w bs) _ (big w bs) (λ n r. width w (256 ^ w - 1 - n) r)

int : (bs : List ℕ) → Reads (get_int bs)
unfolding get_int
int [] = listed tt tt
int (m ∷ bs) =
    reads_if (ltb m 0x40) _ _ (listed tt tt)
    (reads_if (ltb m 0x48) _ _ (reads_then (get_neg (0x48 - m) bs) _ (neg (0x48 - m) bs) (λ n r. reads_if (leb n (2 ^ 63)) _ _ tt (listed tt tt)))
    (reads_then (get_uint (m ∷ bs)) _ (uint (m ∷ bs)) (λ n r. reads_if (ltb n (2 ^ 63)) _ _ tt (listed tt tt))))

cons : (b : ℕ) (m : Read (List ℕ)) → Reads m → Reads (cons_read b m)
cons b (Read.got s r) p = tt
cons b (Read.bad n d) p = p

mutual
  unfolding get_run

  run : (bs : List ℕ) → Reads (get_run bs)
  run [] = listed tt tt
  run (b ∷ bs) = reads_if (eqb b 0) _ _ (zero_then bs) (cons b (get_run bs) (run bs))

  zero_then : (bs : List ℕ) → Reads (after_zero bs)
  zero_then [] = tt
  zero_then (b ∷ bs) = reads_if (eqb b 0xFF) _ _ (cons 0 (get_run bs) (run bs)) tt

mark : {A : Type 0} (m : ℕ) (f : List ℕ → Read A) (bs : List ℕ) → ((r : List ℕ) → Reads (f r)) → Reads (marked m f bs)
mark m f [] p = listed tt tt
mark m f (b ∷ bs) p = reads_if (eqb b m) _ _ (p bs) (listed tt tt)

str : (bs : List ℕ) → Reads (get_str bs)
unfolding get_str
str bs = mark 0x21 _ bs (λ r. reads_then (get_run r) _ (run r) (λ s more. reads_if (utf8 s) _ _ tt (listed tt tt)))

bytes : (bs : List ℕ) → Reads (get_bytes bs)
unfolding get_bytes
bytes bs = mark 0x53 _ bs run

fits_ref_lem : (p r : ℕ) → Numbered (fits_ref p r)
unfolding fits_ref
fits_ref_lem p r = numbered_if (eqb (sequence_of r) 0) _ _ (listed tt tt) (numbered_if (eqb (predicate_of r) p) _ _ tt (listed tt tt))

judged : (r : ℕ) (more : List ℕ) (a : Answer Unit) → Numbered a → Reads (ref_read r more a)
judged r more (ok u) p = tt
judged r more (refused n d) p = p

ref : (p : ℕ) (bs : List ℕ) → Reads (get_ref p bs)
unfolding get_ref
ref p bs = mark 0x51 _ bs (λ b. reads_then (get_big 8 b) _ (big 8 b) (λ r more. judged r more (fits_ref p r) (fits_ref_lem p r)))

-- ---- decoding

scalars : {A : Type 0} (f : A → Val) (m : Read A) → Reads m → Decodes (scalar f m)
scalars f (Read.got a r) p = tt
scalars f (Read.bad n d) p = p

afters : {A B : Type 0} (k : ℕ) (f : A → B) (m : Decoded A) → Decodes m → Decodes (after k f m)
afters k f (Decoded.got a r j) p = tt
afters k f (Decoded.bad n d j) p = p

boths : {A B C : Type 0} (m : Decoded A) (f : List ℕ → Decoded B) (g : A → B → C) → Decodes m → ((r : List ℕ) → Decodes (f r)) → Decodes (both m f g)
boths (Decoded.got a r k) f g p q = afters k (g a) (f r) (q r)
boths (Decoded.bad n d k) f g p q = p

ends : {A : Type 0} (m : Decoded A) → Decodes m → Decodes (union_end m)
unfolding union_end
ends (Decoded.got a [] k) p = listed tt tt
ends (Decoded.got a (b ∷ bs) k) p = decodes_if (ends_here (b ∷ bs)) _ _ tt (listed tt tt)
ends (Decoded.bad n d k) p = p

opens : {A : Type 0} (m : ℕ) (f : List ℕ → Decoded A) (bs : List ℕ) → ((r : List ℕ) → Decodes (f r)) → Decodes (opened m f bs)
opens m f [] p = listed tt tt
opens m f (b ∷ bs) p = decodes_if (eqb b m) _ _ (p bs) (listed tt tt)

tags : {A : Type 0} (depth : ℕ) (m : Read ℕ) (f : ℕ → List ℕ → Decoded A) → Reads m → ((t : ℕ) (r : List ℕ) → Decodes (f t r)) → Decodes (with_tag depth m f)
tags depth (Read.bad n d) f p q = p
tags depth (Read.got t r) f p q = decodes_if (ltb depth max_depth) _ _ (q t r) (listed tt tt)

blanks : (m : Read Unit) (d : Decoded Val) → Decodes d → Decodes (blank_or m d)
blanks (Read.got u rest) d p = tt
blanks (Read.bad n k) d p = p

mutual
  unfolding decode

  decodes : (t : Ty) (depth : ℕ) (bs : List ℕ) → Decodes (decode t depth bs)
  decodes Ty.Int depth bs = scalars Val.Int (get_int bs) (int bs)
  decodes Ty.Str depth bs = scalars Val.Str (get_str bs) (str bs)
  decodes Ty.Bytes depth bs = scalars Val.Bytes (get_bytes bs) (bytes bs)
  decodes (Ty.Ref p) depth bs = scalars Val.Ref (get_ref p bs) (ref p bs)
  decodes (Ty.Record ts) depth bs =
      opens 0x22 _ bs (λ r. decodes_if (ltb depth max_depth) _ _ (afters 1 Val.Record (decode_group ts (depth + 1) r) (group ts (depth + 1) r)) (listed tt tt))
  decodes (Ty.Union alts) depth bs = opens 0x52 _ bs (λ r. tags depth (get_uint r) _ (uint r) (λ t more. union alts depth t more))
  decodes (Ty.Optional t) depth bs = blanks (null_at depth bs) (decode t depth bs) (decodes t depth bs)

  group : (ts : Tys) (depth : ℕ) (bs : List ℕ) → Decodes (decode_group ts depth bs)
  group Tys.NoTy depth [] = listed tt tt
  group Tys.NoTy depth (b ∷ bs) = decodes_if (ends_here (b ∷ bs)) _ _ tt (listed tt tt)
  group (Tys.AddTy t ts) depth [] = listed tt tt
  group (Tys.AddTy t ts) depth (b ∷ bs) =
      decodes_if (ends_here (b ∷ bs)) _ _ (listed tt tt) (boths (decode t depth (b ∷ bs)) _ Vals.AddVal (decodes t depth (b ∷ bs)) (λ r. group ts depth r))

  union : (alts : Alts) (depth tag : ℕ) (bs : List ℕ) → Decodes (decode_union alts depth tag bs)
  union Alts.NoAlt depth tag bs = listed tt tt
  union (Alts.AddAlt e t alts) depth tag bs =
      decodes_if (eqb e tag) _ _ (afters 1 (Val.Union tag) (union_end (decode t (depth + 1) bs)) (ends (decode t (depth + 1) bs) (decodes t (depth + 1) bs))) (union alts depth tag bs)

bare : (ts : Tys) (bs : List ℕ) → Decodes (decode_bare ts bs)
unfolding decode_bare
bare Tys.NoTy bs = tt
bare (Tys.AddTy t ts) bs = boths (decode t 0 bs) _ Vals.AddVal (decodes t 0 bs) (λ r. bare ts r)

wholes : {A : Type 0} (m : Decoded A) → Decodes m → Decodes (whole m)
unfolding whole
wholes (Decoded.got a [] k) p = tt
wholes (Decoded.got a (b ∷ bs) k) p = listed tt tt
wholes (Decoded.bad n d k) p = p

key : (t : Ty) (bs : List ℕ) → Decodes (decode_key t bs)
unfolding decode_key
key Ty.Int bs = wholes _ (decodes Ty.Int 0 bs)
key Ty.Str bs = wholes _ (decodes Ty.Str 0 bs)
key Ty.Bytes bs = wholes _ (decodes Ty.Bytes 0 bs)
key (Ty.Ref p) bs = wholes _ (decodes (Ty.Ref p) 0 bs)
key (Ty.Record ts) bs = wholes _ (afters 0 Val.Record (decode_bare ts bs) (bare ts bs))
key (Ty.Union alts) bs = wholes _ (decodes (Ty.Union alts) 0 bs)
key (Ty.Optional t) bs = wholes _ (decodes (Ty.Optional t) 0 bs)

-- ---- encoding

kinds : (k : ℕ) (v : Val) (a : Answer Unit) → Numbered a → Numbered (of_kind k v a)
kinds k v a p = numbered_if (eqb (val_kind v) k) _ _ p (listed tt tt)

groups : {A : Type 0} (depth : ℕ) (a : Answer A) → Numbered a → Numbered (group_at depth a)
groups depth a p = numbered_if (ltb depth max_depth) _ _ p (listed tt tt)

unions : {A : Type 0} (tag : ℕ) (a : Answer A) → Numbered a → Numbered (in_union tag a)
unfolding in_union
unions tag (ok a) p = tt
unions tag (refused n d) p = numbered_if (eqb n BadRecord) _ _ (listed tt tt) (numbered_if (eqb n TypeMismatch) _ _ (listed tt tt) p)

mutual
  unfolding fits

  fitting : (t : Ty) (depth : ℕ) (v : Val) → Numbered (fits t depth v)
  fitting Ty.Int depth v = kinds 1 v fine tt
  fitting Ty.Str depth v = kinds 2 v fine tt
  fitting Ty.Bytes depth v = kinds 3 v fine tt
  fitting (Ty.Ref p) depth v = kinds 4 v (fits_ref p (number_in v)) (fits_ref_lem p (number_in v))
  fitting (Ty.Record ts) depth v = kinds 5 v _ (numbered_if (eqb (field_count ts) (val_count (fields_in v))) _ _ (groups depth (fits_all ts (depth + 1) (fields_in v)) (fitting_all ts (depth + 1) (fields_in v))) (listed tt tt))
  fitting (Ty.Union alts) depth v = kinds 6 v _ (fitting_union alts depth (number_in v) (payload_in v))
  fitting (Ty.Optional t) depth v = numbered_if (eqb (val_kind v) 0) fine (fits t depth v) tt (fitting t depth v)

  pub fitting_all : (ts : Tys) (depth : ℕ) (vs : Vals) → Numbered (fits_all ts depth vs)
  fitting_all Tys.NoTy depth Vals.NoVal = tt
  fitting_all Tys.NoTy depth (Vals.AddVal v vs) = listed tt tt
  fitting_all (Tys.AddTy t ts) depth Vals.NoVal = listed tt tt
  fitting_all (Tys.AddTy t ts) depth (Vals.AddVal v vs) = numbered_then (fits t depth v) _ (fitting t depth v) (λ u. fitting_all ts depth vs)

  fitting_union : (alts : Alts) (depth disc : ℕ) (v : Val) → Numbered (fits_union alts depth disc v)
  fitting_union Alts.NoAlt depth disc v = listed tt tt
  fitting_union (Alts.AddAlt e t alts) depth disc v =
      numbered_if (eqb e disc) _ _ (unions disc _ (groups depth (fits t (depth + 1) v) (fitting t (depth + 1) v))) (fitting_union alts depth disc v)

encodes : (t : Ty) (v : Val) → Numbered (encode_typed t v)
unfolding encode
encodes t v = numbered_then (fits t 0 v) _ (fitting t 0 v) (λ u. tt)

key_bytes_lem : (t : Ty) (v : Val) → Numbered (key_bytes t v)
unfolding key_bytes
key_bytes_lem Ty.Int v = encodes Ty.Int v
key_bytes_lem Ty.Str v = encodes Ty.Str v
key_bytes_lem Ty.Bytes v = encodes Ty.Bytes v
key_bytes_lem (Ty.Ref p) v = encodes (Ty.Ref p) v
key_bytes_lem (Ty.Record ts) v =
    let counted : Answer Unit = if (eqb (field_count ts) (val_count (fields_in v))) (fits_all ts 0 (fields_in v)) (refused BadRecord 0) in
    numbered_then (of_kind 5 v counted) (λ u. ok (vals_bytes 0 (fields_in v)))
    (kinds 5 v counted (numbered_if (eqb (field_count ts) (val_count (fields_in v))) (fits_all ts 0 (fields_in v)) (refused BadRecord 0) (fitting_all ts 0 (fields_in v)) (listed tt tt)))
    (λ u. tt)
key_bytes_lem (Ty.Union alts) v = encodes (Ty.Union alts) v
key_bytes_lem (Ty.Optional t) v = encodes (Ty.Optional t) v

encodes_key : (t : Ty) (v : Val) → Numbered (encode_key t v)
unfolding encode_key
encodes_key t v = numbered_then (key_bytes t v) _ (key_bytes_lem t v) (λ bs. numbered_if (leb (length bs) max_key_bytes) _ _ tt (listed tt tt))

-- ---- skipping

passes : (w depth : ℕ) (bs : List ℕ) → Reads (pass_bytes w depth bs)
passes w depth bs = reads_then (get_big w bs) _ (big w bs) (λ n r. tt)

passes_field : (escape : Bool) (depth m : ℕ) (bs : List ℕ) → Reads (pass_field escape depth m bs)
unfolding pass_field
passes_field escape depth m bs =
    reads_if (eqb m 0x00) _ _ (reads_if (escape || ltb 0 depth) _ _ (reads_if (starts_ff bs) _ _ tt (listed tt tt)) tt)
    (reads_if (eqb m 0x21 || eqb m 0x53) _ _ (reads_then (get_run bs) _ (run bs) (λ s r. tt))
    (reads_if (eqb m 0x22) _ _ (reads_if (ltb depth max_depth) _ _ tt (listed tt tt))
    (reads_if (ltb m 0x40) _ _ (listed tt tt)
    (reads_if (ltb m 0x48) _ _ (passes (0x48 - m) depth bs)
    (reads_if (leb m 0x50) _ _ (passes (m - 0x48) depth bs)
    (reads_if (eqb m 0x51) _ _ (passes 8 depth bs)
    (reads_if (eqb m 0x52) _ _ (reads_if (ltb depth max_depth) _ _ (reads_then (get_uint bs) _ (uint bs) (λ d r. tt)) (listed tt tt))
    (listed tt tt))))))))

turns : (escape : Bool) (depth : ℕ) (bs : List ℕ) → Reads (turn escape depth bs)
unfolding turn
turns escape depth [] = listed tt tt
turns escape depth (m ∷ bs) = reads_if (ltb 0 depth && ends_here (m ∷ bs)) _ _ tt (passes_field escape depth m bs)

walks : (n : ℕ) (escape : Bool) (depth : ℕ) (bs : List ℕ) → Reads (walk n escape depth bs)
unfolding walk
walks zero escape depth bs = listed tt tt
walks (suc n) escape depth bs = reads_then (turn escape depth bs) _ (turns escape depth bs) (λ d r. reads_if (eqb d 0) _ _ tt (walks n escape d r))

end_of_lem : (key : List ℕ) (m : Read Unit) → Reads m → Numbered (end_of key m)
end_of_lem key (Read.got u r) p = tt
end_of_lem key (Read.bad n d) p = p

skips : (key : List ℕ) (start : ℕ) (escape : Bool) → Numbered (skip_from key start escape)
unfolding skip_from skip
skips key start escape = end_of_lem key (walk (suc (length (drop start key))) escape 0 (drop start key)) (walks (suc (length (drop start key))) escape 0 (drop start key))

-- ---- sheets and buffers

pub typed : {A : Type 0} (t : Option Ty) (f : Ty → Answer A) → ((t : Ty) → Numbered (f t)) → Numbered (with_type t f)
typed (some t) f p = p t
typed none f p = listed tt tt

valued : {A : Type 0} (v : Option Val) (f : Val → Answer A) → ((v : Val) → Numbered (f v)) → Numbered (with_value v f)
valued (some v) f p = p v
valued none f p = listed tt tt

called_if : (b : Bool) (x y : calls.Called ℕ) → Numbered x.answer → Numbered y.answer → Numbered (if b x y).answer
called_if true x y p q = p
called_if false x y p q = q

writes : (out : List ℕ) (a : Answer (List ℕ)) → Numbered a → Numbered (written out a).answer
writes out (ok x) p = called_if (leb (length x) (length out)) _ _ tt (listed tt tt)
writes out (refused n d) p = p

filled_if : (b : Bool) (x y : calls.Filled) → Numbered x.answer → Numbered y.answer → Numbered (if b x y).answer
filled_if true x y p q = p
filled_if false x y p q = q

fills : (words pool : List ℕ) (m : Decoded Val) → Decodes m → Numbered (filled words pool m).answer
fills words pool (Decoded.got v r k) p = filled_if (ltb (length words) (length (val_words v))) _ _ (listed tt tt) (filled_if (ltb (length pool) (length (val_pool v))) _ _ (listed tt tt) tt)
fills words pool (Decoded.bad n d k) p = p

decoded : (t : Option Ty) (f : Ty → Decoded Val) → ((t : Ty) → Decodes (f t)) → Decodes (decoded_by t f)
decoded (some t) f p = p t
decoded none f p = listed tt tt

checks : (m : Decoded Val) → Decodes m → Numbered (checked_by m).answer
checks (Decoded.got v r k) p = tt
checks (Decoded.bad n d k) p = p

bounded_if : (b : Bool) (x y : calls.Bounded) → Numbered x.answer → Numbered y.answer → Numbered (if b x y).answer
bounded_if true x y p q = p
bounded_if false x y p q = q

pub two_ends : (lower upper : List ℕ) (a : Answer TwoEnds) → Numbered a → Numbered (both_ends lower upper a).answer
two_ends lower upper (ok x) p = bounded_if (ltb (length lower) (length x.low)) _ _ (listed tt tt) (bounded_if (ltb (length upper) (length x.high)) _ _ (listed tt tt) tt)
two_ends lower upper (refused n d) p = p

bounds : (lower upper : List ℕ) (a : Answer (List ℕ)) → Numbered a → Numbered (bounded lower upper a).answer
bounds lower upper a p = two_ends lower upper (and_then a _) (numbered_then a _ p (λ x. tt))

fields_of : {A : Type 0} (t : Ty) (f : Tys → Answer A) → ((ts : Tys) → Numbered (f ts)) → Numbered (with_fields t f)
fields_of Ty.Int f p = listed tt tt
fields_of Ty.Str f p = listed tt tt
fields_of Ty.Bytes f p = listed tt tt
fields_of (Ty.Ref n) f p = listed tt tt
fields_of (Ty.Record ts) f p = p ts
fields_of (Ty.Union alts) f p = listed tt tt
fields_of (Ty.Optional t) f p = listed tt tt

keyed : {A : Type 0} (m : Decoded Val) (f : Vals → Answer A) → Decodes m → ((vs : Vals) → Numbered (f vs)) → Numbered (with_key m f)
keyed (Decoded.got v r k) f p q = q (fields_in v)
keyed (Decoded.bad n d k) f p q = p

pub raises : (s : List ℕ) → Numbered (raised_or s)
raises [] = listed tt tt
raises (b ∷ bs) = tt

takes : {A : Type 0} (bs : List ℕ) (m : Read A) → Reads m → Numbered (taken_from bs m)
takes bs (Read.got a r) p = tt
takes bs (Read.bad n d) p = p

payload_if : (b : Bool) (x y : fields.Payload) → Numbered x.answer → Numbered y.answer → Numbered (if b x y).answer
payload_if true x y p q = p
payload_if false x y p q = q

places : (at : ℕ) (bs scratch : List ℕ) (m : Read (List ℕ)) → Reads m → Numbered (placed_from at bs scratch m).answer
places at bs scratch (Read.got s r) p = payload_if (has_zero s) _ _ (payload_if (leb (length s) (length scratch)) _ _ tt (listed tt tt)) tt
places at bs scratch (Read.bad n d) p = p

puts : (out : List ℕ) (at : ℕ) (bs : List ℕ) → Numbered (put_at out at bs).answer
puts out at bs = called_if (ltb (length out) at) _ _ (listed tt tt) (called_if (ltb (length out) (at + length bs)) _ _ (listed tt tt) tt)

-- ---- the calls

abbrev encoded : (ty words pool : List ℕ) → (Ty → Val → Answer (List ℕ)) → Answer (List ℕ)
encoded ty words pool f = with_type (type_of ty) (λ t. with_value (value_of words pool) (λ v. f t v))

encoded_numbered : (ty words pool : List ℕ) (f : Ty → Val → Answer (List ℕ)) → ((t : Ty) (v : Val) → Numbered (f t v)) → Numbered (encoded ty words pool f)
encoded_numbered ty words pool f p =
    typed (type_of ty) (λ t. with_value (value_of words pool) (λ v. f t v)) (λ t. valued (value_of words pool) (λ v. f t v) (λ v. p t v))

-- of a key's fields, under a test of the field count
abbrev with_key_of : (ty bs : List ℕ) → (Tys → Bool) → (Tys → Vals → Answer (List ℕ)) → Answer (List ℕ)
with_key_of ty bs test f =
    with_type (type_of ty) (λ t. with_fields t (λ ts. if (test ts) (with_key (decode_key (Ty.Record ts) bs) (λ vs. f ts vs)) (refused NoField 0)))

with_key_of_lem : (ty bs : List ℕ) (test : Tys → Bool) (f : Tys → Vals → Answer (List ℕ)) → ((ts : Tys) (vs : Vals) → Numbered (f ts vs)) → Numbered (with_key_of ty bs test f)
with_key_of_lem ty bs test f p =
    typed (type_of ty) (λ t. with_fields t (λ ts. if (test ts) (with_key (decode_key (Ty.Record ts) bs) (λ vs. f ts vs)) (refused NoField 0)))
    (λ t. fields_of t (λ ts. if (test ts) (with_key (decode_key (Ty.Record ts) bs) (λ vs. f ts vs)) (refused NoField 0))
    (λ ts. numbered_if (test ts) (with_key (decode_key (Ty.Record ts) bs) (λ vs. f ts vs)) (refused NoField 0)
    (keyed (decode_key (Ty.Record ts) bs) (λ vs. f ts vs) (key (Ty.Record ts) bs) (λ vs. p ts vs)) (listed tt tt)))

abbrev changed : (words pool : List ℕ) (field : ℕ) → Tys → Vals → List ℕ → Answer (List ℕ)
changed words pool field ts vs bs = with_value (value_of words pool) (λ u. replaced ts field u vs bs)

changed_numbered : (words pool : List ℕ) (field : ℕ) (ts : Tys) (vs : Vals) (bs : List ℕ) → Numbered (changed words pool field ts vs bs)
changed_numbered words pool field ts vs bs =
    valued (value_of words pool) (λ u. replaced ts field u vs bs)
    (λ u. numbered_then (encode_key (Ty.Record ts) (Val.Record (set_field field u vs))) (λ x. ok (spliced field u vs bs)) (encodes_key (Ty.Record ts) (Val.Record (set_field field u vs))) (λ x. tt))

-- replacement: the used length stands between the field count and the key
abbrev field_of : (buffer : List ℕ) (used field : ℕ) (words pool : List ℕ) → Tys → Answer (List ℕ)
field_of buffer used field words pool ts =
    if (ltb field (field_count ts))
    (with_used buffer used (λ bs. with_key (decode_key (Ty.Record ts) bs) (λ vs. changed words pool field ts vs bs)))
    (refused NoField 0)

field_of_lem : (buffer : List ℕ) (used field : ℕ) (words pool : List ℕ) (ts : Tys) → Numbered (field_of buffer used field words pool ts)
field_of_lem buffer used field words pool ts =
    let bs : List ℕ = take used buffer in
    numbered_if (ltb field (field_count ts)) (with_used buffer used (λ b. with_key (decode_key (Ty.Record ts) b) (λ vs. changed words pool field ts vs b))) (refused NoField 0)
    (numbered_if (leb used (length buffer)) (with_key (decode_key (Ty.Record ts) bs) (λ vs. changed words pool field ts vs bs)) (no_room used)
    (keyed (decode_key (Ty.Record ts) bs) (λ vs. changed words pool field ts vs bs) (key (Ty.Record ts) bs) (λ vs. changed_numbered words pool field ts vs bs)) (listed tt tt))
    (listed tt tt)

replaces : (ty buffer : List ℕ) (used field : ℕ) (words pool : List ℕ) → Numbered (with_type (type_of ty) (λ t. with_fields t (field_of buffer used field words pool)))
replaces ty buffer used field words pool =
    typed (type_of ty) (λ t. with_fields t (field_of buffer used field words pool))
    (λ t. fields_of t (field_of buffer used field words pool) (field_of_lem buffer used field words pool))

-- the first k values' sheet
pub recorded : {A : Type 0} (o : Option Val) (f : Vals → Answer A) → ((vs : Vals) → Numbered (f vs)) → Numbered (with_record o f)
recorded none f p = listed tt tt
recorded (some v) f p = numbered_if (eqb (val_kind v) 5) _ _ (p (fields_in v)) (listed tt tt)

-- the field behind them
pub next_of : {A : Type 0} (t : Ty) (k : ℕ) (f : Tys → Ty → Answer A) → ((ts : Tys) (u : Ty) → Numbered (f ts u)) → Numbered (with_next t k f)
next_of t k f p = fields_of t _ (λ ts. numbered_if (ltb k (field_count ts)) _ _ (p (first_tys k ts) (field_type k ts)) (listed tt tt))

spans_numbered : (ty words pool low_words low_pool high_words high_pool : List ℕ) → Numbered (span_for ty words pool low_words low_pool high_words high_pool)
unfolding span_for
spans_numbered ty words pool low_words low_pool high_words high_pool =
    typed (type_of ty) _ (λ t. recorded (value_of words pool) _ (λ vs. valued (value_of low_words low_pool) _ (λ lo. valued (value_of high_words high_pool) _ (λ hi.
    next_of t (val_count vs) (span_of vs lo hi) (λ ts u.
    numbered_then (fits_all ts 0 vs) _ (fitting_all ts 0 vs) (λ a. numbered_then (fits u 0 lo) _ (fitting u 0 lo) (λ b. numbered_then (fits u 0 hi) _ (fitting u 0 hi) (λ c. tt))))))))

pub refusals_numbered : RefusalsNumbered
unfolding calls.encode_typed_call calls.encode_key_call calls.decode_typed_call calls.decode_key_call calls.check_key_call calls.skip_call calls.compare_call calls.strinc_call strinc calls.above_field_call calls.bounds_call span_call calls.replace_call
    fields.get_i64_call fields.get_u64_call fields.get_str_call fields.get_bytes_call fields.put_i64_call fields.put_u64_call fields.put_str_call fields.put_bytes_call fields.put_fact_id_call
refusals_numbered =
    record {
      encode_typed = λ ty words pool out. writes out (encoded ty words pool encode_typed) (encoded_numbered ty words pool encode_typed encodes);
      encode_key = λ ty words pool out. writes out (encoded ty words pool encode_key) (encoded_numbered ty words pool encode_key encodes_key);
      decode_typed = λ ty bs words pool. fills words pool (decoded_by (type_of ty) (λ t. decode_typed t bs)) (decoded (type_of ty) (λ t. decode_typed t bs) (λ t. wholes (decode t 0 bs) (decodes t 0 bs)));
      decode_key = λ ty bs words pool. fills words pool (decoded_by (type_of ty) (λ t. decode_key t bs)) (decoded (type_of ty) (λ t. decode_key t bs) (λ t. key t bs));
      check_key = λ ty bs. checks (decoded_by (type_of ty) (λ t. decode_key t bs)) (decoded (type_of ty) (λ t. decode_key t bs) (λ t. key t bs));
      skip = λ bs start escape. skips bs start escape;
      compare = λ a p b q. valued (value_of a p) (λ v. with_value (value_of b q) (λ u. ok (cmp_val v u))) (λ v. valued (value_of b q) (λ u. ok (cmp_val v u)) (λ u. tt));
      strinc = λ prefix out. writes out (raised_or (trimmed prefix)) (raises (trimmed prefix));
      above_field = λ bs out. writes out (ok (above_field bs)) tt;
      bounds = λ ty bs k lower upper.
          bounds lower upper (with_key_of ty bs (λ ts. leb k (field_count ts)) (λ ts vs. ok (first_bytes k vs)))
          (with_key_of_lem ty bs (λ ts. leb k (field_count ts)) (λ ts vs. ok (first_bytes k vs)) (λ ts vs. tt));
      span = λ ty words pool low_words low_pool high_words high_pool lower upper.
          two_ends lower upper (span_for ty words pool low_words low_pool high_words high_pool) (spans_numbered ty words pool low_words low_pool high_words high_pool);
      replace = λ ty buffer used field words pool.
          writes buffer (with_type (type_of ty) (λ t. with_fields t (field_of buffer used field words pool))) (replaces ty buffer used field words pool);
      get_i64 = λ bs. takes bs (get_int bs) (int bs);
      get_u64 = λ bs. takes bs (get_uint bs) (uint bs);
      get_str = λ bs scratch. places 0 bs scratch (get_str bs) (str bs);
      get_bytes = λ bs scratch. places 0 bs scratch (get_bytes bs) (bytes bs);
      put_i64 = λ out at w. puts out at (int_bytes w);
      put_u64 = λ out at n. puts out at (uint_bytes n);
      put_str = λ out at text. called_if (utf8 text) (put_at out at (str_bytes text)) (record { answer = refused BadString 0; buffer = out }) (puts out at (str_bytes text)) (listed tt tt);
      put_bytes = λ out at s. puts out at (bytes_bytes s);
      put_fact_id = λ out at r. puts out at (ref_bytes r);
    }

-- ---- the cursors' steps

fact_id : (bs : List ℕ) → Reads (get_fact_id bs)
unfolding get_fact_id
fact_id bs = mark 0x51 _ bs (λ b. reads_then (get_big 8 b) _ (big 8 b) (λ r more. reads_if (eqb (sequence_of r) 0) _ _ (listed tt tt) tt))

null : (depth : ℕ) (bs : List ℕ) → Reads (null_at depth bs)
null depth [] = listed tt tt
null depth (b ∷ bs) = reads_if (eqb b 0) _ _ (reads_if (ltb 0 depth) _ _ (reads_if (starts_ff bs) _ _ tt (listed tt tt)) tt) (listed tt tt)

record_mark_lem : (depth : ℕ) (bs : List ℕ) → Reads (record_mark depth bs)
record_mark_lem depth [] = listed tt tt
record_mark_lem depth (b ∷ bs) = reads_if (eqb b 0x22) _ _ (reads_if (ltb depth max_depth) _ _ tt (listed tt tt)) (listed tt tt)

tag : (depth : ℕ) (m : Read ℕ) → Reads m → Reads (tag_at depth m)
tag depth (Read.got t r) p = reads_if (ltb depth max_depth) _ _ tt (listed tt tt)
tag depth (Read.bad n d) p = p

union_mark_lem : (depth : ℕ) (bs : List ℕ) → Reads (union_mark depth bs)
union_mark_lem depth [] = listed tt tt
union_mark_lem depth (b ∷ bs) = reads_if (eqb b 0x52) _ _ (tag depth (get_uint bs) (uint bs)) (listed tt tt)

group_end_lem : (bs : List ℕ) → Reads (group_end bs)
group_end_lem [] = listed tt tt
group_end_lem (b ∷ bs) = reads_if (ends_here (b ∷ bs)) _ _ tt (listed tt tt)

end_ahead_lem : (bs : List ℕ) → Numbered (end_ahead bs)
end_ahead_lem [] = listed tt tt
end_ahead_lem (b ∷ bs) = tt

moves : {A : Type 0} (bs : List ℕ) (c : Cursor) (depth : ℕ) (m : Read A) → Reads m → Numbered (moved_by bs c depth m)
moves bs c depth (Read.got a r) p = tt
moves bs c depth (Read.bad n d) p = p

wrote : (depth : ℕ) (p : calls.Called ℕ) → Numbered p.answer → Numbered (wrote_at depth p).answer
wrote depth p h = numbered_then p.answer _ h (λ at. tt)

wrote_if : (b : Bool) (x y : cursor.Wrote) → Numbered x.answer → Numbered y.answer → Numbered (if b x y).answer
wrote_if true x y p q = p
wrote_if false x y p q = q

chars_if : (b : Bool) (x y : chars.Stepped) → CharNumbered x.step → CharNumbered y.step → CharNumbered (if b x y).step
chars_if true x y p q = p
chars_if false x y p q = q

step_on_lem : (at : ℕ) (bs : List ℕ) → CharNumbered (chars.step_on at bs).step
unfolding chars.step_on
step_on_lem at [] = listed tt tt
step_on_lem at (b ∷ bs) =
    chars_if (eqb b 0) _ _ (chars_if (starts_ff bs) _ _ tt tt)
    (chars_if (ltb (length (b ∷ bs)) (chars.lead_width b)) _ _ (listed tt tt) (chars_if (utf8 (take (chars.lead_width b) (b ∷ bs))) _ _ tt (listed tt tt)))

char_step : (s : List ℕ) (at : ℕ) (done : Bool) → CharNumbered (chars.step_at s at done).step
unfolding chars.step_at
char_step s at true = tt
char_step s at false = step_on_lem at (drop at s)

opening : (bs : List ℕ) → Numbered (chars.opened bs)
unfolding chars.opened
opening [] = listed tt tt
opening (m ∷ bs) = numbered_if (eqb m 0x21) _ _ tt (listed tt tt)

pub steps_numbered : StepsNumbered
unfolding cursor.take_null cursor.take_i64 cursor.take_u64 cursor.take_fact_id cursor.take_str cursor.take_bytes cursor.open_record cursor.open_union cursor.close cursor.is_record_end cursor.put_null cursor.put_record cursor.put_union cursor.put_end
steps_numbered =
    record {
      take_null = λ bs c. moves (rest bs c) c (deep c) (null_at (deep c) (rest bs c)) (null (deep c) (rest bs c));
      take_i64 = λ bs c. moves (rest bs c) c (deep c) (get_int (rest bs c)) (int (rest bs c));
      take_u64 = λ bs c. moves (rest bs c) c (deep c) (get_uint (rest bs c)) (uint (rest bs c));
      take_fact_id = λ bs c. moves (rest bs c) c (deep c) (get_fact_id (rest bs c)) (fact_id (rest bs c));
      take_str = λ bs c scratch. numbered_then (placed_from c.at (rest bs c) scratch (get_str (rest bs c))).answer _ (places c.at (rest bs c) scratch (get_str (rest bs c)) (str (rest bs c))) (λ t. tt);
      take_bytes = λ bs c scratch. numbered_then (placed_from c.at (rest bs c) scratch (get_bytes (rest bs c))).answer _ (places c.at (rest bs c) scratch (get_bytes (rest bs c)) (bytes (rest bs c))) (λ t. tt);
      open_record = λ bs c. moves (rest bs c) c (deep c + 1) (record_mark (deep c) (rest bs c)) (record_mark_lem (deep c) (rest bs c));
      open_union = λ bs c. moves (rest bs c) c (deep c + 1) (union_mark (deep c) (rest bs c)) (union_mark_lem (deep c) (rest bs c));
      close = λ bs c. numbered_if (eqb c.depth 0) _ _ (listed tt tt) (moves (rest bs c) c (deep c - 1) (group_end (rest bs c)) (group_end_lem (rest bs c)));
      is_record_end = λ bs c. numbered_if (eqb c.depth 0) _ _ tt (end_ahead_lem (rest bs c));
      put_null = λ out c. wrote (deep c) (put_at out c.at (null_bytes (deep c))) (puts out c.at (null_bytes (deep c)));
      put_record = λ out c. wrote_if (ltb (deep c) max_depth) _ _ (wrote (deep c + 1) (put_at out c.at (0x22 ∷ [])) (puts out c.at (0x22 ∷ []))) (listed tt tt);
      put_union = λ out c disc. wrote_if (ltb (deep c) max_depth) _ _ (wrote (deep c + 1) (put_at out c.at (tag_bytes disc)) (puts out c.at (tag_bytes disc))) (listed tt tt);
      put_end = λ out c. wrote_if (eqb c.depth 0) _ _ (listed tt tt) (wrote (deep c - 1) (put_at out c.at (0 ∷ [])) (puts out c.at (0 ∷ [])));
      str_chars = λ bs. opening bs;
      chars_next = λ bs at done. char_step bs at done;
    }
