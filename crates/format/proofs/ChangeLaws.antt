-- What encode_key gives for a record with a new value in one field: what the value's own encoding gives, and the length of the key with its bytes spliced in.
use mathlib.Core.Path.{◌≡◌, refl, sym, ◌∙◌}
use mathlib.Core.List.{List, ◌++◌}
use Prim.Native.Nat.{ℕ, ◌+◌, ◌≤◌, ◌<◌}
use lib.ListN.{length, take, drop}
use Rattle.format.specs.Answer.{Answer, ok, refused, and_then, KeyTooLong}
use Rattle.format.specs.Tree.{Ty, Tys, Val, Vals}
use Rattle.format.specs.Sheet.{field_count, val_count}
use Rattle.format.specs.Encode.{val_bytes, vals_bytes, encode, encode_key, key_bytes, fits, fits_all, max_key_bytes, fine}
use Rattle.format.specs.Bounds.{first_bytes}
use Rattle.format.specs.Replace.{field_at, set_field, spliced}
use Rattle.format.specs.Spans.{field_type}
use Rattle.format.proofs.Tests.{leb_yes, leb_no, eqb_yes}
use Rattle.format.proofs.EncodeLaws.{fits_count, accepted, key_made}
use Rattle.format.proofs.ReplaceLaws.{refit, set_count}

module _ (ts : Tys) (vs : Vals) (k : ℕ) (u : Val) (l : k < val_count vs) (f : fits_all ts 0 vs ≡ fine) where
  same_count : field_count ts ≡ val_count (set_field k u vs)
  same_count = fits_count ts 0 vs f ∙ sym (set_count k u vs)

  -- what refuses the value refuses the record
  pub changed_bad : (n d : ℕ) → encode (field_type k ts) 0 u ≡ refused n d → encode_key (Ty.Record ts) (Val.Record (set_field k u vs)) ≡ refused n d
  unfolding encode encode_key key_bytes
  changed_bad n d e = go (fits (field_type k ts) 0 u) refl e
    where
      go : (g : Answer Unit) → fits (field_type k ts) 0 u ≡ g → and_then g (λ t. ok (val_bytes 0 u)) ≡ refused n d → encode_key (Ty.Record ts) (Val.Record (set_field k u vs)) ≡ refused n d
      go (ok t) q h = cc
      go (refused m c) q h = rw (eqb_yes (field_count ts) (val_count (set_field k u vs)) same_count, refit ts 0 k u vs l f, q) (cc)

  module _ (x : List ℕ) (e : encode (field_type k ts) 0 u ≡ ok x) where
    pub value_bytes : val_bytes 0 u ≡ x
    unfolding encode
    value_bytes = (accepted (fits (field_type k ts) 0 u) e).1

    -- otherwise its key is the spliced one
    made : key_bytes (Ty.Record ts) (Val.Record (set_field k u vs)) ≡ ok (vals_bytes 0 (set_field k u vs))
    unfolding encode
    made = key_made ts (set_field k u vs) (refit ts 0 k u vs l f ∙ (accepted (fits (field_type k ts) 0 u) e).0)

    pub changed_long : max_key_bytes < length (vals_bytes 0 (set_field k u vs)) → encode_key (Ty.Record ts) (Val.Record (set_field k u vs)) ≡ refused KeyTooLong (length (vals_bytes 0 (set_field k u vs)))
    unfolding encode_key
    changed_long h = rw (made, leb_no (length (vals_bytes 0 (set_field k u vs))) max_key_bytes h)

    pub changed_ok : length (vals_bytes 0 (set_field k u vs)) ≤ max_key_bytes → encode_key (Ty.Record ts) (Val.Record (set_field k u vs)) ≡ ok (vals_bytes 0 (set_field k u vs))
    unfolding encode_key
    changed_ok h = rw (made, leb_yes (length (vals_bytes 0 (set_field k u vs))) max_key_bytes h)

-- the key with bytes spliced in: those before the field, the new ones, those behind
pub spliced_is : (k : ℕ) (u : Val) (vs : Vals) (key : List ℕ) (p e : ℕ) → p ≡ length (first_bytes k vs) → e ≡ length (first_bytes k vs) + length (val_bytes 0 (field_at k vs))
    → spliced k u vs key ≡ take p key ++ (val_bytes 0 u ++ drop e key)
unfolding spliced
spliced_is k u vs key p e q r = rw (q, r)
