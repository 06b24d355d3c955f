-- The prefix call refuses with a numbered refusal: by its checks in turn, as the span call.
use mathlib.Core.List.{List}
use Prim.Native.Nat.{ℕ}
use lib.Dec.{eqb}
use Rattle.format.specs.Sheet.{val_count}
use Rattle.format.specs.TypeSheet.{type_of}
use Rattle.format.specs.ValueSheet.{value_of}
use Rattle.format.specs.Encode.{fits_all}
use Rattle.format.specs.Bounds.{trimmed, strinc}
use Rattle.format.specs.Spans.{run_mark, start_end, prefix_of, prefix_for, prefix_call}
use Rattle.tuple.specs.Numbers.{Numbered, StartsNumbered}
use Rattle.tuple.proofs.Refusals.{listed, numbered_if, numbered_then, typed, recorded, next_of, raises, two_ends, fitting_all}

prefixes_numbered : (ty words pool s : List ℕ) → Numbered (prefix_for ty words pool s)
unfolding prefix_for strinc
prefixes_numbered ty words pool s =
    typed (type_of ty) _ (λ t. recorded (value_of words pool) _ (λ vs. next_of t (val_count vs) (prefix_of vs s) (λ ts u.
    numbered_if (eqb (run_mark u) 0) _ _ (listed tt tt) (numbered_then (fits_all ts 0 vs) _ (fitting_all ts 0 vs) (λ a. numbered_then (strinc (start_end vs (run_mark u) s)) _ (raises (trimmed (start_end vs (run_mark u) s))) (λ high. tt))))))

pub starts_numbered : StartsNumbered
unfolding prefix_call
starts_numbered = record { starting_with = λ ty words pool s lower upper. two_ends lower upper (prefix_for ty words pool s) (prefixes_numbered ty words pool s) }
