-- What was put into the array stands at its front, and is what the second copy puts.
use mathlib.Core.Path.{◌≡◌, ◌∙◌, ap}
use mathlib.Core.List.{List}
use Prim.Native.Nat.{ℕ, ◌+◌, ◌-◌, ◌≤◌}
use native.Mathlib.Omega.{arith}
use lib.ListN.{length, take, drop}
use lib.Seq.{slice, length-slice}
use Rattle.std.proofs.lemmas.List.{take_all}
use Rattle.format.specs.Fields.{put}
use Rattle.blocks.proofs.Put.{put_begins}
use Rattle.blocks.proofs.Spans.{part_slice}
use Rattle.blocks.proofs.copying.copy_block.Goals as goal

-- all of a part, put in front, stands in front
part_put : (d s : List ℕ) (i n : ℕ) {m : List ℕ} → i + n ≤ length s → m ≡ put d 0 (slice 0 n (take (i + n - i) (drop i s))) → slice 0 n m ≡ slice i (i + n) s
part_put d s i n h e =
    let l : length (slice i (i + n) s) ≡ n = length-slice i (i + n) s h ∙ (omega arith) in
    let all = take_all n (slice i (i + n) s) (omega arith) in
    put_begins d (slice i (i + n) s) (e ∙ ap (put d 0) (ap (slice 0 n) (part_slice i (i + n) s (omega arith)) ∙ all)) l

pub returns : goal.returns
returns c = rw (part_put _ c.args.src.now c.args.i c.args.n (omega arith) c.copy_to.ensures) at c.copy_to-2.ensures
