use mathlib.Core.Path.{◌≡◌, refl, sym}
use mathlib.Core.List.{List}
use Prim.Native.Nat.{ℕ, ◌+◌, ◌-◌, ◌≤◌}
use native.Mathlib.Nat.{zero-add}
use native.Mathlib.Omega.{arith}
use lib.ListN.{length}
use lib.Seq.{slice}
use Rattle.format.specs.Fields.{put}
use Rattle.blocks.proofs.Put.{put_none, put_front}
use Rattle.blocks.proofs.copying.copy_blocks.Goals as goal

-- the next part of the front
further : (d s : List ℕ) (i e : ℕ) {d₁ d₂ : List ℕ} → i ≤ e → e ≤ length s → e ≤ length d → d₁ ≡ put d 0 (slice 0 i s) → d₂ ≡ put d₁ i (slice i e s)
    → (length d₂ ≡ length d) × (d₂ ≡ put d 0 (slice 0 e s))
further d s i e {d₁} {d₂} h l r a b = put_front d s 0 i e h l (omega arith) a (rw zero-add b)

pub loop-i-init : goal.loop-i-init
loop-i-init c = (omega arith, refl, sym (put_none _ 0))

pub overflow_sub-n : goal.overflow_sub-n
overflow_sub-n c = omega arith

pub copy_block-requires : goal.copy_block-requires
copy_block-requires c = (omega arith, omega arith, omega arith)

pub overflow_add-i : goal.overflow_add-i
overflow_add-i c = omega arith

pub loop-i-smaller : goal.loop-i-smaller
loop-i-smaller c = omega arith

pub loop-i-preserved : goal.loop-i-preserved
loop-i-preserved c =
    let l = c.loop-i in
    let a = c.args in
    let f = further a.dst.now a.src.now l.i (l.i + 2048) (omega arith) (omega arith) (omega arith) l.invariant.2 c.copy_block.ensures in
    (omega arith, f.0, f.1)

pub overflow_sub-n-2 : goal.overflow_sub-n-2
overflow_sub-n-2 c = omega arith

pub copy_block-requires-2 : goal.copy_block-requires-2
copy_block-requires-2 c = (omega arith, omega arith, omega arith)

pub shape_of-dst : goal.shape_of-dst
shape_of-dst c =
    let l = c.loop-i in
    let a = c.args in
    let e : l.i + (a.n - l.i) ≡ a.n = omega arith in
    (further a.dst.now a.src.now l.i a.n (omega arith) (omega arith) (omega arith) l.invariant.2 (rw e at c.copy_block-2.ensures)).0

pub returns : goal.returns
returns c =
    let l = c.loop-i in
    let a = c.args in
    let e : l.i + (a.n - l.i) ≡ a.n = omega arith in
    (further a.dst.now a.src.now l.i a.n (omega arith) (omega arith) (omega arith) l.invariant.2 (rw e at c.copy_block-2.ensures)).1
