-- What comparing two values answers, and what the walk over their sheets promises.
use Rattle.std.specs.Prelude.{◌≡◌, ℕ, zero, suc, ◌+◌, ◌≤◌, List, length, ◌≢◌, slice_index, Result}
use Rattle.std.specs.declared.cmp.Ordering.{Ordering}
use Rattle.std.specs.declared.cmp.Ordering.TheVariants.{Equal}
use Prim.Native.Nat as maths
use Rattle.format.specs.Answer.{Answer}
use Rattle.format.specs.Refusals.{answered_by}
use Rattle.format.specs.declared.refusal.Refusal.{Refusal}
use Rattle.blocks.specs.Compare.{order_of}
use Rattle.format.specs.Tree.{Val, Vals}
use Rattle.format.specs.Sheet.{val_count}
use Rattle.format.specs.Order.{cmp_val, cmp_vals}
use Rattle.format.proofs.ValuePlaces.{ValueIn, ValuesIn}
use Rattle.order.specs.declared.Walk.{Walk}

-- the call's answer
abbrev pub compared_of : Result Ordering Refusal → Answer maths.Ordering
compared_of r = answered_by order_of r

-- the rank of a value by its kind's number; no value has a kind over 6
unfoldable pub rank_of : ℕ → ℕ
rank_of zero = 0x00
rank_of (suc zero) = 0x40
rank_of (suc (suc zero)) = 0x21
rank_of (suc (suc (suc zero))) = 0x53
rank_of (suc (suc (suc (suc zero)))) = 0x51
rank_of (suc (suc (suc (suc (suc zero))))) = 0x22
rank_of (suc (suc (suc (suc (suc (suc zero)))))) = 0x52
rank_of (suc (suc (suc (suc (suc (suc (suc k))))))) = 0x00

-- ---- places

-- the places lie within both sheets
pub record Within (wa pa wb pb : List ℕ) (s : Walk) : Type 0 where
  pub in_wa : s.i ≤ length wa
  pub in_pa : s.p ≤ length pa
  pub in_wb : s.j ≤ length wb
  pub in_pb : s.q ≤ length pb

-- both values' ends
pub record Behind (e f g h : ℕ) (r : Walk) : Type 0 where
  pub at_i : r.i ≡ e
  pub at_p : r.p ≡ f
  pub at_j : r.j ≡ g
  pub at_q : r.q ≡ h

-- ---- answers

-- the order; where it is equal, r stands behind both
pub record Says (o : maths.Ordering) (e f g h : ℕ) (r : Walk) : Type 0 where
  pub order : order_of r.order ≡ o
  pub ends : r.order ≡ Equal → Behind e f g h r

-- whatever two values stand at the places, r says how they compare
pub record One (wa pa wb pb : List ℕ) (i p j q : ℕ) (r : Walk) : Type 0 where
  pub one : (a b : Val) (e f g h : ℕ) → ValueIn wa pa i p a e f → ValueIn wb pb j q b g h → Says (cmp_val a b) e f g h r

-- and whatever m and n values in a row
pub record Row (wa pa wb pb : List ℕ) (m n i p j q : ℕ) (r : Walk) : Type 0 where
  pub row : (vs us : Vals) (e f g h : ℕ) → m ≡ val_count vs → n ≡ val_count us → ValuesIn wa pa i p vs e f → ValuesIn wb pb j q us g h → Says (cmp_vals vs us) e f g h r

-- ---- what each walk promises

-- two values that are no groups, of one rank k other than Null's and with the second words x and y, in whatever words they stand
pub record CompareScalar (pa pb : List ℕ) (s : Walk) (k x y : ℕ) (r : Walk) : Type 0 where
  pub on : s.i ≤ r.i
  pub in_wa : r.i ≤ s.i + 2
  pub in_pa : r.p ≤ length pa
  pub in_wb : r.j ≤ s.j + 2
  pub in_pb : r.q ≤ length pb
  pub says : (wa wb : List ℕ) → k ≡ rank_of (slice_index wa s.i) → k ≡ rank_of (slice_index wb s.j) → x ≡ slice_index wa (s.i + 1) → y ≡ slice_index wb (s.j + 1)
      → (k ≢ 0x00) → (k ≢ 0x22) → (k ≢ 0x52) → One wa pa wb pb s.i s.p s.j s.q r

pub record CompareValue (wa pa wb pb : List ℕ) (s r : Walk) : Type 0 where
  pub on : s.i ≤ r.i
  pub within : Within wa pa wb pb r
  pub says : One wa pa wb pb s.i s.p s.j s.q r

pub record CompareFields (wa pa wb pb : List ℕ) (s : Walk) (m n : ℕ) (r : Walk) : Type 0 where
  pub on : s.i ≤ r.i
  pub within : Within wa pa wb pb r
  pub says : Row wa pa wb pb m n s.i s.p s.j s.q r
