-- Each way out of a walk is a law of `TypeWalk`. The loops' invariant (`Run`): all end where those that are left do.
-- The measure is thrice the words from the place on, and what tells the members of a turn apart: a group's types stand behind it, and so does that behind a word 7.
use Rattle.sheet.proofs.TypeWalk.{Run}
use Prim.Native.Nat.{◌+◌, ◌-◌, ◌*◌}
use lib.ListN.{length}
use Rattle.format.specs.TypeSheet.{types, alts, type_at}
use Rattle.sheet.proofs.types.+type_ends.Given as goal

abbrev pub decreases-alternatives_end : goal.decreases-alternatives_end
decreases-alternatives_end l = 3 * (length l.ty.now - l.at) + 2

abbrev pub decreases-fields_end : goal.decreases-fields_end
decreases-fields_end l = 3 * (length l.ty.now - l.at) + 2

abbrev pub decreases-group_end : goal.decreases-group_end
decreases-group_end l = 3 * (length l.ty.now - l.at)

abbrev pub decreases-type_end : goal.decreases-type_end
decreases-type_end l = 3 * (length l.ty.now - l.at) + 1

abbrev pub invariant-alternatives_end-loop : goal.invariant-alternatives_end-loop
invariant-alternatives_end-loop l = Run (alts (type_at l.groups)) l.ty l.at l.count l.counter l.place

abbrev pub invariant-fields_end-loop : goal.invariant-fields_end-loop
invariant-fields_end-loop l = Run (types (type_at l.groups)) l.ty l.at l.count l.counter l.place
