use Rattle.std.proofs.Common.{drop, map}
use Rattle.c11_check.specs.Branches.{arms_walk}
use Rattle.c11_check.specs.Statements.{in_order, walk_of, walk_of_arm}
use Rattle.c11_check.proofs.Walking.{Leads}
use Rattle.c11_check.proofs.statements.+statements.Given as goal

abbrev pub invariant-in_order-loop-item : goal.invariant-in_order-loop-item
invariant-in_order-loop-item l = Leads l.first (in_order (map walk_of (drop l.item-index l.items)) l.around l.scopes) l.fn.first (in_order (map walk_of l.items) l.around l.fn.scopes)

abbrev pub invariant-arms-loop-arm : goal.invariant-arms-loop-arm
invariant-arms-loop-arm l = Leads l.first (in_order (map walk_of_arm (drop l.arm-index l.arm-items)) l.around l.scopes) l.fn.first (arms_walk l.chain l.around l.fn.scopes)
