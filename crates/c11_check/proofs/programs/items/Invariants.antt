use Rattle.std.proofs.Common.{drop}
use Rattle.c11_check.specs.Programs.{items_walk}
use Rattle.c11_check.proofs.Walking.{Leads}
use Rattle.c11_check.proofs.programs.items.Given as goal

abbrev pub invariant-loop-each : goal.invariant-loop-each
invariant-loop-each l = Leads l.first (items_walk (drop l.each-index l.items) l.scopes) l.fn.first (items_walk l.items l.fn.scopes)
