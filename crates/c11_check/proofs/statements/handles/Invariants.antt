use Rattle.std.proofs.Common.{drop}
use Rattle.c11_check.specs.Statements.{handles_walk}
use Rattle.c11_check.proofs.Walking.{Leads}
use Rattle.c11_check.proofs.statements.handles.Given as goal

abbrev pub invariant-loop-place : goal.invariant-loop-place
invariant-loop-place l = Leads l.first (handles_walk (drop l.place-index l.places) l.scopes) l.fn.first (handles_walk l.places l.fn.scopes)
