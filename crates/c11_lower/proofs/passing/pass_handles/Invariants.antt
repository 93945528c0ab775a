use Rattle.std.proofs.Common.{◌≡◌, drop}
use Rattle.c11_lower.specs.Lowered.{passed_handles}
use Rattle.c11_lower.proofs.passing.pass_handles.Given as goal

abbrev pub invariant-loop-place : goal.invariant-loop-place
invariant-loop-place l = passed_handles (drop l.place-index l.places) l.scopes ≡ passed_handles l.places l.fn.scopes
