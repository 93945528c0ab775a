use Rattle.std.proofs.Common.{◌≡◌, ◌+◌, ◌-◌}
use Rattle.c11_machine.specs.Steps.{zeros}
use Rattle.c11_machine.specs.Views.{numbers_of}
use Rattle.c11_machine.proofs.clear.clear_places.Given as goal

abbrev pub invariant-loop-i : goal.invariant-loop-i
invariant-loop-i l = zeros (l.place + l.i) (l.count - l.i) (numbers_of l.locals.items) ≡ zeros l.place l.count (numbers_of l.initial.locals.items)
