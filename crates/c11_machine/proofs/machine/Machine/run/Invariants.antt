use Rattle.std.proofs.Common.{length}
use Rattle.c11_flat.specs.Flat.{To}
use Rattle.c11_machine.specs.Stands.{Reaches}
use Rattle.c11_machine.specs.Measures.{far}
use Rattle.c11_machine.specs.Views.{config_of}
use Rattle.c11_machine.proofs.machine.Machine.run.Given as goal

abbrev pub invariant-work : goal.invariant-work
invariant-work l = Reaches l.code (To (config_of l.initial.self)) (To (config_of l.self))

abbrev pub decreases-work : goal.decreases-work
decreases-work l = far (length l.code.instrs) (config_of l.self)
