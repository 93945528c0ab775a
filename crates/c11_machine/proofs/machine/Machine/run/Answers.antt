use Rattle.c11_flat.specs.Flat.{To, next}
use Rattle.c11_machine.proofs.Takes.{all_taken, nearer, never_stuck, one_more, took_asks, took_on, took_stuck}
use Rattle.c11_machine.specs.Views.{config_of}
use Rattle.c11_machine.proofs.machine.Machine.run.Goals as goal

pub work-smaller : goal.work-smaller
work-smaller c = nearer c.args.code.now (config_of c.work.self) (config_of c.step.new.self) (took_on (next c.args.code.now (To (config_of c.work.self))) (config_of c.work.self) (config_of c.step.new.self) _ c.in-On.is c.in_ok-step.ensures)

pub work-preserved : goal.work-preserved
work-preserved c = one_more c.args.code.now (To (config_of c.args.self.now)) (config_of c.work.self) (config_of c.step.new.self) c.work.invariant (took_on (next c.args.code.now (To (config_of c.work.self))) (config_of c.work.self) (config_of c.step.new.self) _ c.in-On.is c.in_ok-step.ensures)

pub returns-in-Asks-clause-taken : goal.returns-in-Asks-clause-taken
returns-in-Asks-clause-taken c = let t = took_asks (next c.args.code.now (To (config_of c.work.self))) (config_of c.work.self) (config_of c.step.new.self) _ _ c.in-Asks.is c.in_ok-step.ensures in all_taken c.args.code.now (config_of c.work.self) c.step.new.self c.in-Asks.ask t.0 t.1

pub unreachable-requires : goal.unreachable-requires
unreachable-requires c = never_stuck c.args.code.now (To (config_of c.args.self.now)) (config_of c.work.self) c.requires.0 c.requires.1 c.work.invariant (took_stuck (next c.args.code.now (To (config_of c.work.self))) (config_of c.work.self) (config_of c.step.new.self) _ c.in-Stuck.is c.in_ok-step.ensures)
