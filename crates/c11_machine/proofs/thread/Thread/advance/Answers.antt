use Rattle.std.proofs.Common.{IfOk, Ok, subst, sym}
use Rattle.c11_machine.proofs.Advances.{again_begun, again_run, asks_then, begins_on, begins_with, comes_begun, comes_run, does_begin, keeps_run}
use Rattle.c11_machine.proofs.Effects.{replies}
use Rattle.c11_machine.specs.Stands.{CanAsk, Comes, Standing, Stands}
use Rattle.c11_machine.specs.Views.{config_of}
use Rattle.c11_events.specs.declared.op.Op.TheVariants as op
use Rattle.c11_machine.proofs.thread.Thread.advance.Goals as goal

pub returns-then-self-clause-keeps : goal.returns-then-self-clause-keeps
returns-then-self-clause-keeps c replies stands = keeps_run c.args.code.now c.self.inside.begun (config_of c.self.inside.machine) (config_of c.run.new.self) replies c.if-self.true c.run.ensures.reaches
    (subst (λ (t : Standing). Stands c.args.code.now t replies) (sym c.self.view_is) stands)

pub returns-then-self-clause-comes : goal.returns-then-self-clause-comes
returns-then-self-clause-comes c = subst (λ (t : Standing). IfOk c.run.result (λ ask. Comes c.args.code.now t ask)) c.self.view_is (comes_run c.args.code.now c.self.inside.begun (config_of c.self.inside.machine) (config_of c.run.new.self) c.run.result c.if-self.true c.run.ensures.reaches c.run.ensures.asks)

pub returns-then-self-clause-asks : goal.returns-then-self-clause-asks
returns-then-self-clause-asks c = asks_then c.args.code.now c.args.self.now c.run.result (subst (λ (t : Standing). IfOk c.run.result (λ ask. Comes c.args.code.now t ask)) c.self.view_is (comes_run c.args.code.now c.self.inside.begun (config_of c.self.inside.machine) (config_of c.run.new.self) c.run.result c.if-self.true c.run.ensures.reaches c.run.ensures.asks))

pub returns-then-self-clause-again : goal.returns-then-self-clause-again
returns-then-self-clause-again c ask comes = again_run c.args.code.now c.self.inside.begun (config_of c.self.inside.machine) (config_of c.run.new.self) ask c.if-self.true c.run.ensures.reaches (subst (λ (t : Standing). Comes c.args.code.now t ask) (sym c.self.view_is) comes)

pub returns-in_default-clause-comes : goal.returns-in_default-clause-comes
returns-in_default-clause-comes c = subst (λ (t : Standing). Comes c.args.code.now t (record { line = 0; op = op.Begin })) c.self.view_is (begins_with c.args.code.now c.self.inside.begun c.self.inside.machine c.if-self.false c.in_default.is)

pub returns-in_default-clause-asks : goal.returns-in_default-clause-asks
returns-in_default-clause-asks c = asks_then c.args.code.now c.args.self.now (Ok (record { line = 0; op = op.Begin })) (subst (λ (t : Standing). Comes c.args.code.now t (record { line = 0; op = op.Begin })) c.self.view_is (begins_with c.args.code.now c.self.inside.begun c.self.inside.machine c.if-self.false c.in_default.is))

pub unreachable-requires : goal.unreachable-requires
unreachable-requires c = does_begin c.args.code.now c.self.inside.begun (config_of c.self.inside.machine) (config_of c.self.inside.machine) (config_of c.begin.new.self) _ c.if-self.false c.if-not-branch.true c.in_ok-begin.ensures (subst (λ (t : Standing). CanAsk c.args.code.now t) (sym c.self.view_is) c.requires)

pub returns-clause-comes : goal.returns-clause-comes
returns-clause-comes c = subst (λ (t : Standing). IfOk c.run-2.result (λ ask. Comes c.args.code.now t ask)) c.self.view_is (comes_begun c.args.code.now c.self.inside.begun (config_of c.self.inside.machine) (config_of c.begin.new.self) (config_of c.run-2.new.self) c.run-2.result c.if-self.false (begins_on _ (config_of c.self.inside.machine) (config_of c.begin.new.self) _ c.if-not-branch.false c.in_ok-begin.ensures) c.run-2.ensures.reaches c.run-2.ensures.asks)

pub returns-clause-asks : goal.returns-clause-asks
returns-clause-asks c = asks_then c.args.code.now c.args.self.now c.run-2.result (subst (λ (t : Standing). IfOk c.run-2.result (λ ask. Comes c.args.code.now t ask)) c.self.view_is (comes_begun c.args.code.now c.self.inside.begun (config_of c.self.inside.machine) (config_of c.begin.new.self) (config_of c.run-2.new.self) c.run-2.result c.if-self.false (begins_on _ (config_of c.self.inside.machine) (config_of c.begin.new.self) _ c.if-not-branch.false c.in_ok-begin.ensures) c.run-2.ensures.reaches c.run-2.ensures.asks))

pub returns-clause-again : goal.returns-clause-again
returns-clause-again c ask comes = again_begun c.args.code.now c.self.inside.begun (config_of c.self.inside.machine) (config_of c.begin.new.self) (config_of c.run-2.new.self) ask c.if-self.false (begins_on _ (config_of c.self.inside.machine) (config_of c.begin.new.self) _ c.if-not-branch.false c.in_ok-begin.ensures) c.run-2.ensures.reaches (subst (λ (t : Standing). Comes c.args.code.now t ask) (sym c.self.view_is) comes)
