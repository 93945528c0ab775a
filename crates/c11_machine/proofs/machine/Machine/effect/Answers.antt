use Rattle.std.proofs.Common.{subst, sym}
use Rattle.c11_flat.specs.declared.instr.Instr.{Instr}
use Rattle.c11_machine.specs.Steps.{IsOuter}
use Rattle.c11_machine.proofs.machine.Machine.effect.Goals as goal

pub returns-in-Print : goal.returns-in-Print
returns-in-Print c = subst (λ (x : Instr). IsOuter x) (sym c.in-Print.is) IsOuter.prints

pub returns-in-Call : goal.returns-in-Call
returns-in-Call c = subst (λ (x : Instr). IsOuter x) (sym c.in-Call.is) IsOuter.calls

pub returns-in-Return : goal.returns-in-Return
returns-in-Return c = subst (λ (x : Instr). IsOuter x) (sym c.in-Return.is) IsOuter.returns

pub returns-in-Clear : goal.returns-in-Clear
returns-in-Clear c = subst (λ (x : Instr). IsOuter x) (sym c.in-Clear.is) IsOuter.clears
