use Rattle.std.proofs.Common.{sym, ◌∙◌, Option, subst, IfOk, Ok, Err}
use Rattle.std.specs.Prelude.{Result}
use Rattle.c11_check.specs.declared.fault.Fault.{Fault}
use Rattle.c11_check.specs.Programs.{faults_of, IsFirstOf}
use Rattle.c11_check.proofs.Firsts.{first_is, none_is}
use Rattle.c11_check.proofs.whole.check.Goals as goal

if_ok : {T E P : Type 0} (result : Result T E) → P → IfOk result (λ _. P)
if_ok (Ok x) p = p
if_ok (Err e) p = tt

pub with_tables-requires-clause-faultless : goal.with_tables-requires-clause-faultless
with_tables-requires-clause-faultless c = none_is (faults_of c.args.program) (sym c.in-Ok-None.ensures ∙ c.in-Ok-None.field-0-is)

pub returns-in-Ok-None-clause-faultless : goal.returns-in-Ok-None-clause-faultless
returns-in-Ok-None-clause-faultless c = if_ok c.with_tables.result (none_is (faults_of c.args.program) (sym c.in-Ok-None.ensures ∙ c.in-Ok-None.field-0-is))

pub returns-in-Ok-Some-clause-fault : goal.returns-in-Ok-Some-clause-fault
returns-in-Ok-Some-clause-fault c = subst (λ (o : Option Fault). IsFirstOf (faults_of c.args.program) o) (sym c.refusal.ensures)
    (first_is (faults_of c.args.program) c.in-Ok-Some.fault (sym c.in-Ok-Some.ensures ∙ c.in-Ok-Some.field-0-is))
