use Rattle.c11_commands.specs.Answers.{whole, part}
use Rattle.c11_commands.proofs.due.write_due.Goals as goal

pub returns-in-Ok : goal.returns-in-Ok
returns-in-Ok g c = whole c.in-Ok.ensures.all c.in-Ok.ensures.faults_kept c.in-Ok.ensures.empties_kept

pub returns-in-Err : goal.returns-in-Err
returns-in-Err g c = part c.in-Err.ensures.part c.in-Err.ensures.cause
