use Rattle.c11_commands.proofs.OneDue.{one_is_due}
use Rattle.c11_commands.proofs.laws.one_is_due.Goals as goal

pub returns : goal.returns
returns c = one_is_due c.one_program.ensures c.one_refusal.ensures c.not_both.ensures c.one_run_is_one.ensures.one c.one_summary.ensures
