use Rattle.c11_campaign.proofs.OneSummary.{counts_sum_up}
use Rattle.c11_campaign.proofs.laws.counts_sum_up.Goals as goal

pub returns : goal.returns
returns c = counts_sum_up c.runs_are_counted.ensures c.outputs_are_counted.ensures
