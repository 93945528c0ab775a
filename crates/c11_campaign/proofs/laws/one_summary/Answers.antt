use Rattle.c11_campaign.proofs.OneSummary.{one_summary}
use Rattle.c11_campaign.proofs.laws.one_summary.Goals as goal

pub returns : goal.returns
returns c = one_summary c.one_run_is_one.ensures.one c.kept_is_one.ensures
