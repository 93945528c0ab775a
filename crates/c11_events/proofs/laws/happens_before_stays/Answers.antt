use Rattle.std.proofs.Common.{[], ◌∷◌}
use Rattle.c11_events.proofs.Prefix.{hb_more, hb_less}
use Rattle.c11_events.proofs.laws.happens_before_stays.Goals as goal

pub returns : goal.returns
returns c = λ events e a b reads le. (hb_more events (e ∷ []) a b, hb_less events (e ∷ []) reads a b le)
