use Rattle.std.proofs.Common.{ap, refl}
use Rattle.c11_events.specs.Values.{no_value}
use Rattle.c11_mayread.specs.declared.asked.Writes.{Writes}
use Rattle.c11_mayread.specs.Asks.{stores_by}
use Rattle.c11_mayread.proofs.asked.may_store.Goals as goal

pub returns-in-Always : goal.returns-in-Always
returns-in-Always c = (λ _. (no_value, ap (λ (w : Writes). stores_by w no_value) c.in-Always.is), λ _. refl)
