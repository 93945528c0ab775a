use Rattle.std.proofs.Common.{ap, sym, subst}
use Rattle.c11_scorder.specs.Tables as tables
use Rattle.c11_scorder.specs.Tables.{Tables}
use Rattle.c11_mayread.specs.Facts.{Facts}
use Rattle.c11_mayread.proofs.Recalling.{no_fence, before_last_fence}
use Rattle.c11_mayread.proofs.past.Past.before_fence_of.Goals as goal

pub returns-in-Some : goal.returns-in-Some
returns-in-Some c = λ events past.
    let stands = subst (λ (t : Tables). tables.StandsFor t events) (sym (ap (λ (f : Facts). f.order) c.self.view_is)) past.order in
    let last = c.in-Some.ensures events stands in
    before_last_fence events c.args.thread c.args.cell c.args.of c.in-Some.fence last c.store_before_fence.result (c.store_before_fence.ensures events stands last.is.0)

pub returns-in-None : goal.returns-in-None
returns-in-None c = λ events past. no_fence events c.args.thread c.args.cell c.args.of
    (c.in-None.ensures events (subst (λ (t : Tables). tables.StandsFor t events) (sym (ap (λ (f : Facts). f.order) c.self.view_is)) past.order))
