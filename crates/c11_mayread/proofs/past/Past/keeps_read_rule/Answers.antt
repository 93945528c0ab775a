use Rattle.std.proofs.Common.{ap, sym, subst}
use Rattle.std.proofs.lemmas.Bool.{eq-eqb}
use Rattle.c11_scorder.specs.Tables as tables
use Rattle.c11_scorder.specs.Tables.{Tables}
use Rattle.c11_mayread.specs.Facts.{Facts}
use Rattle.c11_mayread.proofs.Recalling.{is_last_store}
use Rattle.c11_mayread.proofs.past.Past.keeps_read_rule.Goals as goal

pub returns-then-x-last : goal.returns-then-x-last
returns-then-x-last c = λ events past.
    let stands = subst (λ (t : Tables). tables.StandsFor t events) (sym (ap (λ (f : Facts). f.order) c.self.view_is)) past.order in
    (λ _. is_last_store events c.args.cell c.args.x c.in-Some.last c.if-x-last.true (c.in-Some.ensures events stands), λ _. eq-eqb c.args.x c.in-Some.last c.if-x-last.true)
