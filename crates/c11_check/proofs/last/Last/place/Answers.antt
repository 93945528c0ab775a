use Rattle.std.proofs.Common.{sym, ap, ◌∙◌}
use Rattle.std.specs.Option.{option_copied}
use Rattle.c11_check.specs.Table.{flat, place_at}
use Rattle.c11_check.proofs.Entries.{place_looked_up}
use Rattle.c11_check.proofs.last.Last.place.Goals as goal

pub returns-in-Some : goal.returns-in-Some
returns-in-Some c = ap flat (sym (ap option_copied c.in-Some.is)) ∙ (place_looked_up c.args.name.now _ _ c.get.ensures.value ∙ ap (place_at c.args.name.now) c.self.view_is)

pub returns-in-None : goal.returns-in-None
returns-in-None c = ap flat (sym (ap option_copied c.in-None.is)) ∙ (place_looked_up c.args.name.now _ _ c.get.ensures.value ∙ ap (place_at c.args.name.now) c.self.view_is)
