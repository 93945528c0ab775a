use Rattle.std.proofs.Common.{sym, subst, ◌∙◌}
use Rattle.std.proofs.lemmas.Option.{same_Some}
use Rattle.std.specs.Prelude.{◌↔◌, IsTrue}
use Rattle.c11_events.specs.declared.op.Ask.{Ask}
use Rattle.c11_meaning.specs.Progress.{Ends}
use Rattle.c11_session.proofs.Ending.{finish_gone, may_go}
use Rattle.c11_session.proofs.place.Place.end_gone.Goals as goal

pub end_with_entry-requires-clause-may : goal.end_with_entry-requires-clause-may
end_with_entry-requires-clause-may c = may_go c.requires.played

pub returns : goal.returns
returns c =
    let h = c.requires.played in
    finish_gone h c.end_with_entry.new.chair c.give.new.self c.ends-self.result c.end_with_entry.ensures.ended c.end_with_entry.ensures.table
    c.give.ensures.number (c.give.ensures.stands _ _ h.part.stands)
    (subst (λ (a : Ask). IsTrue c.ends-self.result ↔ Ends a.op c.args.reply) (same_Some _ h.ask (sym c.in-Some.is ∙ h.in_mind)) c.ends-self.ensures)
