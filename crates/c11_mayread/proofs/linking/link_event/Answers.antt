use Rattle.std.proofs.Common.{sym, subst, ◌∙◌}
use Rattle.c11_mayread.specs.declared.kinds.Access.{Access}
use Rattle.c11_mayread.proofs.Accessing.{Says, says}
use Rattle.c11_mayread.proofs.Ordering.{nothing_links}
use Rattle.c11_mayread.proofs.linking.link_event.Goals as goal

pub link_load-requires-clause-cell : goal.link_load-requires-clause-cell
link_load-requires-clause-cell c = c.requires.loaded c.in-Load.cell (subst (λ (a : Access). Says a c.args.event.now.kind) (sym c.access_of.ensures ∙ c.in-Load.is) (says c.args.event.now.kind)).0

pub link_store-requires-clause-cell : goal.link_store-requires-clause-cell
link_store-requires-clause-cell c = c.requires.stored c.in-Store.cell (subst (λ (a : Access). Says a c.args.event.now.kind) (sym c.access_of.ensures ∙ c.in-Store.is) (says c.args.event.now.kind)).1

pub link_both-requires-clause-cell : goal.link_both-requires-clause-cell
link_both-requires-clause-cell c = c.requires.loaded c.in-LoadAndStore.cell (subst (λ (a : Access). Says a c.args.event.now.kind) (sym c.access_of.ensures ∙ c.in-LoadAndStore.is) (says c.args.event.now.kind)).0

pub returns-in-Nothing-clause-linked : goal.returns-in-Nothing-clause-linked
returns-in-Nothing-clause-linked c =
    let s = subst (λ (a : Access). Says a c.args.event.now.kind) (sym c.access_of.ensures ∙ c.in-Nothing.is) (says c.args.event.now.kind) in
    nothing_links c.args.past.now c.args.event.now c.args.graph.now s.1 s.0

pub returns-in-Load-clause-linked : goal.returns-in-Load-clause-linked
returns-in-Load-clause-linked c =
    let s = subst (λ (a : Access). Says a c.args.event.now.kind) (sym c.access_of.ensures ∙ c.in-Load.is) (says c.args.event.now.kind) in
    c.link_load.ensures.linked s.0 s.1

pub returns-in-Store-clause-linked : goal.returns-in-Store-clause-linked
returns-in-Store-clause-linked c =
    let s = subst (λ (a : Access). Says a c.args.event.now.kind) (sym c.access_of.ensures ∙ c.in-Store.is) (says c.args.event.now.kind) in
    c.link_store.ensures.linked s.0 s.1

pub returns-in-LoadAndStore-clause-linked : goal.returns-in-LoadAndStore-clause-linked
returns-in-LoadAndStore-clause-linked c =
    let s = subst (λ (a : Access). Says a c.args.event.now.kind) (sym c.access_of.ensures ∙ c.in-LoadAndStore.is) (says c.args.event.now.kind) in
    c.link_both.ensures.linked s.0 s.1
