use Rattle.std.proofs.Common.{◌≡◌, true, false, refl, sym, ap, subst, ◌∙◌, arith}
use Rattle.c11_num.specs.Ranges.{TypedNumber}
use Rattle.c11_events.specs.Events.{stored_cell}
use Rattle.c11_events.proofs.DecideEvents.{at_below}
use Rattle.std.proofs.Common.{Some}
use Rattle.c11_mayread.specs.Asks.{stores_by}
use Rattle.c11_mayread.specs.Standing.{Words, StandsFor}
use Rattle.c11_mayread.specs.SoundReads.{words_of}
use Rattle.c11_mayread.proofs.Following.{load_offered, store_offered, store_not_offered, next_store, next_load}
use Rattle.c11_mayread.proofs.reads.Reads.is_offered.Goals as goal

pub returns-then-ends_chain : goal.returns-then-ends_chain
returns-then-ends_chain c = λ events e now store from at as_store as_load.
    let stands : StandsFor (words_of c.self.inside) events = subst (λ (w : Words). StandsFor w events) (sym c.self.view_is) now in
    let le = at_below events c.args.x (λ f. stored_cell f.kind ≡ Some c.args.asked.now.cell) store in
    let value = c.value.ensures events stands.past (omega arith) in
    let is = ap (λ (v : TypedNumber). stores_by c.args.asked.now.writes v) (sym value) ∙ (sym c.stores_by-stores.ensures ∙ c.if-stores.true) in
    let next = next_store (words_of c.self.inside) events stands c.args.asked.now.cell c.args.x store c.last_store_decides.ensures c.args.asked.now refl e from at is in
    store_offered (words_of c.self.inside) events stands c.args.asked.now.cell c.args.x store c.last_store_decides.ensures c.args.asked.now refl e from at is c.ends_chain.result c.if-ends_chain.true c.ends_chain.ensures
    c.may_follow.result (c.may_follow.ensures events e true now store from next (as_store is))

pub returns-else-ends_chain : goal.returns-else-ends_chain
returns-else-ends_chain c = λ events e now store from at as_store as_load.
    let stands : StandsFor (words_of c.self.inside) events = subst (λ (w : Words). StandsFor w events) (sym c.self.view_is) now in
    let le = at_below events c.args.x (λ f. stored_cell f.kind ≡ Some c.args.asked.now.cell) store in
    let value = c.value.ensures events stands.past (omega arith) in
    let is = ap (λ (v : TypedNumber). stores_by c.args.asked.now.writes v) (sym value) ∙ (sym c.stores_by-stores.ensures ∙ c.if-stores.true) in (
      λ t. absurd (let clash : false ≡ true = t in cc),
      λ all. absurd (store_not_offered (words_of c.self.inside) events stands c.args.asked.now.cell c.args.x store c.last_store_decides.ensures c.args.asked.now refl e from at is c.ends_chain.result c.if-ends_chain.false c.ends_chain.ensures all),
    )

pub returns-else-stores : goal.returns-else-stores
returns-else-stores c = λ events e now store from at as_store as_load.
    let stands : StandsFor (words_of c.self.inside) events = subst (λ (w : Words). StandsFor w events) (sym c.self.view_is) now in
    let le = at_below events c.args.x (λ f. stored_cell f.kind ≡ Some c.args.asked.now.cell) store in
    let value = c.value.ensures events stands.past (omega arith) in
    let is = ap (λ (v : TypedNumber). stores_by c.args.asked.now.writes v) (sym value) ∙ (sym c.stores_by-stores.ensures ∙ c.if-stores.false) in
    let next = next_load (words_of c.self.inside) events stands c.args.asked.now.cell c.args.x store c.last_store_decides.ensures c.args.asked.now refl e from at is in
    load_offered (words_of c.self.inside) events stands c.args.asked.now.cell c.args.x store c.last_store_decides.ensures c.args.asked.now refl e from at is
    c.may_follow-else-stores.result (c.may_follow-else-stores.ensures events e false now store from next (as_load is))
