use Rattle.std.proofs.Common.{◌≡◌, ◌+◌, ◌∙◌, ℕ, Bool, suc, List, [], ◌∷◌, Option, length, ap, sym, subst, arith}
use Rattle.std.specs.Vec.{with_items}
use Rattle.std.proofs.lemmas.List.{with_items_is, length-append}
use Rattle.c11_events.specs.declared.event.Event.{Event}
use Rattle.c11_scorder.specs.Tables.{Tables, StandsFor, AreAlike, set_at, some_if, by_store, by_seq_cst_store, by_fence, by_thread}
use Rattle.c11_scorder.specs.contracts.order.ScOrder.{the_view}
use Rattle.c11_scorder.proofs.Keeping.{noted_as, last_as, room_next, same_seq_cst_cell, same_fence, same_thread, length_set_at}
use Rattle.c11_scorder.proofs.order.ScOrder.note.Goals as goal

pub note_at-requires-clause-rises : goal.note_at-requires-clause-rises
note_at-requires-clause-rises c = λ cell t y is. let le = c.self.invariant.stores_left.below cell t y is in let same = ap (λ (x : Tables). x.noted) c.self.view_is in omega (arith, c.requires.number, same)

pub note_at-requires-2-clause-rises : goal.note_at-requires-2-clause-rises
note_at-requires-2-clause-rises c = λ cell t y is. let le = c.self.invariant.seq_cst_stores_left.below cell t y is in let same = ap (λ (x : Tables). x.noted) c.self.view_is in omega (arith, c.requires.number, same)

pub note_at-requires-3-clause-rises : goal.note_at-requires-3-clause-rises
note_at-requires-3-clause-rises c = λ cell t y is. let le = c.self.invariant.fences_left.below cell t y is in let same = ap (λ (x : Tables). x.noted) c.self.view_is in omega (arith, c.requires.number, same)

pub invariant_of-self : goal.invariant_of-self
invariant_of-self c =
    let same = ap (λ (x : Tables). x.noted) c.self.view_is in
    let rooms = ap (λ (x : Tables). x.room) c.self.view_is in
    let next : c.args.event.now.number ≡ c.self.inside.noted + 1 = omega (arith, c.requires.number, same) in
    record {
      within = omega (arith, c.requires.room, c.requires.number, same, rooms);
      stores_left = room_next c.self.inside.room c.self.inside.noted c.self.inside.stores c.note_at.new.latest _ _ c.args.event.now.number next c.note_at.ensures c.self.invariant.stores_left;
      seq_cst_stores_left = room_next c.self.inside.room c.self.inside.noted c.self.inside.seq_cst_stores c.note_at-2.new.latest _ _ c.args.event.now.number next c.note_at-2.ensures c.self.invariant.seq_cst_stores_left;
      fences_left = room_next c.self.inside.room c.self.inside.noted c.self.inside.fences c.note_at-3.new.latest _ _ c.args.event.now.number next c.note_at-3.ensures c.self.invariant.fences_left;
    }

module _ (c : goal.After-self-3-1) where
  last_stores_new : (with_items c.self.inside.last_stores c.set_at.new.lasts).items ≡ set_at c.seq_cst_cell-seq_cst.result c.args.event.now.number c.self.inside.last_stores.items
  last_stores_new =
      let is = c.set_at.ensures ∙ ap (λ (l : List (Option ℕ)). set_at c.seq_cst_cell-seq_cst.result c.args.event.now.number l) c.deref_mut.ensures.value in
      with_items_is c.self.inside.last_stores c.set_at.new.lasts (ap (λ (l : List (Option ℕ)). length l) is ∙ (length_set_at c.seq_cst_cell-seq_cst.result c.args.event.now.number c.self.inside.last_stores.items
      ∙ sym c.self.inside.last_stores.ok.0)) ∙ is

  last_fences_new : (with_items c.self.inside.last_fences c.set_at-2.new.lasts).items ≡ set_at c.some_if-2.result c.args.event.now.number c.self.inside.last_fences.items
  last_fences_new =
      let is = c.set_at-2.ensures ∙ ap (λ (l : List (Option ℕ)). set_at c.some_if-2.result c.args.event.now.number l) c.deref_mut-2.ensures.value in
      with_items_is c.self.inside.last_fences c.set_at-2.new.lasts (ap (λ (l : List (Option ℕ)). length l) is ∙ (length_set_at c.some_if-2.result c.args.event.now.number c.self.inside.last_fences.items
      ∙ sym c.self.inside.last_fences.ok.0)) ∙ is

  module _ (events : List Event) (e : Event) (stands : StandsFor (the_view c.self.inside) events) (alike : AreAlike e c.args.event.now) where
    next : c.args.event.now.number ≡ suc (length events)
    next = omega (arith, c.requires.number, ap (λ (t : Tables). t.noted) c.self.view_is, stands.count)

    fence_is : by_fence e ≡ c.some_if.result
    fence_is = same_fence e c.args.event.now alike ∙ sym (c.some_if.ensures ∙ ap (λ (b : Bool). some_if b 0) c.is_seq_cst_fence-fence.ensures)

    thread_is : by_thread e ≡ c.some_if-2.result
    thread_is = same_thread e c.args.event.now alike ∙ sym (c.some_if-2.ensures ∙ ap (λ (b : Bool). some_if b c.args.event.now.thread) c.is_seq_cst_fence-fence.ensures)

    cell_is : by_seq_cst_store e ≡ c.seq_cst_cell-seq_cst.result
    cell_is = same_seq_cst_cell e c.args.event.now alike ∙ sym c.seq_cst_cell-seq_cst.ensures

pub returns-clause-stands : goal.returns-clause-stands
returns-clause-stands c events e old alike =
    let stands = subst (λ (t : Tables). StandsFor t events) (sym c.self.view_is) old in
    let number = next c events e stands alike in
    record {
      count = length-append events (e ∷ []) ∙ omega (arith, number);
      stores = noted_as by_store events e c.self.inside.stores c.note_at.new.latest c.stored_cell.result c.args.event.now.thread c.args.event.now.number
          (alike.stored ∙ sym c.stored_cell.ensures) alike.thread number c.note_at.ensures stands.stores;
      seq_cst_stores = noted_as by_seq_cst_store events e c.self.inside.seq_cst_stores c.note_at-2.new.latest c.seq_cst_cell-seq_cst.result c.args.event.now.thread c.args.event.now.number
          (cell_is c events e stands alike) alike.thread number c.note_at-2.ensures stands.seq_cst_stores;
      fences = noted_as by_fence events e c.self.inside.fences c.note_at-3.new.latest c.some_if.result c.args.event.now.thread c.args.event.now.number
          (fence_is c events e stands alike) alike.thread number c.note_at-3.ensures stands.fences;
      last_stores = last_as by_seq_cst_store events e c.self.inside.last_stores.items _ c.seq_cst_cell-seq_cst.result c.args.event.now.number (cell_is c events e stands alike) number (last_stores_new c) stands.last_stores;
      last_fences = last_as by_thread events e c.self.inside.last_fences.items _ c.some_if-2.result c.args.event.now.number (thread_is c events e stands alike) number (last_fences_new c) stands.last_fences;
    }
