use Rattle.std.proofs.Common.{◌≡◌, ◌≤◌, ◌<◌, ◌∙◌, ℕ, List, Bool, true, false, length, slice_index, refl, subst, sym, ap, arith}
use Rattle.std.specs.Vec.{with_items}
use Rattle.std.proofs.lemmas.List.{with_items_is}
use Rattle.c11_mograph.specs.declared.kept.Kept.{Kept}
use Rattle.c11_mograph.specs.Graph.{words_of}
use Rattle.c11_mograph.specs.Heads.{AreLinked}
use Rattle.c11_mograph.specs.Parts.{Pushes}
use Rattle.c11_mograph.specs.Spread.{with_number}
use Rattle.c11_mograph.specs.Words.{Words}
use Rattle.c11_mograph.proofs.Pushed.{pushed_safe, pushed_full}
use Rattle.c11_mograph.proofs.Sound.{with_set}
use Rattle.c11_mograph.proofs.graph.Graph.push.Goals as goal

module _ (c : goal.After-self-4-1) where
  ready : (words_of c.self.inside).ready ≡ true
  ready = subst (λ (w : Words). w.ready ≡ true) (sym c.self.view_is) c.requires.ready

  cell : c.args.kept.cell < length c.self.inside.lists.items
  cell = subst (λ (w : Words). c.args.kept.cell < length w.lists) (sym c.self.view_is) c.requires.cell

  -- the store with its link
  abbrev store : Kept
  store = record c.args.kept { older = slice_index c.deref_mut.result.now c.args.kept.cell }

  count : length c.push_kept.new.newest ≡ length c.self.inside.newest.items
  count = c.push_kept.auto.newest ∙ ap (λ (t : List ℕ). length t) c.deref_mut.ensures.value

  newest_are : (with_items c.self.inside.newest c.push_kept.new.newest).items ≡ c.push_kept.new.newest
  newest_are = with_items_is c.self.inside.newest c.push_kept.new.newest (count ∙ sym c.self.inside.newest.ok.0)

  abbrev lasts : List (List ℕ)
  lasts = (with_items c.self.inside.lasts c.raise.new.clocks).items

  lasts_are : lasts ≡ with_number c.self.inside.lasts.items c.args.kept.cell c.args.kept.thread c.args.number
  lasts_are = with_set c.self.inside.lasts c.raise.new.clocks c.args.kept.cell _
      (c.raise.ensures ∙ ap (λ (t : List (List ℕ)). with_number t c.args.kept.cell c.args.kept.thread c.args.number) c.deref_mut-2.ensures.value)

pub invariant_of-self : goal.invariant_of-self
invariant_of-self c = record {
  safe = pushed_safe (words_of c.self.inside) c.self.invariant.safe (ready c) c.args.number (store c)
      (subst (λ (w : Words). length w.numbers < w.size) (sym c.self.view_is) c.requires.room) (subst (λ (w : Words). c.args.kept.head ≤ length w.numbers) (sym c.self.view_is) c.requires.head)
      (subst (λ (w : Words). c.args.kept.rank ≤ length w.numbers) (sym c.self.view_is) c.requires.rank) (subst (λ (w : Words). c.args.kept.thread < w.threads) (sym c.self.view_is) c.requires.thread)
      (cell c) _ _ c.put.ensures.items c.push_kept.ensures.items _ _ (lasts c) c.push_into.ensures.pushed.count c.put-2.ensures.items (lasts_are c);
  linked = subst (λ (t : List ℕ). AreLinked c.push_kept.new.kept.items t) (sym (newest_are c)) c.push_kept.ensures.linked;
  cells = ap (λ (t : List ℕ). length t) (newest_are c) ∙ (count c ∙ (c.self.invariant.cells ∙ sym c.push_into.ensures.pushed.count));
  full = pushed_full c.self.inside.lists.items c.push_into.new.lists.items c.args.number c.args.kept.cell (cell c) (c.self.invariant.safe.room (ready c)) c.push_into.ensures.pushed;
  numbers_fit = omega (arith, c.self.invariant.numbers_fit, c.put.ensures.capacity);
  kept_fit = omega (arith, c.self.invariant.kept_fit, c.push_kept.ensures.capacity);
  leads_fit = omega (arith, c.self.invariant.leads_fit, c.put-2.ensures.capacity);
}

pub returns : goal.returns
returns c = subst (λ (w : Words). Pushes w (record (words_of c.self.inside) { numbers = c.put.new.list.items; kept = c.push_kept.new.kept.items; lists = c.push_into.new.lists.items; lasts = lasts c; clocks = record { rows = c.self.inside.clocks.items; leads = c.put-2.new.list.items }; ready = false }) c.args.number c.args.kept)
    c.self.view_is (record {
      numbers = c.put.ensures.items;
      older = slice_index c.deref_mut.result.now c.args.kept.cell;
      all = c.push_kept.ensures.items;
      lists = c.push_into.ensures.pushed;
      lasts = lasts_are c;
      threads = refl;
      size = refl;
      clocks = ap (λ (t : List Bool). record { rows = c.self.inside.clocks.items; leads = t }) c.put-2.ensures.items;
    })
