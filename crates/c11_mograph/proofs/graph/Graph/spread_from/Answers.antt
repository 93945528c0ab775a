use Rattle.std.proofs.Common.{◌≡◌, ◌<◌, ◌∙◌, List, ℕ, Bool, Some, true, false, length, get_or, slice_get, subst, sym, ap, arith}
use Rattle.std.specs.Vec.{with_items}
use Rattle.std.proofs.lemmas.List.{with_items_is}
use Rattle.std.proofs.lemmas.Option.{slice_get-get_or}
use Rattle.c11_mograph.specs.declared.graph.Graph.TheInside.{Inside}
use Rattle.c11_mograph.specs.declared.kept.Kept.{Kept}
use Rattle.c11_mograph.specs.Graph.{words_of}
use Rattle.c11_mograph.specs.Parts.{SpreadsFrom}
use Rattle.c11_mograph.specs.Spread.{row, AreWide, IsSpread}
use Rattle.c11_mograph.specs.Words.{Words, AreSafe}
use Rattle.c11_mograph.proofs.Sound.{not_spread_from, is_spread_from, rows_safe}
use Rattle.c11_mograph.proofs.graph.Graph.spread_from.Goals as goal

flags : (g : Inside) → AreSafe (words_of g) → (i : ℕ) → i < length g.numbers.items → i < length g.leads.items
flags g safe i less = omega (arith, safe.leads)

flag_is : (leads : List Bool) (i : ℕ) (read flag : Bool) → i < length leads → read ≡ get_or leads i read → read ≡ flag → slice_get leads i ≡ Some flag
flag_is leads i read flag within is same = slice_get-get_or leads i read within ∙ ap (λ (b : Bool). Some b) (sym is ∙ same)

module _ (c : goal.After-self-1) where
  abbrev rows : List (List ℕ)
  rows = (with_items c.self.inside.clocks c.spread.new.clocks).items

  count : length c.spread.new.clocks ≡ length c.self.inside.clocks.items
  count = c.spread.auto.clocks ∙ ap (λ (t : List (List ℕ)). length t) c.deref_mut.ensures.value

  rows_are : rows ≡ c.spread.new.clocks
  rows_are = with_items_is c.self.inside.clocks c.spread.new.clocks (count ∙ sym c.self.inside.clocks.ok.0)

  within : c.args.head < length c.self.inside.clocks.items
  within = omega (arith, subst (λ (w : Words). c.args.head < length w.numbers) (sym c.self.view_is) c.requires, c.self.invariant.safe.rows)

  spread : IsSpread c.self.inside.kept.items c.self.inside.clocks.items rows 0 c.args.head c.kept_at-kept.result.cell c.kept_at-kept.result.thread c.number_at-number.result
  spread =
      subst (λ (t : List (List ℕ)). IsSpread c.self.inside.kept.items c.self.inside.clocks.items t 0 c.args.head c.kept_at-kept.result.cell c.kept_at-kept.result.thread c.number_at-number.result) (sym rows_are)
      (subst (λ (t : List (List ℕ)). IsSpread c.self.inside.kept.items t c.spread.new.clocks 0 c.args.head c.kept_at-kept.result.cell c.kept_at-kept.result.thread c.number_at-number.result) c.deref_mut.ensures.value
      (subst (λ (t : List Kept). IsSpread t c.deref_mut.result.now c.spread.new.clocks 0 c.args.head c.kept_at-kept.result.cell c.kept_at-kept.result.thread c.number_at-number.result) c.as_slice.ensures.value c.spread.ensures.spread))

  wide : AreWide c.self.inside.threads rows
  wide = subst (λ (t : List (List ℕ)). AreWide c.self.inside.threads t) (sym rows_are)
      (subst (λ (n : ℕ). AreWide n c.spread.new.clocks) (ap (λ (t : List (List ℕ)). length (row t c.args.head)) c.deref_mut.ensures.value ∙ c.self.invariant.safe.wide c.args.head within) c.spread.ensures.wide)

pub returns-then-not-index : goal.returns-then-not-index
returns-then-not-index c = subst (λ (w : Words). SpreadsFrom w w c.args.head) c.self.view_is
    (not_spread_from (words_of c.self.inside) c.args.head c.self.invariant.safe (subst (λ (w : Words). c.args.head < length w.numbers) (sym c.self.view_is) c.requires) (flag_is c.self.inside.leads.items c.args.head c.index.result.now false (flags c.self.inside c.self.invariant.safe c.args.head (subst (λ (w : Words). c.args.head < length w.numbers) (sym c.self.view_is) c.requires)) c.index.ensures c.if-not-index.true))

pub invariant_of-self : goal.invariant_of-self
invariant_of-self c = record {
  safe = rows_safe (words_of c.self.inside) (rows c) c.self.invariant.safe (ap (λ (t : List (List ℕ)). length t) (rows_are c) ∙ count c) (wide c);
  linked = c.self.invariant.linked;
  cells = c.self.invariant.cells;
  full = c.self.invariant.full;
  numbers_fit = c.self.invariant.numbers_fit;
  kept_fit = c.self.invariant.kept_fit;
  leads_fit = c.self.invariant.leads_fit;
}

pub returns : goal.returns
returns c = subst (λ (w : Words). SpreadsFrom w (record (words_of c.self.inside) { clocks = record { rows = rows c; leads = c.self.inside.leads.items } }) c.args.head) c.self.view_is
    (is_spread_from (words_of c.self.inside) c.args.head c.number_at-number.result c.kept_at-kept.result (rows c) c.self.invariant.safe
    (subst (λ (w : Words). slice_get w.numbers c.args.head ≡ Some c.number_at-number.result) (sym c.self.view_is) c.number_at-number.ensures)
    (subst (λ (w : Words). slice_get w.kept c.args.head ≡ Some c.kept_at-kept.result) (sym c.self.view_is) c.kept_at-kept.ensures.kept)
    (flag_is c.self.inside.leads.items c.args.head c.index.result.now true (flags c.self.inside c.self.invariant.safe c.args.head (subst (λ (w : Words). c.args.head < length w.numbers) (sym c.self.view_is) c.requires)) c.index.ensures c.if-not-index.false) (spread c))
