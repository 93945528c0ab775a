use Rattle.std.proofs.Common.{◌≡◌, ◌<◌, ◌↔◌, ◌∙◌, List, ℕ, IsTrue, true, length, slice_set, refl, subst, sym, ap, arith}
use Rattle.std.specs.Vec.{with_items, with_item}
use Rattle.std.proofs.lemmas.List.{length-set}
use Rattle.c11_clock.specs.Clocks.{joined, HasBelow}
use Rattle.c11_clock.proofs.Joined.{length-joined}
use Rattle.c11_mograph.specs.Graph.{words_of}
use Rattle.c11_mograph.specs.Parts.{JoinsChains}
use Rattle.c11_mograph.specs.Spread.{row}
use Rattle.c11_mograph.specs.Words.{Words}
use Rattle.c11_mograph.proofs.Sound.{with_set, clock_safe}
use Rattle.c11_mograph.proofs.graph.Graph.take_over.Goals as goal

module _ (c : goal.After-self-2-1) where
  abbrev rows : List (List ℕ)
  rows = c.self.inside.clocks.items

  abbrev both : List ℕ
  both = joined (row rows c.args.to) (row rows c.args.from)

  rows_are : (with_items c.self.inside.clocks c.grow.new.clocks).items ≡ slice_set rows c.args.to both
  rows_are = with_set c.self.inside.clocks c.grow.new.clocks c.args.to both
      (c.grow.ensures.grown ∙ ap (λ (t : List (List ℕ)). slice_set t c.args.to (joined (row t c.args.to) (row t c.args.from))) c.deref_mut.ensures.value)

  leads_are : (with_item c.self.inside.leads c.args.from true).items ≡ slice_set c.self.inside.leads.items c.args.from true
  leads_are = refl

  to_within : c.args.to < length rows
  to_within = omega (arith, subst (λ (w : Words). c.args.to < length w.numbers) (sym c.self.view_is) c.requires.to, c.self.invariant.safe.rows)

  from_within : c.args.from < length rows
  from_within = omega (arith, subst (λ (w : Words). c.args.from < length w.numbers) (sym c.self.view_is) c.requires.from, c.self.invariant.safe.rows)

  same_size : length (row rows c.args.from) ≡ length (row rows c.args.to)
  same_size = c.self.invariant.safe.wide c.args.from from_within ∙ sym (c.self.invariant.safe.wide c.args.to to_within)

pub invariant_of-self : goal.invariant_of-self
invariant_of-self c = record {
  safe = clock_safe (words_of c.self.inside) (with_items c.self.inside.clocks c.grow.new.clocks).items (with_item c.self.inside.leads c.args.from true).items c.args.to (both c) c.self.invariant.safe
      (λ lt. length-joined (row (rows c) c.args.to) (row (rows c) c.args.from) (same_size c) ∙ c.self.invariant.safe.wide c.args.to lt) (rows_are c) (length-set c.self.inside.leads.items c.args.from true);
  linked = c.self.invariant.linked;
  cells = c.self.invariant.cells;
  full = c.self.invariant.full;
  numbers_fit = c.self.invariant.numbers_fit;
  kept_fit = c.self.invariant.kept_fit;
  leads_fit = c.self.invariant.leads_fit;
}

pub returns : goal.returns
returns c = subst (λ (w : Words). JoinsChains w (record (words_of c.self.inside) { clocks = record { rows = (with_items c.self.inside.clocks c.grow.new.clocks).items; leads = (with_item c.self.inside.leads c.args.from true).items } }) c.args.from c.args.to c.grow.result)
    c.self.view_is (record {
      same = λ e. absurd (c.requires.differ (sym e));
      joins = λ _. ap (λ (t : List (List ℕ)). record (words_of c.self.inside) { clocks = record { rows = t; leads = slice_set c.self.inside.leads.items c.args.from true } }) (rows_are c);
      raises = λ _. subst (λ (t : List (List ℕ)). IsTrue c.grow.result ↔ HasBelow (row t c.args.to) (row t c.args.from)) c.deref_mut.ensures.value c.grow.ensures.raised;
      sized = λ _. record { each = c.self.invariant.safe.each; few = c.self.invariant.safe.rows; leads = c.self.invariant.safe.leads; wide = c.self.invariant.safe.wide; lasts = c.self.invariant.safe.lasts; wide_lasts = c.self.invariant.safe.wide_lasts };
    })
