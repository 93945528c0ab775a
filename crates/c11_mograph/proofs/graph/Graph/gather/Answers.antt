use Rattle.std.proofs.Common.{◌≡◌, ◌∙◌, ℕ, List, true, false, sym, ap, subst, refl}
use Rattle.std.proofs.lemmas.List.{take_all}
use Rattle.c11_mograph.specs.Made.{with_pairs}
use Rattle.c11_mograph.specs.Parts.{Gathers}
use Rattle.c11_mograph.specs.Words.{Words}
use Rattle.c11_mograph.proofs.Linked.{nothing_gathered, gather_step}
use Rattle.c11_mograph.proofs.graph.Graph.gather.Goals as goal
use Rattle.c11_mograph.proofs.graph.Graph.gather.Goals.{then-take_in, else-take_in}

pub loop-p-init : goal.loop-p-init
loop-p-init c = record { gathers = λ made x h tracks head one_cell ordered. nothing_gathered _ made tracks x _ h head c.args.prior.now; same = refl }

pub loop-p-preserved : goal.loop-p-preserved
loop-p-preserved c = record {
  gathers = λ made x h tracks head one_cell ordered. gather_step _ made tracks x _ h head _ _ _ _ c.loop-p.raised c.take_in.result c.if-take_in.raised c.loop-p-test.true one_cell ordered
      (c.loop-p.invariant.gathers made x h tracks head one_cell ordered) c.take_in.ensures
      (λ (none : c.if-take_in.raised ≡ false). elim c.if-take_in.branch [
        | then-take_in w ↦ absurd (let clash : true ≡ false = sym w.raised-is ∙ none in cc)
        | else-take_in w ↦ (sym w.raised-is ∙ none, w.if-take_in.false)
      ]);
  same = c.take_in.ensures.rest ∙ ap (λ (w : Words). record w { clocks = c.take_in.new.self.clocks }) c.loop-p.invariant.same;
}

pub returns-clause-gathers : goal.returns-clause-gathers
returns-clause-gathers c = λ made x h tracks head one_cell ordered.
    subst (λ (ps : List ℕ). Gathers c.args.self.now c.loop-p.self made (with_pairs made ps x) c.args.to h c.loop-p.raised) (take_all c.loop-p.p-index c.args.prior.now c.loop-p-test.false)
    (c.loop-p.invariant.gathers made x h tracks head one_cell ordered)
