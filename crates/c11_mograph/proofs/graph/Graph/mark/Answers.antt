use Rattle.std.proofs.Common.{◌≡◌, Some, false, slice_get, slice_set, subst, sym, ap, ◌∙◌, arith}
use Rattle.std.proofs.lemmas.Option.{slice_get-get_or, slice_get_within}
use Rattle.c11_mograph.specs.declared.kept.Kept.{Kept}
use Rattle.c11_mograph.specs.Graph.{words_of}
use Rattle.c11_mograph.specs.Words.{Words}
use Rattle.c11_mograph.specs.Parts.{Marks}
use Rattle.c11_mograph.proofs.Newest.{still_linked}
use Rattle.c11_mograph.proofs.Sound.{marked_safe, marks_at}
use Rattle.c11_mograph.proofs.graph.Graph.mark.Goals as goal

module _ (c : goal.After-self-1) where
  number_at : slice_get c.self.inside.numbers.items c.in-Some.place ≡ Some c.args.y
  number_at = subst (λ (w : Words). slice_get w.numbers c.in-Some.place ≡ Some c.args.y) (sym c.self.view_is) c.in-Some.ensures.some

  kept_at : slice_get c.self.inside.kept.items c.in-Some.place ≡ Some c.index_mut.result.now
  kept_at = slice_get-get_or c.self.inside.kept.items c.in-Some.place c.index_mut.result.now (omega (arith, slice_get_within c.self.inside.numbers.items c.in-Some.place c.args.y number_at, c.self.invariant.safe.each)) ∙ ap (λ (k : Kept). Some k) (sym c.index_mut.ensures.value)

pub invariant_of-self : goal.invariant_of-self
invariant_of-self c = record {
  safe = marked_safe (words_of c.self.inside) c.in-Some.place c.args.y c.index_mut.result.now (kept_at c) c.self.invariant.safe;
  linked = still_linked _ _ _ _ _ (kept_at c) c.self.invariant.linked;
  cells = c.self.invariant.cells;
  full = c.self.invariant.full;
  numbers_fit = c.self.invariant.numbers_fit;
  kept_fit = c.self.invariant.kept_fit;
  leads_fit = c.self.invariant.leads_fit;
}

pub returns-in-Some : goal.returns-in-Some
returns-in-Some c = subst (λ (w : Words). Marks w (record (words_of c.self.inside) { kept = slice_set c.self.inside.kept.items c.in-Some.place (record c.index_mut.result.now { ends = false }) }) c.args.y) c.self.view_is
    (marks_at (words_of c.self.inside) c.in-Some.place c.args.y c.index_mut.result.now (kept_at c) (number_at c))
