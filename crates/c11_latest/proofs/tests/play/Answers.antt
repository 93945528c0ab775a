use Rattle.std.proofs.Common.{◌<◌, ◌+◌, ℕ, sym, subst, ap, length, arith, ◌∙◌, [], ◌∷◌}
use Rattle.std.proofs.lemmas.List.{length-append}
use Rattle.c11_latest.specs.Notes.{Notes, IsNoted, note}
use Rattle.c11_latest.proofs.Bounds.{below_next}
use Rattle.c11_latest.proofs.tests.play.Goals as goal

pub note-requires-clause-rises : goal.note-requires-clause-rises
note-requires-clause-rises g c = c.loop-number.invariant.below _ _

pub loop-number-preserved : goal.loop-number-preserved
loop-number-preserved g c = record {
  room = ap (λ (n : Notes). n.room) c.note.ensures ∙ c.loop-number.invariant.room;
  count =
      let is = ap (λ (n : Notes). length n.notes) c.note.ensures in
      omega (arith, is, c.loop-number.invariant.count, length-append c.loop-number.latest.notes (note c.drawn_pair-pair.result.0 c.drawn_pair-pair.result.1 c.loop-number.number ∷ []));
  below = subst (λ (n : Notes). (cell thread y : ℕ) → IsNoted n.notes cell thread y → y < c.loop-number.number + 1) (sym c.note.ensures)
      (below_next c.loop-number.latest.notes c.drawn_pair-pair.result.0 c.drawn_pair-pair.result.1 c.loop-number.number c.loop-number.invariant.below);
}
