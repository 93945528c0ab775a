use Rattle.std.proofs.Common.{arith, ◌∙◌}
use Rattle.std.proofs.lemmas.Grind.{common_steps}
use Rattle.c11_io.proofs.Known.{appended_more}
use Rattle.c11_io.proofs.whole.write_all.Goals as goal

pub loop-written-preserved : goal.loop-written-preserved
loop-written-preserved g c = record {
  within = grind (arith, common_steps, c.in_ok-count.ensures.bound);
  appended = appended_more _ _ _ _ _ _ c.loop-written.invariant.appended c.in_ok-count.ensures.bytes;
  faults = c.in_ok-count.ensures.cause.kept ∙ c.loop-written.invariant.faults;
  empties = c.in_ok-count.ensures.empty_cause.kept (omega arith) ∙ c.loop-written.invariant.empties;
  untouched = λ none. absurd (omega arith);
}
