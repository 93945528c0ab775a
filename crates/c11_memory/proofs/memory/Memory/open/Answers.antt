use Rattle.std.proofs.Common.{List, Option, None, sym, subst}
use Rattle.c11_history.specs.Past.{Past}
use Rattle.c11_memory.specs.declared.marks.Mark.{Mark}
use Rattle.c11_memory.specs.Sound.{execution, IsSound}
use Rattle.c11_memory.proofs.Opening.{sound_opened}
use Rattle.c11_memory.proofs.memory.Memory.open.Goals as goal

pub invariant_of-result : goal.invariant_of-result
invariant_of-result c =
    let sound = sound_opened c.args.checked.now c.args.seed c.args.steps c.new.result c.requires.some_step c.requires.few_steps in
    subst (λ (p : Past × List (Option Mark)). IsSound (execution p.0 c.args.seed c.args.steps c.new.result None p.1) p.0 0 p.1) (λ i. (sym c.in_ok-open.ensures i, sym c.in_ok-from_slice.ensures.items i)) sound
