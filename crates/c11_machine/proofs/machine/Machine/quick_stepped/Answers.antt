use Rattle.std.proofs.Common.{◌∙◌}
use Rattle.c11_machine.specs.Views.{config_of}
use Rattle.c11_machine.proofs.InPlace.{did_same, writes_to}
use Rattle.c11_machine.proofs.machine.Machine.quick_stepped.Goals as goal

pub returns : goal.returns
returns c line code = did_same _ _ _ _ _ (c.in-Some.ensures.value _ ∙ (c.in-Some-value_at.ensures.value _ ∙ (c.in-Some-found.ensures _
    ∙ writes_to line c.in-Some-found.found.below c.in-Some-found.found.place _ c.args.ctype c.in-Some.value _ _ c.args.before c.in-Some-value_at.old (config_of c.args.self.now) c.in-Local.is c.convert.ensures c.kept_of-kept.ensures))) c.quick_puts.ensures
