use Rattle.std.proofs.Common.{ap, ◌∙◌}
use Rattle.std.proofs.lemmas.List.{map-set}
use Rattle.c11_machine.specs.Views.{numbers_of}
use Rattle.c11_num.specs.Ranges.{TypedNumber}
use Rattle.std.specs.Prelude.{slice_set}
use Rattle.c11_machine.proofs.clear.clear_place.Goals as goal

pub returns-then-index-len : goal.returns-then-index-len
returns-then-index-len c = map-set (λ (v : TypedNumber). v.number) c.args.locals.now.items c.args.index c.nothing.result
    ∙ ap (λ (v : TypedNumber). slice_set (numbers_of c.args.locals.now.items) c.args.index v.number) c.nothing.ensures
