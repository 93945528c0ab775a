use Rattle.std.proofs.Common.{Option, ap, sym, ◌∙◌}
use Rattle.std.proofs.lemmas.List.{map-set}
use Rattle.c11_machine.specs.Answers.{wrote}
use Rattle.c11_machine.specs.Views.{numbers_of}
use Rattle.c11_machine.specs.declared.effect.Written.{Written}
use Rattle.c11_num.specs.Ranges.{TypedNumber}
use Rattle.c11_machine.proofs.moves.write_place.Goals as goal

pub returns-then-place-len : goal.returns-then-place-len
returns-then-place-len c = map-set (λ (v : TypedNumber). v.number) c.args.locals.now.items c.in-Some.written.place c.in-Some.written.value
    ∙ ap (λ (w : Option Written). wrote w (numbers_of c.args.locals.now.items)) (sym c.in-Some.is)
