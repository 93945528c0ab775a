use Rattle.std.proofs.Common.{None, Option, [], ap, arith, refl, ◌∙◌, ◌∷◌, ◌≡◌}
use Rattle.std.proofs.lemmas.Int.{ints, to_z-of_z}
use Rattle.c11_flat.specs.Code.{Start}
use Rattle.c11_flat.specs.Flat.{first}
use Rattle.c11_machine.proofs.Takes.{begun_is, starts_so, typed_is}
use Rattle.c11_machine.specs.Steps.{places_for}
use Rattle.c11_num.specs.Ranges.{TypedNumber}
use Rattle.c11_num.specs.declared.value.CType.TheVariants as ctype
use Rattle.c11_machine.proofs.machine.Machine.begin_at.Goals as goal

pub returns-in_default : goal.returns-in_default
returns-in_default c = starts_so c.args.code.now c.args.self.now.pending c.args.function c.args.argument c.requires ∙ ap (λ (s : Option Start). first s c.args.argument (record { locals = []; replies = []; turns = 100000 })) c.in_default.ensures

pub returns : goal.returns
returns c =
    let view = c.start.view_is in
    let number : c.new.result.number ≡ c.args.argument = grind (arith, ints, to_z-of_z) in
    let value = typed_is c.new.result ctype.Long c.args.argument c.new.ensures.ctype number in
    starts_so c.args.code.now c.args.self.now.pending c.args.function c.args.argument c.requires
    ∙ (ap (λ (s : Option Start). first s c.args.argument (record { locals = []; replies = []; turns = 100000 })) c.in-Some.ensures
    ∙ begun_is c.in-Some.start.now c.args.argument (record { place = c.start.inside.place; stack = c.clear.new.self; callers = c.clear-2.new.self; answers = c.start.inside.answers; locals = c.in_ok-self.field-0; turns = 100000; pending = None })
    (ap (λ (s : Start). s.place) view) c.clear.ensures.items c.clear-2.ensures.items (ap (λ (s : Start). s.answers) view)
    (c.in_ok-self.ensures ∙ ap (λ (v : TypedNumber). places_for c.in-Some.start.now.params c.in-Some.start.now.places (v ∷ [])) value) refl refl)
