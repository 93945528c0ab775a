use Rattle.std.proofs.Common.{◌≡◌, sym, ap, ◌∙◌, Some, subst}
use Rattle.c11_check.specs.Tables.{Tables, main_from, IsWithin}
use Rattle.c11_check.proofs.Limits.{within_limits, some_main}
use Rattle.c11_check.proofs.whole.with_tables.Goals as goal

pub new-requires-clause-within : goal.new-requires-clause-within
new-requires-clause-within c =
    let program = c.args.program in
    let main : main_from 0 program.items ≡ Some c.in-Some.main = ap (main_from 0) (sym c.items.ensures) ∙ (sym c.main_of.ensures ∙ c.in-Some.is) in
    subst (λ (t : Tables). IsWithin t c.in-Some.main) (sym c.in-Ok.ensures) (within_limits program c.in-Some.main c.requires.few main)

pub unreachable-requires : goal.unreachable-requires
unreachable-requires c =
    let program = c.args.program in
    some_main program c.requires.faultless (ap (main_from 0) (sym c.items.ensures) ∙ (sym c.main_of.ensures ∙ c.in-None.is))
