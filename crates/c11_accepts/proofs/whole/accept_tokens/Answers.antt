use Rattle.std.proofs.Common.{sym, subst}
use Rattle.c11_accepts.specs.declared.whole.AcceptStop.{AcceptStop}
use Rattle.c11_accepts.specs.Texts.{IsStop}
use Rattle.c11_accepts.proofs.Judging.{few, item_stops, check_stops}
use Rattle.c11_accepts.proofs.whole.accept_tokens.Goals as goal

pub check-requires : goal.check-requires
check-requires c = few c.args.text.now c.args.tokens.now c.in-Ok.program c.requires.short c.requires.slices c.in-Ok.ensures.tree

pub returns-in-Err-clause-refused : goal.returns-in-Err-clause-refused
returns-in-Err-clause-refused c =
    subst (λ (s : AcceptStop). IsStop c.args.text.now s) (sym c.by_check.ensures)
    (check_stops c.args.text.now c.args.tokens.now c.in-Ok.program c.in-Err.fault c.requires.short c.requires.scan c.in-Ok.ensures.tree c.in-Err.ensures.fault)

pub returns-in-Err-Item-clause-refused : goal.returns-in-Err-Item-clause-refused
returns-in-Err-Item-clause-refused c =
    subst (λ (s : AcceptStop). IsStop c.args.text.now s) (sym c.refused_at.ensures)
    (item_stops c.args.text.now c.args.tokens.now c.in-Err-Item.field-0 c.in-Err-Item.line c.in-Err-Item.column _ _ c.in-Err-Item.line-is c.in-Err-Item.column-is c.requires.short c.requires.scan c.in-Err-Item.ensures.fault c.in-Err-Item.field-0-is)
