use Rattle.std.proofs.Common.{◌≡◌, rules, ◌++◌, ◌∷◌, [], Some}
use Rattle.c11_check.specs.Tables.{cell, initial}
use Rattle.c11_check.proofs.Cells.{cell_more}
use Rattle.c11_check.proofs.tables.add_elements.Goals as goal

pub loop-place-preserved : goal.loop-place-preserved
loop-place-preserved c =
    let s = c.args.scopes.now in
    let pushed : c.push.new.self.items ≡ c.loop-place.cells.items ++ cell c.args.name.now (Some c.loop-place.place) (initial s c.args.ctype c.args.start.now c.loop-place.place) ∷ [] = search rules in
    cell_more s c.args.name.now c.args.ctype c.args.start.now c.loop-place.place c.args.count c.loop-place.cells.items c.push.new.self.items _ c.loop-place-test.true pushed c.loop-place.invariant
