use Rattle.std.proofs.Common.{rules, ◌≡◌, ◌++◌, length, ◌∙◌}
use Rattle.c11_check.specs.Programs.{item_walk}
use Rattle.c11_meaning.specs.Asks.{functions_of_item}
use Rattle.c11_flat.specs.Code.{instrs_from, starts_from}
use Rattle.c11_lower.proofs.Bodies.{item_instrs, item_starts}
use Rattle.c11_lower.proofs.whole.lower.Goals as goal

pub loop-item-preserved : goal.loop-item-preserved
loop-item-preserved c =
    let x = c.item-item.result in
    let s = c.loop-item.scopes in
    let code = c.loop-item.instrs.items in
    let xs = c.items-item-items.result.now in
    let is : c.emit_item.new.scopes ≡ (item_walk x s).scope = search rules in
    let w : c.emit_item.new.instrs.items ≡ code ++ instrs_from (length code) (functions_of_item x s) = search rules in
    let v : c.emit_item.new.starts.items ≡ c.loop-item.starts.items ++ starts_from (length code) (functions_of_item x s) = search rules in
    record {
      instrs = item_instrs xs c.loop-item.item-index x s code c.loop-item-test.true c.item-item.is is w ∙ c.loop-item.invariant.instrs;
      starts = item_starts xs c.loop-item.item-index x s code c.loop-item-test.true c.item-item.is is w c.loop-item.starts.items v ∙ c.loop-item.invariant.starts;
    }
