use Rattle.std.proofs.Common.{◌≡◌, ◌++◌, length, drop}
use Rattle.c11_check.specs.Scopes.{file_scope}
use Rattle.c11_meaning.specs.Asks.{functions_from}
use Rattle.c11_flat.specs.Code.{instrs_from, starts_from}
use Rattle.c11_lower.proofs.whole.lower.Given as goal

abbrev pub invariant-loop-item : goal.invariant-loop-item
invariant-loop-item l = record {
  instrs : l.instrs.items ++ instrs_from (length l.instrs.items) (functions_from (drop l.item-index l.item-items) l.scopes) ≡ instrs_from 0 (functions_from l.item-items file_scope);
  starts : l.starts.items ++ starts_from (length l.instrs.items) (functions_from (drop l.item-index l.item-items) l.scopes) ≡ starts_from 0 (functions_from l.item-items file_scope);
}
