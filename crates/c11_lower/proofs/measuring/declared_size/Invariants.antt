use Rattle.std.proofs.Common.{◌≡◌, ◌+◌, drop}
use Rattle.c11_flat.specs.Code.{locals_strip}
use Rattle.c11_lower.specs.Lowered.{passed_locals}
use Rattle.c11_lower.proofs.measuring.declared_size.Given as goal

abbrev pub invariant-loop-local : goal.invariant-loop-local
invariant-loop-local l = record {
  size : l.size + (locals_strip l.ctype (drop l.local-index l.locals) l.scopes).size ≡ (locals_strip l.ctype l.locals l.fn.scopes).size;
  passed : passed_locals l.ctype (drop l.local-index l.locals) l.scopes ≡ passed_locals l.ctype l.locals l.fn.scopes;
}
