use Rattle.std.proofs.Common.{◌≡◌, ℕ, ◌++◌, length, drop}
use Rattle.c11_flat.specs.Code.{locals_strip}
use Rattle.c11_lower.specs.Lowered.{passed_locals}
use Rattle.c11_lower.proofs.declaring.declare_locals.Given as goal

abbrev pub invariant-loop-local : goal.invariant-loop-local
invariant-loop-local l = record {
  code : (breaks continues : ℕ) → l.code.items ++ (locals_strip l.ctype (drop l.local-index l.locals) l.scopes).code (length l.code.items) breaks continues
      ≡ l.fn.code.items ++ (locals_strip l.ctype l.locals l.fn.scopes).code (length l.fn.code.items) breaks continues;
  passed : passed_locals l.ctype (drop l.local-index l.locals) l.scopes ≡ passed_locals l.ctype l.locals l.fn.scopes;
}
