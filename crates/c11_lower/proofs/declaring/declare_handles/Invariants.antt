use Rattle.std.proofs.Common.{◌≡◌, ℕ, ◌++◌, length, drop}
use Rattle.c11_flat.specs.Code.{handles_strip}
use Rattle.c11_lower.specs.Lowered.{passed_handles}
use Rattle.c11_lower.proofs.declaring.declare_handles.Given as goal

abbrev pub invariant-loop-handle : goal.invariant-loop-handle
invariant-loop-handle l = record {
  code : (breaks continues : ℕ) → l.code.items ++ (handles_strip (drop l.handle-index l.places) l.scopes).code (length l.code.items) breaks continues
      ≡ l.fn.code.items ++ (handles_strip l.places l.fn.scopes).code (length l.fn.code.items) breaks continues;
  passed : passed_handles (drop l.handle-index l.places) l.scopes ≡ passed_handles l.places l.fn.scopes;
}
