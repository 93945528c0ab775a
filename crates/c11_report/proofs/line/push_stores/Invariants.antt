use Rattle.std.proofs.Common.{◌≡◌, ◌++◌, ℕ, take}
use Rattle.std.specs.Prelude.{flat_map, codes}
use Rattle.std.specs.Fmt.{decimal}
use Rattle.c11_report.proofs.line.push_stores.Given as goal

abbrev pub invariant-loop-store : goal.invariant-loop-store
invariant-loop-store l = l.text ≡ l.fn.text ++ flat_map (λ (store : ℕ). codes " " ++ decimal store) (take l.store-index l.stores)
