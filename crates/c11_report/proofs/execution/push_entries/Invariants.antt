use Rattle.std.proofs.Common.{◌≡◌, ◌++◌, take}
use Rattle.std.specs.Prelude.{flat_map}
use Rattle.c11_report.specs.Execution.{entry_bytes, names_in}
use Rattle.c11_report.proofs.execution.push_entries.Given as goal

abbrev pub invariant-loop-entry : goal.invariant-loop-entry
invariant-loop-entry l = l.text ≡ l.fn.text ++ flat_map (entry_bytes (names_in l.fn.objects)) (take l.entry-index l.entries)
