use Rattle.std.proofs.Common.{◌≡◌, ◌++◌, take}
use Rattle.std.specs.Prelude.{flat_map}
use Rattle.c11_report.specs.Summaries.{output_bytes}
use Rattle.c11_report.proofs.summary.push_pairs.Given as goal

abbrev pub invariant-loop-pair : goal.invariant-loop-pair
invariant-loop-pair l = l.text ≡ l.fn.text ++ flat_map output_bytes (take l.pair-index l.pairs)
