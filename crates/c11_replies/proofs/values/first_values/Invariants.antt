use Rattle.std.proofs.Common.{◌≡◌, map, take}
use Rattle.c11_events.specs.declared.cells.CellInfo.{CellInfo}
use Rattle.c11_replies.proofs.values.first_values.Given as goal

abbrev pub invariant-loop-plain : goal.invariant-loop-plain
invariant-loop-plain l = l.values.items ≡ map (λ (info : CellInfo). info.initial) (take l.plain-index l.plains)
