use Rattle.std.proofs.Common.{List, drop, map}
use Rattle.c11_flat.specs.declared.instr.Instr.{Instr}
use Rattle.c11_flat.specs.Pieces.{chained, values_given}
use Rattle.c11_pieces.specs.Growth.{Grows}
use Rattle.c11_pieces.specs.Trees.{given_of, linked_of, links_of}
use Rattle.c11_pieces.proofs.emission.+emission.Given as goal

abbrev pub invariant-emit_links-loop-link : goal.invariant-emit_links-loop-link
invariant-emit_links-loop-link l = (new : List Instr) → Grows l.code.items new (chained (map linked_of (drop l.link-index l.link-items)) l.scopes)
    → Grows l.fn.code.items new (chained (map linked_of (links_of l.chain)) l.scopes)

abbrev pub invariant-emit_values-loop-place : goal.invariant-emit_values-loop-place
invariant-emit_values-loop-place l = (new : List Instr) → Grows l.code.items new (values_given (map given_of (drop l.place l.args)) l.scopes)
    → Grows l.fn.code.items new (values_given (map given_of (drop l.from l.args)) l.scopes)
