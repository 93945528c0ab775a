use Rattle.std.proofs.Common.{◌≡◌, [], ◌+◌, ◌-◌, ◌*◌, length}
use Rattle.c11_grammar.specs.Reading.{readers, assign_of, decl_reader, stmt_reader, block_items, arms}
use Rattle.c11_statements.proofs.stmt.+stmt.Given as goal

abbrev pub decreases-inner : goal.decreases-inner
decreases-inner l = l.room * 16

abbrev pub decreases-block_item : goal.decreases-block_item
decreases-block_item l = l.deeper * 16 + 1

abbrev pub decreases-block_items : goal.decreases-block_items
decreases-block_items l = l.deeper * 16 + 2

abbrev pub decreases-block_after : goal.decreases-block_after
decreases-block_after l = l.deeper * 16 + 3

abbrev pub decreases-arm : goal.decreases-arm
decreases-arm l = l.deeper * 16 + 1

abbrev pub decreases-arms : goal.decreases-arms
decreases-arms l = l.deeper * 16 + 2

abbrev pub decreases-if_after : goal.decreases-if_after
decreases-if_after l = l.deeper * 16 + 3

abbrev pub decreases-while_after : goal.decreases-while_after
decreases-while_after l = l.deeper * 16 + 1

abbrev pub decreases-do_after : goal.decreases-do_after
decreases-do_after l = l.deeper * 16 + 1

abbrev pub decreases-for_after : goal.decreases-for_after
decreases-for_after l = l.deeper * 16 + 1

abbrev pub decreases-loops : goal.decreases-loops
decreases-loops l = l.deeper * 16 + 2

abbrev pub decreases-stmt : goal.decreases-stmt
decreases-stmt l = l.deeper * 16 + 4

abbrev pub invariant-block_items-loop-turn : goal.invariant-block_items-loop-turn
invariant-block_items-loop-turn l = block_items (decl_reader l.deeper) (stmt_reader l.deeper) (length l.tokens) [] l.tokens
    ≡ block_items (decl_reader l.deeper) (stmt_reader l.deeper) (l._turn-end - l._turn) l.found l.rest

abbrev pub invariant-arms-loop-turn : goal.invariant-arms-loop-turn
invariant-arms-loop-turn l = arms (assign_of (readers l.deeper)) (decl_reader l.deeper) (stmt_reader l.deeper) (length l.tokens + 1) l.fn.found l.tokens
    ≡ arms (assign_of (readers l.deeper)) (decl_reader l.deeper) (stmt_reader l.deeper) (l._turn-end - l._turn) l.found l.rest
