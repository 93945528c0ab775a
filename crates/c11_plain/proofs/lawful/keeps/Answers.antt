use Rattle.c11_plain.proofs.Keeping.{writes_as, no_older_as, after_as, reads_as, rule_as}
use Rattle.c11_plain.proofs.lawful.keeps.Goals as goal

pub returns-in-WriteWriteCoherence : goal.returns-in-WriteWriteCoherence
returns-in-WriteWriteCoherence c = rule_as c.args.events.now c.args.cell c.args.order.now c.writes_in_order.result c.in-WriteWriteCoherence.is (writes_as c.args.events.now c.args.cell c.args.order.now c.writes_in_order.result c.requires.before c.writes_in_order.ensures)

pub returns-in-WriteReadCoherence : goal.returns-in-WriteReadCoherence
returns-in-WriteReadCoherence c = rule_as c.args.events.now c.args.cell c.args.order.now c.all_read_no_older.result c.in-WriteReadCoherence.is (no_older_as c.args.events.now c.args.cell c.args.order.now c.all_read_no_older.result c.requires.before c.all_read_no_older.ensures)

pub returns-in-ReadWriteCoherence : goal.returns-in-ReadWriteCoherence
returns-in-ReadWriteCoherence c = rule_as c.args.events.now c.args.cell c.args.order.now c.writes_after_reads.result c.in-ReadWriteCoherence.is (after_as c.args.events.now c.args.cell c.args.order.now c.writes_after_reads.result c.requires.before c.writes_after_reads.ensures)

pub returns-in-ReadReadCoherence : goal.returns-in-ReadReadCoherence
returns-in-ReadReadCoherence c = rule_as c.args.events.now c.args.cell c.args.order.now c.reads_in_order.result c.in-ReadReadCoherence.is (reads_as c.args.events.now c.args.cell c.args.order.now c.reads_in_order.result c.requires.before c.reads_in_order.ensures)

pub returns-in-SeqCstWriteOrder : goal.returns-in-SeqCstWriteOrder
returns-in-SeqCstWriteOrder c = rule_as c.args.events.now c.args.cell c.args.order.now c.writes_in_order-in-SeqCstWriteOrder.result c.in-SeqCstWriteOrder.is (writes_as c.args.events.now c.args.cell c.args.order.now c.writes_in_order-in-SeqCstWriteOrder.result c.requires.seq_cst c.writes_in_order-in-SeqCstWriteOrder.ensures)

pub returns-in-FenceBeforeRead : goal.returns-in-FenceBeforeRead
returns-in-FenceBeforeRead c = rule_as c.args.events.now c.args.cell c.args.order.now c.all_read_no_older-in-FenceBeforeRead.result c.in-FenceBeforeRead.is (no_older_as c.args.events.now c.args.cell c.args.order.now c.all_read_no_older-in-FenceBeforeRead.result c.requires.fence_before c.all_read_no_older-in-FenceBeforeRead.ensures)

pub returns-in-FenceAfterWrite : goal.returns-in-FenceAfterWrite
returns-in-FenceAfterWrite c = rule_as c.args.events.now c.args.cell c.args.order.now c.all_read_no_older-in-FenceAfterWrite.result c.in-FenceAfterWrite.is (no_older_as c.args.events.now c.args.cell c.args.order.now c.all_read_no_older-in-FenceAfterWrite.result c.requires.fence_after c.all_read_no_older-in-FenceAfterWrite.ensures)

pub returns-in-FencesBetween : goal.returns-in-FencesBetween
returns-in-FencesBetween c = rule_as c.args.events.now c.args.cell c.args.order.now c.all_read_no_older-in-FencesBetween.result c.in-FencesBetween.is (no_older_as c.args.events.now c.args.cell c.args.order.now c.all_read_no_older-in-FencesBetween.result c.requires.fence_between c.all_read_no_older-in-FencesBetween.ensures)

pub returns-in-FencesBetweenWrites : goal.returns-in-FencesBetweenWrites
returns-in-FencesBetweenWrites c = rule_as c.args.events.now c.args.cell c.args.order.now c.writes_in_order-in-FencesBetweenWrites.result c.in-FencesBetweenWrites.is (writes_as c.args.events.now c.args.cell c.args.order.now c.writes_in_order-in-FencesBetweenWrites.result c.requires.fenced c.writes_in_order-in-FencesBetweenWrites.ensures)

pub returns-in-SeqCstRead : goal.returns-in-SeqCstRead
returns-in-SeqCstRead c = rule_as c.args.events.now c.args.cell c.args.order.now c.seq_cst_reads.result c.in-SeqCstRead.is c.seq_cst_reads.ensures
