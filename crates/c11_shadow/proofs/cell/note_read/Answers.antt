use Rattle.std.proofs.Common.{sym, is_ok, vec_capacity, vec_len}
use Rattle.c11_shadow.proofs.Scans.{noted_again, noted_first}
use Rattle.c11_shadow.proofs.cell.note_read.Goals as goal

pub returns-in-Some-clause-noted : goal.returns-in-Some-clause-noted
returns-in-Some-clause-noted c = noted_again _ _ _ _ _ c.as_slice.ensures.value c.epoch_thread-thread.ensures (sym c.in-Some.ensures)

pub returns-in-None-clause-noted : goal.returns-in-None-clause-noted
returns-in-None-clause-noted c =
    noted_first _ _ _ _ _ (vec_len c.args.reads.now) (vec_capacity c.args.reads.now) (is_ok c.push.result) c.as_slice.ensures.value c.epoch_thread-thread.ensures (sym c.in-None.ensures) c.requires c.push.ensures.succeeds
    c.push.ensures.items
