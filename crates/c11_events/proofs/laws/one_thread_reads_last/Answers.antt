use Rattle.c11_events.proofs.OneThread.{one_thread_reads_last}
use Rattle.c11_events.proofs.laws.one_thread_reads_last.Goals as goal

pub returns : goal.returns
returns c = one_thread_reads_last
