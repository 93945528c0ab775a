use Rattle.std.proofs.Common.{ℤ, Some, w32, nat_eq, if◌then◌else◌, sym, subst, set, get_or}
use Rattle.std.proofs.Math.Facts.{to_z-of_z}
use Rattle.c11_replies.specs.Changed.{AreChanged}
use Rattle.c11_replies.specs.declared.threads.ThreadState.{ThreadState}
use Rattle.c11_replies.proofs.Places.{changed_at, unchanged}
use Rattle.c11_replies.proofs.threads.set_ended.Goals as goal

pub returns-then-place-threads : goal.returns-then-place-threads
returns-then-place-threads c =
    let threads = c.args.threads.now in
    let old = get_or threads c.args.thread c.index-threads-place.result in
    subst (λ (z : ℤ). AreChanged {X = ThreadState} (λ u state. if nat_eq c.args.thread u then record state { ended = Some c.args.value } else state) threads (set threads c.args.thread (record old { ended = Some z })))
    (sym (to_z-of_z {w = w32} {z = c.args.value} c.ranges.value)) (changed_at {X = ThreadState} threads c.args.thread c.index-threads-place.result (λ (state : ThreadState). record state { ended = Some c.args.value }) c.if-place-threads.true)

pub returns-else-place-threads : goal.returns-else-place-threads
returns-else-place-threads c = unchanged {X = ThreadState} c.args.threads.now c.args.thread (λ (state : ThreadState). record state { ended = Some c.args.value }) c.if-place-threads.false
