use Rattle.std.proofs.Common.{Bool, ◌||◌, ℤ, pos, unwrap_or, nat_eq, if◌then◌else◌, sym, ap, ◌∙◌}
use Rattle.c11_events.specs.declared.op.Op.{Op}
use Rattle.c11_events.specs.declared.reply.Reply.TheVariants.{Joined, Fault}
use Rattle.c11_events.specs.declared.reply.FaultKind.TheVariants.{Join}
use Rattle.c11_events.specs.Replies.{answer}
use Rattle.c11_events.specs.Threads.{is_joined}
use Rattle.c11_replies.proofs.Joining.{joined_value}
use Rattle.c11_replies.proofs.replies.Replies.answer.Goals as goal

pub returns-in-Join : goal.returns-in-Join
returns-in-Join c = λ setting events x is read.
    let u = c.in-Join.thread in
    let state = is.threads u c.thread.result.now c.thread.ensures in
    c.join_reply.ensures ∙ (ap (λ (j : Bool). if (nat_eq u 0 || j) then Fault Join else Joined (unwrap_or c.thread.result.now.ended (pos 0))) state.joined
    ∙ (ap (λ (v : ℤ). if (nat_eq u 0 || is_joined events u) then Fault Join else Joined v) (joined_value setting events u c.thread.result.now state)
    ∙ ap (λ (op : Op). answer setting events c.args.thread op x) (sym c.in-Join.is)))
