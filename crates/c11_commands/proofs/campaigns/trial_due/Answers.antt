use Rattle.std.proofs.Common.{List, ℕ, ◌≡◌, refl, subst, sym, ◌∙◌, arith}
use Rattle.c11_accepts.specs.Texts.{Accepts, IsRefusedAs}
use Rattle.c11_accepts.specs.declared.whole.AcceptStop.{AcceptStop}
use Rattle.c11_accepts.specs.declared.whole.AcceptStop.TheVariants as accepting
use Rattle.c11_ring.specs.Ring.{ring_bytes}
use Rattle.c11_commands.specs.declared.due.Due.{Due}
use Rattle.c11_commands.specs.Jobs.{IsCampaignOf, IsSummaryText}
use Rattle.c11_commands.proofs.Judging.{good_as, stopped_so}
use Rattle.c11_commands.proofs.campaigns.trial_due.Goals as goal

pub returns-in-Ok : goal.returns-in-Ok
returns-in-Ok g c =
    let checked = c.in-Ok.checked in
    let text = ring_bytes c.args.number c.args.size in
    let is : c.as_slice.result.now ≡ text = c.as_slice.ensures.value ∙ c.in_ok-text.ensures in
    let accepted : Accepts text checked.program = subst (λ (t : List ℕ). Accepts t checked.program) is c.in-Ok.ensures.accepted in
    good_as c.print_summary.result (λ (due : Due). IsSummaryText checked c.args.first c.args.count c.args.steps due.status due.text.items)
    (λ (due : Due). IsCampaignOf c.args.first c.args.count c.args.steps text due.status due.text.items)
    (λ due sums. record { checked = checked; accepted = accepted; is = c.in-Ok.ensures.checked; sums = sums }) c.print_summary.ensures

pub unreachable-requires : goal.unreachable-requires
unreachable-requires g c =
    let text = ring_bytes c.args.number c.args.size in
    let is : c.as_slice.result.now ≡ text = c.as_slice.ensures.value ∙ c.in_ok-text.ensures in
    let some = c.ring_is_accepted.ensures c.args.number c.args.size (omega (arith, c.requires.some_packet)) c.requires.few_packets in
    let refused = stopped_so c.as_slice.result.now c.in-Err-Refused.field-0 c.in-Err-Refused.field-0-0 c.in-Err-Refused.ensures.refused c.in-Err-Refused.field-0-is in
    c.not_both.ensures text some.0 c.in-Err-Refused.field-0-0 some.1 (subst (λ (t : List ℕ). IsRefusedAs t c.in-Err-Refused.field-0-0) is refused)
