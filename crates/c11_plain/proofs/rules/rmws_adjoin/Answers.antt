use Rattle.std.proofs.Common.{rules, ℕ}
use Rattle.c11_events.specs.Events.{IsStore, IsLoad}
use Rattle.c11_events.specs.Lawful.{IsNext}
use Rattle.c11_plain.proofs.Numbers.{rmw_of}
use Rattle.c11_plain.proofs.Ends.{below}
use Rattle.c11_plain.proofs.Filling.{each_of}
use Rattle.c11_plain.proofs.rules.rmws_adjoin.Goals as goal

pub returns : goal.returns
returns c =
    let e = each_of c.some_below.result c.args.count _
    (λ b. (x : ℕ) → IsLoad c.args.events.now c.args.cell b x → IsStore c.args.events.now c.args.cell b → IsNext c.args.order.now x b) c.some_below.ensures
    (λ k lt t. search rules) (λ k lt t g. search rules) in (
      λ h b x r. e.0 h b (below c.args.events.now c.args.count c.requires r) x (record { event = r.event; is = r.is; holds = (r.holds.1, r.holds.2) }) (record { event = r.event; is = r.is; holds = r.holds.0 }),
      λ f. e.1 (λ b lt x l s. f b x (rmw_of _ _ _ _ s l)),
    )
