use Rattle.std.proofs.Common.{List, ℕ, length, subst, sym, arith}
use Rattle.std.specs.Prelude.{IfOk}
use Rattle.c11_events.specs.EventOf.{events_of}
use Rattle.c11_events.proofs.Histories.{length-events_of}
use Rattle.c11_history.specs.Past.{Past, AreOffers, IsWithin}
use Rattle.c11_history.specs.Sound.{setting_in}
use Rattle.c11_history.proofs.Listed.{are_offers, few_offers, some_offers}
use Rattle.c11_history.proofs.history.History.offers.Goals as goal

pub returns-clause-offers : goal.returns-clause-offers
returns-clause-offers c =
    subst (λ (p : Past). IfOk c.offers.result (λ (offers : List ℕ). AreOffers (events_of p.entries) c.args.thread c.args.op.now offers)) c.self.view_is
    (are_offers _ (events_of c.self.inside.entries.items) c.self.invariant.reads_stand c.args.thread c.args.op.now c.offers.result c.offers.ensures.chain_offers c.offers.ensures.none)

pub returns-clause-some : goal.returns-clause-some
returns-clause-some c =
    some_offers _ (events_of c.self.inside.entries.items) c.self.invariant.reads_stand c.args.thread c.args.op.now c.offers.result (setting_in c.self.inside) (length c.self.inside.replies.mutexes)
    (subst (λ (p : Past). IsWithin p.setting p.mutexes c.args.op.now) (sym c.self.view_is) c.requires.within) c.self.invariant.stores c.offers.ensures.some

pub returns-clause-few : goal.returns-clause-few
returns-clause-few c =
    few_offers _ (events_of c.self.inside.entries.items) c.self.invariant.reads_stand c.args.thread c.args.op.now c.offers.result c.offers.ensures.chain_offers c.offers.ensures.none
    (omega (arith, length-events_of c.self.inside.entries.items, c.self.invariant.few))
