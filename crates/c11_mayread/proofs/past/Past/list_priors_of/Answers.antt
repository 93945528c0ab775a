use Rattle.std.proofs.Common.{◌≡◌, ◌∙◌, ◌++◌, ℕ, List, Some, ap, sym, subst}
use Rattle.c11_mograph.specs.Made.{list_of}
use Rattle.c11_mayread.specs.Facts.{Facts, IsPastOf}
use Rattle.c11_mayread.specs.Sound.{facts_of}
use Rattle.c11_mayread.specs.Priors.{AddsPriorsBy, IsBeforeLastFence}
use Rattle.c11_events.specs.Events.{stored_cell}
use Rattle.c11_mayread.proofs.Recalling.{positive}
use Rattle.c11_mayread.proofs.Listing.{finds_store, finds_read, adds}
use Rattle.c11_mayread.proofs.past.Past.list_priors_of.Goals as goal

pub last_up_to-store-requires : goal.last_up_to-store-requires
last_up_to-store-requires c = λ cell thread y noted.
    positive c.self.invariant.events y (λ e. (stored_cell e.kind ≡ Some cell) × (e.thread ≡ thread)) ((c.self.invariant.stands.stores cell thread y).0 noted)

pub returns-clause-added : goal.returns-clause-added
returns-clause-added c = λ events e now next.
    let past : IsPastOf (facts_of c.self.inside) events = subst (λ (f : Facts). IsPastOf f events) (sym c.self.view_is) now in
    let number = c.known-known.result in
    let knows = c.known-known.ensures events e now next.thread in
    let o1 = c.last_up_to-store.result in
    let o2 = c.last_read-read.result in
    let o = c.before_fence_of-fenced.result in
    let o' = c.before_own_fence-answered.result in
    let old = c.args.priors.now.items in
    let items : c.put_some-4.new.list.items ≡ (((old ++ list_of o1) ++ list_of o2) ++ list_of o) ++ list_of o' =
    c.put_some-4.ensures.items ∙ (ap (λ (l : List ℕ). l ++ list_of o') (c.put_some-3.ensures.items ∙ ap (λ (l : List ℕ). l ++ list_of o) (c.put_some-2.ensures.items ∙ ap (λ (l : List ℕ). l ++ list_of o2) c.put_some.ensures.items))) in
    subst (λ (l : List ℕ). AddsPriorsBy events e c.args.cell c.args.of old l) (sym items)
    (adds events e c.args.cell c.args.of c.fences_decide.ensures c.answers_decide.ensures o o'
    (subst (λ (t : ℕ). IsBeforeLastFence events t c.args.cell c.args.of o) (sym next.thread) (c.before_fence_of-fenced.ensures events now))
    (λ sc. c.before_own_fence-answered.ensures.asked events now (sym next.seq_cst ∙ sc))
    (λ sc. c.before_own_fence-answered.ensures.none (sym next.seq_cst ∙ sc))
    old o1 o2
    (finds_store events e c.args.cell c.args.of number knows c.self.inside.stores past.stores o1 c.last_up_to-store.ensures)
    (finds_read events e c.args.cell c.args.of number knows past.reads o2 (c.last_read-read.ensures events now)))
