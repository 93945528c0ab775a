use Rattle.std.proofs.Common.{◌≡◌, ℕ, List, Some, length, ap, subst, arith, ◌∙◌}
use Rattle.c11_events.specs.declared.event.Event.{Event}
use Rattle.c11_mayread.specs.Facts.{Facts}
use Rattle.c11_mayread.proofs.Listing.{PriorsBelow, below_none, below_more, read_priors}
use Rattle.c11_mayread.proofs.past.Past.list_read_priors.Goals as goal

pub loop-of-init : goal.loop-of-init
loop-of-init c = record {
  count = let none = ap (λ (l : List ℕ). length l) c.requires.empty in omega (arith, none);
  capacity = omega arith;
  below = λ events e past next. below_none events e c.args.cell c.args.priors.now.items c.requires.empty;
}

pub loop-of-preserved : goal.loop-of-preserved
loop-of-preserved c = record {
  count = omega (arith, c.list_priors_of.ensures.count, c.loop-of.invariant.count);
  capacity = omega (arith, c.list_priors_of.ensures.capacity, c.loop-of.invariant.capacity);
  below = λ events e past next. below_more events e c.args.cell c.loop-of.of c.loop-of.priors.items c.list_priors_of.new.priors.items
      (c.list_priors_of.ensures.added events e past next) (c.loop-of.invariant.below events e past next);
}

pub returns-clause-priors : goal.returns-clause-priors
returns-clause-priors c = λ events e past next.
    let top = ap (λ (f : Facts). f.top) c.self.view_is in
    let all : c.loop-of.of ≡ c.args.self.now.top = omega (arith, top) in
    read_priors events e c.args.cell c.args.self.now.top
    (λ a f t. past.within a f (t.is ∙ ap (λ (g : Event). Some g) t.holds)) c.loop-of.priors.items
    (subst (λ (n : ℕ). PriorsBelow events e c.args.cell n c.loop-of.priors.items) all (c.loop-of.invariant.below events e past next))
