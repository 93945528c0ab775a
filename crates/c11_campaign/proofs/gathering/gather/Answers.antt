use Rattle.std.proofs.Common.{◌≡◌, ◌++◌, ap, arith}
use Rattle.c11_claims.specs.Claims.{Hand}
use Rattle.c11_machine.specs.Programs.{program_of}
use Rattle.c11_campaign.proofs.Together.{popped, told, few_told, gathered, still_ended, all_gathered}
use Rattle.c11_campaign.proofs.gathering.gather.Goals as goal

pub loop-other-init : goal.loop-other-init
loop-other-init c =
    let program = program_of c.args._hunt.now.checked.now in
    let first = c.args._hunt.now.first in
    let bound = c.args._hunt.now.steps in
    let last = c.in-Some.last in
    let p = popped program first bound c.args.claims c.args.worked.items c.pop.new.self.items last c.in-Some.ensures.items c.requires.worked.each in
    let has = told program first bound c.args.claims last c.in_ok-tallied.tallied c.in_ok-tallied.was p.last_is in
    let few = few_told program first bound c.args.claims last.claimer.claimed c.in_ok-tallied.tallied c.requires.few_seeds has in (
      p.last_is.here,
      omega (arith, p.shares, c.requires.worked.shares),
      has.ended,
      omega (arith, few, p.fewer, c.requires.few),
      p.each,
      has.run,
    )

pub gather-requires-clause-other : goal.gather-requires-clause-other
gather-requires-clause-other c =
    (popped (program_of c.args._hunt.now.checked.now) c.args._hunt.now.first c.args._hunt.now.steps c.args.claims c.loop-other.left.items c.pop-in-loop-other.new.self.items c.in-Some-pop.other c.in-Some-pop.ensures.items
    c.loop-other.invariant.4).last_is.here

pub merge-requires : goal.merge-requires
merge-requires c =
    let program = program_of c.args._hunt.now.checked.now in
    let first = c.args._hunt.now.first in
    let bound = c.args._hunt.now.steps in
    let other = c.in-Some-pop.other in
    let inv = c.loop-other.invariant in
    let p = popped program first bound c.args.claims c.loop-other.left.items c.pop-in-loop-other.new.self.items other c.in-Some-pop.ensures.items inv.4 in
    let has = told program first bound c.args.claims other c.in_ok-more.field-0 c.in_ok-more.was p.last_is in
    omega (arith, inv.3, few_told program first bound c.args.claims other.claimer.claimed c.in_ok-more.field-0 c.requires.few_seeds has)

pub loop-other-preserved : goal.loop-other-preserved
loop-other-preserved c =
    let program = program_of c.args._hunt.now.checked.now in
    let first = c.args._hunt.now.first in
    let bound = c.args._hunt.now.steps in
    let other = c.in-Some-pop.other in
    let inv = c.loop-other.invariant in
    let p = popped program first bound c.args.claims c.loop-other.left.items c.pop-in-loop-other.new.self.items other c.in-Some-pop.ensures.items inv.4 in
    let has = told program first bound c.args.claims other c.in_ok-more.field-0 c.in_ok-more.was p.last_is in
    let few = few_told program first bound c.args.claims other.claimer.claimed c.in_ok-more.field-0 c.requires.few_seeds has in
    let now_is : c.gather.new.claimer.claimed ≡ c.loop-other.claimer.claimed ++ other.claimer.claimed = ap (λ (h : Hand). h.claimed) c.gather.ensures in
    let shares_are = ap (λ (h : Hand). h.shares) c.gather.ensures in (
      ap (λ (h : Hand). h.claims) c.gather.ensures,
      omega (arith, shares_are, p.shares, inv.1),
      still_ended c.args.claims.count c.loop-other.claimer.claimed other.claimer.claimed c.gather.new.claimer.claimed inv.2 now_is,
      omega (arith, c.in_ok-merge.ensures.runs, few, inv.3, p.fewer),
      p.each,
      gathered program first bound c.args.claims c.loop-other.claimer.claimed other.claimer.claimed c.gather.new.claimer.claimed c.loop-other.tallied c.in_ok-more.field-0 c.merge.new.self inv.5 has
          c.in_ok-merge.ensures.stands c.in_ok-merge.ensures.runs now_is,
    )

pub returns : goal.returns
returns c =
    all_gathered (program_of c.args._hunt.now.checked.now) c.args._hunt.now.first c.args._hunt.now.steps c.args.claims c.loop-other.claimer.claimed c.loop-other.tallied c.loop-other.invariant.5 c.close.ensures
