use Rattle.std.proofs.Common.{◌-◌, ℕ, false, subst, arith}
use Rattle.std.proofs.lemmas.Option.{slice_get-get_or}
use Rattle.c11_mograph.specs.declared.kept.Kept.{Kept}
use Rattle.c11_mograph.specs.Spread.{AreWide, IsSpread}
use Rattle.c11_mograph.proofs.Newest.{visited}
use Rattle.c11_mograph.proofs.Tables.{spread_step, nothing_spread}
use Rattle.c11_mograph.proofs.clocks.spread.Goals as goal

abbrev blank : Kept
blank = record { cell = 0; thread = 0; head = 0; rank = 0; older = 0; ends = false }

pub loop-next-init : goal.loop-next-init
loop-next-init c =
    let link = c.requires.linked.last c.args.cell _ (slice_get-get_or c.args.newest.now c.args.cell 0 c.requires.cell) in
    record { spread = nothing_spread _ _ _ _ _ _ _ link; wide = c.requires.wide; within = link.within; head = link.head }

pub loop-next-smaller : goal.loop-next-smaller
loop-next-smaller c =
    let v = visited c.args.kept.now c.args.newest.now c.args.cell c.loop-next.next blank c.requires.linked c.loop-next-test.true c.loop-next.invariant.within c.loop-next.invariant.head in
    omega (arith, v.1.0.within, v.1.1)

pub loop-next-preserved : goal.loop-next-preserved
loop-next-preserved c =
    let v = visited c.args.kept.now c.args.newest.now c.args.cell c.loop-next.next blank c.requires.linked c.loop-next-test.true c.loop-next.invariant.within c.loop-next.invariant.head in
    record {
      spread = spread_step c.args.kept.now c.args.clocks.now c.loop-next.clocks c.spread_to.new.clocks (c.loop-next.next - 1) _ c.args.from c.args.cell c.args.thread c.args.number v.0 v.1.0
          (subst (λ (n : ℕ). IsSpread c.args.kept.now c.args.clocks.now c.loop-next.clocks n c.args.from c.args.cell c.args.thread c.args.number) v.1.1 c.loop-next.invariant.spread) c.spread_to.ensures.spread;
      wide = subst (λ (n : ℕ). AreWide n c.spread_to.new.clocks) (c.loop-next.invariant.wide c.args.from (omega (arith, c.requires.from, c.loop-next.auto.clocks))) c.spread_to.ensures.wide;
      within = omega (arith, v.1.0.within, v.1.1, c.loop-next.invariant.within);
      head = v.1.0.head;
    }
