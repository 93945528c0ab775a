use Rattle.std.proofs.Common.{◌≡◌, ap, ◌∙◌}
use Rattle.std.proofs.lemmas.List.Elements.{All-pop}
use Rattle.atomic_table.specs.Table.{Me}
use Rattle.c11_session.specs.declared.rule.View.{View}
use Rattle.c11_session.specs.Seats.{Sitting}
use Rattle.c11_session.specs.Steps.{gathering}
use Rattle.c11_session.specs.Turns.{Held}
use Rattle.c11_session.proofs.Gathering.{one_gathered}
use Rattle.c11_session.proofs.taking.gather_all.Goals as goal

pub loop-seat-preserved : goal.loop-seat-preserved
loop-seat-preserved c =
    let inv = c.loop-seat.invariant in
    let left = c.loop-seat.seats.items in
    let rest = c.pop-in-loop-seat.new.self.items in
    let v = c.loop-seat.chair.me.0 in
    let w = c.chair_of.result.me.0 in
    let joined : c.gather.new.chair.me.0 ≡ gathering v w = ap (λ (m : Me Held View). m.0) c.gather.ensures.both in
    record {
      table = c.gather.ensures.table ∙ inv.table;
      idle = ap (λ (u : View). u.stage) joined ∙ inv.idle;
      left = (All-pop (λ (s : Sitting). s.table ≡ c.args.board.now.table_id) left rest c.pop-in-loop-seat.result c.pop-in-loop-seat.ensures.items inv.left).0;
      gathered = one_gathered c.args.seats.items left rest c.in-Some-pop.seat v w c.gather.new.chair.me.0 inv.gathered c.in-Some-pop.ensures.items c.chair_of.ensures.account c.chair_of.ensures.one joined;
    }
