use Rattle.std.proofs.Common.{◌≡◌, ℕ, ◌+◌, ◌-◌, ◌<◌, List, [], ◌∷◌, length, sym, ap, ◌∙◌, subst, arith}
use Rattle.std.proofs.lemmas.Bool.Decides.{nat_tests}
use Rattle.atomic_table.specs.Table.{Me}
use Rattle.c11_session.specs.declared.rule.View.{View}
use Rattle.c11_session.specs.Seats.{Sitting}
use Rattle.c11_session.specs.Sessions.{Sharing, IsFresh, with_numbers_below}
use Rattle.c11_session.specs.Steps.{all_but_one}
use Rattle.c11_session.specs.Turns.{Held}
use Rattle.c11_session.proofs.Fresh.{FreshFrom, fresh_more, rest_left, two_left}
use Rattle.c11_session.proofs.opening.deal.Goals as goal

pub hand_out-other-requires-clause-two : goal.hand_out-other-requires-clause-two
hand_out-other-requires-clause-two c =
    let some_number : 0 < c.loop-number.number = (let t = c.loop-number-test.true in grind (arith, nat_tests)) in
    let x = two_left c.loop-number.number some_number in
    (x.0, x.1, x.2, ap (λ (m : Me Held View). m.0.mine.numbers) c.loop-number.invariant.view ∙ x.3)

pub loop-number-preserved : goal.loop-number-preserved
loop-number-preserved c =
    let inv = c.loop-number.invariant in
    let n = c.loop-number.number in
    let terms = c.args.terms.now in
    let some_number : 0 < n = (let t = c.loop-number-test.true in grind (arith, nat_tests)) in
    let back : n ≡ n - 1 + 1 = omega arith in
    let session : Sharing = record { table = c.args.board.now.table_id; terms = terms } in
    let x : Sitting = c.fresh.result in
    let items : c.insert.new.self.items ≡ x ∷ c.loop-number.seats.items = c.in_ok-insert.ensures.items in
    let same = c.hand_out-other.ensures.new_table ∙ (inv.table ∙ c.requires.table.0) in
    let fresh : IsFresh session n x = subst (λ (s : Sharing). IsFresh s n x) (λ i. record { table = same i; terms = c.same.ensures i }) c.fresh.ensures in
    record {
      low = omega (arith, inv.low);
      table = c.hand_out-other.ensures.table ∙ inv.table;
      view = c.hand_out-other.ensures.left ∙ (ap (λ (m : Me Held View). (all_but_one m.0, m.1)) inv.view ∙ (λ i. ((rest_left terms n ∙ ap (with_numbers_below terms) back) i, [])));
      count = let long : length c.insert.new.self.items ≡ length (x ∷ c.loop-number.seats.items) = ap length items in omega (arith, long, inv.count, some_number);
      dealt = subst (λ k. FreshFrom session k c.insert.new.self.items) back (subst (λ (seats : List Sitting). FreshFrom session n seats) (sym items) (fresh_more session n x c.loop-number.seats.items fresh inv.dealt));
    }

pub returns : goal.returns
returns c =
    let inv = c.loop-number.invariant in
    let none_left : c.loop-number.number ≡ 0 = (let t = c.loop-number-test.false in grind (arith, nat_tests)) in
    let session : Sharing = record { table = c.args.board.now.table_id; terms = c.args.terms.now } in
    let x : Sitting = c.fresh-2.result in
    let seats : List Sitting = c.loop-number.seats.items in
    let items : c.insert-2.new.self.items ≡ x ∷ seats = c.in_ok-insert-2.ensures.items in
    let same = inv.table ∙ c.requires.table.0 in
    let fresh : IsFresh session 0 x = subst (λ (s : Sharing). IsFresh s 0 x) (λ i. record { table = same i; terms = c.same-2.ensures i }) c.fresh-2.ensures in
    let later : FreshFrom session 1 seats = subst (λ k. FreshFrom session (k + 1) seats) none_left inv.dealt in
    let each : FreshFrom session 0 c.insert-2.new.self.items = subst (λ (xs : List Sitting). FreshFrom session 0 xs) (sym items) (fresh_more session 0 x seats fresh later) in
    record {
      all = let long : length c.insert-2.new.self.items ≡ length (x ∷ seats) = ap length items in omega (arith, long, inv.count, none_left);
      each = λ u s at. let e : 0 + u ≡ u = omega arith in subst (λ (k : ℕ). IsFresh session k s) e (each u s at);
    }
