use Rattle.std.proofs.Common.{◌≡◌, ap, sym, ◌∙◌, arith}
use Rattle.c11_claims.specs.Claims.{Counter, Hand, counter, beyond}
use Rattle.c11_claims.proofs.Keeps.{splits}
use Rattle.c11_claims.proofs.Claims.another.Goals as goal

pub split_seat-requires : goal.split_seat-requires
split_seat-requires c =
    let seat = c.claimer.inside.seat in
    let here : counter seat.table_id seat.me.0.count ≡ c.args.self.now = ap (λ (z : Hand). z.claims) c.claimer.view_is ∙ c.requires.here in
    let table = ap (λ (z : Counter). z.table) (here ∙ sym c.self.view_is) in
    let count : seat.me.0.count ≡ c.args.self.now.count = ap (λ (z : Counter). z.count) here in
    let shares : seat.me.0.shares ≡ c.args.claimer.now.shares = ap (λ (z : Hand). z.shares) c.claimer.view_is in
    let claimed : seat.me.0.claimed ≡ c.args.claimer.now.claimed = ap (λ (z : Hand). z.claimed) c.claimer.view_is in
    let held : beyond seat.me.0.count seat.me.0.claimed ≡ beyond c.args.self.now.count c.args.claimer.now.claimed = λ i. beyond (count i) (claimed i) in
    (table, omega arith, splits seat.id seat.me.0 (omega arith) (omega arith))
