use Rattle.std.proofs.Common.{ap, sym, ◌∙◌, arith}
use Rattle.c11_claims.specs.Claims.{Counter, Hand}
use Rattle.c11_claims.proofs.Keeps.{joins}
use Rattle.c11_claims.proofs.Claims.gather.Goals as goal

pub join_seat-requires : goal.join_seat-requires
join_seat-requires c =
    let seat = c.claimer.inside.seat in
    let other = c.other.inside.seat in
    let table = ap (λ (z : Hand). z.claims.table) c.claimer.view_is ∙ ap (λ (z : Counter). z.table) (c.requires.here ∙ sym c.self.view_is) in
    let other_table = ap (λ (z : Hand). z.claims.table) c.other.view_is ∙ ap (λ (z : Counter). z.table) (c.requires.other ∙ sym c.self.view_is) in
    (table, other_table, c.other.invariant.0, omega arith, joins seat.id seat.me.0 other.id other.me.0 c.claimer.invariant.1 c.other.invariant.1)
