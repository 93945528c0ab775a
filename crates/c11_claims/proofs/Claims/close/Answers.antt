use Rattle.std.proofs.Common.{◌≡◌, ap, sym, ◌∙◌, arith}
use Rattle.c11_claims.specs.Claims.{Counter, Hand, beyond, times, HoldsEachOnce}
use Rattle.c11_claims.proofs.Keeps.{settles}
use Rattle.c11_claims.proofs.Claims.close.Goals as goal

pub returns : goal.returns
returns c =
    let seat = c.claimer.inside.seat in
    let count : seat.me.0.count ≡ c.args.self.count = ap (λ (z : Hand). z.claims.count) c.claimer.view_is ∙ ap (λ (z : Counter). z.count) c.requires.here in
    let shares : seat.me.0.shares ≡ 64 = ap (λ (z : Hand). z.shares) c.claimer.view_is ∙ c.requires.all in
    let claimed : seat.me.0.claimed ≡ c.args.claimer.claimed = ap (λ (z : Hand). z.claimed) c.claimer.view_is in
    let held : beyond seat.me.0.count seat.me.0.claimed ≡ beyond c.args.self.count c.args.claimer.claimed = λ i. beyond (count i) (claimed i) in
    let last = c.close_with-closed.ensures.values.2 in
    let once : HoldsEachOnce seat.me.0.count seat.me.0.claimed = settles last.0 seat.id seat.me.0 last.1.0 last.1.1 shares (omega arith) in
    λ x below. ap (times x) (sym claimed) ∙ once x (omega arith)
