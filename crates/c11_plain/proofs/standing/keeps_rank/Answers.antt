use Rattle.std.proofs.Common.{◌≡◌, ◌<◌, not, refl}
use Rattle.c11_plain.proofs.Filling.{not_iff}
use Rattle.c11_plain.proofs.ChainPlaces.{keeps_test, keeps_first, keeps_second}
use Rattle.c11_plain.proofs.standing.keeps_rank.Goals as goal

pub returns-in-Some-rank_of : goal.returns-in-Some-rank_of
returns-in-Some-rank_of c =
    let first = c.in-Some.first in
    let second = c.in-Some-rank_of.second in
    let e = not_iff c.is_behind.result ((first.head ≡ second.head) × (second.rank < first.rank)) c.is_behind.ensures in
    keeps_test c.args.events.now c.args.cell c.args.a c.args.b first second (not c.is_behind.result) c.in-Some.ensures c.in-Some-rank_of.ensures
    (λ h same lt. e.0 h (same, lt), λ n. e.1 (λ p. n p.0 p.1))

pub returns-in-None-rank_of : goal.returns-in-None-rank_of
returns-in-None-rank_of c = (λ _. keeps_second c.args.events.now c.args.cell c.args.a c.args.b c.in-None-rank_of.ensures, λ _. refl)

pub returns-in-None : goal.returns-in-None
returns-in-None c = (λ _. keeps_first c.args.events.now c.args.cell c.args.a c.args.b c.in-None.ensures, λ _. refl)
