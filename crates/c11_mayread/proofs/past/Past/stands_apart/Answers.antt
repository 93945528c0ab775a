use Rattle.std.proofs.Common.{◌≡◌, true, false, ◌-◌, length, ap, sym, subst, arith}
use Rattle.c11_latest.proofs.Places.{get_of_index}
use Rattle.c11_mayread.specs.Facts.{Facts, IsPastOf}
use Rattle.c11_mayread.specs.Sound.{facts_of}
use Rattle.c11_mayread.proofs.Recalling.{seq_cst_at, not_seq_cst_at, neither}
use Rattle.c11_mayread.proofs.past.Past.stands_apart.Goals as goal

pub returns-then-index : goal.returns-then-index
returns-then-index c = λ events now.
    let past : IsPastOf (facts_of c.self.inside) events = subst (λ (f : Facts). IsPastOf f events) (sym c.self.view_is) now in
    let count = past.count in
    let noted = ap (λ (f : Facts). length f.kept) c.self.view_is in
    let is = seq_cst_at (facts_of c.self.inside) events past c.args.x c.index.result.now c.requires.first (omega (arith, c.requires.first_noted, noted, count))
    (get_of_index c.self.inside.kept.items (c.args.x - 1) c.index.result.now (omega (arith, c.requires.first, c.requires.first_noted, noted)) c.index.ensures) c.if-index.true in
    (λ t. absurd (let clash : false ≡ true = t in cc), λ n. absurd (n.0 is))

pub returns-else-index : goal.returns-else-index
returns-else-index c = λ events now.
    let past : IsPastOf (facts_of c.self.inside) events = subst (λ (f : Facts). IsPastOf f events) (sym c.self.view_is) now in
    let noted = ap (λ (f : Facts). length f.kept) c.self.view_is in
    neither c.happens_before.result _ _ (not_seq_cst_at (facts_of c.self.inside) events past c.args.x c.index.result.now
    (get_of_index c.self.inside.kept.items (c.args.x - 1) c.index.result.now (omega (arith, c.requires.first, c.requires.first_noted, noted)) c.index.ensures) c.if-index.false) (c.happens_before.ensures events now)
