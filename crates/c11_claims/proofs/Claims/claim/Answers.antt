use Rattle.std.proofs.Common.{◌≡◌, ℕ, ◌<◌, ◌≤◌, List, [], ◌∷◌, ◌++◌, ap, sym, subst, ◌∙◌, arith}
use Rattle.atomic_table.specs.Table.{Me}
use Rattle.c11_claims.specs.declared.rule.View.{View}
use Rattle.c11_claims.specs.Claims.{Counter, Hand, counter, beyond}
use Rattle.c11_claims.proofs.Counts.{still, over}
use Rattle.c11_claims.proofs.Keeps.{gains}
use Rattle.c11_claims.proofs.Claims.claim.Goals.{then-number-self, else-number-self}
use Rattle.c11_claims.proofs.Claims.claim.Goals as goal

pub fetch_add-number-requires : goal.fetch_add-number-requires
fetch_add-number-requires c =
    let seat = c.claimer.inside.seat in
    let here : counter seat.table_id seat.me.0.count ≡ c.args.self.now = ap (λ (z : Hand). z.claims) c.claimer.view_is ∙ c.requires.here in
    let inside = here ∙ sym c.self.view_is in
    let table = ap (λ (z : Counter). z.table) inside in
    let count : seat.me.0.count ≡ c.self.inside.count = ap (λ (z : Counter). z.count) inside in
    let held : beyond seat.me.0.count seat.me.0.claimed ≡ beyond c.args.self.now.count c.args.claimer.now.claimed =
    let claimed = ap (λ (z : Hand). z.claimed) c.claimer.view_is in λ i. beyond (here i).count (claimed i)
    in
    let range : seat.me.0.count ≤ 1000000 = omega arith in
    (table, omega arith, gains _ seat.id seat.me.0 seat.me.1 c.claimer.invariant.1 (held ∙ c.requires.going) range)

pub returns-clause-going : goal.returns-clause-going
returns-clause-going c =
    let n = c.fetch_add-number.result in
    let before = ap (λ (z : Hand). z.claimed) c.claimer.view_is in
    let grown : c.fetch_add-number.new.seat.me.0.claimed ≡ c.args.claimer.now.claimed ++ n ∷ [] =
    ap (λ (m : Me ℕ View). m.0.claimed) c.fetch_add-number.ensures.2.gained ∙ ap (λ (xs : List ℕ). xs ++ n ∷ []) before
    in
    let count : c.self.inside.count ≡ c.args.self.now.count = ap (λ (z : Counter). z.count) c.self.view_is in
    elim c.if-number-self.branch [
      | then-number-self w ↦ rw w.result-is (still c.args.self.now.count n c.args.claimer.now.claimed _ grown c.requires.going (subst (λ (m : ℕ). n < m) count w.if-number-self.true))
      | else-number-self w ↦ rw w.result-is tt
    ]

pub returns-clause-ended : goal.returns-clause-ended
returns-clause-ended c =
    let n = c.fetch_add-number.result in
    let before = ap (λ (z : Hand). z.claimed) c.claimer.view_is in
    let grown : c.fetch_add-number.new.seat.me.0.claimed ≡ c.args.claimer.now.claimed ++ n ∷ [] =
    ap (λ (m : Me ℕ View). m.0.claimed) c.fetch_add-number.ensures.2.gained ∙ ap (λ (xs : List ℕ). xs ++ n ∷ []) before
    in
    let count : c.self.inside.count ≡ c.args.self.now.count = ap (λ (z : Counter). z.count) c.self.view_is in
    elim c.if-number-self.branch [
      | then-number-self w ↦ rw w.result-is tt
      | else-number-self w ↦ rw w.result-is (over c.args.self.now.count n c.args.claimer.now.claimed _ grown c.requires.going (subst (λ (m : ℕ). m ≤ n) count w.if-number-self.false))
    ]
