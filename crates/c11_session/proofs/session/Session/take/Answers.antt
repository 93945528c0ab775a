use Rattle.std.proofs.Common.{◌≡◌, Some, sym, ap, ◌∙◌, subst}
use mathlib.Core.Option.{some-injective}
use Rattle.c11_turn.specs.declared.terms.Terms.{Terms}
use Rattle.c11_memory.specs.Execution.{Execution}
use Rattle.c11_session.specs.Sessions.{Sharing, IsTaken}
use Rattle.c11_session.proofs.Gathering.{taken}
use Rattle.c11_session.proofs.session.Session.take.Goals as goal

pub unreachable-requires : goal.unreachable-requires
unreachable-requires c =
    let x = taken c.self.inside.table.shared.key _ _ c.self.inside.table.shared.table_id c.gather_all-chair.result c.args.seats.items c.close_with-closed.ensures.values.2 c.gather_all-chair.ensures c.requires.all c.requires.stopped in
    c.in_default.not-Some x.0 (some-injective _ _ (sym c.take.ensures.value ∙ x.1))

pub returns-clause-taken : goal.returns-clause-taken
returns-clause-taken c =
    let terms = c.self.inside.table.shared.key in
    let x = taken terms _ _ c.self.inside.table.shared.table_id c.gather_all-chair.result c.args.seats.items c.close_with-closed.ensures.values.2 c.gather_all-chair.ensures c.requires.all c.requires.stopped in
    let memory : Execution = c.in-Some.memory in
    let same : x.0 ≡ memory = let e : Some x.0 ≡ Some memory = some-injective _ _ (sym x.1 ∙ c.take.ensures.value) ∙ c.in-Some.is in cc in
    subst (λ (t : Terms). IsTaken t c.args.seats.items memory) (ap (λ (s : Sharing). s.terms) c.self.view_is) (subst (λ (m : Execution). IsTaken terms c.args.seats.items m) same x.2)
