use Rattle.std.proofs.Common.{◌≡◌, ◌≤◌, false, List, [], ◌∷◌, ◌++◌, length, Some, sym, ap, ◌∙◌, subst, arith}
use Rattle.std.specs.Prelude.{is_some}
use Rattle.atomic_table.specs.Table.{opening}
use Rattle.c11_events.specs.Steps.{init_entries}
use Rattle.c11_memory.specs.Execution.{Execution, opened}
use Rattle.c11_turn.specs.Hand.{IsMemoryOf, program_in}
use Rattle.c11_session.specs.Sessions.{Sharing, AreFresh}
use Rattle.c11_session.specs.Turns.{Held, TakeTurns, first_view}
use Rattle.c11_session.specs.Views.{second_word}
use Rattle.c11_session.proofs.Dealing.{opens}
use Rattle.c11_session.proofs.session.Session.open.Goals as goal

pub new-requires : goal.new-requires
new-requires c =
    let terms = c.of-terms.result in
    let of = c.of-terms.ensures in
    let start = init_entries (program_in terms).setting.atomic in
    let memory : Execution = c.in_ok-memory.memory in
    let law = c.opened_is_memory.ensures terms (omega (arith, of.bound, c.requires.some_step)) (omega (arith, of.bound, c.requires.few_steps)) in
    let is : memory ≡ opened terms.program.value terms.seed terms.bound = c.in_ok-memory.ensures ∙ (λ i. opened (sym of.program i) (sym of.seed i) (sym of.bound i)) in
    let short = c.histories_are_short.ensures terms start law.1 in
    let fits : length start ≤ 14096 = omega (arith, short.0, short.1, of.bound, c.requires.few_steps) in
    let word : c.word_with-word.result ≡ second_word 0 (length start) false = c.word_with-word.ensures ∙ ap (λ (m : Execution). second_word 0 (length m.history) (is_some m.verdict)) is in
    let items : c.push.new.self.items ≡ Some memory ∷ [] = c.in_ok-push.ensures.items ∙ ap (λ (xs : List Held). xs ++ Some memory ∷ []) c.new-slots.ensures.items in
    subst (λ (xs : List Held). TakeTurns terms (opening (0 ∷ c.word_with-word.result ∷ []) xs (first_view terms))) (sym items)
    (opens terms memory c.word_with-word.result (subst (λ (m : Execution). IsMemoryOf terms start m) (sym is) law.0) law.1 (ap (λ (m : Execution). m.verdict) is) short.0 fits word)

pub deal-requires-clause-follows : goal.deal-requires-clause-follows
deal-requires-clause-follows c =
    let of = c.of-terms.ensures in
    (c.opened_is_memory.ensures c.of-terms.result (omega (arith, of.bound, c.requires.some_step)) (omega (arith, of.bound, c.requires.few_steps))).1

pub returns : goal.returns
returns c =
    let of = c.of-terms.ensures in
    let key = c.in-Ok.ensures.ok.5 in
    record {
      terms = (ap (λ t. t.program.value) key ∙ of.program, ap (λ t. t.seed) key ∙ of.seed, ap (λ t. t.bound) key ∙ of.bound);
      fresh = subst (λ (s : Sharing). AreFresh s c.in_ok-seats.seats.items) (λ i. record { table = c.in-Ok.table.shared.table_id; terms = sym key i }) c.in_ok-seats.ensures;
    }
