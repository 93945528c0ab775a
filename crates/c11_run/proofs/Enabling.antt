-- The threads that can go on.
use Rattle.std.proofs.Common.{◌≡◌, ℕ, ◌+◌, ◌<◌, Bool, true, false, IsTrue, List, Some, length, slice_get, refl, sym, ap, ◌∙◌, subst, arith}
use Rattle.std.specs.Prelude.{◌↔◌}
use Rattle.std.proofs.lemmas.Option.{slice_get-get_or, slice_get_read, slice_get_within}
use lib.ListN.{get_or}
use Rattle.c11_events.specs.declared.event.Event.{Event}
use Rattle.c11_events.specs.declared.reply.Reply.{Reply}
use Rattle.c11_events.specs.Draws.{chosen, words_for}
use Rattle.c11_events.specs.EventOf.{events_of}
use Rattle.c11_events.specs.Offered.{IsRisingList}
use Rattle.c11_events.specs.Replies.{thread_limit}
use Rattle.c11_memory.specs.Execution.{Execution, HasDrawn}
use Rattle.c11_memory.specs.Steps.{AddsStep, CanStep}
use Rattle.c11_run.specs.declared.team.Member.{Member}
use Rattle.c11_run.specs.Going.{AreWithin, CanGo, GoesOn, IsTurn}

-- the thread of this number is looked at
module _ (events : List Event) (members : List Member) (n : ℕ) (member : Member) (inside : n < length members) (is : member ≡ get_or members n member) where
  pub at : slice_get members n ≡ Some member
  at = slice_get_read members (length members) n member refl inside is

  pub goes : (can : Bool) → (IsTrue can ↔ CanGo events n member.ask) → can ≡ true → GoesOn events members n
  goes can tells is' = (member, at, tells.0 is')

  pub goes_not : (can : Bool) → (IsTrue can ↔ CanGo events n member.ask) → can ≡ false → GoesOn events members n → ⊥
  goes_not can tells is' g =
      let both : Some member ≡ Some g.0 = sym at ∙ g.1 in
      let same : g.0 ≡ member = cc in
      let yes' : can ≡ true = tells.1 (subst (λ (m : Member). CanGo events n m.ask) same g.2) in
      let clash : true ≡ false = sym yes' ∙ is' in cc

-- each is below their number
pub goes_below : (events : List Event) (members : List Member) (count u : ℕ) → length members ≡ count → GoesOn events members u → u < count
goes_below events members count u is g = omega (arith, slice_get_within members u g.0 g.1)

-- the thread at the place that is drawn can make its step
module _ (m d : Execution) (members : List Member) (xs : List ℕ) (place : ℕ) (x : Member) (rising : IsRisingList (GoesOn (events_of m.history) members) xs) (inside : place < length xs)
    (value : x ≡ get_or members (get_or xs place 0) x) (same : d ≡ record m { generator = d.generator }) where
  abbrev thread : ℕ
  thread = get_or xs place 0

  placed : slice_get xs place ≡ Some thread
  placed = slice_get-get_or xs place 0 inside

  goes_now : GoesOn (events_of m.history) members thread
  goes_now = rising.only place thread placed

  pub thread_below : thread < length members
  thread_below = slice_get_within members thread goes_now.0 goes_now.1

  get : slice_get members thread ≡ Some x
  get = slice_get_read members (length members) thread x refl thread_below value

  can_go : CanGo (events_of m.history) thread x.ask
  can_go = let both : Some goes_now.0 ≡ Some x = sym goes_now.1 ∙ get in let found : goes_now.0 ≡ x = cc in subst (λ (y : Member). CanGo (events_of m.history) thread y.ask) found goes_now.2

  pub can_step : AreWithin m members → length members ≡ thread_limit → CanStep d thread x.ask
  can_step within count = subst (λ (e : Execution). CanStep e thread x.ask) (sym same) (record {
    below = omega (arith, thread_below, count);
    within = within thread x get can_go.0;
    live = λ n. can_go.0;
    free = λ n. can_go.1;
  })

  pub is_turn : (n : Execution) (reply : Reply) (words : ℕ) → HasDrawn m words → AddsStep d n thread x.ask reply
      → ((k : ℕ) → HasDrawn m k → (place ≡ chosen m.seed k (length xs)) × HasDrawn d (k + words_for (length xs))) → IsTurn m n members xs words thread reply
  is_turn n reply words drawn adds draws =
      let t = draws words drawn in
      let generator = subst (λ (e : Execution). HasDrawn e (words + words_for (length xs))) same t.1 in
      record {
        member = x;
        get = get;
        place = ap (slice_get xs) (sym t.0) ∙ placed;
        adds = subst (λ (e : Execution). AddsStep e n thread x.ask reply) (same ∙ λ i. record m { generator = generator i }) adds;
      }
