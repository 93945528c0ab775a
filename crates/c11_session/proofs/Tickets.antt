-- What each step does to tickets and turns.
use Rattle.std.proofs.Common.{◌≡◌, ◌≢◌, ℕ, ◌+◌, ◌<◌, ◌≤◌, List, [], ◌∷◌, ◌++◌, Some, None, sym, ap, ◌∙◌, subst, arith, ⊎_elim}
use Rattle.std.proofs.Math.ListN.{set}
use Rattle.std.proofs.lemmas.Option.{none-some, same_Some}
use native.Mathlib.Decide.{ℕ_discrete}
use mathlib.Core.Logic.{dite}
use mathlib.Core.Option.{some}
use lib.ListN.{get_elem?}
use Rattle.atomic_table.proofs.Lists.{at_set, at_snoc, at_longer, set_else}
use Rattle.c11_session.specs.declared.rule.Stage.TheVariants.{Idle, Waiting, InTurn}
use Rattle.c11_session.specs.declared.rule.View.{View}
use Rattle.c11_session.specs.Views.{HasTicket, ticket_of}
use Rattle.c11_session.specs.Turns.{IsInTurn, TicketsAreOut, TurnIsServed}
use Rattle.c11_session.proofs.Lists.{all_set, all_snoc, same_place, set_there}

-- the view has no ticket
abbrev pub HasNone : View → Type 0
HasNone v = ticket_of v.stage ≡ None

no_ticket : (v : View) (t : ℕ) → HasNone v → HasTicket v t → ⊥
no_ticket v t none has = none-some t (sym none ∙ has)

pub same_ticket : (v : View) (s t : ℕ) → HasTicket v s → HasTicket v t → s ≡ t
same_ticket v s t a b = same_Some s t (sym a ∙ b)

pub turn_ticket : (v : View) (t : ℕ) → v.stage ≡ InTurn t → HasTicket v t
turn_ticket v t is = ap ticket_of is

-- a view with a ticket is not at the place of one with none
other_place : (views : List View) (i id : ℕ) (u v : View) (t : ℕ) → get_elem? views i ≡ some u → get_elem? views id ≡ some v → HasTicket u t → HasNone v → i ≢ id
other_place views i id u v t at_i at_id has none same = no_ticket v t none (subst (λ (x : View). HasTicket x t) (same_place views i id u v at_i at_id same) has)

-- where each view has the tickets that it had, but one changed one, at most one has each ticket
once_set : (views : List View) (id : ℕ) (w : View) (t : ℕ) → (HasTicket w t → (j : ℕ) (u : View) → j ≢ id → get_elem? views j ≡ some u → HasTicket u t → ⊥)
    → ((i j : ℕ) (v u : View) → get_elem? views i ≡ some v → get_elem? views j ≡ some u → HasTicket v t → HasTicket u t → i ≡ j)
    → (i j : ℕ) (v u : View) → get_elem? (set views id w) i ≡ some v → get_elem? (set views id w) j ≡ some u → HasTicket v t → HasTicket u t → i ≡ j
once_set views id w t alone once i j v u at_i at_j has_v has_u =
    ⊎_elim (λ (x : (i ≡ id) × (w ≡ v)). ⊎_elim (λ (y : (j ≡ id) × (w ≡ u)). x.0 ∙ sym y.0)
    (λ (y : (j ≢ id) × (get_elem? views j ≡ some u)). absurd (alone (subst (λ (z : View). HasTicket z t) (sym x.1) has_v) j u y.0 y.1 has_u)) (at_set views id j w u at_j))
    (λ (x : (i ≢ id) × (get_elem? views i ≡ some v)). ⊎_elim (λ (y : (j ≡ id) × (w ≡ u)). absurd (alone (subst (λ (z : View). HasTicket z t) (sym y.1) has_u) i v x.0 x.1 has_v))
    (λ (y : (j ≢ id) × (get_elem? views j ≡ some u)). once i j v u x.1 y.1 has_v has_u) (at_set views id j w u at_j)) (at_set views id i w v at_i)

-- a ticket is drawn
pub draw_ticket : (drawn served : ℕ) (views : List View) (id : ℕ) (v w : View) → TicketsAreOut drawn served views → get_elem? views id ≡ some v → HasNone v → HasTicket w drawn
    → TicketsAreOut (drawn + 1) served (set views id w)
draw_ticket drawn served views id v w h at none new = record {
  order = omega (arith, h.order);
  somewhere = λ t low high. dite (ℕ_discrete t drawn)
      (λ (e : t ≡ drawn). (id, w, set_there views id v w at, new ∙ ap (λ (n : ℕ). Some n) (sym e)))
      (λ (ne : t ≢ drawn). let x = h.somewhere t low (omega arith) in (x.0, x.1, set_else views id x.0 w (other_place views x.0 id x.1 v t x.2 at x.3 none) ∙ x.2, x.3));
  once = λ t. once_set views id w t
      (λ has j u other at_j has_u. let is = same_ticket w drawn t new has in let low = (h.no_other j u at_j t has_u).1 in omega (arith, is, low)) (h.once t);
  no_other = all_set (λ j (u : View). (t : ℕ) → HasTicket u t → (served ≤ t) × (t < drawn + 1)) views id w
      (λ t has. let is = same_ticket w drawn t new has in let o = h.order in (omega (arith, o, is), omega (arith, is)))
      (λ j u other e t has. let x = h.no_other j u e t has in (x.0, omega (arith, x.1)));
}

-- a view with no ticket becomes another such
pub keep_without : (drawn served : ℕ) (views : List View) (id : ℕ) (v w : View) → TicketsAreOut drawn served views → get_elem? views id ≡ some v → HasNone v → HasNone w
    → TicketsAreOut drawn served (set views id w)
keep_without drawn served views id v w h at none none_new = record {
  order = h.order;
  somewhere = λ t low high. let x = h.somewhere t low high in (x.0, x.1, set_else views id x.0 w (other_place views x.0 id x.1 v t x.2 at x.3 none) ∙ x.2, x.3);
  once = λ t. once_set views id w t (λ has. absurd (no_ticket w t none_new has)) (h.once t);
  no_other = all_set (λ j (u : View). (t : ℕ) → HasTicket u t → (served ≤ t) × (t < drawn)) views id w (λ t has. absurd (no_ticket w t none_new has)) (λ j u other e. h.no_other j u e);
}

-- a view keeps its ticket
pub keep_with : (drawn served : ℕ) (views : List View) (id : ℕ) (v w : View) (mine : ℕ) → TicketsAreOut drawn served views → get_elem? views id ≡ some v → HasTicket v mine → HasTicket w mine
    → TicketsAreOut drawn served (set views id w)
keep_with drawn served views id v w mine h at has has_new = record {
  order = h.order;
  somewhere = λ t low high. let x = h.somewhere t low high in dite (ℕ_discrete x.0 id)
      (λ (e : x.0 ≡ id). let same = same_ticket v t mine (subst (λ (u : View). HasTicket u t) (same_place views x.0 id x.1 v x.2 at e) x.3) has in
      (id, w, set_there views id v w at, has_new ∙ ap (λ (n : ℕ). Some n) (sym same)))
      (λ (ne : x.0 ≢ id). (x.0, x.1, set_else views id x.0 w ne ∙ x.2, x.3));
  once = λ t. once_set views id w t
      (λ has_t j u other at_j has_u. let same = same_ticket w mine t has_new has_t in other (h.once t j id u v at_j at has_u (has ∙ ap (λ (n : ℕ). Some n) same))) (h.once t);
  no_other = all_set (λ j (u : View). (t : ℕ) → HasTicket u t → (served ≤ t) × (t < drawn)) views id w
      (λ t has_t. let same = same_ticket w mine t has_new has_t in h.no_other id v at t (has ∙ ap (λ (n : ℕ). Some n) same)) (λ j u other e. h.no_other j u e);
}

-- the view whose turn it is gives its ticket up
pub end_turn : (drawn served : ℕ) (views : List View) (id : ℕ) (v w : View) → TicketsAreOut drawn served views → get_elem? views id ≡ some v → HasTicket v served → HasNone w
    → TicketsAreOut drawn (served + 1) (set views id w)
end_turn drawn served views id v w h at has none_new = record {
  order = let x = (h.no_other id v at served has).1 in omega (arith, x);
  somewhere = λ t low high. let x = h.somewhere t (omega arith) high in
      let not_here : x.0 ≢ id = λ e. let same = same_ticket v t served (subst (λ (u : View). HasTicket u t) (same_place views x.0 id x.1 v x.2 at e) x.3) has in omega (arith, same, low) in
      (x.0, x.1, set_else views id x.0 w not_here ∙ x.2, x.3);
  once = λ t. once_set views id w t (λ has_t. absurd (no_ticket w t none_new has_t)) (h.once t);
  no_other = all_set (λ j (u : View). (t : ℕ) → HasTicket u t → (served + 1 ≤ t) × (t < drawn)) views id w (λ t has_t. absurd (no_ticket w t none_new has_t))
      (λ j u other e t has_t. let x = h.no_other j u e t has_t in
      let apart : t ≢ served = λ same. other (h.once t j id u v e at has_t (has ∙ ap (λ (n : ℕ). Some n) (sym same))) in (omega (arith, x.0, apart), x.1));
}

-- one view more, without a ticket
pub one_more : (drawn served : ℕ) (views : List View) (w : View) → TicketsAreOut drawn served views → HasNone w → TicketsAreOut drawn served (views ++ w ∷ [])
one_more drawn served views w h none = record {
  order = h.order;
  somewhere = λ t low high. let x = h.somewhere t low high in (x.0, x.1, at_longer views (w ∷ []) x.0 x.1 x.2, x.3);
  once = λ t i j v u at_i at_j has_v has_u. h.once t i j v u (still t i v at_i has_v) (still t j u at_j has_u) has_v has_u;
  no_other = all_snoc (λ (u : View). (t : ℕ) → HasTicket u t → (served ≤ t) × (t < drawn)) views w (λ t has. absurd (no_ticket w t none has)) h.no_other;
}
  where
    still : (t i : ℕ) (v : View) → get_elem? (views ++ w ∷ []) i ≡ some v → HasTicket v t → get_elem? views i ≡ some v
    still t i v at has = ⊎_elim (λ (x : get_elem? views i ≡ some v). x) (λ (x : w ≡ v). absurd (no_ticket w t none (subst (λ (u : View). HasTicket u t) (sym x) has))) (at_snoc views w v i at)

-- ---- who is in turn

-- only the view with the ticket served is
pub only_turn : (drawn served : ℕ) (views : List View) (id : ℕ) (v : View) → TicketsAreOut drawn served views → TurnIsServed served views → get_elem? views id ≡ some v → HasTicket v served
    → (j : ℕ) (u : View) → get_elem? views j ≡ some u → IsInTurn u → j ≡ id
only_turn drawn served views id v h turn at has j u at_j is =
    h.once served j id u v at_j at (turn_ticket u is.0 is.1 ∙ ap (λ (n : ℕ). Some n) (turn j u at_j is.0 is.1)) has

-- a view in turn is not at the place of one that is not
pub not_here : (views : List View) (id : ℕ) (v : View) → get_elem? views id ≡ some v → (IsInTurn v → ⊥) → (j : ℕ) (u : View) → get_elem? views j ≡ some u → IsInTurn u → j ≢ id
not_here views id v at not j u at_j is same = not (subst IsInTurn (same_place views j id u v at_j at same) is)

pub idle_not_turn : (v : View) → v.stage ≡ Idle → IsInTurn v → ⊥
idle_not_turn v idle is = let clash : Idle ≡ InTurn is.0 = sym idle ∙ is.1 in cc

pub waiting_not_turn : (v : View) (t : ℕ) → v.stage ≡ Waiting t → IsInTurn v → ⊥
waiting_not_turn v t waiting is = let clash : Waiting t ≡ InTurn is.0 = sym waiting ∙ is.1 in cc
