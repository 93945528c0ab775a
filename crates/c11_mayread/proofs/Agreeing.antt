-- A graph that agrees with the events reaches what is reached in them.
use Rattle.std.proofs.Common.{◌≡◌, ℕ, ◌<◌, List, Option, Some, None, is_some, if◌then◌else◌, refl, sym, ap, ◌∙◌, subst, arith, ◌⊎◌, inl, inr}
use native.Mathlib.Decide.{ℕ_discrete}
use mathlib.Core.Logic.{dite}
use Rattle.c11_events.specs.declared.event.Event.{Event}
use Rattle.c11_events.specs.Closure.{one, join}
use Rattle.c11_events.specs.Events.{At, IsStore, IsRmw, ReadsEarlier, loaded_cell}
use Rattle.c11_events.specs.HappensBefore.{ReleaseSequence}
use Rattle.c11_events.specs.HappensBefore as sequence
use Rattle.c11_events.specs.Chains.{IsRanked, Link, Links, Reach}
use Rattle.c11_events.proofs.Basics.{at_same, chain_head, chain_store}
use Rattle.c11_events.proofs.Longer.{store_cell}
use Rattle.c11_events.proofs.Ranks.{ranked_same, kind_same}
use Rattle.c11_mograph.specs.Made as made
use Rattle.c11_mograph.specs.Made.{Store, Made, IsAdded, GoesOn, Chain, here, next, IsPair}
use Rattle.c11_mograph.specs.Words.{WellMade}
use Rattle.c11_mograph.proofs.Chains.{chain_same, rank_same}
use Rattle.c11_mayread.specs.Agreement.{after_of, IsStoreAs, Agrees}

after_some : (o : Option ℕ) (x y : ℕ) → (if is_some o then Some x else None) ≡ Some y → (d : ℕ) × ((o ≡ Some d) × (x ≡ y))
after_some None x y e = cc
after_some (Some d) x y e = (d, (refl, let same : x ≡ y = cc in same))

after_none : (o : Option ℕ) (x : ℕ) → (if is_some o then Some x else None) ≡ None → o ≡ None
after_none None x e = refl
after_none (Some d) x e = cc

pub after_is : (e : Event) (cell : ℕ) → loaded_cell e.kind ≡ Some cell → after_of e ≡ Some e.from
after_is e cell is = ap (λ (o : Option ℕ). if is_some o then Some e.from else None) is

pub after_no : (e : Event) → loaded_cell e.kind ≡ None → after_of e ≡ None
after_no e is = ap (λ (o : Option ℕ). if is_some o then Some e.from else None) is

-- stores and pairs are those of the events, as far as they go
pub record Within (m : Made) (events : List Event) : Type 0 where
  pub stores : (x : ℕ) (s : Store) → IsAdded m.stores x (λ t. t ≡ s) → At events x (λ e. IsStoreAs x e s)
  pub pairs : (a b : ℕ) → IsPair m.pairs a b → (cell : ℕ) × Reach events cell a b

module _ (m : Made) (events : List Event) (reads : ReadsEarlier events) (w : Within m events) where
  pub event_of : (x : ℕ) (P : Store → Type 0) → (t : IsAdded m.stores x P) → At events x (λ e. IsStoreAs x e t.store)
  event_of x P t = w.stores x t.store (record { place = t.place; store = t.store; is = t.is; number = t.number; holds = refl })

  pub goes_rmw : (b y : ℕ) → GoesOn m.stores b y → (cell : ℕ) × IsRmw events cell b y
  goes_rmw b y g =
      let t = event_of b (λ s. s.after ≡ Some y) g in
      let a = after_some (loaded_cell t.event.kind) t.event.from y (sym t.holds.after ∙ g.holds) in
      let same = kind_same t.event.kind g.store.cell a.0 t.holds.cell a.1.0 in
      (g.store.cell, record { event = t.event; is = t.is; holds = (t.holds.cell, a.1.0 ∙ ap (λ (k : ℕ). Some k) same, a.1.1) })

  rmw_at : (cell b y : ℕ) → IsStore events cell b → GoesOn m.stores b y → IsRmw events cell b y
  rmw_at cell b y s g =
      let r = goes_rmw b y g in
      let same = store_cell events b r.0 cell (record { event = r.1.event; is = r.1.is; holds = r.1.holds.0 }) s in
      subst (λ (k : ℕ). IsRmw events k b y) same r.1

  read_store : (cell b y : ℕ) → IsRmw events cell b y → IsStore events cell y
  read_store cell b y r = (reads cell b y (record { event = r.event; is = r.is; holds = (r.holds.1, r.holds.2) })).0

  pub chain_ranked : (cell h i x : ℕ) → Chain m.stores h i x → IsStore events cell x → IsRanked events cell h i x
  chain_ranked cell h _ _ (here t) s =
      let e = event_of h (λ u. u.after ≡ None) t in
      record { chain = sequence.here s; first = record { event = e.event; is = e.is; holds = after_none (loaded_cell e.event.kind) e.event.from (sym e.holds.after ∙ t.holds) } }
  chain_ranked cell h _ _ (next {rank = i} {y = y} {x = x} c g) s =
      let r = rmw_at cell x y s g in
      let rest = chain_ranked cell h i y c (read_store cell x y r) in
      record { chain = sequence.next rest.chain r; first = rest.first }

  chain_cell : (cell h i x : ℕ) → Chain m.stores h i x → IsStore events cell h → IsStore events cell x
  chain_cell cell h _ _ (here t) s = s
  chain_cell cell h _ _ (next {rank = i} {y = y} {x = x} c g) s =
      let r = goes_rmw x y g in
      let same = store_cell events y r.0 cell (read_store r.0 x y r.1) (chain_cell cell h i y c s) in
      subst (λ (k : ℕ). IsStore events k x) same (record { event = r.1.event; is = r.1.is; holds = r.1.holds.0 })

  links_of : (cell h k : ℕ) → made.Links m h k → IsStore events cell h → Links events cell h k × IsStore events cell k
  links_of cell h k (one l) s =
      let p = w.pairs l.a l.b l.pair in
      let r = p.1 in
      let sa = chain_cell cell h l.i l.a l.first s in
      let same = store_cell events l.a p.0 cell (chain_store events p.0 r.h r.i l.a r.first.chain) sa in
      let r' : Reach events cell l.a l.b = subst (λ (c : ℕ). Reach events c l.a l.b) same r in
      let sb = chain_store events cell r'.k r'.j l.b r'.second.chain in
      let ra = chain_ranked cell h l.i l.a l.first sa in
      let rb = chain_ranked cell k l.j l.b l.second sb in
      let heads = ranked_same events cell r'.h h r'.i l.i l.a r'.first ra in
      let tails = ranked_same events cell r'.k k r'.j l.j l.b r'.second rb in
      let links : Links events cell h k = elim r'.leads [
        | inl q ↦ subst (λ (z : ℕ). Links events cell z k) heads.0 (subst (λ (z : ℕ). Links events cell r'.h z) tails.0 q.1)
        | inr q ↦ absurd (l.differ (sym heads.0 ∙ (q.0 ∙ tails.0)))
      ] in
      (links, chain_head events cell k l.j l.b rb.chain)
  links_of cell h k (join {b = n} v u) s = let p = links_of cell h n v s in let q = links_of cell n k u p.1 in (join p.0 q.0, q.1)

  pub within_reach : (cell a b : ℕ) → made.Reach m a b → IsStore events cell a → Reach events cell a b
  within_reach cell a b r s =
      let ra = chain_ranked cell r.h r.i a r.first s in
      let sh = chain_head events cell r.h r.i a ra.chain in
      elim r.leads [
        | inl p ↦ (let l = links_of cell r.h r.k p.1 sh in
            record { h = r.h; k = r.k; i = r.i; j = r.j; first = ra; second = chain_ranked cell r.k r.j b r.second (chain_cell cell r.k r.j b r.second l.1); leads = inl (p.0, l.0) })
        | inr p ↦ record {
          h = r.h;
          k = r.k;
          i = r.i;
          j = r.j;
          first = ra;
          second = chain_ranked cell r.k r.j b r.second (chain_cell cell r.k r.j b r.second (subst (λ (z : ℕ). IsStore events cell z) p.0 sh));
          leads = inr p;
        }
      ]

module _ (m : Made) (events : List Event) (well : WellMade m) (agrees : Agrees m events) where
  pub added_as : (cell x : ℕ) → (s : IsStore events cell x) → IsAdded m.stores x (λ t. t ≡ record { cell = cell; number = x; thread = s.event.thread; after = after_of s.event })
  added_as cell x s = (agrees.stores x (record { cell = cell; number = x; thread = s.event.thread; after = after_of s.event })).1
      (record { event = s.event; is = s.is; holds = record { cell = s.holds; number = refl; thread = refl; after = refl } })

  pub added_of_cell : (cell x : ℕ) → IsStore events cell x → IsAdded m.stores x (λ t. t.cell ≡ cell)
  added_of_cell cell x s = let t = added_as cell x s in record { place = t.place; store = t.store; is = t.is; number = t.number; holds = ap (λ (u : Store). u.cell) t.holds }

  pub rmw_goes : (cell b y : ℕ) → IsRmw events cell b y → GoesOn m.stores b y
  rmw_goes cell b y r =
      let t = added_as cell b (record { event = r.event; is = r.is; holds = r.holds.0 }) in
      record { place = t.place; store = t.store; is = t.is; number = t.number; holds = ap (λ (u : Store). u.after) t.holds ∙ (after_is r.event cell r.holds.1 ∙ ap (λ (k : ℕ). Some k) r.holds.2) }

  sequence_chain : (cell h i x : ℕ) → At events h (λ e. loaded_cell e.kind ≡ None) → ReleaseSequence events cell h i x → Chain m.stores h i x
  sequence_chain cell h _ _ first (sequence.here s) =
      let t = added_as cell h s in
      let none = after_no s.event (ap (λ (e : Event). loaded_cell e.kind) (at_same events h s.event first.event s.is first.is) ∙ first.holds) in
      here (record { place = t.place; store = t.store; is = t.is; number = t.number; holds = ap (λ (u : Store). u.after) t.holds ∙ none })
  sequence_chain cell h _ _ first (sequence.next {n = i} {y = y} {x = x} c r) = next (sequence_chain cell h i y first c) (rmw_goes cell x y r)

  pub ranked_chain : (cell h i x : ℕ) → IsRanked events cell h i x → Chain m.stores h i x
  ranked_chain cell h i x r = sequence_chain cell h i x r.first r.chain

  link_made : (cell h k : ℕ) → Link events cell h k → made.Links m h k
  link_made cell h k l =
      let r = agrees.must cell l.a l.b l.must in
      let heads = chain_same m.stores well.rises r.h r.i h l.i l.a r.first (ranked_chain cell h l.i l.a l.first) in
      let tails = chain_same m.stores well.rises r.k r.j k l.j l.b r.second (ranked_chain cell k l.j l.b l.second) in
      elim r.leads [
        | inl p ↦ subst (λ (z : ℕ). made.Links m z k) heads.0 (subst (λ (z : ℕ). made.Links m r.h z) tails.0 p.1)
        | inr p ↦ absurd (l.differ (sym heads.0 ∙ (p.0 ∙ tails.0)))
      ]

  links_made : (cell h k : ℕ) → Links events cell h k → made.Links m h k
  links_made cell h k (one l) = link_made cell h k l
  links_made cell h k (join {b = n} v u) = join (links_made cell h n v) (links_made cell n k u)

  pub reach_made : (cell a b : ℕ) → Reach events cell a b → made.Reach m a b
  reach_made cell a b r = record {
    h = r.h;
    k = r.k;
    i = r.i;
    j = r.j;
    first = ranked_chain cell r.h r.i a r.first;
    second = ranked_chain cell r.k r.j b r.second;
    leads = elim r.leads [ inl p ↦ inl (p.0, links_made cell r.h r.k p.1) | inr p ↦ inr p ];
  }

  pub agrees_within : Within m events
  agrees_within = record { stores = λ x s. (agrees.stores x s).0; pairs = agrees.pairs }

-- what is reached among the stores of a graph
module _ (m : Made) (well : WellMade m) where
  abbrev Leads : ℕ → ℕ → ℕ → ℕ → Type 0
  Leads h k i j = ((h ≡ k → ⊥) × made.Links m h k) ⊎ ((h ≡ k) × (i < j))

  leads_join : (h k n i j l : ℕ) → Leads h k i j → Leads k n j l → Leads h n i l
  leads_join h k n i j l (inl p) (inl q) = let w : made.Links m h n = join p.1 q.1 in inl ((λ same. well.ordered.acyclic h (subst (λ (z : ℕ). made.Links m h z) (sym same) w)), w)
  leads_join h k n i j l (inl p) (inr q) = inl ((λ same. p.0 (same ∙ sym q.0)), subst (λ (z : ℕ). made.Links m h z) q.0 p.1)
  leads_join h k n i j l (inr p) (inl q) = inl ((λ same. q.0 (sym p.0 ∙ same)), subst (λ (z : ℕ). made.Links m z n) (sym p.0) q.1)
  leads_join h k n i j l (inr p) (inr q) = inr (p.0 ∙ q.0, omega (arith, p.1, q.1))

  pub made_join : (a b d : ℕ) → made.Reach m a b → made.Reach m b d → made.Reach m a d
  made_join a b d r s =
      let both = chain_same m.stores well.rises s.h s.i r.k r.j b s.first r.second in
      record {
        h = r.h;
        k = s.k;
        i = r.i;
        j = s.j;
        first = r.first;
        second = s.second;
        leads = leads_join r.h r.k s.k r.i r.j s.j r.leads (subst (λ (z : ℕ). Leads z s.k r.j s.j) both.0 (subst (λ (z : ℕ). Leads s.h s.k z s.j) both.1 s.leads));
      }

  pub pair_reach : (p x h i k j : ℕ) → IsPair m.pairs p x → (p ≡ x → ⊥) → Chain m.stores h i p → Chain m.stores k j x → made.Reach m p x
  pair_reach p x h i k j pair differ first second = record {
    h = h;
    k = k;
    i = i;
    j = j;
    first = first;
    second = second;
    leads = dite (ℕ_discrete h k)
        (λ (same : h ≡ k).
        let second' : Chain m.stores h j x = subst (λ (z : ℕ). Chain m.stores z j x) (sym same) second in
        let forward : j < i → ⊥ = well.ordered.ranked p x h i j pair first second' in
        let apart : i ≡ j → ⊥ = λ e. differ (rank_same m.stores well.rises well.once h j p x (subst (λ (z : ℕ). Chain m.stores h z p) e first) second') in
        inr (same, omega arith))
        (λ (other : h ≡ k → ⊥). inl (other, one (record { differ = other; a = p; b = x; i = i; j = j; first = first; second = second; pair = pair })));
  }

-- what is reached stays so where stores and pairs are added
pub reach_more : (m n : Made) → ((h i x : ℕ) → Chain m.stores h i x → Chain n.stores h i x) → ((a b : ℕ) → IsPair m.pairs a b → IsPair n.pairs a b)
    → (a b : ℕ) → made.Reach m a b → made.Reach n a b
reach_more m n chains pairs a b r = record {
  h = r.h;
  k = r.k;
  i = r.i;
  j = r.j;
  first = chains r.h r.i a r.first;
  second = chains r.k r.j b r.second;
  leads = elim r.leads [ inl p ↦ inl (p.0, links r.h r.k p.1) | inr p ↦ inr p ];
}
  where
    links : (h k : ℕ) → made.Links m h k → made.Links n h k
    links h k (one l) = one (record { differ = l.differ; a = l.a; b = l.b; i = l.i; j = l.j; first = chains h l.i l.a l.first; second = chains k l.j l.b l.second; pair = pairs l.a l.b l.pair })
    links h k (join {b = w} v u) = join (links h w v) (links w k u)
