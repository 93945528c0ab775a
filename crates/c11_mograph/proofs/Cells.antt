-- Chains and links are of one cell; to reach is transitive.
use Rattle.std.proofs.Common.{◌≡◌, ℕ, ◌<◌, List, None, sym, ap, ◌∙◌, subst, refl, arith, ◌⊎◌, inl, inr}
use native.Mathlib.Decide.{ℕ_discrete}
use mathlib.Core.Logic.{dite}
use Rattle.c11_events.specs.Closure.{one, join}
use Rattle.c11_mograph.specs.Made.{Store, Made, IsAdded, Chain, here, next, IsPair, Link, Links, Reach}
use Rattle.c11_mograph.specs.Words.{WellMade}
use Rattle.c11_mograph.specs.Clocks.{AreOfCell}
use Rattle.c11_mograph.proofs.Chains.{Rises, same_store, chain_head, chain_same, rank_same}

module _ (stores : List Store) (rises : Rises stores) where
  pub cell_same : (a : ℕ) (P : Store → Type 0) → IsAdded stores a P → AreOfCell stores a a
  cell_same a P t = record { place = t.place; store = t.store; is = t.is; number = t.number; holds = record { place = t.place; store = t.store; is = t.is; number = t.number; holds = refl } }

  pub cell_back : (a b : ℕ) → AreOfCell stores a b → AreOfCell stores b a
  cell_back a b t = record {
    place = t.holds.place;
    store = t.holds.store;
    is = t.holds.is;
    number = t.holds.number;
    holds = record { place = t.place; store = t.store; is = t.is; number = t.number; holds = sym t.holds.holds };
  }

  pub cell_join : (a b d : ℕ) → AreOfCell stores a b → AreOfCell stores b d → AreOfCell stores a d
  cell_join a b d t u =
      let same : t.holds.store ≡ u.store = same_store stores rises b (λ v. t.store.cell ≡ v.cell) (λ v. IsAdded stores d (λ w. v.cell ≡ w.cell)) t.holds u in
      record {
        place = t.place;
        store = t.store;
        is = t.is;
        number = t.number;
        holds = record { place = u.holds.place; store = u.holds.store; is = u.holds.is; number = u.holds.number; holds = t.holds.holds ∙ (ap (λ (v : Store). v.cell) same ∙ u.holds.holds) };
      }

-- links lead to heads
pub links_head : (made : Made) (h k : ℕ) → Links made h k → IsAdded made.stores k (λ s. s.after ≡ None)
links_head made h k (one l) = chain_head made.stores k l.j l.b l.second
links_head made h k (join {b = m} v w) = links_head made m k w

module _ (made : Made) (well : WellMade made) where
  -- a chain is of one cell
  pub chain_cell : (h i a : ℕ) → Chain made.stores h i a → AreOfCell made.stores h a
  chain_cell h _ _ (here t) = cell_same made.stores well.rises h (λ s. s.after ≡ None) t
  chain_cell h _ _ (next {rank = r} {y = y} {x = x} c g) = cell_join made.stores well.rises h y x (chain_cell h r y c) (cell_back made.stores well.rises x y (well.of_cell x y g))

  pub link_cell : (h k : ℕ) → Link made h k → AreOfCell made.stores h k
  link_cell h k l = cell_join made.stores well.rises h l.a k (chain_cell h l.i l.a l.first)
      (cell_join made.stores well.rises l.a l.b k (well.paired l.a l.b l.pair) (cell_back made.stores well.rises k l.b (chain_cell k l.j l.b l.second)))

  pub links_cell : (h k : ℕ) → Links made h k → AreOfCell made.stores h k
  links_cell h k (one l) = link_cell h k l
  links_cell h k (join {b = m} v w) = cell_join made.stores well.rises h m k (links_cell h m v) (links_cell m k w)

  pub reach_cell : (a b : ℕ) → Reach made a b → AreOfCell made.stores a b
  reach_cell a b r =
      let left = cell_back made.stores well.rises r.h a (chain_cell r.h r.i a r.first) in
      let right = chain_cell r.k r.j b r.second in
      elim r.leads [
        | inl p ↦ cell_join made.stores well.rises a r.h b left (cell_join made.stores well.rises r.h r.k b (links_cell r.h r.k p.1) right)
        | inr p ↦ cell_join made.stores well.rises a r.h b left (subst (λ (z : ℕ). AreOfCell made.stores z b) (sym p.0) right)
      ]

  abbrev Leads : ℕ → ℕ → ℕ → ℕ → Type 0
  Leads h k i j = ((h ≡ k → ⊥) × Links made h k) ⊎ ((h ≡ k) × (i < j))

  leads_join : (h k m i j n : ℕ) → Leads h k i j → Leads k m j n → Leads h m i n
  leads_join h k m i j n (inl p) (inl q) = let w : Links made h m = join p.1 q.1 in inl ((λ same. well.ordered.acyclic h (subst (λ (z : ℕ). Links made h z) (sym same) w)), w)
  leads_join h k m i j n (inl p) (inr q) = inl ((λ same. p.0 (same ∙ sym q.0)), subst (λ (z : ℕ). Links made h z) q.0 p.1)
  leads_join h k m i j n (inr p) (inl q) = inl ((λ same. q.0 (sym p.0 ∙ same)), subst (λ (z : ℕ). Links made z m) (sym p.0) q.1)
  leads_join h k m i j n (inr p) (inr q) = inr (p.0 ∙ q.0, omega (arith, p.1, q.1))

  pub reach_join : (a b d : ℕ) → Reach made a b → Reach made b d → Reach made a d
  reach_join a b d r s =
      let both = chain_same made.stores well.rises s.h s.i r.k r.j b s.first r.second in
      record {
        h = r.h;
        k = s.k;
        i = r.i;
        j = s.j;
        first = r.first;
        second = s.second;
        leads = leads_join r.h r.k s.k r.i r.j s.j r.leads (subst (λ (z : ℕ). Leads z s.k r.j s.j) both.0 (subst (λ (z : ℕ). Leads s.h s.k z s.j) both.1 s.leads));
      }

  -- the members of a pair of different stores are reached one from the other
  pub pair_reach : (a b h k i j : ℕ) → IsPair made.pairs a b → (a ≡ b → ⊥) → Chain made.stores h i a → Chain made.stores k j b → Reach made a b
  pair_reach a b h k i j pair other first second = record {
    h = h;
    k = k;
    i = i;
    j = j;
    first = first;
    second = second;
    leads = dite (ℕ_discrete h k)
        (λ (same : h ≡ k).
        let here_b : Chain made.stores h j b = subst (λ (z : ℕ). Chain made.stores z j b) (sym same) second in
        let forward : j < i → ⊥ = well.ordered.ranked a b h i j pair first here_b in
        let differ : i ≡ j → ⊥ = λ e. other (rank_same made.stores well.rises well.once h i a b first (subst (λ (z : ℕ). Chain made.stores h z b) (sym e) here_b)) in
        inr (same, omega arith))
        (λ (differ : h ≡ k → ⊥). inl (differ, one (record { differ = differ; a = a; b = b; i = i; j = j; first = first; second = second; pair = pair })));
  }
