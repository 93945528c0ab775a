-- An event that reads nothing keeps a list chain-lawful.
use Rattle.std.proofs.Common.{◌≡◌, ℕ, suc, ◌<◌, ◌≤◌, List, [], ◌∷◌, ◌++◌, Some, None, length, sym, ◌∙◌, subst, arith, ◌⊎◌, inl, inr}
use Rattle.std.proofs.lemmas.List.{length-append}
use Rattle.c11_events.specs.declared.event.Event.{Event}
use Rattle.c11_events.specs.Events.{IsLoad, IsRmw, ReadsEarlier, stored_cell, loaded_cell}
use Rattle.c11_events.specs.HappensBefore.{here}
use Rattle.c11_events.specs.Lawful.{SeqCstReads, IsLastSeqCst}
use Rattle.c11_events.specs.Chains.{IsRanked, MustPrecede, Link, ChainLawful}
use Rattle.c11_events.specs.Laws.{OthersFit}
use Rattle.c11_events.proofs.Basics.{chain_head}
use Rattle.c11_events.proofs.DecideEvents.{at_below}
use Rattle.c11_events.proofs.Fitting.{Stay, still_acyclic}
use Rattle.c11_events.proofs.Level.{head_below, links_from}
use Rattle.c11_events.proofs.Longer.{new_is, old_or_new, cause_below}
use Rattle.c11_events.proofs.Prefix.{same_less, store_more, store_less, load_less, rmw_less, chain_less, hb_less, seq_less, seq_before_more, seq_before_less}
use Rattle.c11_events.proofs.Prefixes.{must_less}
use Rattle.c11_events.proofs.Ranks.{ranked_same}
use Rattle.c11_events.proofs.Rises.{rmw_load}

module _ (events : List Event) (e : Event) (c : ChainLawful events) (none : loaded_cell e.kind ≡ None) where
  pub load_old : (d l y : ℕ) → IsLoad (events ++ e ∷ []) d l y → l ≤ length events
  load_old d l y load = elim (old_or_new events e l (λ f. (loaded_cell f.kind ≡ Some d) × (f.from ≡ y)) load) [
    | inl le ↦ le
    | inr p ↦ (let clash : None ≡ Some d = sym none ∙ p.1.0 in cc)
  ]

  pub reads_all : ReadsEarlier (events ++ e ∷ [])
  reads_all d l y load = let r = c.reads d l y (load_less events (e ∷ []) d l y (load_old d l y load) load) in (store_more events (e ∷ []) d y r.0, r.1)

  pub first_old : (d a b : ℕ) → MustPrecede (events ++ e ∷ []) d a b → a ≤ length events
  first_old d a b m = omega (arith, cause_below (events ++ e ∷ []) d a b reads_all m.second m.cause, length-append events (e ∷ []))

  ranked_less : (d h i y : ℕ) → y ≤ length events → IsRanked (events ++ e ∷ []) d h i y → IsRanked events d h i y
  ranked_less d h i y le r =
      let chain = chain_less events (e ∷ []) reads_all d h i y le r.chain in
      record {
        chain = chain;
        first = same_less events (e ∷ []) h (λ f. loaded_cell f.kind ≡ None)
            (omega (arith, at_below events h (λ f. stored_cell f.kind ≡ Some d) (chain_head events d h i y chain))) r.first;
      }

  -- the new event begins a chain
  ranked_new : (d h i : ℕ) → IsRanked (events ++ e ∷ []) d h i (suc (length events)) → stored_cell e.kind ≡ Some d → (suc (length events) ≡ h) × (0 ≡ i)
  ranked_new d h i r is = ranked_same (events ++ e ∷ []) d (suc (length events)) h 0 i (suc (length events))
      (record { chain = here (record { event = e; is = new_is events e; holds = is }); first = record { event = e; is = new_is events e; holds = none } }) r

  link_step : (d h k : ℕ) → Link (events ++ e ∷ []) d h k → Link events d h k ⊎ ((suc (length events) ≡ k) × (Stay (Link events d) (suc (length events)) h → ⊥))
  link_step d h k l =
      let ra = ranked_less d h l.i l.a (first_old d l.a l.b l.must) l.first in
      elim (old_or_new events e l.b (λ f. stored_cell f.kind ≡ Some d) l.must.second) [
        | inl le ↦ inl (record {
          differ = l.differ;
          a = l.a;
          b = l.b;
          i = l.i;
          j = l.j;
          first = ra;
          second = ranked_less d k l.j l.b le l.second;
          must = must_less events (e ∷ []) reads_all d l.a l.b le (λ n load. load_old d n l.b load) l.must;
        })
        | inr p ↦ ((inr (
          (ranked_new d k l.j (subst (λ (z : ℕ). IsRanked (events ++ e ∷ []) d k l.j z) p.0 l.second) p.1).0,
          (λ s. elim s [
            | inl same ↦ omega (arith, same, head_below events d h l.i l.a ra)
            | inr links ↦ omega (arith, head_below events d (suc (length events)) 0 (suc (length events)) (links_from events d (suc (length events)) h links))
          ]),
        )))
      ]

  ranked_all : (d a b h i j : ℕ) → MustPrecede (events ++ e ∷ []) d a b → IsRanked (events ++ e ∷ []) d h i a → IsRanked (events ++ e ∷ []) d h j b → j < i → ⊥
  ranked_all d a b h i j m r s lt =
      let ra = ranked_less d h i a (first_old d a b m) r in
      elim (old_or_new events e b (λ f. stored_cell f.kind ≡ Some d) m.second) [
        | inl le ↦ c.ranked d a b h i j (must_less events (e ∷ []) reads_all d a b le (λ n load. load_old d n b load) m) ra (ranked_less d h j b le s) lt
        | inr p ↦ omega (arith, (ranked_new d h j (subst (λ (z : ℕ). IsRanked (events ++ e ∷ []) d h j z) p.0 s) p.1).0, head_below events d h i a ra)
      ]

  rmw_old : (d b x : ℕ) → IsRmw (events ++ e ∷ []) d b x → IsRmw events d b x
  rmw_old d b x r = rmw_less events (e ∷ []) d b x (load_old d b x (rmw_load (events ++ e ∷ []) d b x r)) r

  seq_all : (d : ℕ) → SeqCstReads (events ++ e ∷ []) d
  seq_all d l x a load s =
      let le = load_old d l x load in
      let load' = load_less events (e ∷ []) d l x le load in
      let below : a ≤ length events = omega (arith, s.before.earlier) in
      let s' : IsLastSeqCst events d l a = record {
        store = store_less events (e ∷ []) d a below s.store;
        before = seq_before_less events (e ∷ []) a l le s.before;
        last = λ b sb t. s.last b (store_more events (e ∷ []) d b sb) (seq_before_more events (e ∷ []) b l t);
      } in
      elim (c.seq_cst_read d l x a load' s') [
        | inl is ↦ inl is
        | inr n ↦ inr ((λ t. n.0 (seq_less events (e ∷ []) x (let r = c.reads d l x load' in omega (arith, r.1)) t)), (λ h. n.1 (hb_less events (e ∷ []) reads_all x a below h)))
      ]

  pub other_lawful : ChainLawful (events ++ e ∷ [])
  other_lawful = record {
    reads = reads_all;
    acyclic = λ d. still_acyclic (Link events d) (Link (events ++ e ∷ []) d) (suc (length events)) (link_step d) (c.acyclic d);
    ranked = ranked_all;
    once = λ d a b x r s. c.once d a b x (rmw_old d a x r) (rmw_old d b x s);
    seq_cst_read = seq_all;
  }

pub others_fit : OthersFit
others_fit events e c none = other_lawful events e c none
