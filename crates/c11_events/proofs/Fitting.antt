-- A further read keeps a list chain-lawful exactly where it fits.
use Rattle.std.proofs.Common.{◌≡◌, ℕ, suc, ◌<◌, ◌≤◌, List, [], ◌∷◌, ◌++◌, Some, None, length, refl, sym, ap, ◌∙◌, subst, arith, ◌⊎◌, inl, inr}
use Rattle.std.proofs.lemmas.List.{length-append}
use native.Mathlib.Decide.{ℕ_discrete, dec_lt}
use mathlib.Core.Logic.{dite}
use Rattle.c11_events.specs.declared.event.Event.{Event}
use Rattle.c11_events.specs.Closure.{Closure, one, join}
use Rattle.c11_events.specs.Events.{IsStore, IsLoad, IsRmw, ReadsEarlier, stored_cell, loaded_cell}
use Rattle.c11_events.specs.HappensBefore.{next}
use Rattle.c11_events.specs.HappensBefore.{HappensBefore, IsSeqCst}
use Rattle.c11_events.specs.Lawful.{SeqCstReads, IsLastSeqCst}
use Rattle.c11_events.specs.Chains.{IsRanked, MustPrecede, Link, Links, Reach, ChainLawful}
use Rattle.c11_events.specs.Priors.{Fits}
use Rattle.c11_events.specs.Laws.{ReadFits}
use Rattle.c11_events.proofs.Basics.{chain_head}
use Rattle.c11_events.proofs.DecideEvents.{at_below}
use Rattle.c11_events.proofs.Longer.{new_is, old_or_new, cause_below, store_cell}
use Rattle.c11_events.proofs.Prefix.{closure_map, same_less, store_more, store_less, load_less, rmw_more, rmw_less, chain_less, hb_less, seq_less, seq_before_more, seq_before_less}
use Rattle.c11_events.proofs.Prefixes.{must_less, ranked_more, link_more}
use Rattle.c11_events.proofs.Ranks.{placed, ranked_same, ranked_one, kind_same}

-- a way that may stay where it is
abbrev pub Stay : (ℕ → ℕ → Type 0) → ℕ → ℕ → Type 0
Stay R a b = (a ≡ b) ⊎ Closure R a b

stay_join : (R : ℕ → ℕ → Type 0) (a b c : ℕ) → Stay R a b → Stay R b c → Stay R a c
stay_join R a b c (inl e) w = subst (λ (z : ℕ). Stay R z c) (sym e) w
stay_join R a b c (inr v) (inl e) = inr (subst (λ (z : ℕ). Closure R a z) e v)
stay_join R a b c (inr v) (inr w) = inr (join v w)

-- a relation with further pairs, all to k and none from what k reaches
module _ (R S : ℕ → ℕ → Type 0) (k : ℕ) (step : (a b : ℕ) → S a b → R a b ⊎ ((k ≡ b) × (Stay R k a → ⊥))) where
  -- a way that takes a further pair
  abbrev Through : ℕ → ℕ → Type 0
  Through a b = (m : ℕ) × ((Stay R k m → ⊥) × (Stay R a m × Stay R k b))

  through_join : (a b c : ℕ) → Closure R a b ⊎ Through a b → Closure R b c ⊎ Through b c → Closure R a c ⊎ Through a c
  through_join a b c (inl v) (inl w) = inl (join v w)
  through_join a b c (inl v) (inr t) = inr (t.0, (t.1.0, (stay_join R a b t.0 (inr v) t.1.1.0, t.1.1.1)))
  through_join a b c (inr t) (inl w) = inr (t.0, (t.1.0, (t.1.1.0, stay_join R k b c t.1.1.1 (inr w))))
  through_join a b c (inr t) (inr u) = absurd (u.1.0 (stay_join R k b u.0 t.1.1.1 u.1.1.0))

  through : (a b : ℕ) → Closure S a b → Closure R a b ⊎ Through a b
  through a b (one s) = elim (step a b s) [ inl r ↦ inl (one r) | inr p ↦ inr (a, (p.1, (inl refl, inl p.0))) ]
  through a c (join {b = b} v w) = through_join a b c (through a b v) (through b c w)

  pub still_acyclic : ((a : ℕ) → Closure R a a → ⊥) → (a : ℕ) → Closure S a a → ⊥
  still_acyclic acyclic a w = elim (through a a w) [ inl v ↦ acyclic a v | inr t ↦ t.1.0 (stay_join R k a t.0 t.1.1.1 t.1.1.0) ]

module _ (events : List Event) (e : Event) (cell : ℕ) (c : ChainLawful events) (store : IsStore events cell e.from) (loads : loaded_cell e.kind ≡ Some cell) where
  pub load_cell : (d : ℕ) → loaded_cell e.kind ≡ Some d → cell ≡ d
  load_cell d is = let both : Some cell ≡ Some d = sym loads ∙ is in cc

  pub from_below : e.from < suc (length events)
  from_below = at_below events e.from (λ f. stored_cell f.kind ≡ Some cell) store

  pub new_load : IsLoad (events ++ e ∷ []) cell (suc (length events)) e.from
  new_load = record { event = e; is = new_is events e; holds = (loads, refl) }

  pub reads_all : ReadsEarlier (events ++ e ∷ [])
  reads_all d l y load = elim (old_or_new events e l (λ f. (loaded_cell f.kind ≡ Some d) × (f.from ≡ y)) load) [
    | inl le ↦ (let r = c.reads d l y (load_less events (e ∷ []) d l y le load) in (store_more events (e ∷ []) d y r.0, r.1))
    | inr p ↦ (let from : e.from ≡ y = p.1.1 in
        (store_more events (e ∷ []) d y (subst (λ (k : ℕ). IsStore events k y) (load_cell d p.1.0) (subst (λ (z : ℕ). IsStore events cell z) from store)), omega (arith, from_below, p.0)))
  ]

  pub first_old : (d a b : ℕ) → MustPrecede (events ++ e ∷ []) d a b → a ≤ length events
  first_old d a b m = omega (arith, cause_below (events ++ e ∷ []) d a b reads_all m.second m.cause, length-append events (e ∷ []))

  -- a pair whose second store is not read by the new event is an old pair
  pub must_old : (d a b : ℕ) → b ≤ length events → (b ≡ e.from → ⊥) → MustPrecede (events ++ e ∷ []) d a b → MustPrecede events d a b
  must_old d a b le differ m = must_less events (e ∷ []) reads_all d a b le
      (λ l load. elim (old_or_new events e l (λ f. (loaded_cell f.kind ≡ Some d) × (f.from ≡ b)) load) [ inl le' ↦ le' | inr p ↦ absurd (differ (sym p.1.1)) ]) m

  ranked_less : (d h i y : ℕ) → y ≤ length events → IsRanked (events ++ e ∷ []) d h i y → IsRanked events d h i y
  ranked_less d h i y le r =
      let chain = chain_less events (e ∷ []) reads_all d h i y le r.chain in
      record {
        chain = chain;
        first = same_less events (e ∷ []) h (λ f. loaded_cell f.kind ≡ None)
            (omega (arith, at_below events h (λ f. stored_cell f.kind ≡ Some d) (chain_head events d h i y chain))) r.first;
      }

  -- what the cell of a pair into the store that is read is
  pub read_cell : (d b : ℕ) → b ≡ e.from → IsStore events d b → d ≡ cell
  read_cell d b is s = store_cell events e.from d cell (subst (λ (z : ℕ). IsStore events d z) is s) store

  -- the chain of the store that is read
  abbrev mine : (h : ℕ) × ((i : ℕ) × IsRanked events cell h i e.from)
  mine = placed events cell c.reads e.from store

  -- a new event that stores is a read-modify-write at the end of that chain
  pub new_rmw : (d : ℕ) → stored_cell e.kind ≡ Some d → (d ≡ cell) → IsRmw (events ++ e ∷ []) cell (suc (length events)) e.from
  new_rmw d is same = record { event = e; is = new_is events e; holds = (is ∙ ap (λ (k : ℕ). Some k) same, loads, refl) }

  pub new_store_cell : (d : ℕ) → stored_cell e.kind ≡ Some d → d ≡ cell
  new_store_cell d is = sym (kind_same e.kind d cell is loads)

  ranked_new : (d h i : ℕ) → d ≡ cell → IsRanked (events ++ e ∷ []) d h i (suc (length events)) → stored_cell e.kind ≡ Some d → (mine.0 ≡ h) × (suc mine.1.0 ≡ i)
  ranked_new d h i same r is =
      let rx = ranked_more events (e ∷ []) cell mine.0 mine.1.0 e.from mine.1.1 in
      ranked_same (events ++ e ∷ []) cell mine.0 h (suc mine.1.0) i (suc (length events))
      (record { chain = next rx.chain (new_rmw d is same); first = rx.first }) (subst (λ (k : ℕ). IsRanked (events ++ e ∷ []) k h i (suc (length events))) same r)

  module _ (fits : Fits events e cell) where
    -- what must precede the store that is read is not reached from it
    no_stay : (a h i : ℕ) → IsRanked events cell h i a → (mine.0 ≡ h → ⊥) → (Reach events cell e.from a → ⊥) → Stay (Link events cell) mine.0 h → ⊥
    no_stay a h i r differ not_reached (inl same) = differ same
    no_stay a h i r differ not_reached (inr links) = not_reached (record { h = mine.0; k = h; i = mine.1.0; j = i; first = mine.1.1; second = r; leads = inl (differ, links) })

    link_step : (h k : ℕ) → Link (events ++ e ∷ []) cell h k → Link events cell h k ⊎ ((mine.0 ≡ k) × (Stay (Link events cell) mine.0 h → ⊥))
    link_step h k l =
        let a_old = first_old cell l.a l.b l.must in
        let ra = ranked_less cell h l.i l.a a_old l.first in
        elim (old_or_new events e l.b (λ f. stored_cell f.kind ≡ Some cell) l.must.second) [
          | inl le ↦ (
              let rb = ranked_less cell k l.j l.b le l.second in
              dite (ℕ_discrete l.b e.from)
              (λ (is : l.b ≡ e.from).
              let both = ranked_same events cell mine.0 k mine.1.0 l.j e.from mine.1.1 (subst (λ (z : ℕ). IsRanked events cell k l.j z) is rb) in
              inr (both.0, no_stay l.a h l.i ra (λ same. l.differ (sym same ∙ both.0)) (fits.prior_read l.a (subst (λ (z : ℕ). MustPrecede (events ++ e ∷ []) cell l.a z) is l.must))))
              (λ (other : l.b ≡ e.from → ⊥).
              inl (record { differ = l.differ; a = l.a; b = l.b; i = l.i; j = l.j; first = ra; second = rb; must = must_old cell l.a l.b le other l.must })))
          | inr p ↦ (
              let both = ranked_new cell k l.j refl (subst (λ (z : ℕ). IsRanked (events ++ e ∷ []) cell k l.j z) p.0 l.second) p.1 in
              let differ : mine.0 ≡ h → ⊥ = λ same. l.differ (sym same ∙ both.0) in
              let apart : l.a ≡ e.from → ⊥ = λ same. differ (ranked_same events cell mine.0 h mine.1.0 l.i e.from mine.1.1 (subst (λ (z : ℕ). IsRanked events cell h l.i z) same ra)).0 in
              inr (both.0, no_stay l.a h l.i ra differ (fits.prior_write l.a apart (subst (λ (z : ℕ). MustPrecede (events ++ e ∷ []) cell l.a z) p.0 l.must))))
        ]

    -- in other cells nothing is new
    link_other : (d h k : ℕ) → (d ≡ cell → ⊥) → Link (events ++ e ∷ []) d h k → Link events d h k
    link_other d h k differ l =
        let a_old = first_old d l.a l.b l.must in
        let b_old : l.b ≤ length events = elim (old_or_new events e l.b (λ f. stored_cell f.kind ≡ Some d) l.must.second) [ inl le ↦ le | inr p ↦ absurd (differ (new_store_cell d p.1)) ] in
        let apart : l.b ≡ e.from → ⊥ = λ is. differ (read_cell d l.b is (store_less events (e ∷ []) d l.b b_old l.must.second)) in
        record { differ = l.differ; a = l.a; b = l.b; i = l.i; j = l.j; first = ranked_less d h l.i l.a a_old l.first; second = ranked_less d k l.j l.b b_old l.second; must = must_old d l.a l.b b_old apart l.must }

    acyclic_all : (d h : ℕ) → Links (events ++ e ∷ []) d h h → ⊥
    acyclic_all d h w = dite (ℕ_discrete d cell)
        (λ (same : d ≡ cell). still_acyclic (Link events cell) (Link (events ++ e ∷ []) cell) mine.0 link_step (c.acyclic cell) h (subst (λ (k : ℕ). Links (events ++ e ∷ []) k h h) same w))
        (λ (differ : d ≡ cell → ⊥). c.acyclic d h (closure_map (Link (events ++ e ∷ []) d) (Link events d) (λ a b l. link_other d a b differ l) h h w))

    ranked_all : (d a b h i j : ℕ) → MustPrecede (events ++ e ∷ []) d a b → IsRanked (events ++ e ∷ []) d h i a → IsRanked (events ++ e ∷ []) d h j b → j < i → ⊥
    ranked_all d a b h i j m r s lt =
        let a_old = first_old d a b m in
        let ra = ranked_less d h i a a_old r in
        elim (old_or_new events e b (λ f. stored_cell f.kind ≡ Some d) m.second) [
          | inl le ↦ (
              let rb = ranked_less d h j b le s in
              dite (ℕ_discrete b e.from)
              (λ (is : b ≡ e.from).
              let same = read_cell d b is (store_less events (e ∷ []) d b le m.second) in
              fits.prior_read a (subst (λ (k : ℕ). MustPrecede (events ++ e ∷ []) k a e.from) same (subst (λ (z : ℕ). MustPrecede (events ++ e ∷ []) d a z) is m))
              (record {
                h = h;
                k = h;
                i = j;
                j = i;
                first = subst (λ (k : ℕ). IsRanked events k h j e.from) same (subst (λ (z : ℕ). IsRanked events d h j z) is rb);
                second = subst (λ (k : ℕ). IsRanked events k h i a) same ra;
                leads = inr (refl, lt);
              }))
              (λ (other : b ≡ e.from → ⊥). c.ranked d a b h i j (must_old d a b le other m) ra rb lt))
          | inr p ↦ (
              let same = new_store_cell d p.1 in
              let both = ranked_new d h j same (subst (λ (z : ℕ). IsRanked (events ++ e ∷ []) d h j z) p.0 s) p.1 in
              let ra' : IsRanked events cell mine.0 i a = subst (λ (z : ℕ). IsRanked events cell z i a) (sym both.0) (subst (λ (k : ℕ). IsRanked events k h i a) same ra) in
              let apart : a ≡ e.from → ⊥ = λ is. omega (arith, both.1, (ranked_same events cell mine.0 mine.0 mine.1.0 i e.from mine.1.1 (subst (λ (z : ℕ). IsRanked events cell mine.0 i z) is ra')).1) in
              fits.prior_write a apart (subst (λ (k : ℕ). MustPrecede (events ++ e ∷ []) k a (suc (length events))) same (subst (λ (z : ℕ). MustPrecede (events ++ e ∷ []) d a z) p.0 m))
              (record { h = mine.0; k = mine.0; i = mine.1.0; j = i; first = mine.1.1; second = ra'; leads = inr (refl, omega (arith, both.1)) }))
        ]

    -- a store that the new event and an older one read
    twice : (d b x : ℕ) → IsRmw (events ++ e ∷ []) d b x → b ≤ length events → (stored_cell e.kind ≡ Some d) → e.from ≡ x → ⊥
    twice d b x r le is from =
        let same = new_store_cell d is in
        fits.ends_chain (new_rmw d is same) b (subst (λ (z : ℕ). IsRmw events cell b z) (sym from) (subst (λ (k : ℕ). IsRmw events k b x) same (rmw_less events (e ∷ []) d b x le r)))

    once_all : (d a b x : ℕ) → IsRmw (events ++ e ∷ []) d a x → IsRmw (events ++ e ∷ []) d b x → a ≡ b
    once_all d a b x r s = elim (old_or_new events e a (λ f. (stored_cell f.kind ≡ Some d) × (loaded_cell f.kind ≡ Some d) × (f.from ≡ x)) r) [
      | inl le ↦ elim (old_or_new events e b (λ f. (stored_cell f.kind ≡ Some d) × (loaded_cell f.kind ≡ Some d) × (f.from ≡ x)) s) [
        | inl le' ↦ c.once d a b x (rmw_less events (e ∷ []) d a x le r) (rmw_less events (e ∷ []) d b x le' s)
        | inr p ↦ absurd (twice d a x r le p.1.0 p.1.2)
      ]
      | inr p ↦ elim (old_or_new events e b (λ f. (stored_cell f.kind ≡ Some d) × (loaded_cell f.kind ≡ Some d) × (f.from ≡ x)) s) [
        | inl le' ↦ absurd (twice d b x s le' p.1.0 p.1.2)
        | inr q ↦ p.0 ∙ sym q.0
      ]
    ]

    seq_old : (d l x a : ℕ) → l ≤ length events → IsLoad (events ++ e ∷ []) d l x → IsLastSeqCst (events ++ e ∷ []) d l a → (x ≡ a) ⊎ ((IsSeqCst (events ++ e ∷ []) x → ⊥) × (HappensBefore (events ++ e ∷ []) x a → ⊥))
    seq_old d l x a le load s =
        let load' = load_less events (e ∷ []) d l x le load in
        let below : a ≤ length events = omega (arith, s.before.earlier) in
        let s' : IsLastSeqCst events d l a = record {
          store = store_less events (e ∷ []) d a below s.store;
          before = seq_before_less events (e ∷ []) a l le s.before;
          last = λ b sb t. s.last b (store_more events (e ∷ []) d b sb) (seq_before_more events (e ∷ []) b l t);
        } in
        elim (c.seq_cst_read d l x a load' s') [
          | inl is ↦ inl is
          | inr n ↦ inr ((λ t. n.0 (seq_less events (e ∷ []) x (let r = c.reads d l x load' in omega (arith, r.1)) t)), (λ h. n.1 (hb_less events (e ∷ []) reads_all x a below h)))
        ]

    seq_all : (d : ℕ) → SeqCstReads (events ++ e ∷ []) d
    seq_all d l x a load s = elim (old_or_new events e l (λ f. (loaded_cell f.kind ≡ Some d) × (f.from ≡ x)) load) [
      | inl le ↦ seq_old d l x a le load s
      | inr p ↦ subst (λ (z : ℕ). (z ≡ a) ⊎ ((IsSeqCst (events ++ e ∷ []) z → ⊥) × (HappensBefore (events ++ e ∷ []) z a → ⊥))) p.1.1
          (fits.seq_cst_read a (subst (λ (k : ℕ). IsLastSeqCst (events ++ e ∷ []) k (suc (length events)) a) (sym (load_cell d p.1.0)) (subst (λ (k : ℕ). IsLastSeqCst (events ++ e ∷ []) d k a) p.0 s)))
    ]

    pub fits_lawful : ChainLawful (events ++ e ∷ [])
    fits_lawful = record { reads = reads_all; acyclic = acyclic_all; ranked = ranked_all; once = once_all; seq_cst_read = seq_all }

  module _ (all : ChainLawful (events ++ e ∷ [])) where
    more_links : (h k : ℕ) → Links events cell h k → Links (events ++ e ∷ []) cell h k
    more_links h k w = closure_map (Link events cell) (Link (events ++ e ∷ []) cell) (link_more events (e ∷ []) cell) h k w

    more_ranked : (h i x : ℕ) → IsRanked events cell h i x → IsRanked (events ++ e ∷ []) cell h i x
    more_ranked h i x r = ranked_more events (e ∷ []) cell h i x r

    not_reached : (a : ℕ) → MustPrecede (events ++ e ∷ []) cell a e.from → Reach events cell e.from a → ⊥
    not_reached a m r = elim r.leads [
      | inl p ↦ all.acyclic cell r.h (join (more_links r.h r.k p.1) (one (record {
        differ = λ same. p.0 (sym same);
        a = a;
        b = e.from;
        i = r.j;
        j = r.i;
        first = more_ranked r.k r.j a r.second;
        second = more_ranked r.h r.i e.from r.first;
        must = m;
      })))
      | inr p ↦ all.ranked cell a e.from r.k r.j r.i m (more_ranked r.k r.j a r.second) (subst (λ (z : ℕ). IsRanked (events ++ e ∷ []) cell z r.i e.from) p.0 (more_ranked r.h r.i e.from r.first)) p.1
    ]

    not_written : (a : ℕ) → MustPrecede (events ++ e ∷ []) cell a (suc (length events)) → Reach events cell e.from a → ⊥
    not_written a m r =
        let is : stored_cell e.kind ≡ Some cell = elim (old_or_new events e (suc (length events)) (λ f. stored_cell f.kind ≡ Some cell) m.second) [ inl le ↦ absurd (omega arith) | inr p ↦ p.1 ] in
        let rx = more_ranked r.h r.i e.from r.first in
        let rn : IsRanked (events ++ e ∷ []) cell r.h (suc r.i) (suc (length events)) = record { chain = next rx.chain (new_rmw cell is refl); first = rx.first } in
        let ra = more_ranked r.k r.j a r.second in
        elim r.leads [
          | inl p ↦ all.acyclic cell r.h (join (more_links r.h r.k p.1) (one (record { differ = λ same. p.0 (sym same); a = a; b = suc (length events); i = r.j; j = suc r.i; first = ra; second = rn; must = m })))
          | inr p ↦ (
              let ra' : IsRanked (events ++ e ∷ []) cell r.h r.j a = subst (λ (z : ℕ). IsRanked (events ++ e ∷ []) cell z r.j a) (sym p.0) ra in
              dite (dec_lt (suc r.i) r.j) (λ (lt : suc r.i < r.j). all.ranked cell a (suc (length events)) r.h r.j (suc r.i) m ra' rn lt)
              (λ (no' : suc r.i < r.j → ⊥).
              let same : r.j ≡ suc r.i = omega (arith, p.1) in
              m.differ (ranked_one (events ++ e ∷ []) cell (all.once cell) r.h (suc r.i) a (suc (length events)) (subst (λ (z : ℕ). IsRanked (events ++ e ∷ []) cell r.h z a) same ra') rn)))
        ]

    pub lawful_fits : Fits events e cell
    lawful_fits = record {
      prior_read = not_reached;
      prior_write = λ a differ m. not_written a m;
      ends_chain = λ r b s. let le = at_below events b (λ f. (stored_cell f.kind ≡ Some cell) × (loaded_cell f.kind ≡ Some cell) × (f.from ≡ e.from)) s in
          let same = all.once cell (suc (length events)) b e.from r (rmw_more events (e ∷ []) cell b e.from s) in omega (arith, same);
      seq_cst_read = λ a s. all.seq_cst_read cell (suc (length events)) e.from a new_load s;
    }

pub read_fits : ReadFits
read_fits events e cell c store loads = (lawful_fits events e cell c store loads, fits_lawful events e cell c store loads)
