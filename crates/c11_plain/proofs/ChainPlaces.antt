-- Places in chains, by the store that a load reads.
use Rattle.std.proofs.Common.{◌≡◌, ℕ, ◌+◌, ◌<◌, add-one, List, Option, Some, None, Bool, IsTrue, ◌↔◌, refl, sym, ap, ◌∙◌, subst, arith}
use Rattle.c11_events.specs.declared.event.Event.{Event}
use Rattle.c11_events.specs.Events.{At, IsStore, IsLoad, loaded_cell}
use Rattle.c11_events.specs.HappensBefore.{here, next}
use Rattle.c11_events.specs.Chains.{IsRanked}
use Rattle.c11_events.proofs.Basics.{chain_store}
use Rattle.c11_events.proofs.Ranks.{kind_same, ranked_same}
use Rattle.c11_plain.specs.declared.ranks.Rank.{Rank}
use Rattle.c11_plain.specs.ChainParts.{HasRank, InChain, KeepsRank}
use Rattle.c11_plain.proofs.Numbers.{rmw_of}

module _ (events : List Event) (cell : ℕ) where
  no_load : (x : ℕ) (s : IsStore events cell x) (o : Option ℕ) → loaded_cell s.event.kind ≡ o → ((z : ℕ) → IsLoad events cell x z → ⊥) → At events x (λ e. loaded_cell e.kind ≡ None)
  no_load x s None e none = record { event = s.event; is = s.is; holds = e }
  no_load x s (Some d) e none =
      let same : d ≡ cell = kind_same s.event.kind cell d s.holds e in
      absurd (none s.event.from (record { event = s.event; is = s.is; holds = (e ∙ ap (λ (c : ℕ). Some c) same, refl) }))

  pub rank_head : (x : ℕ) → IsStore events cell x → ((z : ℕ) → IsLoad events cell x z → ⊥) → IsRanked events cell x 0 x
  rank_head x s none = record { chain = here s; first = no_load x s (loaded_cell s.event.kind) refl none }

  pub rank_next : (h i y x : ℕ) → IsRanked events cell h i y → IsStore events cell x → IsLoad events cell x y → IsRanked events cell h (i + 1) x
  rank_next h i y x r s l = rw add-one (record { chain = next r.chain (rmw_of events cell x y s l); first = r.first })

  pub ranked_store : (h i x : ℕ) → IsRanked events cell h i x → IsStore events cell x
  ranked_store h i x r = chain_store events cell h i x r.chain

  pub chain_test : (x h : ℕ) (r : Rank) (b : Bool) → HasRank events cell x r → (IsTrue b ↔ (r.head ≡ h)) → IsTrue b ↔ InChain events cell h x
  chain_test x h r b has test = (
    λ t. record { rank = r.rank; ranked = subst (λ (z : ℕ). IsRanked events cell z r.rank x) (test.0 t) has.ranked },
    λ k. test.1 (ranked_same events cell r.head h r.rank k.rank x has.ranked k.ranked).0,
  )

  pub keeps_test : (a b : ℕ) (r s : Rank) (t : Bool) → HasRank events cell a r → HasRank events cell b s → (IsTrue t ↔ (r.head ≡ s.head → s.rank < r.rank → ⊥)) → IsTrue t ↔ KeepsRank events cell a b
  keeps_test a b r s t ra rb test = (
    λ h. record {
      keeps = λ head i j ia jb lt.
          let p = ranked_same events cell r.head head r.rank i a ra.ranked ia in
          let q = ranked_same events cell s.head head s.rank j b rb.ranked jb in
          test.0 h (p.0 ∙ sym q.0) (omega (arith, p.1, q.1));
    },
    λ k. test.1 (λ same lt. k.keeps r.head r.rank s.rank ra.ranked (subst (λ (z : ℕ). IsRanked events cell z s.rank b) (sym same) rb.ranked) lt),
  )

  pub keeps_first : (a b : ℕ) → (IsStore events cell a → ⊥) → KeepsRank events cell a b
  keeps_first a b none = record { keeps = λ head i j ia jb lt. none (ranked_store head i a ia) }

  pub keeps_second : (a b : ℕ) → (IsStore events cell b → ⊥) → KeepsRank events cell a b
  keeps_second a b none = record { keeps = λ head i j ia jb lt. none (ranked_store head j b jb) }
