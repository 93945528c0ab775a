-- The head and the rank of a store.
use Rattle.std.proofs.Common.{◌≡◌, ℕ, zero, suc, ◌<◌, List, Option, Some, None, refl, sym, ap, ◌∙◌, subst, arith}
use Rattle.c11_events.specs.declared.event.Event.{Event}
use Rattle.c11_events.specs.declared.event.EventKind.{EventKind}
use Rattle.c11_events.specs.declared.event.EventKind.TheVariants.{Rmw}
use Rattle.c11_events.specs.Events.{At, IsStore, IsRmw, ReadsEarlier, stored_cell, loaded_cell}
use Rattle.c11_events.specs.HappensBefore.{ReleaseSequence, here, next}
use Rattle.c11_events.specs.Chains.{IsRanked}
use Rattle.c11_events.proofs.Basics.{at_same, head_no_rmw}
use Rattle.c11_events.proofs.DecideEvents.{ChainEnd, chain_end}

pub kind_same : (kind : EventKind) (c d : ℕ) → stored_cell kind ≡ Some c → loaded_cell kind ≡ Some d → d ≡ c
kind_same (Rmw cell order kind operand) c d e f = cc
kind_same _ c d e f = cc

module _ (events : List Event) (cell : ℕ) where
  chain_same : (h k i j x : ℕ) → At events h (λ e. loaded_cell e.kind ≡ None) → At events k (λ e. loaded_cell e.kind ≡ None)
      → ReleaseSequence events cell h i x → ChainEnd events cell k j x → (h ≡ k) × (i ≡ j)
  chain_same h k _ zero _ fh fk (here is) t = (sym t.0, refl)
  chain_same h k _ (suc j) _ fh fk (here is) t = absurd (head_no_rmw events cell h t.event.from fh (record { event = t.event; is = t.is; holds = (t.holds.0, t.holds.1, refl) }))
  chain_same h k _ zero _ fh fk (next {n = n} {y = y} {x = x} c r) t = absurd (head_no_rmw events cell k y fk (subst (λ (z : ℕ). IsRmw events cell z y) (sym t.0) r))
  chain_same h k _ (suc j) _ fh fk (next {n = n} {y = y} {x = x} c r) t =
      let from : t.event.from ≡ y = ap (λ (e : Event). e.from) (at_same events x t.event r.event t.is r.is) ∙ r.holds.2 in
      let both = chain_same h k n j y fh fk c (chain_end events cell k j y (subst (λ (z : ℕ). ReleaseSequence events cell k j z) from t.holds.2)) in
      (both.0, ap (λ (z : ℕ). suc z) both.1)

  pub ranked_same : (h k i j x : ℕ) → IsRanked events cell h i x → IsRanked events cell k j x → (h ≡ k) × (i ≡ j)
  ranked_same h k i j x r s = chain_same h k i j x r.first s.first r.chain (chain_end events cell k j x s.chain)

  chain_one : ((b c x : ℕ) → IsRmw events cell b x → IsRmw events cell c x → b ≡ c) → (h i x y : ℕ) → ReleaseSequence events cell h i x → ChainEnd events cell h i y → x ≡ y
  chain_one once h _ _ y (here is) t = t.0
  chain_one once h _ _ y (next {n = n} {y = w} {x = x} c r) t =
      let same : w ≡ t.event.from = chain_one once h n w t.event.from c (chain_end events cell h n t.event.from t.holds.2) in
      once x y w r (record { event = t.event; is = t.is; holds = (t.holds.0, t.holds.1, sym same) })

  pub ranked_one : ((b c x : ℕ) → IsRmw events cell b x → IsRmw events cell c x → b ≡ c) → (h i x y : ℕ) → IsRanked events cell h i x → IsRanked events cell h i y → x ≡ y
  ranked_one once h i x y r s = chain_one once h i x y r.chain (chain_end events cell h i y s.chain)

  abbrev pub Placed : ℕ → Type 0
  Placed x = (h : ℕ) × ((i : ℕ) × IsRanked events cell h i x)

  placed_by : ReadsEarlier events → (x : ℕ) (s : IsStore events cell x) (o : Option ℕ) → loaded_cell s.event.kind ≡ o
      → ((y : ℕ) → y < x → IsStore events cell y → Placed y) → Placed x
  placed_by reads x s None e rest = (x, (0, record { chain = here s; first = record { event = s.event; is = s.is; holds = e } }))
  placed_by reads x s (Some d) e rest =
      let same : d ≡ cell = kind_same s.event.kind cell d s.holds e in
      let e' : loaded_cell s.event.kind ≡ Some cell = e ∙ ap (λ (c : ℕ). Some c) same in
      let r = reads cell x s.event.from (record { event = s.event; is = s.is; holds = (e', refl) }) in
      let p = rest s.event.from r.1 r.0 in
      (p.0, (suc p.1.0, record { chain = next p.1.1.chain (record { event = s.event; is = s.is; holds = (s.holds, e', refl) }); first = p.1.1.first }))

  placed_below : ReadsEarlier events → (n x : ℕ) → x < n → IsStore events cell x → Placed x
  placed_below reads zero x lt s = absurd (omega arith)
  placed_below reads (suc n) x lt s = placed_by reads x s (loaded_cell s.event.kind) refl (λ y less t. placed_below reads n y (omega arith) t)

  pub placed : ReadsEarlier events → (x : ℕ) → IsStore events cell x → Placed x
  placed reads x s = placed_below reads (suc x) x (omega arith) s
