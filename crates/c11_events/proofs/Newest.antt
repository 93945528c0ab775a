-- What happens before the last event.
use Rattle.std.proofs.Common.{◌≡◌, ℕ, suc, ◌≤◌, List, [], ◌∷◌, ◌++◌, length, refl, sym, subst, arith, ◌⊎◌, inl, inr}
use Rattle.c11_events.specs.declared.event.Event.{Event}
use Rattle.c11_events.specs.Closure.{one, join}
use Rattle.c11_events.specs.Events.{ReadsEarlier}
use Rattle.c11_events.specs.HappensBefore.{HappensBefore, DirectlyBefore}
use Rattle.c11_events.specs.Laws.{HappensBeforeNew}
use Rattle.c11_events.proofs.Prefix.{hb_more, hb_less}
use Rattle.c11_events.proofs.Rises.{hb_rises}

module _ (events : List Event) (e : Event) (reads : ReadsEarlier (events ++ e ∷ [])) where
  abbrev ByStep : ℕ → ℕ → Type 0
  ByStep a n = (m : ℕ) × (DirectlyBefore (events ++ e ∷ []) m n × ((a ≡ m) ⊎ HappensBefore events a m))

  last_step : (a n : ℕ) → n ≤ suc (length events) → HappensBefore (events ++ e ∷ []) a n → ByStep a n
  last_step a n le (one s) = (a, (s, inl refl))
  last_step a n le (join {b = b} v w) =
      let lt = hb_rises (events ++ e ∷ []) b n reads w in
      let h = hb_less events (e ∷ []) reads a b (omega arith) v in
      let t = last_step b n le w in
      (t.0, (t.1.0, inr (elim t.1.1 [ inl same ↦ subst (λ (z : ℕ). HappensBefore events a z) same h | inr k ↦ join h k ])))

  by_step : (a n : ℕ) → ByStep a n → HappensBefore (events ++ e ∷ []) a n
  by_step a n t = elim t.1.1 [ inl same ↦ one (subst (λ (z : ℕ). DirectlyBefore (events ++ e ∷ []) z n) (sym same) t.1.0) | inr h ↦ join (hb_more events (e ∷ []) a t.0 h) (one t.1.0) ]

pub happens_before_new : HappensBeforeNew
happens_before_new events e a reads = (last_step events e reads a (suc (length events)) (omega arith), by_step events e reads a (suc (length events)))
