-- Loads that read earlier stores, event by event.
use Rattle.std.proofs.Common.{◌≡◌, ℕ, zero, suc, ◌+◌, ◌<◌, ◌≤◌, List, Some, None, slice_get, length, refl, sym, ◌∙◌, subst, arith}
use native.Mathlib.Decide.{ℕ_discrete}
use mathlib.Core.Logic.{dite}
use Rattle.std.proofs.lemmas.Option.{slice_get_within}
use Rattle.c11_events.specs.declared.event.Event.{Event}
use Rattle.c11_events.specs.Events.{IsStore, ReadsEarlier}
use Rattle.c11_plain.specs.Reading.{ReadsWell}

module _ (events : List Event) where
  abbrev pub WellBelow : ℕ → Type 0
  WellBelow n = (k : ℕ) (e : Event) → k < n → slice_get events k ≡ Some e → ReadsWell events e k

  pub well_of : (k : ℕ) (e : Event) → slice_get events k ≡ Some e → ReadsEarlier events → ReadsWell events e k
  well_of k e at reads = record {
    store = λ cell is. let t = reads cell (suc k) e.from (record { event = e; is = at; holds = (is, refl) }) in (t.0, omega (arith, t.1));
  }

  pub wells_next : (n : ℕ) (e : Event) → slice_get events n ≡ Some e → ReadsWell events e n → WellBelow n → WellBelow (n + 1)
  wells_next n e at well below k f lt at_f = dite (ℕ_discrete k n)
      (λ (same : k ≡ n).
      let there : Some e ≡ Some f = sym at ∙ subst (λ (z : ℕ). slice_get events z ≡ Some f) same at_f in
      let one : e ≡ f = cc in
      subst (λ (z : ℕ). ReadsWell events f z) (sym same) (subst (λ (z : Event). ReadsWell events z n) one well))
      (λ (differ : k ≡ n → ⊥). below k f (omega arith) at_f)

  pub reads_of : (n : ℕ) → length events ≤ n → WellBelow n → ReadsEarlier events
  reads_of n enough below cell zero x l = let e : None ≡ Some l.event = l.is in absurd (cc)
  reads_of n enough below cell (suc k) x l =
      let lt = slice_get_within events k l.event l.is in
      let w = (below k l.event (omega (arith, lt)) l.is).store cell l.holds.0 in
      let same = l.holds.1 in
      (subst (λ (z : ℕ). IsStore events cell z) same w.0, omega (arith, w.1))
