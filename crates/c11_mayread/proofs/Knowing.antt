-- The clock of a thread covers exactly what its next event knows.
use Rattle.std.proofs.Common.{◌≡◌, ℕ, suc, ◌<◌, ◌≤◌, ◌↔◌, true, List, [], ◌∷◌, ◌++◌, Some, length, take, slice_index, sym, ap, ◌∙◌, subst, arith, inl, inr}
use Rattle.std.proofs.lemmas.List.{take-append-le}
use native.Mathlib.Decide.{map_dec, ℕ_discrete}
use mathlib.Core.Logic.{dite}
use Rattle.c11_events.specs.declared.event.Event.{Event}
use Rattle.c11_events.specs.Closure.{one, join}
use Rattle.c11_events.specs.Events.{At, event_at, is_create}
use Rattle.c11_events.specs.Threads.{created}
use Rattle.c11_events.specs.HappensBefore.{ProgramOrder, CreateBeforeFirst, HappensBefore}
use Rattle.c11_events.specs.Priors.{IsKnown}
use Rattle.c11_events.proofs.Basics.{at_same}
use Rattle.c11_events.proofs.Decide.{dec_and, dec_some, dec_true}
use Rattle.c11_events.proofs.DecideEvents.{at_below, dec_at}
use Rattle.c11_events.proofs.Deaths.{greatest}
use Rattle.c11_events.proofs.Longer.{new_is}
use Rattle.c11_events.proofs.Prefix.{event_more, event_less, same_more, same_less}
use Rattle.c11_happens.specs.Covers.{UpTo, CoversExactly, IsOf, HasNoEvent, IsLastOf, IsCreateOf}

module _ (events : List Event) (e : Event) where
  abbrev Own : ℕ → Type 0
  Own a = IsOf events e.thread a

  pub dec_own : (a : ℕ) → Dec (Own a)
  dec_own a = dec_at events a (λ f. f.thread ≡ e.thread) (λ f. ℕ_discrete f.thread e.thread)

  own_below : (a : ℕ) → Own a → a < suc (length events)
  own_below a o = at_below events a (λ f. f.thread ≡ e.thread) o

  own_last : (m : ℕ) → Own m → (b : ℕ) × IsLastOf events e.thread b
  own_last m o = let g = greatest (suc (length events)) Own dec_own (m, own_below m o, o) in (g.0, record { is = g.2; last = λ a t. g.3 a (own_below a t) t })

  pub own_of : (m : ℕ) → ProgramOrder (events ++ e ∷ []) m (suc (length events)) → Own m
  own_of m p = let t = p.thread in record {
    event = t.event;
    is = event_less events (e ∷ []) m t.event (omega (arith, p.earlier)) t.is;
    holds = t.holds.holds ∙ ap (λ (f : Event). f.thread) (at_same (events ++ e ∷ []) (suc (length events)) t.holds.event e t.holds.is (new_is events e));
  }

  pub of_own : (m : ℕ) → Own m → ProgramOrder (events ++ e ∷ []) m (suc (length events))
  of_own m o = record {
    thread = record { event = o.event; is = event_more events (e ∷ []) m o.event o.is; holds = record { event = e; is = new_is events e; holds = o.holds } };
    earlier = own_below m o;
  }

  created_old : (m : ℕ) → m ≤ length events → created (take m (events ++ e ∷ [])) ≡ created (take m events)
  created_old m le = ap (λ (es : List Event). created es) (take-append-le m events (e ∷ []) le)

  create_of : (m : ℕ) → CreateBeforeFirst (events ++ e ∷ []) m (suc (length events)) → HasNoEvent events e.thread × IsCreateOf events e.thread m
  create_of m k =
      let le : m ≤ length events = omega (arith, k.earlier) in
      let made : e.thread ≡ created (take m (events ++ e ∷ [])) =
      ap (λ (f : Event). f.thread) (at_same (events ++ e ∷ []) (suc (length events)) e k.thread.event (new_is events e) k.thread.is) ∙ k.thread.holds in (
        (λ a t. k.first a (own_below a t) (record { event = t.event; is = event_more events (e ∷ []) a t.event t.is; holds = t.holds ∙ made })),
        record { is = same_less events (e ∷ []) m (λ f. is_create f.kind ≡ true) le k.create; creates = sym (made ∙ created_old m le) },
      )

  of_create : (m : ℕ) → HasNoEvent events e.thread → IsCreateOf events e.thread m → CreateBeforeFirst (events ++ e ∷ []) m (suc (length events))
  of_create m none k =
      let lt = at_below events m (λ f. is_create f.kind ≡ true) k.is in
      let made : e.thread ≡ created (take m (events ++ e ∷ [])) = sym k.creates ∙ sym (created_old m (omega arith)) in
      record {
        create = same_more events (e ∷ []) m (λ f. is_create f.kind ≡ true) k.is;
        thread = record { event = e; is = new_is events e; holds = made };
        first = λ c less t. none c (record { event = t.event; is = event_less events (e ∷ []) c t.event (omega (arith, less)) t.is; holds = t.holds ∙ sym made });
        earlier = lt;
      }

  dec_create : (m : ℕ) → Dec (IsCreateOf events e.thread m)
  dec_create m = map_dec (λ p. record { is = p.0; creates = p.1 }) (λ (k : IsCreateOf events e.thread m). (k.is, k.creates))
      (dec_and (dec_at events m (λ f. is_create f.kind ≡ true) (λ f. dec_true (is_create f.kind))) (ℕ_discrete (created (take m events)) e.thread))

  up_to_last : (a m b : ℕ) → Own m → IsLastOf events e.thread b → UpTo events m a → UpTo events b a
  up_to_last a m b o last u = dite (ℕ_discrete m b) (λ (same : m ≡ b). subst (λ (z : ℕ). UpTo events z a) same u)
      (λ (other : m ≡ b → ⊥).
      let le = last.last m o in
      let p : HappensBefore events m b = one (inl (record {
        thread = record { event = o.event; is = o.is; holds = record { event = last.is.event; is = last.is.is; holds = o.holds ∙ sym last.is.holds } };
        earlier = omega arith;
      })) in
      elim u [ inl same ↦ inr (subst (λ (z : ℕ). HappensBefore events z b) (sym same) p) | inr h ↦ inr (join h p) ])

  module _ (clock : List ℕ) (last : (b : ℕ) → IsLastOf events e.thread b → CoversExactly events clock (UpTo events b))
      (started : (c : ℕ) → HasNoEvent events e.thread → IsCreateOf events e.thread c → CoversExactly events clock (UpTo events c))
      (unborn : HasNoEvent events e.thread → ((c : ℕ) → IsCreateOf events e.thread c → ⊥) → CoversExactly events clock (λ a. ⊥)) where
    covered_known : (a : ℕ) (f : Event) → event_at events a ≡ Some f → a ≤ slice_index clock f.thread → IsKnown events e a
    covered_known a f at le = dite (dec_some (suc (length events)) Own own_below dec_own)
        (λ (o : (k : ℕ) × Own k).
        let b = own_last o.0 o.1 in record { m = b.0; last = inl (of_own b.0 b.1.is); leads = (last b.0 b.1 a f at).0 le })
        (λ (none : (k : ℕ) × Own k → ⊥).
        let none' : HasNoEvent events e.thread = λ k o. none (k, o) in
        dite (dec_some (suc (length events)) (IsCreateOf events e.thread) (λ k c. at_below events k (λ g. is_create g.kind ≡ true) c.is) dec_create)
        (λ (c : (k : ℕ) × IsCreateOf events e.thread k). record { m = c.0; last = inr (of_create c.0 none' c.1); leads = (started c.0 none' c.1 a f at).0 le })
        (λ (no_create : (k : ℕ) × IsCreateOf events e.thread k → ⊥). absurd ((unborn none' (λ k c. no_create (k, c)) a f at).0 le)))

    known_covered : (a : ℕ) (f : Event) → event_at events a ≡ Some f → IsKnown events e a → a ≤ slice_index clock f.thread
    known_covered a f at k = elim k.last [
      | inl p ↦ (let o = own_of k.m p in let b = own_last k.m o in (last b.0 b.1 a f at).1 (up_to_last a k.m b.0 o b.1 k.leads))
      | inr c ↦ (let t = create_of k.m c in (started k.m t.0 t.1 a f at).1 k.leads)
    ]

    pub knows : (of : ℕ) (a : ℕ) → At events a (λ f. f.thread ≡ of) → (a ≤ slice_index clock of) ↔ IsKnown events e a
    knows of a t = (
      λ le. covered_known a t.event t.is (subst (λ (u : ℕ). a ≤ slice_index clock u) (sym t.holds) le),
      λ k. subst (λ (u : ℕ). a ≤ slice_index clock u) t.holds (known_covered a t.event t.is k),
    )
