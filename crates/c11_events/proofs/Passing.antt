-- What a thread has not passed it may still read.
use Rattle.std.proofs.Common.{◌≡◌, ℕ, suc, ◌+◌, ◌<◌, ◌≤◌, true, false, List, [], ◌∷◌, ◌++◌, Some, None, length, take, refl, sym, ◌∙◌, ap, subst, arith, ◌⊎◌, inl, inr}
use Rattle.std.proofs.lemmas.List.{take-append-le}
use native.Mathlib.Decide.{dec_lt}
use mathlib.Core.Logic.{dite}
use Rattle.c11_events.specs.declared.order.Order.TheVariants.{Relaxed}
use Rattle.c11_events.specs.declared.event.Event.{Event}
use Rattle.c11_events.specs.declared.event.EventKind.TheVariants.{AtomicLoad}
use Rattle.c11_events.specs.Closure.{one, join}
use Rattle.c11_events.specs.Events.{At, IsStore, is_create, is_fence, is_seq_cst}
use Rattle.c11_events.specs.HappensBefore.{ProgramOrder, CreateBeforeFirst, HappensBefore}
use Rattle.c11_events.specs.Threads.{created}
use Rattle.c11_events.specs.Lawful.{IsFence, Fenced, before, after, between}
use Rattle.c11_events.specs.Chains.{Reach, ChainLawful}
use Rattle.c11_events.specs.Priors.{IsKnown, Prior, known_store, known_load, fenced}
use Rattle.c11_events.specs.Dead.{IsMark, own, made, HasPassed}
use Rattle.c11_events.specs.Laws.{NotPassedIsOffered}
use Rattle.c11_events.proofs.Acquiring.{read_fits_priors}
use Rattle.c11_events.proofs.Deaths.{mark_same}
use Rattle.c11_events.proofs.DecideEvents.{at_below}
use Rattle.c11_events.proofs.Longer.{new_is, old_or_new}
use Rattle.c11_events.proofs.Prefix.{same_more, same_less}
use Rattle.c11_events.proofs.Sufficient.{consistent}

module _ (events : List Event) (u cell x m : ℕ) (quiet : (f : ℕ) → IsFence events f → ⊥) (mark : IsMark events u m) where
  abbrev e : Event
  e = record { number = length events + 1; thread = u; kind = AtomicLoad cell Relaxed; from = x }

  new_holds : (P : Event → Type 0) → At (events ++ e ∷ []) (suc (length events)) P → P e
  new_holds P t = elim (old_or_new events e (suc (length events)) P t) [ inl le ↦ absurd (omega arith) | inr p ↦ p.1 ]

  -- an earlier event of the thread is its mark or before it
  own_before : (p : ℕ) → At events p (λ f. f.thread ≡ u) → IsMark events u m → (p ≡ m) ⊎ HappensBefore events p m
  own_before p t (own at last) = dite (dec_lt p m)
      (λ (lt : p < m). inr (one (inl (record { thread = record { event = t.event; is = t.is; holds = record { event = at.event; is = at.is; holds = t.holds ∙ sym at.holds } }; earlier = lt }))))
      (λ (no' : p < m → ⊥). inl (omega (arith, last p t)))
  own_before p t (made none at count) = absurd (none p t)

  by_program : (p : ℕ) → ProgramOrder (events ++ e ∷ []) p (suc (length events)) → (p ≡ m) ⊎ HappensBefore events p m
  by_program p o =
      let of_u : o.thread.event.thread ≡ u = new_holds (λ f. o.thread.event.thread ≡ f.thread) o.thread.holds in
      own_before p (same_less events (e ∷ []) p (λ f. f.thread ≡ u) (omega (arith, o.earlier)) (record { event = o.thread.event; is = o.thread.is; holds = of_u })) mark

  by_create : (p : ℕ) → CreateBeforeFirst (events ++ e ∷ []) p (suc (length events)) → IsMark events u m → (p ≡ m) ⊎ HappensBefore events p m
  by_create p o (own at last) =
      let of_u : u ≡ created (take p (events ++ e ∷ [])) = new_holds (λ f. f.thread ≡ created (take p (events ++ e ∷ []))) o.thread in
      let at' = same_more events (e ∷ []) m (λ f. f.thread ≡ u) at in
      absurd (o.first m (omega (arith, at_below events m (λ f. f.thread ≡ u) at)) (record { event = at'.event; is = at'.is; holds = at'.holds ∙ of_u }))
  by_create p o (made none at count) =
      let of_u : u ≡ created (take p (events ++ e ∷ [])) = new_holds (λ f. f.thread ≡ created (take p (events ++ e ∷ []))) o.thread in
      let old : p ≤ length events = omega (arith, o.earlier) in
      let same : created (take p (events ++ e ∷ [])) ≡ created (take p events) = ap (λ (es : List Event). created es) (take-append-le p events (e ∷ []) old) in
      inl (mark_same events u p m (made none (same_less events (e ∷ []) p (λ f. is_create f.kind ≡ true) old o.create) (of_u ∙ same)) (made none at count))

  -- what the thread knows is its mark or before it
  known_mark : (a : ℕ) → IsKnown events e a → (a ≡ m) ⊎ HappensBefore events a m
  known_mark a k = onto (elim k.last [ inl p ↦ by_program k.m p | inr p ↦ by_create k.m p mark ]) k.leads
    where
      onto : (k.m ≡ m) ⊎ HappensBefore events k.m m → (a ≡ k.m) ⊎ HappensBefore events a k.m → (a ≡ m) ⊎ HappensBefore events a m
      onto (inl is) (inl same) = inl (same ∙ is)
      onto (inl is) (inr h) = inr (subst (λ (z : ℕ). HappensBefore events a z) is h)
      onto (inr h) (inl same) = inr (subst (λ (z : ℕ). HappensBefore events z m) (sym same) h)
      onto (inr h) (inr h') = inr (join h' h)

  no_fence : (f : ℕ) → IsFence (events ++ e ∷ []) f → ⊥
  no_fence f t = elim (old_or_new events e f (λ g. is_fence g.kind ≡ true) t) [
    | inl le ↦ quiet f (same_less events (e ∷ []) f (λ g. is_fence g.kind ≡ true) le t)
    | inr p ↦ (let clash : false ≡ true = p.1 in cc)
  ]

  not_fenced : (a : ℕ) → Fenced (events ++ e ∷ []) a (suc (length events)) → ⊥
  not_fenced a (before f) = no_fence f.f f.fence
  not_fenced a (after f) = no_fence f.f f.fence
  not_fenced a (between f) = no_fence f.f f.fence

  prior_passed : (a : ℕ) → Prior events e cell a → Reach events cell x a → HasPassed events cell u x
  prior_passed a (known_store s k) r = record { mark = m; is_mark = mark; y = a; reach = r; a = a; touches = inl refl; leads = known_mark a k }
  prior_passed a (known_load {l = l} load k) r = record { mark = m; is_mark = mark; y = a; reach = r; a = l; touches = inr load; leads = known_mark l k }
  prior_passed a (fenced s f) r = absurd (not_fenced a f)

pub not_passed_is_offered : NotPassedIsOffered
not_passed_is_offered events u cell x m c quiet store mark unpassed =
    let e : Event = record { number = length events + 1; thread = u; kind = AtomicLoad cell Relaxed; from = x } in
    record {
      store = store;
      consistent = consistent (events ++ e ∷ []) ((read_fits_priors events e cell c store refl).1 (record {
        prior = λ a differ p r. unpassed (prior_passed events u cell x m quiet mark a p r);
        prior_seq_cst = λ a differ stores s t r. absurd (let clash : None ≡ Some cell = stores in cc);
        ends_chain = λ stores b r. let clash : None ≡ Some cell = stores in cc;
        seq_cst_read = λ a l. absurd (let clash : false ≡ true = new_holds events u cell x m quiet mark (λ f. is_seq_cst f.kind ≡ true) l.before.second in cc);
      }));
    }
