-- What is kept of an event, and what the tables answer.
use Rattle.std.specs.Prelude.{not}
use Rattle.std.proofs.Common.{◌≡◌, ℕ, zero, suc, ◌<◌, ◌≤◌, ◌-◌, ◌↔◌, Bool, true, false, IsTrue, List, Option, Some, None, slice_get, length, refl, sym, ap, ◌∙◌, subst, arith, inl, inr}
use Rattle.c11_events.specs.declared.event.Event.{Event}
use Rattle.c11_events.specs.Events.{At, event_at, IsLoad, loaded_cell}
use Rattle.c11_events.specs.Values.{value_of}
use Rattle.c11_events.specs.HappensBefore.{HappensBefore, IsSeqCst}
use Rattle.c11_events.proofs.Basics.{at_same}
use Rattle.c11_events.proofs.DecideEvents.{at_below}
use Rattle.c11_happens.proofs.Answering.{event_of}
use Rattle.c11_latest.specs.Notes.{IsNoted, HasNoneUpTo, IsLastUpTo}
use Rattle.c11_scorder.specs.SeqCst.{IsLast, Answers, IsSeqCstStore, IsSeqCstFenceOf, IsBeforeFence}
use Rattle.c11_mayread.specs.declared.kept.Kept.{Kept}
use Rattle.c11_mayread.specs.Facts.{Facts, IsPastOf, kept_of}
use Rattle.c11_mayread.specs.Priors.{IsLoadOf, IsLastRead, IsBeforeLastFence, KeepsReadRule}

pub positive : (events : List Event) (a : ℕ) (P : Event → Type 0) → At events a P → 0 < a
positive events zero P t = let clash = t.is in cc
positive events (suc a) P t = omega arith

pub within : (events : List Event) (a : ℕ) (P : Event → Type 0) → At events a P → a ≤ length events
within events a P t = let lt = at_below events a P t in omega arith

pub some_event : (events : List Event) (x : ℕ) → 0 < x → x ≤ length events → (e : Event) × (event_at events x ≡ Some e)
some_event events zero lt le = absurd (omega arith)
some_event events (suc place) lt le = event_of events place (omega arith)

module _ (facts : Facts) (events : List Event) (past : IsPastOf facts events) where
  pub at_kept : (x : ℕ) (e : Event) (k : Kept) → event_at events x ≡ Some e → slice_get facts.kept (x - 1) ≡ Some k → k ≡ kept_of events x e
  at_kept zero e k is at = cc
  at_kept (suc place) e k is at =
      let same : suc place - 1 ≡ place = omega arith in
      let at' : slice_get facts.kept place ≡ Some k = subst (λ (p : ℕ). slice_get facts.kept p ≡ Some k) same at in
      let both : Some k ≡ Some (kept_of events (suc place) e) = sym at' ∙ past.kept place e is in cc

  pub value_at : (x : ℕ) (k : Kept) → 0 < x → x ≤ length events → slice_get facts.kept (x - 1) ≡ Some k → k.value ≡ value_of events x
  value_at x k lt le at = let t = some_event events x lt le in ap (λ (r : Kept). r.value) (at_kept x t.0 k t.1 at)

  pub noted_load : (cell of l : ℕ) → IsNoted facts.loads.notes cell of l → At events l (λ e. (loaded_cell e.kind ≡ Some cell) × (e.thread ≡ of))
  noted_load cell of l noted = (past.loads cell of l).0 noted

  load_noted : (cell of l : ℕ) → IsLoadOf events cell of l → IsNoted facts.loads.notes cell of l
  load_noted cell of l t = (past.loads cell of l).1 (record {
    event = t.1.0.event;
    is = t.1.0.is;
    holds = (t.1.0.holds.0, subst (λ (f : Event). f.thread ≡ of) (at_same events l t.1.1.event t.1.0.event t.1.1.is t.1.0.is) t.1.1.holds);
  })

  pub no_read : (cell of number : ℕ) → HasNoneUpTo facts.loads.notes cell of number → IsLastRead events cell of number None
  no_read cell of number none l t le = none l (load_noted cell of l t) le

  pub last_read : (cell of number l : ℕ) (k : Kept) → IsLastUpTo facts.loads.notes cell of number l → slice_get facts.kept (l - 1) ≡ Some k → IsLastRead events cell of number (Some k.from)
  last_read cell of number l k is at =
      let t = noted_load cell of l is.noted in
      let from : t.event.from ≡ k.from = ap (λ (r : Kept). r.from) (sym (at_kept l t.event k t.is at)) in
      let load : IsLoad events cell l k.from = record { event = t.event; is = t.is; holds = (t.holds.0, from) } in (
        l,
        (
          record {
            is = ((k.from, (load, record { event = t.event; is = t.is; holds = t.holds.1 })), is.within);
            last = λ y s. is.last y (load_noted cell of y s.0) s.1;
          },
          load,
        ),
      )

  -- whether a store is seq_cst is kept
  pub seq_cst_at : (x : ℕ) (k : Kept) → 0 < x → x ≤ length events → slice_get facts.kept (x - 1) ≡ Some k → k.seq_cst ≡ true → IsSeqCst events x
  seq_cst_at x k lt le at is = let t = some_event events x lt le in record { event = t.0; is = t.1; holds = sym (ap (λ (r : Kept). r.seq_cst) (at_kept x t.0 k t.1 at)) ∙ is }

  pub not_seq_cst_at : (x : ℕ) (k : Kept) → slice_get facts.kept (x - 1) ≡ Some k → k.seq_cst ≡ false → IsSeqCst events x → ⊥
  not_seq_cst_at x k at is t = let same = ap (λ (r : Kept). r.seq_cst) (at_kept x t.event k t.is at) in let clash : true ≡ false = sym t.holds ∙ (sym same ∙ is) in cc

pub no_fence : (events : List Event) (thread cell of : ℕ) → Answers (IsSeqCstFenceOf events thread) None → IsBeforeLastFence events thread cell of None
no_fence events thread cell of none x t = none t.0 t.1.0.is

one_last : (P : ℕ → Type 0) (x y : ℕ) → IsLast P x → IsLast P y → x ≡ y
one_last P x y s t = let le = s.last y t.is in let le' = t.last x s.is in omega arith

pub before_last_fence : (events : List Event) (thread cell of f : ℕ) → IsLast (IsSeqCstFenceOf events thread) f → (o : Option ℕ) → Answers (IsBeforeFence events cell of f) o → IsBeforeLastFence events thread cell of o
before_last_fence events thread cell of f last None none = λ x t. none x (subst (λ (g : ℕ). IsBeforeFence events cell of g x) (one_last (IsSeqCstFenceOf events thread) t.0 f t.1.0 last) t.1.1)
before_last_fence events thread cell of f last (Some y) is = record {
  is = (f, (last, is.is));
  last = λ x t. is.last x (subst (λ (g : ℕ). IsBeforeFence events cell of g x) (one_last (IsSeqCstFenceOf events thread) t.0 f t.1.0 last) t.1.1);
}

-- the read rule
pub no_last_store : (events : List Event) (cell x : ℕ) → Answers (IsSeqCstStore events cell) None → KeepsReadRule events cell x
no_last_store events cell x none a last = absurd (none a last.is)

pub is_last_store : (events : List Event) (cell x y : ℕ) → x ≡ y → IsLast (IsSeqCstStore events cell) y → KeepsReadRule events cell x
is_last_store events cell x y same last a last' = inl (same ∙ one_last (IsSeqCstStore events cell) y a last last')

pub rule_apart : (events : List Event) (cell x y : ℕ) (answer : Bool) → (x ≡ y → ⊥) → IsLast (IsSeqCstStore events cell) y → IsTrue answer ↔ ((IsSeqCst events x → ⊥) × (HappensBefore events x y → ⊥))
    → IsTrue answer ↔ KeepsReadRule events cell x
rule_apart events cell x y answer differ last h = (
  λ t a last'. inr (subst (λ (z : ℕ). (IsSeqCst events x → ⊥) × (HappensBefore events x z → ⊥)) (one_last (IsSeqCstStore events cell) y a last last') (h.0 t)),
  λ rule. h.1 (elim (rule y last) [ inl same ↦ absurd (differ same) | inr n ↦ n ]),
)

-- where the one does not hold, not the other is both
pub neither : (b : Bool) (P Q : Type 0) → (P → ⊥) → IsTrue b ↔ Q → IsTrue (not b) ↔ ((P → ⊥) × (Q → ⊥))
neither true P Q no_p h = (λ t. absurd (let clash : false ≡ true = t in cc), λ n. absurd (n.1 (h.0 refl)))
neither false P Q no_p h = (λ t. (no_p, λ q. let clash : false ≡ true = h.1 q in cc), λ n. refl)
