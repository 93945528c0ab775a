-- The decisive fences hold what the fence rules hold.
use Rattle.std.proofs.Common.{◌≡◌, ◌↔◌, ℕ, suc, ◌<◌, ◌≤◌, true, List, [], ◌∷◌, ◌++◌, Some, length, refl, sym, ap, ◌∙◌, subst, arith, ◌⊎◌, inl, inr}
use native.Mathlib.Decide.{map_dec, ℕ_discrete, dec_lt}
use mathlib.Core.Logic.{dite}
use Rattle.c11_events.specs.declared.event.Event.{Event}
use Rattle.c11_events.specs.Events.{At, stored_cell, is_fence, is_seq_cst}
use Rattle.c11_events.specs.HappensBefore.{ProgramOrder, IsSeqCst, SeqCstBefore}
use Rattle.c11_events.specs.Lawful.{IsFence, Fenced, before, after, between, IsFencedBefore, IsFencedAfter, IsFencedBetween, IsLastSeqCst}
use Rattle.c11_events.proofs.Basics.{at_same}
use Rattle.c11_events.proofs.Decide.{dec_and, dec_or, dec_some, dec_true}
use Rattle.c11_events.proofs.DecideEvents.{at_below, dec_at, dec_store, dec_program, dec_seq_cst}
use Rattle.c11_events.proofs.Longer.{new_is}
use Rattle.c11_events.proofs.Prefix.{same_more, same_less}
use Rattle.c11_scorder.specs.SeqCst.{IsLast, IsOf, IsStoreOf, IsSeqCstStore, IsSeqCstFence, IsSeqCstFenceOf, IsBeforeFence, seq_cst, fenced}
use Rattle.c11_scorder.specs.Laws.{IsDecisive, own, other, FencesDecide, AnswersDecide, LastStoreDecides, LastStoreStandsForAll}
use Rattle.c11_scorder.proofs.Basic.{of_next, in_order, last_of}

module _ (events : List Event) (e : Event) where
  abbrev longer : List Event
  longer = events ++ e ∷ []

  abbrev n : ℕ
  n = suc (length events)

  new_at : (P : Event → Type 0) → P e → At longer n P
  new_at P p = record { event = e; is = new_is events e; holds = p }

  of_new : (P : Event → Type 0) → At longer n P → P e
  of_new P t = subst P (at_same longer n t.event e t.is (new_is events e)) t.holds

  older : (a : ℕ) (P : Event → Type 0) → a < n → At longer a P → At events a P
  older a P less t = same_less events (e ∷ []) a P (omega arith) t

  newer : (a : ℕ) (P : Event → Type 0) → At events a P → At longer a P
  newer a P t = same_more events (e ∷ []) a P t

  older_before : (a b : ℕ) → b < n → SeqCstBefore longer a b → SeqCstBefore events a b
  older_before a b less s = record {
    first = older a (λ x. is_seq_cst x.kind ≡ true) (omega (arith, s.earlier)) s.first;
    second = older b (λ x. is_seq_cst x.kind ≡ true) less s.second;
    earlier = s.earlier;
  }

  newer_before : (a b : ℕ) → SeqCstBefore events a b → SeqCstBefore longer a b
  newer_before a b s = record { first = newer a (λ x. is_seq_cst x.kind ≡ true) s.first; second = newer b (λ x. is_seq_cst x.kind ≡ true) s.second; earlier = s.earlier }

  before_new : (a : ℕ) → IsSeqCst events a → is_seq_cst e.kind ≡ true → SeqCstBefore longer a n
  before_new a s q = record { first = newer a (λ x. is_seq_cst x.kind ≡ true) s; second = new_at (λ x. is_seq_cst x.kind ≡ true) q; earlier = at_below events a (λ x. is_seq_cst x.kind ≡ true) s }

  -- an event before the new one in program order is of its thread
  of_new_thread : (a : ℕ) → ProgramOrder longer a n → IsOf events e.thread a
  of_new_thread a p = older a (λ x. x.thread ≡ e.thread) p.earlier (record {
    event = p.thread.event;
    is = p.thread.is;
    holds = p.thread.holds.holds ∙ ap (λ (x : Event). x.thread) (at_same longer n p.thread.holds.event e p.thread.holds.is (new_is events e));
  })

  before_new_own : (a : ℕ) → IsOf events e.thread a → ProgramOrder longer a n
  before_new_own a o = in_order longer e.thread a n (newer a (λ x. x.thread ≡ e.thread) o) (new_at (λ x. x.thread ≡ e.thread) refl) (at_below events a (λ x. x.thread ≡ e.thread) o)

  dec_fence : (thread x : ℕ) → Dec (IsSeqCstFenceOf events thread x)
  dec_fence thread x = dec_and (dec_and (dec_at events x (λ f. is_fence f.kind ≡ true) (λ f. dec_true (is_fence f.kind))) (dec_at events x (λ f. is_seq_cst f.kind ≡ true) (λ f. dec_true (is_seq_cst f.kind))))
      (dec_at events x (λ f. f.thread ≡ thread) (λ f. ℕ_discrete f.thread thread))

  last_fence : (thread f : ℕ) → IsSeqCstFenceOf events thread f → (g : ℕ) × IsLast (IsSeqCstFenceOf events thread) g
  last_fence thread f is = last_of (IsSeqCstFenceOf events thread) (dec_fence thread) (length events) (λ x s. let less = at_below events x (λ y. y.thread ≡ thread) s.1 in omega arith) f is

  -- a seq_cst fence is the last one or before it
  up_to : (thread f g : ℕ) → IsSeqCstFenceOf events thread f → IsLast (IsSeqCstFenceOf events thread) g → (f ≡ g) ⊎ SeqCstBefore events f g
  up_to thread f g is last = dite (ℕ_discrete f g) (λ (same : f ≡ g). inl same)
      (λ (differ : f ≡ g → ⊥). let le = last.last f is in inr (record { first = is.0.1; second = last.is.0.1; earlier = omega arith }))

  module _ (cell thread a : ℕ) (s : IsStoreOf events cell thread a) where
    Held : Type 0
    Held = (f : ℕ) × IsDecisive events e thread f × IsBeforeFence events cell thread f a

    by_before : IsFencedBefore longer a n → Held
    unfolding Held
    by_before b =
        let less = b.second.earlier in
        let o = of_new_thread b.f b.second in
        let first = older_before a b.f less b.first in
        let last = last_fence e.thread b.f ((older b.f (λ x. is_fence x.kind ≡ true) less b.fence, first.second), o) in
        let le = last.1.last b.f ((older b.f (λ x. is_fence x.kind ≡ true) less b.fence, first.second), o) in
        (last.0, own last.1, seq_cst s (record { first = first.first; second = last.1.is.0.1; earlier = omega (arith, first.earlier) }))

    by_after : IsFencedAfter longer a n → Held
    unfolding Held
    by_after b =
        let less = b.second.earlier in
        let is_seq_cst' = of_new (λ x. is_seq_cst x.kind ≡ true) b.second.second in
        let fence : IsSeqCstFence events b.f = (older b.f (λ x. is_fence x.kind ≡ true) less b.fence, older b.f (λ x. is_seq_cst x.kind ≡ true) less b.second.first) in
        let o = older b.f (λ x. x.thread ≡ thread) less (of_next longer thread a b.f (newer a (λ x. x.thread ≡ thread) s.1) b.first) in
        let last = last_fence thread b.f (fence, o) in
        (last.0, other is_seq_cst' last.1, fenced s (in_order events thread a b.f s.1 o b.first.earlier) fence (up_to thread b.f last.0 (fence, o) last.1))

    by_between : IsFencedBetween longer a n → Held
    unfolding Held
    by_between b =
        let less = b.second.earlier in
        let between' = older_before b.f b.g less b.between in
        let fence : IsSeqCstFence events b.f = (older b.f (λ x. is_fence x.kind ≡ true) (omega (arith, between'.earlier)) b.fence, between'.first) in
        let later : IsSeqCstFenceOf events e.thread b.g = ((older b.g (λ x. is_fence x.kind ≡ true) less b.other, between'.second), of_new_thread b.g b.second) in
        let last = last_fence e.thread b.g later in
        let le = last.1.last b.g later in
        let o = older b.f (λ x. x.thread ≡ thread) (omega (arith, between'.earlier)) (of_next longer thread a b.f (newer a (λ x. x.thread ≡ thread) s.1) b.first) in
        (last.0, own last.1, fenced s (in_order events thread a b.f s.1 o b.first.earlier) fence (inr (record { first = between'.first; second = last.1.is.0.1; earlier = omega (arith, between'.earlier) })))

    held : Fenced longer a n → Held
    held (before b) = by_before b
    held (after b) = by_after b
    held (between b) = by_between b

    newer_fence : (f : ℕ) → IsSeqCstFence events f → IsFence longer f
    newer_fence f is = newer f (λ x. is_fence x.kind ≡ true) is.0

    -- the thread's store before its fence is before it in the longer list
    newer_order : (g : ℕ) → IsOf events thread g → a < g → ProgramOrder longer a g
    newer_order g o less = in_order longer thread a g (newer a (λ x. x.thread ≡ thread) s.1) (newer g (λ x. x.thread ≡ thread) o) less

    by_own : (f : ℕ) → IsLast (IsSeqCstFenceOf events e.thread) f → IsBeforeFence events cell thread f a → Fenced longer a n ⊎ ProgramOrder longer a n
    by_own f last (seq_cst s' b) = inl (before (record { f = f; fence = newer_fence f last.is.0; first = newer_before a f b; second = before_new_own f last.is.1 }))
    by_own f last (fenced {g = g} s' p fence r) = elim r [
      | inl same ↦
          let o = of_next events thread a g s.1 p in
          let last_o = subst (λ (k : ℕ). IsOf events e.thread k) (sym same) last.is.1 in
          let threads : thread ≡ e.thread = sym o.holds ∙ (ap (λ (x : Event). x.thread) (at_same events g o.event last_o.event o.is last_o.is) ∙ last_o.holds) in
          inr (before_new_own a (subst (λ (t : ℕ). IsOf events t a) threads s.1))
      | inr b ↦ inl (between (record {
        f = g;
        g = f;
        fence = newer_fence g fence;
        other = newer_fence f last.is.0;
        first = newer_order g (of_next events thread a g s.1 p) p.earlier;
        between = newer_before g f b;
        second = before_new_own f last.is.1;
      }))
    ]

    by_other : (f : ℕ) → is_seq_cst e.kind ≡ true → IsLast (IsSeqCstFenceOf events thread) f → IsBeforeFence events cell thread f a → Fenced longer a n
    by_other f q last (seq_cst s' b) = after (record { f = f; fence = newer_fence f last.is.0; first = newer_order f last.is.1 b.earlier; second = before_new f last.is.0.1 q })
    by_other f q last (fenced {g = g} s' p fence r) = after (record { f = g; fence = newer_fence g fence; first = newer_order g (of_next events thread a g s.1 p) p.earlier; second = before_new g fence.1 q })

    decides : (f : ℕ) → IsDecisive events e thread f → IsBeforeFence events cell thread f a → Fenced longer a n ⊎ ProgramOrder longer a n
    decides f (own last) b = by_own f last b
    decides f (other q last) b = inl (by_other f q last b)

  pub last_decides : (cell a : ℕ) → IsLastSeqCst longer cell n a ↔ ((is_seq_cst e.kind ≡ true) × IsLast (IsSeqCstStore events cell) a)
  last_decides cell a = (
    λ l. (
      of_new (λ x. is_seq_cst x.kind ≡ true) l.before.second,
      record {
        is = (older a (λ x. stored_cell x.kind ≡ Some cell) l.before.earlier l.store, older a (λ x. is_seq_cst x.kind ≡ true) l.before.earlier l.before.first);
        last = λ y s. l.last y (newer y (λ x. stored_cell x.kind ≡ Some cell) s.0) (before_new y s.1 (of_new (λ x. is_seq_cst x.kind ≡ true) l.before.second));
      },
    ),
    λ l. record {
      store = newer a (λ x. stored_cell x.kind ≡ Some cell) l.1.is.0;
      before = before_new a l.1.is.1 l.0;
      last = λ b s p. l.1.last b (older b (λ x. stored_cell x.kind ≡ Some cell) p.earlier s, older b (λ x. is_seq_cst x.kind ≡ true) p.earlier p.first);
    },
  )

module _ (events : List Event) (cell thread fence : ℕ) where
  abbrev Parts : ℕ → Type 0
  Parts a = (IsStoreOf events cell thread a × SeqCstBefore events a fence)
      ⊎ (IsStoreOf events cell thread a × ((g : ℕ) × (ProgramOrder events a g × (IsSeqCstFence events g × ((g ≡ fence) ⊎ SeqCstBefore events g fence)))))

  whole : (a : ℕ) → Parts a → IsBeforeFence events cell thread fence a
  whole a (inl p) = seq_cst p.0 p.1
  whole a (inr p) = fenced p.0 p.1.1.0 p.1.1.1.0 p.1.1.1.1

  parts : (a : ℕ) → IsBeforeFence events cell thread fence a → Parts a
  parts a (seq_cst s b) = inl (s, b)
  parts a (fenced {g = g} s p is r) = inr (s, (g, (p, (is, r))))

  before_store : (a : ℕ) → IsBeforeFence events cell thread fence a → IsStoreOf events cell thread a
  before_store a (seq_cst s b) = s
  before_store a (fenced s p is r) = s

  before_below : (a : ℕ) → IsBeforeFence events cell thread fence a → a ≤ length events
  before_below a b = let s = before_store a b in let less = at_below events a (λ x. x.thread ≡ thread) s.1 in omega arith

  dec_order : (a b : ℕ) → Dec (SeqCstBefore events a b)
  dec_order a b = map_dec (λ (p : IsSeqCst events a × (IsSeqCst events b × (a < b))). record { first = p.0; second = p.1.0; earlier = p.1.1 }) (λ s. (s.first, (s.second, s.earlier)))
      (dec_and (dec_seq_cst events a) (dec_and (dec_seq_cst events b) (dec_lt a b)))

  dec_is_fence : (g : ℕ) → Dec (IsSeqCstFence events g)
  dec_is_fence g = dec_and (dec_at events g (λ f. is_fence f.kind ≡ true) (λ f. dec_true (is_fence f.kind))) (dec_seq_cst events g)

  dec_before : (a : ℕ) → Dec (IsBeforeFence events cell thread fence a)
  dec_before a =
      let store = dec_and (dec_store events cell a) (dec_at events a (λ f. f.thread ≡ thread) (λ f. ℕ_discrete f.thread thread)) in
      map_dec (whole a) (parts a) (dec_or (dec_and store (dec_order a fence)) (dec_and store
      (dec_some (suc (length events)) (λ g. ProgramOrder events a g × (IsSeqCstFence events g × ((g ≡ fence) ⊎ SeqCstBefore events g fence)))
      (λ g p. at_below events g (λ f. is_fence f.kind ≡ true) p.1.0.0)
      (λ g. dec_and (dec_program events a g) (dec_and (dec_is_fence g) (dec_or (ℕ_discrete g fence) (dec_order g fence)))))))

pub answers_decide : AnswersDecide
unfolding Held
answers_decide events e cell thread = (
  λ a s f.
      let h = held events e cell thread a s f in
      let last = last_of (IsBeforeFence events cell thread h.0) (dec_before events cell thread h.0) (length events) (before_below events cell thread h.0) a h.2 in
      (last.0, (h.0, h.1, last.1), last.1.last a h.2),
  λ x answer. let s = before_store events cell thread answer.0 x answer.2.is in (s, decides events e cell thread x s answer.0 answer.1 answer.2.is),
)

pub fences_decide : FencesDecide
unfolding Held
fences_decide events e cell thread a s = (held events e cell thread a s, decides events e cell thread a s)

pub last_store_decides : LastStoreDecides
last_store_decides events e cell a = last_decides events e cell a

pub last_store_stands_for_all : LastStoreStandsForAll
last_store_stands_for_all events e cell = (
  λ b s p.
      let is : IsSeqCstStore events cell b = (s, older events e b (λ x. is_seq_cst x.kind ≡ true) p.earlier p.first) in
      let last = last_of (IsSeqCstStore events cell) (λ x. dec_and (dec_store events cell x) (dec_seq_cst events x)) (length events)
      (λ x t. let less = at_below events x (λ y. is_seq_cst y.kind ≡ true) t.1 in omega arith) b is in
      let le = last.1.last b is in (
        last.0,
        last.1,
        dite (ℕ_discrete b last.0) (λ (same : b ≡ last.0). inl same)
            (λ (differ : b ≡ last.0 → ⊥). inr (record { first = is.1; second = last.1.is.1; earlier = omega arith })),
      ),
  λ a last q. before_new events e a last.is.1 q,
)
