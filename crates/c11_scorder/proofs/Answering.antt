-- What the tables answer, said of the events.
use Rattle.std.proofs.Common.{◌≡◌, ℕ, ◌<◌, ◌≤◌, ◌&&◌, Bool, true, false, List, Option, Some, None, MatchOption, slice_get, nat_lt, if◌then◌else◌, refl, sym, ap, ◌∙◌, subst, arith, ◌⊎◌, inl, inr}
use Rattle.std.proofs.lemmas.Bool.{ltb-true, lt-ltb}
use native.Mathlib.Decide.{ℕ_discrete, dec_lt}
use mathlib.Core.Logic.{dite}
use Rattle.c11_events.specs.declared.event.Event.{Event}
use Rattle.c11_events.specs.Events.{At, stored_cell, is_fence, is_seq_cst}
use Rattle.c11_events.specs.HappensBefore.{ProgramOrder, SeqCstBefore}
use Rattle.c11_latest.specs.declared.latest.Note.{Note}
use Rattle.c11_latest.specs.Notes.{IsNoted, HasNoneUpTo, IsLastUpTo}
use Rattle.c11_scorder.specs.SeqCst.{Answers, IsLast, IsStoreOf, IsSeqCstStore, IsSeqCstFence, IsSeqCstFenceOf, IsBeforeFence, seq_cst, fenced}
use Rattle.c11_scorder.specs.Tables.{Tables, StandsFor, IsLastStoreUpTo, later, some_if, is_seq_cst_fence, seq_cst_cell}
use Rattle.c11_scorder.proofs.Basic.{both, part, apart, of_next, in_order, if_some, and_true}

-- what is said of the same numbers has the same answer
pub answers_as : (P Q : ℕ → Type 0) → ((x : ℕ) → P x → Q x) → ((x : ℕ) → Q x → P x) → (o : Option ℕ) → Answers P o → Answers Q o
answers_as P Q to from None none = λ x q. none x (from x q)
answers_as P Q to from (Some y) is = record { is = to y is.is; last = λ x q. is.last x (from x q) }

abbrev pub UpTo : List Note → ℕ → ℕ → ℕ → Option ℕ → Type 0
UpTo notes cell thread bound answer = MatchOption answer (HasNoneUpTo notes cell thread bound) (IsLastUpTo notes cell thread bound)

-- a search answers the last for which Q holds, where that is said by the notes up to the bound
answers_up_to : (notes : List Note) (cell thread bound : ℕ) (Q : ℕ → Type 0) → ((x : ℕ) → IsNoted notes cell thread x → x ≤ bound → Q x)
    → ((x : ℕ) → Q x → IsNoted notes cell thread x × (x ≤ bound)) → (o : Option ℕ) → UpTo notes cell thread bound o → Answers Q o
answers_up_to notes cell thread bound Q to from None none = λ x q. let r = from x q in none x r.0 r.1
answers_up_to notes cell thread bound Q to from (Some y) is = record { is = to y is.noted is.within; last = λ x q. let r = from x q in is.last x r.0 r.1 }

larger : (P Q R : ℕ → Type 0) → ((x : ℕ) → P x → R x) → ((x : ℕ) → Q x → R x) → ((x : ℕ) → R x → P x ⊎ Q x) → (a b : ℕ) → IsLast P a → IsLast Q b
    → (t : Bool) → nat_lt a b ≡ t → IsLast R (if t then b else a)
larger P Q R p q r a b is is' true e = let less = ltb-true a b e in record { is = q b is'.is; last = λ x s. elim (r x s) [ inl y ↦ let le = is.last x y in omega arith | inr y ↦ is'.last x y ] }
larger P Q R p q r a b is is' false e = record {
  is = p a is.is;
  last = λ x s. elim (r x s) [
    | inl y ↦ is.last x y
    | inr y ↦ let le = is'.last x y in dite (dec_lt a b) (λ (less : a < b). let clash : true ≡ false = sym (lt-ltb a b less) ∙ e in cc) (λ (no' : a < b → ⊥). omega arith)
  ];
}

-- the later of two answers
later_answers : (P Q R : ℕ → Type 0) → ((x : ℕ) → P x → R x) → ((x : ℕ) → Q x → R x) → ((x : ℕ) → R x → P x ⊎ Q x) → (o o' : Option ℕ) → Answers P o → Answers Q o' → Answers R (later o o')
later_answers P Q R p q r None None none none' = λ x s. elim (r x s) [ inl y ↦ none x y | inr y ↦ none' x y ]
later_answers P Q R p q r None (Some b) none is' = record { is = q b is'.is; last = λ x s. elim (r x s) [ inl y ↦ absurd (none x y) | inr y ↦ is'.last x y ] }
later_answers P Q R p q r (Some a) None is none' = record { is = p a is.is; last = λ x s. elim (r x s) [ inl y ↦ is.last x y | inr y ↦ absurd (none' x y) ] }
later_answers P Q R p q r (Some a) (Some b) is is' = larger P Q R p q r a b is is' (nat_lt a b) refl

module _ (tables : Tables) (events : List Event) (stands : StandsFor tables events) where
  pub last_store : (cell : ℕ) (last : Option ℕ) → slice_get tables.last_stores cell ≡ Some last → Answers (IsSeqCstStore events cell) last
  last_store cell last at = answers_as (λ x. At events x (λ e. seq_cst_cell e.kind ≡ Some cell)) (IsSeqCstStore events cell)
      (λ x t. (
        part events x (λ e. seq_cst_cell e.kind ≡ Some cell) (λ e. stored_cell e.kind ≡ Some cell) (λ e h. (if_some (is_seq_cst e.kind) (stored_cell e.kind) cell h).1) t,
        part events x (λ e. seq_cst_cell e.kind ≡ Some cell) (λ e. is_seq_cst e.kind ≡ true) (λ e h. (if_some (is_seq_cst e.kind) (stored_cell e.kind) cell h).0) t,
      ))
      (λ x s. part events x (λ e. (stored_cell e.kind ≡ Some cell) × (is_seq_cst e.kind ≡ true)) (λ e. seq_cst_cell e.kind ≡ Some cell)
      (λ e h. ap (λ (b : Bool). if b then stored_cell e.kind else None) h.1 ∙ h.0)
      (both events x (λ e. stored_cell e.kind ≡ Some cell) (λ e. is_seq_cst e.kind ≡ true) s.0 s.1))
      last (stands.last_stores cell last at)

  -- a seq_cst fence, by one fact of its event or by three
  fence_of : (thread value x : ℕ) (P : Event → Type 0) → ((e : Event) → P e → (is_seq_cst_fence e.kind ≡ true) × (e.thread ≡ thread)) → At events x P → IsSeqCstFenceOf events thread x
  fence_of thread value x P f t = (
    (
      part events x P (λ e. is_fence e.kind ≡ true) (λ e h. (and_true (is_fence e.kind) (is_seq_cst e.kind) (f e h).0).0) t,
      part events x P (λ e. is_seq_cst e.kind ≡ true) (λ e h. (and_true (is_fence e.kind) (is_seq_cst e.kind) (f e h).0).1) t,
    ),
    part events x P (λ e. e.thread ≡ thread) (λ e h. (f e h).1) t,
  )

  fence_at : (thread x : ℕ) (P : Event → Type 0) → ((e : Event) → is_seq_cst_fence e.kind ≡ true → e.thread ≡ thread → P e) → IsSeqCstFenceOf events thread x → At events x P
  fence_at thread x P f is = part events x (λ e. ((is_fence e.kind ≡ true) × (is_seq_cst e.kind ≡ true)) × (e.thread ≡ thread)) P
      (λ e h. f e (λ i. h.0.0 i && h.0.1 i) h.1)
      (both events x (λ e. (is_fence e.kind ≡ true) × (is_seq_cst e.kind ≡ true)) (λ e. e.thread ≡ thread)
      (both events x (λ e. is_fence e.kind ≡ true) (λ e. is_seq_cst e.kind ≡ true) is.0.0 is.0.1) is.1)

  some_thread : (e : Event) (thread : ℕ) → some_if (is_seq_cst_fence e.kind) e.thread ≡ Some thread → (is_seq_cst_fence e.kind ≡ true) × (e.thread ≡ thread)
  some_thread e thread h = let both' = if_some (is_seq_cst_fence e.kind) (Some e.thread) thread h in let same = both'.1 in (both'.0, let t : e.thread ≡ thread = cc in t)

  pub last_fence : (thread : ℕ) (last : Option ℕ) → slice_get tables.last_fences thread ≡ Some last → Answers (IsSeqCstFenceOf events thread) last
  last_fence thread last at = answers_as (λ x. At events x (λ e. some_if (is_seq_cst_fence e.kind) e.thread ≡ Some thread)) (IsSeqCstFenceOf events thread)
      (λ x t. fence_of thread 0 x (λ e. some_if (is_seq_cst_fence e.kind) e.thread ≡ Some thread) (λ e h. some_thread e thread h) t)
      (λ x is. fence_at thread x (λ e. some_if (is_seq_cst_fence e.kind) e.thread ≡ Some thread) (λ e b t. ap (λ (c : Bool). some_if c e.thread) b ∙ ap (λ (u : ℕ). Some u) t) is)
      last (stands.last_fences thread last at)

  module _ (cell thread fence : ℕ) (is_fence' : IsSeqCstFence events fence) where
    abbrev ByOrder : ℕ → Type 0
    ByOrder a = IsStoreOf events cell thread a × SeqCstBefore events a fence

    abbrev ByOwnFence : ℕ → Type 0
    ByOwnFence a = (g : ℕ) × IsStoreOf events cell thread a × ProgramOrder events a g × IsSeqCstFence events g × ((g ≡ fence) ⊎ SeqCstBefore events g fence)

    noted_fence : (g : ℕ) → IsSeqCstFenceOf events thread g → IsNoted tables.fences.notes 0 thread g
    noted_fence g is = (stands.fences 0 thread g).1 (fence_at thread g (λ e. (some_if (is_seq_cst_fence e.kind) 0 ≡ Some 0) × (e.thread ≡ thread)) (λ e b t. (ap (λ (c : Bool). some_if c 0) b, t)) is)

    fence_noted : (g : ℕ) → IsNoted tables.fences.notes 0 thread g → IsSeqCstFenceOf events thread g
    fence_noted g noted = fence_of thread 0 g (λ e. (some_if (is_seq_cst_fence e.kind) 0 ≡ Some 0) × (e.thread ≡ thread)) (λ e h. ((if_some (is_seq_cst_fence e.kind) (Some 0) 0 h.0).0, h.1)) ((stands.fences 0 thread g).0 noted)

    noted_store : (a : ℕ) → IsStoreOf events cell thread a → IsNoted tables.stores.notes cell thread a
    noted_store a s = (stands.stores cell thread a).1 (both events a (λ e. stored_cell e.kind ≡ Some cell) (λ e. e.thread ≡ thread) s.0 s.1)

    store_noted : (a : ℕ) → IsNoted tables.stores.notes cell thread a → IsStoreOf events cell thread a
    store_noted a noted = let t = (stands.stores cell thread a).0 noted in (
      part events a (λ e. (stored_cell e.kind ≡ Some cell) × (e.thread ≡ thread)) (λ e. stored_cell e.kind ≡ Some cell) (λ e h. h.0) t,
      part events a (λ e. (stored_cell e.kind ≡ Some cell) × (e.thread ≡ thread)) (λ e. e.thread ≡ thread) (λ e h. h.1) t,
    )

    by_order : (o : Option ℕ) → UpTo tables.seq_cst_stores.notes cell thread fence o → Answers ByOrder o
    by_order o is = answers_up_to tables.seq_cst_stores.notes cell thread fence ByOrder
        (λ x noted le.
        let t = (stands.seq_cst_stores cell thread x).0 noted in
        let store = part events x (λ e. (seq_cst_cell e.kind ≡ Some cell) × (e.thread ≡ thread)) (λ e. stored_cell e.kind ≡ Some cell) (λ e h. (if_some (is_seq_cst e.kind) (stored_cell e.kind) cell h.0).1) t in
        let differ = apart events cell x fence store is_fence'.0 in (
          (store, part events x (λ e. (seq_cst_cell e.kind ≡ Some cell) × (e.thread ≡ thread)) (λ e. e.thread ≡ thread) (λ e h. h.1) t),
          record {
            first = part events x (λ e. (seq_cst_cell e.kind ≡ Some cell) × (e.thread ≡ thread)) (λ e. is_seq_cst e.kind ≡ true) (λ e h. (if_some (is_seq_cst e.kind) (stored_cell e.kind) cell h.0).0) t;
            second = is_fence'.1;
            earlier = omega arith;
          },
        ))
        (λ x q. (
          (stands.seq_cst_stores cell thread x).1 (part events x (λ e. ((stored_cell e.kind ≡ Some cell) × (e.thread ≡ thread)) × (is_seq_cst e.kind ≡ true))
              (λ e. (seq_cst_cell e.kind ≡ Some cell) × (e.thread ≡ thread)) (λ e h. (ap (λ (b : Bool). if b then stored_cell e.kind else None) h.1 ∙ h.0.0, h.0.1))
              (both events x (λ e. (stored_cell e.kind ≡ Some cell) × (e.thread ≡ thread)) (λ e. is_seq_cst e.kind ≡ true)
              (both events x (λ e. stored_cell e.kind ≡ Some cell) (λ e. e.thread ≡ thread) q.0.0 q.0.1) q.1.first)),
          let less = q.1.earlier in omega arith,
        ))
        o is

    -- the fence of the thread in whose favour a store is held is noted
    own_noted : (a : ℕ) (q : ByOwnFence a) → IsNoted tables.fences.notes 0 thread q.0 × (q.0 ≤ fence)
    own_noted a q = (noted_fence q.0 (q.3, of_next events thread a q.0 q.1.1 q.2), elim q.4 [ inl same ↦ omega (arith, same) | inr b ↦ let less = b.earlier in omega arith ])

    by_own : (own o : Option ℕ) → UpTo tables.fences.notes 0 thread fence own → IsLastStoreUpTo tables.stores.notes cell thread own o → Answers ByOwnFence o
    by_own None o none e = subst (λ (r : Option ℕ). Answers ByOwnFence r) (sym e) (λ a q. let r = own_noted a q in none q.0 r.0 r.1)
    by_own (Some h) o is last =
        let own = fence_noted h is.noted in
        let within = is.within in
        answers_up_to tables.stores.notes cell thread h ByOwnFence
        (λ x noted le.
        let s = store_noted x noted in
        let differ = apart events cell x h s.0 own.0.0 in (
          h,
          s,
          in_order events thread x h s.1 own.1 (omega arith),
          own.0,
          dite (ℕ_discrete h fence) (λ (same : h ≡ fence). inl same)
              (λ (other : h ≡ fence → ⊥). inr (record { first = own.0.1; second = is_fence'.1; earlier = omega arith })),
        ))
        (λ x q. let r = own_noted x q in let le = is.last q.0 r.0 r.1 in let less = q.2.earlier in (noted_store x q.1, omega arith))
        o last

    cases : (a : ℕ) → IsBeforeFence events cell thread fence a → ByOrder a ⊎ ByOwnFence a
    cases a (seq_cst s b) = inl (s, b)
    cases a (fenced {g = g} s p is r) = inr (g, s, p, is, r)

    pub before_fence : (first own second : Option ℕ) → UpTo tables.seq_cst_stores.notes cell thread fence first → UpTo tables.fences.notes 0 thread fence own
        → IsLastStoreUpTo tables.stores.notes cell thread own second → Answers (IsBeforeFence events cell thread fence) (later first second)
    before_fence first own second a b c = later_answers ByOrder ByOwnFence (IsBeforeFence events cell thread fence) (λ x q. seq_cst q.0 q.1) (λ x q. fenced q.1 q.2 q.3 q.4) cases first second
        (by_order first a) (by_own own second b c)
