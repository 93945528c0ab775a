-- The stores of one thread that stand for all of its stores and loads which must not follow what a next event reads.
use Rattle.std.proofs.Common.{◌≡◌, ℕ, suc, ◌<◌, ◌≤◌, ◌+◌, ◌&&◌, Bool, true, false, List, [], ◌∷◌, ◌++◌, Option, Some, None, MatchOption, slice_get, length, refl, sym, ap, ◌∙◌, subst, arith, ◌⊎◌, inl, inr}
use native.Mathlib.Decide.{ℕ_discrete}
use mathlib.Core.Logic.{dite}
use Rattle.c11_events.specs.declared.event.Event.{Event}
use Rattle.c11_events.specs.Closure.{one}
use Rattle.c11_events.specs.Events.{At, IsStore, IsLoad, ReadsEarlier, is_seq_cst}
use Rattle.c11_events.specs.HappensBefore.{ProgramOrder, SeqCstBefore}
use Rattle.c11_events.specs.Lawful.{Fenced}
use Rattle.c11_events.specs.Chains.{write_write, read_read, seq_cst}
use Rattle.c11_events.specs.Priors.{IsKnown, Prior}
use Rattle.c11_events.specs.Priors as priors
use Rattle.c11_events.proofs.Basics.{at_same}
use Rattle.c11_events.proofs.Longer.{new_is}
use Rattle.c11_events.proofs.Prefix.{get_more}
use Rattle.c11_latest.specs.Notes.{Notes, HasNoneUpTo, IsLastUpTo}
use Rattle.c11_latest.proofs.Places.{old_or_last, get_last}
use Rattle.c11_mograph.specs.Made.{list_of}
use Rattle.c11_scorder.specs.Laws.{FencesDecide, AnswersDecide, LastStoreStandsForAll, IsDecisive, own, other}
use Rattle.c11_scorder.specs.SeqCst.{IsLast, Answers, IsOf, IsStoreOf, IsSeqCstStore, IsSeqCstFenceOf, IsBeforeFence}
use Rattle.c11_scorder.specs.SeqCst as before
use Rattle.c11_scorder.specs.Tables.{AreNoted, by_store}
use Rattle.c11_mayread.specs.Priors.{In, IsOrPrecedes, IsNextOf, PriorTo, ArePriors, KnowsUpTo, IsLoadOf, IsLastRead, IsBeforeLastFence, PriorBy, known_store, known_load, fenced, AddsPriorsBy}
use Rattle.c11_mayread.specs.Priors as to

-- members of a longer list
pub in_more : (xs ys : List ℕ) (p : ℕ) → In xs p → In (xs ++ ys) p
in_more xs ys p i = (i.0, get_more xs ys i.0 p i.1)

pub in_some : (xs : List ℕ) (o : Option ℕ) (p : ℕ) → o ≡ Some p → In (xs ++ list_of o) p
in_some xs None p is = cc
in_some xs (Some q) p is = let same : q ≡ p = cc in (length xs, get_last xs q ∙ ap (λ (z : ℕ). Some z) same)

pub in_cases : (xs : List ℕ) (o : Option ℕ) (p : ℕ) → In (xs ++ list_of o) p → In xs p ⊎ (o ≡ Some p)
in_cases xs None p i = inl (i.0, subst (λ (l : List ℕ). slice_get l i.0 ≡ Some p) (nil xs) i.1)
  where
    nil : (xs : List ℕ) → xs ++ [] ≡ xs
    nil [] = refl
    nil (x ∷ xs) = ap (λ (l : List ℕ). x ∷ l) (nil xs)
in_cases xs (Some q) p i = elim (old_or_last xs q i.0 p i.1) [ inl old ↦ inl (i.0, old.1) | inr new ↦ inr (ap (λ (z : ℕ). Some z) new.1) ]

pub program : (events : List Event) (of a b : ℕ) → IsOf events of a → IsOf events of b → a < b → ProgramOrder events a b
program events of a b o p less = record { thread = record { event = o.event; is = o.is; holds = record { event = p.event; is = p.is; holds = o.holds ∙ sym p.holds } }; earlier = less }

-- of two stores of the cell by one thread the earlier must precede the later
pub earlier_store : (events : List Event) (cell of a x : ℕ) → IsStoreOf events cell of a → IsStoreOf events cell of x → a ≤ x → IsOrPrecedes events cell a x
earlier_store events cell of a x s t le = dite (ℕ_discrete a x) (λ (same : a ≡ x). inl same)
    (λ (differ : a ≡ x → ⊥). inr (record { first = s.0; second = t.0; differ = differ; cause = write_write (one (inl (program events of a x s.1 t.1 (omega arith)))) }))

module _ (events : List Event) (e : Event) (cell of : ℕ) where
  abbrev pub KnownStore : ℕ → Type 0
  KnownStore a = IsStoreOf events cell of a × IsKnown events e a

  abbrev pub KnownLoad : ℕ → Type 0
  KnownLoad a = (l : ℕ) × (IsLoad events cell l a × (IsOf events of l × IsKnown events e l))

  -- the answer is a prior store, which stands for all of these
  pub record Stands (P : ℕ → Type 0) (o : Option ℕ) : Type 0 where
    pub only : (x : ℕ) → o ≡ Some x → Prior events e cell x
    pub all : (a : ℕ) → P a → (x : ℕ) × ((o ≡ Some x) × IsOrPrecedes events cell a x)

  module _ (number : ℕ) (knows : KnowsUpTo events e of number) where
    pub finds_store : (notes : Notes) → AreNoted by_store events notes → (o : Option ℕ) → MatchOption o (HasNoneUpTo notes.notes cell of number) (IsLastUpTo notes.notes cell of number) → Stands KnownStore o
    finds_store notes noted None none = record {
      only = λ x is. cc;
      all = λ a k. absurd (none a ((noted cell of a).1 (record { event = k.0.0.event; is = k.0.0.is; holds = (k.0.0.holds, subst (λ (f : Event). f.thread ≡ of) (at_same events a k.0.1.event k.0.0.event k.0.1.is k.0.0.is) k.0.1.holds) }))
          ((knows a k.0.1).1 k.1));
    }
    finds_store notes noted (Some y) is = record {
      only = λ x same. let e' : y ≡ x = cc in subst (λ (z : ℕ). Prior events e cell z) e' (priors.known_store here.0 ((knows y here.1).0 is.within));
      all = λ a k. (
        y,
        (
          refl,
          earlier_store events cell of a y k.0 here (is.last a
              ((noted cell of a).1 (record { event = k.0.0.event; is = k.0.0.is; holds = (k.0.0.holds, subst (λ (f : Event). f.thread ≡ of) (at_same events a k.0.1.event k.0.0.event k.0.1.is k.0.0.is) k.0.1.holds) }))
              ((knows a k.0.1).1 k.1)),
        ),
      );
    }
      where
        here : IsStoreOf events cell of y
        here = let t = (noted cell of y).0 is.noted in (record { event = t.event; is = t.is; holds = t.holds.0 }, record { event = t.event; is = t.is; holds = t.holds.1 })

    pub finds_read : ReadsEarlier events → (o : Option ℕ) → IsLastRead events cell of number o → Stands KnownLoad o
    finds_read reads None none = record { only = λ x is. cc; all = λ a k. absurd (none k.0 (a, (k.1.0, k.1.1.0)) ((knows k.0 k.1.1.0).1 k.1.1.1)) }
    finds_read reads (Some y) is = record {
      only = λ x same. let e' : y ≡ x = cc in subst (λ (z : ℕ). Prior events e cell z) e' (priors.known_load is.1.1 ((knows is.0 is.1.0.is.0.1.1).0 is.1.0.is.1));
      all = λ a k. (y, (refl, by_order a k.0 k.1.0 k.1.1.0 (is.1.0.last k.0 ((a, (k.1.0, k.1.1.0)), (knows k.0 k.1.1.0).1 k.1.1.1))));
    }
      where
        by_order : (a k : ℕ) → IsLoad events cell k a → IsOf events of k → k ≤ is.0 → IsOrPrecedes events cell a y
        by_order a k load own_load le = dite (ℕ_discrete k is.0)
            (λ (same : k ≡ is.0).
            let load' = subst (λ (z : ℕ). IsLoad events cell z a) same load in
            inl (sym load'.holds.1 ∙ (ap (λ (f : Event). f.from) (at_same events is.0 load'.event is.1.1.event load'.is is.1.1.is) ∙ is.1.1.holds.1)))
            (λ (other' : k ≡ is.0 → ⊥). dite (ℕ_discrete a y) (λ (same : a ≡ y). inl same)
            (λ (differ : a ≡ y → ⊥). inr (record {
              first = (reads cell k a load).0;
              second = (reads cell is.0 y is.1.1).0;
              differ = differ;
              cause = read_read load is.1.1 (one (inl (program events of k is.0 own_load is.1.0.is.0.1.1 (omega arith))));
            })))

  store_of : (f a : ℕ) → IsBeforeFence events cell of f a → IsStoreOf events cell of a
  store_of f a (before.seq_cst s b) = s
  store_of f a (before.fenced s p is r) = s

  abbrev Before : ℕ → ℕ → Type 0
  Before thread a = (f : ℕ) × (IsLast (IsSeqCstFenceOf events thread) f × IsBeforeFence events cell of f a)

  module _ (decide : FencesDecide) (answers : AnswersDecide) where
    -- what is before a decisive fence is prior
    before_prior : (f a : ℕ) → IsDecisive events e of f → IsBeforeFence events cell of f a → Prior events e cell a
    before_prior f a d b = let s = store_of f a b in elim ((decide events e cell of a s).1 f d b) [
      | inl held ↦ priors.fenced s.0 held
      | inr p ↦ priors.known_store s.0 (record { m = a; last = inl p; leads = inl refl })
    ]

    answer_prior : (thread : ℕ) → ((f : ℕ) → IsLast (IsSeqCstFenceOf events thread) f → IsDecisive events e of f) → (o : Option ℕ) → IsBeforeLastFence events thread cell of o
        → (x : ℕ) → o ≡ Some x → Prior events e cell x
    answer_prior thread decisive None none x is = cc
    answer_prior thread decisive (Some y) is x same = let e' : y ≡ x = cc in subst (λ (z : ℕ). Prior events e cell z) e' (before_prior is.is.0 y (decisive is.is.0 is.is.1.0) is.is.1.1)

    answer_stands : (thread x : ℕ) (o : Option ℕ) → IsBeforeLastFence events thread cell of o → Before thread x → (a : ℕ) → IsStoreOf events cell of a → a ≤ x
        → (y : ℕ) × ((o ≡ Some y) × IsOrPrecedes events cell a y)
    answer_stands thread x None none b a s le = absurd (none x b)
    answer_stands thread x (Some y) is b a s le = let le' = is.last x b in (y, (refl, earlier_store events cell of a y s (store_of is.is.0 y is.is.1.1) (omega arith)))

    -- of the answers by the fence of the event's thread and by that of the store's thread one stands for each store that fences hold
    module _ (o o' : Option ℕ) (by_own : IsBeforeLastFence events e.thread cell of o) (by_other : is_seq_cst e.kind ≡ true → IsBeforeLastFence events of cell of o')
        (no_other : is_seq_cst e.kind ≡ false → o' ≡ None) where
      pub own_prior : (x : ℕ) → o ≡ Some x → Prior events e cell x
      own_prior = answer_prior e.thread (λ f last. own last) o by_own

      other_by : (b : Bool) → is_seq_cst e.kind ≡ b → (x : ℕ) → o' ≡ Some x → Prior events e cell x
      other_by true is x same = answer_prior of (λ f last. other is last) o' (by_other is) x same
      other_by false is x same = let none = no_other is in cc

      pub other_prior : (x : ℕ) → o' ≡ Some x → Prior events e cell x
      other_prior = other_by (is_seq_cst e.kind) refl

      pub fence_stands : (a : ℕ) → IsStoreOf events cell of a → Fenced (events ++ e ∷ []) a (suc (length events))
          → (y : ℕ) × (((o ≡ Some y) ⊎ (o' ≡ Some y)) × IsOrPrecedes events cell a y)
      fence_stands a s held =
          let t = (answers events e cell of).0 a s held in
          elim t.1.1 as (λ _. (y : ℕ) × (((o ≡ Some y) ⊎ (o' ≡ Some y)) × IsOrPrecedes events cell a y)) [
            | own last ↦ (let r = answer_stands e.thread t.0 o by_own (t.1.0, (last, t.1.2.is)) a s t.2 in (r.0, (inl r.1.0, r.1.1)))
            | other is last ↦ (let r = answer_stands of t.0 o' (by_other is) (t.1.0, (last, t.1.2.is)) a s t.2 in (r.0, (inr r.1.0, r.1.1)))
          ]

      pub adds : (old : List ℕ) (o1 o2 : Option ℕ) → Stands KnownStore o1 → Stands KnownLoad o2
          → AddsPriorsBy events e cell of old ((((old ++ list_of o1) ++ list_of o2) ++ list_of o) ++ list_of o')
      adds old o1 o2 s1 s2 =
          let l1 = old ++ list_of o1 in
          let l2 = l1 ++ list_of o2 in
          let l3 = l2 ++ list_of o in
          record {
            stays = λ p i. in_more l3 (list_of o') p (in_more l2 (list_of o) p (in_more l1 (list_of o2) p (in_more old (list_of o1) p i)));
            only = λ p i. elim (in_cases l3 o' p i) [
              | inr is ↦ inr (other_prior p is)
              | inl i3 ↦ elim (in_cases l2 o p i3) [
                | inr is ↦ inr (own_prior p is)
                | inl i2 ↦ elim (in_cases l1 o2 p i2) [
                  | inr is ↦ inr (s2.only p is)
                  | inl i1 ↦ elim (in_cases old o1 p i1) [ inr is ↦ inr (s1.only p is) | inl i0 ↦ inl i0 ]
                ]
              ]
            ];
            all = λ a p. all_of old o1 o2 s1 s2 a p;
          }
        where
          all_of : (old : List ℕ) (o1 o2 : Option ℕ) → Stands KnownStore o1 → Stands KnownLoad o2 → (a : ℕ) → PriorBy events e cell of a
              → (p : ℕ) × (In ((((old ++ list_of o1) ++ list_of o2) ++ list_of o) ++ list_of o') p × IsOrPrecedes events cell a p)
          all_of old o1 o2 s1 s2 a (known_store s k) = let r = s1.all a (s, k) in
              (r.0, (in_more (((old ++ list_of o1) ++ list_of o2) ++ list_of o) (list_of o') r.0 (in_more ((old ++ list_of o1) ++ list_of o2) (list_of o) r.0 (in_more (old ++ list_of o1) (list_of o2) r.0 (in_some old o1 r.0 r.1.0))), r.1.1))
          all_of old o1 o2 s1 s2 a (known_load {l = l} load is k) = let r = s2.all a (l, (load, (is, k))) in
              (r.0, (in_more (((old ++ list_of o1) ++ list_of o2) ++ list_of o) (list_of o') r.0 (in_more ((old ++ list_of o1) ++ list_of o2) (list_of o) r.0 (in_some (old ++ list_of o1) o2 r.0 r.1.0)), r.1.1))
          all_of old o1 o2 s1 s2 a (fenced s held) = let r = fence_stands a s held in (
            r.0,
            (
              elim r.1.0 [
                | inl is ↦ in_more (((old ++ list_of o1) ++ list_of o2) ++ list_of o) (list_of o') r.0 (in_some ((old ++ list_of o1) ++ list_of o2) o r.0 is)
                | inr is ↦ in_some (((old ++ list_of o1) ++ list_of o2) ++ list_of o) o' r.0 is
              ],
              r.1.1,
            ),
          )

-- the priors of the first threads
pub record PriorsBelow (events : List Event) (e : Event) (cell count : ℕ) (list : List ℕ) : Type 0 where
  pub only : (p : ℕ) → In list p → Prior events e cell p
  pub all : (of : ℕ) → of < count → (a : ℕ) → PriorBy events e cell of a → (p : ℕ) × (In list p × IsOrPrecedes events cell a p)

pub below_none : (events : List Event) (e : Event) (cell : ℕ) (list : List ℕ) → list ≡ [] → PriorsBelow events e cell 0 list
below_none events e cell list is = record {
  only = λ p i. let clash : slice_get [] i.0 ≡ Some p = subst (λ (l : List ℕ). slice_get l i.0 ≡ Some p) is i.1 in cc;
  all = λ of lt. absurd (omega arith);
}

pub below_more : (events : List Event) (e : Event) (cell of : ℕ) (old new : List ℕ) → AddsPriorsBy events e cell of old new → PriorsBelow events e cell of old → PriorsBelow events e cell (of + 1) new
below_more events e cell of old new adds below = record {
  only = λ p i. elim (adds.only p i) [ inl i' ↦ below.only p i' | inr p' ↦ p' ];
  all = λ w lt a p. dite (ℕ_discrete w of)
      (λ (same : w ≡ of). adds.all a (subst (λ (z : ℕ). PriorBy events e cell z a) same p))
      (λ (differ : w ≡ of → ⊥). let r = below.all w (omega arith) a p in (r.0, (adds.stays r.0 r.1.0, r.1.1)));
}

module _ (events : List Event) (e : Event) (cell threads : ℕ) (within : (a : ℕ) (f : Event) → At events a (λ g. g ≡ f) → f.thread < threads) where
  abbrev ByThread : ℕ → Type 0
  ByThread a = (of : ℕ) × ((of < threads) × PriorBy events e cell of a)

  by_thread : (a : ℕ) → Prior events e cell a → ByThread a
  by_thread a (priors.known_store s k) = (s.event.thread, (within a s.event (record { event = s.event; is = s.is; holds = refl }), known_store (s, record { event = s.event; is = s.is; holds = refl }) k))
  by_thread a (priors.known_load {l = l} load k) = (load.event.thread, (within l load.event (record { event = load.event; is = load.is; holds = refl }), known_load load (record { event = load.event; is = load.is; holds = refl }) k))
  by_thread a (priors.fenced s held) = (s.event.thread, (within a s.event (record { event = s.event; is = s.is; holds = refl }), fenced (s, record { event = s.event; is = s.is; holds = refl }) held))

  pub read_priors : (list : List ℕ) → PriorsBelow events e cell threads list → ArePriors events e cell false list
  read_priors list below = record {
    only = λ p i. to.prior (below.only p i);
    all = λ a p. all_of a p;
  }
    where
      all_of : (a : ℕ) → PriorTo events e cell false a → (p : ℕ) × (In list p × IsOrPrecedes events cell a p)
      all_of a (to.prior p) = let t = by_thread a p in below.all t.0 t.1.0 a t.1.1
      all_of a (to.seq_cst is s b) = absurd (let clash : false ≡ true = is in cc)

pub both_true : (b c : Bool) → b ≡ true → c ≡ true → (b && c) ≡ true
both_true true c is is' = is'
both_true false c is is' = cc

pub not_both : (b c : Bool) → (b ≡ true → c ≡ true → ⊥) → (b && c) ≡ false
not_both true true n = absurd (n refl refl)
not_both true false n = refl
not_both false c n = refl

-- with the last seq_cst store
module _ (last : LastStoreStandsForAll) (events : List Event) (e : Event) (cell : ℕ) (stores : Bool) (list : List ℕ) (o : Option ℕ)
    (found : is_seq_cst e.kind ≡ true → stores ≡ true → Answers (IsSeqCstStore events cell) o) (none : (is_seq_cst e.kind ≡ true → stores ≡ true → ⊥) → o ≡ None)
    (read : ArePriors events e cell false list) where
  last_prior : (b c : Bool) → is_seq_cst e.kind ≡ b → stores ≡ c → (o' : Option ℕ) → (p : ℕ) → o ≡ o' → o' ≡ Some p → PriorTo events e cell stores p
  last_prior true true sc st None p is is' = cc
  last_prior true true sc st (Some q) p is is' =
      let same : q ≡ p = cc in
      let answer : IsLast (IsSeqCstStore events cell) q = subst (λ (r : Option ℕ). Answers (IsSeqCstStore events cell) r) is (found sc st) in
      subst (λ (z : ℕ). PriorTo events e cell stores z) same (to.seq_cst st answer.is.0 ((last events e cell).1 q answer sc))
  last_prior false c sc st o' p is is' = let gone = none (λ sc' _. let clash : true ≡ false = sym sc' ∙ sc in cc) in cc
  last_prior true false sc st o' p is is' = let gone = none (λ _ st'. let clash : true ≡ false = sym st' ∙ st in cc) in cc

  widen : (a : ℕ) → PriorTo events e cell false a → PriorTo events e cell stores a
  widen a (to.prior p) = to.prior p
  widen a (to.seq_cst is s b) = absurd (let clash : false ≡ true = is in cc)

  found_last : (o' : Option ℕ) → o ≡ o' → Answers (IsSeqCstStore events cell) o' → (a : ℕ) → IsStore events cell a → SeqCstBefore (events ++ e ∷ []) a (suc (length events))
      → (p : ℕ) × ((o ≡ Some p) × IsOrPrecedes events cell a p)
  found_last None is answer a s b = let t = (last events e cell).0 a s b in absurd (answer t.0 t.1.is)
  found_last (Some q) is answer a s b =
      let t = (last events e cell).0 a s b in
      let le = t.1.last q answer.is in
      let le' = answer.last t.0 t.1.is in
      let same : t.0 ≡ q = omega arith in (
        q,
        (
          is,
          elim t.2 [
            | inl e' ↦ inl (e' ∙ same)
            | inr b' ↦ inr (record { first = s; second = answer.is.0; differ = λ e'. absurd (omega (arith, e', b'.earlier, same)); cause = seq_cst (subst (λ (z : ℕ). SeqCstBefore events a z) same b') })
          ],
        ),
      )

  all_of : (a : ℕ) → PriorTo events e cell stores a → (p : ℕ) × (In (list ++ list_of o) p × IsOrPrecedes events cell a p)
  all_of a (to.prior p) = let r = read.all a (to.prior p) in (r.0, (in_more list (list_of o) r.0 r.1.0, r.1.1))
  all_of a (to.seq_cst is s b) =
      let sc : is_seq_cst e.kind ≡ true = new_seq_cst b in
      let r = found_last o refl (found sc is) a s b in (r.0, (in_some list o r.0 r.1.0, r.1.1))
    where
      new_seq_cst : SeqCstBefore (events ++ e ∷ []) a (suc (length events)) → is_seq_cst e.kind ≡ true
      new_seq_cst b = subst (λ (f : Event). is_seq_cst f.kind ≡ true) (at_same (events ++ e ∷ []) (suc (length events)) b.second.event e b.second.is (new_is events e)) b.second.holds

  pub all_priors : ArePriors events e cell stores (list ++ list_of o)
  all_priors = record {
    only = λ p i. elim (in_cases list o p i) [
      | inl i' ↦ widen p (read.only p i')
      | inr is ↦ last_prior (is_seq_cst e.kind) stores refl refl o p refl is
    ];
    all = all_of;
  }
