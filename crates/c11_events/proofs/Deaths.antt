-- A dead store stays unread.
use Rattle.std.proofs.Common.{◌≡◌, ℕ, zero, suc, ◌+◌, ◌-◌, ◌<◌, ◌≤◌, Bool, true, false, List, [], ◌∷◌, ◌++◌, Some, None, slice_get, length, take, append_assoc, cond, refl, sym, ap, ◌∙◌, subst, arith, ◌⊎◌, inl, inr}
use Rattle.std.proofs.lemmas.List.{take-append-le, take_all, length-append}
use Rattle.std.proofs.lemmas.List.Sums.{sum_by-cons}
use native.Mathlib.Decide.{ℕ_discrete, dec_lt, dec_le}
use mathlib.Core.Logic.{dite}
use Rattle.c11_events.specs.declared.event.Event.{Event}
use Rattle.c11_events.specs.Closure.{one, join}
use Rattle.c11_events.specs.Events.{At, IsStore, IsLoad, is_create, is_end}
use Rattle.c11_events.specs.HappensBefore.{create_to_first, HappensBefore}
use Rattle.c11_events.specs.Threads.{created, has_ended, IsLive}
use Rattle.c11_events.specs.Lawful.{Precedes, Lawful, Consistent}
use Rattle.c11_events.specs.Chains.{Link, Reach}
use Rattle.c11_events.specs.Dead.{IsLiveAt, AreOfLive, IsMark, own, made, IsDead}
use Rattle.c11_events.specs.Laws.{DeadIsNotOffered}
use Rattle.c11_events.proofs.Basics.{chain_store}
use Rattle.c11_events.proofs.Living.{not_ended, is_going}
use Rattle.c11_events.proofs.Decide.{Below, dec_below}
use Rattle.c11_events.proofs.DecideEvents.{at_below, dec_at}
use Rattle.c11_events.proofs.Reaches.{reach_before}
use Rattle.c11_events.proofs.Longer.{new_is, old_or_new}
use Rattle.c11_events.proofs.Prefix.{closure_map, same_more, same_less, load_more, hb_more}
use Rattle.c11_events.proofs.Prefixes.{ranked_more, link_more}
use Rattle.c11_events.proofs.Turns.{least_of}

reach_more : (events more : List Event) (cell a b : ℕ) → Reach events cell a b → Reach (events ++ more) cell a b
reach_more events more cell a b r = record {
  h = r.h;
  k = r.k;
  i = r.i;
  j = r.j;
  first = ranked_more events more cell r.h r.i a r.first;
  second = ranked_more events more cell r.k r.j b r.second;
  leads = elim r.leads [ inl p ↦ inl (p.0, closure_map (Link events cell) (Link (events ++ more) cell) (link_more events more cell) r.h r.k p.1) | inr p ↦ inr p ];
}

abbrev bit : Bool → ℕ
bit b = cond b 1 0

created_cons : (e : Event) (es : List Event) (p : ℕ) → created (take (suc p) (e ∷ es)) ≡ bit (is_create e.kind) + created (take p es)
created_cons e es p = sum_by-cons (λ f. cond (is_create f.kind) 1 0) e (take p es)

created_rises : (es : List Event) (p q : ℕ) → p ≤ q → created (take p es) ≤ created (take q es)
created_rises [] zero q le = omega arith
created_rises [] (suc p) zero le = omega arith
created_rises [] (suc p) (suc q) le = omega arith
created_rises (e ∷ es) zero q le = omega arith
created_rises (e ∷ es) (suc p) zero le = absurd (omega arith)
created_rises (e ∷ es) (suc p) (suc q) le = omega (arith, created_rises es p q (omega arith), created_cons e es p, created_cons e es q)

-- the Create that makes the thread u + 1 is among the first p events
abbrev Maker : List Event → ℕ → ℕ → Type 0
Maker es p u = (k : ℕ) × (k ≤ p) × At es k (λ e. is_create e.kind ≡ true) × (created (take k es) ≡ suc u)

maker_on : (e : Event) (es : List Event) (p u v : ℕ) (b : Bool) → is_create e.kind ≡ b → bit b + v ≡ u → Maker es p v → Maker (e ∷ es) (suc p) u
maker_on e es p u v b is sum (zero, le, at, count) = absurd (let none : None ≡ Some at.event = at.is in cc)
maker_on e es p u v b is sum (suc k, le, at, count) = (
  suc (suc k),
  omega arith,
  record { event = at.event; is = at.is; holds = at.holds },
  let first : bit (is_create e.kind) ≡ bit b = ap bit is in omega (arith, first, count, sum, created_cons e es (suc k)),
)

maker_by : (e : Event) (es : List Event) (p u : ℕ) (b : Bool) → is_create e.kind ≡ b → ((v : ℕ) → suc v ≤ created (take p es) → Maker es p v) → suc u ≤ bit b + created (take p es) → Maker (e ∷ es) (suc p) u
maker_by e es p u false is rest le = maker_on e es p u u false is (omega arith) (rest u (omega arith))
maker_by e es p zero true is rest le = (1, omega arith, record { event = e; is = refl; holds = is }, let first : bit (is_create e.kind) ≡ 1 = ap bit is in omega (arith, first, created_cons e es 0))
maker_by e es p (suc u) true is rest le = maker_on e es p (suc u) u true is (omega arith) (rest u (omega arith))

maker : (es : List Event) (p u : ℕ) → suc u ≤ created (take p es) → Maker es p u
maker [] zero u le = absurd (omega arith)
maker [] (suc p) u le = absurd (omega arith)
maker (e ∷ es) zero u le = absurd (omega arith)
maker (e ∷ es) (suc p) u le = maker_by e es p u (is_create e.kind) refl (λ v le'. maker es p v le') (omega (arith, le, created_cons e es p))

behind_zero : (Q : ℕ → Type 0) → ((k : ℕ) → Q (suc k)) → (k : ℕ) → 0 < k → Q k
behind_zero Q q zero lt = absurd (omega arith)
behind_zero Q q (suc k) lt = q k

-- the greatest below n
pub greatest : (n : ℕ) (P : ℕ → Type 0) → ((k : ℕ) → Dec (P k)) → Below n P → (k : ℕ) × (k < n) × P k × ((m : ℕ) → m < n → P m → m ≤ k)
greatest n P d b = let t = least_of (λ k. n - k) n P d b in (t.0, t.1, t.2, λ m lt p. omega (arith, t.1, t.3 m lt p))

module _ (events rest : List Event) (legal : AreOfLive (events ++ rest)) (marks : (w : ℕ) → IsLive events w → (m : ℕ) × IsMark events w m) where
  abbrev Of : ℕ → ℕ → Type 0
  Of u a = At (events ++ rest) a (λ e. e.thread ≡ u)

  dec_of : (u a : ℕ) → Dec (Of u a)
  dec_of u a = dec_at (events ++ rest) a (λ e. e.thread ≡ u) (λ e. ℕ_discrete e.thread u)

  -- some live thread's mark happens before n
  abbrev Marked : ℕ → Type 0
  Marked n = (w : ℕ) × (IsLive events w × ((m : ℕ) × (IsMark events w m × HappensBefore (events ++ rest) m n)))

  program : (u a b : ℕ) → Of u a → Of u b → a < b → HappensBefore (events ++ rest) a b
  program u a b s t lt = one (inl (record { thread = record { event = s.event; is = s.is; holds = record { event = t.event; is = t.is; holds = s.holds ∙ sym t.holds } }; earlier = lt }))

  marked_on : (b n : ℕ) → Marked b → HappensBefore (events ++ rest) b n → Marked n
  marked_on b n t h = (t.0, (t.1.0, (t.1.1.0, (t.1.1.1.0, join t.1.1.1.1 h))))

  old_end : (u n : ℕ) → length events ≤ n → IsLiveAt (events ++ rest) n u → has_ended events u ≡ false
  old_end u n le live = is_going events u
      (λ a t. not_ended (events ++ rest) n u live.going a (omega (arith, at_below events a (λ e. (e.thread ≡ u) × (is_end e.kind ≡ true)) t)) (same_more events rest a (λ e. (e.thread ≡ u) × (is_end e.kind ≡ true)) t))

  created_whole : created (take (length events) events) ≡ created events
  created_whole = ap (λ (es : List Event). created es) (take_all _ events (omega arith))

  created_old : (b : ℕ) → b ≤ length events → created (take b (events ++ rest)) ≡ created (take b events)
  created_old b le = ap (λ (es : List Event). created es) (take-append-le b events rest le)

  -- u has an event before, the last of which is b
  from_own : (n u b : ℕ) → length events ≤ n → Of u (suc n) → Of u b → b ≤ n → ((a : ℕ) → a < suc n → Of u a → a ≤ b) → ((k : ℕ) → k < suc n → length events < k → (v : ℕ) → Of v k → Marked k) → Marked (suc n)
  from_own n u b le of_n of_b b_le last earlier = dite (dec_le b (length events))
      (λ (old : b ≤ length events).
      let live = legal n u of_n in
      let at_b = same_less events rest b (λ e. e.thread ≡ u) old of_b in (
        u,
        (
          record { started = began b old of_b; going = old_end u n le live },
          (b, (own at_b (λ a t. last a (omega (arith, at_below events a (λ e. e.thread ≡ u) t)) (same_more events rest a (λ e. e.thread ≡ u) t)), program u b (suc n) of_b of_n (omega arith))),
        ),
      ))
      (λ (new : b ≤ length events → ⊥). marked_on b (suc n) (earlier b (omega arith) (omega arith) u of_b) (program u b (suc n) of_b of_n (omega arith)))
    where
      began : (b : ℕ) → b ≤ length events → Of u b → u ≤ created events
      began zero old t = absurd (let none : None ≡ Some t.event = t.is in cc)
      began (suc p) old t = omega (arith, (legal p u t).started, created_old p (omega arith), created_rises events p (length events) (omega arith), created_whole)

  -- n is the first event of u, which k makes
  from_create : (n u k : ℕ) → length events ≤ n → Of u (suc n) → ((a : ℕ) → a < suc n → Of u a → ⊥) → k ≤ n → At (events ++ rest) k (λ e. is_create e.kind ≡ true) → u ≡ created (take k (events ++ rest))
      → ((k : ℕ) → k < suc n → length events < k → (v : ℕ) → Of v k → Marked k) → Marked (suc n)
  from_create n u k le of_n none_before k_le is_create_k count earlier =
      let sync : HappensBefore (events ++ rest) k (suc n) = one (inr (create_to_first (record {
        create = is_create_k;
        thread = record { event = of_n.event; is = of_n.is; holds = of_n.holds ∙ count };
        first = λ c lt t. none_before c lt (record { event = t.event; is = t.is; holds = t.holds ∙ sym count });
        earlier = omega arith;
      }))) in
      dite (dec_le k (length events))
      (λ (old : k ≤ length events).
      let same = created_old k old in (
        u,
        (
          record { started = omega (arith, count, same, created_rises events k (length events) old, created_whole); going = old_end u n le (legal n u of_n) },
          (
            k,
            (
              made (λ b t. none_before b (omega (arith, at_below events b (λ e. e.thread ≡ u) t)) (same_more events rest b (λ e. e.thread ≡ u) t))
                  (same_less events rest k (λ e. is_create e.kind ≡ true) old is_create_k) (count ∙ same),
              sync,
            ),
          ),
        ),
      ))
      (λ (new : k ≤ length events → ⊥). marked_on k (suc n) (earlier k (omega arith) (omega arith) is_create_k.event.thread (record { event = is_create_k.event; is = is_create_k.is; holds = refl })) sync)

  -- thread 0 has an event where it is live and marked
  zero_marked : (n : ℕ) → length events ≤ n → Of 0 (suc n) → ((a : ℕ) → a < suc n → Of 0 a → ⊥) → ⊥
  zero_marked n le of_n none_before =
      let t = marks 0 (record { started = omega arith; going = old_end 0 n le (legal n 0 of_n) }) in
      no_mark t.0 t.1
    where
      no_mark : (m : ℕ) → IsMark events 0 m → ⊥
      no_mark m (own at last) = none_before m (omega (arith, at_below events m (λ e. e.thread ≡ 0) at)) (same_more events rest m (λ e. e.thread ≡ 0) at)
      no_mark zero (made none at count) = let clash : None ≡ Some at.event = at.is in cc
      no_mark (suc p) (made none at count) = omega (arith, count, count_one events p at.event at.is at.holds)
        where
          count_one : (es : List Event) (p : ℕ) (e : Event) → slice_get es p ≡ Some e → is_create e.kind ≡ true → 1 ≤ created (take (suc p) es)
          count_one [] p e at is = cc
          count_one (f ∷ es) zero e at is = let same : f ≡ e = cc in let first : bit (is_create f.kind) ≡ 1 = ap (λ (g : Event). bit (is_create g.kind)) same ∙ ap bit is in omega (arith, first, created_cons f es 0)
          count_one (f ∷ es) (suc p) e at is = omega (arith, count_one es p e at is, created_cons f es (suc p))

  first_event : (n u : ℕ) → length events ≤ n → Of u (suc n) → ((a : ℕ) → a < suc n → Of u a → ⊥) → ((k : ℕ) → k < suc n → length events < k → (v : ℕ) → Of v k → Marked k) → Marked (suc n)
  first_event n zero le of_n none_before earlier = absurd (zero_marked n le of_n none_before)
  first_event n (suc u) le of_n none_before earlier =
      let k = maker (events ++ rest) n u (legal n (suc u) of_n).started in from_create n (suc u) k.0 le of_n none_before k.1 k.2 (sym k.3) earlier

  marked_below : (bound n u : ℕ) → suc n < bound → length events ≤ n → Of u (suc n) → Marked (suc n)
  marked_below zero n u lt le of_n = absurd (omega arith)
  marked_below (suc bound) n u lt le of_n =
      dite (dec_below (suc n) (Of u) (dec_of u))
      (λ (b : Below (suc n) (Of u)). let t = greatest (suc n) (Of u) (dec_of u) b in from_own n u t.0 le of_n t.2 (omega (arith, t.1)) t.3 (λ k less new v of_k. behind_zero (λ z. z < suc n → length events < z → Of v z → Marked z) (λ j l m o. marked_below bound j v (omega arith) (omega arith) o) k (omega arith) less new of_k))
      (λ (none_before : Below (suc n) (Of u) → ⊥). first_event n u le of_n (λ a less t. none_before (a, less, t)) (λ k less new v of_k. behind_zero (λ z. z < suc n → length events < z → Of v z → Marked z) (λ j l m o. marked_below bound j v (omega arith) (omega arith) o) k (omega arith) less new of_k))

  pub marked : (n u : ℕ) → length events ≤ n → Of u (suc n) → Marked (suc n)
  marked n u le of_n = marked_below (suc (suc n)) n u (omega arith) le of_n

no_lawful_read : (events : List Event) (cell n a x y : ℕ) (order : List ℕ) → Lawful events cell order → IsStore events cell y → IsLoad events cell n x → Precedes order x y
    → (a ≡ y) ⊎ IsLoad events cell a y → HappensBefore events a n → ⊥
no_lawful_read events cell n a x y order lawful sy load before (inl same) h = lawful.write_read_coherence y n x sy load (subst (λ (z : ℕ). HappensBefore events z n) same h) before
no_lawful_read events cell n a x y order lawful sy load before (inr load') h = lawful.read_read_coherence a y n x load' load h before

-- the next event of a thread that was live
next_legal : (events : List Event) (e : Event) → AreOfLive events → IsLive events e.thread → AreOfLive (events ++ e ∷ [])
next_legal events e legal live n u t = elim (old_or_new events e (suc n) (λ f. f.thread ≡ u) t) [
  | inl le ↦ (let l = legal n u (same_less events (e ∷ []) (suc n) (λ f. f.thread ≡ u) le t) in longer n (omega arith) l)
  | inr p ↦ (let end : length events ≡ n = omega (arith, p.0) in
      longer n (omega arith) (subst (λ (z : ℕ). IsLiveAt events n z) p.1 (subst (λ (k : ℕ). IsLiveAt events k e.thread) end (subst (λ (es : List Event). IsLive es e.thread) (sym (take_all _ events (omega arith))) live))))
]
  where
    longer : (n : ℕ) → n ≤ length events → IsLiveAt events n u → IsLiveAt (events ++ e ∷ []) n u
    longer n le l = subst (λ (es : List Event). IsLive es u) (sym (take-append-le n events (e ∷ []) le)) l

create_grows : (es : List Event) (q p : ℕ) (e : Event) → slice_get es p ≡ Some e → is_create e.kind ≡ true → q ≤ p → suc (created (take q es)) ≤ created (take (suc p) es)
create_grows [] q p e at is le = cc
create_grows (f ∷ es) zero zero e at is le = let same : f ≡ e = cc in let first : bit (is_create f.kind) ≡ 1 = ap (λ (g : Event). bit (is_create g.kind)) same ∙ ap bit is in omega (arith, first, created_cons f es 0)
create_grows (f ∷ es) zero (suc p) e at is le = omega (arith, create_grows es 0 p e at is (omega arith), created_cons f es (suc p))
create_grows (f ∷ es) (suc q) zero e at is le = absurd (omega arith)
create_grows (f ∷ es) (suc q) (suc p) e at is le = omega (arith, create_grows es q p e at is (omega arith), created_cons f es q, created_cons f es (suc p))

-- a Create makes another thread than an earlier one
create_other : (events : List Event) (m k : ℕ) → At events k (λ e. is_create e.kind ≡ true) → m < k → created (take m events) ≡ created (take k events) → ⊥
create_other events m zero t lt same = omega arith
create_other events m (suc p) t lt same = omega (arith, same, create_grows events m p t.event t.is t.holds (omega arith))

pub mark_same : (events : List Event) (u m k : ℕ) → IsMark events u m → IsMark events u k → m ≡ k
mark_same events u m k (own t last) (own s last') = omega (arith, last k s, last' m t)
mark_same events u m k (own t last) (made none s count) = absurd (none m t)
mark_same events u m k (made none t count) (own s last) = absurd (none k s)
mark_same events u m k (made none t count) (made none' s count') = dite (dec_lt m k) (λ (lt : m < k). absurd (create_other events m k s lt (sym count ∙ count')))
    (λ (no' : m < k → ⊥). dite (dec_lt k m) (λ (lt : k < m). absurd (create_other events k m t lt (sym count' ∙ count))) (λ (no'' : k < m → ⊥). omega arith))

unread : (events rest : List Event) (cell x n u : ℕ) → AreOfLive (events ++ rest) → IsDead events cell x → length events ≤ n → At (events ++ rest) (suc n) (λ e. e.thread ≡ u) → IsLoad (events ++ rest) cell (suc n) x → Consistent (events ++ rest) → ⊥
unread events rest cell x n u legal dead le of_n load c =
    let t = marked events rest legal (λ w live. let p = dead w live in (p.mark, p.is_mark)) n u le of_n in
    let p = dead t.0 t.1.0 in
    let same : p.mark ≡ t.1.1.0 = mark_same events t.0 p.mark t.1.1.0 p.is_mark t.1.1.1.0 in
    let to_n : HappensBefore (events ++ rest) p.mark (suc n) = subst (λ (z : ℕ). HappensBefore (events ++ rest) z (suc n)) (sym same) t.1.1.1.1 in
    let from_a : HappensBefore (events ++ rest) p.a (suc n) = elim p.leads [ inl e ↦ subst (λ (z : ℕ). HappensBefore (events ++ rest) z (suc n)) (sym e) to_n | inr h ↦ join (hb_more events rest p.a p.mark h) to_n ] in
    let r = reach_more events rest cell x p.y p.reach in
    no_lawful_read (events ++ rest) cell (suc n) p.a x p.y (c.orders cell) (c.lawful cell) (chain_store (events ++ rest) cell r.k r.j p.y r.second.chain) load
    (reach_before (events ++ rest) cell (c.orders cell) (c.lawful cell) x p.y r)
    (elim p.touches [ inl e ↦ inl e | inr l ↦ inr (load_more events rest cell p.a p.y l) ]) from_a

pub dead_not_offered : DeadIsNotOffered
dead_not_offered events more cell x u reading legal dead live loads o =
    let e : Event = record { number = length (events ++ more) + 1; thread = u; kind = reading x; from = x } in
    let whole : List Event = (events ++ more) ++ e ∷ [] in
    let same : (events ++ more) ++ e ∷ [] ≡ events ++ (more ++ e ∷ []) = append_assoc events more (e ∷ []) in
    unread events (more ++ e ∷ []) cell x (length (events ++ more)) u
    (subst (λ (es : List Event). AreOfLive es) same (next_legal (events ++ more) e legal live)) dead (omega (arith, length-append events more))
    (subst (λ (es : List Event). At es (suc (length (events ++ more))) (λ f. f.thread ≡ u)) same (record { event = e; is = new_is (events ++ more) e; holds = refl }))
    (subst (λ (es : List Event). IsLoad es cell (suc (length (events ++ more))) x) same (record { event = e; is = new_is (events ++ more) e; holds = (loads, refl) }))
    (subst (λ (es : List Event). Consistent es) same o.consistent)
