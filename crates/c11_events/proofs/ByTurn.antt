-- The stores of a cell by the turn of their chain and then by rank.
use Rattle.std.proofs.Common.{◌≡◌, ℕ, zero, suc, ◌+◌, ◌*◌, ◌<◌, List, [], ◌∷◌, Some, slice_get, length, refl, sym, ap, subst, arith}
use native.Mathlib.Decide.{ℕ_discrete, dec_lt}
use mathlib.Core.Logic.{dite}
use Rattle.c11_events.specs.declared.event.Event.{Event}
use Rattle.c11_events.specs.Events.{IsStore, IsRmw, stored_cell, ReadsEarlier}
use Rattle.c11_events.specs.HappensBefore.{next}
use Rattle.c11_events.specs.Lawful.{Precedes, IsNext, IsModificationOrder}
use Rattle.c11_events.specs.Chains.{IsRanked}
use Rattle.c11_events.specs.Layout.{IsHead}
use Rattle.c11_events.proofs.Arrange.{at_in, in_at, arranged, arranged_holds, arranged_all, arranged_sorted, sorted_less}
use Rattle.c11_events.proofs.Count.{digits_less, digits_same}
use Rattle.c11_events.proofs.DecideEvents.{at_below, dec_store}
use Rattle.c11_events.proofs.Level.{head_of}
use Rattle.c11_events.proofs.Basics.{chain_head}
use Rattle.c11_events.proofs.Orders.{before_or}
use Rattle.c11_events.proofs.Ranks.{placed, ranked_same, ranked_one}
use Rattle.c11_events.proofs.Rises.{chain_rises}

get_earlier : (ys : List ℕ) (i j y : ℕ) → slice_get ys j ≡ Some y → i < j → (x : ℕ) × (slice_get ys i ≡ Some x)
get_earlier [] i j y at lt = cc
get_earlier (z ∷ ys) zero j y at lt = (z, refl)
get_earlier (z ∷ ys) (suc i) zero y at lt = absurd (omega arith)
get_earlier (z ∷ ys) (suc i) (suc j) y at lt = get_earlier ys i j y at (omega arith)

module _ (events : List Event) (reads : ReadsEarlier events) (cell : ℕ) (one : (b c x : ℕ) → IsRmw events cell b x → IsRmw events cell c x → b ≡ c)
    (turn : ℕ → ℕ) (distinct : (h k : ℕ) → IsHead events cell h → IsHead events cell k → turn h ≡ turn k → h ≡ k) where
  head_by : (x : ℕ) → Dec (IsStore events cell x) → ℕ
  head_by x (yes s) = (placed events cell reads x s).0
  head_by x (no n) = 0

  rank_by : (x : ℕ) → Dec (IsStore events cell x) → ℕ
  rank_by x (yes s) = (placed events cell reads x s).1.0
  rank_by x (no n) = 0

  abbrev head : ℕ → ℕ
  head x = head_by x (dec_store events cell x)

  abbrev rank : ℕ → ℕ
  rank x = rank_by x (dec_store events cell x)

  ranked_by : (x : ℕ) (d : Dec (IsStore events cell x)) → IsStore events cell x → IsRanked events cell (head_by x d) (rank_by x d) x
  unfolding head_by rank_by
  ranked_by x (yes s) t = (placed events cell reads x s).1.1
  ranked_by x (no n) t = absurd (n t)

  is_ranked : (x : ℕ) → IsStore events cell x → IsRanked events cell (head x) (rank x) x
  is_ranked x s = ranked_by x (dec_store events cell x) s

  key : ℕ → ℕ
  key x = turn (head x) * suc (length events) + rank x

  store_below : (x : ℕ) → IsStore events cell x → x < suc (length events)
  store_below x s = at_below events x (λ e. stored_cell e.kind ≡ Some cell) s

  rank_below : (x : ℕ) → IsStore events cell x → rank x < suc (length events)
  rank_below x s = omega (arith, chain_rises events cell (head x) (rank x) x reads (is_ranked x s).chain, store_below x s)

  same_chain : (x y : ℕ) → IsStore events cell x → IsStore events cell y → head x ≡ head y → rank x ≡ rank y → x ≡ y
  same_chain x y sx sy e f = ranked_one events cell one (head x) (rank x) x y (is_ranked x sx)
      (subst (λ (z : ℕ). IsRanked events cell z (rank x) y) (sym e) (subst (λ (z : ℕ). IsRanked events cell (head y) z y) (sym f) (is_ranked y sy)))

  apart : (x y : ℕ) → IsStore events cell x → IsStore events cell y → key x ≡ key y → x ≡ y
  unfolding key
  apart x y sx sy e =
      let both = digits_same (suc (length events)) (turn (head x)) (rank x) (turn (head y)) (rank y) (rank_below x sx) (rank_below y sy) e in
      same_chain x y sx sy (distinct (head x) (head y) (head_of events cell (head x) (rank x) x (is_ranked x sx)) (head_of events cell (head y) (rank y) y (is_ranked y sy)) both.0) both.1

  rmw_key : (b x : ℕ) → IsRmw events cell b x → IsStore events cell b → IsStore events cell x → key b ≡ suc (key x)
  unfolding key
  rmw_key b x r sb sx =
      let rx = is_ranked x sx in
      let both = ranked_same events cell (head x) (head b) (suc (rank x)) (rank b) b (record { chain = next rx.chain r; first = rx.first }) (is_ranked b sb) in
      let turns : turn (head x) * suc (length events) ≡ turn (head b) * suc (length events) = ap (λ (z : ℕ). turn z * suc (length events)) both.0 in
      omega (arith, both.1)

  pub order : List ℕ
  order = arranged key (IsStore events cell) (dec_store events cell) (suc (length events))

  order_less : (i j x y : ℕ) → slice_get order i ≡ Some x → slice_get order j ≡ Some y → i < j → key x < key y
  unfolding order
  order_less i j x y at_x at_y lt = sorted_less key order (arranged_sorted key (IsStore events cell) (dec_store events cell) apart (suc (length events))) i j x y at_x at_y lt

  pub is_order : IsModificationOrder events cell order
  unfolding order
  is_order = record {
    once = λ i j x a b. dite (dec_lt i j) (λ (l : i < j). absurd (omega (arith, order_less i j x x a b l)))
        (λ (no' : i < j → ⊥). dite (dec_lt j i) (λ (l : j < i). absurd (omega (arith, order_less j i x x b a l))) (λ (no'' : j < i → ⊥). omega arith));
    all = λ x s. in_at order x (arranged_all key (IsStore events cell) (dec_store events cell) (suc (length events)) x (store_below x s) s);
    only = λ x i at. (arranged_holds key (IsStore events cell) (dec_store events cell) (suc (length events)) x (at_in order i x at)).1;
  }

  key_before : (x y : ℕ) → IsStore events cell x → IsStore events cell y → key x < key y → Precedes order x y
  key_before x y sx sy lt = before_or events cell order is_order x y sx sy (λ same. absurd (omega (arith, ap key same)))
      (λ back. absurd (omega (arith, order_less back.i back.j y x back.first back.second back.places)))

  pub follows : (b x : ℕ) → IsRmw events cell b x → IsNext order x b
  follows b x r =
      let sb : IsStore events cell b = record { event = r.event; is = r.is; holds = r.holds.0 } in
      let sx = (reads cell b x (record { event = r.event; is = r.is; holds = (r.holds.1, r.holds.2) })).0 in
      let step = rmw_key b x r sb sx in
      let before = key_before x b sx sb (omega arith) in
      let places : before.j ≡ suc before.i = dite (dec_lt (suc before.i) before.j)
      (λ (l : suc before.i < before.j). let z = get_earlier order (suc before.i) before.j b before.second l in
      absurd (omega (arith, order_less before.i (suc before.i) x z.0 before.first z.1 (omega arith), order_less (suc before.i) before.j z.0 b z.1 before.second l)))
      (λ (no' : suc before.i < before.j → ⊥). omega (arith, before.places)) in
      record { place = before.i; first = before.first; second = subst (λ (k : ℕ). slice_get order k ≡ Some b) places before.second }

  head_key : (h : ℕ) → IsHead events cell h → key h ≡ turn h * suc (length events)
  unfolding key
  head_key h r =
      let both = ranked_same events cell (head h) h (rank h) 0 h (is_ranked h (chain_head events cell h 0 h r.chain)) r in
      let turns : turn (head h) * suc (length events) ≡ turn h * suc (length events) = ap (λ (z : ℕ). turn z * suc (length events)) both.0 in
      omega (arith, both.1)

  pub turn_before : (h k : ℕ) → IsHead events cell h → IsHead events cell k → turn h < turn k → Precedes order h k
  turn_before h k rh rk lt = key_before h k (chain_head events cell h 0 h rh.chain) (chain_head events cell k 0 k rk.chain)
      (omega (arith, head_key h rh, head_key k rk, digits_less (suc (length events)) (turn h) 0 (turn k) 0 lt (omega arith)))

  pub before_turn : (h k : ℕ) → IsHead events cell h → IsHead events cell k → Precedes order h k → turn h < turn k
  before_turn h k rh rk b =
      let less = order_less b.i b.j h k b.first b.second b.places in
      dite (dec_lt (turn h) (turn k)) (λ (lt : turn h < turn k). lt)
      (λ (no' : turn h < turn k → ⊥). dite (ℕ_discrete (turn h) (turn k))
      (λ (e : turn h ≡ turn k). let same = ap (λ (z : ℕ). z * suc (length events)) e in absurd (omega (arith, head_key h rh, head_key k rk)))
      (λ (differ : turn h ≡ turn k → ⊥). absurd (omega (arith, head_key h rh, head_key k rk, digits_less (suc (length events)) (turn k) 0 (turn h) 0 (omega arith) (omega arith)))))
