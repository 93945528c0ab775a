-- Orders of stores by one store after the other.
use Rattle.std.proofs.Common.{◌≡◌, ℕ, zero, suc, ◌+◌, ◌-◌, ◌<◌, ◌≤◌, Bool, true, false, ◌||◌, List, [], ◌∷◌, ◌++◌, Some, None, slice_get, length, refl, sym, ap, ◌∙◌, subst, arith, append_assoc, append-nil}
use Rattle.std.specs.List.{IsDistinct, list_any, AllByRecursion}
use Rattle.std.proofs.Common.{eqb}
use native.Mathlib.Decide.{ℕ_discrete}
use mathlib.Core.Logic.{dite}
use Rattle.std.proofs.lemmas.Option.{slice_get_within}
use Rattle.std.proofs.lemmas.Bool.{eqb-true, ne_eqb}
use Rattle.std.proofs.lemmas.Map.Steps.{length-le_from_distinct_below}
use Rattle.c11_events.specs.declared.event.Event.{Event}
use Rattle.c11_events.specs.Events.{IsStore, ReadsEarlier}
use Rattle.c11_events.specs.Lawful.{Lawful, Consistent}
use Rattle.c11_events.proofs.DecideEvents.{dec_store}
use Rattle.c11_events.proofs.Decide.{dec_some}
use Rattle.c11_events.proofs.Longer.{get_last}
use Rattle.c11_events.proofs.Prefix.{get_more}
use Rattle.c11_events.proofs.Rises.{rmw_store}
use Rattle.c11_plain.specs.Orders.{HasNoRepeat}
use Rattle.c11_plain.specs.Consistency.{MayStand, Extends, HasOrder, HasOrders}
use Rattle.c11_plain.proofs.Ends.{below}

or_second : (a b : Bool) → a || b ≡ true → (a ≡ true → ⊥) → b ≡ true
or_second true b e n = absurd (n refl)
or_second false b e n = e

list_any_place : (x : ℕ) (xs : List ℕ) → list_any (eqb x) xs ≡ true → (i : ℕ) × (slice_get xs i ≡ Some x)
list_any_place x [] any = cc
list_any_place x (y ∷ ys) any = dite (ℕ_discrete x y) (λ (same : x ≡ y). (0, ap (λ (z : ℕ). Some z) (sym same)))
    (λ (differ : x ≡ y → ⊥). let t = list_any_place x ys (or_second (eqb x y) (list_any (eqb x) ys) any (λ e. differ (eqb-true x y e))) in (suc t.0, t.1))

all_others : (x : ℕ) (xs : List ℕ) → ((i : ℕ) → slice_get xs i ≡ Some x → ⊥) → AllByRecursion (λ y. eqb x y ≡ false) xs
all_others x [] none = tt
all_others x (y ∷ ys) none = (ne_eqb x y (λ same. none 0 (ap (λ (z : ℕ). Some z) (sym same))), all_others x ys (λ i at. none (suc i) at))

distinct : (xs : List ℕ) → HasNoRepeat xs → IsDistinct eqb xs
unfolding IsDistinct
distinct [] once = tt
distinct (x ∷ xs) once = (
  all_others x xs (λ i at. let e : 0 ≡ suc i = once 0 (suc i) x refl at in omega arith),
  distinct xs (λ i j y at_i at_j. let e : suc i ≡ suc j = once (suc i) (suc j) y at_i at_j in omega arith),
)

module _ (events : List Event) (cell : ℕ) where
  stands_last : (order rest : List ℕ) (x : ℕ) → slice_get ((order ++ x ∷ []) ++ rest) (length order) ≡ Some x
  stands_last order rest x = get_more (order ++ x ∷ []) rest (length order) x (get_last order x)

  pub may_stand_of : (order : List ℕ) (x depth : ℕ) → Extends events cell (order ++ x ∷ []) depth → MayStand events cell order x
  may_stand_of order x depth e =
      let at = stands_last order e.rest x in
      record {
        store = e.lawful.stores.only x (length order) at;
        absent = λ s.
            let earlier = get_more (order ++ x ∷ []) e.rest s.0 x (get_more order (x ∷ []) s.0 x s.1.1) in
            let same : s.0 ≡ length order = e.lawful.stores.once s.0 (length order) x earlier at in omega (arith, s.1.0, same);
      }

  pub extends_step : (order : List ℕ) (x depth : ℕ) → 0 < depth → Extends events cell (order ++ x ∷ []) (depth - 1) → Extends events cell order depth
  extends_step order x depth some e = record {
    rest = x ∷ e.rest;
    within = omega (arith, e.within);
    lawful = subst (λ (z : List ℕ). Lawful events cell z) (append_assoc order (x ∷ []) e.rest) e.lawful;
  }

  ends_here : (order rest : List ℕ) (depth count : ℕ) → count ≡ length events + 1 → (Lawful events cell order → ⊥)
      → ((y : ℕ) → y < count → Extends events cell (order ++ y ∷ []) (depth - 1) → ⊥) → length rest ≤ depth → Lawful events cell (order ++ rest) → ⊥
  ends_here order [] depth count size not_here none within lawful = not_here (rw append-nil at lawful)
  ends_here order (y ∷ r) depth count size not_here none within lawful =
      let longer : Lawful events cell ((order ++ y ∷ []) ++ r) = subst (λ (z : List ℕ). Lawful events cell z) (sym (append_assoc order (y ∷ []) r)) lawful in
      let store = longer.stores.only y (length order) (stands_last order r y) in
      none y (below events count size store) (record { rest = r; within = omega arith; lawful = longer })

  pub extends_none : (order : List ℕ) (depth count : ℕ) → count ≡ length events + 1 → (Lawful events cell order → ⊥)
      → ((y : ℕ) → y < count → Extends events cell (order ++ y ∷ []) (depth - 1) → ⊥) → Extends events cell order depth → ⊥
  extends_none order depth count size not_here none e = ends_here order e.rest depth count size not_here none e.within e.lawful

  pub order_length : (order : List ℕ) (count : ℕ) → count ≡ length events + 1 → Lawful events cell order → length order ≤ count
  order_length order count size lawful = length-le_from_distinct_below order count (distinct order lawful.stores.once)
      (λ q any. let t = list_any_place q order any in below events count size (lawful.stores.only q t.0 t.1))

  pub no_stores : ReadsEarlier events → ((x : ℕ) → IsStore events cell x → ⊥) → Lawful events cell []
  no_stores reads none = record {
    stores = record { once = λ i j x at. cc; all = λ x s. absurd (none x s); only = λ x i at. cc };
    write_write_coherence = λ a b s. absurd (none a s);
    write_read_coherence = λ a l x s. absurd (none a s);
    read_write_coherence = λ l x b load s. absurd (none b s);
    read_read_coherence = λ l x k y load. absurd (none x (reads cell l x load).0);
    rmw_atomicity = λ b x r. absurd (none b (rmw_store events cell b x r));
    seq_cst_write_order = λ a b s. absurd (none a s);
    seq_cst_read = λ l x a load. absurd (none x (reads cell l x load).0);
    fence_before_read = λ a l x s. absurd (none a s);
    fence_after_write = λ a l x s. absurd (none a s);
    fences_between = λ a l x s. absurd (none a s);
    fences_between_writes = λ a b s. absurd (none a s);
  }

-- an order for each cell
module _ (events : List Event) where
  abbrev pub OrdersBelow : ℕ → Type 0
  OrdersBelow n = (k : ℕ) (e : Event) → k < n → slice_get events k ≡ Some e → HasOrders events e

  store_order : (n : ℕ) → length events ≤ n → OrdersBelow n → (cell x : ℕ) → IsStore events cell x → HasOrder events cell
  store_order n enough orders cell zero s = let e : None ≡ Some s.event = s.is in absurd (cc)
  store_order n enough orders cell (suc k) s = (orders k s.event (omega (arith, slice_get_within events k s.event s.is)) s.is).order_of cell s.holds

  cell_order : ReadsEarlier events → (n : ℕ) → length events ≤ n → OrdersBelow n → (cell : ℕ) → HasOrder events cell
  cell_order reads n enough orders cell = dite
      (dec_some (length events + 1) (λ x. IsStore events cell x) (λ x s. below events (length events + 1) refl s) (dec_store events cell))
      (λ (t : (x : ℕ) × IsStore events cell x). store_order n enough orders cell t.0 t.1)
      (λ (none : ((x : ℕ) × IsStore events cell x) → ⊥). record { order = []; lawful = no_stores events cell reads (λ x s. none (x, s)) })

  pub consistent_of : ReadsEarlier events → (n : ℕ) → length events ≤ n → OrdersBelow n → Consistent events
  consistent_of reads n enough orders = record {
    reads = reads;
    orders = λ cell. (cell_order reads n enough orders cell).order;
    lawful = λ cell. (cell_order reads n enough orders cell).lawful;
  }

  pub orders_of : Consistent events → (e : Event) → HasOrders events e
  orders_of c e = record { order_of = λ cell is. record { order = c.orders cell; lawful = c.lawful cell } }

  pub orders_next : (n : ℕ) (e : Event) → slice_get events n ≡ Some e → HasOrders events e → OrdersBelow n → OrdersBelow (n + 1)
  orders_next n e at has orders k f lt at_f = dite (ℕ_discrete k n)
      (λ (same : k ≡ n).
      let there : Some e ≡ Some f = sym at ∙ subst (λ (z : ℕ). slice_get events z ≡ Some f) same at_f in
      let one : e ≡ f = cc in subst (λ (z : Event). HasOrders events z) one has)
      (λ (differ : k ≡ n → ⊥). orders k f (omega arith) at_f)
