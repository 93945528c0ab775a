use Rattle.std.proofs.Common.{◌≡◌, ◌<◌, ◌+◌, ◌++◌, ◌∷◌, [], ℕ, List, Some, true, false, length, slice_get, refl, ap, sym, subst, ◌∙◌, arith}
use Rattle.std.proofs.lemmas.Option.{slice_get-get_or}
use lib.ListN.{get_or}
use Rattle.c11_events.specs.declared.event.Event.{Event}
use Rattle.c11_events.specs.Events.{IsStore, stored_cell}
use Rattle.c11_events.specs.Offered.{IsChainOffered}
use Rattle.c11_events.specs.Values.{value_of}
use Rattle.c11_mograph.specs.Made.{stores_of}
use Rattle.c11_mayread.specs.Standing.{Words, StandsFor}
use Rattle.c11_mayread.specs.SoundReads.{words_of}
use Rattle.c11_mayread.specs.Choosing.{ArePicked}
use Rattle.c11_mayread.specs.Priors.{ListsPriors}
use Rattle.c11_mayread.proofs.Offering.{picked_none, picked_skip, picked_push, picked_all}
use Rattle.c11_mayread.proofs.Recalling.{positive, within}
use Rattle.c11_mayread.proofs.Storing.{listed_rise, listed_store, store_listed}
use Rattle.c11_mayread.proofs.reads.Reads.offers_of.Goals as goal
use Rattle.c11_mayread.proofs.reads.Reads.offers_of.Goals.{then-is_offered+in_ok-push, else-is_offered}

-- the list of the graph is that of the stores of the cell
module _ (words : Words) (events : List Event) (stands : StandsFor words events) (cell : ℕ) (list : List ℕ) (is : list ≡ stores_of cell stands.made.stores) where
  store_at : (i x : ℕ) → slice_get list i ≡ Some x → IsStore events cell x
  store_at i x at = listed_store cell stands.made events stands.lawful.reads stands.graph.well stands.agrees i x (subst (λ (l : List ℕ). slice_get l i ≡ Some x) is at)

  at_store : (x : ℕ) → IsStore events cell x → (i : ℕ) × (slice_get list i ≡ Some x)
  at_store x s = let t = store_listed cell stands.made events stands.lawful.reads stands.graph.well stands.agrees x s in (t.0, subst (λ (l : List ℕ). slice_get l t.0 ≡ Some x) (sym is) t.1)

  rising : (i j x y : ℕ) → slice_get list i ≡ Some x → slice_get list j ≡ Some y → i < j → x < y
  rising = subst (λ (l : List ℕ). (i j x y : ℕ) → slice_get l i ≡ Some x → slice_get l j ≡ Some y → i < j → x < y) (sym is) (listed_rise cell stands.made.stores stands.graph.well.rises)

pub is_offered-requires-clause-store : goal.is_offered-requires-clause-store
is_offered-requires-clause-store c =
    let stands = c.self.invariant.stands in
    let list = c.stores-candidates.result.now in
    let at = slice_get-get_or list c.loop-x.x-index 0 c.loop-x-test.true in
    positive c.self.invariant.events (get_or list c.loop-x.x-index 0) (λ e. stored_cell e.kind ≡ Some c.args.asked.now.cell)
    (store_at (words_of c.self.inside) c.self.invariant.events stands c.args.asked.now.cell list (c.stores-candidates.ensures stands.made stands.graph) c.loop-x.x-index (get_or list c.loop-x.x-index 0) at)

pub is_offered-requires-clause-noted : goal.is_offered-requires-clause-noted
is_offered-requires-clause-noted c =
    let stands = c.self.invariant.stands in
    let list = c.stores-candidates.result.now in
    let at = slice_get-get_or list c.loop-x.x-index 0 c.loop-x-test.true in
    let le = within c.self.invariant.events (get_or list c.loop-x.x-index 0) (λ e. stored_cell e.kind ≡ Some c.args.asked.now.cell)
    (store_at (words_of c.self.inside) c.self.invariant.events stands c.args.asked.now.cell list (c.stores-candidates.ensures stands.made stands.graph) c.loop-x.x-index (get_or list c.loop-x.x-index 0) at) in
    let count = stands.past.count in
    let same = ap (λ (w : Words). length w.past.kept) c.self.view_is in
    omega arith

pub loop-x-init : goal.loop-x-init
loop-x-init c = λ events reading now at. picked_none (IsChainOffered events c.args.thread reading c.args.asked.now.cell) c.stores-candidates.result.now c.new-offers.result.items c.new-offers.ensures.items

pub loop-x-preserved : goal.loop-x-preserved
loop-x-preserved c = λ events reading now asked.
    let stands : StandsFor (words_of c.self.inside) events = subst (λ (w : Words). StandsFor w events) (sym c.self.view_is) now in
    let cell = c.args.asked.now.cell in
    let list = c.stores-candidates.result.now in
    let x = get_or list c.loop-x.x-index 0 in
    let at : slice_get list c.loop-x.x-index ≡ Some x = slice_get-get_or list c.loop-x.x-index 0 c.loop-x-test.true in
    let is = c.stores-candidates.ensures stands.made stands.graph in
    let store = store_at (words_of c.self.inside) events stands cell list is c.loop-x.x-index x at in
    let e : Event = record { number = length events + 1; thread = c.args.thread; kind = reading x; from = x } in
    let P : ℕ → Type 0 = IsChainOffered events c.args.thread reading cell in
    let decided = c.is_offered.ensures events e now store refl (asked x)
    (λ writes. subst (λ (l : List ℕ). ListsPriors events c.args.thread cell c.args.asked.now.seq_cst_store true l) (sym c.as_slice.ensures.value)
    (c.in_ok-as_store.ensures.needed (c.may_store-stores.ensures.1 (value_of events x, writes)) events now))
    (λ loads. subst (λ (l : List ℕ). ListsPriors events c.args.thread cell c.args.asked.now.seq_cst_load false l) (sym c.as_slice-in-loop-x.ensures.value)
    (c.in_ok-as_load.ensures.needed (c.may_only_load-loads.ensures.1 (value_of events x, loads)) events now)) in
    let before = c.loop-x.invariant events reading now asked in
    let Next : List ℕ → Type 0 = λ xs. ArePicked P list (c.loop-x.x-index + 1) xs in
    elim c.if-is_offered.branch [
      | then-is_offered+in_ok-push w ↦
          let same : c.if-is_offered.offers.items ≡ c.loop-x.offers.items ++ x ∷ [] = cc (w.offers-is, w.in_ok-push.ensures.items) in
          subst Next (sym same) (picked_push P list (rising (words_of c.self.inside) events stands cell list is) c.loop-x.x-index x c.loop-x.offers.items at (record { store = store; lawful = decided.0 w.if-is_offered.true }) before)
      | else-is_offered w ↦
          let same : c.if-is_offered.offers.items ≡ c.loop-x.offers.items = cc w.offers-is in
          subst Next (sym same) (picked_skip P list c.loop-x.x-index x c.loop-x.offers.items at (λ offered. let yes' : c.is_offered.result ≡ true = decided.1 offered.lawful in let clash : true ≡ false = sym yes' ∙ w.if-is_offered.false in cc) before)
    ]

pub returns : goal.returns
returns c = λ events reading now asked.
    let stands : StandsFor (words_of c.self.inside) events = subst (λ (w : Words). StandsFor w events) (sym c.self.view_is) now in
    let cell = c.args.asked.now.cell in
    let list = c.stores-candidates.result.now in
    let is = c.stores-candidates.ensures stands.made stands.graph in
    picked_all (IsChainOffered events c.args.thread reading cell) list c.loop-x.x-index c.loop-x.offers.items c.loop-x-test.false
    (λ x p. at_store (words_of c.self.inside) events stands cell list is x p.store) (c.loop-x.invariant events reading now asked)
