-- The links of an event, as the calls of the graph make them.
use Rattle.std.proofs.Common.{◌≡◌, ℕ, Bool, true, false, List, Some, None, refl, sym}
use Rattle.c11_events.specs.declared.event.Event.{Event}
use Rattle.c11_events.specs.Events.{stored_cell, loaded_cell, is_seq_cst}
use Rattle.c11_mograph.specs.Made.{Store, Made, OfOneCell, Ordered, CanAdd, with_pairs, with_store}
use Rattle.c11_mograph.specs.Words.{Words, StandsFor}
use Rattle.c11_mayread.specs.Facts.{Facts, IsPastOf}
use Rattle.c11_mayread.specs.Linked.{Links}
use Rattle.c11_mayread.specs.Priors.{IsNextOf, ArePriors}
use Rattle.c11_mayread.proofs.Committing.{n, load_one_cell, load_ordered, load_agrees, nothing_agrees, store_made, store_can, store_one_cell, store_ordered, store_linked, store_agrees, read_made, both_made, both_can, both_agrees}

-- the call `order` made the links from the list to x
abbrev pub Orders : Words → Words → List ℕ → ℕ → Type 0
Orders old new list x = (m : Made) → StandsFor old m → OfOneCell m.stores list x → Ordered (with_pairs m list x) → StandsFor new (with_pairs m list x)

-- the call `add` added the store
abbrev pub AddsStore : Words → Words → Store → Type 0
AddsStore old new s = (m : Made) → StandsFor old m → CanAdd m s → StandsFor new (with_store m s)

-- the list has the priors of the event
abbrev pub Lists : Facts → Event → ℕ → Bool → Bool → List ℕ → Type 0
Lists facts e cell is_sc stores list = (events : List Event) (f : Event) → IsPastOf facts events → IsNextOf e.thread is_sc f → ArePriors events f cell stores list

module _ (facts : Facts) (e : Event) (cell : ℕ) (is_sc : Bool) (same : is_sc ≡ is_seq_cst e.kind) (list : List ℕ) where
  pub load_links : (old new : Words) → Lists facts e cell is_sc false list → Orders old new list e.from → loaded_cell e.kind ≡ Some cell → stored_cell e.kind ≡ None → Links facts e old new
  load_links old new lists order loads no_store events m past number c all stands agrees =
      let p = lists events e past (record { thread = refl; seq_cst = sym same }) in
      let stored : false ≡ true → stored_cell e.kind ≡ Some cell = λ is. cc in
      let stands' = order m stands (load_one_cell events e c all m stands.well agrees cell loads list false p stored) (load_ordered events e c all m stands.well agrees cell loads list false p stored) in
      (n events e c all m stands.well agrees cell loads list false p stored, (stands', load_agrees events e c all m stands.well agrees cell loads list false p stored new stands' no_store))

  pub store_links : (old mid new : Words) → Lists facts e cell is_sc true list → AddsStore old mid (record { cell = cell; number = e.number; thread = e.thread; after = None }) → Orders mid new list e.number
      → loaded_cell e.kind ≡ None → stored_cell e.kind ≡ Some cell → Links facts e old new
  store_links old mid new lists add order none is events m past number c all stands agrees =
      let p = lists events e past (record { thread = refl; seq_cst = sym same }) in
      let middle = add m stands (store_can events e c all number m stands.well agrees cell is none list p) in
      let stands' = order (store_made events e c all number m stands.well agrees cell is none list p) middle (store_one_cell events e c all number m stands.well agrees cell is none list p)
      (store_ordered events e c all number m stands.well agrees cell is none list p middle.well) in
      (store_linked events e c all number m stands.well agrees cell is none list p, (stands', store_agrees events e c all number m stands.well agrees cell is none list p new stands'))

  pub both_links : (old mid new : Words) → Lists facts e cell is_sc true list → Orders old mid list e.from → AddsStore mid new (record { cell = cell; number = e.number; thread = e.thread; after = Some e.from })
      → loaded_cell e.kind ≡ Some cell → stored_cell e.kind ≡ Some cell → Links facts e old new
  both_links old mid new lists order add loads is events m past number c all stands agrees =
      let p = lists events e past (record { thread = refl; seq_cst = sym same }) in
      let middle = order m stands (load_one_cell events e c all m stands.well agrees cell loads list true p (λ _. is)) (load_ordered events e c all m stands.well agrees cell loads list true p (λ _. is)) in
      let stands' = add (read_made events e c all number m stands.well agrees cell is loads list p) middle (both_can events e c all number m stands.well agrees cell is loads list p middle.well) in
      (both_made events e c all number m stands.well agrees cell is loads list p, (stands', both_agrees events e c all number m stands.well agrees cell is loads list p mid middle new stands'))

pub nothing_links : (facts : Facts) (e : Event) (graph : Words) → stored_cell e.kind ≡ None → loaded_cell e.kind ≡ None → Links facts e graph graph
nothing_links facts e graph no_store no_load events m past number c all stands agrees = (m, (stands, nothing_agrees events e c all m agrees no_store no_load))
