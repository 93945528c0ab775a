-- Objects and operators in a program without a fault: where names lie within the tables, what is asked of them is legal.
use Rattle.std.proofs.Common.{◌≡◌, ℕ, ◌+◌, ◌<◌, Bool, true, false, List, [], ◌∷◌, ◌++◌, length, Option, Some, None, refl, subst, arith, ℤ, pos, negsuc}
use Rattle.std.specs.Prelude.{⊤, slice_get, nat_lt, if◌then◌else◌}
use Rattle.std.proofs.lemmas.Bool.Decides.{nat_tests}
use Rattle.c11_num.specs.Ranges.{TypedNumber}
use Rattle.c11_num.specs.Wrapping.{wrapped, converted}
use Rattle.c11_num.specs.Operators.{binary_of}
use Rattle.c11_num.specs.declared.value.CType.{CType}
use Rattle.c11_num.specs.declared.kind.BinaryOp.{BinaryOp}
use Rattle.c11_ast.specs.declared.place.Spot.{Spot}
use Rattle.c11_ast.specs.declared.place.Word.{Word}
use Rattle.c11_ast.specs.declared.expr.Infix.{Infix}
use Rattle.c11_ast.specs.declared.expr.Infix.TheVariants as i
use Rattle.c11_ast.specs.declared.expr.Prefix.{Prefix}
use Rattle.c11_ast.specs.declared.expr.Prefix.TheVariants as p
use Rattle.c11_events.specs.declared.order.Order.TheVariants.{SeqCst}
use Rattle.c11_events.specs.declared.op.Op.TheVariants as op
use Rattle.c11_events.specs.declared.op.StopKind.TheVariants.{Bounds}
use Rattle.c11_check.specs.declared.entity.Entity.{Entity}
use Rattle.c11_check.specs.declared.entity.Entity.TheVariants as e
use Rattle.c11_check.specs.declared.fault.Fault.{Fault}
use Rattle.c11_check.specs.declared.form.Form.{Form}
use Rattle.c11_check.specs.declared.library.Want.TheVariants as want
use Rattle.c11_check.specs.Faults.{has_form, misassigned, miscomputed, unvalued}
use Rattle.c11_check.specs.Scopes.{Scope, denoted, taken}
use Rattle.c11_check.specs.Expressions.{Named, naming, name_form, address_form, text_form, no_faults, no_spots, used, alone, links}
use Rattle.c11_check.specs.Expressions as check
use Rattle.c11_check.specs.Lies.{LiesIn}
use Rattle.c11_check.proofs.Grown.{Lies}
use Rattle.c11_check.proofs.Lying.{nil_front, nil_back}
use Rattle.c11_meaning.specs.Outcome.{State, Outcome, Gives, and_then, told, stop}
use Rattle.c11_meaning.specs.Objects.{one, is_zero, entity_base, entity_size, element, read_of, write_of, kind_of_op, update, compute, compound, step_op, not_before, step_plain, step}
use Rattle.c11_meaning.specs.Parts.{Object, Part, Given, Address, Text, Value, Linked, line_of, entity_of}
use Rattle.c11_meaning.specs.Expressions.{Calls, Valuing, element_by, located, reading, assigning, stepping, branch, right_truth, infixed, chained, prefixed}
use Rattle.c11_meaning.specs.Legal.{World, IsCellOf}
use Rattle.c11_meaning.proofs.Fine.{Good, AllKnown, Fine, Keeps, good_local, fine_bind, fine_operation, fine_stop, fine_computed, fine_told, fine_done, fine_if}

-- what a call does to the locals of its caller: nothing
abbrev pub CallsFine : World → Calls → Type 0
CallsFine w calls = (line function : ℕ) (values : List TypedNumber) (st : State) → AllKnown w st.replies
    → Fine w (λ value after. (after.locals ≡ st.locals) × AllKnown w after.replies) (calls line function values st)

module _ (w : World) (owners : List Bool) (calls : Calls) where
  -- the places of locals and of handles are marked as such
  abbrev pub OwnedIn : Entity → Type 0
  OwnedIn (e.Local ctype place size) = (0 < taken size) × ((n : ℕ) → n < taken size → slice_get owners (place + n) ≡ Some false)
  OwnedIn (e.Handle place size) = (0 < taken size) × ((n : ℕ) → n < taken size → slice_get owners (place + n) ≡ Some true)
  OwnedIn (e.Atomic ctype cell size) = ⊤
  OwnedIn (e.Plain ctype cell size) = ⊤
  OwnedIn (e.Mutex mutex size) = ⊤
  OwnedIn (e.Function function signature) = ⊤
  OwnedIn (e.Defined value) = ⊤
  OwnedIn (e.Library library) = ⊤
  OwnedIn (e.Constant constant) = ⊤
  OwnedIn (e.Order order) = ⊤

  pub record Knows (scope : Scope) : Type 0 where
    pub lies : Lies w.tables w.functions scope
    pub owned : (name : List ℕ) (entity : Entity) → denoted scope name ≡ Some entity → OwnedIn entity

  abbrev pub IsGoodEntity : Option Entity → Type 0
  IsGoodEntity entity = (x : Entity) → entity ≡ Some x → LiesIn w.tables w.functions x × OwnedIn x

  -- an object of the entity is there
  abbrev pub AtEntity : Option Entity → ℕ → Type 0
  AtEntity (Some (e.Local ctype base size)) place = slice_get owners place ≡ Some false
  AtEntity (Some (e.Handle base size)) place = slice_get owners place ≡ Some true
  AtEntity (Some (e.Atomic ctype base size)) place = IsCellOf w.tables.atomics place ctype
  AtEntity (Some (e.Plain ctype base size)) place = IsCellOf w.tables.plains place ctype
  AtEntity (Some (e.Mutex base size)) place = place < length w.tables.mutexes
  AtEntity (Some (e.Function function signature)) place = ⊤
  AtEntity (Some (e.Defined value)) place = ⊤
  AtEntity (Some (e.Library library)) place = ⊤
  AtEntity (Some (e.Constant constant)) place = ⊤
  AtEntity (Some (e.Order order)) place = ⊤
  AtEntity None place = ⊤

  element_at : (entity : Option Entity) → IsGoodEntity entity → (n : ℕ) → n < taken (entity_size entity) → AtEntity entity (entity_base entity + n)
  element_at (Some (e.Local ctype base size)) good n less = (good _ refl).1.1 n less
  element_at (Some (e.Handle base size)) good n less = (good _ refl).1.1 n less
  element_at (Some (e.Atomic ctype base size)) good n less = (good _ refl).0.1 n less
  element_at (Some (e.Plain ctype base size)) good n less = (good _ refl).0.1 n less
  element_at (Some (e.Mutex base size)) good n less = let le = (good _ refl).0.1 in omega (arith, less, le)
  element_at (Some (e.Function function signature)) good n less = tt
  element_at (Some (e.Defined value)) good n less = tt
  element_at (Some (e.Library library)) good n less = tt
  element_at (Some (e.Constant constant)) good n less = tt
  element_at (Some (e.Order order)) good n less = tt
  element_at None good n less = tt

  some_there : (entity : Option Entity) → IsGoodEntity entity → 0 < taken (entity_size entity)
  some_there (Some (e.Local ctype base size)) good = (good _ refl).1.0
  some_there (Some (e.Handle base size)) good = (good _ refl).1.0
  some_there (Some (e.Atomic ctype base size)) good = (good _ refl).0.0
  some_there (Some (e.Plain ctype base size)) good = (good _ refl).0.0
  some_there (Some (e.Mutex base size)) good = (good _ refl).0.0
  some_there (Some (e.Function function signature)) good = omega arith
  some_there (Some (e.Defined value)) good = omega arith
  some_there (Some (e.Library library)) good = omega arith
  some_there (Some (e.Constant constant)) good = omega arith
  some_there (Some (e.Order order)) good = omega arith
  some_there None good = omega arith

  first_at : (entity : Option Entity) → IsGoodEntity entity → AtEntity entity (entity_base entity)
  first_at entity good = let same : entity_base entity + 0 ≡ entity_base entity = omega arith in subst (AtEntity entity) same (element_at entity good 0 (some_there entity good))

  abbrev pub Located : Option Entity → ℕ → State → Type 0
  Located entity place st = Good w owners st × AtEntity entity place

  fine_element : (P : ℕ → Type 0) (line base size : ℕ) (number : ℤ) (st : State) → ((n : ℕ) → n < size → P (base + n)) → Good w owners st → Fine w (λ place st. Good w owners st × P place) (element line base size number st)
  unfolding element
  fine_element P line base size (pos n) st all good = by (nat_lt n size) refl
    where
      by : (less : Bool) → nat_lt n size ≡ less → Fine w (λ place st. Good w owners st × P place) (if less then Gives (base + n) st else stop line Bounds st)
      by true is = Fine.gives (good, all n (grind (arith, nat_tests, is)))
      by false is = fine_stop w _ line Bounds st good.replies
  fine_element P line base size (negsuc n) st all good = fine_stop w _ line Bounds st good.replies

  fine_by : (entity : Option Entity) (size : Option ℕ) (line : ℕ) (index : TypedNumber) (st : State) → ((n : ℕ) → n < taken size → AtEntity entity (entity_base entity + n)) → AtEntity entity (entity_base entity) → Good w owners st
      → Fine w (Located entity) (element_by size line (entity_base entity) index st)
  fine_by entity None line index st all first good = Fine.gives (good, first)
  fine_by entity (Some size) line index st all first good = fine_element (AtEntity entity) line (entity_base entity) size index.number st all good

  -- ---- parts of expressions side by side

  -- where the faults are none, what is asked is legal
  abbrev pub ValueFine : (Scope → List Fault) → Valuing → Type 0
  ValueFine faults v = (scope : Scope) → Knows scope → faults scope ≡ [] → (st : State) → Good w owners st → Fine w (Keeps w owners) (v scope calls st)

  pub data IsNamed : Named → Object Valuing → Type 0 where
    named : (word : Word) {within : Scope → List Fault} → IsNamed (record { word = word; indexed = false; within = within }) (record { word = word; index = None })
    indexed : (word : Word) {within : Scope → List Fault} {v : Valuing} → ValueFine within v → IsNamed (record { word = word; indexed = true; within = within }) (record { word = word; index = Some v })

  abbrev pub IsNoName : Form → Type 0
  IsNoName form = (has_form want.Handle form ≡ false) × (has_form want.ThreadFunction form ≡ false)

  pub data IsFormed : check.Part → Option (Object Valuing) → Type 0 where
    other : {part : check.Part} → ((scope : Scope) → IsNoName (part.form scope)) → IsFormed part None
    read : {part : check.Part} {n : Named} {o : Object Valuing} → IsNamed n o → ((scope : Scope) → part.form scope ≡ name_form n scope) → ((scope : Scope) → part.faults scope ≡ naming n scope) → IsFormed part (Some o)

  pub record PartFine (part : check.Part) (q : Part Valuing) : Type 0 where
    pub form : IsFormed part q.object
    pub value : ValueFine part.faults q.value

  pub data GivenFine : check.Part → Given Valuing → Type 0 where
    address : (spot : Spot) {n : Named} {o : Object Valuing} → IsNamed n o → GivenFine (record { first = spot; form = address_form spot n; faults = naming n; misread = no_faults; voids = no_spots }) (Address o)
    text : (spot : Spot) (bytes : List ℕ) → GivenFine (record { first = spot; form = text_form spot bytes; faults = no_faults; misread = no_faults; voids = no_spots }) (Text bytes)
    of_value : {part : check.Part} {q : Part Valuing} → PartFine part q → GivenFine part (Value q)

  pub data LinkFine : (Scope → List Fault) → Linked Valuing → Type 0 where
    linked : (op : Infix) (line : ℕ) {part : check.Part} {q : Part Valuing} → PartFine part q → LinkFine (used part) (record { op = op; line = line; right = q })

  pub data AllGiven : List check.Part → List (Given Valuing) → Type 0 where
    nil : AllGiven [] []
    cons : {part : check.Part} {g : Given Valuing} {parts : List check.Part} {gs : List (Given Valuing)} → GivenFine part g → AllGiven parts gs → AllGiven (part ∷ parts) (g ∷ gs)

  pub data AllLinks : List (Scope → List Fault) → List (Linked Valuing) → Type 0 where
    nil : AllLinks [] []
    cons : {faults : Scope → List Fault} {l : Linked Valuing} {rest : List (Scope → List Fault)} {ls : List (Linked Valuing)} → LinkFine faults l → AllLinks rest ls → AllLinks (faults ∷ rest) (l ∷ ls)

  -- ---- objects

  pub good_entity : (scope : Scope) (name : List ℕ) → Knows scope → IsGoodEntity (denoted scope name)
  good_entity scope name knows x is = (knows.lies name x is, knows.owned name x is)

  pub located_fine : (n : Named) (o : Object Valuing) (scope : Scope) (st : State) → IsNamed n o → Knows scope → n.within scope ≡ [] → Good w owners st → Fine w (Located (entity_of o scope)) (located o scope calls st)
  located_fine _ _ scope st (named word) knows clean good = Fine.gives (good, first_at (denoted scope word.name) (good_entity scope word.name knows))
  located_fine _ _ scope st (indexed word f) knows clean good = let entity = denoted scope word.name in let fit = good_entity scope word.name knows in
      fine_bind w (f scope knows clean st good) (λ index st good. fine_by entity (entity_size entity) word.spot.line index st (element_at entity fit) (first_at entity fit) good)

  read_fine : (entity : Option Entity) (line place : ℕ) (st : State) → AtEntity entity place → Good w owners st → Fine w (Keeps w owners) (read_of entity line place st)
  read_fine (Some (e.Local ctype base size)) line place st at good = Fine.gives good
  read_fine (Some (e.Plain ctype base size)) line place st at good = fine_operation w owners _ line (op.PlainRead place) st told (at.0, at.1.0) good (λ r st good is. fine_told w owners r st good)
  read_fine (Some (e.Atomic ctype base size)) line place st at good = fine_operation w owners _ line (op.AtomicLoad place SeqCst) st told (at.0, at.1.0) good (λ r st good is. fine_told w owners r st good)
  read_fine (Some (e.Defined value)) line place st at good = Fine.gives good
  read_fine (Some (e.Constant constant)) line place st at good = Fine.gives good
  read_fine (Some (e.Handle base size)) line place st at good = Fine.gives good
  read_fine (Some (e.Mutex base size)) line place st at good = Fine.gives good
  read_fine (Some (e.Function function signature)) line place st at good = Fine.gives good
  read_fine (Some (e.Library library)) line place st at good = Fine.gives good
  read_fine (Some (e.Order order)) line place st at good = Fine.gives good
  read_fine None line place st at good = Fine.gives good

  write_fine : (entity : Option Entity) (line place : ℕ) (value : TypedNumber) (st : State) → AtEntity entity place → Good w owners st → Fine w (Keeps w owners) (write_of entity line place value st)
  unfolding wrapped
  write_fine (Some (e.Local ctype base size)) line place value st at good = Fine.gives (good_local w owners st place (converted ctype value).number at good)
  write_fine (Some (e.Plain ctype base size)) line place value st at good = fine_operation w owners _ line (op.PlainWrite place (converted ctype value)) st _ at good (λ r st good is. fine_done w owners (converted ctype value) r st good)
  write_fine (Some (e.Atomic ctype base size)) line place value st at good = fine_operation w owners _ line (op.AtomicStore place SeqCst (converted ctype value)) st _ at good (λ r st good is. fine_done w owners (converted ctype value) r st good)
  write_fine (Some (e.Defined v)) line place value st at good = Fine.gives good
  write_fine (Some (e.Constant constant)) line place value st at good = Fine.gives good
  write_fine (Some (e.Handle base size)) line place value st at good = Fine.gives good
  write_fine (Some (e.Mutex base size)) line place value st at good = Fine.gives good
  write_fine (Some (e.Function function signature)) line place value st at good = Fine.gives good
  write_fine (Some (e.Library library)) line place value st at good = Fine.gives good
  write_fine (Some (e.Order order)) line place value st at good = Fine.gives good
  write_fine None line place value st at good = Fine.gives good

  update_fine : (line place : ℕ) (ctype : CType) (o : BinaryOp) (old : Bool) (value : TypedNumber) (st : State) → IsCellOf w.tables.atomics place ctype → Good w owners st → Fine w (Keeps w owners) (update line place ctype o old value st)
  unfolding wrapped
  update_fine line place ctype o old value st at good = fine_operation w owners _ line (op.Rmw place SeqCst (kind_of_op o) (converted ctype value)) st _ at good
      (λ r st good is. fine_bind w (fine_told w owners r st good) (λ v st good. Fine.gives good))

  -- what is computed from a value and written back
  compute_fine : (entity : Option Entity) (line op_line : ℕ) (o : BinaryOp) (place : ℕ) (right : State → Outcome TypedNumber) (st : State) → AtEntity entity place → ((st : State) → Good w owners st → Fine w (Keeps w owners) (right st))
      → Good w owners st → Fine w (Keeps w owners) (compute entity line op_line o place right st)
  compute_fine entity line op_line o place right st at f good = fine_bind w (read_fine entity line place st at good) (λ x st good. fine_bind w (f st good) (λ y st good.
      fine_bind w (fine_computed w owners op_line (binary_of o x y) st good) (λ z st good. write_fine entity line place z st at good)))

  compound_fine : (entity : Option Entity) (line op_line : ℕ) (o : BinaryOp) (place : ℕ) (right : State → Outcome TypedNumber) (st : State) → AtEntity entity place → ((st : State) → Good w owners st → Fine w (Keeps w owners) (right st))
      → Good w owners st → Fine w (Keeps w owners) (compound entity line op_line o place right st)
  compound_fine (Some (e.Atomic ctype base size)) line op_line o place right st at f good = fine_bind w (f st good) (λ y st good. update_fine line place ctype o false y st at good)
  compound_fine (Some (e.Local ctype base size)) line op_line o place right st at f good = compute_fine (Some (e.Local ctype base size)) line op_line o place right st at f good
  compound_fine (Some (e.Plain ctype base size)) line op_line o place right st at f good = compute_fine (Some (e.Plain ctype base size)) line op_line o place right st at f good
  compound_fine (Some (e.Defined v)) line op_line o place right st at f good = Fine.gives good
  compound_fine (Some (e.Constant constant)) line op_line o place right st at f good = Fine.gives good
  compound_fine (Some (e.Handle base size)) line op_line o place right st at f good = Fine.gives good
  compound_fine (Some (e.Mutex base size)) line op_line o place right st at f good = Fine.gives good
  compound_fine (Some (e.Function function signature)) line op_line o place right st at f good = Fine.gives good
  compound_fine (Some (e.Library library)) line op_line o place right st at f good = Fine.gives good
  compound_fine (Some (e.Order order)) line op_line o place right st at f good = Fine.gives good
  compound_fine None line op_line o place right st at f good = Fine.gives good

  step_plain_fine : (entity : Option Entity) (line op_line : ℕ) (up before : Bool) (place : ℕ) (st : State) → AtEntity entity place → Good w owners st → Fine w (Keeps w owners) (step_plain entity line op_line up before place st)
  step_plain_fine entity line op_line up before place st at good = fine_bind w (read_fine entity line place st at good) (λ x st good.
      fine_bind w (fine_computed w owners op_line (binary_of (step_op up) x one) st good) (λ y st good. fine_bind w (write_fine entity line place y st at good) (λ z st good. Fine.gives good)))

  step_fine : (entity : Option Entity) (line op_line : ℕ) (up before : Bool) (place : ℕ) (st : State) → AtEntity entity place → Good w owners st → Fine w (Keeps w owners) (step entity line op_line up before place st)
  step_fine (Some (e.Atomic ctype base size)) line op_line up before place st at good = update_fine line place ctype (step_op up) (not_before before) one st at good
  step_fine (Some (e.Local ctype base size)) line op_line up before place st at good = step_plain_fine (Some (e.Local ctype base size)) line op_line up before place st at good
  step_fine (Some (e.Plain ctype base size)) line op_line up before place st at good = step_plain_fine (Some (e.Plain ctype base size)) line op_line up before place st at good
  step_fine (Some (e.Defined v)) line op_line up before place st at good = Fine.gives good
  step_fine (Some (e.Constant constant)) line op_line up before place st at good = Fine.gives good
  step_fine (Some (e.Handle base size)) line op_line up before place st at good = Fine.gives good
  step_fine (Some (e.Mutex base size)) line op_line up before place st at good = Fine.gives good
  step_fine (Some (e.Function function signature)) line op_line up before place st at good = Fine.gives good
  step_fine (Some (e.Library library)) line op_line up before place st at good = Fine.gives good
  step_fine (Some (e.Order order)) line op_line up before place st at good = Fine.gives good
  step_fine None line op_line up before place st at good = Fine.gives good

  -- the faults in an index
  pub in_index : (n : Named) (scope : Scope) (rest : List Fault) → naming n scope ++ rest ≡ [] → n.within scope ≡ []
  in_index n scope rest clean = nil_front (n.within scope) _ (nil_front (naming n scope) rest clean)

  pub reading_fine : (n : Named) (o : Object Valuing) → IsNamed n o → ValueFine (naming n) (reading o)
  reading_fine n o is scope knows clean st good = fine_bind w (located_fine n o scope st is knows (nil_front (n.within scope) _ clean) good) (λ place st at. read_fine (entity_of o scope) (line_of o) place st at.1 at.0)

  pub assigning_fine : (n : Named) (o : Object Valuing) (op : Option BinaryOp) (op_line : ℕ) (part : check.Part) (v : Valuing) → IsNamed n o → ValueFine part.faults v → ValueFine (check.assigned n op part) (assigning o op op_line v)
  assigning_fine n o op op_line part v is f scope knows clean st good = by op (part_clean clean)
    where
      part_clean : check.assigned n op part scope ≡ [] → part.faults scope ≡ []
      part_clean clean = nil_front (part.faults scope) (part.misread scope) (nil_front (alone part scope) (unvalued (part.voids scope)) (nil_back (miscomputed scope n.word op) (used part scope) (nil_back (misassigned scope n.word) (miscomputed scope n.word op ++ used part scope)
          (nil_back (naming n scope) (misassigned scope n.word ++ (miscomputed scope n.word op ++ used part scope)) clean))))

      by : (op : Option BinaryOp) → part.faults scope ≡ [] → Fine w (Keeps w owners) (assigning o op op_line v scope calls st)
      by None rest = fine_bind w (located_fine n o scope st is knows (in_index n scope _ clean) good) (λ place st at.
          fine_bind w (f scope knows rest st at.0) (λ value st good. write_fine (entity_of o scope) (line_of o) place value st at.1 good))
      by (Some op) rest = fine_bind w (located_fine n o scope st is knows (in_index n scope _ clean) good) (λ place st at.
          compound_fine (entity_of o scope) (line_of o) op_line op place (v scope calls) st at.1 (f scope knows rest) at.0)

  pub stepping_fine : (n : Named) (o : Object Valuing) (op_line : ℕ) (up before : Bool) → IsNamed n o → ValueFine (check.stepped n) (stepping o op_line up before)
  stepping_fine n o op_line up before is scope knows clean st good = fine_bind w (located_fine n o scope st is knows (in_index n scope _ clean) good) (λ place st at. step_fine (entity_of o scope) (line_of o) op_line up before place st at.1 at.0)

  -- ---- operators

  used_clean : (part : check.Part) (scope : Scope) → used part scope ≡ [] → part.faults scope ≡ []
  used_clean part scope clean = nil_front (part.faults scope) _ (nil_front (alone part scope) _ clean)

  prefixed_fine : (op : Prefix) (line : ℕ) (value : TypedNumber) (st : State) → Good w owners st → Fine w (Keeps w owners) (prefixed op line value st)
  prefixed_fine p.Minus line value st good = fine_computed w owners line _ st good
  prefixed_fine p.Plus line value st good = Fine.gives good
  prefixed_fine p.Not line value st good = Fine.gives good
  prefixed_fine p.Flip line value st good = Fine.gives good

  pub prefix_fine : (op : Prefix) (line : ℕ) (part : check.Part) (v : Valuing) → ValueFine part.faults v → ValueFine (used part) (λ scope calls st. and_then (v scope calls st) (prefixed op line))
  prefix_fine op line part v f scope knows clean st good = fine_bind w (f scope knows (used_clean part scope clean) st good) (λ value st good. prefixed_fine op line value st good)

  branch_fine : (ctype : Option CType) (part : check.Part) (q : Part Valuing) (scope : Scope) (st : State) → PartFine part q → Knows scope → part.faults scope ≡ [] → Good w owners st → Fine w (Keeps w owners) (branch ctype q scope calls st)
  branch_fine ctype part q scope st f knows clean good = fine_bind w (f.value scope knows clean st good) (λ v st good. Fine.gives good)

  truth_fine : (part : check.Part) (q : Part Valuing) (scope : Scope) (st : State) → PartFine part q → Knows scope → part.faults scope ≡ [] → Good w owners st → Fine w (Keeps w owners) (right_truth q scope calls st)
  truth_fine part q scope st f knows clean good = fine_bind w (f.value scope knows clean st good) (λ v st good. Fine.gives good)

  infixed_fine : (op : Infix) (line : ℕ) (part : check.Part) (q : Part Valuing) (value : TypedNumber) (scope : Scope) (st : State) → PartFine part q → Knows scope → part.faults scope ≡ [] → Good w owners st → Fine w (Keeps w owners) (infixed op line q value scope calls st)
  infixed_fine (i.Number o) line part q value scope st f knows clean good = fine_bind w (f.value scope knows clean st good) (λ right st good. fine_computed w owners line (binary_of o value right) st good)
  infixed_fine i.Both line part q value scope st f knows clean good = fine_if w (is_zero value) (Fine.gives good) (truth_fine part q scope st f knows clean good)
  infixed_fine i.Either line part q value scope st f knows clean good = fine_if w (is_zero value) (truth_fine part q scope st f knows clean good) (Fine.gives good)

  chained_fine : (faults : List (Scope → List Fault)) (ls : List (Linked Valuing)) (value : TypedNumber) (scope : Scope) (st : State) → AllLinks faults ls → Knows scope → links faults scope ≡ [] → Good w owners st → Fine w (Keeps w owners) (chained ls value scope calls st)
  chained_fine _ _ value scope st nil knows clean good = Fine.gives good
  chained_fine _ _ value scope st (cons {rest = rest} {ls = ls} (linked op line {part = part} {q = q} f) fs) knows clean good =
      fine_bind w (infixed_fine op line part q value scope st f knows (used_clean part scope (nil_front (used part scope) (links rest scope) clean)) good)
      (λ value st good. chained_fine rest ls value scope st fs knows (nil_back (used part scope) (links rest scope) clean) good)

  pub chain_fine : (part : check.Part) (q : Part Valuing) (faults : List (Scope → List Fault)) (ls : List (Linked Valuing)) → PartFine part q → AllLinks faults ls
      → ValueFine (λ scope. used part scope ++ links faults scope) (λ scope calls st. and_then (q.value scope calls st) (λ value st. chained ls value scope calls st))
  chain_fine part q faults ls f fs scope knows clean st good = fine_bind w (f.value scope knows (used_clean part scope (nil_front (used part scope) (links faults scope) clean)) st good)
      (λ value st good. chained_fine faults ls value scope st fs knows (nil_back (used part scope) (links faults scope) clean) good)
