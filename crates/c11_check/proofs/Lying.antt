-- In a program without a fault names lie within the tables.
use Rattle.std.proofs.Common.{◌≡◌, ℕ, zero, suc, ◌+◌, ◌<◌, ◌≤◌, Bool, true, false, List, [], ◌∷◌, ◌++◌, length, Option, Some, None, refl, sym, ap, ◌∙◌, subst, append_assoc, length-append, arith, true≢false}
use Rattle.std.specs.Prelude.{⊤, codes, slice_get, if◌then◌else◌, is_none, ◌&&◌, ◌||◌, ◌==◌, nat_lt, ◌^◌}
use Rattle.std.specs.Str.{bytes_eq}
use Rattle.std.proofs.lemmas.List.{append-nil}
use Rattle.std.proofs.lemmas.Option.{same_Some}
use Rattle.std.proofs.lemmas.Bool.Decides.{nat_tests}
use Rattle.c11_num.specs.Ranges.{TypedNumber}
use Rattle.c11_num.specs.Wrapping.{wrapped}
use Rattle.c11_num.specs.declared.value.CType.{CType}
use Rattle.c11_num.specs.declared.value.CType.TheVariants.{Int}
use Rattle.c11_ast.specs.declared.place.Spot.{Spot}
use Rattle.c11_ast.specs.declared.place.Constant.{Constant}
use Rattle.c11_ast.specs.declared.place.Known.{Known}
use Rattle.c11_ast.specs.declared.place.Known.TheVariants as known
use Rattle.c11_ast.specs.declared.item.GlobalKind.{GlobalKind}
use Rattle.c11_ast.specs.declared.item.GlobalKind.TheVariants as g
use Rattle.c11_ast.specs.declared.item.Start.{Start}
use Rattle.c11_ast.specs.declared.item.Start.TheVariants.{Absent}
use Rattle.c11_ast.specs.declared.item.Var.{Var}
use Rattle.c11_ast.specs.declared.item.Function.{Function}
use Rattle.c11_ast.specs.declared.item.Item.{Item}
use Rattle.c11_ast.specs.declared.item.Item.TheVariants as item
use Rattle.c11_ast.specs.declared.item.Program.{Program}
use Rattle.c11_events.specs.declared.cells.CellInfo.{CellInfo}
use Rattle.c11_check.specs.declared.entity.Entity.{Entity}
use Rattle.c11_check.specs.declared.entity.Entity.TheVariants as e
use Rattle.c11_check.specs.declared.entity.Signature.{Signature}
use Rattle.c11_check.specs.declared.entity.Counts.{Counts}
use Rattle.c11_check.specs.declared.fault.Rule.{Rule}
use Rattle.c11_check.specs.declared.fault.Rule.TheVariants as rule
use Rattle.c11_check.specs.declared.fault.Fault.{Fault}
use Rattle.c11_check.specs.Library.{Table, or_else, look_up, transfers, fetches, exchanges, threads, constants, orders, library_entity, constant_value}
use Rattle.c11_check.specs.Scopes.{Named, Scope, denoted, entity_value, known_value, signed_value, with_sign, value_of_constant, elements, size_in, taken, passes, with_global, with_function, signature_of, entered_function, left_for, file_scope, atomic_limit, plain_limit, mutex_limit, function_limit}
use Rattle.c11_check.specs.Faults.{when, answers_int, unknown, twice, is_misconstant, misconstant, is_missized, size_value, missized, too_many}
use Rattle.c11_check.specs.Statements.{walk_of_block, size_faults}
use Rattle.c11_check.specs.Programs.{HasNoFault, is_main_function, limit_of, count_of, no_main, starts_of, starts_faults, var_faults, var_walk, vars_walk, params_walk, function_walk, item_walk, items_walk}
use Rattle.c11_check.specs.Tables.{Tables, Declared, start_value, converted_or_zero, element_cells, object_cells, declare_var, declare_vars, declare_function, declare_item, declare_items, nothing_declared, tables_of, main_from, main_of}
use Rattle.c11_check.specs.Lies.{signatures_in, HasCells, LiesIn, IsMainAt, FaultlessLiesWithin}
use Rattle.c11_check.proofs.Limits.{Counted, object_count, counted_var, counted_vars, counted_item, vars_functions, next_count}
use Rattle.c11_check.proofs.Grown.{AllDenoted, all_declared, Lies, lies_declared, lies_named, grew_on, grew_params, names_left, stmt_declares, block_declares}

-- ---- lists of faults

pub nil_front : (xs ys : List Fault) → xs ++ ys ≡ [] → xs ≡ []
nil_front [] ys is = refl
nil_front (x ∷ xs) ys is = absurd cc

pub nil_back : (xs ys : List Fault) → xs ++ ys ≡ [] → ys ≡ []
nil_back [] ys is = is
nil_back (x ∷ xs) ys is = absurd cc

pub when_nil : (b : Bool) (rule : Rule) (spot : Spot) → when b rule spot ≡ [] → b ≡ false
when_nil false rule spot is = refl
when_nil true rule spot is = absurd cc

-- ---- cells

pub nth_front : {A : Type 0} (xs ys : List A) (n : ℕ) (x : A) → slice_get xs n ≡ Some x → slice_get (xs ++ ys) n ≡ Some x
nth_front [] ys n x is = absurd cc
nth_front (y ∷ xs) ys zero x is = is
nth_front (y ∷ xs) ys (suc n) x is = nth_front xs ys n x is

pub nth_back : {A : Type 0} (xs ys : List A) (k n : ℕ) → k ≡ length xs + n → slice_get (xs ++ ys) k ≡ slice_get ys n
nth_back [] ys k n is = ap (slice_get ys) (omega (arith, is))
nth_back (x ∷ xs) ys zero n is = absurd (omega (arith, is))
nth_back (x ∷ xs) ys (suc k) n is = nth_back xs ys k n (omega (arith, is))

abbrev AreCells : List CellInfo → ℕ → CType → Type 0
AreCells cells count ctype = (n : ℕ) → n < count → (info : CellInfo) × ((slice_get cells n ≡ Some info) × (info.initial.ctype ≡ ctype))

zero_or_converted : (ctype : CType) (value : Option TypedNumber) → (converted_or_zero ctype value).ctype ≡ ctype
unfolding wrapped
zero_or_converted ctype None = refl
zero_or_converted ctype (Some value) = refl

start_typed : (s : Scope) (ctype : CType) (constant : Option Constant) → (start_value s ctype constant).ctype ≡ ctype
start_typed s ctype None = refl
start_typed s ctype (Some constant) = zero_or_converted ctype (value_of_constant s constant)

elements_are : (s : Scope) (name : List ℕ) (ctype : CType) (start : Start) (place count : ℕ) → AreCells (element_cells s name ctype start place count) count ctype
elements_are s name ctype start place zero n less = absurd (omega (arith, less))
elements_are s name ctype start place (suc count) zero less = (_, (refl, start_typed s ctype (slice_get (starts_of start) place)))
elements_are s name ctype start place (suc count) (suc n) less = elements_are s name ctype start (place + 1) count n (omega (arith, less))

cells_are : (s : Scope) (name : List ℕ) (ctype : CType) (start : Start) (size : Option ℕ) → AreCells (object_cells s name ctype start size) (taken size) ctype
cells_are s name ctype start None zero less = (_, (refl, start_typed s ctype (slice_get (starts_of start) 0)))
cells_are s name ctype start None (suc n) less = absurd (omega (arith, less))
cells_are s name ctype start (Some count) n less = elements_are s name ctype start 0 count n less

has_cells : (xs ys rest all : List CellInfo) (from count : ℕ) (ctype : CType) → all ≡ (xs ++ ys) ++ rest → length xs ≡ from → AreCells ys count ctype → HasCells all from count ctype
has_cells xs ys rest all from count ctype is at are n less = let found = are n less in
    (found.0, (ap (λ (zs : List CellInfo). slice_get zs (from + n)) is ∙ nth_front (xs ++ ys) rest (from + n) found.0 (nth_back xs ys (from + n) n (omega (arith, at)) ∙ found.1.0), found.1.1))

-- ---- sizes

entity_known : (d : Option Entity) → is_none d ≡ false → is_misconstant d ≡ false → (v : TypedNumber) × (entity_value d ≡ Some v)
entity_known None is not_mis = absurd cc
entity_known (Some (e.Defined v)) is not_mis = (v, refl)
entity_known (Some (e.Constant c)) is not_mis = (constant_value c, refl)
entity_known (Some (e.Local ctype place size)) is not_mis = absurd cc
entity_known (Some (e.Handle place size)) is not_mis = absurd cc
entity_known (Some (e.Atomic ctype cell size)) is not_mis = absurd cc
entity_known (Some (e.Plain ctype cell size)) is not_mis = absurd cc
entity_known (Some (e.Mutex mutex size)) is not_mis = absurd cc
entity_known (Some (e.Function function signature)) is not_mis = absurd cc
entity_known (Some (e.Library library)) is not_mis = absurd cc
entity_known (Some (e.Order order)) is not_mis = absurd cc

known_there : (s : Scope) (k : Known) → misconstant s k ≡ [] → (v : TypedNumber) × (known_value s k ≡ Some v)
known_there s (known.Literal v) is = (v, refl)
known_there s (known.Named word) is = let d = denoted s word.name in let first = unknown s word in let second = when (is_misconstant d) rule.Kind word.spot in
    entity_known d (when_nil (is_none d) rule.Unknown word.spot (nil_front first second is)) (when_nil (is_misconstant d) rule.Kind word.spot (nil_back first second is))

positive : (n : ℕ) (b : Bool) → (n == 0) || b ≡ false → 0 < n
positive zero b is = absurd cc
positive (suc n) b is = omega arith

size_there : (v : Option TypedNumber) (u : TypedNumber) (starts : ℕ) → v ≡ Some u → is_missized v starts ≡ false → 0 < elements v
size_there None u starts is fits = absurd cc
size_there (Some v) u starts is fits = positive (elements (Some v)) (nat_lt 65536 (elements (Some v)) || nat_lt (elements (Some v)) starts) fits

-- an object without a fault has an element at least
pub some_taken : (s : Scope) (size : Option Constant) (spot : Spot) (starts : ℕ) → size_faults s size ≡ [] → when (is_missized (size_value s size) starts) rule.Size spot ≡ [] → 0 < taken (size_in s size)
some_taken s None spot starts one other = omega arith
some_taken s (Some c) spot starts one other = let known = known_there s c.value one in
    size_there (value_of_constant s c) (signed_value c.negative known.0) starts (ap (with_sign c.negative) known.1) (when_nil (is_missized (value_of_constant s c) starts) rule.Size spot other)

-- ---- declarations of file scope

-- the scope with other places
abbrev pub with_places : Scope → ℕ → Scope
with_places s k = record s { counts = record s.counts { places = k } }

pub record Before (small large : Tables) : Type 0 where
  pub atomics : (rest : List CellInfo) × (large.atomics ≡ small.atomics ++ rest)
  pub plains : (rest : List CellInfo) × (large.plains ≡ small.plains ++ rest)
  pub mutexes : (rest : List CellInfo) × (large.mutexes ≡ small.mutexes ++ rest)

before_same : (t : Tables) → Before t t
before_same t = record { atomics = ([], sym (append-nil t.atomics)); plains = ([], sym (append-nil t.plains)); mutexes = ([], sym (append-nil t.mutexes)) }

joins : (xs ys zs one other : List CellInfo) → ys ≡ xs ++ one → zs ≡ ys ++ other → zs ≡ xs ++ (one ++ other)
joins xs ys zs one other a b = b ∙ (ap (λ (l : List CellInfo). l ++ other) a ∙ append_assoc xs one other)

before_on : (a b c : Tables) → Before a b → Before b c → Before a c
before_on a b c one other = record {
  atomics = (one.atomics.0 ++ other.atomics.0, joins a.atomics b.atomics c.atomics one.atomics.0 other.atomics.0 one.atomics.1 other.atomics.1);
  plains = (one.plains.0 ++ other.plains.0, joins a.plains b.plains c.plains one.plains.0 other.plains.0 one.plains.1 other.plains.1);
  mutexes = (one.mutexes.0 ++ other.mutexes.0, joins a.mutexes b.mutexes c.mutexes one.mutexes.0 other.mutexes.0 one.mutexes.1 other.mutexes.1);
}

before_var : (kind : GlobalKind) (var : Var) (d : Declared) → Before d.tables (declare_var kind var d).tables
before_var (g.Plain ctype) var d = let same = before_same d.tables in record { atomics = same.atomics; plains = (_, refl); mutexes = same.mutexes }
before_var (g.Atomic ctype) var d = let same = before_same d.tables in record { atomics = (_, refl); plains = same.plains; mutexes = same.mutexes }
before_var g.Mutex var d = let same = before_same d.tables in record { atomics = same.atomics; plains = same.plains; mutexes = (_, refl) }

before_vars : (kind : GlobalKind) (vars : List Var) (d : Declared) → Before d.tables (declare_vars kind vars d).tables
before_vars kind [] d = before_same d.tables
before_vars kind (x ∷ xs) d = before_on d.tables (declare_var kind x d).tables (declare_vars kind xs (declare_var kind x d)).tables (before_var kind x d) (before_vars kind xs (declare_var kind x d))

before_item : (x : Item) (d : Declared) → Before d.tables (declare_item x d).tables
before_item (item.Include spot) d = before_same d.tables
before_item (item.Define spot word value) d = before_same d.tables
before_item (item.Global spot kind vars) d = before_vars kind vars d
before_item (item.Function f) d = let same = before_same d.tables in record { atomics = same.atomics; plains = same.plains; mutexes = same.mutexes }

before_items : (xs : List Item) (d : Declared) → Before d.tables (declare_items xs d).tables
before_items [] d = before_same d.tables
before_items (x ∷ xs) d = before_on d.tables (declare_item x d).tables (declare_items xs (declare_item x d)).tables (before_item x d) (before_items xs (declare_item x d))

-- an object that does not pass its limit has its cells there
there : (xs ys rest all : List CellInfo) (from count : ℕ) (past : Bool) (ctype : CType) → past ≡ false → all ≡ (xs ++ (if past then [] else ys)) ++ rest → length xs ≡ from → AreCells ys count ctype → HasCells all from count ctype
there xs ys rest all from count true ctype clean is at are = absurd cc
there xs ys rest all from count false ctype clean is at are = has_cells xs ys rest all from count ctype is at are

counts_there : (xs ys rest all : List CellInfo) (from count : ℕ) (past : Bool) → past ≡ false → all ≡ (xs ++ (if past then [] else ys)) ++ rest → length xs ≡ from → length ys ≡ count → from + count ≤ length all
counts_there xs ys rest all from count true clean is at are = absurd cc
counts_there xs ys rest all from count false clean is at are = let one = length-append xs ys in let two = length-append (xs ++ ys) rest in let three = ap length is in omega (arith, at, are, one, two, three)

count_same : (kind : GlobalKind) (s : Scope) (k : ℕ) → count_of kind (with_places s k).counts ≡ count_of kind s.counts
count_same (g.Plain ctype) s k = refl
count_same (g.Atomic ctype) s k = refl
count_same g.Mutex s k = refl

-- what stands at file scope takes no place of a function
abbrev pub IsGlobal : Entity → Type 0
IsGlobal (e.Local ctype place size) = ⊥
IsGlobal (e.Handle place size) = ⊥
IsGlobal (e.Atomic ctype cell size) = ⊤
IsGlobal (e.Plain ctype cell size) = ⊤
IsGlobal (e.Mutex mutex size) = ⊤
IsGlobal (e.Function function signature) = ⊤
IsGlobal (e.Defined value) = ⊤
IsGlobal (e.Library library) = ⊤
IsGlobal (e.Constant constant) = ⊤
IsGlobal (e.Order order) = ⊤

global_var : (kind : GlobalKind) (var : Var) (d : Declared) → AllDenoted IsGlobal d.scope → AllDenoted IsGlobal (declare_var kind var d).scope
global_var (g.Plain ctype) var d all = let name = var.place.word.name in let size = size_in d.scope var.place.size in all_declared IsGlobal d.scope name (e.Plain ctype d.scope.counts.plains size) (with_global d.scope name (g.Plain ctype) size).counts tt all
global_var (g.Atomic ctype) var d all = let name = var.place.word.name in let size = size_in d.scope var.place.size in all_declared IsGlobal d.scope name (e.Atomic ctype d.scope.counts.atomics size) (with_global d.scope name (g.Atomic ctype) size).counts tt all
global_var g.Mutex var d all = let name = var.place.word.name in let size = size_in d.scope var.place.size in all_declared IsGlobal d.scope name (e.Mutex d.scope.counts.mutexes size) (with_global d.scope name g.Mutex size).counts tt all

global_vars : (kind : GlobalKind) (vars : List Var) (d : Declared) → AllDenoted IsGlobal d.scope → AllDenoted IsGlobal (declare_vars kind vars d).scope
global_vars kind [] d all = all
global_vars kind (x ∷ xs) d all = global_vars kind xs (declare_var kind x d) (global_var kind x d all)

module _ (t : Tables) (fs : List Signature) where
  lies_var : (kind : GlobalKind) (var : Var) (d : Declared) (k : ℕ) → Counted d → Lies t fs d.scope → (var_walk kind var (with_places d.scope k)).faults ≡ [] → Before (declare_var kind var d).tables t
      → Lies t fs (declare_var kind var d).scope
  lies_var kind var d k c lies clean later =
      let s = with_places d.scope k in let place = var.place in let starts = starts_of var.start in
      let all = nil_front (var_faults kind var s) (starts_faults (var_walk kind var s).scope starts) clean in
      let one = nil_back (twice s place.word) _ all in
      let sizes = nil_front (size_faults s place.size) _ one in
      let two = nil_back (size_faults s place.size) _ one in
      let fits = nil_front (missized s place (length starts)) _ two in
      let three = nil_back (missized s place (length starts)) _ two in
      let room = nil_front (too_many (limit_of kind) (count_of kind s.counts) (size_in s place.size) place.word) _ three in
      lies_by kind var d c lies (some_taken s place.size place.word.spot (length starts) sizes fits) (sym (ap (λ (n : ℕ). passes (limit_of kind) n (size_in s place.size)) (count_same kind d.scope k))
      ∙ when_nil (passes (limit_of kind) (count_of kind s.counts) (size_in s place.size)) rule.TooMany place.word.spot room) later
    where
      lies_by : (kind : GlobalKind) (var : Var) (d : Declared) → Counted d → Lies t fs d.scope → 0 < taken (size_in d.scope var.place.size) → passes (limit_of kind) (count_of kind d.scope.counts) (size_in d.scope var.place.size) ≡ false
          → Before (declare_var kind var d).tables t → Lies t fs (declare_var kind var d).scope
      lies_by (g.Plain ctype) var d c lies some fits later = let size = size_in d.scope var.place.size in let n = d.scope.counts.plains in let name = var.place.word.name in let inner = with_global d.scope name (g.Plain ctype) size in
          lies_declared t fs d.scope name (e.Plain ctype n size) inner.counts
          (some, there d.tables.plains (object_cells inner name ctype var.start size) later.plains.0 t.plains n (taken size) (passes plain_limit n size) ctype fits later.plains.1 c.plains (cells_are inner name ctype var.start size)) lies
      lies_by (g.Atomic ctype) var d c lies some fits later = let size = size_in d.scope var.place.size in let n = d.scope.counts.atomics in let name = var.place.word.name in let inner = with_global d.scope name (g.Atomic ctype) size in
          lies_declared t fs d.scope name (e.Atomic ctype n size) inner.counts
          (some, there d.tables.atomics (object_cells inner name ctype var.start size) later.atomics.0 t.atomics n (taken size) (passes atomic_limit n size) ctype fits later.atomics.1 c.atomics (cells_are inner name ctype var.start size)) lies
      lies_by g.Mutex var d c lies some fits later = let size = size_in d.scope var.place.size in let n = d.scope.counts.mutexes in let name = var.place.word.name in let inner = with_global d.scope name g.Mutex size in
          lies_declared t fs d.scope name (e.Mutex n size) inner.counts
          (some, counts_there d.tables.mutexes (object_cells inner name Int Absent size) later.mutexes.0 t.mutexes n (taken size) (passes mutex_limit n size) fits later.mutexes.1 c.mutexes (object_count inner name Int Absent size)) lies

  var_scope : (kind : GlobalKind) (var : Var) (d : Declared) (k : ℕ) → (var_walk kind var (with_places d.scope k)).scope ≡ with_places (declare_var kind var d).scope k
  var_scope (g.Plain ctype) var d k = refl
  var_scope (g.Atomic ctype) var d k = refl
  var_scope g.Mutex var d k = refl

  -- the walk behind variables, and what lies there
  vars_walked : (kind : GlobalKind) (vars : List Var) (d : Declared) (k : ℕ) → Counted d → Lies t fs d.scope → (vars_walk kind vars (with_places d.scope k)).faults ≡ [] → Before (declare_vars kind vars d).tables t
      → Lies t fs (declare_vars kind vars d).scope × ((vars_walk kind vars (with_places d.scope k)).scope ≡ with_places (declare_vars kind vars d).scope k)
  vars_walked kind [] d k c lies clean later = (lies, refl)
  vars_walked kind (x ∷ xs) d k c lies clean later =
      let s = with_places d.scope k in let one = declare_var kind x d in
      let is = var_scope kind x d k in
      let clean_first = nil_front (var_walk kind x s).faults (vars_walk kind xs (var_walk kind x s).scope).faults clean in
      let clean_rest = sym (ap (λ (z : Scope). (vars_walk kind xs z).faults) is) ∙ nil_back (var_walk kind x s).faults (vars_walk kind xs (var_walk kind x s).scope).faults clean in
      let lies_one = lies_var kind x d k c lies clean_first (before_on one.tables (declare_vars kind xs one).tables t (before_vars kind xs one) later) in
      let rest = vars_walked kind xs one k (counted_var kind x d c) lies_one clean_rest later in
      (rest.0, ap (λ (z : Scope). (vars_walk kind xs z).scope) is ∙ rest.1)

  -- ---- items

  -- what is known before these items
  pub record At (d : Declared) (k : ℕ) (items : List Item) : Type 0 where
    pub counted : Counted d
    pub lies : Lies t fs d.scope
    pub global : AllDenoted IsGlobal d.scope
    pub faultless : (items_walk items (with_places d.scope k)).faults ≡ []
    pub later : Before (declare_items items d).tables t
    pub earlier : List Signature
    pub signatures : fs ≡ earlier ++ signatures_in items
    pub number : length earlier ≡ d.scope.counts.functions
    pub room : d.scope.counts.functions + length items ≤ function_limit

  nth_here : (xs ys : List Signature) (x : Signature) (n : ℕ) → length xs ≡ n → slice_get (xs ++ x ∷ ys) n ≡ Some x
  nth_here xs ys x n is = nth_back xs (x ∷ ys) n 0 (omega (arith, is))

  pub function_lies : (f : Function) (items : List Item) (d : Declared) (k : ℕ) → At d k (item.Function f ∷ items) → Lies t fs (with_function d.scope f)
  function_lies f items d k at = let n = d.scope.counts.functions in lies_declared t fs d.scope f.word.name (e.Function n (signature_of f)) (with_function d.scope f).counts
      (ap (λ (xs : List Signature). slice_get xs n) at.signatures ∙ nth_here at.earlier (signatures_in items) (signature_of f) n at.number) at.lies

  pub global_function : (f : Function) (d : Declared) → AllDenoted IsGlobal d.scope → AllDenoted IsGlobal (with_function d.scope f)
  global_function f d all = all_declared IsGlobal d.scope f.word.name (e.Function d.scope.counts.functions (signature_of f)) (with_function d.scope f).counts tt all

  -- the scope behind a function is the one before its body
  pub function_scope : (f : Function) (s : Scope) → (k : ℕ) × ((function_walk f s).scope ≡ with_places (with_function s f) k)
  function_scope f s =
      let outer = with_function s f in let first = (params_walk f.params (entered_function outer)).scope in
      let inner = (walk_of_block f.body (record { answers = f.answers; in_loop = false }) first).scope in
      let grew = grew_on t fs (entered_function outer) first inner (grew_params t fs f.params (entered_function outer)) ((block_declares t fs f.body).grew (record { answers = f.answers; in_loop = false }) first) in
      (inner.counts.places, left_is outer inner grew.more grew.names grew.counts)
    where
      left_is : (outer inner : Scope) (more : List Named) → inner.names ≡ outer.names ++ more → inner.counts ≡ record outer.counts { places = inner.counts.places } → left_for outer inner ≡ with_places outer inner.counts.places
      left_is outer inner more names counts = ap (λ (ns : List Named). record { names = ns; start = outer.start; counts = inner.counts }) (names_left t fs outer inner more names)
          ∙ ap (λ (c : Counts). record { names = outer.names; start = outer.start; counts = c }) counts

  record Behind (x : Item) (items : List Item) (d : Declared) (k : ℕ) : Type 0 where
    pub places : ℕ
    pub at : At (declare_item x d) places items
    pub scope : (item_walk x (with_places d.scope k)).scope ≡ with_places (declare_item x d).scope places

  no_more : (x : Item) (items : List Item) (s s' : Scope) → (item_walk x s).scope ≡ s' → (items_walk (x ∷ items) s).faults ≡ [] → (items_walk items s').faults ≡ []
  no_more x items s s' is clean = sym (ap (λ (z : Scope). (items_walk items z).faults) is) ∙ nil_back (item_walk x s).faults (items_walk items (item_walk x s).scope).faults clean

  behind_item : (x : Item) (items : List Item) (d : Declared) (k : ℕ) → At d k (x ∷ items) → Behind x items d k
  behind_item (item.Include spot) items d k at = record {
    places = k;
    at = record { counted = at.counted; lies = at.lies; global = at.global; faultless = at.faultless; later = at.later; earlier = at.earlier; signatures = at.signatures; number = at.number; room = let r = at.room in omega (arith, r) };
    scope = refl;
  }
  behind_item (item.Define spot word value) items d k at = record {
    places = k;
    at = record {
      counted = counted_item (item.Define spot word value) d at.counted;
      lies = lies_declared t fs d.scope word.name (e.Defined value) d.scope.counts tt at.lies;
      global = all_declared IsGlobal d.scope word.name (e.Defined value) d.scope.counts tt at.global;
      faultless = no_more (item.Define spot word value) items (with_places d.scope k) _ refl at.faultless;
      later = at.later;
      earlier = at.earlier;
      signatures = at.signatures;
      number = at.number;
      room = let r = at.room in omega (arith, r);
    };
    scope = refl;
  }
  behind_item (item.Global spot kind vars) items d k at =
      let s = with_places d.scope k in
      let walked = vars_walked kind vars d k at.counted at.lies (nil_front (vars_walk kind vars s).faults (items_walk items (vars_walk kind vars s).scope).faults at.faultless)
      (before_on (declare_vars kind vars d).tables (declare_items items (declare_vars kind vars d)).tables t (before_items items (declare_vars kind vars d)) at.later) in
      let same = vars_functions kind vars d in record {
        places = k;
        at = record {
          counted = counted_vars kind vars d at.counted;
          lies = walked.0;
          global = global_vars kind vars d at.global;
          faultless = no_more (item.Global spot kind vars) items s _ walked.1 at.faultless;
          later = at.later;
          earlier = at.earlier;
          signatures = at.signatures;
          number = at.number ∙ sym same;
          room = let r = at.room in omega (arith, r, same);
        };
        scope = walked.1;
      }
  behind_item (item.Function f) items d k at =
      let s = with_places d.scope k in let walked = function_scope f s in
      let one : (declare_function f d).scope.counts.functions ≡ d.scope.counts.functions + 1 = next_count d.scope.counts.functions (passes function_limit d.scope.counts.functions None) refl (let r = at.room in omega (arith, r)) in record {
        places = walked.0;
        at = record {
          counted = counted_item (item.Function f) d at.counted;
          lies = function_lies f items d k at;
          global = global_function f d at.global;
          faultless = no_more (item.Function f) items s _ walked.1 at.faultless;
          later = at.later;
          earlier = at.earlier ++ signature_of f ∷ [];
          signatures = at.signatures ∙ sym (append_assoc at.earlier (signature_of f ∷ []) (signatures_in items));
          number = let m = length-append at.earlier (signature_of f ∷ []) in let n = at.number in omega (arith, m, n, one);
          room = let r = at.room in omega (arith, r, one);
        };
        scope = walked.1;
      }

  pub record Reached (before after : List Item) (d : Declared) (k : ℕ) : Type 0 where
    pub places : ℕ
    pub at : At (declare_items before d) places after
    pub scope : (items_walk before (with_places d.scope k)).scope ≡ with_places (declare_items before d).scope places

  pub reached : (before after : List Item) (d : Declared) (k : ℕ) → At d k (before ++ after) → Reached before after d k
  reached [] after d k at = record { places = k; at = at; scope = refl }
  reached (x ∷ xs) after d k at = let one = behind_item x (xs ++ after) d k at in let rest = reached xs after (declare_item x d) one.places one.at in
      record { places = rest.places; at = rest.at; scope = ap (λ (z : Scope). (items_walk xs z).scope) one.scope ∙ rest.scope }

-- ---- names of the library take nothing of the tables

abbrev is_word : Entity → Bool
is_word (e.Library library) = true
is_word (e.Constant constant) = true
is_word (e.Order order) = true
is_word _ = false

abbrev are_words : Table → Bool
are_words [] = true
are_words (x ∷ xs) = is_word x.1 && are_words xs

both_true : (a b : Bool) → a && b ≡ true → (a ≡ true) × (b ≡ true)
both_true true b is = (refl, is)
both_true false b is = absurd cc

found_here : (first entity : Entity) (rest : Option Entity) (here : Bool) → is_word first ≡ true → (rest ≡ Some entity → is_word entity ≡ true) → (if here then Some first else rest) ≡ Some entity → is_word entity ≡ true
found_here first entity rest true one other e = ap is_word (sym (same_Some first entity e)) ∙ one
found_here first entity rest false one other e = other e

word_found : (table : Table) (name : List ℕ) (entity : Entity) → are_words table ≡ true → look_up table name ≡ Some entity → is_word entity ≡ true
word_found [] name entity are is = absurd cc
word_found (x ∷ xs) name entity are is = let both = both_true (is_word x.1) (are_words xs) are in
    found_here x.1 entity (look_up xs name) (bytes_eq name x.0) both.0 (word_found xs name entity both.1) is

either : (a b : Option Entity) (entity : Entity) → (a ≡ Some entity → is_word entity ≡ true) → (b ≡ Some entity → is_word entity ≡ true) → or_else a b ≡ Some entity → is_word entity ≡ true
either None b entity one other is = other is
either (Some a) b entity one other is = one is

library_word : (name : List ℕ) (entity : Entity) → library_entity name ≡ Some entity → is_word entity ≡ true
unfolding library_entity
library_word name entity is = either (look_up transfers name) _ entity (word_found transfers name entity refl)
    (either (look_up fetches name) _ entity (word_found fetches name entity refl) (either (look_up exchanges name) _ entity (word_found exchanges name entity refl)
    (either (look_up threads name) _ entity (word_found threads name entity refl) (either (look_up constants name) _ entity (word_found constants name entity refl) (word_found orders name entity refl))))) is

word_lies : (t : Tables) (fs : List Signature) (entity : Entity) → is_word entity ≡ true → LiesIn t fs entity
word_lies t fs (e.Library library) is = tt
word_lies t fs (e.Constant constant) is = tt
word_lies t fs (e.Order order) is = tt
word_lies t fs (e.Local ctype place size) is = absurd (true≢false (sym is))
word_lies t fs (e.Handle place size) is = absurd (true≢false (sym is))
word_lies t fs (e.Atomic ctype cell size) is = absurd (true≢false (sym is))
word_lies t fs (e.Plain ctype cell size) is = absurd (true≢false (sym is))
word_lies t fs (e.Mutex mutex size) is = absurd (true≢false (sym is))
word_lies t fs (e.Function function signature) is = absurd (true≢false (sym is))
word_lies t fs (e.Defined value) is = absurd (true≢false (sym is))

word_global : (entity : Entity) → is_word entity ≡ true → IsGlobal entity
word_global (e.Library library) is = tt
word_global (e.Constant constant) is = tt
word_global (e.Order order) is = tt
word_global (e.Local ctype place size) is = absurd (true≢false (sym is))
word_global (e.Handle place size) is = absurd (true≢false (sym is))
word_global (e.Atomic ctype cell size) is = tt
word_global (e.Plain ctype cell size) is = tt
word_global (e.Mutex mutex size) is = tt
word_global (e.Function function signature) is = tt
word_global (e.Defined value) is = tt

-- ---- the law

-- what is known before the first item
pub at_first : (program : Program) → length program.items < 2 ^ 32 → HasNoFault program → At (tables_of program) (signatures_in program.items) nothing_declared 0 program.items
at_first program few clean = record {
  counted = record { atomics = refl; plains = refl; mutexes = refl; functions = refl; atomic_room = omega arith; plain_room = omega arith; mutex_room = omega arith; function_room = omega arith };
  lies = λ name entity is. word_lies (tables_of program) (signatures_in program.items) entity (library_word name entity is);
  global = λ name entity is. word_global entity (library_word name entity is);
  faultless = nil_back (no_main program.items) (items_walk program.items file_scope).faults clean;
  later = before_same (tables_of program);
  earlier = [];
  signatures = refl;
  number = refl;
  room = omega (arith, few);
}

pub reached_in : (program : Program) → length program.items < 2 ^ 32 → HasNoFault program → (before after : List Item) → program.items ≡ before ++ after
    → Reached (tables_of program) (signatures_in program.items) before after nothing_declared 0
reached_in program few clean before after is = reached (tables_of program) (signatures_in program.items) before after nothing_declared 0
    (subst (At (tables_of program) (signatures_in program.items) nothing_declared 0) is (at_first program few clean))

-- ---- `main`

pub record MainFound (n : ℕ) (items : List Item) (m : ℕ) : Type 0 where
  pub place : ℕ
  pub function : Function
  pub at : m ≡ n + place
  pub there : slice_get (signatures_in items) place ≡ Some (signature_of function)
  pub is : is_main_function function ≡ true

main_later : (n : ℕ) (f : Function) (items : List Item) (m : ℕ) → MainFound (n + 1) items m → MainFound n (item.Function f ∷ items) m
main_later n f items m found = record { place = suc found.place; function = found.function; at = let e = found.at in omega (arith, e); there = found.there; is = found.is }

main_first : (n : ℕ) (f : Function) (items : List Item) (m : ℕ) (here : Bool) → is_main_function f ≡ here → (if here then Some n else main_from (n + 1) items) ≡ Some m → (main_from (n + 1) items ≡ Some m → MainFound (n + 1) items m)
    → MainFound n (item.Function f ∷ items) m
main_first n f items m true is e rest = record { place = 0; function = f; at = let same = same_Some n m e in omega (arith, same); there = refl; is = is }
main_first n f items m false is e rest = main_later n f items m (rest e)

main_found : (n : ℕ) (items : List Item) (m : ℕ) → main_from n items ≡ Some m → MainFound n items m
main_found n [] m e = absurd cc
main_found n (item.Include spot ∷ items) m e = let found = main_found n items m e in record { place = found.place; function = found.function; at = found.at; there = found.there; is = found.is }
main_found n (item.Define spot word value ∷ items) m e = let found = main_found n items m e in record { place = found.place; function = found.function; at = found.at; there = found.there; is = found.is }
main_found n (item.Global spot kind vars ∷ items) m e = let found = main_found n items m e in record { place = found.place; function = found.function; at = found.at; there = found.there; is = found.is }
main_found n (item.Function f ∷ items) m e = main_first n f items m (is_main_function f) refl e (λ more. main_found (n + 1) items m more)

none_params : (n : ℕ) → (n == 0) ≡ true → n ≡ 0
none_params n is = grind (arith, nat_tests, is)

main_is : (f : Function) → is_main_function f ≡ true → (answers_int f.answers ≡ true) × (length f.params ≡ 0)
main_is f is =
    let rest = (both_true (bytes_eq f.word.name (codes "main")) (answers_int f.answers && (length f.params == 0)) is).1 in
    let both = both_true (answers_int f.answers) (length f.params == 0) rest in (both.0, none_params (length f.params) both.1)

main_at : (program : Program) (m : ℕ) → main_of program ≡ Some m → IsMainAt (signatures_in program.items) m
main_at program m e = let found = main_found 0 program.items m e in let same : m ≡ found.place = (let a = found.at in omega (arith, a)) in
    (signature_of found.function, (ap (slice_get (signatures_in program.items)) same ∙ found.there, main_is found.function found.is))

all_counted : (program : Program) → length program.items < 2 ^ 32 → HasNoFault program → length (tables_of program).functions ≡ length (signatures_in program.items)
all_counted program few clean = let r = reached_in program few clean program.items [] (sym (append-nil program.items)) in
    let a = r.at.counted.functions in let b = r.at.number in let c = ap length r.at.signatures in let d = length-append r.at.earlier [] in omega (arith, a, b, c, d)

pub faultless_lies_within : FaultlessLiesWithin
faultless_lies_within program few clean = let t = tables_of program in let fs = signatures_in program.items in record {
  count = all_counted program few clean;
  main = main_at program;
  items = λ before after is. let r = reached_in program few clean before after is in lies_named t fs (declare_items before nothing_declared).scope (items_walk before file_scope).scope (ap (λ (s : Scope). s.names) r.scope) r.at.lies;
  functions = λ before after f is. let r = reached_in program few clean before (item.Function f ∷ after) is in
      let s = (items_walk before file_scope).scope in
      let outer = lies_named t fs (with_function (declare_items before nothing_declared).scope f) (with_function s f) (ap (λ (z : Scope). (with_function z f).names) r.scope) (function_lies t fs f after (declare_items before nothing_declared) r.places r.at) in
      (grew_params t fs f.params (entered_function (with_function s f))).kept outer;
  statements = λ scope around stmt lies. ((stmt_declares t fs stmt).grew around scope).kept lies;
}
