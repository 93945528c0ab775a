-- Tables have as many entries as are counted, and keep the limits.
use Rattle.std.proofs.Common.{◌≡◌, ℕ, zero, suc, ◌+◌, ◌<◌, ◌≤◌, Bool, true, false, List, [], ◌∷◌, ◌++◌, length, Option, Some, None, refl, sym, ap, ◌∙◌, length-append, arith}
use Rattle.std.specs.Prelude.{if◌then◌else◌, nat_lt, ◌||◌, not}
use Rattle.std.proofs.Common.{◌^◌}
use Rattle.std.proofs.lemmas.Option.{same_Some, none-some}
use Rattle.c11_num.specs.declared.value.CType.TheVariants.{Int}
use Rattle.c11_ast.specs.declared.item.Start.TheVariants.{Absent}
use Rattle.c11_check.specs.declared.fault.Fault.{Fault}
use Rattle.c11_check.specs.declared.fault.Rule.TheVariants.{NoMain}
use Rattle.c11_check.specs.Faults.{when}
use Rattle.c11_num.specs.declared.value.CType.{CType}
use Rattle.c11_ast.specs.declared.item.GlobalKind.{GlobalKind}
use Rattle.c11_ast.specs.declared.item.GlobalKind.TheVariants as g
use Rattle.c11_ast.specs.declared.item.Start.{Start}
use Rattle.c11_ast.specs.declared.item.Var.{Var}
use Rattle.c11_ast.specs.declared.item.Function.{Function}
use Rattle.c11_ast.specs.declared.item.Item.{Item}
use Rattle.c11_ast.specs.declared.item.Item.TheVariants as item
use Rattle.c11_ast.specs.declared.item.Program.{Program}
use Rattle.c11_check.specs.Scopes.{Scope, with_global, file_scope, passes, taken, size_in, atomic_limit, plain_limit, mutex_limit, function_limit}
use Rattle.c11_check.specs.Programs.{is_main_function, has_main, faults_of, items_walk}
use Rattle.c11_check.specs.Tables.{Declared, element_cells, object_cells, declare_var, declare_vars, function_info, declare_function, declare_item, declare_items, nothing_declared, tables_of, main_from, IsWithin}

pub record Counted (d : Declared) : Type 0 where
  pub atomics : length d.tables.atomics ≡ d.scope.counts.atomics
  pub plains : length d.tables.plains ≡ d.scope.counts.plains
  pub mutexes : length d.tables.mutexes ≡ d.scope.counts.mutexes
  pub functions : length d.tables.functions ≡ d.scope.counts.functions
  pub atomic_room : d.scope.counts.atomics ≤ atomic_limit
  pub plain_room : d.scope.counts.plains ≤ plain_limit
  pub mutex_room : d.scope.counts.mutexes ≤ mutex_limit
  pub function_room : d.scope.counts.functions ≤ function_limit

element_count : (s : Scope) (name : List ℕ) (ctype : CType) (start : Start) (place n : ℕ) → length (element_cells s name ctype start place n) ≡ n
element_count s name ctype start place zero = refl
element_count s name ctype start place (suc n) = ap suc (element_count s name ctype start (place + 1) n)

pub object_count : (s : Scope) (name : List ℕ) (ctype : CType) (start : Start) (size : Option ℕ) → length (object_cells s name ctype start size) ≡ taken size
object_count s name ctype start None = refl
object_count s name ctype start (Some n) = element_count s name ctype start 0 n

-- a list with these entries, unless the limit is passed
more_count : {A : Type 0} (xs ys : List A) (count more : ℕ) (past : Bool) → length xs ≡ count → length ys ≡ more
    → length (xs ++ (if past then [] else ys)) ≡ (if past then count else count + more)
more_count xs ys count more true one another = length-append xs [] ∙ omega (arith, one)
more_count xs ys count more false one another = length-append xs ys ∙ omega (arith, one, another)

more_room : (limit count more : ℕ) (past : Bool) → nat_lt limit (count + more) ≡ past → count ≤ limit → (if past then count else count + more) ≤ limit
more_room limit count more true is room = room
more_room limit count more false is room = grind arith

pub counted_var : (kind : GlobalKind) (var : Var) (d : Declared) → Counted d → Counted (declare_var kind var d)
counted_var (g.Plain ctype) var d c = let size = size_in d.scope var.place.size in let n = d.scope.counts.plains in let inner = with_global d.scope var.place.word.name (g.Plain ctype) size in
    record {
      atomics = c.atomics;
      plains = more_count d.tables.plains (object_cells inner var.place.word.name ctype var.start size) n (taken size) (passes plain_limit n size) c.plains (object_count inner var.place.word.name ctype var.start size);
      mutexes = c.mutexes;
      functions = c.functions;
      atomic_room = c.atomic_room;
      plain_room = more_room plain_limit n (taken size) (passes plain_limit n size) refl c.plain_room;
      mutex_room = c.mutex_room;
      function_room = c.function_room;
    }
counted_var (g.Atomic ctype) var d c = let size = size_in d.scope var.place.size in let n = d.scope.counts.atomics in let inner = with_global d.scope var.place.word.name (g.Atomic ctype) size in
    record {
      atomics = more_count d.tables.atomics (object_cells inner var.place.word.name ctype var.start size) n (taken size) (passes atomic_limit n size) c.atomics (object_count inner var.place.word.name ctype var.start size);
      plains = c.plains;
      mutexes = c.mutexes;
      functions = c.functions;
      atomic_room = more_room atomic_limit n (taken size) (passes atomic_limit n size) refl c.atomic_room;
      plain_room = c.plain_room;
      mutex_room = c.mutex_room;
      function_room = c.function_room;
    }
counted_var g.Mutex var d c = let size = size_in d.scope var.place.size in let n = d.scope.counts.mutexes in let inner = with_global d.scope var.place.word.name g.Mutex size in
    record {
      atomics = c.atomics;
      plains = c.plains;
      mutexes = more_count d.tables.mutexes (object_cells inner var.place.word.name Int Absent size) n (taken size) (passes mutex_limit n size) c.mutexes (object_count inner var.place.word.name Int Absent size);
      functions = c.functions;
      atomic_room = c.atomic_room;
      plain_room = c.plain_room;
      mutex_room = more_room mutex_limit n (taken size) (passes mutex_limit n size) refl c.mutex_room;
      function_room = c.function_room;
    }

pub counted_vars : (kind : GlobalKind) (vars : List Var) (d : Declared) → Counted d → Counted (declare_vars kind vars d)
counted_vars kind [] d c = c
counted_vars kind (var ∷ vars) d c = counted_vars kind vars (declare_var kind var d) (counted_var kind var d c)

counted_function : (f : Function) (d : Declared) → Counted d → Counted (declare_function f d)
counted_function f d c = let n = d.scope.counts.functions in record {
  atomics = c.atomics;
  plains = c.plains;
  mutexes = c.mutexes;
  functions = more_count d.tables.functions (function_info f ∷ []) n 1 (passes function_limit n None) c.functions refl;
  atomic_room = c.atomic_room;
  plain_room = c.plain_room;
  mutex_room = c.mutex_room;
  function_room = more_room function_limit n 1 (passes function_limit n None) refl c.function_room;
}

pub counted_item : (i : Item) (d : Declared) → Counted d → Counted (declare_item i d)
counted_item (item.Include spot) d c = c
counted_item (item.Define spot word value) d c = record {
  atomics = c.atomics;
  plains = c.plains;
  mutexes = c.mutexes;
  functions = c.functions;
  atomic_room = c.atomic_room;
  plain_room = c.plain_room;
  mutex_room = c.mutex_room;
  function_room = c.function_room;
}
counted_item (item.Global spot kind vars) d c = counted_vars kind vars d c
counted_item (item.Function f) d c = counted_function f d c

counted_items : (items : List Item) (d : Declared) → Counted d → Counted (declare_items items d)
counted_items [] d c = c
counted_items (i ∷ items) d c = counted_items items (declare_item i d) (counted_item i d c)

-- ---- the number of `main`

var_functions : (kind : GlobalKind) (var : Var) (d : Declared) → (declare_var kind var d).scope.counts.functions ≡ d.scope.counts.functions
var_functions (g.Plain ctype) var d = refl
var_functions (g.Atomic ctype) var d = refl
var_functions g.Mutex var d = refl

pub vars_functions : (kind : GlobalKind) (vars : List Var) (d : Declared) → (declare_vars kind vars d).scope.counts.functions ≡ d.scope.counts.functions
vars_functions kind [] d = refl
vars_functions kind (var ∷ vars) d = vars_functions kind vars (declare_var kind var d) ∙ var_functions kind var d

pub next_count : (n : ℕ) (past : Bool) → nat_lt function_limit (n + 1) ≡ past → n + 1 ≤ function_limit → (if past then n else n + 1) ≡ n + 1
next_count n true is room = absurd (grind arith)
next_count n false is room = refl

-- counts of functions do not fall
grows : (past : Bool) (n : ℕ) → n ≤ (if past then n else n + 1)
grows true n = omega arith
grows false n = omega arith

item_grows : (i : Item) (d : Declared) → d.scope.counts.functions ≤ (declare_item i d).scope.counts.functions
item_grows (item.Include spot) d = omega arith
item_grows (item.Define spot word value) d = omega arith
item_grows (item.Global spot kind vars) d = let e = vars_functions kind vars d in omega (arith, e)
item_grows (item.Function f) d = grows (passes function_limit d.scope.counts.functions None) d.scope.counts.functions

items_grow : (items : List Item) (d : Declared) → d.scope.counts.functions ≤ (declare_items items d).scope.counts.functions
items_grow [] d = omega arith
items_grow (i ∷ items) d = let one = item_grows i d in let rest = items_grow items (declare_item i d) in omega (arith, one, rest)

main_here : (f : Function) (items : List Item) (d : Declared) (m : ℕ) (here : Bool) → is_main_function f ≡ here → (declare_function f d).scope.counts.functions ≡ d.scope.counts.functions + 1
    → main_from d.scope.counts.functions (item.Function f ∷ items) ≡ Some m
    → (main_from (d.scope.counts.functions + 1) items ≡ Some m → m < (declare_items items (declare_function f d)).scope.counts.functions)
    → m < (declare_items items (declare_function f d)).scope.counts.functions
main_here f items d m true is e some rest =
    let same = same_Some d.scope.counts.functions m (sym (ap (λ (b : Bool). if b then Some d.scope.counts.functions else main_from (d.scope.counts.functions + 1) items) is) ∙ some) in
    let more = items_grow items (declare_function f d) in omega (arith, same, more, e)
main_here f items d m false is e some rest = rest (sym (ap (λ (b : Bool). if b then Some d.scope.counts.functions else main_from (d.scope.counts.functions + 1) items) is) ∙ some)

main_below : (items : List Item) (d : Declared) (m : ℕ) → d.scope.counts.functions + length items ≤ function_limit → main_from d.scope.counts.functions items ≡ Some m
    → m < (declare_items items d).scope.counts.functions
main_below [] d m room is = absurd cc
main_below (item.Include spot ∷ items) d m room is = main_below items d m (omega (arith, room)) is
main_below (item.Define spot word value ∷ items) d m room is = main_below items (declare_item (item.Define spot word value) d) m (omega (arith, room)) is
main_below (item.Global spot kind vars ∷ items) d m room is = let e = vars_functions kind vars d in
    main_below items (declare_vars kind vars d) m (omega (arith, room, e)) (ap (λ (n : ℕ). main_from n items) e ∙ is)
main_below (item.Function f ∷ items) d m room is = let n = d.scope.counts.functions in
    let e : (declare_function f d).scope.counts.functions ≡ n + 1 = next_count n (passes function_limit n None) refl (omega (arith, room)) in
    main_here f items d m (is_main_function f) refl e is (λ more. main_below items (declare_function f d) m (omega (arith, room, e)) (ap (λ (k : ℕ). main_from k items) e ∙ more))

pub within_limits : (program : Program) (m : ℕ) → length program.items < 2 ^ 32 → main_from 0 program.items ≡ Some m → IsWithin (tables_of program) m
within_limits program m few is =
    let c = counted_items program.items nothing_declared (record {
      atomics = refl;
      plains = refl;
      mutexes = refl;
      functions = refl;
      atomic_room = omega arith;
      plain_room = omega arith;
      mutex_room = omega arith;
      function_room = omega arith;
    }) in
    let below = main_below program.items nothing_declared m (omega (arith, few)) is in
    (omega (arith, c.atomics, c.atomic_room), omega (arith, c.plains, c.plain_room), omega (arith, c.mutexes, c.mutex_room), omega (arith, c.functions, c.function_room), omega (arith, c.functions, below))

-- ---- a program without a `main` has a fault

some_fault : (xs : List Fault) → when true NoMain (record { line = 1; column = 1 }) ++ xs ≡ [] → ⊥
some_fault xs e = cc

none_here : (f : Function) (items : List Item) (n : ℕ) (here : Bool) → is_main_function f ≡ here → main_from n (item.Function f ∷ items) ≡ None
    → (main_from (n + 1) items ≡ None → has_main items ≡ false) → has_main (item.Function f ∷ items) ≡ false
none_here f items n true is none rest = absurd (none-some n (sym none ∙ ap (λ (b : Bool). if b then Some n else main_from (n + 1) items) is))
none_here f items n false is none rest = ap (λ (b : Bool). b || has_main items) is ∙ rest (sym (ap (λ (b : Bool). if b then Some n else main_from (n + 1) items) is) ∙ none)

none_main : (n : ℕ) (items : List Item) → main_from n items ≡ None → has_main items ≡ false
none_main n [] is = refl
none_main n (item.Include spot ∷ items) is = none_main n items is
none_main n (item.Define spot word value ∷ items) is = none_main n items is
none_main n (item.Global spot kind vars ∷ items) is = none_main n items is
none_main n (item.Function f ∷ items) is = none_here f items n (is_main_function f) refl is (λ more. none_main (n + 1) items more)

pub some_main : (program : Program) → faults_of program ≡ [] → main_from 0 program.items ≡ None → ⊥
some_main program faultless is = some_fault (items_walk program.items file_scope).faults (sym (ap (λ (b : Bool). when (not b) NoMain (record { line = 1; column = 1 }) ++ (items_walk program.items file_scope).faults) (none_main 0 program.items is)) ∙ faultless)
