-- The tables of what a program declares at file scope: cells, mutexes and functions in the order of their declarations, an array by its elements.
use Rattle.std.specs.Prelude.{ℕ, zero, suc, ◌+◌, ◌<◌, ◌≤◌, List, [], ◌∷◌, ◌++◌, length, Option, Some, None, slice_get, if◌then◌else◌}
use Rattle.c11_num.specs.Ranges.{TypedNumber}
use Rattle.c11_num.specs.Wrapping.{converted}
use Rattle.c11_num.specs.declared.value.CType.{CType}
use Rattle.c11_num.specs.declared.value.CType.TheVariants.{Int}
use Rattle.c11_ast.specs.declared.place.Constant.{Constant}
use Rattle.c11_ast.specs.declared.item.GlobalKind.{GlobalKind}
use Rattle.c11_ast.specs.declared.item.GlobalKind.TheVariants as g
use Rattle.c11_ast.specs.declared.item.Start.{Start}
use Rattle.c11_ast.specs.declared.item.Start.TheVariants as start
use Rattle.c11_ast.specs.declared.item.Var.{Var}
use Rattle.c11_ast.specs.declared.item.Function.{Function}
use Rattle.c11_ast.specs.declared.item.Item.{Item}
use Rattle.c11_ast.specs.declared.item.Item.TheVariants as item
use Rattle.c11_ast.specs.declared.item.Program.{Program}
use Rattle.c11_events.specs.declared.cells.CellInfo.{CellInfo}
use Rattle.c11_events.specs.declared.cells.FunctionInfo.{FunctionInfo}
use Rattle.c11_check.specs.Library.{valued}
use Rattle.c11_check.specs.Scopes.{Scope, value_of_constant, size_in, passes, with_global, with_define, with_function, atomic_limit, plain_limit, mutex_limit, function_limit, file_scope}
use Rattle.c11_check.specs.Programs.{limit_of, count_of, starts_of, is_main_function}

-- ---- initial values (C11 6.7.9): a start is converted to the type of the object; what has none begins with 0

abbrev pub converted_or_zero : CType → Option TypedNumber → TypedNumber
converted_or_zero ctype (Some value) = converted ctype value
converted_or_zero ctype None = valued ctype 0

abbrev pub start_value : Scope → CType → Option Constant → TypedNumber
start_value scope ctype (Some constant) = converted_or_zero ctype (value_of_constant scope constant)
start_value scope ctype None = valued ctype 0

abbrev pub initial : Scope → CType → Start → ℕ → TypedNumber
initial scope ctype start place = start_value scope ctype (slice_get (starts_of start) place)

-- ---- cells

abbrev pub cell : List ℕ → Option ℕ → TypedNumber → CellInfo
cell name index value = record { name = name; index = index; initial = value }

-- so many elements, from this place on
abbrev pub element_cells : Scope → List ℕ → CType → Start → ℕ → ℕ → List CellInfo
element_cells scope name ctype start place zero = []
element_cells scope name ctype start place (suc n) = cell name (Some place) (initial scope ctype start place) ∷ element_cells scope name ctype start (place + 1) n

abbrev pub object_cells : Scope → List ℕ → CType → Start → Option ℕ → List CellInfo
object_cells scope name ctype start None = cell name None (initial scope ctype start 0) ∷ []
object_cells scope name ctype start (Some n) = element_cells scope name ctype start 0 n

-- a mutex has the initial value 0
abbrev pub cell_type : GlobalKind → CType
cell_type (g.Plain ctype) = ctype
cell_type (g.Atomic ctype) = ctype
cell_type g.Mutex = Int

abbrev pub cell_start : GlobalKind → Start → Start
cell_start (g.Plain ctype) written = written
cell_start (g.Atomic ctype) written = written
cell_start g.Mutex written = start.Absent

-- ---- along the program

pub record Tables : Type 0 where
  pub atomics : List CellInfo
  pub plains : List CellInfo
  pub mutexes : List CellInfo
  pub functions : List FunctionInfo

abbrev pub with_cells : GlobalKind → List CellInfo → Tables → Tables
with_cells (g.Plain ctype) cells t = record t { plains = t.plains ++ cells }
with_cells (g.Atomic ctype) cells t = record t { atomics = t.atomics ++ cells }
with_cells g.Mutex cells t = record t { mutexes = t.mutexes ++ cells }

-- what is declared so far, and its tables
pub record Declared : Type 0 where
  pub scope : Scope
  pub tables : Tables

abbrev pub together : Scope → Tables → Declared
together scope tables = record { scope = scope; tables = tables }

-- The starts are read behind the declaration. What passes a limit has no cells.
abbrev pub declare_var : GlobalKind → Var → Declared → Declared
declare_var kind var d = let name = var.place.word.name in let size = size_in d.scope var.place.size in let inner = with_global d.scope name kind size in record {
  scope = inner;
  tables = with_cells kind (if passes (limit_of kind) (count_of kind d.scope.counts) size then [] else object_cells inner name (cell_type kind) (cell_start kind var.start) size) d.tables;
}

abbrev pub declare_vars : GlobalKind → List Var → Declared → Declared
declare_vars kind [] d = d
declare_vars kind (var ∷ vars) d = declare_vars kind vars (declare_var kind var d)

abbrev pub function_info : Function → FunctionInfo
function_info f = record { name = f.word.name; line = f.word.spot.line }

abbrev pub declare_function : Function → Declared → Declared
declare_function f d = record {
  scope = with_function d.scope f;
  tables = record d.tables { functions = d.tables.functions ++ (if passes function_limit d.scope.counts.functions None then [] else function_info f ∷ []) };
}

abbrev pub declare_item : Item → Declared → Declared
declare_item (item.Include spot) d = d
declare_item (item.Define spot word value) d = record { scope = with_define d.scope word.name value; tables = d.tables }
declare_item (item.Global spot kind vars) d = declare_vars kind vars d
declare_item (item.Function f) d = declare_function f d

abbrev pub declare_items : List Item → Declared → Declared
declare_items [] d = d
declare_items (item ∷ items) d = declare_items items (declare_item item d)

abbrev pub nothing_declared : Declared
nothing_declared = record { scope = file_scope; tables = record { atomics = []; plains = []; mutexes = []; functions = [] } }

abbrev pub tables_of : Program → Tables
tables_of program = (declare_items program.items nothing_declared).tables

-- ---- the number of the first fitting `main`, where the next function has the number n

abbrev pub main_from : ℕ → List Item → Option ℕ
main_from n [] = None
main_from n (item.Function f ∷ items) = if is_main_function f then Some n else main_from (n + 1) items
main_from n (_ ∷ items) = main_from n items

abbrev pub main_of : Program → Option ℕ
main_of program = main_from 0 program.items

-- the tables keep the limits, and have a function with this number
abbrev pub IsWithin : Tables → ℕ → Type 0
IsWithin t main = (length t.atomics ≤ atomic_limit) × (length t.plains ≤ plain_limit) × (length t.mutexes ≤ mutex_limit) × (length t.functions ≤ function_limit) × (main < length t.functions)
