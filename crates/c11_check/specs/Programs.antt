-- All faults of a program, and the first of them (C11 6.9).
use Rattle.std.specs.Prelude.{◌≡◌, ℕ, ◌==◌, Bool, false, ◌||◌, ◌&&◌, not, List, [], ◌∷◌, ◌++◌, length, Option, Some, None, nat_lt, codes, slice_get, if◌then◌else◌}
use Rattle.std.specs.List.{list_any}
use Rattle.std.specs.Str.{bytes_eq}
use Rattle.c11_ast.specs.declared.place.Constant.{Constant}
use Rattle.c11_ast.specs.declared.item.GlobalKind.{GlobalKind}
use Rattle.c11_ast.specs.declared.item.GlobalKind.TheVariants as g
use Rattle.c11_ast.specs.declared.item.Start.{Start}
use Rattle.c11_ast.specs.declared.item.Start.TheVariants as start
use Rattle.c11_ast.specs.declared.item.Var.{Var}
use Rattle.c11_ast.specs.declared.item.Param.{Param}
use Rattle.c11_ast.specs.declared.item.Function.{Function}
use Rattle.c11_ast.specs.declared.item.Item.{Item}
use Rattle.c11_ast.specs.declared.item.Item.TheVariants as item
use Rattle.c11_ast.specs.declared.item.Program.{Program}
use Rattle.c11_check.specs.declared.entity.Counts.{Counts}
use Rattle.c11_check.specs.declared.fault.Rule.{Rule}
use Rattle.c11_check.specs.declared.fault.Rule.TheVariants as rule
use Rattle.c11_check.specs.declared.fault.Fault.{Fault}
use Rattle.c11_check.specs.declared.fault.CheckFault.{CheckFault}
use Rattle.c11_check.specs.declared.fault.CheckFault.TheVariants as c
use Rattle.c11_check.specs.Scopes.{Scope, size_in, atomic_limit, plain_limit, mutex_limit, place_limit, with_global, with_define, with_function, with_local, param_type, entered_function, file_scope}
use Rattle.c11_check.specs.Faults.{when, twice, misconstant, misstarted, missized, too_many, answers_int}
use Rattle.c11_check.specs.Statements.{Walked, walked, before, followed, inside, size_faults, walk_of_block}

-- ---- globals (C11 6.7)

abbrev pub limit_of : GlobalKind → ℕ
limit_of (g.Plain ctype) = plain_limit
limit_of (g.Atomic ctype) = atomic_limit
limit_of g.Mutex = mutex_limit

abbrev pub count_of : GlobalKind → Counts → ℕ
count_of (g.Plain ctype) counts = counts.plains
count_of (g.Atomic ctype) counts = counts.atomics
count_of g.Mutex counts = counts.mutexes

abbrev pub starts_of : Start → List Constant
starts_of start.Absent = []
starts_of (start.One constant) = constant ∷ []
starts_of (start.Brace constants) = constants

abbrev pub starts_faults : Scope → List Constant → List Fault
starts_faults scope [] = []
starts_faults scope (constant ∷ constants) = misconstant scope constant.value ++ starts_faults scope constants

abbrev pub var_faults : GlobalKind → Var → Scope → List Fault
var_faults kind var scope = let place = var.place in let starts = starts_of var.start in
    twice scope place.word ++ (size_faults scope place.size ++ (missized scope place (length starts)
    ++ (too_many (limit_of kind) (count_of kind scope.counts) (size_in scope place.size) place.word ++ misstarted place var.start)))

-- the name is declared when its starts are read
abbrev pub var_walk : GlobalKind → Var → Scope → Walked
var_walk kind var scope = let inner = with_global scope var.place.word.name kind (size_in scope var.place.size) in
    walked (var_faults kind var scope ++ starts_faults inner (starts_of var.start)) inner

abbrev pub vars_walk : GlobalKind → List Var → Scope → Walked
vars_walk kind [] scope = walked [] scope
vars_walk kind (var ∷ vars) scope = followed (var_walk kind var scope) (vars_walk kind vars)

-- ---- functions (C11 6.9.1): the parameters and the outermost block are one scope

abbrev pub param_walk : Param → Scope → Walked
param_walk param scope = walked (twice scope param.word ++ too_many place_limit scope.counts.places None param.word)
    (with_local scope param.word.name (param_type param.ctype) None)

abbrev pub params_walk : List Param → Scope → Walked
params_walk [] scope = walked [] scope
params_walk (param ∷ params) scope = followed (param_walk param scope) (params_walk params)

abbrev pub function_walk : Function → Scope → Walked
function_walk f scope = let outer = with_function scope f in before (twice scope f.word) (inside outer (followed (params_walk f.params (entered_function outer))
    (λ inner. walk_of_block f.body (record { answers = f.answers; in_loop = false }) inner)))

-- ---- items

abbrev pub item_walk : Item → Scope → Walked
item_walk (item.Include spot) scope = walked [] scope
item_walk (item.Define spot word value) scope = walked (twice scope word) (with_define scope word.name value)
item_walk (item.Global spot kind vars) scope = vars_walk kind vars scope
item_walk (item.Function f) scope = function_walk f scope

abbrev pub items_walk : List Item → Scope → Walked
items_walk [] scope = walked [] scope
items_walk (item ∷ items) scope = followed (item_walk item scope) (items_walk items)

-- ---- 6 NoMain: no function `main` answers `int` and has no parameters; its place is the first of the text

abbrev pub is_main_function : Function → Bool
is_main_function f = bytes_eq f.word.name (codes "main") && (answers_int f.answers && (length f.params == 0))

abbrev pub is_main : Item → Bool
is_main (item.Function f) = is_main_function f
is_main _ = false

abbrev pub has_main : List Item → Bool
has_main items = list_any is_main items

abbrev pub no_main : List Item → List Fault
no_main items = when (not (has_main items)) rule.NoMain (record { line = 1; column = 1 })

-- ---- the whole program

-- all faults of a program
abbrev pub faults_of : Program → List Fault
faults_of program = no_main program.items ++ (items_walk program.items file_scope).faults

-- the part of an accepted text that is said of its program
abbrev pub HasNoFault : Program → Type 0
HasNoFault program = faults_of program ≡ []

-- the number of a rule, which decides between faults of one place
abbrev pub number_of : Rule → ℕ
number_of rule.Unknown = 1
number_of rule.Twice = 2
number_of rule.Kind = 3
number_of rule.Arguments = 4
number_of rule.Order = 5
number_of rule.NoMain = 6
number_of rule.Size = 7
number_of rule.TooMany = 8
number_of rule.Typing = 9

-- by line, then by column, then by number
abbrev pub precedes : Fault → Fault → Bool
precedes a b = nat_lt a.spot.line b.spot.line || ((a.spot.line == b.spot.line)
    && (nat_lt a.spot.column b.spot.column || ((a.spot.column == b.spot.column) && nat_lt (number_of a.rule) (number_of b.rule))))

-- The fault is one of these, and none of them precedes it.
pub record IsFirst (faults : List Fault) (fault : Fault) : Type 0 where
  pub member : (i : ℕ) × (slice_get faults i ≡ Some fault)
  pub first : (i : ℕ) (other : Fault) → slice_get faults i ≡ Some other → precedes other fault ≡ false

-- ---- the first fault, kept along the faults

-- the earlier of the one that was kept and the next
abbrev pub earlier : Option Fault → Fault → Option Fault
earlier None fault = Some fault
earlier (Some kept) fault = if precedes fault kept then Some fault else Some kept

abbrev pub keep : Option Fault → List Fault → Option Fault
keep kept [] = kept
keep kept (fault ∷ faults) = keep (earlier kept fault) faults

-- ---- refusals

abbrev pub at_spot : Rule → ℕ → ℕ → Option Fault
at_spot rule line column = Some (record { rule = rule; spot = record { line = line; column = column } })

-- the fault that a refusal reports
abbrev pub reported : CheckFault → Option Fault
reported (c.Unknown line column) = at_spot rule.Unknown line column
reported (c.Twice line column) = at_spot rule.Twice line column
reported (c.Kind line column) = at_spot rule.Kind line column
reported (c.Arguments line column) = at_spot rule.Arguments line column
reported (c.Order line column) = at_spot rule.Order line column
reported (c.NoMain line column) = at_spot rule.NoMain line column
reported (c.Size line column) = at_spot rule.Size line column
reported (c.TooMany line column) = at_spot rule.TooMany line column
reported (c.Typing line column) = at_spot rule.Typing line column
reported c.NoMemory = None

abbrev pub IsFirstOf : List Fault → Option Fault → Type 0
IsFirstOf faults None = Unit {0}
IsFirstOf faults (Some fault) = IsFirst faults fault

-- Unless memory ran out, the fault that is reported is the first of the program's.
abbrev pub Refuses : Program → CheckFault → Type 0
Refuses program fault = IsFirstOf (faults_of program) (reported fault)
