-- What names denote lies within the tables of their program.
use Rattle.std.specs.Prelude.{◌≡◌, ℕ, ◌+◌, ◌<◌, ◌≤◌, ◌^◌, ⊤, true, List, [], ◌∷◌, ◌++◌, length, Some, slice_get}
use Rattle.c11_num.specs.declared.value.CType.{CType}
use Rattle.c11_ast.specs.declared.item.Item.{Item}
use Rattle.c11_ast.specs.declared.item.Item.TheVariants as item
use Rattle.c11_ast.specs.declared.item.Program.{Program}
use Rattle.c11_ast.specs.declared.item.Function.{Function}
use Rattle.c11_ast.specs.declared.stmt.Stmt.{Stmt}
use Rattle.c11_events.specs.declared.cells.CellInfo.{CellInfo}
use Rattle.c11_check.specs.declared.around.Around.{Around}
use Rattle.c11_check.specs.declared.entity.Entity.{Entity}
use Rattle.c11_check.specs.declared.entity.Entity.TheVariants as e
use Rattle.c11_check.specs.declared.entity.Signature.{Signature}
use Rattle.c11_check.specs.Scopes.{Scope, denoted, taken, signature_of, with_function, entered_function, file_scope}
use Rattle.c11_check.specs.Statements.{walk_of}
use Rattle.c11_check.specs.Faults.{answers_int}
use Rattle.c11_check.specs.Programs.{HasNoFault, items_walk, params_walk}
use Rattle.c11_check.specs.Tables.{Tables, tables_of, main_of}

-- the signatures of the functions, in the order of their numbers
abbrev pub signatures_in : List Item → List Signature
signatures_in [] = []
signatures_in (item.Function f ∷ items) = signature_of f ∷ signatures_in items
signatures_in (item.Include spot ∷ items) = signatures_in items
signatures_in (item.Define spot word value ∷ items) = signatures_in items
signatures_in (item.Global spot kind vars ∷ items) = signatures_in items

-- so many cells from this one on are there, each of this type
abbrev pub HasCells : List CellInfo → ℕ → ℕ → CType → Type 0
HasCells cells from count ctype = (n : ℕ) → n < count → (info : CellInfo) × ((slice_get cells (from + n) ≡ Some info) × (info.initial.ctype ≡ ctype))

-- An object has at least one cell or mutex, and all of them are there; a function is there, with its signature. What a function
-- declares, a `#define` and a name of the library take nothing of the tables.
abbrev pub LiesIn : Tables → List Signature → Entity → Type 0
LiesIn t fs (e.Atomic ctype cell size) = (0 < taken size) × HasCells t.atomics cell (taken size) ctype
LiesIn t fs (e.Plain ctype cell size) = (0 < taken size) × HasCells t.plains cell (taken size) ctype
LiesIn t fs (e.Mutex mutex size) = (0 < taken size) × (mutex + taken size ≤ length t.mutexes)
LiesIn t fs (e.Function function signature) = slice_get fs function ≡ Some signature
LiesIn t fs (e.Local ctype place size) = ⊤
LiesIn t fs (e.Handle place size) = ⊤
LiesIn t fs (e.Defined value) = ⊤
LiesIn t fs (e.Library library) = ⊤
LiesIn t fs (e.Constant constant) = ⊤
LiesIn t fs (e.Order order) = ⊤

-- what each name denotes at a place of the program
abbrev pub LiesWithin : Program → Scope → Type 0
LiesWithin program scope = (name : List ℕ) (entity : Entity) → denoted scope name ≡ Some entity → LiesIn (tables_of program) (signatures_in program.items) entity

-- the function with this number answers `int` and has no parameters
abbrev pub IsMainAt : List Signature → ℕ → Type 0
IsMainAt functions m = (signature : Signature) × ((slice_get functions m ≡ Some signature) × ((answers_int signature.answers ≡ true) × (signature.params ≡ 0)))

-- There are as many functions in the tables as signatures, and `main` is one of them; the names lie within the tables before each item, where the block of each function begins, and behind each statement if they do before it
pub record NamesLieWithin (program : Program) : Type 0 where
  pub count : length (tables_of program).functions ≡ length (signatures_in program.items)
  pub main : (m : ℕ) → main_of program ≡ Some m → IsMainAt (signatures_in program.items) m
  pub items : (before after : List Item) → program.items ≡ before ++ after → LiesWithin program (items_walk before file_scope).scope
  pub functions : (before after : List Item) (f : Function) → program.items ≡ before ++ item.Function f ∷ after
      → LiesWithin program (params_walk f.params (entered_function (with_function (items_walk before file_scope).scope f))).scope
  pub statements : (scope : Scope) (around : Around) (stmt : Stmt) → LiesWithin program scope → LiesWithin program (walk_of stmt around scope).scope

-- in a program without a fault
abbrev pub FaultlessLiesWithin : Type 0
FaultlessLiesWithin = (program : Program) → length program.items < 2 ^ 32 → HasNoFault program → NamesLieWithin program
