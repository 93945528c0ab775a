-- Programs (C11 6.9).
use Rattle.std.specs.Prelude.{◌≤◌, length, List, [], ◌∷◌, Option}
use Rattle.c11_num.specs.Ranges.{TypedNumber}
use Rattle.c11_num.specs.declared.value.CType.{CType}
use Rattle.c11_ast.specs.declared.place.Spot.{Spot}
use Rattle.c11_ast.specs.declared.place.Word.{Word}
use Rattle.c11_ast.specs.declared.stmt.Block.{Block}
use Rattle.c11_ast.specs.declared.item.GlobalKind.{GlobalKind}
use Rattle.c11_ast.specs.declared.item.GlobalKind.TheVariants as kind
use Rattle.c11_ast.specs.declared.item.Var.{Var}
use Rattle.c11_ast.specs.declared.item.Param.{Param}
use Rattle.c11_ast.specs.declared.item.Function.{Function}
use Rattle.c11_ast.specs.declared.item.Item.{Item}
use Rattle.c11_ast.specs.declared.item.Item.TheVariants as item
use Rattle.c11_grammar.specs.declared.token.Mark.TheVariants as m
use Rattle.c11_grammar.specs.Tokens.{Tokens, Takes, MayTake, Named, Counted, Begins, Commas}
use Rattle.c11_grammar.specs.Types.{IsInteger, IsAtomic, IsAnswer}
use Rattle.c11_grammar.specs.Declarations.{IsVar, IsMutexVar, IsParams}
use Rattle.c11_grammar.specs.Statements.{IsBlock, decl_at, stmt_at}

-- (integer | atomic) var {',' var} | 'mtx_t' place {',' place}
pub data IsGlobals : Tokens → GlobalKind → List Var → Tokens → Type 0 where
  plain : {ts a rest : Tokens} {ctype : CType} {vars : List Var} → IsInteger ts ctype a → Commas IsVar a vars rest → IsGlobals ts (kind.Plain ctype) vars rest
  atomic : {ts a rest : Tokens} {ctype : CType} {vars : List Var} → IsAtomic ts ctype a → Commas IsVar a vars rest → IsGlobals ts (kind.Atomic ctype) vars rest
  mutexes : {ts a rest : Tokens} {p : Spot} {vars : List Var} → Takes m.MtxT ts p a → Commas IsMutexVar a vars rest → IsGlobals ts kind.Mutex vars rest

abbrev pub function_with : Spot → Word → Option CType → List Param → Block → Function
function_with spot word answers params body = record { spot = spot; word = word; answers = answers; params = params; body = body }

-- item := Include | Define name literal | ['static'] globals ';' | ['static'] ('void' | integer) name '(' params ')' block
-- The block of a function has depth 1, what stands directly in it depth 2, and nothing is deeper than 64.
pub data IsItem : Tokens → Item → Tokens → Type 0 where
  include : {ts rest : Tokens} {p : Spot} → Takes m.Include ts p rest → IsItem ts (item.Include p) rest
  define : {ts a b rest : Tokens} {p q : Spot} {word : Word} {value : TypedNumber} → Takes m.Define ts p a → Named a word b → Counted b value q rest
      → IsItem ts (item.Define p word value) rest
  global : {ts a b rest : Tokens} {p q : Spot} {kind : GlobalKind} {vars : List Var} → Begins ts p → MayTake m.Static ts a → IsGlobals a kind vars b
      → Takes m.Semicolon b q rest → IsItem ts (item.Global p kind vars) rest
  function : {ts a b c d e f rest : Tokens} {p q r : Spot} {answers : Option CType} {word : Word} {params : List Param} {body : Block} → Begins ts p
      → MayTake m.Static ts a → IsAnswer a answers b → Named b word c → Takes m.LeftParen c q d → IsParams d params e → Takes m.RightParen e r f
      → IsBlock (decl_at 63) (stmt_at 63) f body rest → IsItem ts (item.Function (function_with p word answers params body)) rest

-- whole items, and then the rest
pub data Run : Tokens → List Item → Tokens → Type 0 where
  done : {ts : Tokens} → Run ts [] ts
  more : {ts a rest : Tokens} {item : Item} {items : List Item} → IsItem ts item a → Run a items rest → Run ts (item ∷ items) rest

-- program := { item }: the tokens are this program.
abbrev pub IsProgram : Tokens → List Item → Type 0
IsProgram ts items = Run ts items []

-- The tokens begin with whole items up to this rest, and with no longer run of whole items.
pub record LongestRun (ts rest : Tokens) : Type 0 where
  pub items : List Item
  pub run : Run ts items rest
  pub longest : (others : List Item) (other_rest : Tokens) → Run ts others other_rest → length rest ≤ length other_rest
