-- Declarations (C11 6.7), one case for each production.
use Rattle.std.specs.Prelude.{Bool, true, false, List, [], Option, Some, None}
use Rattle.c11_num.specs.Ranges.{TypedNumber}
use Rattle.c11_num.specs.declared.value.CType.{CType}
use Rattle.c11_ast.specs.declared.place.Spot.{Spot}
use Rattle.c11_ast.specs.declared.place.Word.{Word}
use Rattle.c11_ast.specs.declared.place.Known.{Known}
use Rattle.c11_ast.specs.declared.place.Known.TheVariants as known
use Rattle.c11_ast.specs.declared.place.Constant.{Constant}
use Rattle.c11_ast.specs.declared.place.Place.{Place}
use Rattle.c11_ast.specs.declared.expr.Expr.{Expr}
use Rattle.c11_ast.specs.declared.stmt.Local.{Local}
use Rattle.c11_ast.specs.declared.stmt.Stmt.{Stmt}
use Rattle.c11_ast.specs.declared.stmt.Stmt.TheVariants as s
use Rattle.c11_ast.specs.declared.item.Start.{Start}
use Rattle.c11_ast.specs.declared.item.Start.TheVariants as start
use Rattle.c11_ast.specs.declared.item.Var.{Var}
use Rattle.c11_ast.specs.declared.item.Param.{Param}
use Rattle.c11_grammar.specs.declared.token.Mark.TheVariants as m
use Rattle.c11_grammar.specs.Tokens.{Tokens, Takes, MayTake, Named, Counted, Begins, Commas}
use Rattle.c11_grammar.specs.Types.{IsInteger}

abbrev pub constant_at : Spot → Bool → Known → Constant
constant_at spot negative value = record { spot = spot; negative = negative; value = value }

abbrev pub place_with : Word → Option Constant → Place
place_with word size = record { word = word; size = size }

abbrev pub var_with : Place → Start → Var
var_with place start = record { place = place; start = start }

abbrev pub local_with : Place → Option Expr → Local
local_with place start = record { place = place; start = start }

-- constant := literal | name
pub data IsKnown : Tokens → Known → Spot → Tokens → Type 0 where
  literal : {ts rest : Tokens} {value : TypedNumber} {p : Spot} → Counted ts value p rest → IsKnown ts (known.Literal value) p rest
  name : {ts rest : Tokens} {word : Word} → Named ts word rest → IsKnown ts (known.Named word) word.spot rest

pub data IsConstant : Tokens → Constant → Tokens → Type 0 where
  constant : {ts rest : Tokens} {value : Known} {p : Spot} → IsKnown ts value p rest → IsConstant ts (constant_at p false value) rest

-- ['-'] constant
pub data IsSigned : Tokens → Constant → Tokens → Type 0 where
  plain : {ts rest : Tokens} {value : Known} {p : Spot} → IsKnown ts value p rest → IsSigned ts (constant_at p false value) rest
  minus : {ts a rest : Tokens} {value : Known} {p q : Spot} → Takes m.Minus ts p a → IsKnown a value q rest → IsSigned ts (constant_at p true value) rest

-- start := ['-'] constant | 'ATOMIC_VAR_INIT' '(' ['-'] constant ')'
pub data IsStart : Tokens → Constant → Tokens → Type 0 where
  plain : {ts rest : Tokens} {constant : Constant} → IsSigned ts constant rest → IsStart ts constant rest
  wrapped : {ts a b c rest : Tokens} {p q r : Spot} {constant : Constant} → Takes m.AtomicVarInit ts p a → Takes m.LeftParen a q b
      → IsSigned b constant c → Takes m.RightParen c r rest → IsStart ts (record constant { spot = p }) rest

-- size := ['[' constant ']']
pub data IsSize : Tokens → Option Constant → Tokens → Type 0 where
  single : {ts : Tokens} → IsSize ts None ts
  array : {ts a b rest : Tokens} {p q : Spot} {size : Constant} → Takes m.LeftSquare ts p a → IsConstant a size b → Takes m.RightSquare b q rest
      → IsSize ts (Some size) rest

-- place := name size
pub data IsPlace : Tokens → Place → Tokens → Type 0 where
  sized : {ts a rest : Tokens} {word : Word} {size : Option Constant} → Named ts word a → IsSize a size rest → IsPlace ts (place_with word size) rest

-- start | '{' start {',' start} [','] '}'
pub data IsInitializer : Tokens → Start → Tokens → Type 0 where
  one : {ts rest : Tokens} {constant : Constant} → IsStart ts constant rest → IsInitializer ts (start.One constant) rest
  brace : {ts a b c rest : Tokens} {p q : Spot} {constants : List Constant} → Takes m.LeftBrace ts p a → Commas IsStart a constants b
      → MayTake m.Comma b c → Takes m.RightBrace c q rest → IsInitializer ts (start.Brace constants) rest

-- var := place ['=' initializer]
pub data IsVar : Tokens → Var → Tokens → Type 0 where
  absent : {ts rest : Tokens} {place : Place} → IsPlace ts place rest → IsVar ts (var_with place start.Absent) rest
  started : {ts a b rest : Tokens} {p : Spot} {place : Place} {value : Start} → IsPlace ts place a → Takes m.Set a p b → IsInitializer b value rest
      → IsVar ts (var_with place value) rest

-- a mutex has no initializer
pub data IsMutexVar : Tokens → Var → Tokens → Type 0 where
  mutex : {ts rest : Tokens} {place : Place} → IsPlace ts place rest → IsMutexVar ts (var_with place start.Absent) rest

-- param := integer name | 'void' '*' name
pub data IsParam : Tokens → Param → Tokens → Type 0 where
  number : {ts a rest : Tokens} {p : Spot} {ctype : CType} {word : Word} → Begins ts p → IsInteger ts ctype a → Named a word rest
      → IsParam ts (record { spot = p; word = word; ctype = Some ctype }) rest
  pointer : {ts a b rest : Tokens} {p q : Spot} {word : Word} → Takes m.Void ts p a → Takes m.Star a q b → Named b word rest
      → IsParam ts (record { spot = p; word = word; ctype = None }) rest

-- params := nothing | 'void' | param {',' param}
pub data IsParams : Tokens → List Param → Tokens → Type 0 where
  none : {ts : Tokens} → IsParams ts [] ts
  void : {ts rest : Tokens} {p : Spot} → Takes m.Void ts p rest → IsParams ts [] rest
  some : {ts rest : Tokens} {params : List Param} → Commas IsParam ts params rest → IsParams ts params rest

module _ (expr : Tokens → Expr → Tokens → Type 0) where
  -- local := place | name '=' assign
  pub data IsLocal : Tokens → Local → Tokens → Type 0 where
    unset : {ts rest : Tokens} {place : Place} → IsPlace ts place rest → IsLocal ts (local_with place None) rest
    set : {ts a b rest : Tokens} {p : Spot} {word : Word} {value : Expr} → Named ts word a → Takes m.Set a p b → expr b value rest
        → IsLocal ts (local_with (place_with word None) (Some value)) rest

  -- decl := integer local {',' local} ';' | 'thrd_t' place {',' place} ';'
  pub data IsDecl : Tokens → Stmt → Tokens → Type 0 where
    locals : {ts a b rest : Tokens} {p q : Spot} {ctype : CType} {all : List Local} → Begins ts p → IsInteger ts ctype a → Commas IsLocal a all b
        → Takes m.Semicolon b q rest → IsDecl ts (s.Locals p ctype all) rest
    handles : {ts a b rest : Tokens} {p q : Spot} {all : List Place} → Takes m.ThrdT ts p a → Commas IsPlace a all b
        → Takes m.Semicolon b q rest → IsDecl ts (s.Handles p all) rest
