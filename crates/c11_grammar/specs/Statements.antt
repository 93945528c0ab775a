-- Statements (C11 6.8), one case for each production, with the rule of depth.
use Rattle.std.specs.Prelude.{ℕ, zero, suc, List, [], ◌∷◌, Option, Some, None}
use Rattle.c11_ast.specs.declared.place.Spot.{Spot}
use Rattle.c11_ast.specs.declared.expr.Expr.{Expr}
use Rattle.c11_ast.specs.declared.stmt.Arm.{Arm, roll-Arm}
use Rattle.c11_ast.specs.declared.stmt.Block.{Block, roll-Block}
use Rattle.c11_ast.specs.declared.stmt.Stmt.{Stmt}
use Rattle.c11_ast.specs.declared.stmt.Stmt.TheVariants as s
use Rattle.c11_grammar.specs.declared.token.Mark.TheVariants as m
use Rattle.c11_grammar.specs.Tokens.{Tokens, Takes, Free}
use Rattle.c11_grammar.specs.Expressions.{parts}
use Rattle.c11_grammar.specs.Declarations.{IsDecl}

abbrev pub made_block : Spot → List Stmt → Spot → Block
made_block spot items close = roll-Block (record { spot = spot; items = items; close = close })

abbrev pub made_arm : Expr → Stmt → Arm
made_arm test body = roll-Arm (record { test = test; body = body })

-- `expr` are the expressions at the statement's own level, which the declarations of a `for` share.
module _ (expr : Tokens → Expr → Tokens → Type 0) where
  -- '(' assign ')'
  pub data IsTest : Tokens → Expr → Tokens → Type 0 where
    tested : {ts a b rest : Tokens} {p q : Spot} {whole : Expr} → Takes m.LeftParen ts p a → expr a whole b → Takes m.RightParen b q rest → IsTest ts whole rest

  -- [assign]
  pub data IsMaybe : Tokens → Option Expr → Tokens → Type 0 where
    none : {ts : Tokens} → IsMaybe ts None ts
    some : {ts rest : Tokens} {whole : Expr} → expr ts whole rest → IsMaybe ts (Some whole) rest

  -- decl | [assign] ';'
  pub data IsForStart : Tokens → Option Stmt → Tokens → Type 0 where
    declared : {ts rest : Tokens} {stmt : Stmt} → IsDecl expr ts stmt rest → IsForStart ts (Some stmt) rest
    evaluated : {ts a rest : Tokens} {p : Spot} {whole : Expr} → expr ts whole a → Takes m.Semicolon a p rest → IsForStart ts (Some (s.Expr whole)) rest
    absent : {ts rest : Tokens} {p : Spot} → Takes m.Semicolon ts p rest → IsForStart ts None rest

-- The items of a block, one level below it: {decl | stmt}.
module _ (decl stmt : Tokens → Stmt → Tokens → Type 0) where
  pub data IsBlockItem : Tokens → Stmt → Tokens → Type 0 where
    declared : {ts rest : Tokens} {part : Stmt} → decl ts part rest → IsBlockItem ts part rest
    executed : {ts rest : Tokens} {part : Stmt} → stmt ts part rest → IsBlockItem ts part rest

  pub data IsBlockItems : Tokens → List Stmt → Tokens → Type 0 where
    done : {ts : Tokens} → IsBlockItems ts [] ts
    more : {ts a rest : Tokens} {first : Stmt} {others : List Stmt} → IsBlockItem ts first a → IsBlockItems a others rest → IsBlockItems ts (first ∷ others) rest

  -- block := '{' {decl | stmt} '}'
  pub data IsBlock : Tokens → Block → Tokens → Type 0 where
    block : {ts a b rest : Tokens} {p q : Spot} {items : List Stmt} → Takes m.LeftBrace ts p a → IsBlockItems a items b → Takes m.RightBrace b q rest
        → IsBlock ts (made_block p items q) rest

-- `decl` and `deeper` are the declarations and the statements one level deeper.
module _ (expr : Tokens → Expr → Tokens → Type 0) (decl deeper : Tokens → Stmt → Tokens → Type 0) where
  -- '(' assign ')' stmt
  pub data IsArm : Tokens → Arm → Tokens → Type 0 where
    armed : {ts a rest : Tokens} {test : Expr} {body : Stmt} → IsTest expr ts test a → deeper a body rest → IsArm ts (made_arm test body) rest

  -- {'else' 'if' '(' assign ')' stmt}: an `else` before an `if` goes on with the chain
  pub data MoreArms : Tokens → List Arm → Tokens → Type 0 where
    done : {ts : Tokens} → MoreArms ts [] ts
    more : {ts a b c rest : Tokens} {p q : Spot} {arm : Arm} {arms : List Arm} → Takes m.Else ts p a → Takes m.If a q b → IsArm b arm c → MoreArms c arms rest
        → MoreArms ts (arm ∷ arms) rest

  -- ['else' stmt]: without it no `else` follows, since that would belong to this `if`
  pub data IsElse : Tokens → Option Stmt → Tokens → Type 0 where
    without : {ts : Tokens} → Free m.Else ts → IsElse ts None ts
    with_one : {ts a rest : Tokens} {p : Spot} {stmt : Stmt} → Takes m.Else ts p a → Free m.If a → deeper a stmt rest → IsElse ts (Some stmt) rest

  pub data IsStmt : Tokens → Stmt → Tokens → Type 0 where
    nested : {ts rest : Tokens} {block : Block} → IsBlock decl deeper ts block rest → IsStmt ts (s.Block block) rest
    empty : {ts rest : Tokens} {p : Spot} → Takes m.Semicolon ts p rest → IsStmt ts (s.Empty p) rest
    evaluated : {ts a rest : Tokens} {q : Spot} {whole : Expr} → expr ts whole a → Takes m.Semicolon a q rest → IsStmt ts (s.Expr whole) rest
    chosen : {ts a b c rest : Tokens} {p : Spot} {arm : Arm} {arms : List Arm} {otherwise : Option Stmt} → Takes m.If ts p a → IsArm a arm b → MoreArms b arms c
        → IsElse c otherwise rest → IsStmt ts (s.If p (arm ∷ arms) otherwise) rest
    while_loop : {ts a b rest : Tokens} {p : Spot} {test : Expr} {body : Stmt} → Takes m.While ts p a → IsTest expr a test b → deeper b body rest
        → IsStmt ts (s.While p test body) rest
    do_loop : {ts a b c d rest : Tokens} {p q r : Spot} {test : Expr} {body : Stmt} → Takes m.Do ts p a → deeper a body b → Takes m.While b q c
        → IsTest expr c test d → Takes m.Semicolon d r rest → IsStmt ts (s.Do p body test) rest
    for_loop : {ts a b c d e f g rest : Tokens} {p q r t : Spot} {start : Option Stmt} {test next : Option Expr} {body : Stmt} → Takes m.For ts p a
        → Takes m.LeftParen a q b → IsForStart expr b start c → IsMaybe expr c test d → Takes m.Semicolon d r e → IsMaybe expr e next f
        → Takes m.RightParen f t g → deeper g body rest → IsStmt ts (s.For p start test next body) rest
    breaks : {ts a rest : Tokens} {p q : Spot} → Takes m.Break ts p a → Takes m.Semicolon a q rest → IsStmt ts (s.Break p) rest
    continues : {ts a rest : Tokens} {p q : Spot} → Takes m.Continue ts p a → Takes m.Semicolon a q rest → IsStmt ts (s.Continue p) rest
    returns : {ts a b rest : Tokens} {p q : Spot} {value : Option Expr} → Takes m.Return ts p a → IsMaybe expr a value b → Takes m.Semicolon b q rest
        → IsStmt ts (s.Return p value) rest

-- A declaration with room for this many levels: its expressions are at its own level.
abbrev pub decl_at : ℕ → Tokens → Stmt → Tokens → Type 0
decl_at zero = λ _ _ _. ⊥
decl_at (suc room) = IsDecl (parts (suc room)).assign

-- A statement with room for this many levels: its expressions are at its own level, and what stands directly inside it is one deeper.
abbrev pub stmt_at : ℕ → Tokens → Stmt → Tokens → Type 0
stmt_at zero = λ _ _ _. ⊥
stmt_at (suc room) = IsStmt (parts (suc room)).assign (decl_at room) (stmt_at room)
