-- Statements of the grammar, each with what it is to the checks.
use Rattle.std.proofs.Common.{◌≡◌, ◌∙◌, ℕ, suc, Bool, List, [], ◌∷◌, map, Option, Some, refl, ap, sym}
use Rattle.c11_num.specs.declared.value.CType.{CType}
use Rattle.c11_ast.specs.declared.place.Spot.{Spot}
use Rattle.c11_ast.specs.declared.place.Place.{Place}
use Rattle.c11_ast.specs.declared.expr.Expr.{Expr}
use Rattle.c11_ast.specs.declared.stmt.Stmt.{Stmt}
use Rattle.c11_ast.specs.declared.stmt.Stmt.TheVariants as s
use Rattle.c11_ast.specs.declared.stmt.Stmt.TheOpen.{Stmt-F}
use Rattle.c11_ast.specs.declared.stmt.Stmt.TheFolds.{fold-roll-Stmt, fold-roll-Block}
use Rattle.c11_grammar.specs.declared.token.Mark.TheVariants as m
use Rattle.c11_grammar.specs.Tokens.{Tokens, Takes, Commas}
use Rattle.c11_grammar.specs.Expressions.{parts}
use Rattle.c11_grammar.specs.Declarations.{IsPlace}
use Rattle.c11_grammar.specs.Declarations as d
use Rattle.c11_grammar.specs.Statements.{IsBlock, IsBlockItems, decl_at, stmt_at, made_block}
use Rattle.c11_grammar.specs.Statements as g
use Rattle.c11_check.specs.declared.around.Around.{Around}
use Rattle.c11_check.specs.declared.fault.Fault.{Fault}
use Rattle.c11_check.specs.Scopes.{Scope}
use Rattle.c11_check.specs.Expressions.{Part, part_of, used, alone}
use Rattle.c11_check.specs.Statements.{Walk, Walked, walked, before, followed, walk_of, walk_of_block, stmt_walk, arm_walk, block_walk, in_order, looping, handles_walk}
use Rattle.c11_ring.proofs.TreesParts.{Shown}

-- A statement of the grammar, or a declaration, in which the checks find no fault and which leaves this scope.
pub record Stands (is : Tokens → Stmt → Tokens → Type 0) (around : Around) (scope after : Scope) (ts rest : Tokens) : Type 0 where
  pub stmt : Stmt
  pub whole : is ts stmt rest
  pub walk : walk_of stmt around scope ≡ walked [] after

-- whole statements and declarations
pub record AllStand (room : ℕ) (around : Around) (scope after : Scope) (ts rest : Tokens) : Type 0 where
  pub stmts : List Stmt
  pub whole : IsBlockItems (decl_at room) (stmt_at room) ts stmts rest
  pub walk : in_order (map walk_of stmts) around scope ≡ walked [] after

-- ---- what a fold is at each kind of statement

walk_empty : (spot : Spot) → walk_of (s.Empty spot) ≡ stmt_walk (Stmt-F.Empty spot)
walk_empty spot = ap walk_of (sym (s.rolls-Empty spot)) ∙ fold-roll-Stmt Walk Walk Walk stmt_walk arm_walk block_walk (Stmt-F.Empty spot)

walk_expr : (expr : Expr) → walk_of (s.Expr expr) ≡ stmt_walk (Stmt-F.Expr expr)
walk_expr expr = ap walk_of (sym (s.rolls-Expr expr)) ∙ fold-roll-Stmt Walk Walk Walk stmt_walk arm_walk block_walk (Stmt-F.Expr expr)

walk_while : (spot : Spot) (test : Expr) (body : Stmt) → walk_of (s.While spot test body) ≡ stmt_walk (Stmt-F.While spot test (walk_of body))
walk_while spot test body = ap walk_of (sym (s.rolls-While spot test body)) ∙ fold-roll-Stmt Walk Walk Walk stmt_walk arm_walk block_walk (Stmt-F.While spot test body)

walk_return : (spot : Spot) (result : Option Expr) → walk_of (s.Return spot result) ≡ stmt_walk (Stmt-F.Return spot result)
walk_return spot result = ap walk_of (sym (s.rolls-Return spot result)) ∙ fold-roll-Stmt Walk Walk Walk stmt_walk arm_walk block_walk (Stmt-F.Return spot result)

walk_handles : (spot : Spot) (places : List Place) → walk_of (s.Handles spot places) ≡ stmt_walk (Stmt-F.Handles spot places)
walk_handles spot places = ap walk_of (sym (s.rolls-Handles spot places)) ∙ fold-roll-Stmt Walk Walk Walk stmt_walk arm_walk block_walk (Stmt-F.Handles spot places)

pub walk_block : (p q : Spot) (items : List Stmt) → walk_of_block (made_block p items q) ≡ in_order (map walk_of items)
walk_block p q items = fold-roll-Block Walk Walk Walk stmt_walk arm_walk block_walk (record { spot = p; items = items; close = q })

-- ---- each kind of statement

module _ (room : ℕ) (around : Around) (scope : Scope) where
  -- while (TEST);
  pub while_stands : {ts a b c f rest : Tokens} {p q r t : Spot} {part : Part} → Takes m.While ts p a → Takes m.LeftParen a q b
      → Shown (parts (suc (suc room))).assign b c part → Takes m.RightParen c r f → Takes m.Semicolon f t rest → used part scope ≡ []
      → Stands (stmt_at (suc (suc room))) around scope scope ts rest
  while_stands {p = p} {t = t} loop left test right end faultless = record {
    stmt = s.While p test.expr (s.Empty t);
    whole = g.IsStmt.while_loop loop (g.IsTest.tested left test.whole right) (g.IsStmt.empty end);
    walk = ap (λ (w : Walk). w around scope) (walk_while p test.expr (s.Empty t))
        ∙ (ap (λ (w : Walk). before (used (part_of test.expr) scope) (w (looping around) scope)) (walk_empty t)
        ∙ (ap (λ (x : Part). before (used x scope) (walked [] scope)) test.shown
        ∙ ap (λ (fs : List Fault). before fs (walked [] scope)) faultless));
  }

  -- EXPR;
  pub expr_stands : {ts a rest : Tokens} {q : Spot} {part : Part} → Shown (parts (suc room)).assign ts a part → Takes m.Semicolon a q rest
      → alone part scope ≡ [] → Stands (stmt_at (suc room)) around scope scope ts rest
  expr_stands it end faultless = record {
    stmt = s.Expr it.expr;
    whole = g.IsStmt.evaluated it.whole end;
    walk = ap (λ (w : Walk). w around scope) (walk_expr it.expr)
        ∙ (ap (λ (x : Part). walked (alone x scope) scope) it.shown
        ∙ ap (λ (fs : List Fault). walked fs scope) faultless);
  }

  -- thrd_t NAME, NAME;
  pub handles_stand : {ts a b rest : Tokens} {p q : Spot} {after : Scope} {places : List Place} → Takes m.ThrdT ts p a → Commas IsPlace a places b
      → Takes m.Semicolon b q rest → handles_walk places scope ≡ walked [] after → Stands (decl_at (suc room)) around scope after ts rest
  handles_stand {p = p} {places = places} mark all end faultless = record {
    stmt = s.Handles p places;
    whole = d.IsDecl.handles mark all end;
    walk = ap (λ (w : Walk). w around scope) (walk_handles p places) ∙ faultless;
  }

-- return VALUE;
pub return_stands : (room : ℕ) (ctype : CType) (in_loop : Bool) (scope : Scope) {ts a b rest : Tokens} {p q : Spot} {part : Part} → Takes m.Return ts p a
    → Shown (parts (suc room)).assign a b part → Takes m.Semicolon b q rest → used part scope ≡ []
    → Stands (stmt_at (suc room)) (record { answers = Some ctype; in_loop = in_loop }) scope scope ts rest
return_stands room ctype in_loop scope {p = p} mark it end faultless = record {
  stmt = s.Return p (Some it.expr);
  whole = g.IsStmt.returns mark (g.IsMaybe.some it.whole) end;
  walk = ap (λ (w : Walk). w (record { answers = Some ctype; in_loop = in_loop }) scope) (walk_return p (Some it.expr))
      ∙ (ap (λ (x : Part). walked (used x scope) scope) it.shown
      ∙ ap (λ (fs : List Fault). walked fs scope) faultless);
}

-- ---- lists of statements

module _ (room : ℕ) (around : Around) where
  pub none_stand : (scope : Scope) {ts : Tokens} → AllStand room around scope scope ts ts
  none_stand scope = record { stmts = []; whole = g.IsBlockItems.done; walk = refl }

  walks_on : (scope inner after : Scope) (stmt : Stmt) (stmts : List Stmt) → walk_of stmt around scope ≡ walked [] inner
      → in_order (map walk_of stmts) around inner ≡ walked [] after → in_order (map walk_of (stmt ∷ stmts)) around scope ≡ walked [] after
  walks_on scope inner after stmt stmts one others =
      ap (λ (w : Walked). followed w (in_order (map walk_of stmts) around)) one ∙ ap (λ (w : Walked). before [] w) others

  pub stmt_before : {scope inner after : Scope} {ts a rest : Tokens} → Stands (stmt_at room) around scope inner ts a → AllStand room around inner after a rest
      → AllStand room around scope after ts rest
  stmt_before {scope = scope} {inner = inner} {after = after} one others = record {
    stmts = one.stmt ∷ others.stmts;
    whole = g.IsBlockItems.more (g.IsBlockItem.executed one.whole) others.whole;
    walk = walks_on scope inner after one.stmt others.stmts one.walk others.walk;
  }

  pub decl_before : {scope inner after : Scope} {ts a rest : Tokens} → Stands (decl_at room) around scope inner ts a → AllStand room around inner after a rest
      → AllStand room around scope after ts rest
  decl_before {scope = scope} {inner = inner} {after = after} one others = record {
    stmts = one.stmt ∷ others.stmts;
    whole = g.IsBlockItems.more (g.IsBlockItem.declared one.whole) others.whole;
    walk = walks_on scope inner after one.stmt others.stmts one.walk others.walk;
  }
