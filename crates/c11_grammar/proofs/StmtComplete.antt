-- Statements of the grammar are read.
use Rattle.std.proofs.Common.{◌≡◌, ◌<◌, ◌≤◌, ◌+◌, ◌∷◌, ◌++◌, ◌∙◌, [], List, None, Option, Some, ap, arith, false, length, refl, suc, sym, zero, ℕ}
use Rattle.c11_ast.specs.declared.expr.Expr.{Expr}
use Rattle.c11_ast.specs.declared.place.Spot.{Spot}
use Rattle.c11_ast.specs.declared.stmt.Arm.{Arm}
use Rattle.c11_ast.specs.declared.stmt.Block.{Block}
use Rattle.c11_ast.specs.declared.stmt.Stmt.{Stmt}
use Rattle.c11_grammar.proofs.DeclComplete.{Always, DeclShape, decl_complete, decl_shape}
use Rattle.c11_grammar.proofs.ExprComplete.{all_complete, assign_complete}
use Rattle.c11_grammar.proofs.Shapes.{Shape, all_shaped, assign_shape, no_opening, opens_mark, undeclared}
use Rattle.c11_grammar.proofs.Steps.{bind_is, closes, free_none, given_is, given_not, past, takes_is, takes_not, takes_one}
use Rattle.c11_grammar.specs.Expressions.{IsAssign, parts}
use Rattle.c11_grammar.specs.Laws.{Complete, strength}
use Rattle.c11_grammar.specs.Reading.{Out, arm_of, arms, assign_of, block_after, block_item_of, block_items, decl_reader, do_after, evaluated, for_after, for_start_of, if_after, jump_of, loop_of, maybe_of, readers, return_after, see, stmt_of, stmt_reader, take, test_of, while_after}
use Rattle.c11_grammar.specs.Statements.{IsArm, IsBlock, IsBlockItem, IsBlockItems, IsElse, IsForStart, IsMaybe, IsStmt, IsTest, MoreArms, decl_at, made_block, stmt_at}
use Rattle.c11_grammar.specs.Tokens.{Takes, Tokens, declares, exactly}
use Rattle.c11_grammar.specs.declared.token.Mark.{Mark}
use Rattle.std.proofs.lemmas.List.{append-nil, append_assoc}
use Rattle.c11_grammar.specs.declared.token.Mark.TheVariants as m
use Rattle.c11_grammar.specs.Statements as st

-- A statement takes a token, and does not begin with a closing brace or as a declaration.
pub record StmtShape (ts rest : Tokens) : Type 0 where
  pub inside : take m.RightBrace ts ≡ None
  pub not_declared : see declares ts ≡ None
  pub shorter : length rest < length ts

marked : {ts rest a : Tokens} {p : Spot} (mark : Mark) → Takes mark ts p a → exactly m.RightBrace mark ≡ None → declares mark ≡ None → length rest < length ts → StmtShape ts rest
marked mark word brace plain less = record { inside = takes_not (exactly m.RightBrace) brace word; not_declared = takes_not declares plain word; shorter = less }

module _ (is_expr : Tokens → Expr → Tokens → Type 0) (expr_shape : (ts : Tokens) (part : Expr) (rest : Tokens) → is_expr ts part rest → Shape ts rest) where
  test_shorter : (ts : Tokens) (whole : Expr) (rest : Tokens) → IsTest is_expr ts whole rest → length rest < length ts
  test_shorter ts whole rest (st.tested left inner right) = omega (arith, takes_one left, (expr_shape _ _ _ inner).shorter, takes_one right)

  maybe_shorter : (ts : Tokens) (o : Option Expr) (rest : Tokens) → IsMaybe is_expr ts o rest → length rest ≤ length ts
  maybe_shorter ts o rest st.none = omega arith
  maybe_shorter ts o rest (st.some whole) = omega (arith, (expr_shape _ _ _ whole).shorter)

  for_start_shorter : (ts : Tokens) (o : Option Stmt) (rest : Tokens) → IsForStart is_expr ts o rest → length rest < length ts
  for_start_shorter ts o rest (st.IsForStart.declared {stmt = x} h) = (decl_shape is_expr expr_shape ts x rest h).shorter
  for_start_shorter ts o rest (st.IsForStart.evaluated whole end) = omega (arith, (expr_shape _ _ _ whole).shorter, takes_one end)
  for_start_shorter ts o rest (st.absent end) = omega (arith, takes_one end)

module _ (is_decl : Tokens → Stmt → Tokens → Type 0) (decl_shaped : (ts : Tokens) (part : Stmt) (rest : Tokens) → is_decl ts part rest → DeclShape ts rest)
    (is_deeper : Tokens → Stmt → Tokens → Type 0) (deeper_shape : (ts : Tokens) (part : Stmt) (rest : Tokens) → is_deeper ts part rest → StmtShape ts rest) where
  block_item_shorter : (ts : Tokens) (x : Stmt) (rest : Tokens) → IsBlockItem is_decl is_deeper ts x rest → length rest < length ts
  block_item_shorter ts x rest (st.IsBlockItem.declared h) = (decl_shaped ts x rest h).shorter
  block_item_shorter ts x rest (st.executed h) = (deeper_shape ts x rest h).shorter

  block_item_inside : (ts : Tokens) (x : Stmt) (rest : Tokens) → IsBlockItem is_decl is_deeper ts x rest → take m.RightBrace ts ≡ None
  block_item_inside ts x rest (st.IsBlockItem.declared h) = (decl_shaped ts x rest h).inside
  block_item_inside ts x rest (st.executed h) = (deeper_shape ts x rest h).inside

  block_items_shorter : (ts : Tokens) (all : List Stmt) (rest : Tokens) → IsBlockItems is_decl is_deeper ts all rest → length rest ≤ length ts
  block_items_shorter ts all rest st.IsBlockItems.done = omega arith
  block_items_shorter ts all rest (st.IsBlockItems.more {a = a} {first = x} {others = others} first tail) = omega (arith, block_item_shorter ts x a first, block_items_shorter a others rest tail)

  pub block_shorter : (ts : Tokens) (whole : Block) (rest : Tokens) → IsBlock is_decl is_deeper ts whole rest → length rest < length ts
  block_shorter ts whole rest (st.block {a = a} {b = b} {items = all} left inner right) = omega (arith, takes_one left, block_items_shorter a all b inner, takes_one right)

module _ (is_expr : Tokens → Expr → Tokens → Type 0) (expr_shape : (ts : Tokens) (part : Expr) (rest : Tokens) → is_expr ts part rest → Shape ts rest)
    (is_decl : Tokens → Stmt → Tokens → Type 0) (decl_shaped : (ts : Tokens) (part : Stmt) (rest : Tokens) → is_decl ts part rest → DeclShape ts rest)
    (is_deeper : Tokens → Stmt → Tokens → Type 0) (deeper_shape : (ts : Tokens) (part : Stmt) (rest : Tokens) → is_deeper ts part rest → StmtShape ts rest) where
  arm_shorter : (ts : Tokens) (whole : Arm) (rest : Tokens) → IsArm is_expr is_decl is_deeper ts whole rest → length rest < length ts
  arm_shorter ts whole rest (st.armed {a = a} {test = t} test body) = omega (arith, test_shorter is_expr expr_shape ts t a test, (deeper_shape _ _ _ body).shorter)

  arms_shorter : (ts : Tokens) (all : List Arm) (rest : Tokens) → MoreArms is_expr is_decl is_deeper ts all rest → length rest ≤ length ts
  arms_shorter ts all rest st.MoreArms.done = omega arith
  arms_shorter ts all rest (st.MoreArms.more {b = b} {c = c} {arm = one} {arms = others} otherwise chosen arm tail) =
      omega (arith, takes_one otherwise, takes_one chosen, arm_shorter b one c arm, arms_shorter c others rest tail)

  else_shorter : (ts : Tokens) (all : Option Stmt) (rest : Tokens) → IsElse is_expr is_decl is_deeper ts all rest → length rest ≤ length ts
  else_shorter ts all rest (st.without free) = omega arith
  else_shorter ts all rest (st.with_one otherwise free stmt) = omega (arith, takes_one otherwise, (deeper_shape _ _ _ stmt).shorter)

  stmt_shape : (ts : Tokens) (stmt : Stmt) (rest : Tokens) → IsStmt is_expr is_decl is_deeper ts stmt rest → StmtShape ts rest
  stmt_shape ts stmt rest (st.nested {block = x} (st.block {a = a} {b = b} {items = all} left inner right)) = marked m.LeftBrace left refl refl
      (omega (arith, takes_one left, block_items_shorter is_decl decl_shaped is_deeper deeper_shape a all b inner, takes_one right))
  stmt_shape ts stmt rest (st.empty end) = marked m.Semicolon end refl refl (omega (arith, takes_one end))
  stmt_shape ts stmt rest (st.IsStmt.evaluated whole end) = record {
    inside = no_opening m.RightBrace refl ts (expr_shape _ _ _ whole).opens;
    not_declared = undeclared ts (expr_shape _ _ _ whole).opens;
    shorter = omega (arith, (expr_shape _ _ _ whole).shorter, takes_one end);
  }
  stmt_shape ts stmt rest (st.chosen {a = a} {b = b} {c = c} {arm = one} {arms = all} {otherwise = o} word arm others otherwise) = marked m.If word refl refl
      (omega (arith, takes_one word, arm_shorter a one b arm, arms_shorter b all c others, else_shorter c o rest otherwise))
  stmt_shape ts stmt rest (st.while_loop {a = a} {b = b} {test = t} word test body) = marked m.While word refl refl
      (omega (arith, takes_one word, test_shorter is_expr expr_shape a t b test, (deeper_shape _ _ _ body).shorter))
  stmt_shape ts stmt rest (st.do_loop {c = c} {d = d} {test = t} word body again test end) = marked m.Do word refl refl
      (omega (arith, takes_one word, (deeper_shape _ _ _ body).shorter, takes_one again, test_shorter is_expr expr_shape c t d test, takes_one end))
  stmt_shape ts stmt rest (st.for_loop {b = b} {c = c} {d = d} {e = x} {f = f} {start = o} {test = t} {next = n} word left start test first next right body) = marked m.For word refl refl
      (omega (
        arith,
        takes_one word,
        takes_one left,
        for_start_shorter is_expr expr_shape b o c start,
        maybe_shorter is_expr expr_shape c t d test,
        takes_one first,
        maybe_shorter is_expr expr_shape x n f next,
        takes_one right,
        (deeper_shape _ _ _ body).shorter,
      ))
  stmt_shape ts stmt rest (st.breaks word end) = marked m.Break word refl refl (omega (arith, takes_one word, takes_one end))
  stmt_shape ts stmt rest (st.continues word end) = marked m.Continue word refl refl (omega (arith, takes_one word, takes_one end))
  stmt_shape ts stmt rest (st.returns {a = a} {b = b} {value = v} word value end) = marked m.Return word refl refl
      (omega (arith, takes_one word, maybe_shorter is_expr expr_shape a v b value, takes_one end))

-- ---- they are read

module _ (is_expr : Tokens → Expr → Tokens → Type 0) (expr_shape : (ts : Tokens) (part : Expr) (rest : Tokens) → is_expr ts part rest → Shape ts rest)
    (expr : Tokens → Out Expr) (expr_complete : Complete 13 is_expr expr) where
  test_complete : Always (IsTest is_expr) (test_of expr)
  unfolding test_of
  test_complete ts whole rest (st.tested left inner right) = bind_is _ (takes_is left)
      (bind_is _ (expr_complete _ _ _ inner (closes m.RightParen right (omega arith))) (bind_is _ (takes_is right) refl))

  maybe_complete : (mark : Mark) → opens_mark mark ≡ false → 13 < strength mark → (ts : Tokens) (o : Option Expr) (a rest : Tokens) (q : Spot) → IsMaybe is_expr ts o a → Takes mark a q rest
      → maybe_of mark expr ts ≡ Some (o, rest)
  unfolding maybe_of
  maybe_complete mark shut strong ts o a rest q st.none end = given_is _ _ (takes_is end) refl
  maybe_complete mark shut strong ts o a rest q (st.some {whole = x} whole) end = given_not _ _ (no_opening mark shut ts (expr_shape ts x a whole).opens)
      (bind_is _ (expr_complete ts x a whole (closes mark end strong)) (bind_is _ (takes_is end) refl))

  for_start_complete : Always (IsForStart is_expr) (for_start_of expr)
  unfolding for_start_of
  for_start_complete ts o rest (st.IsForStart.declared {stmt = x} h) = given_is _ _ (decl_shape is_expr expr_shape ts x rest h).declared
      (bind_is _ (decl_complete is_expr expr_shape expr expr_complete ts x rest h) refl)
  for_start_complete ts o rest (st.IsForStart.evaluated {a = a} {p = p} {whole = x} whole end) = given_not _ _ (undeclared ts (expr_shape ts x a whole).opens)
      (bind_is _ (maybe_complete m.Semicolon refl (omega arith) ts (Some x) a rest p (st.some whole) end) refl)
  for_start_complete ts o rest (st.absent {p = p} end) = given_not _ _ (takes_not declares refl end)
      (bind_is _ (maybe_complete m.Semicolon refl (omega arith) ts None ts rest p st.none end) refl)

module _ (is_decl : Tokens → Stmt → Tokens → Type 0) (decl_shaped : (ts : Tokens) (part : Stmt) (rest : Tokens) → is_decl ts part rest → DeclShape ts rest)
    (is_deeper : Tokens → Stmt → Tokens → Type 0) (deeper_shape : (ts : Tokens) (part : Stmt) (rest : Tokens) → is_deeper ts part rest → StmtShape ts rest)
    (decl : Tokens → Out Stmt) (decl_is : Always is_decl decl) (deeper : Tokens → Out Stmt) (deeper_complete : Always is_deeper deeper) where
  block_item_complete : Always (IsBlockItem is_decl is_deeper) (block_item_of decl deeper)
  unfolding block_item_of
  block_item_complete ts x rest (st.IsBlockItem.declared h) = given_is _ _ (decl_shaped ts x rest h).declared (decl_is ts x rest h)
  block_item_complete ts x rest (st.executed h) = given_not _ _ (deeper_shape ts x rest h).not_declared (deeper_complete ts x rest h)

  block_items_complete : (n : ℕ) (old : List Stmt) (ts : Tokens) (all : List Stmt) (a rest : Tokens) (q : Spot) → IsBlockItems is_decl is_deeper ts all a → Takes m.RightBrace a q rest
      → length ts ≤ n → block_items decl deeper n old ts ≡ Some ((old ++ all, q), rest)
  unfolding block_items
  block_items_complete zero old ts all a rest q inner right room = absurd (omega (arith, block_items_shorter is_decl decl_shaped is_deeper deeper_shape ts all a inner, takes_one right))
  block_items_complete (suc n) old ts all a rest q st.IsBlockItems.done right room = given_is _ _ (takes_is right) (ap (λ l. Some ((l, q), rest)) (sym (append-nil old)))
  block_items_complete (suc n) old ts all a rest q (st.IsBlockItems.more {a = b} {first = x} {others = others} first tail) right room =
      given_not _ _ (block_item_inside is_decl decl_shaped is_deeper deeper_shape ts x b first)
      (bind_is _ (block_item_complete ts x b first)
      (block_items_complete n (old ++ x ∷ []) b others a rest q tail right (omega (arith, block_item_shorter is_decl decl_shaped is_deeper deeper_shape ts x b first))
      ∙ ap (λ l. Some ((l, q), rest)) (append_assoc old (x ∷ []) others)))

  pub block_complete : (ts : Tokens) (items : List Stmt) (a rest : Tokens) (p q : Spot) → IsBlockItems is_decl is_deeper ts items a → Takes m.RightBrace a q rest
      → block_after decl deeper p ts ≡ Some (made_block p items q, rest)
  unfolding block_after
  block_complete ts items a rest p q inner right = bind_is _ (block_items_complete (length ts) [] ts items a rest q inner right (omega arith)) refl

module _ (is_expr : Tokens → Expr → Tokens → Type 0) (expr_shape : (ts : Tokens) (part : Expr) (rest : Tokens) → is_expr ts part rest → Shape ts rest)
    (is_decl : Tokens → Stmt → Tokens → Type 0) (decl_shaped : (ts : Tokens) (part : Stmt) (rest : Tokens) → is_decl ts part rest → DeclShape ts rest)
    (is_deeper : Tokens → Stmt → Tokens → Type 0) (deeper_shape : (ts : Tokens) (part : Stmt) (rest : Tokens) → is_deeper ts part rest → StmtShape ts rest)
    (expr : Tokens → Out Expr) (expr_complete : Complete 13 is_expr expr) (decl : Tokens → Out Stmt) (decl_is : Always is_decl decl)
    (deeper : Tokens → Out Stmt) (deeper_complete : Always is_deeper deeper) where
  arm_complete : Always (IsArm is_expr is_decl is_deeper) (arm_of expr decl deeper)
  unfolding arm_of
  arm_complete ts whole rest (st.armed {a = a} {test = t} {body = b} test body) = bind_is _ (test_complete is_expr expr_shape expr expr_complete ts t a test) (bind_is _ (deeper_complete a b rest body) refl)

  arms_complete : (n : ℕ) (old : List Arm) (ts : Tokens) (all : List Arm) (a : Tokens) (o : Option Stmt) (rest : Tokens) → MoreArms is_expr is_decl is_deeper ts all a
      → IsElse is_expr is_decl is_deeper a o rest → length ts < n → arms expr decl deeper n old ts ≡ Some ((old ++ all, o), rest)
  unfolding arms
  arms_complete zero old ts all a o rest more_arms otherwise room = absurd (omega arith)
  arms_complete (suc n) old ts all a o rest st.MoreArms.done (st.without free) room = given_not _ _ (free_none m.Else ts free) (ap (λ l. Some ((l, None), rest)) (sym (append-nil old)))
  arms_complete (suc n) old ts all a o rest st.MoreArms.done (st.with_one {a = b} {stmt = x} otherwise free stmt) room = given_is _ _ (takes_is otherwise)
      (given_not _ _ (free_none m.If b free) (bind_is _ (deeper_complete b x rest stmt) (ap (λ l. Some ((l, Some x), rest)) (sym (append-nil old)))))
  arms_complete (suc n) old ts all a o rest (st.MoreArms.more {b = b} {c = c} {arm = x} {arms = others} otherwise chosen arm tail) end room = given_is _ _ (takes_is otherwise)
      (given_is _ _ (takes_is chosen) (bind_is _ (arm_complete b x c arm)
      (arms_complete n (old ++ x ∷ []) c others a o rest tail end (omega (arith, takes_one otherwise, takes_one chosen, arm_shorter is_expr expr_shape is_decl decl_shaped is_deeper deeper_shape b x c arm))
      ∙ ap (λ l. Some ((l, o), rest)) (append_assoc old (x ∷ []) others))))

  -- what begins with another word goes on to the loops, and then to the jumps
  to_loop : (mark : Mark) {ts a : Tokens} {p : Spot} (y : Out Stmt) → Takes mark ts p a → exactly m.LeftBrace mark ≡ None → exactly m.Semicolon mark ≡ None → exactly m.If mark ≡ None
      → loop_of expr decl deeper ts ≡ y → stmt_of expr decl deeper ts ≡ y
  unfolding stmt_of
  to_loop mark y word brace semicolon chosen goes = past m.LeftBrace _ _ word brace (past m.Semicolon _ _ word semicolon (past m.If _ _ word chosen goes))

  to_jump : (mark : Mark) {ts a : Tokens} {p : Spot} (y : Out Stmt) → Takes mark ts p a → exactly m.LeftBrace mark ≡ None → exactly m.Semicolon mark ≡ None → exactly m.If mark ≡ None
      → exactly m.While mark ≡ None → exactly m.Do mark ≡ None → exactly m.For mark ≡ None → jump_of expr decl deeper ts ≡ y → stmt_of expr decl deeper ts ≡ y
  unfolding loop_of
  to_jump mark y word brace semicolon chosen while_not do_not for_not goes = to_loop mark y word brace semicolon chosen
      (past m.While _ _ word while_not (past m.Do _ _ word do_not (past m.For _ _ word for_not goes)))

  stmt_complete : Always (IsStmt is_expr is_decl is_deeper) (stmt_of expr decl deeper)
  unfolding stmt_of loop_of jump_of if_after while_after do_after for_after return_after evaluated
  stmt_complete ts stmt rest (st.nested (st.block {a = a} {b = b} {p = p} {q = q} {items = all} left inner right)) = given_is _ _ (takes_is left)
      (bind_is _ (block_complete is_decl decl_shaped is_deeper deeper_shape decl decl_is deeper deeper_complete a all b rest p q inner right) refl)
  stmt_complete ts stmt rest (st.empty end) = past m.LeftBrace _ _ end refl (given_is _ _ (takes_is end) refl)
  stmt_complete ts stmt rest (st.IsStmt.evaluated {a = a} {whole = x} whole end) =
      let opening = (expr_shape ts x a whole).opens in
      given_not _ _ (no_opening m.LeftBrace refl ts opening) (given_not _ _ (no_opening m.Semicolon refl ts opening) (given_not _ _ (no_opening m.If refl ts opening)
      (given_not _ _ (no_opening m.While refl ts opening) (given_not _ _ (no_opening m.Do refl ts opening) (given_not _ _ (no_opening m.For refl ts opening)
      (given_not _ _ (no_opening m.Break refl ts opening) (given_not _ _ (no_opening m.Continue refl ts opening) (given_not _ _ (no_opening m.Return refl ts opening)
      (bind_is _ (expr_complete ts x a whole (closes m.Semicolon end (omega arith))) (bind_is _ (takes_is end) refl))))))))))
  stmt_complete ts stmt rest (st.chosen {a = a} {b = b} {c = c} {arm = one} {arms = all} {otherwise = o} word arm others otherwise) =
      past m.LeftBrace _ _ word refl (past m.Semicolon _ _ word refl (given_is _ _ (takes_is word)
      (bind_is _ (arm_complete a one b arm) (bind_is _ (arms_complete (length b + 1) (one ∷ []) b all c o rest others otherwise (omega arith)) refl))))
  stmt_complete ts stmt rest (st.while_loop {a = a} {b = b} {test = t} {body = x} word test body) = to_loop m.While _ word refl refl refl
      (given_is _ _ (takes_is word) (bind_is _ (test_complete is_expr expr_shape expr expr_complete a t b test) (bind_is _ (deeper_complete b x rest body) refl)))
  stmt_complete ts stmt rest (st.do_loop {a = a} {b = b} {c = c} {d = d} {test = t} {body = x} word body again test end) = to_loop m.Do _ word refl refl refl
      (past m.While _ _ word refl (given_is _ _ (takes_is word) (bind_is _ (deeper_complete a x b body) (bind_is _ (takes_is again)
      (bind_is _ (test_complete is_expr expr_shape expr expr_complete c t d test) (bind_is _ (takes_is end) refl))))))
  stmt_complete ts stmt rest (st.for_loop {b = b} {c = c} {d = d} {e = f} {f = h} {g = k} {r = r} {t = z} {start = o} {test = t} {next = n} {body = x} word left start test first next right body) =
      to_loop m.For _ word refl refl refl
      (past m.While _ _ word refl (past m.Do _ _ word refl (given_is _ _ (takes_is word) (bind_is _ (takes_is left)
      (bind_is _ (for_start_complete is_expr expr_shape expr expr_complete b o c start)
      (bind_is _ (maybe_complete is_expr expr_shape expr expr_complete m.Semicolon refl (omega arith) c t d f r test first)
      (bind_is _ (maybe_complete is_expr expr_shape expr expr_complete m.RightParen refl (omega arith) f n h k z next right)
      (bind_is _ (deeper_complete k x rest body) refl))))))))
  stmt_complete ts stmt rest (st.breaks word end) = to_jump m.Break _ word refl refl refl refl refl refl (given_is _ _ (takes_is word) (bind_is _ (takes_is end) refl))
  stmt_complete ts stmt rest (st.continues word end) = to_jump m.Continue _ word refl refl refl refl refl refl
      (past m.Break _ _ word refl (given_is _ _ (takes_is word) (bind_is _ (takes_is end) refl)))
  stmt_complete ts stmt rest (st.returns {a = a} {b = b} {q = q} {value = v} word value end) = to_jump m.Return _ word refl refl refl refl refl refl
      (past m.Break _ _ word refl (past m.Continue _ _ word refl (given_is _ _ (takes_is word)
      (bind_is _ (maybe_complete is_expr expr_shape expr expr_complete m.Semicolon refl (omega arith) a v b rest q value end) refl))))

pub decl_at_shape : (room : ℕ) (ts : Tokens) (x : Stmt) (rest : Tokens) → decl_at room ts x rest → DeclShape ts rest
decl_at_shape zero ts x rest h = elim h [ ]
decl_at_shape (suc room) ts x rest h = decl_shape (IsAssign (parts room)) (assign_shape (parts room) (all_shaped room)) ts x rest h

pub decl_at_complete : (room : ℕ) → Always (decl_at room) (decl_reader room)
decl_at_complete zero ts x rest h = elim h [ ]
decl_at_complete (suc room) ts x rest h = decl_complete (IsAssign (parts room)) (assign_shape (parts room) (all_shaped room))
    (assign_of (readers room)) (assign_complete (parts room) (readers room) (all_complete room) (all_shaped room)) ts x rest h

pub stmt_at_shape : (room : ℕ) (ts : Tokens) (stmt : Stmt) (rest : Tokens) → stmt_at room ts stmt rest → StmtShape ts rest
stmt_at_shape zero ts stmt rest h = elim h [ ]
stmt_at_shape (suc room) ts stmt rest h = stmt_shape (IsAssign (parts room)) (assign_shape (parts room) (all_shaped room)) (decl_at room) (decl_at_shape room)
    (stmt_at room) (stmt_at_shape room) ts stmt rest h

pub stmt_at_complete : (room : ℕ) → Always (stmt_at room) (stmt_reader room)
stmt_at_complete zero ts stmt rest h = elim h [ ]
stmt_at_complete (suc room) ts stmt rest h = stmt_complete (IsAssign (parts room)) (assign_shape (parts room) (all_shaped room)) (decl_at room) (decl_at_shape room)
    (stmt_at room) (stmt_at_shape room)
    (assign_of (readers room)) (assign_complete (parts room) (readers room) (all_complete room) (all_shaped room)) (decl_reader room) (decl_at_complete room)
    (stmt_reader room) (stmt_at_complete room) ts stmt rest h
