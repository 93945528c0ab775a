-- What statements declare: places alone, behind the names that are there.
use Rattle.std.proofs.Common.{◌≡◌, ℕ, Bool, true, false, List, [], ◌∷◌, ◌++◌, map, length, take, Option, Some, None, refl, sym, ap, ◌∙◌, subst, append_assoc}
use Rattle.std.specs.Prelude.{if◌then◌else◌}
use Rattle.std.specs.Str.{bytes_eq}
use Rattle.std.proofs.lemmas.List.{append-nil}
use Rattle.std.proofs.lemmas.Option.{same_Some}
use Rattle.std.proofs.Math.Seq.{take-append_seam}
use Rattle.c11_num.specs.declared.value.CType.{CType}
use Rattle.c11_ast.specs.declared.place.Place.{Place}
use Rattle.c11_ast.specs.declared.item.Param.{Param}
use Rattle.c11_ast.specs.declared.stmt.Local.{Local}
use Rattle.c11_ast.specs.declared.stmt.Stmt.{Stmt, roll-Stmt}
use Rattle.c11_ast.specs.declared.stmt.Arm.{Arm, roll-Arm}
use Rattle.c11_ast.specs.declared.stmt.Block.{Block, roll-Block}
use Rattle.c11_ast.specs.declared.stmt.Stmt.TheOpen.{Stmt-F, Arm-F, Block-F}
use Rattle.c11_ast.specs.declared.stmt.Stmt.TheFolds.{map-Stmt, map-Arm, map-Block, ind-Stmt, ind-Block, fold-roll-Stmt, fold-roll-Arm, fold-roll-Block}
use Rattle.c11_check.specs.declared.around.Around.{Around}
use Rattle.c11_check.specs.declared.entity.Entity.{Entity}
use Rattle.c11_check.specs.declared.entity.Entity.TheVariants as e
use Rattle.c11_check.specs.declared.entity.Counts.{Counts}
use Rattle.c11_check.specs.declared.entity.Signature.{Signature}
use Rattle.c11_check.specs.Library.{or_else, library_entity}
use Rattle.c11_check.specs.Scopes.{Named, Scope, last_named, denoted, declared, entered, left_for, size_in, with_local, with_handle, param_type}
use Rattle.c11_check.specs.Statements.{Walk, walk_of, walk_of_block, walk_of_arm, stmt_walk, arm_walk, block_walk, in_order, optional_walk, looping, locals_walk, handles_walk}
use Rattle.c11_check.specs.Programs.{params_walk}
use Rattle.c11_check.specs.Tables.{Tables}
use Rattle.c11_check.specs.Lies.{LiesIn}

-- ---- one more name

or_none : (o : Option Entity) → or_else o None ≡ o
or_none None = refl
or_none (Some entity) = refl

or_assoc : (a b c : Option Entity) → or_else (or_else a b) c ≡ or_else a (or_else b c)
or_assoc None b c = refl
or_assoc (Some entity) b c = refl

last_snoc : (xs : List Named) (n : Named) (name : List ℕ) → last_named (xs ++ n ∷ []) name ≡ or_else (if bytes_eq name n.name then Some n.entity else None) (last_named xs name)
last_snoc [] n name = sym (or_none (if bytes_eq name n.name then Some n.entity else None))
last_snoc (x ∷ xs) n name = let this : Option Entity = if bytes_eq name x.name then Some x.entity else None in
    ap (λ (o : Option Entity). or_else o this) (last_snoc xs n name) ∙ or_assoc (if bytes_eq name n.name then Some n.entity else None) (last_named xs name) this

-- what holds of all that names denote
abbrev pub AllDenoted : (Entity → Type 0) → Scope → Type 0
AllDenoted P scope = (name : List ℕ) (entity : Entity) → denoted scope name ≡ Some entity → P entity

picked : (P : Entity → Type 0) (new entity : Entity) (here : Bool) (last library : Option Entity) → P new → (or_else last library ≡ Some entity → P entity)
    → or_else (or_else (if here then Some new else None) last) library ≡ Some entity → P entity
picked P new entity true last library holds rest is = subst P (same_Some new entity is) holds
picked P new entity false last library holds rest is = rest is

pub all_declared : (P : Entity → Type 0) (scope : Scope) (new : List ℕ) (entity : Entity) (counts : Counts) → P entity → AllDenoted P scope → AllDenoted P (declared scope new entity counts)
all_declared P scope new entity counts holds rest name other is = picked P entity other (bytes_eq name new) (last_named scope.names name) (library_entity name) holds (rest name other)
    (sym (ap (λ (o : Option Entity). or_else o (library_entity name)) (last_snoc scope.names (record { name = new; entity = entity }) name)) ∙ is)

pub all_named : (P : Entity → Type 0) (one another : Scope) → another.names ≡ one.names → AllDenoted P one → AllDenoted P another
all_named P one another same all name entity is = all name entity (sym (ap (λ (ns : List Named). or_else (last_named ns name) (library_entity name)) same) ∙ is)

module _ (t : Tables) (fs : List Signature) where
  -- what each name denotes lies in the tables
  abbrev pub Lies : Scope → Type 0
  Lies scope = AllDenoted (LiesIn t fs) scope

  pub lies_declared : (scope : Scope) (new : List ℕ) (entity : Entity) (counts : Counts) → LiesIn t fs entity → Lies scope → Lies (declared scope new entity counts)
  lies_declared = all_declared (LiesIn t fs)

  pub lies_named : (one another : Scope) → another.names ≡ one.names → Lies one → Lies another
  lies_named = all_named (LiesIn t fs)

  -- ---- a scope behind declarations of a function

  pub record Grew (s s' : Scope) : Type 0 where
    pub more : List Named
    pub names : s'.names ≡ s.names ++ more
    pub start : s'.start ≡ s.start
    pub counts : s'.counts ≡ record s.counts { places = s'.counts.places }
    pub kept : Lies s → Lies s'

  pub grew_none : (s : Scope) → Grew s s
  grew_none s = record { more = []; names = sym (append-nil s.names); start = refl; counts = refl; kept = λ lies. lies }

  pub grew_on : (a b c : Scope) → Grew a b → Grew b c → Grew a c
  grew_on a b c g h = record {
    more = g.more ++ h.more;
    names = h.names ∙ (ap (λ (ns : List Named). ns ++ h.more) g.names ∙ append_assoc a.names g.more h.more);
    start = h.start ∙ g.start;
    counts = h.counts ∙ ap (λ (n : Counts). record n { places = c.counts.places }) g.counts;
    kept = λ lies. h.kept (g.kept lies);
  }

  pub grew_local : (s : Scope) (name : List ℕ) (ctype : CType) (size : Option ℕ) → Grew s (with_local s name ctype size)
  grew_local s name ctype size = record {
    more = record { name = name; entity = e.Local ctype s.counts.places size } ∷ [];
    names = refl;
    start = refl;
    counts = refl;
    kept = λ lies. lies_declared s name (e.Local ctype s.counts.places size) (with_local s name ctype size).counts tt lies;
  }

  pub grew_handle : (s : Scope) (name : List ℕ) (size : Option ℕ) → Grew s (with_handle s name size)
  grew_handle s name size = record {
    more = record { name = name; entity = e.Handle s.counts.places size } ∷ [];
    names = refl;
    start = refl;
    counts = refl;
    kept = λ lies. lies_declared s name (e.Handle s.counts.places size) (with_handle s name size).counts tt lies;
  }

  pub grew_locals : (ctype : CType) (locals : List Local) (s : Scope) → Grew s (locals_walk ctype locals s).scope
  grew_locals ctype [] s = grew_none s
  grew_locals ctype (x ∷ xs) s = let inner = with_local s x.place.word.name ctype (size_in s x.place.size) in
      grew_on s inner (locals_walk ctype xs inner).scope (grew_local s x.place.word.name ctype (size_in s x.place.size)) (grew_locals ctype xs inner)

  pub grew_handles : (places : List Place) (s : Scope) → Grew s (handles_walk places s).scope
  grew_handles [] s = grew_none s
  grew_handles (x ∷ xs) s = let inner = with_handle s x.word.name (size_in s x.size) in
      grew_on s inner (handles_walk xs inner).scope (grew_handle s x.word.name (size_in s x.size)) (grew_handles xs inner)

  pub grew_params : (params : List Param) (s : Scope) → Grew s (params_walk params s).scope
  grew_params [] s = grew_none s
  grew_params (x ∷ xs) s = let inner = with_local s x.word.name (param_type x.ctype) None in
      grew_on s inner (params_walk xs inner).scope (grew_local s x.word.name (param_type x.ctype) None) (grew_params xs inner)

  -- the names that are left
  pub names_left : (s inner : Scope) (more : List Named) → inner.names ≡ s.names ++ more → take (length s.names) inner.names ≡ s.names
  names_left s inner more is = ap (take (length s.names)) is ∙ take-append_seam s.names more

  pub grew_inside : (s inner : Scope) → Grew (entered s) inner → Grew s (left_for s inner)
  grew_inside s inner g = record {
    more = [];
    names = names_left s inner g.more g.names ∙ sym (append-nil s.names);
    start = refl;
    counts = g.counts;
    kept = lies_named s (left_for s inner) (names_left s inner g.more g.names);
  }

  -- ---- statements

  -- nothing is around
  abbrev pub plainly : Around
  plainly = record { answers = None; in_loop = false }

  -- it declares places alone, the same whatever is around
  pub record Declares (w : Walk) : Type 0 where
    pub grew : (around : Around) (s : Scope) → Grew s (w around s).scope
    pub same : (around : Around) (s : Scope) → (w around s).scope ≡ (w plainly s).scope

  pub data AllDeclare : List Walk → Type 0 where
    nil : AllDeclare []
    cons : {w : Walk} {ws : List Walk} → Declares w → AllDeclare ws → AllDeclare (w ∷ ws)

  order_grew : (ws : List Walk) → AllDeclare ws → (around : Around) (s : Scope) → Grew s (in_order ws around s).scope
  order_grew _ AllDeclare.nil around s = grew_none s
  order_grew _ (AllDeclare.cons {w = w} {ws = ws} d ds) around s = let inner = (w around s).scope in grew_on s inner (in_order ws around inner).scope (d.grew around s) (order_grew ws ds around inner)

  order_same : (ws : List Walk) → AllDeclare ws → (around : Around) (s : Scope) → (in_order ws around s).scope ≡ (in_order ws plainly s).scope
  order_same _ AllDeclare.nil around s = refl
  order_same _ (AllDeclare.cons {w = w} {ws = ws} d ds) around s = order_same ws ds around (w around s).scope ∙ ap (λ (t : Scope). (in_order ws plainly t).scope) (d.same around s)

  order_declares : (ws : List Walk) → AllDeclare ws → Declares (in_order ws)
  order_declares ws ds = record { grew = order_grew ws ds; same = order_same ws ds }

  pub data MayDeclare : Option Walk → Type 0 where
    none : MayDeclare None
    some : {w : Walk} → Declares w → MayDeclare (Some w)

  may_declare : (o : Option Walk) → MayDeclare o → Declares (optional_walk o)
  may_declare _ none = record { grew = λ around s. grew_none s; same = λ around s. refl }
  may_declare _ (some d) = record { grew = d.grew; same = d.same }

  nothing_declares : (w : Walk) → ((around : Around) (s : Scope) → (w around s).scope ≡ s) → Declares w
  nothing_declares w is = record { grew = λ around s. subst (λ (t : Scope). Grew s t) (sym (is around s)) (grew_none s); same = λ around s. is around s ∙ sym (is plainly s) }

  -- ---- along the tree

  abbrev AStmt : Type 0
  AStmt = (x : Stmt) × Declares (walk_of x)

  abbrev AnArm : Type 0
  AnArm = (x : Arm) × Declares (walk_of_arm x)

  abbrev ABlock : Type 0
  ABlock = (x : Block) × Declares (walk_of_block x)

  all_stmts : (xs : List AStmt) → AllDeclare (map walk_of (map (λ u. u.0) xs))
  all_stmts [] = AllDeclare.nil
  all_stmts (x ∷ xs) = AllDeclare.cons x.1 (all_stmts xs)

  all_arms : (xs : List AnArm) → AllDeclare (map walk_of_arm (map (λ u. u.0) xs))
  all_arms [] = AllDeclare.nil
  all_arms (x ∷ xs) = AllDeclare.cons x.1 (all_arms xs)

  abbrev stmt_walked : Stmt-F Stmt Arm Block → Walk
  stmt_walked d = stmt_walk (map-Stmt Stmt Arm Block Walk Walk Walk walk_of walk_of_arm walk_of_block d)

  abbrev bare_stmt : Stmt-F AStmt AnArm ABlock → Stmt-F Stmt Arm Block
  bare_stmt y = map-Stmt AStmt AnArm ABlock Stmt Arm Block (λ u. u.0) (λ u. u.0) (λ u. u.0) y

  if_declares : (arms : List Walk) (o : Option Walk) → AllDeclare arms → MayDeclare o → Declares (λ around s. record { faults = []; scope = (optional_walk o around (in_order arms around s).scope).scope })
  if_declares arms o ds e = let first = order_declares arms ds in let last = may_declare o e in record {
    grew = λ around s. let inner = (in_order arms around s).scope in grew_on s inner (optional_walk o around inner).scope (first.grew around s) (last.grew around inner);
    same = λ around s. last.same around (in_order arms around s).scope ∙ ap (λ (t : Scope). (optional_walk o plainly t).scope) (first.same around s);
  }

  for_declares : (start : Option Walk) (body : Walk) → MayDeclare start → Declares body
      → Declares (λ around s. record { faults = []; scope = left_for s (body (looping around) (optional_walk start around (entered s)).scope).scope })
  for_declares start body e d = let first = may_declare start e in record {
    grew = λ around s. let inner = (optional_walk start around (entered s)).scope in
        grew_inside s (body (looping around) inner).scope (grew_on (entered s) inner (body (looping around) inner).scope (first.grew around (entered s)) (d.grew (looping around) inner));
    same = λ around s. ap (left_for s) (d.same (looping around) (optional_walk start around (entered s)).scope
        ∙ (sym (d.same (looping plainly) (optional_walk start around (entered s)).scope) ∙ ap (λ (t : Scope). (body (looping plainly) t).scope) (first.same around (entered s))));
  }

  stmt_layer : (y : Stmt-F AStmt AnArm ABlock) → Declares (stmt_walked (bare_stmt y))
  stmt_layer (Stmt-F.Block x) = record { grew = λ around s. grew_inside s (walk_of_block x.0 around (entered s)).scope (x.1.grew around (entered s)); same = λ around s. ap (left_for s) (x.1.same around (entered s)) }
  stmt_layer (Stmt-F.Empty spot) = nothing_declares _ (λ around s. refl)
  stmt_layer (Stmt-F.Expr x) = nothing_declares _ (λ around s. refl)
  stmt_layer (Stmt-F.If spot arms None) = let d = if_declares _ None (all_arms arms) none in record { grew = d.grew; same = d.same }
  stmt_layer (Stmt-F.If spot arms (Some x)) = let d = if_declares _ (Some (walk_of x.0)) (all_arms arms) (some x.1) in record { grew = d.grew; same = d.same }
  stmt_layer (Stmt-F.While spot test x) = record { grew = λ around s. x.1.grew (looping around) s; same = λ around s. x.1.same (looping around) s ∙ sym (x.1.same (looping plainly) s) }
  stmt_layer (Stmt-F.Do spot x test) = record { grew = λ around s. x.1.grew (looping around) s; same = λ around s. x.1.same (looping around) s ∙ sym (x.1.same (looping plainly) s) }
  stmt_layer (Stmt-F.For spot None test next x) = let d = for_declares None (walk_of x.0) none x.1 in record { grew = d.grew; same = d.same }
  stmt_layer (Stmt-F.For spot (Some a) test next x) = let d = for_declares (Some (walk_of a.0)) (walk_of x.0) (some a.1) x.1 in record { grew = d.grew; same = d.same }
  stmt_layer (Stmt-F.Break spot) = nothing_declares _ (λ around s. refl)
  stmt_layer (Stmt-F.Continue spot) = nothing_declares _ (λ around s. refl)
  stmt_layer (Stmt-F.Return spot value) = nothing_declares _ (λ around s. refl)
  stmt_layer (Stmt-F.Locals spot ctype locals) = record { grew = λ around s. grew_locals ctype locals s; same = λ around s. refl }
  stmt_layer (Stmt-F.Handles spot places) = record { grew = λ around s. grew_handles places s; same = λ around s. refl }

  rolled_stmt : (d : Stmt-F Stmt Arm Block) → Declares (stmt_walked d) → Declares (walk_of (roll-Stmt d))
  rolled_stmt d h = rw (fold-roll-Stmt Walk Walk Walk stmt_walk arm_walk block_walk d) h

  abbrev arm_walked : Arm-F Stmt Arm Block → Walk
  arm_walked d = arm_walk (map-Arm Stmt Arm Block Walk Walk Walk walk_of walk_of_arm walk_of_block d)

  rolled_arm : (d : Arm-F Stmt Arm Block) → Declares (arm_walked d) → Declares (walk_of_arm (roll-Arm d))
  rolled_arm d h = rw (fold-roll-Arm Walk Walk Walk stmt_walk arm_walk block_walk d) h

  arm_layer : (y : Arm-F AStmt AnArm ABlock) → Declares (arm_walked (map-Arm AStmt AnArm ABlock Stmt Arm Block (λ u. u.0) (λ u. u.0) (λ u. u.0) y))
  arm_layer y = record { grew = λ around s. y.body.1.grew around s; same = λ around s. y.body.1.same around s }

  abbrev block_walked : Block-F Stmt Arm Block → Walk
  block_walked d = block_walk (map-Block Stmt Arm Block Walk Walk Walk walk_of walk_of_arm walk_of_block d)

  rolled_block : (d : Block-F Stmt Arm Block) → Declares (block_walked d) → Declares (walk_of_block (roll-Block d))
  rolled_block d h = rw (fold-roll-Block Walk Walk Walk stmt_walk arm_walk block_walk d) h

  block_layer : (y : Block-F AStmt AnArm ABlock) → Declares (block_walked (map-Block AStmt AnArm ABlock Stmt Arm Block (λ u. u.0) (λ u. u.0) (λ u. u.0) y))
  block_layer y = order_declares _ (all_stmts y.items)

  pub stmt_declares : (x : Stmt) → Declares (walk_of x)
  stmt_declares = ind-Stmt (λ x. Declares (walk_of x)) (λ x. Declares (walk_of_arm x)) (λ x. Declares (walk_of_block x))
      (λ x y is. rolled_stmt x (subst (λ (z : Stmt-F Stmt Arm Block). Declares (stmt_walked z)) is (stmt_layer y)))
      (λ x y is. rolled_arm x (subst (λ (z : Arm-F Stmt Arm Block). Declares (arm_walked z)) is (arm_layer y)))
      (λ x y is. rolled_block x (subst (λ (z : Block-F Stmt Arm Block). Declares (block_walked z)) is (block_layer y)))

  pub block_declares : (x : Block) → Declares (walk_of_block x)
  block_declares = ind-Block (λ x. Declares (walk_of x)) (λ x. Declares (walk_of_arm x)) (λ x. Declares (walk_of_block x))
      (λ x y is. rolled_stmt x (subst (λ (z : Stmt-F Stmt Arm Block). Declares (stmt_walked z)) is (stmt_layer y)))
      (λ x y is. rolled_arm x (subst (λ (z : Arm-F Stmt Arm Block). Declares (arm_walked z)) is (arm_layer y)))
      (λ x y is. rolled_block x (subst (λ (z : Block-F Stmt Arm Block). Declares (block_walked z)) is (block_layer y)))
