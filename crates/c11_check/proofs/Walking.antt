-- Walks along lists.
use Rattle.std.proofs.Common.{◌≡◌, ℕ, zero, suc, ◌+◌, ◌<◌, List, [], ◌∷◌, map, drop, length, get_or, Option, sym, ap, ◌∙◌, arith, add-one, subst}
use Rattle.c11_num.specs.declared.value.CType.{CType}
use Rattle.c11_ast.specs.declared.place.Place.{Place}
use Rattle.c11_ast.specs.declared.stmt.Local.{Local}
use Rattle.c11_check.specs.declared.fault.Fault.{Fault}
use Rattle.c11_check.specs.declared.around.Around.{Around}
use Rattle.std.specs.Prelude.{Result, Ok, Err}
use Rattle.c11_num.specs.declared.memory.NoMemory.{NoMemory}
use Rattle.c11_check.specs.Walks.{Walks}
use Rattle.c11_check.specs.Scopes.{Scope, left_for}
use Rattle.c11_check.specs.Statements.{Walked, Walk, before, followed, inside, local_walk, locals_walk, handle_walk, handles_walk, in_order}
use Rattle.c11_ast.specs.declared.place.Constant.{Constant}
use Rattle.c11_ast.specs.declared.item.GlobalKind.{GlobalKind}
use Rattle.c11_ast.specs.declared.item.Var.{Var}
use Rattle.c11_ast.specs.declared.item.Param.{Param}
use Rattle.c11_ast.specs.declared.item.Item.{Item}
use Rattle.c11_check.specs.Faults.{misconstant}
use Rattle.c11_check.specs.Programs.{keep, var_walk, vars_walk, param_walk, params_walk, item_walk, items_walk, starts_faults}
use Rattle.c11_check.proofs.Keeps.{keep_append}

-- With this fault kept, the rest leads to what the whole leads to.
pub record Leads (first : Option Fault) (rest : Walked) (initial : Option Fault) (whole : Walked) : Type 0 where
  pub faults : keep first rest.faults ≡ keep initial whole.faults
  pub scope : rest.scope ≡ whole.scope

-- one more part is walked
pub part_walked : (k : Option Fault) {l : Option Fault} {after : Scope} (w : Walked) (next : Scope → Walked) (initial : Option Fault) (whole : Walked)
    → (l ≡ keep k w.faults) × (after ≡ w.scope) → Leads k (followed w next) initial whole → Leads l (next after) initial whole
part_walked k {l} {after} w next initial whole is leads = record {
  faults = ap (λ (s : Scope). keep l (next s).faults) is.1 ∙ (ap (λ (o : Option Fault). keep o (next w.scope).faults) is.0 ∙ (sym (keep_append k w.faults (next w.scope).faults) ∙ leads.faults));
  scope = ap (λ (s : Scope). (next s).scope) is.1 ∙ leads.scope;
}

at_suc : {A : Type 0} (xs : List A) (i : ℕ) (x : A) → i < length xs → x ≡ get_or xs i x → drop i xs ≡ x ∷ drop (suc i) xs
at_suc [] i x less is = absurd (omega (arith, less))
at_suc (y ∷ xs) zero x less is = ap (λ z. z ∷ xs) (sym is)
at_suc (y ∷ xs) (suc i) x less is = at_suc xs i x (omega (arith, less)) is

pub first_of : {A : Type 0} (xs : List A) (i : ℕ) (x : A) → i < length xs → x ≡ get_or xs i x → drop i xs ≡ x ∷ drop (i + 1) xs
first_of xs i x less is = at_suc xs i x less is ∙ ap (λ (n : ℕ). x ∷ drop n xs) (sym (add-one i))

pub local_walked : (k : Option Fault) {l : Option Fault} {after : Scope} (ctype : CType) (xs : List Local) (i : ℕ) (x : Local) (s : Scope) (initial : Option Fault) (whole : Walked)
    → i < length xs → x ≡ get_or xs i x → (l ≡ keep k (local_walk ctype x s).faults) × (after ≡ (local_walk ctype x s).scope)
    → Leads k (locals_walk ctype (drop i xs) s) initial whole → Leads l (locals_walk ctype (drop (i + 1) xs) after) initial whole
local_walked k ctype xs i x s initial whole less at is leads = part_walked k (local_walk ctype x s) (locals_walk ctype (drop (i + 1) xs)) initial whole is
    (subst (λ (ys : List Local). Leads k (locals_walk ctype ys s) initial whole) (first_of xs i x less at) leads)

pub handle_walked : (k : Option Fault) {l : Option Fault} {after : Scope} (xs : List Place) (i : ℕ) (x : Place) (s : Scope) (initial : Option Fault) (whole : Walked)
    → i < length xs → x ≡ get_or xs i x → (l ≡ keep k (handle_walk x s).faults) × (after ≡ (handle_walk x s).scope)
    → Leads k (handles_walk (drop i xs) s) initial whole → Leads l (handles_walk (drop (i + 1) xs) after) initial whole
handle_walked k xs i x s initial whole less at is leads = part_walked k (handle_walk x s) (handles_walk (drop (i + 1) xs)) initial whole is
    (subst (λ (ys : List Place). Leads k (handles_walk ys s) initial whole) (first_of xs i x less at) leads)

-- in order, whatever the parts are seen as
pub in_order_walked : {A : Type 0} (f : A → Walk) (k : Option Fault) {l : Option Fault} {after : Scope} (xs : List A) (i : ℕ) (x : A) (around : Around) (s : Scope) (initial : Option Fault) (whole : Walked)
    → i < length xs → x ≡ get_or xs i x → (l ≡ keep k (f x around s).faults) × (after ≡ (f x around s).scope)
    → Leads k (in_order (map f (drop i xs)) around s) initial whole → Leads l (in_order (map f (drop (i + 1) xs)) around after) initial whole
in_order_walked {A} f k xs i x around s initial whole less at is leads = part_walked k (f x around s) (in_order (map f (drop (i + 1) xs)) around) initial whole is
    (subst (λ (ys : List A). Leads k (in_order (map f ys) around s) initial whole) (first_of xs i x less at) leads)

pub var_walked : (k : Option Fault) {l : Option Fault} {after : Scope} (kind : GlobalKind) (xs : List Var) (i : ℕ) (x : Var) (s : Scope) (initial : Option Fault) (whole : Walked)
    → i < length xs → x ≡ get_or xs i x → (l ≡ keep k (var_walk kind x s).faults) × (after ≡ (var_walk kind x s).scope)
    → Leads k (vars_walk kind (drop i xs) s) initial whole → Leads l (vars_walk kind (drop (i + 1) xs) after) initial whole
var_walked k kind xs i x s initial whole less at is leads = part_walked k (var_walk kind x s) (vars_walk kind (drop (i + 1) xs)) initial whole is
    (subst (λ (ys : List Var). Leads k (vars_walk kind ys s) initial whole) (first_of xs i x less at) leads)

pub param_walked : (k : Option Fault) {l : Option Fault} {after : Scope} (xs : List Param) (i : ℕ) (x : Param) (s : Scope) (initial : Option Fault) (whole : Walked)
    → i < length xs → x ≡ get_or xs i x → (l ≡ keep k (param_walk x s).faults) × (after ≡ (param_walk x s).scope)
    → Leads k (params_walk (drop i xs) s) initial whole → Leads l (params_walk (drop (i + 1) xs) after) initial whole
param_walked k xs i x s initial whole less at is leads = part_walked k (param_walk x s) (params_walk (drop (i + 1) xs)) initial whole is
    (subst (λ (ys : List Param). Leads k (params_walk ys s) initial whole) (first_of xs i x less at) leads)

pub item_walked : (k : Option Fault) {l : Option Fault} {after : Scope} (xs : List Item) (i : ℕ) (x : Item) (s : Scope) (initial : Option Fault) (whole : Walked)
    → i < length xs → x ≡ get_or xs i x → (l ≡ keep k (item_walk x s).faults) × (after ≡ (item_walk x s).scope)
    → Leads k (items_walk (drop i xs) s) initial whole → Leads l (items_walk (drop (i + 1) xs) after) initial whole
item_walked k xs i x s initial whole less at is leads = part_walked k (item_walk x s) (items_walk (drop (i + 1) xs)) initial whole is
    (subst (λ (ys : List Item). Leads k (items_walk ys s) initial whole) (first_of xs i x less at) leads)

pub constant_walked : (k : Option Fault) {l : Option Fault} (xs : List Constant) (i : ℕ) (x : Constant) (s : Scope) → i < length xs → x ≡ get_or xs i x → l ≡ keep k (misconstant s x.value)
    → keep l (starts_faults s (drop (i + 1) xs)) ≡ keep k (starts_faults s (drop i xs))
constant_walked k {l} xs i x s less at is = ap (λ (o : Option Fault). keep o (starts_faults s (drop (i + 1) xs))) is
    ∙ (sym (keep_append k (misconstant s x.value) (starts_faults s (drop (i + 1) xs))) ∙ sym (ap (λ (ys : List Constant). keep k (starts_faults s ys)) (first_of xs i x less at)))

-- ---- results

pub walks_same : {w v : Walked} (first : Option Fault) (result : Result (Option Fault) NoMemory) (after : Scope) → w ≡ v → Walks v first result after → Walks w first result after
walks_same {w} {v} first result after is = subst (λ (x : Walked). Walks x first result after) (sym is)

pub walks_before : (xs : List Fault) (w : Walked) (first : Option Fault) {l : Option Fault} (result : Result (Option Fault) NoMemory) (after : Scope) → l ≡ keep first xs → Walks w l result after
    → Walks (before xs w) first result after
walks_before xs w first (Ok found) after is walks = (walks.0 ∙ (ap (λ (o : Option Fault). keep o w.faults) is ∙ sym (keep_append first xs w.faults)), walks.1)
walks_before xs w first (Err none) after is walks = tt

pub walks_followed : (w : Walked) (next : Scope → Walked) (first : Option Fault) {l : Option Fault} {mid : Scope} (result : Result (Option Fault) NoMemory) (after : Scope)
    → (l ≡ keep first w.faults) × (mid ≡ w.scope) → Walks (next mid) l result after → Walks (followed w next) first result after
walks_followed w next first {l} {mid} result after is walks = walks_before w.faults (next w.scope) first result after is.0 (subst (λ (s : Scope). Walks (next s) l result after) is.1 walks)

-- a scope ends
pub walks_inside : (outer : Scope) (w : Walked) (first found : Option Fault) (inner : Scope) {after : Scope} → (found ≡ keep first w.faults) × (inner ≡ w.scope) → after ≡ left_for outer inner
    → (found ≡ keep first (inside outer w).faults) × (after ≡ (inside outer w).scope)
walks_inside outer w first found inner is left = (is.0, left ∙ ap (left_for outer) is.1)

-- ---- the same where there is a result

abbrev pub IsWalked : Walked → Option Fault → Option Fault → Scope → Type 0
IsWalked w first found after = (found ≡ keep first w.faults) × (after ≡ w.scope)

pub walked_same : {w v : Walked} (first found : Option Fault) (after : Scope) → w ≡ v → IsWalked v first found after → IsWalked w first found after
walked_same {w} {v} first found after is = subst (λ (x : Walked). IsWalked x first found after) (sym is)

pub walked_before : (xs : List Fault) (w : Walked) (first : Option Fault) {l found : Option Fault} {after : Scope} → l ≡ keep first xs → IsWalked w l found after → IsWalked (before xs w) first found after
walked_before xs w first is walks = (walks.0 ∙ (ap (λ (o : Option Fault). keep o w.faults) is ∙ sym (keep_append first xs w.faults)), walks.1)

pub walked_followed : (w : Walked) (next : Scope → Walked) (first : Option Fault) {l found : Option Fault} {mid after : Scope} → IsWalked w first l mid → IsWalked (next mid) l found after
    → IsWalked (followed w next) first found after
walked_followed w next first {l} {found} {mid} {after} is walks = walked_before w.faults (next w.scope) first is.0 (subst (λ (s : Scope). IsWalked (next s) l found after) is.1 walks)
