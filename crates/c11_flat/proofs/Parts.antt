-- Code and meaning of the parts of expressions, side by side.
use Rattle.std.proofs.Common.{◌≡◌, ℕ, List, [], ◌∷◌, Option, Some, None, refl, ap}
use Rattle.c11_num.specs.declared.value.CType.{CType}
use Rattle.c11_ast.specs.declared.place.Word.{Word}
use Rattle.c11_ast.specs.declared.expr.Infix.{Infix}
use Rattle.c11_check.specs.Scopes.{Scope}
use Rattle.c11_meaning.specs.Parts.{Object, Part, Given, Address, Text, Value, Linked, entity_given, given_object, given_entity, order_named, order_in, second_order_in}
use Rattle.c11_meaning.specs.Expressions.{Calls, Valuing}
use Rattle.c11_flat.specs.declared.slot.Slot.{Slot}
use Rattle.c11_flat.specs.declared.slot.Slot.TheVariants as slot
use Rattle.c11_flat.specs.Pieces.{Coding}
use Rattle.c11_flat.specs.Code.{Whole}
use Rattle.c11_flat.specs.Flat.{Caller}
use Rattle.c11_flat.proofs.Follows.{IsSized, Runs}

abbrev pub Any : {A : Type 0} → A → Type 0
Any a = Unit {0}

module _ (code : Whole) (callers : List Caller) (answers : Option CType) (calls : Calls) where
  -- the code leaves the value on the stack
  pub record ValueDoes (c : Coding) (v : Valuing) : Type 0 where
    pub sized : (scope : Scope) → IsSized (c scope)
    pub does : (scope : Scope) (stack : List Slot) → Runs code callers answers Any (c scope) stack (λ value. slot.Value value ∷ stack) (v scope calls)

  pub data ObjectDoes : Object Coding → Object Valuing → Type 0 where
    named : (word : Word) → ObjectDoes (record { word = word; index = None }) (record { word = word; index = None })
    indexed : (word : Word) {c : Coding} {v : Valuing} → ValueDoes c v → ObjectDoes (record { word = word; index = Some c }) (record { word = word; index = Some v })

  pub data MayNameDoes : Option (Object Coding) → Option (Object Valuing) → Type 0 where
    none : MayNameDoes None None
    some : {o : Object Coding} {w : Object Valuing} → ObjectDoes o w → MayNameDoes (Some o) (Some w)

  pub record PartDoes (p : Part Coding) (q : Part Valuing) : Type 0 where
    pub typed : (scope : Scope) → p.typed scope ≡ q.typed scope
    pub object : MayNameDoes p.object q.object
    pub value : ValueDoes p.value q.value

  pub data GivenDoes : Given Coding → Given Valuing → Type 0 where
    address : {o : Object Coding} {w : Object Valuing} → ObjectDoes o w → GivenDoes (Address o) (Address w)
    text : (bytes : List ℕ) → GivenDoes (Text bytes) (Text bytes)
    value : {p : Part Coding} {q : Part Valuing} → PartDoes p q → GivenDoes (Value p) (Value q)

  pub data LinkDoes : Linked Coding → Linked Valuing → Type 0 where
    linked : (op : Infix) (line : ℕ) {p : Part Coding} {q : Part Valuing} → PartDoes p q
        → LinkDoes (record { op = op; line = line; right = p }) (record { op = op; line = line; right = q })

  pub data AllGiven : List (Given Coding) → List (Given Valuing) → Type 0 where
    nil : AllGiven [] []
    cons : {g : Given Coding} {h : Given Valuing} {gs : List (Given Coding)} {hs : List (Given Valuing)} → GivenDoes g h → AllGiven gs hs → AllGiven (g ∷ gs) (h ∷ hs)

  pub data AllLinks : List (Linked Coding) → List (Linked Valuing) → Type 0 where
    nil : AllLinks [] []
    cons : {g : Linked Coding} {h : Linked Valuing} {gs : List (Linked Coding)} {hs : List (Linked Valuing)} → LinkDoes g h → AllLinks gs hs → AllLinks (g ∷ gs) (h ∷ hs)

  -- what they name is the same
  may_entity : (o : Option (Object Coding)) (w : Option (Object Valuing)) (scope : Scope) → MayNameDoes o w → entity_given o scope ≡ entity_given w scope
  may_entity _ _ scope none = refl
  may_entity _ _ scope (some (named word)) = refl
  may_entity _ _ scope (some (indexed word d)) = refl

  pub same_entity : (g : Given Coding) (h : Given Valuing) (scope : Scope) → GivenDoes g h → given_entity g scope ≡ given_entity h scope
  same_entity _ _ scope (address d) = refl
  same_entity _ _ scope (text bytes) = refl
  same_entity _ _ scope (value {p = p} {q = q} d) = may_entity p.object q.object scope d.object

  pub same_order : (gs : List (Given Coding)) (hs : List (Given Valuing)) (scope : Scope) → AllGiven gs hs → order_in gs scope ≡ order_in hs scope
  same_order _ _ scope nil = refl
  same_order _ _ scope (cons {g = g} {h = h} d ds) = ap order_named (same_entity g h scope d)

  pub same_second : (gs : List (Given Coding)) (hs : List (Given Valuing)) (scope : Scope) → AllGiven gs hs → second_order_in gs scope ≡ second_order_in hs scope
  same_second _ _ scope nil = refl
  same_second _ _ scope (cons {gs = gs} {hs = hs} d ds) = same_order gs hs scope ds

  pub given_named : (g : Given Coding) (h : Given Valuing) → GivenDoes g h → MayNameDoes (given_object g) (given_object h)
  given_named _ _ (address d) = none
  given_named _ _ (text bytes) = none
  given_named _ _ (value d) = d.object
