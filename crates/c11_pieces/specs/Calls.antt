-- Calls of the library in three steps: whether the arguments have the form that the function takes, the code of its operands, and the
-- instructions behind them.
use Rattle.std.specs.Prelude.{ℕ, Bool, true, false, List, [], ◌∷◌, ◌++◌, length}
use Rattle.c11_num.specs.declared.value.CType.{CType}
use Rattle.c11_num.specs.declared.value.CType.TheVariants.{Int}
use Rattle.c11_num.specs.declared.kind.RmwKind.{RmwKind}
use Rattle.c11_ast.specs.declared.expr.CastTo.TheVariants as to
use Rattle.c11_check.specs.declared.library.Library.{Library}
use Rattle.c11_check.specs.declared.library.Library.TheVariants as l
use Rattle.c11_check.specs.Scopes.{Scope}
use Rattle.c11_meaning.specs.Objects.{nothing}
use Rattle.c11_meaning.specs.Parts.{Given, Address, Text, given_object, given_entity, order_in, second_order_in, function_named}
use Rattle.c11_flat.specs.declared.instr.Instr.{Instr}
use Rattle.c11_flat.specs.declared.instr.Instr.TheVariants as i
use Rattle.c11_flat.specs.declared.instr.Place.{Place}
use Rattle.c11_flat.specs.declared.instr.Place.TheVariants.{At}
use Rattle.c11_flat.specs.declared.instr.Acts.{Acts}
use Rattle.c11_flat.specs.declared.instr.Acts.TheVariants as acts
use Rattle.c11_flat.specs.Pieces.{Coding, plain, joined, dropped, place_in, type_in, answer_located, answer_place, handle_read, value_given, values_given}

abbrev pub Givens : Type 0
Givens = List (Given Coding)

-- the arguments have the form that the function takes
abbrev pub fits : Library → Givens → Bool
fits (l.Load explicit) (Address a ∷ orders) = true
fits (l.Store explicit) (Address a ∷ value ∷ orders) = true
fits (l.ReadWrite kind explicit) (Address a ∷ value ∷ orders) = true
fits (l.CompareExchange weak explicit) (Address a ∷ Address expected ∷ value ∷ orders) = true
fits l.Fence givens = true
fits l.MutexInit (Address m ∷ rest) = true
fits l.MutexLock (Address m ∷ rest) = true
fits l.MutexTryLock (Address m ∷ rest) = true
fits l.MutexUnlock (Address m ∷ rest) = true
fits l.MutexDestroy (Address m ∷ rest) = true
fits l.Create (Address handle ∷ function ∷ value ∷ rest) = true
fits l.Join (handle ∷ answer ∷ rest) = true
fits l.Assert (value ∷ rest) = true
fits l.Print (Text bytes ∷ rest) = true
fits _ _ = false

-- where the object behind an `&` is
abbrev pub place_given : Given Coding → Scope → Place
place_given (Address object) scope = place_in object scope
place_given _ scope = At 0

abbrev pub type_given : Given Coding → Scope → CType
type_given (Address object) scope = type_in object scope
type_given _ scope = Int

-- of arguments that fit, what is on the stack before the instructions
abbrev pub operands : Library → ℕ → Givens → Coding
operands (l.Load explicit) line (a ∷ orders) scope = answer_located a scope
operands (l.Store explicit) line (a ∷ value ∷ orders) scope = joined (answer_located a scope) (value_given value scope)
operands (l.ReadWrite kind explicit) line (a ∷ value ∷ orders) scope = joined (answer_located a scope) (value_given value scope)
operands (l.CompareExchange weak explicit) line (a ∷ expected ∷ value ∷ orders) scope =
    joined (answer_located a scope) (joined (answer_located expected scope) (value_given value scope))
operands l.MutexInit line (m ∷ rest) scope = answer_located m scope
operands l.MutexLock line (m ∷ rest) scope = answer_located m scope
operands l.MutexTryLock line (m ∷ rest) scope = answer_located m scope
operands l.MutexUnlock line (m ∷ rest) scope = answer_located m scope
operands l.MutexDestroy line (m ∷ rest) scope = answer_located m scope
operands l.Create line (handle ∷ function ∷ value ∷ rest) scope = joined (answer_located handle scope) (value_given value scope)
operands l.Join line (handle ∷ answer ∷ rest) scope = joined (handle_read line (given_object handle) scope) (answer_located answer scope)
operands l.Assert line (value ∷ rest) scope = value_given value scope
operands l.Print line (text ∷ rest) scope = values_given rest scope
operands _ line givens scope = plain []

-- ---- the instructions behind the operands, of arguments that fit

abbrev pub loads : ℕ → Givens → Scope → List Instr
loads line (a ∷ orders) scope = i.Load line (order_in orders scope) (place_given a scope) ∷ []
loads line _ scope = []

abbrev pub stores : ℕ → Givens → Scope → List Instr
stores line (a ∷ value ∷ orders) scope = i.Store line (order_in orders scope) (type_given a scope) (place_given a scope) ∷ i.Cast to.Void ∷ []
stores line _ scope = []

abbrev pub modifies : RmwKind → ℕ → Givens → Scope → List Instr
modifies kind line (a ∷ value ∷ orders) scope = i.Modify line (order_in orders scope) kind (type_given a scope) (place_given a scope) true ∷ []
modifies kind line _ scope = []

abbrev pub compares : Bool → ℕ → Givens → Scope → List Instr
compares weak line (a ∷ expected ∷ value ∷ orders) scope = i.Compare line weak (order_in orders scope) (second_order_in orders scope)
    (type_given a scope) (type_given expected scope) (place_given a scope) (place_given expected scope) ∷ []
compares weak line _ scope = []

abbrev pub on_mutex : Acts → ℕ → Givens → Scope → List Instr
on_mutex acts line (m ∷ rest) scope = i.Mutex line acts (place_given m scope) ∷ []
on_mutex acts line _ scope = []

abbrev pub destroys : Givens → Scope → List Instr
destroys (m ∷ rest) scope = dropped (place_given m scope) ++ i.Push nothing ∷ []
destroys _ scope = []

abbrev pub creates : ℕ → Givens → Scope → List Instr
creates line (handle ∷ function ∷ rest) scope = i.Create line (function_named (given_entity function scope)) (place_given handle scope) ∷ []
creates line _ scope = []

abbrev pub joins : ℕ → Givens → Scope → List Instr
joins line (handle ∷ answer ∷ rest) scope = i.Join line (answer_place answer scope) ∷ []
joins line _ scope = []

abbrev pub prints : ℕ → Givens → List Instr
prints line (Text bytes ∷ rest) = i.Print line bytes (length rest) ∷ []
prints line _ = []

abbrev pub finals : Library → ℕ → Givens → Scope → List Instr
finals (l.Load explicit) line givens scope = loads line givens scope
finals (l.Store explicit) line givens scope = stores line givens scope
finals (l.ReadWrite kind explicit) line givens scope = modifies kind line givens scope
finals (l.CompareExchange weak explicit) line givens scope = compares weak line givens scope
finals l.Fence line givens scope = i.Fence line (order_in givens scope) ∷ []
finals l.MutexInit line givens scope = on_mutex acts.Init line givens scope
finals l.MutexLock line givens scope = on_mutex acts.Lock line givens scope
finals l.MutexTryLock line givens scope = on_mutex acts.TryLock line givens scope
finals l.MutexUnlock line givens scope = on_mutex acts.Unlock line givens scope
finals l.MutexDestroy line givens scope = destroys givens scope
finals l.Yield line givens scope = []
finals l.Create line givens scope = creates line givens scope
finals l.Join line givens scope = joins line givens scope
finals l.Assert line givens scope = i.Assert line ∷ []
finals l.Print line givens scope = prints line givens
