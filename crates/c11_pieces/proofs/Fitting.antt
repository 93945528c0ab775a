-- A call of the library is its operands and the instructions behind them, where its arguments fit.
use Rattle.std.proofs.Common.{◌≡◌, ℕ, ◌+◌, true, false, List, [], ◌∷◌, refl, arith}
use Rattle.c11_check.specs.declared.library.Library.{Library}
use Rattle.c11_check.specs.declared.library.Library.TheVariants as l
use Rattle.c11_check.specs.Scopes.{Scope}
use Rattle.c11_meaning.specs.Objects.{nothing}
use Rattle.c11_meaning.specs.Parts.{Address, Text, given_object}
use Rattle.c11_flat.specs.declared.instr.Instr.{Instr}
use Rattle.c11_flat.specs.declared.instr.Instr.TheVariants as i
use Rattle.c11_flat.specs.Pieces.{plain, library_call, located, value_given, handle_read, answer_located}
use Rattle.c11_pieces.specs.Calls.{Givens, fits, operands, finals, place_given}
use Rattle.c11_pieces.specs.Growth.{Grows}
use Rattle.c11_pieces.specs.Sizes.{finals_size}
use Rattle.c11_pieces.proofs.Joins.{grows_joined, grows_plain, grows_on, grows_on_two}
use Rattle.c11_pieces.proofs.Counted.{instead_length}

pub unfit : (lib : Library) (line : ℕ) (givens : Givens) (scope : Scope) → fits lib givens ≡ false → library_call lib line givens scope ≡ plain (i.Push nothing ∷ [])
unfit (l.Load explicit) line (Address a ∷ orders) scope is = cc
unfit (l.Store explicit) line (Address a ∷ value ∷ orders) scope is = cc
unfit (l.ReadWrite kind explicit) line (Address a ∷ value ∷ orders) scope is = cc
unfit (l.CompareExchange weak explicit) line (Address a ∷ Address expected ∷ value ∷ orders) scope is = cc
unfit l.Fence line givens scope is = cc
unfit l.MutexInit line (Address m ∷ rest) scope is = cc
unfit l.MutexLock line (Address m ∷ rest) scope is = cc
unfit l.MutexTryLock line (Address m ∷ rest) scope is = cc
unfit l.MutexUnlock line (Address m ∷ rest) scope is = cc
unfit l.MutexDestroy line (Address m ∷ rest) scope is = cc
unfit l.Create line (Address handle ∷ function ∷ value ∷ rest) scope is = cc
unfit l.Join line (handle ∷ answer ∷ rest) scope is = cc
unfit l.Assert line (value ∷ rest) scope is = cc
unfit l.Print line (Text bytes ∷ rest) scope is = cc
unfit lib line givens scope is = refl

-- operands, and the instructions behind them
pub fit : {old mid new : List Instr} (lib : Library) (line : ℕ) (givens : Givens) (scope : Scope) → fits lib givens ≡ true
    → Grows old mid (operands lib line givens scope) → Grows mid new (plain (finals lib line givens scope)) → Grows old new (library_call lib line givens scope)
fit (l.Load explicit) line (Address a ∷ orders) scope is f g = grows_joined f g
fit (l.Store explicit) line (Address a ∷ value ∷ orders) scope is f g = grows_on (located a scope) (value_given value scope) f g
fit (l.ReadWrite kind explicit) line (Address a ∷ value ∷ orders) scope is f g = grows_on (located a scope) (value_given value scope) f g
fit (l.CompareExchange weak explicit) line (Address a ∷ Address expected ∷ value ∷ orders) scope is f g = grows_on_two (located a scope) (located expected scope) (value_given value scope) f g
fit l.Fence line givens scope is f g = grows_plain f g
fit l.MutexInit line (Address m ∷ rest) scope is f g = grows_joined f g
fit l.MutexLock line (Address m ∷ rest) scope is f g = grows_joined f g
fit l.MutexTryLock line (Address m ∷ rest) scope is f g = grows_joined f g
fit l.MutexUnlock line (Address m ∷ rest) scope is f g = grows_joined f g
fit l.MutexDestroy line (Address m ∷ rest) scope is f g = grows_joined f g
fit l.Create line (Address handle ∷ function ∷ value ∷ rest) scope is f g = grows_on (located handle scope) (value_given value scope) f g
fit l.Join line (handle ∷ answer ∷ rest) scope is f g = grows_on (handle_read line (given_object handle) scope) (answer_located answer scope) f g
fit l.Assert line (value ∷ rest) scope is f g = grows_joined f g
fit l.Print line (Text bytes ∷ rest) scope is f g = grows_joined f g
fit lib line givens scope is f g = cc

pub fit_size : (lib : Library) (line other : ℕ) (givens : Givens) (scope : Scope) → fits lib givens ≡ true
    → (library_call lib line givens scope).size ≡ (operands lib other givens scope).size + finals_size lib givens scope
fit_size (l.Load explicit) line other (Address a ∷ orders) scope is = refl
fit_size (l.Store explicit) line other (Address a ∷ value ∷ orders) scope is = omega arith
fit_size (l.ReadWrite kind explicit) line other (Address a ∷ value ∷ orders) scope is = omega arith
fit_size (l.CompareExchange weak explicit) line other (Address a ∷ Address expected ∷ value ∷ orders) scope is = omega arith
fit_size l.Fence line other givens scope is = refl
fit_size l.MutexInit line other (Address m ∷ rest) scope is = refl
fit_size l.MutexLock line other (Address m ∷ rest) scope is = refl
fit_size l.MutexTryLock line other (Address m ∷ rest) scope is = refl
fit_size l.MutexUnlock line other (Address m ∷ rest) scope is = refl
fit_size l.MutexDestroy line other (Address m ∷ rest) scope is = omega (arith, instead_length (place_given (Address m) scope) nothing)
fit_size l.Create line other (Address handle ∷ function ∷ value ∷ rest) scope is = omega arith
fit_size l.Join line other (handle ∷ answer ∷ rest) scope is = omega arith
fit_size l.Assert line other (value ∷ rest) scope is = refl
fit_size l.Print line other (Text bytes ∷ rest) scope is = refl
fit_size lib line other givens scope is = cc
