-- What an event does to an atomic cell, by its kind.
use Rattle.std.proofs.Common.{◌≡◌, Some, None, refl}
use Rattle.c11_events.specs.declared.event.EventKind.{EventKind}
use Rattle.c11_events.specs.declared.event.EventKind.TheVariants as kinds
use Rattle.c11_events.specs.Events.{stored_cell, loaded_cell}
use Rattle.c11_mayread.specs.declared.kinds.Access.{Access}
use Rattle.c11_mayread.specs.declared.kinds.Access.TheVariants.{Nothing, Load, Store, LoadAndStore}
use Rattle.c11_mayread.specs.Accesses.{access_of}

-- what the access says of the cells that are read and written
abbrev pub Says : Access → EventKind → Type 0
Says Nothing kind = (loaded_cell kind ≡ None) × (stored_cell kind ≡ None)
Says (Load cell) kind = (loaded_cell kind ≡ Some cell) × (stored_cell kind ≡ None)
Says (Store cell) kind = (loaded_cell kind ≡ None) × (stored_cell kind ≡ Some cell)
Says (LoadAndStore cell) kind = (loaded_cell kind ≡ Some cell) × (stored_cell kind ≡ Some cell)

pub says : (kind : EventKind) → Says (access_of kind) kind
says (kinds.Init cell value) = (refl, refl)
says (kinds.AtomicLoad cell order) = (refl, refl)
says (kinds.AtomicStore cell order value) = (refl, refl)
says (kinds.Rmw cell order kind operand) = (refl, refl)
says _ = (refl, refl)
