-- How an event uses an atomic cell.
use Rattle.c11_events.specs.declared.event.EventKind.{EventKind}
use Rattle.c11_events.specs.declared.event.EventKind.TheVariants as kinds
use Rattle.c11_mayread.specs.declared.kinds.Access.{Access}
use Rattle.c11_mayread.specs.declared.kinds.Access.TheVariants.{Nothing, Load, Store, LoadAndStore}

abbrev pub access_of : EventKind → Access
access_of (kinds.Init cell value) = Store cell
access_of (kinds.AtomicLoad cell order) = Load cell
access_of (kinds.AtomicStore cell order value) = Store cell
access_of (kinds.Rmw cell order kind operand) = LoadAndStore cell
access_of _ = Nothing
