-- Which memory orders an operation may have (ISO/IEC 9899:2011, 7.17.4.1 and 7.17.7; the doubtful failure orders are this project's own).
use Rattle.std.specs.Prelude.{Bool, true, false}
use Rattle.c11_events.specs.declared.order.Order.{Order}
use Rattle.c11_events.specs.declared.order.Order.TheVariants.{Relaxed, Consume, Acquire, Release, SeqCst}
use Rattle.c11_events.specs.declared.order.OrderUse.{OrderUse}
use Rattle.c11_events.specs.declared.order.OrderUse.TheVariants.{Load, Store, ReadWrite, Fence}

-- a load is relaxed, consume, acquire or seq_cst; a store relaxed, release or seq_cst; the others may have each order
abbrev pub is_allowed : OrderUse → Order → Bool
is_allowed Load Relaxed = true
is_allowed Load Consume = true
is_allowed Load Acquire = true
is_allowed Load SeqCst = true
is_allowed Load _ = false
is_allowed Store Relaxed = true
is_allowed Store Release = true
is_allowed Store SeqCst = true
is_allowed Store _ = false
is_allowed ReadWrite _ = true
is_allowed Fence _ = true

-- the order of success, and those that a failure may have with it
abbrev pub is_allowed_failure : Order → Order → Bool
is_allowed_failure Relaxed Relaxed = true
is_allowed_failure Relaxed _ = false
is_allowed_failure Consume Relaxed = true
is_allowed_failure Consume Consume = true
is_allowed_failure Consume _ = false
is_allowed_failure SeqCst Relaxed = true
is_allowed_failure SeqCst Consume = true
is_allowed_failure SeqCst Acquire = true
is_allowed_failure SeqCst SeqCst = true
is_allowed_failure SeqCst _ = false
-- acquire, release and acq_rel
is_allowed_failure _ Relaxed = true
is_allowed_failure _ Consume = true
is_allowed_failure _ Acquire = true
is_allowed_failure _ _ = false
