-- What holds of every ring program.
use Rattle.std.specs.Prelude.{ℕ, ◌≤◌}
use Rattle.c11_ast.specs.declared.item.Program.{Program}
use Rattle.c11_accepts.specs.Texts.{Accepts}
use Rattle.c11_ring.specs.Ring.{ring_bytes}

-- The text of a ring of 1 to 200 packets is accepted as a program.
abbrev pub RingIsAccepted : Type 0
RingIsAccepted = (number size : ℕ) → 1 ≤ size → size ≤ 200 → (program : Program) × Accepts (ring_bytes number size) program
