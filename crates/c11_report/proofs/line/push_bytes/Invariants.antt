use Rattle.std.proofs.Common.{◌≡◌, ◌++◌, ◌∷◌, [], ℕ, ◌/◌, ◌%◌, take}
use Rattle.std.specs.Prelude.{flat_map}
use Rattle.c11_report.specs.Execution.{hex_digit}
use Rattle.c11_report.proofs.line.push_bytes.Given as goal

abbrev pub invariant-loop-byte : goal.invariant-loop-byte
invariant-loop-byte l = l.text ≡ l.fn.text ++ flat_map (λ (byte : ℕ). hex_digit (byte / 16) ∷ hex_digit (byte % 16) ∷ []) (take l.byte-index l.bytes)
