-- A join has as many places as its clocks.
use Rattle.std.proofs.Common.{◌≡◌, ℕ, Bool, true, false, List, length, refl}
use Rattle.c11_clock.specs.Clocks.{joined}
use Rattle.c11_clock.proofs.Joined.{length-joined}
use Rattle.c11_happens.specs.Noting.{joined_if}

pub length_joined : (clock other : List ℕ) → length other ≡ length clock → length (joined clock other) ≡ length clock
length_joined clock other e = length-joined clock other e

pub length_joined_if : (b : Bool) (clock other : List ℕ) → length other ≡ length clock → length (joined_if b clock other) ≡ length clock
length_joined_if true clock other e = length-joined clock other e
length_joined_if false clock other e = refl
