-- What the names of a ring denote, from function to function.
use Rattle.std.proofs.Common.{ℕ, true, false, List, [], ◌∷◌, ◌++◌, Some, None}
use Rattle.std.specs.Prelude.{codes}
use Rattle.c11_num.specs.declared.value.CType.TheVariants as c
use Rattle.c11_check.specs.declared.around.Around.{Around}
use Rattle.c11_check.specs.declared.entity.Entity.TheVariants as e
use Rattle.c11_check.specs.declared.entity.Signature.{Signature}
use Rattle.c11_check.specs.Scopes.{Scope, Named}

-- the array, of this many elements, and the two counters
abbrev pub objects : ℕ → List Named
objects size = record { name = codes "ring"; entity = e.Plain c.Int 0 (Some size) } ∷ record { name = codes "head"; entity = e.Atomic c.Int 0 None }
    ∷ record { name = codes "tail"; entity = e.Atomic c.Int 1 None } ∷ []

abbrev pub thread_signature : Signature
thread_signature = record { answers = Some c.Int; params = 1; pointer = true }

abbrev pub main_signature : Signature
main_signature = record { answers = Some c.Int; params = 0; pointer = false }

abbrev pub producer_named : Named
producer_named = record { name = codes "producer"; entity = e.Function 0 thread_signature }

abbrev pub consumer_named : Named
consumer_named = record { name = codes "consumer"; entity = e.Function 1 thread_signature }

abbrev pub main_named : Named
main_named = record { name = codes "main"; entity = e.Function 2 main_signature }

abbrev pub parameter_named : Named
parameter_named = record { name = codes "a"; entity = e.Local c.Long 0 None }

abbrev pub handles_named : List Named
handles_named = record { name = codes "p"; entity = e.Handle 0 None } ∷ record { name = codes "c"; entity = e.Handle 1 None } ∷ []

-- A scope of a ring: behind the objects stand these names, it begins at this one, and so much has been declared.
abbrev pub ring_scope : ℕ → ℕ → List Named → ℕ → ℕ → ℕ → Scope
ring_scope size plains names start functions places = record {
  names = objects size ++ names;
  start = start;
  counts = record { atomics = 2; plains = plains; mutexes = 0; functions = functions; places = places };
}

-- in the producer, in the consumer, and in `main` before and behind its handles
abbrev pub producer_scope : ℕ → ℕ → Scope
producer_scope size plains = ring_scope size plains (producer_named ∷ parameter_named ∷ []) 4 1 1

abbrev pub consumer_scope : ℕ → ℕ → Scope
consumer_scope size plains = ring_scope size plains (producer_named ∷ consumer_named ∷ parameter_named ∷ []) 5 2 1

abbrev pub main_scope : ℕ → ℕ → Scope
main_scope size plains = ring_scope size plains (producer_named ∷ consumer_named ∷ main_named ∷ []) 6 3 0

abbrev pub threads_scope : ℕ → ℕ → Scope
threads_scope size plains = ring_scope size plains (producer_named ∷ consumer_named ∷ main_named ∷ handles_named) 6 3 2

-- in a function that answers an `int`, outside of loops
abbrev pub in_int : Around
in_int = record { answers = Some c.Int; in_loop = false }
