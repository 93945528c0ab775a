-- The parts of a ring's text.
use Rattle.std.proofs.Common.{ℕ, ◌+◌, Bool, List, [], ◌∷◌, codes}
use Rattle.c11_ring.specs.Ring.{order_word}
use Rattle.c11_ring.proofs.Parts.{Part, gap, word, number, sign, format}

abbrev pub space : Part
space = gap 32

abbrev pub feed : Part
feed = gap 10

-- the objects, after the headers
abbrev pub head_parts : ℕ → List Part
head_parts places =
    word (codes "int") ∷ space ∷ word (codes "ring") ∷ sign (codes "[") ∷ number places ∷ sign (codes "]") ∷ sign (codes ";") ∷ feed
    ∷ word (codes "atomic_int") ∷ space ∷ word (codes "head") ∷ sign (codes ";") ∷ feed
    ∷ word (codes "atomic_int") ∷ space ∷ word (codes "tail") ∷ sign (codes ";") ∷ feed ∷ []

-- what the producer does for a packet
abbrev pub sent_parts : ℕ → ℕ → ℕ → ℕ → Bool → List Part
sent_parts places packet place value release =
    word (codes "while") ∷ space ∷ sign (codes "(") ∷ number packet ∷ space ∷ sign (codes "-") ∷ space ∷ word (codes "atomic_load_explicit")
    ∷ sign (codes "(") ∷ sign (codes "&") ∷ word (codes "tail") ∷ sign (codes ",") ∷ space ∷ word (codes "memory_order_acquire") ∷ sign (codes ")") ∷ space
    ∷ sign (codes ">=") ∷ space ∷ number places ∷ sign (codes ")") ∷ sign (codes ";") ∷ feed
    ∷ word (codes "ring") ∷ sign (codes "[") ∷ number place ∷ sign (codes "]") ∷ space ∷ sign (codes "=") ∷ space ∷ number value ∷ sign (codes ";") ∷ feed
    ∷ word (codes "atomic_store_explicit") ∷ sign (codes "(") ∷ sign (codes "&") ∷ word (codes "head") ∷ sign (codes ",") ∷ space ∷ number (packet + 1)
    ∷ sign (codes ",") ∷ space ∷ word (order_word release) ∷ sign (codes ")") ∷ sign (codes ";") ∷ feed ∷ []

-- what the consumer does for a packet
abbrev pub taken_parts : ℕ → ℕ → ℕ → Bool → List Part
taken_parts packet place value release =
    word (codes "while") ∷ space ∷ sign (codes "(") ∷ word (codes "atomic_load_explicit") ∷ sign (codes "(") ∷ sign (codes "&") ∷ word (codes "head")
    ∷ sign (codes ",") ∷ space ∷ word (codes "memory_order_acquire") ∷ sign (codes ")") ∷ space ∷ sign (codes "<=") ∷ space ∷ number packet
    ∷ sign (codes ")") ∷ sign (codes ";") ∷ feed
    ∷ word (codes "assert") ∷ sign (codes "(") ∷ word (codes "ring") ∷ sign (codes "[") ∷ number place ∷ sign (codes "]") ∷ space ∷ sign (codes "==")
    ∷ space ∷ number value ∷ sign (codes ")") ∷ sign (codes ";") ∷ feed
    ∷ word (codes "atomic_store_explicit") ∷ sign (codes "(") ∷ sign (codes "&") ∷ word (codes "tail") ∷ sign (codes ",") ∷ space ∷ number (packet + 1)
    ∷ sign (codes ",") ∷ space ∷ word (order_word release) ∷ sign (codes ")") ∷ sign (codes ";") ∷ feed ∷ []

-- the front of the producer
abbrev pub producer_parts : List Part
producer_parts =
    word (codes "int") ∷ space ∷ word (codes "producer") ∷ sign (codes "(") ∷ word (codes "void") ∷ space ∷ sign (codes "*") ∷ word (codes "a")
    ∷ sign (codes ")") ∷ space ∷ sign (codes "{") ∷ feed ∷ []

-- the front of the consumer
abbrev pub consumer_parts : List Part
consumer_parts =
    word (codes "int") ∷ space ∷ word (codes "consumer") ∷ sign (codes "(") ∷ word (codes "void") ∷ space ∷ sign (codes "*") ∷ word (codes "a")
    ∷ sign (codes ")") ∷ space ∷ sign (codes "{") ∷ feed ∷ []

-- the end of a function
abbrev pub end_parts : List Part
end_parts =
    word (codes "return") ∷ space ∷ number 0 ∷ sign (codes ";") ∷ feed
    ∷ sign (codes "}") ∷ feed ∷ []

-- the front of `main`
abbrev pub main_parts : List Part
main_parts =
    word (codes "int") ∷ space ∷ word (codes "main") ∷ sign (codes "(") ∷ word (codes "void") ∷ sign (codes ")") ∷ space ∷ sign (codes "{") ∷ feed
    ∷ word (codes "thrd_t") ∷ space ∷ word (codes "p") ∷ sign (codes ",") ∷ space ∷ word (codes "c") ∷ sign (codes ";") ∷ feed
    ∷ word (codes "thrd_create") ∷ sign (codes "(") ∷ sign (codes "&") ∷ word (codes "p") ∷ sign (codes ",") ∷ space ∷ word (codes "producer")
    ∷ sign (codes ",") ∷ space ∷ word (codes "NULL") ∷ sign (codes ")") ∷ sign (codes ";") ∷ feed
    ∷ word (codes "thrd_create") ∷ sign (codes "(") ∷ sign (codes "&") ∷ word (codes "c") ∷ sign (codes ",") ∷ space ∷ word (codes "consumer")
    ∷ sign (codes ",") ∷ space ∷ word (codes "NULL") ∷ sign (codes ")") ∷ sign (codes ";") ∷ feed
    ∷ word (codes "thrd_join") ∷ sign (codes "(") ∷ word (codes "p") ∷ sign (codes ",") ∷ space ∷ word (codes "NULL") ∷ sign (codes ")") ∷ sign (codes ";")
    ∷ feed
    ∷ word (codes "thrd_join") ∷ sign (codes "(") ∷ word (codes "c") ∷ sign (codes ",") ∷ space ∷ word (codes "NULL") ∷ sign (codes ")") ∷ sign (codes ";")
    ∷ feed ∷ []

-- what prints the last place
abbrev pub print_parts : ℕ → List Part
print_parts place =
    word (codes "printf") ∷ sign (codes "(") ∷ format ∷ sign (codes ",") ∷ space ∷ word (codes "ring") ∷ sign (codes "[") ∷ number place
    ∷ sign (codes "]") ∷ sign (codes ")") ∷ sign (codes ";") ∷ feed ∷ []
