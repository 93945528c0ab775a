-- The text of a ring program, as a list of bytes: a producer hands packets to a consumer through a ring of places.
use Rattle.std.specs.Prelude.{ℕ, zero, suc, ◌+◌, ◌-◌, ◌/◌, ◌%◌, ◌==◌, Bool, List, [], ◌∷◌, ◌++◌, codes, if◌then◌else◌}
use Rattle.std.specs.List.{concat}
use Rattle.std.specs.Fmt.{decimal}

-- ---- the parameters of a ring

-- the places of the ring, 1 to 8
abbrev pub places : ℕ → ℕ
places number = 1 + (number / 4) % 8

-- whether the producer releases what it wrote
abbrev pub publishing : ℕ → Bool
publishing number = number % 2 == 0

-- whether the consumer releases what it read
abbrev pub consuming : ℕ → Bool
consuming number = (number / 2) % 2 == 0

-- the place of a packet
abbrev pub place_of : ℕ → ℕ → ℕ
place_of number packet = packet % places number

-- the value of a packet
abbrev pub value_of : ℕ → ℕ → ℕ
value_of number packet = (number % 1000 + packet) % 1000

-- the bytes of the memory order of a store
abbrev pub order_word : Bool → List ℕ
order_word release = if release then codes "memory_order_release" else codes "memory_order_relaxed"

-- ---- the text

-- what is written for so many packets in a row
abbrev pub packets_from : ℕ → ℕ → (ℕ → List ℕ) → List ℕ
packets_from first zero text = []
packets_from first (suc count) text = text first ++ packets_from (first + 1) count text

-- the headers and the objects
abbrev pub head_text : ℕ → List ℕ
head_text number = concat (
    codes "#include <stdatomic.h>\n#include <threads.h>\n#include <assert.h>\n#include <stdio.h>\n"
    ∷ codes "int ring[" ∷ decimal (places number) ∷ codes "];\natomic_int head;\natomic_int tail;\n" ∷ [])

-- The producer waits until a place is free, writes the packet's value there, and tells that it is there.
abbrev pub sent_text : ℕ → ℕ → List ℕ
sent_text number packet = concat (
    codes "while (" ∷ decimal packet ∷ codes " - atomic_load_explicit(&tail, memory_order_acquire) >= " ∷ decimal (places number) ∷ codes ");\n"
    ∷ codes "ring[" ∷ decimal (place_of number packet) ∷ codes "] = " ∷ decimal (value_of number packet) ∷ codes ";\n"
    ∷ codes "atomic_store_explicit(&head, " ∷ decimal (packet + 1) ∷ codes ", " ∷ order_word (publishing number) ∷ codes ");\n" ∷ [])

-- The consumer waits until the packet is there, compares its value, and tells that the place is free.
abbrev pub taken_text : ℕ → ℕ → List ℕ
taken_text number packet = concat (
    codes "while (atomic_load_explicit(&head, memory_order_acquire) <= " ∷ decimal packet ∷ codes ");\n"
    ∷ codes "assert(ring[" ∷ decimal (place_of number packet) ∷ codes "] == " ∷ decimal (value_of number packet) ∷ codes ");\n"
    ∷ codes "atomic_store_explicit(&tail, " ∷ decimal (packet + 1) ∷ codes ", " ∷ order_word (consuming number) ∷ codes ");\n" ∷ [])

abbrev pub producer_text : ℕ → ℕ → List ℕ
producer_text number size = concat (codes "int producer(void *a) {\n" ∷ packets_from 0 size (sent_text number) ∷ codes "return 0;\n}\n" ∷ [])

abbrev pub consumer_text : ℕ → ℕ → List ℕ
consumer_text number size = concat (codes "int consumer(void *a) {\n" ∷ packets_from 0 size (taken_text number) ∷ codes "return 0;\n}\n" ∷ [])

-- It starts both threads, waits for them, and prints the last packet's place.
abbrev pub main_text : ℕ → ℕ → List ℕ
main_text number size = concat (
    codes "int main(void) {\nthrd_t p, c;\n"
    ∷ codes "thrd_create(&p, producer, NULL);\nthrd_create(&c, consumer, NULL);\nthrd_join(p, NULL);\nthrd_join(c, NULL);\n"
    ∷ codes "printf(\"%d\\n\", ring[" ∷ decimal (place_of number (size - 1)) ∷ codes "]);\nreturn 0;\n}\n" ∷ [])

-- the text of the ring program of this number, with so many packets
abbrev pub ring_bytes : ℕ → ℕ → List ℕ
ring_bytes number size = head_text number ++ producer_text number size ++ consumer_text number size ++ main_text number size
