-- What the tokens of a ring's text are to the grammar, in the order of the text.
--
-- One list of sorts for each line of the text, joined by `++` to the right: `ring_sorts number size` = head_sorts number ++ (producer_sorts number size
-- ++ (consumer_sorts number size ++ main_sorts number size)), and a function is its first line ++ (its packets ++ its last lines).
-- What is repeated for packets is `packets_from line first count`, by recursion on the count: line first ++ packets_from line (first + 1) (count - 1); here with 0 and the size.
-- Each line is a closed list but for its numbers (`counted n`, a literal of type int) and its memory order (`order_word release`, a name).
-- The parameters of a ring are functions of its number: places (K), publishing and consuming (whether PO and CO are release), place_of (R and L), value_of (V).
use Rattle.std.specs.Prelude.{ℕ, zero, suc, ◌+◌, ◌-◌, pos, Bool, List, [], ◌∷◌, ◌++◌, codes}
use Rattle.c11_num.specs.declared.value.CType.TheVariants as c
use Rattle.c11_grammar.specs.declared.token.Mark.TheVariants as m
use Rattle.c11_grammar.specs.declared.token.Sort.{Sort}
use Rattle.c11_grammar.specs.declared.token.Sort.TheVariants as sort
pub use Rattle.c11_ring.specs.Ring.{places, publishing, consuming, place_of, value_of, order_word}

-- ---- single tokens

abbrev pub named : List ℕ → Sort
named word = sort.Name word

abbrev pub counted : ℕ → Sort
counted n = sort.Literal (record { ctype = c.Int; number = pos n })

-- `%d` and a line feed
abbrev pub format_text : List ℕ
format_text = 37 ∷ 100 ∷ 10 ∷ []

-- ---- the head

-- the four directives
abbrev pub include_sorts : List Sort
include_sorts = sort.Mark m.Include ∷ sort.Mark m.Include ∷ sort.Mark m.Include ∷ sort.Mark m.Include ∷ []

-- int ring[K];
abbrev pub ring_line : ℕ → List Sort
ring_line number = sort.Mark m.Int ∷ named (codes "ring") ∷ sort.Mark m.LeftSquare ∷ counted (places number) ∷ sort.Mark m.RightSquare ∷ sort.Mark m.Semicolon ∷ []

-- atomic_int head;
abbrev pub head_line : List Sort
head_line = sort.Mark m.AtomicInt ∷ named (codes "head") ∷ sort.Mark m.Semicolon ∷ []

-- atomic_int tail;
abbrev pub tail_line : List Sort
tail_line = sort.Mark m.AtomicInt ∷ named (codes "tail") ∷ sort.Mark m.Semicolon ∷ []

abbrev pub head_sorts : ℕ → List Sort
head_sorts number = include_sorts ++ (ring_line number ++ (head_line ++ tail_line))

-- ---- packets

-- the lines of this many packets, the first of which has this number
unfoldable pub packets_from : (ℕ → List Sort) → ℕ → ℕ → List Sort
packets_from line first zero = []
packets_from line first (suc count) = line first ++ packets_from line (first + 1) count

-- ---- functions

-- return 0; }
abbrev pub end_sorts : List Sort
end_sorts = sort.Mark m.Return ∷ counted 0 ∷ sort.Mark m.Semicolon ∷ sort.Mark m.RightBrace ∷ []

-- int WORD(void *a) {
abbrev pub opening : List ℕ → List Sort
opening word = sort.Mark m.Int ∷ named word ∷ sort.Mark m.LeftParen ∷ sort.Mark m.Void ∷ sort.Mark m.Star ∷ named (codes "a") ∷ sort.Mark m.RightParen
    ∷ sort.Mark m.LeftBrace ∷ []

-- atomic_load_explicit(&CELL, memory_order_acquire)
abbrev pub load_sorts : List ℕ → List Sort
load_sorts cell = named (codes "atomic_load_explicit") ∷ sort.Mark m.LeftParen ∷ sort.Mark m.Ampersand ∷ named cell ∷ sort.Mark m.Comma
    ∷ named (codes "memory_order_acquire") ∷ sort.Mark m.RightParen ∷ []

-- atomic_store_explicit(&CELL, J, ORDER);
abbrev pub store_line : List ℕ → Bool → ℕ → List Sort
store_line cell release packet = named (codes "atomic_store_explicit") ∷ sort.Mark m.LeftParen ∷ sort.Mark m.Ampersand ∷ named cell ∷ sort.Mark m.Comma
    ∷ counted (packet + 1) ∷ sort.Mark m.Comma ∷ named (order_word release) ∷ sort.Mark m.RightParen ∷ sort.Mark m.Semicolon ∷ []

-- while (I - atomic_load_explicit(&tail, memory_order_acquire) >= K);
abbrev pub room_line : ℕ → ℕ → List Sort
room_line number packet = (sort.Mark m.While ∷ sort.Mark m.LeftParen ∷ counted packet ∷ sort.Mark m.Minus ∷ [])
    ++ (load_sorts (codes "tail") ++ (sort.Mark m.GreaterEqual ∷ counted (places number) ∷ sort.Mark m.RightParen ∷ sort.Mark m.Semicolon ∷ []))

-- ring[R] = V;
abbrev pub write_line : ℕ → ℕ → List Sort
write_line number packet = named (codes "ring") ∷ sort.Mark m.LeftSquare ∷ counted (place_of number packet) ∷ sort.Mark m.RightSquare ∷ sort.Mark m.Set
    ∷ counted (value_of number packet) ∷ sort.Mark m.Semicolon ∷ []

abbrev pub produced : ℕ → ℕ → List Sort
produced number packet = room_line number packet ++ (write_line number packet ++ store_line (codes "head") (publishing number) packet)

abbrev pub producer_sorts : ℕ → ℕ → List Sort
producer_sorts number size = opening (codes "producer") ++ (packets_from (produced number) 0 size ++ end_sorts)

-- while (atomic_load_explicit(&head, memory_order_acquire) <= I);
abbrev pub full_line : ℕ → List Sort
full_line packet = (sort.Mark m.While ∷ sort.Mark m.LeftParen ∷ [])
    ++ (load_sorts (codes "head") ++ (sort.Mark m.LessEqual ∷ counted packet ∷ sort.Mark m.RightParen ∷ sort.Mark m.Semicolon ∷ []))

-- assert(ring[R] == V);
abbrev pub assert_line : ℕ → ℕ → List Sort
assert_line number packet = named (codes "assert") ∷ sort.Mark m.LeftParen ∷ named (codes "ring") ∷ sort.Mark m.LeftSquare ∷ counted (place_of number packet)
    ∷ sort.Mark m.RightSquare ∷ sort.Mark m.EqualEqual ∷ counted (value_of number packet) ∷ sort.Mark m.RightParen ∷ sort.Mark m.Semicolon ∷ []

abbrev pub consumed : ℕ → ℕ → List Sort
consumed number packet = full_line packet ++ (assert_line number packet ++ store_line (codes "tail") (consuming number) packet)

abbrev pub consumer_sorts : ℕ → ℕ → List Sort
consumer_sorts number size = opening (codes "consumer") ++ (packets_from (consumed number) 0 size ++ end_sorts)

-- ---- main

-- int main(void) {
abbrev pub main_opening : List Sort
main_opening = sort.Mark m.Int ∷ named (codes "main") ∷ sort.Mark m.LeftParen ∷ sort.Mark m.Void ∷ sort.Mark m.RightParen ∷ sort.Mark m.LeftBrace ∷ []

-- thrd_t p, c;
abbrev pub handles_line : List Sort
handles_line = sort.Mark m.ThrdT ∷ named (codes "p") ∷ sort.Mark m.Comma ∷ named (codes "c") ∷ sort.Mark m.Semicolon ∷ []

-- thrd_create(&HANDLE, WORD, NULL);
abbrev pub create_line : List ℕ → List ℕ → List Sort
create_line handle word = named (codes "thrd_create") ∷ sort.Mark m.LeftParen ∷ sort.Mark m.Ampersand ∷ named handle ∷ sort.Mark m.Comma ∷ named word
    ∷ sort.Mark m.Comma ∷ named (codes "NULL") ∷ sort.Mark m.RightParen ∷ sort.Mark m.Semicolon ∷ []

-- thrd_join(HANDLE, NULL);
abbrev pub join_line : List ℕ → List Sort
join_line handle = named (codes "thrd_join") ∷ sort.Mark m.LeftParen ∷ named handle ∷ sort.Mark m.Comma ∷ named (codes "NULL") ∷ sort.Mark m.RightParen
    ∷ sort.Mark m.Semicolon ∷ []

-- printf("%d\n", ring[L]);
abbrev pub print_line : ℕ → ℕ → List Sort
print_line number size = named (codes "printf") ∷ sort.Mark m.LeftParen ∷ sort.Text format_text ∷ sort.Mark m.Comma ∷ named (codes "ring")
    ∷ sort.Mark m.LeftSquare ∷ counted (place_of number (size - 1)) ∷ sort.Mark m.RightSquare ∷ sort.Mark m.RightParen ∷ sort.Mark m.Semicolon ∷ []

abbrev pub threads_sorts : List Sort
threads_sorts = handles_line ++ (create_line (codes "p") (codes "producer") ++ (create_line (codes "c") (codes "consumer")
    ++ (join_line (codes "p") ++ join_line (codes "c"))))

abbrev pub main_sorts : ℕ → ℕ → List Sort
main_sorts number size = main_opening ++ (threads_sorts ++ (print_line number size ++ end_sorts))

-- ---- the whole ring

abbrev pub ring_sorts : ℕ → ℕ → List Sort
ring_sorts number size = head_sorts number ++ (producer_sorts number size ++ (consumer_sorts number size ++ main_sorts number size))
