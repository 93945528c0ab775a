-- A ring's text is short.
use Rattle.std.proofs.Common.{◌≡◌, ◌≤◌, ◌<◌, ℕ, zero, suc, ◌+◌, ◌-◌, ◌*◌, Bool, true, false, ◌++◌, length, codes, arith, length-append}
use Rattle.std.proofs.lemmas.Fmt.{length-decimal-le}
use Rattle.std.specs.Fmt.{decimal}
use Rattle.c11_lexer.specs.Pieces.{Text}
use Rattle.c11_ring.specs.Ring.{places, publishing, consuming, place_of, value_of, packets_from, head_text, sent_text, taken_text, producer_text, consumer_text, main_text, ring_bytes}
use Rattle.c11_accepts.specs.Texts.{longest}
use Rattle.c11_ring.proofs.PartsLength.{most, parts_short}
use Rattle.c11_ring.proofs.RingParts.{sent_parts, taken_parts}
use Rattle.c11_ring.proofs.RingTokens.{places_small, place_small, value_small}

-- ---- the parts of a ring

sent_most : (k packet place value : ℕ) (release : Bool) → most (sent_parts k packet place value release) ≤ 146
sent_most k packet place value true = omega arith
sent_most k packet place value false = omega arith

taken_most : (packet place value : ℕ) (release : Bool) → most (taken_parts packet place value release) ≤ 149
taken_most packet place value true = omega arith
taken_most packet place value false = omega arith

sent_short : (number packet : ℕ) → packet < 200 → length (sent_text number packet) ≤ 146
sent_short number packet room =
    let short : length (sent_text number packet) ≤ most (sent_parts (places number) packet (place_of number packet) (value_of number packet) (publishing number)) =
    parts_short (sent_parts (places number) packet (place_of number packet) (value_of number packet) (publishing number))
    (omega arith, (places_small number, (place_small number packet, (value_small number packet, (omega arith, tt))))) in
    omega (arith, short, sent_most (places number) packet (place_of number packet) (value_of number packet) (publishing number))

taken_short : (number packet : ℕ) → packet < 200 → length (taken_text number packet) ≤ 149
taken_short number packet room =
    let short : length (taken_text number packet) ≤ most (taken_parts packet (place_of number packet) (value_of number packet) (consuming number)) =
    parts_short (taken_parts packet (place_of number packet) (value_of number packet) (consuming number))
    (omega arith, (place_small number packet, (value_small number packet, (omega arith, tt)))) in
    omega (arith, short, taken_most packet (place_of number packet) (value_of number packet) (consuming number))

packets_short : (text : ℕ → Text) (bound : ℕ) → ((packet : ℕ) → packet < 200 → length (text packet) ≤ bound) → (count first : ℕ) → first + count ≤ 200
    → length (packets_from first count text) ≤ count * bound
packets_short text bound one zero first room = omega arith
packets_short text bound one (suc count) first room =
    omega (arith, length-append (text first) (packets_from (first + 1) count text), one first (omega arith), packets_short text bound one count (first + 1) (omega arith))

-- ---- the whole

digits_short : (k : ℕ) → k < 1000 → length (decimal k) ≤ 3
digits_short k small = length-decimal-le 3 k (omega arith) (omega arith) (omega arith)

head_short : (number : ℕ) → length (head_text number) ≤ 132
head_short number = omega (arith, length-append (decimal (places number)) (codes "];\natomic_int head;\natomic_int tail;\n"), digits_short (places number) (places_small number))

-- packets between closed texts
between : (packets opening closing : Text) (bound : ℕ) → length packets ≤ bound → length (opening ++ (packets ++ closing)) ≤ length opening + bound + length closing
between packets opening closing bound e = omega (arith, length-append opening (packets ++ closing), length-append packets closing)

producer_short : (number size : ℕ) → size ≤ 200 → length (producer_text number size) ≤ 36 + size * 146
producer_short number size small =
    let short : length (producer_text number size) ≤ 24 + size * 146 + 12 =
    between (packets_from 0 size (sent_text number)) (codes "int producer(void *a) {\n") (codes "return 0;\n}\n") (size * 146)
    (packets_short (sent_text number) 146 (sent_short number) size 0 (omega arith)) in omega (arith, short)

consumer_short : (number size : ℕ) → size ≤ 200 → length (consumer_text number size) ≤ 36 + size * 149
consumer_short number size small =
    let short : length (consumer_text number size) ≤ 24 + size * 149 + 12 =
    between (packets_from 0 size (taken_text number)) (codes "int consumer(void *a) {\n") (codes "return 0;\n}\n") (size * 149)
    (packets_short (taken_text number) 149 (taken_short number) size 0 (omega arith)) in omega (arith, short)

main_short : (number size : ℕ) → length (main_text number size) ≤ 175
main_short number size =
    omega (arith, length-append (decimal (place_of number (size - 1))) (codes "]);\nreturn 0;\n}\n"), digits_short (place_of number (size - 1)) (place_small number (size - 1)))

joined : (h p c m : Text) → length (((h ++ p) ++ c) ++ m) ≡ length h + length p + length c + length m
joined h p c m = omega (arith, length-append ((h ++ p) ++ c) m, length-append (h ++ p) c, length-append h p)

pub ring_short : (number size : ℕ) → 1 ≤ size → size ≤ 200 → length (ring_bytes number size) ≤ longest
ring_short number size some small =
    omega (
      arith,
      joined (head_text number) (producer_text number size) (consumer_text number size) (main_text number size),
      head_short number,
      producer_short number size small,
      consumer_short number size small,
      main_short number size,
    )
