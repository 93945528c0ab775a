-- The tokens of a ring's text.
use Rattle.std.proofs.Common.{◌≡◌, ◌≤◌, ◌<◌, ℕ, zero, suc, ◌+◌, ◌-◌, Bool, true, false, List, [], ◌++◌, map, codes, Ok, refl, sym, ap, subst, ◌∙◌, arith, append_assoc, append-nil}
use Rattle.std.proofs.lemmas.Fmt.{decimal_digit}
use Rattle.std.specs.Fmt.{decimal}
use Rattle.c11_lexer.specs.declared.token.Token.{Token}
use Rattle.c11_lexer.specs.Pieces.{Text, is_blank, is_word, is_mark, is_doubled, takes_equals, is_shift}
use Rattle.c11_lexer.specs.Pieces as s
use Rattle.c11_lexer.specs.Scan.{start, Scan}
use Rattle.c11_grammar.specs.declared.token.Sort.{Sort}
use Rattle.c11_grammar.specs.declared.token.Lexeme.{Lexeme}
use Rattle.c11_parser.specs.Sorting.{lexemes}
use Rattle.c11_ring.specs.Ring.{places, publishing, consuming, place_of, value_of, packets_from, head_text, sent_text, taken_text, producer_text, consumer_text, main_text, ring_bytes}
use Rattle.c11_ring.proofs.Parts.{Part, spelling, sorts_of, AreSmall, fits}
use Rattle.c11_ring.proofs.Gives.{Given, Gives, GivesFirst, nothing_gives}
use Rattle.c11_ring.proofs.Spelled.{parts_give}
use Rattle.c11_ring.proofs.Includes.{includes_give}
use Rattle.c11_ring.proofs.RingParts.{head_parts, sent_parts, taken_parts, producer_parts, consumer_parts, end_parts, main_parts, print_parts}
use Rattle.c11_ring.proofs.RingSorts as r

-- ---- numbers of a ring are small

pub places_small : (number : ℕ) → places number < 1000
places_small number = omega arith

pub place_small : (number packet : ℕ) → place_of number packet < 1000
place_small number packet = omega arith

pub value_small : (number packet : ℕ) → value_of number packet < 1000
value_small number packet = omega arith

-- ---- parts of a ring fit

head_fits : (k : ℕ) → fits (head_parts k) ≡ true
unfolding s.class is_blank is_word is_mark is_doubled takes_equals is_shift
head_fits k = refl

sent_fits : (k packet place value : ℕ) (release : Bool) → fits (sent_parts k packet place value release) ≡ true
unfolding s.class is_blank is_word is_mark is_doubled takes_equals is_shift
sent_fits k packet place value true = refl
sent_fits k packet place value false = refl

taken_fits : (packet place value : ℕ) (release : Bool) → fits (taken_parts packet place value release) ≡ true
unfolding s.class is_blank is_word is_mark is_doubled takes_equals is_shift
taken_fits packet place value true = refl
taken_fits packet place value false = refl

producer_fits : fits producer_parts ≡ true
unfolding s.class is_blank is_word is_mark is_doubled takes_equals is_shift
producer_fits = refl

consumer_fits : fits consumer_parts ≡ true
unfolding s.class is_blank is_word is_mark is_doubled takes_equals is_shift
consumer_fits = refl

end_fits : fits end_parts ≡ true
unfolding s.class is_blank is_word is_mark is_doubled takes_equals is_shift
end_fits = refl

main_fits : fits main_parts ≡ true
unfolding s.class is_blank is_word is_mark is_doubled takes_equals is_shift
main_fits = refl

print_fits : (place : ℕ) → fits (print_parts place) ≡ true
unfolding s.class is_blank is_word is_mark is_doubled takes_equals is_shift
print_fits place = refl

-- ---- their sorts

head_sorts : (number : ℕ) (sorts : List Sort) → sorts_of (head_parts (places number)) sorts ≡ r.ring_line number ++ (r.head_line ++ (r.tail_line ++ sorts))
head_sorts number sorts = refl

sent_sorts : (number packet : ℕ) (release : Bool) (sorts : List Sort)
    → sorts_of (sent_parts (places number) packet (place_of number packet) (value_of number packet) release) sorts
    ≡ (r.room_line number packet ++ (r.write_line number packet ++ r.store_line (codes "head") release packet)) ++ sorts
sent_sorts number packet true sorts = refl
sent_sorts number packet false sorts = refl

taken_sorts : (number packet : ℕ) (release : Bool) (sorts : List Sort)
    → sorts_of (taken_parts packet (place_of number packet) (value_of number packet) release) sorts
    ≡ (r.full_line packet ++ (r.assert_line number packet ++ r.store_line (codes "tail") release packet)) ++ sorts
taken_sorts number packet true sorts = refl
taken_sorts number packet false sorts = refl

producer_sorts : (sorts : List Sort) → sorts_of producer_parts sorts ≡ r.opening (codes "producer") ++ sorts
producer_sorts sorts = refl

consumer_sorts : (sorts : List Sort) → sorts_of consumer_parts sorts ≡ r.opening (codes "consumer") ++ sorts
consumer_sorts sorts = refl

end_sorts : (sorts : List Sort) → sorts_of end_parts sorts ≡ r.end_sorts ++ sorts
end_sorts sorts = refl

main_sorts : (sorts : List Sort) → sorts_of main_parts sorts ≡ r.main_opening ++ (r.threads_sorts ++ sorts)
main_sorts sorts = refl

print_sorts : (number size : ℕ) (sorts : List Sort) → sorts_of (print_parts (place_of number (size - 1))) sorts ≡ r.print_line number size ++ sorts
print_sorts number size sorts = refl

-- ---- what each gives

gives_same : (text other : Text) (sorts others : List Sort) → text ≡ other → sorts ≡ others → Gives text sorts → Gives other others
gives_same text other sorts others e f given at source here =
    let same : Given at source other sorts = subst (λ (t : Text). Given at source t sorts) e (given at source (here ∙ sym e)) in
    subst (λ (x : List Sort). Given at source other x) f same

-- the text is that of the parts, and so are the sorts
gives_as : (parts : List Part) (text rest : Text) (sorts others : List Sort) → fits parts ≡ true → AreSmall parts → spelling parts ≡ text → sorts_of parts sorts ≡ others → Gives rest sorts
    → Gives (text ++ rest) others
gives_as parts text rest sorts others fit small text_is sorts_are given =
    gives_same (spelling parts ++ rest) (text ++ rest) (sorts_of parts sorts) others (ap (λ (t : Text). t ++ rest) text_is) sorts_are (parts_give parts rest sorts fit small given)

sent_gives : (number packet : ℕ) → packet < 200 → (rest : Text) (sorts : List Sort) → Gives rest sorts → Gives (sent_text number packet ++ rest) (r.produced number packet ++ sorts)
sent_gives number packet room rest sorts given =
    gives_as (sent_parts (places number) packet (place_of number packet) (value_of number packet) (publishing number)) (sent_text number packet) rest sorts (r.produced number packet ++ sorts)
    (sent_fits (places number) packet (place_of number packet) (value_of number packet) (publishing number))
    (omega arith, (places_small number, (place_small number packet, (value_small number packet, (omega arith, tt))))) refl (sent_sorts number packet (publishing number) sorts) given

taken_gives : (number packet : ℕ) → packet < 200 → (rest : Text) (sorts : List Sort) → Gives rest sorts → Gives (taken_text number packet ++ rest) (r.consumed number packet ++ sorts)
taken_gives number packet room rest sorts given =
    gives_as (taken_parts packet (place_of number packet) (value_of number packet) (consuming number)) (taken_text number packet) rest sorts (r.consumed number packet ++ sorts)
    (taken_fits packet (place_of number packet) (value_of number packet) (consuming number))
    (omega arith, (place_small number packet, (value_small number packet, (omega arith, tt)))) refl (taken_sorts number packet (consuming number) sorts) given

packets_give : (text : ℕ → Text) (line : ℕ → List Sort)
    → ((packet : ℕ) → packet < 200 → (rest : Text) (sorts : List Sort) → Gives rest sorts → Gives (text packet ++ rest) (line packet ++ sorts))
    → (count first : ℕ) (rest : Text) (sorts : List Sort) → first + count ≤ 200 → Gives rest sorts → Gives (packets_from first count text ++ rest) (r.packets_from line first count ++ sorts)
unfolding r.packets_from
packets_give text line one zero first rest sorts room given = given
packets_give text line one (suc count) first rest sorts room given =
    gives_same (text first ++ (packets_from (first + 1) count text ++ rest)) _ (line first ++ (r.packets_from line (first + 1) count ++ sorts)) _
    (sym (append_assoc (text first) (packets_from (first + 1) count text) rest)) (sym (append_assoc (line first) (r.packets_from line (first + 1) count) sorts))
    (one first (omega arith) _ _ (packets_give text line one count (first + 1) rest sorts (omega arith) given))

end_text : Text
end_text = codes "return 0;\n}\n"

end_gives : (rest : Text) (sorts : List Sort) → Gives rest sorts → Gives (end_text ++ rest) (r.end_sorts ++ sorts)
unfolding end_text
end_gives rest sorts given =
    gives_as end_parts (codes "return 0;\n}\n") rest sorts (r.end_sorts ++ sorts) end_fits (omega arith, tt)
    (ap (λ (t : Text). codes "return " ++ (t ++ codes ";\n}\n")) (decimal_digit 0 (omega arith))) (end_sorts sorts) given

producer_gives : (number size : ℕ) → size ≤ 200 → (rest : Text) (sorts : List Sort) → Gives rest sorts → Gives (producer_text number size ++ rest) (r.producer_sorts number size ++ sorts)
unfolding end_text
producer_gives number size small rest sorts given =
    let packets : Text = packets_from 0 size (sent_text number) in
    let lines : List Sort = r.packets_from (r.produced number) 0 size in
    gives_same (codes "int producer(void *a) {\n" ++ (packets ++ (end_text ++ rest))) _ (r.opening (codes "producer") ++ (lines ++ (r.end_sorts ++ sorts))) _
    (ap (λ (t : Text). codes "int producer(void *a) {\n" ++ t) (sym (append_assoc packets end_text rest)))
    (ap (λ (t : List Sort). r.opening (codes "producer") ++ t) (sym (append_assoc lines r.end_sorts sorts)))
    (gives_as producer_parts (codes "int producer(void *a) {\n") _ _ _ producer_fits tt refl (producer_sorts _)
    (packets_give (sent_text number) (r.produced number) (sent_gives number) size 0 _ _ (omega arith) (end_gives rest sorts given)))

consumer_gives : (number size : ℕ) → size ≤ 200 → (rest : Text) (sorts : List Sort) → Gives rest sorts → Gives (consumer_text number size ++ rest) (r.consumer_sorts number size ++ sorts)
unfolding end_text
consumer_gives number size small rest sorts given =
    let packets : Text = packets_from 0 size (taken_text number) in
    let lines : List Sort = r.packets_from (r.consumed number) 0 size in
    gives_same (codes "int consumer(void *a) {\n" ++ (packets ++ (end_text ++ rest))) _ (r.opening (codes "consumer") ++ (lines ++ (r.end_sorts ++ sorts))) _
    (ap (λ (t : Text). codes "int consumer(void *a) {\n" ++ t) (sym (append_assoc packets end_text rest)))
    (ap (λ (t : List Sort). r.opening (codes "consumer") ++ t) (sym (append_assoc lines r.end_sorts sorts)))
    (gives_as consumer_parts (codes "int consumer(void *a) {\n") _ _ _ consumer_fits tt refl (consumer_sorts _)
    (packets_give (taken_text number) (r.consumed number) (taken_gives number) size 0 _ _ (omega arith) (end_gives rest sorts given)))

-- the lines of `main` up to the number of the last place
front_text : Text
front_text = codes "int main(void) {\nthrd_t p, c;\nthrd_create(&p, producer, NULL);\nthrd_create(&c, consumer, NULL);\nthrd_join(p, NULL);\nthrd_join(c, NULL);\n"

main_gives : (number size : ℕ) (rest : Text) (sorts : List Sort) → Gives rest sorts → Gives (main_text number size ++ rest) (r.main_sorts number size ++ sorts)
unfolding end_text front_text
main_gives number size rest sorts given =
    let last : Text = decimal (place_of number (size - 1)) in
    let closing : Text = codes "]);\n" in
    gives_same (front_text ++ ((codes "printf(\"%d\\n\", ring[" ++ (last ++ closing)) ++ (end_text ++ rest))) _ (r.main_opening ++ (r.threads_sorts ++ (r.print_line number size ++ (r.end_sorts ++ sorts)))) _
    (ap (λ (t : Text). front_text ++ (codes "printf(\"%d\\n\", ring[" ++ t)) (append_assoc last closing (end_text ++ rest) ∙ sym (append_assoc last (closing ++ end_text) rest)))
    refl
    (gives_as main_parts front_text _ _ _ main_fits tt refl (main_sorts _)
    (gives_as (print_parts (place_of number (size - 1))) (codes "printf(\"%d\\n\", ring[" ++ (last ++ closing)) _ _ _ (print_fits (place_of number (size - 1))) (place_small number (size - 1), tt) refl
    (print_sorts number size _) (end_gives rest sorts given)))

-- ---- the whole

head_gives : (number : ℕ) (rest : Text) (sorts : List Sort) → Gives rest sorts → GivesFirst (head_text number ++ rest) (r.head_sorts number ++ sorts)
head_gives number rest sorts given =
    includes_give (spelling (head_parts (places number)) ++ rest) (sorts_of (head_parts (places number)) sorts)
    (parts_give (head_parts (places number)) rest sorts (head_fits (places number)) (places_small number, tt) given)

joined : {A : Type 0} (h p c m : List A) → h ++ (p ++ (c ++ (m ++ []))) ≡ ((h ++ p) ++ c) ++ m
joined {A} h p c m = ap (λ (t : List A). h ++ (p ++ (c ++ t))) (append-nil m) ∙ sym (append_assoc h p (c ++ m)) ∙ sym (append_assoc (h ++ p) c m)

-- A ring's text has tokens, and they are those of the ring.
pub ring_tokens : (number size : ℕ) → 1 ≤ size → size ≤ 200 → (tokens : List Token) × (Scan (ring_bytes number size) (Ok tokens))
    × (map (λ (x : Lexeme). x.sort) (lexemes (ring_bytes number size) tokens) ≡ r.ring_sorts number size)
ring_tokens number size some small =
    let whole : Text = head_text number ++ (producer_text number size ++ (consumer_text number size ++ (main_text number size ++ []))) in
    let same : whole ≡ ring_bytes number size = joined (head_text number) (producer_text number size) (consumer_text number size) (main_text number size) in
    let given : Given start (ring_bytes number size) whole (r.head_sorts number ++ (r.producer_sorts number size ++ (r.consumer_sorts number size ++ (r.main_sorts number size ++ [])))) =
    head_gives number _ _ (producer_gives number size small _ _ (consumer_gives number size small _ _ (main_gives number size [] [] nothing_gives))) start (ring_bytes number size) (omega arith) (sym same) in (
      given.tokens,
      subst (λ (t : Text). Scan t (Ok given.tokens)) same given.scans,
      given.sorts_are ∙ ap (λ (t : List Sort). r.head_sorts number ++ (r.producer_sorts number size ++ (r.consumer_sorts number size ++ t))) (append-nil (r.main_sorts number size)),
    )
