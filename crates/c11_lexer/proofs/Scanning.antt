-- A text has one Scan at most, and a scan goes on piece by piece.
use Rattle.std.proofs.Common.{◌≡◌, ◌≤◌, ◌<◌, ℕ, ◌+◌, Bool, true, false, List, [], ◌∷◌, ◌++◌, length, take, drop, Result, Ok, Err, IfOk, refl, sym, ap, subst, ◌∙◌, arith, append_assoc, append-nil, if◌then◌else◌, ◌==◌, slice_index, length-drop}
use Rattle.std.proofs.lemmas.Grind.{common_steps}
use Rattle.std.proofs.lemmas.List.{length-take-le}
use Rattle.std.specs.Char.{is_ascii_digit}
use Rattle.c11_num.specs.Ranges.{TypedNumber}
use Rattle.c11_lexer.specs.declared.piece.Piece.{Piece}
use Rattle.c11_lexer.specs.declared.cursor.Cursor.{Cursor}
use Rattle.c11_lexer.specs.declared.scan.Outcome.{Outcome}
use Rattle.c11_lexer.specs.declared.scan.Outcome.TheVariants as o
use Rattle.c11_lexer.specs.declared.token.TokenKind.{TokenKind}
use Rattle.c11_lexer.specs.declared.token.TokenKind.TheVariants as k
use Rattle.c11_lexer.specs.declared.token.Token.{Token}
use Rattle.c11_lexer.specs.declared.token.LexFault.{LexFault}
use Rattle.c11_lexer.specs.declared.number.Base.{Base}
use Rattle.c11_lexer.specs.declared.number.Base.TheVariants as b
use Rattle.c11_lexer.specs.declared.number.Suffix.{Suffix}
use Rattle.c11_lexer.specs.Pieces.{Text, run, is_inline, Longest, SamePiece}
use Rattle.c11_lexer.specs.Numbers.{IsLiteral, IsNumber, is_digit_of}
use Rattle.c11_lexer.specs.Numbers as n
use Rattle.c11_lexer.specs.Directives.{IsWord, IsDirective, NoDirective}
use Rattle.c11_lexer.specs.Directives as d
use Rattle.c11_lexer.specs.Scan.{start, after_byte, advance, past, line_of, leads, Front, Means, token_at, Scanned, before, Scans, Scan, OneScan, Rise, SlicesRise, prefixed, Steps, Moves, FaultsAt}
use Rattle.c11_lexer.specs.Scan as s
use Rattle.c11_lexer.proofs.Longest.{one_longest, run_within}
use Rattle.c11_lexer.proofs.Numbers.{one_literal}
use Rattle.c11_lexer.proofs.Directives.{one_directive, directive_within}

-- ---- the piece at a place

led : (at : Cursor) (t : Text) → leads at t ≡ true → 0 < length t
led at [] e = cc
led at (c ∷ t) e = omega arith

line_short : (t : Text) → length (line_of t) ≤ length t
line_short t = omega (arith, length-take-le (run is_inline t) t (run_within is_inline t), run_within is_inline t)

pub front_some : (at : Cursor) (t : Text) (m : ℕ) (x : Piece) → Front at t m x → 0 < m
front_some at t m x (s.Front.plain e longest) = longest.some
front_some at t m x (s.Front.directive e is) = (directive_within (line_of t) m x is).0
front_some at t m x (s.Front.no_directive e none) = omega arith

pub front_within : (at : Cursor) (t : Text) (m : ℕ) (x : Piece) → Front at t m x → m ≤ length t
front_within at t m x (s.Front.plain e longest) = longest.within
front_within at t m x (s.Front.directive e is) = let short = line_short t in let within = (directive_within (line_of t) m x is).1 in omega arith
front_within at t m x (s.Front.no_directive e none) = omega (arith, led at t e)

no_front : (at : Cursor) (m : ℕ) (x : Piece) → Front at [] m x → ⊥
no_front at m x front = omega (arith, front_some at [] m x front, front_within at [] m x front)

false_true : {A : Type 0} (x : Bool) → x ≡ false → x ≡ true → A
false_true x e f = absurd (let no_ : false ≡ true = sym e ∙ f in cc)

one_front : (at : Cursor) (t : Text) (m j : ℕ) (x y : Piece) → Front at t m x → Front at t j y → SamePiece m j x y
one_front at t m j x y (s.Front.plain e longest) (s.Front.plain g other) = one_longest t m j x y longest other
one_front at t m j x y (s.Front.plain e longest) (s.Front.directive g is) = false_true (leads at t) e g
one_front at t m j x y (s.Front.plain e longest) (s.Front.no_directive g none) = false_true (leads at t) e g
one_front at t m j x y (s.Front.directive e is) (s.Front.plain g longest) = false_true (leads at t) g e
one_front at t m j x y (s.Front.directive e is) (s.Front.directive g other) = one_directive (line_of t) m j x y is other
one_front at t m j x y (s.Front.directive e is) (s.Front.no_directive g none) = absurd (none m x is)
one_front at t m j x y (s.Front.no_directive e none) (s.Front.plain g longest) = false_true (leads at t) g e
one_front at t m j x y (s.Front.no_directive e none) (s.Front.directive g is) = absurd (none j y is)
one_front at t m j x y (s.Front.no_directive e none) (s.Front.no_directive g other) = record { length_is = refl; piece_is = refl }

-- ---- what it gives

no_digit : (c : ℕ) → is_ascii_digit c ≡ false → is_digit_of b.Decimal c ≡ true → ⊥
unfolding is_digit_of
no_digit c e g = grind (arith, common_steps)

first_digit : (c : ℕ) (t : Text) (base : Base) (digits : Text) (suffix : Suffix) → IsNumber (c ∷ t) base digits suffix → is_ascii_digit c ≡ false → ⊥
first_digit c t base digits suffix (n.IsNumber.decimal not_zero is spelled) e = no_digit c e is
first_digit c t base digits suffix (n.IsNumber.octal spelled) e = let no_ : true ≡ false = e in cc
first_digit c t base digits suffix (n.IsNumber.hexadecimal x some spelled) e = let no_ : true ≡ false = e in cc

word_no_number : (t : Text) → IsWord t → (value : TypedNumber) → IsLiteral t value → ⊥
word_no_number t (d.IsWord.word {b = c} {t = u} e short) value h = first_digit c u h.base h.digits h.suffix h.is e

one_meaning : (at : Cursor) (x : Piece) (t : Text) (one other : Outcome) → Means at x t one → Means at x t other → one ≡ other
one_meaning at x t one other s.Means.blank s.Means.blank = refl
one_meaning at x t one other s.Means.line_comment s.Means.line_comment = refl
one_meaning at x t one other s.Means.comment s.Means.comment = refl
one_meaning at x t one other s.Means.open_comment s.Means.open_comment = refl
one_meaning at x t one other (s.Means.word h) (s.Means.word g) = refl
one_meaning at x t one other (s.Means.word h) (s.Means.literal {value = value} g) = absurd (word_no_number t h value g)
one_meaning at x t one other (s.Means.word h) (s.Means.neither g i) = absurd (g h)
one_meaning at x t one other (s.Means.literal {value = value} h) (s.Means.word g) = absurd (word_no_number t g value h)
one_meaning at x t one other (s.Means.literal {value = value} h) (s.Means.literal {value = another} g) = ap (λ (v : TypedNumber). o.Token (k.Literal v)) (one_literal t value another h g)
one_meaning at x t one other (s.Means.literal {value = value} h) (s.Means.neither g i) = absurd (i value h)
one_meaning at x t one other (s.Means.neither h i) (s.Means.word g) = absurd (h g)
one_meaning at x t one other (s.Means.neither h i) (s.Means.literal {value = value} g) = absurd (i value g)
one_meaning at x t one other (s.Means.neither h i) (s.Means.neither g j) = refl
one_meaning at x t one other s.Means.mark s.Means.mark = refl
one_meaning at x t one other s.Means.text s.Means.text = refl
one_meaning at x t one other s.Means.open_text s.Means.open_text = refl
one_meaning at x t one other s.Means.stray s.Means.stray = refl
one_meaning at x t one other s.Means.include s.Means.include = refl
one_meaning at x t one other s.Means.define s.Means.define = refl
one_meaning at x t one other s.Means.no_directive s.Means.no_directive = refl

record Meet (m j : ℕ) (one other : Outcome) : Type 0 where
  lengths : m ≡ j
  outcomes : one ≡ other

meet : (at : Cursor) (t : Text) (m j : ℕ) (x y : Piece) (one other : Outcome) → Front at t m x → Means at x (take m t) one → Front at t j y → Means at y (take j t) other → Meet m j one other
meet at t m j x y one other front is other_front other_is =
    let same = one_front at t m j x y front other_front in
    let both : (m, x) ≡ (j, y) = λ i. (same.length_is i, same.piece_is i) in
    record {
      lengths = same.length_is;
      outcomes = one_meaning at y (take j t) one other (subst (λ (z : ℕ × Piece). Means at z.1 (take z.0 t) one) both is) other_is;
    }

gap_token : {A : Type 0} (kind : TokenKind) → o.Gap ≡ o.Token kind → A
gap_token kind e = absurd (cc)

gap_fault : {A : Type 0} (fault : LexFault) → o.Gap ≡ o.Fault fault → A
gap_fault fault e = absurd (cc)

token_fault : {A : Type 0} (kind : TokenKind) (fault : LexFault) → o.Token kind ≡ o.Fault fault → A
token_fault kind fault e = absurd (cc)

token_is : (kind other : TokenKind) → o.Token kind ≡ o.Token other → kind ≡ other
token_is kind other e = cc

fault_is : (fault other : LexFault) → o.Fault fault ≡ o.Fault other → fault ≡ other
fault_is fault other e = cc

-- ---- the whole text

pub scans_once : (at : Cursor) (t : Text) (one other : Scanned) → Scans at t one → Scans at t other → one ≡ other
scans_once at t one other s.Scans.end s.Scans.end = refl
scans_once at t one other s.Scans.end (s.Scans.gap {n = j} {piece = y} front is tail) = absurd (no_front at j y front)
scans_once at t one other s.Scans.end (s.Scans.token {n = j} {piece = y} front is tail) = absurd (no_front at j y front)
scans_once at t one other s.Scans.end (s.Scans.fault {n = j} {piece = y} front is) = absurd (no_front at j y front)
scans_once at t one other (s.Scans.gap {n = m} {piece = x} front is tail) s.Scans.end = absurd (no_front at m x front)
scans_once at t one other (s.Scans.token {n = m} {piece = x} front is tail) s.Scans.end = absurd (no_front at m x front)
scans_once at t one other (s.Scans.fault {n = m} {piece = x} front is) s.Scans.end = absurd (no_front at m x front)
scans_once at t one other (s.Scans.gap {n = m} {piece = x} front is tail) (s.Scans.gap {n = j} {piece = y} other_front other_is other_tail) =
    let both = meet at t m j x y o.Gap o.Gap front is other_front other_is in
    scans_once (advance at (take m t)) (drop m t) one other tail (subst (λ (z : ℕ). Scans (advance at (take z t)) (drop z t) other) (sym both.lengths) other_tail)
scans_once at t one other (s.Scans.gap {n = m} {piece = x} front is tail) (s.Scans.token {n = j} {piece = y} {kind = kind} other_front other_is other_tail) =
    gap_token kind (meet at t m j x y o.Gap (o.Token kind) front is other_front other_is).outcomes
scans_once at t one other (s.Scans.gap {n = m} {piece = x} front is tail) (s.Scans.fault {n = j} {piece = y} {fault = fault} other_front other_is) =
    gap_fault fault (meet at t m j x y o.Gap (o.Fault fault) front is other_front other_is).outcomes
scans_once at t one other (s.Scans.token {n = m} {piece = x} {kind = kind} front is tail) (s.Scans.gap {n = j} {piece = y} other_front other_is other_tail) =
    gap_token kind (sym (meet at t m j x y (o.Token kind) o.Gap front is other_front other_is).outcomes)
scans_once at t one other (s.Scans.token {n = m} {piece = x} {kind = kind} {scanned = rest} front is tail) (s.Scans.token {n = j} {piece = y} {kind = another} {scanned = other_rest} other_front other_is other_tail) =
    let both = meet at t m j x y (o.Token kind) (o.Token another) front is other_front other_is in
    let kinds = token_is kind another both.outcomes in
    let lengths = both.lengths in
    let rests = scans_once (past at (take m t)) (drop m t) rest other_rest tail (subst (λ (z : ℕ). Scans (past at (take z t)) (drop z t) other_rest) (sym lengths) other_tail) in
    λ i. before (token_at at (kinds i) (take (lengths i) t)) (rests i)
scans_once at t one other (s.Scans.token {n = m} {piece = x} {kind = kind} front is tail) (s.Scans.fault {n = j} {piece = y} {fault = fault} other_front other_is) =
    token_fault kind fault (meet at t m j x y (o.Token kind) (o.Fault fault) front is other_front other_is).outcomes
scans_once at t one other (s.Scans.fault {n = m} {piece = x} {fault = fault} front is) (s.Scans.gap {n = j} {piece = y} other_front other_is other_tail) =
    gap_fault fault (sym (meet at t m j x y (o.Fault fault) o.Gap front is other_front other_is).outcomes)
scans_once at t one other (s.Scans.fault {n = m} {piece = x} {fault = fault} front is) (s.Scans.token {n = j} {piece = y} {kind = kind} other_front other_is other_tail) =
    token_fault kind fault (sym (meet at t m j x y (o.Fault fault) (o.Token kind) front is other_front other_is).outcomes)
scans_once at t one other (s.Scans.fault {n = m} {piece = x} {fault = fault} front is) (s.Scans.fault {n = j} {piece = y} {fault = another} other_front other_is) =
    ap (λ (z : LexFault). Err z) (fault_is fault another (meet at t m j x y (o.Fault fault) (o.Fault another) front is other_front other_is).outcomes)

pub one_scan : OneScan
one_scan text one other first second = scans_once start text one other first second

-- ---- slices

byte_offset : (at : Cursor) (c : ℕ) → (after_byte at c).offset ≡ at.offset + 1
byte_offset at c = by_test (c == 10)
  where
    by_test : (x : Bool) → (if x then record at { line = at.line + 1; column = 1; offset = at.offset + 1 } else record at { column = at.column + 1; offset = at.offset + 1 }).offset ≡ at.offset + 1
    by_test true = refl
    by_test false = refl

advance_offset : (at : Cursor) (t : Text) → (advance at t).offset ≡ at.offset + length t
unfolding advance
advance_offset at [] = omega arith
advance_offset at (c ∷ t) = omega (arith, byte_offset at c, advance_offset (after_byte at c) t)

rise_from : (from other last : ℕ) (tokens : List Token) → Rise from tokens last → other ≤ from → Rise other tokens last
rise_from from other last tokens (s.Rise.none e) less = s.Rise.none (omega arith)
rise_from from other last tokens (s.Rise.more e some tail) less = s.Rise.more (omega arith) some tail

to_last : (from last other : ℕ) (tokens : List Token) → last ≡ other → Rise from tokens last → Rise from tokens other
to_last from last other tokens e rise = subst (Rise from tokens) e rise

rise_before : (from last : ℕ) (token : Token) (rest : Scanned) → from ≤ token.start → token.start < token.end → IfOk rest (λ tokens. Rise token.end tokens last)
    → IfOk (before token rest) (λ tokens. Rise from tokens last)
rise_before from last token (Ok tokens) low some rise = s.Rise.more low some rise
rise_before from last token (Err fault) low some rise = rise

ok_map : (P Q : List Token → Type 0) (rest : Scanned) → ((tokens : List Token) → P tokens → Q tokens) → IfOk rest P → IfOk rest Q
ok_map P Q (Ok tokens) both is = both tokens is
ok_map P Q (Err fault) both is = is

rises : (at : Cursor) (t : Text) (scanned : Scanned) → Scans at t scanned → IfOk scanned (λ tokens. Rise at.offset tokens (at.offset + length t))
rises at t scanned s.Scans.end = s.Rise.none (omega arith)
rises at t scanned (s.Scans.gap {n = m} {piece = x} front is tail) =
    let within = front_within at t m x front in
    let cut = length-take-le m t within in
    let offset = advance_offset at (take m t) in
    let left = length-drop m t in
    ok_map (λ tokens. Rise (advance at (take m t)).offset tokens ((advance at (take m t)).offset + length (drop m t))) (λ tokens. Rise at.offset tokens (at.offset + length t)) scanned
    (λ tokens rise. let last : (advance at (take m t)).offset + length (drop m t) ≡ at.offset + length t = omega (arith, offset, cut, left) in
    to_last at.offset _ _ tokens last (rise_from _ at.offset _ tokens rise (omega (arith, offset))))
    (rises (advance at (take m t)) (drop m t) scanned tail)
rises at t scanned (s.Scans.token {n = m} {piece = x} {kind = kind} {scanned = rest} front is tail) =
    let some = front_some at t m x front in
    let within = front_within at t m x front in
    let cut = length-take-le m t within in
    let offset = advance_offset at (take m t) in
    let left = length-drop m t in
    rise_before at.offset (at.offset + length t) (token_at at kind (take m t)) rest (omega arith) (omega (arith, cut))
    (ok_map (λ tokens. Rise (advance at (take m t)).offset tokens ((advance at (take m t)).offset + length (drop m t))) (λ tokens. Rise (at.offset + length (take m t)) tokens (at.offset + length t)) rest
    (λ tokens rise. let last : (advance at (take m t)).offset + length (drop m t) ≡ at.offset + length t = omega (arith, offset, cut, left) in
    to_last (at.offset + length (take m t)) _ _ tokens last (rise_from _ (at.offset + length (take m t)) _ tokens rise (omega (arith, offset))))
    (rises (past at (take m t)) (drop m t) rest tail))
rises at t scanned (s.Scans.fault front is) = tt

pub slices_rise : SlicesRise
slices_rise text tokens scan = to_last 0 (0 + length text) (length text) tokens (omega arith) (rises start text (Ok tokens) scan)

-- ---- steps of the code

prefixed_more : (tokens : List Token) (token : Token) (rest : Scanned) → prefixed (tokens ++ token ∷ []) rest ≡ prefixed tokens (before token rest)
prefixed_more tokens token (Ok others) = ap (λ (x : List Token). Ok x) (append_assoc tokens (token ∷ []) others)
prefixed_more tokens token (Err fault) = refl

Continues : Text → Cursor → Text → List Token → Type 0
Continues text at rest tokens = (scanned : Scanned) → Scans at rest scanned → Scans start text (prefixed tokens scanned)

pub step_on : (text : Text) (at : Cursor) (t : Text) (m : ℕ) (old new : List Token) (next : Cursor) → Steps at t m old new next
    → ((scanned : Scanned) → Scans at t scanned → Scans start text (prefixed old scanned)) → (scanned : Scanned) → Scans next (drop m t) scanned → Scans start text (prefixed new scanned)
step_on text at t m old new next (s.Steps.gap front is) so_far scanned tail = so_far scanned (s.Scans.gap front is tail)
step_on text at t m old new next (s.Steps.token {kind = kind} front is) so_far scanned tail =
    subst (Scans start text) (sym (prefixed_more old (token_at at kind (take m t)) scanned)) (so_far (before (token_at at kind (take m t)) scanned) (s.Scans.token front is tail))

pub fault_here : (text : Text) (at : Cursor) (t : Text) (tokens : List Token) (fault : LexFault) → FaultsAt at t fault
    → ((scanned : Scanned) → Scans at t scanned → Scans start text (prefixed tokens scanned)) → Scan text (Err fault)
fault_here text at t tokens fault (s.FaultsAt.faulty front is) so_far = so_far (Err fault) (s.Scans.fault front is)

pub begun : (text : Text) (scanned : Scanned) → Scans start text scanned → Scans start text (prefixed [] scanned)
begun text (Ok tokens) scan = scan
begun text (Err fault) scan = scan

pub finished : (text : Text) (at : Cursor) (rest : Text) (tokens : List Token) → length rest ≡ 0 → ((scanned : Scanned) → Scans at rest scanned → Scans start text (prefixed tokens scanned))
    → Scan text (Ok tokens)
finished text at [] tokens e so_far = rw append-nil at (so_far (Ok []) s.Scans.end)
finished text at (c ∷ rest) tokens e so_far = absurd (omega arith)

-- ---- a `#` that is first on its line

pub leads_line : (at : Cursor) (t : Text) → leads at t ≡ true → (0 < length (line_of t)) × (slice_index (line_of t) 0 ≡ 35)
unfolding run is_inline
leads_line at [] e = cc
leads_line at (c ∷ t) e = let hash : c ≡ 35 = grind (arith, common_steps) in
    subst (λ (x : ℕ). (0 < length (line_of (x ∷ t))) × (slice_index (line_of (x ∷ t)) 0 ≡ 35)) (sym hash) (omega arith, refl)

pub plain_ok : {E : Type 0} (r : Result (Piece × ℕ) E) (at : Cursor) (t : Text) → leads at t ≡ false → IfOk r (λ x. Longest t x.1 x.0) → IfOk r (λ x. Front at t x.1 x.0)
plain_ok (Ok found) at t e longest = s.Front.plain e longest
plain_ok (Err error) at t e longest = longest

pub gap_step : (at : Cursor) (t text : Text) (m : ℕ) (x : Piece) (old : List Token) (moved : Cursor) → text ≡ take m t → Front at t m x → Means at x text o.Gap → moved ≡ advance at text
    → Steps at t m old old moved
gap_step at t text m x old moved e front is value =
    subst (Steps at t m old old) (ap (advance at) (sym e) ∙ sym value) (s.Steps.gap front (subst (λ (u : Text). Means at x u o.Gap) e is))

pub token_step : (at : Cursor) (t text : Text) (m : ℕ) (x : Piece) (kind : TokenKind) (old new : List Token) (moved : Cursor) → text ≡ take m t → Front at t m x
    → Means at x text (o.Token kind) → moved ≡ advance at text → moved.offset ≡ at.offset + length text
    → new ≡ old ++ record { kind = kind; line = at.line; column = at.column; start = at.offset; end = moved.offset } ∷ []
    → Steps at t m old new (record moved { token_line = at.line })
token_step at t text m x kind old new moved e front is value offset new_is =
    let meaning : Means at x (take m t) (o.Token kind) = subst (λ (u : Text). Means at x u (o.Token kind)) e is in
    let first : Steps at t m old (old ++ token_at at kind (take m t) ∷ []) (past at (take m t)) = s.Steps.token front meaning in
    let second : Steps at t m old (old ++ token_at at kind text ∷ []) (past at text) = subst (λ (u : Text). Steps at t m old (old ++ token_at at kind u ∷ []) (past at u)) (sym e) first in
    let third : Steps at t m old (old ++ token_at at kind text ∷ []) (record moved { token_line = at.line }) =
    subst (λ (u : Cursor). Steps at t m old (old ++ token_at at kind text ∷ []) (record u { token_line = at.line })) (sym value) second in
    subst (λ (u : List Token). Steps at t m old u (record moved { token_line = at.line })) (sym new_is)
    (subst (λ (u : ℕ). Steps at t m old (old ++ record { kind = kind; line = at.line; column = at.column; start = at.offset; end = u } ∷ []) (record moved { token_line = at.line })) (sym offset) third)

pub moves : (at : Cursor) (t text : Text) (m : ℕ) (x : Piece) (moved next : Cursor) → text ≡ take m t → Front at t m x → moved.line ≤ at.line + length text → moved.column ≤ at.column + length text
    → moved.offset ≡ at.offset + length text → next.line ≡ moved.line → next.column ≡ moved.column → next.offset ≡ moved.offset → Moves at t m next
moves at t text m x moved next e front line column offset same_line same_column same_offset =
    let within = front_within at t m x front in
    let long : length text ≡ m = ap length e ∙ length-take-le m t within in
    record {
      some = front_some at t m x front;
      within = within;
      line = omega (arith, long, line, same_line);
      column = omega (arith, long, column, same_column);
      offset = omega (arith, long, offset, same_offset);
    }
