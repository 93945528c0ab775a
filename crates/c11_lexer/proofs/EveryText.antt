-- Each text has a Scan: what stands at each place is decided.
use Rattle.std.proofs.Common.{◌≡◌, ◌^◌, slice_index, ◌≤◌, ◌<◌, ℕ, zero, suc, ◌-◌, Bool, true, false, List, [], ◌∷◌, length, take, drop, codes, Option, Some, None, Ok, Err, refl, sym, ◌∙◌, arith, ◌⊎◌, inl, inr, length-drop, pos}
use Rattle.std.proofs.lemmas.Int.{ints}
use native.Mathlib.Decide.{map_dec, dec_le, ℕ_discrete}
use Rattle.std.specs.Char.{is_ascii_digit}
use Rattle.std.specs.Str.Parse.{digits_value_after}
use Rattle.c11_num.specs.Ranges.{TypedNumber, IsInRange}
use Rattle.c11_num.specs.declared.value.CType.{CType}
use Rattle.c11_num.specs.declared.value.CType.TheVariants as c
use Rattle.c11_lexer.specs.declared.piece.Piece.{Piece}
use Rattle.c11_lexer.specs.declared.piece.Piece.TheVariants as p
use Rattle.c11_lexer.specs.declared.cursor.Cursor.{Cursor}
use Rattle.c11_lexer.specs.declared.scan.Outcome.{Outcome}
use Rattle.c11_lexer.specs.declared.scan.Outcome.TheVariants as o
use Rattle.c11_lexer.specs.declared.number.Base.{Base}
use Rattle.c11_lexer.specs.declared.number.Suffix.{Suffix}
use Rattle.c11_lexer.specs.declared.token.TokenKind.TheVariants as k
use Rattle.c11_lexer.specs.declared.token.LexFault.TheVariants as f
use Rattle.c11_lexer.specs.Pieces.{Text, run, Longest}
use Rattle.c11_lexer.specs.Numbers.{IsLiteral, SpellsNumber, FirstHolding, types_of, radix}
use Rattle.c11_lexer.specs.Numbers as n
use Rattle.c11_lexer.specs.Reading.{front, number_of}
use Rattle.c11_lexer.specs.Directives.{is_space, Skips, SkipsTo, first_run, after_run, IsWord, IsHeader, is_inside, Included, Defined, IsDirective, NoDirective}
use Rattle.c11_lexer.specs.Directives as d
use Rattle.c11_lexer.specs.Scan.{start, advance, past, line_of, leads, Front, Means, token_at, Scanned, before, Scans, SomeScan}
use Rattle.c11_lexer.specs.Scan as s
use Rattle.c11_lexer.proofs.Longest.{front_is_longest}
use Rattle.c11_lexer.proofs.Numbers.{number_reads, number_is, no_literal, no_type, is_literal, none_at_end}
use Rattle.c11_lexer.proofs.Directives.{stops_end, stops_at, ends_none, ends_rest, found_include, found_define, no_include, no_define, no_word, no_close, no_header, no_end, is_included, defined_at, number_at, skips_shorter, word_first}
use Rattle.c11_lexer.proofs.Scanning.{front_some, leads_line}

dec_text : (t u : Text) → Dec (t ≡ u)
dec_text [] [] = yes refl
dec_text [] (y ∷ u) = no (λ e. cc)
dec_text (x ∷ t) [] = no (λ e. cc)
dec_text (x ∷ t) (y ∷ u) = both (ℕ_discrete x y) (dec_text t u)
  where
    both : Dec (x ≡ y) → Dec (t ≡ u) → Dec (x ∷ t ≡ y ∷ u)
    both (yes e) (yes f) = yes (λ i. e i ∷ f i)
    both (no n) f = no (λ e. n (let same : x ≡ y = cc in same))
    both (yes e) (no n) = no (λ f. n (let same : t ≡ u = cc in same))

dec_or : {A B : Type 0} → Dec A → Dec B → Dec (A ⊎ B)
dec_or (yes a) _ = yes (inl a)
dec_or (no n) (yes b) = yes (inr b)
dec_or (no n) (no m) = no (λ s. elim s [ inl a ↦ n a | inr b ↦ m b ])

-- ---- words and numbers

dec_word : (t : Text) → Dec (IsWord t)
dec_word [] = no (λ h. let first = word_first [] h in let clash : ◌≡◌ {A = Text} [] (first.0 ∷ first.1) = first.2 in cc)
dec_word (b ∷ t) = by_digit (is_ascii_digit b) refl (dec_le (suc (length t)) 127)
  where
    by_digit : (x : Bool) → is_ascii_digit b ≡ x → Dec (suc (length t) ≤ 127) → Dec (IsWord (b ∷ t))
    by_digit false e (yes short) = yes (d.IsWord.word e short)
    by_digit false e (no long) = no too_long
      where
        too_long : IsWord (b ∷ t) → ⊥
        too_long (d.IsWord.word f short) = long short
    by_digit true e short = no digit
      where
        digit : IsWord (b ∷ t) → ⊥
        digit (d.IsWord.word f g) = let no_ : true ≡ false = sym e ∙ f in cc

dec_number : (t : Text) → Dec (SpellsNumber t)
dec_number t = by_read (number_of t) refl
  where
    by_read : (r : Option (Base × Text × Suffix)) → number_of t ≡ r → Dec (SpellsNumber t)
    by_read (Some x) e = yes (x.0, x.1, x.2, number_is t x e)
    by_read None e = no (λ h. let clash = sym e ∙ number_reads t h.0 h.1 h.2 h.3 in cc)

dec_range : (ctype : CType) (n : ℕ) → Dec (IsInRange ctype (pos n))
dec_range c.Int n = map_dec (λ (le : n ≤ 2 ^ 31 - 1). (omega (arith, ints), omega (arith, ints, le))) (λ h. omega (arith, ints, h.1)) (dec_le n (2 ^ 31 - 1))
dec_range c.Unsigned n = map_dec (λ (le : n ≤ 2 ^ 32 - 1). (omega (arith, ints), omega (arith, ints, le))) (λ h. omega (arith, ints, h.1)) (dec_le n (2 ^ 32 - 1))
dec_range c.Long n = map_dec (λ (le : n ≤ 2 ^ 63 - 1). (omega (arith, ints), omega (arith, ints, le))) (λ h. omega (arith, ints, h.1)) (dec_le n (2 ^ 63 - 1))
dec_range c.ULong n = map_dec (λ (le : n ≤ 2 ^ 64 - 1). (omega (arith, ints), omega (arith, ints, le))) (λ h. omega (arith, ints, h.1)) (dec_le n (2 ^ 64 - 1))

-- the first type that holds the number, or that there is none
Holding : ℕ → List CType → Type 0
Holding n types = ((ctype : CType) × FirstHolding (pos n) types ctype) ⊎ ((ctype : CType) → FirstHolding (pos n) types ctype → ⊥)

holding : (m : ℕ) (types : List CType) → Holding m types
unfolding Holding
holding m [] = inr (λ ctype h. none_at_end (pos m) [] ctype h)
holding m (t ∷ types) = by_range (dec_range t m) (holding m types)
  where
    by_range : Dec (IsInRange t (pos m)) → Holding m types → Holding m (t ∷ types)
    by_range (yes h) rest = inl (t, n.FirstHolding.here h)
    by_range (no beyond) (inl found) = inl (found.0, n.FirstHolding.later beyond found.1)
    by_range (no beyond) (inr none) = inr no_type_holds
      where
        no_type_holds : (ctype : CType) → FirstHolding (pos m) (t ∷ types) ctype → ⊥
        no_type_holds ctype (n.FirstHolding.here h) = beyond h
        no_type_holds ctype (n.FirstHolding.later b rest) = none ctype rest

-- the literal that a run is, or that it is none
Literally : Text → Type 0
Literally t = ((value : TypedNumber) × IsLiteral t value) ⊎ ((value : TypedNumber) → IsLiteral t value → ⊥)

literally : (t : Text) → Literally t
unfolding Literally Holding
literally t = by_read (number_of t) refl
  where
    by_read : (r : Option (Base × Text × Suffix)) → number_of t ≡ r → Literally t
    by_read None e = inr (no_literal t e)
    by_read (Some x) e = by_type (holding (digits_value_after (radix x.0) 0 x.1) (types_of x.0 x.2))
      where
        by_type : Holding (digits_value_after (radix x.0) 0 x.1) (types_of x.0 x.2) → Literally t
        by_type (inl found) = let value : TypedNumber = record { ctype = found.0; number = pos (digits_value_after (radix x.0) 0 x.1) } in
            inl (value, is_literal t x.0 x.1 x.2 (digits_value_after (radix x.0) 0 x.1) value e refl refl found.1)
        by_type (inr none) = inr (no_type t x.0 x.1 x.2 (digits_value_after (radix x.0) 0 x.1) e refl none)

-- ---- what a piece gives

Meaning : Cursor → Piece → Text → Type 0
Meaning at piece t = (outcome : Outcome) × Means at piece t outcome

run_meaning : (at : Cursor) (t : Text) → Dec (IsWord t) → Literally t → Meaning at p.Run t
unfolding Meaning Literally
run_meaning at t (yes is) other = (o.Token k.Word, s.Means.word is)
run_meaning at t (no not_word) (inl found) = (o.Token (k.Literal found.0), s.Means.literal found.1)
run_meaning at t (no not_word) (inr none) = (o.Fault (f.Literal at.line at.column), s.Means.neither not_word none)

meaning : (at : Cursor) (piece : Piece) (t : Text) → Meaning at piece t
unfolding Meaning
meaning at p.Blank t = (o.Gap, s.Means.blank)
meaning at p.Run t = run_meaning at t (dec_word t) (literally t)
meaning at p.Mark t = (o.Token k.Mark, s.Means.mark)
meaning at p.LineComment t = (o.Gap, s.Means.line_comment)
meaning at p.Comment t = (o.Gap, s.Means.comment)
meaning at p.OpenComment t = (o.Fault (f.Comment at.line at.column), s.Means.open_comment)
meaning at (p.Text value) t = (o.Token (k.Text value), s.Means.text)
meaning at p.OpenText t = (o.Fault (f.Literal at.line at.column), s.Means.open_text)
meaning at p.Stray t = (o.Fault (f.Byte at.line at.column), s.Means.stray)
meaning at p.Include t = (o.Token k.Include, s.Means.include)
meaning at p.Define t = (o.Token k.Define, s.Means.define)
meaning at p.NoDirective t = (o.Fault (f.Directive at.line at.column), s.Means.no_directive)

-- ---- directives

Skipping : Text → Type 0
Skipping t = (r : Text) × SkipsTo t r

skip_within : (m : ℕ) (t : Text) → length t ≤ m → Skipping t
unfolding Skipping
skip_within m [] le = ([], record { skips = d.Skips.done; stops = stops_end })
skip_within zero (b ∷ t) le = absurd (omega arith)
skip_within (suc m) (b ∷ t) le = by_space (skip_within m) (is_space (front (b ∷ t)).0) refl
  where
    longest : Longest (b ∷ t) (front (b ∷ t)).1 (front (b ∷ t)).0
    longest = front_is_longest (b ∷ t) (omega arith)

    by_space : ((u : Text) → length u ≤ m → Skipping u) → (x : Bool) → is_space (front (b ∷ t)).0 ≡ x → Skipping (b ∷ t)
    by_space on true e = let rest = on (drop (front (b ∷ t)).1 (b ∷ t)) (omega (arith, le, longest.some, length-drop (front (b ∷ t)).1 (b ∷ t))) in
        (rest.0, record { skips = d.Skips.more longest e rest.1.skips; stops = rest.1.stops })
    by_space on false e = (b ∷ t, record { skips = d.Skips.done; stops = stops_at (b ∷ t) (front (b ∷ t)).1 (front (b ∷ t)).0 longest e })

skip : (t : Text) → Skipping t
skip t = skip_within (length t) t (omega arith)

dec_ends : (t : Text) → Dec (Skips t [])
unfolding Skipping
dec_ends t = by_rest (skip t).0 (skip t).1
  where
    by_rest : (r : Text) → SkipsTo t r → Dec (Skips t [])
    by_rest [] to = yes (ends_none t [] to refl)
    by_rest (y ∷ ys) to = no (λ h. let clash = ends_rest t (y ∷ ys) to h in cc)

dec_header : (t : Text) → Dec (IsHeader t)
dec_header t = dec_or (dec_text t (codes "<stdatomic.h")) (dec_or (dec_text t (codes "<threads.h")) (dec_or (dec_text t (codes "<stdio.h")) (dec_text t (codes "<assert.h"))))

-- what follows a header on its line, or that there is no header
Including : Text → Type 0
Including line = ((rest : Text) × (Included line rest × (length rest ≤ length line))) ⊎ ((rest : Text) → Included line rest → ⊥)

including : (line : Text) → Including line
unfolding Including Skipping
including line = by_close (skip line).0 (skip line).1
  where
    by_close : (a : Text) → SkipsTo line a → Including line
    by_close a to = by_parts (length (drop (run is_inside a) a)) refl (dec_header (take (run is_inside a) a)) (dec_ends (drop 1 (drop (run is_inside a) a)))
      where
        shorter : length (drop 1 (drop (run is_inside a) a)) ≤ length line
        shorter = omega (arith, skips_shorter line a to.skips, length-drop (run is_inside a) a, length-drop 1 (drop (run is_inside a) a))

        by_parts : (m : ℕ) → length (drop (run is_inside a) a) ≡ m → Dec (IsHeader (take (run is_inside a) a)) → Dec (Skips (drop 1 (drop (run is_inside a) a)) []) → Including line
        by_parts zero e header ends = inr (no_close line a to e)
        by_parts (suc m) e (no other) ends = inr (no_header line a to other)
        by_parts (suc m) e (yes header) (no more) = inr (no_end line a to more)
        by_parts (suc m) e (yes header) (yes ends) = inl (drop 1 (drop (run is_inside a) a), (is_included line a to (omega (arith, e)) header ends, shorter))

dec_defined : (line : Text) → Dec (Defined line)
unfolding Skipping
dec_defined line = by_name (skip line).0 (skip line).1
  where
    by_name : (a : Text) → SkipsTo line a → Dec (Defined line)
    by_name a to = by_value (skip (after_run a)).0 (skip (after_run a)).1
      where
        by_value : (b : Text) → SkipsTo (after_run a) b → Dec (Defined line)
        by_value b after = by_parts (dec_word (first_run a)) (dec_number (first_run b)) (dec_ends (after_run b))
          where
            by_parts : Dec (IsWord (first_run a)) → Dec (SpellsNumber (first_run b)) → Dec (Skips (after_run b) []) → Dec (Defined line)
            by_parts (no other) number ends = no (λ h. other (defined_at line a to h).name)
            by_parts (yes name) (no other) ends = no (λ h. other (number_at line a b to after h).number)
            by_parts (yes name) (yes number) (no more) = no (λ h. more (number_at line a b to after h).ends)
            by_parts (yes name) (yes number) (yes ends) = yes (d.Defined.defined to.skips name after.skips number ends)

-- the directive of a line, or that there is none
Directing : Text → Type 0
Directing line = ((n : ℕ) × (piece : Piece) × IsDirective line n piece) ⊎ NoDirective line

directing : (line : Text) → 0 < length line → slice_index line 0 ≡ 35 → Directing line
unfolding Directing Skipping Including
directing line some hash = by_word (skip (drop 1 line)).0 (skip (drop 1 line)).1
  where
    by_word : (a : Text) → SkipsTo (drop 1 line) a → Directing line
    by_word a to = by_parts (dec_text (first_run a) (codes "include")) (dec_text (first_run a) (codes "define")) (including (after_run a)) (dec_defined (after_run a))
      where
        by_parts : Dec (first_run a ≡ codes "include") → Dec (first_run a ≡ codes "define") → Including (after_run a) → Dec (Defined (after_run a)) → Directing line
        by_parts (yes word) other (inl found) values = inl (length line - length found.0, p.Include, found_include line a found.0 some hash to word found.1.0 found.1.1)
        by_parts (yes word) other (inr none) values = inr (no_include line a some hash to word none)
        by_parts (no other) (yes word) headers (yes value) = inl (length line - length (after_run a), p.Define, found_define line a some hash to word value)
        by_parts (no other) (yes word) headers (no none) = inr (no_define line a some hash to other none)
        by_parts (no other) (no neither) headers values = inr (no_word line a some hash to other neither)

-- ---- the whole text

Fronting : Cursor → Text → Type 0
Fronting at t = (n : ℕ) × (piece : Piece) × Front at t n piece

fronting : (at : Cursor) (t : Text) → 0 < length t → Fronting at t
unfolding Fronting Directing
fronting at t some = by_leads (leads at t) refl
  where
    by_leads : (x : Bool) → leads at t ≡ x → Fronting at t
    by_leads false e = ((front t).1, (front t).0, s.Front.plain e (front_is_longest t some))
    by_leads true e = by_line (directing (line_of t) (leads_line at t e).0 (leads_line at t e).1)
      where
        by_line : Directing (line_of t) → Fronting at t
        by_line (inl found) = (found.0, found.1, s.Front.directive e found.2)
        by_line (inr none) = (1, p.NoDirective, s.Front.no_directive e none)

Scanning : Cursor → Text → Type 0
Scanning at t = (scanned : Scanned) × Scans at t scanned

scans_within : (m : ℕ) (at : Cursor) (t : Text) → length t ≤ m → Scanning at t
unfolding Scanning Meaning Fronting
scans_within m at [] le = (Ok [], s.Scans.end)
scans_within zero at (b ∷ t) le = absurd (omega arith)
scans_within (suc m) at (b ∷ t) le = by_front (scans_within m) (fronting at (b ∷ t) (omega arith))
  where
    by_front : ((next : Cursor) (u : Text) → length u ≤ m → Scanning next u) → Fronting at (b ∷ t) → Scanning at (b ∷ t)
    by_front on found = by_meaning (meaning at found.1 (take found.0 (b ∷ t))).0 (meaning at found.1 (take found.0 (b ∷ t))).1
      where
        less : length (drop found.0 (b ∷ t)) ≤ m
        less = omega (arith, le, front_some at (b ∷ t) found.0 found.1 found.2, length-drop found.0 (b ∷ t))

        by_meaning : (outcome : Outcome) → Means at found.1 (take found.0 (b ∷ t)) outcome → Scanning at (b ∷ t)
        by_meaning o.Gap means = let rest = on (advance at (take found.0 (b ∷ t))) (drop found.0 (b ∷ t)) less in
            (rest.0, s.Scans.gap found.2 means rest.1)
        by_meaning (o.Token kind) means = let rest = on (past at (take found.0 (b ∷ t))) (drop found.0 (b ∷ t)) less in
            (before (token_at at kind (take found.0 (b ∷ t))) rest.0, s.Scans.token found.2 means rest.1)
        by_meaning (o.Fault fault) means = (Err fault, s.Scans.fault found.2 means)

pub some_scan : SomeScan
unfolding Scanning
some_scan text = scans_within (length text) start text (omega arith)
