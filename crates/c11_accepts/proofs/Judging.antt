-- Each text is accepted as one program, or refused in one way.
use Rattle.std.proofs.Common.{◌≡◌, ◌≢◌, ℕ, ◌+◌, ◌≤◌, ◌<◌, ◌^◌, List, [], Result, Ok, Err, IfOk, IfErr, MatchResult, Option, Some, None, option_map, length, slice_get, refl, sym, ap, ◌∙◌, subst, arith, ◌⊎◌, ◌↔◌, inl, inr, IsTrue, true, false}
use Rattle.std.proofs.lemmas.List.{length-map}
use native.Mathlib.Decide.{dec_le}
use mathlib.Core.Logic.{dite}
use Rattle.c11_ast.specs.declared.item.Program.{Program}
use Rattle.c11_ast.specs.declared.item.Item.{Item}
use Rattle.c11_lexer.specs.declared.token.Token.{Token}
use Rattle.c11_lexer.specs.declared.token.LexFault.{LexFault}
use Rattle.c11_lexer.specs.declared.token.LexFault.TheVariants as lexical
use Rattle.c11_lexer.specs.declared.cursor.Cursor.{Cursor}
use Rattle.c11_lexer.specs.declared.scan.Outcome.{Outcome}
use Rattle.c11_lexer.specs.declared.scan.Outcome.TheVariants as o
use Rattle.c11_lexer.specs.declared.piece.Piece.{Piece}
use Rattle.c11_lexer.specs.Scan.{Scan, Scanned, Scans, Means, Rise, before, OneScan, SomeScan}
use Rattle.c11_lexer.specs.Scan as s
use Rattle.c11_grammar.specs.Tokens.{Tokens}
use Rattle.c11_grammar.specs.Programs.{Run}
use Rattle.c11_grammar.specs.Programs as pr
use Rattle.c11_grammar.proofs.ItemComplete.{item_shorter}
use Rattle.c11_parser.specs.Sorting.{lexemes, lexeme_of}
use Rattle.c11_parser.specs.declared.whole.SyntaxFault.{SyntaxFault}
use Rattle.c11_parser.specs.declared.whole.SyntaxFault.TheVariants as syntactic
use Rattle.c11_parser.specs.Trees.{Tree, NoTree, IsFault, Answer}
use Rattle.c11_parser.specs.Trees as trees
use Rattle.c11_parser.proofs.Sources.{one_tree, one_place, some_answer}
use Rattle.c11_check.specs.declared.fault.Fault.{Fault}
use Rattle.c11_check.specs.declared.fault.Rule.{Rule}
use Rattle.c11_check.specs.declared.fault.Rule.TheVariants as rule
use Rattle.c11_check.specs.declared.fault.CheckFault.{CheckFault}
use Rattle.c11_check.specs.Programs.{HasNoFault, IsFirst, IsFirstOf, Refuses, faults_of, reported}
use Rattle.c11_check.proofs.Firsts.{one_is_first, some_is_first}
use Rattle.c11_report.specs.declared.refusal.Refusal.{Refusal}
use Rattle.c11_report.specs.declared.refusal.RefusalWord.{RefusalWord}
use Rattle.c11_report.specs.declared.refusal.RefusalWord.TheVariants as word
use Rattle.c11_report.specs.Refusals.{has_place, HasSome}
use Rattle.c11_check.specs.declared.checked.Checked.{Checked}
use Rattle.c11_accepts.specs.declared.whole.AcceptStop.{AcceptStop}
use Rattle.c11_accepts.specs.declared.whole.AcceptStop.TheVariants as stop
use Rattle.c11_accepts.specs.Texts.{stop_of, check_refusal, IsStop, Accepts, IsRefusedAs, longest, too_long, lexer_refusal, refusal_at, fault_refusal, word_of}
use Rattle.c11_accepts.specs.Texts as t
use Rattle.c11_accepts.specs.Laws.{OneProgram, OneRefusal, NotBoth, OneOfBoth, PlacesFit}

-- ---- parts of a text

ok_is : (ts us : List Token) → ◌≡◌ {A = Scanned} (Ok ts) (Ok us) → ts ≡ us
ok_is ts us e = cc

ok_err : (ts : List Token) (fault : LexFault) → ◌≡◌ {A = Scanned} (Ok ts) (Err fault) → ⊥
ok_err ts fault e = cc

err_is : (f g : LexFault) → ◌≡◌ {A = Scanned} (Err f) (Err g) → f ≡ g
err_is f g e = cc

no_first : (program : Program) (fault : Fault) → HasNoFault program → IsFirst (faults_of program) fault → ⊥
no_first program fault none first = let at : slice_get [] first.member.0 ≡ Some fault = subst (λ (l : List Fault). slice_get l first.member.0 ≡ Some fault) none first.member.1 in cc

some_is : (f g : LexFault) (r q : Refusal) → f ≡ g → lexer_refusal f ≡ Some r → lexer_refusal g ≡ Some q → r ≡ q
some_is f g r q same one other = let both : Some r ≡ Some q = sym one ∙ (ap lexer_refusal same ∙ other) in cc

module _ (one_scan : OneScan) where
  same_tokens : (text : List ℕ) (ts us : List Token) → Scan text (Ok ts) → Scan text (Ok us) → ts ≡ us
  same_tokens text ts us one other = ok_is ts us (one_scan text (Ok ts) (Ok us) one other)

  no_fault : (text : List ℕ) (ts : List Token) (fault : LexFault) → Scan text (Ok ts) → Scan text (Err fault) → ⊥
  no_fault text ts fault one other = ok_err ts fault (one_scan text (Ok ts) (Err fault) one other)

  same_fault : (text : List ℕ) (f g : LexFault) → Scan text (Err f) → Scan text (Err g) → f ≡ g
  same_fault text f g one other = err_is f g (one_scan text (Err f) (Err g) one other)

  tree_of : (text : List ℕ) (ts us : List Token) (program : Program) → Scan text (Ok ts) → Scan text (Ok us) → Tree text us program → Tree text ts program
  tree_of text ts us program one other tree = subst (λ (l : List Token). Tree text l program) (same_tokens text us ts other one) tree

  same_program : (text : List ℕ) (ts us : List Token) (p q : Program) → Scan text (Ok ts) → Scan text (Ok us) → Tree text ts p → Tree text us q → p ≡ q
  same_program text ts us p q one other tree other_tree = one_tree text ts p q tree (tree_of text ts us q one other other_tree)

  no_tree : (text : List ℕ) (ts us : List Token) (program : Program) (line column : ℕ) → Scan text (Ok ts) → Scan text (Ok us) → Tree text ts program → NoTree text us line column → ⊥
  no_tree text ts us program line column one other tree none = none.none program.items (tree_of text us ts program other one tree)

  -- ---- one program, one refusal, and not both

  pub one_program : OneProgram
  one_program text one other a b = same_program text a.tokens b.tokens one other a.scan b.scan a.tree b.tree

  pub not_both : NotBoth
  not_both text program _ a (t.long more) = omega (arith, a.short)
  not_both text program _ a (t.lexer {fault = fault} short scan is) = no_fault text a.tokens fault a.scan scan
  not_both text program _ a (t.item {tokens = us} {line = line} {column = column} short scan none) = no_tree text a.tokens us program line column a.scan scan a.tree none
  not_both text program _ a (t.check {tokens = us} {program = q} {fault = fault} short scan tree first) =
      no_first q fault (subst HasNoFault (same_program text a.tokens us program q a.scan scan a.tree tree) a.faultless) first

  pub one_refusal : OneRefusal
  one_refusal text _ _ (t.long more) (t.long again) = refl
  one_refusal text _ _ (t.long more) (t.lexer short scan is) = absurd (omega arith)
  one_refusal text _ _ (t.long more) (t.item short scan none) = absurd (omega arith)
  one_refusal text _ _ (t.long more) (t.check short scan tree first) = absurd (omega arith)
  one_refusal text _ _ (t.lexer short scan is) (t.long more) = absurd (omega arith)
  one_refusal text one other (t.lexer {fault = f} short scan is) (t.lexer {fault = g} less again so) = some_is f g one other (same_fault text f g scan again) is so
  one_refusal text _ _ (t.lexer {fault = f} short scan is) (t.item {tokens = us} less again none) = absurd (no_fault text us f again scan)
  one_refusal text _ _ (t.lexer {fault = f} short scan is) (t.check {tokens = us} less again tree first) = absurd (no_fault text us f again scan)
  one_refusal text _ _ (t.item short scan none) (t.long more) = absurd (omega arith)
  one_refusal text _ _ (t.item {tokens = ts} short scan none) (t.lexer {fault = f} less again is) = absurd (no_fault text ts f scan again)
  one_refusal text _ _ (t.item {tokens = ts} {line = l} {column = c} short scan none) (t.item {tokens = us} {line = m} {column = d} less again other) =
      let same = one_place text ts l c m d none (subst (λ (x : List Token). NoTree text x m d) (same_tokens text us ts again scan) other) in
      λ i. refusal_at word.Item (same.0 i) (same.1 i)
  one_refusal text _ _ (t.item {tokens = ts} {line = l} {column = c} short scan none) (t.check {tokens = us} {program = q} less again tree first) = absurd (no_tree text us ts q l c again scan tree none)
  one_refusal text _ _ (t.check short scan tree first) (t.long more) = absurd (omega arith)
  one_refusal text _ _ (t.check {tokens = ts} short scan tree first) (t.lexer {fault = f} less again is) = absurd (no_fault text ts f scan again)
  one_refusal text _ _ (t.check {tokens = ts} {program = p} short scan tree first) (t.item {tokens = us} {line = l} {column = c} less again none) = absurd (no_tree text ts us p l c scan again tree none)
  one_refusal text _ _ (t.check {tokens = ts} {program = p} {fault = f} short scan tree first) (t.check {tokens = us} {program = q} {fault = g} less again other_tree other) =
      let same = same_program text ts us p q scan again tree other_tree in
      ap fault_refusal (one_is_first (faults_of p) f g first (subst (λ (x : Program). IsFirst (faults_of x) g) (sym same) other))

  -- ---- what becomes of a text is what comes out

  pub accepts : (text : List ℕ) (result : Result Checked AcceptStop) → IfOk result (λ checked. Accepts text checked.program) → IfErr result (λ s. IsStop text s)
      → (program : Program) → Accepts text program → MatchResult result (λ checked. checked.program ≡ program) (λ s. s ≡ stop.NoMemory)
  accepts text (Ok checked) good bad program is = one_program text checked.program program good is
  accepts text (Err (stop.Refused refusal)) good bad program is = absurd (not_both text program refusal is bad)
  accepts text (Err stop.NoMemory) good bad program is = refl

  pub refuses : (text : List ℕ) (result : Result Checked AcceptStop) → IfOk result (λ checked. Accepts text checked.program) → IfErr result (λ s. IsStop text s)
      → (refusal : Refusal) → IsRefusedAs text refusal → MatchResult result (λ checked. ⊥) (λ s. s ≢ stop.NoMemory → s ≡ stop.Refused refusal)
  refuses text (Ok checked) good bad refusal is = not_both text checked.program refusal good is
  refuses text (Err (stop.Refused found)) good bad refusal is = λ _. ap (λ (r : Refusal). stop.Refused r) (one_refusal text found refusal bad is)
  refuses text (Err stop.NoMemory) good bad refusal is = λ other. absurd (other refl)

-- ---- each text is accepted or refused

-- want of memory is no fault of a text
abbrev Given : Outcome → Type 0
Given (o.Fault fault) = (refusal : Refusal) × (lexer_refusal fault ≡ Some refusal)
Given o.Gap = Unit {0}
Given (o.Token kind) = Unit {0}

means_given : (at : Cursor) (piece : Piece) (text : List ℕ) (outcome : Outcome) → Means at piece text outcome → Given outcome
means_given at _ text _ s.blank = tt
means_given at _ text _ s.line_comment = tt
means_given at _ text _ s.comment = tt
means_given at _ text _ s.open_comment = (refusal_at word.Comment at.line at.column, refl)
means_given at _ text _ (s.word is) = tt
means_given at _ text _ (s.literal is) = tt
means_given at _ text _ (s.neither one other) = (refusal_at word.Literal at.line at.column, refl)
means_given at _ text _ s.mark = tt
means_given at _ text _ s.text = tt
means_given at _ text _ s.open_text = (refusal_at word.Literal at.line at.column, refl)
means_given at _ text _ s.stray = (refusal_at word.Byte at.line at.column, refl)
means_given at _ text _ s.include = tt
means_given at _ text _ s.define = tt
means_given at _ text _ s.Means.no_directive = (refusal_at word.Directive at.line at.column, refl)

abbrev Refusable : LexFault → Type 0
Refusable fault = (refusal : Refusal) × (lexer_refusal fault ≡ Some refusal)

before_keeps : (token : Token) (rest : Scanned) → IfErr rest Refusable → IfErr (before token rest) Refusable
before_keeps token (Ok tokens) is = is
before_keeps token (Err fault) is = is

scans_refusable : (at : Cursor) (text : List ℕ) (scanned : Scanned) → Scans at text scanned → IfErr scanned Refusable
scans_refusable at text _ s.Scans.end = tt
scans_refusable at text scanned (s.Scans.gap front is tail) = scans_refusable _ _ scanned tail
scans_refusable at text _ (s.Scans.token {scanned = rest} front is tail) = before_keeps _ rest (scans_refusable _ _ rest tail)
scans_refusable at text _ (s.Scans.fault {piece = piece} {fault = fault} front is) = means_given at piece _ (o.Fault fault) is

abbrev Either : List ℕ → Type 0
Either text = ((program : Program) × Accepts text program) ⊎ ((refusal : Refusal) × IsRefusedAs text refusal)

by_program : (text : List ℕ) (ts : List Token) (program : Program) → length text ≤ longest → Scan text (Ok ts) → Tree text ts program → Either text
by_program text ts program short scan tree = elim (some_is_first (faults_of program)) [
  | inl none ↦ inl (program, record { short = short; tokens = ts; scan = scan; tree = tree; faultless = none })
  | inr first ↦ inr (fault_refusal first.0, t.check short scan tree first.1)
]

by_tokens : (text : List ℕ) (ts : List Token) → length text ≤ longest → Scan text (Ok ts) → Answer text ts → Either text
by_tokens text ts short scan (trees.tree program tree) = by_program text ts program short scan tree
by_tokens text ts short scan (trees.none line column none) = inr (refusal_at word.Item line column, t.item short scan none)

by_scan : (text : List ℕ) (scanned : Scanned) → length text ≤ longest → Scan text scanned → Either text
by_scan text (Ok ts) short scan = by_tokens text ts short scan (some_answer text ts)
by_scan text (Err fault) short scan = let given = scans_refusable s.start text (Err fault) scan in inr (given.0, t.lexer short scan given.1)

pub one_of_both : SomeScan → OneOfBoth
one_of_both some_scan text = dite (dec_le (length text) longest) (λ (short : length text ≤ longest). let some = some_scan text in by_scan text some.0 short some.1)
    (λ (long : length text ≤ longest → ⊥). inr (too_long, t.long (omega (arith, long))))

-- ---- places

with_place : (w : RefusalWord) (line column : ℕ) → has_place w ≡ true → IsTrue (has_place w) ↔ HasSome (Some (line, column))
with_place w line column is = (λ _. (line, column, refl), λ _. is)

fits_too : (one other : Refusal) → Some one ≡ Some other → IsTrue (has_place one.word) ↔ HasSome one.place → IsTrue (has_place other.word) ↔ HasSome other.place
fits_too one other same fits = let e : one ≡ other = cc in subst (λ (r : Refusal). IsTrue (has_place r.word) ↔ HasSome r.place) e fits

none_some : (refusal : Refusal) → None ≡ Some refusal → ⊥
none_some refusal is = cc

lexer_place : (fault : LexFault) (refusal : Refusal) → lexer_refusal fault ≡ Some refusal → IsTrue (has_place refusal.word) ↔ HasSome refusal.place
lexer_place (lexical.Byte l c) refusal is = fits_too (refusal_at word.Byte l c) refusal is (with_place word.Byte l c refl)
lexer_place (lexical.Literal l c) refusal is = fits_too (refusal_at word.Literal l c) refusal is (with_place word.Literal l c refl)
lexer_place (lexical.Comment l c) refusal is = fits_too (refusal_at word.Comment l c) refusal is (with_place word.Comment l c refl)
lexer_place (lexical.Directive l c) refusal is = fits_too (refusal_at word.Directive l c) refusal is (with_place word.Directive l c refl)
lexer_place lexical.NoMemory refusal is = absurd (none_some refusal is)

rule_place : (r : Rule) → has_place (word_of r) ≡ true
rule_place rule.Unknown = refl
rule_place rule.Twice = refl
rule_place rule.Kind = refl
rule_place rule.Arguments = refl
rule_place rule.Order = refl
rule_place rule.NoMain = refl
rule_place rule.Size = refl
rule_place rule.TooMany = refl
rule_place rule.Typing = refl

pub places_fit : PlacesFit
places_fit text _ (t.long more) = (λ is. absurd (let e : false ≡ true = is in cc), λ some. absurd (let e : None ≡ Some (some.0, some.1) = some.2 in cc))
places_fit text refusal (t.lexer {fault = fault} short scan is) = lexer_place fault refusal is
places_fit text _ (t.item {line = line} {column = column} short scan none) = with_place word.Item line column refl
places_fit text _ (t.check {fault = fault} short scan tree first) = with_place (word_of fault.rule) fault.spot.line fault.spot.column (rule_place fault.rule)

-- ---- a program of a text has few items

few_tokens : (from last : ℕ) (tokens : List Token) → Rise from tokens last → from + length tokens ≤ last
few_tokens from last _ (s.Rise.none less) = omega (arith, less)
few_tokens from last _ (s.Rise.more {token = token} {tokens = tokens} first some tail) = omega (arith, few_tokens token.end last tokens tail)

few_items : (ts : Tokens) (items : List Item) (rest : Tokens) → Run ts items rest → length items + length rest ≤ length ts
few_items ts _ rest pr.Run.done = omega arith
few_items ts _ rest (pr.Run.more {a = a} {item = x} {items = xs} first tail) = omega (arith, item_shorter ts x a first, few_items a xs rest tail)

pub few : (text : List ℕ) (tokens : List Token) (program : Program) → length text ≤ longest → Rise 0 tokens (length text) → Tree text tokens program → length program.items < 2 ^ 32
few text tokens program short rise tree =
    omega (arith, few_tokens 0 (length text) tokens rise, few_items (lexemes text tokens) program.items [] tree, length-map tokens (lexeme_of text))

-- ---- what stops is a refusal, or want of memory

pub lexer_stops : (text : List ℕ) (fault : LexFault) → length text ≤ longest → (fault ≢ lexical.NoMemory → Scan text (Err fault)) → IsStop text (stop_of (lexer_refusal fault))
lexer_stops text (lexical.Byte line column) short scan = t.lexer short (scan (λ e. cc)) refl
lexer_stops text (lexical.Literal line column) short scan = t.lexer short (scan (λ e. cc)) refl
lexer_stops text (lexical.Comment line column) short scan = t.lexer short (scan (λ e. cc)) refl
lexer_stops text (lexical.Directive line column) short scan = t.lexer short (scan (λ e. cc)) refl
lexer_stops text lexical.NoMemory short scan = tt

pub item_stops : (text : List ℕ) (tokens : List Token) (fault : SyntaxFault) (line column x y : ℕ) → x ≡ line → y ≡ column → length text ≤ longest → Scan text (Ok tokens) → IsFault text tokens fault → fault ≡ syntactic.Item line column
    → IsStop text (stop.Refused (refusal_at word.Item x y))
item_stops text tokens fault line column x y same_line same_column short scan none is = rw (same_line, same_column) (t.item short scan (subst (λ (f : SyntaxFault). IsFault text tokens f) is none))

first_stops : (text : List ℕ) (tokens : List Token) (program : Program) (reported : Option Fault) → length text ≤ longest → Scan text (Ok tokens) → Tree text tokens program
    → IsFirstOf (faults_of program) reported → IsStop text (stop_of (option_map fault_refusal reported))
first_stops text tokens program None short scan tree first = tt
first_stops text tokens program (Some fault) short scan tree first = t.check short scan tree first

pub check_stops : (text : List ℕ) (tokens : List Token) (program : Program) (fault : CheckFault) → length text ≤ longest → Scan text (Ok tokens) → Tree text tokens program → Refuses program fault
    → IsStop text (stop_of (check_refusal fault))
check_stops text tokens program fault short scan tree first = first_stops text tokens program (reported fault) short scan tree first
