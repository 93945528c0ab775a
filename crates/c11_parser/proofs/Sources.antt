-- Trees of a source.
use Rattle.std.proofs.Common.{◌≡◌, ◌≢◌, ◌≤◌, ℕ, Result, Ok, Err, IfOk, IfErr, MatchResult, List, length, All, refl, ap, arith}
use Rattle.std.specs.List.{AllByRecursion}
use Rattle.std.proofs.lemmas.List.Elements.{All-from_recursion}
use Rattle.c11_lexer.specs.declared.token.Token.{Token}
use Rattle.c11_lexer.specs.Scan.{Rise}
use Rattle.c11_lexer.specs.Scan as scan
use Rattle.c11_ast.specs.declared.place.Spot.{Spot}
use Rattle.c11_ast.specs.declared.item.Program.{Program}
use Rattle.c11_ast.specs.declared.item.Item.{Item}
use Rattle.c11_grammar.specs.Laws as law
use Rattle.c11_grammar.proofs.Runs as runs
use Rattle.c11_parser.specs.declared.whole.SyntaxFault.{SyntaxFault}
use Rattle.c11_parser.specs.declared.whole.SyntaxFault.TheVariants as fault
use Rattle.c11_parser.specs.Sorting.{IsInside, lexemes}
use Rattle.c11_parser.specs.Trees.{Tree, NoTree, IsFault, OneTree, OnePlace, Answer, SomeAnswer}
use Rattle.c11_parser.specs.Trees as trees

rise_ends : (from last : ℕ) (tokens : List Token) → Rise from tokens last → from ≤ last
rise_ends from last tokens (scan.Rise.none less) = less
rise_ends from last tokens (scan.Rise.more {token = t} {tokens = others} first some tail) = omega (arith, rise_ends t.end last others tail)

inside_each : (source : List ℕ) (from last : ℕ) (tokens : List Token) → Rise from tokens last → last ≤ length source → AllByRecursion (IsInside source) tokens
inside_each source from last tokens (scan.Rise.none less) room = tt
inside_each source from last tokens (scan.Rise.more {token = first} {tokens = others} begin some tail) room =
    (record { rises = omega arith; within = omega (arith, rise_ends first.end last others tail) }, inside_each source first.end last others tail room)

-- What rises to the end of a source lies inside it.
pub rise_inside : (source : List ℕ) (tokens : List Token) → Rise 0 tokens (length source) → All (IsInside source) tokens
rise_inside source tokens rise = All-from_recursion (IsInside source) tokens (inside_each source 0 (length source) tokens rise (omega arith))

pub one_tree : OneTree
one_tree source tokens one other a b = ap (λ (items : List Item). record { items = items }) (runs.one_tree (lexemes source tokens) one.items other.items a b)

pub some_answer : SomeAnswer
some_answer source tokens = by_outcome source tokens (runs.some_outcome (lexemes source tokens))
  where
    by_outcome : (source : List ℕ) (tokens : List Token) → law.Outcome (lexemes source tokens) → Answer source tokens
    by_outcome source tokens (law.is_program items run) = trees.tree (record { items = items }) run
    by_outcome source tokens (law.is_none place none) = trees.none place.line place.column none

-- Where there is a program, memory alone stands in the way.
pub only_memory : (source : List ℕ) (tokens : List Token) (program : Program) (error : SyntaxFault) → Tree source tokens program → IsFault source tokens error → error ≡ fault.NoMemory
only_memory source tokens program (fault.Item line column) tree none = absurd (none.none program.items tree)
only_memory source tokens program fault.NoMemory tree none = refl

-- What is answered is the program, where there is one.
pub exact : (source : List ℕ) (tokens : List Token) (result : Result Program SyntaxFault) → IfOk result (λ answer. Tree source tokens answer) → IfErr result (λ error. IsFault source tokens error)
    → (program : Program) → Tree source tokens program → MatchResult result (λ answer. answer ≡ program) (λ error. error ≡ fault.NoMemory)
exact source tokens (Ok answer) tree none program there = one_tree source tokens answer program tree there
exact source tokens (Err error) tree none program there = only_memory source tokens program error there none

same_place : (source : List ℕ) (tokens : List Token) (line column l c : ℕ) → NoTree source tokens line column → NoTree source tokens l c → fault.Item line column ≡ fault.Item l c
same_place source tokens line column l c a b =
    ap (λ (s : Spot). fault.Item s.line s.column) (runs.one_place (lexemes source tokens) (record { line = line; column = column }) (record { line = l; column = c }) a b)

pub one_place : OnePlace
one_place source tokens line column l c a b =
    let same = runs.one_place (lexemes source tokens) (record { line = line; column = column }) (record { line = l; column = c }) a b in
    (ap (λ (s : Spot). s.line) same, ap (λ (s : Spot). s.column) same)

-- Where there is none, its place is answered.
pub refused : (source : List ℕ) (tokens : List Token) (result : Result Program SyntaxFault) → IfOk result (λ answer. Tree source tokens answer) → IfErr result (λ error. IsFault source tokens error)
    → (line column : ℕ) → NoTree source tokens line column → MatchResult result (λ answer. ⊥) (λ error. error ≢ fault.NoMemory → error ≡ fault.Item line column)
refused source tokens (Ok answer) tree none line column there = there.none answer.items tree
refused source tokens (Err (fault.Item l c)) tree none line column there = λ other. same_place source tokens l c line column none there
refused source tokens (Err fault.NoMemory) tree none line column there = λ other. absurd (other refl)
