-- What becomes of a text: it is accepted, or it is refused (ISO/IEC 9899:2011, 6.4 to 6.9, as far as the grammar goes).
use Rattle.std.specs.Prelude.{ℕ, ◌≡◌, ◌≤◌, ◌<◌, List, Ok, Err, Option, Some, None, option_map, length}
use Rattle.c11_ast.specs.declared.item.Program.{Program}
use Rattle.c11_lexer.specs.declared.token.Token.{Token}
use Rattle.c11_lexer.specs.declared.token.LexFault.{LexFault}
use Rattle.c11_lexer.specs.declared.token.LexFault.TheVariants as lexical
use Rattle.c11_lexer.specs.Scan.{Scan}
use Rattle.c11_parser.specs.Trees.{Tree, NoTree}
use Rattle.c11_check.specs.declared.fault.Rule.{Rule}
use Rattle.c11_check.specs.declared.fault.Rule.TheVariants as rule
use Rattle.c11_check.specs.declared.fault.Fault.{Fault}
use Rattle.c11_check.specs.declared.fault.CheckFault.{CheckFault}
use Rattle.c11_check.specs.Programs.{HasNoFault, IsFirst, faults_of, reported}
use Rattle.c11_report.specs.declared.refusal.RefusalWord.{RefusalWord}
use Rattle.c11_report.specs.declared.refusal.RefusalWord.TheVariants as word
use Rattle.c11_report.specs.declared.refusal.Refusal.{Refusal}
use Rattle.c11_accepts.specs.declared.whole.AcceptStop.{AcceptStop}
use Rattle.c11_accepts.specs.declared.whole.AcceptStop.TheVariants as stop

-- a text of more bytes is too long
abbrev pub longest : ℕ
longest = 65536

-- ---- the texts that are accepted

-- The text is accepted as this program: it is short enough, has tokens, which are the program, and the program has no fault.
pub record Accepts (text : List ℕ) (program : Program) : Type 0 where
  pub short : length text ≤ longest
  pub tokens : List Token
  pub scan : Scan text (Ok tokens)
  pub tree : Tree text tokens program
  pub faultless : HasNoFault program

-- ---- refusals

abbrev pub refusal_at : RefusalWord → ℕ → ℕ → Refusal
refusal_at word line column = record { word = word; place = Some (line, column) }

abbrev pub too_long : Refusal
too_long = record { word = word.Long; place = None }

-- the refusal of a text with this first fault; want of memory is none
abbrev pub lexer_refusal : LexFault → Option Refusal
lexer_refusal (lexical.Byte line column) = Some (refusal_at word.Byte line column)
lexer_refusal (lexical.Literal line column) = Some (refusal_at word.Literal line column)
lexer_refusal (lexical.Comment line column) = Some (refusal_at word.Comment line column)
lexer_refusal (lexical.Directive line column) = Some (refusal_at word.Directive line column)
lexer_refusal lexical.NoMemory = None

abbrev pub word_of : Rule → RefusalWord
word_of rule.Unknown = word.Unknown
word_of rule.Twice = word.Twice
word_of rule.Kind = word.Kind
word_of rule.Arguments = word.Arguments
word_of rule.Order = word.Order
word_of rule.NoMain = word.NoMain
word_of rule.Size = word.Size
word_of rule.TooMany = word.TooMany
word_of rule.Typing = word.Typing

-- the refusal of a program with this first fault
abbrev pub fault_refusal : Fault → Refusal
fault_refusal fault = refusal_at (word_of fault.rule) fault.spot.line fault.spot.column

-- The text is refused so. The first that applies counts: it is too long; it has a fault in its tokens; its tokens are no program, which
-- is said at the first token after the longest run of whole items; its program has faults, of which the first is said.
pub data IsRefusedAs (text : List ℕ) : Refusal → Type 0 where
  long : longest < length text → IsRefusedAs text too_long
  lexer : {fault : LexFault} {refusal : Refusal} → length text ≤ longest → Scan text (Err fault) → lexer_refusal fault ≡ Some refusal
      → IsRefusedAs text refusal
  item : {tokens : List Token} {line column : ℕ} → length text ≤ longest → Scan text (Ok tokens) → NoTree text tokens line column
      → IsRefusedAs text (refusal_at word.Item line column)
  check : {tokens : List Token} {program : Program} {fault : Fault} → length text ≤ longest → Scan text (Ok tokens) → Tree text tokens program
      → IsFirst (faults_of program) fault → IsRefusedAs text (fault_refusal fault)

-- ---- answers

-- no refusal is want of memory
abbrev pub stop_of : Option Refusal → AcceptStop
stop_of (Some refusal) = stop.Refused refusal
stop_of None = stop.NoMemory

abbrev pub check_refusal : CheckFault → Option Refusal
check_refusal fault = option_map fault_refusal (reported fault)

-- Unless memory ran out, the text is refused so.
abbrev pub IsStop : List ℕ → AcceptStop → Type 0
IsStop text (stop.Refused refusal) = IsRefusedAs text refusal
IsStop text stop.NoMemory = Unit {0}
