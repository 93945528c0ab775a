-- The faults, in nine groups, one short clause for each. Where in a tree a clause applies is said in Expressions, Statements and Programs.
use Rattle.std.specs.Prelude.{ℕ, ◌==◌, Bool, true, false, ◌||◌, ◌&&◌, not, List, [], ◌∷◌, ◌++◌, map, length, Option, Some, None, is_some, is_none, nat_lt, ℤ, pos, negsuc}
use Rattle.c11_num.specs.Ranges.{TypedNumber}
use Rattle.c11_num.specs.Arithmetic.{place_of}
use Rattle.c11_num.specs.declared.value.CType.{CType}
use Rattle.c11_num.specs.declared.value.CType.TheVariants as c
use Rattle.c11_num.specs.declared.kind.BinaryOp.{BinaryOp}
use Rattle.c11_num.specs.declared.kind.BinaryOp.TheVariants as b
use Rattle.c11_ast.specs.declared.place.Spot.{Spot}
use Rattle.c11_ast.specs.declared.place.Word.{Word}
use Rattle.c11_ast.specs.declared.place.Known.{Known}
use Rattle.c11_ast.specs.declared.place.Known.TheVariants as known
use Rattle.c11_ast.specs.declared.place.Constant.{Constant}
use Rattle.c11_ast.specs.declared.place.Place.{Place}
use Rattle.c11_ast.specs.declared.item.Start.{Start}
use Rattle.c11_ast.specs.declared.item.Start.TheVariants as start
use Rattle.c11_events.specs.Orders.{is_allowed, is_allowed_failure}
use Rattle.c11_check.specs.declared.entity.Entity.{Entity}
use Rattle.c11_check.specs.declared.entity.Entity.TheVariants as e
use Rattle.c11_check.specs.declared.entity.Signature.{Signature}
use Rattle.c11_check.specs.declared.library.Library.TheVariants as l
use Rattle.c11_check.specs.declared.library.LibraryConstant.TheVariants as k
use Rattle.c11_check.specs.declared.library.Want.{Want}
use Rattle.c11_check.specs.declared.library.Want.TheVariants as want
use Rattle.c11_check.specs.declared.form.Form.{Form}
use Rattle.c11_check.specs.declared.form.Form.TheVariants as f
use Rattle.c11_check.specs.declared.fault.Rule.{Rule}
use Rattle.c11_check.specs.declared.fault.Rule.TheVariants as rule
use Rattle.c11_check.specs.declared.fault.Fault.{Fault}
use Rattle.c11_check.specs.Library.{library_entity, wants_of}
use Rattle.c11_check.specs.Scopes.{Scope, denoted, is_declared_here, value_of_constant, elements, passes}

abbrev pub fault_at : Rule → Spot → Fault
fault_at rule spot = record { rule = rule; spot = spot }

-- the fault where the test holds
abbrev pub when : Bool → Rule → Spot → List Fault
when true rule spot = fault_at rule spot ∷ []
when false rule spot = []

-- ---- 1 Unknown: a name is used that is neither declared before it nor of the library

abbrev pub unknown : Scope → Word → List Fault
unknown scope word = when (is_none (denoted scope word.name)) rule.Unknown word.spot

-- ---- 2 Twice: a name is declared that its scope declares already, or that is of the library or of a `#define` in force

abbrev pub is_define : Option Entity → Bool
is_define (Some (e.Defined value)) = true
is_define _ = false

abbrev pub is_taken : Scope → List ℕ → Bool
is_taken scope name = is_declared_here scope name || (is_some (library_entity name) || is_define (denoted scope name))

abbrev pub twice : Scope → Word → List Fault
twice scope word = when (is_taken scope word.name) rule.Twice word.spot

-- ---- 3 Kind. Of a name that is unknown none of these says anything.

abbrev pub is_array : Entity → Bool
is_array (e.Local ctype place size) = is_some size
is_array (e.Handle place size) = is_some size
is_array (e.Atomic ctype cell size) = is_some size
is_array (e.Plain ctype cell size) = is_some size
is_array (e.Mutex mutex size) = is_some size
is_array _ = false

-- an array stands without an index, or an index on no array
abbrev pub is_misindexed : Option Entity → Bool → Bool
is_misindexed None indexed = false
is_misindexed (Some entity) true = not (is_array entity)
is_misindexed (Some entity) false = is_array entity

abbrev pub misindexed : Scope → Word → Bool → List Fault
misindexed scope word indexed = when (is_misindexed (denoted scope word.name) indexed) rule.Kind word.spot

-- what is read is no variable, no `#define` name and no constant of the library, or is a memory order
abbrev pub is_misread : Option Entity → Bool
is_misread (Some (e.Handle place size)) = true
is_misread (Some (e.Mutex mutex size)) = true
is_misread (Some (e.Function function signature)) = true
is_misread (Some (e.Library library)) = true
is_misread (Some (e.Order order)) = true
is_misread _ = false

abbrev pub misread : Scope → Word → List Fault
misread scope word = when (is_misread (denoted scope word.name)) rule.Kind word.spot

-- what is assigned or stepped is no variable
abbrev pub is_misassigned : Option Entity → Bool
is_misassigned None = false
is_misassigned (Some (e.Local ctype place size)) = false
is_misassigned (Some (e.Atomic ctype cell size)) = false
is_misassigned (Some (e.Plain ctype cell size)) = false
is_misassigned _ = true

abbrev pub misassigned : Scope → Word → List Fault
misassigned scope word = when (is_misassigned (denoted scope word.name)) rule.Kind word.spot

-- what is called is no function
abbrev pub is_miscalled : Option Entity → Bool
is_miscalled None = false
is_miscalled (Some (e.Function function signature)) = false
is_miscalled (Some (e.Library library)) = false
is_miscalled _ = true

abbrev pub miscalled : Scope → Word → List Fault
miscalled scope word = when (is_miscalled (denoted scope word.name)) rule.Kind word.spot

abbrev pub is_int : CType → Bool
is_int c.Int = true
is_int _ = false

-- the object behind an `&` is the one that is wanted there
abbrev pub is_object_for : Want → Entity → Bool
is_object_for want.Atomic (e.Atomic ctype cell size) = true
is_object_for want.Expected (e.Local ctype place size) = true
is_object_for want.Mutex (e.Mutex mutex size) = true
is_object_for want.NewHandle (e.Handle place size) = true
is_object_for want.Answer (e.Local ctype place size) = is_int ctype
is_object_for _ _ = false

-- an `&` and an object are wanted, or may stand there
abbrev pub takes_address : Want → Bool
takes_address want.Atomic = true
takes_address want.Expected = true
takes_address want.Mutex = true
takes_address want.NewHandle = true
takes_address want.Answer = true
takes_address _ = false

abbrev pub is_wrong_object : Want → Option Entity → Bool
is_wrong_object w None = false
is_wrong_object w (Some entity) = takes_address w && not (is_object_for w entity)

-- an object of the wrong kind stands behind `&`
abbrev pub misaddressed : Want → Form → List Fault
misaddressed w (f.Address spot name entity) = when (is_wrong_object w entity) rule.Kind name
misaddressed w _ = []

-- a thread function answers `int` and has one parameter, which is a `void *`
abbrev pub answers_int : Option CType → Bool
answers_int (Some ctype) = is_int ctype
answers_int None = false

abbrev pub is_thread_function : Signature → Bool
is_thread_function signature = answers_int signature.answers && signature.pointer

abbrev pub is_misthreaded : Option Entity → Bool
is_misthreaded (Some (e.Function function signature)) = not (is_thread_function signature)
is_misthreaded _ = false

abbrev pub misthreaded : Want → Form → List Fault
misthreaded want.ThreadFunction (f.Named spot entity) = when (is_misthreaded entity) rule.Kind spot
misthreaded _ _ = []

abbrev pub is_handle : Option Entity → Bool
is_handle (Some (e.Handle place size)) = true
is_handle _ = false

abbrev pub is_function : Option Entity → Bool
is_function (Some (e.Function function signature)) = true
is_function _ = false

abbrev pub is_mutex_kind : Option Entity → Bool
is_mutex_kind (Some (e.Constant k.PlainMutex)) = true
is_mutex_kind _ = false

abbrev pub is_null : Option Entity → Bool
is_null (Some (e.Constant k.Null)) = true
is_null _ = false

abbrev pub is_zero_number : ℤ → Bool
is_zero_number (pos n) = n == 0
is_zero_number (negsuc n) = false

-- the literal `0`, in any spelling that has the type `int`
abbrev pub is_zero : TypedNumber → Bool
is_zero value = is_int value.ctype && is_zero_number value.number

-- Where an `&` and an object, a handle, a function, `mtx_plain`, `NULL` or `0` is wanted, the argument has such a form. An array or
-- an index too many is a fault of its own, and so is an order that is missing.
abbrev pub has_form : Want → Form → Bool
has_form want.Value form = true
has_form want.Format form = true
has_form (want.Order use_) form = true
has_form want.FailureOrder form = true
has_form want.Handle (f.Named spot entity) = is_handle entity
has_form want.Handle (f.Element spot entity) = is_handle entity
has_form want.ThreadFunction (f.Named spot entity) = is_function entity
has_form want.MutexKind (f.Named spot entity) = is_mutex_kind entity
has_form want.Answer (f.Named spot entity) = is_null entity
has_form want.Answer (f.Literal spot value) = is_zero value
has_form w (f.Address spot name entity) = takes_address w
has_form _ _ = false

abbrev pub first_token : Form → Spot
first_token (f.Address spot name entity) = spot
first_token (f.Text spot values) = spot
first_token (f.Named spot entity) = spot
first_token (f.Element spot entity) = spot
first_token (f.Literal spot value) = spot
first_token (f.Other spot) = spot

-- an argument has none of the forms that are wanted
abbrev pub misformed : Want → Form → List Fault
misformed w form = when (not (has_form w form)) rule.Kind (first_token form)

-- a start in braces stands on no array, or one without braces on an array
abbrev pub is_misstarted : Option Constant → Start → Bool
is_misstarted size start.Absent = false
is_misstarted size (start.One constant) = is_some size
is_misstarted size (start.Brace constants) = is_none size

abbrev pub misstarted : Place → Start → List Fault
misstarted place start = when (is_misstarted place.size start) rule.Kind place.word.spot

-- a local is an array and has a start, which is one without braces
abbrev pub misinitialized : Place → Bool → List Fault
misinitialized place has_start = when (is_some place.size && has_start) rule.Kind place.word.spot

-- a constant is a name that is no `#define` name and no constant of the library, or is a memory order
abbrev pub is_misconstant : Option Entity → Bool
is_misconstant None = false
is_misconstant (Some (e.Defined value)) = false
is_misconstant (Some (e.Constant constant)) = false
is_misconstant _ = true

abbrev pub misconstant : Scope → Known → List Fault
misconstant scope (known.Literal value) = []
misconstant scope (known.Named word) = unknown scope word ++ when (is_misconstant (denoted scope word.name)) rule.Kind word.spot

-- `break` or `continue` stands outside of a loop
abbrev pub outside : Bool → Spot → List Fault
outside in_loop spot = when (not in_loop) rule.Kind spot

-- ---- 4 Arguments, at the name that is called

abbrev pub is_print : Option Entity → Bool
is_print (Some (e.Library l.Print)) = true
is_print _ = false

-- how many arguments a call takes; none where it may be any number, or where nothing can be called
abbrev pub wanted_count : Option Entity → Option ℕ
wanted_count (Some (e.Function function signature)) = Some signature.params
wanted_count (Some (e.Library l.Print)) = None
wanted_count (Some (e.Library library)) = Some (length (wants_of library))
wanted_count _ = None

abbrev pub differs : Option ℕ → ℕ → Bool
differs None count = false
differs (Some wanted) count = not (wanted == count)

-- a call has the wrong number of arguments
abbrev pub miscounted : Scope → Word → ℕ → List Fault
miscounted scope word count = when (differs (wanted_count (denoted scope word.name)) count) rule.Arguments word.spot

abbrev pub fits : Option ℕ → ℕ → Bool
fits None count = false
fits (Some values) count = (values == count) && nat_lt count 9

-- a text comes first, without other conversions; as many values follow as it asks for, and 8 at most
abbrev pub fits_format : List Form → Bool
fits_format (f.Text spot values ∷ rest) = fits values (length rest)
fits_format _ = false

abbrev pub misprinted : Scope → Word → List Form → List Fault
misprinted scope word forms = when (is_print (denoted scope word.name) && not (fits_format forms)) rule.Arguments word.spot

-- a text stands elsewhere, or an `&` where no object is wanted
abbrev pub is_stray : Want → Form → Bool
is_stray w (f.Address spot name entity) = not (takes_address w)
is_stray want.Format (f.Text spot values) = false
is_stray w (f.Text spot values) = true
is_stray w _ = false

abbrev pub stray : Word → Want → Form → List Fault
stray word w form = when (is_stray w form) rule.Arguments word.spot

-- ---- 5 Order

-- where a memory order is wanted there is one, and it is allowed
abbrev pub has_order : Want → Form → Bool
has_order (want.Order use_) (f.Named spot (Some (e.Order order))) = is_allowed use_ order
has_order (want.Order use_) _ = false
has_order want.FailureOrder (f.Named spot (Some (e.Order order))) = true
has_order want.FailureOrder _ = false
has_order _ _ = true

abbrev pub misordered : Want → Form → List Fault
misordered w form = when (not (has_order w form)) rule.Order (first_token form)

-- the order of a compare-exchange that fails is allowed with that of its success
abbrev pub is_misfailed : Form → Form → Bool
is_misfailed (f.Named spot (Some (e.Order success))) (f.Named other (Some (e.Order failure))) = not (is_allowed_failure success failure)
is_misfailed _ _ = false

abbrev pub misfailed : Option Entity → List Form → List Fault
misfailed (Some (e.Library (l.CompareExchange weak true))) (object ∷ expected ∷ value ∷ success ∷ failure ∷ rest) =
    when (is_misfailed success failure) rule.Order (first_token failure)
misfailed _ _ = []

-- ---- 7 Size, at the name of the array; 6, NoMain, is in Programs

-- A size is 0 or less, or more than 65,536, or there are more starts. Of a size without a value this says nothing.
abbrev pub is_missized : Option TypedNumber → ℕ → Bool
is_missized None starts = false
is_missized (Some value) starts = let n = elements (Some value) in (n == 0) || (nat_lt 65536 n || nat_lt n starts)

abbrev pub size_value : Scope → Option Constant → Option TypedNumber
size_value scope None = None
size_value scope (Some size) = value_of_constant scope size

abbrev pub missized : Scope → Place → ℕ → List Fault
missized scope place starts = when (is_missized (size_value scope place.size) starts) rule.Size place.word.spot

-- ---- 8 TooMany: this declaration passes a limit

abbrev pub too_many : ℕ → ℕ → Option ℕ → Word → List Fault
too_many limit count size word = when (passes limit count size) rule.TooMany word.spot

-- ---- 9 Typing

-- the value of a `void` function or of a cast to `void` is used
abbrev pub unvalued : List Spot → List Fault
unvalued spots = map (fault_at rule.Typing) spots

-- `return` has a value in a `void` function, or none elsewhere
abbrev pub misreturned : Option CType → Spot → Bool → List Fault
misreturned None spot has_value = when has_value rule.Typing spot
misreturned (Some ctype) spot has_value = when (not has_value) rule.Typing spot

abbrev pub is_not_atomic : Option BinaryOp → Bool
is_not_atomic (Some b.Mul) = true
is_not_atomic (Some b.Div) = true
is_not_atomic (Some b.Rem) = true
is_not_atomic (Some b.Shl) = true
is_not_atomic (Some b.Shr) = true
is_not_atomic _ = false

abbrev pub is_atomic : Option Entity → Bool
is_atomic (Some (e.Atomic ctype cell size)) = true
is_atomic _ = false

-- `*=`, `/=`, `%=`, `<<=` or `>>=` is made on an atomic object
abbrev pub miscomputed : Scope → Word → Option BinaryOp → List Fault
miscomputed scope word op = when (is_atomic (denoted scope word.name) && is_not_atomic op) rule.Typing word.spot

abbrev pub differ : CType → CType → Bool
differ a b = not (place_of a == place_of b)

-- the local with the expected value has another type than the atomic object
abbrev pub is_misexpected : Form → Form → Bool
is_misexpected (f.Address spot name (Some (e.Atomic ctype cell size))) (f.Address other local (Some (e.Local expected place elements))) = differ ctype expected
is_misexpected _ _ = false

abbrev pub misexpected : Option Entity → List Form → List Fault
misexpected (Some (e.Library (l.CompareExchange weak explicit))) (object ∷ expected ∷ rest) = when (is_misexpected object expected) rule.Typing (first_token expected)
misexpected _ _ = []
