-- Where in an expression faults may stand.
use Rattle.std.specs.Prelude.{ℕ, Bool, true, false, List, [], ◌∷◌, ◌++◌, map, length, Option, Some, None, is_none, is_some, if◌then◌else◌}
use Rattle.c11_num.specs.Ranges.{TypedNumber}
use Rattle.c11_num.specs.declared.value.CType.TheVariants as c
use Rattle.c11_num.specs.declared.kind.BinaryOp.{BinaryOp}
use Rattle.c11_ast.specs.declared.place.Spot.{Spot}
use Rattle.c11_ast.specs.declared.place.Word.{Word}
use Rattle.c11_ast.specs.declared.expr.CastTo.{CastTo}
use Rattle.c11_ast.specs.declared.expr.CastTo.TheVariants as to
use Rattle.c11_ast.specs.declared.expr.Expr.{Expr}
use Rattle.c11_ast.specs.declared.expr.Arg.{Arg}
use Rattle.c11_ast.specs.declared.expr.Link.{Link}
use Rattle.c11_ast.specs.declared.expr.Target.{Target}
use Rattle.c11_ast.specs.declared.expr.Arg.TheOpen.{Arg-F, Expr-F, Link-F, Target-F}
use Rattle.c11_ast.specs.declared.expr.Arg.TheFolds.{fold-Expr, fold-Arg, fold-Link, fold-Target}
use Rattle.c11_check.specs.declared.entity.Entity.{Entity}
use Rattle.c11_check.specs.declared.entity.Entity.TheVariants as e
use Rattle.c11_check.specs.declared.library.Want.{Want}
use Rattle.c11_check.specs.declared.library.Want.TheVariants as want
use Rattle.c11_check.specs.declared.form.Form.{Form}
use Rattle.c11_check.specs.declared.form.Form.TheVariants as f
use Rattle.c11_check.specs.declared.fault.Fault.{Fault}
use Rattle.c11_check.specs.Library.{wants_of}
use Rattle.c11_check.specs.Formats.{values_of_format}
use Rattle.c11_check.specs.Scopes.{Scope, denoted}
use Rattle.c11_check.specs.Types.{call_type}
use Rattle.c11_check.specs.Faults.{unknown, misindexed, misread, misassigned, miscalled, misaddressed, misthreaded, misformed, miscounted, misprinted, stray, misordered, misfailed, misexpected, miscomputed, unvalued, is_handle, is_function}

-- What an expression or an argument is to what stands around it.
pub record Part : Type 0 where
  -- its first token
  pub first : Spot
  -- how it is written, as an argument
  pub form : Scope → Form
  -- the faults in it, wherever it stands
  pub faults : Scope → List Fault
  -- the fault of reading what it names, if it is a name: a handle, a function or a memory order may stand as an argument
  pub misread : Scope → List Fault
  -- the calls and casts whose values are used where its value is, and that have none
  pub voids : Scope → List Spot

-- a variable or an element
pub record Named : Type 0 where
  pub word : Word
  pub indexed : Bool
  -- the faults in the index
  pub within : Scope → List Fault

-- its value is not used
abbrev pub alone : Part → Scope → List Fault
alone part scope = part.faults scope ++ part.misread scope

-- its value is used
abbrev pub used : Part → Scope → List Fault
used part scope = alone part scope ++ unvalued (part.voids scope)

-- what is said of each name with or without an index, wherever it stands
abbrev pub naming : Named → Scope → List Fault
naming target scope = target.within scope ++ (unknown scope target.word ++ misindexed scope target.word target.indexed)

-- ---- arguments (C11 6.5.2.2)

abbrev pub is_order : Option Entity → Bool
is_order (Some (e.Order order)) = true
is_order _ = false

-- the argument is a handle, a function or a memory order, and is wanted as that
abbrev pub is_asked_for : Want → Form → Bool
is_asked_for want.Handle (f.Named spot entity) = is_handle entity
is_asked_for want.Handle (f.Element spot entity) = is_handle entity
is_asked_for want.ThreadFunction (f.Named spot entity) = is_function entity
is_asked_for (want.Order use_) (f.Named spot entity) = is_order entity
is_asked_for want.FailureOrder (f.Named spot entity) = is_order entity
is_asked_for _ _ = false

-- an argument of a call of `word`, in a place where this is wanted
abbrev pub argument : Word → Want → Part → Scope → List Fault
argument word w part scope = let form = part.form scope in
    part.faults scope ++ ((if is_asked_for w form then [] else part.misread scope) ++ (unvalued (part.voids scope)
    ++ (stray word w form ++ (misformed w form ++ (misaddressed w form ++ (misthreaded w form ++ misordered w form))))))

-- behind what is wanted only values are
abbrev pub arguments : Word → List Want → List Part → Scope → List Fault
arguments word wants [] scope = []
arguments word [] (part ∷ parts) scope = argument word want.Value part scope ++ arguments word [] parts scope
arguments word (w ∷ wants) (part ∷ parts) scope = argument word w part scope ++ arguments word wants parts scope

-- a function of the program wants values
abbrev pub wants_in_call : Option Entity → List Want
wants_in_call (Some (e.Library library)) = wants_of library
wants_in_call _ = []

abbrev pub forms_in : List Part → Scope → List Form
forms_in parts scope = map (λ (part : Part). part.form scope) parts

-- a call: what its arguments are together, and then each of them
abbrev pub call : Word → List Part → Scope → List Fault
call word parts scope = let entity = denoted scope word.name in let forms = forms_in parts scope in
    unknown scope word ++ (miscalled scope word ++ (miscounted scope word (length parts) ++ (misprinted scope word forms
    ++ (misfailed entity forms ++ (misexpected entity forms ++ arguments word (wants_in_call entity) parts scope)))))

-- a call of a `void` function has no value
abbrev pub call_voids : Word → Scope → List Spot
call_voids word scope = if is_none (call_type (denoted scope word.name) c.Int) then word.spot ∷ [] else []

-- ---- along the tree

abbrev pub no_faults : Scope → List Fault
no_faults scope = []

abbrev pub no_spots : Scope → List Spot
no_spots scope = []

abbrev pub other : Spot → Scope → Form
other spot scope = f.Other spot

-- an expression that is no name, and that always has a value
abbrev pub valued : Spot → (Scope → List Fault) → Part
valued spot faults = record { first = spot; form = other spot; faults = faults; misread = no_faults; voids = no_spots }

abbrev pub index_faults : Option Part → Scope → List Fault
index_faults None scope = []
index_faults (Some index) scope = used index scope

abbrev pub target_part : Target-F Part Part (Scope → List Fault) Named → Named
target_part target = record { word = target.word; indexed = is_some target.index; within = index_faults target.index }

abbrev pub link_part : Link-F Part Part (Scope → List Fault) Named → Scope → List Fault
link_part link = used link.right

abbrev pub links : List (Scope → List Fault) → Scope → List Fault
links [] scope = []
links (link ∷ rest) scope = link scope ++ links rest scope

abbrev pub address_form : Spot → Named → Scope → Form
address_form spot target scope = f.Address spot target.word.spot (denoted scope target.word.name)

abbrev pub name_form : Named → Scope → Form
name_form target scope = if target.indexed then f.Element target.word.spot (denoted scope target.word.name) else f.Named target.word.spot (denoted scope target.word.name)

abbrev pub text_form : Spot → List ℕ → Scope → Form
text_form spot bytes scope = f.Text spot (values_of_format bytes)

abbrev pub literal_form : Spot → TypedNumber → Scope → Form
literal_form spot value scope = f.Literal spot value

abbrev pub arg_part : Arg-F Part Part (Scope → List Fault) Named → Part
arg_part (Arg-F.Address spot target) = record { first = spot; form = address_form spot target; faults = naming target; misread = no_faults; voids = no_spots }
arg_part (Arg-F.Text spot bytes) = record { first = spot; form = text_form spot bytes; faults = no_faults; misread = no_faults; voids = no_spots }
arg_part (Arg-F.Value expr) = expr

abbrev pub assigned : Named → Option BinaryOp → Part → Scope → List Fault
assigned target op value scope = naming target scope ++ (misassigned scope target.word ++ (miscomputed scope target.word op ++ used value scope))

abbrev pub stepped : Named → Scope → List Fault
stepped target scope = naming target scope ++ misassigned scope target.word

abbrev pub read : Named → Scope → List Fault
read target scope = misread scope target.word

-- `(void)` uses no value
abbrev pub cast : CastTo → Part → Scope → List Fault
cast to.Void inner = alone inner
cast (to.Number ctype) inner = used inner
cast to.VoidPointer inner = used inner

abbrev pub cast_voids : CastTo → Spot → Scope → List Spot
cast_voids to.Void spot scope = spot ∷ []
cast_voids (to.Number ctype) spot scope = []
cast_voids to.VoidPointer spot scope = []

-- the value of `?:` is that of a branch
abbrev pub branches : Part → Part → Part → Scope → List Fault
branches test one another scope = used test scope ++ (alone one scope ++ alone another scope)

abbrev pub branch_voids : Part → Part → Scope → List Spot
branch_voids one another scope = one.voids scope ++ another.voids scope

abbrev pub chained : Part → List (Scope → List Fault) → Scope → List Fault
chained first rest scope = used first scope ++ links rest scope

abbrev pub expr_part : Expr-F Part Part (Scope → List Fault) Named → Part
expr_part (Expr-F.Assign target op op_spot value) = valued target.word.spot (assigned target op value)
expr_part (Expr-F.Cond test one another) = record { first = test.first; form = other test.first; faults = branches test one another; misread = no_faults; voids = branch_voids one another }
expr_part (Expr-F.Chain first rest) = valued first.first (chained first rest)
expr_part (Expr-F.Prefix spot op inner) = valued spot (used inner)
expr_part (Expr-F.Step spot op_spot target up before) = valued spot (stepped target)
expr_part (Expr-F.Cast spot to inner) = record { first = spot; form = other spot; faults = cast to inner; misread = no_faults; voids = cast_voids to spot }
expr_part (Expr-F.Call word args) = record { first = word.spot; form = other word.spot; faults = call word args; misread = no_faults; voids = call_voids word }
expr_part (Expr-F.Literal spot value) = record { first = spot; form = literal_form spot value; faults = no_faults; misread = no_faults; voids = no_spots }
expr_part (Expr-F.Read target) = record { first = target.word.spot; form = name_form target; faults = naming target; misread = read target; voids = no_spots }
expr_part (Expr-F.Paren spot inner) = record { first = spot; form = other spot; faults = alone inner; misread = no_faults; voids = inner.voids }

abbrev pub part_of : Expr → Part
part_of = fold-Expr Part Part (Scope → List Fault) Named arg_part expr_part link_part target_part

abbrev pub part_of_arg : Arg → Part
part_of_arg = fold-Arg Part Part (Scope → List Fault) Named arg_part expr_part link_part target_part

abbrev pub faults_of_link : Link → Scope → List Fault
faults_of_link = fold-Link Part Part (Scope → List Fault) Named arg_part expr_part link_part target_part

abbrev pub named_by : Target → Named
named_by = fold-Target Part Part (Scope → List Fault) Named arg_part expr_part link_part target_part
