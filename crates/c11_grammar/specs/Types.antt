-- Types (C11 6.7.2). A relation `.. tokens part rest` says that the tokens are this part, and then the rest.
use Rattle.std.specs.Prelude.{Option, Some, None}
use Rattle.c11_num.specs.declared.value.CType.{CType}
use Rattle.c11_num.specs.declared.value.CType.TheVariants as c
use Rattle.c11_ast.specs.declared.place.Spot.{Spot}
use Rattle.c11_ast.specs.declared.expr.CastTo.{CastTo}
use Rattle.c11_ast.specs.declared.expr.CastTo.TheVariants as to
use Rattle.c11_grammar.specs.declared.token.Mark.TheVariants as m
use Rattle.c11_grammar.specs.Tokens.{Tokens, atomic_of, Sees, Takes, MayTake}

-- integer := 'int' | 'unsigned' ['int'] | 'long' ['int'] | 'unsigned' 'long' ['int']
pub data IsInteger : Tokens → CType → Tokens → Type 0 where
  int : {ts rest : Tokens} {p : Spot} → Takes m.Int ts p rest → IsInteger ts c.Int rest
  unsigned : {ts a rest : Tokens} {p : Spot} → Takes m.Unsigned ts p a → MayTake m.Int a rest → IsInteger ts c.Unsigned rest
  long : {ts a rest : Tokens} {p : Spot} → Takes m.Long ts p a → MayTake m.Int a rest → IsInteger ts c.Long rest
  unsigned_long : {ts a b rest : Tokens} {p q : Spot} → Takes m.Unsigned ts p a → Takes m.Long a q b → MayTake m.Int b rest → IsInteger ts c.ULong rest

-- atomic := 'atomic_int' | 'atomic_uint' | 'atomic_long' | 'atomic_ulong' | '_Atomic' integer | '_Atomic' '(' integer ')'
pub data IsAtomic : Tokens → CType → Tokens → Type 0 where
  by_word : {ts rest : Tokens} {ctype : CType} {p : Spot} → Sees atomic_of ts ctype p rest → IsAtomic ts ctype rest
  qualified : {ts a rest : Tokens} {ctype : CType} {p : Spot} → Takes m.Atomic ts p a → IsInteger a ctype rest → IsAtomic ts ctype rest
  specified : {ts a b c rest : Tokens} {ctype : CType} {p q r : Spot} → Takes m.Atomic ts p a → Takes m.LeftParen a q b → IsInteger b ctype c
      → Takes m.RightParen c r rest → IsAtomic ts ctype rest

-- what a cast leads to: integer | 'void' ['*']
pub data IsCastTo : Tokens → CastTo → Tokens → Type 0 where
  number : {ts rest : Tokens} {ctype : CType} → IsInteger ts ctype rest → IsCastTo ts (to.Number ctype) rest
  nothing : {ts rest : Tokens} {p : Spot} → Takes m.Void ts p rest → IsCastTo ts to.Void rest
  pointer : {ts a rest : Tokens} {p q : Spot} → Takes m.Void ts p a → Takes m.Star a q rest → IsCastTo ts to.VoidPointer rest

-- what a function answers: 'void' | integer
pub data IsAnswer : Tokens → Option CType → Tokens → Type 0 where
  nothing : {ts rest : Tokens} {p : Spot} → Takes m.Void ts p rest → IsAnswer ts None rest
  number : {ts rest : Tokens} {ctype : CType} → IsInteger ts ctype rest → IsAnswer ts (Some ctype) rest
