-- What the definitions of counts and stops come to.
use Rattle.std.proofs.Common.{◌≡◌, ℕ, ◌+◌, ◌<◌, ◌≤◌, List, ◌++◌, length, take, drop, Some, arith, ap, inl, inr}
use Rattle.std.proofs.lemmas.Grind.{common_steps}
use Rattle.c11_io.specs.Whole.{LosesAtMost}
use Rattle.c11_io.specs.Laws.{NoRiseWhereItStays, OneCountStays, StopsBeforeTheLast, FaultTakesTheLimit, NoMemoryTakesTheLimit, TooLongTakesOneMore}

pub no_rise : NoRiseWhereItStays
no_rise count below rose = omega (arith, below, rose)

pub one_stays : OneCountStays
one_stays f f' e e' (inl (rose, same)) = inr same
one_stays f f' e e' (inr (same, rose)) = inl same

short : (before now bytes : List ℕ) (count : ℕ) → count < length bytes → now ≡ before ++ take count bytes → length now < length before + length bytes
short before now bytes count less is = grind (arith, common_steps, less, ap length is)

pub stops_before_the_last : StopsBeforeTheLast
stops_before_the_last before now bytes part = short before now bytes part.0 part.1 part.2

lost : (left now : List ℕ) (count : ℕ) → count ≤ length left → Some now ≡ Some (drop count left) → length left ≡ length now + count
lost left now count within is =
    let e : now ≡ drop count left = cc in
    grind (arith, common_steps, within, ap length e)

at_most : (left now : List ℕ) (most : ℕ) → LosesAtMost (Some left) (Some now) most → length left ≤ length now + most
at_most left now most loses = omega (arith, lost left now loses.0 loses.2.0 loses.2.1, loses.1)

pub fault_takes : FaultTakesTheLimit
fault_takes left now limit stops = at_most left now limit stops

pub no_memory_takes : NoMemoryTakesTheLimit
no_memory_takes left now limit stops = at_most left now limit stops

pub too_long_takes : TooLongTakesOneMore
too_long_takes left now limit stops = lost left now (limit + 1) stops.0 stops.1
