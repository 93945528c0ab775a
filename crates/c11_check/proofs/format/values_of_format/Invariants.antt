use Rattle.std.proofs.Common.{◌≡◌, ◌≤◌, drop}
use Rattle.c11_check.specs.Formats.{conversions, how_many, values_of_format}
use Rattle.c11_check.proofs.Counting.{and_more}
use Rattle.c11_check.proofs.format.values_of_format.Given as goal

abbrev pub invariant-loop-byte : goal.invariant-loop-byte
invariant-loop-byte l = record {
  within : l.values ≤ l.byte-index;
  counted : and_more l.values (how_many (conversions l.within (drop l.byte-index l.bytes))) ≡ values_of_format l.bytes;
}
