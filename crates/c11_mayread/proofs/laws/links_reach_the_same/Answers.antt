use Rattle.c11_mayread.proofs.Agreeing.{within_reach, reach_made, agrees_within}
use Rattle.c11_mayread.proofs.laws.links_reach_the_same.Goals as goal

pub returns : goal.returns
returns c = λ m events well reads agrees cell a b store.
    (λ r. within_reach m events reads (agrees_within m events well agrees) cell a b r store, λ r. reach_made m events well agrees cell a b r)
