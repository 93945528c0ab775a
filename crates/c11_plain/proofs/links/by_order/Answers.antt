use Rattle.c11_plain.proofs.Filling.{if_ok, or_of, then_of}
use Rattle.c11_plain.proofs.links.by_order.Goals as goal

pub returns : goal.returns
returns c =
    let hb = c.requires.all.before in
    let load = c.in_ok-before.ensures in
    let back = c.in_ok-behind.ensures in
    let read_write = then_of load hb c.in_ok-read_write.ensures in
    if_ok c.or-3.result c.or-3.ensures (λ t k. or_of
    (or_of hb (then_of hb back c.in_ok-write_read.ensures) c.in_ok-from_write.ensures)
    (or_of read_write (then_of read_write back c.in_ok-read_read.ensures) c.in_ok-from_read.ensures) k)
