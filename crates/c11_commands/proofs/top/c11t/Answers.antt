use Rattle.std.specs.Prelude.{map, string_bytes}
use Rattle.std.proofs.Common.{sym, ◌∙◌, Global}
use Rattle.c11_commands.proofs.Settings.{reading_bound}
use Rattle.c11_commands.proofs.top.c11t.Goals as goal

pub execute-requires : goal.execute-requires
execute-requires g c =
    let good = reading_bound (map (string_bytes {Z = Global}) c.args.words.now) c.in-Some.command (sym c.read_words.ensures ∙ c.in-Some.is) in
    (c.type_bounds.sync-R, (c.type_bounds.sync-G, good))
