use Rattle.std.proofs.Common.{List, ℕ, subst, sym, arith}
use Rattle.c11_accepts.specs.Texts.{long, too_long, IsRefusedAs}
use Rattle.c11_io.specs.declared.whole.ReadStop.{ReadStop}
use Rattle.c11_io.specs.Whole.{ReadsWhole, StopsReading}
use Rattle.c11_commands.specs.Answers.{IsRead}
use Rattle.c11_commands.specs.Programs.{IsHeld, IsJudged, IsRefusedWith}
use Rattle.c11_commands.proofs.Judging.{good_as, long_text, refused_with}
use Rattle.c11_commands.proofs.program.read_program.Goals as goal

pub returns-in-Ok-clause-held : goal.returns-in-Ok-clause-held
returns-in-Ok-clause-held g c =
    let left = g.S.Source.left c.args.source.now in
    let now = g.S.Source.left c.read_all.new.source in
    let text = c.as_slice.result.now in
    let whole = subst (λ (bytes : List ℕ). ReadsWhole left now 65536 bytes) (sym c.as_slice.ensures.value) c.in-Ok.ensures.whole in
    let read : IsRead 65536 text left now = record { long = λ more. absurd (omega (arith, more, whole.short)); short = λ few. whole.none_left } in
    good_as c.judge_text.result (IsJudged text) (IsHeld left now) (λ found is. record { text = text; held = whole.all; read = read; judges = is }) c.judge_text.ensures.judged

pub returns-in-Err-TooLong-clause-held : goal.returns-in-Err-TooLong-clause-held
returns-in-Err-TooLong-clause-held g c =
    let left = g.S.Source.left c.args.source.now in
    let now = g.S.Source.left c.read_all.new.source in
    let gone = subst (λ (s : ReadStop). StopsReading left now 65536 s) c.in-Err-TooLong.field-0-is c.in-Err-TooLong.ensures.stops in
    let text = long_text 65536 left now gone in
    let why : IsRefusedAs text.0 too_long = long (omega (arith, text.1.1.0)) in
    good_as c.refuse.result (IsRefusedWith too_long) (IsHeld left now)
    (λ found so. record { text = text.0; held = text.1.0; read = text.1.1.1; judges = refused_with text.0 too_long why found so }) c.refuse.ensures.due
