use Rattle.c11_commands.specs.Programs.{IsJudged, IsRefusedWith, accepted}
use Rattle.c11_commands.proofs.Judging.{good_as, stopped_so, fits, refused_with}
use Rattle.c11_commands.proofs.program.judge_text.Goals as goal

pub returns-in-Ok-clause-judged : goal.returns-in-Ok-clause-judged
returns-in-Ok-clause-judged c = accepted (record { accepted = c.in-Ok.ensures.accepted; is = c.in-Ok.ensures.checked })

pub refuse-requires : goal.refuse-requires
refuse-requires c = fits c.args.text.now c.in-Err-Refused.field-0 c.in-Err-Refused.why c.in-Err-Refused.ensures.refused c.in-Err-Refused.field-0-is

pub returns-in-Err-Refused-clause-judged : goal.returns-in-Err-Refused-clause-judged
returns-in-Err-Refused-clause-judged c =
    let why = c.in-Err-Refused.why in
    let is = stopped_so c.args.text.now c.in-Err-Refused.field-0 why c.in-Err-Refused.ensures.refused c.in-Err-Refused.field-0-is in
    good_as c.refuse.result (IsRefusedWith why) (IsJudged c.args.text.now) (λ found so. refused_with c.args.text.now why is found so) c.refuse.ensures.due
