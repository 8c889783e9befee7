use Rattle.std.proofs.Common.{refl}
use Rattle.xd_reader.proofs.Listening.{steps_ended, steps_fault, steps_more, steps_whole}
use Rattle.xd_reader.proofs.reading.read_next.Goals as goal

pub returns-in-Ok-More-clause-steps : goal.returns-in-Ok-More-clause-steps
returns-in-Ok-More-clause-steps g c = λ bytes taken l.
    steps_more c.args.framer.now c.pull.new.self _ _ bytes taken l c.pull.ensures.none_waits _ _ c.in-Ok-More.field-0 c.in-Ok-More.field-0-is c.in-Ok-More.ensures.pulls c.in-Ok-More.ensures.lasts refl

pub returns-in-Ok-Whole-clause-steps : goal.returns-in-Ok-Whole-clause-steps
returns-in-Ok-Whole-clause-steps g c = λ bytes taken l.
    steps_whole c.args.framer.now c.pull.new.self _ _ bytes taken l c.pull.ensures.none_waits _ _ c.in-Ok-Whole.field-0 c.in-Ok-Whole.message c.in-Ok-Whole.field-0-is c.in-Ok-Whole.ensures.pulls c.in-Ok-Whole.ensures.lasts c.put.ensures.put

pub returns-in-Ok-Ended-clause-steps : goal.returns-in-Ok-Ended-clause-steps
returns-in-Ok-Ended-clause-steps g c = λ bytes taken l.
    steps_ended c.args.framer.now c.pull.new.self _ _ bytes taken l c.pull.ensures.none_waits _ _ c.in-Ok-Ended.field-0 c.in-Ok-Ended.field-0-is c.in-Ok-Ended.ensures.pulls c.in-Ok-Ended.ensures.lasts refl

pub returns-in-Err-clause-steps : goal.returns-in-Err-clause-steps
returns-in-Err-clause-steps g c = λ bytes taken l.
    steps_fault c.args.framer.now c.pull.new.self _ _ bytes taken l c.pull.ensures.none_waits _ _ c.in-Err.fault c.stop_of.result c.stop_of.ensures c.in-Err.ensures.pulls c.in-Err.ensures.lasts refl
