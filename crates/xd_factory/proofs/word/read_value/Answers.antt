use Rattle.xd_factory.proofs.Readings.{unread}
use Rattle.xd_factory.proofs.word.read_value.Goals as goal

pub returns-in-Err-Bad : goal.returns-in-Err-Bad
returns-in-Err-Bad c = unread _ _ _ _ c.in-Err-Bad.field-0-is c.in-Err-Bad.ensures.refused c.in-Err-Bad.ensures.only c.in-Err-Bad.ensures.faults
