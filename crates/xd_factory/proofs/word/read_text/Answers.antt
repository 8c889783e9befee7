use Rattle.xd_factory.proofs.Readings.{text_read, no_text, no_value}
use Rattle.xd_factory.proofs.word.read_text.Goals as goal

pub returns-in-Some : goal.returns-in-Some
returns-in-Some c = text_read _ c.in-Ok.value _ c.in-Ok.ensures c.in-Some.ensures

pub returns-in-None : goal.returns-in-None
returns-in-None c = no_text _ c.in-Ok.value c.in-Ok.ensures c.in-None.ensures

pub returns-in-Err : goal.returns-in-Err
returns-in-Err c = no_value _ _ c.in-Err.ensures
