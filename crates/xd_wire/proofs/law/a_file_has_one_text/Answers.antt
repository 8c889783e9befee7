use Rattle.xd_wire.proofs.TextLemmas.{some_text, one_text}
use Rattle.xd_wire.proofs.law.a_file_has_one_text.Goals as goal

pub returns-clause-some : goal.returns-clause-some
returns-clause-some c = λ bytes k. some_text c.fault_law.ensures.some bytes (c.messages_are_the_longest.ensures.following bytes k) k

pub returns-clause-one : goal.returns-clause-one
returns-clause-one c = one_text c.a_payload_reads_one.ensures
