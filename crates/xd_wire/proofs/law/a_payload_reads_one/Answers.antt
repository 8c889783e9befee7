use Rattle.std.proofs.Common.{[], sym}
use Rattle.std.proofs.lemmas.List.{append-nil}
use Rattle.xd_wire.proofs.law.a_payload_reads_one.Goals as goal

pub returns : goal.returns
returns c =
    record {
      value = λ v w b p q. (c.prefix_law.ensures v w b b [] p q (sym (append-nil b))).0;
      apart = c.fault_law.ensures.payload;
      fault = c.fault_law.ensures.one;
    }
