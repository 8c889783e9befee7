use Rattle.std.proofs.Common.{Err, Some, ap, subst}
use Rattle.xd_value.specs.Payload.{IsValue}
use Rattle.xd_value.specs.declared.fault.LoadFault.{LoadFault}
use Rattle.xd_journal_file.proofs.payload.payload_value.Goals as goal

pub returns-in-Err-Bad : goal.returns-in-Err-Bad
returns-in-Err-Bad c = λ t p. (let e = c.in-Err-Bad.ensures in absurd (subst (λ (f : LoadFault). IsValue t (Err f)) c.in-Err-Bad.field-0-is (e.only t p)))

pub returns-in-Ok : goal.returns-in-Ok
returns-in-Ok c = λ t p. (let e = c.in-Ok.ensures in ap (λ v. Some v) (e.only t p))
