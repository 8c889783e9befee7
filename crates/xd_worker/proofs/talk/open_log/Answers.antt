use Rattle.std.proofs.Common.{◌≡◌, Err, ap, sym, ◌∙◌}
use Rattle.xd_factory.specs.View.{slot_of_number, entry_count, numbers_of}
use Rattle.xd_factory.specs.declared.faults.OpenFault.TheVariants as fault
use Rattle.xd_factory.specs.SideTable.{Counts}
use Rattle.xd_worker.proofs.Tables.{only_memory}
use Rattle.xd_worker.proofs.talk.open_log.Goals as goal

pub returns-in-Err-Finished : goal.returns-in-Err-Finished
returns-in-Err-Finished c = λ number can.
    let s = c.args.side.now in
    let e = c.in-Err-Finished.ensures in
    let counts : Counts (slot_of_number s) (entry_count s) = record { numbers = numbers_of s; rising = c.status.ensures.once; here = c.status.ensures.entries; count = sym c.status.ensures.count ∙ c.status.ensures.numbers } in
    let z = only_memory s number c.in-Err-Finished.field-0 can counts (λ x. e.finished.0 (ap Err x)) (λ q x. (e.full q).0 (ap Err x)) (λ q r x. (e.spent q r).0 (ap Err x)) in
    absurd (let w : fault.Finished ≡ fault.OutOfMemory = sym c.in-Err-Finished.field-0-is ∙ z in cc)

pub returns-in-Err-TooManyOpen : goal.returns-in-Err-TooManyOpen
returns-in-Err-TooManyOpen c = λ number can.
    let s = c.args.side.now in
    let e = c.in-Err-TooManyOpen.ensures in
    let counts : Counts (slot_of_number s) (entry_count s) = record { numbers = numbers_of s; rising = c.status.ensures.once; here = c.status.ensures.entries; count = sym c.status.ensures.count ∙ c.status.ensures.numbers } in
    let z = only_memory s number c.in-Err-TooManyOpen.field-0 can counts (λ x. e.finished.0 (ap Err x)) (λ q x. (e.full q).0 (ap Err x)) (λ q r x. (e.spent q r).0 (ap Err x)) in
    absurd (let w : fault.TooManyOpen ≡ fault.OutOfMemory = sym c.in-Err-TooManyOpen.field-0-is ∙ z in cc)

pub returns-in-Err-NumbersSpent : goal.returns-in-Err-NumbersSpent
returns-in-Err-NumbersSpent c = λ number can.
    let s = c.args.side.now in
    let e = c.in-Err-NumbersSpent.ensures in
    let counts : Counts (slot_of_number s) (entry_count s) = record { numbers = numbers_of s; rising = c.status.ensures.once; here = c.status.ensures.entries; count = sym c.status.ensures.count ∙ c.status.ensures.numbers } in
    let z = only_memory s number c.in-Err-NumbersSpent.field-0 can counts (λ x. e.finished.0 (ap Err x)) (λ q x. (e.full q).0 (ap Err x)) (λ q r x. (e.spent q r).0 (ap Err x)) in
    absurd (let w : fault.NumbersSpent ≡ fault.OutOfMemory = sym c.in-Err-NumbersSpent.field-0-is ∙ z in cc)
