use Rattle.std.proofs.Common.{ap, ap₂, ◌∙◌, arith, List, ℕ, length}
use Rattle.std.proofs.lemmas.Bool.Decides.{nat_tests}
use Rattle.xd_journal.specs.declared.entry.Entry.TheVariants.{Done}
use Rattle.xd_replay.proofs.alone.kept_by.Goals as goal

pub returns-else-len-room_of : goal.returns-else-len-room_of
returns-else-len-room_of c =
    let d = c.in-Done in
    let f = c.if-len-room_of.false in
    let e = c.room_of.ensures in
    (record { outcome = d.outcome; ms = d.ms; output = d.output }, d.is ∙ ap₂ (λ (w i : ℕ). Done w i d.outcome d.ms d.output) c.if-worker-ne0.false c.if-index-test.false, grind (arith, nat_tests, f, e), ap (λ (xs : List ℕ). length xs) c.as_slice-len.ensures)
