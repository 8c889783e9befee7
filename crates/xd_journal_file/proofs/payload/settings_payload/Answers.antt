use Rattle.std.proofs.Common.{subst, sym}
use Rattle.xd_value.specs.View.{view}
use Rattle.xd_journal_file.specs.Written.{settings_tree}
use Rattle.xd_journal_file.specs.inner.Steps.{HasPayload, IsPlainValue, IsTooLong}
use Rattle.xd_journal_file.proofs.Found.{when_none}
use Rattle.xd_journal_file.proofs.Plain.{not_long, settings_plain, settings_short}
use Rattle.xd_journal_file.proofs.payload.settings_payload.Goals as goal

pub plain_payload-requires : goal.plain_payload-requires
plain_payload-requires c = (let e = c.in_ok-value.ensures in subst IsPlainValue (sym e.form) (settings_plain c.args.settings))

pub unreachable-requires : goal.unreachable-requires
unreachable-requires c =
    let e = c.in_ok-value.ensures in
    let t = view c.in_ok-value.value in
    let long : IsTooLong t = when_none c.in_ok-payload.field-0 (IsTooLong t) (λ b. HasPayload b t) c.in_default.is c.in_ok-payload.ensures in
    not_long (settings_tree c.args.settings) (settings_short c.args.settings e.sized) (subst IsTooLong e.form long)
