use Rattle.std.proofs.Common.{subst, sym}
use Rattle.xd_value.specs.Payload.{IsPayload}
use Rattle.xd_journal_file.specs.Written.{settings_tree}
use Rattle.xd_journal_file.proofs.Found.{found_settings, not_none}
use Rattle.xd_journal_file.proofs.payload.settings_in.Goals as goal

pub returns-in_default : goal.returns-in_default
returns-in_default c = λ x w is. absurd (not_none c.in_ok-value.field-0 (settings_tree x) c.in_default.is (c.in_ok-value.ensures (settings_tree x) (subst (IsPayload (settings_tree x)) (sym is) w.fits.payload)))

pub returns : goal.returns
returns c = λ x w is. found_settings c.in_ok-value.field-0 c.in-Some.value x _ c.in-Some.is (c.in_ok-value.ensures (settings_tree x) (subst (IsPayload (settings_tree x)) (sym is) w.fits.payload)) c.value_settings-settings.ensures w.sized
