use Rattle.std.proofs.Common.{subst, sym}
use Rattle.xd_value.specs.Payload.{IsPayload}
use Rattle.xd_journal_file.specs.Written.{entry_tree}
use Rattle.xd_journal_file.proofs.Found.{found_entry, not_none}
use Rattle.xd_journal_file.proofs.payload.entry_in.Goals as goal

pub returns-in_default : goal.returns-in_default
returns-in_default c = λ x w is. absurd (not_none c.in_ok-value.field-0 (entry_tree x) c.in_default.is (c.in_ok-value.ensures (entry_tree x) (subst (IsPayload (entry_tree x)) (sym is) w.fits.payload)))

pub returns : goal.returns
returns c = λ x w is. found_entry c.in_ok-value.field-0 c.in-Some.value x _ c.in-Some.is (c.in_ok-value.ensures (entry_tree x) (subst (IsPayload (entry_tree x)) (sym is) w.fits.payload)) c.in_ok-entry.ensures w.sized
