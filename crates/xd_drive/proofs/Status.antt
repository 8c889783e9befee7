-- The exit status of a session that was driven to its end.
use Rattle.std.proofs.Common.{◌≡◌, ℕ, List, [], ◌++◌, false, sym, ◌∙◌, ap, subst}
use Rattle.xd_journal.specs.declared.journal.Journal.{Journal}
use Rattle.xd_journal.specs.declared.settings.Settings.{Settings}
use Rattle.xd_run.specs.Ending.{ending, stop_of}
use Rattle.xd_run.specs.Histories.{run_end_of}
use Rattle.xd_run.specs.Proper.{IsProper}
use Rattle.xd_run.specs.State.{after_entries, no_one}
use Rattle.xd_report.specs.Status.{status_in, status_of}
use Rattle.xd_report.proofs.Failures.{status-over}
use Rattle.xd_drive.proofs.Failures.{failures-whole}
use Rattle.xd_session.specs.Ends.{last_stop}
use Rattle.xd_session.specs.Stands.{SessionSeen, state_of}
use Rattle.xd_drive.specs.declared.written.Written.{Written}
use Rattle.xd_drive.specs.declared.written.Written.TheVariants.{Broken as BrokenAt}
use Rattle.xd_drive.specs.Going.{EndsRun}
use Rattle.xd_drive.specs.Seen.{HubScene, TurnScene}
use Rattle.xd_drive.specs.Taken.{taken_of}
use Rattle.xd_drive.proofs.Driven.{whole-by}
use Rattle.xd_drive.proofs.Loop.{whole-of}

-- where all was printed
pub status-driven : (settings : Settings) (s : SessionSeen) (j : Journal) → IsProper settings [] → s.settings ≡ settings → j.settings ≡ s.settings → (written : Written) (old new : HubScene) (ms : List TurnScene) → ((x : ℕ) → written ≡ BrokenAt x → ⊥)
    → j.entries.items ≡ s.entries ++ ending false (state_of s).books → stop_of j ≡ last_stop false (state_of s).books → EndsRun written s old new ms
    → status_in (after_entries (no_one s.settings) s.entries) (run_end_of (after_entries (no_one s.settings) s.entries).books) ≡ status_of j
status-driven settings s j proper kept same written old new ms none is stop e =
    let still : IsProper s.settings [] = subst (λ (x : Settings). IsProper x []) (sym kept) proper in
    let f = subst (λ (o : Written). EndsRun o s old new ms) (whole-of written none) e in
    let w = whole-by false s j (taken_of s.settings (f.0)) still same is f.1.over f.1.stands in
    ap (λ (x : Settings). status_in (after_entries (no_one x) s.entries) (run_end_of (after_entries (no_one s.settings) s.entries).books)) (sym same)
    ∙ status-over j s.entries (run_end_of (after_entries (no_one s.settings) s.entries).books) is stop (failures-whole j w)
