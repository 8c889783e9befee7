-- That no news are asked for where the run is over.
use Rattle.std.proofs.Common.{◌≡◌, List, [], ◌∷◌, ◌++◌, false, ◌∙◌, ap, inl, inr}
use Rattle.xd_journal.specs.declared.settings.Settings.{Settings}
use Rattle.xd_journal.specs.declared.news.News.{News}
use Rattle.xd_run.specs.Histories.{is_over}
use Rattle.xd_trace.proofs.Each.{last-split, no-split}
use Rattle.xd_drive.specs.Taken.{AreInTime, run_given}

pub in-time-none : (settings : Settings) → AreInTime settings []
in-time-none settings = λ before n after h. absurd (no-split before n after h)

pub in-time-more : (settings : Settings) (given : List News) (n : News) → AreInTime settings given → is_over (run_given settings given).state.books ≡ false → AreInTime settings (given ++ n ∷ [])
in-time-more settings given n are on = λ before m after h. elim (last-split given n before m after h) [
  | inl k ↦ ap (λ (bs : List News). is_over (run_given settings bs).state.books) k.0 ∙ on
  | inr k ↦ are before m k.0 k.1
]
