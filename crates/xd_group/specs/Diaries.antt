-- What a diary tells, and what it keeps of its starts.
use Rattle.std.specs.Prelude.{◌≡◌, Option, Some}
use Rattle.xd_trace.specs.Noted.{noted}
use Rattle.xd_drive.specs.Seen.{HubSeen}
use Rattle.xd_group.specs.declared.diary.Diary.{Diary}

-- the calls and the news that a diary notes, as what a hub tells
abbrev pub diary_tells : Diary → Option HubSeen
diary_tells d = Some (record { calls = noted d.calls; given = noted d.given })

-- The same starts, with the same fates.
-- Example: an order was noted: who was started, and whether a link is read, is as before.
abbrev pub SameStarts : Diary → Diary → Type 0
SameStarts old new = (new.workers ≡ old.workers) × (new.fates ≡ old.fates)
