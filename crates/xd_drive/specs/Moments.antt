-- When lines came, by moments at which the hub and the output were seen.
use Rattle.std.specs.Prelude.{◌≡◌, ℕ, Bool, true, false, List, [], ◌∷◌, ◌++◌, map, Option}
use Rattle.xd_edge.specs.Printing.{ShowsSome}
use Rattle.xd_edge.specs.Sink.{Sunk}
use Rattle.xd_journal.specs.declared.settings.Settings.{Settings}
use Rattle.xd_journal.specs.declared.entry.Entry.{Entry}
use Rattle.xd_journal.specs.declared.news.News.{News}
use Rattle.xd_trace.specs.Each.{EachHasMoment}
use Rattle.xd_trace.specs.Noted.{moments}
use Rattle.xd_trace.specs.declared.moments.Moments.{Moments}
use Rattle.xd_report.specs.Lines.{run_lines}
use Rattle.xd_drive.specs.Seen.{HubScene, HubSeen, HubTells, TurnScene}
use Rattle.xd_drive.specs.Taken.{run_given}

module _ {K O : Type 0} (tells : K → Option HubSeen) (sunk : O → Option Sunk) where
  -- what was seen at one moment of what a hub keeps, and of the output
  abbrev pub scene_at : K → O → TurnScene
  scene_at kept out = record { seen = tells kept; sunk = sunk out }

  -- the same at these moments
  abbrev pub turns_of : Moments K O → List TurnScene
  turns_of m = map (λ p. scene_at p.0 p.1) (moments m)

-- At this moment the hub had given these news and this one, and been called for no more than what these make; the output had
-- taken the lines of what these and this one make, and handed them on. So what this one makes is performed after its lines,
-- and they are printed before the next one is waited for.
-- Example: gw0 dies and gw1 replaces it: the lines of both were handed on, gw1 was not started, and nothing was heard since.
pub record IsBetween (settings : Settings) (before : List News) (n : News) (old : HubScene) (m : TurnScene) : Type 0 where
  pub tells : HubTells (run_given settings before).entries (before ++ n ∷ []) old.seen m.seen
  pub shows : ShowsSome (run_lines settings (run_given settings (before ++ n ∷ [])).entries) old.sunk m.sunk

-- Each of these news had such a moment.
abbrev pub LinesFirst : Settings → List News → HubScene → List TurnScene → Type 0
LinesFirst settings given old moments = EachHasMoment (λ before n m. IsBetween settings before n old m) given moments

-- Those of these news had such a moment that make these entries, which were performed.
-- Example: the output fails at the lines of the last news: all the others had one.
pub record LinesFirstOf (performed : List Entry) (settings : Settings) (given : List News) (old : HubScene) (moments : List TurnScene) : Type 0 where
  pub told : List News
  pub rest : List News
  pub split : given ≡ told ++ rest
  pub make : performed ≡ (run_given settings told).entries
  pub lines_first : LinesFirst settings told old moments

-- What is printed and performed together notes the moment between: the hub was as it had been, the output as it came to be.
-- Where the output failed it notes none.
abbrev pub NotesTurn : Bool → HubScene → HubScene → List TurnScene → List TurnScene → Type 0
NotesTurn true old new before after = (m : TurnScene) × (after ≡ before ++ m ∷ []) × (m.seen ≡ old.seen) × (m.sunk ≡ new.sunk)
NotesTurn false old new before after = after ≡ before
