-- What is seen of a hub, and of a hub and an output.
use Rattle.std.specs.Prelude.{◌≡◌, ℕ, List, [], ◌∷◌, ◌++◌, Option, option_map}
use Rattle.xd_edge.specs.Sink.{Sunk}
use Rattle.xd_journal.specs.declared.entry.Entry.{Entry}
use Rattle.xd_journal.specs.declared.news.News.{News}
use Rattle.xd_drive.specs.Calls.{calls_in}
use Rattle.xd_drive.specs.Marks.{Marks}

-- what a hub tells: the starts, orders and kills that it was called for, and the news that it gave, each in order
pub record HubSeen : Type 0 where
  pub calls : List Entry
  pub given : List News

-- what it tells after the call for this entry
abbrev pub after_call : Entry → HubSeen → HubSeen
after_call e s = record { calls = s.calls ++ e ∷ []; given = s.given }

-- what it tells after this piece of news
abbrev pub after_one_given : News → HubSeen → HubSeen
after_one_given n s = record { calls = s.calls; given = s.given ++ n ∷ [] }

-- what it tells after the calls for these entries
abbrev pub with_calls : List Entry → HubSeen → HubSeen
with_calls es s = record { calls = s.calls ++ calls_in es; given = s.given }

-- what it tells after the calls for these entries and these news
abbrev pub with_more : List Entry → List News → HubSeen → HubSeen
with_more es ns s = record { calls = s.calls ++ calls_in es; given = s.given ++ ns }

-- Where it tells, it was called for this entry, and for nothing else.
abbrev pub TookCall : Entry → Option HubSeen → Option HubSeen → Type 0
TookCall e old new = new ≡ option_map (after_call e) old

-- Where it tells, it gave this piece of news, and was called for nothing.
abbrev pub GaveNews : News → Option HubSeen → Option HubSeen → Type 0
GaveNews n old new = new ≡ option_map (after_one_given n) old

-- Where it tells, it was called for the starts, orders and kills among these entries, in order, and gave no news.
abbrev pub Performs : List Entry → Option HubSeen → Option HubSeen → Type 0
Performs es old new = new ≡ option_map (with_calls es) old

-- Where it tells, it was called for the starts, orders and kills among these entries, in order, and gave these news.
-- Example: Start gw0, and Run gw0 of 0 and 1 after gw0 was ready: it was called to start gw0, said that it is ready, and was
-- called to tell it that Run.
abbrev pub HubTells : List Entry → List News → Option HubSeen → Option HubSeen → Type 0
HubTells es ns old new = new ≡ option_map (with_more es ns) old

-- what is seen of a hub and of the output
pub record HubScene : Type 0 where
  pub marks : ℕ → Marks
  pub seen : Option HubSeen
  pub sunk : Option Sunk

-- what a hub had told, and what the output had taken, at a moment
pub record TurnScene : Type 0 where
  pub seen : Option HubSeen
  pub sunk : Option Sunk

module _ {H O : Type 0} (marks : H → ℕ → Marks) (seen : H → Option HubSeen) (sunk : O → Option Sunk) where
  -- what is seen of this hub and this output, by what hubs and outputs of their types tell
  abbrev pub scene_of : H → O → HubScene
  scene_of hub out = record { marks = marks hub; seen = seen hub; sunk = sunk out }
