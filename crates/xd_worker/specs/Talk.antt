-- What is said on the channels of a worker. As in execnet's gateway_base.py and pytest-xdist's remote.py; logs are a
-- choice of this project.
use Rattle.std.specs.Prelude.{ℕ, List, [], ◌∷◌, ◌++◌, Option, Some, None, Result, Ok, Err, option_to_list, if◌then◌else◌}
use Rattle.xd_value.specs.Tree.{Tree}
use Rattle.xd_value.specs.Canonical.{dumped}
use Rattle.xd_frame.specs.declared.kind.Kind.TheVariants as kind
use Rattle.xd_frame.specs.Message.{MessageView}
use Rattle.xd_factory.specs.declared.side.Side.{Side}
use Rattle.xd_factory.specs.declared.faults.SendFault.{SendFault}
use Rattle.xd_factory.specs.declared.faults.SendFault.TheVariants.{Unknown, SendClosed, Dump, OutOfMemory}
use Rattle.xd_factory.specs.Slot.{is_seen, function_ended_slot, hooked_slot}
use Rattle.xd_factory.specs.Table.{sent_gives, send_refusal, closing_message, close_says, is_long}
use Rattle.xd_journal.specs.declared.news.What.{What}
use Rattle.xd_journal.specs.declared.news.What.TheVariants.{LogStart}
use Rattle.xd_commands.specs.Events.{event_tree}
use Rattle.xd_worker.specs.declared.talk.Sent.{Sent}
use Rattle.xd_worker.specs.declared.talk.Sent.TheVariants.{Said, LeftOut, Unwritten}
use Rattle.xd_commands.specs.Status.{status_tree}
use Rattle.xd_factory.specs.SideTable.{ChannelTable, channel_table, changed_at, opened}

-- the channels, and what was said so far
pub record Talk : Type 0 where
  pub table : ChannelTable
  pub says : List MessageView

-- the channels of this side, and these messages that were said
abbrev pub talk_of : Side → List MessageView → Talk
talk_of side says = record { table = channel_table side; says = says }

-- these messages are said too, after the rest
abbrev pub saying : List MessageView → Talk → Talk
saying ms d = record d { says = d.says ++ ms }

-- a payload, as an item on a channel
abbrev pub item : ℕ → List ℕ → MessageView
item n b = record { kind = kind.Item; channel = n; payload = b }

-- the item with this payload, or nothing where there is none
abbrev pub item_says : {F : Type 0} → ℕ → Result (List ℕ) F → List MessageView
item_says n (Ok b) = item n b ∷ []
item_says n (Err f) = []

-- the payload of a value on a channel, or why there is none
abbrev pub payload_on : ℕ → Tree → ChannelTable → Result (List ℕ) SendFault
payload_on n v t = sent_gives (send_refusal (t.slot n)) (dumped v)

-- a value is sent; on a channel whose sending is closed it is left out
-- Example: the controller closed a log: the next piece of its test is left out, and the test's end is still told.
abbrev pub sent : ℕ → Tree → Talk → Talk
sent n v d = saying (item_says n (payload_on n v d.table)) d

-- what becomes of a value that is sent, by its payload: said, left out where sending is closed, or not to be written
abbrev pub sent_how : Result (List ℕ) SendFault → Sent
sent_how (Ok b) = Said
sent_how (Err Unknown) = LeftOut
sent_how (Err SendClosed) = LeftOut
sent_how (Err (Dump f)) = Unwritten
sent_how (Err OutOfMemory) = LeftOut

-- the value of an event is sent, where there is one
abbrev pub told_tree : ℕ → Option Tree → Talk → Talk
told_tree n None d = d
told_tree n (Some v) d = sent n v d

-- news are sent as the event that they are; news that are no event are not sent
abbrev pub event_told : ℕ → What → Talk → Talk
event_told n event d = told_tree n (event_tree event) d

-- a log opens
abbrev pub log_opened : Talk → Talk
log_opened d = record d { table = opened d.table }

-- the log of a test that starts opens
abbrev pub opening : What → Talk → Talk
opening (LogStart n log) d = log_opened d
opening _ d = d

-- a log is closed; what the controller sent there is dropped, and the number leaves the table
abbrev pub log_closed : ℕ → Talk → Talk
log_closed n d = record {
  table = changed_at n function_ended_slot d.table;
  says = d.says ++ option_to_list (close_says n None (d.table.slot n));
}

-- a text that fits a message, or another
abbrev pub short_or : Option (List ℕ) → Option (List ℕ) → Option (List ℕ)
short_or other text = if is_long text then other else text

-- the function of a channel ends, with the text of an error or without one; what waits there is dropped
abbrev pub function_ended : ℕ → Option (List ℕ) → Option (List ℕ) → Talk → Talk
function_ended n text other d = record {
  table = changed_at n function_ended_slot d.table;
  says = d.says ++ (if is_seen (d.table.slot n) then closing_message n (short_or other text) ∷ [] else []);
}

-- a function takes what comes on its channel
abbrev pub function_begun : ℕ → Talk → Talk
function_begun n d = record d { table = changed_at n hooked_slot d.table }

-- a STATUS is answered on its own number, which does not open by that
abbrev pub status_told : ℕ → ℕ → ℕ → Talk → Talk
status_told n channels functions d =
    saying (item_says n (dumped (status_tree channels functions)) ++ closing_message n None ∷ []) d
