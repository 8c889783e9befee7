-- A gateway to a worker, and the messages that it took.
use Rattle.std.specs.Prelude.{◌≡◌, List, ◌∷◌, Option, Some, None, is_some, false, Result, Ok, Err}
use Rattle.xd_frame.specs.Message.{MessageView}
use Rattle.xd_factory.specs.declared.parity.Parity.TheVariants.{Odd}
use Rattle.xd_factory.specs.SideTable.{new_table}
use Rattle.xd_factory.specs.View.{fault_of}
use Rattle.xd_journal.specs.declared.news.What.{What}
use Rattle.xd_journal.specs.declared.news.What.TheVariants.{Gone, NotStarted}
use Rattle.xd_gateway.specs.declared.fault.GatewayFault.{GatewayFault}
use Rattle.xd_gateway.specs.declared.fault.GatewayFault.TheVariants.{SendFault, Channel, Opening, OutOfMemory}
use Rattle.xd_gateway.specs.declared.gateway.Gateway.{Gateway}
use Rattle.xd_gateway.specs.News.{AreHeard, CameAs, Heard, IsCame, came_news, ear_after}
use Rattle.xd_gateway.specs.View.{channels_of, has_finished, is_broken, side_of}

-- a message, with what it was
abbrev pub heard_as : MessageView → CameAs → Heard
heard_as m came = record { message = m; came = came }

-- a call was written, or begun
abbrev pub IsBegun : {T : Type 0} → Result T GatewayFault → Type 0
IsBegun (Ok x) = Unit {0}
IsBegun (Err SendFault) = Unit {0}
IsBegun (Err (Channel f)) = ⊥
IsBegun (Err (Opening f)) = ⊥
IsBegun (Err OutOfMemory) = ⊥

-- a message makes such news; that a link is down is no message's news
abbrev pub IsOfMessage : Option What → Type 0
IsOfMessage (Some (Gone cause)) = ⊥
IsOfMessage (Some NotStarted) = ⊥
IsOfMessage _ = Unit {0}

module _ {K : Type 0} where
  -- nothing was written, opened or taken
  pub record IsNew (g : Gateway K) : Type 0 where
    pub whole : is_broken g ≡ false
    pub channels : channels_of g ≡ new_table Odd
    pub unfinished : has_finished g ≡ false

  -- It called `run_tests` first and took these messages, of which the last stands first.
  -- Example: a new gateway of the starting side called `run_tests`: it stands for no message.
  pub record StandsForHeard (g : Gateway K) (h : List Heard) : Type 0 where
    pub are : AreHeard h
    pub failed : is_some (fault_of (side_of g)) ≡ (ear_after h).failed
    pub channels : fault_of (side_of g) ≡ None → channels_of g ≡ (ear_after h).table
    pub finished : has_finished g ≡ (ear_after h).finished

  -- One message more, with its news.
  pub record HearsMore (new : Gateway K) (h : List Heard) (m : MessageView) (news : Option What) : Type 0 where
    pub came : CameAs
    pub is : IsCame (ear_after h) m came
    pub news_are : news ≡ came_news (ear_after h) came
    pub stands : StandsForHeard new (heard_as m came ∷ h)
