-- What a reader puts.
use Rattle.std.specs.Prelude.{◌≡◌, ℕ, Bool, true, false, List, [], ◌∷◌, ◌++◌, map}
use Rattle.xd_edge.specs.Faults.{Rose}
use Rattle.xd_frame.specs.Message.{MessageView, frames}
use Rattle.xd_frame.specs.Pull.{IsLess}
use Rattle.xd_link.specs.Source.{Gave}
use Rattle.xd_link.specs.Spring.{ReadToEnd, Spring}
use Rattle.xd_reader.specs.declared.news.LinkNews.{LinkNews}
use Rattle.xd_reader.specs.declared.news.LinkNews.TheVariants.{Message, End}
use Rattle.xd_reader.specs.declared.news.LinkStop.{LinkStop}
use Rattle.xd_reader.specs.declared.news.LinkStop.TheVariants as stop
use Rattle.xd_reader.specs.Judged.{link_messages, link_stop}

-- When each stop comes: what the bytes mean, whether a read gave 0, and what became of the count of faults.
abbrev pub StopsAt : LinkStop → Bool → List ℕ → Spring → Spring → Type 0
StopsAt stop.Ended greeted bytes s0 s1 = (link_stop greeted bytes ≡ stop.Ended) × ReadToEnd s1 × (s1.faults ≡ s0.faults)
StopsAt stop.Cut greeted bytes s0 s1 = (link_stop greeted bytes ≡ stop.Cut) × ReadToEnd s1 × (s1.faults ≡ s0.faults)
StopsAt (stop.Garbled fault) greeted bytes s0 s1 = (link_stop greeted bytes ≡ stop.Garbled fault) × (s1.faults ≡ s0.faults)
StopsAt (stop.BadGreeting b) greeted bytes s0 s1 = (link_stop greeted bytes ≡ stop.BadGreeting b) × (s1.faults ≡ s0.faults)
StopsAt stop.ReadFault greeted bytes s0 s1 = Rose s0.faults s1.faults
StopsAt stop.OutOfMemory greeted bytes s0 s1 = s1.faults ≡ s0.faults

-- After the frames of these messages the bytes go less than a message further.
pub record GoLess (bytes : List ℕ) (put : List MessageView) : Type 0 where
  pub following : List ℕ
  pub bytes_are : bytes ≡ frames put ++ following
  pub less : IsLess following

-- And so they do after their first byte, where a greeting is wanted.
abbrev pub GoLessSo : Bool → List ℕ → List MessageView → Type 0
GoLessSo false bytes put = GoLess bytes put
GoLessSo true [] put = put ≡ []
GoLessSo true (b ∷ bytes) put = GoLess bytes put

-- The source gave these bytes, no more than one message was begun with; all messages of them were put; and this is why
-- no more were.
pub record Reads (greeted : Bool) (s0 s1 : Spring) (put : List MessageView) (stop : LinkStop) : Type 0 where
  pub bytes : List ℕ
  pub gave : Gave bytes s0.supply s1.supply
  pub all : put ≡ link_messages greeted bytes
  pub less : GoLessSo greeted bytes put
  pub cause : StopsAt stop greeted bytes s0 s1

-- what was put after what stood there, without the end
pub record Puts (greeted : Bool) (s0 s1 : Spring) (before after : List LinkNews) (stop : LinkStop) : Type 0 where
  pub put : List MessageView
  pub comes : after ≡ before ++ map Message put
  pub reads : Reads greeted s0 s1 put stop

-- The messages of the bytes that the source gave were put, in order, and then one end.
-- Example: a source that fails at its first read gives no message and the end ReadFault, and its count rose.
pub record PutsAll (greeted : Bool) (s0 s1 : Spring) (before after : List LinkNews) : Type 0 where
  pub stop : LinkStop
  pub put : List MessageView
  pub comes : after ≡ before ++ (map Message put ++ End stop ∷ [])
  pub reads : Reads greeted s0 s1 put stop
