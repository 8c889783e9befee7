-- Inner words: a link that is being read.
use Rattle.std.specs.Prelude.{◌≡◌, ℕ, true, false, List, [], ◌∷◌, ◌++◌, Option, Some, None, map}
use Rattle.xd_frame.specs.declared.fault.FrameFault.TheVariants.{BadKind, BadChannel, BadLength, Cut}
use Rattle.xd_frame.specs.declared.pull.PullFault.{PullFault}
use Rattle.xd_frame.specs.declared.pull.PullFault.TheVariants.{Bad, ReadFault, OutOfMemory}
use Rattle.xd_frame.specs.Message.{MessageView}
use Rattle.xd_frame.specs.Framer.{FramerView, StandsForBytes}
use Rattle.xd_frame.specs.Pull.{HoldsLess, pull_fault_of}
use Rattle.xd_frame.specs.Stream.{messages}
use Rattle.xd_link.specs.Source.{Gave}
use Rattle.xd_link.specs.Spring.{Spring}
use Rattle.xd_reader.specs.declared.news.LinkNews.{LinkNews}
use Rattle.xd_reader.specs.declared.news.LinkNews.TheVariants.{Message}
use Rattle.xd_reader.specs.declared.news.LinkStop.{LinkStop}
use Rattle.xd_reader.specs.declared.news.LinkStop.TheVariants as stop
use Rattle.xd_reader.specs.Judged.{greeting_byte}
use Rattle.xd_reader.specs.Reads.{GoLess, Reads, StopsAt}

-- The greeting was read, or why not.
abbrev pub Greets : Option LinkStop → Spring → Spring → Type 0
Greets None s0 s1 = Gave (greeting_byte ∷ []) s0.supply s1.supply × (s1.faults ≡ s0.faults)
Greets (Some why) s0 s1 = Reads true s0 s1 [] why

-- why a link is read no more that met this fault
abbrev pub stop_of_fault : PullFault → LinkStop
stop_of_fault (Bad Cut) = stop.Cut
stop_of_fault (Bad (BadKind code)) = stop.Garbled (BadKind code)
stop_of_fault (Bad (BadChannel number)) = stop.Garbled (BadChannel number)
stop_of_fault (Bad (BadLength number)) = stop.Garbled (BadLength number)
stop_of_fault ReadFault = stop.ReadFault
stop_of_fault OutOfMemory = stop.OutOfMemory

-- All whole messages of the bytes were put, and more bytes may come.
pub record Listens (bytes : List ℕ) (put : List MessageView) (framer : FramerView) : Type 0 where
  pub stands : StandsForBytes framer bytes put
  pub less : HoldsLess framer bytes put
  pub goes : pull_fault_of framer ≡ None
  pub none_waits : framer.waiting ≡ []

-- Where the link is read no more, this is why.
abbrev pub StepsSo : Option LinkStop → List ℕ → List MessageView → FramerView → Spring → Spring → Type 0
StepsSo None bytes put framer s0 s1 = Listens bytes put framer × (s1.faults ≡ s0.faults)
StepsSo (Some why) bytes put framer s0 s1 = (put ≡ messages bytes) × GoLess bytes put × StopsAt why false bytes s0 s1

-- One read: the bytes that the source gave, and what was put of them.
pub record Steps (why : Option LinkStop) (bytes : List ℕ) (put : List MessageView) (framer : FramerView) (s0 s1 : Spring) (before after : List LinkNews) : Type 0 where
  pub piece : List ℕ
  pub gave : Gave piece s0.supply s1.supply
  pub more : List MessageView
  pub comes : after ≡ before ++ map Message more
  pub so : StepsSo why (bytes ++ piece) (put ++ more) framer s0 s1
