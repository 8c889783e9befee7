-- What is seen of the outside at one moment, as far as it tells.
use Rattle.std.specs.Prelude.{ℕ, Option}
use Rattle.xd_edge.specs.Files.{Held}
use Rattle.xd_link.specs.Starter.{Begun}
use Rattle.xd_edge.specs.Clock.{Ticking}
use Rattle.xd_local.specs.Outside.{Output, Programs}

-- the files: what they hold, and their count of faults
pub record Files : Type 0 where
  pub held : Option Held
  pub faults : ℕ

-- the starter: the starts that it was asked for, and its count of faults
pub record Starting : Type 0 where
  pub begun : Option Begun
  pub faults : ℕ

-- how often each of the two crews refused a job: that of the readers of links, and that of the runner of programs
pub record Crews : Type 0 where
  pub readers : ℕ
  pub runners : ℕ

-- what a report, a text or a refusal comes from and goes to: the files, standard output and standard error
pub record Streams : Type 0 where
  pub files : Files
  pub out : Output
  pub err : Output

-- what a worker works on
pub record Workplace : Type 0 where
  pub files : Files
  pub programs : Programs
  pub starter : Starting
  pub crews : Crews
  pub clock : Ticking

-- all of it
pub record Outside : Type 0 where
  pub streams : Streams
  pub programs : Programs
  pub starter : Starting
  pub crews : Crews
  pub clock : Ticking

-- what a worker works on, of all that is outside
abbrev pub workplace : Outside → Workplace
workplace o = record { files = o.streams.files; programs = o.programs; starter = o.starter; crews = o.crews; clock = o.clock }
