-- Inner words: one program, from its start to its end.
use Rattle.std.specs.Prelude.{◌≡◌, ℕ, ◌≤◌, ◌⊎◌, Bool, List, [], ◌++◌, Option, Some, map, All}
use Rattle.xd_edge.specs.Children.{ChildRun, ChangesRun, with_last, with_output, whole_output}
use Rattle.xd_edge.specs.declared.children.Fate.{Fate}
use Rattle.xd_edge.specs.Faults.{RoseBy}
use Rattle.xd_journal.specs.declared.entry.Outcome.{Outcome}
use Rattle.xd_reader.specs.declared.news.LinkNews.{LinkNews}
use Rattle.xd_reader.specs.declared.news.LinkNews.TheVariants.{Output}
use Rattle.xd_child.specs.Ending.{fault_count, fate_so, outcome_of}
use Rattle.xd_worker_runner.specs.Orders.{ArePieces, IsLeft, IsPiece, Order, ProgramsSeen, ToldOfProgram, told_news}
use Rattle.xd_worker_runner.specs.Programs.{CameTo, read_so}

-- What a program printed was put, in pieces, and then it could not be read where it was not read to its end.
pub record PutsOutput (whole : Bool) (place : ℕ) (old new : Option (List ChildRun)) (before after : List LinkNews) : Type 0 where
  pub pieces : List (List ℕ)
  pub puts : after ≡ before ++ map Output pieces
  pub sizes : All IsPiece pieces
  pub changes : ChangesRun place (read_so whole (whole_output pieces)) old new

-- What it printed up to some moment was put, but for the last of it.
pub record HeardPart (place : ℕ) (old new : Option (List ChildRun)) (before after : List LinkNews) : Type 0 where
  pub pieces : List (List ℕ)
  pub puts : after ≡ before ++ map Output pieces
  pub sizes : All IsPiece pieces
  pub lost : List ℕ
  pub changes : ChangesRun place (with_output (whole_output pieces ++ lost)) old new

-- A program printed this, and came to this outcome.
pub record Waits (place : ℕ) (output : List ℕ) (outcome : Outcome) (old new : Option (List ChildRun)) : Type 0 where
  pub whole : Bool
  pub last : Fate
  pub outcome_is : outcome_of (fate_so whole last) ≡ Some outcome
  pub changes : ChangesRun place (λ r. with_last last (read_so whole output r)) old new

-- It was watched from its start to its end.
pub record Watches (outcome : Outcome) (place : ℕ) (s0 s1 : ProgramsSeen) (before after : List LinkNews) : Type 0 where
  pub pieces : List (List ℕ)
  pub puts : after ≡ before ++ map Output pieces
  pub sizes : All IsPiece pieces
  pub waits : Waits place (whole_output pieces) outcome s0.runs s1.runs
  pub rose : RoseBy (fault_count outcome) s0.faults s1.faults
  pub still : fault_count outcome ≡ 0 → s1.faults ≡ s0.faults
  pub later : s0.faults ≤ s1.faults

-- Memory ran out on the way, and it was read to its end, or could not be read, and was waited for.
pub record WatchesPart (place : ℕ) (s0 s1 : ProgramsSeen) (before after : List LinkNews) : Type 0 where
  pub pieces : List (List ℕ)
  pub puts : after ≡ before ++ map Output pieces
  pub sizes : All IsPiece pieces
  pub more : List ℕ
  pub outcome : Outcome
  pub waits : Waits place (whole_output pieces ++ more) outcome s0.runs s1.runs
  pub later : s0.faults ≤ s1.faults

-- The program of an order ran to this outcome, and what it printed was put.
pub record RunsTo (outcome : Outcome) (order : Order) (s0 s1 : ProgramsSeen) (before after : List LinkNews) : Type 0 where
  pub pieces : List (List ℕ)
  pub puts : after ≡ before ++ map Output pieces
  pub sizes : All IsPiece pieces
  pub came : CameTo order (whole_output pieces) outcome s0.runs s1.runs
  pub rose : RoseBy (fault_count outcome) s0.faults s1.faults
  pub still : fault_count outcome ≡ 0 → s1.faults ≡ s0.faults
  pub later : s0.faults ≤ s1.faults

-- One order was run.
pub record RunsOne (order : Order) (s0 s1 : ProgramsSeen) (before after : List LinkNews) : Type 0 where
  pub told : ToldOfProgram
  pub puts : after ≡ before ++ told_news told
  pub pieces : ArePieces told
  pub came : CameTo order (whole_output told.pieces) told.outcome s0.runs s1.runs
  pub rose : RoseBy (fault_count told.outcome) s0.faults s1.faults
  pub still : fault_count told.outcome ≡ 0 → s1.faults ≡ s0.faults
  pub later : s0.faults ≤ s1.faults

-- Memory ran out at one order.
pub record RunsPart (order : Order) (s0 s1 : ProgramsSeen) (before after : List LinkNews) : Type 0 where
  pub pieces : List (List ℕ)
  pub puts : after ≡ before ++ map Output pieces
  pub sizes : All IsPiece pieces
  pub left : ((pieces ≡ []) × (s1 ≡ s0)) ⊎ IsLeft order pieces s0.runs s1.runs
  pub later : s0.faults ≤ s1.faults
