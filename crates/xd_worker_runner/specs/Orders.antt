-- Orders that a runner takes, and what it puts.
use Rattle.std.specs.Prelude.{◌≡◌, ℕ, ◌<◌, ◌≤◌, ◌⊎◌, List, [], ◌∷◌, ◌++◌, Option, Some, map, length, All}
use Rattle.xd_edge.specs.Limits.{most_piece_bytes}
use Rattle.xd_edge.specs.Children.{ChildRun, whole_output}
use Rattle.xd_edge.specs.Faults.{RoseBy}
use Rattle.xd_journal.specs.declared.entry.Outcome.{Outcome}
use Rattle.xd_post.specs.Post.{Ring}
use Rattle.xd_reader.specs.declared.news.LinkNews.{LinkNews}
use Rattle.xd_reader.specs.declared.news.LinkNews.TheVariants.{Output, ChildDone, End}
use Rattle.xd_reader.specs.declared.news.LinkStop.TheVariants.{OutOfMemory}
use Rattle.xd_worker_runner.specs.Programs.{AreRun, CameTo, Ran, faults_of}

-- an order: the program and its arguments; the empty list is the end of the orders
abbrev pub Order : Type 0
Order = List (List ℕ)

-- the inboxes of a desk of orders, by their numbers
abbrev pub Mails : Type 0
Mails = List (Option (Ring × List Order))

-- Of a desk with one inbox these were taken, in order.
abbrev pub TakesOf : List Order → Mails → Mails → Type 0
TakesOf orders old new = (ring : Ring) (got : List Order) → old ≡ Some (ring, got) ∷ [] → new ≡ Some (ring, got ++ orders) ∷ []

-- what was put of a program: what it printed, in pieces, and how its test went
pub record ToldOfProgram : Type 0 where
  pub pieces : List (List ℕ)
  pub outcome : Outcome

-- what came of the test
abbrev pub ran_of : ToldOfProgram → Ran
ran_of t = record { output = whole_output t.pieces; outcome = t.outcome }

-- the news of one program
-- Example: 5,000 bytes and status 1 are a piece of 4,096 bytes, one of 904, and a failure with 1.
abbrev pub told_news : ToldOfProgram → List LinkNews
told_news t = map Output t.pieces ++ ChildDone t.outcome ∷ []

-- the news of programs that ran one after another
abbrev pub news_of_programs : List ToldOfProgram → List LinkNews
news_of_programs [] = []
news_of_programs (t ∷ ts) = told_news t ++ news_of_programs ts

-- a piece of output: a choice of this project
abbrev pub IsPiece : List ℕ → Type 0
IsPiece bytes = (1 ≤ length bytes) × (length bytes ≤ most_piece_bytes)

-- what a program printed was put in pieces of the sizes that they may have
abbrev pub ArePieces : ToldOfProgram → Type 0
ArePieces t = All IsPiece t.pieces

-- an order that names a program, and does not end the orders
abbrev pub IsCommand : Order → Type 0
IsCommand order = 0 < length order

-- what is seen of programs at one moment: the starts that were asked for, where they are told, and the count of faults
pub record ProgramsSeen : Type 0 where
  pub runs : Option (List ChildRun)
  pub faults : ℕ

-- the programs, of which these starts and this count of faults are seen
abbrev pub programs_seen : Option (List ChildRun) → ℕ → ProgramsSeen
programs_seen runs faults = record { runs = runs; faults = faults }

-- These orders were run one after another, one child for each, and this was put of them.
pub record Runs (orders : List Order) (told : List ToldOfProgram) (s0 s1 : ProgramsSeen) (before after : List LinkNews) : Type 0 where
  pub commands : All IsCommand orders
  pub puts : after ≡ before ++ news_of_programs told
  pub pieces : All ArePieces told
  pub run : AreRun orders (map ran_of told) s0.runs s1.runs
  pub rose : RoseBy (faults_of (map ran_of told)) s0.faults s1.faults
  pub still : faults_of (map ran_of told) ≡ 0 → s1.faults ≡ s0.faults
  pub later : s0.faults ≤ s1.faults

-- The empty list ended the orders.
pub record EndsWell (orders : List Order) (old new : Mails) (s0 s1 : ProgramsSeen) (before after : List LinkNews) : Type 0 where
  pub took : TakesOf (orders ++ [] ∷ []) old new
  pub same : s1 ≡ s0
  pub puts : after ≡ before

-- A program was read to its end, or could not be read, and was waited for; these are the first pieces of what it printed.
abbrev pub IsLeft : Order → List (List ℕ) → Option (List ChildRun) → Option (List ChildRun) → Type 0
IsLeft order pieces old new = (later : List ℕ) × (outcome : Outcome) × CameTo order (whole_output pieces ++ later) outcome old new

-- Memory ran out at one order more: its program was not started, or first pieces of what it printed were put, and it was
-- waited for all the same. Then came one end.
pub record EndsCut (orders : List Order) (old new : Mails) (s0 s1 : ProgramsSeen) (before after : List LinkNews) : Type 0 where
  pub order : Order
  pub pieces : List (List ℕ)
  pub took : TakesOf (orders ++ order ∷ []) old new
  pub command : IsCommand order
  pub puts : after ≡ before ++ (map Output pieces ++ End OutOfMemory ∷ [])
  pub sizes : All IsPiece pieces
  pub left : ((pieces ≡ []) × (s1 ≡ s0)) ⊎ IsLeft order pieces s0.runs s1.runs
  pub later : s0.faults ≤ s1.faults

-- Orders were taken and run, up to the empty one, or until memory ran out.
pub record RunsOrders (old new : Mails) (s0 s1 : ProgramsSeen) (before after : List LinkNews) : Type 0 where
  pub orders : List Order
  pub told : List ToldOfProgram
  pub mid : ProgramsSeen
  pub sent : List LinkNews
  pub runs : Runs orders told s0 mid before sent
  pub ends : EndsWell orders old new mid s1 sent after ⊎ EndsCut orders old new mid s1 sent after
