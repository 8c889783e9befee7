-- Rows that are worked by hand.
use Rattle.std.specs.Prelude.{◌≡◌, ℕ, List, [], ◌∷◌, true, Some, codes}
use Rattle.xd_commands.specs.declared.order.Order.TheVariants.{RunTests, Steal}
use Rattle.xd_journal.specs.declared.news.What.TheVariants.{Collected, LogStart, Back}
use Rattle.xd_worker_tests.specs.declared.ask.Ask.TheVariants.{Tell}
use Rattle.xd_worker_tests.specs.declared.input.Input.{Input}
use Rattle.xd_worker_tests.specs.declared.input.Input.TheVariants as input
use Rattle.xd_worker_tests.specs.History.{Given, all_asks, started_tests}

-- the ids of a suite of five
abbrev pub five : List (List ℕ)
five = codes "a" ∷ codes "b" ∷ codes "c" ∷ codes "d" ∷ codes "e" ∷ []

-- an input that comes while the table of channels has room
abbrev pub with_room : Input → Given
with_room i = record { input = i; room = true }

-- a suite of five, all five given, a steal of two that wait, and a steal of two of which one is the next
abbrev pub steals : List Given
steals =
    with_room (input.Command (Some (Steal (1 ∷ 2 ∷ []))))
    ∷ with_room (input.Command (Some (Steal (3 ∷ 4 ∷ []))))
    ∷ with_room (input.Command (Some (RunTests (0 ∷ 1 ∷ 2 ∷ 3 ∷ 4 ∷ []))))
    ∷ with_room (input.Suite five)
    ∷ []

-- The first steal is answered by both of its tests and the second by none, as test 1 is the next; test 0 alone starts.
pub record StealRow : Type 0 where
  pub asks : all_asks steals ≡ Tell (Collected five) ∷ Tell (LogStart 0 2) ∷ Tell (Back (3 ∷ 4 ∷ [])) ∷ Tell (Back []) ∷ []
  pub runs : started_tests steals ≡ 0 ∷ []
