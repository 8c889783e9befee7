-- What the session itself knows of the plan: it names items by it, and judges answers to a steal.
use Rattle.std.specs.Prelude.{ℕ, ◌^◌, ◌==◌, ◌&&◌, Bool, nat_lt, List, sum, take, fold, Option, Some, None, is_none, if◌then◌else◌}
use Rattle.xd_edge.specs.declared.mode.ModeKind.{ModeKind}
use Rattle.xd_journal.specs.declared.entry.Entry.{Entry}
use Rattle.xd_journal.specs.declared.entry.Entry.TheVariants.{Steal}
use Rattle.xd_run.specs.Numbers.{among, first_of}
use Rattle.xd_run.specs.Plan.{Plan, UnansweredSteal, is_each}
use Rattle.xd_session_books.specs.declared.plan.OpenSteal.{OpenSteal}
use Rattle.xd_session_books.specs.declared.plan.KnownPlan.{KnownPlan}

-- the mode, how many tests each slot has, and the open steal
pub record Known : Type 0 where
  pub mode : ModeKind
  pub sizes : List ℕ
  pub steal : Option UnansweredSteal

-- what is known of a plan
abbrev pub known_plan : Plan → Known
known_plan p = record { mode = p.mode; sizes = p.sizes; steal = p.steal }

-- the open steal of the definitions for which the session's own one stands
abbrev pub steal_of : Option OpenSteal → Option UnansweredSteal
steal_of None = None
steal_of (Some a) = Some (record { worker = a.worker; tests = a.tests })

-- what the session keeps of it
abbrev pub known_by : KnownPlan → Known
known_by k = record { mode = k.mode; sizes = k.sizes; steal = steal_of k.steal }

-- the first item of the slot; 0 but in mode each
-- Example: in mode each with three tests the first item of slot 1 is 3.
abbrev pub first_item : ℕ → Known → ℕ
first_item slot k = if is_each k.mode then sum (take slot k.sizes) else 0

-- the item at the head, where it is this one
abbrev pub where_is : ℕ → Option ℕ → Option ℕ
where_is item None = None
where_is item (Some head) = if head == item then Some head else None

-- the item is held after the head, by what a ledger tells of it: it is a number that the ledger has, it is held, and it
-- is not the head
abbrev pub is_after : ℕ → List ℕ → Bool
is_after item held = nat_lt item (2 ^ 32) && among item held && is_none (where_is item (first_of held))

-- the open steal after an output of a mode
abbrev pub asked_by : Option UnansweredSteal → Entry → Option UnansweredSteal
asked_by a (Steal w tests) = Some (record { worker = w; tests = tests })
asked_by a _ = a

-- the open steal after these outputs of a mode
abbrev pub steal_told : List Entry → Option UnansweredSteal → Option UnansweredSteal
steal_told es a = fold asked_by a es
