-- What a worker may say: the inputs that break no rule. A choice of this project: pytest-xdist trusts its workers.
use Rattle.std.specs.Prelude.{◌≡◌, ℕ, ◌==◌, Bool, true, false, not, ◌&&◌, nat_le, List, [], ◌∷◌, length, drop, Some, None, is_some}
use Rattle.std.specs.List.{list_any, list_all}
use Rattle.std.specs.Str.{bytes_eq}
use Rattle.xd_edge.specs.Ids.{is_id}
use Rattle.xd_edge.specs.Limits.{most_tests}
use Rattle.xd_edge.specs.declared.mode.ModeKind.{ModeKind}
use Rattle.xd_edge.specs.declared.mode.ModeKind.TheVariants.{Local}
use Rattle.xd_journal.specs.declared.settings.Settings.{Settings}
use Rattle.xd_journal.specs.declared.entry.Ids.{Ids}
use Rattle.xd_journal.specs.declared.entry.Ids.TheVariants as ids
use Rattle.xd_journal.specs.declared.entry.Entry.{Entry}
use Rattle.xd_journal.specs.declared.entry.Entry.TheVariants.{Ready, Collected, Done, Back, Finished, Refused, Down, NotStarted}
use Rattle.xd_run.specs.Numbers.{all_among}
use Rattle.xd_run.specs.Table.{held}
use Rattle.xd_run.specs.Plan.{items_named}
use Rattle.xd_run.specs.Workers.{is_active, was_ready, has_collected, is_shut, slot_of}
use Rattle.xd_run.specs.Collections.{listed}
use Rattle.xd_run.specs.Sharing.{State}
use Rattle.xd_run.specs.Outputs.{after_input}
use Rattle.xd_run.specs.Histories.{after_starts}

-- the most workers that a run may have at once
abbrev pub most_workers : ℕ
most_workers = 32

-- the most restarts that a run may allow
abbrev pub most_restarts : ℕ
most_restarts = 1000

-- the item is the first that the worker holds
abbrev pub is_head : ℕ → ℕ → State → Bool
is_head worker item s = elim (held worker s.books.table) [ [] ↦ false | t ∷ ts ↦ item == t ]

-- the worker's number for a test names its head
abbrev pub names_head : ℕ → ℕ → State → Bool
names_head worker index s = list_any (λ item. is_head worker item s) (items_named (slot_of worker s.books) (index ∷ []) s.plan)

-- the text is among these
abbrev pub has_text : List ℕ → List (List ℕ) → Bool
has_text x ys = list_any (λ y. bytes_eq x y) ys

-- no text stands twice
abbrev pub no_text_twice : List (List ℕ) → Bool
no_text_twice [] = true
no_text_twice (x ∷ xs) = not (has_text x xs) && no_text_twice xs

-- a collection within its bounds; the mark for an equal one stands only where there is one to compare with
abbrev pub are_ids : Ids → ℕ → State → Bool
are_ids ids.Same worker s = is_some (listed worker s.books)
are_ids (ids.List own) worker s = nat_le (length own) most_tests && list_all is_id own && no_text_twice own

-- an answer to the open steal: no tests, or exactly those that were asked for, each of them held after the head
abbrev pub may_give_back : ℕ → List ℕ → State → Bool
may_give_back worker indices s = elim s.plan.steal [
  | None ↦ false
  | Some a ↦ (a.worker == worker) && (elim indices [
    | [] ↦ true
    | i ∷ is ↦ bytes_eq (i ∷ is) a.tests && all_among (items_named (slot_of worker s.books) (i ∷ is) s.plan) (drop 1 (held worker s.books.table))
  ])
]

-- the input of an active worker breaks no rule
-- Example: gw0 holds 0 and 1: Done of 0 may follow, Done of 1 may not.
abbrev pub may_follow : State → Entry → Bool
may_follow s (Ready w) = is_active w s.books && not (was_ready w s.books)
may_follow s (Collected w given) = is_active w s.books && was_ready w s.books && not (has_collected w s.books) && are_ids given w s
may_follow s (Done w index outcome ms output) = is_active w s.books && names_head w index s
may_follow s (Back w indices) = is_active w s.books && may_give_back w indices s
may_follow s (Finished w) = is_active w s.books && is_shut w s.books && has_collected w s.books && (length (held w s.books.table) == 0)
may_follow s (Refused w text) = is_active w s.books && not (has_collected w s.books)
may_follow s (Down w cause output) = is_active w s.books
may_follow s (NotStarted w) = is_active w s.books && not (was_ready w s.books)
may_follow s _ = false

-- each input may follow where it stands
abbrev pub all_may_follow : State → List Entry → Bool
all_may_follow s [] = true
all_may_follow s (e ∷ es) = may_follow s e && all_may_follow (after_input s e) es

-- a mode of runs with workers
abbrev pub has_workers : ModeKind → Bool
has_workers Local = false
has_workers _ = true

-- settings within their limits, and inputs each of which may follow
pub record IsProper (settings : Settings) (inputs : List Entry) : Type 0 where
  pub mode : has_workers settings.mode ≡ true
  pub some_worker : nat_le 1 settings.workers ≡ true
  pub few_workers : nat_le settings.workers most_workers ≡ true
  pub few_restarts : nat_le settings.restarts most_restarts ≡ true
  pub follow : all_may_follow (after_starts settings) inputs ≡ true
