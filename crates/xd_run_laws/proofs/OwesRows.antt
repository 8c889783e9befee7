-- Runs in their midst, in each mode, and who owes the next step there.
use Rattle.std.specs.Prelude.{◌≡◌, ℕ, Bool, List, [], ◌∷◌, ◌++◌, map, true, false}
use Rattle.std.proofs.Common.{refl, ap, sym, ◌∙◌, take}
use Rattle.xd_edge.specs.declared.mode.ModeKind.{ModeKind}
use Rattle.xd_edge.specs.declared.mode.ModeKind.TheVariants.{Each, Load, LoadScope, LoadFile, LoadGroup, WorkSteal}
use Rattle.xd_journal.specs.declared.settings.Settings.{Settings}
use Rattle.xd_journal.specs.declared.entry.Ids.TheVariants as ids
use Rattle.xd_journal.specs.declared.entry.Outcome.TheVariants.{Passed}
use Rattle.xd_journal.specs.declared.entry.Entry.{Entry}
use Rattle.xd_journal.specs.declared.entry.Entry.TheVariants.{Ready, Collected, Done, Finished}
use Rattle.xd_run.specs.declared.member.Member.{Member}
use Rattle.xd_run.specs.Books.{on_table}
use Rattle.xd_run.specs.Histories.{after_starts, is_over, after_inputs}
use Rattle.xd_run.specs.Owes.{owes, someone_owes}
use Rattle.xd_run.specs.Proper.{IsProper}
use Rattle.xd_run.specs.Sharing.{State, in_books}
use Rattle.xd_run_laws.proofs.Logic.{clash}
use Rattle.xd_run_laws.proofs.OwingRuns.{owed}
use Rattle.xd_run_laws.proofs.RetryRows.{first_crash, one_retry}
use Rattle.xd_run_laws.proofs.Rows.{a_death, three}

-- who owes, in order of worker numbers
abbrev who_owe : State → List Bool
who_owe s = map (owes s) s.books.members

abbrev in_mode : ModeKind → Settings
in_mode k = record three { mode = k }

-- the tests `a::1`, `a::2` and `b::1`
abbrev scoped : List (List ℕ)
scoped = (97 ∷ 58 ∷ 58 ∷ 49 ∷ []) ∷ (97 ∷ 58 ∷ 58 ∷ 50 ∷ []) ∷ (98 ∷ 58 ∷ 58 ∷ 49 ∷ []) ∷ []

-- both workers collected them
abbrev collected : List Entry
collected = Ready 0 ∷ Collected 0 (ids.List scoped) ∷ Ready 1 ∷ Collected 1 (ids.List scoped) ∷ []

abbrev following : ModeKind → List Entry → State
following k inputs = after_inputs (after_starts (in_mode k)) inputs

-- nobody is ready
opening : who_owe (following Load []) ≡ true ∷ true ∷ []
opening = refl

-- worker 1 is ready and has not collected, and worker 0 has to wait for it: it owes nothing
one_collected : who_owe (following Load (take 3 collected)) ≡ false ∷ true ∷ []
one_collected = refl

-- mode load: worker 0 holds tests 0 and 2, worker 1 holds test 1, and both are to end
load_shared : who_owe (following Load collected) ≡ true ∷ true ∷ []
load_shared = refl

-- worker 0 went down, and owes nothing any more; whoever replaces it is not ready
load_crashed : who_owe (after_inputs (after_starts three) (take 5 a_death)) ≡ false ∷ true ∷ true ∷ []
load_crashed = refl

-- the same where the test is tried again
load_retried : who_owe (after_inputs (after_starts one_retry) first_crash) ≡ false ∷ true ∷ true ∷ []
load_retried = refl

-- mode each: worker 0 ran all of its tests and ended, worker 1 is to end
each_ended : who_owe (following Each (collected ++ Done 0 0 Passed 5 [] ∷ Done 0 1 Passed 5 [] ∷ Done 0 2 Passed 5 [] ∷ Finished 0 ∷ [])) ≡ false ∷ true ∷ []
each_ended = refl

-- mode loadfile: worker 0 has a test of its file left
file_shared : who_owe (following LoadFile (collected ++ Done 0 0 Passed 5 [] ∷ [])) ≡ true ∷ true ∷ []
file_shared = refl

scope_shared : who_owe (following LoadScope collected) ≡ true ∷ true ∷ []
scope_shared = refl

group_shared : who_owe (following LoadGroup collected) ≡ true ∷ true ∷ []
group_shared = refl

-- six tests
abbrev six : List (List ℕ)
six = (97 ∷ []) ∷ (98 ∷ []) ∷ (99 ∷ []) ∷ (100 ∷ []) ∷ (101 ∷ []) ∷ (102 ∷ []) ∷ []

-- mode worksteal: worker 0 ran tests 0 and 1 and holds test 2, and worker 1 is asked for one of the three that it holds
abbrev asked : List Entry
asked = Ready 0 ∷ Collected 0 (ids.List six) ∷ Ready 1 ∷ Collected 1 (ids.List six) ∷ Done 0 0 Passed 5 [] ∷ Done 0 1 Passed 5 [] ∷ []

steal_asked : who_owe (following WorkSteal asked) ≡ false ∷ true ∷ []
steal_asked = refl

asked-proper : IsProper (in_mode WorkSteal) asked
asked-proper = record { mode = refl; some_worker = refl; few_workers = refl; few_restarts = refl; follow = refl }

-- what the law rules out: a run in which each of two workers holds one test, nobody was told to shut down, and test 2 waits
abbrev stuck : State
stuck =
    in_books (on_table (λ t. record t { pool = 2 ∷ []; rota = record { worker = 0; held = 0 ∷ []; shut = false } ∷ record { worker = 1; held = 1 ∷ []; shut = false } ∷ [] }))
    (in_books (λ b. record b { members = map (λ (m : Member). record m { shut = false }) b.members; shutting = false }) (after_inputs (after_starts three) (take 4 a_death)))

stuck-owes : someone_owes stuck ≡ false
stuck-owes = refl

stuck-over : is_over stuck.books ≡ false
stuck-over = refl

never_stuck : (inputs : List Entry) → IsProper three inputs → after_inputs (after_starts three) inputs ≡ stuck → ⊥
never_stuck inputs p e = clash (someone_owes stuck) stuck-owes (ap someone_owes (sym e) ∙ owed three inputs p (ap (λ (s : State). is_over s.books) e ∙ stuck-over))
