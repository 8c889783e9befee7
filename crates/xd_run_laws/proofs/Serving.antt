-- What else a mode keeps, and how it leaves workers and pool at its calls.
use Rattle.std.proofs.Common.{◌≡◌, ℕ, [], true, false, refl, ap, sym, ◌∙◌, subst, arith, inl, inr}
use Rattle.std.specs.Prelude.{◌==◌, ◌⊎◌, Option, None}
use Rattle.std.proofs.lemmas.Bool.Decides.{nat_tests}
use Rattle.xd_edge.specs.declared.mode.ModeKind.{ModeKind}
use Rattle.xd_edge.specs.declared.mode.ModeKind.TheVariants.{Load, WorkSteal}
use Rattle.xd_journal.specs.declared.entry.Entry.{Entry}
use Rattle.xd_journal.specs.declared.entry.Entry.TheVariants.{Ready, Collected, Done, Back, Finished, Refused, Down, NotStarted, Start, Run, RunAll, Steal, Shutdown, Kill, Over}
use Rattle.xd_run.specs.Table.{workers_of}
use Rattle.xd_run.specs.Plan.{Plan, UnansweredSteal, is_each}
use Rattle.xd_run.specs.Turn.{Turn}
use Rattle.xd_run.specs.Load.{load_refill}
use Rattle.xd_run.specs.Modes.{ModeCall, turned, load_turn, worksteal_turn}
use Rattle.xd_run.specs.Modes.ModeCall.{Share, Joined, TestDone, TestsBack, Died}
use Rattle.xd_run.specs.Books.{marked}
use Rattle.xd_run.specs.Workers.{made_collected}
use Rattle.xd_run.specs.Collections.{listed, unequal, with_list}
use Rattle.xd_run.specs.Sharing.{State, in_books}
use Rattle.xd_run.specs.Deaths.{steal_without}
use Rattle.xd_run.specs.State.{after_effect, after_entries, settled}
use Rattle.xd_run.specs.Outputs.{acts_of, turn_of}
use Rattle.xd_run.specs.Proper.{may_follow}
use Rattle.xd_run_laws.proofs.Logic.{differ, cases_of}
use Rattle.xd_run_laws.proofs.Rota.{seat-among}
use Rattle.xd_run_laws.proofs.Turns.{Tidy, InRota, good-first, in_rota-of}
use Rattle.xd_run_laws.proofs.Rule.{CallFits, Rule}
use Rattle.xd_run_laws.proofs.Inputs.{collecting-keeps}
use Rattle.xd_run_laws.proofs.InMode.{InMode}
use Rattle.xd_run_laws.proofs.LoadRule.{load_rule, load_plain}
use Rattle.xd_run_laws.proofs.StealRule.{steal_rule, steal_plain}
use Rattle.xd_run_laws.proofs.Busy.{AllWork, Employs, has_work}
use Rattle.xd_run_laws.proofs.LoadBusy as load
use Rattle.xd_run_laws.proofs.StealBusy as steal
use Rattle.xd_run_laws.proofs.Handing.{Fair, Serves, fair-refill, fair-refill_all, fair-share, serves-fair, serves-rule, serves-share}

-- two things kept

pub record Both (X Y : State → Type 0) (s : State) : Type 0 where
  pub first : X s
  pub second : Y s

-- what is kept beside a rule
pub record Beside (X Y : State → Type 0) : Type 0 where
  pub input : (s : State) (e : Entry) → may_follow s e ≡ true → Tidy s → X s → Y s → Y (after_effect s e)
  pub start : (s : State) (w slot : ℕ) → Y s → Y (after_effect s (Start w slot))
  pub shutdown : (s : State) (w : ℕ) → Y s → Y (after_effect s (Shutdown w))
  pub settled : (s : State) → Y s → Y (settled s)
  pub turns : (s : State) (c : ModeCall) → Tidy s → s.books.shared ≡ true → X s → Y s → CallFits s c → Y (after_entries s (acts_of c s))

pub rule-both : (X Y : State → Type 0) → Rule X → Beside X Y → Rule (Both X Y)
rule-both X Y rule more = record {
  input = λ s e h d k. record { first = rule.input s e h d k.first; second = more.input s e h d k.first k.second };
  start = λ s w slot k. record { first = rule.start s w slot k.first; second = more.start s w slot k.second };
  shutdown = λ s w p k. record { first = rule.shutdown s w p k.first; second = more.shutdown s w k.second };
  settled = λ s k. record { first = rule.settled s k.first; second = more.settled s k.second };
  turns = λ s c d h k f. (let t = rule.turns s c d h k.first f in record {
    fit = record { orderly = t.fit.orderly; tidy = t.fit.tidy; also = record { first = t.fit.also; second = more.turns s c d h k.first k.second f } };
    kin = t.kin;
    settings = t.settings;
  });
  agrees = λ s c d h k f. rule.agrees s c d h k.first f;
  queue = λ s k h. rule.queue s k.first h;
}

-- the test that a worker ended leaves all others at work
abbrev pub OthersWork : ℕ → State → Type 0
OthersWork w s = (s.books.table.pool ≡ []) ⊎ ((v : ℕ) → InRota s v → (v == w) ≡ false → has_work v s.books.table ≡ true)

-- what is known of the workers before a call
abbrev pub Earlier : State → ModeCall → Type 0
Earlier s (TestDone w ms) = OthersWork w s
Earlier s _ = Unit {0}

-- how a mode without slots of tests leaves workers and pool
pub record Server (X : State → Type 0) : Type 0 where
  pub rule : Rule X
  pub work : (s : State) (c : ModeCall) → Tidy s → s.books.shared ≡ true → X s → CallFits s c → (c ≡ TestsBack → s.plan.mode ≡ WorkSteal) → Earlier s c → AllWork (workers_of s.books.table) (turned s.plan.mode c (turn_of s)).table
  pub serves : (s : State) (c : ModeCall) → Tidy s → s.books.shared ≡ true → X s → CallFits s c → Serves s (turned s.plan.mode c (turn_of s))
  pub steals : (s : State) → X s → (s.plan.mode ≡ WorkSteal) ⊎ (s.plan.steal ≡ None)
  pub each : (s : State) → X s → is_each s.plan.mode ≡ false

-- one worker is served, and the others had work
pub one-work : (f : ℕ → Turn → Turn) (w : ℕ) (s : State) → Employs f w (turn_of s) → OthersWork w s → AllWork (workers_of s.books.table) (f w (turn_of s)).table
one-work f w s e o = elim o [
  | inl z ↦ inl (e.spent z)
  | inr k ↦ (elim e.here [
    | inl z ↦ inl z
    | inr h ↦ inr (λ v a. elim (cases_of (v == w)) [
      | inl same ↦ (let q : w ≡ v = grind (arith, nat_tests, same) in subst (λ (u : ℕ). has_work u (f w (turn_of s)).table ≡ true) q h)
      | inr other ↦ e.still v (k v a other)
    ])
  ])
]

-- no steal is ever open

abbrev pub NoSteal : State → Type 0
NoSteal s = s.plan.steal ≡ None

pub no_steal-input : (s : State) (e : Entry) → may_follow s e ≡ true → NoSteal s → NoSteal (after_effect s e)
no_steal-input s (Ready w) h n = n
no_steal-input s (Collected w g) h n = collecting-keeps NoSteal (in_books (λ b. marked (made_collected w) (with_list w g b)) s) w (unequal w g (listed w s.books)) n n n (λ z. n)
no_steal-input s (Done w i u m o) h n = n
no_steal-input s (Back w is) h n = refl
no_steal-input s (Finished w) h n = n
no_steal-input s (Refused w t) h n = n
no_steal-input s (Down w c o) h n = ap (λ (a : Option UnansweredSteal). steal_without w a) n
no_steal-input s (NotStarted w) h n = ap (λ (a : Option UnansweredSteal). steal_without w a) n
no_steal-input s (Start w slot) h n = absurd (differ h)
no_steal-input s (Run w is) h n = absurd (differ h)
no_steal-input s (RunAll w) h n = absurd (differ h)
no_steal-input s (Steal w is) h n = absurd (differ h)
no_steal-input s (Shutdown w) h n = absurd (differ h)
no_steal-input s (Kill w) h n = absurd (differ h)
no_steal-input s (Over how) h n = absurd (differ h)

-- load

load-fair : (s : State) (c : ModeCall) → NoSteal s → Fair (load_turn c (turn_of s))
load-fair s c n = by c
  where
    first : Fair (turn_of s)
    first = record { steal = n; fair = inr refl }

    by : (c : ModeCall) → Fair (load_turn c (turn_of s))
    by (Share slots) = fair-share (turn_of s) first
    by (Joined w slot) = fair-refill_all (turn_of s) first
    by (TestDone w ms) = fair-refill ms w (turn_of s) first
    by TestsBack = first
    by Died = fair-refill_all (turn_of s) first

abbrev pub InLoad : State → Type 0
InLoad = Both (InMode Load) NoSteal

load_beside : Beside (InMode Load) NoSteal
load_beside = record {
  input = λ s e h d x n. no_steal-input s e h n;
  start = λ s w slot n. n;
  shutdown = λ s w n. n;
  settled = λ s n. n;
  turns = λ s c d h x n f. ap (λ (p : Plan). p.steal) (load_rule.agrees s c d h x f).plan ∙ ap (λ (k : ModeKind). (turned k c (turn_of s)).plan.steal) x ∙ (load-fair s c n).steal;
}

load-back : (s : State) → InMode Load s → s.plan.mode ≡ WorkSteal → ⊥
load-back s m e = (let z : Load ≡ WorkSteal = sym m ∙ e in cc)

load-work : (s : State) (c : ModeCall) → Tidy s → s.books.shared ≡ true → InLoad s → CallFits s c → (c ≡ TestsBack → s.plan.mode ≡ WorkSteal) → Earlier s c → AllWork (workers_of s.books.table) (load_turn c (turn_of s)).table
load-work s (Share slots) d h x f b o =
    load.share-work s (turn_of s) (load_plain s x.first) (good-first s d h) (λ v a. sym (d.placed.fits.marks v (seat-among v s.books.table.rota ∙ a)) ∙ f.unshut v)
load-work s (Joined w slot) d h x f b o = load.refill_all-work s (turn_of s) (load_plain s x.first) (good-first s d h)
load-work s (TestDone w ms) d h x f b o = one-work (load_refill ms) w s (load.refill-employs ms w (turn_of s) (in_rota-of s (turn_of s) w (good-first s d h) f)) o
load-work s TestsBack d h x f b o = absurd (load-back s x.first (b refl))
load-work s Died d h x f b o = load.refill_all-work s (turn_of s) (load_plain s x.first) (good-first s d h)

pub load_server : Server InLoad
load_server = record {
  rule = rule-both (InMode Load) NoSteal load_rule load_beside;
  work = λ s c d h x f b o. subst (λ (k : ModeKind). AllWork (workers_of s.books.table) (turned k c (turn_of s)).table) (sym x.first) (load-work s c d h x f b o);
  serves = λ s c d h x f. subst (λ (k : ModeKind). Serves s (turned k c (turn_of s))) (sym x.first) (serves-fair s (load_turn c (turn_of s)) (load-fair s c x.second));
  steals = λ s x. inr x.second;
  each = λ s x. ap is_each x.first;
}

-- worksteal

steal-work : (s : State) (c : ModeCall) → AllWork (workers_of s.books.table) (worksteal_turn c (turn_of s)).table
steal-work s (Share slots) = steal.share-work (turn_of s)
steal-work s (Joined w slot) = steal.rule-work (turn_of s)
steal-work s (TestDone w ms) = steal.rule-work (turn_of s)
steal-work s TestsBack = steal.rule-work (turn_of s)
steal-work s Died = steal.rule-work (turn_of s)

steal-serves : (s : State) (c : ModeCall) → Tidy s → s.books.shared ≡ true → InMode WorkSteal s → Serves s (worksteal_turn c (turn_of s))
steal-serves s (Share slots) d h m = serves-share s (steal_plain s m) (good-first s d h)
steal-serves s (Joined w slot) d h m = serves-rule s (steal_plain s m) (good-first s d h)
steal-serves s (TestDone w ms) d h m = serves-rule s (steal_plain s m) (good-first s d h)
steal-serves s TestsBack d h m = serves-rule s (steal_plain s m) (good-first s d h)
steal-serves s Died d h m = serves-rule s (steal_plain s m) (good-first s d h)

pub steal_server : Server (InMode WorkSteal)
steal_server = record {
  rule = steal_rule;
  work = λ s c d h x f b o. subst (λ (k : ModeKind). AllWork (workers_of s.books.table) (turned k c (turn_of s)).table) (sym x) (steal-work s c);
  serves = λ s c d h x f. subst (λ (k : ModeKind). Serves s (turned k c (turn_of s))) (sym x) (steal-serves s c d h x);
  steals = λ s x. inl x;
  each = λ s x. ap is_each x;
}
