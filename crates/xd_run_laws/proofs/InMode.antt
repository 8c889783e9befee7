-- The mode of a run stays, and its outputs are those of its own rule.
use Rattle.std.proofs.Common.{◌≡◌, true, false, ap, sym, ◌∙◌, subst}
use Rattle.xd_edge.specs.declared.mode.ModeKind.{ModeKind}
use Rattle.xd_journal.specs.declared.entry.Entry.{Entry}
use Rattle.xd_journal.specs.declared.entry.Entry.TheVariants.{Ready, Collected, Done, Back, Finished, Refused, Down, NotStarted, Start, Run, RunAll, Steal, Shutdown, Kill, Over}
use Rattle.xd_run.specs.Plan.{Plan, is_scope}
use Rattle.xd_run.specs.Turn.{Turn}
use Rattle.xd_run.specs.Modes.{ModeCall, turned}
use Rattle.xd_run.specs.Books.{marked}
use Rattle.xd_run.specs.Workers.{made_collected}
use Rattle.xd_run.specs.Collections.{unequal, listed, with_list}
use Rattle.xd_run.specs.Sharing.{State, in_books}
use Rattle.xd_run.specs.State.{after_effect}
use Rattle.xd_run.specs.Outputs.{turn_of, acts_of}
use Rattle.xd_run.specs.Proper.{may_follow}
use Rattle.xd_run_laws.proofs.Logic.{differ}
use Rattle.xd_run_laws.proofs.Turns.{Good}
use Rattle.xd_run_laws.proofs.Inputs.{collecting-keeps}
use Rattle.xd_run_laws.proofs.Queue.{QueueFits}
use Rattle.xd_run_laws.proofs.Rule.{Agrees, Turned, agrees-good, turned-good}

-- the mode is this one
abbrev pub InMode : ModeKind → State → Type 0
InMode k s = s.plan.mode ≡ k

pub mode-input : (k : ModeKind) (s : State) (e : Entry) → may_follow s e ≡ true → InMode k s → InMode k (after_effect s e)
mode-input k s (Ready w) h m = m
mode-input k s (Collected w g) h m = collecting-keeps (InMode k) (in_books (λ b. marked (made_collected w) (with_list w g b)) s) w (unequal w g (listed w s.books)) m m m (λ n. m)
mode-input k s (Done w i u t o) h m = m
mode-input k s (Back w i) h m = m
mode-input k s (Finished w) h m = m
mode-input k s (Refused w t) h m = m
mode-input k s (Down w r o) h m = m
mode-input k s (NotStarted w) h m = m
mode-input k s (Start w slot) h m = absurd (differ h)
mode-input k s (Run w is) h m = absurd (differ h)
mode-input k s (RunAll w) h m = absurd (differ h)
mode-input k s (Steal w is) h m = absurd (differ h)
mode-input k s (Shutdown w) h m = absurd (differ h)
mode-input k s (Kill w) h m = absurd (differ h)
mode-input k s (Over how) h m = absurd (differ h)

-- the outputs of a mode are those of its own rule
pub turned-in : (k : ModeKind) (X : State → Type 0) (s : State) (c : ModeCall) → InMode k s → Turned X s (turned k c (turn_of s)).acts → Turned X s (acts_of c s)
turned-in k X s c m t = subst (λ (q : ModeKind). Turned X s (turned q c (turn_of s)).acts) (sym m) t

-- what they make of the state, too
pub agrees-in : (k : ModeKind) (s : State) (c : ModeCall) → InMode k s → Good s (turned k c (turn_of s)) → Agrees s (turned s.plan.mode c (turn_of s))
agrees-in k s c m g = subst (λ (q : ModeKind). Agrees s (turned q c (turn_of s))) (sym m) (agrees-good s (turned k c (turn_of s)) g)

-- a mode that hands out tests has no queue of units
pub no-queue : (k : ModeKind) (s : State) → is_scope k ≡ false → InMode k s → is_scope s.plan.mode ≡ true → QueueFits s.books.table s.plan s.books.members
no-queue k s n m h = absurd (differ (sym n ∙ ap is_scope (sym m) ∙ h))

pub turned-mode : (k : ModeKind) (s : State) (t : Turn) → InMode k s → Good s t → Turned (InMode k) s t.acts
turned-mode k s t m g = turned-good (InMode k) s t g (ap (λ (p : Plan). p.mode) g.plan ∙ g.mode ∙ m)
