-- Mode worksteal keeps its rule.
use Rattle.std.proofs.Common.{◌≡◌, true, refl, sym, subst}
use Rattle.xd_edge.specs.declared.mode.ModeKind.TheVariants.{WorkSteal}
use Rattle.xd_run.specs.Modes.{ModeCall, turned}
use Rattle.xd_run.specs.Modes.ModeCall.{Share, Joined, TestDone, TestsBack, Died}
use Rattle.xd_run.specs.Sharing.{State}
use Rattle.xd_run.specs.Outputs.{turn_of}
use Rattle.xd_run_laws.proofs.Turns.{Tidy, Good, IsPlain, good-first}
use Rattle.xd_run_laws.proofs.Rule.{CallFits, Rule}
use Rattle.xd_run_laws.proofs.InMode.{InMode, agrees-in, mode-input, no-queue, turned-in, turned-mode}
use Rattle.xd_run_laws.proofs.StealTurns.{good-rule, good-share}

pub steal_plain : (s : State) → InMode WorkSteal s → IsPlain s.plan.mode
steal_plain s m = subst IsPlain (sym m) (record { each = refl; scope = refl })

steal-good : (s : State) (c : ModeCall) → Tidy s → s.books.shared ≡ true → InMode WorkSteal s → CallFits s c → Good s (turned WorkSteal c (turn_of s))
steal-good s (Share slots) d h m f = good-share s (turn_of s) (steal_plain s m) (good-first s d h)
steal-good s (Joined w slot) d h m f = good-rule s (turn_of s) (steal_plain s m) (good-first s d h)
steal-good s (TestDone w ms) d h m f = good-rule s (turn_of s) (steal_plain s m) (good-first s d h)
steal-good s TestsBack d h m f = good-rule s (turn_of s) (steal_plain s m) (good-first s d h)
steal-good s Died d h m f = good-rule s (turn_of s) (steal_plain s m) (good-first s d h)

pub steal_rule : Rule (InMode WorkSteal)
steal_rule = record {
  input = λ s e h d m. mode-input WorkSteal s e h m;
  start = λ s w slot m. m;
  shutdown = λ s w p m. m;
  settled = λ s m. m;
  turns = λ s c d h m f. turned-in WorkSteal (InMode WorkSteal) s c m (turned-mode WorkSteal s (turned WorkSteal c (turn_of s)) m (steal-good s c d h m f));
  agrees = λ s c d h m f. agrees-in WorkSteal s c m (steal-good s c d h m f);
  queue = λ s m. no-queue WorkSteal s refl m;
}
