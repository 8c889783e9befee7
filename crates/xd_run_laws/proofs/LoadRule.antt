-- Mode load keeps its rule.
use Rattle.std.proofs.Common.{◌≡◌, true, refl, sym, subst}
use Rattle.xd_edge.specs.declared.mode.ModeKind.TheVariants.{Load}
use Rattle.xd_run.specs.Modes.{ModeCall, turned}
use Rattle.xd_run.specs.Modes.ModeCall.{Share, Joined, TestDone, TestsBack, Died}
use Rattle.xd_run.specs.Sharing.{State}
use Rattle.xd_run.specs.Outputs.{turn_of}
use Rattle.xd_run_laws.proofs.Turns.{Tidy, Good, IsPlain, good-first}
use Rattle.xd_run_laws.proofs.Rule.{CallFits, Rule}
use Rattle.xd_run_laws.proofs.InMode.{InMode, agrees-in, mode-input, no-queue, turned-in, turned-mode}
use Rattle.xd_run_laws.proofs.LoadTurns.{good-refill, good-refill_all, good-share}

pub load_plain : (s : State) → InMode Load s → IsPlain s.plan.mode
load_plain s m = subst IsPlain (sym m) (record { each = refl; scope = refl })

load-good : (s : State) (c : ModeCall) → Tidy s → s.books.shared ≡ true → InMode Load s → CallFits s c → Good s (turned Load c (turn_of s))
load-good s (Share slots) d h m f = good-share s (turn_of s) (load_plain s m) (good-first s d h)
load-good s (Joined w slot) d h m f = good-refill_all s (turn_of s) (load_plain s m) (good-first s d h)
load-good s (TestDone w ms) d h m f = good-refill s ms w (turn_of s) (load_plain s m) f (good-first s d h)
load-good s TestsBack d h m f = good-first s d h
load-good s Died d h m f = good-refill_all s (turn_of s) (load_plain s m) (good-first s d h)

pub load_rule : Rule (InMode Load)
load_rule = record {
  input = λ s e h d m. mode-input Load s e h m;
  start = λ s w slot m. m;
  shutdown = λ s w p m. m;
  settled = λ s m. m;
  turns = λ s c d h m f. turned-in Load (InMode Load) s c m (turned-mode Load s (turned Load c (turn_of s)) m (load-good s c d h m f));
  agrees = λ s c d h m f. agrees-in Load s c m (load-good s c d h m f);
  queue = λ s m. no-queue Load s refl m;
}
