-- Mode each keeps its rule.
use Rattle.std.proofs.Common.{◌≡◌, ℕ, true, refl, sym, ap, subst}
use Rattle.xd_edge.specs.declared.mode.ModeKind.TheVariants.{Each}
use Rattle.xd_run.specs.Plan.{is_each, is_scope}
use Rattle.xd_run.specs.Each.{joins}
use Rattle.xd_run.specs.Modes.{ModeCall, turned}
use Rattle.xd_run.specs.Modes.ModeCall.{Share, Joined, TestDone, TestsBack, Died}
use Rattle.xd_run.specs.Sharing.{State}
use Rattle.xd_run.specs.Outputs.{turn_of}
use Rattle.xd_run_laws.proofs.Turns.{Tidy, Good, good-first}
use Rattle.xd_run_laws.proofs.Rule.{CallFits, Rule}
use Rattle.xd_run_laws.proofs.InMode.{InMode, agrees-in, mode-input, no-queue, turned-in, turned-mode}
use Rattle.xd_run_laws.proofs.EachTurns.{good-share, good-joins}

each-good : (s : State) (c : ModeCall) → Tidy s → s.books.shared ≡ true → InMode Each s → CallFits s c → Good s (turned Each c (turn_of s))
each-good s (Share slots) d h m f = good-share s slots (ap is_each m) d h f
each-good s (Joined w slot) d h m f = subst (λ (k : ℕ). Good s (joins w k (turn_of s))) (sym f.slot_is) (good-joins s w (ap is_each m) (ap is_scope m) d h f.rota f.unshut)
each-good s (TestDone w ms) d h m f = good-first s d h
each-good s TestsBack d h m f = good-first s d h
each-good s Died d h m f = good-first s d h

pub each_rule : Rule (InMode Each)
each_rule = record {
  input = λ s e h d m. mode-input Each s e h m;
  start = λ s w slot m. m;
  shutdown = λ s w p m. m;
  settled = λ s m. m;
  turns = λ s c d h m f. turned-in Each (InMode Each) s c m (turned-mode Each s (turned Each c (turn_of s)) m (each-good s c d h m f));
  agrees = λ s c d h m f. agrees-in Each s c m (each-good s c d h m f);
  queue = λ s m. no-queue Each s refl m;
}
