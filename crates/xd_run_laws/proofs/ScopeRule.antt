-- The modes with scopes keep their rule.
use Rattle.std.proofs.Common.{◌≡◌, true, false, refl, sym, ap, ◌∙◌, subst, arith}
use Rattle.xd_edge.specs.declared.mode.ModeKind.{ModeKind}
use Rattle.xd_edge.specs.declared.mode.ModeKind.TheVariants.{Local, Each, Load, LoadScope, LoadFile, LoadGroup, WorkSteal}
use Rattle.xd_journal.specs.declared.settings.Settings.{Settings}
use Rattle.xd_run.specs.Table.{Table}
use Rattle.xd_run.specs.Plan.{Plan, is_each, is_scope}
use Rattle.xd_run.specs.Turn.{Turn}
use Rattle.xd_run.specs.Modes.{ModeCall, turned, scope_turn}
use Rattle.xd_run.specs.Modes.ModeCall.{Share, Joined, TestDone, TestsBack, Died}
use Rattle.xd_run.specs.Sharing.{State}
use Rattle.xd_run.specs.State.{after_entries, no_one}
use Rattle.xd_run.specs.Outputs.{turn_of, acts_of}
use Rattle.xd_run_laws.proofs.Logic.{differ}
use Rattle.xd_run_laws.proofs.Rota.{seat-among}
use Rattle.xd_run_laws.proofs.Turns.{Tidy, good-first}
use Rattle.xd_run_laws.proofs.Rule.{Agrees, CallFits, Turned, Rule, agrees-good, turned-good}
use Rattle.xd_run_laws.proofs.Queue.{QueueFits, queue-members}
use Rattle.xd_run_laws.proofs.ScopeTurns.{IsScoped, Fine, fine-share, fine-refill, fine-refill_all}
use Rattle.xd_run_laws.proofs.ScopeInputs.{Scoped, scoped-input, scoped-start, scoped-shutdown}

pub turned-scope : (k : ModeKind) (c : ModeCall) (t : Turn) → is_scope k ≡ true → turned k c t ≡ scope_turn c t
turned-scope Local c t h = absurd (differ h)
turned-scope Each c t h = absurd (differ h)
turned-scope Load c t h = absurd (differ h)
turned-scope LoadScope c t h = refl
turned-scope LoadFile c t h = refl
turned-scope LoadGroup c t h = refl
turned-scope WorkSteal c t h = absurd (differ h)

pub scope-fine : (s : State) (c : ModeCall) → Tidy s → s.books.shared ≡ true → Scoped s → CallFits s c → Fine s (scope_turn c (turn_of s))
scope-fine s (Share slots) d h k f = fine-share s k.mode d (λ v a. sym (d.placed.fits.marks v (seat-among v s.books.table.rota ∙ a)) ∙ f.unshut v) (record { good = good-first s d h; queue = k.queue })
scope-fine s (Joined w slot) d h k f = fine-refill_all s k.mode (record { good = good-first s d h; queue = k.queue })
scope-fine s (TestDone w ms) d h k f = fine-refill s w (turn_of s) k.mode f (record { good = good-first s d h; queue = k.queue })
scope-fine s TestsBack d h k f = record { good = good-first s d h; queue = k.queue }
scope-fine s Died d h k f = fine-refill_all s k.mode (record { good = good-first s d h; queue = k.queue })

-- the state after a turn
scoped-turn : (s : State) (t : Turn) → IsScoped s → Fine s t → Scoped (after_entries s t.acts)
scoped-turn s t k f =
    let m = after_entries s t.acts in
    let mode : m.plan.mode ≡ s.plan.mode = ap (λ (p : Plan). p.mode) f.good.plan ∙ f.good.mode in
    record {
      mode = record { scope = ap is_scope mode ∙ k.scope; each = ap is_each mode ∙ k.each };
      queue = subst (λ (u : Table). QueueFits u m.plan m.books.members) (sym f.good.table) (subst (λ (p : Plan). QueueFits t.table p m.books.members) (sym f.good.plan)
          (queue-members t.table t.plan s.books.members m.books.members (λ v h. sym (f.good.kin.collected_same v) ∙ h) f.queue));
    }

scope-turned : (s : State) (c : ModeCall) → Tidy s → s.books.shared ≡ true → Scoped s → CallFits s c → Turned Scoped s (acts_of c s)
scope-turned s c d h k f =
    let t = scope_turn c (turn_of s) in
    let fine = scope-fine s c d h k f in
    subst (λ (u : Turn). Turned Scoped s u.acts) (sym (turned-scope s.plan.mode c (turn_of s) k.mode.scope)) (turned-good Scoped s t fine.good (scoped-turn s t k.mode fine))

pub scope_rule : Rule Scoped
scope_rule = record {
  input = scoped-input;
  start = scoped-start;
  shutdown = λ s w p k. scoped-shutdown s w k;
  settled = λ s k. record { mode = record { scope = k.mode.scope; each = k.mode.each }; queue = k.queue };
  turns = scope-turned;
  agrees = λ s c d h k f. subst (λ (t : Turn). Agrees s t) (sym (turned-scope s.plan.mode c (turn_of s) k.mode.scope)) (agrees-good s (scope_turn c (turn_of s)) (scope-fine s c d h k f).good);
  queue = λ s k h. k.queue;
}

each-no : (k : ModeKind) → is_scope k ≡ true → is_each k ≡ false
each-no Local h = refl
each-no Each h = absurd (differ h)
each-no Load h = refl
each-no LoadScope h = refl
each-no LoadFile h = refl
each-no LoadGroup h = refl
each-no WorkSteal h = refl

pub scoped-none : (settings : Settings) → is_scope settings.mode ≡ true → Scoped (no_one settings)
scoped-none settings h = record {
  mode = record { scope = h; each = each-no settings.mode h };
  queue = record { whole = λ x. omega arith; filled = refl; given = λ w x h. omega arith; late = λ w h. refl; steal = refl };
}
