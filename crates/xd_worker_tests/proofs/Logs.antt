-- One log is open at a time.
use Rattle.std.proofs.Common.{◌≡◌, ℕ, ◌+◌, List, [], ◌∷◌, ◌++◌, length, take, Bool, true, false, ◌&&◌, Option, Some, None, refl, ap, sym, subst, ◌∙◌, arith, leb-true}
use Rattle.std.specs.Prelude.{◌-◌, map, if◌then◌else◌}
use Rattle.std.specs.List.{range_with_len}
use Rattle.xd_commands.specs.declared.order.Order.{Order}
use Rattle.xd_commands.specs.declared.order.Order.TheVariants.{RunTests, RunAll, Steal, Shutdown}
use Rattle.xd_journal.specs.Kept.{most_of_one}
use Rattle.xd_journal.specs.declared.entry.Outcome.{Outcome}
use Rattle.xd_journal.specs.declared.news.What.TheVariants.{Back, Finished, Collected, LogStart, Done}
use Rattle.xd_worker_tests.specs.declared.line_entry.LineEntry.{LineEntry}
use Rattle.xd_worker_tests.specs.declared.line_entry.LineEntry.TheVariants.{Test, Mark}
use Rattle.xd_worker_tests.specs.declared.phase.Ending.{Ending}
use Rattle.xd_worker_tests.specs.declared.phase.Ending.TheVariants.{BadCommand, ReceivingEnded}
use Rattle.xd_worker_tests.specs.declared.phase.Phase.{Phase}
use Rattle.xd_worker_tests.specs.declared.phase.Phase.TheVariants.{Awaiting, Serving, Stopped, Over}
use Rattle.xd_worker_tests.specs.declared.phase.Phase.TheVariants as phase
use Rattle.xd_worker_tests.specs.declared.ask.Ask.{Ask}
use Rattle.xd_worker_tests.specs.declared.ask.Ask.TheVariants.{Tell, CloseLog, End}
use Rattle.xd_worker_tests.specs.declared.input.Input.{Input}
use Rattle.xd_worker_tests.specs.declared.input.Input.TheVariants as input
use Rattle.xd_worker_tests.specs.Line.{FunctionCall, left, front, queue, running_test, head_test, number_of_log, can_give, can_ask, all_queued, kept, stolen_tests}
use Rattle.xd_worker_tests.specs.Turns.{CallTurn, call_turn_of, answered, answered_in, over, ended_early, ending_text, asking, finished, test_started, has_log, too_many_channels, moved_on, line_settled, given, stolen, stolen_if, told, item_heard_in, item_heard, all_heard, serving_suite, collected_in, receiving_ended_in, suite_refused_in, piece_asks, put_out, output_fed, told_done, done_of}
use Rattle.xd_worker_tests.specs.History.{Given, call_after, turn_after}
use Rattle.xd_worker_tests.specs.Logs.{Logs, begun_tests, logs_of, LogSteps, OneLog}
use Rattle.xd_worker_tests.proofs.Once.{and_first, and_last}

pub more_steps : (room : Bool) (a b : List Ask) (l m k : Logs) → LogSteps room a l m → LogSteps room b m k → LogSteps room (a ++ b) l k
more_steps room [] b l m k e s = subst (λ (x : Logs). LogSteps room b x k) e s
more_steps room (x ∷ a) b l m k e s = (e.0, e.1, more_steps room a b e.0 m k e.2 s)

-- what a turn asked for so far, from these logs on
record Logged (room : Bool) (l : Logs) (t : CallTurn) : Type 0 where
  steps : LogSteps room t.asks l (logs_of t.call)
  awaits : t.call.phase ≡ Awaiting → (t.call.ended ≡ 0) × (t.call.running ≡ false)

over_logged : (room : Bool) (l : Logs) (text : Option (List ℕ)) (t : CallTurn) → t.call.running ≡ false → Logged room l t → Logged room l (over text t)
over_logged room l text t idle w = record {
  steps = more_steps room t.asks (End text ∷ []) l (logs_of t.call) (logs_of t.call) w.steps (logs_of t.call, (idle, refl), refl);
  awaits = λ e. cc;
}

early_logged : (room : Bool) (l : Logs) (t : CallTurn) (e : Ending) → Logged room l t → Logged room l (ended_early e t)
early_logged room l t e w = go t.call.running refl
  where
    go : (v : Bool) → t.call.running ≡ v → Logged room l (if v then record t { call = record (t.call) { phase = phase.Ending e } } else over (ending_text e) t)
    go true s = record { steps = w.steps; awaits = λ z. cc }
    go false s = over_logged room l (ending_text e) t s w

finished_logged : (room : Bool) (l : Logs) (t : CallTurn) → t.call.running ≡ false → Logged room l t → Logged room l (finished t)
finished_logged room l t idle w =
    over_logged room l None (asking (Tell Finished ∷ []) t) idle
    (record { steps = more_steps room t.asks (Tell Finished ∷ []) l (logs_of t.call) (logs_of t.call) w.steps (logs_of t.call, refl, refl); awaits = w.awaits })

-- where nothing runs, each log that was opened has ended
none_begun : (c : FunctionCall) → c.running ≡ false → begun_tests c ≡ c.ended
none_begun c idle = ap (λ (v : Bool). c.ended + (if v then 1 else 0)) idle ∙ omega arith

one_begun : (c : FunctionCall) → c.running ≡ true → begun_tests c ≡ c.ended + 1
one_begun c runs = ap (λ (v : Bool). c.ended + (if v then 1 else 0)) runs

started_logged : (room : Bool) (l : Logs) (t : CallTurn) (n : ℕ) → room ≡ true → has_log t.call.ended ≡ true → t.call.running ≡ false → (t.call.phase ≡ Awaiting → ⊥) → Logged room l t → Logged room l (test_started n t)
started_logged room l t n space number idle serves w =
    let same = none_begun t.call idle in
    let log = number_of_log t.call.ended in
    record {
      steps = more_steps room t.asks (Tell (LogStart n log) ∷ []) l (logs_of t.call) (record { count = t.call.ended + 1; is_open = true }) w.steps (
        record { count = t.call.ended + 1; is_open = true },
        (space, idle, ap number_of_log (sym same), leb-true log 2147483647 number, ap (λ (x : ℕ). record { count = x + 1; is_open = true }) (sym same)),
        refl,
      );
      awaits = λ e. absurd (serves e);
    }

moved_logged : (room : Bool) (l : Logs) (t : CallTurn) (ps : List LineEntry) → t.call.running ≡ false → (t.call.phase ≡ Awaiting → ⊥) → Logged room l t → Logged room l (moved_on room ps t)
moved_logged room l t [] idle serves w = w
moved_logged room l t (Mark ∷ ps) idle serves w = finished_logged room l t idle w
moved_logged room l t (Test n ∷ []) idle serves w = w
moved_logged room l t (Test n ∷ (p ∷ ps)) idle serves w = go (room && has_log t.call.ended) refl
  where
    go : (v : Bool) → (room && has_log t.call.ended) ≡ v → Logged room l (if v then test_started n t else over (Some too_many_channels) t)
    go true e = started_logged room l t n (and_first room (has_log t.call.ended) e) (and_last room (has_log t.call.ended) e) idle serves w
    go false e = over_logged room l (Some too_many_channels) t idle w

settled_logged : (room : Bool) (l : Logs) (t : CallTurn) → (t.call.phase ≡ Awaiting → ⊥) → Logged room l t → Logged room l (line_settled room t)
settled_logged room l t serves w = go t.call.running refl
  where
    go : (v : Bool) → t.call.running ≡ v → Logged room l (if v then t else moved_on room (left t.call) t)
    go true e = w
    go false e = moved_logged room l t (left t.call) e serves w

given_logged : (room : Bool) (l : Logs) (ns : List ℕ) (t : CallTurn) → (t.call.phase ≡ Awaiting → ⊥) → Logged room l t → Logged room l (given room ns t)
given_logged room l ns t serves w = go (can_give t.call.size t.call.line ns)
  where
    go : (v : Bool) → Logged room l (if v then line_settled room (record t { call = record (t.call) { line = t.call.line ++ map Test ns } }) else ended_early BadCommand t)
    go true = settled_logged room l (record t { call = record (t.call) { line = t.call.line ++ map Test ns } }) serves (record { steps = w.steps; awaits = w.awaits })
    go false = early_logged room l t BadCommand w

back_logged : (room : Bool) (l : Logs) (t : CallTurn) (ns : List ℕ) → Logged room l t → Logged room l (asking (Tell (Back ns) ∷ []) t)
back_logged room l t ns w = record { steps = more_steps room t.asks (Tell (Back ns) ∷ []) l (logs_of t.call) (logs_of t.call) w.steps (logs_of t.call, refl, refl); awaits = w.awaits }

stolen_logged : (room : Bool) (l : Logs) (ns : List ℕ) (t : CallTurn) → Logged room l t → Logged room l (stolen_if ns t)
stolen_logged room l ns t w = ask (can_ask t.call.size [] ns)
  where
    go : (v : Bool) → Logged room l (if v then asking (Tell (Back (stolen_tests ns (queue t.call))) ∷ []) (record t { call = record (t.call) { line = front t.call ++ kept ns (queue t.call) } }) else asking (Tell (Back []) ∷ []) t)
    go true = back_logged room l (record t { call = record (t.call) { line = front t.call ++ kept ns (queue t.call) } }) (stolen_tests ns (queue t.call)) (record { steps = w.steps; awaits = w.awaits })
    go false = back_logged room l t [] w

    ask : (v : Bool) → Logged room l (if v then stolen ns t else ended_early BadCommand t)
    ask true = go (all_queued (queue t.call) ns)
    ask false = early_logged room l t BadCommand w

told_logged : (room : Bool) (l : Logs) (o : Option Order) (t : CallTurn) → (t.call.phase ≡ Awaiting → ⊥) → Logged room l t → Logged room l (told room o t)
told_logged room l None t serves w = early_logged room l t BadCommand w
told_logged room l (Some (RunTests ns)) t serves w = given_logged room l ns t serves w
told_logged room l (Some RunAll) t serves w = given_logged room l (range_with_len 0 t.call.size) t serves w
told_logged room l (Some (Steal ns)) t serves w = stolen_logged room l ns t w
told_logged room l (Some Shutdown) t serves w = settled_logged room l (record t { call = record (t.call) { line = t.call.line ++ Mark ∷ [] } }) serves (record { steps = w.steps; awaits = w.awaits })

heard_logged : (p : Phase) (room : Bool) (l : Logs) (o : Option Order) (t : CallTurn) → t.call.phase ≡ p → Logged room l t → Logged room l (item_heard_in p room o t)
heard_logged Awaiting room l o t e w = record { steps = w.steps; awaits = w.awaits }
heard_logged Serving room l o t e w = told_logged room l o t (λ z. let q : Serving ≡ Awaiting = sym e ∙ z in cc) w
heard_logged (phase.Ending x) room l o t e w = w
heard_logged Stopped room l o t e w = w
heard_logged Over room l o t e w = w

all_logged : (room : Bool) (l : Logs) (os : List (Option Order)) (t : CallTurn) → Logged room l t → Logged room l (all_heard room os t)
all_logged room l [] t w = w
all_logged room l (o ∷ os) t w = all_logged room l os (item_heard room o t) (heard_logged t.call.phase room l o t refl w)

collected_logged : (p : Phase) (room : Bool) (l : Logs) (ids : List (List ℕ)) (t : CallTurn) → t.call.phase ≡ p → Logged room l t → Logged room l (collected_in p room ids t)
collected_logged Awaiting room l ids t e w =
    let first = w.awaits e in
    let same : logs_of (serving_suite (length ids) t.call) ≡ logs_of t.call = fresh t.call first.0 first.1 in
    all_logged room l t.call.waiting _ (record {
      steps = more_steps room t.asks (Tell (Collected ids) ∷ []) l (logs_of t.call) (logs_of (serving_suite (length ids) t.call)) w.steps (logs_of t.call, refl, same);
      awaits = λ z. (refl, refl);
    })
  where
    fresh : (c : FunctionCall) → c.ended ≡ 0 → c.running ≡ false → ◌≡◌ {A = Logs} (record { count = 0 + 0; is_open = false }) (logs_of c)
    fresh c a b = rw (a, b) refl
collected_logged Serving room l ids t e w = w
collected_logged (phase.Ending x) room l ids t e w = w
collected_logged Stopped room l ids t e w = w
collected_logged Over room l ids t e w = w

receiving_logged : (p : Phase) (room : Bool) (l : Logs) (t : CallTurn) → Logged room l t → Logged room l (receiving_ended_in p t)
receiving_logged Awaiting room l t w = early_logged room l t ReceivingEnded w
receiving_logged Serving room l t w = early_logged room l t ReceivingEnded w
receiving_logged (phase.Ending x) room l t w = w
receiving_logged Stopped room l t w = w
receiving_logged Over room l t w = w

refused_logged : (p : Phase) (room : Bool) (l : Logs) (text : List ℕ) (t : CallTurn) → t.call.phase ≡ p → Logged room l t → Logged room l (suite_refused_in p text t)
refused_logged Awaiting room l text t e w = over_logged room l (Some text) t (w.awaits e).1 w
refused_logged Serving room l text t e w = w
refused_logged (phase.Ending x) room l text t e w = w
refused_logged Stopped room l text t e w = w
refused_logged Over room l text t e w = w

last_log : (c : FunctionCall) → c.running ≡ true → number_of_log c.ended + 2 ≡ number_of_log (begun_tests c)
last_log c runs = sym (ap number_of_log (one_begun c runs) ∙ next c.ended)
  where
    next : (n : ℕ) → number_of_log (n + 1) ≡ number_of_log n + 2
    next n = omega arith

pieces_step : (room : Bool) (log : ℕ) (b : List ℕ) (l : Logs) → l.is_open ≡ true → log + 2 ≡ number_of_log l.count → LogSteps room (piece_asks log b) l l
pieces_step room log [] l runs e = refl
pieces_step room log (x ∷ b) l runs e = (l, (runs, e, refl), refl)

put_logged : (room : Bool) (l : Logs) (bytes : List ℕ) (t : CallTurn) → t.call.running ≡ true → Logged room l t → Logged room l (put_out bytes t)
put_logged room l bytes t runs w =
    let log = number_of_log t.call.ended in
    let piece = take (most_of_one - t.call.sent) bytes in
    record {
      steps = more_steps room t.asks (piece_asks log piece) l (logs_of t.call) (logs_of t.call) w.steps (pieces_step room log piece (logs_of t.call) runs (last_log t.call runs));
      awaits = w.awaits;
    }

pub does_run : (c : FunctionCall) (n : ℕ) → running_test c ≡ Some n → c.running ≡ true
does_run c n e = go c.running refl e
  where
    go : (v : Bool) → c.running ≡ v → (if v then head_test (left c) else None) ≡ Some n → c.running ≡ true
    go true z h = z
    go false z h = cc

output_logged : (test : Option ℕ) (p : Phase) (room : Bool) (l : Logs) (bytes : List ℕ) (t : CallTurn) → running_test t.call ≡ test → Logged room l t → Logged room l (output_fed test p bytes t)
output_logged None p room l bytes t e w = w
output_logged (Some n) Stopped room l bytes t e w = w
output_logged (Some n) Awaiting room l bytes t e w = put_logged room l bytes t (does_run t.call n e) w
output_logged (Some n) Serving room l bytes t e w = put_logged room l bytes t (does_run t.call n e) w
output_logged (Some n) (phase.Ending x) room l bytes t e w = put_logged room l bytes t (does_run t.call n e) w
output_logged (Some n) Over room l bytes t e w = put_logged room l bytes t (does_run t.call n e) w

done_steps : (room : Bool) (l : Logs) (n : ℕ) (outcome : Outcome) (ms : ℕ) (t : CallTurn) → t.call.running ≡ true → Logged room l t → Logged room l (told_done n outcome ms t)
done_steps room l n outcome ms t runs w =
    let log = number_of_log t.call.ended in
    let closed : Logs = record { count = begun_tests t.call; is_open = false } in
    record {
      steps = more_steps room t.asks (CloseLog log ∷ Tell (Done n outcome ms) ∷ []) l (logs_of t.call) (logs_of (told_done n outcome ms t).call) w.steps
          (closed, (runs, last_log t.call runs, refl), (closed, refl, ap (λ (x : ℕ). record { count = x; is_open = false }) (one_more t.call.ended ∙ sym (one_begun t.call runs))));
      awaits = λ z. let none : true ≡ false = sym runs ∙ (w.awaits z).1 in cc;
    }
  where
    one_more : (n : ℕ) → (n + 1) + 0 ≡ n + 1
    one_more n = omega arith

done_logged : (test : Option ℕ) (p : Phase) (room : Bool) (l : Logs) (outcome : Outcome) (ms : ℕ) (t : CallTurn) → running_test t.call ≡ test → t.call.phase ≡ p → (p ≡ Stopped → ⊥) → Logged room l t → Logged room l (done_of test p room outcome ms t)
done_logged None p room l outcome ms t e q more w = w
done_logged (Some n) Serving room l outcome ms t e q more w = settled_logged room l (told_done n outcome ms t) (λ z. let y : Serving ≡ Awaiting = sym q ∙ z in cc) (done_steps room l n outcome ms t (does_run t.call n e) w)
done_logged (Some n) (phase.Ending x) room l outcome ms t e q more w = over_logged room l (ending_text x) (told_done n outcome ms t) refl (done_steps room l n outcome ms t (does_run t.call n e) w)
done_logged (Some n) Stopped room l outcome ms t e q more w = absurd (more refl)
done_logged (Some n) Awaiting room l outcome ms t e q more w = w
done_logged (Some n) Over room l outcome ms t e q more w = w

answered_logged : (room : Bool) (l : Logs) (i : Input) (t : CallTurn) → (t.call.phase ≡ Stopped → ⊥) → Logged room l t → Logged room l (answered room i t)
answered_logged room l (input.Command o) t more w = heard_logged t.call.phase room l o t refl w
answered_logged room l input.ReceivingEnded t more w = receiving_logged t.call.phase room l t w
answered_logged room l (input.Suite ids) t more w = collected_logged t.call.phase room l ids t refl w
answered_logged room l (input.SuiteRefused text) t more w = refused_logged t.call.phase room l text t refl w
answered_logged room l (input.Output bytes) t more w = output_logged (running_test t.call) t.call.phase room l bytes t refl w
answered_logged room l (input.Done outcome ms) t more w = done_logged (running_test t.call) t.call.phase room l outcome ms t refl refl more w
answered_logged room l input.Stop t more w = record { steps = w.steps; awaits = λ z. cc }

-- ---- a stopped call

record Silent (n : ℕ) (t : CallTurn) : Type 0 where
  asks_are : t.asks ≡ []
  count_is : begun_tests t.call ≡ n
  phase_is : t.call.phase ≡ Stopped

done_silent : (test : Option ℕ) (room : Bool) (outcome : Outcome) (ms : ℕ) (t : CallTurn) (n : ℕ) → running_test t.call ≡ test → Silent n t → Silent n (done_of test Stopped room outcome ms t)
done_silent None room outcome ms t n e s = s
done_silent (Some k) room outcome ms t n e s = record {
  asks_are = s.asks_are;
  count_is = none t.call.ended ∙ sym (one_begun t.call (does_run t.call k e)) ∙ s.count_is;
  phase_is = s.phase_is;
}
  where
    none : (n : ℕ) → (n + 1) + 0 ≡ n + 1
    none n = omega arith

output_silent : (test : Option ℕ) (bytes : List ℕ) (t : CallTurn) (n : ℕ) → Silent n t → Silent n (output_fed test Stopped bytes t)
output_silent None bytes t n s = s
output_silent (Some k) bytes t n s = s

silent_by : (p : Phase) → p ≡ Stopped → (room : Bool) (i : Input) (t : CallTurn) (n : ℕ) → t.call.phase ≡ p → Silent n t → Silent n (answered room i t)
silent_by p q room i t n e s = subst (λ (x : Phase). Silent n (answered_in x (running_test t.call) room i t)) (sym (e ∙ q)) (go i)
  where
    go : (i : Input) → Silent n (answered_in Stopped (running_test t.call) room i t)
    go (input.Command o) = s
    go input.ReceivingEnded = s
    go (input.Suite ids) = s
    go (input.SuiteRefused text) = s
    go (input.Output bytes) = output_silent (running_test t.call) bytes t n s
    go (input.Done outcome ms) = done_silent (running_test t.call) room outcome ms t n refl s
    go input.Stop = record { asks_are = s.asks_are; count_is = s.count_is; phase_is = refl }

-- ---- the law

abbrev pub is_stopped : Phase → Bool
is_stopped Awaiting = false
is_stopped Serving = false
is_stopped (phase.Ending e) = false
is_stopped Stopped = true
is_stopped Over = false

pub stops : (p : Phase) → is_stopped p ≡ true → p ≡ Stopped
stops Awaiting e = cc
stops Serving e = cc
stops (phase.Ending x) e = cc
stops Stopped e = refl
stops Over e = cc

pub goes : (p : Phase) → p ≡ Stopped → is_stopped p ≡ false → ⊥
goes p e q = let z : true ≡ false = sym (ap is_stopped e) ∙ q in cc

awaits_after : (h : List Given) → (call_after h).phase ≡ Awaiting → ((call_after h).ended ≡ 0) × ((call_after h).running ≡ false)
awaits_after [] e = (refl, refl)
awaits_after (g ∷ h) e = by_phase (record { steps = refl; awaits = awaits_after h }) (is_stopped (call_after h).phase) refl
  where
    by_phase : Logged g.room (logs_of (call_after h)) (call_turn_of (call_after h)) → (v : Bool) → is_stopped (call_after h).phase ≡ v → ((turn_after h g).call.ended ≡ 0) × ((turn_after h g).call.running ≡ false)
    by_phase before true q =
        let p = stops (call_after h).phase q in
        let s = silent_by (call_after h).phase p g.room g.input (call_turn_of (call_after h)) (begun_tests (call_after h)) refl (record { asks_are = refl; count_is = refl; phase_is = p }) in
        let z : Stopped ≡ Awaiting = sym s.phase_is ∙ e in cc
    by_phase before false q = (answered_logged g.room (logs_of (call_after h)) g.input (call_turn_of (call_after h)) (λ z. goes (call_after h).phase z q) before).awaits e

pub one_log : OneLog
one_log = record {
  steps = λ h g more. (answered_logged g.room (logs_of (call_after h)) g.input (call_turn_of (call_after h)) more (record { steps = refl; awaits = awaits_after h })).steps;
  silent = λ h g e.
      let s = silent_by (call_after h).phase e g.room g.input (call_turn_of (call_after h)) (begun_tests (call_after h)) refl (record { asks_are = refl; count_is = refl; phase_is = e }) in
      (s.asks_are, s.count_is, s.phase_is);
}
