-- What one input makes of a call of `run_tests`: where no test runs, the one that runs after it is the one that it
-- starts; where one runs, its output leaves it, and its end makes room for the next.
use Rattle.std.proofs.Common.{◌≡◌, ℕ, zero, suc, ◌+◌, List, [], ◌∷◌, ◌++◌, length, take, drop, Bool, true, false, ◌&&◌, Option, Some, None, refl, ap, sym, ◌∙◌, ◌<◌, arith}
use Rattle.std.specs.Prelude.{map, if◌then◌else◌}
use Rattle.std.specs.List.{range_with_len}
use Rattle.xd_commands.specs.declared.order.Order.{Order}
use Rattle.xd_commands.specs.declared.order.Order.TheVariants.{RunTests, RunAll, Steal, Shutdown}
use Rattle.xd_journal.specs.declared.entry.Outcome.{Outcome}
use Rattle.xd_journal.specs.declared.news.What.TheVariants.{Back, Collected}
use Rattle.xd_worker_tests.specs.declared.line_entry.LineEntry.{LineEntry}
use Rattle.xd_worker_tests.specs.declared.line_entry.LineEntry.TheVariants.{Test, Mark}
use Rattle.xd_worker_tests.specs.declared.phase.Ending.{Ending}
use Rattle.xd_worker_tests.specs.declared.phase.Ending.TheVariants.{BadCommand, ReceivingEnded}
use Rattle.xd_worker_tests.specs.declared.phase.Phase.{Phase}
use Rattle.xd_worker_tests.specs.declared.phase.Phase.TheVariants.{Awaiting, Serving, Stopped, Over}
use Rattle.xd_worker_tests.specs.declared.phase.Phase.TheVariants as phase
use Rattle.xd_worker_tests.specs.declared.ask.Ask.TheVariants.{Tell}
use Rattle.xd_worker_tests.specs.declared.input.Input.{Input}
use Rattle.xd_worker_tests.specs.declared.input.Input.TheVariants as input
use Rattle.xd_worker_tests.specs.Line.{FunctionCall, left, front, queue, running_test, head_test, can_give, can_ask, all_queued, kept, stolen_tests}
use Rattle.xd_worker_tests.specs.Turns.{CallTurn, call_turn_of, answered, answered_in, over, ended_early, ending_text, asking, finished, test_started, has_log, too_many_channels, moved_on, line_settled, given, stolen, stolen_if, told, item_heard_in, item_heard, all_heard, serving_suite, collected_in, receiving_ended_in, suite_refused_in, put_out, output_fed, told_done, done_in, call_stopped}
use Rattle.xd_worker_serve.specs.inner.Running.{rests}

-- The test that runs is the one that this turn starts.
abbrev pub Fresh : CallTurn → Type 0
Fresh t = record {
  test : running_test t.call ≡ t.run;
  some : t.run ≡ None → t.call.running ≡ false;
  busy : t.call.running ≡ true → rests t.call.phase ≡ false;
}

none_if : (b : Bool) (x : Option ℕ) → b ≡ false → (if b then x else None) ≡ None
none_if true x e = cc
none_if false x e = refl

pub idle : (t : CallTurn) → t.call.running ≡ false → t.run ≡ None → Fresh t
idle t e n = record {
  test = none_if t.call.running (head_test (left t.call)) e ∙ sym n;
  some = λ z. e;
  busy = λ z. let x = sym e ∙ z in cc;
}

no_run : (t : CallTurn) → Fresh t → t.call.running ≡ false → t.run ≡ None
no_run t f e = sym f.test ∙ none_if t.call.running (head_test (left t.call)) e

early_fresh : (t : CallTurn) (e : Ending) → Fresh t → Fresh (ended_early e t)
early_fresh t e f = go t.call.running refl
  where
    go : (b : Bool) → t.call.running ≡ b → Fresh (if b then record t { call = record (t.call) { phase = phase.Ending e } } else over (ending_text e) t)
    go true h = record { test = f.test; some = f.some; busy = λ z. refl }
    go false h = idle (over (ending_text e) t) h (no_run t f h)

moved_fresh : (room : Bool) (ps : List LineEntry) (t : CallTurn) → left t.call ≡ ps → t.call.running ≡ false → t.run ≡ None → rests t.call.phase ≡ false → Fresh (moved_on room ps t)
moved_fresh room [] t l e n r = idle t e n
moved_fresh room (Mark ∷ ps) t l e n r = idle (finished t) e n
moved_fresh room (Test k ∷ []) t l e n r = idle t e n
moved_fresh room (Test k ∷ (p ∷ ps)) t l e n r = go (room && has_log t.call.ended)
  where
    go : (b : Bool) → Fresh (if b then test_started k t else over (Some too_many_channels) t)
    go true = record { test = ap head_test l; some = λ z. cc; busy = λ z. r }
    go false = idle (over (Some too_many_channels) t) e n

settled_fresh : (room : Bool) (t : CallTurn) → Fresh t → rests t.call.phase ≡ false → Fresh (line_settled room t)
settled_fresh room t f r = go t.call.running refl
  where
    go : (b : Bool) → t.call.running ≡ b → Fresh (if b then t else moved_on room (left t.call) t)
    go true h = f
    go false h = moved_fresh room (left t.call) t refl h (no_run t f h) r

-- the running test stays where the line grows after it
pub head_more : (e : ℕ) (l more : List LineEntry) (n : ℕ) → head_test (drop e l) ≡ Some n → head_test (drop e (l ++ more)) ≡ Some n
head_more zero [] more n h = cc
head_more zero (Test k ∷ l) more n h = h
head_more zero (Mark ∷ l) more n h = cc
head_more (suc e) [] more n h = cc
head_more (suc e) (p ∷ l) more n h = head_more e l more n h

pub head_front : (e k : ℕ) (l more : List LineEntry) (n : ℕ) → e < k → head_test (drop e l) ≡ Some n → head_test (drop e (take k l ++ more)) ≡ Some n
head_front e zero l more n lt h = absurd (omega (arith, lt))
head_front zero (suc k) [] more n lt h = cc
head_front zero (suc k) (Test m ∷ l) more n lt h = h
head_front zero (suc k) (Mark ∷ l) more n lt h = cc
head_front (suc e) (suc k) [] more n lt h = cc
head_front (suc e) (suc k) (p ∷ l) more n lt h = head_front e k l more n (omega (arith, lt)) h

-- the line changed after what runs
abbrev pub lined : List LineEntry → CallTurn → CallTurn
lined ps t = record t { call = record (t.call) { line = ps } }

lined_fresh : (t : CallTurn) (ps : List LineEntry) → Fresh t → ((n : ℕ) → t.call.running ≡ true → head_test (left t.call) ≡ Some n → head_test (drop t.call.ended ps) ≡ Some n) → Fresh (lined ps t)
lined_fresh t ps f keeps = record { test = go t.call.running refl t.run f.test f.some; some = f.some; busy = f.busy }
  where
    go : (b : Bool) → t.call.running ≡ b → (r : Option ℕ) → (if b then head_test (left t.call) else None) ≡ r → (r ≡ None → b ≡ false) → (if b then head_test (drop t.call.ended ps) else None) ≡ r
    go true h None e s = let x = s refl in cc
    go true h (Some n) e s = keeps n h e
    go false h r e s = e

longer_fresh : (t : CallTurn) (ps : List LineEntry) → Fresh t → Fresh (lined (t.call.line ++ ps) t)
longer_fresh t ps f = lined_fresh t (t.call.line ++ ps) f (λ n r h. head_more t.call.ended t.call.line ps n h)

front_fresh : (t : CallTurn) (ps : List LineEntry) → Fresh t → Fresh (lined (front t.call ++ ps) t)
front_fresh t ps f = lined_fresh t (front t.call ++ ps) f (λ n r h. go t.call.running r n h)
  where
    go : (b : Bool) → b ≡ true → (n : ℕ) → head_test (left t.call) ≡ Some n → head_test (drop t.call.ended (take (t.call.ended + (if b then 2 else 1)) t.call.line ++ ps)) ≡ Some n
    go true r n h = head_front t.call.ended (t.call.ended + 2) t.call.line ps n (omega arith) h
    go false r n h = cc

given_fresh : (room : Bool) (ns : List ℕ) (t : CallTurn) → Fresh t → rests t.call.phase ≡ false → Fresh (given room ns t)
given_fresh room ns t f r = go (can_give t.call.size t.call.line ns)
  where
    go : (b : Bool) → Fresh (if b then line_settled room (lined (t.call.line ++ map Test ns) t) else ended_early BadCommand t)
    go true = settled_fresh room (lined (t.call.line ++ map Test ns) t) (longer_fresh t (map Test ns) f) r
    go false = early_fresh t BadCommand f

stolen_fresh : (ns : List ℕ) (t : CallTurn) → Fresh t → Fresh (stolen ns t)
stolen_fresh ns t f = go (all_queued (queue t.call) ns)
  where
    go : (b : Bool) → Fresh (if b then asking (Tell (Back (stolen_tests ns (queue t.call))) ∷ []) (lined (front t.call ++ kept ns (queue t.call)) t) else asking (Tell (Back []) ∷ []) t)
    go true = front_fresh t (kept ns (queue t.call)) f
    go false = f

stolen_if_fresh : (ns : List ℕ) (t : CallTurn) → Fresh t → Fresh (stolen_if ns t)
stolen_if_fresh ns t f = go (can_ask t.call.size [] ns)
  where
    go : (b : Bool) → Fresh (if b then stolen ns t else ended_early BadCommand t)
    go true = stolen_fresh ns t f
    go false = early_fresh t BadCommand f

told_fresh : (room : Bool) (o : Option Order) (t : CallTurn) → Fresh t → rests t.call.phase ≡ false → Fresh (told room o t)
told_fresh room None t f r = early_fresh t BadCommand f
told_fresh room (Some (RunTests ns)) t f r = given_fresh room ns t f r
told_fresh room (Some RunAll) t f r = given_fresh room (range_with_len 0 t.call.size) t f r
told_fresh room (Some (Steal ns)) t f r = stolen_if_fresh ns t f
told_fresh room (Some Shutdown) t f r = settled_fresh room (lined (t.call.line ++ Mark ∷ []) t) (longer_fresh t (Mark ∷ []) f) r

heard_fresh : (room : Bool) (o : Option Order) (t : CallTurn) → Fresh t → Fresh (item_heard room o t)
heard_fresh room o t f = go t.call.phase refl
  where
    go : (p : Phase) → t.call.phase ≡ p → Fresh (item_heard_in p room o t)
    go Awaiting h = f
    go Serving h = told_fresh room o t f (ap rests h)
    go (phase.Ending e) h = f
    go Stopped h = f
    go Over h = f

all_heard_fresh : (room : Bool) (os : List (Option Order)) (t : CallTurn) → Fresh t → Fresh (all_heard room os t)
all_heard_fresh room [] t f = f
all_heard_fresh room (o ∷ os) t f = all_heard_fresh room os (item_heard room o t) (heard_fresh room o t f)

collected_fresh : (room : Bool) (ids : List (List ℕ)) (t : CallTurn) (p : Phase) → Fresh t → t.run ≡ None → Fresh (collected_in p room ids t)
collected_fresh room ids t Awaiting f n = all_heard_fresh room t.call.waiting (record { call = serving_suite (length ids) t.call; asks = t.asks ++ Tell (Collected ids) ∷ []; run = t.run }) (idle (record { call = serving_suite (length ids) t.call; asks = t.asks ++ Tell (Collected ids) ∷ []; run = t.run }) refl n)
collected_fresh room ids t Serving f n = f
collected_fresh room ids t (phase.Ending e) f n = f
collected_fresh room ids t Stopped f n = f
collected_fresh room ids t Over f n = f

refused_fresh : (text : List ℕ) (t : CallTurn) (p : Phase) → Fresh t → t.call.running ≡ false → Fresh (suite_refused_in p text t)
refused_fresh text t Awaiting f e = idle (over (Some text) t) e (no_run t f e)
refused_fresh text t Serving f e = f
refused_fresh text t (phase.Ending x) f e = f
refused_fresh text t Stopped f e = f
refused_fresh text t Over f e = f

ended_fresh : (t : CallTurn) (p : Phase) → Fresh t → Fresh (receiving_ended_in p t)
ended_fresh t Awaiting f = early_fresh t ReceivingEnded f
ended_fresh t Serving f = early_fresh t ReceivingEnded f
ended_fresh t (phase.Ending e) f = f
ended_fresh t Stopped f = f
ended_fresh t Over f = f

output_fresh : (bytes : List ℕ) (t : CallTurn) (test : Option ℕ) (p : Phase) → Fresh t → t.call.running ≡ false → Fresh (output_fed test p bytes t)
output_fresh bytes t None p f e = f
output_fresh bytes t (Some n) Awaiting f e = idle (put_out bytes t) e (no_run t f e)
output_fresh bytes t (Some n) Serving f e = idle (put_out bytes t) e (no_run t f e)
output_fresh bytes t (Some n) (phase.Ending x) f e = idle (put_out bytes t) e (no_run t f e)
output_fresh bytes t (Some n) Stopped f e = f
output_fresh bytes t (Some n) Over f e = idle (put_out bytes t) e (no_run t f e)

done_fresh : (room : Bool) (n : ℕ) (outcome : Outcome) (ms : ℕ) (t : CallTurn) (p : Phase) → t.call.phase ≡ p → t.run ≡ None → rests p ≡ false → Fresh (done_in p room n outcome ms t)
done_fresh room n outcome ms t Awaiting h e r = cc
done_fresh room n outcome ms t Serving h e r = settled_fresh room (told_done n outcome ms t) (idle (told_done n outcome ms t) refl e) (ap rests h)
done_fresh room n outcome ms t (phase.Ending x) h e r = idle (over (ending_text x) (told_done n outcome ms t)) refl e
done_fresh room n outcome ms t Stopped h e r = idle (done_in Stopped room n outcome ms t) refl e
done_fresh room n outcome ms t Over h e r = cc

done_idle : (room : Bool) (n : ℕ) (outcome : Outcome) (ms : ℕ) (t : CallTurn) (p : Phase) → t.call.phase ≡ p → t.run ≡ None → t.call.running ≡ false → Fresh (done_in p room n outcome ms t)
done_idle room n outcome ms t Awaiting h e r = idle t r e
done_idle room n outcome ms t Serving h e r = done_fresh room n outcome ms t Serving h e refl
done_idle room n outcome ms t (phase.Ending x) h e r = done_fresh room n outcome ms t (phase.Ending x) h e refl
done_idle room n outcome ms t Stopped h e r = done_fresh room n outcome ms t Stopped h e refl
done_idle room n outcome ms t Over h e r = idle t r e

-- an input to a call of which no test runs
pub answered_idle : (room : Bool) (f : Input) (c : FunctionCall) → c.running ≡ false → Fresh (answered room f (call_turn_of c))
answered_idle room f c e = by f (running_test c)
  where
    t : CallTurn
    t = call_turn_of c

    here : Fresh t
    here = idle t e refl

    by : (f : Input) (test : Option ℕ) → Fresh (answered_in c.phase test room f t)
    by (input.Command o) test = heard_fresh room o t here
    by input.ReceivingEnded test = ended_fresh t c.phase here
    by (input.Suite ids) test = collected_fresh room ids t c.phase here refl
    by (input.SuiteRefused text) test = refused_fresh text t c.phase here e
    by (input.Output bytes) test = output_fresh bytes t test c.phase here e
    by (input.Done outcome ms) None = here
    by (input.Done outcome ms) (Some n) = done_idle room n outcome ms t c.phase refl refl e
    by input.Stop test = idle (call_stopped t) e refl

-- the end of the test that runs
pub answered_end : (room : Bool) (outcome : Outcome) (ms : ℕ) (c : FunctionCall) (n : ℕ) → running_test c ≡ Some n → rests c.phase ≡ false → Fresh (answered room (input.Done outcome ms) (call_turn_of c))
answered_end room outcome ms c n e r = by (running_test c) e
  where
    by : (test : Option ℕ) → test ≡ Some n → Fresh (answered_in c.phase test room (input.Done outcome ms) (call_turn_of c))
    by None h = cc
    by (Some m) h = done_fresh room m outcome ms (call_turn_of c) c.phase refl refl r

-- What output leaves: the test that runs, and nothing is started.
abbrev pub Printing : CallTurn → FunctionCall → Type 0
Printing t c = record {
  test : running_test t.call ≡ running_test c;
  running : t.call.running ≡ c.running;
  phase_is : t.call.phase ≡ c.phase;
  run : t.run ≡ None;
}

pub answered_output : (room : Bool) (bytes : List ℕ) (c : FunctionCall) → Printing (answered room (input.Output bytes) (call_turn_of c)) c
answered_output room bytes c = by (running_test c) c.phase
  where
    same : Printing (call_turn_of c) c
    same = record { test = refl; running = refl; phase_is = refl; run = refl }

    by : (test : Option ℕ) (p : Phase) → Printing (output_fed test p bytes (call_turn_of c)) c
    by None p = same
    by (Some n) Awaiting = same
    by (Some n) Serving = same
    by (Some n) (phase.Ending e) = same
    by (Some n) Stopped = same
    by (Some n) Over = same
