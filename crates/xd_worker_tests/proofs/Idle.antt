-- Each input leaves a call that waits for its next entry, or runs, or does not serve.
use Rattle.std.proofs.Common.{◌≡◌, ℕ, zero, suc, ◌+◌, List, [], ◌∷◌, ◌++◌, take, drop, Bool, true, false, ◌&&◌, Option, Some, None, refl, ap, sym, subst, ◌∙◌, arith, inl, inr}
use Rattle.std.specs.Prelude.{map, if◌then◌else◌}
use Rattle.std.specs.List.{range_with_len}
use Rattle.std.proofs.lemmas.Grind.{common_steps}
use Rattle.xd_commands.specs.declared.order.Order.{Order}
use Rattle.xd_commands.specs.declared.order.Order.TheVariants.{RunTests, RunAll, Steal, Shutdown}
use Rattle.xd_journal.specs.declared.entry.Outcome.{Outcome}
use Rattle.xd_journal.specs.declared.news.What.TheVariants.{Back}
use Rattle.xd_worker_tests.specs.declared.line_entry.LineEntry.{LineEntry}
use Rattle.xd_worker_tests.specs.declared.line_entry.LineEntry.TheVariants.{Test, Mark}
use Rattle.xd_worker_tests.specs.declared.phase.Ending.{Ending}
use Rattle.xd_worker_tests.specs.declared.phase.Ending.TheVariants.{BadCommand, ReceivingEnded}
use Rattle.xd_worker_tests.specs.declared.phase.Phase.{Phase}
use Rattle.xd_worker_tests.specs.declared.phase.Phase.TheVariants.{Awaiting, Serving, Stopped, Over}
use Rattle.xd_worker_tests.specs.declared.phase.Phase.TheVariants as phase
use Rattle.xd_worker_tests.specs.declared.ask.Ask.TheVariants.{Tell}
use Rattle.xd_worker_tests.specs.declared.input.Input.{Input}
use Rattle.xd_worker_tests.specs.declared.input.Input.TheVariants as input
use Rattle.xd_worker_tests.specs.Line.{left, front, queue, running_test, can_give, can_ask, all_queued, kept, stolen_tests}
use Rattle.xd_worker_tests.specs.Turns.{CallTurn, call_turn_of, answered, over, ended_early, ending_text, asking, test_started, has_log, too_many_channels, moved_on, line_settled, given, stolen, stolen_if, told, item_heard_in, item_heard, all_heard, collected_in, receiving_ended_in, suite_refused_in, output_fed, told_done, done_of}
use Rattle.xd_worker_tests.specs.History.{call_after}
use Rattle.xd_worker_tests.specs.Idle.{IsIdle, IdleLaw, WaitsForNext}

abbrev Waits : CallTurn → Type 0
Waits t = WaitsForNext t.call

ended : (t : CallTurn) (text : Option (List ℕ)) → Waits (over text t)
ended t text serving idle = absurd (cc serving)

early : (t : CallTurn) (e : Ending) → Waits (ended_early e t)
early t e = go t.call.running
  where
    go : (v : Bool) → Waits (if v then record t { call = record (t.call) { phase = phase.Ending e } } else over (ending_text e) t)
    go true = λ serving idle. absurd (cc serving)
    go false = ended t (ending_text e)

-- where nothing runs, what is left lets a test start, or is one test at most
moved : (room : Bool) (t : CallTurn) (l : List LineEntry) → left t.call ≡ l → Waits (moved_on room l t)
moved room t [] is = λ serving idle. inl is
moved room t (Mark ∷ l) is = λ serving idle. absurd (cc serving)
moved room t (Test n ∷ []) is = λ serving idle. inr (n, is)
moved room t (Test n ∷ (p ∷ l)) is = go (room && has_log t.call.ended)
  where
    go : (v : Bool) → Waits (if v then test_started n t else over (Some too_many_channels) t)
    go true = λ serving idle. absurd (cc idle)
    go false = ended t (Some too_many_channels)

moved_or_runs : (room : Bool) (t : CallTurn) → Waits (line_settled room t)
moved_or_runs room t = go t.call.running refl
  where
    go : (v : Bool) → t.call.running ≡ v → Waits (if v then t else moved_on room (left t.call) t)
    go true runs = λ serving idle. absurd (let e : true ≡ false = sym runs ∙ idle in cc e)
    go false runs = moved room t (left t.call) refl

gave : (room : Bool) (ns : List ℕ) (t : CallTurn) → Waits (given room ns t)
gave room ns t = go (can_give t.call.size t.call.line ns)
  where
    go : (v : Bool) → Waits (if v then line_settled room (record t { call = record (t.call) { line = t.call.line ++ map Test ns } }) else ended_early BadCommand t)
    go true = moved_or_runs room (record t { call = record (t.call) { line = t.call.line ++ map Test ns } })
    go false = early t BadCommand

-- where nothing runs, nothing is queued, so a steal takes nothing

one_more : (l : List LineEntry) (n : ℕ) → drop (suc n) l ≡ drop 1 (drop n l)
one_more [] zero = refl
one_more [] (suc n) = refl
one_more (p ∷ l) zero = refl
one_more (p ∷ l) (suc n) = one_more l n

none_later : (l : List LineEntry) (n : ℕ) → IsIdle (drop n l) → drop (n + 1) l ≡ []
none_later l n idle = ap (λ (k : ℕ). drop k l) (let e : n + 1 ≡ suc n = omega arith in e) ∙ (one_more l n ∙ rest (drop n l) idle)
  where
    rest : (ps : List LineEntry) → IsIdle ps → drop 1 ps ≡ []
    rest ps (inl e) = ap (drop 1) e
    rest ps (inr (n, e)) = ap (drop 1) e

same_line : (ns : List ℕ) (l : List LineEntry) (n : ℕ) → drop n l ≡ [] → take n l ++ kept ns (drop n l) ≡ l
same_line ns l n none =
    let halves : take n l ++ drop n l ≡ l = grind (arith, common_steps) in
    ap (λ (q : List LineEntry). take n l ++ kept ns q) none ∙ sym (ap (λ (q : List LineEntry). take n l ++ q) none) ∙ halves

taken_back : (ns : List ℕ) (t : CallTurn) → Waits t → Waits (record t { call = record (t.call) { line = front t.call ++ kept ns (queue t.call) } })
taken_back ns t w serving idle =
    let was = w serving idle in
    let same : front t.call ++ kept ns (queue t.call) ≡ t.call.line =
    subst (λ (b : Bool). take (t.call.ended + (if b then 2 else 1)) t.call.line ++ kept ns (drop (t.call.ended + (if b then 2 else 1)) t.call.line) ≡ t.call.line) (sym idle)
    (same_line ns t.call.line (t.call.ended + 1) (none_later t.call.line t.call.ended was)) in
    subst (λ (l : List LineEntry). IsIdle (drop t.call.ended l)) (sym same) was

stole : (ns : List ℕ) (t : CallTurn) → Waits t → Waits (stolen_if ns t)
stole ns t w = ask (can_ask t.call.size [] ns)
  where
    go : (v : Bool) → Waits (if v then asking (Tell (Back (stolen_tests ns (queue t.call))) ∷ []) (record t { call = record (t.call) { line = front t.call ++ kept ns (queue t.call) } }) else asking (Tell (Back []) ∷ []) t)
    go true = taken_back ns t w
    go false = w

    ask : (v : Bool) → Waits (if v then stolen ns t else ended_early BadCommand t)
    ask true = go (all_queued (queue t.call) ns)
    ask false = early t BadCommand

heeded : (room : Bool) (o : Option Order) (t : CallTurn) → Waits t → Waits (told room o t)
heeded room None t w = early t BadCommand
heeded room (Some (RunTests ns)) t w = gave room ns t
heeded room (Some RunAll) t w = gave room (range_with_len 0 t.call.size) t
heeded room (Some (Steal ns)) t w = stole ns t w
heeded room (Some Shutdown) t w = moved_or_runs room (record t { call = record (t.call) { line = t.call.line ++ Mark ∷ [] } })

heard_so : (p : Phase) → (room : Bool) (o : Option Order) (t : CallTurn) → t.call.phase ≡ p → Waits t → Waits (item_heard_in p room o t)
heard_so Awaiting room o t is w = λ serving idle. absurd (let e : Awaiting ≡ Serving = sym is ∙ serving in cc e)
heard_so Serving room o t is w = heeded room o t w
heard_so (phase.Ending x) room o t is w = w
heard_so Stopped room o t is w = w
heard_so Over room o t is w = w

all_so : (room : Bool) (os : List (Option Order)) (t : CallTurn) → Waits t → Waits (all_heard room os t)
all_so room [] t w = w
all_so room (o ∷ os) t w = all_so room os (item_heard room o t) (heard_so t.call.phase room o t refl w)

collected_so : (p : Phase) (room : Bool) (ids : List (List ℕ)) (t : CallTurn) → Waits t → Waits (collected_in p room ids t)
collected_so Awaiting room ids t w = all_so room t.call.waiting _ (λ serving idle. inl refl)
collected_so Serving room ids t w = w
collected_so (phase.Ending x) room ids t w = w
collected_so Stopped room ids t w = w
collected_so Over room ids t w = w

receiving_so : (p : Phase) (t : CallTurn) → Waits t → Waits (receiving_ended_in p t)
receiving_so Awaiting t w = early t ReceivingEnded
receiving_so Serving t w = early t ReceivingEnded
receiving_so (phase.Ending x) t w = w
receiving_so Stopped t w = w
receiving_so Over t w = w

refused_so : (p : Phase) (text : List ℕ) (t : CallTurn) → Waits t → Waits (suite_refused_in p text t)
refused_so Awaiting text t w = ended t (Some text)
refused_so Serving text t w = w
refused_so (phase.Ending x) text t w = w
refused_so Stopped text t w = w
refused_so Over text t w = w

output_so : (test : Option ℕ) (p : Phase) (bytes : List ℕ) (t : CallTurn) → Waits t → Waits (output_fed test p bytes t)
output_so None p bytes t w = w
output_so (Some n) Stopped bytes t w = w
output_so (Some n) Awaiting bytes t w = w
output_so (Some n) Serving bytes t w = w
output_so (Some n) (phase.Ending e) bytes t w = w
output_so (Some n) Over bytes t w = w

done_so : (test : Option ℕ) (p : Phase) (room : Bool) (outcome : Outcome) (ms : ℕ) (t : CallTurn) → t.call.phase ≡ p → Waits t → Waits (done_of test p room outcome ms t)
done_so None p room outcome ms t is w = w
done_so (Some n) Serving room outcome ms t is w = moved_or_runs room (told_done n outcome ms t)
done_so (Some n) (phase.Ending x) room outcome ms t is w = ended (told_done n outcome ms t) (ending_text x)
done_so (Some n) Stopped room outcome ms t is w = λ serving idle. absurd (let e : Stopped ≡ Serving = sym is ∙ serving in cc e)
done_so (Some n) Awaiting room outcome ms t is w = w
done_so (Some n) Over room outcome ms t is w = w

answered_so : (room : Bool) (i : Input) (t : CallTurn) → Waits t → Waits (answered room i t)
answered_so room (input.Command o) t w = heard_so t.call.phase room o t refl w
answered_so room input.ReceivingEnded t w = receiving_so t.call.phase t w
answered_so room (input.Suite ids) t w = collected_so t.call.phase room ids t w
answered_so room (input.SuiteRefused text) t w = refused_so t.call.phase text t w
answered_so room (input.Output bytes) t w = output_so (running_test t.call) t.call.phase bytes t w
answered_so room (input.Done outcome ms) t w = done_so (running_test t.call) t.call.phase room outcome ms t refl w
answered_so room input.Stop t w = λ serving idle. absurd (cc serving)

pub waits_after : IdleLaw
waits_after [] = λ serving idle. inl refl
waits_after (g ∷ h) = answered_so g.room g.input (call_turn_of (call_after h)) (waits_after h)
