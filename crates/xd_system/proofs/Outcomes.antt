-- What a worker tells of its tests' ends is how their programs ended, and each of these programs it started.
use Rattle.std.proofs.Common.{◌≡◌, ℕ, zero, suc, ◌+◌, ◌-◌, List, [], ◌∷◌, ◌++◌, take, drop, length, map, Bool, true, false, ◌&&◌, ◌||◌, refl, ap, sym, ◌∙◌, arith}
use Rattle.std.specs.Prelude.{◌==◌, if◌then◌else◌, Option, Some, None, option_to_list}
use Rattle.std.specs.List.{list_all, range_with_len}
use Rattle.std.proofs.lemmas.Bool.Decides.{nat_tests}
use Rattle.xd_journal.specs.Kept.{most_of_one}
use Rattle.xd_journal.specs.declared.entry.Outcome.{Outcome}
use Rattle.xd_journal.specs.declared.news.What.TheVariants as what
use Rattle.xd_commands.specs.declared.order.Order.{Order}
use Rattle.xd_commands.specs.declared.order.Order.TheVariants.{RunTests, RunAll, Steal, Shutdown}
use Rattle.xd_worker_tests.specs.declared.ask.Ask.{Ask}
use Rattle.xd_worker_tests.specs.declared.ask.Ask.TheVariants.{CloseLog, End, Tell}
use Rattle.xd_worker_tests.specs.declared.input.Input.{Input}
use Rattle.xd_worker_tests.specs.declared.input.Input.TheVariants as input
use Rattle.xd_worker_tests.specs.declared.line_entry.LineEntry.{LineEntry}
use Rattle.xd_worker_tests.specs.declared.line_entry.LineEntry.TheVariants.{Mark, Test}
use Rattle.xd_worker_tests.specs.declared.phase.Ending.{Ending}
use Rattle.xd_worker_tests.specs.declared.phase.Ending.TheVariants.{BadCommand}
use Rattle.xd_worker_tests.specs.declared.phase.Phase.{Phase}
use Rattle.xd_worker_tests.specs.declared.phase.Phase.TheVariants.{Awaiting, Serving, Stopped, Over}
use Rattle.xd_worker_tests.specs.declared.phase.Phase.TheVariants as phase
use Rattle.xd_worker_tests.specs.History.{Given, all_asks, call_after, started_tests, turn_after}
use Rattle.xd_worker_tests.specs.Line.{FunctionCall, tests_in_line, all_queued, can_ask, can_give, front, head_test, is_among, kept, left, number_of_log, queue, running_test, stolen_tests}
use Rattle.xd_worker_tests.specs.Turns.{CallTurn, all_heard, answered_in, call_turn_of, done_in, ended_early, ending_text, given, has_log, item_heard_in, line_settled, moved_on, over, piece_asks, serving_suite, stolen, stolen_if, test_started, told, told_done, too_many_channels, asking}
use Rattle.xd_worker_tests.proofs.Starts.{gone_by, started_first}
use Rattle.xd_run_laws.proofs.Logic.{and, differ, split-and}
use Rattle.xd_system.specs.Deaths.{are_of_started}
use Rattle.xd_system.specs.Tells.{comes_in_run, is_of_run, outcome_at_end, outcomes}
use Rattle.xd_system.proofs.Dones.{dones-append, dones_of, grown-dones, no-outcome, piece-dones, plain-outcome, serving-dones}
use Rattle.xd_system.proofs.Grows.{grows-all, grows-over}

-- in these phases no test runs
abbrev rests : Phase → Bool
rests Awaiting = true
rests Serving = false
rests (phase.Ending e) = false
rests Stopped = true
rests Over = true

abbrev Idle : CallTurn → Type 0
Idle t = rests t.call.phase ≡ true → t.call.running ≡ false

-- each step of a turn keeps it

early-idle : (e : Ending) (t : CallTurn) → Idle (ended_early e t)
early-idle e t = go t.call.running refl
  where
    go : (v : Bool) → t.call.running ≡ v → Idle (if v then record t { call = record (t.call) { phase = phase.Ending e } } else over (ending_text e) t)
    go true q = λ z. absurd (differ z)
    go false q = λ z. q

moved-idle : (room : Bool) (l : List LineEntry) (t : CallTurn) → rests t.call.phase ≡ false → t.call.running ≡ false → Idle (moved_on room l t)
moved-idle room [] t serves h = λ z. h
moved-idle room (Mark ∷ l) t serves h = λ z. h
moved-idle room (Test n ∷ []) t serves h = λ z. h
moved-idle room (Test n ∷ (p ∷ l)) t serves h = go (room && has_log t.call.ended)
  where
    go : (v : Bool) → Idle (if v then test_started n t else over (Some too_many_channels) t)
    go true = λ z. absurd (differ (sym serves ∙ z))
    go false = λ z. h

settled-idle : (room : Bool) (t : CallTurn) → rests t.call.phase ≡ false → Idle (line_settled room t)
settled-idle room t serves = go t.call.running refl
  where
    go : (v : Bool) → t.call.running ≡ v → Idle (if v then t else moved_on room (left t.call) t)
    go true q = λ z. absurd (differ (sym serves ∙ z))
    go false q = moved-idle room (left t.call) t serves q

given-idle : (room : Bool) (ns : List ℕ) (t : CallTurn) → rests t.call.phase ≡ false → Idle (given room ns t)
given-idle room ns t serves = go (can_give t.call.size t.call.line ns)
  where
    go : (v : Bool) → Idle (if v then line_settled room (record t { call = record (t.call) { line = t.call.line ++ map Test ns } }) else ended_early BadCommand t)
    go true = settled-idle room (record t { call = record (t.call) { line = t.call.line ++ map Test ns } }) serves
    go false = early-idle BadCommand t

stolen-idle : (ns : List ℕ) (t : CallTurn) → rests t.call.phase ≡ false → Idle (stolen_if ns t)
stolen-idle ns t serves = ask (can_ask t.call.size [] ns)
  where
    go : (v : Bool) → Idle (if v then asking (Tell (what.Back (stolen_tests ns (queue t.call))) ∷ []) (record t { call = record (t.call) { line = front t.call ++ kept ns (queue t.call) } }) else asking (Tell (what.Back []) ∷ []) t)
    go true = λ z. absurd (differ (sym serves ∙ z))
    go false = λ z. absurd (differ (sym serves ∙ z))

    ask : (v : Bool) → Idle (if v then stolen ns t else ended_early BadCommand t)
    ask true = go (all_queued (queue t.call) ns)
    ask false = early-idle BadCommand t

told-idle : (room : Bool) (o : Option Order) (t : CallTurn) → rests t.call.phase ≡ false → Idle (told room o t)
told-idle room None t serves = early-idle BadCommand t
told-idle room (Some (RunTests ns)) t serves = given-idle room ns t serves
told-idle room (Some RunAll) t serves = given-idle room (range_with_len 0 t.call.size) t serves
told-idle room (Some (Steal ns)) t serves = stolen-idle ns t serves
told-idle room (Some Shutdown) t serves = settled-idle room (record t { call = record (t.call) { line = t.call.line ++ Mark ∷ [] } }) serves

heard-idle : (p : Phase) (room : Bool) (o : Option Order) (t : CallTurn) → t.call.phase ≡ p → Idle t → Idle (item_heard_in p room o t)
heard-idle Awaiting room o t e k = k
heard-idle Serving room o t e k = told-idle room o t (ap rests e)
heard-idle (phase.Ending x) room o t e k = k
heard-idle Stopped room o t e k = k
heard-idle Over room o t e k = k

all-idle : (room : Bool) (os : List (Option Order)) (t : CallTurn) → Idle t → Idle (all_heard room os t)
all-idle room [] t k = k
all-idle room (o ∷ os) t k = all-idle room os (item_heard_in t.call.phase room o t) (heard-idle t.call.phase room o t refl k)

done-idle : (n : ℕ) (p : Phase) (room : Bool) (outcome : Outcome) (ms : ℕ) (t : CallTurn) → t.call.phase ≡ p → Idle t → Idle (done_in p room n outcome ms t)
done-idle n Serving room outcome ms t e k = settled-idle room (told_done n outcome ms t) (ap rests e)
done-idle n (phase.Ending x) room outcome ms t e k = λ z. refl
done-idle n Stopped room outcome ms t e k = λ z. refl
done-idle n Awaiting room outcome ms t e k = k
done-idle n Over room outcome ms t e k = k

turn-idle : (room : Bool) (p : Phase) (r : Option ℕ) (i : Input) (t : CallTurn) → comes_in_run i ≡ true → t.call.phase ≡ p → Idle t → Idle (answered_in p r room i t)
turn-idle room p r (input.Command o) t h e k = heard-idle p room o t e k
turn-idle room p r input.ReceivingEnded t h e k = absurd (differ h)
turn-idle room Awaiting r (input.Suite ids) t h e k = all-idle room t.call.waiting (record { call = serving_suite (length ids) t.call; asks = t.asks ++ Tell (what.Collected ids) ∷ []; run = t.run }) (λ z. refl)
turn-idle room Serving r (input.Suite ids) t h e k = k
turn-idle room (phase.Ending x) r (input.Suite ids) t h e k = k
turn-idle room Stopped r (input.Suite ids) t h e k = k
turn-idle room Over r (input.Suite ids) t h e k = k
turn-idle room Awaiting r (input.SuiteRefused text) t h e k = λ z. k (ap rests e)
turn-idle room Serving r (input.SuiteRefused text) t h e k = k
turn-idle room (phase.Ending x) r (input.SuiteRefused text) t h e k = k
turn-idle room Stopped r (input.SuiteRefused text) t h e k = k
turn-idle room Over r (input.SuiteRefused text) t h e k = k
turn-idle room p None (input.Output bytes) t h e k = k
turn-idle room Awaiting (Some n) (input.Output bytes) t h e k = k
turn-idle room Serving (Some n) (input.Output bytes) t h e k = k
turn-idle room (phase.Ending x) (Some n) (input.Output bytes) t h e k = k
turn-idle room Stopped (Some n) (input.Output bytes) t h e k = k
turn-idle room Over (Some n) (input.Output bytes) t h e k = k
turn-idle room p None (input.Done outcome ms) t h e k = k
turn-idle room p (Some n) (input.Done outcome ms) t h e k = done-idle n p room outcome ms t e k
turn-idle room p r input.Stop t h e k = absurd (differ h)

call-idle : (gs : List Given) → list_all is_of_run gs ≡ true → Idle (call_turn_of (call_after gs))
call-idle [] h = λ z. refl
call-idle (g ∷ gs) h =
    let p = split-and (is_of_run g) (list_all is_of_run gs) h in
    let q = split-and g.room (comes_in_run g.input) p.0 in
    let c = call_after gs in
    turn-idle g.room c.phase (running_test c) g.input (call_turn_of c) q.1 refl (call-idle gs p.1)

-- what one input makes the worker tell of an end

none-runs : (c : FunctionCall) → c.running ≡ false → running_test c ≡ None
none-runs c h = rw h refl

waiting-dones : (t : CallTurn) (i : Input) → t.asks ≡ [] → comes_in_run i ≡ true → dones_of (answered_in Awaiting None true i t).asks ≡ []
waiting-dones t (input.Command o) e h = ap dones_of e
waiting-dones t input.ReceivingEnded e h = absurd (differ h)
waiting-dones t (input.Suite ids) e h =
    let u : CallTurn = record { call = serving_suite (length ids) t.call; asks = t.asks ++ Tell (what.Collected ids) ∷ []; run = t.run } in
    grown-dones u (all_heard true t.call.waiting u) (grows-all true t.call.waiting u) ∙ ap (λ (l : List Ask). dones_of (l ++ Tell (what.Collected ids) ∷ [])) e
waiting-dones t (input.SuiteRefused text) e h = ap (λ (l : List Ask). dones_of (l ++ End (Some text) ∷ [])) e
waiting-dones t (input.Output bytes) e h = ap dones_of e
waiting-dones t (input.Done outcome ms) e h = ap dones_of e
waiting-dones t input.Stop e h = absurd (differ h)

ending-dones : (x : Ending) (t : CallTurn) (r : Option ℕ) (i : Input) → t.asks ≡ [] → comes_in_run i ≡ true → dones_of (answered_in (phase.Ending x) r true i t).asks ≡ outcome_at_end r i
ending-dones x t r (input.Command None) e h = absurd (differ h)
ending-dones x t r (input.Command (Some o)) e h = ap dones_of e ∙ sym (plain-outcome r (Some o))
ending-dones x t r input.ReceivingEnded e h = absurd (differ h)
ending-dones x t None (input.Suite ids) e h = ap dones_of e
ending-dones x t (Some n) (input.Suite ids) e h = ap dones_of e
ending-dones x t None (input.SuiteRefused text) e h = ap dones_of e
ending-dones x t (Some n) (input.SuiteRefused text) e h = ap dones_of e
ending-dones x t None (input.Output bytes) e h = ap dones_of e
ending-dones x t (Some n) (input.Output bytes) e h =
    let cut : List ℕ = take (most_of_one - t.call.sent) bytes in
    let log = number_of_log t.call.ended in
    dones-append t.asks (piece_asks log cut) ∙ ap (λ (l : List Ask). dones_of l ++ dones_of (piece_asks log cut)) e ∙ piece-dones log cut
ending-dones x t None (input.Done outcome ms) e h = ap dones_of e
ending-dones x t (Some n) (input.Done outcome ms) e h =
    let u = told_done n outcome ms t in
    grown-dones u (over (ending_text x) u) (grows-over (ending_text x) u) ∙ ap (λ (l : List Ask). dones_of (l ++ CloseLog (number_of_log t.call.ended) ∷ Tell (what.Done n outcome ms) ∷ [])) e
ending-dones x t r input.Stop e h = absurd (differ h)

resting-dones : (p : Phase) (t : CallTurn) (i : Input) → rests p ≡ true → t.asks ≡ [] → comes_in_run i ≡ true → dones_of (answered_in p None true i t).asks ≡ []
resting-dones Awaiting t i k e h = waiting-dones t i e h
resting-dones Serving t i k e h = absurd (differ k)
resting-dones (phase.Ending x) t i k e h = absurd (differ k)
resting-dones Stopped t (input.Command o) k e h = ap dones_of e
resting-dones Stopped t input.ReceivingEnded k e h = ap dones_of e
resting-dones Stopped t (input.Suite ids) k e h = ap dones_of e
resting-dones Stopped t (input.SuiteRefused text) k e h = ap dones_of e
resting-dones Stopped t (input.Output bytes) k e h = ap dones_of e
resting-dones Stopped t (input.Done outcome ms) k e h = ap dones_of e
resting-dones Stopped t input.Stop k e h = ap dones_of e
resting-dones Over t (input.Command o) k e h = ap dones_of e
resting-dones Over t input.ReceivingEnded k e h = ap dones_of e
resting-dones Over t (input.Suite ids) k e h = ap dones_of e
resting-dones Over t (input.SuiteRefused text) k e h = ap dones_of e
resting-dones Over t (input.Output bytes) k e h = ap dones_of e
resting-dones Over t (input.Done outcome ms) k e h = ap dones_of e
resting-dones Over t input.Stop k e h = ap dones_of e

answer-dones : (p : Phase) (c : FunctionCall) (i : Input) → c.phase ≡ p → Idle (call_turn_of c) → comes_in_run i ≡ true
    → dones_of (answered_in p (running_test c) true i (call_turn_of c)).asks ≡ outcome_at_end (running_test c) i
answer-dones p c i e k h = go p e
  where
    quiet : (q : Phase) → c.phase ≡ q → rests q ≡ true → dones_of (answered_in q (running_test c) true i (call_turn_of c)).asks ≡ outcome_at_end (running_test c) i
    quiet q e2 z =
        let none = none-runs c (k (ap rests e2 ∙ z)) in
        ap (λ (r : Option ℕ). dones_of (answered_in q r true i (call_turn_of c)).asks) none ∙ resting-dones q (call_turn_of c) i z refl h
        ∙ sym (ap (λ (r : Option ℕ). outcome_at_end r i) none ∙ no-outcome i)

    go : (q : Phase) → c.phase ≡ q → dones_of (answered_in q (running_test c) true i (call_turn_of c)).asks ≡ outcome_at_end (running_test c) i
    go Awaiting e2 = quiet Awaiting e2 refl
    go Serving e2 = serving-dones (call_turn_of c) (running_test c) i refl h
    go (phase.Ending x) e2 = ending-dones x (call_turn_of c) (running_test c) i refl h
    go Stopped e2 = quiet Stopped e2 refl
    go Over e2 = quiet Over e2 refl

turn-outcome : (g : Given) (gs : List Given) → is_of_run g ≡ true → list_all is_of_run gs ≡ true → dones_of (turn_after gs g).asks ≡ outcome_at_end (running_test (call_after gs)) g.input
turn-outcome g gs h all =
    let p = split-and g.room (comes_in_run g.input) h in
    let c = call_after gs in
    ap (λ (b : Bool). dones_of (answered_in c.phase (running_test c) b g.input (call_turn_of c)).asks) p.0 ∙ answer-dones c.phase c g.input refl (call-idle gs all) p.1

-- a worker tells of each program that ended how it did, in order
pub told-outcomes : (gs : List Given) → list_all is_of_run gs ≡ true → dones_of (all_asks gs) ≡ outcomes gs
told-outcomes [] h = refl
told-outcomes (g ∷ gs) h =
    let p = split-and (is_of_run g) (list_all is_of_run gs) h in
    dones-append (all_asks gs) (turn_after gs g).asks ∙ ap (λ (l : List (ℕ × Outcome)). l ++ dones_of (turn_after gs g).asks) (told-outcomes gs p.1)
    ∙ ap (λ (l : List (ℕ × Outcome)). outcomes gs ++ l) (turn-outcome g gs p.0 p.1)

-- the program of a test that ended was started

among-longer : (n : ℕ) (xs ys : List ℕ) → is_among n xs ≡ true → is_among n (xs ++ ys) ≡ true
among-longer n [] ys h = absurd (differ h)
among-longer n (x ∷ xs) ys h = go (x == n) h (among-longer n xs ys)
  where
    go : (b : Bool) → (b || is_among n xs) ≡ true → (is_among n xs ≡ true → is_among n (xs ++ ys) ≡ true) → (b || is_among n (xs ++ ys)) ≡ true
    go true k rest = refl
    go false k rest = rest k

head-there : (k : ℕ) (l : List LineEntry) (n : ℕ) → head_test (drop k l) ≡ Some n → is_among n (tests_in_line (take (suc k) l)) ≡ true
head-there zero [] n h = (let z : None ≡ Some n = h in cc)
head-there (suc k) [] n h = (let z : None ≡ Some n = h in cc)
head-there zero (Test m ∷ l) n h = (let same : m ≡ n = cc in ap (λ (q : ℕ). (q == n) || is_among n (tests_in_line (take 0 l))) same ∙ or-true (n == n) (is_among n (tests_in_line (take 0 l))) (grind (arith, nat_tests)))
  where
    or-true : (a b : Bool) → a ≡ true → (a || b) ≡ true
    or-true true b q = refl
    or-true false b q = absurd (differ q)
head-there zero (Mark ∷ l) n h = (let z : None ≡ Some n = h in cc)
head-there (suc k) (Test m ∷ l) n h = go (m == n) (head-there k l n h)
  where
    go : (b : Bool) → is_among n (tests_in_line (take (suc k) l)) ≡ true → (b || is_among n (tests_in_line (take (suc k) l))) ≡ true
    go true rest = refl
    go false rest = rest
head-there (suc k) (Mark ∷ l) n h = head-there k l n h

pub running-started : (gs : List Given) (n : ℕ) → running_test (call_after gs) ≡ Some n → is_among n (started_tests gs) ≡ true
running-started gs n h = ap (is_among n) (started_first gs) ∙ go (call_after gs).running refl h
  where
    one-more : (k : ℕ) → k + 1 ≡ suc k
    one-more k = omega arith

    go : (v : Bool) → (call_after gs).running ≡ v → (if v then head_test (left (call_after gs)) else None) ≡ Some n → is_among n (tests_in_line (take (gone_by (call_after gs)) (call_after gs).line)) ≡ true
    go true q z = ap (λ (b : Bool). is_among n (tests_in_line (take ((call_after gs).ended + (if b then 1 else 0)) (call_after gs).line))) q
        ∙ ap (λ (i : ℕ). is_among n (tests_in_line (take i (call_after gs).line))) (one-more (call_after gs).ended) ∙ head-there (call_after gs).ended (call_after gs).line n z
    go false q z = cc

ends-more : (ds : List (ℕ × Outcome)) (xs ys : List ℕ) → are_of_started ds xs ≡ true → are_of_started ds (xs ++ ys) ≡ true
ends-more [] xs ys h = refl
ends-more (d ∷ ds) xs ys h = (let p = split-and (is_among d.0 xs) (are_of_started ds xs) h in and (among-longer d.0 xs ys p.0) (ends-more ds xs ys p.1))

ends-both : (cs bs : List (ℕ × Outcome)) (xs : List ℕ) → are_of_started cs xs ≡ true → are_of_started bs xs ≡ true → are_of_started (cs ++ bs) xs ≡ true
ends-both [] bs xs h k = k
ends-both (c ∷ cs) bs xs h k = (let p = split-and (is_among c.0 xs) (are_of_started cs xs) h in and p.0 (ends-both cs bs xs p.1 k))

pub outcomes-started : (gs : List Given) → are_of_started (outcomes gs) (started_tests gs) ≡ true
outcomes-started [] = refl
outcomes-started (g ∷ gs) =
    let more : List ℕ = option_to_list (turn_after gs g).run in
    ends-both (outcomes gs) (outcome_at_end (running_test (call_after gs)) g.input) (started_tests gs ++ more)
    (ends-more (outcomes gs) (started_tests gs) more (outcomes-started gs))
    (ends-more (outcome_at_end (running_test (call_after gs)) g.input) (started_tests gs) more (last (running_test (call_after gs)) g.input refl))
  where
    last : (r : Option ℕ) (i : Input) → running_test (call_after gs) ≡ r → are_of_started (outcome_at_end r i) (started_tests gs) ≡ true
    last None i e = ap (λ (ds : List (ℕ × Outcome)). are_of_started ds (started_tests gs)) (no-outcome i)
    last (Some n) (input.Done outcome ms) e = and (running-started gs n e) refl
    last (Some n) (input.Command o) e = refl
    last (Some n) input.ReceivingEnded e = refl
    last (Some n) (input.Suite ids) e = refl
    last (Some n) (input.SuiteRefused text) e = refl
    last (Some n) (input.Output bytes) e = refl
    last (Some n) input.Stop e = refl
