-- What a call that serves tells of the ends of its tests, and that a worker which is done started the tests that ended.
use Rattle.std.proofs.Common.{◌≡◌, ℕ, ◌+◌, ◌-◌, List, [], ◌∷◌, ◌++◌, take, map, Bool, true, refl, ap, sym, ◌∙◌, arith}
use Rattle.std.specs.Prelude.{if◌then◌else◌, Option, Some, None}
use Rattle.std.proofs.lemmas.List.{append-nil}
use Rattle.std.proofs.lemmas.List.Elements.{filter_map-append}
use Rattle.xd_journal.specs.Kept.{most_of_one}
use Rattle.xd_journal.specs.declared.entry.Outcome.{Outcome}
use Rattle.xd_journal.specs.declared.news.What.{What}
use Rattle.xd_journal.specs.declared.news.What.TheVariants as what
use Rattle.xd_commands.specs.declared.order.Order.{Order}
use Rattle.xd_worker_tests.specs.declared.ask.Ask.{Ask}
use Rattle.xd_worker_tests.specs.declared.ask.Ask.TheVariants.{CloseLog, Tell}
use Rattle.xd_worker_tests.specs.declared.input.Input.{Input}
use Rattle.xd_worker_tests.specs.declared.input.Input.TheVariants as input
use Rattle.xd_worker_tests.specs.declared.line_entry.LineEntry.TheVariants.{Test}
use Rattle.xd_worker_tests.specs.declared.phase.Phase.TheVariants.{Serving}
use Rattle.xd_worker_tests.specs.History.{Given, call_after, started_tests}
use Rattle.xd_worker_tests.specs.Line.{number_of_log, tests_in_line}
use Rattle.xd_worker_tests.specs.Turns.{CallTurn, answered_in, line_settled, piece_asks, told, told_done}
use Rattle.xd_worker_tests.proofs.Starts.{started_first}
use Rattle.xd_run_laws.proofs.Logic.{differ}
use Rattle.xd_system.specs.Own.{outcome_of_news, outcomes_in, ends_in}
use Rattle.xd_system.specs.Tells.{comes_in_run, news_of_asks, tells, outcome_at_end}
use Rattle.xd_system.proofs.Told.{asks-append}
use Rattle.xd_system.proofs.Worker.{IsDone}
use Rattle.xd_system.proofs.Grows.{Grows, grows-settled, grows-told}

abbrev pub dones_of : List Ask → List (ℕ × Outcome)
dones_of asks = outcomes_in (news_of_asks asks)

pub dones-append : (xs ys : List Ask) → dones_of (xs ++ ys) ≡ dones_of xs ++ dones_of ys
dones-append xs ys = ap outcomes_in (asks-append xs ys)
    ∙ filter_map-append outcome_of_news (news_of_asks xs) (news_of_asks ys)

pub grown-dones : (t u : CallTurn) → Grows t u → dones_of u.asks ≡ dones_of t.asks
grown-dones t u g = ap dones_of g.1 ∙ dones-append t.asks g.0
    ∙ ap (λ (l : List (ℕ × Outcome)). dones_of t.asks ++ l) g.2 ∙ append-nil (dones_of t.asks)

pub piece-dones : (log : ℕ) (bytes : List ℕ) → dones_of (piece_asks log bytes) ≡ []
piece-dones log [] = refl
piece-dones log (b ∷ bs) = refl

pub no-outcome : (i : Input) → outcome_at_end None i ≡ []
no-outcome (input.Command o) = refl
no-outcome input.ReceivingEnded = refl
no-outcome (input.Suite ids) = refl
no-outcome (input.SuiteRefused text) = refl
no-outcome (input.Output bytes) = refl
no-outcome (input.Done outcome ms) = refl
no-outcome input.Stop = refl

pub plain-outcome : (r : Option ℕ) (o : Option Order) → outcome_at_end r (input.Command o) ≡ []
plain-outcome None o = refl
plain-outcome (Some n) o = refl

-- of a call that serves
pub serving-dones : (t : CallTurn) (r : Option ℕ) (i : Input) → t.asks ≡ [] → comes_in_run i ≡ true
    → dones_of (answered_in Serving r true i t).asks ≡ outcome_at_end r i
serving-dones t r (input.Command None) e h = absurd (differ h)
serving-dones t r (input.Command (Some o)) e h = grown-dones t (told true (Some o) t) (grows-told true (Some o) t)
    ∙ ap dones_of e ∙ sym (plain-outcome r (Some o))
serving-dones t r input.ReceivingEnded e h = absurd (differ h)
serving-dones t None (input.Suite ids) e h = ap dones_of e
serving-dones t (Some n) (input.Suite ids) e h = ap dones_of e
serving-dones t None (input.SuiteRefused text) e h = ap dones_of e
serving-dones t (Some n) (input.SuiteRefused text) e h = ap dones_of e
serving-dones t None (input.Output bytes) e h = ap dones_of e
serving-dones t (Some n) (input.Output bytes) e h =
    let cut : List ℕ = take (most_of_one - t.call.sent) bytes in
    let log = number_of_log t.call.ended in
    dones-append t.asks (piece_asks log cut) ∙ ap (λ (l : List Ask). dones_of l ++ dones_of (piece_asks log cut)) e
    ∙ piece-dones log cut
serving-dones t None (input.Done outcome ms) e h = ap dones_of e
serving-dones t (Some n) (input.Done outcome ms) e h =
    let u = told_done n outcome ms t in
    grown-dones u (line_settled true u) (grows-settled true u)
    ∙ ap (λ (l : List Ask). dones_of (l ++ CloseLog (number_of_log t.call.ended) ∷ Tell (what.Done n outcome ms) ∷ [])) e
serving-dones t r input.Stop e h = absurd (differ h)

tests-mapped : (ns : List ℕ) → tests_in_line (map Test ns) ≡ ns
tests-mapped [] = refl
tests-mapped (n ∷ ns) = ap (λ (l : List ℕ). n ∷ l) (tests-mapped ns)

-- a worker that is done started the tests that ended
pub started-ended : (size : ℕ) (gs : List Given) → IsDone size gs → started_tests gs ≡ ends_in (tells gs)
started-ended size gs k =
    let c = call_after gs in
    let e : c.ended + 0 ≡ c.ended = omega arith in
    started_first gs ∙ ap (λ (b : Bool). tests_in_line (take (c.ended + (if b then 1 else 0)) c.line)) k.idle
    ∙ ap (λ (i : ℕ). tests_in_line (take i c.line)) e ∙ ap tests_in_line k.passed_is
    ∙ tests-mapped (ends_in (tells gs))

-- the tests that ended are those of the outcomes
pub ended-dones : (news : List What) → map (λ (p : ℕ × Outcome). p.0) (outcomes_in news) ≡ ends_in news
ended-dones [] = refl
ended-dones (what.Done n o ms ∷ news) = ap (λ (l : List ℕ). n ∷ l) (ended-dones news)
ended-dones (what.Ready ∷ news) = ended-dones news
ended-dones (what.Collected i ∷ news) = ended-dones news
ended-dones (what.LogStart i j ∷ news) = ended-dones news
ended-dones (what.Piece i j ∷ news) = ended-dones news
ended-dones (what.LogClosed i ∷ news) = ended-dones news
ended-dones (what.Back i ∷ news) = ended-dones news
ended-dones (what.Finished ∷ news) = ended-dones news
ended-dones (what.Closed t ∷ news) = ended-dones news
ended-dones (what.Stray ∷ news) = ended-dones news
ended-dones (what.Gone c ∷ news) = ended-dones news
ended-dones (what.NotStarted ∷ news) = ended-dones news
