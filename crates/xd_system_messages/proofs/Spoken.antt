-- What each input of a run makes a call of `run_tests` ask for.
use Rattle.std.proofs.Common.{◌≡◌, ℕ, ◌<◌, ◌≤◌, List, [], ◌∷◌, ◌++◌, length, take, drop, Bool, true, false, ◌&&◌, Option, Some, None, refl, ap, sym, subst, ◌∙◌, append_assoc, arith, inl, inr}
use Rattle.std.specs.Prelude.{◌-◌, map, nat_lt, codes, if◌then◌else◌}
use Rattle.std.specs.List.{range_with_len}
use Rattle.std.proofs.lemmas.Bool.{and_parts, leb-true, ltb-true}
use Rattle.std.proofs.lemmas.Grind.{common_steps}
use Rattle.std.proofs.lemmas.List.{length-take}
use Rattle.xd_edge.specs.Limits.{most_tests}
use Rattle.xd_journal.specs.Kept.{most_of_one}
use Rattle.xd_journal.specs.declared.entry.Outcome.{Outcome}
use Rattle.xd_journal.specs.declared.news.What.TheVariants.{Back, Finished, Collected, LogStart, Done}
use Rattle.xd_commands.specs.Events.{collection_tree}
use Rattle.xd_commands.specs.Limits.{AreIdsForPayload}
use Rattle.xd_commands.specs.declared.order.Order.{Order}
use Rattle.xd_commands.specs.declared.order.Order.TheVariants.{RunTests, RunAll, Steal, Shutdown}
use Rattle.xd_worker_tests.specs.declared.line_entry.LineEntry.{LineEntry}
use Rattle.xd_worker_tests.specs.declared.line_entry.LineEntry.TheVariants.{Test, Mark}
use Rattle.xd_worker_tests.specs.declared.phase.Ending.{Ending}
use Rattle.xd_worker_tests.specs.declared.phase.Ending.TheVariants.{BadCommand, ReceivingEnded}
use Rattle.xd_worker_tests.specs.declared.phase.Phase.{Phase}
use Rattle.xd_worker_tests.specs.declared.phase.Phase.TheVariants.{Awaiting, Serving, Stopped, Over}
use Rattle.xd_worker_tests.specs.declared.phase.Phase.TheVariants as phase
use Rattle.xd_worker_tests.specs.declared.ask.Ask.{Ask}
use Rattle.xd_worker_tests.specs.declared.ask.Ask.TheVariants.{Tell, Piece, CloseLog, End}
use Rattle.xd_worker_tests.specs.declared.input.Input.{Input}
use Rattle.xd_worker_tests.specs.declared.input.Input.TheVariants as input
use Rattle.xd_worker_tests.specs.Line.{FunctionCall, left, front, queue, passed, running_test, head_test, number_of_log, can_give, can_ask, all_queued, kept, stolen_tests}
use Rattle.xd_worker_tests.specs.Turns.{CallTurn, call_turn_of, answered, answered_in, over, ended_early, ending_text, asking, finished, test_started, has_log, too_many_channels, moved_on, line_settled, given, stolen, stolen_if, told, item_heard_in, item_heard, all_heard, collected_in, suite_refused_in, piece_asks, put_out, output_fed, told_done, done_of}
use Rattle.xd_worker_tests.specs.History.{Given, call_after, turn_after}
use Rattle.xd_worker_tests.specs.inner.Stands.{once}
use Rattle.xd_worker_tests.proofs.Once.{and_both, once_given, once_kept, once_mark}
use Rattle.xd_worker_tests.proofs.Within.{within, both_in, given_in, head_in, kept_in, rest_in, start_in}
use Rattle.xd_system_messages.proofs.Asks.{IsErrorText}
use Rattle.xd_system_messages.proofs.Counts.{stolen_few}
use Rattle.xd_system_messages.proofs.Asks.{EndsBy, Going, IsGivenInput, IsOfRun, IsSayableAsk, Lined, Speaks, goes_on, is_over, is_quiet, quiet_more, sayable_more, speaks}

-- ---- ends

bad_command : IsErrorText (codes "bad command")
unfolding lib.Utf8.encode
bad_command = (refl, refl)

many_channels : IsErrorText too_many_channels
unfolding lib.Utf8.encode
many_channels = (refl, refl)

over_speaks : (text : List ℕ) (t : CallTurn) → IsErrorText text → Going t → Speaks (over (Some text) t)
over_speaks text t is g = record {
  lined = record { small = g.lined.small; line_in = g.lined.line_in; once_is = g.lined.once_is; of_run = tt };
  each = sayable_more t.asks (End (Some text) ∷ []) g.each (is, tt);
  ends = record { quiet = t.asks; closing = End (Some text) ∷ []; are = refl; are_quiet = g.quiet; closes = inr (text, refl) };
}

finished_speaks : (t : CallTurn) → Going t → Speaks (finished t)
finished_speaks t g = record {
  lined = record { small = g.lined.small; line_in = g.lined.line_in; once_is = g.lined.once_is; of_run = tt };
  each = sayable_more (t.asks ++ Tell Finished ∷ []) (End None ∷ []) (sayable_more t.asks (Tell Finished ∷ []) g.each (record { value = _; is = refl; event = tt; fits = tt }, tt)) (tt, tt);
  ends = record { quiet = t.asks; closing = Tell Finished ∷ End None ∷ []; are = append_assoc t.asks (Tell Finished ∷ []) (End None ∷ []); are_quiet = g.quiet; closes = inl refl };
}

early_speaks : (t : CallTurn) → Going t → Speaks (ended_early BadCommand t)
early_speaks t g = go t.call.running
  where
    go : (v : Bool) → Speaks (if v then record t { call = record (t.call) { phase = phase.Ending BadCommand } } else over (ending_text BadCommand) t)
    go true = record {
      lined = record { small = g.lined.small; line_in = g.lined.line_in; once_is = g.lined.once_is; of_run = refl };
      each = g.each;
      ends = g.quiet;
    }
    go false = over_speaks (codes "bad command") t bad_command g

-- one quiet ask more
asking_goes : (a : Ask) (t : CallTurn) → is_quiet a ≡ true → IsSayableAsk a → Going t → Going (asking (a ∷ []) t)
asking_goes a t q s g = record {
  lined = g.lined;
  each = sayable_more t.asks (a ∷ []) g.each (s, tt);
  quiet = quiet_more t.asks (a ∷ []) g.quiet (and_both (is_quiet a) true q refl);
  open_is = g.open_is;
}

-- ---- orders

below_all : (n size : ℕ) → nat_lt n size ≡ true → size ≤ most_tests → n < 4294967296
below_all n size h k = (let z = ltb-true n size h in omega (arith, z))

started_speaks : (n : ℕ) (rest : List LineEntry) (t : CallTurn) → has_log t.call.ended ≡ true → left t.call ≡ Test n ∷ rest → Going t → Speaks (test_started n t)
started_speaks n rest t number is g =
    let inside = rest_in t.call.size t.call.line t.call.ended g.lined.line_in in
    let here : nat_lt n t.call.size ≡ true = (and_parts (nat_lt n t.call.size) (within t.call.size rest) (ap (within t.call.size) (sym is) ∙ inside)).0 in
    let low = leb-true (number_of_log t.call.ended) 2147483647 number in
    let log : Ask = Tell (LogStart n (number_of_log t.call.ended)) in
    let sayable : IsSayableAsk log = record { value = _; is = refl; event = below_all n t.call.size here g.lined.small; fits = (omega arith, omega (arith, low)) } in
    speaks (test_started n t) (record {
      lined = record { small = g.lined.small; line_in = g.lined.line_in; once_is = g.lined.once_is; of_run = g.lined.of_run };
      each = sayable_more t.asks (log ∷ []) g.each (sayable, tt);
      quiet = quiet_more t.asks (log ∷ []) g.quiet refl;
      open_is = g.open_is;
    })

moved_speaks : (room : Bool) (ps : List LineEntry) (t : CallTurn) → left t.call ≡ ps → Going t → Speaks (moved_on room ps t)
moved_speaks room [] t is g = speaks t g
moved_speaks room (Mark ∷ ps) t is g = finished_speaks t g
moved_speaks room (Test n ∷ []) t is g = speaks t g
moved_speaks room (Test n ∷ (p ∷ ps)) t is g = go (room && has_log t.call.ended) refl
  where
    go : (v : Bool) → (room && has_log t.call.ended) ≡ v → Speaks (if v then test_started n t else over (Some too_many_channels) t)
    go true e = started_speaks n (p ∷ ps) t (and_parts room (has_log t.call.ended) e).1 is g
    go false e = over_speaks too_many_channels t many_channels g

settled_speaks : (room : Bool) (t : CallTurn) → Going t → Speaks (line_settled room t)
settled_speaks room t g = go t.call.running
  where
    go : (v : Bool) → Speaks (if v then t else moved_on room (left t.call) t)
    go true = speaks t g
    go false = moved_speaks room (left t.call) t refl g

-- the same turn with another line
lined_goes : (line : List LineEntry) (t : CallTurn) → within t.call.size line ≡ true → once line ≡ true → Going t → Going (record t { call = record (t.call) { line = line } })
lined_goes line t i o g = record {
  lined = record { small = g.lined.small; line_in = i; once_is = o; of_run = g.lined.of_run };
  each = g.each;
  quiet = g.quiet;
  open_is = g.open_is;
}

given_speaks : (room : Bool) (ns : List ℕ) (t : CallTurn) → Going t → Speaks (given room ns t)
given_speaks room ns t g = go (can_give t.call.size t.call.line ns) refl
  where
    go : (v : Bool) → can_give t.call.size t.call.line ns ≡ v
        → Speaks (if v then line_settled room (record t { call = record (t.call) { line = t.call.line ++ map Test ns } }) else ended_early BadCommand t)
    go true e =
        let inside = both_in t.call.size t.call.line (map Test ns) g.lined.line_in (given_in t.call.size t.call.line ns e) in
        settled_speaks room _ (lined_goes (t.call.line ++ map Test ns) t inside (once_given t.call.size t.call.line ns e g.lined.once_is) g)
    go false e = early_speaks t g

-- what a steal leaves of a line
halves : (l : List LineEntry) (n : ℕ) → take n l ++ drop n l ≡ l
halves l n = grind (arith, common_steps)

taken_goes : (ns : List ℕ) (t : CallTurn) → Going t → Going (record t { call = record (t.call) { line = front t.call ++ kept ns (queue t.call) } })
taken_goes ns t g =
    let c = t.call in
    let inside = both_in c.size (front c) (kept ns (queue c)) (start_in c.size c.line (passed c) g.lined.line_in) (kept_in c.size ns (queue c) (rest_in c.size c.line (passed c) g.lined.line_in)) in
    let apart = once_kept ns (front c) (queue c) (ap once (halves c.line (passed c)) ∙ g.lined.once_is) in
    lined_goes (front c ++ kept ns (queue c)) t inside apart g

back_sayable : (ns : List ℕ) (c : FunctionCall) → Lined c → IsSayableAsk (Tell (Back (stolen_tests ns (queue c))))
back_sayable ns c l =
    let few = stolen_few ns c.size (take (passed c) c.line) (queue c) l.small (ap (within c.size) (halves c.line (passed c)) ∙ l.line_in) (ap once (halves c.line (passed c)) ∙ l.once_is) in
    record { value = _; is = refl; event = few.0; fits = few.1 }

stolen_speaks : (ns : List ℕ) (t : CallTurn) → Going t → Speaks (stolen_if ns t)
stolen_speaks ns t g = ask (can_ask t.call.size [] ns)
  where
    none : IsSayableAsk (Tell (Back []))
    none = record { value = _; is = refl; event = tt; fits = omega arith }

    go : (v : Bool) → Speaks (if v then asking (Tell (Back (stolen_tests ns (queue t.call))) ∷ []) (record t { call = record (t.call) { line = front t.call ++ kept ns (queue t.call) } }) else asking (Tell (Back []) ∷ []) t)
    go true = speaks _ (asking_goes (Tell (Back (stolen_tests ns (queue t.call)))) _ refl (back_sayable ns t.call g.lined) (taken_goes ns t g))
    go false = speaks _ (asking_goes (Tell (Back [])) t refl none g)

    ask : (v : Bool) → Speaks (if v then stolen ns t else ended_early BadCommand t)
    ask true = go (all_queued (queue t.call) ns)
    ask false = early_speaks t g

marked_goes : (t : CallTurn) → Going t → Going (record t { call = record (t.call) { line = t.call.line ++ Mark ∷ [] } })
marked_goes t g =
    lined_goes (t.call.line ++ Mark ∷ []) t (both_in t.call.size t.call.line (Mark ∷ []) g.lined.line_in refl) (once_mark t.call.line ∙ g.lined.once_is) g

told_speaks : (room : Bool) (o : Option Order) (t : CallTurn) → Going t → Speaks (told room o t)
told_speaks room None t g = early_speaks t g
told_speaks room (Some (RunTests ns)) t g = given_speaks room ns t g
told_speaks room (Some RunAll) t g = given_speaks room (range_with_len 0 t.call.size) t g
told_speaks room (Some (Steal ns)) t g = stolen_speaks ns t g
told_speaks room (Some Shutdown) t g = settled_speaks room _ (marked_goes t g)

heard_speaks : (p : Phase) (room : Bool) (o : Option Order) (t : CallTurn) → t.call.phase ≡ p → Speaks t → Speaks (item_heard_in p room o t)
heard_speaks Awaiting room o t e s = record {
  lined = record { small = s.lined.small; line_in = s.lined.line_in; once_is = s.lined.once_is; of_run = s.lined.of_run };
  each = s.each;
  ends = s.ends;
}
heard_speaks Serving room o t e s = told_speaks room o t (goes_on t (ap is_over e) s)
heard_speaks (phase.Ending x) room o t e s = s
heard_speaks Stopped room o t e s = s
heard_speaks Over room o t e s = s

all_speak : (room : Bool) (os : List (Option Order)) (t : CallTurn) → Speaks t → Speaks (all_heard room os t)
all_speak room [] t s = s
all_speak room (o ∷ os) t s = all_speak room os (item_heard room o t) (heard_speaks t.call.phase room o t refl s)

-- ---- the suite

collected_speaks : (p : Phase) (room : Bool) (ids : List (List ℕ)) (t : CallTurn) → t.call.phase ≡ p → length ids ≤ most_tests → AreIdsForPayload ids → Speaks t → Speaks (collected_in p room ids t)
collected_speaks Awaiting room ids t e few fit s =
    let g = goes_on t (ap is_over e) s in
    all_speak room t.call.waiting _ (record {
      lined = record { small = few; line_in = refl; once_is = refl; of_run = tt };
      each = sayable_more t.asks (Tell (Collected ids) ∷ []) g.each (record { value = collection_tree ids; is = refl; event = tt; fits = fit }, tt);
      ends = quiet_more t.asks (Tell (Collected ids) ∷ []) g.quiet refl;
    })
collected_speaks Serving room ids t e few fit s = s
collected_speaks (phase.Ending x) room ids t e few fit s = s
collected_speaks Stopped room ids t e few fit s = s
collected_speaks Over room ids t e few fit s = s

refused_speaks : (p : Phase) (text : List ℕ) (t : CallTurn) → t.call.phase ≡ p → IsErrorText text → Speaks t → Speaks (suite_refused_in p text t)
refused_speaks Awaiting text t e is s = over_speaks text t is (goes_on t (ap is_over e) s)
refused_speaks Serving text t e is s = s
refused_speaks (phase.Ending x) text t e is s = s
refused_speaks Stopped text t e is s = s
refused_speaks Over text t e is s = s

-- ---- programs

take_few : (n : ℕ) (b : List ℕ) → n ≤ most_of_one → length (take n b) ≤ most_of_one
take_few n b h = (let z = length-take n b in omega (arith, z, h))

piece_goes : (log : ℕ) (b : List ℕ) (t : CallTurn) → length b ≤ most_of_one → Going t → Going (asking (piece_asks log b) t)
piece_goes log [] t few g = record {
  lined = g.lined;
  each = sayable_more t.asks [] g.each tt;
  quiet = quiet_more t.asks [] g.quiet refl;
  open_is = g.open_is;
}
piece_goes log (x ∷ b) t few g = asking_goes (Piece log (x ∷ b)) t refl few g

put_speaks : (bytes : List ℕ) (t : CallTurn) → is_over t.call.phase ≡ false → Speaks t → Speaks (put_out bytes t)
put_speaks bytes t e s =
    let g = goes_on t e s in
    let p = piece_goes (number_of_log t.call.ended) (take (most_of_one - t.call.sent) bytes) t (take_few (most_of_one - t.call.sent) bytes (omega arith)) g in
    record {
      lined = record { small = s.lined.small; line_in = s.lined.line_in; once_is = s.lined.once_is; of_run = s.lined.of_run };
      each = p.each;
      ends = subst (λ (b : Bool). EndsBy b (put_out bytes t).asks) (sym e) p.quiet;
    }

output_speaks : (test : Option ℕ) (p : Phase) (bytes : List ℕ) (t : CallTurn) → t.call.phase ≡ p → is_over p ≡ false → Speaks t → Speaks (output_fed test p bytes t)
output_speaks None p bytes t e o s = s
output_speaks (Some n) Stopped bytes t e o s = s
output_speaks (Some n) Awaiting bytes t e o s = put_speaks bytes t (ap is_over e) s
output_speaks (Some n) Serving bytes t e o s = put_speaks bytes t (ap is_over e) s
output_speaks (Some n) (phase.Ending x) bytes t e o s = put_speaks bytes t (ap is_over e) s
output_speaks (Some n) Over bytes t e o s = absurd (let z : true ≡ false = o in cc)

runs_within : (c : FunctionCall) (n : ℕ) → within c.size c.line ≡ true → running_test c ≡ Some n → nat_lt n c.size ≡ true
runs_within c n w e = go c.running e
  where
    go : (v : Bool) → (if v then head_test (left c) else None) ≡ Some n → nat_lt n c.size ≡ true
    go true z = head_in c.size (left c) n z (rest_in c.size c.line c.ended w)
    go false z = absurd cc

done_goes : (n : ℕ) (outcome : Outcome) (ms : ℕ) (t : CallTurn) → running_test t.call ≡ Some n → IsGivenInput (input.Done outcome ms) → Going t → Going (told_done n outcome ms t)
done_goes n outcome ms t e given_ g =
    let below = below_all n t.call.size (runs_within t.call n g.lined.line_in e) g.lined.small in
    record {
      lined = record { small = g.lined.small; line_in = g.lined.line_in; once_is = g.lined.once_is; of_run = g.lined.of_run };
      each = sayable_more t.asks (CloseLog (number_of_log t.call.ended) ∷ Tell (Done n outcome ms) ∷ []) g.each (tt, (record { value = _; is = refl; event = (below, given_.0, given_.1); fits = tt }, tt));
      quiet = quiet_more t.asks (CloseLog (number_of_log t.call.ended) ∷ Tell (Done n outcome ms) ∷ []) g.quiet refl;
      open_is = g.open_is;
    }

ended_speaks : (x : Ending) (t : CallTurn) → x ≡ BadCommand → Going t → Speaks (over (ending_text x) t)
ended_speaks x t is g = subst (λ (y : Ending). Speaks (over (ending_text y) t)) (sym is) (over_speaks (codes "bad command") t bad_command g)

done_speaks : (test : Option ℕ) (p : Phase) (room : Bool) (outcome : Outcome) (ms : ℕ) (t : CallTurn) → running_test t.call ≡ test → t.call.phase ≡ p → IsGivenInput (input.Done outcome ms) → Speaks t → Speaks (done_of test p room outcome ms t)
done_speaks None p room outcome ms t r e given_ s = s
done_speaks (Some n) Serving room outcome ms t r e given_ s = settled_speaks room (told_done n outcome ms t) (done_goes n outcome ms t r given_ (goes_on t (ap is_over e) s))
done_speaks (Some n) (phase.Ending x) room outcome ms t r e given_ s =
    ended_speaks x (told_done n outcome ms t) (subst IsOfRun e s.lined.of_run) (done_goes n outcome ms t r given_ (goes_on t (ap is_over e) s))
done_speaks (Some n) Stopped room outcome ms t r e given_ s = absurd (subst IsOfRun e s.lined.of_run)
done_speaks (Some n) Awaiting room outcome ms t r e given_ s = s
done_speaks (Some n) Over room outcome ms t r e given_ s = s

-- ---- one input

answered_speaks : (room : Bool) (i : Input) (t : CallTurn) → IsGivenInput i → is_over t.call.phase ≡ false → Speaks t → Speaks (answered room i t)
answered_speaks room (input.Command o) t k open_is s = heard_speaks t.call.phase room o t refl s
answered_speaks room input.ReceivingEnded t k open_is s = absurd k
answered_speaks room (input.Suite ids) t k open_is s = collected_speaks t.call.phase room ids t refl k.0 k.1 s
answered_speaks room (input.SuiteRefused text) t k open_is s = refused_speaks t.call.phase text t refl k s
answered_speaks room (input.Output bytes) t k open_is s = output_speaks (running_test t.call) t.call.phase bytes t refl open_is s
answered_speaks room (input.Done outcome ms) t k open_is s = done_speaks (running_test t.call) t.call.phase room outcome ms t refl refl k s
answered_speaks room input.Stop t k open_is s = absurd k

-- What a call that is not over asks for, after an input of a run.
pub turn_speaks : (gs : List Given) (g : Given) → Lined (call_after gs) → is_over (call_after gs).phase ≡ false → IsGivenInput g.input → Speaks (turn_after gs g)
turn_speaks gs g l open_is k =
    answered_speaks g.room g.input (call_turn_of (call_after gs)) k open_is (speaks _ (record { lined = l; each = tt; quiet = refl; open_is = open_is }))

-- A call that is over asks for nothing, and stays as it is.
pub over_turn : (gs : List Given) (g : Given) → is_over (call_after gs).phase ≡ true → (call_after gs).running ≡ false → IsGivenInput g.input → turn_after gs g ≡ call_turn_of (call_after gs)
over_turn gs g o idle k = by_phase (call_after gs).phase refl o
  where
    still : running_test (call_after gs) ≡ None
    still = rw idle refl

    by_input : (i : Input) → IsGivenInput i → answered_in Over None g.room i (call_turn_of (call_after gs)) ≡ call_turn_of (call_after gs)
    by_input (input.Command x) q = refl
    by_input input.ReceivingEnded q = absurd q
    by_input (input.Suite ids) q = refl
    by_input (input.SuiteRefused text) q = refl
    by_input (input.Output bytes) q = refl
    by_input (input.Done outcome ms) q = refl
    by_input input.Stop q = absurd q

    by_phase : (p : Phase) → (call_after gs).phase ≡ p → is_over p ≡ true → turn_after gs g ≡ call_turn_of (call_after gs)
    by_phase Over e q =
        ap (λ (x : Phase). answered_in x (running_test (call_after gs)) g.room g.input (call_turn_of (call_after gs))) e
        ∙ (ap (λ (x : Option ℕ). answered_in Over x g.room g.input (call_turn_of (call_after gs))) still ∙ by_input g.input k)
    by_phase Awaiting e q = absurd (let z : false ≡ true = q in cc)
    by_phase Serving e q = absurd (let z : false ≡ true = q in cc)
    by_phase (phase.Ending x) e q = absurd (let z : false ≡ true = q in cc)
    by_phase Stopped e q = absurd (let z : false ≡ true = q in cc)

pub new_lined : Lined (call_after [])
new_lined = record { small = omega arith; line_in = refl; once_is = refl; of_run = tt }
