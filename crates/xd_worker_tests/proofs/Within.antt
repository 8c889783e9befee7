-- The tests of a line are those of the suite.
use Rattle.std.proofs.Common.{◌≡◌, ℕ, ◌<◌, List, [], ◌∷◌, ◌++◌, length, take, drop, Bool, true, false, ◌&&◌, Option, Some, None, refl, ap, sym, subst, ◌∙◌, arith, ltb-true}
use Rattle.std.specs.Prelude.{map, nat_lt, not, if◌then◌else◌}
use Rattle.std.specs.List.{range_with_len}
use Rattle.std.proofs.lemmas.Grind.{common_steps}
use Rattle.xd_commands.specs.declared.order.Order.{Order}
use Rattle.xd_commands.specs.declared.order.Order.TheVariants.{RunTests, RunAll, Steal, Shutdown}
use Rattle.xd_journal.specs.declared.entry.Outcome.{Outcome}
use Rattle.xd_journal.specs.declared.news.What.TheVariants.{Back}
use Rattle.xd_worker_tests.specs.declared.line_entry.LineEntry.{LineEntry}
use Rattle.xd_worker_tests.specs.declared.line_entry.LineEntry.TheVariants.{Test, Mark}
use Rattle.xd_worker_tests.specs.declared.phase.Ending.{Ending}
use Rattle.xd_worker_tests.specs.declared.phase.Ending.TheVariants.{BadCommand, ReceivingEnded}
use Rattle.xd_worker_tests.specs.declared.phase.Phase.{Phase}
use Rattle.xd_worker_tests.specs.declared.phase.Phase.TheVariants.{Awaiting, Serving, Stopped, Over}
use Rattle.xd_worker_tests.specs.declared.phase.Phase.TheVariants as phase
use Rattle.xd_worker_tests.specs.declared.ask.Ask.{Ask}
use Rattle.xd_worker_tests.specs.declared.ask.Ask.TheVariants.{Tell}
use Rattle.xd_worker_tests.specs.declared.input.Input.{Input}
use Rattle.xd_worker_tests.specs.declared.input.Input.TheVariants as input
use Rattle.xd_worker_tests.specs.Line.{FunctionCall, left, front, queue, passed, running_test, head_test, has_test, is_among, can_give, can_ask, all_queued, kept, stolen_tests}
use Rattle.xd_worker_tests.specs.Turns.{CallTurn, call_turn_of, answered, over, ended_early, ending_text, asking, test_started, has_log, too_many_channels, moved_on, line_settled, given, stolen, stolen_if, told, item_heard_in, item_heard, all_heard, collected_in, receiving_ended_in, suite_refused_in, put_out, output_fed, told_done, done_of}
use Rattle.xd_worker_tests.specs.History.{Given, call_after, turn_after, size_opened, size_after, CallKnowsTests}
use Rattle.xd_worker_tests.proofs.Once.{and_first, and_last, and_both}

abbrev pub within : ℕ → List LineEntry → Bool
within size [] = true
within size (Test n ∷ ps) = nat_lt n size && within size ps
within size (Mark ∷ ps) = within size ps

abbrev is_below : ℕ → Option ℕ → Bool
is_below size None = true
is_below size (Some n) = nat_lt n size

pub both_in : (size : ℕ) (a b : List LineEntry) → within size a ≡ true → within size b ≡ true → within size (a ++ b) ≡ true
both_in size [] b e f = f
both_in size (Test n ∷ a) b e f = and_both (nat_lt n size) (within size (a ++ b)) (and_first (nat_lt n size) (within size a) e) (both_in size a b (and_last (nat_lt n size) (within size a) e) f)
both_in size (Mark ∷ a) b e f = both_in size a b e f

first_in : (size : ℕ) (a b : List LineEntry) → within size (a ++ b) ≡ true → within size a ≡ true
first_in size [] b e = refl
first_in size (Test n ∷ a) b e = and_both (nat_lt n size) (within size a) (and_first (nat_lt n size) (within size (a ++ b)) e) (first_in size a b (and_last (nat_lt n size) (within size (a ++ b)) e))
first_in size (Mark ∷ a) b e = first_in size a b e

last_in : (size : ℕ) (a b : List LineEntry) → within size (a ++ b) ≡ true → within size b ≡ true
last_in size [] b e = e
last_in size (Test n ∷ a) b e = last_in size a b (and_last (nat_lt n size) (within size (a ++ b)) e)
last_in size (Mark ∷ a) b e = last_in size a b e

halves : (l : List LineEntry) (n : ℕ) → take n l ++ drop n l ≡ l
halves l n = grind (arith, common_steps)

pub rest_in : (size : ℕ) (l : List LineEntry) (n : ℕ) → within size l ≡ true → within size (drop n l) ≡ true
rest_in size l n e = last_in size (take n l) (drop n l) (ap (within size) (halves l n) ∙ e)

pub start_in : (size : ℕ) (l : List LineEntry) (n : ℕ) → within size l ≡ true → within size (take n l) ≡ true
start_in size l n e = first_in size (take n l) (drop n l) (ap (within size) (halves l n) ∙ e)

kept_if : (t : Bool) (size n : ℕ) (ps : List LineEntry) → nat_lt n size ≡ true → within size ps ≡ true → within size (if t then ps else Test n ∷ ps) ≡ true
kept_if true size n ps e f = f
kept_if false size n ps e f = and_both (nat_lt n size) (within size ps) e f

pub kept_in : (size : ℕ) (ns : List ℕ) (q : List LineEntry) → within size q ≡ true → within size (kept ns q) ≡ true
kept_in size ns [] e = refl
kept_in size ns (Test n ∷ q) e = kept_if (is_among n ns) size n (kept ns q) (and_first (nat_lt n size) (within size q) e) (kept_in size ns q (and_last (nat_lt n size) (within size q) e))
kept_in size ns (Mark ∷ q) e = kept_in size ns q e

pub given_in : (size : ℕ) (l : List LineEntry) (ns : List ℕ) → can_give size l ns ≡ true → within size (map Test ns) ≡ true
given_in size l [] e = refl
given_in size l (n ∷ ns) e =
    let free = nat_lt n size && not (has_test n l) in
    let rest = can_give size (l ++ Test n ∷ []) ns in
    and_both (nat_lt n size) (within size (map Test ns)) (and_first (nat_lt n size) (not (has_test n l)) (and_first free rest e)) (given_in size (l ++ Test n ∷ []) ns (and_last free rest e))

pub head_in : (size : ℕ) (l : List LineEntry) (n : ℕ) → head_test l ≡ Some n → within size l ≡ true → nat_lt n size ≡ true
head_in size [] n e h = cc
head_in size (Test m ∷ l) n e h = let same : m ≡ n = (let z = e in cc) in subst (λ (x : ℕ). nat_lt x size ≡ true) same (and_first (nat_lt m size) (within size l) h)
head_in size (Mark ∷ l) n e h = cc

-- the tests of a turn are those of its suite, which has n
record Within (k : ℕ) (t : CallTurn) : Type 0 where
  size_is : t.call.size ≡ k
  line_in : within t.call.size t.call.line ≡ true
  run_in : is_below t.call.size t.run ≡ true

ended_within : (k : ℕ) (t : CallTurn) (text : Option (List ℕ)) → Within k t → Within k (over text t)
ended_within k t text w = record { size_is = w.size_is; line_in = w.line_in; run_in = w.run_in }

early_within : (k : ℕ) (t : CallTurn) (e : Ending) → Within k t → Within k (ended_early e t)
early_within k t e w = go t.call.running
  where
    go : (v : Bool) → Within k (if v then record t { call = record (t.call) { phase = phase.Ending e } } else over (ending_text e) t)
    go true = record { size_is = w.size_is; line_in = w.line_in; run_in = w.run_in }
    go false = ended_within k t (ending_text e) w

started_within : (k : ℕ) (t : CallTurn) (n : ℕ) (l : List LineEntry) → left t.call ≡ Test n ∷ l → Within k t → Within k (test_started n t)
started_within k t n l is w = record {
  size_is = w.size_is;
  line_in = w.line_in;
  run_in = and_first (nat_lt n t.call.size) (within t.call.size l) (ap (within t.call.size) (sym is) ∙ rest_in t.call.size t.call.line t.call.ended w.line_in);
}

moved_within : (k : ℕ) (room : Bool) (t : CallTurn) (l : List LineEntry) → left t.call ≡ l → Within k t → Within k (moved_on room l t)
moved_within k room t [] is w = w
moved_within k room t (Mark ∷ l) is w = record { size_is = w.size_is; line_in = w.line_in; run_in = w.run_in }
moved_within k room t (Test n ∷ []) is w = w
moved_within k room t (Test n ∷ (p ∷ l)) is w = go (room && has_log t.call.ended)
  where
    go : (v : Bool) → Within k (if v then test_started n t else over (Some too_many_channels) t)
    go true = started_within k t n (p ∷ l) is w
    go false = ended_within k t (Some too_many_channels) w

settled_within : (k : ℕ) (room : Bool) (t : CallTurn) → Within k t → Within k (line_settled room t)
settled_within k room t w = go t.call.running
  where
    go : (v : Bool) → Within k (if v then t else moved_on room (left t.call) t)
    go true = w
    go false = moved_within k room t (left t.call) refl w

given_within : (k : ℕ) (room : Bool) (ns : List ℕ) (t : CallTurn) → Within k t → Within k (given room ns t)
given_within k room ns t w = go (can_give t.call.size t.call.line ns) refl
  where
    go : (v : Bool) → can_give t.call.size t.call.line ns ≡ v → Within k (if v then line_settled room (record t { call = record (t.call) { line = t.call.line ++ map Test ns } }) else ended_early BadCommand t)
    go true e = settled_within k room (record t { call = record (t.call) { line = t.call.line ++ map Test ns } })
        (record { size_is = w.size_is; line_in = both_in t.call.size t.call.line (map Test ns) w.line_in (given_in t.call.size t.call.line ns e); run_in = w.run_in })
    go false e = early_within k t BadCommand w

taken_within : (k : ℕ) (ns : List ℕ) (t : CallTurn) → Within k t → Within k (record t { call = record (t.call) { line = front t.call ++ kept ns (queue t.call) } })
taken_within k ns t w = record {
  size_is = w.size_is;
  line_in = both_in t.call.size (front t.call) (kept ns (queue t.call)) (start_in t.call.size t.call.line (passed t.call) w.line_in)
      (kept_in t.call.size ns (queue t.call) (rest_in t.call.size t.call.line (passed t.call) w.line_in));
  run_in = w.run_in;
}

asking_within : (k : ℕ) (t : CallTurn) (asks : List Ask) → Within k t → Within k (asking asks t)
asking_within k t asks w = record { size_is = w.size_is; line_in = w.line_in; run_in = w.run_in }

stolen_within : (k : ℕ) (ns : List ℕ) (t : CallTurn) → Within k t → Within k (stolen_if ns t)
stolen_within k ns t w = ask (can_ask t.call.size [] ns)
  where
    go : (v : Bool) → Within k (if v then asking (Tell (Back (stolen_tests ns (queue t.call))) ∷ []) (record t { call = record (t.call) { line = front t.call ++ kept ns (queue t.call) } }) else asking (Tell (Back []) ∷ []) t)
    go true = asking_within k (record t { call = record (t.call) { line = front t.call ++ kept ns (queue t.call) } }) (Tell (Back (stolen_tests ns (queue t.call))) ∷ []) (taken_within k ns t w)
    go false = asking_within k t (Tell (Back []) ∷ []) w

    ask : (v : Bool) → Within k (if v then stolen ns t else ended_early BadCommand t)
    ask true = go (all_queued (queue t.call) ns)
    ask false = early_within k t BadCommand w

told_within : (k : ℕ) (room : Bool) (o : Option Order) (t : CallTurn) → Within k t → Within k (told room o t)
told_within k room None t w = early_within k t BadCommand w
told_within k room (Some (RunTests ns)) t w = given_within k room ns t w
told_within k room (Some RunAll) t w = given_within k room (range_with_len 0 t.call.size) t w
told_within k room (Some (Steal ns)) t w = stolen_within k ns t w
told_within k room (Some Shutdown) t w = settled_within k room (record t { call = record (t.call) { line = t.call.line ++ Mark ∷ [] } }) (record { size_is = w.size_is; line_in = both_in t.call.size t.call.line (Mark ∷ []) w.line_in refl; run_in = w.run_in })

heard_within : (k : ℕ) (p : Phase) (room : Bool) (o : Option Order) (t : CallTurn) → Within k t → Within k (item_heard_in p room o t)
heard_within k Awaiting room o t w = record { size_is = w.size_is; line_in = w.line_in; run_in = w.run_in }
heard_within k Serving room o t w = told_within k room o t w
heard_within k (phase.Ending x) room o t w = w
heard_within k Stopped room o t w = w
heard_within k Over room o t w = w

all_within : (k : ℕ) (room : Bool) (os : List (Option Order)) (t : CallTurn) → Within k t → Within k (all_heard room os t)
all_within k room [] t w = w
all_within k room (o ∷ os) t w = all_within k room os (item_heard room o t) (heard_within k t.call.phase room o t w)

collected_within : (k : ℕ) (p : Phase) (room : Bool) (ids : List (List ℕ)) (t : CallTurn) → t.run ≡ None → Within k t → Within (size_opened p ids k) (collected_in p room ids t)
collected_within k Awaiting room ids t none w = all_within (length ids) room t.call.waiting _ (record { size_is = refl; line_in = refl; run_in = ap (is_below (length ids)) none })
collected_within k Serving room ids t none w = w
collected_within k (phase.Ending x) room ids t none w = w
collected_within k Stopped room ids t none w = w
collected_within k Over room ids t none w = w

receiving_within : (k : ℕ) (p : Phase) (t : CallTurn) → Within k t → Within k (receiving_ended_in p t)
receiving_within k Awaiting t w = early_within k t ReceivingEnded w
receiving_within k Serving t w = early_within k t ReceivingEnded w
receiving_within k (phase.Ending x) t w = w
receiving_within k Stopped t w = w
receiving_within k Over t w = w

refused_within : (k : ℕ) (p : Phase) (text : List ℕ) (t : CallTurn) → Within k t → Within k (suite_refused_in p text t)
refused_within k Awaiting text t w = ended_within k t (Some text) w
refused_within k Serving text t w = w
refused_within k (phase.Ending x) text t w = w
refused_within k Stopped text t w = w
refused_within k Over text t w = w

put_within : (k : ℕ) (bytes : List ℕ) (t : CallTurn) → Within k t → Within k (put_out bytes t)
put_within k bytes t w = record { size_is = w.size_is; line_in = w.line_in; run_in = w.run_in }

output_within : (k : ℕ) (test : Option ℕ) (p : Phase) (bytes : List ℕ) (t : CallTurn) → Within k t → Within k (output_fed test p bytes t)
output_within k None p bytes t w = w
output_within k (Some n) Stopped bytes t w = w
output_within k (Some n) Awaiting bytes t w = put_within k bytes t w
output_within k (Some n) Serving bytes t w = put_within k bytes t w
output_within k (Some n) (phase.Ending e) bytes t w = put_within k bytes t w
output_within k (Some n) Over bytes t w = put_within k bytes t w

done_within : (k : ℕ) (test : Option ℕ) (p : Phase) (room : Bool) (outcome : Outcome) (ms : ℕ) (t : CallTurn) → Within k t → Within k (done_of test p room outcome ms t)
done_within k None p room outcome ms t w = w
done_within k (Some n) Serving room outcome ms t w = settled_within k room (told_done n outcome ms t) (record { size_is = w.size_is; line_in = w.line_in; run_in = w.run_in })
done_within k (Some n) (phase.Ending x) room outcome ms t w = ended_within k (told_done n outcome ms t) (ending_text x) (record { size_is = w.size_is; line_in = w.line_in; run_in = w.run_in })
done_within k (Some n) Stopped room outcome ms t w = record { size_is = w.size_is; line_in = w.line_in; run_in = w.run_in }
done_within k (Some n) Awaiting room outcome ms t w = w
done_within k (Some n) Over room outcome ms t w = w

answered_within : (k : ℕ) (room : Bool) (i : Input) (t : CallTurn) → t.run ≡ None → Within k t → Within (size_after t.call.phase i k) (answered room i t)
answered_within k room (input.Command o) t none w = heard_within k t.call.phase room o t w
answered_within k room input.ReceivingEnded t none w = receiving_within k t.call.phase t w
answered_within k room (input.Suite ids) t none w = collected_within k t.call.phase room ids t none w
answered_within k room (input.SuiteRefused text) t none w = refused_within k t.call.phase text t w
answered_within k room (input.Output bytes) t none w = output_within k (running_test t.call) t.call.phase bytes t w
answered_within k room (input.Done outcome ms) t none w = done_within k (running_test t.call) t.call.phase room outcome ms t w
answered_within k room input.Stop t none w = record { size_is = w.size_is; line_in = w.line_in; run_in = w.run_in }

within_after : (h : List Given) → Within (call_after h).size (call_turn_of (call_after h))
within_after [] = record { size_is = refl; line_in = refl; run_in = refl }
within_after (g ∷ h) = let w = answered_within (call_after h).size g.room g.input (call_turn_of (call_after h)) refl (within_after h) in record { size_is = refl; line_in = w.line_in; run_in = refl }

within_next : (h : List Given) (g : Given) → Within (size_after (call_after h).phase g.input (call_after h).size) (turn_after h g)
within_next h g = answered_within (call_after h).size g.room g.input (call_turn_of (call_after h)) refl (within_after h)

running_within : (c : FunctionCall) (n : ℕ) → within c.size c.line ≡ true → running_test c ≡ Some n → n < c.size
running_within c n w e = go c.running e
  where
    go : (v : Bool) → (if v then head_test (left c) else None) ≡ Some n → n < c.size
    go true z = ltb-true n c.size (head_in c.size (left c) n z (rest_in c.size c.line c.ended w))
    go false z = cc

run_within : (size n : ℕ) (run : Option ℕ) → is_below size run ≡ true → run ≡ Some n → n < size
run_within size n run w e = ltb-true n size (ap (is_below size) (sym e) ∙ w)

pub all_known : CallKnowsTests
all_known = record {
  size = λ h g. (within_next h g).size_is;
  runs = λ h n e. running_within (call_after h) n (within_after h).line_in e;
  starts = λ h g n e. run_within (turn_after h g).call.size n (turn_after h g).run (within_next h g).run_in e;
}
