-- Each test is started at most once: the tests that were started are the first places of the line, in which none
-- stands twice.
use Rattle.std.proofs.Common.{◌≡◌, ℕ, ◌+◌, List, [], ◌∷◌, ◌++◌, length, take, drop, Bool, true, false, ◌||◌, ◌&&◌, Option, Some, None, refl, ap, sym, ◌∙◌, append_assoc, arith}
use Rattle.std.specs.Prelude.{◌==◌, map, not, option_to_list, if◌then◌else◌}
use Rattle.std.specs.List.{range_with_len}
use Rattle.std.proofs.lemmas.Grind.{common_steps}
use Rattle.std.proofs.Math.Seq.{take-append-add}
use Rattle.xd_commands.specs.declared.order.Order.{Order}
use Rattle.xd_commands.specs.declared.order.Order.TheVariants.{RunTests, RunAll, Steal, Shutdown}
use Rattle.xd_journal.specs.declared.entry.Outcome.{Outcome}
use Rattle.xd_worker_tests.specs.declared.line_entry.LineEntry.{LineEntry}
use Rattle.xd_worker_tests.specs.declared.line_entry.LineEntry.TheVariants.{Test, Mark}
use Rattle.xd_worker_tests.specs.declared.phase.Ending.{Ending}
use Rattle.xd_worker_tests.specs.declared.phase.Ending.TheVariants.{BadCommand, ReceivingEnded}
use Rattle.xd_worker_tests.specs.declared.phase.Phase.{Phase}
use Rattle.xd_worker_tests.specs.declared.phase.Phase.TheVariants.{Awaiting, Serving, Stopped, Over}
use Rattle.xd_worker_tests.specs.declared.phase.Phase.TheVariants as phase
use Rattle.xd_journal.specs.declared.news.What.TheVariants.{Back}
use Rattle.xd_worker_tests.specs.declared.ask.Ask.{Ask}
use Rattle.xd_worker_tests.specs.declared.ask.Ask.TheVariants.{Tell}
use Rattle.xd_worker_tests.specs.declared.input.Input.{Input}
use Rattle.xd_worker_tests.specs.declared.input.Input.TheVariants as input
use Rattle.xd_worker_tests.specs.Line.{FunctionCall, left, front, queue, passed, running_test, head_test, has_test, is_among, can_give, can_ask, all_queued, kept, stolen_tests, tests_in_line}
use Rattle.xd_worker_tests.specs.Turns.{CallTurn, call_turn_of, answered, over, ended_early, ending_text, asking, finished, test_started, has_log, too_many_channels, moved_on, line_settled, given, stolen, stolen_if, told, item_heard_in, item_heard, all_heard, collected_in, receiving_ended_in, suite_refused_in, put_out, output_fed, told_done, done_in, done_of, call_stopped}
use Rattle.xd_worker_tests.specs.History.{Given, call_after, turn_after, started_tests, no_number_twice}
use Rattle.xd_worker_tests.specs.inner.Stands.{once}
use Rattle.xd_worker_tests.proofs.Cut.{has_test-append}
use Rattle.xd_worker_tests.proofs.Once.{once_given, once_mark, once_kept, not_true}

tests_in_line-append : (a b : List LineEntry) → tests_in_line (a ++ b) ≡ tests_in_line a ++ tests_in_line b
tests_in_line-append [] b = refl
tests_in_line-append (Test n ∷ a) b = ap (λ (l : List ℕ). n ∷ l) (tests_in_line-append a b)
tests_in_line-append (Mark ∷ a) b = tests_in_line-append a b

among_is : (n : ℕ) (l : List LineEntry) → is_among n (tests_in_line l) ≡ has_test n l
among_is n [] = refl
among_is n (Test m ∷ l) = ap (λ (v : Bool). (m == n) || v) (among_is n l)
among_is n (Mark ∷ l) = among_is n l

both : (a b : Bool) → a ≡ true → b ≡ true → (a && b) ≡ true
both a b e f = rw (e, f)

first : (a b : Bool) → (a && b) ≡ true → a ≡ true
first true b e = refl
first false b e = e

last : (a b : Bool) → (a && b) ≡ true → b ≡ true
last true b e = e
last false b e = let z : false ≡ true = e in cc

neither : (a b : Bool) → (a || b) ≡ false → a ≡ false
neither true b e = e
neither false b e = refl

distinct_of : (l : List LineEntry) → once l ≡ true → no_number_twice (tests_in_line l) ≡ true
distinct_of [] h = refl
distinct_of (Test m ∷ l) h = both (not (is_among m (tests_in_line l))) (no_number_twice (tests_in_line l)) (ap not (among_is m l) ∙ first (not (has_test m l)) (once l) h) (distinct_of l (last (not (has_test m l)) (once l) h))
distinct_of (Mark ∷ l) h = distinct_of l h

once_first : (a b : List LineEntry) → once (a ++ b) ≡ true → once a ≡ true
once_first [] b h = refl
once_first (Test m ∷ a) b h =
    let fresh : has_test m (a ++ b) ≡ false = not_true _ (first (not (has_test m (a ++ b))) (once (a ++ b)) h) in
    both (not (has_test m a)) (once a) (ap not (neither (has_test m a) (has_test m b) (sym (has_test-append m a b) ∙ fresh))) (once_first a b (last (not (has_test m (a ++ b))) (once (a ++ b)) h))
once_first (Mark ∷ a) b h = once_first a b h

-- n places of the line are gone through
abbrev pub gone_by : FunctionCall → ℕ
gone_by c = c.ended + (if c.running then 1 else 0)

-- the tests that were started, those of a turn after these, are those that are gone through
record Begun (s : List ℕ) (t : CallTurn) : Type 0 where
  gone : List LineEntry
  rest : List LineEntry
  line_is : t.call.line ≡ gone ++ rest
  count : length gone ≡ gone_by t.call
  starts : s ++ option_to_list t.run ≡ tests_in_line gone
  once_is : once t.call.line ≡ true
  idle : t.call.running ≡ false → t.run ≡ None
  awaits : t.call.phase ≡ Awaiting → (t.call.line ≡ []) × (t.call.running ≡ false)

-- where the line and what is gone through stay
same_line : (s : List ℕ) (t u : CallTurn) → u.call.line ≡ t.call.line → u.call.ended ≡ t.call.ended → u.call.running ≡ t.call.running → u.run ≡ t.run → (u.call.phase ≡ Awaiting → t.call.phase ≡ Awaiting) → Begun s t → Begun s u
same_line s t u line ended running run ph b = record {
  gone = b.gone;
  rest = b.rest;
  line_is = line ∙ b.line_is;
  count = b.count ∙ same t.call.ended u.call.ended t.call.running u.call.running ended running;
  starts = ap (λ (r : Option ℕ). s ++ option_to_list r) run ∙ b.starts;
  once_is = ap once line ∙ b.once_is;
  idle = λ e. run ∙ b.idle (sym running ∙ e);
  awaits = λ e. (line ∙ (b.awaits (ph e)).0, running ∙ (b.awaits (ph e)).1);
}
  where
    same : (a b : ℕ) (x y : Bool) → b ≡ a → y ≡ x → a + (if x then 1 else 0) ≡ b + (if y then 1 else 0)
    same a b x y e f = rw (e, f)

ended_begun : (s : List ℕ) (t : CallTurn) (text : Option (List ℕ)) → Begun s t → Begun s (over text t)
ended_begun s t text b = same_line s t (over text t) refl refl refl refl (λ e. cc) b

early_begun : (s : List ℕ) (t : CallTurn) (e : Ending) → Begun s t → Begun s (ended_early e t)
early_begun s t e b = go t.call.running
  where
    go : (v : Bool) → Begun s (if v then record t { call = record (t.call) { phase = phase.Ending e } } else over (ending_text e) t)
    go true = same_line s t (record t { call = record (t.call) { phase = phase.Ending e } }) refl refl refl refl (λ z. cc) b
    go false = ended_begun s t (ending_text e) b

asking_begun : (s : List ℕ) (t : CallTurn) (asks : List Ask) → Begun s t → Begun s (asking asks t)
asking_begun s t asks b = same_line s t (asking asks t) refl refl refl refl (λ z. z) b

finished_begun : (s : List ℕ) (t : CallTurn) → Begun s t → Begun s (finished t)
finished_begun s t b = same_line s t (finished t) refl refl refl refl (λ e. cc) b

-- where nothing runs, what is left is what is not gone through
left_rest : (s : List ℕ) (t : CallTurn) (b : Begun s t) → t.call.running ≡ false → left t.call ≡ b.rest
left_rest s t b idle = ap (drop t.call.ended) b.line_is ∙ following b.gone b.rest t.call.ended (b.count ∙ none t.call.ended t.call.running idle)
  where
    following : (a c : List LineEntry) (n : ℕ) → length a ≡ n → drop n (a ++ c) ≡ c
    following a c n e = grind (arith, common_steps)

    none : (a : ℕ) (x : Bool) → x ≡ false → a + (if x then 1 else 0) ≡ a
    none a x e = rw e (omega arith)

started_begun : (s : List ℕ) (t : CallTurn) (n : ℕ) (l : List LineEntry) → t.call.running ≡ false → left t.call ≡ Test n ∷ l → (t.call.phase ≡ Awaiting → ⊥) → Begun s t → Begun s (test_started n t)
started_begun s t n l idle is serves b = record {
  gone = b.gone ++ Test n ∷ [];
  rest = l;
  line_is = b.line_is ∙ ap (λ (x : List LineEntry). b.gone ++ x) (sym (left_rest s t b idle) ∙ is) ∙ sym (append_assoc b.gone (Test n ∷ []) l);
  count = longer b.gone (Test n) t.call.ended (b.count ∙ none t.call.ended t.call.running idle);
  starts = more s t.run b.gone n (b.idle idle) b.starts ∙ sym (tests_in_line-append b.gone (Test n ∷ []));
  once_is = b.once_is;
  idle = λ e. cc;
  awaits = λ e. absurd (serves e);
}
  where
    longer : (a : List LineEntry) (p : LineEntry) (k : ℕ) → length a ≡ k → length (a ++ p ∷ []) ≡ k + 1
    longer a p k e = grind (arith, common_steps)

    none : (a : ℕ) (x : Bool) → x ≡ false → a + (if x then 1 else 0) ≡ a
    none a x e = rw e (omega arith)

    more : (s : List ℕ) (r : Option ℕ) (gone : List LineEntry) (n : ℕ) → r ≡ None → s ++ option_to_list r ≡ tests_in_line gone → s ++ n ∷ [] ≡ tests_in_line gone ++ n ∷ []
    more s r gone n e h = ap (λ (l : List ℕ). l ++ n ∷ []) (sym (no_more s) ∙ ap (λ (o : Option ℕ). s ++ option_to_list o) (sym e) ∙ h)
      where
        no_more : (a : List ℕ) → a ++ [] ≡ a
        no_more a = grind (arith, common_steps)

moved_begun : (s : List ℕ) (room : Bool) (t : CallTurn) (l : List LineEntry) → t.call.running ≡ false → left t.call ≡ l → (t.call.phase ≡ Awaiting → ⊥) → Begun s t → Begun s (moved_on room l t)
moved_begun s room t [] idle is serves b = b
moved_begun s room t (Mark ∷ l) idle is serves b = finished_begun s t b
moved_begun s room t (Test n ∷ []) idle is serves b = b
moved_begun s room t (Test n ∷ (p ∷ l)) idle is serves b = go (room && has_log t.call.ended)
  where
    go : (v : Bool) → Begun s (if v then test_started n t else over (Some too_many_channels) t)
    go true = started_begun s t n (p ∷ l) idle is serves b
    go false = ended_begun s t (Some too_many_channels) b

settled_begun : (s : List ℕ) (room : Bool) (t : CallTurn) → (t.call.phase ≡ Awaiting → ⊥) → Begun s t → Begun s (line_settled room t)
settled_begun s room t serves b = go t.call.running refl
  where
    go : (v : Bool) → t.call.running ≡ v → Begun s (if v then t else moved_on room (left t.call) t)
    go true e = b
    go false e = moved_begun s room t (left t.call) e refl serves b

-- places are put after the line
longer_begun : (s : List ℕ) (t : CallTurn) (ps : List LineEntry) → once (t.call.line ++ ps) ≡ true → (t.call.phase ≡ Awaiting → ⊥) → Begun s t → Begun s (record t { call = record (t.call) { line = t.call.line ++ ps } })
longer_begun s t ps once_more serves b = record {
  gone = b.gone;
  rest = b.rest ++ ps;
  line_is = ap (λ (l : List LineEntry). l ++ ps) b.line_is ∙ append_assoc b.gone b.rest ps;
  count = b.count;
  starts = b.starts;
  once_is = once_more;
  idle = b.idle;
  awaits = λ e. absurd (serves e);
}

given_begun : (s : List ℕ) (room : Bool) (ns : List ℕ) (t : CallTurn) → (t.call.phase ≡ Awaiting → ⊥) → Begun s t → Begun s (given room ns t)
given_begun s room ns t serves b = go (can_give t.call.size t.call.line ns) refl
  where
    go : (v : Bool) → can_give t.call.size t.call.line ns ≡ v → Begun s (if v then line_settled room (record t { call = record (t.call) { line = t.call.line ++ map Test ns } }) else ended_early BadCommand t)
    go true e = settled_begun s room (record t { call = record (t.call) { line = t.call.line ++ map Test ns } }) serves (longer_begun s t (map Test ns) (once_given t.call.size t.call.line ns e b.once_is) serves b)
    go false e = early_begun s t BadCommand b

-- tests leave the queue
taken_begun : (s : List ℕ) (ns : List ℕ) (t : CallTurn) → (t.call.phase ≡ Awaiting → ⊥) → Begun s t → Begun s (record t { call = record (t.call) { line = front t.call ++ kept ns (queue t.call) } })
taken_begun s ns t serves b =
    let split = cut b.gone b.rest t.call.line t.call.ended t.call.running b.line_is b.count in
    record {
      gone = b.gone;
      rest = take 1 b.rest ++ kept ns (queue t.call);
      line_is = ap (λ (l : List LineEntry). l ++ kept ns (queue t.call)) split ∙ append_assoc b.gone (take 1 b.rest) (kept ns (queue t.call));
      count = b.count;
      starts = b.starts;
      once_is = once_kept ns (front t.call) (queue t.call) (ap once (whole t.call.line (passed t.call)) ∙ b.once_is);
      idle = b.idle;
      awaits = λ e. absurd (serves e);
    }
  where
    cut : (gone rest line : List LineEntry) (ended : ℕ) (running : Bool) → line ≡ gone ++ rest → length gone ≡ ended + (if running then 1 else 0) → take (ended + (if running then 2 else 1)) line ≡ gone ++ take 1 rest
    cut gone rest line ended true e h = ap (λ (k : ℕ). take k line) (omega (arith, h)) ∙ ap (λ (l : List LineEntry). take (length gone + 1) l) e ∙ take-append-add gone rest 1
    cut gone rest line ended false e h = ap (λ (k : ℕ). take k line) (omega (arith, h)) ∙ ap (λ (l : List LineEntry). take (length gone + 1) l) e ∙ take-append-add gone rest 1

    whole : (l : List LineEntry) (n : ℕ) → take n l ++ drop n l ≡ l
    whole l n = grind (arith, common_steps)

stolen_begun : (s : List ℕ) (ns : List ℕ) (t : CallTurn) → (t.call.phase ≡ Awaiting → ⊥) → Begun s t → Begun s (stolen_if ns t)
stolen_begun s ns t serves b = ask (can_ask t.call.size [] ns)
  where
    go : (v : Bool) → Begun s (if v then asking (Tell (Back (stolen_tests ns (queue t.call))) ∷ []) (record t { call = record (t.call) { line = front t.call ++ kept ns (queue t.call) } }) else asking (Tell (Back []) ∷ []) t)
    go true = asking_begun s (record t { call = record (t.call) { line = front t.call ++ kept ns (queue t.call) } }) (Tell (Back (stolen_tests ns (queue t.call))) ∷ []) (taken_begun s ns t serves b)
    go false = asking_begun s t (Tell (Back []) ∷ []) b

    ask : (v : Bool) → Begun s (if v then stolen ns t else ended_early BadCommand t)
    ask true = go (all_queued (queue t.call) ns)
    ask false = early_begun s t BadCommand b

told_begun : (s : List ℕ) (room : Bool) (o : Option Order) (t : CallTurn) → (t.call.phase ≡ Awaiting → ⊥) → Begun s t → Begun s (told room o t)
told_begun s room None t serves b = early_begun s t BadCommand b
told_begun s room (Some (RunTests ns)) t serves b = given_begun s room ns t serves b
told_begun s room (Some RunAll) t serves b = given_begun s room (range_with_len 0 t.call.size) t serves b
told_begun s room (Some (Steal ns)) t serves b = stolen_begun s ns t serves b
told_begun s room (Some Shutdown) t serves b = settled_begun s room (record t { call = record (t.call) { line = t.call.line ++ Mark ∷ [] } }) serves (longer_begun s t (Mark ∷ []) (once_mark t.call.line ∙ b.once_is) serves b)

heard_begun : (s : List ℕ) (p : Phase) (room : Bool) (o : Option Order) (t : CallTurn) → t.call.phase ≡ p → Begun s t → Begun s (item_heard_in p room o t)
heard_begun s Awaiting room o t e b = same_line s t (item_heard_in Awaiting room o t) refl refl refl refl (λ z. z) b
heard_begun s Serving room o t e b = told_begun s room o t (λ z. let w : Serving ≡ Awaiting = sym e ∙ z in cc) b
heard_begun s (phase.Ending x) room o t e b = b
heard_begun s Stopped room o t e b = b
heard_begun s Over room o t e b = b

all_begun : (s : List ℕ) (room : Bool) (os : List (Option Order)) (t : CallTurn) → Begun s t → Begun s (all_heard room os t)
all_begun s room [] t b = b
all_begun s room (o ∷ os) t b = all_begun s room os (item_heard room o t) (heard_begun s t.call.phase room o t refl b)

collected_begun : (s : List ℕ) (p : Phase) (room : Bool) (ids : List (List ℕ)) (t : CallTurn) → t.call.phase ≡ p → Begun s t → Begun s (collected_in p room ids t)
collected_begun s Awaiting room ids t e b =
    let none = b.awaits e in
    all_begun s room t.call.waiting _ (record {
      gone = [];
      rest = [];
      line_is = refl;
      count = refl;
      starts = b.starts ∙ ap tests_in_line (nothing b.gone b.rest (sym b.line_is ∙ none.0));
      once_is = refl;
      idle = λ z. b.idle none.1;
      awaits = λ z. cc;
    })
  where
    nothing : (a c : List LineEntry) → a ++ c ≡ [] → a ≡ []
    nothing [] c e = refl
    nothing (x ∷ a) c e = cc
collected_begun s Serving room ids t e b = b
collected_begun s (phase.Ending x) room ids t e b = b
collected_begun s Stopped room ids t e b = b
collected_begun s Over room ids t e b = b

receiving_begun : (s : List ℕ) (p : Phase) (t : CallTurn) → Begun s t → Begun s (receiving_ended_in p t)
receiving_begun s Awaiting t b = early_begun s t ReceivingEnded b
receiving_begun s Serving t b = early_begun s t ReceivingEnded b
receiving_begun s (phase.Ending x) t b = b
receiving_begun s Stopped t b = b
receiving_begun s Over t b = b

refused_begun : (s : List ℕ) (p : Phase) (text : List ℕ) (t : CallTurn) → Begun s t → Begun s (suite_refused_in p text t)
refused_begun s Awaiting text t b = ended_begun s t (Some text) b
refused_begun s Serving text t b = b
refused_begun s (phase.Ending x) text t b = b
refused_begun s Stopped text t b = b
refused_begun s Over text t b = b

put_begun : (s : List ℕ) (bytes : List ℕ) (t : CallTurn) → Begun s t → Begun s (put_out bytes t)
put_begun s bytes t b = same_line s t (put_out bytes t) refl refl refl refl (λ z. z) b

output_begun : (s : List ℕ) (test : Option ℕ) (p : Phase) (bytes : List ℕ) (t : CallTurn) → Begun s t → Begun s (output_fed test p bytes t)
output_begun s None p bytes t b = b
output_begun s (Some n) Stopped bytes t b = b
output_begun s (Some n) Awaiting bytes t b = put_begun s bytes t b
output_begun s (Some n) Serving bytes t b = put_begun s bytes t b
output_begun s (Some n) (phase.Ending e) bytes t b = put_begun s bytes t b
output_begun s (Some n) Over bytes t b = put_begun s bytes t b

-- the running test ended
without_begun : (s : List ℕ) (t u : CallTurn) → u.call.line ≡ t.call.line → u.call.ended ≡ t.call.ended + 1 → u.call.running ≡ false → u.call.phase ≡ t.call.phase → u.run ≡ t.run → t.call.running ≡ true → t.run ≡ None → Begun s t → Begun s u
without_begun s t u line ended running ph run runs none b = record {
  gone = b.gone;
  rest = b.rest;
  line_is = line ∙ b.line_is;
  count = b.count ∙ next t.call.ended u.call.ended t.call.running u.call.running ended runs running;
  starts = ap (λ (r : Option ℕ). s ++ option_to_list r) run ∙ b.starts;
  once_is = ap once line ∙ b.once_is;
  idle = λ e. run ∙ none;
  awaits = λ e. let w : true ≡ false = sym runs ∙ (b.awaits (sym ph ∙ e)).1 in cc;
}
  where
    next : (a c : ℕ) (x y : Bool) → c ≡ a + 1 → x ≡ true → y ≡ false → a + (if x then 1 else 0) ≡ c + (if y then 1 else 0)
    next a c x y e f g = rw (e, f, g) (omega arith)

done_begun : (s : List ℕ) (p : Phase) (room : Bool) (n : ℕ) (outcome : Outcome) (ms : ℕ) (t : CallTurn) → t.call.phase ≡ p → t.call.running ≡ true → t.run ≡ None → Begun s t → Begun s (done_in p room n outcome ms t)
done_begun s Serving room n outcome ms t e runs none b = settled_begun s room (told_done n outcome ms t) (λ z. let w : Serving ≡ Awaiting = sym e ∙ z in cc) (without_begun s t (told_done n outcome ms t) refl refl refl refl refl runs none b)
done_begun s (phase.Ending x) room n outcome ms t e runs none b = ended_begun s (told_done n outcome ms t) (ending_text x) (without_begun s t (told_done n outcome ms t) refl refl refl refl refl runs none b)
done_begun s Stopped room n outcome ms t e runs none b = without_begun s t (done_in Stopped room n outcome ms t) refl refl refl refl refl runs none b
done_begun s Awaiting room n outcome ms t e runs none b = b
done_begun s Over room n outcome ms t e runs none b = b

does_run : (c : FunctionCall) (n : ℕ) → running_test c ≡ Some n → c.running ≡ true
does_run c n e = go c.running refl e
  where
    go : (v : Bool) → c.running ≡ v → (if v then head_test (left c) else None) ≡ Some n → c.running ≡ true
    go true z h = z
    go false z h = cc

done_of_begun : (s : List ℕ) (test : Option ℕ) (room : Bool) (outcome : Outcome) (ms : ℕ) (t : CallTurn) → running_test t.call ≡ test → t.run ≡ None → Begun s t → Begun s (done_of test t.call.phase room outcome ms t)
done_of_begun s None room outcome ms t e none b = b
done_of_begun s (Some n) room outcome ms t e none b = done_begun s t.call.phase room n outcome ms t refl (does_run t.call n e) none b

answered_begun : (s : List ℕ) (room : Bool) (i : Input) (t : CallTurn) → t.run ≡ None → Begun s t → Begun s (answered room i t)
answered_begun s room (input.Command o) t none b = heard_begun s t.call.phase room o t refl b
answered_begun s room input.ReceivingEnded t none b = receiving_begun s t.call.phase t b
answered_begun s room (input.Suite ids) t none b = collected_begun s t.call.phase room ids t refl b
answered_begun s room (input.SuiteRefused text) t none b = refused_begun s t.call.phase text t b
answered_begun s room (input.Output bytes) t none b = output_begun s (running_test t.call) t.call.phase bytes t b
answered_begun s room (input.Done outcome ms) t none b = done_of_begun s (running_test t.call) room outcome ms t refl none b
answered_begun s room input.Stop t none b = same_line s t (call_stopped t) refl refl refl refl (λ z. cc) b

-- the next input comes
next_begun : (s : List ℕ) (t : CallTurn) → Begun s t → Begun (s ++ option_to_list t.run) (call_turn_of t.call)
next_begun s t b = record {
  gone = b.gone;
  rest = b.rest;
  line_is = b.line_is;
  count = b.count;
  starts = no_more (s ++ option_to_list t.run) ∙ b.starts;
  once_is = b.once_is;
  idle = λ e. refl;
  awaits = b.awaits;
}
  where
    no_more : (a : List ℕ) → a ++ [] ≡ a
    no_more a = grind (arith, common_steps)

begun_after : (h : List Given) → Begun (started_tests h) (call_turn_of (call_after h))
begun_after [] = record { gone = []; rest = []; line_is = refl; count = refl; starts = refl; once_is = refl; idle = λ e. refl; awaits = λ e. (refl, refl) }
begun_after (g ∷ h) = next_begun (started_tests h) (turn_after h g) (answered_begun (started_tests h) g.room g.input (call_turn_of (call_after h)) refl (begun_after h))

pub starts_once : (h : List Given) → no_number_twice (started_tests h) ≡ true
starts_once h =
    let b = begun_after h in
    ap no_number_twice (sym (no_more (started_tests h)) ∙ b.starts) ∙ distinct_of b.gone (once_first b.gone b.rest (ap once (sym b.line_is) ∙ b.once_is))
  where
    no_more : (a : List ℕ) → a ++ [] ≡ a
    no_more a = grind (arith, common_steps)

-- the tests that were started are the first of the line
pub started_first : (h : List Given) → started_tests h ≡ tests_in_line (take (gone_by (call_after h)) (call_after h).line)
started_first h =
    let b = begun_after h in
    sym (no_more (started_tests h)) ∙ b.starts ∙ ap tests_in_line (sym (cut b.gone b.rest (call_after h).line (gone_by (call_after h)) b.line_is b.count))
  where
    no_more : (a : List ℕ) → a ++ [] ≡ a
    no_more a = grind (arith, common_steps)

    front_of : (a c : List LineEntry) → take (length a) (a ++ c) ≡ a
    front_of a c = grind (arith, common_steps)

    cut : (gone rest line : List LineEntry) (n : ℕ) → line ≡ gone ++ rest → length gone ≡ n → take n line ≡ gone
    cut gone rest line n e h = ap (take n) e ∙ ap (λ (k : ℕ). take k (gone ++ rest)) (sym h) ∙ front_of gone rest
