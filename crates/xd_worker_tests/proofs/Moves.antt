-- How the parts stand for a call after a move.
use Rattle.std.proofs.Common.{◌≡◌, ℕ, ◌+◌, ◌≤◌, List, [], ◌∷◌, ◌++◌, length, drop, Bool, true, false, ◌||◌, ◌&&◌, Option, Some, None, refl, ap, sym, subst, ◌∙◌, append_assoc, arith}
use Rattle.std.specs.Prelude.{option_to_list, if◌then◌else◌, map, is_some, not}
use Rattle.std.proofs.Math.ListN.{length-set}
use Rattle.xd_worker_tests.specs.declared.line_entry.LineEntry.{LineEntry}
use Rattle.xd_worker_tests.specs.declared.line_entry.LineEntry.TheVariants.{Test, Mark}
use Rattle.xd_worker_tests.specs.declared.line_entry.Standing.{Standing}
use Rattle.xd_worker_tests.specs.declared.phase.Phase.TheVariants.{Serving}
use Rattle.xd_worker_tests.specs.declared.run_tests.Running.{Running}
use Rattle.xd_worker_tests.specs.declared.run_tests.RunTests.{RunTests}
use Rattle.xd_worker_tests.specs.declared.ask.Acts.{Acts}
use Rattle.std.proofs.lemmas.Bool.{le-leb}
use Rattle.xd_journal.specs.declared.news.What.TheVariants.{LogStart}
use Rattle.xd_worker_tests.specs.declared.ask.Ask.{Ask}
use Rattle.xd_worker_tests.specs.declared.ask.Ask.TheVariants.{Tell}
use Rattle.xd_worker_tests.specs.Line.{FunctionCall, has_test, left, number_of_log, head_test, can_give}
use Rattle.xd_worker_tests.specs.Turns.{CallTurn, moved_on, test_started, has_log, asking, over, too_many_channels}
use Rattle.xd_worker_tests.specs.inner.Stands.{EachStandsAt, IsCut, IsCall, IsHeld, IsLog, IsCallTurn, HasActed, Appends, standing_by, once, passing_some, running_places, test_of_running}
use Rattle.xd_worker_tests.proofs.Once.{once_given}
use Rattle.xd_worker_tests.proofs.Cut.{cut_next, cut_start, cut_left, has_test-append}

pub length-passing : (stands : List Standing) (next : Option LineEntry) → length (passing_some stands next) ≡ length stands
length-passing stands None = refl
length-passing stands (Some (Test n)) = length-set stands n _
length-passing stands (Some Mark) = refl

-- what a call's parts keep where only the queue, the next entry and the standings change
pub held_parts : (s r : RunTests) (c : FunctionCall) → r ≡ record s { queue = r.queue; next = r.next; stands = r.stands } → length r.stands.items ≡ length s.stands.items → IsHeld s c → IsHeld r c
held_parts s r c o size h = record {
  waiting_is = ap (λ (x : RunTests). x.waiting.items) o ∙ h.waiting_is;
  size_is = size ∙ h.size_is;
  suite_is = ap (λ (x : RunTests). x.size) o ∙ h.suite_is;
  sent_is = ap (λ (x : RunTests). x.sent) o ∙ h.sent_is;
  once_is = h.once_is;
  runs_is = ap (λ (x : RunTests). is_some x.running) o ∙ h.runs_is;
  test_is = ap (λ (x : RunTests). test_of_running x.running) o ∙ h.test_is;
  log_is = subst (λ (x : Option Running). IsLog x r.next_log c.ended) (sym (ap (λ (x : RunTests). x.running) o)) (subst (λ (x : ℕ). IsLog s.running x c.ended) (sym (ap (λ (x : RunTests). x.next_log) o)) h.log_is);
}

pub moved_parts : (s r : RunTests) (c : FunctionCall) → r ≡ record s { queue = r.queue; next = r.next; stands = r.stands } → length r.stands.items ≡ length s.stands.items → (c.phase ≡ Serving → IsCut r.running r.next r.queue.items r.stands.items c.line c.ended) → IsCall s c → IsCall r c
moved_parts s r c o size cut h = record {
  held = held_parts s r c o size h.held;
  phase_is = ap (λ (x : RunTests). x.phase) o ∙ h.phase_is;
  cut = cut;
}

pub cut_at : {run run' : Option Running} {next next' : Option LineEntry} {q q' : List LineEntry} {st st' : List Standing} (line : List LineEntry) (ended : ℕ) → IsCut run next q st line ended → run ≡ run' → next ≡ next' → q ≡ q' → st ≡ st' → IsCut run' next' q' st' line ended
cut_at line ended h a b c d = rw (← a, ← b, ← c, ← d) h

pub advanced : (s r : RunTests) (c : FunctionCall) → c.phase ≡ Serving → s.running ≡ None → s.next ≡ None → s.queue.items ≡ option_to_list r.next ++ r.queue.items → (r.next ≡ None → r.queue.items ≡ []) → r.stands.items ≡ passing_some s.stands.items r.next → r ≡ record s { queue = r.queue; next = r.next; stands = r.stands } → IsCall s c → IsCall r c
advanced s r c serves idle no_next q none st o h =
    moved_parts s r c o (ap length st ∙ length-passing s.stands.items r.next)
    (λ _. cut_at c.line c.ended (cut_next r.next s.queue.items r.queue.items s.stands.items c.line c.ended (cut_at c.line c.ended (h.cut serves) idle no_next refl refl) q none) (sym (ap (λ (x : RunTests). x.running) o ∙ idle)) refl refl (sym st))
    h

-- what is left of the line where nothing runs
pub left_is : (s : RunTests) (c : FunctionCall) → c.phase ≡ Serving → s.running ≡ None → IsCall s c → left c ≡ option_to_list s.next ++ s.queue.items
left_is s c serves idle h = cut_left None s.next s.queue.items s.stands.items c.line c.ended (cut_at c.line c.ended (h.cut serves) idle refl refl refl)

pub moved_at : (room : Bool) (t : CallTurn) (s : RunTests) (a : Acts) (l : List LineEntry) → left t.call ≡ l → IsCallTurn s a (moved_on room l t) → IsCallTurn s a (moved_on room (left t.call) t)
moved_at room t s a l e h = subst (λ (x : List LineEntry). IsCallTurn s a (moved_on room x t)) (sym e) h

pub idle_log : (run : Option Running) (next ended : ℕ) → run ≡ None → IsLog run next ended → next ≡ number_of_log ended
idle_log run next ended e h = let g = subst (λ (x : Option Running). IsLog x next ended) e h in g

front_is : (next : Option LineEntry) (rest : List LineEntry) (p : LineEntry) (q : List LineEntry) → p ∷ q ≡ option_to_list next ++ rest → (next ≡ None → rest ≡ []) → (next ≡ Some p) × (rest ≡ q)
front_is None rest p q e none = let z : rest ≡ [] = none refl in cc
front_is (Some x) rest p q e none = (cc, cc)

pub left_test : (s : RunTests) (c : FunctionCall) (n : ℕ) (p : LineEntry) (q : List LineEntry) → c.phase ≡ Serving → s.running ≡ None → s.next ≡ Some (Test n) → s.queue.items ≡ p ∷ q → IsCall s c → left c ≡ Test n ∷ (p ∷ q)
left_test s c n p q serves idle nx qu h = left_is s c serves idle h ∙ ap (λ (x : Option LineEntry). option_to_list x ++ s.queue.items) nx ∙ ap (λ (x : List LineEntry). Test n ∷ x) qu

pub started_is : (s r : RunTests) (t : CallTurn) (n : ℕ) (p : LineEntry) (q : List LineEntry) → t.call.phase ≡ Serving → s.running ≡ None → s.next ≡ Some (Test n) → s.queue.items ≡ p ∷ q
    → r.phase ≡ s.phase → r.size ≡ s.size → r.waiting.items ≡ s.waiting.items → r.running ≡ Some (record { test = n; log = s.next_log }) → r.next_log ≡ s.next_log + 2 → r.sent ≡ 0
    → s.queue.items ≡ option_to_list r.next ++ r.queue.items → (r.next ≡ None → r.queue.items ≡ []) → r.stands.items ≡ passing_some s.stands.items r.next
    → IsCall s t.call → IsCall r (test_started n t).call
started_is s r t n p q serves idle nx qu ph si wa ru lo se rq none st h =
    let f = front_is r.next r.queue.items p q (sym qu ∙ rq) none in
    let log : s.next_log ≡ number_of_log t.call.ended = idle_log s.running s.next_log t.call.ended idle h.held.log_is in
    record {
      phase_is = ph ∙ h.phase_is;
      held = record {
        waiting_is = wa ∙ h.held.waiting_is;
        size_is = ap length st ∙ length-passing s.stands.items r.next ∙ h.held.size_is;
        sent_is = se;
        suite_is = si ∙ h.held.suite_is;
        once_is = h.held.once_is;
        runs_is = ap (λ (x : Option Running). is_some x) ru;
        test_is = ap test_of_running ru ∙ sym (ap head_test (left_test s t.call n p q serves idle nx qu h));
        log_is = subst (λ (x : Option Running). IsLog x r.next_log t.call.ended) (sym ru) (log, lo ∙ ap (λ (x : ℕ). x + 2) log ∙ later t.call.ended);
      };
      cut = λ _. cut_at t.call.line t.call.ended (cut_start n s.next_log p q s.stands.items t.call.line t.call.ended (cut_at t.call.line t.call.ended (h.cut serves) idle nx qu refl)) (sym ru) (sym f.0) (sym f.1) (ap (passing_some s.stands.items) (sym f.0) ∙ sym st);
    }
  where
    later : (m : ℕ) → number_of_log m + 2 ≡ number_of_log (m + 1)
    later m = omega arith

pub asked : (a b : Acts) (t : CallTurn) (x : Ask) → b.asks.items ≡ a.asks.items ++ x ∷ [] → b.run ≡ a.run → HasActed a t → HasActed b (asking (x ∷ []) t)
asked a b t x e r h = record { asks_are = e ∙ ap (λ (l : List Ask). l ++ x ∷ []) h.asks_are; run_is = r ∙ h.run_is }

-- where a test starts
pub started_if : (room : Bool) (t : CallTurn) (n : ℕ) (s : RunTests) (a : Acts) → room ≡ true → number_of_log t.call.ended ≤ 2147483647 → IsCallTurn s a (test_started n t) → IsCallTurn s a (if room && has_log t.call.ended then test_started n t else over (Some too_many_channels) t)
started_if room t n s a r le h = subst (λ (v : Bool). IsCallTurn s a (if v then test_started n t else over (Some too_many_channels) t)) (sym (both room (has_log t.call.ended) r (le-leb _ _ le))) h
  where
    both : (a b : Bool) → a ≡ true → b ≡ true → (a && b) ≡ true
    both a b e f = rw (e, f)

pub start_asks : (n log m : ℕ) (old new before : List Ask) → log ≡ m → new ≡ old ++ Tell (LogStart n log) ∷ [] → old ≡ before → new ≡ before ++ Tell (LogStart n m) ∷ []
start_asks n log m old new before e f g = rw (← e, ← g) f

pub none_is : (o : Option LineEntry) (r : Bool) → is_some o ≡ not r → r ≡ true → o ≡ None
none_is None r e h = refl
none_is (Some p) r e h = let z : true ≡ not true = e ∙ ap not h in cc

-- the running test is the first of what is left
pub test_from_left : (run : Option Running) (b : Bool) (l x : List LineEntry) → is_some run ≡ b → l ≡ running_places run ++ x → test_of_running run ≡ (if b then head_test l else None)
test_from_left None b l x e h = subst (λ (v : Bool). None ≡ (if v then head_test l else None)) e refl
test_from_left (Some r) b l x e h = subst (λ (v : Bool). Some r.test ≡ (if v then head_test l else None)) e (sym (ap head_test h))

pub same_next : (s r : RunTests) → r ≡ record s { queue = r.queue; stands = r.stands } → r ≡ record s { queue = r.queue; next = r.next; stands = r.stands }
same_next s r o = o ∙ ap (λ (n : Option LineEntry). record s { queue = r.queue; next = n; stands = r.stands }) (sym (ap (λ (x : RunTests). x.next) o))

-- places are put after the line
pub lined_call : (s r : RunTests) (c : FunctionCall) (ps : List LineEntry) → c.phase ≡ Serving → r ≡ record s { queue = r.queue; stands = r.stands } → length r.stands.items ≡ length s.stands.items → r.queue.items ≡ s.queue.items ++ ps
    → ((preceding : List LineEntry) → EachStandsAt s.stands.items preceding s.queue.items → EachStandsAt r.stands.items preceding r.queue.items) → once (c.line ++ ps) ≡ true → IsCall s c → IsCall r (record c { line = c.line ++ ps })
lined_call s r c ps serves o size qu st once_more h =
    let old = h.cut serves in
    let run : r.running ≡ s.running = ap (λ (x : RunTests). x.running) o in
    let nx : r.next ≡ s.next = ap (λ (x : RunTests). x.next) o in
    let new : IsCut s.running s.next (s.queue.items ++ ps) r.stands.items (c.line ++ ps) c.ended = record {
      done = old.done;
      count = old.count;
      line_is = ap (λ (l : List LineEntry). l ++ ps) old.line_is ∙ append_assoc (old.done ++ (running_places s.running ++ option_to_list s.next)) s.queue.items ps;
      idle = old.idle;
      standing = subst (λ (l : List LineEntry). EachStandsAt r.stands.items (old.done ++ (running_places s.running ++ option_to_list s.next)) l) qu (st (old.done ++ (running_places s.running ++ option_to_list s.next)) old.standing);
    } in
    let held = held_parts s r c (same_next s r o) size h.held in
    record {
      phase_is = ap (λ (x : RunTests). x.phase) o ∙ h.phase_is;
      held = record {
        waiting_is = held.waiting_is;
        size_is = held.size_is;
        sent_is = held.sent_is;
        suite_is = held.suite_is;
        once_is = once_more;
        runs_is = held.runs_is;
        log_is = held.log_is;
        test_is = ap test_of_running run ∙ test_from_left s.running c.running (drop c.ended (c.line ++ ps)) _ h.held.runs_is (cut_left s.running s.next (s.queue.items ++ ps) r.stands.items (c.line ++ ps) c.ended new);
      };
      cut = λ _. cut_at (c.line ++ ps) c.ended new (sym run) (sym nx) (sym qu) refl;
    }

pub can_is : (s r : RunTests) (c : FunctionCall) (ns : List ℕ) (b : Bool) → c.phase ≡ Serving → IsCall s c → Appends s.stands.items s.queue.items r.stands.items r.queue.items ns b → b ≡ can_give c.size c.line ns
can_is s r c ns b serves h a =
    let old = h.cut serves in
    a.gives (old.done ++ (running_places s.running ++ option_to_list s.next)) old.standing
    ∙ ap (λ (n : ℕ). can_give n ((old.done ++ (running_places s.running ++ option_to_list s.next)) ++ s.queue.items) ns) h.held.size_is
    ∙ ap (λ (l : List LineEntry). can_give c.size l ns) (sym old.line_is)

pub given_call : (s r : RunTests) (c : FunctionCall) (ns : List ℕ) → c.phase ≡ Serving → r ≡ record s { queue = r.queue; stands = r.stands } → Appends s.stands.items s.queue.items r.stands.items r.queue.items ns true → IsCall s c → IsCall r (record c { line = c.line ++ map Test ns })
given_call s r c ns serves o a h = lined_call s r c (map Test ns) serves o a.size (a.queue_is refl) (λ preceding. a.standing preceding refl) (once_given c.size c.line ns (sym (can_is s r c ns true serves h a)) h.held.once_is) h

pub bad_held : (s r : RunTests) (c : FunctionCall) → r ≡ record s { queue = r.queue; stands = r.stands } → length r.stands.items ≡ length s.stands.items → IsHeld s c → IsHeld r c
bad_held s r c o size h = held_parts s r c (same_next s r o) size h

-- a mark does not change where tests stand
pub marked_stands : (stands : List Standing) (preceding q : List LineEntry) → EachStandsAt stands preceding q → EachStandsAt stands preceding (q ++ Mark ∷ [])
marked_stands stands preceding q h = record { at = λ n lt. h.at n lt ∙ ap (λ (v : Bool). standing_by (has_test n preceding) v) (none (has_test n q) ∙ sym (has_test-append n q (Mark ∷ []))) }
  where
    none : (a : Bool) → a ≡ (a || false)
    none true = refl
    none false = refl

pub marked_both : (stands st : List Standing) (q r preceding : List LineEntry) → st ≡ stands → r ≡ q ++ Mark ∷ [] → EachStandsAt stands preceding q → EachStandsAt st preceding r
marked_both stands st q r preceding e f h = rw (e, f) (marked_stands stands preceding q h)
