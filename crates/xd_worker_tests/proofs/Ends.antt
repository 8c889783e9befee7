-- The collection, and the end of a test.
use Rattle.std.proofs.Common.{◌≡◌, ℕ, ◌+◌, ◌<◌, List, [], ◌∷◌, ◌++◌, length, Option, Some, None, refl, ap, sym, subst, ◌∙◌, append_assoc, arith}
use Rattle.std.specs.Prelude.{option_to_list, slice_index_or, replicate, is_some}
use Rattle.std.proofs.Math.ListN.{get_or-replicate}
use Rattle.std.proofs.lemmas.Grind.{common_steps}
use Rattle.xd_journal.specs.declared.entry.Outcome.{Outcome}
use Rattle.xd_journal.specs.declared.news.What.TheVariants.{Done}
use Rattle.xd_worker_tests.specs.declared.line_entry.LineEntry.{LineEntry}
use Rattle.xd_worker_tests.specs.declared.line_entry.LineEntry.TheVariants.{Test}
use Rattle.xd_worker_tests.specs.declared.line_entry.Standing.{Standing}
use Rattle.xd_worker_tests.specs.declared.line_entry.Standing.TheVariants.{Free}
use Rattle.xd_worker_tests.specs.declared.ask.Ask.{Ask}
use Rattle.xd_worker_tests.specs.declared.ask.Ask.TheVariants.{Tell, CloseLog}
use Rattle.xd_worker_tests.specs.declared.run_tests.Running.{Running}
use Rattle.xd_worker_tests.specs.declared.run_tests.RunTests.{RunTests}
use Rattle.xd_worker_tests.specs.declared.phase.Phase.TheVariants.{Serving}
use Rattle.xd_worker_tests.specs.Line.{FunctionCall, number_of_log}
use Rattle.xd_worker_tests.specs.Turns.{serving_suite, without_run}
use Rattle.xd_worker_tests.specs.inner.Stands.{IsCut, IsCall, IsLog, EachStandsAt, test_of_running}
use Rattle.xd_worker_tests.proofs.Moves.{cut_at}

free_all : (size : ℕ) (st : List Standing) → st ≡ replicate size Free → EachStandsAt st [] []
free_all size st e = record { at = λ n lt. ap (λ (x : List Standing). slice_index_or x n Free) e ∙ within n (subst (λ (x : List Standing). n < length x) e lt) }
  where
    within : (n : ℕ) → n < length (replicate size Free) → slice_index_or (replicate size Free) n Free ≡ Free
    within n lt = get_or-replicate size n Free Free (subst (λ (i : ℕ). n < i) (length-of size) lt)
      where
        length-of : (k : ℕ) → length (replicate k Free) ≡ k
        length-of k = grind (arith, common_steps)

pub opened_call : (s r : RunTests) (c : FunctionCall) (size : ℕ) → r.phase ≡ Serving → r.waiting.items ≡ [] → r.size ≡ size → r.stands.items ≡ replicate size Free → r.queue.items ≡ [] → r.next ≡ None → r.running ≡ None → r.next_log ≡ 2 → r.sent ≡ s.sent
    → IsCall s c → IsCall r (serving_suite size c)
opened_call s r c size ph wa si st qu ne ru lo se h = record {
  phase_is = ph;
  held = record {
    waiting_is = wa;
    size_is = ap length st ∙ length-of size;
    suite_is = si;
    sent_is = se ∙ h.held.sent_is;
    once_is = refl;
    runs_is = ap (λ (x : Option Running). is_some x) ru;
    test_is = ap test_of_running ru;
    log_is = subst (λ (x : Option Running). IsLog x r.next_log 0) (sym ru) lo;
  };
  cut = λ _. cut_at [] 0 empty (sym ru) (sym ne) (sym qu) refl;
}
  where
    length-of : (k : ℕ) → length (replicate k Free) ≡ k
    length-of k = grind (arith, common_steps)

    empty : IsCut None None [] r.stands.items [] 0
    empty = record { done = []; count = refl; line_is = refl; idle = λ _. refl; standing = free_all size r.stands.items st }

cut_done : (run : Running) (next : Option LineEntry) (q : List LineEntry) (st : List Standing) (line : List LineEntry) (ended : ℕ) → IsCut (Some run) next q st line ended → IsCut None next q st line (ended + 1)
cut_done run next q st line ended h = record {
  done = h.done ++ Test run.test ∷ [];
  count = longer h.done (Test run.test) ended h.count;
  line_is = h.line_is ∙ ap (λ (l : List LineEntry). l ++ q) (regroup h.done (Test run.test) (option_to_list next));
  idle = λ _. refl;
  standing = subst (λ (l : List LineEntry). EachStandsAt st l q) (regroup h.done (Test run.test) (option_to_list next)) h.standing;
}
  where
    longer : (a : List LineEntry) (p : LineEntry) (n : ℕ) → length a ≡ n → length (a ++ p ∷ []) ≡ n + 1
    longer a p n e = grind (arith, common_steps)

    regroup : (a : List LineEntry) (p : LineEntry) (b : List LineEntry) → a ++ (p ∷ b) ≡ (a ++ p ∷ []) ++ b
    regroup a p b = grind (arith, common_steps)

pub done_call : (s r : RunTests) (c : FunctionCall) (run : Running) → s.running ≡ Some run → r ≡ record s { running = None } → IsCall s c → IsCall r (without_run c)
done_call s r c run is o h = record {
  phase_is = ap (λ (x : RunTests). x.phase) o ∙ h.phase_is;
  held = record {
    waiting_is = ap (λ (x : RunTests). x.waiting.items) o ∙ h.held.waiting_is;
    size_is = ap (λ (x : RunTests). length x.stands.items) o ∙ h.held.size_is;
    suite_is = ap (λ (x : RunTests). x.size) o ∙ h.held.suite_is;
    sent_is = ap (λ (x : RunTests). x.sent) o ∙ h.held.sent_is;
    once_is = h.held.once_is;
    runs_is = ap (λ (x : RunTests). is_some x.running) o;
    test_is = ap (λ (x : RunTests). test_of_running x.running) o;
    log_is = subst (λ (x : Option Running). IsLog x r.next_log (c.ended + 1)) (sym (ap (λ (x : RunTests). x.running) o)) (ap (λ (x : RunTests). x.next_log) o ∙ log.1);
  };
  cut = λ serves. cut_at c.line (c.ended + 1) (cut_done run s.next s.queue.items s.stands.items c.line c.ended (cut_at c.line c.ended (h.cut serves) is refl refl refl)) (sym (ap (λ (x : RunTests). x.running) o)) (sym (ap (λ (x : RunTests). x.next) o)) (sym (ap (λ (x : RunTests). x.queue.items) o)) (sym (ap (λ (x : RunTests). x.stands.items) o));
}
  where
    log : (run.log ≡ number_of_log c.ended) × (s.next_log ≡ number_of_log (c.ended + 1))
    log = let g = subst (λ (x : Option Running). IsLog x s.next_log c.ended) is h.held.log_is in g

pub log_at : (s : RunTests) (c : FunctionCall) (run : Running) → s.running ≡ Some run → IsCall s c → run.log ≡ number_of_log c.ended
log_at s c run is h = let g = subst (λ (x : Option Running). IsLog x s.next_log c.ended) is h.held.log_is in g.0

pub two_asks : (old one two before : List Ask) (log m n : ℕ) (outcome : Outcome) (ms : ℕ) → one ≡ old ++ CloseLog log ∷ [] → two ≡ one ++ Tell (Done n outcome ms) ∷ [] → log ≡ m → old ≡ before → two ≡ before ++ (CloseLog m ∷ Tell (Done n outcome ms) ∷ [])
two_asks old one two before log m n outcome ms e f g h = f ∙ ap (λ (l : List Ask). l ++ Tell (Done n outcome ms) ∷ []) e ∙ append_assoc old (CloseLog log ∷ []) (Tell (Done n outcome ms) ∷ []) ∙ rw (← g, ← h) refl
