-- What a steal leaves of a call.
use Rattle.std.proofs.Common.{◌≡◌, ℕ, ◌+◌, ◌≤◌, List, [], ◌∷◌, ◌++◌, length, take, drop, Bool, true, false, Option, Some, None, refl, ap, sym, subst, ◌∙◌, arith}
use Rattle.std.specs.Prelude.{option_to_list, is_some, if◌then◌else◌}
use Rattle.std.proofs.Common.{Vec, Global}
use Rattle.std.proofs.lemmas.Grind.{common_steps}
use Rattle.xd_worker_tests.specs.declared.line_entry.LineEntry.{LineEntry}
use Rattle.xd_worker_tests.specs.declared.line_entry.LineEntry.TheVariants.{Test}
use Rattle.xd_worker_tests.specs.declared.line_entry.Standing.{Standing}
use Rattle.xd_worker_tests.specs.declared.run_tests.Running.{Running}
use Rattle.xd_worker_tests.specs.declared.run_tests.RunTests.{RunTests}
use Rattle.xd_worker_tests.specs.declared.phase.Phase.TheVariants.{Serving}
use Rattle.std.specs.Prelude.{Result, Ok, Err, OnOk}
use Rattle.xd_edge.specs.declared.refusals.OutOfMemory.{OutOfMemory}
use Rattle.xd_journal.specs.declared.news.What.TheVariants.{Back}
use Rattle.xd_worker_tests.specs.declared.ask.Ask.{Ask}
use Rattle.xd_worker_tests.specs.declared.ask.Ask.TheVariants.{Tell}
use Rattle.xd_worker_tests.specs.declared.run_tests.steal.Asked.{Asked}
use Rattle.xd_worker_tests.specs.declared.run_tests.steal.Asked.TheVariants.{Missing, Marked}
use Rattle.xd_worker_tests.specs.Line.{FunctionCall, front, queue, kept, stolen_tests, all_queued, can_ask}
use Rattle.xd_worker_tests.specs.Turns.{CallTurn, stolen_if, asking}
use Rattle.xd_worker_tests.specs.inner.Stands.{AreMarked, once, IsCut, IsCall, IsReady, TakenOut, Asks, IsAsked, all_queued_at, running_places, test_of_running}
use Rattle.xd_worker_tests.proofs.Cut.{cut_left}
use Rattle.xd_worker_tests.proofs.Once.{once_kept}
use Rattle.xd_worker_tests.proofs.Moves.{cut_at, held_parts, same_next, test_from_left}
use Rattle.xd_worker_tests.proofs.Asking.{all_queued_is, kept_stands}

cut_two : (a b l : List LineEntry) (n : ℕ) → l ≡ a ++ b → length a ≡ n → (take n l ≡ a) × (drop n l ≡ b)
cut_two a b l n e h = (rw e (first a b n h), rw e (second a b n h))
  where
    first : (a b : List LineEntry) (n : ℕ) → length a ≡ n → take n (a ++ b) ≡ a
    first a b n h = grind (arith, common_steps)

    second : (a b : List LineEntry) (n : ℕ) → length a ≡ n → drop n (a ++ b) ≡ b
    second a b n h = grind (arith, common_steps)

cut_short : (a l : List LineEntry) (n : ℕ) → l ≡ a → length a ≤ n → (take n l ≡ a) × (drop n l ≡ [])
cut_short a l n e h = (rw e (first a n h), rw e (second a n h))
  where
    first : (a : List LineEntry) (n : ℕ) → length a ≤ n → take n a ≡ a
    first a n h = grind (arith, common_steps)

    second : (a : List LineEntry) (n : ℕ) → length a ≤ n → drop n a ≡ []
    second a n h = grind (arith, common_steps)

-- the front and the queue are where the parts are cut
pub cut_is : (run : Option Running) (next : Option LineEntry) (q : List LineEntry) (st : List Standing) (line : List LineEntry) (ended : ℕ) (running : Bool) (h : IsCut run next q st line ended) → (next ≡ None → q ≡ []) → is_some run ≡ running
    → (take (ended + (if running then 2 else 1)) line ≡ h.done ++ (running_places run ++ option_to_list next)) × (drop (ended + (if running then 2 else 1)) line ≡ q)
cut_is None None q st line ended running h z e = subst (λ (v : Bool). (take (ended + (if v then 2 else 1)) line ≡ h.done ++ []) × (drop (ended + (if v then 2 else 1)) line ≡ q)) e
    (let short = cut_short (h.done ++ []) line (ended + 1) (h.line_is ∙ ap (λ (l : List LineEntry). (h.done ++ []) ++ l) (z refl) ∙ no_more (h.done ++ [])) (long h.done ended h.count) in (short.0, short.1 ∙ sym (z refl)))
  where
    no_more : (a : List LineEntry) → a ++ [] ≡ a
    no_more a = grind (arith, common_steps)

    long : (a : List LineEntry) (n : ℕ) → length a ≡ n → length (a ++ []) ≤ n + 1
    long a n e = grind (arith, common_steps)
cut_is None (Some p) q st line ended running h z e = subst (λ (v : Bool). (take (ended + (if v then 2 else 1)) line ≡ h.done ++ p ∷ []) × (drop (ended + (if v then 2 else 1)) line ≡ q)) e
    (cut_two (h.done ++ p ∷ []) q line (ended + 1) h.line_is (long h.done p ended h.count))
  where
    long : (a : List LineEntry) (p : LineEntry) (n : ℕ) → length a ≡ n → length (a ++ p ∷ []) ≡ n + 1
    long a p n e = grind (arith, common_steps)
cut_is (Some r) None q st line ended running h z e = let no : Some r ≡ None = h.idle refl in cc
cut_is (Some r) (Some p) q st line ended running h z e = subst (λ (v : Bool). (take (ended + (if v then 2 else 1)) line ≡ h.done ++ (Test r.test ∷ p ∷ [])) × (drop (ended + (if v then 2 else 1)) line ≡ q)) e
    (cut_two (h.done ++ (Test r.test ∷ p ∷ [])) q line (ended + 2) h.line_is (long h.done (Test r.test) p ended h.count))
  where
    long : (a : List LineEntry) (o p : LineEntry) (n : ℕ) → length a ≡ n → length (a ++ (o ∷ p ∷ [])) ≡ n + 2
    long a o p n e = grind (arith, common_steps)

-- whether all asked tests are in the queue
pub asked_is : (s : RunTests) (c : FunctionCall) (ns : List ℕ) → c.phase ≡ Serving → IsReady s c → can_ask (length s.stands.items) [] ns ≡ true → IsCall s c → all_queued_at s.stands.items ns ≡ all_queued (queue c) ns
asked_is s c ns serves ready can h =
    let cut = h.cut serves in
    let both = cut_is s.running s.next s.queue.items s.stands.items c.line c.ended c.running cut (ready serves) h.held.runs_is in
    all_queued_is s.stands.items (cut.done ++ (running_places s.running ++ option_to_list s.next)) s.queue.items [] ns cut.standing (ap once (sym cut.line_is) ∙ h.held.once_is) can
    ∙ ap (λ (q : List LineEntry). all_queued q ns) (sym both.1)

pub asks_can : (s : RunTests) (c : FunctionCall) (ns : List ℕ) (b : Bool) → IsCall s c → can_ask (length s.stands.items) [] ns ≡ b → can_ask c.size [] ns ≡ b
asks_can s c ns b h e = ap (λ (n : ℕ). can_ask n [] ns) (sym h.held.size_is) ∙ e

pub stolen_call : (s r : RunTests) (c : FunctionCall) (ns back : List ℕ) → c.phase ≡ Serving → IsReady s c → r ≡ record s { queue = r.queue; stands = r.stands } → TakenOut ns s.stands.items s.queue.items r.stands.items [] back r.queue.items → IsCall s c
    → (IsCall r (record c { line = front c ++ kept ns (queue c) })) × (back ≡ stolen_tests ns (queue c)) × (r.next ≡ None → r.queue.items ≡ [])
stolen_call s r c ns back serves ready o out h =
    let old = h.cut serves in
    let run : r.running ≡ s.running = ap (λ (x : RunTests). x.running) o in
    let nx : r.next ≡ s.next = ap (λ (x : RunTests). x.next) o in
    let both = cut_is s.running s.next s.queue.items s.stands.items c.line c.ended c.running old (ready serves) h.held.runs_is in
    let ok = kept_stands ns s.stands.items r.stands.items (old.done ++ (running_places s.running ++ option_to_list s.next)) s.queue.items r.queue.items back out old.standing (ap once (sym old.line_is) ∙ h.held.once_is) in
    let is_line : front c ++ kept ns (queue c) ≡ (old.done ++ (running_places s.running ++ option_to_list s.next)) ++ r.queue.items = joined (front c) (kept ns (queue c)) (old.done ++ (running_places s.running ++ option_to_list s.next)) r.queue.items both.0 (ap (kept ns) both.1 ∙ sym ok.2) in
    let new : IsCut s.running s.next r.queue.items r.stands.items (front c ++ kept ns (queue c)) c.ended = record { done = old.done; count = old.count; line_is = is_line; idle = old.idle; standing = ok.0 } in
    let held = held_parts s r c (same_next s r o) out.size h.held in (
      record {
        phase_is = ap (λ (x : RunTests). x.phase) o ∙ h.phase_is;
        held = record {
          waiting_is = held.waiting_is;
          size_is = held.size_is;
          suite_is = held.suite_is;
          sent_is = held.sent_is;
          runs_is = held.runs_is;
          log_is = held.log_is;
          once_is = ap once (is_line ∙ ap (λ (l : List LineEntry). (old.done ++ (running_places s.running ++ option_to_list s.next)) ++ l) ok.2) ∙ once_kept ns (old.done ++ (running_places s.running ++ option_to_list s.next)) s.queue.items (ap once (sym old.line_is) ∙ h.held.once_is);
          test_is = ap test_of_running run ∙ test_from_left s.running c.running (drop c.ended (front c ++ kept ns (queue c))) _ h.held.runs_is (cut_left s.running s.next r.queue.items r.stands.items (front c ++ kept ns (queue c)) c.ended new);
        };
        cut = λ _. cut_at (front c ++ kept ns (queue c)) c.ended new (sym run) (sym nx) refl refl;
      },
      ok.1 ∙ ap (stolen_tests ns) (sym both.1),
      λ z. ok.2 ∙ ap (kept ns) (ready serves (sym nx ∙ z)),
    )
  where
    joined : (a b x q : List LineEntry) → a ≡ x → b ≡ q → a ++ b ≡ x ++ q
    joined a b x q e f = rw (e, f) refl

pub on_ok : (r : Result (Unit {0}) OutOfMemory) (P Q : Type 0) → (P → Q) → OnOk r P → OnOk r Q
on_ok (Ok u) P Q f h = f h
on_ok (Err e) P Q f h = h

pub asked_missing : (st : List Standing) (ns : List ℕ) (a : Asked) → a ≡ Missing → IsAsked st ns a → (can_ask (length st) [] ns ≡ true) × (all_queued_at st ns ≡ false)
asked_missing st ns a e h = let g = subst (IsAsked st ns) e h in g

pub missing_turn : (t : CallTurn) (ns : List ℕ) → can_ask t.call.size [] ns ≡ true → all_queued (queue t.call) ns ≡ false → stolen_if ns t ≡ asking (Tell (Back []) ∷ []) t
missing_turn t ns e f = rw (e, f) refl

pub marked_turn : (t : CallTurn) (ns : List ℕ) → can_ask t.call.size [] ns ≡ true → all_queued (queue t.call) ns ≡ true → stolen_if ns t ≡ asking (Tell (Back (stolen_tests ns (queue t.call))) ∷ []) (record t { call = record (t.call) { line = front t.call ++ kept ns (queue t.call) } })
marked_turn t ns e f = rw (e, f) refl

pub told_back : (old new before : List Ask) (back ns : List ℕ) → back ≡ ns → old ≡ before → new ≡ old ++ Tell (Back back) ∷ [] → new ≡ before ++ Tell (Back ns) ∷ []
told_back old new before back ns e f g = rw (← e, ← f) g

pub asked_marked : (st : List Standing) (ns : List ℕ) (a : Asked) (v : Vec Bool Global) → a ≡ Marked v → IsAsked st ns a → Asks (length st) st ns v.items
asked_marked st ns a v e h = let g = subst (IsAsked st ns) e h in g

pub marks_at : (v w : List Bool) (ns : List ℕ) → v ≡ w → AreMarked w ns → AreMarked v ns
marks_at v w ns e h = subst (λ (x : List Bool). AreMarked x ns) (sym e) h
