-- Whoever joined the rota has given its collection.
use Rattle.std.proofs.Common.{◌≡◌, ℕ, zero, suc, ◌+◌, List, [], ◌∷◌, ◌++◌, map, Bool, true, false, not, ◌&&◌, ◌||◌, refl, ap, sym, ◌∙◌, subst, arith, inl, inr}
use Rattle.std.specs.Prelude.{if◌then◌else◌, ◌==◌, Option, Some, None}
use Rattle.std.proofs.lemmas.Bool.Decides.{nat_tests}
use Rattle.xd_journal.specs.declared.settings.Settings.{Settings}
use Rattle.xd_journal.specs.declared.entry.RunStop.{RunStop}
use Rattle.xd_journal.specs.declared.entry.Ids.{Ids}
use Rattle.xd_journal.specs.declared.entry.Entry.{Entry}
use Rattle.xd_journal.specs.declared.entry.Entry.TheVariants.{Ready, Collected, Done, Back, Finished, Refused, Down, NotStarted, Start, Run, RunAll, Steal, Shutdown, Kill, Over}
use Rattle.xd_run.specs.declared.member.Member.{Member}
use Rattle.xd_run.specs.Collections.{listed, unequal, with_list}
use Rattle.xd_run.specs.Numbers.{among}
use Rattle.xd_run.specs.Plan.{items_named}
use Rattle.xd_run.specs.Table.{Table}
use Rattle.xd_run.specs.Books.{marked}
use Rattle.xd_run.specs.Workers.{has_collected, is_active, is_shut, made_collected, made_gone, made_ready, made_shut, slot_of, started, was_ready}
use Rattle.xd_run.specs.Sharing.{State, in_books, is_full, joining}
use Rattle.xd_run.specs.Collecting.{collecting}
use Rattle.xd_run.specs.Results.{completed_first}
use Rattle.xd_run.specs.State.{after_entries, after_effect, no_one}
use Rattle.xd_run.specs.Outputs.{outputs, after_input}
use Rattle.xd_run.specs.Histories.{after_starts, starts_from, after_inputs}
use Rattle.xd_run.specs.Orderly.{all_orderly, is_orderly, is_orderly_run}
use Rattle.xd_run.specs.Proper.{IsProper, all_may_follow, are_ids, may_follow}
use Rattle.xd_run_laws.proofs.Members.{has, has-kept, has-member, has-more, has-same, has-set}
use Rattle.xd_run_laws.proofs.Laws.{orderly}
use Rattle.xd_run_laws.proofs.Logic.{differ, or-left, split-and, split-or}
use Rattle.xd_run_laws.proofs.Turns.{after_entries-first}

-- each of these workers has given its collection
abbrev pub HaveCollected : List ℕ → List Member → Type 0
HaveCollected ws ms = (w : ℕ) → among w ws ≡ true → has w (λ m. m.collected) ms ≡ true

-- whoever joined has given its collection
abbrev pub AllCollected : State → Type 0
AllCollected s = HaveCollected s.books.table.who_joined s.books.members

-- the marks change

start-keeps : (ws : List ℕ) (ms : List Member) (w slot : ℕ) → HaveCollected ws ms → HaveCollected ws (ms ++ started w slot ∷ [])
start-keeps ws ms w slot k = λ v h. has-more v (λ m. m.collected) ms (started w slot) ∙ or-left (has v (λ m. m.collected) ms) (w == v && false) (k v h)

ready-keeps : (ws : List ℕ) (ms : List Member) (w : ℕ) → HaveCollected ws ms → HaveCollected ws (map (made_ready w) ms)
ready-keeps ws ms w k = λ v h. has-same v (λ m. m.collected) (made_ready w) ms (λ m. refl) (λ m. refl) ∙ k v h

shut-keeps : (ws : List ℕ) (ms : List Member) (w : ℕ) → HaveCollected ws ms → HaveCollected ws (map (made_shut w) ms)
shut-keeps ws ms w k = λ v h. has-same v (λ m. m.collected) (made_shut w) ms (λ m. refl) (λ m. refl) ∙ k v h

gone-keeps : (ws : List ℕ) (ms : List Member) (w : ℕ) → HaveCollected ws ms → HaveCollected ws (map (made_gone w) ms)
gone-keeps ws ms w k = λ v h. has-same v (λ m. m.collected) (made_gone w) ms (λ m. refl) (λ m. refl) ∙ k v h

collected-keeps : (ws : List ℕ) (ms : List Member) (w : ℕ) → HaveCollected ws ms → HaveCollected ws (map (made_collected w) ms)
collected-keeps ws ms w k = λ v h. has-kept v w (λ m. m.collected) (made_collected w) ms (λ m. refl) (λ m. refl) (k v h)

-- a worker that has given its collection joins

among-more : (v w : ℕ) (ws : List ℕ) → among v (ws ++ w ∷ []) ≡ (among v ws || (v == w))
among-more v w [] = grind (arith, nat_tests)
among-more v w (x ∷ ws) = grind (arith, nat_tests, among-more v w ws)

same_worker : (w v : ℕ) (P : ℕ → Type 0) → (v == w) ≡ true → P w → P v
same_worker w v P h p = let e : w ≡ v = grind (arith, nat_tests) in subst P e p

joined-keeps : (ws : List ℕ) (ms : List Member) (w : ℕ) → has w (λ m. m.collected) ms ≡ true → HaveCollected ws ms → HaveCollected (ws ++ w ∷ []) ms
joined-keeps ws ms w c k = λ v h. elim (split-or (among v ws) (v == w) (sym (among-more v w ws) ∙ h)) [
  | inl a ↦ k v a
  | inr e ↦ same_worker w v (λ u. has u (λ m. m.collected) ms ≡ true) e c
]

own-mark : (w : ℕ) (ms : List Member) → has w (λ m. m.active) ms ≡ true → has w (λ m. m.collected) (map (made_collected w) ms) ≡ true
own-mark w ms a =
    let same : (w == w) ≡ true = grind (arith, nat_tests) in
    has-set w w (λ m. m.collected) (made_collected w) ms (λ m. refl) (λ m. refl)
    ∙ ap (λ b. if b then has w (λ m. true) ms else has w (λ m. m.collected) ms) same ∙ has-member w (λ m. m.active) ms a

share-keeps : (b : Bool) (s t : State) → AllCollected s → AllCollected t → AllCollected (if b then s else t)
share-keeps true s t k l = k
share-keeps false s t k l = l

joining-keeps : (w : ℕ) (s : State) → has w (λ m. m.collected) s.books.members ≡ true → AllCollected s → AllCollected (joining w s)
joining-keeps w s c k =
    let j = joined-keeps s.books.table.who_joined s.books.members w c k in
    share-keeps (is_full (in_books (λ b. record b { table = record (b.table) { rota = b.table.rota ++ record { worker = w; held = []; shut = false } ∷ []; who_joined = b.table.who_joined ++ w ∷ [] } }) s).books) _ _ j j

collecting-keeps : (w : ℕ) (how : Option RunStop) (s : State) → has w (λ m. m.collected) s.books.members ≡ true → AllCollected s → AllCollected (collecting w how s)
collecting-keeps w (Some how) s c k = share-keeps (is_shut w s.books) _ _ k k
collecting-keeps w None s c k = share-keeps (is_shut w s.books) _ _ k (joining-keeps w s c k)

-- one entry

completed-joined : (w : ℕ) (items : List ℕ) (t : Table) → (completed_first w items t).who_joined ≡ t.who_joined
completed-joined w [] t = refl
completed-joined w (i ∷ is) t = refl

joins-output : (s : State) (e : Entry) → is_orderly s e ≡ true → AllCollected s → AllCollected (after_effect s e)
joins-output s (Start w slot) h k = start-keeps s.books.table.who_joined s.books.members w slot k
joins-output s (Run w is) h k = k
joins-output s (RunAll w) h k = k
joins-output s (Steal w is) h k = k
joins-output s (Shutdown w) h k = shut-keeps s.books.table.who_joined s.books.members w k
joins-output s (Kill w) h k = k
joins-output s (Over how) h k = k
joins-output s (Ready w) h k = absurd (differ h)
joins-output s (Collected w g) h k = absurd (differ h)
joins-output s (Done w i u m o) h k = absurd (differ h)
joins-output s (Back w i) h k = absurd (differ h)
joins-output s (Finished w) h k = absurd (differ h)
joins-output s (Refused w t) h k = absurd (differ h)
joins-output s (Down w c o) h k = absurd (differ h)
joins-output s (NotStarted w) h k = absurd (differ h)

joins-collected : (s : State) (w : ℕ) (g : Ids) → may_follow s (Collected w g) ≡ true → AllCollected s → AllCollected (after_effect s (Collected w g))
joins-collected s w g h k =
    let a = split-and (is_active w s.books && was_ready w s.books && not (has_collected w s.books)) (are_ids g w s) h in
    let b = split-and (is_active w s.books && was_ready w s.books) (not (has_collected w s.books)) a.0 in
    let c = split-and (is_active w s.books) (was_ready w s.books) b.0 in
    collecting-keeps w (unequal w g (listed w s.books)) (in_books (λ b. marked (made_collected w) (with_list w g b)) s) (own-mark w s.books.members c.0) (collected-keeps s.books.table.who_joined s.books.members w k)

joins-input : (s : State) (e : Entry) → may_follow s e ≡ true → AllCollected s → AllCollected (after_effect s e)
joins-input s (Ready w) h k = ready-keeps s.books.table.who_joined s.books.members w k
joins-input s (Collected w g) h k = joins-collected s w g h k
joins-input s (Done w i u m o) h k = subst (λ (ws : List ℕ). HaveCollected ws s.books.members) (sym (completed-joined w (items_named (slot_of w s.books) (i ∷ []) s.plan) s.books.table)) k
joins-input s (Back w i) h k = k
joins-input s (Finished w) h k = gone-keeps s.books.table.who_joined s.books.members w k
joins-input s (Refused w t) h k = gone-keeps s.books.table.who_joined s.books.members w k
joins-input s (Down w c o) h k = gone-keeps s.books.table.who_joined s.books.members w k
joins-input s (NotStarted w) h k = gone-keeps s.books.table.who_joined s.books.members w k
joins-input s (Start w slot) h k = absurd (differ h)
joins-input s (Run w is) h k = absurd (differ h)
joins-input s (RunAll w) h k = absurd (differ h)
joins-input s (Steal w is) h k = absurd (differ h)
joins-input s (Shutdown w) h k = absurd (differ h)
joins-input s (Kill w) h k = absurd (differ h)
joins-input s (Over how) h k = absurd (differ h)

-- runs

joins-outputs : (s : State) (es : List Entry) → all_orderly s es ≡ true → AllCollected s → AllCollected (after_entries s es)
joins-outputs s [] h k = k
joins-outputs s (e ∷ es) h k =
    let p = split-and (is_orderly s e) (all_orderly (after_effect s e) es) h in
    subst (λ (u : State). AllCollected u) (sym (after_entries-first s e es p.0)) (joins-outputs (after_effect s e) es p.1 (joins-output s e p.0 k))

-- after the inputs of a proper run, each of whose outputs are in order
joins-all : (s : State) (ins : List Entry) → all_may_follow s ins ≡ true → is_orderly_run s ins ≡ true → AllCollected s → AllCollected (after_inputs s ins)
joins-all s [] h d k = k
joins-all s (e ∷ ins) h d k =
    let p = split-and (may_follow s e) (all_may_follow (after_input s e) ins) h in
    let q = split-and (all_orderly (after_effect s e) (outputs s e)) (is_orderly_run (after_input s e) ins) d in
    joins-all (after_input s e) ins p.1 q.1 (joins-outputs (after_effect s e) (outputs s e) q.0 (joins-input s e p.0 k))

joins-starts : (s : State) (w n : ℕ) → AllCollected s → AllCollected (after_entries s (starts_from w n))
joins-starts s w zero k = k
joins-starts s w (suc n) k = joins-starts (after_effect s (Start w w)) (w + 1) n (start-keeps s.books.table.who_joined s.books.members w w k)

pub joins-following : (settings : Settings) (ins : List Entry) → IsProper settings ins → AllCollected (after_inputs (after_starts settings) ins)
joins-following settings ins p = joins-all (after_starts settings) ins p.follow (orderly settings ins p) (joins-starts (no_one settings) 0 settings.workers (λ v a. absurd (differ a)))
