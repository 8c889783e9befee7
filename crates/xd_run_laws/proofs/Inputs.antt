-- The state after an input that may follow is tidy.
use Rattle.std.proofs.Common.{◌≡◌, ℕ, zero, suc, ◌+◌, List, [], ◌∷◌, map, Bool, true, false, refl, ap, sym, ◌∙◌, arith, length, not}
use Rattle.std.specs.Prelude.{Some, None, Option, is_some, ◌==◌, if◌then◌else◌}
use Rattle.std.specs.List.{range_with_len}
use Rattle.std.proofs.lemmas.Bool.Decides.{nat_tests}
use Rattle.xd_journal.specs.declared.entry.Ids.{Ids}
use Rattle.xd_journal.specs.declared.entry.Outcome.{Outcome}
use Rattle.xd_journal.specs.declared.entry.RunStop.{RunStop}
use Rattle.xd_journal.specs.declared.entry.RunStop.TheVariants.{CollectError}
use Rattle.xd_journal.specs.declared.entry.Entry.{Entry}
use Rattle.xd_journal.specs.declared.entry.Entry.TheVariants.{Ready, Collected, Done, Back, Finished, Refused, Down, NotStarted, Start, Run, RunAll, Steal, Shutdown, Kill, Over}
use Rattle.xd_run.specs.declared.member.Listed.{Listed}
use Rattle.xd_run.specs.declared.member.Member.{Member}
use Rattle.xd_run.specs.Table.{joined}
use Rattle.xd_run.specs.Plan.{is_each, items_named, total}
use Rattle.xd_run.specs.Books.{marked}
use Rattle.xd_run.specs.Workers.{is_shut, slot_of, made_ready, made_collected, made_gone}
use Rattle.xd_run.specs.Collections.{unequal, listed, with_list}
use Rattle.xd_run.specs.Stops.{is_stopped, or_stop, stopped_by, at_limit, out_of_restarts}
use Rattle.xd_run.specs.Retry.{is_retry}
use Rattle.xd_run.specs.Sharing.{State, in_books, joining, share_where_full, shared_now, sizes_from, is_full}
use Rattle.xd_run.specs.Collecting.{collecting}
use Rattle.xd_run.specs.Deaths.{gone, buried}
use Rattle.xd_run.specs.Results.{completed_first, failing, done_stop}
use Rattle.xd_run.specs.State.{after_effect}
use Rattle.xd_run.specs.Proper.{may_follow}
use Rattle.xd_run_laws.proofs.Logic.{differ, in_both, split-and, not_true}
use Rattle.xd_run_laws.proofs.Rota.{seat-among, seat-joined}
use Rattle.xd_run_laws.proofs.Members.{has, has-same}
use Rattle.xd_run_laws.proofs.Placed.{placed-input}
use Rattle.xd_run_laws.proofs.MembersFit.{MembersFit, members-ready, members-collected, members-gone}
use Rattle.xd_run_laws.proofs.Turns.{Tidy, Calm, InRota}

-- a collection comes: its worker is shut, the run stops, or the worker joins, and the last one brings the share
pub collecting-full : (P : State → Type 0) (s : State) (w : ℕ) (stop : Option RunStop) → P s → P (in_books (stopped_by stop) s)
    → P (in_books (λ b. record b { table = joined w b.table }) s)
    → (is_full (in_books (λ b. record b { table = joined w b.table }) s).books ≡ true → P (shared_now (in_books (λ b. record b { table = joined w b.table }) s))) → P (collecting w stop s)
collecting-full P s w (Some how) a b c d = in_both P (is_shut w s.books) s (in_books (stopped_by (Some how)) s) (λ h. a) (λ h. b)
collecting-full P s w None a b c d =
    let j = in_books (λ b. record b { table = joined w b.table }) s in
    in_both P (is_shut w s.books) s (joining w s) (λ h. a) (λ h. in_both P (is_full j.books) (shared_now j) j d (λ k. c))

-- what the sharing of tests and the joining of a worker leave as it is
pub collecting-keeps : (P : State → Type 0) (s : State) (w : ℕ) (stop : Option RunStop) → P s → P (in_books (stopped_by stop) s)
    → P (in_books (λ b. record b { table = joined w b.table }) s) → (s.books.shared ≡ false → P (shared_now (in_books (λ b. record b { table = joined w b.table }) s))) → P (collecting w stop s)
collecting-keeps P s w stop a b c d =
    let j = in_books (λ b. record b { table = joined w b.table }) s in
    collecting-full P s w stop a b c (λ k. d (not_true s.books.shared (split-and (not s.books.shared) (length j.books.table.rota == s.books.settings.workers) k).0))

abbrev MembersOk : State → Type 0
MembersOk s = MembersFit s.books.members s.books.settings.workers

members-input : (s : State) (e : Entry) → may_follow s e ≡ true → MembersOk s → MembersOk (after_effect s e)
members-input s (Ready w) h c = members-ready s.books.members s.books.settings.workers w c
members-input s (Collected w g) h c =
    let k = members-collected s.books.members s.books.settings.workers w c in
    collecting-keeps MembersOk (in_books (λ b. marked (made_collected w) (with_list w g b)) s) w (unequal w g (listed w s.books)) k k k (λ n. k)
members-input s (Done w i u m o) h c = c
members-input s (Back w i) h c = c
members-input s (Finished w) h c = members-gone s.books.members s.books.settings.workers w c
members-input s (Refused w t) h c = members-gone s.books.members s.books.settings.workers w c
members-input s (Down w r o) h c = members-gone s.books.members s.books.settings.workers w c
members-input s (NotStarted w) h c = members-gone s.books.members s.books.settings.workers w c
members-input s (Start w slot) h c = absurd (differ h)
members-input s (Run w is) h c = absurd (differ h)
members-input s (RunAll w) h c = absurd (differ h)
members-input s (Steal w is) h c = absurd (differ h)
members-input s (Shutdown w) h c = absurd (differ h)
members-input s (Kill w) h c = absurd (differ h)
members-input s (Over how) h c = absurd (differ h)

-- a stop stays
pub unstopped-before : (a how : Option RunStop) → is_some (or_stop a how) ≡ false → is_some a ≡ false
unstopped-before None how h = refl
unstopped-before (Some first) how h = h

-- the shut marks and the share are as they were, and a stop stays
calm-by : (s t : State) → t.books.shutting ≡ s.books.shutting → t.books.shared ≡ s.books.shared → (is_stopped t.books ≡ false → is_stopped s.books ≡ false)
    → ((v : ℕ) → has v (λ m. m.shut) t.books.members ≡ has v (λ m. m.shut) s.books.members) → Calm s → Calm t
calm-by s t a b stop shut c = record {
  late = λ h. b ∙ c.late (sym a ∙ h);
  unshut = λ h k v. shut v ∙ c.unshut (stop h) (sym b ∙ k) v;
}

shut-collected : (w v : ℕ) (ms : List Member) → has v (λ m. m.shut) (map (made_collected w) ms) ≡ has v (λ m. m.shut) ms
shut-collected w v ms = has-same v (λ m. m.shut) (made_collected w) ms (λ m. refl) (λ m. refl)

pub shut-gone : (w v : ℕ) (ms : List Member) → has v (λ m. m.shut) (map (made_gone w) ms) ≡ has v (λ m. m.shut) ms
shut-gone w v ms = has-same v (λ m. m.shut) (made_gone w) ms (λ m. refl) (λ m. refl)

calm-collected : (s : State) (w : ℕ) (g : Ids) → Calm s → Calm (after_effect s (Collected w g))
calm-collected s w g c =
    let now = in_books (λ b. marked (made_collected w) (with_list w g b)) s in
    let j = in_books (λ b. record b { table = joined w b.table }) now in
    let stop = unequal w g (listed w s.books) in
    let shut : (v : ℕ) → has v (λ m. m.shut) now.books.members ≡ has v (λ m. m.shut) s.books.members = λ v. shut-collected w v s.books.members in
    collecting-keeps Calm now w stop
    (calm-by s now refl refl (λ h. h) shut c)
    (calm-by s (in_books (stopped_by stop) now) refl refl (unstopped-before s.books.stop stop) shut c)
    (calm-by s j refl refl (λ h. h) shut c)
    (λ n. record { late = λ h. refl; unshut = λ h k. absurd (differ (sym k)) })

pub down-unstopped : (w : ℕ) (s : State) → is_stopped (after_effect s (NotStarted w)).books ≡ false → is_stopped s.books ≡ false
down-unstopped w s h =
    let c = gone w (buried w (is_retry w s.books) s.books) in
    unstopped-before s.books.stop (or_stop (at_limit c) (out_of_restarts w c)) h

pub done-unstopped : (s : State) (w i : ℕ) (u : Outcome) (m : ℕ) (o : List ℕ) → is_stopped (after_effect s (Done w i u m o)).books ≡ false → is_stopped s.books ≡ false
done-unstopped s w i u m o h =
    let items = items_named (slot_of w s.books) (i ∷ []) s.plan in
    unstopped-before s.books.stop (done_stop u (record (s.books) { table = completed_first w items s.books.table; failures = s.books.failures + failing u })) h

calm-down : (s : State) (w : ℕ) → Calm s → Calm (after_effect s (NotStarted w))
calm-down s w c = calm-by s (after_effect s (NotStarted w)) refl refl (λ k. down-unstopped w s k) (λ v. shut-gone w v s.books.members) c

calm-input : (s : State) (e : Entry) → may_follow s e ≡ true → Calm s → Calm (after_effect s e)
calm-input s (Ready w) h c = calm-by s (after_effect s (Ready w)) refl refl (λ k. k) (λ v. has-same v (λ m. m.shut) (made_ready w) s.books.members (λ m. refl) (λ m. refl)) c
calm-input s (Collected w g) h c = calm-collected s w g c
calm-input s (Done w i u m o) h c = calm-by s (after_effect s (Done w i u m o)) refl refl (λ k. done-unstopped s w i u m o k) (λ v. refl) c
calm-input s (Back w is) h c = calm-by s (after_effect s (Back w is)) refl refl (λ k. k) (λ v. refl) c
calm-input s (Finished w) h c = calm-by s (after_effect s (Finished w)) refl refl (λ k. k) (λ v. shut-gone w v s.books.members) c
calm-input s (Refused w t) h c = calm-by s (after_effect s (Refused w t)) refl refl (unstopped-before s.books.stop (Some (CollectError w))) (λ v. shut-gone w v s.books.members) c
calm-input s (Down w r o) h c = calm-down s w c
calm-input s (NotStarted w) h c = calm-down s w c
calm-input s (Start w slot) h c = absurd (differ h)
calm-input s (Run w is) h c = absurd (differ h)
calm-input s (RunAll w) h c = absurd (differ h)
calm-input s (Steal w is) h c = absurd (differ h)
calm-input s (Shutdown w) h c = absurd (differ h)
calm-input s (Kill w) h c = absurd (differ h)
calm-input s (Over how) h c = absurd (differ h)

pub tidy-input : (s : State) (e : Entry) → may_follow s e ≡ true → Tidy s → Tidy (after_effect s e)
tidy-input s e h d = record { placed = placed-input s e h d.placed; members = members-input s e h d.members; calm = calm-input s e h d.calm }

-- nobody is told to shut down by what workers say
pub shut_as_before : (s : State) (w v : ℕ) (g : Ids) → has v (λ m. m.shut) (after_effect s (Collected w g)).books.members ≡ has v (λ m. m.shut) s.books.members
shut_as_before s w v g =
    let k = shut-collected w v s.books.members in
    collecting-keeps (λ (u : State). has v (λ m. m.shut) u.books.members ≡ has v (λ m. m.shut) s.books.members)
    (in_books (λ b. marked (made_collected w) (with_list w g b)) s) w (unequal w g (listed w s.books)) k k k (λ n. k)

-- a share is not taken back
pub still_shared : (s : State) (w : ℕ) (g : Ids) → s.books.shared ≡ true → (after_effect s (Collected w g)).books.shared ≡ true
still_shared s w g h = collecting-keeps (λ (u : State). u.books.shared ≡ true) (in_books (λ b. marked (made_collected w) (with_list w g b)) s) w (unequal w g (listed w s.books)) h h h (λ n. refl)

-- a collection that is not told to shut down and stops nothing brings its worker into the rota

pub some-stop : (a : Option RunStop) (how : RunStop) → is_some (or_stop a (Some how)) ≡ true
some-stop None how = refl
some-stop (Some first) how = refl

pub joins-by : (s : State) (w : ℕ) (stop : Option RunStop) → is_shut w s.books ≡ false → is_stopped (collecting w stop s).books ≡ false → collecting w stop s ≡ joining w s
joins-by s w (Some how) h k =
    let e : collecting w (Some how) s ≡ in_books (stopped_by (Some how)) s = rw h in
    absurd (differ (sym k ∙ ap (λ (u : State). is_stopped u.books) e ∙ some-stop s.books.stop how))
joins-by s w None h k = rw h

pub joins-rota : (s : State) (w : ℕ) → InRota (joining w s) w
joins-rota s w =
    let j = in_books (λ b. record b { table = joined w b.table }) s in
    let here : InRota j w = sym (seat-among w j.books.table.rota) ∙ seat-joined w s.books.table.rota (record { worker = w; held = []; shut = false }) ∙ grind (arith, nat_tests) in
    in_both (λ (u : State). InRota u w) (is_full j.books) (shared_now j) j (λ h. here) (λ h. here)

-- the pool has each item, in order
abbrev pub IsFull : State → Type 0
IsFull s = s.books.table.pool ≡ range_with_len 0 (total s.plan)

full-share : (s : State) → s.books.shared ≡ false → (share_where_full s).books.shared ≡ true → IsFull (share_where_full s)
full-share s n = in_both (λ (u : State). u.books.shared ≡ true → IsFull u) (is_full s.books) (shared_now s) s
    (λ h k. refl)
    (λ h k. absurd (differ (sym n ∙ k)))

pub full-joining : (s : State) (w : ℕ) → s.books.shared ≡ false → (joining w s).books.shared ≡ true → IsFull (joining w s)
full-joining s w n k = full-share (in_books (λ b. record b { table = joined w b.table }) s) n k

-- in mode each every slot has its number of tests
abbrev pub IsSized : State → Type 0
IsSized s = is_each s.plan.mode ≡ true → length s.plan.sizes ≡ s.books.settings.workers

length-sizes : (ls : List Listed) (slot n : ℕ) → length (sizes_from ls slot n) ≡ n
length-sizes ls slot zero = refl
length-sizes ls slot (suc n) = ap suc (length-sizes ls (slot + 1) n)

sized-by : (ls : List Listed) (n : ℕ) (b : Bool) → b ≡ true → length (sizes_from ls 0 (if b then n else 1)) ≡ n
sized-by ls n true h = length-sizes ls 0 n
sized-by ls n false h = absurd (differ h)

sized-share : (s : State) → s.books.shared ≡ false → (share_where_full s).books.shared ≡ true → IsSized (share_where_full s)
sized-share s n = in_both (λ (u : State). u.books.shared ≡ true → IsSized u) (is_full s.books) (shared_now s) s
    (λ h k e. sized-by s.books.lists s.books.settings.workers (is_each s.plan.mode) e)
    (λ h k. absurd (differ (sym n ∙ k)))

pub sized-joining : (s : State) (w : ℕ) → s.books.shared ≡ false → (joining w s).books.shared ≡ true → IsSized (joining w s)
sized-joining s w n k = sized-share (in_books (λ b. record b { table = joined w b.table }) s) n k
