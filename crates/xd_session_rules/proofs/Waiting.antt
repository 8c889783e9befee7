-- After a stop each active worker that was ready has been told to shut down.
use Rattle.std.proofs.Common.{◌≡◌, ℕ, zero, suc, ◌+◌, List, [], ◌∷◌, ◌++◌, map, Bool, true, false, not, ◌&&◌, ◌||◌, refl, ap, sym, ◌∙◌, arith, inl, inr}
use Rattle.std.specs.Prelude.{if◌then◌else◌, ◌==◌, filter, Option, Some, None}
use Rattle.std.specs.List.{list_any}
use Rattle.std.proofs.lemmas.Bool.Decides.{nat_tests}
use Rattle.xd_journal.specs.declared.settings.Settings.{Settings}
use Rattle.xd_journal.specs.declared.entry.RunStop.{RunStop}
use Rattle.xd_journal.specs.declared.entry.Ids.{Ids}
use Rattle.xd_journal.specs.declared.entry.Entry.{Entry}
use Rattle.xd_journal.specs.declared.entry.Entry.TheVariants.{Ready, Collected, Done, Back, Finished, Refused, Down, NotStarted, Start, Run, RunAll, Steal, Shutdown, Kill, Over}
use Rattle.xd_run.specs.declared.member.Member.{Member}
use Rattle.xd_run.specs.Books.{Books, marked}
use Rattle.xd_run.specs.Collections.{listed, unequal, with_list}
use Rattle.xd_run.specs.Histories.{after_starts, starts_from, after_inputs}
use Rattle.xd_run.specs.Modes.ModeCall.{TestDone, TestsBack}
use Rattle.xd_run.specs.Numbers.{all_distinct, among}
use Rattle.xd_run.specs.Orderly.{all_orderly, is_orderly, is_orderly_run}
use Rattle.xd_run.specs.Outputs.{acts_of, outputs_of_death, outputs_of_joining, closing, outputs, own_outputs, shut_all, after_input, unless_stopped}
use Rattle.xd_run.specs.Proper.{IsProper, all_may_follow, may_follow}
use Rattle.xd_run.specs.Sharing.{State, in_books}
use Rattle.xd_run.specs.Collecting.{collecting}
use Rattle.xd_run.specs.State.{after_entries, after_effect, no_one}
use Rattle.xd_run.specs.Stops.{is_shutting, is_stopped}
use Rattle.xd_run.specs.Workers.{is_shut, is_waiting, made_collected, made_gone, made_ready, made_shut, started}
use Rattle.xd_run_laws.proofs.Members.{has, has-cleared, has-more, has-same, numbers}
use Rattle.xd_run_laws.proofs.Inputs.{collecting-keeps}
use Rattle.xd_run_laws.proofs.Laws.{orderly}
use Rattle.xd_run_laws.proofs.Logic.{and-false, cases_of, differ, in_both, or-left, or-right, split-and, split-or}
use Rattle.xd_run_laws.proofs.Turns.{after_entries-first}

-- the worker is active, was ready and was not told to shut down
abbrev Waits : ℕ → List Member → Bool
Waits v ms = has v is_waiting ms

-- after a stop no one waits to be told
abbrev pub AllTold : State → Type 0
AllTold s = is_stopped s.books ≡ true → (v : ℕ) → Waits v s.books.members ≡ false

-- truth values

or-none : (a b : Bool) → (a || (b && false)) ≡ a
or-none true b = refl
or-none false true = refl
or-none false false = refl

and-both : (a b c : Bool) → (not b && (not a && c)) ≡ (not (a || b) && c)
and-both true b c = and-false (not b)
and-both false b c = refl

none-left : (a b : Bool) → (b ≡ true → a ≡ true) → (not a && b) ≡ false
none-left true b h = refl
none-left false true h = absurd (differ (h refl))
none-left false false h = refl

-- the marks change

shut-mark : (a r s b : Bool) → (a && r && not (s || b)) ≡ ((a && r && not s) && not b)
shut-mark true true true b = refl
shut-mark true true false b = refl
shut-mark true false s b = refl
shut-mark false r s b = refl

and-true : (b : Bool) → b ≡ (b && true)
and-true true = refl
and-true false = refl

gone-mark : (a r s b : Bool) → ((a && not b) && r && not s) ≡ ((a && r && not s) && not b)
gone-mark true r s true = sym (and-false (r && not s))
gone-mark true r s false = and-true (r && not s)
gone-mark false r s b = refl

waits-shut : (v w : ℕ) (ms : List Member) → Waits v (map (made_shut w) ms) ≡ (not (v == w) && Waits v ms)
waits-shut v w ms = has-cleared v w is_waiting (made_shut w) ms (λ m. refl) (λ m. shut-mark m.active m.ready m.shut (m.worker == w))

waits-gone : (v w : ℕ) (ms : List Member) → Waits v (map (made_gone w) ms) ≡ (not (v == w) && Waits v ms)
waits-gone v w ms = has-cleared v w is_waiting (made_gone w) ms (λ m. refl) (λ m. gone-mark m.active m.ready m.shut (m.worker == w))

waits-collected : (v w : ℕ) (ms : List Member) → Waits v (map (made_collected w) ms) ≡ Waits v ms
waits-collected v w ms = has-same v is_waiting (made_collected w) ms (λ m. refl) (λ m. refl)

waits-ready : (v w : ℕ) (ms : List Member) → (v == w) ≡ false → Waits v (map (made_ready w) ms) ≡ Waits v ms
waits-ready v w [] h = refl
waits-ready v w (m ∷ ms) h = grind (arith, nat_tests, waits-ready v w ms h, h)

waits-started : (v w slot : ℕ) (ms : List Member) → Waits v (ms ++ started w slot ∷ []) ≡ Waits v ms
waits-started v w slot ms = has-more v is_waiting ms (started w slot) ∙ or-none (Waits v ms) (w == v)

-- who is told

abbrev is_told : ℕ → Entry → Bool
is_told v (Shutdown w) = v == w
is_told v _ = false

abbrev told : ℕ → List Entry → Bool
told v es = list_any (is_told v) es

told-left : (v : ℕ) (es fs : List Entry) → told v es ≡ true → told v (es ++ fs) ≡ true
told-left v [] fs h = absurd (differ h)
told-left v (e ∷ es) fs h = elim (split-or (is_told v e) (told v es) h) [
  | inl a ↦ or-left (is_told v e) (told v (es ++ fs)) a
  | inr a ↦ or-right (is_told v e) (told v (es ++ fs)) (told-left v es fs a)
]

told-one : (v : ℕ) (m : Member) (ms : List Member) (b : Bool) → (Waits v ms ≡ true → told v (shut_all ms) ≡ true) → ((m.worker == v && b) || Waits v ms) ≡ true
    → told v (map (λ w. Shutdown w) (map (λ (x : Member). x.worker) (if b then m ∷ filter is_waiting ms else filter is_waiting ms))) ≡ true
told-one v m ms true k h = elim (split-or (m.worker == v && true) (Waits v ms) h) [
  | inl a ↦ or-left (v == m.worker) (told v (shut_all ms)) (let e = (split-and (m.worker == v) true a).0 in grind (arith, nat_tests, e))
  | inr a ↦ or-right (v == m.worker) (told v (shut_all ms)) (k a)
]
told-one v m ms false k h = elim (split-or (m.worker == v && false) (Waits v ms) h) [
  | inl a ↦ absurd (differ (split-and (m.worker == v) false a).1)
  | inr a ↦ k a
]

-- whoever waits is told where all are
told-all : (v : ℕ) (ms : List Member) → Waits v ms ≡ true → told v (shut_all ms) ≡ true
told-all v [] h = absurd (differ h)
told-all v (m ∷ ms) h = told-one v m ms (is_waiting m) (told-all v ms) h

-- outputs: no one begins to wait, and whoever is told waits no more

abbrev Leaves : State → (ℕ → Bool) → State → Type 0
Leaves s to t = (is_stopped t.books ≡ is_stopped s.books) × ((v : ℕ) → Waits v t.books.members ≡ (not (to v) && Waits v s.books.members))

leaves-output : (s : State) (e : Entry) → is_orderly s e ≡ true → Leaves s (λ v. is_told v e) (after_effect s e)
leaves-output s (Start w slot) h = (refl, λ v. waits-started v w slot s.books.members)
leaves-output s (Run w is) h = (refl, λ v. refl)
leaves-output s (RunAll w) h = (refl, λ v. refl)
leaves-output s (Steal w is) h = (refl, λ v. refl)
leaves-output s (Shutdown w) h = (refl, λ v. waits-shut v w s.books.members)
leaves-output s (Kill w) h = (refl, λ v. refl)
leaves-output s (Over how) h = (refl, λ v. refl)
leaves-output s (Ready w) h = absurd (differ h)
leaves-output s (Collected w g) h = absurd (differ h)
leaves-output s (Done w i u m o) h = absurd (differ h)
leaves-output s (Back w i) h = absurd (differ h)
leaves-output s (Finished w) h = absurd (differ h)
leaves-output s (Refused w t) h = absurd (differ h)
leaves-output s (Down w c o) h = absurd (differ h)
leaves-output s (NotStarted w) h = absurd (differ h)

leaves-outputs : (s : State) (es : List Entry) → all_orderly s es ≡ true → Leaves s (λ v. told v es) (after_entries s es)
leaves-outputs s [] h = (refl, λ v. refl)
leaves-outputs s (e ∷ es) h =
    let p = split-and (is_orderly s e) (all_orderly (after_effect s e) es) h in
    let one = leaves-output s e p.0 in
    let rest = leaves-outputs (after_effect s e) es p.1 in
    let first = after_entries-first s e es p.0 in (
      ap (λ (u : State). is_stopped u.books) first ∙ rest.0 ∙ one.0,
      λ v. ap (λ (u : State). Waits v u.books.members) first ∙ rest.1 v ∙ ap (λ b. not (told v es) && b) (one.1 v) ∙ and-both (is_told v e) (told v es) (Waits v s.books.members),
    )

-- an input: after a stop its own outputs tell whoever waits

abbrev NoneWaits : List Member → Type 0
NoneWaits ms = (v : ℕ) → Waits v ms ≡ false

unless-told : (s t : Books) (outs : List Entry) → (is_stopped s ≡ true → NoneWaits t.members) → is_stopped t ≡ true → (v : ℕ) → Waits v t.members ≡ true → told v (unless_stopped s t outs) ≡ true
unless-told s t outs k h v x =
    in_both (λ (os : List Entry). told v os ≡ true) (is_stopped s) [] (if is_stopped t then shut_all t.members else outs) (λ a. absurd (differ (sym (k a v) ∙ x)))
    (λ a. in_both (λ (os : List Entry). told v os ≡ true) (is_stopped t) (shut_all t.members) outs (λ b. told-all v t.members x) (λ b. absurd (differ (sym b ∙ h))))

none-gone : (w : ℕ) (ms : List Member) → NoneWaits ms → NoneWaits (map (made_gone w) ms)
none-gone w ms k = λ v. waits-gone v w ms ∙ ap (λ b. not (v == w) && b) (k v) ∙ and-false (not (v == w))

told-ready : (v w : ℕ) (ms : List Member) → NoneWaits ms → Waits v (map (made_ready w) ms) ≡ true → told v (Shutdown w ∷ []) ≡ true
told-ready v w ms k x = elim (cases_of (v == w)) [
  | inl e ↦ or-left (v == w) false e
  | inr e ↦ absurd (differ (sym (waits-ready v w ms e ∙ k v) ∙ x))
]

shut-stays : (w : ℕ) (how : Option RunStop) (s : State) → is_shut w s.books ≡ true → collecting w how s ≡ s
shut-stays w (Some how) s h = rw h
shut-stays w None s h = rw h

told-collected : (s : State) (w : ℕ) (g : Ids) → AllTold s → is_stopped (after_effect s (Collected w g)).books ≡ true → (v : ℕ) → Waits v (after_effect s (Collected w g)).books.members ≡ true
    → told v (own_outputs s (Collected w g) (after_effect s (Collected w g))) ≡ true
told-collected s w g k h v x =
    let now = after_effect s (Collected w g) in
    let ms = s.books.members in
    let before = in_books (λ b. marked (made_collected w) (with_list w g b)) s in
    let stop = unequal w g (listed w s.books) in
    let members : now.books.members ≡ map (made_collected w) ms = collecting-keeps (λ (u : State). u.books.members ≡ map (made_collected w) ms) before w stop refl refl refl (λ n. refl) in
    let none : is_stopped s.books ≡ true → NoneWaits now.books.members = λ a u. ap (λ (ns : List Member). Waits u ns) members ∙ waits-collected u w ms ∙ k a u in
    let same : is_shut w before.books ≡ is_shut w s.books = has-same w (λ m. m.shut) (made_collected w) ms (λ m. refl) (λ m. refl) in
    in_both (λ (os : List Entry). told v os ≡ true) (is_shut w s.books) [] (unless_stopped s.books now.books (outputs_of_joining w s.books now))
    (λ a. absurd (differ (sym (none (ap (λ (u : State). is_stopped u.books) (sym (shut-stays w stop before (same ∙ a))) ∙ h) v) ∙ x)))
    (λ a. unless-told s.books now.books (outputs_of_joining w s.books now) none h v x)

told-input : (s : State) (e : Entry) → may_follow s e ≡ true → AllTold s → is_stopped (after_effect s e).books ≡ true → (v : ℕ) → Waits v (after_effect s e).books.members ≡ true → told v (own_outputs s e (after_effect s e)) ≡ true
told-input s (Ready w) a k h v x =
    let now = after_effect s (Ready w) in
    in_both (λ (os : List Entry). told v os ≡ true) (is_shutting now.books) (Shutdown w ∷ []) [] (λ b. told-ready v w s.books.members (k h) x)
    (λ b. absurd (differ (sym b ∙ or-left (is_stopped now.books) now.books.shutting h)))
told-input s (Collected w g) a k h v x = told-collected s w g k h v x
told-input s (Done w i u m o) a k h v x = (let now = after_effect s (Done w i u m o) in unless-told s.books now.books (acts_of (TestDone w m) now) k h v x)
told-input s (Back w is) a k h v x = (let now = after_effect s (Back w is) in unless-told s.books now.books (acts_of TestsBack now) k h v x)
told-input s (Finished w) a k h v x = absurd (differ (sym (none-gone w s.books.members (k h) v) ∙ x))
told-input s (Refused w t) a k h v x = unless-told s.books (after_effect s (Refused w t)).books [] (λ b. none-gone w s.books.members (k b)) h v x
told-input s (Down w c o) a k h v x = (let now = after_effect s (Down w c o) in unless-told s.books now.books (outputs_of_death w now) (λ b. none-gone w s.books.members (k b)) h v x)
told-input s (NotStarted w) a k h v x = (let now = after_effect s (NotStarted w) in unless-told s.books now.books (outputs_of_death w now) (λ b. none-gone w s.books.members (k b)) h v x)
told-input s (Start w slot) a k h v x = absurd (differ a)
told-input s (Run w is) a k h v x = absurd (differ a)
told-input s (RunAll w) a k h v x = absurd (differ a)
told-input s (Steal w is) a k h v x = absurd (differ a)
told-input s (Shutdown w) a k h v x = absurd (differ a)
told-input s (Kill w) a k h v x = absurd (differ a)
told-input s (Over how) a k h v x = absurd (differ a)

-- runs

told-after_input : (s : State) (e : Entry) → may_follow s e ≡ true → all_orderly (after_effect s e) (outputs s e) ≡ true → AllTold s → AllTold (after_input s e)
told-after_input s e a d k =
    let now = after_effect s e in
    let own = own_outputs s e now in
    let r = leaves-outputs now (outputs s e) d in
    λ h v. r.1 v ∙ none-left (told v (outputs s e)) (Waits v now.books.members) (λ x. told-left v own (closing (after_entries now own)) (told-input s e a k (sym r.0 ∙ h) v x))

told-run : (s : State) (ins : List Entry) → all_may_follow s ins ≡ true → is_orderly_run s ins ≡ true → AllTold s → AllTold (after_inputs s ins)
told-run s [] h d k = k
told-run s (e ∷ ins) h d k =
    let p = split-and (may_follow s e) (all_may_follow (after_input s e) ins) h in
    let q = split-and (all_orderly (after_effect s e) (outputs s e)) (is_orderly_run (after_input s e) ins) d in
    told-run (after_input s e) ins p.1 q.1 (told-after_input s e p.0 q.0 k)

starts-stop : (s : State) (w n : ℕ) → is_stopped (after_entries s (starts_from w n)).books ≡ is_stopped s.books
starts-stop s w zero = refl
starts-stop s w (suc n) = starts-stop (after_effect s (Start w w)) (w + 1) n

pub told-following : (settings : Settings) (ins : List Entry) → IsProper settings ins → AllTold (after_inputs (after_starts settings) ins)
told-following settings ins p = told-run (after_starts settings) ins p.follow (orderly settings ins p) (λ a. absurd (differ (sym (starts-stop (no_one settings) 0 settings.workers) ∙ a)))

-- one worker

member-among : (w : ℕ) (test : Member → Bool) (ms : List Member) → has w test ms ≡ true → among w (numbers ms) ≡ true
member-among w test [] h = absurd (differ h)
member-among w test (m ∷ ms) h = grind (arith, nat_tests, member-among w test ms)

not_among : (w : ℕ) (test : Member → Bool) (ms : List Member) → among w (numbers ms) ≡ false → has w test ms ≡ false
not_among w test ms h = elim (cases_of (has w test ms)) [
  | inl k ↦ absurd (differ (sym h ∙ member-among w test ms k))
  | inr k ↦ k
]

mark-here : (a r s : Bool) → a ≡ true → r ≡ true → (a && r && not s) ≡ false → s ≡ true
mark-here true true true a r h = refl
mark-here true true false a r h = absurd (differ (sym h))
mark-here true false s a r h = absurd (differ r)
mark-here false r s a b h = absurd (differ a)

-- an active worker that was ready and does not wait was told
pub shut-where : (w : ℕ) (ms : List Member) → all_distinct (numbers ms) ≡ true → has w (λ m. m.active) ms ≡ true → has w (λ m. m.ready) ms ≡ true → Waits w ms ≡ false → has w (λ m. m.shut) ms ≡ true
shut-where w [] d a r n = absurd (differ a)
shut-where w (m ∷ ms) d a r n = grind (arith, nat_tests, not_among w (λ m. m.active) ms, not_among w (λ m. m.ready) ms, shut-where w ms, mark-here m.active m.ready m.shut, d, a, r, n)
