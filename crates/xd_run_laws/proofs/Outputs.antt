-- What follows an input is in order.
use Rattle.std.proofs.Common.{◌≡◌, ℕ, ◌<◌, List, [], ◌∷◌, ◌++◌, length, true, false, not, ◌&&◌, refl, ap, sym, ◌∙◌, subst, arith, inl, inr}
use Rattle.std.specs.Prelude.{if◌then◌else◌}
use Rattle.std.specs.List.{list_any}
use Rattle.std.proofs.lemmas.Bool.Decides.{nat_tests}
use Rattle.xd_journal.specs.declared.entry.Ids.{Ids}
use Rattle.xd_journal.specs.declared.entry.Outcome.{Outcome}
use Rattle.xd_journal.specs.declared.entry.Entry.{Entry}
use Rattle.xd_journal.specs.declared.entry.Entry.TheVariants.{Ready, Collected, Done, Back, Finished, Refused, Down, NotStarted, Start, Run, RunAll, Steal, Shutdown, Kill, Over}
use Rattle.xd_run.specs.Numbers.{among, without}
use Rattle.xd_run.specs.Table.{Table, in_rota, workers_of}
use Rattle.xd_run.specs.Plan.{items_named}
use Rattle.xd_run.specs.Modes.ModeCall.{Share, Joined, TestDone, TestsBack, Died}
use Rattle.xd_run.specs.Books.{Books, marked}
use Rattle.xd_run.specs.Workers.{is_active, was_ready, is_shut, slot_of, made_ready, made_collected, made_gone}
use Rattle.xd_run.specs.Collections.{unequal, listed, with_list}
use Rattle.xd_run.specs.Stops.{is_stopped, is_shutting}
use Rattle.xd_run.specs.Sharing.{State, in_books, joining}
use Rattle.xd_run.specs.Results.{completed_first}
use Rattle.xd_run.specs.State.{is_handed_out, after_effect, after_entries, settles}
use Rattle.xd_run.specs.Outputs.{shut_all, acts_of, unless_stopped, slots_of_rota, outputs_of_joining, outputs_of_death, own_outputs, closing, outputs}
use Rattle.xd_run.specs.Proper.{may_follow, is_head}
use Rattle.xd_run.specs.Orderly.{is_orderly}
use Rattle.xd_run_laws.proofs.Logic.{or-left, or-right, split-or, differ, cases_of, split-and, not_true, in_both}
use Rattle.xd_run_laws.proofs.Rota.{seat-among, workers-change, seat-of_held}
use Rattle.xd_run_laws.proofs.Members.{is_member, has-member, has-same, has-set, has}
use Rattle.xd_run_laws.proofs.Placed.{shared-of_held, shared-of_back, one_item, head_among}
use Rattle.xd_run_laws.proofs.MembersFit.{IsFree, kin-same, free-gone}
use Rattle.xd_run_laws.proofs.Turns.{Tidy, Calm, MayShut, InRota, orderly-shutdown}
use Rattle.xd_run_laws.proofs.Rule.{Fit, IsFresh, Rule, fit-none, fit-first, fit-join, fit-start, fit-shutdown, fit-shut_all}
use Rattle.xd_run_laws.proofs.Inputs.{IsFull, IsSized, still_shared, shut_as_before, tidy-input, joins-by, joins-rota, full-joining, sized-joining}

unless-fit : (X : State → Type 0) → Rule X → (s : Books) (t : State) (es : List Entry) → Tidy t → X t → (is_stopped s ≡ false → is_stopped t.books ≡ false → Fit X t es) → Fit X t (unless_stopped s t.books es)
unless-fit X rule s t es d x f =
    in_both (λ (os : List Entry). Fit X t os) (is_stopped s) [] (if is_stopped t.books then shut_all t.books.members else es) (λ h. fit-none X t d x)
    (λ h. in_both (λ (os : List Entry). Fit X t os) (is_stopped t.books) (shut_all t.books.members) es (λ k. fit-shut_all X rule t (or-left (is_stopped t.books) t.books.shared k) d x) (f h))

-- a run that is shutting may tell workers so
may-shutting : (s : State) → Tidy s → is_shutting s.books ≡ true → MayShut s
may-shutting s d h = elim (split-or (is_stopped s.books) s.books.shutting h) [
  | inl k ↦ or-left (is_stopped s.books) s.books.shared k
  | inr k ↦ or-right (is_stopped s.books) s.books.shared (d.calm.late k)
]

-- a new worker that comes too late is shut down

ready-fit : (X : State → Type 0) → Rule X → (s : State) (w : ℕ) → may_follow s (Ready w) ≡ true → Tidy s → Tidy (after_effect s (Ready w)) → X (after_effect s (Ready w))
    → Fit X (after_effect s (Ready w)) (own_outputs s (Ready w) (after_effect s (Ready w)))
ready-fit X rule s w h d t x =
    let now = after_effect s (Ready w) in
    let ms = s.books.members in
    let p = split-and (is_active w s.books) (not (was_ready w s.books)) h in
    let not_shut : is_shut w s.books ≡ false = elim (cases_of (is_shut w s.books)) [ inl k ↦ absurd (differ (sym (not_true (was_ready w s.books) p.1) ∙ d.members.shut_ready w k)) | inr k ↦ k ] in
    let set : was_ready w now.books ≡ true = has-set w w (λ m. m.ready) (made_ready w) ms (λ m. refl) (λ m. refl) ∙ grind (arith, nat_tests, has-member w (λ m. m.active) ms p.0) in
    let one : is_orderly now (Shutdown w) ≡ true = orderly-shutdown now w (has-same w (λ m. m.active) (made_ready w) ms (λ m. refl) (λ m. refl) ∙ p.0) set
    (has-same w (λ m. m.shut) (made_ready w) ms (λ m. refl) (λ m. refl) ∙ not_shut) in
    in_both (λ (os : List Entry). Fit X now os) (is_shutting now.books) (Shutdown w ∷ []) []
    (λ k. fit-shutdown X now w [] one (may-shutting now t k) (λ u. fit-none X (after_effect now (Shutdown w)) u (rule.shutdown now w (may-shutting now t k) x)) t)
    (λ k. fit-none X now t x)

-- a worker joins, and the last one that was missing brings the share

joining-fit : (X : State → Type 0) → Rule X → (s t : State) (w : ℕ) → Tidy t → X t → InRota t w → is_shut w t.books ≡ false → (s.books.shared ≡ true → t.books.shared ≡ true) → (s.books.shared ≡ false → t.books.shared ≡ true → IsFresh t (slots_of_rota t.books))
    → Fit X t (outputs_of_joining w s.books t)
joining-fit X rule s t w d x rota unshut still fresh =
    let joined_ = acts_of (Joined w (slot_of w t.books)) t in
    let shared_ = acts_of (Share (slots_of_rota t.books)) t in
    in_both (λ (os : List Entry). Fit X t os) s.books.shared joined_ (if t.books.shared then shared_ else [])
    (λ h. (rule.turns t (Joined w (slot_of w t.books)) d (still h) x (record { rota = rota; slot_is = refl; unshut = sym (d.placed.fits.marks w (seat-among w t.books.table.rota ∙ rota)) ∙ unshut })).fit)
    (λ h. in_both (λ (os : List Entry). Fit X t os) t.books.shared shared_ [] (λ k. (rule.turns t (Share (slots_of_rota t.books)) d k x (fresh h k)).fit) (λ k. fit-none X t d x))

pub fresh-by : (s t : State) (w : ℕ) → t ≡ joining w s → ((v : ℕ) → has v (λ m. m.shut) t.books.members ≡ false) → s.books.shared ≡ false → t.books.shared ≡ true → IsFresh t (slots_of_rota t.books)
fresh-by s t w e unshut h k =
    let now : (joining w s).books.shared ≡ true = ap (λ (u : State). u.books.shared) (sym e) ∙ k in
    record { slots_are = refl; pool = subst IsFull (sym e) (full-joining s w h now); sizes = subst IsSized (sym e) (sized-joining s w h now); unshut = unshut }

-- who shares was told nothing before
pub unshut-collected : (s : State) (w : ℕ) (g : Ids) → Calm s → is_stopped s.books ≡ false → s.books.shared ≡ false → (v : ℕ) → has v (λ m. m.shut) (after_effect s (Collected w g)).books.members ≡ false
unshut-collected s w g c h k v = shut_as_before s w v g ∙ c.unshut h k v

collected-fit : (X : State → Type 0) → Rule X → (s : State) (w : ℕ) (g : Ids) → Tidy s → Tidy (after_effect s (Collected w g)) → X (after_effect s (Collected w g))
    → Fit X (after_effect s (Collected w g)) (own_outputs s (Collected w g) (after_effect s (Collected w g)))
collected-fit X rule s w g d t x =
    let now = after_effect s (Collected w g) in
    let before = in_books (λ b. marked (made_collected w) (with_list w g b)) s in
    let stop = unequal w g (listed w s.books) in
    let same : is_shut w before.books ≡ is_shut w s.books = has-same w (λ m. m.shut) (made_collected w) s.books.members (λ m. refl) (λ m. refl) in
    in_both (λ (os : List Entry). Fit X now os) (is_shut w s.books) [] (unless_stopped s.books now.books (outputs_of_joining w s.books now)) (λ h. fit-none X now t x)
    (λ h. unless-fit X rule s.books now (outputs_of_joining w s.books now) t x
    (λ unstopped k. (let e = joins-by before w stop (same ∙ h) k in
    joining-fit X rule s now w t x (subst (λ (u : State). InRota u w) (sym e) (joins-rota before w)) (shut_as_before s w w g ∙ h) (still_shared s w g)
    (λ n. fresh-by before now w e (unshut-collected s w g d.calm unstopped n) n))))

-- a test ends

pub workers-first : (w : ℕ) (items : List ℕ) (t : Table) → workers_of (completed_first w items t) ≡ workers_of t
workers-first w [] t = refl
workers-first w (i ∷ is) t = workers-change w (λ s. record s { held = without (i ∷ []) s.held }) t.rota (λ s. refl)

done-fit : (X : State → Type 0) → Rule X → (s : State) (w i : ℕ) (u : Outcome) (m : ℕ) (o : List ℕ) → may_follow s (Done w i u m o) ≡ true → Tidy s → Tidy (after_effect s (Done w i u m o)) → X (after_effect s (Done w i u m o))
    → Fit X (after_effect s (Done w i u m o)) (own_outputs s (Done w i u m o) (after_effect s (Done w i u m o)))
done-fit X rule s w i u m o h d t x =
    let now = after_effect s (Done w i u m o) in
    let items = items_named (slot_of w s.books) (i ∷ []) s.plan in
    let a = split-and (is_active w s.books) (list_any (λ item. is_head w item s) items) h in
    let one = one_item (slot_of w s.books) i s.plan (λ item. is_head w item s) a.1 in
    let holds = head_among w one.0 s one.2 in
    let rota : in_rota w s.books.table ≡ true = seat-of_held w s.books.table.rota one.0 holds in
    let still : InRota now w = ap (λ (ws : List ℕ). among w ws) (workers-first w items s.books.table) ∙ sym (seat-among w s.books.table.rota) ∙ rota in
    unless-fit X rule s.books now (acts_of (TestDone w m) now) t x (λ j k. (rule.turns now (TestDone w m) t (shared-of_held s w one.0 d.placed holds) x still).fit)

-- a worker goes, and another comes at its slot

death-fit : (X : State → Type 0) → Rule X → (s : State) (w : ℕ) → Tidy s → X s → IsFree (slot_of w s.books) s.books.members → slot_of w s.books < s.books.settings.workers → Fit X s (outputs_of_death w s)
death-fit X rule s w d x free low =
    let slot = slot_of w s.books in
    let new = Start (length s.books.members) slot in
    in_both (λ (es : List Entry). Fit X s (es ++ new ∷ [])) s.books.shared (acts_of Died s) []
    (λ h. (let t = rule.turns s Died d h x tt in fit-join X s (acts_of Died s) (new ∷ []) t.fit (fit-start X rule s (acts_of Died s) slot t free low)))
    (λ h. fit-start X rule s [] slot (record { fit = fit-none X s d x; kin = kin-same s.books.members; settings = refl }) free low)

down-fit : (X : State → Type 0) → Rule X → (s : State) (w : ℕ) → is_active w s.books ≡ true → Tidy s → Tidy (after_effect s (NotStarted w)) → X (after_effect s (NotStarted w))
    → Fit X (after_effect s (NotStarted w)) (unless_stopped s.books (after_effect s (NotStarted w)).books (outputs_of_death w (after_effect s (NotStarted w))))
down-fit X rule s w a d t x =
    let now = after_effect s (NotStarted w) in
    let ms = s.books.members in
    let member : is_member w now.books.members ≡ true = has-same w (λ m. true) (made_gone w) ms (λ m. refl) (λ m. refl) ∙ has-member w (λ m. m.active) ms a in
    unless-fit X rule s.books now (outputs_of_death w now) t x
    (λ j k. death-fit X rule now w t x (free-gone ms s.books.settings.workers w d.members a) (t.members.below w member))

-- the outputs of an input, where the state after it is tidy
pub own-fit : (X : State → Type 0) → Rule X → (s : State) (e : Entry) → may_follow s e ≡ true → Tidy s → Tidy (after_effect s e) → X (after_effect s e) → Fit X (after_effect s e) (own_outputs s e (after_effect s e))
own-fit X rule s (Ready w) h d t x = ready-fit X rule s w h d t x
own-fit X rule s (Collected w g) h d t x = collected-fit X rule s w g d t x
own-fit X rule s (Done w i u m o) h d t x = done-fit X rule s w i u m o h d t x
own-fit X rule s (Back w is) h d t x =
    let now = after_effect s (Back w is) in
    unless-fit X rule s.books now (acts_of TestsBack now) t x (λ j k. (rule.turns now TestsBack t (shared-of_back s w is d.placed h) x tt).fit)
own-fit X rule s (Finished w) h d t x = fit-none X (after_effect s (Finished w)) t x
own-fit X rule s (Refused w y) h d t x = unless-fit X rule s.books (after_effect s (Refused w y)) [] t x (λ j k. fit-none X (after_effect s (Refused w y)) t x)
own-fit X rule s (Down w c o) h d t x =
    let now = after_effect s (Down w c o) in
    fit-first X now (Kill w) (unless_stopped s.books now.books (outputs_of_death w now)) refl (down-fit X rule s w h d t x)
own-fit X rule s (NotStarted w) h d t x = down-fit X rule s w (split-and (is_active w s.books) (not (was_ready w s.books)) h).0 d t x
own-fit X rule s (Start w slot) h d t x = absurd (differ h)
own-fit X rule s (Run w is) h d t x = absurd (differ h)
own-fit X rule s (RunAll w) h d t x = absurd (differ h)
own-fit X rule s (Steal w is) h d t x = absurd (differ h)
own-fit X rule s (Shutdown w) h d t x = absurd (differ h)
own-fit X rule s (Kill w) h d t x = absurd (differ h)
own-fit X rule s (Over how) h d t x = absurd (differ h)

may-settles : (s : State) → settles s ≡ true → MayShut s
may-settles s h =
    let a = split-and (not (is_stopped s.books) && s.books.shared) (is_handed_out s.books.table s.plan) h in
    or-right (is_stopped s.books) s.books.shared (split-and (not (is_stopped s.books)) s.books.shared a.0).1

pub closing-fit : (X : State → Type 0) → Rule X → (s : State) → Tidy s → X s → Fit X s (closing s)
closing-fit X rule s d x = in_both (λ (es : List Entry). Fit X s es) (not (is_shutting s.books) && settles s) (shut_all s.books.members) [] (λ h. fit-shut_all X rule s (may-settles s (split-and (not (is_shutting s.books)) (settles s) h).1) d x) (λ h. fit-none X s d x)

-- all that follows an input
pub outputs-fit : (X : State → Type 0) → Rule X → (s : State) (e : Entry) → may_follow s e ≡ true → Tidy s → X s → Fit X (after_effect s e) (outputs s e)
outputs-fit X rule s e h d x =
    let now = after_effect s e in
    let own = own-fit X rule s e h d (tidy-input s e h d) (rule.input s e h d x) in
    fit-join X now (own_outputs s e now) (closing (after_entries now (own_outputs s e now))) own (closing-fit X rule (after_entries now (own_outputs s e now)) own.tidy own.also)
