-- What news make of a run: its inputs are proper, and its state is the one after its journal.
use Rattle.std.proofs.Common.{◌≡◌, ℕ, List, [], ◌∷◌, ◌++◌, Bool, true, false, not, ◌&&◌, Option, Some, None, refl, ap, sym, ◌∙◌, subst, arith, inl, inr}
use Rattle.std.specs.Prelude.{◌==◌, fold, is_none, if◌then◌else◌}
use Rattle.std.proofs.lemmas.Bool.Decides.{nat_tests}
use Rattle.std.proofs.lemmas.Grind.{fold-append}
use Rattle.xd_edge.specs.declared.mode.ModeKind.{ModeKind}
use Rattle.xd_edge.specs.declared.mode.ModeKind.TheVariants.{Local, Each, Load, LoadScope, LoadFile, LoadGroup, WorkSteal}
use Rattle.xd_journal.specs.declared.settings.Settings.{Settings}
use Rattle.xd_journal.specs.declared.news.News.{News}
use Rattle.xd_journal.specs.declared.news.What.{What}
use Rattle.xd_journal.specs.declared.news.What.TheVariants as what
use Rattle.xd_journal.specs.declared.entry.Ids.{Ids}
use Rattle.xd_journal.specs.declared.entry.Ids.TheVariants as ids
use Rattle.xd_journal.specs.declared.entry.Entry.{Entry}
use Rattle.xd_journal.specs.declared.entry.Entry.TheVariants.{Ready, Collected, Done, Back, Finished, Refused, Down, NotStarted}
use Rattle.xd_run.specs.declared.member.Listed.{Listed}
use Rattle.xd_run.specs.Plan.{is_scope}
use Rattle.xd_run.specs.Workers.{is_active}
use Rattle.xd_run.specs.Collections.{listed, differ_at}
use Rattle.xd_run.specs.Sharing.{State}
use Rattle.xd_run.specs.State.{settled, after_effect, after_entries, no_one, state_at}
use Rattle.xd_run.specs.Outputs.{outputs, after_input}
use Rattle.xd_run.specs.Histories.{after_starts, after_inputs}
use Rattle.xd_run.specs.Proper.{IsProper, may_follow, all_may_follow, names_head, has_workers}
use Rattle.xd_run.specs.Orderly.{all_orderly}
use Rattle.xd_run.specs.Meaning.{Log, log_of, spent_by, is_of, any_open, output_of, given_ids, breach, or_breach, silent_or_breach, meaning_of}
use Rattle.xd_session.specs.History.{Run as TheRun, begun_run, after_news, input_of, run_of, said_by, entries_with, state_with, inputs_with}
use Rattle.xd_run_laws.proofs.Logic.{differ, split-and, and, in_both, cases_of}
use Rattle.xd_run_laws.proofs.Turns.{Tidy}
use Rattle.xd_run_laws.proofs.Rule.{Rule}
use Rattle.xd_run_laws.proofs.Outputs.{outputs-fit}
use Rattle.xd_run_laws.proofs.Runs.{begun-holds, all-hold}
use Rattle.xd_run_laws.proofs.Walk.{input-of}
use Rattle.xd_run_laws.proofs.InMode.{InMode}
use Rattle.xd_run_laws.proofs.LoadRule.{load_rule}
use Rattle.xd_run_laws.proofs.StealRule.{steal_rule}
use Rattle.xd_run_laws.proofs.EachRule.{each_rule}
use Rattle.xd_run_laws.proofs.ScopeInputs.{Scoped}
use Rattle.xd_run_laws.proofs.ScopeRule.{scope_rule, scoped-none}
use Rattle.xd_session_rules.proofs.Closing.{state-grown}
use Rattle.xd_journal.specs.Said.{is_ready, is_end}

-- the worker leaves by this entry
abbrev pub leaves : ℕ → Entry → Bool
leaves worker (Finished w) = w == worker
leaves worker (Refused w text) = w == worker
leaves worker (Down w cause output) = w == worker
leaves worker (NotStarted w) = w == worker
leaves worker _ = false

abbrev pub readies : ℕ → Entry → Bool
readies worker (Ready w) = w == worker
readies worker _ = false

-- what is known of the input that a piece of news means
pub record Meant (s : State) (w : ℕ) (n : What) (e : Entry) : Type 0 where
  pub follow : may_follow s e ≡ true
  pub left : is_end n ≡ true → leaves w e ≡ true
  pub ready : (v : ℕ) → readies v e ≡ true → (is_ready n ≡ true) × (w == v) ≡ true

abbrev pub Means : State → ℕ → What → Option Entry → Type 0
Means s w n None = (is_end n ≡ false) × (is_ready n ≡ false)
Means s w n (Some e) = Meant s w n e

-- the meaning of each piece of news

same_number : (w : ℕ) → (w == w) ≡ true
same_number w = grind (arith, nat_tests)

means-down : (s : State) (w : ℕ) (n : What) (cause : _) (output : List ℕ) → is_active w s.books ≡ true → Meant s w n (Down w cause output)
means-down s w n cause output a = record { follow = a; left = λ h. same_number w; ready = λ v h. absurd (differ h) }

module _ (w : ℕ) (log : Option Log) (spent : ℕ) (s : State) (a : is_active w s.books ≡ true) where
  means-breach : (n : What) → Means s w n (Some (breach w log spent s))
  means-breach n = record { follow = a; left = λ h. same_number w; ready = λ v h. absurd (differ h) }

  means-or : (n : What) (e : Entry) → (may_follow s e ≡ true → Meant s w n e) → Means s w n (or_breach w log spent s e)
  means-or n e k = in_both (Means s w n) (may_follow s e) (Some e) (Some (breach w log spent s)) k (λ h. means-breach n)

  means-silent : (n : What) (fine : Bool) → is_end n ≡ false → is_ready n ≡ false → Means s w n (silent_or_breach fine w log spent s)
  means-silent n fine b c = in_both (Means s w n) fine None (Some (breach w log spent s)) (λ h. (b, c)) (λ h. means-breach n)

  -- an input that is neither
  plain_input : (n : What) (e : Entry) → is_end n ≡ false → ((v : ℕ) → readies v e ≡ false) → may_follow s e ≡ true → Meant s w n e
  plain_input n e b c h = record { follow = h; left = λ k. absurd (differ (sym b ∙ k)); ready = λ v k. absurd (differ (sym (c v) ∙ k)) }

  given-collected : (own : List (List ℕ)) (l : Option Listed) → (g : Ids) × ((elim l as (λ _. Entry) [
    | None ↦ Collected w (ids.List own)
    | Some k ↦ (if is_none (differ_at k.ids own) then Collected w ids.Same else Collected w (ids.List own))
  ]) ≡ Collected w g)
  given-collected own None = (ids.List own, refl)
  given-collected own (Some k) = elim (cases_of (is_none (differ_at k.ids own))) [
    | inl h ↦ (ids.Same, ap (λ (b : Bool). if b then Collected w ids.Same else Collected w (ids.List own)) h)
    | inr h ↦ (ids.List own, ap (λ (b : Bool). if b then Collected w ids.Same else Collected w (ids.List own)) h)
  ]

  means-collected : (own : List (List ℕ)) (e : Entry) (g : Ids) → e ≡ Collected w g → may_follow s e ≡ true → Meant s w (what.Collected own) e
  means-collected own e g is h = subst (λ (x : Entry). Meant s w (what.Collected own) x) (sym is) (plain_input (what.Collected own) (Collected w g) refl (λ v. refl) (ap (may_follow s) (sym is) ∙ h))

  means : (n : What) → Means s w n (meaning_of w log spent s n)
  means what.Ready = means-or what.Ready (Ready w) (λ h. record { follow = h; left = λ k. absurd (differ k); ready = λ v k. (refl, k) })
  means (what.Collected own) = (let g = given-collected own (listed w s.books) in means-or (what.Collected own) (given_ids w own s) (λ h. means-collected own (given_ids w own s) g.0 g.1 h))
  means (what.LogStart index number) = means-silent (what.LogStart index number) _ refl refl
  means (what.Piece number bytes) = means-silent (what.Piece number bytes) _ refl refl
  means (what.LogClosed number) = means-silent (what.LogClosed number) _ refl refl
  means (what.Done index outcome ms) =
      in_both (Means s w (what.Done index outcome ms)) (names_head w index s && is_of index log && not (any_open log)) (Some (Done w index outcome ms (output_of w outcome log spent s))) (Some (breach w log spent s))
      (λ h. plain_input (what.Done index outcome ms) (Done w index outcome ms (output_of w outcome log spent s)) refl (λ v. refl)
      (and a (split-and (names_head w index s) (is_of index log) (split-and (names_head w index s && is_of index log) (not (any_open log)) h).0).0))
      (λ h. means-breach (what.Done index outcome ms))
  means (what.Back indices) = means-or (what.Back indices) (Back w indices) (λ h. plain_input (what.Back indices) (Back w indices) refl (λ v. refl) h)
  means what.Finished = means-or what.Finished (Finished w) (λ h. record { follow = h; left = λ k. same_number w; ready = λ v k. absurd (differ k) })
  means (what.Closed None) = means-breach (what.Closed None)
  means (what.Closed (Some text)) = means-or (what.Closed (Some text)) (Refused w text) (λ h. record { follow = h; left = λ k. same_number w; ready = λ v k. absurd (differ k) })
  means what.Stray = means-breach what.Stray
  means (what.Gone cause) = record { follow = a; left = λ h. same_number w; ready = λ v h. absurd (differ h) }
  means what.NotStarted = means-or what.NotStarted (NotStarted w) (λ h. record { follow = h; left = λ k. same_number w; ready = λ v k. absurd (differ k) })

-- the news of an active worker mean nothing, or an input that may follow
pub input-means : (r : TheRun) (n : News) → is_active n.worker r.state.books ≡ true → Means r.state n.worker n.what (input_of r n)
input-means r n a = subst (Means r.state n.worker n.what) (sym (ap (λ (b : Bool). if b then meaning_of n.worker (log_of (said_by n.worker r.taken)) (spent_by r.entries) r.state n.what else None) a))
    (means n.worker (log_of (said_by n.worker r.taken)) (spent_by r.entries) r.state a n.what)

pub input-none : (r : TheRun) (n : News) → is_active n.worker r.state.books ≡ false → input_of r n ≡ None
input-none r n a = ap (λ (b : Bool). if b then meaning_of n.worker (log_of (said_by n.worker r.taken)) (spent_by r.entries) r.state n.what else None) a

-- a run so far

pub record InRun (settings : Settings) (r : TheRun) : Type 0 where
  pub proper : IsProper settings r.inputs
  pub state : r.state ≡ after_inputs (after_starts settings) r.inputs
  pub following : state_at settings r.entries ≡ r.state

follow-more : (s : State) (es : List Entry) (e : Entry) → all_may_follow s es ≡ true → may_follow (after_inputs s es) e ≡ true → all_may_follow s (es ++ e ∷ []) ≡ true
follow-more s [] e a b = and b refl
follow-more s (x ∷ xs) e a b = (let p = split-and (may_follow s x) (all_may_follow (after_input s x) xs) a in and p.0 (follow-more (after_input s x) xs e p.1 b))

after_input-more : (s : State) (es : List Entry) (e : Entry) → after_inputs s (es ++ e ∷ []) ≡ after_input (after_inputs s es) e
after_input-more s [] e = refl
after_input-more s (x ∷ xs) e = after_input-more (after_input s x) xs e

pub state-more : (settings : Settings) (es : List Entry) (e : Entry) (outs : List Entry) → may_follow (state_at settings es) e ≡ true → state_at settings (es ++ e ∷ outs) ≡ settled (after_entries (after_effect (state_at settings es) e) outs)
state-more settings es e outs h = state-grown settings es outs e (input-of (state_at settings es) e h)

-- the run with an input, or none
run_with : TheRun → News → Option Entry → TheRun
run_with r n o = record { entries = entries_with o r.entries r.state; state = state_with o r.state; inputs = inputs_with o r.inputs; taken = r.taken ++ n ∷ [] }

abbrev pub Follows : State → Option Entry → Type 0
Follows s None = Unit {0}
Follows s (Some e) = may_follow s e ≡ true

in_run-with : (settings : Settings) (r : TheRun) (n : News) (o : Option Entry) → InRun settings r → Follows r.state o
    → InRun settings (record { entries = entries_with o r.entries r.state; state = state_with o r.state; inputs = inputs_with o r.inputs; taken = r.taken ++ n ∷ [] })
in_run-with settings r n None i h = record { proper = i.proper; state = i.state; following = i.following }
in_run-with settings r n (Some e) i h = record {
  proper = record {
    mode = i.proper.mode;
    some_worker = i.proper.some_worker;
    few_workers = i.proper.few_workers;
    few_restarts = i.proper.few_restarts;
    follow = follow-more (after_starts settings) r.inputs e i.proper.follow (ap (λ (s : State). may_follow s e) (sym i.state) ∙ h);
  };
  state = ap (λ (s : State). after_input s e) i.state ∙ sym (after_input-more (after_starts settings) r.inputs e);
  following = state-more settings r.entries e (outputs r.state e) (ap (λ (s : State). may_follow s e) i.following ∙ h) ∙ ap (λ (s : State). settled (after_entries (after_effect s e) (outputs r.state e))) i.following;
}

means-follows : (s : State) (w : ℕ) (n : What) (o : Option Entry) → Means s w n o → Follows s o
means-follows s w n None m = tt
means-follows s w n (Some e) m = m.follow

pub input-follows : (r : TheRun) (n : News) → Follows r.state (input_of r n)
input-follows r n = elim (cases_of (is_active n.worker r.state.books)) [
  | inl a ↦ means-follows r.state n.worker n.what (input_of r n) (input-means r n a)
  | inr a ↦ subst (Follows r.state) (sym (input-none r n a)) tt
]

pub in_run-next : (settings : Settings) (r : TheRun) (n : News) → InRun settings r → InRun settings (after_news r n)
in_run-next settings r n i = in_run-with settings r n (input_of r n) i (input-follows r n)

in_run-all : (settings : Settings) (taken : List News) (r : TheRun) → InRun settings r → InRun settings (fold after_news r taken)
in_run-all settings [] r i = i
in_run-all settings (n ∷ ns) r i = in_run-all settings ns (after_news r n) (in_run-next settings r n i)

-- whatever the news, they make such a run
pub in_run : (settings : Settings) → IsProper settings [] → (taken : List News) → InRun settings (run_of settings taken)
in_run settings p taken = in_run-all settings taken (begun_run settings) (record { proper = p; state = refl; following = refl })

pub run-more : (settings : Settings) (taken : List News) (n : News) → run_of settings (taken ++ n ∷ []) ≡ after_news (run_of settings taken) n
run-more settings taken n = fold-append after_news (begun_run settings) taken (n ∷ [])

-- the laws, at one input

pub record Lawful (s : State) (e : Entry) : Type 0 where
  pub tidy : Tidy s
  pub orderly : all_orderly (after_effect s e) (outputs s e) ≡ true

by_rule : (X : State → Type 0) → Rule X → (settings : Settings) (inputs : List Entry) (e : Entry) → X (no_one settings) → IsProper settings inputs → may_follow (after_inputs (after_starts settings) inputs) e ≡ true
    → Lawful (after_inputs (after_starts settings) inputs) e
by_rule X rule settings inputs e x p h =
    let b = begun-holds X rule settings x in
    let all = all-hold X rule (after_starts settings) inputs p.follow b in
    record { tidy = all.tidy; orderly = (outputs-fit X rule (after_inputs (after_starts settings) inputs) e h all.tidy all.also).orderly }

by_mode : (k : ModeKind) (settings : Settings) (inputs : List Entry) (e : Entry) → settings.mode ≡ k → IsProper settings inputs → may_follow (after_inputs (after_starts settings) inputs) e ≡ true
    → Lawful (after_inputs (after_starts settings) inputs) e
by_mode Local settings inputs e m p h = absurd (differ (ap has_workers (sym m) ∙ p.mode))
by_mode Each settings inputs e m p h = by_rule (InMode Each) each_rule settings inputs e m p h
by_mode Load settings inputs e m p h = by_rule (InMode Load) load_rule settings inputs e m p h
by_mode LoadScope settings inputs e m p h = by_rule Scoped scope_rule settings inputs e (scoped-none settings (ap is_scope m)) p h
by_mode LoadFile settings inputs e m p h = by_rule Scoped scope_rule settings inputs e (scoped-none settings (ap is_scope m)) p h
by_mode LoadGroup settings inputs e m p h = by_rule Scoped scope_rule settings inputs e (scoped-none settings (ap is_scope m)) p h
by_mode WorkSteal settings inputs e m p h = by_rule (InMode WorkSteal) steal_rule settings inputs e m p h

pub lawful : (settings : Settings) (r : TheRun) (e : Entry) → InRun settings r → may_follow r.state e ≡ true → Lawful r.state e
lawful settings r e i h = subst (λ (s : State). Lawful s e) (sym i.state) (by_mode settings.mode settings r.inputs e refl i.proper (ap (λ (s : State). may_follow s e) (sym i.state) ∙ h))

tidy-rule : (X : State → Type 0) → Rule X → (settings : Settings) (inputs : List Entry) → X (no_one settings) → IsProper settings inputs → Tidy (after_inputs (after_starts settings) inputs)
tidy-rule X rule settings inputs x p = (all-hold X rule (after_starts settings) inputs p.follow (begun-holds X rule settings x)).tidy

tidy-mode : (k : ModeKind) (settings : Settings) (inputs : List Entry) → settings.mode ≡ k → IsProper settings inputs → Tidy (after_inputs (after_starts settings) inputs)
tidy-mode Local settings inputs m p = absurd (differ (ap has_workers (sym m) ∙ p.mode))
tidy-mode Each settings inputs m p = tidy-rule (InMode Each) each_rule settings inputs m p
tidy-mode Load settings inputs m p = tidy-rule (InMode Load) load_rule settings inputs m p
tidy-mode LoadScope settings inputs m p = tidy-rule Scoped scope_rule settings inputs (scoped-none settings (ap is_scope m)) p
tidy-mode LoadFile settings inputs m p = tidy-rule Scoped scope_rule settings inputs (scoped-none settings (ap is_scope m)) p
tidy-mode LoadGroup settings inputs m p = tidy-rule Scoped scope_rule settings inputs (scoped-none settings (ap is_scope m)) p
tidy-mode WorkSteal settings inputs m p = tidy-rule (InMode WorkSteal) steal_rule settings inputs m p

pub tidy : (settings : Settings) → IsProper settings [] → (taken : List News) → Tidy (run_of settings taken).state
tidy settings p taken = (let i = in_run settings p taken in subst Tidy (sym i.state) (tidy-mode settings.mode settings (run_of settings taken).inputs refl i.proper))
