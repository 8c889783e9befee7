-- What is known where a worker may finish, and where it gives its collection.
use Rattle.std.proofs.Common.{[], ◌≡◌, ℕ, List, ap, sym, subst, ◌∙◌, true, false, inl, inr, ◌≤◌, length, not, ◌&&◌, arith}
use Rattle.std.proofs.lemmas.Bool.Decides.{nat_tests}
use Rattle.std.specs.List.{list_all}
use Rattle.std.specs.Prelude.{◌==◌, nat_le}
use Rattle.xd_edge.specs.Ids.{is_id}
use Rattle.xd_edge.specs.Limits.{most_tests}
use Rattle.xd_journal.specs.declared.entry.Entry.TheVariants.{Collected, Finished}
use Rattle.xd_journal.specs.declared.entry.Ids.{Ids}
use Rattle.xd_run.specs.Books.{Books}
use Rattle.xd_run.specs.Meaning.{given_ids}
use Rattle.xd_run.specs.Plan.{Plan, total}
use Rattle.xd_run.specs.Proper.{are_ids, may_follow, no_text_twice}
use Rattle.xd_run.specs.Sharing.{State}
use Rattle.xd_run.specs.Stops.{is_stopped}
use Rattle.xd_run.specs.Table.{all_items, has_joined, held}
use Rattle.xd_run.specs.Workers.{has_collected, is_active, is_shut, was_ready}
use Rattle.xd_run_laws.proofs.Calls.{tidy-reached}
use Rattle.xd_run_laws.proofs.Counts.{empty-of_times}
use Rattle.xd_run_laws.proofs.Logic.{and, not_true, split-and, cases_of, differ}
use Rattle.xd_run_laws.proofs.Members.{distinct-numbered}
use Rattle.xd_run_laws.proofs.Placed.{due_times, empty_of}
use Rattle.xd_run_laws.proofs.Turns.{Tidy}
use Rattle.xd_session_books.specs.Known.{Known}
use Rattle.xd_session_rules.proofs.Disorder.{in_order, orderly-collection}
use Rattle.xd_session_rules.proofs.Shares.{given-is}
use Rattle.xd_session_rules.specs.Joining.{IsBare, IsToJoin}
use Rattle.xd_session_rules.specs.Rules.{At}
use Rattle.xd_run_laws.specs.Called.{Reached}
use Rattle.xd_session_rules.proofs.Joins.{AllCollected, joins-following}
use Rattle.xd_session_rules.proofs.Waiting.{AllTold, shut-where, told-following}

-- whoever ends holds nothing
pub finished-idle : (w : ℕ) (s : State) (b : Books) (k : Known) (st : Plan → Type 0) → At s b k st → may_follow s (Finished w) ≡ true → held w b.table ≡ []
finished-idle w s b k st a h =
    ap (λ (d : Books). held w d.table) a.books_are
    ∙ empty_of (held w s.books.table) (split-and (is_active w s.books && is_shut w s.books && has_collected w s.books) (length (held w s.books.table) == 0) h).1

-- what is known of a collection that may follow
pub record Orderly (w : ℕ) (own : List (List ℕ)) (b : Books) : Type 0 where
  pub few : length own ≤ most_tests
  pub ordered : (list_all is_id own && no_text_twice own) ≡ true
  pub uncollected : has_collected w b ≡ false
  pub ready : was_ready w b ≡ true

collection-by : (w : ℕ) (own : List (List ℕ)) (s : State) (g : Ids) → given_ids w own s ≡ Collected w g → may_follow s (given_ids w own s) ≡ true → in_order own ≡ true → Orderly w own s.books
collection-by w own s g e h k =
    let a = split-and (is_active w s.books && was_ready w s.books && not (has_collected w s.books)) (are_ids g w s) (ap (may_follow s) (sym e) ∙ h) in
    let b = split-and (is_active w s.books && was_ready w s.books) (not (has_collected w s.books)) a.0 in
    let c = split-and (nat_le (length own) most_tests && list_all is_id own) (no_text_twice own) k in
    let d = split-and (nat_le (length own) most_tests) (list_all is_id own) c.0 in
    record {
      few = grind (arith, nat_tests, d.0);
      ordered = and d.1 c.1;
      uncollected = not_true (has_collected w s.books) b.1;
      ready = (split-and (is_active w s.books) (was_ready w s.books) b.0).1;
    }

pub collection : (w : ℕ) (own : List (List ℕ)) (s : State) (b : Books) (k : Known) (st : Plan → Type 0) → At s b k st → list_all (λ l. nat_le (length l.ids) most_tests) b.lists ≡ true
    → list_all (λ l. list_all is_id l.ids && no_text_twice l.ids) b.lists ≡ true → may_follow s (given_ids w own s) ≡ true → Orderly w own b
collection w own s b k st a few ordered h =
    subst (λ (d : Books). Orderly w own d) (sym a.books_are) (collection-by w own s _ (given-is w own s) h (orderly-collection w own s b a.books_are few ordered h))

new-seat : (s : State) (w : ℕ) → AllCollected s → has_collected w s.books ≡ false → has_joined w s.books.table ≡ false
new-seat s w d h = elim (cases_of (has_joined w s.books.table)) [
  | inl k ↦ absurd (differ (sym h ∙ d w k))
  | inr k ↦ k
]

bare-state : (s : State) → Tidy s → s.books.shared ≡ false → IsBare s.books.table
bare-state s d h = empty-of_times (all_items s.books.table) (λ x. d.placed.whole x ∙ ap (λ q. due_times x q (total s.plan)) h)

shut-state : (s : State) (w : ℕ) → Tidy s → AllTold s → is_stopped s.books ≡ true → is_active w s.books ≡ true → was_ready w s.books ≡ true → is_shut w s.books ≡ true
shut-state s w d t h a r = shut-where w s.books.members (distinct-numbered s.books.members d.members.numbered) a r (t h w)

new-state : (s : State) (w : ℕ) → Tidy s → AllCollected s → AllTold s → is_active w s.books ≡ true → has_collected w s.books ≡ false → was_ready w s.books ≡ true → IsToJoin w s.books
new-state s w d c t a h r = record { absent = new-seat s w c h; bare = bare-state s d; told = λ q. shut-state s w d t q a r }

-- whoever gives its collection after the inputs of a proper run is new
pub newcomer : (s : State) → Reached s → (w : ℕ) → is_active w s.books ≡ true → has_collected w s.books ≡ false → was_ready w s.books ≡ true → IsToJoin w s.books
newcomer s r w a h k =
    new-state s w (tidy-reached s r)
    (subst (λ (u : State). AllCollected u) (sym r.state) (joins-following r.settings r.inputs r.proper))
    (subst (λ (u : State). AllTold u) (sym r.state) (told-following r.settings r.inputs r.proper)) a h k
