-- The start of a run.
use Rattle.std.proofs.Common.{[], ◌≡◌, ℕ, zero, suc, ◌+◌, List, ◌∷◌, ◌++◌, refl, ap, sym, subst, ◌∙◌, arith, append_assoc}
use Rattle.std.proofs.lemmas.Grind.{common_steps, fold-append}
use Rattle.xd_journal.specs.declared.settings.Settings.{Settings}
use Rattle.xd_journal.specs.declared.entry.Entry.TheVariants.{Start}
use Rattle.xd_run.specs.declared.member.Member.{Member}
use Rattle.xd_run.specs.Books.{Books}
use Rattle.xd_run.specs.Plan.{Plan}
use Rattle.xd_run.specs.Sharing.{State}
use Rattle.xd_run.specs.State.{after_entries, after_entry, no_one, settled, state_at}
use Rattle.xd_run.specs.Histories.{starts_from}
use Rattle.xd_run.specs.Meaning.{spent_by}
use Rattle.xd_run.specs.Workers.{begun_at, started}
use Rattle.std.proofs.lemmas.List.{append-nil}
use Rattle.xd_session_books.specs.Known.{known_plan}
use Rattle.xd_session_rules.specs.Rules.{At}

-- the start with these workers
abbrev pub with_members : Settings → List Member → State
with_members settings ms = record (no_one settings) { books = record ((no_one settings).books) { members = ms } }

-- the first n workers
abbrev pub members_from : ℕ → ℕ → List Member
members_from w zero = []
members_from w (suc n) = started w w ∷ members_from (w + 1) n

pub starts-moved : (settings : Settings) (w n : ℕ) (ms : List Member) → after_entries (with_members settings ms) (starts_from w n) ≡ with_members settings (ms ++ members_from w n)
starts-moved settings w zero ms = ap (with_members settings) (sym (append-nil ms))
starts-moved settings w (suc n) ms = starts-moved settings (w + 1) n (ms ++ started w w ∷ []) ∙ ap (with_members settings) (append_assoc ms (started w w ∷ []) (members_from (w + 1) n))

pub starts-more : (w n : ℕ) → starts_from w (n + 1) ≡ starts_from w n ++ Start (w + n) (w + n) ∷ []
starts-more w zero = grind (arith, common_steps)
starts-more w (suc n) = let k = starts-more (w + 1) n in grind (arith, common_steps)

pub start-next : (settings : Settings) (i : ℕ) → starts_from 0 (i + 1) ≡ starts_from 0 i ++ Start i i ∷ []
start-next settings i = starts-more 0 i ∙ ap (λ k. starts_from 0 i ++ Start k k ∷ []) (omega arith)

pub started-next : (settings : Settings) (i : ℕ) (b c : Books) → b ≡ (after_entries (no_one settings) (starts_from 0 i)).books → c ≡ begun_at i i b → c ≡ (after_entries (no_one settings) (starts_from 0 (i + 1))).books
started-next settings i b c h e =
    let k : after_entries (no_one settings) (starts_from 0 i ++ Start i i ∷ []) ≡ after_entry (after_entries (no_one settings) (starts_from 0 i)) (Start i i) = fold-append after_entry (no_one settings) (starts_from 0 i) (Start i i ∷ []) in
    e ∙ ap (begun_at i i) h ∙ ap (λ (s : State). s.books) (sym k) ∙ ap (λ es. (after_entries (no_one settings) es).books) (sym (start-next settings i))

pub starts-spend : (w n : ℕ) → spent_by (starts_from w n) ≡ 0
starts-spend w zero = refl
starts-spend w (suc n) = starts-spend (w + 1) n

pub begun-at : (settings : Settings) (n : ℕ) (b : Books) (stands : Plan → Type 0) → stands (no_one settings).plan → b ≡ (after_entries (no_one settings) (starts_from 0 n)).books
    → At (state_at settings (starts_from 0 n)) b (known_plan (no_one settings).plan) stands
begun-at settings n b stands f e =
    let k = starts-moved settings 0 n [] in
    subst (λ v. At v b (known_plan (no_one settings).plan) stands) (sym (ap settled k)) (record { books_are = e ∙ ap (λ (s : State). s.books) k; known_is = refl; stands_for = λ q. f })
