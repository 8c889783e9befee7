-- News of a worker come after its start where a first part of the news has its start, and none of its news.
use Rattle.std.proofs.Common.{◌≡◌, ℕ, List, [], ◌∷◌, ◌++◌, true, refl, ap, sym, ◌∙◌, subst, inl, inr}
use Rattle.std.specs.Prelude.{◌⊎◌}
use Rattle.std.proofs.lemmas.Grind.{fold-append}
use Rattle.xd_journal.specs.declared.news.News.{News}
use Rattle.xd_journal.specs.declared.news.What.{What}
use Rattle.xd_journal.specs.declared.settings.Settings.{Settings}
use Rattle.xd_run.specs.Proper.{IsProper}
use Rattle.xd_run.specs.Workers.{has_member}
use Rattle.xd_session.specs.History.{Run as SoFar, after_news, begun_run, run_of, said_by}
use Rattle.xd_session.proofs.Steps.{sound-run}
use Rattle.xd_system.specs.Moment.{AfterStart}
use Rattle.xd_system.proofs.Runs.{member-fold}
use Rattle.xd_system.proofs.Said.{said-join, said-own}

-- a place in two lists is in the second, or in the first
split-both : (before : List News) (n : News) (after pre post : List News) → before ++ n ∷ after ≡ pre ++ post
    → ((more : List News) × (before ≡ pre ++ more)) ⊎ ((more : List News) × (pre ≡ before ++ n ∷ more))
split-both before n after [] post e = inl (before, refl)
split-both [] n after (p ∷ pre) post e = (let same : n ≡ p = cc in inr (pre, ap (λ (q : News). q ∷ pre) (sym same)))
split-both (b ∷ before) n after (p ∷ pre) post e =
    let same : b ≡ p = cc in
    let rest : before ++ n ∷ after ≡ pre ++ post = cc in
    elim (split-both before n after pre post rest) [
      | inl k ↦ inl (k.0, ap (λ (q : News). q ∷ before) same ∙ ap (λ (l : List News). p ∷ l) k.1)
      | inr k ↦ inr (k.0, ap (λ (q : News). q ∷ pre) (sym same) ∙ ap (λ (l : List News). b ∷ l) k.1)
    ]

pub later-begun : (settings : Settings) (pre post : List News) (w : ℕ) → IsProper settings []
    → has_member w (λ m. true) (run_of settings pre).state.books ≡ true
    → said_by w pre ≡ [] → AfterStart settings (pre ++ post) w
later-begun settings pre post w proper begun silent before n after e own =
    elim (split-both before n after pre post (sym e)) [
      | inl k ↦ subst (λ (l : List News). has_member w (λ m. true) (run_of settings l).state.books ≡ true) (sym k.1)
          (ap (λ (q : SoFar). has_member w (λ m. true) q.state.books) (fold-append after_news (begun_run settings) pre k.0)
          ∙ member-fold settings w (run_of settings pre) k.0 (sound-run settings pre proper) begun)
      | inr k ↦ absurd (none (said_by w before) (said_by w k.0) (sym silent ∙ ap (said_by w) k.1 ∙ said-join w before (n ∷ k.0)
          ∙ ap (λ (l : List What). said_by w before ++ l) (said-join w (n ∷ []) k.0 ∙ ap (λ (l : List What). l ++ said_by w k.0) (said-own w n own))))
    ]
  where
    none : (xs ys : List What) → [] ≡ xs ++ n.what ∷ ys → ⊥
    none [] ys z = cc
    none (x ∷ xs) ys z = cc
