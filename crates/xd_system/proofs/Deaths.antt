-- What deaths and retries leave true: an honest worker's results are how programs that it started ended, and whoever is
-- reported as a crash was held by the worker that went down and by no other.
use Rattle.std.proofs.Common.{◌≡◌, ◌≤◌, ℕ, zero, suc, ◌+◌, List, [], ◌∷◌, ◌++◌, Bool, true, false, refl, ap, sym, ◌∙◌, subst, arith, append_assoc, inl, inr}
use Rattle.std.specs.Prelude.{◌==◌, if◌then◌else◌, Some}
use Rattle.std.proofs.lemmas.Bool.Decides.{nat_tests}
use Rattle.std.proofs.lemmas.List.{append-nil}
use Rattle.std.proofs.lemmas.List.Elements.{filter_map-append}
use Rattle.xd_journal.specs.declared.entry.Cause.{Cause}
use Rattle.xd_journal.specs.declared.entry.Entry.{Entry}
use Rattle.xd_journal.specs.declared.entry.Entry.TheVariants.{Down}
use Rattle.xd_journal.specs.declared.entry.Outcome.{Outcome}
use Rattle.xd_journal.specs.declared.news.News.{News}
use Rattle.xd_journal.specs.declared.news.What.{What}
use Rattle.xd_journal.specs.declared.news.What.TheVariants as what
use Rattle.xd_journal.specs.declared.settings.Settings.{Settings}
use Rattle.xd_run.specs.declared.seat.Seat.{Seat}
use Rattle.xd_run.specs.Histories.{starts_from}
use Rattle.xd_run.specs.Numbers.{among, first_of, times}
use Rattle.xd_run.specs.Proper.{IsProper}
use Rattle.xd_run.specs.Sharing.{State}
use Rattle.xd_run.specs.State.{after_entries, no_one, settled, state_at}
use Rattle.xd_run.specs.Table.{held, held_by_all, held_in}
use Rattle.xd_run.specs.Workers.{is_active}
use Rattle.xd_run_laws.proofs.Counts.{among-times, times-append}
use Rattle.xd_run_laws.proofs.Crashes.{death-of}
use Rattle.xd_run_laws.proofs.Laws.{lawful}
use Rattle.xd_run_laws.proofs.Logic.{cases_of, differ}
use Rattle.xd_run_laws.proofs.Placed.{Placed, at_most_once}
use Rattle.xd_run_laws.proofs.Places.{held-within, times-table}
use Rattle.xd_run_laws.proofs.Walk.{AllCome}
use Rattle.xd_worker_tests.proofs.Starts.{starts_once}
use Rattle.xd_session.specs.History.{Run as SoFar, begun_run, input_of, run_of, said_by}
use Rattle.xd_session.proofs.Steps.{run-more, run-taken, sound-run}
use Rattle.xd_system.specs.Deaths.{CrashesAlone, HonestReports, ReportsWhatRan}
use Rattle.xd_system.specs.Moment.{IsFirstPart, IsCutShort, IsHonestAt, LinkNow, told_so_far}
use Rattle.xd_system.specs.Own.{outcome_in, outcome_of_news, outcomes_by, outcomes_in}
use Rattle.xd_system.specs.Tells.{outcomes, tells}
use Rattle.xd_system.proofs.Accused.{fine, honest-next, took-cases}
use Rattle.xd_system.proofs.Outcomes.{outcomes-started, told-outcomes}
use Rattle.xd_system.proofs.Results.{Reported, keeps_reported, reported-none}
use Rattle.xd_system.proofs.Parts.{begins-then}
use Rattle.xd_system.proofs.Said.{said-join, said-own}
use Rattle.xd_system.proofs.Runs.{HonestSoFar, added, added-other, entries-added, input-gone, honest-begun, own-added}
use Rattle.xd_system.proofs.Walks.{at-run, come-back}

-- first parts of lists

dones-begin : (xs ys : List What) → IsFirstPart xs ys → IsFirstPart (outcomes_in xs) (outcomes_in ys)
dones-begin xs ys a = (outcomes_in a.0, ap outcomes_in a.1 ∙ filter_map-append outcome_of_news xs a.0)

-- The journal has of each worker's ends the first that its news told: all of them while it is active.

module _ (settings : Settings) (taken : List News) (w : ℕ) (l : LinkNow) (proper : IsProper settings []) (h : IsHonestAt settings taken w l) where
  abbrev HasFirst : List News → Type 0
  HasFirst pre = IsFirstPart (outcomes_by w (run_of settings pre).entries) (outcomes_in (said_by w pre))

  module _ (pre : List News) (n : News) (post : List News) (split : taken ≡ pre ++ n ∷ post) (inv : HonestSoFar w (run_of settings pre)) (k : HasFirst pre) where
    abbrev r : SoFar
    r = run_of settings pre

    entries : outcomes_by w (run_of settings (pre ++ n ∷ [])).entries ≡ outcomes_by w r.entries ++ outcomes_by w (added r (input_of r n))
    entries =
        ap (λ (q : SoFar). outcomes_by w q.entries) (run-more settings pre n) ∙ ap (outcomes_by w) (entries-added r (input_of r n))
        ∙ filter_map-append (outcome_in w) r.entries (added r (input_of r n))

    said : outcomes_in (said_by w (pre ++ n ∷ [])) ≡ outcomes_in (said_by w pre) ++ outcomes_in (said_by w (n ∷ []))
    said = ap outcomes_in (said-join w pre (n ∷ [])) ∙ filter_map-append outcome_of_news (said_by w pre) (said_by w (n ∷ []))

    -- nothing of the worker comes into the journal
    silent : outcomes_by w (added r (input_of r n)) ≡ [] → HasFirst (pre ++ n ∷ [])
    silent none =
        let same : outcomes_by w (run_of settings (pre ++ n ∷ [])).entries ≡ outcomes_by w r.entries =
        entries ∙ ap (λ (ds : List (ℕ × Outcome)). outcomes_by w r.entries ++ ds) none ∙ append-nil (outcomes_by w r.entries) in (
          k.0 ++ outcomes_in (said_by w (n ∷ [])),
          said ∙ ap (λ (ds : List (ℕ × Outcome)). ds ++ outcomes_in (said_by w (n ∷ []))) k.1
              ∙ append_assoc (outcomes_by w r.entries) k.0 (outcomes_in (said_by w (n ∷ [])))
              ∙ ap (λ (ds : List (ℕ × Outcome)). ds ++ (k.0 ++ outcomes_in (said_by w (n ∷ [])))) (sym same),
        )

    -- the worker is active, and says this
    says : (n.worker == w) ≡ true → is_active w r.state.books ≡ true → HasFirst (pre ++ n ∷ [])
    says own active =
        let now = ap (λ (t : List News). outcomes_in (said_by w t)) (sym (run-taken settings pre)) ∙ (inv.echo active).dones in
        let more = (own-added settings r n (sound-run settings pre proper) w own active (fine settings taken w l proper h pre n post split own inv active)).dones in (
          [],
          said ∙ ap (λ (ds : List (ℕ × Outcome)). ds ++ outcomes_in (said_by w (n ∷ []))) now
              ∙ ap (λ (ds : List (ℕ × Outcome)). outcomes_by w r.entries ++ ds) (ap outcomes_in (said-own w n own) ∙ more)
              ∙ sym entries ∙ sym (append-nil (outcomes_by w (run_of settings (pre ++ n ∷ [])).entries)),
        )

    step : HasFirst (pre ++ n ∷ [])
    step = elim (cases_of (n.worker == w)) [
      | inr other ↦ silent (sym (added-other settings r n (sound-run settings pre proper) w other).dones)
      | inl own ↦ (elim (cases_of (is_active w r.state.books)) [
        | inl active ↦ says own active
        | inr gone ↦ silent (ap (λ o. outcomes_by w (added r o)) (input-gone settings r n (sound-run settings pre proper) w own gone))
      ])
    ]

  go-on : (post pre : List News) → taken ≡ pre ++ post → HonestSoFar w (run_of settings pre) → HasFirst pre → HasFirst taken
  go-on [] pre split inv k = subst HasFirst (sym (split ∙ append-nil pre)) k
  go-on (n ∷ post) pre split inv k =
      go-on post (pre ++ n ∷ []) (split ∙ sym (append_assoc pre (n ∷ []) post)) (honest-next settings taken w l proper h pre n post split inv) (step pre n post split inv k)

  starts-none : (a n : ℕ) → outcomes_by w (starts_from a n) ≡ []
  starts-none a zero = refl
  starts-none a (suc n) = starts-none (a + 1) n

  first-of-news : HasFirst taken
  first-of-news = go-on taken [] refl (honest-begun settings w (sound-run settings [] proper)) ([], sym (append-nil (outcomes_by w (begun_run settings).entries) ∙ starts-none 0 settings.workers))

  -- what was taken of it are the first ends that it told
  first-told : IsFirstPart (outcomes_in (said_by w taken)) (outcomes_in (told_so_far l))
  first-told = elim (took-cases l.whole (said_by w taken) (told_so_far l) h.news) [
    | inl b ↦ dones-begin (said_by w taken) (told_so_far l) b
    | inr (inl c) ↦ cut c
    | inr (inr e) ↦ (outcomes_in (told_so_far l), ap (λ (ds : List What). outcomes_in ds ++ outcomes_in (told_so_far l)) (sym e))
  ]
    where
      cut : IsCutShort (said_by w taken) (told_so_far l) → IsFirstPart (outcomes_in (said_by w taken)) (outcomes_in (told_so_far l))
      cut c =
          let same : outcomes_in (said_by w taken) ≡ outcomes_in c.heard =
          ap outcomes_in c.are ∙ filter_map-append outcome_of_news c.heard (what.Gone c.cause ∷ []) ∙ append-nil (outcomes_in c.heard) in
          subst (λ (ds : List (ℕ × Outcome)). IsFirstPart ds (outcomes_in (told_so_far l))) (sym same) (dones-begin c.heard (told_so_far l) c.begins)

  told-are : IsFirstPart (outcomes_in (told_so_far l)) (outcomes l.given)
  told-are = go l.called
    where
      go : (b : Bool) → IsFirstPart (outcomes_in (if b then tells l.given else [])) (outcomes l.given)
      go true = ([], sym (append-nil (outcomes l.given)) ∙ ap (λ (ds : List (ℕ × Outcome)). ds ++ []) (sym (told-outcomes l.given h.comes)))
      go false = (outcomes l.given, refl)

  what-ran : ReportsWhatRan (run_of settings taken) settings w l.given
  what-ran =
      let r = run_of settings taken in
      let reported = at-run settings r (Reported settings w) (keeps_reported settings w) (sound-run settings taken proper) (reported-none settings w) in
      record {
        once = starts_once l.given;
        ends = outcomes_by w r.entries;
        first = begins-then (outcomes_by w r.entries) (outcomes_in (said_by w taken)) (outcomes l.given) first-of-news
            (begins-then (outcomes_in (said_by w taken)) (outcomes_in (told_so_far l)) (outcomes l.given) first-told told-are);
        results_are = reported.results_are;
        started = outcomes-started l.given;
      }

pub honest-reports : HonestReports
honest-reports settings taken w l proper h = what-ran settings taken w l proper h

-- no two workers hold an item

two-held : (x v w : ℕ) (ss : List Seat) → (v == w) ≡ false → times x (held_in v ss) + times x (held_in w ss) ≤ times x (held_by_all ss)
two-held x v w [] e = omega arith
two-held x v w (s ∷ ss) e = grind (arith, nat_tests, times-append x s.held (held_by_all ss), two-held x v w ss e, held-within x v ss, held-within x w ss, e)

held-once : (t : List ℕ) (x : ℕ) → first_of t ≡ Some x → among x t ≡ true
held-once [] x e = cc
held-once (y ∷ t) x e = grind (arith, nat_tests, e)

not-held : (s : State) (x v w : ℕ) → Placed s → first_of (held w s.books.table) ≡ Some x → (v == w) ≡ false → among x (held v s.books.table) ≡ false
not-held s x v w placed head e = elim (cases_of (among x (held v s.books.table))) [
  | inr not_held ↦ not_held
  | inl also ↦ absurd (
      let t = s.books.table in
      let here = among-times x (held w t) (held-once (held w t) x head) in
      let there = among-times x (held v t) also in
      let both = two-held x v w t.rota e in
      let most = at_most_once s placed x in
      let all = times-table x t in
      omega (arith, here, there, both, most, all))
]

came : (s : State) (w : ℕ) (c : Cause) (o : List ℕ) (before after : List Entry) → AllCome s (before ++ Down w c o ∷ after) → Placed (settled (after_entries s before))
came s w c o before after k = elim (come-back s before (Down w c o ∷ after) k).0 [
  | inl a ↦ a.0.placed
  | inr b ↦ absurd (differ b.1)
]

pub crashes-alone : CrashesAlone
crashes-alone settings taken earlier later worker item proper e =
    let r = run_of settings taken in
    let sound = sound-run settings taken proper in
    let d = death-of settings r.entries earlier later worker item e in
    let come : AllCome (no_one settings) (d.before ++ Down worker d.cause d.output ∷ d.after) =
    subst (AllCome (no_one settings)) (sym sound.journal ∙ d.are) (lawful settings r.inputs sound.proper).come in
    record {
      death = d;
      alone = λ v other. not-held (state_at settings d.before) item v worker (came (no_one settings) worker d.cause d.output d.before d.after come) d.head other;
    }
