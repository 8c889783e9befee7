-- Where nobody goes down, each worker's reports are the outcomes of the tests that it started.
use Rattle.std.proofs.Common.{◌≡◌, ℕ, zero, suc, ◌+◌, List, [], ◌∷◌, ◌++◌, length, map, Bool, true, false, not, ◌&&◌, ◌||◌, refl, ap, sym, ◌∙◌, subst, arith, append_assoc, inl, inr}
use Rattle.std.specs.Prelude.{◌⊎◌, ◌==◌, fold, if◌then◌else◌, Option, Some, None}
use Rattle.std.specs.List.{list_any}
use Rattle.std.proofs.lemmas.Bool.Decides.{nat_tests}
use Rattle.std.proofs.lemmas.Grind.{fold-append}
use Rattle.std.proofs.lemmas.List.{append-nil}
use Rattle.std.proofs.lemmas.List.Elements.{filter_map-append}
use Rattle.std.proofs.lemmas.List.Folds.{list_any-append}
use Rattle.xd_journal.specs.declared.settings.Settings.{Settings}
use Rattle.xd_journal.specs.declared.entry.Entry.{Entry}
use Rattle.xd_journal.specs.declared.entry.Entry.TheVariants.{Finished}
use Rattle.xd_journal.specs.declared.entry.Outcome.{Outcome}
use Rattle.xd_journal.specs.declared.news.News.{News}
use Rattle.xd_journal.specs.declared.news.What.{What}
use Rattle.xd_journal.specs.declared.news.What.TheVariants as what
use Rattle.xd_run.specs.declared.member.Member.{Member}
use Rattle.xd_run.specs.Histories.{starts_from, is_over}
use Rattle.xd_run.specs.Meaning.{log_of, meaning_of, spent_by}
use Rattle.xd_run.specs.Outputs.{outputs}
use Rattle.xd_run.specs.Proper.{IsProper, may_follow}
use Rattle.xd_run.specs.Sharing.{State}
use Rattle.xd_run.specs.State.{after_effect, no_one}
use Rattle.xd_run.specs.Stops.{is_shutting, is_stopped}
use Rattle.xd_run.specs.Table.{held, in_rota}
use Rattle.xd_run.specs.Workers.{has_collected, has_member, is_active, is_shut, made_gone, some_active}
use Rattle.xd_run_laws.specs.Stopped.{is_death}
use Rattle.xd_run_laws.proofs.Logic.{cases_of, differ, not_true, or-false, split-and}
use Rattle.xd_run_laws.proofs.Members.{has, has-cleared, has-member, has-same}
use Rattle.xd_session.specs.History.{IsProperRun, Run as SoFar, after_news, begun_run, input_of, run_of, said_by}
use Rattle.xd_session.proofs.Steps.{input-follows, outputs-orderly, run-more, sound-run}
use Rattle.xd_worker_tests.specs.declared.ask.Ask.{Ask}
use Rattle.xd_system.specs.Laws.{ReportsItsTests}
use Rattle.xd_system.specs.Fits.{is_collected}
use Rattle.xd_system.specs.Moment.{IsFirstPart, IsCutShort, IsHonestAt, LinkNow, told_so_far}
use Rattle.xd_system.specs.Own.{outcome_in, outcome_of_news, outcomes_by, outcomes_in, order_told, told_to}
use Rattle.xd_system.specs.Tells.{news_of_asks, orders_of, tells, outcomes}
use Rattle.xd_system.proofs.Accused.{at-last, entries-fold, honest-next, took-cases}
use Rattle.xd_system.proofs.Acts.{Acts, acts-none, is_end_of, is_refusal, keeps_acts}
use Rattle.xd_system.proofs.Call.{is_last_told}
use Rattle.xd_system.proofs.Deal.{size_at}
use Rattle.xd_system.proofs.Dones.{ended-dones, started-ended}
use Rattle.xd_system.proofs.Echo.{Echo, entry_of}
use Rattle.xd_system.proofs.Placed.{Called, deal-now, echo-now, joined-call, marks-now, quiet-call}
use Rattle.xd_system.proofs.NoCrash.{no-crashes}
use Rattle.xd_system.proofs.Outcomes.{told-outcomes}
use Rattle.xd_system.proofs.Results.{Reported, keeps_reported, reported-none, results}
use Rattle.xd_system.proofs.Runs.{HonestSoFar, added, entries-added, input-own, honest-begun, state-after}
use Rattle.xd_system.proofs.Silent.{Silent, keeps_silent}
use Rattle.xd_system.proofs.Walks.{at-run, onward}
use Rattle.xd_system.proofs.Worker.{CallIs, IsDone}
use Rattle.xd_system.proofs.Said.{said-join, said-own}
use Rattle.xd_system.proofs.Finishes.{says-finished, outputs-end, other-end, end-entry, part-none, any-last}

-- where the worker finished
record Split (settings : Settings) (taken : List News) (w : ℕ) : Type 0 where
  pre : List News
  news : News
  post : List News
  split : taken ≡ pre ++ news ∷ post
  own : (news.worker == w) ≡ true
  sofar : HonestSoFar w (run_of settings pre)
  active : is_active w (run_of settings pre).state.books ≡ true
  input : input_of (run_of settings pre) news ≡ Some (Finished w)

module _ (settings : Settings) (taken : List News) (w : ℕ) (l : LinkNow) (proper : IsProper settings []) (h : IsHonestAt settings taken w l)
    (member : has_member w (λ m. true) (run_of settings taken).state.books ≡ true) (inactive : is_active w (run_of settings taken).state.books ≡ false)
    (alive : list_any is_death (run_of settings taken).entries ≡ false) (willing : list_any is_refusal (run_of settings taken).entries ≡ false) where
  acts-at : (pre : List News) → Acts w (run_of settings pre).state (run_of settings pre).entries
  acts-at pre =
      at-run settings (run_of settings pre) (Acts w) (keeps_acts settings w) (sound-run settings pre proper) (acts-none settings w)

  -- all entries, by those so far
  entries-by : (pre : List News) (n : News) (post : List News) → taken ≡ pre ++ n ∷ post
      → (more : List Entry) × ((run_of settings taken).entries ≡ (run_of settings pre).entries ++ (added (run_of settings pre) (input_of (run_of settings pre) n) ++ more))
  entries-by pre n post split =
      let r = run_of settings pre in
      let f = entries-fold (after_news r n) post in
      let is : run_of settings taken ≡ fold after_news (after_news r n) post =
      ap (run_of settings) (split ∙ sym (append_assoc pre (n ∷ []) post))
      ∙ fold-append after_news (begun_run settings) (pre ++ n ∷ []) post
      ∙ ap (λ (q : SoFar). fold after_news q post) (run-more settings pre n) in
      (f.0, ap (λ (q : SoFar). q.entries) is ∙ f.1 ∙ ap (λ (es : List Entry). es ++ f.0) (entries-added r (input_of r n)) ∙ append_assoc r.entries (added r (input_of r n)) f.0)

  -- where it is active no more, it finished with this
  finishes : (pre : List News) (n : News) (post : List News) → taken ≡ pre ++ n ∷ post
      → HonestSoFar w (run_of settings pre)
      → ((is_active w (run_of settings pre).state.books ≡ true) ⊎ (has_member w (λ m. true) (run_of settings pre).state.books ≡ false))
      → has_member w (λ m. true) (run_of settings (pre ++ n ∷ [])).state.books ≡ true
      → is_active w (run_of settings (pre ++ n ∷ [])).state.books ≡ false → Split settings taken w
  finishes pre n post split sofar before m2 a2 = go (input_of r n) refl (cases_of (n.worker == w))
    where
      r : SoFar
      r = run_of settings pre

      none-before : list_any (is_end_of w) (run_of settings pre).entries ≡ false
      none-before = elim before [
        | inl a ↦ no (list_any (is_end_of w) (run_of settings pre).entries) (sym ((acts-at pre).acts (has-member w (λ m. m.active) (run_of settings pre).state.books.members a)) ∙ a)
        | inr m ↦ (acts-at pre).unstarted m
      ]
        where
          no : (b : Bool) → not b ≡ true → b ≡ false
          no true q = absurd (differ q)
          no false q = refl

      some-after : list_any (is_end_of w) (run_of settings (pre ++ n ∷ [])).entries ≡ true
      some-after = yes (list_any (is_end_of w) (run_of settings (pre ++ n ∷ [])).entries) (sym ((acts-at (pre ++ n ∷ [])).acts m2) ∙ a2)
        where
          yes : (b : Bool) → not b ≡ false → b ≡ true
          yes true q = refl
          yes false q = absurd (differ (sym q))

      some-added : list_any (is_end_of w) (added (run_of settings pre) (input_of (run_of settings pre) n)) ≡ true
      some-added =
          let q = run_of settings pre in
          let e : (run_of settings (pre ++ n ∷ [])).entries ≡ q.entries ++ added q (input_of q n) = ap (λ (z : SoFar). z.entries) (run-more settings pre n)
          ∙ entries-added q (input_of q n) in
          sym (ap (λ (b : Bool). b || list_any (is_end_of w) (added q (input_of q n))) none-before)
          ∙ sym (list_any-append (is_end_of w) q.entries (added q (input_of q n)))
          ∙ sym (ap (list_any (is_end_of w)) e) ∙ some-after

      ends : (e : Entry) → input_of (run_of settings pre) n ≡ Some e → is_end_of w e ≡ true
      ends e q =
          let z = run_of settings pre in
          let none = outputs-end w (after_effect z.state e) (outputs z.state e) (outputs-orderly settings z n e (sound-run settings pre proper) q) in
          sym (or-false (is_end_of w e)) ∙ sym (ap (λ (b : Bool). is_end_of w e || b) none)
          ∙ sym (ap (λ (o : Option Entry). list_any (is_end_of w) (added z o)) q) ∙ some-added

      not-other : (e : Entry) → input_of (run_of settings pre) n ≡ Some e → is_end_of w e ≡ true
          → (n.worker == w) ≡ false → ⊥
      not-other e q z other = by (is_active n.worker (run_of settings pre).state.books) refl
        where
          by : (b : Bool) → is_active n.worker (run_of settings pre).state.books ≡ b → ⊥
          by true k =
              let s = run_of settings pre in
              let is : meaning_of n.worker (log_of (said_by n.worker s.taken)) (spent_by s.entries) s.state n.what ≡ Some e =
              sym (ap (λ (c : Bool). if c then meaning_of n.worker (log_of (said_by n.worker s.taken)) (spent_by s.entries) s.state n.what else None) k)
              ∙ q in
              let none = other-end w n.worker (log_of (said_by n.worker s.taken)) (spent_by s.entries) s.state n.what other in
              differ (sym (sym (ap (λ (o : Option Entry). list_any (is_end_of w) (entry_of o)) is) ∙ none) ∙ ap (λ (c : Bool). c || false) z)
          by false k =
              let s = run_of settings pre in
              let is : None ≡ Some e = sym (ap (λ (c : Bool). if c then meaning_of n.worker (log_of (said_by n.worker s.taken)) (spent_by s.entries) s.state n.what else None) k)
              ∙ q in cc

      go : (o : Option Entry) → input_of (run_of settings pre) n ≡ o
          → (((n.worker == w) ≡ true) ⊎ ((n.worker == w) ≡ false)) → Split settings taken w
      go None q own =
          absurd (differ (ap (λ (o : Option Entry). list_any (is_end_of w) (added (run_of settings pre) o)) (sym q) ∙ some-added))
      go (Some e) q (inr other) = absurd (not-other e q (ends e q) other)
      go (Some e) q (inl own) =
          let by = entries-by pre n post split in
          let at : (run_of settings taken).entries ≡ (run_of settings pre).entries ++ e ∷ (outputs (run_of settings pre).state e ++ by.0) =
          by.1 ∙ ap (λ (o : Option Entry). (run_of settings pre).entries ++ (added (run_of settings pre) o ++ by.0)) q in
          let dead = part-none is_death (run_of settings pre).entries e (outputs (run_of settings pre).state e ++ by.0) (sym (ap (list_any is_death) at) ∙ alive) in
          let refused = part-none is_refusal (run_of settings pre).entries e (outputs (run_of settings pre).state e ++ by.0) (sym (ap (list_any is_refusal) at) ∙ willing) in
          let is = end-entry w e (ends e q) dead refused in
          let active : is_active w (run_of settings pre).state.books ≡ true = elim before [
            | inl a ↦ a
            | inr m ↦ absurd (differ (sym m ∙ h.begun pre n post split own))
          ] in
          record { pre = pre; news = n; post = post; split = split; own = own; sofar = sofar; active = active; input = q ∙ ap Some is }

  find : (post pre : List News) → taken ≡ pre ++ post → HonestSoFar w (run_of settings pre)
      → ((is_active w (run_of settings pre).state.books ≡ true) ⊎ (has_member w (λ m. true) (run_of settings pre).state.books ≡ false))
      → Split settings taken w
  find [] pre e sofar before =
      let same : taken ≡ pre = e ∙ append-nil pre in
      elim before [
        | inl a ↦ absurd (differ (sym (subst (λ (t : List News). is_active w (run_of settings t).state.books ≡ false) same inactive) ∙ a))
        | inr m ↦ absurd (differ (sym m ∙ subst (λ (t : List News). has_member w (λ m. true) (run_of settings t).state.books ≡ true) same member))
      ]
  find (n ∷ post) pre e sofar before =
      let next = honest-next settings taken w l proper h pre n post e sofar in
      let e2 : taken ≡ (pre ++ n ∷ []) ++ post = e ∙ sym (append_assoc pre (n ∷ []) post) in
      elim (cases_of (is_active w (run_of settings (pre ++ n ∷ [])).state.books)) [
        | inl a ↦ find post (pre ++ n ∷ []) e2 next (inl a)
        | inr a ↦ (elim (cases_of (has_member w (λ m. true) (run_of settings (pre ++ n ∷ [])).state.books)) [
          | inr m ↦ find post (pre ++ n ∷ []) e2 next (inr m)
          | inl m ↦ finishes pre n post e sofar before m a
        ])
      ]

  starts-end : (a n : ℕ) → list_any (is_end_of w) (starts_from a n) ≡ false
  starts-end a zero = refl
  starts-end a (suc n) = starts-end (a + 1) n

  the-split : Split settings taken w
  the-split = find taken [] refl (honest-begun settings w (sound-run settings [] proper)) (elim (cases_of (has_member w (λ m. true) (run_of settings []).state.books)) [
    | inr m ↦ inr m
    | inl m ↦ inl ((acts-at []).acts m ∙ ap not (starts-end 0 settings.workers))
  ])

  -- what was told until then
  module _ (k : Split settings taken w) where
    abbrev pre : List News
    pre = k.pre

    abbrev r : SoFar
    r = run_of settings pre

    abbrev said : List What
    said = said_by w pre

    sound : IsProperRun settings (run_of settings k.pre)
    sound = sound-run settings k.pre proper

    abbrev last : Entry
    last = Finished w

    is-last : k.news.what ≡ what.Finished
    is-last = says-finished w (log_of (said_by w r.taken)) (spent_by r.entries) r.state k.news.what (sym (input-own settings r k.news sound w k.own k.active) ∙ k.input)

    said-all : said_by w taken ≡ said ++ what.Finished ∷ said_by w k.post
    said-all = ap (said_by w) k.split ∙ said-join w pre (k.news ∷ k.post)
        ∙ ap (λ (z : List What). said ++ z) (said-join w (k.news ∷ []) k.post ∙ ap (λ (z : List What). z ++ said_by w k.post) (said-own w k.news k.own ∙ ap (λ (x : What). x ∷ []) is-last))

    told-so : (later : List What) × (told_so_far l ≡ said ++ what.Finished ∷ later)
    told-so = elim (took-cases l.whole (said_by w taken) (told_so_far l) h.news) [
      | inl b ↦ (said_by w k.post ++ b.0, b.1 ∙ ap (λ (z : List What). z ++ b.0) said-all ∙ append_assoc said (what.Finished ∷ said_by w k.post) b.0)
      | inr (inl c) ↦ cut c
      | inr (inr e) ↦ absurd (none (at-last said (said_by w k.post) [] what.Finished what.NotStarted (sym said-all ∙ e)))
    ]
      where
        cut : IsCutShort (said_by w taken) (told_so_far l)
            → (later : List What) × (told_so_far l ≡ said ++ what.Finished ∷ later)
        cut c = elim (at-last said (said_by w k.post) c.heard what.Finished (what.Gone c.cause) (sym said-all ∙ c.are)) [
          | inl a ↦ (a.0 ++ c.begins.0, c.begins.1 ∙ ap (λ (z : List What). z ++ c.begins.0) a.1 ∙ append_assoc said (what.Finished ∷ a.0) c.begins.0)
          | inr a ↦ absurd (let z : what.Finished ≡ what.Gone c.cause = a.0 in cc)
        ]

        empty : (xs ys : List What) (x : What) → [] ≡ xs ++ x ∷ ys → ⊥
        empty [] ys x e = cc
        empty (y ∷ xs) ys x e = cc

        none : ((later : List What) × ([] ≡ said ++ what.Finished ∷ later)) ⊎ ((what.Finished ≡ what.NotStarted) × ([] ≡ said))
            → ⊥
        none (inl a) = empty said a.0 what.Finished a.1
        none (inr a) = (let z : what.Finished ≡ what.NotStarted = a.0 in cc)

    abbrev later : List What
    later = told-so.0

    tells-are : tells l.given ≡ said ++ what.Finished ∷ told-so.0
    tells-are = go l.called refl told-so.1
      where
        empty : (xs : List What) → [] ≡ xs ++ what.Finished ∷ told-so.0 → ⊥
        empty [] e = cc
        empty (y ∷ xs) e = cc

        go : (b : Bool) → l.called ≡ b → (if b then tells l.given else []) ≡ said ++ what.Finished ∷ told-so.0
            → tells l.given ≡ said ++ what.Finished ∷ told-so.0
        go true e q = q
        go false e q = absurd (empty said q)

    -- nothing is told to it, and no test of it ends, after that
    silent : Silent w (told_to w r.entries) (outcomes_by w r.entries) (run_of settings taken).state (run_of settings taken).entries
    silent =
        let by = entries-by pre k.news k.post k.split in
        let es = r.entries ++ last ∷ [] in
        let more = outputs r.state last ++ by.0 in
        let entries : (run_of settings taken).entries ≡ es ++ more =
        by.1 ∙ ap (λ (o : Option Entry). r.entries ++ (added r o ++ by.0)) k.input
        ∙ sym (append_assoc r.entries (last ∷ []) more) in
        let same : (w == w) ≡ true = grind (arith, nat_tests) in
        let here : Silent w (told_to w r.entries) (outcomes_by w r.entries) (after_effect r.state last) es = record {
          member = has-same w (λ m. true) (made_gone w) r.state.books.members (λ m. refl) (λ m. refl)
              ∙ has-member w (λ m. m.active) r.state.books.members k.active;
          gone = has-cleared w w (λ m. m.active) (made_gone w) r.state.books.members (λ m. refl) (λ m. refl)
              ∙ ap (λ (b : Bool). not b && has w (λ m. m.active) r.state.books.members) same;
          told = filter_map-append (order_told w) r.entries (last ∷ []) ∙ append-nil (told_to w r.entries);
          dones = filter_map-append (outcome_in w) r.entries (last ∷ []) ∙ append-nil (outcomes_by w r.entries);
        } in
        onward settings (run_of settings taken) (Silent w (told_to w r.entries) (outcomes_by w r.entries)) (keeps_silent settings w (told_to w r.entries) (outcomes_by w r.entries)) (sound-run settings taken proper) es more entries
        (subst (λ (u : State). Silent w (told_to w r.entries) (outcomes_by w r.entries) u es) (sym (state-after settings r k.news sound w last refl)) here)

    -- the moment before
    abbrev link : LinkNow
    link = record { called = true; given = l.given; whole = true }

    honest : IsHonestAt settings k.pre w (record { called = true; given = l.given; whole = true })
    honest = record {
      comes = h.comes;
      uncalled = λ e. absurd cc;
      orders = subst (IsFirstPart (orders_of l.given)) silent.told h.orders;
      begun = λ before m after e o. h.begun before m (after ++ k.news ∷ k.post) (k.split ∙ ap (λ (z : List News). z ++ k.news ∷ k.post) e ∙ append_assoc before (m ∷ after) (k.news ∷ k.post)) o;
      news = (what.Finished ∷ told-so.0, tells-are);
    }

    echo : Echo w r.entries said
    echo = echo-now settings pre w link proper honest k.active

    collected : list_any is_collected said ≡ true
    collected =
        let marks = marks-now settings pre w link proper honest k.active in
        let may : may_follow r.state last ≡ true = input-follows r k.news last k.input in
        let p = split-and (is_active w r.state.books && is_shut w r.state.books && has_collected w r.state.books) (length (held w r.state.books.table) == 0) may in
        let q = split-and (is_active w r.state.books && is_shut w r.state.books) (has_collected w r.state.books) p.0 in
        echo.collected ∙ sym marks.collected ∙ q.1

    called : (size : ℕ) × Called settings pre w link proper honest k.active (what.Finished ∷ told-so.0) tells-are size
    called = (let deal = deal-now settings pre w link proper honest k.active in elim (cases_of (in_rota w r.state.books.table)) [
      | inr a ↦ quiet-call settings pre w link proper honest k.active (what.Finished ∷ told-so.0) tells-are (deal.early a)
      | inl a ↦ (elim (cases_of r.state.books.shared) [
        | inr b ↦ quiet-call settings pre w link proper honest k.active (what.Finished ∷ told-so.0) tells-are (deal.unshared b)
        | inl b ↦ (size_at w r.state, joined-call settings pre w link proper honest k.active (what.Finished ∷ told-so.0) tells-are a b)
      ])
    ])

    is-told : list_any is_last_told (tells l.given) ≡ true
    is-told = ap (list_any is_last_told) tells-are ∙ any-last said told-so.0 what.Finished refl

    done : (size : ℕ) → CallIs size l.given → IsDone size l.given
    done size (inl q) =
        absurd (differ (sym (ap (λ (z : List Ask). list_any is_last_told (what.Ready ∷ news_of_asks z)) q.none) ∙ is-told))
    done size (inr (inl q)) = absurd (differ (sym q.is.unfinished ∙ is-told))
    done size (inr (inr q)) = q

    whole : (size : ℕ) → IsDone size l.given → tells l.given ≡ said ++ what.Finished ∷ []
    whole size d =
        let c : list_any is_collected (tells l.given) ≡ true = ap (list_any is_collected) tells-are
        ∙ list_any-append is_collected said (what.Finished ∷ told-so.0)
        ∙ ap (λ (b : Bool). b || list_any is_collected (what.Finished ∷ told-so.0)) collected in
        let f = d.finishes c in
        elim (at-last said told-so.0 f.first what.Finished what.Finished (sym tells-are ∙ f.are)) [
          | inl a ↦ absurd (differ (sym f.unfinished ∙ ap (list_any is_last_told) a.1 ∙ any-last said a.0 what.Finished refl))
          | inr a ↦ f.are ∙ ap (λ (z : List What). z ++ what.Finished ∷ []) a.1
        ]

    once : ReportsItsTests (run_of settings taken) settings w l.given
    once =
        let c = called in
        let d = done c.0 c.1.call in
        let T = tells l.given in
        let outcomes_are : outcomes_in T ≡ outcomes l.given = told-outcomes l.given h.comes in
        let dones_are : outcomes_in T ≡ outcomes_in said = ap outcomes_in (whole c.0 d)
        ∙ filter_map-append outcome_of_news said (what.Finished ∷ []) ∙ append-nil (outcomes_in said) in
        let reported = at-run settings (run_of settings taken) (Reported settings w) (keeps_reported settings w) (sound-run settings taken proper) (reported-none settings w) in
        record {
          reports_are = no-crashes w (no_one settings) (run_of settings taken).entries alive ∙ reported.results_are
              ∙ ap (results w (run_of settings taken).state) (silent.dones ∙ sym echo.dones ∙ sym dones_are ∙ outcomes_are);
          each_ended = ap (map (λ (p : ℕ × Outcome). p.0)) (sym outcomes_are) ∙ ended-dones T
              ∙ sym (started-ended c.0 l.given d);
        }

none-active : (w : ℕ) (ms : List Member) → list_any (λ m. m.active) ms ≡ false → has w (λ m. m.active) ms ≡ false
none-active w [] h = refl
none-active w (m ∷ ms) h = grind (arith, nat_tests, none-active w ms, h)

pub reports_its_tests : (settings : Settings) (taken : List News) (links : ℕ → LinkNow) → IsProper settings []
    → ((w : ℕ) → has_member w (λ m. true) (run_of settings taken).state.books ≡ true → IsHonestAt settings taken w (links w))
    → list_any is_death (run_of settings taken).entries ≡ false
    → is_over (run_of settings taken).state.books ≡ true → is_stopped (run_of settings taken).state.books ≡ false
    → (w : ℕ) → has_member w (λ m. true) (run_of settings taken).state.books ≡ true
    → ReportsItsTests (run_of settings taken) settings w (links w).given
reports_its_tests settings taken links proper honest alive over unstopped w member =
    let r = run_of settings taken in
    let quiet = (split-and (is_shutting r.state.books) (not (some_active r.state.books)) over).1 in
    let inactive : is_active w r.state.books ≡ false = none-active w r.state.books.members (not_true (some_active r.state.books) quiet) in
    let acts = at-run settings r (Acts w) (keeps_acts settings w) (sound-run settings taken proper) (acts-none settings w) in
    let willing : list_any is_refusal r.entries ≡ false = elim (cases_of (list_any is_refusal r.entries)) [
      | inl a ↦ absurd (differ (sym unstopped ∙ acts.stops a))
      | inr a ↦ a
    ] in
    once settings taken w (links w) proper (honest w member) member inactive alive willing (the-split settings taken w (links w) proper (honest w member) member inactive alive willing)
