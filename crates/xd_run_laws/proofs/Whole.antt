-- The laws of a whole journal.
use Rattle.std.proofs.Common.{◌≡◌, ℕ, List, [], ◌∷◌, ◌++◌, map, Bool, true, false, refl, ap, sym, ◌∙◌, subst, arith, inl, inr}
use Rattle.std.specs.Prelude.{filter, unwrap_or, Option, Some, None, is_some}
use Rattle.std.proofs.lemmas.List.{append-nil}
use Rattle.xd_journal.specs.declared.entry.RunStop.{RunStop}
use Rattle.xd_journal.specs.declared.entry.RunStop.TheVariants.{Completed, OutFault}
use Rattle.xd_journal.specs.declared.entry.Entry.{Entry}
use Rattle.xd_journal.specs.declared.entry.Entry.TheVariants.{Kill, Over}
use Rattle.xd_journal.specs.declared.journal.Journal.{Journal}
use Rattle.xd_run.specs.declared.member.Member.{Member}
use Rattle.xd_run.specs.Numbers.{times}
use Rattle.xd_run.specs.Plan.{total}
use Rattle.xd_run.specs.Books.{Books}
use Rattle.xd_run.specs.Stops.{is_stopped}
use Rattle.xd_run.specs.Sharing.{State}
use Rattle.xd_run.specs.State.{after_entries, no_one, settled, state_at}
use Rattle.xd_run.specs.Histories.{after_starts, run_end_of, is_over, journal_of, after_inputs}
use Rattle.xd_run.specs.Ending.{ending, may_close, over_in, stop_of}
use Rattle.xd_run.specs.Reports.{Report, item_of, reports, reports_from, reports_in}
use Rattle.xd_run_laws.specs.Collected.{collected}
use Rattle.xd_run_laws.specs.Stopped.{StopsBy}
use Rattle.xd_run_laws.specs.Whole.{EndsRightly, IsWhole, NamesEach, tests_in}
use Rattle.xd_run_laws.proofs.Logic.{cases_of}
use Rattle.xd_run_laws.proofs.Turns.{after_entries-join}
use Rattle.xd_run_laws.proofs.Walk.{all-inputs, journal-state, reports-append}
use Rattle.xd_run_laws.proofs.NoOver.{NoOver, no-over-journal, stop-failed, stop-over}
use Rattle.xd_run_laws.proofs.Stopping.{Tells, keeps_tells, stops-following, tells-none}
use Rattle.xd_run_laws.proofs.Laws.{journal-keeps, over-shared, reported_once, shared_total, lawful, none-reported}

-- the end moves nothing and reports nothing

kills-moved : (s : State) (ms : List Member) (more : List Entry) → after_entries s (map (λ (m : Member). Kill m.worker) ms ++ more) ≡ after_entries s more
kills-moved s [] more = refl
kills-moved s (m ∷ ms) more = kills-moved s ms more

end-moved : (s : State) (failed : Bool) (b : Books) → after_entries s (ending failed b) ≡ s
end-moved s true b = kills-moved s (filter (λ m. m.active) b.members) (Over OutFault ∷ [])
end-moved s false b = refl

kills-report : (s : State) (ms : List Member) (more : List Entry) → reports_from s (map (λ (m : Member). Kill m.worker) ms ++ more) ≡ reports_from s more
kills-report s [] more = refl
kills-report s (m ∷ ms) more = kills-report s ms more

end-reports : (s : State) (failed : Bool) (b : Books) → reports_from s (ending failed b) ≡ []
end-reports s true b = kills-report s (filter (λ m. m.active) b.members) (Over OutFault ∷ [])
end-reports s false b = refl

module _ (j : Journal) (w : IsWhole j) where
  pub state-whole : state_at j.settings j.entries.items ≡ after_inputs (after_starts j.settings) w.inputs
  state-whole =
      let es = journal_of j.settings w.inputs in
      let b = (after_inputs (after_starts j.settings) w.inputs).books in
      ap (state_at j.settings) w.entries ∙ ap settled (after_entries-join (no_one j.settings) es (ending w.out_failed b) ∙ end-moved (after_entries (no_one j.settings) es) w.out_failed b)
      ∙ journal-state j.settings w.inputs w.proper.follow

  pub reports-whole : reports_in j ≡ reports j.settings (journal_of j.settings w.inputs)
  reports-whole =
      let es = journal_of j.settings w.inputs in
      let b = (after_inputs (after_starts j.settings) w.inputs).books in
      ap (reports j.settings) w.entries ∙ reports-append (no_one j.settings) es (ending w.out_failed b)
      ∙ ap (λ (rs : List Report). reports j.settings es ++ rs) (end-reports (after_entries (no_one j.settings) es) w.out_failed b) ∙ append-nil (reports j.settings es)

  quiet : NoOver (journal_of j.settings w.inputs)
  quiet = no-over-journal j.settings w.inputs (all-inputs (after_starts j.settings) w.inputs w.proper.follow)

  -- how it ended, by whether the output failed
  stop-by : (failed : Bool) → w.out_failed ≡ failed → stop_of j ≡ over_in (journal_of j.settings w.inputs ++ ending failed (after_inputs (after_starts j.settings) w.inputs).books) (run_end_of (state_at j.settings j.entries.items).books)
  stop-by failed e =
      let es = journal_of j.settings w.inputs in
      let b = (after_inputs (after_starts j.settings) w.inputs).books in
      let other = run_end_of (state_at j.settings j.entries.items).books in
      ap (λ (xs : List Entry). over_in xs other) w.entries ∙ ap (λ (f : Bool). over_in (es ++ ending f b) other) e

  stop-whole : w.out_failed ≡ false → stop_of j ≡ run_end_of (after_inputs (after_starts j.settings) w.inputs).books
  stop-whole e =
      stop-by false e ∙ stop-over (after_inputs (after_starts j.settings) w.inputs).books (journal_of j.settings w.inputs) (run_end_of (state_at j.settings j.entries.items).books) quiet

  stop-faulty : w.out_failed ≡ true → stop_of j ≡ OutFault
  stop-faulty e =
      stop-by true e ∙ stop-failed (after_inputs (after_starts j.settings) w.inputs).books (journal_of j.settings w.inputs) (run_end_of (state_at j.settings j.entries.items).books) quiet

  told-whole : Tells j.settings (after_inputs (after_starts j.settings) w.inputs) (journal_of j.settings w.inputs)
  told-whole = journal-keeps j.settings w.inputs (Tells j.settings) (keeps_tells j.settings) w.proper (tells-none j.settings)

  -- no entry brings the stop Completed
  unstopped-by : (o : Option RunStop) → (o ≡ Some Completed → ⊥) → unwrap_or o Completed ≡ Completed → is_some o ≡ false
  unstopped-by None n h = refl
  unstopped-by (Some how) n h = absurd (n (ap (λ (x : RunStop). Some x) h))

  faulty-not_done : OutFault ≡ Completed → ⊥
  faulty-not_done h = absurd cc

  -- a run that was completed is over and was not stopped
  done-whole : stop_of j ≡ Completed → (is_over (after_inputs (after_starts j.settings) w.inputs).books ≡ true) × (is_stopped (after_inputs (after_starts j.settings) w.inputs).books ≡ false)
  done-whole h = elim (cases_of w.out_failed) [
    | inl e ↦ absurd (faulty-not_done (sym (stop-faulty e) ∙ h))
    | inr e ↦
        (let b = (after_inputs (after_starts j.settings) w.inputs).books in
        (subst (λ (f : Bool). may_close f b ≡ true) e w.may, unstopped-by b.stop (λ q. (told-whole.stops Completed q).brings) (sym (stop-whole e) ∙ h)))
  ]

  stopped-by : (o : Option RunStop) → (after_inputs (after_starts j.settings) w.inputs).books.stop ≡ o → unwrap_or o Completed ≡ stop_of j → (stop_of j ≡ Completed → ⊥)
      → StopsBy j.settings (journal_of j.settings w.inputs) (stop_of j)
  stopped-by None q e n = absurd (n (sym e))
  stopped-by (Some how) q e n = subst (λ (x : RunStop). StopsBy j.settings (journal_of j.settings w.inputs) x) e (told-whole.stops how q)

  pub ends-whole : EndsRightly j
  ends-whole =
      let b = (after_inputs (after_starts j.settings) w.inputs).books in
      record {
        over = λ h. ap (λ (s : State). is_over s.books) state-whole ∙ (done-whole h).0;
        unstopped = λ h. ap (λ (s : State). is_stopped s.books) state-whole ∙ (done-whole h).1;
        stop = λ n o. elim (cases_of w.out_failed) [
          | inl e ↦ absurd (o (stop-faulty e))
          | inr e ↦ subst (λ (es : List Entry). StopsBy j.settings es (stop_of j)) (sym w.entries)
              (stops-following j.settings (journal_of j.settings w.inputs) (ending w.out_failed b) (stop_of j) (stopped-by b.stop refl (sym (stop-whole e)) n))
        ];
      }

  -- its reports

  tests-whole : tests_in j ≡ collected (after_inputs (after_starts j.settings) w.inputs).books
  tests-whole = ap (λ (s : State). collected s.books) state-whole

  told-alike : (x : ℕ) → times x (map item_of (reports_in j)) ≡ times x (map item_of (reports j.settings (journal_of j.settings w.inputs)))
  told-alike x = ap (λ (rs : List Report). times x (map item_of rs)) reports-whole

  pub names-whole : NamesEach j
  names-whole =
      let s = after_inputs (after_starts j.settings) w.inputs in
      let r = reported_once j.settings w.inputs w.proper in
      record {
        at_most = λ x. (let a = told-alike x in let b = r.at_most x in omega (arith, a, b));
        no_other = λ x h. told-alike x ∙ (elim (cases_of s.books.shared) [
          | inl e ↦
              (let t : total s.plan ≡ collected s.books = shared_total j.settings w.inputs w.proper e in
              let u = tests-whole in
              r.no_other x (omega (arith, t, u, h)))
          | inr e ↦ none-reported j.settings w.inputs w.proper e x
        ]);
        each = λ h x l.
            (let d = done-whole h in
            let shared = over-shared s (lawful j.settings w.inputs w.proper).tidy d.0 d.1 in
            let t : total s.plan ≡ collected s.books = shared_total j.settings w.inputs w.proper shared in
            let u = tests-whole in
            told-alike x ∙ r.all_told d.0 d.1 x (omega (arith, t, u, l)));
      }
