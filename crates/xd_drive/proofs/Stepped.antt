-- A session after one more piece of news.
use Rattle.std.proofs.Common.{◌≡◌, ℕ, ◌-◌, ◌≤◌, List, [], ◌∷◌, ◌++◌, length, take, drop, Bool, true, false, ◌&&◌, ◌||◌, Option, Some, None, refl, sym, ◌∙◌, ap, subst, arith, inl, inr, length-append}
use Rattle.std.specs.Prelude.{◌==◌, if◌then◌else◌}
use Rattle.std.proofs.Math.Path.{fun_ext}
use Rattle.std.proofs.lemmas.Bool.Decides.{nat_tests}
use Rattle.std.proofs.lemmas.List.{append-nil, take_all, drop_at}
use Rattle.xd_edge.specs.Sink.{Sunk, TookPart}
use Rattle.xd_journal.specs.declared.settings.Settings.{Settings}
use Rattle.xd_journal.specs.declared.news.News.{News}
use Rattle.xd_journal.specs.declared.entry.Entry.{Entry}
use Rattle.xd_journal.specs.declared.entry.Entry.TheVariants.{Start, Kill}
use Rattle.xd_journal.specs.declared.journal.Journal.{Journal}
use Rattle.xd_run.specs.Books.{Books}
use Rattle.xd_run.specs.Ending.{ending}
use Rattle.xd_run.specs.Workers.{has_member, is_active}
use Rattle.xd_run.specs.Sharing.{State}
use Rattle.xd_run.specs.State.{after_entries, no_one, state_at}
use Rattle.xd_run.specs.Proper.{IsProper}
use Rattle.xd_report.specs.declared.reporter.Reporter.{Reporter}
use Rattle.xd_report.specs.Follows.{Follows}
use Rattle.xd_report.specs.Lines.{lines_between, lines_from}
use Rattle.xd_session.specs.History.{Run as TheRun, input_of, run_of}
use Rattle.xd_session.specs.Stands.{SessionSeen, StandsForNews, state_of}
use Rattle.xd_run_laws.proofs.Logic.{split-and, split-or}
use Rattle.xd_drive.specs.declared.written.Written.TheVariants.{Whole, Broken}
use Rattle.xd_drive.specs.Agrees.{Agrees}
use Rattle.xd_drive.specs.Going.{TakesNews, TellsEntries, added_by}
use Rattle.xd_journal.specs.Said.{is_end}
use Rattle.xd_drive.specs.Marks.{Marks, marked_heard}
use Rattle.xd_drive.specs.Moments.{NotesTurn}
use Rattle.xd_drive.specs.Seen.{GaveNews, HubScene, HubSeen, Performs, TurnScene}
use Rattle.xd_drive.specs.Performing.{marks_after, marks_after_entry, all_possible, entries_between, is_start_of, was_started}
use Rattle.xd_report.specs.Printing.{ShowsLines}
use Rattle.xd_drive.specs.Taken.{taken_with}
use Rattle.xd_drive.proofs.Follow.{follows-same}
use Rattle.xd_drive.proofs.Kills.{ending-possible, kills-go, possible-both}
use Rattle.xd_drive.proofs.Performs.{all_possible-same, gave-performed, performs-none}
use Rattle.xd_drive.proofs.Runs.{in_run, run-more}
use Rattle.xd_drive.proofs.Turns.{bounded, entries-added, heard_by, step-agrees, step-possible}

-- the state of a session is the one of the run that it stands for
pub state-is : (s : SessionSeen) (taken : List News) → IsProper s.settings [] → StandsForNews taken s → state_of s ≡ (run_of s.settings taken).state
state-is s taken p st = ap (state_at s.settings) st.entries ∙ (in_run s.settings p taken).following

new_ones : (old more new : List Entry) → new ≡ old ++ more → take (length new - length old) (drop (length old) new) ≡ more
new_ones old more new is =
    let at : drop (length old) new ≡ more = ap (λ (l : List Entry). drop (length old) l) is ∙ drop_at old more (length old) refl in
    ap (λ (l : List Entry). take (length new - length old) l) at ∙ take_all _ _ (omega (arith, ap length is, length-append old more))

old_ones : (old more new : List Entry) → new ≡ old ++ more → take (length old) new ≡ old
old_ones old more new is = ap (take (length old)) is ∙ Rattle.std.proofs.Math.Seq.take-append_seam old more

module _ (s0 s1 : SessionSeen) (taken : List News) (n : News) (st0 : StandsForNews taken s0) (st1 : StandsForNews (taken ++ n ∷ []) s1) (same : s1.settings ≡ s0.settings) where
  abbrev more : List Entry
  more = added_by s0.settings taken n

  pub entries-more : s1.entries ≡ s0.entries ++ more
  entries-more =
      st1.entries ∙ ap (λ (x : Settings). (run_of x (taken ++ n ∷ [])).entries) same ∙ ap (λ (q : TheRun). q.entries) (run-more s0.settings taken n)
      ∙ entries-added (run_of s0.settings taken) (input_of (run_of s0.settings taken) n) ∙ ap (λ (es : List Entry). es ++ more) (sym st0.entries)

  module _ (from to : ℕ) (j : Journal) (first : from ≡ length s0.entries) (last : to ≡ length s1.entries) (settings_are : j.settings ≡ s1.settings) (entries_are : j.entries.items ≡ s1.entries) where
    pub in_order : from ≤ to
    in_order = omega (arith, first, last, ap length entries-more, length-append s0.entries more)

    pub between-is : entries_between from to j.entries.items ≡ more
    between-is =
        ap (λ (k : ℕ). take (to - k) (drop k j.entries.items)) first ∙ ap (λ (k : ℕ). take (k - length s0.entries) (drop (length s0.entries) j.entries.items)) last
        ∙ ap (λ (es : List Entry). take (length s1.entries - length s0.entries) (drop (length s0.entries) es)) entries_are ∙ new_ones s0.entries more s1.entries entries-more

    pub lines-are : lines_between j from to ≡ lines_from (after_entries (no_one s0.settings) s0.entries) more
    lines-are =
        let before : take from j.entries.items ≡ s0.entries =
        ap (λ (k : ℕ). take k j.entries.items) first ∙ ap (take (length s0.entries)) entries_are ∙ old_ones s0.entries more s1.entries entries-more in
        ap (λ (es : List Entry). lines_from (after_entries (no_one j.settings) (take from j.entries.items)) es) between-is
        ∙ ap (λ (es : List Entry). lines_from (after_entries (no_one j.settings) es) more) before ∙ ap (λ (x : Settings). lines_from (after_entries (no_one x) s0.entries) more) (settings_are ∙ same)

    pub follows-before : (r : Reporter) → Follows r (after_entries (no_one s0.settings) s0.entries) → Follows r (after_entries (no_one j.settings) (take from j.entries.items))
    follows-before r f = follows-same r s0.settings j.settings s0.entries (take from j.entries.items) (sym (settings_are ∙ same))
        (sym (ap (λ (k : ℕ). take k j.entries.items) first ∙ ap (take (length s0.entries)) entries_are ∙ old_ones s0.entries more s1.entries entries-more)) f

    pub follows-following : (r : Reporter) → Follows r (after_entries (no_one j.settings) (take to j.entries.items)) → Follows r (after_entries (no_one s1.settings) s1.entries)
    follows-following r f = follows-same r j.settings s1.settings (take to j.entries.items) s1.entries settings_are
        (ap (λ (k : ℕ). take k j.entries.items) last ∙ ap (take (length s1.entries)) entries_are ∙ take_all (length s1.entries) s1.entries (omega arith)) f

pub tells-as : (shown : Bool) (es fs : List Entry) (a b : List ℕ) (old new : HubScene) (ms after : List TurnScene) → es ≡ fs → a ≡ b → TellsEntries shown es a old new ms after → TellsEntries shown fs b old new ms after
tells-as shown es fs a b old new ms after e l t = subst (λ (x : List Entry). TellsEntries shown x b old new ms after) e (subst (λ (x : List ℕ). TellsEntries shown es x old new ms after) l t)

-- lines that were printed, a moment that was noted, and entries that were performed
pub tells-turn : (shown : Bool) → shown ≡ true → (es fs : List Entry) → fs ≡ es → (lines : List ℕ) (old new : HubScene) (ms after : List TurnScene) → Performs fs old.seen new.seen → ((w : ℕ) → new.marks w ≡ marks_after fs old.marks w)
    → NotesTurn true old new ms after → ShowsLines shown lines old.sunk new.sunk → TellsEntries true es lines old new ms after
tells-turn shown is es fs same lines old new ms after performed marks notes shows = record {
  performed = subst (λ (l : List Entry). Performs l old.seen new.seen) same performed;
  marks = λ w. marks w ∙ ap (λ (l : List Entry). marks_after l old.marks w) same;
  notes = notes;
  shows = subst (λ (b : Bool). ShowsLines b lines old.sunk new.sunk) is shows;
}

-- the news of a worker that is not active

agrees-inactive : (b : Books) (marks : ℕ → Marks) (n : News) → has_member n.worker (λ m. true) b ≡ true → is_active n.worker b ≡ false → Agrees b marks → Agrees b (λ w. marked_heard n w (marks w))
agrees-inactive b marks n member off a = record {
  started = a.started;
  killed = a.killed;
  ended = λ w h. elim (split-or (marks w).ended (n.worker == w && is_end n.what) h) [
    | inl old ↦ a.ended w old
    | inr new ↦
        (let same : n.worker ≡ w = same_of n.worker w (split-and (n.worker == w) (is_end n.what) new).0 in
        subst (λ (v : ℕ). (has_member v (λ m. true) b ≡ true) × (is_active v b ≡ false)) same (member, off))
  ];
  ready = λ w h. ap (λ (q : Bool). q || (n.worker == w && Rattle.xd_journal.specs.Said.is_ready n.what)) (a.ready w h);
}
  where
    same_of : (v w : ℕ) → (v == w) ≡ true → v ≡ w
    same_of v w h = grind (arith, nat_tests)

-- who is started by these
pub started-by : (es : List Entry) (marks : ℕ → Marks) (w : ℕ) → (marks_after es marks w).started ≡ ((marks w).started || was_started w es)
started-by [] marks w = or-none (marks w).started
  where
    or-none : (b : Bool) → b ≡ (b || false)
    or-none true = refl
    or-none false = refl
started-by (e ∷ es) marks w = started-by es (marks_after_entry e marks) w ∙ ap (λ (b : Bool). b || was_started w es) (one e) ∙ or-join (marks w).started (is_start_of w e) (was_started w es)
  where
    or-join : (a b c : Bool) → ((a || b) || c) ≡ (a || (b || c))
    or-join true b c = refl
    or-join false b c = refl

    or-none : (b : Bool) → b ≡ (b || false)
    or-none true = refl
    or-none false = refl

    one : (x : Entry) → (marks_after_entry x marks w).started ≡ ((marks w).started || is_start_of w x)
    one (Start v slot) = refl
    one (Kill v) = or-none (marks w).started
    one _ = or-none (marks w).started

nothing-performed : (old new : Option HubSeen) → Performs [] old new → new ≡ old
nothing-performed old new h = h ∙ sym (performs-none old)

-- a piece of news that was given
module _ (s : SessionSeen) (proper : IsProper s.settings []) (n : News) (old mid : HubScene) (ms after : List TurnScene)
    (gave : GaveNews n old.seen mid.seen) (heard : (w : ℕ) → mid.marks w ≡ marked_heard n w (old.marks w)) (sunk : mid.sunk ≡ old.sunk)
    (agrees : Agrees (state_of s).books old.marks) (known : (old.marks n.worker).started ≡ true) where
  marks-are : mid.marks ≡ (λ w. marked_heard n w (old.marks w))
  marks-are = fun_ext heard

  taken-is : (b : Bool) (taken : List News) → StandsForNews taken s → is_active n.worker (state_of s).books ≡ b → taken_with s.settings taken n ≡ (if b then taken ++ n ∷ [] else taken)
  taken-is b taken st h = ap (λ (q : Bool). if q then taken ++ n ∷ [] else taken) (ap (λ (x : State). is_active n.worker x.books) (sym (state-is s taken proper st)) ∙ h)

  -- it is dropped
  pub dropped : is_active n.worker (state_of s).books ≡ false → (t : TurnScene) → t.seen ≡ mid.seen → t.sunk ≡ mid.sunk → after ≡ ms ++ t ∷ [] → (m : News) × TakesNews m Whole s s old mid ms after
  dropped off t seen printed noted = (
    n,
    record {
      settings = refl;
      stands = λ taken st. subst (λ (t : List News). StandsForNews t s) (sym (taken-is false taken st off)) st;
      told = (
        [],
        record {
          entries = sym (append-nil s.entries);
          tells = gave-performed n [] old.seen mid.seen mid.seen gave (performs-none mid.seen);
          agrees = subst (λ (f : ℕ → Marks). Agrees (state_of s).books f) (sym marks-are) (agrees-inactive (state_of s).books old.marks n (sym (agrees.started n.worker) ∙ known) off agrees);
          started = λ w. ap (λ (x : Marks). x.started) (heard w) ∙ or-none (old.marks w).started;
          between = t;
          notes = noted;
          gave = seen ∙ gave;
          printed = printed;
          shows = inl (refl, sunk);
        },
      );
    },
  )
    where
      or-none : (b : Bool) → b ≡ (b || false)
      or-none true = refl
      or-none false = refl

  module _ (slots : ℕ) (room : s.settings.workers ≤ slots) (on : is_active n.worker (state_of s).books ≡ true) where
    agrees-run : (taken : List News) → StandsForNews taken s → Agrees (run_of s.settings taken).state.books old.marks
    agrees-run taken st = subst (λ (x : State). Agrees x.books old.marks) (state-is s taken proper st) agrees

    on-run : (taken : List News) → StandsForNews taken s → is_active n.worker (run_of s.settings taken).state.books ≡ true
    on-run taken st = ap (λ (x : State). is_active n.worker x.books) (sym (state-is s taken proper st)) ∙ on

    pub tellable : (slots1 : ℕ) → slots1 ≡ slots → (taken : List News) → StandsForNews taken s → all_possible slots1 mid.marks (added_by s.settings taken n) ≡ true
    tellable slots1 sl taken st =
        all_possible-same slots slots1 (heard_by n old.marks) mid.marks (added_by s.settings taken n) sl heard
        (step-possible s.settings proper slots old.marks taken n room (bounded s.settings proper taken) (agrees-run taken st) (on-run taken st))

    -- it is taken, and s1 is the session after it
    module _ (s1 : SessionSeen) (stands : (taken : List News) → StandsForNews taken s → StandsForNews (taken ++ n ∷ []) s1) (same : s1.settings ≡ s.settings) (new : HubScene) (taken : List News) (st : StandsForNews taken s) where
      abbrev es : List Entry
      es = added_by s.settings taken n

      abbrev lines : List ℕ
      lines = lines_from (after_entries (no_one s.settings) s.entries) es

      stands-with : (t : List News) → StandsForNews t s → StandsForNews (taken_with s.settings t n) s1
      stands-with t k = subst (λ (x : List News). StandsForNews x s1) (sym (taken-is true t k on)) (stands t k)

      following : Agrees (state_of s1).books (marks_after es (heard_by n old.marks))
      following =
          let p1 : IsProper s1.settings [] = subst (λ (x : Settings). IsProper x []) (sym same) proper in
          subst (λ (x : State). Agrees x.books (marks_after es (heard_by n old.marks))) (sym (state-is s1 (taken ++ n ∷ []) p1 (stands taken st) ∙ ap (λ (x : Settings). (run_of x (taken ++ n ∷ [])).state) same))
          (step-agrees s.settings proper slots old.marks taken n room (bounded s.settings proper taken) (agrees-run taken st) (on-run taken st))

      rest-possible : all_possible slots mid.marks (es ++ ending true (state_of s1).books) ≡ true
      rest-possible =
          let p1 : IsProper s1.settings [] = subst (λ (x : Settings). IsProper x []) (sym same) proper in
          possible-both slots mid.marks es (ending true (state_of s1).books) (tellable slots refl taken st)
          (ending-possible s1.settings (taken ++ n ∷ []) slots (state_of s1).books (marks_after es mid.marks) p1 (ap (λ (x : State). x.books) (state-is s1 (taken ++ n ∷ []) p1 (stands taken st)))
          (subst (λ (f : ℕ → Marks). Agrees (state_of s1).books (marks_after es f)) (sym marks-are) following))

      pub told : TellsEntries true es lines mid new ms after → (m : News) × TakesNews m Whole s s1 old new ms after
      told t = (
        n,
        record {
          settings = same;
          stands = stands-with;
          told = (
            es,
            record {
              entries = entries-more s s1 taken n st (stands taken st) same;
              tells = gave-performed n es old.seen mid.seen new.seen gave t.performed;
              agrees = subst (λ (f : ℕ → Marks). Agrees (state_of s1).books f) (sym (fun_ext t.marks ∙ ap (marks_after es) marks-are)) following;
              started = λ w. ap (λ (x : Marks). x.started) (t.marks w) ∙ started-by es mid.marks w ∙ ap (λ (x : Marks). x.started || was_started w es) (heard w);
              between = t.notes.0;
              notes = t.notes.1;
              gave = t.notes.2 ∙ gave;
              printed = t.notes.3;
              shows = subst (λ (x : Option Sunk). ShowsLines true lines x new.sunk) sunk t.shows;
            },
          );
        },
      )

      pub untold : (count : ℕ) → count ≡ length s.entries → TellsEntries false es lines mid new ms after → (m : News) × TakesNews m (Broken count) s s1 old new ms after
      untold count counted t =
          let marks_same : (w : ℕ) → new.marks w ≡ marked_heard n w (old.marks w) = λ w. t.marks w ∙ heard w in (
            n,
            record {
              settings = same;
              stands = stands-with;
              told = (
                es,
                record {
                  entries = entries-more s s1 taken n st (stands taken st) same;
                  count_is = counted;
                  active = on;
                  gave = nothing-performed mid.seen new.seen t.performed ∙ gave;
                  started = λ w. ap (λ (x : Marks). x.started) (marks_same w);
                  kills = λ done f k. kills-go done slots k (es ++ ending true (state_of s1).books) mid.marks new.marks f (λ w h. ap (λ (x : Marks). x.killed) (t.marks w) ∙ h) rest-possible;
                  notes = t.notes;
                  shows = subst (λ (x : Option Sunk). TookPart lines x new.sunk) sunk t.shows;
                },
              );
            },
          )
