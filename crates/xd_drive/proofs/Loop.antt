-- From one piece of news to the next.
use Rattle.std.proofs.Common.{◌≡◌, ℕ, zero, suc, ◌+◌, ◌≤◌, ◌<◌, List, [], ◌∷◌, ◌++◌, length, take, drop, length-append, Bool, true, false, not, ◌||◌, Option, refl, sym, ◌∙◌, ap, subst, arith, inl, inr, append_assoc}
use Rattle.std.specs.Prelude.{◌==◌, ◌⊎◌, nat_lt, if◌then◌else◌}
use Rattle.std.specs.List.{list_any}
use Rattle.std.proofs.Math.Path.{fun_ext}
use Rattle.std.proofs.Math.Seq.{take-append_seam}
use Rattle.std.proofs.lemmas.Bool.Decides.{nat_tests}
use Rattle.std.proofs.lemmas.Grind.{fold-append}
use Rattle.std.proofs.lemmas.List.{drop_all, drop_at, take_all}
use Rattle.std.proofs.lemmas.List.Folds.{list_any-append}
use Rattle.xd_edge.specs.Sink.{Printed, TookPart}
use Rattle.xd_journal.specs.declared.settings.Settings.{Settings}
use Rattle.xd_journal.specs.declared.news.News.{News}
use Rattle.xd_journal.specs.declared.entry.Entry.{Entry}
use Rattle.xd_journal.specs.declared.entry.Entry.TheVariants.{Start}
use Rattle.xd_journal.specs.declared.journal.Journal.{Journal}
use Rattle.xd_run.specs.Workers.{started, is_active}
use Rattle.xd_run.specs.Sharing.{State}
use Rattle.xd_run.specs.State.{after_entries, after_effect, after_entry, no_one, reached}
use Rattle.xd_run.specs.Ending.{ending}
use Rattle.xd_run.specs.Histories.{after_starts, first_starts, is_over, starts_from}
use Rattle.xd_run.specs.Proper.{IsProper}
use Rattle.xd_report.specs.Lines.{lines_from, lines_of, run_lines}
use Rattle.xd_report.specs.Text.{run_tail, run_text, tail_text}
use Rattle.xd_session.specs.History.{run_of}
use Rattle.xd_session.specs.Stands.{SessionSeen, StandsForNews, state_of}
use Rattle.xd_run_laws.proofs.Logic.{and, cases_of, differ}
use Rattle.xd_run_laws.proofs.Members.{has}
use Rattle.xd_drive.specs.declared.written.Written.{Written}
use Rattle.xd_drive.specs.declared.written.Written.TheVariants.{Whole, Broken}
use Rattle.xd_drive.specs.Agrees.{Agrees}
use Rattle.xd_drive.specs.Going.{EndsRun, EndsTail, Finished, Going, HasNoMarks, Stopped, TakesNews, Untold}
use Rattle.xd_drive.specs.Marks.{Marks}
use Rattle.xd_drive.specs.Moments.{LinesFirst, LinesFirstOf}
use Rattle.xd_drive.specs.Performing.{marks_after, marks_after_entry, all_possible, is_start_of, kills_of_started, was_started}
use Rattle.xd_drive.specs.Seen.{HubScene, HubSeen, Performs, HubTells, TurnScene}
use Rattle.xd_edge.specs.Printing.{BreaksOff, ShowsSome}
use Rattle.xd_report.specs.Printing.{ShowsEnd}
use Rattle.xd_drive.specs.Taken.{AreInTime, run_given, taken_of, taken_with}
use Rattle.xd_drive.proofs.InTime.{in-time-more, in-time-none}
use Rattle.xd_drive.proofs.Kills.{ending-possible, kills-go}
use Rattle.xd_drive.proofs.Outs.{goes-start, started-more}
use Rattle.xd_drive.proofs.LinesFirst.{first-more, lines-all, lines-none}
use Rattle.xd_drive.proofs.Performs.{tells-first, tells-gave, tells-more}
use Rattle.xd_edge.proofs.PrintLemmas.{shows-all, shows-more}
use Rattle.xd_report.proofs.Prints.{shows-end}
use Rattle.xd_drive.proofs.Stepped.{started-by, state-is}
use Rattle.xd_drive.proofs.Texts.{first-lines, tail-is}

-- the first starts

agrees-none : (settings : Settings) (marks : ℕ → Marks) → HasNoMarks marks → Agrees (no_one settings).books marks
agrees-none settings marks f = record {
  started = λ w. ap (λ (m : Marks). m.started) (f w);
  killed = λ w h. absurd (differ (sym (ap (λ (m : Marks). m.killed) (f w)) ∙ h));
  ended = λ w h. absurd (differ (sym (ap (λ (m : Marks). m.ended) (f w)) ∙ h));
  ready = λ w h. absurd (differ h);
}

pub record Starts (slots : ℕ) (marks : ℕ → Marks) (es : List Entry) (following : State) : Type 0 where
  pub possible : all_possible slots marks es ≡ true
  pub agrees : Agrees following.books (marks_after es marks)

starts-go : (slots : ℕ) (k w : ℕ) (s : State) (marks : ℕ → Marks) → ((v : ℕ) → has v (λ m. true) s.books.members ≡ true → v < w) → Agrees s.books marks → w + k ≤ slots → Starts slots marks (starts_from w k) (after_entries s (starts_from w k))
starts-go slots zero w s marks below a l = record { possible = refl; agrees = a }
starts-go slots (suc k) w s marks below a l =
    let new : has w (λ m. true) s.books.members ≡ false = elim (cases_of (has w (λ m. true) s.books.members)) [ inl h ↦ (let x = below w h in absurd (omega (arith, x))) | inr h ↦ h ] in
    let room : nat_lt w slots ≡ true = lower w slots (omega (arith, l)) in
    let one = goes-start slots marks s w w room (ap not new) a in
    let more = starts-go slots k (w + 1) (after_effect s (Start w w)) (marks_after_entry (Start w w) marks) (λ v h. below-next v h) one.agrees (omega (arith, l)) in
    record { possible = and one.possible more.possible; agrees = more.agrees }
  where
    lower : (x y : ℕ) → x < y → nat_lt x y ≡ true
    lower x y h = grind (arith, nat_tests)

    by_either : (b : Bool) (v : ℕ) → (b || (w == v)) ≡ true → (b ≡ true → v < w) → v < w + 1
    by_either true v h f = (let x = f refl in omega (arith, x))
    by_either false v h f = grind (arith, nat_tests, h)

    below-next : (v : ℕ) → has v (λ m. true) (s.books.members ++ started w w ∷ []) ≡ true → v < w + 1
    below-next v h = by_either (has v (λ m. true) s.books.members) v (sym (started-more s.books.members w w v) ∙ h) (below v)

pub starts : (settings : Settings) (slots : ℕ) (marks : ℕ → Marks) → settings.workers ≤ slots → HasNoMarks marks → Starts slots marks (first_starts settings) (after_entries (no_one settings) (first_starts settings))
starts settings slots marks l f = starts-go slots settings.workers 0 (no_one settings) marks (λ v h. absurd (differ h)) (agrees-none settings marks f) (omega (arith, l))

-- lines

pub lines-join : (s : State) (xs ys : List Entry) → lines_from s (xs ++ ys) ≡ lines_from s xs ++ lines_from (after_entries s xs) ys
lines-join s [] ys = refl
lines-join s (x ∷ xs) ys = ap (λ (l : List ℕ). lines_of (reached s x) x ++ l) (lines-join (after_entry s x) xs ys) ∙ sym (append_assoc (lines_of (reached s x) x) (lines_from (after_entry s x) xs) (lines_from (after_entries (after_entry s x) xs) ys))

-- one more

pub taken-more : (settings : Settings) (given : List News) (n : News) → taken_of settings (given ++ n ∷ []) ≡ taken_with settings (taken_of settings given) n
taken-more settings given n = fold-append (taken_with settings) [] given (n ∷ [])

stands-more : (given : List News) (n : News) (s0 s1 : SessionSeen) → s1.settings ≡ s0.settings → StandsForNews (taken_with s0.settings (taken_of s0.settings given) n) s1 → StandsForNews (taken_of s1.settings (given ++ n ∷ [])) s1
stands-more given n s0 s1 same st = subst (λ (t : List News). StandsForNews t s1) (sym (taken-more s0.settings given n) ∙ ap (λ (x : Settings). taken_of x (given ++ n ∷ [])) (sym same)) st

module _ (given : List News) (n : News) (s0 s1 : SessionSeen) (old mid new : HubScene) (ms after : List TurnScene) (g : Going given s0 old mid ms) where
  lines-more : (more : List Entry) → s1.settings ≡ s0.settings → s1.entries ≡ s0.entries ++ more → run_lines s1.settings s1.entries ≡ run_lines s0.settings s0.entries ++ lines_from (after_entries (no_one s0.settings) s0.entries) more
  lines-more more same is = ap (λ (x : Settings). run_lines x s1.entries) same ∙ ap (run_lines s0.settings) is ∙ lines-join (no_one s0.settings) s0.entries more

  shows-next : TakesNews n Whole s0 s1 mid new ms after → ShowsSome (run_lines s1.settings s1.entries) old.sunk new.sunk
  shows-next t =
      subst (λ (l : List ℕ). ShowsSome l old.sunk new.sunk) (sym (lines-more (t.told.0) t.settings t.told.1.entries))
      (shows-more (run_lines s0.settings s0.entries) _ old.sunk mid.sunk new.sunk g.shows t.told.1.shows)

  -- the news were asked for in a run that goes on
  in-time : IsProper s0.settings [] → is_over (state_of s0).books ≡ false → s1.settings ≡ s0.settings → AreInTime s1.settings (given ++ n ∷ [])
  in-time proper on same =
      subst (λ (x : Settings). AreInTime x (given ++ n ∷ [])) (sym same)
      (in-time-more s0.settings given n g.in_time (ap (λ (x : State). is_over x.books) (sym (state-is s0 (taken_of s0.settings given) proper g.stands)) ∙ on))

  -- the lines of the news were printed before what they make was performed
  lines-next : (t : TakesNews n Whole s0 s1 mid new ms after) → StandsForNews (taken_of s1.settings (given ++ n ∷ [])) s1 → LinesFirst s1.settings (given ++ n ∷ []) old after
  lines-next t st =
      let told = t.told.1 in
      subst (λ (k : List TurnScene). LinesFirst s1.settings (given ++ n ∷ []) old k) (sym told.notes)
      (first-more s1.settings old ms given n mid new told.between (subst (λ (x : Settings). LinesFirst x given old ms) (sym t.settings) g.lines_first)
      (subst (λ (x : Settings). HubTells (run_given x given).entries given old.seen mid.seen) (sym t.settings) (subst (λ (es : List Entry). HubTells es given old.seen mid.seen) g.stands.entries g.tells))
      told.gave told.printed (subst (λ (es : List Entry). ShowsSome (run_lines s1.settings es) old.sunk new.sunk) st.entries (shows-next t)))

  pub going-next : IsProper s0.settings [] → is_over (state_of s0).books ≡ false → TakesNews n Whole s0 s1 mid new ms after → Going (given ++ n ∷ []) s1 old new after
  going-next proper on t =
      let more = t.told.0 in
      let told = t.told.1 in
      let st = stands-more given n s0 s1 t.settings (t.stands (taken_of s0.settings given) g.stands) in
      record {
        stands = st;
        tells = subst (λ (es : List Entry). HubTells es (given ++ n ∷ []) old.seen new.seen) (sym told.entries) (tells-more s0.entries more given (n ∷ []) old.seen mid.seen new.seen g.tells told.tells);
        agrees = told.agrees;
        started = λ w. told.started w ∙ ap (λ (b : Bool). b || was_started w more) (g.started w) ∙ sym (list_any-append (is_start_of w) s0.entries more) ∙ ap (was_started w) (sym told.entries);
        in_time = in-time proper on t.settings;
        lines_first = lines-next t st;
        shows = shows-next t;
      }

  -- the output failed at the lines of the news
  module _ (proper : IsProper s0.settings []) (on : is_over (state_of s0).books ≡ false) (count : ℕ) (t : TakesNews n (Broken count) s0 s1 mid new ms after) where
    abbrev more : List Entry
    more = t.told.0

    abbrev u : Untold n count (t.told.0) s0 s1 mid new ms after
    u = t.told.1

    before-is : take count s1.entries ≡ s0.entries
    before-is = ap (λ (k : ℕ). take k s1.entries) u.count_is ∙ ap (take (length s0.entries)) u.entries ∙ take-append_seam s0.entries more

    left-is : drop count s1.entries ≡ more
    left-is = ap (drop count) u.entries ∙ drop_at s0.entries more count (sym u.count_is)

    taken-was : taken_of s1.settings (given ++ n ∷ []) ≡ taken_of s0.settings given ++ n ∷ []
    taken-was =
        ap (λ (x : Settings). taken_of x (given ++ n ∷ [])) t.settings ∙ taken-more s0.settings given n
        ∙ ap (λ (b : Bool). if b then taken_of s0.settings given ++ n ∷ [] else taken_of s0.settings given)
        (ap (λ (x : State). is_active n.worker x.books) (sym (state-is s0 (taken_of s0.settings given) proper g.stands)) ∙ u.active)

    lines-before : run_lines s1.settings (take count s1.entries) ≡ run_lines s0.settings s0.entries
    lines-before = ap (λ (x : Settings). run_lines x (take count s1.entries)) t.settings ∙ ap (run_lines s0.settings) before-is

    lines-left : lines_from (after_entries (no_one s1.settings) (take count s1.entries)) (drop count s1.entries) ≡ lines_from (after_entries (no_one s0.settings) s0.entries) more
    lines-left =
        ap (λ (x : Settings). lines_from (after_entries (no_one x) (take count s1.entries)) (drop count s1.entries)) t.settings
        ∙ ap (λ (es : List Entry). lines_from (after_entries (no_one s0.settings) es) (drop count s1.entries)) before-is ∙ ap (lines_from (after_entries (no_one s0.settings) s0.entries)) left-is

    breaks : BreaksOff (run_lines s1.settings (take count s1.entries)) (lines_from (after_entries (no_one s1.settings) (take count s1.entries)) (drop count s1.entries)) old.sunk new.sunk
    breaks = (mid.sunk, subst (λ (l : List ℕ). ShowsSome l old.sunk mid.sunk) (sym lines-before) g.shows, subst (λ (l : List ℕ). TookPart l mid.sunk new.sunk) (sym lines-left) u.shows)

    lines-before-it : LinesFirstOf (take count s1.entries) s1.settings (given ++ n ∷ []) old after
    lines-before-it =
        subst (λ (x : Settings). LinesFirstOf (take count s1.entries) x (given ++ n ∷ []) old after) (sym t.settings)
        (subst (λ (k : List TurnScene). LinesFirstOf (take count s1.entries) s0.settings (given ++ n ∷ []) old k) (sym u.notes)
        (record { told = given; rest = n ∷ []; split = refl; make = before-is ∙ g.stands.entries; lines_first = g.lines_first }))

    pub going-stop : Stopped (given ++ n ∷ []) count s1 old new after
    going-stop = record {
      stands = stands-more given n s0 s1 t.settings (t.stands (taken_of s0.settings given) g.stands);
      tells = subst (λ (es : List Entry). HubTells es (given ++ n ∷ []) old.seen new.seen) (sym before-is) (tells-gave s0.entries given n old.seen mid.seen new.seen g.tells u.gave);
      lines_first = lines-before-it;
      started = λ w. u.started w ∙ g.started w ∙ ap (was_started w) (sym before-is);
      within = omega (arith, u.count_is, ap length u.entries, length-append s0.entries more);
      in_time = in-time proper on t.settings;
      kills = λ k. subst (λ (es : List Entry). all_possible k new.marks (kills_of_started (take count s1.entries) (es ++ ending true (state_of s1).books)) ≡ true) (sym left-is)
          (u.kills (take count s1.entries) (λ w h. u.started w ∙ g.started w ∙ ap (was_started w) (sym before-is) ∙ h) k);
      failed = inl (record {
        before = (taken_of s0.settings given, n, taken-was, before-is ∙ g.stands.entries ∙ ap (λ (x : Settings). (run_of x (taken_of s0.settings given)).entries) (sym t.settings));
        shows = breaks;
      });
    }

-- the tail

module _ (given : List News) (s : SessionSeen) (old mid new : HubScene) (ms : List TurnScene) (g : Going given s old mid ms) (seen_same : new.seen ≡ mid.seen) (marks_same : (w : ℕ) → new.marks w ≡ mid.marks w)
    (j : Journal) (settings_are : j.settings ≡ s.settings) (entries_are : j.entries.items ≡ s.entries) where
  tail-same : tail_text j ≡ run_tail s.settings s.entries
  tail-same = tail-is j s.settings s.entries settings_are entries_are

  tells-same : HubTells s.entries given old.seen new.seen
  tells-same = subst (λ (x : Option HubSeen). HubTells s.entries given old.seen x) (sym seen_same) g.tells

  pub finished : is_over (state_of s).books ≡ true → ShowsEnd true (tail_text j) mid.sunk new.sunk → Finished given s old new ms
  finished over shown = record {
    stands = g.stands;
    tells = tells-same;
    lines_first = g.lines_first;
    over = over;
    in_time = g.in_time;
    shows = shows-end (run_lines s.settings s.entries) (run_tail s.settings s.entries) old.sunk mid.sunk new.sunk g.shows (subst (λ (l : List ℕ). ShowsEnd true l mid.sunk new.sunk) tail-same shown);
  }

  -- what the tail comes to where the output failed
  tail-breaks : (count : ℕ) → take count s.entries ≡ s.entries → ShowsEnd false (tail_text j) mid.sunk new.sunk
      → BreaksOff (run_lines s.settings (take count s.entries)) (run_tail s.settings s.entries) old.sunk new.sunk ⊎ Printed (run_text s.settings s.entries) old.sunk new.sunk
  tail-breaks count all (inl p) = inl (mid.sunk, subst (λ (es : List Entry). ShowsSome (run_lines s.settings es) old.sunk mid.sunk) (sym all) g.shows, subst (λ (l : List ℕ). TookPart l mid.sunk new.sunk) tail-same p)
  tail-breaks count all (inr p) = inr (shows-all (run_lines s.settings s.entries) (run_tail s.settings s.entries) old.sunk mid.sunk new.sunk g.shows (subst (λ (l : List ℕ). Printed l mid.sunk new.sunk) tail-same p))

  pub unfinished : is_over (state_of s).books ≡ true → IsProper s.settings [] → (count : ℕ) → count ≡ length s.entries → ShowsEnd false (tail_text j) mid.sunk new.sunk → Stopped given count s old new ms
  unfinished over proper count counted shown =
      let all : take count s.entries ≡ s.entries = take_all count s.entries (omega (arith, counted)) in
      record {
        stands = g.stands;
        tells = subst (λ (es : List Entry). HubTells es given old.seen new.seen) (sym all) tells-same;
        lines_first = lines-all s.settings old ms (take count s.entries) given (all ∙ g.stands.entries) g.lines_first;
        started = λ w. ap (λ (m : Marks). m.started) (marks_same w) ∙ g.started w ∙ ap (was_started w) (sym all);
        within = omega (arith, counted);
        in_time = g.in_time;
        kills = λ k. kills-go (take count s.entries) k k (drop count s.entries ++ ending true (state_of s).books) new.marks new.marks
            (λ w h. ap (λ (m : Marks). m.started) (marks_same w) ∙ g.started w ∙ ap (was_started w) (sym all) ∙ h) (λ w h. h)
            (subst (λ (es : List Entry). all_possible k new.marks (es ++ ending true (state_of s).books) ≡ true) (sym (drop_all count s.entries (omega (arith, counted))))
            (ending-possible s.settings (taken_of s.settings given) k (state_of s).books new.marks proper (ap (λ (x : State). x.books) (state-is s (taken_of s.settings given) proper g.stands))
            (subst (λ (f : ℕ → Marks). Agrees (state_of s).books f) (sym (fun_ext marks_same)) g.agrees)));
        failed = inr (record {
          over = ap (λ (x : State). is_over x.books) (sym (state-is s (taken_of s.settings given) proper g.stands)) ∙ over;
          all = all ∙ g.stands.entries;
          shows = tail-breaks count all shown;
        });
      }

-- the beginning

pub going-first : (s : SessionSeen) (slots : ℕ) (old new : HubScene) (ms : List TurnScene) → s.settings.workers ≤ slots → StandsForNews [] s → HasNoMarks old.marks → Performs s.entries old.seen new.seen
    → ((w : ℕ) → new.marks w ≡ marks_after s.entries old.marks w) → new.sunk ≡ old.sunk → Going [] s old new ms
going-first s slots old new ms l st fresh performed marks sunk =
    let b = starts s.settings slots old.marks l fresh in
    let m : new.marks ≡ marks_after (first_starts s.settings) old.marks = fun_ext marks ∙ ap (λ (es : List Entry). marks_after es old.marks) st.entries in
    record {
      stands = st;
      tells = tells-first s.entries old.seen new.seen performed;
      agrees = subst (λ (es : List Entry). Agrees (Rattle.xd_run.specs.State.state_at s.settings es).books new.marks) (sym st.entries) (subst (λ (f : ℕ → Marks). Agrees (after_starts s.settings).books f) (sym m)
          (record { started = b.agrees.started; killed = b.agrees.killed; ended = b.agrees.ended; ready = b.agrees.ready }));
      started = λ w. ap (λ (x : Marks). x.started) (marks w) ∙ started-by s.entries old.marks w ∙ ap (λ (x : Marks). x.started || was_started w s.entries) (fresh w);
      in_time = in-time-none s.settings;
      lines_first = lines-none s.settings old ms;
      shows = inl (ap (run_lines s.settings) st.entries ∙ first-lines s.settings, sunk);
    }

pub first-possible : (s : SessionSeen) (slots : ℕ) (marks : ℕ → Marks) (es : List Entry) → s.settings.workers ≤ slots → StandsForNews [] s → HasNoMarks marks → es ≡ s.entries → all_possible slots marks es ≡ true
first-possible s slots marks es l st fresh is = ap (all_possible slots marks) (is ∙ st.entries) ∙ (starts s.settings slots marks l fresh).possible

-- someone was started

pub someone-first : (s : SessionSeen) (old new : HubScene) (ms : List TurnScene) → IsProper s.settings [] → StandsForNews [] s → Going [] s old new ms → (w : ℕ) × ((new.marks w).started ≡ true)
someone-first s old new ms p st g = (0, g.started 0 ∙ ap (was_started 0) st.entries ∙ by_count s.settings.workers p.some_worker)
  where
    by_count : (k : ℕ) → Rattle.std.specs.Prelude.nat_le 1 k ≡ true → was_started 0 (starts_from 0 k) ≡ true
    by_count zero h = absurd (differ h)
    by_count (suc k) h = refl

pub someone-still : (n : News) (s0 s1 : SessionSeen) (mid new : HubScene) (ms after : List TurnScene) → TakesNews n Whole s0 s1 mid new ms after → (w : ℕ) × ((mid.marks w).started ≡ true) → (w : ℕ) × ((new.marks w).started ≡ true)
someone-still n s0 s1 mid new ms after t w = (w.0, t.told.1.started w.0 ∙ ap (λ (b : Bool). b || was_started w.0 (t.told.0)) w.1)

-- what the last step of the loop comes to

pub begins : (s : SessionSeen) (slots : ℕ) (old new : HubScene) (ms : List TurnScene) (es : List Entry) → es ≡ s.entries → s.settings.workers ≤ slots → StandsForNews [] s → HasNoMarks old.marks → Performs es old.seen new.seen
    → ((w : ℕ) → new.marks w ≡ marks_after es old.marks w) → new.sunk ≡ old.sunk → Going [] s old new ms
begins s slots old new ms es is l st fresh performed marks sunk =
    going-first s slots old new ms l st fresh (subst (λ (x : List Entry). Performs x old.seen new.seen) is performed) (λ w. marks w ∙ ap (λ (x : List Entry). marks_after x old.marks w) is) sunk

pub over-ends : (given : List News) (s : SessionSeen) (old mid new : HubScene) (ms : List TurnScene) (g : Going given s old mid ms) (seen_same : new.seen ≡ mid.seen) (marks_same : (w : ℕ) → new.marks w ≡ mid.marks w)
    (j : Journal) → j.settings ≡ s.settings → j.entries.items ≡ s.entries → is_over (state_of s).books ≡ true → IsProper s.settings [] → (written : Written) → EndsTail written j mid.sunk new.sunk → EndsRun written s old new ms
over-ends given s old mid new ms g a b j e f over p Whole t = (given, finished given s old mid new ms g a b j e f over t)
over-ends given s old mid new ms g a b j e f over p (Broken count) t = (given, unfinished given s old mid new ms g a b j e f over p count (t.0 ∙ ap length f) t.1)

pub stop-by : (given : List News) (n : News) (s0 s1 : SessionSeen) (old mid new : HubScene) (ms after : List TurnScene) → Going given s0 old mid ms → IsProper s0.settings [] → is_over (state_of s0).books ≡ false → (written : Written) (count : ℕ) → written ≡ Broken count → TakesNews n written s0 s1 mid new ms after
    → (all : List News) × Stopped all count s1 old new after
stop-by given n s0 s1 old mid new ms after g p on written count is t = (given ++ n ∷ [], going-stop given n s0 s1 old mid new ms after g p on count (subst (λ (o : Written). TakesNews n o s0 s1 mid new ms after) is t))

pub whole-of : (o : Written) → ((x : ℕ) → o ≡ Broken x → ⊥) → o ≡ Whole
whole-of Whole h = refl
whole-of (Broken x) h = absurd (h x refl)

pub takes-whole : (n : News) (s0 s1 : SessionSeen) (mid new : HubScene) (ms after : List TurnScene) (written : Written) → ((x : ℕ) → written ≡ Broken x → ⊥) → TakesNews n written s0 s1 mid new ms after → TakesNews n Whole s0 s1 mid new ms after
takes-whole n s0 s1 mid new ms after written h t = subst (λ (o : Written). TakesNews n o s0 s1 mid new ms after) (whole-of written h) t
