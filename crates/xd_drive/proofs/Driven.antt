-- A session that was driven to its end.
use Rattle.std.proofs.Common.{◌≡◌, ℕ, ◌-◌, List, [], ◌∷◌, ◌++◌, length, take, drop, filter, Bool, true, false, Option, refl, ap, sym, ◌∙◌, subst}
use Rattle.std.proofs.lemmas.List.{append-nil, drop-append-le, take-append-le, take_rest}
use Rattle.std.proofs.lemmas.List.Elements.{filter-append}
use Rattle.xd_edge.specs.Sink.{Sunk, PrintedPart}
use Rattle.xd_journal.specs.declared.settings.Settings.{Settings}
use Rattle.xd_journal.specs.declared.news.News.{News}
use Rattle.xd_journal.specs.declared.journal.Journal.{Journal}
use Rattle.xd_journal.specs.declared.entry.Entry.{Entry}
use Rattle.xd_journal.specs.declared.entry.Entry.TheVariants.{Over}
use Rattle.xd_run.specs.Books.{Books}
use Rattle.xd_run.specs.Ending.{ending, may_close, stop_of}
use Rattle.xd_run.specs.Histories.{after_starts, run_end_of, journal_of, after_inputs}
use Rattle.xd_run.specs.Legal.{IsLegal}
use Rattle.xd_run.specs.Proper.{IsProper}
use Rattle.xd_run.specs.Sharing.{State}
use Rattle.xd_run_laws.specs.Whole.{IsWhole}
use Rattle.xd_run_laws.proofs.Whole.{names-whole}
use Rattle.xd_report.specs.Text.{run_text, text_of}
use Rattle.xd_drive.proofs.Named.{names-items}
use Rattle.xd_session.specs.Bounded.{IsBounded}
use Rattle.xd_session.specs.Ends.{last_stop}
use Rattle.xd_session.specs.History.{run_of}
use Rattle.xd_session.specs.Stands.{SessionSeen, StandsForNews, state_of}
use Rattle.xd_session.proofs.Steps.{sound-run}
use Rattle.xd_drive.specs.declared.written.Written.{Written}
use Rattle.xd_drive.specs.declared.written.Written.TheVariants.{Whole as WholeAt, Broken as BrokenAt}
use Rattle.xd_drive.specs.Driven.{Broken, Ended, IsJournalOf, Whole}
use Rattle.xd_drive.specs.Failing.{FailedAt}
use Rattle.xd_drive.specs.Going.{EndsRun}
use Rattle.xd_drive.specs.Moments.{LinesFirst, LinesFirstOf}
use Rattle.xd_drive.specs.Performing.{all_possible, kills_of_started}
use Rattle.xd_drive.specs.Seen.{HubScene, HubSeen, Performs, HubTells, TurnScene}
use Rattle.xd_report.specs.Printing.{ShowsEnd}
use Rattle.xd_drive.specs.Taken.{AreInTime, run_given, taken_of}
use Rattle.xd_drive.proofs.Failing.{failed-following, failed-part}
use Rattle.xd_drive.proofs.Kept.{kept-ended}
use Rattle.xd_drive.proofs.Loop.{whole-of}
use Rattle.xd_drive.proofs.Performs.{performs-none, tells-performed}
use Rattle.xd_drive.proofs.Stepped.{state-is}
use Rattle.xd_drive.proofs.Texts.{silent-ending, text-following, text-is}

-- the end asks for no call where the run is over
over-tells : (es : List Entry) (b : Books) (given : List News) (old new : Option HubSeen) → HubTells es given old new → HubTells (es ++ ending false b) given old new
over-tells es b given old new t = tells-performed es (ending false b) given old new new t (performs-none new)

module _ (failed : Bool) (s : SessionSeen) (given : List News) (j : Journal) (p : IsProper s.settings []) (same : j.settings ≡ s.settings) (entries_are : j.entries.items ≡ s.entries ++ ending failed (state_of s).books) (st : StandsForNews (taken_of s.settings given) s) where
  ended : may_close failed (state_of s).books ≡ true → stop_of j ≡ last_stop failed (state_of s).books → AreInTime s.settings given → Ended failed given j
  ended may stop in_time = record {
    entries = entries_are ∙ ap (λ (es : List Entry). es ++ ending failed (state_of s).books) st.entries
        ∙ ap (λ (x : State). (run_given s.settings given).entries ++ ending failed x.books) (state-is s (taken_of s.settings given) p st)
        ∙ ap (λ (x : Settings). (run_given x given).entries ++ ending failed (run_given x given).state.books) (sym same);
    may_end = ap (λ (x : Settings). may_close failed (run_given x given).state.books) same ∙ ap (λ (x : State). may_close failed x.books) (sym (state-is s (taken_of s.settings given) p st)) ∙ may;
    stop = stop ∙ ap (λ (x : State). last_stop failed x.books) (state-is s (taken_of s.settings given) p st) ∙ ap (λ (x : Settings). last_stop failed (run_given x given).state.books) (sym same);
    in_time = subst (λ (x : Settings). AreInTime x given) (sym same) in_time;
  }

  text-same : text_of j ≡ run_text s.settings s.entries
  text-same = text-is j s.settings (s.entries ++ ending failed (state_of s).books) same entries_are ∙ text-following (ending failed (state_of s).books) (silent-ending failed (state_of s).books) s.settings s.entries

pub whole : (s : SessionSeen) (j : Journal) (old new : HubScene) (ms : List TurnScene) → IsProper s.settings [] → j.settings ≡ s.settings → j.entries.items ≡ s.entries ++ ending false (state_of s).books → stop_of j ≡ last_stop false (state_of s).books → EndsRun WholeAt s old new ms
    → (given : List News) × Whole given j old new ms
whole s j old new ms p same is stop e =
    let f = e.1 in (
      e.0,
      record {
        ended = ended false s (e.0) j p same is f.stands f.over stop f.in_time;
        tells = subst (λ (es : List Entry). HubTells es (e.0) old.seen new.seen) (sym is) (over-tells s.entries (state_of s).books (e.0) old.seen new.seen f.tells);
        lines_first = subst (λ (x : Settings). LinesFirst x (e.0) old ms) (sym same) f.lines_first;
        shows = subst (λ (l : List ℕ). ShowsEnd true l old.sunk new.sunk) (sym (text-same false s (e.0) j p same is f.stands)) f.shows;
      },
    )

pub kills-left : (count : ℕ) (s : SessionSeen) (j : Journal) (old new : HubScene) (ms : List TurnScene) (slots : ℕ) → j.entries.items ≡ s.entries ++ ending true (state_of s).books → EndsRun (BrokenAt count) s old new ms
    → all_possible slots new.marks (kills_of_started (take count j.entries.items) (drop count j.entries.items)) ≡ true
kills-left count s j old new ms slots is e =
    let f = e.1 in
    ap (λ (es : List Entry). all_possible slots new.marks (kills_of_started (take count es) (drop count es))) is
    ∙ ap (λ (es : List Entry). all_possible slots new.marks (kills_of_started es (drop count (s.entries ++ ending true (state_of s).books)))) (take-append-le count s.entries (ending true (state_of s).books) f.within)
    ∙ ap (λ (es : List Entry). all_possible slots new.marks (kills_of_started (take count s.entries) es)) (drop-append-le count s.entries (ending true (state_of s).books) f.within) ∙ f.kills slots

pub broken : (count : ℕ) (s : SessionSeen) (j : Journal) (old mid new : HubScene) (ms : List TurnScene) → IsProper s.settings [] → j.settings ≡ s.settings → j.entries.items ≡ s.entries ++ ending true (state_of s).books → stop_of j ≡ last_stop true (state_of s).books → EndsRun (BrokenAt count) s old mid ms
    → Performs (kills_of_started (take count j.entries.items) (drop count j.entries.items)) mid.seen new.seen → new.sunk ≡ mid.sunk → (given : List News) × Broken count given j old new ms
broken count s j old mid new ms p same is stop e kills sunk =
    let f = e.1 in
    let first : take count j.entries.items ≡ take count s.entries = ap (take count) is ∙ take-append-le count s.entries (ending true (state_of s).books) f.within in (
      e.0,
      record {
        ended = ended true s (e.0) j p same is f.stands refl stop f.in_time;
        tells = tells-performed (take count j.entries.items) (kills_of_started (take count j.entries.items) (drop count j.entries.items)) (e.0) old.seen mid.seen new.seen
            (subst (λ (es : List Entry). HubTells es (e.0) old.seen mid.seen) (sym first) f.tells) kills;
        lines_first = subst (λ (x : Settings). LinesFirstOf (take count j.entries.items) x (e.0) old ms) (sym same)
            (subst (λ (es : List Entry). LinesFirstOf es s.settings (e.0) old ms) (sym first) f.lines_first);
        failed = subst (λ (o : Option Sunk). FailedAt j.settings (taken_of j.settings (e.0)) count j.entries.items old.sunk o) (sym sunk)
            (subst (λ (x : Settings). FailedAt x (taken_of x (e.0)) count j.entries.items old.sunk mid.sunk) (sym same)
            (subst (λ (es : List Entry). FailedAt s.settings (taken_of s.settings (e.0)) count es old.sunk mid.sunk) (sym is)
            (failed-following s.settings (taken_of s.settings (e.0)) count s.entries old.sunk mid.sunk (ending true (state_of s).books) (silent-ending true (state_of s).books) f.within f.failed)));
        shows = subst (λ (o : Option Sunk). PrintedPart (text_of j) old.sunk o) (sym sunk) (subst (λ (l : List ℕ). PrintedPart l old.sunk mid.sunk) (sym (text-same true s (e.0) j p same is f.stands))
            (failed-part s.settings (taken_of s.settings (e.0)) count s.entries old.sunk mid.sunk f.stands.entries f.failed));
      },
    )

-- the journal is a whole one
pub whole-by : (failed : Bool) (s : SessionSeen) (j : Journal) (taken : List News) → IsProper s.settings [] → j.settings ≡ s.settings → j.entries.items ≡ s.entries ++ ending failed (state_of s).books
    → may_close failed (state_of s).books ≡ true → StandsForNews taken s → IsWhole j
whole-by failed s j taken p same is may st =
    let k = sound-run s.settings taken p in
    let ins = (run_of s.settings taken).inputs in
    let following : state_of s ≡ after_inputs (after_starts s.settings) ins = state-is s taken p st ∙ k.state in
    record {
      inputs = ins;
      proper = subst (λ (x : Settings). IsProper x ins) (sym same) k.proper;
      out_failed = failed;
      may = ap (λ (x : Settings). may_close failed (after_inputs (after_starts x) ins).books) same ∙ ap (λ (x : State). may_close failed x.books) (sym following) ∙ may;
      entries = is ∙ ap (λ (es : List Entry). es ++ ending failed (state_of s).books) (st.entries ∙ k.journal) ∙ ap (λ (x : State). journal_of s.settings ins ++ ending failed x.books) following
          ∙ ap (λ (x : Settings). journal_of x ins ++ ending failed (after_inputs (after_starts x) ins).books) (sym same);
    }

journal-by : (failed : Bool) (s : SessionSeen) (j : Journal) (taken : List News) → IsProper s.settings [] → j.settings ≡ s.settings → j.entries.items ≡ s.entries ++ ending failed (state_of s).books
    → may_close failed (state_of s).books ≡ true → IsLegal j → StandsForNews taken s → IsJournalOf s.settings j
journal-by failed s j taken p same is may legal st =
    let w = whole-by failed s j taken p same is may st in
    record {
      settings = same;
      legal = legal;
      kept = subst IsBounded (sym is) (kept-ended failed taken s st);
      each = names-whole j w;
      ids = names-items j w;
    }

-- in the words of the call

slices : (n : ℕ) (a b es : List Entry) → a ≡ es → b ≡ es → kills_of_started (take n a) (take (length b - n) (drop n b)) ≡ kills_of_started (take n es) (drop n es)
slices n a b es p q =
    ap (λ (x : List Entry). kills_of_started (take n x) (take (length b - n) (drop n b))) p ∙ ap (λ (y : List Entry). kills_of_started (take n es) (take (length y - n) (drop n y))) q
    ∙ ap (kills_of_started (take n es)) (take_rest es n)

module _ (settings : Settings) (s : SessionSeen) (j : Journal) (proper : IsProper settings []) (kept : s.settings ≡ settings) (same : j.settings ≡ s.settings) (written : Written) where
  still : IsProper s.settings []
  still = subst (λ (x : Settings). IsProper x []) (sym kept) proper

  pub drive-journal : (old new : HubScene) (ms : List TurnScene) → ((x : ℕ) → written ≡ BrokenAt x → ⊥) → j.entries.items ≡ s.entries ++ ending false (state_of s).books → IsLegal j → EndsRun written s old new ms → IsJournalOf settings j
  drive-journal old new ms none is legal e =
      let f = subst (λ (o : Written). EndsRun o s old new ms) (whole-of written none) e in
      subst (λ (x : Settings). IsJournalOf x j) kept (journal-by false s j (taken_of s.settings (f.0)) still same is f.1.over legal f.1.stands)

  pub drive-journal-broken : (count : ℕ) → written ≡ BrokenAt count → (old new : HubScene) (ms : List TurnScene) → j.entries.items ≡ s.entries ++ ending true (state_of s).books → IsLegal j → EndsRun written s old new ms → IsJournalOf settings j
  drive-journal-broken count some old new ms is legal e =
      let f = subst (λ (o : Written). EndsRun o s old new ms) some e in
      subst (λ (x : Settings). IsJournalOf x j) kept (journal-by true s j (taken_of s.settings (f.0)) still same is refl legal f.1.stands)

  pub drive-whole : (old new : HubScene) (ms : List TurnScene) → ((x : ℕ) → written ≡ BrokenAt x → ⊥) → j.entries.items ≡ s.entries ++ ending false (state_of s).books → stop_of j ≡ last_stop false (state_of s).books → EndsRun written s old new ms
      → (given : List News) × Whole given j old new ms
  drive-whole old new ms none is stop e = whole s j old new ms still same is stop (subst (λ (o : Written). EndsRun o s old new ms) (whole-of written none) e)

  module _ (count : ℕ) (some : written ≡ BrokenAt count) (is : j.entries.items ≡ s.entries ++ ending true (state_of s).books) (a b : List Entry) (first : a ≡ j.entries.items) (second : b ≡ j.entries.items) where
    pub drive-kills : (old mid : HubScene) (ms : List TurnScene) (slots : ℕ) → EndsRun written s old mid ms → all_possible slots mid.marks (kills_of_started (take count a) (take (length b - count) (drop count b))) ≡ true
    drive-kills old mid ms slots e =
        ap (all_possible slots mid.marks) (slices count a b j.entries.items first second) ∙ kills-left count s j old mid ms slots is (subst (λ (o : Written). EndsRun o s old mid ms) some e)

    pub drive-broken : (old mid new : HubScene) (ms : List TurnScene) → stop_of j ≡ last_stop true (state_of s).books → EndsRun written s old mid ms → Performs (kills_of_started (take count a) (take (length b - count) (drop count b))) mid.seen new.seen
        → new.sunk ≡ mid.sunk → (n : ℕ) × (given : List News) × Broken n given j old new ms
    drive-broken old mid new ms stop e kills sunk =
        let ends = broken count s j old mid new ms still same is stop (subst (λ (o : Written). EndsRun o s old mid ms) some e)
        (subst (λ (es : List Entry). Performs es mid.seen new.seen) (slices count a b j.entries.items first second) kills) sunk in
        (count, ends.0, ends.1)
