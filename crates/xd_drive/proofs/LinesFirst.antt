-- That lines come before what they announce.
use Rattle.std.proofs.Common.{◌≡◌, List, [], ◌∷◌, ◌++◌, Option, sym, subst}
use Rattle.std.proofs.lemmas.List.{append-nil}
use Rattle.xd_edge.specs.Printing.{ShowsSome}
use Rattle.xd_edge.specs.Sink.{Sunk}
use Rattle.xd_journal.specs.declared.settings.Settings.{Settings}
use Rattle.xd_journal.specs.declared.entry.Entry.{Entry}
use Rattle.xd_journal.specs.declared.news.News.{News}
use Rattle.xd_trace.proofs.Each.{each-more, each-none}
use Rattle.xd_report.specs.Lines.{run_lines}
use Rattle.xd_drive.specs.Moments.{IsBetween, LinesFirst, LinesFirstOf}
use Rattle.xd_drive.specs.Seen.{GaveNews, HubScene, HubTells, TurnScene}
use Rattle.xd_drive.specs.Taken.{run_given}
use Rattle.xd_drive.proofs.Performs.{tells-gave}

module _ (x : Settings) (old : HubScene) (ms : List TurnScene) where
  abbrev Between : List News → News → TurnScene → Type 0
  Between before n m = IsBetween x before n old m

  pub lines-none : LinesFirst x [] old ms
  lines-none = each-none Between ms

  -- the moment after the lines of one more piece of news
  pub first-more : (given : List News) (n : News) (mid new : HubScene) (m : TurnScene) → LinesFirst x given old ms → HubTells (run_given x given).entries given old.seen mid.seen → GaveNews n mid.seen m.seen
      → m.sunk ≡ new.sunk → ShowsSome (run_lines x (run_given x (given ++ n ∷ [])).entries) old.sunk new.sunk → LinesFirst x (given ++ n ∷ []) old (ms ++ m ∷ [])
  first-more given n mid new m first tells gave printed shows = each-more Between given n ms m first (record {
    tells = tells-gave (run_given x given).entries given n old.seen mid.seen m.seen tells gave;
    shows = subst (λ (o : Option Sunk). ShowsSome (run_lines x (run_given x (given ++ n ∷ [])).entries) old.sunk o) (sym printed) shows;
  })

  -- all of these news had such a moment, and make these entries
  pub lines-all : (es : List Entry) (given : List News) → es ≡ (run_given x given).entries → LinesFirst x given old ms → LinesFirstOf es x given old ms
  lines-all es given is first = record { told = given; rest = []; split = sym (append-nil given); make = is; lines_first = first }
