-- An honest run of words completes.
use Rattle.std.proofs.Common.{◌≡◌, ◌∙◌, ℕ, true, List, [], All, refl, sym, subst}
use Rattle.std.specs.Prelude.{Option}
use Rattle.std.specs.Str.{all_scalars}
use Rattle.xd_journal.specs.declared.journal.Journal.{Journal}
use Rattle.xd_journal.specs.declared.settings.Settings.{Settings}
use Rattle.xd_link.specs.declared.place.Place.{Place}
use Rattle.xd_run.specs.Proper.{IsProper}
use Rattle.xd_drive.specs.Seen.{TurnScene}
use Rattle.xd_dist.specs.Linked.{EndedLink, LinkedRun, LinksSeen}
use Rattle.xd_complete.specs.Complete.{GivesAll, IsComplete, NothingRose}
use Rattle.xd_complete.proofs.Complete.{complete}
use Rattle.xd_local.specs.Local.{RoundSeen}
use Rattle.xd_words.specs.Words.{Fits, FitsRun}
use Rattle.xd_words.specs.declared.plan.Plan.{Plan}
use Rattle.xd_words.specs.declared.plan.Plan.TheVariants.{Linked}
use Rattle.xd_words.specs.declared.keeps.Keeps.{Keeps}
use Rattle.xd_top.specs.Keeping.{KeepsAround}
use Rattle.xd_top.specs.Linked.{DidLinked}
use Rattle.xd_top.specs.Outside.{Outside}
use Rattle.xd_top.specs.Top.{Did}
use Rattle.xd_top.proofs.Begins.{can_begin}

proper_by : (suite : List ℕ) (s : Settings) (places : List Place) → FitsRun suite s places → IsProper s []
proper_by suite s places fits =
    let b = can_begin suite s places fits in
    record { mode = b.mode; some_worker = b.some_worker; few_workers = b.few_workers; few_restarts = b.few_restarts; follow = refl }

-- a run on workers by words that fit completes where nothing failed and its links are honest
pub completes : (suite : List ℕ) (s : Settings) (places : List Place) → FitsRun suite s places → (j : Journal) (code : ℕ) (links : List EndedLink) (old new : LinksSeen) (moments : List TurnScene)
    → LinkedRun (record { suite = suite; settings = s; places = places }) j code links old new moments
    → all_scalars suite ≡ true → NothingRose links old new → All (λ l. ∥ GivesAll (record { suite = suite; settings = s; places = places }) j l ∥₁) links → IsComplete links j
completes suite s places fits j code links old new moments run text still gives =
    complete (record { suite = suite; settings = s; places = places }) j code links old new moments (proper_by suite s places fits)
    (record { scalars = text; short = fits.short; on_workers = fits.shared }) run still gives

-- where the words of a run on workers fit, so do what it is handed
pub fits_linked : (found : Plan) (suite : List ℕ) (s : Settings) (places : List Place) (keeps : Keeps) → found ≡ Linked suite s places keeps → Fits found
    → (its_places : List Place) → its_places ≡ places → FitsRun suite s its_places
fits_linked found suite s places keeps is fits its_places the_places =
    subst (λ (ps : List Place). FitsRun suite s ps) (sym the_places) (subst Fits is fits)

-- what the words of a run on workers came to, from what the run of its suite did
pub did_linked : (asked found : Plan) (suite : List ℕ) (s : Settings) (places : List Place) (keeps : Keeps) → found ≡ asked → found ≡ Linked suite s places keeps
    → (code : ℕ) (journal : Option Journal) (links : List EndedLink) (turns : List TurnScene) (tests : List RoundSeen) (old new : Outside)
    → (its_places : List Place) → its_places ≡ places
    → KeepsAround keeps (λ own after. DidLinked (record { suite = suite; settings = s; places = its_places }) journal own links turns old (record new { streams = after })) journal code new.streams
    → Did asked (record { status = code; journal = journal; links = links; turns = turns; tests = tests }) old new
did_linked asked found suite s places keeps its is code journal links turns tests old new its_places the_places did =
    let run = subst (λ (ps : List Place). KeepsAround keeps (λ own after. DidLinked (record { suite = suite; settings = s; places = ps }) journal own links turns old (record new { streams = after })) journal code new.streams) the_places did in
    subst (λ (p : Plan). Did p (record { status = code; journal = journal; links = links; turns = turns; tests = tests }) old new) (sym is ∙ its) run
