-- A system at a moment: a controller that took news, and workers, each at the other end of a link. A moment has
-- no steps: what the controller took of a worker is a first part of what the worker told, and what came to the
-- worker is a first part of its orders. The rest of both is on the way.
use Rattle.std.specs.Prelude.{◌≡◌, ◌⊎◌, ◌==◌, ℕ, Bool, true, false, List, [], ◌∷◌, ◌++◌, drop, length, if◌then◌else◌}
use Rattle.std.specs.List.{list_all}
use Rattle.xd_journal.specs.declared.entry.Cause.{Cause}
use Rattle.xd_journal.specs.declared.news.News.{News}
use Rattle.xd_journal.specs.declared.news.What.{What}
use Rattle.xd_journal.specs.declared.news.What.TheVariants.{Gone, NotStarted}
use Rattle.xd_journal.specs.declared.settings.Settings.{Settings}
use Rattle.xd_journal.specs.Said.{is_breach}
use Rattle.xd_commands.specs.declared.order.Order.{Order}
use Rattle.xd_run.specs.Workers.{has_member}
use Rattle.xd_worker_tests.specs.History.{Given}
use Rattle.xd_session.specs.History.{run_of, said_by}
use Rattle.xd_system.specs.Own.{told_to}
use Rattle.xd_system.specs.Tells.{is_of_run, orders_of, tells}

-- The worker's end of a link: whether it was called, what came to its call of `run_tests`, the last first, and
-- whether the link is whole, neither ended nor cut.
pub record LinkNow : Type 0 where
  pub called : Bool
  pub given : List Given
  pub whole : Bool

-- what the worker told so far; nothing before it was called
abbrev pub told_so_far : LinkNow → List What
told_so_far l = if l.called then tells l.given else []

-- the list begins with these
-- Example: with 1 and 2 begin 1, 2 and 3; so they do with nothing, and with all three.
abbrev pub IsFirstPart : {A : Type 0} → List A → List A → Type 0
IsFirstPart {A} first all = (later : List A) × (all ≡ first ++ later)

-- The controller took a first part of what the worker told, and then that its link is gone, by no rule that the
-- worker broke: what was on the way is lost.
-- Example: of `logstart`, `logfinish` and a completion it took `logstart` and the end of the link.
pub record IsCutShort (took told : List What) : Type 0 where
  pub heard : List What
  pub cause : Cause
  pub begins : IsFirstPart heard told
  pub are : took ≡ heard ++ Gone cause ∷ []
  pub honest : is_breach (Gone cause) ≡ false

-- What the controller took of a worker by a link: a first part of what the worker told. Where the link is not
-- whole it may have taken the link's end after these, or that the worker could not be started and nothing else.
abbrev pub TookOf : Bool → List What → List What → Type 0
TookOf true took told = IsFirstPart took told
TookOf false took told = IsFirstPart took told ⊎ (IsCutShort took told ⊎ (took ≡ NotStarted ∷ []))

-- the journal has the worker's start, by the first starts or after these news
abbrev pub WasBegun : Settings → List News → ℕ → Type 0
WasBegun settings taken w = has_member w (λ m. true) (run_of settings taken).state.books ≡ true

-- Each piece of news of the worker was taken once the journal had its start. It is how a controller works, since
-- a link comes to be when the start in the journal is performed; and the laws need it: news of a worker that is
-- not started mean nothing, so a `workerready` that came too early would be lost, and the collection after it a
-- breach.
abbrev pub AfterStart : Settings → List News → ℕ → Type 0
AfterStart settings taken w =
    (before : List News) (n : News) (after : List News) → taken ≡ before ++ n ∷ after → (n.worker == w) ≡ true
    → WasBegun settings before w

-- The worker is honest, and the controller took these news: what came to its call is what comes in a run, its
-- orders first among these; nothing came before the call; and what the controller took of it is what it told,
-- once it was started.
-- Example: gw1 ran 5 and 6 and runs 7. The controller took nothing of that, and a Steal of 8 and 9 is on the way
-- to it.
pub record IsHonestAt (settings : Settings) (taken : List News) (w : ℕ) (l : LinkNow) : Type 0 where
  pub comes : list_all is_of_run l.given ≡ true
  pub uncalled : l.called ≡ false → l.given ≡ []
  pub orders : IsFirstPart (orders_of l.given) (told_to w (run_of settings taken).entries)
  pub begun : AfterStart settings taken w
  pub news : TookOf l.whole (said_by w taken) (told_so_far l)

-- what the worker told and the controller did not take yet
abbrev pub news_on_way : List News → ℕ → LinkNow → List What
news_on_way taken w l = drop (length (said_by w taken)) (told_so_far l)

-- the orders that the controller gave and that did not come to the worker's call yet
abbrev pub orders_on_way : Settings → List News → ℕ → LinkNow → List Order
orders_on_way settings taken w l = drop (length (orders_of l.given)) (told_to w (run_of settings taken).entries)
