-- What is said of workers whose links are not read.
use Rattle.std.specs.Prelude.{◌≡◌, ◌⊎◌, ◌<◌, ℕ, Bool, true, false, List, [], ◌∷◌, ◌++◌, Option, Some, None, length, slice_get}
use Rattle.xd_journal.specs.declared.news.News.{News}
use Rattle.xd_journal.specs.declared.news.What.TheVariants.{NotStarted}
use Rattle.xd_group.specs.inner.Kept.{said_of_worker}
use Rattle.xd_group_peer.specs.Pages.{Page}

-- nothing, or that the worker was not started
abbrev pub SaidUnlinked : List News → ℕ → Type 0
SaidUnlinked given w = (said_of_worker w given ≡ []) ⊎ (said_of_worker w given ≡ NotStarted ∷ [])

-- the number waits
abbrev pub IsWaiting : ℕ → List ℕ → Type 0
IsWaiting k waiting = (i : ℕ) × (slice_get waiting i ≡ Some k)

-- Nothing is said of a worker whose link is not read but that it was not started, once; the numbers of all those of whom it
-- is still to be said wait.
pub record Unsaid (given : List News) (workers : List ℕ) (pages : List (Option Page)) (waiting : List ℕ) : Type 0 where
  pub waits : (i k w : ℕ) → slice_get waiting i ≡ Some k → slice_get workers k ≡ Some w → (said_of_worker w given ≡ []) × (slice_get pages k ≡ Some None)
  pub once : (i j k : ℕ) → slice_get waiting i ≡ Some k → slice_get waiting j ≡ Some k → i ≡ j
  pub below : (i k : ℕ) → slice_get waiting i ≡ Some k → k < length workers
  pub said : (k w : ℕ) → slice_get workers k ≡ Some w → slice_get pages k ≡ Some None → IsWaiting k waiting ⊎ (said_of_worker w given ≡ NotStarted ∷ [])

-- the number that waits from now on, where its link is not read
abbrev pub wait_one : Bool → ℕ → List ℕ
wait_one true k = []
wait_one false k = k ∷ []

-- Of the number that waited last it is said that its worker was not started, and it waits no more; nothing is said where no
-- number waited.
abbrev pub SaysNext : List ℕ → List ℕ → List ℕ → Option News → Type 0
SaysNext workers waiting rest None = (waiting ≡ []) × (rest ≡ [])
SaysNext workers waiting rest (Some n) = (k : ℕ) × (waiting ≡ rest ++ k ∷ []) × (slice_get workers k ≡ Some n.worker) × (n.what ≡ NotStarted)
