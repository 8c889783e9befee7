-- What became of starts.
use Rattle.std.specs.Prelude.{◌≡◌, ◌≤◌, ℕ, Bool, true, false, List, [], ◌∷◌, Some, if◌then◌else◌, slice_get}
use Rattle.xd_group.specs.declared.fate.Fate.{Fate}
use Rattle.xd_group.specs.declared.fate.Fate.TheVariants.{Unlinked, Refused, Linked}

-- the starter started a link
abbrev pub has_link : Fate → Bool
has_link Unlinked = false
has_link Refused = true
has_link Linked = true

-- the starter failed
abbrev pub is_unlinked : Fate → Bool
is_unlinked Unlinked = true
is_unlinked Refused = false
is_unlinked Linked = false

-- its link is read
abbrev pub is_linked : Fate → Bool
is_linked Unlinked = false
is_linked Refused = false
is_linked Linked = true

-- the crew refused the reader of its link
abbrev pub is_refused : Fate → Bool
is_refused Unlinked = false
is_refused Refused = true
is_refused Linked = false

-- of these workers those whose start had such a fate, in order
-- Example: of gw0, gw1 and gw2 the second was refused: all three have a link, and gw0 and gw2 are read.
abbrev pub workers_with : (Fate → Bool) → List ℕ → List Fate → List ℕ
workers_with which [] fates = []
workers_with which (w ∷ ws) [] = []
workers_with which (w ∷ ws) (f ∷ fs) = if which f then w ∷ workers_with which ws fs else workers_with which ws fs

-- from this number on it is so at each start of this fate
abbrev pub SoFrom : Fate → ℕ → List Bool → List Fate → Type 0
SoFrom f n so fates = (k : ℕ) → n ≤ k → slice_get fates k ≡ Some f → slice_get so k ≡ Some true

-- from this number on each link whose reader was refused is kept
abbrev pub KeptFrom : ℕ → List Bool → List Fate → Type 0
KeptFrom n kept fates = SoFrom Refused n kept fates

-- from this number on nothing more is to come of any link that is read
abbrev pub EndedFrom : ℕ → List Bool → List Fate → Type 0
EndedFrom n ended fates = SoFrom Linked n ended fates
