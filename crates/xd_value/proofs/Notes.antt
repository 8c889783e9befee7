-- What a walk has noted, and what is left to be noted.
use Rattle.std.specs.Prelude.{◌≡◌, ◌||◌, Bool, not}
use Rattle.xd_value.specs.Canonical.{Test, Hashable, Distinct, Channels}
use Rattle.xd_value.specs.declared.noting.Faults.{Faults}

-- with what the rest will add, the faults are those of the whole
abbrev pub Noting : Faults → Faults → (Test → Bool) → (Test → Bool) → Type 0
Noting old new whole rest =
    ((new.unhashable || not (rest Hashable)) ≡ (old.unhashable || not (whole Hashable)))
    × ((new.repeated || not (rest Distinct)) ≡ (old.repeated || not (whole Distinct)))
    × ((new.bad_channel || not (rest Channels)) ≡ (old.bad_channel || not (whole Channels)))
