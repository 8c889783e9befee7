-- What a walk over a value notes.
use Rattle.std.specs.Prelude.{◌≡◌, Bool, not, ◌||◌}
use Rattle.xd_value.specs.Canonical.{Test, Hashable, Distinct, Channels}
use Rattle.xd_value.specs.declared.noting.Faults.{Faults}

-- from the old faults on, each test that does not pass was noted as its fault
-- Example: over a set of the list `[1]` and the channel 0, Unhashable and BadChannel are noted.
abbrev pub Noted : Faults → Faults → (Test → Bool) → Type 0
Noted old new passes =
    (new.unhashable ≡ (old.unhashable || not (passes Hashable)))
    × (new.repeated ≡ (old.repeated || not (passes Distinct)))
    × (new.bad_channel ≡ (old.bad_channel || not (passes Channels)))
