-- What a worker must have said where an entry stands.
use Rattle.std.specs.Prelude.{Bool, true, false, List, ℕ, Option, Some, None, option_map, is_none, if◌then◌else◌}
use Rattle.xd_journal.specs.declared.entry.Ids.{Ids}
use Rattle.xd_journal.specs.declared.entry.Ids.TheVariants as ids
use Rattle.xd_run.specs.declared.member.Listed.{Listed}
use Rattle.xd_run.specs.Collections.{differ_at}
use Rattle.xd_session_rules.specs.declared.judge.Verdict.{Verdict}
use Rattle.xd_session_rules.specs.declared.judge.Verdict.TheVariants.{Follows}

-- its input follows
abbrev pub is_follows : Verdict → Bool
is_follows Follows = true
is_follows _ = false

-- the ids that a worker gave whose collection stands so, where it is compared with this one; none where no run tells it so
-- Example: a collection that is listed though it equals the first one.
abbrev pub ids_told : Ids → Option Listed → Option (List (List ℕ))
ids_told ids.Same l = option_map (λ (l : Listed). l.ids) l
ids_told (ids.List own) None = Some own
ids_told (ids.List own) (Some l) = if is_none (differ_at l.ids own) then None else Some own
