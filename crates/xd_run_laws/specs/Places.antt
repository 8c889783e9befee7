-- Which entry decides the place of an item: the last one that moves it.
use Rattle.std.specs.Prelude.{◌≡◌, ℕ, Bool, true, not, ◌&&◌, nat_lt, List, [], ◌∷◌, take, drop, Option, Some, None, if◌then◌else◌}
use Rattle.xd_journal.specs.declared.settings.Settings.{Settings}
use Rattle.xd_journal.specs.declared.entry.Entry.{Entry}
use Rattle.xd_journal.specs.declared.entry.Entry.TheVariants.{Collected, Done, Back, Down, Run, RunAll}
use Rattle.xd_run.specs.Numbers.{among, times}
use Rattle.xd_run.specs.Table.{Table, all_items, held}
use Rattle.xd_run.specs.Plan.{items_named, slot_items, total}
use Rattle.xd_run.specs.Workers.{slot_of}
use Rattle.xd_run.specs.Retry.{is_retry}
use Rattle.xd_run.specs.Sharing.{State}
use Rattle.xd_run.specs.State.{after_effect, after_entry, no_one, reached}

-- where an item stands: in the pool, with a worker, or among the reported ones
pub data Place : Type 0 where
  InPool : Place
  HeldBy : (worker : ℕ) → Place
  Reported : Place

-- the tests are shared with the entry
abbrev pub brings_share : State → Entry → Bool
brings_share s e = not s.books.shared && (after_effect s e).books.shared

-- where the entry puts the item, where it moves it: a Run or a RunAll gives it to a worker, its result reports it, and the
-- share and its return bring it to the pool; so does the death of its worker, which reports a head that is not tried again
abbrev pub puts : State → Entry → ℕ → Option Place
puts s (Run w indices) x = if among x (items_named (slot_of w s.books) indices s.plan) then Some (HeldBy w) else None
puts s (RunAll w) x = if among x (slot_items (slot_of w s.books) s.plan) then Some (HeldBy w) else None
puts s (Done w index outcome ms output) x = if among x (items_named (slot_of w s.books) (index ∷ []) s.plan) then Some Reported else None
puts s (Back w indices) x = if among x (items_named (slot_of w s.books) indices s.plan) then Some InPool else None
puts s (Down w cause output) x =
    if among x (take 1 (held w s.books.table)) then Some (if is_retry w s.books then InPool else Reported) else (if among x (drop 1 (held w s.books.table)) then Some InPool else None)
puts s (Collected w given) x =
    if brings_share s (Collected w given) && nat_lt x (total (after_effect s (Collected w given)).plan) then Some InPool else None
puts s _ x = None

-- the later of two, where it is one
abbrev pub or_before : Option Place → Option Place → Option Place
or_before None before = before
or_before (Some later) before = Some later

-- where the last of these entries after a state puts the item, else this place
abbrev pub put_last : State → List Entry → ℕ → Option Place → Option Place
put_last s [] x place = place
put_last s (e ∷ es) x place = put_last (after_entry s e) es x (or_before (puts (reached s e) e x) place)

-- the place of the item by the last entry that moves it, where there is one
-- Example: a test that was given to gw0, and was second when gw0 died, is in the pool.
abbrev pub place_by : Settings → List Entry → ℕ → Option Place
place_by settings es x = put_last (no_one settings) es x None

-- the item stands there
abbrev pub StandsAt : Table → ℕ → Option Place → Type 0
StandsAt t x None = times x (all_items t) ≡ 0
StandsAt t x (Some InPool) = among x t.pool ≡ true
StandsAt t x (Some (HeldBy w)) = among x (held w t) ≡ true
StandsAt t x (Some Reported) = among x t.reported ≡ true
