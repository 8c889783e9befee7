-- Moments of a clock that never falls, in milliseconds from a beginning of the clock's own.
use Rattle.std.specs.Prelude.{◌≡◌, ◌≤◌, ℕ, ◌+◌, List, [], ◌∷◌, max, drop, Option, option_map, IfSome}

-- the moment that is given next: the first that is listed, where it is not below the last one, else that one again
-- Example: after 5, of the moments 3 and 9 to come, 5 is given, and then 9.
abbrev pub next_moment : ℕ → List ℕ → ℕ
next_moment last [] = last
next_moment last (m ∷ ms) = max last m

-- what is seen of a clock: the last moment that it gave, and those that it will give, where it tells them
pub record Ticking : Type 0 where
  pub moment : ℕ
  pub coming : Option (List ℕ)

-- a clock that gave this moment last, and is to give these
abbrev pub ticking : ℕ → Option (List ℕ) → Ticking
ticking moment coming = record { moment = moment; coming = coming }

-- The clock gave this moment next.
pub record Ticks (moment : ℕ) (old new : Ticking) : Type 0 where
  pub later : old.moment ≤ moment
  pub last : new.moment ≡ moment
  pub told : IfSome old.coming (λ ms. moment ≡ next_moment old.moment ms)
  pub next : new.coming ≡ option_map (drop 1) old.coming

-- The clock gave a moment, and then one that is that many milliseconds later.
pub record Lasts (ms : ℕ) (old new : Ticking) : Type 0 where
  pub start : ℕ
  pub mid : Ticking
  pub begins : Ticks start old mid
  pub ends : Ticks (start + ms) mid new
