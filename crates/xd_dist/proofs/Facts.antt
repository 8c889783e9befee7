-- What holds of a value where there is one.
use Rattle.std.specs.Prelude.{Result, Ok, Err, IfOk}

-- by three facts of it
pub by_three : {A E : Type 0} (r : Result A E) {P Q R T : A → Type 0} → IfOk r P → IfOk r Q → IfOk r R → ((a : A) → P a → Q a → R a → T a) → IfOk r T
by_three (Ok a) p q u f = f a p q u
by_three (Err e) p q u f = tt
