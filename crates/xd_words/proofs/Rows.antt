-- What clap finds, and whether it refuses.
use Rattle.std.proofs.Common.{◌≡◌, ◌&&◌, Bool, true, false, ℕ, [], ◌∷◌, List, refl, ap}
use Rattle.std.specs.Prelude.{Some, None}
use Rattle.clap.specs.Words.{App, IsAmong, Kinds, Row, fault_of, matches_of}
use Rattle.clap.specs.declared.error.kind.ErrorKind.{ErrorKind}
use Rattle.xd_words.specs.Asked.{rows_in, unless_fault}

some_refused : (kinds : Kinds) (rows : List Row) (k : ErrorKind) → IsAmong k kinds → None ≡ unless_fault kinds rows
some_refused [] rows k among = absurd among
some_refused (x ∷ xs) rows k among = refl

pub found_some : (a : App) (words : List (List ℕ)) (rows : List Row) → rows ≡ matches_of a words → fault_of a words ≡ [] → Some rows ≡ rows_in a words
unfolding rows_in
found_some a words rows same none = rw (none) (ap Some same)

pub found_none : (a : App) (words : List (List ℕ)) (k : ErrorKind) → IsAmong k (fault_of a words) → None ≡ rows_in a words
unfolding rows_in
found_none a words k among = some_refused (fault_of a words) (matches_of a words) k among

pub both_left : (a b : Bool) → (a && b) ≡ true → a ≡ true
both_left true b h = refl
both_left false b h = h
