-- The words of pytest-xdist's `--tx`: each is a spec, or a number of workers, `*` and a spec. The limits are a choice
-- of this project.
use Rattle.std.specs.Prelude.{ℕ, ◌==◌, nat_le, List, [], ◌++◌, ◌∷◌, length, replicate, Option, Some, None, Result, Ok, Err, if◌then◌else◌}
use Rattle.xd_link.specs.declared.place.Place.{Place}
use Rattle.xd_spec.specs.declared.fault.SpecFault.{SpecFault}
use Rattle.xd_spec.specs.declared.fault.SpecFault.TheVariants.{BadCount}
use Rattle.xd_spec.specs.Numbers.{all_digits, number_in}
use Rattle.xd_spec.specs.Spec.{cut_at, spec_of}

-- that many workers of a spec; 0, and a number over the limit, which is None, are refused
abbrev pub counted_by : Option ℕ → List ℕ → Result (ℕ × List ℕ) SpecFault
counted_by None spec = Err BadCount
counted_by (Some n) spec = if n == 0 then Err BadCount else Ok (n, spec)

-- how many workers a word is for, and its spec, by its cut at the first `*`: digits before that are a count
abbrev pub counted_at : List ℕ → Option (List ℕ × List ℕ) → Result (ℕ × List ℕ) SpecFault
counted_at word None = Ok (1, word)
counted_at word (Some p) = if all_digits p.0 then counted_by (number_in 32 p.0) p.1 else Ok (1, word)

-- how many workers a word is for, and its spec; one where it has no count
abbrev pub count_and_spec : List ℕ → Result (ℕ × List ℕ) SpecFault
count_and_spec word = counted_at word (cut_at 42 word)

-- n workers at this place after those before
abbrev pub with_copies : List Place → ℕ → Result Place SpecFault → Result (List Place) SpecFault
with_copies before n (Err fault) = Err fault
with_copies before n (Ok place) = Ok (before ++ replicate n place)

-- the workers of one word after those before
abbrev pub with_counted : List Place → Result (ℕ × List ℕ) SpecFault → Result (List Place) SpecFault
with_counted before (Err fault) = Err fault
with_counted before (Ok p) = with_copies before p.0 (spec_of p.1)

-- the places of all words in order, up to the first that is refused
abbrev pub with_words : Result (List Place) SpecFault → List (List ℕ) → Result (List Place) SpecFault
with_words (Err fault) ws = Err fault
with_words (Ok before) [] = Ok before
with_words (Ok before) (w ∷ ws) = with_words (with_counted before (count_and_spec w)) ws

-- a run has at most 32 workers at once
abbrev pub few_of : Result (List Place) SpecFault → Result (List Place) SpecFault
few_of (Err fault) = Err fault
few_of (Ok places) = if nat_le (length places) 32 then Ok places else Err BadCount

-- the places that the words name, or their first fault
-- Example: `3*popen//chdir=/tmp` is three places, and `0*popen` BadCount, as is more than 32 places in all.
abbrev pub tx_of : List (List ℕ) → Result (List Place) SpecFault
tx_of words = few_of (with_words (Ok []) words)
