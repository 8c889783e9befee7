-- Lists of the numbers below some number, each in one of them at most, kept by their neighbours: for each place the one
-- after it and the one before it. The places are the numbers, and after them an end for each list, which stands before
-- its first number and after its last.
use Rattle.std.specs.Prelude.{◌≡◌, ℕ, zero, suc, ◌+◌, ◌==◌, ◌≤◌, ◌<◌, Bool, false, List, [], ◌∷◌, ◌++◌, take, drop, length, get_or, Option, Some, None, if◌then◌else◌}
use Rattle.xd_run.specs.Numbers.{times, without}

-- the number that stands at the place; 0 where none does
abbrev pub at : List ℕ → ℕ → ℕ
at xs i = get_or xs i 0

-- the owner of a number that stands in no list
abbrev pub no_chain : ℕ
no_chain = 4294967295

-- the list in which the number stands; `no_chain` where it stands in none
abbrev pub owner_of : List ℕ → ℕ → ℕ
owner_of owner x = get_or owner x no_chain

-- n numbers that follow one another, from this one on
abbrev pub walk : List ℕ → ℕ → ℕ → List ℕ
walk next i zero = []
walk next i (suc n) = i ∷ walk next (at next i) n

-- what stands in a chain
abbrev pub chain : List ℕ → List ℕ → List ℕ → ℕ → List ℕ
chain next owner counts k = walk next (at next (length owner + k)) (at counts k)

-- what is kept of the chains beside the way back
pub record Lists : Type 0 where
  pub next : List ℕ
  pub owner : List ℕ
  pub counts : List ℕ

-- what stands in chain k
abbrev pub chain_at : Lists → ℕ → List ℕ
chain_at l k = chain l.next l.owner l.counts k

-- the number stands in none
abbrev pub is_unchained : ℕ → Lists → Bool
is_unchained x l = owner_of l.owner x == no_chain

-- how many numbers there are
abbrev pub number_count : Lists → ℕ
number_count l = length l.owner

-- how many chains there are
abbrev pub chains_of : Lists → ℕ
chains_of l = length l.counts

-- the lists after a change of one
abbrev pub changed : ℕ → List ℕ → (ℕ → List ℕ) → ℕ → List ℕ
changed k xs lists j = if k == j then xs else lists j

-- from the place `u` on the numbers follow one another up to the end
abbrev pub Nexts : List ℕ → ℕ → List ℕ → ℕ → Type 0
Nexts next u [] end = at next u ≡ end
Nexts next u (x ∷ xs) end = (at next u ≡ x) × Nexts next x xs end

-- from the end the numbers lead back, one after another, to the place `u`
abbrev pub Backs : List ℕ → ℕ → List ℕ → ℕ → Type 0
Backs previous u [] end = at previous end ≡ u
Backs previous u (x ∷ xs) end = (at previous x ≡ u) × Backs previous x xs end

-- the numbers of chain k are linked through its end, and owned by it
pub record IsLinkedChain (next previous owner : List ℕ) (end k count : ℕ) (xs : List ℕ) : Type 0 where
  pub nexts : Nexts next end xs end
  pub backs : Backs previous end xs end
  pub owns : (x : ℕ) → times x xs ≡ (if owner_of owner x == k then 1 else 0)
  pub counted : length xs ≡ count

-- the neighbours, the owners and the counts are those of these lists, and each number has one owner at most
pub record AreChains (next previous owner counts : List ℕ) (lists : ℕ → List ℕ) : Type 0 where
  pub nexts_fit : length next ≡ length owner + length counts
  pub backs_fit : length previous ≡ length owner + length counts
  pub few : length owner ≤ 1600000
  pub few_chains : length counts ≤ 4000000000
  pub owned : (x : ℕ) → (owner_of owner x == no_chain) ≡ false → owner_of owner x < length counts
  pub stands : (k : ℕ) → k < length counts → IsLinkedChain next previous owner (length owner + k) k (at counts k) (lists k)

-- the numbers go from one list to the end of another
abbrev pub shifted : ℕ → ℕ → List ℕ → (ℕ → List ℕ) → ℕ → List ℕ
shifted from to items lists = changed to (lists to ++ items) (changed from (without items (lists from)) lists)

-- the first n numbers of one list go to the end of another
abbrev pub poured : ℕ → ℕ → ℕ → (ℕ → List ℕ) → ℕ → List ℕ
poured n from to lists = changed to (lists to ++ take n (lists from)) (changed from (drop n (lists from)) lists)

-- the last, where there is one
abbrev pub final_of : List ℕ → Option ℕ
final_of [] = None
final_of (x ∷ []) = Some x
final_of (x ∷ y ∷ xs) = final_of (y ∷ xs)

-- the part of the list before the number; the whole list where the number does not stand there
abbrev pub part_before : ℕ → List ℕ → List ℕ
part_before x [] = []
part_before x (y ∷ ys) = if x == y then [] else y ∷ part_before x ys

-- the part of the list after the number; empty where the number does not stand there
abbrev pub part_after : ℕ → List ℕ → List ℕ
part_after x [] = []
part_after x (y ∷ ys) = if x == y then ys else part_after x ys
