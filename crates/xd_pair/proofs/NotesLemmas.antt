-- What a longer list of notes means.
use Rattle.std.proofs.Common.{◌≡◌, ℕ, List, [], ◌∷◌, ◌++◌, Bool, true, false, refl, sym, ap, ◌∙◌, append_assoc}
use Rattle.std.specs.Prelude.{◌||◌}
use Rattle.std.proofs.lemmas.List.{append-nil}
use Rattle.xd_value.specs.Tree.{Tree}
use Rattle.xd_factory.specs.Said.{Said}
use Rattle.xd_pair.specs.Notes.{Note, Named, Item, Ends, Lasts, Asked, notes, all_notes, items, before_end, has_end}

pub all_notes-append : (c : ℕ) (xs ys : List Said) → all_notes c (xs ++ ys) ≡ all_notes c xs ++ all_notes c ys
all_notes-append c [] ys = refl
all_notes-append c (m ∷ ms) ys = ap (λ n. notes c m ++ n) (all_notes-append c ms ys) ∙ sym (append_assoc (notes c m) (all_notes c ms) (all_notes c ys))

pub items-append : (xs ys : List Note) → items (xs ++ ys) ≡ items xs ++ items ys
items-append [] ys = refl
items-append (Item v ∷ xs) ys = ap (λ n. v ∷ n) (items-append xs ys)
items-append (Named ∷ xs) ys = items-append xs ys
items-append (Ends e ∷ xs) ys = items-append xs ys
items-append (Lasts ∷ xs) ys = items-append xs ys
items-append (Asked ∷ xs) ys = items-append xs ys

pub open_append : (xs ys : List Note) → has_end xs ≡ false → before_end (xs ++ ys) ≡ before_end xs ++ before_end ys
open_append [] ys h = refl
open_append (Item v ∷ xs) ys h = ap (λ n. v ∷ n) (open_append xs ys h)
open_append (Named ∷ xs) ys h = open_append xs ys h
open_append (Ends e ∷ xs) ys h = absurd (cc h)
open_append (Lasts ∷ xs) ys h = absurd (cc h)
open_append (Asked ∷ xs) ys h = open_append xs ys h

pub ended_append : (xs ys : List Note) → has_end xs ≡ true → before_end (xs ++ ys) ≡ before_end xs
ended_append [] ys h = absurd (cc h)
ended_append (Item v ∷ xs) ys h = ap (λ n. v ∷ n) (ended_append xs ys h)
ended_append (Named ∷ xs) ys h = ended_append xs ys h
ended_append (Ends e ∷ xs) ys h = refl
ended_append (Lasts ∷ xs) ys h = refl
ended_append (Asked ∷ xs) ys h = ended_append xs ys h

pub has_end-append : (xs ys : List Note) → has_end (xs ++ ys) ≡ has_end xs || has_end ys
has_end-append [] ys = refl
has_end-append (Item v ∷ xs) ys = has_end-append xs ys
has_end-append (Named ∷ xs) ys = has_end-append xs ys
has_end-append (Ends e ∷ xs) ys = refl
has_end-append (Lasts ∷ xs) ys = refl
has_end-append (Asked ∷ xs) ys = has_end-append xs ys

pub still_ended : (xs ys : List Note) → has_end xs ≡ true → has_end (xs ++ ys) ≡ true
still_ended xs ys h = has_end-append xs ys ∙ ap (λ b. b || has_end ys) h

pub open_or_ended : (b : Bool) (P : Type 0) → (b ≡ true → P) → (b ≡ false → P) → P
open_or_ended true P f g = f refl
open_or_ended false P f g = g refl

-- what came before the end is a prefix of what came, and grows
pub grows : (xs ys : List Note) → (more : List Tree) × (before_end xs ++ more ≡ before_end (xs ++ ys))
grows xs ys = open_or_ended (has_end xs) ((more : List Tree) × (before_end xs ++ more ≡ before_end (xs ++ ys)))
    (λ h. ([], append-nil (before_end xs) ∙ sym (ended_append xs ys h)))
    (λ h. (before_end ys, sym (open_append xs ys h)))

pub before_items : (xs : List Note) → (more : List Tree) × (before_end xs ++ more ≡ items xs)
before_items [] = ([], refl)
before_items (Item v ∷ xs) = let r = before_items xs in (r.0, ap (λ n. v ∷ n) r.1)
before_items (Named ∷ xs) = before_items xs
before_items (Ends e ∷ xs) = (items xs, refl)
before_items (Lasts ∷ xs) = (items xs, refl)
before_items (Asked ∷ xs) = before_items xs

pub longer : (a b c : List Tree) → (more : List Tree) × (a ++ more ≡ b) → (more : List Tree) × (b ++ more ≡ c) → (more : List Tree) × (a ++ more ≡ c)
longer a b c r s = (r.0 ++ s.0, sym (append_assoc a r.0 s.0) ∙ ap (λ n. n ++ s.0) r.1 ∙ s.1)
