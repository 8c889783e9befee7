-- What contracts see of desks.
use Rattle.std.specs.Prelude.{◌≡◌, ℕ, ◌<◌, ◌≤◌, ◌⊎◌, List, [], ◌∷◌, ◌++◌, Option, Some, None, map, slice_get, slice_index_or, slice_set}
use Rattle.xd_post.specs.Post.{Ring, known, taken, ring_of_inbox}
use Rattle.xd_post.specs.declared.ends.Inbox.{Inbox}
use Rattle.xd_post.specs.declared.desk.Desk.{Desk}

-- Where numbers are gone through from the first one upwards, and then from 0 on, k comes before this number.
-- Example: of three inboxes with the first one 1 the order is 1, 2, 0.
abbrev pub ComesBefore : ℕ → ℕ → ℕ → Type 0
ComesBefore first number k =
    ((first ≤ k) × (k < number)) ⊎ ((number < first) × ((first ≤ k) ⊎ (k < number)))

module _ {T : Type 0} where
  -- an inbox: its ring, and what was taken of it
  abbrev pub mail_of : Option (Inbox T) → Option (Ring × List T)
  mail_of None = None
  mail_of (Some inbox) = Some (ring_of_inbox inbox, taken inbox)

  -- the inboxes of a desk by their numbers; a closed one is None
  abbrev pub mails : Desk T → List (Option (Ring × List T))
  mails desk = map mail_of desk.inboxes.items

  -- the inbox of this number is open; it is of this ring, and this was taken of it
  abbrev pub HasMail : List (Option (Ring × List T)) → ℕ → Ring → List T → Type 0
  HasMail mails number ring got = slice_get mails number ≡ Some (Some (ring, got))

  -- the item was taken of the inbox of this number, and no other changed
  -- Example: the turn is at 1, and the inboxes 0 and 2 of three know an item each: the one of 2 gives its item.
  pub record TakesAt (old new : List (Option (Ring × List T))) (number : ℕ) (item : T) : Type 0 where
    pub ring : Ring
    pub got : List T
    pub was : HasMail old number ring got
    pub is : new ≡ slice_set old number (Some (ring, got ++ item ∷ []))

  -- the items that an inbox is known to hold; a closed one holds none
  abbrev pub known_of : Option (Inbox T) → List T
  known_of None = []
  known_of (Some inbox) = known inbox

  -- the items that each inbox of a desk is known to hold, by their numbers
  abbrev pub knows : Desk T → List (List T)
  knows desk = map known_of desk.inboxes.items

  -- no inbox is known to hold an item
  abbrev pub NoneKnown : List (List T) → Type 0
  NoneKnown known = (number : ℕ) → slice_index_or known number [] ≡ []

  -- no inbox from one number up to another is known to hold an item
  abbrev pub NoneFrom : List (List T) → ℕ → ℕ → Type 0
  NoneFrom known from to = (number : ℕ) → from ≤ number → number < to → slice_index_or known number [] ≡ []

  -- no inbox that comes before this number, where they are gone through from the first one, is known to hold an item
  abbrev pub NoneBefore : List (List T) → ℕ → ℕ → Type 0
  NoneBefore known first number = (k : ℕ) → ComesBefore first number k → slice_index_or known k [] ≡ []

  -- the number of the inbox that the next take looks at first
  abbrev pub next_inbox : Desk T → ℕ
  next_inbox desk = desk.turn
