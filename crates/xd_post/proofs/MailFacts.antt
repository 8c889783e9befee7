-- A desk's list of inboxes where an item is taken or an inbox closed.
use Rattle.std.proofs.Common.{◌≡◌, ℕ, ◌<◌, ◌+◌, List, [], ◌∷◌, ◌++◌, Option, Some, None, map, length, get_or, refl, sym, ◌∙◌, ap, arith}
use Rattle.std.proofs.Math.ListN.{set}
use Rattle.std.specs.Option.{option_map, IfNone, IfSome}
use Rattle.std.proofs.lemmas.List.{map-set, length-map, get_or-map}
use Rattle.std.proofs.lemmas.Option.{slice_get_read, slice_get-map}
use Rattle.std.proofs.Math.Seq.{map-set_same}
use Rattle.xd_post.specs.Post.{taken, known, ring_of_inbox}
use Rattle.xd_post.specs.Mails.{mail_of, known_of, NoneFrom, TakesAt}
use Rattle.xd_post.specs.declared.ends.Inbox.{Inbox}

module _ {T : Type 0} where
  -- an inbox that shows the same is put in its place
  pub same_mails : (xs : List (Option (Inbox T))) (k : ℕ) (was b : Option (Inbox T)) → was ≡ get_or xs k was → mail_of b ≡ mail_of was → map mail_of (set xs k b) ≡ map mail_of xs
  same_mails xs k was b at e = map-set_same mail_of xs k b was (e ∙ ap mail_of at)

  -- the mail of an inbox of which one more item was taken
  mail_more : (a b : Inbox T) (item : T) → ring_of_inbox b ≡ ring_of_inbox a → taken b ≡ taken a ++ item ∷ [] → mail_of (Some b) ≡ Some (ring_of_inbox a, taken a ++ item ∷ [])
  mail_more a b item ring got = cc

  pub takes_at : (xs : List (Option (Inbox T))) (k : ℕ) (was : Option (Inbox T)) (a b : Inbox T) (item : T) → k < length xs → was ≡ get_or xs k was → was ≡ Some a → ring_of_inbox b ≡ ring_of_inbox a → taken b ≡ taken a ++ item ∷ [] → TakesAt (map mail_of xs) (map mail_of (set xs k (Some b))) k item
  takes_at xs k was a b item low at is ring got =
      record {
        ring = ring_of_inbox a;
        got = taken a;
        was = slice_get-map mail_of xs k ∙ ap (option_map mail_of) (slice_get_read xs (length xs) k was refl low at ∙ ap Some is);
        is = map-set mail_of xs k (Some b) ∙ ap (λ m. set (map mail_of xs) k m) (mail_more a b item ring got);
      }

  mail_at : (a b : Inbox T) → ring_of_inbox b ≡ ring_of_inbox a → taken b ≡ taken a → mail_of (Some b) ≡ mail_of (Some a)
  mail_at a b ring got = cc

  pub mail_same : (was : Option (Inbox T)) (a b : Inbox T) → was ≡ Some a → ring_of_inbox b ≡ ring_of_inbox a → taken b ≡ taken a → mail_of (Some b) ≡ mail_of was
  mail_same was a b is ring got = mail_at a b ring got ∙ sym (ap mail_of is)

  pub mails_closed : (xs : List (Option (Inbox T))) (k : ℕ) (b : Option (Inbox T)) → b ≡ None → map mail_of (set xs k b) ≡ set (map mail_of xs) k None
  mails_closed xs k b e = map-set mail_of xs k b ∙ ap (λ o. set (map mail_of xs) k (mail_of o)) e

  -- an inbox that knew no item, and knows none, is put in its place
  known_same : (xs : List (Option (Inbox T))) (k : ℕ) (was : Option (Inbox T)) (a b : Inbox T) → was ≡ get_or xs k was → was ≡ Some a → known a ≡ [] → known b ≡ [] → map known_of (set xs k (Some b)) ≡ map known_of xs
  known_same xs k was a b at is old new = map-set_same known_of xs k (Some b) was (new ∙ sym old ∙ ap known_of (sym is ∙ at))

  pub none_taken : (xs : List (Option (Inbox T))) (k : ℕ) (was : Option (Inbox T)) (a b : Inbox T) (r : Option T) → was ≡ get_or xs k was → was ≡ Some a → ring_of_inbox b ≡ ring_of_inbox a → IfNone r (taken b ≡ taken a) → IfNone r (map mail_of (set xs k (Some b)) ≡ map mail_of xs)
  none_taken xs k was a b None at is ring got = same_mails xs k was (Some b) at (mail_same was a b is ring got)
  none_taken xs k was a b (Some item) at is ring got = got

  pub none_seen : (xs : List (Option (Inbox T))) (k : ℕ) (was : Option (Inbox T)) (a b : Inbox T) (r : Option T) → was ≡ get_or xs k was → was ≡ Some a → IfNone r ((known a ≡ []) × (known b ≡ [])) → IfNone r (map known_of (set xs k (Some b)) ≡ map known_of xs)
  none_seen xs k was a b None at is knew = known_same xs k was a b at is knew.0 knew.1
  none_seen xs k was a b (Some item) at is knew = knew

  -- an inbox that knows nothing is the one of its number
  known_here : (xs : List (Option (Inbox T))) (k : ℕ) (was : Option (Inbox T)) → k < length (map mail_of xs) → was ≡ get_or xs k was → known_of was ≡ [] → NoneFrom (map known_of xs) k (k + 1)
  known_here xs k was low at none j from to =
      let same : j ≡ k = omega arith in
      ap (λ i. get_or (map known_of xs) i []) same ∙ get_or-map known_of xs k was [] (rw length-map at low) ∙ ap known_of (sym at) ∙ none

  pub none_known : (xs : List (Option (Inbox T))) (k : ℕ) (was : Option (Inbox T)) (a : Inbox T) (r : Option T) (P : Type 0) → k < length (map mail_of xs) → was ≡ get_or xs k was → was ≡ Some a → IfNone r ((known a ≡ []) × P) → IfNone r (NoneFrom (map known_of xs) k (k + 1))
  none_known xs k was a None P low at is knew = known_here xs k was low at (ap known_of is ∙ knew.0)
  none_known xs k was a (Some item) P low at is knew = knew

  -- a closed inbox knows nothing
  pub closed_known : (xs : List (Option (Inbox T))) (k : ℕ) (was : Option (Inbox T)) → k < length (map mail_of xs) → was ≡ get_or xs k was → was ≡ None → NoneFrom (map known_of xs) k (k + 1)
  closed_known xs k was low at is = known_here xs k was low at (ap known_of is)

  pub item_taken : (xs : List (Option (Inbox T))) (k : ℕ) (was : Option (Inbox T)) (a b : Inbox T) (r : Option T) → k < length (map mail_of xs) → was ≡ get_or xs k was → was ≡ Some a → ring_of_inbox b ≡ ring_of_inbox a → IfSome r (λ item. taken b ≡ taken a ++ item ∷ []) → IfSome r (λ item. TakesAt (map mail_of xs) (map mail_of (set xs k (Some b))) k item)
  item_taken xs k was a b None low at is ring got = got
  item_taken xs k was a b (Some item) low at is ring got = takes_at xs k was a b item (rw length-map at low) at is ring got
