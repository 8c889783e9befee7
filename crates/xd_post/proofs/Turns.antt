-- The inboxes of a desk in turn, from the first one upwards and then from 0 on: which of them know nothing.
use Rattle.std.proofs.Common.{◌≡◌, ℕ, ◌<◌, ◌≤◌, ◌⊎◌, List, [], Option, Some, None, length, get_or, sym, ◌∙◌, ap, inl, inr, arith}
use Rattle.std.specs.Option.{IfNone, IfSome}
use Rattle.std.proofs.lemmas.Bool.{cases_lt}
use Rattle.std.proofs.lemmas.List.{get_or_past}
use Rattle.xd_post.specs.Mails.{NoneKnown, NoneFrom, NoneBefore}

module _ {T : Type 0} where
  -- where those up to the last know nothing, none after does either
  none_after : (known : List (List T)) (from count k : ℕ) → length known ≤ count → NoneFrom known from count → from ≤ k → get_or known k [] ≡ []
  none_after known from count k size none low =
      elim (cases_lt k count) [ inl below ↦ none k low below | inr past ↦ get_or_past known k [] (omega arith) ]

  nowhere : (known : List (List T)) (first count k : ℕ) → length known ≤ count → NoneFrom known first count → NoneFrom known 0 first → get_or known k [] ≡ []
  nowhere known first count k size none before =
      elim (cases_lt k first) [ inl below ↦ before k (omega arith) below | inr low ↦ none_after known first count k size none low ]

  -- at the first look an item was found, at a number from the first one on
  pub none_before : (known : List (List T)) (first number : ℕ) → first ≤ number → NoneFrom known first number → NoneBefore known first number
  none_before known first number low none k (inl h) = none k h.0 h.1
  none_before known first number low none k (inr h) = let below = h.0 in absurd (omega arith)

  -- at the second look an item was found, at a number below the first one
  around : (known : List (List T)) (first count number : ℕ) → length known ≤ count → NoneFrom known first count → number < first → NoneFrom known 0 number → NoneBefore known first number
  around known first count number size none low before k (inl h) = let a = h.0 in let b = h.1 in absurd (omega arith)
  around known first count number size none low before k (inr (_, inl up)) = none_after known first count k size none up
  around known first count number size none low before k (inr (_, inr below)) = before k (omega arith) below

  -- the same of two lists that are equal
  none_along : (known other : List (List T)) (from to : ℕ) → known ≡ other → NoneFrom known from to → NoneFrom other from to
  none_along known other from to same none k low high = ap (λ l. get_or l k []) (sym same) ∙ none k low high

  pub none_before_around : (old mid : List (List T)) (first count : ℕ) (r : Option (ℕ × T)) → length old ≤ count → NoneFrom old first count → mid ≡ old → IfSome r (λ x. (0 ≤ x.0) × (x.0 < first)) → IfSome r (λ x. NoneFrom mid 0 x.0) → IfSome r (λ x. NoneBefore old first x.0)
  none_before_around old mid first count None size none same place before = before
  none_before_around old mid first count (Some x) size none same place before =
      around old first count x.0 size none place.1 (none_along mid old 0 x.0 same before)

  pub none_at_all : (old mid new : List (List T)) (first count : ℕ) (r : Option (ℕ × T)) → length old ≤ count → NoneFrom old first count → mid ≡ old → IfNone r (NoneFrom mid 0 first) → IfNone r (new ≡ mid) → IfNone r (NoneKnown old × NoneKnown new)
  none_at_all old mid new first count (Some x) size none same before last = last
  none_at_all old mid new first count None size none same before last =
      let knew : NoneKnown old = λ k. nowhere old first count k size none (none_along mid old 0 first same before) in
      (knew, λ k. ap (λ l. get_or l k []) (last ∙ same) ∙ knew k)

  -- what is known is as at first, or nothing was known at first: where nothing is known now, nothing was at first
  pub none_at_first : (first now : List (List T)) → (now ≡ first) ⊎ NoneKnown first → NoneKnown now → NoneKnown first
  none_at_first first now (inl same) none = λ k. ap (λ l. get_or l k []) (sym same) ∙ none k
  none_at_first first now (inr none) later = none
