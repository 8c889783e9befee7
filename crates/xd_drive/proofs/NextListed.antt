-- The next news of a worker that was started.
use Rattle.std.proofs.Common.{◌≡◌, ℕ, ◌+◌, Bool, List, [], ◌∷◌, true, false, not, ◌&&◌, refl, sym, ◌∙◌, subst}
use Rattle.std.specs.Prelude.{slice_index}
use Rattle.xd_journal.specs.declared.entry.Cause.TheVariants.{Ended}
use Rattle.xd_journal.specs.declared.news.News.{News}
use Rattle.xd_journal.specs.declared.news.What.TheVariants.{Gone}
use Rattle.xd_drive.specs.Listed.{GivesListed, from_started, gives_of, is_listed, may_give, place_of_turn}
use Rattle.xd_journal.specs.Said.{is_breach}

both_true : (a b : Bool) → (a && not b) ≡ true → (a ≡ true) × (b ≡ false)
both_true true true h = absurd (cc)
both_true true false h = (refl, refl)
both_true false b h = absurd (cc)

pub given-started : (started : List ℕ) (n : News) → may_give started n ≡ true → is_listed n.worker started ≡ true
given-started started n h = (both_true (is_listed n.worker started) (is_breach n.what) h).0

pub given-no-breach : (started : List ℕ) (n : News) → may_give started n ≡ true → is_breach n.what ≡ false
given-no-breach started n h = (both_true (is_listed n.worker started) (is_breach n.what) h).1

pub gives-first : (started : List ℕ) (turn : ℕ) (news : List News) (n : News) (left : List News) → from_started started news ≡ n ∷ left → GivesListed started turn news n left turn
gives-first started turn news n left h = subst (λ (ns : List News). gives_of started turn ns n left turn) (sym h) (refl, refl, refl)

pub gives-gone : (started : List ℕ) (turn : ℕ) (news : List News) (n : News) (left : List News) (next : ℕ) → from_started started news ≡ left → left ≡ []
    → n ≡ record { worker = slice_index started (place_of_turn started turn); what = Gone Ended } → next ≡ place_of_turn started turn + 1 → GivesListed started turn news n left next
gives-gone started turn news n left next h none gone more = subst (λ (ns : List News). gives_of started turn ns n left next) (sym (h ∙ none)) (gone, none, more)
