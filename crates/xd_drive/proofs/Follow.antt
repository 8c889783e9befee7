-- What a reporter follows.
use Rattle.std.proofs.Common.{◌≡◌, ℕ, ◌+◌, ◌-◌, ◌≤◌, List, ◌++◌, take, drop, sym, ◌∙◌, ap, subst, arith}
use Rattle.std.proofs.Math.Seq.{take-add}
use Rattle.std.proofs.lemmas.Grind.{fold-append}
use Rattle.xd_journal.specs.declared.settings.Settings.{Settings}
use Rattle.xd_journal.specs.declared.entry.Entry.{Entry}
use Rattle.xd_run.specs.Sharing.{State}
use Rattle.xd_run.specs.State.{after_entries, after_entry, no_one}
use Rattle.xd_report.specs.declared.reporter.Reporter.{Reporter}
use Rattle.xd_report.specs.Follows.{Follows}

-- up to one place, and from there up to another
pub follows-to : (r : Reporter) (s : State) (from to : ℕ) (xs es : List Entry) → from ≤ to → xs ≡ es → Follows r (after_entries (after_entries s (take from es)) (take (to - from) (drop from xs))) → Follows r (after_entries s (take to es))
follows-to r s from to xs es order same f =
    let there : to ≡ from + (to - from) = omega (arith, order) in
    let whole : take to es ≡ take from es ++ take (to - from) (drop from es) =
    ap (λ (k : ℕ). take k es) there ∙ take-add from (to - from) es in
    subst (Follows r) (ap (λ (l : List Entry). after_entries (after_entries s (take from es)) (take (to - from) (drop from l))) same ∙ sym (fold-append after_entry s (take from es) (take (to - from) (drop from es))) ∙ sym (ap (after_entries s) whole)) f

-- one journal in the place of another
pub follows-same : (r : Reporter) (x y : Settings) (es fs : List Entry) → x ≡ y → es ≡ fs → Follows r (after_entries (no_one x) es) → Follows r (after_entries (no_one y) fs)
follows-same r x y es fs a b f = subst (λ (z : Settings). Follows r (after_entries (no_one z) fs)) a (subst (λ (l : List Entry). Follows r (after_entries (no_one x) l)) b f)
