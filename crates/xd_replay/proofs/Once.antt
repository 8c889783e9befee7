-- Of a journal one thing is found.
use Rattle.std.proofs.Common.{◌≡◌, ℕ, suc, ◌<◌, ◌≤◌, List, ◌++◌, take, drop, ap, sym, subst, ◌∙◌, append_assoc, arith, inl, inr, refl}
use lib.Seq.{take-take}
use Rattle.std.proofs.lemmas.List.{take-append-drop}
use Rattle.xd_journal.specs.declared.settings.Settings.{Settings}
use Rattle.xd_journal.specs.declared.entry.Entry.{Entry}
use Rattle.xd_replay.specs.Checked.{CanBeLeft}
use Rattle.xd_replay.specs.Verdict.{BeginsSome, IsFound, StopsBeingOne}
use Rattle.xd_replay.specs.declared.checking.Verdict.{Verdict}
use Rattle.xd_replay.specs.declared.checking.Verdict.TheVariants.{Checked, BadAt}

-- fewer entries begin what more of them begin
begin-fewer : (settings : Settings) (es : List Entry) (p q : ℕ) → p ≤ q → BeginsSome settings (take q es) → BeginsSome settings (take p es)
begin-fewer settings es p q less b =
    let rest = drop p (take q es) in
    let whole : take p es ++ rest ≡ take q es = ap (λ xs. xs ++ rest) (sym (take-take p q es less)) ∙ take-append-drop p (take q es) in
    (rest ++ b.0, subst (CanBeLeft settings) (ap (λ xs. xs ++ b.0) (sym whole) ∙ append_assoc (take p es) rest b.0) b.1)

no_later : (settings : Settings) (es : List Entry) (p q : ℕ) → StopsBeingOne p settings es → StopsBeingOne q settings es → p < q → ⊥
no_later settings es p q a b less = elim b.before [
  | inl z ↦ (omega arith)
  | inr begun ↦ a.not_after (let w = b.within in omega arith) (begin-fewer settings es (suc p) q (omega arith) begun)
]

one_place : (settings : Settings) (es : List Entry) (p q : ℕ) → StopsBeingOne p settings es → StopsBeingOne q settings es → p ≡ q
one_place settings es p q a b =
    let low = no_later settings es p q a b in
    let high = no_later settings es q p b a in
    omega arith

pub one_finding : (v w : Verdict) (settings : Settings) (es : List Entry) → IsFound v settings es → IsFound w settings es → v ≡ w
one_finding Checked Checked settings es a b = refl
one_finding Checked (BadAt q) settings es a b = absurd (b.not_left a)
one_finding (BadAt p) Checked settings es a b = absurd (a.not_left b)
one_finding (BadAt p) (BadAt q) settings es a b = ap BadAt (one_place settings es p q a b)
