-- Whoever was started stays so.
use Rattle.std.proofs.Common.{◌≡◌, ℕ, List, [], map, Bool, true, ◌&&◌, ◌||◌, refl, ap, ◌∙◌}
use Rattle.std.specs.Prelude.{◌==◌}
use Rattle.xd_journal.specs.declared.settings.Settings.{Settings}
use Rattle.xd_journal.specs.declared.entry.Entry.{Entry}
use Rattle.xd_journal.specs.declared.entry.Entry.TheVariants.{Ready, Collected, Done, Back, Finished, Refused, Down, NotStarted, Start, Run, RunAll, Steal, Shutdown, Kill, Over}
use Rattle.xd_run.specs.declared.member.Member.{Member}
use Rattle.xd_run.specs.Books.{marked}
use Rattle.xd_run.specs.Collections.{listed, unequal, with_list}
use Rattle.xd_run.specs.Orderly.{is_orderly}
use Rattle.xd_run.specs.Proper.{may_follow}
use Rattle.xd_run.specs.Sharing.{State, in_books}
use Rattle.xd_run.specs.State.{after_effect}
use Rattle.xd_run.specs.Workers.{has_member, made_collected, made_gone, made_ready, made_shut, started}
use Rattle.xd_run_laws.proofs.Inputs.{collecting-keeps}
use Rattle.xd_run_laws.proofs.Logic.{differ}
use Rattle.xd_run_laws.proofs.Members.{has, has-more, has-same}
use Rattle.xd_run_laws.proofs.Walk.{Keeps}

abbrev pub WasStarted : ℕ → State → List Entry → Type 0
WasStarted w s es = has_member w (λ m. true) s.books ≡ true

pub keep-member : (w : ℕ) (change : Member → Member) (ms : List Member)
    → ((m : Member) → (change m).worker ≡ m.worker) → has w (λ m. true) ms ≡ true
    → has w (λ m. true) (map change ms) ≡ true
keep-member w change ms k h = has-same w (λ m. true) change ms k (λ m. refl) ∙ h

pub member-said : (w : ℕ) (s : State) (e : Entry) → may_follow s e ≡ true → WasStarted w s []
    → WasStarted w (after_effect s e) []
member-said w s (Ready v) m h = keep-member w (made_ready v) s.books.members (λ m. refl) h
member-said w s (Collected v g) m h =
    let k = keep-member w (made_collected v) s.books.members (λ m. refl) h in
    collecting-keeps (λ (x : State). has_member w (λ m. true) x.books ≡ true) (in_books (λ b. marked (made_collected v) (with_list v g b)) s) v (unequal v g (listed v s.books)) k k k (λ n. k)
member-said w s (Done v n o ms b) m h = h
member-said w s (Back v ns) m h = h
member-said w s (Finished v) m h = keep-member w (made_gone v) s.books.members (λ m. refl) h
member-said w s (Refused v text) m h = keep-member w (made_gone v) s.books.members (λ m. refl) h
member-said w s (Down v c b) m h = keep-member w (made_gone v) s.books.members (λ m. refl) h
member-said w s (NotStarted v) m h = keep-member w (made_gone v) s.books.members (λ m. refl) h
member-said w s (Start v slot) m h = absurd (differ m)
member-said w s (Run v ns) m h = absurd (differ m)
member-said w s (RunAll v) m h = absurd (differ m)
member-said w s (Steal v ns) m h = absurd (differ m)
member-said w s (Shutdown v) m h = absurd (differ m)
member-said w s (Kill v) m h = absurd (differ m)
member-said w s (Over how) m h = absurd (differ m)

pub member-told : (w : ℕ) (s : State) (e : Entry) → is_orderly s e ≡ true → WasStarted w s []
    → WasStarted w (after_effect s e) []
member-told w s (Start v slot) m h = has-more w (λ m. true) s.books.members (started v slot)
    ∙ ap (λ (b : Bool). b || ((v == w) && true)) h
member-told w s (Run v ns) m h = h
member-told w s (RunAll v) m h = h
member-told w s (Steal v ns) m h = h
member-told w s (Shutdown v) m h = keep-member w (made_shut v) s.books.members (λ m. refl) h
member-told w s (Kill v) m h = h
member-told w s (Over how) m h = h
member-told w s (Ready v) m h = absurd (differ m)
member-told w s (Collected v g) m h = absurd (differ m)
member-told w s (Done v n o ms b) m h = absurd (differ m)
member-told w s (Back v ns) m h = absurd (differ m)
member-told w s (Finished v) m h = absurd (differ m)
member-told w s (Refused v text) m h = absurd (differ m)
member-told w s (Down v c b) m h = absurd (differ m)
member-told w s (NotStarted v) m h = absurd (differ m)

pub keeps_member : (settings : Settings) (w : ℕ) → Keeps settings (WasStarted w)
keeps_member settings w =
    record { said = λ s es e t m at k. member-said w s e m k; told = λ s es e p m at k. member-told w s e m k; settled = λ s es k. k }
