-- What a worker said, among the news of all.
use Rattle.std.proofs.Common.{◌≡◌, ℕ, List, [], ◌∷◌, ◌++◌, map, Bool, true, false, refl, ap, sym, ◌∙◌}
use Rattle.std.specs.Prelude.{◌==◌, if◌then◌else◌, filter, Some, None}
use Rattle.std.specs.List.{cons_option, list_any}
use Rattle.xd_journal.specs.declared.entry.Entry.{Entry}
use Rattle.xd_journal.specs.declared.entry.Entry.TheVariants.{Ready, Collected, Done, Back, Finished, Refused, Down, NotStarted, Start, Run, RunAll, Steal, Shutdown, Kill, Over}
use Rattle.xd_journal.specs.declared.news.News.{News}
use Rattle.xd_journal.specs.declared.news.What.{What}
use Rattle.xd_journal.specs.declared.news.What.TheVariants as what
use Rattle.xd_run_laws.proofs.Logic.{differ}
use Rattle.xd_session.specs.History.{said_by}
use Rattle.xd_system.specs.Fits.{is_collected}
use Rattle.xd_system.specs.Own.{outcomes_by, ends_by, collections_in}

pub said-join : (w : ℕ) (xs ys : List News) → said_by w (xs ++ ys) ≡ said_by w xs ++ said_by w ys
said-join w [] ys = refl
said-join w (x ∷ xs) ys = go (x.worker == w) (said-join w xs ys)
  where
    go : (b : Bool) → said_by w (xs ++ ys) ≡ said_by w xs ++ said_by w ys
        → map (λ (n : News). n.what) (if b then x ∷ filter (λ (n : News). n.worker == w) (xs ++ ys) else filter (λ (n : News). n.worker == w) (xs ++ ys))
        ≡ map (λ (n : News). n.what) (if b then x ∷ filter (λ (n : News). n.worker == w) xs else filter (λ (n : News). n.worker == w) xs) ++ said_by w ys
    go true k = ap (λ (l : List What). x.what ∷ l) k
    go false k = k

pub said-own : (w : ℕ) (n : News) → (n.worker == w) ≡ true → said_by w (n ∷ []) ≡ n.what ∷ []
said-own w n h = rw h refl

pub said-other : (w : ℕ) (n : News) → (n.worker == w) ≡ false → said_by w (n ∷ []) ≡ []
said-other w n h = rw h refl

pub none-said : (xs : List What) → list_any is_collected xs ≡ false → collections_in xs ≡ []
none-said [] h = refl
none-said (what.Collected i ∷ xs) h = absurd (differ (sym h))
none-said (what.Ready ∷ xs) h = none-said xs h
none-said (what.LogStart n m ∷ xs) h = none-said xs h
none-said (what.Piece n b ∷ xs) h = none-said xs h
none-said (what.LogClosed n ∷ xs) h = none-said xs h
none-said (what.Done n o m ∷ xs) h = none-said xs h
none-said (what.Back n ∷ xs) h = none-said xs h
none-said (what.Finished ∷ xs) h = none-said xs h
none-said (what.Closed t ∷ xs) h = none-said xs h
none-said (what.Stray ∷ xs) h = none-said xs h
none-said (what.Gone c ∷ xs) h = none-said xs h
none-said (what.NotStarted ∷ xs) h = none-said xs h

pub no-dones : (w : ℕ) (es : List Entry) → ends_by w es ≡ [] → outcomes_by w es ≡ []
no-dones w [] h = refl
no-dones w (Done v n o ms b ∷ es) h = go (v == w) refl (λ k. no-dones w es k)
  where
    go : (q : Bool) → (v == w) ≡ q → (ends_by w es ≡ [] → outcomes_by w es ≡ [])
        → outcomes_by w (Done v n o ms b ∷ es) ≡ []
    go true e rest =
        absurd (let z : n ∷ ends_by w es ≡ [] = sym (ap (λ (q : Bool). cons_option (if q then Some n else None) (ends_by w es)) e) ∙ h in cc)
    go false e rest = ap (λ (q : Bool). cons_option (if q then Some (n, o) else None) (outcomes_by w es)) e
        ∙ rest (sym (ap (λ (q : Bool). cons_option (if q then Some n else None) (ends_by w es)) e) ∙ h)
no-dones w (Ready v ∷ es) h = no-dones w es h
no-dones w (Collected v g ∷ es) h = no-dones w es h
no-dones w (Back v ns ∷ es) h = no-dones w es h
no-dones w (Finished v ∷ es) h = no-dones w es h
no-dones w (Refused v t ∷ es) h = no-dones w es h
no-dones w (Down v c b ∷ es) h = no-dones w es h
no-dones w (NotStarted v ∷ es) h = no-dones w es h
no-dones w (Start v i ∷ es) h = no-dones w es h
no-dones w (Run v ns ∷ es) h = no-dones w es h
no-dones w (RunAll v ∷ es) h = no-dones w es h
no-dones w (Steal v ns ∷ es) h = no-dones w es h
no-dones w (Shutdown v ∷ es) h = no-dones w es h
no-dones w (Kill v ∷ es) h = no-dones w es h
no-dones w (Over how ∷ es) h = no-dones w es h
