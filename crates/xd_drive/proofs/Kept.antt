-- How much output the journal of a session keeps.
use Rattle.std.proofs.Common.{◌≡◌, List, [], ◌∷◌, ◌++◌, Bool, true, refl, ◌∙◌, subst, sym, arith}
use Rattle.std.specs.List.{list_all}
use Rattle.std.proofs.lemmas.List.Folds.{list_all-append}
use Rattle.xd_journal.specs.declared.entry.Entry.{Entry}
use Rattle.xd_journal.specs.declared.entry.Entry.TheVariants.{Ready, Collected, Done, Back, Finished, Refused, Down, NotStarted, Start, Run, RunAll, Steal, Shutdown, Kill, Over}
use Rattle.xd_journal.specs.declared.news.News.{News}
use Rattle.xd_run.specs.Ending.{ending}
use Rattle.xd_run.specs.Meaning.{spent_by}
use Rattle.xd_session.specs.Bounded.{IsBounded, keeps_few}
use Rattle.xd_session.specs.Stands.{SessionSeen, StandsForNews, state_of}
use Rattle.xd_session.proofs.Bounds.{bounded-run}
use Rattle.xd_session.proofs.Lawful.{stands-proper}
use Rattle.xd_session_rules.proofs.Growing.{spent-append}
use Rattle.xd_run_laws.proofs.Logic.{and, differ}
use Rattle.xd_drive.proofs.Texts.{silent, silent-ending}

-- a kill or the end keeps nothing
keeps-none : (ys : List Entry) → list_all silent ys ≡ true → (list_all keeps_few ys ≡ true) × (spent_by ys ≡ 0)
keeps-none [] h = (refl, refl)
keeps-none (Kill w ∷ ys) h = keeps-none ys h
keeps-none (Over how ∷ ys) h = keeps-none ys h
keeps-none (Ready w ∷ ys) h = absurd (differ h)
keeps-none (Collected w g ∷ ys) h = absurd (differ h)
keeps-none (Done w i u m o ∷ ys) h = absurd (differ h)
keeps-none (Back w is ∷ ys) h = absurd (differ h)
keeps-none (Finished w ∷ ys) h = absurd (differ h)
keeps-none (Refused w x ∷ ys) h = absurd (differ h)
keeps-none (Down w c o ∷ ys) h = absurd (differ h)
keeps-none (NotStarted w ∷ ys) h = absurd (differ h)
keeps-none (Start w slot ∷ ys) h = absurd (differ h)
keeps-none (Run w is ∷ ys) h = absurd (differ h)
keeps-none (RunAll w ∷ ys) h = absurd (differ h)
keeps-none (Steal w is ∷ ys) h = absurd (differ h)
keeps-none (Shutdown w ∷ ys) h = absurd (differ h)

bounded-following : (es ys : List Entry) → list_all silent ys ≡ true → IsBounded es → IsBounded (es ++ ys)
bounded-following es ys h b =
    let none = keeps-none ys h in
    let few = b.together in
    let same = spent-append es ys in
    let nothing = none.1 in
    record { each = list_all-append keeps_few es ys ∙ and b.each none.0; together = omega (arith, few, same, nothing) }

-- a session that stands for some news, with its end
pub kept-ended : (failed : Bool) (taken : List News) (s : SessionSeen) → StandsForNews taken s → IsBounded (s.entries ++ ending failed (state_of s).books)
kept-ended failed taken s st =
    bounded-following s.entries (ending failed (state_of s).books) (silent-ending failed (state_of s).books)
    (subst IsBounded (sym st.entries) (bounded-run s.settings taken (stands-proper taken s st)))
