-- How the journal of a run is kept, step by step.
use Rattle.std.proofs.Common.{◌≡◌, ◌≢◌, ℕ, List, refl, ap₂, subst, sym}
use Rattle.std.specs.Prelude.{Option, Some, None, is_some}
use Rattle.xd_edge.specs.Files.{Held, SameFile}
use Rattle.xd_edge.specs.Sink.{Sunk}
use Rattle.xd_journal.specs.declared.journal.Journal.{Journal}
use Rattle.xd_local.specs.Outside.{Output}
use Rattle.xd_top.specs.declared.keeping.Kept.{Kept}
use Rattle.xd_top.specs.declared.keeping.Kept.TheVariants.{Written}
use Rattle.xd_top.specs.Keeping.{FilesKept, KeepsIn, KeepsJournal, kept_line, kept_status}
use Rattle.xd_top.specs.Outside.{Files, Streams}
use Rattle.xd_top.specs.Said.{SaysLine}

pub same-file : (name : List ℕ) (held : Option Held) → SameFile name held held
same-file name None = tt
same-file name (Some file) = refl

-- where no file is named, or there is no journal, nothing is kept
pub no-file : (file : Option (List ℕ)) (o : Option Journal) (own : ℕ) (s : Streams) → file ≡ None → KeepsIn file o own own s s
no-file None o own s e = record { status_is = refl; same = refl }
no-file (Some path) o own s e = absurd cc

pub no-journal : (file : Option (List ℕ)) (o : Option Journal) (own : ℕ) (s : Streams) → o ≡ None → KeepsIn file o own own s s
no-journal None o own s e = record { status_is = refl; same = refl }
no-journal (Some path) None own s e = record { status_is = refl; same = refl }
no-journal (Some path) (Some j) own s e = absurd cc

pub with-both : (file : Option (List ℕ)) (o : Option Journal) (path : List ℕ) (j : Journal) (own status : ℕ) (old new : Streams) → file ≡ Some path → o ≡ Some j → KeepsJournal path j own status old new → KeepsIn file o own status old new
with-both file o path j own status old new e f k =
    subst (λ (x : Option (List ℕ)). KeepsIn x o own status old new) (sym e) (subst (λ (x : Option Journal). KeepsIn (Some path) x own status old new) (sym f) k)

-- an output, by what it took and its count of faults
abbrev pub output : Option Sunk → ℕ → Output
output sunk faults = record { sunk = sunk; faults = faults }

same-output : (a b : Option Sunk) (m n : ℕ) → (b ≡ a) × (n ≡ m) → output b n ≡ output a m
same-output a b m n e = ap₂ output (e.0) (e.1)

-- what was written, and what was said of it
pub kept-so : (path : List ℕ) (j : Journal) (how : Kept) (own : ℕ) (old new : Files) (out : Output) (a b : Option Sunk) (m n : ℕ) → FilesKept how path j old new → ((name : List ℕ) → name ≢ path → SameFile name old.held new.held)
    → is_some new.held ≡ is_some old.held → (how ≡ Written → (b ≡ a) × (n ≡ m)) → (how ≢ Written → SaysLine (kept_line how) (output a m) (output b n))
    → KeepsJournal path j own (kept_status how own) (record { files = old; out = out; err = output a m }) (record { files = new; out = out; err = output b n })
kept-so path j how own old new out a b m n files others tells quiet says = record {
  how = how;
  files = files;
  others = others;
  tells = tells;
  status_is = refl;
  no_output = refl;
  quiet = λ e. same-output a b m n (quiet e);
  says = says;
}
