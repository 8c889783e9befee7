-- Worked rows: payloads as the real execnet wrote them, and files that are none.
use Rattle.std.proofs.Common.{◌≡◌, [], ◌∷◌, true, None, length, length-append, refl, ap, arith}
use Rattle.std.specs.Prelude.{negsuc}
use Rattle.xd_edge.specs.declared.mode.ModeKind.TheVariants.{Load}
use Rattle.xd_value.specs.Canonical.{canonical, dumped}
use Rattle.xd_value.proofs.Dumped.{dumped_payload}
use Rattle.xd_frame.specs.Message.{frame}
use Rattle.xd_journal.specs.declared.settings.Settings.{Settings}
use Rattle.xd_journal.specs.declared.entry.Ids.TheVariants.{Same}
use Rattle.xd_journal.specs.declared.entry.Outcome.TheVariants.{Failed}
use Rattle.xd_journal.specs.declared.entry.RunStop.TheVariants.{Completed}
use Rattle.xd_journal.specs.declared.entry.Entry.TheVariants.{Ready, Collected, Done, Run, Over}
use Rattle.xd_journal_file.specs.Written.{entry_tree, settings_tree}
use Rattle.xd_journal_file.specs.FileOf.{IsBadAt, IsWritable, message_of_value}
use Rattle.xd_journal_file.proofs.Files.{bad_first}

ready : canonical (entry_tree (Ready 0)) ≡ 78 ∷ 0 ∷ 0 ∷ 0 ∷ 5 ∷ 114 ∷ 101 ∷ 97 ∷ 100 ∷ 121 ∷ 70 ∷ 0 ∷ 0 ∷ 0 ∷ 0 ∷ 64 ∷ 0 ∷ 0 ∷ 0 ∷ 2 ∷ 81 ∷ []
unfolding lib.Utf8.encode
ready = refl

-- Same is None, and no list
collected : canonical (entry_tree (Collected 1 Same)) ≡ 78 ∷ 0 ∷ 0 ∷ 0 ∷ 9 ∷ 99 ∷ 111 ∷ 108 ∷ 108 ∷ 101 ∷ 99 ∷ 116 ∷ 101 ∷ 100 ∷ 70 ∷ 0 ∷ 0 ∷ 0 ∷ 1 ∷ 76 ∷ 64 ∷ 0 ∷ 0 ∷ 0 ∷ 3 ∷ 81 ∷ []
unfolding lib.Utf8.encode
collected = refl

run : canonical (entry_tree (Run 0 (0 ∷ 1 ∷ [])))
    ≡ 78 ∷ 0 ∷ 0 ∷ 0 ∷ 3 ∷ 114 ∷ 117 ∷ 110 ∷ 70 ∷ 0 ∷ 0 ∷ 0 ∷ 0 ∷ 75 ∷ 0 ∷ 0 ∷ 0 ∷ 2 ∷ 70 ∷ 0 ∷ 0 ∷ 0 ∷ 0 ∷ 70 ∷ 0 ∷ 0 ∷ 0 ∷ 0 ∷ 80 ∷ 70 ∷ 0 ∷ 0 ∷ 0 ∷ 1 ∷ 70 ∷ 0 ∷ 0 ∷ 0 ∷ 1 ∷ 80 ∷ 64 ∷ 0 ∷ 0 ∷ 0 ∷ 3 ∷ 81 ∷ []
unfolding lib.Utf8.encode
run = refl

-- a test that was not read to its end has the code -3
done : canonical (entry_tree (Done 0 1 (Failed (negsuc 2)) 12 (120 ∷ [])))
    ≡ 78 ∷ 0 ∷ 0 ∷ 0 ∷ 4 ∷ 100 ∷ 111 ∷ 110 ∷ 101 ∷ 70 ∷ 0 ∷ 0 ∷ 0 ∷ 0 ∷ 70 ∷ 0 ∷ 0 ∷ 0 ∷ 1 ∷ 70 ∷ 255 ∷ 255 ∷ 255 ∷ 253 ∷ 70 ∷ 0 ∷ 0 ∷ 0 ∷ 12 ∷ 65 ∷ 0 ∷ 0 ∷ 0 ∷ 1 ∷ 120 ∷ 64 ∷ 0 ∷ 0 ∷ 0 ∷ 6 ∷ 81 ∷ []
unfolding lib.Utf8.encode
done = refl

over : canonical (entry_tree (Over Completed)) ≡ 78 ∷ 0 ∷ 0 ∷ 0 ∷ 4 ∷ 111 ∷ 118 ∷ 101 ∷ 114 ∷ 78 ∷ 0 ∷ 0 ∷ 0 ∷ 9 ∷ 99 ∷ 111 ∷ 109 ∷ 112 ∷ 108 ∷ 101 ∷ 116 ∷ 101 ∷ 100 ∷ 64 ∷ 0 ∷ 0 ∷ 0 ∷ 2 ∷ 81 ∷ []
unfolding lib.Utf8.encode
over = refl

-- two workers, mode load, eight restarts
abbrev two : Settings
two = record { mode = Load; workers = 2; maxfail = 0; restarts = 8; chunk = None; reorder = true; retries = 0 }

settings : canonical (settings_tree two)
    ≡ 78 ∷ 0 ∷ 0 ∷ 0 ∷ 13 ∷ 120 ∷ 100 ∷ 114 ∷ 117 ∷ 110 ∷ 32 ∷ 106 ∷ 111 ∷ 117 ∷ 114 ∷ 110 ∷ 97 ∷ 108 ∷ 70 ∷ 0 ∷ 0 ∷ 0 ∷ 1 ∷ 78 ∷ 0 ∷ 0 ∷ 0 ∷ 4 ∷ 108 ∷ 111 ∷ 97 ∷ 100 ∷ 70 ∷ 0 ∷ 0 ∷ 0 ∷ 2 ∷ 70 ∷ 0 ∷ 0 ∷ 0 ∷ 0 ∷ 70 ∷ 0 ∷ 0 ∷ 0 ∷ 8 ∷ 76 ∷ 82 ∷ 70 ∷ 0 ∷ 0 ∷ 0 ∷ 0 ∷ 64 ∷ 0 ∷ 0 ∷ 0 ∷ 9 ∷ 81 ∷ []
unfolding lib.Utf8.encode
settings = refl

-- an empty file is bad at its message 0
empty_file : IsBadAt 0 []
empty_file = bad_first [] (λ s following w is. (let m = message_of_value (settings_tree s) in let size = ap length is in let l = length-append (frame m) following in absurd (omega (arith, size, l))))

-- an entry can stand in a file
ready_fits : IsWritable (Ready 0)
unfolding dumped lib.Utf8.encode
ready_fits = record { sized = omega arith; fits = record { payload = dumped_payload (entry_tree (Ready 0)) (canonical (entry_tree (Ready 0))) (refl, (omega arith, tt)) refl; short = omega arith } }
