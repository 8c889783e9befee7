-- Words whose first names no other command are those of the main command.
use Rattle.std.proofs.Common.{◌≡◌, ◌≢◌, ℕ, [], ◌∷◌, List, map, get_or, refl, Bor}
use Rattle.std.specs.Prelude.{codes, false}
use Rattle.std.specs.Str.{bytes_eq}
use Rattle.std.proofs.lemmas.Bool.{false_from_ne_true}
use Rattle.std.proofs.lemmas.Slice.Eq.{bytes_eq-Decides}
use Rattle.xd_words.specs.Asked.{rows_in}
use Rattle.xd_words.specs.Command.{main_app}
use Rattle.xd_words.specs.Words.{main_plan, plan_of_utf8}

unlike : (word text : List ℕ) → word ≢ text → bytes_eq word text ≡ false
unlike word text differs = false_from_ne_true (bytes_eq word text) (λ same. differs ((bytes_eq-Decides word text).0 same))

pub no_command : (words : List (Bor (List ℕ))) (d : Bor (List ℕ))
    → (get_or words 0 d).now ≢ codes "worker" → (get_or words 0 d).now ≢ codes "wire" → (get_or words 0 d).now ≢ codes "replay"
    → (get_or words 0 d).now ≢ codes "socketserver"
    → main_plan (rows_in main_app (map (λ w. w.now) words)) ≡ plan_of_utf8 (map (λ w. w.now) words)
unfolding plan_of_utf8
no_command [] d worker wire replay socket = refl
no_command (w ∷ ws) d worker wire replay socket =
    rw (unlike w.now (codes "worker") worker) (rw (unlike w.now (codes "wire") wire)
    (rw (unlike w.now (codes "replay") replay) (rw (unlike w.now (codes "socketserver") socket) refl)))
