-- Lemmas on the loops of the marks.
use Rattle.std.proofs.Common.{◌≡◌, ℕ, ◌+◌, ◌<◌, List, [], ◌∷◌, ◌++◌, map, take, length, get_or, refl, ap, sym, append_assoc, ◌∙◌, arith, Bool, true, false}
use Rattle.std.proofs.lemmas.List.{take_more}
use Rattle.std.proofs.lemmas.Grind.{common_steps}
use Rattle.std.specs.Prelude.{filter, if◌then◌else◌}
use Rattle.xd_journal.specs.declared.entry.Entry.{Entry}
use Rattle.xd_journal.specs.declared.entry.Entry.TheVariants.{Kill}
use Rattle.xd_run.specs.Books.{Books}
use Rattle.xd_run.specs.declared.member.Member.{Member}
use Rattle.xd_run.specs.Workers.{waiting, is_waiting}
use Rattle.xd_run.specs.Ending.{kills}
use Rattle.xd_session_books.specs.Books.{told_to_shut, told_all, shutdowns}

pub told_all-more : (ws : List ℕ) (w : ℕ) (b : Books) → told_all (ws ++ w ∷ []) b ≡ told_to_shut w (told_all ws b)
told_all-more [] w b = refl
told_all-more (v ∷ ws) w b = told_all-more ws w (told_to_shut v b)

pub waiting-more : (ms : List Member) (m : Member) → waiting (ms ++ m ∷ []) ≡ (if is_waiting m then waiting ms ++ m.worker ∷ [] else waiting ms)
waiting-more [] m = elim (is_waiting m) as (λ b. map (λ x. x.worker) (if b then m ∷ [] else []) ≡ (if b then [] ++ m.worker ∷ [] else [])) [ true ↦ refl | false ↦ refl ]
waiting-more (x ∷ ms) m =
    let k = waiting-more ms m in
    grind (arith, common_steps)

pub shutdowns-more : (ws : List ℕ) (w : ℕ) → shutdowns (ws ++ w ∷ []) ≡ shutdowns ws ++ shutdowns (w ∷ [])
shutdowns-more [] w = refl
shutdowns-more (v ∷ ws) w = grind (arith, common_steps, shutdowns-more ws w)

pub waiting-step : (xs : List Member) (i : ℕ) (d : Member) (ws vs : List ℕ) (b : Bool) → i < length xs → ws ≡ waiting (take i xs) → b ≡ is_waiting (get_or xs i d) → vs ≡ (if b then ws ++ (get_or xs i d).worker ∷ [] else ws) → vs ≡ waiting (take (i + 1) xs)
waiting-step xs i d ws vs b h a e c =
    let t : take (i + 1) xs ≡ take i xs ++ get_or xs i d ∷ [] = take_more xs i d h in
    let k = waiting-more (take i xs) (get_or xs i d) in
    c ∙ ap (λ q. if q then ws ++ (get_or xs i d).worker ∷ [] else ws) e ∙ ap (λ us. if is_waiting (get_or xs i d) then us ++ (get_or xs i d).worker ∷ [] else us) a ∙ sym k ∙ ap waiting (sym t)

pub tell-step : (ws : List ℕ) (i w : ℕ) (b c d : Books) → i < length ws → w ≡ get_or ws i 0 → c ≡ told_all (take i ws) b → d ≡ told_to_shut w c → d ≡ told_all (take (i + 1) ws) b
tell-step ws i w b c d h a e f =
    let t : take (i + 1) ws ≡ take i ws ++ w ∷ [] = take_more ws i 0 h ∙ ap (λ z. take i ws ++ z ∷ []) (sym a) in
    f ∙ ap (told_to_shut w) e ∙ sym (told_all-more (take i ws) w b) ∙ ap (λ us. told_all us b) (sym t)

pub note-step : (ws : List ℕ) (i w : ℕ) (old es fs : List Entry) → i < length ws → w ≡ get_or ws i 0 → es ≡ old ++ shutdowns (take i ws) → fs ≡ es ++ shutdowns (w ∷ []) → fs ≡ old ++ shutdowns (take (i + 1) ws)
note-step ws i w old es fs h a e f =
    let t : take (i + 1) ws ≡ take i ws ++ w ∷ [] = take_more ws i 0 h ∙ ap (λ z. take i ws ++ z ∷ []) (sym a) in
    let k = shutdowns-more (take i ws) w in
    f ∙ ap (λ us. us ++ shutdowns (w ∷ [])) e ∙ append_assoc old (shutdowns (take i ws)) (shutdowns (w ∷ [])) ∙ ap (λ us. old ++ us) (sym k ∙ ap shutdowns (sym t))

kills-by : (x : Member) (ms : List Member) (m : Member) (b : Bool) → kills (ms ++ m ∷ []) ≡ kills ms ++ (if m.active then Kill m.worker ∷ [] else [])
    → map (λ (y : Member). Kill y.worker) (if b then x ∷ filter (λ (y : Member). y.active) (ms ++ m ∷ []) else filter (λ (y : Member). y.active) (ms ++ m ∷ []))
    ≡ map (λ (y : Member). Kill y.worker) (if b then x ∷ filter (λ (y : Member). y.active) ms else filter (λ (y : Member). y.active) ms) ++ (if m.active then Kill m.worker ∷ [] else [])
kills-by x ms m true k = ap (λ es. Kill x.worker ∷ es) k
kills-by x ms m false k = k

kills-more : (ms : List Member) (m : Member) → kills (ms ++ m ∷ []) ≡ kills ms ++ (if m.active then Kill m.worker ∷ [] else [])
kills-more [] m = elim m.active as (λ b. map (λ (x : Member). Kill x.worker) (if b then m ∷ [] else []) ≡ [] ++ (if b then Kill m.worker ∷ [] else [])) [ true ↦ refl | false ↦ refl ]
kills-more (x ∷ ms) m = kills-by x ms m x.active (kills-more ms m)

pub kill-step : (xs : List Member) (i : ℕ) (d : Member) (old es fs : List Entry) → i < length xs → es ≡ old ++ kills (take i xs) → fs ≡ es ++ (if (get_or xs i d).active then Kill (get_or xs i d).worker ∷ [] else []) → fs ≡ old ++ kills (take (i + 1) xs)
kill-step xs i d old es fs h a f =
    let m : Member = get_or xs i d in
    let t : take (i + 1) xs ≡ take i xs ++ m ∷ [] = take_more xs i d h in
    let k : List Entry = if m.active then Kill m.worker ∷ [] else [] in
    f ∙ ap (λ us. us ++ k) a ∙ append_assoc old (kills (take i xs)) k ∙ ap (λ us. old ++ us) (sym (kills-more (take i xs) m) ∙ ap kills (sym t))
