-- What a turn of a call asks for only grows.
use Rattle.std.proofs.Common.{◌≡◌, ℕ, List, [], ◌∷◌, ◌++◌, map, Bool, true, false, ◌&&◌, refl, ap, sym, ◌∙◌, append_assoc}
use Rattle.std.specs.Prelude.{if◌then◌else◌, Option, Some, None}
use Rattle.std.specs.List.{range_with_len}
use Rattle.std.proofs.lemmas.List.{append-nil}
use Rattle.std.proofs.lemmas.List.Elements.{filter_map-append}
use Rattle.xd_journal.specs.declared.entry.Outcome.{Outcome}
use Rattle.xd_journal.specs.declared.news.What.TheVariants as what
use Rattle.xd_commands.specs.declared.order.Order.{Order}
use Rattle.xd_commands.specs.declared.order.Order.TheVariants.{RunTests, RunAll, Steal, Shutdown}
use Rattle.xd_worker_tests.specs.declared.ask.Ask.{Ask}
use Rattle.xd_worker_tests.specs.declared.ask.Ask.TheVariants.{End, Tell}
use Rattle.xd_worker_tests.specs.declared.line_entry.LineEntry.{LineEntry}
use Rattle.xd_worker_tests.specs.declared.line_entry.LineEntry.TheVariants.{Test, Mark}
use Rattle.xd_worker_tests.specs.declared.phase.Ending.{Ending}
use Rattle.xd_worker_tests.specs.declared.phase.Ending.TheVariants.{BadCommand}
use Rattle.xd_worker_tests.specs.declared.phase.Phase.{Phase}
use Rattle.xd_worker_tests.specs.declared.phase.Phase.TheVariants.{Awaiting, Serving, Over}
use Rattle.xd_worker_tests.specs.declared.phase.Phase.TheVariants as phase
use Rattle.xd_worker_tests.specs.Line.{all_queued, can_ask, can_give, front, kept, left, number_of_log, queue, stolen_tests}
use Rattle.xd_worker_tests.specs.Turns.{CallTurn, all_heard, asking, ended_early, ending_text, given, has_log, item_heard, item_heard_in, line_settled, moved_on, over, stolen, stolen_if, test_started, told, too_many_channels}
use Rattle.xd_system.specs.Own.{outcome_of_news, outcomes_in}
use Rattle.xd_system.specs.Tells.{news_of_asks}
use Rattle.xd_system.proofs.Told.{asks-append}

-- what a turn asks for only grows

abbrev pub Grows : CallTurn → CallTurn → Type 0
Grows t u = (more : List Ask) × (u.asks ≡ t.asks ++ more) × (outcomes_in (news_of_asks more) ≡ [])

pub same-asks : (t u : CallTurn) → u.asks ≡ t.asks → Grows t u
same-asks t u e = ([], e ∙ sym (append-nil t.asks), refl)

pub grows-then : (t u v : CallTurn) → Grows t u → Grows u v → Grows t v
grows-then t u v a b = (
  a.0 ++ b.0,
  b.1 ∙ ap (λ (l : List Ask). l ++ b.0) a.1 ∙ append_assoc t.asks a.0 b.0,
  ap outcomes_in (asks-append a.0 b.0) ∙ filter_map-append outcome_of_news (news_of_asks a.0) (news_of_asks b.0)
      ∙ ap (λ (l : List (ℕ × Outcome)). l ++ outcomes_in (news_of_asks b.0)) a.2 ∙ b.2,
)

pub grows-over : (text : Option (List ℕ)) (t : CallTurn) → Grows t (over text t)
grows-over None t = (End None ∷ [], refl, refl)
grows-over (Some x) t = (End (Some x) ∷ [], refl, refl)

pub grows-early : (e : Ending) (t : CallTurn) → Grows t (ended_early e t)
grows-early e t = go t.call.running
  where
    go : (v : Bool) → Grows t (if v then record t { call = record (t.call) { phase = phase.Ending e } } else over (ending_text e) t)
    go true = same-asks t (record t { call = record (t.call) { phase = phase.Ending e } }) refl
    go false = grows-over (ending_text e) t

pub grows-moved : (room : Bool) (l : List LineEntry) (t : CallTurn) → Grows t (moved_on room l t)
grows-moved room [] t = same-asks t t refl
grows-moved room (Mark ∷ l) t =
    (Tell what.Finished ∷ End None ∷ [], append_assoc t.asks (Tell what.Finished ∷ []) (End None ∷ []), refl)
grows-moved room (Test n ∷ []) t = same-asks t t refl
grows-moved room (Test n ∷ (p ∷ l)) t = go (room && has_log t.call.ended)
  where
    go : (v : Bool) → Grows t (if v then test_started n t else over (Some too_many_channels) t)
    go true = (Tell (what.LogStart n (number_of_log t.call.ended)) ∷ [], refl, refl)
    go false = grows-over (Some too_many_channels) t

pub grows-settled : (room : Bool) (t : CallTurn) → Grows t (line_settled room t)
grows-settled room t = go t.call.running
  where
    go : (v : Bool) → Grows t (if v then t else moved_on room (left t.call) t)
    go true = same-asks t t refl
    go false = grows-moved room (left t.call) t

pub grows-given : (room : Bool) (ns : List ℕ) (t : CallTurn) → Grows t (given room ns t)
grows-given room ns t = go (can_give t.call.size t.call.line ns)
  where
    go : (v : Bool) → Grows t (if v then line_settled room (record t { call = record (t.call) { line = t.call.line ++ map Test ns } }) else ended_early BadCommand t)
    go true = grows-settled room (record t { call = record (t.call) { line = t.call.line ++ map Test ns } })
    go false = grows-early BadCommand t

pub grows-stolen : (ns : List ℕ) (t : CallTurn) → Grows t (stolen_if ns t)
grows-stolen ns t = ask (can_ask t.call.size [] ns)
  where
    go : (v : Bool) → Grows t (if v then asking (Tell (what.Back (stolen_tests ns (queue t.call))) ∷ []) (record t { call = record (t.call) { line = front t.call ++ kept ns (queue t.call) } }) else asking (Tell (what.Back []) ∷ []) t)
    go true = (Tell (what.Back (stolen_tests ns (queue t.call))) ∷ [], refl, refl)
    go false = (Tell (what.Back []) ∷ [], refl, refl)

    ask : (v : Bool) → Grows t (if v then stolen ns t else ended_early BadCommand t)
    ask true = go (all_queued (queue t.call) ns)
    ask false = grows-early BadCommand t

pub grows-told : (room : Bool) (o : Option Order) (t : CallTurn) → Grows t (told room o t)
grows-told room None t = grows-early BadCommand t
grows-told room (Some (RunTests ns)) t = grows-given room ns t
grows-told room (Some RunAll) t = grows-given room (range_with_len 0 t.call.size) t
grows-told room (Some (Steal ns)) t = grows-stolen ns t
grows-told room (Some Shutdown) t =
    grows-settled room (record t { call = record (t.call) { line = t.call.line ++ Mark ∷ [] } })

pub grows-heard : (p : Phase) (room : Bool) (o : Option Order) (t : CallTurn) → Grows t (item_heard_in p room o t)
grows-heard Awaiting room o t =
    same-asks t (record t { call = record (t.call) { waiting = t.call.waiting ++ o ∷ [] } }) refl
grows-heard Serving room o t = grows-told room o t
grows-heard (phase.Ending x) room o t = same-asks t t refl
grows-heard phase.Stopped room o t = same-asks t t refl
grows-heard Over room o t = same-asks t t refl

pub grows-all : (room : Bool) (os : List (Option Order)) (t : CallTurn) → Grows t (all_heard room os t)
grows-all room [] t = same-asks t t refl
grows-all room (o ∷ os) t =
    grows-then t (item_heard room o t) (all_heard room os (item_heard room o t)) (grows-heard t.call.phase room o t) (grows-all room os (item_heard room o t))
