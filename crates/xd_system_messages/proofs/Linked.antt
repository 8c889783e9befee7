-- A worker and its controller, from ask to ask: what the worker says is heard as what it was asked to tell.
use Rattle.std.proofs.Common.{◌≡◌, ℕ, ◌+◌, List, [], ◌∷◌, ◌++◌, Bool, true, false, Option, Some, None, Result, Ok, refl, ap, sym, subst, ◌∙◌, append_assoc, append-nil, arith, inl, inr}
use Rattle.std.specs.Prelude.{map, pos, ◌||◌, option_to_list, if◌then◌else◌}
use Rattle.std.specs.List.{list_all}
use Rattle.std.proofs.lemmas.Bool.{and_parts}
use Rattle.std.proofs.lemmas.Option.{same_Some}
use Rattle.xd_value.specs.Canonical.{canonical, dumped}
use Rattle.xd_value.specs.Channels.{channels, all_channels}
use Rattle.xd_value.specs.Tree.{Tree, bytes, int, text}
use Rattle.xd_value.specs.View.{trees_of}
use Rattle.xd_value.specs.declared.writing.DumpFault.{DumpFault}
use Rattle.xd_frame.specs.Message.{MessageView}
use Rattle.xd_factory.specs.Said.{Close, Means}
use Rattle.xd_factory.specs.SideTable.{ChannelTable}
use Rattle.xd_factory.specs.Slot.{Slot, Here, Gone, is_seen}
use Rattle.xd_factory.specs.Table.{closing_message, close_says, is_long, send_refusal, sent_gives}
use Rattle.xd_journal.specs.declared.news.What.{What}
use Rattle.xd_journal.specs.declared.news.What.TheVariants as what
use Rattle.xd_commands.specs.Events.{IsEvent, event_tree}
use Rattle.xd_commands.specs.Limits.{FitsPayload}
use Rattle.xd_commands.proofs.EventFitting.{event_payload}
use Rattle.xd_gateway.specs.Calls.{item_message}
use Rattle.xd_gateway.specs.News.{is_finish, log_hooked}
use Rattle.xd_worker_tests.specs.declared.ask.Ask.{Ask}
use Rattle.xd_worker_tests.specs.declared.ask.Ask.TheVariants.{Tell, Piece, CloseLog, End}
use Rattle.xd_worker_tests.specs.Line.{number_of_log}
use Rattle.xd_worker_tests.specs.Logs.{Logs, LogStep, LogSteps}
use Rattle.xd_worker.specs.Talk.{Talk, event_told, function_ended, item_says, log_closed, log_opened, saying, sent, short_or, told_tree}
use Rattle.xd_worker.specs.Turns.{all_asked, asked}
use Rattle.xd_worker.specs.Worker.{WorkerTurn}
use Rattle.xd_system.specs.Tells.{news_of_ask, news_of_asks}
use Rattle.xd_system_messages.proofs.Asks.{AreSayableAsks, EndsBy, IsClosing, IsSayableAsk, IsSayableEvent, is_quiet}
use Rattle.xd_system_messages.proofs.Ears.{Ears, hears_close, hears_error, hears_event, hears_finish, hears_piece, hears_start, last_numbered}
use Rattle.xd_system_messages.proofs.Payloads.{piece_dumped, piece_payload, text_payload}
use Rattle.xd_system_messages.proofs.Slots.{ended_at}
use Rattle.xd_system_messages.proofs.Tables.{Channels, closes, ends, last_log, open_end, opens, put_at}

-- Both ends at once: the worker's channels, and what its controller heard of all that it said.
pub record Linked (over finished : Bool) (n : ℕ) (o : Bool) (before : List MessageView) (d : Talk) (news : List What) : Type 0 where
  pub worker : Channels false over n o d.table.slot
  pub next_is : d.table.next ≡ number_of_log n
  pub ears : Ears over finished n o (before ++ d.says) news

-- what was said is heard, also after it was put behind the rest
behind : (over finished : Bool) (n : ℕ) (o : Bool) (before says : List MessageView) (m : MessageView) (news : List What) → Ears over finished n o ((before ++ says) ++ m ∷ []) news → Ears over finished n o (before ++ (says ++ m ∷ [])) news
behind over finished n o before says m news e = subst (λ (l : List MessageView). Ears over finished n o l news) (append_assoc before says (m ∷ [])) e

-- ---- events

told_is : (v : Tree) (e : What) (d : Talk) → event_tree e ≡ Some v → dumped v ≡ Ok (canonical v) → d.table.slot 1 ≡ Here (open_end true)
    → event_told 1 e d ≡ record d { says = d.says ++ item_message 1 (canonical v) ∷ [] }
told_is v e d is written here =
    ap (λ (t : Option Tree). told_tree 1 t d) is
    ∙ (ap (λ (s : Slot Tree). saying (item_says 1 (sent_gives (send_refusal s) (dumped v))) d) here
    ∙ ap (λ (r : Result (List ℕ) DumpFault). saying (item_says 1 (sent_gives None r)) d) written)

pub plain : (e : What) (v : Tree) (finished : Bool) (n : ℕ) (o : Bool) (before : List MessageView) (d : Talk) (news : List What) → event_tree e ≡ Some v → IsEvent e → FitsPayload e → channels v ≡ [] → ((t : ChannelTable) → log_hooked (Some e) t ≡ t)
    → Linked false finished n o before d news → Linked false (finished || is_finish (Some e)) n o before (event_told 1 e d) (news ++ e ∷ [])
plain e v finished n o before d news is event fits none keeps l =
    let law = event_payload e v event fits is in
    let heard = hears_event false finished n o (before ++ d.says) news l.ears v (canonical v) e refl law.1 (law.2 v law.1) none keeps in
    subst (λ (x : Talk). Linked false (finished || is_finish (Some e)) n o before x (news ++ e ∷ [])) (sym (told_is v e d is law.0 (l.worker.one refl)))
    (record { worker = l.worker; next_is = l.next_is; ears = behind false (finished || is_finish (Some e)) n o before d.says (item_message 1 (canonical v)) (news ++ e ∷ []) heard })

-- the start of a log
starts : (v : Tree) (test n : ℕ) (before : List MessageView) (d : Talk) (news : List What) → event_tree (what.LogStart test (number_of_log n)) ≡ Some v → IsEvent (what.LogStart test (number_of_log n)) → FitsPayload (what.LogStart test (number_of_log n))
    → channels v ≡ number_of_log n ∷ [] → Linked false false n false before d news → Linked false false (n + 1) true before (event_told 1 (what.LogStart test (number_of_log n)) (log_opened d)) (news ++ what.LogStart test (number_of_log n) ∷ [])
starts v test n before d news is event fits names l =
    let e = what.LogStart test (number_of_log n) in
    let law = event_payload e v event fits is in
    let d2 = log_opened d in
    let worker = opens false n d.table.slot d2.table.slot (λ c. ap (λ (k : ℕ). put_at k (Here (open_end false)) d.table.slot c) l.next_is) l.worker in
    let heard = hears_start false false n false (before ++ d.says) news l.ears v (canonical v) test refl refl law.1 (law.2 v law.1) names in
    subst (λ (x : Talk). Linked false false (n + 1) true before x (news ++ e ∷ [])) (sym (told_is v e d2 is law.0 (worker.one refl)))
    (record { worker = worker; next_is = ap (λ (k : ℕ). k + 2) l.next_is ∙ two n; ears = behind false false (n + 1) true before d.says (item_message 1 (canonical v)) (news ++ e ∷ []) heard })
  where
    two : (k : ℕ) → number_of_log k + 2 ≡ number_of_log (k + 1)
    two k = omega arith

texts_channels : (ids : List (List ℕ)) → all_channels (trees_of (map text ids)) ≡ []
texts_channels [] = refl
texts_channels (id ∷ ids) = texts_channels ids

ints_channels : (ns : List ℕ) → all_channels (trees_of (map (λ n. int (pos n)) ns)) ≡ []
ints_channels [] = refl
ints_channels (n ∷ ns) = ints_channels ns

-- the value of each quiet event but the start of a log has no channel
told : (e : What) (finished : Bool) (n : ℕ) (o : Bool) (before : List MessageView) (t : WorkerTurn) (news : List What) → IsSayableEvent e → ((v : Tree) → event_tree e ≡ Some v → channels v ≡ []) → ((x : ChannelTable) → log_hooked (Some e) x ≡ x)
    → Linked false finished n o before t.talk news → Linked false (finished || is_finish (Some e)) n o before (event_told 1 e t.talk) (news ++ e ∷ [])
told e finished n o before t news s none keeps l = plain e s.value finished n o before t.talk news s.is s.event s.fits (none s.value s.is) keeps l

-- with the same logs
same_logs : (l k : Logs) (before : List MessageView) (d : Talk) (news : List What) → k ≡ l → Linked false false l.count l.is_open before d news → Linked false false k.count k.is_open before d news
same_logs l k before d news e x = subst (λ (m : Logs). Linked false false m.count m.is_open before d news) (sym e) x

tells_one : (room : Bool) (e : What) (l k : Logs) (before : List MessageView) (t : WorkerTurn) (news : List What) → is_quiet (Tell e) ≡ true → IsSayableEvent e → LogStep room (Tell e) l k
    → Linked false false l.count l.is_open before t.talk news → Linked false false k.count k.is_open before (asked 1 (Tell e) t).talk (news ++ e ∷ [])
tells_one room what.Ready l k before t news q s step x =
    same_logs l k before _ _ step (told what.Ready false l.count l.is_open before t news s (λ v h. ap channels (sym (same_Some _ _ h))) (λ y. refl) x)
tells_one room (what.Collected ids) l k before t news q s step x =
    same_logs l k before _ _ step (told (what.Collected ids) false l.count l.is_open before t news s (λ v h. ap channels (sym (same_Some _ _ h)) ∙ one_more (all_channels (trees_of (map text ids))) (texts_channels ids)) (λ y. refl) x)
  where
    one_more : (xs : List ℕ) → xs ≡ [] → (xs ++ []) ++ [] ≡ []
    one_more xs h = ap (λ (ys : List ℕ). (ys ++ []) ++ []) h
tells_one room (what.LogStart test log) l k before t news q s step x =
    subst (λ (m : Logs). Linked false false m.count m.is_open before (asked 1 (Tell (what.LogStart test log)) t).talk (news ++ what.LogStart test log ∷ [])) (sym step.4) (by_log log step.2 s)
  where
    shut : Linked false false l.count false before t.talk news
    shut = subst (λ (o : Bool). Linked false false l.count o before t.talk news) step.1 x

    at_log : IsSayableEvent (what.LogStart test (number_of_log l.count)) → Linked false false (l.count + 1) true before (asked 1 (Tell (what.LogStart test (number_of_log l.count))) t).talk (news ++ what.LogStart test (number_of_log l.count) ∷ [])
    at_log s2 = starts s2.value test l.count before t.talk news s2.is s2.event s2.fits (ap channels (sym (same_Some _ _ s2.is))) shut

    by_log : (log : ℕ) → log ≡ number_of_log l.count → IsSayableEvent (what.LogStart test log) → Linked false false (l.count + 1) true before (asked 1 (Tell (what.LogStart test log)) t).talk (news ++ what.LogStart test log ∷ [])
    by_log log e = subst (λ (y : ℕ). IsSayableEvent (what.LogStart test y) → Linked false false (l.count + 1) true before (asked 1 (Tell (what.LogStart test y)) t).talk (news ++ what.LogStart test y ∷ [])) (sym e) at_log
tells_one room (what.Done n outcome ms) l k before t news q s step x =
    same_logs l k before _ _ step (told (what.Done n outcome ms) false l.count l.is_open before t news s (λ v h. ap channels (sym (same_Some _ _ h))) (λ y. refl) x)
tells_one room (what.Back ns) l k before t news q s step x =
    same_logs l k before _ _ step (told (what.Back ns) false l.count l.is_open before t news s (λ v h. ap channels (sym (same_Some _ _ h)) ∙ one_more (all_channels (trees_of (map (λ n. int (pos n)) ns))) (ints_channels ns)) (λ y. refl) x)
  where
    one_more : (xs : List ℕ) → xs ≡ [] → (xs ++ []) ++ [] ≡ []
    one_more xs h = ap (λ (ys : List ℕ). (ys ++ []) ++ []) h
tells_one room what.Finished l k before t news q s step x = absurd (let z : false ≡ true = q in cc)
tells_one room (what.Piece log b) l k before t news q s step x = absurd (let z = s.is in cc)
tells_one room (what.LogClosed log) l k before t news q s step x = absurd (let z = s.is in cc)
tells_one room (what.Closed y) l k before t news q s step x = absurd (let z = s.is in cc)
tells_one room what.Stray l k before t news q s step x = absurd (let z = s.is in cc)
tells_one room (what.Gone c) l k before t news q s step x = absurd (let z = s.is in cc)
tells_one room what.NotStarted l k before t news q s step x = absurd (let z = s.is in cc)

-- ---- output, and the close of a log

last_is : (log n : ℕ) → log + 2 ≡ number_of_log n → log ≡ last_log n
last_is log n h = omega (arith, h)

pieces : (n : ℕ) (b : List ℕ) (before : List MessageView) (d : Talk) (news : List What) → IsSayableAsk (Piece (last_log n) b) → Linked false false n true before d news → Linked false false n true before (sent (last_log n) (bytes b) d) (news ++ what.Piece (last_log n) b ∷ [])
pieces n b before d news few l =
    let heard = hears_piece false false n true (before ++ d.says) news l.ears b refl (piece_payload b few) in
    let said : sent (last_log n) (bytes b) d ≡ record d { says = d.says ++ item_message (last_log n) (canonical (bytes b)) ∷ [] }
    = ap (λ (s : Slot Tree). saying (item_says (last_log n) (sent_gives (send_refusal s) (dumped (bytes b)))) d) (l.worker.log refl)
    ∙ ap (λ (r : Result (List ℕ) DumpFault). saying (item_says (last_log n) (sent_gives None r)) d) (piece_dumped b few) in
    subst (λ (x : Talk). Linked false false n true before x (news ++ what.Piece (last_log n) b ∷ [])) (sym said)
    (record { worker = l.worker; next_is = l.next_is; ears = behind false false n true before d.says (item_message (last_log n) (canonical (bytes b))) (news ++ what.Piece (last_log n) b ∷ []) heard })

shuts : (n : ℕ) (before : List MessageView) (d : Talk) (news : List What) → Linked false false n true before d news → Linked false false n false before (log_closed (last_log n) d) (news ++ what.LogClosed (last_log n) ∷ [])
shuts n before d news l =
    let m = closing_message (last_log n) None in
    let means : Means m (Close (last_log n) None) = record { numbered = last_numbered n (l.worker.begun refl); says = refl } in
    let heard = hears_close false false n true (before ++ d.says) news l.ears m refl refl means in
    let said : log_closed (last_log n) d ≡ record { table = (log_closed (last_log n) d).table; says = d.says ++ m ∷ [] }
    = ap (λ (s : Slot Tree). record { table = (log_closed (last_log n) d).table; says = d.says ++ option_to_list (close_says (last_log n) None s) }) (l.worker.log refl) in
    subst (λ (x : Talk). Linked false false n false before x (news ++ what.LogClosed (last_log n) ∷ [])) (sym said)
    (record {
      worker = closes false n d.table.slot _ (λ c. ended_at (last_log n) false d.table.slot c (l.worker.log refl)) l.worker;
      next_is = l.next_is;
      ears = behind false false n false before d.says m (news ++ what.LogClosed (last_log n) ∷ []) heard;
    })

quiet_one : (room : Bool) (a : Ask) (l k : Logs) (before : List MessageView) (t : WorkerTurn) (news : List What) → is_quiet a ≡ true → IsSayableAsk a → LogStep room a l k → Linked false false l.count l.is_open before t.talk news
    → Linked false false k.count k.is_open before (asked 1 a t).talk (news ++ news_of_ask a)
quiet_one room (Tell e) l k before t news q s step x = tells_one room e l k before t news q s step x
quiet_one room (Piece log b) l k before t news q s step x =
    let open_now : Linked false false l.count true before t.talk news = subst (λ (o : Bool). Linked false false l.count o before t.talk news) step.0 x in
    let done = subst (λ (y : ℕ). Linked false false l.count true before (sent y (bytes b) t.talk) (news ++ what.Piece y b ∷ [])) (sym (last_is log l.count step.1)) (pieces l.count b before t.talk news s open_now) in
    same_logs l k before _ _ step.2 (subst (λ (o : Bool). Linked false false l.count o before (sent log (bytes b) t.talk) (news ++ what.Piece log b ∷ [])) (sym step.0) done)
quiet_one room (CloseLog log) l k before t news q s step x =
    let open_now : Linked false false l.count true before t.talk news = subst (λ (o : Bool). Linked false false l.count o before t.talk news) step.0 x in
    let done = subst (λ (y : ℕ). Linked false false l.count false before (log_closed y t.talk) (news ++ what.LogClosed y ∷ [])) (sym (last_is log l.count step.1)) (shuts l.count before t.talk news open_now) in
    subst (λ (m : Logs). Linked false false m.count m.is_open before (log_closed log t.talk) (news ++ what.LogClosed log ∷ [])) (sym step.2) done
quiet_one room (End reason) l k before t news q s step x = absurd (let z : false ≡ true = q in cc)

-- ---- several asks

news_joined : (a : Ask) (asks : List Ask) (news : List What) → (news ++ news_of_ask a) ++ news_of_asks asks ≡ news ++ news_of_asks (a ∷ asks)
news_joined a asks news = append_assoc news (news_of_ask a) (news_of_asks asks)

all_quiet : (room : Bool) (asks : List Ask) (l k : Logs) (before : List MessageView) (t : WorkerTurn) (news : List What) → list_all is_quiet asks ≡ true → AreSayableAsks asks → LogSteps room asks l k → Linked false false l.count l.is_open before t.talk news
    → Linked false false k.count k.is_open before (all_asked 1 asks t).talk (news ++ news_of_asks asks)
all_quiet room [] l k before t news q s steps x =
    subst (λ (n : List What). Linked false false k.count k.is_open before t.talk n) (sym (append-nil news)) (same_logs l k before t.talk news steps x)
all_quiet room (a ∷ asks) l k before t news q s steps x =
    let p = and_parts (is_quiet a) (list_all is_quiet asks) q in
    let first = quiet_one room a l steps.0 before t news p.0 s.0 steps.1 x in
    subst (λ (n : List What). Linked false false k.count k.is_open before (all_asked 1 (a ∷ asks) t).talk n) (news_joined a asks news) (all_quiet room asks steps.0 k before (asked 1 a t) (news ++ news_of_ask a) p.1 s.1 steps.2 first)

asked_more : (a b : List Ask) (t : WorkerTurn) → all_asked 1 (a ++ b) t ≡ all_asked 1 b (all_asked 1 a t)
asked_more [] b t = refl
asked_more (x ∷ a) b t = asked_more a b (asked 1 x t)

record StepsSplit (room : Bool) (a b : List Ask) (l k : Logs) : Type 0 where
  mid : Logs
  first : LogSteps room a l mid
  second : LogSteps room b mid k

split_steps : (room : Bool) (a b : List Ask) (l k : Logs) → LogSteps room (a ++ b) l k → StepsSplit room a b l k
split_steps room [] b l k s = record { mid = l; first = refl; second = s }
split_steps room (x ∷ a) b l k s = (let r = split_steps room a b s.0 k s.2 in record { mid = r.mid; first = (s.0, s.1, r.first); second = r.second })

sayable_split : (a b : List Ask) → AreSayableAsks (a ++ b) → AreSayableAsks a × AreSayableAsks b
sayable_split [] b s = (tt, s)
sayable_split (x ∷ a) b s = (let r = sayable_split a b s.1 in ((s.0, r.0), r.1))

news_split : (a b : List Ask) → news_of_asks (a ++ b) ≡ news_of_asks a ++ news_of_asks b
news_split [] b = refl
news_split (x ∷ a) b = ap (λ (n : List What). news_of_ask x ++ n) (news_split a b) ∙ sym (append_assoc (news_of_ask x) (news_of_asks a) (news_of_asks b))

-- ---- ends

ended_is : (e : Option (List ℕ)) (d : Talk) → is_long e ≡ false → d.table.slot 1 ≡ Here (open_end true)
    → function_ended 1 e None d ≡ record { table = (function_ended 1 e None d).table; says = d.says ++ closing_message 1 e ∷ [] }
ended_is e d short here =
    ap (λ (s : Slot Tree). record { table = (function_ended 1 e None d).table; says = d.says ++ (if is_seen s then closing_message 1 (short_or None e) ∷ [] else []) }) here
    ∙ ap (λ (b : Bool). record { table = (function_ended 1 e None d).table; says = d.says ++ closing_message 1 (if b then None else e) ∷ [] }) short

ends_well : (n : ℕ) (before : List MessageView) (d : Talk) (news : List What) → Linked false true n false before d news → Linked true true n false before (function_ended 1 None None d) news
ends_well n before d news l =
    let m = closing_message 1 None in
    let heard = hears_finish false true n false (before ++ d.says) news l.ears m refl refl refl (record { numbered = refl; says = refl }) in
    subst (λ (x : Talk). Linked true true n false before x news) (sym (ended_is None d refl (l.worker.one refl)))
    (record {
      worker = ends false n d.table.slot _ (λ c. ended_at 1 true d.table.slot c (l.worker.one refl)) l.worker;
      next_is = l.next_is;
      ears = behind true true n false before d.says m news heard;
    })

ends_badly : (cs : List ℕ) (n : ℕ) (before : List MessageView) (d : Talk) (news : List What) → IsSayableAsk (End (Some cs)) → Linked false false n false before d news
    → Linked true false n false before (function_ended 1 (Some cs) None d) (news ++ what.Closed (Some cs) ∷ [])
ends_badly cs n before d news s l =
    let m = closing_message 1 (Some cs) in
    let heard = hears_error false false n false (before ++ d.says) news l.ears m cs refl refl refl (record { numbered = refl; says = (cs, text_payload cs s, refl) }) in
    subst (λ (x : Talk). Linked true false n false before x (news ++ what.Closed (Some cs) ∷ [])) (sym (ended_is (Some cs) d s.1 (l.worker.one refl)))
    (record {
      worker = ends false n d.table.slot _ (λ c. ended_at 1 true d.table.slot c (l.worker.one refl)) l.worker;
      next_is = l.next_is;
      ears = behind true false n false before d.says m (news ++ what.Closed (Some cs) ∷ []) heard;
    })

-- after a turn: the function goes on, or is over, whether it said that it has finished or not
pub record LinkedThen (over : Bool) (n : ℕ) (o : Bool) (before : List MessageView) (d : Talk) (news : List What) : Type 0 where
  pub finished : Bool
  pub goes_on : over ≡ false → finished ≡ false
  pub shut : over ≡ true → o ≡ false
  pub linked : Linked over finished n o before d news

-- what was said in the turn is behind the rest
pub rest_of : (over : Bool) (n : ℕ) (o : Bool) (before : List MessageView) (d : Talk) (news : List What) → LinkedThen over n o before d news → LinkedThen over n o (before ++ d.says) (record { table = d.table; says = [] }) news
rest_of over n o before d news l = record {
  finished = l.finished;
  goes_on = l.goes_on;
  shut = l.shut;
  linked = record {
    worker = l.linked.worker;
    next_is = l.linked.next_is;
    ears = subst (λ (m : List MessageView). Ears over l.finished n o m news) (sym (append-nil (before ++ d.says))) l.linked.ears;
  };
}

closing_asks : (room : Bool) (closing : List Ask) (l k : Logs) (before : List MessageView) (t : WorkerTurn) (news : List What) → IsClosing closing → AreSayableAsks closing → LogSteps room closing l k → Linked false false l.count l.is_open before t.talk news
    → LinkedThen true k.count k.is_open before (all_asked 1 closing t).talk (news ++ news_of_asks closing)
closing_asks room closing l k before t news (inl e) s steps x =
    subst (λ (c : List Ask). AreSayableAsks c → LogSteps room c l k → LinkedThen true k.count k.is_open before (all_asked 1 c t).talk (news ++ news_of_asks c)) (sym e) finish s steps
  where
    finish : AreSayableAsks (Tell what.Finished ∷ End None ∷ []) → LogSteps room (Tell what.Finished ∷ End None ∷ []) l k → LinkedThen true k.count k.is_open before (all_asked 1 (Tell what.Finished ∷ End None ∷ []) t).talk (news ++ what.Finished ∷ [])
    finish s2 st =
        let told_now = told what.Finished false l.count l.is_open before t news s2.0 (λ v h. ap channels (sym (same_Some _ _ h))) (λ y. refl) x in
        let mid_is : st.0 ≡ l = st.1 in
        let rest = st.2 in
        let end_step = rest.1 in
        let shut_mid : st.0.is_open ≡ false = end_step.0 in
        let k_is : k ≡ l = rest.2 ∙ end_step.1 ∙ mid_is in
        let shut_l : l.is_open ≡ false = ap (λ (m : Logs). m.is_open) (sym mid_is) ∙ shut_mid in
        let now : Linked false true l.count false before (event_told 1 what.Finished t.talk) (news ++ what.Finished ∷ []) = subst (λ (o : Bool). Linked false true l.count o before (event_told 1 what.Finished t.talk) (news ++ what.Finished ∷ [])) shut_l told_now in
        let done = ends_well l.count before (event_told 1 what.Finished t.talk) (news ++ what.Finished ∷ []) now in
        subst (λ (m : Logs). LinkedThen true m.count m.is_open before (all_asked 1 (Tell what.Finished ∷ End None ∷ []) t).talk (news ++ what.Finished ∷ [])) (sym k_is)
        (record { finished = true; goes_on = λ q. absurd (let z : true ≡ false = q in cc); shut = λ q. shut_l; linked = subst (λ (o : Bool). Linked true true l.count o before (function_ended 1 None None (event_told 1 what.Finished t.talk)) (news ++ what.Finished ∷ [])) (sym shut_l) done })
closing_asks room closing l k before t news (inr e) s steps x =
    subst (λ (c : List Ask). AreSayableAsks c → LogSteps room c l k → LinkedThen true k.count k.is_open before (all_asked 1 c t).talk (news ++ news_of_asks c)) (sym e.1) fail s steps
  where
    fail : AreSayableAsks (End (Some e.0) ∷ []) → LogSteps room (End (Some e.0) ∷ []) l k → LinkedThen true k.count k.is_open before (all_asked 1 (End (Some e.0) ∷ []) t).talk (news ++ what.Closed (Some e.0) ∷ [])
    fail s2 st =
        let shut_l : l.is_open ≡ false = st.1.0 in
        let k_is : k ≡ l = st.2 ∙ st.1.1 in
        let now = subst (λ (o : Bool). Linked false false l.count o before t.talk news) shut_l x in
        let done = ends_badly e.0 l.count before t.talk news s2.0 now in
        subst (λ (m : Logs). LinkedThen true m.count m.is_open before (all_asked 1 (End (Some e.0) ∷ []) t).talk (news ++ what.Closed (Some e.0) ∷ [])) (sym k_is)
        (record { finished = false; goes_on = λ q. absurd (let z : true ≡ false = q in cc); shut = λ q. shut_l; linked = subst (λ (o : Bool). Linked true false l.count o before (function_ended 1 (Some e.0) None t.talk) (news ++ what.Closed (Some e.0) ∷ [])) (sym shut_l) done })

-- All that a turn asks for is heard as what it tells.
pub all_linked : (b : Bool) (room : Bool) (asks : List Ask) (l k : Logs) (before : List MessageView) (t : WorkerTurn) (news : List What) → EndsBy b asks → AreSayableAsks asks → LogSteps room asks l k → Linked false false l.count l.is_open before t.talk news
    → LinkedThen b k.count k.is_open before (all_asked 1 asks t).talk (news ++ news_of_asks asks)
all_linked false room asks l k before t news e s steps x =
    record { finished = false; goes_on = λ q. refl; shut = λ q. absurd (let z : false ≡ true = q in cc); linked = all_quiet room asks l k before t news e s steps x }
all_linked true room asks l k before t news e s steps x =
    subst (λ (c : List Ask). AreSayableAsks c → LogSteps room c l k → LinkedThen true k.count k.is_open before (all_asked 1 c t).talk (news ++ news_of_asks c)) (sym e.are) go s steps
  where
    go : AreSayableAsks (e.quiet ++ e.closing) → LogSteps room (e.quiet ++ e.closing) l k → LinkedThen true k.count k.is_open before (all_asked 1 (e.quiet ++ e.closing) t).talk (news ++ news_of_asks (e.quiet ++ e.closing))
    go s2 st =
        let p = split_steps room e.quiet e.closing l k st in
        let q = sayable_split e.quiet e.closing s2 in
        let first = all_quiet room e.quiet l p.mid before t news e.are_quiet q.0 p.first x in
        let last = closing_asks room e.closing p.mid k before (all_asked 1 e.quiet t) (news ++ news_of_asks e.quiet) e.closes q.1 p.second first in
        let all_news : (news ++ news_of_asks e.quiet) ++ news_of_asks e.closing ≡ news ++ news_of_asks (e.quiet ++ e.closing)
        = append_assoc news (news_of_asks e.quiet) (news_of_asks e.closing) ∙ ap (λ (n : List What). news ++ n) (sym (news_split e.quiet e.closing)) in
        subst (λ (u : WorkerTurn). LinkedThen true k.count k.is_open before u.talk (news ++ news_of_asks (e.quiet ++ e.closing))) (sym (asked_more e.quiet e.closing t))
        (subst (λ (n : List What). LinkedThen true k.count k.is_open before (all_asked 1 e.closing (all_asked 1 e.quiet t)).talk n) all_news last)
