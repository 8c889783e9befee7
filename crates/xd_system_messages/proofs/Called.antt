-- The first message of a link: `run_tests` is called.
use Rattle.std.proofs.Common.{◌≡◌, ℕ, ◌≤◌, List, [], ◌∷◌, ◌++◌, length, Bool, true, false, Ok, refl, ap, sym, subst, ◌∙◌, arith}
use Rattle.std.specs.Prelude.{◌==◌, option_to_list, if◌then◌else◌}
use Rattle.std.specs.Str.{all_scalars, encode_utf8_all}
use Rattle.std.proofs.lemmas.Bool.{eqb-true}
use Rattle.xd_edge.specs.declared.mode.ModeKind.{ModeKind}
use Rattle.xd_edge.specs.declared.mode.ModeKind.TheVariants.{Local, Each, Load, LoadScope, LoadFile, LoadGroup, WorkSteal}
use Rattle.xd_value.specs.Canonical.{canonical, dumped}
use Rattle.xd_value.specs.Channels.{channels}
use Rattle.xd_value.specs.Payload.{IsPayload}
use Rattle.xd_value.specs.Tree.{Tree}
use Rattle.xd_value.specs.Writable.{Writable}
use Rattle.xd_value.proofs.Dumped.{dumped_once}
use Rattle.xd_factory.specs.declared.parity.Parity.TheVariants.{Even}
use Rattle.xd_factory.specs.Numbers.{is_in, is_mine}
use Rattle.xd_factory.specs.Said.{Said, Exec, Means}
use Rattle.xd_factory.specs.SideTable.{heard_of_message}
use Rattle.xd_factory.specs.Slot.{Unseen, Here, hooked_slot}
use Rattle.xd_factory.specs.Table.{heard_slot, named_in}
use Rattle.xd_journal.specs.declared.news.What.TheVariants as what
use Rattle.xd_commands.specs.Functions.{called_in}
use Rattle.xd_commands.specs.Limits.{run_tests_call}
use Rattle.xd_commands.specs.declared.function.Called.{Called}
use Rattle.xd_commands.specs.declared.function.Called.TheVariants.{Runs}
use Rattle.xd_commands.specs.declared.function.Function.TheVariants as function
use Rattle.xd_commands.proofs.Fitting.{call_dumped}
use Rattle.xd_gateway.specs.Calls.{exec_message}
use Rattle.xd_gateway.specs.News.{first_ear}
use Rattle.xd_report_phrases.specs.Names.{mode_text}
use Rattle.xd_worker.specs.History.{HeardInput, turn_by, worker_after}
use Rattle.xd_worker.specs.Talk.{Talk, function_begun}
use Rattle.xd_worker.specs.Turns.{Came, Told, at_talk, called, tests_begun, worker_turned}
use Rattle.xd_worker.specs.Worker.{Service, WorkerTurn, new_worker, worker_turn_of}
use Rattle.xd_system_messages.specs.Bridge.{CanBeCalled}
use Rattle.xd_system_messages.proofs.Spoken.{new_lined}
use Rattle.xd_system_messages.proofs.Ears.{Ears}
use Rattle.xd_system_messages.proofs.Linked.{Linked, LinkedThen, plain, rest_of}
use Rattle.xd_system_messages.proofs.Served.{Served}
use Rattle.xd_system_messages.proofs.Tables.{begins, open_end, put_at}

-- ---- the call as it is read

short_word : (mode : ModeKind) → length (encode_utf8_all (mode_text mode)) ≤ 65536
unfolding lib.Utf8.encode
short_word Local = omega arith
short_word Each = omega arith
short_word Load = omega arith
short_word LoadScope = omega arith
short_word LoadFile = omega arith
short_word LoadGroup = omega arith
short_word WorkSteal = omega arith

word_scalars : (mode : ModeKind) → all_scalars (mode_text mode) ≡ true
word_scalars Local = refl
word_scalars Each = refl
word_scalars Load = refl
word_scalars LoadScope = refl
word_scalars LoadFile = refl
word_scalars LoadGroup = refl
word_scalars WorkSteal = refl

abbrev call : List ℕ → ModeKind → Tree
call suite mode = run_tests_call suite (mode_text mode)

call_read : (suite : List ℕ) (mode : ModeKind) → CanBeCalled suite mode → (v : Tree) → IsPayload v (canonical (call suite mode)) → v ≡ call suite mode
call_read suite mode c v p =
    let written : dumped (call suite mode) ≡ Ok (canonical (call suite mode)) = call_dumped suite (mode_text mode) c.short (short_word mode) in
    let writable : Writable (call suite mode) = (refl, (tt, (refl, (((refl, c.scalars), ((refl, word_scalars mode), tt)), tt)))) in
    (dumped_once (call suite mode) (canonical (call suite mode)) writable written).1 v p

-- what the first message says
pub call_says : (suite : List ℕ) (mode : ModeKind) (said : Said) → CanBeCalled suite mode → Means (exec_message 1 (canonical (call suite mode))) said → said ≡ Exec 1 (call suite mode)
call_says suite mode said c m = m.says.2 ∙ ap (Exec 1) (call_read suite mode c m.says.0 m.says.1)

runs : (suite : List ℕ) (mode : ModeKind) → (mode ≡ Local → ⊥) → called_in false (call suite mode) ≡ Runs (function.RunTests suite mode)
runs suite Local w = absurd (w refl)
runs suite Each w = refl
runs suite Load w = refl
runs suite LoadScope w = refl
runs suite LoadFile w = refl
runs suite LoadGroup w = refl
runs suite WorkSteal w = refl

-- ---- the channels

opened_here : (c : ℕ) (b : Bool) → (if b then hooked_slot (if b then Here (open_end false) else Unseen) else (if b then Here (open_end false) else Unseen)) ≡ (if b then Here (open_end true) else Unseen)
opened_here c true = refl
opened_here c false = refl

pub first_ears : Ears false false 0 false [] []
first_ears = record {
  heard = [];
  are = tt;
  messages_are = refl;
  news_are = refl;
  channels_are = begins true first_ear.table.slot (λ c. opened_here c (1 == c));
  parity_is = refl;
  good = refl;
  finished_is = refl;
}

first_slot : (v : Tree) (c : ℕ) → channels v ≡ [] → (if 1 == c then hooked_slot (heard_slot Even (Exec 1 v) c Unseen) else heard_slot Even (Exec 1 v) c Unseen) ≡ put_at 1 (Here (open_end true)) (λ k. Unseen) c
first_slot v c none =
    ap (λ (ns : List ℕ). if 1 == c then hooked_slot (named_in (is_mine Even c) (is_in c (ns ++ 1 ∷ [])) Unseen) else named_in (is_mine Even c) (is_in c (ns ++ 1 ∷ [])) Unseen) none ∙ by_test (1 == c) refl
  where
    by_test : (b : Bool) → (1 == c) ≡ b → (if 1 == c then hooked_slot (named_in (is_mine Even c) (is_in c (1 ∷ [])) Unseen) else named_in (is_mine Even c) (is_in c (1 ∷ [])) Unseen) ≡ put_at 1 (Here (open_end true)) (λ k. Unseen) c
    by_test true h = subst (λ (k : ℕ). (if 1 == k then hooked_slot (named_in (is_mine Even k) (is_in k (1 ∷ [])) Unseen) else named_in (is_mine Even k) (is_in k (1 ∷ [])) Unseen) ≡ put_at 1 (Here (open_end true)) (λ i. Unseen) k) (eqb-true 1 c h) refl
    by_test false h = rw h refl

-- ---- the turn

abbrev before_call : Tree → WorkerTurn
before_call v = at_talk (λ d. record d { table = heard_of_message (Exec 1 v) d.table }) (worker_turn_of new_worker)

first_turn : (suite : List ℕ) (mode : ModeKind) (g : HeardInput) → (mode ≡ Local → ⊥) → g.came ≡ Told (Exec 1 (call suite mode)) → turn_by (worker_after []) g ≡ tests_begun 1 suite mode (before_call (call suite mode))
first_turn suite mode g w is =
    ap (λ (c : Came). worker_turned c g.channels (worker_turn_of new_worker)) is ∙ ap (λ (x : Called). called 1 x (before_call (call suite mode))) (runs suite mode w)

-- Once the call came, both ends stand as a call to which nothing came yet.
pub first_served : (suite : List ℕ) (mode : ModeKind) (g : HeardInput) → CanBeCalled suite mode → g.came ≡ Told (Exec 1 (call suite mode)) → Served [] (g ∷ [])
first_served suite mode g c is =
    let turn = first_turn suite mode g c.on_workers is in
    let s : Service = record { channel = 1; mode = mode; given = []; ended = false } in
    let d : Talk = function_begun 1 (before_call (call suite mode)).talk in
    let start : Linked false false 0 false [] d [] = record { worker = begins false d.table.slot (λ k. first_slot (call suite mode) k refl); next_is = refl; ears = first_ears } in
    let ready = plain what.Ready _ false 0 false [] d [] refl tt tt refl (λ t. refl) start in
    let then_ : LinkedThen false 0 false [] (tests_begun 1 suite mode (before_call (call suite mode))).talk (what.Ready ∷ []) = record { finished = false; goes_on = λ q. refl; shut = λ q. refl; linked = ready } in
    let at : LinkedThen false 0 false [] (turn_by (worker_after []) g).talk (what.Ready ∷ []) = subst (λ (x : WorkerTurn). LinkedThen false 0 false [] x.talk (what.Ready ∷ [])) (sym turn) then_ in
    record {
      service = s;
      is = ap (λ (x : WorkerTurn). x.duties.service) turn;
      channel_is = refl;
      goes = ap (λ (x : WorkerTurn). x.duties.stopped) turn;
      lined = new_lined;
      comes = refl;
      took = record { all = λ q. refl; begins = ([], refl) };
      started = ap (λ (x : WorkerTurn). option_to_list x.run) turn;
      linked = rest_of false 0 false [] (turn_by (worker_after []) g).talk (what.Ready ∷ []) at;
    }
