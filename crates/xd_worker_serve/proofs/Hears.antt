-- What one input makes of a worker that listens.
use Rattle.std.proofs.Common.{◌≡◌, ℕ, ◌+◌, ◌≤◌, List, [], ◌∷◌, ◌++◌, length, map, Bool, true, false, not, ◌||◌, Option, Some, None, refl, ap, sym, ◌∙◌, subst, arith}
use Rattle.std.specs.Prelude.{option_to_list, IfSome, IsSome}
use Rattle.std.proofs.lemmas.List.{append-nil, map-append}
use Rattle.xd_edge.specs.Faults.{Rose}
use Rattle.xd_edge.specs.Files.{Held}
use Rattle.xd_edge.specs.Sink.{Sunk}
use Rattle.xd_frame.specs.Message.{MessageView, frames}
use Rattle.xd_frame.specs.Writing.{CountSince, WritesMore}
use Rattle.xd_journal.specs.declared.entry.Outcome.{Outcome}
use Rattle.xd_reader.specs.declared.news.LinkNews.{LinkNews}
use Rattle.xd_reader.specs.declared.news.LinkNews.TheVariants as news
use Rattle.xd_reader.specs.declared.news.LinkStop.TheVariants as link
use Rattle.xd_worker_tests.specs.Line.{running_test}
use Rattle.xd_suite.specs.Tests.{run_at}
use Rattle.xd_worker.specs.declared.input.WorkerInput.{WorkerInput}
use Rattle.xd_worker.specs.declared.input.WorkerInput.TheVariants.{Message, SuiteBytes, SuiteTooLarge, SuiteUnread, Output, ChildDone, LinkEnd}
use Rattle.xd_worker.specs.declared.input.WorkerActions.{WorkerActions}
use Rattle.xd_worker.specs.declared.worker.WorkerCore.{WorkerCore}
use Rattle.xd_worker.specs.Worker.{Worker, WorkerTurn, worker_turn_of, after_turn}
use Rattle.xd_worker.specs.Turns.{Came, Told as Says, SuiteRead, NoSuite, Printed, ChildEnded, LinkEnded, worker_turned}
use Rattle.xd_worker.specs.History.{HeardInput, MessageSays, turn_by, worker_after}
use Rattle.xd_worker.specs.Stands.{Answers, StandsForInputs}
use Rattle.xd_worker_serve.specs.inner.Running.{call_of_service, rests}
use Rattle.xd_worker.specs.Inputs.{IsDue, has_link_end, has_terminate, is_terminate_kind, is_link_end, is_link_input, message_in, messages_in}
use Rattle.xd_worker_serve.specs.Programs.{commands_in, commands_of}
use Rattle.xd_worker_serve.specs.Took.{TookToLast}
use Rattle.xd_worker_serve.specs.Suites.{FilesGave, AnswersAsking, asked_path}
use Rattle.xd_worker_serve.proofs.Facts.{aside, listens, message_came, no_commands, none_more, running_some}
use Rattle.xd_worker_serve.proofs.Steps.{Does, Plain, Prints, Ready, Step, end_does, link_end_does, output_does, running_is}
use Rattle.xd_worker_serve.proofs.Tellings.{answered_later, count_more, rose_later, speaks_more}
use Rattle.xd_worker_serve.specs.declared.server.Door.{Door}
use Rattle.xd_worker_serve.specs.declared.server.Door.TheVariants as door
use Rattle.xd_worker_serve.specs.inner.Halts.{door_after}
use Rattle.xd_worker_serve.specs.inner.News.{news_of_input, news_in}
use Rattle.xd_worker_serve.specs.inner.Seen.{Seen, is_door_shut}
use Rattle.xd_worker_serve.specs.inner.Serves.{Beside, beside, FromLink, IsBusy, IsListening, OrderedSoFar, Owed, ReadsSo, RunsSo, ServesSoFar, Setting, TakenSoFar, owed_of_link, of_program, to_start}
use Rattle.xd_edge.specs.Clock.{Ticking, Ticks}
use Rattle.xd_worker_serve.specs.Timing.{durations_in, one_if}
use Rattle.xd_worker_serve.specs.Spoke.{Spoke, Voice, voice}
use Rattle.xd_worker_serve.proofs.Busy.{Keeps, link_end_keeps, message_keeps}
use Rattle.xd_worker_serve.proofs.Timings.{ended_at, untimed}

-- a server whose worker took an input, and whose sink was written to
abbrev pub spoken : WorkerCore → Bool → Option Sunk → ℕ → Seen → Seen
spoken core broken sunk faults s = record s { core = core; broken = broken; sunk = sunk; sink_faults = faults }

-- what an input adds
pub spoke_more : (held : Option Held) (inputs : List WorkerInput) (h : List HeardInput) (b0 b1 : Bool) (first v0 v1 : Voice) (core : WorkerCore) (i : WorkerInput) (acts : WorkerActions)
    → b0 ≡ false → Spoke held inputs h (not b0) first v0 → (a : Answers core (worker_after h) i acts) → IsDue (worker_after h) i → AnswersAsking held (Rose first.file_faults v1.file_faults) (asked_path h) i
    → (is_link_input i ≡ true → has_link_end inputs ≡ false) → WritesMore b0 b1 (frames acts.say) v0.sunk v1.sunk → CountSince b0 b1 v0.sink_faults v1.sink_faults → v0.sink_faults ≤ v1.sink_faults → v0.file_faults ≤ v1.file_faults
    → Spoke held (i ∷ inputs) (a.heard ∷ h) (not b1) first v1
spoke_more held inputs h b0 b1 first v0 v1 core i acts whole t a due follows once writes count later files = record {
  heard = (record { is = a.is; counts = a.counts; due = due }, t.heard);
  ends = (once, t.ends);
  answered = (follows, answered_later held (Rose first.file_faults v0.file_faults) (Rose first.file_faults v1.file_faults) (λ r. rose_later first.file_faults v0.file_faults v1.file_faults r files) inputs h t.answered);
  says = speaks_more b0 b1 h a.heard (frames acts.say) first.sunk v0.sunk v1.sunk whole (ap (λ (m : List MessageView). frames m) a.says) t.says writes;
  sink_count = count_more b0 b1 first.sink_faults v0.sink_faults v1.sink_faults t.sink_count count;
  sink_later = (let x = t.sink_later in omega (arith, x, later));
  files_later = (let x = t.files_later in omega (arith, x, files));
}

-- ---- which test runs

runs_at : (r : Option ℕ) (u : WorkerTurn) → u.run ≡ r → Ready u → RunsSo None (commands_of u) (after_turn u)
runs_at None u e y = subst (λ (l : List (List (List ℕ))). RunsSo None l (after_turn u)) (sym (no_commands u e)) (y.some e)
runs_at (Some k) u e y =
    let runs : running_test (call_of_service u.duties.service) ≡ Some k = y.test ∙ e in
    subst (λ (l : List (List (List ℕ))). RunsSo None l (after_turn u)) (sym (ap (λ (r : Option ℕ). map (run_at u.duties.tests) (option_to_list r)) e))
    (record { test = k; runs = runs; busy = y.busy (running_some (call_of_service u.duties.service) k runs) }, refl, refl)

-- after an input where none ran
pub ready_runs : (u : WorkerTurn) → Ready u → RunsSo None (commands_of u) (after_turn u)
ready_runs u y = runs_at u.run u refl y

-- after an input while one ran, which runs on
pub kept_runs : (moment : ℕ) (u : WorkerTurn) (test : ℕ) → running_test (call_of_service u.duties.service) ≡ Some test → rests (call_of_service u.duties.service).phase ≡ false → u.run ≡ None → RunsSo (Some moment) (commands_of u) (after_turn u)
kept_runs moment u test runs busy none = subst (λ (l : List (List (List ℕ))). RunsSo (Some moment) l (after_turn u)) (sym (no_commands u none)) (record { test = test; runs = runs; busy = busy })

more_commands : (h : List HeardInput) (g : HeardInput) (orders : List (List (List ℕ))) → commands_in h ≡ orders ++ [] → commands_in (g ∷ h) ≡ orders ++ commands_of (turn_by (worker_after h) g)
more_commands h g orders e = ap (λ (l : List (List (List ℕ))). l ++ commands_of (turn_by (worker_after h) g)) (e ∙ append-nil orders)

-- ---- messages

shut_after : (b : Bool) (d : Door) → d ≡ door.Open → b ≡ is_door_shut (door_after b d)
shut_after true d e = refl
shut_after false d e = sym (ap is_door_shut e)

-- a message does this to the test that runs, and to what is read
record Did (started : Option ℕ) (last : Bool) (d : Door) (u : WorkerTurn) : Type 0 where
  runs : RunsSo started (commands_of u) (after_turn u)
  stopped : u.duties.stopped ≡ last
  reads : ReadsSo u.suite started (commands_of u) (door_after last d) (after_turn u)

reads_by : (p : Option (List ℕ)) (b : Bool) (d : Door) (u : WorkerTurn) → d ≡ door.Open → u.suite ≡ p → Does b u → ReadsSo p None (commands_of u) (door_after b d) (after_turn u)
reads_by None b d u o e x = tt
reads_by (Some path) true d u o e x = let z = sym (x.ends refl).1 ∙ e in cc
reads_by (Some path) false d u o e x = ((x.path path e).1, refl, no_commands u (x.path path e).0, o)

did_idle : (b : Bool) (d : Door) (u : WorkerTurn) → d ≡ door.Open → Does b u → Did None b d u
did_idle b d u o x = record { runs = ready_runs u x.ready; stopped = x.stopped; reads = reads_by u.suite b d u o refl x }

did_busy : (moment : ℕ) (b : Bool) (d : Door) (u : WorkerTurn) (test : ℕ) → Keeps test b u → Did (Some moment) b d u
did_busy moment b d u test x = record {
  runs = kept_runs moment u test x.test x.busy x.run;
  stopped = x.stopped;
  reads = subst (λ (p : Option (List ℕ)). ReadsSo p (Some moment) (commands_of u) (door_after b d) (after_turn u)) (sym x.suite) tt;
}

keeps_message : (w : Worker) (m : MessageView) (c : Came) (k n : ℕ) → MessageSays m c → running_test (call_of_service w.duties.service) ≡ Some n → rests (call_of_service w.duties.service).phase ≡ false → w.duties.stopped ≡ false → Keeps n (is_terminate_kind m.kind) (worker_turned c k (worker_turn_of w))
keeps_message w m (Says said) k n s r b u = message_keeps w m said k n s r b u
keeps_message w m (SuiteRead tests) k n s r b u = absurd s
keeps_message w m (NoSuite text) k n s r b u = absurd s
keeps_message w m (Printed x) k n s r b u = absurd s
keeps_message w m (ChildEnded outcome ms) k n s r b u = absurd s
keeps_message w m LinkEnded k n s r b u = absurd s

message_did : (started : Option ℕ) (w : Worker) (m : MessageView) (g : HeardInput) (d : Door) → MessageSays m g.came → d ≡ door.Open → w.duties.stopped ≡ false → RunsSo started [] w → Did started (is_terminate_kind m.kind) d (turn_by w g)
message_did None w m g d is o u r = did_idle (is_terminate_kind m.kind) d (turn_by w g) o (message_came w m g.came g.channels is (record { idle = r; unstopped = u }))
message_did (Some moment) w m g d is o u r = did_busy moment (is_terminate_kind m.kind) d (turn_by w g) r.test (keeps_message w m g.came g.channels r.test is r.runs r.busy u)

-- the items of the reader after a message
link_after : (b : Bool) (m : MessageView) (d : Door) (inputs : List WorkerInput) (got : List LinkNews) → d ≡ door.Open → is_terminate_kind m.kind ≡ b → FromLink d inputs got → FromLink (door_after b d) (Message m ∷ inputs) (got ++ news.Message m ∷ [])
link_after b m d inputs got o e f = by b e
  where
    x : IsListening inputs got
    x = listens d inputs got o f

    more : got ++ news.Message m ∷ [] ≡ map news.Message (messages_in inputs ++ m ∷ [])
    more = ap (λ (l : List LinkNews). l ++ news.Message m ∷ []) x.got_is ∙ sym (map-append news.Message (messages_in inputs) (m ∷ []))

    by : (c : Bool) → is_terminate_kind m.kind ≡ c → FromLink (door_after c d) (Message m ∷ inputs) (got ++ news.Message m ∷ [])
    by true h = record {
      later = [];
      got_is = more ∙ sym (append-nil (map news.Message (messages_in inputs ++ m ∷ [])));
      last = record { earlier = messages_in inputs; last = m; taken_is = refl; last_is = h; none_is = x.none_last };
      no_end = x.no_end;
    }
    by false h = subst (λ (d : Door). FromLink d (Message m ∷ inputs) (got ++ news.Message m ∷ [])) (sym o)
        (record { got_is = more; none_last = none_more (messages_in inputs) m x.none_last h; no_end = x.no_end })

module _ (a : Setting) (now : Beside) (s : Seen) (core : WorkerCore) (broken : Bool) (sunk : Option Sunk) (faults : ℕ) (acts : WorkerActions)
    (writes : WritesMore s.broken broken (frames acts.say) s.sunk sunk) (count : CountSince s.broken broken s.sink_faults faults) (later : s.sink_faults ≤ faults) where
  -- what is said to one more input
  spoke_on : (files : ℕ) (owed : Owed) (i : WorkerInput) (g : ServesSoFar a now owed s) (x : Answers core (worker_after g.heard.history) i acts) → s.broken ≡ false → IsDue (worker_after g.heard.history) i → AnswersAsking a.held (Rose a.first.file_faults files) owed.path i
      → (is_link_input i ≡ true → has_link_end g.heard.inputs ≡ false) → now.file_faults ≤ files → Spoke a.held (i ∷ g.heard.inputs) (x.heard ∷ g.heard.history) (not broken) a.first (voice sunk faults files)
  spoke_on files owed i g x whole due follows once more =
      spoke_more a.held g.heard.inputs g.heard.history s.broken broken a.first (voice s.sunk s.sink_faults now.file_faults) (voice sunk faults files) core i acts whole g.heard.spoke x due
      (subst (λ (p : Option (List ℕ)). AnswersAsking a.held (Rose a.first.file_faults files) p i) (sym g.heard.path_is) follows) once writes count later more

  -- an input that came of no item of the runner leaves what was taken of it
  still_taken : (owed : Owed) (t : Seen) (of_reader of_runner more : List LinkNews) → more ≡ [] → TakenSoFar a owed t of_reader of_runner → TakenSoFar a owed t of_reader (of_runner ++ more)
  still_taken owed t of_reader of_runner more e taken = subst (λ (l : List LinkNews). TakenSoFar a owed t of_reader l) (sym (append-nil of_runner) ∙ ap (λ (l : List LinkNews). of_runner ++ l) (sym e)) taken

  pub message_heard : (m : MessageView) (last : Bool) → is_terminate_kind m.kind ≡ last → s.door ≡ door.Open → ((h : List HeardInput) → StandsForInputs s.core h → Answers core (worker_after h) (Message m) acts)
      → ServesSoFar a now (owed_of_link (news.Message m)) s → ServesSoFar a now (to_start acts.suite) (record (spoken core broken sunk faults s) { door = door_after last s.door })
  message_heard m last e o answers g =
      let h = g.heard.history in
      let w = worker_after h in
      let x = answers h g.heard.stands in
      let u = turn_by w x.heard in
      let l = listens s.door g.heard.inputs g.heard.of_reader o g.heard.from_link in
      let d : Did s.started last s.door u = subst (λ (b : Bool). Did s.started b s.door u) e (message_did s.started w m x.heard s.door x.is o (g.heard.stopped ∙ ap is_door_shut o) g.left.runs) in
      record {
        heard = record {
          inputs = Message m ∷ g.heard.inputs;
          history = x.heard ∷ h;
          of_reader = g.heard.of_reader ++ news.Message m ∷ [];
          spoke = spoke_on now.file_faults (owed_of_link (news.Message m)) (Message m) g x (g.left.whole refl) tt refl (λ z. l.no_end) (omega arith);
          stands = x.worker;
          path_is = sym x.suite;
          from_link = link_after last m s.door g.heard.inputs g.heard.of_reader o e g.heard.from_link;
          stopped = d.stopped ∙ shut_after last s.door o;
        };
        ordered = g.ordered;
        left = record {
          commands = more_commands h x.heard s.orders g.left.commands;
          whole = λ z. cc;
          runs = d.runs;
          reads = subst (λ (p : Option (List ℕ)). ReadsSo p s.started (commands_of u) (door_after last s.door) (after_turn u)) (sym x.suite) d.reads;
        };
        taken = still_taken (owed_of_link (news.Message m)) s g.heard.of_reader (news_in g.heard.inputs) [] refl g.taken;
      }

  -- the link's end
  end_did : (started : Option ℕ) (w : Worker) (k : ℕ) → w.duties.stopped ≡ false → RunsSo started [] w → Did started true door.Ended (worker_turned LinkEnded k (worker_turn_of w))
  end_did None w k u r = let x = link_end_does w k r in record { runs = ready_runs (worker_turned LinkEnded k (worker_turn_of w)) x.ready; stopped = x.stopped; reads = subst (λ (p : Option (List ℕ)). ReadsSo p None (commands_of (worker_turned LinkEnded k (worker_turn_of w))) door.Terminated (after_turn (worker_turned LinkEnded k (worker_turn_of w)))) (sym (x.ends refl).1) tt }
  end_did (Some moment) w k u r = did_busy moment true door.Ended (worker_turned LinkEnded k (worker_turn_of w)) r.test (link_end_keeps w k r.test r.runs r.busy u)

  end_suite : (started : Option ℕ) (w : Worker) (k : ℕ) → w.duties.stopped ≡ false → RunsSo started [] w → (worker_turned LinkEnded k (worker_turn_of w)).suite ≡ None
  end_suite None w k u r = ((link_end_does w k r).ends refl).1
  end_suite (Some moment) w k u r = (link_end_keeps w k r.test r.runs r.busy u).suite

  pub end_heard : s.door ≡ door.Open → ((h : List HeardInput) → StandsForInputs s.core h → Answers core (worker_after h) LinkEnd acts)
      → ServesSoFar a now (owed_of_link (news.End link.Ended)) s → ServesSoFar a now (to_start None) (record (spoken core broken sunk faults s) { door = door.Ended })
  end_heard o answers g =
      let h = g.heard.history in
      let w = worker_after h in
      let x = answers h g.heard.stands in
      let u = turn_by w x.heard in
      let l = listens s.door g.heard.inputs g.heard.of_reader o g.heard.from_link in
      let unstopped = g.heard.stopped ∙ ap is_door_shut o in
      let d : Did s.started true door.Ended u = subst (λ (c : Came). Did s.started true door.Ended (worker_turned c x.heard.channels (worker_turn_of w))) (sym x.is) (end_did s.started w x.heard.channels unstopped g.left.runs) in
      record {
        heard = record {
          inputs = LinkEnd ∷ g.heard.inputs;
          history = x.heard ∷ h;
          of_reader = g.heard.of_reader ++ news.End link.Ended ∷ [];
          spoke = spoke_on now.file_faults (owed_of_link (news.End link.Ended)) LinkEnd g x (g.left.whole refl) tt refl (λ z. l.no_end) (omega arith);
          stands = x.worker;
          path_is = subst (λ (c : Came). (worker_turned c x.heard.channels (worker_turn_of w)).suite ≡ None) (sym x.is) (end_suite s.started w x.heard.channels unstopped g.left.runs);
          from_link = record {
            later = [];
            got_is = ap (λ (l : List LinkNews). l ++ news.End link.Ended ∷ []) (l.got_is ∙ ap (map news.Message) (sym (append-nil (messages_in g.heard.inputs))));
            none_last = ap has_terminate (append-nil (messages_in g.heard.inputs)) ∙ l.none_last;
            end = refl;
          };
          stopped = d.stopped;
        };
        ordered = g.ordered;
        left = record { commands = more_commands h x.heard s.orders g.left.commands; whole = λ z. cc; runs = d.runs; reads = tt };
        taken = still_taken (owed_of_link (news.End link.Ended)) s g.heard.of_reader (news_in g.heard.inputs) [] refl g.taken;
      }

  -- ---- the programs

  busy_of : (started : Option ℕ) (w : Worker) → IsSome started → RunsSo started [] w → IsBusy w
  busy_of None w e r = cc
  busy_of (Some moment) w e r = r

  still_runs : (started : Option ℕ) (u : WorkerTurn) → IsSome started → (test : ℕ) → running_test (call_of_service u.duties.service) ≡ Some test → rests (call_of_service u.duties.service).phase ≡ false → u.run ≡ None → RunsSo started (commands_of u) (after_turn u)
  still_runs None u e test r b n = cc
  still_runs (Some moment) u e test r b n = kept_runs moment u test r b n

  link_same : (d : Door) (i : WorkerInput) (inputs : List WorkerInput) (got : List LinkNews) → message_in i ≡ [] → is_link_end i ≡ false → FromLink d inputs got → FromLink d (i ∷ inputs) got
  link_same d i inputs got m e f = by d f
    where
      same : messages_in (i ∷ inputs) ≡ messages_in inputs
      same = ap (λ (l : List MessageView). messages_in inputs ++ l) m ∙ append-nil (messages_in inputs)

      end : has_link_end (i ∷ inputs) ≡ has_link_end inputs
      end = ap (λ (b : Bool). b || has_link_end inputs) e

      by : (c : Door) → FromLink c inputs got → FromLink c (i ∷ inputs) got
      by door.Open x = record { got_is = x.got_is ∙ ap (map news.Message) (sym same); none_last = ap has_terminate same ∙ x.none_last; no_end = end ∙ x.no_end }
      by door.Terminated x = record { later = x.later; got_is = x.got_is ∙ ap (λ (l : List MessageView). map news.Message l ++ x.later) (sym same); last = subst TookToLast (sym same) x.last; no_end = end ∙ x.no_end }
      by door.Ended x = record { later = x.later; got_is = x.got_is ∙ ap (λ (l : List MessageView). map news.Message l ++ news.End link.Ended ∷ x.later) (sym same); none_last = ap has_terminate same ∙ x.none_last; end = end ∙ x.end }

  pub output_heard : (piece : List ℕ) → IsSome s.started → length piece ≤ 4096 → ((h : List HeardInput) → StandsForInputs s.core h → Answers core (worker_after h) (Output piece) acts)
      → ServesSoFar a now (of_program (news.Output piece)) s → ServesSoFar a now (to_start None) (spoken core broken sunk faults s)
  output_heard piece some few answers g =
      let h = g.heard.history in
      let w = worker_after h in
      let x = answers h g.heard.stands in
      let u = turn_by w x.heard in
      let r : IsBusy w = busy_of s.started w some g.left.runs in
      let p : Prints (worker_turn_of w) u = subst (λ (c : Came). Prints (worker_turn_of w) (worker_turned c x.heard.channels (worker_turn_of w))) (sym x.is) (output_does w piece x.heard.channels) in
      record {
        heard = record {
          inputs = Output piece ∷ g.heard.inputs;
          history = x.heard ∷ h;
          of_reader = g.heard.of_reader;
          spoke = spoke_on now.file_faults (of_program (news.Output piece)) (Output piece) g x (g.left.whole refl) (subst (λ (o : Option ℕ). IsSome o) (sym (running_is w.duties.service ∙ r.runs)) search, few) refl (λ z. cc) (omega arith);
          stands = x.worker;
          path_is = p.rest.suite;
          from_link = link_same s.door (Output piece) g.heard.inputs g.heard.of_reader refl refl g.heard.from_link;
          stopped = p.rest.stopped ∙ g.heard.stopped;
        };
        ordered = g.ordered;
        left = record {
          commands = more_commands h x.heard s.orders g.left.commands;
          whole = λ z. cc;
          runs = still_runs s.started u some r.test (p.test ∙ r.runs) (ap rests p.phase_is ∙ r.busy) p.run;
          reads = tt;
        };
        taken = g.taken;
      }

  pub done_heard : (outcome : Outcome) (ms : ℕ) (clock : Ticking) → IsSome s.started → IfSome s.started (λ start. Ticks (start + ms) now.clock clock) → ((h : List HeardInput) → StandsForInputs s.core h → Answers core (worker_after h) (ChildDone outcome ms) acts)
      → ServesSoFar a now (of_program (news.ChildDone outcome)) s → ServesSoFar a (beside now.file_faults clock) (to_start None) (record (spoken core broken sunk faults s) { started = None })
  done_heard outcome ms clock some measured answers g =
      let h = g.heard.history in
      let w = worker_after h in
      let x = answers h g.heard.stands in
      let u = turn_by w x.heard in
      let r : IsBusy w = busy_of s.started w some g.left.runs in
      let p : Step (worker_turn_of w) u = subst (λ (c : Came). Step (worker_turn_of w) (worker_turned c x.heard.channels (worker_turn_of w))) (sym x.is) (end_does w outcome ms x.heard.channels r.test r.runs r.busy) in
      record {
        heard = record {
          inputs = ChildDone outcome ms ∷ g.heard.inputs;
          history = x.heard ∷ h;
          of_reader = g.heard.of_reader;
          spoke = spoke_on now.file_faults (of_program (news.ChildDone outcome)) (ChildDone outcome ms) g x (g.left.whole refl) (subst (λ (o : Option ℕ). IsSome o) (sym (running_is w.duties.service ∙ r.runs)) search) refl (λ z. cc) (omega arith);
          stands = x.worker;
          path_is = p.rest.suite;
          from_link = link_same s.door (ChildDone outcome ms) g.heard.inputs g.heard.of_reader refl refl g.heard.from_link;
          stopped = p.rest.stopped ∙ g.heard.stopped;
        };
        ordered = record {
          each = one_less s.started some (length s.orders) (durations_in g.heard.inputs) g.ordered.each;
          timed = ended_at s.started (durations_in g.heard.inputs) ms a.clock now.clock clock some g.ordered.timed measured;
          some = g.ordered.some;
          ring = g.ordered.ring;
        };
        left = record { commands = more_commands h x.heard s.orders g.left.commands; whole = λ z. cc; runs = ready_runs u p.ready; reads = tt };
        taken = g.taken;
      }
    where
      one_less : (started : Option ℕ) → IsSome started → (n : ℕ) (durations : List ℕ) → n ≡ length durations + one_if started → n ≡ length (ms ∷ durations) + 0
      one_less None e n durations c = cc
      one_less (Some moment) e n durations c = omega (arith, c)

  -- ---- a suite

  pub suite_heard : (path : List ℕ) (i : WorkerInput) (files1 : ℕ) → s.broken ≡ false → FilesGave a.held (Rose now.file_faults files1) path i → now.file_faults ≤ files1 → ((h : List HeardInput) → StandsForInputs s.core h → Answers core (worker_after h) i acts)
      → ServesSoFar a now (to_start (Some path)) s → ServesSoFar a (beside files1 now.clock) (to_start None) (spoken core broken sunk faults s)
  suite_heard path i files1 whole gave more answers g =
      let h = g.heard.history in
      let w = worker_after h in
      let x = answers h g.heard.stands in
      let u = turn_by w x.heard in
      let y = aside a.held (Rose now.file_faults files1) path i gave in
      let runs : RunsSo None [] w = subst (λ (o : Option ℕ). RunsSo o [] w) g.left.reads.1 (subst (λ (l : List (List (List ℕ))). RunsSo s.started l w) g.left.reads.2 g.left.runs) in
      let d : Plain u = y.does w x.heard x.is (record { idle = runs; unstopped = g.heard.stopped ∙ ap is_door_shut g.left.reads.3 }) in
      record {
        heard = record {
          inputs = i ∷ g.heard.inputs;
          history = x.heard ∷ h;
          of_reader = g.heard.of_reader;
          spoke = spoke_on files1 (to_start (Some path)) i g x whole (y.due w g.left.reads.0) (since i gave) (λ z. let q = sym y.link ∙ z in cc) more;
          stands = x.worker;
          path_is = d.suite;
          from_link = link_same s.door i g.heard.inputs g.heard.of_reader y.message y.last g.heard.from_link;
          stopped = d.unstopped ∙ sym (ap is_door_shut g.left.reads.3);
        };
        ordered = subst (λ (l : List ℕ). OrderedSoFar a now s l) (sym (untimed a.held (Rose now.file_faults files1) path i g.heard.inputs gave)) g.ordered;
        left = record {
          commands = more_commands h x.heard s.orders (subst (λ (l : List (List (List ℕ))). commands_in h ≡ s.orders ++ l) g.left.reads.2 g.left.commands);
          whole = λ z. cc;
          runs = subst (λ (o : Option ℕ). RunsSo o (commands_of u) (after_turn u)) (sym g.left.reads.1) (ready_runs u d.ready);
          reads = tt;
        };
        taken = still_taken (to_start None) s g.heard.of_reader (news_in g.heard.inputs) (news_of_input i) (no_news i gave) g.taken;
      }
    where
      since : (j : WorkerInput) → FilesGave a.held (Rose now.file_faults files1) path j → FilesGave a.held (Rose a.first.file_faults files1) path j
      since (Message m) f = f
      since (SuiteBytes b) f = f
      since SuiteTooLarge f = f
      since SuiteUnread f = λ below. let r = f below in let l = g.heard.spoke.files_later in omega (arith, r, l)
      since (Output b) f = f
      since (ChildDone outcome ms) f = f
      since LinkEnd f = f

      no_news : (j : WorkerInput) → FilesGave a.held (Rose now.file_faults files1) path j → news_of_input j ≡ []
      no_news (Message m) f = absurd f
      no_news (SuiteBytes b) f = refl
      no_news SuiteTooLarge f = refl
      no_news SuiteUnread f = refl
      no_news (Output b) f = absurd f
      no_news (ChildDone outcome ms) f = absurd f
      no_news LinkEnd f = refl
