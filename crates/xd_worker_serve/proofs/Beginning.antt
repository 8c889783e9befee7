-- A worker that has greeted, and a link that is not served after that.
use Rattle.std.proofs.Common.{◌≡◌, ℕ, ◌≤◌, List, [], ◌∷◌, ◌++◌, Bool, true, false, not, ◌&&◌, Option, Some, None, option_map, Result, Ok, Err, refl, ap, sym, ◌∙◌, subst, arith, inl}
use Rattle.std.specs.Prelude.{◌⊎◌, OnOk, OnErr, is_ok}
use Rattle.std.proofs.lemmas.List.{append-nil}
use Rattle.xd_edge.specs.Children.{ChildRun}
use Rattle.xd_edge.specs.Faults.{Counted, Rose}
use Rattle.xd_edge.specs.Files.{Held}
use Rattle.xd_edge.specs.Sink.{Sunk, with_close}
use Rattle.xd_frame.specs.Stream.{messages}
use Rattle.xd_frame.specs.Writing.{CountAfter, Writes}
use Rattle.xd_link.specs.Spring.{Spring}
use Rattle.xd_link.proofs.SpringLemmas.{gave_none}
use Rattle.xd_post.specs.Post.{Ring}
use Rattle.xd_reader.specs.declared.news.LinkNews.{LinkNews}
use Rattle.xd_worker.specs.declared.worker.WorkerCore.{WorkerCore}
use Rattle.xd_worker.specs.Stands.{StandsForInputs}
use Rattle.xd_worker_serve.specs.declared.server.Door.TheVariants as door
use Rattle.xd_worker_serve.specs.declared.stop.Stop.{Stop}
use Rattle.xd_worker_serve.specs.declared.stop.Stop.TheVariants as stop
use Rattle.xd_worker_serve.specs.Ends.{Closes, Ends, IsCause, RunsPrograms, Scene, Served, voice_of}
use Rattle.xd_worker_serve.specs.inner.Halts.{is_sink_whole, worker_status_of}
use Rattle.xd_worker_serve.specs.Programs.{AreLeft}
use Rattle.xd_worker_serve.specs.inner.Seen.{Seen}
use Rattle.xd_worker_serve.specs.inner.Serves.{ServesSoFar, Setting, beside, nothing, setting, two}
use Rattle.xd_worker_serve.specs.Speaking.{greeting}
use Rattle.xd_worker_serve.specs.Spoke.{Speaks, Spoke, Voice, voice}
use Rattle.xd_edge.specs.Clock.{Ticking}
use Rattle.xd_worker_serve.proofs.Tellings.{rose_earlier, rose_later}

-- ---- the desk

abbrev mail : {T : Type 0} → Ring → List T → Option (Ring × List T)
mail ring got = Some (ring, got)

-- a desk of one inbox, and one of two, of which nothing was taken
pub one_mail : {T : Type 0} (m0 m1 : List (Option (Ring × List T))) (r k : Ring) (t : List T) → m0 ≡ [] → m1 ≡ m0 ++ mail k t ∷ [] → r ≡ k → t ≡ [] → m1 ≡ mail r [] ∷ []
one_mail {T} m0 m1 r k t e0 e1 er et =
    e1 ∙ (ap (λ (m : List (Option (Ring × List T))). m ++ mail k t ∷ []) e0 ∙ (ap (λ (x : Ring). mail x t ∷ []) (sym er) ∙ ap (λ (l : List T). mail r l ∷ []) et))

pub two_mails : (m0 m1 m2 : List (Option (Ring × List LinkNews))) (r1 r2 k1 k2 : Ring) (t1 t2 : List LinkNews) → m0 ≡ [] → m1 ≡ m0 ++ mail k1 t1 ∷ [] → m2 ≡ m1 ++ mail k2 t2 ∷ []
    → r1 ≡ k1 → r2 ≡ k2 → t1 ≡ [] → t2 ≡ [] → m2 ≡ mail r1 [] ∷ mail r2 [] ∷ []
two_mails m0 m1 m2 r1 r2 k1 k2 t1 t2 e0 e1 e2 f1 f2 g1 g2 =
    e2 ∙ (ap (λ (m : List (Option (Ring × List LinkNews))). m ++ mail k2 t2 ∷ []) (one_mail m0 m1 r1 k1 t1 e0 e1 f1 g1)
    ∙ (ap (λ (x : Ring). mail r1 [] ∷ mail x t2 ∷ []) (sym f2) ∙ ap (λ (l : List LinkNews). mail r1 [] ∷ mail r2 l ∷ []) g2))

-- ---- the greeting

-- the greeting alone was written
greeted : (whole : Bool) (old new : Option Sunk) → Writes whole greeting old new → Speaks whole [] old new
greeted true old new w = w
greeted false old new w = w

pub spoke_none : (held : Option Held) (whole : Bool) (first : Voice) (sunk : Option Sunk) (faults : ℕ) → Writes whole greeting first.sunk sunk → CountAfter whole first.sink_faults faults → first.sink_faults ≤ faults → Spoke held [] [] whole first (voice sunk faults first.file_faults)
spoke_none held whole first sunk faults writes count later = record {
  heard = tt;
  ends = tt;
  answered = tt;
  says = greeted whole first.sunk sunk writes;
  sink_count = count;
  sink_later = later;
  files_later = omega arith;
}

module _ (held : Option Held) (sunk0 sunk : Option Sunk) (faults0 faults files : ℕ) (clock : Ticking) (reader runner ring : Ring) (core : WorkerCore) (broken : Bool) where
  abbrev pub place : Setting
  place = setting held sunk0 faults0 files clock reader runner ring

  abbrev pub at_first : List (Option (Ring × List LinkNews)) → List (List (List ℕ)) → Seen
  at_first mails orders = record { core = core; broken = broken; sunk = sunk; sink_faults = faults; mails = mails; orders = orders; ring = ring; started = None; door = door.Open; link_stop = None; short = false }

  first_serves : (mails : List (Option (Ring × List LinkNews))) → broken ≡ false → StandsForInputs core [] → Spoke held [] [] (not broken) (voice sunk0 faults0 files) (voice sunk faults files) → mails ≡ two place [] [] → ServesSoFar place (beside files clock) nothing (at_first mails [])
  first_serves mails whole stands spoke are = record {
    heard = record {
      inputs = [];
      history = [];
      of_reader = [];
      spoke = spoke;
      stands = stands;
      path_is = refl;
      from_link = record { got_is = refl; none_last = refl; no_end = refl };
      stopped = refl;
    };
    ordered = record { each = refl; timed = refl; some = tt; ring = refl };
    left = record { commands = refl; whole = λ z. whole; runs = refl; reads = tt };
    taken = record { mails_are = are; noted = tt };
  }

  pub begun : (mails : List (Option (Ring × List LinkNews))) (orders : List (List (List ℕ))) → broken ≡ false → StandsForInputs core [] → Spoke held [] [] (not broken) (voice sunk0 faults0 files) (voice sunk faults files) → mails ≡ two place [] [] → orders ≡ []
      → ServesSoFar place (beside files clock) nothing (at_first mails orders)
  begun mails orders whole stands spoke are none = subst (λ (l : List (List (List ℕ))). ServesSoFar place (beside files clock) nothing (at_first mails l)) (sym none) (first_serves mails whole stands spoke are)

-- a sink was closed, or could not be
pub closes_by : {E : Type 0} (r : Result Unit E) (closed : Bool) (sunk new : Option Sunk) (faults now : ℕ) → closed ≡ is_ok r → OnOk r (new ≡ option_map with_close sunk) → OnErr r (new ≡ sunk) → Counted (is_ok r) faults now → Closes closed sunk new faults now
closes_by (Ok u) closed sunk new faults now is ok err count = record {
  shut = λ z. ok;
  kept = λ z. let q = sym is ∙ z in cc;
  still = λ z. count.still refl;
  rose = λ z. let q = sym is ∙ z in cc;
  later = count.later;
}
closes_by (Err e) closed sunk new faults now is ok err count = record {
  shut = λ z. let q = sym is ∙ z in cc;
  kept = λ z. err;
  still = λ z. let q = sym is ∙ z in cc;
  rose = λ z. count.rose refl;
  later = count.later;
}

-- Nothing was read and no program was run: the greeting could not be written, or a crew refused its job.
module _ (held : Option Held) (s : Spring) (old new : Scene) (broken closed : Bool) (sunk : Option Sunk) (faults : ℕ) (spoke : Spoke held [] [] (not broken) (voice_of old) (voice sunk faults old.file_faults))
    (closes : Closes closed sunk new.sunk faults new.sink_faults) (runs : new.runs ≡ old.runs) (child_still : new.child_faults ≡ old.child_faults) (files : new.file_faults ≡ old.file_faults) (clock : new.clock ≡ old.clock)
    (refused : broken ≡ false → Rose old.reader_refusals new.reader_refusals ⊎ Rose old.runner_refusals new.runner_refusals) where
  none_run : RunsPrograms [] [] [] [] old new
  none_run = record {
    started = [];
    commands = refl;
    run = record { children = []; commands_are = refl; outputs_are = refl; outcomes_are = refl; added = runs ∙ none_added old.runs };
    heard = tt;
    faults = λ below. (omega (arith, child_still));
    still = λ z. child_still;
    later = (omega (arith, child_still));
  }
    where
      none_added : (l : Option (List ChildRun)) → l ≡ option_map (λ x. x ++ []) l
      none_added None = refl
      none_added (Some x) = ap Some (sym (append-nil x))

  ends_so : (why : Stop) → worker_status_of why ≡ 3 → (not broken && closed) ≡ is_sink_whole why → IsCause why [] [] [] s s old new → Ends why held s s old new
  unfolding none_run
  ends_so why three whole cause = record {
    bytes = [];
    inputs = [];
    history = [];
    left = [];
    unheard = [];
    wrote = not broken;
    closed = closed;
    sunk = sunk;
    sink_faults = faults;
    gave = gave_none s.supply;
    first = (messages [], refl);
    spoke = subst (λ (n : ℕ). Spoke held [] [] (not broken) (voice_of old) (voice sunk faults n)) (sym files) spoke;
    closes = closes;
    whole = whole;
    answered = λ z. refl;
    programs = none_run;
    times = record { running = None; each = refl; timed = clock };
    left_is = none_left (not broken);
    heard = λ z. refl;
    source_count = record { still_or_rose = inl refl; still = λ z. refl };
    crews = λ z. let q = sym three ∙ z in cc;
    cause = cause;
  }
    where
      none_left : (b : Bool) → AreLeft b [] []
      none_left true = refl
      none_left false = refl

  none_served : Served 3 held s s old new
  none_served = by broken closed refl refl
    where
      by : (b c : Bool) → broken ≡ b → closed ≡ c → Served 3 held s s old new
      by false true e f = (stop.NotRun, refl, ends_so stop.NotRun refl (ap (λ (x : Bool). not x && closed) e ∙ f) (refl, refl, refused e))
      by false false e f = (stop.WriteFault, refl, ends_so stop.WriteFault refl (ap (λ (x : Bool). not x && closed) e ∙ f) (rose_earlier old.sink_faults faults new.sink_faults spoke.sink_later (closes.rose f)))
      by true c e f = (stop.WriteFault, refl, ends_so stop.WriteFault refl (ap (λ (x : Bool). not x && closed) e) (rose_later old.sink_faults faults new.sink_faults (subst (λ (x : Bool). CountAfter (not x) old.sink_faults faults) e spoke.sink_count) closes.later))

  pub unserved : (status : ℕ) (t : Spring) → status ≡ 3 → t ≡ s → Served status held s t old new
  unserved status t three same = subst (λ (n : ℕ). Served n held s t old new) (sym three) (subst (λ (x : Spring). Served 3 held s x old new) (sym same) none_served)
