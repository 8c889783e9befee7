-- What all the bytes of a link say of how it was served.
use Rattle.std.proofs.Common.{◌≡◌, ℕ, List, [], ◌∷◌, ◌++◌, length, map, take, drop, Option, Some, None, refl, ap, sym, ◌∙◌, subst, arith}
use Rattle.std.specs.Prelude.{◌≢◌, Bool, true, false, option_map, IfSome}
use Rattle.std.proofs.lemmas.Grind.{common_steps}
use Rattle.xd_edge.specs.Faults.{StoodStill}
use Rattle.xd_edge.specs.Files.{Held}
use Rattle.xd_edge.specs.Sink.{Sunk, with_close}
use Rattle.xd_link.specs.FreshLink.{unused}
use Rattle.xd_link.specs.Source.{Gave, Supply, with_given}
use Rattle.xd_link.specs.Starter.{with_start}
use Rattle.xd_link.specs.declared.place.Place.{Place}
use Rattle.xd_worker.specs.History.{HeardInput}
use Rattle.xd_worker_serve.specs.Complete.{AreGood, AreStill, GoesWrong, IsCalm}
use Rattle.xd_worker_serve.specs.Ends.{Closes, Scene, Served}
use Rattle.xd_worker_serve.specs.Spoke.{Speaks}
use Rattle.xd_link.specs.Spring.{Spring}
use Rattle.xd_worker_serve.proofs.Completing.{calm, complete, goes_wrong}
use Rattle.xd_dist.specs.Linked.{EndedLink}
use Rattle.xd_top.specs.Outside.{Workplace}
use Rattle.xd_top.specs.Worker.{DidServe, ServedLink, ServesLink, all_bytes, served_scene, unwritten}

-- a sink that was not written to, by what it tells later
unwritten_by : (old new : Option Sunk) (f : Sunk → Sunk) → IfSome old (λ s. s ≡ unused) → new ≡ option_map f old → old ≡ unwritten new
unwritten_by None new f fresh e = sym (ap unwritten e)
unwritten_by (Some s) new f fresh e = ap Some fresh ∙ sym (ap unwritten e)

-- what was written, handed on or closed does not matter
same_unwritten : (old new : Option Sunk) (f : Sunk → Sunk) → new ≡ option_map f old → unwritten new ≡ unwritten old
same_unwritten None new f e = ap unwritten e
same_unwritten (Some s) new f e = ap unwritten e

spoken_unwritten : (whole : Bool) (h : List HeardInput) (old new : Option Sunk) → IfSome old (λ s. s ≡ unused) → Speaks whole h old new → old ≡ unwritten new
spoken_unwritten true h old new fresh s = unwritten_by old new _ fresh s
spoken_unwritten false [] old new fresh s = unwritten_by old new _ fresh s.2.1
spoken_unwritten false (g ∷ h) old new fresh s = unwritten_by old s.0 _ fresh s.1 ∙ sym (same_unwritten s.0 new _ s.2.2.1)

closed_unwritten : (closed : Bool) (old new : Option Sunk) (before now : ℕ) → Closes closed old new before now → unwritten new ≡ unwritten old
closed_unwritten true old new before now c = same_unwritten old new with_close (c.shut refl)
closed_unwritten false old new before now c = ap unwritten (c.kept refl)

halves : (n : ℕ) (l : List ℕ) → take n l ++ drop n l ≡ l
halves n l = grind (arith, common_steps)

-- all the bytes of a source that had given none, by what it tells later
all_left : (bytes : List ℕ) (old new : Option Supply) (P : List ℕ → Type 0) → IfSome old (λ s. s.given ≡ []) → Gave bytes old new → IfSome old (λ s. P s.left) → IfSome new (λ s. P (all_bytes s))
all_left bytes None new P none g p = subst (λ (o : Option Supply). IfSome o (λ s. P (all_bytes s))) (sym g.0) tt
all_left bytes (Some s) new P none g p =
    let all : all_bytes (with_given (length bytes) s) ≡ s.left = ap (λ (l : List ℕ). (l ++ take (length bytes) s.left) ++ drop (length bytes) s.left) none ∙ halves (length bytes) s.left in
    subst (λ (o : Option Supply). IfSome o (λ t. P (all_bytes t))) (sym g.0) (subst P (sym all) p)

-- a link, by what was told of it when it was started
pub served_link : (status : ℕ) (start end : Spring) (sunk : Option Sunk) (n : ℕ) (old : Workplace) (new : Scene)
    → IfSome start.supply (λ s. s.given ≡ []) → start.ended ≡ false → start.faults ≡ 0 → IfSome sunk (λ s. s ≡ unused) → n ≡ 0
    → Served status old.files.held start end (served_scene sunk n old) new → ServedLink status end old new
served_link status start end sunk n old new given ended reads taken writes served = record {
  start = start;
  sunk = sunk;
  none_given = given;
  not_ended = ended;
  no_reads = reads;
  none_taken = taken;
  served = subst (λ (k : ℕ). Served status old.files.held start end (served_scene sunk k old) new) writes served;
}

module _ (status : ℕ) (end : Spring) (old : Workplace) (new : Scene) (s : ServedLink status end old new) where
  -- before the link was served
  abbrev pub before : Scene
  before = served_scene (unwritten new.sunk) 0 old

  abbrev held : Option Held
  held = old.files.held

  before_is : served_scene s.sunk 0 old ≡ before
  before_is =
      let e = s.served.2 in
      ap (λ (o : Option Sunk). served_scene o 0 old) (spoken_unwritten e.wrote e.history s.sunk e.sunk s.none_taken e.spoke.says ∙ sym (closed_unwritten e.closed e.sunk new.sunk e.sink_faults new.sink_faults e.closes))

  pub link_calm : status ≡ 0 → IsCalm 0 end.faults before new
  link_calm zero = subst (λ (n : ℕ). IsCalm n end.faults before new) s.no_reads (subst (λ (x : Scene). IsCalm s.start.faults end.faults x new) before_is (calm held s.start end (served_scene s.sunk 0 old) new status s.served zero))

  pub link_wrong : status ≢ 0 → IfSome end.supply (λ t. GoesWrong held (all_bytes t) 0 end.faults before new)
  link_wrong not_zero = all_left s.served.2.bytes s.start.supply end.supply (λ l. GoesWrong held l 0 end.faults before new) s.none_given s.served.2.gave
      (subst (λ (n : ℕ). IfSome s.start.supply (λ t. GoesWrong held t.left n end.faults before new)) s.no_reads
      (subst (λ (x : Scene). IfSome s.start.supply (λ t. GoesWrong held t.left s.start.faults end.faults x new)) before_is
      (goes_wrong held s.start end (served_scene s.sunk 0 old) new status s.served not_zero)))

  pub link_complete : IfSome end.supply (λ t. AreGood held (all_bytes t) before new → StoodStill 0 end.faults → AreStill before new → status ≡ 0)
  link_complete = all_left s.served.2.bytes s.start.supply end.supply (λ l. AreGood held l before new → StoodStill 0 end.faults → AreStill before new → status ≡ 0) s.none_given s.served.2.gave
      (subst (λ (n : ℕ). IfSome s.start.supply (λ t. AreGood held t.left before new → StoodStill n end.faults → AreStill before new → status ≡ 0)) s.no_reads
      (subst (λ (x : Scene). IfSome s.start.supply (λ t. AreGood held t.left x new → StoodStill s.start.faults end.faults → AreStill x new → status ≡ 0)) before_is
      (complete held s.start end (served_scene s.sunk 0 old) new status s.served)))

-- the link to a place, by how it was served
pub serves_link : (place : Place) (l : EndedLink) (status : ℕ) (old new : Workplace) → l.worker ≡ 0 → l.killed ≡ false → ServedLink status l.link.spring old (served_scene l.link.sunk l.link.writes new)
    → new.starter.begun ≡ option_map (with_start place) old.starter.begun → new.starter.faults ≡ old.starter.faults → new.files.held ≡ old.files.held → ServesLink place l status old new
serves_link place l status old new number killed served started still kept =
    let seen = served_scene l.link.sunk l.link.writes new in
    record {
      number = number;
      not_killed = killed;
      served = served;
      started = started;
      starts_still = still;
      files_kept = kept;
      calm = link_calm status l.link.spring old seen served;
      wrong = link_wrong status l.link.spring old seen served;
      complete = link_complete status l.link.spring old seen served;
    }

pub links_one : {A : Type 0} (seen : A → EndedLink) (first links : List A) (l : A) (place : Place) (status : ℕ) (old new : Workplace) → first ≡ [] → links ≡ first ++ l ∷ []
    → ServesLink place (seen l) status old new → DidServe place (map seen links) status old new
links_one {A} seen first links l place status old new none one s =
    subst (λ (ls : List A). DidServe place (map seen ls) status old new) (sym (one ∙ ap (λ (ls : List A). ls ++ l ∷ []) none)) s
