-- What the commands do that serve one link: worker its own streams, socketserver a connection. A choice of this project; the
-- worker's side is execnet's `serve_popen`.
use Rattle.std.specs.Prelude.{ℕ, ◌≡◌, ◌≢◌, ◌++◌, false, List, [], ◌∷◌, Option, IfSome, option_map}
use Rattle.xd_edge.specs.Faults.{Rose, StoodStill}
use Rattle.xd_edge.specs.Sink.{Sunk}
use Rattle.xd_link.specs.FreshLink.{unused}
use Rattle.xd_link.specs.Source.{Supply}
use Rattle.xd_link.specs.Starter.{with_failure, with_start}
use Rattle.xd_link.specs.declared.place.Place.{Place}
use Rattle.xd_worker_serve.specs.Complete.{AreGood, AreStill, GoesWrong, IsCalm}
use Rattle.xd_worker_serve.specs.Ends.{Scene, Served, scene}
use Rattle.xd_link.specs.Spring.{Spring}
use Rattle.xd_dist.specs.Linked.{EndedLink}
use Rattle.xd_top.specs.Outside.{Workplace}

-- all the bytes of a link that had given none before
abbrev pub all_bytes : Supply → List ℕ
all_bytes s = s.given ++ s.left

-- what a sink told before anything was written to it
abbrev pub unwritten : Option Sunk → Option Sunk
unwritten sunk = option_map (λ _. unused) sunk

-- what is seen of the worker's link and of what it works on, as the loop that serves a link sees it
abbrev pub served_scene : Option Sunk → ℕ → Workplace → Scene
served_scene sunk writes place = scene sunk writes place.programs.runs place.programs.faults place.files.faults place.crews.readers place.crews.runners place.clock

-- A link was started, of which nothing was read or written before, and it was served to its end, with this exit status.
-- Example: standard input is empty: the byte `1` is written and the status is 0.
pub record ServedLink (status : ℕ) (end : Spring) (old : Workplace) (new : Scene) : Type 0 where
  pub start : Spring
  pub sunk : Option Sunk
  pub none_given : IfSome start.supply (λ s. s.given ≡ [])
  pub not_ended : start.ended ≡ false
  pub no_reads : start.faults ≡ 0
  pub none_taken : IfSome sunk (λ s. s ≡ unused)
  pub served : Served status old.files.held start end (served_scene sunk 0 old) new

-- The link to this place was started and served to its end. The status is 0 only where no count of the starter, the
-- link and the crews rose, and another one only where something is wrong with the link; where the link tells its bytes,
-- nothing is wrong with all of them and no count rises, it is 0. No file is written.
pub record ServesLink (place : Place) (l : EndedLink) (status : ℕ) (old new : Workplace) : Type 0 where
  pub number : l.worker ≡ 0
  pub not_killed : l.killed ≡ false
  pub served : ServedLink status l.link.spring old (served_scene l.link.sunk l.link.writes new)
  pub started : new.starter.begun ≡ option_map (with_start place) old.starter.begun
  pub starts_still : new.starter.faults ≡ old.starter.faults
  pub files_kept : new.files.held ≡ old.files.held
  pub calm : status ≡ 0 → IsCalm 0 l.link.spring.faults (served_scene (unwritten l.link.sunk) 0 old) (served_scene l.link.sunk l.link.writes new)
  pub wrong : status ≢ 0 → IfSome l.link.spring.supply (λ s. GoesWrong old.files.held (all_bytes s) 0 l.link.spring.faults (served_scene (unwritten l.link.sunk) 0 old) (served_scene l.link.sunk l.link.writes new))
  pub complete : IfSome l.link.spring.supply (λ s. AreGood old.files.held (all_bytes s) (served_scene (unwritten l.link.sunk) 0 old) (served_scene l.link.sunk l.link.writes new)
      → StoodStill 0 l.link.spring.faults → AreStill (served_scene (unwritten l.link.sunk) 0 old) (served_scene l.link.sunk l.link.writes new) → status ≡ 0)

-- The link to this place could not be started. All but the starter is as it was: no file was read, no program was started, no
-- job was handed to a crew, and the clock was not asked.
pub record StartsNone (place : Place) (status : ℕ) (old new : Workplace) : Type 0 where
  pub three : status ≡ 3
  pub fault : Rose old.starter.faults new.starter.faults
  pub asked : new.starter.begun ≡ option_map (with_failure place) old.starter.begun
  pub nothing_else : new ≡ record old { starter = new.starter }

-- What serving one link came to, by that link.
abbrev pub DidServe : Place → List EndedLink → ℕ → Workplace → Workplace → Type 0
DidServe place [] status old new = StartsNone place status old new
DidServe place (l ∷ []) status old new = ServesLink place l status old new
DidServe place (l ∷ m ∷ ls) status old new = ⊥
