-- Which messages of a link were taken.
use Rattle.std.specs.Prelude.{◌≡◌, true, false, List, [], ◌∷◌, ◌++◌}
use Rattle.xd_factory.specs.declared.faults.SideFault.{SideFault}
use Rattle.xd_frame.specs.Message.{MessageView}
use Rattle.xd_worker.specs.declared.input.WorkerInput.TheVariants.{Message}
use Rattle.xd_worker.specs.History.{HeardInput, RefusesFor, worker_after}
use Rattle.xd_worker.specs.Inputs.{has_terminate, is_terminate_kind}

-- Of these messages all were taken, and GATEWAY_TERMINATE is not among them.
pub record TookAll (all taken : List MessageView) : Type 0 where
  pub all_are : taken ≡ all
  pub none_is : has_terminate taken ≡ false

-- GATEWAY_TERMINATE is the last of the messages that were taken.
-- Example: of STATUS, GATEWAY_TERMINATE, STATUS the first two are taken.
pub record TookToLast (taken : List MessageView) : Type 0 where
  pub earlier : List MessageView
  pub last : MessageView
  pub taken_is : taken ≡ earlier ++ last ∷ []
  pub last_is : is_terminate_kind last.kind ≡ true
  pub none_is : has_terminate earlier ≡ false

-- Of these messages those up to one that is refused were taken, and GATEWAY_TERMINATE is not among them.
pub record TookToRefused (all taken : List MessageView) (h : List HeardInput) (fault : SideFault) : Type 0 where
  pub refused : MessageView
  pub later : List MessageView
  pub all_are : all ≡ taken ++ refused ∷ later
  pub none_is : has_terminate taken ≡ false
  pub why : RefusesFor (worker_after h) (Message refused) fault
