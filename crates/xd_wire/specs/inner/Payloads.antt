-- What is read of a payload.
use Rattle.std.specs.Prelude.{◌≡◌, ℕ, List}
use Rattle.xd_value.specs.declared.fault.LoadWhat.{LoadWhat}
use Rattle.xd_value.specs.Payload.{IsPayload, FirstFault}
use Rattle.xd_value.specs.Tree.{Tree}

-- bytes are a payload of one value, or have one first fault, and never both
pub record ReadsOne : Type 0 where
  pub value : (v w : Tree) (b : List ℕ) → IsPayload v b → IsPayload w b → v ≡ w
  pub apart : (v : Tree) (b : List ℕ) (at : ℕ) (f : LoadWhat) → IsPayload v b → FirstFault b at f → ⊥
  pub fault : (b : List ℕ) (p q : ℕ) (f g : LoadWhat) → FirstFault b p f → FirstFault b q g → (p ≡ q) × (f ≡ g)
