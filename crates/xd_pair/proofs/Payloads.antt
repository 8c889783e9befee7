-- Where the messages of the law and those of the link meet: what a call answers means the word that the law says.
use Rattle.std.proofs.Common.{◌≡◌, ℕ, ◌≤◌, List, length, Bool, true, false, Some, None, refl}
use Rattle.std.specs.Prelude.{◌==◌, ◌&&◌}
use Rattle.xd_value.specs.Tree.{Tree, text}
use Rattle.xd_value.specs.Canonical.{canonical}
use Rattle.xd_value.specs.Payload.{IsPayload}
use Rattle.xd_value.proofs.CanonicalSpelling.{canonical_is}
use Rattle.xd_frame.specs.declared.kind.Kind.TheVariants as kind
use Rattle.xd_factory.specs.Said.{Exec, Data, Close, Last, Means}
use Rattle.xd_factory.specs.Table.{closing_message, last_message}

numbered : (n : ℕ) (b : Bool) → (n == 0) ≡ false → ((n == 0) && b) ≡ false
numbered n b h = rw h refl

-- the message that `send` gives is an item of the law, where the value has a payload
pub item_means : (n : ℕ) (v : Tree) (b : List ℕ) → (n == 0) ≡ false → IsPayload v b → length (canonical v) ≤ 16777216
    → Means (record { kind = kind.Item; channel = n; payload = canonical v }) (Data n v)
item_means n v b h p s = record { numbered = numbered n true h; says = (v, (canonical_is v b p s).0, refl) }

-- a call of a function, likewise
pub call_means : (n : ℕ) (v : Tree) (b : List ℕ) → (n == 0) ≡ false → IsPayload v b → length (canonical v) ≤ 16777216
    → Means (record { kind = kind.Exec; channel = n; payload = canonical v }) (Exec n v)
call_means n v b h p s = record { numbered = numbered n true h; says = (v, (canonical_is v b p s).0, refl) }

-- the message that `close` and `end_function` give is an end of the law
pub close_means : (n : ℕ) → (n == 0) ≡ false → Means (closing_message n None) (Close n None)
close_means n h = record { numbered = numbered n true h; says = refl }

pub error_means : (n : ℕ) (cs b : List ℕ) → (n == 0) ≡ false → IsPayload (text cs) b → length (canonical (text cs)) ≤ 16777216 → Means (closing_message n (Some cs)) (Close n (Some cs))
error_means n cs b h p s = record { numbered = numbered n true h; says = (cs, (canonical_is (text cs) b p s).0, refl) }

-- the message that letting go gives at a callback
pub last_means : (n : ℕ) → (n == 0) ≡ false → Means (last_message n) (Last n)
last_means n h = record { numbered = numbered n true h; says = refl }
