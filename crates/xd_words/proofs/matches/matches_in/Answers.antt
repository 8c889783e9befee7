use Rattle.std.proofs.Common.{◌≡◌, map, false, true, sym, ◌∙◌, inl, inr}
use Rattle.clap.specs.Words.{app_of, is_simple, kind_of}
use Rattle.clap.specs.Faults.{is_free_app}
use Rattle.clap.specs.Simple.{built}
use Rattle.xd_words.proofs.Rows.{both_left, found_none, found_some}
use Rattle.xd_words.proofs.matches.matches_in.Goals as goal

differ : false ≡ true → ⊥
differ h = cc

pub returns-in-Ok : goal.returns-in-Ok
returns-in-Ok c =
    found_some (app_of c.args.command) (map (λ w. w.now) c.args.words.now) _
    ((c.in-Ok.ensures.matches (both_left (is_simple (app_of c.args.command)) (is_free_app (built (app_of c.args.command))) c.requires)).0)
    (c.in-Ok.ensures.kinds c.requires)

pub returns-else-is_memory : goal.returns-else-is_memory
returns-else-is_memory c =
    elim (c.in-Err.ensures.kinds c.requires) [
      | inl o ↦ absurd (differ (sym c.if-is_memory.false ∙ c.is_memory.ensures (c.kind.ensures ∙ o)))
      | inr k ↦ found_none (app_of c.args.command) (map (λ w. w.now) c.args.words.now) (kind_of c.in-Err.error) k
    ]
