use Rattle.xd_replay.proofs.Coming.{other}
use Rattle.xd_replay.proofs.replay.Replay.come.Goals as goal

pub returns-in_default : goal.returns-in_default
returns-in_default g c = λ s m.
    (let d = c.in_default in
    other s c.args.entry.now _ d.not-Ready d.not-Collected d.not-Done d.not-Back d.not-Finished d.not-Refused d.not-Down d.not-NotStarted m.follows)
