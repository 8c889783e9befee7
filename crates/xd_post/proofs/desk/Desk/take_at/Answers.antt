use Rattle.xd_post.proofs.MailFacts.{none_taken, none_seen, none_known, closed_known, item_taken}
use Rattle.xd_post.proofs.desk.Desk.take_at.Goals as goal

pub returns-in-Some-clause-none : goal.returns-in-Some-clause-none
returns-in-Some-clause-none g c =
    none_taken _ _ _ _ _ _ c.index_mut.ensures.value c.in-Some.is c.take.ensures.ring c.take.ensures.none

pub returns-in-Some-clause-kept : goal.returns-in-Some-clause-kept
returns-in-Some-clause-kept g c =
    none_seen _ _ _ _ _ _ c.index_mut.ensures.value c.in-Some.is c.take.ensures.knew

pub returns-in-Some-clause-knew : goal.returns-in-Some-clause-knew
returns-in-Some-clause-knew g c =
    none_known _ _ _ _ _ _ c.requires c.index_mut.ensures.value c.in-Some.is c.take.ensures.knew

pub returns-in-Some-clause-some : goal.returns-in-Some-clause-some
returns-in-Some-clause-some g c =
    item_taken _ _ _ _ _ _ c.requires c.index_mut.ensures.value c.in-Some.is c.take.ensures.ring c.take.ensures.some

pub returns-in-None-clause-knew : goal.returns-in-None-clause-knew
returns-in-None-clause-knew g c =
    closed_known _ _ _ c.requires c.index_mut.ensures.value c.in-None.is
