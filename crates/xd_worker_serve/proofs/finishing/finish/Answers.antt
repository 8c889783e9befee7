use Rattle.std.proofs.Common.{ℕ, List, Some, sym, ap, ◌∙◌, subst}
use Rattle.std.specs.Prelude.{Option}
use Rattle.xd_post.specs.Mails.{HasMail}
use Rattle.xd_post.specs.Post.{Ring, ring_of_sender}
use Rattle.xd_reader.specs.declared.news.LinkNews.{LinkNews}
use Rattle.xd_worker_serve.specs.declared.server.Halt.{Halt}
use Rattle.xd_worker_serve.specs.Ends.{Served, scene}
use Rattle.xd_worker_serve.specs.inner.Halts.{Goes, worker_status_of}
use Rattle.xd_link.specs.Spring.{spring}
use Rattle.xd_worker_serve.proofs.Finals.{astray_if, finished, none_strayed, order_mail, reader_mail, runner_mail}
use Rattle.xd_worker_serve.proofs.finishing.finish.Goals as goal

pub close_with-of_link-requires : goal.close_with-of_link-requires
close_with-of_link-requires g c =
    let r = c.requires in
    reader_mail r.0 r.1 r.2 r.3 c.args.stop _ _ _ _ r.5 r.6 c.args.halt r.4

pub close_with-of_programs-requires : goal.close_with-of_programs-requires
close_with-of_programs-requires g c =
    let r = c.requires in
    subst (λ (m : List (Option (Ring × List LinkNews))). (x : List LinkNews) × HasMail m 1 (ring_of_sender c.args.ran.sender) x) (sym c.close_with-of_link.ensures.closed)
    (runner_mail r.0 r.1 r.2 r.3 c.args.stop _ _ _ _ r.5 r.6 c.args.halt r.4)

pub close_with-ordered-requires : goal.close_with-ordered-requires
close_with-ordered-requires g c =
    let r = c.requires in
    order_mail r.0 r.1 r.2 r.3 c.args.stop _ _ _ _ r.5 r.6

pub unreachable-requires : goal.unreachable-requires
unreachable-requires g c =
    let r = c.requires in
    none_strayed r.0 r.1 r.2 r.3 c.args.stop _ _ _ _ r.5 r.6 c.close_with-of_link.result.rest c.close_with-of_programs.result.rest c.close_with-ordered.result.rest c.close_with-of_link.ensures.emptied
    (λ got h. c.close_with-of_programs.ensures.emptied got (subst (λ (m : List (Option (Ring × List LinkNews))). HasMail m 1 (ring_of_sender c.args.ran.sender) got) (sym c.close_with-of_link.ensures.closed) h))
    c.close_with-ordered.ensures.emptied
    (subst (λ (h : Halt). Goes (Some h) r.0 r.1 r.3) (astray_if c.args.halt c.in_default.not-At) r.4)

pub returns : goal.returns
returns g c = record {
  served = λ a now before s readers runners goes same j closes.
      subst (λ (n : ℕ). Served n a.held before.source (spring (g.S.Source.supply c.args.read.source) (g.S.Source.is_ended c.args.read.source) (g.S.Source.faults c.args.read.source))
      (scene a.first.sunk a.first.sink_faults before.programs.runs before.programs.faults a.first.file_faults readers runners a.clock)
      (scene (g.N.Sink.sunk c.args.server.speaker.sink) (g.N.Sink.faults c.args.server.speaker.sink) (g.K.Children.runs c.args.ran.children) (g.K.Children.faults c.args.ran.children) now.file_faults readers runners now.clock))
      (sym (c.status.ensures ∙ ap worker_status_of c.last_stop.ensures))
      (finished a now before s c.args.stop _ _ _ _ same j c.close_with-of_link.result.rest c.close_with-of_programs.result.rest c.close_with-ordered.result.rest c.close_with-of_link.ensures.emptied
      (λ got h. c.close_with-of_programs.ensures.emptied got (subst (λ (m : List (Option (Ring × List LinkNews))). HasMail m 1 (ring_of_sender c.args.ran.sender) got) (sym c.close_with-of_link.ensures.closed) h))
      c.close_with-ordered.ensures.emptied c.in-At.why c.args.is_closed _ _ readers runners (subst (λ (h : Halt). Goes (Some h) a now s) c.in-At.is goes) closes);
}
