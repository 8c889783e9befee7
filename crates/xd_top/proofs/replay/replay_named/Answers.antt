use Rattle.std.proofs.Common.{Bool, refl}
use Rattle.xd_edge.specs.Faults.{Counted}
use Rattle.xd_report.proofs.Endings.{ends_as}
use Rattle.xd_report.specs.Text.{text_of}
use Rattle.xd_top.specs.declared.refusal.Refusal.TheVariants.{FileTooLarge, FileUnread}
use Rattle.xd_top.specs.Replay.{ShowsAgain}
use Rattle.xd_top.proofs.Replaying.{did-print, did-refuse, did-say-none}
use Rattle.xd_top.proofs.replay.replay_named.Goals as goal

pub returns-in-Err-Failed : goal.returns-in-Err-Failed
returns-in-Err-Failed g c = record {
  did = did-refuse _ _ _ _ FileUnread (c.in-Err-Failed.ensures.counted.rose (rw (c.in-Err-Failed.field-0-is) refl)) (record {
    four = c.in_ok-status-in-Err-Failed.ensures.four;
    files_count = c.in-Err-Failed.ensures.counted.rose (rw (c.in-Err-Failed.field-0-is) refl);
    files_kept = c.read_file.ensures.kept;
    no_output = refl;
    says = c.in_ok-status-in-Err-Failed.ensures.line;
  });
}

pub returns-in-Err-TooLarge : goal.returns-in-Err-TooLarge
returns-in-Err-TooLarge g c = record {
  did = did-refuse _ _ _ _ FileTooLarge (c.in-Err-TooLarge.ensures.large (rw (c.in-Err-TooLarge.field-0-is) refl)) (record {
    four = c.in_ok-status-in-Err-TooLarge.ensures.four;
    files_count = c.in-Err-TooLarge.ensures.counted.still (rw (c.in-Err-TooLarge.field-0-is) refl);
    files_kept = c.read_file.ensures.kept;
    no_output = refl;
    says = c.in_ok-status-in-Err-TooLarge.ensures.line;
  });
}

pub returns-in_ok-shown-in-Ok-2 : goal.returns-in_ok-shown-in-Ok-2
returns-in_ok-shown-in-Ok-2 g c =
    let old_out = g.O.Sink.sunk c.args.out.now in
    let new_out = g.O.Sink.sunk c.print_report.new.out in
    record {
      did = did-print _ _ _ _ (c.in-Ok.ensures.counted.still refl) c.read_file.ensures.kept (record {
        bytes = c.in-Ok.bytes;
        file = c.in-Ok.ensures.bytes;
        small = c.in-Ok.ensures.within;
        journal = c.in-Ok-2.journal;
        has = rw (c.in-Ok-2.is) at c.in_ok-journal.ensures;
        shown = c.in_ok-shown-in-Ok-2.shown;
        shows = ends_as _ _ (λ (s : Bool). ShowsAgain s (text_of c.in-Ok-2.journal) old_out new_out) c.in_ok-shown-in-Ok-2.ensures c.print_report.ensures.shows;
        counted = ends_as _ _ (λ (s : Bool). Counted s (g.O.Sink.faults c.args.out.now) (g.O.Sink.faults c.print_report.new.out)) c.in_ok-shown-in-Ok-2.ensures c.print_report.ensures.counted;
        status_is = c.replay_status.ensures;
        quiet = refl;
      });
    }

pub returns-in_ok-say_none-in-Err : goal.returns-in_ok-say_none-in-Err
returns-in_ok-say_none-in-Err g c = record {
  did = did-say-none _ _ _ _ (c.in-Ok.ensures.counted.still refl) c.read_file.ensures.kept refl (record {
    bytes = c.in-Ok.bytes;
    file = c.in-Ok.ensures.bytes;
    small = c.in-Ok.ensures.within;
    why = c.in-Err.why;
    is = rw (c.in-Err.is) at c.in_ok-journal.ensures;
    says = c.in_ok-say_none-in-Err.ensures;
    no_output = refl;
  });
}
