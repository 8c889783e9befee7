use Rattle.std.proofs.Common.{◌&&◌, List, ℕ, length, nat_le, ap, arith, ◌∙◌}
use Rattle.std.specs.List.{list_all}
use Rattle.xd_journal.specs.declared.settings.Settings.{Settings}
use Rattle.xd_run.specs.declared.member.Listed.{Listed}
use Rattle.xd_run.specs.Books.{Books}
use Rattle.xd_edge.specs.Limits.{most_tests}
use Rattle.xd_edge.specs.Ids.{is_id}
use Rattle.xd_run.specs.Proper.{most_workers, no_text_twice}
use Rattle.xd_session_books.proofs.Compares.{all_listed, settings_stay}
use Rattle.xd_session_books.proofs.run_books.RunBooks.list.Goals as goal

pub invariant_of-self : goal.invariant_of-self
invariant_of-self c =
    let old : Books = c.args.self.now.kept in
    let new : Books = c.list.new.self in
    let w = c.args.worker in
    let own : List (List ℕ) = c.args.own.now in
    let ok = c.list.ensures.listed in
    let err = c.list.ensures.unchanged in
    record {
      few = all_listed c.list.result (λ (l : Listed). nat_le (length l.ids) most_tests) old new w own ok err c.args.self.now.few (grind arith);
      few_workers = ap (λ (s : Settings). nat_le s.workers most_workers) (settings_stay c.list.result old new w own ok err) ∙ c.args.self.now.few_workers;
      ordered = all_listed c.list.result (λ (l : Listed). list_all is_id l.ids && no_text_twice l.ids) old new w own ok err c.args.self.now.ordered c.requires.ordered;
    }
