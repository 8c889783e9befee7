use Rattle.std.proofs.Common.{ℕ, ◌<◌, List, length, subst, inl, inr}
use Rattle.xd_edge.specs.Limits.{most_piece_bytes}
use Rattle.xd_reader.specs.declared.news.LinkNews.TheVariants as news
use Rattle.xd_worker_serve.specs.inner.Seen.{seen}
use Rattle.xd_worker_serve.proofs.Items.{none_runs}
use Rattle.xd_worker_serve.proofs.Settling.{uncalled}
use Rattle.xd_worker_serve.proofs.server.Server.take_output.Goals as goal

pub returns-then-is_none-clause-goes : goal.returns-then-is_none-clause-goes
returns-then-is_none-clause-goes g c = λ a files s. uncalled a _ (seen g.N.Sink.sunk g.N.Sink.faults c.args.self.now) (news.Output c.args.piece) (inl (none_runs c.args.self.now.started c.is_none.result c.is_none.ensures c.if-is_none.true)) s

pub returns-then-as_slice-gt-MAX_PIECE_BYTES-clause-goes : goal.returns-then-as_slice-gt-MAX_PIECE_BYTES-clause-goes
returns-then-as_slice-gt-MAX_PIECE_BYTES-clause-goes g c = λ a files s. uncalled a _ (seen g.N.Sink.sunk g.N.Sink.faults c.args.self.now) (news.Output c.args.piece) (inr (subst (λ (x : List ℕ). most_piece_bytes < length x) c.as_slice.ensures c.if-as_slice-gt-MAX_PIECE_BYTES.true)) s
