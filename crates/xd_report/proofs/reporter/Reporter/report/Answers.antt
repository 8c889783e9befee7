use Rattle.std.proofs.Common.{◌≡◌, ◌∷◌, [], ◌+◌, ℕ, List, map, refl, sym, ◌∙◌, ap, rules}
use Rattle.std.specs.Vec.{with_items}
use Rattle.std.proofs.lemmas.List.{with_items_is}
use Rattle.xd_run.specs.declared.seat.Seat.{Seat}
use Rattle.xd_run.specs.Numbers.{without}
use Rattle.xd_run.specs.Plan.{base}
use Rattle.xd_run.specs.Results.{completed_first}
use Rattle.xd_run.specs.Table.{at_seat}
use Rattle.xd_run.specs.Workers.{slot_of}
use Rattle.xd_held.specs.declared.holder.Holder.{Holder}
use Rattle.xd_held.specs.Holders.{seat_of_holder}
use Rattle.xd_report.specs.Follows.{bare_seat}
use Rattle.xd_report.proofs.Kept.{changed_kept, named}
use Rattle.xd_report.proofs.reporter.Reporter.report.Goals as goal

pub returns : goal.returns
returns c = λ s f.
    let slot = slot_of c.args.worker s.books in
    let item : ℕ = base slot s.plan + c.args.index in
    let is : c.in_ok-item.item ≡ item = c.in_ok-item.ensures ∙ ap (λ n. n + c.args.index) (c.in_ok-base.ensures s f) in
    let change : Seat → Seat = λ x. record x { held = without (item ∷ []) x.held } in
    let now : map seat_of_holder c.take_held.new.rota ≡ at_seat c.args.worker change (map seat_of_holder c.args.self.now.rota.items) =
    c.take_held.ensures ∙ ap (λ n. at_seat c.args.worker (λ x. record x { held = without (n ∷ []) x.held }) (map seat_of_holder c.deref_mut.result.now)) is ∙ ap (λ (ds : List Holder). at_seat c.args.worker change (map seat_of_holder ds)) c.deref_mut.ensures.value in
    let rota_is : (with_items c.args.self.now.rota c.take_held.new.rota).items ≡ c.take_held.new.rota = with_items_is c.args.self.now.rota c.take_held.new.rota (search rules) in
    record { books = f.books; mode = f.mode; rota = ap (λ (is : List ℕ). map bare_seat (completed_first c.args.worker is s.books.table).rota) (sym (named slot (c.args.index ∷ []) s.plan)) ∙ changed_kept c.args.worker change s.books.table.rota c.args.self.now.rota.items c.take_held.new.rota (λ x. refl) f.rota now ∙ ap (map seat_of_holder) (sym rota_is); sizes = f.sizes }
