use Rattle.std.proofs.Common.{◌≡◌, ◌++◌, ℕ, List, map, refl, sym, ◌∙◌, ap, rules}
use Rattle.std.specs.List.{range_with_len}
use Rattle.std.specs.Vec.{with_items}
use Rattle.std.proofs.lemmas.List.{with_items_is}
use Rattle.xd_run.specs.declared.seat.Seat.{Seat}
use Rattle.xd_run.specs.Plan.{base, slot_items}
use Rattle.xd_run.specs.Table.{at_seat}
use Rattle.xd_run.specs.Workers.{slot_of}
use Rattle.xd_held.specs.declared.holder.Holder.{Holder}
use Rattle.xd_held.specs.Holders.{seat_of_holder}
use Rattle.xd_report.proofs.Kept.{changed_kept}
use Rattle.xd_report.proofs.reporter.Reporter.assign_all.Goals as goal

pub returns : goal.returns
returns c = λ s f.
    let items : List ℕ = slot_items (slot_of c.args.worker s.books) s.plan in
    let given : c.deref.result.now ≡ items = c.deref.ensures.value ∙ c.in_ok-items.ensures ∙ ap (λ n. range_with_len n c.size.result) (c.in_ok-base.ensures s f) ∙ ap (λ n. range_with_len (base (slot_of c.args.worker s.books) s.plan) n) (c.size.ensures s f) in
    let change : Seat → Seat = λ x. record x { held = x.held ++ items } in
    let now : map seat_of_holder c.add_held.new.rota ≡ at_seat c.args.worker change (map seat_of_holder c.args.self.now.rota.items) =
    c.in_ok-add_held.ensures ∙ ap (λ (l : List ℕ). at_seat c.args.worker (λ x. record x { held = x.held ++ l }) (map seat_of_holder c.deref_mut.result.now)) given ∙ ap (λ (ds : List Holder). at_seat c.args.worker change (map seat_of_holder ds)) c.deref_mut.ensures.value in
    let rota_is : (with_items c.args.self.now.rota c.add_held.new.rota).items ≡ c.add_held.new.rota = with_items_is c.args.self.now.rota c.add_held.new.rota (search rules) in
    record { books = f.books; mode = f.mode; rota = changed_kept c.args.worker change s.books.table.rota c.args.self.now.rota.items c.add_held.new.rota (λ x. refl) f.rota now ∙ ap (map seat_of_holder) (sym rota_is); sizes = f.sizes }
