use Rattle.std.proofs.Common.{◌≡◌, sym, subst, length, refl}
use Rattle.arr_record.specs.Ledger.{Ledger, Owned}
use Rattle.arr_record.proofs.Ledgers.{owned_made}
use Rattle.arr_record.proofs.owners.Owners.make.Goals as goal

pub returns-clause-owned : goal.returns-clause-owned
returns-clause-owned c =
    λ names live owned.
    let before : Ledger = record { names = c.self.inside.names.entries; elems = c.self.inside.elems.items; counts = c.self.inside.counts.items; loose = c.self.inside.loose.keys } in
    let after : Ledger = record { names = c.self.inside.names.entries; elems = c.push.new.self.items; counts = c.push-2.new.self.items; loose = c.insert.new.self.keys } in
    owned_made before after c.args.base c.args.elem names live (subst (λ (o : Ledger). c.args.base ≡ length o.elems) (sym c.self.view_is) c.requires) (λ q. refl)
    c.in_ok-push.ensures.items c.in_ok-push-2.ensures.items c.in_ok-insert.ensures.keys (subst (λ o. Owned o names live) (sym c.self.view_is) owned)
