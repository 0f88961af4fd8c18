use Rattle.std.proofs.Common.{◌≡◌, ◌<◌, ◌∙◌, ap, sym, subst, length, rules}
use Rattle.std.specs.List.{AllByRecursion}
use Rattle.arr_record.specs.Parts.{free_each}
use Rattle.arr_record.specs.Ledger.{Ledger, with_types}
use Rattle.arr_record.proofs.Ledgers.{loose_below}
use Rattle.arr_record.proofs.owners.Owners.free_loose.Goals as goal

pub loop-base-init : goal.loop-base-init
loop-base-init c =
    let inside : c.into_iter-base-iterator.result ≡ c.self.inside.loose.keys = search rules in
    let all : c.into_iter-base-iterator.result ≡ c.args.self.now.loose = inside ∙ ap (λ (o : Ledger). o.loose) c.self.view_is in
    record {
      next = tt;
      ends = tt;
      below = subst (AllByRecursion (λ b. b < length c.args.self.now.elems)) (sym all) (loose_below c.args.self.now c.requires.names c.requires.live c.requires.owned);
      rest = ap (λ ks. free_each c.args.writer.now (with_types c.args.self.now.elems ks)) all;
    }
