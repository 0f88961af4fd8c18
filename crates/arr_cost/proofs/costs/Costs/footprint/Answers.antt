use Rattle.std.proofs.Common.{◌∷◌, [], ℕ, List, get_or, take, sym, subst}
use Rattle.std.proofs.lemmas.List.{take_all, take_more}
use Rattle.arr_cost.specs.Footprints.{IsFootprint}
use Rattle.arr_cost.proofs.Prints.{none_print}
use Rattle.arr_cost.proofs.costs.Costs.footprint.Goals as goal

pub loop-place-init : goal.loop-place-init
loop-place-init c = none_print c.args.self.now _ c.in_ok-print.ensures

pub loop-place-preserved : goal.loop-place-preserved
loop-place-preserved c =
    subst (λ (b : List ℕ). IsFootprint c.args.self.now b c.in_ok-print-2.print) (sym (take_more c.args.block.now c.loop-place.place 0 c.loop-place-test.true))
    (c.in_ok-print-2.ensures c.args.self.now (take c.loop-place.place c.args.block.now) (get_or c.args.block.now c.loop-place.place 0 ∷ []) c.loop-place.invariant c.in_ok-other.ensures)

pub returns : goal.returns
returns c = subst (λ (b : List ℕ). IsFootprint c.args.self.now b c.loop-place.print) (take_all c.loop-place.place c.args.block.now c.loop-place-test.false) c.loop-place.invariant
