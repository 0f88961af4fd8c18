use Rattle.std.proofs.Common.{◌≡◌, ◌∙◌, ◌*◌, ◌≤◌, List, length, get_or, map, ap, sym, subst, arith}
use Rattle.std.specs.Prelude.{IsTrue}
use Rattle.std.specs.List.{All, flat_map}
use Rattle.std.proofs.lemmas.List.{length-map}
use Rattle.arr_ops.specs.Ops.{views}
use Rattle.arr_ops.specs.declared.op.Op.{Op}
use Rattle.arr_cost.specs.declared.touches.Touches.{Touches}
use Rattle.arr_cost.specs.Touches.{is_below, table_of, touches_of, untouched}
use Rattle.arr_cost.proofs.costs.cost_of.Goals as goal

pub touched_weight-requires : goal.touched_weight-requires
touched_weight-requires c =
    let list : List Op = c.costs.inside.ops.items in
    let same : c.as_slice.result.now ≡ table_of list = c.as_slice.ensures.value ∙ c.costs.invariant.2 in
    let long : length c.as_slice.result.now ≡ length (table_of list) = ap length same in
    let rest : length (map (touches_of list (flat_map views list)) list) ≡ length list = length-map list (touches_of list (flat_map views list)) in
    let few : length list ≤ 256 = c.costs.invariant.0 in
    record {
      some = omega arith;
      few = omega arith;
      none = ap (λ (t : List Touches). get_or t 0 untouched) same;
      below = subst (λ (t : List Touches). All (λ u. IsTrue (is_below (3 * length t) u)) t) (sym c.as_slice.ensures.value) c.costs.invariant.3;
    }

pub returns-clause-value : goal.returns-clause-value
returns-clause-value c =
    c.in_ok-sum.ensures.value c.args.costs.now (c.as_slice.ensures.value ∙ c.costs.invariant.2 ∙ ap table_of c.costs.view_is)

pub returns-clause-few : goal.returns-clause-few
returns-clause-few c = subst (λ (l : List Op). length l ≤ 256) c.costs.view_is c.costs.invariant.0
