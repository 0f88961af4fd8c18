use Rattle.std.proofs.Common.{◌≡◌, ℕ, ◌≤◌, ◌+◌, ◌/◌, List, length, subst}
use Rattle.std.specs.Prelude.{nat_le}
use Rattle.std.proofs.lemmas.Bool.{and_parts, leb-true}
use Rattle.std.proofs.lemmas.Result.{IfOk-weaker}
use Rattle.arr_ops.specs.declared.op.Op.{Op}
use Rattle.arr_law.specs.declared.fact.Fact.TheVariants.{Apart}
use Rattle.arr_state.specs.States.{known}
use Rattle.arr_bound.specs.Sets.{in_row, IsTable}
use Rattle.arr_bound.proofs.Filled.{filled_table}
use Rattle.arr_bound.proofs.leaf.charges.Goals as goal

pub leaf_by-requires : goal.leaf_by-requires
leaf_by-requires c =
    subst (λ (list : List Op). IsTable (length list) c.apart_rows.result.now) c.requires.list
    (filled_table (length c.args.state.now.list) (known c.args.state.now) c.apart_rows.result.now c.apart_rows.ensures.long c.apart_rows.ensures.told c.requires.even c.requires.plain)

pub returns : goal.returns
returns c =
    let list = c.args.views.now in
    let told : (f g : ℕ) → f ≤ length list → g ≤ length list → in_row (length list / 64 + 1) c.apart_rows.result.now f g ≡ known c.args.state.now (Apart f g) =
    subst (λ (ops : List Op). (f g : ℕ) → f ≤ length ops → g ≤ length ops → in_row (length ops / 64 + 1) c.apart_rows.result.now f g ≡ known c.args.state.now (Apart f g)) c.requires.list c.apart_rows.ensures.told in
    IfOk-weaker c.leaf_by.result _ _
    (λ x large. large (known c.args.state.now) (λ f g of og. told f g (leb-true f (length list) (and_parts (nat_le 1 f) (nat_le f (length list)) of).1) (leb-true g (length list) (and_parts (nat_le 1 g) (nat_le g (length list)) og).1)))
    c.leaf_by.ensures
