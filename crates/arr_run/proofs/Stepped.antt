-- What a gather or scatter raises the counters by.
use Rattle.std.proofs.Common.{◌≡◌, ◌*◌, ◌≤◌, [], ◌∷◌, true, arith}
use Rattle.std.proofs.Math.Nat.{mul-le-mul_left}
use Rattle.std.specs.List.{list_all}
use Rattle.arr_num.specs.Numbers.{width}
use Rattle.arr_num.specs.declared.elem.Elem.{Elem}
use Rattle.arr_num.specs.declared.elem.Elem.TheVariants.{U8, I32, I64, U64}
use Rattle.arr_view.specs.Strided.{Strided}
use Rattle.arr_view.specs.Views.{is_view, positions}
use Rattle.arr_view.proofs.Checks.{lawful}
use Rattle.arr_ops.specs.Costs.{weight_of}
use Rattle.arr_ops.specs.Gathers.{is_gather, is_scatter}
use Rattle.arr_ops.specs.declared.gather.Gather.{Gather}
use Rattle.arr_ops.specs.declared.gather.Scatter.{Scatter}
use Rattle.arr_ops.proofs.Tests.{both_left, both_right}

small_width : (t : Elem) → width t ≤ 8
small_width U8 = omega arith
small_width I32 = omega arith
small_width I64 = omega arith
small_width U64 = omega arith

-- a view weighs at most 8 MiB
pub small_weight : (t : Elem) (v : Strided) → is_view v ≡ true → weight_of t v ≤ 8388608
small_weight t v h =
    let few : positions v.lengths ≤ 1048576 = (lawful v h).size in
    let wide : positions v.lengths * width t ≤ positions v.lengths * 8 = mul-le-mul_left (positions v.lengths) (small_width t) in
    omega arith

pub record SmallGather (op : Gather) : Type 0 where
  pub index : weight_of op.of op.index ≤ 8388608
  pub out : weight_of op.to op.out ≤ 8388608

pub small_gather : (op : Gather) → is_gather op ≡ true → SmallGather op
small_gather op h =
    let views = both_left (list_all is_view (op.out ∷ op.source ∷ op.index ∷ [])) _ h in
    let rest = both_right (is_view op.out) _ views in
    record { index = small_weight op.of op.index (both_left (is_view op.index) _ (both_right (is_view op.source) _ rest)); out = small_weight op.to op.out (both_left (is_view op.out) _ views) }

pub record SmallScatter (op : Scatter) : Type 0 where
  pub index : weight_of op.of op.index ≤ 8388608
  pub values : weight_of op.to op.values ≤ 8388608

pub small_scatter : (op : Scatter) → is_scatter op ≡ true → SmallScatter op
small_scatter op h =
    let views = both_left (list_all is_view (op.target ∷ op.index ∷ op.values ∷ [])) _ h in
    let rest = both_right (is_view op.target) _ views in
    record { index = small_weight op.of op.index (both_left (is_view op.index) _ rest); values = small_weight op.to op.values (both_left (is_view op.values) _ (both_right (is_view op.index) _ rest)) }
