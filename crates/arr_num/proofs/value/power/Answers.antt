use Rattle.std.proofs.Common.{◌≡◌, ◌*◌, ◌^◌, ◌%◌, ◌∙◌, arith, ap, sym, ◌*ℤ◌, FitsSigned, to_z, of_z}
use Rattle.std.specs.Int.{w128, int_pow}
use Rattle.arr_num.specs.Numbers.{digits, in_type, size, wrap}
use Rattle.arr_num.proofs.Powers.{started, one_inside, odd_round, even_round, finished}
use Rattle.arr_num.proofs.Wrapping.{in_type_wrap}
use Rattle.arr_num.proofs.Reading.{read}
use Rattle.arr_num.proofs.value.power.Goals as goal
use Rattle.arr_num.proofs.value.power.Goals.{then-rest-eq1, else-rest-eq1}

pub loop-rest-init : goal.loop-rest-init
loop-rest-init c = record {
  inside = one_inside c.args.ty;
  kept = started c.args.ty (to_z w128 (of_z w128 c.args.base)) c.args.exponent;
}

pub loop-rest-preserved : goal.loop-rest-preserved
loop-rest-preserved c =
    let t = c.args.ty in
    let p = to_z w128 c.loop-rest.power-bits in
    let d = to_z w128 c.loop-rest.square-bits in
    let q = to_z w128 c.if-rest-eq1.power-bits in
    let f = to_z w128 (of_z w128 c.product-square.result) in
    let fits : FitsSigned w128 c.product-square.result = omega arith in
    let square : f ≡ wrap t (d *ℤ d) = read c.product-square.result fits ∙ c.product-square.ensures in
    elim c.if-rest-eq1.branch [
      | then-rest-eq1 w ↦
          let fits_too : FitsSigned w128 w.product-power.result = omega arith in
          let power : q ≡ wrap t (p *ℤ d) = w.power-is ∙ read w.product-power.result fits_too ∙ w.product-power.ensures in
          record { inside = ap (in_type t) power ∙ in_type_wrap t (p *ℤ d); kept = odd_round t p d q f c.loop-rest.rest power square w.if-rest-eq1.true ∙ c.loop-rest.invariant.kept }
      | else-rest-eq1 w ↦
          let odd = w.if-rest-eq1.false in
          let even : c.loop-rest.rest % 2 ≡ 0 = omega arith in
          record { inside = ap (in_type t) w.power-is ∙ c.loop-rest.invariant.inside; kept = even_round t p d q f c.loop-rest.rest w.power-is square even ∙ c.loop-rest.invariant.kept }
    ]

pub returns : goal.returns
returns c =
    let done : c.loop-rest.rest ≡ 0 = omega arith in
    finished c.args.ty (to_z w128 c.loop-rest.power-bits) (to_z w128 c.loop-rest.square-bits) (int_pow c.args.base c.args.exponent) 0 c.loop-rest.invariant.inside
    (ap (λ n. (digits c.args.ty (to_z w128 c.loop-rest.power-bits) * digits c.args.ty (to_z w128 c.loop-rest.square-bits) ^ n) % size c.args.ty) (sym done) ∙ c.loop-rest.invariant.kept ∙ ap (λ z. digits c.args.ty (int_pow z c.args.exponent)) (read c.args.base c.ranges.base))
