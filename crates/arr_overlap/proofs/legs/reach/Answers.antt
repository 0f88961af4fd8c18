use Rattle.std.proofs.Common.{◌≡◌, ◌≤◌, ◌+◌, ◌-◌, ◌*◌, drop, get_or, length, arith}
use Rattle.arr_overlap.specs.Legs.{reach}
use Rattle.arr_overlap.specs.declared.legs.Leg.{Leg}
use Rattle.arr_overlap.proofs.Leading.{leg_at, one_reach, reach_end, reach_turn}
use Rattle.arr_overlap.proofs.legs.reach.Goals as goal

pub loop-leg-init : goal.loop-leg-init
loop-leg-init c = record { rest = omega arith; small = omega arith }

abbrev none : Leg
none = record { places = 0; step = 0 }

pub overflow_add-reach : goal.overflow_add-reach
overflow_add-reach c =
    let leg : Leg = get_or c.args.legs.now c.loop-leg.leg-index none in
    let far : (leg.places - 1) * leg.step ≤ 36028797018963968 = one_reach leg (leg_at 8 c.args.legs.now c.loop-leg.leg-index none c.loop-leg-test.true c.requires.each) in
    let small : c.loop-leg.reach ≤ c.loop-leg.leg-index * 36028797018963968 = c.loop-leg.invariant.small in
    let few : length c.args.legs.now ≤ 8 = c.requires.few in
    let low = c.loop-leg-test.true in
    omega arith

pub loop-leg-preserved : goal.loop-leg-preserved
loop-leg-preserved c =
    let leg : Leg = get_or c.args.legs.now c.loop-leg.leg-index none in
    let far : (leg.places - 1) * leg.step ≤ 36028797018963968 = one_reach leg (leg_at 8 c.args.legs.now c.loop-leg.leg-index none c.loop-leg-test.true c.requires.each) in
    let small : c.loop-leg.reach ≤ c.loop-leg.leg-index * 36028797018963968 = c.loop-leg.invariant.small in
    let rest : c.loop-leg.reach + reach (drop c.loop-leg.leg-index c.args.legs.now) ≡ reach c.args.legs.now = c.loop-leg.invariant.rest in
    let turn : reach (drop c.loop-leg.leg-index c.args.legs.now) ≡ (leg.places - 1) * leg.step + reach (drop (c.loop-leg.leg-index + 1) c.args.legs.now) =
    reach_turn c.args.legs.now c.loop-leg.leg-index none c.loop-leg-test.true in
    record { rest = omega arith; small = omega arith }

pub returns-clause-value : goal.returns-clause-value
returns-clause-value c =
    let rest : c.loop-leg.reach + reach (drop c.loop-leg.leg-index c.args.legs.now) ≡ reach c.args.legs.now = c.loop-leg.invariant.rest in
    let done : length c.args.legs.now ≤ c.loop-leg.leg-index = c.loop-leg-test.false in
    let end : reach (drop c.loop-leg.leg-index c.args.legs.now) ≡ 0 = reach_end c.args.legs.now c.loop-leg.leg-index done in
    omega arith

pub returns-clause-size : goal.returns-clause-size
returns-clause-size c =
    let small : c.loop-leg.reach ≤ c.loop-leg.leg-index * 36028797018963968 = c.loop-leg.invariant.small in
    let few : length c.args.legs.now ≤ 8 = c.requires.few in
    let end : c.loop-leg.leg-index ≤ length c.args.legs.now = c.loop-leg.auto.leg-index-end in
    omega arith
