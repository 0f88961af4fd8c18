use Rattle.std.proofs.Common.{◌≤◌, ◌*◌, arith}
use Rattle.arr_overlap.specs.declared.legs.Leg.{Leg}
use Rattle.arr_overlap.proofs.Counting.{steps_within, two_lead}
use Rattle.arr_overlap.proofs.legs.lead_by_two.Goals as goal

abbrev none : Leg
none = record { places = 0; step = 0 }

pub returns-then-left-other-clause-reached : goal.returns-then-left-other-clause-reached
returns-then-left-other-clause-reached c e =
    let most = c.requires.most in
    let near : c.in-Some.count ≤ c.args.most = c.if-count-most.false in
    let within : c.in-Some.count * c.args.leg.step ≤ c.args.target = steps_within c.args.target c.args.leg.step c.in-Some.count (let h = most.1 in omega arith) in
    two_lead c.args.leg c.args.others.now none c.args.target c.in-Some.count c.if-others-ne1.false (let h = most.0 in omega arith) within c.if-left-other-eq0.true c.if-left-other.true
