use Rattle.std.proofs.Common.{◌≡◌, ◌∙◌, ◌+◌, ◌≤◌, length, set, true, ap, arith}
use Rattle.arr_cost.specs.Touches.{marks, outside}
use Rattle.arr_cost.proofs.Marking.{counted_new, counted_seen, few_marks, marks_more, outside_one, touch_parts}
use Rattle.arr_cost.proofs.tally.count.Goals as goal

pub returns-then-seen-touch-clause-counted : goal.returns-then-seen-touch-clause-counted
returns-then-seen-touch-clause-counted c = λ done known.
    let t = c.in-Some.touch in
    let p = touch_parts (length c.args.seen.now) c.args.touch.now t c.in-Some.is c.requires.below in
    counted_seen done (outside c.args.marked.now c.args.touch.now) t c.args.seen.now c.args.sum
    (ap (outside c.args.marked.now) c.in-Some.is ∙ outside_one c.args.marked.now t c.if-marked-touch.false) p.0 c.if-seen-touch.true known

pub overflow_add-result : goal.overflow_add-result
overflow_add-result c =
    let p = touch_parts (length c.args.seen.now) c.args.touch.now c.in-Some.touch c.in-Some.is c.requires.below in
    let few : marks c.args.seen.now ≤ length c.args.seen.now = few_marks c.args.seen.now in
    let small = c.requires.small in
    let wide = c.requires.few in
    omega arith

pub returns-else-seen-touch-clause-small : goal.returns-else-seen-touch-clause-small
returns-else-seen-touch-clause-small c =
    let t = c.in-Some.touch in
    let p = touch_parts (length c.args.seen.now) c.args.touch.now t c.in-Some.is c.requires.below in
    let more : marks (set c.args.seen.now t.class true) ≡ marks c.args.seen.now + 1 = marks_more c.args.seen.now t.class p.0 c.if-seen-touch.false in
    let small = c.requires.small in
    omega arith

pub returns-else-seen-touch-clause-counted : goal.returns-else-seen-touch-clause-counted
returns-else-seen-touch-clause-counted c = λ done known.
    let t = c.in-Some.touch in
    let p = touch_parts (length c.args.seen.now) c.args.touch.now t c.in-Some.is c.requires.below in
    counted_new done (outside c.args.marked.now c.args.touch.now) t c.args.seen.now c.args.sum
    (ap (outside c.args.marked.now) c.in-Some.is ∙ outside_one c.args.marked.now t c.if-marked-touch.false) p.0 c.if-seen-touch.false known
