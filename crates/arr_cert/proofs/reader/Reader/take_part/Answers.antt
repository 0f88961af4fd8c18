use Rattle.std.proofs.Common.{◌<◌, ◌≤◌, length, rules}
use Rattle.arr_cert.specs.Unread.{waiting}
use Rattle.arr_cert.proofs.Looking.{part_ends, part_open}
use Rattle.arr_cert.proofs.reader.Reader.take_part.Goals as goal

pub returns-then-ends-clause-part : goal.returns-then-ends-clause-part
returns-then-ends-clause-part c =
    let within : c.before_feed-front.result < length c.waiting-waiting.result.now = search rules in
    part_ends (waiting c.args.self.now.pieces) (waiting c.take.new.self) c.args.self.now.text.items c.keep.new.text.items c.waiting-waiting.result.now c.before_feed-front.result c.waiting-waiting.ensures c.before_feed-front.ensures within
    c.take.ensures.rest c.in_ok-keep.ensures

pub returns-clause-part : goal.returns-clause-part
returns-clause-part c =
    let beyond : length c.waiting-waiting.result.now ≤ c.before_feed-front.result = search rules in
    part_open (waiting c.args.self.now.pieces) (waiting c.take-2.new.self) c.args.self.now.text.items c.keep.new.text.items c.waiting-waiting.result.now c.before_feed-front.result c.waiting-waiting.ensures c.before_feed-front.ensures beyond
    c.take-2.ensures.rest c.in_ok-keep.ensures
