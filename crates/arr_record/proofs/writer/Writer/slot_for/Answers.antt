use Rattle.std.proofs.Common.{◌≤◌, length, arith}
use Rattle.arr_elab.specs.Steps.{slot_count}
use Rattle.arr_record.proofs.Runs.{slot_count_few}
use Rattle.arr_record.proofs.writer.Writer.slot_for.Goals as goal

pub overflow_add-result : goal.overflow_add-result
overflow_add-result c =
    let few : slot_count c.self.inside.waiting.items ≤ length c.self.inside.waiting.items = slot_count_few c.self.inside.waiting.items in
    omega (arith, c.self.invariant.0, c.self.invariant.1)
