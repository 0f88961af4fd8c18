use Rattle.std.proofs.Common.{◌∙◌, sym}
use Rattle.arr_syntax.proofs.Runs.{run_stuck_if, run_deep_if}
use Rattle.arr_syntax.proofs.reader.Reader.too_deep.Goals as goal

pub returns-then-is_stuck : goal.returns-then-is_stuck
returns-then-is_stuck c = λ is.
    run_stuck_if c.args.self.now.depth c.args.self.now.used c.args.self.now.statements c.args.state c.args.item is
    c.requires.counted.0 c.requires.counted.1 c.in-Ok.moved c.in-Ok.ensures (sym c.is_stuck-is_stuck.ensures ∙ c.if-is_stuck.true)

pub returns : goal.returns
returns c = λ is.
    run_deep_if c.args.self.now.depth c.args.self.now.used c.args.self.now.statements c.args.state c.args.item is
    c.requires.counted.0 c.requires.counted.1 c.args.kind c.in-Ok.moved c.requires.deep c.in-Ok.ensures (sym c.is_stuck-is_stuck.ensures ∙ c.if-is_stuck.false)
