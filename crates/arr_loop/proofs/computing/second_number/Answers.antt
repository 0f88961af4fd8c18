use Rattle.std.proofs.Common.{◌∙◌, rules, sym, FitsSigned}
use Rattle.std.specs.Int.{w128}
use Rattle.arr_num.proofs.Reading.{read}
use Rattle.arr_store.specs.Stored.{cells}
use Rattle.arr_loop.proofs.Elements.{second_shared}
use Rattle.arr_loop.proofs.computing.second_number.Goals as goal

pub returns-then-shared-clause-number : goal.returns-then-shared-clause-number
returns-then-shared-clause-number c =
    let fits : FitsSigned w128 c.args.left = search rules in
    read c.args.left fits ∙ c.requires.left c.if-shared.true ∙ second_shared c.args.op.now (cells c.args.store.now) c.args.position (sym c.requires.shared ∙ c.if-shared.true)
