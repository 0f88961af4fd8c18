use Rattle.arr_greedy.proofs.Cells.{amount_set}
use Rattle.arr_greedy.proofs.pricing.put_amount.Goals as goal

pub returns-clause-put : goal.returns-clause-put
returns-clause-put c = amount_set c.args.rows.now c.args.width c.args.row c.args.column c.args.value c.requires.size c.requires.row_in c.requires.column_in
