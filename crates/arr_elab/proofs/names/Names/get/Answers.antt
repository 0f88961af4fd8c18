use Rattle.std.proofs.Common.{rules}
use Rattle.arr_elab.proofs.Named.{found}
use Rattle.arr_elab.proofs.names.Names.get.Goals as goal

pub returns-in_err-get : goal.returns-in_err-get
returns-in_err-get c = search (rules, found c.args.name.now c.self.inside.arrays.entries)

pub returns : goal.returns
returns c = search (rules, found c.args.name.now c.self.inside.arrays.entries)
