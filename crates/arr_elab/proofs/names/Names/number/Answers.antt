use Rattle.std.proofs.Common.{rules}
use Rattle.arr_elab.proofs.Named.{number_is}
use Rattle.arr_elab.proofs.names.Names.number.Goals as goal

pub returns : goal.returns
returns c = let h = number_is c.args.name.now c.self.inside.arrays.entries c.get_index_of.result c.get_index_of.ensures.index in search (rules, h)
