use Rattle.arr_state.proofs.Openings.{open_ops, open_kept}
use Rattle.arr_state.proofs.opening.opened.Goals as goal

pub known_rows-requires-clause-about : goal.known_rows-requires-clause-about
known_rows-requires-clause-about c = open_ops c.args.ops.now c.requires.formed c.args.roots.now c.requires.roots

pub returns-clause-kept : goal.returns-clause-kept
returns-clause-kept c = open_kept c.args.ops.now c.requires.formed c.args.roots.now c.requires.roots c.requires.few c.new.result.items c.in_ok-known_rows.field-0.items c.new-2.result.items c.new.ensures.items c.new-2.ensures.items c.in_ok-known_rows.ensures
