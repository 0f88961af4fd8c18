use Rattle.std.proofs.Common.{rules, ◌≡◌, sym, true}
use Rattle.arr_num.specs.Types.{same_elem}
use Rattle.arr_elab.proofs.Given.{arrays_joined}
use Rattle.arr_elab.proofs.joined.arrays.Goals as goal

pub returns : goal.returns
returns c = λ s.
    let a = c.args.a in
    let b = c.args.b in
    let types : same_elem a.elem b.elem ≡ true = search rules in
    arrays_joined c.args.at c.args.code a b c.in-Ok.shape c.lengths.result.now c.lengths-2.result.now c.in-Ok-spread.x c.in-Ok-spread-2.y c.paired.result s
    (sym types) c.in-Ok.ensures c.lengths.ensures.value c.in-Ok-spread.ensures.view c.lengths-2.ensures.value c.in-Ok-spread-2.ensures.view c.paired.ensures
