use Rattle.std.proofs.Common.{◌<◌, sym, subst}
use Rattle.std.proofs.lemmas.Bool.{ltb-true}
use Rattle.arr_view.specs.Views.{positions}
use Rattle.arr_store.specs.Cells.{size_at}
use Rattle.arr_store.specs.Stored.{cells}
use Rattle.arr_loop.proofs.Moves.{place_inside}
use Rattle.arr_loop.proofs.computing.view_number.Goals as goal

pub load-requires-clause-there : goal.load-requires-clause-there
load-requires-clause-there c =
    let v = c.args.view.now in
    subst (λ b. c.element.result < size_at (cells c.args.store.now b)) (sym c.base.ensures.value)
    (subst (λ e. e < size_at (cells c.args.store.now v.base)) (sym c.element.ensures.value)
    (place_inside v c.args.position (cells c.args.store.now v.base) c.base.ensures.lawful c.requires.inside (ltb-true c.args.position (positions v.lengths) c.requires.there)))
