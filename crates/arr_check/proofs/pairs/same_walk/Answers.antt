use Rattle.std.proofs.Common.{◌∙◌, ap, sym}
use Rattle.std.specs.Option.{option_copied}
use Rattle.arr_check.proofs.ClassTests.{both_walk, right_walks_none, walkers}
use Rattle.arr_check.proofs.pairs.same_walk.Goals as goal

pub returns-in_default-walked_view : goal.returns-in_default-walked_view
returns-in_default-walked_view c =
    right_walks_none (walkers c.args.f.now) (walkers c.args.g.now) (sym (ap option_copied c.in_default-walked_view.is) ∙ c.walked_view-2.ensures)

pub returns : goal.returns
returns c =
    c.same_shape.ensures
    ∙ both_walk (walkers c.args.f.now) (walkers c.args.g.now) c.in-Some.left.now c.in-Some-walked_view.right.now
    (sym (ap option_copied c.in-Some.is) ∙ c.walked_view.ensures) (sym (ap option_copied c.in-Some-walked_view.is) ∙ c.walked_view-2.ensures)
