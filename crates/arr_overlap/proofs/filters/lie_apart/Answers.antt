use Rattle.std.proofs.Common.{inl, inr}
use Rattle.std.proofs.lemmas.Bool.{ltb-true}
use Rattle.arr_view.specs.Views.{elements, lies}
use Rattle.arr_overlap.proofs.Apart.{apart, ranges_apart}
use Rattle.arr_overlap.proofs.filters.lie_apart.Goals as goal

pub returns-then-a-b : goal.returns-then-a-b
returns-then-a-b c v w o p told =
    apart (lies c.args.a.now.least c.args.a.now.greatest) (lies c.args.b.now.least c.args.b.now.greatest) (elements v) (elements w) o.between p.between (ranges_apart _ _ _ _ (inl c.if-a-b.true))

pub returns-else-a-b : goal.returns-else-a-b
returns-else-a-b c v w o p told =
    apart (lies c.args.a.now.least c.args.a.now.greatest) (lies c.args.b.now.least c.args.b.now.greatest) (elements v) (elements w) o.between p.between
    (ranges_apart _ _ _ _ (inr (ltb-true c.args.b.now.greatest c.args.a.now.least told)))
