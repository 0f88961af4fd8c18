use Rattle.std.proofs.Common.{◌≤◌, ◌∙◌, ap, sym, get_or, subst}
use Rattle.std.specs.Prelude.{◌==◌, ◌&&◌, ◌||◌, false}
use Rattle.arr_sets.specs.Numbers.{place, Pairs}
use Rattle.arr_sets.proofs.Removed.{pair_set}
use Rattle.arr_sets.proofs.numbers.Rows.set.Goals as goal

pub returns-clause-pairs : goal.returns-clause-pairs
returns-clause-pairs c x y lx ux ly uy =
    let same = ap (λ (r : Pairs). r.count) c.self.view_is in
    let low : x ≤ c.self.inside.count = subst (λ n. x ≤ n) (sym same) ux in
    let high : y ≤ c.self.inside.count = subst (λ n. y ≤ n) (sym same) uy in
    let fits : c.args.f ≤ c.self.inside.count = subst (λ n. c.args.f ≤ n) (sym same) c.requires.first_bound in
    let fits' : c.args.g ≤ c.self.inside.count = subst (λ n. c.args.g ≤ n) (sym same) c.requires.second_bound in
    ap (λ b. get_or b (place c.self.inside.count x y) false) c.insert.ensures
    ∙ pair_set c.self.inside.bits c.self.inside.count c.args.f c.args.g c.self.invariant.0 c.requires.first_least fits c.requires.second_least fits' x y lx low ly high
    ∙ ap (λ (r : Pairs). get_or r.flags (place r.count x y) false || (x == c.args.f && y == c.args.g)) c.self.view_is
