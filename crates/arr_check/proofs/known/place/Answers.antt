use Rattle.std.proofs.Common.{◌<◌, ◌+◌, ◌-◌, ◌*◌, sym, subst}
use Rattle.arr_law.specs.ProblemOf.{problem_of}
use Rattle.arr_check.proofs.Marks.{place_below}
use Rattle.arr_check.proofs.known.place.Goals as goal

pub returns-clause-within : goal.returns-clause-within
returns-clause-within c =
    subst (λ n. (c.args.f - 1) * n + (c.args.g - 1) < (problem_of c.args.tables.now).count * (problem_of c.args.tables.now).count) (sym c.count.ensures.value)
    (place_below (problem_of c.args.tables.now).count c.args.f c.args.g c.requires.first c.requires.second)
