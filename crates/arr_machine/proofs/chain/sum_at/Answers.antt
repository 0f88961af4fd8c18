use Rattle.std.proofs.Common.{refl, ◌∙◌}
use Rattle.std.proofs.lemmas.List.{get_or_default}
use Rattle.arr_machine.proofs.chain.sum_at.Goals as goal

pub returns-in-Some : goal.returns-in-Some
returns-in-Some c = (
  c.in_ok-start.start,
  (
    c.in_ok-last.last,
    record {
      starts = record { there = c.requires; task = c.in_ok-start.ensures ∙ get_or_default c.args.tasks.now c.args.index _ _ c.requires };
      follows = c.in_ok-last.ensures;
      first = refl;
      second = refl;
      third = refl;
      to = refl;
      ends = ((c.in-Some.third, c.in-Some.fourth), (c.in-Some.ensures, (refl, (refl, refl))));
    },
  ),
)
