use Rattle.std.proofs.Common.{rules, not}
use Rattle.std.specs.Prelude.{◌==◌}
use Rattle.std.proofs.lemmas.Fn.{filter_same}
use Rattle.arr_greedy.proofs.merging.drop_key.Goals as goal

pub returns : goal.returns
returns c = filter_same _ (λ k. not (k == c.args.key)) _ (λ x r f' k. search rules) _ _ c.retain.ensures.filtered
