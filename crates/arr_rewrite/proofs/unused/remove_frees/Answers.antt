use Rattle.std.proofs.Common.{rules}
use Rattle.std.specs.Prelude.{not}
use Rattle.std.proofs.lemmas.Fn.{filter_same}
use Rattle.arr_rewrite.specs.NextRewrite.{frees_base}
use Rattle.arr_rewrite.proofs.unused.remove_frees.Goals as goal

pub returns : goal.returns
returns c = filter_same _ (λ f. not (frees_base f c.args.base)) _ (λ x b f' k. search rules) _ _ c.retain.ensures.filtered
