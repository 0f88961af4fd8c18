use Rattle.std.proofs.Common.{None, ◌∙◌, ◌&&◌, cond, get_or, refl, ap, ap₂}
use Rattle.std.proofs.lemmas.Bool.{eq-eqb}
use Rattle.arr_greedy.specs.Fast.{amount, covers}
use Rattle.arr_greedy.proofs.pricing.price_pair.Goals as goal

pub returns-clause-priced : goal.returns-clause-priced
returns-clause-priced c keys told merges =
    let a = c.args in
    let put = c.put_amount.ensures.put a.left a.right c.requires.left_in c.requires.right_in
    ∙ ap₂ (λ s t. cond (s && t) c.pair_saving-saving.result (amount a.saved.now a.width a.left a.right)) (eq-eqb a.left a.left refl) (eq-eqb a.right a.right refl) in
    (put ∙ c.pair_saving-saving.ensures, ap (covers (get_or c.raise.new.bounds a.left None)) put ∙ c.raise.ensures.raised)
