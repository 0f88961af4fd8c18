use Rattle.std.proofs.Common.{◌≡◌, Bool, true, false, refl, ◌∙◌}
use Rattle.std.proofs.lemmas.Bool.{ne_eqb}
use Rattle.arr_ops.specs.Formed.{is_whole}
use Rattle.arr_ops.proofs.Decided.{whole_start}
use Rattle.arr_ops.proofs.formed.is_whole.Goals as goal

not_so : (b : Bool) → (b ≡ true → ⊥) → false ≡ b
not_so true f = absurd (f refl)
not_so false f = refl

pub returns-else-start-eq0 : goal.returns-else-start-eq0
returns-else-start-eq0 c =
    ne_eqb c.start.result 0 c.if-start-eq0.false ∙ not_so (is_whole c.args.view.now) (λ h. c.if-start-eq0.false (c.start.ensures.value ∙ whole_start c.args.view.now c.start.ensures.lawful h))
