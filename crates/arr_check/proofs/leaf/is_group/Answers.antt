use Rattle.std.proofs.Common.{◌∙◌, ◌<◌, sym, ap, subst, arith}
use Rattle.std.specs.Prelude.{nat_lt}
use Rattle.std.specs.List.{list_all}
use Rattle.arr_law.specs.declared.fact.Fact.TheVariants.{Apart}
use Rattle.arr_law.specs.Leaves.{class_of, surely_charges}
use Rattle.arr_law.specs.Problem.{is_op}
use Rattle.arr_law.specs.ProblemOf.{problem_of}
use Rattle.arr_ops.specs.Formed.{all_pairs}
use Rattle.arr_check.specs.Known.{known_of}
use Rattle.arr_check.proofs.Loops.{group_unless, group_when, pairs_both}
use Rattle.std.proofs.lemmas.Bool.{lt-ltb}
use Rattle.arr_check.proofs.leaf.is_group.Goals as goal

pub returns-then-stand_apart : goal.returns-then-stand_apart
returns-then-stand_apart c =
    let P = problem_of c.args.tables.now in
    let K = known_of P c.args.known.now in
    let less : c.class_of-class.result < P.classes = subst (λ n. c.class_of-class.result < n) c.classes.ensures.value (let l : c.class_of-class.result < c.classes.result = omega (arith, c.if-class-classes.false) in l) in
    group_when (nat_lt (class_of P c.args.charge.now) P.classes) (list_all (is_op P) c.args.charge.now.ops) (all_pairs nat_lt c.args.charge.now.ops) (all_pairs (λ f g. K (Apart f g)) c.args.charge.now.ops)
    (list_all (λ f. surely_charges P K f (class_of P c.args.charge.now)) c.args.charge.now.ops) c.stand_apart.result c.all_charge.result
    (ap (λ n. nat_lt n P.classes) (sym c.class_of-class.ensures) ∙ lt-ltb c.class_of-class.result P.classes less) (sym c.all_ops.ensures ∙ c.if-not-all_ops.false)
    (c.stand_apart.ensures ∙ pairs_both nat_lt (λ f g. K (Apart f g)) c.args.charge.now.ops) c.if-stand_apart.true
    (c.all_charge.ensures ∙ ap (λ n. list_all (λ f. surely_charges P K f n) c.args.charge.now.ops) c.class_of-class.ensures)

pub returns-else-stand_apart : goal.returns-else-stand_apart
returns-else-stand_apart c =
    let P = problem_of c.args.tables.now in
    let K = known_of P c.args.known.now in
    let less : c.class_of-class.result < P.classes = subst (λ n. c.class_of-class.result < n) c.classes.ensures.value (let l : c.class_of-class.result < c.classes.result = omega (arith, c.if-class-classes.false) in l) in
    group_unless (nat_lt (class_of P c.args.charge.now) P.classes) (list_all (is_op P) c.args.charge.now.ops) (all_pairs nat_lt c.args.charge.now.ops) (all_pairs (λ f g. K (Apart f g)) c.args.charge.now.ops)
    (list_all (λ f. surely_charges P K f (class_of P c.args.charge.now)) c.args.charge.now.ops) c.stand_apart.result
    (ap (λ n. nat_lt n P.classes) (sym c.class_of-class.ensures) ∙ lt-ltb c.class_of-class.result P.classes less) (sym c.all_ops.ensures ∙ c.if-not-all_ops.false)
    (c.stand_apart.ensures ∙ pairs_both nat_lt (λ f g. K (Apart f g)) c.args.charge.now.ops) c.if-stand_apart.false
