-- The laws of a search.
use Rattle.std.proofs.Common.{◌≡◌, true, not, ◌&&◌, refl, sym, ap, ◌∙◌, subst, arith}
use Rattle.std.specs.Prelude.{nat_lt, ◌==◌}
use Rattle.std.proofs.lemmas.Bool.{and_parts, and_from, not-true, eqb-true, true≢false}
use Rattle.arr_ops.proofs.Tests.{or_cases}
use Rattle.arr_law.specs.declared.fact.Fact.TheVariants.{Same, Apart, Before}
use Rattle.arr_law.specs.Problem.{Problem, is_op, is_pair}
use Rattle.arr_law.specs.Facts.{root_facts}
use Rattle.arr_law.specs.Settled.{IsProper}
use Rattle.arr_law.specs.Floor.{IsSymmetric}
use Rattle.arr_law.specs.ProblemOf.{problem_of}
use Rattle.arr_law.proofs.Lists.{floors_low}
use Rattle.arr_law.proofs.Proper.{proper}
use Rattle.arr_state.specs.Known.{after}
use Rattle.arr_search.specs.Laws.{PlansPay, Starts, Improves, Branches, Dies, Leaves, Finishes, FindsClosure, StepsAreFew}
use Rattle.arr_search.proofs.Counts.{missing-most}
use Rattle.arr_search.proofs.Stepped.{stepped}
use Rattle.arr_search.proofs.Running.{started, branched, ended, leafed, finished, cheapened}

-- two operations that may not share a block may not the other way round either
pub root_symmetric : (problem : Problem) → IsProper problem → IsSymmetric (root_facts problem)
root_symmetric problem proper (Same f g) y e k = absurd (true≢false (sym k))
root_symmetric problem proper (Apart f g) (Apart h k) e r =
    or_cases ((f == h) && (g == k)) ((f == k) && (g == h)) e
    (λ s. let p = and_parts (f == h) (g == k) s in subst (λ x. root_facts problem (Apart x k) ≡ true) (eqb-true f h p.0) (subst (λ x. root_facts problem (Apart f x) ≡ true) (eqb-true g k p.1) r))
    (λ s. let p = and_parts (f == k) (g == h) s in subst (λ x. root_facts problem (Apart x k) ≡ true) (eqb-true g h p.1) (subst (λ x. root_facts problem (Apart g x) ≡ true) (eqb-true f k p.0) turned))
  where
    turned : root_facts problem (Apart g f) ≡ true
    turned =
        let p = and_parts (is_pair problem f g) (not (problem.fusible f g)) r in
        and_from (is_pair problem g f) (not (problem.fusible g f)) (turned_pair p.0) (ap not (proper.even g f) ∙ p.1)
      where
        turned_pair : is_pair problem f g ≡ true → is_pair problem g f ≡ true
        turned_pair e =
            let h = and_parts (is_op problem f) (is_op problem g && not (f == g)) e in
            let k = and_parts (is_op problem g) (not (f == g)) h.1 in
            and_from (is_op problem g) (is_op problem f && not (g == f)) k.0 (and_from (is_op problem f) (not (g == f)) h.0 (ap not (Rattle.std.proofs.lemmas.Bool.ne_eqb g f (λ same. Rattle.std.proofs.lemmas.Bool.eqb-false f g (not-true _ k.1) (sym same)))))
root_symmetric problem proper (Before f g) (Before h k) e r =
    let p = and_parts (f == h) (g == k) e in
    subst (λ x. root_facts problem (Before x k) ≡ true) (eqb-true f h p.0) (subst (λ x. root_facts problem (Before f x) ≡ true) (eqb-true g k p.1) r)
root_symmetric problem proper (Apart f g) (Same h k) e r = absurd (true≢false (sym e))
root_symmetric problem proper (Apart f g) (Before h k) e r = absurd (true≢false (sym e))
root_symmetric problem proper (Before f g) (Same h k) e r = absurd (true≢false (sym e))
root_symmetric problem proper (Before f g) (Apart h k) e r = absurd (true≢false (sym e))

pub plans_pay : PlansPay
plans_pay list plan formed legal facts follows = floors_low list facts formed follows plan legal

pub starts : Starts
starts list greedy budget formed pays = started (problem_of list) greedy budget (root_symmetric (problem_of list) (proper list formed)) pays

pub improves : Improves
improves problem greedy budget pending tree units least cost less r l pays = cheapened problem greedy budget pending tree units least cost less r l pays

pub branches : Branches
branches problem greedy budget facts pending tree steps gives units least cost f g r s may ready low room =
    let p = and_parts ((is_op problem f && is_op problem g) && nat_lt f g) _ may in
    let q = and_parts (is_op problem f && is_op problem g) (nat_lt f g) p.0 in
    let o = and_parts (is_op problem f) (is_op problem g) q.0 in
    branched problem greedy budget facts (after facts gives) pending tree steps units least cost r (stepped problem facts steps gives s) f g o.0 o.1 (and_from (nat_lt f g) _ q.1 p.1) ready low room

pub dies : Dies
dies problem greedy budget facts pending tree steps gives units least cost f g r s dead opened room =
    let p = and_parts (nat_lt f g) (after facts gives (Same f g) && after facts gives (Apart f g)) dead in
    let q = and_parts (after facts gives (Same f g)) (after facts gives (Apart f g)) p.1 in
    ended problem greedy budget facts (after facts gives) pending tree steps units least cost r (stepped problem facts steps gives s) f g p.0 q.0 q.1 opened room

pub leaves : Leaves
leaves problem greedy budget facts pending tree steps gives charges units least cost r s leaf over opened room spent why =
    leafed problem greedy budget facts (after facts gives) pending tree steps units least cost r (stepped problem facts steps gives s) charges _ cost leaf refl over (omega arith) r.pays opened room spent why

pub finishes : Finishes
finishes problem greedy budget tree units least cost r = finished problem greedy budget tree units least cost r

pub finds_closure : FindsClosure
finds_closure list steps gives formed s closed =
    let k = stepped (problem_of list) (root_facts (problem_of list)) steps gives s in
    record { roots = k.grows; closed = closed; least = λ other r sy cl. k.follows other sy cl r }

pub steps_are_few : StepsAreFew
steps_are_few problem facts steps gives s = omega (arith, (stepped problem facts steps gives s).lost, missing-most problem facts)
