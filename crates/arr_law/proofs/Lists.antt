-- The laws of formed lists, from those of their problems.
use Rattle.std.proofs.Common.{◌≡◌, ℕ, ◌-◌, ◌≤◌, List, [], ◌∷◌, length, Bool, true, cond, not, ◌&&◌, ◌||◌, Option, Some, None, refl, sym, ap, ap₂, ◌∙◌, subst}
use Rattle.std.specs.Prelude.{◌==◌}
use Rattle.std.specs.List.{list_any}
use Rattle.std.proofs.lemmas.Bool.{or_left, or_right, eq-eqb}
use Rattle.arr_view.specs.Views.{has}
use Rattle.arr_ops.specs.declared.op.Op.{Op}
use Rattle.arr_ops.specs.Ops.{freed, makes_base}
use Rattle.arr_ops.specs.Plans.{is_legal, place}
use Rattle.arr_law.specs.Problem.{Problem, is_op, operations, sum_below}
use Rattle.arr_law.specs.Plans.{outside_at, charged_at, cost_at, place_in, blocks_of}
use Rattle.arr_law.specs.ProblemOf.{problem_of}
use Rattle.arr_law.specs.Floor.{floor}
use Rattle.arr_law.specs.Laws.{YesCertifies, PlansAgree, PlansSettle, FloorsAreLow}
use Rattle.arr_law.proofs.Sums.{sum_below-same}
use Rattle.arr_law.proofs.Members.{ops_are}
use Rattle.arr_law.proofs.Settles.{settles}
use Rattle.arr_law.proofs.Answers.{IsSure, yes_sure}
use Rattle.arr_law.proofs.Floors.{floor_low}
use Rattle.arr_law.proofs.Proper.{first_passes, proper}
use Rattle.arr_law.proofs.Agrees.{agrees}
use Rattle.arr_law.proofs.Legal.{place_blocks, places_legal, blocks_long}

any_same : (p q : ℕ → Bool) (xs : List ℕ) → ((x : ℕ) → has xs x ≡ true → p x ≡ q x) → list_any p xs ≡ list_any q xs
any_same p q [] h = refl
any_same p q (x ∷ xs) h = ap₂ (λ a b. a || b) (h x (or_left (x == x) (has xs x) (eq-eqb x x refl))) (any_same p q xs (λ y k. h y (or_right (y == x) (has xs y) k)))

-- places that agree on the operations of the list cost the same
module _ (list : List Op) (at to : ℕ → ℕ) (same : (f : ℕ) → is_op (problem_of list) f ≡ true → at f ≡ to f) where
  outside_same : (k : ℕ) (o : Option ℕ) → ((g : ℕ) → o ≡ Some g → is_op (problem_of list) g ≡ true) → outside_at at k o ≡ outside_at to k o
  outside_same k None h = refl
  outside_same k (Some g) h = ap (λ m. not (m == k)) (same g (h g refl))

  charged_same : (k c : ℕ) → charged_at (problem_of list) at k c ≡ charged_at (problem_of list) to k c
  charged_same k c =
      let P : Problem = problem_of list in
      ap₂ (λ a b. a || b)
      (ap₂ (λ a b. a && b)
      (any_same (λ f. (at f == k) && P.reads f c) (λ f. (to f == k) && P.reads f c) (operations P) (λ f h. ap (λ m. (m == k) && P.reads f c) (same f (ops_are P f h))))
      (outside_same k (P.creator (P.base c)) (λ g e. (first_passes (λ op. makes_base op (P.base c)) list g e).0)))
      (ap₂ (λ a b. a && b)
      (any_same (λ f. (at f == k) && P.writes f c) (λ f. (to f == k) && P.writes f c) (operations P) (λ f h. ap (λ m. (m == k) && P.writes f c) (same f (ops_are P f h))))
      (outside_same k (P.freer (P.base c)) (λ g e. (first_passes (λ op. has (freed op) (P.base c)) list g e).0)))

  cost_same : (blocks : ℕ) → cost_at (problem_of list) at blocks ≡ cost_at (problem_of list) to blocks
  cost_same blocks =
      let P : Problem = problem_of list in
      sum_below-same (λ k. sum_below (λ c. cond (charged_at P at k c) (P.weight c) 0) P.classes) (λ k. sum_below (λ c. cond (charged_at P to k c) (P.weight c) 0) P.classes) blocks
      (λ k l. sum_below-same (λ c. cond (charged_at P at k c) (P.weight c) 0) (λ c. cond (charged_at P to k c) (P.weight c) 0) P.classes
      (λ c m. ap (λ b. cond b (P.weight c) 0) (charged_same k c)))

pub plans_agree : PlansAgree
plans_agree list plan formed legal = agrees list plan formed legal

pub plans_settle : PlansSettle
plans_settle list at blocks formed legal = settles (problem_of list) (proper list formed) at blocks legal

pub floors_low : FloorsAreLow
floors_low list facts formed follows plan legal =
    let a = agrees list plan formed legal in
    subst (λ n. floor (problem_of list) facts ≤ n) a.costs (floor_low (problem_of list) (proper list formed) facts follows (place plan) (length plan) a.legal)

pub yes_certifies : YesCertifies
yes_certifies list number reading rest places spent bound formed said =
    let P : Problem = problem_of list in
    let s : IsSure P places spent bound = yes_sure P (proper list formed) number places spent bound reading rest said in
    let legal : is_legal list (blocks_of P places) ≡ true = places_legal list places s.listed s.together s.forward in
    let a = agrees list (blocks_of P places) formed legal in
    record {
      legal = legal;
      costs = sym a.costs ∙ (cost_same list (place (blocks_of P places)) (λ f. place_in places f - 1) (λ f op. place_blocks list places s.listed f op) (length (blocks_of P places)) ∙ (ap (cost_at P (λ f. place_in places f - 1)) (blocks_long list places s.listed) ∙ s.priced));
      least = λ plan fits. let b = agrees list plan formed fits in subst (λ n. bound ≤ n) b.costs (s.least (place plan) (length plan) b.legal);
    }
