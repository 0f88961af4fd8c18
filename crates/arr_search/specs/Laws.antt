-- What a search may do at a node, and what it has at its end.
use Rattle.std.specs.Prelude.{◌≡◌, ℕ, ◌+◌, ◌*◌, ◌<◌, ◌≤◌, List, [], ◌∷◌, ◌++◌, ◌⊎◌, length, min, IsTrue, None}
use Rattle.arr_ops.specs.declared.op.Op.{Op}
use Rattle.arr_ops.specs.Formed.{is_formed}
use Rattle.arr_ops.specs.Plans.{is_legal}
use Rattle.arr_ops.specs.Costs.{cost}
use Rattle.arr_law.specs.declared.certificate.Certificate.{Certificate}
use Rattle.arr_law.specs.declared.charge.Charge.{Charge}
use Rattle.arr_law.specs.declared.fact.Fact.{Fact}
use Rattle.arr_law.specs.declared.fact.Fact.TheVariants.{Same, Apart}
use Rattle.arr_law.specs.declared.record.Record.{Record}
use Rattle.arr_law.specs.declared.record.Record.TheVariants.{Branch, Dead, Worth}
use Rattle.arr_law.specs.Problem.{Problem}
use Rattle.arr_law.specs.Facts.{Facts, with_fact, root_facts}
use Rattle.arr_law.specs.Leaves.{is_leaf, worth}
use Rattle.arr_law.specs.Trees.{may_branch, is_dead, walk, Whole}
use Rattle.arr_law.specs.Plans.{price}
use Rattle.arr_law.specs.Verdict.{accepts, plan_fault}
use Rattle.arr_law.specs.Floor.{floor, IsClosed, IsClosure}
use Rattle.arr_law.specs.ProblemOf.{problem_of}
use Rattle.arr_state.specs.Known.{after}
use Rattle.arr_state.specs.Steps.{Steps}
use Rattle.arr_state.specs.Went.{CanGoOn}
use Rattle.arr_search.specs.Steps.{Pays}
use Rattle.arr_search.specs.Found.{IsFound}
use Rattle.arr_search.specs.Running.{IsAmple, IsReady, Running}

-- what a legal plan costs pays for every floor
abbrev pub PlansPay : Type 0
PlansPay = (list : List Op) (plan : List (List ℕ)) → IsTrue (is_formed list) → IsTrue (is_legal list plan) → Pays (problem_of list) (cost list plan)

-- before the first node
abbrev pub Starts : Type 0
Starts =
    (list : List Op) (greedy budget : ℕ) → IsTrue (is_formed list) → Pays (problem_of list) greedy
    → Running (problem_of list) greedy budget (root_facts (problem_of list) ∷ []) [] 0 greedy greedy

-- a plan that costs less may take the place of the best so far
abbrev pub Improves : Type 0
Improves =
    (problem : Problem) (greedy budget : ℕ) (pending : List Facts) (tree : List Record) (units least cost less : ℕ)
    → Running problem greedy budget pending tree units least cost → less ≤ cost → Pays problem less
    → Running problem greedy budget pending tree units least less

-- steps, and then two subtrees
abbrev pub Branches : Type 0
Branches =
    (problem : Problem) (greedy budget : ℕ) (facts : Facts) (pending : List Facts) (tree steps : List Record) (gives : List Fact) (units least cost f g : ℕ)
    → Running problem greedy budget (facts ∷ pending) tree units least cost → Steps problem facts steps gives
    → IsTrue (may_branch problem (after facts gives) f g) → (IsAmple problem budget → IsReady problem (after facts gives))
    → floor problem (after facts gives) < cost → units + length steps + 1 ≤ budget
    → Running problem greedy budget (with_fact (Same f g) (after facts gives) ∷ with_fact (Apart f g) (after facts gives) ∷ pending)
    ((tree ++ steps) ++ Branch f g ∷ []) (units + length steps + 1) least cost

-- steps, and then a leaf that no plan reaches; steps are taken only where the floor is below the cost
abbrev pub Dies : Type 0
Dies =
    (problem : Problem) (greedy budget : ℕ) (facts : Facts) (pending : List Facts) (tree steps : List Record) (gives : List Fact) (units least cost f g : ℕ)
    → Running problem greedy budget (facts ∷ pending) tree units least cost → Steps problem facts steps gives
    → IsTrue (is_dead (after facts gives) f g) → (length steps ≡ 0) ⊎ (floor problem facts < cost) → units + length steps ≤ budget
    → Running problem greedy budget pending ((tree ++ steps) ++ Dead f g ∷ []) (units + length steps) least cost

-- steps, and then a leaf by its worth: all is known there, or it is worth the cost, or the budget is spent
abbrev pub Leaves : Type 0
Leaves =
    (problem : Problem) (greedy budget : ℕ) (facts : Facts) (pending : List Facts) (tree steps : List Record) (gives : List Fact)
    (charges : List Charge) (units least cost : ℕ)
    → Running problem greedy budget (facts ∷ pending) tree units least cost → Steps problem facts steps gives
    → IsTrue (is_leaf problem (after facts gives) charges) → floor problem (after facts gives) ≤ worth problem charges
    → (length steps ≡ 0) ⊎ (floor problem facts < cost) → units + length steps ≤ budget
    → (worth problem charges < cost → units + length steps ≡ budget)
    → IsClosed problem (after facts gives) ⊎ ((cost ≤ worth problem charges) ⊎ ((units + length steps ≡ budget) × CanGoOn problem (after facts gives)))
    → Running problem greedy budget pending ((tree ++ steps) ++ Worth charges ∷ []) (units + length steps) (min least (worth problem charges)) cost

-- once no node is left
abbrev pub Finishes : Type 0
Finishes =
    (problem : Problem) (greedy budget : ℕ) (tree : List Record) (units least cost : ℕ)
    → Running problem greedy budget [] tree units least cost → IsFound problem greedy budget cost (min cost least) units tree

-- steps from the list alone on, where no rule gives a new fact, have found the closure
abbrev pub FindsClosure : Type 0
FindsClosure =
    (list : List Op) (steps : List Record) (gives : List Fact) → IsTrue (is_formed list)
    → Steps (problem_of list) (root_facts (problem_of list)) steps gives → IsClosed (problem_of list) (after (root_facts (problem_of list)) gives)
    → IsClosure (problem_of list) (after (root_facts (problem_of list)) gives)

-- no more steps can be taken
abbrev pub StepsAreFew : Type 0
StepsAreFew =
    (problem : Problem) (facts : Facts) (steps : List Record) (gives : List Fact) → Steps problem facts steps gives
    → length steps ≤ 3 * (problem.count * problem.count)

-- a certificate with a legal plan, its cost and a tree that shows the bound is accepted
abbrev pub TreesAreAccepted : Type 0
TreesAreAccepted =
    (problem : Problem) (c : Certificate) → c.version ≡ 2 → c.count ≡ problem.count → plan_fault problem c.places ≡ None → c.cost ≡ price problem c.places
    → walk problem 2 c.bound (root_facts problem ∷ []) c.tree ≡ Whole [] → IsTrue (accepts problem c)
