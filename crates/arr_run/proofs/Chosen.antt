-- The plans that are chosen are legal, and what they cost is small.
use Rattle.std.proofs.Common.{◌≡◌, ◌⊎◌, inl, inr, ⊎_elim, ℕ, ◌+◌, ◌*◌, ◌^◌, ◌<◌, ◌≤◌, List, [], ◌∷◌, ◌++◌, length, map, sum, Bool, true, false, cond, not, refl, ap, ◌∙◌, subst, arith, Option, Some, None}
use Rattle.std.proofs.lemmas.Bool.{cases_lt}
use Rattle.std.proofs.lemmas.List.Sums.{sum-map, sum_by-cons}
use Rattle.std.specs.List.{AllByRecursion, filter, flat_map, sum_by}
use Rattle.std.specs.Option.{option_to_list}
use Rattle.arr_view.specs.Strided.{Strided}
use Rattle.arr_view.specs.Views.{identical, is_view}
use Rattle.arr_ops.specs.declared.op.Op.{Op}
use Rattle.arr_ops.specs.Costs.{all_reads, all_writes, block_cost, distinct, elem_of, ext, total, weight}
use Rattle.arr_ops.specs.Formed.{is_formed, well_formed}
use Rattle.arr_ops.specs.Ops.{array_of, creates, freed_by, inputs, outputs, view_of, views}
use Rattle.arr_ops.specs.Plans.{is_legal, numbered, ops_of}
use Rattle.arr_ops.proofs.Pairs.{All_weaker}
use Rattle.arr_ops.proofs.Spots.{all_left, all_right, formed_of, views_of}
use Rattle.arr_heur.proofs.LinearPlan.{linear_legal}
use Rattle.arr_heur.proofs.Merged.{greedy_legal}
use Rattle.arr_loop.proofs.Blocks.{all_block, all_ops, ops_in}
use Rattle.arr_loop.proofs.Bounds.{ext_light, light_views}
use Rattle.arr_cert.specs.Texts.{is_spellable}
use Rattle.arr_law.specs.declared.certificate.Certificate.{Certificate}
use Rattle.arr_search.specs.declared.found.Found.{Found}
use Rattle.arr_search.specs.Best.{IsBest}
use Rattle.arr_run.specs.declared.choice.Fuse.{Fuse}
use Rattle.arr_run.specs.declared.choice.Fuse.TheVariants.{Linear, Greedy, Best}
use Rattle.arr_run.specs.declared.planning.Planned.{Planned}
use Rattle.arr_run.specs.Chosen.{IsChosen, Searched}
use Rattle.arr_run.proofs.Stepped.{small_weight}

-- ---- what is chosen

pub chosen_legal : (fuse : Fuse) (list : List Op) (number budget : ℕ) (p : Planned) → IsChosen fuse list number budget p → is_legal list p.plan ≡ true
chosen_legal Linear list number budget p e = ap (λ (q : Planned). is_legal list q.plan) e ∙ linear_legal list
chosen_legal Greedy list number budget p e = ap (λ (q : Planned). is_legal list q.plan) e ∙ (greedy_legal list).2
chosen_legal Best list number budget p s = s.best.legal

pub certificate_spellable : (fuse : Fuse) (list : List Op) (number budget : ℕ) (p : Planned) → IsChosen fuse list number budget p → (c : Certificate) → p.certificate ≡ Some c → is_spellable c ≡ true
certificate_spellable Linear list number budget p e c is = absurd (let none : p.certificate ≡ None = ap (λ (q : Planned). q.certificate) e in cc)
certificate_spellable Greedy list number budget p e c is = absurd (let none : p.certificate ≡ None = ap (λ (q : Planned). q.certificate) e in cc)
certificate_spellable Best list number budget p s c is =
    let same : s.certificate ≡ c = let e = s.certificate_is in cc in
    subst (λ d. is_spellable d ≡ true) same s.best.certificate.spellable

-- a bound that is not the cost was found by spending the budget
optimal_or_spent : (bound cost units budget : ℕ) → bound ≤ cost → (bound < cost → units ≡ budget) → (bound ≡ cost) ⊎ (units ≡ budget)
optimal_or_spent bound cost units budget below spent = ⊎_elim (λ l. inr (spent l)) (λ l. inl (omega arith)) (cases_lt bound cost)

-- what a search finds
pub searched : (list : List Op) (number budget : ℕ) (found : Found) → IsBest list number budget found
    → Searched list number budget (record { plan = found.plan; bound = Some found.bound; units = found.units; certificate = Some found.certificate })
searched list number budget found b = record {
  bound = found.bound;
  certificate = found.certificate;
  bound_is = refl;
  certificate_is = refl;
  least = b.least;
  accepted = b.certificate.accepted;
  optimal_or_spent = subst (λ c. (found.bound ≡ c) ⊎ (found.units ≡ budget)) b.cost_is (optimal_or_spent found.bound found.cost found.units budget b.below b.shows.spent);
  best = subst (λ c. IsBest list number budget (record { plan = found.plan; cost = c; bound = found.bound; units = found.units; certificate = found.certificate })) b.cost_is b;
}

-- ---- what blocks cost

small_block : (list : List Op) (block : List ℕ) → is_formed list ≡ true → block_cost list block ≤ length (ops_of (numbered list) block) * 25165824
small_block list block h =
    ext_light (weight list) 8388608 (ops_of (numbered list) block)
    (all_block (λ op. AllByRecursion (λ v. weight list v ≤ 8388608) (views op)) list block (All_weaker (λ op. well_formed op ≡ true) (λ op. AllByRecursion (λ v. weight list v ≤ 8388608) (views op)) (λ op k. light_views list op k) list (formed_of list h).well))

small_blocks : (list : List Op) (plan : List (List ℕ)) → is_formed list ≡ true → sum_by (block_cost list) plan ≤ ops_in list plan * 25165824
small_blocks list [] h = omega arith
small_blocks list (block ∷ plan) h =
    let rest : sum_by (block_cost list) plan ≤ ops_in list plan * 25165824 = small_blocks list plan h in
    let here : block_cost list block ≤ length (ops_of (numbered list) block) * 25165824 = small_block list block h in
    let all : sum_by (block_cost list) (block ∷ plan) ≡ block_cost list block + sum_by (block_cost list) plan = sum_by-cons (block_cost list) block plan in
    omega (arith, rest, here, all)

pub small_costs : (list : List Op) (plan : List (List ℕ)) → is_formed list ≡ true → is_legal list plan ≡ true → length list ≤ 256 → sum (map (block_cost list) plan) < 2 ^ 40
small_costs list plan formed legal few =
    let most : sum_by (block_cost list) plan ≤ ops_in list plan * 25165824 = small_blocks list plan formed in
    let same : sum (map (block_cost list) plan) ≡ sum_by (block_cost list) plan = sum-map (block_cost list) plan in
    let count : ops_in list plan ≡ length list = all_ops list plan legal in omega arith
