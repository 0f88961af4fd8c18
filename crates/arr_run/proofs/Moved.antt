-- What a plan loads and what it stores is each a part of what it costs.
use Rattle.std.proofs.Common.{◌≡◌, ⊎_elim, ℕ, ◌+◌, ◌<◌, ◌≤◌, List, [], ◌∷◌, ◌++◌, ◌||◌, true, false, refl, ap, ◌∙◌, arith}
use Rattle.std.specs.Prelude.{◌≢◌}
use Rattle.std.specs.List.{AllByRecursion, list_any}
use Rattle.std.proofs.lemmas.List.Folds.{list_any-append}
use Rattle.arr_view.specs.Strided.{Strided}
use Rattle.arr_view.specs.Views.{identical}
use Rattle.arr_ops.specs.declared.op.Op.{Op}
use Rattle.arr_ops.specs.Costs.{all_reads, all_writes, block_cost, cost, distinct, total, weight}
use Rattle.arr_ops.specs.Plans.{numbered, ops_of}
use Rattle.arr_ops.specs.Traffic.{read_bytes, write_bytes}
use Rattle.arr_ops.proofs.Alike.{identical_if, identical_symm, identical_trans, same_weight}
use Rattle.arr_ops.proofs.Merged.{two_cover}
use Rattle.std.proofs.lemmas.Bool.{or_left, or_right}
use Rattle.arr_heur.specs.Planners.{greedy_plan}
use Rattle.arr_rewrite.specs.NormalForm.{normal_form}
use Rattle.arr_run.specs.declared.choice.Fuse.{Fuse}
use Rattle.arr_run.specs.declared.choice.Fuse.TheVariants.{Linear, Greedy, Best}
use Rattle.arr_run.specs.declared.planning.Planned.{Planned}
use Rattle.arr_run.specs.Chosen.{IsChosen}
use Rattle.arr_run.specs.Laws.{MovesLittle, MovesWithin}

-- ---- views that are some of others

itself : (v : Strided) → identical v v ≡ true
itself v = identical_if v v (record { base = refl; lengths = refl; places = refl })

-- each is like one of them
among : (vs us : List Strided) → ((v : Strided) → list_any (identical v) vs ≡ true → list_any (identical v) us ≡ true) → AllByRecursion (λ v. (list_any (identical v) us || list_any (identical v) []) ≡ true) vs
among [] us h = tt
among (v ∷ vs) us h =
    (or_left (list_any (identical v) us) false (h v (or_left (identical v v) (list_any (identical v) vs) (itself v))), among vs us (λ w e. h w (or_right (identical w v) (list_any (identical w) vs) e)))

some_weigh : (list : List Op) (vs us : List Strided) → ((v : Strided) → list_any (identical v) vs ≡ true → list_any (identical v) us ≡ true) → total (weight list) (distinct identical vs) ≤ total (weight list) (distinct identical us)
some_weigh list vs us h =
    let c : total (weight list) (distinct identical vs) ≤ total (weight list) (distinct identical us) + total (weight list) (distinct identical []) =
    two_cover identical identical_symm identical_trans (weight list) (same_weight list) vs us [] (among vs us h) in
    omega arith

-- ---- a block, a plan

reads_cost : (list : List Op) (block : List ℕ) → read_bytes list block ≤ block_cost list block
reads_cost list block =
    let ops = ops_of (numbered list) block in
    some_weigh list (all_reads ops) (all_reads ops ++ all_writes ops) (λ v e. list_any-append (identical v) (all_reads ops) (all_writes ops) ∙ or_left (list_any (identical v) (all_reads ops)) (list_any (identical v) (all_writes ops)) e)

writes_cost : (list : List Op) (block : List ℕ) → write_bytes list block ≤ block_cost list block
writes_cost list block =
    let ops = ops_of (numbered list) block in
    some_weigh list (all_writes ops) (all_reads ops ++ all_writes ops) (λ v e. list_any-append (identical v) (all_reads ops) (all_writes ops) ∙ or_right (list_any (identical v) (all_reads ops)) (list_any (identical v) (all_writes ops)) e)

total_less : (f g : List ℕ → ℕ) → ((b : List ℕ) → f b ≤ g b) → (plan : List (List ℕ)) → total f plan ≤ total g plan
total_less f g h [] = omega arith
total_less f g h (b ∷ plan) =
    let here : f b ≤ g b = h b in
    let rest : total f plan ≤ total g plan = total_less f g h plan in
    omega arith

within_cost : (list : List Op) (plan : List (List ℕ)) → MovesWithin list plan (cost list plan)
within_cost list plan = (total_less (read_bytes list) (block_cost list) (reads_cost list) plan, total_less (write_bytes list) (block_cost list) (writes_cost list) plan)

-- ---- what the planners choose

chosen_cost : (fuse : Fuse) (list : List Op) (number budget : ℕ) (p : Planned) → fuse ≢ Linear → IsChosen fuse list number budget p → cost list p.plan ≤ cost list (greedy_plan list)
chosen_cost Linear list number budget p h c = absurd (h refl)
chosen_cost Greedy list number budget p h c = let e : cost list p.plan ≡ cost list (greedy_plan list) = ap (λ (q : Planned). cost list q.plan) c in omega arith
chosen_cost Best list number budget p h c =
    ⊎_elim (λ e. let same : cost list p.plan ≡ cost list (greedy_plan list) = ap (cost list) e in omega arith) (λ (less : cost list p.plan < cost list (greedy_plan list)). omega arith) c.best.improves

pub moves_little : MovesLittle
moves_little choice number list p is =
    let own : MovesWithin (normal_form list) p.plan (cost (normal_form list) p.plan) = within_cost (normal_form list) p.plan in (
      own,
      λ h. let least = chosen_cost choice.fuse (normal_form list) number choice.budget p h is.chosen in (let l = own.0 in omega arith, let s = own.1 in omega arith),
    )
