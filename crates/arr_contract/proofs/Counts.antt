-- How many views a block has, and sums over its operations.
use Rattle.std.proofs.Common.{◌≡◌, ℕ, suc, ◌+◌, ◌*◌, ◌≤◌, List, [], ◌∷◌, ◌++◌, Bool, true, false, cond, not, Option, Some, None, length, length-append, refl, ap, ◌∙◌, arith}
use Rattle.std.specs.List.{enumerate_from, filter, flat_map}
use Rattle.std.specs.Option.{option_to_list}
use Rattle.arr_view.specs.Strided.{Strided}
use Rattle.arr_ops.specs.declared.op.Op.{Op}
use Rattle.arr_ops.specs.Ops.{array_of, creates, freed_by, inputs, outputs, view_of, views}
use Rattle.arr_ops.specs.Costs.{distinct, reads, total}
use Rattle.arr_ops.specs.Plans.{numbered, ops_of}
use Rattle.arr_view.specs.Views.{has, identical}
use Rattle.arr_strips.specs.Blocks.{stores}
use Rattle.arr_strips.specs.Columns.{filled, fills}

few_filtered : {X : Type 0} (p : X → Bool) (xs : List X) → length (filter p xs) ≤ length xs
few_filtered p [] = omega arith
few_filtered p (x ∷ xs) =
    let r : length (filter p xs) ≤ length xs = few_filtered p xs in
    elim (p x) as (λ b. length (cond b (x ∷ filter p xs) (filter p xs)) ≤ suc (length xs)) [ true ↦ omega arith | false ↦ omega arith ]

few_distinct : {X : Type 0} (same : X → X → Bool) (xs : List X) → length (distinct same xs) ≤ length xs
few_distinct same [] = omega arith
few_distinct same (x ∷ xs) =
    let r : length (distinct same xs) ≤ length xs = few_distinct same xs in
    let f : length (filter (λ w. not (same x w)) (distinct same xs)) ≤ length (distinct same xs) = few_filtered (λ w. not (same x w)) (distinct same xs) in
    omega arith

one_at_most : {X : Type 0} (o : Option X) → length (option_to_list o) ≤ 1
one_at_most None = omega arith
one_at_most (Some x) = omega arith

few_views : (op : Op) → length (views op) ≤ 3
few_views op =
    let out : length (outputs op) ≤ 1 = one_at_most op.out in
    let first : length (view_of op.first) ≤ 1 = one_at_most (array_of op.first) in
    let second : length (view_of op.second) ≤ 1 = one_at_most (array_of op.second) in
    let a : length (views op) ≡ length (outputs op) + length (inputs op) = length-append (outputs op) (inputs op) in
    let b : length (inputs op) ≡ length (view_of op.first) + length (view_of op.second) = length-append (view_of op.first) (view_of op.second) in
    omega arith

few_in_all : (ops : List Op) → length (flat_map views ops) ≤ 3 * length ops
few_in_all [] = omega arith
few_in_all (op ∷ ops) =
    let a : length (views op ++ flat_map views ops) ≡ length (views op) + length (flat_map views ops) = length-append (views op) (flat_map views ops) in
    let b : length (views op) ≤ 3 = few_views op in
    let c : length (flat_map views ops) ≤ 3 * length ops = few_in_all ops in
    omega arith

pub few_classes : (same : Strided → Strided → Bool) (ops : List Op) → length (distinct same (flat_map views ops)) ≤ 3 * length ops
few_classes same ops =
    let a : length (distinct same (flat_map views ops)) ≤ length (flat_map views ops) = few_distinct same (flat_map views ops) in
    let b : length (flat_map views ops) ≤ 3 * length ops = few_in_all ops in
    omega arith

-- one more operation of a sum
pub total_end : {X : Type 0} (w : X → ℕ) (xs : List X) (x : X) → total w (xs ++ x ∷ []) ≡ total w xs + w x
total_end w [] x = omega arith
total_end w (y ∷ xs) x = let r : total w (xs ++ x ∷ []) ≡ total w xs + w x = total_end w xs x in omega arith

filter_append : {X : Type 0} (p : X → Bool) (xs ys : List X) → filter p (xs ++ ys) ≡ filter p xs ++ filter p ys
filter_append p [] ys = refl
filter_append p (x ∷ xs) ys =
    elim (p x) as (λ b. cond b (x ∷ filter p (xs ++ ys)) (filter p (xs ++ ys)) ≡ cond b (x ∷ filter p xs) (filter p xs) ++ filter p ys) [
      | true ↦ ap (λ r. x ∷ r) (filter_append p xs ys)
      | false ↦ filter_append p xs ys
    ]

-- what passes of lists put one after another
pub filter_each : {X Y : Type 0} (p : Y → Bool) (f : X → List Y) (xs : List X) → filter p (flat_map f xs) ≡ flat_map (λ x. filter p (f x)) xs
filter_each p f [] = refl
filter_each p f (x ∷ xs) = filter_append p (f x) (flat_map f xs) ∙ ap (λ r. filter p (f x) ++ r) (filter_each p f xs)

-- a block has at most the operations of its list
few_of : (xs : List (ℕ × Op)) (block : List ℕ) → length (ops_of xs block) ≤ length xs
few_of [] block = omega arith
few_of (x ∷ xs) block =
    let r : length (ops_of xs block) ≤ length xs = few_of xs block in
    elim (has block x.0) as (λ b. length (cond b (x.1 ∷ ops_of xs block) (ops_of xs block)) ≤ suc (length xs)) [ true ↦ omega arith | false ↦ omega arith ]

pub long_numbered : (k : ℕ) (list : List Op) → length (enumerate_from k list) ≡ length list
long_numbered k [] = refl
long_numbered k (op ∷ list) = ap suc (long_numbered (k + 1) list)

pub few_ops : (list : List Op) (block : List ℕ) → length (ops_of (numbered list) block) ≤ length list
few_ops list block =
    let a : length (ops_of (numbered list) block) ≤ length (numbered list) = few_of (numbered list) block in
    let b : length (numbered list) ≡ length list = long_numbered 1 list in
    omega arith

few_both : {X : Type 0} (f : Op → List X) (n : ℕ) → ((op : Op) → length (f op) ≤ n) → (ops : List Op) → length (flat_map f ops) ≤ n * length ops
few_both f n few [] = omega arith
few_both f n few (op ∷ ops) =
    let a : length (f op) ≤ n = few op in
    let b : length (flat_map f ops) ≤ n * length ops = few_both f n few ops in
    let c : length (flat_map f (op ∷ ops)) ≡ length (f op) + length (flat_map f ops) = length-append (f op) (flat_map f ops) in
    let d : n * suc (length ops) ≡ n + n * length ops = omega arith in
    omega arith

pub few_reads : (ops : List Op) → length (reads ops) ≤ 3 * length ops
few_reads ops =
    let a : length (reads ops) ≤ length (flat_map (λ (op : Op). filter (λ (v : Strided). not (creates ops v.base)) (inputs op)) ops) = few_distinct identical (flat_map (λ (op : Op). filter (λ (v : Strided). not (creates ops v.base)) (inputs op)) ops) in
    let b : length (flat_map (λ (op : Op). filter (λ (v : Strided). not (creates ops v.base)) (inputs op)) ops) ≤ 3 * length ops =
    few_both (λ (op : Op). filter (λ (v : Strided). not (creates ops v.base)) (inputs op)) 3 (λ op. let f = few_filtered (λ (v : Strided). not (creates ops v.base)) (inputs op) in let g = few_inputs op in omega (arith, f, g)) ops in
    omega arith
  where
    few_inputs : (op : Op) → length (inputs op) ≤ 3
    few_inputs op =
        let first : length (view_of op.first) ≤ 1 = one_at_most (array_of op.first) in
        let second : length (view_of op.second) ≤ 1 = one_at_most (array_of op.second) in
        let b : length (inputs op) ≡ length (view_of op.first) + length (view_of op.second) = length-append (view_of op.first) (view_of op.second) in
        omega arith

pub few_stores : (ops : List Op) → length (stores ops) ≤ 3 * length ops
few_stores ops =
    let a : length (stores ops) ≤ length (flat_map (λ (op : Op). filter (λ (v : Strided). not (freed_by ops v.base)) (filled op)) ops) = few_distinct identical (flat_map (λ (op : Op). filter (λ (v : Strided). not (freed_by ops v.base)) (filled op)) ops) in
    let b : length (flat_map (λ (op : Op). filter (λ (v : Strided). not (freed_by ops v.base)) (filled op)) ops) ≤ 3 * length ops =
    few_both (λ (op : Op). filter (λ (v : Strided). not (freed_by ops v.base)) (filled op)) 3 (λ op. let f = few_filtered (λ (v : Strided). not (freed_by ops v.base)) (filled op) in let g = one_at_most (fills op) in omega (arith, f, g)) ops in
    omega arith
