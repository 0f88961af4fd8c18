-- What the blocks of a plan read and write weighs little, and they make few buffers.
use Rattle.std.proofs.Common.{◌≡◌, ℕ, suc, ◌+◌, ◌*◌, ◌≤◌, ◌^◌, List, [], ◌∷◌, ◌++◌, length, length-append, map, Bool, true, false, cond, not, arith, Option, Some, None}
use Rattle.std.proofs.Math.Nat.{mul-le-mul_left}
use Rattle.std.specs.List.{AllByRecursion, filter, flat_map}
use Rattle.std.specs.Option.{option_to_list}
use Rattle.arr_num.specs.declared.elem.Elem.{Elem}
use Rattle.arr_num.specs.declared.elem.Elem.TheVariants.{U8, I32, I64, U64}
use Rattle.arr_num.specs.Numbers.{width}
use Rattle.arr_view.specs.Strided.{Strided}
use Rattle.arr_view.specs.Views.{identical, is_view, positions}
use Rattle.arr_view.proofs.Checks.{lawful}
use Rattle.arr_ops.specs.declared.op.Op.{Op}
use Rattle.arr_ops.specs.Costs.{all_reads, all_writes, distinct, elem_of, ext, reads, total, weight, weight_of, writes}
use Rattle.arr_ops.specs.Formed.{is_formed, well_formed}
use Rattle.arr_ops.specs.Ops.{array_of, creates, freed_by, inputs, outputs, view_of, views}
use Rattle.arr_ops.specs.Plans.{is_legal, numbered, ops_of}
use Rattle.arr_ops.specs.Traffic.{buffers, created, read_bytes, write_bytes}
use Rattle.arr_ops.proofs.Pairs.{All_weaker}
use Rattle.arr_ops.proofs.Spots.{all_left, all_right, formed_of, views_of}
use Rattle.arr_loop.proofs.Blocks.{all_block, all_ops, ops_in}
use Rattle.arr_loop.specs.Opened.{buffers_for, made_by}
use Rattle.arr_loop.proofs.Made.{buffers_made}

-- ---- sums of weights

module _ (w : Strided → ℕ) where
  total_more : (xs ys : List Strided) → total w (xs ++ ys) ≡ total w xs + total w ys
  total_more [] ys = omega arith
  total_more (x ∷ xs) ys = let rest = total_more xs ys in omega arith

  total_filtered : (p : Strided → Bool) (xs : List Strided) → total w (filter p xs) ≤ total w xs
  total_filtered p [] = omega arith
  total_filtered p (x ∷ xs) =
      let rest : total w (filter p xs) ≤ total w xs = total_filtered p xs in
      elim (p x) as (λ b. total w (cond b (x ∷ filter p xs) (filter p xs)) ≤ w x + total w xs) [ true ↦ omega arith | false ↦ omega arith ]

  total_distinct : (same : Strided → Strided → Bool) (xs : List Strided) → total w (distinct same xs) ≤ total w xs
  total_distinct same [] = omega arith
  total_distinct same (x ∷ xs) =
      let rest : total w (distinct same xs) ≤ total w xs = total_distinct same xs in
      let less : total w (filter (λ v. not (same x v)) (distinct same xs)) ≤ total w (distinct same xs) = total_filtered (λ v. not (same x v)) (distinct same xs) in
      omega arith

  -- each view weighs at most k
  abbrev Light : ℕ → List Strided → Type 0
  Light k xs = AllByRecursion (λ v. w v ≤ k) xs

  total_option : (k : ℕ) (o : Option Strided) → Light k (option_to_list o) → total w (option_to_list o) ≤ k
  total_option k None h = omega arith
  total_option k (Some v) h = let here : w v ≤ k = h.0 in omega arith

  total_inputs : (k : ℕ) (op : Op) → Light k (inputs op) → total w (inputs op) ≤ 2 * k
  total_inputs k op h =
      let first = total_option k (array_of op.first) (all_left (λ v. w v ≤ k) (view_of op.first) (view_of op.second) h) in
      let second = total_option k (array_of op.second) (all_right (λ v. w v ≤ k) (view_of op.first) (view_of op.second) h) in
      let both = total_more (view_of op.first) (view_of op.second) in omega arith

  total_reads : (k : ℕ) (p : Strided → Bool) (ops : List Op) → AllByRecursion (λ (op : Op). Light k (views op)) ops → total w (flat_map (λ (op : Op). filter p (inputs op)) ops) ≤ length ops * (2 * k)
  total_reads k p [] h = omega arith
  total_reads k p (op ∷ ops) h =
      let rest = total_reads k p ops h.1 in
      let here = total_filtered p (inputs op) in
      let own = total_inputs k op (all_right (λ v. w v ≤ k) (outputs op) (inputs op) h.0) in
      let both = total_more (filter p (inputs op)) (flat_map (λ (o : Op). filter p (inputs o)) ops) in omega arith

  total_writes : (k : ℕ) (p : Strided → Bool) (ops : List Op) → AllByRecursion (λ (op : Op). Light k (views op)) ops → total w (flat_map (λ (op : Op). filter p (outputs op)) ops) ≤ length ops * k
  total_writes k p [] h = omega arith
  total_writes k p (op ∷ ops) h =
      let rest = total_writes k p ops h.1 in
      let here = total_filtered p (outputs op) in
      let own = total_option k op.out (all_left (λ v. w v ≤ k) (outputs op) (inputs op) h.0) in
      let both = total_more (filter p (outputs op)) (flat_map (λ (o : Op). filter p (outputs o)) ops) in omega arith

  reads_light : (k : ℕ) (ops : List Op) → AllByRecursion (λ (op : Op). Light k (views op)) ops → total w (reads ops) ≤ length ops * (2 * k)
  reads_light k ops h =
      let all = total_distinct identical (all_reads ops) in
      let some = total_reads k (λ (v : Strided). not (creates ops v.base)) ops h in omega arith

  pub ext_light : (k : ℕ) (ops : List Op) → AllByRecursion (λ (op : Op). Light k (views op)) ops → total w (ext ops) ≤ length ops * (3 * k)
  ext_light k ops h =
      let all = total_distinct identical (all_reads ops ++ all_writes ops) in
      let both = total_more (all_reads ops) (all_writes ops) in
      let reads = total_reads k (λ (v : Strided). not (creates ops v.base)) ops h in
      let writes = total_writes k (λ (v : Strided). not (freed_by ops v.base)) ops h in omega arith

  pub writes_light : (k : ℕ) (ops : List Op) → AllByRecursion (λ (op : Op). Light k (views op)) ops → total w (writes ops) ≤ length ops * k
  writes_light k ops h =
      let all = total_distinct identical (all_writes ops) in
      let some = total_writes k (λ (v : Strided). not (freed_by ops v.base)) ops h in omega arith

-- ---- a view weighs at most 8 MiB

small_width : (t : Elem) → width t ≤ 8
small_width U8 = omega arith
small_width I32 = omega arith
small_width I64 = omega arith
small_width U64 = omega arith

small_weight : (t : Elem) (v : Strided) → is_view v ≡ true → weight_of t v ≤ 8388608
small_weight t v h =
    let few : positions v.lengths ≤ 1048576 = (lawful v h).size in
    let wide : positions v.lengths * width t ≤ positions v.lengths * 8 = mul-le-mul_left (positions v.lengths) (small_width t) in
    omega arith

pub light_views : (list : List Op) (op : Op) → well_formed op ≡ true → AllByRecursion (λ v. weight list v ≤ 8388608) (views op)
light_views list op h = All_weaker (λ v. is_view v ≡ true) (λ v. weight list v ≤ 8388608) (λ v k. small_weight (elem_of list v.base) v k) (views op) (views_of op h)

light_block : (list : List Op) (block : List ℕ) → is_formed list ≡ true → AllByRecursion (λ op. AllByRecursion (λ v. weight list v ≤ 8388608) (views op)) (ops_of (numbered list) block)
light_block list block h =
    all_block (λ op. AllByRecursion (λ v. weight list v ≤ 8388608) (views op)) list block
    (All_weaker (λ op. well_formed op ≡ true) (λ op. AllByRecursion (λ v. weight list v ≤ 8388608) (views op)) (λ op k. light_views list op k) list (formed_of list h).well)

few_reads : (list : List Op) (plan : List (List ℕ)) → is_formed list ≡ true → total (read_bytes list) plan ≤ ops_in list plan * 16777216
few_reads list [] h = omega arith
few_reads list (block ∷ plan) h =
    let rest : total (read_bytes list) plan ≤ ops_in list plan * 16777216 = few_reads list plan h in
    let here : read_bytes list block ≤ length (ops_of (numbered list) block) * (2 * 8388608) = reads_light (weight list) 8388608 (ops_of (numbered list) block) (light_block list block h) in
    omega arith

few_writes : (list : List Op) (plan : List (List ℕ)) → is_formed list ≡ true → total (write_bytes list) plan ≤ ops_in list plan * 8388608
few_writes list [] h = omega arith
few_writes list (block ∷ plan) h =
    let rest : total (write_bytes list) plan ≤ ops_in list plan * 8388608 = few_writes list plan h in
    let here : write_bytes list block ≤ length (ops_of (numbered list) block) * 8388608 = writes_light (weight list) 8388608 (ops_of (numbered list) block) (light_block list block h) in
    omega arith

-- ---- buffers

filter_few : {X : Type 0} (p : X → Bool) (xs : List X) → length (filter p xs) ≤ length xs
filter_few p [] = omega arith
filter_few p (x ∷ xs) =
    let rest : length (filter p xs) ≤ length xs = filter_few p xs in
    elim (p x) as (λ b. length (cond b (x ∷ filter p xs) (filter p xs)) ≤ suc (length xs)) [ true ↦ omega arith | false ↦ omega arith ]

made_few : (makes : Bool) (o : Option Strided) → length (map (λ (v : Strided). v.base) (filter (λ _. makes) (option_to_list o))) ≤ 1
made_few makes None = omega arith
made_few true (Some v) = omega arith
made_few false (Some v) = omega arith

created_few : (ops : List Op) → length (created ops) ≤ length ops
created_few [] = omega arith
created_few (op ∷ ops) =
    let rest : length (created ops) ≤ length ops = created_few ops in
    let here : length (made_by op) ≤ 1 = made_few op.makes op.out in
    let both : length (made_by op ++ created ops) ≡ length (made_by op) + length (created ops) = length-append (made_by op) (created ops) in
    omega arith

-- ---- over a legal plan

pub record Small (list : List Op) (plan : List (List ℕ)) : Type 0 where
  pub loads : total (read_bytes list) plan ≤ 2 ^ 32
  pub stores : total (write_bytes list) plan ≤ 2 ^ 32
  pub made : total (buffers_for list) plan ≤ 2 ^ 32
  pub buffers : buffers list plan ≤ 2 ^ 32

pub plan_small : (list : List Op) (plan : List (List ℕ)) → is_formed list ≡ true → is_legal list plan ≡ true → length list ≤ 256 → Small list plan
plan_small list plan formed legal few =
    let count : ops_in list plan ≡ length list = all_ops list plan legal in
    let r = few_reads list plan formed in
    let w = few_writes list plan formed in
    let b : total (buffers_for list) plan ≡ buffers list plan = buffers_made list plan formed legal in
    let m = created_few list in
    let k : buffers list plan ≤ length (created list) = filter_few _ (created list) in
    record { loads = omega arith; stores = omega arith; made = omega arith; buffers = omega arith }
