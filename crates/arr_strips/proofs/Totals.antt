-- At the end the accumulators are the results.
use Rattle.std.proofs.Common.{◌≡◌, ℕ, ◌+◌, ◌*◌, ◌≤◌, ◌<◌, suc, zero, ℤ, pos, List, [], ◌∷◌, ◌++◌, Bool, true, false, cond, refl, ap, ap₂, sym, ◌∙◌, subst, arith, map, length, get_or, take, drop, None}
use Rattle.std.proofs.lemmas.List.{ext_get_or}
use Rattle.std.proofs.lemmas.List.FromFn.{length-map-range_with_len, get_or-map-range_with_len}
use Rattle.std.proofs.lemmas.Bool.{false≢true}
use Rattle.std.specs.List.{AllByRecursion, range_with_len}
use Rattle.arr_view.specs.Strided.{Strided}
use Rattle.arr_view.specs.Views.{positions, is_view}
use Rattle.arr_view.proofs.Checks.{lawful}
use Rattle.arr_view.proofs.Counting.{some_position}
use Rattle.arr_num.specs.Kinds.{folds, is_reduction}
use Rattle.arr_num.specs.Numbers.{value, fold_start}
use Rattle.arr_ops.specs.declared.op.Op.{Op}
use Rattle.arr_ops.specs.Ops.{outputs, inputs, view_of}
use Rattle.arr_ops.specs.Formed.{well_formed}
use Rattle.arr_ops.specs.Memory.{lengths_of, or_zero}
use Rattle.arr_ops.proofs.Lengths.{length-folded, positions_at}
use Rattle.arr_ops.proofs.Spots.{all_right, all_two, views_of}
use Rattle.arr_strips.specs.Columns.{Columns, taken, next, folds_to, count, results_at, dropped}
use Rattle.arr_strips.specs.Strips.{Bases, kept, put_out, closed}
use Rattle.arr_strips.specs.Sums.{gathered_by, AllGathered, closed_by}
use Rattle.arr_strips.specs.Blocks.{block_shape, block_positions}
use Rattle.arr_strips.specs.Laws.{SumsEnd}
use Rattle.arr_strips.proofs.Sums.{results_gathered}
use Rattle.arr_strips.proofs.Sorts.{sorts, AtShape, one_shape, walked_reducing}
use Rattle.arr_strips.proofs.Blocks.{Block, block_of}
use Rattle.arr_strips.proofs.StripLaws.{keep_bases}

-- what a reduction in a block is
record Along (n : ℕ) (op : Op) : Type 0 where
  inside : or_zero op.axis < length (lengths_of op.first)
  whole : positions (lengths_of op.first) ≡ n
  size : positions (take (or_zero op.axis) (lengths_of op.first)) * positions (drop (suc (or_zero op.axis)) (lengths_of op.first)) ≡ count op
  long : 0 < get_or (lengths_of op.first) (or_zero op.axis) 1

middle : (a b c : ℕ) → 1 ≤ a * (b * c) → 0 < b
middle a zero c h = let e : 0 * c ≡ 0 = omega arith in let d : a * (0 * c) ≡ a * 0 = ap (λ k. a * k) e in let z : a * 0 ≡ 0 = omega arith in absurd (omega arith)
middle a (suc b) c h = omega arith

along : (shape : List ℕ) (op : Op) → well_formed op ≡ true → AtShape shape op → is_reduction op.code ≡ true → Along (positions shape) op
along shape op well at red =
    sorts op well (λ o z p. absurd (false≢true (sym z.not_fold ∙ red))) (λ v s. absurd (false≢true (sym (ap folds s.kind_is) ∙ red))) (λ s. absurd (false≢true (sym (ap folds s.kind_is) ∙ red)))
    (λ o v s.
    let here : v.lengths ≡ shape = (subst (λ (ss : List (List ℕ)). AllByRecursion (λ s. s ≡ shape) ss) (walked_reducing op o v s) at).0 in
    let ins : inputs op ≡ v ∷ [] = ap₂ (λ x y. view_of x ++ view_of y) s.first_is s.no_second in
    let seen : is_view v ≡ true = (subst (λ (vs : List Strided). AllByRecursion (λ u. is_view u ≡ true) vs) ins (all_right (λ u. is_view u ≡ true) (outputs op) (inputs op) (views_of op well))).0 in
    let lengths : lengths_of op.first ≡ v.lengths = ap lengths_of s.first_is in
    let least : 1 ≤ positions (lengths_of op.first) = subst (λ (l : List ℕ). 1 ≤ positions l) (sym lengths) (some_position v.lengths (lawful v seen).lengths) in
    record {
      inside = s.inside;
      whole = ap positions lengths ∙ ap positions here;
      size = s.size;
      long = middle (positions (take (or_zero op.axis) (lengths_of op.first))) (get_or (lengths_of op.first) (or_zero op.axis) 1) (positions (drop (suc (or_zero op.axis)) (lengths_of op.first)))
          (subst (λ k. 1 ≤ k) (positions_at (lengths_of op.first) (or_zero op.axis) s.inside) least);
    })

results_sums : (n : ℕ) (op : Op) (h : Columns) (sums : ℕ → ℤ) → Along n op → ((l : ℕ) → l < count op → sums l ≡ gathered_by op h n l) → results_at n op h ≡ map sums (range_with_len 0 (count op))
results_sums n op h sums a s =
    let left : length (results_at n op h) ≡ count op =
    length-folded (value op.code op.to) (fold_start op.code op.to) (lengths_of op.first) (or_zero op.axis) (map (λ p. taken (h p) op.first) (range_with_len 0 n)) ∙ a.size in
    ext_get_or (pos 0) (results_at n op h) (map sums (range_with_len 0 (count op))) (left ∙ sym (length-map-range_with_len sums 0 (count op)))
    (λ l u.
    let below : l < count op = omega arith in
    results_gathered n op h a.inside a.whole l (subst (λ k. l < k) (sym a.size) below) a.long ∙ sym (s l below)
    ∙ sym (get_or-map-range_with_len sums 0 (count op) l l (pos 0) below (let e : 0 + l ≡ l = omega arith in e)))

closed_is : (n : ℕ) (all ks : List Op) (k : ℕ) (sums : ℕ → ℕ → ℤ) (h : Columns) (f : Bases) → AllByRecursion (λ (op : Op). is_reduction op.code ≡ true → Along n op) ks → AllGathered n k ks h sums
    → closed n all ks h f ≡ closed_by all k ks sums f
closed_is n all [] k sums h f a s = refl
closed_is n all (op ∷ ks) k sums h f a s =
    ap (closed n all ks (next op h)) (at (is_reduction op.code) (λ red. results_sums n op h (sums k) (a.0 red) (s.0 red)))
    ∙ closed_is n all ks (suc k) sums (next op h) (put_out (kept all (folds_to op)) (map (sums k) (range_with_len 0 (count op))) f) a.1 s.1
  where
    at : (z : Bool) → (z ≡ true → results_at n op h ≡ map (sums k) (range_with_len 0 (count op)))
        → put_out (kept all (cond z op.out None)) (results_at n op h) f ≡ put_out (kept all (cond z op.out None)) (map (sums k) (range_with_len 0 (count op))) f
    at true e = ap (λ xs. put_out (kept all op.out) xs f) (e refl)
    at false e = refl

pub sums_end : SumsEnd
sums_end ops m now is fit w sums s x =
    let b : Block ops = block_of ops is in
    sym (ap (λ g. dropped ops g x)
    (closed_is (block_positions ops) ops ops 0 sums w.begun now
    (all_two (λ f. well_formed f ≡ true) (AtShape (block_shape ops)) (λ (op : Op). is_reduction op.code ≡ true → Along (block_positions ops) op) (λ f y z red. along (block_shape ops) f y z red) ops b.well
    (one_shape ops b.fuse b.well)) s))
    ∙ keep_bases ops m now is fit w x
