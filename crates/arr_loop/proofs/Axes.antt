-- The results of scans and reductions, number by number.
use Rattle.std.proofs.Common.{◌≡◌, ℕ, ◌+◌, ◌-◌, ◌*◌, ◌/◌, ◌%◌, ◌<◌, ◌≤◌, suc, zero, ℤ, pos, List, [], ◌∷◌, ◌++◌, true, false, cond, not, ◌||◌, add-one, Option, Some, None, length, get_or, map, take, refl, ap, ap₂, sym, subst, ◌∙◌, arith}
use Rattle.std.proofs.Math.Nat.{div-add-mod, div-lt_iff_lt-mul, mod-eq_of_lt, mod-lt, mul_assoc, mul-le-mul_right, le-mul_of_pos_right}
use Rattle.std.specs.Prelude.{◌==◌}
use Rattle.std.specs.List.{AllByRecursion, range_with_len}
use Rattle.std.specs.Option.{option_to_list}
use Rattle.std.proofs.lemmas.Bool.{eq-eqb, false≢true, ne_eqb, true≢false}
use Rattle.std.proofs.lemmas.Nat.{mul-le}
use Rattle.std.proofs.lemmas.List.FromFn.{get_or-map-range_with_len}
use Rattle.arr_num.specs.declared.elem.Elem.{Elem}
use Rattle.arr_num.specs.declared.elem.Elem.TheVariants.{U8, I32, I64, U64}
use Rattle.arr_num.specs.Kinds.{Kind, Reduction, Scan, folds, is_fold, is_reduction, kind, scans}
use Rattle.arr_num.specs.Numbers.{fold_start, in_type, value, width}
use Rattle.arr_view.specs.Strided.{Strided}
use Rattle.arr_view.specs.Views.{elements, identical, is_view, positions}
use Rattle.arr_ops.specs.declared.op.Op.{Op}
use Rattle.arr_ops.specs.declared.op.Operand.TheVariants.{Array}
use Rattle.arr_ops.specs.Costs.{distinct}
use Rattle.arr_ops.specs.Fits.{meets_need, op_fits}
use Rattle.arr_ops.specs.Formed.{well_formed}
use Rattle.arr_ops.specs.Memory.{Memory, computed, lengths_of, or_zero, out_lengths, read, without_slots}
use Rattle.arr_ops.specs.Ops.{array_of, inputs, view_of}
use Rattle.arr_ops.specs.Traffic.{axis_length}
use Rattle.arr_ops.proofs.Lengths.{positions_at}
use Rattle.arr_ops.proofs.Parts.{length-elements}
use Rattle.arr_machine.proofs.Few.{few_positions}
use Rattle.arr_loop.proofs.Needs.{input_inside, input_need, input_typed, inputs_met}
use Rattle.arr_ops.proofs.Spots.{Plain, all_left, operands_of}
use Rattle.arr_ops.proofs.Typed.{Computes, computed_in, get_in}
use Rattle.arr_store.specs.Cells.{width_at}
use Rattle.arr_store.proofs.Pages.{passes}
use Rattle.arr_strips.specs.Columns.{Columns, column_of, count, fold_upto, look, results_at, scan_at, taken}
use Rattle.arr_strips.proofs.Carries.{scan_step}
use Rattle.arr_strips.proofs.Folds.{folded_at, spot_of, upto_same}
use Rattle.arr_strips.proofs.Sorts.{Filling, Reducing, sorts}
use Rattle.arr_strips.proofs.Values.{Columnar, Folding, HeldAll, get_or-read, length-read}
use Rattle.arr_machine.specs.Kept.{inner_of}
use Rattle.arr_machine.proofs.Axes.{axis_inside_it, axis_kept, input_view, second_kept, some_at}
use Rattle.arr_loop.specs.Numbers.{loads_each, row_at, lie_inside}
use Rattle.arr_loop.proofs.Elements.{width_met}

fold_computes : (k : Kind) → (folds k || scans k) ≡ true → Computes k
fold_computes Reduction h = tt
fold_computes Scan h = tt
fold_computes _ h = absurd (false≢true h)

-- behind the first row there is a row before
pub row_before : (p inner n : ℕ) → 0 < inner → 0 < n → (p / inner % n ≡ 0 → ⊥) → inner ≤ p
row_before p inner n some rows h =
    at (p / inner) refl
  where
    at : (k : ℕ) → p / inner ≡ k → inner ≤ p
    at zero e = absurd (h (ap (λ q. q % n) e ∙ mod-eq_of_lt rows))
    at (suc k) e =
        let whole : inner * (p / inner) + p % inner ≡ p = div-add-mod p inner in
        let split : inner * (p / inner) ≡ inner * k + inner = ap (λ q. inner * q) e ∙ (let d : inner * suc k ≡ inner * k + inner = omega arith in d) in
        omega arith

-- number j of the line that the result number l stands for
pub line_bound : (outer n inner l j : ℕ) → l < outer * inner → 0 < inner → j < n → (l / inner * n + j) * inner + l % inner < outer * (n * inner)
line_bound outer n inner l j below some inside =
    let o : ℕ = l / inner in
    let row : o < outer = (div-lt_iff_lt-mul {k = inner} {x = l} {y = outer} some).1 below in
    let col : l % inner < inner = mod-lt l some in
    let one : (o * n + j + 1) * inner ≡ (o * n + j) * inner + inner = omega arith in
    let next : (o + 1) * n ≡ o * n + n = omega arith in
    let rows : (o + 1) * n ≤ outer * n = mul-le-mul_right n (omega arith) in
    let all : (o * n + j + 1) * inner ≤ outer * n * inner = mul-le-mul_right inner (omega arith) in
    let e : outer * n * inner ≡ outer * (n * inner) = mul_assoc outer n inner in
    omega arith

pub some_inner : (outer inner l : ℕ) → l < outer * inner → 0 < inner
some_inner outer zero l h = absurd (let e : outer * 0 ≡ 0 = omega arith in omega arith)
some_inner outer (suc inner) l h = omega arith

module _ (m : Memory) (op : Op) (input : Strided) (well : well_formed op ≡ true) (code : is_fold op.code ≡ true) (first : op.first ≡ Some (Array input)) (fit : op_fits (without_slots m) (op ∷ []) op ≡ true) where
  f : ℤ → ℤ → ℤ
  f = value op.code op.to

  z : ℤ
  z = fold_start op.code op.to

  axis : (a : ℕ) × (op.axis ≡ Some a)
  axis = some_at op.axis (axis_kept (kind op.code) op code (operands_of op well))

  h : Columns
  h = λ p v. look m v p

  inputs_are : inputs op ≡ input ∷ []
  inputs_are = ap₂ (λ x y. view_of x ++ view_of y) first (second_kept (kind op.code) op code (operands_of op well))

  -- its numbers
  pub there : lie_inside (elements input) (m.bases input.base) ≡ true
  there = input_inside m op input axis.0 well code first axis.1 fit

  pub number_in : (p : ℕ) → p < length (elements input) → in_type op.to (row_at m.bases p input) ≡ true
  number_in p l =
      ap (in_type op.to) (sym (get_or-read (m.bases input.base) (elements input) p l))
      ∙ passes (in_type op.to) (read (m.bases input.base) (elements input)) p (pos 0) (let e : length (read (m.bases input.base) (elements input)) ≡ length (elements input) = length-read (m.bases input.base) (elements input) in omega arith)
      (input_typed m op input axis.0 well code first axis.1 fit)

  -- its results are of its type
  pub result_in : (p : ℕ) → in_type op.to (get_or (computed m op) p (pos 0)) ≡ true
  result_in p = get_in op.to (computed m op) p (computed_in m op (fold_computes (kind op.code) code))

  inside : or_zero op.axis < length (lengths_of op.first)
  inside = axis_inside_it op input well code first

  lengths_are : lengths_of op.first ≡ input.lengths
  lengths_are = ap lengths_of first

  outer : ℕ
  outer = positions (take (or_zero op.axis) (lengths_of op.first))

  whole : positions input.lengths ≡ outer * (axis_length op * inner_of op)
  unfolding outer
  whole = ap positions (sym lengths_are) ∙ positions_at (lengths_of op.first) (or_zero op.axis) inside

  width_is : width_at (m.bases input.base) ≡ width op.from
  width_is =
      let met = all_left (λ (v : Strided). meets_need (m.bases v.base) (input_need op v) ≡ true) (view_of op.first) (view_of op.second) (inputs_met m op well fit) in
      width_met (m.bases input.base) (input_need op input) ((subst (λ x. AllByRecursion (λ (v : Strided). meets_need (m.bases v.base) (input_need op v) ≡ true) (view_of x)) first met).0)

  held : (n : ℕ) → length (elements input) ≡ n → HeldAll n m h (inputs op)
  unfolding h
  held n e = subst (λ vs. HeldAll n m (λ p v. look m v p) vs) (sym inputs_are) (record { long = e; same = λ p l. refl }, tt)

  -- a scan goes on from the result one row before
  pub scan_result : kind op.code ≡ Scan → (p : ℕ) → p < positions input.lengths → length (elements input) ≡ positions input.lengths
      → get_or (computed m op) p (pos 0)
      ≡ value op.code op.to (cond (p / inner_of op % axis_length op == 0) (fold_start op.code op.to) (get_or (computed m op) (p - inner_of op) (pos 0))) (row_at m.bases p input)
  unfolding f z h outer
  scan_result k p below long =
      sorts op well filling (λ v s. absurd (true≢false (ap scans (sym k ∙ s.kind_is)))) (λ s. absurd (true≢false (ap scans (sym k ∙ s.kind_is)))) (λ o v s. absurd (true≢false (ap scans (sym k ∙ s.kind_is))))
    where
      filling : (o : Strided) → Filling op → Plain op o → get_or (computed m op) p (pos 0)
          ≡ value op.code op.to (cond (p / inner_of op % axis_length op == 0) (fold_start op.code op.to) (get_or (computed m op) (p - inner_of op) (pos 0))) (row_at m.bases p input)
      filling o fill plain =
          let n : ℕ = positions input.lengths in
          let shapes : AllByRecursion (λ (v : Strided). v.lengths ≡ o.lengths) (input ∷ []) = subst (λ vs. AllByRecursion (λ (v : Strided). v.lengths ≡ o.lengths) vs) inputs_are plain.shapes in
          let size : positions (out_lengths op.out) ≡ n = ap (λ x. positions (out_lengths x)) plain.out ∙ ap positions (sym shapes.0) in
          let col : Columnar n op = fill.columns n size in
          let g : Columns = λ p v. look m v p in
          let hold : HeldAll n m g (inputs op) = held n long in
          let at : (q : ℕ) → q < n → get_or (computed m op) q (pos 0) ≡ scan_at (value op.code op.to) (fold_start op.code op.to) (axis_length op) (inner_of op) (λ q. taken (g q) op.first) q =
          (λ q l. col.result m g hold q l ∙ ap (λ k. column_of k op g q) k) in
          at p below
          ∙ scan_step (axis_length op) (inner_of op) outer p (spot_of (axis_length op) (inner_of op) outer p (subst (λ k. p < k) whole below)) (value op.code op.to) (fold_start op.code op.to) (λ q. taken (g q) op.first)
          ∙ ap₂ (λ x y. value op.code op.to (cond (p / inner_of op % axis_length op == 0) (fold_start op.code op.to) x) y) (sym (at (p - inner_of op) (omega arith))) (ap (taken (g p)) first)

  pub scan_count : kind op.code ≡ Scan → count op ≡ positions input.lengths
  scan_count k =
      sorts op well
      (λ o fill plain.
      let shapes : AllByRecursion (λ (v : Strided). v.lengths ≡ o.lengths) (input ∷ []) = subst (λ vs. AllByRecursion (λ (v : Strided). v.lengths ≡ o.lengths) vs) inputs_are plain.shapes in
      ap (λ x. positions (out_lengths x)) plain.out ∙ ap positions (sym shapes.0))
      (λ v s. absurd (true≢false (ap scans (sym k ∙ s.kind_is)))) (λ s. absurd (true≢false (ap scans (sym k ∙ s.kind_is)))) (λ o v s. absurd (true≢false (ap scans (sym k ∙ s.kind_is))))

  -- a reduction's result is the fold of its line
  pub fold_result : kind op.code ≡ Reduction → (l : ℕ) → l < count op → length (elements input) ≡ positions input.lengths
      → get_or (computed m op) l (pos 0) ≡ fold_upto (value op.code op.to) (fold_start op.code op.to) (λ j. row_at m.bases ((l / inner_of op * axis_length op + j) * inner_of op + l % inner_of op) input) (axis_length op)
  unfolding f z h outer
  fold_result k l below long =
      sorts op well (λ o fill plain. absurd (true≢false (ap folds (sym k) ∙ fill.not_fold))) (λ v s. absurd (true≢false (ap folds (sym k ∙ s.kind_is)))) (λ s. absurd (true≢false (ap folds (sym k ∙ s.kind_is)))) reducing
    where
      reducing : (u v : Strided) → Reducing op u v → get_or (computed m op) l (pos 0)
          ≡ fold_upto (value op.code op.to) (fold_start op.code op.to) (λ j. row_at m.bases ((l / inner_of op * axis_length op + j) * inner_of op + l % inner_of op) input) (axis_length op)
      reducing u v r =
          let n : ℕ = positions input.lengths in
          let g : Columns = λ p v. look m v p in
          let inner : ℕ = inner_of op in
          let fold : Folding n op = r.folding_at n in
          let low : l < outer * inner = subst (λ k. l < k) (sym r.size) below in
          let some : 0 < inner = some_inner outer inner l low in
          let back : inner * (l / inner) + l % inner ≡ l = div-add-mod l inner in
          let turned : l / inner * inner + l % inner ≡ l = omega arith in
          let row : l / inner < outer = (div-lt_iff_lt-mul {k = inner} {x = l} {y = outer} some).1 low in
          let xs : List ℤ = map (λ p. taken (g p) op.first) (range_with_len 0 n) in
          ap (λ xs. get_or xs l (pos 0)) (fold.result m g (held n long))
          ∙ ap (λ q. get_or (results_at n op g) q (pos 0)) (sym turned)
          ∙ folded_at (value op.code op.to) (fold_start op.code op.to) (lengths_of op.first) (or_zero op.axis) xs (l / inner) (l % inner) row (mod-lt l some)
          ∙ upto_same (value op.code op.to) (fold_start op.code op.to) (λ j. get_or xs ((l / inner * axis_length op + j) * inner + l % inner) (pos 0)) (λ j. row_at m.bases ((l / inner * axis_length op + j) * inner + l % inner) input) (axis_length op)
          (λ j u.
          let q : ℕ = (l / inner * axis_length op + j) * inner + l % inner in
          let inside : q < n = subst (λ k. q < k) (sym whole) (line_bound outer (axis_length op) inner l j low some u) in
          get_or-map-range_with_len (λ p. taken (g p) op.first) 0 n q q (pos 0) inside (omega arith) ∙ ap (taken (g q)) first)

  -- where the numbers of a line stand
  pub line_inside : kind op.code ≡ Reduction → (l j : ℕ) → l < count op → j < axis_length op
      → ((l / inner_of op * axis_length op + j) * inner_of op + l % inner_of op < positions input.lengths) × (0 < inner_of op)
  unfolding outer
  line_inside k l j below inside =
      sorts op well (λ o fill plain. absurd (true≢false (ap folds (sym k) ∙ fill.not_fold))) (λ v s. absurd (true≢false (ap folds (sym k ∙ s.kind_is)))) (λ s. absurd (true≢false (ap folds (sym k ∙ s.kind_is)))) reducing
    where
      reducing : (u v : Strided) → Reducing op u v → ((l / inner_of op * axis_length op + j) * inner_of op + l % inner_of op < positions input.lengths) × (0 < inner_of op)
      reducing u v r =
          let low : l < outer * inner_of op = subst (λ k. l < k) (sym r.size) below in
          let some : 0 < inner_of op = some_inner outer (inner_of op) l low in
          (subst (λ k. (l / inner_of op * axis_length op + j) * inner_of op + l % inner_of op < k) (sym whole) (line_bound outer (axis_length op) (inner_of op) l j low some inside), some)

  -- what is loaded for one result
  pub scan_loads : kind op.code ≡ Scan → loads_each op ≡ width_at (m.bases input.base)
  scan_loads k =
      ap₂ (λ b vs. cond b (axis_length op) (length (distinct identical vs)) * width op.from) (ap folds k) inputs_are ∙ (let e : 1 * width op.from ≡ width op.from = omega arith in e) ∙ sym width_is

  pub fold_loads : kind op.code ≡ Reduction → loads_each op ≡ axis_length op * width_at (m.bases input.base)
  fold_loads k =
      ap (λ b. cond b (axis_length op) (length (distinct identical (inputs op))) * width op.from) (ap folds k) ∙ ap (λ w. axis_length op * w) (sym width_is)

  -- ---- the same for numbers of rows that the code has

  pub scan_first : kind op.code ≡ Scan → (p rows inner : ℕ) (z x : ℤ) → rows ≡ axis_length op → inner ≡ inner_of op → p < count op → length (elements input) ≡ positions input.lengths → p / inner % rows ≡ 0
      → z ≡ fold_start op.code op.to → x ≡ row_at m.bases p input → value op.code op.to z x ≡ get_or (computed m op) p (pos 0)
  scan_first k p rows inner z x r i below long row zs xs =
      let here : (p / inner_of op % axis_length op == 0) ≡ true = eq-eqb (p / inner_of op % axis_length op) 0 (ap₂ (λ a c. p / a % c) (sym i) (sym r) ∙ row) in
      ap₂ (value op.code op.to) (zs ∙ sym (ap (λ t. cond t (fold_start op.code op.to) (get_or (computed m op) (p - inner_of op) (pos 0))) here)) xs
      ∙ sym (scan_result k p (subst (λ n. p < n) (scan_count k) below) long)

  pub scan_later : kind op.code ≡ Scan → (p rows inner : ℕ) (y x : ℤ) → rows ≡ axis_length op → inner ≡ inner_of op → p < count op → length (elements input) ≡ positions input.lengths → (p / inner % rows ≡ 0 → ⊥)
      → y ≡ get_or (computed m op) (p - inner) (pos 0) → x ≡ row_at m.bases p input → value op.code op.to y x ≡ get_or (computed m op) p (pos 0)
  scan_later k p rows inner y x r i below long row ys xs =
      let here : (p / inner_of op % axis_length op == 0) ≡ false = ne_eqb (p / inner_of op % axis_length op) 0 (λ e. row (ap₂ (λ a c. p / a % c) i r ∙ e)) in
      ap₂ (value op.code op.to) (ys ∙ ap (λ a. get_or (computed m op) (p - a) (pos 0)) i ∙ sym (ap (λ t. cond t (fold_start op.code op.to) (get_or (computed m op) (p - inner_of op) (pos 0))) here)) xs
      ∙ sym (scan_result k p (subst (λ n. p < n) (scan_count k) below) long)

  pub fold_end : kind op.code ≡ Reduction → (l rows inner done : ℕ) → rows ≡ axis_length op → inner ≡ inner_of op → done ≡ rows → l < count op → length (elements input) ≡ positions input.lengths
      → fold_upto (value op.code op.to) (fold_start op.code op.to) (λ j. row_at m.bases ((l / inner * rows + j) * inner + l % inner) input) done ≡ get_or (computed m op) l (pos 0)
  fold_end k l rows inner done r i d below long =
      ap (fold_upto (value op.code op.to) (fold_start op.code op.to) (λ j. row_at m.bases ((l / inner * rows + j) * inner + l % inner) input)) d
      ∙ ap₂ (λ c a. fold_upto (value op.code op.to) (fold_start op.code op.to) (λ j. row_at m.bases ((l / a * c + j) * a + l % a) input) c) r i
      ∙ sym (fold_result k l below long)

  pub line_lies : kind op.code ≡ Reduction → (l j rows inner : ℕ) → rows ≡ axis_length op → inner ≡ inner_of op → l < count op → j < rows → (l / inner * rows + j) * inner + l % inner < positions input.lengths
  line_lies k l j rows inner r i below u =
      subst (λ a. (l / a * rows + j) * a + l % a < positions input.lengths) (sym i)
      (subst (λ c. (l / inner_of op * c + j) * inner_of op + l % inner_of op < positions input.lengths) (sym r) ((line_inside k l j below (subst (λ c. j < c) r u)).0))

-- one number more of a fold
pub fold_more : (f : ℤ → ℤ → ℤ) (z : ℤ) (g : ℕ → ℤ) (k : ℕ) → f (fold_upto f z g k) (g k) ≡ fold_upto f z g (k + 1)
fold_more f z g k = sym (ap (fold_upto f z g) (add-one k))

-- few bytes are loaded for one result
pair_few : (x y : Option Strided) → length (distinct identical (option_to_list x ++ option_to_list y)) ≤ 2
pair_few None None = omega arith
pair_few None (Some v) = omega arith
pair_few (Some v) None = omega arith
pair_few (Some v) (Some u) = elim (not (identical v u)) as (λ z. length (v ∷ cond z (u ∷ []) []) ≤ 2) [ true ↦ omega arith | false ↦ omega arith ]

small : (t : Elem) → width t ≤ 8
small U8 = omega arith
small I32 = omega arith
small I64 = omega arith
small U64 = omega arith

pub few_each : (op : Op) → axis_length op < 4294967296 → loads_each op ≤ 34359738368
few_each op l =
    let pair : length (distinct identical (inputs op)) ≤ 2 = pair_few (array_of op.first) (array_of op.second) in
    let w : width op.from ≤ 8 = small op.from in
    elim (is_reduction op.code) as (λ z. cond z (axis_length op) (length (distinct identical (inputs op))) * width op.from ≤ 34359738368) [
      | true ↦ let m : axis_length op * width op.from ≤ 4294967296 * 8 = mul-le (axis_length op) (width op.from) 4294967296 8 (omega arith) w in omega arith
      | false ↦ let m : length (distinct identical (inputs op)) * width op.from ≤ 2 * 8 = mul-le (length (distinct identical (inputs op))) (width op.from) 2 8 pair w in omega arith
    ]

-- a row of a line is one of few
pub row_few : (a j inner b n : ℕ) → 1 ≤ inner → (a + j) * inner + b < n → j < n
row_few a j inner b n some l = let e : a + j ≤ (a + j) * inner = le-mul_of_pos_right (a + j) some in omega arith

-- the facts that a call finds of a fold's input
pub record Input (m : Memory) (op : Op) (input : Strided) : Type 0 where
  pub code : is_fold op.code ≡ true
  pub long : length (elements input) ≡ positions input.lengths
  pub few : positions input.lengths ≤ 1048576
  pub numbers : (p : ℕ) → p < positions input.lengths → in_type op.to (row_at m.bases p input) ≡ true

pub input_of : (m : Memory) (op : Op) (input : Strided) → well_formed op ≡ true → is_fold op.code ≡ true → op.first ≡ Some (Array input) → op_fits (without_slots m) (op ∷ []) op ≡ true → Input m op input
input_of m op input well code first fit =
    let seen : is_view input ≡ true = input_view op input well first in
    let long : length (elements input) ≡ positions input.lengths = length-elements input seen in
    record { code = code; long = long; few = few_positions input seen; numbers = λ p l. number_in m op input well code first fit p (omega arith) }
