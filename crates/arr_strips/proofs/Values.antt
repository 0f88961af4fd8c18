-- The results of an element-wise operation and of SYNC, number by number.
use Rattle.std.proofs.Common.{◌≡◌, ℕ, ◌*◌, ◌/◌, ◌%◌, ◌≤◌, ◌<◌, suc, zero, ℤ, pos, List, [], ◌∷◌, Bool, true, false, refl, ap, ap₂, sym, ◌∙◌, subst, arith, map, length, get_or, take, drop, Option, Some, None}
use Rattle.std.proofs.lemmas.List.{ext_get_or, length-map, length-replicate, get_or-replicate}
use Rattle.std.proofs.lemmas.List.FromFn.{get_or-map-range_with_len, length-range_with_len}
use Rattle.std.proofs.lemmas.Bool.{false≢true}
use Rattle.std.specs.List.{range_with_len, AllByRecursion}
use Rattle.arr_view.specs.Strided.{Strided}
use Rattle.arr_view.specs.Views.{elements, positions}
use Rattle.arr_num.specs.Kinds.{Kind, Binary, Unary, Counting, Reduction, Scan, Printing, kind}
use Rattle.arr_num.specs.Numbers.{value, fold_start}
use Rattle.arr_num.specs.declared.code.Code.{Code}
use Rattle.arr_num.specs.declared.code.Code.TheVariants.{Range}
use Rattle.arr_num.specs.declared.elem.Elem.{Elem}
use Rattle.arr_ops.specs.declared.op.Op.{Op}
use Rattle.arr_ops.specs.declared.op.Operand.{Operand}
use Rattle.arr_ops.specs.declared.op.Operand.TheVariants.{Array, Number}
use Rattle.arr_ops.specs.Ops.{view_of, inputs}
use Rattle.arr_ops.specs.Memory.{Memory, Cell, read, operand, first_numbers, results, results_of, zip_with, computed, out_lengths, lengths_of, or_zero, folded, scanned}
use Rattle.arr_ops.proofs.Spots.{all_left, all_right}
use Rattle.arr_store.specs.Cells.{number_at}
use Rattle.arr_strips.specs.Columns.{look, Columns, taken, first_taken, column, column_of, lane_place, scan_at, count, results_at}
use Rattle.arr_ops.proofs.Lengths.{length-scanned, length-folded, positions_at}
use Rattle.arr_strips.proofs.Folds.{upto_same, Spot, spot_of, lane_before, scanned_at}

-- position by position
abbrev pub zips : Kind → Bool
zips Binary = true
zips Unary = true
zips Counting = true
zips _ = false

results_zip : (k : Kind) (code : Code) (t : Elem) (lengths : List ℕ) (axis : ℕ) (xs ys : List ℤ) → zips k ≡ true → results_of k code t lengths axis xs ys ≡ zip_with (value code t) xs ys
results_zip Binary code t lengths axis xs ys h = refl
results_zip Unary code t lengths axis xs ys h = refl
results_zip Counting code t lengths axis xs ys h = refl
results_zip _ code t lengths axis xs ys h = absurd (false≢true h)

pub column_zip : (k : Kind) (op : Op) (h : Columns) (p : ℕ) → zips k ≡ true → column_of k op h p ≡ value op.code op.to (first_taken op.code p (h p) op.first) (taken (h p) op.second)
column_zip Binary op h p z = refl
column_zip Unary op h p z = refl
column_zip Counting op h p z = refl
column_zip _ op h p z = absurd (false≢true z)

pub length-zip_with : (f : ℤ → ℤ → ℤ) (xs ys : List ℤ) → length xs ≡ length ys → length (zip_with f xs ys) ≡ length xs
length-zip_with f [] ys e = refl
length-zip_with f (x ∷ xs) [] e = absurd (omega arith)
length-zip_with f (x ∷ xs) (y ∷ ys) e = ap suc (length-zip_with f xs ys (omega arith))

pub get_or-zip_with : (f : ℤ → ℤ → ℤ) (xs ys : List ℤ) (k : ℕ) (d : ℤ) → length xs ≡ length ys → k < length xs → get_or (zip_with f xs ys) k d ≡ f (get_or xs k d) (get_or ys k d)
get_or-zip_with f [] ys k d e l = absurd (omega arith)
get_or-zip_with f (x ∷ xs) [] k d e l = absurd (omega arith)
get_or-zip_with f (x ∷ xs) (y ∷ ys) zero d e l = refl
get_or-zip_with f (x ∷ xs) (y ∷ ys) (suc k) d e l = get_or-zip_with f xs ys k d (omega arith) (omega arith)

get_or-map : {X Y : Type 0} (f : X → Y) (xs : List X) (k : ℕ) (d : X) (e : Y) → k < length xs → get_or (map f xs) k e ≡ f (get_or xs k d)
get_or-map f [] k d e l = absurd (omega arith)
get_or-map f (x ∷ xs) zero d e l = refl
get_or-map f (x ∷ xs) (suc k) d e l = get_or-map f xs k d e (omega arith)

pub get_or-read : (c : Option Cell) (es : List ℕ) (k : ℕ) → k < length es → get_or (read c es) k (pos 0) ≡ number_at c (get_or es k 0)
get_or-read None es k l = get_or-map (λ p. pos 0) es k 0 (pos 0) l
get_or-read (Some c) es k l = get_or-map (λ p. get_or c.numbers p (pos 0)) es k 0 (pos 0) l

pub length-read : (c : Option Cell) (es : List ℕ) → length (read c es) ≡ length es
length-read None es = length-map es (λ p. pos 0)
length-read (Some c) es = length-map es (λ p. get_or c.numbers p (pos 0))

module _ (n : ℕ) (m : Memory) (h : Columns) where
  -- a view whose numbers stand in its column
  pub record Held (v : Strided) : Type 0 where
    pub long : length (elements v) ≡ n
    pub same : (p : ℕ) → p < n → look m v p ≡ h p v

  abbrev pub HeldAll : List Strided → Type 0
  HeldAll vs = AllByRecursion Held vs

  pub length-operand : (o : Option Operand) → HeldAll (view_of o) → length (operand m n o) ≡ n
  length-operand None g = length-replicate n (pos 0)
  length-operand (Some (Number z)) g = length-replicate n z
  length-operand (Some (Array v)) g = length-read (m.bases v.base) (elements v) ∙ g.0.long

  pub operand_held : (o : Option Operand) → HeldAll (view_of o) → (p : ℕ) → p < n → get_or (operand m n o) p (pos 0) ≡ taken (h p) o
  operand_held None g p l = get_or-replicate n p (pos 0) (pos 0) l
  operand_held (Some (Number z)) g p l = get_or-replicate n p z (pos 0) l
  operand_held (Some (Array v)) g p l =
      let e : length (elements v) ≡ n = g.0.long in
      get_or-read (m.bases v.base) (elements v) p (omega arith) ∙ g.0.same p l

  length-first : (code : Code) (o : Option Operand) → HeldAll (view_of o) → length (first_numbers code m n o) ≡ n
  length-first Range o g = length-map (range_with_len 0 n) pos ∙ length-range_with_len 0 n
  length-first _ o g = length-operand o g

  first_held : (code : Code) (o : Option Operand) → HeldAll (view_of o) → (p : ℕ) → p < n → get_or (first_numbers code m n o) p (pos 0) ≡ first_taken code p (h p) o
  first_held Range o g p l = get_or-map-range_with_len pos 0 n p p (pos 0) l (omega arith)
  first_held _ o g p l = operand_held o g p l

  module _ (op : Op) (z : zips (kind op.code) ≡ true) (size : positions (out_lengths op.out) ≡ n) (g : HeldAll (inputs op)) where
    firsts : HeldAll (view_of op.first)
    firsts = all_left Held (view_of op.first) (view_of op.second) g

    seconds : HeldAll (view_of op.second)
    seconds = all_right Held (view_of op.first) (view_of op.second) g

    zipped : computed m op ≡ zip_with (value op.code op.to) (first_numbers op.code m n op.first) (operand m n op.second)
    unfolding results
    zipped =
        results_zip (kind op.code) op.code op.to (lengths_of op.first) (or_zero op.axis) _ _ z
        ∙ ap (λ k. zip_with (value op.code op.to) (first_numbers op.code m k op.first) (operand m k op.second)) size

    level : length (first_numbers op.code m n op.first) ≡ length (operand m n op.second)
    level = length-first op.code op.first firsts ∙ sym (length-operand op.second seconds)

    pub length-zipped : length (computed m op) ≡ n
    length-zipped =
        ap length zipped ∙ length-zip_with (value op.code op.to) (first_numbers op.code m n op.first) (operand m n op.second) level
        ∙ length-first op.code op.first firsts

    pub zipped_at : (p : ℕ) → p < n → get_or (computed m op) p (pos 0) ≡ column op h p
    zipped_at p l =
        ap (λ xs. get_or xs p (pos 0)) zipped
        ∙ get_or-zip_with (value op.code op.to) (first_numbers op.code m n op.first) (operand m n op.second) p (pos 0) level
        (let e : length (first_numbers op.code m n op.first) ≡ n = length-first op.code op.first firsts in omega arith)
        ∙ ap₂ (value op.code op.to) (first_held op.code op.first firsts p l) (operand_held op.second seconds p l)
        ∙ sym (column_zip (kind op.code) op h p z)

-- ---- SYNC

results_shown : (k : Kind) (code : Code) (t : Elem) (lengths : List ℕ) (axis : ℕ) (xs ys : List ℤ) → k ≡ Printing → results_of k code t lengths axis xs ys ≡ xs
results_shown k code t lengths axis xs ys e = ap (λ k. results_of k code t lengths axis xs ys) e

not_range : (code : Code) (m : Memory) (n : ℕ) (o : Option Operand) → kind code ≡ Printing → first_numbers code m n o ≡ operand m n o
not_range Range m n o e = absurd (cc)
not_range _ m n o e = refl

pub shown_is : (m : Memory) (op : Op) (v : Strided) → kind op.code ≡ Printing → op.first ≡ Some (Array v) → computed m op ≡ read (m.bases v.base) (elements v)
unfolding results
shown_is m op v e f =
    results_shown (kind op.code) op.code op.to (lengths_of op.first) (or_zero op.axis) _ _ e
    ∙ not_range op.code m (positions (out_lengths op.out)) op.first e ∙ ap (operand m (positions (out_lengths op.out))) f

-- ---- operations that fill a column

-- its results are its column, number by number, and what it computes at a position comes from that position and those before it
pub record Columnar (n : ℕ) (op : Op) : Type 0 where
  pub counted : (m : Memory) (h : Columns) → HeldAll n m h (inputs op) → length (computed m op) ≡ n
  pub result : (m : Memory) (h : Columns) → HeldAll n m h (inputs op) → (p : ℕ) → p < n → get_or (computed m op) p (pos 0) ≡ column op h p
  pub local : (h g : Columns) (p : ℕ) → p < n → ((j : ℕ) → j ≤ p → h j ≡ g j) → column op h p ≡ column op g p

pub zip_columnar : (n : ℕ) (op : Op) → zips (kind op.code) ≡ true → positions (out_lengths op.out) ≡ n → Columnar n op
zip_columnar n op z size =
    record {
      counted = λ m h g. length-zipped n m h op z size g;
      result = λ m h g p l. zipped_at n m h op z size g p l;
      local = λ h g p l e.
          column_zip (kind op.code) op h p z ∙ ap (λ r. value op.code op.to (first_taken op.code p r op.first) (taken r op.second)) (e p (omega arith)) ∙ sym (column_zip (kind op.code) op g p z);
    }

results_scan : (k : Kind) (code : Code) (t : Elem) (lengths : List ℕ) (axis : ℕ) (xs ys : List ℤ) → k ≡ Scan → results_of k code t lengths axis xs ys ≡ scanned (value code t) (fold_start code t) lengths axis xs
results_scan k code t lengths axis xs ys e = ap (λ k. results_of k code t lengths axis xs ys) e

scan_first : (code : Code) (m : Memory) (n : ℕ) (o : Option Operand) → kind code ≡ Scan → first_numbers code m n o ≡ operand m n o
scan_first Range m n o e = absurd (cc)
scan_first _ m n o e = refl

pub scan_columnar : (n : ℕ) (op : Op) (v : Strided) (axis : ℕ) → kind op.code ≡ Scan → op.first ≡ Some (Array v) → op.axis ≡ Some axis → axis < length v.lengths → positions v.lengths ≡ n
    → positions (out_lengths op.out) ≡ n → Columnar n op
unfolding results
scan_columnar n op v axis k first ax inside shape size =
    record {
      counted = λ m h g. ap length (is m) ∙ length-scanned (value op.code op.to) (fold_start op.code op.to) v.lengths axis (operand m n op.first) inside ∙ shape;
      result = λ m h g p l.
          ap (λ xs. get_or xs p (pos 0)) (is m)
          ∙ scanned_at (value op.code op.to) (fold_start op.code op.to) v.lengths axis (operand m n op.first) (λ q. taken (h q) op.first) p inside (subst (λ k. p < k) (sym shape) l)
          (λ q u. operand_held n m h op.first (all_left (Held n m h) (view_of op.first) (view_of op.second) g) q (omega arith))
          ∙ sym (scans h p);
      local = λ h g p l e.
          let s : Spot (get_or v.lengths axis 1) (positions (drop (suc axis) v.lengths)) (positions (take axis v.lengths)) p = spot_of (get_or v.lengths axis 1) (positions (drop (suc axis) v.lengths)) (positions (take axis v.lengths)) p
          (subst (λ k. p < k) (sym shape ∙ positions_at v.lengths axis inside) l) in
          scans h p
          ∙ upto_same (value op.code op.to) (fold_start op.code op.to) (λ j. taken (h (lane_place (get_or v.lengths axis 1) (positions (drop (suc axis) v.lengths)) p j)) op.first)
          (λ j. taken (g (lane_place (get_or v.lengths axis 1) (positions (drop (suc axis) v.lengths)) p j)) op.first) (suc (p / positions (drop (suc axis) v.lengths) % get_or v.lengths axis 1))
          (λ j u. ap (λ r. taken r op.first) (e (lane_place (get_or v.lengths axis 1) (positions (drop (suc axis) v.lengths)) p j)
          (lane_before (get_or v.lengths axis 1) (positions (drop (suc axis) v.lengths)) (positions (take axis v.lengths)) p j s (omega arith))))
          ∙ sym (scans g p);
    }
  where
    is : (m : Memory) → computed m op ≡ scanned (value op.code op.to) (fold_start op.code op.to) v.lengths axis (operand m n op.first)
    is m =
        results_scan (kind op.code) op.code op.to (lengths_of op.first) (or_zero op.axis) _ _ k
        ∙ ap₂ (λ l a. scanned (value op.code op.to) (fold_start op.code op.to) l a (first_numbers op.code m (positions (out_lengths op.out)) op.first)) (ap lengths_of first) (ap or_zero ax)
        ∙ ap (scanned (value op.code op.to) (fold_start op.code op.to) v.lengths axis) (scan_first op.code m (positions (out_lengths op.out)) op.first k ∙ ap (λ c. operand m c op.first) size)

    scans : (h : Columns) (p : ℕ) → column op h p ≡ scan_at (value op.code op.to) (fold_start op.code op.to) (get_or v.lengths axis 1) (positions (drop (suc axis) v.lengths)) (λ q. taken (h q) op.first) p
    scans h p =
        ap (λ k. column_of k op h p) k
        ∙ ap₂ (λ l a. scan_at (value op.code op.to) (fold_start op.code op.to) (get_or l a 1) (positions (drop (suc a) l)) (λ q. taken (h q) op.first) p) (ap lengths_of first) (ap or_zero ax)

-- ---- reductions

-- its results come from the columns of its input at its point
pub record Folding (n : ℕ) (op : Op) : Type 0 where
  pub counted : (m : Memory) → length (computed m op) ≡ count op
  pub result : (m : Memory) (h : Columns) → HeldAll n m h (inputs op) → computed m op ≡ results_at n op h

results_fold : (k : Kind) (code : Code) (t : Elem) (lengths : List ℕ) (axis : ℕ) (xs ys : List ℤ) → k ≡ Reduction → results_of k code t lengths axis xs ys ≡ folded (value code t) (fold_start code t) lengths axis xs
results_fold k code t lengths axis xs ys e = ap (λ k. results_of k code t lengths axis xs ys) e

fold_first : (code : Code) (m : Memory) (n : ℕ) (o : Option Operand) → kind code ≡ Reduction → first_numbers code m n o ≡ operand m n o
fold_first Range m n o e = absurd (cc)
fold_first _ m n o e = refl

fold_is : (m : Memory) (op : Op) → kind op.code ≡ Reduction → computed m op ≡ folded (value op.code op.to) (fold_start op.code op.to) (lengths_of op.first) (or_zero op.axis) (operand m (count op) op.first)
unfolding results
fold_is m op k =
    results_fold (kind op.code) op.code op.to (lengths_of op.first) (or_zero op.axis) _ _ k
    ∙ ap (folded (value op.code op.to) (fold_start op.code op.to) (lengths_of op.first) (or_zero op.axis)) (fold_first op.code m (count op) op.first k)

-- the numbers of a view are its column
read_column : (n : ℕ) (m : Memory) (h : Columns) (k : ℕ) (o : Option Operand) (v : Strided) → o ≡ Some (Array v) → Held n m h v → operand m k o ≡ map (λ p. taken (h p) o) (range_with_len 0 n)
read_column n m h k o v e g =
    let long : length (elements v) ≡ n = g.long in
    let a : length (read (m.bases v.base) (elements v)) ≡ n = length-read (m.bases v.base) (elements v) ∙ long in
    let b : length (map (λ p. taken (h p) o) (range_with_len 0 n)) ≡ n = length-map (range_with_len 0 n) (λ p. taken (h p) o) ∙ length-range_with_len 0 n in
    ap (operand m k) e
    ∙ ext_get_or (pos 0) (read (m.bases v.base) (elements v)) (map (λ p. taken (h p) o) (range_with_len 0 n)) (a ∙ sym b)
    (λ i l.
    let below : i < n = omega arith in
    get_or-read (m.bases v.base) (elements v) i (omega arith) ∙ g.same i below ∙ ap (taken (h i)) (sym e)
    ∙ sym (get_or-map-range_with_len (λ p. taken (h p) o) 0 n i i (pos 0) below (omega arith)))

pub folding : (n : ℕ) (op : Op) (v : Strided) → kind op.code ≡ Reduction → op.first ≡ Some (Array v)
    → positions (take (or_zero op.axis) (lengths_of op.first)) * positions (drop (suc (or_zero op.axis)) (lengths_of op.first)) ≡ count op → Folding n op
folding n op v k first size =
    record {
      counted = λ m.
          ap length (fold_is m op k) ∙ length-folded (value op.code op.to) (fold_start op.code op.to) (lengths_of op.first) (or_zero op.axis) (operand m (count op) op.first) ∙ size;
      result = λ m h g.
          fold_is m op k
          ∙ ap (folded (value op.code op.to) (fold_start op.code op.to) (lengths_of op.first) (or_zero op.axis))
          (read_column n m h (count op) op.first v first (subst (λ o. HeldAll n m h (view_of o)) first (all_left (Held n m h) (view_of op.first) (view_of op.second) g)).0);
    }
