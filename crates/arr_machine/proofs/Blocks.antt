-- Operations of a block one after another: their lists, where their numbers are kept, and the rooms of what folds.
use Rattle.std.proofs.Common.{◌≡◌, ◌≢◌, ℕ, zero, suc, ◌+◌, ◌*◌, ◌/◌, ◌%◌, ◌<◌, ◌≤◌, ℤ, List, [], ◌∷◌, ◌++◌, Bool, true, false, cond, ◌||◌, Option, Some, None, length, get_or, take, refl, ap, sym, subst, ◌∙◌, arith}
use Rattle.std.proofs.Math.Nat.{le-div_iff_mul-le, mod-lt, mul-le-mul_right, mul_comm}
use Rattle.std.specs.Prelude.{nat_lt}
use Rattle.std.specs.List.{AllByRecursion}
use Rattle.std.specs.Option.{option_to_list}
use Rattle.std.proofs.lemmas.Bool.{false≢true, true≢false, le-ltb, lt-ltb, ltb-false, ltb-true}
use Rattle.std.proofs.lemmas.List.{get_or_default, take_more}
use Rattle.arr_num.specs.declared.code.Code.{Code}
use Rattle.arr_num.specs.declared.code.Code.TheVariants.{Range}
use Rattle.arr_num.specs.Kinds.{folds, is_fold, is_reduction, is_scan, scans}
use Rattle.arr_view.specs.Strided.{Strided}
use Rattle.arr_view.specs.Views.{identical, positions}
use Rattle.arr_ops.specs.declared.op.Op.{Op}
use Rattle.arr_ops.specs.declared.op.Operand.{Operand}
use Rattle.arr_ops.specs.declared.op.Operand.TheVariants.{Array, Number}
use Rattle.arr_ops.specs.Costs.{total}
use Rattle.arr_ops.specs.Formed.{well_formed}
use Rattle.arr_ops.specs.Memory.{lengths_of, or_zero, out_lengths}
use Rattle.arr_ops.specs.Ops.{serial, view_of}
use Rattle.arr_ops.specs.Traffic.{axis_length, kept_for, out_positions, scratch}
use Rattle.arr_ops.proofs.Lengths.{positions_at}
use Rattle.arr_strips.specs.Columns.{Columns, Row, count, ends, first_taken, next, taken}
use Rattle.arr_strips.specs.Registers.{number_in, register_views}
use Rattle.arr_strips.specs.Strips.{loaded}
use Rattle.arr_strips.specs.Sums.{lane_number}
use Rattle.arr_strips.proofs.Folds.{Spot, spot_of}
use Rattle.arr_strips.proofs.Sorts.{AtShape, sorts, walked_plain, walked_reducing}
use Rattle.arr_sums.specs.Kept.{kept_at}
use Rattle.arr_machine.specs.Kept.{OpKept, inner_of, kept_from, outer_of}
use Rattle.arr_machine.proofs.Axes.{axis_inside_it, view_kept}

-- ---- lists

pub all_get : {X : Type 0} (P : X → Type 0) (xs : List X) (i : ℕ) (x : X) → i < length xs → x ≡ get_or xs i x → AllByRecursion P xs → P x
all_get P [] i x l e h = absurd (omega arith)
all_get P (y ∷ xs) zero x l e h = subst P (sym e) h.0
all_get P (y ∷ xs) (suc i) x l e h = all_get P xs i x (omega arith) e h.1

pub all_front : {X : Type 0} (P : X → Type 0) (i : ℕ) (xs : List X) → AllByRecursion P xs → AllByRecursion P (take i xs)
all_front P zero xs h = tt
all_front P (suc i) [] h = tt
all_front P (suc i) (x ∷ xs) h = (h.0, all_front P i xs h.1)

pub ends_end : (xs : List Op) (op : Op) (h : Columns) → ends (xs ++ op ∷ []) h ≡ next op (ends xs h)
ends_end [] op h = refl
ends_end (x ∷ xs) op h = ends_end xs op (next x h)

pub ends_more : (ops : List Op) (k : ℕ) (op : Op) (h : Columns) → k < length ops → op ≡ get_or ops k op → ends (take (k + 1) ops) h ≡ next op (ends (take k ops) h)
ends_more ops k op h l e = ap (λ xs. ends xs h) (take_more ops k op l ∙ ap (λ y. take k ops ++ y ∷ []) (sym e)) ∙ ends_end (take k ops) op h

pub total_end : {X : Type 0} (w : X → ℕ) (xs : List X) (x : X) → total w (xs ++ x ∷ []) ≡ total w xs + w x
total_end w [] x = omega arith
total_end w (y ∷ xs) x = let e : total w (xs ++ x ∷ []) ≡ total w xs + w x = total_end w xs x in omega arith

total_front : {X : Type 0} (w : X → ℕ) (i j : ℕ) (xs : List X) → i ≤ j → total w (take i xs) ≤ total w (take j xs)
total_front w zero j xs l = omega arith
total_front w (suc i) zero xs l = absurd (omega arith)
total_front w (suc i) (suc j) [] l = omega arith
total_front w (suc i) (suc j) (x ∷ xs) l = let e : total w (take i xs) ≤ total w (take j xs) = total_front w i j xs (omega arith) in omega arith

total_some : {X : Type 0} (w : X → ℕ) (i : ℕ) (xs : List X) → total w (take i xs) ≤ total w xs
total_some w zero xs = omega arith
total_some w (suc i) [] = omega arith
total_some w (suc i) (x ∷ xs) = let e : total w (take i xs) ≤ total w xs = total_some w i xs in omega arith

-- ---- where numbers are kept

pub kept_next : (ops : List Op) (k : ℕ) (op : Op) → k < length ops → op ≡ get_or ops k op → kept_from ops (k + 1) ≡ kept_from ops k + kept_for op
kept_next ops k op l e =
    let t : total kept_for (take (k + 1) ops) ≡ total kept_for (take k ops) + kept_for op = ap (total kept_for) (take_more ops k op l ∙ ap (λ y. take k ops ++ y ∷ []) (sym e)) ∙ total_end kept_for (take k ops) op in
    omega arith

-- what is kept for an earlier operation ends before what is kept for a later one begins
pub kept_apart : (ops : List Op) (j k : ℕ) (op : Op) → j < length ops → op ≡ get_or ops j op → j < k → kept_from ops j + kept_for op ≤ kept_from ops k
kept_apart ops j k op l e u =
    let a : kept_from ops (j + 1) ≡ kept_from ops j + kept_for op = kept_next ops j op l e in
    let b : total kept_for (take (j + 1) ops) ≤ total kept_for (take k ops) = total_front kept_for (j + 1) k ops (omega arith) in
    omega arith

pub kept_inside : (ops : List Op) (k : ℕ) (op : Op) → k < length ops → op ≡ get_or ops k op → kept_from ops k + kept_for op ≤ scratch ops
kept_inside ops k op l e =
    let a : kept_from ops (k + 1) ≡ kept_from ops k + kept_for op = kept_next ops k op l e in
    let b : total kept_for (take (k + 1) ops) ≤ total kept_for ops = total_some kept_for (k + 1) ops in
    omega arith

number_below : (vs : List Strided) (v : Strided) → loaded vs v ≡ true → number_in vs v < length vs
number_below [] v h = absurd (false≢true h)
number_below (w ∷ vs) v h =
    elim (identical w v) as (λ t. (t || loaded vs v) ≡ true → cond t 0 (suc (number_in vs v)) < suc (length vs)) [
      | true ↦ λ e. omega arith
      | false ↦ λ e. let l : number_in vs v < length vs = number_below vs v e in omega arith
    ] h

pub register_below : (ops : List Op) (v : Strided) → loaded (register_views ops) v ≡ true → number_in (register_views ops) v < length (register_views ops)
register_below ops v h = number_below (register_views ops) v h

-- ---- what is kept for one operation has room

total_one : (w : Strided → ℕ) (o : Strided) → total w (o ∷ []) ≡ w o
total_one w o = omega arith

pub sums_room : (op : Op) → well_formed op ≡ true → is_reduction op.code ≡ true → count op ≤ kept_for op
sums_room op well red =
    sorts op well (λ o fill plain. absurd (true≢false (sym red ∙ fill.not_fold))) (λ v s. absurd (true≢false (sym red ∙ ap folds s.kind_is))) (λ s. absurd (true≢false (sym red ∙ ap folds s.kind_is)))
    (λ o v r.
    let own : kept_for op ≡ out_positions op + cond (is_scan op.code) (out_positions op / axis_length op) 0 = ap (λ b. cond (b || serial op) (out_positions op) 0 + cond (is_scan op.code) (out_positions op / axis_length op) 0) red in
    let outs : out_positions op ≡ positions o.lengths = ap (λ x. total (λ (v : Strided). positions v.lengths) (option_to_list x)) r.out ∙ total_one (λ (v : Strided). positions v.lengths) o in
    let counts : count op ≡ positions o.lengths = ap (λ x. positions (out_lengths x)) r.out in
    omega arith)

-- ---- what folds goes along an axis of the block's shape

pub folded_shape : (shape : List ℕ) (op : Op) → well_formed op ≡ true → AtShape shape op → is_fold op.code ≡ true → positions (lengths_of op.first) ≡ positions shape
folded_shape shape op well at code =
    let v : (v : Strided) × (op.first ≡ Some (Array v)) = view_kept op well code in
    let first_view : (u : Strided) → u ≡ v.0 → positions (lengths_of op.first) ≡ positions u.lengths = (λ u e. ap (λ x. positions (lengths_of x)) v.1 ∙ ap (λ (u : Strided). positions u.lengths) (sym e)) in
    sorts op well
    (λ o fill plain.
    let here : o.lengths ≡ shape = (subst (λ (ss : List (List ℕ)). AllByRecursion (λ s. s ≡ shape) ss) (walked_plain op o fill plain.out) at).0 in
    let shapes : AllByRecursion (λ (u : Strided). u.lengths ≡ o.lengths) (view_of (Some (Array v.0)) ++ view_of op.second) = subst (λ x. AllByRecursion (λ (u : Strided). u.lengths ≡ o.lengths) (view_of x ++ view_of op.second)) v.1 plain.shapes in
    first_view v.0 refl ∙ ap positions (shapes.0 ∙ here))
    (λ u s. absurd (false≢true (sym (ap (λ k. folds k || scans k) s.kind_is) ∙ code)))
    (λ s. absurd (false≢true (sym (ap (λ k. folds k || scans k) s.kind_is) ∙ code)))
    (λ o u r.
    let here : u.lengths ≡ shape = (subst (λ (ss : List (List ℕ)). AllByRecursion (λ s. s ≡ shape) ss) (walked_reducing op o u r) at).0 in
    ap (λ x. positions (lengths_of x)) r.first_is ∙ ap positions here)

pub record Lines (n : ℕ) (op : Op) : Type 0 where
  pub whole : n ≡ outer_of op * (axis_length op * inner_of op)
  pub some_inner : 0 < inner_of op
  pub some_rows : 0 < axis_length op
  pub some_outer : 0 < outer_of op

part_left : (a b n : ℕ) → 1 ≤ n → n ≡ a * b → 0 < a
part_left zero b n l e = absurd (let z : 0 * b ≡ 0 = omega arith in omega arith)
part_left (suc a) b n l e = omega arith

part_right : (a b n : ℕ) → 1 ≤ n → n ≡ a * b → 0 < b
part_right a zero n l e = absurd (let z : a * 0 ≡ 0 = omega arith in omega arith)
part_right a (suc b) n l e = omega arith

pub lines_of_fold : (shape : List ℕ) (op : Op) → well_formed op ≡ true → AtShape shape op → is_fold op.code ≡ true → 1 ≤ positions shape → Lines (positions shape) op
lines_of_fold shape op well at code some =
    let v : (v : Strided) × (op.first ≡ Some (Array v)) = view_kept op well code in
    let outer : ℕ = positions (take (or_zero op.axis) (lengths_of op.first)) in
    let whole : positions shape ≡ outer * (axis_length op * inner_of op) = sym (folded_shape shape op well at code) ∙ positions_at (lengths_of op.first) (or_zero op.axis) (axis_inside_it op v.0 well code v.1) in
    let rest : 0 < axis_length op * inner_of op = part_right outer (axis_length op * inner_of op) (positions shape) some whole in
    record {
      whole = whole;
      some_inner = part_right (axis_length op) (inner_of op) (axis_length op * inner_of op) rest refl;
      some_rows = part_left (axis_length op) (inner_of op) (axis_length op * inner_of op) rest refl;
      some_outer = part_left outer (axis_length op * inner_of op) (positions shape) some whole;
    }

-- one result for each place in a row has room
pub carry_room : (shape : List ℕ) (op : Op) → well_formed op ≡ true → AtShape shape op → is_scan op.code ≡ true → 1 ≤ positions shape → inner_of op ≤ kept_for op
carry_room shape op well at scan some =
    let code : is_fold op.code ≡ true = or_second (is_reduction op.code) (is_scan op.code) scan in
    let r : Lines (positions shape) op = lines_of_fold shape op well at code some in
    sorts op well
    (λ o fill plain.
    let here : o.lengths ≡ shape = (subst (λ (ss : List (List ℕ)). AllByRecursion (λ s. s ≡ shape) ss) (walked_plain op o fill plain.out) at).0 in
    let own : kept_for op ≡ cond (is_reduction op.code || serial op) (out_positions op) 0 + out_positions op / axis_length op = ap (λ b. cond (is_reduction op.code || serial op) (out_positions op) 0 + cond b (out_positions op / axis_length op) 0) scan in
    let outs : out_positions op ≡ positions shape = ap (λ x. total (λ (v : Strided). positions v.lengths) (option_to_list x)) plain.out ∙ total_one (λ (v : Strided). positions v.lengths) o ∙ ap positions here in
    let turned : inner_of op * axis_length op ≡ axis_length op * inner_of op = mul_comm (inner_of op) (axis_length op) in
    let one : 1 * (axis_length op * inner_of op) ≤ outer_of op * (axis_length op * inner_of op) = mul-le-mul_right (axis_length op * inner_of op) r.some_outer in
    let same : out_positions op ≡ outer_of op * (axis_length op * inner_of op) = outs ∙ r.whole in
    let low : inner_of op * axis_length op ≤ out_positions op = omega arith in
    let enough : inner_of op ≤ out_positions op / axis_length op = (le-div_iff_mul-le {k = axis_length op} {x = inner_of op} {y = out_positions op} r.some_rows).1 low in
    omega arith)
    (λ u s. absurd (false≢true (sym (ap scans s.kind_is) ∙ scan)))
    (λ s. absurd (false≢true (sym (ap scans s.kind_is) ∙ scan)))
    (λ o u s. absurd (false≢true (sym (ap scans s.kind_is) ∙ scan)))
  where
    or_second : (a b : Bool) → b ≡ true → (a || b) ≡ true
    or_second true b h = refl
    or_second false b h = h

-- what an operation of a block keeps has room
pub record Rooms (op : Op) : Type 0 where
  pub sums : is_reduction op.code ≡ true → count op ≤ kept_for op
  pub carries : is_scan op.code ≡ true → inner_of op ≤ kept_for op
  pub inner : is_scan op.code ≡ true → 0 < inner_of op

-- numbers elsewhere change nothing that is kept for an operation
pub op_kept_same : (n off : ℕ) (op : Op) (h : Columns) (xs ys : List ℤ) → Rooms op → ((i : ℕ) → i < kept_for op → kept_at ys off i ≡ kept_at xs off i) → OpKept n off op h xs → OpKept n off op h ys
op_kept_same n off op h xs ys r same k =
    record {
      sums = λ red l u. same l (let a : count op ≤ kept_for op = r.sums red in omega arith) ∙ k.sums red l u;
      carries = λ scan q u w. same (q % inner_of op) (let a : inner_of op ≤ kept_for op = r.carries scan in let c : q % inner_of op < inner_of op = mod-lt q (r.inner scan) in omega arith) ∙ k.carries scan q u w;
    }

pub same_item : (ops : List Op) (k : ℕ) (f op : Op) → k < length ops → f ≡ get_or ops k f → op ≡ get_or ops k op → f ≡ op
same_item ops k f op l a b = a ∙ get_or_default ops k f op l ∙ sym b

pub done_other : {X : Type 0} (j k : ℕ) (a b : X) → j ≢ k → cond (nat_lt j (k + 1)) a b ≡ cond (nat_lt j k) a b
done_other j k a b ne =
    elim (nat_lt j k) as (λ t. nat_lt j k ≡ t → cond (nat_lt j (k + 1)) a b ≡ cond t a b) [
      | true ↦ λ e. ap (λ t. cond t a b) (lt-ltb j (k + 1) (let u : j < k = ltb-true j k e in omega arith))
      | false ↦ λ e. ap (λ t. cond t a b) (le-ltb j (k + 1) (let u : k ≤ j = ltb-false j k e in omega arith))
    ] refl

pub taken_alike : (r s : Row) (o : Option Operand) → AllByRecursion (λ v. r v ≡ s v) (view_of o) → taken r o ≡ taken s o
taken_alike r s None h = refl
taken_alike r s (Some (Number z)) h = refl
taken_alike r s (Some (Array v)) h = h.0

pub first_alike : (code : Code) (p : ℕ) (r s : Row) (o : Option Operand) → AllByRecursion (λ v. r v ≡ s v) (view_of o) → first_taken code p r o ≡ first_taken code p s o
first_alike Range p r s o h = refl
first_alike _ p r s o h = taken_alike r s o h

pub lane_inside : (n outer rows inner p : ℕ) → p < n → n ≡ outer * (rows * inner) → 0 < inner → 0 < rows → lane_number rows inner p < outer * inner
lane_inside n outer rows inner p l e some some_rows =
    let s : Spot rows inner outer p = spot_of rows inner outer p (subst (λ k. p < k) e l) in
    let a : p / inner / rows < outer = s.lane_of in
    let c : p % inner < inner = s.column in
    let d : (p / inner / rows + 1) * inner ≤ outer * inner = mul-le-mul_right inner (omega arith) in
    let f : (p / inner / rows + 1) * inner ≡ p / inner / rows * inner + inner = omega arith in
    omega arith

-- what stands at a place
pub item_at : {X : Type 0} (xs : List X) (k : ℕ) → k < length xs → (x : X) × (x ≡ get_or xs k x)
item_at [] k l = absurd (omega arith)
item_at (x ∷ xs) zero l = (x, refl)
item_at (x ∷ xs) (suc k) l = item_at xs k (omega arith)
