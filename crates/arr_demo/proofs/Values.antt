-- What expressions of a script of the demo stand for.
use Rattle.std.proofs.Common.{◌≡◌, ℕ, ◌≤◌, pos, List, [], ◌∷◌, ◌++◌, length, map, refl, sym, ap, ap₂, arith, Bool, true, false, not, cond, ◌&&◌, ◌||◌, ◌==◌, nat_lt, nat_le, ◌∙◌, Some, None}
use Rattle.std.specs.Prelude.{Ok, Err, max}
use Rattle.std.proofs.lemmas.Bool.{and_from, le-ltb, eq-eqb}
use Rattle.arr_num.specs.declared.elem.Elem.{Elem}
use Rattle.arr_num.specs.declared.elem.Elem.TheVariants.{I64}
use Rattle.arr_num.specs.Numbers.{in_type}
use Rattle.arr_view.specs.Strided.{Strided}
use Rattle.arr_view.specs.Views.{positions, whole_view, most_elements}
use Rattle.arr_ops.specs.declared.op.Op.{Op}
use Rattle.arr_ops.specs.declared.op.Operand.TheVariants as operand
use Rattle.arr_shape.specs.declared.fault.ShapeFault.TheVariants.{ShapeMismatch, TooManyElements, AxisRange}
use Rattle.arr_shape.specs.Shapes.{broadcast, all_match, greater, padded, checked_axis, joined as joined_shape}
use Rattle.arr_shape.proofs.Shapes.{match_same, match_right}
use Rattle.arr_shape.specs.Views.{spread, all_spread, spread_strides, padded_strides}
use Rattle.arr_tree.specs.declared.refusal.Place.{Place}
use Rattle.arr_tree.specs.declared.tree.Code16.{Code16}
use Rattle.arr_tree.specs.declared.tree.Cut.{Cut}
use Rattle.arr_tree.specs.declared.tree.Expr.{Expr}
use Rattle.arr_tree.specs.Trees.{name_of, word_at, literal_at, binary_at, fold_at, index_at}
use Rattle.arr_elab.specs.declared.step.Step.TheVariants.{Act}
use Rattle.arr_elab.specs.Codes.{binary_code, fold_code, result_type}
use Rattle.arr_elab.specs.State.{State, stands_for, ◌>>=◌}
use Rattle.arr_elab.specs.Expressions.{operation, taken, onto, pending, ready, settled, written, bounds, fold_shape}
use Rattle.arr_elab.specs.Outcome.{prepared}
use Rattle.arr_elab.proofs.Given.{arrays_joined}
use Rattle.arr_demo.proofs.Layers.{prepared_name, prepared_literal, prepared_binary, prepared_fold, prepared_index}
use Rattle.arr_demo.proofs.Known.{Small, fresh_is}
use Rattle.arr_demo.proofs.Parts.{Sees}

-- ---- what an expression comes to

-- an operation of type i64 and of this shape, that waits for its output
pub record Pends (e : Expr) (s t : State) (shape : List ℕ) : Type 0 where
  pub at : Place
  pub op : Op
  pub is : prepared e s ≡ pending at shape op t
  pub type : op.to ≡ I64

-- an array of type i64 and of this shape
pub record Shows (e : Expr) (s t : State) (shape : List ℕ) : Type 0 where
  pub view : Strided
  pub is : (prepared e >>= settled) s ≡ (ready (record { view = view; elem = I64 }) >>= settled) t
  pub lengths : view.lengths ≡ shape

-- an operation writes a base of its own, and that is all that changes but the steps
pub record Wrote (e : Expr) (s t : State) (shape : List ℕ) (u : State) : Type 0 where
  pub shows : Shows e s u shape
  pub whole : shows.view ≡ whole_view (length t.bases) shape
  pub names : u.names ≡ t.names
  pub bases : u.bases ≡ t.bases ++ positions shape ∷ []

after_write : State → List ℕ → Op → State
after_write t shape op = record t { bases = t.bases ++ positions shape ∷ []; steps = t.steps ++ Act (onto op (whole_view (length t.bases) shape) true) ∷ [] }

pub writes : (e : Expr) (s t : State) (shape : List ℕ) (k : ℕ) → Pends e s t shape → Small k t.names t.bases → k ≤ 1000 → positions shape ≤ 4096 → (u : State) × Wrote e s t shape u
unfolding written after_write
writes e s t shape k p small few size = (
  after_write t shape p.op,
  record {
    shows = record {
      view = whole_view (length t.bases) shape;
      is = rw (p.is, fresh_is p.at shape t k small few size) (ap (λ (type : Elem). (ready (record { view = whole_view (length t.bases) shape; elem = type }) >>= settled) (after_write t shape p.op)) p.type);
      lengths = refl;
    };
    whole = refl;
    names = refl;
    bases = refl;
  },
)

-- ---- names and parts

pub shows_name : (s : State) (at : Place) (name : List ℕ) (view : Strided) (shape : List ℕ) → stands_for s.names name ≡ Some (record { view = view; elem = I64 }) → view.lengths ≡ shape
    → Shows (name_of (word_at at name)) s s shape
shows_name s at name view shape bound e = record { view = view; is = rw (prepared_name (word_at at name), bound) refl; lengths = e }

-- a part of an array is ready
pub part_ready : (s : State) (at name_at : Place) (name : List ℕ) (v : Strided) (cuts : List Cut) (m n : ℕ) → stands_for s.names name ≡ Some (record { view = v; elem = I64 })
    → (p : Sees v (map bounds cuts) m n) → prepared (index_at at (name_of (word_at name_at name)) cuts) s ≡ ready (record { view = p.view; elem = I64 }) s
part_ready s at name_at name v cuts m n bound p =
    rw (prepared_index at (name_of (word_at name_at name)) cuts, prepared_name (word_at name_at name), bound, p.is) refl

pub shows_part : (s : State) (at name_at : Place) (name : List ℕ) (v : Strided) (cuts : List Cut) (m n : ℕ) → stands_for s.names name ≡ Some (record { view = v; elem = I64 })
    → Sees v (map bounds cuts) m n → Shows (index_at at (name_of (word_at name_at name)) cuts) s s (m ∷ n ∷ [])
shows_part s at name_at name v cuts m n bound p = record { view = p.view; is = rw (part_ready s at name_at name v cuts m n bound p) refl; lengths = p.lengths }

-- ---- operations

abbrev pub fits : List ℕ → List ℕ → Bool
fits ns shape = nat_le (length ns) (length shape) && all_spread shape (padded (length shape) ns)

spreads : (v : Strided) (ns shape : List ℕ) → v.lengths ≡ ns → fits ns shape ≡ true → (w : Strided) × (spread v shape ≡ Ok w)
spreads v ns shape e h =
    let test : fits v.lengths shape ≡ true = ap (λ (ms : List ℕ). fits ms shape) e ∙ h in
    let w : Strided = record { base = v.base; start = v.start; lengths = shape; strides = spread_strides shape (padded (length shape) v.lengths) (padded_strides (length shape) v.strides) } in
    (w, ap (λ b. cond b (Ok w) (Err ShapeMismatch)) test)

module _ (at : Place) (c : Code16) (e : Expr) (s t : State) (type : result_type (binary_code c) I64 ≡ I64) where
  pub pairs : (f : Expr) (u : State) (ns ms shape : List ℕ) → Shows e s t ns → Shows f t u ms → broadcast ns ms ≡ Ok shape → fits ns shape ≡ true → fits ms shape ≡ true
      → Pends (binary_at at c e f) s u shape
  pairs f u ns ms shape a b both left right =
      let x = spreads a.view ns shape a.lengths left in
      let y = spreads b.view ms shape b.lengths right in
      let both_is : broadcast a.view.lengths b.view.lengths ≡ Ok shape = ap₂ broadcast a.lengths b.lengths ∙ both in
      record {
        at = at;
        op = operation (binary_code c) (result_type (binary_code c) I64) I64 (Some (operand.Array x.0)) (Some (operand.Array y.0)) None;
        is = rw (prepared_binary at c e f, a.is, b.is) (arrays_joined at (binary_code c) (record { view = a.view; elem = I64 }) (record { view = b.view; elem = I64 }) shape shape shape x.0 y.0 _ u refl (sym both_is) refl (sym x.1) refl (sym y.1) refl);
        type = type;
      }

  pub with_number : (number_at : Place) (n : ℕ) (shape : List ℕ) → Shows e s t shape → in_type I64 (pos n) ≡ true → Pends (binary_at at c e (literal_at number_at false n)) s t shape
  with_number number_at n shape a small =
      let op : Op = operation (binary_code c) (result_type (binary_code c) I64) I64 (Some (operand.Array a.view)) (Some (operand.Number (pos n))) None in
      record {
        at = at;
        op = op;
        is = rw (prepared_binary at c e (literal_at number_at false n), a.is, prepared_literal number_at false n, small) (ap (λ (ns : List ℕ). pending at ns op t) a.lengths);
        type = type;
      }

pub folds : (at : Place) (c : Code16) (e : Expr) (axis : ℕ) (axis_at : Place) (s t : State) (shape : List ℕ) → Shows e s t shape → nat_lt axis (length shape) ≡ true
    → Pends (fold_at at c e axis axis_at) s t (fold_shape (fold_code c) shape axis)
folds at c e axis axis_at s t shape a low =
    let op : Op = operation (fold_code c) I64 I64 (taken a.view) None (Some axis) in
    let along : checked_axis a.view.lengths axis ≡ Ok axis = ap (λ (ns : List ℕ). checked_axis ns axis) a.lengths ∙ ap (λ b. cond b (Ok axis) (Err AxisRange)) low in
    record {
      at = at;
      op = op;
      is = rw (prepared_fold at c e axis axis_at, a.is, along) (ap (λ (ns : List ℕ). pending at (fold_shape (fold_code c) ns axis) op t) a.lengths);
      type = refl;
    }

-- ---- shapes of two arrays

pub or_true : (b : Bool) → (b || true) ≡ true
or_true true = refl
or_true false = refl

same_is : (m : ℕ) → (m == m) ≡ true
same_is m = eq-eqb m m refl

module _ (m n : ℕ) (some : 1 ≤ m) (size : positions (m ∷ n ∷ []) ≤ 4096) where
  pub same_fits : fits (m ∷ n ∷ []) (m ∷ n ∷ []) ≡ true
  same_fits = rw (same_is m, same_is n) refl

  pub row_fits : fits (n ∷ []) (m ∷ n ∷ []) ≡ true
  row_fits = rw (or_true (1 == m), same_is n) refl

  joins : (ms ns : List ℕ) → all_match ms ns ≡ true → greater ms ns ≡ m ∷ n ∷ [] → joined_shape ms ns ≡ Ok (m ∷ n ∷ [])
  joins ms ns test most =
      let few : nat_lt most_elements (positions (greater ms ns)) ≡ false = ap (λ (ks : List ℕ). nat_lt most_elements (positions ks)) most ∙ le-ltb most_elements (positions (m ∷ n ∷ [])) (omega arith) in
      ap (λ b. cond (not b) (Err ShapeMismatch) (cond (nat_lt most_elements (positions (greater ms ns))) (Err TooManyElements) (Ok (greater ms ns)))) test
      ∙ ap (λ b. cond b (Err TooManyElements) (Ok (greater ms ns))) few ∙ ap Ok most

  pub same_broadcast : broadcast (m ∷ n ∷ []) (m ∷ n ∷ []) ≡ Ok (m ∷ n ∷ [])
  same_broadcast =
      joins (m ∷ n ∷ []) (m ∷ n ∷ []) (and_from _ _ (match_same m m refl) (and_from _ true (match_same n n refl) refl))
      (ap₂ (λ (a b : ℕ). a ∷ b ∷ []) (let e : max m m ≡ m = omega arith in e) (let e : max n n ≡ n = omega arith in e))

  pub row_broadcast : broadcast (m ∷ n ∷ []) (n ∷ []) ≡ Ok (m ∷ n ∷ [])
  row_broadcast =
      joins (m ∷ n ∷ []) (1 ∷ n ∷ []) (and_from _ _ (match_right m 1 refl) (and_from _ true (match_same n n refl) refl))
      (ap₂ (λ (a b : ℕ). a ∷ b ∷ []) (let e : max m 1 ≡ m = omega arith in e) (let e : max n n ≡ n = omega arith in e))
