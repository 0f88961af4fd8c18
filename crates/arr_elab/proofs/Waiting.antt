-- Operations whose output is open may act, on a base of their own or on a target.
use Rattle.std.proofs.Common.{◌≡◌, ℕ, ℤ, pos, List, [], ◌∷◌, ◌++◌, Bool, true, false, cond, not, ◌&&◌, ◌<◌, length, refl, ap, ap₂, sym, subst, arith}
use Rattle.std.specs.Prelude.{◌==◌, Some, None, is_none}
use Rattle.std.specs.List.{list_all}
use Rattle.std.proofs.lemmas.Bool.{and_from, lt-ltb, eq-eqb, ne_eqb}
use Rattle.arr_num.specs.declared.elem.Elem.{Elem}
use Rattle.arr_num.specs.declared.elem.Elem.TheVariants.{U64}
use Rattle.arr_num.specs.declared.code.Code.TheVariants as code
use Rattle.arr_num.specs.Numbers.{in_type, wrap}
use Rattle.arr_num.specs.Kinds.{is_reduction}
use Rattle.arr_view.specs.Strided.{Strided}
use Rattle.arr_view.specs.Views.{is_view, repeats, whole_view}
use Rattle.arr_ops.specs.declared.op.Op.{Op}
use Rattle.arr_ops.specs.declared.op.Operand.{Operand}
use Rattle.arr_ops.specs.declared.op.Operand.TheVariants as operand
use Rattle.arr_ops.specs.Ops.{inputs, view_of}
use Rattle.arr_ops.specs.Formed.{kind_kept, with_slot, well_formed, makes_whole, numbers_of, same_shape}
use Rattle.arr_tree.specs.declared.tree.Code16.{Code16}
use Rattle.arr_shape.specs.Shapes.{is_shape, dropped_axis}
use Rattle.arr_elab.specs.Codes.{binary_code, unary_code, fold_code, result_type}
use Rattle.arr_elab.specs.Expressions.{operation, onto, taken, fold_shape}
use Rattle.arr_elab.specs.Recording.{Scene, stands, may_act}
use Rattle.arr_elab.proofs.Scenes.{Grows, Stands, stands_on, stands_test}
use Rattle.arr_elab.proofs.KindsKept.{lists_test, copy_kept, unary_kept, power_kept, pair_kept, fold_kept, number_kept, range_kept}
use Rattle.arr_elab.proofs.Shaped.{view_shape, dropped_shape}
use Rattle.arr_elab.proofs.Wholes.{whole_once, whole_is, whole_lawful}

-- ---- inputs

abbrev pub AllStand : Scene → Elem → List Strided → Type 0
AllStand scene t [] = Unit {0}
AllStand scene t (v ∷ vs) = Stands scene t v × AllStand scene t vs

all_on : (a b : Scene) (t : Elem) (vs : List Strided) → Grows a b → AllStand a t vs → AllStand b t vs
all_on a b t [] g h = tt
all_on a b t (v ∷ vs) g h = (stands_on a b t v g h.0, all_on a b t vs g h.1)

all_pass : (test : Strided → Bool) (scene : Scene) (t : Elem) (vs : List Strided) → ((v : Strided) → Stands scene t v → test v ≡ true) → AllStand scene t vs → list_all test vs ≡ true
all_pass test scene t [] f h = refl
all_pass test scene t (v ∷ vs) f h = and_from (test v) (list_all test vs) (f v h.0) (all_pass test scene t vs f h.1)

-- ---- what an operation has before its output is chosen

pub record Pends (scene : Scene) (shape : List ℕ) (op : Op) : Type 0 where
  pub shaped : is_shape shape ≡ true
  pub slot : is_none op.slot ≡ true
  pub frees : is_none op.frees ≡ true
  pub inputs : AllStand scene op.from (inputs op)
  pub kept : (out : Strided) (makes : Bool) → out.lengths ≡ shape → kind_kept (with_slot (onto op out makes)) ≡ true

pub pends_on : (a b : Scene) (shape : List ℕ) (op : Op) → Grows a b → Pends a shape op → Pends b shape op
pends_on a b shape op g h = record { shaped = h.shaped; slot = h.slot; frees = h.frees; inputs = all_on a b op.from (inputs op) g h.inputs; kept = h.kept }

formed : (scene : Scene) (shape : List ℕ) (op : Op) (out : Strided) (makes : Bool) → Pends scene shape op → out.lengths ≡ shape → is_view out ≡ true → repeats out ≡ false
    → makes_whole (with_slot (onto op out makes)) ≡ true → well_formed (with_slot (onto op out makes)) ≡ true
formed scene shape op out makes h same lawful once whole =
    and_from (kind_kept (with_slot (onto op out makes))) _ (h.kept out makes same)
    (and_from (list_all is_view (out ∷ inputs op)) _
    (and_from (is_view out) (list_all is_view (inputs op)) lawful (all_pass is_view scene op.from (inputs op) (λ v s. s.placed.lawful) h.inputs))
    (and_from (not (repeats out) && true) _ (ap (λ b. not b && true) once) whole))

all_stand : (scene : Scene) (shape : List ℕ) (op : Op) → Pends scene shape op → list_all (stands scene op.from) (inputs op) ≡ true
all_stand scene shape op h = all_pass (stands scene op.from) scene op.from (inputs op) (λ v s. stands_test scene op.from v s) h.inputs

-- it writes the base that is made next
pub may_make : (scene : Scene) (shape : List ℕ) (op : Op) → Pends scene shape op → may_act scene (onto op (whole_view (length scene.bases) shape) true) ≡ true
may_make scene shape op h =
    let out : Strided = whole_view (length scene.bases) shape in
    let others : list_all (λ (v : Strided). not (v.base == length scene.bases)) (inputs op) ≡ true =
    all_pass (λ (v : Strided). not (v.base == length scene.bases)) scene op.from (inputs op) (λ v s.
    let made : v.base < length scene.bases = s.placed.made in
    ap not (ne_eqb v.base (length scene.bases) (λ e. omega arith))) h.inputs in
    and_from (is_none op.slot) _ h.slot
    (and_from (is_none op.frees) _ h.frees
    (and_from (well_formed (with_slot (onto op out true))) _
    (formed scene shape op out true h refl (whole_lawful (length scene.bases) shape h.shaped) (whole_once (length scene.bases) shape)
    (ap₂ (λ a b. (a && b) && true) (whole_is (length scene.bases) shape) others))
    (and_from (list_all (stands scene op.from) (inputs op)) _ (all_stand scene shape op h) (ap (λ b. b && true) (eq-eqb (length scene.bases) (length scene.bases) refl)))))

-- it writes a target
pub may_store : (scene : Scene) (shape : List ℕ) (op : Op) (target : Strided) → Pends scene shape op → Stands scene op.to target → target.lengths ≡ shape → repeats target ≡ false
    → may_act scene (onto op target false) ≡ true
may_store scene shape op target h s same once =
    and_from (is_none op.slot) _ h.slot
    (and_from (is_none op.frees) _ h.frees
    (and_from (well_formed (with_slot (onto op target false))) _ (formed scene shape op target false h same s.placed.lawful once refl)
    (and_from (list_all (stands scene op.from) (inputs op)) _ (all_stand scene shape op h) (ap (λ b. b && true) (stands_test scene op.to target s)))))

-- ---- the operations of each form

pub pends_copy : (scene : Scene) (t e : Elem) (v : Strided) → Stands scene e v → Pends scene v.lengths (operation code.Identity t e (taken v) None None)
pends_copy scene t e v h = record { shaped = view_shape v h.placed.lawful; slot = refl; frees = refl; inputs = (h, tt); kept = λ out makes same. copy_kept t e v out makes same }

pub pends_unary : (scene : Scene) (c : Code16) (t : Elem) (v : Strided) → Stands scene t v → Pends scene v.lengths (operation (unary_code c) t t (taken v) None None)
pends_unary scene c t v h = record { shaped = view_shape v h.placed.lawful; slot = refl; frees = refl; inputs = (h, tt); kept = λ out makes same. unary_kept c t v out makes same }

pub pends_power : (scene : Scene) (t : Elem) (v : Strided) (n : ℕ) → Stands scene t v → Pends scene v.lengths (operation code.Power t t (taken v) (Some (operand.Number (wrap U64 (pos n)))) None)
pends_power scene t v n h = record { shaped = view_shape v h.placed.lawful; slot = refl; frees = refl; inputs = (h, tt); kept = λ out makes same. power_kept t n v out makes same }

pub pends_fold : (scene : Scene) (c : Code16) (t : Elem) (v : Strided) (axis : ℕ) → Stands scene t v → axis < length v.lengths
    → Pends scene (fold_shape (fold_code c) v.lengths axis) (operation (fold_code c) t t (taken v) None (Some axis))
pends_fold scene c t v axis h low =
    record {
      shaped = either (is_reduction (fold_code c));
      slot = refl;
      frees = refl;
      inputs = (h, tt);
      kept = λ out makes same. fold_kept c t axis v out makes (lt-ltb axis (length v.lengths) low) same;
    }
  where
    either : (b : Bool) → is_shape (cond b (dropped_axis axis v.lengths) v.lengths) ≡ true
    either true = dropped_shape axis v.lengths low (view_shape v h.placed.lawful)
    either false = view_shape v h.placed.lawful

pub pends_number : (scene : Scene) (t : Elem) (shape : List ℕ) (z : ℤ) → is_shape shape ≡ true → in_type t z ≡ true → Pends scene shape (operation code.Identity t t (Some (operand.Number z)) None None)
pends_number scene t shape z good inside = record { shaped = good; slot = refl; frees = refl; inputs = tt; kept = λ out makes same. number_kept t z out makes inside }

pub pends_range : (scene : Scene) (t : Elem) (shape : List ℕ) → is_shape shape ≡ true → Pends scene shape (operation code.Range t t None None None)
pends_range scene t shape good = record { shaped = good; slot = refl; frees = refl; inputs = tt; kept = λ out makes same. range_kept t out makes }

-- ---- two operands

-- a constant of the type, or a view of the shape
pub data Fitting (scene : Scene) (t : Elem) (shape : List ℕ) : Operand → Type 0 where
  number : {z : ℤ} → in_type t z ≡ true → Fitting scene t shape (operand.Number z)
  view : {v : Strided} → Stands scene t v → v.lengths ≡ shape → Fitting scene t shape (operand.Array v)

module _ (scene : Scene) (t : Elem) (shape : List ℕ) where
  fitting_stand : (x : Operand) (vs : List Strided) → Fitting scene t shape x → AllStand scene t vs → AllStand scene t (view_of (Some x) ++ vs)
  fitting_stand _ vs (number e) h = h
  fitting_stand _ vs (view s e) h = (s, h)

  fitting_shape : (x : Operand) (vs : List Strided) → Fitting scene t shape x → same_shape shape vs ≡ true → same_shape shape (view_of (Some x) ++ vs) ≡ true
  fitting_shape _ vs (number e) h = h
  fitting_shape _ vs (view {v = v} s e) h = ap₂ (λ a b. a && b) (lists_test v.lengths shape e) h

  fitting_number : (x : Operand) → Fitting scene t shape x → list_all (in_type t) (numbers_of (Some x)) ≡ true
  fitting_number _ (number e) = ap (λ b. b && true) e
  fitting_number _ (view s e) = refl

  last_stand : (x : Operand) → Fitting scene t shape x → AllStand scene t (view_of (Some x))
  last_stand _ (number e) = tt
  last_stand _ (view s e) = (s, tt)

  last_shape : (x : Operand) → Fitting scene t shape x → same_shape shape (view_of (Some x)) ≡ true
  last_shape _ (number e) = refl
  last_shape _ (view {v = v} s e) = ap (λ a. a && true) (lists_test v.lengths shape e)

  pub pends_pair : (c : Code16) (x y : Operand) → is_shape shape ≡ true → Fitting scene t shape x → Fitting scene t shape y
      → Pends scene shape (operation (binary_code c) (result_type (binary_code c) t) t (Some x) (Some y) None)
  pends_pair c x y good a b =
      record {
        shaped = good;
        slot = refl;
        frees = refl;
        inputs = fitting_stand x (view_of (Some y)) a (last_stand y b);
        kept = λ out makes same.
            pair_kept c t x y out makes (subst (λ ns. same_shape ns (view_of (Some x) ++ view_of (Some y)) ≡ true) (sym same) (fitting_shape x (view_of (Some y)) a (last_shape y b))) (fitting_number x a) (fitting_number y b);
      }
