-- A base that is made whole.
use Rattle.std.proofs.Common.{◌≡◌, ℕ, zero, suc, ◌+◌, ◌<◌, ◌≤◌, List, true, false, cond, ◌||◌, length, refl, ap, ap₂, sym, ◌∙◌, arith, length-append}
use Rattle.std.specs.Prelude.{nat_lt, Some, None}
use Rattle.std.specs.List.{list_all, range_with_len}
use Rattle.std.proofs.lemmas.Bool.{and_from, lt-ltb, ne_eqb}
use Rattle.arr_num.specs.declared.elem.Elem.{Elem}
use Rattle.arr_view.specs.Views.{elements, positions, has, repeated, repeats, is_view, checked, whole_view, whole_strides}
use Rattle.arr_view.proofs.Strides.{whole_elements}
use Rattle.arr_ops.specs.Formed.{is_whole}
use Rattle.arr_shape.specs.Shapes.{is_shape}
use Rattle.arr_shape.proofs.Shapes.{shape_of}
use Rattle.arr_shape.proofs.Made.{is_made}
use Rattle.arr_shape.proofs.Consecutive.{sound_whole}
use Rattle.arr_elab.specs.Recording.{Scene}
use Rattle.arr_elab.proofs.Derived.{is_below}
use Rattle.arr_elab.proofs.Scenes.{Stands, with_base, next_base, next_live}
use Rattle.arr_elab.proofs.KindsKept.{lists_test}

range_has : (z n x : ℕ) → x < z → has (range_with_len z n) x ≡ false
range_has z zero x h = refl
range_has z (suc n) x h = ap₂ (λ a b. a || b) (ne_eqb x z (λ e. omega arith)) (range_has (z + 1) n x (omega arith))

range_once : (z n : ℕ) → repeated (range_with_len z n) ≡ false
range_once z zero = refl
range_once z (suc n) = ap₂ (λ a b. a || b) (range_has (z + 1) n z (omega arith)) (range_once (z + 1) n)

range_below : (z n m : ℕ) → z + n ≤ m → list_all (λ e. nat_lt e m) (range_with_len z n) ≡ true
range_below z zero m h = refl
range_below z (suc n) m h = and_from (nat_lt z m) (list_all (λ e. nat_lt e m) (range_with_len (z + 1) n)) (lt-ltb z m (omega arith)) (range_below (z + 1) n m (omega arith))

pub whole_once : (base : ℕ) (shape : List ℕ) → repeats (whole_view base shape) ≡ false
whole_once base shape = ap repeated (whole_elements base shape) ∙ range_once 0 (positions shape)

pub whole_is : (base : ℕ) (shape : List ℕ) → is_whole (whole_view base shape) ≡ true
whole_is base shape = lists_test (elements (whole_view base shape)) (range_with_len 0 (positions shape)) (whole_elements base shape)

pub whole_lawful : (base : ℕ) (shape : List ℕ) → is_shape shape ≡ true → is_view (whole_view base shape) ≡ true
whole_lawful base shape e =
    let s = shape_of shape e in
    let size : positions shape ≤ 1048576 = s.size in
    is_made base 0 shape (whole_strides shape) (sound_whole 0 shape s (omega arith))

pub whole_there : (base : ℕ) (shape : List ℕ) → is_shape shape ≡ true → checked (whole_view base shape) ≡ Some (whole_view base shape)
whole_there base shape e = ap (λ b. cond b (Some (whole_view base shape)) None) (whole_lawful base shape e)

pub whole_below : (base : ℕ) (shape : List ℕ) → is_below (positions shape) (whole_view base shape) ≡ true
whole_below base shape = ap (list_all (λ e. nat_lt e (positions shape))) (whole_elements base shape) ∙ range_below 0 (positions shape) (positions shape) (omega arith)

-- the view of the base that is made next
pub stands_new : (scene : Scene) (shape : List ℕ) (t : Elem) → is_shape shape ≡ true → scene.first ≤ length scene.bases → Stands (with_base scene (positions shape) t) t (whole_view (length scene.bases) shape)
stands_new scene shape t e h =
    let here = next_base scene (positions shape) t in
    record {
      placed = record {
        lawful = whole_lawful (length scene.bases) shape e;
        made = made;
        typed = sym (ap (λ (p : ℕ × Elem). p.1) here);
        inside = ap (λ (p : ℕ × Elem). is_below p.0 (whole_view (length scene.bases) shape)) here ∙ whole_below (length scene.bases) shape;
      };
      live = next_live scene (positions shape) t h;
    }
  where
    made : length scene.bases < length (with_base scene (positions shape) t).bases
    made = simp length-append (omega arith)
