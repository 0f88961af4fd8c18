use Rattle.std.proofs.Common.{◌≡◌, ◌+◌, ◌<◌, ◌≤◌, ℕ, ℤ, pos, List, [], ◌∷◌, ◌++◌, true, cond, ◌||◌, ◌&&◌, length, get_or, drop, ap, ap₂, sym, ◌∙◌, subst, arith, rules, append_assoc, length-append, w32}
use Rattle.std.specs.Prelude.{◌==◌, ok_or, Ok, IfOk, IsTrue}
use mir.Val.{SFits}
use Rattle.std.proofs.lemmas.Int.{to_z-of_z}
use Rattle.std.proofs.lemmas.Bool.{eq-eqb, ne_eqb, cond-true, cond-false}
use Rattle.std.proofs.lemmas.List.{drop_all, append-nil}
use Rattle.arr_view.specs.Strided.{Strided}
use Rattle.arr_view.specs.Views.{is_view, view_from}
use Rattle.arr_view.proofs.Checks.{same_rank}
use Rattle.arr_shape.specs.declared.fault.ShapeFault.TheVariants.{ShapeMismatch}
use Rattle.arr_shape.specs.Shapes.{padded}
use Rattle.arr_shape.specs.Views.{element_at, is_index, spread_from, all_spread, spread_strides, padded_strides}
use Rattle.arr_shape.proofs.Shapes.{shape_of}
use Rattle.arr_shape.proofs.Made.{made, sound_view, strided_of}
use Rattle.arr_shape.proofs.Spreads.{spread_turn, strides_turn, long_lengths, long_strides, sound_spread, spread_made, spread_element}
use Rattle.arr_shape.proofs.views.spread.Goals as goal
use Rattle.arr_shape.proofs.views.spread.Goals.{then-own-length, else-own-length+then-own-eq1}

pub from_last-requires-clause-long : goal.from_last-requires-clause-long
from_last-requires-clause-long c =
    let v = c.args.view.now in
    let same : length v.strides ≡ length v.lengths = same_rank v c.strides.ensures.lawful in
    let a : length c.strides.result.now ≡ length v.strides = ap length c.strides.ensures.value in
    let b : length c.shape.result.now ≡ length v.lengths = ap length c.shape.ensures.value in
    omega arith

-- one turn, for a length m of the shape and the view's length n and stride s
record Turn (before after : List ℤ) (m n : ℕ) (s : ℤ) : Type 0 where
  items : after ≡ before ++ (cond (n == m) s (pos 0) ∷ [])
  fits : (n == m || n == 1) ≡ true

pub loop-axis-preserved : goal.loop-axis-preserved
loop-axis-preserved c =
    let v : Strided = c.args.view.now in
    let shape : List ℕ = c.args.shape.now in
    let i : ℕ = c.loop-axis.axis in
    let lawful : is_view v ≡ true = c.shape-in-loop-axis.ensures.lawful in
    let same : length v.strides ≡ length v.lengths = same_rank v lawful in
    let b : length c.shape.result.now ≡ length v.lengths = ap length c.shape.ensures.value in
    let wide : length v.lengths ≤ length shape = omega arith in
    let ns : List ℕ = padded (length shape) v.lengths in
    let ss : List ℤ = padded_strides (length shape) v.strides in
    let below : i < length shape = c.loop-axis-test.true in
    let long_ns : length ns ≡ length shape = long_lengths v.start v.lengths v.strides shape same (sound_view v lawful) wide in
    let long_ss : length ss ≡ length shape = long_strides v.start v.lengths v.strides shape same (sound_view v lawful) wide in
    let own : c.from_last-own.result ≡ get_or ns i 1 = c.from_last-own.ensures ∙ ap (λ xs. get_or (padded (length shape) xs) i 1) c.shape-in-loop-axis.ensures.value in
    let turned : Turn c.loop-axis.strides.items c.if-own-length.strides.items (get_or shape i 0) (get_or ns i 1) (get_or ss i (pos 0)) =
    elim c.if-own-length.branch [
      | then-own-length w ↦ let r : ℤ = w.from_last.result in
          let fits : SFits w32 r = search rules in
          let even : get_or ns i 1 ≡ get_or shape i 0 = sym own ∙ w.if-own-length.true in
          let value : r ≡ get_or ss i (pos 0) = w.from_last.ensures ∙ ap (λ xs. get_or (padded_strides (length shape) xs) i (pos 0)) w.strides.ensures.value in
          record {
            items =
                ap (λ xs. xs.items) w.strides-is ∙ w.push.ensures.items
                ∙ ap (λ z. c.loop-axis.strides.items ++ (z ∷ [])) (to_z-of_z w32 r fits ∙ value ∙ sym (cond-true (get_or ns i 1 == get_or shape i 0) (get_or ss i (pos 0)) (pos 0) (eq-eqb (get_or ns i 1) (get_or shape i 0) even)));
            fits = ap (λ t. t || get_or ns i 1 == 1) (eq-eqb (get_or ns i 1) (get_or shape i 0) even);
          }
      | else-own-length+then-own-eq1 w ↦ let other : get_or ns i 1 ≡ get_or shape i 0 → ⊥ = λ e. w.if-own-length.false (own ∙ e) in
          record {
            items =
                ap (λ xs. xs.items) w.strides-is ∙ w.push-then-own-eq1.ensures.items
                ∙ ap (λ z. c.loop-axis.strides.items ++ (z ∷ [])) (sym (cond-false (get_or ns i 1 == get_or shape i 0) (get_or ss i (pos 0)) (pos 0) (ne_eqb (get_or ns i 1) (get_or shape i 0) other)));
            fits = ap (λ t. t || get_or ns i 1 == 1) (ne_eqb (get_or ns i 1) (get_or shape i 0) other) ∙ eq-eqb (get_or ns i 1) 1 (sym own ∙ w.if-own-eq1.true);
          }
    ] in
    record {
      many = ap length turned.items ∙ length-append c.loop-axis.strides.items (_ ∷ []) ∙ ap (λ k. k + 1) c.loop-axis.invariant.many;
      match =
          sym (ap (λ t. t && all_spread (drop (i + 1) shape) (drop (i + 1) ns)) turned.fits) ∙ sym (spread_turn shape ns i below (subst (λ k. i < k) (sym long_ns) below))
          ∙ c.loop-axis.invariant.match;
      so_far =
          ap (λ xs. xs ++ spread_strides (drop (i + 1) shape) (drop (i + 1) ns) (drop (i + 1) ss)) turned.items
          ∙ append_assoc c.loop-axis.strides.items _ (spread_strides (drop (i + 1) shape) (drop (i + 1) ns) (drop (i + 1) ss))
          ∙ ap (λ xs. c.loop-axis.strides.items ++ xs) (sym (strides_turn shape ns ss i below (subst (λ k. i < k) (sym long_ns) below) (subst (λ k. i < k) (sym long_ss) below)))
          ∙ c.loop-axis.invariant.so_far;
    }

pub returns-clause-view : goal.returns-clause-view
returns-clause-view c =
    let v : Strided = c.args.view.now in
    let shape = c.args.shape.now in
    let i : ℕ = c.loop-axis.axis in
    let lawful : is_view v ≡ true = c.base.ensures.lawful in
    let same : length v.strides ≡ length v.lengths = same_rank v lawful in
    let b : length c.shape.result.now ≡ length v.lengths = ap length c.shape.ensures.value in
    let wide : length v.lengths ≤ length shape = omega arith in
    let none : drop i shape ≡ [] = drop_all i shape c.loop-axis-test.false in
    let fits : all_spread shape (padded (length shape) v.lengths) ≡ true = sym c.loop-axis.invariant.match ∙ ap (λ xs. all_spread xs (drop i (padded (length shape) v.lengths))) none in
    let strides : c.as_slice.result.now ≡ spread_strides shape (padded (length shape) v.lengths) (padded_strides (length shape) v.strides) =
    c.as_slice.ensures.value ∙ sym (append-nil c.loop-axis.strides.items)
    ∙ ap (λ xs. c.loop-axis.strides.items ++ spread_strides xs (drop i (padded (length shape) v.lengths)) (drop i (padded_strides (length shape) v.strides))) (sym none) ∙ c.loop-axis.invariant.so_far in
    let sound = sound_spread v.start v.lengths v.strides shape same (sound_view v lawful) wide (shape_of shape c.requires) fits in
    c.ok_or.ensures.value
    ∙ ap (λ o. ok_or o ShapeMismatch)
    (c.new.ensures ∙ ap₂ (λ x y. view_from x y shape c.as_slice.result.now) c.base.ensures.value c.start.ensures.value ∙ ap (view_from v.base v.start shape) strides ∙ made v.base v.start shape _ sound)
    ∙ sym (spread_made v shape wide fits)

pub returns-clause-elements : goal.returns-clause-elements
returns-clause-elements c =
    let v : Strided = c.args.view.now in
    let shape = c.args.shape.now in
    let i : ℕ = c.loop-axis.axis in
    let lawful : is_view v ≡ true = c.base.ensures.lawful in
    let same : length v.strides ≡ length v.lengths = same_rank v lawful in
    let b : length c.shape.result.now ≡ length v.lengths = ap length c.shape.ensures.value in
    let wide : length v.lengths ≤ length shape = omega arith in
    let none : drop i shape ≡ [] = drop_all i shape c.loop-axis-test.false in
    let fits : all_spread shape (padded (length shape) v.lengths) ≡ true = sym c.loop-axis.invariant.match ∙ ap (λ xs. all_spread xs (drop i (padded (length shape) v.lengths))) none in
    let strides : c.as_slice.result.now ≡ spread_strides shape (padded (length shape) v.lengths) (padded_strides (length shape) v.strides) =
    c.as_slice.ensures.value ∙ sym (append-nil c.loop-axis.strides.items)
    ∙ ap (λ xs. c.loop-axis.strides.items ++ spread_strides xs (drop i (padded (length shape) v.lengths)) (drop i (padded_strides (length shape) v.strides))) (sym none) ∙ c.loop-axis.invariant.so_far in
    let sound = sound_spread v.start v.lengths v.strides shape same (sound_view v lawful) wide (shape_of shape c.requires) fits in
    let is : c.ok_or.result ≡ Ok (strided_of v.base v.start shape (spread_strides shape (padded (length shape) v.lengths) (padded_strides (length shape) v.strides))) =
    c.ok_or.ensures.value
    ∙ ap (λ o. ok_or o ShapeMismatch)
    (c.new.ensures ∙ ap₂ (λ x y. view_from x y shape c.as_slice.result.now) c.base.ensures.value c.start.ensures.value ∙ ap (view_from v.base v.start shape) strides ∙ made v.base v.start shape _ sound) in
    subst (λ o. IfOk o (λ (wide : Strided). (index : List ℕ) → IsTrue (is_index shape index) → element_at wide index ≡ element_at v (spread_from v.lengths index))) (sym is)
    (λ index e. spread_element v.start v.lengths v.strides shape same (sound_view v lawful) wide fits index e)
