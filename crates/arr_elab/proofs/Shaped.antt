-- The shapes of an expression are shapes.
use Rattle.std.proofs.Common.{◌≡◌, ℕ, zero, suc, ◌+◌, ◌*◌, ◌<◌, ◌≤◌, List, [], ◌∷◌, ◌++◌, true, cond, not, length, take, drop, refl, sym, ◌∙◌, subst, arith}
use Rattle.std.specs.Prelude.{nat_lt, nat_le, max, Ok, Err}
use Rattle.std.specs.List.{list_all}
use Rattle.std.proofs.Math.Nat.{mul-le-mul_left, mul-le-mul_right}
use Rattle.std.proofs.lemmas.Bool.{and_parts, and_from, leb-true, le-leb, ltb-false}
use Rattle.arr_view.specs.Strided.{Strided}
use Rattle.arr_view.specs.Views.{has_rank, positions, is_view}
use Rattle.arr_view.proofs.Checks.{lawful}
use Rattle.arr_shape.specs.declared.fault.ShapeFault.TheVariants.{ShapeMismatch, EmptyArray, RankRange, TooManyElements}
use Rattle.arr_shape.specs.Shapes.{is_shape, checked_shape, dropped_axis, padded, all_match, greater, broadcast}
use Rattle.arr_shape.proofs.Shapes.{shape_of, ranked, length-padded, padded_lengths, length-greater, greater_lengths}
use Rattle.arr_elab.proofs.Derived.{ok_unless, not_false}

pub shape_from : (ns : List ℕ) → has_rank ns ≡ true → list_all (nat_le 1) ns ≡ true → positions ns ≤ 1048576 → is_shape ns ≡ true
shape_from ns a b h = and_from (has_rank ns) _ a (and_from (list_all (nat_le 1) ns) _ b (le-leb (positions ns) 1048576 h))

pub view_shape : (v : Strided) → is_view v ≡ true → is_shape v.lengths ≡ true
view_shape v e =
    let h = lawful v e in
    shape_from v.lengths h.rank h.lengths h.size

pub checked_is : (ns shape : List ℕ) → checked_shape ns ≡ Ok shape → is_shape shape ≡ true
checked_is ns shape e =
    let a = ok_unless (not (has_rank ns)) RankRange (cond (not (list_all (nat_le 1) ns)) (Err EmptyArray) (cond (nat_lt 1048576 (positions ns)) (Err TooManyElements) (Ok ns))) shape e in
    let b = ok_unless (not (list_all (nat_le 1) ns)) EmptyArray (cond (nat_lt 1048576 (positions ns)) (Err TooManyElements) (Ok ns)) shape a.1 in
    let d = ok_unless (nat_lt 1048576 (positions ns)) TooManyElements (Ok ns) shape b.1 in
    let is : ns ≡ shape = (let f : Ok ns ≡ Ok shape = d.1 in cc) in
    subst (λ xs. is_shape xs ≡ true) is (shape_from ns (not_false (has_rank ns) a.0) (not_false (list_all (nat_le 1) ns) b.0) (ltb-false 1048576 (positions ns) d.0))

pub line_shape : (n : ℕ) → 1 ≤ n → n ≤ 1048576 → is_shape (n ∷ []) ≡ true
line_shape n a b = shape_from (n ∷ []) refl (and_from (nat_le 1 n) true (le-leb 1 n a) refl) (let e : n * 1 ≡ n = omega arith in omega arith)

-- ---- one axis less

abbrev without : ℕ → List ℕ → List ℕ
without axis ns = take axis ns ++ drop (suc axis) ns

record Lesser (ns ms : List ℕ) : Type 0 where
  rank : length ms + 1 ≡ length ns
  lengths : list_all (nat_le 1) ms ≡ true
  size : positions ms ≤ positions ns

lesser : (axis : ℕ) (ns : List ℕ) → axis < length ns → list_all (nat_le 1) ns ≡ true → Lesser ns (without axis ns)
lesser axis [] h all = absurd (omega arith)
lesser zero (n ∷ ns) h all =
    let both = and_parts (nat_le 1 n) (list_all (nat_le 1) ns) all in
    let some : 1 ≤ n = leb-true 1 n both.0 in
    let up : 1 * positions ns ≤ n * positions ns = mul-le-mul_right (positions ns) some in
    record { rank = omega arith; lengths = both.1; size = omega arith }
lesser (suc axis) (n ∷ ns) h all =
    let both = and_parts (nat_le 1 n) (list_all (nat_le 1) ns) all in
    let rest = lesser axis ns (omega arith) both.1 in
    let rank : length (without axis ns) + 1 ≡ length ns = rest.rank in
    record { rank = omega arith; lengths = and_from (nat_le 1 n) (list_all (nat_le 1) (without axis ns)) both.0 rest.lengths; size = mul-le-mul_left n rest.size }

pub dropped_shape : (axis : ℕ) (ns : List ℕ) → axis < length ns → is_shape ns ≡ true → is_shape (dropped_axis axis ns) ≡ true
dropped_shape axis [] h e = absurd (omega arith)
dropped_shape axis (n ∷ []) h e = refl
dropped_shape axis (n ∷ (m ∷ ms)) h e =
    let s = shape_of (n ∷ (m ∷ ms)) e in
    let less = lesser axis (n ∷ (m ∷ ms)) h s.lengths in
    let rank : length (without axis (n ∷ (m ∷ ms))) + 1 ≡ length (n ∷ (m ∷ ms)) = less.rank in
    let four : length (n ∷ (m ∷ ms)) ≤ 4 = s.four in
    let size : positions (n ∷ (m ∷ ms)) ≤ 1048576 = s.size in
    let small : positions (without axis (n ∷ (m ∷ ms))) ≤ positions (n ∷ (m ∷ ms)) = less.size in
    shape_from (without axis (n ∷ (m ∷ ms))) (ranked (without axis (n ∷ (m ∷ ms))) (omega arith) (omega arith)) less.lengths (omega arith)

-- ---- two shapes

pub broadcast_shape : (left right shape : List ℕ) → is_shape left ≡ true → is_shape right ≡ true → broadcast left right ≡ Ok shape → is_shape shape ≡ true
broadcast_shape left right shape a b e =
    let ms : List ℕ = padded (max (length left) (length right)) left in
    let ns : List ℕ = padded (max (length left) (length right)) right in
    let l = shape_of left a in
    let r = shape_of right b in
    let l1 : 1 ≤ length left = l.some in
    let l4 : length left ≤ 4 = l.four in
    let r4 : length right ≤ 4 = r.four in
    let long_ms : length ms ≡ max (length left) (length right) = length-padded (max (length left) (length right)) left (omega arith) in
    let long_ns : length ns ≡ max (length left) (length right) = length-padded (max (length left) (length right)) right (omega arith) in
    let long : length (greater ms ns) ≡ length ns = length-greater ms ns (long_ms ∙ sym long_ns) in
    let x = ok_unless (not (all_match ms ns)) ShapeMismatch (cond (nat_lt 1048576 (positions (greater ms ns))) (Err TooManyElements) (Ok (greater ms ns))) shape e in
    let y = ok_unless (nat_lt 1048576 (positions (greater ms ns))) TooManyElements (Ok (greater ms ns)) shape x.1 in
    let is : greater ms ns ≡ shape = (let f : Ok (greater ms ns) ≡ Ok shape = y.1 in cc) in
    subst (λ xs. is_shape xs ≡ true) is
    (shape_from (greater ms ns) (ranked (greater ms ns) (omega arith) (omega arith)) (greater_lengths ms ns (padded_lengths (max (length left) (length right)) left l.lengths)) (ltb-false 1048576 (positions (greater ms ns)) y.0))
