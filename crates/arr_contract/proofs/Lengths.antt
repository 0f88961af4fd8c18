-- The lengths before an axis, and those behind it.
use Rattle.std.proofs.Common.{◌≡◌, ℕ, zero, suc, add-one, ◌+◌, ◌-◌, ◌*◌, ◌<◌, ◌≤◌, List, true, length, get_or, take, drop, ap, sym, ◌∙◌, arith}
use Rattle.std.specs.Prelude.{nat_le}
use Rattle.std.specs.List.{list_all}
use Rattle.std.proofs.Math.Nat.{mul_assoc, mul_comm}
use Rattle.std.proofs.lemmas.List.{length-drop, take_all}
use Rattle.arr_view.specs.Views.{positions}
use Rattle.arr_view.proofs.Counting.{some_position, value_more}
use Rattle.arr_ops.proofs.Lengths.{positions_at}

pub behind : (ns : List ℕ) (axis : ℕ) → take (length ns - (axis + 1)) (drop (axis + 1) ns) ≡ drop (suc axis) ns
behind ns axis =
    let long : length (drop (axis + 1) ns) ≡ length ns - (axis + 1) = length-drop (axis + 1) ns in
    take_all (length ns - (axis + 1)) (drop (axis + 1) ns) (omega arith) ∙ ap (λ n. drop n ns) (add-one axis)

-- ---- products of some of them are no more than that of all

factor : (a b n : ℕ) → 1 ≤ n → n ≡ a * b → a ≤ n
factor a zero n l e = absurd (let z : a * 0 ≡ 0 = omega arith in omega arith)
factor a (suc b) n l e = let z : a * suc b ≡ a * b + a = omega arith in omega arith

pub few_front : (ns : List ℕ) (k : ℕ) → list_all (nat_le 1) ns ≡ true → positions ns ≤ 1048576 → k < length ns → positions (take k ns) ≤ 1048576
few_front ns k each few below =
    let some : 1 ≤ positions ns = some_position ns each in
    let most : positions (take k ns) ≤ positions ns = factor (positions (take k ns)) _ (positions ns) some (positions_at ns k below) in
    omega arith

pub few_back : (ns : List ℕ) (k : ℕ) → list_all (nat_le 1) ns ≡ true → positions ns ≤ 1048576 → k < length ns → positions (drop (suc k) ns) ≤ 1048576
few_back ns k each few below =
    let front : ℕ = positions (take k ns) in
    let back : ℕ = positions (drop (suc k) ns) in
    let all : positions ns ≡ back * (front * get_or ns k 1) = positions_at ns k below ∙ sym (mul_assoc front (get_or ns k 1) back) ∙ mul_comm (front * get_or ns k 1) back in
    let most : back ≤ positions ns = factor back (front * get_or ns k 1) (positions ns) (some_position ns each) all in
    omega arith

-- one length more
pub next_product : (count i : ℕ) (ns : List ℕ) → list_all (nat_le 1) ns ≡ true → i < length ns → count * positions (drop i ns) ≡ positions ns → count * get_or ns i 0 ≤ positions ns
next_product count i ns each l h =
    factor (count * get_or ns i 0) (positions (drop (i + 1) ns)) (positions ns) (some_position ns each) (sym h ∙ value_more count i ns l)
