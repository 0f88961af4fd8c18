-- Parts of a view at the first indices of its dimensions.
use Rattle.std.proofs.Common.{◌≡◌, ℕ, zero, suc, ◌+◌, ◌*◌, ◌<◌, ◌≤◌, ℤ, pos, ◌+ℤ◌, List, [], ◌∷◌, true, false, cond, length, drop, get_or, refl, ap, ap₂, sym, ◌∙◌, subst, arith}
use Rattle.std.specs.Prelude.{◌&&◌, ◌==◌, nat_le, unsigned_abs, Some}
use Rattle.std.specs.List.{list_all}
use Rattle.std.proofs.Math.Nat.{mul-le-mul_left, mul_comm}
use Rattle.std.proofs.lemmas.Bool.{and_from, and_parts, false≢true, leb-true, le-leb, ne_eqb}
use Rattle.std.proofs.lemmas.List.{drop_more}
use Rattle.arr_view.specs.Strided.{Strided}
use Rattle.arr_view.specs.Views.{is_place, is_view, kept_strides, places, positions, view_from}
use Rattle.arr_view.proofs.Checks.{is_made, lawful, made, same_rank}
use Rattle.arr_view.proofs.Places.{Inside, in_steps, out_steps, steps}
use Rattle.arr_overlap.specs.Filters.{divides, fits_in, front_of, row_lengths}

as_long : (ms ns : List ℕ) → fits_in ms ns ≡ true → length ms ≡ length ns
as_long [] [] e = refl
as_long [] (n ∷ ns) e = absurd (false≢true e)
as_long (m ∷ ms) [] e = absurd (false≢true e)
as_long (m ∷ ms) (n ∷ ns) e = ap suc (as_long ms ns (and_parts (nat_le 1 m && nat_le m n) _ e).1)

each_some : (ms ns : List ℕ) → fits_in ms ns ≡ true → list_all (nat_le 1) ms ≡ true
each_some [] [] e = refl
each_some [] (n ∷ ns) e = absurd (false≢true e)
each_some (m ∷ ms) [] e = absurd (false≢true e)
each_some (m ∷ ms) (n ∷ ns) e =
    let p = and_parts (nat_le 1 m && nat_le m n) _ e in
    and_from (nat_le 1 m) _ (and_parts (nat_le 1 m) (nat_le m n) p.0).0 (each_some ms ns p.1)

no_more : (ms ns : List ℕ) → fits_in ms ns ≡ true → positions ms ≤ positions ns
no_more [] [] e = omega arith
no_more [] (n ∷ ns) e = absurd (false≢true e)
no_more (m ∷ ms) [] e = absurd (false≢true e)
no_more (m ∷ ms) (n ∷ ns) e =
    let p = and_parts (nat_le 1 m && nat_le m n) _ e in
    let here : m ≤ n = leb-true m n (and_parts (nat_le 1 m) (nat_le m n) p.0).1 in
    let first : m * positions ms ≤ m * positions ns = mul-le-mul_left m (no_more ms ns p.1) in
    let second : positions ns * m ≤ positions ns * n = mul-le-mul_left (positions ns) here in
    let turned : positions ns * m ≡ m * positions ns = mul_comm (positions ns) m in
    let turned' : positions ns * n ≡ n * positions ns = mul_comm (positions ns) n in
    omega arith

-- a stride that is kept leads where it led, as far as there are indices
pub kept_step : (m i : ℕ) (s : ℤ) → i < m → steps i (cond (m == 1) (pos 0) s) ≡ steps i s
kept_step m zero s h = refl
kept_step m (suc i) s h = ap (λ b. steps (suc i) (cond b (pos 0) s)) (ne_eqb m 1 (λ e. let e' : m ≡ 1 = e in omega arith))

front_inside : (ms ns : List ℕ) (ss : List ℤ) (z : ℤ) → fits_in ms ns ≡ true → Inside ns ss z → Inside ms (kept_strides ms ss) z
front_inside [] [] ss z e h = h
front_inside [] (n ∷ ns) ss z e h = absurd (false≢true e)
front_inside (m ∷ ms) [] ss z e h = absurd (false≢true e)
front_inside (m ∷ ms) (n ∷ ns) [] z e h = refl
front_inside (m ∷ ms) (n ∷ ns) (s ∷ ss) z e h =
    let p = and_parts (nat_le 1 m && nat_le m n) _ e in
    let most : m ≤ n = leb-true m n (and_parts (nat_le 1 m) (nat_le m n) p.0).1 in
    in_steps is_place (places ms (kept_strides ms ss)) m (cond (m == 1) (pos 0) s) z (λ i k.
    subst (λ t. Inside ms (kept_strides ms ss) (z +ℤ t)) (sym (kept_step m i s k)) (front_inside ms ns ss (z +ℤ steps i s) p.1 (out_steps is_place (places ns ss) n s z h i (omega arith))))

pub front_lawful : (v : Strided) (ms : List ℕ) → is_view v ≡ true → fits_in ms v.lengths ≡ true → is_view (front_of v ms) ≡ true
front_lawful v ms law e =
    let l = lawful v law in
    let long : length ms ≡ length v.lengths = as_long ms v.lengths e in
    let few : positions ms ≤ positions v.lengths = no_more ms v.lengths e in
    let size : positions v.lengths ≤ 1048576 = l.size in
    is_made v.base v.start ms v.strides (ap (λ n. nat_le 1 n && nat_le n 4) long ∙ l.rank) (same_rank v law ∙ sym long)
    (and_from (list_all (nat_le 1) ms) _ (each_some ms v.lengths e) (le-leb (positions ms) 1048576 (omega arith))) (front_inside ms v.lengths v.strides (pos v.start) e l.inside)

pub front_made : (v : Strided) (ms : List ℕ) → is_view v ≡ true → fits_in ms v.lengths ≡ true → view_from v.base v.start ms v.strides ≡ Some (front_of v ms)
front_made v ms law e = sym (made v.base v.start ms v.strides (front_lawful v ms law e))

-- ---- one row

pub row_fits : (row : ℕ) (ns : List ℕ) (ss : List ℤ) → list_all (nat_le 1) ns ≡ true → length ss ≡ length ns → fits_in (row_lengths row ns ss) ns ≡ true
row_fits row [] [] some same = refl
row_fits row [] (s ∷ ss) some same = absurd (omega arith)
row_fits row (n ∷ ns) [] some same = absurd (omega arith)
row_fits row (n ∷ ns) (s ∷ ss) some same =
    let p = and_parts (nat_le 1 n) (list_all (nat_le 1) ns) some in
    and_from (nat_le 1 (cond (divides row (unsigned_abs s)) 1 n) && nat_le (cond (divides row (unsigned_abs s)) 1 n) n) _
    (elim (divides row (unsigned_abs s)) as (λ b. (nat_le 1 (cond b 1 n) && nat_le (cond b 1 n) n) ≡ true) [
      | true ↦ p.0
      | false ↦ and_from (nat_le 1 n) _ p.0 (le-leb n n (omega arith))
    ]) (row_fits row ns ss p.1 (omega arith))

pub row_turn : (row : ℕ) (ns : List ℕ) (ss : List ℤ) (i : ℕ) → length ss ≡ length ns → i < length ns
    → row_lengths row (drop i ns) (drop i ss) ≡ cond (divides row (unsigned_abs (get_or ss i (pos 0)))) 1 (get_or ns i 0) ∷ row_lengths row (drop (i + 1) ns) (drop (i + 1) ss)
row_turn row ns ss i same l = ap₂ (row_lengths row) (drop_more ns i 0 l) (drop_more ss i (pos 0) (omega arith))
