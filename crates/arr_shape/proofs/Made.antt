-- Views made from parts that have all that a view has.
use Rattle.std.proofs.Common.{◌≡◌, ℕ, zero, suc, ◌≤◌, ℤ, pos, negsuc, List, [], ◌∷◌, Bool, true, false, cond, not, ◌||◌, refl, ap, ap₂, sym, ◌∙◌}
use Rattle.std.specs.Prelude.{nat_le, ◌==◌, Some, None}
use Rattle.std.specs.List.{list_all}
use Rattle.std.proofs.lemmas.Bool.{and_parts, and_from, le-leb}
use Rattle.arr_view.specs.Strided.{Strided}
use Rattle.arr_view.specs.Views.{has_rank, positions, places, is_place, is_view, is_zero, strides_kept, kept_strides, view_from, checked}
use Rattle.arr_view.proofs.Checks.{lawful}

pub record Sound (start : ℕ) (ns : List ℕ) (ss : List ℤ) : Type 0 where
  pub rank : has_rank ns ≡ true
  pub lengths : list_all (nat_le 1) ns ≡ true
  pub kept : strides_kept ns ss ≡ true
  pub size : positions ns ≤ 1048576
  pub inside : list_all is_place (places ns ss (pos start)) ≡ true

abbrev pub strided_of : ℕ → ℕ → List ℕ → List ℤ → Strided
strided_of base start ns ss = record { base = base; start = start; lengths = ns; strides = ss }

pub zero_is : (s : ℤ) → is_zero s ≡ true → s ≡ pos 0
zero_is (pos zero) e = refl
zero_is (pos (suc n)) e = absurd (let f : false ≡ true = e in cc)
zero_is (negsuc n) e = absurd (let f : false ≡ true = e in cc)

stays_same : (b : Bool) (s : ℤ) → (not b || is_zero s) ≡ true → cond b (pos 0) s ≡ s
stays_same true s e = sym (zero_is s e)
stays_same false s e = refl

pub kept_same : (ns : List ℕ) (ss : List ℤ) → strides_kept ns ss ≡ true → kept_strides ns ss ≡ ss
kept_same [] ss e = refl
kept_same (n ∷ ns) [] e = refl
kept_same (n ∷ ns) (s ∷ ss) e =
    let both = and_parts (not (n == 1) || is_zero s) (strides_kept ns ss) e in
    ap₂ (λ x xs. x ∷ xs) (stays_same (n == 1) s both.0) (kept_same ns ss both.1)

pub is_made : (base start : ℕ) (ns : List ℕ) (ss : List ℤ) → Sound start ns ss → is_view (strided_of base start ns ss) ≡ true
is_made base start ns ss h =
    and_from (has_rank ns) _ h.rank (and_from (list_all (nat_le 1) ns) _ h.lengths (and_from (strides_kept ns ss) _ h.kept (and_from (nat_le (positions ns) 1048576) _ (le-leb (positions ns) 1048576 h.size) h.inside)))

pub checked_made : (base start : ℕ) (ns : List ℕ) (ss : List ℤ) → Sound start ns ss → checked (strided_of base start ns ss) ≡ Some (strided_of base start ns ss)
checked_made base start ns ss h = ap (λ b. cond b (Some (strided_of base start ns ss)) None) (is_made base start ns ss h)

pub made : (base start : ℕ) (ns : List ℕ) (ss : List ℤ) → Sound start ns ss → view_from base start ns ss ≡ Some (strided_of base start ns ss)
made base start ns ss h = ap (λ rs. checked (strided_of base start ns rs)) (kept_same ns ss h.kept) ∙ checked_made base start ns ss h

pub sound_view : (v : Strided) → is_view v ≡ true → Sound v.start v.lengths v.strides
sound_view v e =
    let h = lawful v e in
    record { rank = h.rank; lengths = h.lengths; kept = h.kept; size = h.size; inside = h.inside }
