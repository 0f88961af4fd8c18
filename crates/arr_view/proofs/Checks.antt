-- What makes a view, and what refuses it.
use Rattle.std.proofs.Common.{◌≡◌, ℕ, ◌≤◌, ℤ, pos, List, Bool, true, false, cond, ◌&&◌, length, refl, ap, sym, ◌∙◌, leb-true}
use Rattle.std.specs.Prelude.{nat_le, Some, None}
use Rattle.std.specs.List.{list_all}
use Rattle.std.proofs.lemmas.Bool.{and_parts, and_from, and_left, and_right, false_from_ne_true}
use Rattle.arr_view.specs.Strided.{Strided}
use Rattle.arr_view.specs.Views.{places, positions, is_place, is_view, has_rank, strides_kept, kept_strides, view_from}
use Rattle.arr_view.proofs.Strides.{keeps, as_many, length-kept_strides}

abbrev pub parts : ℕ → ℕ → List ℕ → List ℤ → Strided
parts base start ns ss = record { base = base; start = start; lengths = ns; strides = kept_strides ns ss }

abbrev pub few : List ℕ → Bool
few ns = list_all (nat_le 1) ns && nat_le (positions ns) 1048576

abbrev pub stays : ℕ → List ℕ → List ℤ → Bool
stays start ns ss = list_all is_place (places ns (kept_strides ns ss) (pos start))

-- the test by its parts
five : (a b c d e : Bool) → (a && (b && (c && (d && e)))) ≡ (a && (c && ((b && d) && e)))
five true true true d e = refl
five true true false d e = refl
five true false true d e = refl
five true false false d e = refl
five false b c d e = refl

pub by_parts : (base start : ℕ) (ns : List ℕ) (ss : List ℤ) → is_view (parts base start ns ss) ≡ (has_rank ns && (strides_kept ns (kept_strides ns ss) && (few ns && stays start ns ss)))
by_parts base start ns ss = five (has_rank ns) (list_all (nat_le 1) ns) (strides_kept ns (kept_strides ns ss)) (nat_le (positions ns) 1048576) (stays start ns ss)

pub refused : (base start : ℕ) (ns : List ℕ) (ss : List ℤ) → is_view (parts base start ns ss) ≡ false → None ≡ view_from base start ns ss
refused base start ns ss e = sym (ap (λ b. cond b (Some (parts base start ns ss)) None) e)

pub made : (base start : ℕ) (ns : List ℕ) (ss : List ℤ) → is_view (parts base start ns ss) ≡ true → Some (parts base start ns ss) ≡ view_from base start ns ss
made base start ns ss e = sym (ap (λ b. cond b (Some (parts base start ns ss)) None) e)

pub rank_refused : (base start : ℕ) (ns : List ℕ) (ss : List ℤ) → has_rank ns ≡ false → None ≡ view_from base start ns ss
rank_refused base start ns ss e = refused base start ns ss (by_parts base start ns ss ∙ and_left (has_rank ns) _ e)

pub strides_refused : (base start : ℕ) (ns : List ℕ) (ss : List ℤ) → (length ss ≡ length ns → ⊥) → None ≡ view_from base start ns ss
strides_refused base start ns ss h =
    let none : strides_kept ns (kept_strides ns ss) ≡ false =
    false_from_ne_true (strides_kept ns (kept_strides ns ss)) (λ e. h (sym (length-kept_strides ns ss) ∙ as_many ns (kept_strides ns ss) e)) in
    refused base start ns ss (by_parts base start ns ss ∙ and_right (has_rank ns) _ (and_left (strides_kept ns (kept_strides ns ss)) _ none))

pub count_refused : (base start : ℕ) (ns : List ℕ) (ss : List ℤ) → few ns ≡ false → None ≡ view_from base start ns ss
count_refused base start ns ss e =
    refused base start ns ss (by_parts base start ns ss ∙ and_right (has_rank ns) _ (and_right (strides_kept ns (kept_strides ns ss)) _ (and_left (few ns) _ e)))

pub place_refused : (base start : ℕ) (ns : List ℕ) (ss : List ℤ) → stays start ns ss ≡ false → None ≡ view_from base start ns ss
place_refused base start ns ss e =
    refused base start ns ss (by_parts base start ns ss ∙ and_right (has_rank ns) _ (and_right (strides_kept ns (kept_strides ns ss)) _ (and_right (few ns) _ e)))

pub is_made : (base start : ℕ) (ns : List ℕ) (ss : List ℤ) → has_rank ns ≡ true → length ss ≡ length ns → few ns ≡ true → stays start ns ss ≡ true → is_view (parts base start ns ss) ≡ true
is_made base start ns ss a b c d =
    by_parts base start ns ss ∙ and_from (has_rank ns) _ a (and_from (strides_kept ns (kept_strides ns ss)) _ (keeps ns ss b) (and_from (few ns) _ c d))

-- what a view has
pub record Lawful (v : Strided) : Type 0 where
  pub rank : has_rank v.lengths ≡ true
  pub lengths : list_all (nat_le 1) v.lengths ≡ true
  pub kept : strides_kept v.lengths v.strides ≡ true
  pub size : positions v.lengths ≤ 1048576
  pub inside : list_all is_place (places v.lengths v.strides (pos v.start)) ≡ true

pub lawful : (v : Strided) → is_view v ≡ true → Lawful v
lawful v e =
    let a = and_parts (has_rank v.lengths) _ e in
    let b = and_parts (list_all (nat_le 1) v.lengths) _ a.1 in
    let c = and_parts (strides_kept v.lengths v.strides) _ b.1 in
    let d = and_parts (nat_le (positions v.lengths) 1048576) _ c.1 in
    record { rank = a.0; lengths = b.0; kept = c.0; size = leb-true (positions v.lengths) 1048576 d.0; inside = d.1 }

pub same_rank : (v : Strided) → is_view v ≡ true → length v.strides ≡ length v.lengths
same_rank v e = as_many v.lengths v.strides (lawful v e).kept

pub at_most_four : (ns : List ℕ) → has_rank ns ≡ true → length ns ≤ 4
at_most_four ns h = leb-true (length ns) 4 (and_parts (nat_le 1 (length ns)) (nat_le (length ns) 4) h).1
