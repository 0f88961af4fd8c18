-- The first view of each class, in two ways.
use Rattle.std.proofs.Common.{◌≡◌, ℕ, ◌+◌, ◌<◌, length, take, get_or, List, [], ◌∷◌, ◌++◌, Bool, true, false, cond, not, ◌||◌, ◌&&◌, refl, ap, ap₂, sym, ◌∙◌}
use Rattle.std.specs.Prelude.{fold}
use Rattle.std.specs.List.{filter, list_any}
use Rattle.std.proofs.lemmas.Bool.{false≢true, or_left, or_right}
use Rattle.std.proofs.lemmas.List.{append_assoc, append-nil, take_more}
use Rattle.std.proofs.lemmas.List.Sums.{fold-append}
use Rattle.std.proofs.lemmas.List.Folds.{list_any-append}
use Rattle.arr_view.specs.Strided.{Strided}
use Rattle.arr_view.specs.Views.{identical}
use Rattle.arr_check.specs.Classed.{firsts, with_first}
use Rattle.arr_ops.specs.Costs.{distinct}
use Rattle.arr_ops.proofs.Alike.{identical_symm, identical_trans}

-- no view of the list is identical to it
abbrev pub is_new : List Strided → Strided → Bool
is_new seen u = not (list_any (identical u) seen)

same_tests : (a b : Bool) → (a ≡ true → b ≡ true) → (b ≡ true → a ≡ true) → a ≡ b
same_tests true true f g = refl
same_tests true false f g = absurd (false≢true (f refl))
same_tests false true f g = absurd (false≢true (g refl))
same_tests false false f g = refl

turned : (u v : Strided) → identical u v ≡ identical v u
turned u v = same_tests (identical u v) (identical v u) (identical_symm u v) (identical_symm v u)

filter_alike : (p q : Strided → Bool) (vs : List Strided) → ((v : Strided) → p v ≡ q v) → filter p vs ≡ filter q vs
filter_alike p q [] h = refl
filter_alike p q (v ∷ vs) h = ap₂ (λ b r. cond b (v ∷ r) r) (h v) (filter_alike p q vs h)

filter_twice : (p q : Strided → Bool) (vs : List Strided) → filter p (filter q vs) ≡ filter (λ v. q v && p v) vs
filter_twice p q [] = refl
filter_twice p q (v ∷ vs) =
    elim (q v) as (λ b. filter p (cond b (v ∷ filter q vs) (filter q vs)) ≡ cond (b && p v) (v ∷ filter (λ v. q v && p v) vs) (filter (λ v. q v && p v) vs)) [
      | true ↦ ap (λ r. cond (p v) (v ∷ r) r) (filter_twice p q vs)
      | false ↦ filter_twice p q vs
    ]

any_alike : (u v : Strided) (seen : List Strided) → identical u v ≡ true → list_any (identical v) seen ≡ true → list_any (identical u) seen ≡ true
any_alike u v [] e h = h
any_alike u v (w ∷ seen) e h =
    elim (identical v w) as (λ b. identical v w ≡ b → (b || list_any (identical v) seen) ≡ true → (identical u w || list_any (identical u) seen) ≡ true) [
      | true ↦ λ f k. or_left (identical u w) _ (identical_trans u v w e f)
      | false ↦ λ f k. or_right (identical u w) _ (any_alike u v seen e k)
    ] refl h

-- where a view like v is there, being new tells it apart from v
old_apart : (seen : List Strided) (v u : Strided) → list_any (identical v) seen ≡ true → (not (identical v u) && is_new seen u) ≡ is_new seen u
old_apart seen v u h =
    elim (identical v u) as (λ b. identical v u ≡ b → (not b && is_new seen u) ≡ is_new seen u) [
      | true ↦ λ e. sym (ap not (any_alike u v seen (identical_symm v u e) h))
      | false ↦ λ e. refl
    ] refl

new_apart : (seen : List Strided) (v u : Strided) → (not (identical v u) && is_new seen u) ≡ is_new (seen ++ v ∷ []) u
new_apart seen v u =
    ap (λ b. not b && is_new seen u) (turned v u) ∙ shaped (identical u v) (list_any (identical u) seen) ∙ sym (ap not (list_any-append (identical u) seen (v ∷ [])))
  where
    shaped : (a b : Bool) → (not a && not b) ≡ not (b || (a || false))
    shaped true true = refl
    shaped true false = refl
    shaped false true = refl
    shaped false false = refl

from_seen : (seen vs : List Strided) → fold with_first seen vs ≡ seen ++ filter (is_new seen) (distinct identical vs)
from_seen seen [] = sym (append-nil seen)
from_seen seen (v ∷ vs) =
    elim (list_any (identical v) seen) as (λ b. list_any (identical v) seen ≡ b → fold with_first (cond b seen (seen ++ v ∷ [])) vs ≡ seen ++ cond (not b) (v ∷ filter (is_new seen) rest) (filter (is_new seen) rest)) [
      | true ↦ λ e.
          from_seen seen vs
          ∙ ap (λ r. seen ++ r) (sym (filter_twice (is_new seen) (λ u. not (identical v u)) (distinct identical vs)
          ∙ filter_alike (λ u. not (identical v u) && is_new seen u) (is_new seen) (distinct identical vs) (λ u. old_apart seen v u e)))
      | false ↦ λ e.
          from_seen (seen ++ v ∷ []) vs
          ∙ append_assoc seen (v ∷ []) (filter (is_new (seen ++ v ∷ [])) (distinct identical vs))
          ∙ ap (λ r. seen ++ v ∷ r) (sym (filter_twice (is_new seen) (λ u. not (identical v u)) (distinct identical vs)
          ∙ filter_alike (λ u. not (identical v u) && is_new seen u) (is_new (seen ++ v ∷ [])) (distinct identical vs) (λ u. new_apart seen v u)))
    ] refl
  where
    rest : List Strided
    rest = filter (λ u. not (identical v u)) (distinct identical vs)

pub firsts_distinct : (vs : List Strided) → firsts vs ≡ distinct identical vs
firsts_distinct vs = from_seen [] vs ∙ kept (distinct identical vs)
  where
    kept : (us : List Strided) → filter (is_new []) us ≡ us
    kept [] = refl
    kept (u ∷ us) = ap (λ r. u ∷ r) (kept us)

pub firsts_more : (all : List Strided) (i : ℕ) (v : Strided) → i < length all → get_or all i v ≡ v → firsts (take (i + 1) all) ≡ with_first (firsts (take i all)) v
firsts_more all i v inside here =
    ap firsts (take_more all i v inside ∙ ap (λ w. take i all ++ w ∷ []) here) ∙ fold-append with_first [] (take i all) (v ∷ [])
