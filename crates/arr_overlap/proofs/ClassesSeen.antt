-- Views taken up one after another.
use Rattle.std.proofs.Common.{◌≡◌, ℕ, suc, ◌+◌, ◌<◌, ◌≤◌, List, [], ◌∷◌, ◌++◌, Bool, true, false, cond, Some, None, length, take, position, get_or, refl, ap, ap₂, sym, subst, ◌∙◌, arith}
use Rattle.std.specs.Prelude.{◌||◌, not, nat_lt}
use Rattle.std.specs.List.{list_all, list_any, position_or_len}
use Rattle.std.proofs.lemmas.Bool.{and_parts, and_from}
use Rattle.std.proofs.lemmas.List.{length-append, take_all}
use Rattle.std.proofs.lemmas.List.Folds.{list_all-append}
use Rattle.std.proofs.lemmas.List.Sums.{fold-append}
use Rattle.std.proofs.Math.Seq.{take-suc}
use Rattle.arr_view.specs.Strided.{Strided}
use Rattle.arr_view.specs.Views.{identical, is_view}
use Rattle.arr_overlap.specs.Classes.{firsts, with_first}
use Rattle.arr_overlap.proofs.Parts.{alike, parts_decide}

-- ---- the parts tell the class

same_found : (v : Strided) (ws : List Strided) → is_view v ≡ true → list_all is_view ws ≡ true → list_any (alike v) ws ≡ list_any (identical v) ws
same_found v [] law all = refl
same_found v (w ∷ ws) law all =
    let p = and_parts (is_view w) _ all in
    ap₂ (λ a b. a || b) (parts_decide v w law p.0) (same_found v ws law p.1)

same_count : (v : Strided) (ws : List Strided) → is_view v ≡ true → list_all is_view ws ≡ true → position_or_len (alike v) ws ≡ position_or_len (identical v) ws
same_count v [] law all = refl
same_count v (w ∷ ws) law all =
    let p = and_parts (is_view w) _ all in
    ap₂ (λ b n. cond (not b) (1 + n) 0) (parts_decide v w law p.0) (same_count v ws law p.1)

pub same_place : (v : Strided) (ws : List Strided) → is_view v ≡ true → list_all is_view ws ≡ true → position (alike v) ws ≡ position (identical v) ws
same_place v ws law all = ap (λ n. cond (nat_lt n (length ws)) (Some n) None) (same_count v ws law all)

-- ---- one more view

-- the first views of each class among the first i of all
pub record Seen (all : List Strided) (i : ℕ) (seen : List Strided) : Type 0 where
  pub found : seen ≡ firsts (take i all)
  pub lawful : list_all is_view seen ≡ true
  pub few : length seen ≤ i

lawful_more : (b : Bool) (seen : List Strided) (v : Strided) → is_view v ≡ true → list_all is_view seen ≡ true → list_all is_view (cond b seen (seen ++ v ∷ [])) ≡ true
lawful_more true seen v law all = all
lawful_more false seen v law all = list_all-append is_view seen (v ∷ []) ∙ and_from (list_all is_view seen) _ all (and_from (is_view v) true law refl)

few_more : (b : Bool) (seen : List Strided) (v : Strided) (i : ℕ) → length seen ≤ i → length (cond b seen (seen ++ v ∷ [])) ≤ i + 1
few_more true seen v i few = omega arith
few_more false seen v i few = omega (arith, length-append seen (v ∷ []))

firsts_more : (all : List Strided) (i : ℕ) (v : Strided) → i < length all → get_or all i v ≡ v → firsts (take (i + 1) all) ≡ with_first (firsts (take i all)) v
firsts_more all i v inside here =
    ap firsts (ap (λ n. take n all) (let e : i + 1 ≡ suc i = omega arith in e) ∙ take-suc all i v inside ∙ ap (λ w. take i all ++ w ∷ []) here)
    ∙ fold-append with_first [] (take i all) (v ∷ [])

pub one_more : (all seen next : List Strided) (i : ℕ) (v : Strided) → i < length all → get_or all i v ≡ v → is_view v ≡ true → Seen all i seen
    → next ≡ cond (list_any (alike v) seen) seen (seen ++ v ∷ []) → Seen all (i + 1) next
one_more all seen next i v inside here law seen_all e =
    let found : next ≡ with_first seen v = e ∙ ap (λ b. cond b seen (seen ++ v ∷ [])) (same_found v seen law seen_all.lawful) in
    record {
      found = found ∙ ap (λ s. with_first s v) seen_all.found ∙ sym (firsts_more all i v inside here);
      lawful = ap (list_all is_view) found ∙ lawful_more (list_any (identical v) seen) seen v law seen_all.lawful;
      few = subst (λ s. length s ≤ i + 1) (sym found) (few_more (list_any (identical v) seen) seen v i seen_all.few);
    }

pub none_yet : (all seen : List Strided) → seen ≡ [] → Seen all 0 seen
none_yet all seen e = record { found = e; lawful = ap (list_all is_view) e; few = subst (λ s. length s ≤ 0) (sym e) (omega arith) }

pub all_seen : (all seen : List Strided) (i : ℕ) → length all ≤ i → Seen all i seen → seen ≡ firsts all
all_seen all seen i after known = known.found ∙ ap firsts (take_all i all after)
