-- What a leaf is worth, summed with saturation.
use Rattle.std.proofs.Common.{◌≡◌, ℕ, ◌+◌, ◌*◌, ◌<◌, List, [], ◌∷◌, ◌++◌, true, ◌&&◌, Some, length, take, ap, ap₂, sym, ◌∙◌, arith}
use Rattle.std.specs.Prelude.{min, nat_lt, not, ◌==◌, slice_get}
use Rattle.std.specs.List.{list_all, sum_by}
use Rattle.std.proofs.lemmas.Bool.{and_parts, ltb-true}
use Rattle.std.proofs.lemmas.List.Sums.{fold_push}
use Rattle.arr_ops.specs.Formed.{all_pairs}
use Rattle.arr_law.specs.declared.charge.Charge.{Charge}
use Rattle.arr_law.specs.declared.fact.Fact.TheVariants.{Apart}
use Rattle.arr_law.specs.Facts.{Facts}
use Rattle.arr_law.specs.Leaves.{class_of, is_group, is_leaf, surely_charges, worth}
use Rattle.arr_law.specs.Problem.{Problem, is_op}
use Rattle.arr_check.proofs.Loops.{all_there, taken_more}

sum_end : (f : Charge → ℕ) (xs : List Charge) (x : Charge) → sum_by f (xs ++ x ∷ []) ≡ sum_by f xs + f x
sum_end f xs x = fold_push (λ a y. a + f y) 0 xs x

-- capped parts, added and capped, are the capped sum
capped : (m s p : ℕ) → min (min s m + min p m) m ≡ min (s + p) m
capped m s p = omega arith

pub group_class : (P : Problem) (facts : Facts) (charges : List Charge) (i : ℕ) (x : Charge) → slice_get charges i ≡ Some x → is_leaf P facts charges ≡ true → class_of P x < P.classes
group_class P facts charges i x at leaf =
    let groups = (and_parts (list_all (is_group P facts) charges) (all_pairs (λ (a b : Charge). not (class_of P a == class_of P b)) charges) leaf).0 in
    let group = all_there (is_group P facts) charges i x at groups in
    let front = (and_parts (nat_lt (class_of P x) P.classes && list_all (is_op P) x.ops) ((all_pairs nat_lt x.ops && all_pairs (λ f g. facts (Apart f g)) x.ops) && list_all (λ f. surely_charges P facts f (class_of P x)) x.ops) group).0 in
    ltb-true (class_of P x) P.classes (and_parts (nat_lt (class_of P x) P.classes) (list_all (is_op P) x.ops) front).0

pub worth_more : (P : Problem) (charges : List Charge) (i : ℕ) (x : Charge) (m total next w : ℕ) → slice_get charges i ≡ Some x → total ≡ min (worth P (take i charges)) m → w ≡ P.weight (class_of P x)
    → next ≡ min (total + min (w * length x.ops) m) m → next ≡ min (worth P (take (i + 1) charges)) m
worth_more P charges i x m total next w at so_far weighs e =
    e ∙ ap₂ (λ t v. min (t + min (v * length x.ops) m) m) so_far weighs ∙ capped m (worth P (take i charges)) (P.weight (class_of P x) * length x.ops)
    ∙ ap (λ n. min n m) (sym (ap (worth P) (taken_more charges i x at) ∙ sum_end (λ (a : Charge). P.weight (class_of P a) * length a.ops) (take i charges) x))
