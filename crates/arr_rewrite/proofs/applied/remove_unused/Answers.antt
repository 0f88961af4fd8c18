use Rattle.std.proofs.Common.{◌≡◌, ℕ, suc, ◌+◌, List, ◌++◌, true, not, ap, ap₂, sym, ◌∙◌, arith, Some, take, drop, get_or}
use Rattle.std.specs.List.{list_all}
use Rattle.arr_view.specs.Views.{has}
use Rattle.arr_ops.specs.Ops.{named}
use Rattle.arr_ops.specs.declared.op.Op.{Op}
use Rattle.arr_rewrite.specs.NextRewrite.{unused, unfreed}
use Rattle.arr_rewrite.proofs.Places.{Item, item_at, same_item, behind, frees_removed}
use Rattle.arr_rewrite.proofs.Settling.{settled_unused, unused_long}
use Rattle.arr_rewrite.proofs.applied.remove_unused.Goals as goal

pub returns-in-Some-clause-left : goal.returns-in-Some-clause-left
returns-in-Some-clause-left c op e =
    let list : List Op = c.args.list.now.items in
    let p : ℕ = c.args.place in
    let b : ℕ = c.in-Some.base in
    let x : Op = c.index-ops-place.result in
    let value = c.as_slice-ops.ensures.value in
    let same : op ≡ x = same_item list p op x c.requires.place e (c.index-ops-place.is ∙ ap (λ ys. get_or ys p x) value) in
    let back = behind c.as_slice-ops.result.now list p value in
    let told : unused (take p list) op (drop (p + 1) list) op.out ≡ Some (take p list ++ unfreed (drop (p + 1) list) b) =
    ap (λ (o : Op). unused (take p list) o (drop (p + 1) list) o.out) same ∙ ap₂ (λ fs gs. unused fs x gs x.out) (sym (ap (take p) value)) (sym back) ∙ c.in-Some.ensures.left
    ∙ ap₂ (λ fs gs. Some (fs ++ unfreed gs b)) (ap (take p) value) back in
    let unnamed : list_all (λ f. not (has (named f) b)) (take p list) ≡ true = ap (λ fs. list_all (λ f. not (has (named f) b)) (take p fs)) (sym value) ∙ c.in-Some.ensures.unnamed in
    let next : suc p ≡ p + 1 = omega arith in
    let left : c.remove_frees.new.list.items ≡ take p list ++ unfreed (drop (p + 1) list) b =
    c.remove_frees.ensures ∙ ap (λ fs. unfreed fs b) (c.remove.ensures.items ∙ ap (λ k. take p list ++ drop k list) next) ∙ frees_removed b (take p list) (drop (p + 1) list) unnamed in
    told ∙ ap Some (sym left)

pub returns-in-Some-clause-long : goal.returns-in-Some-clause-long
returns-in-Some-clause-long c =
    let list : List Op = c.args.list.now.items in
    let p : ℕ = c.args.place in
    let k : Item list p = item_at list p c.requires.place in
    unused_long list c.remove_frees.new.list.items p k c.requires.place (returns-in-Some-clause-left c k.item k.is)

pub returns-in-Some-clause-settled : goal.returns-in-Some-clause-settled
returns-in-Some-clause-settled c s =
    let list : List Op = c.args.list.now.items in
    let p : ℕ = c.args.place in
    let k : Item list p = item_at list p c.requires.place in
    settled_unused list c.remove_frees.new.list.items p k c.requires.place c.requires.formed (returns-in-Some-clause-left c k.item k.is) s
