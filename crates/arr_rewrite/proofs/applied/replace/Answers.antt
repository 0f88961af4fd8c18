use Rattle.std.proofs.Common.{◌≡◌, ℕ, ◌+◌, List, ap, ap₂, sym, ◌∙◌, Some, take, drop, get_or}
use Rattle.arr_rewrite.specs.NextRewrite.{replacement, replaced}
use Rattle.arr_ops.specs.declared.op.Op.{Op}
use Rattle.arr_rewrite.proofs.Places.{Item, item_at, same_item, set_around, behind}
use Rattle.arr_rewrite.proofs.Settling.{settled_replaced}
use Rattle.arr_rewrite.proofs.applied.replace.Goals as goal

pub returns-in-Some-clause-becomes : goal.returns-in-Some-clause-becomes
returns-in-Some-clause-becomes c op e =
    let list : List Op = c.args.list.now.items in
    let p : ℕ = c.args.place in
    let x : Op = c.index-ops-place.result in
    let value = c.as_slice-ops.ensures.value in
    let same : op ≡ x = same_item list p op x c.requires.place e (c.index-ops-place.is ∙ ap (λ ys. get_or ys p x) value) in
    let back = behind c.as_slice-ops.result.now list p value in
    let told : replacement (take p list) op (drop (p + 1) list) ≡ Some c.in-Some.next =
    ap (λ o. replacement (take p list) o (drop (p + 1) list)) same ∙ ap₂ (λ a b. replacement a x b) (sym (ap (take p) value)) (sym back) ∙ sym c.in_ok-next.ensures ∙ c.in-Some.is in
    ap (replaced (take p list) (drop (p + 1) list)) told ∙ ap Some (sym (set_around list p c.in-Some.next c.requires.place))

pub returns-in-Some-clause-settled : goal.returns-in-Some-clause-settled
returns-in-Some-clause-settled c s =
    let list : List Op = c.args.list.now.items in
    let p : ℕ = c.args.place in
    let x : Op = c.index-ops-place.result in
    let value = c.as_slice-ops.ensures.value in
    let k : Item list p = item_at list p c.requires.place in
    let same : k.item ≡ x = same_item list p k.item x c.requires.place k.is (c.index-ops-place.is ∙ ap (λ ys. get_or ys p x) value) in
    let back = behind c.as_slice-ops.result.now list p value in
    let told : replacement (take p list) k.item (drop (p + 1) list) ≡ Some c.in-Some.next =
    ap (λ o. replacement (take p list) o (drop (p + 1) list)) same ∙ ap₂ (λ a b. replacement a x b) (sym (ap (take p) value)) (sym back) ∙ sym c.in_ok-next.ensures ∙ c.in-Some.is in
    settled_replaced list p k c.in-Some.next c.requires.place c.requires.formed told s
