use Rattle.std.proofs.Common.{ℕ, ◌+◌, List, cond, take, drop, length, subst, ap, sym, refl, ◌∙◌, arith, Some, None}
use Rattle.arr_ops.specs.declared.op.Op.{Op}
use Rattle.arr_rewrite.specs.NextRewrite.{unused}
use Rattle.arr_rewrite.specs.Settled.{SettledTo}
use Rattle.arr_rewrite.proofs.Places.{Item, item_at, replaced_place}
use Rattle.arr_rewrite.proofs.Settling.{Becomes, Goes, IsUnused, at_item, rest_place, settled_on}
use Rattle.arr_rewrite.proofs.applied.rewrite_rest.Goals as goal

pub returns-then-branch-clause-next : goal.returns-then-branch-clause-next
returns-then-branch-clause-next c =
    let list : List Op = c.args.list.now.items in
    let next : List Op = c.replace.new.list.items in
    let p : ℕ = c.loop-place.place in
    let k : Item list p = item_at list p (omega arith) in
    let here = at_item (Becomes p (cond c.in_ok-replace.field-0 (Some next) None)) list c.loop-place.list.items p k c.loop-place.invariant.same c.in_ok-replace.ensures.becomes in (
      sym c.loop-place.invariant.left ∙ replaced_place list next p k (here ∙ ap (λ b. cond b (Some next) None) c.if-branch.true),
      (let long = c.in_ok-replace.ensures.long in let same = ap length c.loop-place.invariant.same in omega arith),
      c.in_ok-replace.ensures.settled (subst (SettledTo p) (sym c.loop-place.invariant.same) c.loop-place.invariant.settled),
    )

pub returns-then-remove_copy-clause-next : goal.returns-then-remove_copy-clause-next
returns-then-remove_copy-clause-next c =
    let list : List Op = c.args.list.now.items in
    let next : List Op = c.remove_copy.new.list.items in
    let p : ℕ = c.loop-place.place in
    let k : Item list p = item_at list p (omega arith) in
    let first = at_item (Becomes p (cond c.in_ok-replace.field-0 (Some c.replace.new.list.items) None)) list c.loop-place.list.items p k c.loop-place.invariant.same c.in_ok-replace.ensures.becomes in
    let same = c.in_ok-replace.ensures.kept c.if-branch.false ∙ c.loop-place.invariant.same in
    let second = at_item (Goes p (cond c.remove_copy.result (Some next) None)) list c.replace.new.list.items p k same c.remove_copy.ensures.left in (
      sym c.loop-place.invariant.left
          ∙ rest_place list p k None (Some next) (unused (take p list) k.item (drop (p + 1) list) k.item.out) (first ∙ ap (λ b. cond b (Some c.replace.new.list.items) None) c.if-branch.false) (second ∙ ap (λ b. cond b (Some next) None) c.if-remove_copy.true) (refl {a = unused (take p list) k.item (drop (p + 1) list) k.item.out}),
      omega arith,
      tt,
    )

pub returns-then-remove_unused-clause-next : goal.returns-then-remove_unused-clause-next
returns-then-remove_unused-clause-next c =
    let list : List Op = c.args.list.now.items in
    let next : List Op = c.remove_unused.new.list.items in
    let p : ℕ = c.loop-place.place in
    let k : Item list p = item_at list p (omega arith) in
    let first = at_item (Becomes p (cond c.in_ok-replace.field-0 (Some c.replace.new.list.items) None)) list c.loop-place.list.items p k c.loop-place.invariant.same c.in_ok-replace.ensures.becomes in
    let same = c.in_ok-replace.ensures.kept c.if-branch.false ∙ c.loop-place.invariant.same in
    let second = at_item (Goes p (cond c.remove_copy.result (Some c.remove_copy.new.list.items) None)) list c.replace.new.list.items p k same c.remove_copy.ensures.left in
    let third = at_item (IsUnused p (cond c.remove_unused.result (Some next) None)) list c.remove_copy.new.list.items p k (c.remove_copy.ensures.kept c.if-remove_copy.false ∙ same) c.remove_unused.ensures.left in (
      sym c.loop-place.invariant.left
          ∙ rest_place list p k None None (Some next) (first ∙ ap (λ b. cond b (Some c.replace.new.list.items) None) c.if-branch.false)
          (second ∙ ap (λ b. cond b (Some c.remove_copy.new.list.items) None) c.if-remove_copy.false) (third ∙ ap (λ b. cond b (Some next) None) c.if-remove_unused.true),
      c.remove_unused.ensures.long,
      c.remove_unused.ensures.settled (subst (SettledTo p) (sym (c.remove_copy.ensures.kept c.if-remove_copy.false ∙ same)) c.loop-place.invariant.settled),
    )

pub loop-place-preserved : goal.loop-place-preserved
loop-place-preserved c =
    let list : List Op = c.args.list.now.items in
    let p : ℕ = c.loop-place.place in
    let k : Item list p = item_at list p (omega arith) in
    let first = at_item (Becomes p (cond c.in_ok-replace.field-0 (Some c.replace.new.list.items) None)) list c.loop-place.list.items p k c.loop-place.invariant.same c.in_ok-replace.ensures.becomes
    ∙ ap (λ b. cond b (Some c.replace.new.list.items) None) c.if-branch.false in
    let same = c.in_ok-replace.ensures.kept c.if-branch.false ∙ c.loop-place.invariant.same in
    let second = at_item (Goes p (cond c.remove_copy.result (Some c.remove_copy.new.list.items) None)) list c.replace.new.list.items p k same c.remove_copy.ensures.left
    ∙ ap (λ b. cond b (Some c.remove_copy.new.list.items) None) c.if-remove_copy.false in
    let later = c.remove_copy.ensures.kept c.if-remove_copy.false ∙ same in
    let third = at_item (IsUnused p (cond c.remove_unused.result (Some c.remove_unused.new.list.items) None)) list c.remove_copy.new.list.items p k later c.remove_unused.ensures.left
    ∙ ap (λ b. cond b (Some c.remove_unused.new.list.items) None) c.if-remove_unused.false in
    record {
      same = c.remove_unused.ensures.kept c.if-remove_unused.false ∙ later;
      long = c.loop-place.invariant.long;
      settled = settled_on list p k c.loop-place.invariant.settled first second;
      left = sym (rest_place list p k None None None first second third) ∙ c.loop-place.invariant.left;
    }
