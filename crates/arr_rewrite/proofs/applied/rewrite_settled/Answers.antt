use Rattle.std.proofs.Common.{◌≡◌, ℕ, ◌+◌, ◌-◌, suc, List, [], cond, take, drop, ap, sym, subst, ◌∙◌, arith, Some, None}
use Rattle.arr_ops.specs.declared.op.Op.{Op}
use Rattle.arr_rewrite.specs.NextRewrite.{rewrite_from}
use Rattle.arr_rewrite.specs.Settled.{Settled, SettledTo}
use Rattle.arr_rewrite.proofs.Places.{Item, item_at}
use Rattle.arr_rewrite.proofs.Settling.{IsUnused, at_item, settled_less, settled_next, settled_removes}
use Rattle.arr_rewrite.proofs.applied.rewrite_settled.Goals as goal

pub returns-then-remove_unused-clause-next : goal.returns-then-remove_unused-clause-next
returns-then-remove_unused-clause-next c =
    let list : List Op = c.args.list.now.items in
    let p : ℕ = c.loop-place.place in
    let more : c.args.settled - p ≡ suc (c.args.settled - (p + 1)) = omega arith in
    let k : Item list p = item_at list p (omega arith) in
    let s : Settled (suc (c.args.settled - (p + 1))) (take p list) (drop p list) = subst (λ n. Settled n (take p list) (drop p list)) more c.loop-place.invariant.settled in
    let here = at_item (IsUnused p (cond c.remove_unused.result (Some c.remove_unused.new.list.items) None)) list c.loop-place.list.items p k c.loop-place.invariant.same c.remove_unused.ensures.left in (
      sym c.loop-place.invariant.left ∙ settled_removes list c.remove_unused.new.list.items p (c.args.settled - (p + 1)) c.remove_unused.result k s here
          ∙ ap (λ b. cond b (Some c.remove_unused.new.list.items) (rewrite_from (take (p + 1) list) (drop (p + 1) list))) c.if-remove_unused.true,
      c.remove_unused.ensures.long,
      c.remove_unused.ensures.settled (subst (SettledTo p) (sym c.loop-place.invariant.same) (settled_less p c.args.settled [] list (omega arith) c.requires.settled)),
    )

pub loop-place-preserved : goal.loop-place-preserved
loop-place-preserved c =
    let list : List Op = c.args.list.now.items in
    let p : ℕ = c.loop-place.place in
    let more : c.args.settled - p ≡ suc (c.args.settled - (p + 1)) = omega arith in
    let k : Item list p = item_at list p (omega arith) in
    let s : Settled (suc (c.args.settled - (p + 1))) (take p list) (drop p list) = subst (λ n. Settled n (take p list) (drop p list)) more c.loop-place.invariant.settled in
    let here = at_item (IsUnused p (cond c.remove_unused.result (Some c.remove_unused.new.list.items) None)) list c.loop-place.list.items p k c.loop-place.invariant.same c.remove_unused.ensures.left in
    record {
      same = c.remove_unused.ensures.kept c.if-remove_unused.false ∙ c.loop-place.invariant.same;
      settled = settled_next list p (c.args.settled - (p + 1)) k s;
      left =
          sym (settled_removes list c.remove_unused.new.list.items p (c.args.settled - (p + 1)) c.remove_unused.result k s here
          ∙ ap (λ b. cond b (Some c.remove_unused.new.list.items) (rewrite_from (take (p + 1) list) (drop (p + 1) list))) c.if-remove_unused.false) ∙ c.loop-place.invariant.left;
    }
