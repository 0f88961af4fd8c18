use Rattle.std.proofs.Common.{◌≡◌, ◌≤◌, ◌*◌, ℕ, List, true, length, ap, sym, ◌∙◌, arith, drop}
use Rattle.std.specs.Prelude.{nat_le, ok_or, Some, None, cond}
use Rattle.std.specs.List.{list_all}
use Rattle.std.proofs.lemmas.Bool.{eqb-false}
use Rattle.std.proofs.lemmas.List.{drop_all, take_all}
use Rattle.arr_view.specs.Views.{positions, has_rank, shape_from}
use Rattle.arr_shape.specs.declared.fault.ShapeFault.TheVariants.{RankRange}
use Rattle.arr_shape.proofs.Shapes.{no_zero, ranked, too_many, made, outgrows}
use Rattle.arr_shape.proofs.lengths.checked_shape.Goals as goal

pub returns-then-length-count : goal.returns-then-length-count
returns-then-length-count c =
    let ns : List ℕ = c.args.lengths.now in
    let all : list_all (nat_le 1) ns ≡ true = no_zero ns (sym c.contains.ensures.value ∙ c.if-contains.false) in
    let some : length ns ≡ 0 → ⊥ = λ e. eqb-false (length ns) 0 (sym c.is_empty.ensures ∙ c.if-is_empty.false) e in
    sym (too_many ns (ranked ns (omega arith) (omega arith)) all (outgrows ns c.loop-length.count c.loop-length.length-index all c.loop-length-test.true c.loop-length.invariant.some c.loop-length.invariant.value c.if-length-count.true))

pub returns : goal.returns
returns c =
    let ns : List ℕ = c.args.lengths.now in
    let i : ℕ = c.loop-length.length-index in
    let all : list_all (nat_le 1) ns ≡ true = no_zero ns (sym c.contains.ensures.value ∙ c.if-contains.false) in
    let some : length ns ≡ 0 → ⊥ = λ e. eqb-false (length ns) 0 (sym c.is_empty.ensures ∙ c.if-is_empty.false) e in
    let rank : has_rank ns ≡ true = ranked ns (omega arith) (omega arith) in
    let end : length ns ≤ i = c.loop-length-test.false in
    let counted : c.loop-length.count * positions (drop i ns) ≡ c.loop-length.count * 1 = ap (λ ms. c.loop-length.count * positions ms) (drop_all i ns end) in
    let value : c.loop-length.count * positions (drop i ns) ≡ positions ns = c.loop-length.invariant.value in
    let few : c.loop-length.count ≤ 1048576 = c.loop-length.invariant.few in
    let same : c.as_slice.result.now ≡ ns = c.as_slice.ensures.value ∙ c.loop-length.invariant.so_far ∙ take_all i ns end in
    c.ok_or.ensures.value ∙ ap (λ o. ok_or o RankRange) (c.new.ensures ∙ ap shape_from same ∙ ap (λ b. cond b (Some ns) None) rank) ∙ sym (made ns rank all (omega arith))
