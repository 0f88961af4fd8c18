use Rattle.std.proofs.Common.{◌∙◌, ◌||◌, ℕ, List, ap, ap₂, sym, arith, false, get_or, take, refl}
use Rattle.std.specs.List.{list_any}
use Rattle.std.proofs.lemmas.List.{take_all}
use Rattle.arr_cost.specs.Touches.{frees_number, touched_by, untouched}
use Rattle.arr_cost.proofs.Marking.{or_assoc, touched_more}
use Rattle.arr_cost.proofs.tally.mark_all_freed.Goals as goal

pub loop-place-preserved : goal.loop-place-preserved
loop-place-preserved c =
    let long = c.loop-place.invariant.long in
    record {
      long = c.mark_freed.ensures.long ∙ c.loop-place.invariant.long;
      each = λ b below. c.mark_freed.ensures.each b (omega arith)
          ∙ ap₂ (λ x y. x || frees_number b y) (c.loop-place.invariant.each b below) c.touches_at-touches.ensures.value
          ∙ or_assoc (get_or c.args.marked.now b false) (list_any (frees_number b) (touched_by c.args.table.now (take c.loop-place.place c.args.block.now))) (frees_number b (get_or c.args.table.now (get_or c.args.block.now c.loop-place.place 0) untouched))
          ∙ ap (λ r. get_or c.args.marked.now b false || r) (sym (touched_more (frees_number b) c.args.table.now c.args.block.now c.loop-place.place (get_or c.args.block.now c.loop-place.place 0) c.loop-place-test.true refl));
    }

pub returns-clause-each : goal.returns-clause-each
returns-clause-each c = λ b below.
    c.loop-place.invariant.each b below ∙ ap (λ (ns : List ℕ). get_or c.args.marked.now b false || list_any (frees_number b) (touched_by c.args.table.now ns)) (take_all c.loop-place.place c.args.block.now c.loop-place-test.false)
