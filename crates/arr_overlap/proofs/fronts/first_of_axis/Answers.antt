use Rattle.std.proofs.Common.{◌≡◌, ℕ, ◌+◌, ◌<◌, ◌≤◌, ◌∷◌, [], ◌++◌, List, true, cond, length, get_or, drop, set, ap, sym, ◌∙◌, subst, append_assoc, append-nil, arith}
use Rattle.std.specs.Prelude.{◌==◌}
use Rattle.std.proofs.lemmas.Bool.{eq-eqb, ne_eqb}
use Rattle.std.proofs.lemmas.List.{drop_all, length-set}
use Rattle.arr_view.specs.Strided.{Strided}
use Rattle.arr_view.proofs.Checks.{lawful}
use Rattle.arr_overlap.specs.Filters.{fits_in}
use Rattle.arr_overlap.proofs.Runs.{one_fits, one_turn}
use Rattle.arr_overlap.proofs.fronts.first_of_axis.Goals as goal
use Rattle.arr_overlap.proofs.fronts.first_of_axis.Goals.{then-dimension-axis, else-dimension-axis}

pub loop-dimension-preserved : goal.loop-dimension-preserved
loop-dimension-preserved c =
    let v : Strided = c.args.view.now in
    let ns : List ℕ = v.lengths in
    let i : ℕ = c.loop-dimension.dimension in
    let items : List ℕ = c.loop-dimension.lengths.items in
    let heads : List ℕ = set ns c.args.axis 1 in
    let below : i < length ns = subst (λ xs. i < length xs) c.shape-length-items.ensures.value c.loop-dimension-test.true in
    let own : get_or c.shape-length-items.result.now i 0 ≡ get_or ns i 0 = ap (λ xs. get_or xs i 0) c.shape-length-items.ensures.value in
    let value : c.if-dimension-axis.push ≡ cond (i == c.args.axis) 1 (get_or ns i 0) =
    elim c.if-dimension-axis.branch [
      | then-dimension-axis w ↦ w.push-is ∙ sym (ap (λ b. cond b 1 (get_or ns i 0)) (eq-eqb i c.args.axis w.if-dimension-axis.true))
      | else-dimension-axis w ↦ w.push-is ∙ own ∙ sym (ap (λ b. cond b 1 (get_or ns i 0)) (ne_eqb i c.args.axis w.if-dimension-axis.false))
    ] in
    record {
      many = c.push.ensures.len ∙ ap (λ k. k + 1) c.loop-dimension.invariant.many;
      rest =
          ap (λ xs. xs ++ drop (i + 1) heads) c.push.ensures.items ∙ append_assoc items (c.if-dimension-axis.push ∷ []) (drop (i + 1) heads)
          ∙ ap (λ n. items ++ (n ∷ drop (i + 1) heads)) value ∙ ap (λ xs. items ++ xs) (sym (one_turn ns c.args.axis i below)) ∙ c.loop-dimension.invariant.rest;
    }

pub front-requires : goal.front-requires
front-requires c =
    let v : Strided = c.args.view.now in
    let heads : List ℕ = set v.lengths c.args.axis 1 in
    let done : length v.lengths ≤ c.loop-dimension.dimension = subst (λ xs. length xs ≤ c.loop-dimension.dimension) c.shape-length-items.ensures.value c.loop-dimension-test.false in
    let same : length heads ≡ length v.lengths = length-set v.lengths c.args.axis 1 in
    let whole : c.loop-dimension.lengths.items ≡ heads =
    sym (append-nil c.loop-dimension.lengths.items) ∙ sym (ap (λ ns. c.loop-dimension.lengths.items ++ ns) (drop_all c.loop-dimension.dimension heads (omega arith))) ∙ c.loop-dimension.invariant.rest in
    subst (λ xs. fits_in xs v.lengths ≡ true) (sym (c.as_slice.ensures.value ∙ whole)) (one_fits v.lengths c.args.axis (lawful v c.shape-length-items.ensures.lawful).lengths)
