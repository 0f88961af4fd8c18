use Rattle.std.proofs.Common.{◌≡◌, ℕ, ◌+◌, ◌<◌, ◌≤◌, ◌∷◌, [], ◌++◌, ℤ, pos, true, cond, length, get_or, drop, w32, ap, sym, ◌∙◌, subst, arith, append_assoc, append-nil, rules}
use Rattle.std.specs.Prelude.{unsigned_abs, ◌%◌}
use Rattle.std.proofs.lemmas.Int.{to_z-of_z}
use Rattle.std.proofs.lemmas.Bool.{eq-eqb, ne_eqb}
use Rattle.std.proofs.lemmas.List.{drop_all}
use mir.Val.{SFits}
use Rattle.arr_view.specs.Strided.{Strided}
use Rattle.arr_view.proofs.Checks.{lawful, same_rank}
use Rattle.arr_overlap.specs.Filters.{divides, fits_in, row_lengths}
use Rattle.arr_overlap.proofs.Smaller.{row_fits, row_turn}
use Rattle.arr_overlap.proofs.fronts.first_row.Goals as goal
use Rattle.arr_overlap.proofs.fronts.first_row.Goals.{then-leads_on, else-leads_on}

pub bounds-strides-axis : goal.bounds-strides-axis
bounds-strides-axis c =
    let v : Strided = c.args.view.now in
    let same : length v.strides ≡ length v.lengths = same_rank v c.strides-strides.ensures.lawful in
    let a : length c.shape-length-items.result.now ≡ length v.lengths = ap length c.shape-length-items.ensures.value in
    let b : length c.strides-strides.result.now ≡ length v.strides = ap length c.strides-strides.ensures.value in
    omega arith

pub loop-axis-preserved : goal.loop-axis-preserved
loop-axis-preserved c =
    let v : Strided = c.args.view.now in
    let i : ℕ = c.loop-axis.axis in
    let s : ℤ = get_or c.strides-strides.result.now i (pos 0) in
    let fits : SFits w32 s = search rules in
    let size : c.unsigned_abs.result ≡ unsigned_abs (get_or v.strides i (pos 0)) =
    c.unsigned_abs.ensures.value ∙ ap unsigned_abs (to_z-of_z w32 s fits) ∙ ap (λ xs. unsigned_abs (get_or xs i (pos 0))) c.strides-strides.ensures.value in
    let below : i < length v.lengths = subst (λ xs. i < length xs) c.shape-length-items.ensures.value c.loop-axis-test.true in
    let own : get_or c.shape-length-items.result.now i 0 ≡ get_or v.lengths i 0 = ap (λ xs. get_or xs i 0) c.shape-length-items.ensures.value in
    let leads : divides c.args.row c.unsigned_abs.result ≡ divides c.args.row (unsigned_abs (get_or v.strides i (pos 0))) = ap (divides c.args.row) size in
    let value : c.if-leads_on.push ≡ cond (divides c.args.row (unsigned_abs (get_or v.strides i (pos 0)))) 1 (get_or v.lengths i 0) =
    elim c.if-leads_on.branch [
      | then-leads_on w ↦ w.push-is ∙ sym (ap (λ b. cond b 1 (get_or v.lengths i 0)) (sym leads ∙ eq-eqb (c.unsigned_abs.result % c.args.row) 0 w.if-leads_on.true))
      | else-leads_on w ↦ w.push-is ∙ own ∙ sym (ap (λ b. cond b 1 (get_or v.lengths i 0)) (sym leads ∙ ne_eqb (c.unsigned_abs.result % c.args.row) 0 w.if-leads_on.false))
    ] in
    record {
      many = c.push.ensures.len ∙ ap (λ k. k + 1) c.loop-axis.invariant.many;
      rest =
          ap (λ xs. xs ++ row_lengths c.args.row (drop (i + 1) v.lengths) (drop (i + 1) v.strides)) c.push.ensures.items
          ∙ append_assoc c.loop-axis.lengths.items (c.if-leads_on.push ∷ []) (row_lengths c.args.row (drop (i + 1) v.lengths) (drop (i + 1) v.strides))
          ∙ ap (λ n. c.loop-axis.lengths.items ++ (n ∷ row_lengths c.args.row (drop (i + 1) v.lengths) (drop (i + 1) v.strides))) value
          ∙ ap (λ xs. c.loop-axis.lengths.items ++ xs) (sym (row_turn c.args.row v.lengths v.strides i (same_rank v c.strides-strides.ensures.lawful) below))
          ∙ c.loop-axis.invariant.rest;
    }

pub front-requires : goal.front-requires
front-requires c =
    let v : Strided = c.args.view.now in
    let law = c.strides-strides.ensures.lawful in
    let end : length v.lengths ≤ c.loop-axis.axis = subst (λ xs. length xs ≤ c.loop-axis.axis) c.shape-length-items.ensures.value c.loop-axis-test.false in
    let whole : c.loop-axis.lengths.items ≡ row_lengths c.args.row v.lengths v.strides =
    sym (append-nil c.loop-axis.lengths.items) ∙ sym (ap (λ ns. c.loop-axis.lengths.items ++ row_lengths c.args.row ns (drop c.loop-axis.axis v.strides)) (drop_all c.loop-axis.axis v.lengths end)) ∙ c.loop-axis.invariant.rest in
    subst (λ xs. fits_in xs v.lengths ≡ true) (sym (c.as_slice.ensures.value ∙ whole)) (row_fits c.args.row v.lengths v.strides (lawful v law).lengths (same_rank v law))
