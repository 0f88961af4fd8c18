use Rattle.std.proofs.Common.{◌≡◌, ℕ, ℤ, ◌%◌, ◌<◌, List, true, subst}
use Rattle.std.specs.Prelude.{nat_le}
use Rattle.std.specs.List.{list_all}
use Rattle.std.proofs.Math.Nat.{mod-lt}
use Rattle.std.proofs.lemmas.Bool.{and_parts, leb-true}
use Rattle.arr_view.specs.Strided.{Strided}
use Rattle.arr_view.specs.Views.{elements, lies}
use Rattle.arr_view.proofs.Ends.{passes}
use Rattle.arr_overlap.specs.Filters.{front_of, is_spaced, row_lengths}
use Rattle.arr_overlap.proofs.Columns.{elements_in_columns}
use Rattle.arr_overlap.proofs.filters.outline_of.Goals as goal

pub overflow_sub-result : goal.overflow_sub-result
overflow_sub-result c =
    let first : ℕ = c.ends-first.result.0 in
    let last : ℕ = c.ends-first.result.1 in
    let between : lies first last last ≡ true = passes (lies first last) (elements c.first_row.result) last c.ends-first.ensures.all c.ends-first.ensures.greatest in
    leb-true first last (and_parts (nat_le first last) (nat_le last last) between).0

pub returns : goal.returns
returns c =
    let v : Strided = c.args.view.now in
    let row : ℕ = c.row_length-row.result in
    let first : ℕ = c.ends-first.result.0 in
    let last : ℕ = c.ends-first.result.1 in
    let some : (first % row) < row = mod-lt first c.row_length-row.ensures in
    let part : list_all (lies first last) (elements (front_of v (row_lengths row v.lengths v.strides))) ≡ true =
    subst (λ w. list_all (lies first last) (elements w) ≡ true) c.first_row.ensures.value c.ends-first.ensures.all in
    record {
      lawful = c.start.ensures.lawful;
      start = c.start.ensures.value;
      between = c.ends-least.ensures.all;
      spaced = subst (λ (ss : List ℤ). is_spaced c.spacing.result ss ≡ true) c.strides-2.ensures.value c.spacing.ensures.strides;
      column = some;
      columns = elements_in_columns v row first last c.start.ensures.lawful some part;
    }
