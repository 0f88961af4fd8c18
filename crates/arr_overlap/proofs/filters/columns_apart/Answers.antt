use Rattle.std.proofs.Common.{◌≡◌, ◌+◌, ◌-◌, ◌%◌, ◌<◌, true, ap, ap₂, sym, ◌∙◌, subst, arith}
use Rattle.std.specs.List.{list_all}
use Rattle.std.proofs.lemmas.Bool.{ltb-true}
use Rattle.arr_view.specs.Views.{elements}
use Rattle.arr_overlap.specs.Filters.{in_columns}
use Rattle.arr_overlap.proofs.Apart.{apart}
use Rattle.arr_overlap.proofs.Columns.{columns_never}
use Rattle.arr_overlap.proofs.filters.columns_apart.Goals as goal

pub returns-then-from-gap : goal.returns-then-from-gap
returns-then-from-gap c v w o p told =
    let a = c.args.a.now in
    let b = c.args.b.now in
    let same : a.row ≡ b.row = c.if-a-b.false in
    let low : a.column < a.row = o.column in
    let low' : b.column < a.row = subst (λ r. b.column < r) (sym same) p.column in
    let row : c.from-row.result ≡ a.row = c.from-row.ensures in
    let gap : (c.from.result + (c.from-row.result - c.from-2.result)) % c.from-row.result ≡ (b.column + (a.row - a.column)) % a.row =
    ap₂ (λ x r. (x + (r - c.from-2.result)) % r) c.from.ensures row ∙ ap (λ y. (b.column + (a.row - y)) % a.row) c.from-2.ensures in
    let width : c.from-3.result ≡ a.width = c.from-3.ensures in
    let width' : c.from-then-from-gap.result ≡ b.width = c.from-then-from-gap.ensures in
    let near : a.width < (b.column + (a.row - a.column)) % a.row = omega arith in
    let found : c.from-then-from-gap.result + (c.from.result + (c.from-row.result - c.from-2.result)) % c.from-row.result < c.from-row.result = ltb-true _ _ told in
    let far : b.width + (b.column + (a.row - a.column)) % a.row < a.row = omega arith in
    apart (in_columns a.row a.column a.width) (in_columns a.row b.column b.width) (elements v) (elements w) o.columns
    (subst (λ r. list_all (in_columns r b.column b.width) (elements w) ≡ true) (sym same) p.columns) (columns_never a.row a.column a.width b.column b.width low low' near far)
