use Rattle.std.proofs.Common.{◌≡◌, ℕ, ◌+◌, ◌<◌, List, Bool, false, length, map, get_or, ap, sym, ◌∙◌, subst, arith}
use Rattle.std.proofs.lemmas.List.{length-map}
use Rattle.arr_view.specs.Strided.{Strided}
use Rattle.arr_view.specs.Views.{overlap}
use Rattle.arr_overlap.specs.Classes.{AreMarks, view_at}
use Rattle.arr_overlap.proofs.ClassesMeet.{Row, bit_there, earlier_row, overlap_turned, row_apart, row_met, row_whole}
use Rattle.arr_overlap.proofs.classes.row_of.Goals as goal
use Rattle.arr_overlap.proofs.classes.row_of.Goals.{then-meets, else-meets, then-other-at, else-other-at+in_ok-meets}

pub has-meets-requires : goal.has-meets-requires
has-meets-requires c =
    let views : List Strided = c.args.views.now in
    let rows : List (List Bool) = c.args.rows.now in
    let row : c.index-rows-other.result ≡ map (overlap (view_at views c.loop-other.other)) views =
    c.index-rows-other.is ∙ earlier_row views rows (length rows) c.loop-other.other c.index-rows-other.result c.requires.rows c.if-other-at.true (let m : length rows < length views = c.requires.more in omega arith) in
    subst (λ n. length rows < n) (sym (ap length row ∙ length-map views (overlap (view_at views c.loop-other.other)))) c.requires.more

pub loop-other-preserved : goal.loop-other-preserved
loop-other-preserved c =
    let views : List Strided = c.args.views.now in
    let rows : List (List Bool) = c.args.rows.now in
    let other : ℕ = c.loop-other.other in
    let v : Strided = view_at views (length rows) in
    let more : length rows < length views = c.requires.more in
    let told : c.if-other-at.meets ≡ overlap v (view_at views other) =
    elim c.if-other-at.branch [
      | then-other-at w ↦ w.meets-is ∙ w.has-meets.ensures
          ∙ ap (λ r. get_or r (length rows) false) (w.index-rows-other.is ∙ earlier_row views rows (length rows) other w.index-rows-other.result c.requires.rows w.if-other-at.true (omega arith))
          ∙ bit_there views (view_at views other) (length rows) more ∙ overlap_turned (view_at views other) v
      | else-other-at+in_ok-meets w ↦ w.meets-is ∙ w.in_ok-meets.ensures.value
    ] in
    record {
      row = elim c.if-meets.branch [
        | then-meets w ↦ subst (λ r. Row v views (other + 1) r) (sym (w.row-is ∙ w.insert.ensures)) (row_met v views other c.loop-other.row c.loop-other-test.true (sym told ∙ w.if-meets.true) c.loop-other.invariant.row)
        | else-meets w ↦ subst (λ r. Row v views (other + 1) r) (sym w.row-is) (row_apart v views other c.loop-other.row (sym told ∙ w.if-meets.false) c.loop-other.invariant.row)
      ];
      marked = elim c.if-other-at.branch [
        | then-other-at w ↦ subst (λ m. AreMarks m views) (ap (λ (m : _). m.items) (sym w.marks-is)) c.loop-other.invariant.marked
        | else-other-at+in_ok-meets w ↦ subst (λ m. AreMarks m views) (ap (λ (m : _). m.items) (sym w.marks-is)) w.in_ok-meets.ensures.marked
      ];
    }

pub returns-clause-row : goal.returns-clause-row
returns-clause-row c = row_whole (view_at c.args.views.now (length c.args.rows.now)) c.args.views.now c.loop-other.other c.loop-other.row c.loop-other-test.false c.loop-other.invariant.row
