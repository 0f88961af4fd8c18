use Rattle.std.proofs.Common.{◌≡◌, ◌∙◌, ℕ, ◌+◌, ◌*◌, ◌≤◌, ap, sym, subst, arith}
use Rattle.std.specs.FinMap as finite
use Rattle.arr_view.specs.Strided.{Strided}
use Rattle.arr_view.specs.Views.{positions}
use Rattle.arr_store.specs.Buffers.{cell_of}
use Rattle.arr_store.specs.Cells.{number_at, size_at, width_at}
use Rattle.arr_store.specs.Runs.{LiesIn, run_place}
use Rattle.arr_store.specs.Stored.{cells}
use Rattle.arr_strips.specs.Columns.{place_at}
use Rattle.arr_rows.specs.Courses.{IsAt, IsRunOf}
use Rattle.arr_rows.proofs.Courses.{run_lies, run_seen}
use Rattle.arr_rows.proofs.Strips.{counted, lane_more}
use Rattle.arr_rows.proofs.rows.Rows.load.Goals as goal

pub load_run-requires-clause-there : goal.load_run-requires-clause-there
load_run-requires-clause-there c =
    let within : c.args.position + c.loop-done.done + c.next_run-run.result.count ≤ positions c.args.self.now.lengths = omega (arith, c.requires.within, c.next_run-run.ensures.most, c.loop-done-test.true) in
    let is : IsRunOf c.args.self.now (c.args.position + c.loop-done.done) c.next_run-run.result =
    subst (λ p. IsRunOf c.args.self.now p c.next_run-run.result) c.loop-done.invariant.position (subst (λ w. IsRunOf w c.loop-done.course.position c.next_run-run.result) c.self.view_is c.next_run-run.ensures.run) in
    let base : c.base.result ≡ c.args.self.now.base = c.base.ensures.value ∙ ap (λ (w : Strided). w.base) c.self.view_is in
    let cell = ap (λ m. finite.get m c.args.self.now.base) c.loop-done.invariant.bases in
    subst (λ b. LiesIn (size_at (cells c.loop-done.store b)) c.next_run-run.result.start c.next_run-run.result.stride c.next_run-run.result.count) (sym base)
    (subst (λ o. LiesIn (size_at o) c.next_run-run.result.start c.next_run-run.result.stride c.next_run-run.result.count) (sym cell)
    (run_lies c.args.self.now (c.args.position + c.loop-done.done) (size_at (cells c.args.store.now c.args.self.now.base)) c.next_run-run.result c.loop-done.invariant.at.rows.view c.requires.inside is within))

pub loop-done-preserved : goal.loop-done-preserved
loop-done-preserved c =
    let within : c.args.position + c.loop-done.done + c.next_run-run.result.count ≤ positions c.args.self.now.lengths = omega (arith, c.requires.within, c.next_run-run.ensures.most, c.loop-done-test.true) in
    let is : IsRunOf c.args.self.now (c.args.position + c.loop-done.done) c.next_run-run.result =
    subst (λ p. IsRunOf c.args.self.now p c.next_run-run.result) c.loop-done.invariant.position (subst (λ w. IsRunOf w c.loop-done.course.position c.next_run-run.result) c.self.view_is c.next_run-run.ensures.run) in
    let base : c.base.result ≡ c.args.self.now.base = c.base.ensures.value ∙ ap (λ (w : Strided). w.base) c.self.view_is in
    let cell = ap (λ b. cells c.loop-done.store b) base ∙ ap (λ m. finite.get m c.args.self.now.base) c.loop-done.invariant.bases in
    let wanted = λ (i : ℕ). number_at (cells c.args.store.now c.args.self.now.base) (place_at c.args.self.now (c.args.position + i)) in
    record {
      at = subst (λ w. IsAt w c.next_run-run.new.self) c.self.view_is c.next_run-run.ensures.at;
      position = c.next_run-run.ensures.position ∙ ap (λ p. p + c.next_run-run.result.count) c.loop-done.invariant.position
          ∙ (let e : c.args.position + c.loop-done.done + c.next_run-run.result.count ≡ c.args.position + (c.loop-done.done + c.next_run-run.result.count) = omega arith in e);
      done = omega (arith, c.next_run-run.ensures.most, c.loop-done-test.true);
      elem = c.load_run.ensures.elem ∙ c.loop-done.invariant.elem;
      long = c.load_run.ensures.length ∙ c.loop-done.invariant.long;
      each = lane_more wanted (cell_of c.loop-done.lane).numbers (cell_of c.load_run.new.lane).numbers c.loop-done.done c.next_run-run.result.count c.loop-done.invariant.each
          (λ i l. c.load_run.ensures.each i l ∙ ap (λ o. number_at o (run_place c.next_run-run.result.start c.next_run-run.result.stride i)) cell
          ∙ ap (number_at (cells c.args.store.now c.args.self.now.base)) (run_seen c.args.self.now (c.args.position + c.loop-done.done) c.next_run-run.result c.loop-done.invariant.at.rows.view is within i l
          ∙ ap (place_at c.args.self.now) (let e : c.args.position + c.loop-done.done + i ≡ c.args.position + (c.loop-done.done + i) = omega arith in e)))
          c.load_run.ensures.before;
      behind = λ k l. c.load_run.ensures.behind k l ∙ c.loop-done.invariant.behind k (omega arith);
      bases = c.load_run.ensures.bases ∙ c.loop-done.invariant.bases;
      loads = c.load_run.ensures.loads ∙ ap (λ n. n + c.next_run-run.result.count * width_at (cells c.loop-done.store c.base.result)) c.loop-done.invariant.loads
          ∙ ap (λ o. c.args.store.now.loads + c.loop-done.done * width_at (cells c.args.store.now c.args.self.now.base) + c.next_run-run.result.count * width_at o) cell
          ∙ counted c.args.store.now.loads c.loop-done.done c.next_run-run.result.count (width_at (cells c.args.store.now c.args.self.now.base));
      stores = c.load_run.ensures.stores ∙ c.loop-done.invariant.stores;
      made = c.load_run.ensures.made ∙ c.loop-done.invariant.made;
    }
