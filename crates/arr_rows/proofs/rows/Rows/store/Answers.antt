use Rattle.std.proofs.Common.{◌≡◌, ◌∙◌, ◌+◌, ◌*◌, ◌≤◌, ap, sym, subst, drop, length, take, arith}
use Rattle.arr_view.specs.Strided.{Strided}
use Rattle.arr_view.specs.Views.{positions}
use Rattle.arr_store.specs.Buffers.{cell_of}
use Rattle.arr_store.specs.Cells.{assigned, size_at, width_at}
use Rattle.arr_store.specs.Runs.{IsOf, LiesIn, with_run}
use Rattle.arr_store.specs.Stored.{cells}
use Rattle.arr_strips.specs.Strips.{part}
use Rattle.arr_rows.specs.Courses.{IsAt, IsRunOf}
use Rattle.arr_rows.proofs.Courses.{run_lies}
use Rattle.arr_rows.proofs.Strips.{counted, of_put, size_put, stored_more, width_put}
use Rattle.arr_rows.proofs.rows.Rows.store.Goals as goal

pub store_run-requires-clause-base : goal.store_run-requires-clause-base
store_run-requires-clause-base c =
    let base : c.base.result ≡ c.args.self.now.base = c.base.ensures.value ∙ ap (λ (w : Strided). w.base) c.self.view_is in
    let e = c.loop-done.invariant.bases in
    let es = part c.args.self.now c.args.position c.loop-done.done in
    let xs = take c.loop-done.done (cell_of c.args.lane.now).numbers in
    subst (λ b. IsOf (cell_of c.args.lane.now).elem (cells c.loop-done.store b)) (sym base)
    (of_put (cell_of c.args.lane.now).elem c.args.self.now.base es xs (cells c.args.store.now) (cells c.loop-done.store) e c.requires.base)

pub store_run-requires-clause-there : goal.store_run-requires-clause-there
store_run-requires-clause-there c =
    let within : c.args.position + c.loop-done.done + c.next_run-run.result.count ≤ positions c.args.self.now.lengths = omega (arith, c.requires.within, c.next_run-run.ensures.most, c.loop-done-test.true) in
    let is : IsRunOf c.args.self.now (c.args.position + c.loop-done.done) c.next_run-run.result =
    subst (λ p. IsRunOf c.args.self.now p c.next_run-run.result) c.loop-done.invariant.position (subst (λ w. IsRunOf w c.loop-done.course.position c.next_run-run.result) c.self.view_is c.next_run-run.ensures.run) in
    let base : c.base.result ≡ c.args.self.now.base = c.base.ensures.value ∙ ap (λ (w : Strided). w.base) c.self.view_is in
    let e = c.loop-done.invariant.bases in
    let es = part c.args.self.now c.args.position c.loop-done.done in
    let xs = take c.loop-done.done (cell_of c.args.lane.now).numbers in
    let size = size_put c.args.self.now.base es xs (cells c.args.store.now) (cells c.loop-done.store) e in
    subst (λ b. LiesIn (size_at (cells c.loop-done.store b)) c.next_run-run.result.start c.next_run-run.result.stride c.next_run-run.result.count) (sym base)
    (subst (λ n. LiesIn n c.next_run-run.result.start c.next_run-run.result.stride c.next_run-run.result.count) (sym size)
    (run_lies c.args.self.now (c.args.position + c.loop-done.done) (size_at (cells c.args.store.now c.args.self.now.base)) c.next_run-run.result c.loop-done.invariant.at.rows.view c.requires.inside is within))

pub loop-done-preserved : goal.loop-done-preserved
loop-done-preserved c =
    let within : c.args.position + c.loop-done.done + c.next_run-run.result.count ≤ positions c.args.self.now.lengths = omega (arith, c.requires.within, c.next_run-run.ensures.most, c.loop-done-test.true) in
    let is : IsRunOf c.args.self.now (c.args.position + c.loop-done.done) c.next_run-run.result =
    subst (λ p. IsRunOf c.args.self.now p c.next_run-run.result) c.loop-done.invariant.position (subst (λ w. IsRunOf w c.loop-done.course.position c.next_run-run.result) c.self.view_is c.next_run-run.ensures.run) in
    let base : c.base.result ≡ c.args.self.now.base = c.base.ensures.value ∙ ap (λ (w : Strided). w.base) c.self.view_is in
    let e = c.loop-done.invariant.bases in
    let es = part c.args.self.now c.args.position c.loop-done.done in
    let xs = take c.loop-done.done (cell_of c.args.lane.now).numbers in
    let wide = ap (λ b. width_at (cells c.loop-done.store b)) base ∙ width_put c.args.self.now.base es xs (cells c.args.store.now) (cells c.loop-done.store) e in
    let long : c.loop-done.done + c.next_run-run.result.count ≤ length (cell_of c.args.lane.now).numbers = omega (arith, c.requires.lane, c.next_run-run.ensures.most, c.loop-done-test.true) in
    let next = c.store_run.ensures.bases
    ∙ ap (λ b. assigned (cells c.loop-done.store) b (with_run (cells c.loop-done.store b) c.next_run-run.result.start c.next_run-run.result.stride c.next_run-run.result.count
    (take c.next_run-run.result.count (drop c.loop-done.done (cell_of c.args.lane.now).numbers)))) base in
    record {
      at = subst (λ w. IsAt w c.next_run-run.new.self) c.self.view_is c.next_run-run.ensures.at;
      position = c.next_run-run.ensures.position ∙ ap (λ p. p + c.next_run-run.result.count) c.loop-done.invariant.position
          ∙ (let e : c.args.position + c.loop-done.done + c.next_run-run.result.count ≡ c.args.position + (c.loop-done.done + c.next_run-run.result.count) = omega arith in e);
      done = omega (arith, c.next_run-run.ensures.most, c.loop-done-test.true);
      bases = stored_more c.args.self.now c.args.position c.loop-done.done c.next_run-run.result (cell_of c.args.lane.now).numbers (cells c.args.store.now) (cells c.loop-done.store) (cells c.store_run.new.self)
          c.loop-done.invariant.at.rows.view long within is e next;
      loads = c.store_run.ensures.loads ∙ c.loop-done.invariant.loads;
      stores = c.store_run.ensures.stores ∙ ap (λ n. n + c.next_run-run.result.count * width_at (cells c.loop-done.store c.base.result)) c.loop-done.invariant.stores
          ∙ ap (λ d. c.args.store.now.stores + c.loop-done.done * width_at (cells c.args.store.now c.args.self.now.base) + c.next_run-run.result.count * d) wide
          ∙ counted c.args.store.now.stores c.loop-done.done c.next_run-run.result.count (width_at (cells c.args.store.now c.args.self.now.base));
      made = c.store_run.ensures.made ∙ c.loop-done.invariant.made;
    }
