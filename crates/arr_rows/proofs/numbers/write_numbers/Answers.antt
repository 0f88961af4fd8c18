use Rattle.std.proofs.Common.{◌≡◌, ◌∙◌, ◌+◌, ◌-◌, ◌*◌, ◌≤◌, ap, ap₂, sym, subst, drop, length, take, arith, IsSome, length-drop}
use Rattle.std.specs.List.{list_all}
use Rattle.arr_view.specs.Views.{positions}
use Rattle.arr_store.specs.Cells.{assigned, size_at, takes, width_at}
use Rattle.arr_store.specs.Runs.{LiesIn, with_run}
use Rattle.arr_store.specs.Stored.{cells}
use Rattle.arr_store.proofs.Picked.{is_there}
use Rattle.arr_strips.specs.Strips.{part, put_at}
use Rattle.arr_rows.specs.Courses.{IsRunOf}
use Rattle.arr_rows.proofs.Courses.{run_lies, whole_part}
use Rattle.arr_rows.proofs.Strips.{counted, drop_behind, run_typed, size_put, stored_more, takes_put, there_put, width_put}
use Rattle.arr_rows.proofs.numbers.write_numbers.Goals as goal

pub store_numbers-requires-clause-typed : goal.store_numbers-requires-clause-typed
store_numbers-requires-clause-typed c =
    let within : c.loop-done.done + c.next_run-run.result.count ≤ positions c.args.out.now.lengths = omega (arith, c.positions-count.ensures.value, c.next_run-run.ensures.most, c.loop-done-test.true) in
    let is : IsRunOf c.args.out.now c.loop-done.done c.next_run-run.result = subst (λ p. IsRunOf c.args.out.now p c.next_run-run.result) c.loop-done.invariant.position c.next_run-run.ensures.run in
    let base : c.base.result ≡ c.args.out.now.base = c.base.ensures.value in
    let e = c.loop-done.invariant.bases in
    let es = part c.args.out.now 0 c.loop-done.done in
    let xs = take c.loop-done.done (drop c.args.from c.args.numbers.now) in
    let n = c.next_run-run.result.count in
    ap (λ test. list_all test (take n (drop (c.args.from + c.loop-done.done) c.args.numbers.now)))
    (ap (λ b. takes (cells c.loop-done.store b)) base ∙ takes_put c.args.out.now.base es xs (cells c.args.store.now) (cells c.loop-done.store) e)
    ∙ ap (λ ys. list_all (takes (cells c.args.store.now c.args.out.now.base)) (take n ys)) (drop_behind c.args.from c.loop-done.done c.args.numbers.now)
    ∙ run_typed (takes (cells c.args.store.now c.args.out.now.base)) (drop c.args.from c.args.numbers.now) (positions c.args.out.now.lengths) c.loop-done.done n within c.requires.typed

pub store_numbers-requires-clause-base : goal.store_numbers-requires-clause-base
store_numbers-requires-clause-base c =
    let e = c.loop-done.invariant.bases in
    let es = part c.args.out.now 0 c.loop-done.done in
    let xs = take c.loop-done.done (drop c.args.from c.args.numbers.now) in
    let there = is_there (cells c.args.store.now c.args.out.now.base) c.args.out.now c.loop-done.invariant.at.rows.view c.requires.inside in
    subst (λ b. IsSome (cells c.loop-done.store b)) (sym c.base.ensures.value) (there_put c.args.out.now.base es xs (cells c.args.store.now) (cells c.loop-done.store) e there)

pub store_numbers-requires-clause-there : goal.store_numbers-requires-clause-there
store_numbers-requires-clause-there c =
    let within : c.loop-done.done + c.next_run-run.result.count ≤ positions c.args.out.now.lengths = omega (arith, c.positions-count.ensures.value, c.next_run-run.ensures.most, c.loop-done-test.true) in
    let is : IsRunOf c.args.out.now c.loop-done.done c.next_run-run.result = subst (λ p. IsRunOf c.args.out.now p c.next_run-run.result) c.loop-done.invariant.position c.next_run-run.ensures.run in
    let base : c.base.result ≡ c.args.out.now.base = c.base.ensures.value in
    let e = c.loop-done.invariant.bases in
    let es = part c.args.out.now 0 c.loop-done.done in
    let xs = take c.loop-done.done (drop c.args.from c.args.numbers.now) in
    let size = size_put c.args.out.now.base es xs (cells c.args.store.now) (cells c.loop-done.store) e in
    subst (λ b. LiesIn (size_at (cells c.loop-done.store b)) c.next_run-run.result.start c.next_run-run.result.stride c.next_run-run.result.count) (sym base)
    (subst (λ n. LiesIn n c.next_run-run.result.start c.next_run-run.result.stride c.next_run-run.result.count) (sym size)
    (run_lies c.args.out.now c.loop-done.done (size_at (cells c.args.store.now c.args.out.now.base)) c.next_run-run.result c.loop-done.invariant.at.rows.view c.requires.inside is within))

pub loop-done-preserved : goal.loop-done-preserved
loop-done-preserved c =
    let within : c.loop-done.done + c.next_run-run.result.count ≤ positions c.args.out.now.lengths = omega (arith, c.positions-count.ensures.value, c.next_run-run.ensures.most, c.loop-done-test.true) in
    let is : IsRunOf c.args.out.now c.loop-done.done c.next_run-run.result = subst (λ p. IsRunOf c.args.out.now p c.next_run-run.result) c.loop-done.invariant.position c.next_run-run.ensures.run in
    let base : c.base.result ≡ c.args.out.now.base = c.base.ensures.value in
    let e = c.loop-done.invariant.bases in
    let es = part c.args.out.now 0 c.loop-done.done in
    let xs = take c.loop-done.done (drop c.args.from c.args.numbers.now) in
    let ys = drop c.args.from c.args.numbers.now in
    let n = c.next_run-run.result.count in
    let wide = ap (λ b. width_at (cells c.loop-done.store b)) base ∙ width_put c.args.out.now.base es xs (cells c.args.store.now) (cells c.loop-done.store) e in
    let left : length (drop c.args.from c.args.numbers.now) ≡ length c.args.numbers.now - c.args.from = length-drop c.args.from c.args.numbers.now in
    let long : c.loop-done.done + c.next_run-run.result.count ≤ length (drop c.args.from c.args.numbers.now) = omega (arith, within, left, c.requires.numbers) in
    let zero : 0 + c.loop-done.done ≡ c.loop-done.done = omega arith in
    let next = c.store_numbers.ensures.bases
    ∙ ap₂ (λ b zs. assigned (cells c.loop-done.store) b (with_run (cells c.loop-done.store b) c.next_run-run.result.start c.next_run-run.result.stride n (take n zs))) base
    (drop_behind c.args.from c.loop-done.done c.args.numbers.now) in
    record {
      at = c.next_run-run.ensures.at;
      position = c.next_run-run.ensures.position ∙ ap (λ p. p + n) c.loop-done.invariant.position;
      done = omega (arith, c.next_run-run.ensures.most, c.loop-done-test.true);
      bases = stored_more c.args.out.now 0 c.loop-done.done c.next_run-run.result ys (cells c.args.store.now) (cells c.loop-done.store) (cells c.store_numbers.new.self)
          c.loop-done.invariant.at.rows.view long (omega (arith, within)) (subst (λ p. IsRunOf c.args.out.now p c.next_run-run.result) (sym zero) is) e next;
      loads = c.store_numbers.ensures.loads ∙ c.loop-done.invariant.loads;
      stores = c.store_numbers.ensures.stores ∙ ap (λ k. k + n * width_at (cells c.loop-done.store c.base.result)) c.loop-done.invariant.stores
          ∙ ap (λ d. c.args.store.now.stores + c.loop-done.done * width_at (cells c.args.store.now c.args.out.now.base) + n * d) wide
          ∙ counted c.args.store.now.stores c.loop-done.done n (width_at (cells c.args.store.now c.args.out.now.base));
      made = c.store_numbers.ensures.made ∙ c.loop-done.invariant.made;
    }

pub returns-clause-bases : goal.returns-clause-bases
returns-clause-bases c =
    let all : c.loop-done.done ≡ positions c.args.out.now.lengths = omega (arith, c.positions-count.ensures.value, c.loop-done.invariant.done, c.loop-done-test.false) in
    c.loop-done.invariant.bases
    ∙ ap (λ n. put_at c.args.out.now.base (part c.args.out.now 0 n) (take n (drop c.args.from c.args.numbers.now)) (cells c.args.store.now)) all
    ∙ ap (λ es. put_at c.args.out.now.base es (take (positions c.args.out.now.lengths) (drop c.args.from c.args.numbers.now)) (cells c.args.store.now))
    (whole_part c.args.out.now c.loop-done.invariant.at.rows.view)
