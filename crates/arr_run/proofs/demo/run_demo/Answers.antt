use Rattle.std.proofs.Common.{◌≡◌, ◌∙◌, rules, sym, Err}
use Rattle.arr_record.specs.Runs.{printed_parts}
use Rattle.arr_store.specs.Stored.{memory_of}
use Rattle.arr_listing.specs.Totals.{totals_text}
use Rattle.arr_run.specs.Demo.{script_line}
use Rattle.arr_run.proofs.Flushing.{all_ok, part_err}
use Rattle.arr_run.proofs.Sums.{adds_all, broke_first, broke_inside, cut_first, cut_inside, cut_last}
use Rattle.arr_run.proofs.demo.run_demo.Goals as goal

pub returns-in_default-clause-broke : goal.returns-in_default-clause-broke
returns-in_default-clause-broke g c = λ is. broke_first c.args.script.now (memory_of c.args.store.now) c.args.parts.now (g.K.Sink.written c.args.sink.now)

pub returns-in_default-write_all-clause-cut : goal.returns-in_default-write_all-clause-cut
returns-in_default-write_all-clause-cut g c = λ is.
    let line : c.deref.result.now ≡ script_line c.args.script.now = c.deref.ensures.value ∙ c.in-Ok.ensures in
    cut_first c.args.script.now (memory_of c.args.store.now) c.args.parts.now c.deref.result.now _ _ line (part_err c.write_all.result _ c.in_default-write_all.is c.write_all.ensures.part)

pub returns-in_err-sum_parts-clause-cut : goal.returns-in_err-sum_parts-clause-cut
returns-in_err-sum_parts-clause-cut g c = λ is.
    let returned : c.from_residual.result ≡ Err c.in_err-sum_parts.field-0.0 = search rules in
    let line : c.deref.result.now ≡ script_line c.args.script.now = c.deref.ensures.value ∙ c.in-Ok.ensures in
    cut_inside c.args.script.now (memory_of c.args.store.now) c.args.parts.now c.deref.result.now _ _ _ line (all_ok c.write_all.result _ c.in-Ok-write_all.is c.write_all.ensures.all) (c.in_err-sum_parts.ensures.cut (sym returned ∙ is))

pub returns-in_err-sum_parts-clause-broke : goal.returns-in_err-sum_parts-clause-broke
returns-in_err-sum_parts-clause-broke g c = λ is.
    let returned : c.from_residual.result ≡ Err c.in_err-sum_parts.field-0.0 = search rules in
    let line : c.deref.result.now ≡ script_line c.args.script.now = c.deref.ensures.value ∙ c.in-Ok.ensures in
    broke_inside c.args.script.now (memory_of c.args.store.now) c.args.parts.now c.deref.result.now _ _ _ line (all_ok c.write_all.result _ c.in-Ok-write_all.is c.write_all.ensures.all) (c.in_err-sum_parts.ensures.broke (sym returned ∙ is))

pub returns-clause-cut : goal.returns-clause-cut
returns-clause-cut g c = λ is.
    let m = memory_of c.args.store.now in
    let parts = c.args.parts.now in
    let line : c.deref.result.now ≡ script_line c.args.script.now = c.deref.ensures.value ∙ c.in-Ok.ensures in
    let all : c.deref-2.result.now ≡ totals_text 1 (printed_parts m parts) = c.deref-2.ensures.value ∙ adds_all _ c.sum_parts.new.totals (printed_parts m parts) c.in_ok-sum_parts.ensures.adds (search rules) (search rules) in
    cut_last c.args.script.now m parts c.deref.result.now c.deref-2.result.now _ _ _ _ c.args.store.now c.sum_parts.new.store line (all_ok c.write_all.result _ c.in-Ok-write_all.is c.write_all.ensures.all) c.in_ok-sum_parts.ensures.wrote all
    c.in-Err.ensures.part
