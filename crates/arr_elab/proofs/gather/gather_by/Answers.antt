use Rattle.std.proofs.Common.{rules, ◌≡◌, refl, Err}
use Rattle.arr_elab.specs.State.{and_then}
use Rattle.arr_elab.specs.Expressions.{array_of}
use Rattle.arr_elab.specs.Outcome.{gather_arrays}
use Rattle.arr_elab.proofs.Given.{refused_by}
use Rattle.arr_elab.proofs.gather.gather_by.Goals as goal

pub returns-in_err-source : goal.returns-in_err-source
returns-in_err-source c =
    let s = c.value-2.new.reader in
    let asked : c.array_of.result ≡ Err c.in_err-source.field-0.0 = search rules in
    let returned : c.from_residual-in_err-source.result ≡ Err c.in_err-source.field-0.0 = search rules in
    refused_by (array_of c.in_ok-x.x s) (λ a. and_then (array_of c.in_ok-y.y a.1) (λ b. gather_arrays c.args.name.now c.args.at a.0 b.0 b.1)) _ _ _ _ s
    (rw c.in_ok-x.ensures (rw c.in_ok-y.ensures refl)) asked returned (c.array_of.ensures s)

pub returns-in_err-index : goal.returns-in_err-index
returns-in_err-index c =
    let s = c.value-2.new.reader in
    let asked : c.array_of-2.result ≡ Err c.in_err-index.field-0.0 = search rules in
    let returned : c.from_residual-in_err-index.result ≡ Err c.in_err-index.field-0.0 = search rules in
    refused_by (array_of c.in_ok-y.y s) (λ b. gather_arrays c.args.name.now c.args.at c.in_ok-source.source b.0 b.1) _ _ _ _ s
    (rw c.in_ok-x.ensures (rw c.in_ok-y.ensures (rw (c.in_ok-source.ensures s) refl))) asked returned (c.array_of-2.ensures s)
