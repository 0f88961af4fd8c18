use Rattle.std.proofs.Common.{rules, ◌≡◌, refl, Err}
use Rattle.arr_elab.specs.State.{and_then}
use Rattle.arr_elab.specs.Expressions.{array_of}
use Rattle.arr_elab.specs.Outcome.{scatter_arrays}
use Rattle.arr_elab.proofs.Given.{refused_by}
use Rattle.arr_elab.proofs.gather.scatter_by.Goals as goal

pub returns-in_err-target : goal.returns-in_err-target
returns-in_err-target c =
    let s = c.value-3.new.reader in
    let asked : c.array_of.result ≡ Err c.in_err-target.field-0.0 = search rules in
    let returned : c.from_residual-in_err-target.result ≡ Err c.in_err-target.field-0.0 = search rules in
    refused_by (array_of c.in_ok-x.x s) (λ a. and_then (array_of c.in_ok-y.y a.1) (λ b. and_then (array_of c.in_ok-z.z b.1) (λ d. scatter_arrays c.args.at a.0 b.0 d.0 d.1))) _ _ _ _ s
    (rw c.in_ok-x.ensures (rw c.in_ok-y.ensures (rw c.in_ok-z.ensures refl))) asked returned (c.array_of.ensures s)

pub returns-in_err-index : goal.returns-in_err-index
returns-in_err-index c =
    let s = c.value-3.new.reader in
    let asked : c.array_of-2.result ≡ Err c.in_err-index.field-0.0 = search rules in
    let returned : c.from_residual-in_err-index.result ≡ Err c.in_err-index.field-0.0 = search rules in
    refused_by (array_of c.in_ok-y.y s) (λ b. and_then (array_of c.in_ok-z.z b.1) (λ d. scatter_arrays c.args.at c.in_ok-target.target b.0 d.0 d.1)) _ _ _ _ s
    (rw c.in_ok-x.ensures (rw c.in_ok-y.ensures (rw c.in_ok-z.ensures (rw (c.in_ok-target.ensures s) refl)))) asked returned (c.array_of-2.ensures s)

pub returns-in_err-values : goal.returns-in_err-values
returns-in_err-values c =
    let s = c.value-3.new.reader in
    let asked : c.array_of-3.result ≡ Err c.in_err-values.field-0.0 = search rules in
    let returned : c.from_residual-in_err-values.result ≡ Err c.in_err-values.field-0.0 = search rules in
    refused_by (array_of c.in_ok-z.z s) (λ d. scatter_arrays c.args.at c.in_ok-target.target c.in_ok-index.index d.0 d.1) _ _ _ _ s
    (rw c.in_ok-x.ensures (rw c.in_ok-y.ensures (rw c.in_ok-z.ensures (rw (c.in_ok-target.ensures s) (rw (c.in_ok-index.ensures s) refl))))) asked returned (c.array_of-3.ensures s)
