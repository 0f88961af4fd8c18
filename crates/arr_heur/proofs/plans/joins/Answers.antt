use Rattle.std.proofs.Common.{◌≡◌, ◌∙◌, ◌+◌, ◌-◌, ℕ, true, false, rules, arith, ap, ap₂, sym}
use Rattle.std.specs.List.{list_all}
use Rattle.arr_ops.specs.Ops.{fusible}
use Rattle.arr_ops.specs.Plans.{numbered}
use Rattle.arr_deps.specs.Graph.{op_in}
use Rattle.arr_heur.specs.Segments.{segment}
use Rattle.arr_heur.proofs.Stretches.{all_fails, all_more, fits_at, segment_none}
use Rattle.arr_heur.proofs.plans.joins.Goals as goal

pub loop-f-init : goal.loop-f-init
loop-f-init c = ap (list_all (fits_at c.args.graph.now c.args.place)) (segment_none (numbered c.args.graph.now) c.args.start)

pub loop-f-preserved : goal.loop-f-preserved
loop-f-preserved c =
    let f : ℕ = c.loop-f.f in
    let yes : c.fusible.result ≡ true = search rules in
    all_more (fits_at c.args.graph.now c.args.place) c.args.graph.now c.args.start f (omega arith) (omega arith) c.loop-f.invariant
    (sym (ap₂ (λ x y. fusible (op_in c.args.graph.now x) (op_in c.args.graph.now y)) (let e : f + 1 - 1 ≡ f = omega arith in e) (let e : c.args.place + 1 - 1 ≡ c.args.place = omega arith in e)) ∙ sym c.fusible.ensures ∙ yes)

pub returns-then-not-fusible : goal.returns-then-not-fusible
returns-then-not-fusible c =
    let f : ℕ = c.loop-f.f in
    let no : c.fusible.result ≡ false = search rules in
    let d : ℕ = c.args.place - (f + 1) in
    let same : f + 1 + d ≡ c.args.place = omega arith in
    sym (ap (λ n. list_all (fits_at c.args.graph.now c.args.place) (segment (numbered c.args.graph.now) c.args.start n)) (sym same)
    ∙ all_fails (fits_at c.args.graph.now c.args.place) c.args.graph.now c.args.start f d (omega arith) (omega arith)
    (sym (ap₂ (λ x y. fusible (op_in c.args.graph.now x) (op_in c.args.graph.now y)) (let e : f + 1 - 1 ≡ f = omega arith in e) (let e : c.args.place + 1 - 1 ≡ c.args.place = omega arith in e)) ∙ sym c.fusible.ensures ∙ no))

pub returns : goal.returns
returns c =
    let done : c.loop-f.f ≡ c.args.place = omega arith in
    sym (ap (λ n. list_all (fits_at c.args.graph.now c.args.place) (segment (numbered c.args.graph.now) c.args.start n)) (sym done) ∙ c.loop-f.invariant)
