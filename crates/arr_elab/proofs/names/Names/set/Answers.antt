use Rattle.std.proofs.Common.{arith, ◌≡◌, ◌≤◌, ◌<◌, ◌^◌, ◌∙◌, ap, length}
use Rattle.std.specs.Option.{option_flatten}
use Rattle.std.proofs.lemmas.List.{length-map}
use Rattle.std.proofs.lemmas.List.Sums.{count_by-le-length}
use Rattle.std.specs.List.{count_by}
use Rattle.arr_elab.specs.State.{with_name, is_bound}
use Rattle.arr_elab.proofs.Named.{inserted, bound_then, shown, one, one_most}
use Rattle.arr_elab.proofs.names.Names.set.Goals as goal

pub overflow_add-self : goal.overflow_add-self
overflow_add-self c =
    let few : count_by is_bound (shown c.self.inside.arrays.entries) ≤ length (shown c.self.inside.arrays.entries) = count_by-le-length is_bound (shown c.self.inside.arrays.entries) in
    let long : length (shown c.self.inside.arrays.entries) ≡ length c.self.inside.arrays.entries = length-map c.self.inside.arrays.entries _ in
    let short : length c.self.inside.arrays.entries < 2 ^ 63 = omega (arith, c.len-most.ensures.len, c.len-most.ensures.small) in
    let once : c.one_if-now.result ≤ 1 = omega (arith, one_most c.args.array, c.one_if-now.ensures) in
    omega (arith, few, long, short, once, c.self.invariant)

pub overflow_sub-self : goal.overflow_sub-self
overflow_sub-self c =
    let all = bound_then c.in_ok-key.key c.args.array c.self.inside.arrays.entries c.insert.new.self.entries c.in_ok-insert.field-0 c.in_ok-insert.ensures.entries c.in_ok-insert.ensures.old in
    let was : c.one_if.result ≡ one (option_flatten c.in_ok-insert.field-0) = c.one_if.ensures ∙ ap one c.flatten-old.ensures in
    omega (arith, all, was, c.one_if-now.ensures, c.self.invariant)

pub invariant_of-self-2 : goal.invariant_of-self-2
invariant_of-self-2 c =
    let all = bound_then c.in_ok-key.key c.args.array c.self.inside.arrays.entries c.insert.new.self.entries c.in_ok-insert.field-0 c.in_ok-insert.ensures.entries c.in_ok-insert.ensures.old in
    let was : c.one_if.result ≡ one (option_flatten c.in_ok-insert.field-0) = c.one_if.ensures ∙ ap one c.flatten-old.ensures in
    omega (arith, all, was, c.one_if-now.ensures, c.self.invariant)

pub returns-clause-named : goal.returns-clause-named
returns-clause-named c =
    let is = ap shown c.in_ok-insert.ensures.entries ∙ inserted c.in_ok-key.key c.args.array c.self.inside.arrays.entries in
    let key = c.in_ok-key.ensures.items_if_clones_equal (λ x y h. h) in
    is ∙ ap (λ name. with_name (shown c.self.inside.arrays.entries) name c.args.array) key ∙ ap (λ names. with_name names c.args.name.now c.args.array) c.self.view_is
