use Rattle.std.proofs.Common.{◌≡◌, ◌≤◌, ◌∙◌, Some, None, length, subst, sym, true, false, arith}
use Rattle.arr_num.specs.Kinds.{Ending, Printing, is_element_wise, kind}
use Rattle.arr_num.specs.declared.code.Code.TheVariants.{Range}
use Rattle.arr_ops.specs.Formed.{well_formed}
use Rattle.arr_ops.specs.declared.op.Op.{Op}
use Rattle.arr_ops.proofs.Tests.{all_of}
use Rattle.arr_machine.specs.Tasks.{IsOutput, Stands}
use Rattle.arr_machine.proofs.Blocks.{all_get, same_item}
use Rattle.arr_contract.proofs.Makings.{number_most}
use Rattle.arr_contract.proofs.Tasking.{element_kind, first_lane, free_kind, prints_first, range_code, second_lane, slot_kind}
use Rattle.arr_contract.proofs.tasks.task_of.Goals as goal

pub along_of-requires-clause-well : goal.along_of-requires-clause-well
along_of-requires-clause-well c =
    let item = c.index-ops-index.result in
    let well : well_formed item ≡ true = all_get (λ f. well_formed f ≡ true) c.args.ops.now c.args.index item c.requires.there c.index-ops-index.is (all_of well_formed c.args.ops.now c.requires.well) in
    well

pub along_of-requires-then-is_scan-clause-well : goal.along_of-requires-then-is_scan-clause-well
along_of-requires-then-is_scan-clause-well c =
    let item = c.index-ops-index.result in
    let well : well_formed item ≡ true = all_get (λ f. well_formed f ≡ true) c.args.ops.now c.args.index item c.requires.there c.index-ops-index.is (all_of well_formed c.args.ops.now c.requires.well) in
    well

pub work_of-requires-clause-well : goal.work_of-requires-clause-well
work_of-requires-clause-well c =
    let item = c.index-ops-index.result in
    let well : well_formed item ≡ true = all_get (λ f. well_formed f ≡ true) c.args.ops.now c.args.index item c.requires.there c.index-ops-index.is (all_of well_formed c.args.ops.now c.requires.well) in
    well

pub overflow_cast-dest : goal.overflow_cast-dest
overflow_cast-dest c =
    let most : c.number_in-dest.result ≤ length c.args.views.now = subst (λ n. n ≤ length c.args.views.now) (sym c.number_in-dest.ensures) (number_most c.args.views.now _) in
    omega (arith, c.requires.few_views)

pub returns-in-Some : goal.returns-in-Some
returns-in-Some c op e =
    let item = c.index-ops-index.result in
    let well : well_formed item ≡ true = all_get (λ f. well_formed f ≡ true) c.args.ops.now c.args.index item c.requires.there c.index-ops-index.is (all_of well_formed c.args.ops.now c.requires.well) in
    let printing : kind item.code ≡ Printing = slot_kind item c.in-Some.slot well c.in-Some.is in
    subst (λ (f : Op). (kind f.code ≡ Printing) × ((f.slot ≡ Some c.in-Some.slot) × Stands c.args.ops.now c.args.room c.args.lanes.now f.from f.first c.lane_of-first.result))
    (same_item c.args.ops.now c.args.index item op c.requires.there c.index-ops-index.is e) (
      printing,
      (
        c.in-Some.is,
        first_lane c.args.ops.now c.args.room c.args.lanes.now c.args.views.now c.requires.views c.requires.lanes c.requires.typed c.args.index item c.requires.there c.index-ops-index.is c.lane_of-first.result
            c.lane_of-first.ensures (prints_first item well printing),
      ),
    )

pub returns-in_default-out : goal.returns-in_default-out
returns-in_default-out c op e =
    let item = c.index-ops-index.result in
    let well : well_formed item ≡ true = all_get (λ f. well_formed f ≡ true) c.args.ops.now c.args.index item c.requires.there c.index-ops-index.is (all_of well_formed c.args.ops.now c.requires.well) in
    subst (λ (f : Op). kind f.code ≡ Ending) (same_item c.args.ops.now c.args.index item op c.requires.there c.index-ops-index.is e) (free_kind item well c.in_default.is c.in_default-out.is)

pub returns-in_default-first : goal.returns-in_default-first
returns-in_default-first c op e =
    let item = c.index-ops-index.result in
    let well : well_formed item ≡ true = all_get (λ f. well_formed f ≡ true) c.args.ops.now c.args.index item c.requires.there c.index-ops-index.is (all_of well_formed c.args.ops.now c.requires.well) in
    let computes : is_element_wise item.code ≡ true = element_kind item c.in-Some-out.out well c.in-Some-out.is (sym c.is_reduction.ensures ∙ c.if-is_reduction.false) (sym c.is_scan.ensures ∙ c.if-is_scan.false) in
    subst (λ (f : Op). (is_element_wise f.code ≡ true) × ((f.code ≡ Range) × ((item.to ≡ f.to) × IsOutput c.args.ops.now f c.number_in-dest.result)))
    (same_item c.args.ops.now c.args.index item op c.requires.there c.index-ops-index.is e) (
      computes,
      (
        range_code item well computes c.in_default-first.is,
        (
          Rattle.std.proofs.Common.refl,
          (c.in-Some-out.out, (c.in-Some-out.is, subst (λ vs. c.number_in-dest.result ≡ Rattle.arr_strips.specs.Registers.number_in vs c.in-Some-out.out) c.requires.views c.number_in-dest.ensures)),
        ),
      ),
    )

pub work_of-requires-clause-code : goal.work_of-requires-clause-code
work_of-requires-clause-code c =
    let item = c.index-ops-index.result in
    let well : well_formed item ≡ true = all_get (λ f. well_formed f ≡ true) c.args.ops.now c.args.index item c.requires.there c.index-ops-index.is (all_of well_formed c.args.ops.now c.requires.well) in
    element_kind item c.in-Some-out.out well c.in-Some-out.is (sym c.is_reduction.ensures ∙ c.if-is_reduction.false) (sym c.is_scan.ensures ∙ c.if-is_scan.false)

pub work_of-requires-clause-first : goal.work_of-requires-clause-first
work_of-requires-clause-first c =
    let item = c.index-ops-index.result in
    let well : well_formed item ≡ true = all_get (λ f. well_formed f ≡ true) c.args.ops.now c.args.index item c.requires.there c.index-ops-index.is (all_of well_formed c.args.ops.now c.requires.well) in
    first_lane c.args.ops.now c.args.room c.args.lanes.now c.args.views.now c.requires.views c.requires.lanes c.requires.typed c.args.index item c.requires.there c.index-ops-index.is c.lane_of-first.result
    c.lane_of-first.ensures (λ none. some_none (sym none ∙ c.in-Some-first.is))
  where
    some_none : {X : Type 0} {x : X} → None ≡ Some x → ⊥
    some_none h = cc

pub work_of-requires-clause-second : goal.work_of-requires-clause-second
work_of-requires-clause-second c =
    let item = c.index-ops-index.result in
    let well : well_formed item ≡ true = all_get (λ f. well_formed f ≡ true) c.args.ops.now c.args.index item c.requires.there c.index-ops-index.is (all_of well_formed c.args.ops.now c.requires.well) in
    let first = first_lane c.args.ops.now c.args.room c.args.lanes.now c.args.views.now c.requires.views c.requires.lanes c.requires.typed c.args.index item c.requires.there c.index-ops-index.is c.lane_of-first.result
    c.lane_of-first.ensures (λ none. some_none (sym none ∙ c.in-Some-first.is)) in
    second_lane c.args.ops.now c.args.room c.args.lanes.now c.args.views.now c.requires.views c.requires.lanes c.requires.typed c.args.index item c.requires.there c.index-ops-index.is c.lane_of-first.result c.second_lane_of-second.result
    first c.second_lane_of-second.ensures
  where
    some_none : {X : Type 0} {x : X} → None ≡ Some x → ⊥
    some_none h = cc
