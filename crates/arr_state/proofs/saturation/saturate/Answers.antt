use Rattle.std.proofs.Common.{◌∙◌}
use Rattle.arr_law.specs.Floor.{IsClosed}
use Rattle.arr_law.specs.ProblemOf.{problem_of}
use Rattle.arr_state.specs.declared.outcome.Going.TheVariants.{On, Clash, NoneLeft}
use Rattle.arr_state.proofs.Wents.{went_as}
use Rattle.arr_state.proofs.Saturates.{closed_kept, sat_closed, sat_clash, sat_spent}
use Rattle.arr_state.proofs.saturation.saturate.Goals as goal

pub ended-requires : goal.ended-requires
ended-requires c =
    record { kept = closed_kept (problem_of c.args.ops.now) c.settle.new.known c.push.new.self.items c.len.result c.settle.ensures.kept (went_as (problem_of c.args.ops.now) c.args.known.now c.settle.new.known c.args.tree.now c.settle.new.tree c.args.budget c.in_ok-settle.field-0 (On c.in-On.field-0) (λ a b. IsClosed (problem_of c.args.ops.now) b) c.in-On.is c.in_ok-settle.ensures.went).done (c.len.ensures ∙ c.settle.new.known.facts.ok.0) c.in_ok-push-in-On.ensures.items }

pub returns-in_ok-push-in-On-clause-kept : goal.returns-in_ok-push-in-On-clause-kept
returns-in_ok-push-in-On-clause-kept c =
    closed_kept (problem_of c.args.ops.now) c.settle.new.known c.push.new.self.items c.len.result c.settle.ensures.kept (went_as (problem_of c.args.ops.now) c.args.known.now c.settle.new.known c.args.tree.now c.settle.new.tree c.args.budget c.in_ok-settle.field-0 (On c.in-On.field-0) (λ a b. IsClosed (problem_of c.args.ops.now) b) c.in-On.is c.in_ok-settle.ensures.went).done (c.len.ensures ∙ c.settle.new.known.facts.ok.0) c.in_ok-push-in-On.ensures.items

pub returns-in_ok-push-in-On-clause-does : goal.returns-in_ok-push-in-On-clause-does
returns-in_ok-push-in-On-clause-does c = sat_closed (problem_of c.args.ops.now) c.args.known.now c.settle.new.known c.args.tree.now c.settle.new.tree c.args.budget c.in-On.field-0 c.ended.result (went_as (problem_of c.args.ops.now) c.args.known.now c.settle.new.known c.args.tree.now c.settle.new.tree c.args.budget c.in_ok-settle.field-0 (On c.in-On.field-0) (λ a b. IsClosed (problem_of c.args.ops.now) b) c.in-On.is c.in_ok-settle.ensures.went) c.ended.ensures

pub returns-in-Clash-clause-does : goal.returns-in-Clash-clause-does
returns-in-Clash-clause-does c = sat_clash (problem_of c.args.ops.now) c.args.known.now c.settle.new.known c.args.tree.now c.settle.new.tree c.args.budget c.in-Clash.f c.in-Clash.g (λ a b. IsClosed (problem_of c.args.ops.now) b) (went_as (problem_of c.args.ops.now) c.args.known.now c.settle.new.known c.args.tree.now c.settle.new.tree c.args.budget c.in_ok-settle.field-0 (Clash c.in-Clash.f c.in-Clash.g) (λ a b. IsClosed (problem_of c.args.ops.now) b) c.in-Clash.is c.in_ok-settle.ensures.went)

pub returns-in-NoneLeft-clause-does : goal.returns-in-NoneLeft-clause-does
returns-in-NoneLeft-clause-does c = sat_spent (problem_of c.args.ops.now) c.args.known.now c.settle.new.known c.args.tree.now c.settle.new.tree c.args.budget c.ended-in-NoneLeft.result (λ a b. IsClosed (problem_of c.args.ops.now) b) (went_as (problem_of c.args.ops.now) c.args.known.now c.settle.new.known c.args.tree.now c.settle.new.tree c.args.budget c.in_ok-settle.field-0 NoneLeft (λ a b. IsClosed (problem_of c.args.ops.now) b) c.in-NoneLeft.is c.in_ok-settle.ensures.went) c.ended-in-NoneLeft.ensures
