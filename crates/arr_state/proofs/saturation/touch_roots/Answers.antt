use Rattle.std.proofs.Common.{◌+◌, get_or, arith}
use Rattle.arr_law.specs.ProblemOf.{problem_of}
use Rattle.arr_state.specs.Jobs.{IsTouched, TouchedBelow, AreTouched}
use Rattle.arr_state.proofs.Wents.{went_none, went_clashes, went_out, went_on_with}
use Rattle.arr_law.specs.declared.fact.Fact.TheVariants.{Same}
use Rattle.arr_state.proofs.Monotone.{below_step, touched_mono}
use Rattle.arr_state.proofs.saturation.touch_roots.Goals as goal

pub loop-fact-init : goal.loop-fact-init
loop-fact-init c = record { kept = c.requires.kept; went = went_none (problem_of c.args.ops.now) c.args.known.now c.args.tree.now c.args.left (TouchedBelow (problem_of c.args.ops.now) 0 c.args.roots.now) (λ n l. absurd (omega (arith, l))) }

pub returns-in-Clash-clause-went : goal.returns-in-Clash-clause-went
returns-in-Clash-clause-went c = went_clashes (problem_of c.args.ops.now) c.args.known.now c.loop-fact.known c.touch.new.known c.args.tree.now c.loop-fact.tree c.touch.new.tree c.args.left c.loop-fact.left c.in_ok-rest.field-0 (TouchedBelow (problem_of c.args.ops.now) c.loop-fact.fact-index c.args.roots.now) (IsTouched (problem_of c.args.ops.now) (get_or c.args.roots.now c.loop-fact.fact-index (Same 0 0))) (AreTouched (problem_of c.args.ops.now) c.args.roots.now) c.loop-fact.invariant.went c.in_ok-rest.ensures.went c.in-Clash.x c.in-Clash.y c.in-Clash.is

pub returns-in-NoneLeft-clause-went : goal.returns-in-NoneLeft-clause-went
returns-in-NoneLeft-clause-went c = went_out (problem_of c.args.ops.now) c.args.known.now c.loop-fact.known c.touch.new.known c.args.tree.now c.loop-fact.tree c.touch.new.tree c.args.left c.loop-fact.left c.in_ok-rest.field-0 (TouchedBelow (problem_of c.args.ops.now) c.loop-fact.fact-index c.args.roots.now) (IsTouched (problem_of c.args.ops.now) (get_or c.args.roots.now c.loop-fact.fact-index (Same 0 0))) (AreTouched (problem_of c.args.ops.now) c.args.roots.now) c.loop-fact.invariant.went c.in_ok-rest.ensures.went c.in-NoneLeft.is

pub loop-fact-preserved : goal.loop-fact-preserved
loop-fact-preserved c =
    record {
      kept = c.touch.ensures.kept;
      went = went_on_with (problem_of c.args.ops.now) c.args.known.now c.loop-fact.known c.touch.new.known c.args.tree.now c.loop-fact.tree c.touch.new.tree c.args.left c.loop-fact.left c.in_ok-rest.field-0 (TouchedBelow (problem_of c.args.ops.now) c.loop-fact.fact-index c.args.roots.now) (IsTouched (problem_of c.args.ops.now) (get_or c.args.roots.now c.loop-fact.fact-index (Same 0 0))) (TouchedBelow (problem_of c.args.ops.now) (c.loop-fact.fact-index + 1) c.args.roots.now) c.loop-fact.invariant.went c.in_ok-rest.ensures.went c.in-On.rest c.in-On.is
          (λ l m o n. below_step (λ k. IsTouched (problem_of c.args.ops.now) (get_or c.args.roots.now k (Same 0 0))) (λ k. touched_mono (problem_of c.args.ops.now) (get_or c.args.roots.now k (Same 0 0))) c.loop-fact.fact-index _ _ _ l m o n);
    }
