use Rattle.std.proofs.Common.{◌<◌, ◌+◌, ℕ, false, sym, subst, arith, w64}
use Rattle.std.specs.Int.{trailing_zeros}
use Rattle.std.proofs.lemmas.Nat.Bits.{bit_at-trailing_zeros}
use Rattle.arr_law.specs.ProblemOf.{problem_of}
use Rattle.arr_state.specs.declared.outcome.Going.TheVariants.{On}
use Rattle.arr_state.specs.Rows.{put_in}
use Rattle.arr_state.specs.Jobs.{TriedAt, WordTried, RestTried}
use Rattle.arr_state.specs.Went.{Went}
use Rattle.arr_state.proofs.Wents.{went_none, went_clashes, went_out, went_on_with}
use Rattle.arr_state.proofs.Sifts.{rest_none, rest_step, put_less}
use Rattle.arr_state.proofs.saturation.try_word.Goals as goal

pub loop-bits-init : goal.loop-bits-init
loop-bits-init c =
    record {
      small = omega (arith, c.ranges.word.fits);
      kept = c.requires.kept;
      went = went_none (problem_of c.args.ops.now) c.args.known.now c.args.tree.now c.args.left (RestTried (problem_of c.args.ops.now) c.args.job c.args.base c.args.word c.args.word) (rest_none (problem_of c.args.ops.now) c.args.job c.args.base c.args.word _ _);
    }

pub returns-in-Clash-clause-went : goal.returns-in-Clash-clause-went
returns-in-Clash-clause-went c = went_clashes (problem_of c.args.ops.now) c.args.known.now c.loop-bits.known c.try_at.new.known c.args.tree.now c.loop-bits.tree c.try_at.new.tree c.args.left c.loop-bits.left c.in_ok-rest.field-0 (RestTried (problem_of c.args.ops.now) c.args.job c.args.base c.args.word c.loop-bits.bits) (TriedAt (problem_of c.args.ops.now) c.args.job (c.args.base + trailing_zeros w64 c.loop-bits.bits)) (WordTried (problem_of c.args.ops.now) c.args.job c.args.base c.args.word) c.loop-bits.invariant.went c.in_ok-rest.ensures.went c.in-Clash.x c.in-Clash.y c.in-Clash.is

pub returns-in-NoneLeft-clause-went : goal.returns-in-NoneLeft-clause-went
returns-in-NoneLeft-clause-went c = went_out (problem_of c.args.ops.now) c.args.known.now c.loop-bits.known c.try_at.new.known c.args.tree.now c.loop-bits.tree c.try_at.new.tree c.args.left c.loop-bits.left c.in_ok-rest.field-0 (RestTried (problem_of c.args.ops.now) c.args.job c.args.base c.args.word c.loop-bits.bits) (TriedAt (problem_of c.args.ops.now) c.args.job (c.args.base + trailing_zeros w64 c.loop-bits.bits)) (WordTried (problem_of c.args.ops.now) c.args.job c.args.base c.args.word) c.loop-bits.invariant.went c.in_ok-rest.ensures.went c.in-NoneLeft.is

pub put_bit-bits-requires : goal.put_bit-bits-requires
put_bit-bits-requires c = (bit_at-trailing_zeros w64 c.loop-bits.bits (omega (arith, c.loop-bits-test.true)) c.loop-bits.invariant.small).0

pub loop-bits-smaller : goal.loop-bits-smaller
loop-bits-smaller c =
    let h = bit_at-trailing_zeros w64 c.loop-bits.bits (omega (arith, c.loop-bits-test.true)) c.loop-bits.invariant.small in
    subst (λ (n : ℕ). n < c.loop-bits.bits) (sym c.put_bit-bits.ensures) (put_less c.loop-bits.bits (trailing_zeros w64 c.loop-bits.bits) h.0 h.1)

pub loop-bits-preserved : goal.loop-bits-preserved
loop-bits-preserved c =
    let h = bit_at-trailing_zeros w64 c.loop-bits.bits (omega (arith, c.loop-bits-test.true)) c.loop-bits.invariant.small in
    record {
      small = omega (arith, c.put_bit-bits.type_inv);
      kept = c.try_at.ensures.kept;
      went = subst (λ (n : ℕ). Went (problem_of c.args.ops.now) c.args.known.now c.try_at.new.known c.args.tree.now c.try_at.new.tree c.args.left (On c.in-On.rest) (RestTried (problem_of c.args.ops.now) c.args.job c.args.base c.args.word n)) (sym c.put_bit-bits.ensures)
          (went_on_with (problem_of c.args.ops.now) c.args.known.now c.loop-bits.known c.try_at.new.known c.args.tree.now c.loop-bits.tree c.try_at.new.tree c.args.left c.loop-bits.left c.in_ok-rest.field-0 (RestTried (problem_of c.args.ops.now) c.args.job c.args.base c.args.word c.loop-bits.bits) (TriedAt (problem_of c.args.ops.now) c.args.job (c.args.base + trailing_zeros w64 c.loop-bits.bits)) (RestTried (problem_of c.args.ops.now) c.args.job c.args.base c.args.word (put_in c.loop-bits.bits (trailing_zeros w64 c.loop-bits.bits) false)) c.loop-bits.invariant.went c.in_ok-rest.ensures.went c.in-On.rest c.in-On.is
          (λ l m o n. rest_step (problem_of c.args.ops.now) c.args.job c.args.base c.args.word c.loop-bits.bits (trailing_zeros w64 c.loop-bits.bits) _ _ _ h.0 l m o n));
    }
