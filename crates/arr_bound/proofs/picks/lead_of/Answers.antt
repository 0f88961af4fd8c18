use Rattle.std.proofs.Common.{◌≡◌, ℕ, ◌+◌, ◌/◌, true, false, subst, arith}
use Rattle.std.specs.Prelude.{MatchOption}
use Rattle.arr_sets.specs.Bits.{is_set}
use Rattle.arr_bound.specs.Sets.{in_row, IsFirst, NoneFrom}
use Rattle.arr_bound.proofs.Picked.{looked, next_behind, less_left, next_is, next_ends, taken_behind, lead_met, lead_last}
use Rattle.arr_bound.proofs.picks.lead_of.Goals as goal

pub returns-then-meets_row : goal.returns-then-meets_row
returns-then-meets_row c =
    lead_met c.args.count c.args.apart.now c.args.set.now c.loop-next.rest.items c.requires.table c.requires.inside c.loop-next.invariant.looking c.in-Some.f
    (next_is c.loop-next.rest.items c.loop-next.next c.in-Some.f c.in-Some.is c.loop-next.invariant.next)
    (subst (λ w. (p : ℕ) × (is_set c.args.set.now p ≡ true) × (in_row w c.args.apart.now c.in-Some.f p ≡ true)) c.requires.long (c.meets_row.ensures.some c.if-meets_row.true))

pub loop-next-smaller : goal.loop-next-smaller
loop-next-smaller c =
    let first = next_is c.loop-next.rest.items c.loop-next.next c.in-Some.f c.in-Some.is c.loop-next.invariant.next in
    let behind = taken_behind c.loop-next.rest.items c.take_out.new.set.items c.in-Some.f first c.take_out.ensures.members in
    less_left c.take_out.new.set.items c.in-Some.f c.first_in-next.result c.loop-next.next behind
    (next_behind c.take_out.new.set.items c.in-Some.f c.first_in-next.result behind (subst (λ s. MatchOption c.first_in-next.result (NoneFrom s (c.in-Some.f / 64)) (λ g. IsFirst s (c.in-Some.f / 64) g)) c.as_slice.ensures.value c.first_in-next.ensures))
    c.in-Some.is (omega (arith, first.within, c.loop-next.invariant.looking.long, c.requires.long, c.requires.few))

pub loop-next-preserved : goal.loop-next-preserved
loop-next-preserved c =
    let first = next_is c.loop-next.rest.items c.loop-next.next c.in-Some.f c.in-Some.is c.loop-next.invariant.next in
    let behind = taken_behind c.loop-next.rest.items c.take_out.new.set.items c.in-Some.f first c.take_out.ensures.members in
    record {
      looking = looked (in_row (c.args.count / 64 + 1) c.args.apart.now) c.args.set.now c.loop-next.rest.items c.take_out.new.set.items c.in-Some.f c.loop-next.invariant.looking c.take_out.ensures.long c.take_out.ensures.members
          (subst (λ w. (p : ℕ) → is_set c.args.set.now p ≡ true → in_row w c.args.apart.now c.in-Some.f p ≡ false) c.requires.long (c.meets_row.ensures.none c.if-meets_row.false));
      next = next_behind c.take_out.new.set.items c.in-Some.f c.first_in-next.result behind (subst (λ s. MatchOption c.first_in-next.result (NoneFrom s (c.in-Some.f / 64)) (λ g. IsFirst s (c.in-Some.f / 64) g)) c.as_slice.ensures.value c.first_in-next.ensures);
    }

pub returns : goal.returns
returns c =
    lead_last c.args.count c.args.apart.now c.args.set.now c.loop-next.rest.items c.requires.table c.requires.inside c.loop-next.invariant.looking c.first_in-first.result c.first_in-first.ensures
    (next_ends c.loop-next.rest.items c.loop-next.next c.in_default.not-Some c.loop-next.invariant.next)
