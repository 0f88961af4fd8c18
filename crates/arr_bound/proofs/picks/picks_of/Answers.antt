use Rattle.std.proofs.Common.{ℕ, ◌+◌, ◌/◌, Bool, List, ◌∙◌, subst, arith}
use Rattle.std.specs.Prelude.{MatchOption}
use Rattle.arr_sets.specs.Bits.{is_set}
use Rattle.arr_bound.specs.Sets.{in_row, IsFirst, NoneFrom}
use Rattle.arr_bound.specs.Picks.{IsLead}
use Rattle.arr_bound.proofs.Picked.{all_behind, first_alone, one_picked, none_picked, all_picked, two_first, two_more, as_next, next_behind, less_left, next_is, next_ends, lead_is}
use Rattle.arr_bound.proofs.picks.picks_of.Goals as goal

pub loop-next-init : goal.loop-next-init
loop-next-init c =
    let apart : ℕ → ℕ → Bool = in_row (c.args.count / 64 + 1) c.args.apart.now in
    let set : List ℕ = c.args.set.now.items in
    let lead : IsLead apart set c.in-Some.lead =
    lead_is apart set c.in_ok-lead.field-0 c.in-Some.lead c.in-Some.is (subst (λ s. MatchOption c.in_ok-lead.field-0 (NoneFrom s 0) (λ m. IsLead apart s m)) c.as_slice.ensures.value c.in_ok-lead.ensures) in
    record {
      long = c.in_ok-pick.ensures.long ∙ c.requires.long;
      picking = one_picked apart set c.pick.new.set.items c.in-Some.lead c.in_ok-pick.ensures.members (is_set set) c.new-picks.result c.pick.new.picks (none_picked apart set c.new-picks.result c.new-picks.ensures) lead.here
          (omega (arith, lead.within, c.requires.long, c.requires.few)) lead.none c.in_ok-pick.ensures.picks;
      two = two_first apart set c.new-picks.result c.pick.new.picks c.in-Some.lead lead c.new-picks.ensures c.in_ok-pick.ensures.picks;
      next = as_next c.pick.new.set.items c.first_in-next.result (subst (λ s. MatchOption c.first_in-next.result (NoneFrom s 0) (λ g. IsFirst s 0 g)) c.as_slice-2.ensures.value c.first_in-next.ensures);
    }

pub loop-next-smaller : goal.loop-next-smaller
loop-next-smaller c =
    let apart : ℕ → ℕ → Bool = in_row (c.args.count / 64 + 1) c.args.apart.now in
    let first = next_is c.loop-next.set.items c.loop-next.next c.in-Some-next.f c.in-Some-next.is c.loop-next.invariant.next in
    let behind = all_behind apart c.loop-next.set.items c.pick-in-Some-next.new.set.items c.in-Some-next.f c.in_ok-pick-2.ensures.members (first_alone apart c.loop-next.set.items c.pick-in-Some-next.new.set.items c.in-Some-next.f c.in_ok-pick-2.ensures.members first) in
    less_left c.pick-in-Some-next.new.set.items c.in-Some-next.f c.first_in-next-in-Some-next.result c.loop-next.next behind
    (next_behind c.pick-in-Some-next.new.set.items c.in-Some-next.f c.first_in-next-in-Some-next.result behind (subst (λ s. MatchOption c.first_in-next-in-Some-next.result (NoneFrom s (c.in-Some-next.f / 64)) (λ g. IsFirst s (c.in-Some-next.f / 64) g)) c.as_slice-in-Some-next.ensures.value c.first_in-next-in-Some-next.ensures))
    c.in-Some-next.is (omega (arith, first.within, c.loop-next.invariant.long, c.requires.few))

pub loop-next-preserved : goal.loop-next-preserved
loop-next-preserved c =
    let apart : ℕ → ℕ → Bool = in_row (c.args.count / 64 + 1) c.args.apart.now in
    let first = next_is c.loop-next.set.items c.loop-next.next c.in-Some-next.f c.in-Some-next.is c.loop-next.invariant.next in
    let alone = first_alone apart c.loop-next.set.items c.pick-in-Some-next.new.set.items c.in-Some-next.f c.in_ok-pick-2.ensures.members first in
    let behind = all_behind apart c.loop-next.set.items c.pick-in-Some-next.new.set.items c.in-Some-next.f c.in_ok-pick-2.ensures.members alone in
    record {
      long = c.in_ok-pick-2.ensures.long ∙ c.loop-next.invariant.long;
      picking = one_picked apart c.loop-next.set.items c.pick-in-Some-next.new.set.items c.in-Some-next.f c.in_ok-pick-2.ensures.members (is_set c.args.set.now.items) c.loop-next.picks c.pick-in-Some-next.new.picks c.loop-next.invariant.picking first.here
          (omega (arith, first.within, c.loop-next.invariant.long, c.requires.few)) alone c.in_ok-pick-2.ensures.picks;
      two = two_more apart (is_set c.args.set.now.items) c.loop-next.picks c.pick-in-Some-next.new.picks c.in-Some-next.f c.in_ok-pick-2.ensures.picks c.loop-next.invariant.two;
      next = next_behind c.pick-in-Some-next.new.set.items c.in-Some-next.f c.first_in-next-in-Some-next.result behind (subst (λ s. MatchOption c.first_in-next-in-Some-next.result (NoneFrom s (c.in-Some-next.f / 64)) (λ g. IsFirst s (c.in-Some-next.f / 64) g)) c.as_slice-in-Some-next.ensures.value c.first_in-next-in-Some-next.ensures);
    }

pub returns : goal.returns
returns c =
    all_picked (in_row (c.args.count / 64 + 1) c.args.apart.now) (is_set c.args.set.now.items) c.loop-next.set.items c.loop-next.picks c.loop-next.invariant.picking c.loop-next.invariant.two
    (next_ends c.loop-next.set.items c.loop-next.next c.in_default-next.not-Some c.loop-next.invariant.next)
