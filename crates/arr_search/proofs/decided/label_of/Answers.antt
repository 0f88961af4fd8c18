use Rattle.std.proofs.Common.{◌≡◌, ◌∙◌, ◌+◌, ℕ, length, ap, sym, arith, below_more, false}
use Rattle.std.specs.Prelude.{◌==◌, ◌||◌, Bool}
use Rattle.arr_law.specs.declared.fact.Fact.TheVariants.{Same}
use Rattle.arr_state.specs.States.{known}
use Rattle.arr_search.proofs.Loops.{position_at, position_none}
use Rattle.arr_search.proofs.decided.label_of.Goals as goal

pub returns-then-shares : goal.returns-then-shares
returns-then-shares c =
    let p : ℕ → Bool = λ h. (h == c.args.f) || known c.args.state.now (Same h c.args.f) in
    let k : ℕ = c.loop-place.place in
    sym (position_at p 1 (length c.args.graph.now) k (omega (arith, c.loop-place-test.true, c.len-place-end.ensures.value)) c.loop-place.invariant (ap p (let e : 1 + k ≡ k + 1 = omega arith in e) ∙ sym c.shares.ensures ∙ c.if-shares.true))

pub loop-place-preserved : goal.loop-place-preserved
loop-place-preserved c =
    let p : ℕ → Bool = λ h. (h == c.args.f) || known c.args.state.now (Same h c.args.f) in
    let k : ℕ = c.loop-place.place in
    below_more (λ j. p (1 + j) ≡ false) k c.loop-place.invariant (ap p (let e : 1 + k ≡ k + 1 = omega arith in e) ∙ sym c.shares.ensures ∙ c.if-shares.false)

pub returns : goal.returns
returns c =
    let p : ℕ → Bool = λ h. (h == c.args.f) || known c.args.state.now (Same h c.args.f) in
    c.len.ensures.value ∙ sym (position_none p 1 (length c.args.graph.now) (λ j l. c.loop-place.invariant j (omega (arith, l, c.loop-place-test.false, c.len-place-end.ensures.value))))
