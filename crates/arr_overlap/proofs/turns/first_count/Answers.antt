use Rattle.std.proofs.Common.{ℕ, ◌≡◌, ◌≤◌, ◌+◌, ◌*◌, ◌-◌, ◌<◌, ◌/◌, ◌%◌, ap, ◌∙◌, arith}
use Rattle.std.proofs.Math.Nat.{mul-div_cancel}
use Rattle.arr_overlap.proofs.Counting.{divided, first_after, period_some, turned}
use Rattle.arr_overlap.proofs.turns.first_count.Goals as goal

pub returns-then-target-divisor-ne0-clause-none : goal.returns-then-target-divisor-ne0-clause-none
returns-then-target-divisor-ne0-clause-none c e k j sum =
    c.if-target-divisor-ne0.true (divided c.from-divisor.result c.args.step c.args.other c.args.target k j c.if-step-divisor-ne0.false c.if-other-divisor-ne0.false sum)

pub returns-clause-first : goal.returns-clause-first
returns-clause-first c k j low sum =
    let d : ℕ = c.from-divisor.result in
    let o : ℕ = c.args.other in
    let l : ℕ = c.args.least in
    let p : ℕ = o / d in
    let zero = c.if-divisor-eq0.false in
    let other = c.requires.other.0 in
    let some : 0 < d = omega arith in
    let more : 0 < o = omega arith in
    let left : (c.from-count.result * (c.args.target % o)) % o ≡ (k % p) * d =
    turned c.from-count.result d c.args.step o c.args.target k j some more c.if-other-divisor-ne0.false c.if-count-step.false sum in
    let phase : ((c.from-count.result * (c.args.target % o)) % o) / d ≡ k % p = ap (λ x. x / d) left ∙ mul-div_cancel (k % p) some in
    let after : l + (k % p + (p - l % p)) % p ≤ k = first_after p l k (period_some o d some more c.if-other-divisor-ne0.false) low in
    let same : (((c.from-count.result * (c.args.target % o)) % o) / d + (p - l % p)) % p ≡ (k % p + (p - l % p)) % p = ap (λ x. (x + (p - l % p)) % p) phase in
    let is = c.saturating_add.ensures in
    omega arith
