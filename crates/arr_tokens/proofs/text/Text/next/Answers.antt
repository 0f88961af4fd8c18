use Rattle.std.proofs.Common.{◌≡◌, ◌∙◌, sym, ap, arith, rules}
use Rattle.arr_tokens.specs.Tokens.{piece}
use Rattle.arr_tokens.proofs.Cutting.{last_cut, passed, taken}
use Rattle.arr_tokens.proofs.text.Text.next.Goals as goal

pub returns-in-Some-clause-next : goal.returns-in-Some-clause-next
returns-in-Some-clause-next c =
    let w : (c.in_ok-token.token, c.in_ok-token.size) ≡ piece c.pieces.self.rest.now = c.in_ok-token.ensures.what in
    sym c.pieces.invariant.same
    ∙ taken c.pieces.self.at c.pieces.self.rest.now c.in_ok-token.size c.split_at.result.0.now c.split_at.result.1.now c.place_behind-self.result c.in-Some.token
    (sym c.in-Some.is ∙ ap (λ x. x.0) w) (ap (λ x. x.1) w) c.in_ok-token.ensures.some c.in_ok-token.ensures.within c.split_at.ensures.front c.split_at.ensures.back c.place_behind-self.ensures.what

pub pieces-preserved : goal.pieces-preserved
pieces-preserved c =
    let w : (c.in_ok-token.token, c.in_ok-token.size) ≡ piece c.pieces.self.rest.now = c.in_ok-token.ensures.what in
    record {
      same = passed c.pieces.self.at c.pieces.self.rest.now c.in_ok-token.size c.split_at.result.0.now c.split_at.result.1.now c.place_behind-self.result
          (sym c.in_default.is ∙ ap (λ x. x.0) w) (ap (λ x. x.1) w) c.in_ok-token.ensures.some c.in_ok-token.ensures.within c.split_at.ensures.front c.split_at.ensures.back c.place_behind-self.ensures.what
          ∙ c.pieces.invariant.same;
      shorter = omega (arith, c.split_at.ensures.back_len, c.pieces.invariant.shorter);
    }

pub returns-clause-next : goal.returns-clause-next
returns-clause-next c = sym c.pieces.invariant.same ∙ last_cut _ _ (search rules)
