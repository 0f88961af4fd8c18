use Rattle.std.proofs.Common.{sym, subst}
use Rattle.arr_run.specs.Answers.{Refuses, grammar, meaning}
use Rattle.arr_syntax.specs.Refused.{IfRefused, IsRefused}
use Rattle.arr_tokens.specs.Tokens.{tokens}
use Rattle.arr_run.proofs.script.steps_of_text.Goals as goal

pub returns-in-Err-Refused-clause-refused : goal.returns-in-Err-Refused-clause-refused
returns-in-Err-Refused-clause-refused c =
    subst (Refuses c.args.bytes.now) (sym c.in-Err-Refused.refusal-is)
    (grammar c.requires (subst (λ e. IfRefused e (IsRefused (tokens c.args.bytes.now))) c.in-Err-Refused.field-0-is c.in-Err-Refused.ensures.fault))

pub returns-in-Err-Refused-elaborate-clause-refused : goal.returns-in-Err-Refused-elaborate-clause-refused
returns-in-Err-Refused-elaborate-clause-refused c =
    subst (Refuses c.args.bytes.now) (sym c.in-Err-Refused-elaborate.refusal-is)
    (meaning c.in-Ok.script.statements c.requires c.in-Ok.ensures.found (c.in-Err-Refused-elaborate.ensures.refused c.in-Err-Refused-elaborate.refusal c.in-Err-Refused-elaborate.field-0-is))
