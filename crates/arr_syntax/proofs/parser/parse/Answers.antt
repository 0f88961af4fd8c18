use Rattle.arr_tokens.specs.Tokens.{tokens}
use Rattle.arr_syntax.proofs.Unique.{one_script, not_both, answers_script, answers_refused}
use Rattle.arr_syntax.proofs.parser.parse.Goals as goal

pub returns-in-Ok-clause-script : goal.returns-in-Ok-clause-script
returns-in-Ok-clause-script c = λ ss h. let f = c.in-Ok.ensures in one_script (tokens c.args.bytes.now) _ ss f.script h.script

pub returns-in-Ok-clause-refused : goal.returns-in-Ok-clause-refused
returns-in-Ok-clause-refused c = λ r h. not_both (tokens c.args.bytes.now) _ r c.in-Ok.ensures h

pub returns-in-Err-clause-script : goal.returns-in-Err-clause-script
returns-in-Err-clause-script c = λ ss h. answers_script (tokens c.args.bytes.now) ss c.in-Err.fault h c.in-Err.ensures

pub returns-in-Err-clause-refused : goal.returns-in-Err-clause-refused
returns-in-Err-clause-refused c = λ r h. answers_refused (tokens c.args.bytes.now) r c.in-Err.fault h c.in-Err.ensures
