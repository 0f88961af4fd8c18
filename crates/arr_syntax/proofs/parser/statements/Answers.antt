use Rattle.std.proofs.Common.{◌∙◌, sym, ap, List}
use Rattle.arr_tokens.specs.declared.token.Item.{Item}
use Rattle.arr_tokens.specs.Tokens.{tokens}
use Rattle.arr_syntax.specs.Run.{run}
use Rattle.arr_syntax.proofs.Reading.{run_script}
use Rattle.arr_syntax.proofs.Runs.{refused_text, refuses_from, read_last}
use Rattle.arr_syntax.proofs.parser.statements.Goals as goal

pub returns-in-Err : goal.returns-in-Err
returns-in-Err c =
    refused_text (tokens c.args.bytes.now) c.in-Err.fault
    (refuses_from c.in-Err.fault _ _
    (c.tokens.invariant ∙ ap (λ (is : List Item). run c.tokens.reader.depth c.tokens.reader.used c.tokens.reader.statements c.tokens.state is) c.in-Ok.ensures.next)
    (c.in-Err.ensures.reads _))

pub returns-then-is_last : goal.returns-then-is_last
returns-then-is_last c =
    run_script (tokens c.args.bytes.now) c.read.new.self.statements
    (c.tokens.invariant
    ∙ ap (λ (is : List Item). run c.tokens.reader.depth c.tokens.reader.used c.tokens.reader.statements c.tokens.state is) c.in-Ok.ensures.next
    ∙ read_last c.tokens.reader.depth c.tokens.reader.used c.tokens.reader.statements c.tokens.state
    c.read.new.self.depth c.read.new.self.used c.read.new.self.statements c.in-Ok-read.next c.in-Ok.item _
    (sym c.is_end-is_last.ensures ∙ c.if-is_last.true) c.in-Ok-read.ensures.reads c.in-Ok-read.ensures.last)
