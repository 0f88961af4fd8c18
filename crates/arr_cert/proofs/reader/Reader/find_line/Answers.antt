use Rattle.std.proofs.Common.{◌+◌, refl, sym, ap, ◌∙◌, arith, rules}
use Rattle.arr_cert.specs.Unread.{coming, waiting}
use Rattle.arr_cert.specs.Proofs.{unread}
use Rattle.arr_cert.proofs.Looking.{kept_short, same_trans, more_line, beyond_line, whole_line, last_line}
use Rattle.arr_cert.proofs.reader.Reader.find_line.Goals as goal

pub returns-then-not-more-clause-found : goal.returns-then-not-more-clause-found
returns-then-not-more-clause-found g c =
    let i = c.loop-more.invariant in
    last_line (unread g.S.Source c.args.self.now c.args.source.now) (unread g.S.Source c.count.new.self c.fill.new.source) (coming g.S.Source c.loop-more.self.pieces c.loop-more.source)
    (coming g.S.Source c.fill.new.self c.fill.new.source) c.loop-more.self.text.items c.count.new.self.text.items c.loop-more.size c.loop-more.self.room c.loop-more.self.next_line i.so_far c.in-Ok.ensures.kept
    (search rules) (omega (arith, c.if-size-eq0.false)) (ap (λ p. coming g.S.Source p c.fill.new.source) (sym c.count.ensures.pieces)) c.count.ensures.text i.same.room c.count.ensures.room c.count.ensures.next i.same.next

pub take_part-requires : goal.take_part-requires
take_part-requires g c =
    let long = c.loop-more.self.text.ok in
    omega (arith, kept_short _ _ _ _ _ c.loop-more.invariant.so_far)

pub returns-then-size-self-clause-found : goal.returns-then-size-self-clause-found
returns-then-size-self-clause-found g c =
    let i = c.loop-more.invariant in
    beyond_line (unread g.S.Source c.args.self.now c.args.source.now) (unread g.S.Source c.take_part.new.self c.fill.new.source) (coming g.S.Source c.loop-more.self.pieces c.loop-more.source) (g.S.Source.left c.fill.new.source)
    (waiting c.fill.new.self) (waiting c.take_part.new.self.pieces) c.loop-more.self.text.items c.take_part.new.self.text.items c.loop-more.size c.loop-more.self.room c.take_part.new.self.room c.in-Ok-take_part.count
    (c.loop-more.size + c.in-Ok-take_part.count) c.in-Ok-take_part.ends i.so_far c.in-Ok.ensures.kept c.in-Ok-take_part.ensures.part refl refl c.in-Ok-take_part.ensures.same.room i.same.room c.if-size-self.true

pub returns-then-ends-clause-found : goal.returns-then-ends-clause-found
returns-then-ends-clause-found g c =
    let i = c.loop-more.invariant in
    let same = c.in-Ok-take_part.ensures.same in
    whole_line (unread g.S.Source c.args.self.now c.args.source.now) (unread g.S.Source c.count-then-ends.new.self c.fill.new.source) (coming g.S.Source c.loop-more.self.pieces c.loop-more.source) (g.S.Source.left c.fill.new.source)
    (waiting c.fill.new.self) (waiting c.take_part.new.self.pieces) c.loop-more.self.text.items c.take_part.new.self.text.items c.count-then-ends.new.self.text.items c.loop-more.size c.loop-more.self.room c.take_part.new.self.room
    c.in-Ok-take_part.count (c.loop-more.size + c.in-Ok-take_part.count) c.take_part.new.self.next_line c.in-Ok-take_part.ends i.so_far c.in-Ok.ensures.kept c.in-Ok-take_part.ensures.part refl c.if-ends.true
    (ap (λ p. coming g.S.Source p c.fill.new.source) (sym c.count-then-ends.ensures.pieces)) c.count-then-ends.ensures.text same.room i.same.room c.if-size-self.false c.count-then-ends.ensures.room c.count-then-ends.ensures.next
    (same.next ∙ i.same.next)

pub loop-more-preserved : goal.loop-more-preserved
loop-more-preserved g c =
    let i = c.loop-more.invariant in
    record {
      so_far = more_line (coming g.S.Source c.args.self.now.pieces c.args.source.now) (coming g.S.Source c.loop-more.self.pieces c.loop-more.source) (g.S.Source.left c.fill.new.source) (waiting c.fill.new.self)
          (waiting c.take_part.new.self.pieces) c.loop-more.self.text.items c.take_part.new.self.text.items c.loop-more.size c.loop-more.self.room c.in-Ok-take_part.count (c.loop-more.size + c.in-Ok-take_part.count)
          c.take_part.new.self.room c.in-Ok-take_part.ends i.so_far c.in-Ok.ensures.kept c.in-Ok-take_part.ensures.part refl c.if-ends.false c.if-size-self.false;
      same = same_trans c.args.self.now c.loop-more.self c.take_part.new.self i.same (record { room = c.in-Ok-take_part.ensures.same.room; next = c.in-Ok-take_part.ensures.same.next; line = c.in-Ok-take_part.ensures.same.line; over = c.in-Ok-take_part.ensures.same.over });
      met = λ e. c.in-Ok.ensures.met (sym c.in-Ok-take_part.ensures.ended ∙ e);
      later = omega (arith, i.later, c.in-Ok.ensures.cause.later);
    }
