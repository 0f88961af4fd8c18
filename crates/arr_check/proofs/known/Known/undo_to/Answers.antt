use Rattle.std.proofs.Common.{◌≡◌, ◌<◌, ◌+◌, ◌∷◌, [], length, sym, ◌∙◌, ap, arith, length-append}
use Rattle.std.proofs.lemmas.List.{take_all}
use Rattle.arr_law.specs.ProblemOf.{problem_of}
use Rattle.arr_check.proofs.Marks.{fine_drop, last_about, take_less, turned_ops}
use Rattle.arr_check.proofs.known.Known.undo_to.Goals as goal

pub loop-self-init : goal.loop-self-init
loop-self-init c = record {
  fine = c.requires.fine;
  kept = sym (take_all (length c.args.self.now.trail.items) c.args.self.now.trail.items (omega arith));
  within = c.requires.within;
}

pub set_marks-requires-clause-ops : goal.set_marks-requires-clause-ops
set_marks-requires-clause-ops c = last_about (problem_of c.args.tables.now) c.pop.new.self.items c.loop-self.self.trail.items c.loop-self.self.marks.items c.in-Some.fact c.loop-self.invariant.fine c.in-Some.ensures.items

pub set_marks-requires-clause-turned : goal.set_marks-requires-clause-turned
set_marks-requires-clause-turned c =
    turned_ops (problem_of c.args.tables.now) c.in-Some.fact
    (last_about (problem_of c.args.tables.now) c.pop.new.self.items c.loop-self.self.trail.items c.loop-self.self.marks.items c.in-Some.fact c.loop-self.invariant.fine c.in-Some.ensures.items)

pub loop-self-preserved : goal.loop-self-preserved
loop-self-preserved c =
    let l : c.args.mark < length c.loop-self.self.trail.items = omega (arith, c.loop-self-test.true, c.len.ensures, c.loop-self.self.trail.ok.0) in
    let m : length c.loop-self.self.trail.items ≡ length c.pop.new.self.items + 1 = ap length c.in-Some.ensures.items ∙ length-append c.pop.new.self.items (c.in-Some.fact ∷ []) in
    record {
      fine = fine_drop (problem_of c.args.tables.now) c.pop.new.self.items c.loop-self.self.trail.items c.loop-self.self.marks.items c.set_marks.new.marks.items c.in-Some.fact c.loop-self.invariant.fine c.in-Some.ensures.items c.set_marks.ensures;
      kept = take_less c.args.self.now.trail.items c.pop.new.self.items c.loop-self.self.trail.items c.in-Some.fact c.loop-self.invariant.kept c.in-Some.ensures.items;
      within = omega (arith, l, m);
    }
