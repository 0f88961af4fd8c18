use Rattle.std.proofs.Common.{◌≡◌, ◌<◌, ◌≤◌, ◌+◌, ◌∷◌, [], length, false, subst, sym, ap, ◌∙◌, arith, length-append}
use Rattle.std.proofs.lemmas.List.{take_all}
use Rattle.arr_law.specs.ProblemOf.{problem_of}
use Rattle.arr_state.specs.Known.{first, second}
use Rattle.arr_state.specs.Rows.{rows_with}
use Rattle.arr_state.proofs.Keeps.{closed_take, low_all, kept_closed, kept_drop, last_small, take_less}
use Rattle.arr_state.proofs.known.go_back.Goals as goal

pub loop-known-init : goal.loop-known-init
loop-known-init c =
    let shut = closed_take (problem_of c.args.ops.now) c.args.known.now.facts.items c.args.known.now.closed.items c.drop_closed.new.closed.items c.requires.kept.shut c.drop_closed.ensures.kept c.drop_closed.ensures.within in
    record {
      kept = kept_closed (problem_of c.args.ops.now) c.args.known.now.facts.items c.args.known.now.rows.items c.args.known.now.closed.items c.drop_closed.new.closed.items c.requires.kept shut;
      facts = sym (take_all (length c.args.known.now.facts.items) c.args.known.now.facts.items (omega arith));
      within = c.requires.within;
      low = low_all (problem_of c.args.ops.now) c.args.known.now.facts.items c.drop_closed.new.closed.items c.args.mark shut c.drop_closed.ensures.last;
    }

pub loop-known-preserved : goal.loop-known-preserved
loop-known-preserved c =
    let l : c.args.mark < length c.loop-known.known.facts.items = omega (arith, c.loop-known-test.true, c.len.ensures, c.loop-known.known.facts.ok.0) in
    let m : length c.loop-known.known.facts.items ≡ length c.pop.new.self.items + 1 = ap length c.in-Some.ensures.items ∙ length-append c.pop.new.self.items (c.in-Some.fact ∷ []) in
    record {
      kept = kept_drop (problem_of c.args.ops.now) c.pop.new.self.items c.loop-known.known.facts.items c.loop-known.known.rows.items c.set_rows.new.rows.items c.loop-known.known.closed.items c.in-Some.fact c.loop-known.invariant.kept c.in-Some.ensures.items
          (subst (λ n. c.set_rows.new.rows.items ≡ rows_with n c.in-Some.fact false c.loop-known.known.rows.items) c.count_of.ensures c.set_rows.ensures)
          (λ k lk. omega (arith, c.loop-known.invariant.low k lk, l, m));
      facts = take_less c.args.known.now.facts.items c.pop.new.self.items c.loop-known.known.facts.items c.in-Some.fact c.loop-known.invariant.facts c.in-Some.ensures.items;
      within = omega (arith, l, m);
      low = c.loop-known.invariant.low;
    }

pub set_rows-requires-clause-first : goal.set_rows-requires-clause-first
set_rows-requires-clause-first c = subst (λ n. first c.in-Some.fact ≤ n) (sym c.count_of.ensures) (last_small (problem_of c.args.ops.now) c.pop.new.self.items c.loop-known.known.facts.items c.loop-known.known.rows.items c.loop-known.known.closed.items c.in-Some.fact c.loop-known.invariant.kept c.in-Some.ensures.items).0

pub set_rows-requires-clause-second : goal.set_rows-requires-clause-second
set_rows-requires-clause-second c = subst (λ n. second c.in-Some.fact ≤ n) (sym c.count_of.ensures) (last_small (problem_of c.args.ops.now) c.pop.new.self.items c.loop-known.known.facts.items c.loop-known.known.rows.items c.loop-known.known.closed.items c.in-Some.fact c.loop-known.invariant.kept c.in-Some.ensures.items).1
