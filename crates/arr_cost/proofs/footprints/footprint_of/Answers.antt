use Rattle.std.proofs.Common.{◌≡◌, ◌∙◌, ◌+◌, ◌*◌, ◌/◌, ◌%◌, ◌++◌, ◌∷◌, [], get_or, length, ap, arith}
use Rattle.std.proofs.lemmas.List.{length-append}
use Rattle.arr_cost.specs.Footprints.{has_bit, reads_class, row_for, writes_class}
use Rattle.arr_cost.specs.Touches.{frees_number, makes_number}
use Rattle.arr_cost.proofs.Prints.{row_pushed, Tells}
use Rattle.arr_cost.proofs.footprints.footprint_of.Goals as goal

pub loop-index-preserved : goal.loop-index-preserved
loop-index-preserved c =
    let row = c.row_of.result in
    let long : length c.loop-index.rows.items ≡ c.loop-index.index = c.loop-index.invariant.long in
    let one : length (c.loop-index.rows.items ++ row ∷ []) ≡ length c.loop-index.rows.items + 1 = length-append c.loop-index.rows.items (row ∷ []) in
    let items : c.push.new.self.items ≡ c.loop-index.rows.items ++ row ∷ [] = c.in_ok-push.ensures.items in
    let next : length c.push.new.self.items ≡ length (c.loop-index.rows.items ++ row ∷ []) = ap length items in
    record {
      long = omega arith;
      tells = row_pushed (Tells c.args.touches.now c.args.bases.now) c.loop-index.rows.items c.push.new.self.items row c.loop-index.index items long c.loop-index.invariant.tells
          (record { reads = c.row_of.ensures.reads; writes = c.row_of.ensures.writes; makes = c.row_of.ensures.makes; frees = c.row_of.ensures.frees });
    }

pub returns-clause-reads : goal.returns-clause-reads
returns-clause-reads c = λ n l.
    let at : 64 * (n / 64) + n % 64 ≡ n = omega arith in
    ap (λ rows. has_bit (row_for rows n).reads (n % 64)) c.framed.ensures
    ∙ (c.loop-index.invariant.tells (n / 64) (omega arith)).reads (n % 64) (omega arith) ∙ ap (λ k. reads_class k c.args.touches.now) at

pub returns-clause-writes : goal.returns-clause-writes
returns-clause-writes c = λ n l.
    let at : 64 * (n / 64) + n % 64 ≡ n = omega arith in
    ap (λ rows. has_bit (row_for rows n).writes (n % 64)) c.framed.ensures
    ∙ (c.loop-index.invariant.tells (n / 64) (omega arith)).writes (n % 64) (omega arith) ∙ ap (λ k. writes_class k c.args.touches.now) at

pub returns-clause-makes : goal.returns-clause-makes
returns-clause-makes c = λ n l.
    let at : 64 * (n / 64) + n % 64 ≡ n = omega arith in
    ap (λ rows. has_bit (row_for rows n).makes (n % 64)) c.framed.ensures
    ∙ (c.loop-index.invariant.tells (n / 64) (omega arith)).makes (n % 64) (omega arith) (omega arith) ∙ ap (λ k. makes_number (get_or c.args.bases.now k 0) c.args.touches.now) at

pub returns-clause-frees : goal.returns-clause-frees
returns-clause-frees c = λ n l.
    let at : 64 * (n / 64) + n % 64 ≡ n = omega arith in
    ap (λ rows. has_bit (row_for rows n).frees (n % 64)) c.framed.ensures
    ∙ (c.loop-index.invariant.tells (n / 64) (omega arith)).frees (n % 64) (omega arith) (omega arith) ∙ ap (λ k. frees_number (get_or c.args.bases.now k 0) c.args.touches.now) at
