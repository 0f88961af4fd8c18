use Rattle.std.proofs.Common.{◌≡◌, ◌∙◌, ap, sym, arith, length, ℕ, List, ◌+◌}
use Rattle.std.specs.Prelude.{◌||◌}
use Rattle.arr_sets.specs.Bits.{in_run, is_set, members, with_run}
use Rattle.arr_sets.proofs.Members.{length-members}
use Rattle.arr_sets.proofs.Runs.{all_written, none_past, run_members}
use Rattle.arr_sets.proofs.bits.Bits.insert_run.Goals as goal

pub set_run-requires-clause-within : goal.set_run-requires-clause-within
set_run-requires-clause-within c =
    let n : length c.args.self.now ≡ c.self.inside.bound = ap length (sym c.self.view_is) ∙ length-members c.self.inside.words.items c.self.inside.bound in
    let words = c.self.invariant.0 in
    let long = c.self.inside.words.ok in
    let same : length c.as_mut_slice.result.now ≡ length c.self.inside.words.items = ap length c.as_mut_slice.ensures.value in
    omega arith

pub invariant_of-self : goal.invariant_of-self
invariant_of-self c =
    let items : List ℕ = c.self.inside.words.items in
    let new : List ℕ = c.set_run.new.words in
    let long = c.self.inside.words.ok in
    let same : c.as_mut_slice.result.now ≡ items = c.as_mut_slice.ensures.value in
    let kept : length new ≡ length c.as_mut_slice.result.now = c.set_run.auto.words in
    let size : length items ≡ c.self.inside.words.len = omega arith in
    let n : length c.args.self.now ≡ c.self.inside.bound = ap length (sym c.self.view_is) ∙ length-members items c.self.inside.bound in (
      c.self.invariant.0,
      λ i above.
          ap (λ ws. is_set ws i) (all_written items new c.self.inside.words.len (kept ∙ ap length same ∙ size) size)
          ∙ none_past items new c.self.inside.bound c.args.from (c.args.from + c.args.count) (omega arith)
          (λ k. c.set_run.ensures k ∙ ap (λ ws. in_run c.args.from (c.args.from + c.args.count) k || is_set ws k) same) c.self.invariant.1 i above,
    )

pub returns : goal.returns
returns c =
    let items : List ℕ = c.self.inside.words.items in
    let new : List ℕ = c.set_run.new.words in
    let long = c.self.inside.words.ok in
    let same : c.as_mut_slice.result.now ≡ items = c.as_mut_slice.ensures.value in
    let kept : length new ≡ length c.as_mut_slice.result.now = c.set_run.auto.words in
    let size : length items ≡ c.self.inside.words.len = omega arith in
    let n : length c.args.self.now ≡ c.self.inside.bound = ap length (sym c.self.view_is) ∙ length-members items c.self.inside.bound in
    ap (λ ws. members ws c.self.inside.bound) (all_written items new c.self.inside.words.len (kept ∙ ap length same ∙ size) size)
    ∙ run_members items new c.self.inside.bound c.args.from c.args.count (omega arith)
    (λ k. c.set_run.ensures k ∙ ap (λ ws. in_run c.args.from (c.args.from + c.args.count) k || is_set ws k) same)
    ∙ ap (λ row. with_run row c.args.from c.args.count) c.self.view_is
