use Rattle.std.proofs.Common.{◌≡◌, ◌∙◌, ap, sym, arith, length}
use Rattle.arr_sets.proofs.Members.{length-members}
use Rattle.arr_sets.proofs.Removed.{remove_member, remove_none}
use Rattle.arr_sets.proofs.bits.Bits.remove.Goals as goal

pub index_mut-requires : goal.index_mut-requires
index_mut-requires c =
    let n : length c.args.self.now ≡ c.self.inside.bound = ap length (sym c.self.view_is) ∙ length-members c.self.inside.words.items c.self.inside.bound in
    let words = c.self.invariant.0 in
    omega arith

pub invariant_of-self : goal.invariant_of-self
invariant_of-self c =
    let n : length c.args.self.now ≡ c.self.inside.bound = ap length (sym c.self.view_is) ∙ length-members c.self.inside.words.items c.self.inside.bound in
    let words = c.self.invariant.0 in
    let long = c.self.inside.words.ok in
    (words, remove_none c.self.inside.words.items c.self.inside.bound c.args.at c.index_mut.result.now (omega arith) (omega arith) c.index_mut.ensures.value c.self.invariant.1)

pub returns : goal.returns
returns c =
    let n : length c.args.self.now ≡ c.self.inside.bound = ap length (sym c.self.view_is) ∙ length-members c.self.inside.words.items c.self.inside.bound in
    let words = c.self.invariant.0 in
    let long = c.self.inside.words.ok in
    remove_member c.self.inside.words.items c.self.inside.bound c.args.at c.index_mut.result.now c.args.self.now c.self.view_is (omega arith) (omega arith) c.index_mut.ensures.value
