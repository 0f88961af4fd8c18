use Rattle.std.proofs.Common.{◌≡◌, ℤ, ◌∷◌, true, Some, ap, sym, subst, ◌∙◌, to_z, of_z}
use Rattle.std.specs.Int.{w128}
use Rattle.arr_num.specs.Numbers.{in_type}
use Rattle.arr_num.specs.declared.elem.Elem.{Elem}
use Rattle.arr_num.proofs.Reading.{read}
use Rattle.arr_num.proofs.Wrapping.{fits_of_type}
use Rattle.arr_rewrite.specs.Writers.{Writer, only_writer}
use Rattle.arr_rewrite.specs.NextRewrite.{Beside, beside, same_code}
use Rattle.arr_rewrite.proofs.Joining.{read_in, source_in}
use Rattle.arr_rewrite.proofs.joined.constants_joined.Goals as goal

numbered : (t : Elem) (y z : ℤ) → y ≡ z → in_type t y ≡ true → in_type t (to_z w128 (of_z w128 z)) ≡ true
numbered t y z e h =
    let k : in_type t z ≡ true = ap (in_type t) (sym e) ∙ h in subst (λ u. in_type t u ≡ true) (sym (read z (fits_of_type t z k))) k

pub joined_number-number-requires-clause-left : goal.joined_number-number-requires-clause-left
joined_number-number-requires-clause-left c =
    let x : Beside = c.in-Some.read in
    let w : Writer = c.in-Some-only_writer.writer in
    let y : Beside = c.in-Some-beside.source in
    let e : y.number ≡ c.source.inside.number = sym (ap (λ (b : Beside). b.number) c.source.view_is) in
    let first : beside c.args.op.now.first c.args.op.now.second ≡ Some x = sym c.beside.ensures ∙ c.in-Some.is in
    let second : only_writer c.args.front.now (c.args.op.now ∷ c.args.back.now) x.view.base ≡ Some w = ap (only_writer c.args.front.now (c.args.op.now ∷ c.args.back.now)) (sym (c.base.ensures.value ∙ ap (λ (b : Beside). b.view.base) c.read.view_is)) ∙ sym c.only_writer.ensures ∙ c.in-Some-only_writer.is in
    let third : same_code c.args.op.now.code w.op.code ≡ true = ap (λ (k : Writer). same_code c.args.op.now.code k.op.code) (sym c.writer.view_is) ∙ sym c.same_code.ensures ∙ c.if-not-same_code.false in
    let fourth : beside w.op.first w.op.second ≡ Some y = ap (λ (k : Writer). beside k.op.first k.op.second) (sym c.writer.view_is) ∙ sym c.beside-2.ensures ∙ c.in-Some-beside.is in
    numbered c.args.op.now.to y.number c.source.inside.number e
    (source_in c.args.front.now c.args.back.now c.args.op.now x w y c.requires (sym c.regroups.ensures ∙ c.if-not-regroups.false) first second third fourth)

pub joined_number-number-requires-clause-right : goal.joined_number-number-requires-clause-right
joined_number-number-requires-clause-right c =
    let x : Beside = c.in-Some.read in
    let e : x.number ≡ c.read.inside.number = sym (ap (λ (b : Beside). b.number) c.read.view_is) in
    numbered c.args.op.now.to x.number c.read.inside.number e (read_in c.args.front.now c.args.back.now c.args.op.now x c.requires (sym c.regroups.ensures ∙ c.if-not-regroups.false) (sym c.beside.ensures ∙ c.in-Some.is))
