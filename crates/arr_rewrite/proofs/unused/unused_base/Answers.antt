use Rattle.std.proofs.Common.{◌≡◌, ℕ, List, ◌++◌, Bool, true, false, not, ◌&&◌, ap, sym, ◌∙◌, Option, Some}
use Rattle.std.specs.Bool.{then_some}
use Rattle.std.specs.List.{list_all}
use Rattle.arr_view.specs.Strided.{Strided}
use Rattle.arr_view.specs.Views.{has}
use Rattle.arr_ops.specs.Ops.{named}
use Rattle.arr_ops.specs.declared.op.Op.{Op}
use Rattle.arr_rewrite.specs.NextRewrite.{unused, unfreed, only_freed}
use Rattle.arr_ops.proofs.Tests.{both_left, both_right}
use Rattle.arr_rewrite.proofs.unused.unused_base.Goals as goal

at_base : (front back : List Op) (op : Op) (out : Option Strided) (o : Strided) (b : ℕ) (t : Bool) → out ≡ Some o → b ≡ o.base → t ≡ (op.makes && (list_all (λ f. not (has (named f) b)) front && only_freed back b))
    → unused front op back out ≡ then_some t (front ++ unfreed back b)
at_base front back op out o b t e same h =
    ap (unused front op back) e
    ∙ ap (λ n. then_some (op.makes && (list_all (λ f. not (has (named f) n)) front && only_freed back n)) (front ++ unfreed back n)) (sym same)
    ∙ ap (λ k. then_some k (front ++ unfreed back b)) (sym h)

pub returns-then-is_unused-clause-left : goal.returns-then-is_unused-clause-left
returns-then-is_unused-clause-left c =
    at_base c.args.front.now c.args.back.now c.args.op.now c.args.op.now.out c.in-Some.out c.base-base.result true c.in-Some.is c.base-base.ensures.value (sym c.if-is_unused.true ∙ c.is_unused.ensures)

pub returns-else-is_unused-clause-left : goal.returns-else-is_unused-clause-left
returns-else-is_unused-clause-left c =
    at_base c.args.front.now c.args.back.now c.args.op.now c.args.op.now.out c.in-Some.out c.base-base.result false c.in-Some.is c.base-base.ensures.value (sym c.if-is_unused.false ∙ c.is_unused.ensures)

pub returns-then-is_unused-clause-unnamed : goal.returns-then-is_unused-clause-unnamed
returns-then-is_unused-clause-unnamed c =
    both_left (list_all (λ f. not (has (named f) c.base-base.result)) c.args.front.now) _ (both_right c.args.op.now.makes _ (sym c.is_unused.ensures ∙ c.if-is_unused.true))
