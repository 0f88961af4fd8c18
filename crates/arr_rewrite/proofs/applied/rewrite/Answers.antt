use Rattle.std.proofs.Common.{◌≡◌, ℕ, List, true, refl, sym, subst, ◌∙◌, Option, Some, None}
use Rattle.arr_ops.specs.declared.op.Op.{Op}
use Rattle.arr_ops.specs.Memory.{eager}
use Rattle.arr_ops.specs.Fits.{fits}
use Rattle.arr_rewrite.specs.NextRewrite.{next_rewrite}
use Rattle.arr_rewrite.specs.NormalForm.{normal_form}
use Rattle.arr_rewrite.specs.Settled.{Searched}
use Rattle.arr_rewrite.proofs.Laws.{next_falls, next_formed, normal_step, normal_here, normal_fits, normal_keeps}
use Rattle.arr_rewrite.proofs.applied.rewrite.Goals as goal

pub applications-smaller : goal.applications-smaller
applications-smaller c =
    let found = subst (Searched (next_rewrite c.applications.list.items) None c.rewrite_once.new.list.items) c.in-Some.is c.in_ok-place.ensures.next in
    next_falls c.applications.list.items c.rewrite_once.new.list.items c.applications.invariant.formed found.0

pub applications-preserved : goal.applications-preserved
applications-preserved c =
    let found = subst (Searched (next_rewrite c.applications.list.items) None c.rewrite_once.new.list.items) c.in-Some.is c.in_ok-place.ensures.next in
    record {
      formed = next_formed c.applications.list.items c.rewrite_once.new.list.items c.applications.invariant.formed found.0;
      few = found.1;
      settled = found.2;
      same = sym (normal_step c.applications.list.items c.rewrite_once.new.list.items c.applications.invariant.formed found.0) ∙ c.applications.invariant.same;
    }

-- where no application is left, the list is the normal form
last : (ops list new : List Op) (o : Option ℕ) → ((n : ℕ) → o ≡ Some n → ⊥) → normal_form list ≡ normal_form ops → Searched (next_rewrite list) None new o → (o ≡ None → new ≡ list) → normal_form ops ≡ new
last ops list new None f same none kept = sym same ∙ normal_here list none ∙ sym (kept refl)
last ops list new (Some n) f same none kept = absurd (f n refl)

pub returns-clause-fitting : goal.returns-clause-fitting
returns-clause-fitting c m f =
    subst (λ list. fits m list ≡ true)
    (last c.args.ops.now c.applications.list.items c.rewrite_once.new.list.items c.in_ok-place.field-0 c.in_default.not-Some c.applications.invariant.same c.in_ok-place.ensures.next c.in_ok-place.ensures.kept)
    (normal_fits m c.args.ops.now c.requires.formed f)

pub returns-clause-memory : goal.returns-clause-memory
returns-clause-memory c m f =
    subst (λ list. eager m list ≡ eager m c.args.ops.now)
    (last c.args.ops.now c.applications.list.items c.rewrite_once.new.list.items c.in_ok-place.field-0 c.in_default.not-Some c.applications.invariant.same c.in_ok-place.ensures.next c.in_ok-place.ensures.kept)
    (normal_keeps m c.args.ops.now c.requires.formed f)
