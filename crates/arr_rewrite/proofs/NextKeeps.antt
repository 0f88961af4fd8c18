-- The next application keeps the memory that a formed list leaves.
use Rattle.std.proofs.Common.{◌≡◌, List, [], ◌∷◌, ◌++◌, true, refl, ap, sym, subst, ◌∙◌, Option, Some, None, append_assoc}
use Rattle.arr_view.specs.Strided.{Strided}
use Rattle.arr_ops.specs.Memory.{Memory, eager}
use Rattle.arr_ops.specs.Fits.{fits}
use Rattle.std.specs.Bool.{then_some}
use Rattle.arr_rewrite.specs.Rules.{constant_folded, neutral_dropped, fixed_known, power_unrolled, subtraction_turned, copies_itself}
use Rattle.arr_rewrite.specs.NextRewrite.{constant_carried, copy_carried, constants_joined, replacement, replaced, unused, rewrite_at, rewrite_from, next_rewrite}
use Rattle.arr_ops.specs.declared.op.Op.{Op}
use Rattle.arr_ops.proofs.Spots.{Formed}
use Rattle.arr_rewrite.proofs.Options.{some_true, some_same, or_cases_of}
use Rattle.arr_rewrite.proofs.Kept.{neutral_dropped_keeps}
use Rattle.arr_rewrite.proofs.KeptRemoved.{copies_kept, unused_kept}
use Rattle.arr_rewrite.proofs.KeptConstants.{constant_carried_keeps}
use Rattle.arr_rewrite.proofs.KeptCopies.{copy_carried_keeps}
use Rattle.arr_rewrite.proofs.KeptJoins.{constants_joined_keeps}
use Rattle.arr_rewrite.proofs.KeptOthers.{constant_folded_keeps, subtraction_turned_keeps}
use Rattle.arr_rewrite.proofs.KeptPowers.{power_unrolled_keeps}
use Rattle.arr_rewrite.proofs.KeptFixed.{fixed_known_keeps}

replacement_keeps : (m : Memory) (front back : List Op) (op next : Op) → Formed (front ++ op ∷ back) → fits m (front ++ op ∷ back) ≡ true → replacement front op back ≡ Some next
    → eager m (front ++ op ∷ back) ≡ eager m (front ++ next ∷ back)
replacement_keeps m front back op next h f e =
    let Goal : Type 0 = eager m (front ++ op ∷ back) ≡ eager m (front ++ next ∷ back) in
    or_cases_of Goal (constant_folded op) _ next e (λ r. constant_folded_keeps m front back op next h f r)
    (λ e. or_cases_of Goal (neutral_dropped op) _ next e (λ r. neutral_dropped_keeps m front back op next h f r)
    (λ e. or_cases_of Goal (fixed_known op) _ next e (λ r. fixed_known_keeps m front back op next h f r)
    (λ e. or_cases_of Goal (power_unrolled op) _ next e (λ r. power_unrolled_keeps m front back op next h f r)
    (λ e. or_cases_of Goal (constant_carried front op back) _ next e (λ r. constant_carried_keeps m front back op next h r)
    (λ e. or_cases_of Goal (copy_carried front op back) _ next e (λ r. copy_carried_keeps m front back op next h f r)
    (λ e. or_cases_of Goal (constants_joined front op back) (subtraction_turned op) next e (λ r. constants_joined_keeps m front back op next h r)
    (λ r. subtraction_turned_keeps m front back op next h f r)))))))

replaced_keeps : (m : Memory) (front back : List Op) (op : Op) (next : List Op) (o : Option Op) → Formed (front ++ op ∷ back) → fits m (front ++ op ∷ back) ≡ true → replacement front op back ≡ o
    → replaced front back o ≡ Some next → eager m (front ++ op ∷ back) ≡ eager m next
replaced_keeps m front back op next None h f r e = absurd (cc)
replaced_keeps m front back op next (Some new) h f r e =
    let same : front ++ new ∷ back ≡ next = cc in replacement_keeps m front back op new h f r ∙ ap (eager m) same

unused_any : (m : Memory) (front back : List Op) (op : Op) (next : List Op) (out : Option Strided) → Formed (front ++ op ∷ back) → fits m (front ++ op ∷ back) ≡ true → op.out ≡ out
    → unused front op back out ≡ Some next → eager m (front ++ op ∷ back) ≡ eager m next
unused_any m front back op next None h f r e = absurd (cc)
unused_any m front back op next (Some o) h f r e = unused_kept m front back next op o h f r e

pub rewrite_at_keeps : (m : Memory) (front back : List Op) (op : Op) (next : List Op) → Formed (front ++ op ∷ back) → fits m (front ++ op ∷ back) ≡ true → rewrite_at front op back ≡ Some next
    → eager m (front ++ op ∷ back) ≡ eager m next
rewrite_at_keeps m front back op next h f e =
    let Goal : Type 0 = eager m (front ++ op ∷ back) ≡ eager m next in
    or_cases_of Goal (replaced front back (replacement front op back)) _ next e
    (λ r. replaced_keeps m front back op next (replacement front op back) h f refl r)
    (λ e. or_cases_of Goal (then_some (copies_itself op) (front ++ back)) (unused front op back op.out) next e
    (λ r. copies_kept m front back op h f (some_true (copies_itself op) (front ++ back) next r) ∙ ap (eager m) (some_same (copies_itself op) (front ++ back) next r))
    (λ r. unused_any m front back op next op.out h f refl r))

rewrite_from_keeps : (m : Memory) (front back next : List Op) → Formed (front ++ back) → fits m (front ++ back) ≡ true → rewrite_from front back ≡ Some next → eager m (front ++ back) ≡ eager m next
rewrite_from_keeps m front [] next h f e = absurd (cc)
rewrite_from_keeps m front (op ∷ back) next h f e =
    or_cases_of (eager m (front ++ op ∷ back) ≡ eager m next) (rewrite_at front op back) (rewrite_from (front ++ op ∷ []) back) next e
    (λ r. rewrite_at_keeps m front back op next h f r)
    (λ r.
    let same : (front ++ op ∷ []) ++ back ≡ front ++ op ∷ back = append_assoc front (op ∷ []) back in
    ap (eager m) (sym same)
    ∙ rewrite_from_keeps m (front ++ op ∷ []) back next (subst Formed (sym same) h) (subst (λ l. fits m l ≡ true) (sym same) f) r)

-- the next application leaves the memory that the list leaves
pub next_keeps : (m : Memory) (list next : List Op) → Formed list → fits m list ≡ true → next_rewrite list ≡ Some next → eager m list ≡ eager m next
next_keeps m list next h f e = rewrite_from_keeps m [] list next h f e
