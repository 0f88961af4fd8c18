-- The next application leaves a formed list of less potential, which every memory fits that fitted the list.
use Rattle.std.proofs.Common.{◌≡◌, List, [], ◌∷◌, ◌++◌, refl, sym, subst, Option, Some, None, append_assoc}
use Rattle.std.specs.Bool.{then_some}
use Rattle.arr_view.specs.Strided.{Strided}
use Rattle.arr_ops.specs.declared.op.Op.{Op}
use Rattle.arr_ops.proofs.Spots.{Formed}
use Rattle.arr_rewrite.specs.Rules.{constant_folded, neutral_dropped, fixed_known, power_unrolled, subtraction_turned, copies_itself}
use Rattle.arr_rewrite.specs.NextRewrite.{constant_carried, copy_carried, constants_joined, replacement, replaced, unused, rewrite_at, rewrite_from, next_rewrite}
use Rattle.arr_rewrite.proofs.Options.{some_true, some_same, or_cases_of}
use Rattle.arr_rewrite.proofs.Turns.{Follows, Turn, turn_follows}
use Rattle.arr_rewrite.proofs.TurnsOne.{constant_folded_turns, neutral_dropped_turns, fixed_known_turns, power_unrolled_turns, subtraction_turned_turns}
use Rattle.arr_rewrite.proofs.TurnsTwo.{constant_carried_turns, copy_carried_turns, constants_joined_turns}
use Rattle.arr_rewrite.proofs.Removals.{copies_follow, unused_follow}

pub replacement_turns : (front back : List Op) (op next : Op) → Formed (front ++ op ∷ back) → replacement front op back ≡ Some next → Turn front op back next
replacement_turns front back op next h e =
    or_cases_of (Turn front op back next) (constant_folded op) _ next e (constant_folded_turns front back op next h)
    (λ e. or_cases_of (Turn front op back next) (neutral_dropped op) _ next e (neutral_dropped_turns front back op next h)
    (λ e. or_cases_of (Turn front op back next) (fixed_known op) _ next e (fixed_known_turns front back op next h)
    (λ e. or_cases_of (Turn front op back next) (power_unrolled op) _ next e (power_unrolled_turns front back op next h)
    (λ e. or_cases_of (Turn front op back next) (constant_carried front op back) _ next e (constant_carried_turns front back op next h)
    (λ e. or_cases_of (Turn front op back next) (copy_carried front op back) _ next e (copy_carried_turns front back op next h)
    (λ e. or_cases_of (Turn front op back next) (constants_joined front op back) (subtraction_turned op) next e (constants_joined_turns front back op next h)
    (subtraction_turned_turns front back op next h)))))))

replaced_follow : (front back : List Op) (op : Op) (next : List Op) (o : Option Op) → Formed (front ++ op ∷ back) → replacement front op back ≡ o → replaced front back o ≡ Some next → Follows (front ++ op ∷ back) next
replaced_follow front back op next None h r e = absurd (cc)
replaced_follow front back op next (Some new) h r e =
    let same : front ++ new ∷ back ≡ next = cc in subst (Follows (front ++ op ∷ back)) same (turn_follows front back op new h (replacement_turns front back op new h r))

unused_any : (front back : List Op) (op : Op) (next : List Op) (out : Option Strided) → Formed (front ++ op ∷ back) → op.out ≡ out → unused front op back out ≡ Some next → Follows (front ++ op ∷ back) next
unused_any front back op next None h r e = absurd (cc)
unused_any front back op next (Some o) h r e = unused_follow front back next op o h r e

pub rewrite_at_follows : (front back : List Op) (op : Op) (next : List Op) → Formed (front ++ op ∷ back) → rewrite_at front op back ≡ Some next → Follows (front ++ op ∷ back) next
rewrite_at_follows front back op next h e =
    or_cases_of (Follows (front ++ op ∷ back) next) (replaced front back (replacement front op back)) _ next e
    (λ r. replaced_follow front back op next (replacement front op back) h refl r)
    (λ e. or_cases_of (Follows (front ++ op ∷ back) next) (then_some (copies_itself op) (front ++ back)) (unused front op back op.out) next e
    (λ r. subst (Follows (front ++ op ∷ back)) (some_same (copies_itself op) (front ++ back) next r) (copies_follow front back op h (some_true (copies_itself op) (front ++ back) next r)))
    (λ r. unused_any front back op next op.out h refl r))

rewrite_from_follows : (front back next : List Op) → Formed (front ++ back) → rewrite_from front back ≡ Some next → Follows (front ++ back) next
rewrite_from_follows front [] next h e = absurd (cc)
rewrite_from_follows front (op ∷ back) next h e =
    or_cases_of (Follows (front ++ op ∷ back) next) (rewrite_at front op back) (rewrite_from (front ++ op ∷ []) back) next e
    (λ r. rewrite_at_follows front back op next h r)
    (λ r.
    let same : (front ++ op ∷ []) ++ back ≡ front ++ op ∷ back = append_assoc front (op ∷ []) back in
    subst (λ l. Follows l next) same (rewrite_from_follows (front ++ op ∷ []) back next (subst Formed (sym same) h) r))

pub next_follows : (list next : List Op) → Formed list → next_rewrite list ≡ Some next → Follows list next
next_follows list next h e = rewrite_from_follows [] list next h e
