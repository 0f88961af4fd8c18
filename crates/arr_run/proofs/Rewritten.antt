-- What rewriting keeps of a list beside its memory: it is formed, no longer than the list, and prints as much.
use Rattle.std.proofs.Common.{◌≡◌, ◌+◌, ◌≤◌, suc, List, [], ◌∷◌, ◌++◌, length, Bool, true, false, cond, refl, ap, ap₂, sym, ◌∙◌, arith, Option, Some, None, length-append}
use Rattle.std.specs.Bool.{then_some}
use Rattle.std.specs.List.{filter}
use Rattle.arr_view.specs.Strided.{Strided}
use Rattle.arr_ops.specs.declared.op.Op.{Op}
use Rattle.arr_ops.specs.Formed.{is_formed, slot_numbers}
use Rattle.arr_ops.specs.Memory.{Memory, eager}
use Rattle.arr_ops.proofs.Spots.{formed_of}
use Rattle.arr_elab.specs.Steps.{printed, slots_to}
use Rattle.arr_rewrite.specs.Rules.{copies_itself}
use Rattle.arr_rewrite.specs.NextRewrite.{replaced, replacement, rewrite_at, rewrite_from, unfreed, unused}
use Rattle.arr_rewrite.specs.NormalForm.{normal_form}
use Rattle.arr_rewrite.proofs.Laws.{next_falls, next_formed}
use Rattle.arr_rewrite.proofs.NextFollows.{next_follows}
use Rattle.arr_rewrite.proofs.Normal.{Falls, stays}
use Rattle.arr_rewrite.proofs.Options.{or_cases_of, some_same}

-- ---- an application makes no list longer

length_filtered : (p : Op → Bool) (xs : List Op) → length (filter p xs) ≤ length xs
length_filtered p [] = omega arith
length_filtered p (x ∷ xs) =
    let rest : length (filter p xs) ≤ length xs = length_filtered p xs in
    elim (p x) as (λ b. length (cond b (x ∷ filter p xs) (filter p xs)) ≤ length (x ∷ xs)) [ true ↦ omega arith | false ↦ omega arith ]

length_replaced : (front back next : List Op) (op : Op) (o : Option Op) → replaced front back o ≡ Some next → length next ≤ length (front ++ op ∷ back)
length_replaced front back next op None e = absurd (cc)
length_replaced front back next op (Some new) e =
    let same : front ++ new ∷ back ≡ next = cc in
    let long : length next ≡ length front + suc (length back) = sym (ap length same) ∙ length-append front (new ∷ back) in
    let was = length-append front (op ∷ back) in omega arith

length_unused : (front back next : List Op) (op : Op) (out : Option Strided) → unused front op back out ≡ Some next → length next ≤ length (front ++ op ∷ back)
length_unused front back next op None e = absurd (cc)
length_unused front back next op (Some o) e =
    let same : front ++ unfreed back o.base ≡ next = some_same _ _ next e in
    let long : length next ≡ length front + length (unfreed back o.base) = sym (ap length same) ∙ length-append front (unfreed back o.base) in
    let was = length-append front (op ∷ back) in
    let less : length (unfreed back o.base) ≤ length back = length_filtered _ back in omega arith

length_at : (front back next : List Op) (op : Op) → rewrite_at front op back ≡ Some next → length next ≤ length (front ++ op ∷ back)
length_at front back next op e =
    or_cases_of (length next ≤ length (front ++ op ∷ back)) (replaced front back (replacement front op back)) _ next e
    (length_replaced front back next op (replacement front op back))
    (λ e. or_cases_of (length next ≤ length (front ++ op ∷ back)) (then_some (copies_itself op) (front ++ back)) (unused front op back op.out) next e
    (λ r.
    let same : front ++ back ≡ next = some_same (copies_itself op) (front ++ back) next r in
    let long : length next ≡ length front + length back = sym (ap length same) ∙ length-append front back in
    let was = length-append front (op ∷ back) in omega arith)
    (length_unused front back next op op.out))

length_from : (front back next : List Op) → rewrite_from front back ≡ Some next → length next ≤ length front + length back
length_from front [] next e = absurd (cc)
length_from front (op ∷ back) next e =
    let was : length (front ++ op ∷ back) ≡ length front + suc (length back) = length-append front (op ∷ back) in
    or_cases_of (length next ≤ length front + suc (length back)) (rewrite_at front op back) (rewrite_from (front ++ op ∷ []) back) next e
    (λ r. let here = length_at front back next op r in omega arith)
    (λ r. let here = length_from (front ++ op ∷ []) back next r in let long : length (front ++ op ∷ []) ≡ length front + 1 = length-append front (op ∷ []) in omega arith)

-- ---- the normal form

pub record Kept (ops list : List Op) : Type 0 where
  pub formed : is_formed list ≡ true
  pub slots : slot_numbers list ≡ slot_numbers ops
  pub few : length list ≤ length ops

keeps : (ops : List Op) → Falls (Kept ops)
keeps ops =
    record {
      kept = λ list next k e. record {
        formed = next_formed list next k.formed e;
        slots = sym (next_follows list next (formed_of list k.formed) e).slots ∙ k.slots;
        few = let less : length next ≤ 0 + length list = length_from [] list next e in let few = k.few in omega arith;
      };
      less = λ list next k e. next_falls list next k.formed e;
    }

pub normal_kept : (ops : List Op) → is_formed ops ≡ true → Kept ops (normal_form ops)
normal_kept ops h = stays (Kept ops) (keeps ops) ops (record { formed = h; slots = refl; few = omega arith })

pub normal_few : (ops list : List Op) → list ≡ normal_form ops → is_formed ops ≡ true → length list ≤ length ops
normal_few ops list is h = let few = (normal_kept ops h).few in let same = ap length is in omega arith

-- what leaves the same memory and has the same slots prints the same
pub printed_same : (m : Memory) (ops list : List Op) → slot_numbers list ≡ slot_numbers ops → eager m list ≡ eager m ops → printed m list ≡ printed m ops
printed_same m ops list s e = ap₂ (λ n (k : Memory). slots_to n k) (ap length s) e
