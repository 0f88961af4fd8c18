-- Which views operations still read: first those of the next one, and later fewer.
use Rattle.std.proofs.Common.{◌≡◌, ◌∙◌, ℕ, ◌+◌, ◌<◌, ◌≤◌, List, [], ◌∷◌, ◌++◌, Bool, true, false, ◌||◌, length, get_or, drop, refl, ap, sym, subst, arith}
use Rattle.std.specs.Prelude.{nat_lt}
use Rattle.std.specs.List.{AllByRecursion, flat_map}
use Rattle.std.proofs.lemmas.Bool.{ltb-false, ltb-true, or_left, or_right}
use Rattle.std.proofs.lemmas.List.{append_assoc, drop_all, drop_more}
use Rattle.std.proofs.lemmas.List.Folds.{list_any-append}
use Rattle.arr_view.specs.Strided.{Strided}
use Rattle.arr_view.specs.Views.{identical}
use Rattle.arr_ops.specs.declared.op.Op.{Op}
use Rattle.arr_ops.specs.Ops.{inputs}
use Rattle.arr_ops.proofs.Pairs.{All_weaker}
use Rattle.arr_strips.specs.Blocks.{stores}
use Rattle.arr_strips.specs.Strips.{loaded}
use Rattle.arr_strips.proofs.Sames.{identical_itself, identical_back, identical_on}
use Rattle.arr_machine.specs.Needed.{needed}
use Rattle.arr_machine.proofs.Blocks.{item_at}

in_front : (v : Strided) (xs ys : List Strided) → loaded xs v ≡ true → loaded (xs ++ ys) v ≡ true
in_front v xs ys h = list_any-append (λ w. identical w v) xs ys ∙ or_left (loaded xs v) (loaded ys v) h

in_back : (v : Strided) (xs ys : List Strided) → loaded ys v ≡ true → loaded (xs ++ ys) v ≡ true
in_back v xs ys h = list_any-append (λ w. identical w v) xs ys ∙ or_right (loaded xs v) (loaded ys v) h

each_there : (vs : List Strided) → AllByRecursion (λ v. loaded vs v ≡ true) vs
each_there [] = tt
each_there (v ∷ vs) = (
  or_left (identical v v) (loaded vs v) (identical_itself v),
  All_weaker (λ u. loaded vs u ≡ true) (λ u. loaded (v ∷ vs) u ≡ true) (λ u h. or_right (identical v u) (loaded vs u) h) vs (each_there vs),
)

-- from operation k on there is that one, and those behind it
from_here : (ops : List Op) (k : ℕ) (op : Op) → k < length ops → op ≡ get_or ops k op → drop k ops ≡ op ∷ drop (k + 1) ops
from_here ops k op l e = drop_more ops k op l ∙ ap (λ x. x ∷ drop (k + 1) ops) (sym e)

-- what an operation reads is needed there
pub needs_inputs : (ops : List Op) (k : ℕ) (op : Op) → k < length ops → op ≡ get_or ops k op → AllByRecursion (λ v. needed ops k v ≡ true) (inputs op)
needs_inputs ops k op l e =
    subst (λ rest. AllByRecursion (λ v. loaded (flat_map inputs rest ++ stores ops) v ≡ true) (inputs op)) (sym (from_here ops k op l e))
    (All_weaker (λ v. loaded (inputs op) v ≡ true) (λ v. loaded (flat_map inputs (op ∷ drop (k + 1) ops) ++ stores ops) v ≡ true)
    (λ v h. in_front v (inputs op ++ flat_map inputs (drop (k + 1) ops)) (stores ops) (in_front v (inputs op) (flat_map inputs (drop (k + 1) ops)) h)) (inputs op) (each_there (inputs op)))

-- what is stored is needed throughout
pub needs_stores : (ops : List Op) (k : ℕ) → AllByRecursion (λ v. needed ops k v ≡ true) (stores ops)
needs_stores ops k =
    All_weaker (λ v. loaded (stores ops) v ≡ true) (λ v. needed ops k v ≡ true) (λ v h. in_back v (flat_map inputs (drop k ops)) (stores ops) h) (stores ops) (each_there (stores ops))

-- what is needed behind an operation is needed before it
pub needed_before : (ops : List Op) (k : ℕ) (v : Strided) → needed ops (k + 1) v ≡ true → needed ops k v ≡ true
needed_before ops k v h =
    elim (nat_lt k (length ops)) as (λ z. nat_lt k (length ops) ≡ z → needed ops k v ≡ true) [
      | true ↦ λ d.
          let l : k < length ops = ltb-true k (length ops) d in
          let op = item_at ops k l in
          subst (λ rest. loaded (flat_map inputs rest ++ stores ops) v ≡ true) (sym (from_here ops k op.0 l op.1))
          (ap (λ vs. loaded vs v) (append_assoc (inputs op.0) (flat_map inputs (drop (k + 1) ops)) (stores ops)) ∙ in_back v (inputs op.0) (flat_map inputs (drop (k + 1) ops) ++ stores ops) h)
      | false ↦ λ d.
          let far : length ops ≤ k = ltb-false k (length ops) d in
          ap (λ rest. loaded (flat_map inputs rest ++ stores ops) v) (drop_all k ops far ∙ sym (drop_all (k + 1) ops (omega arith))) ∙ h
    ] refl

-- what is needed, identical views included
loaded_same : (u v : Strided) → identical u v ≡ true → (ws : List Strided) → loaded ws v ≡ true → loaded ws u ≡ true
loaded_same u v e [] h = h
loaded_same u v e (w ∷ ws) h = at (identical w v) refl (loaded_same u v e ws)
  where
    at : (z : Bool) → identical w v ≡ z → (loaded ws v ≡ true → loaded ws u ≡ true) → loaded (w ∷ ws) u ≡ true
    at true d rest = or_left (identical w u) (loaded ws u) (identical_on w v u d (identical_back u v e))
    at false d rest = or_right (identical w u) (loaded ws u) (rest (sym (ap (λ z. z || loaded ws v) d) ∙ h))

pub needed_same : (ops : List Op) (k : ℕ) (u v : Strided) → identical u v ≡ true → needed ops k v ≡ true → needed ops k u ≡ true
needed_same ops k u v e h = loaded_same u v e (flat_map inputs (drop k ops) ++ stores ops) h
