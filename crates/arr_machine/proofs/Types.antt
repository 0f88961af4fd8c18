-- The types of the bases that a block names.
use Rattle.std.proofs.Common.{◌≡◌, ℕ, ◌<◌, List, [], ◌∷◌, ◌++◌, Bool, true, false, cond, not, ◌||◌, Some, length, get_or, map, refl, ap, sym, ◌∙◌, subst}
use Rattle.std.specs.Prelude.{◌==◌}
use Rattle.std.specs.List.{AllByRecursion, flat_map, list_all, list_any}
use Rattle.std.specs.Option.{option_to_list}
use Rattle.std.proofs.lemmas.Bool.{eq-eqb, eqb-true, false≢true}
use Rattle.std.proofs.lemmas.List.Folds.{list_any-append}
use Rattle.arr_num.specs.declared.elem.Elem.{Elem}
use Rattle.arr_view.specs.Strided.{Strided}
use Rattle.arr_ops.specs.declared.op.Op.{Op}
use Rattle.arr_ops.specs.Costs.{elem_in, elem_of}
use Rattle.arr_ops.specs.Formed.{each_typed, same_elem, same_types, typed}
use Rattle.arr_ops.specs.Ops.{freed, inputs, outputs}
use Rattle.arr_ops.specs.Order.{In}
use Rattle.arr_ops.proofs.Members.{all_in, false_any, in_all}
use Rattle.arr_ops.proofs.Pairs.{All_weaker}
use Rattle.arr_ops.proofs.Spots.{all_left, all_mapped, all_right, same_elem_is}
use Rattle.arr_ops.proofs.Tests.{all_of, or_cases}
use Rattle.arr_strips.proofs.Sames.{all_flat_map}
use Rattle.arr_machine.proofs.Blocks.{all_get}

-- ---- the type of a base

found : (ps : List (ℕ × Elem)) (b : ℕ) (t : Elem) → AllByRecursion (λ (q : ℕ × Elem). (b == q.0) ≡ true → t ≡ q.1) ps → list_any (λ (q : ℕ × Elem). b == q.0) ps ≡ true → elem_in ps b ≡ t
found [] b t h k = absurd (false≢true k)
found (q ∷ ps) b t h k =
    elim (q.0 == b) as (λ z. (q.0 == b) ≡ z → cond z q.1 (elem_in ps b) ≡ t) [
      | true ↦ λ e. sym (h.0 (eq-eqb b q.0 (sym (eqb-true q.0 b e))))
      | false ↦ λ e. found ps b t h.1 (or_cases (b == q.0) (list_any (λ (q : ℕ × Elem). b == q.0) ps) k (λ f. absurd (false≢true (sym e ∙ eq-eqb q.0 b (sym (eqb-true b q.0 f))))) (λ f. f))
    ] refl

any_flat : {X Y : Type 0} (p : Y → Bool) (f : X → List Y) (xs : List X) → list_any p (flat_map f xs) ≡ list_any (λ x. list_any p (f x)) xs
any_flat p f [] = refl
any_flat p f (x ∷ xs) = list_any-append p (f x) (flat_map f xs) ∙ ap (λ b. list_any p (f x) || b) (any_flat p f xs)

is_there : (list : List Op) (f : Op) (p : ℕ × Elem) → In f list → In p (typed f) → list_any (λ (q : ℕ × Elem). p.0 == q.0) (flat_map typed list) ≡ true
is_there list f p a b =
    elim (list_any (λ (q : ℕ × Elem). p.0 == q.0) (flat_map typed list)) as (λ z. list_any (λ (q : ℕ × Elem). p.0 == q.0) (flat_map typed list) ≡ z → z ≡ true) [
      | true ↦ λ e. refl
      | false ↦ λ e.
          let none : list_any (λ g. list_any (λ (q : ℕ × Elem). p.0 == q.0) (typed g)) list ≡ false = sym (any_flat (λ (q : ℕ × Elem). p.0 == q.0) typed list) ∙ e in
          let here : list_any (λ (q : ℕ × Elem). p.0 == q.0) (typed f) ≡ false = false_any (λ g. list_any (λ (q : ℕ × Elem). p.0 == q.0) (typed g)) list none f a in
          absurd (false≢true (sym (false_any (λ (q : ℕ × Elem). p.0 == q.0) (typed f) here p b) ∙ eq-eqb p.0 p.0 refl))
    ] refl

agreed : (f g : Op) (p : ℕ × Elem) → same_types f g ≡ true → In p (typed f) → AllByRecursion (λ (q : ℕ × Elem). (p.0 == q.0) ≡ true → p.1 ≡ q.1) (typed g)
agreed f g p h a =
    All_weaker (λ (q : ℕ × Elem). (not (p.0 == q.0) || same_elem p.1 q.1) ≡ true) (λ (q : ℕ × Elem). (p.0 == q.0) ≡ true → p.1 ≡ q.1)
    (λ q t e. or_cases (not (p.0 == q.0)) (same_elem p.1 q.1) t (λ k. absurd (false≢true (sym (ap not e) ∙ k))) (λ k. same_elem_is p.1 q.1 k)) (typed g)
    (all_of (λ (q : ℕ × Elem). not (p.0 == q.0) || same_elem p.1 q.1) (typed g)
    (all_in (λ (p : ℕ × Elem). list_all (λ (q : ℕ × Elem). not (p.0 == q.0) || same_elem p.1 q.1) (typed g) ≡ true) (typed f)
    (all_of (λ (p : ℕ × Elem). list_all (λ (q : ℕ × Elem). not (p.0 == q.0) || same_elem p.1 q.1) (typed g)) (typed f) h) p a))

pub types_agree : (list : List Op) → AllByRecursion (λ f. AllByRecursion (λ g. same_types f g ≡ true) list) list → AllByRecursion (λ f. AllByRecursion (λ (p : ℕ × Elem). elem_of list p.0 ≡ p.1) (typed f)) list
types_agree list h =
    in_all (λ f. AllByRecursion (λ (p : ℕ × Elem). elem_of list p.0 ≡ p.1) (typed f)) list
    (λ f a. in_all (λ (p : ℕ × Elem). elem_of list p.0 ≡ p.1) (typed f)
    (λ p b. found (flat_map typed list) p.0 p.1
    (all_flat_map (λ (q : ℕ × Elem). (p.0 == q.0) ≡ true → p.1 ≡ q.1) typed list
    (All_weaker (λ g. same_types f g ≡ true) (λ g. AllByRecursion (λ (q : ℕ × Elem). (p.0 == q.0) ≡ true → p.1 ≡ q.1) (typed g)) (λ g e. agreed f g p e b) list
    (all_in (λ f. AllByRecursion (λ g. same_types f g ≡ true) list) list h f a))) (is_there list f p a b)))

pub types_there : (ops : List Op) → each_typed ops ≡ true → AllByRecursion (λ f. AllByRecursion (λ (p : ℕ × Elem). elem_of ops p.0 ≡ p.1) (typed f)) ops
types_there ops h =
    types_agree ops
    (All_weaker (λ f. list_all (same_types f) ops ≡ true) (λ f. AllByRecursion (λ g. same_types f g ≡ true) ops) (λ f e. all_of (same_types f) ops e) ops (all_of (λ f. list_all (same_types f) ops) ops h))

-- ---- of one operation

module _ (ops : List Op) (types : each_typed ops ≡ true) (k : ℕ) (op : Op) (l : k < length ops) (e : op ≡ get_or ops k op) where
  at_op : AllByRecursion (λ (p : ℕ × Elem). elem_of ops p.0 ≡ p.1) (map (λ (v : Strided). (v.base, op.to)) (outputs op) ++ map (λ (v : Strided). (v.base, op.from)) (inputs op))
  at_op =
      all_left (λ (p : ℕ × Elem). elem_of ops p.0 ≡ p.1) (map (λ (v : Strided). (v.base, op.to)) (outputs op) ++ map (λ (v : Strided). (v.base, op.from)) (inputs op)) (map (λ b. (b, op.to)) (freed op))
      (all_get (λ f. AllByRecursion (λ (p : ℕ × Elem). elem_of ops p.0 ≡ p.1) (typed f)) ops k op l e (types_there ops types))

  pub inputs_of_type : AllByRecursion (λ (v : Strided). elem_of ops v.base ≡ op.from) (inputs op)
  inputs_of_type =
      all_mapped (λ (p : ℕ × Elem). elem_of ops p.0 ≡ p.1) (λ (v : Strided). (v.base, op.from)) (inputs op)
      (all_right (λ (p : ℕ × Elem). elem_of ops p.0 ≡ p.1) (map (λ (v : Strided). (v.base, op.to)) (outputs op)) (map (λ (v : Strided). (v.base, op.from)) (inputs op)) at_op)

  pub output_of_type : (o : Strided) → op.out ≡ Some o → elem_of ops o.base ≡ op.to
  output_of_type o out =
      (subst (λ x. AllByRecursion (λ (v : Strided). elem_of ops v.base ≡ op.to) (option_to_list x)) out
      (all_mapped (λ (p : ℕ × Elem). elem_of ops p.0 ≡ p.1) (λ (v : Strided). (v.base, op.to)) (outputs op)
      (all_left (λ (p : ℕ × Elem). elem_of ops p.0 ≡ p.1) (map (λ (v : Strided). (v.base, op.to)) (outputs op)) (map (λ (v : Strided). (v.base, op.from)) (inputs op)) at_op))).0
