-- The operations of a block, and the types of bases.
use Rattle.std.proofs.Common.{◌≡◌, ℕ, zero, suc, ◌+◌, ◌<◌, ◌≤◌, List, [], ◌∷◌, ◌++◌, true, false, cond, Some, None, length, take, get_or, refl, ap, ap₂, sym, ◌∙◌, arith}
use Rattle.std.specs.Prelude.{◌==◌}
use Rattle.std.specs.List.{enumerate_from, flat_map}
use Rattle.std.proofs.lemmas.List.{take_more, take_all}
use Rattle.arr_view.specs.Views.{has}
use Rattle.arr_num.specs.declared.elem.Elem.{Elem}
use Rattle.arr_ops.specs.declared.op.Op.{Op}
use Rattle.arr_ops.specs.Costs.{elem_in, elem_of}
use Rattle.arr_ops.specs.Formed.{typed}
use Rattle.arr_ops.specs.Plans.{numbered, ops_of}
use Rattle.arr_cost.specs.Types.{type_among}

-- ---- the operations of a block, one after another

ops_end : (xs : List (ℕ × Op)) (x : ℕ × Op) (block : List ℕ) → ops_of (xs ++ x ∷ []) block ≡ ops_of xs block ++ cond (has block x.0) (x.1 ∷ []) []
ops_end [] x block = elim (has block x.0) as (λ b. cond b (x.1 ∷ []) [] ≡ cond b (x.1 ∷ []) []) [ true ↦ refl | false ↦ refl ]
ops_end (y ∷ xs) x block =
    elim (has block y.0) as (λ b. cond b (y.1 ∷ ops_of (xs ++ x ∷ []) block) (ops_of (xs ++ x ∷ []) block) ≡ cond b (y.1 ∷ ops_of xs block) (ops_of xs block) ++ cond (has block x.0) (x.1 ∷ []) []) [
      | true ↦ ap (λ r. y.1 ∷ r) (ops_end xs x block)
      | false ↦ ops_end xs x block
    ]

numbered_there : (k : ℕ) (list : List Op) (i : ℕ) (op : Op) → i < length list → op ≡ get_or list i op → get_or (enumerate_from k list) i (k + i, op) ≡ (k + i, op)
numbered_there k [] i op l e = absurd (omega arith)
numbered_there k (o ∷ list) zero op l e = ap₂ (λ (n : ℕ) (p : Op). (n, p)) (let z : k ≡ k + 0 = omega arith in z) (sym e)
numbered_there k (o ∷ list) (suc i) op l e =
    let same : k + suc i ≡ k + 1 + i = omega arith in
    ap (λ n. get_or (enumerate_from (k + 1) list) i (n, op)) same ∙ numbered_there (k + 1) list i op (omega arith) e ∙ ap (λ n. (n, op)) (sym same)

long_numbered : (k : ℕ) (list : List Op) → length (enumerate_from k list) ≡ length list
long_numbered k [] = refl
long_numbered k (op ∷ list) = ap suc (long_numbered (k + 1) list)

pub ops_more : (list : List Op) (block : List ℕ) (i : ℕ) (op : Op) → i < length list → op ≡ get_or list i op
    → ops_of (take (i + 1) (numbered list)) block ≡ ops_of (take i (numbered list)) block ++ cond (has block (i + 1)) (op ∷ []) []
ops_more list block i op l e =
    let long : length (numbered list) ≡ length list = long_numbered 1 list in
    ap (λ xs. ops_of xs block) (take_more (numbered list) i (1 + i, op) (omega arith) ∙ ap (λ x. take i (numbered list) ++ x ∷ []) (numbered_there 1 list i op l e ∙ ap (λ n. (n, op)) (let z : 1 + i ≡ i + 1 = omega arith in z)))
    ∙ ops_end (take i (numbered list)) (i + 1, op) block

pub ops_all : (list : List Op) (block : List ℕ) (i : ℕ) → length list ≤ i → ops_of (take i (numbered list)) block ≡ ops_of (numbered list) block
ops_all list block i l = let long : length (numbered list) ≡ length list = long_numbered 1 list in ap (λ xs. ops_of xs block) (take_all i (numbered list) (omega arith))

-- ---- the type of a base

elem_or : (ps qs : List (ℕ × Elem)) (b : ℕ) → elem_in (ps ++ qs) b ≡ elim (type_among ps b) as (λ _. Elem) [ None ↦ elem_in qs b | Some t ↦ t ]
elem_or [] qs b = refl
elem_or (p ∷ ps) qs b =
    elim (p.0 == b) as (λ t. cond t p.1 (elem_in (ps ++ qs) b) ≡ elim (cond t (Some p.1) (type_among ps b)) as (λ _. Elem) [ None ↦ elem_in qs b | Some t ↦ t ]) [
      | true ↦ refl
      | false ↦ elem_or ps qs b
    ]

pub elem_found : (op : Op) (list : List Op) (b : ℕ) (t : Elem) → type_among (typed op) b ≡ Some t → elem_of (op ∷ list) b ≡ t
elem_found op list b t e = elem_or (typed op) (flat_map typed list) b ∙ ap (λ o. elim o as (λ _. Elem) [ None ↦ elem_in (flat_map typed list) b | Some t ↦ t ]) e

pub elem_later : (op : Op) (list : List Op) (b : ℕ) → type_among (typed op) b ≡ None → elem_of (op ∷ list) b ≡ elem_of list b
elem_later op list b e = elem_or (typed op) (flat_map typed list) b ∙ ap (λ o. elim o as (λ _. Elem) [ None ↦ elem_in (flat_map typed list) b | Some t ↦ t ]) e
