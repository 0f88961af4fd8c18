-- A base has in a block the type that it has in the list.
use Rattle.std.proofs.Common.{◌≡◌, ℕ, ◌+◌, List, [], ◌∷◌, ◌++◌, true, map, not, refl, ap, ap₂, sym, ◌∙◌}
use Rattle.std.specs.List.{AllByRecursion, filter, list_all}
use Rattle.arr_num.specs.declared.elem.Elem.{Elem}
use Rattle.arr_view.specs.Strided.{Strided}
use Rattle.arr_view.specs.Views.{identical}
use Rattle.arr_ops.specs.declared.op.Op.{Op}
use Rattle.arr_ops.specs.Costs.{all_reads, all_writes, distinct, elem_of, total, weight, weight_of}
use Rattle.arr_ops.specs.Formed.{is_formed, same_types, typed}
use Rattle.arr_ops.specs.Ops.{creates, freed, freed_by, inputs, outputs}
use Rattle.arr_ops.specs.Plans.{numbered, ops_of}
use Rattle.arr_ops.proofs.Pairs.{All_filter, All_weaker}
use Rattle.arr_ops.proofs.Spots.{Formed, all_left, all_mapped, all_right, all_two, formed_of}
use Rattle.arr_ops.proofs.Tests.{all_numbered, all_of}
use Rattle.arr_strips.proofs.Legal.{all_ops}
use Rattle.arr_strips.proofs.Sames.{all_flat_map}
use Rattle.arr_machine.proofs.Types.{types_agree}
use Rattle.arr_contract.specs.Laws.{BlocksWeigh}
use Rattle.arr_contract.proofs.Shared.{typed_block}

-- ---- the same in a block

same_in_block : (list : List Op) (block : List ℕ) → is_formed list ≡ true
    → AllByRecursion (λ f. AllByRecursion (λ (p : ℕ × Elem). elem_of list p.0 ≡ elem_of (ops_of (numbered list) block) p.0) (typed f)) (ops_of (numbered list) block)
same_in_block list block formed =
    let xs : List (ℕ × Op) = numbered list in
    let ops : List Op = ops_of xs block in
    let f : Formed list = formed_of list formed in
    let own : AllByRecursion (λ f. AllByRecursion (λ g. same_types f g ≡ true) ops) ops =
    All_weaker (λ f. list_all (same_types f) ops ≡ true) (λ f. AllByRecursion (λ g. same_types f g ≡ true) ops) (λ f e. all_of (same_types f) ops e) ops (all_of (λ f. list_all (same_types f) ops) ops (typed_block list block formed)) in
    all_two (λ f. AllByRecursion (λ (p : ℕ × Elem). elem_of list p.0 ≡ p.1) (typed f)) (λ f. AllByRecursion (λ (p : ℕ × Elem). elem_of ops p.0 ≡ p.1) (typed f))
    (λ f. AllByRecursion (λ (p : ℕ × Elem). elem_of list p.0 ≡ elem_of ops p.0) (typed f))
    (λ f a b. all_two (λ (p : ℕ × Elem). elem_of list p.0 ≡ p.1) (λ (p : ℕ × Elem). elem_of ops p.0 ≡ p.1) (λ (p : ℕ × Elem). elem_of list p.0 ≡ elem_of ops p.0) (λ p x y. x ∙ sym y) (typed f) a b) ops
    (all_ops (λ f. AllByRecursion (λ (p : ℕ × Elem). elem_of list p.0 ≡ p.1) (typed f)) block xs
    (all_numbered (λ f. AllByRecursion (λ (p : ℕ × Elem). elem_of list p.0 ≡ p.1) (typed f)) 1 list (types_agree list f.types)))
    (types_agree ops own)

-- ---- weights

weighs : (list ops : List Op) (v : Strided) → elem_of list v.base ≡ elem_of ops v.base → weight list v ≡ weight ops v
weighs list ops v e = ap (λ t. weight_of t v) e

outputs_weigh : (list ops : List Op) (f : Op) → AllByRecursion (λ (p : ℕ × Elem). elem_of list p.0 ≡ elem_of ops p.0) (typed f) → AllByRecursion (λ v. weight list v ≡ weight ops v) (outputs f)
outputs_weigh list ops f h =
    let P : ℕ × Elem → Type 0 = λ (p : ℕ × Elem). elem_of list p.0 ≡ elem_of ops p.0 in
    let outs : List (ℕ × Elem) = map (λ (v : Strided). (v.base, f.to)) (outputs f) in
    let ins : List (ℕ × Elem) = map (λ (v : Strided). (v.base, f.from)) (inputs f) in
    let frees : List (ℕ × Elem) = map (λ b. (b, f.to)) (freed f) in
    All_weaker (λ (v : Strided). elem_of list v.base ≡ elem_of ops v.base) (λ v. weight list v ≡ weight ops v) (weighs list ops) (outputs f)
    (all_mapped P (λ (v : Strided). (v.base, f.to)) (outputs f) (all_left P outs ins (all_left P (outs ++ ins) frees h)))

inputs_weigh : (list ops : List Op) (f : Op) → AllByRecursion (λ (p : ℕ × Elem). elem_of list p.0 ≡ elem_of ops p.0) (typed f) → AllByRecursion (λ v. weight list v ≡ weight ops v) (inputs f)
inputs_weigh list ops f h =
    let P : ℕ × Elem → Type 0 = λ (p : ℕ × Elem). elem_of list p.0 ≡ elem_of ops p.0 in
    let outs : List (ℕ × Elem) = map (λ (v : Strided). (v.base, f.to)) (outputs f) in
    let ins : List (ℕ × Elem) = map (λ (v : Strided). (v.base, f.from)) (inputs f) in
    let frees : List (ℕ × Elem) = map (λ b. (b, f.to)) (freed f) in
    All_weaker (λ (v : Strided). elem_of list v.base ≡ elem_of ops v.base) (λ v. weight list v ≡ weight ops v) (weighs list ops) (inputs f)
    (all_mapped P (λ (v : Strided). (v.base, f.from)) (inputs f) (all_right P outs ins (all_left P (outs ++ ins) frees h)))

all_distinct : (P : Strided → Type 0) (vs : List Strided) → AllByRecursion P vs → AllByRecursion P (distinct identical vs)
all_distinct P [] h = tt
all_distinct P (v ∷ vs) h =
    (h.0, All_filter P (λ w. not (identical v w)) (distinct identical vs) (All_weaker P (λ w. not (identical v w) ≡ true → P w) (λ w p e. p) (distinct identical vs) (all_distinct P vs h.1)))

total_alike : (f g : Strided → ℕ) (vs : List Strided) → AllByRecursion (λ v. f v ≡ g v) vs → total f vs ≡ total g vs
total_alike f g [] h = refl
total_alike f g (v ∷ vs) h = ap₂ (λ a b. a + b) h.0 (total_alike f g vs h.1)

pub blocks_weigh : BlocksWeigh
blocks_weigh list block formed =
    let ops : List Op = ops_of (numbered list) block in
    let P : Strided → Type 0 = λ v. weight list v ≡ weight ops v in
    let same : AllByRecursion (λ f. AllByRecursion (λ (p : ℕ × Elem). elem_of list p.0 ≡ elem_of ops p.0) (typed f)) ops = same_in_block list block formed in
    let read : AllByRecursion P (all_reads ops) =
    all_flat_map P (λ (op : Op). filter (λ (v : Strided). not (creates ops v.base)) (inputs op)) ops
    (All_weaker (λ f. AllByRecursion (λ (p : ℕ × Elem). elem_of list p.0 ≡ elem_of ops p.0) (typed f)) (λ (op : Op). AllByRecursion P (filter (λ (v : Strided). not (creates ops v.base)) (inputs op)))
    (λ f e. All_filter P (λ (v : Strided). not (creates ops v.base)) (inputs f) (All_weaker P (λ (v : Strided). not (creates ops v.base) ≡ true → P v) (λ v p t. p) (inputs f) (inputs_weigh list ops f e))) ops same) in
    let write : AllByRecursion P (all_writes ops) =
    all_flat_map P (λ (op : Op). filter (λ (v : Strided). not (freed_by ops v.base)) (outputs op)) ops
    (All_weaker (λ f. AllByRecursion (λ (p : ℕ × Elem). elem_of list p.0 ≡ elem_of ops p.0) (typed f)) (λ (op : Op). AllByRecursion P (filter (λ (v : Strided). not (freed_by ops v.base)) (outputs op)))
    (λ f e. All_filter P (λ (v : Strided). not (freed_by ops v.base)) (outputs f) (All_weaker P (λ (v : Strided). not (freed_by ops v.base) ≡ true → P v) (λ v p t. p) (outputs f) (outputs_weigh list ops f e))) ops same) in (
      total_alike (weight list) (weight ops) (distinct identical (all_reads ops)) (all_distinct P (all_reads ops) read),
      total_alike (weight list) (weight ops) (distinct identical (all_writes ops)) (all_distinct P (all_writes ops) write),
    )
