-- Registers of views one after another, places of operations, and the views that a walk stores.
use Rattle.std.proofs.Common.{◌≡◌, ℕ, List, [], ◌∷◌, ◌++◌, Bool, true, false, cond, not, ◌||◌, Option, None, refl, ap, sym, ◌∙◌}
use Rattle.std.specs.List.{AllByRecursion, filter, flat_map, list_all}
use Rattle.std.specs.Option.{option_to_list}
use Rattle.std.proofs.lemmas.Bool.{false≢true}
use Rattle.arr_num.specs.Kinds.{folds, is_reduction}
use Rattle.arr_view.specs.Strided.{Strided}
use Rattle.arr_view.specs.Views.{has, identical}
use Rattle.arr_ops.specs.declared.op.Op.{Op}
use Rattle.arr_ops.specs.Costs.{distinct, writes}
use Rattle.arr_ops.specs.Formed.{well_formed}
use Rattle.arr_ops.specs.Ops.{freed, freed_by, outputs}
use Rattle.arr_ops.proofs.Tests.{all_of}
use Rattle.arr_strips.specs.Blocks.{stores}
use Rattle.arr_strips.specs.Columns.{filled}
use Rattle.arr_strips.proofs.Sorts.{sorts}

-- ---- stored views

-- a reduction frees nothing
frees_none : (f : Op) (b : ℕ) → well_formed f ≡ true → is_reduction f.code ≡ true → has (freed f) b ≡ false
frees_none f b well red =
    sorts f well (λ o fill plain. absurd (false≢true (sym fill.not_fold ∙ red))) (λ v s. absurd (false≢true (sym (ap folds s.kind_is) ∙ red))) (λ s. absurd (false≢true (sym (ap folds s.kind_is) ∙ red)))
    (λ o v r. ap (λ (x : Option ℕ). has (option_to_list x) b) r.no_free)

abbrev others : List Op → List Op
others ops = filter (λ (op : Op). not (is_reduction op.code)) ops

freed_others : (ops : List Op) (b : ℕ) → AllByRecursion (λ f. well_formed f ≡ true) ops → freed_by (others ops) b ≡ freed_by ops b
freed_others [] b w = refl
freed_others (f ∷ ops) b w =
    elim (is_reduction f.code) as (λ z. is_reduction f.code ≡ z → freed_by (cond (not z) (f ∷ others ops) (others ops)) b ≡ (has (freed f) b || freed_by ops b)) [
      | true ↦ λ e. freed_others ops b w.1 ∙ ap (λ z. z || freed_by ops b) (sym (frees_none f b w.0 e))
      | false ↦ λ e. ap (λ z. has (freed f) b || z) (freed_others ops b w.1)
    ] refl

outs_others : (q : Strided → Bool) (ops : List Op) → flat_map (λ (op : Op). filter q (outputs op)) (others ops) ≡ flat_map (λ (op : Op). filter q (filled op)) ops
outs_others q [] = refl
outs_others q (f ∷ ops) =
    elim (is_reduction f.code) as (λ z. flat_map (λ (op : Op). filter q (outputs op)) (cond (not z) (f ∷ others ops) (others ops)) ≡ filter q (option_to_list (cond z None f.out)) ++ flat_map (λ (op : Op). filter q (filled op)) ops) [
      | true ↦ outs_others q ops
      | false ↦ ap (λ zs. filter q (outputs f) ++ zs) (outs_others q ops)
    ]

pub stored_are : (ops : List Op) → list_all well_formed ops ≡ true → writes (others ops) ≡ stores ops
stored_are ops w =
    ap (distinct identical)
    (ap (λ (p : ℕ → Bool). flat_map (λ (op : Op). filter (λ (v : Strided). not (p v.base)) (outputs op)) (others ops)) (λ i b. freed_others ops b (all_of well_formed ops w) i)
    ∙ outs_others (λ (v : Strided). not (freed_by ops v.base)) ops)
