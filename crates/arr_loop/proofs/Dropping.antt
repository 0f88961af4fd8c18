-- Dropping the bases that a block frees.
use Rattle.std.proofs.Common.{◌≡◌, ℕ, ◌+◌, ◌<◌, List, [], ◌∷◌, ◌++◌, Bool, true, false, cond, ◌||◌, ◌&&◌, Option, Some, None, length, take, get_or, refl, ap, sym, ◌∙◌}
use Rattle.std.proofs.lemmas.List.{take_more}
use Rattle.std.proofs.lemmas.List.Folds.{list_any-append}
use Rattle.arr_view.specs.Views.{has}
use Rattle.arr_ops.specs.declared.op.Op.{Op}
use Rattle.arr_ops.specs.Memory.{Cell}
use Rattle.arr_ops.specs.Ops.{creates, freed, freed_by}
use Rattle.arr_ops.specs.Traffic.{contracted}
use Rattle.arr_contract.specs.Prepared.{may_share_block}
use Rattle.arr_loop.proofs.Buffers.{contracted_when}
use Rattle.arr_loop.proofs.Moves.{freed_once}

-- the base of the next FREE: none before frees it, and it is contracted where the block creates it
pub record FreedHere (ops : List Op) (i b : ℕ) (bases : List ℕ) (some : List Op) : Type 0 where
  pub before : freed_by (take i some) b ≡ false
  pub freed : freed_by ops b ≡ true
  pub made : creates ops b ≡ has bases b

pub freed_here : (ops some : List Op) (i : ℕ) (op : Op) (b : ℕ) (bases : List ℕ) → some ≡ ops → i < length some → op ≡ get_or some i op → may_share_block ops ≡ true → bases ≡ contracted ops → op.frees ≡ Some b
    → FreedHere ops i b bases some
freed_here ops some i op b bases same l e share are gone =
    let once : (freed_by (take i some) b ≡ false) × (freed_by some b ≡ true) = freed_once some i op b l e (ap may_share_block same ∙ share) gone in
    let freed : freed_by ops b ≡ true = ap (λ xs. freed_by xs b) (sym same) ∙ once.1 in
    record {
      before = once.0;
      freed = freed;
      made = sym (ap (λ xs. has xs b) are ∙ contracted_when ops b ∙ ap (λ z. z && creates ops b) freed);
    }

pub dropped_more : (ops : List Op) (i : ℕ) (op : Op) (old now new : ℕ → Option Cell) → i < length ops → op ≡ get_or ops i op → ((b : ℕ) → now b ≡ cond (freed_by (take i ops) b) None (old b))
    → ((b : ℕ) → new b ≡ cond (has (freed op) b) None (now b)) → (b : ℕ) → new b ≡ cond (freed_by (take (i + 1) ops) b) None (old b)
dropped_more ops i op old now new l e before more b =
    more b ∙ ap (λ c. cond (has (freed op) b) None c) (before b) ∙ join (freed_by (take i ops) b) (has (freed op) b) (old b)
    ∙ sym (ap (λ xs. cond (freed_by xs b) None (old b)) (take_more ops i op l ∙ ap (λ f. take i ops ++ f ∷ []) (sym e)) ∙ ap (λ z. cond z None (old b)) (list_any-append (λ f. has (freed f) b) (take i ops) (op ∷ [])))
  where
    join : (x y : Bool) (c : Option Cell) → cond y None (cond x None c) ≡ cond (x || (y || false)) None c
    join true true c = refl
    join true false c = refl
    join false true c = refl
    join false false c = refl
