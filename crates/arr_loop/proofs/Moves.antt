-- Where a view lies, what an operation that writes leaves, and dropping bases.
use Rattle.std.proofs.Common.{◌≡◌, ℕ, suc, ◌<◌, ◌≤◌, ℤ, List, ◌∷◌, ◌++◌, Bool, true, false, cond, ◌||◌, Option, Some, None, length, take, drop, get_or, map, refl, ap, sym, ◌∙◌, arith}
use Rattle.arr_num.specs.Numbers.{width}
use Rattle.arr_num.specs.declared.elem.Elem.{Elem}
use Rattle.arr_num.specs.declared.elem.Elem.TheVariants.{U8, I32, I64, U64}
use Rattle.std.specs.Prelude.{nat_eq, nat_lt, ◌==◌}
use Rattle.std.specs.Option.{option_to_list}
use Rattle.std.proofs.lemmas.Bool.{eq-eqb, ltb-true, eqb-true}
use Rattle.std.proofs.lemmas.List.Folds.{list_any-append}
use Rattle.arr_view.specs.Strided.{Strided}
use Rattle.arr_view.specs.Views.{elements, has, is_view, positions}
use Rattle.arr_ops.specs.declared.op.Op.{Op}
use Rattle.arr_ops.specs.Ops.{freed, freed_by, named, views}
use Rattle.arr_ops.specs.Formed.{all_pairs, may_precede}
use Rattle.arr_ops.specs.Memory.{Cell, Writes, changed, Becomes, Change, Drops, Keeps, Slot, change, output_change, put}
use Rattle.arr_ops.proofs.Pairs.{All_weaker, Pairs}
use Rattle.arr_ops.proofs.Parts.{length-elements}
use Rattle.arr_ops.proofs.Spots.{pairs_before}
use Rattle.arr_ops.proofs.Tests.{pairs_of}
use Rattle.arr_store.specs.Cells.{assigned, size_at, width_at}
use Rattle.arr_loop.specs.Numbers.{lie_inside}
use Rattle.arr_strips.specs.Columns.{place_at}
use Rattle.arr_strips.proofs.Sames.{none_if}
use Rattle.arr_strips.proofs.Stages.{all_at, unfreed}
use Rattle.arr_contract.specs.Prepared.{may_share_block}
use Rattle.arr_loop.proofs.Shares.{in_turn}
use Rattle.arr_loop.proofs.Buffers.{any_at, split_at}

-- ---- places

pub place_inside : (v : Strided) (p : ℕ) (c : Option Cell) → is_view v ≡ true → lie_inside (elements v) c ≡ true → p < positions v.lengths → place_at v p < size_at c
place_inside v p c h inside l =
    ltb-true (place_at v p) (size_at c) (all_at (λ e. nat_lt e (size_at c)) (elements v) p inside (let long : length (elements v) ≡ positions v.lengths = length-elements v h in omega arith))

pub small_width : (c : Option Cell) → width_at c ≤ 8
small_width None = omega arith
small_width (Some c) = at_most c.elem
  where
    at_most : (t : Elem) → width t ≤ 8
    at_most U8 = omega arith
    at_most I32 = omega arith
    at_most I64 = omega arith
    at_most U64 = omega arith

-- the bases after an operation that writes
pub put_some : (f : ℕ → Option Cell) (s : ℕ → Option Slot) (op : Op) (o : Strided) (xs : List ℤ) → op.out ≡ Some o → op.frees ≡ None
    → (put (record { bases = f; slots = s }) op xs).bases ≡ assigned f o.base (changed (cond op.makes (Becomes (record { elem = op.to; numbers = xs })) (Writes (elements o) xs)) (f o.base))
put_some f s op o xs out frees = λ i b. at b i
  where
    new : Change
    new = cond op.makes (Becomes (record { elem = op.to; numbers = xs })) (Writes (elements o) xs)

    at : (b : ℕ) → changed (change op xs b) (f b) ≡ assigned f o.base (changed (cond op.makes (Becomes (record { elem = op.to; numbers = xs })) (Writes (elements o) xs)) (f o.base)) b
    at b =
        ap (λ x. changed (cond (has (option_to_list x) b) Drops (output_change op.out op.makes op.to xs b)) (f b)) frees
        ∙ ap (λ x. changed (output_change x op.makes op.to xs b) (f b)) out
        ∙ elim (o.base == b) as (λ p. (o.base == b) ≡ p
        → changed (cond p (cond op.makes (Becomes (record { elem = op.to; numbers = xs })) (Writes (elements o) xs)) Keeps) (f b)
        ≡ cond p (changed (cond op.makes (Becomes (record { elem = op.to; numbers = xs })) (Writes (elements o) xs)) (f o.base)) (f b)) [
          | true ↦ λ e. ap (λ k. changed (cond op.makes (Becomes (record { elem = op.to; numbers = xs })) (Writes (elements o) xs)) (f k)) (sym (eqb-true o.base b e))
          | false ↦ λ e. refl
        ] refl

-- ---- dropping

named_freed : (op : Op) (b : ℕ) → op.frees ≡ Some b → (has (freed op) b ≡ true) × (has (named op) b ≡ true)
named_freed op b e =
    let here : has (freed op) b ≡ true = ap (λ (x : Option ℕ). has (option_to_list x) b) e ∙ ap (λ z. z || false) (eq-eqb b b refl) in
    (here, list_any-append (nat_eq b) (map (λ (v : Strided). v.base) (views op)) (freed op) ∙ behind (has (map (λ (v : Strided). v.base) (views op)) b) (has (freed op) b) here)
  where
    behind : (x y : Bool) → y ≡ true → (x || y) ≡ true
    behind true y h = refl
    behind false y h = h

-- the base of a FREE is freed nowhere before
pub freed_once : (ops : List Op) (i : ℕ) (op : Op) (b : ℕ) → i < length ops → op ≡ get_or ops i op → may_share_block ops ≡ true → op.frees ≡ Some b → (freed_by (take i ops) b ≡ false) × (freed_by ops b ≡ true)
freed_once ops i op b l e share frees =
    let split : ops ≡ take i ops ++ op ∷ drop (suc i) ops = split_at ops i op l e in
    let order : Pairs (λ f g. may_precede f g ≡ true) (take i ops ++ op ∷ drop (suc i) ops) = pairs_of may_precede (take i ops ++ op ∷ drop (suc i) ops) (ap (all_pairs may_precede) (sym split) ∙ in_turn ops share) in
    let both : (has (freed op) b ≡ true) × (has (named op) b ≡ true) = named_freed op b frees in (
      none_if (λ f. has (freed f) b) (take i ops) (All_weaker (λ f. may_precede f op ≡ true) (λ f. has (freed f) b ≡ false) (λ f p. unfreed f op p b both.1) (take i ops) (pairs_before (λ f g. may_precede f g ≡ true) (take i ops) op (drop (suc i) ops) order)),
      ap (λ xs. freed_by xs b) split ∙ any_at (λ f. has (freed f) b) (take i ops) (drop (suc i) ops) op both.0,
    )
