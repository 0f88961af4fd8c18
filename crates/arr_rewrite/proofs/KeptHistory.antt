-- The rules that look at the only writer of a base keep the memory that a formed list leaves.
use Rattle.std.proofs.Common.{◌≡◌, ℕ, ◌<◌, ℤ, List, [], ◌∷◌, ◌++◌, Bool, true, false, cond, not, ◌||◌, ◌&&◌, refl, ap, sym, subst, ◌∙◌, Option, Some, None, map, length}
use Rattle.std.proofs.lemmas.Bool.{false≢true, eqb-true, eq-eqb, ltb-true}
use Rattle.std.specs.Prelude.{◌==◌, is_some, nat_eq, nat_lt, replicate}
use Rattle.std.specs.List.{AllByRecursion, list_all, list_any}
use Rattle.std.specs.Option.{option_to_list}
use Rattle.arr_view.specs.Strided.{Strided}
use Rattle.arr_view.specs.Views.{elements, has, positions}
use Rattle.arr_ops.specs.Ops.{outputs, inputs, views, freed, named}
use Rattle.arr_num.specs.Kinds.{kind, Unary}
use Rattle.arr_num.specs.Numbers.{in_type}
use Rattle.arr_ops.specs.Memory.{Memory, eager, read}
use Rattle.arr_ops.specs.Formed.{types_kept, same_elem, elementwise, well_formed, operands_kept, numbers_kept, numbers_of, is_array, may_precede, kind_kept}
use Rattle.arr_ops.proofs.Spots.{Formed, operands_of, types_of, same_elem_is, none_from, all_left, all_right, all_two, pairs_before}
use Rattle.std.specs.Bool.{then_some}
use Rattle.arr_rewrite.specs.Writers.{Writer, only_writer_in, only_writer, writes_base, unwritten_base}
use Rattle.arr_num.specs.declared.code.Code.TheVariants.{Identity}
use Rattle.arr_ops.specs.declared.op.Op.{Op}
use Rattle.arr_ops.specs.declared.op.Operand.TheVariants.{Number}
use Rattle.arr_ops.proofs.Pairs.{All_weaker}
use Rattle.arr_ops.proofs.Tests.{both_left, both_right, all_of, or_cases}
use Rattle.arr_ops.proofs.Writes.{or_left}
use Rattle.arr_rewrite.proofs.Agree.{eager-append, Leaves}
use Rattle.arr_rewrite.proofs.Options.{some_true, some_same}
use Rattle.arr_rewrite.proofs.Replace.{walk_length}
use Rattle.arr_rewrite.proofs.KeptRemoved.{Bare, maker_bare}
use Rattle.arr_rewrite.proofs.History.{Wrote, filled_shows}
use Rattle.arr_rewrite.proofs.Parts.{not_is}

-- ---- the writer that is found

pub record Found (front : List Op) (b : ℕ) (w : Writer) : Type 0 where
  pub pre : List Op
  pub split : front ≡ pre ++ w.op ∷ w.between
  pub writes : writes_base w.op b ≡ true
  pub makes : w.op.makes ≡ true
  pub alone : unwritten_base w.between b ≡ true

pub found : (front : List Op) (b : ℕ) (w : Writer) → only_writer_in front b ≡ Some w → Found front b w
found [] b w e = absurd (cc)
found (f ∷ fs) b w e =
    elim (writes_base f b) as (λ t. writes_base f b ≡ t → cond t (then_some (f.makes && unwritten_base fs b) (record { op = f; between = fs })) (only_writer_in fs b) ≡ Some w → Found (f ∷ fs) b w) [
      | true ↦ λ d g.
          let new : Writer = record { op = f; between = fs } in
          let t : (f.makes && unwritten_base fs b) ≡ true = some_true (f.makes && unwritten_base fs b) new w g in
          let same : new ≡ w = some_same (f.makes && unwritten_base fs b) new w g in
          subst (Found (f ∷ fs) b) same (record { pre = []; split = refl; writes = d; makes = both_left f.makes _ t; alone = both_right f.makes _ t })
      | false ↦ λ d g.
          let k : Found fs b w = found fs b w g in
          record { pre = f ∷ k.pre; split = ap (λ xs. f ∷ xs) k.split; writes = k.writes; makes = k.makes; alone = k.alone }
    ] refl e

pub found_before : (front back : List Op) (b : ℕ) (w : Writer) → only_writer front back b ≡ Some w → Found front b w
found_before front back b w e =
    elim (unwritten_base back b) as (λ t. cond t (only_writer_in front b) None ≡ Some w → Found front b w) [
      | true ↦ λ g. found front b w g
      | false ↦ λ g. absurd (cc)
    ] e

-- ---- from tests

unwritten_outputs : (b : ℕ) (out : Option Strided) → not (list_any (λ (o : Strided). o.base == b) (option_to_list out)) ≡ true → AllByRecursion (λ (v : Strided). (v.base == b) ≡ false) (option_to_list out)
unwritten_outputs b None h = tt
unwritten_outputs b (Some o) h = (or_left (o.base == b) false (not_is ((o.base == b) || false) h), tt)

-- f frees no base that op names
pub unfreed_base : (frees : Option ℕ) (names : List ℕ) (b : ℕ) → list_all (λ k. not (has names k)) (option_to_list frees) ≡ true → has names b ≡ true → has (option_to_list frees) b ≡ false
unfreed_base None names b h t = refl
unfreed_base (Some k) names b h t =
    elim (nat_eq b k) as (λ x. nat_eq b k ≡ x → (x || false) ≡ false) [
      | true ↦ λ e. absurd (false≢true (sym (not_is (has names k) (both_left (not (has names k)) true h)) ∙ ap (has names) (sym (eqb-true b k e)) ∙ t))
      | false ↦ λ e. refl
    ] refl

has_append_left : (xs ys : List ℕ) (b : ℕ) → has xs b ≡ true → has (xs ++ ys) b ≡ true
has_append_left [] ys b h = absurd (false≢true h)
has_append_left (x ∷ xs) ys b h = or_cases (nat_eq b x) (has xs b) h (λ t. ap (λ k. k || has (xs ++ ys) b) t) (λ t. second (nat_eq b x) (has (xs ++ ys) b) (has_append_left xs ys b t))
  where
    second : (x y : Bool) → y ≡ true → (x || y) ≡ true
    second true y h = refl
    second false y h = h

bases_had : (vs : List Strided) → AllByRecursion (λ (v : Strided). has (map (λ (w : Strided). w.base) vs) v.base ≡ true) vs
bases_had [] = tt
bases_had (v ∷ vs) = (
  ap (λ k. k || has (map (λ (w : Strided). w.base) vs) v.base) (eq-eqb v.base v.base refl),
  All_weaker (λ (u : Strided). has (map (λ (w : Strided). w.base) vs) u.base ≡ true) (λ (u : Strided). has (map (λ (w : Strided). w.base) (v ∷ vs)) u.base ≡ true) (λ u t. second (nat_eq u.base v.base) _ t) vs (bases_had vs),
)
  where
    second : (x y : Bool) → y ≡ true → (x || y) ≡ true
    second true y h = refl
    second false y h = h

-- the bases of its inputs are named
pub inputs_named : (op : Op) → AllByRecursion (λ (v : Strided). has (named op) v.base ≡ true) (inputs op)
inputs_named op =
    All_weaker (λ (v : Strided). has (map (λ (w : Strided). w.base) (views op)) v.base ≡ true) (λ (v : Strided). has (named op) v.base ≡ true)
    (λ v t. has_append_left (map (λ (w : Strided). w.base) (views op)) (freed op) v.base t) (inputs op)
    (all_right (λ (v : Strided). has (map (λ (w : Strided). w.base) (views op)) v.base ≡ true) (outputs op) (inputs op) (bases_had (views op)))

-- ---- the writer left its base alone until op

pub wrote : (pre between back : List Op) (w op : Op) (o : Strided) → Formed ((pre ++ w ∷ between) ++ op ∷ back) → w.makes ≡ true → w.out ≡ Some o
    → has (named op) o.base ≡ true → unwritten_base between o.base ≡ true → Wrote w o between
wrote pre between back w op o formed makes out names alone =
    let front : List Op = pre ++ w ∷ between in
    let well : well_formed w ≡ true = (all_right (λ f. well_formed f ≡ true) pre (w ∷ between) (all_left (λ f. well_formed f ≡ true) front (op ∷ back) formed.well)).0 in
    let bare : Bare w = maker_bare (kind w.code) w (operands_of w well) makes in
    let order : AllByRecursion (λ f. may_precede f op ≡ true) front = pairs_before (λ f g. may_precede f g ≡ true) front op back formed.order in
    let later : AllByRecursion (λ f. may_precede f op ≡ true) between = (all_right (λ f. may_precede f op ≡ true) pre (w ∷ between) order).1 in
    record {
      out = out;
      makes = makes;
      frees = bare.no_free;
      left = all_two (λ f. not (writes_base f o.base) ≡ true) (λ f. may_precede f op ≡ true) (Leaves o.base)
          (λ f a b. record {
            outputs_not = unwritten_outputs o.base f.out a;
            freed_not = unfreed_base f.frees (named op) o.base (both_right (not op.makes || list_all (λ (u : Strided). not (has (named f) u.base)) (outputs op)) _ b) names;
          })
          between (all_of (λ f. not (writes_base f o.base)) between alone) later;
    }

-- ---- a base filled with a constant

-- the operand x reads z everywhere
pub filled_reads : (m : Memory) (pre between back : List Op) (w op : Op) (o x : Strided) (z : ℤ) → Formed ((pre ++ w ∷ between) ++ op ∷ back)
    → w.makes ≡ true → w.out ≡ Some o → w.code ≡ Identity → w.first ≡ Some (Number z) → unwritten_base between o.base ≡ true
    → x.base ≡ o.base → has (named op) x.base ≡ true → length (elements x) ≡ walk_length op
    → AllByRecursion (λ (v : Strided). (not (o.base == v.base) || list_all (λ e. nat_lt e (positions o.lengths)) (elements v)) ≡ true) (x ∷ [])
    → read ((eager m (pre ++ w ∷ between)).bases x.base) (elements x) ≡ replicate (walk_length op) z
filled_reads m pre between back w op o x z formed makes out code first alone base names size inside =
    let front : List Op = pre ++ w ∷ between in
    let well : well_formed w ≡ true = (all_right (λ f. well_formed f ≡ true) pre (w ∷ between) (all_left (λ f. well_formed f ≡ true) front (op ∷ back) formed.well)).0 in
    let kept : operands_kept Unary w ≡ true = ap (λ c. operands_kept (kind c) w) (sym code) ∙ operands_of w well in
    let second : w.second ≡ None = none_from w.second (both_right (is_some w.first) _ (both_right (elementwise w) _ kept)) in
    let numbers : numbers_kept w.code w ≡ true = both_right (types_kept w.code w) _ (both_right (operands_kept (kind w.code) w) _ (both_left (kind_kept w) _ well)) in
    let numbers2 : numbers_kept Identity w ≡ true = ap (λ c. numbers_kept c w) (sym code) ∙ numbers in
    let from : in_type w.from z ≡ true =
    both_left (in_type w.from z) true (ap (λ f. list_all (in_type w.from) (numbers_of f)) (sym first) ∙ both_left (list_all (in_type w.from) (numbers_of w.first)) _ numbers2) in
    let types : (is_array w.first || same_elem w.to w.from) ≡ true = ap (λ c. types_kept c w) (sym code) ∙ types_of w well in
    let to : w.to ≡ w.from = same_elem_is w.to w.from (ap (λ f. is_array f || same_elem w.to w.from) (sym first) ∙ types) in
    let n : has (named op) o.base ≡ true = ap (has (named op)) (sym base) ∙ names in
    let below : AllByRecursion (λ p. p < positions o.lengths) (elements x) =
    All_weaker (λ p. nat_lt p (positions o.lengths) ≡ true) (λ p. p < positions o.lengths) (λ p t. ltb-true p (positions o.lengths) t) (elements x)
    (all_of (λ p. nat_lt p (positions o.lengths)) (elements x) (ap (λ t. not t || list_all (λ e. nat_lt e (positions o.lengths)) (elements x)) (sym (eq-eqb o.base x.base (sym base))) ∙ inside.0)) in
    ap (λ k. read (k.bases x.base) (elements x)) (eager-append m pre (w ∷ between))
    ∙ filled_shows (eager m pre) w o x z (walk_length op) between (wrote pre between back w op o formed makes out n alone) code first second (ap (λ t. in_type t z) to ∙ from) base below size
