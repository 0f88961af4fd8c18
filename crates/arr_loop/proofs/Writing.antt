-- What a block with a serial operation finds, leaves and moves.
use Rattle.std.proofs.Common.{◌≡◌, ℕ, ◌+◌, ◌*◌, ◌≤◌, ℤ, List, [], ◌∷◌, ◌++◌, Bool, true, false, cond, not, ◌||◌, ◌&&◌, Option, Some, None, length, map, take, refl, ap, ap₂, sym, subst, ◌∙◌, arith}
use Rattle.std.specs.Prelude.{◌==◌, ◌/◌, IsSome, is_none, nat_eq}
use Rattle.std.specs.List.{AllByRecursion, filter, list_all, list_any}
use Rattle.std.specs.Option.{option_to_list}
use Rattle.std.proofs.lemmas.Bool.{eqb-true, false≢true, true≢false}
use Rattle.arr_num.specs.declared.elem.Elem.{Elem}
use Rattle.arr_num.specs.Kinds.{folds, is_reduction, is_scan, kind}
use Rattle.arr_num.specs.Numbers.{in_type, width}
use Rattle.arr_view.specs.Strided.{Strided}
use Rattle.arr_view.specs.Views.{elements, has, identical, positions}
use Rattle.arr_ops.specs.declared.op.Op.{Op}
use Rattle.arr_ops.specs.Costs.{distinct, elem_of, reads, total, weight, writes}
use Rattle.arr_ops.specs.Fits.{Need, fits, meets_need, needs, op_fits}
use Rattle.arr_ops.specs.Formed.{typed}
use Rattle.arr_ops.specs.Memory.{Becomes, Cell, Memory, Writes, changed, computed, eager, lengths_of, or_zero, out_lengths, step, without_slots}
use Rattle.arr_ops.specs.Ops.{creates, freed, freed_by, inputs, outputs, serial, view_of}
use Rattle.arr_ops.specs.Traffic.{axis_length, kept_for, out_positions, scratch}
use Rattle.arr_ops.proofs.Lengths.{positions_at}
use Rattle.arr_ops.proofs.Spots.{all_left, all_mapped, all_right, computes_of, operands_of}
use Rattle.arr_ops.proofs.Tests.{all_of, both_left, test_all}
use Rattle.arr_ops.proofs.Typed.{computed_in}
use Rattle.arr_store.specs.Cells.{assigned, width_at}
use Rattle.arr_loop.proofs.Needs.{output_need, outputs_met}
use Rattle.arr_loop.proofs.Moves.{put_some}
use Rattle.arr_loop.proofs.Slots.{computed_alike}
use Rattle.arr_strips.proofs.Sames.{all_distinct, any_all, or_true}
use Rattle.arr_strips.proofs.Sorts.{Reducing, sorts}
use Rattle.arr_contract.specs.Prepared.{may_share_block}
use Rattle.arr_machine.proofs.Types.{types_there}
use Rattle.arr_loop.specs.Numbers.{loads_each, written}
use Rattle.arr_machine.specs.Kept.{inner_of}
use Rattle.arr_loop.specs.Opened.{unopened}
use Rattle.arr_loop.proofs.Elements.{width_met}
use Rattle.arr_loop.proofs.Lone.{Lone, busy, creates_none, eager_lone, reads_lone, serial_makes, writes_lone}
use Rattle.arr_loop.proofs.Shares.{all_typed, in_turn}

-- ---- the types of its bases

at_lone : (P : Op → Type 0) (ops : List Op) (op : Op) (l : Lone ops op) → AllByRecursion P ops → P op
at_lone P ops op l h = (all_right P l.front (op ∷ l.back) (subst (AllByRecursion P) l.is h)).0

module _ (ops : List Op) (op : Op) (l : Lone ops op) (share : may_share_block ops ≡ true) where
  op_typed : AllByRecursion (λ (p : ℕ × Elem). elem_of ops p.0 ≡ p.1) (typed op)
  op_typed = at_lone (λ f. AllByRecursion (λ (p : ℕ × Elem). elem_of ops p.0 ≡ p.1) (typed f)) ops op l (types_there ops (all_typed ops share))

  outs : List (ℕ × Elem)
  outs = map (λ (v : Strided). (v.base, op.to)) (outputs op)

  ins : List (ℕ × Elem)
  ins = map (λ (v : Strided). (v.base, op.from)) (inputs op)

  views_typed : AllByRecursion (λ (p : ℕ × Elem). elem_of ops p.0 ≡ p.1) (outs ++ ins)
  unfolding outs ins
  views_typed = all_left (λ (p : ℕ × Elem). elem_of ops p.0 ≡ p.1) (map (λ (v : Strided). (v.base, op.to)) (outputs op) ++ map (λ (v : Strided). (v.base, op.from)) (inputs op)) (map (λ b. (b, op.to)) (freed op)) op_typed

  output_typed : AllByRecursion (λ (v : Strided). elem_of ops v.base ≡ op.to) (outputs op)
  unfolding outs ins
  output_typed = all_mapped (λ (p : ℕ × Elem). elem_of ops p.0 ≡ p.1) (λ (v : Strided). (v.base, op.to)) (outputs op) (all_left (λ (p : ℕ × Elem). elem_of ops p.0 ≡ p.1) (map (λ (v : Strided). (v.base, op.to)) (outputs op)) (map (λ (v : Strided). (v.base, op.from)) (inputs op)) views_typed)

  inputs_typed : AllByRecursion (λ (v : Strided). elem_of ops v.base ≡ op.from) (inputs op)
  unfolding outs ins
  inputs_typed = all_mapped (λ (p : ℕ × Elem). elem_of ops p.0 ≡ p.1) (λ (v : Strided). (v.base, op.from)) (inputs op) (all_right (λ (p : ℕ × Elem). elem_of ops p.0 ≡ p.1) (map (λ (v : Strided). (v.base, op.to)) (outputs op)) (map (λ (v : Strided). (v.base, op.from)) (inputs op)) views_typed)

  -- ---- what is loaded

  constant_total : (w : ℕ) (W : Strided → ℕ) (vs : List Strided) → AllByRecursion (λ v. W v ≡ w) vs → total W vs ≡ length vs * w
  constant_total w W [] h = omega arith
  constant_total w W (v ∷ vs) h =
      let a : W v ≡ w = h.0 in
      let b : total W vs ≡ length vs * w = constant_total w W vs h.1 in
      omega arith

  flat_loads : (o : Strided) → is_reduction op.code ≡ false → AllByRecursion (λ (v : Strided). v.lengths ≡ o.lengths) (inputs op) → positions o.lengths * loads_each op ≡ total (weight ops) (distinct identical (inputs op))
  flat_loads o k shapes =
      let n : ℕ = positions o.lengths in
      let w : ℕ = width op.from in
      let each : AllByRecursion (λ v. weight ops v ≡ n * w) (inputs op) = both_at (inputs op) shapes inputs_typed in
      let d : ℕ = length (distinct identical (inputs op)) in
      let all : total (weight ops) (distinct identical (inputs op)) ≡ d * (n * w) = constant_total (n * w) (weight ops) (distinct identical (inputs op)) (all_distinct identical (λ v. weight ops v ≡ n * w) (inputs op) each) in
      let turned : n * (d * w) ≡ d * (n * w) = grind (arith) in
      ap (λ b. n * (cond b (axis_length op) d * w)) k ∙ turned ∙ sym all
    where
      both_at : (vs : List Strided) → AllByRecursion (λ (v : Strided). v.lengths ≡ o.lengths) vs → AllByRecursion (λ (v : Strided). elem_of ops v.base ≡ op.from) vs → AllByRecursion (λ v. weight ops v ≡ positions o.lengths * width op.from) vs
      both_at [] a b = tt
      both_at (v ∷ vs) a b = (ap₂ (λ ns t. positions ns * width t) a.0 b.0, both_at vs a.1 b.1)

  folded_loads : (o v : Strided) → Reducing op o v → positions o.lengths * loads_each op ≡ total (weight ops) (distinct identical (inputs op))
  folded_loads o v r =
      let outer : ℕ = positions (take (or_zero op.axis) (lengths_of op.first)) in
      let n : ℕ = axis_length op in
      let inner : ℕ = inner_of op in
      let w : ℕ = width op.from in
      let ins_are : inputs op ≡ v ∷ [] = ap₂ (λ x y. view_of x ++ view_of y) r.first_is r.no_second in
      let counts : outer * inner ≡ positions o.lengths = r.size ∙ ap (λ x. positions (out_lengths x)) r.out in
      let whole : positions v.lengths ≡ outer * (n * inner) = ap positions (sym (ap lengths_of r.first_is)) ∙ positions_at (lengths_of op.first) (or_zero op.axis) r.inside in
      let here : AllByRecursion (λ (v : Strided). elem_of ops v.base ≡ op.from) (v ∷ []) = subst (AllByRecursion (λ (v : Strided). elem_of ops v.base ≡ op.from)) ins_are inputs_typed in
      let one : total (weight ops) (distinct identical (inputs op)) ≡ positions v.lengths * w = ap (λ vs. total (weight ops) (distinct identical vs)) ins_are ∙ ap (λ t. positions v.lengths * width t + 0) here.0 ∙ (let e : positions v.lengths * w + 0 ≡ positions v.lengths * w = omega arith in e) in
      let turned : outer * inner * (n * w) ≡ outer * (n * inner) * w = grind (arith) in
      ap (λ b. positions o.lengths * (cond b n (length (distinct identical (inputs op))) * w)) (ap folds r.kind_is) ∙ ap (λ k. k * (n * w)) (sym counts) ∙ turned ∙ ap (λ k. k * w) (sym whole) ∙ sym one

  pub serial_loads : (o : Strided) → op.out ≡ Some o → positions o.lengths * loads_each op ≡ total (weight ops) (reads ops)
  serial_loads o out =
      sorts op l.well
      (λ u fill plain. flat_loads o fill.not_fold (subst (λ (n : List ℕ). AllByRecursion (λ (v : Strided). v.lengths ≡ n) (inputs op)) (same_out u plain.out) plain.shapes))
      (λ v s. absurd (none_some s.no_out)) (λ s. absurd (none_some s.no_out))
      (λ u v r. ap (λ ns. positions ns * loads_each op) (sym (same_out u r.out)) ∙ folded_loads u v r)
      ∙ ap (total (weight ops)) (sym (reads_lone ops op l))
    where
      none_some : op.out ≡ None → ⊥
      none_some e = let a : Some o ≡ None = sym out ∙ e in absurd (cc)

      same_out : (u : Strided) → op.out ≡ Some u → u.lengths ≡ o.lengths
      same_out u e = ap out_lengths (sym e ∙ out)

  -- ---- what is stored

  pub serial_stores : (o : Strided) → op.out ≡ Some o → total (weight ops) (writes ops) ≡ cond (freed_by ops o.base) 0 (positions o.lengths * width op.to)
  serial_stores o out =
      let here : AllByRecursion (λ (v : Strided). elem_of ops v.base ≡ op.to) (o ∷ []) = subst (λ x. AllByRecursion (λ (v : Strided). elem_of ops v.base ≡ op.to) (option_to_list x)) out output_typed in
      ap (total (weight ops)) (writes_lone ops op l) ∙ ap (λ x. total (weight ops) (filter (λ (v : Strided). not (freed_by ops v.base)) (option_to_list x))) out
      ∙ elim (freed_by ops o.base) as (λ z. total (weight ops) (cond (not z) (o ∷ []) []) ≡ cond z 0 (positions o.lengths * width op.to)) [
        | true ↦ refl
        | false ↦ ap (λ t. positions o.lengths * width t + 0) here.0 ∙ (let e : positions o.lengths * width op.to + 0 ≡ positions o.lengths * width op.to = omega arith in e)
      ]

  -- ---- the numbers that are kept

  pub serial_kept : (o : Strided) → op.out ≡ Some o → positions o.lengths ≤ scratch ops
  serial_kept o out =
      let long : out_positions op ≡ positions o.lengths + 0 = ap (λ x. total (λ (v : Strided). positions v.lengths) (option_to_list x)) out in
      let own : kept_for op ≡ out_positions op + cond (is_scan op.code) (out_positions op / axis_length op) 0 = ap (λ b. cond b (out_positions op) 0 + cond (is_scan op.code) (out_positions op / axis_length op) 0) (or_true (is_reduction op.code) (serial op) l.serial_is) in
      let all : kept_for op ≤ total kept_for ops = subst (λ xs. kept_for op ≤ total kept_for xs) (sym l.is) (part_of l.front) in
      omega arith
    where
      part_of : (front : List Op) → kept_for op ≤ total kept_for (front ++ op ∷ l.back)
      part_of [] = omega arith
      part_of (g ∷ front) = let e : kept_for op ≤ total kept_for (front ++ op ∷ l.back) = part_of front in omega arith

  -- ---- what it finds

  single_none : (b : ℕ) → creates (op ∷ []) b ≡ false
  single_none b = ap (λ z. (z && list_any (λ (o : Strided). o.base == b) (outputs op)) || false) (serial_makes op l.well l.serial_is)

  pub serial_unopened : (f : ℕ → Option Cell) → unopened ops f ≡ f
  serial_unopened f = λ i b. at b i
    where
      at : (b : ℕ) → unopened ops f b ≡ f b
      at b = ap (λ z. cond z None (f b)) (creates_none ops op l b)

  pub serial_fits : (m : Memory) → fits m ops ≡ true → op_fits m (op ∷ []) op ≡ true
  serial_fits m h =
      ap (λ (c : ℕ → Bool). list_all (λ (n : Need). c n.base || meets_need (m.bases n.base) n) (needs op) && (list_all (λ s. is_none (m.slots s)) (option_to_list op.slot) && (not op.makes || list_all (λ (o : Strided). is_none (m.bases o.base)) (outputs op)))) (λ i b. none_both b i)
      ∙ at_lone (λ f. op_fits m ops f ≡ true) ops op l (all_of (op_fits m ops) ops h)
    where
      none_both : (b : ℕ) → creates (op ∷ []) b ≡ creates ops b
      none_both b = single_none b ∙ sym (creates_none ops op l b)

  pub serial_makes_none : op.makes ≡ false
  serial_makes_none = serial_makes op l.well l.serial_is

  pub serial_typed : (m : Memory) (o : Strided) → op.out ≡ Some o → list_all (in_type op.to) (computed m op) ≡ true
  serial_typed m o out = test_all (in_type op.to) (computed m op) (computed_in m op (computes_of (kind op.code) op o out (operands_of op l.well)))

  pub serial_width : (m : Memory) (o : Strided) → op.out ≡ Some o → op_fits (without_slots m) (op ∷ []) op ≡ true → width_at (m.bases o.base) ≡ width op.to
  serial_width m o out fit =
      width_met (m.bases o.base) (output_need op o)
      ((subst (λ x. AllByRecursion (λ (v : Strided). op.makes ≡ false → meets_need (m.bases v.base) (output_need op v) ≡ true) (option_to_list x)) out (outputs_met m op l.well fit)).0 serial_makes_none)

  -- ---- what it leaves

  step_writes : (m : Memory) (o : Strided) → op.out ≡ Some o → (step m op).bases ≡ written m.bases o.base (elements o) (computed m op)
  step_writes m o out =
      put_some m.bases m.slots op o (computed m op) out (busy op l.well l.serial_is)
      ∙ ap (λ z. assigned m.bases o.base (changed (cond z (Becomes (record { elem = op.to; numbers = computed m op })) (Writes (elements o) (computed m op))) (m.bases o.base))) serial_makes_none

  -- its results are written
  pub serial_leaves : (m : Memory) (f g : ℕ → Option Cell) (o : Strided) → m.bases ≡ f → op.out ≡ Some o → g ≡ written f o.base (elements o) (computed (record { bases = f; slots = λ s. None }) op)
      → (b : ℕ) → cond (freed_by ops b) None (g b) ≡ (eager m ops).bases b
  serial_leaves m f g o same out is b =
      ap (λ (k : ℕ → Option Cell). cond (freed_by ops b) None (k b))
      (is
      ∙ ap (λ xs. written f o.base (elements o) xs) (computed_alike (record { bases = f; slots = λ s. None }) (record { bases = f; slots = m.slots }) op refl)
      ∙ ap (λ k. written k o.base (elements o) (computed (record { bases = k; slots = m.slots }) op)) (sym same)
      ∙ sym (step_writes m o out))
      ∙ sym (eager_lone ops op l (in_turn ops share) m b)

  -- or nothing is written, since its base is freed
  pub serial_drops : (m : Memory) (f : ℕ → Option Cell) (o : Strided) → m.bases ≡ f → op.out ≡ Some o → freed_by ops o.base ≡ true → (b : ℕ) → cond (freed_by ops b) None (f b) ≡ (eager m ops).bases b
  serial_drops m f o same out gone b =
      ap (λ (k : ℕ → Option Cell). cond (freed_by ops b) None (k b)) (sym same)
      ∙ either ∙ ap (λ (k : ℕ → Option Cell). cond (freed_by ops b) None (k b)) (sym (step_writes m o out))
      ∙ sym (eager_lone ops op l (in_turn ops share) m b)
    where
      either : cond (freed_by ops b) None (m.bases b) ≡ cond (freed_by ops b) None (written m.bases o.base (elements o) (computed m op) b)
      either =
          elim (freed_by ops b) as (λ z. freed_by ops b ≡ z → cond z None (m.bases b) ≡ cond z None (written m.bases o.base (elements o) (computed m op) b)) [
            | true ↦ λ e. refl
            | false ↦ λ e.
                elim (o.base == b) as (λ z. (o.base == b) ≡ z → m.bases b ≡ cond z (changed (Writes (elements o) (computed m op)) (m.bases o.base)) (m.bases b)) [
                  | true ↦ λ t. absurd (true≢false (sym gone ∙ ap (freed_by ops) (eqb-true o.base b t) ∙ e))
                  | false ↦ λ t. refl
                ] refl
          ] refl

  pub serial_ends : (m : Memory) (f g : ℕ → Option Cell) (o : Strided) → m.bases ≡ f → op.out ≡ Some o
      → g ≡ cond (freed_by ops o.base) f (written f o.base (elements o) (computed (record { bases = f; slots = λ s. None }) op)) → (b : ℕ) → cond (freed_by ops b) None (g b) ≡ (eager m ops).bases b
  serial_ends m f g o same out is b =
      elim (freed_by ops o.base) as (λ z. freed_by ops o.base ≡ z → g ≡ cond z f (written f o.base (elements o) (computed (record { bases = f; slots = λ s. None }) op)) → cond (freed_by ops b) None (g b) ≡ (eager m ops).bases b) [
        | true ↦ λ e h. ap (λ (k : ℕ → Option Cell). cond (freed_by ops b) None (k b)) h ∙ serial_drops m f o same out e b
        | false ↦ λ e h. serial_leaves m f g o same out h b
      ] refl is

-- ---- the bases that it frees

met_some : (c : Option Cell) (n : Need) → meets_need c n ≡ true → IsSome c
met_some None n h = absurd (false≢true h)
met_some (Some c) n h = refl

-- a base that the block frees and does not create is there
pub freed_there : (m : Memory) (ops : List Op) → fits m ops ≡ true → (b : ℕ) → creates ops b ≡ false → freed_by ops b ≡ true → IsSome (m.bases b)
freed_there m ops h b none gone =
    any_all (λ (f : Op). has (option_to_list f.frees) b) (λ f. op_fits m ops f ≡ true) ops gone (all_of (op_fits m ops) ops h)
    (λ f t e.
    let test : Need → Bool = λ (n : Need). creates ops n.base || meets_need (m.bases n.base) n in
    let needed : AllByRecursion (λ n. test n ≡ true) (needs f) = all_of test (needs f) (both_left (list_all test (needs f)) _ e) in
    let frees : AllByRecursion (λ a. test (record { base = a; elem = f.to; places = [] }) ≡ true) (option_to_list f.frees) =
    all_mapped (λ n. test n ≡ true) (λ a. record { base = a; elem = f.to; places = [] }) (option_to_list f.frees)
    (all_right (λ n. test n ≡ true)
    (map (λ (v : Strided). record { base = v.base; elem = f.to; places = elements v }) (outputs f) ++ map (λ (v : Strided). record { base = v.base; elem = f.from; places = elements v }) (inputs f))
    (map (λ a. record { base = a; elem = f.to; places = [] }) (freed f)) needed) in
    any_all (nat_eq b) (λ a. test (record { base = a; elem = f.to; places = [] }) ≡ true) (option_to_list f.frees) t frees
    (λ a same met.
    let is : b ≡ a = eqb-true b a same in
    let here : test (record { base = b; elem = f.to; places = [] }) ≡ true = subst (λ k. test (record { base = k; elem = f.to; places = [] }) ≡ true) (sym is) met in
    met_some (m.bases b) (record { base = b; elem = f.to; places = [] }) (ap (λ z. z || meets_need (m.bases b) (record { base = b; elem = f.to; places = [] })) (sym none) ∙ here)))

pub written_there : (f : ℕ → Option Cell) (a : ℕ) (es : List ℕ) (xs : List ℤ) (b : ℕ) → IsSome (f b) → IsSome (written f a es xs b)
written_there f a es xs b h =
    elim (a == b) as (λ z. (a == b) ≡ z → IsSome (cond z (changed (Writes es xs) (f a)) (f b))) [
      | true ↦ λ e. changed_some (f a) (subst (λ k. IsSome (f k)) (sym (eqb-true a b e)) h)
      | false ↦ λ e. h
    ] refl
  where
    changed_some : (c : Option Cell) → IsSome c → IsSome (changed (Writes es xs) c)
    changed_some None h = absurd (false≢true h)
    changed_some (Some c) h = refl

pub left_there : (z : Bool) (f g : ℕ → Option Cell) (a : ℕ) (es : List ℕ) (xs : List ℤ) (b : ℕ) → g ≡ cond z f (written f a es xs) → IsSome (f b) → IsSome (g b)
left_there true f g a es xs b is h = subst (λ (k : ℕ → Option Cell). IsSome (k b)) (sym is) h
left_there false f g a es xs b is h = subst (λ (k : ℕ → Option Cell). IsSome (k b)) (sym is) (written_there f a es xs b h)
