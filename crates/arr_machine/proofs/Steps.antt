-- A walk goes on, operation by operation: what each finds, and what it leaves to the others.
use Rattle.std.proofs.Common.{◌≡◌, ◌≢◌, ℕ, ◌+◌, ◌<◌, ◌≤◌, ℤ, List, [], ◌∷◌, ◌++◌, Bool, true, false, cond, Option, Some, None, length, get_or, take, refl, ap, ap₂, sym, subst, ◌∙◌, arith}
use Rattle.std.specs.Prelude.{◌==◌, nat_lt}
use Rattle.std.specs.List.{AllByRecursion}
use Rattle.std.specs.Option.{option_to_list}
use Rattle.std.proofs.lemmas.Bool.{eqb-true, eqb-false, true≢false, le-ltb, lt-ltb, ltb-false, ltb-true}
use Rattle.std.proofs.lemmas.List.{take_more}
use Rattle.arr_num.specs.Kinds.{is_fold, is_reduction, is_scan}
use Rattle.arr_num.specs.Numbers.{in_type}
use Rattle.arr_view.specs.Strided.{Strided}
use Rattle.arr_ops.specs.declared.op.Op.{Op}
use Rattle.arr_ops.specs.Formed.{well_formed}
use Rattle.arr_ops.specs.Memory.{Slot}
use Rattle.arr_ops.specs.Ops.{inputs, outputs, view_of, views}
use Rattle.arr_ops.specs.Traffic.{kept_for}
use Rattle.arr_ops.proofs.Pairs.{All_weaker}
use Rattle.arr_ops.proofs.Spots.{all_left, all_right, all_two}
use Rattle.arr_store.specs.Slots.{slot_number}
use Rattle.arr_strips.specs.Blocks.{block_positions, block_shape}
use Rattle.arr_strips.specs.Columns.{Columns, assigned, column, ends, fills, next, taken}
use Rattle.arr_strips.specs.Registers.{number_in, register_views}
use Rattle.arr_strips.specs.Strips.{loaded}
use Rattle.arr_strips.proofs.Blocks.{Block, block_of}
use Rattle.arr_strips.proofs.Machine.{has_register}
use Rattle.arr_strips.proofs.Registers.{one_number}
use Rattle.arr_strips.proofs.Sames.{or_true}
use Rattle.arr_strips.proofs.Sorts.{AtShape, one_shape}
use Rattle.arr_sums.specs.Kept.{ChangesWithin, kept_at}
use Rattle.arr_machine.specs.Kept.{AllKept, OpKept, TypedKept, kept_from}
use Rattle.arr_machine.specs.Needed.{needed}
use Rattle.arr_machine.specs.Shown.{Showing, seen, show_number, shown_number}
use Rattle.arr_machine.specs.Standing.{IsStripOf, Standing}
use Rattle.arr_machine.proofs.Blocks.{Lines, Rooms, all_get, carry_room, done_other, ends_more, kept_apart, lines_of_fold, op_kept_same, same_item, sums_room}
use Rattle.arr_machine.proofs.Needs.{needed_before, needs_inputs}

show_end : (xs : List Op) (op : Op) (h : Columns) (q s : ℕ) (c : ℤ) → show_number (xs ++ op ∷ []) h q s c ≡ shown_number op.slot (taken (ends xs h q) op.first) s (show_number xs h q s c)
show_end [] op h q s c = refl
show_end (x ∷ xs) op h q s c = show_end xs op (next x h) q s (shown_number x.slot (taken (h q) x.first) s c)

pub show_more : (ops : List Op) (k : ℕ) (op : Op) (h : Columns) (q s : ℕ) (c : ℤ) → k < length ops → op ≡ get_or ops k op
    → show_number (take (k + 1) ops) h q s c ≡ shown_number op.slot (taken (ends (take k ops) h q) op.first) s (show_number (take k ops) h q s c)
show_more ops k op h q s c l e = ap (λ xs. show_number xs h q s c) (take_more ops k op l ∙ ap (λ y. take k ops ++ y ∷ []) (sym e)) ∙ show_end (take k ops) op h q s c

-- where a position is in the strip, and where it is not
pub seen_inside : (all p c k q : ℕ) → p ≤ q → q < p + c → seen all p c k q ≡ k
seen_inside all p c k q l u = ap (λ t. cond t all (cond (nat_lt q (p + c)) k 0)) (le-ltb q p l) ∙ ap (λ t. cond t k 0) (lt-ltb q (p + c) u)

pub seen_other : (all p c j k q : ℕ) → (p ≤ q → q < p + c → ⊥) → seen all p c j q ≡ seen all p c k q
seen_other all p c j k q off =
    elim (nat_lt q p) as (λ t. nat_lt q p ≡ t → cond t all (cond (nat_lt q (p + c)) j 0) ≡ cond t all (cond (nat_lt q (p + c)) k 0)) [
      | true ↦ λ e. refl
      | false ↦ λ e.
          elim (nat_lt q (p + c)) as (λ t. nat_lt q (p + c) ≡ t → cond t j 0 ≡ cond t k 0) [
            | true ↦ λ d. absurd (off (ltb-false q p e) (ltb-true q (p + c) d))
            | false ↦ λ d. refl
          ] refl
    ] refl

module _ (ops : List Op) (p c room : ℕ) (t : IsStripOf ops p c room) where
  pub block : Block ops
  block = block_of ops t.block

  pub some_positions : 1 ≤ block_positions ops
  some_positions = let a : 1 ≤ c = t.some in let b : p + c ≤ block_positions ops = t.inside in omega arith

  pub shaped : AllByRecursion (AtShape (block_shape ops)) ops
  shaped = one_shape ops block.fuse block.well

  pub rooms : AllByRecursion Rooms ops
  rooms =
      all_two (λ f. well_formed f ≡ true) (AtShape (block_shape ops)) Rooms
      (λ f w s. record {
        sums = sums_room f w;
        carries = λ scan. carry_room (block_shape ops) f w s scan some_positions;
        inner = λ scan. (lines_of_fold (block_shape ops) f w s (or_true (is_reduction f.code) (is_scan f.code) scan) some_positions).some_inner;
      }) ops block.well shaped

  module _ (k : ℕ) (op : Op) (l : k < length ops) (e : op ≡ get_or ops k op) where
    pub well : well_formed op ≡ true
    well = all_get (λ f. well_formed f ≡ true) ops k op l e block.well

    pub at_shape : AtShape (block_shape ops) op
    at_shape = all_get (AtShape (block_shape ops)) ops k op l e shaped

    pub room_of : Rooms op
    room_of = all_get Rooms ops k op l e rooms

    on : AllByRecursion (λ v. loaded (register_views ops) v ≡ true) (views op)
    on = all_get (λ (f : Op). AllByRecursion (λ v. loaded (register_views ops) v ≡ true) (views f)) ops k op l e (has_register ops)

    pub inputs_on : AllByRecursion (λ v. loaded (register_views ops) v ≡ true) (inputs op)
    inputs_on = all_right (λ v. loaded (register_views ops) v ≡ true) (outputs op) (inputs op) on

    pub output_on : (o : Strided) → op.out ≡ Some o → loaded (register_views ops) o ≡ true
    output_on o out = (subst (λ x. AllByRecursion (λ v. loaded (register_views ops) v ≡ true) (option_to_list x)) out (all_left (λ v. loaded (register_views ops) v ≡ true) (outputs op) (inputs op) on)).0

    pub lines : is_fold op.code ≡ true → Lines (block_positions ops) op
    lines code = lines_of_fold (block_shape ops) op well at_shape code some_positions

    -- numbers that are kept for other operations stay
    pub kept_elsewhere : (u : _) (size : ℕ) (xs ys : List ℤ) → size ≤ kept_for op → ChangesWithin u (kept_from ops k) size xs ys → (j : ℕ) (f : Op) → j < length ops → f ≡ get_or ops j f → j ≢ k → (i : ℕ) → i < kept_for f
        → kept_at ys (kept_from ops j) i ≡ kept_at xs (kept_from ops j) i
    kept_elsewhere u size xs ys small w j f lj ej ne i below =
        elim (nat_lt j k) as (λ z. nat_lt j k ≡ z → kept_at ys (kept_from ops j) i ≡ kept_at xs (kept_from ops j) i) [
          | true ↦ λ q. let s : kept_from ops j + kept_for f ≤ kept_from ops k = kept_apart ops j k f lj ej (ltb-true j k q) in w.before (kept_from ops j + i) (omega arith)
          | false ↦ λ q.
              let r : k ≤ j = ltb-false j k q in
              let r2 : k < j = omega arith in
              let s : kept_from ops k + kept_for op ≤ kept_from ops j = kept_apart ops k j op l e r2 in
              w.behind (kept_from ops j + i) (omega arith)
        ] refl

    -- what is kept stays of its types
    pub typed_within : (size : ℕ) (xs ys : List ℤ) → size ≤ kept_for op → ChangesWithin op.to (kept_from ops k) size xs ys → TypedKept ops xs → TypedKept ops ys
    typed_within size xs ys small w typed j f lj ej i below =
        elim (j == k) as (λ z. (j == k) ≡ z → in_type f.to (kept_at ys (kept_from ops j) i) ≡ true) [
          | true ↦ λ q.
              let same : j ≡ k = eqb-true j k q in
              let item : op ≡ f = same_item ops k op f l e (subst (λ i. f ≡ get_or ops i f) same ej) in
              subst (λ y. in_type f.to (kept_at ys (kept_from ops y) i) ≡ true) (sym same) (subst (λ (g : Op). in_type g.to (kept_at ys (kept_from ops k) i) ≡ true) item (own (subst (λ (g : Op). i < kept_for g) (sym item) below)))
          | false ↦ λ q.
              let ne : j ≢ k = eqb-false j k q in
              ap (in_type f.to) (kept_elsewhere op.to size xs ys small w j f lj ej ne i below) ∙ typed j f lj ej i below
        ] refl
      where
        own : i < kept_for op → in_type op.to (kept_at ys (kept_from ops k) i) ≡ true
        own u =
            elim (nat_lt i size) as (λ z. nat_lt i size ≡ z → in_type op.to (kept_at ys (kept_from ops k) i) ≡ true) [
              | true ↦ λ q. w.typed (λ a b. typed k op l e a (omega arith)) i (ltb-true i size q)
              | false ↦ λ q. let far : size ≤ i = ltb-false i size q in ap (in_type op.to) (w.behind (kept_from ops k + i) (omega arith)) ∙ typed k op l e i u
            ] refl

    module _ (h : Columns) (start : ℕ → Option Slot) (held : ℕ → ℕ → ℤ) (xs : List ℤ) (slots : ℕ → Option Slot) (s : Standing ops p c k h start held xs slots) where
      -- the lanes of its operands hold their columns
      pub row_inputs : (i : ℕ) → i < c → AllByRecursion (λ v. held (number_in (register_views ops) v) i ≡ ends (take k ops) h (p + i) v) (inputs op)
      row_inputs i u = All_weaker (λ v. needed ops k v ≡ true) (λ v. held (number_in (register_views ops) v) i ≡ ends (take k ops) h (p + i) v) (λ v on. s.row v on i u) (inputs op) (needs_inputs ops k op l e)

      pub row_first : (i : ℕ) → i < c → AllByRecursion (λ v. held (number_in (register_views ops) v) i ≡ ends (take k ops) h (p + i) v) (view_of op.first)
      row_first i u = all_left (λ v. held (number_in (register_views ops) v) i ≡ ends (take k ops) h (p + i) v) (view_of op.first) (view_of op.second) (row_inputs i u)

      pub row_second : (i : ℕ) → i < c → AllByRecursion (λ v. held (number_in (register_views ops) v) i ≡ ends (take k ops) h (p + i) v) (view_of op.second)
      row_second i u = all_right (λ v. held (number_in (register_views ops) v) i ≡ ends (take k ops) h (p + i) v) (view_of op.first) (view_of op.second) (row_inputs i u)

      pub kept_here : OpKept p (kept_from ops k) op (ends (take k ops) h) xs
      kept_here = subst (λ d. OpKept d (kept_from ops k) op (ends (take k ops) h) xs) (ap (λ z. cond z (p + c) p) (le-ltb k k (omega arith))) (s.kept k op l e)

      pub kept_step : (ys : List ℤ) → ((j : ℕ) (f : Op) → j < length ops → f ≡ get_or ops j f → j ≢ k → (i : ℕ) → i < kept_for f → kept_at ys (kept_from ops j) i ≡ kept_at xs (kept_from ops j) i)
          → OpKept (p + c) (kept_from ops k) op (ends (take k ops) h) ys → AllKept ops (k + 1) (p + c) p h ys
      kept_step ys elsewhere own j f lj ej =
          elim (j == k) as (λ z. (j == k) ≡ z → OpKept (cond (nat_lt j (k + 1)) (p + c) p) (kept_from ops j) f (ends (take j ops) h) ys) [
            | true ↦ λ q.
                let same : j ≡ k = eqb-true j k q in
                let item : op ≡ f = same_item ops k op f l e (subst (λ i. f ≡ get_or ops i f) same ej) in
                subst (λ i. OpKept (cond (nat_lt i (k + 1)) (p + c) p) (kept_from ops i) f (ends (take i ops) h) ys) (sym same)
                (subst (λ d. OpKept d (kept_from ops k) f (ends (take k ops) h) ys) (sym (ap (λ z. cond z (p + c) p) (lt-ltb k (k + 1) (omega arith))))
                (subst (λ g. OpKept (p + c) (kept_from ops k) g (ends (take k ops) h) ys) item own))
            | false ↦ λ q.
                let ne : j ≢ k = eqb-false j k q in
                subst (λ d. OpKept d (kept_from ops j) f (ends (take j ops) h) ys) (sym (done_other j k (p + c) p ne))
                (op_kept_same (cond (nat_lt j k) (p + c) p) (kept_from ops j) f (ends (take j ops) h) xs ys (all_get Rooms ops j f lj ej rooms) (elsewhere j f lj ej ne) (s.kept j f lj ej))
          ] refl

      pub next_row : (i : ℕ) (v : Strided) → ends (take (k + 1) ops) h (p + i) v ≡ assigned (fills op) (column op (ends (take k ops) h) (p + i)) (ends (take k ops) h (p + i)) v
      next_row i v = ap (λ (g : Columns). g (p + i) v) (ends_more ops k op h l e)

      pub quiet : is_reduction op.code ≡ false → is_scan op.code ≡ false → (ys : List ℤ) → OpKept (p + c) (kept_from ops k) op (ends (take k ops) h) ys
      quiet a d ys = record { sums = λ z. absurd (true≢false (sym z ∙ a)); carries = λ z. absurd (true≢false (sym z ∙ d)) }

      -- what computes nothing leaves the lanes
      pub row_stays : fills op ≡ None → (v : Strided) → needed ops (k + 1) v ≡ true → (i : ℕ) → i < c → held (number_in (register_views ops) v) i ≡ ends (take (k + 1) ops) h (p + i) v
      row_stays none v on i u = s.row v (needed_before ops k v on) i u ∙ sym (next_row i v ∙ ap (λ f. assigned f (column op (ends (take k ops) h) (p + i)) (ends (take k ops) h (p + i)) v) none)

      -- what fills a view puts its column into a lane
      pub row_filled : (o : Strided) (now : ℕ → ℕ → ℤ) → fills op ≡ Some o → loaded (register_views ops) o ≡ true
          → ((r i : ℕ) → i < c → now r i ≡ cond (number_in (register_views ops) o == r) (column op (ends (take k ops) h) (p + i)) (held r i))
          → (v : Strided) → needed ops (k + 1) v ≡ true → (i : ℕ) → i < c → now (number_in (register_views ops) v) i ≡ ends (take (k + 1) ops) h (p + i) v
      row_filled o now fill there is v on i u =
          is (number_in (register_views ops) v) i u
          ∙ ap₂ (λ z y. cond z (column op (ends (take k ops) h) (p + i)) y) (one_number (register_views ops) o v there) (s.row v (needed_before ops k v on) i u)
          ∙ sym (next_row i v ∙ ap (λ f. assigned f (column op (ends (take k ops) h) (p + i)) (ends (take k ops) h (p + i)) v) fill)

      -- what shows nothing leaves the slots
      pub shows_none : op.slot ≡ None → Showing ops (seen (length ops) p c (k + 1)) h start slots
      shows_none none =
          record {
            same = s.shown.same;
            numbers = λ a q. s.shown.numbers a q ∙ turn a q (nat_lt q p) refl;
          }
        where
          turn : (a q : ℕ) (z : Bool) → nat_lt q p ≡ z → show_number (take (seen (length ops) p c k q) ops) h q a (slot_number (start a) q) ≡ show_number (take (seen (length ops) p c (k + 1) q) ops) h q a (slot_number (start a) q)
          turn a q true d = ap (λ i. show_number (take i ops) h q a (slot_number (start a) q)) (seen_other (length ops) p c k (k + 1) q (λ low high. let b : q < p = ltb-true q p d in absurd (omega arith)))
          turn a q false d =
              elim (nat_lt q (p + c)) as (λ z. nat_lt q (p + c) ≡ z → show_number (take (seen (length ops) p c k q) ops) h q a (slot_number (start a) q) ≡ show_number (take (seen (length ops) p c (k + 1) q) ops) h q a (slot_number (start a) q)) [
                | true ↦ λ f.
                    let low : p ≤ q = ltb-false q p d in
                    let high : q < p + c = ltb-true q (p + c) f in
                    ap (λ i. show_number (take i ops) h q a (slot_number (start a) q)) (seen_inside (length ops) p c k q low high)
                    ∙ sym (show_more ops k op h q a (slot_number (start a) q) l e ∙ ap (λ z. shown_number z (taken (ends (take k ops) h q) op.first) a (show_number (take k ops) h q a (slot_number (start a) q))) none)
                    ∙ ap (λ i. show_number (take i ops) h q a (slot_number (start a) q)) (sym (seen_inside (length ops) p c (k + 1) q low high))
                | false ↦ λ f. ap (λ i. show_number (take i ops) h q a (slot_number (start a) q)) (seen_other (length ops) p c k (k + 1) q (λ low high. let b : p + c ≤ q = ltb-false q (p + c) f in absurd (omega arith)))
              ] refl
