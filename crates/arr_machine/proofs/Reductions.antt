-- A reduction at a strip.
use Rattle.std.proofs.Common.{◌≡◌, ℕ, ◌+◌, ◌*◌, ◌<◌, ◌≤◌, ℤ, List, true, cond, ◌||◌, Option, None, length, get_or, take, ap, ap₂, sym, subst, ◌∙◌, arith}
use Rattle.std.specs.Prelude.{slice_get}
use Rattle.std.proofs.lemmas.Bool.{true≢false}
use Rattle.std.proofs.Math.Nat.{mul-le-mul_left, mul-le-mul_right}
use Rattle.arr_num.specs.Kinds.{folds, is_fold, scans}
use Rattle.arr_num.specs.Numbers.{fold_start, value}
use Rattle.arr_view.specs.Strided.{Strided}
use Rattle.arr_ops.specs.declared.op.Op.{Op}
use Rattle.arr_ops.specs.Memory.{Cell, Slot}
use Rattle.arr_ops.specs.Ops.{view_of}
use Rattle.arr_ops.specs.Traffic.{axis_length, kept_for, scratch}
use Rattle.arr_store.specs.declared.buffer.Buffer.{Buffer}
use Rattle.arr_strips.specs.Blocks.{block_positions}
use Rattle.arr_strips.specs.Columns.{Columns, count, ends, taken}
use Rattle.arr_strips.specs.Registers.{number_in, register_views}
use Rattle.arr_strips.proofs.Sorts.{sorts}
use Rattle.arr_lanes.specs.declared.strip.Place.{Place}
use Rattle.arr_lanes.specs.Lanes.{IsLane}
use Rattle.arr_sums.specs.Gathering.{FoldsOn}
use Rattle.arr_sums.specs.Kept.{AreOf, ChangesWithin, kept_at}
use Rattle.arr_machine.specs.Kept.{inner_of, kept_from, outer_of}
use Rattle.arr_machine.specs.declared.task.Along.{Along}
use Rattle.arr_machine.specs.declared.task.Task.TheVariants.{Fold}
use Rattle.arr_machine.specs.Standing.{Advances, IsReady, IsStripOf, Standing}
use Rattle.arr_machine.specs.Tasks.{IsAlong, IsTask}
use Rattle.arr_machine.proofs.Axes.{fold_type}
use Rattle.arr_machine.proofs.Blocks.{Lines, kept_inside}
use Rattle.arr_machine.proofs.Few.{few_block}
use Rattle.arr_machine.proofs.Operands.{stands_typed}
use Rattle.arr_machine.proofs.Steps.{inputs_on, kept_elsewhere, kept_here, kept_step, lines, room_of, row_first, row_stays, shows_none, typed_within, well}
use Rattle.arr_machine.proofs.Types.{inputs_of_type}

-- what is there for a fold along an axis
pub record FoldFits (p c : ℕ) (along : Along) : Type 0 where
  pub some : 1 ≤ along.axis.length
  pub inner : 1 ≤ along.axis.inner
  pub inside : p + c ≤ along.axis.outer * (along.axis.length * along.axis.inner)
  pub short : p + c ≤ 1048576
  pub few : along.axis.outer * along.axis.inner ≤ 1048576

-- and among the lanes and the numbers that are kept, of which it takes so many
pub record FoldAsks (p c room : ℕ) (along : Along) (size : ℕ) (lanes : List Buffer) (xs : List ℤ) : Type 0 where
  pub code : is_fold along.code ≡ true
  pub source : IsLane along.elem room (slice_get lanes along.source)
  pub fits : FoldFits p c along
  pub there : along.kept + size ≤ length xs
  pub typed : AreOf along.elem xs along.kept size

module _ (ops : List Op) (p c room : ℕ) (t : IsStripOf ops p c room) (k : ℕ) (op : Op) (l : k < length ops) (e : op ≡ get_or ops k op) (along : Along) (a : IsAlong ops k op along) (code : is_fold op.code ≡ true) where
  its_lines : Lines (block_positions ops) op
  its_lines = lines ops p c room t k op l e code

  pub along_fits : FoldFits p c along
  along_fits =
      let r : Lines (block_positions ops) op = its_lines in
      let few : block_positions ops ≤ 1048576 = few_block ops t.block in
      let inside : p + c ≤ block_positions ops = t.inside in
      let whole : block_positions ops ≡ along.axis.outer * (along.axis.length * along.axis.inner) =
      r.whole ∙ sym (ap (λ n. n * (along.axis.length * along.axis.inner)) a.outer ∙ ap₂ (λ m n. outer_of op * (m * n)) a.rows a.inner) in
      let rows : 1 ≤ along.axis.length = subst (λ n. 1 ≤ n) (sym a.rows) r.some_rows in
      let one : 1 * along.axis.inner ≤ along.axis.length * along.axis.inner = mul-le-mul_right along.axis.inner rows in
      let all : along.axis.outer * along.axis.inner ≤ along.axis.outer * (along.axis.length * along.axis.inner) = mul-le-mul_left along.axis.outer (omega arith) in
      record {
        some = rows;
        inner = subst (λ n. 1 ≤ n) (sym a.inner) r.some_inner;
        inside = omega arith;
        short = omega arith;
        few = omega arith;
      }

  pub code_folds : is_fold along.code ≡ true
  code_folds = ap is_fold a.code ∙ code

  -- its source
  pub source_typed : (lanes : List Buffer) → Rattle.arr_machine.specs.Tasks.TypedLanes ops room lanes → IsLane along.elem room (slice_get lanes along.source)
  source_typed lanes typed =
      let v : Strided = a.source.0 in
      let on : Rattle.std.specs.List.AllByRecursion (λ v. Rattle.arr_strips.specs.Strips.loaded (register_views ops) v ≡ true) (view_of op.first) =
      Rattle.arr_ops.proofs.Spots.all_left (λ v. Rattle.arr_strips.specs.Strips.loaded (register_views ops) v ≡ true) (view_of op.first) (view_of op.second) (inputs_on ops p c room t k op l e) in
      let of : Rattle.std.specs.List.AllByRecursion (λ (v : Strided). Rattle.arr_ops.specs.Costs.elem_of ops v.base ≡ op.from) (view_of op.first) =
      Rattle.arr_ops.proofs.Spots.all_left (λ (v : Strided). Rattle.arr_ops.specs.Costs.elem_of ops v.base ≡ op.from) (view_of op.first) (view_of op.second) (inputs_of_type ops t.types k op l e) in
      let same : op.from ≡ along.elem = sym (a.elem ∙ fold_type op (well ops p c room t k op l e) code) in
      subst (λ y. IsLane y room (slice_get lanes along.source)) same
      (stands_typed ops room lanes op.from op.first along.source typed on of (subst (λ o. Rattle.arr_machine.specs.Tasks.Stands ops room lanes op.from o along.source) (sym a.source.1.0) a.source.1.1))

  -- the numbers of its source
  pub source_is : (h : Columns) (start : ℕ → Option Slot) (see : ℕ → ℕ → ℤ) (xs : List ℤ) (slots : ℕ → Option Slot) → Standing ops p c k h start see xs slots → (i : ℕ) → i < c
      → see along.source i ≡ taken (ends (take k ops) h (p + i)) op.first
  source_is h start see xs slots s i u =
      ap (λ r. see r i) a.source.1.1
      ∙ (subst (λ o. Rattle.std.specs.List.AllByRecursion (λ v. see (number_in (register_views ops) v) i ≡ ends (take k ops) h (p + i) v) (view_of o)) a.source.1.0 (row_first ops p c room t k op l e h start see xs slots s i u)).0
      ∙ ap (taken (ends (take k ops) h (p + i))) (sym a.source.1.0)

module _ (ops : List Op) (p c room : ℕ) (t : IsStripOf ops p c room) (k : ℕ) (op : Op) (l : k < length ops) (e : op ≡ get_or ops k op) (along : Along) (lanes : List Buffer) (task : IsTask ops room lanes k op (Fold along))
    (width : ℕ) (places : List (Option Place)) (m : ℕ → Option Cell) (xs : List ℤ) (r : IsReady ops c width room lanes places m xs) where
  fold_code : is_fold op.code ≡ true
  fold_code = ap (λ q. folds q || scans q) task.0

  size_is : along.axis.outer * along.axis.inner ≡ count op
  size_is =
      ap₂ (λ m n. m * n) task.1.outer task.1.inner
      ∙ sorts op (well ops p c room t k op l e) (λ o fill plain. absurd (true≢false (ap folds (sym task.0) ∙ fill.not_fold))) (λ v s. absurd (true≢false (ap folds (sym task.0 ∙ s.kind_is))))
      (λ s. absurd (true≢false (ap folds (sym task.0 ∙ s.kind_is)))) (λ o v s. s.size)

  small : along.axis.outer * along.axis.inner ≤ kept_for op
  small = subst (λ n. n ≤ kept_for op) (sym size_is) ((room_of ops p c room t k op l e).sums (ap folds task.0))

  pub fold_there : along.kept + along.axis.outer * along.axis.inner ≤ length xs
  fold_there =
      let a : along.kept ≡ kept_from ops k = task.1.kept in
      let b : kept_from ops k + kept_for op ≤ scratch ops = kept_inside ops k op l e in
      let d : length xs ≡ scratch ops = r.long in
      let f : along.axis.outer * along.axis.inner ≤ kept_for op = small in
      omega arith

  pub fold_typed : AreOf along.elem xs along.kept (along.axis.outer * along.axis.inner)
  fold_typed q u =
      let f : along.axis.outer * along.axis.inner ≤ kept_for op = small in
      ap₂ (λ y n. Rattle.arr_num.specs.Numbers.in_type y (kept_at xs n q)) task.1.elem task.1.kept ∙ r.kept k op l e q (omega arith)

  -- all that folding the strip asks
  pub fold_asks : FoldAsks p c room along (along.axis.outer * along.axis.inner) lanes xs
  fold_asks =
      record {
        code = code_folds ops p c room t k op l e along task.1 fold_code;
        source = source_typed ops p c room t k op l e along task.1 fold_code lanes r.typed;
        fits = along_fits ops p c room t k op l e along task.1 fold_code;
        there = fold_there;
        typed = fold_typed;
      }

  module _ (ys : List ℤ) (w : ChangesWithin along.elem along.kept (along.axis.outer * along.axis.inner) xs ys) where
    changes : ChangesWithin op.to (kept_from ops k) (along.axis.outer * along.axis.inner) xs ys
    changes = subst (λ y. ChangesWithin y (kept_from ops k) (along.axis.outer * along.axis.inner) xs ys) task.1.elem (subst (λ n. ChangesWithin along.elem n (along.axis.outer * along.axis.inner) xs ys) task.1.kept w)

    pub fold_ready : IsReady ops c width room lanes places m ys
    fold_ready =
        record {
          typed = r.typed;
          placed = r.placed;
          own = r.own;
          within = r.within;
          wide = r.wide;
          long = w.long ∙ r.long;
          kept = typed_within ops p c room t k op l e (along.axis.outer * along.axis.inner) xs ys small changes r.kept;
        }

    pub fold_stands : (see : ℕ → ℕ → ℤ) → FoldsOn (value along.code along.elem) along.axis.length along.axis.inner (along.axis.outer * along.axis.inner) (kept_at xs along.kept) (kept_at ys along.kept) (see along.source) p 0 c
        → (slots : ℕ → Option Slot) → Advances ops p c k (k + 1) see xs slots see ys slots
    fold_stands see folded slots h start s =
        record {
          row = row_stays ops p c room t k op l e h start see xs slots s (ap (λ q. cond (folds q) None op.out) task.0);
          kept = kept_step ops p c room t k op l e h start see xs slots s ys
              (λ j f lj ej ne i u. kept_elsewhere ops p c room t k op l e op.to (along.axis.outer * along.axis.inner) xs ys small changes j f lj ej ne i u)
              (record { sums = λ red q u. sums_are q u; carries = λ scan. absurd (true≢false (sym scan ∙ ap scans task.0)) });
          shown = shows_none ops p c room t k op l e h start see xs slots s no_slot;
        }
      where
        no_slot : op.slot ≡ None
        no_slot = sorts op (well ops p c room t k op l e) (λ o fill plain. plain.no_slot) (λ v s. absurd (true≢false (ap folds (sym task.0 ∙ s.kind_is)))) (λ s. s.no_slot) (λ o v s. s.no_slot)

        f : ℤ → ℤ → ℤ
        f = value op.code op.to

        g : ℕ → ℤ
        g q = taken (ends (take k ops) h q) op.first

        on : FoldsOn (value op.code op.to) (axis_length op) (inner_of op) (along.axis.outer * along.axis.inner) (kept_at xs (kept_from ops k)) (kept_at ys (kept_from ops k)) (see along.source) p 0 c
        on =
            subst (λ n. FoldsOn (value op.code op.to) (axis_length op) n (along.axis.outer * along.axis.inner) (kept_at xs (kept_from ops k)) (kept_at ys (kept_from ops k)) (see along.source) p 0 c) task.1.inner
            (subst (λ n. FoldsOn (value op.code op.to) n along.axis.inner (along.axis.outer * along.axis.inner) (kept_at xs (kept_from ops k)) (kept_at ys (kept_from ops k)) (see along.source) p 0 c) task.1.rows
            (subst (λ n. FoldsOn (value op.code op.to) along.axis.length along.axis.inner (along.axis.outer * along.axis.inner) (kept_at xs n) (kept_at ys n) (see along.source) p 0 c) task.1.kept
            (subst (λ y. FoldsOn (value op.code y) along.axis.length along.axis.inner (along.axis.outer * along.axis.inner) (kept_at xs along.kept) (kept_at ys along.kept) (see along.source) p 0 c) task.1.elem
            (subst (λ y. FoldsOn (value y along.elem) along.axis.length along.axis.inner (along.axis.outer * along.axis.inner) (kept_at xs along.kept) (kept_at ys along.kept) (see along.source) p 0 c) task.1.code folded))))

        sums_are : (q : ℕ) → q < count op → kept_at ys (kept_from ops k) q ≡ Rattle.arr_strips.specs.Sums.gathered_by op (ends (take k ops) h) (p + c) q
        sums_are q u =
            on (fold_start op.code op.to) (λ i. taken (ends (take k ops) h i) op.first)
            (λ i v. (kept_here ops p c room t k op l e h start see xs slots s).sums (ap folds task.0) i (subst (λ n. i < n) size_is v))
            (λ j v. ap (see along.source) (let z : 0 + j ≡ j = omega arith in z) ∙ source_is ops p c room t k op l e along task.1 fold_code h start see xs slots s j v)
            q (subst (λ n. q < n) (sym size_is) u)
