-- A scan at a strip.
use Rattle.std.proofs.Common.{◌≡◌, ℕ, ◌+◌, ◌%◌, ◌<◌, ◌≤◌, ℤ, List, true, cond, ◌||◌, Option, Some, None, length, get_or, take, ap, ap₂, sym, subst, ◌∙◌, arith}
use Rattle.std.specs.Prelude.{◌==◌, slice_get}
use Rattle.std.proofs.lemmas.Bool.{true≢false}
use Rattle.arr_num.specs.Kinds.{folds, is_fold, scans}
use Rattle.arr_num.specs.Numbers.{fold_start, in_type, value}
use Rattle.arr_view.specs.Strided.{Strided}
use Rattle.arr_ops.specs.declared.op.Op.{Op}
use Rattle.arr_ops.specs.Memory.{Cell, Slot}
use Rattle.arr_ops.specs.Traffic.{axis_length, kept_for, scratch}
use Rattle.arr_store.specs.declared.buffer.Buffer.{Buffer}
use Rattle.arr_strips.specs.Columns.{column, column_of, ends, fills, scan_at, taken}
use Rattle.arr_strips.specs.Registers.{number_in, register_views}
use Rattle.arr_strips.proofs.Sorts.{sorts}
use Rattle.arr_lanes.specs.declared.strip.Place.{Place}
use Rattle.arr_lanes.specs.Lanes.{Becomes, IsLane, held, number}
use Rattle.arr_lanes.proofs.Places.{becomes_held, places_stay}
use Rattle.arr_sums.specs.Kept.{AreOf, ChangesWithin, kept_at}
use Rattle.arr_sums.specs.Scanning.{ScansOn}
use Rattle.arr_machine.specs.Kept.{inner_of, kept_from}
use Rattle.arr_machine.specs.declared.task.Along.{Along}
use Rattle.arr_machine.specs.declared.task.Task.TheVariants.{Scan as scan_task}
use Rattle.arr_machine.specs.Standing.{Advances, IsReady, IsStripOf}
use Rattle.arr_machine.specs.Tasks.{IsAlong, IsTask}
use Rattle.arr_machine.proofs.Blocks.{kept_inside, register_below}
use Rattle.arr_machine.proofs.Lent.{Written, own_written}
use Rattle.arr_machine.proofs.Reductions.{FoldAsks, along_fits, code_folds, source_is, source_typed}
use Rattle.arr_machine.proofs.Steps.{kept_elsewhere, kept_here, kept_step, output_on, room_of, row_filled, shows_none, typed_within, well}
use Rattle.arr_machine.proofs.Types.{output_of_type}

module _ (ops : List Op) (p c room : ℕ) (t : IsStripOf ops p c room) (k : ℕ) (op : Op) (l : k < length ops) (e : op ≡ get_or ops k op) (along : Along) (dest : ℕ) (lanes : List Buffer)
    (task : IsTask ops room lanes k op (scan_task along dest)) (width : ℕ) (places : List (Option Place)) (f : ℕ → Option Cell) (xs : List ℤ) (r : IsReady ops c width room lanes places f xs) where
  pub scan_code : is_fold op.code ≡ true
  scan_code = ap (λ q. folds q || scans q) task.0

  its_along : IsAlong ops k op along
  its_along = task.1.0

  out : Strided
  out = task.1.1.0

  out_is : op.out ≡ Some out
  unfolding out
  out_is = task.1.1.1.0

  dest_is : dest ≡ number_in (register_views ops) out
  unfolding out
  dest_is = task.1.1.1.1

  pub scan_written : Written ops dest
  scan_written = record { at = k; op = op; there = l; item = e; view = out; out = out_is; register = dest_is }

  pub scan_own : get_or places dest None ≡ None
  scan_own = own_written ops places r.own dest scan_written

  pub scan_below : dest < length (register_views ops)
  scan_below = subst (λ q. q < length (register_views ops)) (sym dest_is) (register_below ops out (output_on ops p c room t k op l e out out_is))

  pub scan_dest : IsLane along.elem room (slice_get lanes dest)
  scan_dest =
      subst (λ q. IsLane along.elem room (slice_get lanes q)) (sym dest_is)
      (subst (λ y. IsLane y room (slice_get lanes (number_in (register_views ops) out))) (output_of_type ops t.types k op l e out out_is ∙ sym its_along.elem) (r.typed out (output_on ops p c room t k op l e out out_is)))

  small : along.axis.inner ≤ kept_for op
  small = subst (λ n. n ≤ kept_for op) (sym its_along.inner) ((room_of ops p c room t k op l e).carries (ap scans task.0))

  pub scan_there : along.kept + along.axis.inner ≤ length xs
  scan_there =
      let a : along.kept ≡ kept_from ops k = its_along.kept in
      let b : kept_from ops k + kept_for op ≤ scratch ops = kept_inside ops k op l e in
      let d : length xs ≡ scratch ops = r.long in
      let f : along.axis.inner ≤ kept_for op = small in
      omega arith

  pub scan_typed : AreOf along.elem xs along.kept along.axis.inner
  scan_typed q u =
      let f : along.axis.inner ≤ kept_for op = small in
      ap₂ (λ y n. in_type y (kept_at xs n q)) its_along.elem its_along.kept ∙ r.kept k op l e q (omega arith)

  -- all that scanning the strip asks
  pub scan_asks : FoldAsks p c room along along.axis.inner lanes xs
  scan_asks =
      record {
        code = code_folds ops p c room t k op l e along its_along scan_code;
        source = source_typed ops p c room t k op l e along its_along scan_code lanes r.typed;
        fits = along_fits ops p c room t k op l e along its_along scan_code;
        there = scan_there;
        typed = scan_typed;
      }

  module _ (ys : List ℤ) (new : List Buffer) (w : ChangesWithin along.elem along.kept along.axis.inner xs ys) (b : Becomes along.elem room c dest (number new dest) lanes new) where
    changes : ChangesWithin op.to (kept_from ops k) along.axis.inner xs ys
    changes = subst (λ y. ChangesWithin y (kept_from ops k) along.axis.inner xs ys) its_along.elem (subst (λ n. ChangesWithin along.elem n along.axis.inner xs ys) its_along.kept w)

    pub scan_ready : IsReady ops c width room new places f ys
    scan_ready =
        record {
          typed = Rattle.arr_machine.proofs.Lines.typed_one ops along.elem room c dest (number new dest) lanes new b scan_dest scan_below r.typed;
          placed = places_stay along.elem room c dest (number new dest) lanes new places f b scan_own width r.placed;
          own = r.own;
          within = r.within;
          wide = r.wide;
          long = w.long ∙ r.long;
          kept = typed_within ops p c room t k op l e along.axis.inner xs ys small changes r.kept;
        }

    pub scan_stands : ScansOn (value along.code along.elem) (fold_start along.code along.elem) along.axis.length along.axis.inner (kept_at xs along.kept) (kept_at ys along.kept) (number new dest) (held lanes places f along.source) p 0 c
        → (slots : ℕ → Option Slot) → Advances ops p c k (k + 1) (held lanes places f) xs slots (held new places f) ys slots
    scan_stands scanned slots h start s =
        record {
          row = row_filled ops p c room t k op l e h start (held lanes places f) xs slots s out (held new places f) fill (output_on ops p c room t k op l e out out_is) number_is;
          kept = kept_step ops p c room t k op l e h start (held lanes places f) xs slots s ys
              (λ j f lj ej ne i u. kept_elsewhere ops p c room t k op l e op.to along.axis.inner xs ys small changes j f lj ej ne i u)
              (record { sums = λ red. absurd (true≢false (sym red ∙ ap folds task.0)); carries = λ scan q u v. results.1 q u v ∙ sym (at q) });
          shown = shows_none ops p c room t k op l e h start (held lanes places f) xs slots s no_slot;
        }
      where
        no_slot : op.slot ≡ None
        no_slot =
            sorts op (well ops p c room t k op l e) (λ o fill plain. plain.no_slot) (λ v s. absurd (true≢false (ap scans (sym task.0 ∙ s.kind_is)))) (λ s. s.no_slot) (λ o v s. s.no_slot)

        fill : fills op ≡ Some out
        fill = ap (λ q. cond (folds q) None op.out) task.0 ∙ out_is

        on : ScansOn (value op.code op.to) (fold_start op.code op.to) (axis_length op) (inner_of op) (kept_at xs (kept_from ops k)) (kept_at ys (kept_from ops k)) (number new dest) (held lanes places f along.source) p 0 c
        on =
            subst (λ n. ScansOn (value op.code op.to) (fold_start op.code op.to) (axis_length op) n (kept_at xs (kept_from ops k)) (kept_at ys (kept_from ops k)) (number new dest) (held lanes places f along.source) p 0 c) its_along.inner
            (subst (λ n. ScansOn (value op.code op.to) (fold_start op.code op.to) n along.axis.inner (kept_at xs (kept_from ops k)) (kept_at ys (kept_from ops k)) (number new dest) (held lanes places f along.source) p 0 c) its_along.rows
            (subst (λ n. ScansOn (value op.code op.to) (fold_start op.code op.to) along.axis.length along.axis.inner (kept_at xs n) (kept_at ys n) (number new dest) (held lanes places f along.source) p 0 c) its_along.kept
            (subst (λ y. ScansOn (value op.code y) (fold_start op.code y) along.axis.length along.axis.inner (kept_at xs along.kept) (kept_at ys along.kept) (number new dest) (held lanes places f along.source) p 0 c) its_along.elem
            (subst (λ y. ScansOn (value y along.elem) (fold_start y along.elem) along.axis.length along.axis.inner (kept_at xs along.kept) (kept_at ys along.kept) (number new dest) (held lanes places f along.source) p 0 c) its_along.code scanned))))

        at : (q : ℕ) → column op (ends (take k ops) h) q ≡ scan_at (value op.code op.to) (fold_start op.code op.to) (axis_length op) (inner_of op) (λ i. taken (ends (take k ops) h i) op.first) q
        at q = ap (λ z. column_of z op (ends (take k ops) h) q) task.0

        results : ((j : ℕ) → j < c → number new dest (0 + j) ≡ scan_at (value op.code op.to) (fold_start op.code op.to) (axis_length op) (inner_of op) (λ i. taken (ends (take k ops) h i) op.first) (p + j))
            × ((q : ℕ) → q < p + c → p + c ≤ q + inner_of op → kept_at ys (kept_from ops k) (q % inner_of op) ≡ scan_at (value op.code op.to) (fold_start op.code op.to) (axis_length op) (inner_of op) (λ i. taken (ends (take k ops) h i) op.first) q)
        results =
            on (λ i. taken (ends (take k ops) h i) op.first)
            (λ q u v. (kept_here ops p c room t k op l e h start (held lanes places f) xs slots s).carries (ap scans task.0) q u v ∙ at q)
            (λ j v. ap (held lanes places f along.source) (let z : 0 + j ≡ j = omega arith in z) ∙ source_is ops p c room t k op l e along its_along scan_code h start (held lanes places f) xs slots s j v)

        number_is : (q i : ℕ) → i < c → held new places f q i ≡ cond (number_in (register_views ops) out == q) (column op (ends (take k ops) h) (p + i)) (held lanes places f q i)
        number_is q i u =
            becomes_held along.elem room c dest (number new dest) lanes new places f b scan_own q i u
            ∙ ap₂ (λ d z. cond (d == q) z (held lanes places f q i)) dest_is
            (ap (number new dest) (let z : i ≡ 0 + i = omega arith in z) ∙ results.0 i u ∙ sym (at (p + i)))
