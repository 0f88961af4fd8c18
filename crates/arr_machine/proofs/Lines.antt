-- An element-wise operation at a strip.
use Rattle.std.proofs.Common.{◌≡◌, ℕ, ◌+◌, ◌<◌, ◌≤◌, ℤ, List, true, false, cond, Option, Some, None, length, get_or, take, drop, ◌++◌, refl, ap, ap₂, sym, subst, ◌∙◌, arith}
use Rattle.std.specs.Prelude.{◌==◌, slice_get}
use Rattle.std.proofs.lemmas.Bool.{false≢true}
use Rattle.std.proofs.lemmas.List.{append-nil, drop_all, take_all}
use Rattle.arr_num.specs.Kinds.{Kind, Scan, binds_one, binds_two, counts, is_element_wise, is_reduction, is_scan, kind, scans}
use Rattle.arr_view.specs.Strided.{Strided}
use Rattle.arr_ops.specs.declared.op.Op.{Op}
use Rattle.arr_ops.specs.Memory.{Cell, Slot}
use Rattle.arr_store.specs.declared.buffer.Buffer.{Buffer}
use Rattle.arr_strips.specs.Columns.{column, ends, fills}
use Rattle.arr_strips.specs.Registers.{line_value, number_in, register_views}
use Rattle.arr_strips.proofs.Sorts.{sorts}
use Rattle.arr_strips.proofs.Values.{column_zip, zips}
use Rattle.arr_lanes.specs.declared.line.Line.{Line}
use Rattle.arr_lanes.specs.declared.strip.Place.{Place}
use Rattle.arr_lanes.specs.Lanes.{Becomes, IsLane, LineFits, number, shown}
use Rattle.arr_lanes.proofs.Places.{lane_stays, places_stay}
use Rattle.arr_machine.specs.Standing.{Advances, IsReady, IsStripOf}
use Rattle.arr_machine.specs.Tasks.{IsLine, Steady, TypedLanes}
use Rattle.arr_machine.proofs.Blocks.{register_below}
use Rattle.arr_machine.proofs.Lent.{Written}
use Rattle.arr_machine.proofs.Operands.{Behind, work_fits, work_value, zips_all}
use Rattle.arr_machine.proofs.Steps.{inputs_on, kept_step, output_on, quiet, row_filled, row_first, row_second, shows_none, well}
use Rattle.arr_machine.proofs.Types.{inputs_of_type, output_of_type}

not_scan : (c : Kind) → zips c ≡ true → scans c ≡ false
not_scan Scan z = absurd (false≢true z)
not_scan _ z = refl

-- what a lane holds, whatever it is
pub becomes_own : (t u : _) (room count dest : ℕ) (wanted : ℕ → ℤ) (old new : List Buffer) → t ≡ u → Becomes t room count dest wanted old new → Becomes u room count dest (number new dest) old new
becomes_own t u room count dest wanted old new e b =
    record { long = b.long; numbers = λ i l. refl; there = subst (λ y. IsLane y room (slice_get new dest)) e b.there; others = b.others }

-- a list that was lent as a slice
pub written_back : {X : Type 0} (n : ℕ) (out items lent : List X) → lent ≡ items → length lent ≡ n → length out ≡ length lent → take n (out ++ drop (length out) items) ≡ out
written_back n out items lent e long same =
    ap (λ xs. take n (out ++ xs)) (drop_all (length out) items (let a : length lent ≡ length items = ap length e in omega arith))
    ∙ ap (take n) (append-nil out) ∙ take_all n out (omega arith)

module _ (ops : List Op) (t : _) (room count dest : ℕ) (wanted : ℕ → ℤ) (old new : List Buffer) (b : Becomes t room count dest wanted old new) (was : IsLane t room (slice_get old dest)) (low : dest < length (register_views ops)) where
  -- where one register changes, lanes keep their types, and constants stay
  pub steady_one : Steady ops room old new
  steady_one =
      record {
        long = b.long;
        types = λ u r h. lane_stays t u room count dest r wanted old new was b h;
        constants = λ r l. b.others r (λ e. absurd (omega arith));
      }

  pub typed_one : TypedLanes ops room old → TypedLanes ops room new
  typed_one typed v on = steady_one.types _ (number_in (register_views ops) v) (typed v on)

  pub ready_one : (width : ℕ) (places : List (Option Place)) (f : ℕ → Option Cell) (xs : List ℤ) → get_or places dest None ≡ None → IsReady ops count width room old places f xs → IsReady ops count width room new places f xs
  ready_one width places f xs own r =
      record {
        typed = typed_one r.typed;
        placed = places_stay t room count dest wanted old new places f b own width r.placed;
        own = r.own;
        within = r.within;
        wide = r.wide;
        long = r.long;
        kept = r.kept;
      }

module _ (ops : List Op) (p c room : ℕ) (t : IsStripOf ops p c room) (k : ℕ) (op : Op) (l : k < length ops) (e : op ≡ get_or ops k op) (line : Line) (lanes : List Buffer)
    (task : IsLine ops room lanes op line) (typed : TypedLanes ops room lanes) where
  out : Strided
  out = task.1.1.1.0

  out_is : op.out ≡ Some out
  unfolding out
  out_is = task.1.1.1.1.0

  dest_is : line.dest ≡ number_in (register_views ops) out
  unfolding out
  dest_is = task.1.1.1.1.1

  zip : zips (kind op.code) ≡ true
  zip = zips_all (kind op.code) task.0

  pub dest_below : line.dest < length (register_views ops)
  dest_below = subst (λ r. r < length (register_views ops)) (sym dest_is) (register_below ops out (output_on ops p c room t k op l e out out_is))

  pub dest_typed : IsLane line.to room (slice_get lanes line.dest)
  dest_typed =
      subst (λ r. IsLane line.to room (slice_get lanes r)) (sym dest_is)
      (subst (λ y. IsLane y room (slice_get lanes (number_in (register_views ops) out))) (output_of_type ops t.types k op l e out out_is ∙ sym task.1.1.0) (typed out (output_on ops p c room t k op l e out out_is)))

  pub line_fits : LineFits room lanes line
  line_fits = (
    subst (Rattle.arr_lanes.specs.Lanes.WorkFits room lanes line.work) (sym task.1.1.0)
        (work_fits ops room lanes op (well ops p c room t k op l e) line.work typed (inputs_on ops p c room t k op l e) (inputs_of_type ops t.types k op l e) task.1.0),
    dest_typed,
  )

  -- from registers that held something, to others that hold the line's values besides
  module _ (held now : ℕ → ℕ → ℤ) (behind : Behind ops lanes held) (is : (r i : ℕ) → i < c → now r i ≡ cond (line.dest == r) (line_value (p + i) (λ q. held q i) (shown line)) (held r i)) (xs : List ℤ) (slots : ℕ → Option Slot) where
    pub line_held : Advances ops p c k (k + 1) held xs slots now xs slots
    line_held h start s =
        record {
          row = row_filled ops p c room t k op l e h start held xs slots s out now fill (output_on ops p c room t k op l e out out_is) number_is;
          kept = kept_step ops p c room t k op l e h start held xs slots s xs (λ j f lj ej ne i u. refl) (quiet ops p c room t k op l e h start held xs slots s plain (not_scan (kind op.code) zip) xs);
          shown = shows_none ops p c room t k op l e h start held xs slots s no_slot;
        }
      where
        plain : is_reduction op.code ≡ false
        plain = not_folds (kind op.code) zip
          where
            not_folds : (q : Kind) → zips q ≡ true → Rattle.arr_num.specs.Kinds.folds q ≡ false
            not_folds Rattle.arr_num.specs.Kinds.Reduction z = absurd (false≢true z)
            not_folds _ z = refl

        no_slot : op.slot ≡ None
        no_slot =
            sorts op (well ops p c room t k op l e) (λ o fill plain. plain.no_slot) (λ v s. absurd (false≢true (sym (ap zips s.kind_is) ∙ zip))) (λ s. s.no_slot) (λ o v s. s.no_slot)

        fill : fills op ≡ Some out
        fill = ap (λ z. cond z None op.out) plain ∙ out_is

        column_is : (i : ℕ) → i < c → line_value (p + i) (λ q. held q i) (shown line) ≡ column op (ends (take k ops) h) (p + i)
        column_is i u =
            let within : c ≤ room = t.within in
            ap (λ y. line_value (p + i) (λ q. held q i) (Rattle.arr_lanes.specs.Lanes.shown_work line.work y line.dest)) task.1.1.0
            ∙ work_value ops room lanes op (well ops p c room t k op l e) held behind i (p + i) (ends (take k ops) h (p + i)) (omega arith) (row_first ops p c room t k op l e h start held xs slots s i u)
            (row_second ops p c room t k op l e h start held xs slots s i u) line.work line.dest task.1.0
            ∙ sym (column_zip (kind op.code) op (ends (take k ops) h) (p + i) zip)

        number_is : (r i : ℕ) → i < c → now r i ≡ cond (number_in (register_views ops) out == r) (column op (ends (take k ops) h) (p + i)) (held r i)
        number_is r i u = is r i u ∙ ap₂ (λ d z. cond (d == r) z (held r i)) dest_is (column_is i u)

  pub dest_written : Written ops line.dest
  dest_written = record { at = k; op = op; there = l; item = e; view = out; out = out_is; register = dest_is }
