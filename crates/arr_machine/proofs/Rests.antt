-- From strip to strip.
use Rattle.std.proofs.Common.{◌≡◌, ℕ, suc, ◌+◌, ◌<◌, ◌≤◌, ℤ, List, [], ◌∷◌, ◌++◌, Bool, true, false, cond, Option, None, length, get_or, take, drop, refl, ap, sym, subst, ◌∙◌, arith}
use Rattle.std.specs.Prelude.{nat_lt}
use Rattle.std.specs.List.{AllByRecursion}
use Rattle.std.specs.Option.{option_to_list}
use Rattle.std.proofs.lemmas.Bool.{false≢true, le-ltb, lt-ltb, ltb-true}
use Rattle.std.proofs.lemmas.List.{append_assoc, length-append}
use Rattle.arr_num.specs.Kinds.{is_reduction, is_scan, scans}
use Rattle.arr_num.specs.Numbers.{fold_start, value}
use Rattle.arr_view.specs.Strided.{Strided}
use Rattle.arr_view.specs.Views.{positions}
use Rattle.arr_ops.specs.declared.op.Op.{Op}
use Rattle.arr_ops.specs.Fits.{op_fits}
use Rattle.arr_ops.specs.Formed.{well_formed}
use Rattle.arr_ops.specs.Memory.{Memory, Slot, lengths_of, or_zero}
use Rattle.arr_store.specs.Slots.{slot_number}
use Rattle.arr_strips.specs.Blocks.{block_positions}
use Rattle.arr_strips.specs.Columns.{Columns, column, count, ends, filled, next, taken}
use Rattle.arr_strips.specs.Registers.{number_in, register_views}
use Rattle.arr_strips.specs.Strips.{joined}
use Rattle.arr_strips.specs.Sums.{AllGathered}
use Rattle.arr_strips.proofs.Blocks.{Block, alones, next_same}
use Rattle.arr_strips.proofs.Sorts.{sorts}
use Rattle.arr_strips.proofs.Stages.{Alone}
use Rattle.arr_strips.proofs.Sums.{gathered_same}
use Rattle.arr_strips.proofs.Values.{Columnar}
use Rattle.arr_sums.specs.Kept.{kept_at}
use Rattle.arr_machine.specs.Kept.{OpKept, kept_from}
use Rattle.arr_machine.specs.Shown.{show_number, shown_number}
use Rattle.arr_machine.specs.Standing.{Resting, Standing}
use Rattle.arr_machine.proofs.Blocks.{all_front, all_get, ends_end}

module _ (ops : List Op) (m : Memory) (b : Block ops) (fs : AllByRecursion (λ f. op_fits m ops f ≡ true) ops) where
  all_alone : AllByRecursion (Alone (block_positions ops)) ops
  all_alone = alones ops m b fs

  -- columns come from positions up to their own
  columns_same : (ks : List Op) → AllByRecursion (Alone (block_positions ops)) ks → (h g : Columns) (i : ℕ) → i < block_positions ops → ((j : ℕ) → j ≤ i → h j ≡ g j) → ends ks h i ≡ ends ks g i
  columns_same [] a h g i l e = e i (omega arith)
  columns_same (k ∷ ks) a h g i l e = columns_same ks a.1 (next k h) (next k g) i l (λ j u. next_same ops m b fs k h g j (omega arith) a.0 (λ q v. e q (omega arith)))

  column_same : (op : Op) → AllByRecursion (λ (o : Strided). Columnar (block_positions ops) op) (filled op) → (op_well : well_formed op ≡ true) → is_scan op.code ≡ true → (h g : Columns) (i : ℕ) → i < block_positions ops
      → ((j : ℕ) → j ≤ i → h j ≡ g j) → column op h i ≡ column op g i
  column_same op col well scan h g i l e =
      sorts op well
      (λ o fill plain.
      let there : AllByRecursion (λ (o : Strided). Columnar (block_positions ops) op) (o ∷ []) = subst (λ x. AllByRecursion (λ (o : Strided). Columnar (block_positions ops) op) (option_to_list x)) (ap (λ t. cond t None op.out) fill.not_fold ∙ plain.out) col in
      there.0.local h g i l e)
      (λ v s. absurd (false≢true (sym (ap scans s.kind_is) ∙ scan))) (λ s. absurd (false≢true (sym (ap scans s.kind_is) ∙ scan))) (λ o v s. absurd (false≢true (sym (ap scans s.kind_is) ∙ scan)))

  -- what is kept depends on the positions that were done alone
  kept_same : (p j : ℕ) (op : Op) (xs : List ℤ) (h g : Columns) → j < length ops → op ≡ get_or ops j op → p ≤ block_positions ops → ((q : ℕ) → q < p → h q ≡ g q)
      → OpKept p (kept_from ops j) op (ends (take j ops) h) xs → OpKept p (kept_from ops j) op (ends (take j ops) g) xs
  kept_same p j op xs h g l e few same k =
      let front : AllByRecursion (Alone (block_positions ops)) (take j ops) = all_front (Alone (block_positions ops)) j ops all_alone in
      let columns : (q : ℕ) → q < p → ends (take j ops) h q ≡ ends (take j ops) g q = (λ q u. columns_same (take j ops) front h g q (omega arith) (λ i v. same i (omega arith))) in
      let alone : Alone (block_positions ops) op = all_get (Alone (block_positions ops)) ops j op l e all_alone in
      record {
        sums = λ red i u.
            k.sums red i u
            ∙ gathered_same (value op.code op.to) (fold_start op.code op.to) (get_or (lengths_of op.first) (or_zero op.axis) 1) (positions (drop (suc (or_zero op.axis)) (lengths_of op.first)))
            (λ q. taken (ends (take j ops) h q) op.first) (λ q. taken (ends (take j ops) g q) op.first) p i (λ q v. ap (λ r. taken r op.first) (columns q v));
        carries = λ scan q u w.
            k.carries scan q u w
            ∙ column_same op alone.suited.columnar (all_get (λ f. well_formed f ≡ true) ops j op l e b.well) scan (ends (take j ops) h) (ends (take j ops) g) q (omega arith) (λ i v. columns i (omega arith));
      }

  show_same : (ks : List Op) → AllByRecursion (Alone (block_positions ops)) ks → (h g : Columns) (q s : ℕ) (c : ℤ) → q < block_positions ops → ((j : ℕ) → j ≤ q → h j ≡ g j) → show_number ks h q s c ≡ show_number ks g q s c
  show_same [] a h g q s c l e = refl
  show_same (k ∷ ks) a h g q s c l e =
      ap (λ r. show_number ks (next k h) q s (shown_number k.slot (taken r k.first) s c)) (e q (omega arith))
      ∙ show_same ks a.1 (next k h) (next k g) q s (shown_number k.slot (taken (g q) k.first) s c) l (λ j u. next_same ops m b fs k h g j (omega arith) a.0 (λ i v. e i (omega arith)))

  -- other columns from a position on
  pub rests_same : (p : ℕ) (h g : Columns) (start : ℕ → Option Slot) (xs : List ℤ) (slots : ℕ → Option Slot) → p ≤ block_positions ops → ((q : ℕ) → q < p → h q ≡ g q) → Resting ops p h start xs slots → Resting ops p g start xs slots
  rests_same p h g start xs slots few same r =
      record {
        kept = λ j op l e. kept_same p j op xs h g l e few same (r.kept j op l e);
        shown = record {
          same = r.shown.same;
          numbers = λ s q. r.shown.numbers s q ∙ at s q (nat_lt q p) refl;
        };
      }
    where
      at : (s q : ℕ) (z : Bool) → nat_lt q p ≡ z → show_number (take (cond (nat_lt q p) (length ops) 0) ops) h q s (slot_number (start s) q) ≡ show_number (take (cond (nat_lt q p) (length ops) 0) ops) g q s (slot_number (start s) q)
      at s q true e =
          let low : q < p = ltb-true q p e in
          ap (λ z. show_number (take (cond z (length ops) 0) ops) h q s (slot_number (start s) q)) e
          ∙ show_same (take (length ops) ops) (all_front (Alone (block_positions ops)) (length ops) ops all_alone) h g q s (slot_number (start s) q) (omega arith) (λ j u. same j (omega arith))
          ∙ ap (λ z. show_number (take (cond z (length ops) 0) ops) g q s (slot_number (start s) q)) (sym e)
      at s q false e =
          ap (λ z. show_number (take (cond z (length ops) 0) ops) h q s (slot_number (start s) q)) e ∙ ap (λ z. show_number (take (cond z (length ops) 0) ops) g q s (slot_number (start s) q)) (sym e)

  -- the next strip begins where its lanes hold what was loaded
  pub strip_begins : (p c : ℕ) (h here : Columns) (start : ℕ → Option Slot) (see : ℕ → ℕ → ℤ) (xs : List ℤ) (slots : ℕ → Option Slot) → p ≤ block_positions ops
      → ((v : Strided) (i : ℕ) → i < c → see (number_in (register_views ops) v) i ≡ here (p + i) v)
      → Resting ops p h start xs slots → Standing ops p c 0 (joined p h here) start see xs slots
  strip_begins p c h here start see xs slots few row rest =
      let r : Resting ops p (joined p h here) start xs slots = rests_same p h (joined p h here) start xs slots few (λ q u. sym (ap (λ z. cond z (h q) (here q)) (lt-ltb q p u))) rest in
      record {
        row = λ v on i u. row v i u ∙ sym (ap (λ z. cond z (h (p + i)) (here (p + i)) v) (le-ltb (p + i) p (omega arith)));
        kept = λ j op l e. subst (λ d. OpKept d (kept_from ops j) op (ends (take j ops) (joined p h here)) xs) (sym (ap (λ z. cond z (p + c) p) (le-ltb j 0 (omega arith)))) (r.kept j op l e);
        shown = record {
          same = r.shown.same;
          numbers = λ s q. r.shown.numbers s q ∙ ap (λ k. show_number (take (cond (nat_lt q p) (length ops) k) ops) (joined p h here) q s (slot_number (start s) q)) (sym (none q (nat_lt q (p + c))));
        };
      }
    where
      none : (q : ℕ) (z : Bool) → ◌≡◌ {A = ℕ} (cond z 0 0) 0
      none q true = refl
      none q false = refl

-- a strip ends
pub strip_ends : (ops : List Op) (p c : ℕ) (h : Columns) (start : ℕ → Option Slot) (see : ℕ → ℕ → ℤ) (xs : List ℤ) (slots : ℕ → Option Slot) → Standing ops p c (length ops) h start see xs slots → Resting ops (p + c) h start xs slots
strip_ends ops p c h start see xs slots s =
    record {
      kept = λ j op l e. subst (λ d. OpKept d (kept_from ops j) op (ends (take j ops) h) xs) (ap (λ z. cond z (p + c) p) (lt-ltb j (length ops) l)) (s.kept j op l e);
      shown = record {
        same = s.shown.same;
        numbers = λ a q. s.shown.numbers a q ∙ ap (λ k. show_number (take k ops) h q a (slot_number (start a) q)) (all_seen q (nat_lt q p) refl);
      };
    }
  where
    all_seen : (q : ℕ) (z : Bool) → nat_lt q p ≡ z → cond z (length ops) (cond (nat_lt q (p + c)) (length ops) 0) ≡ cond (nat_lt q (p + c)) (length ops) 0
    all_seen q true e = sym (ap (λ z. cond z (length ops) 0) (lt-ltb q (p + c) (let u : q < p = ltb-true q p e in omega arith)))
    all_seen q false e = refl

-- the walk begins where accumulators are at the start of their folds
pub rests_first : (ops : List Op) (h : Columns) (xs : List ℤ) (slots : ℕ → Option Slot)
    → ((j : ℕ) (op : Op) → j < length ops → op ≡ get_or ops j op → is_reduction op.code ≡ true → (l : ℕ) → l < count op → kept_at xs (kept_from ops j) l ≡ fold_start op.code op.to) → Resting ops 0 h slots xs slots
rests_first ops h xs slots starts =
    record {
      kept = λ j op l e. record { sums = λ red i u. starts j op l e red i u; carries = λ scan q u w. absurd (omega arith) };
      shown = record { same = λ s. refl; numbers = λ s q. ap (λ z. show_number (take (cond z (length ops) 0) ops) h q s (slot_number (slots s) q)) (sym (le-ltb q 0 (omega arith))) };
    }

-- the accumulators when the walk ends
pub all_gathered : (ops : List Op) (p : ℕ) (h : Columns) (start : ℕ → Option Slot) (xs : List ℤ) (slots : ℕ → Option Slot) → Resting ops p h start xs slots → AllGathered p 0 ops h (λ j l. kept_at xs (kept_from ops j) l)
all_gathered ops p h start xs slots k = from [] ops refl
  where
    take_front : (front rest : List Op) → take (length front) (front ++ rest) ≡ front
    take_front [] rest = refl
    take_front (x ∷ front) rest = ap (λ zs. x ∷ zs) (take_front front rest)

    get_front : (front rest : List Op) (op : Op) → get_or (front ++ op ∷ rest) (length front) op ≡ op
    get_front [] rest op = refl
    get_front (x ∷ front) rest op = get_front front rest op

    from : (front rest : List Op) → front ++ rest ≡ ops → AllGathered p (length front) rest (ends front h) (λ j l. kept_at xs (kept_from ops j) l)
    from front [] e = tt
    from front (op ∷ rest) e =
        let long : length front < length ops = subst (λ zs. length front < length zs) e (let s : length (front ++ op ∷ rest) ≡ length front + suc (length rest) = length-append front (op ∷ rest) in omega arith) in
        let item : op ≡ get_or ops (length front) op = sym (ap (λ zs. get_or zs (length front) op) (sym e) ∙ get_front front rest op) in
        let kept : OpKept p (kept_from ops (length front)) op (ends front h) xs = subst (λ zs. OpKept p (kept_from ops (length front)) op (ends zs h) xs) (ap (take (length front)) (sym e) ∙ take_front front (op ∷ rest)) (k.kept (length front) op long item) in
        let next_length : length (front ++ op ∷ []) ≡ suc (length front) = length-append front (op ∷ []) ∙ (let s : length front + 1 ≡ suc (length front) = omega arith in s) in (
          (λ red l u. kept.sums red l u),
          subst (λ i. AllGathered p i rest (next op (ends front h)) (λ j l. kept_at xs (kept_from ops j) l)) next_length
              (subst (λ (g : Columns). AllGathered p (length (front ++ op ∷ [])) rest g (λ j l. kept_at xs (kept_from ops j) l)) (ends_end front op h) (from (front ++ op ∷ []) rest (append_assoc front (op ∷ []) rest ∙ e))),
        )
