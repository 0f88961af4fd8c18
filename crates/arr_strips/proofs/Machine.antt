-- A strip of registers: loads, lines and stores carry the walk on.
use Rattle.std.proofs.Common.{◌≡◌, ℕ, ◌+◌, ◌-◌, ◌≤◌, ◌<◌, ℤ, List, [], ◌∷◌, true, false, cond, ◌||◌, refl, ap, sym, ◌∙◌, arith}
use Rattle.std.proofs.lemmas.Bool.{ltb-true, false≢true}
use Rattle.std.specs.Prelude.{nat_lt}
use Rattle.std.specs.List.{AllByRecursion, list_any, flat_map}
use Rattle.arr_view.specs.Strided.{Strided}
use Rattle.arr_view.specs.Views.{identical}
use Rattle.arr_num.specs.Kinds.{Kind, Binary, Unary, Counting, Reduction, Scan, Ending, Printing, kind, binds_two, binds_one, counts, is_element_wise}
use Rattle.arr_ops.specs.declared.op.Op.{Op}
use Rattle.arr_ops.specs.Ops.{outputs, inputs, views}
use Rattle.arr_ops.specs.Memory.{Memory}
use Rattle.arr_ops.specs.Fits.{fits}
use Rattle.arr_ops.specs.Costs.{reads}
use Rattle.arr_ops.proofs.Pairs.{All_weaker}
use Rattle.arr_ops.proofs.Spots.{all_left}
use Rattle.arr_store.specs.Cells.{number_at}
use Rattle.arr_strips.specs.Columns.{place_at, ends, filled}
use Rattle.arr_strips.proofs.Eager.{outs_filled}
use Rattle.arr_strips.specs.Strips.{Bases, loaded, joined, stored}
use Rattle.arr_strips.specs.Blocks.{is_block, block_positions, stores}
use Rattle.arr_strips.specs.Registers.{Registers, number_in, ran, lines_of, register_views, columns_from}
use Rattle.arr_strips.specs.Laws.{WalkedBlock, LinesGoOn}
use Rattle.arr_strips.proofs.Values.{zips}
use Rattle.arr_strips.proofs.Sames.{or_true, identical_itself, any_append, any_distinct}
use Rattle.arr_strips.proofs.Registers.{ends_ran}
use Rattle.arr_strips.proofs.StripLaws.{go_on}

self_any : (vs : List Strided) → AllByRecursion (λ v. list_any (λ w. identical w v) vs ≡ true) vs
self_any [] = tt
self_any (v ∷ vs) = (
  ap (λ z. z || list_any (λ w. identical w v) vs) (identical_itself v),
  All_weaker (λ u. list_any (λ w. identical w u) vs ≡ true) (λ u. list_any (λ w. identical w u) (v ∷ vs) ≡ true) (λ u h. or_true (identical v u) _ h) vs (self_any vs),
)

in_views : (ks : List Op) → AllByRecursion (λ (k : Op). AllByRecursion (λ v. list_any (λ w. identical w v) (flat_map views ks) ≡ true) (views k)) ks
in_views [] = tt
in_views (k ∷ ks) = (
  All_weaker (λ v. list_any (λ w. identical w v) (views k) ≡ true) (λ v. list_any (λ w. identical w v) (flat_map views (k ∷ ks)) ≡ true)
      (λ v h. any_append (λ w. identical w v) (views k) (flat_map views ks) (ap (λ z. z || list_any (λ w. identical w v) (flat_map views ks)) h)) (views k) (self_any (views k)),
  All_weaker (λ (j : Op). AllByRecursion (λ v. list_any (λ w. identical w v) (flat_map views ks) ≡ true) (views j)) (λ (j : Op). AllByRecursion (λ v. list_any (λ w. identical w v) (flat_map views (k ∷ ks)) ≡ true) (views j))
      (λ j h. All_weaker (λ v. list_any (λ w. identical w v) (flat_map views ks) ≡ true) (λ v. list_any (λ w. identical w v) (flat_map views (k ∷ ks)) ≡ true)
      (λ v g. any_append (λ w. identical w v) (views k) (flat_map views ks) (or_true _ _ g)) (views j) h) ks (in_views ks),
)

pub has_register : (ops : List Op) → AllByRecursion (λ (k : Op). AllByRecursion (λ v. loaded (register_views ops) v ≡ true) (views k)) ops
has_register ops =
    All_weaker (λ (k : Op). AllByRecursion (λ v. list_any (λ w. identical w v) (flat_map views ops) ≡ true) (views k)) (λ (k : Op). AllByRecursion (λ v. loaded (register_views ops) v ≡ true) (views k))
    (λ k h. All_weaker (λ v. list_any (λ w. identical w v) (flat_map views ops) ≡ true) (λ v. loaded (register_views ops) v ≡ true) (λ v g. any_distinct v (flat_map views ops) g) (views k) h) ops (in_views ops)

-- loads into the registers, lines at each place, stores: the walk goes on by c positions
pub strip_goes_on : (ops : List Op) (m : Memory) (p c : ℕ) (now : Bases) → is_block ops ≡ true → fits m ops ≡ true
    → AllByRecursion (λ (op : Op). AllByRecursion (λ (o : Strided). zips (kind op.code) ≡ true) (filled op)) ops
    → p + c ≤ block_positions ops → (w : WalkedBlock ops m p now)
    → (before after : ℕ → Registers)
    → ((v : Strided) → loaded (reads ops) v ≡ true → (i : ℕ) → i < c → before i (number_in (register_views ops) v) ≡ number_at (now v.base) (place_at v (p + i)))
    → ((i : ℕ) → i < c → after i ≡ ran (p + i) (lines_of (register_views ops) ops) (before i))
    → (v : WalkedBlock ops m (p + c) (stored p c (columns_from (register_views ops) p after) (stores ops) now)) × (v.begun ≡ joined p w.begun (columns_from (register_views ops) p before))
strip_goes_on ops m p c now is fit flats within w before after loads runs =
    go_on ops m p c now is fit within w (columns_from vs p before) (columns_from vs p after)
    (λ v on i l u.
    let back : p + (i - p) ≡ i = omega arith in
    loads v on (i - p) (omega arith) ∙ ap (λ j. number_at (now v.base) (place_at v j)) back)
    (all (stores ops))
  where
    vs : List Strided
    vs = register_views ops

    there : AllByRecursion (λ (op : Op). AllByRecursion (λ o. loaded vs o ≡ true) (filled op)) ops
    there =
        All_weaker (λ (k : Op). AllByRecursion (λ v. loaded vs v ≡ true) (views k)) (λ (op : Op). AllByRecursion (λ o. loaded vs o ≡ true) (filled op))
        (λ k h. outs_filled (λ v. loaded vs v ≡ true) k (all_left (λ v. loaded vs v ≡ true) (outputs k) (inputs k) h)) ops (has_register ops)

    later : (i : ℕ) → p ≤ i → joined p w.begun (columns_from vs p before) i ≡ columns_from vs p before i
    later i l = elim (nat_lt i p) as (λ t. nat_lt i p ≡ t → cond t (w.begun i) (columns_from vs p before i) ≡ columns_from vs p before i) [
      | true ↦ λ e. absurd (let u : i < p = ltb-true i p e in omega arith)
      | false ↦ λ e. refl
    ] refl

    one : (v : Strided) (i : ℕ) → p ≤ i → i < p + c → columns_from vs p after i v ≡ ends ops (joined p w.begun (columns_from vs p before)) i v
    one v i l u =
        let back : p + (i - p) ≡ i = omega arith in
        ap (λ (r : Registers). r (number_in vs v)) (runs (i - p) (omega arith) ∙ ap (λ j. ran j (lines_of vs ops) (before (i - p))) back)
        ∙ sym (ap (λ (r : Strided → ℤ). r v) (ends_ran vs ops (joined p w.begun (columns_from vs p before)) (before (i - p)) i (later i l) there flats))

    all : (xs : List Strided) → AllByRecursion (λ v. (i : ℕ) → p ≤ i → i < p + c → columns_from vs p after i v ≡ ends ops (joined p w.begun (columns_from vs p before)) i v) xs
    all [] = tt
    all (x ∷ xs) = (one x, all xs)

-- element-wise codes, kind by kind
element_wise : (k : Kind) → (binds_two k || (binds_one k || counts k)) ≡ true → zips k ≡ true
element_wise Binary h = refl
element_wise Unary h = refl
element_wise Counting h = refl
element_wise Reduction h = absurd (false≢true h)
element_wise Scan h = absurd (false≢true h)
element_wise Ending h = absurd (false≢true h)
element_wise Printing h = absurd (false≢true h)

pub lines_go_on : LinesGoOn
lines_go_on ops m p c now is fit flats within w before after loads runs =
    strip_goes_on ops m p c now is fit
    (All_weaker (λ (op : Op). AllByRecursion (λ (o : Strided). is_element_wise op.code ≡ true) (filled op)) (λ (op : Op). AllByRecursion (λ (o : Strided). zips (kind op.code) ≡ true) (filled op))
    (λ op h. All_weaker (λ (o : Strided). is_element_wise op.code ≡ true) (λ (o : Strided). zips (kind op.code) ≡ true) (λ o e. element_wise (kind op.code) e) (filled op) h) ops flats)
    within w before after loads runs
