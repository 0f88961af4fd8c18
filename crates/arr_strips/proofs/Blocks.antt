-- A block of a legal plan and a memory that fits it give what the law of strips asks.
use Rattle.std.proofs.Common.{◌≡◌, ℕ, ◌≤◌, ◌<◌, pos, List, [], ◌∷◌, ◌++◌, Bool, true, false, cond, not, ◌||◌, ◌&&◌, refl, ap, ap₂, sym, ◌∙◌, subst, arith, map, length, get_or, replicate, Option, Some, None}
use Rattle.std.proofs.lemmas.Bool.{false≢true, eq-eqb, ltb-true}
use Rattle.std.proofs.lemmas.List.{length-replicate}
use Rattle.std.specs.Prelude.{nat_lt, ◌==◌, is_none}
use Rattle.std.specs.List.{AllByRecursion, list_any, list_all, filter, flat_map}
use Rattle.std.specs.Option.{option_to_list}
use Rattle.arr_view.specs.Strided.{Strided}
use Rattle.arr_view.specs.Views.{elements, has, identical, overlap}
use Rattle.arr_num.specs.Kinds.{is_reduction}
use Rattle.std.specs.Prelude.{ℤ}
use Rattle.arr_ops.specs.declared.op.Op.{Op}
use Rattle.arr_ops.specs.Ops.{outputs, inputs, views, freed, freed_by, makes_base, creates, serial, fusible}
use Rattle.arr_ops.specs.Memory.{Memory, Cell}
use Rattle.arr_num.specs.Numbers.{in_type}
use Rattle.arr_ops.specs.Formed.{same_elem, well_formed, each_inside, inside_made, may_precede, all_pairs}
use Rattle.arr_ops.specs.Fits.{op_fits, Need, needs, meets_need}
use Rattle.arr_ops.specs.Costs.{distinct, all_reads, reads}
use Rattle.arr_ops.proofs.Pairs.{Pairs, All_weaker, Pairs_weaker, All_filter, Pairs_All}
use Rattle.arr_ops.proofs.Tests.{both_left, both_right, all_of, pairs_of, or_cases, cross}
use Rattle.arr_ops.proofs.Writes.{or_left, or_right}
use Rattle.arr_ops.proofs.Spots.{all_left, all_right, all_two, all_mapped, none_from, created_absent}
use Rattle.arr_strips.specs.Columns.{place_at, Columns, column, next, ends, Live, live_after, live_end, fills, filled, fold_outs, count, opened_by, opening, opened, assigned}
use Rattle.arr_strips.specs.Strips.{loaded}
use Rattle.arr_strips.specs.Blocks.{block_shape, block_positions, is_block, all_stores, stores}
use Rattle.arr_strips.proofs.Cells.{room}
use Rattle.arr_strips.specs.Strips.{outline, size}
use Rattle.arr_strips.proofs.Values.{Columnar}
use Rattle.arr_strips.proofs.Eager.{Meets, Clear, Misses, Runs, outs_filled, outs_folded}
use Rattle.arr_strips.proofs.Strips.{Parted, Once, Orderly}
use Rattle.arr_strips.proofs.Fused.{Ends, Free, Quiet, Prepares, Prints, unopened}
use Rattle.arr_strips.proofs.Sames.{untrue, or_true, same_base, same_elements, identical_itself, any_all, any_append, all_append, all_flat_map, turn, all_cross, all_distinct, distinct_apart, any_undistinct, any_distinct}
use Rattle.arr_strips.proofs.Sorts.{sorts, fused_of, Fused, AtShape, one_shape, Heeds, AllHeed, heeds_all, no_pair, walkings, column_none, fold_none, ins_none, Freeing}
use Rattle.arr_strips.proofs.Stages.{Alone, alone_of, Beside, Covers, Spot, KnownTo, known_alike, stages, all_at, unmade, made_inside}

pub record Block (ops : List Op) : Type 0 where
  pub well : AllByRecursion (λ f. well_formed f ≡ true) ops
  pub inside : AllByRecursion (λ f. AllByRecursion (λ g. inside_made f g ≡ true) ops) ops
  pub order : Pairs (λ f g. may_precede f g ≡ true) ops
  pub fuse : Pairs (λ f g. fusible f g ≡ true) ops
  pub parallel : AllByRecursion (λ f. not (serial f) ≡ true) ops

pub block_of : (ops : List Op) → is_block ops ≡ true → Block ops
block_of ops e =
    let a = both_right (list_all well_formed ops) _ e in
    let b = both_right (each_inside ops) _ a in
    let c = both_right (all_pairs may_precede ops) _ b in
    record {
      well = all_of well_formed ops (both_left (list_all well_formed ops) _ e);
      inside = All_weaker (λ f. list_all (inside_made f) ops ≡ true) (λ f. AllByRecursion (λ g. inside_made f g ≡ true) ops) (λ f h. all_of (inside_made f) ops h) ops
          (all_of (λ f. list_all (inside_made f) ops) ops (both_left (each_inside ops) _ a));
      order = pairs_of may_precede ops (both_left (all_pairs may_precede ops) _ b);
      fuse = pairs_of fusible ops (both_left (all_pairs fusible ops) _ c);
      parallel = all_of (λ f. not (serial f)) ops (both_right (all_pairs fusible ops) _ c);
    }

-- pairs of what holds of each
pairs_all : {X : Type 0} (P : X → Type 0) (R : X → X → Type 0) (xs : List X) → AllByRecursion P xs → Pairs R xs → Pairs (λ x y. (P x × P y) × R x y) xs
pairs_all P R [] a h = tt
pairs_all P R (x ∷ xs) a h = (firsts xs a.1 h.0, pairs_all P R xs a.1 h.1)
  where
    firsts : (ys : List _) → AllByRecursion P ys → AllByRecursion (R x) ys → AllByRecursion (λ y. (P x × P y) × R x y) ys
    firsts [] b c = tt
    firsts (y ∷ ys) b c = (((a.0, b.0), c.0), firsts ys b.1 c.1)

pairs_two : {X : Type 0} (R Q S : X → X → Type 0) → ((x y : X) → R x y → Q x y → S x y) → (xs : List X) → Pairs R xs → Pairs Q xs → Pairs S xs
pairs_two R Q S f [] a b = tt
pairs_two R Q S f (x ∷ xs) a b = (all_two (R x) (Q x) (S x) (f x) xs a.0 b.0, pairs_two R Q S f xs a.1 b.1)

-- ---- some views of each operation, up to identity

module _ (keep : Strided → Bool) (part : Op → List Strided) where
  abbrev kept : List Op → List Strided
  kept ks = flat_map (λ (op : Op). filter keep (part op)) ks

  in_filter : (vs : List Strided) → AllByRecursion (λ (v : Strided). keep v ≡ true → list_any (λ w. identical w v) (filter keep vs) ≡ true) vs
  in_filter [] = tt
  in_filter (v ∷ vs) = (
    (λ e. ap (λ z. list_any (λ w. identical w v) (cond z (v ∷ filter keep vs) (filter keep vs))) e ∙ ap (λ z. z || list_any (λ w. identical w v) (filter keep vs)) (identical_itself v)),
    All_weaker (λ (u : Strided). keep u ≡ true → list_any (λ w. identical w u) (filter keep vs) ≡ true) (λ (u : Strided). keep u ≡ true → list_any (λ w. identical w u) (filter keep (v ∷ vs)) ≡ true)
        (λ u h e. longer u (keep v) (h e)) vs (in_filter vs),
  )
    where
      longer : (u : Strided) (z : Bool) → list_any (λ w. identical w u) (filter keep vs) ≡ true → list_any (λ w. identical w u) (cond z (v ∷ filter keep vs) (filter keep vs)) ≡ true
      longer u true h = or_true (identical v u) _ h
      longer u false h = h

  in_parts : (ks : List Op) → AllByRecursion (λ (k : Op). AllByRecursion (λ (v : Strided). keep v ≡ true → list_any (λ w. identical w v) (kept ks) ≡ true) (part k)) ks
  in_parts [] = tt
  in_parts (k ∷ ks) = (
    All_weaker (λ (v : Strided). keep v ≡ true → list_any (λ w. identical w v) (filter keep (part k)) ≡ true) (λ (v : Strided). keep v ≡ true → list_any (λ w. identical w v) (kept (k ∷ ks)) ≡ true)
        (λ v h e. any_append (λ w. identical w v) (filter keep (part k)) (kept ks) (ap (λ z. z || list_any (λ w. identical w v) (kept ks)) (h e))) (part k) (in_filter (part k)),
    All_weaker (λ (j : Op). AllByRecursion (λ (v : Strided). keep v ≡ true → list_any (λ w. identical w v) (kept ks) ≡ true) (part j))
        (λ (j : Op). AllByRecursion (λ (v : Strided). keep v ≡ true → list_any (λ w. identical w v) (kept (k ∷ ks)) ≡ true) (part j))
        (λ j h. All_weaker (λ (v : Strided). keep v ≡ true → list_any (λ w. identical w v) (kept ks) ≡ true) (λ (v : Strided). keep v ≡ true → list_any (λ w. identical w v) (kept (k ∷ ks)) ≡ true)
        (λ v g e. any_append (λ w. identical w v) (filter keep (part k)) (kept ks) (or_true _ _ (g e))) (part j) h) ks (in_parts ks),
  )

  -- what holds of those that are kept holds of one of each kind
  spread : (Q : Strided → Type 0) (ks : List Op) → AllByRecursion (λ (k : Op). AllByRecursion (λ v. keep v ≡ true → Q v) (part k)) ks → AllByRecursion Q (distinct identical (kept ks))
  spread Q ks h =
      all_distinct identical Q (kept ks)
      (all_flat_map Q (λ (op : Op). filter keep (part op)) ks
      (All_weaker (λ (k : Op). AllByRecursion (λ v. keep v ≡ true → Q v) (part k)) (λ (k : Op). AllByRecursion Q (filter keep (part k))) (λ k t. All_filter Q keep (part k) t) ks h))

record Sort (n : ℕ) (f : Op) : Type 0 where
  well : well_formed f ≡ true
  alone : Alone n f

module _ (n : ℕ) where
  -- two that fuse
  meeting : (f g : Op) → Sort n f → Sort n g → fusible f g ≡ true → AllHeed n f (walkings g) × AllHeed n g (walkings f)
  meeting f g a b h =
      sorts f a.well (λ o z p. with_right p.no_free) (λ v s. with_right s.no_free) left_free (λ o v s. with_right s.no_free)
    where
      both : f.frees ≡ None → g.frees ≡ None → AllHeed n f (walkings g) × AllHeed n g (walkings f)
      both x y =
          let u : Fused f g = fused_of f g h x y in (
            heeds_all n f (walkings g) a.alone.column_once (all_left (λ (v : Strided). length (elements v) ≡ n) (filled f) (inputs f) a.alone.longs) b.alone.longs
                (no_pair (λ o v. overlap o v && (is_reduction f.code || not (identical o v))) g (outputs f) u.forth),
            heeds_all n g (walkings f) b.alone.column_once (all_left (λ (v : Strided). length (elements v) ≡ n) (filled g) (inputs g) b.alone.longs) a.alone.longs
                (no_pair (λ o v. overlap o v && (is_reduction g.code || not (identical o v))) f (outputs g) u.back),
          )

      -- FREE has no view
      viewless : (k : Op) (P : Strided → Type 0) → Freeing k → AllByRecursion P (walkings k)
      viewless k P s = all_append P (filled k) (inputs k) (column_none P k s.no_out) (ins_none P k s)

      heedless : (k : Op) (vs : List Strided) → Freeing k → AllHeed n k vs
      heedless k [] s = tt
      heedless k (v ∷ vs) s = (record { meets = column_none (λ o. Meets n o v) k s.no_out; clear = fold_none (λ o. Clear n o v) k s.no_out }, heedless k vs s)

      right_free : Freeing g → AllHeed n f (walkings g) × AllHeed n g (walkings f)
      right_free s = (viewless g (Heeds n f) s, heedless g (walkings f) s)

      left_free : Freeing f → AllHeed n f (walkings g) × AllHeed n g (walkings f)
      left_free s = (heedless f (walkings g) s, viewless f (Heeds n g) s)

      with_right : f.frees ≡ None → AllHeed n f (walkings g) × AllHeed n g (walkings f)
      with_right x = sorts g b.well (λ o z p. both x p.no_free) (λ v s. both x s.no_free) right_free (λ o v s. both x s.no_free)

module _ (ops : List Op) (m : Memory) (b : Block ops) (fit : AllByRecursion (λ f. op_fits m ops f ≡ true) ops) where
  abbrev n : ℕ
  n = block_positions ops

  each_sort : AllByRecursion (Sort n) ops
  each_sort =
      all_two (λ f. well_formed f ≡ true) (λ f. (not (serial f) ≡ true) × AtShape (block_shape ops) f) (Sort n)
      (λ f x y. record { well = x; alone = alone_of (block_shape ops) f x y.0 y.1 }) ops b.well
      (all_two (λ f. not (serial f) ≡ true) (AtShape (block_shape ops)) (λ f. (not (serial f) ≡ true) × AtShape (block_shape ops) f) (λ f x y. (x, y)) ops b.parallel (one_shape ops b.fuse b.well))

  pub alones : AllByRecursion (Alone n) ops
  alones = All_weaker (Sort n) (Alone n) (λ f s. s.alone) ops each_sort

  met : Pairs (λ f g. AllHeed n f (walkings g) × AllHeed n g (walkings f)) ops
  met = Pairs_All (Sort n) (λ f g. fusible f g ≡ true) (λ f g. AllHeed n f (walkings g) × AllHeed n g (walkings f)) (λ f g x y h. meeting n f g x y h) ops each_sort b.fuse

  besides : Pairs (Beside n) ops
  besides =
      pairs_two (λ f g. (may_precede f g ≡ true) × (inside_made f g ≡ true)) (λ f g. AllHeed n f (walkings g) × AllHeed n g (walkings f)) (Beside n)
      (λ f g x y. record { precedes = x.0; inside = x.1; forth = y.0; back = y.1 }) ops
      (pairs_two (λ f g. may_precede f g ≡ true) (λ f g. (inside_made f g ≡ true) × (inside_made g f ≡ true)) (λ f g. (may_precede f g ≡ true) × (inside_made f g ≡ true)) (λ f g x y. (x, y.0)) ops
      b.order (cross (λ f g. inside_made f g ≡ true) ops b.inside)) met

  all_meet : AllByRecursion (λ f. AllByRecursion (λ g. AllHeed n f (walkings g)) ops) ops
  all_meet = all_cross (λ f g. AllHeed n f (walkings g)) ops (All_weaker (Alone n) (λ f. AllHeed n f (walkings f)) (λ f a. a.own) ops alones) met

  -- each view of the walk is known to the whole block
  known_views : AllByRecursion (λ g. AllByRecursion (KnownTo n ops) (walkings g)) ops
  known_views =
      All_weaker (λ g. AllByRecursion (λ f. AllHeed n f (walkings g)) ops) (λ g. AllByRecursion (KnownTo n ops) (walkings g)) (λ g h. turn (λ f v. Heeds n f v) ops (walkings g) h) ops
      (turn (λ f g. AllHeed n f (walkings g)) ops ops all_meet)

  known_reads : AllByRecursion (λ v. KnownTo n ops v × (creates ops v.base ≡ false)) (all_reads ops)
  known_reads =
      all_flat_map (λ v. KnownTo n ops v × (creates ops v.base ≡ false)) (λ (op : Op). filter (λ (v : Strided). not (creates ops v.base)) (inputs op)) ops
      (All_weaker (λ g. AllByRecursion (KnownTo n ops) (walkings g)) (λ (op : Op). AllByRecursion (λ v. KnownTo n ops v × (creates ops v.base ≡ false)) (filter (λ (v : Strided). not (creates ops v.base)) (inputs op)))
      (λ op h. All_filter (λ v. KnownTo n ops v × (creates ops v.base ≡ false)) (λ (v : Strided). not (creates ops v.base)) (inputs op)
      (All_weaker (KnownTo n ops) (λ (v : Strided). not (creates ops v.base) ≡ true → KnownTo n ops v × (creates ops v.base ≡ false)) (λ v k e. (k, untrue _ e)) (inputs op)
      (all_right (KnownTo n ops) (filled op) (inputs op) h))) ops known_views)

  -- what is loaded is known, and of a base that the block does not create
  loaded_known : (v : Strided) → loaded (reads ops) v ≡ true → KnownTo n ops v × (creates ops v.base ≡ false)
  loaded_known v on =
      any_all (λ w. identical w v) (λ v. KnownTo n ops v × (creates ops v.base ≡ false)) (all_reads ops) (any_undistinct identical (λ w. identical w v) (all_reads ops) on) known_reads
      (λ w e k. (known_alike n ops w v e k.0, ap (creates ops) (sym (same_base w v e)) ∙ k.1))

  -- ---- inputs are loaded or made in the block

  covers : Covers n (loaded (reads ops)) ops ops
  covers =
      All_weaker (λ (k : Op). AllByRecursion (λ (v : Strided). not (creates ops v.base) ≡ true → list_any (λ w. identical w v) (all_reads ops) ≡ true) (inputs k))
      (λ (k : Op). AllByRecursion (λ (v : Strided). (loaded (reads ops) v || creates ops v.base) ≡ true) (inputs k))
      (λ k h. All_weaker (λ (v : Strided). not (creates ops v.base) ≡ true → list_any (λ w. identical w v) (all_reads ops) ≡ true) (λ (v : Strided). (loaded (reads ops) v || creates ops v.base) ≡ true)
      (λ v g. either (loaded (reads ops) v) (creates ops v.base) (λ e. any_distinct v (all_reads ops) (g e))) (inputs k) h) ops (in_parts (λ (v : Strided). not (creates ops v.base)) inputs ops)
    where
      either : (x y : Bool) → (not y ≡ true → x ≡ true) → (x || y) ≡ true
      either true y f = refl
      either false true f = refl
      either false false f = absurd (false≢true (f refl))

  -- ---- a memory that fits

  spots : AllByRecursion (λ (k : Op). AllByRecursion (Spot n m ops k.makes) (outputs k)) ops
  spots = All_weaker (λ f. op_fits m ops f ≡ true) (λ (k : Op). AllByRecursion (Spot n m ops k.makes) (outputs k)) spot ops fit
    where
      in_cell : (c : Option Cell) (need : Need) → meets_need c need ≡ true → list_all (λ e. nat_lt e (size (outline c))) need.places ≡ true
      in_cell None need h = absurd (false≢true h)
      in_cell (Some c) need h = both_right (list_all (in_type c.elem) c.numbers) _ (both_right (same_elem c.elem need.elem) _ h)

      spot : (k : Op) → op_fits m ops k ≡ true → AllByRecursion (Spot n m ops k.makes) (outputs k)
      spot k h =
          let test : Need → Bool = λ (d : Need). creates ops d.base || meets_need (m.bases d.base) d in
          let first : Strided → Need = λ (v : Strided). record { base = v.base; elem = k.to; places = elements v } in
          let second : Strided → Need = λ (v : Strided). record { base = v.base; elem = k.from; places = elements v } in
          let third : ℕ → Need = λ b. record { base = b; elem = k.to; places = [] } in
          let met : AllByRecursion (λ d. test d ≡ true) (map first (outputs k)) =
          all_left (λ d. test d ≡ true) (map first (outputs k)) (map second (inputs k))
          (all_left (λ d. test d ≡ true) (map first (outputs k) ++ map second (inputs k)) (map third (freed k)) (all_of test (needs k) (both_left (list_all test (needs k)) _ h))) in
          let made : (not k.makes || list_all (λ (o : Strided). is_none (m.bases o.base)) (outputs k)) ≡ true = both_right (list_all (λ s. is_none (m.slots s)) (option_to_list k.slot)) _ (both_right (list_all test (needs k)) _ h) in
          all_two (λ (o : Strided). test (first o) ≡ true) (λ (o : Strided). k.makes ≡ true → is_none (m.bases o.base) ≡ true) (Spot n m ops k.makes)
          (λ o x y. record {
            there = λ e. or_cases (creates ops o.base) (meets_need (m.bases o.base) (first o)) x (λ t. ap (λ z. z || list_all (λ e. nat_lt e (room m o.base)) (elements o)) t)
                (λ t. or_true (creates ops o.base) _ (in_cell (m.bases o.base) (first o) t));
            fresh = λ e. none_from (m.bases o.base) (y e);
          }) (outputs k) (all_mapped (λ d. test d ≡ true) first (outputs k) met)
          (when (k.makes ≡ true) (λ (o : Strided). is_none (m.bases o.base) ≡ true) (outputs k)
          (λ e. all_of (λ (o : Strided). is_none (m.bases o.base)) (outputs k) (ap (λ z. not z || list_all (λ (o : Strided). is_none (m.bases o.base)) (outputs k)) (sym e) ∙ made)))
        where
          when : (A : Type 0) (Q : Strided → Type 0) (xs : List Strided) → (A → AllByRecursion Q xs) → AllByRecursion (λ x. A → Q x) xs
          when A Q [] h = tt
          when A Q (x ∷ xs) h = ((λ a. (h a).0), when A Q xs (λ a. (h a).1))

  runs : Runs n m (loaded (reads ops)) ops
  runs = stages n ops m (loaded (reads ops)) besides alones covers spots (λ v on. (loaded_known v on).0)

  -- ---- what is stored

  stay : Strided → Bool
  stay v = not (freed_by ops v.base)

  stored_all : (Q : Strided → Type 0) → AllByRecursion (λ (k : Op). AllByRecursion (λ (v : Strided). freed_by ops v.base ≡ false → Q v) (filled k)) ops → AllByRecursion Q (stores ops)
  stored_all Q h =
      spread (λ (v : Strided). not (freed_by ops v.base)) filled Q ops
      (All_weaker (λ (k : Op). AllByRecursion (λ (v : Strided). freed_by ops v.base ≡ false → Q v) (filled k)) (λ (k : Op). AllByRecursion (λ (v : Strided). not (freed_by ops v.base) ≡ true → Q v) (filled k))
      (λ k t. All_weaker (λ (v : Strided). freed_by ops v.base ≡ false → Q v) (λ (v : Strided). not (freed_by ops v.base) ≡ true → Q v) (λ v f e. f (untrue _ e)) (filled k) t) ops h)

  stored_each : (Q : Strided → Type 0) → AllByRecursion (λ (k : Op). AllByRecursion Q (filled k)) ops → AllByRecursion Q (stores ops)
  stored_each Q h =
      stored_all Q
      (All_weaker (λ (k : Op). AllByRecursion Q (filled k)) (λ (k : Op). AllByRecursion (λ (v : Strided). freed_by ops v.base ≡ false → Q v) (filled k))
      (λ k t. All_weaker Q (λ (v : Strided). freed_by ops v.base ≡ false → Q v) (λ v q e. q) (filled k) t) ops h)

  -- what is stored beside a view that is known
  stored_meets : (v : Strided) → KnownTo n ops v → AllByRecursion (λ w. Meets n w v) (stores ops)
  stored_meets v k = stored_each (λ w. Meets n w v) (All_weaker (λ k. Heeds n k v) (λ k. AllByRecursion (λ w. Meets n w v) (filled k)) (λ k h. h.meets) ops k)

  stored_known : AllByRecursion (KnownTo n ops) (stores ops)
  stored_known =
      stored_each (KnownTo n ops)
      (All_weaker (λ g. AllByRecursion (KnownTo n ops) (walkings g)) (λ g. AllByRecursion (KnownTo n ops) (filled g)) (λ g h. all_left (KnownTo n ops) (filled g) (inputs g) h) ops known_views)

  apart : Pairs (Parted n) (stores ops)
  apart =
      pairs_two (λ v w. Meets n v w × Meets n w v) (λ v w. identical v w ≡ false) (Parted n) (λ v w x y i j a b base at. false≢true (sym y ∙ (x.0 i j a b base at).1)) (stores ops)
      (cross (Meets n) (stores ops) (turn (λ w v. Meets n v w) (stores ops) (stores ops) (All_weaker (KnownTo n ops) (λ w. AllByRecursion (λ v. Meets n v w) (stores ops)) stored_meets (stores ops) stored_known)))
      (distinct_apart identical (all_stores ops))

  onces_stored : AllByRecursion (Once n) (stores ops)
  onces_stored = stored_each (Once n) (All_weaker (Alone n) (λ k. AllByRecursion (Once n) (filled k)) (λ k a. a.column_once) ops alones)

  -- ---- live at the end

  stays : (ks : List Op) (live : Live) (v : Strided) → live v ≡ true → freed_by ks v.base ≡ false → live_end ks live v ≡ true
  stays [] live v on kept = on
  stays (k ∷ ks) live v on kept =
      stays ks (live_after k live) v
      (ap₂ (λ x y. not x && (list_any (λ o. identical o v) (filled k) || y)) (or_left (has (freed k) v.base) (freed_by ks v.base) kept) on ∙ or_true (list_any (λ o. identical o v) (filled k)) true refl)
      (or_right (has (freed k) v.base) (freed_by ks v.base) kept)

  self_any : (os : List Strided) → AllByRecursion (λ o. list_any (λ u. identical u o) os ≡ true) os
  self_any [] = tt
  self_any (o ∷ os) = (
    ap (λ z. z || list_any (λ u. identical u o) os) (identical_itself o),
    All_weaker (λ u. list_any (λ w. identical w u) os ≡ true) (λ u. list_any (λ w. identical w u) (o ∷ os) ≡ true) (λ u h. or_true (identical o u) _ h) os (self_any os),
  )

  outs_live : (ks : List Op) (live : Live) → AllByRecursion (λ (k : Op). AllByRecursion (λ (v : Strided). freed_by ks v.base ≡ false → live_end ks live v ≡ true) (filled k)) ks
  outs_live [] live = tt
  outs_live (k ∷ ks) live = (
    All_weaker (λ o. list_any (λ u. identical u o) (filled k) ≡ true) (λ (v : Strided). freed_by (k ∷ ks) v.base ≡ false → live_end (k ∷ ks) live v ≡ true)
        (λ v h kept. stays ks (live_after k live) v (ap₂ (λ x y. not x && (y || live v)) (or_left (has (freed k) v.base) (freed_by ks v.base) kept) h) (or_right (has (freed k) v.base) (freed_by ks v.base) kept))
        (filled k) (self_any (filled k)),
    All_weaker (λ (j : Op). AllByRecursion (λ (v : Strided). freed_by ks v.base ≡ false → live_end ks (live_after k live) v ≡ true) (filled j))
        (λ (j : Op). AllByRecursion (λ (v : Strided). freed_by (k ∷ ks) v.base ≡ false → live_end (k ∷ ks) live v ≡ true) (filled j))
        (λ j h. All_weaker (λ (v : Strided). freed_by ks v.base ≡ false → live_end ks (live_after k live) v ≡ true) (λ (v : Strided). freed_by (k ∷ ks) v.base ≡ false → live_end (k ∷ ks) live v ≡ true)
        (λ v t kept. t (or_right (has (freed k) v.base) (freed_by ks v.base) kept)) (filled j) h) ks (outs_live ks (live_after k live)),
  )

  -- ---- what is stored covers what is written in a base that stays

  covered : (x e : ℕ) → freed_by ops x ≡ false → AllByRecursion (Free x e n) (stores ops) → Quiet n x e ops
  covered x e kept free =
      All_weaker (λ (k : Op). AllByRecursion (λ (v : Strided). not (freed_by ops v.base) ≡ true → list_any (λ w. identical w v) (all_stores ops) ≡ true) (filled k))
      (λ (k : Op). AllByRecursion (λ (o : Strided). o.base ≡ x → Misses n o e) (filled k))
      (λ k h. All_weaker (λ (v : Strided). not (freed_by ops v.base) ≡ true → list_any (λ w. identical w v) (all_stores ops) ≡ true) (λ (o : Strided). o.base ≡ x → Misses n o e)
      (λ o t same q l at.
      any_all (λ w. identical w o) (Free x e n) (stores ops) (any_distinct o (all_stores ops) (t (ap not (ap (freed_by ops) same ∙ kept)))) free
      (λ w i f. f (same_base w o i ∙ same) q l (ap (λ es. get_or es q 0) (same_elements w o i) ∙ at))) (filled k) h) ops
      (in_parts (λ (v : Strided). not (freed_by ops v.base)) filled ops)

  -- ---- freed bases are not made again

  has_right : (xs ys : List ℕ) (x : ℕ) → has ys x ≡ true → has (xs ++ ys) x ≡ true
  has_right [] ys x h = h
  has_right (y ∷ xs) ys x h = or_true _ _ (has_right xs ys x h)

  ended : Pairs Ends ops
  ended =
      Pairs_weaker (λ f g. may_precede f g ≡ true) Ends
      (λ f g h x t. unmade f g h x (has_right (map (λ (v : Strided). v.base) (views f)) (freed f) x t)) ops b.order

  -- ---- room for what is stored

  opening_holds : (ks : List Op) (es : List ℕ) (x : ℕ) (c : Option Cell) → AllByRecursion (λ (f : Op). makes_base f x ≡ true → list_all (λ e. nat_lt e (count f)) es ≡ true) ks → creates ks x ≡ true
      → list_all (λ e. nat_lt e (size (outline (opening ks x c)))) es ≡ true
  opening_holds [] es x c a h = absurd (false≢true h)
  opening_holds (k ∷ ks) es x c a h =
      elim (creates ks x) as (λ z. creates ks x ≡ z → list_all (λ e. nat_lt e (size (outline (opening ks x (opened_by k x c))))) es ≡ true) [
        | true ↦ λ e. opening_holds ks es x (opened_by k x c) a.1 e
        | false ↦ λ e.
            let made : makes_base k x ≡ true = first (makes_base k x) (creates ks x) e h in
            let is : size (outline (opening ks x (opened_by k x c))) ≡ count k =
            ap (λ y. size (outline y)) (unopened ks x (opened_by k x c) e)
            ∙ ap (λ z. size (outline (cond z (Some (record { elem = k.to; numbers = replicate (count k) (pos 0) })) c))) made
            ∙ length-replicate (count k) (pos 0) in
            ap (λ z. list_all (λ e. nat_lt e z) es) is ∙ a.0 made
      ] refl
    where
      first : (p q : Bool) → q ≡ false → (p || q) ≡ true → p ≡ true
      first true q e h = refl
      first false q e h = absurd (false≢true (sym e ∙ h))

  self_made : (ks : List Op) → AllByRecursion (λ (k : Op). AllByRecursion (λ (o : Strided). k.makes ≡ true → creates ks o.base ≡ true) (outputs k)) ks
  self_made [] = tt
  self_made (k ∷ ks) = (
    All_weaker (λ (o : Strided). list_any (λ (u : Strided). u.base == o.base) (outputs k) ≡ true) (λ (o : Strided). k.makes ≡ true → creates (k ∷ ks) o.base ≡ true)
        (λ o h m. ap₂ (λ x y. (x && y) || creates ks o.base) m h) (outputs k) (self_bases (outputs k)),
    All_weaker (λ (j : Op). AllByRecursion (λ (o : Strided). j.makes ≡ true → creates ks o.base ≡ true) (outputs j)) (λ (j : Op). AllByRecursion (λ (o : Strided). j.makes ≡ true → creates (k ∷ ks) o.base ≡ true) (outputs j))
        (λ j h. All_weaker (λ (o : Strided). j.makes ≡ true → creates ks o.base ≡ true) (λ (o : Strided). j.makes ≡ true → creates (k ∷ ks) o.base ≡ true) (λ o t m. or_true _ _ (t m)) (outputs j) h) ks (self_made ks),
  )
    where
      self_bases : (os : List Strided) → AllByRecursion (λ (o : Strided). list_any (λ (u : Strided). u.base == o.base) os ≡ true) os
      self_bases [] = tt
      self_bases (o ∷ os) = (
        ap (λ z. z || list_any (λ (u : Strided). u.base == o.base) os) (eq-eqb o.base o.base refl),
        All_weaker (λ (u : Strided). list_any (λ (w : Strided). w.base == u.base) os ≡ true) (λ (u : Strided). list_any (λ (w : Strided). w.base == u.base) (o ∷ os) ≡ true) (λ u h. or_true _ _ h) os (self_bases os),
      )

  -- the views in a base that the block makes lie inside it
  inside_created : AllByRecursion (λ (k : Op). AllByRecursion (λ (v : Strided). AllByRecursion (λ (f : Op). makes_base f v.base ≡ true → list_all (λ e. nat_lt e (count f)) (elements v) ≡ true) ops) (views k)) ops
  inside_created =
      All_weaker (λ k. AllByRecursion (λ (f : Op). AllByRecursion (λ (v : Strided). makes_base f v.base ≡ true → list_all (λ e. nat_lt e (count f)) (elements v) ≡ true) (views k)) ops)
      (λ (k : Op). AllByRecursion (λ (v : Strided). AllByRecursion (λ (f : Op). makes_base f v.base ≡ true → list_all (λ e. nat_lt e (count f)) (elements v) ≡ true) ops) (views k))
      (λ k h. turn (λ (f : Op) (v : Strided). makes_base f v.base ≡ true → list_all (λ e. nat_lt e (count f)) (elements v) ≡ true) ops (views k) h) ops
      (turn (λ f k. AllByRecursion (λ (v : Strided). makes_base f v.base ≡ true → list_all (λ e. nat_lt e (count f)) (elements v) ≡ true) (views k)) ops ops
      (all_two (Alone n) (λ f. AllByRecursion (λ g. inside_made f g ≡ true) ops) (λ f. AllByRecursion (λ k. AllByRecursion (λ (v : Strided). makes_base f v.base ≡ true → list_all (λ e. nat_lt e (count f)) (elements v) ≡ true) (views k)) ops)
      (λ f a h. All_weaker (λ g. inside_made f g ≡ true) (λ k. AllByRecursion (λ (v : Strided). makes_base f v.base ≡ true → list_all (λ e. nat_lt e (count f)) (elements v) ≡ true) (views k)) (λ g t. made_inside n f g a t) ops h) ops alones b.inside))

  -- an output lies in what was opened
  abbrev Lies : Strided → Type 0
  Lies v = freed_by ops v.base ≡ false → (i : ℕ) → i < length (elements v) → place_at v i < size (outline (opened ops m v.base))

  lies_all : AllByRecursion (λ (k : Op). AllByRecursion Lies (outputs k)) ops
  lies_all =
      all_two (λ k. AllByRecursion (λ (v : Strided). AllByRecursion (λ (f : Op). makes_base f v.base ≡ true → list_all (λ e. nat_lt e (count f)) (elements v) ≡ true) ops) (views k))
      (λ (k : Op). AllByRecursion (λ (v : Strided). Spot n m ops k.makes v × (k.makes ≡ true → creates ops v.base ≡ true)) (outputs k))
      (λ (k : Op). AllByRecursion Lies (outputs k))
      (λ k x y. all_two (λ (v : Strided). AllByRecursion (λ (f : Op). makes_base f v.base ≡ true → list_all (λ e. nat_lt e (count f)) (elements v) ≡ true) ops) (λ (v : Strided). Spot n m ops k.makes v × (k.makes ≡ true → creates ops v.base ≡ true)) Lies
      (λ v p q stays i l.
      let opens : opened ops m v.base ≡ opening ops v.base (m.bases v.base) = ap (λ z. cond z (m.bases v.base) (opening ops v.base (m.bases v.base))) stays in
      let inside : list_all (λ e. nat_lt e (size (outline (opening ops v.base (m.bases v.base))))) (elements v) ≡ true =
      elim (creates ops v.base) as (λ z. creates ops v.base ≡ z → list_all (λ e. nat_lt e (size (outline (opening ops v.base (m.bases v.base))))) (elements v) ≡ true) [
        | true ↦ λ e. opening_holds ops (elements v) v.base (m.bases v.base) p e
        | false ↦ λ e.
            ap (λ c. list_all (λ e. nat_lt e (size (outline c))) (elements v)) (unopened ops v.base (m.bases v.base) e)
            ∙ other (creates ops v.base) _ e (q.0.there (unmade_by k.makes (creates ops v.base) q.1 e))
      ] refl in
      subst (λ c. place_at v i < size (outline c)) (sym opens)
      (ltb-true (place_at v i) (size (outline (opening ops v.base (m.bases v.base)))) (all_at (λ e. nat_lt e (size (outline (opening ops v.base (m.bases v.base))))) (elements v) i inside l)))
      (outputs k) (all_left (λ (v : Strided). AllByRecursion (λ (f : Op). makes_base f v.base ≡ true → list_all (λ e. nat_lt e (count f)) (elements v) ≡ true) ops) (outputs k) (inputs k) x) y) ops
      inside_created
      (all_two (λ (k : Op). AllByRecursion (Spot n m ops k.makes) (outputs k)) (λ (k : Op). AllByRecursion (λ (v : Strided). k.makes ≡ true → creates ops v.base ≡ true) (outputs k))
      (λ (k : Op). AllByRecursion (λ (v : Strided). Spot n m ops k.makes v × (k.makes ≡ true → creates ops v.base ≡ true)) (outputs k))
      (λ k x y. all_two (Spot n m ops k.makes) (λ (v : Strided). k.makes ≡ true → creates ops v.base ≡ true) (λ (v : Strided). Spot n m ops k.makes v × (k.makes ≡ true → creates ops v.base ≡ true)) (λ v p q. (p, q)) (outputs k) x y) ops spots (self_made ops))
    where
      unmade_by : (p q : Bool) → (p ≡ true → q ≡ true) → q ≡ false → p ≡ false
      unmade_by true q f e = absurd (false≢true (sym e ∙ f refl))
      unmade_by false q f e = refl

      other : (p q : Bool) → p ≡ false → (p || q) ≡ true → q ≡ true
      other true q e h = absurd (false≢true (sym e))
      other false q e h = h

  roomy : AllByRecursion (λ (v : Strided). (i : ℕ) → i < n → place_at v i < size (outline (opened ops m v.base))) (stores ops)
  roomy =
      stored_all (λ (v : Strided). (i : ℕ) → i < n → place_at v i < size (outline (opened ops m v.base)))
      (all_two (λ (k : Op). AllByRecursion Lies (outputs k)) (Alone n) (λ (k : Op). AllByRecursion (λ (v : Strided). freed_by ops v.base ≡ false → (i : ℕ) → i < n → place_at v i < size (outline (opened ops m v.base))) (filled k))
      (λ k x a. all_two Lies (λ (v : Strided). length (elements v) ≡ n) (λ (v : Strided). freed_by ops v.base ≡ false → (i : ℕ) → i < n → place_at v i < size (outline (opened ops m v.base)))
      (λ v f long stays i l. let is : length (elements v) ≡ n = long in f stays i (omega arith)) (filled k) (outs_filled Lies k x) (all_left (λ (v : Strided). length (elements v) ≡ n) (filled k) (inputs k) a.longs)) ops lies_all alones)

  -- results of reductions keep out of what is stored
  stored_clear : AllByRecursion (λ v. AllByRecursion (λ (op : Op). AllByRecursion (λ o. Clear n o v) (fold_outs op)) ops) (stores ops)
  stored_clear =
      All_weaker (KnownTo n ops) (λ v. AllByRecursion (λ (op : Op). AllByRecursion (λ o. Clear n o v) (fold_outs op)) ops)
      (λ v k. All_weaker (λ op. Heeds n op v) (λ (op : Op). AllByRecursion (λ o. Clear n o v) (fold_outs op)) (λ op h. h.clear) ops k) (stores ops) stored_known

  -- ---- a column comes from its own position

  row_same : (out : Option Strided) (x y : ℤ) (r s : Strided → ℤ) → AllByRecursion (λ (o : Strided). x ≡ y) (option_to_list out) → r ≡ s → assigned out x r ≡ assigned out y s
  row_same None x y r s e d = λ i v. d i v
  row_same (Some o) x y r s e d = ap₂ (λ z k. assigned (Some o) z k) e.0 d

  pub next_same : (op : Op) (h g : Columns) (j : ℕ) → j < n → Alone n op → ((q : ℕ) → q ≤ j → h q ≡ g q) → next op h j ≡ next op g j
  next_same op h g j l a e =
      row_same (fills op) (column op h j) (column op g j) (h j) (g j)
      (All_weaker (λ (o : Strided). Columnar n op) (λ (o : Strided). column op h j ≡ column op g j) (λ o c. c.local h g j l e) (filled op) a.suited.columnar) (e j (omega arith))

  local : (ks : List Op) → AllByRecursion (Alone n) ks → (h g : Columns) (i : ℕ) → i < n → ((j : ℕ) → j ≤ i → h j ≡ g j) → ends ks h i ≡ ends ks g i
  local [] a h g i l e = e i (omega arith)
  local (k ∷ ks) a h g i l e = local ks a.1 (next k h) (next k g) i l (λ j u. next_same k h g j (omega arith) a.0 (λ q v. e q (omega arith)))

  -- ---- the premises of the law

  pub orderly : Orderly n ops (reads ops) (stores ops) (opened ops m)
  orderly =
      record {
        apart = apart;
        once = onces_stored;
        inside = roomy;
        unread = λ v on.
            All_weaker (λ w. Meets n w v) (λ (w : Strided). (i j : ℕ) → i < n → j < n → w.base ≡ v.base → place_at w i ≡ place_at v j → i ≡ j) (λ w h i j a c base at. (h i j a c base at).0) (stores ops) (stored_meets v (loaded_known v on).0);
        local = λ h g i l e. local ops alones h g i l e;
      }

  pub prepares : Prepares n ops (reads ops) (stores ops) m
  prepares =
      record {
        runs = runs;
        ended = ended;
        outside = λ v on. (loaded_known v on).1;
        absent = λ x e. created_absent m x ops ops fit e;
        live = stored_all (λ v. live_end ops (loaded (reads ops)) v ≡ true) (outs_live ops (loaded (reads ops)));
        covered = covered;
        room = All_weaker (λ (k : Op). AllByRecursion Lies (outputs k)) (λ (k : Op). AllByRecursion Lies (fold_outs k)) (λ k h. outs_folded Lies k h) ops lies_all;
        clear = stored_clear;
      }

  pub all_print : AllByRecursion (λ op. (k : ℕ) → op.slot ≡ Some k → Prints op) ops
  all_print = All_weaker (Alone n) (λ op. (k : ℕ) → op.slot ≡ Some k → Prints op) (λ op a. a.prints) ops alones
