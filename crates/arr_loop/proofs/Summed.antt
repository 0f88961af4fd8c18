-- The results of reductions, written one after another.
use Rattle.std.proofs.Common.{◌≡◌, ℕ, zero, suc, ◌+◌, ◌-◌, ◌*◌, ◌<◌, ◌≤◌, ◌^◌, ℤ, pos, List, [], ◌∷◌, ◌++◌, Bool, true, false, cond, not, ◌&&◌, Option, Some, None, length, map, get_or, take, drop, refl, ap, ap₂, sym, subst, ◌∙◌, drop-cons, arith}
use Rattle.std.specs.List.{AllByRecursion, filter, flat_map, list_all, range_with_len}
use Rattle.std.specs.Option.{option_to_list}
use Rattle.std.proofs.lemmas.List.{drop_all, ext_get_or, get_or-drop, get_or-take, length-drop, length-take-le}
use Rattle.std.proofs.lemmas.List.FromFn.{get_or-map-range_with_len, length-map-range_with_len}
use Rattle.arr_num.specs.declared.elem.Elem.{Elem}
use Rattle.arr_num.specs.Kinds.{is_reduction}
use Rattle.arr_num.specs.Numbers.{in_type, width}
use Rattle.arr_view.specs.Strided.{Strided}
use Rattle.arr_view.specs.Views.{elements, positions}
use Rattle.arr_ops.specs.declared.op.Op.{Op}
use Rattle.arr_ops.specs.Costs.{elem_of, total, weight}
use Rattle.arr_ops.specs.Formed.{well_formed}
use Rattle.arr_ops.specs.Memory.{Cell, out_lengths}
use Rattle.arr_ops.specs.Ops.{freed_by}
use Rattle.arr_ops.specs.Traffic.{kept_for, scratch}
use Rattle.arr_ops.proofs.Spots.{all_left, all_right}
use Rattle.arr_ops.proofs.Tests.{all_of}
use Rattle.arr_store.specs.Cells.{takes, width_at}
use Rattle.arr_store.specs.Runs.{IsOf}
use Rattle.arr_store.specs.Stored.{Stored, cells}
use Rattle.arr_strips.specs.Blocks.{fold_stores}
use Rattle.arr_strips.specs.Columns.{count, folds_to}
use Rattle.arr_strips.specs.Strips.{Bases, kept, outline, put_at, put_out}
use Rattle.arr_strips.specs.Sums.{closed_by}
use Rattle.arr_strips.proofs.Cells.{outline-put}
use Rattle.arr_contract.specs.Prepared.{may_share_block}
use Rattle.arr_machine.specs.Kept.{TypedKept, kept_from}
use Rattle.arr_machine.specs.Ports.{IsThere}
use Rattle.arr_machine.proofs.Blocks.{all_get, kept_inside, same_item, sums_room}
use Rattle.arr_machine.proofs.Saves.{there_alike}
use Rattle.arr_loop.specs.Sums.{sum_kept, sum_views}
use Rattle.arr_loop.proofs.Shares.{all_typed, all_well}
use Rattle.arr_loop.proofs.There.{ViewTypes, view_types, width_of}

-- ---- what is written for an operation

-- nothing
pub record NoSum (ops : List Op) (op : Op) : Type 0 where
  pub views : sum_views ops op ≡ []
  pub out : kept ops (folds_to op) ≡ None

-- the results of a reduction, to one view
pub record OneSum (ops : List Op) (op : Op) (o : Strided) : Type 0 where
  pub views : sum_views ops op ≡ o ∷ []
  pub out : kept ops (folds_to op) ≡ Some o

module _ (ops : List Op) (op : Op) where
  abbrev stays : Strided → Bool
  stays v = not (freed_by ops v.base)

  pub folds_not : is_reduction op.code ≡ false → NoSum ops op
  folds_not e = record { views = ap (λ z. filter stays (option_to_list (cond z op.out None))) e; out = ap (λ z. kept ops (cond z op.out None)) e }

  pub writes_not : op.out ≡ None → NoSum ops op
  writes_not e =
      record {
        views = ap (λ x. filter stays (option_to_list (cond (is_reduction op.code) x None))) e ∙ no_view (is_reduction op.code);
        out = ap (λ x. kept ops (cond (is_reduction op.code) x None)) e ∙ no_out (is_reduction op.code);
      }
    where
      no_view : (z : Bool) → filter stays (option_to_list (cond z None None)) ≡ []
      no_view true = refl
      no_view false = refl

      no_out : (z : Bool) → kept ops (cond z None None) ≡ None
      no_out true = refl
      no_out false = refl

  module _ (o : Strided) (red : is_reduction op.code ≡ true) (out : op.out ≡ Some o) where
    views_at : sum_views ops op ≡ cond (stays o) (o ∷ []) []
    views_at = ap (λ z. filter stays (option_to_list (cond z op.out None))) red ∙ ap (λ x. filter stays (option_to_list x)) out

    out_at : kept ops (folds_to op) ≡ cond (freed_by ops o.base) None (Some o)
    out_at = ap (λ z. kept ops (cond z op.out None)) red ∙ ap (kept ops) out

    pub keeps_not : freed_by ops o.base ≡ true → NoSum ops op
    keeps_not e = record { views = views_at ∙ ap (λ z. cond (not z) (o ∷ []) []) e; out = out_at ∙ ap (λ z. cond z None (Some o)) e }

    pub keeps_one : freed_by ops o.base ≡ false → OneSum ops op o
    keeps_one e = record { views = views_at ∙ ap (λ z. cond (not z) (o ∷ []) []) e; out = out_at ∙ ap (λ z. cond z None (Some o)) e }

pub none_put : (ops : List Op) (op : Op) (xs : List ℤ) (f : Bases) → NoSum ops op → f ≡ put_out (kept ops (folds_to op)) xs f
none_put ops op xs f n = sym (ap (λ x. put_out x xs f) n.out)

pub none_stored : (ops : List Op) (op : Op) (s : ℕ) → NoSum ops op → s ≡ s + total (weight ops) (sum_views ops op)
none_stored ops op s n = let none : total (weight ops) (sum_views ops op) ≡ 0 = ap (total (weight ops)) n.views in omega arith

-- ---- the results of one reduction

all_test : (p : ℤ → Bool) (xs : List ℤ) → ((i : ℕ) → i < length xs → p (get_or xs i (pos 0)) ≡ true) → list_all p xs ≡ true
all_test p [] h = refl
all_test p (x ∷ xs) h = ap₂ (λ a b. a && b) (h 0 (omega arith)) (all_test p xs (λ i l. h (suc i) (omega arith)))

takes_of : (t : Elem) (c : Option Cell) (z : ℤ) → IsOf t c → in_type t z ≡ true → takes c z ≡ true
takes_of t None z h e = absurd h
takes_of t (Some c) z h e = ap (λ u. in_type u z) (sym h) ∙ e

module _ (ops : List Op) (xs : List ℤ) (place : ℕ) (op : Op) (o : Strided) (l : place < length ops) (e : op ≡ get_or ops place op) (red : is_reduction op.code ≡ true) (out : op.out ≡ Some o)
    (share : may_share_block ops ≡ true) (long : length xs ≡ scratch ops) where
  size : count op ≡ positions o.lengths
  size = ap (λ x. positions (out_lengths x)) out

  few : count op ≤ kept_for op
  few = sums_room op (all_get (λ f. well_formed f ≡ true) ops place op l e (all_of well_formed ops (all_well ops share))) red

  pub sum_room : kept_from ops place + positions o.lengths ≤ length xs
  sum_room =
      let a : kept_from ops place + kept_for op ≤ scratch ops = kept_inside ops place op l e in
      let b : count op ≤ kept_for op = few in
      let c : count op ≡ positions o.lengths = size in
      omega arith

  taken_long : length (take (positions o.lengths) (drop (kept_from ops place) xs)) ≡ positions o.lengths
  taken_long =
      let a : kept_from ops place + positions o.lengths ≤ length xs = sum_room in
      let b : length (drop (kept_from ops place) xs) ≡ length xs - kept_from ops place = length-drop (kept_from ops place) xs in
      length-take-le (positions o.lengths) (drop (kept_from ops place) xs) (omega arith)

  taken_at : (i : ℕ) → i < positions o.lengths → get_or (take (positions o.lengths) (drop (kept_from ops place) xs)) i (pos 0) ≡ sum_kept ops xs place i
  taken_at i u = get_or-take (positions o.lengths) (drop (kept_from ops place) xs) i (pos 0) u ∙ get_or-drop (kept_from ops place) xs i (pos 0)

  sums_are : take (positions o.lengths) (drop (kept_from ops place) xs) ≡ map (sum_kept ops xs place) (range_with_len 0 (count op))
  sums_are =
      ext_get_or (pos 0) (take (positions o.lengths) (drop (kept_from ops place) xs)) (map (sum_kept ops xs place) (range_with_len 0 (count op)))
      (taken_long ∙ sym size ∙ sym (length-map-range_with_len (sum_kept ops xs place) 0 (count op)))
      (λ i u.
      let a : length (take (positions o.lengths) (drop (kept_from ops place) xs)) ≡ positions o.lengths = taken_long in
      let b : count op ≡ positions o.lengths = size in
      taken_at i (omega arith) ∙ sym (get_or-map-range_with_len (sum_kept ops xs place) 0 (count op) i i (pos 0) (omega arith) (omega arith)))

  type_is : elem_of ops o.base ≡ op.to
  type_is =
      let types : ViewTypes ops op = all_get (ViewTypes ops) ops place op l e (view_types ops (all_typed ops share)) in
      (subst (λ x. AllByRecursion (λ (v : Strided). elem_of ops v.base ≡ op.to) (option_to_list x)) out types.outs).0

  pub sum_typed : (c : Option Cell) → IsOf (elem_of ops o.base) c → TypedKept ops xs → list_all (takes c) (take (positions o.lengths) (drop (kept_from ops place) xs)) ≡ true
  sum_typed c t typed =
      all_test (takes c) (take (positions o.lengths) (drop (kept_from ops place) xs))
      (λ i u.
      let a : length (take (positions o.lengths) (drop (kept_from ops place) xs)) ≡ positions o.lengths = taken_long in
      let b : count op ≡ positions o.lengths = size in
      let k : count op ≤ kept_for op = few in
      ap (takes c) (taken_at i (omega arith)) ∙ takes_of op.to c (sum_kept ops xs place i) (subst (λ u. IsOf u c) type_is t) (typed place op l e i (omega arith)))

  -- once they are written
  pub one_put : OneSum ops op o → (f now : Bases) → now ≡ put_at o.base (elements o) (take (positions o.lengths) (drop (kept_from ops place) xs)) f
      → now ≡ put_out (kept ops (folds_to op)) (map (sum_kept ops xs place) (range_with_len 0 (count op))) f
  one_put one f now is =
      is ∙ ap (λ ys. put_at o.base (elements o) ys f) sums_are ∙ sym (ap (λ x. put_out x (map (sum_kept ops xs place) (range_with_len 0 (count op))) f) one.out)

  pub one_stored : OneSum ops op o → (f : Bases) (s t : ℕ) → IsOf (elem_of ops o.base) (f o.base) → t ≡ s + positions o.lengths * width_at (f o.base) → t ≡ s + total (weight ops) (sum_views ops op)
  one_stored one f s t typed is =
      let bytes : positions o.lengths * width_at (f o.base) ≡ positions o.lengths * width (elem_of ops o.base) = ap (λ n. positions o.lengths * n) (width_of (elem_of ops o.base) (f o.base) typed) in
      let all : total (weight ops) (sum_views ops op) ≡ positions o.lengths * width (elem_of ops o.base) + 0 = ap (total (weight ops)) one.views in
      omega arith

pub all_reductions : (ops : List Op) (place : ℕ) (op : Op) → place < length ops → op ≡ get_or ops place op → is_reduction op.code ≡ true → (f : Op) → f ≡ get_or ops place f → is_reduction f.code ≡ true
all_reductions ops place op l e red f ef = ap (λ (g : Op). is_reduction g.code) (same_item ops place f op l ef e) ∙ red

pub one_there : (ops : List Op) (op : Op) (o : Strided) (f : Bases) → OneSum ops op o → AllByRecursion (IsThere ops f) (sum_views ops op) → IsThere ops f o
one_there ops op o f one h = (subst (AllByRecursion (IsThere ops f)) one.views h).0

-- ---- one after another

outline_out : (x : Option Strided) (ys : List ℤ) (f : Bases) (b : ℕ) → outline (put_out x ys f b) ≡ outline (f b)
outline_out None ys f b = refl
outline_out (Some o) ys f b = outline-put o.base (elements o) ys f b

outline_closed : (all : List Op) (k : ℕ) (ops : List Op) (sums : ℕ → ℕ → ℤ) (f : Bases) (b : ℕ) → outline (closed_by all k ops sums f b) ≡ outline (f b)
outline_closed all k [] sums f b = refl
outline_closed all k (op ∷ ops) sums f b =
    outline_closed all (suc k) ops sums (put_out (kept all (folds_to op)) (map (sums k) (range_with_len 0 (count op))) f) b
    ∙ outline_out (kept all (folds_to op)) (map (sums k) (range_with_len 0 (count op))) f b

-- bases whose type and length are kept
pub sums_keep : (ops : List Op) (xs : List ℤ) (old now new : Bases) → new ≡ closed_by ops 0 ops (sum_kept ops xs) now → ((b : ℕ) → outline (now b) ≡ outline (old b)) → (b : ℕ) → outline (new b) ≡ outline (old b)
sums_keep ops xs old now new is same b = ap (λ (f : Bases). outline (f b)) is ∙ outline_closed ops 0 ops (sum_kept ops xs) now b ∙ same b

total_joined : (w : Strided → ℕ) (xs ys : List Strided) → total w (xs ++ ys) ≡ total w xs + total w ys
total_joined w [] ys = omega arith
total_joined w (x ∷ xs) ys = let rest : total w (xs ++ ys) ≡ total w xs + total w ys = total_joined w xs ys in omega arith

-- the results of the first k operations are written
pub record Summed (ops : List Op) (xs : List ℤ) (k : ℕ) (old now : Stored) : Type 0 where
  pub rest : closed_by ops k (drop k ops) (sum_kept ops xs) (cells now) ≡ closed_by ops 0 ops (sum_kept ops xs) (cells old)
  pub same : (b : ℕ) → outline (cells now b) ≡ outline (cells old b)
  pub left : now.stores + total (weight ops) (flat_map (sum_views ops) (drop k ops)) ≡ old.stores + total (weight ops) (fold_stores ops)
  pub loads : now.loads ≡ old.loads
  pub made : now.made ≡ old.made

pub summed_none : (ops : List Op) (xs : List ℤ) (old : Stored) → Summed ops xs 0 old old
summed_none ops xs old = record { rest = refl; same = λ b. refl; left = refl; loads = refl; made = refl }

cut_at : (ops : List Op) (k : ℕ) (op : Op) → k < length ops → op ≡ get_or ops k op → drop k ops ≡ op ∷ drop (k + 1) ops
cut_at ops k op l e = drop-cons ops k op l ∙ ap₂ (λ x n. x ∷ drop n ops) (sym e) (let z : suc k ≡ k + 1 = omega arith in z)

-- what is written next
pub next_there : (ops : List Op) (xs : List ℤ) (k : ℕ) (op : Op) (old now : Stored) → k < length ops → op ≡ get_or ops k op → Summed ops xs k old now → AllByRecursion (IsThere ops (cells old)) (fold_stores ops)
    → AllByRecursion (IsThere ops (cells now)) (sum_views ops op)
next_there ops xs k op old now l e s there =
    all_left (IsThere ops (cells now)) (sum_views ops op) (flat_map (sum_views ops) (drop (k + 1) ops))
    (subst (λ ks. AllByRecursion (IsThere ops (cells now)) (flat_map (sum_views ops) ks)) (cut_at ops k op l e)
    (behind k ops (Rattle.arr_ops.proofs.Pairs.All_weaker (IsThere ops (cells old)) (IsThere ops (cells now)) (λ v h. there_alike ops (cells old) (cells now) v (s.same v.base) h) (fold_stores ops) there)))
  where
    behind : (n : ℕ) (ks : List Op) → AllByRecursion (IsThere ops (cells now)) (flat_map (sum_views ops) ks) → AllByRecursion (IsThere ops (cells now)) (flat_map (sum_views ops) (drop n ks))
    behind zero ks h = h
    behind (suc n) [] h = tt
    behind (suc n) (k ∷ ks) h = behind n ks (all_right (IsThere ops (cells now)) (sum_views ops k) (flat_map (sum_views ops) ks) h)

pub next_room : (ops : List Op) (xs : List ℤ) (k : ℕ) (old now : Stored) → Summed ops xs k old now → old.stores + total (weight ops) (fold_stores ops) < 2 ^ 62 → now.stores < 2 ^ 62
next_room ops xs k old now s room = let a : now.stores + total (weight ops) (flat_map (sum_views ops) (drop k ops)) ≡ old.stores + total (weight ops) (fold_stores ops) = s.left in omega arith

pub summed_more : (ops : List Op) (xs : List ℤ) (k : ℕ) (op : Op) (old now new : Stored) → k < length ops → op ≡ get_or ops k op
    → cells new ≡ put_out (kept ops (folds_to op)) (map (sum_kept ops xs k) (range_with_len 0 (count op))) (cells now) → new.stores ≡ now.stores + total (weight ops) (sum_views ops op)
    → new.loads ≡ now.loads → new.made ≡ now.made → Summed ops xs k old now → Summed ops xs (k + 1) old new
summed_more ops xs k op old now new l e put bytes loads made s =
    let cut : drop k ops ≡ op ∷ drop (k + 1) ops = cut_at ops k op l e in
    let one : suc k ≡ k + 1 = omega arith in
    let next : Bases = put_out (kept ops (folds_to op)) (map (sum_kept ops xs k) (range_with_len 0 (count op))) (cells now) in
    let owed : total (weight ops) (flat_map (sum_views ops) (drop k ops)) ≡ total (weight ops) (sum_views ops op) + total (weight ops) (flat_map (sum_views ops) (drop (k + 1) ops)) =
    ap (λ ks. total (weight ops) (flat_map (sum_views ops) ks)) cut ∙ total_joined (weight ops) (sum_views ops op) (flat_map (sum_views ops) (drop (k + 1) ops)) in
    let before : now.stores + total (weight ops) (flat_map (sum_views ops) (drop k ops)) ≡ old.stores + total (weight ops) (fold_stores ops) = s.left in
    record {
      rest = ap (closed_by ops (k + 1) (drop (k + 1) ops) (sum_kept ops xs)) put ∙ ap (λ n. closed_by ops n (drop (k + 1) ops) (sum_kept ops xs) next) (sym one)
          ∙ ap (λ ks. closed_by ops k ks (sum_kept ops xs) (cells now)) (sym cut) ∙ s.rest;
      same = λ b. ap (λ (f : Bases). outline (f b)) put ∙ outline_out (kept ops (folds_to op)) (map (sum_kept ops xs k) (range_with_len 0 (count op))) (cells now) b ∙ s.same b;
      left = omega arith;
      loads = loads ∙ s.loads;
      made = made ∙ s.made;
    }

-- all are written
pub record AllSummed (ops : List Op) (xs : List ℤ) (old now : Stored) : Type 0 where
  pub bases : cells now ≡ closed_by ops 0 ops (sum_kept ops xs) (cells old)
  pub stores : now.stores ≡ old.stores + total (weight ops) (fold_stores ops)

pub summed_all : (ops : List Op) (xs : List ℤ) (k : ℕ) (old now : Stored) → length ops ≤ k → Summed ops xs k old now → AllSummed ops xs old now
summed_all ops xs k old now l s =
    let none : drop k ops ≡ [] = drop_all k ops l in
    let left : now.stores + total (weight ops) (flat_map (sum_views ops) (drop k ops)) ≡ old.stores + total (weight ops) (fold_stores ops) = s.left in
    let nothing : total (weight ops) (flat_map (sum_views ops) (drop k ops)) ≡ 0 = ap (λ ks. total (weight ops) (flat_map (sum_views ops) ks)) none in
    record { bases = ap (λ ks. closed_by ops k ks (sum_kept ops xs) (cells now)) (sym none) ∙ s.rest; stores = omega arith }
