-- What an opened block loads and stores is there.
use Rattle.std.proofs.Common.{◌≡◌, ℕ, suc, ◌+◌, ◌<◌, pos, List, [], ◌∷◌, ◌++◌, Bool, true, false, cond, not, ◌||◌, ◌&&◌, Option, Some, None, length, map, get_or, replicate, refl, ap, ap₂, sym, subst, ◌∙◌, arith}
use Rattle.std.specs.Prelude.{◌==◌}
use Rattle.std.specs.List.{AllByRecursion, filter, list_all}
use Rattle.std.proofs.lemmas.Bool.{eqb-true, false≢true, lt-ltb}
use Rattle.arr_num.specs.declared.elem.Elem.{Elem}
use Rattle.arr_num.specs.Numbers.{in_type, width}
use Rattle.arr_view.specs.Strided.{Strided}
use Rattle.arr_view.specs.Views.{elements, identical}
use Rattle.arr_ops.specs.declared.op.Op.{Op}
use Rattle.arr_ops.specs.Costs.{all_reads, elem_of, reads, total}
use Rattle.arr_ops.specs.Fits.{Need, fits, meets_need, needs, op_fits}
use Rattle.arr_ops.specs.Formed.{each_typed, same_elem, typed}
use Rattle.arr_ops.specs.Memory.{Cell, Memory}
use Rattle.arr_ops.specs.Ops.{creates, freed, freed_by, inputs, makes_base, outputs}
use Rattle.arr_ops.proofs.Pairs.{All_filter, All_weaker}
use Rattle.arr_ops.proofs.Spots.{all_left, all_mapped, all_right, all_two, same_elem_is}
use Rattle.arr_ops.proofs.Tests.{all_of, both_left, both_right}
use Rattle.arr_picks.specs.Picks.{AllBelow}
use Rattle.arr_store.specs.Cells.{size_at, width_at}
use Rattle.arr_store.specs.Runs.{IsOf}
use Rattle.arr_strips.specs.Blocks.{all_stores, block_positions, fold_stores, stores}
use Rattle.arr_strips.specs.Columns.{count, filled, fold_outs, opened, opened_by, opening, place_at}
use Rattle.arr_strips.specs.Laws.{widths}
use Rattle.arr_strips.specs.Strips.{outline, size}
use Rattle.arr_strips.proofs.Blocks.{Block, alones, orderly, prepares}
use Rattle.arr_strips.proofs.Eager.{outs_filled, outs_folded}
use Rattle.arr_strips.proofs.Fused.{unopened}
use Rattle.arr_strips.proofs.Sames.{all_distinct, all_flat_map, any_all, untrue}
use Rattle.arr_strips.proofs.Stages.{Alone}
use Rattle.arr_machine.specs.Ports.{IsThere}
use Rattle.arr_machine.proofs.Types.{types_there}

-- ---- cells

pub need_there : (c : Option Cell) (n : Need) → meets_need c n ≡ true → IsOf n.elem c × AllBelow (size_at c) n.places
need_there None n h = absurd (false≢true h)
need_there (Some c) n h = (
  sym (same_elem_is c.elem n.elem (both_left (same_elem c.elem n.elem) _ h)),
  both_right (list_all (in_type c.elem) c.numbers) _ (both_right (same_elem c.elem n.elem) _ h),
)

size_seen : (c : Option Cell) → size (outline c) ≡ size_at c
size_seen None = refl
size_seen (Some c) = refl

pub width_of : (t : Elem) (c : Option Cell) → IsOf t c → width_at c ≡ width t
width_of t None h = absurd h
width_of t (Some c) h = ap width (sym h)

all_below : (n : ℕ) (es : List ℕ) → ((i : ℕ) → i < length es → get_or es i 0 < n) → AllBelow n es
all_below n [] h = refl
all_below n (e ∷ es) h = ap₂ (λ a b. a && b) (lt-ltb e n (h 0 (omega arith))) (all_below n es (λ i l. h (suc i) (omega arith)))

-- the bytes of one number for each view
pub widths_there : (ops : List Op) (f : ℕ → Option Cell) (vs : List Strided) → AllByRecursion (IsThere ops f) vs → total (λ (v : Strided). width_at (f v.base)) vs ≡ widths ops vs
widths_there ops f [] h = refl
widths_there ops f (v ∷ vs) h = ap₂ (λ a b. a + b) (width_of (elem_of ops v.base) (f v.base) h.0.typed) (widths_there ops f vs h.1)

-- ---- the type of an opened base

opening_type : (t : Elem) (ks : List Op) (b : ℕ) (c : Option Cell) → AllByRecursion (λ (f : Op). makes_base f b ≡ true → t ≡ f.to) ks → (creates ks b ≡ false → IsOf t c) → IsOf t (opening ks b c)
opening_type t [] b c made h = h refl
opening_type t (f ∷ ks) b c made h =
    opening_type t ks b (opened_by f b c) made.1
    (λ none. elim (makes_base f b) as (λ z. makes_base f b ≡ z → IsOf t (cond z (Some (record { elem = f.to; numbers = replicate (count f) (pos 0) })) c)) [
      | true ↦ λ e. made.0 e
      | false ↦ λ e. h (ap (λ z. z || creates ks b) e ∙ none)
    ] refl)

-- the views of an operation are of its types
pub record ViewTypes (ops : List Op) (op : Op) : Type 0 where
  pub outs : AllByRecursion (λ (v : Strided). elem_of ops v.base ≡ op.to) (outputs op)
  pub ins : AllByRecursion (λ (v : Strided). elem_of ops v.base ≡ op.from) (inputs op)

pub view_types : (ops : List Op) → each_typed ops ≡ true → AllByRecursion (ViewTypes ops) ops
view_types ops h = All_weaker (λ f. AllByRecursion (λ (p : ℕ × Elem). elem_of ops p.0 ≡ p.1) (typed f)) (ViewTypes ops) of_op ops (types_there ops h)
  where
    of_op : (op : Op) → AllByRecursion (λ (p : ℕ × Elem). elem_of ops p.0 ≡ p.1) (typed op) → ViewTypes ops op
    of_op op all =
        let P : ℕ × Elem → Type 0 = λ p. elem_of ops p.0 ≡ p.1 in
        let outs : List (ℕ × Elem) = map (λ (v : Strided). (v.base, op.to)) (outputs op) in
        let ins : List (ℕ × Elem) = map (λ (v : Strided). (v.base, op.from)) (inputs op) in
        let views : AllByRecursion P (outs ++ ins) = all_left P (outs ++ ins) (map (λ b. (b, op.to)) (freed op)) all in
        record {
          outs = all_mapped P (λ (v : Strided). (v.base, op.to)) (outputs op) (all_left P outs ins views);
          ins = all_mapped P (λ (v : Strided). (v.base, op.from)) (inputs op) (all_right P outs ins views);
        }

made_types : (ops : List Op) → each_typed ops ≡ true → (b : ℕ) → AllByRecursion (λ (f : Op). makes_base f b ≡ true → elem_of ops b ≡ f.to) ops
made_types ops h b =
    All_weaker (ViewTypes ops) (λ (f : Op). makes_base f b ≡ true → elem_of ops b ≡ f.to)
    (λ f t e. any_all (λ (o : Strided). o.base == b) (λ (o : Strided). elem_of ops o.base ≡ f.to) (outputs f) (both_right f.makes _ e) t.outs
    (λ o same is. ap (elem_of ops) (sym (eqb-true o.base b same)) ∙ is)) ops (view_types ops h)

-- ---- a view whose base the block does not create

abbrev Met : List Op → Memory → Elem → Strided → Type 0
Met ops m t v = creates ops v.base ≡ false → IsOf t (m.bases v.base) × AllBelow (size_at (m.bases v.base)) (elements v)

record ViewsMet (ops : List Op) (m : Memory) (op : Op) : Type 0 where
  outs : AllByRecursion (Met ops m op.to) (outputs op)
  ins : AllByRecursion (Met ops m op.from) (inputs op)

met : (ops : List Op) (m : Memory) (t : Elem) (v : Strided) → (creates ops v.base || meets_need (m.bases v.base) (record { base = v.base; elem = t; places = elements v })) ≡ true → Met ops m t v
met ops m t v e none =
    need_there (m.bases v.base) (record { base = v.base; elem = t; places = elements v }) (ap (λ z. z || meets_need (m.bases v.base) (record { base = v.base; elem = t; places = elements v })) (sym none) ∙ e)

views_met : (ops : List Op) (m : Memory) (op : Op) → op_fits m ops op ≡ true → ViewsMet ops m op
views_met ops m op h =
    let P : Need → Type 0 = λ (n : Need). (creates ops n.base || meets_need (m.bases n.base) n) ≡ true in
    let need : Elem → Strided → Need = λ t (v : Strided). record { base = v.base; elem = t; places = elements v } in
    let outs : List Need = map (λ (v : Strided). record { base = v.base; elem = op.to; places = elements v }) (outputs op) in
    let ins : List Need = map (λ (v : Strided). record { base = v.base; elem = op.from; places = elements v }) (inputs op) in
    let views : AllByRecursion P (outs ++ ins) =
    all_left P (outs ++ ins) (map (λ b. record { base = b; elem = op.to; places = [] }) (freed op))
    (all_of (λ (n : Need). creates ops n.base || meets_need (m.bases n.base) n) (needs op) (both_left (list_all (λ (n : Need). creates ops n.base || meets_need (m.bases n.base) n) (needs op)) _ h)) in
    record {
      outs = All_weaker (λ v. P (need op.to v)) (Met ops m op.to) (met ops m op.to) (outputs op) (all_mapped P (need op.to) (outputs op) (all_left P outs ins views));
      ins = All_weaker (λ v. P (need op.from v)) (Met ops m op.from) (met ops m op.from) (inputs op) (all_mapped P (need op.from) (inputs op) (all_right P outs ins views));
    }

-- ---- what the walk loads and stores

module _ (ops : List Op) (m : Memory) (types : each_typed ops ≡ true) (fit : fits m ops ≡ true) where
  each_met : AllByRecursion (ViewsMet ops m) ops
  each_met = All_weaker (λ op. op_fits m ops op ≡ true) (ViewsMet ops m) (views_met ops m) ops (all_of (op_fits m ops) ops fit)

  -- a base that is not created is as it was
  as_before : (b : ℕ) → creates ops b ≡ false → opened ops m b ≡ m.bases b
  as_before b none = either (freed_by ops b) (unopened ops b (m.bases b) none)
    where
      either : {c : Option Cell} (z : Bool) → c ≡ m.bases b → cond z (m.bases b) c ≡ m.bases b
      either true e = refl
      either false e = e

  read_there : (op : Op) → ViewTypes ops op → ViewsMet ops m op → AllByRecursion (IsThere ops (opened ops m)) (filter (λ (v : Strided). not (creates ops v.base)) (inputs op))
  read_there op t met =
      All_filter (IsThere ops (opened ops m)) (λ (v : Strided). not (creates ops v.base)) (inputs op)
      (all_two (λ (v : Strided). elem_of ops v.base ≡ op.from) (Met ops m op.from) (λ (v : Strided). not (creates ops v.base) ≡ true → IsThere ops (opened ops m) v)
      (λ v is f e.
      let none : creates ops v.base ≡ false = untrue (creates ops v.base) e in
      let same : m.bases v.base ≡ opened ops m v.base = sym (as_before v.base none) in
      record {
        typed = subst (λ c. IsOf (elem_of ops v.base) c) same (subst (λ u. IsOf u (m.bases v.base)) (sym is) (f none).0);
        inside = subst (λ c. AllBelow (size_at c) (elements v)) same (f none).1;
      }) (inputs op) t.ins met.ins)

  pub reads_there : AllByRecursion (IsThere ops (opened ops m)) (reads ops)
  reads_there =
      all_distinct identical (IsThere ops (opened ops m)) (all_reads ops)
      (all_flat_map (IsThere ops (opened ops m)) (λ (op : Op). filter (λ (v : Strided). not (creates ops v.base)) (inputs op)) ops
      (all_two (ViewTypes ops) (ViewsMet ops m) (λ (op : Op). AllByRecursion (IsThere ops (opened ops m)) (filter (λ (v : Strided). not (creates ops v.base)) (inputs op))) read_there ops (view_types ops types) each_met))

  -- the type of what is written, in a base that the block does not free
  abbrev OfType : Strided → Type 0
  OfType v = freed_by ops v.base ≡ false → IsOf (elem_of ops v.base) (opened ops m v.base)

  outs_typed : AllByRecursion (λ (op : Op). AllByRecursion OfType (outputs op)) ops
  outs_typed =
      all_two (ViewTypes ops) (ViewsMet ops m) (λ (op : Op). AllByRecursion OfType (outputs op))
      (λ op t met. all_two (λ (v : Strided). elem_of ops v.base ≡ op.to) (Met ops m op.to) OfType
      (λ v is f stays.
      subst (λ c. IsOf (elem_of ops v.base) c) (sym (ap (λ z. cond z (m.bases v.base) (opening ops v.base (m.bases v.base))) stays))
      (opening_type (elem_of ops v.base) ops v.base (m.bases v.base) (made_types ops types v.base) (λ none. subst (λ u. IsOf u (m.bases v.base)) (sym is) (f none).0))) (outputs op) t.outs met.outs) ops
      (view_types ops types) each_met

  inside_by : (v : Strided) → ((i : ℕ) → i < length (elements v) → place_at v i < size (outline (opened ops m v.base))) → AllBelow (size_at (opened ops m v.base)) (elements v)
  inside_by v h = all_below (size_at (opened ops m v.base)) (elements v) (λ i l. subst (λ n. place_at v i < n) (size_seen (opened ops m v.base)) (h i l))

  module _ (b : Block ops) where
    fs : AllByRecursion (λ op. op_fits m ops op ≡ true) ops
    fs = all_of (op_fits m ops) ops fit

    -- a part of each operation, where it is kept
    stored_parts : (part : Op → List Strided) (Q : Strided → Type 0) → AllByRecursion (λ (op : Op). AllByRecursion (λ (v : Strided). freed_by ops v.base ≡ false → Q v) (part op)) ops
        → AllByRecursion (λ (op : Op). AllByRecursion Q (filter (λ (v : Strided). not (freed_by ops v.base)) (part op))) ops
    stored_parts part Q h =
        All_weaker (λ (op : Op). AllByRecursion (λ (v : Strided). freed_by ops v.base ≡ false → Q v) (part op)) (λ (op : Op). AllByRecursion Q (filter (λ (v : Strided). not (freed_by ops v.base)) (part op)))
        (λ op k. All_filter Q (λ (v : Strided). not (freed_by ops v.base)) (part op)
        (All_weaker (λ (v : Strided). freed_by ops v.base ≡ false → Q v) (λ (v : Strided). not (freed_by ops v.base) ≡ true → Q v) (λ v f e. f (untrue (freed_by ops v.base) e)) (part op) k)) ops h

    stored_each : (Q : Strided → Type 0) → AllByRecursion (λ (op : Op). AllByRecursion (λ (v : Strided). freed_by ops v.base ≡ false → Q v) (filled op)) ops → AllByRecursion Q (stores ops)
    stored_each Q h =
        all_distinct identical Q (all_stores ops)
        (all_flat_map Q (λ (op : Op). filter (λ (v : Strided). not (freed_by ops v.base)) (filled op)) ops (stored_parts filled Q h))

    pub stores_there : AllByRecursion (IsThere ops (opened ops m)) (stores ops)
    stores_there =
        all_two (λ (v : Strided). IsOf (elem_of ops v.base) (opened ops m v.base)) (λ (v : Strided). AllBelow (size_at (opened ops m v.base)) (elements v)) (IsThere ops (opened ops m))
        (λ v t i. record { typed = t; inside = i }) (stores ops)
        (stored_each (λ (v : Strided). IsOf (elem_of ops v.base) (opened ops m v.base))
        (All_weaker (λ (op : Op). AllByRecursion OfType (outputs op)) (λ (op : Op). AllByRecursion OfType (filled op)) (λ op k. outs_filled OfType op k) ops outs_typed))
        (all_two (λ (v : Strided). length (elements v) ≡ block_positions ops) (λ (v : Strided). (i : ℕ) → i < block_positions ops → place_at v i < size (outline (opened ops m v.base)))
        (λ (v : Strided). AllBelow (size_at (opened ops m v.base)) (elements v))
        (λ v long f. inside_by v (λ i l. f i (omega arith))) (stores ops)
        (stored_each (λ (v : Strided). length (elements v) ≡ block_positions ops)
        (All_weaker (Alone (block_positions ops)) (λ (op : Op). AllByRecursion (λ (v : Strided). freed_by ops v.base ≡ false → length (elements v) ≡ block_positions ops) (filled op))
        (λ op a. All_weaker (λ (v : Strided). length (elements v) ≡ block_positions ops) (λ (v : Strided). freed_by ops v.base ≡ false → length (elements v) ≡ block_positions ops) (λ v e k. e) (filled op)
        (all_left (λ (v : Strided). length (elements v) ≡ block_positions ops) (filled op) (inputs op) a.longs)) ops (alones ops m b fs)))
        (orderly ops m b fs).inside)

    pub sums_there : AllByRecursion (IsThere ops (opened ops m)) (fold_stores ops)
    sums_there =
        all_flat_map (IsThere ops (opened ops m)) (λ (op : Op). filter (λ (v : Strided). not (freed_by ops v.base)) (fold_outs op)) ops
        (stored_parts fold_outs (IsThere ops (opened ops m))
        (all_two (λ (op : Op). AllByRecursion OfType (fold_outs op))
        (λ (op : Op). AllByRecursion (λ (v : Strided). freed_by ops v.base ≡ false → (i : ℕ) → i < length (elements v) → place_at v i < size (outline (opened ops m v.base))) (fold_outs op))
        (λ (op : Op). AllByRecursion (λ (v : Strided). freed_by ops v.base ≡ false → IsThere ops (opened ops m) v) (fold_outs op))
        (λ op x y. all_two OfType (λ (v : Strided). freed_by ops v.base ≡ false → (i : ℕ) → i < length (elements v) → place_at v i < size (outline (opened ops m v.base)))
        (λ (v : Strided). freed_by ops v.base ≡ false → IsThere ops (opened ops m) v) (λ v t f stays. record { typed = t stays; inside = inside_by v (f stays) }) (fold_outs op) x y) ops
        (All_weaker (λ (op : Op). AllByRecursion OfType (outputs op)) (λ (op : Op). AllByRecursion OfType (fold_outs op)) (λ op k. outs_folded OfType op k) ops outs_typed)
        (prepares ops m b fs).room))
