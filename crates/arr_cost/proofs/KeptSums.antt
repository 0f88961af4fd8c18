-- What a block costs, as a sum over classes.
use Rattle.std.proofs.Common.{◌≡◌, ℕ, zero, suc, ◌+◌, ◌*◌, ◌/◌, ◌%◌, ◌<◌, ◌≤◌, List, [], ◌∷◌, ◌++◌, Bool, true, false, cond, not, ◌&&◌, ◌||◌, Option, Some, None, length, map, get_or, refl, ap, ap₂, sym, ◌∙◌, arith}
use Rattle.std.specs.Prelude.{◌==◌, min}
use Rattle.std.specs.List.{AllByRecursion, filter, flat_map, list_any, position_or_len, range_with_len}
use Rattle.std.specs.Option.{option_map, option_to_list}
use Rattle.std.proofs.lemmas.Bool.{and_parts, eq-eqb, eqb-true, false≢true}
use Rattle.std.proofs.lemmas.List.{length-map}
use Rattle.std.proofs.lemmas.List.FromFn.{get_or-map-range_with_len}
use Rattle.std.proofs.lemmas.List.Folds.{list_any-append}
use Rattle.arr_view.specs.Strided.{Strided}
use Rattle.arr_view.specs.Views.{identical}
use Rattle.arr_ops.specs.Costs.{block_cost, distinct, total, weight}
use Rattle.arr_ops.specs.Ops.{array_of, inputs, outputs, view_of, views}
use Rattle.arr_ops.specs.declared.op.Op.{Op}
use Rattle.arr_ops.proofs.Alike.{same_weight}
use Rattle.arr_ops.proofs.FitsLaw.{all_append}
use Rattle.arr_cost.specs.declared.footprints.Row.{Row}
use Rattle.arr_cost.specs.declared.touches.Touch.{Touch}
use Rattle.arr_cost.specs.declared.touches.Touches.{Touches}
use Rattle.arr_cost.specs.Footprints.{bases_of, is_class, join, keeps, keeps_class, loses, reads_class, row_for, span, weights_of, writes_class, IsFootprint}
use Rattle.arr_cost.specs.Touches.{AreMarked, base_of, class_of, frees_number, kept, makes_number, outside, same_class, table_of, touched_by, touches_of}
use Rattle.arr_cost.proofs.Digits.{or_bit, span_alike, span_longer, span_none, span_pick, span_saved, span_within}
use Rattle.arr_cost.proofs.Prints.{any_touched}
use Rattle.arr_cost.proofs.Touched.{all_after, all_before, any_either, any_flat, any_row, few_views, f_of, kept_rows, known_in, picked, picked_known, short_place, touched_cost, Among, Known}

-- ---- a list of classes, each once

abbrev pub some_class : List Touch → ℕ → Bool
some_class ts c = list_any (λ (t : Touch). t.class == c) ts

abbrev pub Weighs : List ℕ → Touch → Type 0
Weighs ws t = (t.class < length ws) × (t.weight ≡ get_or ws t.class 0)

abbrev pub weight_in : List Touch → ℕ
weight_in ts = total (λ (t : Touch). t.weight) ts

twice : (p : ℕ → Bool) (t : Touch) (us : List Touch) → filter (λ (u : Touch). p u.class) (filter (λ (u : Touch). not (same_class t u)) us) ≡ filter (λ (u : Touch). not (t.class == u.class) && p u.class) us
twice p t [] = refl
twice p t (u ∷ us) =
    elim (t.class == u.class) as (λ b. filter (λ (v : Touch). p v.class) (cond (not b) (u ∷ filter (λ (v : Touch). not (same_class t v)) us) (filter (λ (v : Touch). not (same_class t v)) us)) ≡ cond (not b && p u.class) (u ∷ filter (λ (v : Touch). not (t.class == v.class) && p v.class) us) (filter (λ (v : Touch). not (t.class == v.class) && p v.class) us)) [
      | true ↦ twice p t us
      | false ↦ ap (λ r. cond (p u.class) (u ∷ r) r) (twice p t us)
    ]

distinct_span : (ws : List ℕ) (p : ℕ → Bool) (ts : List Touch) → AllByRecursion (Weighs ws) ts
    → weight_in (filter (λ (t : Touch). p t.class) (distinct same_class ts)) ≡ span ws 0 (length ws) (λ c. p c && some_class ts c)
distinct_span ws p [] h = sym (span_none ws 0 (length ws) (λ c. p c && false) (λ c l. none (p c)))
  where
    none : (b : Bool) → (b && false) ≡ false
    none true = refl
    none false = refl
distinct_span ws p (t ∷ ts) h =
    let rest : weight_in (filter (λ (u : Touch). p u.class) (filter (λ (u : Touch). not (same_class t u)) (distinct same_class ts))) ≡ span ws 0 (length ws) (λ c. (not (t.class == c) && p c) && some_class ts c)
    = ap weight_in (twice p t (distinct same_class ts)) ∙ distinct_span ws (λ c. not (t.class == c) && p c) ts h.1 in
    let pick : span ws 0 (length ws) (λ c. p c && ((t.class == c) || some_class ts c)) ≡ cond (p t.class) (get_or ws t.class 0) 0 + span ws 0 (length ws) (λ c. (not (t.class == c) && p c) && some_class ts c)
    = span_pick ws (length ws) t.class p (some_class ts) h.0.0 in
    let w : t.weight ≡ get_or ws t.class 0 = h.0.1 in
    elim (p t.class) as (λ b. span ws 0 (length ws) (λ c. p c && ((t.class == c) || some_class ts c)) ≡ cond b (get_or ws t.class 0) 0 + span ws 0 (length ws) (λ c. (not (t.class == c) && p c) && some_class ts c)
    → weight_in (cond b (t ∷ filter (λ (u : Touch). p u.class) (filter (λ (u : Touch). not (same_class t u)) (distinct same_class ts))) (filter (λ (u : Touch). p u.class) (filter (λ (u : Touch). not (same_class t u)) (distinct same_class ts)))) ≡ span ws 0 (length ws) (λ c. p c && ((t.class == c) || some_class ts c))) [
      | true ↦ λ e. omega arith
      | false ↦ λ e. omega arith
    ] pick

every : (ts : List Touch) → filter (λ (t : Touch). true) ts ≡ ts
every [] = refl
every (t ∷ ts) = ap (λ r. t ∷ r) (every ts)

-- ---- the base and the weight of a class

place_map : {A : Type 0} (p : A → Bool) (f : A → ℕ) (w : ℕ) → ((u : A) → p u ≡ true → f u ≡ w) → (all : List A) → list_any p all ≡ true → (position_or_len p all < length all) × (get_or (map f all) (position_or_len p all) 0 ≡ w)
place_map p f w h [] e = absurd (false≢true e)
place_map {A} p f w h (u ∷ all) e =
    elim (p u) as (λ b. p u ≡ b → (b || list_any p all) ≡ true → (cond (not b) (1 + position_or_len p all) 0 < suc (length all)) × (get_or (f u ∷ map f all) (cond (not b) (1 + position_or_len p all) 0) 0 ≡ w)) [
      | true ↦ λ t k. (omega arith, h u t)
      | false ↦ λ t k.
          let ih = place_map p f w h all k in
          let less : position_or_len p all < length all = ih.0 in
          (omega arith, ap (λ n. get_or (f u ∷ map f all) n 0) (let z : 1 + position_or_len p all ≡ suc (position_or_len p all) = omega arith in z) ∙ ih.1)
    ] refl e

small_map : {A : Type 0} (f : A → ℕ) (m : ℕ) → ((u : A) → f u ≤ m) → (all : List A) (i : ℕ) → get_or (map f all) i 0 ≤ m
small_map f m h [] i = omega arith
small_map f m h (u ∷ all) zero = h u
small_map f m h (u ∷ all) (suc i) = small_map f m h all i

any_known : {X : Type 0} (P : X → Type 0) (s t : X → Bool) → ((x : X) → P x → s x ≡ t x) → (xs : List X) → AllByRecursion P xs → list_any s xs ≡ list_any t xs
any_known P s t h [] k = refl
any_known P s t h (x ∷ xs) k = ap₂ (λ a b. a || b) (h x k.0) (any_known P s t h xs k.1)

any_both : {X : Type 0} (s : X → Bool) (m : Bool) (xs : List X) → list_any (λ x. s x && m) xs ≡ (list_any s xs && m)
any_both s m [] = refl
any_both s m (x ∷ xs) = ap (λ b. (s x && m) || b) (any_both s m xs) ∙ shared (s x) (list_any s xs) m
  where
    shared : (a b c : Bool) → ((a && c) || (b && c)) ≡ ((a || b) && c)
    shared true true true = refl
    shared true true false = refl
    shared true false true = refl
    shared true false false = refl
    shared false b c = refl

all_flat : {X Y : Type 0} (P : X → Type 0) (Q : Y → Type 0) (f : X → List Y) → ((x : X) → P x → AllByRecursion Q (f x)) → (xs : List X) → AllByRecursion P xs → AllByRecursion Q (flat_map f xs)
all_flat P Q f h [] k = tt
all_flat P Q f h (x ∷ xs) k = all_append Q (f x) (flat_map f xs) (h x k.0) (all_flat P Q f h xs k.1)

module _ (list : List Op) where
  abbrev pub all_of : List Strided
  all_of = flat_map views list

  weighs_view : (v : Strided) → Among all_of v → Weighs (weights_of list) (f_of list v)
  weighs_view v h =
      let at = place_map (identical v) (weight list) (weight list v) (λ u e. sym (same_weight list v u e)) all_of h in
      let less : class_of all_of v < length all_of = at.0 in
      let long : length (weights_of list) ≡ length all_of = length-map all_of (weight list) in
      (omega arith, sym at.1)

  base_view : (v : Strided) → Among all_of v → get_or (bases_of list) (class_of all_of v) 0 ≡ base_of all_of v.base
  base_view v h = (place_map (identical v) (λ (u : Strided). base_of all_of u.base) (base_of all_of v.base) (λ u e. ap (base_of all_of) (sym (eqb-true v.base u.base (and_parts (v.base == u.base) _ e).0))) all_of h).1

  weighs_outside : (marked : List Bool) (o : Option Strided) → AllByRecursion (Among all_of) (option_to_list o) → AllByRecursion (Weighs (weights_of list)) (outside marked (option_map (f_of list) o))
  weighs_outside marked None h = tt
  weighs_outside marked (Some v) h =
      elim (get_or marked (f_of list v).base false) as (λ b. AllByRecursion (Weighs (weights_of list)) (cond (not b) (f_of list v ∷ []) [])) [ true ↦ tt | false ↦ (weighs_view v h.0, tt) ]

  class_outside : (marked : List Bool) (c : ℕ) (o : Option Strided) → AllByRecursion (Among all_of) (option_to_list o)
      → some_class (outside marked (option_map (f_of list) o)) c ≡ (is_class c (option_map (f_of list) o) && not (get_or marked (get_or (bases_of list) c 0) false))
  class_outside marked c None h = refl
  class_outside marked c (Some v) h =
      elim (class_of all_of v == c) as (λ b. (class_of all_of v == c) ≡ b → some_class (outside marked (Some (f_of list v))) c ≡ ((b || false) && not (get_or marked (get_or (bases_of list) c 0) false))) [
        | true ↦ λ e.
            ap (λ n. some_class (outside marked (Some (f_of list v))) n) (sym (eqb-true (class_of all_of v) c e))
            ∙ here (get_or marked (base_of all_of v.base) false)
            ∙ ap (λ n. not (get_or marked n false)) (sym (base_view v h.0) ∙ ap (λ n. get_or (bases_of list) n 0) (eqb-true (class_of all_of v) c e))
        | false ↦ λ e. there (get_or marked (base_of all_of v.base) false) e
      ] refl
    where
      here : (b : Bool) → some_class (cond (not b) (f_of list v ∷ []) []) (class_of all_of v) ≡ not b
      here true = refl
      here false = ap (λ t. t || false) (eq-eqb (class_of all_of v) (class_of all_of v) refl)

      there : (b : Bool) → (class_of all_of v == c) ≡ false → some_class (cond (not b) (f_of list v ∷ []) []) c ≡ false
      there true e = refl
      there false e = ap (λ t. t || false) e

  abbrev pub T_of : Op → Touches
  T_of op = touches_of list all_of op

  first_known : (op : Op) → Known all_of op → AllByRecursion (Among all_of) (option_to_list (array_of op.first))
  first_known op h = all_before (Among all_of) (view_of op.first) (view_of op.second) (all_after (Among all_of) (outputs op) (inputs op) h)

  second_known : (op : Op) → Known all_of op → AllByRecursion (Among all_of) (option_to_list (array_of op.second))
  second_known op h = all_after (Among all_of) (view_of op.first) (view_of op.second) (all_after (Among all_of) (outputs op) (inputs op) h)

  out_known : (op : Op) → Known all_of op → AllByRecursion (Among all_of) (option_to_list op.out)
  out_known op h = all_before (Among all_of) (outputs op) (inputs op) h

  weighs_kept : (made freed : List Bool) (op : Op) → Known all_of op → AllByRecursion (Weighs (weights_of list)) (kept made freed (T_of op))
  weighs_kept made freed op h =
      all_append (Weighs (weights_of list)) (outside made (T_of op).first ++ outside made (T_of op).second) (outside freed (T_of op).out)
      (all_append (Weighs (weights_of list)) (outside made (T_of op).first) (outside made (T_of op).second) (weighs_outside made (array_of op.first) (first_known op h)) (weighs_outside made (array_of op.second) (second_known op h)))
      (weighs_outside freed op.out (out_known op h))

  class_kept : (made freed : List Bool) (c : ℕ) (op : Op) → Known all_of op
      → some_class (kept made freed (T_of op)) c ≡ ((reads_class c (T_of op) && not (get_or made (get_or (bases_of list) c 0) false)) || (writes_class c (T_of op) && not (get_or freed (get_or (bases_of list) c 0) false)))
  class_kept made freed c op h =
      list_any-append (λ (t : Touch). t.class == c) (outside made (T_of op).first ++ outside made (T_of op).second) (outside freed (T_of op).out)
      ∙ ap₂ (λ a b. a || b)
      (list_any-append (λ (t : Touch). t.class == c) (outside made (T_of op).first) (outside made (T_of op).second)
      ∙ ap₂ (λ a b. a || b) (class_outside made c (array_of op.first) (first_known op h)) (class_outside made c (array_of op.second) (second_known op h))
      ∙ shared (is_class c (T_of op).first) (is_class c (T_of op).second) (not (get_or made (get_or (bases_of list) c 0) false)))
      (class_outside freed c op.out (out_known op h))
    where
      shared : (a b m : Bool) → ((a && m) || (b && m)) ≡ ((a || b) && m)
      shared true true true = refl
      shared true true false = refl
      shared true false true = refl
      shared true false false = refl
      shared false b m = refl

-- the class is touched outside the block
abbrev pub kept_class : List Op → List ℕ → ℕ → Bool
kept_class list block c =
    (list_any (reads_class c) (touched_by (table_of list) block) && not (list_any (makes_number (get_or (bases_of list) c 0)) (touched_by (table_of list) block)))
    || (list_any (writes_class c) (touched_by (table_of list) block) && not (list_any (frees_number (get_or (bases_of list) c 0)) (touched_by (table_of list) block)))

marked_by : (test : ℕ → Touches → Bool) (list : List Op) (block : List ℕ) → List Bool
marked_by test list block = map (λ b. list_any (test b) (touched_by (table_of list) block)) (range_with_len 0 (3 * length (table_of list)))

are_marked : (test : ℕ → Touches → Bool) (list : List Op) (block : List ℕ) → AreMarked test (table_of list) block (marked_by test list block)
unfolding marked_by
are_marked test list block = record {
  each = λ b l. get_or-map-range_with_len (λ n. list_any (test n) (touched_by (table_of list) block)) 0 (3 * length (table_of list)) b b false l (omega arith);
}

based : (list : List Op) (c : ℕ) → get_or (bases_of list) c 0 < 3 * length (table_of list)
based list c =
    let a : get_or (bases_of list) c 0 ≤ length (flat_map views list) = small_map (λ (v : Strided). base_of (flat_map views list) v.base) (length (flat_map views list)) (λ v. short_place (λ (u : Strided). u.base == v.base) (flat_map views list)) (flat_map views list) c in
    let b : length (flat_map views list) ≤ 3 * length list = few_views list in
    let d : length (map (touches_of list (flat_map views list)) list) ≡ length list = length-map list (touches_of list (flat_map views list)) in
    omega arith

pub cost_span : (list : List Op) (block : List ℕ) → block_cost list block ≡ span (weights_of list) 0 (length (weights_of list)) (kept_class list block)
cost_span list block =
    let made : List Bool = marked_by makes_number list block in
    let freed : List Bool = marked_by frees_number list block in
    let m : AreMarked makes_number (table_of list) block made = are_marked makes_number list block in
    let f : AreMarked frees_number (table_of list) block freed = are_marked frees_number list block in
    let ops : List Op = picked list block in
    let known : AllByRecursion (Known (flat_map views list)) ops = picked_known (Known (flat_map views list)) list block (known_in (flat_map views list) list (λ v h. h)) in
    let ts : List Touch = flat_map (λ op. kept made freed (T_of list op)) ops in
    let weighs : AllByRecursion (Weighs (weights_of list)) ts = all_flat (Known (flat_map views list)) (Weighs (weights_of list)) (λ op. kept made freed (T_of list op)) (weighs_kept list made freed) ops known in
    sym (touched_cost list block made freed m f)
    ∙ ap (λ us. weight_in (distinct same_class us)) (kept_rows (kept made freed) (T_of list) refl list block)
    ∙ ap weight_in (sym (every (distinct same_class ts)))
    ∙ distinct_span (weights_of list) (λ c. true) ts weighs
    ∙ span_alike (weights_of list) 0 (length (weights_of list)) (some_class ts) (kept_class list block) (λ c l.
    any_flat (λ op. kept made freed (T_of list op)) (λ (t : Touch). t.class == c) ops
    ∙ any_known (Known (flat_map views list)) (λ op. some_class (kept made freed (T_of list op)) c)
    (λ op. (reads_class c (T_of list op) && not (get_or made (get_or (bases_of list) c 0) false)) || (writes_class c (T_of list op) && not (get_or freed (get_or (bases_of list) c 0) false))) (class_kept list made freed c) ops known
    ∙ any_either (λ op. reads_class c (T_of list op) && not (get_or made (get_or (bases_of list) c 0) false)) (λ op. writes_class c (T_of list op) && not (get_or freed (get_or (bases_of list) c 0) false)) ops
    ∙ ap₂ (λ a b. a || b)
    (any_both (λ op. reads_class c (T_of list op)) (not (get_or made (get_or (bases_of list) c 0) false)) ops
    ∙ ap₂ (λ a b. a && not b) (sym (any_row (reads_class c) (T_of list) refl list block)) (m.each (get_or (bases_of list) c 0) (based list c)))
    (any_both (λ op. writes_class c (T_of list op)) (not (get_or freed (get_or (bases_of list) c 0) false)) ops
    ∙ ap₂ (λ a b. a && not b) (sym (any_row (writes_class c) (T_of list) refl list block)) (f.each (get_or (bases_of list) c 0) (based list c))))

-- ---- two blocks

print_keeps : (list : List Op) (block : List ℕ) (rows : List Row) → IsFootprint list block rows → (c : ℕ) → c < length (bases_of list) → keeps_class rows c ≡ kept_class list block c
print_keeps list block rows f c l =
    ap₂ (λ a b. a || b) (ap₂ (λ a b. a && not b) (f.reads c l) (f.makes c l)) (ap₂ (λ a b. a && not b) (f.writes c l) (f.frees c l))

join_keeps : (list : List Op) (x y : List ℕ) (a b : List Row) → IsFootprint list x a → IsFootprint list y b → (c : ℕ) → c < length (bases_of list) → keeps (join (row_for a c) (row_for b c)) (c % 64) ≡ kept_class list (x ++ y) c
join_keeps list x y a b f g c l =
    ap₂ (λ s t. s || t)
    (ap₂ (λ s t. s && not t)
    (or_bit (row_for a c).reads (row_for b c).reads (c % 64) ∙ ap₂ (λ s t. s || t) (f.reads c l) (g.reads c l) ∙ sym (any_touched (reads_class c) (table_of list) x y))
    (or_bit (row_for a c).makes (row_for b c).makes (c % 64) ∙ ap₂ (λ s t. s || t) (f.makes c l) (g.makes c l) ∙ sym (any_touched (makes_number (get_or (bases_of list) c 0)) (table_of list) x y)))
    (ap₂ (λ s t. s && not t)
    (or_bit (row_for a c).writes (row_for b c).writes (c % 64) ∙ ap₂ (λ s t. s || t) (f.writes c l) (g.writes c l) ∙ sym (any_touched (writes_class c) (table_of list) x y))
    (or_bit (row_for a c).frees (row_for b c).frees (c % 64) ∙ ap₂ (λ s t. s || t) (f.frees c l) (g.frees c l) ∙ sym (any_touched (frees_number (get_or (bases_of list) c 0)) (table_of list) x y)))

covers : (ra wa ma fa rb wb mb fb : Bool) → (((ra || rb) && not (ma || mb)) || ((wa || wb) && not (fa || fb))) ≡ true → (((ra && not ma) || (wa && not fa)) || ((rb && not mb) || (wb && not fb))) ≡ true
covers ra wa ma fa rb wb mb fb h = gather (ra && not ma) (wa && not fa) (rb && not mb) (wb && not fb) (parts ((ra || rb) && not (ma || mb)) ((wa || wb) && not (fa || fb)) ((ra && not ma) || (rb && not mb)) ((wa && not fa) || (wb && not fb)) (one ra rb ma mb) (one wa wb fa fb) h)
  where
    one : (r s m n : Bool) → ((r || s) && not (m || n)) ≡ true → ((r && not m) || (s && not n)) ≡ true
    one true s false false e = refl
    one true s true n e = absurd (false≢true e)
    one true s false true e = absurd (false≢true e)
    one false true false false e = refl
    one false true true n e = absurd (false≢true e)
    one false true false true e = absurd (false≢true e)
    one false false m n e = absurd (false≢true e)

    parts : (a b s t : Bool) → (a ≡ true → s ≡ true) → (b ≡ true → t ≡ true) → (a || b) ≡ true → (s || t) ≡ true
    parts true b s t f g e = ap (λ c. c || t) (f refl)
    parts false b s t f g e = ap (λ c. s || c) (g e) ∙ last s
      where
        last : (c : Bool) → (c || true) ≡ true
        last true = refl
        last false = refl

    gather : (a b c d : Bool) → ((a || c) || (b || d)) ≡ true → ((a || b) || (c || d)) ≡ true
    gather true b c d e = refl
    gather false true c d e = refl
    gather false false true d e = refl
    gather false false false d e = e

pub prints_save : (list : List Op) (x y : List ℕ) (a b : List Row) (saved : ℕ) → IsFootprint list x a → IsFootprint list y b
    → saved ≡ span (weights_of list) 0 (64 * min (length a) (length b)) (λ c. keeps_class a c && keeps_class b c) + span (weights_of list) 0 (64 * min (length a) (length b)) (λ c. loses (row_for a c) (row_for b c) (c % 64))
    → block_cost list (x ++ y) + saved ≡ block_cost list x + block_cost list y
prints_save list x y a b saved f g e =
    let n : ℕ = 64 * min (length a) (length b) in
    let ws : List ℕ = weights_of list in
    let s : ℕ → Bool = keeps_class a in
    let t : ℕ → Bool = keeps_class b in
    let u : ℕ → Bool = λ c. keeps (join (row_for a c) (row_for b c)) (c % 64) in
    let lw : length ws ≡ length (flat_map views list) = length-map (flat_map views list) (weight list) in
    let lb : length (bases_of list) ≡ length (flat_map views list) = length-map (flat_map views list) (λ (v : Strided). base_of (flat_map views list) v.base) in
    let la : length a ≡ length (bases_of list) / 64 + 1 = f.long in
    let lc : length b ≡ length (bases_of list) / 64 + 1 = g.long in
    let wide : length ws ≤ n = omega arith in
    let law : span ws 0 n u + (span ws 0 n (λ c. s c && t c) + span ws 0 n (λ c. (s c || t c) && not (u c))) ≡ span ws 0 n s + span ws 0 n t
    = span_saved ws n s t u (λ c l k. ap₂ (λ p q. p || q) (print_keeps list x a f c (omega arith)) (print_keeps list y b g c (omega arith))
    ∙ covers (list_any (reads_class c) (touched_by (table_of list) x)) (list_any (writes_class c) (touched_by (table_of list) x)) (list_any (makes_number (get_or (bases_of list) c 0)) (touched_by (table_of list) x)) (list_any (frees_number (get_or (bases_of list) c 0)) (touched_by (table_of list) x))
    (list_any (reads_class c) (touched_by (table_of list) y)) (list_any (writes_class c) (touched_by (table_of list) y)) (list_any (makes_number (get_or (bases_of list) c 0)) (touched_by (table_of list) y)) (list_any (frees_number (get_or (bases_of list) c 0)) (touched_by (table_of list) y))
    (sym (ap₂ (λ p q. p || q)
    (ap₂ (λ p q. p && not q) (any_touched (reads_class c) (table_of list) x y) (any_touched (makes_number (get_or (bases_of list) c 0)) (table_of list) x y))
    (ap₂ (λ p q. p && not q) (any_touched (writes_class c) (table_of list) x y) (any_touched (frees_number (get_or (bases_of list) c 0)) (table_of list) x y)))
    ∙ sym (join_keeps list x y a b f g c (omega arith)) ∙ k)) in
    let one : span ws 0 n s ≡ block_cost list x = span_within ws n s (kept_class list x) (λ c l. print_keeps list x a f c (omega arith)) ∙ span_longer ws n (kept_class list x) wide ∙ sym (cost_span list x) in
    let two : span ws 0 n t ≡ block_cost list y = span_within ws n t (kept_class list y) (λ c l. print_keeps list y b g c (omega arith)) ∙ span_longer ws n (kept_class list y) wide ∙ sym (cost_span list y) in
    let both : span ws 0 n u ≡ block_cost list (x ++ y) = span_within ws n u (kept_class list (x ++ y)) (λ c l. join_keeps list x y a b f g c (omega arith)) ∙ span_longer ws n (kept_class list (x ++ y)) wide ∙ sym (cost_span list (x ++ y)) in
    omega arith
