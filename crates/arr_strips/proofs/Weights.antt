-- What a block writes is what its walk stores and the results of its reductions.
use Rattle.std.proofs.Common.{◌≡◌, ℕ, ◌+◌, ◌≤◌, ◌<◌, List, [], ◌∷◌, ◌++◌, Bool, true, false, cond, not, ◌||◌, ◌&&◌, refl, ap, ap₂, sym, ◌∙◌, subst, arith, length, get_or, Option, Some, None}
use Rattle.std.proofs.lemmas.Bool.{false≢true, eq-eqb}
use Rattle.std.specs.List.{AllByRecursion, list_any, filter, flat_map}
use Rattle.std.specs.Option.{option_to_list}
use Rattle.arr_view.specs.Strided.{Strided}
use Rattle.arr_view.specs.Views.{elements, positions, has, identical, overlap, is_view}
use Rattle.arr_view.proofs.Checks.{lawful}
use Rattle.arr_view.proofs.Counting.{some_position}
use Rattle.arr_num.specs.Kinds.{is_reduction}
use Rattle.arr_ops.specs.declared.op.Op.{Op}
use Rattle.arr_ops.specs.Ops.{outputs, inputs, views, freed_by, fusible, some_pair}
use Rattle.arr_ops.specs.Formed.{well_formed}
use Rattle.arr_ops.specs.Costs.{distinct, total, weight, writes}
use Rattle.arr_ops.proofs.Pairs.{Pairs, All_weaker, All_filter, Pairs_All}
use Rattle.arr_ops.proofs.Lengths.{length-elements}
use Rattle.arr_ops.proofs.Spots.{all_left, all_two, views_of, strides_of}
use Rattle.arr_strips.specs.Columns.{place_at, filled, fold_outs}
use Rattle.arr_strips.specs.Blocks.{stores, fold_stores}
use Rattle.arr_strips.proofs.Sames.{same_base, same_elements, identical_back, all_flat_map, all_distinct, none_of, turn}
use Rattle.arr_strips.proofs.Sorts.{sorts, Freeing, Fused, fused_of, outs_none, has_at, any_at}
use Rattle.arr_strips.proofs.Blocks.{Block}

-- ---- lists

filter_all : {X : Type 0} (p : X → Bool) (xs : List X) → AllByRecursion (λ x. p x ≡ true) xs → filter p xs ≡ xs
filter_all p [] h = refl
filter_all p (x ∷ xs) h = ap (λ t. cond t (x ∷ filter p xs) (filter p xs)) h.0 ∙ ap (λ r. x ∷ r) (filter_all p xs h.1)

filter_twice : {X : Type 0} (p q : X → Bool) (xs : List X) → filter q (filter p xs) ≡ filter (λ x. p x && q x) xs
filter_twice p q [] = refl
filter_twice p q (x ∷ xs) =
    elim (p x) as (λ t. filter q (cond t (x ∷ filter p xs) (filter p xs)) ≡ cond (t && q x) (x ∷ filter (λ y. p y && q y) xs) (filter (λ y. p y && q y) xs)) [
      | true ↦ ap (λ r. cond (q x) (x ∷ r) r) (filter_twice p q xs)
      | false ↦ filter_twice p q xs
    ]

nothing : (k : Bool) → (let none : List Strided = [] in none ≡ cond k none none)
nothing true = refl
nothing false = refl

-- an output of f and one of g, where one of them is a reduction, are not identical
abbrev pub Unlike : Op → Op → Type 0
Unlike f g = AllByRecursion (λ o. AllByRecursion (λ v. (is_reduction f.code || is_reduction g.code) ≡ true → identical o v ≡ false) (outputs g)) (outputs f)

module _ (keep : Strided → Bool) (w : Strided → ℕ) where
  abbrev all_of : List Op → List Strided
  all_of ks = flat_map (λ (op : Op). filter keep (outputs op)) ks

  abbrev columns_of : List Op → List Strided
  columns_of ks = flat_map (λ (op : Op). filter keep (filled op)) ks

  abbrev folds_of : List Op → List Strided
  folds_of ks = flat_map (λ (op : Op). filter keep (fold_outs op)) ks

  abbrev Apart : Bool → Strided → Op → Type 0
  Apart z o g = AllByRecursion (λ v. (z || is_reduction g.code) ≡ true → identical o v ≡ false) (outputs g)

  -- a reduction's output is unlike all later ones
  fold_unlike : (o : Strided) (ks : List Op) → AllByRecursion (Apart true o) ks → AllByRecursion (λ v. identical o v ≡ false) (all_of ks)
  fold_unlike o ks h =
      all_flat_map (λ v. identical o v ≡ false) (λ (op : Op). filter keep (outputs op)) ks
      (All_weaker (Apart true o) (λ (g : Op). AllByRecursion (λ v. identical o v ≡ false) (filter keep (outputs g)))
      (λ g k. All_filter (λ v. identical o v ≡ false) keep (outputs g) (All_weaker (λ v. true ≡ true → identical o v ≡ false) (λ v. keep v ≡ true → identical o v ≡ false) (λ v e t. e refl) (outputs g) k)) ks h)

  -- a column is unlike all later reductions' outputs
  column_unlike : (o : Strided) (ks : List Op) → AllByRecursion (Apart false o) ks → AllByRecursion (λ v. identical o v ≡ false) (folds_of ks)
  column_unlike o ks h =
      all_flat_map (λ v. identical o v ≡ false) (λ (op : Op). filter keep (fold_outs op)) ks
      (All_weaker (Apart false o) (λ (g : Op). AllByRecursion (λ v. identical o v ≡ false) (filter keep (fold_outs g))) (λ g k. at (is_reduction g.code) g.out k) ks h)
    where
      at : (z : Bool) (out : Option Strided) → AllByRecursion (λ v. z ≡ true → identical o v ≡ false) (option_to_list out) → AllByRecursion (λ v. identical o v ≡ false) (filter keep (option_to_list (cond z out None)))
      at false out k = tt
      at true out k =
          All_filter (λ v. identical o v ≡ false) keep (option_to_list out) (All_weaker (λ v. true ≡ true → identical o v ≡ false) (λ v. keep v ≡ true → identical o v ≡ false) (λ v e t. e refl) (option_to_list out) k)

  abbrev Rest : List Op → Type 0
  Rest ks = (r : Strided → Bool) → AllByRecursion (λ x. r x ≡ true) (folds_of ks)
      → total w (filter r (distinct identical (all_of ks))) ≡ total w (filter r (distinct identical (columns_of ks))) + total w (folds_of ks)

  parted : (ks : List Op) → Pairs Unlike ks → (q : Strided → Bool) → AllByRecursion (λ r. q r ≡ true) (folds_of ks)
      → total w (filter q (distinct identical (all_of ks))) ≡ total w (filter q (distinct identical (columns_of ks))) + total w (folds_of ks)
  parted [] u q h = refl
  parted (op ∷ ks) u q h = at (λ r k. parted ks u.1 r k) (is_reduction op.code) op.out u.0 h
    where
      one : Rest ks → (o : Strided) (z : Bool) → AllByRecursion (Apart z o) ks → (t : Bool)
          → AllByRecursion (λ r. q r ≡ true) (cond t (option_to_list (cond z (Some o) None)) [] ++ folds_of ks)
          → total w (filter q (distinct identical (cond t (o ∷ []) [] ++ all_of ks)))
          ≡ total w (filter q (distinct identical (cond t (option_to_list (cond z None (Some o))) [] ++ columns_of ks))) + total w (cond t (option_to_list (cond z (Some o) None)) [] ++ folds_of ks)
      one rest o z a false h = rest q h
      one rest o true a true h =
          let same : filter (λ y. not (identical o y)) (distinct identical (all_of ks)) ≡ distinct identical (all_of ks) =
          filter_all (λ y. not (identical o y)) (distinct identical (all_of ks))
          (All_weaker (λ y. identical o y ≡ false) (λ y. not (identical o y) ≡ true) (λ y e. ap not e) (distinct identical (all_of ks)) (all_distinct identical (λ y. identical o y ≡ false) (all_of ks) (fold_unlike o ks a))) in
          let ih : total w (filter q (distinct identical (all_of ks))) ≡ total w (filter q (distinct identical (columns_of ks))) + total w (folds_of ks) = rest q h.1 in
          ap (λ t. total w (cond t (o ∷ filter q (filter (λ y. not (identical o y)) (distinct identical (all_of ks)))) (filter q (filter (λ y. not (identical o y)) (distinct identical (all_of ks)))))) h.0
          ∙ ap (λ r. w o + total w (filter q r)) same
          ∙ (let e : w o + total w (filter q (distinct identical (all_of ks))) ≡ total w (filter q (distinct identical (columns_of ks))) + (w o + total w (folds_of ks)) = omega arith in e)
      one rest o false a true h =
          let p : Strided → Bool = λ y. not (identical o y) in
          let ih : total w (filter (λ y. not (identical o y) && q y) (distinct identical (all_of ks)))
          ≡ total w (filter (λ y. not (identical o y) && q y) (distinct identical (columns_of ks))) + total w (folds_of ks) =
          rest (λ y. not (identical o y) && q y)
          (all_two (λ r. identical o r ≡ false) (λ r. q r ≡ true) (λ r. (not (identical o r) && q r) ≡ true) (λ r e d. ap₂ (λ x y. not x && y) e d) (folds_of ks) (column_unlike o ks a) h) in
          let both : total w (filter q (filter (λ y. not (identical o y)) (distinct identical (all_of ks)))) ≡ total w (filter q (filter (λ y. not (identical o y)) (distinct identical (columns_of ks)))) + total w (folds_of ks) =
          ap (total w) (filter_twice (λ y. not (identical o y)) q (distinct identical (all_of ks))) ∙ ih
          ∙ ap (λ r. total w r + total w (folds_of ks)) (sym (filter_twice (λ y. not (identical o y)) q (distinct identical (columns_of ks)))) in
          elim (q o) as (λ t. total w (cond t (o ∷ filter q (filter (λ y. not (identical o y)) (distinct identical (all_of ks)))) (filter q (filter (λ y. not (identical o y)) (distinct identical (all_of ks)))))
          ≡ total w (cond t (o ∷ filter q (filter (λ y. not (identical o y)) (distinct identical (columns_of ks)))) (filter q (filter (λ y. not (identical o y)) (distinct identical (columns_of ks))))) + total w (folds_of ks)) [
            | true ↦ (let e : w o + total w (filter q (filter (λ y. not (identical o y)) (distinct identical (all_of ks)))) ≡ w o + total w (filter q (filter (λ y. not (identical o y)) (distinct identical (columns_of ks)))) + total w (folds_of ks) = omega arith in e)
            | false ↦ both
          ]

      turned : (o : Strided) (t : Bool) (z : Bool) → filter keep (option_to_list (cond z (Some o) None)) ≡ cond (keep o) (option_to_list (cond z (Some o) None)) []
      turned o t true = refl
      turned o t false = nothing (keep o)

      turned_column : (o : Strided) (z : Bool) → filter keep (option_to_list (cond z None (Some o))) ≡ cond (keep o) (option_to_list (cond z None (Some o))) []
      turned_column o false = refl
      turned_column o true = nothing (keep o)

      at : Rest ks → (z : Bool) (out : Option Strided) → AllByRecursion (λ (g : Op). AllByRecursion (λ o. AllByRecursion (λ v. (z || is_reduction g.code) ≡ true → identical o v ≡ false) (outputs g)) (option_to_list out)) ks
          → AllByRecursion (λ r. q r ≡ true) (filter keep (option_to_list (cond z out None)) ++ folds_of ks)
          → total w (filter q (distinct identical (filter keep (option_to_list out) ++ all_of ks)))
          ≡ total w (filter q (distinct identical (filter keep (option_to_list (cond z None out)) ++ columns_of ks))) + total w (filter keep (option_to_list (cond z out None)) ++ folds_of ks)
      at rest true None a h = rest q h
      at rest false None a h = rest q h
      at rest z (Some o) a h =
          let apart : AllByRecursion (Apart z o) ks =
          All_weaker (λ (g : Op). AllByRecursion (λ o. AllByRecursion (λ v. (z || is_reduction g.code) ≡ true → identical o v ≡ false) (outputs g)) (o ∷ [])) (Apart z o) (λ g k. k.0) ks a in
          one rest o z apart (keep o) (subst (λ r. AllByRecursion (λ r. q r ≡ true) (r ++ folds_of ks)) (turned o true z) h)
          ∙ ap₂ (λ x y. total w (filter q (distinct identical (x ++ columns_of ks))) + total w (y ++ folds_of ks)) (sym (turned_column o z)) (sym (turned o true z))

-- ---- outputs of a block

id_overlap : (o v : Strided) → 0 < length (elements o) → identical o v ≡ true → overlap o v ≡ true
id_overlap o v some same =
    let e : length (elements o) ≡ length (elements v) = ap length (same_elements o v same) in
    ap₂ (λ x y. x && y) (eq-eqb o.base v.base (same_base o v same))
    (any_at (has (elements v)) (elements o) 0 some (has_at (elements v) 0 (place_at o 0) (omega arith) (ap (λ es. get_or es 0 0) (sym (same_elements o v same)))))

some_places : (f : Op) → well_formed f ≡ true → AllByRecursion (λ (o : Strided). 0 < length (elements o)) (outputs f)
some_places f well =
    All_weaker (λ v. is_view v ≡ true) (λ (o : Strided). 0 < length (elements o))
    (λ o h. let e : length (elements o) ≡ positions o.lengths = length-elements o (strides_of o h) in let k : 1 ≤ positions o.lengths = some_position o.lengths (lawful o h).lengths in omega arith)
    (outputs f) (all_left (λ v. is_view v ≡ true) (outputs f) (inputs f) (views_of f well))

none_pairs : (test : Strided → Strided → Bool) (os vs : List Strided) → some_pair test os vs ≡ false → AllByRecursion (λ o. AllByRecursion (λ v. test o v ≡ false) vs) os
none_pairs test os vs h = All_weaker (λ o. list_any (test o) vs ≡ false) (λ o. AllByRecursion (λ v. test o v ≡ false) vs) (λ o e. none_of (test o) vs e) os (none_of (λ o. list_any (test o) vs) os h)

unlike_of : (f g : Op) → well_formed f ≡ true → well_formed g ≡ true → fusible f g ≡ true → Unlike f g
unlike_of f g a b h = sorts f a (λ o z p. with_right p.no_free) (λ v s. with_right s.no_free) left_free (λ o v s. with_right s.no_free)
  where
    test : Op → Strided → Strided → Bool
    test k o v = overlap o v && (is_reduction k.code || not (identical o v))

    differ : (r s : Bool) (o v : Strided) → 0 < length (elements o) → 0 < length (elements v) → (overlap o v && (r || not (identical o v))) ≡ false → (overlap v o && (s || not (identical v o))) ≡ false
        → (r || s) ≡ true → identical o v ≡ false
    differ r s o v i j x y on =
        elim (identical o v) as (λ t. identical o v ≡ t → t ≡ false) [
          | true ↦ λ e. absurd (meets r s x y on (id_overlap o v i e) (id_overlap v o j (identical_back o v e)))
          | false ↦ λ e. refl
        ] refl
      where
        meets : (r s : Bool) → (overlap o v && (r || not (identical o v))) ≡ false → (overlap v o && (s || not (identical v o))) ≡ false → (r || s) ≡ true → overlap o v ≡ true → overlap v o ≡ true → ⊥
        meets true s x y on p q = false≢true (sym x ∙ ap (λ t. t && true) p)
        meets false true x y on p q = false≢true (sym y ∙ ap (λ t. t && true) q)
        meets false false x y on p q = false≢true on

    both : f.frees ≡ None → g.frees ≡ None → Unlike f g
    both x y =
        let u : Fused f g = fused_of f g h x y in
        all_two (λ (o : Strided). 0 < length (elements o))
        (λ o. AllByRecursion (λ v. ((overlap o v && (is_reduction f.code || not (identical o v))) ≡ false) × ((overlap v o && (is_reduction g.code || not (identical v o))) ≡ false)) (outputs g))
        (λ o. AllByRecursion (λ v. (is_reduction f.code || is_reduction g.code) ≡ true → identical o v ≡ false) (outputs g))
        (λ o i k. all_two (λ (v : Strided). 0 < length (elements v))
        (λ v. ((overlap o v && (is_reduction f.code || not (identical o v))) ≡ false) × ((overlap v o && (is_reduction g.code || not (identical v o))) ≡ false))
        (λ v. (is_reduction f.code || is_reduction g.code) ≡ true → identical o v ≡ false)
        (λ v j e. differ (is_reduction f.code) (is_reduction g.code) o v i j e.0 e.1) (outputs g) (some_places g b) k) (outputs f) (some_places f a)
        (all_two (λ o. AllByRecursion (λ v. (overlap o v && (is_reduction f.code || not (identical o v))) ≡ false) (outputs g))
        (λ o. AllByRecursion (λ v. (overlap v o && (is_reduction g.code || not (identical v o))) ≡ false) (outputs g))
        (λ o. AllByRecursion (λ v. ((overlap o v && (is_reduction f.code || not (identical o v))) ≡ false) × ((overlap v o && (is_reduction g.code || not (identical v o))) ≡ false)) (outputs g))
        (λ o p q. all_two (λ v. (overlap o v && (is_reduction f.code || not (identical o v))) ≡ false) (λ v. (overlap v o && (is_reduction g.code || not (identical v o))) ≡ false)
        (λ v. ((overlap o v && (is_reduction f.code || not (identical o v))) ≡ false) × ((overlap v o && (is_reduction g.code || not (identical v o))) ≡ false)) (λ v c d. (c, d)) (outputs g) p q)
        (outputs f)
        (All_weaker (λ o. AllByRecursion (λ v. (overlap o v && (is_reduction f.code || not (identical o v))) ≡ false) (views g)) (λ o. AllByRecursion (λ v. (overlap o v && (is_reduction f.code || not (identical o v))) ≡ false) (outputs g))
        (λ o k. all_left (λ v. (overlap o v && (is_reduction f.code || not (identical o v))) ≡ false) (outputs g) (inputs g) k) (outputs f)
        (none_pairs (λ o v. overlap o v && (is_reduction f.code || not (identical o v))) (outputs f) (views g) u.forth))
        (turn (λ v o. (overlap v o && (is_reduction g.code || not (identical v o))) ≡ false) (outputs g) (outputs f)
        (All_weaker (λ v. AllByRecursion (λ o. (overlap v o && (is_reduction g.code || not (identical v o))) ≡ false) (views f)) (λ v. AllByRecursion (λ o. (overlap v o && (is_reduction g.code || not (identical v o))) ≡ false) (outputs f))
        (λ v k. all_left (λ o. (overlap v o && (is_reduction g.code || not (identical v o))) ≡ false) (outputs f) (inputs f) k) (outputs g)
        (none_pairs (λ o v. overlap o v && (is_reduction g.code || not (identical o v))) (outputs g) (views f) u.back))))

    left_free : Freeing f → Unlike f g
    left_free s = outs_none (λ o. AllByRecursion (λ v. (is_reduction f.code || is_reduction g.code) ≡ true → identical o v ≡ false) (outputs g)) f s.no_out

    right_free : Freeing g → Unlike f g
    right_free s = every (outputs f)
      where
        every : (os : List Strided) → AllByRecursion (λ o. AllByRecursion (λ v. (is_reduction f.code || is_reduction g.code) ≡ true → identical o v ≡ false) (outputs g)) os
        every [] = tt
        every (o ∷ os) = (outs_none (λ v. (is_reduction f.code || is_reduction g.code) ≡ true → identical o v ≡ false) g s.no_out, every os)

    with_right : f.frees ≡ None → Unlike f g
    with_right x = sorts g b (λ o z p. both x p.no_free) (λ v s. both x s.no_free) right_free (λ o v s. both x s.no_free)

-- ---- the law

all_kept : (xs : List Strided) → AllByRecursion (λ x. true ≡ true) xs
all_kept [] = tt
all_kept (x ∷ xs) = (refl, all_kept xs)

-- the bytes that a block writes: those that its walk stores, and those of the results that are written after it
pub write_weight : (ops : List Op) → Block ops → (list : List Op) → total (weight list) (writes ops) ≡ total (weight list) (stores ops) + total (weight list) (fold_stores ops)
write_weight ops b list =
    ap (total (weight list)) (sym (filter_all (λ x. true) (writes ops) (all_kept (writes ops))))
    ∙ parted (λ (v : Strided). not (freed_by ops v.base)) (weight list) ops
    (Pairs_All (λ f. well_formed f ≡ true) (λ f g. fusible f g ≡ true) Unlike (λ f g x y h. unlike_of f g x y h) ops b.well b.fuse) (λ x. true)
    (all_kept (fold_stores ops))
    ∙ ap (λ r. total (weight list) r + total (weight list) (fold_stores ops)) (filter_all (λ x. true) (stores ops) (all_kept (stores ops)))
