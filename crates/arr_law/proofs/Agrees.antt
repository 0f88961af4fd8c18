-- A legal plan, as a place for each operation, is legal and costs the same.
use Rattle.std.proofs.Common.{◌≡◌, ℕ, zero, suc, ◌+◌, ◌<◌, ◌≤◌, List, [], ◌∷◌, ◌++◌, length, get_or, map, Bool, true, false, cond, not, ◌&&◌, ◌||◌, Option, Some, None, refl, sym, ap, ap₂, ◌∙◌, subst, arith, ⊎_elim}
use Rattle.std.specs.Prelude.{◌==◌, nat_lt, nat_le}
use Rattle.std.specs.List.{list_any, list_all, filter, flat_map, enumerate_from, position_or_len, AllByRecursion}
use Rattle.std.proofs.lemmas.Bool.{and_parts, and_from, or_left, or_right, not-true, eqb-true, eq-eqb, ne_eqb, eqb-false, true≢false, ltb-true, leb-true, cases_lt, cases_eq, false_from_ne_true}
use Rattle.std.proofs.lemmas.List.Folds.{list_any-append}
use Rattle.std.proofs.lemmas.List.FromFn.{get_or-enumerate_from, length-enumerate_from}
use Rattle.std.proofs.lemmas.List.{map-append}
use Rattle.std.specs.Option.{option_to_list}
use Rattle.arr_view.specs.Strided.{Strided}
use Rattle.arr_view.specs.Views.{identical, has}
use Rattle.arr_ops.specs.declared.op.Op.{Op}
use Rattle.arr_ops.specs.Ops.{inputs, outputs, views, freed, named, dep, makes_base, creates, freed_by}
use Rattle.arr_ops.specs.Formed.{all_pairs, is_formed}
use Rattle.arr_ops.specs.Plans.{numbered, holders, place, ops_of, pair_legal, not_empty, is_legal}
use Rattle.arr_ops.specs.Costs.{distinct, total, weight, all_reads, all_writes, block_cost}
use Rattle.arr_ops.proofs.Pairs.{All_weaker, All_filter, Pairs_filter, Pairs_weaker}
use Rattle.arr_ops.proofs.Tests.{or_cases}
use Rattle.arr_ops.proofs.Alike.{alike, identical_if, identical_symm, identical_trans, same_weight}
use Rattle.arr_ops.proofs.Merged.{covered, distinct_all, distinct_apart, distinct_there, Found}
use Rattle.arr_law.specs.Problem.{Problem, is_op, operations, sum_below}
use Rattle.arr_law.specs.Plans.{IsLegalAt, outside_at, charged_at}
use Rattle.arr_law.specs.ProblemOf.{nothing, op_at, first_where, no_view, view_at, problem_of}
use Rattle.arr_law.specs.Laws.{Agrees}
use Rattle.arr_law.proofs.Sums.{sum_below-same, sum_below-front}
use Rattle.arr_law.proofs.Members.{any_of, any_witness, all_at, has_ops, ops_are, op_range, op_from, pair_ops}
use Rattle.arr_law.proofs.Proper.{bool_ext, first_passes, precedes, proper}

-- ---- where an operation stands

pub holders_place : (plan : List (List ℕ)) (f : ℕ) → holders plan f ≡ 1 → place plan f < length plan
holders_place [] f e = absurd (cc)
holders_place (block ∷ blocks) f e = go (has block f) e (holders_place blocks f)
  where
    go : (b : Bool) → cond b (suc (holders blocks f)) (holders blocks f) ≡ 1 → (holders blocks f ≡ 1 → place blocks f < length blocks) → cond b 0 (suc (place blocks f)) < suc (length blocks)
    go true h ih = omega arith
    go false h ih = let l : place blocks f < length blocks = ih h in omega arith

none_holds : (plan : List (List ℕ)) (f k : ℕ) → holders plan f ≡ 0 → has (get_or plan k []) f ≡ false
none_holds [] f k e = refl
none_holds (block ∷ blocks) f k e = go (has block f) refl k e (λ j. none_holds blocks f j)
  where
    go : (b : Bool) → has block f ≡ b → (k : ℕ) → cond b (suc (holders blocks f)) (holders blocks f) ≡ 0 → ((j : ℕ) → holders blocks f ≡ 0 → has (get_or blocks j []) f ≡ false) → has (get_or (block ∷ blocks) k []) f ≡ false
    go true t k h ih = absurd (cc)
    go false t zero h ih = t
    go false t (suc k) h ih = ih k h

eqb_suc : (m n : ℕ) → (suc m == suc n) ≡ (m == n)
eqb_suc m n = bool_ext (suc m == suc n) (m == n) (λ e. let s : suc m ≡ suc n = eqb-true (suc m) (suc n) e in eq-eqb m n (omega arith)) (λ e. let s : m ≡ n = eqb-true m n e in eq-eqb (suc m) (suc n) (omega arith))

-- the one block that has the operation is the one at its place
pub stands_at : (plan : List (List ℕ)) (f k : ℕ) → holders plan f ≡ 1 → has (get_or plan k []) f ≡ (place plan f == k)
stands_at [] f k e = absurd (cc)
stands_at (block ∷ blocks) f k e = go (has block f) refl k e (λ j. stands_at blocks f j)
  where
    go : (b : Bool) → has block f ≡ b → (k : ℕ) → cond b (suc (holders blocks f)) (holders blocks f) ≡ 1 → ((j : ℕ) → holders blocks f ≡ 1 → has (get_or blocks j []) f ≡ (place blocks f == j))
        → has (get_or (block ∷ blocks) k []) f ≡ (cond b 0 (suc (place blocks f)) == k)
    go true t zero h ih = t
    go true t (suc k) h ih = let none : holders blocks f ≡ 0 = omega arith in none_holds blocks f k none ∙ sym (ne_eqb 0 (suc k) (λ s. absurd (omega arith)))
    go false t zero h ih = t ∙ sym (ne_eqb (suc (place blocks f)) 0 (λ s. absurd (omega arith)))
    go false t (suc k) h ih = ih k h ∙ sym (eqb_suc (place blocks f) k)

-- ---- sums

total_below : {X : Type 0} (w : X → ℕ) (xs : List X) (d : X) → total w xs ≡ sum_below (λ k. w (get_or xs k d)) (length xs)
total_below w [] d = refl
total_below w (x ∷ xs) d = ap (λ s. w x + s) (total_below w xs d) ∙ sym (sum_below-front (λ k. w (get_or (x ∷ xs) k d)) (length xs))

total_filter : {X : Type 0} (p : X → Bool) (w : X → ℕ) (xs : List X) → total w (filter p xs) ≡ total (λ x. cond (p x) (w x) 0) xs
total_filter p w [] = refl
total_filter p w (x ∷ xs) = go (p x) (total_filter p w xs)
  where
    go : (b : Bool) → total w (filter p xs) ≡ total (λ x. cond (p x) (w x) 0) xs → total w (cond b (x ∷ filter p xs) (filter p xs)) ≡ cond b (w x) 0 + total (λ x. cond (p x) (w x) 0) xs
    go true ih = ap (λ s. w x + s) ih
    go false ih = omega (arith, ih)

itself : (v : Strided) → identical v v ≡ true
itself v = identical_if v v (record { base = refl; lengths = refl; places = refl })

-- a member that passes stands in the filtered list
filter_any : (q p : Strided → Bool) → ((v : Strided) → q v ≡ true → p v ≡ true) → (vs : List Strided) → list_any q vs ≡ true → list_any q (filter p vs) ≡ true
filter_any q p h [] e = e
filter_any q p h (v ∷ vs) e =
    or_cases (q v) (list_any q vs) e
    (λ here. subst (λ b. list_any q (cond b (v ∷ filter p vs) (filter p vs)) ≡ true) (sym (h v here)) (or_left (q v) (list_any q (filter p vs)) here))
    (λ later. kept (p v) (filter_any q p h vs later))
  where
    kept : (b : Bool) → list_any q (filter p vs) ≡ true → list_any q (cond b (v ∷ filter p vs) (filter p vs)) ≡ true
    kept true k = or_right (q v) (list_any q (filter p vs)) k
    kept false k = k

any_like : (d v : Strided) (xs : List Strided) → identical d v ≡ true → list_any (identical v) xs ≡ true → list_any (identical d) xs ≡ true
any_like d v [] s e = e
any_like d v (x ∷ xs) s e =
    or_cases (identical v x) (list_any (identical v) xs) e (λ here. or_left (identical d x) _ (identical_trans d v x s here)) (λ later. or_right (identical d x) _ (any_like d v xs s later))

-- what the distinct views of some weigh, counted by the distinct views of all
pub distinct_total : (w : Strided → ℕ) → ((u v : Strided) → identical u v ≡ true → w u ≡ w v) → (all xs : List Strided) → AllByRecursion (Found all) xs
    → total w (distinct identical xs) ≡ sum_below (λ c. cond (list_any (identical (get_or (distinct identical all) c no_view)) xs) (w (get_or (distinct identical all) c no_view)) 0) (length (distinct identical all))
distinct_total w weighs all xs found =
    let ds : List Strided = distinct identical all in
    let p : Strided → Bool = λ d. list_any (identical d) xs in
    let small : total w (distinct identical xs) ≤ total w (filter p ds) =
    covered identical identical_symm identical_trans w weighs (distinct identical xs) (filter p ds) (distinct_apart identical identical_symm identical_trans w weighs xs)
    (distinct_all identical identical_symm identical_trans w weighs (λ x. list_any (identical x) (filter p ds) ≡ true) xs
    (here xs (λ x m. m) found)) in
    let large : total w (filter p ds) ≤ total w (distinct identical xs) =
    covered identical identical_symm identical_trans w weighs (filter p ds) (distinct identical xs)
    (Pairs_filter (λ x y. identical y x ≡ false) p ds (Pairs_weaker (λ x y. identical y x ≡ false) (λ x y. p x ≡ true → p y ≡ true → identical y x ≡ false) (λ x y k _ _. k) ds (distinct_apart identical identical_symm identical_trans w weighs all)))
    (All_filter (λ d. list_any (identical d) (distinct identical xs) ≡ true) p ds (each ds)) in
    let even : total w (distinct identical xs) ≡ total w (filter p ds) = omega (arith, small, large) in
    even ∙ (total_filter p w ds ∙ total_below (λ d. cond (p d) (w d) 0) ds no_view)
  where
    each : (ds : List Strided) → AllByRecursion (λ d. list_any (identical d) xs ≡ true → list_any (identical d) (distinct identical xs) ≡ true) ds
    each [] = tt
    each (d ∷ ds) = ((λ h. distinct_there identical identical_symm identical_trans w weighs d xs h), each ds)

    -- a view of the list is like a distinct one, which passes
    here : (ys : List Strided) → ((y : Strided) → list_any (identical y) ys ≡ true → list_any (identical y) xs ≡ true) → AllByRecursion (Found all) ys
        → AllByRecursion (λ x. list_any (identical x) (filter (λ d. list_any (identical d) xs) (distinct identical all)) ≡ true) ys
    here [] sub f = tt
    here (y ∷ ys) sub f = (
      filter_any (identical y) (λ d. list_any (identical d) xs)
          (λ v s. any_like v y xs (identical_symm y v s) (sub y (or_left (identical y y) (list_any (identical y) ys) (itself y))))
          (distinct identical all) (distinct_there identical identical_symm identical_trans w weighs y all f.0),
      here ys (λ z h. sub z (or_right (identical z y) (list_any (identical z) ys) h)) f.1,
    )

-- ---- the operations of a block

any_found : (q : Op → Bool) (block : List ℕ) (a : ℕ) (xs : List Op) (i : ℕ) → i < length xs → has block (a + i) ≡ true → q (get_or xs i nothing) ≡ true → list_any q (ops_of (enumerate_from a xs) block) ≡ true
any_found q block a [] i l h e = absurd (omega arith)
any_found q block a (x ∷ xs) zero l h e =
    subst (λ b. list_any q (cond b (x ∷ ops_of (enumerate_from (a + 1) xs) block) (ops_of (enumerate_from (a + 1) xs) block)) ≡ true) (sym (subst (λ k. has block k ≡ true) (omega arith) h)) (or_left (q x) _ e)
any_found q block a (x ∷ xs) (suc i) l h e = later (has block a) (any_found q block (a + 1) xs i (omega arith) (subst (λ k. has block k ≡ true) (omega arith) h) e)
  where
    later : (b : Bool) → list_any q (ops_of (enumerate_from (a + 1) xs) block) ≡ true → list_any q (cond b (x ∷ ops_of (enumerate_from (a + 1) xs) block) (ops_of (enumerate_from (a + 1) xs) block)) ≡ true
    later true k = or_right (q x) _ k
    later false k = k

abbrev Origin : (Op → Bool) → List ℕ → ℕ → List Op → Type 0
Origin q block a xs = (i : ℕ) × (i < length xs) × (has block (a + i) ≡ true) × (q (get_or xs i nothing) ≡ true)

any_origin : (q : Op → Bool) (block : List ℕ) (a : ℕ) (xs : List Op) → list_any q (ops_of (enumerate_from a xs) block) ≡ true → Origin q block a xs
any_origin q block a [] e = absurd (true≢false (sym e))
any_origin q block a (x ∷ xs) e = go (has block a) refl e (any_origin q block (a + 1) xs)
  where
    later : Origin q block (a + 1) xs → Origin q block a (x ∷ xs)
    later r = (suc r.0, omega (arith, r.1), subst (λ k. has block k ≡ true) (omega arith) r.2, r.3)

    go : (b : Bool) → has block a ≡ b → list_any q (cond b (x ∷ ops_of (enumerate_from (a + 1) xs) block) (ops_of (enumerate_from (a + 1) xs) block)) ≡ true
        → (list_any q (ops_of (enumerate_from (a + 1) xs) block) ≡ true → Origin q block (a + 1) xs) → Origin q block a (x ∷ xs)
    go true t h ih = or_cases (q x) (list_any q (ops_of (enumerate_from (a + 1) xs) block)) h (λ k. (0, omega arith, subst (λ k. has block k ≡ true) (omega arith) t, k)) (λ k. later (ih k))
    go false t h ih = later (ih h)

all_ops_of : (Q : Op → Type 0) (block : List ℕ) (a : ℕ) (xs : List Op) → AllByRecursion Q xs → AllByRecursion Q (ops_of (enumerate_from a xs) block)
all_ops_of Q block a [] h = tt
all_ops_of Q block a (x ∷ xs) h = go (has block a) (all_ops_of Q block (a + 1) xs h.1)
  where
    go : (b : Bool) → AllByRecursion Q (ops_of (enumerate_from (a + 1) xs) block) → AllByRecursion Q (cond b (x ∷ ops_of (enumerate_from (a + 1) xs) block) (ops_of (enumerate_from (a + 1) xs) block))
    go true k = (h.0, k)
    go false k = k

-- ---- the views of a block

and_or : (a b n : Bool) → ((a && n) || (b && n)) ≡ ((a || b) && n)
and_or true true true = refl
and_or true true false = refl
and_or true false true = refl
and_or true false false = refl
and_or false b n = refl

kept_one : (v : Strided) (keep : ℕ → Bool) (ws : List Strided) → list_any (identical v) (filter (λ (w : Strided). keep w.base) ws) ≡ (list_any (identical v) ws && keep v.base)
kept_one v keep [] = refl
kept_one v keep (w ∷ ws) =
    go (keep w.base) refl (kept_one v keep ws)
  where
    same : identical v w ≡ true → keep v.base ≡ keep w.base
    same e = ap keep ((alike v w e).base)

    inner : (b : Bool) → identical v w ≡ b → (k : Bool) → keep w.base ≡ k → list_any (identical v) (filter (λ (w : Strided). keep w.base) ws) ≡ (list_any (identical v) ws && keep v.base)
        → (cond k (b || list_any (identical v) (filter (λ (w : Strided). keep w.base) ws)) (list_any (identical v) (filter (λ (w : Strided). keep w.base) ws))) ≡ ((b || list_any (identical v) ws) && keep v.base)
    inner true e true k ih = sym (same e ∙ k)
    inner true e false k ih = ih ∙ (ap (λ m. list_any (identical v) ws && m) (same e ∙ k) ∙ (none (list_any (identical v) ws) ∙ sym (same e ∙ k)))
      where
        none : (b : Bool) → (b && false) ≡ false
        none true = refl
        none false = refl
    inner false e true k ih = ih
    inner false e false k ih = ih

    go : (k : Bool) → keep w.base ≡ k → list_any (identical v) (filter (λ (w : Strided). keep w.base) ws) ≡ (list_any (identical v) ws && keep v.base)
        → list_any (identical v) (cond k (w ∷ filter (λ (w : Strided). keep w.base) ws) (filter (λ (w : Strided). keep w.base) ws)) ≡ ((identical v w || list_any (identical v) ws) && keep v.base)
    go true k ih = inner (identical v w) refl true k ih
    go false k ih = inner (identical v w) refl false k ih

kept_all : (v : Strided) (of : Op → List Strided) (keep : ℕ → Bool) (ops : List Op) → list_any (identical v) (flat_map (λ (op : Op). filter (λ (w : Strided). keep w.base) (of op)) ops) ≡ (list_any (λ op. list_any (identical v) (of op)) ops && keep v.base)
kept_all v of keep [] = refl
kept_all v of keep (op ∷ ops) =
    list_any-append (identical v) (filter (λ (w : Strided). keep w.base) (of op)) (flat_map (λ (op : Op). filter (λ (w : Strided). keep w.base) (of op)) ops)
    ∙ (ap₂ (λ a b. a || b) (kept_one v keep (of op)) (kept_all v of keep ops)
    ∙ and_or (list_any (identical v) (of op)) (list_any (λ op. list_any (identical v) (of op)) ops) (keep v.base))

all_join : (P : Strided → Type 0) (us vs : List Strided) → AllByRecursion P us → AllByRecursion P vs → AllByRecursion P (us ++ vs)
all_join P [] vs a b = b
all_join P (u ∷ us) vs a b = (a.0, all_join P us vs a.1 b)

found_before : (us vs : List Strided) (v : Strided) → Found us v → Found (us ++ vs) v
found_before us vs v h = list_any-append (identical v) us vs ∙ or_left (list_any (identical v) us) (list_any (identical v) vs) h

found_after : (us vs : List Strided) (v : Strided) → Found vs v → Found (us ++ vs) v
found_after us vs v h = list_any-append (identical v) us vs ∙ or_right (list_any (identical v) us) (list_any (identical v) vs) h

all_flat : (P : Strided → Type 0) (g : Op → List Strided) (ops : List Op) → AllByRecursion (λ op. AllByRecursion P (g op)) ops → AllByRecursion P (flat_map g ops)
all_flat P g [] h = tt
all_flat P g (op ∷ ops) h = all_join P (g op) (flat_map g ops) h.0 (all_flat P g ops h.1)

split : (P : Strided → Type 0) (us vs : List Strided) → AllByRecursion P (us ++ vs) → AllByRecursion P us × AllByRecursion P vs
split P [] vs h = (tt, h)
split P (u ∷ us) vs h = let r = split P us vs h.1 in ((h.0, r.0), r.1)

self_found : (vs : List Strided) → AllByRecursion (Found vs) vs
self_found [] = tt
self_found (v ∷ vs) = (or_left (identical v v) (list_any (identical v) vs) (itself v), All_weaker (Found vs) (Found (v ∷ vs)) (λ u h. or_right (identical u v) (list_any (identical u) vs) h) vs (self_found vs))

views_found : (list : List Op) → AllByRecursion (λ op. AllByRecursion (Found (flat_map views list)) (views op)) list
views_found [] = tt
views_found (op ∷ list) = (
  All_weaker (Found (views op)) (Found (views op ++ flat_map views list)) (λ v h. found_before (views op) (flat_map views list) v h) (views op) (self_found (views op)),
  All_weaker (λ other. AllByRecursion (Found (flat_map views list)) (views other)) (λ other. AllByRecursion (Found (views op ++ flat_map views list)) (views other))
      (λ other h. All_weaker (Found (flat_map views list)) (Found (views op ++ flat_map views list)) (λ v k. found_after (views op) (flat_map views list) v k) (views other) h) list (views_found list),
)

all_kept : (P : Strided → Type 0) (keep : ℕ → Bool) (ws : List Strided) → AllByRecursion P ws → AllByRecursion P (filter (λ (w : Strided). keep w.base) ws)
all_kept P keep ws h = All_filter P (λ (w : Strided). keep w.base) ws (All_weaker P (λ w. keep w.base ≡ true → P w) (λ w p _. p) ws h)

-- ---- creators and FREEs

creator_once : (list : List Op) → is_formed list ≡ true → (f g b : ℕ) → f < g → makes_base (op_at list f) b ≡ true → makes_base (op_at list g) b ≡ true → ⊥
creator_once list formed f g b l e d =
    let p = and_parts (op_at list f).makes (list_any (λ (o : Strided). o.base == b) (outputs (op_at list f))) e in
    let q = and_parts (op_at list g).makes (list_any (λ (o : Strided). o.base == b) (outputs (op_at list g))) d in
    let r = and_parts (not (op_at list g).makes || list_all (λ (o : Strided). not (has (named (op_at list f)) o.base)) (outputs (op_at list g))) (list_all (λ d. not (has (named (op_at list g)) d)) (freed (op_at list f))) (precedes list formed f g l) in
    or_cases (not (op_at list g).makes) (list_all (λ (o : Strided). not (has (named (op_at list f)) o.base)) (outputs (op_at list g))) r.0
    (λ n. true≢false (sym q.0 ∙ not-true _ n)) (λ h. clash (op_at list g).out q.1 h)
  where
    in_outputs : (o : Option Strided) (rest : List ℕ) → list_any (λ (o : Strided). o.base == b) (option_to_list o) ≡ true → has (map (λ (o : Strided). o.base) (option_to_list o) ++ rest) b ≡ true
    in_outputs None rest h = absurd (true≢false (sym h))
    in_outputs (Some o) rest h = or_cases (o.base == b) false h (λ k. or_left (b == o.base) (has rest b) (eq-eqb b o.base (sym (eqb-true o.base b k)))) (λ k. absurd (true≢false (sym k)))

    named_made : has (named (op_at list f)) b ≡ true
    named_made =
        let p = and_parts (op_at list f).makes (list_any (λ (o : Strided). o.base == b) (outputs (op_at list f))) e in
        list_any-append (λ x. b == x) (map (λ (v : Strided). v.base) (views (op_at list f))) (freed (op_at list f))
        ∙ or_left (has (map (λ (v : Strided). v.base) (views (op_at list f))) b) (has (freed (op_at list f)) b)
        (subst (λ xs. has xs b ≡ true) (sym (map-append (λ (v : Strided). v.base) (outputs (op_at list f)) (inputs (op_at list f)))) (in_outputs (op_at list f).out (map (λ (v : Strided). v.base) (inputs (op_at list f))) p.1))

    clash : (o : Option Strided) → list_any (λ (o : Strided). o.base == b) (option_to_list o) ≡ true → list_all (λ (o : Strided). not (has (named (op_at list f)) o.base)) (option_to_list o) ≡ true → ⊥
    clash None h k = true≢false (sym h)
    clash (Some o) h k =
        or_cases (o.base == b) false h
        (λ s. let m = and_parts (not (has (named (op_at list f)) o.base)) true k in true≢false (sym (subst (λ x. has (named (op_at list f)) x ≡ true) (sym (eqb-true o.base b s)) named_made) ∙ not-true _ m.0))
        (λ s. true≢false (sym s))

freer_once : (list : List Op) → is_formed list ≡ true → (f g b : ℕ) → f < g → has (freed (op_at list f)) b ≡ true → has (freed (op_at list g)) b ≡ true → ⊥
freer_once list formed f g b l e d =
    let r = and_parts (not (op_at list g).makes || list_all (λ (o : Strided). not (has (named (op_at list f)) o.base)) (outputs (op_at list g))) (list_all (λ d. not (has (named (op_at list g)) d)) (freed (op_at list f))) (precedes list formed f g l) in
    clash (op_at list f).frees e r.1
  where
    clash : (o : Option ℕ) → has (option_to_list o) b ≡ true → list_all (λ d. not (has (named (op_at list g)) d)) (option_to_list o) ≡ true → ⊥
    clash None h k = true≢false (sym h)
    clash (Some a) h k =
        or_cases (b == a) false h
        (λ s. let m = and_parts (not (has (named (op_at list g)) a)) true k in
        true≢false (sym (subst (λ x. has (named (op_at list g)) x ≡ true) (eqb-true b a s)
        (list_any-append (λ x. b == x) (map (λ (v : Strided). v.base) (views (op_at list g))) (freed (op_at list g)) ∙ or_right (has (map (λ (v : Strided). v.base) (views (op_at list g))) b) (has (freed (op_at list g)) b) d)) ∙ not-true _ m.0))
        (λ s. true≢false (sym s))

any_first : (test : Op → Bool) (xs : List Op) (i : ℕ) → i < length xs → test (get_or xs i nothing) ≡ true → list_any test xs ≡ true
any_first test [] i l e = absurd (omega arith)
any_first test (x ∷ xs) zero l e = or_left (test x) (list_any test xs) e
any_first test (x ∷ xs) (suc i) l e = or_right (test x) (list_any test xs) (any_first test xs i (omega arith) e)

op_first : (test : Op → Bool) (list : List Op) (f : ℕ) → is_op (problem_of list) f ≡ true → test (op_at list f) ≡ true → list_any test list ≡ true
op_first test list zero op e = absurd (let r : (1 ≤ 0) × (0 ≤ length list) = op_range (problem_of list) zero op in omega (arith, r.0))
op_first test list (suc i) op e = let r : (1 ≤ suc i) × (suc i ≤ length list) = op_range (problem_of list) (suc i) op in any_first test list i (omega (arith, r.1)) e

-- where at most one operation passes, a block has one that passes exactly where the first of the list stands there
only_one : (list : List Op) (test : Op → Bool) → ((f g : ℕ) → f < g → test (op_at list f) ≡ true → test (op_at list g) ≡ true → ⊥) → (at : ℕ → ℕ) (k : ℕ)
    → not (list_any (λ f. (at f == k) && test (op_at list f)) (operations (problem_of list))) ≡ outside_at at k (first_where test list)
only_one list test once at k = go (first_where test list) refl
  where
    P : Problem
    P = problem_of list

    none : list_any test list ≡ false → first_where test list ≡ None
    none e = ap (λ b. cond b (Some (suc (position_or_len test list))) None) e

    some : first_where test list ≡ None → list_any test list ≡ false
    some e = by (list_any test list) refl e
      where
        by : (b : Bool) → list_any test list ≡ b → cond b (Some (suc (position_or_len test list))) None ≡ None → list_any test list ≡ false
        by true t h = absurd (cc)
        by false t h = t

    go : (o : Option ℕ) → first_where test list ≡ o → not (list_any (λ f. (at f == k) && test (op_at list f)) (operations (problem_of list))) ≡ outside_at at k o
    go None is =
        ap not (false_from_ne_true (list_any (λ f. (at f == k) && test (op_at list f)) (operations P)) (λ e.
        let x = any_witness (λ f. (at f == k) && test (op_at list f)) (operations P) e in
        let y = and_parts (at x.0 == k) (test (op_at list x.0)) x.2 in
        true≢false (sym (op_first test list x.0 (ops_are P x.0 x.1) y.1) ∙ some is)))
    go (Some g) is =
        let h = first_passes test list g is in
        ap not (bool_ext (list_any (λ f. (at f == k) && test (op_at list f)) (operations P)) (at g == k)
        (λ e.
        let x = any_witness (λ f. (at f == k) && test (op_at list f)) (operations P) e in
        let y = and_parts (at x.0 == k) (test (op_at list x.0)) x.2 in
        let same : x.0 ≡ g =
        ⊎_elim (λ s. s) (λ (ne : x.0 ≡ g → ⊥). ⊎_elim (λ l. absurd (once x.0 g l y.1 h.1)) (λ (le : g ≤ x.0). absurd (once g x.0 (⊎_elim (λ l. l) (λ (k : x.0 ≤ g). absurd (ne (omega arith))) (cases_lt g x.0)) h.1 y.1)) (cases_lt x.0 g)) (cases_eq x.0 g) in
        subst (λ f. (at f == k) ≡ true) same y.0)
        (λ e. any_of (λ f. (at f == k) && test (op_at list f)) (operations P) g (has_ops P g h.0) (and_from (at g == k) (test (op_at list g)) e h.1)))

-- ---- the whole

module _ (list : List Op) (plan : List (List ℕ)) (formed : is_formed list ≡ true) (legal : is_legal list plan ≡ true) where
  abbrev P : Problem
  P = problem_of list

  parts : (list_all (λ (x : ℕ × Op). holders plan x.0 == 1) (numbered list) ≡ true) × (all_pairs (pair_legal plan) (numbered list) ≡ true)
  parts =
      let p = and_parts (list_all (λ block. not_empty block && list_all (λ i. nat_lt 0 i && nat_le i (length list)) block) plan) (list_all (λ (x : ℕ × Op). holders plan x.0 == 1) (numbered list) && all_pairs (pair_legal plan) (numbered list)) legal in
      and_parts (list_all (λ (x : ℕ × Op). holders plan x.0 == 1) (numbered list)) (all_pairs (pair_legal plan) (numbered list)) p.1

  held : (i : ℕ) → i < length list → holders plan (suc i) ≡ 1
  held i l =
      let e : (holders plan (1 + i) == 1) ≡ true =
      subst (λ (x : ℕ × Op). (holders plan x.0 == 1) ≡ true) (get_or-enumerate_from 1 list i (0, nothing) l) (all_at (λ (x : ℕ × Op). holders plan x.0 == 1) (numbered list) i (0, nothing) (omega (arith, length-enumerate_from 1 list, l)) parts.0) in
      subst (λ k. holders plan k ≡ 1) (omega arith) (eqb-true (holders plan (1 + i)) 1 e)

  once : (f : ℕ) → is_op P f ≡ true → holders plan f ≡ 1
  once zero op = absurd (let r : (1 ≤ 0) × (0 ≤ length list) = op_range P zero op in omega (arith, r.0))
  once (suc i) op = let r : (1 ≤ suc i) × (suc i ≤ length list) = op_range P (suc i) op in held i (omega (arith, r.1))

  pair_at : (i j : ℕ) → i < j → j < length list → pair_legal plan (suc i, get_or list i nothing) (suc j, get_or list j nothing) ≡ true
  pair_at i j l m =
      let e : pair_legal plan (get_or (numbered list) i (0, nothing)) (get_or (numbered list) j (0, nothing)) ≡ true =
      pairs_within (pair_legal plan) (numbered list) (0, nothing) i j l (omega (arith, length-enumerate_from 1 list, m)) parts.1 in
      subst (λ (x : ℕ × Op). pair_legal plan x (suc j, get_or list j nothing) ≡ true) (get_or-enumerate_from 1 list i (0, nothing) (omega arith) ∙ ap (λ (k : ℕ). (k, get_or list i nothing)) (omega arith))
      (subst (λ (x : ℕ × Op). pair_legal plan (get_or (numbered list) i (0, nothing)) x ≡ true) (get_or-enumerate_from 1 list j (0, nothing) m ∙ ap (λ (k : ℕ). (k, get_or list j nothing)) (omega arith)) e)
    where
      pairs_within : {X : Type 0} (t : X → X → Bool) (xs : List X) (d : X) (i j : ℕ) → i < j → j < length xs → all_pairs t xs ≡ true → t (get_or xs i d) (get_or xs j d) ≡ true
      pairs_within t [] d i j l m e = absurd (omega arith)
      pairs_within t (x ∷ xs) d i zero l m e = absurd (omega arith)
      pairs_within t (x ∷ xs) d zero (suc j) l m e = all_at (t x) xs j d (omega arith) (and_parts (list_all (t x) xs) (all_pairs t xs) e).0
      pairs_within t (x ∷ xs) d (suc i) (suc j) l m e = pairs_within t xs d i j (omega arith) (omega arith) (and_parts (list_all (t x) xs) (all_pairs t xs) e).1

  pair_legal_at : (f g : ℕ) → is_op P f ≡ true → is_op P g ≡ true → f < g → pair_legal plan (f, op_at list f) (g, op_at list g) ≡ true
  pair_legal_at zero g of og l = absurd (let r : (1 ≤ 0) × (0 ≤ length list) = op_range P zero of in omega (arith, r.0))
  pair_legal_at (suc i) zero of og l = absurd (omega arith)
  pair_legal_at (suc i) (suc j) of og l = let r : (1 ≤ suc j) × (suc j ≤ length list) = op_range P (suc j) og in pair_at i j (omega arith) (omega (arith, r.1))

  shared : (f g : ℕ) → is_op P f ≡ true → is_op P g ≡ true → f < g → place plan f ≡ place plan g → P.fusible f g ≡ true
  shared f g of og l same =
      let p = and_parts (not (place plan f == place plan g) || P.fusible f g) (not (dep (op_at list f) (op_at list g)) || nat_le (place plan f) (place plan g)) (pair_legal_at f g of og l) in
      or_cases (not (place plan f == place plan g)) (P.fusible f g) p.0 (λ no. absurd (eqb-false _ _ (not-true _ no) same)) (λ yes. yes)

  legal_at : IsLegalAt P (place plan) (length plan)
  legal_at =
      record {
        within = λ f op. holders_place plan f (once f op);
        together = λ f g pair same.
            let o = pair_ops P f g pair in
            ⊎_elim (λ l. shared f g o.0 o.1 l same)
            (λ (ge : g ≤ f). (proper list formed).even f g ∙ shared g f o.1 o.0 (⊎_elim (λ l. l) (λ (k : f ≤ g). absurd (eqb-false f g (not-true _ o.2) (omega arith))) (cases_lt g f)) (sym same))
            (cases_lt f g);
        forward = λ f g pair d.
            let o = pair_ops P f g pair in
            let e = and_parts (nat_lt f g) (dep (op_at list f) (op_at list g)) d in
            let p = and_parts (not (place plan f == place plan g) || P.fusible f g) (not (dep (op_at list f) (op_at list g)) || nat_le (place plan f) (place plan g)) (pair_legal_at f g o.0 o.1 (ltb-true f g e.0)) in
            or_cases (not (dep (op_at list f) (op_at list g))) (nat_le (place plan f) (place plan g)) p.1 (λ no. absurd (true≢false (sym e.1 ∙ not-true _ no))) (λ yes. leb-true (place plan f) (place plan g) yes);
      }

  -- the operations of the k-th block
  abbrev block_ops : ℕ → List Op
  block_ops k = ops_of (numbered list) (get_or plan k [])

  any_block : (q : Op → Bool) (k : ℕ) → list_any q (block_ops k) ≡ list_any (λ f. (place plan f == k) && q (op_at list f)) (operations P)
  any_block q k =
      bool_ext (list_any q (block_ops k)) (list_any (λ f. (place plan f == k) && q (op_at list f)) (operations P))
      (λ e.
      let r = any_origin q (get_or plan k []) 1 list e in
      let l : r.0 < length list = r.1 in
      let op : is_op P (suc r.0) ≡ true = op_from P (suc r.0) (omega arith) (omega arith) in
      any_of (λ f. (place plan f == k) && q (op_at list f)) (operations P) (suc r.0) (has_ops P (suc r.0) op)
      (and_from (place plan (suc r.0) == k) (q (get_or list r.0 nothing)) (sym (stands_at plan (suc r.0) k (once (suc r.0) op)) ∙ subst (λ m. has (get_or plan k []) m ≡ true) (omega arith) r.2) r.3))
      (λ e.
      let x = any_witness (λ f. (place plan f == k) && q (op_at list f)) (operations P) e in
      let y = and_parts (place plan x.0 == k) (q (op_at list x.0)) x.2 in
      back x.0 (ops_are P x.0 x.1) y.0 y.1)
    where
      back : (f : ℕ) → is_op P f ≡ true → (place plan f == k) ≡ true → q (op_at list f) ≡ true → list_any q (block_ops k) ≡ true
      back zero op s t = absurd (let r : (1 ≤ 0) × (0 ≤ length list) = op_range P zero op in omega (arith, r.0))
      back (suc i) op s t =
          let r : (1 ≤ suc i) × (suc i ≤ length list) = op_range P (suc i) op in
          any_found q (get_or plan k []) 1 list i (omega (arith, r.1)) (subst (λ m. has (get_or plan k []) m ≡ true) (omega arith) (stands_at plan (suc i) k (once (suc i) op) ∙ s)) t

  charged : (k c : ℕ) → list_any (identical (view_at list c)) (all_reads (block_ops k) ++ all_writes (block_ops k)) ≡ charged_at P (place plan) k c
  charged k c =
      let v : Strided = view_at list c in
      list_any-append (identical v) (all_reads (block_ops k)) (all_writes (block_ops k))
      ∙ ap₂ (λ a b. a || b)
      (kept_all v inputs (λ b. not (creates (block_ops k) b)) (block_ops k)
      ∙ ap₂ (λ a b. a && b) (any_block (λ op. list_any (identical v) (inputs op)) k)
      (ap not (any_block (λ op. makes_base op v.base) k) ∙ only_one list (λ op. makes_base op v.base) (λ f g. creator_once list formed f g v.base) (place plan) k))
      (kept_all v outputs (λ b. not (freed_by (block_ops k) b)) (block_ops k)
      ∙ ap₂ (λ a b. a && b) (any_block (λ op. list_any (identical v) (outputs op)) k)
      (ap not (any_block (λ op. has (freed op) v.base) k) ∙ only_one list (λ op. has (freed op) v.base) (λ f g. freer_once list formed f g v.base) (place plan) k))

  all_found : (k : ℕ) → AllByRecursion (Found (flat_map views list)) (all_reads (block_ops k) ++ all_writes (block_ops k))
  all_found k =
      let each = all_ops_of (λ op. AllByRecursion (Found (flat_map views list)) (views op)) (get_or plan k []) 1 list (views_found list) in
      let F : Strided → Type 0 = Found (flat_map views list) in
      all_join F (all_reads (block_ops k)) (all_writes (block_ops k))
      (all_flat F (λ (op : Op). filter (λ (w : Strided). not (creates (block_ops k) w.base)) (inputs op)) (block_ops k)
      (All_weaker (λ op. AllByRecursion F (views op)) _ (λ op h. all_kept F (λ b. not (creates (block_ops k) b)) (inputs op) (split F (outputs op) (inputs op) h).1) (block_ops k) each))
      (all_flat F (λ (op : Op). filter (λ (w : Strided). not (freed_by (block_ops k) w.base)) (outputs op)) (block_ops k)
      (All_weaker (λ op. AllByRecursion F (views op)) _ (λ op h. all_kept F (λ b. not (freed_by (block_ops k) b)) (outputs op) (split F (outputs op) (inputs op) h).0) (block_ops k) each))

  block_cost_at : (k : ℕ) → block_cost list (get_or plan k []) ≡ sum_below (λ c. cond (charged_at P (place plan) k c) (P.weight c) 0) P.classes
  block_cost_at k =
      distinct_total (weight list) (same_weight list) (flat_map views list) (all_reads (block_ops k) ++ all_writes (block_ops k)) (all_found k)
      ∙ sum_below-same (λ c. cond (list_any (identical (view_at list c)) (all_reads (block_ops k) ++ all_writes (block_ops k))) (P.weight c) 0) (λ c. cond (charged_at P (place plan) k c) (P.weight c) 0) P.classes
      (λ c l. ap (λ b. cond b (P.weight c) 0) (charged k c))

  pub agrees : Agrees list plan
  agrees =
      record {
        legal = legal_at;
        costs = sym (total_below (block_cost list) plan [] ∙ sum_below-same (λ k. block_cost list (get_or plan k [])) (λ k. sum_below (λ c. cond (charged_at P (place plan) k c) (P.weight c) 0) P.classes) (length plan) (λ k l. block_cost_at k));
      }
