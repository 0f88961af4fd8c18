-- One block reads and writes no more outside itself than its two parts do.
use Rattle.std.proofs.Common.{◌≡◌, ℕ, ◌+◌, ◌≤◌, List, [], ◌∷◌, ◌++◌, Bool, true, false, cond, not, ◌||◌, refl, ap, sym, ◌∙◌, arith}
use Rattle.std.proofs.lemmas.Bool.{false≢true, or_left, or_right}
use Rattle.std.proofs.lemmas.List.Folds.{list_any-append}
use Rattle.std.specs.Prelude.{nat_eq}
use Rattle.std.specs.List.{AllByRecursion, list_any, filter, flat_map}
use Rattle.arr_view.specs.Strided.{Strided}
use Rattle.arr_view.specs.Views.{identical, has}
use Rattle.arr_ops.specs.declared.op.Op.{Op}
use Rattle.arr_ops.specs.Ops.{inputs, outputs, creates, freed_by}
use Rattle.arr_ops.specs.Plans.{ops_of, numbered}
use Rattle.arr_ops.specs.Costs.{distinct, total, weight, all_reads, all_writes}
use Rattle.arr_ops.specs.Laws.{MergingSaves}
use Rattle.arr_ops.proofs.Pairs.{Pairs, All_weaker, All_filter, Pairs_filter, Pairs_weaker}
use Rattle.arr_ops.proofs.Tests.{or_cases}
use Rattle.arr_ops.proofs.Alike.{identical_symm, identical_trans, same_weight, identical_if}

-- ---- lists up to an equivalence

module _ {V : Type 0} (same : V → V → Bool) (symm : (u v : V) → same u v ≡ true → same v u ≡ true) (trans : (u v w : V) → same u v ≡ true → same v w ≡ true → same u w ≡ true)
    (w : V → ℕ) (weighs : (u v : V) → same u v ≡ true → w u ≡ w v) where
  -- the list without the first that is like v
  abbrev pub without : V → List V → List V
  without v [] = []
  without v (u ∷ us) = cond (same v u) us (u ∷ without v us)

  pub total_without : (v : V) (us : List V) → list_any (same v) us ≡ true → total w us ≡ w v + total w (without v us)
  total_without v [] h = absurd (false≢true h)
  total_without v (u ∷ us) h =
      elim (same v u) as (λ b. same v u ≡ b → (b || list_any (same v) us) ≡ true → w u + total w us ≡ w v + total w (cond b us (u ∷ without v us))) [
        | true ↦ λ e k. ap (λ n. n + total w us) (sym (weighs v u e))
        | false ↦ λ e k. let ih : total w us ≡ w v + total w (without v us) = total_without v us k in omega arith
      ] refl h

  pub still_there : (v d : V) (us : List V) → same d v ≡ false → list_any (same d) us ≡ true → list_any (same d) (without v us) ≡ true
  still_there v d [] n h = h
  still_there v d (u ∷ us) n h =
      elim (same v u) as (λ b. same v u ≡ b → list_any (same d) (cond b us (u ∷ without v us)) ≡ true) [
        | true ↦ λ e. or_cases (same d u) (list_any (same d) us) h (λ t. absurd (false≢true (sym n ∙ trans d u v t (symm v u e)))) (λ t. t)
        | false ↦ λ e. or_cases (same d u) (list_any (same d) us) h (λ t. or_left (same d u) (list_any (same d) (without v us)) t)
            (λ t. or_right (same d u) (list_any (same d) (without v us)) (still_there v d us n t))
      ] refl

  abbrev pub Apart : List V → Type 0
  Apart ds = Pairs (λ x y. same y x ≡ false) ds

  -- values that all differ, each like one of the others, weigh no more than those
  pub covered : (ds us : List V) → Apart ds → AllByRecursion (λ d. list_any (same d) us ≡ true) ds → total w ds ≤ total w us
  covered [] us a h = omega arith
  covered (d ∷ ds) us a h =
      let rest : total w ds ≤ total w (without d us) = covered ds (without d us) a.1 (moved ds a.0 h.1) in
      let whole : total w us ≡ w d + total w (without d us) = total_without d us h.0 in
      omega arith
    where
      moved : (es : List V) → AllByRecursion (λ e. same e d ≡ false) es → AllByRecursion (λ e. list_any (same e) us ≡ true) es → AllByRecursion (λ e. list_any (same e) (without d us) ≡ true) es
      moved [] p q = tt
      moved (e ∷ es) p q = (still_there d e us p.0 q.0, moved es p.1 q.1)

  -- ---- one of each class

  pub distinct_all : (P : V → Type 0) (vs : List V) → AllByRecursion P vs → AllByRecursion P (distinct same vs)
  distinct_all P [] h = tt
  distinct_all P (v ∷ vs) h =
      (h.0, All_filter P (λ u. not (same v u)) (distinct same vs) (All_weaker P (λ u. not (same v u) ≡ true → P u) (λ u p _. p) (distinct same vs) (distinct_all P vs h.1)))

  pub distinct_apart : (vs : List V) → Apart (distinct same vs)
  distinct_apart [] = tt
  distinct_apart (v ∷ vs) = (
    All_filter (λ u. same u v ≡ false) (λ u. not (same v u)) (distinct same vs) (unlike_first (distinct same vs)),
    Pairs_filter (λ x y. same y x ≡ false) (λ u. not (same v u)) (distinct same vs) (Pairs_weaker (λ x y. same y x ≡ false) (λ x y. not (same v x) ≡ true → not (same v y) ≡ true → same y x ≡ false) (λ x y p _ _. p) (distinct same vs) (distinct_apart vs)),
  )
    where
      turned : (u : V) → not (same v u) ≡ true → same u v ≡ false
      turned u h =
          elim (same u v) as (λ b. same u v ≡ b → b ≡ false) [ true ↦ λ e. absurd (false≢true (sym (ap not (symm u v e)) ∙ h)) | false ↦ λ e. refl ] refl

      unlike_first : (us : List V) → AllByRecursion (λ u. not (same v u) ≡ true → same u v ≡ false) us
      unlike_first [] = tt
      unlike_first (u ∷ us) = (turned u, unlike_first us)

  kept_there : (v d : V) (us : List V) → same d v ≡ false → list_any (same d) us ≡ true → list_any (same d) (filter (λ u. not (same v u)) us) ≡ true
  kept_there v d [] n h = h
  kept_there v d (u ∷ us) n h =
      elim (same v u) as (λ b. same v u ≡ b → list_any (same d) (cond (not b) (u ∷ filter (λ x. not (same v x)) us) (filter (λ x. not (same v x)) us)) ≡ true) [
        | true ↦ λ e. or_cases (same d u) (list_any (same d) us) h (λ t. absurd (false≢true (sym n ∙ trans d u v t (symm v u e)))) (λ t. kept_there v d us n t)
        | false ↦ λ e. or_cases (same d u) (list_any (same d) us) h (λ t. or_left (same d u) _ t) (λ t. or_right (same d u) _ (kept_there v d us n t))
      ] refl

  pub distinct_there : (d : V) (vs : List V) → list_any (same d) vs ≡ true → list_any (same d) (distinct same vs) ≡ true
  distinct_there d [] h = h
  distinct_there d (v ∷ vs) h =
      elim (same d v) as (λ b. same d v ≡ b → (b || list_any (same d) (filter (λ u. not (same v u)) (distinct same vs))) ≡ true) [
        | true ↦ λ e. refl
        | false ↦ λ e. kept_there v d (distinct same vs) e (or_cases (same d v) (list_any (same d) vs) h (λ t. absurd (false≢true (sym e ∙ t))) (λ t. distinct_there d vs t))
      ] refl

  total_join : (us vs : List V) → total w (us ++ vs) ≡ total w us + total w vs
  total_join [] vs = omega arith
  total_join (u ∷ us) vs = let ih : total w (us ++ vs) ≡ total w us + total w vs = total_join us vs in omega arith

  -- where each is like one of two lists
  pub two_cover : (vs us ws : List V) → AllByRecursion (λ v. (list_any (same v) us || list_any (same v) ws) ≡ true) vs
      → total w (distinct same vs) ≤ total w (distinct same us) + total w (distinct same ws)
  two_cover vs us ws h =
      let both : AllByRecursion (λ d. list_any (same d) (distinct same us ++ distinct same ws) ≡ true) (distinct same vs) =
      All_weaker (λ v. (list_any (same v) us || list_any (same v) ws) ≡ true) (λ d. list_any (same d) (distinct same us ++ distinct same ws) ≡ true)
      (λ d t. list_any-append (same d) (distinct same us) (distinct same ws)
      ∙ or_cases (list_any (same d) us) (list_any (same d) ws) t
      (λ p. or_left (list_any (same d) (distinct same us)) (list_any (same d) (distinct same ws)) (distinct_there d us p))
      (λ q. or_right (list_any (same d) (distinct same us)) (list_any (same d) (distinct same ws)) (distinct_there d ws q)))
      (distinct same vs) (distinct_all (λ v. (list_any (same v) us || list_any (same v) ws) ≡ true) vs h) in
      let c : total w (distinct same vs) ≤ total w (distinct same us ++ distinct same ws) = covered (distinct same vs) (distinct same us ++ distinct same ws) (distinct_apart vs) both in
      let j : total w (distinct same us ++ distinct same ws) ≡ total w (distinct same us) + total w (distinct same ws) = total_join (distinct same us) (distinct same ws) in
      omega arith

-- ---- the views of a block and of its parts

itself : (v : Strided) → identical v v ≡ true
itself v = identical_if v v (record { base = refl; lengths = refl; places = refl })

has_join : (is js : List ℕ) (k : ℕ) → has (is ++ js) k ≡ (has is k || has js k)
has_join is js k = list_any-append (nat_eq k) is js

-- what a test finds in a part it finds in the whole
grows_left : (t : Op → Bool) (left right : List ℕ) (xs : List (ℕ × Op)) → list_any t (ops_of xs left) ≡ true → list_any t (ops_of xs (left ++ right)) ≡ true
grows_left t left right [] h = h
grows_left t left right (x ∷ xs) h =
    ap (λ b. list_any t (cond b (x.1 ∷ ops_of xs (left ++ right)) (ops_of xs (left ++ right)))) (has_join left right x.0)
    ∙ elim (has left x.0) as (λ b. list_any t (cond b (x.1 ∷ ops_of xs left) (ops_of xs left)) ≡ true → list_any t (cond (b || has right x.0) (x.1 ∷ ops_of xs (left ++ right)) (ops_of xs (left ++ right))) ≡ true) [
      | true ↦ λ k. or_cases (t x.1) (list_any t (ops_of xs left)) k (λ p. or_left (t x.1) _ p) (λ p. or_right (t x.1) _ (grows_left t left right xs p))
      | false ↦ λ k. later (has right x.0) (grows_left t left right xs k)
    ] h
  where
    later : (b : Bool) → list_any t (ops_of xs (left ++ right)) ≡ true → list_any t (cond b (x.1 ∷ ops_of xs (left ++ right)) (ops_of xs (left ++ right))) ≡ true
    later true k = or_right (t x.1) _ k
    later false k = k

grows_right : (t : Op → Bool) (left right : List ℕ) (xs : List (ℕ × Op)) → list_any t (ops_of xs right) ≡ true → list_any t (ops_of xs (left ++ right)) ≡ true
grows_right t left right [] h = h
grows_right t left right (x ∷ xs) h =
    ap (λ b. list_any t (cond b (x.1 ∷ ops_of xs (left ++ right)) (ops_of xs (left ++ right)))) (has_join left right x.0)
    ∙ elim (has right x.0) as (λ b. list_any t (cond b (x.1 ∷ ops_of xs right) (ops_of xs right)) ≡ true → list_any t (cond (has left x.0 || b) (x.1 ∷ ops_of xs (left ++ right)) (ops_of xs (left ++ right))) ≡ true) [
      | true ↦ λ k. or_cases (t x.1) (list_any t (ops_of xs right)) k (λ p. first (has left x.0) p) (λ p. later (has left x.0 || true) (grows_right t left right xs p))
      | false ↦ λ k. later (has left x.0 || false) (grows_right t left right xs k)
    ] h
  where
    later : (b : Bool) → list_any t (ops_of xs (left ++ right)) ≡ true → list_any t (cond b (x.1 ∷ ops_of xs (left ++ right)) (ops_of xs (left ++ right))) ≡ true
    later true k = or_right (t x.1) _ k
    later false k = k

    first : (b : Bool) → t x.1 ≡ true → list_any t (cond (b || true) (x.1 ∷ ops_of xs (left ++ right)) (ops_of xs (left ++ right))) ≡ true
    first true k = or_left (t x.1) _ k
    first false k = or_left (t x.1) _ k

abbrev pub kept_views : (Op → List Strided) → (ℕ → Bool) → List Op → List Strided
kept_views of keep ops = flat_map (λ (op : Op). filter (λ (v : Strided). keep v.base) (of op)) ops

-- v is like one of the list
abbrev pub Found : List Strided → Strided → Type 0
Found us v = list_any (identical v) us ≡ true

filter_found : (keep more : ℕ → Bool) → ((b : ℕ) → keep b ≡ true → more b ≡ true) → (vs : List Strided) → AllByRecursion (Found (filter (λ (v : Strided). more v.base) vs)) (filter (λ (v : Strided). keep v.base) vs)
filter_found keep more h [] = tt
filter_found keep more h (v ∷ vs) =
    elim (keep v.base) as (λ b. keep v.base ≡ b → AllByRecursion (Found (filter (λ (u : Strided). more u.base) (v ∷ vs))) (cond b (v ∷ filter (λ (u : Strided). keep u.base) vs) (filter (λ (u : Strided). keep u.base) vs))) [
      | true ↦ λ e. (ap (λ c. list_any (identical v) (cond c (v ∷ filter (λ (u : Strided). more u.base) vs) (filter (λ (u : Strided). more u.base) vs))) (h v.base e) ∙ or_left (identical v v) _ (itself v), longer (more v.base) (filter_found keep more h vs))
      | false ↦ λ e. longer (more v.base) (filter_found keep more h vs)
    ] refl
  where
    longer : (c : Bool) → AllByRecursion (Found (filter (λ (u : Strided). more u.base) vs)) (filter (λ (u : Strided). keep u.base) vs)
        → AllByRecursion (Found (cond c (v ∷ filter (λ (u : Strided). more u.base) vs) (filter (λ (u : Strided). more u.base) vs))) (filter (λ (u : Strided). keep u.base) vs)
    longer true k = All_weaker (Found (filter (λ (u : Strided). more u.base) vs)) (Found (v ∷ filter (λ (u : Strided). more u.base) vs)) (λ u k. or_right (identical u v) _ k) (filter (λ (u : Strided). keep u.base) vs) k
    longer false k = k

all_join : {X : Type 0} (P : X → Type 0) (xs ys : List X) → AllByRecursion P xs → AllByRecursion P ys → AllByRecursion P (xs ++ ys)
all_join P [] ys a b = b
all_join P (x ∷ xs) ys a b = (a.0, all_join P xs ys a.1 b)

abbrev pub InEither : List Strided → List Strided → Strided → Type 0
InEither us ws v = (list_any (identical v) us || list_any (identical v) ws) ≡ true

found_before : (us ws : List Strided) (v : Strided) → Found us v → Found (us ++ ws) v
found_before us ws v h = list_any-append (identical v) us ws ∙ or_left (list_any (identical v) us) (list_any (identical v) ws) h

found_after : (us ws : List Strided) (v : Strided) → Found ws v → Found (us ++ ws) v
found_after us ws v h = list_any-append (identical v) us ws ∙ or_right (list_any (identical v) us) (list_any (identical v) ws) h

module _ (of : Op → List Strided) (keep left_keep right_keep : ℕ → Bool) (a : (b : ℕ) → keep b ≡ true → left_keep b ≡ true) (b : (c : ℕ) → keep c ≡ true → right_keep c ≡ true) (left right : List ℕ) where
  views_found : (xs : List (ℕ × Op)) → AllByRecursion (InEither (kept_views of left_keep (ops_of xs left)) (kept_views of right_keep (ops_of xs right))) (kept_views of keep (ops_of xs (left ++ right)))
  views_found [] = tt
  views_found (x ∷ xs) =
      elim (has (left ++ right) x.0) as (λ t. has (left ++ right) x.0 ≡ t → AllByRecursion (InEither (kept_views of left_keep (ops_of (x ∷ xs) left)) (kept_views of right_keep (ops_of (x ∷ xs) right))) (kept_views of keep (cond t (x.1 ∷ ops_of xs (left ++ right)) (ops_of xs (left ++ right))))) [
        | true ↦ λ e. all_join (InEither (kept_views of left_keep (ops_of (x ∷ xs) left)) (kept_views of right_keep (ops_of (x ∷ xs) right))) (filter (λ (v : Strided). keep v.base) (of x.1)) _ (here (has left x.0) (has right x.0) (sym (has_join left right x.0) ∙ e)) (rest (has left x.0) (has right x.0) (views_found xs))
        | false ↦ λ e. rest (has left x.0) (has right x.0) (views_found xs)
      ] refl
    where
      rest : (s t : Bool) → AllByRecursion (InEither (kept_views of left_keep (ops_of xs left)) (kept_views of right_keep (ops_of xs right))) (kept_views of keep (ops_of xs (left ++ right))) → AllByRecursion (λ v. (list_any (identical v) (kept_views of left_keep (cond s (x.1 ∷ ops_of xs left) (ops_of xs left))) || list_any (identical v) (kept_views of right_keep (cond t (x.1 ∷ ops_of xs right) (ops_of xs right)))) ≡ true) (kept_views of keep (ops_of xs (left ++ right)))
      rest s t ih =
          All_weaker (InEither (kept_views of left_keep (ops_of xs left)) (kept_views of right_keep (ops_of xs right))) _
          (λ v h. or_cases (list_any (identical v) (kept_views of left_keep (ops_of xs left))) (list_any (identical v) (kept_views of right_keep (ops_of xs right))) h
          (λ p. or_left _ (list_any (identical v) (kept_views of right_keep (cond t (x.1 ∷ ops_of xs right) (ops_of xs right)))) (left_longer s v p))
          (λ p. or_right (list_any (identical v) (kept_views of left_keep (cond s (x.1 ∷ ops_of xs left) (ops_of xs left)))) _ (right_longer t v p)))
          (kept_views of keep (ops_of xs (left ++ right))) ih
        where
          left_longer : (s : Bool) (v : Strided) → list_any (identical v) (kept_views of left_keep (ops_of xs left)) ≡ true → list_any (identical v) (kept_views of left_keep (cond s (x.1 ∷ ops_of xs left) (ops_of xs left))) ≡ true
          left_longer true v p = found_after (filter (λ (u : Strided). left_keep u.base) (of x.1)) (kept_views of left_keep (ops_of xs left)) v p
          left_longer false v p = p

          right_longer : (t : Bool) (v : Strided) → list_any (identical v) (kept_views of right_keep (ops_of xs right)) ≡ true → list_any (identical v) (kept_views of right_keep (cond t (x.1 ∷ ops_of xs right) (ops_of xs right))) ≡ true
          right_longer true v p = found_after (filter (λ (u : Strided). right_keep u.base) (of x.1)) (kept_views of right_keep (ops_of xs right)) v p
          right_longer false v p = p

      here : (s t : Bool) → (s || t) ≡ true → AllByRecursion (λ v. (list_any (identical v) (kept_views of left_keep (cond s (x.1 ∷ ops_of xs left) (ops_of xs left))) || list_any (identical v) (kept_views of right_keep (cond t (x.1 ∷ ops_of xs right) (ops_of xs right)))) ≡ true) (filter (λ (v : Strided). keep v.base) (of x.1))
      here true t e =
          All_weaker (Found (filter (λ (u : Strided). left_keep u.base) (of x.1))) _
          (λ v h. or_left _ _ (found_before (filter (λ (u : Strided). left_keep u.base) (of x.1)) (kept_views of left_keep (ops_of xs left)) v h))
          (filter (λ (v : Strided). keep v.base) (of x.1)) (filter_found keep left_keep a (of x.1))
      here false true e =
          All_weaker (Found (filter (λ (u : Strided). right_keep u.base) (of x.1))) _
          (λ v h. or_right (list_any (identical v) (kept_views of left_keep (ops_of xs left))) _ (found_before (filter (λ (u : Strided). right_keep u.base) (of x.1)) (kept_views of right_keep (ops_of xs right)) v h))
          (filter (λ (v : Strided). keep v.base) (of x.1)) (filter_found keep right_keep b (of x.1))
      here false false e = absurd (false≢true e)

-- a base that the whole does not create, no part creates
narrowed : (whole part : Bool) → (part ≡ true → whole ≡ true) → not whole ≡ true → not part ≡ true
narrowed true part h e = absurd (false≢true e)
narrowed false true h e = absurd (false≢true (h refl))
narrowed false false h e = refl

either_before : (us vs ws xs : List Strided) (v : Strided) → InEither us ws v → InEither (us ++ vs) (ws ++ xs) v
either_before us vs ws xs v h =
    or_cases (list_any (identical v) us) (list_any (identical v) ws) h (λ p. or_left _ _ (found_before us vs v p)) (λ p. or_right (list_any (identical v) (us ++ vs)) _ (found_before ws xs v p))

either_after : (us vs ws xs : List Strided) (v : Strided) → InEither vs xs v → InEither (us ++ vs) (ws ++ xs) v
either_after us vs ws xs v h =
    or_cases (list_any (identical v) vs) (list_any (identical v) xs) h (λ p. or_left _ _ (found_after us vs v p)) (λ p. or_right (list_any (identical v) (us ++ vs)) _ (found_after ws xs v p))

pub merging_saves : MergingSaves
merging_saves list left right =
    let xs : List (ℕ × Op) = numbered list in
    let L : List Op = ops_of xs left in
    let R : List Op = ops_of xs right in
    let W : List Op = ops_of xs (left ++ right) in
    let reads = views_found inputs (λ k. not (creates W k)) (λ k. not (creates L k)) (λ k. not (creates R k))
    (λ k. narrowed (creates W k) (creates L k) (grows_left _ left right xs)) (λ k. narrowed (creates W k) (creates R k) (grows_right _ left right xs)) left right xs in
    let writes = views_found outputs (λ k. not (freed_by W k)) (λ k. not (freed_by L k)) (λ k. not (freed_by R k))
    (λ k. narrowed (freed_by W k) (freed_by L k) (grows_left _ left right xs)) (λ k. narrowed (freed_by W k) (freed_by R k) (grows_right _ left right xs)) left right xs in
    two_cover identical identical_symm identical_trans (weight list) (same_weight list) (all_reads W ++ all_writes W) (all_reads L ++ all_writes L) (all_reads R ++ all_writes R)
    (all_join (InEither (all_reads L ++ all_writes L) (all_reads R ++ all_writes R)) (all_reads W) (all_writes W)
    (All_weaker (InEither (all_reads L) (all_reads R)) _ (λ v h. either_before (all_reads L) (all_writes L) (all_reads R) (all_writes R) v h) (all_reads W) reads)
    (All_weaker (InEither (all_writes L) (all_writes R)) _ (λ v h. either_after (all_reads L) (all_writes L) (all_reads R) (all_writes R) v h) (all_writes W) writes))
