-- Rows of marks, and sums over what is not seen yet.
use Rattle.std.proofs.Common.{◌≡◌, ℕ, zero, suc, ◌+◌, ◌*◌, ◌<◌, ◌≤◌, List, [], ◌∷◌, ◌++◌, Bool, true, false, cond, not, ◌&&◌, ◌||◌, Option, Some, None, length, take, drop, get_or, set, replicate, refl, ap, ap₂, sym, subst, ◌∙◌, arith, append_assoc, eq-eqb}
use Rattle.std.specs.Prelude.{◌==◌, nat_lt}
use Rattle.std.proofs.Math.Bool.{or-false}
use Rattle.std.specs.List.{filter, flat_map, list_any}
use Rattle.std.proofs.lemmas.Bool.{and_from, and_parts, eqb-true, false≢true, lt-ltb, ltb-true}
use Rattle.std.proofs.lemmas.List.{append-nil, drop_all, length-set, length-replicate, get_or-set_same, get_or-set_other, take_all, take_more}
use Rattle.std.proofs.lemmas.List.Folds.{list_any-append}
use Rattle.arr_ops.specs.Costs.{distinct, total}
use Rattle.arr_cost.specs.declared.touches.Touch.{Touch}
use Rattle.arr_cost.specs.declared.touches.Touches.{Touches}
use Rattle.arr_cost.specs.Touches.{AreMarked, Counted, free_below, is_below, marks, outside, same_class, touch_below, touched_by, untouched}

pub or_assoc : (a b c : Bool) → ((a || b) || c) ≡ (a || (b || c))
or_assoc true b c = refl
or_assoc false b c = refl

pub no_mark : (n k : ℕ) → get_or (replicate n false) k false ≡ false
no_mark zero k = refl
no_mark (suc n) zero = refl
no_mark (suc n) (suc k) = no_mark n k

pub marked_also : (xs : List Bool) (i b : ℕ) → i < length xs → get_or (set xs i true) b false ≡ (get_or xs b false || (i == b))
marked_also xs i b l =
    elim (i == b) as (λ t. (i == b) ≡ t → get_or (set xs i true) b false ≡ (get_or xs b false || t)) [
      | true ↦ λ e. let same : i ≡ b = eqb-true i b e in ap (λ k. get_or (set xs i true) k false) (sym same) ∙ get_or-set_same xs i true false l ∙ sym (or_true (get_or xs b false))
      | false ↦ λ e. get_or-set_other xs i b true false (λ s. absurd (false≢true (sym e ∙ eq-eqb i b (omega arith)))) ∙ sym (or-false (get_or xs b false))
    ] refl
  where
    or_true : (b : Bool) → (b || true) ≡ true
    or_true true = refl
    or_true false = refl

pub marks_more : (xs : List Bool) (i : ℕ) → i < length xs → get_or xs i false ≡ false → marks (set xs i true) ≡ marks xs + 1
marks_more [] i l h = absurd (omega arith)
marks_more (x ∷ xs) zero l h = let clear : x ≡ false = h in let e : cond {A = ℕ} x 1 0 ≡ 0 = ap (λ (b : Bool). cond {A = ℕ} b 1 0) clear in omega arith
marks_more (x ∷ xs) (suc i) l h = let ih : marks (set xs i true) ≡ marks xs + 1 = marks_more xs i (omega arith) h in omega arith

pub few_marks : (xs : List Bool) → marks xs ≤ length xs
few_marks [] = omega arith
few_marks (x ∷ xs) =
    let ih : marks xs ≤ length xs = few_marks xs in
    elim x as (λ b. cond b 1 0 + marks xs ≤ suc (length xs)) [ true ↦ omega arith | false ↦ omega arith ]

touched_end : (table : List Touches) (block : List ℕ) (i n : ℕ) → i < length block → n ≡ get_or block i 0 → touched_by table (take (i + 1) block) ≡ touched_by table (take i block) ++ get_or table n untouched ∷ []
touched_end table block i n l e = ap (touched_by table) (take_more block i 0 l ∙ ap (λ k. take i block ++ k ∷ []) (sym e)) ∙ join (take i block)
  where
    join : (ns : List ℕ) → touched_by table (ns ++ n ∷ []) ≡ touched_by table ns ++ get_or table n untouched ∷ []
    join [] = refl
    join (k ∷ ns) = ap (λ r. get_or table k untouched ∷ r) (join ns)

pub touched_more : (test : Touches → Bool) (table : List Touches) (block : List ℕ) (i n : ℕ) → i < length block → n ≡ get_or block i 0
    → list_any test (touched_by table (take (i + 1) block)) ≡ (list_any test (touched_by table (take i block)) || test (get_or table n untouched))
touched_more test table block i n l e =
    ap (list_any test) (touched_end table block i n l e) ∙ list_any-append test (touched_by table (take i block)) (get_or table n untouched ∷ []) ∙ ap (λ b. list_any test (touched_by table (take i block)) || b) (or-false (test (get_or table n untouched)))

pub kept_more : (K : Touches → List Touch) (table : List Touches) (block : List ℕ) (i n : ℕ) → i < length block → n ≡ get_or block i 0
    → flat_map K (touched_by table (take (i + 1) block)) ≡ flat_map K (touched_by table (take i block)) ++ K (get_or table n untouched)
kept_more K table block i n l e = ap (flat_map K) (touched_end table block i n l e) ∙ join (touched_by table (take i block))
  where
    nothing_more : (xs : List Touch) → xs ++ [] ≡ xs
    nothing_more [] = refl
    nothing_more (x ∷ xs) = ap (λ r. x ∷ r) (nothing_more xs)

    join : (ts : List Touches) → flat_map K (ts ++ get_or table n untouched ∷ []) ≡ flat_map K ts ++ K (get_or table n untouched)
    join [] = nothing_more (K (get_or table n untouched))
    join (t ∷ ts) = ap (λ r. K t ++ r) (join ts) ∙ sym (append_assoc (K t) (flat_map K ts) (K (get_or table n untouched)))

-- ---- one more view

-- a class that is there is not counted again
distinct_end : (done : List Touch) (t : Touch) → distinct same_class (done ++ t ∷ []) ≡ distinct same_class done ++ cond (list_any (λ (s : Touch). s.class == t.class) done) [] (t ∷ [])
distinct_end [] t = refl
distinct_end (s ∷ done) t =
    ap (λ r. s ∷ filter (λ (u : Touch). not (same_class s u)) r) (distinct_end done t)
    ∙ ap (λ r. s ∷ r) (last (distinct same_class done) (list_any (λ (u : Touch). u.class == t.class) done))
  where
    last : (us : List Touch) (b : Bool) → filter (λ (u : Touch). not (same_class s u)) (us ++ cond b [] (t ∷ [])) ≡ filter (λ (u : Touch). not (same_class s u)) us ++ cond ((s.class == t.class) || b) [] (t ∷ [])
    last [] true = ap (λ (b : Bool). cond b [] (t ∷ [])) (sym (or_true (s.class == t.class)))
      where
        or_true : (b : Bool) → (b || true) ≡ true
        or_true true = refl
        or_true false = refl
    last [] false = elim (s.class == t.class) as (λ c. cond (not c) (t ∷ []) [] ≡ cond (c || false) [] (t ∷ [])) [ true ↦ refl | false ↦ refl ]
    last (u ∷ us) b =
        elim (same_class s u) as (λ c. cond (not c) (u ∷ filter (λ (w : Touch). not (same_class s w)) (us ++ cond b [] (t ∷ []))) (filter (λ (w : Touch). not (same_class s w)) (us ++ cond b [] (t ∷ [])))
        ≡ cond (not c) (u ∷ filter (λ (w : Touch). not (same_class s w)) us) (filter (λ (w : Touch). not (same_class s w)) us) ++ cond ((s.class == t.class) || b) [] (t ∷ [])) [
          | true ↦ last us b
          | false ↦ ap (λ r. u ∷ r) (last us b)
        ]

abbrev pub weight_in : List Touch → ℕ
weight_in ts = total (λ (t : Touch). t.weight) ts

total_end : (ts us : List Touch) → weight_in (ts ++ us) ≡ weight_in ts + weight_in us
total_end [] us = omega arith
total_end (t ∷ ts) us = let ih : weight_in (ts ++ us) ≡ weight_in ts + weight_in us = total_end ts us in omega arith

pub counted_none : (done more : List Touch) (seen : List Bool) (sum : ℕ) → more ≡ [] → Counted done seen sum → Counted (done ++ more) seen sum
counted_none done more seen sum e h = subst (λ ts. Counted ts seen sum) (sym (ap (λ r. done ++ r) e ∙ nothing_more done)) h
  where
    nothing_more : (xs : List Touch) → xs ++ [] ≡ xs
    nothing_more [] = refl
    nothing_more (x ∷ xs) = ap (λ r. x ∷ r) (nothing_more xs)

pub inside_none : (marked : List Bool) (t : Touch) → get_or marked t.base false ≡ true → outside marked (Some t) ≡ []
inside_none marked t e = ap (λ b. cond (not b) (t ∷ []) []) e

pub outside_one : (marked : List Bool) (t : Touch) → get_or marked t.base false ≡ false → outside marked (Some t) ≡ t ∷ []
outside_one marked t e = ap (λ b. cond (not b) (t ∷ []) []) e

pub counted_seen : (done more : List Touch) (t : Touch) (seen : List Bool) (sum : ℕ) → more ≡ t ∷ [] → t.class < length seen → get_or seen t.class false ≡ true → Counted done seen sum → Counted (done ++ more) seen sum
counted_seen done more t seen sum e l h k =
    let there : list_any (λ (s : Touch). s.class == t.class) done ≡ true = sym (k.each t.class l) ∙ h in
    subst (λ ts. Counted (done ++ ts) seen sum) (sym e) (record {
      each = λ c below. k.each c below ∙ again c ∙ sym (list_any-append (λ (s : Touch). s.class == c) done (t ∷ []));
      value = k.value ∙ sym (ap weight_in (distinct_end done t ∙ ap (λ b. distinct same_class done ++ cond b [] (t ∷ [])) there) ∙ total_end (distinct same_class done) [] ∙ plus_none (weight_in (distinct same_class done)));
    })
  where
    plus_none : (n : ℕ) → n + 0 ≡ n
    plus_none n = omega arith

    again : (c : ℕ) → list_any (λ (s : Touch). s.class == c) done ≡ (list_any (λ (s : Touch). s.class == c) done || ((t.class == c) || false))
    again c =
        elim (t.class == c) as (λ b. (t.class == c) ≡ b → list_any (λ (s : Touch). s.class == c) done ≡ (list_any (λ (s : Touch). s.class == c) done || (b || false))) [
          | true ↦ λ same. let there : list_any (λ (s : Touch). s.class == t.class) done ≡ true = sym (k.each t.class l) ∙ h in
              let here : list_any (λ (s : Touch). s.class == c) done ≡ true = subst (λ n. list_any (λ (s : Touch). s.class == n) done ≡ true) (eqb-true t.class c same) there in
              here ∙ sym (ap (λ b. b || true) here)
          | false ↦ λ same. sym (or-false (list_any (λ (s : Touch). s.class == c) done))
        ] refl

pub counted_new : (done more : List Touch) (t : Touch) (seen : List Bool) (sum : ℕ) → more ≡ t ∷ [] → t.class < length seen → get_or seen t.class false ≡ false → Counted done seen sum → Counted (done ++ more) (set seen t.class true) (sum + t.weight)
counted_new done more t seen sum e l h k =
    let absent : list_any (λ (s : Touch). s.class == t.class) done ≡ false = sym (k.each t.class l) ∙ h in
    let long : length (set seen t.class true) ≡ length seen = length-set seen t.class true in
    let value : sum ≡ weight_in (distinct same_class done) = k.value in
    let after : weight_in (distinct same_class (done ++ t ∷ [])) ≡ weight_in (distinct same_class done) + (t.weight + 0)
    = ap weight_in (distinct_end done t ∙ ap (λ b. distinct same_class done ++ cond b [] (t ∷ [])) absent) ∙ total_end (distinct same_class done) (t ∷ []) in
    subst (λ ts. Counted (done ++ ts) (set seen t.class true) (sum + t.weight)) (sym e) (record {
      each = λ c below. marked_also seen t.class c l
          ∙ ap₂ (λ a b. a || b) (k.each c (omega arith)) (sym (or-false (t.class == c)))
          ∙ sym (list_any-append (λ (s : Touch). s.class == c) done (t ∷ []));
      value = omega arith;
    })

-- ---- bounds

wider_touch : (m n : ℕ) → m ≤ n → (o : Option Touch) → touch_below m o ≡ true → touch_below n o ≡ true
wider_touch m n l None h = refl
wider_touch m n l (Some t) h =
    let p = and_parts (nat_lt t.class m && (nat_lt t.base m && nat_lt t.weight 8388609)) true h in
    let q = and_parts (nat_lt t.class m) (nat_lt t.base m && nat_lt t.weight 8388609) p.0 in
    let r = and_parts (nat_lt t.base m) (nat_lt t.weight 8388609) q.1 in
    let a : t.class < m = ltb-true t.class m q.0 in
    let b : t.base < m = ltb-true t.base m r.0 in
    and_from (nat_lt t.class n && (nat_lt t.base n && nat_lt t.weight 8388609)) true (and_from (nat_lt t.class n) (nat_lt t.base n && nat_lt t.weight 8388609) (lt-ltb t.class n (omega arith)) (and_from (nat_lt t.base n) (nat_lt t.weight 8388609) (lt-ltb t.base n (omega arith)) r.1)) refl

wider_free : (m n : ℕ) → m ≤ n → (o : Option ℕ) → free_below m o ≡ true → free_below n o ≡ true
wider_free m n l None h = refl
wider_free m n l (Some b) h =
    let p = and_parts (nat_lt b m) true h in
    let a : b < m = ltb-true b m p.0 in
    and_from (nat_lt b n) true (lt-ltb b n (omega arith)) refl

pub wider : (m n : ℕ) → m ≤ n → (t : Touches) → is_below m t ≡ true → is_below n t ≡ true
wider m n l t h =
    let p = and_parts (touch_below m t.first) (touch_below m t.second && (touch_below m t.out && free_below m t.frees)) h in
    let q = and_parts (touch_below m t.second) (touch_below m t.out && free_below m t.frees) p.1 in
    let r = and_parts (touch_below m t.out) (free_below m t.frees) q.1 in
    and_from (touch_below n t.first) (touch_below n t.second && (touch_below n t.out && free_below n t.frees)) (wider_touch m n l t.first p.0)
    (and_from (touch_below n t.second) (touch_below n t.out && free_below n t.frees) (wider_touch m n l t.second q.0)
    (and_from (touch_below n t.out) (free_below n t.frees) (wider_touch m n l t.out r.0) (wider_free m n l t.frees r.1)))

pub touch_parts : (n : ℕ) (o : Option Touch) (t : Touch) → o ≡ Some t → touch_below n o ≡ true → (t.class < n) × (t.weight ≤ 8388608)
touch_parts n o t e h =
    let here : touch_below n (Some t) ≡ true = subst (λ (q : Option Touch). touch_below n q ≡ true) e h in
    let p = and_parts (nat_lt t.class n && (nat_lt t.base n && nat_lt t.weight 8388609)) true here in
    let q = and_parts (nat_lt t.class n) (nat_lt t.base n && nat_lt t.weight 8388609) p.0 in
    let r = and_parts (nat_lt t.base n) (nat_lt t.weight 8388609) q.1 in
    let low : t.weight < 8388609 = ltb-true t.weight 8388609 r.1 in
    (ltb-true t.class n q.0, (omega arith))

-- ---- whole rows

-- what a slice that covers a vector leaves in it
pub written_back : {B : Type 0} (items new : List B) (len n : ℕ) → length items ≡ n → length new ≡ n → len ≡ n → take len (new ++ drop (length new) items) ≡ new
written_back items new len n a b e = ap (λ t. take len (new ++ t)) (drop_all (length new) items (omega arith)) ∙ ap (take len) (append-nil new) ∙ take_all len new (omega arith)

pub all_marked : (test : ℕ → Touches → Bool) (table : List Touches) (block : List ℕ) (before after seen : List Bool) → before ≡ replicate (3 * length table) false
    → ((b : ℕ) → b < length before → get_or after b false ≡ (get_or before b false || list_any (test b) (touched_by table block))) → seen ≡ after → AreMarked test table block seen
all_marked test table block before after seen zeros each same =
    let long : length before ≡ 3 * length table = ap length zeros ∙ length-replicate (3 * length table) false in
    record {
      each = λ b l. ap (λ r. get_or r b false) same ∙ each b (omega arith) ∙ ap (λ x. x || list_any (test b) (touched_by table block)) (ap (λ r. get_or r b false) zeros ∙ no_mark (3 * length table) b);
    }
