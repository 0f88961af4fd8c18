-- Blocks that stand at their least numbers.
use Rattle.std.proofs.Common.{◌≡◌, ◌≢◌, ℕ, zero, suc, ◌+◌, ◌<◌, List, [], ◌∷◌, ◌++◌, Bool, true, false, cond, not, ◌||◌, length, map, set, inl, inr, refl, ap, ap₂, sym, ◌∙◌, arith}
use Rattle.std.specs.Prelude.{◌==◌}
use Rattle.std.specs.List.{filter, range_with_len, enumerate_from}
use Rattle.std.proofs.lemmas.Bool.{false≢true, eq-eqb, ne_eqb, eqb-true, cases_eq}
use Rattle.std.proofs.lemmas.List.{get_or-set_same, get_or-set_other, length-set}
use Rattle.arr_view.specs.Views.{has}
use Rattle.arr_ops.specs.declared.op.Op.{Op}
use Rattle.arr_ops.specs.Costs.{block_cost, ext, total, weight}
use Rattle.arr_ops.specs.Plans.{not_empty, numbered}
use Rattle.arr_ops.specs.Order.{least_of, same_block}
use Rattle.arr_heur.specs.Planners.{merge, numbers, saving, union}
use Rattle.arr_heur.proofs.Saves.{union_ops}
use Rattle.arr_greedy.specs.Blocks.{live, row_at, Keyed}
use Rattle.arr_greedy.specs.Fast.{block_at}

-- from a place on
abbrev pub KeyedFrom : ℕ → List (List ℕ) → Type 0
KeyedFrom a rows = (k : ℕ) → k < length rows → not_empty (row_at rows k) ≡ true → least_of (row_at rows k) ≡ a + k

later : (a : ℕ) (r : List ℕ) (rows : List (List ℕ)) → KeyedFrom a (r ∷ rows) → KeyedFrom (a + 1) rows
later a r rows h k l e = h (suc k) (omega arith) e ∙ (let z : a + suc k ≡ a + 1 + k = omega arith in z)

first_key : (a : ℕ) (r : List ℕ) (rows : List (List ℕ)) → KeyedFrom a (r ∷ rows) → not_empty r ≡ true → least_of r ≡ a
first_key a r rows h e = h 0 (omega arith) e ∙ (let z : a + 0 ≡ a = omega arith in z)

none_before : (a k : ℕ) (rows : List (List ℕ)) → KeyedFrom a rows → k < a → block_at k (live rows) ≡ []
none_before a k [] h l = refl
none_before a k (r ∷ rows) h l =
    elim (not_empty r) as (λ b. not_empty r ≡ b → block_at k (cond b (r ∷ live rows) (live rows)) ≡ []) [
      | true ↦ λ e. let z : least_of r ≡ a = first_key a r rows h e in
          ap (λ t. cond t r (block_at k (live rows))) (ne_eqb (least_of r) k (λ q. let q' : least_of r ≡ k = q in absurd (omega arith)))
          ∙ none_before (a + 1) k rows (later a r rows h) (omega arith)
      | false ↦ λ e. none_before (a + 1) k rows (later a r rows h) (omega arith)
    ] refl

empty_row : (r : List ℕ) → not_empty r ≡ false → r ≡ []
empty_row [] e = refl
empty_row (i ∷ is) e = absurd (false≢true (sym e))

block_from : (a k : ℕ) (rows : List (List ℕ)) → KeyedFrom a rows → k < length rows → block_at (a + k) (live rows) ≡ row_at rows k
block_from a k [] h l = absurd (omega arith)
block_from a zero (r ∷ rows) h l =
    elim (not_empty r) as (λ b. not_empty r ≡ b → block_at (a + 0) (cond b (r ∷ live rows) (live rows)) ≡ r) [
      | true ↦ λ e. ap (λ t. cond t r (block_at (a + 0) (live rows))) (eq-eqb (least_of r) (a + 0) (first_key a r rows h e ∙ (let z : a ≡ a + 0 = omega arith in z)))
      | false ↦ λ e. none_before (a + 1) (a + 0) rows (later a r rows h) (omega arith) ∙ sym (empty_row r e)
    ] refl
block_from a (suc k) (r ∷ rows) h l =
    let next : a + suc k ≡ a + 1 + k = omega arith in
    elim (not_empty r) as (λ b. not_empty r ≡ b → block_at (a + suc k) (cond b (r ∷ live rows) (live rows)) ≡ row_at rows k) [
      | true ↦ λ e. let z : least_of r ≡ a = first_key a r rows h e in
          ap (λ t. cond t r (block_at (a + suc k) (live rows))) (ne_eqb (least_of r) (a + suc k) (λ q. let q' : least_of r ≡ a + suc k = q in absurd (omega arith)))
          ∙ ap (λ n. block_at n (live rows)) next ∙ block_from (a + 1) k rows (later a r rows h) (omega arith)
      | false ↦ λ e. ap (λ n. block_at n (live rows)) next ∙ block_from (a + 1) k rows (later a r rows h) (omega arith)
    ] refl

from_zero : (rows : List (List ℕ)) → Keyed rows → KeyedFrom 0 rows
from_zero rows h k l e = h k l e ∙ (let z : k ≡ 0 + k = omega arith in z)

pub block_live : (rows : List (List ℕ)) (k : ℕ) → Keyed rows → k < length rows → block_at k (live rows) ≡ row_at rows k
block_live rows k h l = ap (λ n. block_at n (live rows)) (let z : k ≡ 0 + k = omega arith in z) ∙ block_from 0 k rows (from_zero rows h) l

-- ---- savings

pub saving_is : (list : List Op) (a b : List ℕ) (s : ℕ) → block_cost list (a ++ b) + s ≡ block_cost list a + block_cost list b → s ≡ saving list (a, b)
saving_is list a b s e =
    let same : block_cost list (union (numbered list) a b) ≡ block_cost list (a ++ b) = ap (λ (ops : List Op). total (weight list) (ext ops)) (union_ops list a b) in
    omega arith

-- ---- a union

numbers_from : (k : ℕ) (list : List Op) → numbers (enumerate_from k list) ≡ range_with_len k (length list)
numbers_from k [] = refl
numbers_from k (op ∷ list) = ap (λ r. k ∷ r) (numbers_from (k + 1) list)

pub numbers_are : (list : List Op) → numbers (numbered list) ≡ range_with_len 1 (length list)
numbers_are list = numbers_from 1 list

-- ---- a join

stays : (a n : ℕ) (rows : List (List ℕ)) → KeyedFrom a rows → n < a → filter (λ c. not (least_of c == n)) (live rows) ≡ live rows
stays a n [] h l = refl
stays a n (r ∷ rows) h l =
    elim (not_empty r) as (λ b. not_empty r ≡ b → filter (λ c. not (least_of c == n)) (cond b (r ∷ live rows) (live rows)) ≡ cond b (r ∷ live rows) (live rows)) [
      | true ↦ λ e. let z : least_of r ≡ a = first_key a r rows h e in
          ap (λ t. cond (not t) (r ∷ filter (λ c. not (least_of c == n)) (live rows)) (filter (λ c. not (least_of c == n)) (live rows))) (ne_eqb (least_of r) n (λ q. let q' : least_of r ≡ n = q in absurd (omega arith)))
          ∙ ap (λ rs. r ∷ rs) (stays (a + 1) n rows (later a r rows h) (omega arith))
      | false ↦ λ e. stays (a + 1) n rows (later a r rows h) (omega arith)
    ] refl

same_there : (a n : ℕ) (u : List ℕ) (rows : List (List ℕ)) → KeyedFrom a rows → n < a → map (λ c. cond (least_of c == n) u c) (live rows) ≡ live rows
same_there a n u [] h l = refl
same_there a n u (r ∷ rows) h l =
    elim (not_empty r) as (λ b. not_empty r ≡ b → map (λ c. cond (least_of c == n) u c) (cond b (r ∷ live rows) (live rows)) ≡ cond b (r ∷ live rows) (live rows)) [
      | true ↦ λ e. let z : least_of r ≡ a = first_key a r rows h e in
          ap₂ (λ x xs. x ∷ xs) (ap (λ t. cond t u r) (ne_eqb (least_of r) n (λ q. let q' : least_of r ≡ n = q in absurd (omega arith)))) (same_there (a + 1) n u rows (later a r rows h) (omega arith))
      | false ↦ λ e. same_there (a + 1) n u rows (later a r rows h) (omega arith)
    ] refl

taken_out : (a k : ℕ) (rows : List (List ℕ)) → KeyedFrom a rows → k < length rows → not_empty (row_at rows k) ≡ true → live (set rows k []) ≡ filter (λ c. not (least_of c == (a + k))) (live rows)
taken_out a k [] h l e = absurd (omega arith)
taken_out a zero (r ∷ rows) h l e =
    sym (ap (λ b. filter (λ c. not (least_of c == (a + 0))) (cond b (r ∷ live rows) (live rows))) e
    ∙ ap (λ t. cond (not t) (r ∷ filter (λ c. not (least_of c == (a + 0))) (live rows)) (filter (λ c. not (least_of c == (a + 0))) (live rows))) (eq-eqb (least_of r) (a + 0) (h 0 (omega arith) e))
    ∙ stays (a + 1) (a + 0) rows (later a r rows h) (omega arith))
taken_out a (suc k) (r ∷ rows) h l e =
    let next : a + 1 + k ≡ a + suc k = omega arith in
    let rest : live (set rows k []) ≡ filter (λ c. not (least_of c == (a + suc k))) (live rows) = taken_out (a + 1) k rows (later a r rows h) (omega arith) e ∙ ap (λ n. filter (λ c. not (least_of c == n)) (live rows)) next in
    elim (not_empty r) as (λ b. not_empty r ≡ b → cond b (r ∷ live (set rows k [])) (live (set rows k [])) ≡ filter (λ c. not (least_of c == (a + suc k))) (cond b (r ∷ live rows) (live rows))) [
      | true ↦ λ f. let z : least_of r ≡ a = first_key a r rows h f in
          ap (λ rs. r ∷ rs) rest
          ∙ sym (ap (λ t. cond (not t) (r ∷ filter (λ c. not (least_of c == (a + suc k))) (live rows)) (filter (λ c. not (least_of c == (a + suc k))) (live rows))) (ne_eqb (least_of r) (a + suc k) (λ q. let q' : least_of r ≡ a + suc k = q in absurd (omega arith))))
      | false ↦ λ f. rest
    ] refl

put_in : (a k : ℕ) (u : List ℕ) (rows : List (List ℕ)) → KeyedFrom a rows → k < length rows → not_empty (row_at rows k) ≡ true → not_empty u ≡ true → live (set rows k u) ≡ map (λ c. cond (least_of c == (a + k)) u c) (live rows)
put_in a k u [] h l e f = absurd (omega arith)
put_in a zero u (r ∷ rows) h l e f =
    ap (λ b. cond b (u ∷ live rows) (live rows)) f
    ∙ sym (ap (λ b. map (λ c. cond (least_of c == (a + 0)) u c) (cond b (r ∷ live rows) (live rows))) e
    ∙ ap₂ (λ t rs. cond t u r ∷ rs) (eq-eqb (least_of r) (a + 0) (h 0 (omega arith) e)) (same_there (a + 1) (a + 0) u rows (later a r rows h) (omega arith)))
put_in a (suc k) u (r ∷ rows) h l e f =
    let next : a + 1 + k ≡ a + suc k = omega arith in
    let rest : live (set rows k u) ≡ map (λ c. cond (least_of c == (a + suc k)) u c) (live rows) = put_in (a + 1) k u rows (later a r rows h) (omega arith) e f ∙ ap (λ n. map (λ c. cond (least_of c == n) u c) (live rows)) next in
    elim (not_empty r) as (λ b. not_empty r ≡ b → cond b (r ∷ live (set rows k u)) (live (set rows k u)) ≡ map (λ c. cond (least_of c == (a + suc k)) u c) (cond b (r ∷ live rows) (live rows))) [
      | true ↦ λ g. let z : least_of r ≡ a = first_key a r rows h g in
          ap (λ rs. r ∷ rs) rest ∙ sym (ap (λ t. cond t u r ∷ map (λ c. cond (least_of c == (a + suc k)) u c) (live rows)) (ne_eqb (least_of r) (a + suc k) (λ q. let q' : least_of r ≡ a + suc k = q in absurd (omega arith))))
      | false ↦ λ g. rest
    ] refl

-- a block put at its least number, or nothing
pub keyed_set : (rows : List (List ℕ)) (k : ℕ) (v : List ℕ) → Keyed rows → k < length rows → (not_empty v ≡ true → least_of v ≡ k) → Keyed (set rows k v)
keyed_set rows k v h l f i m e =
    elim (cases_eq i k) as (λ _. least_of (row_at (set rows k v) i) ≡ i) [
      | inl q ↦
          let here : row_at (set rows k v) i ≡ v = ap (row_at (set rows k v)) q ∙ get_or-set_same rows k v [] l in
          ap least_of here ∙ f (sym (ap not_empty here) ∙ e) ∙ sym q
      | inr q ↦
          let there : row_at (set rows k v) i ≡ row_at rows i = get_or-set_other rows k i v [] q in
          let long : length (set rows k v) ≡ length rows = length-set rows k v in
          ap least_of there ∙ h i (omega arith) (sym (ap not_empty there) ∙ e)
    ]

filter_map : (p : List ℕ → Bool) (f : List ℕ → List ℕ) (bs : List (List ℕ)) → ((c : List ℕ) → p (f c) ≡ p c) → filter p (map f bs) ≡ map f (filter p bs)
filter_map p f [] h = refl
filter_map p f (c ∷ bs) h =
    ap (λ t. cond t (f c ∷ filter p (map f bs)) (filter p (map f bs))) (h c)
    ∙ elim (p c) as (λ t. cond t (f c ∷ filter p (map f bs)) (filter p (map f bs)) ≡ map f (cond t (c ∷ filter p bs) (filter p bs))) [
      | true ↦ ap (λ r. f c ∷ r) (filter_map p f bs h)
      | false ↦ filter_map p f bs h
    ]

pub record Joined (list : List Op) (rows after : List (List ℕ)) (a b : ℕ) : Type 0 where
  pub keyed : Keyed after
  pub blocks : live after ≡ merge (numbered list) (block_at a (live rows)) (block_at b (live rows)) (live rows)

pub joined_rows : (list : List Op) (rows : List (List ℕ)) (a b : ℕ) (u : List ℕ) → Keyed rows → a < length rows → b < length rows → a ≢ b → 0 < a
    → not_empty (row_at rows a) ≡ true → not_empty (row_at rows b) ≡ true → u ≡ union (numbered list) (row_at rows a) (row_at rows b) → least_of (union (numbered list) (row_at rows a) (row_at rows b)) ≡ a
    → Joined list rows (set (set rows a u) b []) a b
joined_rows list rows a b u h la lb ne pos ea eb eu key =
    let least : least_of u ≡ a = ap least_of eu ∙ key in
    let some : not_empty u ≡ true = positive u (let z : 0 < least_of u = omega arith in z) in
    let first : Keyed (set rows a u) = keyed_set rows a u h la (λ _. least) in
    let long : length (set rows a u) ≡ length rows = length-set rows a u in
    let other : row_at (set rows a u) b ≡ row_at rows b = get_or-set_other rows a b u [] (λ q. ne (sym q)) in
    let ka : least_of (row_at rows a) ≡ a = h a la ea in
    let kb : least_of (row_at rows b) ≡ b = h b lb eb in
    let one : live (set rows a u) ≡ map (λ c. cond (least_of c == a) u c) (live rows) = put_in 0 a u rows (from_zero rows h) la ea some ∙ ap (λ n. map (λ c. cond (least_of c == n) u c) (live rows)) (let z : 0 + a ≡ a = omega arith in z) in
    let two : live (set (set rows a u) b []) ≡ filter (λ c. not (least_of c == b)) (live (set rows a u)) =
    taken_out 0 b (set rows a u) (from_zero (set rows a u) first) (omega arith) (ap not_empty other ∙ eb) ∙ ap (λ n. filter (λ c. not (least_of c == n)) (live (set rows a u))) (let z : 0 + b ≡ b = omega arith in z) in
    record {
      keyed = keyed_set (set rows a u) b [] first (omega arith) (λ e. absurd (false≢true e));
      blocks = two ∙ ap (filter (λ c. not (least_of c == b))) one
          ∙ filter_map (λ c. not (least_of c == b)) (λ c. cond (least_of c == a) u c) (live rows) (λ c. unmoved c least)
          ∙ ap₂ (λ m n. map (λ c. cond (least_of c == m) u c) (filter (λ c. not (least_of c == n)) (live rows))) (sym ka) (sym kb)
          ∙ ap (λ v. map (λ c. cond (same_block c (row_at rows a)) v c) (filter (λ c. not (same_block c (row_at rows b))) (live rows))) eu
          ∙ ap₂ (λ x y. merge (numbered list) x y (live rows)) (sym (block_live rows a h la)) (sym (block_live rows b h lb));
    }
  where
    positive : (v : List ℕ) → 0 < least_of v → not_empty v ≡ true
    positive [] l = absurd (omega arith)
    positive (i ∷ is) l = refl

    unmoved : (c : List ℕ) → least_of u ≡ a → not (least_of (cond (least_of c == a) u c) == b) ≡ not (least_of c == b)
    unmoved c e = elim (least_of c == a) as (λ t. (least_of c == a) ≡ t → not (least_of (cond t u c) == b) ≡ not (least_of c == b)) [
      | true ↦ λ q. ap (λ n. not (n == b)) (e ∙ sym (eqb-true (least_of c) a q))
      | false ↦ λ q. refl
    ] refl

pub union_is : (list : List Op) (a b : List ℕ) (n : ℕ) → n ≡ length list → filter (λ i. has a i || has b i) (range_with_len 1 n) ≡ union (numbered list) a b
union_is list a b n e = ap (λ k. filter (λ i. has a i || has b i) (range_with_len 1 k)) e ∙ ap (filter (λ i. has a i || has b i)) (sym (numbers_are list))
