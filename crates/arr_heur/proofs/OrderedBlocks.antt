-- The order of a partition, block after block.
use Rattle.std.proofs.Common.{◌≡◌, ℕ, suc, ◌+◌, ◌-◌, ◌<◌, ◌≤◌, List, [], ◌∷◌, ◌++◌, Bool, true, false, cond, not, ◌&&◌, Option, Some, None, length, map, drop, get_or, inl, inr, refl, ap, ap₂, sym, ◌∙◌, arith}
use Rattle.std.specs.Prelude.{nat_lt, nat_eq}
use Rattle.std.specs.List.{All, AllByRecursion, enumerate_from, filter, list_all, list_any, range_with_len}
use Rattle.std.specs.Option.{option_map}
use Rattle.std.proofs.lemmas.Bool.{and_parts, and_from, eq-eqb, eqb-true, false≢true, lt-ltb, le-ltb, ltb-true, ltb-false, cases_lt}
use Rattle.std.proofs.lemmas.List.{append_assoc, append-nil}
use Rattle.std.proofs.Math.Seq.{drop-cons}
use Rattle.std.proofs.lemmas.List.Elements.{recursion_from_All}
use Rattle.arr_view.specs.Views.{has}
use Rattle.arr_ops.specs.declared.op.Op.{Op}
use Rattle.arr_ops.specs.Ops.{dep}
use Rattle.arr_ops.specs.Plans.{ascends, numbered}
use Rattle.arr_ops.specs.Order.{In, earlier, first_block, is_ready, leads, least_of, ordered, ordered_within, same_block}
use Rattle.arr_ops.proofs.Members.{all_in}
use Rattle.arr_ops.proofs.Pairs.{Pairs, All_weaker, Pairs_weaker, Pairs_All, Pairs_both}
use Rattle.arr_ops.proofs.Tests.{any_map}
use Rattle.arr_ops.proofs.Legality.{Leading, any_found, any_there, in_has, leads_from, leads_to}
use Rattle.arr_deps.specs.Graph.{leads_to as goes_to, op_at, op_in}
use Rattle.arr_heur.specs.Partitions.{NumbersTo, block_in, comes_first, waits}
use Rattle.arr_heur.proofs.Merged.{rising}
use Rattle.arr_heur.proofs.Stretches.{items_end}
use Rattle.arr_heur.proofs.LinearPlan.{between_enumerated}

-- ---- one block leads another

same_tests : (a b : Bool) → (a ≡ true → b ≡ true) → (b ≡ true → a ≡ true) → a ≡ b
same_tests true true f g = refl
same_tests true false f g = absurd (false≢true (f refl))
same_tests false true f g = absurd (false≢true (g refl))
same_tests false false f g = refl

has_in : (xs : List ℕ) (i : ℕ) → In i xs → has xs i ≡ true
has_in xs i m = any_there (nat_eq i) xs i m (eq-eqb i i refl)

-- each operation of the numbered list is the one with its number
is_at : (k : ℕ) (list : List Op) → AllByRecursion (λ (x : ℕ × Op). x.1 ≡ op_in list (x.0 - k)) (enumerate_from k list)
is_at k [] = tt
is_at k (op ∷ list) = (
  ap (op_in (op ∷ list)) (let e : 0 ≡ k - k = omega arith in e),
  All_weaker (λ (x : ℕ × Op). (x.1 ≡ op_in list (x.0 - (k + 1))) × ((k + 1 ≤ x.0) × (x.0 < k + 1 + length list))) (λ (x : ℕ × Op). x.1 ≡ op_in (op ∷ list) (x.0 - k))
      (λ x h. let low : k + 1 ≤ x.0 = h.1.0 in h.0 ∙ ap (op_in (op ∷ list)) (let e : suc (x.0 - (k + 1)) ≡ x.0 - k = omega arith in e))
      (enumerate_from (k + 1) list) (both (enumerate_from (k + 1) list) (is_at (k + 1) list) (between_enumerated (k + 1) list)),
)
  where
    both : (xs : List (ℕ × Op)) → AllByRecursion (λ (x : ℕ × Op). x.1 ≡ op_in list (x.0 - (k + 1))) xs → AllByRecursion (λ (x : ℕ × Op). (k + 1 ≤ x.0) × (x.0 < k + 1 + length list)) xs
        → AllByRecursion (λ (x : ℕ × Op). (x.1 ≡ op_in list (x.0 - (k + 1))) × ((k + 1 ≤ x.0) × (x.0 < k + 1 + length list))) xs
    both [] a b = tt
    both (x ∷ xs) a b = ((a.0, b.0), both xs a.1 b.1)

-- what two operations of the list, the first before the second, have in common with their numbers
pub record Told (list : List Op) (x y : ℕ × Op) : Type 0 where
  pub rises : x.0 < y.0
  pub first : x.1 ≡ op_at list x.0
  pub second : y.1 ≡ op_at list y.0

pub all_told : (list : List Op) → Pairs (Told list) (numbered list)
all_told list =
    Pairs_All (λ (x : ℕ × Op). x.1 ≡ op_in list (x.0 - 1)) (λ (x y : ℕ × Op). x.0 < y.0) (Told list) (λ x y e f l. record { rises = l; first = e; second = f }) (numbered list) (is_at 1 list) (rising 1 list)

-- of two numbers of the list, the first before the second, the pair stands in the list
pub pairs_at : {Q : Type 0} (k : ℕ) (list : List Op) (R : ℕ × Op → ℕ × Op → Type 0) → Pairs R (enumerate_from k list) → (i j : ℕ) → k ≤ i → i < j → j < k + length list
    → ((x y : ℕ × Op) → x.0 ≡ i → y.0 ≡ j → R x y → Q) → Q
pairs_at k [] R h i j l m u f = absurd (omega arith)
pairs_at {Q} k (op ∷ list) R h i j l m u f =
    elim (nat_eq k i) as (λ b. nat_eq k i ≡ b → Q) [
      | true ↦ λ e. let same : k ≡ i = eqb-true k i e in find (k + 1) list h.0 (omega arith) (omega arith) (λ y q r. f (k, op) y same q r)
      | false ↦ λ e. let less : k < i = apart e in pairs_at (k + 1) list R h.1 i j (omega arith) m (omega arith) f
    ] refl
  where
    apart : nat_eq k i ≡ false → k < i
    apart e = elim (cases_lt k i) as (λ _. k < i) [
      | inl s ↦ s
      | inr s ↦ let same : k ≡ i = omega arith in absurd (false≢true (sym e ∙ eq-eqb k i same))
    ]

    find : (n : ℕ) (ops : List Op) → AllByRecursion (R (k, op)) (enumerate_from n ops) → n ≤ j → j < n + length ops → ((y : ℕ × Op) → y.0 ≡ j → R (k, op) y → Q) → Q
    find n [] a lo hi g = absurd (omega arith)
    find n (o ∷ ops) a lo hi g =
        elim (cases_lt n j) as (λ _. Q) [
          | inl s ↦ find (n + 1) ops a.1 (omega arith) (omega arith) g
          | inr s ↦ g (n, o) (let e : n ≡ j = omega arith in e) a.0
        ]

pub leads_is : (list : List Op) (a b : List ℕ) → NumbersTo (length list) a → NumbersTo (length list) b → list_any (λ f. list_any (goes_to list f) b) a ≡ leads (numbered list) a b
leads_is list a b ia ib =
    same_tests (list_any (λ f. list_any (goes_to list f) b) a) (leads (numbered list) a b)
    (λ e.
    let p = any_found (λ f. list_any (goes_to list f) b) a e in
    let q = any_found (goes_to list p.0) b p.2 in
    let r = and_parts (nat_lt p.0 q.0) (dep (op_at list p.0) (op_at list q.0)) q.2 in
    let f = all_in (λ i. (0 < i) × (i ≤ length list)) a (recursion_from_All (λ i. (0 < i) × (i ≤ length list)) a ia) p.0 p.1 in
    let g = all_in (λ i. (0 < i) × (i ≤ length list)) b (recursion_from_All (λ i. (0 < i) × (i ≤ length list)) b ib) q.0 q.1 in
    let fl : 0 < p.0 = f.0 in
    let gu : q.0 ≤ length list = g.1 in
    let less : p.0 < q.0 = ltb-true p.0 q.0 r.0 in
    pairs_at 1 list (λ x y. Told list x y × Leading (numbered list) x y) (two (numbered list) (all_told list) (leads_from (numbered list))) p.0 q.0 (omega arith) less (omega arith)
    (λ x y ex ey k.
    k.1 a b (ap (has a) ex ∙ has_in a p.0 p.1) (ap (has b) ey ∙ has_in b q.0 q.1)
    (ap₂ dep (k.0.first ∙ ap (op_at list) ex) (k.0.second ∙ ap (op_at list) ey) ∙ r.1)))
    (λ e.
    leads_to (list_any (λ f. list_any (goes_to list f) b) a ≡ true) a b (numbered list) e
    (Pairs_weaker (Told list) (λ x y. has a x.0 ≡ true → has b y.0 ≡ true → dep x.1 y.1 ≡ true → list_any (λ f. list_any (goes_to list f) b) a ≡ true)
    (λ x y t h k d.
    any_there (λ f. list_any (goes_to list f) b) a x.0 (in_has a x.0 h)
    (any_there (goes_to list x.0) b y.0 (in_has b y.0 k)
    (and_from (nat_lt x.0 y.0) _ (lt-ltb x.0 y.0 t.rises) (ap₂ dep (sym t.first) (sym t.second) ∙ d))))
    (numbered list) (all_told list)))
  where
    two : (xs : List (ℕ × Op)) → Pairs (Told list) xs → Pairs (Leading (numbered list)) xs → Pairs (λ x y. Told list x y × Leading (numbered list) x y) xs
    two xs p q = Pairs_both (Told list) (Leading (numbered list)) xs p q

-- ---- the least number is the first

pub least_first : (i : ℕ) (is : List ℕ) → ascends (i ∷ is) ≡ true → least_of (i ∷ is) ≡ i
least_first i [] e = refl
least_first i (j ∷ js) e =
    let p = and_parts (nat_lt i j) (ascends (j ∷ js)) e in
    let less : i < j = ltb-true i j p.0 in
    let rest : least_of (j ∷ js) ≡ j = least_first j js p.1 in
    omega arith

-- ---- the first that is ready

abbrev pub joined : Option (List ℕ) → Option (List ℕ) → Option (List ℕ)
joined None o = o
joined (Some b) o = Some (earlier b o)

pub ready_is : (list : List Op) (blocks : List (List ℕ)) (left : List ℕ) (place : ℕ) → is_ready (numbered list) (map (block_in blocks) left) (block_in blocks place) ≡ not (waits list blocks left place)
ready_is list blocks left place = ap not (any_map (block_in blocks) (λ other. not (same_block other (block_in blocks place)) && leads (numbered list) other (block_in blocks place)) left)

-- of three, by their least numbers
thrice : (a b : List ℕ) (o : Option (List ℕ)) → earlier a (Some (earlier b o)) ≡ earlier (cond (nat_lt (least_of b) (least_of a)) b a) o
thrice a b None = refl
thrice a b (Some c) =
    elim (nat_lt (least_of b) (least_of a)) as (λ s. nat_lt (least_of b) (least_of a) ≡ s → cond (nat_lt (least_of (cond (nat_lt (least_of c) (least_of b)) c b)) (least_of a)) (cond (nat_lt (least_of c) (least_of b)) c b) a ≡ cond (nat_lt (least_of c) (least_of (cond s b a))) c (cond s b a)) [
      | true ↦ λ e. elim (nat_lt (least_of c) (least_of b)) as (λ t. nat_lt (least_of c) (least_of b) ≡ t → cond (nat_lt (least_of (cond t c b)) (least_of a)) (cond t c b) a ≡ cond t c b) [
        | true ↦ λ f.
            let x : least_of b < least_of a = ltb-true (least_of b) (least_of a) e in
            let y : least_of c < least_of b = ltb-true (least_of c) (least_of b) f in
            ap (λ t. cond t c a) (lt-ltb (least_of c) (least_of a) (omega arith))
        | false ↦ λ f. ap (λ t. cond t b a) e
      ] refl
      | false ↦ λ e. elim (nat_lt (least_of c) (least_of b)) as (λ t. nat_lt (least_of c) (least_of b) ≡ t → cond (nat_lt (least_of (cond t c b)) (least_of a)) (cond t c b) a ≡ cond (nat_lt (least_of c) (least_of a)) c a) [
        | true ↦ λ f. refl
        | false ↦ λ f.
            let x : least_of a ≤ least_of b = ltb-false (least_of b) (least_of a) e in
            let y : least_of b ≤ least_of c = ltb-false (least_of c) (least_of b) f in
            ap (λ t. cond t b a) e ∙ sym (ap (λ t. cond t c a) (le-ltb (least_of c) (least_of a) (omega arith)))
      ] refl
    ] refl

-- one more of the blocks left
pub taken_is : (test : List ℕ → Bool) (blocks : List (List ℕ)) (found : Option ℕ) (place : ℕ) (rest : Option (List ℕ)) (waiting : Bool) → test (block_in blocks place) ≡ not waiting
    → joined (option_map (block_in blocks) found) (cond (test (block_in blocks place)) (Some (earlier (block_in blocks place) rest)) rest)
    ≡ joined (option_map (block_in blocks) (cond (comes_first blocks found place && not waiting) (Some place) found)) rest
taken_is test blocks found place rest waiting e =
    ap (λ t. joined (option_map (block_in blocks) found) (cond t (Some (earlier (block_in blocks place) rest)) rest)) e ∙ by_case found waiting
  where
    by_case : (found : Option ℕ) (waiting : Bool) → joined (option_map (block_in blocks) found) (cond (not waiting) (Some (earlier (block_in blocks place) rest)) rest)
        ≡ joined (option_map (block_in blocks) (cond (comes_first blocks found place && not waiting) (Some place) found)) rest
    by_case None true = refl
    by_case None false = refl
    by_case (Some k) true = sym (ap (λ t. joined (option_map (block_in blocks) (cond t (Some place) (Some k))) rest) (and_false (comes_first blocks (Some k) place)))
      where
        and_false : (b : Bool) → (b && false) ≡ false
        and_false true = refl
        and_false false = refl
    by_case (Some k) false =
        ap Some (thrice (block_in blocks k) (block_in blocks place) rest)
        ∙ elim (nat_lt (least_of (block_in blocks place)) (least_of (block_in blocks k))) as (λ t. Some (earlier (cond t (block_in blocks place) (block_in blocks k)) rest) ≡ joined (option_map (block_in blocks) (cond (t && true) (Some place) (Some k))) rest) [ true ↦ refl | false ↦ refl ]

pub step_first : (test : List ℕ → Bool) (blocks : List (List ℕ)) (left : List ℕ) (i : ℕ) → i < length left
    → first_block test (map (block_in blocks) (drop i left))
    ≡ cond (test (block_in blocks (get_or left i 0))) (Some (earlier (block_in blocks (get_or left i 0)) (first_block test (map (block_in blocks) (drop (i + 1) left))))) (first_block test (map (block_in blocks) (drop (i + 1) left)))
step_first test blocks left i l =
    ap (λ xs. first_block test (map (block_in blocks) xs)) (drop-cons left i 0 l ∙ ap (λ n. get_or left i 0 ∷ drop n left) (let z : suc i ≡ i + 1 = omega arith in z))

-- what is found, with one more of the blocks left
pub found_more : (list : List Op) (blocks : List (List ℕ)) (left : List ℕ) (found next : Option ℕ) (i : ℕ) → i < length left
    → next ≡ cond (comes_first blocks found (get_or left i 0) && not (waits list blocks left (get_or left i 0))) (Some (get_or left i 0)) found
    → joined (option_map (block_in blocks) next) (first_block (is_ready (numbered list) (map (block_in blocks) left)) (map (block_in blocks) (drop (i + 1) left)))
    ≡ joined (option_map (block_in blocks) found) (first_block (is_ready (numbered list) (map (block_in blocks) left)) (map (block_in blocks) (drop i left)))
found_more list blocks left found next i l e =
    let test : List ℕ → Bool = is_ready (numbered list) (map (block_in blocks) left) in
    let rest : Option (List ℕ) = first_block test (map (block_in blocks) (drop (i + 1) left)) in
    ap (λ o. joined (option_map (block_in blocks) o) rest) e
    ∙ sym (taken_is test blocks found (get_or left i 0) rest (waits list blocks left (get_or left i 0)) (ready_is list blocks left (get_or left i 0)))
    ∙ ap (joined (option_map (block_in blocks) found)) (sym (step_first test blocks left i l))

pub least_at : (block : List ℕ) → ascends block ≡ true → 0 < length block → get_or block 0 0 ≡ least_of block
least_at [] e l = absurd (omega arith)
least_at (i ∷ is) e l = sym (least_first i is e)

-- ---- one block after another

pub all_places : (blocks : List (List ℕ)) → map (block_in blocks) (range_with_len 0 (length blocks)) ≡ blocks
all_places blocks = from 0 blocks blocks (λ k l. ap (block_in blocks) (let e : 0 + k ≡ k = omega arith in e))
  where
    from : (a : ℕ) (all bs : List (List ℕ)) → ((k : ℕ) → k < length bs → block_in all (a + k) ≡ block_in bs k) → map (block_in all) (range_with_len a (length bs)) ≡ bs
    from a all [] h = refl
    from a all (b ∷ bs) h =
        ap₂ (λ x xs. x ∷ xs) (ap (block_in all) (let e : a ≡ a + 0 = omega arith in e) ∙ h 0 (omega arith))
        (from (a + 1) all bs (λ k l. ap (block_in all) (let e : a + 1 + k ≡ a + suc k = omega arith in e) ∙ h (suc k) (omega arith)))

-- the blocks that are not placed yet
abbrev pub rest_of : List (List ℕ) → List ℕ → ℕ → List (List ℕ)
rest_of blocks left place = filter (λ other. not (same_block other (block_in blocks place))) (map (block_in blocks) left)

-- the blocks that are placed, then the order of the rest
abbrev pub placed_then : List (List ℕ) → Option (List (List ℕ)) → Option (List (List ℕ))
placed_then placed rest = option_map (λ blocks. placed ++ blocks) rest

pub one_placed : (list : List Op) (n : ℕ) (left : List (List ℕ)) (placed : List (List ℕ)) (block : List ℕ) → first_block (is_ready (numbered list) left) left ≡ Some block
    → placed_then (placed ++ block ∷ []) (ordered_within n (numbered list) (filter (λ other. not (same_block other block)) left)) ≡ placed_then placed (ordered_within (suc n) (numbered list) left)
one_placed list n left placed block e =
    let rest : List ℕ → Option (List (List ℕ)) = λ b. ordered_within n (numbered list) (filter (λ other. not (same_block other b)) left) in
    regroup (rest block)
    ∙ ap (λ o. placed_then placed (elim o as (λ _. Option (List (List ℕ))) [ None ↦ None | Some b ↦ option_map (λ blocks. b ∷ blocks) (rest b) ])) (sym e)
  where
    regroup : (o : Option (List (List ℕ))) → placed_then (placed ++ block ∷ []) o ≡ placed_then placed (option_map (λ blocks. block ∷ blocks) o)
    regroup None = refl
    regroup (Some blocks) = ap Some (append_assoc placed (block ∷ []) blocks)

pub none_placed : (list : List Op) (n : ℕ) (left placed : List (List ℕ)) → first_block (is_ready (numbered list) left) left ≡ None → placed_then placed (ordered_within (suc n) (numbered list) left) ≡ None
none_placed list n left placed e =
    ap (λ o. placed_then placed (elim o as (λ _. Option (List (List ℕ))) [ None ↦ None | Some b ↦ option_map (λ blocks. b ∷ blocks) (ordered_within n (numbered list) (filter (λ other. not (same_block other b)) left)) ])) e

pub all_placed : (placed : List (List ℕ)) → placed_then placed (Some []) ≡ Some placed
all_placed placed = ap Some (append-nil placed)

pub filter_map : (p : List ℕ → Bool) (blocks : List (List ℕ)) (left : List ℕ) → map (block_in blocks) (filter (λ k. p (block_in blocks k)) left) ≡ filter p (map (block_in blocks) left)
filter_map p blocks [] = refl
filter_map p blocks (k ∷ left) =
    elim (p (block_in blocks k)) as (λ t. map (block_in blocks) (cond t (k ∷ filter (λ k. p (block_in blocks k)) left) (filter (λ k. p (block_in blocks k)) left)) ≡ cond t (block_in blocks k ∷ filter p (map (block_in blocks) left)) (filter p (map (block_in blocks) left))) [
      | true ↦ ap (λ r. block_in blocks k ∷ r) (filter_map p blocks left)
      | false ↦ filter_map p blocks left
    ]

-- nothing is placed yet
pub order_begins : (list : List Op) (blocks : List (List ℕ)) (n : ℕ) (left placed : List ℕ) → n ≡ length blocks → left ≡ range_with_len 0 n → placed ≡ []
    → placed_then (map (block_in blocks) placed) (ordered_within (n - 0) (numbered list) (map (block_in blocks) left)) ≡ ordered list blocks
order_begins list blocks n left placed en el ep =
    ap₂ (λ ps ls. placed_then (map (block_in blocks) ps) (ordered_within (n - 0) (numbered list) (map (block_in blocks) ls))) ep (el ∙ ap (range_with_len 0) en)
    ∙ all_of (ordered_within (n - 0) (numbered list) (map (block_in blocks) (range_with_len 0 (length blocks))))
    ∙ ap₂ (λ k bs. ordered_within k (numbered list) bs) (let e : n - 0 ≡ length blocks = omega arith in e) (all_places blocks)
  where
    all_of : (o : Option (List (List ℕ))) → placed_then [] o ≡ o
    all_of None = refl
    all_of (Some bs) = refl

-- a turn: one more block is placed
pub order_goes_on : (list : List Op) (blocks : List (List ℕ)) (n turn : ℕ) (left placed next after : List ℕ) (place : ℕ) → turn < n
    → first_block (is_ready (numbered list) (map (block_in blocks) left)) (map (block_in blocks) left) ≡ Some (block_in blocks place)
    → after ≡ placed ++ place ∷ [] → next ≡ filter (λ other. not (same_block (block_in blocks other) (block_in blocks place))) left
    → placed_then (map (block_in blocks) after) (ordered_within (n - (turn + 1)) (numbered list) (map (block_in blocks) next))
    ≡ placed_then (map (block_in blocks) placed) (ordered_within (n - turn) (numbered list) (map (block_in blocks) left))
order_goes_on list blocks n turn left placed next after place less e ea en =
    ap₂ (λ ps ls. placed_then ps (ordered_within (n - (turn + 1)) (numbered list) ls)) (ap (map (block_in blocks)) ea ∙ items_end (block_in blocks) placed place)
    (ap (map (block_in blocks)) en ∙ filter_map (λ other. not (same_block other (block_in blocks place))) blocks left)
    ∙ one_placed list (n - (turn + 1)) (map (block_in blocks) left) (map (block_in blocks) placed) (block_in blocks place) e
    ∙ ap (λ k. placed_then (map (block_in blocks) placed) (ordered_within k (numbered list) (map (block_in blocks) left))) (let z : suc (n - (turn + 1)) ≡ n - turn = omega arith in z)

pub order_stops : (list : List Op) (blocks : List (List ℕ)) (n turn : ℕ) (left placed : List ℕ) → turn < n
    → first_block (is_ready (numbered list) (map (block_in blocks) left)) (map (block_in blocks) left) ≡ None
    → placed_then (map (block_in blocks) placed) (ordered_within (n - turn) (numbered list) (map (block_in blocks) left)) ≡ None
order_stops list blocks n turn left placed less e =
    ap (λ k. placed_then (map (block_in blocks) placed) (ordered_within k (numbered list) (map (block_in blocks) left))) (let z : n - turn ≡ suc (n - (turn + 1)) = omega arith in z)
    ∙ none_placed list (n - (turn + 1)) (map (block_in blocks) left) (map (block_in blocks) placed) e

pub all_ascend : (blocks : List (List ℕ)) (n : ℕ) (places : List ℕ) → All (λ k. k < n) places → ((k : ℕ) → k < n → ascends (block_in blocks k) ≡ true) → list_all ascends (map (block_in blocks) places) ≡ true
all_ascend blocks n places below each = from places (recursion_from_All (λ k. k < n) places below)
  where
    from : (ks : List ℕ) → AllByRecursion (λ k. k < n) ks → list_all ascends (map (block_in blocks) ks) ≡ true
    from [] h = refl
    from (k ∷ ks) h = and_from (ascends (block_in blocks k)) (list_all ascends (map (block_in blocks) ks)) (each k h.0) (from ks h.1)
