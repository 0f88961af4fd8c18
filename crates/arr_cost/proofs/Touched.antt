-- What a block costs, told by what its operations touch, in numbers.
use Rattle.std.proofs.Common.{◌≡◌, ℕ, zero, suc, ◌+◌, ◌*◌, ◌<◌, ◌≤◌, List, [], ◌∷◌, ◌++◌, Bool, true, false, cond, not, ◌&&◌, ◌||◌, Option, Some, None, length, map, take, get_or, refl, ap, ap₂, sym, ◌∙◌, arith, append_assoc, eq-eqb, length-append}
use Rattle.std.specs.Prelude.{◌==◌, nat_eq}
use Rattle.std.specs.List.{AllByRecursion, enumerate_from, filter, flat_map, list_any, position_or_len}
use Rattle.std.specs.Option.{option_map, option_to_list}
use Rattle.std.proofs.Math.Bool.{or-false}
use Rattle.std.proofs.lemmas.Bool.{and_parts, eqb-true, false≢true, ne_eqb, or_left, or_right}
use Rattle.std.proofs.lemmas.List.Folds.{list_any-append}
use Rattle.std.proofs.lemmas.List.{length-map, take_all, take_more}
use Rattle.arr_view.specs.Strided.{Strided}
use Rattle.arr_view.specs.Views.{has, identical}
use Rattle.arr_ops.specs.Costs.{all_reads, all_writes, block_cost, distinct, total, weight}
use Rattle.arr_ops.specs.Ops.{array_of, creates, freed, freed_by, inputs, makes_base, outputs, view_of, views}
use Rattle.arr_ops.specs.Plans.{numbered, ops_of}
use Rattle.arr_ops.specs.declared.op.Op.{Op}
use Rattle.arr_ops.proofs.Alike.{identical_if, identical_symm, identical_trans, same_weight}
use Rattle.arr_ops.proofs.FitsLaw.{all_append}
use Rattle.arr_ops.proofs.Merged.{two_cover}
use Rattle.arr_ops.proofs.Pairs.{All_filter, All_weaker}
use Rattle.arr_ops.proofs.Tests.{any_map, or_cases}
use Rattle.arr_cost.specs.declared.touches.Touch.{Touch}
use Rattle.arr_cost.specs.declared.touches.Touches.{Touches}
use Rattle.arr_cost.specs.Touches.{AreMarked, base_of, class_of, frees_number, kept, makes_number, outside, same_class, table_of, touch_of, touched_by, touches_of, untouched}

-- ---- lists

any_alike : {X : Type 0} (s t : X → Bool) (xs : List X) → ((x : X) → s x ≡ t x) → list_any s xs ≡ list_any t xs
any_alike s t [] h = refl
any_alike s t (x ∷ xs) h = ap₂ (λ a b. a || b) (h x) (any_alike s t xs h)

pub any_flat : {X Y : Type 0} (f : X → List Y) (t : Y → Bool) (xs : List X) → list_any t (flat_map f xs) ≡ list_any (λ x. list_any t (f x)) xs
any_flat f t [] = refl
any_flat f t (x ∷ xs) = list_any-append t (f x) (flat_map f xs) ∙ ap (λ b. list_any t (f x) || b) (any_flat f t xs)

any_none : {X : Type 0} (xs : List X) → list_any (λ x. false) xs ≡ false
any_none [] = refl
any_none (x ∷ xs) = any_none xs

pub any_either : {X : Type 0} (s t : X → Bool) (xs : List X) → list_any (λ x. s x || t x) xs ≡ (list_any s xs || list_any t xs)
any_either s t [] = refl
any_either s t (x ∷ xs) = ap (λ b. (s x || t x) || b) (any_either s t xs) ∙ crossed (s x) (t x) (list_any s xs) (list_any t xs)
  where
    crossed : (a b c d : Bool) → ((a || b) || (c || d)) ≡ ((a || c) || (b || d))
    crossed true b c d = refl
    crossed false true true d = refl
    crossed false true false d = refl
    crossed false false c d = refl

-- ---- the operations of a block, in the order of the block

abbrev pub at_place : {X : Type 0} → List X → ℕ → List X
at_place [] i = []
at_place (x ∷ xs) zero = x ∷ []
at_place (x ∷ xs) (suc i) = at_place xs i

abbrev pub at_number : {X : Type 0} → List X → ℕ → List X
at_number xs zero = []
at_number xs (suc i) = at_place xs i

abbrev pub picked : List Op → List ℕ → List Op
picked list block = flat_map (at_number list) block

-- some operation with the number passes
abbrev pub passes_at : (Op → Bool) → List (ℕ × Op) → ℕ → Bool
passes_at t xs i = list_any (λ (x : ℕ × Op). nat_eq x.0 i && t x.1) xs

of_block : (t : Op → Bool) (xs : List (ℕ × Op)) (block : List ℕ) → list_any t (ops_of xs block) ≡ list_any (λ (x : ℕ × Op). has block x.0 && t x.1) xs
of_block t [] block = refl
of_block t (x ∷ xs) block =
    elim (has block x.0) as (λ b. list_any t (cond b (x.1 ∷ ops_of xs block) (ops_of xs block)) ≡ ((b && t x.1) || list_any (λ (x : ℕ × Op). has block x.0 && t x.1) xs)) [
      | true ↦ ap (λ b. t x.1 || b) (of_block t xs block)
      | false ↦ of_block t xs block
    ]

by_numbers : (t : Op → Bool) (xs : List (ℕ × Op)) (block : List ℕ) → list_any (λ (x : ℕ × Op). has block x.0 && t x.1) xs ≡ list_any (passes_at t xs) block
by_numbers t xs [] = any_none xs
by_numbers t xs (i ∷ block) =
    any_alike (λ (x : ℕ × Op). has (i ∷ block) x.0 && t x.1) (λ (x : ℕ × Op). (nat_eq x.0 i && t x.1) || (has block x.0 && t x.1)) xs (λ x. shared (nat_eq x.0 i) (has block x.0) (t x.1))
    ∙ any_either (λ (x : ℕ × Op). nat_eq x.0 i && t x.1) (λ (x : ℕ × Op). has block x.0 && t x.1) xs
    ∙ ap (λ b. passes_at t xs i || b) (by_numbers t xs block)
  where
    shared : (a b c : Bool) → ((a || b) && c) ≡ ((a && c) || (b && c))
    shared true true true = refl
    shared true true false = refl
    shared true false true = refl
    shared true false false = refl
    shared false b c = refl

none_below : (t : Op → Bool) (k i : ℕ) (list : List Op) → i < k → passes_at t (enumerate_from k list) i ≡ false
none_below t k i [] l = refl
none_below t k i (op ∷ list) l = ap₂ (λ a b. (a && t op) || b) (ne_eqb k i (λ e. absurd (omega arith))) (none_below t (k + 1) i list (omega arith))

one_place : (t : Op → Bool) (k i j : ℕ) (list : List Op) → j ≡ k + i → passes_at t (enumerate_from k list) j ≡ list_any t (at_place list i)
one_place t k i j [] e = refl
one_place t k zero j (op ∷ list) e =
    ap₂ (λ a b. (a && t op) || b) (eq-eqb k j (omega arith)) (none_below t (k + 1) j list (omega arith))
one_place t k (suc i) j (op ∷ list) e =
    ap₂ (λ a b. (a && t op) || b) (ne_eqb k j (λ same. absurd (omega arith))) (one_place t (k + 1) i j list (omega arith))

one_number : (t : Op → Bool) (list : List Op) (i : ℕ) → passes_at t (numbered list) i ≡ list_any t (at_number list i)
one_number t list zero = none_below t 1 0 list (omega arith)
one_number t list (suc i) = one_place t 1 i (suc i) list (omega arith)

pub any_picked : (t : Op → Bool) (list : List Op) (block : List ℕ) → list_any t (ops_of (numbered list) block) ≡ list_any t (picked list block)
any_picked t list block =
    of_block t (numbered list) block
    ∙ by_numbers t (numbered list) block
    ∙ any_alike (passes_at t (numbered list)) (λ i. list_any t (at_number list i)) block (one_number t list)
    ∙ sym (any_flat (at_number list) t block)

-- the same by rows
row_at_place : (K : Touches → Bool) (g : Op → Touches) → K untouched ≡ false → (list : List Op) (i : ℕ) → K (get_or (map g list) i untouched) ≡ list_any (λ op. K (g op)) (at_place list i)
row_at_place K g none [] i = none
row_at_place K g none (op ∷ list) zero = sym (or-false (K (g op)))
row_at_place K g none (op ∷ list) (suc i) = row_at_place K g none list i

row_at_number : (K : Touches → Bool) (g : Op → Touches) → K untouched ≡ false → (list : List Op) (i : ℕ) → K (get_or (untouched ∷ map g list) i untouched) ≡ list_any (λ op. K (g op)) (at_number list i)
row_at_number K g none list zero = none
row_at_number K g none list (suc i) = row_at_place K g none list i

pub any_row : (K : Touches → Bool) (g : Op → Touches) → K untouched ≡ false → (list : List Op) (block : List ℕ) → list_any K (touched_by (untouched ∷ map g list) block) ≡ list_any (λ op. K (g op)) (picked list block)
any_row K g none list block =
    any_map (λ i. get_or (untouched ∷ map g list) i untouched) K block
    ∙ any_alike (λ i. K (get_or (untouched ∷ map g list) i untouched)) (λ i. list_any (λ op. K (g op)) (at_number list i)) block (row_at_number K g none list)
    ∙ sym (any_flat (at_number list) (λ op. K (g op)) block)

nothing_more : {X : Type 0} (xs : List X) → xs ++ [] ≡ xs
nothing_more [] = refl
nothing_more (x ∷ xs) = ap (λ r. x ∷ r) (nothing_more xs)

kept_at_place : (K : Touches → List Touch) (g : Op → Touches) → K untouched ≡ [] → (list : List Op) (i : ℕ) → K (get_or (map g list) i untouched) ≡ flat_map (λ op. K (g op)) (at_place list i)
kept_at_place K g none [] i = none
kept_at_place K g none (op ∷ list) zero = sym (nothing_more (K (g op)))
kept_at_place K g none (op ∷ list) (suc i) = kept_at_place K g none list i

kept_at_number : (K : Touches → List Touch) (g : Op → Touches) → K untouched ≡ [] → (list : List Op) (i : ℕ) → K (get_or (untouched ∷ map g list) i untouched) ≡ flat_map (λ op. K (g op)) (at_number list i)
kept_at_number K g none list zero = none
kept_at_number K g none list (suc i) = kept_at_place K g none list i

flat_join : {X Y : Type 0} (f : X → List Y) (xs ys : List X) → flat_map f (xs ++ ys) ≡ flat_map f xs ++ flat_map f ys
flat_join f [] ys = refl
flat_join f (x ∷ xs) ys = ap (λ r. f x ++ r) (flat_join f xs ys) ∙ sym (append_assoc (f x) (flat_map f xs) (flat_map f ys))

pub kept_rows : (K : Touches → List Touch) (g : Op → Touches) → K untouched ≡ [] → (list : List Op) (block : List ℕ) → flat_map K (touched_by (untouched ∷ map g list) block) ≡ flat_map (λ op. K (g op)) (picked list block)
kept_rows K g none list [] = refl
kept_rows K g none list (i ∷ block) =
    ap₂ (λ a b. a ++ b) (kept_at_number K g none list i) (kept_rows K g none list block)
    ∙ sym (flat_join (λ op. K (g op)) (at_number list i) (picked list block))

-- ---- numbers tell what is the same

same_bools : (a b : Bool) → (a ≡ true → b ≡ true) → (b ≡ true → a ≡ true) → a ≡ b
same_bools true true f g = refl
same_bools true false f g = absurd (false≢true (f refl))
same_bools false true f g = absurd (false≢true (g refl))
same_bools false false f g = refl

plus_one : (a b : ℕ) → (1 + a == 1 + b) ≡ (a == b)
plus_one a b =
    same_bools (1 + a == 1 + b) (a == b) (λ h. let e : 1 + a ≡ 1 + b = eqb-true (1 + a) (1 + b) h in eq-eqb a b (omega arith)) (λ h. let e : a ≡ b = eqb-true a b h in eq-eqb (1 + a) (1 + b) (omega arith))

turned : (a b : ℕ) → (a == b) ≡ (b == a)
turned a b = same_bools (a == b) (b == a) (λ h. eq-eqb b a (sym (eqb-true a b h))) (λ h. eq-eqb a b (sym (eqb-true b a h)))

module _ {A X : Type 0} (q : A → X → Bool) (s : A → A → Bool) (joins : (u v : A) (x : X) → q u x ≡ true → q v x ≡ true → s u v ≡ true) (keeps : (u v : A) → s u v ≡ true → (x : X) → q u x ≡ q v x) where
  pub same_place : (u v : A) (xs : List X) → list_any (q u) xs ≡ true → (position_or_len (q u) xs == position_or_len (q v) xs) ≡ s u v
  same_place u v [] h = absurd (false≢true h)
  same_place u v (x ∷ xs) h =
      elim (q u x) as (λ b. q u x ≡ b → (b || list_any (q u) xs) ≡ true → (cond (not b) (1 + position_or_len (q u) xs) 0 == position_or_len (q v) (x ∷ xs)) ≡ s u v) [
        | true ↦ λ e k. first e (q v x) refl
        | false ↦ λ e k. later e (q v x) refl (same_place u v xs k)
      ] refl h
    where
      first : q u x ≡ true → (c : Bool) → q v x ≡ c → (0 == cond (not c) (1 + position_or_len (q v) xs) 0) ≡ s u v
      first e true f = sym (joins u v x e f)
      first e false f = elim (s u v) as (λ b. s u v ≡ b → (0 == 1 + position_or_len (q v) xs) ≡ b) [
        | true ↦ λ same. absurd (false≢true (sym f ∙ sym (keeps u v same x) ∙ e))
        | false ↦ λ same. ne_eqb 0 (1 + position_or_len (q v) xs) (λ z. absurd (omega arith))
      ] refl

      later : q u x ≡ false → (c : Bool) → q v x ≡ c → (position_or_len (q u) xs == position_or_len (q v) xs) ≡ s u v → (1 + position_or_len (q u) xs == cond (not c) (1 + position_or_len (q v) xs) 0) ≡ s u v
      later e true f ih = elim (s u v) as (λ b. s u v ≡ b → (1 + position_or_len (q u) xs == 0) ≡ b) [
        | true ↦ λ same. absurd (false≢true (sym e ∙ keeps u v same x ∙ f))
        | false ↦ λ same. ne_eqb (1 + position_or_len (q u) xs) 0 (λ z. absurd (omega arith))
      ] refl
      later e false f ih = plus_one (position_or_len (q u) xs) (position_or_len (q v) xs) ∙ ih

-- it is among all views
abbrev pub Among : List Strided → Strided → Type 0
Among all v = list_any (identical v) all ≡ true

class_tells : (all : List Strided) (u v : Strided) → Among all u → (class_of all u == class_of all v) ≡ identical u v
class_tells all u v h =
    same_place identical identical (λ u v x a b. identical_trans u x v a (identical_symm v x b))
    (λ u v a x. same_bools (identical u x) (identical v x) (λ b. identical_trans v u x (identical_symm u v a) b) (λ b. identical_trans u v x a b)) u v all h

any_weaker : {X : Type 0} (s t : X → Bool) → ((x : X) → s x ≡ true → t x ≡ true) → (xs : List X) → list_any s xs ≡ true → list_any t xs ≡ true
any_weaker s t step [] h = h
any_weaker s t step (x ∷ xs) h =
    or_cases (s x) (list_any s xs) h (λ here. or_left (t x) (list_any t xs) (step x here)) (λ later. or_right (t x) (list_any t xs) (any_weaker s t step xs later))

base_tells : (all : List Strided) (v : Strided) (b : ℕ) → Among all v → (base_of all v.base == base_of all b) ≡ (v.base == b)
base_tells all v b h =
    same_place (λ (c : ℕ) (u : Strided). u.base == c) (λ c d. c == d) (λ c d u e f. eq-eqb c d (sym (eqb-true u.base c e) ∙ eqb-true u.base d f))
    (λ c d e u. ap (λ n. u.base == n) (eqb-true c d e)) v.base b all
    (any_weaker (identical v) (λ (u : Strided). u.base == v.base) (λ u e. turned u.base v.base ∙ (and_parts (v.base == u.base) _ e).0) all h)

-- ---- the views of a block, each of them among all

own : (vs : List Strided) → AllByRecursion (λ v. list_any (identical v) vs ≡ true) vs
own [] = tt
own (v ∷ vs) = (
  or_left (identical v v) (list_any (identical v) vs) (identical_if v v (record { base = refl; lengths = refl; places = refl })),
  All_weaker (λ u. list_any (identical u) vs ≡ true) (λ u. (identical u v || list_any (identical u) vs) ≡ true) (λ u h. or_right (identical u v) (list_any (identical u) vs) h) vs (own vs),
)

abbrev pub Known : List Strided → Op → Type 0
Known all op = AllByRecursion (Among all) (views op)

pub known_in : (all : List Strided) (list : List Op) → ((v : Strided) → list_any (identical v) (flat_map views list) ≡ true → Among all v) → AllByRecursion (Known all) list
known_in all [] step = tt
known_in all (op ∷ list) step = (
  All_weaker (λ v. list_any (identical v) (views op) ≡ true) (Among all)
      (λ v h. step v (list_any-append (identical v) (views op) (flat_map views list) ∙ or_left (list_any (identical v) (views op)) (list_any (identical v) (flat_map views list)) h)) (views op) (own (views op)),
  known_in all list (λ v h. step v (list_any-append (identical v) (views op) (flat_map views list) ∙ or_right (list_any (identical v) (views op)) (list_any (identical v) (flat_map views list)) h)),
)

place_known : (P : Op → Type 0) (list : List Op) (i : ℕ) → AllByRecursion P list → AllByRecursion P (at_place list i)
place_known P [] i h = tt
place_known P (op ∷ list) zero h = (h.0, tt)
place_known P (op ∷ list) (suc i) h = place_known P list i h.1

number_known : (P : Op → Type 0) (list : List Op) (i : ℕ) → AllByRecursion P list → AllByRecursion P (at_number list i)
number_known P list zero h = tt
number_known P list (suc i) h = place_known P list i h

pub picked_known : (P : Op → Type 0) (list : List Op) (block : List ℕ) → AllByRecursion P list → AllByRecursion P (picked list block)
picked_known P list [] h = tt
picked_known P list (i ∷ block) h = all_append P (at_number list i) (picked list block) (number_known P list i h) (picked_known P list block h)

pub all_before : (P : Strided → Type 0) (us vs : List Strided) → AllByRecursion P (us ++ vs) → AllByRecursion P us
all_before P [] vs h = tt
all_before P (u ∷ us) vs h = (h.0, all_before P us vs h.1)

pub all_after : (P : Strided → Type 0) (us vs : List Strided) → AllByRecursion P (us ++ vs) → AllByRecursion P vs
all_after P [] vs h = h
all_after P (u ∷ us) vs h = all_after P us vs h.1

filter_join : (p : Strided → Bool) (us vs : List Strided) → filter p (us ++ vs) ≡ filter p us ++ filter p vs
filter_join p [] vs = refl
filter_join p (u ∷ us) vs =
    elim (p u) as (λ b. cond b (u ∷ filter p (us ++ vs)) (filter p (us ++ vs)) ≡ cond b (u ∷ filter p us) (filter p us) ++ filter p vs) [
      | true ↦ ap (λ r. u ∷ r) (filter_join p us vs)
      | false ↦ filter_join p us vs
    ]

map_join : (f : Strided → Touch) (us vs : List Strided) → map f (us ++ vs) ≡ map f us ++ map f vs
map_join f [] vs = refl
map_join f (u ∷ us) vs = ap (λ r. f u ∷ r) (map_join f us vs)

-- ---- sums over views and over what stands for them

module _ (list : List Op) where
  abbrev pub f_of : Strided → Touch
  f_of v = touch_of list (flat_map views list) v

  filter_told : (v : Strided) (us : List Strided) → Among (flat_map views list) v
      → filter (λ (t : Touch). not (same_class (f_of v) t)) (map f_of us) ≡ map f_of (filter (λ (u : Strided). not (identical v u)) us)
  filter_told v [] h = refl
  filter_told v (u ∷ us) h =
      ap (λ b. cond (not b) (f_of u ∷ filter (λ (t : Touch). not (same_class (f_of v) t)) (map f_of us)) (filter (λ (t : Touch). not (same_class (f_of v) t)) (map f_of us))) (class_tells (flat_map views list) v u h)
      ∙ elim (identical v u) as (λ b. cond (not b) (f_of u ∷ filter (λ (t : Touch). not (same_class (f_of v) t)) (map f_of us)) (filter (λ (t : Touch). not (same_class (f_of v) t)) (map f_of us)) ≡ map f_of (cond (not b) (u ∷ filter (λ (w : Strided). not (identical v w)) us) (filter (λ (w : Strided). not (identical v w)) us))) [
        | true ↦ filter_told v us h
        | false ↦ ap (λ r. f_of u ∷ r) (filter_told v us h)
      ]

  distinct_told : (vs : List Strided) → AllByRecursion (Among (flat_map views list)) vs → distinct same_class (map f_of vs) ≡ map f_of (distinct identical vs)
  distinct_told [] h = refl
  distinct_told (v ∷ vs) h =
      ap (λ r. f_of v ∷ filter (λ (t : Touch). not (same_class (f_of v) t)) r) (distinct_told vs h.1) ∙ ap (λ r. f_of v ∷ r) (filter_told v (distinct identical vs) h.0)

  total_told : (vs : List Strided) → total (λ (t : Touch). t.weight) (map f_of vs) ≡ total (weight list) vs
  total_told [] = refl
  total_told (v ∷ vs) = ap (λ n. weight list v + n) (total_told vs)

  no_more : (us vs : List Strided) → ((v : Strided) → list_any (identical v) vs ≡ list_any (identical v) us) → total (weight list) (distinct identical vs) ≤ total (weight list) (distinct identical us)
  no_more us vs same =
      let h : total (weight list) (distinct identical vs) ≤ total (weight list) (distinct identical us) + 0 = two_cover identical identical_symm identical_trans (weight list) (same_weight list) vs us []
      (All_weaker (λ v. list_any (identical v) vs ≡ true) (λ v. (list_any (identical v) us || false) ≡ true) (λ v k. or_left (list_any (identical v) us) false (sym (same v) ∙ k)) vs (own vs)) in
      omega arith

  same_total : (us vs : List Strided) → ((v : Strided) → list_any (identical v) vs ≡ list_any (identical v) us) → total (weight list) (distinct identical us) ≡ total (weight list) (distinct identical vs)
  same_total us vs same =
      let a : total (weight list) (distinct identical vs) ≤ total (weight list) (distinct identical us) = no_more us vs same in
      let b : total (weight list) (distinct identical us) ≤ total (weight list) (distinct identical vs) = no_more vs us (λ v. sym (same v)) in
      omega arith

-- ---- what stays outside a block

out_told : (list : List Op) (v : Strided) (o : Option Strided) → Among (flat_map views list) v
    → list_any (λ (t : Touch). t.base == base_of (flat_map views list) v.base) (option_to_list (option_map (f_of list) o)) ≡ list_any (λ (u : Strided). u.base == v.base) (option_to_list o)
out_told list v None h = refl
out_told list v (Some u) h =
    ap (λ b. b || false) (turned (base_of (flat_map views list) u.base) (base_of (flat_map views list) v.base) ∙ base_tells (flat_map views list) v u.base h ∙ turned v.base u.base)

made_told : (list : List Op) (v : Strided) → Among (flat_map views list) v → (op : Op) → makes_number (base_of (flat_map views list) v.base) (touches_of list (flat_map views list) op) ≡ makes_base op v.base
made_told list v h op = ap (λ b. op.makes && b) (out_told list v op.out h)

freed_told : (list : List Op) (v : Strided) → Among (flat_map views list) v → (op : Op) → frees_number (base_of (flat_map views list) v.base) (touches_of list (flat_map views list) op) ≡ has (freed op) v.base
freed_told list v h op = of_free op.frees
  where
    of_free : (o : Option ℕ) → has (option_to_list (option_map (base_of (flat_map views list)) o)) (base_of (flat_map views list) v.base) ≡ has (option_to_list o) v.base
    of_free None = refl
    of_free (Some b) = ap (λ c. c || false) (base_tells (flat_map views list) v b h)

pub short_place : {X : Type 0} (p : X → Bool) (xs : List X) → position_or_len p xs ≤ length xs
short_place p [] = omega arith
short_place p (x ∷ xs) =
    let h : position_or_len p xs ≤ length xs = short_place p xs in
    elim (p x) as (λ b. cond (not b) (1 + position_or_len p xs) 0 ≤ suc (length xs)) [ true ↦ omega arith | false ↦ omega arith ]

pub few_views : (list : List Op) → length (flat_map views list) ≤ 3 * length list
few_views [] = omega arith
few_views (op ∷ list) =
    let h : length (flat_map views list) ≤ 3 * length list = few_views list in
    let s : length (views op ++ flat_map views list) ≡ length (views op) + length (flat_map views list) = length-append (views op) (flat_map views list) in
    let o : length (views op) ≡ length (outputs op) + length (inputs op) = length-append (outputs op) (inputs op) in
    let i : length (inputs op) ≡ length (view_of op.first) + length (view_of op.second) = length-append (view_of op.first) (view_of op.second) in
    let a : length (outputs op) ≤ 1 = one_at_most op.out in
    let b : length (view_of op.first) ≤ 1 = one_at_most (array_of op.first) in
    let c : length (view_of op.second) ≤ 1 = one_at_most (array_of op.second) in
    omega arith
  where
    one_at_most : (o : Option Strided) → length (option_to_list o) ≤ 1
    one_at_most None = omega arith
    one_at_most (Some v) = omega arith

module _ (list : List Op) (block : List ℕ) where
  abbrev pub in_block : List Op
  in_block = ops_of (numbered list) block

  base_inside : (v : Strided) → base_of (flat_map views list) v.base < 3 * length (table_of list)
  base_inside v =
      let a : base_of (flat_map views list) v.base ≤ length (flat_map views list) = short_place (λ (u : Strided). u.base == v.base) (flat_map views list) in
      let b : length (flat_map views list) ≤ 3 * length list = few_views list in
      let c : length (map (touches_of list (flat_map views list)) list) ≡ length list = length-map list (touches_of list (flat_map views list)) in
      omega arith

  made_is : (marked : List Bool) → AreMarked makes_number (table_of list) block marked → (v : Strided) → Among (flat_map views list) v → get_or marked (base_of (flat_map views list) v.base) false ≡ creates in_block v.base
  made_is marked m v h =
      m.each (base_of (flat_map views list) v.base) (base_inside v)
      ∙ any_row (makes_number (base_of (flat_map views list) v.base)) (touches_of list (flat_map views list)) refl list block
      ∙ any_alike (λ op. makes_number (base_of (flat_map views list) v.base) (touches_of list (flat_map views list) op)) (λ op. makes_base op v.base) (picked list block) (made_told list v h)
      ∙ sym (any_picked (λ op. makes_base op v.base) list block)

  freed_is : (marked : List Bool) → AreMarked frees_number (table_of list) block marked → (v : Strided) → Among (flat_map views list) v → get_or marked (base_of (flat_map views list) v.base) false ≡ freed_by in_block v.base
  freed_is marked m v h =
      m.each (base_of (flat_map views list) v.base) (base_inside v)
      ∙ any_row (frees_number (base_of (flat_map views list) v.base)) (touches_of list (flat_map views list)) refl list block
      ∙ any_alike (λ op. frees_number (base_of (flat_map views list) v.base) (touches_of list (flat_map views list) op)) (λ op. has (freed op) v.base) (picked list block) (freed_told list v h)
      ∙ sym (any_picked (λ op. has (freed op) v.base) list block)

  -- the views of an operation that the block does not make or free
  abbrev pub left_of : Op → List Strided
  left_of op = filter (λ (v : Strided). not (creates in_block v.base)) (inputs op) ++ filter (λ (v : Strided). not (freed_by in_block v.base)) (outputs op)

  outside_told : (marked : List Bool) (p : ℕ → Bool) (o : Option Strided) → AllByRecursion (λ (v : Strided). get_or marked (base_of (flat_map views list) v.base) false ≡ p v.base) (option_to_list o)
      → outside marked (option_map (f_of list) o) ≡ map (f_of list) (filter (λ (v : Strided). not (p v.base)) (option_to_list o))
  outside_told marked p None h = refl
  outside_told marked p (Some v) h =
      ap (λ b. cond (not b) (f_of list v ∷ []) []) h.0
      ∙ elim (p v.base) as (λ b. cond (not b) (f_of list v ∷ []) [] ≡ map (f_of list) (cond (not b) (v ∷ []) [])) [ true ↦ refl | false ↦ refl ]

  kept_told : (made freed : List Bool) → AreMarked makes_number (table_of list) block made → AreMarked frees_number (table_of list) block freed → (op : Op) → Known (flat_map views list) op
      → kept made freed (touches_of list (flat_map views list) op) ≡ map (f_of list) (left_of op)
  kept_told made freed m f op h =
      let p : ℕ → Bool = creates in_block in
      let r : ℕ → Bool = freed_by in_block in
      let ins : AllByRecursion (Among (flat_map views list)) (inputs op) = all_after (Among (flat_map views list)) (outputs op) (inputs op) h in
      let reads : (vs : List Strided) → AllByRecursion (Among (flat_map views list)) vs → AllByRecursion (λ (v : Strided). get_or made (base_of (flat_map views list) v.base) false ≡ p v.base) vs
      = λ vs k. All_weaker (Among (flat_map views list)) (λ (v : Strided). get_or made (base_of (flat_map views list) v.base) false ≡ p v.base) (made_is made m) vs k in
      ap₂ (λ a b. a ++ b)
      (ap₂ (λ a b. a ++ b)
      (outside_told made p (array_of op.first) (reads (view_of op.first) (all_before (Among (flat_map views list)) (view_of op.first) (view_of op.second) ins)))
      (outside_told made p (array_of op.second) (reads (view_of op.second) (all_after (Among (flat_map views list)) (view_of op.first) (view_of op.second) ins)))
      ∙ sym (map_join (f_of list) (filter (λ (v : Strided). not (p v.base)) (view_of op.first)) (filter (λ (v : Strided). not (p v.base)) (view_of op.second)))
      ∙ ap (map (f_of list)) (sym (filter_join (λ (v : Strided). not (p v.base)) (view_of op.first) (view_of op.second))))
      (outside_told freed r op.out
      (All_weaker (Among (flat_map views list)) (λ (v : Strided). get_or freed (base_of (flat_map views list) v.base) false ≡ r v.base) (freed_is freed f) (outputs op) (all_before (Among (flat_map views list)) (outputs op) (inputs op) h)))
      ∙ sym (map_join (f_of list) (filter (λ (v : Strided). not (p v.base)) (inputs op)) (filter (λ (v : Strided). not (r v.base)) (outputs op)))

  flat_told : (made freed : List Bool) → AreMarked makes_number (table_of list) block made → AreMarked frees_number (table_of list) block freed → (ops : List Op) → AllByRecursion (Known (flat_map views list)) ops
      → flat_map (λ op. kept made freed (touches_of list (flat_map views list) op)) ops ≡ map (f_of list) (flat_map left_of ops)
  flat_told made freed m f [] h = refl
  flat_told made freed m f (op ∷ ops) h =
      ap₂ (λ a b. a ++ b) (kept_told made freed m f op h.0) (flat_told made freed m f ops h.1) ∙ sym (map_join (f_of list) (left_of op) (flat_map left_of ops))

  left_known : (ops : List Op) → AllByRecursion (Known (flat_map views list)) ops → AllByRecursion (Among (flat_map views list)) (flat_map left_of ops)
  left_known [] h = tt
  left_known (op ∷ ops) h =
      all_append (Among (flat_map views list)) (left_of op) (flat_map left_of ops)
      (all_append (Among (flat_map views list)) (filter (λ (v : Strided). not (creates in_block v.base)) (inputs op)) (filter (λ (v : Strided). not (freed_by in_block v.base)) (outputs op))
      (some_known (λ (v : Strided). not (creates in_block v.base)) (inputs op) (all_after (Among (flat_map views list)) (outputs op) (inputs op) h.0))
      (some_known (λ (v : Strided). not (freed_by in_block v.base)) (outputs op) (all_before (Among (flat_map views list)) (outputs op) (inputs op) h.0)))
      (left_known ops h.1)
    where
      some_known : (p : Strided → Bool) (vs : List Strided) → AllByRecursion (Among (flat_map views list)) vs → AllByRecursion (Among (flat_map views list)) (filter p vs)
      some_known p vs k = All_filter (Among (flat_map views list)) p vs (All_weaker (Among (flat_map views list)) (λ v. p v ≡ true → Among (flat_map views list) v) (λ v a _. a) vs k)

  same_left : (q : Strided → Bool) → list_any q (all_reads in_block ++ all_writes in_block) ≡ list_any q (flat_map left_of (picked list block))
  same_left q =
      list_any-append q (all_reads in_block) (all_writes in_block)
      ∙ ap₂ (λ a b. a || b) (any_flat (λ (op : Op). filter (λ (v : Strided). not (creates in_block v.base)) (inputs op)) q in_block) (any_flat (λ (op : Op). filter (λ (v : Strided). not (freed_by in_block v.base)) (outputs op)) q in_block)
      ∙ sym (any_either (λ (op : Op). list_any q (filter (λ (v : Strided). not (creates in_block v.base)) (inputs op))) (λ (op : Op). list_any q (filter (λ (v : Strided). not (freed_by in_block v.base)) (outputs op))) in_block)
      ∙ any_alike _ (λ op. list_any q (left_of op)) in_block (λ op. sym (list_any-append q (filter (λ (v : Strided). not (creates in_block v.base)) (inputs op)) (filter (λ (v : Strided). not (freed_by in_block v.base)) (outputs op))))
      ∙ any_picked (λ op. list_any q (left_of op)) list block
      ∙ sym (any_flat left_of q (picked list block))

  pub touched_cost : (made freed : List Bool) → AreMarked makes_number (table_of list) block made → AreMarked frees_number (table_of list) block freed
      → total (λ (t : Touch). t.weight) (distinct same_class (flat_map (kept made freed) (touched_by (table_of list) block))) ≡ block_cost list block
  touched_cost made freed m f =
      let known : AllByRecursion (Known (flat_map views list)) (picked list block) = picked_known (Known (flat_map views list)) list block (known_in (flat_map views list) list (λ v h. h)) in
      ap (λ (ts : List Touch). total (λ (t : Touch). t.weight) (distinct same_class ts))
      (kept_rows (kept made freed) (touches_of list (flat_map views list)) refl list block ∙ flat_told made freed m f (picked list block) known)
      ∙ ap (total (λ (t : Touch). t.weight)) (distinct_told list (flat_map left_of (picked list block)) (left_known (picked list block) known))
      ∙ total_told list (distinct identical (flat_map left_of (picked list block)))
      ∙ same_total list (flat_map left_of (picked list block)) (all_reads in_block ++ all_writes in_block) (λ v. same_left (identical v))

pub whole_table : (list : List Op) (every : List Strided) (i : ℕ) (table : List Touches) → length list ≤ i → table ≡ untouched ∷ map (touches_of list every) (take i list) → length table ≡ length list + 1
whole_table list every i table l e =
    let a : length table ≡ suc (length (map (touches_of list every) (take i list))) = ap length e in
    let b : length (map (touches_of list every) (take i list)) ≡ length (take i list) = length-map (take i list) (touches_of list every) in
    let c : length (take i list) ≡ length list = ap length (take_all i list l) in
    omega arith

pub table_more : (list : List Op) (every : List Strided) (i : ℕ) (op : Op) (t : Touches) → i < length list → op ≡ get_or list i op → t ≡ touches_of list every op
    → map (touches_of list every) (take i list) ++ t ∷ [] ≡ map (touches_of list every) (take (i + 1) list)
table_more list every i op t l e same =
    ap (λ u. map (touches_of list every) (take i list) ++ u ∷ []) same ∙ sym (ap (map (touches_of list every)) (take_more list i op l ∙ ap (λ o. take i list ++ o ∷ []) (sym e)) ∙ join (take i list))
  where
    join : (ops : List Op) → map (touches_of list every) (ops ++ op ∷ []) ≡ map (touches_of list every) ops ++ touches_of list every op ∷ []
    join [] = refl
    join (o ∷ ops) = ap (λ r. touches_of list every o ∷ r) (join ops)

pub one_all : (P : Touches → Type 0) (t : Touches) → P t → (k : ℕ) (d : Touches) → k < 1 → P (get_or (t ∷ []) k d)
one_all P t h zero d l = h
one_all P t h (suc k) d l = absurd (omega arith)
