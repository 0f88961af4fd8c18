-- Elements of a list, blocks taken out of a partition, and what pairs of a numbered list have.
use Rattle.std.proofs.Common.{◌≡◌, ℕ, ◌+◌, ◌≤◌, ◌<◌, suc, min, List, [], ◌∷◌, ◌++◌, Bool, true, false, cond, not, ◌||◌, refl, ap, sym, subst, ◌∙◌, arith, ◌⊎◌, inl, inr}
use Rattle.std.proofs.lemmas.Bool.{false≢true, ne_eqb, eq-eqb, both_ways, ltb-true, ltb-false}
use Rattle.std.specs.Prelude.{◌==◌, nat_lt}
use Rattle.std.specs.List.{filter, AllByRecursion, list_any, sum_by}
use Rattle.std.specs.List.Sorted.{IsPermutation}
use Rattle.std.proofs.lemmas.List.Sorted.{IsPermutation-refl, IsPermutation-cons, IsPermutation-trans, IsPermutation-middle, All-permutation, sum_by-IsPermutation}
use Rattle.std.proofs.lemmas.List.Sums.{sum_by-cons}
use Rattle.std.proofs.lemmas.List.Elements.{All-from_recursion, recursion_from_All}
use Rattle.arr_view.specs.Views.{has}
use Rattle.arr_ops.specs.Plans.{holders, not_empty}
use Rattle.arr_ops.specs.Order.{In, least_of, same_block}
use Rattle.arr_ops.proofs.Pairs.{Pairs}

pub all_in : {X : Type 0} (P : X → Type 0) (xs : List X) → AllByRecursion P xs → (x : X) → In x xs → P x
all_in P [] h x i = absurd i
all_in P (y ∷ ys) h x (inl e) = subst P (sym e) h.0
all_in P (y ∷ ys) h x (inr i) = all_in P ys h.1 x i

pub in_all : {X : Type 0} (P : X → Type 0) (xs : List X) → ((x : X) → In x xs → P x) → AllByRecursion P xs
in_all P [] f = tt
in_all P (x ∷ xs) f = (f x (inl refl), in_all P xs (λ y i. f y (inr i)))

pub in_filter : {X : Type 0} (p : X → Bool) (xs : List X) (x : X) → In x (filter p xs) → In x xs × (p x ≡ true)
in_filter p [] x i = absurd i
in_filter p (y ∷ ys) x i =
    elim (p y) as (λ b. p y ≡ b → In x (cond b (y ∷ filter p ys) (filter p ys)) → In x (y ∷ ys) × (p x ≡ true)) [
      | true ↦ λ e j. elim j as (λ _. In x (y ∷ ys) × (p x ≡ true)) [ inl f ↦ (inl f, ap p f ∙ e) | inr k ↦ let h = in_filter p ys x k in (inr h.0, h.1) ]
      | false ↦ λ e j. let h = in_filter p ys x j in (inr h.0, h.1)
    ] refl i

pub filter_in : {X : Type 0} (p : X → Bool) (xs : List X) (x : X) → In x xs → p x ≡ true → In x (filter p xs)
filter_in p [] x i t = absurd i
filter_in p (y ∷ ys) x i t =
    elim (p y) as (λ b. p y ≡ b → In x (cond b (y ∷ filter p ys) (filter p ys))) [
      | true ↦ λ e. elim i as (λ _. In x (y ∷ filter p ys)) [ inl f ↦ inl f | inr k ↦ inr (filter_in p ys x k t) ]
      | false ↦ λ e. elim i as (λ _. In x (filter p ys)) [ inl f ↦ absurd (both_ways (p y) e (ap p (sym f) ∙ t)) | inr k ↦ filter_in p ys x k t ]
    ] refl

pub in_permutation : {X : Type 0} (xs ys : List X) → IsPermutation xs ys → (x : X) → In x ys → In x xs
in_permutation xs ys h =
    all_in (λ x. In x xs) ys (recursion_from_All (λ x. In x xs) ys (All-permutation (λ x. In x xs) xs ys h (All-from_recursion (λ x. In x xs) xs (in_all (λ x. In x xs) xs (λ x i. i)))))

pub any_false : {X : Type 0} (p : X → Bool) (xs : List X) → ((x : X) → In x xs → p x ≡ false) → list_any p xs ≡ false
any_false p [] f = refl
any_false p (x ∷ xs) f = ap (λ b. b || list_any p xs) (f x (inl refl)) ∙ any_false p xs (λ y i. f y (inr i))

pub false_any : {X : Type 0} (p : X → Bool) (xs : List X) → list_any p xs ≡ false → (x : X) → In x xs → p x ≡ false
false_any p [] e x i = absurd i
false_any p (y ∷ ys) e x i =
    elim (p y) as (λ b. p y ≡ b → (b || list_any p ys) ≡ false → p x ≡ false) [
      | true ↦ λ t f. absurd (false≢true (sym f))
      | false ↦ λ t f. elim i as (λ _. p x ≡ false) [ inl k ↦ ap p k ∙ t | inr k ↦ false_any p ys f x k ]
    ] refl e

pub pairs_append : {X : Type 0} (R : X → X → Type 0) (xs ys : List X) → Pairs R xs → Pairs R ys → ((x y : X) → In x xs → In y ys → R x y) → Pairs R (xs ++ ys)
pairs_append R [] ys a b f = b
pairs_append R (x ∷ xs) ys a b f =
    (heads xs a.0, pairs_append R xs ys a.1 b (λ u v i j. f u v (inr i) j))
  where
    heads : (zs : List _) → AllByRecursion (R x) zs → AllByRecursion (R x) (zs ++ ys)
    heads [] h = in_all (R x) ys (λ y j. f x y (inl refl) j)
    heads (z ∷ zs) h = (h.0, heads zs h.1)

pub in_append : {X : Type 0} (xs ys : List X) (x : X) → In x (xs ++ ys) → In x xs ⊎ In x ys
in_append [] ys x i = inr i
in_append (z ∷ zs) ys x (inl e) = inl (inl e)
in_append (z ∷ zs) ys x (inr i) = elim (in_append zs ys x i) as (λ _. In x (z ∷ zs) ⊎ In x ys) [ inl j ↦ inl (inr j) | inr j ↦ inr j ]

-- ---- blocks with different least numbers

abbrev pub Apart : List ℕ → List ℕ → Type 0
Apart a b = least_of a ≡ least_of b → ⊥

abbrev pub Distinct : List (List ℕ) → Type 0
Distinct blocks = Pairs Apart blocks

abbrev pub others : List ℕ → List (List ℕ) → List (List ℕ)
others b blocks = filter (λ c. not (same_block c b)) blocks

pub others_all : (b : List ℕ) (blocks : List (List ℕ)) → AllByRecursion (Apart b) blocks → others b blocks ≡ blocks
others_all b [] h = refl
others_all b (c ∷ cs) h =
    ap (λ t. cond (not t) (c ∷ others b cs) (others b cs)) (ne_eqb (least_of c) (least_of b) (λ e. h.0 (sym e))) ∙ ap (λ l. c ∷ l) (others_all b cs h.1)

-- it and the others
pub takes : (b : List ℕ) (blocks : List (List ℕ)) → Distinct blocks → In b blocks → IsPermutation blocks (b ∷ others b blocks)
takes b [] d i = absurd i
takes b (c ∷ cs) d (inl e) =
    subst (λ l. IsPermutation (c ∷ cs) l)
    (ap (λ k. k ∷ cs) (sym e) ∙ ap (λ l. b ∷ l) (sym (ap (λ t. cond (not t) (c ∷ others b cs) (others b cs)) (eq-eqb (least_of c) (least_of b) (ap least_of (sym e))) ∙ others_all b cs (subst (λ k. AllByRecursion (Apart k) cs) (sym e) d.0))))
    (IsPermutation-refl (c ∷ cs))
takes b (c ∷ cs) d (inr i) =
    subst (λ l. IsPermutation (c ∷ cs) (b ∷ l))
    (sym (ap (λ t. cond (not t) (c ∷ others b cs) (others b cs)) (ne_eqb (least_of c) (least_of b) (all_in (Apart c) cs d.0 b i))))
    (IsPermutation-trans (c ∷ cs) (c ∷ b ∷ others b cs) (b ∷ c ∷ others b cs)
    (IsPermutation-cons c cs (b ∷ others b cs) (takes b cs d.1 i))
    (IsPermutation-middle (c ∷ []) b (others b cs)))

pub distinct_others : (p : List ℕ → Bool) (blocks : List (List ℕ)) → Distinct blocks → Distinct (filter p blocks)
distinct_others p [] d = tt
distinct_others p (c ∷ cs) d =
    elim (p c) as (λ t. Distinct (cond t (c ∷ filter p cs) (filter p cs))) [
      | true ↦ (in_all (Apart c) (filter p cs) (λ b i. all_in (Apart c) cs d.0 b (in_filter p cs b i).0), distinct_others p cs d.1)
      | false ↦ distinct_others p cs d.1
    ]

abbrev pub one_if : ℕ → List ℕ → ℕ
one_if i b = cond (has b i) 1 0

pub holders_sum : (blocks : List (List ℕ)) (i : ℕ) → holders blocks i ≡ sum_by (one_if i) blocks
holders_sum [] i = refl
holders_sum (b ∷ bs) i =
    let h : holders bs i ≡ sum_by (one_if i) bs = holders_sum bs i in
    let s : sum_by (one_if i) (b ∷ bs) ≡ one_if i b + sum_by (one_if i) bs = sum_by-cons (one_if i) b bs in
    elim (has b i) as (λ t. cond t (suc (holders bs i)) (holders bs i) ≡ cond t 1 0 + sum_by (one_if i) bs) [
      | true ↦ omega arith
      | false ↦ omega arith
    ] ∙ sym s

pub holders_permutation : (xs ys : List (List ℕ)) → IsPermutation xs ys → (i : ℕ) → holders ys i ≡ holders xs i
holders_permutation xs ys h i = holders_sum ys i ∙ sum_by-IsPermutation (one_if i) xs ys h ∙ sym (holders_sum xs i)

-- some block has it
pub holder_of : (blocks : List (List ℕ)) (i : ℕ) → 1 ≤ holders blocks i → (b : List ℕ) × In b blocks × (has b i ≡ true)
holder_of [] i l = absurd (omega arith)
holder_of (b ∷ bs) i l =
    elim (has b i) as (λ t. has b i ≡ t → 1 ≤ cond t (suc (holders bs i)) (holders bs i) → (c : List ℕ) × In c (b ∷ bs) × (has c i ≡ true)) [
      | true ↦ λ e k. (b, inl refl, e)
      | false ↦ λ e k. let r = holder_of bs i k in (r.0, inr r.1, r.2)
    ] refl l

pub held : (blocks : List (List ℕ)) (b : List ℕ) (i : ℕ) → In b blocks → has b i ≡ true → 1 ≤ holders blocks i
held [] b i m h = absurd m
held (c ∷ cs) b i (inl e) h = subst (λ t. 1 ≤ cond t (suc (holders cs i)) (holders cs i)) (sym h ∙ ap (λ k. has k i) e) (omega arith)
held (c ∷ cs) b i (inr m) h =
    let k : 1 ≤ holders cs i = held cs b i m h in
    elim (has c i) as (λ t. 1 ≤ cond t (suc (holders cs i)) (holders cs i)) [ true ↦ omega arith | false ↦ k ]

pub has_least : (b : List ℕ) → not_empty b ≡ true → has b (least_of b) ≡ true
has_least [] e = absurd (false≢true e)
has_least (i ∷ []) e = ap (λ t. t || false) (eq-eqb i i refl)
has_least (i ∷ j ∷ js) e =
    let h : has (j ∷ js) (least_of (j ∷ js)) ≡ true = has_least (j ∷ js) refl in
    elim (nat_lt i (least_of (j ∷ js))) as (λ t. nat_lt i (least_of (j ∷ js)) ≡ t → has (i ∷ j ∷ js) (min i (least_of (j ∷ js))) ≡ true) [
      | true ↦ λ f.
          let l : i < least_of (j ∷ js) = ltb-true i (least_of (j ∷ js)) f in
          let m : min i (least_of (j ∷ js)) ≡ i = omega arith in
          subst (λ k. has (i ∷ j ∷ js) k ≡ true) (sym m) (ap (λ t. t || has (j ∷ js) i) (eq-eqb i i refl))
      | false ↦ λ f.
          let l : least_of (j ∷ js) ≤ i = ltb-false i (least_of (j ∷ js)) f in
          let m : min i (least_of (j ∷ js)) ≡ least_of (j ∷ js) = omega arith in
          subst (λ k. has (i ∷ j ∷ js) k ≡ true) (sym m) (or_right (least_of (j ∷ js) == i) (has (j ∷ js) (least_of (j ∷ js))) h)
    ] refl
  where
    or_right : (a b : Bool) → b ≡ true → (a || b) ≡ true
    or_right true b h = refl
    or_right false b h = h
