-- The buffers that the blocks of a plan make, counted by their creators.
use Rattle.std.proofs.Common.{◌≡◌, ℕ, suc, ◌+◌, ◌⊎◌, inl, inr, List, [], ◌∷◌, Bool, true, false, cond, not, ◌||◌, ◌&&◌, Option, Some, None, length, length-append, map, refl, ap, ap₂, sym, subst, ◌∙◌, arith}
use Rattle.std.specs.Prelude.{◌==◌, nat_lt, nat_le}
use Rattle.std.specs.List.{AllByRecursion, enumerate_from, filter, list_all, list_any}
use Rattle.std.specs.Option.{option_to_list}
use Rattle.std.proofs.lemmas.Bool.{eq-eqb, eqb-true, false≢true}
use Rattle.arr_view.specs.Strided.{Strided}
use Rattle.arr_view.specs.Views.{has}
use Rattle.arr_ops.specs.declared.op.Op.{Op}
use Rattle.arr_ops.specs.Costs.{total}
use Rattle.arr_ops.specs.Formed.{all_pairs, is_formed, may_precede}
use Rattle.arr_ops.specs.Ops.{creates, freed_by, makes_base}
use Rattle.arr_ops.specs.Order.{In}
use Rattle.arr_ops.specs.Plans.{holders, not_empty, numbered, ops_of, pair_legal}
use Rattle.arr_ops.specs.Traffic.{contracted, created}
use Rattle.arr_ops.proofs.Members.{all_in, any_false, false_any, in_all}
use Rattle.arr_ops.proofs.Pairs.{Pairs, Pairs_weaker}
use Rattle.arr_ops.proofs.Spots.{formed_of}
use Rattle.arr_ops.proofs.Tests.{all_of, both_left, both_right, pairs_numbered}
use Rattle.arr_strips.proofs.Stages.{unmade}
use Rattle.arr_loop.specs.Laws.{BuffersMade}
use Rattle.arr_loop.specs.Opened.{kept_bases, made_by}
use Rattle.arr_loop.proofs.Buffers.{contracted_when, filter_append, makes_named}

-- ---- sums

zeros : {X : Type 0} (f : X → ℕ) (xs : List X) → ((x : X) → f x ≡ 0) → total f xs ≡ 0
zeros f [] h = refl
zeros f (x ∷ xs) h = let a : f x ≡ 0 = h x in let b : total f xs ≡ 0 = zeros f xs h in omega arith

sums : {X : Type 0} (f g : X → ℕ) (xs : List X) → total (λ x. f x + g x) xs ≡ total f xs + total g xs
sums f g [] = refl
sums f g (x ∷ xs) = let r : total (λ x. f x + g x) xs ≡ total f xs + total g xs = sums f g xs in omega arith

swapped : {X Y : Type 0} (f : X → Y → ℕ) (xs : List X) (ys : List Y) → total (λ x. total (f x) ys) xs ≡ total (λ y. total (λ x. f x y) xs) ys
swapped f [] ys = sym (zeros (λ y. 0) ys (λ y. refl))
swapped f (x ∷ xs) ys = ap (λ n. total (f x) ys + n) (swapped f xs ys) ∙ sym (sums (f x) (λ y. total (λ x. f x y) xs) ys)

total_alike : {X : Type 0} (f g : X → ℕ) (xs : List X) → AllByRecursion (λ x. f x ≡ g x) xs → total f xs ≡ total g xs
total_alike f g [] h = refl
total_alike f g (x ∷ xs) h = ap₂ (λ a b. a + b) h.0 (total_alike f g xs h.1)

-- ---- by operations

kept_by : (p : ℕ → Bool) (block : List ℕ) (xs : List (ℕ × Op)) → length (filter p (created (ops_of xs block))) ≡ total (λ (x : ℕ × Op). cond (has block x.0) (length (filter p (made_by x.1))) 0) xs
kept_by p block [] = refl
kept_by p block (x ∷ xs) =
    elim (has block x.0) as (λ z. length (filter p (created (cond z (x.1 ∷ ops_of xs block) (ops_of xs block)))) ≡ cond z (length (filter p (made_by x.1))) 0 + total (λ (x : ℕ × Op). cond (has block x.0) (length (filter p (made_by x.1))) 0) xs) [
      | true ↦
          ap length (filter_append p (made_by x.1) (created (ops_of xs block))) ∙ length-append (filter p (made_by x.1)) (filter p (created (ops_of xs block)))
          ∙ ap (λ n. length (filter p (made_by x.1)) + n) (kept_by p block xs)
      | false ↦ kept_by p block xs ∙ (let n : ℕ = total (λ (x : ℕ × Op). cond (has block x.0) (length (filter p (made_by x.1))) 0) xs in let e : n ≡ 0 + n = omega arith in e)
    ]

all_by : (p : ℕ → Bool) (k : ℕ) (list : List Op) → length (filter p (created list)) ≡ total (λ (x : ℕ × Op). length (filter p (made_by x.1))) (enumerate_from k list)
all_by p k [] = refl
all_by p k (f ∷ list) =
    ap length (filter_append p (made_by f) (created list)) ∙ length-append (filter p (made_by f)) (filter p (created list)) ∙ ap (λ n. length (filter p (made_by f)) + n) (all_by p (k + 1) list)

-- ---- one block has the creator

abbrev one_if : Bool → ℕ
one_if u = cond u 1 0

abbrev so_many : Bool → ℕ → ℕ
so_many u n = cond u n 0

no_holder : (g : List ℕ → Bool) (plan : List (List ℕ)) (i : ℕ) → holders plan i ≡ 0 → (total (λ block. cond (has block i) (cond (not (g block)) 1 0) 0) plan ≡ 0) × (list_any (λ block. g block && has block i) plan ≡ false)
no_holder g [] i h = (refl, refl)
no_holder g (block ∷ plan) i h =
    elim (has block i) as (λ z. cond z (suc (holders plan i)) (holders plan i) ≡ 0
    → (cond z (cond (not (g block)) 1 0) 0 + total (λ block. cond (has block i) (cond (not (g block)) 1 0) 0) plan ≡ 0) × (((g block && z) || list_any (λ block. g block && has block i) plan) ≡ false)) [
      | true ↦ λ k. absurd (omega arith)
      | false ↦ λ k.
          let r : (total (λ block. cond (has block i) (cond (not (g block)) 1 0) 0) plan ≡ 0) × (list_any (λ block. g block && has block i) plan ≡ false) = no_holder g plan i k in
          let a : total (λ block. cond (has block i) (cond (not (g block)) 1 0) 0) plan ≡ 0 = r.0 in
          (omega arith, neither (g block) _ r.1)
    ] h
  where
    neither : (x y : Bool) → y ≡ false → ((x && false) || y) ≡ false
    neither true y e = e
    neither false y e = e

one_holder : (g : List ℕ → Bool) (plan : List (List ℕ)) (i : ℕ) → holders plan i ≡ 1
    → total (λ block. cond (has block i) (cond (not (g block)) 1 0) 0) plan ≡ cond (not (list_any (λ block. g block && has block i) plan)) 1 0
one_holder g [] i h = absurd (omega arith)
one_holder g (block ∷ plan) i h =
    elim (has block i) as (λ z. cond z (suc (holders plan i)) (holders plan i) ≡ 1
    → cond z (cond (not (g block)) 1 0) 0 + total (λ block. cond (has block i) (cond (not (g block)) 1 0) 0) plan ≡ cond (not ((g block && z) || list_any (λ block. g block && has block i) plan)) 1 0) [
      | true ↦ λ k.
          let none : holders plan i ≡ 0 = omega arith in
          let r : (total (λ block. cond (has block i) (cond (not (g block)) 1 0) 0) plan ≡ 0) × (list_any (λ block. g block && has block i) plan ≡ false) = no_holder g plan i none in
          ap (λ n. one_if (not (g block)) + n) r.0 ∙ settled (g block) ∙ sym (ap (λ t. one_if (not ((g block && true) || t))) r.1)
      | false ↦ λ k. (let n : ℕ = total (λ block. cond (has block i) (cond (not (g block)) 1 0) 0) plan in let e : 0 + n ≡ n = omega arith in e) ∙ one_holder g plan i k ∙ sym (dropped_left (g block) (list_any (λ block. g block && has block i) plan))
    ] h
  where
    settled : (x : Bool) → one_if (not x) + 0 ≡ one_if (not ((x && true) || false))
    settled true = refl
    settled false = refl

    dropped_left : (x t : Bool) → one_if (not ((x && false) || t)) ≡ one_if (not t)
    dropped_left true t = refl
    dropped_left false t = refl

-- ---- a base has one creator

pairs_in : {X : Type 0} (R : X → X → Type 0) (xs : List X) → Pairs R xs → (x y : X) → In x xs → In y xs → (x ≡ y) ⊎ (R x y ⊎ R y x)
pairs_in R [] h x y a b = absurd a
pairs_in R (z ∷ xs) h x y a b =
    elim a as (λ _. (x ≡ y) ⊎ (R x y ⊎ R y x)) [
      | inl e ↦ elim b as (λ _. (x ≡ y) ⊎ (R x y ⊎ R y x)) [
        | inl f ↦ inl (e ∙ sym f)
        | inr j ↦ inr (inl (moved (sym e) (all_in (R z) xs h.0 y j)))
      ]
      | inr i ↦ elim b as (λ _. (x ≡ y) ⊎ (R x y ⊎ R y x)) [
        | inl f ↦ inr (inr (moved_left (sym f) (all_in (R z) xs h.0 x i)))
        | inr j ↦ pairs_in R xs h.1 x y i j
      ]
    ]
  where
    moved : z ≡ x → R z y → R x y
    moved e r = subst (λ t. R t y) e r

    moved_left : z ≡ y → R z x → R y x
    moved_left e r = subst (λ t. R t x) e r

creates_by : (block : List ℕ) (b : ℕ) (xs : List (ℕ × Op)) → creates (ops_of xs block) b ≡ list_any (λ (y : ℕ × Op). has block y.0 && makes_base y.1 b) xs
creates_by block b [] = refl
creates_by block b (x ∷ xs) =
    elim (has block x.0) as (λ z. creates (cond z (x.1 ∷ ops_of xs block) (ops_of xs block)) b ≡ ((z && makes_base x.1 b) || list_any (λ (y : ℕ × Op). has block y.0 && makes_base y.1 b) xs)) [
      | true ↦ ap (λ t. makes_base x.1 b || t) (creates_by block b xs)
      | false ↦ creates_by block b xs
    ]

abbrev bases_of : Bool → Option Strided → List ℕ
bases_of makes out = map (λ (o : Strided). o.base) (filter (λ _. makes) (option_to_list out))

-- the bases that an operation creates, counted by the blocks that hold it, and once
abbrev Counted : List Op → List (List ℕ) → ℕ → List ℕ → Type 0
Counted list plan i bs =
    total (λ block. cond (has block i) (length (filter (λ b. not (freed_by (ops_of (numbered list) block) b)) bs)) 0) plan
    ≡ length (filter (λ b. not (list_any (λ block. has (contracted (ops_of (numbered list) block)) b) plan)) bs)

module _ (list : List Op) (formed : is_formed list ≡ true) where
  apart : (b : ℕ) → Pairs (λ (x y : ℕ × Op). makes_base x.1 b ≡ true → makes_base y.1 b ≡ true → ⊥) (numbered list)
  apart b =
      pairs_numbered (λ f g. makes_base f b ≡ true → makes_base g b ≡ true → ⊥) 1 list
      (Pairs_weaker (λ f g. may_precede f g ≡ true) (λ f g. makes_base f b ≡ true → makes_base g b ≡ true → ⊥)
      (λ f g p s t. false≢true (sym (unmade f g p b (makes_named f b s)) ∙ t)) list (formed_of list formed).order)

  same_creator : (b : ℕ) (x y : ℕ × Op) → In x (numbered list) → In y (numbered list) → makes_base x.1 b ≡ true → makes_base y.1 b ≡ true → x ≡ y
  same_creator b x y i j s t =
      elim (pairs_in (λ (x y : ℕ × Op). makes_base x.1 b ≡ true → makes_base y.1 b ≡ true → ⊥) (numbered list) (apart b) x y i j) as (λ _. x ≡ y) [
        | inl e ↦ e
        | inr r ↦ elim r as (λ _. x ≡ y) [ inl k ↦ absurd (k s t) | inr k ↦ absurd (k t s) ]
      ]

  held_creator : (block : List ℕ) (b : ℕ) (x : ℕ × Op) → In x (numbered list) → makes_base x.1 b ≡ true → creates (ops_of (numbered list) block) b ≡ has block x.0
  held_creator block b x i s =
      creates_by block b (numbered list)
      ∙ elim (has block x.0) as (λ z. has block x.0 ≡ z → list_any (λ (y : ℕ × Op). has block y.0 && makes_base y.1 b) (numbered list) ≡ z) [
        | true ↦ λ e. found e
        | false ↦ λ e. any_false (λ (y : ℕ × Op). has block y.0 && makes_base y.1 b) (numbered list) (λ y j. other e y j (makes_base y.1 b) refl)
      ] refl
    where
      found : has block x.0 ≡ true → list_any (λ (y : ℕ × Op). has block y.0 && makes_base y.1 b) (numbered list) ≡ true
      found e =
          elim (list_any (λ (y : ℕ × Op). has block y.0 && makes_base y.1 b) (numbered list)) as (λ z. list_any (λ (y : ℕ × Op). has block y.0 && makes_base y.1 b) (numbered list) ≡ z → z ≡ true) [
            | true ↦ λ k. refl
            | false ↦ λ k. absurd (false≢true (sym (false_any (λ (y : ℕ × Op). has block y.0 && makes_base y.1 b) (numbered list) k x i) ∙ ap₂ (λ u v. u && v) e s))
          ] refl

      none : (u : Bool) → (u && false) ≡ false
      none true = refl
      none false = refl

      other : has block x.0 ≡ false → (y : ℕ × Op) → In y (numbered list) → (z : Bool) → makes_base y.1 b ≡ z → (has block y.0 && makes_base y.1 b) ≡ false
      other e y j true k = ap (λ u. u && makes_base y.1 b) (ap (λ (w : ℕ × Op). has block w.0) (same_creator b y x j i k s) ∙ e)
      other e y j false k = ap (λ v. has block y.0 && v) k ∙ none (has block y.0)

  each : (plan : List (List ℕ)) (x : ℕ × Op) → In x (numbered list) → holders plan x.0 ≡ 1
      → total (λ block. cond (has block x.0) (length (filter (λ b. not (freed_by (ops_of (numbered list) block) b)) (made_by x.1))) 0) plan
      ≡ length (filter (λ b. not (list_any (λ block. has (contracted (ops_of (numbered list) block)) b) plan)) (made_by x.1))
  each plan x i held = at x.1.makes x.1.out refl refl
    where
      none : (u : Bool) → so_many u 0 ≡ 0
      none true = refl
      none false = refl

      empty : Counted list plan x.0 []
      empty = zeros (λ block. so_many (has block x.0) 0) plan (λ block. none (has block x.0))

      one : (u : Bool) (b : ℕ) → length (cond u (b ∷ []) []) ≡ one_if u
      one true b = refl
      one false b = refl

      single : (b : ℕ) → makes_base x.1 b ≡ true → Counted list plan x.0 (b ∷ [])
      single b s =
          total_alike (λ block. cond (has block x.0) (length (filter (λ b. not (freed_by (ops_of (numbered list) block) b)) (b ∷ []))) 0) (λ block. cond (has block x.0) (cond (not (freed_by (ops_of (numbered list) block) b)) 1 0) 0) plan
          (in_all (λ block. cond (has block x.0) (length (filter (λ b. not (freed_by (ops_of (numbered list) block) b)) (b ∷ []))) 0 ≡ cond (has block x.0) (cond (not (freed_by (ops_of (numbered list) block) b)) 1 0) 0) plan (λ block j. ap (λ n. so_many (has block x.0) n) (one (not (freed_by (ops_of (numbered list) block) b)) b)))
          ∙ one_holder (λ block. freed_by (ops_of (numbered list) block) b) plan x.0 held
          ∙ ap (λ t. one_if (not t)) (sym (any_alike (λ block. has (contracted (ops_of (numbered list) block)) b) (λ block. freed_by (ops_of (numbered list) block) b && has block x.0) plan
          (λ block. contracted_when (ops_of (numbered list) block) b ∙ ap (λ t. freed_by (ops_of (numbered list) block) b && t) (held_creator block b x i s))))
          ∙ sym (one (not (list_any (λ block. has (contracted (ops_of (numbered list) block)) b) plan)) b)
        where
          any_alike : (p q : List ℕ → Bool) (bs : List (List ℕ)) → ((block : List ℕ) → p block ≡ q block) → list_any p bs ≡ list_any q bs
          any_alike p q [] h = refl
          any_alike p q (block ∷ bs) h = ap₂ (λ u v. u || v) (h block) (any_alike p q bs h)

      at : (makes : Bool) (out : Option Strided) → x.1.makes ≡ makes → x.1.out ≡ out → Counted list plan x.0 (made_by x.1)
      at true (Some o) e f = subst (Counted list plan x.0) (sym (ap₂ bases_of e f)) (single o.base (ap₂ (λ (m : Bool) (t : Option Strided). m && list_any (λ (w : Strided). w.base == o.base) (option_to_list t)) e f ∙ ap (λ z. z || false) (eq-eqb o.base o.base refl)))
      at true None e f = subst (Counted list plan x.0) (sym (ap₂ bases_of e f)) empty
      at false None e f = subst (Counted list plan x.0) (sym (ap₂ bases_of e f)) empty
      at false (Some o) e f = subst (Counted list plan x.0) (sym (ap₂ bases_of e f)) empty

pub buffers_made : BuffersMade
buffers_made list plan formed legal =
    let held : AllByRecursion (λ (x : ℕ × Op). (holders plan x.0 == 1) ≡ true) (numbered list) =
    all_of (λ (x : ℕ × Op). holders plan x.0 == 1) (numbered list)
    (both_left (list_all (λ (x : ℕ × Op). holders plan x.0 == 1) (numbered list)) (all_pairs (pair_legal plan) (numbered list))
    (both_right (list_all (λ block. not_empty block && list_all (λ i. nat_lt 0 i && nat_le i (length list)) block) plan) _ legal)) in
    let q : ℕ → Bool = λ b. not (list_any (λ block. has (contracted (ops_of (numbered list) block)) b) plan) in
    let L : List ℕ → ℕ × Op → ℕ = λ block (x : ℕ × Op). cond (has block x.0) (length (filter (λ b. not (freed_by (ops_of (numbered list) block) b)) (made_by x.1))) 0 in
    total_alike (λ block. length (kept_bases (ops_of (numbered list) block) (ops_of (numbered list) block))) (λ block. total (L block) (numbered list)) plan
    (in_all (λ block. length (kept_bases (ops_of (numbered list) block) (ops_of (numbered list) block)) ≡ total (L block) (numbered list)) plan (λ block j. kept_by (λ b. not (freed_by (ops_of (numbered list) block) b)) block (numbered list)))
    ∙ swapped L plan (numbered list)
    ∙ total_alike (λ x. total (λ block. L block x) plan) (λ (x : ℕ × Op). length (filter q (made_by x.1))) (numbered list)
    (in_all (λ x. total (λ block. L block x) plan ≡ length (filter q (made_by x.1))) (numbered list)
    (λ x i. each list formed plan x i (eqb-true (holders plan x.0) 1 (all_in (λ (x : ℕ × Op). (holders plan x.0 == 1) ≡ true) (numbered list) held x i))))
    ∙ sym (all_by q 1 list)
