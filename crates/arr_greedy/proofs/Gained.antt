-- What keys reach after a merge, one row after another.
use Rattle.std.proofs.Common.{◌≡◌, ◌≢◌, ℕ, ◌≤◌, ◌<◌, List, [], ◌∷◌, ◌++◌, Bool, true, false, cond, not, ◌||◌, ◌&&◌, refl, ap, ap₂, sym, subst, ◌∙◌, inl, inr, arith}
use Rattle.std.specs.Prelude.{◌==◌}
use Rattle.std.specs.List.{All}
use Rattle.std.proofs.lemmas.Bool.{eq-eqb, ne_eqb, cases_eq}
use Rattle.arr_view.specs.Views.{has}
use Rattle.arr_ops.specs.Order.{In}
use Rattle.arr_ops.proofs.Legality.{has_in}
use Rattle.arr_greedy.specs.Tables.{Onward, has_one}
use Rattle.arr_greedy.specs.Ways.{gains, reach_after}
use Rattle.arr_greedy.proofs.Bounds.{in_below}

-- row a has what is gained, and those that are done what they reach then
abbrev pub gained_to : (ℕ → ℕ → Bool) → ℕ → ℕ → List ℕ → ℕ → ℕ → Bool
gained_to o a b done x y = cond (x == a) (gains o a b y) (cond (has done x) (reach_after (λ k. k) o a b x y) (o x y))

or_none : (s : Bool) → (s || false) ≡ s
or_none true = refl
or_none false = refl

has_last : (xs : List ℕ) (k x : ℕ) → has (xs ++ k ∷ []) x ≡ (has xs x || x == k)
has_last [] k x = or_none (x == k)
has_last (y ∷ ys) k x = ap (λ t. (x == y) || t) (has_last ys k x) ∙ regroup (x == y) (has ys x) (x == k)
  where
    regroup : (s t u : Bool) → (s || (t || u)) ≡ ((s || t) || u)
    regroup true t u = refl
    regroup false t u = refl

-- what a row has once it gained g, where it had p of a and q of b: once, and once more
gained_once : (p q r g : Bool) → (p ≡ true → q ≡ true → g ≡ true → r ≡ true) → cond (has_one p q) (r || g) r ≡ (r || ((p || q) && g))
gained_once true true true g h = refl
gained_once true true false true h = h refl refl refl
gained_once true true false false h = refl
gained_once true false r g h = refl
gained_once false true r g h = refl
gained_once false false true g h = refl
gained_once false false false g h = refl

first_once : (p q r g : Bool) → r ≡ p → cond (has_one p q) (r || (true || g)) r ≡ (p || q)
first_once true true r g e = e
first_once true false true g e = refl
first_once true false false g e = refl
first_once false true true g e = refl
first_once false true false g e = refl
first_once false false r g e = e

gained_twice : (p q r g t : Bool) → cond (has_one (p || q) (q || ((p || q) && t))) ((r || ((p || q) && g)) || g) (r || ((p || q) && g)) ≡ (r || ((p || q) && g))
gained_twice true true r g t = refl
gained_twice true false r g true = refl
gained_twice true false true g false = refl
gained_twice true false false true false = refl
gained_twice true false false false false = refl
gained_twice false true r g t = refl
gained_twice false false r g t = refl

first_twice : (p q g t : Bool) → cond (has_one (p || q) (q || ((p || q) && t))) ((p || q) || (true || g)) (p || q) ≡ (p || q)
first_twice true true g t = refl
first_twice true false g true = refl
first_twice true false g false = refl
first_twice false true g t = refl
first_twice false false g t = refl

-- o: the rows at first; l, n: before and after one row more
pub gained_step : (o l n : ℕ → ℕ → Bool) (keys done : List ℕ) (w v a b row : ℕ) → All (λ k. k < w) keys → w ≤ v → In a keys → In b keys → In row keys → a ≢ b → Onward keys o
    → ((x y : ℕ) → In x keys → In y keys → x ≢ b → l x y ≡ gained_to o a b done x y)
    → ((x y : ℕ) → x < w → y < v → n x y ≡ cond ((x == row && not (row == a || row == b)) && has_one (l row a) (l row b)) (l row y || l a y) (l x y))
    → (x y : ℕ) → In x keys → In y keys → x ≢ b → n x y ≡ gained_to o a b (done ++ row ∷ []) x y
gained_step o l n keys done w v a b row inside wide ia ib ir ne onward inv put x y ix iy nb =
    let xm : x < w = in_below keys w inside x ix in
    let ym : y < w = in_below keys w inside y iy in
    put x y xm (omega arith)
    ∙ elim (cases_eq x row) as (λ _. Now x) [
      | inl f ↦ subst Now (sym f) (elim (cases_eq row a) as (λ _. Now row) [
        | inl g ↦
            ap₂ (λ s t. cond ((s && not (t || row == b)) && has_one (l row a) (l row b)) (l row y || l a y) (l row y)) (eq-eqb row row refl) (eq-eqb row a g)
            ∙ inv row y ir iy (subst (λ k. k ≢ b) f nb)
            ∙ ap (λ t. cond t (gains o a b y) (cond (has done row) (R row y) (o row y))) (eq-eqb row a g)
            ∙ sym (ap (λ t. cond t (gains o a b y) (cond (has (done ++ row ∷ []) row) (R row y) (o row y))) (eq-eqb row a g))
        | inr g ↦
            ap₂ (λ s t. cond ((row == row && not (s || t)) && has_one (l row a) (l row b)) (l row y || l a y) (l row y)) (ne_eqb row a g) (ne_eqb row b (subst (λ k. k ≢ b) f nb))
            ∙ ap₂ (λ s t. cond ((s && true) && has_one (l row a) (l row b)) (l row y || t) (l row y)) (eq-eqb row row refl)
            (inv a y ia iy ne ∙ ap (λ t. cond t (gains o a b y) (cond (has done a) (R a y) (o a y))) (eq-eqb a a refl))
            ∙ turn g (subst (λ k. k ≢ b) f nb) (has done row) refl
            ∙ sym (ap₂ (λ s t. cond s (gains o a b y) (cond t (R row y) (o row y))) (ne_eqb row a g) (has_last done row row ∙ ap (λ t. has done row || t) (eq-eqb row row refl) ∙ or_all (has done row)))
      ])
      | inr f ↦
          ap (λ s. cond ((s && not (row == a || row == b)) && has_one (l row a) (l row b)) (l row y || l a y) (l x y)) (ne_eqb x row f)
          ∙ inv x y ix iy nb
          ∙ ap (λ t. cond (x == a) (gains o a b y) (cond t (R x y) (o x y))) (sym (has_last done row x ∙ ap (λ t. has done x || t) (ne_eqb x row f) ∙ or_none (has done x)))
    ]
  where
    R : ℕ → ℕ → Bool
    R = reach_after (λ k. k) o a b

    Now : ℕ → Type 0
    Now k = cond ((k == row && not (row == a || row == b)) && has_one (l row a) (l row b)) (l row y || l a y) (l k y) ≡ gained_to o a b (done ++ row ∷ []) k y

    or_all : (s : Bool) → (s || true) ≡ true
    or_all true = refl
    or_all false = refl

    -- a row that is not a's: what it reaches then
    at_first : (k : ℕ) → row ≢ a → k ≡ a → R row k ≡ (o row a || o row b)
    at_first k g e = ap₂ (λ s t. cond s (cond t false (o a k || o b k)) (cond t (o row a || o row b) (o row k || ((o row a || o row b) && (o a k || o b k))))) (ne_eqb row a g) (eq-eqb k a e)

    at_other : (k : ℕ) → row ≢ a → k ≢ a → R row k ≡ (o row k || ((o row a || o row b) && (o a k || o b k)))
    at_other k g e = ap₂ (λ s t. cond s (cond t false (o a k || o b k)) (cond t (o row a || o row b) (o row k || ((o row a || o row b) && (o a k || o b k))))) (ne_eqb row a g) (ne_eqb k a e)

    or_either : (s t : Bool) → (s || t) ≡ true → (s ≡ true → o row y ≡ true) → (t ≡ true → o row y ≡ true) → o row y ≡ true
    or_either true t e f g = f refl
    or_either false t e f g = g e

    -- the row before this turn
    here : row ≢ a → row ≢ b → (d : Bool) → has done row ≡ d → (k : ℕ) → In k keys → l row k ≡ cond d (R row k) (o row k)
    here g h d e k ik = inv row k ir ik h ∙ ap₂ (λ s t. cond s (gains o a b k) (cond t (R row k) (o row k))) (ne_eqb row a g) e

    After : Bool → Bool → Bool → Bool → Bool
    After p q r s = cond (has_one p q) (r || (s || (o a y || o b y))) r

    meet : row ≢ a → row ≢ b → (d : Bool) → has done row ≡ d → (p q r s : Bool) → cond d (R row a) (o row a) ≡ p → cond d (R row b) (o row b) ≡ q → cond d (R row y) (o row y) ≡ r → (y == a) ≡ s
        → cond (has_one (l row a) (l row b)) (l row y || gains o a b y) (l row y) ≡ After p q r s
    meet g h d e p q r s ep eq er es =
        ap₂ (λ t u. After t u (l row y) (y == a)) (here g h d e a ia ∙ ep) (here g h d e b ib ∙ eq)
        ∙ ap₂ (λ t u. After p q t u) (here g h d e y iy ∙ er) es

    turn : row ≢ a → row ≢ b → (d : Bool) → has done row ≡ d → cond (has_one (l row a) (l row b)) (l row y || gains o a b y) (l row y) ≡ R row y
    turn g h true e =
        elim (cases_eq y a) as (λ _. cond (has_one (l row a) (l row b)) (l row y || gains o a b y) (l row y) ≡ R row y) [
          | inl f ↦
              meet g h true e (o row a || o row b) (o row b || ((o row a || o row b) && (o a b || o b b))) (o row a || o row b) true (at_first a g refl) (at_other b g (λ z. ne (sym z))) (at_first y g f) (eq-eqb y a f)
              ∙ first_twice (o row a) (o row b) (o a y || o b y) (o a b || o b b) ∙ sym (at_first y g f)
          | inr f ↦
              meet g h true e (o row a || o row b) (o row b || ((o row a || o row b) && (o a b || o b b))) (o row y || ((o row a || o row b) && (o a y || o b y))) false
              (at_first a g refl) (at_other b g (λ z. ne (sym z))) (at_other y g f) (ne_eqb y a f)
              ∙ gained_twice (o row a) (o row b) (o row y) (o a y || o b y) (o a b || o b b) ∙ sym (at_other y g f)
        ]
    turn g h false e =
        elim (cases_eq y a) as (λ _. cond (has_one (l row a) (l row b)) (l row y || gains o a b y) (l row y) ≡ R row y) [
          | inl f ↦
              meet g h false e (o row a) (o row b) (o row y) true refl refl refl (eq-eqb y a f)
              ∙ first_once (o row a) (o row b) (o row y) (o a y || o b y) (ap (o row) f) ∙ sym (at_first y g f)
          | inr f ↦
              meet g h false e (o row a) (o row b) (o row y) false refl refl refl (ne_eqb y a f)
              ∙ gained_once (o row a) (o row b) (o row y) (o a y || o b y) (λ p q t. or_either (o a y) (o b y) t (onward row a y ir ia iy p) (onward row b y ir ib iy q))
              ∙ sym (at_other y g f)
        ]

-- all keys, but the first one's own flag, which is cleared
pub gained_end : (o l n : ℕ → ℕ → Bool) (keys done : List ℕ) (w v a b : ℕ) → All (λ k. k < w) keys → w ≤ v → done ≡ keys
    → ((x y : ℕ) → In x keys → In y keys → x ≢ b → l x y ≡ gained_to o a b done x y)
    → ((x y : ℕ) → x < w → y < v → n x y ≡ cond (x == a && y == a) false (l x y))
    → (x y : ℕ) → In x keys → In y keys → x ≢ b → n x y ≡ reach_after (λ k. k) o a b x y
gained_end o l n keys done w v a b inside wide all inv put x y ix iy ne =
    let xm : x < w = in_below keys w inside x ix in
    let ym : y < w = in_below keys w inside y iy in
    put x y xm (omega arith)
    ∙ elim (cases_eq x a) as (λ _. cond (x == a && y == a) false (l x y) ≡ reach_after (λ k. k) o a b x y) [
      | inl e ↦
          ap (cond (x == a && y == a) false) (inv x y ix iy ne)
          ∙ ap (λ s. cond (s && y == a) false (cond s (gains o a b y) (cond (has done x) (reach_after (λ k. k) o a b x y) (o x y)))) (eq-eqb x a e)
          ∙ own (y == a) (o a y || o b y)
          ∙ sym (ap (λ s. cond s (cond (y == a) false (o a y || o b y)) (cond (y == a) (o x a || o x b) (o x y || ((o x a || o x b) && (o a y || o b y))))) (eq-eqb x a e))
      | inr e ↦
          ap (λ s. cond (s && y == a) false (l x y)) (ne_eqb x a e)
          ∙ inv x y ix iy ne
          ∙ ap₂ (λ s t. cond s (gains o a b y) (cond t (reach_after (λ k. k) o a b x y) (o x y))) (ne_eqb x a e) (ap (λ ks. has ks x) all ∙ has_in keys x ix)
    ]
  where
    own : (s c : Bool) → cond s false (s || c) ≡ cond s false c
    own true c = refl
    own false c = refl
