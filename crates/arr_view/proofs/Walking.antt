-- One step of a walk.
use Rattle.std.proofs.Common.{◌≡◌, ℕ, zero, suc, ◌+◌, ◌-◌, ◌<◌, ◌≤◌, ℤ, pos, ◌+ℤ◌, List, [], ◌∷◌, ◌++◌, Bool, true, false, length, get_or, set, take, drop, map, replicate, refl, ap, ap₂, sym, ◌∙◌, subst, arith, append_assoc}
use Rattle.std.specs.Prelude.{nat_le, ◌==◌}
use Rattle.std.specs.List.{list_all}
use Rattle.std.proofs.lemmas.Bool.{and_parts, and_from, false≢true, eqb-true}
use Rattle.std.proofs.lemmas.List.{take_more_set, take_more, set_at, length-take-le}
use Rattle.std.proofs.Common.{length-drop}
use Rattle.std.proofs.lemmas.List.Folds.{list_all-append}
use Rattle.arr_view.specs.Views.{at_steps, places, is_place, to_place}
use Rattle.arr_view.specs.Walks.{after, still_left, Walking}
use Rattle.std.proofs.Common.{length-append}
use Rattle.std.proofs.lemmas.List.{length-replicate}
use Rattle.arr_view.specs.Strided.{Strided}
use Rattle.arr_view.specs.Views.{is_view, elements}
use Rattle.arr_view.proofs.Checks.{same_rank, lawful}

-- as many steps are left in each dimension as it has after its first index
abbrev pub full : List ℕ → List ℕ
full ns = map (λ n. n - 1) ns

abbrev pub spent : List ℕ → Bool
spent rs = list_all (λ r. r == 0) rs

-- the walk's first place, and what comes after it
pub begins : (ns : List ℕ) (ss : List ℤ) (z : ℤ) → list_all (nat_le 1) ns ≡ true → length ss ≡ length ns → places ns ss z ≡ z ∷ after ns ss (full ns) (replicate (length ns) z)
begins [] ss z h k = refl
begins (zero ∷ ns) ss z h k = absurd (false≢true h)
begins (suc n ∷ ns) [] z h k = absurd (omega arith)
begins (suc n ∷ ns) (s ∷ ss) z h k =
    ap (λ xs. xs ++ at_steps (places ns ss) n s (z +ℤ s)) (begins ns ss z (and_parts (nat_le 1 (suc n)) (list_all (nat_le 1) ns) h).1 (omega arith))
    ∙ ap (λ m. z ∷ (after ns ss (full ns) (replicate (length ns) z) ++ at_steps (places ns ss) m s (z +ℤ s))) (let e : n ≡ suc n - 1 = omega arith in e)

pub nothing_after : (ns : List ℕ) (ss : List ℤ) (rs : List ℕ) (zs : List ℤ) → spent rs ≡ true → after ns ss rs zs ≡ []
nothing_after [] ss rs zs h = refl
nothing_after (n ∷ ns) [] rs zs h = refl
nothing_after (n ∷ ns) (s ∷ ss) [] zs h = refl
nothing_after (n ∷ ns) (s ∷ ss) (r ∷ rs) [] h = refl
nothing_after (n ∷ ns) (s ∷ ss) (r ∷ rs) (z ∷ zs) h =
    let parts = and_parts (r == 0) (spent rs) h in
    ap₂ (λ xs k. xs ++ at_steps (places ns ss) k s (z +ℤ s)) (nothing_after ns ss rs zs parts.1) (eqb-true r 0 parts.0)

-- one more step in dimension k, and the dimensions after it from their first index
abbrev pub steps_on : ℕ → List ℕ → List ℕ → List ℕ
steps_on k ns rs = take k rs ++ ((get_or rs k 0 - 1) ∷ full (drop (suc k) ns))

abbrev pub places_on : ℕ → List ℕ → List ℤ → ℤ → List ℤ
places_on k ns zs z = take k zs ++ (z ∷ replicate (length (drop (suc k) ns)) z)

pub goes_on : (k : ℕ) (ns : List ℕ) (ss : List ℤ) (rs : List ℕ) (zs : List ℤ) (z : ℤ) → list_all (nat_le 1) ns ≡ true → length ss ≡ length ns → length rs ≡ length ns → length zs ≡ length ns
    → k < length ns → 0 < get_or rs k 0 → spent (drop (suc k) rs) ≡ true → z ≡ get_or zs k (pos 0) +ℤ get_or ss k (pos 0)
    → after ns ss rs zs ≡ z ∷ after ns ss (steps_on k ns rs) (places_on k ns zs z)
goes_on k [] ss rs zs z all a b c l h e f = absurd (omega arith)
goes_on k (n ∷ ns) [] rs zs z all a b c l h e f = absurd (omega arith)
goes_on k (n ∷ ns) (s ∷ ss) [] zs z all a b c l h e f = absurd (omega arith)
goes_on k (n ∷ ns) (s ∷ ss) (r ∷ rs) [] z all a b c l h e f = absurd (omega arith)
goes_on zero (n ∷ ns) (s ∷ ss) (zero ∷ rs) (y ∷ zs) z all a b c l h e f = absurd (omega arith)
goes_on zero (n ∷ ns) (s ∷ ss) (suc r ∷ rs) (y ∷ zs) z all a b c l h e f =
    let rest : list_all (nat_le 1) ns ≡ true = (and_parts (nat_le 1 n) (list_all (nat_le 1) ns) all).1 in
    ap (λ xs. xs ++ at_steps (places ns ss) (suc r) s (y +ℤ s)) (nothing_after ns ss rs zs e)
    ∙ ap (λ x. at_steps (places ns ss) (suc r) s x) (sym f)
    ∙ ap (λ xs. xs ++ at_steps (places ns ss) r s (z +ℤ s)) (begins ns ss z rest (omega arith))
    ∙ ap (λ m. z ∷ (after ns ss (full ns) (replicate (length ns) z) ++ at_steps (places ns ss) m s (z +ℤ s))) (let d : r ≡ suc r - 1 = omega arith in d)
goes_on (suc k) (n ∷ ns) (s ∷ ss) (r ∷ rs) (y ∷ zs) z all a b c l h e f =
    let rest : list_all (nat_le 1) ns ≡ true = (and_parts (nat_le 1 n) (list_all (nat_le 1) ns) all).1 in
    ap (λ xs. xs ++ at_steps (places ns ss) r s (y +ℤ s)) (goes_on k ns ss rs zs z rest (omega arith) (omega arith) (omega arith) (omega arith) h e f)

-- ---- dimensions of length 1 at the end change nothing

abbrev pub ones : ℕ → List ℕ
ones m = replicate m 1

abbrev pub zeros : ℕ → List ℤ
zeros m = replicate m (pos 0)

one_place : (m : ℕ) (z : ℤ) → places (ones m) (zeros m) z ≡ z ∷ []
one_place zero z = refl
one_place (suc m) z = ap (λ xs. xs ++ []) (one_place m z)

at_steps_alike : (f g : ℤ → List ℤ) → ((z : ℤ) → f z ≡ g z) → (n : ℕ) (s z : ℤ) → at_steps f n s z ≡ at_steps g n s z
at_steps_alike f g h zero s z = refl
at_steps_alike f g h (suc n) s z = ap₂ (λ xs ys. xs ++ ys) (h z) (at_steps_alike f g h n s (z +ℤ s))

pub padded : (ns : List ℕ) (ss : List ℤ) (m : ℕ) (z : ℤ) → length ss ≡ length ns → places (ns ++ ones m) (ss ++ zeros m) z ≡ places ns ss z
padded [] [] m z h = one_place m z
padded [] (s ∷ ss) m z h = absurd (omega arith)
padded (n ∷ ns) [] m z h = absurd (omega arith)
padded (n ∷ ns) (s ∷ ss) m z h = at_steps_alike (places (ns ++ ones m) (ss ++ zeros m)) (places ns ss) (λ y. padded ns ss m y (omega arith)) n s z

-- ---- what one step writes

all_take : {X : Type 0} (p : X → Bool) (k : ℕ) (xs : List X) → list_all p xs ≡ true → list_all p (take k xs) ≡ true
all_take p zero xs h = refl
all_take p (suc k) [] h = refl
all_take p (suc k) (x ∷ xs) h = let parts = and_parts (p x) (list_all p xs) h in and_from (p x) (list_all p (take k xs)) parts.0 (all_take p k xs parts.1)

all_copies : {X : Type 0} (p : X → Bool) (n : ℕ) (x : X) → p x ≡ true → list_all p (replicate n x) ≡ true
all_copies p zero x h = refl
all_copies p (suc n) x h = and_from (p x) (list_all p (replicate n x)) h (all_copies p n x h)

pub steps_written : (k : ℕ) (ns rs : List ℕ) → k < length rs → take (k + 1) (set rs k (get_or rs k 0 - 1)) ++ full (drop (k + 1) ns) ≡ steps_on k ns rs
steps_written k ns rs l =
    let e : k + 1 ≡ suc k = omega arith in
    ap₂ (λ xs m. xs ++ full (drop m ns)) (take_more_set rs k (get_or rs k 0 - 1) l) e ∙ append_assoc (take k rs) ((get_or rs k 0 - 1) ∷ []) (full (drop (suc k) ns))

pub places_written : (k : ℕ) (ns : List ℕ) (zs : List ℤ) (z : ℤ) → k < length zs → take (k + 1) (set zs k z) ++ replicate (length ns - (k + 1)) z ≡ places_on k ns zs z
places_written k ns zs z l =
    let e : length ns - (k + 1) ≡ length (drop (suc k) ns) = (let d : length ns - (k + 1) ≡ length ns - suc k = omega arith in d) ∙ sym (length-drop (suc k) ns) in
    ap₂ (λ xs m. xs ++ replicate m z) (take_more_set zs k z l) e ∙ append_assoc (take k zs) (z ∷ []) (replicate (length (drop (suc k) ns)) z)

-- where dimension k steps to
abbrev pub turned_at : List ℤ → List ℤ → ℕ → ℤ
turned_at ss zs k = get_or zs k (pos 0) +ℤ get_or ss k (pos 0)

module _ (ns : List ℕ) (ss : List ℤ) (rs : List ℕ) (zs : List ℤ) (place : ℤ) (w : Walking ns ss rs zs place) (a : length ss ≡ length ns) (b : length rs ≡ length ns) (c : length zs ≡ length ns)
    (k : ℕ) (l : k < length ns) (some : 0 < get_or rs k 0) (rest : spent (drop (k + 1) rs) ≡ true) where
  pub after_turn : after ns ss rs zs ≡ (turned_at ss zs k) ∷ after ns ss (take (k + 1) (set rs k (get_or rs k 0 - 1)) ++ full (drop (k + 1) ns)) (take (k + 1) (set zs k (turned_at ss zs k)) ++ replicate (length ns - (k + 1)) (turned_at ss zs k))
  after_turn =
      goes_on k ns ss rs zs (turned_at ss zs k) w.whole a b c l some (subst (λ m. spent (drop m rs) ≡ true) (let e : k + 1 ≡ suc k = omega arith in e) rest) refl
      ∙ ap₂ (λ xs ys. (turned_at ss zs k) ∷ after ns ss xs ys) (sym (steps_written k ns rs (omega arith))) (sym (places_written k ns zs (turned_at ss zs k) (omega arith)))

  pub walking_on : Walking ns ss (take (k + 1) (set rs k (get_or rs k 0 - 1)) ++ full (drop (k + 1) ns)) (take (k + 1) (set zs k (turned_at ss zs k)) ++ replicate (length ns - (k + 1)) (turned_at ss zs k)) (turned_at ss zs k)
  walking_on =
      let both = and_parts (is_place (turned_at ss zs k)) _ (sym (ap (list_all is_place) after_turn) ∙ w.later) in
      let fresh : list_all is_place (places_on k ns zs (turned_at ss zs k)) ≡ true =
      list_all-append is_place (take k zs) ((turned_at ss zs k) ∷ replicate (length (drop (suc k) ns)) (turned_at ss zs k))
      ∙ and_from (list_all is_place (take k zs)) _ (all_take is_place k zs w.starts) (all_copies is_place (suc (length (drop (suc k) ns))) (turned_at ss zs k) both.0) in
      record { whole = w.whole; starts = ap (list_all is_place) (places_written k ns zs (turned_at ss zs k) (omega arith)) ∙ fresh; here = both.0; later = both.1 }

-- the same, of what the code has written
module _ (ns : List ℕ) (ss : List ℤ) (rs : List ℕ) (zs : List ℤ) (place : ℤ) (w : Walking ns ss rs zs place) (a : length ss ≡ length ns) (b : length rs ≡ length ns) (c : length zs ≡ length ns)
    (k : ℕ) (l : k < length ns) (some : 0 < get_or rs k 0) (rest : spent (drop (k + 1) rs) ≡ true) (left : List ℕ) (starts : List ℤ) (here there : ℤ)
    (e : here ≡ turned_at ss zs k) (f : there ≡ turned_at ss zs k) (g : left ≡ take (k + 1) (set rs k (get_or rs k 0 - 1)) ++ full (drop (k + 1) ns))
    (h : starts ≡ take (k + 1) (set zs k there) ++ replicate (length ns - (k + 1)) there) where
  starts_turned : starts ≡ take (k + 1) (set zs k (turned_at ss zs k)) ++ replicate (length ns - (k + 1)) (turned_at ss zs k)
  starts_turned = h ∙ ap (λ y. take (k + 1) (set zs k y) ++ replicate (length ns - (k + 1)) y) f

  pub code_walking : Walking ns ss left starts here
  code_walking =
      let P : List ℕ → List ℤ → ℤ → Type 0 = Walking ns ss in
      subst (λ z. P left starts z) (sym e) (subst (λ ys. P left ys (turned_at ss zs k)) (sym starts_turned)
      (subst (λ xs. P xs (take (k + 1) (set zs k (turned_at ss zs k)) ++ replicate (length ns - (k + 1)) (turned_at ss zs k)) (turned_at ss zs k)) (sym g)
      (walking_on ns ss rs zs place w a b c k l some rest)))

  pub code_after : after ns ss rs zs ≡ here ∷ after ns ss left starts
  code_after = after_turn ns ss rs zs place w a b c k l some rest ∙ ap₂ (λ xs ys. turned_at ss zs k ∷ after ns ss xs ys) (sym g) (sym starts_turned) ∙ ap (λ y. y ∷ after ns ss left starts) (sym e)

-- ---- the start

pub walking_from : (ns : List ℕ) (ss : List ℤ) (z : ℤ) → list_all (nat_le 1) ns ≡ true → length ss ≡ length ns → list_all is_place (places ns ss z) ≡ true
    → Walking ns ss (full ns) (replicate (length ns) z) z
walking_from ns ss z h k e =
    let both = and_parts (is_place z) _ (sym (ap (list_all is_place) (begins ns ss z h k)) ∙ e) in
    record { whole = h; starts = all_copies is_place (length ns) z both.0; here = both.0; later = both.1 }

pub left_from : (ns : List ℕ) (ss : List ℤ) (z : ℤ) → list_all (nat_le 1) ns ≡ true → length ss ≡ length ns → still_left false z (after ns ss (full ns) (replicate (length ns) z)) ≡ map to_place (places ns ss z)
left_from ns ss z h k = sym (ap (map to_place) (begins ns ss z h k))

pub ones_whole : (m : ℕ) → list_all (nat_le 1) (ones m) ≡ true
ones_whole m = all_copies (nat_le 1) m 1 refl

pub more_whole : (ns : List ℕ) (m : ℕ) → list_all (nat_le 1) ns ≡ true → list_all (nat_le 1) (ns ++ ones m) ≡ true
more_whole ns m h = list_all-append (nat_le 1) ns (ones m) ∙ and_from (list_all (nat_le 1) ns) _ h (ones_whole m)

-- filling a prefix
pub filled : {X : Type 0} (xs : List X) (n i : ℕ) (x d : X) (ys : List X) → i < length xs → length xs ≤ n → ys ≡ take i xs ++ replicate (n - i) d → x ≡ get_or xs i d → set ys i x ≡ take (i + 1) xs ++ replicate (n - (i + 1)) d
filled xs n i x d ys l h e f =
    let m : n - i ≡ suc (n - (i + 1)) = omega arith in
    ap₂ (λ zs z. set zs i z) (e ∙ ap (λ k. take i xs ++ replicate k d) m) f
    ∙ set_at (take i xs) d (replicate (n - (i + 1)) d) (get_or xs i d) i (length-take-le i xs (omega arith))
    ∙ sym (append_assoc (take i xs) (get_or xs i d ∷ []) (replicate (n - (i + 1)) d)) ∙ ap (λ zs. zs ++ replicate (n - (i + 1)) d) (sym (take_more xs i d l))

-- ---- the walk of a view, whose missing dimensions have length 1

module _ (v : Strided) (h : is_view v ≡ true) (m : ℕ) where
  abbrev ls : List ℕ
  ls = v.lengths ++ ones m

  abbrev ts : List ℤ
  ts = v.strides ++ zeros m

  level : length ts ≡ length ls
  level =
      length-append v.strides (zeros m) ∙ ap₂ (λ a b. a + b) (same_rank v h) (length-replicate m (pos 0) ∙ sym (length-replicate m 1)) ∙ sym (length-append v.lengths (ones m))

  inside_all : list_all is_place (places ls ts (pos v.start)) ≡ true
  inside_all = ap (list_all is_place) (padded v.lengths v.strides m (pos v.start) (same_rank v h)) ∙ (lawful v h).inside

  pub view_walking : Walking ls ts (full ls) (replicate (length ls) (pos v.start)) (pos v.start)
  view_walking = walking_from ls ts (pos v.start) (more_whole v.lengths m (lawful v h).lengths) level inside_all

  pub view_left : still_left false (pos v.start) (after ls ts (full ls) (replicate (length ls) (pos v.start))) ≡ elements v
  unfolding elements
  view_left = left_from ls ts (pos v.start) (more_whole v.lengths m (lawful v h).lengths) level ∙ ap (map to_place) (padded v.lengths v.strides m (pos v.start) (same_rank v h))

  -- the same, of what the code has written
  module _ (lengths : List ℕ) (strides : List ℤ) (left : List ℕ) (starts : List ℤ) (place : ℤ) (a : lengths ≡ ls) (b : strides ≡ ts) (c : left ≡ full lengths)
      (d : starts ≡ replicate (length lengths - 0) place) (e : place ≡ pos v.start) where
    left_is : left ≡ full ls
    left_is = c ∙ ap full a

    starts_is : starts ≡ replicate (length ls) (pos v.start)
    starts_is = d ∙ ap₂ (λ n z. replicate n z) ((let f : length lengths - 0 ≡ length lengths = omega arith in f) ∙ ap length a) e

    pub new_walking : Walking lengths strides left starts place
    new_walking =
        let P : List ℕ → List ℤ → List ℕ → List ℤ → ℤ → Type 0 = Walking in
        subst (λ x. P x strides left starts place) (sym a) (subst (λ x. P ls x left starts place) (sym b) (subst (λ x. P ls ts x starts place) (sym left_is)
        (subst (λ x. P ls ts (full ls) x place) (sym starts_is) (subst (λ x. P ls ts (full ls) (replicate (length ls) (pos v.start)) x) (sym e) view_walking))))

    pub new_left : to_place place ∷ map to_place (after lengths strides left starts) ≡ elements v
    new_left =
        ap₂ (λ x y. to_place place ∷ map to_place (after x y left starts)) a b ∙ ap₂ (λ x y. to_place place ∷ map to_place (after ls ts x y)) left_is starts_is
        ∙ ap (λ z. to_place z ∷ map to_place (after ls ts (full ls) (replicate (length ls) (pos v.start)))) e ∙ view_left
