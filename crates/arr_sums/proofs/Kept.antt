-- Numbers that are kept among others, step by step.
use Rattle.std.proofs.Common.{◌≡◌, ◌≢◌, ℕ, ◌+◌, ◌-◌, ◌<◌, ◌≤◌, ℤ, pos, List, true, false, refl, ap, sym, ◌∙◌, arith, length, get_or, set, to_z, of_z}
use Rattle.std.specs.Int.{w128}
use Rattle.std.proofs.lemmas.Int.{to_z-of_z}
use Rattle.std.proofs.lemmas.Bool.{eqb-true, eqb-false, ltb-true, ltb-false}
use Rattle.std.proofs.lemmas.List.{get_or-set_other, get_or-set_same, length-set}
use Rattle.std.specs.Prelude.{◌==◌, nat_lt}
use Rattle.arr_num.specs.declared.elem.Elem.{Elem}
use Rattle.arr_num.specs.Numbers.{in_type}
use Rattle.arr_num.proofs.Wrapping.{fits_of_type}
use Rattle.arr_sums.specs.Kept.{AreOf, ChangesWithin, StepsEach, kept_at}

-- ---- one number more

pub steps_begin : (t : Elem) (step : ℤ → ℤ → ℤ) (old : List ℤ) (source : ℕ → ℤ) (at : ℕ) → StepsEach t step old source at 0 old
steps_begin t step old source at = record { long = refl; each = λ j u. absurd (omega arith); typed = λ j u. absurd (omega arith); before = λ l u. refl; behind = λ l u. refl }

pub steps_more : (t : Elem) (step : ℤ → ℤ → ℤ) (old now : List ℤ) (source : ℕ → ℤ) (at i : ℕ) (r : ℤ) → at + i < length now → r ≡ step (kept_at old at i) (source i) → in_type t r ≡ true
    → StepsEach t step old source at i now → StepsEach t step old source at (i + 1) (set now (at + i) r)
steps_more t step old now source at i r there is ty h =
    record {
      long = length-set now (at + i) r ∙ h.long;
      each = λ j u. elim (j == i) as (λ d. (j == i) ≡ d → kept_at (set now (at + i) r) at j ≡ step (kept_at old at j) (source j)) [
        | true ↦ λ d.
            let e : j ≡ i = eqb-true j i d in
            ap (kept_at (set now (at + i) r) at) e ∙ get_or-set_same now (at + i) r (pos 0) there ∙ is ∙ ap (λ k. step (kept_at old at k) (source k)) (sym e)
        | false ↦ λ d.
            let ne : j ≢ i = eqb-false j i d in
            get_or-set_other now (at + i) (at + j) r (pos 0) (λ e. ne (let k : j ≡ i = omega arith in k)) ∙ h.each j (omega arith)
      ] refl;
      typed = λ j u. elim (j == i) as (λ d. (j == i) ≡ d → in_type t (kept_at (set now (at + i) r) at j) ≡ true) [
        | true ↦ λ d. ap (λ k. in_type t (kept_at (set now (at + i) r) at k)) (eqb-true j i d) ∙ ap (in_type t) (get_or-set_same now (at + i) r (pos 0) there) ∙ ty
        | false ↦ λ d.
            let ne : j ≢ i = eqb-false j i d in
            ap (in_type t) (get_or-set_other now (at + i) (at + j) r (pos 0) (λ e. ne (let k : j ≡ i = omega arith in k))) ∙ h.typed j (omega arith)
      ] refl;
      before = λ l u. get_or-set_other now (at + i) l r (pos 0) (λ e. absurd (omega arith)) ∙ h.before l u;
      behind = λ l u. get_or-set_other now (at + i) l r (pos 0) (λ e. absurd (omega arith)) ∙ h.behind l (omega arith);
    }

-- what stands at a place that was not reached
pub step_from : (t : Elem) (step : ℤ → ℤ → ℤ) (old now : List ℤ) (source : ℕ → ℤ) (at i : ℕ) → StepsEach t step old source at i now → kept_at now at i ≡ kept_at old at i
step_from t step old now source at i h = h.behind (at + i) (omega arith)

-- one number alone
pub step_one : (t : Elem) (step : ℤ → ℤ → ℤ) (old : List ℤ) (source : ℕ → ℤ) (at : ℕ) (r : ℤ) → at < length old → r ≡ step (get_or old at (pos 0)) (source 0) → in_type t r ≡ true → StepsEach t step old source at 1 (set old at r)
step_one t step old source at r there is ty =
    let e : at + 0 ≡ at = omega arith in
    let h : StepsEach t step old source at (0 + 1) (set old (at + 0) r) =
    steps_more t step old old source at 0 r (omega arith) (is ∙ ap (λ k. step (get_or old k (pos 0)) (source 0)) (sym e)) ty (steps_begin t step old source at) in
    Rattle.std.proofs.Common.subst (λ k. StepsEach t step old source at 1 (set old k r)) e h

-- accumulators that begin anew, and then take a step
pub steps_anew : (t : Elem) (step : ℤ → ℤ → ℤ) (z : ℤ) (old now new : List ℤ) (zeros source : ℕ → ℤ) (at c : ℕ) → StepsEach t (λ s x. z) old zeros at c now → StepsEach t step now source at c new
    → StepsEach t (λ s x. step z x) old source at c new
steps_anew t step z old now new zeros source at c a b =
    record {
      long = b.long ∙ a.long;
      each = λ j u. b.each j u ∙ ap (λ s. step s (source j)) (a.each j u);
      typed = b.typed;
      before = λ l u. b.before l u ∙ a.before l u;
      behind = λ l u. b.behind l u ∙ a.behind l u;
    }

-- ---- among the numbers of one fold

pub within_none : (t : Elem) (at size : ℕ) (xs : List ℤ) → ChangesWithin t at size xs xs
within_none t at size xs = record { long = refl; typed = λ h. h; before = λ l u. refl; behind = λ l u. refl }

pub within_more : (t : Elem) (at size : ℕ) (old now new : List ℤ) → ChangesWithin t at size old now → ChangesWithin t at size now new → ChangesWithin t at size old new
within_more t at size old now new a b =
    record {
      long = b.long ∙ a.long;
      typed = λ h. b.typed (a.typed h);
      before = λ l u. b.before l u ∙ a.before l u;
      behind = λ l u. b.behind l u ∙ a.behind l u;
    }

pub steps_within : (t : Elem) (step : ℤ → ℤ → ℤ) (old new : List ℤ) (source : ℕ → ℤ) (at place c size : ℕ) → place + c ≤ size → StepsEach t step old source (at + place) c new → ChangesWithin t at size old new
steps_within t step old new source at place c size fits s =
    record {
      long = s.long;
      typed = λ h q u. elim (nat_lt q place) as (λ z. nat_lt q place ≡ z → in_type t (kept_at new at q) ≡ true) [
        | true ↦ λ e. let low : q < place = ltb-true q place e in ap (in_type t) (s.before (at + q) (omega arith)) ∙ h q u
        | false ↦ λ e.
            let high : place ≤ q = ltb-false q place e in
            elim (nat_lt q (place + c)) as (λ z. nat_lt q (place + c) ≡ z → in_type t (kept_at new at q) ≡ true) [
              | true ↦ λ d.
                  let low : q < place + c = ltb-true q (place + c) d in
                  ap (λ k. in_type t (get_or new k (pos 0))) (let k : at + q ≡ at + place + (q - place) = omega arith in k) ∙ s.typed (q - place) (omega arith)
              | false ↦ λ d. let far : place + c ≤ q = ltb-false q (place + c) d in ap (in_type t) (s.behind (at + q) (omega arith)) ∙ h q u
            ] refl
      ] refl;
      before = λ l u. s.before l (omega arith);
      behind = λ l u. s.behind l (omega arith);
    }

-- numbers that are of the type, fewer of them
pub fewer_of : (t : Elem) (xs : List ℤ) (at place c size : ℕ) → place + c ≤ size → AreOf t xs at size → AreOf t xs (at + place) c
fewer_of t xs at place c size fits h j u = ap (λ k. in_type t (get_or xs k (pos 0))) (let k : at + place + j ≡ at + (place + j) = omega arith in k) ∙ h (place + j) (omega arith)

-- numbers of a part, seen from where all begin
pub part_each : (step : ℤ → ℤ → ℤ) (old new : List ℤ) (source : ℕ → ℤ) (at place c : ℕ) → ((j : ℕ) → j < c → kept_at new (at + place) j ≡ step (kept_at old (at + place) j) (source j))
    → (j : ℕ) → j < c → kept_at new at (place + j) ≡ step (kept_at old at (place + j)) (source j)
part_each step old new source at place c each j u =
    let e : at + (place + j) ≡ at + place + j = omega arith in
    ap (λ k. get_or new k (pos 0)) e ∙ each j u ∙ ap (λ k. step (get_or old k (pos 0)) (source j)) (sym e)

-- of one number alone that becomes another, seen from where all begin
pub one_only : (t : Elem) (step : ℤ → ℤ → ℤ) (old new : List ℤ) (source : ℕ → ℤ) (at place : ℕ) → StepsEach t step old source (at + place) 1 new
    → (kept_at new at place ≡ step (kept_at old at place) (source 0)) × ((l : ℕ) → place ≢ l → kept_at new at l ≡ kept_at old at l)
one_only t step old new source at place s = (
  (let e : at + place ≡ at + place + 0 = omega arith in ap (λ k. get_or new k (pos 0)) e ∙ s.each 0 (omega arith) ∙ ap (λ k. step (get_or old k (pos 0)) (source 0)) (sym e)),
  λ l ne. elim (nat_lt l place) as (λ z. nat_lt l place ≡ z → kept_at new at l ≡ kept_at old at l) [
    | true ↦ λ d. let low : l < place = ltb-true l place d in s.before (at + l) (omega arith)
    | false ↦ λ d. let high : place ≤ l = ltb-false l place d in s.behind (at + l) (beyond l ne high)
  ] refl,
)
  where
    beyond : (l : ℕ) → place ≢ l → place ≤ l → at + place + 1 ≤ at + l
    beyond l ne h = elim (nat_lt place l) as (λ z. nat_lt place l ≡ z → at + place + 1 ≤ at + l) [
      | true ↦ λ d. let k : place < l = ltb-true place l d in omega arith
      | false ↦ λ d. absurd (ne (let k : l ≤ place = ltb-false place l d in let same : place ≡ l = omega arith in same))
    ] refl

-- ---- numbers that are passed on

-- a number of a type comes back as it went in
pub passed : (t : Elem) (x : ℤ) → in_type t x ≡ true → to_z w128 (of_z w128 x) ≡ x
passed t x h = to_z-of_z w128 x (fits_of_type t x h)

pub set_at : (xs : List ℤ) (at : ℕ) (x : ℤ) → at < length xs → kept_at (set xs at x) at 0 ≡ x
set_at xs at x there = ap (λ k. get_or (set xs at x) k (pos 0)) (let e : at + 0 ≡ at = omega arith in e) ∙ get_or-set_same xs at x (pos 0) there
