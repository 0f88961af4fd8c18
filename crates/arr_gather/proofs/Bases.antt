-- A function that is changed at one number.
use Rattle.std.proofs.Common.{◌≡◌, ◌≢◌, ℕ, Bool, true, false, cond, refl, ap, sym, Option}
use Rattle.std.proofs.lemmas.Bool.{eqb-true, eq-eqb, ne_eqb}
use Rattle.std.specs.Prelude.{◌==◌}
use Rattle.arr_store.specs.Cells.{assigned}

pub at_same : {X : Type 0} (f : ℕ → Option X) (b : ℕ) (c : Option X) → assigned f b c b ≡ c
at_same f b c = ap (λ t. cond t c (f b)) (eq-eqb b b refl)

pub at_other : {X : Type 0} (f : ℕ → Option X) (b a : ℕ) (c : Option X) → a ≢ b → assigned f b c a ≡ f a
at_other f b a c n = ap (λ t. cond t c (f a)) (ne_eqb b a (λ e. n (sym e)))

pub twice : {X : Type 0} (f : ℕ → Option X) (b : ℕ) (c d : Option X) → assigned (assigned f b c) b d ≡ assigned f b d
twice {X = X} f b c d = λ i a. one (b == a) (f a) i
  where
    one : (t : Bool) (x : Option X) → cond t d (cond t c x) ≡ cond t d x
    one true x = refl
    one false x = refl

pub unchanged : {X : Type 0} (f : ℕ → Option X) (b : ℕ) → assigned f b (f b) ≡ f
unchanged f b = λ i a. one a i
  where
    one : (a : ℕ) → assigned f b (f b) a ≡ f a
    one a = elim (b == a) as (λ t. (b == a) ≡ t → cond t (f b) (f a) ≡ f a) [ true ↦ λ e. ap f (eqb-true b a e) | false ↦ λ e. refl ] refl
