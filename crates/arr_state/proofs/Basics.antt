-- Tests and sets of facts.
use Rattle.std.proofs.Common.{◌≡◌, List, [], ◌∷◌, Bool, true, false, ◌&&◌, refl, sym, ◌∙◌}
use Rattle.std.specs.List.{list_all}
use Rattle.std.proofs.lemmas.Bool.{and_parts, and_from, or_right, true≢false}
use Rattle.arr_law.specs.declared.fact.Fact.{Fact}
use Rattle.arr_law.specs.Facts.{Facts, is_fact, with_fact}
use Rattle.arr_law.specs.Floor.{Within}

pub by_bool : {P : Type 0} (b : Bool) → (b ≡ true → P) → (b ≡ false → P) → P
by_bool true t f = t refl
by_bool false t f = f refl

pub all_more : {A : Type 0} (p q : A → Bool) (xs : List A) → ((x : A) → p x ≡ true → q x ≡ true) → list_all p xs ≡ true → list_all q xs ≡ true
all_more p q [] step e = e
all_more p q (x ∷ xs) step e =
    let h = and_parts (p x) (list_all p xs) e in
    and_from (q x) (list_all q xs) (step x h.0) (all_more p q xs step h.1)

pub within_all : (a b : Facts) → Within a b → (xs : List Fact) → list_all a xs ≡ true → list_all b xs ≡ true
within_all a b w xs e = all_more a b xs w e

pub within_self : (a : Facts) → Within a a
within_self a x e = e

pub within_then : (a b c : Facts) → Within a b → Within b c → Within a c
within_then a b c f g x e = g x (f x e)

pub with_within : (facts : Facts) (x : Fact) → Within facts (with_fact x facts)
with_within facts x y e = or_right (is_fact x y) (facts y) e

pub two_of : (p q : Bool) → (p && (q && true)) ≡ true → (p ≡ true) × (q ≡ true)
two_of p q e = let h = and_parts p (q && true) e in let k = and_parts q true h.1 in (h.0, k.0)

pub three_of : (p q r : Bool) → (p && (q && (r && true))) ≡ true → (p ≡ true) × (q ≡ true) × (r ≡ true)
three_of p q r e = let h = and_parts p (q && (r && true)) e in let k = two_of q r h.1 in (h.0, k.0, k.1)

pub not_true : {P : Type 0} (b : Bool) → b ≡ true → b ≡ false → P
not_true b t f = absurd (true≢false (sym t ∙ f))
