use Rattle.std.proofs.Common.{negsuc, zero, suc, ◌≡◌, ℕ, ◌<◌, ℤ, pos, ◌+ℤ◌, ◌≤ℤ◌, ◌<ℤ◌, List, [], ◌∷◌, true, false, Bool, length, get_or, map, ap, ap₂, sym, ◌∙◌, arith, rules, to_z, of_z, w64, w32, nat_abs, refl}
use Rattle.std.proofs.lemmas.Int.{ints}
use mir.Val.{SFits}
use Rattle.std.specs.List.{list_all}
use Rattle.std.proofs.lemmas.Bool.{false≢true, and_parts}
use Rattle.arr_view.specs.Views.{to_place, is_place}
use Rattle.arr_view.specs.Walks.{after, still_left, Walking}
use Rattle.arr_view.proofs.Places.{place_low, place_high}
use Rattle.arr_view.proofs.Walking.{walking_on, turned_at, nothing_after, code_walking, code_after}
use Rattle.arr_view.proofs.walk.WalkIterator.next.Goals as goal

natural_cast : (z : ℤ) → is_place z ≡ true → nat_abs (to_z w64 (of_z w64 z)) ≡ to_place z
natural_cast z e = let a : pos 0 ≤ℤ z = place_low z e in let b : z <ℤ pos 1048576 = place_high z e in
    ap nat_abs (let k : to_z w64 (of_z w64 z) ≡ z = omega (arith, ints) in k) ∙ plain z e
  where
    plain : (y : ℤ) → is_place y ≡ true → nat_abs y ≡ to_place y
    plain (pos n) h = refl
    plain (negsuc n) h = absurd (false≢true h)

going : (d : Bool) (place : ℤ) (later : List ℤ) → d ≡ false → still_left d place later ≡ to_place place ∷ map to_place later
going d place later e = ap (λ b. still_left b place later) e

pub returns-in-None-clause-steps : goal.returns-in-None-clause-steps
returns-in-None-clause-steps c =
    let w : Walking c.self.inside.lengths c.self.inside.strides c.self.inside.left c.self.inside.places c.self.inside.place = c.self.invariant in
    sym c.self.view_is ∙ going c.self.inside.done c.self.inside.place (after c.self.inside.lengths c.self.inside.strides c.self.inside.left c.self.inside.places) c.if-self.false
    ∙ ap₂ (λ x xs. x ∷ map to_place xs) (sym (natural_cast c.self.inside.place w.here)) (nothing_after c.self.inside.lengths c.self.inside.strides c.self.inside.left c.self.inside.places c.in-None.ensures)

place_at : (zs : List ℤ) (k : ℕ) → list_all is_place zs ≡ true → k < length zs → is_place (get_or zs k (pos 0)) ≡ true
place_at [] k h l = absurd (omega arith)
place_at (z ∷ zs) zero h l = (and_parts (is_place z) (list_all is_place zs) h).0
place_at (z ∷ zs) (suc k) h l = place_at zs k (and_parts (is_place z) (list_all is_place zs) h).1 (omega arith)

-- the place of the next step, as the code adds it up
summed : (x y : ℤ) → is_place x ≡ true → SFits w32 y → to_z w64 (of_z w64 (to_z w64 (of_z w64 x) +ℤ to_z w64 (of_z w64 (to_z w32 (of_z w32 y))))) ≡ x +ℤ y
summed x y h f = let a : pos 0 ≤ℤ x = place_low x h in let b : x <ℤ pos 1048576 = place_high x h in omega (arith, ints)

same_place : (z : ℤ) → is_place z ≡ true → to_z w64 (of_z w64 z) ≡ z
same_place z e = let a : pos 0 ≤ℤ z = place_low z e in let b : z <ℤ pos 1048576 = place_high z e in omega (arith, ints)

pub invariant_of-self : goal.invariant_of-self
invariant_of-self c =
    let k : ℕ = c.in-Some.level in
    let ns : List ℕ = c.self.inside.lengths in
    let ss : List ℤ = c.self.inside.strides in
    let rs : List ℕ = c.self.inside.left in
    let zs : List ℤ = c.self.inside.places in
    let w : Walking ns ss rs zs c.self.inside.place = c.self.invariant in
    let four : length ns ≡ 4 = c.self.told.0 in
    let four_strides : length ss ≡ 4 = c.self.told.1 in
    let four_left : length rs ≡ 4 = c.self.told.2 in
    let four_places : length zs ≡ 4 = c.self.told.3 in
    let l : k < length rs = c.in-Some.ensures.0 in
    let fits : SFits w32 (get_or ss k (pos 0)) = search rules in
    let stride : c.from.result ≡ to_z w32 (of_z w32 (get_or ss k (pos 0))) = c.from.ensures in
    let there : is_place (turned_at ss zs k) ≡ true = (walking_on ns ss rs zs c.self.inside.place w (four_strides ∙ sym four) (four_left ∙ sym four) (four_places ∙ sym four) k (omega arith) c.in-Some.ensures.1 c.in-Some.ensures.2).here in
    let sum : to_z w64 (of_z w64 (to_z w64 (of_z w64 (get_or zs k (pos 0))) +ℤ to_z w64 (of_z w64 c.from.result))) ≡ turned_at ss zs k =
    ap (λ y. to_z w64 (of_z w64 (to_z w64 (of_z w64 (get_or zs k (pos 0))) +ℤ to_z w64 (of_z w64 y)))) stride ∙ summed (get_or zs k (pos 0)) (get_or ss k (pos 0)) (place_at zs k w.starts (omega arith)) fits in
    let written : to_z w64 (of_z w64 (to_z w64 (of_z w64 (to_z w64 (of_z w64 (get_or zs k (pos 0))) +ℤ to_z w64 (of_z w64 c.from.result))))) ≡ turned_at ss zs k =
    ap (λ y. to_z w64 (of_z w64 y)) sum ∙ same_place (turned_at ss zs k) there in
    code_walking ns ss rs zs c.self.inside.place w (four_strides ∙ sym four) (four_left ∙ sym four) (four_places ∙ sym four) k (omega arith) c.in-Some.ensures.1 c.in-Some.ensures.2 c.restart.new.left c.restart.new.places _ _ sum written c.restart.ensures.left c.restart.ensures.places

pub returns-in-Some-clause-steps : goal.returns-in-Some-clause-steps
returns-in-Some-clause-steps c =
    let k : ℕ = c.in-Some.level in
    let ns : List ℕ = c.self.inside.lengths in
    let ss : List ℤ = c.self.inside.strides in
    let rs : List ℕ = c.self.inside.left in
    let zs : List ℤ = c.self.inside.places in
    let w : Walking ns ss rs zs c.self.inside.place = c.self.invariant in
    let four : length ns ≡ 4 = c.self.told.0 in
    let four_strides : length ss ≡ 4 = c.self.told.1 in
    let four_left : length rs ≡ 4 = c.self.told.2 in
    let four_places : length zs ≡ 4 = c.self.told.3 in
    let l : k < length rs = c.in-Some.ensures.0 in
    let fits : SFits w32 (get_or ss k (pos 0)) = search rules in
    let stride : c.from.result ≡ to_z w32 (of_z w32 (get_or ss k (pos 0))) = c.from.ensures in
    let there : is_place (turned_at ss zs k) ≡ true = (walking_on ns ss rs zs c.self.inside.place w (four_strides ∙ sym four) (four_left ∙ sym four) (four_places ∙ sym four) k (omega arith) c.in-Some.ensures.1 c.in-Some.ensures.2).here in
    let sum : to_z w64 (of_z w64 (to_z w64 (of_z w64 (get_or zs k (pos 0))) +ℤ to_z w64 (of_z w64 c.from.result))) ≡ turned_at ss zs k =
    ap (λ y. to_z w64 (of_z w64 (to_z w64 (of_z w64 (get_or zs k (pos 0))) +ℤ to_z w64 (of_z w64 y)))) stride ∙ summed (get_or zs k (pos 0)) (get_or ss k (pos 0)) (place_at zs k w.starts (omega arith)) fits in
    let written : to_z w64 (of_z w64 (to_z w64 (of_z w64 (to_z w64 (of_z w64 (get_or zs k (pos 0))) +ℤ to_z w64 (of_z w64 c.from.result))))) ≡ turned_at ss zs k =
    ap (λ y. to_z w64 (of_z w64 y)) sum ∙ same_place (turned_at ss zs k) there in
    sym c.self.view_is ∙ going c.self.inside.done c.self.inside.place (after ns ss rs zs) c.if-self.false
    ∙ ap₂ (λ x xs. x ∷ map to_place xs) (sym (natural_cast c.self.inside.place w.here)) (code_after ns ss rs zs c.self.inside.place w (four_strides ∙ sym four) (four_left ∙ sym four) (four_places ∙ sym four) k (omega arith) c.in-Some.ensures.1 c.in-Some.ensures.2 c.restart.new.left c.restart.new.places _ _ sum written c.restart.ensures.left c.restart.ensures.places)
    ∙ ap (λ xs. nat_abs (to_z w64 (of_z w64 c.self.inside.place)) ∷ xs)
    (sym (going c.self.inside.done (to_z w64 (of_z w64 (to_z w64 (of_z w64 (get_or zs k (pos 0))) +ℤ to_z w64 (of_z w64 c.from.result)))) (after ns ss c.restart.new.left c.restart.new.places) c.if-self.false))

shorter : (xs ys : List ℕ) (x : ℕ) → xs ≡ x ∷ ys → length ys < length xs
shorter xs ys x e = let h : length xs ≡ suc (length ys) = ap length e in omega arith

pub returns-in-Some-clause-goes : goal.returns-in-Some-clause-goes
returns-in-Some-clause-goes c =
    let less = shorter _ _ _ (returns-in-Some-clause-steps c) in
    record { on = λ f. (tt, tt, less); keeps = tt; rests = λ f. tt }
