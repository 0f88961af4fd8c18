-- Operations that are at home among some bases, and lists of them that are formed.
use Rattle.std.proofs.Common.{◌≡◌, ℕ, ◌+◌, ◌<◌, List, [], ◌∷◌, ◌++◌, Bool, true, false, not, ◌||◌, ◌&&◌, refl, ap, ap₂, sym, ◌∙◌, arith, length, map, get_or, length-append}
use Rattle.std.proofs.lemmas.Bool.{eqb-true}
use Rattle.std.proofs.lemmas.List.{get_or_append_left}
use Rattle.std.specs.Prelude.{◌==◌, nat_lt}
use Rattle.std.specs.List.{AllByRecursion, list_all, range_with_len}
use Rattle.arr_num.specs.declared.elem.Elem.{Elem}
use Rattle.arr_num.specs.declared.elem.Elem.TheVariants.{U8}
use Rattle.arr_num.specs.Types.{same_elem_refl}
use Rattle.arr_view.specs.Strided.{Strided}
use Rattle.arr_view.specs.Views.{elements, positions}
use Rattle.arr_ops.specs.declared.op.Op.{Op}
use Rattle.arr_ops.specs.Ops.{outputs, inputs, views, freed}
use Rattle.arr_ops.specs.Formed.{is_formed, well_formed, inside_made, same_types, typed, may_precede, slot_numbers, same_elem, all_pairs}
use Rattle.arr_ops.proofs.Pairs.{Pairs, All_weaker}
use Rattle.arr_ops.proofs.Tests.{test_all}
use Rattle.arr_ops.proofs.Alike.{same_from}
use Rattle.arr_ops.proofs.Spots.{all_left, all_right, all_mapped, all_two}
use Rattle.arr_ops.proofs.FitsLaw.{all_append}

-- the length and type of a base
abbrev pub place_of : List (ℕ × Elem) → ℕ → ℕ × Elem
place_of bases b = get_or bases b (0, U8)

abbrev pub TypedAmong : List (ℕ × Elem) → ℕ × Elem → Type 0
TypedAmong bases p = (p.0 < length bases) × (p.1 ≡ (place_of bases p.0).1)

abbrev pub InsideAmong : List (ℕ × Elem) → Strided → Type 0
InsideAmong bases v = list_all (λ e. nat_lt e (place_of bases v.base).0) (elements v) ≡ true

abbrev pub WholeAmong : List (ℕ × Elem) → Strided → Type 0
WholeAmong bases o = positions o.lengths ≡ (place_of bases o.base).0

-- it is well formed, and what it names is there, with its types and elements; what it makes is whole
pub record Home (bases : List (ℕ × Elem)) (f : Op) : Type 0 where
  pub well : well_formed f ≡ true
  pub typed_there : AllByRecursion (TypedAmong bases) (typed f)
  pub inside : AllByRecursion (InsideAmong bases) (views f)
  pub whole : f.makes ≡ true → AllByRecursion (WholeAmong bases) (outputs f)

-- ---- the bases that it names

-- what is typed, part by part
pub typed_parts : (P : ℕ × Elem → Type 0) (f : Op) → AllByRecursion P (typed f)
    → AllByRecursion (λ (v : Strided). P (v.base, f.to)) (outputs f) × AllByRecursion (λ (v : Strided). P (v.base, f.from)) (inputs f) × AllByRecursion (λ b. P (b, f.to)) (freed f)
typed_parts P f h =
    let outs : List (ℕ × Elem) = map (λ (v : Strided). (v.base, f.to)) (outputs f) in
    let ins : List (ℕ × Elem) = map (λ (v : Strided). (v.base, f.from)) (inputs f) in
    let ends : List (ℕ × Elem) = map (λ b. (b, f.to)) (freed f) in
    let vs : AllByRecursion P (outs ++ ins) = all_left P (outs ++ ins) ends h in (
      all_mapped P (λ (v : Strided). (v.base, f.to)) (outputs f) (all_left P outs ins vs),
      all_mapped P (λ (v : Strided). (v.base, f.from)) (inputs f) (all_right P outs ins vs),
      all_mapped P (λ b. (b, f.to)) (freed f) (all_right P (outs ++ ins) ends h),
    )

pub below_all : (bases : List (ℕ × Elem)) (f : Op) → Home bases f → AllByRecursion (λ (v : Strided). v.base < length bases) (views f) × AllByRecursion (λ b. b < length bases) (freed f)
below_all bases f h =
    let parts = typed_parts (λ (p : ℕ × Elem). p.0 < length bases) f (All_weaker (TypedAmong bases) (λ (p : ℕ × Elem). p.0 < length bases) (λ p t. t.0) (typed f) h.typed_there) in
    (all_append (λ (v : Strided). v.base < length bases) (outputs f) (inputs f) parts.0 parts.1, parts.2)

-- ---- more bases

pub place_more : (bases more : List (ℕ × Elem)) (b : ℕ) → b < length bases → place_of (bases ++ more) b ≡ place_of bases b
place_more bases more b l = get_or_append_left bases more (0, U8) b l

pub home_more : (bases more : List (ℕ × Elem)) (f : Op) → Home bases f → Home (bases ++ more) f
home_more bases more f h =
    let below : AllByRecursion (λ (v : Strided). v.base < length bases) (views f) = (below_all bases f h).0 in
    record {
      well = h.well;
      typed_there = All_weaker (TypedAmong bases) (TypedAmong (bases ++ more))
          (λ p t. let l : p.0 < length bases = t.0 in (let n : length (bases ++ more) ≡ length bases + length more = length-append bases more in omega arith, t.1 ∙ ap (λ (q : ℕ × Elem). q.1) (sym (place_more bases more p.0 l)))) (typed f) h.typed_there;
      inside = all_two (λ (v : Strided). v.base < length bases) (InsideAmong bases) (InsideAmong (bases ++ more))
          (λ v l t. ap (λ (q : ℕ × Elem). list_all (λ e. nat_lt e q.0) (elements v)) (place_more bases more v.base l) ∙ t) (views f) below h.inside;
      whole = λ m. all_two (λ (v : Strided). v.base < length bases) (WholeAmong bases) (WholeAmong (bases ++ more))
          (λ v l t. t ∙ ap (λ (q : ℕ × Elem). q.0) (sym (place_more bases more v.base l))) (outputs f) (all_left (λ (v : Strided). v.base < length bases) (outputs f) (inputs f) below) (h.whole m);
    }

-- ---- two of them

inside_of : (bases : List (ℕ × Elem)) (f g : Op) → Home bases f → Home bases g → inside_made f g ≡ true
inside_of bases f g h k = by_makes f.makes h.whole
  where
    one : (o v : Strided) → WholeAmong bases o → InsideAmong bases v → (not (o.base == v.base) || list_all (λ e. nat_lt e (positions o.lengths)) (elements v)) ≡ true
    one o v w i =
        elim (o.base == v.base) as (λ b. (o.base == v.base) ≡ b → (not b || list_all (λ e. nat_lt e (positions o.lengths)) (elements v)) ≡ true) [
          | true ↦ λ e. ap (λ n. list_all (λ e. nat_lt e n) (elements v)) (w ∙ ap (λ b. (place_of bases b).0) (eqb-true o.base v.base e)) ∙ i
          | false ↦ λ e. refl
        ] refl

    by_makes : (makes : Bool) → (makes ≡ true → AllByRecursion (WholeAmong bases) (outputs f))
        → (not makes || list_all (λ (o : Strided). list_all (λ (v : Strided). not (o.base == v.base) || list_all (λ e. nat_lt e (positions o.lengths)) (elements v)) (views g)) (outputs f)) ≡ true
    by_makes false w = refl
    by_makes true w =
        test_all (λ (o : Strided). list_all (λ (v : Strided). not (o.base == v.base) || list_all (λ e. nat_lt e (positions o.lengths)) (elements v)) (views g)) (outputs f)
        (All_weaker (WholeAmong bases) (λ (o : Strided). list_all (λ (v : Strided). not (o.base == v.base) || list_all (λ e. nat_lt e (positions o.lengths)) (elements v)) (views g) ≡ true)
        (λ o t. test_all (λ (v : Strided). not (o.base == v.base) || list_all (λ e. nat_lt e (positions o.lengths)) (elements v)) (views g)
        (All_weaker (InsideAmong bases) (λ (v : Strided). (not (o.base == v.base) || list_all (λ e. nat_lt e (positions o.lengths)) (elements v)) ≡ true) (λ v i. one o v t i) (views g) k.inside))
        (outputs f) (w refl))

pub same_elem_if : (s t : Elem) → s ≡ t → same_elem s t ≡ true
same_elem_if s t e = ap (same_elem s) (sym e) ∙ same_elem_refl s

types_of : (bases : List (ℕ × Elem)) (f g : Op) → Home bases f → Home bases g → same_types f g ≡ true
types_of bases f g h k =
    test_all (λ (p : ℕ × Elem). list_all (λ (q : ℕ × Elem). not (p.0 == q.0) || same_elem p.1 q.1) (typed g)) (typed f)
    (All_weaker (TypedAmong bases) (λ (p : ℕ × Elem). list_all (λ (q : ℕ × Elem). not (p.0 == q.0) || same_elem p.1 q.1) (typed g) ≡ true)
    (λ p t. test_all (λ (q : ℕ × Elem). not (p.0 == q.0) || same_elem p.1 q.1) (typed g)
    (All_weaker (TypedAmong bases) (λ (q : ℕ × Elem). (not (p.0 == q.0) || same_elem p.1 q.1) ≡ true) (λ q u. one p q t u) (typed g) k.typed_there)) (typed f) h.typed_there)
  where
    one : (p q : ℕ × Elem) → TypedAmong bases p → TypedAmong bases q → (not (p.0 == q.0) || same_elem p.1 q.1) ≡ true
    one p q t u =
        elim (p.0 == q.0) as (λ b. (p.0 == q.0) ≡ b → (not b || same_elem p.1 q.1) ≡ true) [
          | true ↦ λ e. same_elem_if p.1 q.1 (t.1 ∙ ap (λ b. (place_of bases b).1) (eqb-true p.0 q.0 e) ∙ sym u.1)
          | false ↦ λ e. refl
        ] refl

-- ---- a list of them

pub test_pairs : {X : Type 0} (t : X → X → Bool) (xs : List X) → Pairs (λ x y. t x y ≡ true) xs → all_pairs t xs ≡ true
test_pairs t [] h = refl
test_pairs t (x ∷ xs) h = ap₂ (λ a b. a && b) (test_all (t x) xs h.0) (test_pairs t xs h.1)

each_pair : (bases : List (ℕ × Elem)) (t : Op → Op → Bool) → ((f g : Op) → Home bases f → Home bases g → t f g ≡ true) → (fs gs : List Op)
    → AllByRecursion (Home bases) fs → AllByRecursion (Home bases) gs → list_all (λ f. list_all (t f) gs) fs ≡ true
each_pair bases t h fs gs a b =
    test_all (λ f. list_all (t f) gs) fs
    (All_weaker (Home bases) (λ f. list_all (t f) gs ≡ true) (λ f p. test_all (t f) gs (All_weaker (Home bases) (λ g. t f g ≡ true) (λ g q. h f g p q) gs b)) fs a)

pub formed_if : (bases : List (ℕ × Elem)) (list : List Op) → AllByRecursion (Home bases) list → slot_numbers list ≡ range_with_len 1 (length (slot_numbers list))
    → Pairs (λ f g. may_precede f g ≡ true) list → is_formed list ≡ true
formed_if bases list home slots order =
    ap₂ (λ a b. a && b) (test_all well_formed list (All_weaker (Home bases) (λ f. well_formed f ≡ true) (λ f h. h.well) list home))
    (ap₂ (λ a b. a && b) (same_from (slot_numbers list) (range_with_len 1 (length (slot_numbers list))) slots)
    (ap₂ (λ a b. a && b) (each_pair bases inside_made (inside_of bases) list list home home)
    (ap₂ (λ a b. a && b) (each_pair bases same_types (types_of bases) list list home home) (test_pairs may_precede list order))))
