-- One more operation in a list that waits: the order of the list, and the memory from which it runs.
use Rattle.std.proofs.Common.{◌≡◌, ◌≢◌, ℕ, ◌<◌, List, [], ◌∷◌, ◌++◌, Bool, true, false, not, ◌||◌, ◌&&◌, ◌⊎◌, inl, inr, ⊎_elim, refl, ap, ap₂, sym, ◌∙◌, arith, length, map, Option, Some, None}
use Rattle.std.proofs.lemmas.Bool.{false≢true, ne_eqb, eq-eqb}
use Rattle.std.specs.Prelude.{◌==◌, nat_lt, is_none}
use Rattle.std.specs.List.{AllByRecursion, list_all, list_any}
use Rattle.std.specs.Option.{option_to_list}
use Rattle.arr_num.specs.declared.elem.Elem.{Elem}
use Rattle.arr_view.specs.Strided.{Strided}
use Rattle.arr_view.specs.Views.{elements, has}
use Rattle.arr_ops.specs.declared.op.Op.{Op}
use Rattle.arr_ops.specs.Ops.{outputs, inputs, views, freed, named, makes_base, creates}
use Rattle.arr_ops.specs.Memory.{Memory}
use Rattle.arr_ops.specs.Formed.{may_precede}
use Rattle.arr_ops.specs.Fits.{Need, needs, meets_need, op_fits}
use Rattle.arr_ops.proofs.Pairs.{Pairs, All_weaker}
use Rattle.arr_ops.proofs.Tests.{test_all, or_cases, both_left, both_right, all_of}
use Rattle.arr_ops.proofs.Spots.{all_two, all_left, all_right}
use Rattle.arr_ops.proofs.Fits.{or_first, or_second}
use Rattle.arr_ops.proofs.FitsLaw.{all_append, all_map}
use Rattle.arr_record.proofs.Home.{Home, place_of, below_all, typed_parts, TypedAmong, InsideAmong}
use Rattle.arr_record.proofs.Cells.{Stored, meets_stored}

-- it names live bases alone, and makes the next one
pub record Allowed (bases : List (ℕ × Elem)) (live : ℕ → Bool) (g : Op) : Type 0 where
  pub reads : AllByRecursion (λ (v : Strided). live v.base ≡ true) (inputs g)
  pub frees : AllByRecursion (λ b. live b ≡ true) (freed g)
  pub writes : g.makes ≡ false → AllByRecursion (λ (o : Strided). live o.base ≡ true) (outputs g)
  pub makes : g.makes ≡ true → AllByRecursion (λ (o : Strided). o.base ≡ length bases) (outputs g)

-- ---- order

none_has : (ns : List ℕ) (b : ℕ) → AllByRecursion (λ n. n ≢ b) ns → has ns b ≡ false
none_has [] b h = refl
none_has (n ∷ ns) b h = ap₂ (λ x y. x || y) (ne_eqb b n (λ e. h.0 (sym e))) (none_has ns b h.1)

names_all : (P : ℕ → Type 0) (f : Op) → AllByRecursion (λ (v : Strided). P v.base) (views f) → AllByRecursion P (freed f) → AllByRecursion P (named f)
names_all P f a b = all_append P (map (λ (v : Strided). v.base) (views f)) (freed f) (all_map P (λ (v : Strided). v.base) (views f) a) b

-- live, or the next base
reached : (bases : List (ℕ × Elem)) (live : ℕ → Bool) (g : Op) → Allowed bases live g → AllByRecursion (λ n. (live n ≡ true) ⊎ (n ≡ length bases)) (named g)
reached bases live g a =
    let P : ℕ → Type 0 = λ n. (live n ≡ true) ⊎ (n ≡ length bases) in
    names_all P g
    (all_append (λ (v : Strided). P v.base) (outputs g) (inputs g) (written g.makes a.writes a.makes)
    (All_weaker (λ (v : Strided). live v.base ≡ true) (λ (v : Strided). P v.base) (λ v t. inl t) (inputs g) a.reads))
    (All_weaker (λ b. live b ≡ true) P (λ b t. inl t) (freed g) a.frees)
  where
    written : (makes : Bool) → (makes ≡ false → AllByRecursion (λ (o : Strided). live o.base ≡ true) (outputs g)) → (makes ≡ true → AllByRecursion (λ (o : Strided). o.base ≡ length bases) (outputs g))
        → AllByRecursion (λ (o : Strided). (live o.base ≡ true) ⊎ (o.base ≡ length bases)) (outputs g)
    written false h k = All_weaker (λ (o : Strided). live o.base ≡ true) (λ (o : Strided). (live o.base ≡ true) ⊎ (o.base ≡ length bases)) (λ o t. inl t) (outputs g) (h refl)
    written true h k = All_weaker (λ (o : Strided). o.base ≡ length bases) (λ (o : Strided). (live o.base ≡ true) ⊎ (o.base ≡ length bases)) (λ o t. inr t) (outputs g) (k refl)

pub precedes : (bases : List (ℕ × Elem)) (live : ℕ → Bool) (f g : Op) → Home bases f → AllByRecursion (λ b. live b ≡ false) (freed f) → Allowed bases live g → may_precede f g ≡ true
precedes bases live f g home gone a =
    ap₂ (λ x y. x && y) (made_new g.makes a.makes)
    (test_all (λ b. not (has (named g) b)) (freed f)
    (all_two (λ b. live b ≡ false) (λ b. b < length bases) (λ b. not (has (named g) b) ≡ true)
    (λ b dead l. ap not (none_has (named g) b
    (All_weaker (λ n. (live n ≡ true) ⊎ (n ≡ length bases)) (λ n. n ≢ b)
    (λ n t e. ⊎_elim (λ alive. false≢true (sym dead ∙ ap live (sym e) ∙ alive)) (λ same. absurd (omega arith)) t) (named g) (reached bases live g a))))
    (freed f) gone (below_all bases f home).1))
  where
    made_new : (makes : Bool) → (makes ≡ true → AllByRecursion (λ (o : Strided). o.base ≡ length bases) (outputs g)) → (not makes || list_all (λ (o : Strided). not (has (named f) o.base)) (outputs g)) ≡ true
    made_new false h = refl
    made_new true h =
        test_all (λ (o : Strided). not (has (named f) o.base)) (outputs g)
        (All_weaker (λ (o : Strided). o.base ≡ length bases) (λ (o : Strided). not (has (named f) o.base) ≡ true)
        (λ o e. ap not (none_has (named f) o.base
        (names_all (λ n. n ≢ o.base) f
        (All_weaker (λ (v : Strided). v.base < length bases) (λ (v : Strided). v.base ≢ o.base) (λ v l same. absurd (omega arith)) (views f) (below_all bases f home).0)
        (All_weaker (λ b. b < length bases) (λ b. b ≢ o.base) (λ b l same. absurd (omega arith)) (freed f) (below_all bases f home).1))))
        (outputs g) (h refl))

pub pairs_more : {X : Type 0} (R : X → X → Type 0) (xs : List X) (y : X) → Pairs R xs → AllByRecursion (λ x. R x y) xs → Pairs R (xs ++ y ∷ [])
pairs_more R [] y p h = (tt, tt)
pairs_more R (x ∷ xs) y p h = (all_append (R x) xs (y ∷ []) p.0 (h.0, tt), pairs_more R xs y p.1 h.1)

-- ---- what it needs

pub creates_more : (list : List Op) (g : Op) (b : ℕ) → creates list b ≡ true → creates (list ++ g ∷ []) b ≡ true
creates_more [] g b h = absurd (false≢true h)
creates_more (f ∷ list) g b h =
    or_cases (makes_base f b) (creates list b) h (or_first (makes_base f b) (creates (list ++ g ∷ []) b)) (λ t. or_second (makes_base f b) _ (creates_more list g b t))

pub creates_last : (list : List Op) (g : Op) (b : ℕ) → makes_base g b ≡ true → creates (list ++ g ∷ []) b ≡ true
creates_last [] g b h = or_first (makes_base g b) false h
creates_last (f ∷ list) g b h = or_second (makes_base f b) _ (creates_last list g b h)

pub fits_more : (m : Memory) (list : List Op) (g f : Op) → op_fits m list f ≡ true → op_fits m (list ++ g ∷ []) f ≡ true
fits_more m list g f h =
    let test : Need → Bool = λ (n : Need). creates list n.base || meets_need (m.bases n.base) n in
    let more : Need → Bool = λ (n : Need). creates (list ++ g ∷ []) n.base || meets_need (m.bases n.base) n in
    ap₂ (λ x y. x && y)
    (test_all more (needs f)
    (All_weaker (λ n. test n ≡ true) (λ n. more n ≡ true)
    (λ n t. or_cases (creates list n.base) (meets_need (m.bases n.base) n) t
    (λ u. or_first (creates (list ++ g ∷ []) n.base) _ (creates_more list g n.base u)) (λ u. or_second (creates (list ++ g ∷ []) n.base) _ u))
    (needs f) (all_of test (needs f) (both_left (list_all test (needs f)) _ h))))
    (both_right (list_all test (needs f)) _ h)

pub made_here : (out : Option Strided) (makes : Bool) → makes ≡ true → AllByRecursion (λ (o : Strided). (makes && list_any (λ (u : Strided). u.base == o.base) (option_to_list out)) ≡ true) (option_to_list out)
made_here None makes e = tt
made_here (Some o) makes e = (ap₂ (λ x y. x && y) e (or_first (o.base == o.base) false (same o.base)), tt)
  where
    same : (n : ℕ) → (n == n) ≡ true
    same n = eq-eqb n n refl

-- from a memory that has every live base that the list does not create
module _ (bases : List (ℕ × Elem)) (live : ℕ → Bool) (m : Memory) (list : List Op) (g : Op)
    (source : (b : ℕ) → live b ≡ true → (creates list b ≡ true) ⊎ Stored (place_of bases b) (m.bases b)) where
  met : (n : Need) → n.elem ≡ (place_of bases n.base).1 → list_all (λ e. nat_lt e (place_of bases n.base).0) n.places ≡ true → (live n.base ≡ true) ⊎ (makes_base g n.base ≡ true)
      → (creates (list ++ g ∷ []) n.base || meets_need (m.bases n.base) n) ≡ true
  met n e l h =
      ⊎_elim
      (λ alive. ⊎_elim (λ t. or_first (creates (list ++ g ∷ []) n.base) _ (creates_more list g n.base t))
      (λ s. or_second (creates (list ++ g ∷ []) n.base) _ (meets_stored (place_of bases n.base) (m.bases n.base) n s e l)) (source n.base alive))
      (λ made. or_first (creates (list ++ g ∷ []) n.base) _ (creates_last list g n.base made)) h

  met_views : (t : Elem) (vs : List Strided) → AllByRecursion (λ (v : Strided). TypedAmong bases (v.base, t)) vs → AllByRecursion (InsideAmong bases) vs
      → AllByRecursion (λ (v : Strided). (live v.base ≡ true) ⊎ (makes_base g v.base ≡ true)) vs
      → AllByRecursion (λ (n : Need). (creates (list ++ g ∷ []) n.base || meets_need (m.bases n.base) n) ≡ true) (map (λ (v : Strided). record { base = v.base; elem = t; places = elements v }) vs)
  met_views t [] a b c = tt
  met_views t (v ∷ vs) a b c = (met (record { base = v.base; elem = t; places = elements v }) a.0.1 b.0 c.0, met_views t vs a.1 b.1 c.1)

  met_frees : (bs : List ℕ) → AllByRecursion (λ b. TypedAmong bases (b, g.to)) bs → AllByRecursion (λ b. live b ≡ true) bs
      → AllByRecursion (λ (n : Need). (creates (list ++ g ∷ []) n.base || meets_need (m.bases n.base) n) ≡ true) (map (λ b. record { base = b; elem = g.to; places = [] }) bs)
  met_frees [] a c = tt
  met_frees (b ∷ bs) a c = (met (record { base = b; elem = g.to; places = [] }) a.0.1 refl (inl c.0), met_frees bs a.1 c.1)

  pub last_fits : Home bases g → (g.makes ≡ false → AllByRecursion (λ (o : Strided). live o.base ≡ true) (outputs g)) → AllByRecursion (λ (v : Strided). live v.base ≡ true) (inputs g)
      → AllByRecursion (λ b. live b ≡ true) (freed g) → (g.makes ≡ true → AllByRecursion (λ (o : Strided). m.bases o.base ≡ None) (outputs g)) → ((s : ℕ) → m.slots s ≡ None)
      → op_fits m (list ++ g ∷ []) g ≡ true
  last_fits home writes reads frees new bare =
      let parts = typed_parts (TypedAmong bases) g home.typed_there in
      let test : Need → Bool = λ (n : Need). creates (list ++ g ∷ []) n.base || meets_need (m.bases n.base) n in
      let P : Need → Type 0 = λ n. test n ≡ true in
      let all : AllByRecursion P (needs g) =
      all_append P _ _
      (all_append P _ _
      (met_views g.to (outputs g) parts.0 (all_left (InsideAmong bases) (outputs g) (inputs g) home.inside) (written g.makes refl writes))
      (met_views g.from (inputs g) parts.1 (all_right (InsideAmong bases) (outputs g) (inputs g) home.inside)
      (All_weaker (λ (v : Strided). live v.base ≡ true) (λ (v : Strided). (live v.base ≡ true) ⊎ (makes_base g v.base ≡ true)) (λ v t. inl t) (inputs g) reads)))
      (met_frees (freed g) parts.2 frees) in
      ap₂ (λ x y. x && y) (test_all test (needs g) all) (ap₂ (λ x y. x && y) (slots (option_to_list g.slot)) (unmade g.makes new))
    where
      written : (makes : Bool) → g.makes ≡ makes → (makes ≡ false → AllByRecursion (λ (o : Strided). live o.base ≡ true) (outputs g))
          → AllByRecursion (λ (o : Strided). (live o.base ≡ true) ⊎ (makes_base g o.base ≡ true)) (outputs g)
      written false e h = All_weaker (λ (o : Strided). live o.base ≡ true) (λ (o : Strided). (live o.base ≡ true) ⊎ (makes_base g o.base ≡ true)) (λ o t. inl t) (outputs g) (h refl)
      written true e h =
          All_weaker (λ (o : Strided). makes_base g o.base ≡ true) (λ (o : Strided). (live o.base ≡ true) ⊎ (makes_base g o.base ≡ true)) (λ o t. inr t) (outputs g) (made_here g.out g.makes e)

      slots : (ss : List ℕ) → list_all (λ s. is_none (m.slots s)) ss ≡ true
      slots [] = refl
      slots (s ∷ ss) = ap₂ (λ x y. x && y) (ap is_none (bare s)) (slots ss)

      unmade : (makes : Bool) → (makes ≡ true → AllByRecursion (λ (o : Strided). m.bases o.base ≡ None) (outputs g)) → (not makes || list_all (λ (o : Strided). is_none (m.bases o.base)) (outputs g)) ≡ true
      unmade false h = refl
      unmade true h =
          test_all (λ (o : Strided). is_none (m.bases o.base)) (outputs g)
          (All_weaker (λ (o : Strided). m.bases o.base ≡ None) (λ (o : Strided). is_none (m.bases o.base) ≡ true) (λ o t. ap is_none t) (outputs g) (h refl))
