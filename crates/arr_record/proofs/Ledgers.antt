-- What a change of the ledger says of names and live bases.
use Rattle.std.proofs.Common.{◌≡◌, ◌≢◌, ℕ, ◌+◌, ◌-◌, ◌<◌, zero, suc, List, [], ◌∷◌, ◌++◌, Bool, true, false, cond, not, ◌||◌, ◌&&◌, refl, ap, ap₂, sym, subst, ◌∙◌, arith, length, map, get_or, set, Option, Some, None, length-append, get_or-set_other, get_or-set_same}
use Rattle.std.proofs.lemmas.Bool.{false≢true, eqb-true, eqb-false, eq-eqb, ne_eqb, lt-ltb, ltb-true}
use Rattle.std.proofs.lemmas.List.{length-set, get_or_past, get_or_append_left, map-append}
use Rattle.std.proofs.lemmas.List.Elements.{filter-append}
use Rattle.std.proofs.lemmas.List.Folds.{list_any-append}
use Rattle.std.proofs.Math.Seq.{get_or-append_seam}
use Rattle.std.specs.Prelude.{◌==◌, nat_lt, slice_index, is_some}
use Rattle.arr_view.specs.Views.{has}
use Rattle.std.specs.List.{AllByRecursion, filter}
use Rattle.std.specs.Ordering.{nat_cmp}
use Rattle.std.specs.BTreeMap.{is_at}
use Rattle.std.specs.BTreeSet.{insert_key}
use Rattle.std.specs.Set.{remove_key}
use Rattle.arr_num.specs.declared.elem.Elem.{Elem}
use Rattle.arr_num.specs.declared.elem.Elem.TheVariants.{U8}
use Rattle.arr_ops.specs.Formed.{all_pairs}
use Rattle.arr_ops.proofs.Pairs.{All_weaker, All_filter, Pairs_filter, Pairs_weaker}
use Rattle.arr_ops.proofs.Tests.{or_cases, pairs_of}
use Rattle.arr_ops.proofs.Fits.{or_first, or_second}
use Rattle.arr_ops.proofs.FitsLaw.{all_append}
use Rattle.arr_elab.specs.Recording.{other_names}
use Rattle.arr_ops.proofs.Spots.{all_two}
use Rattle.arr_record.specs.Parts.{unnamed, is_named}
use Rattle.arr_record.specs.Ledger.{Ledger, Owned, base_of, found, names_for, lives, with_types}
use Rattle.arr_record.proofs.Home.{test_pairs}
use Rattle.arr_record.proofs.Joined.{pairs_more}
use Rattle.arr_record.proofs.Freed.{lives_kept}
use Rattle.arr_record.proofs.Named.{Apart, stands, base_other, others_none, apart_other, apart_first, names_for_other, stands_counted, found_held}
use Rattle.arr_record.proofs.Loose.{Rising, keys, keys_all, keys_alike, keys_more, keys_less, insert_last, is_at_same}

pub rising_of : (live : List (ℕ × Elem)) → all_pairs (λ (x y : ℕ × Elem). nat_lt x.0 y.0) live ≡ true → Rising live
rising_of live h = Pairs_weaker (λ (x y : ℕ × Elem). nat_lt x.0 y.0 ≡ true) (λ (x y : ℕ × Elem). x.0 < y.0) (λ x y t. ltb-true x.0 y.0 t) live (pairs_of (λ (x y : ℕ × Elem). nat_lt x.0 y.0) live h)

pub rising_test : (live : List (ℕ × Elem)) → Rising live → all_pairs (λ (x y : ℕ × Elem). nat_lt x.0 y.0) live ≡ true
rising_test live h = test_pairs (λ (x y : ℕ × Elem). nat_lt x.0 y.0) live (Pairs_weaker (λ (x y : ℕ × Elem). x.0 < y.0) (λ (x y : ℕ × Elem). nat_lt x.0 y.0 ≡ true) (λ x y t. lt-ltb x.0 y.0 t) live h)

pub apart_of : (names : List (ℕ × ℕ)) → all_pairs (λ (x y : ℕ × ℕ). not (x.0 == y.0)) names ≡ true → Apart names
apart_of names h = pairs_of (λ (x y : ℕ × ℕ). not (x.0 == y.0)) names h

apart_test : (names : List (ℕ × ℕ)) → Apart names → all_pairs (λ (x y : ℕ × ℕ). not (x.0 == y.0)) names ≡ true
apart_test names h = test_pairs (λ (x y : ℕ × ℕ). not (x.0 == y.0)) names h

abbrev free_for : List (ℕ × ℕ) → ℕ → Bool
free_for names b = not (stands names b)

-- a base that a name stands for is counted
stands_some : (names : List (ℕ × ℕ)) (b n : ℕ) → names_for names b ≡ suc n → free_for names b ≡ false
stands_some names b n e = ap not (stands_counted names b ∙ ap (nat_lt 0) e ∙ lt-ltb 0 (suc n) (omega arith))

stands_none : (names : List (ℕ × ℕ)) (b : ℕ) → names_for names b ≡ 0 → free_for names b ≡ true
stands_none names b e = ap not (stands_counted names b ∙ ap (nat_lt 0) e)

stands_same : (names others : List (ℕ × ℕ)) (b : ℕ) → names_for names b ≡ names_for others b → free_for names b ≡ free_for others b
stands_same names others b e = ap not (stands_counted names b ∙ ap (nat_lt 0) e ∙ sym (stands_counted others b))

-- ---- a base is made

index_more : (xs : List ℕ) (c : ℕ) → get_or (xs ++ 0 ∷ []) c 0 ≡ get_or xs c 0
index_more [] zero = refl
index_more [] (suc c) = refl
index_more (x ∷ xs) zero = refl
index_more (x ∷ xs) (suc c) = index_more xs c

pub owned_made : (o p : Ledger) (b : ℕ) (t : Elem) (names : List (ℕ × ℕ)) (live : List (ℕ × Elem)) → b ≡ length o.elems → ((q : ℕ) → found p.names q ≡ found o.names q) → p.elems ≡ o.elems ++ t ∷ []
    → p.counts ≡ o.counts ++ 0 ∷ [] → p.loose ≡ insert_key nat_cmp o.loose b → Owned o names live → Owned p names (live ++ (b, t) ∷ [])
owned_made o p b t names live at same_names elems counts loose w =
    let made : List (ℕ × Elem) = (b, t) ∷ [] in
    let longer : length p.elems ≡ length o.elems + 1 = ap length elems ∙ length-append o.elems (t ∷ []) in
    let even : length o.counts ≡ length o.elems = w.even in
    let none : names_for names b ≡ 0 = sym (w.counted b) ∙ get_or_past o.counts b 0 (omega arith) in
    let first : AllByRecursion (λ (base : ℕ × Elem). base.0 < b) live = subst (λ n. AllByRecursion (λ (base : ℕ × Elem). base.0 < n) live) (sym at) w.below in
    record {
      by_name = λ n. same_names n ∙ w.by_name n;
      counted = λ c. ap (λ xs. get_or xs c 0) counts ∙ index_more o.counts c ∙ w.counted c;
      loose = loose ∙ ap (λ ks. insert_key nat_cmp ks b) w.loose ∙ insert_last (keys (free_for names) live) b (keys_all (λ k. k < b) (free_for names) live first)
          ∙ ap (λ u. keys (free_for names) live ++ map (λ (base : ℕ × Elem). base.0) (cond u made [])) (sym (stands_none names b none))
          ∙ sym (map-append (λ (base : ℕ × Elem). base.0) (unnamed names live) (unnamed names made)) ∙ ap (map (λ (base : ℕ × Elem). base.0)) (sym (filter-append (λ (base : ℕ × Elem). free_for names base.0) live made));
      even = ap length counts ∙ length-append o.counts (0 ∷ []) ∙ omega arith;
      types = all_append (λ (base : ℕ × Elem). get_or p.elems base.0 U8 ≡ base.1) live made
          (all_two (λ (base : ℕ × Elem). base.0 < length o.elems) (λ (base : ℕ × Elem). get_or o.elems base.0 U8 ≡ base.1) (λ (base : ℕ × Elem). get_or p.elems base.0 U8 ≡ base.1)
          (λ base l e. ap (λ es. get_or es base.0 U8) elems ∙ get_or_append_left o.elems (t ∷ []) U8 base.0 l ∙ e) live w.below w.types)
          (ap₂ (λ es n. get_or es n U8) elems at ∙ get_or-append_seam o.elems t [] U8, tt);
      below = all_append (λ (base : ℕ × Elem). base.0 < length p.elems) live made
          (All_weaker (λ (base : ℕ × Elem). base.0 < length o.elems) (λ (base : ℕ × Elem). base.0 < length p.elems) (λ base l. omega arith) live w.below) (omega arith, tt);
      held = All_weaker (λ (name : ℕ × ℕ). lives live name.1 ≡ true) (λ (name : ℕ × ℕ). lives (live ++ made) name.1 ≡ true)
          (λ name l. list_any-append (λ (base : ℕ × Elem). base.0 == name.1) live made ∙ or_first (lives live name.1) _ l) names w.held;
      apart = w.apart;
      rising = rising_test (live ++ made) (pairs_more (λ (x y : ℕ × Elem). x.0 < y.0) live (b, t) (rising_of live w.rising) first);
    }

-- ---- a name stands for nothing

-- the base of a name is counted
pub named_count : (o : Ledger) (k b : ℕ) (names : List (ℕ × ℕ)) (live : List (ℕ × Elem)) → Owned o names live → found o.names k ≡ Some b
    → slice_index o.counts b ≡ suc (names_for (other_names k names) b)
named_count o k b names live w e =
    w.counted b ∙ names_for_other names k b (apart_of names w.apart) (sym (w.by_name k) ∙ e) b
    ∙ ap (λ t. cond t (suc (names_for (other_names k names) b)) (names_for (other_names k names) b)) (eq-eqb b b refl)

lives_below : (P : ℕ → Type 0) (live : List (ℕ × Elem)) (b : ℕ) → AllByRecursion (λ (base : ℕ × Elem). P base.0) live → lives live b ≡ true → P b
lives_below P [] b a h = absurd (false≢true h)
lives_below P (x ∷ xs) b a h = or_cases (x.0 == b) (lives xs b) h (λ e. subst P (eqb-true x.0 b e) a.0) (lives_below P xs b a.1)

pub live_below : (o : Ledger) (b : ℕ) (names : List (ℕ × ℕ)) (live : List (ℕ × Elem)) → Owned o names live → lives live b ≡ true → b < length o.elems
live_below o b names live w h = lives_below (λ c. c < length o.elems) live b w.below h

pub named_live : (o : Ledger) (k b : ℕ) (names : List (ℕ × ℕ)) (live : List (ℕ × Elem)) → Owned o names live → found o.names k ≡ Some b → lives live b ≡ true
named_live o k b names live w e = found_held (λ c. lives live c ≡ true) names k b (sym (w.by_name k) ∙ e) w.held

pub named_below : (o : Ledger) (k b : ℕ) (names : List (ℕ × ℕ)) (live : List (ℕ × Elem)) → Owned o names live → found o.names k ≡ Some b → b < length o.counts
named_below o k b names live w e =
    let l : b < length o.elems = live_below o b names live w (named_live o k b names live w e) in
    let even : length o.counts ≡ length o.elems = w.even in
    omega arith

pub owned_released : (o p : Ledger) (k b : ℕ) (names : List (ℕ × ℕ)) (live : List (ℕ × Elem)) → found o.names k ≡ Some b → ((q : ℕ) → found p.names q ≡ cond (k == q) None (found o.names q)) → p.elems ≡ o.elems
    → p.counts ≡ set o.counts b (slice_index o.counts b - 1) → p.loose ≡ cond (slice_index o.counts b == 1) (insert_key nat_cmp o.loose b) o.loose
    → Owned o names live → Owned p (other_names k names) live
owned_released o p k b names live bound same_names elems counts loose w =
    let others : List (ℕ × ℕ) = other_names k names in
    let count : slice_index o.counts b ≡ suc (names_for others b) = named_count o k b names live w bound in
    let other : (c : ℕ) → names_for names c ≡ cond (b == c) (suc (names_for others c)) (names_for others c) = names_for_other names k b (apart_of names w.apart) (sym (w.by_name k) ∙ bound) in
    let inside : b < length o.counts = named_below o k b names live w bound in
    let apart : (c : ℕ) → c ≢ b → names_for names c ≡ names_for others c =
    (λ c ne. other c ∙ ap (λ t. cond t (suc (names_for others c)) (names_for others c)) (ne_eqb b c (λ e. ne (sym e)))) in
    let was : free_for names b ≡ false = stands_some names b (names_for others b) (sym (w.counted b) ∙ count) in
    record {
      by_name = λ n. same_names n ∙ ap (λ x. cond (k == n) None x) (w.by_name n) ∙ sym (base_other names k n);
      counted = λ c. ap (λ xs. get_or xs c 0) counts
          ∙ elim (b == c) as (λ t. (b == c) ≡ t → get_or (set o.counts b (slice_index o.counts b - 1)) c 0 ≡ names_for others c) [
            | true ↦ λ e.
                let same : b ≡ c = eqb-true b c e in
                ap (λ d. get_or (set o.counts b (slice_index o.counts b - 1)) d 0) (sym same) ∙ get_or-set_same o.counts b (slice_index o.counts b - 1) 0 inside
                ∙ (let n : slice_index o.counts b - 1 ≡ names_for others b = omega arith in n) ∙ ap (names_for others) same
            | false ↦ λ e.
                get_or-set_other o.counts b c (slice_index o.counts b - 1) 0 (λ f. eqb-false b c e (sym f)) ∙ w.counted c ∙ apart c (λ f. eqb-false b c e (sym f))
          ] refl;
      loose = loose
          ∙ elim (slice_index o.counts b == 1) as (λ t. (slice_index o.counts b == 1) ≡ t → cond t (insert_key nat_cmp o.loose b) o.loose ≡ keys (free_for others) live) [
            | true ↦ λ e.
                let one : slice_index o.counts b ≡ 1 = eqb-true (slice_index o.counts b) 1 e in
                let none : names_for others b ≡ 0 = omega arith in
                ap (λ ks. insert_key nat_cmp ks b) w.loose
                ∙ sym (keys_more (free_for names) (free_for others) b was (stands_none others b none) (λ c ne. stands_same names others c (apart c ne)) live (rising_of live w.rising)
                (named_live o k b names live w bound))
            | false ↦ λ e.
                let more : slice_index o.counts b ≢ 1 = eqb-false (slice_index o.counts b) 1 e in
                w.loose
                ∙ sym (keys_alike (free_for names) (free_for others)
                (λ c. elim (b == c) as (λ t. (b == c) ≡ t → free_for names c ≡ free_for others c) [
                  | true ↦ λ f.
                      let same : b ≡ c = eqb-true b c f in
                      let n : names_for others b ≡ suc (names_for others b - 1) = omega arith in
                      ap (free_for names) (sym same) ∙ was ∙ sym (stands_some others b (names_for others b - 1) n) ∙ ap (free_for others) same
                  | false ↦ λ f. stands_same names others c (apart c (λ g. eqb-false b c f (sym g)))
                ] refl) live)
          ] refl;
      even = ap length counts ∙ length-set o.counts b (slice_index o.counts b - 1) ∙ w.even ∙ ap length (sym elems);
      types = subst (λ es. AllByRecursion (λ (base : ℕ × Elem). get_or es base.0 U8 ≡ base.1) live) (sym elems) w.types;
      below = subst (λ es. AllByRecursion (λ (base : ℕ × Elem). base.0 < length es) live) (sym elems) w.below;
      held = All_filter (λ (name : ℕ × ℕ). lives live name.1 ≡ true) (λ (name : ℕ × ℕ). not (name.0 == k)) names
          (All_weaker (λ (name : ℕ × ℕ). lives live name.1 ≡ true) (λ (name : ℕ × ℕ). not (name.0 == k) ≡ true → lives live name.1 ≡ true) (λ name l _. l) names w.held);
      apart = apart_test others (apart_other names k (apart_of names w.apart));
      rising = w.rising;
    }

-- it stood for nothing
pub owned_unbound : (o p : Ledger) (k : ℕ) (names : List (ℕ × ℕ)) (live : List (ℕ × Elem)) → found o.names k ≡ None → ((q : ℕ) → found p.names q ≡ cond (k == q) None (found o.names q)) → p.elems ≡ o.elems → p.counts ≡ o.counts → p.loose ≡ o.loose
    → Owned o names live → Owned p (other_names k names) live
owned_unbound o p k names live none same_names elems counts loose w =
    let same : other_names k names ≡ names = others_none names k (sym (w.by_name k) ∙ none) in
    subst (λ ns. Owned p ns live) (sym same)
    (record {
      by_name = λ n. same_names n
          ∙ elim (k == n) as (λ t. (k == n) ≡ t → cond t None (found o.names n) ≡ base_of names n) [
            | true ↦ λ e. sym none ∙ ap (found o.names) (eqb-true k n e) ∙ w.by_name n
            | false ↦ λ e. w.by_name n
          ] refl;
      counted = λ b. ap (λ xs. get_or xs b 0) counts ∙ w.counted b;
      loose = loose ∙ w.loose;
      even = ap length counts ∙ w.even ∙ ap length (sym elems);
      types = subst (λ es. AllByRecursion (λ (base : ℕ × Elem). get_or es base.0 U8 ≡ base.1) live) (sym elems) w.types;
      below = subst (λ es. AllByRecursion (λ (base : ℕ × Elem). base.0 < length es) live) (sym elems) w.below;
      held = w.held;
      apart = w.apart;
      rising = w.rising;
    })

-- ---- a name stands for a live base

pub owned_bound : (o p : Ledger) (k b : ℕ) (names : List (ℕ × ℕ)) (live : List (ℕ × Elem)) → lives live b ≡ true → ((q : ℕ) → found p.names q ≡ cond (k == q) (Some b) (found o.names q)) → p.elems ≡ o.elems
    → p.counts ≡ set o.counts b (slice_index o.counts b + 1) → p.loose ≡ remove_key (is_at (nat_cmp b)) o.loose
    → Owned o (other_names k names) live → Apart names → Owned p ((k, b) ∷ other_names k names) live
owned_bound o p k b names live alive same_names elems counts loose w apart =
    let others : List (ℕ × ℕ) = other_names k names in
    let now : List (ℕ × ℕ) = (k, b) ∷ others in
    let even : length o.counts ≡ length o.elems = w.even in
    let below : b < length o.elems = live_below o b others live w alive in
    let inside : b < length o.counts = omega arith in
    record {
      by_name = λ n. same_names n ∙ ap (λ x. cond (k == n) (Some b) x) (w.by_name n);
      counted = λ c. ap (λ xs. get_or xs c 0) counts
          ∙ elim (b == c) as (λ t. (b == c) ≡ t → get_or (set o.counts b (slice_index o.counts b + 1)) c 0 ≡ cond t (suc (names_for others c)) (names_for others c)) [
            | true ↦ λ e.
                let same : b ≡ c = eqb-true b c e in
                let count : slice_index o.counts b ≡ names_for others b = w.counted b in
                ap (λ d. get_or (set o.counts b (slice_index o.counts b + 1)) d 0) (sym same) ∙ get_or-set_same o.counts b (slice_index o.counts b + 1) 0 inside
                ∙ (let n : slice_index o.counts b + 1 ≡ suc (names_for others b) = omega arith in n) ∙ ap (λ d. suc (names_for others d)) same
            | false ↦ λ e. get_or-set_other o.counts b c (slice_index o.counts b + 1) 0 (λ f. eqb-false b c e (sym f)) ∙ w.counted c
          ] refl;
      loose = loose ∙ ap (remove_key (is_at (nat_cmp b))) w.loose
          ∙ sym (keys_less (free_for others) (free_for now) b (ap (λ t. not (t || stands others b)) (eq-eqb b b refl))
          (λ c ne. ap (λ t. not (t || stands others c)) (sym (ne_eqb b c (λ e. ne (sym e))))) live (rising_of live w.rising));
      even = ap length counts ∙ length-set o.counts b (slice_index o.counts b + 1) ∙ w.even ∙ ap length (sym elems);
      types = subst (λ es. AllByRecursion (λ (base : ℕ × Elem). get_or es base.0 U8 ≡ base.1) live) (sym elems) w.types;
      below = subst (λ es. AllByRecursion (λ (base : ℕ × Elem). base.0 < length es) live) (sym elems) w.below;
      held = (alive, w.held);
      apart = apart_test now (apart_first names k b apart);
      rising = w.rising;
    }

-- ---- the bases that no name stands for are freed

rest_named : (test : ℕ → Bool) (live : List (ℕ × Elem)) → [] ≡ keys (λ b. not (test b)) (filter (λ (base : ℕ × Elem). test base.0) live)
rest_named test [] = refl
rest_named test (x ∷ xs) =
    elim (test x.0) as (λ t. test x.0 ≡ t → [] ≡ keys (λ b. not (test b)) (cond t (x ∷ filter (λ (base : ℕ × Elem). test base.0) xs) (filter (λ (base : ℕ × Elem). test base.0) xs))) [
      | true ↦ λ e. rest_named test xs
          ∙ ap (λ t. map (λ (base : ℕ × Elem). base.0) (cond (not t) (x ∷ filter (λ (base : ℕ × Elem). not (test base.0)) (filter (λ (base : ℕ × Elem). test base.0) xs))
          (filter (λ (base : ℕ × Elem). not (test base.0)) (filter (λ (base : ℕ × Elem). test base.0) xs)))) (sym e)
      | false ↦ λ e. rest_named test xs
    ] refl

held_kept : (names all : List (ℕ × ℕ)) (live : List (ℕ × Elem)) → AllByRecursion (λ (name : ℕ × ℕ). stands all name.1 ≡ true) names → AllByRecursion (λ (name : ℕ × ℕ). lives live name.1 ≡ true) names
    → AllByRecursion (λ (name : ℕ × ℕ). lives (filter (is_named all) live) name.1 ≡ true) names
held_kept names all live =
    all_two (λ (name : ℕ × ℕ). stands all name.1 ≡ true) (λ (name : ℕ × ℕ). lives live name.1 ≡ true) (λ (name : ℕ × ℕ). lives (filter (is_named all) live) name.1 ≡ true)
    (λ name s l. lives_kept (stands all) live name.1 ∙ ap₂ (λ x y. x && y) l s) names

each_stands : (names : List (ℕ × ℕ)) → AllByRecursion (λ (name : ℕ × ℕ). stands names name.1 ≡ true) names
each_stands [] = tt
each_stands (x ∷ xs) = (
  or_first (x.1 == x.1) _ (eq-eqb x.1 x.1 refl),
  All_weaker (λ (name : ℕ × ℕ). stands xs name.1 ≡ true) (λ (name : ℕ × ℕ). stands (x ∷ xs) name.1 ≡ true) (λ name s. or_second (x.1 == name.1) _ s) xs (each_stands xs),
)

pub owned_freed : (o : Ledger) (names : List (ℕ × ℕ)) (live : List (ℕ × Elem)) → Owned o names live → Owned (record o { loose = [] }) names (filter (is_named names) live)
owned_freed o names live w =
    record {
      by_name = w.by_name;
      counted = w.counted;
      loose = rest_named (stands names) live;
      even = w.even;
      types = All_filter (λ (base : ℕ × Elem). get_or o.elems base.0 U8 ≡ base.1) (is_named names) live
          (All_weaker (λ (base : ℕ × Elem). get_or o.elems base.0 U8 ≡ base.1) (λ (base : ℕ × Elem). is_named names base ≡ true → get_or o.elems base.0 U8 ≡ base.1) (λ base t _. t) live w.types);
      below = All_filter (λ (base : ℕ × Elem). base.0 < length o.elems) (is_named names) live
          (All_weaker (λ (base : ℕ × Elem). base.0 < length o.elems) (λ (base : ℕ × Elem). is_named names base ≡ true → base.0 < length o.elems) (λ base t _. t) live w.below);
      held = held_kept names names live (each_stands names) w.held;
      apart = w.apart;
      rising = rising_test (filter (is_named names) live)
          (Pairs_filter (λ (x y : ℕ × Elem). x.0 < y.0) (is_named names) live
          (Pairs_weaker (λ (x y : ℕ × Elem). x.0 < y.0) (λ (x y : ℕ × Elem). is_named names x ≡ true → is_named names y ≡ true → x.0 < y.0) (λ x y t _ _. t) live (rising_of live w.rising)));
    }

types_again : (elems : List Elem) (live : List (ℕ × Elem)) → AllByRecursion (λ (base : ℕ × Elem). get_or elems base.0 U8 ≡ base.1) live → with_types elems (map (λ (base : ℕ × Elem). base.0) live) ≡ live
types_again elems [] h = refl
types_again elems (x ∷ xs) h = ap₂ (λ t bs. (x.0, t) ∷ bs) h.0 (types_again elems xs h.1)

-- the loose bases with their types
pub loose_typed : (o : Ledger) (names : List (ℕ × ℕ)) (live : List (ℕ × Elem)) → Owned o names live → with_types o.elems o.loose ≡ unnamed names live
loose_typed o names live w =
    ap (with_types o.elems) w.loose
    ∙ types_again o.elems (unnamed names live)
    (All_filter (λ (base : ℕ × Elem). get_or o.elems base.0 U8 ≡ base.1) (λ (base : ℕ × Elem). not (is_named names base)) live
    (All_weaker (λ (base : ℕ × Elem). get_or o.elems base.0 U8 ≡ base.1) (λ (base : ℕ × Elem). not (is_named names base) ≡ true → get_or o.elems base.0 U8 ≡ base.1) (λ base t _. t) live w.types))

pub loose_below : (o : Ledger) (names : List (ℕ × ℕ)) (live : List (ℕ × Elem)) → Owned o names live → AllByRecursion (λ b. b < length o.elems) o.loose
loose_below o names live w = subst (λ ks. AllByRecursion (λ b. b < length o.elems) ks) (sym w.loose) (keys_all (λ b. b < length o.elems) (free_for names) live w.below)

pub owned_none : (o : Ledger) → ((n : ℕ) → found o.names n ≡ None) → o.elems ≡ [] → o.counts ≡ [] → o.loose ≡ [] → Owned o [] []
owned_none o names elems counts loose =
    record {
      by_name = names;
      counted = λ b. ap (λ xs. get_or xs b 0) counts;
      loose = loose;
      even = ap length counts ∙ ap length (sym elems);
      types = tt;
      below = tt;
      held = tt;
      apart = refl;
      rising = refl;
    }

-- ---- what calls on the map and the counts say

pub none_found : (r : Option ℕ) → ((x : ℕ) → r ≡ Some x → ⊥) → r ≡ None
none_found None h = refl
none_found (Some x) h = absurd (h x refl)

pub updated : (m n : List (ℕ × ℕ)) (k : ℕ) (w : Option ℕ) → ((q : ℕ) → found n q ≡ cond (is_at (nat_cmp k) q) w (found m q)) → (q : ℕ) → found n q ≡ cond (k == q) w (found m q)
updated m n k w h q = h q ∙ ap (λ t. cond t w (found m q)) (is_at_same k q)

-- ---- all names are let go

-- the names without those of a list
abbrev pub without : List ℕ → List (ℕ × ℕ) → List (ℕ × ℕ)
without [] names = names
without (k ∷ ks) names = without ks (other_names k names)

pub without_more : (ks : List ℕ) (k : ℕ) (names : List (ℕ × ℕ)) → without (ks ++ k ∷ []) names ≡ other_names k (without ks names)
without_more [] k names = refl
without_more (j ∷ ks) k names = without_more ks k (other_names j names)

without_all : (ks : List ℕ) (names : List (ℕ × ℕ)) → AllByRecursion (λ (name : ℕ × ℕ). has ks name.0 ≡ true) names → without ks names ≡ []
without_all [] [] h = refl
without_all [] (x ∷ xs) h = absurd (false≢true h.0)
without_all (k ∷ ks) names h =
    without_all ks (other_names k names)
    (All_filter (λ (name : ℕ × ℕ). has ks name.0 ≡ true) (λ (name : ℕ × ℕ). not (name.0 == k)) names
    (All_weaker (λ (name : ℕ × ℕ). has (k ∷ ks) name.0 ≡ true) (λ (name : ℕ × ℕ). not (name.0 == k) ≡ true → has ks name.0 ≡ true)
    (λ name t ne. or_cases (name.0 == k) (has ks name.0) t (λ e. absurd (false≢true (ap not (sym e) ∙ ne))) (λ u. u)) names h))

-- each name is found
each_found : (names : List (ℕ × ℕ)) → AllByRecursion (λ (name : ℕ × ℕ). is_some (base_of names name.0) ≡ true) names
each_found [] = tt
each_found (x ∷ xs) = (
  ap (λ t. is_some (cond t (Some x.1) (base_of xs x.0))) (eq-eqb x.0 x.0 refl),
  All_weaker (λ (name : ℕ × ℕ). is_some (base_of xs name.0) ≡ true) (λ (name : ℕ × ℕ). is_some (base_of (x ∷ xs) name.0) ≡ true)
      (λ name t. elim (x.0 == name.0) as (λ u. is_some (cond u (Some x.1) (base_of xs name.0)) ≡ true) [ true ↦ refl | false ↦ t ]) xs (each_found xs),
)

found_key : (entries : List (ℕ × ℕ)) (n : ℕ) → is_some (found entries n) ≡ true → has (map (λ (e : ℕ × ℕ). e.0) entries) n ≡ true
found_key [] n h = absurd (false≢true h)
found_key (x ∷ xs) n h =
    elim (n == x.0) as (λ t. (n == x.0) ≡ t → (t || has (map (λ (e : ℕ × ℕ). e.0) xs) n) ≡ true) [
      | true ↦ λ e. refl
      | false ↦ λ e. found_key xs n (ap (λ t. is_some (cond t (Some x.1) (found xs n))) (sym (is_at_same n x.0 ∙ e)) ∙ h)
    ] refl

-- without the keys of the map no name is left
pub none_left : (o p : Ledger) (names : List (ℕ × ℕ)) (live : List (ℕ × Elem)) → Owned o names live → Owned p (without (map (λ (e : ℕ × ℕ). e.0) o.names) names) live → Owned p [] live
none_left o p names live w =
    subst (λ ns. Owned p ns live)
    (without_all (map (λ (e : ℕ × ℕ). e.0) o.names) names
    (All_weaker (λ (name : ℕ × ℕ). is_some (base_of names name.0) ≡ true) (λ (name : ℕ × ℕ). has (map (λ (e : ℕ × ℕ). e.0) o.names) name.0 ≡ true)
    (λ name t. found_key o.names name.0 (ap is_some (w.by_name name.0) ∙ t)) names (each_found names)))
