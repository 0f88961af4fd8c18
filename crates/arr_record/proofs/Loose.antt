-- The ascending numbers of the live bases that pass a test, where the test changes at one base.
use Rattle.std.proofs.Common.{◌≡◌, ◌≢◌, ℕ, ◌<◌, List, [], ◌∷◌, ◌++◌, Bool, true, false, cond, refl, ap, ap₂, sym, subst, ◌∙◌, arith, map}
use Rattle.std.proofs.lemmas.Bool.{false≢true, eqb-true, eqb-false, eq-eqb, ne_eqb, ltb-true}
use Rattle.std.specs.Prelude.{◌==◌, nat_lt}
use Rattle.std.specs.List.{AllByRecursion, filter}
use Rattle.std.specs.Ordering.{nat_cmp, is_eq, match_ordering}
use Rattle.std.specs.declared.cmp.Ordering.TheVariants.{Less, Equal, Greater}
use Rattle.std.specs.Cmp.{nat_cmp_is}
use Rattle.std.specs.BTreeMap.{is_at}
use Rattle.std.specs.BTreeSet.{insert_key}
use Rattle.std.specs.Set.{remove_key}
use Rattle.arr_num.specs.declared.elem.Elem.{Elem}
use Rattle.arr_ops.proofs.Pairs.{Pairs, All_weaker, All_filter}
use Rattle.arr_ops.proofs.Tests.{or_cases}
use Rattle.arr_ops.proofs.FitsLaw.{all_map}
use Rattle.arr_record.specs.Ledger.{lives}

abbrev pub Rising : List (ℕ × Elem) → Type 0
Rising live = Pairs (λ (x y : ℕ × Elem). x.0 < y.0) live

abbrev pub keys : (ℕ → Bool) → List (ℕ × Elem) → List ℕ
keys p live = map (λ (base : ℕ × Elem). base.0) (filter (λ (base : ℕ × Elem). p base.0) live)

pub is_at_same : (a b : ℕ) → is_at (nat_cmp a) b ≡ (a == b)
is_at_same a b =
    elim (nat_lt a b) as (λ t. nat_lt a b ≡ t → is_eq (cond t Less (cond (a == b) Equal Greater)) ≡ (a == b)) [
      | true ↦ λ e. sym (ne_eqb a b (λ f. let l : a < b = ltb-true a b e in absurd (omega arith)))
      | false ↦ λ e. elim (a == b) as (λ t. is_eq (cond t Equal Greater) ≡ t) [ true ↦ refl | false ↦ refl ]
    ] refl

-- ---- lists of numbers

insert_first : (ks : List ℕ) (b : ℕ) → AllByRecursion (λ k. b < k) ks → insert_key nat_cmp ks b ≡ b ∷ ks
insert_first [] b h = refl
insert_first (k ∷ ks) b h = ap (λ o. match_ordering o (b ∷ k ∷ ks) (k ∷ ks) (k ∷ insert_key nat_cmp ks b)) (sym (nat_cmp_is b k Less h.0))

insert_later : (k : ℕ) (ks : List ℕ) (b : ℕ) → k < b → insert_key nat_cmp (k ∷ ks) b ≡ k ∷ insert_key nat_cmp ks b
insert_later k ks b h = ap (λ o. match_ordering o (b ∷ k ∷ ks) (k ∷ ks) (k ∷ insert_key nat_cmp ks b)) (sym (nat_cmp_is b k Greater h))

pub insert_last : (ks : List ℕ) (b : ℕ) → AllByRecursion (λ k. k < b) ks → insert_key nat_cmp ks b ≡ ks ++ b ∷ []
insert_last [] b h = refl
insert_last (k ∷ ks) b h = insert_later k ks b h.0 ∙ ap (λ ls. k ∷ ls) (insert_last ks b h.1)

remove_none : (ks : List ℕ) (b : ℕ) → AllByRecursion (λ k. b < k) ks → remove_key (is_at (nat_cmp b)) ks ≡ ks
remove_none [] b h = refl
remove_none (k ∷ ks) b h =
    ap (λ t. cond t ks (k ∷ remove_key (is_at (nat_cmp b)) ks)) (is_at_same b k ∙ ne_eqb b k (λ e. let l : b < k = h.0 in absurd (omega arith)))
    ∙ ap (λ ls. k ∷ ls) (remove_none ks b h.1)

-- ---- bases

lives_all : (P : ℕ → Type 0) (live : List (ℕ × Elem)) (b : ℕ) → AllByRecursion (λ (base : ℕ × Elem). P base.0) live → lives live b ≡ true → P b
lives_all P [] b a h = absurd (false≢true h)
lives_all P (x ∷ xs) b a h = or_cases (x.0 == b) (lives xs b) h (λ e. subst P (eqb-true x.0 b e) a.0) (lives_all P xs b a.1)

pub keys_all : (P : ℕ → Type 0) (p : ℕ → Bool) (live : List (ℕ × Elem)) → AllByRecursion (λ (base : ℕ × Elem). P base.0) live → AllByRecursion P (keys p live)
keys_all P p live a =
    all_map P (λ (base : ℕ × Elem). base.0) (filter (λ (base : ℕ × Elem). p base.0) live)
    (All_filter (λ (base : ℕ × Elem). P base.0) (λ (base : ℕ × Elem). p base.0) live (All_weaker (λ (base : ℕ × Elem). P base.0) (λ (base : ℕ × Elem). p base.0 ≡ true → P base.0) (λ base h _. h) live a))

-- two tests that agree above a base
keys_above : (p q : ℕ → Bool) (b : ℕ) → ((c : ℕ) → c ≢ b → p c ≡ q c) → (live : List (ℕ × Elem)) → AllByRecursion (λ (base : ℕ × Elem). b < base.0) live → keys q live ≡ keys p live
keys_above p q b h [] a = refl
keys_above p q b h (x ∷ xs) a =
    let l : b < x.0 = a.0 in
    let rest : keys q xs ≡ keys p xs = keys_above p q b h xs a.1 in
    ap (λ t. map (λ (base : ℕ × Elem). base.0) (cond t (x ∷ filter (λ (base : ℕ × Elem). q base.0) xs) (filter (λ (base : ℕ × Elem). q base.0) xs))) (sym (h x.0 (λ e. absurd (omega arith))))
    ∙ elim (p x.0) as (λ t. map (λ (base : ℕ × Elem). base.0) (cond t (x ∷ filter (λ (base : ℕ × Elem). q base.0) xs) (filter (λ (base : ℕ × Elem). q base.0) xs))
    ≡ map (λ (base : ℕ × Elem). base.0) (cond t (x ∷ filter (λ (base : ℕ × Elem). p base.0) xs) (filter (λ (base : ℕ × Elem). p base.0) xs))) [ true ↦ ap (λ ks. x.0 ∷ ks) rest | false ↦ rest ]

pub keys_alike : (p q : ℕ → Bool) → ((c : ℕ) → p c ≡ q c) → (live : List (ℕ × Elem)) → keys q live ≡ keys p live
keys_alike p q h live = let same : q ≡ p = (λ i c. sym (h c) i) in ap (λ t. keys t live) same

-- a base that now passes
pub keys_more : (p q : ℕ → Bool) (b : ℕ) → p b ≡ false → q b ≡ true → ((c : ℕ) → c ≢ b → p c ≡ q c) → (live : List (ℕ × Elem)) → Rising live → lives live b ≡ true
    → keys q live ≡ insert_key nat_cmp (keys p live) b
keys_more p q b hp hq h [] r l = absurd (false≢true l)
keys_more p q b hp hq h (x ∷ xs) r l =
    elim (x.0 == b) as (λ t. (x.0 == b) ≡ t → keys q (x ∷ xs) ≡ insert_key nat_cmp (keys p (x ∷ xs)) b) [
      | true ↦ λ e.
          let same : x.0 ≡ b = eqb-true x.0 b e in
          let above : AllByRecursion (λ (base : ℕ × Elem). b < base.0) xs = subst (λ c. AllByRecursion (λ (base : ℕ × Elem). c < base.0) xs) same r.0 in
          ap (λ t. map (λ (base : ℕ × Elem). base.0) (cond t (x ∷ filter (λ (base : ℕ × Elem). q base.0) xs) (filter (λ (base : ℕ × Elem). q base.0) xs))) (ap q same ∙ hq)
          ∙ ap₂ (λ k ks. k ∷ ks) same (keys_above p q b h xs above)
          ∙ sym (insert_first (keys p xs) b (keys_all (λ k. b < k) p xs above))
          ∙ ap (λ t. insert_key nat_cmp (map (λ (base : ℕ × Elem). base.0) (cond t (x ∷ filter (λ (base : ℕ × Elem). p base.0) xs) (filter (λ (base : ℕ × Elem). p base.0) xs))) b) (sym (ap p same ∙ hp))
      | false ↦ λ e.
          let later : lives xs b ≡ true = or_cases (x.0 == b) (lives xs b) l (λ t. absurd (false≢true (sym e ∙ t))) (λ t. t) in
          let less : x.0 < b = lives_all (λ k. x.0 < k) xs b r.0 later in
          let rest : keys q xs ≡ insert_key nat_cmp (keys p xs) b = keys_more p q b hp hq h xs r.1 later in
          ap (λ t. map (λ (base : ℕ × Elem). base.0) (cond t (x ∷ filter (λ (base : ℕ × Elem). q base.0) xs) (filter (λ (base : ℕ × Elem). q base.0) xs))) (sym (h x.0 (eqb-false x.0 b e)))
          ∙ elim (p x.0) as (λ t. map (λ (base : ℕ × Elem). base.0) (cond t (x ∷ filter (λ (base : ℕ × Elem). q base.0) xs) (filter (λ (base : ℕ × Elem). q base.0) xs))
          ≡ insert_key nat_cmp (map (λ (base : ℕ × Elem). base.0) (cond t (x ∷ filter (λ (base : ℕ × Elem). p base.0) xs) (filter (λ (base : ℕ × Elem). p base.0) xs))) b) [
            | true ↦ ap (λ ks. x.0 ∷ ks) rest ∙ sym (insert_later x.0 (keys p xs) b less)
            | false ↦ rest
          ]
    ] refl

-- a base that passes no more
pub keys_less : (p q : ℕ → Bool) (b : ℕ) → q b ≡ false → ((c : ℕ) → c ≢ b → p c ≡ q c) → (live : List (ℕ × Elem)) → Rising live
    → keys q live ≡ remove_key (is_at (nat_cmp b)) (keys p live)
keys_less p q b hq h [] r = refl
keys_less p q b hq h (x ∷ xs) r =
    elim (x.0 == b) as (λ t. (x.0 == b) ≡ t → keys q (x ∷ xs) ≡ remove_key (is_at (nat_cmp b)) (keys p (x ∷ xs))) [
      | true ↦ λ e.
          let same : x.0 ≡ b = eqb-true x.0 b e in
          let above : AllByRecursion (λ (base : ℕ × Elem). b < base.0) xs = subst (λ c. AllByRecursion (λ (base : ℕ × Elem). c < base.0) xs) same r.0 in
          ap (λ t. map (λ (base : ℕ × Elem). base.0) (cond t (x ∷ filter (λ (base : ℕ × Elem). q base.0) xs) (filter (λ (base : ℕ × Elem). q base.0) xs))) (ap q same ∙ hq)
          ∙ keys_above p q b h xs above
          ∙ elim (p x.0) as (λ t. keys p xs ≡ remove_key (is_at (nat_cmp b)) (map (λ (base : ℕ × Elem). base.0) (cond t (x ∷ filter (λ (base : ℕ × Elem). p base.0) xs) (filter (λ (base : ℕ × Elem). p base.0) xs)))) [
            | true ↦ ap (λ t. cond t (keys p xs) (x.0 ∷ remove_key (is_at (nat_cmp b)) (keys p xs))) (sym (is_at_same b x.0 ∙ eq-eqb b x.0 (sym same)))
            | false ↦ sym (remove_none (keys p xs) b (keys_all (λ k. b < k) p xs above))
          ]
      | false ↦ λ e.
          let rest : keys q xs ≡ remove_key (is_at (nat_cmp b)) (keys p xs) = keys_less p q b hq h xs r.1 in
          ap (λ t. map (λ (base : ℕ × Elem). base.0) (cond t (x ∷ filter (λ (base : ℕ × Elem). q base.0) xs) (filter (λ (base : ℕ × Elem). q base.0) xs))) (sym (h x.0 (eqb-false x.0 b e)))
          ∙ elim (p x.0) as (λ t. map (λ (base : ℕ × Elem). base.0) (cond t (x ∷ filter (λ (base : ℕ × Elem). q base.0) xs) (filter (λ (base : ℕ × Elem). q base.0) xs))
          ≡ remove_key (is_at (nat_cmp b)) (map (λ (base : ℕ × Elem). base.0) (cond t (x ∷ filter (λ (base : ℕ × Elem). p base.0) xs) (filter (λ (base : ℕ × Elem). p base.0) xs)))) [
            | true ↦ ap (λ ks. x.0 ∷ ks) rest
                ∙ ap (λ t. cond t (keys p xs) (x.0 ∷ remove_key (is_at (nat_cmp b)) (keys p xs))) (sym (is_at_same b x.0 ∙ ne_eqb b x.0 (λ f. eqb-false x.0 b e (sym f))))
            | false ↦ rest
          ]
    ] refl
