-- Picking members one after another.
use Rattle.std.proofs.Common.{◌≡◌, ℕ, ◌+◌, ◌-◌, ◌/◌, ◌<◌, ◌≤◌, List, [], ◌∷◌, ◌++◌, Bool, true, false, not, ◌&&◌, ◌||◌, ◌⊎◌, inl, inr, Option, Some, None, length, refl, ap, sym, ◌∙◌, subst, arith, ⊎_elim, length-append}
use Rattle.std.specs.Prelude.{◌==◌, nat_lt, MatchOption}
use Rattle.std.specs.List.{list_all}
use Rattle.std.proofs.lemmas.Bool.{and_parts, and_from, or_left, or_right, cases_eq, cases_lt, eqb-true, eq-eqb, ne_eqb, false≢true, true≢false, lt-ltb, not-true, false_from_ne_true}
use Rattle.std.proofs.lemmas.List.Folds.{list_any-append}
use Rattle.arr_ops.specs.Formed.{all_pairs}
use Rattle.arr_ops.proofs.Tests.{or_cases}
use Rattle.arr_sets.specs.Bits.{is_set}
use Rattle.arr_view.specs.Views.{has}
use Rattle.arr_bound.specs.Sets.{in_row, IsTable, IsFirst, NoneFrom}
use Rattle.arr_bound.specs.Picks.{is_covered, Picking, HasTwo, IsPick, IsLead, IsNext}

-- how far a number is from the most that stands in a set
abbrev pub left : Option ℕ → ℕ
left None = 0
left (Some f) = 320 - f

by_bool : {P : Type 0} (b : Bool) → (b ≡ true → P) → (b ≡ false → P) → P
by_bool true t f = t refl
by_bool false t f = f refl

all_last : (t : ℕ → Bool) (xs : List ℕ) (y : ℕ) → list_all t xs ≡ true → t y ≡ true → list_all t (xs ++ y ∷ []) ≡ true
all_last t [] y a b = and_from (t y) true b refl
all_last t (x ∷ xs) y a b = let h = and_parts (t x) (list_all t xs) a in and_from (t x) _ h.0 (all_last t xs y h.1 b)

pairs_last : (t : ℕ → ℕ → Bool) (xs : List ℕ) (y : ℕ) → all_pairs t xs ≡ true → ((x : ℕ) → has xs x ≡ true → t x y ≡ true) → all_pairs t (xs ++ y ∷ []) ≡ true
pairs_last t [] y a b = refl
pairs_last t (x ∷ xs) y a b =
    let h = and_parts (list_all (t x) xs) (all_pairs t xs) a in
    and_from (list_all (t x) (xs ++ y ∷ [])) _ (all_last (t x) xs y h.0 (b x (or_left (x == x) (has xs x) (eq-eqb x x refl))))
    (pairs_last t xs y h.1 (λ z k. b z (or_right (z == x) (has xs z) k)))

has_last : (xs : List ℕ) (y x : ℕ) → has (xs ++ y ∷ []) x ≡ true → (has xs x ≡ true) ⊎ (x ≡ y)
has_last xs y x e =
    or_cases (has xs x) (has (y ∷ []) x) (sym (list_any-append (λ z. x == z) xs (y ∷ [])) ∙ e) (λ h. inl h)
    (λ h. or_cases (x == y) false h (λ k. inr (eqb-true x y k)) (λ k. absurd (false≢true k)))

pub has_more : (xs : List ℕ) (y x : ℕ) → has xs x ≡ true → has (xs ++ y ∷ []) x ≡ true
has_more xs y x e = list_any-append (λ z. x == z) xs (y ∷ []) ∙ or_left (has xs x) (has (y ∷ []) x) e

pub none_picked : (apart : ℕ → ℕ → Bool) (set picks : List ℕ) → picks ≡ [] → Picking apart (is_set set) set picks
none_picked apart set picks e =
    subst (Picking apart (is_set set) set) (sym e) (record {
      inside = λ g h. h;
      away = λ g x s h. absurd (false≢true h);
      later = λ g x s h. absurd (false≢true h);
      room = λ g s. omega arith;
      few = omega arith;
      from = λ x h. absurd (false≢true h);
      ascending = refl;
      pairwise = refl;
      covered = λ g h. inl h;
    })

-- what the set is once a member is picked
abbrev pub Leaves : (ℕ → ℕ → Bool) → List ℕ → ℕ → List ℕ → Type 0
Leaves apart set f next = (g : ℕ) → is_set next g ≡ ((is_set set g && apart f g) && not (f == g))

module _ (apart : ℕ → ℕ → Bool) (set next : List ℕ) (f : ℕ) (leaves : Leaves apart set f next) where
  pub parts : (g : ℕ) → is_set next g ≡ true → (is_set set g ≡ true) × (apart f g ≡ true) × (f ≡ g → ⊥)
  parts g e =
      let h = and_parts (is_set set g && apart f g) (not (f == g)) (sym (leaves g) ∙ e) in
      let k = and_parts (is_set set g) (apart f g) h.0 in
      (k.0, k.1, λ same. true≢false (sym (eq-eqb f g same) ∙ not-true _ h.1))

  pub all_behind : ((g : ℕ) → is_set set g ≡ true → g < f → apart f g ≡ false) → (g : ℕ) → is_set next g ≡ true → f < g
  all_behind lead g h =
      ⊎_elim (λ (l : g < f). absurd (false≢true (sym (lead g (parts g h).0 l) ∙ (parts g h).1)))
      (λ (l : f ≤ g). let ne : f ≡ g → ⊥ = (parts g h).2 in ⊎_elim (λ (l : f < g). l) (λ (k : g ≤ f). absurd (ne (omega arith))) (cases_lt f g)) (cases_lt g f)

  -- the first of the set has none before it
  pub first_alone : IsFirst set 0 f → (g : ℕ) → is_set set g ≡ true → g < f → apart f g ≡ false
  first_alone first g h l = absurd (false≢true (sym (first.none g (omega arith) l) ∙ h))

  pub one_picked : (members : ℕ → Bool) (picks now : List ℕ) → Picking apart members set picks → is_set set f ≡ true → f < 320
      → ((g : ℕ) → is_set set g ≡ true → g < f → apart f g ≡ false) → now ≡ picks ++ f ∷ [] → Picking apart members next now
  one_picked members picks now p here small lead e =
      subst (Picking apart members next) (sym e) (record {
        inside = λ g h. p.inside g (parts g h).0;
        away = λ g x h k. ⊎_elim (λ old. p.away g x (parts g h).0 old) (λ (same : x ≡ f). subst (λ y. apart y g ≡ true) (sym same) (parts g h).1) (has_last picks f x k);
        later = λ g x h k. ⊎_elim (λ old. p.later g x (parts g h).0 old) (λ (same : x ≡ f). let l : f < g = behind g h in omega arith) (has_last picks f x k);
        room = λ g h. omega (arith, p.room f here, behind g h, length-append picks (f ∷ []));
        few = omega (arith, p.room f here, small, length-append picks (f ∷ []));
        from = λ x k. ⊎_elim (λ old. p.from x old) (λ (same : x ≡ f). subst (λ y. members y ≡ true) (sym same) (p.inside f here)) (has_last picks f x k);
        ascending = pairs_last nat_lt picks f p.ascending (λ x h. lt-ltb x f (p.later f x here h));
        pairwise = pairs_last apart picks f p.pairwise (λ x h. p.away f x here h);
        covered = λ g h. ⊎_elim (λ s. still g s) (λ c. inr (list_any-append (λ x. (g == x) || not (apart x g)) picks (f ∷ []) ∙ or_left (is_covered apart picks g) _ c)) (p.covered g h);
      })
    where
      behind : (g : ℕ) → is_set next g ≡ true → f < g
      behind g h = all_behind lead g h

      now_covered : (g : ℕ) → ((g == f) || not (apart f g)) ≡ true → is_covered apart (picks ++ f ∷ []) g ≡ true
      now_covered g c =
          list_any-append (λ x. (g == x) || not (apart x g)) picks (f ∷ [])
          ∙ or_right (is_covered apart picks g) (is_covered apart (f ∷ []) g) (or_left ((g == f) || not (apart f g)) false c)

      still : (g : ℕ) → is_set set g ≡ true → (is_set next g ≡ true) ⊎ (is_covered apart (picks ++ f ∷ []) g ≡ true)
      still g s =
          ⊎_elim (λ (same : g ≡ f). inr (now_covered g (or_left (g == f) _ (eq-eqb g f same))))
          (λ (ne : g ≡ f → ⊥). by_bool (apart f g)
          (λ a. inl (leaves g ∙ and_from (is_set set g && apart f g) (not (f == g)) (and_from (is_set set g) (apart f g) s a) (ap not (ne_eqb f g (λ e. ne (sym e))))))
          (λ a. inr (now_covered g (or_right (g == f) _ (ap not a)))))
          (cases_eq g f)

pub two_more : (apart : ℕ → ℕ → Bool) (members : ℕ → Bool) (picks now : List ℕ) (f : ℕ) → now ≡ picks ++ f ∷ [] → HasTwo apart members picks → HasTwo apart members now
two_more apart members picks now f e two =
    subst (HasTwo apart members) (sym e)
    (⊎_elim (λ none. inl none) (λ (some : (x : ℕ) × (p : ℕ) × (has picks x ≡ true) × (members p ≡ true) × (apart x p ≡ true)). inr (some.0, some.1, has_more picks f some.0 some.2, some.3, some.4)) two)

pub two_first : (apart : ℕ → ℕ → Bool) (set picks now : List ℕ) (m : ℕ) → IsLead apart set m → picks ≡ [] → now ≡ picks ++ m ∷ [] → HasTwo apart (is_set set) now
two_first apart set picks now m lead none e =
    subst (HasTwo apart (is_set set)) (sym (e ∙ ap (λ ps. ps ++ m ∷ []) none))
    (⊎_elim (λ none. inl none) (λ (some : (p : ℕ) × (is_set set p ≡ true) × (apart m p ≡ true)). inr (m, some.0, or_left (m == m) false (eq-eqb m m refl), some.1, some.2)) lead.two)

pub all_picked : (apart : ℕ → ℕ → Bool) (members : ℕ → Bool) (set picks : List ℕ) → Picking apart members set picks → HasTwo apart members picks → NoneFrom set 0 → IsPick apart members picks
all_picked apart members set picks p two none =
    record {
      few = p.few;
      from = p.from;
      ascending = p.ascending;
      pairwise = p.pairwise;
      covered = λ g h. ⊎_elim (λ s. absurd (false≢true (sym (none.none g (omega arith)) ∙ s))) (λ c. c) (p.covered g h);
      two = two;
    }

pub nothing_picked : (apart : ℕ → ℕ → Bool) (set picks : List ℕ) → picks ≡ [] → NoneFrom set 0 → IsPick apart (is_set set) picks
nothing_picked apart set picks e none =
    all_picked apart (is_set set) set picks (none_picked apart set picks e) (inl (λ f g h k. absurd (false≢true (sym (none.none f (omega arith)) ∙ h)))) none

-- ---- the next number, where none stands before the last one

pub next_none : (set : List ℕ) (f : ℕ) → ((g : ℕ) → g < f → is_set set g ≡ false) → NoneFrom set (f / 64) → NoneFrom set 0
next_none set f before none =
    record { none = λ g z. ⊎_elim (λ (l : g < f). before g l) (λ (l : f ≤ g). none.none g (omega arith)) (cases_lt g f) }

pub next_first : (set : List ℕ) (f g : ℕ) → ((h : ℕ) → h < f → is_set set h ≡ false) → IsFirst set (f / 64) g → IsFirst set 0 g
next_first set f g before first =
    record { within = first.within; here = first.here; none = λ h z l. ⊎_elim (λ (k : h < f). before h k) (λ (k : f ≤ h). first.none h (omega arith) l) (cases_lt h f) }

-- ---- what is left to look at

-- each member stands behind f
abbrev pub AllBehind : ℕ → List ℕ → Type 0
AllBehind f set = (g : ℕ) → is_set set g ≡ true → f < g

pub behind_none : (f : ℕ) (set : List ℕ) → AllBehind f set → (g : ℕ) → g < f → is_set set g ≡ false
behind_none f set behind g l = false_from_ne_true (is_set set g) (λ e. absurd (let k = behind g e in omega arith))

pub as_next : (set : List ℕ) (o : Option ℕ) → MatchOption o (NoneFrom set 0) (λ f. IsFirst set 0 f) → IsNext set o
as_next set None h = h
as_next set (Some f) h = h

pub next_behind : (set : List ℕ) (f : ℕ) (o : Option ℕ) → AllBehind f set → MatchOption o (NoneFrom set (f / 64)) (λ g. IsFirst set (f / 64) g) → IsNext set o
next_behind set f None behind h = next_none set f (behind_none f set behind) h
next_behind set f (Some g) behind h = next_first set f g (behind_none f set behind) h

pub less_left : (set : List ℕ) (f : ℕ) (o p : Option ℕ) → AllBehind f set → IsNext set o → p ≡ Some f → f < 320 → left o < left p
less_left set f o p behind next is small = subst (λ q. left o < left q) (sym is) (go o next)
  where
    go : (o : Option ℕ) → IsNext set o → left o < left (Some f)
    go None next = omega arith
    go (Some g) next = omega (arith, behind g next.here)

pub next_is : (set : List ℕ) (o : Option ℕ) (f : ℕ) → o ≡ Some f → IsNext set o → IsFirst set 0 f
next_is set o f e next = subst (IsNext set) e next

pub next_ends : (set : List ℕ) (o : Option ℕ) → ((f : ℕ) → o ≡ Some f → ⊥) → IsNext set o → NoneFrom set 0
next_ends set None ends next = next
next_ends set (Some f) ends next = absurd (ends f refl)

pub taken_behind : (rest next : List ℕ) (f : ℕ) → IsFirst rest 0 f → ((g : ℕ) → is_set next g ≡ (is_set rest g && not (f == g))) → AllBehind f next
taken_behind rest next f first out g e =
    let h = and_parts (is_set rest g) (not (f == g)) (sym (out g) ∙ e) in
    ⊎_elim (λ (l : f < g). l)
    (λ (l : g ≤ f). ⊎_elim (λ (k : g < f). absurd (false≢true (sym (first.none g (omega arith) k) ∙ h.0)))
    (λ (k : f ≤ g). absurd (true≢false (sym (eq-eqb f g (omega arith)) ∙ not-true _ h.1))) (cases_lt g f)) (cases_lt f g)

-- ---- the member to begin with

-- the rest holds those that are still to be looked at; those before are apart from no member
pub record Looking (apart : ℕ → ℕ → Bool) (set rest : List ℕ) : Type 0 where
  pub long : length rest ≡ length set
  pub inside : (g : ℕ) → is_set rest g ≡ true → is_set set g ≡ true
  pub quiet : (g : ℕ) → is_set set g ≡ true → (is_set rest g ≡ true) ⊎ ((p : ℕ) → is_set set p ≡ true → apart g p ≡ false)

pub looking_none : (apart : ℕ → ℕ → Bool) (set rest : List ℕ) → rest ≡ set → Looking apart set rest
looking_none apart set rest e = subst (Looking apart set) (sym e) (record { long = refl; inside = λ g h. h; quiet = λ g h. inl h })

pub looked : (apart : ℕ → ℕ → Bool) (set rest next : List ℕ) (f : ℕ) → Looking apart set rest → length next ≡ length rest → ((g : ℕ) → is_set next g ≡ (is_set rest g && not (f == g)))
    → ((p : ℕ) → is_set set p ≡ true → apart f p ≡ false) → Looking apart set next
looked apart set rest next f l long out none =
    record {
      long = long ∙ l.long;
      inside = λ g h. l.inside g (and_parts (is_set rest g) (not (f == g)) (sym (out g) ∙ h)).0;
      quiet = λ g h. ⊎_elim
          (λ s. ⊎_elim (λ (same : f ≡ g). inr (subst (λ y. (p : ℕ) → is_set set p ≡ true → apart y p ≡ false) same none)) (λ (ne : f ≡ g → ⊥). inl (out g ∙ and_from (is_set rest g) (not (f == g)) s (ap not (ne_eqb f g ne)))) (cases_eq f g))
          (λ q. inr q) (l.quiet g h);
    }

module _ (count : ℕ) (rows set rest : List ℕ) (table : IsTable count rows) (within : (g : ℕ) → is_set set g ≡ true → g ≤ count) (l : Looking (in_row (count / 64 + 1) rows) set rest) where
  pub lead_met : (f : ℕ) → IsFirst rest 0 f → (p : ℕ) × (is_set set p ≡ true) × (in_row (count / 64 + 1) rows f p ≡ true) → IsLead (in_row (count / 64 + 1) rows) set f
  lead_met f first some =
      record {
        within = omega (arith, first.within, l.long);
        here = l.inside f first.here;
        none = λ g h k. ⊎_elim (λ s. absurd (false≢true (sym (first.none g (omega arith) k) ∙ s)))
            (λ q. table.even f g (within f (l.inside f first.here)) (within g h) ∙ q f (l.inside f first.here)) (l.quiet g h);
        two = inr some;
      }

  pub lead_first : (m : ℕ) → IsFirst set 0 m → NoneFrom rest 0 → IsLead (in_row (count / 64 + 1) rows) set m
  lead_first m first none =
      record {
        within = first.within;
        here = first.here;
        none = λ g h k. still m g first.here h;
        two = inl (λ f g h k. still f g h k);
      }
    where
      still : (f g : ℕ) → is_set set f ≡ true → is_set set g ≡ true → in_row (count / 64 + 1) rows f g ≡ false
      still f g h k = ⊎_elim (λ s. absurd (false≢true (sym (none.none f (omega arith)) ∙ s))) (λ q. q g k) (l.quiet f h)

  pub lead_last : (o : Option ℕ) → MatchOption o (NoneFrom set 0) (λ f. IsFirst set 0 f) → NoneFrom rest 0 → MatchOption o (NoneFrom set 0) (λ m. IsLead (in_row (count / 64 + 1) rows) set m)
  lead_last None h none = h
  lead_last (Some m) h none = lead_first m h none

pub lead_is : (apart : ℕ → ℕ → Bool) (set : List ℕ) (o : Option ℕ) (m : ℕ) → o ≡ Some m → MatchOption o (NoneFrom set 0) (λ m. IsLead apart set m) → IsLead apart set m
lead_is apart set o m e h = subst (λ p. MatchOption p (NoneFrom set 0) (λ m. IsLead apart set m)) e h

pub no_lead : (apart : ℕ → ℕ → Bool) (set : List ℕ) (o : Option ℕ) → ((m : ℕ) → o ≡ Some m → ⊥) → MatchOption o (NoneFrom set 0) (λ m. IsLead apart set m) → NoneFrom set 0
no_lead apart set None ends h = h
no_lead apart set (Some m) ends h = absurd (ends m refl)
