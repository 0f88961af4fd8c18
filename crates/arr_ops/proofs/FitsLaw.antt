-- From a formed list, a memory that fits and a legal plan: the memory before each block fits.
use Rattle.std.proofs.Common.{◌≡◌, ◌≢◌, ℕ, ◌+◌, ◌≤◌, List, [], ◌∷◌, ◌++◌, Bool, true, false, not, ◌||◌, ◌&&◌, refl, ap, ap₂, sym, ◌∙◌, arith, length, map, Option, Some, None}
use Rattle.std.proofs.lemmas.Bool.{false≢true, eqb-true, eq-eqb, leb-true}
use Rattle.std.specs.Prelude.{IsTrue, ◌==◌, nat_eq, nat_lt, nat_le, is_none}
use Rattle.std.specs.List.{AllByRecursion, list_any, list_all, enumerate_from}
use Rattle.std.specs.Option.{option_to_list}
use Rattle.arr_view.specs.Strided.{Strided}
use Rattle.arr_view.specs.Views.{has}
use Rattle.arr_ops.specs.Ops.{freed, outputs, inputs, views, named, dep, disturbs, fusible}
use Rattle.arr_ops.specs.Memory.{Memory}
use Rattle.arr_ops.specs.Fits.{Need, needs, meets_need, op_fits, fits}
use Rattle.arr_ops.specs.Ops.{makes_base, creates}
use Rattle.arr_ops.specs.Formed.{is_formed, may_precede, all_pairs, well_formed, same_types, inside_made}
use Rattle.arr_ops.specs.Plans.{is_legal, pair_legal, numbered, place, holders, not_empty}
use Rattle.arr_ops.specs.Laws.{blocks_fit}
use Rattle.arr_ops.specs.declared.op.Op.{Op}
use Rattle.arr_ops.proofs.Pairs.{Pairs, All_weaker, Pairs_weaker, Pairs_both}
use Rattle.arr_ops.proofs.Tests.{both_left, both_right, all_of, pairs_of, pairs_numbered, all_numbered, or_cases}
use Rattle.arr_ops.proofs.Writes.{or_left, or_right}
use Rattle.arr_ops.proofs.Commute.{Spared, Misses, Separate}
use Rattle.arr_ops.proofs.Apart.{separate}
use Rattle.arr_ops.proofs.Plans.{Beside, beside_all}
use Rattle.arr_ops.proofs.Fits.{Serves, NeedRel, SameRel, Facts, Ready, AtMost, made_in, blocks_fit_by, or_first, or_second, all_both}

-- ---- what an operation needs it names

pub all_append : {X : Type 0} (P : X → Type 0) (xs ys : List X) → AllByRecursion P xs → AllByRecursion P ys → AllByRecursion P (xs ++ ys)
all_append P [] ys a b = b
all_append P (x ∷ xs) ys a b = (a.0, all_append P xs ys a.1 b)

pub all_map : {X Y : Type 0} (P : Y → Type 0) (f : X → Y) (xs : List X) → AllByRecursion (λ x. P (f x)) xs → AllByRecursion P (map f xs)
all_map P f [] h = tt
all_map P f (x ∷ xs) h = (h.0, all_map P f xs h.1)

all_parts : {X : Type 0} (P : X → Type 0) (xs ys : List X) → AllByRecursion P (xs ++ ys) → AllByRecursion P xs × AllByRecursion P ys
all_parts P [] ys h = (tt, h)
all_parts P (x ∷ xs) ys h = let r : AllByRecursion P xs × AllByRecursion P ys = all_parts P xs ys h.1 in ((h.0, r.0), r.1)

has_left : (xs ys : List ℕ) (b : ℕ) → has xs b ≡ true → has (xs ++ ys) b ≡ true
has_left [] ys b h = absurd (false≢true h)
has_left (x ∷ xs) ys b h = or_cases (nat_eq b x) (has xs b) h (or_first (nat_eq b x) _) (λ t. or_second (nat_eq b x) _ (has_left xs ys b t))

has_right : (xs ys : List ℕ) (b : ℕ) → has ys b ≡ true → has (xs ++ ys) b ≡ true
has_right [] ys b h = h
has_right (x ∷ xs) ys b h = or_second (nat_eq b x) _ (has_right xs ys b h)

has_bases : (vs : List Strided) → AllByRecursion (λ (v : Strided). has (map (λ (w : Strided). w.base) vs) v.base ≡ true) vs
has_bases [] = tt
has_bases (v ∷ vs) = (
  or_first (nat_eq v.base v.base) _ (eq-eqb v.base v.base refl),
  All_weaker (λ (u : Strided). has (map (λ (w : Strided). w.base) vs) u.base ≡ true) (λ (u : Strided). has (map (λ (w : Strided). w.base) (v ∷ vs)) u.base ≡ true)
      (λ u t. or_second (nat_eq u.base v.base) _ t) vs (has_bases vs),
)

has_itself : (bs : List ℕ) → AllByRecursion (λ b. has bs b ≡ true) bs
has_itself [] = tt
has_itself (b ∷ bs) = (or_first (nat_eq b b) _ (eq-eqb b b refl), All_weaker (λ c. has bs c ≡ true) (λ c. has (b ∷ bs) c ≡ true) (λ c t. or_second (nat_eq c b) _ t) bs (has_itself bs))

-- a property of bases, of each need
needs_all : (P : ℕ → Type 0) (y : Op) → AllByRecursion (λ (v : Strided). P v.base) (views y) → AllByRecursion P (freed y) → AllByRecursion (λ (n : Need). P n.base) (needs y)
needs_all P y a b =
    let ab : AllByRecursion (λ (v : Strided). P v.base) (outputs y) × AllByRecursion (λ (v : Strided). P v.base) (inputs y) = all_parts (λ (v : Strided). P v.base) (outputs y) (inputs y) a in
    all_append (λ (n : Need). P n.base) _ _ (all_append (λ (n : Need). P n.base) _ _ (all_map (λ (n : Need). P n.base) _ (outputs y) ab.0) (all_map (λ (n : Need). P n.base) _ (inputs y) ab.1))
    (all_map (λ (n : Need). P n.base) _ (freed y) b)

needs_named : (y : Op) → AllByRecursion (λ (n : Need). has (named y) n.base ≡ true) (needs y)
needs_named y =
    needs_all (λ b. has (named y) b ≡ true) y
    (All_weaker (λ (v : Strided). has (map (λ (w : Strided). w.base) (views y)) v.base ≡ true) (λ (v : Strided). has (named y) v.base ≡ true)
    (λ v t. has_left (map (λ (w : Strided). w.base) (views y)) (freed y) v.base t) (views y) (has_bases (views y)))
    (All_weaker (λ b. has (freed y) b ≡ true) (λ b. has (named y) b ≡ true) (λ b t. has_right (map (λ (w : Strided). w.base) (views y)) (freed y) b t) (freed y) (has_itself (freed y)))

never : (b : Bool) → (b ≡ true → ⊥) → b ≡ false
never true h = absurd (h refl)
never false h = refl

-- what f frees is not named
unfreed : (frees : Option ℕ) (names : List ℕ) (b : ℕ) → list_any (has names) (option_to_list frees) ≡ false → has names b ≡ true → has (option_to_list frees) b ≡ false
unfreed None names b h t = refl
unfreed (Some k) names b h t =
    never (has (k ∷ []) b) (λ u. or_cases (nat_eq b k) false u
    (λ e. false≢true (sym (or_left (has names k) false h) ∙ ap (has names) (sym (eqb-true b k e)) ∙ t)) (λ e. false≢true e))

unfreed_test : (frees : Option ℕ) (names : List ℕ) → list_all (λ b. not (has names b)) (option_to_list frees) ≡ true → list_any (has names) (option_to_list frees) ≡ false
unfreed_test None names h = refl
unfreed_test (Some k) names h = never (has names k || false) (λ t. or_cases (has names k) false t (λ e. false≢true (ap not (sym e) ∙ both_left (not (has names k)) true h)) (λ e. false≢true e))

-- what f makes is not named
unmade : (out : Option Strided) (makes : Bool) (names : List ℕ) (b : ℕ) → (not makes || list_all (λ (o : Strided). not (has names o.base)) (option_to_list out)) ≡ true → has names b ≡ true
    → (makes && list_any (λ (o : Strided). o.base == b) (option_to_list out)) ≡ false
unmade out false names b h t = refl
unmade None true names b h t = refl
unmade (Some o) true names b h t =
    never ((o.base == b) || false) (λ u. or_cases (o.base == b) false u
    (λ e. false≢true (sym (ap not (ap (has names) (eqb-true o.base b e) ∙ t)) ∙ both_left (not (has names o.base)) true h)) (λ e. false≢true e))

made_named : (out : Option Strided) (makes : Bool) (ins : List Strided) (more : List ℕ) (b : ℕ) → (makes && list_any (λ (o : Strided). o.base == b) (option_to_list out)) ≡ true
    → has (map (λ (w : Strided). w.base) (option_to_list out ++ ins) ++ more) b ≡ true
made_named None makes ins more b h = absurd (false≢true (both_right makes false h))
made_named (Some o) makes ins more b h =
    or_cases (o.base == b) false (both_right makes ((o.base == b) || false) h)
    (λ e. or_first (nat_eq b o.base) _ (eq-eqb b o.base (sym (eqb-true o.base b e)))) (λ e. absurd (false≢true e))

missed_unmade : (out : Option Strided) (makes : Bool) (v : Strided) → Misses out makes v → (makes && list_any (λ (o : Strided). o.base == v.base) (option_to_list out)) ≡ false
missed_unmade None true v h = refl
missed_unmade None false v h = refl
missed_unmade (Some o) false v h = refl
missed_unmade (Some o) true v h = ap (λ b. b || false) (h.1 refl)

none_all : (p : ℕ → Bool) (bs : List ℕ) → list_any p bs ≡ false → AllByRecursion (λ b. p b ≡ false) bs
none_all p [] h = tt
none_all p (b ∷ bs) h = (or_left (p b) (list_any p bs) h, none_all p bs (or_right (p b) (list_any p bs) h))

-- ---- two operations of the list

-- y beside z
record Pairwise (plan : List (List ℕ)) (y z : ℕ × Op) : Type 0 where
  need : AllByRecursion (λ (n : Need). (has (freed z.1) n.base ≡ true → place plan y.0 ≤ place plan z.0) × (makes_base z.1 n.base ≡ true → place plan z.0 ≤ place plan y.0)) (needs y.1)
  maker : y.1.makes ≡ true → AllByRecursion (λ (o : Strided). makes_base z.1 o.base ≡ true → place plan z.0 ≡ place plan y.0) (outputs y.1)
  slot : AllByRecursion (λ s. has (option_to_list z.1.slot) s ≡ true → place plan z.0 ≡ place plan y.0) (option_to_list y.1.slot)

no_slot : (a b : Option ℕ) (P : Type 0) → ((i j : ℕ) → a ≡ Some i → b ≡ Some j → i ≢ j) → AllByRecursion (λ s. has (option_to_list a) s ≡ true → P) (option_to_list b)
no_slot a None P h = tt
no_slot None (Some j) P h = ((λ t. absurd (false≢true t)), tt)
no_slot (Some i) (Some j) P h = ((λ t. or_cases (nat_eq j i) false t (λ e. absurd (h i j refl refl (sym (eqb-true j i e)))) (λ e. absurd (false≢true e))), tt)

itself : (plan : List (List ℕ)) (x : ℕ × Op) → Pairwise plan x x
itself plan x =
    record {
      need = All_weaker (λ (n : Need). has (named x.1) n.base ≡ true) _ (λ n t. ((λ u. omega arith), (λ u. omega arith))) (needs x.1) (needs_named x.1);
      maker = λ e. every (outputs x.1);
      slot = every_slot (option_to_list x.1.slot);
    }
  where
    every : (os : List Strided) → AllByRecursion (λ (o : Strided). makes_base x.1 o.base ≡ true → place plan x.0 ≡ place plan x.0) os
    every [] = tt
    every (o ∷ os) = ((λ t. refl), every os)

    every_slot : (ss : List ℕ) → AllByRecursion (λ s. has (option_to_list x.1.slot) s ≡ true → place plan x.0 ≡ place plan x.0) ss
    every_slot [] = tt
    every_slot (s ∷ ss) = ((λ t. refl), every_slot ss)

-- x stands before y
module _ (plan : List (List ℕ)) (x y : ℕ × Op) (b : Beside x.1 y.1) (before : may_precede x.1 y.1 ≡ true) (kept : dep x.1 y.1 ≡ true → place plan x.0 ≤ place plan y.0) where
  fresh : (not y.1.makes || list_all (λ (o : Strided). not (has (named x.1) o.base)) (outputs y.1)) ≡ true
  fresh = both_left (not y.1.makes || list_all (λ (o : Strided). not (has (named x.1) o.base)) (outputs y.1)) (list_all (λ b. not (has (named y.1) b)) (freed x.1)) before

  gone : list_any (has (named y.1)) (freed x.1) ≡ false
  gone = unfreed_test x.1.frees (named y.1) (both_right (not y.1.makes || list_all (λ (o : Strided). not (has (named x.1) o.base)) (outputs y.1)) (list_all (λ b. not (has (named y.1) b)) (freed x.1)) before)

  -- what x makes and y names makes them dependent
  made_apart : dep x.1 y.1 ≡ false → AllByRecursion (λ (n : Need). makes_base x.1 n.base ≡ false) (needs y.1)
  made_apart d =
      let s : Separate x.1 y.1 = separate x.1 y.1 b.sound_left b.sound_right b.inside_left b.inside_right b.slots d in
      needs_all (λ k. makes_base x.1 k ≡ false) y.1
      (All_weaker (Spared x.1) (λ (v : Strided). makes_base x.1 v.base ≡ false) (λ v sp. missed_unmade x.1.out x.1.makes v sp.missed) (views y.1) s.left)
      (All_weaker (λ k. has (named x.1) k ≡ false) (λ k. makes_base x.1 k ≡ false)
      (λ k no_name. never (makes_base x.1 k) (λ t. false≢true (sym no_name ∙ made_named x.1.out x.1.makes (inputs x.1) (freed x.1) k t))) (freed y.1)
      (none_all (has (named x.1)) (freed y.1) (or_right _ (list_any (has (named x.1)) (freed y.1)) (or_right (disturbs x.1 y.1) (disturbs y.1 x.1) d))))

  by_dep : {P : Type 0} → (dep x.1 y.1 ≡ false → P) → (place plan x.0 ≤ place plan y.0 → P) → P
  by_dep {P} f g = elim (dep x.1 y.1) as (λ t. dep x.1 y.1 ≡ t → P) [ true ↦ λ e. g (kept e) | false ↦ λ e. f e ] refl

  later_of : Pairwise plan y x
  later_of =
      record {
        need = by_dep
            (λ d. all_both (λ (n : Need). has (named y.1) n.base ≡ true) (λ (n : Need). makes_base x.1 n.base ≡ false) _
            (λ n t u. ((λ f. absurd (false≢true (sym (unfreed x.1.frees (named y.1) n.base gone t) ∙ f))), (λ k. absurd (false≢true (sym u ∙ k))))) (needs y.1) (needs_named y.1) (made_apart d))
            (λ le. All_weaker (λ (n : Need). has (named y.1) n.base ≡ true) _
            (λ n t. ((λ f. absurd (false≢true (sym (unfreed x.1.frees (named y.1) n.base gone t) ∙ f))), (λ k. le))) (needs y.1) (needs_named y.1));
        maker = λ e. unnamed y.1.makes (outputs y.1) e fresh;
        slot = no_slot x.1.slot y.1.slot _ b.slots;
      }
    where
      unnamed : (makes : Bool) (os : List Strided) → makes ≡ true → (not makes || list_all (λ (o : Strided). not (has (named x.1) o.base)) os) ≡ true
          → AllByRecursion (λ (o : Strided). makes_base x.1 o.base ≡ true → place plan x.0 ≡ place plan y.0) os
      unnamed false os e h = absurd (false≢true e)
      unnamed true os e h =
          All_weaker (λ (o : Strided). not (has (named x.1) o.base) ≡ true) _
          (λ o t k. absurd (false≢true (sym (ap not (made_named x.1.out x.1.makes (inputs x.1) (freed x.1) o.base k)) ∙ t))) os
          (all_of (λ (o : Strided). not (has (named x.1) o.base)) os h)

  earlier_of : Pairwise plan x y
  earlier_of =
      record {
        need = by_dep
            (λ d. All_weaker (λ (n : Need). has (named x.1) n.base ≡ true) _
            (λ n t. (
              (λ f. absurd (false≢true (sym (unfreed y.1.frees (named x.1) n.base (or_right _ (list_any (has (named x.1)) (freed y.1)) (or_right (disturbs x.1 y.1) (disturbs y.1 x.1) d)) t) ∙ f))),
              (λ k. absurd (false≢true (sym (unmade y.1.out y.1.makes (named x.1) n.base fresh t) ∙ k))),
            )) (needs x.1) (needs_named x.1))
            (λ le. All_weaker (λ (n : Need). has (named x.1) n.base ≡ true) _
            (λ n t. ((λ f. le), (λ k. absurd (false≢true (sym (unmade y.1.out y.1.makes (named x.1) n.base fresh t) ∙ k))))) (needs x.1) (needs_named x.1));
        maker = λ e. All_weaker (λ (o : Strided). has (named x.1) o.base ≡ true) _
            (λ o t k. absurd (false≢true (sym (unmade y.1.out y.1.makes (named x.1) o.base fresh t) ∙ k))) (outputs x.1)
            (all_parts (λ (v : Strided). has (named x.1) v.base ≡ true) (outputs x.1) (inputs x.1)
            (All_weaker (λ (v : Strided). has (map (λ (w : Strided). w.base) (views x.1)) v.base ≡ true) (λ (v : Strided). has (named x.1) v.base ≡ true)
            (λ v t. has_left (map (λ (w : Strided). w.base) (views x.1)) (freed x.1) v.base t) (views x.1) (has_bases (views x.1)))).0;
        slot = no_slot y.1.slot x.1.slot _ (λ i j p q e. b.slots j i q p (sym e));
      }

-- ---- all together

-- each beside each, from the pairs in both directions and each beside itself
full : {X : Type 0} (Q : X → X → Type 0) (xs : List X) → Pairs (λ x y. Q y x × Q x y) xs → AllByRecursion (λ x. Q x x) xs → AllByRecursion (λ y. AllByRecursion (Q y) xs) xs
full Q [] p s = tt
full Q (x ∷ xs) p s = (
  (s.0, All_weaker (λ y. Q y x × Q x y) (Q x) (λ y h. h.1) xs p.0),
  all_both (λ y. Q y x × Q x y) (λ y. AllByRecursion (Q y) xs) (λ y. AllByRecursion (Q y) (x ∷ xs)) (λ y h k. (h.0, k)) xs p.0 (full Q xs p.1 s.1),
)

swapped_nil : {A : Type 0} (us : List A) → AllByRecursion (λ (a : A). Unit {0}) us
swapped_nil [] = tt
swapped_nil (a ∷ more) = (tt, swapped_nil more)

swapped : {A B : Type 0} (R : A → B → Type 0) (us : List A) (bs : List B) → AllByRecursion (λ b. AllByRecursion (λ a. R a b) us) bs → AllByRecursion (λ a. AllByRecursion (R a) bs) us
swapped R us [] h = swapped_nil us
swapped R us (b ∷ bs) h = all_both (λ a. R a b) (λ a. AllByRecursion (R a) bs) (λ a. AllByRecursion (R a) (b ∷ bs)) (λ a p q. (p, q)) us h.0 (swapped R us bs h.1)

-- what f makes serves every need of g
abbrev pub Serving : Op → Op → Type 0
Serving f g = AllByRecursion (Serves f) (needs g)

facts_of : (plan : List (List ℕ)) (xs : List (ℕ × Op)) (y : ℕ × Op) → AllByRecursion (Pairwise plan y) xs → AllByRecursion (λ (z : ℕ × Op). Serving z.1 y.1) xs → Facts xs plan y
facts_of plan xs y h s =
    record {
      need = swapped (NeedRel xs plan y.0) (needs y.1) xs
          (all_both (Pairwise plan y) (λ (z : ℕ × Op). Serving z.1 y.1) (λ z. AllByRecursion (λ n. NeedRel xs plan y.0 n z) (needs y.1))
          (λ z p q. all_both _ (Serves z.1) (λ n. NeedRel xs plan y.0 n z) (λ n a b. ((λ _. a), b)) (needs y.1) p.need q) xs h s);
      maker = λ e. swapped (λ (o : Strided). SameRel xs plan y.0 (λ f. makes_base f o.base)) (outputs y.1) xs
          (All_weaker (Pairwise plan y) (λ z. AllByRecursion (λ (o : Strided). SameRel xs plan y.0 (λ f. makes_base f o.base) z) (outputs y.1))
          (λ z p. All_weaker (λ (o : Strided). makes_base z.1 o.base ≡ true → place plan z.0 ≡ place plan y.0) (λ (o : Strided). SameRel xs plan y.0 (λ f. makes_base f o.base) z) (λ o k _. k) (outputs y.1) (p.maker e)) xs h);
      slot = swapped (λ s. SameRel xs plan y.0 (λ (f : Op). has (option_to_list f.slot) s)) (option_to_list y.1.slot) xs
          (All_weaker (Pairwise plan y) (λ z. AllByRecursion (λ s. SameRel xs plan y.0 (λ (f : Op). has (option_to_list f.slot) s) z) (option_to_list y.1.slot))
          (λ z p. All_weaker (λ s. has (option_to_list z.1.slot) s ≡ true → place plan z.0 ≡ place plan y.0) (λ s. SameRel xs plan y.0 (λ (f : Op). has (option_to_list f.slot) s) z) (λ s k _. k) (option_to_list y.1.slot) p.slot) xs h);
    }

made_in_all : (plan : List (List ℕ)) (b : ℕ) (k : ℕ) (list : List Op) → AllByRecursion (λ (z : ℕ × Op). (holders plan z.0 == 1) ≡ true) (enumerate_from k list) → creates list b ≡ true
    → made_in plan (enumerate_from k list) b ≡ true
made_in_all plan b k [] h e = e
made_in_all plan b k (f ∷ fs) h e =
    or_cases (makes_base f b) (creates fs b) e
    (λ t. or_first _ (made_in plan (enumerate_from (k + 1) fs) b) (ap₂ (λ p q. p && q) h.0 t))
    (λ t. or_second _ (made_in plan (enumerate_from (k + 1) fs) b) (made_in_all plan b (k + 1) fs h.1 t))

ready_of : (list : List Op) (plan : List (List ℕ)) (m : Memory) (y : ℕ × Op) → AllByRecursion (λ (z : ℕ × Op). (holders plan z.0 == 1) ≡ true) (numbered list) → op_fits m list y.1 ≡ true
    → Ready (numbered list) m plan y
ready_of list plan m y once e =
    let a = both_right (list_all (λ (n : Need). creates list n.base || meets_need (m.bases n.base) n) (needs y.1)) _ e in
    record {
      need = All_weaker (λ (n : Need). (creates list n.base || meets_need (m.bases n.base) n) ≡ true) _
          (λ n t. or_cases (creates list n.base) (meets_need (m.bases n.base) n) t
          (λ u. or_first (made_in plan (numbered list) n.base) _ (made_in_all plan n.base 1 list once u))
          (λ u. or_second (made_in plan (numbered list) n.base) _ u)) (needs y.1)
          (all_of (λ (n : Need). creates list n.base || meets_need (m.bases n.base) n) (needs y.1) (both_left (list_all (λ (n : Need). creates list n.base || meets_need (m.bases n.base) n) (needs y.1)) _ e));
      maker = λ t. all_of (λ (o : Strided). is_none (m.bases o.base)) (outputs y.1) (if_makes y.1.makes t (both_right (list_all (λ s. is_none (m.slots s)) (option_to_list y.1.slot)) _ a));
      slot = all_of (λ s. is_none (m.slots s)) (option_to_list y.1.slot) (both_left (list_all (λ s. is_none (m.slots s)) (option_to_list y.1.slot)) _ a);
    }
  where
    if_makes : (b : Bool) → b ≡ true → (not b || list_all (λ (o : Strided). is_none (m.bases o.base)) (outputs y.1)) ≡ true → list_all (λ (o : Strided). is_none (m.bases o.base)) (outputs y.1) ≡ true
    if_makes true t h = h
    if_makes false t h = absurd (false≢true t)

-- `Serving` follows from a formed list, once the lengths of all lists of results are known
pub blocks_fit_law : (list : List Op) (plan : List (List ℕ)) (m : Memory) → IsTrue (is_formed list) → IsTrue (fits m list) → IsTrue (is_legal list plan)
    → AllByRecursion (λ (y : ℕ × Op). AllByRecursion (λ (z : ℕ × Op). Serving z.1 y.1) (numbered list)) (numbered list) → IsTrue (blocks_fit m (numbered list) plan)
blocks_fit_law list plan m formed fit legal serving =
    let xs : List (ℕ × Op) = numbered list in
    let a = both_right (list_all (λ block. not_empty block && list_all (λ i. nat_lt 0 i && nat_le i (length list)) block) plan) _ legal in
    let once : AllByRecursion (λ (z : ℕ × Op). (holders plan z.0 == 1) ≡ true) xs = all_of (λ (z : ℕ × Op). holders plan z.0 == 1) xs (both_left (list_all (λ (z : ℕ × Op). holders plan z.0 == 1) xs) _ a) in
    let pairs : Pairs (λ x y. pair_legal plan x y ≡ true) xs = pairs_of (pair_legal plan) xs (both_right (list_all (λ (z : ℕ × Op). holders plan z.0 == 1) xs) _ a) in
    let precede : Pairs (λ f g. may_precede f g ≡ true) list =
    pairs_of may_precede list (both_right (list_all (λ f. list_all (same_types f) list) list) _ (both_right (list_all (λ f. list_all (inside_made f) list) list) _
    (both_right _ (list_all (λ f. list_all (inside_made f) list) list && (list_all (λ f. list_all (same_types f) list) list && all_pairs may_precede list)) (both_right (list_all well_formed list) _ formed)))) in
    let both : Pairs (λ (x y : ℕ × Op). (pair_legal plan x y ≡ true) × (Beside x.1 y.1 × (may_precede x.1 y.1 ≡ true))) xs =
    Pairs_both _ _ xs pairs (pairs_numbered (λ f g. Beside f g × (may_precede f g ≡ true)) 1 list (Pairs_both Beside (λ f g. may_precede f g ≡ true) list (beside_all list formed) precede)) in
    let matrix : AllByRecursion (λ y. AllByRecursion (Pairwise plan y) xs) xs =
    full (Pairwise plan) xs
    (Pairs_weaker (λ (x y : ℕ × Op). (pair_legal plan x y ≡ true) × (Beside x.1 y.1 × (may_precede x.1 y.1 ≡ true))) _
    (λ x y h. (later_of plan x y h.1.0 h.1.1 (kept x y h.0), earlier_of plan x y h.1.0 h.1.1 (kept x y h.0))) xs both)
    (All_weaker (λ (z : ℕ × Op). (holders plan z.0 == 1) ≡ true) (λ x. Pairwise plan x x) (λ x t. itself plan x) xs once) in
    blocks_fit_by xs plan m
    (All_weaker (λ (z : ℕ × Op). (holders plan z.0 == 1) ≡ true) (AtMost plan) (λ z t. let e : holders plan z.0 ≡ 1 = eqb-true (holders plan z.0) 1 t in omega arith) xs once)
    (all_both (λ y. Facts xs plan y) (λ y. Ready xs m plan y) (λ (y : ℕ × Op). holders plan y.0 ≡ 1 → Facts xs plan y × Ready xs m plan y) (λ y f r _. (f, r)) xs
    (all_both (λ y. AllByRecursion (Pairwise plan y) xs) (λ (y : ℕ × Op). AllByRecursion (λ (z : ℕ × Op). Serving z.1 y.1) xs) (Facts xs plan) (λ y h s. facts_of plan xs y h s) xs matrix serving)
    (All_weaker (λ (y : ℕ × Op). op_fits m list y.1 ≡ true) (Ready xs m plan) (λ y t. ready_of list plan m y once t) xs
    (all_numbered (λ f. op_fits m list f ≡ true) 1 list (all_of (op_fits m list) list fit))))
  where
    kept : (x y : ℕ × Op) → pair_legal plan x y ≡ true → dep x.1 y.1 ≡ true → place plan x.0 ≤ place plan y.0
    kept x y e d =
        leb-true (place plan x.0) (place plan y.0)
        (or_cases (not (dep x.1 y.1)) (nat_le (place plan x.0) (place plan y.0)) (both_right (not (place plan x.0 == place plan y.0) || fusible x.1 y.1) _ e)
        (λ t. absurd (false≢true (sym (ap not d) ∙ t))) (λ t. t))
