-- Which record a line is, by its first word.
use Rattle.std.proofs.Common.{◌≡◌, ◌≢◌, ℕ, suc, ◌^◌, ◌<◌, ◌≤◌, List, [], ◌∷◌, ◌++◌, length, get_or, drop, Bool, true, false, cond, not, ◌&&◌, ◌||◌, refl, sym, ap, ◌∙◌, subst, arith, codes}
use Rattle.std.specs.Prelude.{◌==◌, nat_lt, nat_le}
use Rattle.std.specs.List.{list_all}
use Rattle.std.proofs.lemmas.Bool.{and_parts, and_from, ltb-true, lt-ltb, eqb-true, eqb-false}
use Rattle.arr_law.specs.declared.charge.Charge.{Charge}
use Rattle.arr_law.specs.declared.record.Record.{Record}
use Rattle.arr_law.specs.declared.record.Record.TheVariants.{Flush, Plan, Cost, Bound, Step, Branch, Dead, Worth, End}
use Rattle.arr_cert.specs.Texts.{spaced, version_numbers, takes_two, third_numbers}
use Rattle.arr_cert.specs.Spelling.{IsText}
use Rattle.arr_cert.specs.Spelled.{NumberOf, NumbersOf, GroupsOf, are_narrow}
use Rattle.arr_cert.proofs.Differ.{Small, ends_back}

-- ---- numbers behind blanks

pub narrow_small : (ns : List ℕ) → are_narrow ns ≡ true → Small ns
narrow_small [] h = refl
narrow_small (n ∷ ns) h =
    let p = and_parts (nat_lt n (2 ^ 32)) (are_narrow ns) h in
    let l : n < 2 ^ 64 = omega (arith, ltb-true n (2 ^ 32) p.0) in
    and_from (nat_lt n (2 ^ 64)) (list_all (λ m. nat_lt m (2 ^ 64)) ns) (lt-ltb n (2 ^ 64) l) (narrow_small ns p.1)

pub spaced_same : (ns ms : List ℕ) → are_narrow ns ≡ true → are_narrow ms ≡ true → spaced ns ≡ spaced ms → ns ≡ ms
spaced_same ns ms p q e = (ends_back ns ms [] [] (narrow_small ns p) (narrow_small ms q) (ap (λ t. (t ++ 10 ∷ []) ++ []) e)).0

pub all_narrow : (ns : List ℕ) → ((k : ℕ) → get_or ns k 0 < 2 ^ 32) → are_narrow ns ≡ true
all_narrow [] h = refl
all_narrow (n ∷ ns) h = and_from (nat_lt n (2 ^ 32)) (are_narrow ns) (lt-ltb n (2 ^ 32) (h 0)) (all_narrow ns (λ k. h (suc k)))

pub head_narrow : (n c v : ℕ) → are_narrow (n ∷ c ∷ v ∷ []) ≡ true → are_narrow (n ∷ c ∷ version_numbers v) ≡ true
head_narrow n c v h = go (v == 1)
  where
    p : ((nat_lt n (2 ^ 32)) ≡ true) × (are_narrow (c ∷ v ∷ []) ≡ true)
    p = and_parts (nat_lt n (2 ^ 32)) (are_narrow (c ∷ v ∷ [])) h

    q : ((nat_lt c (2 ^ 32)) ≡ true) × (are_narrow (v ∷ []) ≡ true)
    q = and_parts (nat_lt c (2 ^ 32)) (are_narrow (v ∷ [])) p.1

    go : (t : Bool) → are_narrow (n ∷ c ∷ cond t [] (v ∷ [])) ≡ true
    go true = and_from (nat_lt n (2 ^ 32)) (are_narrow (c ∷ [])) p.0 (and_from (nat_lt c (2 ^ 32)) true q.0 refl)
    go false = h

pub step_narrow : (k f g h : ℕ) → are_narrow (k ∷ f ∷ g ∷ h ∷ []) ≡ true → are_narrow (k ∷ f ∷ g ∷ third_numbers k h) ≡ true
step_narrow k f g h n = go (takes_two k)
  where
    p : ((nat_lt k (2 ^ 32)) ≡ true) × (are_narrow (f ∷ g ∷ h ∷ []) ≡ true)
    p = and_parts (nat_lt k (2 ^ 32)) (are_narrow (f ∷ g ∷ h ∷ [])) n

    q : ((nat_lt f (2 ^ 32)) ≡ true) × (are_narrow (g ∷ h ∷ []) ≡ true)
    q = and_parts (nat_lt f (2 ^ 32)) (are_narrow (g ∷ h ∷ [])) p.1

    r : ((nat_lt g (2 ^ 32)) ≡ true) × (are_narrow (h ∷ []) ≡ true)
    r = and_parts (nat_lt g (2 ^ 32)) (are_narrow (h ∷ [])) q.1

    go : (t : Bool) → are_narrow (k ∷ f ∷ g ∷ cond t [] (h ∷ [])) ≡ true
    go true = and_from (nat_lt k (2 ^ 32)) (are_narrow (f ∷ g ∷ [])) p.0 (and_from (nat_lt f (2 ^ 32)) (are_narrow (g ∷ [])) q.0 (and_from (nat_lt g (2 ^ 32)) true r.0 refl))
    go false = n

-- ---- a line by its word

pub flush_back : (rest : List ℕ) (r : Record) → IsText (codes "!flush" ++ rest) r → (n c v : ℕ) × NumbersOf 32 rest (n ∷ c ∷ version_numbers v) × (((v == 1) || (v == 2)) ≡ true)
flush_back rest (Flush n c v) t = (n, c, v, record { same = ap (drop 6) t.same; narrow = head_narrow n c v t.sized }, t.spelled)
flush_back rest (Plan _) t = absurd (eqb-false 102 112 refl (ap (λ l. get_or l 1 0) t.same))
flush_back rest (Cost _) t = absurd (eqb-false 102 99 refl (ap (λ l. get_or l 1 0) t.same))
flush_back rest (Bound _) t = absurd (eqb-false 102 98 refl (ap (λ l. get_or l 1 0) t.same))
flush_back rest (Step _ _ _ _) t = absurd (eqb-false 102 115 refl (ap (λ l. get_or l 1 0) t.same))
flush_back rest (Branch _ _) t = absurd (eqb-false 102 98 refl (ap (λ l. get_or l 1 0) t.same))
flush_back rest (Dead _ _) t = absurd (eqb-false 102 100 refl (ap (λ l. get_or l 1 0) t.same))
flush_back rest (Worth _) t = absurd (eqb-false 102 119 refl (ap (λ l. get_or l 1 0) t.same))
flush_back rest End t = absurd (eqb-false 102 101 refl (ap (λ l. get_or l 1 0) t.same))

pub plan_back : (rest : List ℕ) (r : Record) → IsText (codes "!plan" ++ rest) r → (ns : List ℕ) × NumbersOf 32 rest ns
plan_back rest (Flush _ _ _) t = absurd (eqb-false 112 102 refl (ap (λ l. get_or l 1 0) t.same))
plan_back rest (Plan places) t = (places, record { same = ap (drop 5) t.same; narrow = t.sized })
plan_back rest (Cost _) t = absurd (eqb-false 112 99 refl (ap (λ l. get_or l 1 0) t.same))
plan_back rest (Bound _) t = absurd (eqb-false 112 98 refl (ap (λ l. get_or l 1 0) t.same))
plan_back rest (Step _ _ _ _) t = absurd (eqb-false 112 115 refl (ap (λ l. get_or l 1 0) t.same))
plan_back rest (Branch _ _) t = absurd (eqb-false 112 98 refl (ap (λ l. get_or l 1 0) t.same))
plan_back rest (Dead _ _) t = absurd (eqb-false 112 100 refl (ap (λ l. get_or l 1 0) t.same))
plan_back rest (Worth _) t = absurd (eqb-false 112 119 refl (ap (λ l. get_or l 1 0) t.same))
plan_back rest End t = absurd (eqb-false 112 101 refl (ap (λ l. get_or l 1 0) t.same))

pub cost_back : (rest : List ℕ) (r : Record) → IsText (codes "!cost" ++ rest) r → (n : ℕ) × NumberOf rest n
cost_back rest (Flush _ _ _) t = absurd (eqb-false 99 102 refl (ap (λ l. get_or l 1 0) t.same))
cost_back rest (Plan _) t = absurd (eqb-false 99 112 refl (ap (λ l. get_or l 1 0) t.same))
cost_back rest (Cost cost) t = (cost, record { same = ap (drop 5) t.same; fits = ltb-true cost (2 ^ 64) t.sized })
cost_back rest (Bound _) t = absurd (eqb-false 99 98 refl (ap (λ l. get_or l 1 0) t.same))
cost_back rest (Step _ _ _ _) t = absurd (eqb-false 99 115 refl (ap (λ l. get_or l 1 0) t.same))
cost_back rest (Branch _ _) t = absurd (eqb-false 99 98 refl (ap (λ l. get_or l 1 0) t.same))
cost_back rest (Dead _ _) t = absurd (eqb-false 99 100 refl (ap (λ l. get_or l 1 0) t.same))
cost_back rest (Worth _) t = absurd (eqb-false 99 119 refl (ap (λ l. get_or l 1 0) t.same))
cost_back rest End t = absurd (eqb-false 99 101 refl (ap (λ l. get_or l 1 0) t.same))

pub bound_back : (rest : List ℕ) (r : Record) → IsText (codes "!bound" ++ rest) r → (n : ℕ) × NumberOf rest n
bound_back rest (Flush _ _ _) t = absurd (eqb-false 98 102 refl (ap (λ l. get_or l 1 0) t.same))
bound_back rest (Plan _) t = absurd (eqb-false 98 112 refl (ap (λ l. get_or l 1 0) t.same))
bound_back rest (Cost _) t = absurd (eqb-false 98 99 refl (ap (λ l. get_or l 1 0) t.same))
bound_back rest (Bound bound) t = (bound, record { same = ap (drop 6) t.same; fits = ltb-true bound (2 ^ 64) t.sized })
bound_back rest (Step _ _ _ _) t = absurd (eqb-false 98 115 refl (ap (λ l. get_or l 1 0) t.same))
bound_back rest (Branch _ _) t = absurd (eqb-false 111 114 refl (ap (λ l. get_or l 2 0) t.same))
bound_back rest (Dead _ _) t = absurd (eqb-false 98 100 refl (ap (λ l. get_or l 1 0) t.same))
bound_back rest (Worth _) t = absurd (eqb-false 98 119 refl (ap (λ l. get_or l 1 0) t.same))
bound_back rest End t = absurd (eqb-false 98 101 refl (ap (λ l. get_or l 1 0) t.same))

pub step_back : (rest : List ℕ) (r : Record) → IsText (codes "!step" ++ rest) r → (k f g h : ℕ) × NumbersOf 32 rest (k ∷ f ∷ g ∷ third_numbers k h) × ((nat_le 3 k && nat_le k 9) ≡ true)
step_back rest (Flush _ _ _) t = absurd (eqb-false 115 102 refl (ap (λ l. get_or l 1 0) t.same))
step_back rest (Plan _) t = absurd (eqb-false 115 112 refl (ap (λ l. get_or l 1 0) t.same))
step_back rest (Cost _) t = absurd (eqb-false 115 99 refl (ap (λ l. get_or l 1 0) t.same))
step_back rest (Bound _) t = absurd (eqb-false 115 98 refl (ap (λ l. get_or l 1 0) t.same))
step_back rest (Step k f g h) t =
    (k, f, g, h, record { same = ap (drop 5) t.same; narrow = step_narrow k f g h t.sized }, (and_parts (nat_le 3 k && nat_le k 9) (not (takes_two k) || (h == 0)) t.spelled).0)
step_back rest (Branch _ _) t = absurd (eqb-false 115 98 refl (ap (λ l. get_or l 1 0) t.same))
step_back rest (Dead _ _) t = absurd (eqb-false 115 100 refl (ap (λ l. get_or l 1 0) t.same))
step_back rest (Worth _) t = absurd (eqb-false 115 119 refl (ap (λ l. get_or l 1 0) t.same))
step_back rest End t = absurd (eqb-false 115 101 refl (ap (λ l. get_or l 1 0) t.same))

pub branch_back : (rest : List ℕ) (r : Record) → IsText (codes "!branch" ++ rest) r → (f g : ℕ) × NumbersOf 32 rest (f ∷ g ∷ [])
branch_back rest (Flush _ _ _) t = absurd (eqb-false 98 102 refl (ap (λ l. get_or l 1 0) t.same))
branch_back rest (Plan _) t = absurd (eqb-false 98 112 refl (ap (λ l. get_or l 1 0) t.same))
branch_back rest (Cost _) t = absurd (eqb-false 98 99 refl (ap (λ l. get_or l 1 0) t.same))
branch_back rest (Bound _) t = absurd (eqb-false 114 111 refl (ap (λ l. get_or l 2 0) t.same))
branch_back rest (Step _ _ _ _) t = absurd (eqb-false 98 115 refl (ap (λ l. get_or l 1 0) t.same))
branch_back rest (Branch f g) t = (f, g, record { same = ap (drop 7) t.same; narrow = t.sized })
branch_back rest (Dead _ _) t = absurd (eqb-false 98 100 refl (ap (λ l. get_or l 1 0) t.same))
branch_back rest (Worth _) t = absurd (eqb-false 98 119 refl (ap (λ l. get_or l 1 0) t.same))
branch_back rest End t = absurd (eqb-false 98 101 refl (ap (λ l. get_or l 1 0) t.same))

pub dead_back : (rest : List ℕ) (r : Record) → IsText (codes "!dead" ++ rest) r → (f g : ℕ) × NumbersOf 32 rest (f ∷ g ∷ [])
dead_back rest (Flush _ _ _) t = absurd (eqb-false 100 102 refl (ap (λ l. get_or l 1 0) t.same))
dead_back rest (Plan _) t = absurd (eqb-false 100 112 refl (ap (λ l. get_or l 1 0) t.same))
dead_back rest (Cost _) t = absurd (eqb-false 100 99 refl (ap (λ l. get_or l 1 0) t.same))
dead_back rest (Bound _) t = absurd (eqb-false 100 98 refl (ap (λ l. get_or l 1 0) t.same))
dead_back rest (Step _ _ _ _) t = absurd (eqb-false 100 115 refl (ap (λ l. get_or l 1 0) t.same))
dead_back rest (Branch _ _) t = absurd (eqb-false 100 98 refl (ap (λ l. get_or l 1 0) t.same))
dead_back rest (Dead f g) t = (f, g, record { same = ap (drop 5) t.same; narrow = t.sized })
dead_back rest (Worth _) t = absurd (eqb-false 100 119 refl (ap (λ l. get_or l 1 0) t.same))
dead_back rest End t = absurd (eqb-false 100 101 refl (ap (λ l. get_or l 1 0) t.same))

pub worth_back : (rest : List ℕ) (r : Record) → IsText (codes "!worth" ++ rest) r → (cs : List Charge) × GroupsOf rest cs
worth_back rest (Flush _ _ _) t = absurd (eqb-false 119 102 refl (ap (λ l. get_or l 1 0) t.same))
worth_back rest (Plan _) t = absurd (eqb-false 119 112 refl (ap (λ l. get_or l 1 0) t.same))
worth_back rest (Cost _) t = absurd (eqb-false 119 99 refl (ap (λ l. get_or l 1 0) t.same))
worth_back rest (Bound _) t = absurd (eqb-false 119 98 refl (ap (λ l. get_or l 1 0) t.same))
worth_back rest (Step _ _ _ _) t = absurd (eqb-false 119 115 refl (ap (λ l. get_or l 1 0) t.same))
worth_back rest (Branch _ _) t = absurd (eqb-false 119 98 refl (ap (λ l. get_or l 1 0) t.same))
worth_back rest (Dead _ _) t = absurd (eqb-false 119 100 refl (ap (λ l. get_or l 1 0) t.same))
worth_back rest (Worth charges) t = (charges, record { same = ap (drop 6) t.same; spelled = t.spelled; narrow = t.sized })
worth_back rest End t = absurd (eqb-false 119 101 refl (ap (λ l. get_or l 1 0) t.same))

-- no word stands in front
pub none_word : (text : List ℕ) (r : Record) → ((rest : List ℕ) → text ≢ codes "!step" ++ rest) → ((rest : List ℕ) → text ≢ codes "!worth" ++ rest) → ((rest : List ℕ) → text ≢ codes "!branch" ++ rest)
    → ((rest : List ℕ) → text ≢ codes "!dead" ++ rest) → ((rest : List ℕ) → text ≢ codes "!flush" ++ rest) → ((rest : List ℕ) → text ≢ codes "!plan" ++ rest) → ((rest : List ℕ) → text ≢ codes "!cost" ++ rest)
    → ((rest : List ℕ) → text ≢ codes "!bound" ++ rest) → text ≢ codes "!end" → IsText text r → ⊥
none_word text (Flush n c v) s w b d f p c2 o e t = f _ t.same
none_word text (Plan places) s w b d f p c2 o e t = p _ t.same
none_word text (Cost cost) s w b d f p c2 o e t = c2 _ t.same
none_word text (Bound bound) s w b d f p c2 o e t = o _ t.same
none_word text (Step k f2 g h) s w b d f p c2 o e t = s _ t.same
none_word text (Branch f2 g) s w b d f p c2 o e t = b _ t.same
none_word text (Dead f2 g) s w b d f p c2 o e t = d _ t.same
none_word text (Worth charges) s w b d f p c2 o e t = w _ t.same
none_word text End s w b d f p c2 o e t = e t.same

-- ---- numbers of the wrong shape, and of the right one

two_numbers : (ns : List ℕ) (f g : ℕ) → length ns ≢ 2 → are_narrow ns ≡ true → NumbersOf 32 (spaced ns) (f ∷ g ∷ []) → ⊥
two_numbers ns f g l n m = l (ap length (spaced_same ns (f ∷ g ∷ []) n m.narrow m.same))

pub branch_none : (ns : List ℕ) → length ns ≢ 2 → are_narrow ns ≡ true → (r : Record) → IsText (codes "!branch" ++ spaced ns) r → ⊥
branch_none ns l n r t = let b = branch_back (spaced ns) r t in two_numbers ns b.0 b.1 l n b.2

pub dead_none : (ns : List ℕ) → length ns ≢ 2 → are_narrow ns ≡ true → (r : Record) → IsText (codes "!dead" ++ spaced ns) r → ⊥
dead_none ns l n r t = let b = dead_back (spaced ns) r t in two_numbers ns b.0 b.1 l n b.2

pub branch_some : (ns : List ℕ) → length ns ≡ 2 → are_narrow ns ≡ true → IsText (codes "!branch" ++ spaced ns) (Branch (get_or ns 0 0) (get_or ns 1 0))
branch_some [] l n = absurd (omega (arith, l))
branch_some (f ∷ []) l n = absurd (omega (arith, l))
branch_some (f ∷ g ∷ []) l n = record { same = refl; spelled = refl; sized = n }
branch_some (f ∷ g ∷ h ∷ ns) l n = absurd (omega (arith, l))

pub dead_some : (ns : List ℕ) → length ns ≡ 2 → are_narrow ns ≡ true → IsText (codes "!dead" ++ spaced ns) (Dead (get_or ns 0 0) (get_or ns 1 0))
dead_some [] l n = absurd (omega (arith, l))
dead_some (f ∷ []) l n = absurd (omega (arith, l))
dead_some (f ∷ g ∷ []) l n = record { same = refl; spelled = refl; sized = n }
dead_some (f ∷ g ∷ h ∷ ns) l n = absurd (omega (arith, l))

-- what a head's numbers are
head_shape : (ns : List ℕ) → are_narrow ns ≡ true → (r : Record) → IsText (codes "!flush" ++ spaced ns) r → (length ns ≢ 2) → (length ns ≡ 3) × (get_or ns 2 0 ≡ 2)
head_shape ns n r t l =
    let b = flush_back (spaced ns) r t in
    go b.0 b.1 b.2 (b.2 == 1) refl (spaced_same ns (b.0 ∷ b.1 ∷ version_numbers b.2) n b.3.narrow b.3.same) b.4
  where
    go : (a c v : ℕ) (one : Bool) → (v == 1) ≡ one → ns ≡ a ∷ c ∷ cond one [] (v ∷ []) → (one || (v == 2)) ≡ true → (length ns ≡ 3) × (get_or ns 2 0 ≡ 2)
    go a c v true o e s = absurd (l (ap length e))
    go a c v false o e s = (ap length e, ap (λ t. get_or t 2 0) e ∙ eqb-true v 2 s)

pub head_length : (ns : List ℕ) → are_narrow ns ≡ true → length ns ≢ 2 → length ns ≢ 3 → (r : Record) → IsText (codes "!flush" ++ spaced ns) r → ⊥
head_length ns n k l r t = l (head_shape ns n r t k).0

pub head_version : (ns : List ℕ) → are_narrow ns ≡ true → length ns ≢ 2 → get_or ns 2 0 ≢ 2 → (r : Record) → IsText (codes "!flush" ++ spaced ns) r → ⊥
head_version ns n k l r t = l (head_shape ns n r t k).1

pub head_first : (ns : List ℕ) → length ns ≡ 2 → are_narrow ns ≡ true → IsText (codes "!flush" ++ spaced ns) (Flush (get_or ns 0 0) (get_or ns 1 0) 1)
head_first [] l n = absurd (omega (arith, l))
head_first (f ∷ []) l n = absurd (omega (arith, l))
head_first (f ∷ g ∷ []) l n =
    let p = and_parts (nat_lt f (2 ^ 32)) (are_narrow (g ∷ [])) n in
    let q = and_parts (nat_lt g (2 ^ 32)) true p.1 in
    record { same = refl; spelled = refl; sized = and_from (nat_lt f (2 ^ 32)) (are_narrow (g ∷ 1 ∷ [])) p.0 (and_from (nat_lt g (2 ^ 32)) (are_narrow (1 ∷ [])) q.0 refl) }
head_first (f ∷ g ∷ h ∷ ns) l n = absurd (omega (arith, l))

pub head_second : (ns : List ℕ) → length ns ≡ 3 → get_or ns 2 0 ≡ 2 → are_narrow ns ≡ true → IsText (codes "!flush" ++ spaced ns) (Flush (get_or ns 0 0) (get_or ns 1 0) 2)
head_second [] l v n = absurd (omega (arith, l))
head_second (f ∷ []) l v n = absurd (omega (arith, l))
head_second (f ∷ g ∷ []) l v n = absurd (omega (arith, l))
head_second (f ∷ g ∷ h ∷ []) l v n = record { same = ap (λ k. codes "!flush" ++ spaced (f ∷ g ∷ k ∷ [])) v; spelled = refl; sized = subst (λ k. are_narrow (f ∷ g ∷ k ∷ []) ≡ true) v n }
head_second (f ∷ g ∷ h ∷ i ∷ ns) l v n = absurd (omega (arith, l))

-- what a step's numbers are
pub record IsStep (ns : List ℕ) : Type 0 where
  pub rule : (nat_le 3 (get_or ns 0 0) && nat_le (get_or ns 0 0) 9) ≡ true
  pub two : takes_two (get_or ns 0 0) ≡ true → length ns ≡ 3
  pub three : takes_two (get_or ns 0 0) ≡ false → length ns ≡ 4
  pub long : 3 ≤ length ns

pub step_shape : (ns : List ℕ) → are_narrow ns ≡ true → (r : Record) → IsText (codes "!step" ++ spaced ns) r → IsStep ns
step_shape ns n r t =
    let b = step_back (spaced ns) r t in
    go b.0 b.1 b.2 b.3 (spaced_same ns (b.0 ∷ b.1 ∷ b.2 ∷ third_numbers b.0 b.3) n b.4.narrow b.4.same) b.5
  where
    longer : (k f g h : ℕ) (two : Bool) → 3 ≤ length (k ∷ f ∷ g ∷ cond two [] (h ∷ []))
    longer k f g h true = omega arith
    longer k f g h false = omega arith

    go : (k f g h : ℕ) → ns ≡ k ∷ f ∷ g ∷ third_numbers k h → (nat_le 3 k && nat_le k 9) ≡ true → IsStep ns
    go k f g h e s = subst IsStep (sym e) (record {
      rule = s;
      two = λ w. ap (λ x. length (k ∷ f ∷ g ∷ cond x [] (h ∷ []))) w;
      three = λ w. ap (λ x. length (k ∷ f ∷ g ∷ cond x [] (h ∷ []))) w;
      long = longer k f g h (takes_two k);
    })

pub step_second : (ns : List ℕ) (k : ℕ) → length ns ≡ 3 → k ≡ get_or ns 0 0 → (nat_le 3 k && nat_le k 9) ≡ true → takes_two k ≡ true → are_narrow ns ≡ true → IsText (codes "!step" ++ spaced ns) (Step k (get_or ns 1 0) (get_or ns 2 0) 0)
step_second [] k l e s w n = absurd (omega (arith, l))
step_second (a ∷ []) k l e s w n = absurd (omega (arith, l))
step_second (a ∷ f ∷ []) k l e s w n = absurd (omega (arith, l))
step_second (a ∷ f ∷ g ∷ []) k l e s w n =
    let m : are_narrow (k ∷ f ∷ g ∷ []) ≡ true = subst (λ x. are_narrow (x ∷ f ∷ g ∷ []) ≡ true) (sym e) n in
    let p = and_parts (nat_lt k (2 ^ 32)) (are_narrow (f ∷ g ∷ [])) m in
    let q = and_parts (nat_lt f (2 ^ 32)) (are_narrow (g ∷ [])) p.1 in
    let r = and_parts (nat_lt g (2 ^ 32)) true q.1 in
    record {
      same = ap (λ x. codes "!step" ++ spaced (x ∷ f ∷ g ∷ [])) (sym e) ∙ ap (λ x. codes "!step" ++ spaced (k ∷ f ∷ g ∷ cond x [] (0 ∷ []))) (sym w);
      spelled = and_from (nat_le 3 k && nat_le k 9) (not (takes_two k) || (0 == 0)) s (ap (λ x. not x || true) w);
      sized = and_from (nat_lt k (2 ^ 32)) (are_narrow (f ∷ g ∷ 0 ∷ [])) p.0 (and_from (nat_lt f (2 ^ 32)) (are_narrow (g ∷ 0 ∷ [])) q.0 (and_from (nat_lt g (2 ^ 32)) (are_narrow (0 ∷ [])) r.0 refl));
    }
step_second (a ∷ f ∷ g ∷ h ∷ ns) k l e s w n = absurd (omega (arith, l))

pub step_third : (ns : List ℕ) (k : ℕ) → length ns ≡ 4 → k ≡ get_or ns 0 0 → (nat_le 3 k && nat_le k 9) ≡ true → takes_two k ≡ false → are_narrow ns ≡ true → IsText (codes "!step" ++ spaced ns) (Step k (get_or ns 1 0) (get_or ns 2 0) (get_or ns 3 0))
step_third [] k l e s w n = absurd (omega (arith, l))
step_third (a ∷ []) k l e s w n = absurd (omega (arith, l))
step_third (a ∷ f ∷ []) k l e s w n = absurd (omega (arith, l))
step_third (a ∷ f ∷ g ∷ []) k l e s w n = absurd (omega (arith, l))
step_third (a ∷ f ∷ g ∷ h ∷ []) k l e s w n = record {
  same = ap (λ x. codes "!step" ++ spaced (x ∷ f ∷ g ∷ h ∷ [])) (sym e) ∙ ap (λ x. codes "!step" ++ spaced (k ∷ f ∷ g ∷ cond x [] (h ∷ []))) (sym w);
  spelled = and_from (nat_le 3 k && nat_le k 9) (not (takes_two k) || (h == 0)) s (ap (λ x. not x || (h == 0)) w);
  sized = subst (λ x. are_narrow (x ∷ f ∷ g ∷ h ∷ []) ≡ true) (sym e) n;
}
step_third (a ∷ f ∷ g ∷ h ∷ i ∷ ns) k l e s w n = absurd (omega (arith, l))
