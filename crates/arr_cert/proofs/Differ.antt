-- No two certificates have one text.
use Rattle.std.proofs.Common.{◌≡◌, ◌≢◌, ℕ, ◌^◌, ◌<◌, ◌≤◌, List, [], ◌∷◌, ◌++◌, length, get_or, drop, Bool, true, false, cond, not, ◌&&◌, ◌||◌, refl, sym, ap, ◌∙◌, subst, arith, append_assoc, decimal}
use Rattle.std.specs.Prelude.{nat_lt, nat_le, ◌==◌}
use Rattle.std.specs.List.{flat_map, list_all}
use Rattle.std.specs.Char.{digit_value}
use Rattle.std.specs.Str.Parse.{AllDigits}
use Rattle.std.proofs.lemmas.Bool.{and_parts, and_from, ltb-true, leb-true, eqb-true, eqb-false, true≢false}
use Rattle.std.proofs.lemmas.Fmt.{decimal_is_IsNumeral, decimal_injective}
use Rattle.arr_ops.proofs.Tests.{or_cases}
use Rattle.arr_law.specs.declared.charge.Charge.{Charge}
use Rattle.arr_law.specs.declared.record.Record.{Record}
use Rattle.arr_law.specs.declared.record.Record.TheVariants.{Flush, Plan, Cost, Bound, Step, Branch, Dead, Worth, End}
use Rattle.arr_law.specs.Verdict.{records_of}
use Rattle.arr_cert.specs.Texts.{behind, spaced, first_text, group_text, version_numbers, takes_two, third_numbers, line_text, is_group_spelled, is_spelled}
use Rattle.arr_cert.specs.Laws.{numbers_of, is_plain, TextsDiffer}

-- ---- what stands behind a number

-- a byte that is no digit comes first
abbrev Stops : List ℕ → Type 0
Stops [] = ⊥
Stops (a ∷ X) = digit_value a < 10 → ⊥

-- a byte other than the sign comes first
abbrev Leaves : ℕ → List ℕ → Type 0
Leaves sign [] = ⊥
Leaves sign (a ∷ X) = a ≢ sign

digits_back : (xs ys X Y : List ℕ) → AllDigits 10 xs → AllDigits 10 ys → Stops X → Stops Y → xs ++ X ≡ ys ++ Y → (xs ≡ ys) × (X ≡ Y)
digits_back [] [] X Y p q s t e = (refl, e)
digits_back [] (y ∷ ys) [] Y p q s t e = absurd s
digits_back [] (y ∷ ys) (a ∷ X) Y p q s t e = let same : a ≡ y = cc in absurd (s (subst (λ c. digit_value c < 10) (sym same) q.0))
digits_back (x ∷ xs) [] X [] p q s t e = absurd t
digits_back (x ∷ xs) [] X (b ∷ Y) p q s t e = let same : x ≡ b = cc in absurd (t (subst (λ c. digit_value c < 10) same p.0))
digits_back (x ∷ xs) (y ∷ ys) X Y p q s t e =
    let same : x ≡ y = cc in
    let r = digits_back xs ys X Y p.1 q.1 s t (ap (drop 1) e) in
    (ap (λ c. c ∷ xs) same ∙ ap (λ zs. y ∷ zs) r.0, r.1)

number_back : (n m : ℕ) (X Y : List ℕ) → n < 2 ^ 64 → m < 2 ^ 64 → Stops X → Stops Y → decimal n ++ X ≡ decimal m ++ Y → (n ≡ m) × (X ≡ Y)
number_back n m X Y p q s t e =
    let r = digits_back (decimal n) (decimal m) X Y (decimal_is_IsNumeral n p).0.1 (decimal_is_IsNumeral m q).0.1 s t e in
    (decimal_injective n m p q r.0, r.1)

abbrev pub Small : List ℕ → Type 0
Small ns = list_all (λ n. nat_lt n (2 ^ 64)) ns ≡ true

small_first : (n : ℕ) (ns : List ℕ) → Small (n ∷ ns) → (n < 2 ^ 64) × Small ns
small_first n ns h = let p = and_parts (nat_lt n (2 ^ 64)) (list_all (λ n. nat_lt n (2 ^ 64)) ns) h in (ltb-true n (2 ^ 64) p.0, p.1)

stops_behind : (sign : ℕ) (ns Z : List ℕ) → (digit_value sign < 10 → ⊥) → Stops Z → Stops (behind sign ns ++ Z)
stops_behind sign [] Z n s = s
stops_behind sign (m ∷ ns) Z n s = n

behind_back : (sign : ℕ) (ns ms Z W : List ℕ) → (digit_value sign < 10 → ⊥) → Small ns → Small ms → Stops Z → Stops W → Leaves sign Z → Leaves sign W → behind sign ns ++ Z ≡ behind sign ms ++ W → (ns ≡ ms) × (Z ≡ W)
behind_back sign [] [] Z W d p q s t u v e = (refl, e)
behind_back sign [] (m ∷ ms) [] W d p q s t u v e = absurd s
behind_back sign [] (m ∷ ms) (a ∷ Z) W d p q s t u v e = let same : a ≡ sign = cc in absurd (u same)
behind_back sign (n ∷ ns) [] Z [] d p q s t u v e = absurd t
behind_back sign (n ∷ ns) [] Z (b ∷ W) d p q s t u v e = let same : b ≡ sign = cc in absurd (v same)
behind_back sign (n ∷ ns) (m ∷ ms) Z W d p q s t u v e =
    let a = small_first n ns p in
    let b = small_first m ms q in
    let r = number_back n m (behind sign ns ++ Z) (behind sign ms ++ W) a.0 b.0 (stops_behind sign ns Z d s) (stops_behind sign ms W d t)
    (sym (append_assoc (decimal n) (behind sign ns) Z) ∙ (ap (drop 1) e ∙ append_assoc (decimal m) (behind sign ms) W)) in
    let k = behind_back sign ns ms Z W d a.1 b.1 s t u v r.1 in
    (ap (λ c. c ∷ ns) r.0 ∙ ap (λ zs. m ∷ zs) k.0, k.1)

-- the end of a line
pub ends_back : (ns ms X Y : List ℕ) → Small ns → Small ms → (spaced ns ++ 10 ∷ []) ++ X ≡ (spaced ms ++ 10 ∷ []) ++ Y → (ns ≡ ms) × (X ≡ Y)
ends_back ns ms X Y p q e =
    let r = behind_back 32 ns ms (10 ∷ X) (10 ∷ Y) (λ l. absurd (omega arith)) p q (λ l. absurd (omega arith)) (λ l. absurd (omega arith)) (eqb-false 10 32 refl) (eqb-false 10 32 refl)
    (sym (append_assoc (spaced ns) (10 ∷ []) X) ∙ (e ∙ append_assoc (spaced ms) (10 ∷ []) Y)) in
    (r.0, ap (drop 1) r.1)

-- ---- groups

pub small_join : (ns ms : List ℕ) → Small (ns ++ ms) → Small ns × Small ms
small_join [] ms h = (refl, h)
small_join (n ∷ ns) ms h =
    let p = and_parts (nat_lt n (2 ^ 64)) (list_all (λ n. nat_lt n (2 ^ 64)) (ns ++ ms)) h in
    let r = small_join ns ms p.1 in
    (and_from (nat_lt n (2 ^ 64)) (list_all (λ n. nat_lt n (2 ^ 64)) ns) p.0 r.0, r.1)

-- the text of a group of operations
abbrev grouped : ℕ → List ℕ → List ℕ
grouped k ops = (first_text ops ++ (46 ∷ decimal k)) ++ behind 44 (drop 1 ops)

grouped_back : (k j : ℕ) (xs ys Z W : List ℕ) → 1 ≤ length xs → 1 ≤ length ys → Small (k ∷ xs) → Small (j ∷ ys) → Stops Z → Stops W → Leaves 44 Z → Leaves 44 W
    → grouped k xs ++ Z ≡ grouped j ys ++ W → (k ≡ j) × (xs ≡ ys) × (Z ≡ W)
grouped_back k j [] ys Z W l m p q s t u v e = absurd (omega arith)
grouped_back k j (x ∷ xs) [] Z W l m p q s t u v e = absurd (omega arith)
grouped_back k j (x ∷ xs) (y ∷ ys) Z W l m p q s t u v e =
    let a = small_first k (x ∷ xs) p in
    let b = small_first x xs a.1 in
    let c = small_first j (y ∷ ys) q in
    let d = small_first y ys c.1 in
    let one = number_back x y (46 ∷ (decimal k ++ (behind 44 xs ++ Z))) (46 ∷ (decimal j ++ (behind 44 ys ++ W))) b.0 d.0 (λ h. absurd (omega arith)) (λ h. absurd (omega arith))
    (sym (spread x k xs Z) ∙ (ap (drop 1) e ∙ spread y j ys W)) in
    let two = number_back k j (behind 44 xs ++ Z) (behind 44 ys ++ W) a.0 c.0 (stops_behind 44 xs Z (λ h. absurd (omega arith)) s) (stops_behind 44 ys W (λ h. absurd (omega arith)) t) (ap (drop 1) one.1) in
    let three = behind_back 44 xs ys Z W (λ h. absurd (omega arith)) b.1 d.1 s t u v two.1 in
    (two.0, ap (λ n. n ∷ xs) one.0 ∙ ap (λ ns. y ∷ ns) three.0, three.1)
  where
    spread : (x k : ℕ) (xs Z : List ℕ) → ((decimal x ++ (46 ∷ decimal k)) ++ behind 44 xs) ++ Z ≡ decimal x ++ (46 ∷ (decimal k ++ (behind 44 xs ++ Z)))
    spread x k xs Z =
        append_assoc (decimal x ++ (46 ∷ decimal k)) (behind 44 xs) Z
        ∙ (append_assoc (decimal x) (46 ∷ decimal k) (behind 44 xs ++ Z))

stops_groups : (cs : List Charge) (X : List ℕ) → list_all is_group_spelled cs ≡ true → Stops (flat_map group_text cs ++ 10 ∷ X) × Leaves 44 (flat_map group_text cs ++ 10 ∷ X)
stops_groups [] X h = ((λ l. absurd (omega arith)), eqb-false 10 44 refl)
stops_groups (c ∷ cs) X h = go c.ops
  where
    go : (ops : List ℕ) → Stops ((grouped c.operand ops ++ flat_map group_text cs) ++ 10 ∷ X) × Leaves 44 ((grouped c.operand ops ++ flat_map group_text cs) ++ 10 ∷ X)
    go [] = ((λ l. absurd (omega arith)), eqb-false 32 44 refl)
    go (x ∷ xs) = ((λ l. absurd (omega arith)), eqb-false 32 44 refl)

charge_same : (c d : Charge) → c.operand ≡ d.operand → c.ops ≡ d.ops → c ≡ d
charge_same c d e f = λ i. record { operand = e i; ops = f i }

-- a group begins with a blank, and the end of a line does not
blank_first : (c : Charge) (Z : List ℕ) → get_or (group_text c ++ Z) 0 0 ≡ 32
blank_first c Z = go c.ops
  where
    go : (ops : List ℕ) → get_or (grouped c.operand ops ++ Z) 0 0 ≡ 32
    go [] = refl
    go (x ∷ xs) = refl

groups_back : (cs ds : List Charge) (X Y : List ℕ) → list_all is_group_spelled cs ≡ true → list_all is_group_spelled ds ≡ true → Small (flat_map (λ (c : Charge). c.operand ∷ c.ops) cs) → Small (flat_map (λ (c : Charge). c.operand ∷ c.ops) ds)
    → flat_map group_text cs ++ 10 ∷ X ≡ flat_map group_text ds ++ 10 ∷ Y → (cs ≡ ds) × (X ≡ Y)
groups_back [] [] X Y g h p q e = (refl, ap (drop 1) e)
groups_back [] (d ∷ ds) X Y g h p q e =
    absurd (eqb-false 10 32 refl (ap (λ l. get_or l 0 0) (e ∙ append_assoc (group_text d) (flat_map group_text ds) (10 ∷ Y)) ∙ blank_first d (flat_map group_text ds ++ 10 ∷ Y)))
groups_back (c ∷ cs) [] X Y g h p q e =
    absurd (eqb-false 32 10 refl (sym (blank_first c (flat_map group_text cs ++ 10 ∷ X)) ∙ ap (λ l. get_or l 0 0) (sym (append_assoc (group_text c) (flat_map group_text cs) (10 ∷ X)) ∙ e)))
groups_back (c ∷ cs) (d ∷ ds) X Y g h p q e =
    let g2 = and_parts (is_group_spelled c) (list_all is_group_spelled cs) g in
    let h2 = and_parts (is_group_spelled d) (list_all is_group_spelled ds) h in
    let g3 = and_parts (nat_le c.operand 2) (nat_le 1 (length c.ops)) g2.0 in
    let h3 = and_parts (nat_le d.operand 2) (nat_le 1 (length d.ops)) h2.0 in
    let p2 = small_join (c.operand ∷ c.ops) (flat_map (λ (c : Charge). c.operand ∷ c.ops) cs) p in
    let q2 = small_join (d.operand ∷ d.ops) (flat_map (λ (c : Charge). c.operand ∷ c.ops) ds) q in
    let sx = stops_groups cs X g2.1 in
    let sy = stops_groups ds Y h2.1 in
    let r = grouped_back c.operand d.operand c.ops d.ops (flat_map group_text cs ++ 10 ∷ X) (flat_map group_text ds ++ 10 ∷ Y) (leb-true 1 (length c.ops) g3.1) (leb-true 1 (length d.ops) h3.1) p2.0 q2.0 sx.0 sy.0 sx.1 sy.1
    (sym (append_assoc (group_text c) (flat_map group_text cs) (10 ∷ X)) ∙ (e ∙ append_assoc (group_text d) (flat_map group_text ds) (10 ∷ Y))) in
    let k = groups_back cs ds X Y g2.1 h2.1 p2.1 q2.1 r.2 in
    (ap (λ a. a ∷ cs) (charge_same c d r.0 r.1) ∙ ap (λ others. d ∷ others) k.0, k.1)

-- ---- records

version_back : (v w : ℕ) → ((v == 1) || (v == 2)) ≡ true → ((w == 1) || (w == 2)) ≡ true → version_numbers v ≡ version_numbers w → v ≡ w
version_back v w a b e = go (v == 1) refl (w == 1) refl e
  where
    two : (x : ℕ) → (x == 1) ≡ false → ((x == 1) || (x == 2)) ≡ true → x ≡ 2
    two x n h = or_cases (x == 1) (x == 2) h (λ k. absurd (true≢false (sym k ∙ n))) (λ k. eqb-true x 2 k)

    go : (p : Bool) → (v == 1) ≡ p → (q : Bool) → (w == 1) ≡ q → cond p [] (v ∷ []) ≡ cond q [] (w ∷ []) → v ≡ w
    go true m true n h = eqb-true v 1 m ∙ sym (eqb-true w 1 n)
    go true m false n h = absurd (cc)
    go false m true n h = absurd (cc)
    go false m false n h = two v m a ∙ sym (two w n b)

third_back : (k h j : ℕ) → (not (takes_two k) || (h == 0)) ≡ true → (not (takes_two k) || (j == 0)) ≡ true → third_numbers k h ≡ third_numbers k j → h ≡ j
third_back k h j a b e = go (takes_two k) a b e
  where
    go : (t : Bool) → (not t || (h == 0)) ≡ true → (not t || (j == 0)) ≡ true → cond t [] (h ∷ []) ≡ cond t [] (j ∷ []) → h ≡ j
    go true a b e = eqb-true h 0 a ∙ sym (eqb-true j 0 b)
    go false a b e = cc

abbrev pub Back : Record → Record → List ℕ → List ℕ → Type 0
Back r s X Y = (r ≡ s) × (X ≡ Y)

small_of : (r : Record) → is_plain r ≡ true → (is_spelled r ≡ true) × Small (numbers_of r)
small_of r h = and_parts (is_spelled r) (list_all (λ n. nat_lt n (2 ^ 64)) (numbers_of r)) h

step_small : (k f g h : ℕ) → Small (k ∷ f ∷ g ∷ h ∷ []) → Small (k ∷ f ∷ g ∷ third_numbers k h)
step_small k f g h p = go (takes_two k)
  where
    q : Small (k ∷ f ∷ g ∷ []) × Small (h ∷ [])
    q = small_join (k ∷ f ∷ g ∷ []) (h ∷ []) p

    go : (t : Bool) → Small (k ∷ f ∷ g ∷ cond t [] (h ∷ []))
    go true = q.0
    go false = p

head_small : (n c v : ℕ) → Small (n ∷ c ∷ v ∷ []) → Small (n ∷ c ∷ version_numbers v)
head_small n c v p = go (v == 1)
  where
    q : Small (n ∷ c ∷ []) × Small (v ∷ [])
    q = small_join (n ∷ c ∷ []) (v ∷ []) p

    go : (t : Bool) → Small (n ∷ c ∷ cond t [] (v ∷ []))
    go true = q.0
    go false = p

pub line_back : (r s : Record) (X Y : List ℕ) → is_plain r ≡ true → is_plain s ≡ true → line_text r ++ X ≡ line_text s ++ Y → Back r s X Y
line_back (Flush n c v) (Flush m d w) X Y p q e =
    let a = small_of (Flush n c v) p in
    let b = small_of (Flush m d w) q in
    let h = ends_back (n ∷ c ∷ version_numbers v) (m ∷ d ∷ version_numbers w) X Y (head_small n c v a.1) (head_small m d w b.1) (ap (drop 6) e) in
    let x : n ≡ m = ap (λ l. get_or l 0 0) h.0 in
    let y : c ≡ d = ap (λ l. get_or l 1 0) h.0 in
    let z : v ≡ w = version_back v w a.0 b.0 (ap (drop 2) h.0) in
    ((λ i. Flush (x i) (y i) (z i)), h.1)
line_back (Flush _ _ _) (Plan _) X Y p q e = absurd (eqb-false 102 112 refl (ap (λ l. get_or l 1 0) e))
line_back (Flush _ _ _) (Cost _) X Y p q e = absurd (eqb-false 102 99 refl (ap (λ l. get_or l 1 0) e))
line_back (Flush _ _ _) (Bound _) X Y p q e = absurd (eqb-false 102 98 refl (ap (λ l. get_or l 1 0) e))
line_back (Flush _ _ _) (Step _ _ _ _) X Y p q e = absurd (eqb-false 102 115 refl (ap (λ l. get_or l 1 0) e))
line_back (Flush _ _ _) (Branch _ _) X Y p q e = absurd (eqb-false 102 98 refl (ap (λ l. get_or l 1 0) e))
line_back (Flush _ _ _) (Dead _ _) X Y p q e = absurd (eqb-false 102 100 refl (ap (λ l. get_or l 1 0) e))
line_back (Flush _ _ _) (Worth _) X Y p q e = absurd (eqb-false 102 119 refl (ap (λ l. get_or l 1 0) e))
line_back (Flush _ _ _) End X Y p q e = absurd (eqb-false 102 101 refl (ap (λ l. get_or l 1 0) e))
line_back (Plan _) (Flush _ _ _) X Y p q e = absurd (eqb-false 112 102 refl (ap (λ l. get_or l 1 0) e))
line_back (Plan a) (Plan b) X Y p q e =
    let h = ends_back a b X Y (small_of (Plan a) p).1 (small_of (Plan b) q).1 (ap (drop 5) e) in
    (ap Plan h.0, h.1)
line_back (Plan _) (Cost _) X Y p q e = absurd (eqb-false 112 99 refl (ap (λ l. get_or l 1 0) e))
line_back (Plan _) (Bound _) X Y p q e = absurd (eqb-false 112 98 refl (ap (λ l. get_or l 1 0) e))
line_back (Plan _) (Step _ _ _ _) X Y p q e = absurd (eqb-false 112 115 refl (ap (λ l. get_or l 1 0) e))
line_back (Plan _) (Branch _ _) X Y p q e = absurd (eqb-false 112 98 refl (ap (λ l. get_or l 1 0) e))
line_back (Plan _) (Dead _ _) X Y p q e = absurd (eqb-false 112 100 refl (ap (λ l. get_or l 1 0) e))
line_back (Plan _) (Worth _) X Y p q e = absurd (eqb-false 112 119 refl (ap (λ l. get_or l 1 0) e))
line_back (Plan _) End X Y p q e = absurd (eqb-false 112 101 refl (ap (λ l. get_or l 1 0) e))
line_back (Cost _) (Flush _ _ _) X Y p q e = absurd (eqb-false 99 102 refl (ap (λ l. get_or l 1 0) e))
line_back (Cost _) (Plan _) X Y p q e = absurd (eqb-false 99 112 refl (ap (λ l. get_or l 1 0) e))
line_back (Cost a) (Cost b) X Y p q e =
    let h = ends_back (a ∷ []) (b ∷ []) X Y (small_of (Cost a) p).1 (small_of (Cost b) q).1 (ap (drop 5) e) in
    (ap (λ l. Cost (get_or l 0 0)) h.0, h.1)
line_back (Cost _) (Bound _) X Y p q e = absurd (eqb-false 99 98 refl (ap (λ l. get_or l 1 0) e))
line_back (Cost _) (Step _ _ _ _) X Y p q e = absurd (eqb-false 99 115 refl (ap (λ l. get_or l 1 0) e))
line_back (Cost _) (Branch _ _) X Y p q e = absurd (eqb-false 99 98 refl (ap (λ l. get_or l 1 0) e))
line_back (Cost _) (Dead _ _) X Y p q e = absurd (eqb-false 99 100 refl (ap (λ l. get_or l 1 0) e))
line_back (Cost _) (Worth _) X Y p q e = absurd (eqb-false 99 119 refl (ap (λ l. get_or l 1 0) e))
line_back (Cost _) End X Y p q e = absurd (eqb-false 99 101 refl (ap (λ l. get_or l 1 0) e))
line_back (Bound _) (Flush _ _ _) X Y p q e = absurd (eqb-false 98 102 refl (ap (λ l. get_or l 1 0) e))
line_back (Bound _) (Plan _) X Y p q e = absurd (eqb-false 98 112 refl (ap (λ l. get_or l 1 0) e))
line_back (Bound _) (Cost _) X Y p q e = absurd (eqb-false 98 99 refl (ap (λ l. get_or l 1 0) e))
line_back (Bound a) (Bound b) X Y p q e =
    let h = ends_back (a ∷ []) (b ∷ []) X Y (small_of (Bound a) p).1 (small_of (Bound b) q).1 (ap (drop 6) e) in
    (ap (λ l. Bound (get_or l 0 0)) h.0, h.1)
line_back (Bound _) (Step _ _ _ _) X Y p q e = absurd (eqb-false 98 115 refl (ap (λ l. get_or l 1 0) e))
line_back (Bound _) (Branch _ _) X Y p q e = absurd (eqb-false 111 114 refl (ap (λ l. get_or l 2 0) e))
line_back (Bound _) (Dead _ _) X Y p q e = absurd (eqb-false 98 100 refl (ap (λ l. get_or l 1 0) e))
line_back (Bound _) (Worth _) X Y p q e = absurd (eqb-false 98 119 refl (ap (λ l. get_or l 1 0) e))
line_back (Bound _) End X Y p q e = absurd (eqb-false 98 101 refl (ap (λ l. get_or l 1 0) e))
line_back (Step _ _ _ _) (Flush _ _ _) X Y p q e = absurd (eqb-false 115 102 refl (ap (λ l. get_or l 1 0) e))
line_back (Step _ _ _ _) (Plan _) X Y p q e = absurd (eqb-false 115 112 refl (ap (λ l. get_or l 1 0) e))
line_back (Step _ _ _ _) (Cost _) X Y p q e = absurd (eqb-false 115 99 refl (ap (λ l. get_or l 1 0) e))
line_back (Step _ _ _ _) (Bound _) X Y p q e = absurd (eqb-false 115 98 refl (ap (λ l. get_or l 1 0) e))
line_back (Step k f g h) (Step l m n o) X Y p q e =
    let a = small_of (Step k f g h) p in
    let b = small_of (Step l m n o) q in
    let r = ends_back (k ∷ f ∷ g ∷ third_numbers k h) (l ∷ m ∷ n ∷ third_numbers l o) X Y (step_small k f g h a.1) (step_small l m n o b.1) (ap (drop 5) e) in
    let x : k ≡ l = ap (λ ns. get_or ns 0 0) r.0 in
    let y : f ≡ m = ap (λ ns. get_or ns 1 0) r.0 in
    let z : g ≡ n = ap (λ ns. get_or ns 2 0) r.0 in
    let c = and_parts (nat_le 3 k && nat_le k 9) (not (takes_two k) || (h == 0)) a.0 in
    let d = and_parts (nat_le 3 l && nat_le l 9) (not (takes_two l) || (o == 0)) b.0 in
    let w : h ≡ o = third_back k h o c.1 (subst (λ j. (not (takes_two j) || (o == 0)) ≡ true) (sym x) d.1) (ap (drop 3) r.0 ∙ ap (λ j. third_numbers j o) (sym x)) in
    ((λ i. Step (x i) (y i) (z i) (w i)), r.1)
line_back (Step _ _ _ _) (Branch _ _) X Y p q e = absurd (eqb-false 115 98 refl (ap (λ l. get_or l 1 0) e))
line_back (Step _ _ _ _) (Dead _ _) X Y p q e = absurd (eqb-false 115 100 refl (ap (λ l. get_or l 1 0) e))
line_back (Step _ _ _ _) (Worth _) X Y p q e = absurd (eqb-false 115 119 refl (ap (λ l. get_or l 1 0) e))
line_back (Step _ _ _ _) End X Y p q e = absurd (eqb-false 115 101 refl (ap (λ l. get_or l 1 0) e))
line_back (Branch _ _) (Flush _ _ _) X Y p q e = absurd (eqb-false 98 102 refl (ap (λ l. get_or l 1 0) e))
line_back (Branch _ _) (Plan _) X Y p q e = absurd (eqb-false 98 112 refl (ap (λ l. get_or l 1 0) e))
line_back (Branch _ _) (Cost _) X Y p q e = absurd (eqb-false 98 99 refl (ap (λ l. get_or l 1 0) e))
line_back (Branch _ _) (Bound _) X Y p q e = absurd (eqb-false 114 111 refl (ap (λ l. get_or l 2 0) e))
line_back (Branch _ _) (Step _ _ _ _) X Y p q e = absurd (eqb-false 98 115 refl (ap (λ l. get_or l 1 0) e))
line_back (Branch f g) (Branch m n) X Y p q e =
    let h = ends_back (f ∷ g ∷ []) (m ∷ n ∷ []) X Y (small_of (Branch f g) p).1 (small_of (Branch m n) q).1 (ap (drop 7) e) in
    (ap (λ l. Branch (get_or l 0 0) (get_or l 1 0)) h.0, h.1)
line_back (Branch _ _) (Dead _ _) X Y p q e = absurd (eqb-false 98 100 refl (ap (λ l. get_or l 1 0) e))
line_back (Branch _ _) (Worth _) X Y p q e = absurd (eqb-false 98 119 refl (ap (λ l. get_or l 1 0) e))
line_back (Branch _ _) End X Y p q e = absurd (eqb-false 98 101 refl (ap (λ l. get_or l 1 0) e))
line_back (Dead _ _) (Flush _ _ _) X Y p q e = absurd (eqb-false 100 102 refl (ap (λ l. get_or l 1 0) e))
line_back (Dead _ _) (Plan _) X Y p q e = absurd (eqb-false 100 112 refl (ap (λ l. get_or l 1 0) e))
line_back (Dead _ _) (Cost _) X Y p q e = absurd (eqb-false 100 99 refl (ap (λ l. get_or l 1 0) e))
line_back (Dead _ _) (Bound _) X Y p q e = absurd (eqb-false 100 98 refl (ap (λ l. get_or l 1 0) e))
line_back (Dead _ _) (Step _ _ _ _) X Y p q e = absurd (eqb-false 100 115 refl (ap (λ l. get_or l 1 0) e))
line_back (Dead _ _) (Branch _ _) X Y p q e = absurd (eqb-false 100 98 refl (ap (λ l. get_or l 1 0) e))
line_back (Dead f g) (Dead m n) X Y p q e =
    let h = ends_back (f ∷ g ∷ []) (m ∷ n ∷ []) X Y (small_of (Dead f g) p).1 (small_of (Dead m n) q).1 (ap (drop 5) e) in
    (ap (λ l. Dead (get_or l 0 0) (get_or l 1 0)) h.0, h.1)
line_back (Dead _ _) (Worth _) X Y p q e = absurd (eqb-false 100 119 refl (ap (λ l. get_or l 1 0) e))
line_back (Dead _ _) End X Y p q e = absurd (eqb-false 100 101 refl (ap (λ l. get_or l 1 0) e))
line_back (Worth _) (Flush _ _ _) X Y p q e = absurd (eqb-false 119 102 refl (ap (λ l. get_or l 1 0) e))
line_back (Worth _) (Plan _) X Y p q e = absurd (eqb-false 119 112 refl (ap (λ l. get_or l 1 0) e))
line_back (Worth _) (Cost _) X Y p q e = absurd (eqb-false 119 99 refl (ap (λ l. get_or l 1 0) e))
line_back (Worth _) (Bound _) X Y p q e = absurd (eqb-false 119 98 refl (ap (λ l. get_or l 1 0) e))
line_back (Worth _) (Step _ _ _ _) X Y p q e = absurd (eqb-false 119 115 refl (ap (λ l. get_or l 1 0) e))
line_back (Worth _) (Branch _ _) X Y p q e = absurd (eqb-false 119 98 refl (ap (λ l. get_or l 1 0) e))
line_back (Worth _) (Dead _ _) X Y p q e = absurd (eqb-false 119 100 refl (ap (λ l. get_or l 1 0) e))
line_back (Worth cs) (Worth ds) X Y p q e =
    let a = small_of (Worth cs) p in
    let b = small_of (Worth ds) q in
    let h = groups_back cs ds X Y a.0 b.0 a.1 b.1 (sym (append_assoc (flat_map group_text cs) (10 ∷ []) X) ∙ (ap (drop 6) e ∙ append_assoc (flat_map group_text ds) (10 ∷ []) Y)) in
    (ap Worth h.0, h.1)
line_back (Worth _) End X Y p q e = absurd (eqb-false 119 101 refl (ap (λ l. get_or l 1 0) e))
line_back End (Flush _ _ _) X Y p q e = absurd (eqb-false 101 102 refl (ap (λ l. get_or l 1 0) e))
line_back End (Plan _) X Y p q e = absurd (eqb-false 101 112 refl (ap (λ l. get_or l 1 0) e))
line_back End (Cost _) X Y p q e = absurd (eqb-false 101 99 refl (ap (λ l. get_or l 1 0) e))
line_back End (Bound _) X Y p q e = absurd (eqb-false 101 98 refl (ap (λ l. get_or l 1 0) e))
line_back End (Step _ _ _ _) X Y p q e = absurd (eqb-false 101 115 refl (ap (λ l. get_or l 1 0) e))
line_back End (Branch _ _) X Y p q e = absurd (eqb-false 101 98 refl (ap (λ l. get_or l 1 0) e))
line_back End (Dead _ _) X Y p q e = absurd (eqb-false 101 100 refl (ap (λ l. get_or l 1 0) e))
line_back End (Worth _) X Y p q e = absurd (eqb-false 101 119 refl (ap (λ l. get_or l 1 0) e))
line_back End End X Y p q e =
    (refl, ap (drop 5) e)

-- ---- certificates

no_line : (r : Record) (X : List ℕ) → [] ≡ line_text r ++ X → ⊥
no_line (Flush _ _ _) X e = absurd (cc)
no_line (Plan _) X e = absurd (cc)
no_line (Cost _) X e = absurd (cc)
no_line (Bound _) X e = absurd (cc)
no_line (Step _ _ _ _) X e = absurd (cc)
no_line (Branch _ _) X e = absurd (cc)
no_line (Dead _ _) X e = absurd (cc)
no_line (Worth _) X e = absurd (cc)
no_line End X e = absurd (cc)

lines_back : (rs ss : List Record) → list_all is_plain rs ≡ true → list_all is_plain ss ≡ true → flat_map line_text rs ≡ flat_map line_text ss → rs ≡ ss
lines_back [] [] p q e = refl
lines_back [] (s ∷ ss) p q e = absurd (no_line s (flat_map line_text ss) e)
lines_back (r ∷ rs) [] p q e = absurd (no_line r (flat_map line_text rs) (sym e))
lines_back (r ∷ rs) (s ∷ ss) p q e =
    let a = and_parts (is_plain r) (list_all is_plain rs) p in
    let b = and_parts (is_plain s) (list_all is_plain ss) q in
    let h = line_back r s (flat_map line_text rs) (flat_map line_text ss) a.0 b.0 e in
    ap (λ x. x ∷ rs) h.0 ∙ ap (λ xs. s ∷ xs) (lines_back rs ss a.1 b.1 h.1)

-- the head, the plan, the cost, the bound and the tree of records
abbrev number_in : List Record → ℕ
number_in (Flush n c v ∷ rs) = n
number_in _ = 0

abbrev count_in : List Record → ℕ
count_in (Flush n c v ∷ rs) = c
count_in _ = 0

abbrev version_in : List Record → ℕ
version_in (Flush n c v ∷ rs) = v
version_in _ = 0

abbrev places_in : List Record → List ℕ
places_in (r ∷ Plan ps ∷ rs) = ps
places_in _ = []

abbrev cost_in : List Record → ℕ
cost_in (r ∷ s ∷ Cost c ∷ rs) = c
cost_in _ = 0

abbrev bound_in : List Record → ℕ
bound_in (r ∷ s ∷ t ∷ Bound b ∷ rs) = b
bound_in _ = 0

abbrev before_last : List Record → List Record
before_last [] = []
before_last (r ∷ []) = []
before_last (r ∷ s ∷ rs) = r ∷ before_last (s ∷ rs)

without_end : (rs : List Record) → before_last (rs ++ End ∷ []) ≡ rs
without_end [] = refl
without_end (r ∷ []) = refl
without_end (r ∷ s ∷ rs) = ap (λ xs. r ∷ xs) (without_end (s ∷ rs))

pub texts_differ : TextsDiffer
texts_differ c d p q e =
    let h : records_of c ≡ records_of d = lines_back (records_of c) (records_of d) p q e in
    let tree : c.tree ≡ d.tree = sym (without_end c.tree) ∙ (ap (λ rs. before_last (drop 4 rs)) h ∙ without_end d.tree) in
    λ i. record {
      version = ap version_in h i;
      number = ap number_in h i;
      count = ap count_in h i;
      places = ap places_in h i;
      cost = ap cost_in h i;
      bound = ap bound_in h i;
      tree = tree i;
    }
