-- The lines of records, from their parts.
use Rattle.std.proofs.Common.{◌≡◌, ◌≢◌, ℕ, suc, zero, ◌+◌, ◌≤◌, List, [], ◌∷◌, ◌++◌, length, take, drop, Option, Some, Result, Ok, true, false, cond, refl, sym, ap, ap₂, ◌∙◌, arith, append_assoc, codes, decimal}
use Rattle.std.specs.Prelude.{slice_get}
use Rattle.std.specs.List.{flat_map}
use Rattle.std.proofs.lemmas.Bool.{eq-eqb, ne_eqb}
use Rattle.std.proofs.lemmas.List.{append-nil}
use Rattle.arr_law.specs.declared.certificate.Certificate.{Certificate}
use Rattle.arr_law.specs.declared.record.Record.{Record}
use Rattle.arr_law.specs.declared.record.Record.TheVariants.{Flush, Plan, Cost, Bound, Step, End}
use Rattle.arr_cert.specs.Texts.{behind, spaced, first_text, version_numbers, takes_two, third_numbers, line_text, certificate_text}
use Rattle.arr_cert.specs.Wrote.{Wrote, WroteMore}
use Rattle.arr_cert.proofs.Writes.{wrote_both, wrote_whole, pieces_at}

pub first_none : (ops : List ℕ) → length ops ≡ 0 → 32 ∷ [] ≡ first_text ops
first_none [] e = refl
first_none (f ∷ fs) e = absurd (omega arith)

pub first_some : (ops : List ℕ) (x : ℕ) → slice_get ops 0 ≡ Some x → 32 ∷ decimal x ≡ first_text ops
first_some [] x e = absurd (cc)
first_some (f ∷ fs) x e = let same : x ≡ f = cc in ap (λ n. 32 ∷ decimal n) same

-- the operations behind the first, one more
pub others_at : (ops : List ℕ) (i x : ℕ) → 1 ≤ i → slice_get ops i ≡ Some x → behind 44 (drop 1 (take i ops)) ++ (44 ∷ decimal x) ≡ behind 44 (drop 1 (take (i + 1) ops))
others_at [] i x l e = absurd (cc)
others_at (f ∷ fs) zero x l e = absurd (omega arith)
others_at (f ∷ fs) (suc i) x l e =
    let same : suc (i + 1) ≡ suc i + 1 = omega arith in
    pieces_at (λ n. 44 ∷ decimal n) fs i x e ∙ ap (λ k. behind 44 (drop 1 (take k (f ∷ fs)))) same

pub head_first : (n c v m d : ℕ) → m ≡ n → d ≡ c → v ≡ 1 → (codes "!flush" ++ spaced (m ∷ d ∷ [])) ++ 10 ∷ [] ≡ line_text (Flush n c v)
head_first n c v m d p q e =
    let none : version_numbers v ≡ [] = ap (λ b. cond b [] (v ∷ [])) (eq-eqb v 1 e) in
    ap₂ (λ a b. (codes "!flush" ++ spaced (a ∷ b ∷ [])) ++ 10 ∷ []) p q ∙ ap (λ t. (codes "!flush" ++ spaced (n ∷ c ∷ t)) ++ 10 ∷ []) (sym none)

pub head_second : (n c v m d w : ℕ) → m ≡ n → d ≡ c → w ≡ v → v ≢ 1 → (codes "!flush" ++ spaced (m ∷ d ∷ w ∷ [])) ++ 10 ∷ [] ≡ line_text (Flush n c v)
head_second n c v m d w p q r e =
    let one : version_numbers v ≡ v ∷ [] = ap (λ b. cond b [] (v ∷ [])) (ne_eqb v 1 e) in
    ap₂ (λ a b. (codes "!flush" ++ spaced (a ∷ b ∷ w ∷ [])) ++ 10 ∷ []) p q ∙ (ap (λ k. (codes "!flush" ++ spaced (n ∷ c ∷ k ∷ [])) ++ 10 ∷ []) r ∙ ap (λ t. (codes "!flush" ++ spaced (n ∷ c ∷ t)) ++ 10 ∷ []) (sym one))

pub step_two : (k f g h j x y : ℕ) → j ≡ k → x ≡ f → y ≡ g → takes_two k ≡ true → (codes "!step" ++ spaced (j ∷ x ∷ y ∷ [])) ++ 10 ∷ [] ≡ line_text (Step k f g h)
step_two k f g h j x y p q r e =
    let none : third_numbers k h ≡ [] = ap (λ b. cond b [] (h ∷ [])) e in
    ap₂ (λ a b. (codes "!step" ++ spaced (a ∷ b ∷ y ∷ [])) ++ 10 ∷ []) p q ∙ (ap (λ z. (codes "!step" ++ spaced (k ∷ f ∷ z ∷ [])) ++ 10 ∷ []) r ∙ ap (λ t. (codes "!step" ++ spaced (k ∷ f ∷ g ∷ t)) ++ 10 ∷ []) (sym none))

pub step_three : (k f g h j x y z : ℕ) → j ≡ k → x ≡ f → y ≡ g → z ≡ h → takes_two k ≡ false → (codes "!step" ++ spaced (j ∷ x ∷ y ∷ z ∷ [])) ++ 10 ∷ [] ≡ line_text (Step k f g h)
step_three k f g h j x y z p q r s e =
    let one : third_numbers k h ≡ h ∷ [] = ap (λ b. cond b [] (h ∷ [])) e in
    ap₂ (λ a b. (codes "!step" ++ spaced (a ∷ b ∷ y ∷ z ∷ [])) ++ 10 ∷ []) p q ∙ (ap₂ (λ a b. (codes "!step" ++ spaced (k ∷ f ∷ a ∷ b ∷ [])) ++ 10 ∷ []) r s ∙ ap (λ t. (codes "!step" ++ spaced (k ∷ f ∷ g ∷ t)) ++ 10 ∷ []) (sym one))

lines_join : (rs ss : List Record) → flat_map line_text rs ++ flat_map line_text ss ≡ flat_map line_text (rs ++ ss)
lines_join [] ss = refl
lines_join (r ∷ rs) ss = append_assoc (line_text r) (flat_map line_text rs) (flat_map line_text ss) ∙ ap (λ t. line_text r ++ t) (lines_join rs ss)

-- the parts of a certificate, one after another
pub certificate_wrote : (T E : Type 0) (c : Certificate) (a0 a1 a2 a3 a4 a5 a6 : Option (List ℕ)) (m0 m1 m2 m3 m4 m5 m6 : ℕ) (v : T) (r1 r2 r3 r4 r5 r6 : Result T E)
    → WroteMore a0 a1 m0 m1 (Ok v) r1 (line_text (Flush c.number c.count c.version)) → WroteMore a1 a2 m1 m2 r1 r2 (line_text (Plan c.places)) → WroteMore a2 a3 m2 m3 r2 r3 (line_text (Cost c.cost))
    → WroteMore a3 a4 m3 m4 r3 r4 (line_text (Bound c.bound)) → WroteMore a4 a5 m4 m5 r4 r5 (flat_map line_text c.tree) → WroteMore a5 a6 m5 m6 r5 r6 (line_text End) → Wrote a0 a6 m0 m6 r6 (certificate_text c)
certificate_wrote T E c a0 a1 a2 a3 a4 a5 a6 m0 m1 m2 m3 m4 m5 m6 v r1 r2 r3 r4 r5 r6 head plan cost bound tree end =
    let e : flat_map line_text c.tree ++ line_text End ≡ flat_map line_text (c.tree ++ End ∷ []) = ap (λ t. flat_map line_text c.tree ++ t) (sym (append-nil (line_text End))) ∙ lines_join c.tree (End ∷ []) in
    wrote_whole T E a0 a6 m0 m6 v r6 (certificate_text c)
    (wrote_both T E a0 a1 a6 m0 m1 m6 (Ok v) r1 r6 (line_text (Flush c.number c.count c.version)) (line_text (Plan c.places) ++ (line_text (Cost c.cost) ++ (line_text (Bound c.bound) ++ flat_map line_text (c.tree ++ End ∷ [])))) (certificate_text c) head
    (wrote_both T E a1 a2 a6 m1 m2 m6 r1 r2 r6 (line_text (Plan c.places)) (line_text (Cost c.cost) ++ (line_text (Bound c.bound) ++ flat_map line_text (c.tree ++ End ∷ []))) _ plan
    (wrote_both T E a2 a3 a6 m2 m3 m6 r2 r3 r6 (line_text (Cost c.cost)) (line_text (Bound c.bound) ++ flat_map line_text (c.tree ++ End ∷ [])) _ cost
    (wrote_both T E a3 a4 a6 m3 m4 m6 r3 r4 r6 (line_text (Bound c.bound)) (flat_map line_text (c.tree ++ End ∷ [])) _ bound
    (wrote_both T E a4 a5 a6 m4 m5 m6 r4 r5 r6 (flat_map line_text c.tree) (line_text End) _ tree end e) refl) refl) refl) refl)
