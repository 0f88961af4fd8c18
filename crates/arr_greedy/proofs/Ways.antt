-- Two nodes made one: when the graph can still be ranked, and what can then be reached.
use Rattle.std.proofs.Common.{◌≡◌, ℕ, ◌+◌, ◌≤◌, ◌<◌, List, [], ◌∷◌, ◌++◌, Bool, true, false, cond, ◌||◌, ◌&&◌, refl, ap, ap₂, sym, subst, ◌∙◌, arith, ◌⊎◌, inl, inr}
use Rattle.std.proofs.lemmas.Bool.{false≢true, both_ways, eq-eqb, ne_eqb, and_parts, or_cases, or_left, or_right, and_from, cases_eq, cases_lt}
use Rattle.std.specs.Prelude.{◌==◌}
use Rattle.arr_greedy.specs.Ways.{Leads, Way, Reaches, IsReach, reach_after}

module _ {N : Type 0} (key : N → ℕ) (leading : N → N → Bool) where
  abbrev pub Ranks : (N → Type 0) → (N → ℕ) → Type 0
  Ranks M r = (x y : N) → Leads key leading M x y → r x < r y

  pub way_join : (M : N → Type 0) (x : N) (zs : List N) (y : N) (ws : List N) (z : N) → Way key leading M x zs y → Way key leading M y ws z → Way key leading M x (zs ++ y ∷ ws) z
  way_join M x [] y ws z p q = (p, q)
  way_join M x (v ∷ vs) y ws z p q = (p.0, way_join M v vs y ws z p.1 q)

  pub reach_join : (M : N → Type 0) (x y z : N) → Reaches key leading M x y → Reaches key leading M y z → Reaches key leading M x z
  reach_join M x y z p q = (p.0 ++ y ∷ q.0, way_join M x p.0 y q.0 z p.1 q.1)

  pub way_rank : (M : N → Type 0) (r : N → ℕ) → Ranks M r → (x : N) (zs : List N) (y : N) → Way key leading M x zs y → r x < r y
  way_rank M r h x [] y p = h x y p
  way_rank M r h x (z ∷ zs) y p =
      let a : r x < r z = h x z p.0 in
      let b : r z < r y = way_rank M r h z zs y p.1 in
      omega arith

  -- ---- a and b, of M, made one: u

  abbrev pub Stays : (N → Type 0) → N → N → N → Type 0
  Stays M a b x = M x × (key x ≡ key a → ⊥) × (key x ≡ key b → ⊥)

  abbrev pub After : (N → Type 0) → N → N → N → N → Type 0
  After M a b u x = (x ≡ u) ⊎ Stays M a b x

  pub record Joined (M : N → Type 0) (a b u : N) : Type 0 where
    pub one : M a
    pub two : M b
    pub apart : key a ≡ key b → ⊥
    pub same_key : key u ≡ key a
    pub only : (x y : N) → M x → M y → key x ≡ key y → x ≡ y
    pub out : (y : N) → leading u y ≡ (leading a y || leading b y)
    pub back : (x : N) → leading x u ≡ (leading x a || leading x b)

  side : (M : N → Type 0) (a b u : N) → Joined M a b u → (x : N) → M x → (x ≡ a) ⊎ ((x ≡ b) ⊎ Stays M a b x)
  side M a b u j x m =
      elim (cases_eq (key x) (key a)) as (λ _. (x ≡ a) ⊎ ((x ≡ b) ⊎ Stays M a b x)) [
        | inl e ↦ inl (j.only x a m j.one e)
        | inr e ↦ elim (cases_eq (key x) (key b)) as (λ _. (x ≡ a) ⊎ ((x ≡ b) ⊎ Stays M a b x)) [
          | inl f ↦ inr (inl (j.only x b m j.two f))
          | inr f ↦ inr (inr (m, e, f))
        ]
      ]

  -- ---- it can be ranked

  -- lo ranks at most as hi; what lo reaches is moved up behind hi
  abbrev moved : (N → N → Bool) → (N → ℕ) → N → N → N → N → ℕ
  moved R r lo hi u x = cond (key x == key u) (r hi) (cond (R lo x) (r x + (r hi + 1)) (r x))

  moved_one : (R : N → N → Bool) (r : N → ℕ) (lo hi u : N) → moved R r lo hi u u ≡ r hi
  moved_one R r lo hi u = ap (λ t. cond t (r hi) (cond (R lo u) (r u + (r hi + 1)) (r u))) (eq-eqb (key u) (key u) refl)

  moved_stays : (R : N → N → Bool) (r : N → ℕ) (lo hi u x : N) → (key x ≡ key u → ⊥) → moved R r lo hi u x ≡ cond (R lo x) (r x + (r hi + 1)) (r x)
  moved_stays R r lo hi u x h = ap (λ t. cond t (r hi) (cond (R lo x) (r x + (r hi + 1)) (r x))) (ne_eqb (key x) (key u) h)

  up_both : (s t : Bool) (p q k : ℕ) → p < q → (s ≡ true → t ≡ true) → cond s (p + k) p < cond t (q + k) q
  up_both true true p q k l h = omega arith
  up_both true false p q k l h = absurd (false≢true (h refl))
  up_both false true p q k l h = omega arith
  up_both false false p q k l h = l

  below_one : (s : Bool) (p q : ℕ) → p < q → (s ≡ true → ⊥) → cond s (p + (q + 1)) p < q
  below_one true p q l h = absurd (h refl)
  below_one false p q l h = l

  above_one : (s : Bool) (p q : ℕ) → (s ≡ false → q < p) → q < cond s (p + (q + 1)) p
  above_one true p q h = omega arith
  above_one false p q h = h refl

  pub moved_ranks : (M : N → Type 0) (R : N → N → Bool) (r : N → ℕ) (a b u lo hi : N) → Joined M a b u → M lo → M hi → r lo ≤ r hi → IsReach key leading M R → Ranks M r
      → ((x : N) → Stays M a b x → (key x ≡ key lo → ⊥) × (key x ≡ key hi → ⊥))
      → ((y : N) → leading u y ≡ true → (leading lo y ≡ true) ⊎ (leading hi y ≡ true)) → ((x : N) → leading x u ≡ true → (leading x lo ≡ true) ⊎ (leading x hi ≡ true))
      → ((c : N) → Stays M a b c → R lo c ≡ true → R c hi ≡ true → ⊥)
      → Ranks (After M a b u) (moved R r lo hi u)
  moved_ranks M R r a b u lo hi j ml mh le reach ranks away out back none x y (mx, my, ne, e) =
      cases mx my
    where
      edge : (v w : N) → Leads key leading M v w → R v w ≡ true
      edge v w h = (reach v w h.0 h.1).1 ([], h)

      far : (w : N) → Stays M a b w → key w ≡ key u → ⊥
      far w s k = s.1 (k ∙ j.same_key)

      -- what lo reaches lies above it
      down : (v : N) → M v → R lo v ≡ true → r lo < r v
      down v m h = let p = (reach lo v ml m).0 h in way_rank M r ranks lo p.0 v p.1

      cases : (x ≡ u) ⊎ Stays M a b x → (y ≡ u) ⊎ Stays M a b y → moved R r lo hi u x < moved R r lo hi u y
      cases (inl f) (inl g) = absurd (ne (ap key f ∙ sym (ap key g)))
      cases (inl f) (inr s) =
          let w = away y s in
          let k : r hi < cond (R lo y) (r y + (r hi + 1)) (r y) =
          above_one (R lo y) (r y) (r hi) (λ t.
          elim (out y (ap (λ v. leading v y) (sym f) ∙ e)) as (λ _. r hi < r y) [
            | inl h ↦ absurd (both_ways (R lo y) t (edge lo y (ml, s.0, (λ q. w.0 (sym q)), h)))
            | inr h ↦ ranks hi y (mh, s.0, (λ q. w.1 (sym q)), h)
          ]) in
          let l : moved R r lo hi u x ≡ r hi = ap (moved R r lo hi u) f ∙ moved_one R r lo hi u in
          let m : moved R r lo hi u y ≡ cond (R lo y) (r y + (r hi + 1)) (r y) = moved_stays R r lo hi u y (far y s) in
          omega arith
      cases (inr s) (inl g) =
          let w = away x s in
          let k : cond (R lo x) (r x + (r hi + 1)) (r x) < r hi =
          elim (back x (ap (λ v. leading x v) (sym g) ∙ e)) as (λ _. cond (R lo x) (r x + (r hi + 1)) (r x) < r hi) [
            | inl h ↦
                let q : r x < r lo = ranks x lo (s.0, ml, w.0, h) in
                below_one (R lo x) (r x) (r hi) (omega arith) (λ t. let d : r lo < r x = down x s.0 t in absurd (omega arith))
            | inr h ↦ below_one (R lo x) (r x) (r hi) (ranks x hi (s.0, mh, w.1, h)) (λ t. none x s t (edge x hi (s.0, mh, w.1, h)))
          ] in
          let l : moved R r lo hi u y ≡ r hi = ap (moved R r lo hi u) g ∙ moved_one R r lo hi u in
          let m : moved R r lo hi u x ≡ cond (R lo x) (r x + (r hi + 1)) (r x) = moved_stays R r lo hi u x (far x s) in
          omega arith
      cases (inr s) (inr t) =
          let k : cond (R lo x) (r x + (r hi + 1)) (r x) < cond (R lo y) (r y + (r hi + 1)) (r y) =
          up_both (R lo x) (R lo y) (r x) (r y) (r hi + 1) (ranks x y (s.0, t.0, ne, e)) (λ h.
          (reach lo y ml t.0).1 (reach_join M lo x y ((reach lo x ml s.0).0 h) ([], (s.0, t.0, ne, e)))) in
          let l : moved R r lo hi u x ≡ cond (R lo x) (r x + (r hi + 1)) (r x) = moved_stays R r lo hi u x (far x s) in
          let m : moved R r lo hi u y ≡ cond (R lo y) (r y + (r hi + 1)) (r y) = moved_stays R r lo hi u y (far y t) in
          omega arith

  -- no third one on a way between them
  abbrev pub Free : (N → Type 0) → (N → N → Bool) → N → N → N → Type 0
  Free M R a b u = (c : N) → Stays M a b c → (R a c ≡ true → R c b ≡ true → ⊥) × (R b c ≡ true → R c a ≡ true → ⊥)

  or_of : (s t : Bool) → (s || t) ≡ true → (s ≡ true) ⊎ (t ≡ true)
  or_of s t e = or_cases s t e

  turned : {P Q : Type 0} → P ⊎ Q → Q ⊎ P
  turned (inl p) = inr p
  turned (inr q) = inl q

  pub joined_ranks : (M : N → Type 0) (R : N → N → Bool) (r : N → ℕ) (a b u : N) → Joined M a b u → IsReach key leading M R → Ranks M r → Free M R a b u → (q : N → ℕ) × Ranks (After M a b u) q
  joined_ranks M R r a b u j reach ranks free =
      elim (cases_lt (r b) (r a)) as (λ _. (q : N → ℕ) × Ranks (After M a b u) q) [
        | inl l ↦ (
          moved R r b a u,
          moved_ranks M R r a b u b a j j.two j.one (omega arith) reach ranks (λ x s. (s.2, s.1))
              (λ y e. turned (or_of (leading a y) (leading b y) (sym (j.out y) ∙ e))) (λ x e. turned (or_of (leading x a) (leading x b) (sym (j.back x) ∙ e))) (λ c s. (free c s).1),
        )
        | inr l ↦ (
          moved R r a b u,
          moved_ranks M R r a b u a b j j.one j.two l reach ranks (λ x s. (s.1, s.2))
              (λ y e. or_of (leading a y) (leading b y) (sym (j.out y) ∙ e)) (λ x e. or_of (leading x a) (leading x b) (sym (j.back x) ∙ e)) (λ c s. (free c s).0),
        )
      ]

  -- ---- ways before and after

  abbrev image : N → N → N → N → N
  image a b u x = cond (key x == key a || key x == key b) u x

  shape : (M : N → Type 0) (a b u : N) → Joined M a b u → (x : N) → M x → (((x ≡ a) ⊎ (x ≡ b)) × (image a b u x ≡ u)) ⊎ (Stays M a b x × (image a b u x ≡ x))
  shape M a b u j x m =
      elim (side M a b u j x m) as (λ _. (((x ≡ a) ⊎ (x ≡ b)) × (image a b u x ≡ u)) ⊎ (Stays M a b x × (image a b u x ≡ x))) [
        | inl e ↦ inl (inl e, ap (λ t. cond t u x) (or_left (key x == key a) (key x == key b) (eq-eqb (key x) (key a) (ap key e))))
        | inr h ↦ elim h as (λ _. (((x ≡ a) ⊎ (x ≡ b)) × (image a b u x ≡ u)) ⊎ (Stays M a b x × (image a b u x ≡ x))) [
          | inl e ↦ inl (inr e, ap (λ t. cond t u x) (or_right (key x == key a) (key x == key b) (eq-eqb (key x) (key b) (ap key e))))
          | inr s ↦ inr (s, ap₂ (λ v w. cond (v || w) u x) (ne_eqb (key x) (key a) s.1) (ne_eqb (key x) (key b) s.2))
        ]
      ]

  out_leads : (M : N → Type 0) (a b u : N) → Joined M a b u → (y : N) → Stays M a b y → leading u y ≡ true → Leads key leading (After M a b u) u y
  out_leads M a b u j y s e = (inl refl, inr s, (λ k. s.1 (sym k ∙ j.same_key)), e)

  back_leads : (M : N → Type 0) (a b u : N) → Joined M a b u → (x : N) → Stays M a b x → leading x u ≡ true → Leads key leading (After M a b u) x u
  back_leads M a b u j x s e = (inr s, inl refl, (λ k. s.1 (k ∙ j.same_key)), e)

  step_image : (M : N → Type 0) (a b u : N) → Joined M a b u → (x y : N) → Leads key leading M x y
      → (image a b u x ≡ image a b u y) ⊎ Leads key leading (After M a b u) (image a b u x) (image a b u y)
  step_image M a b u j x y h =
      cases (shape M a b u j x h.0) (shape M a b u j y h.1)
    where
      at : (v w : N) → image a b u x ≡ v → image a b u y ≡ w → Leads key leading (After M a b u) v w → (image a b u x ≡ image a b u y) ⊎ Leads key leading (After M a b u) (image a b u x) (image a b u y)
      at v w e f l = inr (subst (λ k. Leads key leading (After M a b u) k (image a b u y)) (sym e) (subst (λ k. Leads key leading (After M a b u) v k) (sym f) l))

      cases : (((x ≡ a) ⊎ (x ≡ b)) × (image a b u x ≡ u)) ⊎ (Stays M a b x × (image a b u x ≡ x)) → (((y ≡ a) ⊎ (y ≡ b)) × (image a b u y ≡ u)) ⊎ (Stays M a b y × (image a b u y ≡ y))
          → (image a b u x ≡ image a b u y) ⊎ Leads key leading (After M a b u) (image a b u x) (image a b u y)
      cases (inl p) (inl q) = inl (p.1 ∙ sym q.1)
      cases (inl p) (inr t) =
          at u y p.1 t.1 (out_leads M a b u j y t.0 (j.out y ∙ elim p.0 as (λ _. (leading a y || leading b y) ≡ true) [
            | inl e ↦ or_left (leading a y) (leading b y) (ap (λ v. leading v y) (sym e) ∙ h.3)
            | inr e ↦ or_right (leading a y) (leading b y) (ap (λ v. leading v y) (sym e) ∙ h.3)
          ]))
      cases (inr s) (inl q) =
          at x u s.1 q.1 (back_leads M a b u j x s.0 (j.back x ∙ elim q.0 as (λ _. (leading x a || leading x b) ≡ true) [
            | inl e ↦ or_left (leading x a) (leading x b) (ap (λ v. leading x v) (sym e) ∙ h.3)
            | inr e ↦ or_right (leading x a) (leading x b) (ap (λ v. leading x v) (sym e) ∙ h.3)
          ]))
      cases (inr s) (inr t) = at x y s.1 t.1 (inr s.0, inr t.0, h.2, h.3)

  way_image : (M : N → Type 0) (a b u : N) → Joined M a b u → (x : N) (zs : List N) (y : N) → Way key leading M x zs y
      → (image a b u x ≡ image a b u y) ⊎ Reaches key leading (After M a b u) (image a b u x) (image a b u y)
  way_image M a b u j x [] y h =
      elim (step_image M a b u j x y h) as (λ _. (image a b u x ≡ image a b u y) ⊎ Reaches key leading (After M a b u) (image a b u x) (image a b u y)) [ inl e ↦ inl e | inr l ↦ inr ([], l) ]
  way_image M a b u j x (z ∷ zs) y h =
      joint (step_image M a b u j x z h.0) (way_image M a b u j z zs y h.1)
    where
      joint : (image a b u x ≡ image a b u z) ⊎ Leads key leading (After M a b u) (image a b u x) (image a b u z)
          → (image a b u z ≡ image a b u y) ⊎ Reaches key leading (After M a b u) (image a b u z) (image a b u y)
          → (image a b u x ≡ image a b u y) ⊎ Reaches key leading (After M a b u) (image a b u x) (image a b u y)
      joint (inl e) (inl f) = inl (e ∙ f)
      joint (inl e) (inr q) = inr (subst (λ v. Reaches key leading (After M a b u) v (image a b u y)) (sym e) q)
      joint (inr l) (inl f) = inr ([], subst (λ v. Leads key leading (After M a b u) (image a b u x) v) f l)
      joint (inr l) (inr q) = inr (image a b u z ∷ q.0, (l, q.1))

  no_stay : (M : N → Type 0) (a b u : N) → Joined M a b u → (x : N) → Stays M a b x → x ≡ u → ⊥
  no_stay M a b u j x s e = s.1 (ap key e ∙ j.same_key)

  stay_image : (M : N → Type 0) (a b u x : N) → Stays M a b x → image a b u x ≡ x
  stay_image M a b u x s = ap₂ (λ v w. cond (v || w) u x) (ne_eqb (key x) (key a) s.1) (ne_eqb (key x) (key b) s.2)

  one_image : (a b u x : N) → (x ≡ a) ⊎ (x ≡ b) → image a b u x ≡ u
  one_image a b u x (inl e) = ap (λ t. cond t u x) (or_left (key x == key a) (key x == key b) (eq-eqb (key x) (key a) (ap key e)))
  one_image a b u x (inr e) = ap (λ t. cond t u x) (or_right (key x == key a) (key x == key b) (eq-eqb (key x) (key b) (ap key e)))

  reach_at : (M : N → Type 0) (a b u : N) → Joined M a b u → (x y v w : N) → image a b u x ≡ v → image a b u y ≡ w → (v ≡ w → ⊥) → Reaches key leading M x y → Reaches key leading (After M a b u) v w
  reach_at M a b u j x y v w e f ne p =
      elim (way_image M a b u j x p.0 y p.1) as (λ _. Reaches key leading (After M a b u) v w) [
        | inl g ↦ absurd (ne (sym e ∙ g ∙ f))
        | inr q ↦ subst (λ k. Reaches key leading (After M a b u) k w) e (subst (λ k. Reaches key leading (After M a b u) (image a b u x) k) f q)
      ]

  pub reach_out : (M : N → Type 0) (a b u : N) → Joined M a b u → (x y : N) → (x ≡ a) ⊎ (x ≡ b) → Stays M a b y → Reaches key leading M x y → Reaches key leading (After M a b u) u y
  reach_out M a b u j x y h s p = reach_at M a b u j x y u y (one_image a b u x h) (stay_image M a b u y s) (λ e. no_stay M a b u j y s (sym e)) p

  pub reach_back : (M : N → Type 0) (a b u : N) → Joined M a b u → (x y : N) → Stays M a b x → (y ≡ a) ⊎ (y ≡ b) → Reaches key leading M x y → Reaches key leading (After M a b u) x u
  reach_back M a b u j x y s h p = reach_at M a b u j x y x u (stay_image M a b u x s) (one_image a b u y h) (λ e. no_stay M a b u j x s e) p

  -- where it can be ranked after, none is between
  pub ranked_free : (M : N → Type 0) (R : N → N → Bool) (a b u : N) → Joined M a b u → IsReach key leading M R → (q : N → ℕ) → Ranks (After M a b u) q → Free M R a b u
  ranked_free M R a b u j reach q ranks c s = (
    λ e f. both (reach_out M a b u j a c (inl refl) s ((reach a c j.one s.0).0 e)) (reach_back M a b u j c b s (inr refl) ((reach c b s.0 j.two).0 f)),
    λ e f. both (reach_out M a b u j b c (inr refl) s ((reach b c j.two s.0).0 e)) (reach_back M a b u j c a s (inl refl) ((reach c a s.0 j.one).0 f)),
  )
    where
      both : Reaches key leading (After M a b u) u c → Reaches key leading (After M a b u) c u → ⊥
      both x y =
          let k : q u < q c = way_rank (After M a b u) q ranks u x.0 c x.1 in
          let l : q c < q u = way_rank (After M a b u) q ranks c y.0 u y.1 in
          absurd (omega arith)

  -- ---- what is reached after

  after_uu : (M : N → Type 0) (R : N → N → Bool) (a b u : N) → Joined M a b u → reach_after key R a b u u ≡ false
  after_uu M R a b u j = ap₂ (λ s t. cond s (cond t false (R a u || R b u)) (cond t (R u a || R u b) (R u u || ((R u a || R u b) && (R a u || R b u))))) (eq-eqb (key u) (key a) j.same_key) (eq-eqb (key u) (key a) j.same_key)

  after_us : (M : N → Type 0) (R : N → N → Bool) (a b u : N) → Joined M a b u → (y : N) → Stays M a b y → reach_after key R a b u y ≡ (R a y || R b y)
  after_us M R a b u j y s = ap₂ (λ s t. cond s (cond t false (R a y || R b y)) (cond t (R u a || R u b) (R u y || ((R u a || R u b) && (R a y || R b y))))) (eq-eqb (key u) (key a) j.same_key) (ne_eqb (key y) (key a) s.1)

  after_su : (M : N → Type 0) (R : N → N → Bool) (a b u : N) → Joined M a b u → (x : N) → Stays M a b x → reach_after key R a b x u ≡ (R x a || R x b)
  after_su M R a b u j x s = ap₂ (λ s t. cond s (cond t false (R a u || R b u)) (cond t (R x a || R x b) (R x u || ((R x a || R x b) && (R a u || R b u))))) (ne_eqb (key x) (key a) s.1) (eq-eqb (key u) (key a) j.same_key)

  after_ss : (M : N → Type 0) (R : N → N → Bool) (a b u : N) → (x y : N) → Stays M a b x → Stays M a b y → reach_after key R a b x y ≡ (R x y || ((R x a || R x b) && (R a y || R b y)))
  after_ss M R a b u x y s t = ap₂ (λ s t. cond s (cond t false (R a y || R b y)) (cond t (R x a || R x b) (R x y || ((R x a || R x b) && (R a y || R b y))))) (ne_eqb (key x) (key a) s.1) (ne_eqb (key y) (key a) t.1)

  pub reach_joined : (M : N → Type 0) (R : N → N → Bool) (r : N → ℕ) (a b u : N) → Joined M a b u → IsReach key leading M R → Ranks M r → Free M R a b u
      → IsReach key leading (After M a b u) (reach_after key R a b)
  reach_joined M R r a b u j reach ranks free x y mx my =
      (sound mx my, λ p. complete x p.0 y mx my p.1)
    where
      Later : N → N → Type 0
      Later v w = Reaches key leading (After M a b u) v w

      join : (v w z : N) → M v → M w → M z → R v w ≡ true → R w z ≡ true → R v z ≡ true
      join v w z mv mw mz e f = (reach v z mv mz).1 (reach_join M v w z ((reach v w mv mw).0 e) ((reach w z mw mz).0 f))

      edge : (v w : N) → Leads key leading M v w → R v w ≡ true
      edge v w h = (reach v w h.0 h.1).1 ([], h)

      never : (v : N) → M v → R v v ≡ true → ⊥
      never v m e = let p = (reach v v m m).0 e in let l : r v < r v = way_rank M r ranks v p.0 v p.1 in absurd (omega arith)

      -- from one of the two, and to one of them
      out : (w : N) → Stays M a b w → (R a w || R b w) ≡ true → Reaches key leading (After M a b u) u w
      out w s e = elim (or_cases (R a w) (R b w) e) as (λ _. Reaches key leading (After M a b u) u w) [
        | inl f ↦ reach_out M a b u j a w (inl refl) s ((reach a w j.one s.0).0 f)
        | inr f ↦ reach_out M a b u j b w (inr refl) s ((reach b w j.two s.0).0 f)
      ]

      back : (v : N) → Stays M a b v → (R v a || R v b) ≡ true → Reaches key leading (After M a b u) v u
      back v s e = elim (or_cases (R v a) (R v b) e) as (λ _. Reaches key leading (After M a b u) v u) [
        | inl f ↦ reach_back M a b u j v a s (inl refl) ((reach v a s.0 j.one).0 f)
        | inr f ↦ reach_back M a b u j v b s (inr refl) ((reach v b s.0 j.two).0 f)
      ]

      sound : (x ≡ u) ⊎ Stays M a b x → (y ≡ u) ⊎ Stays M a b y → reach_after key R a b x y ≡ true → Reaches key leading (After M a b u) x y
      sound (inl e) (inl f) h = absurd (both_ways (reach_after key R a b u u) (after_uu M R a b u j) (ap₂ (λ v w. reach_after key R a b v w) (sym e) (sym f) ∙ h))
      sound (inl e) (inr t) h =
          subst (λ v. Reaches key leading (After M a b u) v y) (sym e) (out y t (sym (after_us M R a b u j y t) ∙ ap (λ v. reach_after key R a b v y) (sym e) ∙ h))
      sound (inr s) (inl f) h =
          subst (λ w. Reaches key leading (After M a b u) x w) (sym f) (back x s (sym (after_su M R a b u j x s) ∙ ap (λ w. reach_after key R a b x w) (sym f) ∙ h))
      sound (inr s) (inr t) h =
          elim (or_cases (R x y) ((R x a || R x b) && (R a y || R b y)) (sym (after_ss M R a b u x y s t) ∙ h)) as (λ _. Reaches key leading (After M a b u) x y) [
            | inl e ↦ reach_at M a b u j x y x y (stay_image M a b u x s) (stay_image M a b u y t) (λ f. never x s.0 (ap (λ w. R x w) f ∙ e)) ((reach x y s.0 t.0).0 e)
            | inr e ↦ let p = and_parts (R x a || R x b) (R a y || R b y) e in reach_join (After M a b u) x u y (back x s p.0) (out y t p.1)
          ]

      out_edge : (w : N) → Stays M a b w → leading u w ≡ true → (R a w || R b w) ≡ true
      out_edge w s e = elim (or_cases (leading a w) (leading b w) (sym (j.out w) ∙ e)) as (λ _. (R a w || R b w) ≡ true) [
        | inl f ↦ or_left (R a w) (R b w) (edge a w (j.one, s.0, (λ k. s.1 (sym k)), f))
        | inr f ↦ or_right (R a w) (R b w) (edge b w (j.two, s.0, (λ k. s.2 (sym k)), f))
      ]

      back_edge : (v : N) → Stays M a b v → leading v u ≡ true → (R v a || R v b) ≡ true
      back_edge v s e = elim (or_cases (leading v a) (leading v b) (sym (j.back v) ∙ e)) as (λ _. (R v a || R v b) ≡ true) [
        | inl f ↦ or_left (R v a) (R v b) (edge v a (s.0, j.one, s.1, f))
        | inr f ↦ or_right (R v a) (R v b) (edge v b (s.0, j.two, s.2, f))
      ]

      out_more : (z w : N) → Stays M a b z → Stays M a b w → (R a z || R b z) ≡ true → R z w ≡ true → (R a w || R b w) ≡ true
      out_more z w s t e f = elim (or_cases (R a z) (R b z) e) as (λ _. (R a w || R b w) ≡ true) [
        | inl h ↦ or_left (R a w) (R b w) (join a z w j.one s.0 t.0 h f)
        | inr h ↦ or_right (R a w) (R b w) (join b z w j.two s.0 t.0 h f)
      ]

      back_more : (v z : N) → Stays M a b v → Stays M a b z → R v z ≡ true → (R z a || R z b) ≡ true → (R v a || R v b) ≡ true
      back_more v z s t e f = elim (or_cases (R z a) (R z b) f) as (λ _. (R v a || R v b) ≡ true) [
        | inl h ↦ or_left (R v a) (R v b) (join v z a s.0 t.0 j.one e h)
        | inr h ↦ or_right (R v a) (R v b) (join v z b s.0 t.0 j.two e h)
      ]

      round : (z : N) → Stays M a b z → (R a z || R b z) ≡ true → (R z a || R z b) ≡ true → ⊥
      round z s e f =
          elim (or_cases (R a z) (R b z) e) as (λ _. ⊥) [
            | inl g ↦ elim (or_cases (R z a) (R z b) f) as (λ _. ⊥) [ inl h ↦ never a j.one (join a z a j.one s.0 j.one g h) | inr h ↦ (free z s).0 g h ]
            | inr g ↦ elim (or_cases (R z a) (R z b) f) as (λ _. ⊥) [ inl h ↦ (free z s).1 g h | inr h ↦ never b j.two (join b z b j.two s.0 j.two g h) ]
          ]

      -- one step, and one step before a way
      step : (v w : N) → (v ≡ u) ⊎ Stays M a b v → (w ≡ u) ⊎ Stays M a b w → (key v ≡ key w → ⊥) → leading v w ≡ true → reach_after key R a b v w ≡ true
      step v w (inl e) (inl f) ne l = absurd (ne (ap key e ∙ sym (ap key f)))
      step v w (inl e) (inr t) ne l = ap (λ k. reach_after key R a b k w) e ∙ after_us M R a b u j w t ∙ out_edge w t (ap (λ k. leading k w) (sym e) ∙ l)
      step v w (inr s) (inl f) ne l = ap (λ k. reach_after key R a b v k) f ∙ after_su M R a b u j v s ∙ back_edge v s (ap (λ k. leading v k) (sym f) ∙ l)
      step v w (inr s) (inr t) ne l = after_ss M R a b u v w s t ∙ or_left (R v w) ((R v a || R v b) && (R a w || R b w)) (edge v w (s.0, t.0, ne, l))

      -- from a node to another
      onward : (v z w : N) → (v ≡ u) ⊎ Stays M a b v → (z ≡ u) ⊎ Stays M a b z → (w ≡ u) ⊎ Stays M a b w → reach_after key R a b v z ≡ true → reach_after key R a b z w ≡ true → reach_after key R a b v w ≡ true
      onward v z w (inl e) (inl g) q h k = absurd (both_ways (reach_after key R a b u u) (after_uu M R a b u j) (ap₂ (λ m n. reach_after key R a b m n) (sym e) (sym g) ∙ h))
      onward v z w (inr s) (inl g) (inl f) h k = absurd (both_ways (reach_after key R a b u u) (after_uu M R a b u j) (ap₂ (λ m n. reach_after key R a b m n) (sym g) (sym f) ∙ k))
      onward v z w (inr s) (inl g) (inr t) h k =
          after_ss M R a b u v w s t ∙ or_right (R v w) ((R v a || R v b) && (R a w || R b w))
          (and_from (R v a || R v b) (R a w || R b w) (sym (after_su M R a b u j v s) ∙ ap (λ n. reach_after key R a b v n) (sym g) ∙ h) (sym (after_us M R a b u j w t) ∙ ap (λ m. reach_after key R a b m w) (sym g) ∙ k))
      onward v z w (inl e) (inr g) (inl f) h k =
          absurd (round z g (sym (after_us M R a b u j z g) ∙ ap (λ m. reach_after key R a b m z) (sym e) ∙ h) (sym (after_su M R a b u j z g) ∙ ap (λ n. reach_after key R a b z n) (sym f) ∙ k))
      onward v z w (inl e) (inr g) (inr t) h k =
          let p : (R a z || R b z) ≡ true = sym (after_us M R a b u j z g) ∙ ap (λ m. reach_after key R a b m z) (sym e) ∙ h in
          ap (λ m. reach_after key R a b m w) e ∙ after_us M R a b u j w t
          ∙ elim (or_cases (R z w) ((R z a || R z b) && (R a w || R b w)) (sym (after_ss M R a b u z w g t) ∙ k)) as (λ _. (R a w || R b w) ≡ true) [
            | inl i ↦ out_more z w g t p i
            | inr i ↦ (and_parts (R z a || R z b) (R a w || R b w) i).1
          ]
      onward v z w (inr s) (inr g) (inl f) h k =
          let p : (R z a || R z b) ≡ true = sym (after_su M R a b u j z g) ∙ ap (λ n. reach_after key R a b z n) (sym f) ∙ k in
          ap (λ n. reach_after key R a b v n) f ∙ after_su M R a b u j v s
          ∙ elim (or_cases (R v z) ((R v a || R v b) && (R a z || R b z)) (sym (after_ss M R a b u v z s g) ∙ h)) as (λ _. (R v a || R v b) ≡ true) [
            | inl i ↦ back_more v z s g i p
            | inr i ↦ (and_parts (R v a || R v b) (R a z || R b z) i).0
          ]
      onward v z w (inr s) (inr g) (inr t) h k =
          after_ss M R a b u v w s t
          ∙ elim (or_cases (R v z) ((R v a || R v b) && (R a z || R b z)) (sym (after_ss M R a b u v z s g) ∙ h)) as (λ _. (R v w || ((R v a || R v b) && (R a w || R b w))) ≡ true) [
            | inl i ↦ elim (or_cases (R z w) ((R z a || R z b) && (R a w || R b w)) (sym (after_ss M R a b u z w g t) ∙ k)) as (λ _. (R v w || ((R v a || R v b) && (R a w || R b w))) ≡ true) [
              | inl l ↦ or_left (R v w) ((R v a || R v b) && (R a w || R b w)) (join v z w s.0 g.0 t.0 i l)
              | inr l ↦ let p = and_parts (R z a || R z b) (R a w || R b w) l in or_right (R v w) ((R v a || R v b) && (R a w || R b w)) (and_from (R v a || R v b) (R a w || R b w) (back_more v z s g i p.0) p.1)
            ]
            | inr i ↦
                let q = and_parts (R v a || R v b) (R a z || R b z) i in
                elim (or_cases (R z w) ((R z a || R z b) && (R a w || R b w)) (sym (after_ss M R a b u z w g t) ∙ k)) as (λ _. (R v w || ((R v a || R v b) && (R a w || R b w))) ≡ true) [
                  | inl l ↦ or_right (R v w) ((R v a || R v b) && (R a w || R b w)) (and_from (R v a || R v b) (R a w || R b w) q.0 (out_more z w g t q.1 l))
                  | inr l ↦ let p = and_parts (R z a || R z b) (R a w || R b w) l in or_right (R v w) ((R v a || R v b) && (R a w || R b w)) (and_from (R v a || R v b) (R a w || R b w) q.0 p.1)
                ]
          ]

      complete : (v : N) (zs : List N) (w : N) → (v ≡ u) ⊎ Stays M a b v → (w ≡ u) ⊎ Stays M a b w → Way key leading (After M a b u) v zs w → reach_after key R a b v w ≡ true
      complete v [] w mv mw p = step v w mv mw p.2 p.3
      complete v (z ∷ zs) w mv mw p = onward v z w mv p.0.1 mw (step v z mv p.0.1 p.0.2 p.0.3) (complete z zs w p.0.1 mw p.1)
