-- Whether a block stands between two: by words of bits, and by the keys.
use Rattle.std.proofs.Common.{◌≡◌, ◌≢◌, ℕ, ◌<◌, List, Bool, true, false, cond, map, not, inl, inr, ◌||◌, ◌&&◌, refl, ap, ap₂, sym, subst, ◌∙◌, arith}
use Rattle.std.specs.Prelude.{◌==◌, nat_eq}
use Rattle.std.specs.List.{All, filter, list_any}
use Rattle.std.proofs.lemmas.Bool.{and_from, and_parts, eq-eqb, false≢true, ne_eqb, or_cases, or_left, or_right}
use Rattle.arr_view.specs.Views.{has}
use Rattle.arr_ops.specs.declared.op.Op.{Op}
use Rattle.arr_ops.specs.Order.{In, leads, least_of}
use Rattle.arr_ops.specs.Plans.{numbered}
use Rattle.arr_ops.proofs.Members.{in_filter}
use Rattle.arr_heur.proofs.Merge.{has_filter, in_map}
use Rattle.arr_ops.proofs.Legality.{any_found, any_there, in_has}
use Rattle.arr_greedy.specs.Bits.{AreBits, bit, columns, stands_between}
use Rattle.arr_greedy.specs.Fast.{any_below, Told}
use Rattle.arr_greedy.specs.Tables.{NoLoopsAfter, Onward, ReachesAfter, TellsWays, with_cell}
use Rattle.arr_greedy.specs.Ways.{lies_between, reach_after}
use Rattle.arr_greedy.proofs.Bits.{below_found, below_some}
use Rattle.arr_greedy.proofs.Turns.{keys_positive, no_loop, to_kept}
use Rattle.arr_greedy.proofs.Bounds.{in_below, key_is}
use Rattle.arr_greedy.proofs.Ways.{reach_join}

same_bool : (s t : Bool) → (s ≡ true → t ≡ true) → (t ≡ true → s ≡ true) → s ≡ t
same_bool true true f g = refl
same_bool true false f g = absurd (false≢true (f refl))
same_bool false true f g = absurd (false≢true (g refl))
same_bool false false f g = refl

pub has_key : (keys : List ℕ) (z : ℕ) → In z keys → has keys z ≡ true
has_key keys z i = any_there (nat_eq z) keys z i (eq-eqb z z refl)

or_turned : (s t : Bool) → (s || t) ≡ (t || s)
or_turned true true = refl
or_turned true false = refl
or_turned false true = refl
or_turned false false = refl

module _ (keys reaches reached : List ℕ) (w a b : ℕ) (inside : All (λ k. k < w) keys) (ways : TellsWays keys reaches reached w) (ia : In a keys) (ib : In b keys) where
  abbrev R : ℕ → ℕ → Bool
  R = bit reaches w

  abbrev T : ℕ → ℕ → Bool
  T = bit reached w

  none : (k : ℕ) → In k keys → R k k ≡ true → ⊥
  none k i e = false≢true (sym (ways.loopless k i) ∙ e)

  by_third : (x z y : ℕ) → In x keys → In z keys → In y keys → (R x z && R z y) ≡ true → R x y ≡ true
  by_third x z y ix iz iy e = let p = and_parts (R x z) (R z y) e in ways.onward x z y ix iz iy p.0 p.1

  -- one reaches the other: a third stands between them where it stands on a way from the one to the other
  pub between_is : R a b ≡ true → any_below (stands_between R T a b) (columns w) ≡ list_any (lies_between (λ k. k) R a b) keys
  between_is leads = same_bool (any_below (stands_between R T a b) (columns w)) (list_any (lies_between (λ k. k) R a b) keys) forth back
    where
      same : (z : ℕ) → In z keys → (R a z && T b z) ≡ (R a z && R z b)
      same z i = ap (λ t. R a z && t) (ways.turned z b i ib)

      forth : any_below (stands_between R T a b) (columns w) ≡ true → list_any (lies_between (λ k. k) R a b) keys ≡ true
      forth e =
          let r = below_found (stands_between R T a b) (columns w) e in
          let z : ℕ = r.0 in
          let p = and_parts (R a z && T b z) (T 0 z) r.2 in
          let i : In z keys = in_has keys z (sym (ways.live z r.1) ∙ p.1) in
          let h : (R a z && R z b) ≡ true = sym (same z i) ∙ p.0 in
          let q = and_parts (R a z) (R z b) h in
          any_there (lies_between (λ k. k) R a b) keys z i
          (ap₂ (λ s t. not (s || t) && ((R a z && R z b) || (R b z && R z a))) (ne_eqb z a (λ f. none a ia (ap (R a) (sym f) ∙ q.0))) (ne_eqb z b (λ f. none b ib (ap (λ k. R k b) (sym f) ∙ q.1)))
          ∙ or_left (R a z && R z b) (R b z && R z a) h)

      back : list_any (lies_between (λ k. k) R a b) keys ≡ true → any_below (stands_between R T a b) (columns w) ≡ true
      back e =
          let r = any_found (lies_between (λ k. k) R a b) keys e in
          let z : ℕ = r.0 in
          let p = and_parts (not (z == a || z == b)) ((R a z && R z b) || (R b z && R z a)) r.2 in
          let m : z < w = in_below keys w inside z r.1 in
          let h : (R a z && R z b) ≡ true = elim (or_cases (R a z && R z b) (R b z && R z a) p.1) as (λ _. (R a z && R z b) ≡ true) [
            | inl f ↦ f
            | inr f ↦ absurd (none a ia (ways.onward a b a ia ib ia leads (by_third b z a ib r.1 ia f)))
          ] in
          below_some (stands_between R T a b) (columns w) z (omega arith) (and_from (R a z && T b z) (T 0 z) (same z r.1 ∙ h) (ways.live z (omega arith) ∙ has_key keys z r.1))

  -- neither reaches the other: none stands between
  pub between_none : R a b ≡ false → R b a ≡ false → list_any (lies_between (λ k. k) R a b) keys ≡ false
  between_none e f = same_bool (list_any (lies_between (λ k. k) R a b) keys) false found (λ g. absurd (false≢true g))
    where
      found : list_any (lies_between (λ k. k) R a b) keys ≡ true → false ≡ true
      found g =
          let r = any_found (lies_between (λ k. k) R a b) keys g in
          let z : ℕ = r.0 in
          let p = and_parts (not (z == a || z == b)) ((R a z && R z b) || (R b z && R z a)) r.2 in
          elim (or_cases (R a z && R z b) (R b z && R z a) p.1) as (λ _. false ≡ true) [
            | inl h ↦ sym e ∙ by_third a z b ia r.1 ib h
            | inr h ↦ sym f ∙ by_third b z a ib r.1 ia h
          ]

-- between two, told in the other order
pub between_turned : (R : ℕ → ℕ → Bool) (keys : List ℕ) (a b : ℕ) → list_any (lies_between (λ k. k) R b a) keys ≡ list_any (lies_between (λ k. k) R a b) keys
between_turned R keys a b = same_bool (list_any (lies_between (λ k. k) R b a) keys) (list_any (lies_between (λ k. k) R a b) keys) (over a b) (over b a)
  where
    over : (x y : ℕ) → list_any (lies_between (λ k. k) R y x) keys ≡ true → list_any (lies_between (λ k. k) R x y) keys ≡ true
    over x y e =
        let r = any_found (lies_between (λ k. k) R y x) keys e in
        let z : ℕ = r.0 in
        any_there (lies_between (λ k. k) R x y) keys z r.1 (ap₂ (λ s t. not s && t) (or_turned (z == x) (z == y)) (or_turned (R x z && R z y) (R y z && R z x)) ∙ r.2)

-- ---- at the start, and after a merge

pub ways_start : (list : List Op) (blocks : List (List ℕ)) (F : ℕ → ℕ → Bool) (keys reaches reached : List ℕ) (w : ℕ) → Told list blocks F (bit reaches w) → keys ≡ map least_of blocks → All (λ k. k < w) keys
    → ((z : ℕ) → z < columns w → bit reached w 0 z ≡ has keys z) → ((x y : ℕ) → x < w → 0 < y → y < w → bit reached w y x ≡ bit reaches w x y) → TellsWays keys reaches reached w
ways_start list blocks F keys reaches reached w told e inside live turned =
    let kept = to_kept list blocks F (bit reaches w) told in
    record {
      live = live;
      turned = λ x y ix iy.
          turned x y (in_below keys w inside x ix) (key_is (λ k. 0 < k) keys (subst (All (λ k. 0 < k)) (sym e) (keys_positive list blocks kept.partition)) y iy) (in_below keys w inside y iy);
      loopless = λ x ix.
          let r = in_map least_of blocks x (subst (In x) e ix) in
          ap (λ k. bit reaches w k k) r.2 ∙ no_loop list blocks F (bit reaches w) kept r.0 r.1;
      onward = λ x y z ix iy iz p q.
          let a = in_map least_of blocks x (subst (In x) e ix) in
          let b = in_map least_of blocks y (subst (In y) e iy) in
          let c = in_map least_of blocks z (subst (In z) e iz) in
          ap₂ (bit reaches w) a.2 c.2
          ∙ (told.reached a.0 c.0 a.1 c.1).1
          (reach_join least_of (leads (numbered list)) (λ d. In d blocks) a.0 b.0 c.0
          ((told.reached a.0 b.0 a.1 b.1).0 (ap₂ (bit reaches w) (sym a.2) (sym b.2) ∙ p)) ((told.reached b.0 c.0 b.1 c.1).0 (ap₂ (bit reaches w) (sym b.2) (sym c.2) ∙ q)));
    }

-- what leads on does so still once a and b are one, where no loop comes of it
onward_after : (keys : List ℕ) (o : ℕ → ℕ → Bool) (a b : ℕ) → In a keys → In b keys → Onward keys o → (x y z : ℕ) → In x keys → In y keys → In z keys → reach_after (λ k. k) o a b y y ≡ false
    → reach_after (λ k. k) o a b x y ≡ true → reach_after (λ k. k) o a b y z ≡ true → reach_after (λ k. k) o a b x z ≡ true
onward_after keys o a b ia ib on x y z ix iy iz =
    cases (x == a) (y == a) (z == a) (o x a || o x b) (o y a || o y b) (o a y || o b y) (o a z || o b z) (o x y) (o y y) (o y z) (o x z)
    (λ e f. both (o y a) (o y b) (o x a) (o x b) f (on x y a ix iy ia e) (on x y b ix iy ib e))
    (λ e f. both (o a y) (o b y) (o a z) (o b z) e (λ g. on a y z ia iy iz g f) (λ g. on b y z ib iy iz g f))
    (on x y z ix iy iz)
  where
    both : (s t p q : Bool) → (s || t) ≡ true → (s ≡ true → p ≡ true) → (t ≡ true → q ≡ true) → (p || q) ≡ true
    both s t p q e f g = elim (or_cases s t e) as (λ _. (p || q) ≡ true) [ inl h ↦ or_left p q (f h) | inr h ↦ or_right p q (g h) ]

    -- whether one reaches another then: each is a or not, the one reached a or b, these the other, and the one the other
    after : Bool → Bool → Bool → Bool → Bool → Bool
    after xa ya from to same = cond xa (cond ya false to) (cond ya from (same || (from && to)))

    cases : (xa ya za xf yf yt zt xy yy yz xz : Bool) → (xy ≡ true → yf ≡ true → xf ≡ true) → (yt ≡ true → yz ≡ true → zt ≡ true) → (xy ≡ true → yz ≡ true → xz ≡ true)
        → after ya ya yf yt yy ≡ false → after xa ya xf yt xy ≡ true → after ya za yf zt yz ≡ true → after xa za xf zt xz ≡ true
    cases true true za xf yf yt zt xy yy yz xz f g h l p q = absurd (false≢true p)
    cases true false true xf yf yt zt xy yy yz xz f g h l p q = sym l ∙ or_right yy (yf && yt) (and_from yf yt q p)
    cases true false false xf yf yt zt xy yy yz xz f g h l p q = elim (or_cases yz (yf && zt) q) as (λ _. zt ≡ true) [ inl e ↦ g p e | inr e ↦ (and_parts yf zt e).1 ]
    cases false true true xf yf yt zt xy yy yz xz f g h l p q = absurd (false≢true q)
    cases false true false xf yf yt zt xy yy yz xz f g h l p q = or_right xz (xf && zt) (and_from xf zt p q)
    cases false false true xf yf yt zt xy yy yz xz f g h l p q = elim (or_cases xy (xf && yt) p) as (λ _. xf ≡ true) [ inl e ↦ f e q | inr e ↦ (and_parts xf yt e).0 ]
    cases false false false xf yf yt zt xy yy yz xz f g h l p q =
        elim (or_cases xy (xf && yt) p) as (λ _. (xz || (xf && zt)) ≡ true) [
          | inl e ↦ elim (or_cases yz (yf && zt) q) as (λ _. (xz || (xf && zt)) ≡ true) [
            | inl d ↦ or_left xz (xf && zt) (h e d)
            | inr d ↦ let k = and_parts yf zt d in or_right xz (xf && zt) (and_from xf zt (f e k.0) k.1)
          ]
          | inr e ↦
              let k = and_parts xf yt e in
              or_right xz (xf && zt) (and_from xf zt k.0 (elim (or_cases yz (yf && zt) q) as (λ _. zt ≡ true) [ inl d ↦ g k.1 d | inr d ↦ (and_parts yf zt d).1 ]))
        ]

flipped : (s t p q c : Bool) → cond t (cond s false q) (cond s p (c || (p && q))) ≡ cond s (cond t false p) (cond t q (c || (q && p)))
flipped true true p q c = refl
flipped true false p q c = refl
flipped false true p q c = refl
flipped false false true true c = refl
flipped false false true false c = refl
flipped false false false true c = refl
flipped false false false false c = refl

pub ways_after : (keys next reaches reached r s t : List ℕ) (w x y : ℕ) → All (λ k. k < w) keys → All (λ k. 0 < k) keys → In x keys → In y keys → next ≡ filter (λ k. not (k == y)) keys
    → TellsWays keys reaches reached w → NoLoopsAfter reaches w keys x y → ReachesAfter keys reaches r w x y → ReachesAfter keys reached s w x y
    → ((z : ℕ) → z < columns w → bit s w 0 z ≡ bit reached w 0 z) → AreBits t w (with_cell (bit s w) 0 y false) → TellsWays next r t w
ways_after keys next reaches reached r s t w x y inside above ix iy e ways loopless hr hs first put =
    subst (λ ks. TellsWays ks r t w) (sym e) (record {
      live = λ z l.
          let xm : x < w = in_below keys w inside x ix in
          put 0 z (omega arith) l
          ∙ ap (cond (z == y) false) (first z l ∙ ways.live z l)
          ∙ gone (z == y) (has keys z) ∙ sym (has_filter (λ k. not (k == y)) keys z);
      turned = λ p q ip iq.
          let kp = in_filter (λ k. not (k == y)) keys p ip in
          let kq = in_filter (λ k. not (k == y)) keys q iq in
          let pm : p < w = in_below keys w inside p kp.0 in
          let qm : q < w = in_below keys w inside q kq.0 in
          let qpos : 0 < q = key_is (λ k. 0 < k) keys above q kq.0 in
          put q p qm (omega arith)
          ∙ ap (λ b. cond (b && (p == y)) false (bit s w q p)) (ne_eqb q 0 (λ z. let z' : q ≡ 0 = z in absurd (omega arith)))
          ∙ hs q p kq.0 kp.0 (not_last q kq.1)
          ∙ ap₂ (λ a b. cond (q == x) (cond (p == x) false (a || b)) (cond (p == x) (bit reached w q x || bit reached w q y) (bit reached w q p || ((bit reached w q x || bit reached w q y) && (a || b))))) (ways.turned p x kp.0 ix) (ways.turned p y kp.0 iy)
          ∙ ap₂ (λ a b. cond (q == x) (cond (p == x) false (bit reaches w p x || bit reaches w p y)) (cond (p == x) (a || b) (bit reached w q p || ((a || b) && (bit reaches w p x || bit reaches w p y))))) (ways.turned x q ix kq.0) (ways.turned y q iy kq.0)
          ∙ ap (λ c. cond (q == x) (cond (p == x) false (bit reaches w p x || bit reaches w p y)) (cond (p == x) (bit reaches w x q || bit reaches w y q) (c || ((bit reaches w x q || bit reaches w y q) && (bit reaches w p x || bit reaches w p y))))) (ways.turned p q kp.0 kq.0)
          ∙ flipped (p == x) (q == x) (bit reaches w x q || bit reaches w y q) (bit reaches w p x || bit reaches w p y) (bit reaches w p q)
          ∙ sym (hr p q kp.0 kq.0 (not_last p kp.1));
      loopless = λ p ip.
          let kp = in_filter (λ k. not (k == y)) keys p ip in
          hr p p kp.0 kp.0 (not_last p kp.1) ∙ loopless p kp.0 (not_last p kp.1);
      onward = λ p q z ip iq iz e f.
          let kp = in_filter (λ k. not (k == y)) keys p ip in
          let kq = in_filter (λ k. not (k == y)) keys q iq in
          let kz = in_filter (λ k. not (k == y)) keys z iz in
          hr p z kp.0 kz.0 (not_last p kp.1)
          ∙ onward_after keys (bit reaches w) x y ix iy ways.onward p q z kp.0 kq.0 kz.0 (loopless q kq.0 (not_last q kq.1))
          (sym (hr p q kp.0 kq.0 (not_last p kp.1)) ∙ e) (sym (hr q z kq.0 kz.0 (not_last q kq.1)) ∙ f);
    })
  where
    gone : (a b : Bool) → cond a false b ≡ (not a && b)
    gone true b = refl
    gone false b = refl

    not_last : (k : ℕ) → not (k == y) ≡ true → k ≢ y
    not_last k g z = false≢true (sym (ap not (eq-eqb k y z)) ∙ g)
