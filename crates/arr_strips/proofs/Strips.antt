-- A walk by strips: at a stored view's places of past positions stands its column, everywhere else what was there.
use Rattle.std.proofs.Common.{◌≡◌, ◌≢◌, ℕ, ◌+◌, ◌-◌, ◌≤◌, ◌<◌, pos, List, [], ◌∷◌, true, false, cond, refl, ap, sym, ◌∙◌, subst, arith, length, get_or}
use Rattle.std.proofs.lemmas.List.{length-map}
use Rattle.std.proofs.lemmas.List.FromFn.{length-range_with_len, get_or-map-range_with_len}
use Rattle.std.proofs.lemmas.Bool.{ltb-true, ltb-false, lt-ltb}
use Rattle.std.specs.Prelude.{nat_lt}
use Rattle.std.specs.List.{AllByRecursion, range_with_len}
use Rattle.arr_view.specs.Strided.{Strided}
use Rattle.arr_ops.specs.declared.op.Op.{Op}
use Rattle.arr_ops.proofs.Pairs.{Pairs, All_weaker}
use Rattle.arr_ops.proofs.Spots.{all_two}
use Rattle.arr_store.specs.Cells.{number_at}
use Rattle.arr_strips.specs.Columns.{place_at, Columns, ends}
use Rattle.arr_strips.specs.Strips.{outline, size, Bases, put_at, part, lane_of, stored, loaded, Walked, joined}
use Rattle.arr_strips.proofs.Cells.{outline-put, put-miss, put-hit}

length-part : (v : Strided) (p c : ℕ) → length (part v p c) ≡ c
length-part v p c = length-map (range_with_len p c) (place_at v) ∙ length-range_with_len p c

length-lane : (h : Columns) (v : Strided) (p c : ℕ) → length (lane_of h v p c) ≡ c
length-lane h v p c = length-map (range_with_len p c) (λ q. h q v) ∙ length-range_with_len p c

part_at : (v : Strided) (p c q : ℕ) → q < c → get_or (part v p c) q 0 ≡ place_at v (p + q)
part_at v p c q l = get_or-map-range_with_len (place_at v) p c q (p + q) 0 l refl

lane_at : (h : Columns) (v : Strided) (p c q : ℕ) → q < c → get_or (lane_of h v p c) q (pos 0) ≡ h (p + q) v
lane_at h v p c q l = get_or-map-range_with_len (λ k. h k v) p c q (p + q) (pos 0) l refl

-- never at one place
abbrev pub Parted : ℕ → Strided → Strided → Type 0
Parted n v w = (i j : ℕ) → i < n → j < n → v.base ≡ w.base → place_at v i ≢ place_at w j

abbrev pub Once : ℕ → Strided → Type 0
Once n v = (i j : ℕ) → i < n → j < n → place_at v i ≡ place_at v j → i ≡ j

module _ (p c : ℕ) (h : Columns) where
  pub outline-stored : (vs : List Strided) (f : Bases) (b : ℕ) → outline (stored p c h vs f b) ≡ outline (f b)
  outline-stored [] f b = refl
  outline-stored (v ∷ vs) f b =
      outline-stored vs (put_at v.base (part v p c) (lane_of h v p c) f) b ∙ outline-put v.base (part v p c) (lane_of h v p c) f b

  -- not at a place of this strip
  abbrev pub Spared : ℕ → ℕ → Strided → Type 0
  Spared b e v = v.base ≡ b → (i : ℕ) → p ≤ i → i < p + c → place_at v i ≢ e

  put_spared : (v : Strided) (f : Bases) (b e : ℕ) → Spared b e v → number_at (put_at v.base (part v p c) (lane_of h v p c) f b) e ≡ number_at (f b) e
  put_spared v f b e s =
      put-miss v.base (part v p c) (lane_of h v p c) f b e
      (λ same q l at.
      let k : length (part v p c) ≡ c = length-part v p c in
      let d : q < c = omega arith in
      s same (p + q) (omega arith) (omega arith) (sym (part_at v p c q d) ∙ at))

  pub stored-miss : (vs : List Strided) (f : Bases) (b e : ℕ) → AllByRecursion (Spared b e) vs → number_at (stored p c h vs f b) e ≡ number_at (f b) e
  stored-miss [] f b e s = refl
  stored-miss (v ∷ vs) f b e s = stored-miss vs (put_at v.base (part v p c) (lane_of h v p c) f) b e s.1 ∙ put_spared v f b e s.0

  module _ (n : ℕ) (within : p + c ≤ n) where
    put_here : (v : Strided) (f : Bases) → Once n v → ((i : ℕ) → i < n → place_at v i < size (outline (f v.base))) → (i : ℕ) → p ≤ i → i < p + c
        → number_at (put_at v.base (part v p c) (lane_of h v p c) f v.base) (place_at v i) ≡ h i v
    put_here v f once inside i l u =
        let k : length (part v p c) ≡ c = length-part v p c in
        let g : length (lane_of h v p c) ≡ c = length-lane h v p c in
        let q : ℕ = i - p in
        let d : q < c = omega arith in
        let back : p + q ≡ i = omega arith in
        let here : get_or (part v p c) q 0 ≡ place_at v i = part_at v p c q d ∙ ap (place_at v) back in
        ap (number_at (put_at v.base (part v p c) (lane_of h v p c) f v.base)) (sym here)
        ∙ put-hit v.base (part v p c) (lane_of h v p c) f q (omega arith) (omega arith)
        (subst (λ e. e < size (outline (f v.base))) (sym here) (inside i (omega arith)))
        (λ x y a b same.
        let xl : x < c = omega arith in
        let yl : y < c = omega arith in
        let e : p + x ≡ p + y = once (p + x) (p + y) (omega arith) (omega arith) (sym (part_at v p c x xl) ∙ same ∙ part_at v p c y yl) in
        omega arith)
        ∙ lane_at h v p c q d ∙ ap (λ j. h j v) back

    pub stored-hit : (vs : List Strided) (f : Bases) → Pairs (Parted n) vs → AllByRecursion (Once n) vs → AllByRecursion (λ v. (i : ℕ) → i < n → place_at v i < size (outline (f v.base))) vs
        → AllByRecursion (λ v. (i : ℕ) → p ≤ i → i < p + c → number_at (stored p c h vs f v.base) (place_at v i) ≡ h i v) vs
    stored-hit [] f apart once inside = tt
    stored-hit (v ∷ vs) f apart once inside =
        let g : Bases = put_at v.base (part v p c) (lane_of h v p c) f in (
          (λ i l u.
              stored-miss vs g v.base (place_at v i)
              (All_weaker (Parted n v) (Spared v.base (place_at v i)) (λ w k same j a b at. k i j (omega arith) (omega arith) (sym same) (sym at)) vs apart.0)
              ∙ put_here v f once.0 inside.0 i l u),
          stored-hit vs g apart.1 once.1
              (All_weaker (λ w. (i : ℕ) → i < n → place_at w i < size (outline (f w.base))) (λ w. (i : ℕ) → i < n → place_at w i < size (outline (g w.base)))
              (λ w k i l. subst (λ o. place_at w i < size o) (sym (outline-put v.base (part v p c) (lane_of h v p c) f w.base)) (k i l)) vs inside.1),
        )

module _ (n : ℕ) (ops : List Op) (reads writes : List Strided) (m : Bases) where
  -- what a block's views are to one another
  pub record Orderly : Type 0 where
    pub apart : Pairs (Parted n) writes
    pub once : AllByRecursion (Once n) writes
    pub inside : AllByRecursion (λ v. (i : ℕ) → i < n → place_at v i < size (outline (m v.base))) writes
    pub unread : (v : Strided) → loaded reads v ≡ true → AllByRecursion (λ (w : Strided). (i j : ℕ) → i < n → j < n → w.base ≡ v.base → place_at w i ≡ place_at v j → i ≡ j) writes
    -- what is computed at a position comes from it and those before it
    pub local : (h g : Columns) (i : ℕ) → i < n → ((j : ℕ) → j ≤ i → h j ≡ g j) → ends ops h i ≡ ends ops g i

  all_true : {X : Type 0} (P : X → Type 0) → ((x : X) → P x) → (xs : List X) → AllByRecursion P xs
  all_true P f [] = tt
  all_true P f (x ∷ xs) = (f x, all_true P f xs)

  pub walk_begins : Walked n ops reads writes m 0 m
  walk_begins =
      record {
        begun = λ i v. pos 0;
        read = λ v on i l. absurd (omega arith);
        same = λ b. refl;
        hit = all_true (λ v. (i : ℕ) → i < 0 → number_at (m v.base) (place_at v i) ≡ ends ops (λ j w. pos 0) i v) (λ v i l. absurd (omega arith)) writes;
        miss = λ b e s. refl;
      }

  module _ (o : Orderly) (p c : ℕ) (within : p + c ≤ n) (now : Bases) (w : Walked n ops reads writes m p now) (here done : Columns)
      (loads : (v : Strided) → loaded reads v ≡ true → (i : ℕ) → p ≤ i → i < p + c → here i v ≡ number_at (now v.base) (place_at v i))
      (does : AllByRecursion (λ v. (i : ℕ) → p ≤ i → i < p + c → done i v ≡ ends ops (joined p w.begun here) i v) writes) where
    abbrev all : Columns
    all = joined p w.begun here

    earlier : (i : ℕ) → i < p → all i ≡ w.begun i
    earlier i l = ap (λ t. cond t (w.begun i) (here i)) (lt-ltb i p l)

    later : (i : ℕ) → p ≤ i → all i ≡ here i
    later i l = elim (nat_lt i p) as (λ t. nat_lt i p ≡ t → cond t (w.begun i) (here i) ≡ here i) [
      | true ↦ λ e. absurd (let u : i < p = ltb-true i p e in omega arith)
      | false ↦ λ e. refl
    ] refl

    at_two : (P : ℕ → Type 0) → ((i : ℕ) → i < p → P i) → ((i : ℕ) → p ≤ i → i < p + c → P i) → (i : ℕ) → i < p + c → P i
    at_two P a b i l = elim (nat_lt i p) as (λ t. nat_lt i p ≡ t → P i) [
      | true ↦ λ e. a i (ltb-true i p e)
      | false ↦ λ e. b i (ltb-false i p e) l
    ] refl

    -- what a strip loads was there at the start
    unwritten : (v : Strided) → loaded reads v ≡ true → (i : ℕ) → p ≤ i → i < p + c → number_at (now v.base) (place_at v i) ≡ number_at (m v.base) (place_at v i)
    unwritten v on i l u =
        w.miss v.base (place_at v i)
        (All_weaker (λ (x : Strided). (i j : ℕ) → i < n → j < n → x.base ≡ v.base → place_at x i ≡ place_at v j → i ≡ j) (λ (x : Strided). x.base ≡ v.base → (k : ℕ) → k < p → place_at x k ≢ place_at v i)
        (λ x k b q d at. let e : q ≡ i = k q i (omega arith) (omega arith) b at in absurd (omega arith)) writes (o.unread v on))

    abbrev after : Bases
    after = stored p c done writes now

    inside_now : AllByRecursion (λ v. (i : ℕ) → i < n → place_at v i < size (outline (now v.base))) writes
    inside_now =
        All_weaker (λ v. (i : ℕ) → i < n → place_at v i < size (outline (m v.base))) (λ v. (i : ℕ) → i < n → place_at v i < size (outline (now v.base)))
        (λ v k i l. subst (λ q. place_at v i < size q) (sym (w.same v.base)) (k i l)) writes o.inside

    -- views that are stored keep out of the earlier places of one another
    each_spared : (vs : List Strided) → Pairs (Parted n) vs → AllByRecursion (Once n) vs → AllByRecursion (λ v. (i : ℕ) → i < p → AllByRecursion (Spared p c done v.base (place_at v i)) vs) vs
    each_spared [] a b = tt
    each_spared (v ∷ vs) a b = (
      (λ i l. (
        (λ same j x y at. let e : j ≡ i = b.0 j i (omega arith) (omega arith) at in absurd (omega arith)),
        All_weaker (Parted n v) (Spared p c done v.base (place_at v i)) (λ u k same j x y at. k i j (omega arith) (omega arith) (sym same) (sym at)) vs a.0,
      )),
      all_two (Parted n v) (λ u. (i : ℕ) → i < p → AllByRecursion (Spared p c done u.base (place_at u i)) vs) (λ u. (i : ℕ) → i < p → AllByRecursion (Spared p c done u.base (place_at u i)) (v ∷ vs))
          (λ u k r i l. ((λ same j x y at. k j i (omega arith) (omega arith) same at), r i l)) vs a.0 (each_spared vs a.1 b.1),
    )

    -- one strip more
    pub walk_goes_on : Walked n ops reads writes m (p + c) after
    walk_goes_on =
        record {
          begun = all;
          read = λ v on i l. at_two (λ j. all j v ≡ number_at (m v.base) (place_at v j))
              (λ j d. ap (λ r. r v) (earlier j d) ∙ w.read v on j d)
              (λ j d u. ap (λ r. r v) (later j d) ∙ loads v on j d u ∙ unwritten v on j d u) i l;
          same = λ b. outline-stored p c done writes now b ∙ w.same b;
          hit = hits writes w.hit (each_spared writes o.apart o.once) (stored-hit p c done n within writes now o.apart o.once inside_now) does;
          miss = λ b e s.
              stored-miss p c done writes now b e
              (All_weaker (λ (v : Strided). v.base ≡ b → (i : ℕ) → i < p + c → place_at v i ≢ e) (Spared p c done b e) (λ v k same i x y. k same i y) writes s)
              ∙ w.miss b e (All_weaker (λ (v : Strided). v.base ≡ b → (i : ℕ) → i < p + c → place_at v i ≢ e) (λ (v : Strided). v.base ≡ b → (i : ℕ) → i < p → place_at v i ≢ e) (λ v k same i x. k same i (omega arith)) writes s);
        }
      where
        hits : (vs : List Strided)
            → AllByRecursion (λ v. (i : ℕ) → i < p → number_at (now v.base) (place_at v i) ≡ ends ops w.begun i v) vs
            → AllByRecursion (λ v. (i : ℕ) → i < p → AllByRecursion (Spared p c done v.base (place_at v i)) writes) vs
            → AllByRecursion (λ v. (i : ℕ) → p ≤ i → i < p + c → number_at (after v.base) (place_at v i) ≡ done i v) vs
            → AllByRecursion (λ v. (i : ℕ) → p ≤ i → i < p + c → done i v ≡ ends ops all i v) vs
            → AllByRecursion (λ v. (i : ℕ) → i < p + c → number_at (after v.base) (place_at v i) ≡ ends ops all i v) vs
        hits [] a b d e = tt
        hits (v ∷ vs) a b d e = (
          (λ i l. at_two (λ j. number_at (after v.base) (place_at v j) ≡ ends ops all j v)
              (λ j u. stored-miss p c done writes now v.base (place_at v j) (b.0 j u) ∙ a.0 j u
              ∙ ap (λ r. r v) (o.local w.begun all j (omega arith) (λ k q. sym (earlier k (omega arith)))))
              (λ j u x. d.0 j u x ∙ e.0 j u x) i l),
          hits vs a.1 b.1 d.1 e.1,
        )

    -- what was loaded is added to what was loaded before
    pub walk_begun : walk_goes_on.begun ≡ all
    unfolding walk_goes_on
    walk_begun = refl
