-- The problem of a formed list is proper.
use Rattle.std.proofs.Common.{◌≡◌, ℕ, zero, suc, ◌+◌, ◌<◌, ◌≤◌, List, [], ◌∷◌, ◌++◌, length, get_or, map, Bool, true, false, cond, not, ◌&&◌, ◌||◌, Option, Some, None, refl, sym, ap, ◌∙◌, subst, arith, ⊎_elim}
use Rattle.std.specs.Prelude.{is_some, is_none, ◌==◌, nat_lt, nat_le}
use Rattle.std.specs.List.{list_any, list_all, position_or_len}
use Rattle.std.specs.Option.{option_to_list}
use Rattle.std.proofs.lemmas.Bool.{and_parts, and_from, or_left, or_right, not-true, eqb-true, eq-eqb, true≢false, lt-ltb, ltb-true, le-leb, cases_lt, cases_eq}
use Rattle.std.proofs.lemmas.List.Folds.{list_any-append}
use Rattle.std.proofs.lemmas.List.Sums.{passes_at_first}
use Rattle.arr_num.specs.Kinds.{Kind, Binary, Unary, Counting, Reduction, Scan, Ending, Printing, kind}
use Rattle.arr_view.specs.Strided.{Strided}
use Rattle.arr_view.specs.Views.{overlap, identical, has, same_lists, is_view}
use Rattle.arr_ops.specs.declared.op.Op.{Op}
use Rattle.arr_ops.specs.Ops.{inputs, outputs, views, freed, named, is_free, serial, walked, same_walk, crosses, fusible, some_pair, disturbs, dep, makes_base}
use Rattle.arr_ops.specs.Formed.{all_pairs, is_formed, well_formed, kind_kept, operands_kept, types_kept, numbers_kept, plain, along_axis, is_array, same_elem, same_shape, dropped_axis, writes_once, makes_whole, may_precede, slots_ascend, each_inside, each_typed}
use Rattle.arr_ops.proofs.Tests.{or_cases, same_from_test}
use Rattle.arr_ops.proofs.Alike.{alike, same_from}
use Rattle.arr_law.specs.Problem.{is_op}
use Rattle.arr_law.specs.Settled.{IsProper}
use Rattle.arr_law.specs.ProblemOf.{nothing, op_at, first_where, view_at, problem_of}

pub bool_ext : (a b : Bool) → (a ≡ true → b ≡ true) → (b ≡ true → a ≡ true) → a ≡ b
bool_ext true b f g = sym (f refl)
bool_ext false true f g = g refl
bool_ext false false f g = refl

-- ---- a FREE has nothing else

none_is : {X : Type 0} (o : Option X) → is_none o ≡ true → o ≡ None
none_is None e = refl
none_is (Some x) e = absurd (true≢false (sym e))

not_none : {X : Type 0} (o : Option X) (x : X) → o ≡ Some x → is_none o ≡ true → ⊥
not_none o x is e = true≢false (sym e ∙ ap is_none is)

pub record Bare (op : Op) : Type 0 where
  pub out : op.out ≡ None
  pub first : op.first ≡ None
  pub second : op.second ≡ None
  pub makes : op.makes ≡ false

not_plain : (op : Op) (b : ℕ) (rest : Bool) → op.frees ≡ Some b → ((plain op && rest) ≡ true) → ⊥
not_plain op b rest is e =
    let p = and_parts (plain op) rest e in
    let q = and_parts (is_none op.axis) (is_none op.slot && is_none op.frees) p.0 in
    not_none op.frees b is (and_parts (is_none op.slot) (is_none op.frees) q.1).1

not_along : (op : Op) (b : ℕ) (after : ℕ → List ℕ → List ℕ) → op.frees ≡ Some b → along_axis op after ≡ true → ⊥
not_along op b after is e = not_none op.frees b is (fifth (is_some op.out) (is_array op.first) (is_none op.second) (is_none op.slot) (is_none op.frees) (same_elem op.to op.from && (is_some op.axis && list_all (λ axis. list_all (λ (v : Strided). nat_lt axis (length v.lengths) && same_shape (after axis v.lengths) (outputs op)) (inputs op)) (option_to_list op.axis))) e)
  where
    fifth : (a b c d e f : Bool) → (a && (b && (c && (d && (e && f))))) ≡ true → e ≡ true
    fifth a b c d e f h =
        let p = and_parts a (b && (c && (d && (e && f)))) h in
        let q = and_parts b (c && (d && (e && f))) p.1 in
        let r = and_parts c (d && (e && f)) q.1 in
        let s = and_parts d (e && f) r.1 in
        (and_parts e f s.1).0

bare_kind : (k : Kind) (op : Op) (b : ℕ) → op.frees ≡ Some b → operands_kept k op ≡ true → Bare op
bare_kind Binary op b is e = absurd (not_plain op b _ is (and_parts _ (is_some op.first && is_some op.second) e).0)
bare_kind Unary op b is e = absurd (not_plain op b _ is (and_parts _ (is_some op.first && is_none op.second) e).0)
bare_kind Counting op b is e = absurd (not_plain op b _ is (and_parts _ (is_none op.first && is_none op.second) e).0)
bare_kind Reduction op b is e = absurd (not_along op b dropped_axis is e)
bare_kind Scan op b is e = absurd (not_along op b (λ axis lengths. lengths) is e)
bare_kind Printing op b is e =
    let p = and_parts (is_some op.slot) _ e in
    let q = and_parts _ (is_none op.out && (is_none op.second && (is_none op.axis && (is_none op.frees && not op.makes)))) p.1 in
    let r = and_parts (is_none op.out) (is_none op.second && (is_none op.axis && (is_none op.frees && not op.makes))) q.1 in
    let s = and_parts (is_none op.second) (is_none op.axis && (is_none op.frees && not op.makes)) r.1 in
    let t = and_parts (is_none op.axis) (is_none op.frees && not op.makes) s.1 in
    absurd (not_none op.frees b is (and_parts (is_none op.frees) (not op.makes) t.1).0)
bare_kind Ending op b is e =
    let p = and_parts (is_some op.frees) (is_none op.out && (is_none op.first && (is_none op.second && (is_none op.axis && (is_none op.slot && not op.makes))))) e in
    let q = and_parts (is_none op.out) (is_none op.first && (is_none op.second && (is_none op.axis && (is_none op.slot && not op.makes)))) p.1 in
    let r = and_parts (is_none op.first) (is_none op.second && (is_none op.axis && (is_none op.slot && not op.makes))) q.1 in
    let s = and_parts (is_none op.second) (is_none op.axis && (is_none op.slot && not op.makes)) r.1 in
    let t = and_parts (is_none op.axis) (is_none op.slot && not op.makes) s.1 in
    let u = and_parts (is_none op.slot) (not op.makes) t.1 in
    record { out = none_is op.out q.0; first = none_is op.first r.0; second = none_is op.second s.0; makes = not-true op.makes u.1 }

bare_well : (op : Op) (b : ℕ) → op.frees ≡ Some b → well_formed op ≡ true → Bare op
bare_well op b is e =
    let p = and_parts (kind_kept op) (list_all is_view (views op) && (writes_once op && makes_whole op)) e in
    let q = and_parts (operands_kept (kind op.code) op) (types_kept op.code op && numbers_kept op.code op) p.0 in
    bare_kind (kind op.code) op b is q.0

bare_at : (xs : List Op) (i b : ℕ) → list_all well_formed xs ≡ true → (get_or xs i nothing).frees ≡ Some b → Bare (get_or xs i nothing)
bare_at [] i b e is = absurd (cc)
bare_at (x ∷ xs) zero b e is = bare_well x b is (and_parts (well_formed x) (list_all well_formed xs) e).0
bare_at (x ∷ xs) (suc i) b e is = bare_at xs i b (and_parts (well_formed x) (list_all well_formed xs) e).1 is

no_views : (op : Op) → Bare op → views op ≡ []
no_views op bare = rw (bare.out, bare.first, bare.second) refl

-- ---- the order of two operations

all_last : {X : Type 0} (t : X → X → Bool) (d : X) → ((x : X) → t x d ≡ true) → (x : X) (xs : List X) (j : ℕ) → list_all (t x) xs ≡ true → t x (get_or xs j d) ≡ true
all_last t d h x [] j e = h x
all_last t d h x (y ∷ ys) zero e = (and_parts (t x y) (list_all (t x) ys) e).0
all_last t d h x (y ∷ ys) (suc j) e = all_last t d h x ys j (and_parts (t x y) (list_all (t x) ys) e).1

-- a test of pairs, the earlier first, where past the end all passes
pairs_at : {X : Type 0} (t : X → X → Bool) (d : X) → ((x : X) → t x d ≡ true) → (xs : List X) (i j : ℕ) → i < j → all_pairs t xs ≡ true → t (get_or xs i d) (get_or xs j d) ≡ true
pairs_at t d h [] i j l e = h d
pairs_at t d h (x ∷ xs) i zero l e = absurd (omega arith)
pairs_at t d h (x ∷ xs) zero (suc j) l e = all_last t d h x xs j (and_parts (list_all (t x) xs) (all_pairs t xs) e).0
pairs_at t d h (x ∷ xs) (suc i) (suc j) l e = pairs_at t d h xs i j (omega arith) (and_parts (list_all (t x) xs) (all_pairs t xs) e).1

all_true : {X : Type 0} (p : X → Bool) → ((x : X) → p x ≡ true) → (xs : List X) → list_all p xs ≡ true
all_true p h [] = refl
all_true p h (x ∷ xs) = and_from (p x) (list_all p xs) (h x) (all_true p h xs)

before_nothing : (op : Op) → may_precede op nothing ≡ true
before_nothing op = all_true (λ b. not (has (named nothing) b)) (λ b. refl) (freed op)

nothing_before : (op : Op) → may_precede nothing op ≡ true
nothing_before op =
    and_from (not op.makes || list_all (λ (o : Strided). not (has (named nothing) o.base)) (outputs op)) true
    (or_right (not op.makes) (list_all (λ (o : Strided). not (has (named nothing) o.base)) (outputs op)) (all_true (λ (o : Strided). not (has (named nothing) o.base)) (λ o. refl) (outputs op))) refl

-- ---- symmetry

and_turned : (a b s c d : Bool) → (a && (b && (s && (c && d)))) ≡ (b && (a && (s && (d && c))))
and_turned true true true true true = refl
and_turned true true true true false = refl
and_turned true true true false true = refl
and_turned true true true false false = refl
and_turned true true false c d = refl
and_turned true false s c d = refl
and_turned false true s c d = refl
and_turned false false s c d = refl

or_turned : (a b : Bool) → (a || b) ≡ (b || a)
or_turned true true = refl
or_turned true false = refl
or_turned false true = refl
or_turned false false = refl

same_turned : (ns ms : List (List ℕ)) → same_walk ns ms ≡ same_walk ms ns
same_turned [] [] = refl
same_turned [] (m ∷ ms) = refl
same_turned (n ∷ ns) [] = refl
same_turned (n ∷ ns) (m ∷ ms) =
    bool_ext (same_lists n m) (same_lists m n) (λ e. same_from m n (sym (same_from_test n m e))) (λ e. same_from n m (sym (same_from_test m n e)))

fusible_turned : (f g : Op) → fusible f g ≡ fusible g f
fusible_turned f g =
    ap (λ b. (is_free f || is_free g) || b)
    (ap (λ s. not (serial f) && (not (serial g) && (s && (not (crosses f g) && not (crosses g f))))) (same_turned (walked f) (walked g))
    ∙ and_turned (not (serial f)) (not (serial g)) (same_walk (walked g) (walked f)) (not (crosses f g)) (not (crosses g f)))
    ∙ ap (λ b. b || (not (serial g) && (not (serial f) && (same_walk (walked g) (walked f) && (not (crosses g f) && not (crosses f g)))))) (or_turned (is_free f) (is_free g))

-- ---- bases

-- a view like one of a list has a base of the list
based : (v : Strided) (ws : List Strided) → list_any (identical v) ws ≡ true → has (map (λ (w : Strided). w.base) ws) v.base ≡ true
based v [] e = e
based v (w ∷ ws) e =
    or_cases (identical v w) (list_any (identical v) ws) e
    (λ here. or_left (v.base == w.base) _ (eq-eqb v.base w.base ((alike v w here).base)))
    (λ later. or_right (v.base == w.base) _ (based v ws later))

-- nothing overlaps the views of a FREE
no_overlap : (vs : List Strided) → some_pair overlap vs [] ≡ false
no_overlap [] = refl
no_overlap (v ∷ vs) = no_overlap vs

pub first_passes : (test : Op → Bool) (list : List Op) (g : ℕ) → first_where test list ≡ Some g → (is_op (problem_of list) g ≡ true) × (test (op_at list g) ≡ true)
first_passes test list g e = go (list_any test list) refl e
  where
    small : (xs : List Op) → list_any test xs ≡ true → position_or_len test xs < length xs
    small [] h = absurd (true≢false (sym h))
    small (x ∷ xs) h = here (test x) refl (small xs)
      where
        here : (b : Bool) → test x ≡ b → (list_any test xs ≡ true → position_or_len test xs < length xs) → cond (not b) (1 + position_or_len test xs) 0 < suc (length xs)
        here true t ih = omega arith
        here false t ih = let l : position_or_len test xs < length xs = ih (or_cases (test x) (list_any test xs) h (λ k. absurd (true≢false (sym k ∙ t))) (λ k. k)) in omega arith

    go : (b : Bool) → list_any test list ≡ b → cond b (Some (suc (position_or_len test list))) None ≡ Some g → (is_op (problem_of list) g ≡ true) × (test (op_at list g) ≡ true)
    go false t s = absurd (cc)
    go true t s =
        let same : suc (position_or_len test list) ≡ g = cc in
        let l = small list t in
        subst (λ k. (is_op (problem_of list) k ≡ true) × (test (op_at list k) ≡ true)) same (
          and_from (nat_le 1 (suc (position_or_len test list))) (nat_le (suc (position_or_len test list)) (length list)) (le-leb 1 (suc (position_or_len test list)) (omega arith)) (le-leb (suc (position_or_len test list)) (length list) (omega arith)),
          passes_at_first test list nothing l,
        )

freed_is : (o : Option ℕ) (b : ℕ) → has (option_to_list o) b ≡ true → o ≡ Some b
freed_is None b e = absurd (true≢false (sym e))
freed_is (Some a) b e = or_cases (b == a) false e (λ h. ap Some (sym (eqb-true b a h))) (λ h. absurd (true≢false (sym h)))

module _ (list : List Op) (formed : is_formed list ≡ true) where
  well : list_all well_formed list ≡ true
  well = (and_parts (list_all well_formed list) (slots_ascend list && (each_inside list && (each_typed list && all_pairs may_precede list))) formed).0

  pub ordered : all_pairs may_precede list ≡ true
  ordered =
      let p = and_parts (list_all well_formed list) (slots_ascend list && (each_inside list && (each_typed list && all_pairs may_precede list))) formed in
      let q = and_parts (slots_ascend list) (each_inside list && (each_typed list && all_pairs may_precede list)) p.1 in
      let r = and_parts (each_inside list) (each_typed list && all_pairs may_precede list) q.1 in
      (and_parts (each_typed list) (all_pairs may_precede list) r.1).1

  pub precedes : (f g : ℕ) → f < g → may_precede (op_at list f) (op_at list g) ≡ true
  precedes f g l =
      pairs_at may_precede nothing before_nothing (nothing ∷ list) f g l
      (and_from (list_all (may_precede nothing) list) (all_pairs may_precede list) (all_true (may_precede nothing) nothing_before list) ordered)

  bare : (f b : ℕ) → (op_at list f).frees ≡ Some b → Bare (op_at list f)
  bare zero b is = absurd (cc)
  bare (suc i) b is = bare_at list i b well is

  -- what an operation frees no later one names
  not_after : (f g b : ℕ) → f < g → (op_at list f).frees ≡ Some b → has (named (op_at list g)) b ≡ true → ⊥
  not_after f g b l is e =
      let p = and_parts (not (op_at list g).makes || list_all (λ (o : Strided). not (has (named (op_at list f)) o.base)) (outputs (op_at list g))) (list_all (λ d. not (has (named (op_at list g)) d)) (freed (op_at list f))) (precedes f g l) in
      let q : (not (has (named (op_at list g)) b) && true) ≡ true = subst (λ o. list_all (λ d. not (has (named (op_at list g)) d)) (option_to_list o) ≡ true) is p.1 in
      true≢false (sym e ∙ not-true _ (and_parts (not (has (named (op_at list g)) b)) true q).0)

  names_in : (op : Op) (b : ℕ) → has (map (λ (v : Strided). v.base) (views op)) b ≡ true → has (named op) b ≡ true
  names_in op b e = list_any-append (λ x. b == x) (map (λ (v : Strided). v.base) (views op)) (freed op) ∙ or_left (has (map (λ (v : Strided). v.base) (views op)) b) (has (freed op) b) e

  frees_in : (op : Op) (b : ℕ) → op.frees ≡ Some b → has (named op) b ≡ true
  frees_in op b is =
      list_any-append (λ x. b == x) (map (λ (v : Strided). v.base) (views op)) (freed op)
      ∙ or_right (has (map (λ (v : Strided). v.base) (views op)) b) (has (freed op) b) (subst (λ o. has (option_to_list o) b ≡ true) (sym is) (or_left (b == b) false (eq-eqb b b refl)))

  nameless : (f b d : ℕ) → (op_at list f).frees ≡ Some b → has (map (λ (v : Strided). v.base) (views (op_at list f))) d ≡ true → ⊥
  nameless f b d is n = true≢false (sym (subst (λ vs. has (map (λ (v : Strided). v.base) vs) d ≡ true) (no_views (op_at list f) (bare f b is)) n))

  -- a FREE disturbs only what names its base
  disturbs_named : (f g b : ℕ) → (op_at list f).frees ≡ Some b → disturbs (op_at list f) (op_at list g) ≡ true → has (named (op_at list g)) b ≡ true
  disturbs_named f g b is e =
      or_cases (some_pair overlap (outputs (op_at list f)) (views (op_at list g))) (list_any (has (named (op_at list g))) (freed (op_at list f))) e
      (λ o. absurd (true≢false (sym (subst (λ vs. some_pair overlap (option_to_list vs) (views (op_at list g)) ≡ true) ((bare f b is).out) o))))
      (λ n. or_cases (has (named (op_at list g)) b) false (subst (λ o. list_any (has (named (op_at list g))) (option_to_list o) ≡ true) is n) (λ k. k) (λ k. absurd (true≢false (sym k))))

  -- what disturbs a FREE frees the same base
  disturbed_free : (f g b : ℕ) → (op_at list f).frees ≡ Some b → disturbs (op_at list g) (op_at list f) ≡ true → (op_at list g).frees ≡ Some b
  disturbed_free f g b is e =
      or_cases (some_pair overlap (outputs (op_at list g)) (views (op_at list f))) (list_any (has (named (op_at list f))) (freed (op_at list g))) e
      (λ o. absurd (true≢false (sym (subst (λ vs. some_pair overlap (outputs (op_at list g)) vs ≡ true) (no_views (op_at list f) (bare f b is)) o) ∙ no_overlap (outputs (op_at list g)))))
      (λ n. freed_from (op_at list g).frees (subst (λ ns. list_any (has ns) (freed (op_at list g)) ≡ true) own n))
    where
      own : named (op_at list f) ≡ b ∷ []
      own = ap (λ vs. map (λ (v : Strided). v.base) vs ++ freed (op_at list f)) (no_views (op_at list f) (bare f b is)) ∙ ap option_to_list is

      freed_from : (o : Option ℕ) → list_any (has (b ∷ [])) (option_to_list o) ≡ true → o ≡ Some b
      freed_from None h = absurd (true≢false (sym h))
      freed_from (Some d) h = or_cases (has (b ∷ []) d) false h (λ k. or_cases (d == b) false k (λ m. ap Some (eqb-true d b m)) (λ m. absurd (true≢false (sym m)))) (λ k. absurd (true≢false (sym k)))

  last : (f g b : ℕ) → (op_at list f).frees ≡ Some b → (nat_lt f g && dep (op_at list f) (op_at list g)) ≡ true → ⊥
  last f g b is e =
      let h = and_parts (nat_lt f g) (dep (op_at list f) (op_at list g)) e in
      not_after f g b (ltb-true f g h.0) is
      (or_cases (disturbs (op_at list f) (op_at list g)) (disturbs (op_at list g) (op_at list f)) h.1 (disturbs_named f g b is) (λ d. frees_in (op_at list g) b (disturbed_free f g b is d)))

  user : (f g b : ℕ) → (op_at list g).frees ≡ Some b → (nat_lt f g && dep (op_at list f) (op_at list g)) ≡ true → has (map (λ (v : Strided). v.base) (views (op_at list f))) b ≡ true
  user f g b is e =
      let h = and_parts (nat_lt f g) (dep (op_at list f) (op_at list g)) e in
      or_cases (disturbs (op_at list f) (op_at list g)) (disturbs (op_at list g) (op_at list f)) h.1
      (λ d. absurd (not_after f g b (ltb-true f g h.0) (disturbed_free g f b is d) (frees_in (op_at list g) b is)))
      (λ d. or_cases (has (map (λ (v : Strided). v.base) (views (op_at list f))) b) (has (freed (op_at list f)) b) (sym (list_any-append (λ x. b == x) (map (λ (v : Strided). v.base) (views (op_at list f))) (freed (op_at list f))) ∙ disturbs_named g f b is d)
      (λ k. k) (λ k. absurd (not_after f g b (ltb-true f g h.0) (freed_is (op_at list f).frees b k) (frees_in (op_at list g) b is))))

  users : (u g b : ℕ) → (op_at list g).frees ≡ Some b → has (map (λ (v : Strided). v.base) (views (op_at list u))) b ≡ true → (nat_lt u g && dep (op_at list u) (op_at list g)) ≡ true
  users u g b is n =
      and_from (nat_lt u g) (dep (op_at list u) (op_at list g)) (lt-ltb u g before)
      (or_right (disturbs (op_at list u) (op_at list g)) (disturbs (op_at list g) (op_at list u))
      (or_right (some_pair overlap (outputs (op_at list g)) (views (op_at list u))) (list_any (has (named (op_at list u))) (freed (op_at list g)))
      (subst (λ o. list_any (has (named (op_at list u))) (option_to_list o) ≡ true) (sym is) (or_left (has (named (op_at list u)) b) false (names_in (op_at list u) b n)))))
    where
      before : u < g
      before =
          ⊎_elim (λ l. l) (λ (ge : g ≤ u).
          ⊎_elim (λ (same : u ≡ g). absurd (nameless g b b is (subst (λ x. has (map (λ (v : Strided). v.base) (views (op_at list x))) b ≡ true) same n)))
          (λ (ne : u ≡ g → ⊥). absurd (not_after g u b (⊎_elim (λ l. l) (λ (k : u ≤ g). absurd (ne (omega arith))) (cases_lt g u)) is (names_in (op_at list u) b n)))
          (cases_eq u g)) (cases_lt u g)

  pub proper : IsProper (problem_of list)
  proper =
      record {
        even = λ f g. fusible_turned (op_at list f) (op_at list g);
        free_fusible = λ f g b is.
            or_left (is_free (op_at list f) || is_free (op_at list g)) _
            (or_right (is_free (op_at list f)) (is_free (op_at list g)) (ap (λ o. list_any (λ _. true) (option_to_list o)) is));
        freer_frees = λ b g is. let h = first_passes (λ op. has (freed op) b) list g is in (h.0, freed_is (op_at list g).frees b h.1);
        last = last;
        user = user;
        users = users;
        nameless = nameless;
        maker = λ b f d is fr.
            let h = first_passes (λ op. makes_base op b) list f is in
            let k = and_parts (op_at list f).makes (list_any (λ (o : Strided). o.base == b) (outputs (op_at list f))) h.1 in
            true≢false (sym k.0 ∙ (bare f d fr).makes);
        named = λ f c e.
            based (view_at list c) (views (op_at list f))
            (list_any-append (identical (view_at list c)) (outputs (op_at list f)) (inputs (op_at list f))
            ∙ (or_turned (list_any (identical (view_at list c)) (outputs (op_at list f))) (list_any (identical (view_at list c)) (inputs (op_at list f))) ∙ e));
      }
