-- The memory before each block fits the block's operations.
use Rattle.std.proofs.Common.{◌≡◌, ℕ, ◌≤◌, suc, ℤ, List, [], ◌∷◌, Bool, true, false, cond, not, ◌||◌, ◌&&◌, refl, ap, sym, subst, ◌∙◌, arith, length, set, Option, Some, None}
use Rattle.std.proofs.lemmas.List.{length-set}
use Rattle.std.proofs.lemmas.Bool.{false≢true, eqb-true, eq-eqb}
use Rattle.std.specs.Prelude.{◌==◌, nat_lt, is_none}
use Rattle.std.specs.List.{AllByRecursion, list_any, list_all}
use Rattle.std.specs.Option.{option_to_list}
use Rattle.arr_view.specs.Strided.{Strided}
use Rattle.arr_view.specs.Views.{elements, has}
use Rattle.arr_ops.specs.Ops.{freed, outputs}
use Rattle.arr_ops.specs.Memory.{Memory, Cell, Slot, Keeps, Drops, Becomes, Writes, changed, change, output_change, write, computed, step, eager, slot_after}
use Rattle.arr_ops.specs.Fits.{Need, needs, meets_need, op_fits, fits}
use Rattle.arr_ops.specs.Ops.{makes_base, creates}
use Rattle.arr_ops.specs.Formed.{same_elem}
use Rattle.arr_ops.specs.Plans.{ops_of, place, holders}
use Rattle.arr_ops.specs.Laws.{blocks_fit}
use Rattle.arr_num.specs.declared.elem.Elem.{Elem}
use Rattle.arr_ops.specs.declared.op.Op.{Op}
use Rattle.arr_ops.proofs.Pairs.{All_weaker}
use Rattle.arr_ops.proofs.Tests.{both_left, both_right, all_of, or_cases, test_all}
use Rattle.arr_ops.proofs.Spots.{same_elem_is}
use Rattle.arr_ops.proofs.Typed.{AllIn, Suits, computed_in, write_in}
use Rattle.arr_num.specs.Numbers.{in_type}

pub or_first : (a b : Bool) → a ≡ true → (a || b) ≡ true
or_first true b h = refl
or_first false b h = absurd (false≢true h)

pub or_second : (a b : Bool) → b ≡ true → (a || b) ≡ true
or_second true b h = refl
or_second false b h = h

both_true : (a b : Bool) → a ≡ true → b ≡ true → (a && b) ≡ true
both_true true b p q = q
both_true false b p q = p

-- ---- one operation

length-write : (ps : List ℕ) (xs ns : List ℤ) → length (write ps xs ns) ≡ length ns
length-write [] xs ns = refl
length-write (p ∷ ps) [] ns = refl
length-write (p ∷ ps) (x ∷ xs) ns = length-write ps xs (set ns p x) ∙ length-set ns p x

-- what is written is of the type that is needed
meets_written : (ps : List ℕ) (xs : List ℤ) (c : Option Cell) (n : Need) → AllIn n.elem xs → meets_need c n ≡ true → meets_need (changed (Writes ps xs) c) n ≡ true
meets_written ps xs None n a h = h
meets_written ps xs (Some c) n a h =
    let typed : same_elem c.elem n.elem ≡ true = both_left (same_elem c.elem n.elem) _ h in
    let rest = both_right (same_elem c.elem n.elem) _ h in
    let numbers : AllIn c.elem c.numbers = all_of (in_type c.elem) c.numbers (both_left (list_all (in_type c.elem) c.numbers) _ rest) in
    both_true (same_elem c.elem n.elem) _ typed
    (both_true (list_all (in_type c.elem) (write ps xs c.numbers)) _
    (test_all (in_type c.elem) (write ps xs c.numbers) (write_in c.elem ps xs c.numbers (subst (λ t. AllIn t xs) (sym (same_elem_is c.elem n.elem typed)) a) numbers))
    (ap (λ k. list_all (λ e. nat_lt e k) n.places) (length-write ps xs c.numbers) ∙ both_right (list_all (in_type c.elem) c.numbers) _ rest))

-- what f makes meets the need, and what it writes is of the needed type
pub record Serves (f : Op) (n : Need) : Type 0 where
  pub made : (m : Memory) → makes_base f n.base ≡ true → meets_need (Some (record { elem = f.to; numbers = computed m f })) n ≡ true
  pub written : Suits n.elem n.base f

output_meets : (out : Option Strided) (makes : Bool) (t : Elem) (xs : List ℤ) (n : Need) (c : Option Cell)
    → ((o : Strided) → out ≡ Some o → (o.base == n.base) ≡ true → AllIn n.elem xs)
    → ((makes && list_any (λ (o : Strided). o.base == n.base) (option_to_list out)) ≡ true → meets_need (Some (record { elem = t; numbers = xs })) n ≡ true)
    → ((makes && list_any (λ (o : Strided). o.base == n.base) (option_to_list out)) || meets_need c n) ≡ true → meets_need (changed (output_change out makes t xs n.base) c) n ≡ true
output_meets None true t xs n c w s h = h
output_meets None false t xs n c w s h = h
output_meets (Some v) makes t xs n c w s h =
    elim (v.base == n.base) as (λ b. (v.base == n.base) ≡ b → ((makes && (b || false)) ≡ true → meets_need (Some (record { elem = t; numbers = xs })) n ≡ true) → ((makes && (b || false)) || meets_need c n) ≡ true
    → meets_need (changed (cond b (cond makes (Becomes (record { elem = t; numbers = xs })) (Writes (elements v) xs)) Keeps) c) n ≡ true) [
      | true ↦ λ e. here makes (w v refl e)
      | false ↦ λ e s h. or_cases (makes && false) (meets_need c n) h (λ t. absurd (false≢true (both_right makes false t))) (λ t. t)
    ] refl s h
  where
    here : (makes : Bool) → AllIn n.elem xs → ((makes && true) ≡ true → meets_need (Some (record { elem = t; numbers = xs })) n ≡ true) → ((makes && true) || meets_need c n) ≡ true
        → meets_need (changed (cond makes (Becomes (record { elem = t; numbers = xs })) (Writes (elements v) xs)) c) n ≡ true
    here true a s h = s refl
    here false a s h = meets_written (elements v) xs c n a h

step_meets : (f : Op) (m : Memory) (n : Need) → has (freed f) n.base ≡ false → Serves f n → (makes_base f n.base || meets_need (m.bases n.base) n) ≡ true
    → meets_need ((step m f).bases n.base) n ≡ true
step_meets f m n free s h =
    ap (λ b. meets_need (changed (cond b Drops (output_change f.out f.makes f.to (computed m f) n.base)) (m.bases n.base)) n) free
    ∙ output_meets f.out f.makes f.to (computed m f) n (m.bases n.base)
    (λ o p q. let w = s.written.typed o p q in subst (λ t. AllIn t (computed m f)) w.0 (computed_in m f w.1)) (s.made m) h

-- ---- a block

block_meets : (ops : List Op) (m : Memory) (n : Need) → AllByRecursion (λ f. (has (freed f) n.base ≡ false) × Serves f n) ops
    → (creates ops n.base || meets_need (m.bases n.base) n) ≡ true → meets_need ((eager m ops).bases n.base) n ≡ true
block_meets [] m n a h = h
block_meets (f ∷ ops) m n a h =
    block_meets ops (step m f) n a.1
    (or_cases (makes_base f n.base || creates ops n.base) (meets_need (m.bases n.base) n) h
    (λ t. or_cases (makes_base f n.base) (creates ops n.base) t
    (λ u. or_second (creates ops n.base) _ (step_meets f m n a.0.0 a.0.1 (or_first (makes_base f n.base) (meets_need (m.bases n.base) n) u)))
    (λ u. or_first (creates ops n.base) _ u))
    (λ t. or_second (creates ops n.base) _ (step_meets f m n a.0.0 a.0.1 (or_second (makes_base f n.base) (meets_need (m.bases n.base) n) t))))

absent_output : (out : Option Strided) (makes : Bool) (t : Elem) (xs : List ℤ) (b : ℕ) → (makes && list_any (λ (o : Strided). o.base == b) (option_to_list out)) ≡ false
    → is_none (changed (output_change out makes t xs b) None) ≡ true
absent_output None makes t xs b h = refl
absent_output (Some v) makes t xs b h =
    elim (v.base == b) as (λ p. (makes && (p || false)) ≡ false → is_none (changed (cond p (cond makes (Becomes (record { elem = t; numbers = xs })) (Writes (elements v) xs)) Keeps) None) ≡ true) [
      | true ↦ λ k. elim makes as (λ q. (q && true) ≡ false → is_none (changed (cond q (Becomes (record { elem = t; numbers = xs })) (Writes (elements v) xs)) None) ≡ true) [
        | true ↦ λ l. absurd (false≢true (sym l))
        | false ↦ λ l. refl
      ] k
      | false ↦ λ k. refl
    ] h

absent_step : (f : Op) (m : Memory) (b : ℕ) (c : Option Cell) → makes_base f b ≡ false → is_none c ≡ true → is_none (changed (change f (computed m f) b) c) ≡ true
absent_step f m b (Some c) h e = absurd (false≢true e)
absent_step f m b None h e =
    elim (has (freed f) b) as (λ p. is_none (changed (cond p Drops (output_change f.out f.makes f.to (computed m f) b)) None) ≡ true) [
      | true ↦ refl
      | false ↦ absent_output f.out f.makes f.to (computed m f) b h
    ]

block_absent : (ops : List Op) (m : Memory) (b : ℕ) → AllByRecursion (λ f. makes_base f b ≡ false) ops → is_none (m.bases b) ≡ true → is_none ((eager m ops).bases b) ≡ true
block_absent [] m b a h = h
block_absent (f ∷ ops) m b a h = block_absent ops (step m f) b a.1 (absent_step f m b (m.bases b) a.0 h)

slot_step : (slot : Option ℕ) (new : Slot) (s : ℕ) (c : Option Slot) → has (option_to_list slot) s ≡ false → is_none c ≡ true → is_none (slot_after slot new s c) ≡ true
slot_step None new s c h e = e
slot_step (Some k) new s c h e =
    elim (k == s) as (λ p. (k == s) ≡ p → is_none (cond p (Some new) c) ≡ true) [
      | true ↦ λ d. absurd (false≢true (sym h ∙ or_first (s == k) false (eq-eqb s k (sym (eqb-true k s d)))))
      | false ↦ λ d. e
    ] refl

block_slots : (ops : List Op) (m : Memory) (s : ℕ) → AllByRecursion (λ (f : Op). has (option_to_list f.slot) s ≡ false) ops → is_none (m.slots s) ≡ true → is_none ((eager m ops).slots s) ≡ true
block_slots [] m s a h = h
block_slots (f ∷ ops) m s a h = block_slots ops (step m f) s a.1 (slot_step f.slot _ s (m.slots s) a.0 h)

-- ---- over a plan

pub all_both : {X : Type 0} (P Q R : X → Type 0) → ((x : X) → P x → Q x → R x) → (xs : List X) → AllByRecursion P xs → AllByRecursion Q xs → AllByRecursion R xs
all_both P Q R f [] a b = tt
all_both P Q R f (x ∷ xs) a b = (f x a.0 b.0, all_both P Q R f xs a.1 b.1)

in_block : (P : Op → Type 0) (block : List ℕ) (xs : List (ℕ × Op)) → AllByRecursion (λ (y : ℕ × Op). has block y.0 ≡ true → P y.1) xs → AllByRecursion P (ops_of xs block)
in_block P block [] h = tt
in_block P block (x ∷ xs) h =
    elim (has block x.0) as (λ b. (b ≡ true → P x.1) → AllByRecursion P (cond b (x.1 ∷ ops_of xs block) (ops_of xs block))) [
      | true ↦ λ k. (k refl, in_block P block xs h.1)
      | false ↦ λ k. in_block P block xs h.1
    ] h.0

abbrev pub made_in : List (List ℕ) → List (ℕ × Op) → ℕ → Bool
made_in plan xs b = list_any (λ (c : ℕ × Op). (holders plan c.0 == 1) && makes_base c.1 b) xs

abbrev pub AtMost : List (List ℕ) → ℕ × Op → Type 0
AtMost plan z = holders plan z.0 ≤ 1

module _ (xs : List (ℕ × Op)) where
  -- the op of number y needs n, beside z
  abbrev pub NeedRel : List (List ℕ) → ℕ → Need → ℕ × Op → Type 0
  NeedRel plan y n z =
      (holders plan z.0 ≡ 1 → (has (freed z.1) n.base ≡ true → place plan y ≤ place plan z.0) × (makes_base z.1 n.base ≡ true → place plan z.0 ≤ place plan y)) × Serves z.1 n

  abbrev pub SameRel : List (List ℕ) → ℕ → (Op → Bool) → ℕ × Op → Type 0
  SameRel plan y test z = holders plan z.0 ≡ 1 → test z.1 ≡ true → place plan z.0 ≡ place plan y

  pub record Facts (plan : List (List ℕ)) (y : ℕ × Op) : Type 0 where
    pub need : AllByRecursion (λ n. AllByRecursion (NeedRel plan y.0 n) xs) (needs y.1)
    pub maker : y.1.makes ≡ true → AllByRecursion (λ (o : Strided). AllByRecursion (SameRel plan y.0 (λ f. makes_base f o.base)) xs) (outputs y.1)
    pub slot : AllByRecursion (λ s. AllByRecursion (SameRel plan y.0 (λ (f : Op). has (option_to_list f.slot) s)) xs) (option_to_list y.1.slot)

  pub record Ready (m : Memory) (plan : List (List ℕ)) (y : ℕ × Op) : Type 0 where
    pub need : AllByRecursion (λ n. (made_in plan xs n.base || meets_need (m.bases n.base) n) ≡ true) (needs y.1)
    pub maker : y.1.makes ≡ true → AllByRecursion (λ (o : Strided). is_none (m.bases o.base) ≡ true) (outputs y.1)
    pub slot : AllByRecursion (λ s. is_none (m.slots s) ≡ true) (option_to_list y.1.slot)

  -- numbers of the first block and of the rest
  here_once : (b : Bool) (n : ℕ) → cond b (suc n) n ≤ 1 → b ≡ true → cond b (suc n) n ≡ 1
  here_once true n h e = omega arith
  here_once false n h e = absurd (false≢true e)

  later_not : (b : Bool) (n : ℕ) → cond b (suc n) n ≤ 1 → n ≡ 1 → b ≡ false
  later_not true n h e = absurd (omega arith)
  later_not false n h e = refl

  at_most_later : (b : Bool) (n : ℕ) → cond b (suc n) n ≤ 1 → n ≤ 1
  at_most_later true n h = omega arith
  at_most_later false n h = h

  first_place : (b : Bool) (n : ℕ) → cond b 0 (suc n) ≤ 0 → b ≡ true
  first_place true n h = refl
  first_place false n h = absurd (omega arith)

  -- one of the block makes the base
  any_ops : (block : List ℕ) (p : ℕ × Op → Bool) (test : Op → Bool) (cs : List (ℕ × Op)) → AllByRecursion (λ (c : ℕ × Op). p c ≡ true → test c.1 ≡ true → has block c.0 ≡ true) cs
      → list_any (λ c. p c && test c.1) cs ≡ true → list_any test (ops_of cs block) ≡ true
  any_ops block p test [] h e = e
  any_ops block p test (c ∷ cs) h e =
      or_cases (p c && test c.1) (list_any (λ c. p c && test c.1) cs) e
      (λ t. ap (λ b. list_any test (cond b (c.1 ∷ ops_of cs block) (ops_of cs block))) (h.0 (both_left (p c) (test c.1) t) (both_right (p c) (test c.1) t))
      ∙ or_first (test c.1) (list_any test (ops_of cs block)) (both_right (p c) (test c.1) t))
      (λ t. elim (has block c.0) as (λ b. list_any test (cond b (c.1 ∷ ops_of cs block) (ops_of cs block)) ≡ true) [
        | true ↦ or_second (test c.1) _ (any_ops block p test cs h.1 t)
        | false ↦ any_ops block p test cs h.1 t
      ])

  fits_first : (block : List ℕ) (plan : List (List ℕ)) (m : Memory) → AllByRecursion (AtMost (block ∷ plan)) xs
      → AllByRecursion (λ (y : ℕ × Op). holders (block ∷ plan) y.0 ≡ 1 → Facts (block ∷ plan) y × Ready m (block ∷ plan) y) xs
      → fits m (ops_of xs block) ≡ true
  fits_first block plan m most all =
      test_all (op_fits m (ops_of xs block)) (ops_of xs block)
      (in_block (λ f. op_fits m (ops_of xs block) f ≡ true) block xs (all_both (AtMost (block ∷ plan)) _ _ one xs most all))
    where
      ops : List Op
      ops = ops_of xs block

      need_fits : (y : ℕ × Op) → has block y.0 ≡ true → (n : Need) → AllByRecursion (NeedRel (block ∷ plan) y.0 n) xs → (made_in (block ∷ plan) xs n.base || meets_need (m.bases n.base) n) ≡ true
          → (creates (ops_of xs block) n.base || meets_need (m.bases n.base) n) ≡ true
      need_fits y hy n rel e =
          or_cases (made_in (block ∷ plan) xs n.base) (meets_need (m.bases n.base) n) e
          (λ t. or_first (creates (ops_of xs block) n.base) _
          (any_ops block (λ c. holders (block ∷ plan) c.0 == 1) (λ f. makes_base f n.base) xs
          (All_weaker (NeedRel (block ∷ plan) y.0 n) (λ c. (holders (block ∷ plan) c.0 == 1) ≡ true → makes_base c.1 n.base ≡ true → has block c.0 ≡ true)
          (λ c r p q.
          let le : place (block ∷ plan) c.0 ≤ place (block ∷ plan) y.0 = (r.0 (eqb-true (holders (block ∷ plan) c.0) 1 p)).1 q in
          let z : place (block ∷ plan) y.0 ≡ 0 = ap (λ b. cond b 0 (suc (place plan y.0))) hy in
          first_place (has block c.0) (place plan c.0) (omega arith)) xs rel) t))
          (λ t. or_second (creates (ops_of xs block) n.base) _ t)

      one : (y : ℕ × Op) → AtMost (block ∷ plan) y → (holders (block ∷ plan) y.0 ≡ 1 → Facts (block ∷ plan) y × Ready m (block ∷ plan) y)
          → has block y.0 ≡ true → op_fits m (ops_of xs block) y.1 ≡ true
      one y most k hy =
          let fr : Facts (block ∷ plan) y × Ready m (block ∷ plan) y = k (here_once (has block y.0) (holders plan y.0) most hy) in
          both_true (list_all (λ (n : Need). creates (ops_of xs block) n.base || meets_need (m.bases n.base) n) (needs y.1)) _
          (test_all (λ (n : Need). creates (ops_of xs block) n.base || meets_need (m.bases n.base) n) (needs y.1)
          (all_both _ _ _ (λ n r e. need_fits y hy n r e) (needs y.1) fr.0.need fr.1.need))
          (both_true (list_all (λ s. is_none (m.slots s)) (option_to_list y.1.slot)) _
          (test_all (λ s. is_none (m.slots s)) (option_to_list y.1.slot) fr.1.slot)
          (maker y.1.makes (λ e. test_all (λ (o : Strided). is_none (m.bases o.base)) (outputs y.1) (fr.1.maker e))))
        where
          maker : (b : Bool) → (b ≡ true → list_all (λ (o : Strided). is_none (m.bases o.base)) (outputs y.1) ≡ true) → (not b || list_all (λ (o : Strided). is_none (m.bases o.base)) (outputs y.1)) ≡ true
          maker true h = h refl
          maker false h = refl

  never : (b : Bool) → (b ≡ true → ⊥) → b ≡ false
  never true h = absurd (h refl)
  never false h = refl

  module _ (block : List ℕ) (plan : List (List ℕ)) where
    place_here : (i : ℕ) → has block i ≡ true → place (block ∷ plan) i ≡ 0
    place_here i e = ap (λ b. cond b 0 (suc (place plan i))) e

    place_later : (i : ℕ) → has block i ≡ false → place (block ∷ plan) i ≡ suc (place plan i)
    place_later i e = ap (λ b. cond b 0 (suc (place plan i))) e

    held_later : (i : ℕ) → has block i ≡ false → holders (block ∷ plan) i ≡ holders plan i
    held_later i e = ap (λ b. cond b (suc (holders plan i)) (holders plan i)) e

    same_later : (y : ℕ) (test : Op → Bool) (z : ℕ × Op) → has block y ≡ false → AtMost (block ∷ plan) z → SameRel (block ∷ plan) y test z → SameRel plan y test z
    same_later y test z ny most r h t =
        let nz : has block z.0 ≡ false = later_not (has block z.0) (holders plan z.0) most h in
        let e : place (block ∷ plan) z.0 ≡ place (block ∷ plan) y = r (held_later z.0 nz ∙ h) t in
        let a : place (block ∷ plan) z.0 ≡ suc (place plan z.0) = place_later z.0 nz in
        let b : place (block ∷ plan) y ≡ suc (place plan y) = place_later y ny in
        omega arith

    need_later : (y : ℕ) (n : Need) (z : ℕ × Op) → has block y ≡ false → AtMost (block ∷ plan) z → NeedRel (block ∷ plan) y n z → NeedRel plan y n z
    need_later y n z ny most r = (
      (λ h.
          let nz : has block z.0 ≡ false = later_not (has block z.0) (holders plan z.0) most h in
          let k = r.0 (held_later z.0 nz ∙ h) in
          let a : place (block ∷ plan) z.0 ≡ suc (place plan z.0) = place_later z.0 nz in
          let b : place (block ∷ plan) y ≡ suc (place plan y) = place_later y ny in
          ((λ t. let l : place (block ∷ plan) y ≤ place (block ∷ plan) z.0 = k.0 t in omega arith), (λ t. let l : place (block ∷ plan) z.0 ≤ place (block ∷ plan) y = k.1 t in omega arith))),
      r.1,
    )

    facts_later : (y : ℕ × Op) → has block y.0 ≡ false → AllByRecursion (AtMost (block ∷ plan)) xs → Facts (block ∷ plan) y → Facts plan y
    facts_later y ny most f =
        record {
          need = All_weaker (λ n. AllByRecursion (NeedRel (block ∷ plan) y.0 n) xs) (λ n. AllByRecursion (NeedRel plan y.0 n) xs)
              (λ n r. all_both (AtMost (block ∷ plan)) (NeedRel (block ∷ plan) y.0 n) (NeedRel plan y.0 n) (λ z a b. need_later y.0 n z ny a b) xs most r) (needs y.1) f.need;
          maker = λ e. All_weaker (λ (o : Strided). AllByRecursion (SameRel (block ∷ plan) y.0 (λ g. makes_base g o.base)) xs) (λ (o : Strided). AllByRecursion (SameRel plan y.0 (λ g. makes_base g o.base)) xs)
              (λ o r. all_both (AtMost (block ∷ plan)) (SameRel (block ∷ plan) y.0 (λ g. makes_base g o.base)) (SameRel plan y.0 (λ g. makes_base g o.base)) (λ z a b. same_later y.0 (λ g. makes_base g o.base) z ny a b) xs most r) (outputs y.1) (f.maker e);
          slot = All_weaker (λ s. AllByRecursion (SameRel (block ∷ plan) y.0 (λ (g : Op). has (option_to_list g.slot) s)) xs) (λ s. AllByRecursion (SameRel plan y.0 (λ (g : Op). has (option_to_list g.slot) s)) xs)
              (λ s r. all_both (AtMost (block ∷ plan)) (SameRel (block ∷ plan) y.0 (λ (g : Op). has (option_to_list g.slot) s)) (SameRel plan y.0 (λ (g : Op). has (option_to_list g.slot) s)) (λ z a b. same_later y.0 (λ (g : Op). has (option_to_list g.slot) s) z ny a b) xs most r) (option_to_list y.1.slot) f.slot;
        }

    -- what is made from here on is made in this block or later
    split_made : (b : ℕ) (cs : List (ℕ × Op)) → made_in (block ∷ plan) cs b ≡ true → (creates (ops_of cs block) b || made_in plan cs b) ≡ true
    split_made b [] e = e
    split_made b (c ∷ cs) e =
        elim (has block c.0) as (λ t. (((cond t (suc (holders plan c.0)) (holders plan c.0) == 1) && makes_base c.1 b) || made_in (block ∷ plan) cs b) ≡ true
        → (creates (cond t (c.1 ∷ ops_of cs block) (ops_of cs block)) b || (((holders plan c.0 == 1) && makes_base c.1 b) || made_in plan cs b)) ≡ true) [
          | true ↦ λ k. or_cases _ (made_in (block ∷ plan) cs b) k
              (λ t. or_first (makes_base c.1 b || creates (ops_of cs block) b) _ (or_first (makes_base c.1 b) (creates (ops_of cs block) b) (both_right _ (makes_base c.1 b) t)))
              (λ t. or_cases (creates (ops_of cs block) b) (made_in plan cs b) (split_made b cs t)
              (λ u. or_first (makes_base c.1 b || creates (ops_of cs block) b) _ (or_second (makes_base c.1 b) (creates (ops_of cs block) b) u))
              (λ u. or_second (makes_base c.1 b || creates (ops_of cs block) b) _ (or_second _ (made_in plan cs b) u)))
          | false ↦ λ k. or_cases _ (made_in (block ∷ plan) cs b) k
              (λ t. or_second (creates (ops_of cs block) b) _ (or_first _ (made_in plan cs b) t))
              (λ t. or_cases (creates (ops_of cs block) b) (made_in plan cs b) (split_made b cs t)
              (λ u. or_first (creates (ops_of cs block) b) _ u)
              (λ u. or_second (creates (ops_of cs block) b) _ (or_second _ (made_in plan cs b) u)))
        ] e

    -- nothing of the block is at the place of what stands later
    not_same : (y : ℕ) (test : Op → Bool) → has block y ≡ false → AllByRecursion (AtMost (block ∷ plan)) xs → AllByRecursion (SameRel (block ∷ plan) y test) xs → AllByRecursion (λ f. test f ≡ false) (ops_of xs block)
    not_same y test ny most r =
        in_block (λ f. test f ≡ false) block xs
        (all_both (AtMost (block ∷ plan)) (SameRel (block ∷ plan) y test) (λ z. has block z.0 ≡ true → test z.1 ≡ false)
        (λ z a k hz. never (test z.1) (λ t.
        let e : place (block ∷ plan) z.0 ≡ place (block ∷ plan) y = k (here_once (has block z.0) (holders plan z.0) a hz) t in
        let p : place (block ∷ plan) z.0 ≡ 0 = place_here z.0 hz in
        let q : place (block ∷ plan) y ≡ suc (place plan y) = place_later y ny in
        absurd (omega arith))) xs most r)

    ready_later : (m : Memory) (y : ℕ × Op) → has block y.0 ≡ false → AllByRecursion (AtMost (block ∷ plan)) xs → Facts (block ∷ plan) y → Ready m (block ∷ plan) y → Ready (eager m (ops_of xs block)) plan y
    ready_later m y ny most f r =
        record {
          need = all_both _ _ _ (λ n rel e. meets_later n rel e) (needs y.1) f.need r.need;
          maker = λ e. all_both _ _ _ (λ (o : Strided) rel k. block_absent (ops_of xs block) m o.base (not_same y.0 (λ g. makes_base g o.base) ny most rel) k) (outputs y.1) (f.maker e) (r.maker e);
          slot = all_both _ _ _ (λ s rel k. block_slots (ops_of xs block) m s (not_same y.0 (λ (g : Op). has (option_to_list g.slot) s) ny most rel) k) (option_to_list y.1.slot) f.slot r.slot;
        }
      where
        unfreed : (n : Need) → AllByRecursion (NeedRel (block ∷ plan) y.0 n) xs → AllByRecursion (λ g. (has (freed g) n.base ≡ false) × Serves g n) (ops_of xs block)
        unfreed n rel =
            in_block (λ g. (has (freed g) n.base ≡ false) × Serves g n) block xs
            (all_both (AtMost (block ∷ plan)) (NeedRel (block ∷ plan) y.0 n) (λ z. has block z.0 ≡ true → (has (freed z.1) n.base ≡ false) × Serves z.1 n)
            (λ z a k hz. (
              never (has (freed z.1) n.base) (λ t.
                  let l : place (block ∷ plan) y.0 ≤ place (block ∷ plan) z.0 = (k.0 (here_once (has block z.0) (holders plan z.0) a hz)).0 t in
                  let p : place (block ∷ plan) z.0 ≡ 0 = place_here z.0 hz in
                  let q : place (block ∷ plan) y.0 ≡ suc (place plan y.0) = place_later y.0 ny in
                  absurd (omega arith)),
              k.1,
            )) xs most rel)

        meets_later : (n : Need) → AllByRecursion (NeedRel (block ∷ plan) y.0 n) xs → (made_in (block ∷ plan) xs n.base || meets_need (m.bases n.base) n) ≡ true
            → (made_in plan xs n.base || meets_need ((eager m (ops_of xs block)).bases n.base) n) ≡ true
        meets_later n rel e =
            or_cases (made_in (block ∷ plan) xs n.base) (meets_need (m.bases n.base) n) e
            (λ t. or_cases (creates (ops_of xs block) n.base) (made_in plan xs n.base) (split_made n.base xs t)
            (λ u. or_second (made_in plan xs n.base) _ (block_meets (ops_of xs block) m n (unfreed n rel) (or_first (creates (ops_of xs block) n.base) _ u)))
            (λ u. or_first (made_in plan xs n.base) _ u))
            (λ t. or_second (made_in plan xs n.base) _ (block_meets (ops_of xs block) m n (unfreed n rel) (or_second (creates (ops_of xs block) n.base) _ t)))

  pub blocks_fit_by : (plan : List (List ℕ)) (m : Memory) → AllByRecursion (AtMost plan) xs → AllByRecursion (λ (y : ℕ × Op). holders plan y.0 ≡ 1 → Facts plan y × Ready m plan y) xs
      → blocks_fit m xs plan ≡ true
  blocks_fit_by [] m most all = refl
  blocks_fit_by (block ∷ plan) m most all =
      both_true (fits m (ops_of xs block)) _ (fits_first block plan m most all)
      (blocks_fit_by plan (eager m (ops_of xs block))
      (All_weaker (AtMost (block ∷ plan)) (AtMost plan) (λ z a. at_most_later (has block z.0) (holders plan z.0) a) xs most)
      (all_both (AtMost (block ∷ plan)) (λ (y : ℕ × Op). holders (block ∷ plan) y.0 ≡ 1 → Facts (block ∷ plan) y × Ready m (block ∷ plan) y)
      (λ (y : ℕ × Op). holders plan y.0 ≡ 1 → Facts plan y × Ready (eager m (ops_of xs block)) plan y)
      (λ y a k h.
      let ny : has block y.0 ≡ false = later_not (has block y.0) (holders plan y.0) a h in
      let fr : Facts (block ∷ plan) y × Ready m (block ∷ plan) y = k (held_later block plan y.0 ny ∙ h) in
      (facts_later block plan y ny most fr.0, ready_later block plan m y ny most fr.0 fr.1))
      xs most all))
