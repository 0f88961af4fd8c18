-- The premises of rule 9, a word of users at a time.
use Rattle.std.proofs.Common.{◌≡◌, ◌≢◌, ℕ, zero, suc, ◌+◌, ◌-◌, ◌*◌, ◌^◌, ◌/◌, ◌%◌, ◌<◌, ◌≤◌, List, [], ◌∷◌, map, length, get_or, min, Bool, true, false, cond, not, ◌&&◌, Option, Some, None, refl, sym, ap, ◌∙◌, subst, arith, ⊎_elim, w64}
use Rattle.std.specs.Prelude.{◌==◌, nat_le, bit_and, bit_xor}
use Rattle.std.specs.List.{list_all, list_any}
use Rattle.std.specs.Int.{bit_at, trailing_zeros}
use Rattle.std.specs.Option.{option_to_list}
use Rattle.std.proofs.lemmas.Bool.{and_parts, and_from, or_left, or_right, true≢false, cases_eq, eq-eqb, eqb-true, ne_eqb, false_from_ne_true, not-true, leb-true, le-leb, true_from_ne_false, cases_lt}
use Rattle.std.proofs.lemmas.Nat.Bits.{bit_at_and, bit_at_xor, bit_at-trailing_zeros, bit_at-zero}
use Rattle.arr_view.specs.Views.{has}
use Rattle.arr_ops.proofs.Tests.{or_cases}
use Rattle.arr_view.specs.Strided.{Strided}
use Rattle.arr_ops.specs.Ops.{views}
use Rattle.arr_ops.specs.declared.op.Op.{Op}
use Rattle.arr_law.specs.declared.fact.Fact.{Fact}
use Rattle.arr_law.specs.declared.fact.Fact.TheVariants.{Same, Before}
use Rattle.arr_law.specs.Problem.{Problem, is_op, operations, ends_base_of}
use Rattle.arr_law.specs.Facts.{Facts}
use Rattle.arr_law.specs.Rules.{other_users, free_rule, rule_named}
use Rattle.arr_law.specs.ProblemOf.{problem_of, op_at, nothing}
use Rattle.arr_law.proofs.Members.{has_filter, filter_has, has_ops, ops_are}
use Rattle.arr_state.specs.Rows.{bit, put_in}
use Rattle.arr_state.specs.Steps.{given}
use Rattle.arr_state.proofs.Words.{put_in-same, put_in-other}

-- ---- bits

pub cleared : (word f i k : ℕ) → k < 64 → f / 64 ≡ i → bit_at (put_in word (f % 64) false) k ≡ bit (not (64 * i + k == f)) * bit_at word k
cleared word f i k l e =
    ⊎_elim
    (λ (same : k ≡ f % 64).
    let here : (64 * i + k == f) ≡ true = eq-eqb (64 * i + k) f (omega (arith, same, e)) in
    let none : 0 ≡ 0 * bit_at word k = omega arith in
    ap (bit_at (put_in word (f % 64) false)) same ∙ (put_in-same word (f % 64) false (omega arith) ∙ (none ∙ sym (ap (λ b. bit (not b) * bit_at word k) here))))
    (λ (other : k ≢ f % 64).
    let away : (64 * i + k == f) ≡ false = ne_eqb (64 * i + k) f (λ s. other (omega (arith, s, l))) in
    let one : bit_at word k ≡ 1 * bit_at word k = omega arith in
    put_in-other word (f % 64) k false (omega arith) l other ∙ (one ∙ sym (ap (λ b. bit (not b) * bit_at word k) away)))
    (cases_eq k (f % 64))

bits_of : (e f p q : Bool) → bit q * (bit p * min (bit e) ((bit e + bit f) % 2)) ≡ bit ((e && (p && q)) && not f)
bits_of true true true true = refl
bits_of true true true false = refl
bits_of true true false true = refl
bits_of true true false false = refl
bits_of true false true true = refl
bits_of true false true false = refl
bits_of true false false true = refl
bits_of true false false false = refl
bits_of false true true true = refl
bits_of false true true false = refl
bits_of false true false true = refl
bits_of false true false false = refl
bits_of false false true true = refl
bits_of false false true false = refl
bits_of false false false true = refl
bits_of false false false false = refl

-- what is left of a word of users without those that stand before f, without f and without g
pub waiting_bit : (users before first second k : ℕ) (e f p q : Bool) → bit_at users k ≡ bit e → bit_at before k ≡ bit f → bit_at first k ≡ bit p * bit_at (bit_and users (bit_xor users before)) k → bit_at second k ≡ bit q * bit_at first k → bit_at second k ≡ bit ((e && (p && q)) && not f)
waiting_bit users before first second k e f p q u b x y =
    let n : bit_at (bit_xor users before) k ≡ (bit e + bit f) % 2 = bit_at_xor users before k ∙ (ap (λ m. (m + bit_at before k) % 2) u ∙ ap (λ m. (bit e + m) % 2) b) in
    let both : bit_at (bit_and users (bit_xor users before)) k ≡ min (bit e) ((bit e + bit f) % 2) = bit_at_and users (bit_xor users before) k ∙ (ap (λ m. min m (bit_at (bit_xor users before) k)) u ∙ ap (min (bit e)) n) in
    y ∙ (ap (λ m. bit q * m) (x ∙ ap (λ m. bit p * m) both) ∙ bits_of e f p q)

-- ---- the premises

all_map : (facts : Facts) (f : ℕ) (us : List ℕ) → ((u : ℕ) → has us u ≡ true → facts (Before u f) ≡ true) → list_all facts (map (λ u. Before u f) us) ≡ true
all_map facts f [] each = refl
all_map facts f (u ∷ us) each =
    and_from (facts (Before u f)) (list_all facts (map (λ u. Before u f) us)) (each u (or_left (u == u) (has us u) (eq-eqb u u refl)))
    (all_map facts f us (λ v h. each v (or_right (v == u) (has us v) h)))

map_all : (facts : Facts) (f : ℕ) (us : List ℕ) → list_all facts (map (λ u. Before u f) us) ≡ true → (u : ℕ) → has us u ≡ true → facts (Before u f) ≡ true
map_all facts f [] e u h = absurd (true≢false (sym h))
map_all facts f (v ∷ us) e u h =
    let p = and_parts (facts (Before v f)) (list_all facts (map (λ u. Before u f) us)) e in
    or_cases (u == v) (has us u) h (λ here. ap (λ w. facts (Before w f)) (eqb-true u v here) ∙ p.0) (λ later. map_all facts f us p.1 u later)

-- an operation other than f and g has a view of the base that g ends, and is not known to stand before f
abbrev pub waits : Problem → Facts → ℕ → ℕ → ℕ → Bool
waits problem facts f g u = (ends_base_of problem u g && (not (u == f) && not (u == g))) && not (facts (Before u f))

pub none_waits : (problem : Problem) (facts : Facts) (f g : ℕ) → ((u : ℕ) → is_op problem u ≡ true → waits problem facts f g u ≡ false) → list_all facts (free_rule problem f g).premises ≡ true
none_waits problem facts f g none =
    all_map facts f (other_users problem f g)
    (λ u h. let t = has_filter (λ u. ends_base_of problem u g && (not (u == f) && not (u == g))) (operations problem) u h in
    go u (facts (Before u f)) refl t.0 (none u (ops_are problem u t.1)))
  where
    go : (u : ℕ) (b : Bool) → facts (Before u f) ≡ b → (ends_base_of problem u g && (not (u == f) && not (u == g))) ≡ true → waits problem facts f g u ≡ false → facts (Before u f) ≡ true
    go u true e t w = e
    go u false e t w = absurd (true≢false (sym (and_from (ends_base_of problem u g && (not (u == f) && not (u == g))) (not (facts (Before u f))) t (ap not e)) ∙ w))

pub one_waits : (problem : Problem) (facts : Facts) (f g u : ℕ) → is_op problem u ≡ true → waits problem facts f g u ≡ true → list_all facts (free_rule problem f g).premises ≡ false
one_waits problem facts f g u op w =
    let p = and_parts (ends_base_of problem u g && (not (u == f) && not (u == g))) (not (facts (Before u f))) w in
    false_from_ne_true _ (λ all. true≢false (sym (map_all facts f (other_users problem f g) all u (filter_has (λ u. ends_base_of problem u g && (not (u == f) && not (u == g))) (operations problem) u (has_ops problem u op) p.0)) ∙ not-true _ p.1))

-- ---- only operations of the list have views

no_views : (o : Option ℕ) → list_any (λ b. has [] b) (option_to_list o) ≡ false
no_views None = refl
no_views (Some b) = refl

pub beyond : (list : List Op) (u : ℕ) → length list ≤ u → get_or list u nothing ≡ nothing
beyond [] u l = refl
beyond (op ∷ list) zero l = absurd (omega (arith, l))
beyond (op ∷ list) (suc u) l = beyond list u (omega (arith, l))

pub user_op : (list : List Op) (u g : ℕ) → ends_base_of (problem_of list) u g ≡ true → is_op (problem_of list) u ≡ true
user_op list zero g e = absurd (true≢false (sym e ∙ no_views ((op_at list g).frees)))
user_op list (suc u) g e =
    true_from_ne_false (is_op (problem_of list) (suc u))
    (λ isnt. true≢false (sym e ∙ (ap (λ (op : Op). list_any (λ b. has (map (λ (v : Strided). v.base) (views op)) b) (option_to_list (op_at list g).frees)) (beyond list u (past isnt)) ∙ no_views ((op_at list g).frees))))
  where
    past : is_op (problem_of list) (suc u) ≡ false → length list ≤ u
    past isnt = ⊎_elim (λ (l : u < length list). absurd (true≢false (sym (and_from (nat_le 1 (suc u)) (nat_le (suc u) (length list)) (le-leb 1 (suc u) (omega arith)) (le-leb (suc u) (length list) (omega (arith, l)))) ∙ isnt))) (λ (l : length list ≤ u). l) (cases_lt u (length list))

-- ---- a word at a time

-- no operation below a number waits
abbrev pub NoneBelow : Problem → Facts → ℕ → ℕ → ℕ → Type 0
NoneBelow problem facts f g limit = (u : ℕ) → u < limit → waits problem facts f g u ≡ false

bit_none : (b : Bool) → bit b ≡ 0 → b ≡ false
bit_none true e = absurd (omega (arith, e))
bit_none false e = refl

bit_some : (b : Bool) → bit b ≡ 1 → b ≡ true
bit_some true e = refl
bit_some false e = absurd (omega (arith, e))

pub none_more : (problem : Problem) (facts : Facts) (f g i word : ℕ) → NoneBelow problem facts f g (64 * i) → ((k : ℕ) → k < 64 → bit_at word k ≡ bit (waits problem facts f g (64 * i + k))) → word ≡ 0 → NoneBelow problem facts f g (64 * (i + 1))
none_more problem facts f g i word below bits zero_is u l =
    ⊎_elim
    (λ (old : u < 64 * i). below u old)
    (λ (new : 64 * i ≤ u).
    let same : 64 * i + (u - 64 * i) ≡ u = omega arith in
    subst (λ v. waits problem facts f g v ≡ false) same
    (bit_none (waits problem facts f g (64 * i + (u - 64 * i))) (sym (bits (u - 64 * i) (omega arith)) ∙ (ap (λ w. bit_at w (u - 64 * i)) zero_is ∙ bit_at-zero (u - 64 * i)))))
    (cases_lt u (64 * i))

pub some_wait : (list : List Op) (facts : Facts) (f g i word : ℕ) → word < 2 ^ 64 → ((k : ℕ) → k < 64 → bit_at word k ≡ bit (waits (problem_of list) facts f g (64 * i + k))) → (word ≡ 0 → ⊥) → list_all facts (free_rule (problem_of list) f g).premises ≡ false
some_wait list facts f g i word small bits some =
    let z = bit_at-trailing_zeros w64 word (omega (arith, some)) small in
    let w : waits (problem_of list) facts f g (64 * i + trailing_zeros w64 word) ≡ true = bit_some _ (sym (bits (trailing_zeros w64 word) z.0) ∙ z.1) in
    let p = and_parts (ends_base_of (problem_of list) (64 * i + trailing_zeros w64 word) g && (not (64 * i + trailing_zeros w64 word == f) && not (64 * i + trailing_zeros w64 word == g))) (not (facts (Before (64 * i + trailing_zeros w64 word) f))) w in
    let q = and_parts (ends_base_of (problem_of list) (64 * i + trailing_zeros w64 word) g) (not (64 * i + trailing_zeros w64 word == f) && not (64 * i + trailing_zeros w64 word == g)) p.0 in
    one_waits (problem_of list) facts f g (64 * i + trailing_zeros w64 word) (user_op list (64 * i + trailing_zeros w64 word) g q.0) w

pub all_wait : (problem : Problem) (facts : Facts) (f g i : ℕ) → problem.count / 64 + 1 ≤ i → NoneBelow problem facts f g (64 * i) → list_all facts (free_rule problem f g).premises ≡ true
all_wait problem facts f g i l below =
    none_waits problem facts f g (λ u op. let h = and_parts (nat_le 1 u) (nat_le u problem.count) op in let m : u ≤ problem.count = leb-true _ _ h.1 in below u (omega (arith, m, l)))

-- ---- the rule

shuffle : (a b c k : Bool) (X : Type 0) (x y : X) → cond (a && (b && (c && (true && k)))) x y ≡ cond (((a && (b && true)) && ((c && true) && (true && true))) && k) x y
shuffle true true true k X x y = refl
shuffle true true false k X x y = refl
shuffle true false c k X x y = refl
shuffle false b c k X x y = refl

nowhere : (a b c k : Bool) (X : Type 0) (x y : X) → cond (a && (b && (c && (false && k)))) x y ≡ y
nowhere true true true k X x y = refl
nowhere true true false k X x y = refl
nowhere true false c k X x y = refl
nowhere false b c k X x y = refl

pub joined_is : (problem : Problem) (facts : Facts) (f g : ℕ) → cond (is_op problem f && (is_op problem g && (not (f == g) && (ends_base_of problem f g && (list_all facts (free_rule problem f g).premises && not (facts (Same f g))))))) (Some (Same f g)) None ≡ given problem facts (rule_named problem 2 9 f g 0)
joined_is problem facts f g = go (ends_base_of problem f g)
  where
    go : (b : Bool) → cond (is_op problem f && (is_op problem g && (not (f == g) && (b && (list_all facts (free_rule problem f g).premises && not (facts (Same f g))))))) (Some (Same f g)) None ≡ given problem facts (cond b (Some (free_rule problem f g)) None)
    go true = shuffle (is_op problem f) (is_op problem g) (not (f == g)) (list_all facts (free_rule problem f g).premises && not (facts (Same f g))) (Option Fact) (Some (Same f g)) None
    go false = nowhere (is_op problem f) (is_op problem g) (not (f == g)) (list_all facts (free_rule problem f g).premises && not (facts (Same f g))) (Option Fact) (Some (Same f g)) None

pub joined_when : (problem : Problem) (facts : Facts) (f g : ℕ) (b : Bool) (o : Option Fact) → b ≡ (is_op problem f && (is_op problem g && (not (f == g) && (ends_base_of problem f g && (list_all facts (free_rule problem f g).premises && not (facts (Same f g))))))) → o ≡ cond b (Some (Same f g)) None → o ≡ given problem facts (rule_named problem 2 9 f g 0)
joined_when problem facts f g b o e h = h ∙ (ap (λ c. cond c (Some (Same f g)) None) e ∙ joined_is problem facts f g)
