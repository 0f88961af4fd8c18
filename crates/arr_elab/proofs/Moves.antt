-- A name stands for something else: the counts go with it.
use Rattle.std.proofs.Common.{◌≡◌, ◌≢◌, refl, sym, ◌∙◌, ap, subst, ℕ, zero, suc, ◌+◌, ◌-◌, ◌*◌, ◌<◌, ◌≤◌, List, [], ◌∷◌, true, nat_lt, length, get_or, set, Option, None, Some, arith}
use Rattle.std.specs.Prelude.{IsTrue, Ok, nat_le, is_some, ◌||◌}
use Rattle.std.specs.List.{count_by, list_all}
use Rattle.std.proofs.lemmas.Bool.{and_parts, and_from, leb-true, ltb-true, lt-ltb}
use Rattle.arr_view.specs.Views.{most_elements}
use Rattle.std.proofs.lemmas.List.{length-map}
use Rattle.arr_elab.specs.declared.bases.Base.{Base}
use Rattle.arr_elab.specs.declared.value.Array.{Array}
use Rattle.arr_elab.specs.declared.step.Step.{Step}
use Rattle.arr_elab.specs.State.{Names, State, stands_for, with_name, is_bound, most_names}
use Rattle.arr_elab.specs.Outcome.{set_name}
use Rattle.arr_elab.specs.Totals.{Held, IsKept, IsBounded, is_there, has_place, live_by, no_base, lengths, names_of, tally, base_of, may_hold, may_release, hold_if, release_if, may_hold_if, may_release_if}
use Rattle.arr_elab.proofs.Named.{one, one_of, names_with, bound_with, count_more}
use Rattle.arr_elab.proofs.Totals.{weight_le}
use Rattle.arr_elab.proofs.Kept.{seen, tally_same, tally_at, tally_set}

one_here : (a : Array) → one_of a.view.base (Some a) ≡ 1
one_here a = grind arith

one_other : (a : Array) (c : ℕ) → c ≢ a.view.base → one_of c (Some a) ≡ 0
one_other a c h = grind (arith, h)

lengths_tally : (f : ℕ → ℕ) (b : ℕ) (ns : List ℕ) → lengths (tally f b ns) ≡ ns
lengths_tally f b [] = refl
lengths_tally f b (n ∷ ns) = ap (λ (ms : List ℕ). n ∷ ms) (lengths_tally f (suc b) ns)

length_tally : (f : ℕ → ℕ) (b : ℕ) (ns : List ℕ) → length (tally f b ns) ≡ length ns
length_tally f b ns = sym (length-map (tally f b ns) _) ∙ ap length (lengths_tally f b ns)

hold_tally : (f g : ℕ → ℕ) (ns : List ℕ) (b : ℕ) (bases : List Base) → bases ≡ tally f 0 ns → b < length ns → g b ≡ f b + 1 → ((c : ℕ) → c ≢ b → f c ≡ g c) →
    set bases b (record { length = (get_or bases b no_base).length; names = (get_or bases b no_base).names + 1 }) ≡ tally g 0 ns
hold_tally f g ns b bases is p e h =
    let at = tally_at f 0 b b ns no_base p (omega arith) in
    subst (λ (xs : List Base). set xs b (record { length = (get_or xs b no_base).length; names = (get_or xs b no_base).names + 1 }) ≡ tally g 0 ns) (sym is)
    (ap (λ (x : Base). set (tally f 0 ns) b (record { length = x.length; names = x.names + 1 })) at
    ∙ ap (λ (m : ℕ). set (tally f 0 ns) b (record { length = get_or ns b 0; names = m })) (sym e)
    ∙ tally_set f g 0 b b ns p (omega arith) h)

release_tally : (f g : ℕ → ℕ) (ns : List ℕ) (b : ℕ) (bases : List Base) → bases ≡ tally f 0 ns → b < length ns → f b ≡ g b + 1 → ((c : ℕ) → c ≢ b → f c ≡ g c) →
    set bases b (record { length = (get_or bases b no_base).length; names = (get_or bases b no_base).names - 1 }) ≡ tally g 0 ns
release_tally f g ns b bases is p e h =
    let at = tally_at f 0 b b ns no_base p (omega arith) in
    let less : f b - 1 ≡ g b = omega (arith, e) in
    subst (λ (xs : List Base). set xs b (record { length = (get_or xs b no_base).length; names = (get_or xs b no_base).names - 1 }) ≡ tally g 0 ns) (sym is)
    (ap (λ (x : Base). set (tally f 0 ns) b (record { length = x.length; names = x.names - 1 })) at
    ∙ ap (λ (m : ℕ). set (tally f 0 ns) b (record { length = get_or ns b 0; names = m })) less
    ∙ tally_set f g 0 b b ns p (omega arith) h)

within_hold : (held : Held) (b : ℕ) → IsTrue (may_hold held b) → b < length held.list
within_hold held b h = grind (arith, h)

within_release : (held : Held) (b : ℕ) → IsTrue (may_release held b) → b < length held.list
within_release held b h = grind (arith, h)

-- what one name more makes of the counts
pub held_is : (f : ℕ → ℕ) (ns : List ℕ) (held : Held) (o : Option Array) → held.list ≡ tally f 0 ns → IsTrue (may_hold_if held (base_of o)) →
    (hold_if held (base_of o)).list ≡ tally (λ c. f c + one_of c o) 0 ns
held_is f ns held None is h = is ∙ tally_same f (λ c. f c + 0) 0 ns (λ c le. omega arith)
held_is f ns held (Some a) is h =
    let b = a.view.base in
    let long : length held.list ≡ length ns = ap length is ∙ length_tally f 0 ns in
    let p : b < length ns = omega (arith, within_hold held b h, long) in
    hold_tally f (λ c. f c + one_of c (Some a)) ns b held.list is p (omega (arith, one_here a)) (λ c ne. omega (arith, one_other a c ne))

-- and one name less
pub released_is : (f g : ℕ → ℕ) (ns : List ℕ) (held : Held) (o : Option Array) → held.list ≡ tally f 0 ns → ((c : ℕ) → g c + one_of c o ≡ f c) →
    IsTrue (may_release_if held (base_of o)) → (release_if held (base_of o)).list ≡ tally g 0 ns
released_is f g ns held None is e h = is ∙ tally_same f g 0 ns (λ c le. omega (arith, e c))
released_is f g ns held (Some a) is e h =
    let b = a.view.base in
    let long : length held.list ≡ length ns = ap length is ∙ length_tally f 0 ns in
    let p : b < length ns = omega (arith, within_release held b h, long) in
    release_tally f g ns b held.list is p (omega (arith, e b, one_here a)) (λ c ne. omega (arith, e c, one_other a c ne))

-- a name that stands for an array counts
named_once : (names : Names) (name : List ℕ) (a : Array) → stands_for names name ≡ Some a → 1 ≤ names_of names a.view.base
named_once names name a is =
    let b = a.view.base in
    let e : names_of (with_name names name None) b + one_of b (Some a) ≡ names_of names b + one_of b None =
    subst (λ o. names_of (with_name names name None) b + one_of b o ≡ names_of names b + one_of b None) is (names_with names name None b) in
    omega (arith, e, one_here a)

pub may_release_old : (names : Names) (held mid : Held) (name : List ℕ) (array o : Option Array) → stands_for names name ≡ o → IsKept names held →
    mid.list ≡ tally (λ c. names_of names c + one_of c array) 0 (lengths held.list) → IsTrue (may_release_if mid (base_of o))
may_release_old names held mid name array None is k m = refl
may_release_old names held mid name array (Some a) is k m =
    let b = a.view.base in
    let ns = lengths held.list in
    let f : ℕ → ℕ = λ c. names_of names c + one_of c array in
    let once = named_once names name a is in
    let long : length ns ≡ length held.list = length-map held.list _ in
    let inside : b < length held.list = grind (arith, once, k.1 b) in
    let many : length mid.list ≡ length ns = ap length m ∙ length_tally f 0 ns in
    let at : (get_or mid.list b no_base).names ≡ f b = ap (λ (xs : List Base). (get_or xs b no_base).names) m ∙ ap (λ (x : Base). x.names) (tally_at f 0 b b ns no_base (omega (arith, inside, long)) (omega arith)) in
    let first : nat_lt b (length mid.list) ≡ true = grind (arith, inside, long, many) in
    let second : nat_lt 0 (get_or mid.list b no_base).names ≡ true = grind (arith, at, once) in
    rw first (rw second refl)

-- no name stands for a base that is not there
beyond : (names : Names) (held : Held) (name : List ℕ) (array : Option Array) → IsKept names held → IsTrue (may_hold_if held (base_of array)) →
    (b : ℕ) → length held.list ≤ b → names_of (with_name names name array) b ≡ 0
beyond names held name None k h b le = omega (arith, names_with names name None b, k.1 b le)
beyond names held name (Some a) k h b le =
    let inside = within_hold held a.view.base h in
    let other : one_of b (Some a) ≡ 0 = one_other a b (λ e. omega (arith, e, inside, le)) in
    omega (arith, names_with names name (Some a) b, k.1 b le, other)

pub moved : (names : Names) (held mid after : Held) (name : List ℕ) (array : Option Array) → IsKept names held → IsTrue (may_hold_if held (base_of array)) →
    mid.list ≡ tally (λ c. names_of names c + one_of c array) 0 (lengths held.list) →
    after.list ≡ tally (names_of (with_name names name array)) 0 (lengths held.list) → IsKept (with_name names name array) after
moved names held mid after name array k h m a =
    let ns = lengths held.list in
    let g = names_of (with_name names name array) in
    let same : lengths after.list ≡ ns = ap lengths a ∙ lengths_tally g 0 ns in
    let long : length after.list ≡ length held.list = ap length a ∙ length_tally g 0 ns ∙ length-map held.list _ in
    (a ∙ ap (tally g 0) (sym same), λ b le. beyond names held name array k h b (omega (arith, le, long)))

-- ---- the counts have room

-- no more names stand for a base than are bound
names_few : (names : Names) (b : ℕ) → names_of names b ≤ count_by is_bound names
names_few [] b = omega arith
names_few (e ∷ es) b = omega (arith, names_few es b, count_more e es, once e.1)
  where
    once : (o : Option Array) → one_of b o ≤ one o
    once None = omega arith
    once (Some a) = grind arith

live_small : (f k : ℕ) (xs : List Base) → list_all (λ n. nat_le n most_elements) (lengths xs) ≡ true → live_by f k xs ≤ length xs * most_elements
live_small f k [] h = omega arith
live_small f k (x ∷ xs) h =
    let both = and_parts (nat_le x.length most_elements) _ h in
    let here : x.length ≤ most_elements = leb-true x.length most_elements both.0 in
    omega (arith, here, weight_le f k x, live_small f (suc k) xs both.1)

long_small : (xs : List Base) (b : ℕ) → list_all (λ n. nat_le n most_elements) (lengths xs) ≡ true → (get_or xs b no_base).length ≤ most_elements
long_small [] zero h = omega arith
long_small [] (suc b) h = omega arith
long_small (x ∷ xs) zero h = leb-true x.length most_elements (and_parts (nat_le x.length most_elements) _ h).0
long_small (x ∷ xs) (suc b) h = long_small xs b (and_parts (nat_le x.length most_elements) _ h).1

pub hold_allowed : (names : Names) (held : Held) (array : Option Array) (new : Option ℕ) → IsKept names held → IsBounded names (lengths held.list) → new ≡ base_of array
    → IsTrue (is_there array (lengths held.list)) → true ≡ may_hold_if held new
hold_allowed names held None new k s a h = ap (may_hold_if held) (sym a)
hold_allowed names held (Some a) new k s i h =
    let b : ℕ = a.view.base in
    let ns : List ℕ = lengths held.list in
    let long : length ns ≡ length held.list = length-map held.list _ in
    let low : b < length ns = ltb-true b (length ns) h in
    let at : (get_or held.list b no_base).names ≡ names_of names b =
    ap (λ (xs : List Base). (get_or xs b no_base).names) k.0 ∙ ap (λ (x : Base). x.names) (tally_at (names_of names) 0 b b ns no_base low (omega arith)) in
    let few : (get_or held.list b no_base).names < 4294967295 = omega (arith, at, names_few names b, s.0) in
    let live : live_by held.first 0 held.list ≤ length held.list * most_elements = live_small held.first 0 held.list s.2 in
    let more : (get_or held.list b no_base).length ≤ most_elements = long_small held.list b s.2 in
    let short : length held.list ≤ 4294967296 = omega (arith, long, s.1) in
    let room : live_by held.first 0 held.list + (get_or held.list b no_base).length < 18446744073709551616 = omega (arith, live, more, short) in
    let first : nat_lt b (length held.list) ≡ true = lt-ltb b (length held.list) (omega (arith, low, long)) in
    let second : nat_lt (get_or held.list b no_base).names 4294967295 ≡ true = lt-ltb (get_or held.list b no_base).names 4294967295 few in
    let third : nat_lt (live_by held.first 0 held.list + (get_or held.list b no_base).length) 18446744073709551616 ≡ true =
    lt-ltb (live_by held.first 0 held.list + (get_or held.list b no_base).length) 18446744073709551616 room in
    sym (ap (may_hold_if held) i ∙ and_from (nat_lt b (length held.list)) _ first (and_from (nat_lt (get_or held.list b no_base).names 4294967295) _ second third))

-- with the name, no more names are bound than may be
pub bound_still : (names : Names) (name : List ℕ) (array : Option Array) → count_by is_bound names ≤ most_names → IsTrue (has_place array names name)
    → count_by is_bound (with_name names name array) ≤ most_names
bound_still names name None few h = omega (arith, few, bound_with names name None)
bound_still names name (Some a) few h = by (stands_for names name) (bound_with names name (Some a)) h
  where
    by : (o : Option Array) → count_by is_bound (with_name names name (Some a)) + one o ≡ count_by is_bound names + 1 → (is_some o || nat_lt (count_by is_bound names) most_names) ≡ true
        → count_by is_bound (with_name names name (Some a)) ≤ most_names
    by None e h = let low : count_by is_bound names < most_names = ltb-true (count_by is_bound names) most_names h in omega (arith, e, low)
    by (Some x) e h = omega (arith, e, few)

-- ---- as code sees them

mid_is : (names : Names) (held mid : Held) (array : Option Array) (new : Option ℕ) → IsKept names held → new ≡ base_of array → true ≡ may_hold_if held new → mid ≡ hold_if held new →
    mid.list ≡ tally (λ c. names_of names c + one_of c array) 0 (lengths held.list)
mid_is names held mid array new k a t m =
    let room : IsTrue (may_hold_if held (base_of array)) = ap (may_hold_if held) (sym a) ∙ sym t in
    ap (λ (h : Held). h.list) (m ∙ ap (hold_if held) a) ∙ held_is (names_of names) (lengths held.list) held array k.0 room

pub release_allowed : (names : Names) (held mid : Held) (name : List ℕ) (array : Option Array) (new old : Option ℕ) → IsKept names held →
    new ≡ base_of array → old ≡ base_of (stands_for names name) → true ≡ may_hold_if held new → mid ≡ hold_if held new → IsTrue (may_release_if mid old)
release_allowed names held mid name array new old k a b t m =
    ap (may_release_if mid) b ∙ may_release_old names held mid name array (stands_for names name) refl k (mid_is names held mid array new k a t m)

after_is : (names : Names) (held mid after : Held) (name : List ℕ) (array : Option Array) (new old : Option ℕ) → IsKept names held →
    new ≡ base_of array → old ≡ base_of (stands_for names name) → true ≡ may_hold_if held new → mid ≡ hold_if held new → after ≡ release_if mid old →
    after.list ≡ tally (names_of (with_name names name array)) 0 (lengths held.list)
after_is names held mid after name array new old k a b t m e =
    let was = stands_for names name in
    let f : ℕ → ℕ = λ c. names_of names c + one_of c array in
    let is = mid_is names held mid array new k a t m in
    ap (λ (h : Held). h.list) (e ∙ ap (release_if mid) b)
    ∙ released_is f (names_of (with_name names name array)) (lengths held.list) mid was is (names_with names name array) (may_release_old names held mid name array was refl k is)

pub kept_after : (names names' : Names) (held mid after : Held) (name : List ℕ) (array : Option Array) (new old : Option ℕ) → IsKept names held →
    new ≡ base_of array → old ≡ base_of (stands_for names name) → true ≡ may_hold_if held new → mid ≡ hold_if held new → after ≡ release_if mid old →
    names' ≡ with_name names name array → IsKept names' after
kept_after names names' held mid after name array new old k a b t m e n =
    let room : IsTrue (may_hold_if held (base_of array)) = ap (may_hold_if held) (sym a) ∙ sym t in
    subst (λ (ns : Names). IsKept ns after) (sym n)
    (moved names held mid after name array k room (mid_is names held mid array new k a t m) (after_is names held mid after name array new old k a b t m e))

pub bounded_after : (names names' : Names) (held mid after : Held) (name : List ℕ) (array : Option Array) (new old : Option ℕ) → IsKept names held →
    new ≡ base_of array → old ≡ base_of (stands_for names name) → true ≡ may_hold_if held new → mid ≡ hold_if held new → after ≡ release_if mid old →
    names' ≡ with_name names name array → IsBounded names (lengths held.list) → IsTrue (has_place array names name) → IsBounded names' (lengths after.list)
bounded_after names names' held mid after name array new old k a b t m e n s h =
    let same : lengths held.list ≡ lengths after.list =
    sym (ap lengths (after_is names held mid after name array new old k a b t m e) ∙ lengths_tally (names_of (with_name names name array)) 0 (lengths held.list)) in
    subst (λ (ns : Names). IsBounded ns (lengths after.list)) (sym n)
    (subst (λ (ls : List ℕ). IsBounded (with_name names name array) ls) same (bound_still names name array s.0 h, s.1, s.2))

first_held : (held : Held) (o : Option ℕ) → (hold_if held o).first ≡ held.first
first_held held None = refl
first_held held (Some b) = refl

first_released : (held : Held) (o : Option ℕ) → (release_if held o).first ≡ held.first
first_released held None = refl
first_released held (Some b) = refl

pub state_after : (names names' : Names) (held mid after : Held) (steps : List Step) (s : State) (name : List ℕ) (array : Option Array) (new old : Option ℕ) →
    seen names held steps ≡ s → IsKept names held →
    new ≡ base_of array → old ≡ base_of (stands_for names name) → true ≡ may_hold_if held new → mid ≡ hold_if held new → after ≡ release_if mid old →
    names' ≡ with_name names name array → set_name name array s ≡ Ok (tt, seen names' after steps)
state_after names names' held mid after steps s name array new old is k a b t m e n =
    let same : lengths held.list ≡ lengths after.list =
    sym (ap lengths (after_is names held mid after name array new old k a b t m e) ∙ lengths_tally (names_of (with_name names name array)) 0 (lengths held.list)) in
    let first : held.first ≡ after.first =
    sym (ap (λ (h : Held). h.first) e ∙ first_released mid old ∙ ap (λ (h : Held). h.first) m ∙ first_held held new) in
    let here : set_name name array (seen names held steps) ≡ Ok (tt, seen names' after steps) = rw (sym n) (rw same (rw first refl)) in
    subst (λ s. set_name name array s ≡ Ok (tt, seen names' after steps)) is here
