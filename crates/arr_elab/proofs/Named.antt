-- Names as a map keeps them, and how the counts change with them.
use Rattle.std.proofs.Common.{◌≡◌, refl, sym, ◌∙◌, ap, subst, ℕ, zero, suc, ◌+◌, ◌≤◌, List, [], ◌∷◌, Bool, true, false, cond, map, nat_lt, length, Option, None, Some, is_some, nat_eq, Vec, arith, unwrap_or, not}
use Rattle.std.specs.Prelude.{if◌then◌else◌}
use Rattle.std.specs.Option.{option_flatten}
use Rattle.std.specs.declared.alloc.Global.{Global}
use Rattle.std.specs.List.{count_by, position, position_or_len}
use Rattle.std.specs.Map.{lookup, keys_of}
use Rattle.std.proofs.lemmas.List.{length-map}
use Rattle.std.proofs.lemmas.List.Sums.{sum_by-cons}
use Rattle.std.specs.Str.{bytes_eq}
use Rattle.std.specs.Cmp.Lexicographic.{pointwise, same_text}
use Rattle.indexmap.specs.IndexMap.{insert_entry}
use Rattle.arr_elab.specs.declared.value.Array.{Array}
use Rattle.arr_elab.specs.State.{Names, stands_for, number_of, with_name, is_bound, has_base}
use Rattle.arr_elab.specs.Totals.{names_of}

abbrev pub Kept : Type 0
Kept = List (Vec ℕ Global × Option Array)

abbrev pub shown : Kept → Names
shown entries = map (λ (entry : Vec ℕ Global × Option Array). (entry.0.items, entry.1)) entries

abbrev pub same_key : List ℕ → Vec ℕ Global → Bool
same_key name key = pointwise nat_eq name key.items

pub turned : (xs ys : List ℕ) → pointwise nat_eq xs ys ≡ bytes_eq ys xs
turned [] [] = refl
turned [] (y ∷ ys) = refl
turned (x ∷ xs) [] = refl
turned (x ∷ xs) (y ∷ ys) = grind (arith, turned xs ys)

choose_found : (b : Bool) (o : Option Array) (rest : Option (Option Array)) (r : Option Array) → option_flatten rest ≡ r → option_flatten (cond b (Some o) rest) ≡ (if b then o else r)
choose_found true o rest r h = refl
choose_found false o rest r h = h

pub found : (name : List ℕ) (entries : Kept) → option_flatten (lookup (same_key name) entries) ≡ stands_for (shown entries) name
found name [] = refl
found name (e ∷ es) =
    subst (λ b. option_flatten (cond (same_key name e.0) (Some e.1) (lookup (same_key name) es)) ≡ (if b then e.1 else stands_for (shown es) name)) (turned name e.0.items)
    (choose_found (same_key name e.0) e.1 (lookup (same_key name) es) (stands_for (shown es) name) (found name es))

choose_number : (b : Bool) (m n : ℕ) → n ≡ m → cond (not b) (1 + n) 0 ≡ (if b then zero else suc m)
choose_number true m n h = refl
choose_number false m n h = omega (arith, h)

pub number_at : (name : List ℕ) (entries : Kept) → position_or_len (same_key name) (keys_of entries) ≡ number_of (shown entries) name
number_at name [] = refl
number_at name (e ∷ es) =
    subst (λ b. position_or_len (same_key name) (keys_of (e ∷ es)) ≡ (if b then zero else suc (number_of (shown es) name))) (turned name e.0.items)
    (choose_number (same_key name e.0) (number_of (shown es) name) (position_or_len (same_key name) (keys_of es)) (number_at name es))

pub number_le : (names : Names) (name : List ℕ) → number_of names name ≤ length names
number_le [] name = omega arith
number_le (e ∷ es) name = by (number_le es name) (bytes_eq e.0 name)
  where
    by : number_of es name ≤ length es → (b : Bool) → (if b then zero else suc (number_of es name)) ≤ length (e ∷ es)
    by h true = omega arith
    by h false = omega arith

choose_with : (b : Bool) (name : List ℕ) (e : Vec ℕ Global × Option Array) (v : Option Array) (es rest : Kept) (named : Names) →
    (b ≡ true → name ≡ e.0.items) → shown rest ≡ named →
    shown (if b then (e.0, v) ∷ es else e ∷ rest) ≡ (if b then (name, v) ∷ shown es else (e.0.items, e.1) ∷ named)
choose_with true name e v es rest named h k = ap (λ (n : List ℕ). (n, v) ∷ shown es) (sym (h refl))
choose_with false name e v es rest named h k = ap (λ (ns : Names). (e.0.items, e.1) ∷ ns) k

pub inserted : (key : Vec ℕ Global) (v : Option Array) (entries : Kept) →
    shown (insert_entry (λ a b. pointwise nat_eq a.items b.items) entries key v) ≡ with_name (shown entries) key.items v
inserted key v [] = refl
inserted key v (e ∷ es) =
    let es' = insert_entry (λ (a b : Vec ℕ Global). pointwise nat_eq a.items b.items) es key v in
    subst (λ b. shown (if same_key key.items e.0 then (e.0, v) ∷ es else e ∷ es') ≡ (if b then (key.items, v) ∷ shown es else (e.0.items, e.1) ∷ with_name (shown es) key.items v)) (turned key.items e.0.items)
    (choose_with (same_key key.items e.0) key.items e v es es' (with_name (shown es) key.items v) (λ t. same_text key.items e.0.items (sym t)) (inserted key v es))

-- ---- counts

abbrev pub one : Option Array → ℕ
one o = cond (is_some o) 1 0

pub one_most : (o : Option Array) → one o ≤ 1
one_most None = omega arith
one_most (Some a) = omega arith

pub count_more : (e : List ℕ × Option Array) (es : Names) → count_by is_bound (e ∷ es) ≡ one e.1 + count_by is_bound es
count_more e es = sum_by-cons (λ (x : List ℕ × Option Array). cond (is_bound x) 1 0) e es

pub bound_with : (names : Names) (name : List ℕ) (v : Option Array) → count_by is_bound (with_name names name v) + one (stands_for names name) ≡ count_by is_bound names + one v
bound_with [] name v = omega arith
bound_with (e ∷ es) name v = by (bound_with es name v) (bytes_eq e.0 name)
  where
    by : count_by is_bound (with_name es name v) + one (stands_for es name) ≡ count_by is_bound es + one v → (b : Bool) → count_by is_bound (if b then (name, v) ∷ es else e ∷ with_name es name v) + one (if b then e.1 else stands_for es name) ≡ count_by is_bound (e ∷ es) + one v
    by h true =
        let here : count_by is_bound ((name, v) ∷ es) + one e.1 ≡ count_by is_bound (e ∷ es) + one v = omega (arith, count_more e es, count_more (name, v) es) in
        here
    by h false =
        let past : count_by is_bound (e ∷ with_name es name v) + one (stands_for es name) ≡ count_by is_bound (e ∷ es) + one v = omega (arith, h, count_more e es, count_more e (with_name es name v)) in
        past

abbrev pub one_of : ℕ → Option Array → ℕ
one_of b o = cond (has_base b o) 1 0

pub names_with : (names : Names) (name : List ℕ) (v : Option Array) (b : ℕ) → names_of (with_name names name v) b + one_of b (stands_for names name) ≡ names_of names b + one_of b v
names_with [] name v b = omega arith
names_with (e ∷ es) name v b = by (names_with es name v b) (bytes_eq e.0 name)
  where
    by : names_of (with_name es name v) b + one_of b (stands_for es name) ≡ names_of es b + one_of b v → (t : Bool) → names_of (if t then (name, v) ∷ es else e ∷ with_name es name v) b + one_of b (if t then e.1 else stands_for es name) ≡ names_of (e ∷ es) b + one_of b v
    by h true = omega arith
    by h false = omega arith

-- ---- as code sees them

placed : (r : Option ℕ) (p n count keys : ℕ) → p ≡ n → n ≤ count → keys ≡ count → r ≡ cond (nat_lt p keys) (Some p) None → unwrap_or r count ≡ n
placed (Some i) p n count keys e le k h = grind arith
placed None p n count keys e le k h = grind arith

-- the place of a name, or how many there are
pub number_is : (name : List ℕ) (entries : Kept) (r : Option ℕ) → r ≡ position (same_key name) (keys_of entries) → unwrap_or r (length entries) ≡ number_of (shown entries) name
number_is name entries r h =
    let at = number_at name entries in
    let many : length (shown entries) ≡ length entries = length-map entries _ in
    let le : number_of (shown entries) name ≤ length entries = omega (arith, number_le (shown entries) name, many) in
    placed r (position_or_len (same_key name) (keys_of entries)) (number_of (shown entries) name) (length entries) (length (keys_of entries)) at le (length-map entries _) h

-- how many are bound after an insertion
pub bound_then : (key : Vec ℕ Global) (v : Option Array) (entries new : Kept) (old : Option (Option Array)) →
    new ≡ insert_entry (λ a b. pointwise nat_eq a.items b.items) entries key v → old ≡ lookup (same_key key.items) entries →
    count_by is_bound (shown new) + one (option_flatten old) ≡ count_by is_bound (shown entries) + one v
bound_then key v entries new old h k =
    let names = shown entries in
    let is : shown new ≡ with_name names key.items v = ap shown h ∙ inserted key v entries in
    let was : option_flatten old ≡ stands_for names key.items = ap option_flatten k ∙ found key.items entries in
    subst (λ (ns : Names). count_by is_bound ns + one (option_flatten old) ≡ count_by is_bound names + one v) (sym is)
    (subst (λ o. count_by is_bound (with_name names key.items v) + one o ≡ count_by is_bound names + one v) (sym was) (bound_with names key.items v))
