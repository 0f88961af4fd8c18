-- Settled places: what the search finds there, one more of them, and what leaves them settled.
use Rattle.std.proofs.Common.{◌≡◌, ℕ, ◌+◌, ◌<◌, ◌≤◌, zero, suc, List, [], ◌∷◌, ◌++◌, Bool, true, false, cond, not, ◌||◌, ◌&&◌, refl, ap, ap₂, sym, subst, ◌∙◌, arith, length, length-append, take, drop, get_or, set, Option, Some, None, append_assoc}
use Rattle.std.proofs.lemmas.List.{append-nil, take-append-drop, length-take-le}
use Rattle.std.proofs.lemmas.List.Folds.{list_all-append}
use Rattle.std.specs.Bool.{then_some}
use Rattle.std.specs.Option.{option_or, option_to_list}
use Rattle.std.specs.Prelude.{◌==◌}
use Rattle.std.specs.List.{AllByRecursion, list_all, list_any}
use Rattle.arr_view.specs.Strided.{Strided}
use Rattle.arr_view.specs.Views.{has}
use Rattle.arr_ops.specs.declared.op.Op.{Op}
use Rattle.arr_ops.specs.declared.op.Operand.{Operand}
use Rattle.arr_ops.specs.declared.op.Operand.TheVariants.{Array, Number}
use Rattle.arr_ops.specs.Ops.{inputs, named, view_of}
use Rattle.arr_ops.specs.Formed.{is_formed, well_formed}
use Rattle.arr_ops.proofs.Pairs.{All_weaker}
use Rattle.arr_ops.proofs.Tests.{both_left, both_right, all_of}
use Rattle.arr_ops.proofs.Spots.{Formed, all_left, all_right, all_two, formed_of}
use Rattle.arr_rewrite.specs.Rules.{constant_folded, neutral_dropped, fixed_known, power_unrolled, subtraction_turned, copies_itself, is_scalar}
use Rattle.arr_rewrite.specs.Writers.{unwritten_base, only_writer, only_writer_in, writes_base}
use Rattle.arr_rewrite.specs.NextRewrite.{beside, constant_carried, constants_joined, copied_from, copied_operand, copy_carried, filled_with, first_number, first_view, frees_base, joined_beside, joined_to, known_operand, only_freed, regroups, replaced, replacement, rewrite_from, second_number, second_view, unfreed, unused}
use Rattle.arr_rewrite.specs.Settled.{IsQuiet, Settled, SettledTo}
use Rattle.arr_rewrite.proofs.Places.{Item, at_place, set_around}
use Rattle.arr_rewrite.proofs.Agree.{unnamed_test}
use Rattle.arr_rewrite.proofs.KeptRemoved.{Free}
use Rattle.arr_rewrite.proofs.Options.{some_same, some_true}
use Rattle.arr_rewrite.proofs.Parts.{all_true, equal_turned, not_is}
use Rattle.arr_rewrite.proofs.Removals.{Aside, aside}
use Rattle.arr_rewrite.proofs.Turns.{Turn}
use Rattle.arr_rewrite.proofs.NextFollows.{replacement_turns}

-- ---- what the rules ask of the operations behind

-- the view's base is unwritten in both or in none
abbrev pub WrittenAlike : List Op → List Op → Strided → Type 0
WrittenAlike back other v = unwritten_base back v.base ≡ unwritten_base other v.base

module _ (front back other : List Op) (op : Op) where
  writer_alike : (v : Strided) → WrittenAlike back other v → only_writer front (op ∷ back) v.base ≡ only_writer front (op ∷ other) v.base
  writer_alike v h = ap (λ t. cond (not (writes_base op v.base) && t) (only_writer_in front v.base) None) h

  known_alike : (o : Option Operand) → AllByRecursion (WrittenAlike back other) (view_of o) → known_operand front (op ∷ back) o ≡ known_operand front (op ∷ other) o
  known_alike None h = refl
  known_alike (Some (Number z)) h = refl
  known_alike (Some (Array x)) h = ap filled_with (writer_alike x h.0)

  copied_alike : (o : Option Operand) → AllByRecursion (WrittenAlike back other) (view_of o) → copied_operand front (op ∷ back) o ≡ copied_operand front (op ∷ other) o
  copied_alike None h = refl
  copied_alike (Some (Number z)) h = refl
  copied_alike (Some (Array x)) h = ap (copied_from x) (writer_alike x h.0)

  joined_alike : (a b : Option Operand) → AllByRecursion (WrittenAlike back other) (view_of a) → AllByRecursion (WrittenAlike back other) (view_of b)
      → joined_beside front op back (beside a b) ≡ joined_beside front op other (beside a b)
  joined_alike (Some (Array x)) (Some (Number c)) h k = ap (joined_to op (record { view = x; number = c })) (writer_alike x h.0)
  joined_alike (Some (Number c)) (Some (Array x)) h k = ap (joined_to op (record { view = x; number = c })) (writer_alike x k.0)
  joined_alike _ _ h k = refl

  replacement_alike : AllByRecursion (WrittenAlike back other) (inputs op) → replacement front op back ≡ replacement front op other
  replacement_alike h =
      let hf : AllByRecursion (WrittenAlike back other) (view_of op.first) = all_left (WrittenAlike back other) (view_of op.first) (view_of op.second) h in
      let hs : AllByRecursion (WrittenAlike back other) (view_of op.second) = all_right (WrittenAlike back other) (view_of op.first) (view_of op.second) h in
      let a : constant_carried front op back ≡ constant_carried front op other =
      ap₂ (λ x y. cond (is_scalar op.code) (option_or (first_number op x) (second_number op y)) None) (known_alike op.first hf) (known_alike op.second hs) in
      let b : copy_carried front op back ≡ copy_carried front op other = ap₂ (λ x y. option_or (first_view op x) (second_view op y)) (copied_alike op.first hf) (copied_alike op.second hs) in
      let c : constants_joined front op back ≡ constants_joined front op other = ap (λ x. cond (regroups op.code) x None) (joined_alike op.first op.second hf hs) in
      λ i. option_or (constant_folded op) (option_or (neutral_dropped op) (option_or (fixed_known op) (option_or (power_unrolled op)
      (option_or (a i) (option_or (b i) (option_or (c i) (subtraction_turned op)))))))

-- what stands before a change stays settled, where the change leaves written what was and unwritten what was not
pub settled_alike : (front xs back other : List Op) → AllByRecursion (λ (op : Op). AllByRecursion (WrittenAlike back other) (inputs op)) xs
    → Settled (length xs) front (xs ++ back) → Settled (length xs) front (xs ++ other)
settled_alike front [] back other h s = tt
settled_alike front (op ∷ ops) back other h s =
    let here : replacement front op (ops ++ back) ≡ replacement front op (ops ++ other) =
    replacement_alike front (ops ++ back) (ops ++ other) op (All_weaker (WrittenAlike back other) (WrittenAlike (ops ++ back) (ops ++ other)) (λ v e.
    list_all-append (λ f. not (writes_base f v.base)) ops back ∙ ap (λ t. unwritten_base ops v.base && t) e ∙ sym (list_all-append (λ f. not (writes_base f v.base)) ops other)) (inputs op) h.0) in
    ((sym here ∙ s.0.0, s.0.1), settled_alike (front ++ op ∷ []) ops back other h.1 s.1)

-- ---- one place more

pub settled_more : (n : ℕ) (front back : List Op) → Settled n front back → IsQuiet (front ++ take n back) (drop n back) → Settled (suc n) front back
settled_more zero front [] s q = tt
settled_more zero front (x ∷ back) s q = (subst (λ f. IsQuiet f (x ∷ back)) (append-nil front) q, tt)
settled_more (suc n) front [] s q = tt
settled_more (suc n) front (x ∷ back) s q =
    (s.0, settled_more n (front ++ x ∷ []) back s.1 (subst (λ f. IsQuiet f (drop n back)) (sym (append_assoc front (x ∷ []) (take n back))) q))

-- and fewer
pub settled_less : (p n : ℕ) (front back : List Op) → p ≤ n → Settled n front back → Settled p front back
settled_less zero n front back l s = tt
settled_less (suc p) zero front back l s = absurd (omega arith)
settled_less (suc p) (suc n) front [] l s = tt
settled_less (suc p) (suc n) front (x ∷ back) l s = (s.0, settled_less p n (front ++ x ∷ []) back (omega arith) s.1)

not_replaced : (front back : List Op) (o : Option Op) → replaced front back o ≡ None → o ≡ None
not_replaced front back None e = refl
not_replaced front back (Some op) e = absurd (cc)

not_taken : {X : Type 0} (b : Bool) (x : X) → then_some b x ≡ None → b ≡ false
not_taken true x e = absurd (cc)
not_taken false x e = refl

-- where no rule applied, but perhaps that of unused bases
pub settled_on : (list : List Op) (p : ℕ) (k : Item list p) → SettledTo p list
    → replaced (take p list) (drop (p + 1) list) (replacement (take p list) k.item (drop (p + 1) list)) ≡ None
    → then_some (copies_itself k.item) (take p list ++ drop (p + 1) list) ≡ None → SettledTo (p + 1) list
settled_on list p k s none other =
    let next : suc p ≡ p + 1 = omega arith in
    subst (λ n. SettledTo n list) next
    (settled_more p [] list s (subst (IsQuiet (take p list)) (sym k.rest) (not_replaced _ _ _ none, not_taken _ _ other)))

-- ---- the search at a place

pub settled_place : (list : List Op) (p n : ℕ) (k : Item list p) → Settled (suc n) (take p list) (drop p list)
    → rewrite_from (take p list) (drop p list)
    ≡ option_or (unused (take p list) k.item (drop (p + 1) list) k.item.out) (rewrite_from (take (p + 1) list) (drop (p + 1) list))
settled_place list p n k s =
    let q : IsQuiet (take p list) (k.item ∷ drop (p + 1) list) = (subst (Settled (suc n) (take p list)) k.rest s).0 in
    at_place list p k
    ∙ (λ i. option_or (option_or (replaced (take p list) (drop (p + 1) list) (q.0 i)) (option_or (then_some (q.1 i) (take p list ++ drop (p + 1) list)) (unused (take p list) k.item (drop (p + 1) list) k.item.out)))
    (rewrite_from (take (p + 1) list) (drop (p + 1) list)))

pub settled_next : (list : List Op) (p n : ℕ) (k : Item list p) → Settled (suc n) (take p list) (drop p list) → Settled n (take (p + 1) list) (drop (p + 1) list)
settled_next list p n k s = subst (λ front. Settled n front (drop (p + 1) list)) (sym k.front) (subst (Settled (suc n) (take p list)) k.rest s).1

-- ---- an operation that becomes another

pub settled_replaced : (list : List Op) (p : ℕ) (k : Item list p) (next : Op) → p < length list → is_formed list ≡ true
    → replacement (take p list) k.item (drop (p + 1) list) ≡ Some next → SettledTo p list → SettledTo p (set list p next)
settled_replaced list p k next l formed e s =
    let xs : List Op = take p list in
    let rest : List Op = drop (p + 1) list in
    let whole : list ≡ xs ++ k.item ∷ rest = sym (take-append-drop p list) ∙ ap (λ ys. xs ++ ys) k.rest in
    let long : length xs ≡ p = length-take-le p list (omega arith) in
    let turn : Turn xs k.item rest next = replacement_turns xs rest k.item next (formed_of (xs ++ k.item ∷ rest) (ap is_formed (sym whole) ∙ formed)) e in
    let out : k.item.out ≡ next.out = ap (λ (o : Op). o.out) turn.is in
    let before : Settled (length xs) [] (xs ++ k.item ∷ rest) = subst (λ n. Settled n [] (xs ++ k.item ∷ rest)) (sym long) (subst (SettledTo p) whole s) in
    let same : (v : Strided) → WrittenAlike (k.item ∷ rest) (next ∷ rest) v = λ v. ap (λ o. not (list_any (λ (w : Strided). w.base == v.base) (option_to_list o)) && unwritten_base rest v.base) out in
    let after : Settled (length xs) [] (xs ++ next ∷ rest) = settled_alike [] xs (k.item ∷ rest) (next ∷ rest) (all_true (λ (op : Op). AllByRecursion (WrittenAlike (k.item ∷ rest) (next ∷ rest)) (inputs op)) (λ op. all_true (WrittenAlike (k.item ∷ rest) (next ∷ rest)) same (inputs op)) xs) before in
    subst (SettledTo p) (sym (set_around list p next l)) (subst (λ n. Settled n [] (xs ++ next ∷ rest)) long after)

-- ---- a base that nothing uses, taken out

not_written : (out : Option Strided) (c : ℕ) → AllByRecursion (λ (v : Strided). (v.base == c) ≡ false) (option_to_list out) → list_any (λ (v : Strided). v.base == c) (option_to_list out) ≡ false
not_written None c h = refl
not_written (Some o) c h = ap (λ t. t || false) h.0

unwritten_filtered : (b c : ℕ) (fs : List Op) → AllByRecursion (λ f. frees_base f b ≡ true → writes_base f c ≡ false) fs → unwritten_base fs c ≡ unwritten_base (unfreed fs b) c
unwritten_filtered b c [] h = refl
unwritten_filtered b c (f ∷ fs) h =
    elim (frees_base f b) as (λ t. (t ≡ true → writes_base f c ≡ false) → (not (writes_base f c) && unwritten_base fs c) ≡ unwritten_base (cond (not t) (f ∷ unfreed fs b) (unfreed fs b)) c) [
      | true ↦ λ g. ap (λ t. not t && unwritten_base fs c) (g refl) ∙ unwritten_filtered b c fs h.1
      | false ↦ λ g. ap (λ t. not (writes_base f c) && t) (unwritten_filtered b c fs h.1)
    ] h.0

free_writes_not : (f : Op) (c : ℕ) → Free f → writes_base f c ≡ false
free_writes_not f c h = subst (λ o. list_any (λ (v : Strided). v.base == c) (option_to_list o) ≡ false) (sym h.no_out) refl

settled_out : (front back next : List Op) (op : Op) (out : Option Strided) → Formed (front ++ op ∷ back) → op.out ≡ out → unused front op back out ≡ Some next
    → Settled (length front) [] (front ++ op ∷ back) → Settled (length front) [] next
settled_out front back next op None h is e s = absurd (cc)
settled_out front back next op (Some o) h is e s =
    let t = some_true (op.makes && (list_all (λ f. not (has (named f) o.base)) front && only_freed back o.base)) (front ++ unfreed back o.base) next e in
    let t2 = both_right op.makes _ t in
    let t3 = both_right (list_all (λ f. not (has (named f) o.base)) front) _ t2 in
    let behind : AllByRecursion (Aside o.base) back =
    all_two (λ f. well_formed f ≡ true) (λ f. (frees_base f o.base || not (has (named f) o.base)) ≡ true) (Aside o.base) (λ f w k. aside o.base f w k) back
    ((all_right (λ f. well_formed f ≡ true) front (op ∷ back) h.well).1)
    (all_of (λ f. frees_base f o.base || not (has (named f) o.base)) back (both_right (list_any (λ f. frees_base f o.base) back) _ t3)) in
    let alike : (v : Strided) → (v.base == o.base) ≡ false → WrittenAlike (op ∷ back) (unfreed back o.base) v =
    λ v k.
    ap (λ t. not t && unwritten_base back v.base) (not_written op.out v.base (subst (λ u. AllByRecursion (λ (w : Strided). (w.base == v.base) ≡ false) (option_to_list u)) (sym is) (equal_turned v.base o.base k, tt)))
    ∙ unwritten_filtered o.base v.base back (All_weaker (Aside o.base) (λ f. frees_base f o.base ≡ true → writes_base f v.base ≡ false) (λ f a u. free_writes_not f v.base (a.frees u)) back behind) in
    subst (Settled (length front) []) (some_same (op.makes && (list_all (λ f. not (has (named f) o.base)) front && only_freed back o.base)) (front ++ unfreed back o.base) next e)
    (settled_alike [] front (op ∷ back) (unfreed back o.base) (All_weaker (λ f. not (has (named f) o.base) ≡ true) (λ (f : Op). AllByRecursion (WrittenAlike (op ∷ back) (unfreed back o.base)) (inputs f))
    (λ f k. All_weaker (λ (v : Strided). (v.base == o.base) ≡ false) (WrittenAlike (op ∷ back) (unfreed back o.base)) alike (inputs f) (unnamed_test o.base f (not_is (has (named f) o.base) k)).inputs_not)
    front (all_of (λ f. not (has (named f) o.base)) front (both_left (list_all (λ f. not (has (named f) o.base)) front) _ t2))) s)

pub settled_unused : (list next : List Op) (p : ℕ) (k : Item list p) → p < length list → is_formed list ≡ true → unused (take p list) k.item (drop (p + 1) list) k.item.out ≡ Some next → SettledTo p list
    → SettledTo p next
settled_unused list next p k l formed e s =
    let xs : List Op = take p list in
    let rest : List Op = drop (p + 1) list in
    let whole : list ≡ xs ++ k.item ∷ rest = sym (take-append-drop p list) ∙ ap (λ ys. xs ++ ys) k.rest in
    let long : length xs ≡ p = length-take-le p list (omega arith) in
    subst (λ n. Settled n [] next) long
    (settled_out xs rest next k.item k.item.out (formed_of (xs ++ k.item ∷ rest) (ap is_formed (sym whole) ∙ formed)) refl e
    (subst (λ n. Settled n [] (xs ++ k.item ∷ rest)) (sym long) (subst (SettledTo p) whole s)))

longer : (front back next : List Op) (op : Op) (out : Option Strided) → unused front op back out ≡ Some next → length front ≤ length next
longer front back next op None e = absurd (cc)
longer front back next op (Some o) e =
    let same : front ++ unfreed back o.base ≡ next = some_same (op.makes && (list_all (λ f. not (has (named f) o.base)) front && only_freed back o.base)) (front ++ unfreed back o.base) next e in
    let long : length front + length (unfreed back o.base) ≡ length next = sym (length-append front (unfreed back o.base)) ∙ ap length same in
    omega arith

pub unused_long : (list next : List Op) (p : ℕ) (k : Item list p) → p < length list → unused (take p list) k.item (drop (p + 1) list) k.item.out ≡ Some next → p ≤ length next
unused_long list next p k l e =
    let few : length (take p list) ≡ p = length-take-le p list (omega arith) in
    let long : length (take p list) ≤ length next = longer (take p list) (drop (p + 1) list) next k.item k.item.out e in
    omega arith

-- ---- what a search makes of the tests at a place

pub at_item : (P : List Op → Op → Type 0) (list now : List Op) (p : ℕ) (k : Item list p) → now ≡ list → ((op : Op) → op ≡ get_or now p op → P now op) → P list k.item
at_item P list now p k same h = subst (λ ops. (op : Op) → op ≡ get_or ops p op → P ops op) same h k.item k.is

abbrev pub Becomes : ℕ → Option (List Op) → List Op → Op → Type 0
Becomes p next list op = replaced (take p list) (drop (p + 1) list) (replacement (take p list) op (drop (p + 1) list)) ≡ next

abbrev pub Goes : ℕ → Option (List Op) → List Op → Op → Type 0
Goes p next list op = then_some (copies_itself op) (take p list ++ drop (p + 1) list) ≡ next

abbrev pub IsUnused : ℕ → Option (List Op) → List Op → Op → Type 0
IsUnused p next list op = unused (take p list) op (drop (p + 1) list) op.out ≡ next

chosen : (done : Bool) (x : List Op) (rest : Option (List Op)) → option_or (cond done (Some x) None) rest ≡ cond done (Some x) rest
chosen true x rest = refl
chosen false x rest = refl

pub settled_removes : (list next : List Op) (p n : ℕ) (done : Bool) (k : Item list p) → Settled (suc n) (take p list) (drop p list) → IsUnused p (cond done (Some next) None) list k.item
    → rewrite_from (take p list) (drop p list) ≡ cond done (Some next) (rewrite_from (take (p + 1) list) (drop (p + 1) list))
settled_removes list next p n done k s e =
    settled_place list p n k s ∙ ap (λ o. option_or o (rewrite_from (take (p + 1) list) (drop (p + 1) list))) e ∙ chosen done next (rewrite_from (take (p + 1) list) (drop (p + 1) list))

pub rest_place : (list : List Op) (p : ℕ) (k : Item list p) (a b c : Option (List Op)) → Becomes p a list k.item → Goes p b list k.item → IsUnused p c list k.item
    → rewrite_from (take p list) (drop p list) ≡ option_or (option_or a (option_or b c)) (rewrite_from (take (p + 1) list) (drop (p + 1) list))
rest_place list p k a b c x y z = at_place list p k ∙ (λ i. option_or (option_or (x i) (option_or (y i) (z i))) (rewrite_from (take (p + 1) list) (drop (p + 1) list)))
