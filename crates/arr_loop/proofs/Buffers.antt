-- The buffers of a block, one operation after another.
use Rattle.std.proofs.Common.{◌≡◌, ℕ, zero, suc, ◌+◌, ◌<◌, List, [], ◌∷◌, ◌++◌, Bool, true, false, cond, not, ◌||◌, ◌&&◌, Option, Some, None, length, length-append, take, drop, get_or, map, refl, ap, ap₂, sym, subst, ◌∙◌, arith}
use Rattle.std.specs.Prelude.{◌==◌, nat_eq, is_none, pos, replicate}
use Rattle.std.specs.List.{AllByRecursion, filter, list_all, list_any}
use Rattle.std.specs.Option.{option_to_list}
use Rattle.std.proofs.lemmas.Bool.{eq-eqb, eqb-true, eqb-false, ne_eqb, false≢true}
use Rattle.std.proofs.lemmas.List.{append-nil, take_more}
use Rattle.std.proofs.lemmas.List.Folds.{list_any-append}
use Rattle.std.proofs.lemmas.Grind.{flat_map-append}
use Rattle.arr_view.specs.Strided.{Strided}
use Rattle.arr_view.specs.Views.{has}
use Rattle.arr_ops.specs.declared.op.Op.{Op}
use Rattle.arr_ops.specs.Ops.{creates, freed_by, inputs, makes_base, named, outputs}
use Rattle.arr_ops.specs.Formed.{all_pairs, may_precede}
use Rattle.arr_ops.specs.Fits.{fits, op_fits}
use Rattle.arr_ops.specs.Memory.{Cell, Memory}
use Rattle.arr_ops.specs.Traffic.{contracted, created}
use Rattle.arr_ops.proofs.Pairs.{All_weaker, Pairs}
use Rattle.arr_ops.proofs.Spots.{all_left, created_absent, pairs_before}
use Rattle.arr_ops.proofs.Tests.{all_of, both_right, pairs_of}
use Rattle.arr_strips.specs.Columns.{count, opened_by, opening}
use Rattle.arr_strips.proofs.Sames.{any_all}
use Rattle.arr_strips.proofs.Stages.{names_views, unmade}
use Rattle.arr_store.specs.Stored.{Stored, cells}
use Rattle.arr_contract.specs.Prepared.{may_share_block}
use Rattle.arr_loop.specs.Opened.{OpenedFor, kept_bases, made_by, opened_for, unopened}
use Rattle.arr_loop.proofs.Shares.{in_turn}

-- ---- lists

pub split_at : {X : Type 0} (xs : List X) (i : ℕ) (x : X) → i < length xs → x ≡ get_or xs i x → xs ≡ take i xs ++ x ∷ drop (suc i) xs
split_at [] i x l e = absurd (omega arith)
split_at (y ∷ xs) zero x l e = ap (λ z. z ∷ xs) (sym e)
split_at (y ∷ xs) (suc i) x l e = ap (λ zs. y ∷ zs) (split_at xs i x (omega arith) e)

pub any_at : {X : Type 0} (p : X → Bool) (front back : List X) (x : X) → p x ≡ true → list_any p (front ++ x ∷ back) ≡ true
any_at p [] back x h = ap (λ b. b || list_any p back) h
any_at p (y ∷ front) back x h = elim (p y) as (λ b. (b || list_any p (front ++ x ∷ back)) ≡ true) [ true ↦ refl | false ↦ any_at p front back x h ]

pub filter_append : {X : Type 0} (p : X → Bool) (xs ys : List X) → filter p (xs ++ ys) ≡ filter p xs ++ filter p ys
filter_append p [] ys = refl
filter_append p (x ∷ xs) ys =
    elim (p x) as (λ b. cond b (x ∷ filter p (xs ++ ys)) (filter p (xs ++ ys)) ≡ cond b (x ∷ filter p xs) (filter p xs) ++ filter p ys) [
      | true ↦ ap (λ r. x ∷ r) (filter_append p xs ys)
      | false ↦ filter_append p xs ys
    ]

eq_turn : (a b : ℕ) → nat_eq a b ≡ (b == a)
eq_turn a b = elim (nat_eq a b) as (λ z. nat_eq a b ≡ z → z ≡ (b == a)) [
  | true ↦ λ e. sym (eq-eqb b a (sym (eqb-true a b e)))
  | false ↦ λ e. sym (ne_eqb b a (λ h. eqb-false a b e (sym h)))
] refl

and_false : (b : Bool) → false ≡ (b && false)
and_false true = refl
and_false false = refl

and_true : (b : Bool) → (b && true) ≡ b
and_true true = refl
and_true false = refl

-- a number stands in what passes where it stands there and passes
filter_has : (p : ℕ → Bool) (xs : List ℕ) (b : ℕ) → has (filter p xs) b ≡ (p b && has xs b)
filter_has p [] b = and_false (p b)
filter_has p (x ∷ xs) b =
    elim (nat_eq b x) as (λ z. nat_eq b x ≡ z → has (cond (p x) (x ∷ filter p xs) (filter p xs)) b ≡ (p b && (z || has xs b))) [
      | true ↦ λ e.
          let same : b ≡ x = eqb-true b x e in
          elim (p x) as (λ y. p x ≡ y → has (cond y (x ∷ filter p xs) (filter p xs)) b ≡ (p b && true)) [
            | true ↦ λ h. ap (λ z. z || has (filter p xs) b) e ∙ sym (and_true (p b) ∙ ap p same ∙ h)
            | false ↦ λ h. filter_has p xs b ∙ ap (λ z. z && has xs b) (ap p same ∙ h) ∙ sym (and_true (p b) ∙ ap p same ∙ h)
          ] refl
      | false ↦ λ e.
          elim (p x) as (λ y. has (cond y (x ∷ filter p xs) (filter p xs)) b ≡ (p b && has xs b)) [
            | true ↦ ap (λ z. z || has (filter p xs) b) e ∙ filter_has p xs b
            | false ↦ filter_has p xs b
          ]
    ] refl

-- ---- which bases are created

made_has : (makes : Bool) (out : Option Strided) (b : ℕ) → has (map (λ (o : Strided). o.base) (filter (λ _. makes) (option_to_list out))) b ≡ (makes && list_any (λ (o : Strided). o.base == b) (option_to_list out))
made_has true None b = refl
made_has false None b = refl
made_has true (Some o) b = ap (λ z. z || false) (eq_turn b o.base)
made_has false (Some o) b = refl

created_has : (ops : List Op) (b : ℕ) → has (created ops) b ≡ creates ops b
created_has [] b = refl
created_has (op ∷ ops) b =
    list_any-append (nat_eq b) (made_by op) (created ops) ∙ ap₂ (λ x y. x || y) (made_has op.makes op.out b) (created_has ops b)

pub contracted_when : (ops : List Op) (b : ℕ) → has (contracted ops) b ≡ (freed_by ops b && creates ops b)
contracted_when ops b = filter_has (freed_by ops) (created ops) b ∙ ap (λ z. freed_by ops b && z) (created_has ops b)

pub contracted_is : (ops : List Op) (b : ℕ) → creates ops b ≡ true → has (contracted ops) b ≡ freed_by ops b
contracted_is ops b h = filter_has (freed_by ops) (created ops) b ∙ ap (λ z. freed_by ops b && z) (created_has ops b ∙ h) ∙ and_true (freed_by ops b)

-- ---- one more operation

opening_end : (front : List Op) (op : Op) (b : ℕ) (c : Option Cell) → opening (front ++ op ∷ []) b c ≡ opened_by op b (opening front b c)
opening_end [] op b c = refl
opening_end (g ∷ front) op b c = opening_end front op b (opened_by g b c)

opened_end : (ops front : List Op) (op : Op) (f : ℕ → Option Cell) (b : ℕ)
    → opened_for ops (front ++ op ∷ []) f b ≡ cond (freed_by ops b) (opened_for ops front f b) (opened_by op b (opened_for ops front f b))
opened_end ops front op f b =
    elim (freed_by ops b) as (λ z. cond z (f b) (opening (front ++ op ∷ []) b (f b)) ≡ cond z (cond z (f b) (opening front b (f b))) (opened_by op b (cond z (f b) (opening front b (f b))))) [
      | true ↦ refl
      | false ↦ opening_end front op b (f b)
    ]

either : {X : Type 0} (p q : Bool) (x : X) → cond p x x ≡ cond q x x
either true true x = refl
either true false x = refl
either false true x = refl
either false false x = refl

same_test : (ops : List Op) (op : Op) (b : ℕ) (c : Option Cell) → (makes_base op b ≡ true → creates ops b ≡ true) → cond (has (contracted ops) b) c (opened_by op b c) ≡ cond (freed_by ops b) c (opened_by op b c)
same_test ops op b c h =
    elim (makes_base op b) as (λ z. makes_base op b ≡ z → (new : Option Cell) → cond (has (contracted ops) b) c (cond z new c) ≡ cond (freed_by ops b) c (cond z new c)) [
      | true ↦ λ e new. ap (λ z. cond z c new) (contracted_is ops b (h e))
      | false ↦ λ e new. either (has (contracted ops) b) (freed_by ops b) c
    ] refl _

pub opens_more : (front back : List Op) (op : Op) (f now next : ℕ → Option Cell) → now ≡ opened_for (front ++ op ∷ back) front f
    → ((b : ℕ) → next b ≡ cond (has (contracted (front ++ op ∷ back)) b) (now b) (opened_by op b (now b))) → next ≡ opened_for (front ++ op ∷ back) (front ++ op ∷ []) f
opens_more front back op f now next is more = λ i b. at b i
  where
    at : (b : ℕ) → next b ≡ opened_for (front ++ op ∷ back) (front ++ op ∷ []) f b
    at b =
        more b ∙ same_test (front ++ op ∷ back) op b (now b) (λ e. any_at (λ g. makes_base g b) front back op e)
        ∙ ap (λ (g : ℕ → Option Cell). cond (freed_by (front ++ op ∷ back) b) (g b) (opened_by op b (g b))) is
        ∙ sym (opened_end (front ++ op ∷ back) front op f b)

-- ---- how many

filter_alike : (p q : ℕ → Bool) (xs : List ℕ) → AllByRecursion (λ b. p b ≡ q b) xs → filter p xs ≡ filter q xs
filter_alike p q [] h = refl
filter_alike p q (b ∷ xs) h = ap₂ (λ z r. cond z (b ∷ r) r) h.0 (filter_alike p q xs h.1)

made_each : (P : ℕ → Type 0) (makes : Bool) (out : Option Strided) → ((b : ℕ) → (makes && list_any (λ (o : Strided). o.base == b) (option_to_list out)) ≡ true → P b)
    → AllByRecursion P (map (λ (o : Strided). o.base) (filter (λ _. makes) (option_to_list out)))
made_each P true None h = tt
made_each P false None h = tt
made_each P true (Some o) h = (h o.base (ap (λ z. z || false) (eq-eqb o.base o.base refl)), tt)
made_each P false (Some o) h = tt

pub kept_more : (front back : List Op) (op : Op) → length (kept_bases (front ++ op ∷ back) (front ++ op ∷ [])) ≡ length (kept_bases (front ++ op ∷ back) front) + length (filter (λ b. not (has (contracted (front ++ op ∷ back)) b)) (made_by op))
kept_more front back op =
    let ops : List Op = front ++ op ∷ back in
    let p : ℕ → Bool = λ b. not (freed_by ops b) in
    ap (λ bs. length (filter p bs)) (flat_map-append made_by front (op ∷ []) ∙ ap (λ bs. created front ++ bs) (append-nil (made_by op)))
    ∙ ap length (filter_append p (created front) (made_by op))
    ∙ length-append (filter p (created front)) (filter p (made_by op))
    ∙ ap (λ bs. length (filter p (created front)) + length bs)
    (sym (filter_alike (λ b. not (has (contracted ops) b)) p (made_by op)
    (made_each (λ b. not (has (contracted ops) b) ≡ p b) op.makes op.out (λ b e. ap not (contracted_is ops b (any_at (λ g. makes_base g b) front back op e))))))

-- ---- the base that an operation creates is not there

pub makes_named : (f : Op) (b : ℕ) → makes_base f b ≡ true → has (named f) b ≡ true
makes_named f b h =
    any_all (λ (o : Strided). o.base == b) (λ (o : Strided). has (named f) o.base ≡ true) (outputs f) (both_right f.makes _ h)
    (all_left (λ (o : Strided). has (named f) o.base ≡ true) (outputs f) (inputs f) (names_views f))
    (λ o e t. ap (has (named f)) (sym (eqb-true o.base b e)) ∙ t)

opening_none : (front : List Op) (b : ℕ) → AllByRecursion (λ f. makes_base f b ≡ false) front → opening front b None ≡ None
opening_none [] b h = refl
opening_none (f ∷ front) b h = ap (opening front b) (ap (λ z. cond z (Some (record { elem = f.to; numbers = replicate (count f) (pos 0) })) None) h.0) ∙ opening_none front b h.1

none_before : (front back : List Op) (op : Op) (b : ℕ) → Pairs (λ f g. may_precede f g ≡ true) (front ++ op ∷ back) → makes_base op b ≡ true → AllByRecursion (λ f. makes_base f b ≡ false) front
none_before front back op b order h =
    All_weaker (λ f. may_precede f op ≡ true) (λ f. makes_base f b ≡ false)
    (λ f p. elim (makes_base f b) as (λ z. makes_base f b ≡ z → z ≡ false) [
      | true ↦ λ e. absurd (false≢true (sym (unmade f op p b (makes_named f b e)) ∙ h))
      | false ↦ λ e. refl
    ] refl) front (pairs_before (λ f g. may_precede f g ≡ true) front op back order)

none_if : (z : Bool) (c d : Option Cell) → c ≡ None → d ≡ None → is_none (cond z c d) ≡ true
none_if true c d h k = ap is_none h
none_if false c d h k = ap is_none k

all_filtered : (p q : ℕ → Bool) (xs : List ℕ) → AllByRecursion (λ b. q b ≡ true) xs → list_all q (filter p xs) ≡ true
all_filtered p q [] h = refl
all_filtered p q (b ∷ xs) h = elim (p b) as (λ z. list_all q (cond z (b ∷ filter p xs) (filter p xs)) ≡ true) [
  | true ↦ ap₂ (λ x y. x && y) h.0 (all_filtered p q xs h.1)
  | false ↦ all_filtered p q xs h.1
]

pub opens_absent : (m : Memory) (front back : List Op) (op : Op) (now : ℕ → Option Cell) → all_pairs may_precede (front ++ op ∷ back) ≡ true → fits m (front ++ op ∷ back) ≡ true
    → now ≡ opened_for (front ++ op ∷ back) front m.bases → (p : ℕ → Bool) → list_all (λ b. is_none (now b)) (filter p (made_by op)) ≡ true
opens_absent m front back op now order fit is p =
    let ops : List Op = front ++ op ∷ back in
    all_filtered p (λ b. is_none (now b)) (made_by op)
    (made_each (λ b. is_none (now b) ≡ true) op.makes op.out (λ b e.
    let absent : m.bases b ≡ None = created_absent m b ops ops (all_of (op_fits m ops) ops fit) (any_at (λ g. makes_base g b) front back op e) in
    ap (λ (g : ℕ → Option Cell). is_none (g b)) is
    ∙ none_if (freed_by ops b) (m.bases b) (opening front b (m.bases b)) absent
    (ap (opening front b) absent ∙ opening_none front b (none_before front back op b (pairs_of may_precede ops order) e))))

-- ---- by the index of an operation

pub absent_at : (m : Memory) (ops : List Op) (i : ℕ) (op : Op) (now : ℕ → Option Cell) (p : ℕ → Bool) → i < length ops → op ≡ get_or ops i op → may_share_block ops ≡ true → fits m ops ≡ true
    → now ≡ opened_for ops (take i ops) m.bases → list_all (λ b. is_none (now b)) (filter p (made_by op)) ≡ true
absent_at m ops i op now p l e share fit is =
    let split : ops ≡ take i ops ++ op ∷ drop (suc i) ops = split_at ops i op l e in
    opens_absent m (take i ops) (drop (suc i) ops) op now (subst (λ x. all_pairs may_precede x ≡ true) split (in_turn ops share)) (subst (λ x. fits m x ≡ true) split fit)
    (subst (λ x. now ≡ opened_for x (take i ops) m.bases) split is) p

pub opened_more : (ops : List Op) (i : ℕ) (op : Op) (bases : List ℕ) (start now next : Stored) → i < length ops → op ≡ get_or ops i op → bases ≡ contracted ops → OpenedFor ops (take i ops) start now
    → ((b : ℕ) → cells next b ≡ cond (has bases b) (cells now b) (opened_by op b (cells now b)))
    → next.made ≡ now.made + length (filter (λ b. not (has bases b)) (made_by op)) → next.loads ≡ now.loads → next.stores ≡ now.stores → OpenedFor ops (take (i + 1) ops) start next
opened_more ops i op bases start now next l e same o each made loads stores =
    let front : List Op = take i ops in
    let back : List Op = drop (suc i) ops in
    let split : ops ≡ front ++ op ∷ back = split_at ops i op l e in
    let more : take (i + 1) ops ≡ front ++ op ∷ [] = take_more ops i op l ∙ ap (λ x. front ++ x ∷ []) (sym e) in
    let all : bases ≡ contracted (front ++ op ∷ back) = same ∙ ap contracted split in
    let kept : length (kept_bases ops (take (i + 1) ops)) ≡ length (kept_bases ops front) + length (filter (λ b. not (has bases b)) (made_by op)) =
    ap₂ (λ x y. length (kept_bases x y)) split more ∙ kept_more front back op
    ∙ ap₂ (λ x (y : List ℕ). length (kept_bases x front) + length (filter (λ b. not (has y b)) (made_by op))) (sym split) (sym all) in
    let before : now.made ≡ start.made + length (kept_bases ops front) = o.made in
    record {
      bases = opens_more front back op (cells start) (cells now) (cells next) (subst (λ x. cells now ≡ opened_for x front (cells start)) split o.bases)
          (λ b. each b ∙ ap (λ (y : List ℕ). cond (has y b) (cells now b) (opened_by op b (cells now b))) all)
          ∙ sym (ap₂ (λ x y. opened_for x y (cells start)) split more);
      made = omega arith;
      loads = loads ∙ o.loads;
      stores = stores ∙ o.stores;
    }

-- ---- back to the bases before

opened_not : (f : Op) (b : ℕ) (c : Option Cell) → makes_base f b ≡ false → opened_by f b c ≡ c
opened_not f b c h = ap (λ z. cond z (Some (record { elem = f.to; numbers = replicate (count f) (pos 0) })) c) h

opening_same : (ops : List Op) (b : ℕ) (c : Option Cell) → creates ops b ≡ false → opening ops b c ≡ c
opening_same [] b c h = refl
opening_same (f ∷ ops) b c h =
    elim (makes_base f b) as (λ z. makes_base f b ≡ z → (z || creates ops b) ≡ false → opening ops b (opened_by f b c) ≡ c) [
      | true ↦ λ e k. absurd (false≢true (sym k))
      | false ↦ λ e k. ap (opening ops b) (opened_not f b c e) ∙ opening_same ops b c k
    ] refl h

either_same : (z : Bool) (c : Option Cell) → cond z c c ≡ c
either_same true c = refl
either_same false c = refl

pub unopened_opened : (m : Memory) (ops : List Op) (now : ℕ → Option Cell) → fits m ops ≡ true → now ≡ opened_for ops ops m.bases → unopened ops now ≡ m.bases
unopened_opened m ops now fit is = λ i b. at b i
  where
    at : (b : ℕ) → unopened ops now b ≡ m.bases b
    at b =
        elim (creates ops b) as (λ z. creates ops b ≡ z → cond z None (now b) ≡ m.bases b) [
          | true ↦ λ e. sym (created_absent m b ops ops (all_of (op_fits m ops) ops fit) e)
          | false ↦ λ e. ap (λ (g : ℕ → Option Cell). g b) is ∙ ap (λ c. cond (freed_by ops b) (m.bases b) c) (opening_same ops b (m.bases b) e) ∙ either_same (freed_by ops b) (m.bases b)
        ] refl
