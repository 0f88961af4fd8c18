-- The rules that remove operations leave a formed list of less potential.
use Rattle.std.proofs.Common.{◌≡◌, ℕ, List, [], ◌∷◌, ◌++◌, Bool, true, false, cond, not, ◌||◌, ◌&&◌, refl, ap, ap₂, sym, subst, ◌∙◌, Option, Some, None, map}
use Rattle.std.specs.Prelude.{◌==◌, nat_eq, is_some, is_none}
use Rattle.std.specs.List.{AllByRecursion, list_all, list_any, filter}
use Rattle.std.specs.Option.{option_to_list}
use Rattle.arr_num.specs.Kinds.{kind}
use Rattle.arr_view.specs.Strided.{Strided}
use Rattle.arr_view.specs.Views.{elements, has, same_lists}
use Rattle.arr_ops.specs.Ops.{inputs, outputs, freed, named, makes_base, creates}
use Rattle.arr_ops.specs.Memory.{Memory}
use Rattle.arr_ops.specs.Formed.{well_formed, inside_made, same_types, may_precede, elementwise, slot_numbers}
use Rattle.arr_ops.specs.Fits.{Need, needs, meets_need}
use Rattle.arr_ops.specs.declared.op.Op.{Op}
use Rattle.arr_ops.proofs.Pairs.{Pairs, All_weaker, All_filter}
use Rattle.arr_ops.proofs.Tests.{both_left, both_right, all_of, test_all}
use Rattle.arr_ops.proofs.Spots.{Formed, well_at, operands_of, all_right, all_two}
use Rattle.arr_rewrite.specs.Rules.{copies_itself}
use Rattle.arr_rewrite.specs.NextRewrite.{frees_base, unfreed, only_freed, unused}
use Rattle.arr_rewrite.proofs.Options.{some_true, some_same}
use Rattle.arr_rewrite.proofs.Parts.{all_join, map_all, equal_turned, not_is}
use Rattle.arr_rewrite.proofs.Sources.{need_of, whole_of}
use Rattle.arr_rewrite.proofs.Changed.{fits_with}
use Rattle.arr_rewrite.proofs.Agree.{Unnamed, unnamed_test}
use Rattle.arr_rewrite.proofs.KeptRemoved.{ToItself, itself_of, itself_unary, input_apart, elementwise_bare, maker_bare, free_bare, Free}
use Rattle.arr_rewrite.proofs.Measure.{removed_falls, unused_falls}
use Rattle.arr_rewrite.proofs.Turns.{Follows}
use Rattle.arr_rewrite.proofs.TurnsTwo.{makes_not}

-- ---- parts of a list

all_without : {X : Type 0} (P : X → Type 0) (front back : List X) (x : X) → AllByRecursion P (front ++ x ∷ back) → AllByRecursion P (front ++ back)
all_without P [] back x h = h.1
all_without P (f ∷ front) back x h = (h.0, all_without P front back x h.1)

pairs_without : {X : Type 0} (R : X → X → Type 0) (front back : List X) (x : X) → Pairs R (front ++ x ∷ back) → Pairs R (front ++ back)
pairs_without R [] back x h = h.1
pairs_without R (f ∷ front) back x h = (all_without (R f) front back x h.0, pairs_without R front back x h.1)

square_without : (R : Op → Op → Type 0) (front back : List Op) (x : Op) → AllByRecursion (λ f. AllByRecursion (R f) (front ++ x ∷ back)) (front ++ x ∷ back)
    → AllByRecursion (λ f. AllByRecursion (R f) (front ++ back)) (front ++ back)
square_without R front back x h =
    All_weaker (λ f. AllByRecursion (R f) (front ++ x ∷ back)) (λ f. AllByRecursion (R f) (front ++ back)) (λ f k. all_without (R f) front back x k) (front ++ back)
    (all_without (λ f. AllByRecursion (R f) (front ++ x ∷ back)) front back x h)

formed_without : (front back : List Op) (op : Op) → Formed (front ++ op ∷ back) → Formed (front ++ back)
formed_without front back op h = record {
  well = all_without (λ f. well_formed f ≡ true) front back op h.well;
  inside = square_without (λ f g. inside_made f g ≡ true) front back op h.inside;
  types = square_without (λ f g. same_types f g ≡ true) front back op h.types;
  order = pairs_without (λ f g. may_precede f g ≡ true) front back op h.order;
}

all_kept : {X : Type 0} (P : X → Type 0) (keep : X → Bool) (xs : List X) → AllByRecursion P xs → AllByRecursion P (filter keep xs)
all_kept P keep xs h = All_filter P keep xs (All_weaker P (λ x. keep x ≡ true → P x) (λ x p e. p) xs h)

all_filtered : {X : Type 0} (P : X → Type 0) (keep : X → Bool) (front back : List X) → AllByRecursion P (front ++ back) → AllByRecursion P (front ++ filter keep back)
all_filtered P keep [] back h = all_kept P keep back h
all_filtered P keep (f ∷ front) back h = (h.0, all_filtered P keep front back h.1)

pairs_kept : {X : Type 0} (R : X → X → Type 0) (keep : X → Bool) (xs : List X) → Pairs R xs → Pairs R (filter keep xs)
pairs_kept R keep [] h = tt
pairs_kept R keep (x ∷ xs) h =
    elim (keep x) as (λ b. Pairs R (cond b (x ∷ filter keep xs) (filter keep xs))) [
      | true ↦ (all_kept (R x) keep xs h.0, pairs_kept R keep xs h.1)
      | false ↦ pairs_kept R keep xs h.1
    ]

pairs_filtered : {X : Type 0} (R : X → X → Type 0) (keep : X → Bool) (front back : List X) → Pairs R (front ++ back) → Pairs R (front ++ filter keep back)
pairs_filtered R keep [] back h = pairs_kept R keep back h
pairs_filtered R keep (f ∷ front) back h = (all_filtered (R f) keep front back h.0, pairs_filtered R keep front back h.1)

formed_filtered : (keep : Op → Bool) (front back : List Op) → Formed (front ++ back) → Formed (front ++ filter keep back)
formed_filtered keep front back h = record {
  well = all_filtered (λ f. well_formed f ≡ true) keep front back h.well;
  inside = square (λ f g. inside_made f g ≡ true) h.inside;
  types = square (λ f g. same_types f g ≡ true) h.types;
  order = pairs_filtered (λ f g. may_precede f g ≡ true) keep front back h.order;
}
  where
    square : (R : Op → Op → Type 0) → AllByRecursion (λ f. AllByRecursion (R f) (front ++ back)) (front ++ back)
        → AllByRecursion (λ f. AllByRecursion (R f) (front ++ filter keep back)) (front ++ filter keep back)
    square R k =
        All_weaker (λ f. AllByRecursion (R f) (front ++ back)) (λ f. AllByRecursion (R f) (front ++ filter keep back)) (λ f j. all_filtered (R f) keep front back j) (front ++ filter keep back)
        (all_filtered (λ f. AllByRecursion (R f) (front ++ back)) keep front back k)

-- ---- slots and creators

slots_without : (front back : List Op) (op : Op) → op.slot ≡ None → slot_numbers (front ++ op ∷ back) ≡ slot_numbers (front ++ back)
slots_without [] back op e = ap (λ s. option_to_list s ++ slot_numbers back) e
slots_without (f ∷ front) back op e = ap (λ k. option_to_list f.slot ++ k) (slots_without front back op e)

slots_after : (front xs ys : List Op) → slot_numbers xs ≡ slot_numbers ys → slot_numbers (front ++ xs) ≡ slot_numbers (front ++ ys)
slots_after [] xs ys e = e
slots_after (f ∷ front) xs ys e = ap (λ k. option_to_list f.slot ++ k) (slots_after front xs ys e)

slots_filtered : (b : ℕ) (fs : List Op) → AllByRecursion (λ f. frees_base f b ≡ true → f.slot ≡ None) fs → slot_numbers fs ≡ slot_numbers (unfreed fs b)
slots_filtered b [] h = refl
slots_filtered b (f ∷ fs) h =
    elim (frees_base f b) as (λ t. (t ≡ true → f.slot ≡ None) → option_to_list f.slot ++ slot_numbers fs ≡ slot_numbers (cond (not t) (f ∷ unfreed fs b) (unfreed fs b))) [
      | true ↦ λ g. ap (λ s. option_to_list s ++ slot_numbers fs) (g refl) ∙ slots_filtered b fs h.1
      | false ↦ λ g. ap (λ k. option_to_list f.slot ++ k) (slots_filtered b fs h.1)
    ] h.0

creates_without : (c : ℕ) (op : Op) → makes_base op c ≡ false → (front back : List Op) → creates (front ++ op ∷ back) c ≡ creates (front ++ back) c
creates_without c op e [] back = ap (λ t. t || creates back c) e
creates_without c op e (f ∷ front) back = ap (λ t. makes_base f c || t) (creates_without c op e front back)

creates_after : (c : ℕ) (front xs ys : List Op) → creates xs c ≡ creates ys c → creates (front ++ xs) c ≡ creates (front ++ ys) c
creates_after c [] xs ys e = e
creates_after c (f ∷ front) xs ys e = ap (λ t. makes_base f c || t) (creates_after c front xs ys e)

creates_filtered : (c b : ℕ) (fs : List Op) → AllByRecursion (λ f. frees_base f b ≡ true → makes_base f c ≡ false) fs → creates fs c ≡ creates (unfreed fs b) c
creates_filtered c b [] h = refl
creates_filtered c b (f ∷ fs) h =
    elim (frees_base f b) as (λ t. (t ≡ true → makes_base f c ≡ false) → (makes_base f c || creates fs c) ≡ creates (cond (not t) (f ∷ unfreed fs b) (unfreed fs b)) c) [
      | true ↦ λ g. ap (λ t. t || creates fs c) (g refl) ∙ creates_filtered c b fs h.1
      | false ↦ λ g. ap (λ t. makes_base f c || t) (creates_filtered c b fs h.1)
    ] h.0

-- ---- a copy of a view to itself

pub copies_follow : (front back : List Op) (op : Op) → Formed (front ++ op ∷ back) → copies_itself op ≡ true → Follows (front ++ op ∷ back) (front ++ back)
copies_follow front back op h e =
    let well : well_formed op ≡ true = well_at front back op h in
    let t : ToItself op = itself_of op well e in
    let makes : op.makes ≡ false =
    input_apart op op.out t.o t.v op.makes t.out t.first (whole_of op well)
    (both_left (t.o.base == t.v.base) (same_lists t.o.lengths t.v.lengths && same_lists (elements t.o) (elements t.v)) t.same) in
    let none : (b : ℕ) → makes_base op b ≡ false = λ b. ap (λ k. k && list_any (λ (o : Strided). o.base == b) (outputs op)) makes in
    let same : creates (front ++ op ∷ back) ≡ creates (front ++ back) = λ i. λ b. creates_without b op (none b) front back i in
    record {
      formed = formed_without front back op h;
      slots = slots_without front back op (elementwise_bare op (both_left (elementwise op) (is_some op.first && is_none op.second) (itself_unary op well e))).no_slot;
      fits = λ m f. subst (λ (c : ℕ → Bool). list_all (fits_with m c) (front ++ back) ≡ true) same
          (test_all (fits_with m (creates (front ++ op ∷ back))) (front ++ back)
          (all_without (λ g. fits_with m (creates (front ++ op ∷ back)) g ≡ true) front back op (all_of (fits_with m (creates (front ++ op ∷ back))) (front ++ op ∷ back) f)));
      falls = removed_falls front back op none;
    }

-- ---- a base that nothing uses

needs_apart : (b : ℕ) (f : Op) → has (named f) b ≡ false → AllByRecursion (λ (n : Need). (n.base == b) ≡ false) (needs f)
needs_apart b f h =
    let u : Unnamed b f = unnamed_test b f h in
    let P : Need → Type 0 = λ (n : Need). (n.base == b) ≡ false in
    let end : ℕ → Need = λ c. record { base = c; elem = f.to; places = [] } in
    all_join P (map (need_of f.to) (outputs f) ++ map (need_of f.from) (inputs f)) (map (λ c. record { base = c; elem = f.to; places = [] }) (freed f))
    (all_join P (map (need_of f.to) (outputs f)) (map (need_of f.from) (inputs f)) (map_all P (need_of f.to) (outputs f) u.outputs_not) (map_all P (need_of f.from) (inputs f) u.inputs_not))
    (map_all P (λ c. record { base = c; elem = f.to; places = [] }) (freed f) (frees_apart f.frees u.freed_not))
  where
    frees_apart : (frees : Option ℕ) → has (option_to_list frees) b ≡ false → AllByRecursion (λ c. (c == b) ≡ false) (option_to_list frees)
    frees_apart None k = tt
    frees_apart (Some c) k = (equal_turned b c (first (nat_eq b c) k), tt)
      where
        first : (t : Bool) → (t || false) ≡ false → t ≡ false
        first true h = h
        first false h = refl

-- the test asks of the bases that are named only
fits_apart : (m : Memory) (b : ℕ) (c d : ℕ → Bool) (f : Op) → ((k : ℕ) → (k == b) ≡ false → c k ≡ d k) → has (named f) b ≡ false → fits_with m c f ≡ true → fits_with m d f ≡ true
fits_apart m b c d f same h e =
    ap₂ (λ p q. p && q)
    (test_all (λ (n : Need). d n.base || meets_need (m.bases n.base) n) (needs f)
    (all_two (λ (n : Need). (n.base == b) ≡ false) (λ (n : Need). (c n.base || meets_need (m.bases n.base) n) ≡ true) (λ (n : Need). (d n.base || meets_need (m.bases n.base) n) ≡ true)
    (λ n a t. ap (λ k. k || meets_need (m.bases n.base) n) (sym (same n.base a)) ∙ t) (needs f) (needs_apart b f h)
    (all_of (λ (n : Need). c n.base || meets_need (m.bases n.base) n) (needs f) (both_left (list_all (λ (n : Need). c n.base || meets_need (m.bases n.base) n) (needs f)) _ e))))
    (both_right (list_all (λ (n : Need). c n.base || meets_need (m.bases n.base) n) (needs f)) _ e)

-- an operation that frees the base does nothing else, and another doesn't name it
pub record Aside (b : ℕ) (f : Op) : Type 0 where
  pub frees : frees_base f b ≡ true → Free f
  pub unnamed : frees_base f b ≡ false → has (named f) b ≡ false

pub aside : (b : ℕ) (f : Op) → well_formed f ≡ true → (frees_base f b || not (has (named f) b)) ≡ true → Aside b f
aside b f well h = record {
  frees = λ t. free_bare (kind f.code) f b (operands_of f well) t;
  unnamed = λ t. not_is (has (named f) b) (ap (λ k. k || not (has (named f) b)) (sym t) ∙ h);
}

free_makes_not : (f : Op) (c : ℕ) → Free f → makes_base f c ≡ false
free_makes_not f c h = makes_not f.out f.makes c (subst (λ o. AllByRecursion (λ (v : Strided). (v.base == c) ≡ false) (option_to_list o)) (sym h.no_out) tt)

pub unused_follow : (front back next : List Op) (op : Op) (o : Strided) → Formed (front ++ op ∷ back) → op.out ≡ Some o → unused front op back (Some o) ≡ Some next → Follows (front ++ op ∷ back) next
unused_follow front back next op o h out e =
    let t = some_true (op.makes && (list_all (λ f. not (has (named f) o.base)) front && only_freed back o.base)) (front ++ unfreed back o.base) next e in
    let makes : op.makes ≡ true = both_left op.makes _ t in
    let t2 = both_right op.makes _ t in
    let before : AllByRecursion (λ f. has (named f) o.base ≡ false) front =
    All_weaker (λ f. not (has (named f) o.base) ≡ true) (λ f. has (named f) o.base ≡ false) (λ f k. not_is (has (named f) o.base) k) front
    (all_of (λ f. not (has (named f) o.base)) front (both_left (list_all (λ f. not (has (named f) o.base)) front) _ t2)) in
    let t3 = both_right (list_all (λ f. not (has (named f) o.base)) front) _ t2 in
    let behind : AllByRecursion (Aside o.base) back =
    all_two (λ f. well_formed f ≡ true) (λ f. (frees_base f o.base || not (has (named f) o.base)) ≡ true) (Aside o.base) (λ f w k. aside o.base f w k) back
    ((all_right (λ f. well_formed f ≡ true) front (op ∷ back) h.well).1)
    (all_of (λ f. frees_base f o.base || not (has (named f) o.base)) back (both_right (list_any (λ f. frees_base f o.base) back) _ t3)) in
    let only : (c : ℕ) → (c == o.base) ≡ false → makes_base op c ≡ false =
    λ c k. makes_not op.out op.makes c (subst (λ u. AllByRecursion (λ (v : Strided). (v.base == c) ≡ false) (option_to_list u)) (sym out) (equal_turned c o.base k, tt)) in
    let same : (c : ℕ) → (c == o.base) ≡ false → creates (front ++ op ∷ back) c ≡ creates (front ++ unfreed back o.base) c =
    λ c k. creates_without c op (only c k) front back
    ∙ creates_after c front back (unfreed back o.base) (creates_filtered c o.base back (All_weaker (Aside o.base) (λ f. frees_base f o.base ≡ true → makes_base f c ≡ false) (λ f a u. free_makes_not f c (a.frees u)) back behind)) in
    let unnamed : AllByRecursion (λ f. has (named f) o.base ≡ false) (front ++ unfreed back o.base) =
    all_join (λ f. has (named f) o.base ≡ false) front (unfreed back o.base) before
    (All_filter (λ f. has (named f) o.base ≡ false) (λ f. not (frees_base f o.base)) back
    (All_weaker (Aside o.base) (λ f. not (frees_base f o.base) ≡ true → has (named f) o.base ≡ false) (λ f a u. a.unnamed (not_is (frees_base f o.base) u)) back behind)) in
    subst (Follows (front ++ op ∷ back)) (some_same (op.makes && (list_all (λ f. not (has (named f) o.base)) front && only_freed back o.base)) (front ++ unfreed back o.base) next e)
    (record {
      formed = formed_filtered (λ f. not (frees_base f o.base)) front back (formed_without front back op h);
      slots = slots_without front back op (maker_bare (kind op.code) op (operands_of op (well_at front back op h)) makes).no_slot
          ∙ slots_after front back (unfreed back o.base) (slots_filtered o.base back (All_weaker (Aside o.base) (λ f. frees_base f o.base ≡ true → f.slot ≡ None) (λ f a u. (a.frees u).no_slot) back behind));
      fits = λ m f. test_all (fits_with m (creates (front ++ unfreed back o.base))) (front ++ unfreed back o.base)
          (all_two (λ g. has (named g) o.base ≡ false) (λ g. fits_with m (creates (front ++ op ∷ back)) g ≡ true) (λ g. fits_with m (creates (front ++ unfreed back o.base)) g ≡ true)
          (λ g n k. fits_apart m o.base (creates (front ++ op ∷ back)) (creates (front ++ unfreed back o.base)) g same n k) (front ++ unfreed back o.base) unnamed
          (all_filtered (λ g. fits_with m (creates (front ++ op ∷ back)) g ≡ true) (λ g. not (frees_base g o.base)) front back
          (all_without (λ g. fits_with m (creates (front ++ op ∷ back)) g ≡ true) front back op (all_of (fits_with m (creates (front ++ op ∷ back))) (front ++ op ∷ back) f))));
      falls = unused_falls o.base front back op only
          (All_weaker (λ f. has (named f) o.base ≡ false) (λ f. AllByRecursion (λ (v : Strided). (v.base == o.base) ≡ false) (inputs f)) (λ f k. (unnamed_test o.base f k).inputs_not) front before)
          (All_weaker (Aside o.base) (λ f. (frees_base f o.base ≡ true → (c : ℕ) → makes_base f c ≡ false) × (frees_base f o.base ≡ false → AllByRecursion (λ (v : Strided). (v.base == o.base) ≡ false) (inputs f)))
          (λ f a. ((λ u c. free_makes_not f c (a.frees u)), (λ u. (unnamed_test o.base f (a.unnamed u)).inputs_not))) back behind);
    })
