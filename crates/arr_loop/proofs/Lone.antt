-- A block with a serial operation: that operation, and FREEs.
use Rattle.std.proofs.Common.{◌≡◌, ℕ, List, [], ◌∷◌, ◌++◌, Bool, true, false, cond, not, ◌||◌, ◌&&◌, Option, Some, None, refl, ap, ap₂, sym, subst, ◌∙◌}
use Rattle.std.specs.Prelude.{◌==◌, is_some}
use Rattle.std.specs.List.{AllByRecursion, filter, find, flat_map, list_all, list_any}
use Rattle.std.specs.Option.{option_to_list}
use Rattle.std.proofs.lemmas.Bool.{eq-eqb, eqb-true, false≢true}
use Rattle.std.proofs.lemmas.List.{append-nil}
use Rattle.std.proofs.lemmas.List.Folds.{list_any-append}
use Rattle.arr_ops.specs.Costs.{distinct, reads, writes}
use Rattle.arr_num.specs.declared.code.Code.{Code}
use Rattle.arr_num.specs.declared.code.Code.TheVariants.{Range}
use Rattle.arr_num.specs.Kinds.{is_reduction}
use Rattle.arr_view.specs.Strided.{Strided}
use Rattle.arr_view.specs.Views.{elements, has, identical, overlap, positions}
use Rattle.arr_ops.specs.declared.op.Op.{Op}
use Rattle.arr_ops.specs.declared.op.Operand.{Operand}
use Rattle.arr_ops.specs.declared.op.Operand.TheVariants.{Array, Number}
use Rattle.arr_ops.specs.Ops.{creates, freed, freed_by, fusible, inputs, is_free, makes_base, named, outputs, serial, some_pair, view_of}
use Rattle.arr_ops.specs.Formed.{all_pairs, is_whole, kind_kept, makes_whole, may_precede, well_formed, writes_once}
use Rattle.arr_ops.specs.Memory.{Becomes, Cell, Drops, Keeps, Memory, Writes, change, changed, computed, eager, first_numbers, lengths_of, operand, or_zero, out_lengths, output_change, read, results, step, slot_after}
use Rattle.arr_ops.proofs.Pairs.{All_weaker, Pairs}
use Rattle.arr_ops.proofs.Spots.{all_left, all_right, pairs_before}
use Rattle.arr_ops.proofs.Tests.{all_of, both_left, both_right, or_cases, pairs_of}
use Rattle.arr_strips.proofs.Sames.{any_all, none_if}
use Rattle.arr_strips.proofs.Sorts.{Freeing, sorts}
use Rattle.arr_strips.proofs.Stages.{names_views, unfreed}
use Rattle.arr_contract.specs.Prepared.{may_share_block}
use Rattle.arr_loop.specs.Laws.{SerialBlocks}
use Rattle.arr_loop.proofs.Shares.{all_fusible, all_well, in_turn}

-- ---- FREE

free_is : (f : Op) → well_formed f ≡ true → is_free f ≡ true → Freeing f
free_is f well h = sorts f well (λ o a p. absurd (busy_not p.no_free)) (λ v s. absurd (busy_not s.no_free)) (λ x. x) (λ o v r. absurd (busy_not r.no_free))
  where
    busy_not : f.frees ≡ None → ⊥
    busy_not e = false≢true (sym (ap (λ (x : Option ℕ). list_any (λ (_ : ℕ). true) (option_to_list x)) e) ∙ h)

quiet_free : (f : Op) → f.frees ≡ None → is_free f ≡ false
quiet_free f e = ap (λ (x : Option ℕ). list_any (λ (_ : ℕ). true) (option_to_list x)) e

no_output : (op : Op) → op.out ≡ None → serial op ≡ false
no_output op e = ap (λ (x : Option Strided). some_pair (λ o v. overlap o v && (is_reduction op.code || not (identical o v))) (option_to_list x) (inputs op)) e

pub busy : (op : Op) → well_formed op ≡ true → serial op ≡ true → op.frees ≡ None
busy op well h = sorts op well (λ o a p. p.no_free) (λ v s. s.no_free) (λ x. absurd (false≢true (sym (no_output op x.no_out) ∙ h))) (λ o v r. r.no_free)

-- ---- a serial operation stands with FREEs alone

beside_left : (f g : Op) → fusible f g ≡ true → serial f ≡ true → is_free f ≡ false → is_free g ≡ true
beside_left f g h e n =
    or_cases (is_free f || is_free g) _ h (λ k. or_cases (is_free f) (is_free g) k (λ t. absurd (false≢true (sym n ∙ t))) (λ t. t)) (λ k. absurd (false≢true (sym (ap not e) ∙ both_left (not (serial f)) _ k)))

beside_right : (f g : Op) → fusible f g ≡ true → serial g ≡ true → is_free g ≡ false → is_free f ≡ true
beside_right f g h e n =
    or_cases (is_free f || is_free g) _ h (λ k. or_cases (is_free f) (is_free g) k (λ t. t) (λ t. absurd (false≢true (sym n ∙ t))))
    (λ k. absurd (false≢true (sym (ap not e) ∙ both_left (not (serial g)) _ (both_right (not (serial f)) _ k))))

pub record Lone (ops : List Op) (op : Op) : Type 0 where
  pub front : List Op
  pub back : List Op
  pub is : ops ≡ front ++ op ∷ back
  pub before : AllByRecursion Freeing front
  pub behind : AllByRecursion Freeing back
  pub free_before : AllByRecursion (λ f. is_free f ≡ true) front
  pub free_behind : AllByRecursion (λ f. is_free f ≡ true) back
  pub well : well_formed op ≡ true
  pub serial_is : serial op ≡ true

free_all : (op : Op) (fs : List Op) → AllByRecursion (λ f. fusible op f ≡ true) fs → AllByRecursion (λ f. well_formed f ≡ true) fs → serial op ≡ true → is_free op ≡ false → AllByRecursion Freeing fs
free_all op [] h w e n = tt
free_all op (f ∷ fs) h w e n = (free_is f w.0 (beside_left op f h.0 e n), free_all op fs h.1 w.1 e n)

free_tests : (op : Op) (fs : List Op) → AllByRecursion (λ f. fusible op f ≡ true) fs → serial op ≡ true → is_free op ≡ false → AllByRecursion (λ f. is_free f ≡ true) fs
free_tests op fs h e n = All_weaker (λ f. fusible op f ≡ true) (λ f. is_free f ≡ true) (λ f k. beside_left op f k e n) fs h

lone : (ops : List Op) → AllByRecursion (λ f. well_formed f ≡ true) ops → Pairs (λ f g. fusible f g ≡ true) ops → list_any serial ops ≡ true → (op : Op) × Lone ops op
lone [] w p h = absurd (false≢true h)
lone (x ∷ xs) w p h =
    elim (serial x) as (λ z. serial x ≡ z → (z || list_any serial xs) ≡ true → (op : Op) × Lone (x ∷ xs) op) [
      | true ↦ λ e k. (
        x,
        record {
          front = [];
          back = xs;
          is = refl;
          before = tt;
          behind = free_all x xs p.0 w.1 e (quiet_free x (busy x w.0 e));
          free_before = tt;
          free_behind = free_tests x xs p.0 e (quiet_free x (busy x w.0 e));
          well = w.0;
          serial_is = e;
        },
      )
      | false ↦ λ e k.
          let r : (op : Op) × Lone xs op = lone xs w.1 p.1 k in
          let l : Lone xs r.0 = r.1 in
          let fused : fusible x r.0 ≡ true = (all_right (λ g. fusible x g ≡ true) l.front (r.0 ∷ l.back) (subst (λ ys. AllByRecursion (λ g. fusible x g ≡ true) ys) l.is p.0)).0 in (
            r.0,
            record {
              front = x ∷ l.front;
              back = l.back;
              is = ap (λ ys. x ∷ ys) l.is;
              before = (free_is x w.0 (beside_right x r.0 fused l.serial_is (quiet_free r.0 (busy r.0 l.well l.serial_is))), l.before);
              behind = l.behind;
              free_before = (beside_right x r.0 fused l.serial_is (quiet_free r.0 (busy r.0 l.well l.serial_is)), l.free_before);
              free_behind = l.free_behind;
              well = l.well;
              serial_is = l.serial_is;
            },
          )
    ] refl h

abbrev pub writes_some : Op → Bool
writes_some op = is_some op.out

pub serial_writes : (op : Op) → serial op ≡ true → is_some op.out ≡ true
serial_writes op h = at op.out refl
  where
    at : (x : Option Strided) → op.out ≡ x → is_some x ≡ true
    at None e = absurd (false≢true (sym (no_output op e) ∙ h))
    at (Some o) e = refl

find_front : (front back : List Op) (op : Op) → AllByRecursion Freeing front → is_some op.out ≡ true → find writes_some (front ++ op ∷ back) ≡ Some op
find_front [] back op h e = ap (λ z. cond z (Some op) (find writes_some back)) e
find_front (f ∷ front) back op h e = ap (λ (x : Option Strided). cond (is_some x) (Some f) (find writes_some (front ++ op ∷ back))) h.0.no_out ∙ find_front front back op h.1 e

pub lone_op : (ops : List Op) (op : Op) → may_share_block ops ≡ true → list_any serial ops ≡ true → find writes_some ops ≡ Some op → Lone ops op
lone_op ops op share h found =
    let r : (one : Op) × Lone ops one = lone ops (all_of well_formed ops (all_well ops share)) (pairs_of fusible ops (all_fusible ops share)) h in
    let l : Lone ops r.0 = r.1 in
    let same : Some r.0 ≡ Some op = sym (ap (find writes_some) l.is ∙ find_front l.front l.back r.0 l.before (serial_writes r.0 l.serial_is)) ∙ found in
    let is : r.0 ≡ op = cc in
    subst (Lone ops) is l

pub found_some : (ops : List Op) → may_share_block ops ≡ true → list_any serial ops ≡ true → find writes_some ops ≡ None → ⊥
found_some ops share h none =
    let r : (one : Op) × Lone ops one = lone ops (all_of well_formed ops (all_well ops share)) (pairs_of fusible ops (all_fusible ops share)) h in
    let l : Lone ops r.0 = r.1 in
    let same : Some r.0 ≡ None = sym (ap (find writes_some) l.is ∙ find_front l.front l.back r.0 l.before (serial_writes r.0 l.serial_is)) ∙ none in
    absurd (cc)

-- ---- it creates nothing

pub serial_makes : (op : Op) → well_formed op ≡ true → serial op ≡ true → op.makes ≡ false
serial_makes op well h = at op.makes refl
  where
    kept : makes_whole op ≡ true
    kept = both_right (writes_once op) _ (both_right _ (writes_once op && makes_whole op) (both_right (kind_kept op) _ well))

    apart : (o v : Strided) → overlap o v ≡ true → not (v.base == o.base) ≡ true → ⊥
    apart o v e n = false≢true (sym (ap not (eq-eqb v.base o.base (sym (eqb-true o.base v.base (both_left (o.base == v.base) _ e))))) ∙ n)

    whole : (z : Bool) → op.makes ≡ z → z ≡ true → list_all (λ (o : Strided). is_whole o && list_all (λ (v : Strided). not (v.base == o.base)) (inputs op)) (outputs op) ≡ true
    whole true e t = both_right (is_some op.out) _ (ap (λ z. not z || (is_some op.out && list_all (λ (o : Strided). is_whole o && list_all (λ (v : Strided). not (v.base == o.base)) (inputs op)) (outputs op))) (sym e) ∙ kept)
    whole false e t = absurd (false≢true t)

    at : (z : Bool) → op.makes ≡ z → z ≡ false
    at false e = refl
    at true e =
        any_all (λ (o : Strided). list_any (λ (v : Strided). overlap o v && (is_reduction op.code || not (identical o v))) (inputs op))
        (λ (o : Strided). (is_whole o && list_all (λ (v : Strided). not (v.base == o.base)) (inputs op)) ≡ true) (outputs op) h
        (all_of (λ (o : Strided). is_whole o && list_all (λ (v : Strided). not (v.base == o.base)) (inputs op)) (outputs op) (whole true e refl))
        (λ o some k.
        any_all (λ (v : Strided). overlap o v && (is_reduction op.code || not (identical o v))) (λ (v : Strided). not (v.base == o.base) ≡ true) (inputs op) some
        (all_of (λ (v : Strided). not (v.base == o.base)) (inputs op) (both_right (is_whole o) _ k))
        (λ v t n. absurd (apart o v (both_left (overlap o v) _ t) n)))

free_makes : (f : Op) (b : ℕ) → Freeing f → makes_base f b ≡ false
free_makes f b r = ap (λ (x : Option Strided). f.makes && list_any (λ (o : Strided). o.base == b) (option_to_list x)) r.no_out ∙ none f.makes
  where
    none : (z : Bool) → (z && false) ≡ false
    none true = refl
    none false = refl

pub creates_none : (ops : List Op) (op : Op) → Lone ops op → (b : ℕ) → creates ops b ≡ false
creates_none ops op l b =
    ap (λ xs. creates xs b) l.is ∙ list_any-append (λ f. makes_base f b) l.front (op ∷ l.back)
    ∙ ap₂ (λ x y. x || y) (none_if (λ f. makes_base f b) l.front (All_weaker Freeing (λ f. makes_base f b ≡ false) (λ f r. free_makes f b r) l.front l.before))
    (ap₂ (λ x y. x || y) (ap (λ z. z && list_any (λ (o : Strided). o.base == b) (outputs op)) (serial_makes op l.well l.serial_is))
    (none_if (λ f. makes_base f b) l.back (All_weaker Freeing (λ f. makes_base f b ≡ false) (λ f r. free_makes f b r) l.back l.behind)))

-- ---- what its operations leave

free_step : (f : Op) → Freeing f → (m : Memory) (b : ℕ) → (step m f).bases b ≡ cond (has (freed f) b) None (m.bases b)
free_step f r m b =
    elim (has (freed f) b) as (λ z. changed (cond z Drops (output_change f.out f.makes f.to (computed m f) b)) (m.bases b) ≡ cond z None (m.bases b)) [
      | true ↦ refl
      | false ↦ ap (λ (x : Option Strided). changed (output_change x f.makes f.to (computed m f) b) (m.bases b)) r.no_out
    ]

eager_free : (fs : List Op) → AllByRecursion Freeing fs → (m : Memory) (b : ℕ) → (eager m fs).bases b ≡ cond (freed_by fs b) None (m.bases b)
eager_free [] r m b = refl
eager_free (f ∷ fs) r m b =
    eager_free fs r.1 (step m f) b ∙ ap (λ c. cond (freed_by fs b) None c) (free_step f r.0 m b) ∙ join (has (freed f) b) (freed_by fs b) (m.bases b)
  where
    join : (x y : Bool) (c : Option Cell) → cond y None (cond x None c) ≡ cond (x || y) None c
    join true true c = refl
    join true false c = refl
    join false y c = refl

pub eager_append : (xs ys : List Op) (m : Memory) → eager m (xs ++ ys) ≡ eager (eager m xs) ys
eager_append [] ys m = refl
eager_append (x ∷ xs) ys m = eager_append xs ys (step m x)

operand_same : (m n : Memory) (k : ℕ) (o : Option Operand) → AllByRecursion (λ (v : Strided). m.bases v.base ≡ n.bases v.base) (view_of o) → operand m k o ≡ operand n k o
operand_same m n k None h = refl
operand_same m n k (Some (Number z)) h = refl
operand_same m n k (Some (Array v)) h = ap (λ c. read c (elements v)) h.0

first_same : (code : Code) (m n : Memory) (k : ℕ) (o : Option Operand) → AllByRecursion (λ (v : Strided). m.bases v.base ≡ n.bases v.base) (view_of o) → first_numbers code m k o ≡ first_numbers code n k o
first_same Range m n k o h = refl
first_same _ m n k o h = operand_same m n k o h

pub computed_same : (m n : Memory) (op : Op) → AllByRecursion (λ (v : Strided). m.bases v.base ≡ n.bases v.base) (inputs op) → computed m op ≡ computed n op
computed_same m n op h =
    ap₂ (results op.code op.to (lengths_of op.first) (or_zero op.axis))
    (first_same op.code m n (positions (out_lengths op.out)) op.first (all_left (λ (v : Strided). m.bases v.base ≡ n.bases v.base) (view_of op.first) (view_of op.second) h))
    (operand_same m n (positions (out_lengths op.out)) op.second (all_right (λ (v : Strided). m.bases v.base ≡ n.bases v.base) (view_of op.first) (view_of op.second) h))

module _ (ops : List Op) (op : Op) (l : Lone ops op) (order : all_pairs may_precede ops ≡ true) (m : Memory) where
  early : AllByRecursion (λ f. may_precede f op ≡ true) l.front
  early = pairs_before (λ f g. may_precede f g ≡ true) l.front op l.back (pairs_of may_precede (l.front ++ op ∷ l.back) (ap (all_pairs may_precede) (sym l.is) ∙ order))

  spared : (b : ℕ) → has (named op) b ≡ true → freed_by l.front b ≡ false
  spared b h = none_if (λ f. has (freed f) b) l.front (All_weaker (λ f. may_precede f op ≡ true) (λ f. has (freed f) b ≡ false) (λ f p. unfreed f op p b h) l.front early)

  m1 : Memory
  m1 = eager m l.front

  at1 : (b : ℕ) → m1.bases b ≡ cond (freed_by l.front b) None (m.bases b)
  unfolding m1
  at1 b = eager_free l.front l.before m b

  same_at : (b : ℕ) → freed_by l.front b ≡ false → m1.bases b ≡ m.bases b
  same_at b e = at1 b ∙ ap (λ z. cond z None (m.bases b)) e

  same_computed : computed m1 op ≡ computed m op
  same_computed =
      computed_same m1 m op (All_weaker (λ (v : Strided). has (named op) v.base ≡ true) (λ (v : Strided). m1.bases v.base ≡ m.bases v.base) (λ v h. same_at v.base (spared v.base h)) (inputs op)
      (all_right (λ (v : Strided). has (named op) v.base ≡ true) (outputs op) (inputs op) (names_views op)))

  -- a base that it does not name stays
  unnamed : (n : Memory) (b : ℕ) → (has (named op) b ≡ true → ⊥) → (step n op).bases b ≡ n.bases b
  unnamed n b free =
      ap (λ (x : Option ℕ). changed (cond (has (option_to_list x) b) Drops (output_change op.out op.makes op.to (computed n op) b)) (n.bases b)) (busy op l.well l.serial_is)
      ∙ at op.out refl
    where
      at : (x : Option Strided) → op.out ≡ x → changed (output_change x op.makes op.to (computed n op) b) (n.bases b) ≡ n.bases b
      at None e = refl
      at (Some o) e =
          elim (o.base == b) as (λ z. (o.base == b) ≡ z → changed (cond z (cond op.makes (Becomes (record { elem = op.to; numbers = computed n op })) (Writes (elements o) (computed n op))) Keeps) (n.bases b) ≡ n.bases b) [
            | true ↦ λ t. absurd (free (ap (has (named op)) (sym (eqb-true o.base b t)) ∙ (subst (λ (y : Option Strided). AllByRecursion (λ (v : Strided). has (named op) v.base ≡ true) (option_to_list y)) e (all_left (λ (v : Strided). has (named op) v.base ≡ true) (outputs op) (inputs op) (names_views op))).0))
            | false ↦ λ t. refl
          ] refl

  step_at : (b : ℕ) → (step m1 op).bases b ≡ cond (freed_by l.front b) None ((step m op).bases b)
  step_at b =
      elim (freed_by l.front b) as (λ z. freed_by l.front b ≡ z → (step m1 op).bases b ≡ cond z None ((step m op).bases b)) [
        | true ↦ λ e. unnamed m1 b (λ h. false≢true (sym (spared b h) ∙ e)) ∙ at1 b ∙ ap (λ z. cond z None (m.bases b)) e
        | false ↦ λ e. ap₂ (λ xs c. changed (change op xs b) c) same_computed (same_at b e)
      ] refl

  pub eager_lone : (b : ℕ) → (eager m ops).bases b ≡ cond (freed_by ops b) None ((step m op).bases b)
  unfolding m1
  eager_lone b =
      ap (λ xs. (eager m xs).bases b) l.is ∙ ap (λ (n : Memory). n.bases b) (eager_append l.front (op ∷ l.back) m)
      ∙ eager_free l.back l.behind (step m1 op) b ∙ ap (λ c. cond (freed_by l.back b) None c) (step_at b)
      ∙ join (freed_by l.front b) (freed_by l.back b) ((step m op).bases b)
      ∙ ap (λ z. cond z None ((step m op).bases b)) (sym frees)
    where
      join : (x y : Bool) (c : Option Cell) → cond y None (cond x None c) ≡ cond (x || y) None c
      join true true c = refl
      join true false c = refl
      join false y c = refl

      frees : freed_by ops b ≡ (freed_by l.front b || freed_by l.back b)
      frees =
          ap (λ xs. freed_by xs b) l.is ∙ list_any-append (λ f. has (freed f) b) l.front (op ∷ l.back)
          ∙ ap (λ (x : Option ℕ). freed_by l.front b || (has (option_to_list x) b || freed_by l.back b)) (busy op l.well l.serial_is)

slots_kept : (m : Memory) (op : Op) → op.slot ≡ None → m.slots ≡ (step m op).slots
slots_kept m op e = sym (ap (λ x. λ s. slot_after x (record { elem = op.from; lengths = lengths_of op.first; numbers = computed m op }) s (m.slots s)) e)

-- its operations show nothing
quiet_all : (fs : List Op) → AllByRecursion (λ (f : Op). f.slot ≡ None) fs → (m : Memory) → m.slots ≡ (eager m fs).slots
quiet_all [] h m = refl
quiet_all (f ∷ fs) h m = slots_kept m f h.0 ∙ quiet_all fs h.1 (step m f)

serial_slot : (op : Op) → well_formed op ≡ true → serial op ≡ true → op.slot ≡ None
serial_slot op well h = sorts op well (λ o a p. p.no_slot) (λ v s. absurd (false≢true (sym (no_output op s.no_out) ∙ h))) (λ x. x.no_slot) (λ o v r. r.no_slot)

all_joined : {X : Type 0} (P : X → Type 0) (xs ys : List X) → AllByRecursion P xs → AllByRecursion P ys → AllByRecursion P (xs ++ ys)
all_joined P [] ys h k = k
all_joined P (x ∷ xs) ys h k = (h.0, all_joined P xs ys h.1 k)

pub slots_lone : (ops : List Op) (op : Op) → Lone ops op → (m : Memory) → m.slots ≡ (eager m ops).slots
slots_lone ops op l m =
    quiet_all ops
    (subst (λ xs. AllByRecursion (λ (f : Op). f.slot ≡ None) xs) (sym l.is)
    (all_joined (λ (f : Op). f.slot ≡ None) l.front (op ∷ l.back) (All_weaker Freeing (λ (f : Op). f.slot ≡ None) (λ f r. r.no_slot) l.front l.before)
    (serial_slot op l.well l.serial_is, All_weaker Freeing (λ (f : Op). f.slot ≡ None) (λ f r. r.no_slot) l.back l.behind))) m

-- ---- what it reads and writes

flat_free : (F : Op → List Strided) (fs : List Op) → AllByRecursion (λ f. F f ≡ []) fs → flat_map F fs ≡ []
flat_free F [] h = refl
flat_free F (f ∷ fs) h = ap₂ (λ xs ys. xs ++ ys) h.0 (flat_free F fs h.1)

flat_lone : (F : Op → List Strided) (front back : List Op) (op : Op) → AllByRecursion (λ f. F f ≡ []) front → AllByRecursion (λ f. F f ≡ []) back → flat_map F (front ++ op ∷ back) ≡ F op
flat_lone F [] back op h k = ap (λ ys. F op ++ ys) (flat_free F back k) ∙ append-nil (F op)
flat_lone F (f ∷ front) back op h k = ap (λ xs. xs ++ flat_map F (front ++ op ∷ back)) h.0 ∙ flat_lone F front back op h.1 k

filter_all : (p : Strided → Bool) (vs : List Strided) → ((v : Strided) → p v ≡ true) → filter p vs ≡ vs
filter_all p [] h = refl
filter_all p (v ∷ vs) h = ap₂ (λ b r. cond b (v ∷ r) r) (h v) (filter_all p vs h)

one_distinct : (p : Strided → Bool) (x : Option Strided) → distinct identical (filter p (option_to_list x)) ≡ filter p (option_to_list x)
one_distinct p None = refl
one_distinct p (Some o) = elim (p o) as (λ b. distinct identical (cond b (o ∷ []) []) ≡ cond b (o ∷ []) []) [ true ↦ refl | false ↦ refl ]

pub reads_lone : (ops : List Op) (op : Op) → Lone ops op → reads ops ≡ distinct identical (inputs op)
reads_lone ops op l =
    let q : Strided → Bool = λ (v : Strided). not (creates ops v.base) in
    let F : Op → List Strided = λ (f : Op). filter q (inputs f) in
    let none : (f : Op) → Freeing f → F f ≡ [] = λ f r. ap₂ (λ a b. filter q (view_of a ++ view_of b)) r.no_first r.no_second in
    ap (λ vs. distinct identical vs)
    (ap (flat_map F) l.is ∙ flat_lone F l.front l.back op (All_weaker Freeing (λ f. F f ≡ []) none l.front l.before) (All_weaker Freeing (λ f. F f ≡ []) none l.back l.behind)
    ∙ filter_all q (inputs op) (λ v. ap not (creates_none ops op l v.base)))

pub writes_lone : (ops : List Op) (op : Op) → Lone ops op → writes ops ≡ filter (λ (v : Strided). not (freed_by ops v.base)) (outputs op)
writes_lone ops op l =
    let q : Strided → Bool = λ (v : Strided). not (freed_by ops v.base) in
    let F : Op → List Strided = λ (f : Op). filter q (outputs f) in
    let none : (f : Op) → Freeing f → F f ≡ [] = λ f r. ap (λ x. filter q (option_to_list x)) r.no_out in
    ap (λ vs. distinct identical vs)
    (ap (flat_map F) l.is ∙ flat_lone F l.front l.back op (All_weaker Freeing (λ f. F f ≡ []) none l.front l.before) (All_weaker Freeing (λ f. F f ≡ []) none l.back l.behind))
    ∙ one_distinct q op.out

-- ---- the law

pub serial_blocks : SerialBlocks
serial_blocks ops share h =
    let r : (one : Op) × Lone ops one = lone ops (all_of well_formed ops (all_well ops share)) (pairs_of fusible ops (all_fusible ops share)) h in
    let l : Lone ops r.0 = r.1 in (
      r.0,
      record {
        front = l.front;
        back = l.back;
        is = l.is;
        before = l.free_before;
        behind = l.free_behind;
        serial_is = l.serial_is;
        creates_none = creates_none ops r.0 l;
        reads_are = reads_lone ops r.0 l;
        writes_are = writes_lone ops r.0 l;
        bases = eager_lone ops r.0 l (in_turn ops share);
        slots = λ m. sym (slots_lone ops r.0 l m);
      },
    )
