-- From the tables of a list to its leaf.
use Rattle.std.proofs.Common.{◌≡◌, ℕ, suc, ◌+◌, ◌-◌, ◌*◌, ◌/◌, ◌%◌, ◌<◌, ◌≤◌, List, [], ◌∷◌, ◌++◌, length, get_or, Bool, true, false, ◌&&◌, ◌||◌, ◌⊎◌, inl, inr, Option, Some, None, refl, sym, ap, ap₂, ◌∙◌, subst, arith, ⊎_elim, drop}
use Rattle.std.specs.Prelude.{nat_le, ◌==◌, slice_get, bit_and, bit_or}
use Rattle.std.specs.List.{list_any}
use Rattle.std.specs.Int.{bit_at}
use Rattle.std.proofs.lemmas.Bool.{and_parts, or_left, or_right, eq-eqb, leb-true}
use Rattle.std.proofs.lemmas.List.{get_or_default}
use Rattle.std.proofs.lemmas.List.Folds.{list_any-append}
use Rattle.std.proofs.Math.Nat.{mul-le-mul_left}
use Rattle.arr_view.specs.Strided.{Strided}
use Rattle.arr_view.specs.Views.{has, identical}
use Rattle.arr_ops.specs.declared.op.Op.{Op}
use Rattle.arr_ops.specs.Ops.{views, inputs, outputs, makes_base, freed}
use Rattle.arr_ops.proofs.Tests.{or_cases}
use Rattle.arr_sets.specs.Bits.{is_set}
use Rattle.arr_cost.specs.Footprints.{has_bit}
use Rattle.arr_cost.proofs.Digits.{and_bit, or_bit}
use Rattle.arr_law.specs.declared.charge.Charge.{Charge}
use Rattle.arr_law.specs.Problem.{Problem, is_op}
use Rattle.arr_law.specs.ProblemOf.{nothing, op_at, view_at, problem_of}
use Rattle.arr_law.specs.Facts.{Facts}
use Rattle.arr_law.specs.Leaves.{is_apart, surely_charges}
use Rattle.arr_law.proofs.Proper.{first_passes}
use Rattle.arr_bound.specs.declared.classes.Class.{Class}
use Rattle.arr_bound.specs.Sets.{in_row, IsTable}
use Rattle.arr_bound.specs.Picks.{IsPick}
use Rattle.arr_bound.specs.Classes.{IsClass}
use Rattle.arr_bound.specs.Worth.{TellsApart, in_rows, Within, Joined, LeafBelow}
use Rattle.arr_bound.proofs.Large.{leaf_more}

-- ---- words

word_bit : (words : List ℕ) (n k x : ℕ) → n < length words → x ≡ get_or words n x → k < 64 → has_bit x k ≡ is_set words (64 * n + k)
word_bit words n k x l is h =
    let d : (64 * n + k) / 64 ≡ n = omega arith in
    let m : (64 * n + k) % 64 ≡ k = omega arith in
    ap (λ w. bit_at w k == 1) (is ∙ get_or_default words n x 0 l) ∙ ap₂ (λ i j. bit_at (get_or words i 0) j == 1) (sym d) (sym m)

pub payers_word : (readers writers : List ℕ) (first second : ℕ → Bool) (n r a w b : ℕ) → n < length readers → n < length writers → r ≡ get_or readers n r → w ≡ get_or writers n w
    → ((k : ℕ) → k < 64 → (bit_at a k == 1) ≡ first (64 * n + k)) → ((k : ℕ) → k < 64 → (bit_at b k == 1) ≡ second (64 * n + k))
    → (k : ℕ) → k < 64 → has_bit (bit_or (bit_and r a) (bit_and w b)) k ≡ ((is_set readers (64 * n + k) && first (64 * n + k)) || (is_set writers (64 * n + k) && second (64 * n + k)))
payers_word readers writers first second n r a w b lr lw ir iw fa fb k h =
    or_bit (bit_and r a) (bit_and w b) k
    ∙ ap₂ (λ x y. x || y) (and_bit r a k ∙ ap₂ (λ x y. x && y) (word_bit readers n k r lr ir h) (fa k h)) (and_bit w b k ∙ ap₂ (λ x y. x && y) (word_bit writers n k w lw iw h) (fb k h))

-- ---- the first of some picks

pub front : (xs : List ℕ) (x : ℕ) → slice_get xs 0 ≡ Some x → xs ≡ x ∷ drop 1 xs
front [] x e = absurd (cc)
front (y ∷ ys) x e = let same : y ≡ x = cc in ap (λ z. z ∷ ys) same

pub numbered_op : (list : List Op) (f : ℕ) (op : Op) → 0 < f → f ≤ length list → op ≡ get_or list (f - 1) op → op ≡ op_at list f
numbered_op list f op low high is = is ∙ get_or_default list (f - 1) op nothing (omega arith) ∙ ap (λ k. get_or (nothing ∷ list) k nothing) (let e : suc (f - 1) ≡ f = omega arith in e)

pub joined_none : (problem : Problem) (c : ℕ) (picks : List ℕ) (groups : List Charge) → length picks ≡ 0 → Joined problem c picks groups groups
joined_none problem c [] groups e = record { none = λ _. refl; some = λ f fs s. absurd (cc) }
joined_none problem c (f ∷ fs) groups e = absurd (omega arith)

pub joined_some : (problem : Problem) (c k f : ℕ) (picks : List ℕ) (old new : List Charge) → picks ≡ f ∷ drop 1 picks → problem.view f k ≡ Some c → new ≡ old ++ record { operand = k; ops = picks } ∷ [] → Joined problem c picks old new
joined_some problem c k f picks old new e v is =
    record {
      none = λ n. absurd (let z : [] ≡ f ∷ drop 1 picks = sym n ∙ e in cc);
      some = λ g gs s. (k, is, subst (λ h. problem.view h k ≡ Some c) (ap (λ xs. get_or xs 0 0) (sym e ∙ s)) v);
    }

-- ---- one class

pub first_in_set : (apart : ℕ → ℕ → Bool) (set picks : List ℕ) (f : ℕ) (fs : List ℕ) → picks ≡ f ∷ fs → IsPick apart (is_set set) picks → is_set set f ≡ true
first_in_set apart set picks f fs e pick = pick.from f (subst (λ ps. has ps f ≡ true) (sym e) (or_left (f == f) (has fs f) (eq-eqb f f refl)))

module _ (list : List Op) (c : ℕ) (class : Class) (is : IsClass list c class) (rows : List ℕ) (table : IsTable (length list) rows) where
  abbrev P : Problem
  P = problem_of list

  maker : (f : ℕ) → class.creator ≡ Some f → is_op P f ≡ true
  maker f e = (first_passes (λ op. makes_base op (P.base c)) list f (sym is.creator ∙ e)).0

  ender : (f : ℕ) → class.freer ≡ Some f → is_op P f ≡ true
  ender f e = (first_passes (λ op. has (freed op) (P.base c)) list f (sym is.freer ∙ e)).0

  op_most : (f : ℕ) → is_op P f ≡ true → (1 ≤ f) × (f ≤ length list)
  op_most f e = let h = and_parts (nat_le 1 f) (nat_le f (length list)) e in (leb-true _ _ h.0, leb-true _ _ h.1)

  within : (o : Option ℕ) → ((f : ℕ) → o ≡ Some f → is_op P f ≡ true) → Within (length list / 64 + 1) (length rows) o
  within None h = tt
  within (Some f) h =
      let l = op_most f (h f refl) in
      omega (arith, l.1, table.long, mul-le-mul_left (length list / 64 + 1) l.1)

  pub creator_within : Within (length list / 64 + 1) (length rows) class.creator
  creator_within = within class.creator maker

  pub freer_within : Within (length list / 64 + 1) (length rows) class.freer
  freer_within = within class.freer ender

  module _ (set : List ℕ) (members : (g : ℕ) → is_set set g ≡ ((is_set class.readers.items g && in_rows (length list / 64 + 1) rows class.creator g) || (is_set class.writers.items g && in_rows (length list / 64 + 1) rows class.freer g))) where
    touch : (g : ℕ) → is_set set g ≡ true → (is_op P g ≡ true) × ((P.reads g c ≡ true) ⊎ (P.writes g c ≡ true))
    touch g e =
        or_cases (is_set class.readers.items g && in_rows (length list / 64 + 1) rows class.creator g) (is_set class.writers.items g && in_rows (length list / 64 + 1) rows class.freer g) (sym (members g) ∙ e)
        (λ r. let h = and_parts (is_op P g) (P.reads g c) (sym (is.readers.each g) ∙ (and_parts (is_set class.readers.items g) (in_rows (length list / 64 + 1) rows class.creator g) r).0) in (h.0, inl h.1))
        (λ w. let h = and_parts (is_op P g) (P.writes g c) (sym (is.writers.each g) ∙ (and_parts (is_set class.writers.items g) (in_rows (length list / 64 + 1) rows class.freer g) w).0) in (h.0, inr h.1))

    pub set_ops : (g : ℕ) → is_set set g ≡ true → (0 < g) × (g ≤ length list)
    set_ops g e = let l = op_most g (touch g e).0 in (omega (arith, l.0), l.1)

    pub set_views : (g : ℕ) → is_set set g ≡ true → list_any (identical class.view) (views (op_at list g)) ≡ true
    set_views g e =
        subst (λ (v : Strided). list_any (identical v) (views (op_at list g)) ≡ true) (sym is.view)
        (list_any-append (identical (view_at list c)) (outputs (op_at list g)) (inputs (op_at list g))
        ∙ ⊎_elim (λ (r : P.reads g c ≡ true). or_right (list_any (identical (view_at list c)) (outputs (op_at list g))) _ r) (λ (w : P.writes g c ≡ true). or_left (list_any (identical (view_at list c)) (outputs (op_at list g))) _ w) (touch g e).1)

    module _ (facts : Facts) (tells : TellsApart (problem_of list) facts rows) where
      row_apart : (g : ℕ) → is_op P g ≡ true → (o : Option ℕ) → ((f : ℕ) → o ≡ Some f → is_op P f ≡ true) → in_rows (length list / 64 + 1) rows o g ≡ is_apart facts g o
      row_apart g og None h = refl
      row_apart g og (Some f) h = table.even f g (op_most f (h f refl)).1 (op_most g og).1 ∙ tells g f og (h f refl)

      pays : (g : ℕ) → is_set set g ≡ (is_op P g && surely_charges P facts g c)
      pays g =
          members g ∙ ap₂ (λ r w. (r && in_rows (length list / 64 + 1) rows class.creator g) || (w && in_rows (length list / 64 + 1) rows class.freer g)) (is.readers.each g) (is.writers.each g)
          ∙ go (is_op P g) refl
        where
          go : (b : Bool) → is_op P g ≡ b → (((b && P.reads g c) && in_rows (length list / 64 + 1) rows class.creator g) || ((b && P.writes g c) && in_rows (length list / 64 + 1) rows class.freer g)) ≡ (b && surely_charges P facts g c)
          go false e = refl
          go true e =
              ap₂ (λ x y. (P.reads g c && x) || (P.writes g c && y))
              (row_apart g e class.creator maker ∙ ap (is_apart facts g) is.creator)
              (row_apart g e class.freer ender ∙ ap (is_apart facts g) is.freer)

      pub one_more : (picks : List ℕ) (value now : ℕ) (charges new : List Charge) → IsPick (in_row (length list / 64 + 1) rows) (is_set set) picks → LeafBelow (problem_of list) facts c value charges → Joined (problem_of list) c picks charges new
          → c < (problem_of list).classes → now ≡ value + class.weight * length picks → LeafBelow (problem_of list) facts (c + 1) now new
      one_more picks value now charges new pick l joined small e =
          leaf_more (problem_of list) facts c (in_row (length list / 64 + 1) rows) (is_set set) picks
          (λ b f h. ⊎_elim (λ s. (first_passes (λ op. makes_base op b) list f s).0) (λ s. (first_passes (λ op. has (freed op) b) list f s).0) h)
          tells
          (λ f o. table.uneven f (op_most f o).1)
          pays pick value now charges new l joined small (e ∙ ap (λ w. value + w * length picks) is.weight)
