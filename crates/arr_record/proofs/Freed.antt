-- Bases that are freed one after another, and cuts, keep what holds.
use Rattle.std.proofs.Common.{◌≡◌, ◌≢◌, ℕ, ◌<◌, ◌≤◌, List, [], ◌∷◌, ◌++◌, Bool, true, false, cond, not, ◌||◌, ◌&&◌, refl, ap, ap₂, sym, subst, ◌∙◌, arith, length, append-nil}
use Rattle.std.proofs.lemmas.Bool.{false≢true, eqb-true, eqb-false, eq-eqb, ne_eqb}
use Rattle.std.specs.Prelude.{◌==◌, nat_eq}
use Rattle.std.specs.List.{AllByRecursion, filter}
use Rattle.arr_num.specs.declared.elem.Elem.{Elem}
use Rattle.arr_num.specs.declared.elem.Elem.TheVariants.{U8, I32, I64, U64}
use Rattle.arr_view.specs.Views.{has}
use Rattle.arr_ops.specs.declared.op.Op.{Op}
use Rattle.arr_ops.specs.Memory.{step, changed, Drops, Keeps}
use Rattle.arr_ops.specs.Formed.{well_formed}
use Rattle.arr_ops.proofs.Pairs.{Pairs, All_weaker}
use Rattle.arr_elab.specs.Steps.{Progress, shown}
use Rattle.arr_record.specs.declared.part.Part.{Part}
use Rattle.arr_ops.proofs.Spots.{all_two}
use Rattle.arr_record.specs.Parts.{Written, most, cut_list, cut, cut_if, append, free, free_each}
use Rattle.arr_record.specs.Ledger.{lives}
use Rattle.arr_record.proofs.Home.{Home, place_of}
use Rattle.arr_record.proofs.Joined.{Allowed}
use Rattle.arr_record.proofs.Kept.{Kept, now_of, live_after, kept_more, kept_cut, not_true}

-- ---- cuts

pub cut_kept : (bases : List (ℕ × Elem)) (live : ℕ → Bool) (past : Progress) (parts : List Part) (waiting : List Op) → Kept bases live past parts waiting
    → Kept bases live past (cut_list parts waiting) []
cut_kept bases live past parts [] k = k
cut_kept bases live past parts (op ∷ ops) k = kept_cut bases live past parts (op ∷ ops) (omega arith) k

-- between operations fewer wait than a list has at most
pub record Going (bases : List (ℕ × Elem)) (live : ℕ → Bool) (past : Progress) (s : Written) : Type 0 where
  pub kept : Kept bases live past s.parts s.waiting
  pub short : length s.waiting < most

pub going_cut : (bases : List (ℕ × Elem)) (live : ℕ → Bool) (past : Progress) (s : Written) → Kept bases live past s.parts s.waiting → Going bases live past (cut s)
going_cut bases live past s k = record { kept = cut_kept bases live past s.parts s.waiting k; short = omega arith }

-- a list is cut where it is full
pub settled : (bases : List (ℕ × Elem)) (live : ℕ → Bool) (past : Progress) (s : Written) → Kept bases live past s.parts s.waiting
    → Going bases live past (cut_if (length s.waiting == most) s)
settled bases live past s k =
    elim (length s.waiting == most) as (λ t. (length s.waiting == most) ≡ t → Going bases live past (cut_if t s)) [
      | true ↦ λ e. going_cut bases live past s k
      | false ↦ λ e. record { kept = k; short = (let ne : length s.waiting ≢ most = eqb-false (length s.waiting) most e in let l : length s.waiting ≤ most = k.few in omega arith) }
    ] refl

-- ---- one FREE

free_well : (base : ℕ × Elem) → well_formed (free base) ≡ true
free_well base = by_type base.1
  where
    by_type : (t : Elem) → well_formed (free (base.0, t)) ≡ true
    by_type U8 = refl
    by_type I32 = refl
    by_type I64 = refl
    by_type U64 = refl

-- a live base with its type
abbrev pub Lives : List (ℕ × Elem) → (ℕ → Bool) → ℕ × Elem → Type 0
Lives bases live base = (live base.0 ≡ true) × (base.1 ≡ (place_of bases base.0).1)

going_free : (bases : List (ℕ × Elem)) (live : ℕ → Bool) (past : Progress) (s : Written) (base : ℕ × Elem) → Lives bases live base → Going bases live past s
    → Going bases (live_after live (free base)) past (append s (free base))
going_free bases live past s base alive g =
    let k : Kept bases live past s.parts s.waiting = g.kept in
    let nil : bases ++ [] ≡ bases = append-nil bases in
    let home : Home (bases ++ []) (free base) =
    subst (λ bs. Home bs (free base)) (sym nil) (record {
      well = free_well base;
      typed_there = ((k.below base.0 alive.0, alive.1), tt);
      inside = tt;
      whole = λ e. absurd (false≢true e);
    }) in
    let allowed : Allowed bases live (free base) = record { reads = tt; frees = (alive.0, tt); writes = λ _. tt; makes = λ e. absurd (false≢true e) } in
    settled bases (live_after live (free base)) past (record s { waiting = s.waiting ++ free base ∷ [] })
    (subst (λ bs. Kept bs (live_after live (free base)) past s.parts (s.waiting ++ free base ∷ [])) nil
    (kept_more bases live past s.parts s.waiting (free base) k allowed home past refl g.short
    (λ b h. left b (not_true (has (base.0 ∷ []) b) (right (live b || false) (has (base.0 ∷ []) b) h)) ∙ k.same b (was (live b) (has (base.0 ∷ []) b) h))
    (append-nil (shown past))))
  where
    left : (b : ℕ) → has (base.0 ∷ []) b ≡ false → (step (now_of s.parts s.waiting) (free base)).bases b ≡ (now_of s.parts s.waiting).bases b
    left b h = ap (λ t. changed (cond t Drops Keeps) ((now_of s.parts s.waiting).bases b)) h

    right : (a b : Bool) → (a && not b) ≡ true → not b ≡ true
    right true b h = h
    right false b h = absurd (false≢true h)

    was : (a b : Bool) → ((a || false) && not b) ≡ true → a ≡ true
    was true b h = refl
    was false b h = absurd (false≢true h)

-- ---- one after another

abbrev pub live_without : (ℕ → Bool) → List (ℕ × Elem) → ℕ → Bool
live_without live bases b = live b && not (lives bases b)

turned : (a b : ℕ) → nat_eq b a ≡ (a == b)
turned a b =
    elim (a == b) as (λ t. (a == b) ≡ t → nat_eq b a ≡ t) [
      | true ↦ λ e. eq-eqb b a (sym (eqb-true a b e))
      | false ↦ λ e. ne_eqb b a (λ f. eqb-false a b e (sym f))
    ] refl

without_first : (live : ℕ → Bool) (base : ℕ × Elem) (bs : List (ℕ × Elem)) (b : ℕ) → live_without (live_after live (free base)) bs b ≡ live_without live (base ∷ bs) b
without_first live base bs b =
    ap (λ t. ((live b || false) && not (t || false)) && not (lives bs b)) (turned base.0 b) ∙ tests (live b) (base.0 == b) (lives bs b)
  where
    tests : (x y z : Bool) → (((x || false) && not (y || false)) && not z) ≡ (x && not (y || z))
    tests true true z = refl
    tests true false z = refl
    tests false y z = refl

without_none : (live : ℕ → Bool) (b : ℕ) → live b ≡ live_without live [] b
without_none live b = both (live b)
  where
    both : (x : Bool) → x ≡ (x && not false)
    both true = refl
    both false = refl

pub going_alike : (bases : List (ℕ × Elem)) (live other : ℕ → Bool) (past : Progress) (s : Written) → ((b : ℕ) → live b ≡ other b) → Going bases live past s → Going bases other past s
going_alike bases live other past s e g = let same : live ≡ other = (λ i b. e b i) in subst (λ l. Going bases l past s) same g

-- those that come later still live
later_live : (bases : List (ℕ × Elem)) (live : ℕ → Bool) (base : ℕ × Elem) (bs : List (ℕ × Elem)) → AllByRecursion (λ (other : ℕ × Elem). base.0 < other.0) bs
    → AllByRecursion (Lives bases live) bs → AllByRecursion (Lives bases (live_after live (free base))) bs
later_live bases live base bs =
    all_two (λ (other : ℕ × Elem). base.0 < other.0) (Lives bases live) (Lives bases (live_after live (free base)))
    (λ other l h. (ap₂ (λ x y. (x || false) && not (y || false)) h.0 (let ne : other.0 ≢ base.0 = (λ e. absurd (omega arith)) in ne_eqb other.0 base.0 ne), h.1)) bs

pub going_frees : (bases : List (ℕ × Elem)) (bs : List (ℕ × Elem)) (live : ℕ → Bool) (past : Progress) (s : Written) → Pairs (λ (x y : ℕ × Elem). x.0 < y.0) bs → AllByRecursion (Lives bases live) bs
    → Going bases live past s → Going bases (live_without live bs) past (free_each s bs)
going_frees bases [] live past s p h g = going_alike bases live (live_without live []) past s (without_none live) g
going_frees bases (base ∷ bs) live past s p h g =
    going_alike bases (live_without (live_after live (free base)) bs) (live_without live (base ∷ bs)) past (free_each (append s (free base)) bs) (without_first live base bs)
    (going_frees bases bs (live_after live (free base)) past (append s (free base)) p.1 (later_live bases live base bs p.0 h.1) (going_free bases live past s base h.0 g))

-- ---- the bases that a test keeps

pub lives_kept : (test : ℕ → Bool) (bs : List (ℕ × Elem)) (b : ℕ) → lives (filter (λ (base : ℕ × Elem). test base.0) bs) b ≡ (lives bs b && test b)
lives_kept test [] b = refl
lives_kept test (base ∷ bs) b =
    elim (test base.0) as (λ t. test base.0 ≡ t → lives (cond t (base ∷ filter (λ (other : ℕ × Elem). test other.0) bs) (filter (λ (other : ℕ × Elem). test other.0) bs)) b ≡ (((base.0 == b) || lives bs b) && test b)) [
      | true ↦ λ e. ap (λ t. (base.0 == b) || t) (lives_kept test bs b)
          ∙ elim (base.0 == b) as (λ t. (base.0 == b) ≡ t → (t || (lives bs b && test b)) ≡ ((t || lives bs b) && test b)) [
            | true ↦ λ f. sym (ap test (sym (eqb-true base.0 b f)) ∙ e)
            | false ↦ λ f. refl
          ] refl
      | false ↦ λ e. lives_kept test bs b
          ∙ elim (base.0 == b) as (λ t. (base.0 == b) ≡ t → (lives bs b && test b) ≡ ((t || lives bs b) && test b)) [
            | true ↦ λ f. let no : test b ≡ false = ap test (sym (eqb-true base.0 b f)) ∙ e in ap (λ x. lives bs b && x) no ∙ and_false (lives bs b) ∙ sym no
            | false ↦ λ f. refl
          ] refl
    ] refl
  where
    and_false : (x : Bool) → (x && false) ≡ false
    and_false true = refl
    and_false false = refl

pub rest_lives : (test : ℕ → Bool) (bs : List (ℕ × Elem)) (b : ℕ)
    → live_without (lives bs) (filter (λ (base : ℕ × Elem). not (test base.0)) bs) b ≡ lives (filter (λ (base : ℕ × Elem). test base.0) bs) b
rest_lives test bs b =
    ap (λ t. lives bs b && not t) (lives_kept (λ c. not (test c)) bs b) ∙ tests (lives bs b) (test b) ∙ sym (lives_kept test bs b)
  where
    tests : (x y : Bool) → (x && not (x && not y)) ≡ (x && y)
    tests true true = refl
    tests true false = refl
    tests false y = refl

pub all_live : (bs : List (ℕ × Elem)) → AllByRecursion (λ (base : ℕ × Elem). lives bs base.0 ≡ true) bs
all_live [] = tt
all_live (base ∷ bs) = (
  ap (λ t. t || lives bs base.0) (eq-eqb base.0 base.0 refl),
  All_weaker (λ (other : ℕ × Elem). lives bs other.0 ≡ true) (λ (other : ℕ × Elem). lives (base ∷ bs) other.0 ≡ true) (λ other t. ap (λ x. (base.0 == other.0) || x) t ∙ or_true (base.0 == other.0)) bs (all_live bs),
)
  where
    or_true : (x : Bool) → (x || true) ≡ true
    or_true true = refl
    or_true false = refl
