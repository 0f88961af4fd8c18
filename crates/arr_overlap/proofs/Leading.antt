-- Where steps of given sizes lead.
use Rattle.std.proofs.Common.{◌≡◌, ℕ, zero, suc, ◌+◌, ◌-◌, ◌*◌, ◌/◌, ◌%◌, ◌<◌, ◌≤◌, List, [], ◌∷◌, ◌++◌, Bool, true, false, length, get_or, set, drop, take, take_all, append-nil, refl, ap, sym, ◌∙◌, subst, arith}
use Rattle.std.specs.Prelude.{nat_le, nat_lt, ◌&&◌, min}
use Rattle.std.specs.List.{insert, list_all, refill}
use Rattle.std.specs.Int.{div_ceil}
use Rattle.std.proofs.Math.Nat.{mod-add-div, mod-lt, mul-le-mul_left, mul_comm}
use Rattle.std.proofs.lemmas.Bool.{and_from, and_parts, leb-true, leb-false, le-leb, ltb-true, ltb-false}
use Rattle.std.proofs.lemmas.Grind.{div_ceil_times}
use Rattle.std.proofs.lemmas.List.{drop_all, drop_more, length-set}
use Rattle.std.proofs.lemmas.List.Edits.{length-insert}
use Rattle.arr_overlap.specs.Legs.{is_leg, reach, AreLegs, LeadTo, Turn}
use Rattle.arr_overlap.specs.declared.legs.Leg.{Leg}

-- ---- which legs there are

pub record Bounds (k : ℕ) (l : Leg) : Type 0 where
  pub some : 1 ≤ l.places
  pub few : l.places ≤ k * 2097152
  pub moves : 1 ≤ l.step
  pub short : l.step ≤ 2147483648

pub bounds : (k : ℕ) (l : Leg) → is_leg k l ≡ true → Bounds k l
bounds k l e =
    let p = and_parts (nat_le 1 l.places && nat_le l.places (k * 2097152)) (nat_le 1 l.step && nat_le l.step 2147483648) e in
    let a = and_parts (nat_le 1 l.places) (nat_le l.places (k * 2097152)) p.0 in
    let b = and_parts (nat_le 1 l.step) (nat_le l.step 2147483648) p.1 in
    record { some = leb-true 1 l.places a.0; few = leb-true l.places (k * 2097152) a.1; moves = leb-true 1 l.step b.0; short = leb-true l.step 2147483648 b.1 }

pub within : (k : ℕ) (l : Leg) → 1 ≤ l.places → l.places ≤ k * 2097152 → 1 ≤ l.step → l.step ≤ 2147483648 → is_leg k l ≡ true
within k l a b c d =
    and_from (nat_le 1 l.places && nat_le l.places (k * 2097152)) (nat_le 1 l.step && nat_le l.step 2147483648)
    (and_from (nat_le 1 l.places) (nat_le l.places (k * 2097152)) (le-leb 1 l.places a) (le-leb l.places (k * 2097152) b))
    (and_from (nat_le 1 l.step) (nat_le l.step 2147483648) (le-leb 1 l.step c) (le-leb l.step 2147483648 d))

more_dimensions : (k m : ℕ) (l : Leg) → k ≤ m → is_leg k l ≡ true → is_leg m l ≡ true
more_dimensions k m l more e =
    let b = bounds k l e in
    let few : l.places ≤ k * 2097152 = b.few in
    within m l b.some (omega arith) b.moves b.short

all_more : (k m : ℕ) (ls : List Leg) → k ≤ m → list_all (is_leg k) ls ≡ true → list_all (is_leg m) ls ≡ true
all_more k m [] more h = refl
all_more k m (l ∷ ls) more h =
    let p = and_parts (is_leg k l) (list_all (is_leg k) ls) h in
    and_from (is_leg m l) (list_all (is_leg m) ls) (more_dimensions k m l more p.0) (all_more k m ls more p.1)

pub of_more_dimensions : (k m : ℕ) (ls : List Leg) → k ≤ m → AreLegs k ls → AreLegs m ls
of_more_dimensions k m ls more h =
    let few : length ls ≤ k = h.few in
    record { few = omega arith; each = all_more k m ls more h.each }

pub first_leg : (k : ℕ) (l : Leg) (ls : List Leg) → AreLegs k (l ∷ ls) → Bounds k l
first_leg k l ls h = bounds k l (and_parts (is_leg k l) (list_all (is_leg k) ls) h.each).0

pub other_legs : (k : ℕ) (l : Leg) (ls : List Leg) → AreLegs k (l ∷ ls) → AreLegs k ls
other_legs k l ls h =
    let few : length (l ∷ ls) ≤ k = h.few in
    record { few = omega arith; each = (and_parts (is_leg k l) (list_all (is_leg k) ls) h.each).1 }

pub leg_at : (k : ℕ) (ls : List Leg) (i : ℕ) (d : Leg) → i < length ls → list_all (is_leg k) ls ≡ true → Bounds k (get_or ls i d)
leg_at k [] i d l h = absurd (omega arith)
leg_at k (x ∷ xs) zero d l h = bounds k x (and_parts (is_leg k x) (list_all (is_leg k) xs) h).0
leg_at k (x ∷ xs) (suc i) d l h = leg_at k xs i d (omega arith) (and_parts (is_leg k x) (list_all (is_leg k) xs) h).1

-- ---- how far legs lead

pub reach_turn : (ls : List Leg) (i : ℕ) (d : Leg) → i < length ls → reach (drop i ls) ≡ ((get_or ls i d).places - 1) * (get_or ls i d).step + reach (drop (i + 1) ls)
reach_turn ls i d l = ap reach (drop_more ls i d l)

pub reach_end : (ls : List Leg) (i : ℕ) → length ls ≤ i → reach (drop i ls) ≡ 0
reach_end ls i l = ap reach (drop_all i ls l)

pub one_reach : (l : Leg) → Bounds 8 l → (l.places - 1) * l.step ≤ 36028797018963968
one_reach l b =
    let few : l.places ≤ 8 * 2097152 = b.few in
    let short : l.step ≤ 2147483648 = b.short in
    let grown : (l.places - 1) * l.step ≤ (l.places - 1) * 2147483648 = mul-le-mul_left (l.places - 1) short in
    omega arith

pub lead_within : (ls : List Leg) (t : ℕ) → LeadTo ls t → t ≤ reach ls
lead_within [] t h = omega arith
lead_within (l ∷ ls) t h =
    let few : h.count < l.places = h.few in
    let ih : h.left ≤ reach ls = lead_within ls h.left h.on in
    let sum : t ≡ h.count * l.step + h.left = h.sum in
    let grown : l.step * h.count ≤ l.step * (l.places - 1) = mul-le-mul_left l.step (let o : h.count ≤ l.places - 1 = omega arith in o) in
    let turned : l.step * h.count ≡ h.count * l.step = mul_comm l.step h.count in
    let turned' : l.step * (l.places - 1) ≡ (l.places - 1) * l.step = mul_comm l.step (l.places - 1) in
    omega arith

-- ---- how many steps are tried

pub record Tried (l : Leg) (ls : List Leg) (least most t : ℕ) : Type 0 where
  pub count : ℕ
  pub low : least ≤ count
  pub high : count < most + 1
  pub on : LeadTo ls (t - count * l.step)

pub tried : (l : Leg) (ls : List Leg) (t : ℕ) → 1 ≤ l.step → LeadTo (l ∷ ls) t → Tried l ls (div_ceil (t - reach ls) l.step) (min (t / l.step) (l.places - 1)) t
tried l ls t moves h =
    let s : ℕ = l.step in
    let few : h.count < l.places = h.few in
    let sum : t ≡ h.count * s + h.left = h.sum in
    let near : h.left ≤ reach ls = lead_within ls h.left h.on in
    let up : ℕ = div_ceil (t - reach ls) s in
    let rounded : up * s < (t - reach ls) + s = (div_ceil_times (t - reach ls) s moves).1 in
    let low : up ≤ h.count =
    elim (nat_le up h.count) as (λ b. nat_le up h.count ≡ b → up ≤ h.count) [
      | true ↦ λ e. leb-true up h.count e
      | false ↦ λ e.
          let above : h.count < up = leb-false up h.count e in
          let grown : s * (h.count + 1) ≤ s * up = mul-le-mul_left s (let o : h.count + 1 ≤ up = omega arith in o) in
          let turned : s * up ≡ up * s = mul_comm s up in
          let turned' : s * (h.count + 1) ≡ h.count * s + s = mul_comm s (h.count + 1) ∙ (let o : (h.count + 1) * s ≡ h.count * s + s = omega arith in o) in
          absurd (omega arith)
    ] refl in
    let whole : t % s + s * (t / s) ≡ t = mod-add-div t s in
    let rest : t % s < s = mod-lt t moves in
    let most : h.count ≤ t / s =
    elim (nat_le h.count (t / s)) as (λ b. nat_le h.count (t / s) ≡ b → h.count ≤ t / s) [
      | true ↦ λ e. leb-true h.count (t / s) e
      | false ↦ λ e.
          let above : t / s < h.count = leb-false h.count (t / s) e in
          let grown : s * (t / s + 1) ≤ s * h.count = mul-le-mul_left s (let o : t / s + 1 ≤ h.count = omega arith in o) in
          let turned : s * h.count ≡ h.count * s = mul_comm s h.count in
          let spread : s * (t / s + 1) ≡ s * (t / s) + s = omega arith in
          absurd (omega arith)
    ] refl in
    let last : h.count ≤ l.places - 1 = omega arith in
    let both : h.count ≤ min (t / s) (l.places - 1) = least_of (t / s) (l.places - 1) h.count most last in
    let same : h.left ≡ t - h.count * s = omega arith in
    record { count = h.count; low = low; high = omega arith; on = subst (LeadTo ls) same h.on }
  where
    least_of : (a b c : ℕ) → c ≤ a → c ≤ b → c ≤ min a b
    least_of a b c x y = omega arith

-- ---- one leg among others

-- two legs one after the other, the other way round
swapped : (x y : Leg) (ls : List Leg) (t : ℕ) → LeadTo (x ∷ (y ∷ ls)) t → LeadTo (y ∷ (x ∷ ls)) t
swapped x y ls t h =
    let next : Turn y (LeadTo ls) h.left = h.on in
    let sum : t ≡ h.count * x.step + h.left = h.sum in
    let sum' : h.left ≡ next.count * y.step + next.left = next.sum in
    let all : t ≡ next.count * y.step + (h.count * x.step + next.left) = omega arith in
    record { count = next.count; few = next.few; left = h.count * x.step + next.left; sum = all; on = record { count = h.count; few = h.few; left = next.left; sum = refl; on = next.on } }

-- what holds behind a first leg
pub behind : (x : Leg) (ls ms : List Leg) → ((t : ℕ) → LeadTo ls t → LeadTo ms t) → (t : ℕ) → LeadTo (x ∷ ls) t → LeadTo (x ∷ ms) t
behind x ls ms on t h = record { count = h.count; few = h.few; left = h.left; sum = h.sum; on = on h.left h.on }

pub to_inserted : (l : Leg) (xs : List Leg) (i t : ℕ) → LeadTo (l ∷ xs) t → LeadTo (insert xs i l) t
to_inserted l xs zero t h = h
to_inserted l [] (suc i) t h = h
to_inserted l (x ∷ xs) (suc i) t h = behind x (l ∷ xs) (insert xs i l) (to_inserted l xs i) t (swapped l x xs t h)

pub from_inserted : (l : Leg) (xs : List Leg) (i t : ℕ) → LeadTo (insert xs i l) t → LeadTo (l ∷ xs) t
from_inserted l xs zero t h = h
from_inserted l [] (suc i) t h = h
from_inserted l (x ∷ xs) (suc i) t h = swapped x l xs t (behind x (insert xs i l) (l ∷ xs) (from_inserted l xs i) t h)

pub reach_inserted : (l : Leg) (xs : List Leg) (i : ℕ) → reach (insert xs i l) ≡ reach (l ∷ xs)
reach_inserted l xs zero = refl
reach_inserted l [] (suc i) = refl
reach_inserted l (x ∷ xs) (suc i) =
    let ih : reach (insert xs i l) ≡ (l.places - 1) * l.step + reach xs = reach_inserted l xs i in
    omega arith

each_inserted : (p : Leg → Bool) (l : Leg) (xs : List Leg) (i : ℕ) → p l ≡ true → list_all p xs ≡ true → list_all p (insert xs i l) ≡ true
each_inserted p l xs zero e h = and_from (p l) (list_all p xs) e h
each_inserted p l [] (suc i) e h = and_from (p l) true e refl
each_inserted p l (x ∷ xs) (suc i) e h =
    let q = and_parts (p x) (list_all p xs) h in
    and_from (p x) (list_all p (insert xs i l)) q.0 (each_inserted p l xs i e q.1)

-- a leg of one dimension is one of more
of_more : (k : ℕ) (l : Leg) → Bounds 1 l → is_leg (k + 1) l ≡ true
of_more k l b =
    let few : l.places ≤ 1 * 2097152 = b.few in
    within (k + 1) l b.some (omega arith) b.moves b.short

pub legs_inserted : (k : ℕ) (l : Leg) (xs : List Leg) (i : ℕ) → i ≤ length xs → Bounds 1 l → AreLegs k xs → AreLegs (k + 1) (insert xs i l)
legs_inserted k l xs i low b h =
    let long : length (insert xs i l) ≡ length xs + 1 = length-insert xs i l low in
    let few : length xs ≤ k = h.few in
    record { few = omega arith; each = each_inserted (is_leg (k + 1)) l xs i (of_more k l b) (all_more k (k + 1) xs (omega arith) h.each) }

-- ---- two legs of one step

abbrev pub joined : Leg → Leg → Leg
joined x l = record { places = x.places + (l.places - 1); step = x.step }

to_joined : (x l : Leg) (ls : List Leg) (t : ℕ) → x.step ≡ l.step → 1 ≤ x.places → LeadTo (l ∷ (x ∷ ls)) t → LeadTo (joined x l ∷ ls) t
to_joined x l ls t same some h =
    let next : Turn x (LeadTo ls) h.left = h.on in
    let few : h.count < l.places = h.few in
    let few' : next.count < x.places = next.few in
    let sum : t ≡ h.count * l.step + h.left = h.sum in
    let sum' : h.left ≡ next.count * x.step + next.left = next.sum in
    let turned : h.count * l.step ≡ h.count * x.step = ap (λ s. h.count * s) (sym same) in
    let all : t ≡ (h.count + next.count) * x.step + next.left = omega arith in
    record { count = h.count + next.count; few = omega arith; left = next.left; sum = all; on = next.on }

pub from_joined : (x l : Leg) (ls : List Leg) (t : ℕ) → x.step ≡ l.step → 1 ≤ x.places → 1 ≤ l.places → LeadTo (joined x l ∷ ls) t → LeadTo (l ∷ (x ∷ ls)) t
from_joined x l ls t same some some' h =
    let few : h.count < x.places + (l.places - 1) = h.few in
    let sum : t ≡ h.count * x.step + h.left = h.sum in
    elim (nat_lt h.count x.places) as (λ b. nat_lt h.count x.places ≡ b → LeadTo (l ∷ (x ∷ ls)) t) [
      | true ↦ λ e.
          let low : h.count < x.places = ltb-true h.count x.places e in
          let none : t ≡ 0 * l.step + t = omega arith in
          record { count = 0; few = omega arith; left = t; sum = none; on = record { count = h.count; few = low; left = h.left; sum = sum; on = h.on } }
      | false ↦ λ e.
          let high : x.places ≤ h.count = ltb-false h.count x.places e in
          let over : ℕ = h.count - (x.places - 1) in
          let whole : h.count ≡ over + (x.places - 1) = omega arith in
          let parts : h.count * x.step ≡ over * x.step + (x.places - 1) * x.step = ap (λ c. c * x.step) whole ∙ (let o : (over + (x.places - 1)) * x.step ≡ over * x.step + (x.places - 1) * x.step = omega arith in o) in
          let turned : over * l.step ≡ over * x.step = ap (λ s. over * s) (sym same) in
          let all : t ≡ over * l.step + ((x.places - 1) * x.step + h.left) = omega arith in
          record { count = over; few = omega arith; left = (x.places - 1) * x.step + h.left; sum = all; on = record { count = x.places - 1; few = omega arith; left = h.left; sum = refl; on = h.on } }
    ] refl

module _ (l d : Leg) where
  abbrev pub Joins : List Leg → ℕ → Type 0
  Joins xs i = (i < length xs) × (((get_or xs i d).step ≡ l.step) × ((1 ≤ (get_or xs i d).places) × (1 ≤ l.places)))

  abbrev pub with_joined : List Leg → ℕ → List Leg
  with_joined xs i = set xs i (joined (get_or xs i d) l)

  pub to_set : (xs : List Leg) (i t : ℕ) → Joins xs i → LeadTo (l ∷ xs) t → LeadTo (with_joined xs i) t
  to_set [] i t j h = absurd (let low : i < 0 = j.0 in omega arith)
  to_set (x ∷ xs) zero t j h = to_joined x l xs t j.1.0 j.1.1.0 h
  to_set (x ∷ xs) (suc i) t j h =
      let low : suc i < length (x ∷ xs) = j.0 in
      behind x (l ∷ xs) (with_joined xs i) (λ u. to_set xs i u (omega arith, j.1)) t (swapped l x xs t h)

  pub from_set : (xs : List Leg) (i t : ℕ) → Joins xs i → LeadTo (with_joined xs i) t → LeadTo (l ∷ xs) t
  from_set [] i t j h = absurd (let low : i < 0 = j.0 in omega arith)
  from_set (x ∷ xs) zero t j h = from_joined x l xs t j.1.0 j.1.1.0 j.1.1.1 h
  from_set (x ∷ xs) (suc i) t j h =
      let low : suc i < length (x ∷ xs) = j.0 in
      swapped x l xs t (behind x (with_joined xs i) (l ∷ xs) (λ u. from_set xs i u (omega arith, j.1)) t h)

  pub reach_set : (xs : List Leg) (i : ℕ) → Joins xs i → reach (with_joined xs i) ≡ reach (l ∷ xs)
  reach_set [] i j = absurd (let low : i < 0 = j.0 in omega arith)
  reach_set (x ∷ xs) zero j =
      let some : 1 ≤ x.places = j.1.1.0 in
      let turned : (l.places - 1) * l.step ≡ (l.places - 1) * x.step = ap (λ s. (l.places - 1) * s) (sym j.1.0) in
      let whole : (x.places + (l.places - 1)) - 1 ≡ (l.places - 1) + (x.places - 1) = omega arith in
      let parts : ((x.places + (l.places - 1)) - 1) * x.step ≡ (l.places - 1) * x.step + (x.places - 1) * x.step = ap (λ c. c * x.step) whole ∙ (let o : ((l.places - 1) + (x.places - 1)) * x.step ≡ (l.places - 1) * x.step + (x.places - 1) * x.step = omega arith in o) in
      omega arith
  reach_set (x ∷ xs) (suc i) j =
      let low : suc i < length (x ∷ xs) = j.0 in
      let ih : reach (with_joined xs i) ≡ (l.places - 1) * l.step + reach xs = reach_set xs i (omega arith, j.1) in
      omega arith

  each_set : (k : ℕ) (xs : List Leg) (i : ℕ) → i < length xs → Bounds 1 l → list_all (is_leg k) xs ≡ true → list_all (is_leg (k + 1)) (with_joined xs i) ≡ true
  each_set k [] i low b h = absurd (omega arith)
  each_set k (x ∷ xs) zero low b h =
      let p = and_parts (is_leg k x) (list_all (is_leg k) xs) h in
      let a = bounds k x p.0 in
      let some : 1 ≤ x.places = a.some in
      let few : x.places ≤ k * 2097152 = a.few in
      let few' : l.places ≤ 1 * 2097152 = b.few in
      and_from (is_leg (k + 1) (joined x l)) (list_all (is_leg (k + 1)) xs) (within (k + 1) (joined x l) (omega arith) (omega arith) a.moves a.short) (all_more k (k + 1) xs (omega arith) p.1)
  each_set k (x ∷ xs) (suc i) low b h =
      let p = and_parts (is_leg k x) (list_all (is_leg k) xs) h in
      and_from (is_leg (k + 1) x) (list_all (is_leg (k + 1)) (with_joined xs i)) (more_dimensions k (k + 1) x (omega arith) p.0) (each_set k xs i (omega arith) b p.1)

  pub legs_set : (k : ℕ) (xs : List Leg) (i : ℕ) → i < length xs → Bounds 1 l → AreLegs k xs → AreLegs (k + 1) (with_joined xs i)
  legs_set k xs i low b h =
      let long : length (with_joined xs i) ≡ length xs = length-set xs i (joined (get_or xs i d) l) in
      let few : length xs ≤ k = h.few in
      record { few = omega arith; each = each_set k xs i low b h.each }

pub refilled : (xs ws : List Leg) → length ws ≡ length xs → refill (length xs) xs ws ≡ ws
refilled xs ws same =
    ap (λ r. take (length xs) (ws ++ r)) (drop_all (length ws) xs (let o : length xs ≤ length ws = omega arith in o)) ∙ ap (take (length xs)) (append-nil ws)
    ∙ take_all (length xs) ws (let o : length ws ≤ length xs = omega arith in o)
