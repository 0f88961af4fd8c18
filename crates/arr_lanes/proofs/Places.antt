-- Lanes, one at a time.
use Rattle.std.proofs.Common.{◌≡◌, ◌≢◌, ℕ, suc, zero, ◌<◌, ℤ, List, [], ◌∷◌, true, false, cond, refl, ap, sym, ◌∙◌, subst, arith, length, get_or, map, slice_get, slice_set, Option, Some, None}
use Rattle.std.proofs.lemmas.Bool.{eqb-true, eqb-false}
use Rattle.std.proofs.lemmas.Option.{slice_get-get_or}
use Rattle.std.specs.Prelude.{◌==◌}
use Rattle.std.specs.List.{AllByRecursion}
use Rattle.arr_num.specs.declared.elem.Elem.{Elem}
use Rattle.arr_store.specs.declared.buffer.Buffer.{Buffer}
use Rattle.arr_ops.specs.Memory.{Cell}
use Rattle.arr_lanes.specs.declared.strip.Place.{Place}
use Rattle.arr_lanes.specs.Lanes.{Becomes, IsLane, PlaceFits, PlacesFit, held, held_at}

pub same_numbers : (xs : List ℤ) → map (λ z. z) xs ≡ xs
same_numbers [] = refl
same_numbers (x ∷ xs) = ap (λ r. x ∷ r) (same_numbers xs)

pub in_lanes : (t : Elem) (n : ℕ) (lanes : List Buffer) (r : ℕ) → IsLane t n (slice_get lanes r) → r < length lanes
in_lanes t n [] r h = absurd h
in_lanes t n (l ∷ lanes) zero h = omega arith
in_lanes t n (l ∷ lanes) (suc r) h = let k : r < length lanes = in_lanes t n lanes r h in omega arith

pub read_lane : (lanes : List Buffer) (r : ℕ) (x : Buffer) → r < length lanes → x ≡ get_or lanes r x → slice_get lanes r ≡ Some x
read_lane lanes r x l e = slice_get-get_or lanes r x l ∙ ap Some (sym e)

pub set_here : (lanes : List Buffer) (dest : ℕ) (l : Buffer) → dest < length lanes → slice_get (slice_set lanes dest l) dest ≡ Some l
set_here [] dest l h = absurd (omega arith)
set_here (k ∷ lanes) zero l h = refl
set_here (k ∷ lanes) (suc dest) l h = set_here lanes dest l (omega arith)

pub set_elsewhere : (lanes : List Buffer) (dest : ℕ) (l : Buffer) (r : ℕ) → dest ≢ r → slice_get (slice_set lanes dest l) r ≡ slice_get lanes r
set_elsewhere [] dest l r ne = refl
set_elsewhere (k ∷ lanes) zero l zero ne = absurd (ne refl)
set_elsewhere (k ∷ lanes) zero l (suc r) ne = refl
set_elsewhere (k ∷ lanes) (suc dest) l zero ne = refl
set_elsewhere (k ∷ lanes) (suc dest) l (suc r) ne = set_elsewhere lanes dest l r (λ e. ne (ap suc e))

-- what a lane holds may be said in other words
pub becomes_same : (t u : Elem) (room count dest : ℕ) (wanted other : ℕ → ℤ) (old new : List Buffer) → t ≡ u → ((i : ℕ) → i < count → wanted i ≡ other i) → Becomes t room count dest wanted old new
    → Becomes u room count dest other old new
becomes_same t u room count dest wanted other old new e same b =
    record { long = b.long; numbers = λ i l. b.numbers i l ∙ same i l; there = subst (λ k. IsLane k room (slice_get new dest)) e b.there; others = b.others }

-- lanes keep their types
pub lane_stays : (t u : Elem) (room count dest r : ℕ) (wanted : ℕ → ℤ) (old new : List Buffer) → IsLane t room (slice_get old dest) → Becomes t room count dest wanted old new
    → IsLane u room (slice_get old r) → IsLane u room (slice_get new r)
lane_stays t u room count dest r wanted old new was b h =
    elim (dest == r) as (λ z. (dest == r) ≡ z → IsLane u room (slice_get new r)) [
      | true ↦ λ e. let same : dest ≡ r = eqb-true dest r e in
          subst (λ q. IsLane u room (slice_get new q)) same (subst (λ k. IsLane k room (slice_get new dest)) (one_type (slice_get old dest) was (subst (λ q. IsLane u room (slice_get old q)) (sym same) h)) b.there)
      | false ↦ λ e. subst (IsLane u room) (sym (b.others r (eqb-false dest r e))) h
    ] refl
  where
    one_type : (o : Rattle.std.specs.Prelude.Option Buffer) → IsLane t room o → IsLane u room o → t ≡ u
    one_type (Some l) x y = sym x.0 ∙ y.0
    one_type Rattle.std.specs.Prelude.None x y = absurd x

module _ (t : Elem) (room count dest : ℕ) (wanted : ℕ → ℤ) (old new : List Buffer) (places : List (Option Place)) (f : ℕ → Option Cell) (b : Becomes t room count dest wanted old new) (own : get_or places dest None ≡ None) where
  -- every register after a line whose own lane is not read elsewhere
  pub becomes_held : (r i : ℕ) → i < count → held new places f r i ≡ cond (dest == r) (wanted i) (held old places f r i)
  becomes_held r i l =
      elim (dest == r) as (λ z. (dest == r) ≡ z → held new places f r i ≡ cond z (wanted i) (held old places f r i)) [
        | true ↦ λ e. ap (λ q. held new places f q i) (sym (eqb-true dest r e)) ∙ ap (λ o. held_at f o (slice_get new dest) i) own ∙ b.numbers i l
        | false ↦ λ e. ap (λ o. held_at f (get_or places r None) o i) (b.others r (eqb-false dest r e))
      ] refl

  pub places_stay : (n : ℕ) → PlacesFit n old places f → PlacesFit n new places f
  places_stay n fit =
      record {
        long = fit.long ∙ sym b.long;
        each = λ r. elim (dest == r) as (λ z. (dest == r) ≡ z → PlaceFits n f (slice_get new r) (get_or places r None)) [
          | true ↦ λ e. subst (λ q. PlaceFits n f (slice_get new q) (get_or places q None)) (eqb-true dest r e) (subst (PlaceFits n f (slice_get new dest)) (sym own) tt)
          | false ↦ λ e. subst (λ o. PlaceFits n f o (get_or places r None)) (sym (b.others r (eqb-false dest r e))) (fit.each r)
        ] refl;
      }
