-- The numbers of one view, brought to its lane.
use Rattle.std.proofs.Common.{◌≡◌, ◌≢◌, ℕ, ◌+◌, ◌<◌, ◌≤◌, List, [], ◌∷◌, true, false, Option, Some, None, length, get_or, set, refl, ap, ap₂, sym, subst, ◌∙◌, arith}
use Rattle.std.specs.Prelude.{◌==◌, nat_lt, not, slice_get}
use Rattle.std.specs.List.{AllByRecursion}
use Rattle.std.proofs.lemmas.Bool.{eqb-true, eqb-false, ltb-true, ltb-false, not-true}
use Rattle.std.proofs.lemmas.List.{get_or_past, get_or-set_other, get_or-set_same, length-set}
use Rattle.arr_view.specs.Strided.{Strided}
use Rattle.arr_view.specs.Views.{identical}
use Rattle.arr_ops.specs.declared.op.Op.{Op}
use Rattle.arr_ops.specs.Costs.{elem_of}
use Rattle.arr_ops.specs.Memory.{Cell}
use Rattle.arr_ops.proofs.Spots.{all_two}
use Rattle.arr_ops.proofs.Tests.{all_of}
use Rattle.arr_picks.specs.Picks.{AllBelow}
use Rattle.arr_picks.proofs.Named.{below_at}
use Rattle.arr_store.specs.Buffers.{cell_of}
use Rattle.arr_store.specs.Cells.{number_at, size_at}
use Rattle.arr_store.specs.Runs.{IsOf}
use Rattle.arr_store.specs.declared.buffer.Buffer.{Buffer}
use Rattle.arr_strips.specs.Columns.{place_at}
use Rattle.arr_strips.specs.Registers.{number_in, register_views}
use Rattle.arr_strips.specs.Strips.{loaded}
use Rattle.arr_strips.proofs.Registers.{one_number}
use Rattle.arr_lanes.specs.declared.strip.Place.{Place}
use Rattle.arr_lanes.specs.declared.strip.Strip.{Strip}
use Rattle.arr_lanes.specs.Lanes.{IsLane, PlaceFits, PlacesFit, held, held_at}
use Rattle.arr_machine.specs.Lent.{AreOwn, is_lent, leaves, own_views}
use Rattle.arr_machine.specs.Ports.{Brings, IsThere, StandsAt}
use Rattle.arr_machine.proofs.Blocks.{register_below}

-- where no lane is read elsewhere
pub none_own : (ops : List Op) (places : List (Option Place)) → ((r : ℕ) → get_or places r None ≡ None) → (fs : List Op) → AllByRecursion (λ op. AllByRecursion (λ v. get_or places (number_in (register_views ops) v) None ≡ None) (own_views op)) fs
none_own ops places none [] = tt
none_own ops places none (op ∷ fs) = (each (own_views op), none_own ops places none fs)
  where
    each : (vs : List Strided) → AllByRecursion (λ v. get_or places (number_in (register_views ops) v) None ≡ None) vs
    each [] = tt
    each (v ∷ vs) = (none (number_in (register_views ops) v), each vs)

-- another place for the register of a view
module _ (ops : List Op) (v : Strided) (on : loaded (register_views ops) v ≡ true) (places : List (Option Place)) (own : AreOwn ops places) (o : Option Place) where
  elsewhere : (r : ℕ) → number_in (register_views ops) v ≢ r → get_or (set places (number_in (register_views ops) v) o) r None ≡ get_or places r None
  elsewhere r ne = get_or-set_other places (number_in (register_views ops) v) r o None (λ e. ne (sym e))

  far : (r : ℕ) → length (register_views ops) ≤ r → get_or (set places (number_in (register_views ops) v) o) r None ≡ None
  far r l = elsewhere r (λ e. let b : number_in (register_views ops) v < length (register_views ops) = register_below ops v on in absurd (omega arith)) ∙ own.constants r l

  -- the view is lent
  pub own_lent : is_lent ops v ≡ true → AreOwn ops (set places (number_in (register_views ops) v) o)
  own_lent lent =
      record {
        views = all_two (λ op. AllByRecursion (λ w. get_or places (number_in (register_views ops) w) None ≡ None) (own_views op)) (λ op. leaves op v ≡ true)
            (λ op. AllByRecursion (λ w. get_or (set places (number_in (register_views ops) v) o) (number_in (register_views ops) w) None ≡ None) (own_views op))
            (λ op x y.
            all_two (λ w. get_or places (number_in (register_views ops) w) None ≡ None) (λ w. not (identical v w) ≡ true) (λ w. get_or (set places (number_in (register_views ops) v) o) (number_in (register_views ops) w) None ≡ None)
            (λ w none other. elsewhere (number_in (register_views ops) w) (eqb-false (number_in (register_views ops) v) (number_in (register_views ops) w) (one_number (register_views ops) v w on ∙ not-true (identical v w) other)) ∙ none) (own_views op) x (all_of (λ w. not (identical v w)) (own_views op) y)) ops own.views (all_of (λ op. leaves op v) ops lent);
        constants = far;
      }

  -- or it has its lane
  pub own_kept : o ≡ None → number_in (register_views ops) v < length places → AreOwn ops (set places (number_in (register_views ops) v) o)
  own_kept none there =
      record {
        views = Rattle.arr_ops.proofs.Pairs.All_weaker (λ op. AllByRecursion (λ w. get_or places (number_in (register_views ops) w) None ≡ None) (own_views op))
            (λ op. AllByRecursion (λ w. get_or (set places (number_in (register_views ops) v) o) (number_in (register_views ops) w) None ≡ None) (own_views op))
            (λ op x.
            Rattle.arr_ops.proofs.Pairs.All_weaker (λ w. get_or places (number_in (register_views ops) w) None ≡ None) (λ w. get_or (set places (number_in (register_views ops) v) o) (number_in (register_views ops) w) None ≡ None)
            (λ w was. at (number_in (register_views ops) w) was) (own_views op) x) ops own.views;
        constants = far;
      }
    where
      at : (r : ℕ) → get_or places r None ≡ None → get_or (set places (number_in (register_views ops) v) o) r None ≡ None
      at r was =
          elim (number_in (register_views ops) v == r) as (λ z. (number_in (register_views ops) v == r) ≡ z → get_or (set places (number_in (register_views ops) v) o) r None ≡ None) [
            | true ↦ λ e.
                subst (λ q. get_or (set places (number_in (register_views ops) v) o) q None ≡ None) (eqb-true (number_in (register_views ops) v) r e) (get_or-set_same places (number_in (register_views ops) v) o None there ∙ none)
            | false ↦ λ e. elsewhere r (eqb-false (number_in (register_views ops) v) r e) ∙ was
          ] refl

  -- places fit as before, if this one does
  pub fit_changed : (n : ℕ) (lanes new : List Buffer) (f : ℕ → Option Cell) → length new ≡ length lanes → ((r : ℕ) → number_in (register_views ops) v ≢ r → slice_get new r ≡ slice_get lanes r)
      → number_in (register_views ops) v < length places → PlaceFits n f (slice_get new (number_in (register_views ops) v)) o → PlacesFit n lanes places f → PlacesFit n new (set places (number_in (register_views ops) v) o) f
  fit_changed n lanes new f long same there fits fit =
      record {
        long = length-set places (number_in (register_views ops) v) o ∙ fit.long ∙ sym long;
        each = λ r. elim (number_in (register_views ops) v == r) as (λ z. (number_in (register_views ops) v == r) ≡ z → PlaceFits n f (slice_get new r) (get_or (set places (number_in (register_views ops) v) o) r None)) [
          | true ↦ λ e.
              subst (λ q. PlaceFits n f (slice_get new q) (get_or (set places (number_in (register_views ops) v) o) q None)) (eqb-true (number_in (register_views ops) v) r e)
              (subst (PlaceFits n f (slice_get new (number_in (register_views ops) v))) (sym (get_or-set_same places (number_in (register_views ops) v) o None there)) fits)
          | false ↦ λ e.
              let ne : number_in (register_views ops) v ≢ r = eqb-false (number_in (register_views ops) v) r e in
              subst (PlaceFits n f (slice_get new r)) (sym (elsewhere r ne)) (subst (λ l. PlaceFits n f l (get_or places r None)) (sym (same r ne)) (fit.each r))
        ] refl;
      }

  -- and its register holds what stands there, others what they held
  pub brings : (s : Strip) (lanes new : List Buffer) (f : ℕ → Option Cell) → ((r : ℕ) → number_in (register_views ops) v ≢ r → slice_get new r ≡ slice_get lanes r) → number_in (register_views ops) v < length places
      → ((i : ℕ) → i < s.count → held_at f o (slice_get new (number_in (register_views ops) v)) i ≡ number_at (f v.base) (place_at v (s.position + i)))
      → Brings ops s v f (held lanes places f) (held new (set places (number_in (register_views ops) v) o) f)
  brings s lanes new f same there is =
      record {
        here = λ i u. ap (λ q. held_at f q (slice_get new (number_in (register_views ops) v)) i) (get_or-set_same places (number_in (register_views ops) v) o None there) ∙ is i u;
        others = λ r i ne. ap₂ (λ q l. held_at f q l i) (elsewhere r ne) (same r ne);
      }

-- a place where a view stands is fit for its lane
pub stands_fit : (ops : List Op) (s : Strip) (f : ℕ → Option Cell) (v : Strided) (p : Place) (room : ℕ) (l : Option Buffer) → StandsAt ops s f v p → IsThere ops f v → IsLane (elem_of ops v.base) room l → PlaceFits s.width f l (Some p)
stands_fit ops s f v p room None at there is = absurd is
stands_fit ops s f v p room (Some l) at there is = (
  subst (λ b. IsOf (cell_of l).elem (f b)) (sym at.base) (subst (λ t. IsOf t (f v.base)) (sym is.0) there.typed),
  subst (λ b. p.start + s.width ≤ size_at (f b)) (sym at.base) at.long,
)

pub stands_held : (ops : List Op) (s : Strip) (f : ℕ → Option Cell) (v : Strided) (p : Place) (i : ℕ) → StandsAt ops s f v p → i < s.count → number_at (f p.base) (p.start + i) ≡ number_at (f v.base) (place_at v (s.position + i))
stands_held ops s f v p i at u = ap₂ (λ b q. number_at (f b) q) at.base (sym (at.each i u))

-- no place of a view is behind the end
pub place_within : (n : ℕ) (es : List ℕ) (k : ℕ) → AllBelow n es → get_or es k 0 ≤ n
place_within n es k below =
    elim (nat_lt k (length es)) as (λ z. nat_lt k (length es) ≡ z → get_or es k 0 ≤ n) [
      | true ↦ λ e. let low : get_or es k 0 < n = below_at n es k below (ltb-true k (length es) e) in omega arith
      | false ↦ λ e. let none : get_or es k 0 ≡ 0 = get_or_past es k 0 (ltb-false k (length es) e) in omega arith
    ] refl
