-- Lanes of their own: those of outputs, of what is shown, and of constants.
use Rattle.std.proofs.Common.{◌≡◌, ℕ, ◌<◌, ◌-◌, List, ◌++◌, ◌∷◌, [], Bool, true, false, cond, Option, Some, None, length, get_or, map, refl, ap, ap₂, sym, subst, ◌∙◌}
use Rattle.std.specs.Prelude.{is_some, not, option_to_list, slice_get}
use Rattle.std.specs.List.{AllByRecursion, filter, range_with_len}
use Rattle.arr_num.specs.Kinds.{is_reduction}
use Rattle.arr_view.specs.Strided.{Strided}
use Rattle.arr_view.specs.Views.{identical}
use Rattle.arr_ops.specs.declared.op.Op.{Op}
use Rattle.arr_ops.specs.declared.op.Operand.TheVariants.{Array}
use Rattle.arr_ops.specs.Memory.{Cell}
use Rattle.arr_ops.specs.Ops.{freed_by, outputs, view_of}
use Rattle.arr_ops.proofs.Pairs.{All_filter, All_weaker}
use Rattle.arr_ops.proofs.Spots.{all_left, all_right}
use Rattle.arr_store.specs.declared.buffer.Buffer.{Buffer}
use Rattle.arr_strips.specs.Blocks.{all_stores, stores}
use Rattle.arr_strips.specs.Columns.{Columns, filled}
use Rattle.arr_strips.specs.Registers.{number_in, register_views}
use Rattle.arr_strips.specs.Strips.{Bases, lane_of, part, put_at, stored}
use Rattle.arr_strips.proofs.Sames.{all_distinct, all_flat_map}
use Rattle.arr_lanes.specs.declared.strip.Place.{Place}
use Rattle.arr_lanes.specs.Lanes.{held, held_at, number}
use Rattle.arr_machine.specs.Lent.{AreOwn, own_views}
use Rattle.arr_machine.specs.Ports.{lane_columns}
use Rattle.arr_machine.proofs.Blocks.{all_get}
use Rattle.arr_machine.proofs.Operands.{Behind}

-- a lane is the register of an output of a block
pub record Written (ops : List Op) (lane : ℕ) : Type 0 where
  pub at : ℕ
  pub op : Op
  pub there : at < length ops
  pub item : op ≡ get_or ops at op
  pub view : Strided
  pub out : op.out ≡ Some view
  pub register : lane ≡ number_in (register_views ops) view

module _ (ops : List Op) (places : List (Option Place)) (own : AreOwn ops places) where
  -- behind the registers it is what lanes hold
  pub behind_own : (lanes : List Buffer) (f : ℕ → Option Cell) → Behind ops lanes (held lanes places f)
  behind_own lanes f r far i = ap (λ o. held_at f o (slice_get lanes r) i) (own.constants r far)

  its_own : (k : ℕ) (op : Op) → k < length ops → op ≡ get_or ops k op → AllByRecursion (λ v. get_or places (number_in (register_views ops) v) None ≡ None) (own_views op)
  its_own k op l e = all_get (λ op. AllByRecursion (λ v. get_or places (number_in (register_views ops) v) None ≡ None) (own_views op)) ops k op l e own.views

  -- an output is read in its lane
  pub own_written : (lane : ℕ) → Written ops lane → get_or places lane None ≡ None
  own_written lane w =
      ap (λ r. get_or places r None) w.register
      ∙ (subst (λ x. AllByRecursion (λ v. get_or places (number_in (register_views ops) v) None ≡ None) (option_to_list x ++ cond (is_some w.op.slot) (view_of w.op.first) [])) w.out (its_own w.at w.op w.there w.item)).0

  -- so is what is shown
  pub own_shown : (k : ℕ) (op : Op) → k < length ops → op ≡ get_or ops k op → (s : ℕ) (v : Strided) → op.slot ≡ Some s → op.first ≡ Some (Array v) → get_or places (number_in (register_views ops) v) None ≡ None
  own_shown k op l e s v slot first =
      (subst (λ x. AllByRecursion (λ v. get_or places (number_in (register_views ops) v) None ≡ None) (view_of x)) first
      (subst (λ x. AllByRecursion (λ v. get_or places (number_in (register_views ops) v) None ≡ None) (cond (is_some x) (view_of op.first) [])) slot
      (all_right (λ v. get_or places (number_in (register_views ops) v) None ≡ None) (outputs op) (cond (is_some op.slot) (view_of op.first) []) (its_own k op l e)))).0

  -- so is what the walk stores
  pub own_stores : AllByRecursion (λ v. get_or places (number_in (register_views ops) v) None ≡ None) (stores ops)
  own_stores =
      all_distinct identical (λ v. get_or places (number_in (register_views ops) v) None ≡ None) (all_stores ops)
      (all_flat_map (λ v. get_or places (number_in (register_views ops) v) None ≡ None) (λ (op : Op). filter (λ (v : Strided). not (freed_by ops v.base)) (filled op)) ops
      (All_weaker (λ op. AllByRecursion (λ v. get_or places (number_in (register_views ops) v) None ≡ None) (own_views op))
      (λ op. AllByRecursion (λ v. get_or places (number_in (register_views ops) v) None ≡ None) (filter (λ (v : Strided). not (freed_by ops v.base)) (filled op)))
      (λ op h. All_filter (λ v. get_or places (number_in (register_views ops) v) None ≡ None) (λ (v : Strided). not (freed_by ops v.base)) (filled op)
      (All_weaker (λ v. get_or places (number_in (register_views ops) v) None ≡ None) (λ v. not (freed_by ops v.base) ≡ true → get_or places (number_in (register_views ops) v) None ≡ None) (λ v x _. x) (filled op) (outs op (is_reduction op.code) h))) ops own.views))
    where
      outs : (op : Op) (folds : Bool) → AllByRecursion (λ v. get_or places (number_in (register_views ops) v) None ≡ None) (own_views op)
          → AllByRecursion (λ v. get_or places (number_in (register_views ops) v) None ≡ None) (option_to_list (cond folds None op.out))
      outs op true h = tt
      outs op false h = all_left (λ v. get_or places (number_in (register_views ops) v) None ≡ None) (outputs op) (cond (is_some op.slot) (view_of op.first) []) h

-- what is stored depends on the columns of its views alone
pub stored_same : (p c : ℕ) (h g : Columns) (vs : List Strided) (f : Bases) → AllByRecursion (λ v. (q : ℕ) → h q v ≡ g q v) vs → stored p c h vs f ≡ stored p c g vs f
stored_same p c h g [] f e = refl
stored_same p c h g (v ∷ vs) f e = ap (λ xs. stored p c h vs (put_at v.base (part v p c) xs f)) (each (range_with_len p c)) ∙ stored_same p c h g vs (put_at v.base (part v p c) (lane_of g v p c) f) e.1
  where
    each : (qs : List ℕ) → map (λ q. h q v) qs ≡ map (λ q. g q v) qs
    each [] = refl
    each (q ∷ qs) = ap₂ (λ x xs. x ∷ xs) (e.0 q) (each qs)

-- what lanes hold is stored, wherever other views are read
pub stored_own : (ops : List Op) (places : List (Option Place)) (own : AreOwn ops places) (lanes : List Buffer) (m : ℕ → Option Cell) (p c : ℕ) (f : Bases)
    → stored p c (lane_columns ops (number lanes) p) (stores ops) f ≡ stored p c (lane_columns ops (held lanes places m) p) (stores ops) f
stored_own ops places own lanes m p c f =
    stored_same p c (lane_columns ops (number lanes) p) (lane_columns ops (held lanes places m) p) (stores ops) f
    (All_weaker (λ v. get_or places (number_in (register_views ops) v) None ≡ None) (λ v. (q : ℕ) → lane_columns ops (number lanes) p q v ≡ lane_columns ops (held lanes places m) p q v)
    (λ v none q. sym (ap (λ o. held_at m o (slice_get lanes (number_in (register_views ops) v)) (q - p)) none)) (stores ops) (own_stores ops places own))
