-- Lanes of views and of constants, by their cells.
use Rattle.std.proofs.Common.{◌≡◌, ℕ, zero, suc, ◌+◌, ◌*◌, ◌<◌, ◌≤◌, ℤ, pos, negsuc, List, [], ◌∷◌, ◌++◌, true, false, cond, not, ◌||◌, ◌&&◌, Option, Some, None, length, get_or, map, replicate, refl, ap, sym, subst, ◌∙◌, length-append, arith}
use Rattle.std.specs.Prelude.{◌==◌, is_some, slice_get}
use Rattle.std.specs.List.{flat_map, list_all}
use lib.IntN.{nat_abs}
use Rattle.std.proofs.lemmas.Bool.{eqb-false, eqb-true, false≢true, ltb-true}
use Rattle.std.proofs.lemmas.List.{length-map, length-replicate}
use Rattle.arr_num.specs.declared.elem.Elem.{Elem}
use Rattle.arr_view.specs.Strided.{Strided}
use Rattle.arr_num.specs.declared.elem.Elem.TheVariants.{U8, I32, I64, U64}
use Rattle.arr_num.specs.declared.code.Code.{Code}
use Rattle.arr_num.specs.declared.code.Code.TheVariants.{Power}
use Rattle.arr_num.specs.Kinds.{kind}
use Rattle.arr_num.specs.Numbers.{in_type}
use Rattle.arr_view.specs.Views.{identical, positions}
use Rattle.arr_ops.specs.declared.op.Op.{Op}
use Rattle.arr_ops.specs.declared.op.Operand.{Operand}
use Rattle.arr_ops.specs.declared.op.Operand.TheVariants.{Array, Number}
use Rattle.arr_ops.specs.Costs.{elem_of}
use Rattle.arr_ops.specs.Formed.{elementwise, is_array, kind_kept, numbers_kept, numbers_of, operands_kept, types_kept, well_formed}
use Rattle.arr_ops.proofs.Spots.{operands_of}
use Rattle.arr_ops.proofs.Tests.{both_left, both_right}
use Rattle.arr_strips.specs.Blocks.{first_shape}
use Rattle.arr_ops.specs.Memory.{Cell}
use Rattle.arr_store.specs.Buffers.{cell_of}
use Rattle.arr_store.specs.Cells.{blank}
use Rattle.arr_store.specs.declared.buffer.Buffer.{Buffer}
use Rattle.arr_strips.specs.Registers.{number_in, register_views}
use Rattle.arr_strips.specs.Strips.{loaded}
use Rattle.arr_strips.proofs.Sames.{same_base}
use Rattle.arr_lanes.specs.Lanes.{IsLane, number}
use Rattle.arr_machine.specs.Tasks.{Holds, TypedLanes}
use Rattle.arr_machine.proofs.Blocks.{register_below}
use Rattle.arr_contract.specs.Making.{IsExponent, constant_cell, constant_cells, kept_second, lane_cells, view_cells}

-- ---- a lane by its cell

pub cell_lane : (lanes : List Buffer) (cells : List Cell) (r : ℕ) (c : Cell) → map cell_of lanes ≡ cells → r < length cells → c ≡ get_or cells r c → IsLane c.elem (length c.numbers) (slice_get lanes r)
cell_lane [] [] r c e l is = absurd (omega arith)
cell_lane [] (k ∷ cells) r c e l is = absurd (cc)
cell_lane (b ∷ lanes) [] r c e l is = absurd (omega arith)
cell_lane (b ∷ lanes) (k ∷ cells) zero c e l is =
    let same : cell_of b ≡ c = first_same (cell_of b) k (map cell_of lanes) cells e ∙ sym is in
    (ap (λ (d : Cell). d.elem) same, (let n : length (cell_of b).numbers ≡ length c.numbers = ap (λ (d : Cell). length d.numbers) same in omega arith))
  where
    first_same : (x y : Cell) (xs ys : List Cell) → x ∷ xs ≡ y ∷ ys → x ≡ y
    first_same x y xs ys h = cc
cell_lane (b ∷ lanes) (k ∷ cells) (suc r) c e l is = cell_lane lanes cells r c (rest_same (cell_of b) k (map cell_of lanes) cells e) (omega arith) is
  where
    rest_same : (x y : Cell) (xs ys : List Cell) → x ∷ xs ≡ y ∷ ys → xs ≡ ys
    rest_same x y xs ys h = cc

pub cell_number : (lanes : List Buffer) (cells : List Cell) (r i : ℕ) (c : Cell) → map cell_of lanes ≡ cells → r < length cells → c ≡ get_or cells r c → number lanes r i ≡ get_or c.numbers i (pos 0)
cell_number [] [] r i c e l is = absurd (omega arith)
cell_number [] (k ∷ cells) r i c e l is = absurd (cc)
cell_number (b ∷ lanes) [] r i c e l is = absurd (omega arith)
cell_number (b ∷ lanes) (k ∷ cells) zero i c e l is = ap (λ (d : Cell). get_or d.numbers i (pos 0)) (first_same (cell_of b) k (map cell_of lanes) cells e ∙ sym is)
  where
    first_same : (x y : Cell) (xs ys : List Cell) → x ∷ xs ≡ y ∷ ys → x ≡ y
    first_same x y xs ys h = cc
cell_number (b ∷ lanes) (k ∷ cells) (suc r) i c e l is = cell_number lanes cells r i c (rest_same (cell_of b) k (map cell_of lanes) cells e) (omega arith) is
  where
    rest_same : (x y : Cell) (xs ys : List Cell) → x ∷ xs ≡ y ∷ ys → xs ≡ ys
    rest_same x y xs ys h = cc

-- ---- views

long_views : (ops : List Op) (room : ℕ) (vs : List Strided) → length (view_cells ops room vs) ≡ length vs
long_views ops room vs = length-map vs (λ (v : Strided). blank (elem_of ops v.base) room)

view_at : (ops : List Op) (room : ℕ) (vs : List Strided) (rest : List Cell) (v : Strided) → loaded vs v ≡ true
    → blank (elem_of ops v.base) room ≡ get_or (view_cells ops room vs ++ rest) (number_in vs v) (blank (elem_of ops v.base) room)
view_at ops room [] rest v h = absurd (false≢true h)
view_at ops room (w ∷ vs) rest v h =
    elim (identical w v) as (λ z. identical w v ≡ z → (z || loaded vs v) ≡ true
    → blank (elem_of ops v.base) room ≡ get_or (blank (elem_of ops w.base) room ∷ (view_cells ops room vs ++ rest)) (cond z 0 (suc (number_in vs v))) (blank (elem_of ops v.base) room)) [
      | true ↦ λ e t. ap (λ b. blank (elem_of ops b) room) (sym (same_base w v e))
      | false ↦ λ e t. view_at ops room vs rest v t
    ] refl h

pub lanes_typed : (ops : List Op) (room : ℕ) (lanes : List Buffer) → map cell_of lanes ≡ lane_cells ops room (register_views ops) → TypedLanes ops room lanes
lanes_typed ops room lanes e v on =
    let vs : List Strided = register_views ops in
    let below : number_in vs v < length vs = register_below ops v on in
    let long : length (lane_cells ops room vs) ≡ length (view_cells ops room vs) + length (flat_map (constant_cells room) ops) = length-append (view_cells ops room vs) (flat_map (constant_cells room) ops) in
    let views : length (view_cells ops room vs) ≡ length vs = long_views ops room vs in
    let lane : IsLane (elem_of ops v.base) (length (replicate room (pos 0))) (slice_get lanes (number_in vs v)) =
    cell_lane lanes (lane_cells ops room vs) (number_in vs v) (blank (elem_of ops v.base) room) e (omega arith) (view_at ops room vs (flat_map (constant_cells room) ops) v on) in
    subst (λ n. IsLane (elem_of ops v.base) n (slice_get lanes (number_in vs v))) (length-replicate room (pos 0)) lane

-- ---- constants

long_constants : (room : ℕ) (ops : List Op) → length (flat_map (constant_cells room) ops) ≡ 2 * length ops
long_constants room [] = omega arith
long_constants room (op ∷ ops) = let e : length (flat_map (constant_cells room) ops) ≡ 2 * length ops = long_constants room ops in omega arith

behind_get : (xs ys : List Cell) (i : ℕ) (d : Cell) → get_or (xs ++ ys) (length xs + i) d ≡ get_or ys i d
behind_get [] ys i d = ap (λ k. get_or ys k d) (let e : 0 + i ≡ i = omega arith in e)
behind_get (x ∷ xs) ys i d = ap (λ k. get_or (x ∷ (xs ++ ys)) k d) (let e : suc (length xs) + i ≡ suc (length xs + i) = omega arith in e) ∙ behind_get xs ys i d

first_at : (room : ℕ) (ops : List Op) (k : ℕ) (op : Op) (d : Cell) → k < length ops → op ≡ get_or ops k op → get_or (flat_map (constant_cells room) ops) (2 * k) d ≡ constant_cell op.from room op.first
first_at room [] k op d l e = absurd (omega arith)
first_at room (f ∷ ops) zero op d l e = ap (λ (g : Op). constant_cell g.from room g.first) (sym e)
first_at room (f ∷ ops) (suc k) op d l e = ap (λ n. get_or (flat_map (constant_cells room) (f ∷ ops)) n d) (let z : 2 * suc k ≡ suc (suc (2 * k)) = omega arith in z) ∙ first_at room ops k op d (omega arith) e

second_at : (room : ℕ) (ops : List Op) (k : ℕ) (op : Op) (d : Cell) → k < length ops → op ≡ get_or ops k op
    → get_or (flat_map (constant_cells room) ops) (2 * k + 1) d ≡ constant_cell op.from room (kept_second op.code op.second)
second_at room [] k op d l e = absurd (omega arith)
second_at room (f ∷ ops) zero op d l e = ap (λ (g : Op). constant_cell g.from room (kept_second g.code g.second)) (sym e)
second_at room (f ∷ ops) (suc k) op d l e = ap (λ n. get_or (flat_map (constant_cells room) (f ∷ ops)) n d) (let z : 2 * suc k + 1 ≡ suc (suc (2 * k + 1)) = omega arith in z) ∙ second_at room ops k op d (omega arith) e

replicated : (n i : ℕ) (z : ℤ) → i < n → get_or (replicate n z) i (pos 0) ≡ z
replicated zero i z l = absurd (omega arith)
replicated (suc n) zero z l = refl
replicated (suc n) (suc i) z l = replicated n i z (omega arith)

module _ (ops : List Op) (room : ℕ) (lanes : List Buffer) (e : map cell_of lanes ≡ lane_cells ops room (register_views ops)) (k : ℕ) (op : Op) (l : k < length ops) (is : op ≡ get_or ops k op) where
  long_all : length (lane_cells ops room (register_views ops)) ≡ length (register_views ops) + 2 * length ops
  long_all =
      let a : length (lane_cells ops room (register_views ops)) ≡ length (view_cells ops room (register_views ops)) + length (flat_map (constant_cells room) ops) = length-append (view_cells ops room (register_views ops)) (flat_map (constant_cells room) ops) in
      let b : length (view_cells ops room (register_views ops)) ≡ length (register_views ops) = long_views ops room (register_views ops) in
      let c : length (flat_map (constant_cells room) ops) ≡ 2 * length ops = long_constants room ops in
      omega arith

  holds_at : (i : ℕ) (z : ℤ) → i < 2 * length ops → ((d : Cell) → get_or (flat_map (constant_cells room) ops) i d ≡ record { elem = op.from; numbers = replicate room z }) → Holds ops room lanes op.from z (length (register_views ops) + i)
  holds_at i z u at =
      let cell : Cell = record { elem = op.from; numbers = replicate room z } in
      let views : length (view_cells ops room (register_views ops)) ≡ length (register_views ops) = long_views ops room (register_views ops) in
      let here : cell ≡ get_or (lane_cells ops room (register_views ops)) (length (register_views ops) + i) cell =
      sym (ap (λ n. get_or (lane_cells ops room (register_views ops)) (n + i) cell) (sym views) ∙ behind_get (view_cells ops room (register_views ops)) (flat_map (constant_cells room) ops) i cell ∙ at cell) in
      let inside : length (register_views ops) + i < length (lane_cells ops room (register_views ops)) = let a : length (lane_cells ops room (register_views ops)) ≡ length (register_views ops) + 2 * length ops = long_all in omega arith in
      record {
        behind = omega arith;
        there = subst (λ n. IsLane op.from n (slice_get lanes (length (register_views ops) + i))) (length-replicate room z) (cell_lane lanes (lane_cells ops room (register_views ops)) (length (register_views ops) + i) cell e inside here);
        each = λ q v. cell_number lanes (lane_cells ops room (register_views ops)) (length (register_views ops) + i) q cell e inside here ∙ replicated room q z v;
      }

  pub first_holds : (z : ℤ) → op.first ≡ Some (Number z) → Holds ops room lanes op.from z (length (register_views ops) + 2 * k)
  first_holds z h = holds_at (2 * k) z (omega arith) (λ d. first_at room ops k op d l is ∙ ap (constant_cell op.from room) h)

  pub second_holds : (z : ℤ) → kept_second op.code op.second ≡ Some (Number z) → Holds ops room lanes op.from z (length (register_views ops) + (2 * k + 1))
  second_holds z h = holds_at (2 * k + 1) z (omega arith) (λ d. second_at room ops k op d l is ∙ ap (constant_cell op.from room) h)

-- ---- registers

pub number_most : (vs : List Strided) (v : Strided) → number_in vs v ≤ length vs
number_most [] v = omega arith
number_most (w ∷ vs) v =
    elim (identical w v) as (λ z. cond z 0 (suc (number_in vs v)) ≤ suc (length vs)) [
      | true ↦ omega arith
      | false ↦ let l : number_in vs v ≤ length vs = number_most vs v in omega arith
    ]

-- ---- constants of operations

pub numbers_of_op : (op : Op) → well_formed op ≡ true → numbers_kept op.code op ≡ true
numbers_of_op op h = both_right (types_kept op.code op) _ (both_right (operands_kept (kind op.code) op) _ (both_left (kind_kept op) _ h))

pub first_kept : (code : Code) (op : Op) → numbers_kept code op ≡ true → list_all (in_type op.from) (numbers_of op.first) ≡ true
first_kept Power op h = both_left (list_all (in_type op.from) (numbers_of op.first)) _ h
first_kept _ op h = both_left (list_all (in_type op.from) (numbers_of op.first)) _ h

pub second_kept : (code : Code) (op : Op) → (code ≡ Power → ⊥) → numbers_kept code op ≡ true → list_all (in_type op.from) (numbers_of op.second) ≡ true
second_kept Power op n h = absurd (n refl)
second_kept _ op n h = both_right (list_all (in_type op.from) (numbers_of op.first)) _ h

pub exponent_there : (op : Op) → well_formed op ≡ true → op.code ≡ Power → IsExponent op.second
exponent_there op well e = at op.second some (both_left (not (is_array op.second)) _ rest) (both_right (not (is_array op.second)) _ rest)
  where
    some : is_some op.second ≡ true
    some = both_right (is_some op.first) _ (both_right (elementwise op) _ (ap (λ k. operands_kept (kind k) op) (sym e) ∙ operands_of op well))

    rest : (not (is_array op.second) && list_all (in_type U64) (numbers_of op.second)) ≡ true
    rest = both_right (list_all (in_type op.from) (numbers_of op.first)) _ (ap (λ k. numbers_kept k op) (sym e) ∙ numbers_of_op op well)

    at : (o : Option Operand) → is_some o ≡ true → not (is_array o) ≡ true → list_all (in_type U64) (numbers_of o) ≡ true → IsExponent o
    at None s n h = absurd (false≢true s)
    at (Some (Number z)) s n h = both_left (in_type U64 z) _ h
    at (Some (Array v)) s n h = absurd (false≢true n)

-- ---- the shape of the block

pub first_positions : (ss : List (List ℕ)) (rest : List ℕ) (n : ℕ) → n ∷ [] ≡ map positions ss → positions (first_shape ss rest) ≡ n
first_positions [] rest n e = absurd (cc)
first_positions (s ∷ ss) rest n e = sym (cc)

pub none_positions : (ss : List (List ℕ)) (rest : List ℕ) → [] ≡ map positions ss → positions (first_shape ss rest) ≡ positions rest
none_positions [] rest e = refl
none_positions (s ∷ ss) rest e = absurd (cc)

-- ---- naturals in lanes

abbrev pub IsNaturalType : Elem → Type 0
IsNaturalType U8 = Unit {0}
IsNaturalType U64 = Unit {0}
IsNaturalType _ = ⊥

natural_back : (t : Elem) (z : ℤ) → IsNaturalType t → in_type t z ≡ true → pos (nat_abs z) ≡ z
natural_back t (pos n) u h = refl
natural_back U8 (negsuc n) u h = let l : n < 0 = ltb-true n 0 h in absurd (omega arith)
natural_back U64 (negsuc n) u h = let l : n < 0 = ltb-true n 0 h in absurd (omega arith)
natural_back I32 (negsuc n) u h = absurd u
natural_back I64 (negsuc n) u h = absurd u

map_replicate : (n k : ℕ) → map pos (replicate n k) ≡ replicate n (pos k)
map_replicate zero k = refl
map_replicate (suc n) k = ap (λ zs. pos k ∷ zs) (map_replicate n k)

pub filled_naturals : (t u : Elem) (xs : List ℕ) (n : ℕ) (z : ℤ) → IsNaturalType u → t ≡ u → in_type t z ≡ true → xs ≡ replicate n (nat_abs z)
    → ◌≡◌ {A = Cell} (record { elem = u; numbers = map pos xs }) (record { elem = t; numbers = replicate n z })
filled_naturals t u xs n z natural same h is =
    Rattle.std.proofs.Common.ap₂ (λ (y : Elem) (ns : List ℤ). let c : Cell = record { elem = y; numbers = ns } in c) (sym same)
    (ap (map pos) is ∙ map_replicate n (nat_abs z) ∙ ap (replicate n) (natural_back u z natural (subst (λ y. in_type y z ≡ true) same h)))

-- ---- lists that grow beside another

end_get : {B : Type 0} (ys : List B) (y z : B) (i : ℕ) → length ys ≡ i → get_or (ys ++ y ∷ []) i z ≡ y
end_get [] y z zero e = refl
end_get [] y z (suc i) e = absurd (omega arith)
end_get (x ∷ ys) y z zero e = absurd (omega arith)
end_get (x ∷ ys) y z (suc i) e = end_get ys y z i (omega arith)

front_get : {B : Type 0} (ys zs : List B) (z : B) (k : ℕ) → k < length ys → get_or (ys ++ zs) k z ≡ get_or ys k z
front_get [] zs z k l = absurd (omega arith)
front_get (y ∷ ys) zs z zero l = refl
front_get (y ∷ ys) zs z (suc k) l = front_get ys zs z k (omega arith)

pub each_more : {A : Type 0} {B : Type 0} (P : ℕ → A → B → Type 0) (xs : List A) (ys : List B) (i : ℕ) (y : B) → length ys ≡ i → ((k : ℕ) (x : A) (z : B) → k < i → x ≡ get_or xs k x → z ≡ get_or ys k z → P k x z)
    → ((x : A) → x ≡ get_or xs i x → P i x y) → (k : ℕ) (x : A) (z : B) → k < i + 1 → x ≡ get_or xs k x → z ≡ get_or (ys ++ y ∷ []) k z → P k x z
each_more P xs ys i y long h here k x z l e f =
    elim (k == i) as (λ t. (k == i) ≡ t → P k x z) [
      | true ↦ λ d.
          let same : k ≡ i = eqb-true k i d in
          let is : y ≡ z = sym (f ∙ ap (λ q. get_or (ys ++ y ∷ []) q z) same ∙ end_get ys y z i long) in
          subst (λ q. P q x z) (sym same) (subst (P i x) is (here x (subst (λ q. x ≡ get_or xs q x) same e)))
      | false ↦ λ d.
          let ne : k ≡ i → ⊥ = eqb-false k i d in
          h k x z (omega arith) e (f ∙ front_get ys (y ∷ []) z k (omega arith))
    ] refl
