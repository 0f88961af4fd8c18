-- A recorded operation that may come next is at home and allowed.
use Rattle.std.proofs.Common.{◌≡◌, ℕ, ◌+◌, ◌<◌, ◌≤◌, zero, suc, List, [], ◌∷◌, ◌++◌, Bool, true, false, cond, not, ◌||◌, ◌&&◌, refl, ap, ap₂, sym, subst, ◌∙◌, arith, length, length-append, map, Option, Some, None}
use Rattle.std.proofs.lemmas.Bool.{false≢true, eqb-true, ltb-true, lt-ltb}
use Rattle.std.proofs.Math.Seq.{get_or-append_seam}
use Rattle.std.specs.Prelude.{◌==◌, nat_lt, is_none, is_some}
use Rattle.std.specs.List.{AllByRecursion, list_all, filter, range_with_len}
use Rattle.std.specs.Option.{option_to_list}
use Rattle.arr_num.specs.declared.elem.Elem.{Elem}
use Rattle.arr_num.specs.declared.elem.Elem.TheVariants.{U8}
use Rattle.arr_num.specs.declared.code.Code.{Code}
use Rattle.arr_num.specs.declared.code.Code.TheVariants.{Sync}
use Rattle.arr_view.specs.Strided.{Strided}
use Rattle.arr_view.specs.Views.{elements, positions}
use Rattle.arr_ops.specs.declared.op.Op.{Op}
use Rattle.arr_ops.specs.Ops.{at_slot, outputs, inputs, freed, views}
use Rattle.arr_ops.specs.Formed.{with_slot, well_formed, is_whole, kind_kept, writes_once, makes_whole, same_elem}
use Rattle.arr_view.specs.Views.{is_view}
use Rattle.arr_ops.proofs.Pairs.{All_weaker}
use Rattle.arr_ops.proofs.Tests.{both_left, both_right, all_of, same_from_test}
use Rattle.arr_ops.proofs.Spots.{none_from, same_elem_is}
use Rattle.arr_ops.proofs.FitsLaw.{all_append, all_map}
use Rattle.arr_elab.specs.Steps.{slot_from}
use Rattle.arr_elab.specs.Recording.{Scene, is_live, stands, may_act, made_by}
use Rattle.arr_record.proofs.Home.{Home, place_of, place_more, TypedAmong, InsideAmong, WholeAmong}
use Rattle.arr_record.proofs.Joined.{Allowed}

-- ---- a well formed operation stays so with any slot

module _ (op : Op) where
  abbrev bare_at : Code → Op
  bare_at code = record op { code = code; slot = None }

  slot_any : (code : Code) (next : ℕ) → well_formed (with_slot (bare_at code)) ≡ true → well_formed (at_slot (bare_at code) (slot_from next code)) ≡ true
  slot_any Sync next h = h
  slot_any _ next h = h

  pub well_with_slot : (next : ℕ) → op.slot ≡ None → well_formed (with_slot op) ≡ true → well_formed (at_slot op (slot_from next op.code)) ≡ true
  well_with_slot next e h =
      slot_any op.code next (subst (λ s. well_formed (with_slot (at_slot op s)) ≡ true) e h)

-- ---- a view that stands

pub record Standing (scene : Scene) (t : Elem) (v : Strided) : Type 0 where
  pub alive : is_live scene v.base ≡ true
  pub there : v.base < length scene.bases
  pub type_is : t ≡ (place_of scene.bases v.base).1
  pub inside : InsideAmong scene.bases v

pub standing : (scene : Scene) (t : Elem) (v : Strided) → stands scene t v ≡ true → Standing scene t v
standing scene t v h =
    let alive : is_live scene v.base ≡ true = both_left (is_live scene v.base) _ h in
    let rest = both_right (is_live scene v.base) _ h in
    record {
      alive = alive;
      there = ltb-true v.base (length scene.bases) (both_left (nat_lt v.base (length scene.bases)) _ alive);
      type_is = same_elem_is t (place_of scene.bases v.base).1 (both_left (same_elem t (place_of scene.bases v.base).1) _ rest);
      inside = both_right (same_elem t (place_of scene.bases v.base).1) _ rest;
    }

standing_all : (scene : Scene) (t : Elem) (vs : List Strided) → list_all (stands scene t) vs ≡ true → AllByRecursion (Standing scene t) vs
standing_all scene t vs h = All_weaker (λ v. stands scene t v ≡ true) (Standing scene t) (λ v e. standing scene t v e) vs (all_of (stands scene t) vs h)

-- among more bases
pub record Placed (bases : List (ℕ × Elem)) (t : Elem) (v : Strided) : Type 0 where
  pub typed_so : TypedAmong bases (v.base, t)
  pub inside_so : InsideAmong bases v

placed : (scene : Scene) (more : List (ℕ × Elem)) (t : Elem) (v : Strided) → Standing scene t v → Placed (scene.bases ++ more) t v
placed scene more t v s =
    let same : place_of (scene.bases ++ more) v.base ≡ place_of scene.bases v.base = place_more scene.bases more v.base s.there in
    record {
      typed_so = (
        let n : length (scene.bases ++ more) ≡ length scene.bases + length more = length-append scene.bases more in let l : v.base < length scene.bases = s.there in omega arith,
        s.type_is ∙ ap (λ (q : ℕ × Elem). q.1) (sym same),
      );
      inside_so = ap (λ (q : ℕ × Elem). list_all (λ e. nat_lt e q.0) (elements v)) same ∙ s.inside;
    }

-- ---- a view that is made

range_below : (a n k : ℕ) → a + n ≤ k → list_all (λ e. nat_lt e k) (range_with_len a n) ≡ true
range_below a zero k h = refl
range_below a (suc n) k h = ap₂ (λ x y. x && y) (lt-ltb a k (omega arith)) (range_below (a + 1) n k (omega arith))

pub made_place : (bases : List (ℕ × Elem)) (p : ℕ × Elem) (b : ℕ) → b ≡ length bases → place_of (bases ++ p ∷ []) b ≡ p
made_place bases p b e = ap (place_of (bases ++ p ∷ [])) e ∙ get_or-append_seam bases p [] (0, U8)

made_placed : (bases : List (ℕ × Elem)) (t : Elem) (o : Strided) → o.base ≡ length bases → is_whole o ≡ true
    → Placed (bases ++ (positions o.lengths, t) ∷ []) t o × WholeAmong (bases ++ (positions o.lengths, t) ∷ []) o
made_placed bases t o e w =
    let p : ℕ × Elem = (positions o.lengths, t) in
    let same : place_of (bases ++ p ∷ []) o.base ≡ p = made_place bases p o.base e in
    let all : elements o ≡ range_with_len 0 (positions o.lengths) = same_from_test (elements o) (range_with_len 0 (positions o.lengths)) w in (
      record {
        typed_so = (let n : length (bases ++ p ∷ []) ≡ length bases + 1 = length-append bases (p ∷ []) in omega arith, ap (λ (q : ℕ × Elem). q.1) (sym same));
        inside_so = ap (λ (q : ℕ × Elem). list_all (λ e. nat_lt e q.0) (elements o)) same ∙ ap (list_all (λ e. nat_lt e (positions o.lengths))) all
            ∙ range_below 0 (positions o.lengths) (positions o.lengths) (omega arith);
      },
      ap (λ (q : ℕ × Elem). q.0) (sym same),
    )

-- ---- the output

abbrev made_at : Elem → Option Strided → Bool → List (ℕ × Elem)
made_at t out makes = map (λ (o : Strided). (positions o.lengths, t)) (filter (λ _. makes) (option_to_list out))

-- what the output is, where the operation makes it and where it doesn't
record Target (scene : Scene) (t : Elem) (out : Option Strided) (makes : Bool) : Type 0 where
  placed_out : AllByRecursion (Placed (scene.bases ++ made_at t out makes) t) (option_to_list out)
  whole_out : makes ≡ true → AllByRecursion (WholeAmong (scene.bases ++ made_at t out makes)) (option_to_list out)
  next_out : makes ≡ true → AllByRecursion (λ (o : Strided). o.base ≡ length scene.bases) (option_to_list out)
  live_out : makes ≡ false → AllByRecursion (λ (o : Strided). is_live scene o.base ≡ true) (option_to_list out)

target : (scene : Scene) (t : Elem) (ins : List Strided) (out : Option Strided) (makes : Bool)
    → cond makes (list_all (λ (o : Strided). o.base == length scene.bases) (option_to_list out)) (list_all (stands scene t) (option_to_list out)) ≡ true
    → (not makes || (is_some out && list_all (λ (o : Strided). is_whole o && list_all (λ (v : Strided). not (v.base == o.base)) ins) (option_to_list out))) ≡ true
    → Target scene t out makes
target scene t ins None makes h w = record { placed_out = tt; whole_out = λ _. tt; next_out = λ _. tt; live_out = λ _. tt }
target scene t ins (Some o) true h w =
    let next : o.base ≡ length scene.bases = eqb-true o.base (length scene.bases) (both_left (o.base == length scene.bases) true h) in
    let whole : is_whole o ≡ true = both_left (is_whole o) _ (both_left (is_whole o && list_all (λ (v : Strided). not (v.base == o.base)) ins) true w) in
    let made = made_placed scene.bases t o next whole in
    record { placed_out = (made.0, tt); whole_out = λ _. (made.1, tt); next_out = λ _. (next, tt); live_out = λ e. absurd (false≢true (sym e)) }
target scene t ins (Some o) false h w =
    let s : Standing scene t o = standing scene t o (both_left (stands scene t o) true h) in
    record { placed_out = (placed scene [] t o s, tt); whole_out = λ e. absurd (false≢true e); next_out = λ e. absurd (false≢true e); live_out = λ _. (s.alive, tt) }

-- ---- the operation

none_freed : (P : ℕ → Type 0) (frees : Option ℕ) → frees ≡ None → AllByRecursion P (option_to_list frees)
none_freed P frees e = subst (λ f. AllByRecursion P (option_to_list f)) (sym e) tt

pub record Recorded (scene : Scene) (live : ℕ → Bool) (op : Op) (g : Op) : Type 0 where
  pub home : Home (scene.bases ++ made_by op) g
  pub allowed : Allowed scene.bases live g
  pub no_slot : op.slot ≡ None
  pub no_free : op.frees ≡ None

pub recorded : (scene : Scene) (live : ℕ → Bool) (op : Op) (next : ℕ) → ((b : ℕ) → is_live scene b ≡ true → live b ≡ true) → may_act scene op ≡ true
    → Recorded scene live op (at_slot op (slot_from next op.code))
recorded scene live op next lives h =
    let bases : List (ℕ × Elem) = scene.bases ++ made_by op in
    let no_slot : op.slot ≡ None = none_from op.slot (both_left (is_none op.slot) _ h) in
    let a = both_right (is_none op.slot) _ h in
    let no_free : op.frees ≡ None = none_from op.frees (both_left (is_none op.frees) _ a) in
    let b = both_right (is_none op.frees) _ a in
    let well : well_formed (with_slot op) ≡ true = both_left (well_formed (with_slot op)) _ b in
    let c = both_right (well_formed (with_slot op)) _ b in
    let reads : AllByRecursion (Standing scene op.from) (inputs op) = standing_all scene op.from (inputs op) (both_left (list_all (stands scene op.from) (inputs op)) _ c) in
    let whole : makes_whole op ≡ true =
    both_right (writes_once op) _ (both_right (list_all is_view (views op)) _ (both_right (kind_kept (with_slot op)) _ well)) in
    let out : Target scene op.to op.out op.makes = target scene op.to (inputs op) op.out op.makes (both_right (list_all (stands scene op.from) (inputs op)) _ c) whole in
    let ins : AllByRecursion (Placed bases op.from) (inputs op) = All_weaker (Standing scene op.from) (Placed bases op.from) (λ v s. placed scene (made_by op) op.from v s) (inputs op) reads in
    record {
      home = record {
        well = well_with_slot op next no_slot well;
        typed_there = all_append (TypedAmong bases) _ _
            (all_append (TypedAmong bases) _ _
            (all_map (TypedAmong bases) (λ (v : Strided). (v.base, op.to)) (outputs op) (All_weaker (Placed bases op.to) (λ (v : Strided). TypedAmong bases (v.base, op.to)) (λ v p. p.typed_so) (outputs op) out.placed_out))
            (all_map (TypedAmong bases) (λ (v : Strided). (v.base, op.from)) (inputs op) (All_weaker (Placed bases op.from) (λ (v : Strided). TypedAmong bases (v.base, op.from)) (λ v p. p.typed_so) (inputs op) ins)))
            (all_map (TypedAmong bases) (λ b. (b, op.to)) (freed op) (none_freed (λ b. TypedAmong bases (b, op.to)) op.frees no_free));
        inside = all_append (InsideAmong bases) (outputs op) (inputs op) (All_weaker (Placed bases op.to) (InsideAmong bases) (λ v p. p.inside_so) (outputs op) out.placed_out)
            (All_weaker (Placed bases op.from) (InsideAmong bases) (λ v p. p.inside_so) (inputs op) ins);
        whole = out.whole_out;
      };
      allowed = record {
        reads = All_weaker (Standing scene op.from) (λ (v : Strided). live v.base ≡ true) (λ v s. lives v.base s.alive) (inputs op) reads;
        frees = none_freed (λ b. live b ≡ true) op.frees no_free;
        writes = λ e. All_weaker (λ (o : Strided). is_live scene o.base ≡ true) (λ (o : Strided). live o.base ≡ true) (λ o t. lives o.base t) (outputs op) (out.live_out e);
        makes = out.next_out;
      };
      no_slot = no_slot;
      no_free = no_free;
    }
