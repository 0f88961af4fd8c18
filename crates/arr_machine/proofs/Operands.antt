-- Operands of element-wise operations, by their lanes.
use Rattle.std.proofs.Common.{◌≡◌, ℕ, ◌<◌, ◌≤◌, ℤ, pos, List, Bool, true, false, ◌||◌, Option, Some, None, length, refl, ap, ap₂, sym, subst, ◌∙◌}
use Rattle.std.specs.Prelude.{is_none, is_some, slice_get}
use Rattle.std.specs.List.{AllByRecursion}
use Rattle.std.proofs.lemmas.Bool.{false≢true, true≢false}
use Rattle.arr_num.specs.declared.elem.Elem.{Elem}
use Rattle.arr_num.specs.declared.elem.Elem.TheVariants.{U8}
use Rattle.arr_num.specs.declared.code.Code.{Code}
use Rattle.arr_num.specs.declared.code.Code.TheVariants.{Equal, NotEqual, Less, LessEqual, Greater, GreaterEqual, Absolute, Invert, Identity, Range, AddReduce, MultiplyReduce, MinimumReduce, MaximumReduce, AddAccumulate, MultiplyAccumulate, Free, Sync}
use Rattle.arr_num.specs.Kinds.{Kind, Binary, Unary, Counting, binds_one, binds_two, counts, is_binary, is_unary, kind}
use Rattle.arr_num.specs.Numbers.{value}
use Rattle.arr_vector.specs.Sorts.{is_arithmetic, is_comparison}
use Rattle.arr_view.specs.Strided.{Strided}
use Rattle.arr_ops.specs.declared.op.Op.{Op}
use Rattle.arr_ops.specs.declared.op.Operand.{Operand}
use Rattle.arr_ops.specs.declared.op.Operand.TheVariants.{Array, Number}
use Rattle.arr_ops.specs.Costs.{elem_of}
use Rattle.arr_ops.specs.Formed.{elementwise, operands_kept, typed, types_kept, well_formed}
use Rattle.arr_ops.specs.Ops.{inputs, view_of}
use Rattle.arr_ops.proofs.Spots.{all_left, all_right, none_from, operands_of, same_elem_is, types_of}
use Rattle.arr_ops.proofs.Tests.{both_left, both_right}
use Rattle.arr_store.specs.declared.buffer.Buffer.{Buffer}
use Rattle.arr_strips.specs.Columns.{Row, first_taken, taken}
use Rattle.arr_strips.specs.Registers.{line_value, number_in, register_views}
use Rattle.arr_strips.specs.Strips.{loaded}
use Rattle.arr_strips.proofs.Values.{zips}
use Rattle.arr_lanes.specs.declared.line.Work.{Work}
use Rattle.arr_lanes.specs.declared.line.Work.TheVariants.{Arithmetic, Comparison, Power, Conversion, Positions}
use Rattle.arr_lanes.specs.Lanes.{IsLane, WorkFits, number, shown_work}
use Rattle.arr_machine.specs.Tasks.{Stands, TypedLanes, WorkOf}

-- ---- codes

pub zips_all : (k : Kind) → (binds_two k || (binds_one k || counts k)) ≡ true → zips k ≡ true
zips_all Binary h = refl
zips_all Unary h = refl
zips_all Counting h = refl
zips_all _ h = absurd (false≢true h)

-- what an arithmetic code or a comparison takes
pub takes_some : (code : Code) → (is_arithmetic code || is_comparison code) ≡ true → (is_binary code || is_unary code) ≡ true
takes_some Range h = absurd (false≢true h)
takes_some AddReduce h = absurd (false≢true h)
takes_some MultiplyReduce h = absurd (false≢true h)
takes_some MinimumReduce h = absurd (false≢true h)
takes_some MaximumReduce h = absurd (false≢true h)
takes_some AddAccumulate h = absurd (false≢true h)
takes_some MultiplyAccumulate h = absurd (false≢true h)
takes_some Free h = absurd (false≢true h)
takes_some Sync h = absurd (false≢true h)
takes_some _ h = refl

pub first_plain : (code : Code) (p : ℕ) (r : Row) (o : Option Operand) → (is_binary code || is_unary code) ≡ true → first_taken code p r o ≡ taken r o
first_plain Range p r o h = absurd (false≢true h)
first_plain _ p r o h = refl

-- a unary code takes no notice of a second number
pub one_taken : (code : Code) (t : Elem) (x y : ℤ) → is_arithmetic code ≡ true → is_binary code ≡ false → value code t x y ≡ value code t x (pos 0)
unfolding value
one_taken Absolute t x y a b = refl
one_taken Invert t x y a b = refl
one_taken Identity t x y a b = absurd (false≢true a)
one_taken Range t x y a b = absurd (false≢true a)
one_taken AddReduce t x y a b = absurd (false≢true a)
one_taken MultiplyReduce t x y a b = absurd (false≢true a)
one_taken MinimumReduce t x y a b = absurd (false≢true a)
one_taken MaximumReduce t x y a b = absurd (false≢true a)
one_taken AddAccumulate t x y a b = absurd (false≢true a)
one_taken MultiplyAccumulate t x y a b = absurd (false≢true a)
one_taken Free t x y a b = absurd (false≢true a)
one_taken Sync t x y a b = absurd (false≢true a)
one_taken _ t x y a b = absurd (true≢false b)

pub arithmetic_types : (code : Code) (op : Op) → is_arithmetic code ≡ true → types_kept code op ≡ true → op.to ≡ op.from
arithmetic_types Equal op a t = absurd (false≢true a)
arithmetic_types NotEqual op a t = absurd (false≢true a)
arithmetic_types Less op a t = absurd (false≢true a)
arithmetic_types LessEqual op a t = absurd (false≢true a)
arithmetic_types Greater op a t = absurd (false≢true a)
arithmetic_types GreaterEqual op a t = absurd (false≢true a)
arithmetic_types Identity op a t = absurd (false≢true a)
arithmetic_types Range op a t = absurd (false≢true a)
arithmetic_types _ op a t = same_elem_is op.to op.from t

pub comparison_type : (code : Code) (op : Op) → is_comparison code ≡ true → types_kept code op ≡ true → op.to ≡ U8
comparison_type Equal op a t = same_elem_is op.to U8 t
comparison_type NotEqual op a t = same_elem_is op.to U8 t
comparison_type Less op a t = same_elem_is op.to U8 t
comparison_type LessEqual op a t = same_elem_is op.to U8 t
comparison_type Greater op a t = same_elem_is op.to U8 t
comparison_type GreaterEqual op a t = same_elem_is op.to U8 t
comparison_type _ op a t = absurd (false≢true a)

comparison_binary : (code : Code) → is_comparison code ≡ true → is_binary code ≡ true
comparison_binary Equal h = refl
comparison_binary NotEqual h = refl
comparison_binary Less h = refl
comparison_binary LessEqual h = refl
comparison_binary Greater h = refl
comparison_binary GreaterEqual h = refl
comparison_binary _ h = absurd (false≢true h)

or_first : (a b : Bool) → a ≡ true → (a || b) ≡ true
or_first true b h = refl
or_first false b h = absurd (false≢true h)

or_second : (a b : Bool) → b ≡ true → (a || b) ≡ true
or_second true b h = refl
or_second false b h = h

-- ---- operands

some_there : {X : Type 0} (o : Option X) → is_some o ≡ true → o ≡ None → ⊥
some_there None h e = false≢true h
some_there (Some x) h e = cc

has_first : (k : Kind) (op : Op) → (binds_two k || binds_one k) ≡ true → operands_kept k op ≡ true → op.first ≡ None → ⊥
has_first Binary op h kept = some_there op.first (both_left (is_some op.first) _ (both_right (elementwise op) _ kept))
has_first Unary op h kept = some_there op.first (both_left (is_some op.first) _ (both_right (elementwise op) _ kept))
has_first _ op h kept = absurd (false≢true h)

has_second : (k : Kind) (op : Op) → binds_two k ≡ true → operands_kept k op ≡ true → op.second ≡ None → ⊥
has_second Binary op h kept = some_there op.second (both_right (is_some op.first) _ (both_right (elementwise op) _ kept))
has_second _ op h kept = absurd (false≢true h)

no_second : (k : Kind) (op : Op) → (binds_one k || counts k) ≡ true → operands_kept k op ≡ true → op.second ≡ None
no_second Unary op h kept = none_from op.second (both_right (is_some op.first) _ (both_right (elementwise op) _ kept))
no_second Counting op h kept = none_from op.second (both_right (is_none op.first) _ (both_right (elementwise op) _ kept))
no_second _ op h kept = absurd (false≢true h)

-- behind the registers it is what lanes hold
abbrev pub Behind : List Op → List Buffer → (ℕ → ℕ → ℤ) → Type 0
Behind ops lanes held = (r : ℕ) → length (register_views ops) ≤ r → (i : ℕ) → held r i ≡ number lanes r i

module _ (ops : List Op) (room : ℕ) (lanes : List Buffer) where
  -- what registers hold, and lanes behind them, where an operand stands
  stands_number : (held : ℕ → ℕ → ℤ) → Behind ops lanes held → (t : Elem) (o : Option Operand) (lane i : ℕ) (row : Row) → i < room → Stands ops room lanes t o lane
      → AllByRecursion (λ v. held (number_in (register_views ops) v) i ≡ row v) (view_of o) → (o ≡ None → ⊥) → held lane i ≡ taken row o
  stands_number held behind t None lane i row u s h n = absurd (n refl)
  stands_number held behind t (Some (Number z)) lane i row u s h n = behind lane s.behind i ∙ s.each i u
  stands_number held behind t (Some (Array v)) lane i row u s h n = ap (λ r. held r i) s ∙ h.0

  pub stands_typed : (t : Elem) (o : Option Operand) (lane : ℕ) → TypedLanes ops room lanes → AllByRecursion (λ v. loaded (register_views ops) v ≡ true) (view_of o)
      → AllByRecursion (λ (v : Strided). elem_of ops v.base ≡ t) (view_of o) → Stands ops room lanes t o lane → IsLane t room (slice_get lanes lane)
  stands_typed t None lane typed on of s = s
  stands_typed t (Some (Number z)) lane typed on of s = s.there
  stands_typed t (Some (Array v)) lane typed on of s =
      subst (λ r. IsLane t room (slice_get lanes r)) (sym s) (subst (λ y. IsLane y room (slice_get lanes (number_in (register_views ops) v))) of.0 (typed v on.0))

  -- what the operand of a SYNC shows
  pub shows_number : (held : ℕ → ℕ → ℤ) (t : Elem) (v : Strided) (o : Option Operand) (lane i : ℕ) (row : Row) → o ≡ Some (Array v) → Stands ops room lanes t o lane
      → AllByRecursion (λ v. held (number_in (register_views ops) v) i ≡ row v) (view_of o) → held lane i ≡ taken row o
  shows_number held t v o lane i row e s h =
      ap (λ r. held r i) (subst (λ x. Stands ops room lanes t x lane) e s) ∙ (subst (λ x. AllByRecursion (λ v. held (number_in (register_views ops) v) i ≡ row v) (view_of x)) e h).0 ∙ ap (taken row) (sym e)

  module _ (op : Op) (well : well_formed op ≡ true) where
    kept_operands : operands_kept (kind op.code) op ≡ true
    kept_operands = operands_of op well

    -- of each work the value of its operation
    module _ (held : ℕ → ℕ → ℤ) (behind : Behind ops lanes held) (i q : ℕ) (row : Row) (u : i < room) (firsts : AllByRecursion (λ v. held (number_in (register_views ops) v) i ≡ row v) (view_of op.first))
        (seconds : AllByRecursion (λ v. held (number_in (register_views ops) v) i ≡ row v) (view_of op.second)) where
      abbrev pub wanted : ℤ
      wanted = value op.code op.to (first_taken op.code q row op.first) (taken row op.second)

      first_is : (lane : ℕ) → (is_binary op.code || is_unary op.code) ≡ true → Stands ops room lanes op.from op.first lane → held lane i ≡ first_taken op.code q row op.first
      first_is lane some s = stands_number held behind op.from op.first lane i row u s firsts (has_first (kind op.code) op some kept_operands) ∙ sym (first_plain op.code q row op.first some)

      second_is : (lane : ℕ) (x : ℤ) → is_arithmetic op.code ≡ true → Stands ops room lanes op.from op.second lane → value op.code op.to x (held lane i) ≡ value op.code op.to x (taken row op.second)
      second_is lane x a s = at (is_binary op.code) refl
        where
          at : (b : Bool) → is_binary op.code ≡ b → value op.code op.to x (held lane i) ≡ value op.code op.to x (taken row op.second)
          at true b = ap (value op.code op.to x) (stands_number held behind op.from op.second lane i row u s seconds (has_second (kind op.code) op b kept_operands))
          at false b =
              let one : is_unary op.code ≡ true = ap (λ z. z || is_unary op.code) (sym b) ∙ takes_some op.code (or_first (is_arithmetic op.code) (is_comparison op.code) a) in
              let none : op.second ≡ None = no_second (kind op.code) op (or_first (is_unary op.code) (counts (kind op.code)) one) kept_operands in
              one_taken op.code op.to x (held lane i) a b ∙ ap (λ o. value op.code op.to x (taken row o)) (sym none)

      pub work_value : (w : Work) (d : ℕ) → WorkOf ops room lanes op w → line_value q (λ r. held r i) (shown_work w op.to d) ≡ wanted
      work_value (Arithmetic code first second) d h =
          let a : is_arithmetic op.code ≡ true = subst (λ k. is_arithmetic k ≡ true) h.0 h.1.0 in
          ap (λ k. value k op.to (held first i) (held second i)) h.0
          ∙ ap (λ x. value op.code op.to x (held second i)) (first_is first (takes_some op.code (or_first (is_arithmetic op.code) (is_comparison op.code) a)) h.1.1.0)
          ∙ second_is second (first_taken op.code q row op.first) a h.1.1.1
      work_value (Comparison code from first second) d h =
          let a : is_comparison op.code ≡ true = subst (λ k. is_comparison k ≡ true) h.0 h.1.0 in
          ap (λ k. value k op.to (held first i) (held second i)) h.0
          ∙ ap₂ (value op.code op.to) (first_is first (takes_some op.code (or_second (is_arithmetic op.code) (is_comparison op.code) a)) h.1.1.1.0)
          (stands_number held behind op.from op.second second i row u h.1.1.1.1 seconds (has_second (kind op.code) op (comparison_binary op.code a) kept_operands))
      work_value (Power first exponent) d h =
          ap (λ k. value k op.to (held first i) (pos exponent)) (sym h.0)
          ∙ ap₂ (value op.code op.to) (first_is first (ap (λ k. is_binary k || is_unary k) h.0) h.1.1) (ap (taken row) (sym h.1.0))
      work_value (Conversion from first) d h =
          let none : op.second ≡ None = no_second (kind op.code) op (ap (λ k. binds_one (kind k) || counts (kind k)) h.0) kept_operands in
          ap (λ k. value k op.to (held first i) (pos 0)) (sym h.0)
          ∙ ap₂ (value op.code op.to) (first_is first (ap (λ k. is_binary k || is_unary k) h.0) h.1.1) (ap (taken row) (sym none))
      work_value Positions d h =
          let none : op.second ≡ None = no_second (kind op.code) op (ap (λ k. binds_one (kind k) || counts (kind k)) h) kept_operands in
          ap (λ k. value k op.to (pos q) (pos 0)) (sym h)
          ∙ ap₂ (value op.code op.to) (sym (ap (λ k. first_taken k q row op.first) h)) (ap (taken row) (sym none))

    -- its lanes are there
    pub work_fits : (w : Work) → TypedLanes ops room lanes → AllByRecursion (λ v. loaded (register_views ops) v ≡ true) (inputs op)
        → AllByRecursion (λ (v : Strided). elem_of ops v.base ≡ op.from) (inputs op) → WorkOf ops room lanes op w → WorkFits room lanes w op.to
    work_fits w typed on of h = at w h
      where
        first_there : (lane : ℕ) → Stands ops room lanes op.from op.first lane → IsLane op.from room (slice_get lanes lane)
        first_there lane s =
            stands_typed op.from op.first lane typed (all_left (λ v. loaded (register_views ops) v ≡ true) (view_of op.first) (view_of op.second) on)
            (all_left (λ (v : Strided). elem_of ops v.base ≡ op.from) (view_of op.first) (view_of op.second) of) s

        second_there : (lane : ℕ) → Stands ops room lanes op.from op.second lane → IsLane op.from room (slice_get lanes lane)
        second_there lane s =
            stands_typed op.from op.second lane typed (all_right (λ v. loaded (register_views ops) v ≡ true) (view_of op.first) (view_of op.second) on)
            (all_right (λ (v : Strided). elem_of ops v.base ≡ op.from) (view_of op.first) (view_of op.second) of) s

        at : (w : Work) → WorkOf ops room lanes op w → WorkFits room lanes w op.to
        at (Arithmetic code first second) h =
            let same : op.from ≡ op.to = sym (arithmetic_types op.code op (subst (λ k. is_arithmetic k ≡ true) h.0 h.1.0) (types_of op well)) in
            (h.1.0, (subst (λ y. IsLane y room (slice_get lanes first)) same (first_there first h.1.1.0), subst (λ y. IsLane y room (slice_get lanes second)) same (second_there second h.1.1.1)))
        at (Comparison code from first second) h = (
          h.1.0,
          (
            comparison_type op.code op (subst (λ k. is_comparison k ≡ true) h.0 h.1.0) (types_of op well),
            (subst (λ y. IsLane y room (slice_get lanes first)) (sym h.1.1.0) (first_there first h.1.1.1.0), subst (λ y. IsLane y room (slice_get lanes second)) (sym h.1.1.0) (second_there second h.1.1.1.1)),
          ),
        )
        at (Power first exponent) h =
            let same : op.from ≡ op.to = sym (same_elem_is op.to op.from (ap (λ k. types_kept k op) (sym h.0) ∙ types_of op well)) in
            subst (λ y. IsLane y room (slice_get lanes first)) same (first_there first h.1.1)
        at (Conversion from first) h = subst (λ y. IsLane y room (slice_get lanes first)) (sym h.1.0) (first_there first h.1.1)
        at Positions h = tt
