-- Each state can be completed, stays well formed, and is over only at the end.
use Rattle.std.proofs.Common.{◌≡◌, ℕ, pos, neg_ℤ, ◌<◌, ◌≤◌, List, [], ◌∷◌, ◌++◌, Option, Some, None, refl, arith, Bool, true, false, cond, ◌&&◌, nat_le, nat_lt, inl}
use Rattle.std.proofs.lemmas.Bool.Decides.{nat_tests}
use Rattle.arr_tree.specs.declared.refusal.Place.{Place}
use Rattle.arr_tokens.specs.declared.token.Item.{Item}
use Rattle.arr_tokens.specs.declared.token.Token.{Token}
use Rattle.arr_tokens.specs.declared.token.Token.TheVariants as token
use Rattle.arr_tokens.specs.declared.token.Sign.{Sign}
use Rattle.arr_tokens.specs.declared.token.Sign.TheVariants as sign
use Rattle.arr_tokens.specs.declared.token.Keyword.TheVariants as keyword
use Rattle.arr_tokens.specs.declared.token.View.{View}
use Rattle.arr_tokens.specs.declared.token.View.TheVariants.{Broadcast, Transpose, Reshape, Strided}
use Rattle.arr_syntax.specs.declared.state.Mode.{Mode}
use Rattle.arr_syntax.specs.declared.state.Mode.TheVariants as mode
use Rattle.arr_syntax.specs.declared.state.Rule.{Rule}
use Rattle.arr_syntax.specs.declared.state.Rule.TheVariants as rule
use Rattle.arr_syntax.specs.declared.state.Head.TheVariants as head
use Rattle.arr_syntax.specs.declared.state.Node.{Node}
use Rattle.arr_syntax.specs.declared.state.Node.TheVariants as node
use Rattle.arr_syntax.specs.declared.state.Fields.{Fields}
use Rattle.arr_syntax.specs.declared.state.Field.{Field}
use Rattle.arr_syntax.specs.declared.state.Field.TheVariants as field
use Rattle.arr_syntax.specs.declared.state.Part.{Part}
use Rattle.arr_syntax.specs.declared.state.Part.TheVariants as part
use Rattle.arr_syntax.specs.declared.state.Frame.{Frame}
use Rattle.arr_syntax.specs.declared.state.State.{State}
use Rattle.arr_syntax.specs.declared.state.State.TheVariants as state
use Rattle.arr_syntax.specs.declared.state.Move.{Move}
use Rattle.arr_syntax.specs.Filling.{Filling}
use Rattle.arr_syntax.specs.Filling as filled
use Rattle.arr_tree.specs.declared.tree.Code16.{Code16}
use Rattle.arr_tree.specs.declared.tree.Word.{Word}
use Rattle.arr_tree.specs.declared.tree.Expr.{Expr}
use Rattle.arr_tree.specs.declared.tree.Statement.{Statement}
use Rattle.arr_tree.specs.declared.tree.Type4.TheVariants.{I64}
use Rattle.arr_syntax.specs.Grammar as grammar
use Rattle.arr_tree.specs.Trees.{cut, literal_at, lengths_at, steps_at, word_at, name_of, delete_of}
use Rattle.arr_syntax.specs.Grammar.{operator, comparison, Ends, Script, Listed, Length, Stride, Slice}
use Rattle.arr_syntax.specs.Machine as machine
use Rattle.arr_syntax.specs.Machine.{level, rank, either, behind, goes, give, leaves, fits, step, wanted, fresh, with_tree, with_cut, fill, row_of, array_row, level_of, inner, tree_of, stated, onward, opened, opens, frame, target, bound}
use Rattle.arr_syntax.proofs.Completes.{FieldIn, PartIn, Fills, Makes, After, Given, RowIn, Wants, Completes, Rowed, Sits, Formed, Takes, WellFormed, WellMoved}
use Rattle.arr_syntax.proofs.Filling.{item}
use Rattle.arr_syntax.proofs.Forward.{operator_within, again_least, again_most, takes_in}
use Rattle.arr_syntax.proofs.Backward.{stops, climbed}

-- each step keeps the stack formed

resume_formed : (n : Node) (at : Place) (ps : List Part) (f : Fields) (s : List Frame) → Rowed n ps → Sits n (wanted s) (Formed s) → WellMoved (machine.resume n at ps f s)
resume_formed n at (p ∷ ps) f s w h = (w, h)
resume_formed (node.Tree n) at [] f s w h = (h.1, h.2)
resume_formed (node.Statement x) at [] f s w h = tt

onward_formed : (n : Node) (at : Place) (ps : List Part) (s : List Frame) (x : Filling) → Rowed n ps → Sits n (wanted s) (Formed s) → WellMoved (onward n at ps s x)
onward_formed n at ps s filled.Stuck w h = tt
onward_formed n at ps s (filled.Over f) w h = resume_formed n at ps f s w h
onward_formed n at ps s (filled.Turns p f) w h = (w, h)

array_formed : (m : Mode) (v : View) → Rowed (node.Tree (rule.View m v)) (array_row m v)
array_formed mode.Value Broadcast = (omega arith, tt)
array_formed mode.Value Transpose = (omega arith, tt)
array_formed mode.Value Reshape = (omega arith, tt)
array_formed mode.Value Strided = (omega arith, tt)
array_formed mode.Place Broadcast = (omega arith, tt)
array_formed mode.Place Transpose = (omega arith, tt)
array_formed mode.Place Reshape = (omega arith, tt)
array_formed mode.Place Strided = (omega arith, tt)

rule_formed : (n : Rule) → Rowed (node.Tree n) (machine.rule_row n)
rule_formed rule.Bracket = (omega arith, tt)
rule_formed rule.Negative = tt
rule_formed rule.Invert = (omega arith, tt)
rule_formed rule.Index = tt
rule_formed rule.Power = tt
rule_formed (rule.Operand n c) = (again_least n, tt)
rule_formed rule.Range = tt
rule_formed rule.Full = tt
rule_formed (rule.Fold c) = (omega arith, tt)
rule_formed rule.Absolute = (omega arith, tt)
rule_formed (rule.Cast to) = (omega arith, tt)
rule_formed (rule.Pair c) = (omega arith, (omega arith, tt))
rule_formed (rule.View m v) = array_formed m v

row_formed : (n : Node) → Rowed n (row_of n)
row_formed (node.Tree n) = rule_formed n
row_formed (node.Statement head.Print) = (omega arith, tt)
row_formed (node.Statement (head.Bind w)) = (omega arith, tt)
row_formed (node.Statement head.Assign) = (omega arith, (omega arith, tt))
row_formed (node.Statement (head.Gather w)) = (omega arith, (omega arith, tt))
row_formed (node.Statement head.Scatter) = (omega arith, (omega arith, (omega arith, tt)))

opened_formed : (n : Node) (at : Place) (f : Fields) (s : List Frame) → Sits n (wanted s) (Formed s) → WellMoved (opened n at f s)
opened_formed n at f s h = resume_formed n at (row_of n) f s (row_formed n) h

-- a row that makes up a primary
primary_formed : (n : Rule) (at : Place) (f : Fields) (s : List Frame) → 2 ≤ inner (node.Tree n) → level_of n ≡ 0 → Formed s → WellMoved (opened (node.Tree n) at f s)
primary_formed n at f s h e w = opened_formed (node.Tree n) at f s (h, omega (arith, e), w)

cond_formed : (b : Bool) (x y : Move) → (b ≡ true → WellMoved x) → WellMoved y → WellMoved (cond b x y)
cond_formed true x y on other = on refl
cond_formed false x y on other = other

module _ (at : Place) (s : List Frame) (t : Expr) (w : Formed s) where
  operate_formed : (x : Sign) (o : Option (ℕ × Code16)) (k : Option Code16) → operator x ≡ o → rank (either o k) < wanted s → WellMoved (opens (either o k) at (with_tree (fresh at) t) s)
  operate_formed x (Some (n, c)) k e h = let b = operator_within x n c e in opened_formed (node.Tree (rule.Operand n c)) at (with_tree (fresh at) t) s (b.0, again_most n (wanted s) h, w)
  operate_formed x None (Some c) e h = opened_formed (node.Tree (rule.Operand 8 c)) at (with_tree (fresh at) t) s (omega arith, again_most 8 (wanted s) h, w)
  operate_formed x None None e h = tt

  sign_formed : (x : Sign) → rank (behind x) < wanted s → WellMoved (goes (token.Sign x) at s t)
  sign_formed sign.OpenIndex h = primary_formed rule.Index at (with_tree (fresh at) t) s (omega arith) refl w
  sign_formed sign.Power h = opened_formed (node.Tree rule.Power) at (with_tree (fresh at) t) s (omega arith, omega arith, w)
  sign_formed x h = operate_formed x (operator x) (comparison x) refl h

  goes_formed : (k : Token) → level k < wanted s → WellMoved (goes k at s t)
  goes_formed (token.Sign x) h = sign_formed x h
  goes_formed _ h = tt

ends_formed : (k : Token) (st : Statement) → WellMoved (machine.ends k st)
ends_formed token.Line st = tt
ends_formed token.End st = tt
ends_formed _ st = tt

begins_formed : (m : Mode) (k : Token) (at : Place) (s : List Frame) → Takes m s → Formed s → WellMoved (machine.begins m k at s)
begins_formed mode.Value k at s h w = value k
  where
    value : (t : Token) → WellMoved (machine.begins mode.Value t at s)
    value (token.Number n) = (omega arith, w)
    value (token.Name x) = (omega arith, w)
    value (token.Sign sign.Minus) = primary_formed rule.Negative at (fresh at) s (omega arith) refl w
    value (token.Sign sign.Open) = primary_formed rule.Bracket at (fresh at) s (omega arith) refl w
    value (token.Sign sign.Not) = opened_formed (node.Tree rule.Invert) at (fresh at) s (omega arith, h, w)
    value (token.Keyword keyword.Range) = primary_formed rule.Range at (fresh at) s (omega arith) refl w
    value (token.Keyword keyword.Full) = primary_formed rule.Full at (fresh at) s (omega arith) refl w
    value (token.Keyword (keyword.Fold c)) = primary_formed (rule.Fold c) at (fresh at) s (omega arith) refl w
    value (token.Keyword keyword.Absolute) = primary_formed rule.Absolute at (fresh at) s (omega arith) refl w
    value (token.Keyword (keyword.Pair c)) = primary_formed (rule.Pair c) at (fresh at) s (omega arith) refl w
    value (token.Keyword (keyword.Type to)) = primary_formed (rule.Cast to) at (fresh at) s (omega arith) refl w
    value (token.Keyword (keyword.View v)) = primary_formed (rule.View mode.Value v) at (fresh at) s (omega arith) refl w
    value _ = tt
begins_formed mode.Place k at s h w = place k
  where
    place : (t : Token) → WellMoved (machine.begins mode.Place t at s)
    place (token.Name x) = (omega arith, w)
    place (token.Keyword (keyword.View v)) = primary_formed (rule.View mode.Place v) at (fresh at) s (omega arith) refl w
    place _ = tt

take_formed : (n : Node) (at : Place) (p : Part) (ps : List Part) (f : Fields) (s : List Frame) (i : Item) → Rowed n (p ∷ ps) → Sits n (wanted s) (Formed s) → WellMoved (machine.take n at p ps f s i)
take_formed n at (part.Tree m) ps f s i w h = begins_formed m i.token i.at (frame n at m ps f ∷ s) (takes_in n m (wanted s) (Formed s) at ps f s h) (w.0, w.1, h)
take_formed n at (part.Field p) ps f s i w h = onward_formed n at ps s (fill p i.token i.at f) w h

leaves_formed : (n : Node) (at : Place) (ps : List Part) (f : Fields) (s : List Frame) (i : Item) → Rowed n ps → Sits n (wanted s) (Formed s) →
    ((m : ℕ) (u : Expr) → Formed s → WellMoved (give s m u i)) → WellMoved (leaves n at ps f s i (λ m u. give s m u i))
leaves_formed n at (p ∷ ps) f s i w h back = take_formed n at p ps f s i w h
leaves_formed (node.Tree n) at [] f s i w h back = back (level_of n) (tree_of n at f) h.2
leaves_formed (node.Statement x) at [] f s i w h back = ends_formed i.token (stated x at f)

both_yes : (a b : Bool) → (a && b) ≡ true → b ≡ true
both_yes true true e = refl
both_yes true false e = cc
both_yes false b e = cc

choose_formed : (f : Frame) (s : List Frame) (n : ℕ) (t : Expr) (i : Item) → Formed (f ∷ s) →
    WellMoved (leaves f.row.node f.row.at f.row.rest (with_tree f.row.fields t) s i (λ m u. give s m u i)) → WellMoved (give (f ∷ s) n t i)
choose_formed f s n t i w over =
    cond_formed (fits n i.token f.level) (goes i.token i.at (f ∷ s) t) (leaves f.row.node f.row.at f.row.rest (with_tree f.row.fields t) s i (λ m u. give s m u i)) goes_on over
  where
    goes_on : fits n i.token f.level ≡ true → WellMoved (goes i.token i.at (f ∷ s) t)
    goes_on e =
        let y : nat_lt (level i.token) f.level ≡ true = both_yes (nat_le n (level i.token)) (nat_lt (level i.token) f.level) e in
        let lt : level i.token < f.level = grind (arith, nat_tests) in
        goes_formed i.at (f ∷ s) t w i.token lt

give_formed : (s : List Frame) (n : ℕ) (t : Expr) (i : Item) → Formed s → WellMoved (give s n t i)
give_formed [] n t i w = tt
give_formed (f ∷ s) n t i w =
    choose_formed f s n t i w (leaves_formed f.row.node f.row.at f.row.rest (with_tree f.row.fields t) s i w.1 w.2 (λ m u v. give_formed s m u i v))

target_formed : (at : Place) → Formed (target at)
target_formed at = (omega arith, (omega arith, tt), tt)

bound_formed : (w : Word) → Formed (bound w)
bound_formed w = (omega arith, tt, tt)

starts_formed : (k : Token) (at : Place) → WellMoved (machine.starts k at)
starts_formed (token.Keyword keyword.Print) at = opened_formed (node.Statement head.Print) at (fresh at) [] tt
starts_formed (token.Keyword keyword.Del) at = tt
starts_formed (token.Keyword keyword.Flush) at = tt
starts_formed (token.Keyword keyword.Scatter) at = opened_formed (node.Statement head.Scatter) at (fresh at) [] tt
starts_formed (token.Keyword (keyword.View v)) at = primary_formed (rule.View mode.Place v) at (fresh at) (target at) (omega arith) refl (target_formed at)
starts_formed (token.Name x) at = tt
starts_formed token.Line at = tt
starts_formed token.End at = tt
starts_formed _ at = tt

named_formed : (k : Token) (at : Place) (w : Word) → WellMoved (machine.named k at w)
named_formed (token.Sign sign.Assign) at w = tt
named_formed (token.Sign sign.OpenIndex) at w = primary_formed rule.Index at (with_tree (fresh at) (name_of w)) (target at) (omega arith) refl (target_formed at)
named_formed _ at w = tt

binds_formed : (k : Token) (at : Place) (w : Word) → WellMoved (machine.binds k at w)
binds_formed (token.Keyword keyword.Gather) at w = opened_formed (node.Statement (head.Gather w)) at (fresh at) [] tt
binds_formed k at w = begins_formed mode.Value k at (bound w) (omega arith) (bound_formed w)

deletes_formed : (k : Token) (at : Place) → WellMoved (machine.deletes k at)
deletes_formed (token.Name x) at = tt
deletes_formed _ at = tt

ended_formed : (k : Token) → WellMoved (machine.ended k)
ended_formed token.Line = tt
ended_formed token.End = tt
ended_formed _ = tt

pub step_formed : (st : State) (i : Item) → WellFormed st → WellMoved (step st i)
step_formed state.Start i w = starts_formed i.token i.at
step_formed (state.Named x) i w = named_formed i.token i.at x
step_formed (state.Bound x) i w = binds_formed i.token i.at x
step_formed state.Delete i w = deletes_formed i.token i.at
step_formed state.Ended i w = ended_formed i.token
step_formed (state.Have n t s) i w = give_formed s n t i w.1
step_formed (state.Fill p x s) i w = take_formed x.node x.at p x.rest x.fields s i w.0 w.1
step_formed state.Finished i w = tt

-- each state can be completed

abbrev nowhere : Place
nowhere = record { line = 1; column = 1 }

abbrev some : Token → Item
some t = item t nowhere

abbrev some_sign : Sign → Item
some_sign x = item (token.Sign x) nowhere

abbrev zero_number : Item
zero_number = item (token.Number 0) nowhere

abbrev pub Can : (List Item → List Statement → Type 0) → Type 0
Can P = (ts : List Item) × (r : List Statement) × P ts r

value_tree : (m : ℕ) (ts : List Item) → 0 ≤ m → grammar.Level m (zero_number ∷ ts) (literal_at nowhere false 0) ts
value_tree m ts h = climbed 0 m (literal_at nowhere false 0) (literal_at nowhere false 0) (zero_number ∷ ts) ts ts
    (grammar.primary (grammar.literal (grammar.plain refl))) (stops 0 m (literal_at nowhere false 0) ts h)

module _ (K : Fields → List Item → List Statement → Type 0) (can : (f : Fields) → Can (K f)) where
  field_can : (p : Field) (f : Fields) → Can (λ ts r. FieldIn p f ts (λ g b. K g b r))
  field_can field.Open f = let x = can f in (some_sign sign.Open ∷ x.0, x.1, (refl, x.2))
  field_can field.Close f = let x = can f in (some_sign sign.Close ∷ x.0, x.1, (refl, x.2))
  field_can field.Comma f = let x = can f in (some_sign sign.Comma ∷ x.0, x.1, (refl, x.2))
  field_can field.Equals f = let x = can (record f { equals = nowhere }) in (some_sign sign.Assign ∷ x.0, x.1, (refl, x.2))
  field_can field.Number f = let x = can (record f { number = 0; number_at = nowhere }) in (zero_number ∷ x.0, x.1, (0, refl, x.2))
  field_can field.TypeOrClose f = let x = can f in (some_sign sign.Close ∷ x.0, x.1, inl (refl, x.2))
  field_can field.LastType f = let x = can (record f { to = I64 }) in (some (token.Keyword (keyword.Type I64)) ∷ some_sign sign.Close ∷ x.0, x.1, (I64, refl, (refl, x.2)))
  field_can field.Literal f = let x = can (with_tree f (literal_at nowhere false 0)) in (zero_number ∷ x.0, x.1, (nowhere, false, 0, x.0, grammar.plain refl, x.2))
  field_can (field.Size at) f = let x = can (with_tree f (literal_at at true 0)) in (zero_number ∷ x.0, x.1, (0, refl, x.2))
  field_can field.Shape f = let x = can (record f { shape = lengths_at nowhere (f.shape.list ++ 0 ∷ []) }) in
      (some_sign sign.OpenIndex ∷ zero_number ∷ some_sign sign.CloseIndex ∷ x.0, x.1, (nowhere, 0 ∷ [], x.0, grammar.bracketed refl (grammar.last (grammar.one_length refl) refl), x.2))
  field_can field.Length f = let x = can (record f { shape = lengths_at f.shape.at (f.shape.list ++ 0 ∷ []) }) in
      (zero_number ∷ some_sign sign.CloseIndex ∷ x.0, x.1, (0 ∷ [], x.0, grammar.last (grammar.one_length refl) refl, x.2))
  field_can field.MoreLengths f = let x = can f in (some_sign sign.CloseIndex ∷ x.0, x.1, inl (refl, x.2))
  field_can field.Strides f = let x = can (record f { strides = steps_at nowhere (f.strides.list ++ pos 0 ∷ []) }) in (
    some_sign sign.OpenIndex ∷ zero_number ∷ some_sign sign.CloseIndex ∷ x.0,
    x.1,
    (nowhere, pos 0 ∷ [], x.0, grammar.bracketed refl (grammar.last (grammar.one_stride {negative = false} (grammar.plain refl)) refl), x.2),
  )
  field_can field.Stride f = let x = can (record f { strides = steps_at f.strides.at (f.strides.list ++ pos 0 ∷ []) }) in
      (zero_number ∷ some_sign sign.CloseIndex ∷ x.0, x.1, (pos 0 ∷ [], x.0, grammar.last (grammar.one_stride {negative = false} (grammar.plain refl)) refl, x.2))
  field_can field.NegativeStride f = let x = can (record f { strides = steps_at f.strides.at (f.strides.list ++ neg_ℤ (pos 0) ∷ []) }) in
      (zero_number ∷ some_sign sign.CloseIndex ∷ x.0, x.1, (0, refl, inl (refl, x.2)))
  field_can field.MoreStrides f = let x = can f in (some_sign sign.CloseIndex ∷ x.0, x.1, inl (refl, x.2))
  field_can field.Start f = let x = can (with_cut f (cut None None None)) in
      (some_sign sign.Colon ∷ some_sign sign.CloseIndex ∷ x.0, x.1, (cut None None None ∷ [], x.0, grammar.last (grammar.short grammar.no_bound refl grammar.no_bound) refl, x.2))
  field_can (field.Colon c) f = let x = can (with_cut f (record c { stop = None })) in
      (some_sign sign.Colon ∷ some_sign sign.CloseIndex ∷ x.0, x.1, (refl, (None, some_sign sign.CloseIndex ∷ x.0, grammar.no_bound, inl (inl (refl, x.2)))))
  field_can (field.Stop c) f = let x = can (with_cut f (record c { stop = None })) in
      (some_sign sign.CloseIndex ∷ x.0, x.1, (None, some_sign sign.CloseIndex ∷ x.0, grammar.no_bound, inl (inl (refl, x.2))))
  field_can (field.AfterStop c) f = let x = can (with_cut f c) in (some_sign sign.CloseIndex ∷ x.0, x.1, inl (inl (refl, x.2)))
  field_can (field.Step c) f = let x = can (with_cut f (record c { step = None })) in
      (some_sign sign.CloseIndex ∷ x.0, x.1, (None, some_sign sign.CloseIndex ∷ x.0, grammar.no_step, inl (refl, x.2)))
  field_can (field.NegativeStep c) f = let x = can (with_cut f (record c { step = Some (neg_ℤ (pos 0)) })) in
      (zero_number ∷ some_sign sign.CloseIndex ∷ x.0, x.1, (0, refl, inl (refl, x.2)))
  field_can (field.AfterStep c) f = let x = can (with_cut f c) in (some_sign sign.CloseIndex ∷ x.0, x.1, inl (refl, x.2))

  part_can : (n : Node) (p : Part) (f : Fields) → Can (λ ts r. PartIn n p f ts (λ g b. K g b r))
  part_can n (part.Tree mode.Value) f = let x = can (with_tree f (literal_at nowhere false 0)) in
      (zero_number ∷ x.0, x.1, (literal_at nowhere false 0, x.0, value_tree (inner n) x.0 (omega arith), x.2))
  part_can n (part.Tree mode.Place) f = let x = can (with_tree f (name_of (word_at nowhere []))) in
      (some (token.Name []) ∷ x.0, x.1, (name_of (word_at nowhere []), x.0, grammar.placed_name refl grammar.stop, x.2))
  part_can n (part.Field p) f = field_can p f

fills_can : (K : Fields → List Item → List Statement → Type 0) → ((f : Fields) → Can (K f)) → (n : Node) (ps : List Part) (f : Fields) → Can (λ ts r. Fills n ps f ts (λ g b. K g b r))
fills_can K can n [] f = can f
fills_can K can n (p ∷ ps) f = part_can (λ g ts r. Fills n ps g ts (λ h b. K h b r)) (fills_can K can n ps) n p f

given_from : (s : List Frame) → ((t : Expr) → Can (After s t)) → (n : ℕ) (t : Expr) → n ≤ wanted s → Can (Given n s t)
given_from s can n t h = let x = can t in (x.0, x.1, (t, x.0, stops n (wanted s) t x.0 h, x.2))

makes_can : (n : Node) (at : Place) (s : List Frame) → Sits n (wanted s) (Formed s) → ((t : Expr) → Formed s → Can (After s t)) → (g : Fields) →
    Can (λ b r. Makes n at g b r (λ m t c. Given m s t c r))
makes_can (node.Tree n) at s h can g = given_from s (λ t. can t h.2) (level_of n) (tree_of n at g) h.1
makes_can (node.Statement x) at s h can g = (some token.End ∷ [], stated x at g ∷ [], ([], grammar.finish refl, refl))

row_can : (n : Node) (at : Place) (ps : List Part) (f : Fields) (s : List Frame) → Sits n (wanted s) (Formed s) → ((t : Expr) → Formed s → Can (After s t)) → Can (RowIn n at ps f s)
row_can n at ps f s h can = fills_can (λ g b r. Makes n at g b r (λ m t c. Given m s t c r)) (makes_can n at s h can) n ps f

after_can : (s : List Frame) → Formed s → (t : Expr) → Can (After s t)
after_can [] w t = absurd w
after_can (f ∷ s) w t = row_can f.row.node f.row.at f.row.rest (with_tree f.row.fields t) s w.2 (λ u v. after_can s v u)

-- a name is bound to a literal
bound_can : (w : Word) → Can (Wants mode.Value (bound w))
bound_can w = let x = after_can (bound w) (bound_formed w) (literal_at nowhere false 0) in
    (zero_number ∷ x.0, x.1, (literal_at nowhere false 0, x.0, value_tree 9 x.0 (omega arith), x.2))

pub completable : (st : State) → WellFormed st → Can (Completes st)
completable state.Start w = (some token.End ∷ [], [], grammar.blank (grammar.finish refl))
completable (state.Named x) w = let v = bound_can x in (some_sign sign.Assign ∷ v.0, v.1, inl (refl, inl v.2))
completable (state.Bound x) w = let v = bound_can x in (v.0, v.1, inl v.2)
completable state.Delete w = (some (token.Name []) ∷ some token.End ∷ [], delete_of (word_at nowhere []) ∷ [], ([], refl, ([], grammar.finish refl, refl)))
completable state.Ended w = (some token.End ∷ [], [], grammar.finish refl)
completable (state.Have n t s) w = given_from s (after_can s w.1) n t w.0
completable (state.Fill p x s) w = row_can x.node x.at (p ∷ x.rest) x.fields s w.1 (λ u v. after_can s v u)
completable state.Finished w = ([], [], (tt, refl))
