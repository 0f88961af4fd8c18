-- What is still wanted while a script is read from left to right, and what one more token makes of it.
use Rattle.std.specs.Prelude.{ℕ, pos, neg_ℤ, Bool, true, false, ◌&&◌, List, [], ◌∷◌, ◌++◌, Option, Some, None, eqb, nat_le, nat_lt, cond, if◌then◌else◌}
use Rattle.arr_tree.specs.declared.refusal.Place.{Place}
use Rattle.arr_tokens.specs.declared.token.Item.{Item}
use Rattle.arr_tokens.specs.declared.token.Token.{Token}
use Rattle.arr_tokens.specs.declared.token.Token.TheVariants as token
use Rattle.arr_tokens.specs.declared.token.Sign.{Sign}
use Rattle.arr_tokens.specs.declared.token.Sign.TheVariants as sign
use Rattle.arr_tokens.specs.declared.token.Keyword.TheVariants as keyword
use Rattle.arr_tokens.specs.declared.token.View.{View}
use Rattle.arr_tokens.specs.declared.token.View.TheVariants.{Broadcast, Transpose, Reshape, Strided}
use Rattle.arr_syntax.specs.declared.state.Mode.{Mode}
use Rattle.arr_syntax.specs.declared.state.Mode.TheVariants as mode
use Rattle.arr_syntax.specs.declared.state.Rule.{Rule}
use Rattle.arr_syntax.specs.declared.state.Rule.TheVariants as rule
use Rattle.arr_syntax.specs.declared.state.Head.{Head}
use Rattle.arr_syntax.specs.declared.state.Head.TheVariants as head
use Rattle.arr_syntax.specs.declared.state.Node.{Node}
use Rattle.arr_syntax.specs.declared.state.Node.TheVariants as node
use Rattle.arr_syntax.specs.declared.state.Trees.{Trees}
use Rattle.arr_syntax.specs.declared.state.Trees.TheVariants as trees
use Rattle.arr_syntax.specs.declared.state.Fields.{Fields}
use Rattle.arr_syntax.specs.declared.state.Field.{Field}
use Rattle.arr_syntax.specs.declared.state.Field.TheVariants as field
use Rattle.arr_syntax.specs.declared.state.Part.{Part}
use Rattle.arr_syntax.specs.declared.state.Part.TheVariants as part
use Rattle.arr_syntax.specs.declared.state.Row.{Row}
use Rattle.arr_syntax.specs.declared.state.Frame.{Frame}
use Rattle.arr_syntax.specs.declared.state.State.{State}
use Rattle.arr_syntax.specs.declared.state.State.TheVariants as state
use Rattle.arr_syntax.specs.declared.state.Move.{Move}
use Rattle.arr_syntax.specs.declared.state.Move.TheVariants as move
use Rattle.arr_syntax.specs.declared.state.Filled.{Filled}
use Rattle.arr_syntax.specs.declared.state.Filled.TheVariants as bare
use Rattle.arr_syntax.specs.Filling.{Filling, with_fields}
use Rattle.arr_syntax.specs.Filling as filled
use Rattle.arr_tree.specs.declared.tree.Code16.{Code16}
use Rattle.arr_tree.specs.declared.tree.Code16.TheVariants as code
use Rattle.arr_tree.specs.declared.tree.Type4.TheVariants.{I64}
use Rattle.arr_tree.specs.declared.tree.Cut.{Cut}
use Rattle.arr_tree.specs.declared.tree.Word.{Word}
use Rattle.arr_tree.specs.declared.tree.Expr.{Expr}
use Rattle.arr_tree.specs.declared.tree.ExprForm.{ExprForm}
use Rattle.arr_tree.specs.declared.tree.ExprForm.TheVariants as expr
use Rattle.arr_tree.specs.declared.tree.Form.{Form}
use Rattle.arr_tree.specs.declared.tree.Form.TheVariants as form
use Rattle.arr_tree.specs.declared.tree.Statement.{Statement}
use Rattle.arr_tree.specs.Trees.{literal_at, word_at, name_of, lengths_at, steps_at, delete_of, flush_of, cut}
use Rattle.arr_syntax.specs.Grammar.{operator, comparison}

-- what was read of a row

abbrev pub fresh : Place → Fields
fresh at = record { trees = trees.None; number = 0; number_at = at; to = I64; equals = at; shape = lengths_at at []; strides = steps_at at []; cuts = [] }

-- one more tree; of three the last one is the next
abbrev pub and_tree : Trees → Expr → Trees
and_tree trees.None t = trees.One t
and_tree (trees.One a) t = trees.Two a t
and_tree (trees.Two a b) t = trees.Three a b t
and_tree (trees.Three a b c) t = trees.Three a b t

abbrev pub with_tree : Fields → Expr → Fields
with_tree f t = record f { trees = and_tree f.trees t }

abbrev pub with_cut : Fields → Cut → Fields
with_cut f c = record f { cuts = f.cuts ++ c ∷ [] }

-- a field whose token is not kept goes on to another
abbrev pub turns : Field → Token → Place → Option Field
turns field.TypeOrClose (token.Sign sign.Comma) at = Some field.LastType
turns field.Literal (token.Sign sign.Minus) at = Some (field.Size at)
turns field.MoreLengths (token.Sign sign.Comma) at = Some field.Length
turns field.Stride (token.Sign sign.Minus) at = Some field.NegativeStride
turns field.MoreStrides (token.Sign sign.Comma) at = Some field.Stride
turns field.Start (token.Number n) at = Some (field.Colon (cut (Some n) None None))
turns field.Start (token.Sign sign.Colon) at = Some (field.Stop (cut None None None))
turns (field.Colon c) (token.Sign sign.Colon) at = Some (field.Stop c)
turns (field.Stop c) (token.Number n) at = Some (field.AfterStop (record c { stop = Some n }))
turns (field.Stop c) (token.Sign sign.Colon) at = Some (field.Step (record c { stop = None }))
turns (field.AfterStop c) (token.Sign sign.Colon) at = Some (field.Step c)
turns (field.Step c) (token.Number n) at = Some (field.AfterStep (record c { step = Some (pos n) }))
turns (field.Step c) (token.Sign sign.Minus) at = Some (field.NegativeStep c)
turns (field.NegativeStep c) (token.Number n) at = Some (field.AfterStep (record c { step = Some (neg_ℤ (pos n)) }))
turns _ t at = None

-- a slice, where it may end
abbrev pub whole : Field → Option Cut
whole (field.Stop c) = Some (record c { stop = None })
whole (field.AfterStop c) = Some c
whole (field.Step c) = Some (record c { step = None })
whole (field.AfterStep c) = Some c
whole _ = None

-- behind a slice
abbrev pub behind_cut : Token → Filled
behind_cut (token.Sign sign.Comma) = bare.Turns field.Start
behind_cut (token.Sign sign.CloseIndex) = bare.Over
behind_cut _ = bare.Stuck

abbrev pub fill_number : Field → ℕ → Place → Fields → Filling
fill_number field.Number n at f = filled.Over (record f { number = n; number_at = at })
fill_number field.Literal n at f = filled.Over (with_tree f (literal_at at false n))
fill_number (field.Size minus_at) n at f = filled.Over (with_tree f (literal_at minus_at true n))
fill_number field.Length n at f = filled.Turns field.MoreLengths (record f { shape = lengths_at f.shape.at (f.shape.list ++ n ∷ []) })
fill_number field.Stride n at f = filled.Turns field.MoreStrides (record f { strides = steps_at f.strides.at (f.strides.list ++ pos n ∷ []) })
fill_number field.NegativeStride n at f = filled.Turns field.MoreStrides (record f { strides = steps_at f.strides.at (f.strides.list ++ neg_ℤ (pos n) ∷ []) })
fill_number _ n at f = filled.Stuck

abbrev pub fill_sign : Field → Sign → Place → Fields → Filling
fill_sign field.Open sign.Open at f = filled.Over f
fill_sign field.Close sign.Close at f = filled.Over f
fill_sign field.Comma sign.Comma at f = filled.Over f
fill_sign field.Equals sign.Assign at f = filled.Over (record f { equals = at })
fill_sign field.TypeOrClose sign.Close at f = filled.Over f
fill_sign field.Shape sign.OpenIndex at f = filled.Turns field.Length (record f { shape = lengths_at at f.shape.list })
fill_sign field.MoreLengths sign.CloseIndex at f = filled.Over f
fill_sign field.Strides sign.OpenIndex at f = filled.Turns field.Stride (record f { strides = steps_at at f.strides.list })
fill_sign field.MoreStrides sign.CloseIndex at f = filled.Over f
fill_sign _ x at f = filled.Stuck

abbrev pub fill_kept : Field → Token → Place → Fields → Filling
fill_kept p (token.Number n) at f = fill_number p n at f
fill_kept p (token.Sign x) at f = fill_sign p x at f
fill_kept field.LastType (token.Keyword (keyword.Type to)) at f = filled.Turns field.Close (record f { to = to })
fill_kept _ t at f = filled.Stuck

abbrev pub fill_end : Option Cut → Field → Token → Place → Fields → Filling
fill_end (Some c) p t at f = with_fields (behind_cut t) (with_cut f c)
fill_end None p t at f = fill_kept p t at f

abbrev pub fill_next : Option Field → Field → Token → Place → Fields → Filling
fill_next (Some q) p t at f = filled.Turns q f
fill_next None p t at f = fill_end (whole p) p t at f

-- what a token makes of a field
abbrev pub fill : Field → Token → Place → Fields → Filling
fill p t at f = fill_next (turns p t at) p t at f

-- the rows

abbrev pub array_row : Mode → View → List Part
array_row m Broadcast = part.Field field.Open ∷ part.Tree m ∷ part.Field field.Comma ∷ part.Field field.Shape ∷ part.Field field.Close ∷ []
array_row m Transpose = part.Field field.Open ∷ part.Tree m ∷ part.Field field.Close ∷ []
array_row m Reshape = part.Field field.Open ∷ part.Tree m ∷ part.Field field.Comma ∷ part.Field field.Shape ∷ part.Field field.Close ∷ []
array_row m Strided =
    part.Field field.Open ∷ part.Tree m ∷ part.Field field.Comma ∷ part.Field field.Number ∷ part.Field field.Comma ∷ part.Field field.Shape
    ∷ part.Field field.Comma ∷ part.Field field.Strides ∷ part.Field field.Close ∷ []

abbrev pub rule_row : Rule → List Part
rule_row rule.Bracket = part.Tree mode.Value ∷ part.Field field.Close ∷ []
rule_row rule.Negative = part.Field field.Number ∷ []
rule_row rule.Invert = part.Tree mode.Value ∷ []
rule_row rule.Index = part.Field field.Start ∷ []
rule_row rule.Power = part.Field field.Number ∷ []
rule_row (rule.Operand n c) = part.Tree mode.Value ∷ []
rule_row rule.Range = part.Field field.Open ∷ part.Field field.Number ∷ part.Field field.TypeOrClose ∷ []
rule_row rule.Full =
    part.Field field.Open ∷ part.Field field.Shape ∷ part.Field field.Comma ∷ part.Field field.Literal ∷ part.Field field.Comma ∷ part.Field field.LastType ∷ []
rule_row (rule.Fold c) = part.Field field.Open ∷ part.Tree mode.Value ∷ part.Field field.Comma ∷ part.Field field.Number ∷ part.Field field.Close ∷ []
rule_row rule.Absolute = part.Field field.Open ∷ part.Tree mode.Value ∷ part.Field field.Close ∷ []
rule_row (rule.Cast to) = part.Field field.Open ∷ part.Tree mode.Value ∷ part.Field field.Close ∷ []
rule_row (rule.Pair c) = part.Field field.Open ∷ part.Tree mode.Value ∷ part.Field field.Comma ∷ part.Tree mode.Value ∷ part.Field field.Close ∷ []
rule_row (rule.View m v) = array_row m v

abbrev pub row_of : Node → List Part
row_of (node.Tree n) = rule_row n
row_of (node.Statement head.Print) = part.Tree mode.Value ∷ []
row_of (node.Statement (head.Bind w)) = part.Tree mode.Value ∷ []
row_of (node.Statement head.Assign) = part.Tree mode.Place ∷ part.Field field.Equals ∷ part.Tree mode.Value ∷ []
row_of (node.Statement (head.Gather w)) =
    part.Field field.Open ∷ part.Tree mode.Value ∷ part.Field field.Comma ∷ part.Tree mode.Value ∷ part.Field field.Close ∷ []
row_of (node.Statement head.Scatter) =
    part.Field field.Open ∷ part.Tree mode.Place ∷ part.Field field.Comma ∷ part.Tree mode.Value ∷ part.Field field.Comma ∷ part.Tree mode.Value
    ∷ part.Field field.Close ∷ []

-- the level at which a tree goes on whose right side is there: a comparison doesn't chain
abbrev pub again : ℕ → ℕ
again n = if eqb n 8 then 9 else n

-- the level of the tree that a row makes up
abbrev pub level_of : Rule → ℕ
level_of rule.Invert = 2
level_of rule.Power = 2
level_of (rule.Operand n c) = again n
level_of _ = 0

-- the level of a value in a row
abbrev pub inner : Node → ℕ
inner (node.Tree rule.Invert) = 2
inner (node.Tree (rule.Operand n c)) = n
inner _ = 9

abbrev pub wanted_in : Node → Mode → ℕ
wanted_in n mode.Value = inner n
wanted_in n mode.Place = 1

-- what a row makes up

abbrev pub code_of : Rule → Code16
code_of (rule.Operand n c) = c
code_of (rule.Fold c) = c
code_of (rule.Pair c) = c
code_of rule.Invert = code.Invert
code_of _ = code.Absolute

abbrev pub view_form : View → Expr → Fields → ExprForm
view_form Broadcast of f = expr.Broadcast of f.shape
view_form Transpose of f = expr.Transpose of
view_form Reshape of f = expr.Reshape of f.shape
view_form Strided of f = expr.Strided of f.number f.shape f.strides

abbrev pub form_of_one : Rule → Expr → Fields → ExprForm
form_of_one rule.Index of f = expr.Index of f.cuts
form_of_one rule.Power of f = expr.Power of f.number
form_of_one rule.Full of f = expr.Full f.shape of f.to
form_of_one (rule.Fold c) of f = expr.Fold c of f.number f.number_at
form_of_one (rule.Cast to) of f = expr.Cast to of
form_of_one (rule.View m v) of f = view_form v of f
form_of_one n of f = expr.Unary (code_of n) of

abbrev pub form_of : Rule → Trees → Fields → ExprForm
form_of rule.Range trees.None f = expr.Range f.number f.number_at f.to
form_of n trees.None f = expr.Literal true f.number
form_of n (trees.One t) f = form_of_one n t f
form_of n (trees.Two l r) f = expr.Binary (code_of n) l r
form_of n (trees.Three t l r) f = form_of_one n t f

abbrev pub made : Rule → Place → Trees → Fields → Expr
made rule.Bracket at (trees.One t) f = t
made n at ts f = record { at = at; form = form_of n ts f }

abbrev pub tree_of : Rule → Place → Fields → Expr
tree_of n at f = made n at f.trees (record f { trees = trees.None })

-- without the trees that a statement has it is `flush`
abbrev pub head_form : Head → Place → Place → Trees → Form
head_form head.Print at equals (trees.One t) = form.Print t
head_form (head.Bind name) at equals (trees.One t) = form.Bind name t
head_form head.Assign at equals (trees.Two target t) = form.Assign target equals t
head_form (head.Gather name) at equals (trees.Two source index) = form.Gather name at source index
head_form head.Scatter at equals (trees.Three target index values) = form.Scatter at target index values
head_form _ at equals ts = form.Flush

abbrev pub stated : Head → Place → Fields → Statement
stated h at f = record { form = head_form h at f.equals f.trees }

-- the stack: the level of the tree that is wanted, and the next state

abbrev pub wanted : List Frame → ℕ
wanted [] = 0
wanted (f ∷ s) = f.level

abbrev pub row : Node → Place → List Part → Fields → Row
row n at ps f = record { node = n; at = at; rest = ps; fields = f }

abbrev pub resume : Node → Place → List Part → Fields → List Frame → Move
resume n at (p ∷ ps) f s = move.On (state.Fill p (row n at ps f) s)
resume (node.Tree n) at [] f s = move.On (state.Have (level_of n) (tree_of n at f) s)
resume (node.Statement h) at [] f s = move.Emit (stated h at f) state.Ended

abbrev pub onward : Node → Place → List Part → List Frame → Filling → Move
onward n at ps s filled.Stuck = move.Stuck
onward n at ps s (filled.Over f) = resume n at ps f s
onward n at ps s (filled.Turns p f) = move.On (state.Fill (part.Field p) (row n at ps f) s)

-- a row of which nothing is read but its first trees
abbrev pub opened : Node → Place → Fields → List Frame → Move
opened n at f s = resume n at (row_of n) f s

abbrev pub opens : Option Rule → Place → Fields → List Frame → Move
opens (Some n) at f s = opened (node.Tree n) at f s
opens None at f s = move.Stuck

-- the rule of a sign behind a tree

abbrev pub either : Option (ℕ × Code16) → Option Code16 → Option Rule
either (Some (n, c)) k = Some (rule.Operand n c)
either None (Some c) = Some (rule.Operand 8 c)
either None None = None

abbrev pub behind : Sign → Option Rule
behind sign.OpenIndex = Some rule.Index
behind sign.Power = Some rule.Power
behind x = either (operator x) (comparison x)

-- the level at which a sign goes on; 9 for the others
abbrev pub rank : Option Rule → ℕ
rank (Some rule.Index) = 0
rank (Some rule.Power) = 1
rank (Some (rule.Operand n c)) = n
rank _ = 9

abbrev pub level : Token → ℕ
level (token.Sign x) = rank (behind x)
level _ = 9

abbrev pub goes : Token → Place → List Frame → Expr → Move
goes (token.Sign x) at s t = opens (behind x) at (with_tree (fresh at) t) s
goes _ at s t = move.Stuck

abbrev pub ends : Token → Statement → Move
ends token.Line s = move.Emit s state.Start
ends token.End s = move.Emit s state.Finished
ends _ s = move.Stuck

-- the beginning of a tree

abbrev pub rule_at : Mode → Token → Option Rule
rule_at mode.Value (token.Sign sign.Minus) = Some rule.Negative
rule_at mode.Value (token.Sign sign.Open) = Some rule.Bracket
rule_at mode.Value (token.Sign sign.Not) = Some rule.Invert
rule_at mode.Value (token.Keyword keyword.Range) = Some rule.Range
rule_at mode.Value (token.Keyword keyword.Full) = Some rule.Full
rule_at mode.Value (token.Keyword (keyword.Fold c)) = Some (rule.Fold c)
rule_at mode.Value (token.Keyword keyword.Absolute) = Some rule.Absolute
rule_at mode.Value (token.Keyword (keyword.Pair c)) = Some (rule.Pair c)
rule_at mode.Value (token.Keyword (keyword.Type to)) = Some (rule.Cast to)
rule_at m (token.Keyword (keyword.View v)) = Some (rule.View m v)
rule_at _ _ = None

abbrev pub begins : Mode → Token → Place → List Frame → Move
begins m (token.Name x) at s = move.On (state.Have 0 (name_of (word_at at x)) s)
begins mode.Value (token.Number n) at s = move.On (state.Have 0 (literal_at at false n) s)
begins m t at s = opens (rule_at m t) at (fresh at) s

abbrev pub frame : Node → Place → Mode → List Part → Fields → Frame
frame n at m ps f = record { row = row n at ps f; level = wanted_in n m }

abbrev pub take : Node → Place → Part → List Part → Fields → List Frame → Item → Move
take n at (part.Tree m) ps f s i = begins m i.token i.at (frame n at m ps f ∷ s)
take n at (part.Field p) ps f s i = onward n at ps s (fill p i.token i.at f)

-- a frame has its tree, and the token comes after it

abbrev pub leaves : Node → Place → List Part → Fields → List Frame → Item → (ℕ → Expr → Move) → Move
leaves n at (p ∷ ps) f s i back = take n at p ps f s i
leaves (node.Tree n) at [] f s i back = back (level_of n) (tree_of n at f)
leaves (node.Statement h) at [] f s i back = ends i.token (stated h at f)

abbrev pub fits : ℕ → Token → ℕ → Bool
fits n t w = nat_le n (level t) && nat_lt (level t) w

-- a token behind a tree of this level: it goes on there, or the innermost frame has its tree
abbrev pub give : List Frame → ℕ → Expr → Item → Move
give [] n t i = move.Stuck
give (f ∷ s) n t i = cond (fits n i.token f.level) (goes i.token i.at (f ∷ s) t) (leaves f.row.node f.row.at f.row.rest (with_tree f.row.fields t) s i (λ m u. give s m u i))

-- the beginning and the end of a statement

-- the stack of the target of a statement
abbrev pub target : Place → List Frame
target at = frame (node.Statement head.Assign) at mode.Place (part.Field field.Equals ∷ part.Tree mode.Value ∷ []) (fresh at) ∷ []

-- and of the value that a name is bound to
abbrev pub bound : Word → List Frame
bound w = frame (node.Statement (head.Bind w)) w.at mode.Value [] (fresh w.at) ∷ []

abbrev pub starts : Token → Place → Move
starts (token.Keyword keyword.Print) at = opened (node.Statement head.Print) at (fresh at) []
starts (token.Keyword keyword.Del) at = move.On state.Delete
starts (token.Keyword keyword.Flush) at = move.Emit flush_of state.Ended
starts (token.Keyword keyword.Scatter) at = opened (node.Statement head.Scatter) at (fresh at) []
starts (token.Keyword (keyword.View v)) at = opened (node.Tree (rule.View mode.Place v)) at (fresh at) (target at)
starts (token.Name x) at = move.On (state.Named (word_at at x))
starts token.Line at = move.On state.Start
starts token.End at = move.On state.Finished
starts _ at = move.Stuck

abbrev pub named : Token → Place → Word → Move
named (token.Sign sign.Assign) at w = move.On (state.Bound w)
named (token.Sign sign.OpenIndex) at w = opened (node.Tree rule.Index) at (with_tree (fresh at) (name_of w)) (target at)
named _ at w = move.Stuck

abbrev pub binds : Token → Place → Word → Move
binds (token.Keyword keyword.Gather) at w = opened (node.Statement (head.Gather w)) at (fresh at) []
binds t at w = begins mode.Value t at (bound w)

abbrev pub deletes : Token → Place → Move
deletes (token.Name x) at = move.Emit (delete_of (word_at at x)) state.Ended
deletes _ at = move.Stuck

abbrev pub ended : Token → Move
ended token.Line = move.On state.Start
ended token.End = move.On state.Finished
ended _ = move.Stuck

-- what a token makes of a state
abbrev pub step : State → Item → Move
step state.Start i = starts i.token i.at
step (state.Named w) i = named i.token i.at w
step (state.Bound w) i = binds i.token i.at w
step state.Delete i = deletes i.token i.at
step state.Ended i = ended i.token
step (state.Have n t s) i = give s n t i
step (state.Fill p w s) i = take w.node w.at p w.rest w.fields s i
step state.Finished i = move.Stuck
