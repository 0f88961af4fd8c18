-- What the tokens must be from a state on, by the grammar.
use Rattle.std.proofs.Common.{◌≡◌, ℕ, suc, ℤ, pos, neg_ℤ, ◌≤◌, Bool, true, List, [], ◌∷◌, ◌++◌, Option, Some, ◌⊎◌}
use Rattle.arr_tree.specs.declared.refusal.Place.{Place}
use Rattle.arr_tokens.specs.declared.token.Item.{Item}
use Rattle.arr_tokens.specs.declared.token.Sign.TheVariants as sign
use Rattle.arr_tokens.specs.declared.token.Keyword.TheVariants as keyword
use Rattle.arr_syntax.specs.declared.state.Mode.{Mode}
use Rattle.arr_syntax.specs.declared.state.Mode.TheVariants as mode
use Rattle.arr_syntax.specs.declared.state.Head.TheVariants as head
use Rattle.arr_syntax.specs.declared.state.Node.{Node}
use Rattle.arr_syntax.specs.declared.state.Node.TheVariants as node
use Rattle.arr_syntax.specs.declared.state.Fields.{Fields}
use Rattle.arr_syntax.specs.declared.state.Field.{Field}
use Rattle.arr_syntax.specs.declared.state.Field.TheVariants as field
use Rattle.arr_syntax.specs.declared.state.Part.{Part}
use Rattle.arr_syntax.specs.declared.state.Part.TheVariants as part
use Rattle.arr_syntax.specs.declared.state.Frame.{Frame}
use Rattle.arr_syntax.specs.declared.state.State.{State}
use Rattle.arr_syntax.specs.declared.state.State.TheVariants as state
use Rattle.arr_syntax.specs.declared.state.Move.{Move}
use Rattle.arr_syntax.specs.declared.state.Move.TheVariants as move
use Rattle.arr_syntax.specs.Filling.{Filling}
use Rattle.arr_syntax.specs.Filling as filled
use Rattle.arr_tree.specs.declared.tree.Type4.{Type4}
use Rattle.arr_tree.specs.declared.tree.Cut.{Cut}
use Rattle.arr_tree.specs.declared.tree.Word.{Word}
use Rattle.arr_tree.specs.declared.tree.Expr.{Expr}
use Rattle.arr_tree.specs.declared.tree.Statement.{Statement}
use Rattle.arr_tree.specs.Trees.{literal_at, lengths_at, steps_at, index_at, name_of, word_at, delete_of}
use Rattle.arr_syntax.specs.Grammar.{IsSign, IsKeyword, IsName, IsNumber, Literal, Listed, Length, Stride, Bound, Step, Slice, Shape, Strides, Index, Level, Placed, Rest, Script, Ends}
use Rattle.arr_syntax.specs.Machine.{fresh, with_tree, with_cut, row_of, level_of, inner, wanted_in, tree_of, stated, wanted, target, bound}

-- a token comes next of which this holds, with the tokens after it
abbrev pub Then : List Item → (Item → List Item → Type 0) → Type 0
Then [] P = ⊥
Then (i ∷ ts) P = P i ts

abbrev pub IsEmpty : List Item → Type 0
IsEmpty [] = Unit {0}
IsEmpty (i ∷ ts) = ⊥

-- what a part takes of the tokens, with what must hold of the fields and the tokens behind it

abbrev pub LastTypeIn : Fields → List Item → (Fields → List Item → Type 0) → Type 0
LastTypeIn f ts K = Then ts (λ i b. (to : Type4) × IsKeyword i (keyword.Type to) × Then b (λ j c. IsSign j sign.Close × K (record f { to = to }) c))

abbrev pub LengthIn : Fields → List Item → (Fields → List Item → Type 0) → Type 0
LengthIn f ts K = (xs : List ℕ) × (b : List Item) × Listed ℕ Length ts xs b × K (record f { shape = lengths_at f.shape.at (f.shape.list ++ xs) }) b

abbrev pub MoreIn : List Item → (List Item → Type 0) → (List Item → Type 0) → Type 0
MoreIn ts over more = Then ts (λ i b. (IsSign i sign.CloseIndex × over b) ⊎ (IsSign i sign.Comma × more b))

abbrev pub StrideIn : Fields → List Item → (Fields → List Item → Type 0) → Type 0
StrideIn f ts K = (xs : List ℤ) × (b : List Item) × Listed ℤ Stride ts xs b × K (record f { strides = steps_at f.strides.at (f.strides.list ++ xs) }) b

abbrev pub MoreStridesIn : Fields → List Item → (Fields → List Item → Type 0) → Type 0
MoreStridesIn f ts K = MoreIn ts (λ b. K f b) (λ b. StrideIn f b K)

abbrev pub StartIn : Fields → List Item → (Fields → List Item → Type 0) → Type 0
StartIn f ts K = (xs : List Cut) × (b : List Item) × Listed Cut Slice ts xs b × K (record f { cuts = f.cuts ++ xs }) b

abbrev pub AfterStepIn : Cut → Fields → List Item → (Fields → List Item → Type 0) → Type 0
AfterStepIn c f ts K = MoreIn ts (λ b. K (with_cut f c) b) (λ b. StartIn (with_cut f c) b K)

abbrev pub StepIn : Cut → Fields → List Item → (Fields → List Item → Type 0) → Type 0
StepIn c f ts K = (o : Option ℤ) × (b : List Item) × Step ts o b × AfterStepIn (record c { step = o }) f b K

abbrev pub AfterStopIn : Cut → Fields → List Item → (Fields → List Item → Type 0) → Type 0
AfterStopIn c f ts K = AfterStepIn c f ts K ⊎ Then ts (λ i b. IsSign i sign.Colon × StepIn c f b K)

abbrev pub StopIn : Cut → Fields → List Item → (Fields → List Item → Type 0) → Type 0
StopIn c f ts K = (o : Option ℕ) × (b : List Item) × Bound ts o b × AfterStopIn (record c { stop = o }) f b K

abbrev pub FieldIn : Field → Fields → List Item → (Fields → List Item → Type 0) → Type 0
FieldIn field.Open f ts K = Then ts (λ i b. IsSign i sign.Open × K f b)
FieldIn field.Close f ts K = Then ts (λ i b. IsSign i sign.Close × K f b)
FieldIn field.Comma f ts K = Then ts (λ i b. IsSign i sign.Comma × K f b)
FieldIn field.Equals f ts K = Then ts (λ i b. IsSign i sign.Assign × K (record f { equals = i.at }) b)
FieldIn field.Number f ts K = Then ts (λ i b. (n : ℕ) × IsNumber i n × K (record f { number = n; number_at = i.at }) b)
FieldIn field.TypeOrClose f ts K = Then ts (λ i b. (IsSign i sign.Close × K f b) ⊎ (IsSign i sign.Comma × LastTypeIn f b K))
FieldIn field.LastType f ts K = LastTypeIn f ts K
FieldIn field.Literal f ts K = (at : Place) × (negative : Bool) × (n : ℕ) × (b : List Item) × Literal ts at negative n b × K (with_tree f (literal_at at negative n)) b
FieldIn (field.Size at) f ts K = Then ts (λ i b. (n : ℕ) × IsNumber i n × K (with_tree f (literal_at at true n)) b)
FieldIn field.Shape f ts K = (at : Place) × (xs : List ℕ) × (b : List Item) × Shape ts at xs b × K (record f { shape = lengths_at at (f.shape.list ++ xs) }) b
FieldIn field.Length f ts K = LengthIn f ts K
FieldIn field.MoreLengths f ts K = MoreIn ts (λ b. K f b) (λ b. LengthIn f b K)
FieldIn field.Strides f ts K = (at : Place) × (xs : List ℤ) × (b : List Item) × Strides ts at xs b × K (record f { strides = steps_at at (f.strides.list ++ xs) }) b
FieldIn field.Stride f ts K = StrideIn f ts K
FieldIn field.NegativeStride f ts K = Then ts (λ i b. (n : ℕ) × IsNumber i n × MoreStridesIn (record f { strides = steps_at f.strides.at (f.strides.list ++ neg_ℤ (pos n) ∷ []) }) b K)
FieldIn field.MoreStrides f ts K = MoreStridesIn f ts K
FieldIn field.Start f ts K = StartIn f ts K
FieldIn (field.Colon c) f ts K = Then ts (λ i b. IsSign i sign.Colon × StopIn c f b K)
FieldIn (field.Stop c) f ts K = StopIn c f ts K
FieldIn (field.AfterStop c) f ts K = AfterStopIn c f ts K
FieldIn (field.Step c) f ts K = StepIn c f ts K
FieldIn (field.NegativeStep c) f ts K = Then ts (λ i b. (n : ℕ) × IsNumber i n × AfterStepIn (record c { step = Some (neg_ℤ (pos n)) }) f b K)
FieldIn (field.AfterStep c) f ts K = AfterStepIn c f ts K

abbrev pub Tree : Mode → ℕ → List Item → Expr → List Item → Type 0
Tree mode.Value n = Level n
Tree mode.Place n = Placed

abbrev pub PartIn : Node → Part → Fields → List Item → (Fields → List Item → Type 0) → Type 0
PartIn n (part.Tree m) f ts K = (t : Expr) × (b : List Item) × Tree m (wanted_in n m) ts t b × K (with_tree f t) b
PartIn n (part.Field p) f ts K = FieldIn p f ts K

abbrev pub Fills : Node → List Part → Fields → List Item → (Fields → List Item → Type 0) → Type 0
Fills n [] f ts K = K f ts
Fills n (p ∷ ps) f ts K = PartIn n p f ts (λ g b. Fills n ps g b K)

-- a tree at a level goes on to a tree at a higher one
pub data Climb : ℕ → ℕ → Expr → List Item → Expr → List Item → Type 0 where
  there : {n : ℕ} {t : Expr} {a : List Item} → Climb n n t a t a
  up : {n m : ℕ} {t u v : Expr} {a b c : List Item} → Rest n t a u b → Climb (suc n) m u b v c → Climb n m t a v c

-- the tree goes on to a level, and this holds there
abbrev pub Goes : (Expr → List Item → Type 0) → ℕ → ℕ → Expr → List Item → Type 0
Goes A n m t ts = (u : Expr) × (b : List Item) × Climb n m t ts u b × A u b

-- the statement is over, and the rest of the script follows
abbrev pub Over : Statement → List Item → List Statement → Type 0
Over st b r = (ss : List Statement) × Ends b ss × (r ≡ st ∷ ss)

-- the row makes up a tree, or a statement that is over
abbrev pub Makes : Node → Place → Fields → List Item → List Statement → (ℕ → Expr → List Item → Type 0) → Type 0
Makes (node.Tree n) at f b r back = back (level_of n) (tree_of n at f) b
Makes (node.Statement h) at f b r back = Over (stated h at f) b r

-- the parts of the row follow, and then what it makes up goes on
abbrev pub Leaves : Node → Place → List Part → Fields → List Item → List Statement → (ℕ → Expr → List Item → Type 0) → Type 0
Leaves n at ps f b r back = Fills n ps f b (λ g c. Makes n at g c r back)

abbrev pub After : List Frame → Expr → List Item → List Statement → Type 0
After [] u b r = ⊥
After (f ∷ s) u b r = Leaves f.row.node f.row.at f.row.rest (with_tree f.row.fields u) b r (λ n v c. Goes (λ w d. After s w d r) n (wanted s) v c)

-- a tree of this level stands over the stack
abbrev pub Given : ℕ → List Frame → Expr → List Item → List Statement → Type 0
Given n s t ts r = Goes (λ u b. After s u b r) n (wanted s) t ts

-- the parts of a row over the stack
abbrev pub RowIn : Node → Place → List Part → Fields → List Frame → List Item → List Statement → Type 0
RowIn n at ps f s ts r = Leaves n at ps f ts r (λ m t b. Given m s t b r)

abbrev pub Wants : Mode → List Frame → List Item → List Statement → Type 0
Wants m s ts r = (t : Expr) × (b : List Item) × Tree m (wanted s) ts t b × After s t b r

-- what a name is bound to
abbrev pub BoundIn : Word → List Item → List Statement → Type 0
BoundIn w ts r =
    Wants mode.Value (bound w) ts r
    ⊎ Then ts (λ i b. IsKeyword i keyword.Gather × RowIn (node.Statement (head.Gather w)) i.at (row_of (node.Statement (head.Gather w))) (fresh i.at) [] b r)

abbrev pub Completes : State → List Item → List Statement → Type 0
Completes state.Start ts r = Script ts r
Completes (state.Named w) ts r =
    Then ts (λ i b. IsSign i sign.Assign × BoundIn w b r)
    ⊎ ((at : Place) × (cuts : List Cut) × (b : List Item) × Index ts at cuts b × Given 0 (target at) (index_at at (name_of w) cuts) b r)
Completes (state.Bound w) ts r = BoundIn w ts r
Completes state.Delete ts r = Then ts (λ i b. (x : List ℕ) × IsName i x × Over (delete_of (word_at i.at x)) b r)
Completes state.Ended ts r = Ends ts r
Completes (state.Have n t s) ts r = Given n s t ts r
Completes (state.Fill p w s) ts r = RowIn w.node w.at (p ∷ w.rest) w.fields s ts r
Completes state.Finished ts r = IsEmpty ts × (r ≡ [])

-- what a token made goes on to the rest of the script
abbrev pub Next : Move → List Item → List Statement → Type 0
Next move.Stuck ts r = ⊥
Next (move.On st) ts r = Completes st ts r
Next (move.Emit s st) ts r = (ss : List Statement) × Completes st ts ss × (r ≡ s ∷ ss)

abbrev pub NextField : Filling → List Item → (Fields → List Item → Type 0) → Type 0
NextField filled.Stuck ts K = ⊥
NextField (filled.Over f) ts K = K f ts
NextField (filled.Turns p f) ts K = FieldIn p f ts K

-- the level that a row with nothing more to come makes up
abbrev pub ending : Node → ℕ
ending (node.Tree n) = level_of n
ending (node.Statement h) = 9

-- what follows a tree of this level in a row is no sign that would go on at it
abbrev pub Low : Node → ℕ → List Part → Type 0
Low n w [] = w ≤ ending n
Low n w (part.Field field.Close ∷ ps) = w ≤ 9
Low n w (part.Field field.Comma ∷ ps) = w ≤ 9
Low n w (part.Field field.Equals ∷ ps) = w ≤ 9
Low n w (_ ∷ ps) = ⊥

abbrev pub Rowed : Node → List Part → Type 0
Rowed n [] = Unit {0}
Rowed n (part.Tree m ∷ ps) = Low n (wanted_in n m) ps × Rowed n ps
Rowed n (part.Field p ∷ ps) = Rowed n ps

-- the row stands where a tree of this level is wanted, or is a statement
abbrev pub Sits : Node → ℕ → Type 0 → Type 0
Sits (node.Tree n) w F = (2 ≤ inner (node.Tree n)) × (level_of n ≤ w) × F
Sits (node.Statement h) w F = Unit {0}

-- each frame stands on one that takes what it makes up
abbrev pub Formed : List Frame → Type 0
Formed [] = ⊥
Formed (f ∷ s) = Low f.row.node f.level f.row.rest × Rowed f.row.node f.row.rest × Sits f.row.node (wanted s) (Formed s)

abbrev pub Takes : Mode → List Frame → Type 0
Takes mode.Value s = 2 ≤ wanted s
Takes mode.Place s = wanted s ≡ 1

abbrev pub WellFormed : State → Type 0
WellFormed (state.Have n t s) = (n ≤ wanted s) × Formed s
WellFormed (state.Fill p w s) = Rowed w.node (p ∷ w.rest) × Sits w.node (wanted s) (Formed s)
WellFormed _ = Unit {0}

abbrev pub WellMoved : Move → Type 0
WellMoved move.Stuck = Unit {0}
WellMoved (move.On st) = WellFormed st
WellMoved (move.Emit s st) = WellFormed st
