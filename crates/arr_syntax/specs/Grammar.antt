-- The grammar, by its cases. `X before tree after` says that the tokens of `before` up to `after` are an X that stands for the tree.
use Rattle.std.specs.Prelude.{◌≡◌, ℕ, zero, suc, ℤ, Bool, true, false, List, [], ◌∷◌, Option, Some, None}
use Rattle.arr_tree.specs.declared.refusal.Place.{Place}
use Rattle.arr_tokens.specs.declared.token.Item.{Item}
use Rattle.arr_tokens.specs.declared.token.Token.TheVariants as token
use Rattle.arr_tokens.specs.declared.token.Sign.{Sign}
use Rattle.arr_tokens.specs.declared.token.Sign.TheVariants as sign
use Rattle.arr_tokens.specs.declared.token.Keyword.{Keyword}
use Rattle.arr_tokens.specs.declared.token.Keyword.TheVariants as keyword
use Rattle.arr_tokens.specs.declared.token.View.TheVariants.{Broadcast, Transpose, Reshape, Strided}
use Rattle.arr_syntax.specs.declared.state.Mode.{Mode}
use Rattle.arr_syntax.specs.declared.state.Mode.TheVariants as mode
use Rattle.arr_tree.specs.declared.tree.Code16.{Code16}
use Rattle.arr_tree.specs.declared.tree.Code16.TheVariants as code
use Rattle.arr_tree.specs.declared.tree.Type4.{Type4}
use Rattle.arr_tree.specs.declared.tree.Type4.TheVariants.{I64}
use Rattle.arr_tree.specs.declared.tree.Cut.{Cut}
use Rattle.arr_tree.specs.declared.tree.Expr.{Expr}
use Rattle.arr_tree.specs.declared.tree.Statement.{Statement}
use Rattle.arr_tree.specs.Trees.{literal_at, word_at, name_of, unary_at, binary_at, power_at, fold_at, cast_at, range_at, lengths_at, steps_at, full_at, index_at, broadcast_at, transpose_at, reshape_at, strided_at, print_of, delete_of, flush_of, bind_of, assign_of, gather_of, scatter_of, signed, cut}

-- the level and the code of each binary sign that groups to the left
abbrev pub operator : Sign → Option (ℕ × Code16)
operator sign.Star = Some (2, code.Multiply)
operator sign.Slash = Some (2, code.Divide)
operator sign.Percent = Some (2, code.Mod)
operator sign.Plus = Some (3, code.Add)
operator sign.Minus = Some (3, code.Subtract)
operator sign.LeftShift = Some (4, code.LeftShift)
operator sign.RightShift = Some (4, code.RightShift)
operator sign.And = Some (5, code.BitwiseAnd)
operator sign.Xor = Some (6, code.BitwiseXor)
operator sign.Or = Some (7, code.BitwiseOr)
operator _ = None

-- the comparisons, which don't chain
abbrev pub comparison : Sign → Option Code16
comparison sign.Equal = Some code.Equal
comparison sign.NotEqual = Some code.NotEqual
comparison sign.Less = Some code.Less
comparison sign.LessEqual = Some code.LessEqual
comparison sign.Greater = Some code.Greater
comparison sign.GreaterEqual = Some code.GreaterEqual
comparison _ = None

-- what a token is

abbrev pub IsSign : Item → Sign → Type 0
IsSign i x = i.token ≡ token.Sign x

abbrev pub IsKeyword : Item → Keyword → Type 0
IsKeyword i k = i.token ≡ token.Keyword k

abbrev pub IsName : Item → List ℕ → Type 0
IsName i x = i.token ≡ token.Name x

abbrev pub IsNumber : Item → ℕ → Type 0
IsNumber i n = i.token ≡ token.Number n

-- literals and lists

-- [ "-" ] number
pub data Literal : List Item → Place → Bool → ℕ → List Item → Type 0 where
  plain : {i : Item} {n : ℕ} {c : List Item} → IsNumber i n → Literal (i ∷ c) i.at false n c
  negative : {i j : Item} {n : ℕ} {c : List Item} → IsSign i sign.Minus → IsNumber j n → Literal (i ∷ j ∷ c) i.at true n c

-- X { "," X } "]"
pub data Listed (A : Type 0) (X : List Item → A → List Item → Type 0) : List Item → List A → List Item → Type 0 where
  last : {a c : List Item} {i : Item} {x : A} → X a x (i ∷ c) → IsSign i sign.CloseIndex → Listed A X a (x ∷ []) c
  and_more : {a b c : List Item} {i : Item} {x : A} {xs : List A} →
      X a x (i ∷ b) → IsSign i sign.Comma → Listed A X b xs c → Listed A X a (x ∷ xs) c

-- "[" X { "," X } "]", with the place of the "["
pub data Bracketed (A : Type 0) (X : List Item → A → List Item → Type 0) : List Item → Place → List A → List Item → Type 0 where
  bracketed : {i : Item} {a c : List Item} {xs : List A} → IsSign i sign.OpenIndex → Listed A X a xs c → Bracketed A X (i ∷ a) i.at xs c

pub data Length : List Item → ℕ → List Item → Type 0 where
  one_length : {i : Item} {n : ℕ} {c : List Item} → IsNumber i n → Length (i ∷ c) n c

pub data Stride : List Item → ℤ → List Item → Type 0 where
  one_stride : {a c : List Item} {at : Place} {negative : Bool} {n : ℕ} → Literal a at negative n c → Stride a (signed negative n) c

-- [ number ]
pub data Bound : List Item → Option ℕ → List Item → Type 0 where
  no_bound : {c : List Item} → Bound c None c
  one_bound : {i : Item} {n : ℕ} {c : List Item} → IsNumber i n → Bound (i ∷ c) (Some n) c

-- [ literal ]
pub data Step : List Item → Option ℤ → List Item → Type 0 where
  no_step : {c : List Item} → Step c None c
  one_step : {a c : List Item} {at : Place} {negative : Bool} {n : ℕ} → Literal a at negative n c → Step a (Some (signed negative n)) c

-- [ number ] ":" [ number ] [ ":" [ literal ] ]
pub data Slice : List Item → Cut → List Item → Type 0 where
  short : {a b c : List Item} {i : Item} {start stop : Option ℕ} →
      Bound a start (i ∷ b) → IsSign i sign.Colon → Bound b stop c → Slice a (cut start stop None) c
  long : {a b c d : List Item} {i j : Item} {start stop : Option ℕ} {step : Option ℤ} →
      Bound a start (i ∷ b) → IsSign i sign.Colon → Bound b stop (j ∷ c) → IsSign j sign.Colon → Step c step d → Slice a (cut start stop step) d

abbrev pub Shape : List Item → Place → List ℕ → List Item → Type 0
Shape = Bracketed ℕ Length

abbrev pub Strides : List Item → Place → List ℤ → List Item → Type 0
Strides = Bracketed ℤ Stride

abbrev pub Index : List Item → Place → List Cut → List Item → Type 0
Index = Bracketed Cut Slice

-- [ "," type ]
pub data RangeType : List Item → Type4 → List Item → Type 0 where
  no_type : {c : List Item} → RangeType c I64 c
  one_type : {i j : Item} {to : Type4} {c : List Item} → IsSign i sign.Comma → IsKeyword j (keyword.Type to) → RangeType (i ∷ j ∷ c) to c

-- expressions

mutual
  pub data Primary : List Item → Expr → List Item → Type 0 where
    literal : {a c : List Item} {at : Place} {negative : Bool} {n : ℕ} → Literal a at negative n c → Primary a (literal_at at negative n) c
    name : {i : Item} {x : List ℕ} {c : List Item} → IsName i x → Primary (i ∷ c) (name_of (word_at i.at x)) c
    bracket : {i j : Item} {t : Expr} {a c : List Item} → IsSign i sign.Open → Level 9 a t (j ∷ c) → IsSign j sign.Close → Primary (i ∷ a) t c
    range : {i j k l : Item} {n : ℕ} {to : Type4} {a c : List Item} →
        IsKeyword i keyword.Range → IsSign j sign.Open → IsNumber k n → RangeType a to (l ∷ c) → IsSign l sign.Close →
        Primary (i ∷ j ∷ k ∷ a) (range_at i.at n k.at to) c
    full : {i j k l m o : Item} {at literal_is_at : Place} {shape : List ℕ} {negative : Bool} {n : ℕ} {to : Type4} {a b c : List Item} →
        IsKeyword i keyword.Full → IsSign j sign.Open → Shape a at shape (k ∷ b) → IsSign k sign.Comma →
        Literal b literal_is_at negative n (l ∷ m ∷ o ∷ c) → IsSign l sign.Comma → IsKeyword m (keyword.Type to) → IsSign o sign.Close →
        Primary (i ∷ j ∷ a) (full_at i.at (lengths_at at shape) (literal_at literal_is_at negative n) to) c
    fold : {i j k l m : Item} {fold_code : Code16} {t : Expr} {n : ℕ} {a c : List Item} →
        IsKeyword i (keyword.Fold fold_code) → IsSign j sign.Open → Level 9 a t (k ∷ l ∷ m ∷ c) → IsSign k sign.Comma → IsNumber l n → IsSign m sign.Close →
        Primary (i ∷ j ∷ a) (fold_at i.at fold_code t n l.at) c
    absolute : {i j k : Item} {t : Expr} {a c : List Item} →
        IsKeyword i keyword.Absolute → IsSign j sign.Open → Level 9 a t (k ∷ c) → IsSign k sign.Close → Primary (i ∷ j ∷ a) (unary_at i.at code.Absolute t) c
    pair : {i j k l : Item} {pair_code : Code16} {t u : Expr} {a b c : List Item} →
        IsKeyword i (keyword.Pair pair_code) → IsSign j sign.Open → Level 9 a t (k ∷ b) → IsSign k sign.Comma → Level 9 b u (l ∷ c) → IsSign l sign.Close →
        Primary (i ∷ j ∷ a) (binary_at i.at pair_code t u) c
    cast : {i j k : Item} {to : Type4} {t : Expr} {a c : List Item} →
        IsKeyword i (keyword.Type to) → IsSign j sign.Open → Level 9 a t (k ∷ c) → IsSign k sign.Close → Primary (i ∷ j ∷ a) (cast_at i.at to t) c
    viewed : {t : Expr} {a c : List Item} → ViewCall mode.Value a t c → Primary a t c

  -- the array of a view call: an expression, or a place where the call is a place
  pub data Argument : Mode → List Item → Expr → List Item → Type 0 where
    value : {t : Expr} {a c : List Item} → Level 9 a t c → Argument mode.Value a t c
    place : {t : Expr} {a c : List Item} → Placed a t c → Argument mode.Place a t c

  pub data ViewCall : Mode → List Item → Expr → List Item → Type 0 where
    broadcast : {m : Mode} {i j k l : Item} {t : Expr} {at : Place} {shape : List ℕ} {a b c : List Item} →
        IsKeyword i (keyword.View Broadcast) → IsSign j sign.Open → Argument m a t (k ∷ b) → IsSign k sign.Comma → Shape b at shape (l ∷ c) → IsSign l sign.Close →
        ViewCall m (i ∷ j ∷ a) (broadcast_at i.at t (lengths_at at shape)) c
    transpose : {m : Mode} {i j k : Item} {t : Expr} {a c : List Item} →
        IsKeyword i (keyword.View Transpose) → IsSign j sign.Open → Argument m a t (k ∷ c) → IsSign k sign.Close →
        ViewCall m (i ∷ j ∷ a) (transpose_at i.at t) c
    reshape : {m : Mode} {i j k l : Item} {t : Expr} {at : Place} {shape : List ℕ} {a b c : List Item} →
        IsKeyword i (keyword.View Reshape) → IsSign j sign.Open → Argument m a t (k ∷ b) → IsSign k sign.Comma → Shape b at shape (l ∷ c) → IsSign l sign.Close →
        ViewCall m (i ∷ j ∷ a) (reshape_at i.at t (lengths_at at shape)) c
    strided : {m : Mode} {i j k l o p q : Item} {t : Expr} {n : ℕ} {at strides_are_at : Place} {shape : List ℕ} {strides : List ℤ} {a b c d : List Item} →
        IsKeyword i (keyword.View Strided) → IsSign j sign.Open → Argument m a t (k ∷ l ∷ o ∷ b) → IsSign k sign.Comma → IsNumber l n → IsSign o sign.Comma →
        Shape b at shape (p ∷ c) → IsSign p sign.Comma → Strides c strides_are_at strides (q ∷ d) → IsSign q sign.Close →
        ViewCall m (i ∷ j ∷ a) (strided_at i.at t n (lengths_at at shape) (steps_at strides_are_at strides)) d

  -- a name or a view call of a place, and its indices
  pub data Placed : List Item → Expr → List Item → Type 0 where
    placed_name : {i : Item} {x : List ℕ} {t : Expr} {a c : List Item} → IsName i x → Rest zero (name_of (word_at i.at x)) a t c → Placed (i ∷ a) t c
    placed_view : {l t : Expr} {a b c : List Item} → ViewCall mode.Place a l b → Rest zero l b t c → Placed a t c

  -- Level 0 is a primary, and each further level takes what may follow at the level below it: 1 has the indices, 2 the power and the signs before,
  -- 3 the products, 4 the sums, 5 the shifts, 6, 7 and 8 the bitwise signs, and 9, a whole expression, the comparison.
  pub data Level : ℕ → List Item → Expr → List Item → Type 0 where
    primary : {a : List Item} {t : Expr} {c : List Item} → Primary a t c → Level zero a t c
    more : {n : ℕ} {a b c : List Item} {l t : Expr} → Level n a l b → Rest n l b t c → Level (suc n) a t c
    invert : {i : Item} {a c : List Item} {t : Expr} → IsSign i sign.Not → Level (suc (suc zero)) a t c → Level (suc (suc zero)) (i ∷ a) (unary_at i.at code.Invert t) c

  -- what follows a tree at a level, grouped to the left
  pub data Rest : ℕ → Expr → List Item → Expr → List Item → Type 0 where
    stop : {n : ℕ} {l : Expr} {a : List Item} → Rest n l a l a
    index : {l t : Expr} {at : Place} {cuts : List Cut} {a b c : List Item} → Index a at cuts b → Rest zero (index_at at l cuts) b t c → Rest zero l a t c
    power : {i j : Item} {l : Expr} {n : ℕ} {c : List Item} → IsSign i sign.Power → IsNumber j n → Rest (suc zero) l (i ∷ j ∷ c) (power_at i.at l n) c
    operation : {n : ℕ} {i : Item} {x : Sign} {c : Code16} {l r t : Expr} {a b d : List Item} →
        IsSign i x → operator x ≡ Some (n, c) → Level n a r b → Rest n (binary_at i.at c l r) b t d → Rest n l (i ∷ a) t d
    compared : {n : ℕ} {i : Item} {x : Sign} {c : Code16} {l r : Expr} {a b : List Item} →
        n ≡ 8 → IsSign i x → comparison x ≡ Some c → Level n a r b → Rest n l (i ∷ a) (binary_at i.at c l r) b

-- statements

-- a name with at least one index, or a view call of a place and its indices
pub data Target : List Item → Expr → List Item → Type 0 where
  target_name : {i : Item} {x : List ℕ} {t : Expr} {at : Place} {cuts : List Cut} {a b c : List Item} →
      IsName i x → Index a at cuts b → Rest zero (index_at at (name_of (word_at i.at x)) cuts) b t c → Target (i ∷ a) t c
  target_view : {l t : Expr} {a b c : List Item} → ViewCall mode.Place a l b → Rest zero l b t c → Target a t c

pub data OneStatement : List Item → Statement → List Item → Type 0 where
  print : {i : Item} {t : Expr} {a c : List Item} → IsKeyword i keyword.Print → Level 9 a t c → OneStatement (i ∷ a) (print_of t) c
  delete : {i j : Item} {x : List ℕ} {c : List Item} → IsKeyword i keyword.Del → IsName j x → OneStatement (i ∷ j ∷ c) (delete_of (word_at j.at x)) c
  flush : {i : Item} {c : List Item} → IsKeyword i keyword.Flush → OneStatement (i ∷ c) flush_of c
  bind : {i j : Item} {x : List ℕ} {t : Expr} {a c : List Item} →
      IsName i x → IsSign j sign.Assign → Level 9 a t c → OneStatement (i ∷ j ∷ a) (bind_of (word_at i.at x) t) c
  assign : {i : Item} {t u : Expr} {a b c : List Item} → Target a t (i ∷ b) → IsSign i sign.Assign → Level 9 b u c → OneStatement a (assign_of t i.at u) c
  gather : {i j k l o p : Item} {x : List ℕ} {t u : Expr} {a b c : List Item} →
      IsName i x → IsSign j sign.Assign → IsKeyword k keyword.Gather → IsSign l sign.Open → Level 9 a t (o ∷ b) → IsSign o sign.Comma →
      Level 9 b u (p ∷ c) → IsSign p sign.Close → OneStatement (i ∷ j ∷ k ∷ l ∷ a) (gather_of (word_at i.at x) k.at t u) c
  scatter : {i j k l o : Item} {t u v : Expr} {a b c d : List Item} →
      IsKeyword i keyword.Scatter → IsSign j sign.Open → Placed a t (k ∷ b) → IsSign k sign.Comma → Level 9 b u (l ∷ c) → IsSign l sign.Comma →
      Level 9 c v (o ∷ d) → IsSign o sign.Close → OneStatement (i ∷ j ∷ a) (scatter_of i.at t u v) d

mutual
  pub data Script : List Item → List Statement → Type 0 where
    blank : {a : List Item} {ss : List Statement} → Ends a ss → Script a ss
    statement : {a b : List Item} {s : Statement} {ss : List Statement} → OneStatement a s b → Ends b ss → Script a (s ∷ ss)

  -- what follows a statement: the end, or a line end and the rest of the script
  pub data Ends : List Item → List Statement → Type 0 where
    finish : {i : Item} → i.token ≡ token.End → Ends (i ∷ []) []
    next : {i : Item} {a : List Item} {ss : List Statement} → i.token ≡ token.Line → Script a ss → Ends (i ∷ a) ss
