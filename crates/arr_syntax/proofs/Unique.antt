-- A text is one script at most, and never both a script and refused; its refusal is one.
use Rattle.std.proofs.Common.{◌≡◌, ℕ, zero, suc, ℤ, ◌<◌, List, [], ◌∷◌, ◌++◌, refl, sym, ap, subst, arith, ◌∙◌, ◌⊎◌, inl, inr}
use Rattle.arr_tree.specs.declared.refusal.Place.{Place}
use Rattle.arr_tokens.specs.declared.token.Item.{Item}
use Rattle.arr_syntax.specs.declared.state.Mode.{Mode}
use Rattle.arr_syntax.specs.declared.state.Mode.TheVariants as mode
use Rattle.arr_syntax.specs.declared.state.Node.{Node}
use Rattle.arr_syntax.specs.declared.state.Node.TheVariants as node
use Rattle.arr_syntax.specs.declared.state.Fields.{Fields}
use Rattle.arr_syntax.specs.declared.state.Field.{Field}
use Rattle.arr_syntax.specs.declared.state.Field.TheVariants as field
use Rattle.arr_syntax.specs.declared.state.Part.{Part}
use Rattle.arr_syntax.specs.declared.state.Part.TheVariants as part
use Rattle.arr_syntax.specs.declared.state.Frame.{Frame}
use Rattle.arr_syntax.specs.declared.state.State.{State}
use Rattle.arr_syntax.specs.declared.state.State.TheVariants as state
use Rattle.arr_syntax.specs.declared.state.Move.{Move}
use Rattle.arr_syntax.specs.declared.state.Move.TheVariants as move
use Rattle.arr_tree.specs.declared.tree.Cut.{Cut}
use Rattle.arr_tree.specs.declared.tree.Expr.{Expr}
use Rattle.arr_tree.specs.declared.tree.Statement.{Statement}
use Rattle.arr_tree.specs.declared.refusal.Kind.{Kind}
use Rattle.arr_tree.specs.declared.refusal.Kind.TheVariants.{BadByte, NumberTooWide, NameTooLong, StatementTooLong, TooDeep, Unexpected}
use Rattle.arr_tree.specs.declared.refusal.Refusal.{Refusal}
use Rattle.arr_tree.specs.declared.refusal.ParseFault.{ParseFault}
use Rattle.arr_tree.specs.declared.refusal.ParseFault.TheVariants.{Refused, NoMemory}
use Rattle.arr_syntax.specs.Grammar as grammar
use Rattle.arr_syntax.specs.Grammar.{Listed, Length, Stride, Slice, Ends, Level, Placed, Primary, ViewCall, Rest, Script, OneStatement}
use Rattle.arr_syntax.specs.Machine.{step, with_tree, wanted, level_of}
use Rattle.arr_syntax.specs.Refused.{Fits, rank, IsRefused, IsScript, IfRefused}
use Rattle.arr_syntax.proofs.Completes.{FieldIn, Climb, there, up, Tree, After, Given, RowIn, Completes, Next, WellFormed, WellMoved}
use Rattle.arr_syntax.proofs.Forward.{forward}
use Rattle.arr_syntax.proofs.Completable.{step_formed}

-- nothing is left to read: only the finished state is completed by it

module _ (K : Fields → List Item → Type 0) where
  slice_over : (c : Cut) (b : List Item) → Slice [] c b → ⊥
  slice_over c b (grammar.short first e second) = elim first [ ]
  slice_over c b (grammar.long first e second g step) = elim first [ ]

  lengths_over : (xs : List ℕ) (b : List Item) → Listed ℕ Length [] xs b → ⊥
  lengths_over xs b (grammar.last x e) = elim x [ ]
  lengths_over xs b (grammar.and_more x e l) = elim x [ ]

  stride_over : (x : ℤ) (b : List Item) → Stride [] x b → ⊥
  stride_over x b (grammar.one_stride l) = elim l [ ]

  strides_over : (xs : List ℤ) (b : List Item) → Listed ℤ Stride [] xs b → ⊥
  strides_over xs b (grammar.last x e) = stride_over _ _ x
  strides_over xs b (grammar.and_more x e l) = stride_over _ _ x

  slices_over : (xs : List Cut) (b : List Item) → Listed Cut Slice [] xs b → ⊥
  slices_over xs b (grammar.last x e) = slice_over _ _ x
  slices_over xs b (grammar.and_more x e l) = slice_over _ _ x

  field_over : (p : Field) (f : Fields) → FieldIn p f [] K → ⊥
  field_over field.Literal f (at, m, n, b, l, k) = elim l [ ]
  field_over field.Shape f (at, xs, b, l, k) = elim l [ ]
  field_over field.Length f (xs, b, l, k) = lengths_over xs b l
  field_over field.Strides f (at, xs, b, l, k) = elim l [ ]
  field_over field.Stride f (xs, b, l, k) = strides_over xs b l
  field_over field.Start f (xs, b, l, k) = slices_over xs b l
  field_over (field.Stop c) f (o, b, grammar.no_bound, inl k) = k
  field_over (field.Stop c) f (o, b, grammar.no_bound, inr k) = k
  field_over (field.AfterStop c) f (inl k) = k
  field_over (field.AfterStop c) f (inr k) = k
  field_over (field.Step c) f (o, b, grammar.no_step, k) = k
  field_over (field.Step c) f (o, b, grammar.one_step l, k) = elim l [ ]
  field_over _ f k = k

climb_over : (n m : ℕ) (t u : Expr) (b : List Item) → Climb n m t [] u b → b ≡ []
climb_over n m t u b there = refl
climb_over n m t u b (up grammar.stop c) = climb_over _ m _ u b c
climb_over n m t u b (up (grammar.index i rest) c) = elim i [ ]

view_over : (m : Mode) (t : Expr) (b : List Item) → ViewCall m [] t b → ⊥
view_over m t b k = elim k [ ]

primary_over : (t : Expr) (b : List Item) → Primary [] t b → ⊥
primary_over t b (grammar.literal l) = elim l [ ]
primary_over t b (grammar.viewed v) = view_over _ _ _ v

level_over : (n : ℕ) (t : Expr) (b : List Item) → Level n [] t b → ⊥
level_over n t b (grammar.primary p) = primary_over t b p
level_over n t b (grammar.more l rest) = level_over _ _ _ l

placed_over : (t : Expr) (b : List Item) → Placed [] t b → ⊥
placed_over t b (grammar.placed_view v rest) = view_over _ _ _ v

tree_over : (m : Mode) (n : ℕ) (t : Expr) (b : List Item) → Tree m n [] t b → ⊥
tree_over mode.Value n t b l = level_over n t b l
tree_over mode.Place n t b l = placed_over t b l

row_over : (n : Node) (at : Place) (ps : List Part) (f : Fields) (s : List Frame) (r : List Statement) → ((u : Expr) → After s u [] r → ⊥) → RowIn n at ps f s [] r → ⊥
row_over n at (part.Tree m ∷ ps) f s r below (t, b, l, k) = tree_over m _ t b l
row_over n at (part.Field p ∷ ps) f s r below k = field_over _ p f k
row_over (node.Tree n) at [] f s r below (u, b, c, g) = below u (subst (λ (v : List Item). After s u v r) (climb_over (level_of n) (wanted s) _ u b c) g)
row_over (node.Statement x) at [] f s r below (ss, ends, q) = elim ends [ ]

after_over : (s : List Frame) (t : Expr) (r : List Statement) → After s t [] r → ⊥
after_over [] t r k = k
after_over (f ∷ s) t r k = row_over f.row.node f.row.at f.row.rest (with_tree f.row.fields t) s r (λ u h. after_over s u r h) k

given_over : (n : ℕ) (s : List Frame) (t : Expr) (r : List Statement) → Given n s t [] r → ⊥
given_over n s t r (u, b, c, g) = after_over s u r (subst (λ (v : List Item). After s u v r) (climb_over _ _ _ u b c) g)

statement_over : (st : Statement) (b : List Item) → OneStatement [] st b → ⊥
statement_over st b (grammar.assign (grammar.target_view v rest) a l) = view_over _ _ _ v

script_over : (r : List Statement) → Script [] r → ⊥
script_over r (grammar.blank ends) = elim ends [ ]
script_over r (grammar.statement one ends) = statement_over _ _ one

over : (st : State) (r q : List Statement) → Completes st [] r → Completes st [] q → r ≡ q
over state.Start r q h c = absurd (script_over r h)
over (state.Named w) r q (inl h) c = absurd h
over (state.Named w) r q (inr (at, cuts, b, index, g)) c = elim index [ ]
over (state.Bound w) r q (inl (t, b, l, k)) c = absurd (level_over 9 t b l)
over (state.Bound w) r q (inr h) c = absurd h
over state.Delete r q h c = absurd h
over state.Ended r q h c = elim h [ ]
over (state.Have n t s) r q h c = absurd (given_over n s t r h)
over (state.Fill p w s) r q h c = absurd (row_over w.node w.at (p ∷ w.rest) w.fields s r (λ u g. after_over s u r g) h)
over state.Finished r q h c = h.1 ∙ sym c.1

next_unique : (ts : List Item) (m : Move) (r q : List Statement) → WellMoved m → Next m ts r → Next m ts q →
    ((st : State) (a b : List Statement) → WellFormed st → Completes st ts a → Completes st ts b → a ≡ b) → r ≡ q
next_unique ts move.Stuck r q w h c same = absurd h
next_unique ts (move.On st) r q w h c same = same st r q w h c
next_unique ts (move.Emit s st) r q w (x, h, e) (y, c, g) same = e ∙ ap (λ (v : List Statement). s ∷ v) (same st x y w h c) ∙ sym g

unique : (ts : List Item) (st : State) (r q : List Statement) → WellFormed st → Completes st ts r → Completes st ts q → r ≡ q
unique [] st r q w h c = over st r q h c
unique (i ∷ ts) st r q w h c =
    next_unique ts (step st i) r q (step_formed st i w) (forward i r st ts w h) (forward i q st ts w c) (λ next a b f x y. unique ts next a b f x y)

pub one_script : (ts : List Item) (ss rs : List Statement) → Script ts ss → Script ts rs → ss ≡ rs
one_script ts ss rs a b = unique ts state.Start ss rs tt a b

-- two splits of a list are at one place, or one of them is inside the other's front
splits : (b d a c : List Item) (i j : Item) → b ++ i ∷ a ≡ d ++ j ∷ c →
    ((b ≡ d) × (i ≡ j)) ⊎ (((m : List Item) × (d ≡ b ++ i ∷ m)) ⊎ ((m : List Item) × (b ≡ d ++ j ∷ m)))
splits [] [] a c i j e = inl (refl, cc)
splits [] (y ∷ d) a c i j e = let s : y ≡ i = cc in inr (inl (d, ap (λ (v : Item). v ∷ d) s))
splits (x ∷ b) [] a c i j e = let s : x ≡ j = cc in inr (inr (b, ap (λ (v : Item). v ∷ b) s))
splits (x ∷ b) (y ∷ d) a c i j e =
    let s : x ≡ y = cc in
    let r : b ++ i ∷ a ≡ d ++ j ∷ c = cc in
    elim (splits b d a c i j r) [
      | inl p ↦ inl (cc p.0, p.1)
      | inr p ↦ elim p [ inl q ↦ inr (inl (q.0, cc q.1)) | inr q ↦ inr (inr (q.0, cc q.1)) ]
    ]

kind_of : ℕ → Kind
kind_of zero = BadByte
kind_of (suc zero) = NumberTooWide
kind_of (suc (suc zero)) = NameTooLong
kind_of (suc (suc (suc zero))) = StatementTooLong
kind_of (suc (suc (suc (suc zero)))) = TooDeep
kind_of (suc (suc (suc (suc (suc n))))) = Unexpected

module _ (before : List Item) (i : Item) where
  kind_again : (k : Kind) → Fits k before i → kind_of (rank k) ≡ k
  unfolding kind_of
  kind_again BadByte f = refl
  kind_again NumberTooWide f = refl
  kind_again NameTooLong f = refl
  kind_again StatementTooLong f = refl
  kind_again TooDeep f = refl
  kind_again Unexpected f = refl
  kind_again _ f = absurd f

  same_kind : (k l : Kind) → Fits k before i → Fits l before i → (rank k < rank l → ⊥) → (rank l < rank k → ⊥) → k ≡ l
  same_kind k l f g h w = let e : rank k ≡ rank l = omega arith in sym (kind_again k f) ∙ ap kind_of e ∙ kind_again l g

made_same : (a b : Place) (k l : Kind) → a ≡ b → k ≡ l → (let r : Refusal = record { at = a; kind = k } in r) ≡ record { at = b; kind = l }
made_same a b k l e f = rw (e, f) refl

pub one_refusal : (ts : List Item) (r q : Refusal) → IsRefused ts r → IsRefused ts q → r ≡ q
one_refusal ts r q a b =
    elim (splits a.before b.before a.after b.after a.item b.item (sym a.whole ∙ b.whole)) [
      | inl p ↦ same p.0 p.1
      | inr p ↦ elim p [
        | inl m ↦ absurd (b.first a.before m.0 a.item m.1 r.kind a.kind.0)
        | inr m ↦ absurd (a.first b.before m.0 b.item m.1 q.kind b.kind.0)
      ]
    ]
  where
    same : a.before ≡ b.before → a.item ≡ b.item → r ≡ q
    same e i =
        let here : Fits q.kind a.before a.item = rw (e, i) b.kind.0 in
        let there : Fits r.kind b.before b.item = rw (← e, ← i) a.kind.0 in
        let k : r.kind ≡ q.kind = same_kind a.before a.item _ _ a.kind.0 here (λ h. b.kind.1 r.kind h there) (λ h. a.kind.1 q.kind h here) in
        let at : r.at ≡ q.at = a.at ∙ ap (λ (v : Item). v.at) i ∙ sym b.at in
        made_same _ _ _ _ at k

pub not_both : (ts : List Item) (ss : List Statement) (r : Refusal) → IsScript ts ss → IsRefused ts r → ⊥
not_both ts ss r a b = a.none b.before b.after b.item b.whole r.kind b.kind.0

-- the answer for a script, and for a refused text
pub answers_script : (ts : List Item) (ss : List Statement) (e : ParseFault) → IsScript ts ss → IfRefused e (IsRefused ts) → e ≡ NoMemory
answers_script ts ss (Refused r) a b = absurd (not_both ts ss r a b)
answers_script ts ss NoMemory a b = refl

pub answers_refused : (ts : List Item) (r : Refusal) (e : ParseFault) → IsRefused ts r → IfRefused e (IsRefused ts) → IfRefused e (λ q. q ≡ r)
answers_refused ts r (Refused q) a b = one_refusal ts q r b a
answers_refused ts r NoMemory a b = tt
