-- What one token makes of what is wanted, from the machine to the grammar.
use Rattle.std.proofs.Common.{◌≡◌, ℕ, zero, suc, ◌<◌, ◌≤◌, List, [], ◌∷◌, Option, Some, None, refl, sym, ap, subst, arith, Bool, true, false, cond, ◌&&◌, nat_le, nat_lt, ◌∙◌, ◌⊎◌, inl, inr}
use Rattle.std.proofs.lemmas.Bool.Decides.{nat_tests}
use Rattle.arr_tree.specs.declared.refusal.Place.{Place}
use Rattle.arr_tokens.specs.declared.token.Item.{Item}
use Rattle.arr_tokens.specs.declared.token.Token.{Token}
use Rattle.arr_tokens.specs.declared.token.Token.TheVariants as token
use Rattle.arr_tokens.specs.declared.token.Sign.{Sign}
use Rattle.arr_tokens.specs.declared.token.Sign.TheVariants as sign
use Rattle.arr_tokens.specs.declared.token.Keyword.TheVariants as keyword
use Rattle.arr_tokens.specs.declared.token.View.{View}
use Rattle.arr_tokens.specs.declared.token.View.TheVariants.{Broadcast, Transpose, Reshape, Strided}
use Rattle.arr_syntax.specs.declared.state.Mode.{Mode}
use Rattle.arr_syntax.specs.declared.state.Mode.TheVariants as mode
use Rattle.arr_syntax.specs.declared.state.Rule.{Rule}
use Rattle.arr_syntax.specs.declared.state.Rule.TheVariants as rule
use Rattle.arr_syntax.specs.declared.state.Head.TheVariants as head
use Rattle.arr_syntax.specs.declared.state.Node.{Node}
use Rattle.arr_syntax.specs.declared.state.Node.TheVariants as node
use Rattle.arr_syntax.specs.declared.state.Fields.{Fields}
use Rattle.arr_syntax.specs.declared.state.Part.{Part}
use Rattle.arr_syntax.specs.declared.state.Part.TheVariants as part
use Rattle.arr_syntax.specs.declared.state.Frame.{Frame}
use Rattle.arr_syntax.specs.declared.state.State.{State}
use Rattle.arr_syntax.specs.declared.state.State.TheVariants as state
use Rattle.arr_syntax.specs.Filling.{Filling}
use Rattle.arr_syntax.specs.Filling as filled
use Rattle.arr_tree.specs.declared.tree.Code16.{Code16}
use Rattle.arr_tree.specs.declared.tree.Type4.{Type4}
use Rattle.arr_tree.specs.declared.tree.Word.{Word}
use Rattle.arr_tree.specs.declared.tree.Expr.{Expr}
use Rattle.arr_tree.specs.declared.tree.Statement.{Statement}
use Rattle.arr_syntax.specs.Grammar as grammar
use Rattle.arr_tree.specs.Trees.{word_at, binary_at}
use Rattle.arr_syntax.specs.Grammar.{IsSign, IsKeyword, Rest, Level, Primary, Placed, ViewCall, Argument, Ends, Script, OneStatement, operator, comparison}
use Rattle.arr_syntax.specs.Machine as machine
use Rattle.arr_syntax.specs.Machine.{level, rank, either, behind, goes, give, leaves, fits, step, again, wanted, fresh, with_tree, fill, row_of, level_of, wanted_in, tree_of, stated, onward, opened, opens, frame, target, bound}
use Rattle.arr_syntax.proofs.Completes.{IsEmpty, NextField, Then, Climb, there, up, BoundIn, After, Given, RowIn, Tree, Wants, Completes, Next, Sits, Formed, Takes, WellFormed}
use Rattle.arr_syntax.proofs.Filling.{item, fill_back}
use Rattle.arr_syntax.proofs.Forward.{climb_most, operator_within, again_same, takes_in}

-- climbing

pub le_cases : (n k : ℕ) → n ≤ suc k → (n ≤ k) ⊎ (n ≡ suc k)
le_cases n k h = elim (nat_le n k) as (λ v. nat_le n k ≡ v → (n ≤ k) ⊎ (n ≡ suc k)) [
  | true ↦ λ e. inl (grind (arith, nat_tests))
  | false ↦ λ e. inr (let l : k < n = grind (arith, nat_tests) in omega arith)
] refl

-- nothing need follow at the levels below
pub lower : (k n m : ℕ) (t u : Expr) (a b : List Item) → n ≤ k → Climb k m t a u b → Climb n m t a u b
lower zero n m t u a b h c = let e : 0 ≡ n = omega arith in subst (λ (v : ℕ). Climb v m t a u b) e c
lower (suc k) n m t u a b h c = elim (le_cases n k h) [
  | inl l ↦ lower k n m t u a b l (up grammar.stop c)
  | inr e ↦ subst (λ (v : ℕ). Climb v m t a u b) (sym e) c
]

pub stops : (n m : ℕ) (t : Expr) (a : List Item) → n ≤ m → Climb n m t a t a
stops n m t a h = lower m n m t t a a h there

record Split (n m : ℕ) (t : Expr) (a : List Item) (u : Expr) (b : List Item) : Type 0 where
  tree : Expr
  tokens : List Item
  rest : Rest n t a tree tokens
  climb : Climb (suc n) m tree tokens u b

split : (n m : ℕ) (t u : Expr) (a b : List Item) → n < m → Climb n m t a u b → Split n m t a u b
split n m t u a b h there = absurd (omega arith)
split n m t u a b h (up r c) = record { tree = _; tokens = _; rest = r; climb = c }

pub climbed : (n m : ℕ) (t u : Expr) (a b c : List Item) → Level n a t b → Climb n m t b u c → Level m a u c
climbed n m t u a b c l there = l
climbed n m t u a b c l (up r k) = climbed (suc n) m _ u a _ c (grammar.more l r) k

climb_end : (n m : ℕ) (t u v : Expr) (a b c : List Item) → n ≡ m → Rest zero v c t a → Climb n m t a u b → Rest zero v c u b
climb_end n m t u v a b c e r there = r
climb_end n m t u v a b c e r (up q k) = absurd (let h = climb_most _ _ _ _ _ _ k in omega (arith, h))

rest_as : {n k : ℕ} {t u : Expr} {a b : List Item} → n ≡ k → Rest n t a u b → Rest k t a u b
rest_as {t = t} {u = u} {a = a} {b = b} e r = subst (λ (v : ℕ). Rest v t a u b) e r

-- what follows at level 0 alone
climb_rest : (n m : ℕ) (t u : Expr) (a b : List Item) → n ≡ 0 → m ≡ 1 → Climb n m t a u b → Rest zero t a u b
climb_rest n m t u a b e f there = absurd (omega arith)
climb_rest n m t u a b e f (up r k) = climb_end (suc n) m _ u t _ b a (omega arith) (rest_as e r) k

-- parts

resume_back : (n : Node) (at : Place) (ps : List Part) (f : Fields) (s : List Frame) (ts : List Item) (r : List Statement) →
    Next (machine.resume n at ps f s) ts r → RowIn n at ps f s ts r
resume_back n at (p ∷ ps) f s ts r k = k
resume_back (node.Tree n) at [] f s ts r k = k
resume_back (node.Statement h) at [] f s ts r k = k

onward_back : (n : Node) (at : Place) (ps : List Part) (s : List Frame) (x : Filling) (ts : List Item) (r : List Statement) →
    Next (onward n at ps s x) ts r → NextField x ts (λ g b. RowIn n at ps g s b r)
onward_back n at ps s filled.Stuck ts r k = absurd k
onward_back n at ps s (filled.Over f) ts r k = resume_back n at ps f s ts r k
onward_back n at ps s (filled.Turns p f) ts r k = k

-- how a tree goes on

module _ (at : Place) (s : List Frame) (l : Expr) (r : List Statement) where
  operate_back : (x : Sign) (o : Option (ℕ × Code16)) (k : Option Code16) (ts : List Item) → operator x ≡ o → comparison x ≡ k → rank (either o k) < wanted s →
      Next (opens (either o k) at (with_tree (fresh at) l) s) ts r → Given (rank (either o k)) s l (item (token.Sign x) at ∷ ts) r
  operate_back x (Some (n, c)) k ts e g h (t, b, right, (u, d, climb, after)) =
      let w = operator_within x n c e in
      let q = split n (wanted s) _ u b d h (subst (λ (v : ℕ). Climb v (wanted s) (binary_at at c l t) b u d) (again_same n w.1) climb) in
      (u, d, up (grammar.operation refl e right q.rest) q.climb, after)
  operate_back x None (Some c) ts e g h (t, b, right, (u, d, climb, after)) = (u, d, up (grammar.compared refl refl g right) climb, after)
  operate_back x None None ts e g h k = absurd k

  power_back : (ts : List Item) → Next (opened (node.Tree rule.Power) at (with_tree (fresh at) l) s) ts r → Given 1 s l (item (token.Sign sign.Power) at ∷ ts) r
  power_back [] k = absurd k
  power_back (j ∷ ts) (n, e, (u, d, climb, after)) = (u, d, up (grammar.power refl e) climb, after)

  index_back : (ts : List Item) → 0 < wanted s → Next (opened (node.Tree rule.Index) at (with_tree (fresh at) l) s) ts r → Given 0 s l (item (token.Sign sign.OpenIndex) at ∷ ts) r
  index_back ts h (xs, b, list, (u, d, climb, after)) =
      let q = split 0 (wanted s) _ u b d h climb in
      (u, d, up (grammar.index (grammar.bracketed refl list) q.rest) q.climb, after)

  sign_back : (x : Sign) (ts : List Item) → rank (behind x) < wanted s → Next (goes (token.Sign x) at s l) ts r → Given (rank (behind x)) s l (item (token.Sign x) at ∷ ts) r
  sign_back sign.OpenIndex ts h k = index_back ts h k
  sign_back sign.Power ts h k = power_back ts k
  sign_back x ts h k = operate_back x (operator x) (comparison x) ts refl refl h k

  goes_back : (t : Token) (ts : List Item) → level t < wanted s → Next (goes t at s l) ts r → Given (level t) s l (item t at ∷ ts) r
  goes_back (token.Sign x) ts h k = sign_back x ts h k
  goes_back _ ts h k = absurd k

both_yes : (a b : Bool) → (a && b) ≡ true → (a ≡ true) × (b ≡ true)
both_yes true true e = (refl, refl)
both_yes true false e = cc
both_yes false b e = cc

-- the beginning of a tree

module _ (at : Place) (s : List Frame) (r : List Statement) where
  primary_back : (t : Expr) (a b : List Item) → Primary a t b → Given 0 s t b r → Wants mode.Value s a r
  primary_back t a b p (u, c, climb, g) = (u, c, climbed 0 (wanted s) t u a b c (grammar.primary p) climb, g)

  abbrev here : Token → List Item → List Item
  here t ts = item t at ∷ ts

  argument_out : (m : Mode) (v : View) (t : Expr) (a b : List Item) → Tree m (wanted_in (node.Tree (rule.View m v)) m) a t b → Argument m a t b
  argument_out mode.Value v t a b l = grammar.value l
  argument_out mode.Place v t a b l = grammar.place l

  -- the row of a rule, behind its first token
  abbrev Ruled : Rule → List Item → Type 0
  Ruled n ts = Next (opened (node.Tree n) at (fresh at) s) ts r

  abbrev Viewed : Mode → View → List Item → Type 0
  Viewed m v ts = (t : Expr) × (b : List Item) × ViewCall m (here (token.Keyword (keyword.View v)) ts) t b × Given 0 s t b r

  broadcast_back : (m : Mode) (ts : List Item) → Ruled (rule.View m Broadcast) ts → Viewed m Broadcast ts
  broadcast_back m [] k = absurd k
  broadcast_back m (j ∷ a) (o, (t, [], l, k)) = absurd k
  broadcast_back m (j ∷ a) (o, (t, i ∷ b, l, (comma, (sat, xs, [], shape, k)))) = absurd k
  broadcast_back m (j ∷ a) (o, (t, i ∷ b, l, (comma, (sat, xs, p ∷ c, shape, (close, g))))) =
      (_, c, grammar.broadcast refl o (argument_out m Broadcast t a (i ∷ b) l) comma shape close, g)

  reshape_back : (m : Mode) (ts : List Item) → Ruled (rule.View m Reshape) ts → Viewed m Reshape ts
  reshape_back m [] k = absurd k
  reshape_back m (j ∷ a) (o, (t, [], l, k)) = absurd k
  reshape_back m (j ∷ a) (o, (t, i ∷ b, l, (comma, (sat, xs, [], shape, k)))) = absurd k
  reshape_back m (j ∷ a) (o, (t, i ∷ b, l, (comma, (sat, xs, p ∷ c, shape, (close, g))))) =
      (_, c, grammar.reshape refl o (argument_out m Reshape t a (i ∷ b) l) comma shape close, g)

  transpose_back : (m : Mode) (ts : List Item) → Ruled (rule.View m Transpose) ts → Viewed m Transpose ts
  transpose_back m [] k = absurd k
  transpose_back m (j ∷ a) (o, (t, [], l, k)) = absurd k
  transpose_back m (j ∷ a) (o, (t, i ∷ b, l, (close, g))) = (_, b, grammar.transpose refl o (argument_out m Transpose t a (i ∷ b) l) close, g)

  strided_back : (m : Mode) (ts : List Item) → Ruled (rule.View m Strided) ts → Viewed m Strided ts
  strided_back m [] k = absurd k
  strided_back m (j ∷ a) (o, (t, [], l, k)) = absurd k
  strided_back m (j ∷ a) (o, (t, i ∷ [], l, (comma, k))) = absurd k
  strided_back m (j ∷ a) (o, (t, i ∷ p ∷ [], l, (comma, (n, number, k)))) = absurd k
  strided_back m (j ∷ a) (o, (t, i ∷ p ∷ q ∷ b, l, (comma, (n, number, (second, (sat, xs, [], shape, k)))))) = absurd k
  strided_back m (j ∷ a) (o, (t, i ∷ p ∷ q ∷ b, l, (comma, (n, number, (second, (sat, xs, v ∷ c, shape, (third, (zat, zs, [], strides, k)))))))) = absurd k
  strided_back m (j ∷ a) (o, (t, i ∷ p ∷ q ∷ b, l, (comma, (n, number, (second, (sat, xs, v ∷ c, shape, (third, (zat, zs, w ∷ d, strides, (close, g))))))))) =
      (_, d, grammar.strided refl o (argument_out m Strided t a (i ∷ p ∷ q ∷ b) l) comma number second shape third strides close, g)

  viewed_back : (m : Mode) (v : View) (ts : List Item) → Ruled (rule.View m v) ts → Viewed m v ts
  viewed_back m Broadcast ts k = broadcast_back m ts k
  viewed_back m Transpose ts k = transpose_back m ts k
  viewed_back m Reshape ts k = reshape_back m ts k
  viewed_back m Strided ts k = strided_back m ts k

  view_back : (v : View) (ts : List Item) → Ruled (rule.View mode.Value v) ts → Wants mode.Value s (here (token.Keyword (keyword.View v)) ts) r
  view_back v ts k = let x = viewed_back mode.Value v ts k in primary_back x.0 (here (token.Keyword (keyword.View v)) ts) x.1 (grammar.viewed x.2) x.3

  negative_back : (ts : List Item) → Ruled rule.Negative ts → Wants mode.Value s (here (token.Sign sign.Minus) ts) r
  negative_back [] k = absurd k
  negative_back (j ∷ ts) (n, e, g) = primary_back _ (here (token.Sign sign.Minus) (j ∷ ts)) ts (grammar.literal (grammar.negative refl e)) g

  bracket_back : (ts : List Item) → Ruled rule.Bracket ts → Wants mode.Value s (here (token.Sign sign.Open) ts) r
  bracket_back ts (t, [], l, k) = absurd k
  bracket_back ts (t, j ∷ b, l, (close, g)) = primary_back t (here (token.Sign sign.Open) ts) b (grammar.bracket refl l close) g

  invert_back : (ts : List Item) → Ruled rule.Invert ts → Wants mode.Value s (here (token.Sign sign.Not) ts) r
  invert_back ts (t, b, l, (u, c, climb, g)) = (u, c, climbed 2 (wanted s) _ u (here (token.Sign sign.Not) ts) b c (grammar.invert refl l) climb, g)

  range_back : (ts : List Item) → Ruled rule.Range ts → Wants mode.Value s (here (token.Keyword keyword.Range) ts) r
  range_back [] k = absurd k
  range_back (j ∷ []) (o, k) = absurd k
  range_back (j ∷ l ∷ []) (o, (n, number, k)) = absurd k
  range_back (j ∷ l ∷ p ∷ a) (o, (n, number, inl (close, g))) = primary_back _ _ a (grammar.range refl o number grammar.no_type close) g
  range_back (j ∷ l ∷ p ∷ []) (o, (n, number, inr (comma, k))) = absurd k
  range_back (j ∷ l ∷ p ∷ q ∷ []) (o, (n, number, inr (comma, (to, e, k)))) = absurd k
  range_back (j ∷ l ∷ p ∷ q ∷ v ∷ a) (o, (n, number, inr (comma, (to, e, (close, g))))) = primary_back _ _ a (grammar.range refl o number (grammar.one_type comma e) close) g

  full_back : (ts : List Item) → Ruled rule.Full ts → Wants mode.Value s (here (token.Keyword keyword.Full) ts) r
  full_back [] k = absurd k
  full_back (j ∷ a) (o, (sat, xs, [], shape, k)) = absurd k
  full_back (j ∷ a) (o, (sat, xs, p ∷ b, shape, (comma, (lat, m, n, [], literal, k)))) = absurd k
  full_back (j ∷ a) (o, (sat, xs, p ∷ b, shape, (comma, (lat, m, n, q ∷ [], literal, (second, k))))) = absurd k
  full_back (j ∷ a) (o, (sat, xs, p ∷ b, shape, (comma, (lat, m, n, q ∷ v ∷ [], literal, (second, (to, e, k)))))) = absurd k
  full_back (j ∷ a) (o, (sat, xs, p ∷ b, shape, (comma, (lat, m, n, q ∷ v ∷ w ∷ c, literal, (second, (to, e, (close, g))))))) =
      primary_back _ _ c (grammar.full refl o shape comma literal second e close) g

  fold_back : (c : Code16) (ts : List Item) → Ruled (rule.Fold c) ts → Wants mode.Value s (here (token.Keyword (keyword.Fold c)) ts) r
  fold_back c [] k = absurd k
  fold_back c (j ∷ a) (o, (t, [], l, k)) = absurd k
  fold_back c (j ∷ a) (o, (t, i ∷ [], l, (comma, k))) = absurd k
  fold_back c (j ∷ a) (o, (t, i ∷ p ∷ [], l, (comma, (n, number, k)))) = absurd k
  fold_back c (j ∷ a) (o, (t, i ∷ p ∷ q ∷ b, l, (comma, (n, number, (close, g))))) = primary_back _ _ b (grammar.fold refl o l comma number close) g

  absolute_back : (ts : List Item) → Ruled rule.Absolute ts → Wants mode.Value s (here (token.Keyword keyword.Absolute) ts) r
  absolute_back [] k = absurd k
  absolute_back (j ∷ a) (o, (t, [], l, k)) = absurd k
  absolute_back (j ∷ a) (o, (t, i ∷ b, l, (close, g))) = primary_back _ _ b (grammar.absolute refl o l close) g

  cast_back : (to : Type4) (ts : List Item) → Ruled (rule.Cast to) ts → Wants mode.Value s (here (token.Keyword (keyword.Type to)) ts) r
  cast_back to [] k = absurd k
  cast_back to (j ∷ a) (o, (t, [], l, k)) = absurd k
  cast_back to (j ∷ a) (o, (t, i ∷ b, l, (close, g))) = primary_back _ _ b (grammar.cast refl o l close) g

  pair_back : (c : Code16) (ts : List Item) → Ruled (rule.Pair c) ts → Wants mode.Value s (here (token.Keyword (keyword.Pair c)) ts) r
  pair_back c [] k = absurd k
  pair_back c (j ∷ a) (o, (t, [], l, k)) = absurd k
  pair_back c (j ∷ a) (o, (t, i ∷ b, l, (comma, (u, [], q, k)))) = absurd k
  pair_back c (j ∷ a) (o, (t, i ∷ b, l, (comma, (u, p ∷ d, q, (close, g))))) = primary_back _ _ d (grammar.pair refl o l comma q close) g

  begins_value_back : (t : Token) (ts : List Item) → Next (machine.begins mode.Value t at s) ts r → Wants mode.Value s (here t ts) r
  begins_value_back (token.Number n) ts k = primary_back _ _ ts (grammar.literal (grammar.plain refl)) k
  begins_value_back (token.Name x) ts k = primary_back _ _ ts (grammar.name refl) k
  begins_value_back (token.Sign sign.Minus) ts k = negative_back ts k
  begins_value_back (token.Sign sign.Open) ts k = bracket_back ts k
  begins_value_back (token.Sign sign.Not) ts k = invert_back ts k
  begins_value_back (token.Keyword keyword.Range) ts k = range_back ts k
  begins_value_back (token.Keyword keyword.Full) ts k = full_back ts k
  begins_value_back (token.Keyword (keyword.Fold c)) ts k = fold_back c ts k
  begins_value_back (token.Keyword keyword.Absolute) ts k = absolute_back ts k
  begins_value_back (token.Keyword (keyword.Pair c)) ts k = pair_back c ts k
  begins_value_back (token.Keyword (keyword.Type to)) ts k = cast_back to ts k
  begins_value_back (token.Keyword (keyword.View v)) ts k = view_back v ts k
  begins_value_back _ ts k = absurd k

  begins_place_back : (t : Token) (ts : List Item) → wanted s ≡ 1 → Next (machine.begins mode.Place t at s) ts r → Wants mode.Place s (here t ts) r
  begins_place_back (token.Name x) ts f (u, b, climb, g) = (u, b, grammar.placed_name refl (climb_rest 0 (wanted s) _ u ts b refl f climb), g)
  begins_place_back (token.Keyword (keyword.View v)) ts f k = placed (viewed_back mode.Place v ts k)
    where
      placed : Viewed mode.Place v ts → Wants mode.Place s (here (token.Keyword (keyword.View v)) ts) r
      placed (t, b, call, (u, c, climb, g)) = (u, c, grammar.placed_view call (climb_rest 0 (wanted s) t u b c refl f climb), g)
  begins_place_back _ ts f k = absurd k

  begins_back : (m : Mode) (t : Token) (ts : List Item) → Takes m s → Next (machine.begins m t at s) ts r → Wants m s (here t ts) r
  begins_back mode.Value t ts f k = begins_value_back t ts k
  begins_back mode.Place t ts f k = begins_place_back t ts f k

-- when a row has its tree

take_back : (n : Node) (at : Place) (p : Part) (ps : List Part) (f : Fields) (s : List Frame) (i : Item) (ts : List Item) (r : List Statement) → Sits n (wanted s) (Formed s) →
    Next (machine.take n at p ps f s i) ts r → RowIn n at (p ∷ ps) f s (i ∷ ts) r
take_back n at (part.Tree m) ps f s i ts r h k = begins_back i.at (frame n at m ps f ∷ s) r m i.token ts (takes_in n m (wanted s) (Formed s) at ps f s h) k
take_back n at (part.Field p) ps f s i ts r h k =
    fill_back (λ g b. RowIn n at ps g s b r) p i.token i.at f ts (onward_back n at ps s (fill p i.token i.at f) ts r k)

module _ (r : List Statement) where
  ends_back : (t : Token) (at : Place) (st : Statement) (ts : List Item) → Next (machine.ends t st) ts r → (ss : List Statement) × Ends (item t at ∷ ts) ss × (r ≡ st ∷ ss)
  ends_back token.Line at st ts (ss, k, q) = (ss, grammar.next refl k, q)
  ends_back token.End at st [] (ss, (e, z), q) = ([], grammar.finish refl, q ∙ ap (λ (v : List Statement). st ∷ v) z)
  ends_back token.End at st (i ∷ ts) (ss, (e, z), q) = absurd e
  ends_back _ at st ts k = absurd k

  leaves_back : (n : Node) (at : Place) (ps : List Part) (f : Fields) (s : List Frame) (i : Item) (ts : List Item) → Sits n (wanted s) (Formed s) →
      Next (leaves n at ps f s i (λ m u. give s m u i)) ts r → ((m : ℕ) (u : Expr) → Formed s → m ≤ wanted s → Next (give s m u i) ts r → Given m s u (i ∷ ts) r) → RowIn n at ps f s (i ∷ ts) r
  leaves_back n at (p ∷ ps) f s i ts h k back = take_back n at p ps f s i ts r h k
  leaves_back (node.Tree n) at [] f s i ts h k back = back (level_of n) (tree_of n at f) h.2 h.1 k
  leaves_back (node.Statement x) at [] f s i ts h k back = ends_back i.token i.at (stated x at f) ts k

  choose_back : (f : Frame) (s : List Frame) (n : ℕ) (t : Expr) (i : Item) (ts : List Item) → n ≤ f.level → Next (give (f ∷ s) n t i) ts r →
      (Next (leaves f.row.node f.row.at f.row.rest (with_tree f.row.fields t) s i (λ m u. give s m u i)) ts r → After (f ∷ s) t (i ∷ ts) r) → Given n (f ∷ s) t (i ∷ ts) r
  choose_back f s n t i ts h k over =
      elim (fits n i.token f.level) as (λ v. fits n i.token f.level ≡ v → Next (cond v (goes i.token i.at (f ∷ s) t) (leaves f.row.node f.row.at f.row.rest (with_tree f.row.fields t) s i (λ m u. give s m u i))) ts r → Given n (f ∷ s) t (i ∷ ts) r) [
        | true ↦ λ e w. goes_on e w
        | false ↦ λ e w. (t, i ∷ ts, stops n (f.level) t (i ∷ ts) h, over w)
      ] refl k
    where
      goes_on : fits n i.token f.level ≡ true → Next (goes i.token i.at (f ∷ s) t) ts r → Given n (f ∷ s) t (i ∷ ts) r
      goes_on e w =
          let b = both_yes (nat_le n (level i.token)) (nat_lt (level i.token) (f.level)) e in
          let x : nat_le n (level i.token) ≡ true = b.0 in
          let y : nat_lt (level i.token) (f.level) ≡ true = b.1 in
          let le : n ≤ level i.token = grind (arith, nat_tests) in
          let lt : level i.token < f.level = grind (arith, nat_tests) in
          let g = goes_back i.at (f ∷ s) t r i.token ts lt w in
          (g.0, g.1, lower (level i.token) n (f.level) t g.0 (i ∷ ts) g.1 le g.2, g.3)

  give_back : (s : List Frame) (n : ℕ) (t : Expr) (i : Item) (ts : List Item) → Formed s → n ≤ wanted s → Next (give s n t i) ts r → Given n s t (i ∷ ts) r
  give_back [] n t i ts w h k = absurd k
  give_back (f ∷ s) n t i ts w h k =
      choose_back f s n t i ts h k (λ x. leaves_back f.row.node f.row.at f.row.rest (with_tree f.row.fields t) s i ts w.2 x (λ m u v l y. give_back s m u i ts v l y))

-- statements

module _ (r : List Statement) where
  script_is : (a b : List Item) (st : Statement) (ss : List Statement) → OneStatement a st b → Ends b ss → r ≡ st ∷ ss → Script a r
  script_is a b st ss one ends q = subst (λ (v : List Statement). Script a v) (sym q) (grammar.statement one ends)

  target_back : (at : Place) (v : View) (ts : List Item) → Ruled at (target at) r (rule.View mode.Place v) ts → Script (item (token.Keyword (keyword.View v)) at ∷ ts) r
  target_back at v ts k = assigned (viewed_back at (target at) r mode.Place v ts k)
    where
      assigned : Viewed at (target at) r mode.Place v ts → Script (item (token.Keyword (keyword.View v)) at ∷ ts) r
      assigned (t, b, call, (u, [], climb, g)) = absurd g
      assigned (t, b, call, (u, j ∷ c, climb, (a, (w, e, l, (ss, ends, q))))) =
          script_is _ e _ ss (grammar.assign (grammar.target_view call (climb_rest 0 1 t u b (j ∷ c) refl refl climb)) a l) ends q

  deletes_back : (at : Place) (ts : List Item) → Completes state.Delete ts r → Script (item (token.Keyword keyword.Del) at ∷ ts) r
  deletes_back at [] k = absurd k
  deletes_back at (j ∷ b) (x, e, (ss, ends, q)) = script_is _ b _ ss (grammar.delete refl e) ends q

  gather_back : (at : Place) (x : List ℕ) (j : Item) (ts : List Item) → IsSign j sign.Assign →
      Then ts (λ i b. IsKeyword i keyword.Gather × RowIn (node.Statement (head.Gather (word_at at x))) i.at (row_of (node.Statement (head.Gather (word_at at x)))) (fresh i.at) [] b r) →
      Script (item (token.Name x) at ∷ j ∷ ts) r
  gather_back at x j [] a k = absurd k
  gather_back at x j (i ∷ []) a (word, k) = absurd k
  gather_back at x j (i ∷ p ∷ b) a (word, (first, (t, [], l, k))) = absurd k
  gather_back at x j (i ∷ p ∷ b) a (word, (first, (t, o ∷ c, l, (comma, (u, [], m, k))))) = absurd k
  gather_back at x j (i ∷ p ∷ b) a (word, (first, (t, o ∷ c, l, (comma, (u, z ∷ d, m, (close, (ss, ends, q))))))) =
      script_is _ d _ ss (grammar.gather refl a word first l comma m close) ends q

  scatter_back : (at : Place) (ts : List Item) → Next (opened (node.Statement head.Scatter) at (fresh at) []) ts r → Script (item (token.Keyword keyword.Scatter) at ∷ ts) r
  scatter_back at [] k = absurd k
  scatter_back at (j ∷ a) (first, (t, [], p, k)) = absurd k
  scatter_back at (j ∷ a) (first, (t, o ∷ b, p, (comma, (u, [], l, k)))) = absurd k
  scatter_back at (j ∷ a) (first, (t, o ∷ b, p, (comma, (u, z ∷ c, l, (second, (v, [], m, k)))))) = absurd k
  scatter_back at (j ∷ a) (first, (t, o ∷ b, p, (comma, (u, z ∷ c, l, (second, (v, w ∷ d, m, (close, (ss, ends, q)))))))) =
      script_is _ d _ ss (grammar.scatter refl first p comma l second m close) ends q

  name_back : (at : Place) (x : List ℕ) (ts : List Item) → Completes (state.Named (word_at at x)) ts r → Script (item (token.Name x) at ∷ ts) r
  name_back at x [] (inl k) = absurd k
  name_back at x (j ∷ b) (inl (a, inl (t, d, l, (ss, ends, q)))) = script_is _ d _ ss (grammar.bind refl a l) ends q
  name_back at x (j ∷ b) (inl (a, inr k)) = gather_back at x j b a k
  name_back at x ts (inr (iat, cuts, b, index, (u, [], climb, k))) = absurd k
  name_back at x ts (inr (iat, cuts, b, index, (u, j ∷ c, climb, (a, (w, e, l, (ss, ends, q)))))) =
      script_is _ e _ ss (grammar.assign (grammar.target_name refl index (climb_rest 0 1 _ u b (j ∷ c) refl refl climb)) a l) ends q

  finish_back : (at : Place) (ts : List Item) → IsEmpty ts → r ≡ [] → Ends (item token.End at ∷ ts) r
  finish_back at [] e q = subst (λ (v : List Statement). Ends (item token.End at ∷ []) v) (sym q) (grammar.finish refl)
  finish_back at (i ∷ ts) e q = absurd e

  starts_back : (t : Token) (at : Place) (ts : List Item) → Next (machine.starts t at) ts r → Script (item t at ∷ ts) r
  starts_back (token.Keyword keyword.Print) at ts (t, b, l, (ss, ends, q)) = script_is _ b _ ss (grammar.print refl l) ends q
  starts_back (token.Keyword keyword.Del) at ts k = deletes_back at ts k
  starts_back (token.Keyword keyword.Flush) at ts (ss, ends, q) = script_is _ ts _ ss (grammar.flush refl) ends q
  starts_back (token.Keyword keyword.Scatter) at ts k = scatter_back at ts k
  starts_back (token.Keyword (keyword.View v)) at ts k = target_back at v ts k
  starts_back (token.Name x) at ts k = name_back at x ts k
  starts_back token.Line at ts k = grammar.blank (grammar.next refl k)
  starts_back token.End at ts (e, q) = grammar.blank (finish_back at ts e q)
  starts_back _ at ts k = absurd k

  named_back : (t : Token) (at : Place) (w : Word) (ts : List Item) → Next (machine.named t at w) ts r → Completes (state.Named w) (item t at ∷ ts) r
  named_back (token.Sign sign.Assign) at w ts k = inl (refl, k)
  named_back (token.Sign sign.OpenIndex) at w ts (xs, b, list, g) = inr (at, xs, b, grammar.bracketed refl list, g)
  named_back _ at w ts k = absurd k

  -- what is not `gather` begins a value
  binds_back : (t : Token) (at : Place) (w : Word) (ts : List Item) → Next (machine.binds t at w) ts r → BoundIn w (item t at ∷ ts) r
  binds_back (token.Keyword keyword.Gather) at w ts k = inr (refl, k)
  binds_back t at w ts k = inl (begins_value_back at (bound w) r t ts k)

  delete_back : (t : Token) (at : Place) (ts : List Item) → Next (machine.deletes t at) ts r → Completes state.Delete (item t at ∷ ts) r
  delete_back (token.Name x) at ts (ss, ends, q) = (x, refl, (ss, ends, q))
  delete_back _ at ts k = absurd k

  ended_back : (t : Token) (at : Place) (ts : List Item) → Next (machine.ended t) ts r → Ends (item t at ∷ ts) r
  ended_back token.Line at ts k = grammar.next refl k
  ended_back token.End at ts (e, q) = finish_back at ts e q
  ended_back _ at ts k = absurd k

  pub backward : (st : State) (i : Item) (ts : List Item) → WellFormed st → Next (step st i) ts r → Completes st (i ∷ ts) r
  backward state.Start i ts f k = starts_back i.token i.at ts k
  backward (state.Named w) i ts f k = named_back i.token i.at w ts k
  backward (state.Bound w) i ts f k = binds_back i.token i.at w ts k
  backward state.Delete i ts f k = delete_back i.token i.at ts k
  backward state.Ended i ts f k = ended_back i.token i.at ts k
  backward (state.Have n t s) i ts f k = give_back r s n t i ts f.1 f.0 k
  backward (state.Fill p w s) i ts f k = take_back w.node w.at p w.rest w.fields s i ts r f.1 k
  backward state.Finished i ts f k = absurd k
