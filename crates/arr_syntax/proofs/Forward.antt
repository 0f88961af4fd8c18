-- What one token makes of what is wanted, from the grammar to the machine.
use Rattle.std.proofs.Common.{◌≡◌, ℕ, suc, ◌<◌, ◌≤◌, List, [], ◌∷◌, Option, Some, refl, sym, ap, subst, arith, Bool, true, false, cond, ◌&&◌, eqb, nat_le, nat_lt, ◌⊎◌, inl, inr}
use Rattle.std.proofs.lemmas.Bool.Decides.{nat_tests}
use Rattle.arr_tree.specs.declared.refusal.Place.{Place}
use Rattle.arr_tokens.specs.declared.token.Item.{Item}
use Rattle.arr_tokens.specs.declared.token.Token.{Token}
use Rattle.arr_tokens.specs.declared.token.Token.TheVariants as token
use Rattle.arr_tokens.specs.declared.token.Sign.{Sign}
use Rattle.arr_tokens.specs.declared.token.Sign.TheVariants as sign
use Rattle.arr_tokens.specs.declared.token.Keyword.TheVariants as keyword
use Rattle.arr_tokens.specs.declared.token.View.{View}
use Rattle.arr_tokens.specs.declared.token.View.TheVariants.{Broadcast, Transpose, Reshape, Strided}
use Rattle.arr_syntax.specs.declared.state.Mode.{Mode}
use Rattle.arr_syntax.specs.declared.state.Mode.TheVariants as mode
use Rattle.arr_syntax.specs.declared.state.Rule.TheVariants as rule
use Rattle.arr_syntax.specs.declared.state.Node.{Node}
use Rattle.arr_syntax.specs.declared.state.Node.TheVariants as node
use Rattle.arr_syntax.specs.declared.state.Fields.{Fields}
use Rattle.arr_syntax.specs.declared.state.Field.TheVariants as field
use Rattle.arr_syntax.specs.declared.state.Part.{Part}
use Rattle.arr_syntax.specs.declared.state.Part.TheVariants as part
use Rattle.arr_syntax.specs.declared.state.Frame.{Frame}
use Rattle.arr_syntax.specs.declared.state.State.{State}
use Rattle.arr_syntax.specs.declared.state.State.TheVariants as state
use Rattle.arr_syntax.specs.declared.state.Move.{Move}
use Rattle.arr_syntax.specs.Filling.{Filling}
use Rattle.arr_syntax.specs.Filling as filled
use Rattle.arr_tree.specs.declared.tree.Code16.{Code16}
use Rattle.arr_tree.specs.declared.tree.Code16.TheVariants as code
use Rattle.arr_tree.specs.declared.tree.Word.{Word}
use Rattle.arr_tree.specs.declared.tree.Expr.{Expr}
use Rattle.arr_tree.specs.declared.tree.Statement.{Statement}
use Rattle.arr_syntax.specs.Grammar as grammar
use Rattle.arr_syntax.specs.Grammar.{IsSign, IsKeyword, Rest, Level, Primary, Placed, ViewCall, Argument, Ends, Script, OneStatement, operator, comparison}
use Rattle.arr_syntax.specs.Machine as machine
use Rattle.arr_syntax.specs.Machine.{level, rank, either, behind, goes, give, leaves, fits, step, again, wanted, fresh, with_tree, fill, level_of, inner, wanted_in, tree_of, stated, onward, opened, opens, frame, target, bound}
use Rattle.arr_syntax.proofs.Completes.{NextField, Climb, there, up, After, Given, RowIn, Tree, Wants, Completes, Next, Low, Sits, Formed, Takes, WellFormed}
use Rattle.arr_syntax.proofs.Filling.{fill_on}

pub cond_no : {A : Type 0} (b : Bool) (x y : A) → b ≡ false → cond b x y ≡ y
cond_no b x y e = rw e refl

pub cond_yes : {A : Type 0} (b : Bool) (x y : A) → b ≡ true → cond b x y ≡ x
cond_yes b x y e = rw e refl

pub fits_yes : (n k w : ℕ) (t : Token) → level t ≡ k → n ≤ k → k < w → fits n t w ≡ true
fits_yes n k w t e h g =
    let a : nat_le n k ≡ true = grind (arith, nat_tests) in
    let b : nat_lt k w ≡ true = grind (arith, nat_tests) in
    rw (e, a, b) refl

both_no : (a b : Bool) → b ≡ false → (a && b) ≡ false
both_no true b e = e
both_no false b e = refl

not_below : (a b : ℕ) → (a < b → ⊥) → nat_lt a b ≡ false
not_below a b h = elim (nat_lt a b) as (λ v. nat_lt a b ≡ v → v ≡ false) [ true ↦ λ e. absurd (h (let k : nat_lt a b ≡ true = e in grind (arith, nat_tests))) | false ↦ λ e. refl ] refl

pub fits_no : (n w : ℕ) (t : Token) → (level t < w → ⊥) → fits n t w ≡ false
fits_no n w t h = both_no _ _ (not_below _ _ h)

-- the level of a sign

rank_operator : (o : Option (ℕ × Code16)) (k : Option Code16) (n : ℕ) (c : Code16) → o ≡ Some (n, c) → rank (either o k) ≡ n
rank_operator o k n c e = rw e refl

pub operator_level : (x : Sign) (n : ℕ) (c : Code16) → operator x ≡ Some (n, c) → rank (behind x) ≡ n
operator_level sign.OpenIndex n c e = cc
operator_level sign.Power n c e = cc
operator_level x n c e = rank_operator (operator x) (comparison x) n c e

pub comparison_level : (x : Sign) (c : Code16) → comparison x ≡ Some c → rank (behind x) ≡ 8
comparison_level sign.Equal c e = refl
comparison_level sign.NotEqual c e = refl
comparison_level sign.Less c e = refl
comparison_level sign.LessEqual c e = refl
comparison_level sign.Greater c e = refl
comparison_level sign.GreaterEqual c e = refl
comparison_level _ c e = cc

module _ (at : Place) (s : List Frame) (t : Expr) where
  -- the right side of a sign is wanted
  abbrev operand : ℕ → Code16 → Move
  operand n c = opened (node.Tree (rule.Operand n c)) at (with_tree (fresh at) t) s

  operator_goes : (x : Sign) (n : ℕ) (c : Code16) → operator x ≡ Some (n, c) → goes (token.Sign x) at s t ≡ operand n c
  operator_goes sign.OpenIndex n c e = cc
  operator_goes sign.Power n c e = cc
  operator_goes x n c e = either_is (operator x) (comparison x) e
    where
      either_is : (o : Option (ℕ × Code16)) (k : Option Code16) → o ≡ Some (n, c) → opens (either o k) at (with_tree (fresh at) t) s ≡ operand n c
      either_is o k g = rw g refl

  comparison_goes : (x : Sign) (c : Code16) → comparison x ≡ Some c → goes (token.Sign x) at s t ≡ operand 8 c
  comparison_goes sign.Equal c e = let p : ◌≡◌ {A = Code16} code.Equal c = cc in ap (operand 8) p
  comparison_goes sign.NotEqual c e = let p : ◌≡◌ {A = Code16} code.NotEqual c = cc in ap (operand 8) p
  comparison_goes sign.Less c e = let p : ◌≡◌ {A = Code16} code.Less c = cc in ap (operand 8) p
  comparison_goes sign.LessEqual c e = let p : ◌≡◌ {A = Code16} code.LessEqual c = cc in ap (operand 8) p
  comparison_goes sign.Greater c e = let p : ◌≡◌ {A = Code16} code.Greater c = cc in ap (operand 8) p
  comparison_goes sign.GreaterEqual c e = let p : ◌≡◌ {A = Code16} code.GreaterEqual c = cc in ap (operand 8) p
  comparison_goes _ c e = cc

at_most : (x n : ℕ) (c : Code16) (k : ℕ) (d : Code16) → (let p : Option (ℕ × Code16) = Some (x, c) in p) ≡ Some (k, d) → 2 ≤ x → x < 8 → (2 ≤ k) × (k < 8)
at_most x n c k d e h g =
    let p : ◌≡◌ {A = ℕ × Code16} (x, c) (k, d) = cc in
    let q : x ≡ k = ap (λ (v : ℕ × Code16). v.0) p in
    (omega arith, omega arith)

pub operator_within : (x : Sign) (n : ℕ) (c : Code16) → operator x ≡ Some (n, c) → (2 ≤ n) × (n < 8)
operator_within sign.Star n c e = at_most 2 0 _ n c e (omega arith) (omega arith)
operator_within sign.Slash n c e = at_most 2 0 _ n c e (omega arith) (omega arith)
operator_within sign.Percent n c e = at_most 2 0 _ n c e (omega arith) (omega arith)
operator_within sign.Plus n c e = at_most 3 0 _ n c e (omega arith) (omega arith)
operator_within sign.Minus n c e = at_most 3 0 _ n c e (omega arith) (omega arith)
operator_within sign.LeftShift n c e = at_most 4 0 _ n c e (omega arith) (omega arith)
operator_within sign.RightShift n c e = at_most 4 0 _ n c e (omega arith) (omega arith)
operator_within sign.And n c e = at_most 5 0 _ n c e (omega arith) (omega arith)
operator_within sign.Xor n c e = at_most 6 0 _ n c e (omega arith) (omega arith)
operator_within sign.Or n c e = at_most 7 0 _ n c e (omega arith) (omega arith)
operator_within _ n c e = cc

pub again_same : (n : ℕ) → n < 8 → again n ≡ n
again_same n h = let e : eqb n 8 ≡ false = grind (arith, nat_tests) in rw e refl

pub again_least : (n : ℕ) → n ≤ again n
again_least n = elim (eqb n 8) as (λ v. eqb n 8 ≡ v → n ≤ cond v 9 n) [ true ↦ λ e. (let q : n ≡ 8 = grind (arith, nat_tests) in omega arith) | false ↦ λ e. omega arith ] refl

pub again_most : (n m : ℕ) → n < m → again n ≤ m
again_most n m h = elim (eqb n 8) as (λ v. eqb n 8 ≡ v → cond v 9 n ≤ m) [ true ↦ λ e. (let q : n ≡ 8 = grind (arith, nat_tests) in omega arith) | false ↦ λ e. omega arith ] refl

-- parts

resume_on : (n : Node) (at : Place) (ps : List Part) (f : Fields) (s : List Frame) (ts : List Item) (r : List Statement) →
    RowIn n at ps f s ts r → Next (machine.resume n at ps f s) ts r
resume_on n at (p ∷ ps) f s ts r k = k
resume_on (node.Tree n) at [] f s ts r k = k
resume_on (node.Statement h) at [] f s ts r k = k

onward_on : (n : Node) (at : Place) (ps : List Part) (s : List Frame) (x : Filling) (ts : List Item) (r : List Statement) →
    NextField x ts (λ g b. RowIn n at ps g s b r) → Next (onward n at ps s x) ts r
onward_on n at ps s filled.Stuck ts r k = absurd k
onward_on n at ps s (filled.Over f) ts r k = resume_on n at ps f s ts r k
onward_on n at ps s (filled.Turns p f) ts r k = k

-- how a tree goes on

pub climb_most : (n m : ℕ) (t u : Expr) (a b : List Item) → Climb n m t a u b → n ≤ m
climb_most n m t u a b there = omega arith
climb_most n m t u a b (up rest c) = let h = climb_most (suc n) m _ u _ b c in omega (arith, h)

climb_to : {n m k : ℕ} {t u : Expr} {a b : List Item} → m ≡ k → Climb n m t a u b → Climb n k t a u b
climb_to {n = n} {t = t} {u = u} {a = a} {b = b} e c = subst (λ (v : ℕ). Climb n v t a u b) e c

climb_from : {n m k : ℕ} {t u : Expr} {a b : List Item} → n ≡ k → Climb (suc n) m t a u b → Climb (suc k) m t a u b
climb_from {m = m} {t = t} {u = u} {a = a} {b = b} e c = subst (λ (v : ℕ). Climb (suc v) m t a u b) e c

level_as : {n k : ℕ} {t : Expr} {a b : List Item} → n ≡ k → Level n a t b → Level k a t b
level_as {t = t} {a = a} {b = b} e c = subst (λ (v : ℕ). Level v a t b) e c

-- the token goes on at a level
pub record GoesOn (n m : ℕ) (s : List Frame) (t : Expr) (i : Item) (ts : List Item) (r : List Statement) : Type 0 where
  pub at_level : ℕ
  pub is_level : level i.token ≡ at_level
  pub from : n ≤ at_level
  pub below : at_level < m
  pub next : Next (goes i.token i.at s t) ts r

abbrev pub Climbs : ℕ → ℕ → List Frame → Expr → Item → List Item → List Statement → Type 0
Climbs n m s t i ts r = After s t (i ∷ ts) r ⊎ GoesOn n m s t i ts r

module _ (s : List Frame) (i : Item) (r : List Statement) where
  pub climbs : (ts : List Item) (n m : ℕ) (t u : Expr) (b : List Item) → Climb n m t (i ∷ ts) u b → m ≡ wanted s → After s u b r → Climbs n m s t i ts r
  climbs ts n m t u b there e g = inl g
  climbs ts n m t u b (up grammar.stop c) e g =
      elim (climbs ts (suc n) m t u b c e g) [
        | inl h ↦ inl h
        | inr h ↦ inr (record { at_level = h.at_level; is_level = h.is_level; from = (let k = h.from in omega (arith, k)); below = h.below; next = h.next })
      ]
  climbs ts n m t u b (up (grammar.index (grammar.bracketed o l) rest) c) e g =
      let k = climb_most _ _ _ _ _ _ c in
      inr (record { at_level = 0; is_level = rw o refl; from = omega arith; below = omega (arith, k); next = rw o (_, _, l, (u, b, up rest (climb_to e c), g)) })
  climbs ts n m t u b (up (grammar.power o p) c) e g =
      let k = climb_most _ _ _ _ _ _ c in
      inr (record { at_level = 1; is_level = rw o refl; from = omega arith; below = omega (arith, k); next = rw o (_, p, (u, b, climb_to e c, g)) })
  climbs ts n m t u b (up (grammar.operation {x = x} {c = d} o p right rest) c) e g =
      let k = climb_most _ _ _ _ _ _ c in
      let w = operator_within x n d p in
      inr (record {
        at_level = n;
        is_level = rw o (operator_level x n d p);
        from = omega arith;
        below = omega (arith, k);
        next = rw o (subst (λ (v : Move). Next v ts r) (sym (operator_goes i.at s t x n d p))
            (_, _, right, rw (again_same n w.1) (u, b, up rest (climb_to e c), g)));
      })
  climbs ts n m t u b (up (grammar.compared {x = x} {c = d} q o p right) c) e g =
      let k = climb_most _ _ _ _ _ _ c in
      inr (record {
        at_level = n;
        is_level = rw (o, q) (comparison_level x d p);
        from = omega arith;
        below = omega (arith, k);
        next = rw o (subst (λ (v : Move). Next v ts r) (sym (comparison_goes i.at s t x d p))
            (_, _, level_as q right, (u, b, climb_from q (climb_to e c), g)));
      })

pub takes_in : (n : Node) (m : Mode) (w : ℕ) (F : Type 0) (at : Place) (ps : List Part) (f : Fields) (s : List Frame) → Sits n w F → Takes m (frame n at m ps f ∷ s)
takes_in (node.Tree n) mode.Value w F at ps f s h = h.0
takes_in (node.Statement h) mode.Value w F at ps f s k = omega arith
takes_in n mode.Place w F at ps f s h = refl

module _ (i : Item) (r : List Statement) where
  argument_in : (m : Mode) (v : View) (t : Expr) (a b : List Item) → Argument m a t b → Tree m (wanted_in (node.Tree (rule.View m v)) m) a t b
  argument_in m v t a b (grammar.value l) = l
  argument_in m v t a b (grammar.place l) = l

  view_on : (m : Mode) (s : List Frame) (t : Expr) (ts b : List Item) → ViewCall m (i ∷ ts) t b → Given 0 s t b r →
      (v : View) × IsKeyword i (keyword.View v) × Next (opened (node.Tree (rule.View m v)) i.at (fresh i.at) s) ts r
  view_on m s t ts b (grammar.broadcast e o l comma shape close) g = (Broadcast, e, (o, (_, _, argument_in m Broadcast _ _ _ l, (comma, (_, _, _, shape, (close, g))))))
  view_on m s t ts b (grammar.transpose e o l close) g = (Transpose, e, (o, (_, _, argument_in m Transpose _ _ _ l, (close, g))))
  view_on m s t ts b (grammar.reshape e o l comma shape close) g = (Reshape, e, (o, (_, _, argument_in m Reshape _ _ _ l, (comma, (_, _, _, shape, (close, g))))))
  view_on m s t ts b (grammar.strided e o l comma number second shape third strides close) g =
      (Strided, e, (o, (_, _, argument_in m Strided _ _ _ l, (comma, (_, number, (second, (_, _, _, shape, (third, (_, _, _, strides, (close, g))))))))))

  primary_on : (s : List Frame) (t : Expr) (ts b : List Item) → Primary (i ∷ ts) t b → Given 0 s t b r → Next (machine.begins mode.Value i.token i.at s) ts r
  primary_on s t ts b (grammar.literal (grammar.plain e)) g = rw e g
  primary_on s t ts b (grammar.literal (grammar.negative e n)) g = rw e (_, n, g)
  primary_on s t ts b (grammar.name e) g = rw e g
  primary_on s t ts b (grammar.bracket e inner c) g = rw e (_, _, inner, (c, g))
  primary_on s t ts b (grammar.range e o n grammar.no_type c) g = rw e (o, (_, n, inl (c, g)))
  primary_on s t ts b (grammar.range e o n (grammar.one_type comma to) c) g = rw e (o, (_, n, inr (comma, (_, to, (c, g)))))
  primary_on s t ts b (grammar.full e o shape comma literal second to c) g = rw e (o, (_, _, _, shape, (comma, (_, _, _, _, literal, (second, (_, to, (c, g)))))))
  primary_on s t ts b (grammar.fold e o l comma n c) g = rw e (o, (_, _, l, (comma, (_, n, (c, g)))))
  primary_on s t ts b (grammar.absolute e o l c) g = rw e (o, (_, _, l, (c, g)))
  primary_on s t ts b (grammar.pair e o l comma q c) g = rw e (o, (_, _, l, (comma, (_, _, q, (c, g)))))
  primary_on s t ts b (grammar.cast e o l c) g = rw e (o, (_, _, l, (c, g)))
  primary_on s t ts b (grammar.viewed v) g = let x = view_on mode.Value s t ts b v g in rw x.1 x.2

  -- a tree of a level begins with a primary or a sign before it
  enter : (s : List Frame) (n m : ℕ) (t u : Expr) (ts b c : List Item) → Level n (i ∷ ts) t b → Climb n m t b u c → m ≡ wanted s → After s u c r →
      Next (machine.begins mode.Value i.token i.at s) ts r
  enter s n m t u ts b c (grammar.primary p) climb e g = primary_on s t ts b p (u, c, climb_to e climb, g)
  enter s n m t u ts b c (grammar.more l rest) climb e g = enter s _ m _ u ts _ c l (up rest climb) e g
  enter s n m t u ts b c (grammar.invert o l) climb e g = rw o (_, _, l, (u, c, climb_to e climb, g))

  placed_on : (s : List Frame) (t : Expr) (ts b : List Item) → wanted s ≡ 1 → Placed (i ∷ ts) t b → After s t b r → Next (machine.begins mode.Place i.token i.at s) ts r
  placed_on s t ts b f (grammar.placed_name e rest) g = rw e (_, _, climb_to (sym f) (up rest there), g)
  placed_on s t ts b f (grammar.placed_view v rest) g = let x = view_on mode.Place s _ ts _ v (_, _, climb_to (sym f) (up rest there), g) in rw x.1 x.2

  begins_on : (m : Mode) (s : List Frame) (ts : List Item) → Takes m s → Wants m s (i ∷ ts) r → Next (machine.begins m i.token i.at s) ts r
  begins_on mode.Value s ts f (t, b, l, g) = enter s (wanted s) (wanted s) t t ts b b l there refl g
  begins_on mode.Place s ts f (t, b, l, g) = placed_on s t ts b f l g

  take_on : (n : Node) (at : Place) (p : Part) (ps : List Part) (f : Fields) (s : List Frame) (ts : List Item) → Sits n (wanted s) (Formed s) →
      RowIn n at (p ∷ ps) f s (i ∷ ts) r → Next (machine.take n at p ps f s i) ts r
  take_on n at (part.Tree m) ps f s ts h k = begins_on m (frame n at m ps f ∷ s) ts (takes_in n m (wanted s) (Formed s) at ps f s h) k
  take_on n at (part.Field p) ps f s ts h k = onward_on n at ps s (fill p i.token i.at f) ts r (fill_on _ p f i ts k)

  -- a token that would go on at a lower level is nothing to a row that has its tree
  quiet_row : (n : Node) (at : Place) (w : ℕ) (ps : List Part) (f : Fields) (s : List Frame) (ts : List Item) → Low n w ps → Sits n (wanted s) (Formed s) → level i.token < w →
      RowIn n at ps f s (i ∷ ts) r → ((t : Expr) → Formed s → level i.token < wanted s → After s t (i ∷ ts) r → ⊥) → ⊥
  quiet_row n at w (part.Field field.Close ∷ ps) f s ts low h l (e, k) below = let p : level i.token ≡ 9 = ap level e in omega (arith, p, low, l)
  quiet_row n at w (part.Field field.Comma ∷ ps) f s ts low h l (e, k) below = let p : level i.token ≡ 9 = ap level e in omega (arith, p, low, l)
  quiet_row n at w (part.Field field.Equals ∷ ps) f s ts low h l (e, k) below = let p : level i.token ≡ 9 = ap level e in omega (arith, p, low, l)
  quiet_row (node.Statement x) at w [] f s ts low h l (ss, grammar.finish e, q) below = let p : level i.token ≡ 9 = ap level e in omega (arith, p, low, l)
  quiet_row (node.Statement x) at w [] f s ts low h l (ss, grammar.next e k, q) below = let p : level i.token ≡ 9 = ap level e in omega (arith, p, low, l)
  quiet_row (node.Tree n) at w [] f s ts low h l (u, b, c, g) below =
      elim (climbs s i r ts (level_of n) (wanted s) _ u b c refl g) [
        | inl k ↦ below _ h.2 (let m = h.1 in omega (arith, low, l, m)) k
        | inr k ↦ (let a = k.is_level in let d = k.from in omega (arith, low, l, a, d))
      ]
  quiet_row n at w (_ ∷ ps) f s ts low h l k below = absurd low

  quiet : (s : List Frame) (t : Expr) (ts : List Item) → Formed s → level i.token < wanted s → After s t (i ∷ ts) r → ⊥
  quiet [] t ts w l k = k
  quiet (f ∷ s) t ts w l k = quiet_row f.row.node f.row.at f.level f.row.rest (with_tree f.row.fields t) s ts w.0 w.2 l k (λ u v m h. quiet s u ts v m h)

  ends_on : (st : Statement) (ts : List Item) (ss : List Statement) → Ends (i ∷ ts) ss → r ≡ st ∷ ss → Next (machine.ends i.token st) ts r
  ends_on st ts ss (grammar.finish e) q = rw e ([], (tt, refl), q)
  ends_on st ts ss (grammar.next e k) q = rw e (ss, k, q)

  leaves_on : (n : Node) (at : Place) (ps : List Part) (f : Fields) (s : List Frame) (ts : List Item) → Sits n (wanted s) (Formed s) → RowIn n at ps f s (i ∷ ts) r →
      ((m : ℕ) (u : Expr) → Formed s → Given m s u (i ∷ ts) r → Next (give s m u i) ts r) → Next (leaves n at ps f s i (λ m u. give s m u i)) ts r
  leaves_on n at (p ∷ ps) f s ts h k on = take_on n at p ps f s ts h k
  leaves_on (node.Tree n) at [] f s ts h k on = on (level_of n) (tree_of n at f) h.2 k
  leaves_on (node.Statement x) at [] f s ts h (ss, k, q) on = ends_on (stated x at f) ts ss k q

  choose : (f : Frame) (s : List Frame) (n : ℕ) (t : Expr) (ts : List Item) → Formed (f ∷ s) → Given n (f ∷ s) t (i ∷ ts) r →
      (After (f ∷ s) t (i ∷ ts) r → Next (leaves f.row.node f.row.at f.row.rest (with_tree f.row.fields t) s i (λ m u. give s m u i)) ts r) → Next (give (f ∷ s) n t i) ts r
  choose f s n t ts w (u, b, c, g) over =
      elim (climbs (f ∷ s) i r ts n f.level t u b c refl g) [
        | inl h ↦ rw (fits_no n f.level i.token (λ l. quiet (f ∷ s) t ts w l h)) (over h)
        | inr h ↦ rw (fits_yes n h.at_level f.level i.token h.is_level h.from h.below) h.next
      ]

  -- a tree stands over a stack, and the script goes on with a token: the machine takes the token
  give_on : (s : List Frame) (n : ℕ) (t : Expr) (ts : List Item) → Formed s → Given n s t (i ∷ ts) r → Next (give s n t i) ts r
  give_on [] n t ts w (u, b, c, g) = absurd g
  give_on (f ∷ s) n t ts w g =
      choose f s n t ts w g (λ k. leaves_on f.row.node f.row.at f.row.rest (with_tree f.row.fields t) s ts w.2 k (λ m u v h. give_on s m u ts v h))

  starts_on : (ts : List Item) (ss : List Statement) → Script (i ∷ ts) ss → r ≡ ss → Next (machine.starts i.token i.at) ts r
  starts_on ts ss (grammar.blank (grammar.finish e)) q = rw e (tt, q)
  starts_on ts ss (grammar.blank (grammar.next e k)) q = rw (e, q) k
  starts_on ts ss (grammar.statement (grammar.print e l) ends) q = rw e (_, _, l, (_, ends, q))
  starts_on ts ss (grammar.statement (grammar.delete e n) ends) q = rw e (_, n, (_, ends, q))
  starts_on ts ss (grammar.statement (grammar.flush e) ends) q = rw e (_, ends, q)
  starts_on ts ss (grammar.statement (grammar.bind e a l) ends) q = rw e (inl (a, inl (_, _, l, (_, ends, q))))
  starts_on ts ss (grammar.statement (grammar.gather e a word o l comma m close) ends) q =
      rw e (inl (a, inr (word, (o, (_, _, l, (comma, (_, _, m, (close, (_, ends, q)))))))))
  starts_on ts ss (grammar.statement (grammar.scatter e o p comma l second m close) ends) q =
      rw e (o, (_, _, p, (comma, (_, _, l, (second, (_, _, m, (close, (_, ends, q))))))))
  starts_on ts ss (grammar.statement (grammar.assign (grammar.target_name e index rest) a l) ends) q =
      rw e (inr (_, _, _, index, (_, _, up rest there, (a, (_, _, l, (_, ends, q))))))
  starts_on ts ss (grammar.statement (grammar.assign (grammar.target_view v rest) a l) ends) q =
      let x = view_on mode.Place (target i.at) _ ts _ v (_, _, up rest there, (a, (_, _, l, (_, ends, q)))) in rw x.1 x.2

  named_on : (w : Word) (ts : List Item) → Completes (state.Named w) (i ∷ ts) r → Next (machine.named i.token i.at w) ts r
  named_on w ts (inl (e, k)) = rw e k
  named_on w ts (inr (at, cuts, b, grammar.bracketed e l, g)) = rw e (cuts, b, l, g)

  -- no value begins with `gather`
  binds_value : (k : Token) (w : Word) (ts : List Item) → Next (machine.begins mode.Value k i.at (bound w)) ts r → Next (machine.binds k i.at w) ts r
  binds_value (token.Keyword keyword.Gather) w ts k = absurd k
  binds_value _ w ts k = k

  binds_on : (w : Word) (ts : List Item) → Completes (state.Bound w) (i ∷ ts) r → Next (machine.binds i.token i.at w) ts r
  binds_on w ts (inl (t, b, l, k)) = binds_value i.token w ts (enter (bound w) 9 9 t t ts b b l there refl k)
  binds_on w ts (inr (e, k)) = rw e k

  ended_on : (ts : List Item) (ss : List Statement) → Ends (i ∷ ts) ss → r ≡ ss → Next (machine.ended i.token) ts r
  ended_on ts ss (grammar.finish e) q = rw e (tt, q)
  ended_on ts ss (grammar.next e k) q = rw (e, q) k

  pub forward : (st : State) (ts : List Item) → WellFormed st → Completes st (i ∷ ts) r → Next (step st i) ts r
  forward state.Start ts f k = starts_on ts r k refl
  forward (state.Named w) ts f k = named_on w ts k
  forward (state.Bound w) ts f k = binds_on w ts k
  forward state.Delete ts f (x, e, (ss, ends, q)) = rw e (ss, ends, q)
  forward state.Ended ts f k = ended_on ts r k refl
  forward (state.Have n t s) ts f k = give_on s n t ts f.1 k
  forward (state.Fill p w s) ts f k = take_on w.node w.at p w.rest w.fields s ts f.1 k
  forward state.Finished ts f (e, q) = absurd e
