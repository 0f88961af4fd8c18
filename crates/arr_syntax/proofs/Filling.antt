-- What one token makes of a part, from the grammar to the machine and back.
use Rattle.std.proofs.Common.{ℕ, ℤ, pos, neg_ℤ, true, false, List, [], ◌∷◌, ◌++◌, Option, Some, None, inl, inr, refl, sym, subst, append_assoc}
use Rattle.arr_tree.specs.declared.refusal.Place.{Place}
use Rattle.arr_tokens.specs.declared.token.Item.{Item}
use Rattle.arr_tokens.specs.declared.token.Token.{Token}
use Rattle.arr_tokens.specs.declared.token.Token.TheVariants as token
use Rattle.arr_tokens.specs.declared.token.Sign.TheVariants as sign
use Rattle.arr_tokens.specs.declared.token.Keyword.TheVariants as keyword
use Rattle.arr_syntax.specs.declared.state.Fields.{Fields}
use Rattle.arr_syntax.specs.declared.state.Field.{Field}
use Rattle.arr_syntax.specs.declared.state.Field.TheVariants as field
use Rattle.arr_tree.specs.declared.tree.Cut.{Cut}
use Rattle.arr_syntax.specs.Grammar as grammar
use Rattle.arr_tree.specs.Trees.{cut, lengths_at, steps_at}
use Rattle.arr_syntax.specs.Grammar.{Listed, Length, Stride, Slice, plain, negative, last, and_more, bracketed, one_length, one_stride, no_bound, one_bound, no_step, one_step, short, long}
use Rattle.arr_syntax.specs.Machine.{fill}
use Rattle.arr_syntax.proofs.Completes.{FieldIn, NextField, LengthIn, StrideIn, MoreStridesIn, StartIn, AfterStepIn, StepIn, AfterStopIn, StopIn}

module _ (K : Fields → List Item → Type 0) where
  -- one more length, stride or slice joins those before it
  lengths_join : (f : Fields) (n : ℕ) (ns : List ℕ) (b : List Item) → K (record f { shape = lengths_at f.shape.at (f.shape.list ++ n ∷ ns) }) b → K (record f { shape = lengths_at f.shape.at ((f.shape.list ++ n ∷ []) ++ ns) }) b
  lengths_join f n ns b k = subst (λ (l : List ℕ). K (record f { shape = lengths_at f.shape.at l }) b) (sym (append_assoc f.shape.list (n ∷ []) ns)) k

  lengths_part : (f : Fields) (n : ℕ) (ns : List ℕ) (b : List Item) → K (record f { shape = lengths_at f.shape.at ((f.shape.list ++ n ∷ []) ++ ns) }) b → K (record f { shape = lengths_at f.shape.at (f.shape.list ++ n ∷ ns) }) b
  lengths_part f n ns b k = subst (λ (l : List ℕ). K (record f { shape = lengths_at f.shape.at l }) b) (append_assoc f.shape.list (n ∷ []) ns) k

  strides_join : (f : Fields) (n : ℤ) (ns : List ℤ) (b : List Item) → K (record f { strides = steps_at f.strides.at (f.strides.list ++ n ∷ ns) }) b → K (record f { strides = steps_at f.strides.at ((f.strides.list ++ n ∷ []) ++ ns) }) b
  strides_join f n ns b k = subst (λ (l : List ℤ). K (record f { strides = steps_at f.strides.at l }) b) (sym (append_assoc f.strides.list (n ∷ []) ns)) k

  strides_part : (f : Fields) (n : ℤ) (ns : List ℤ) (b : List Item) → K (record f { strides = steps_at f.strides.at ((f.strides.list ++ n ∷ []) ++ ns) }) b → K (record f { strides = steps_at f.strides.at (f.strides.list ++ n ∷ ns) }) b
  strides_part f n ns b k = subst (λ (l : List ℤ). K (record f { strides = steps_at f.strides.at l }) b) (append_assoc f.strides.list (n ∷ []) ns) k

  cuts_join : (f : Fields) (n : Cut) (ns : List Cut) (b : List Item) → K (record f { cuts = f.cuts ++ n ∷ ns }) b → K (record f { cuts = (f.cuts ++ n ∷ []) ++ ns }) b
  cuts_join f n ns b k = subst (λ (l : List Cut). K (record f { cuts = l }) b) (sym (append_assoc f.cuts (n ∷ []) ns)) k

  cuts_part : (f : Fields) (n : Cut) (ns : List Cut) (b : List Item) → K (record f { cuts = (f.cuts ++ n ∷ []) ++ ns }) b → K (record f { cuts = f.cuts ++ n ∷ ns }) b
  cuts_part f n ns b k = subst (λ (l : List Cut). K (record f { cuts = l }) b) (append_assoc f.cuts (n ∷ []) ns) k

  -- the first slice of a list, and what comes behind it
  first_slice : (f : Fields) (ts b : List Item) (xs : List Cut) → Listed Cut Slice ts xs b → K (record f { cuts = f.cuts ++ xs }) b →
      (c : Cut) × (d : List Item) × Slice ts c d × AfterStepIn c f d K
  first_slice f ts b xs (last s e) k = (_, _, s, inl (e, k))
  first_slice f ts b xs (and_more {x = c} {xs = cs} s e l) k = (_, _, s, inr (e, (cs, b, l, cuts_join f c cs b k)))

  slice_on : (f : Fields) (i : Item) (ts d : List Item) (c : Cut) → Slice (i ∷ ts) c d → AfterStepIn c f d K → NextField (fill field.Start i.token i.at f) ts K
  slice_on f i ts d c (short no_bound e stop) k = rw e (_, _, stop, inl k)
  slice_on f i ts d c (short (one_bound n) e stop) k = rw n (e, (_, _, stop, inl k))
  slice_on f i ts d c (long no_bound e stop g step) k = rw e (_, _, stop, inr (g, (_, _, step, k)))
  slice_on f i ts d c (long (one_bound n) e stop g step) k = rw n (e, (_, _, stop, inr (g, (_, _, step, k))))

  after_step_on : (c : Cut) (f : Fields) (i : Item) (ts : List Item) → AfterStepIn c f (i ∷ ts) K → NextField (fill (field.AfterStep c) i.token i.at f) ts K
  after_step_on c f i ts (inl (e, k)) = rw e k
  after_step_on c f i ts (inr (e, k)) = rw e k

  after_stop_on : (c : Cut) (f : Fields) (i : Item) (ts : List Item) → AfterStopIn c f (i ∷ ts) K → NextField (fill (field.AfterStop c) i.token i.at f) ts K
  after_stop_on c f i ts (inl (inl (e, k))) = rw e k
  after_stop_on c f i ts (inl (inr (e, k))) = rw e k
  after_stop_on c f i ts (inr (e, k)) = rw e k

  pub fill_on : (p : Field) (f : Fields) (i : Item) (ts : List Item) → FieldIn p f (i ∷ ts) K → NextField (fill p i.token i.at f) ts K
  fill_on field.Open f i ts (e, k) = rw e k
  fill_on field.Close f i ts (e, k) = rw e k
  fill_on field.Comma f i ts (e, k) = rw e k
  fill_on field.Equals f i ts (e, k) = rw e k
  fill_on field.Number f i ts (n, e, k) = rw e k
  fill_on field.TypeOrClose f i ts (inl (e, k)) = rw e k
  fill_on field.TypeOrClose f i ts (inr (e, k)) = rw e k
  fill_on field.LastType f i ts (to, e, k) = rw e k
  fill_on field.Literal f i ts (at, m, n, b, plain e, k) = rw e k
  fill_on field.Literal f i ts (at, m, n, b, negative e g, k) = rw e (_, g, k)
  fill_on (field.Size at) f i ts (n, e, k) = rw e k
  fill_on field.Shape f i ts (at, xs, b, bracketed e l, k) = rw e (xs, b, l, k)
  fill_on field.Length f i ts (xs, b, last (one_length e) c, k) = rw e (inl (c, k))
  fill_on field.Length f i ts (xs, b, and_more {x = n} {xs = ns} (one_length e) c l, k) = rw e (inr (c, (ns, b, l, lengths_join f n ns b k)))
  fill_on field.MoreLengths f i ts (inl (e, k)) = rw e k
  fill_on field.MoreLengths f i ts (inr (e, k)) = rw e k
  fill_on field.Strides f i ts (at, xs, b, bracketed e l, k) = rw e (xs, b, l, k)
  fill_on field.Stride f i ts (xs, b, last (one_stride (plain e)) c, k) = rw e (inl (c, k))
  fill_on field.Stride f i ts (xs, b, last (one_stride (negative e g)) c, k) = rw e (_, g, inl (c, k))
  fill_on field.Stride f i ts (xs, b, and_more {xs = ns} (one_stride (plain {n = n} e)) c l, k) = rw e (inr (c, (ns, b, l, strides_join f (pos n) ns b k)))
  fill_on field.Stride f i ts (xs, b, and_more {xs = ns} (one_stride (negative {n = n} e g)) c l, k) =
      rw e (n, g, inr (c, (ns, b, l, strides_join f (neg_ℤ (pos n)) ns b k)))
  fill_on field.NegativeStride f i ts (n, e, k) = rw e k
  fill_on field.MoreStrides f i ts (inl (e, k)) = rw e k
  fill_on field.MoreStrides f i ts (inr (e, k)) = rw e k
  fill_on field.Start f i ts (xs, b, l, k) = let x = first_slice f (i ∷ ts) b xs l k in slice_on f i ts x.1 x.0 x.2 x.3
  fill_on (field.Colon c) f i ts (e, k) = rw e k
  fill_on (field.Stop c) f i ts (o, b, no_bound, inl (inl (e, k))) = rw e k
  fill_on (field.Stop c) f i ts (o, b, no_bound, inl (inr (e, k))) = rw e k
  fill_on (field.Stop c) f i ts (o, b, no_bound, inr (e, k)) = rw e k
  fill_on (field.Stop c) f i ts (o, b, one_bound e, k) = rw e k
  fill_on (field.AfterStop c) f i ts k = after_stop_on c f i ts k
  fill_on (field.Step c) f i ts (o, b, no_step, inl (e, k)) = rw e k
  fill_on (field.Step c) f i ts (o, b, no_step, inr (e, k)) = rw e k
  fill_on (field.Step c) f i ts (o, b, one_step (plain e), k) = rw e k
  fill_on (field.Step c) f i ts (o, b, one_step (negative e g), k) = rw e (_, g, k)
  fill_on (field.NegativeStep c) f i ts (n, e, k) = rw e k
  fill_on (field.AfterStep c) f i ts k = after_step_on c f i ts k

abbrev pub item : Token → Place → Item
item t at = record { token = t; at = at }

module _ (K : Fields → List Item → Type 0) where
  open_back : (t : Token) (at : Place) (f : Fields) (ts : List Item) → NextField (fill field.Open t at f) ts K → FieldIn field.Open f (item t at ∷ ts) K
  open_back (token.Sign sign.Open) at f ts k = (refl, k)
  open_back _ at f ts k = absurd k

  close_back : (t : Token) (at : Place) (f : Fields) (ts : List Item) → NextField (fill field.Close t at f) ts K → FieldIn field.Close f (item t at ∷ ts) K
  close_back (token.Sign sign.Close) at f ts k = (refl, k)
  close_back _ at f ts k = absurd k

  comma_back : (t : Token) (at : Place) (f : Fields) (ts : List Item) → NextField (fill field.Comma t at f) ts K → FieldIn field.Comma f (item t at ∷ ts) K
  comma_back (token.Sign sign.Comma) at f ts k = (refl, k)
  comma_back _ at f ts k = absurd k

  equals_back : (t : Token) (at : Place) (f : Fields) (ts : List Item) → NextField (fill field.Equals t at f) ts K → FieldIn field.Equals f (item t at ∷ ts) K
  equals_back (token.Sign sign.Assign) at f ts k = (refl, k)
  equals_back _ at f ts k = absurd k

  number_back : (t : Token) (at : Place) (f : Fields) (ts : List Item) → NextField (fill field.Number t at f) ts K → FieldIn field.Number f (item t at ∷ ts) K
  number_back (token.Number n) at f ts k = (n, refl, k)
  number_back _ at f ts k = absurd k

  type_or_close_back : (t : Token) (at : Place) (f : Fields) (ts : List Item) → NextField (fill field.TypeOrClose t at f) ts K → FieldIn field.TypeOrClose f (item t at ∷ ts) K
  type_or_close_back (token.Sign sign.Close) at f ts k = inl (refl, k)
  type_or_close_back (token.Sign sign.Comma) at f ts k = inr (refl, k)
  type_or_close_back _ at f ts k = absurd k

  last_type_back : (t : Token) (at : Place) (f : Fields) (ts : List Item) → NextField (fill field.LastType t at f) ts K → FieldIn field.LastType f (item t at ∷ ts) K
  last_type_back (token.Keyword (keyword.Type to)) at f ts k = (to, refl, k)
  last_type_back _ at f ts k = absurd k

  size_is : (at : Place) (f : Fields) (ts : List Item) → FieldIn (field.Size at) f ts K → FieldIn field.Literal f (item (token.Sign sign.Minus) at ∷ ts) K
  size_is at f [] k = absurd k
  size_is at f (j ∷ ts) (n, e, k) = (at, true, n, ts, negative refl e, k)

  literal_back : (t : Token) (at : Place) (f : Fields) (ts : List Item) → NextField (fill field.Literal t at f) ts K → FieldIn field.Literal f (item t at ∷ ts) K
  literal_back (token.Number n) at f ts k = (at, false, n, ts, plain refl, k)
  literal_back (token.Sign sign.Minus) at f ts k = size_is at f ts k
  literal_back _ at f ts k = absurd k

  size_back : (from : Place) (t : Token) (at : Place) (f : Fields) (ts : List Item) → NextField (fill (field.Size from) t at f) ts K → FieldIn (field.Size from) f (item t at ∷ ts) K
  size_back from (token.Number n) at f ts k = (n, refl, k)
  size_back from _ at f ts k = absurd k

  shape_back : (t : Token) (at : Place) (f : Fields) (ts : List Item) → NextField (fill field.Shape t at f) ts K → FieldIn field.Shape f (item t at ∷ ts) K
  shape_back (token.Sign sign.OpenIndex) at f ts (xs, b, l, k) = (at, xs, b, bracketed refl l, k)
  shape_back _ at f ts k = absurd k

  lengths_are : (at : Place) (n : ℕ) (f : Fields) (ts : List Item) → FieldIn field.MoreLengths (record f { shape = lengths_at f.shape.at (f.shape.list ++ n ∷ []) }) ts K → LengthIn f (item (token.Number n) at ∷ ts) K
  lengths_are at n f [] k = absurd k
  lengths_are at n f (j ∷ ts) (inl (e, k)) = (n ∷ [], ts, last (one_length refl) e, k)
  lengths_are at n f (j ∷ ts) (inr (e, (ns, b, l, k))) = (n ∷ ns, b, and_more (one_length refl) e l, lengths_part K f n ns b k)

  length_back : (t : Token) (at : Place) (f : Fields) (ts : List Item) → NextField (fill field.Length t at f) ts K → FieldIn field.Length f (item t at ∷ ts) K
  length_back (token.Number n) at f ts k = lengths_are at n f ts k
  length_back _ at f ts k = absurd k

  more_lengths_back : (t : Token) (at : Place) (f : Fields) (ts : List Item) → NextField (fill field.MoreLengths t at f) ts K → FieldIn field.MoreLengths f (item t at ∷ ts) K
  more_lengths_back (token.Sign sign.Comma) at f ts k = inr (refl, k)
  more_lengths_back (token.Sign sign.CloseIndex) at f ts k = inl (refl, k)
  more_lengths_back _ at f ts k = absurd k

  strides_back : (t : Token) (at : Place) (f : Fields) (ts : List Item) → NextField (fill field.Strides t at f) ts K → FieldIn field.Strides f (item t at ∷ ts) K
  strides_back (token.Sign sign.OpenIndex) at f ts (xs, b, l, k) = (at, xs, b, bracketed refl l, k)
  strides_back _ at f ts k = absurd k

  strides_are : (at : Place) (n : ℕ) (f : Fields) (ts : List Item) → MoreStridesIn (record f { strides = steps_at f.strides.at (f.strides.list ++ pos n ∷ []) }) ts K → StrideIn f (item (token.Number n) at ∷ ts) K
  strides_are at n f [] k = absurd k
  strides_are at n f (j ∷ ts) (inl (e, k)) = (pos n ∷ [], ts, last (one_stride {negative = false} (plain refl)) e, k)
  strides_are at n f (j ∷ ts) (inr (e, (ns, b, l, k))) = (pos n ∷ ns, b, and_more (one_stride {negative = false} (plain refl)) e l, strides_part K f (pos n) ns b k)

  negative_strides_are : (at : Place) (f : Fields) (ts : List Item) → FieldIn field.NegativeStride f ts K → StrideIn f (item (token.Sign sign.Minus) at ∷ ts) K
  negative_strides_are at f [] k = absurd k
  negative_strides_are at f (i ∷ []) (n, g, k) = absurd k
  negative_strides_are at f (i ∷ j ∷ ts) (n, g, inl (e, k)) = (neg_ℤ (pos n) ∷ [], ts, last (one_stride {negative = true} (negative refl g)) e, k)
  negative_strides_are at f (i ∷ j ∷ ts) (n, g, inr (e, (ns, b, l, k))) =
      (neg_ℤ (pos n) ∷ ns, b, and_more (one_stride {negative = true} (negative refl g)) e l, strides_part K f (neg_ℤ (pos n)) ns b k)

  stride_back : (t : Token) (at : Place) (f : Fields) (ts : List Item) → NextField (fill field.Stride t at f) ts K → FieldIn field.Stride f (item t at ∷ ts) K
  stride_back (token.Number n) at f ts k = strides_are at n f ts k
  stride_back (token.Sign sign.Minus) at f ts k = negative_strides_are at f ts k
  stride_back _ at f ts k = absurd k

  negative_stride_back : (t : Token) (at : Place) (f : Fields) (ts : List Item) → NextField (fill field.NegativeStride t at f) ts K → FieldIn field.NegativeStride f (item t at ∷ ts) K
  negative_stride_back (token.Number n) at f ts k = (n, refl, k)
  negative_stride_back _ at f ts k = absurd k

  more_strides_back : (t : Token) (at : Place) (f : Fields) (ts : List Item) → NextField (fill field.MoreStrides t at f) ts K → FieldIn field.MoreStrides f (item t at ∷ ts) K
  more_strides_back (token.Sign sign.Comma) at f ts k = inr (refl, k)
  more_strides_back (token.Sign sign.CloseIndex) at f ts k = inl (refl, k)
  more_strides_back _ at f ts k = absurd k

  -- a slice, and what comes behind it, begins a list
  list_of : (f : Fields) (ts d : List Item) (c : Cut) → Slice ts c d → AfterStepIn c f d K → StartIn f ts K
  list_of f ts [] c s k = absurd k
  list_of f ts (i ∷ d) c s (inl (e, k)) = (c ∷ [], d, last s e, k)
  list_of f ts (i ∷ d) c s (inr (e, (cs, b, l, k))) = (c ∷ cs, b, and_more s e l, cuts_part K f c cs b k)

  slice_of : (from : Option ℕ) (i : Item) (f : Fields) (a ts : List Item) → grammar.Bound a from (i ∷ ts) → grammar.IsSign i sign.Colon → StopIn (cut from None None) f ts K → StartIn f a K
  slice_of from i f a ts s e (o, [], stop, inl k) = absurd k
  slice_of from i f a ts s e (o, j ∷ b, stop, inl k) = list_of f a (j ∷ b) (cut from o None) (short s e stop) k
  slice_of from i f a ts s e (o, [], stop, inr k) = absurd k
  slice_of from i f a ts s e (o, j ∷ b, stop, inr (g, (z, d, step, k))) = list_of f a d (cut from o z) (long s e stop g step) k

  colon_slice : (at : Place) (n : ℕ) (f : Fields) (ts : List Item) → FieldIn (field.Colon (cut (Some n) None None)) f ts K → StartIn f (item (token.Number n) at ∷ ts) K
  colon_slice at n f [] k = absurd k
  colon_slice at n f (i ∷ ts) (e, k) = slice_of (Some n) i f (item (token.Number n) at ∷ i ∷ ts) ts (one_bound refl) e k

  start_back : (t : Token) (at : Place) (f : Fields) (ts : List Item) → NextField (fill field.Start t at f) ts K → FieldIn field.Start f (item t at ∷ ts) K
  start_back (token.Number n) at f ts k = colon_slice at n f ts k
  start_back (token.Sign sign.Colon) at f ts k = slice_of None (item (token.Sign sign.Colon) at) f (item (token.Sign sign.Colon) at ∷ ts) ts no_bound refl k
  start_back _ at f ts k = absurd k

  colon_back : (t : Token) (at : Place) (c : Cut) (f : Fields) (ts : List Item) → NextField (fill (field.Colon c) t at f) ts K → FieldIn (field.Colon c) f (item t at ∷ ts) K
  colon_back (token.Sign sign.Colon) at c f ts k = (refl, k)
  colon_back _ at c f ts k = absurd k

  after_step_back : (t : Token) (at : Place) (c : Cut) (f : Fields) (ts : List Item) → NextField (fill (field.AfterStep c) t at f) ts K → AfterStepIn c f (item t at ∷ ts) K
  after_step_back (token.Sign sign.Comma) at c f ts k = inr (refl, k)
  after_step_back (token.Sign sign.CloseIndex) at c f ts k = inl (refl, k)
  after_step_back _ at c f ts k = absurd k

  after_stop_back : (t : Token) (at : Place) (c : Cut) (f : Fields) (ts : List Item) → NextField (fill (field.AfterStop c) t at f) ts K → AfterStopIn c f (item t at ∷ ts) K
  after_stop_back (token.Sign sign.Colon) at c f ts k = inr (refl, k)
  after_stop_back (token.Sign sign.Comma) at c f ts k = inl (inr (refl, k))
  after_stop_back (token.Sign sign.CloseIndex) at c f ts k = inl (inl (refl, k))
  after_stop_back _ at c f ts k = absurd k

  stop_back : (t : Token) (at : Place) (c : Cut) (f : Fields) (ts : List Item) → NextField (fill (field.Stop c) t at f) ts K → StopIn c f (item t at ∷ ts) K
  stop_back (token.Number n) at c f ts k = (Some n, ts, one_bound refl, k)
  stop_back (token.Sign sign.Colon) at c f ts k = (None, item (token.Sign sign.Colon) at ∷ ts, no_bound, inr (refl, k))
  stop_back (token.Sign sign.Comma) at c f ts k = (None, item (token.Sign sign.Comma) at ∷ ts, no_bound, inl (inr (refl, k)))
  stop_back (token.Sign sign.CloseIndex) at c f ts k = (None, item (token.Sign sign.CloseIndex) at ∷ ts, no_bound, inl (inl (refl, k)))
  stop_back _ at c f ts k = absurd k

  step_of : (at : Place) (c : Cut) (f : Fields) (ts : List Item) → FieldIn (field.NegativeStep c) f ts K → StepIn c f (item (token.Sign sign.Minus) at ∷ ts) K
  step_of at c f [] k = absurd k
  step_of at c f (j ∷ ts) (n, e, k) = (Some (neg_ℤ (pos n)), ts, one_step {negative = true} (negative refl e), k)

  step_back : (t : Token) (at : Place) (c : Cut) (f : Fields) (ts : List Item) → NextField (fill (field.Step c) t at f) ts K → StepIn c f (item t at ∷ ts) K
  step_back (token.Number n) at c f ts k = (Some (pos n), ts, one_step {negative = false} (plain refl), k)
  step_back (token.Sign sign.Minus) at c f ts k = step_of at c f ts k
  step_back (token.Sign sign.Comma) at c f ts k = (None, item (token.Sign sign.Comma) at ∷ ts, no_step, inr (refl, k))
  step_back (token.Sign sign.CloseIndex) at c f ts k = (None, item (token.Sign sign.CloseIndex) at ∷ ts, no_step, inl (refl, k))
  step_back _ at c f ts k = absurd k

  negative_step_back : (t : Token) (at : Place) (c : Cut) (f : Fields) (ts : List Item) → NextField (fill (field.NegativeStep c) t at f) ts K → FieldIn (field.NegativeStep c) f (item t at ∷ ts) K
  negative_step_back (token.Number n) at c f ts k = (n, refl, k)
  negative_step_back _ at c f ts k = absurd k

  pub fill_back : (p : Field) (t : Token) (at : Place) (f : Fields) (ts : List Item) → NextField (fill p t at f) ts K → FieldIn p f (item t at ∷ ts) K
  fill_back field.Open t at f ts k = open_back t at f ts k
  fill_back field.Close t at f ts k = close_back t at f ts k
  fill_back field.Comma t at f ts k = comma_back t at f ts k
  fill_back field.Equals t at f ts k = equals_back t at f ts k
  fill_back field.Number t at f ts k = number_back t at f ts k
  fill_back field.TypeOrClose t at f ts k = type_or_close_back t at f ts k
  fill_back field.LastType t at f ts k = last_type_back t at f ts k
  fill_back field.Literal t at f ts k = literal_back t at f ts k
  fill_back (field.Size from) t at f ts k = size_back from t at f ts k
  fill_back field.Shape t at f ts k = shape_back t at f ts k
  fill_back field.Length t at f ts k = length_back t at f ts k
  fill_back field.MoreLengths t at f ts k = more_lengths_back t at f ts k
  fill_back field.Strides t at f ts k = strides_back t at f ts k
  fill_back field.Stride t at f ts k = stride_back t at f ts k
  fill_back field.NegativeStride t at f ts k = negative_stride_back t at f ts k
  fill_back field.MoreStrides t at f ts k = more_strides_back t at f ts k
  fill_back field.Start t at f ts k = start_back t at f ts k
  fill_back (field.Colon c) t at f ts k = colon_back t at c f ts k
  fill_back (field.Stop c) t at f ts k = stop_back t at c f ts k
  fill_back (field.AfterStop c) t at f ts k = after_stop_back t at c f ts k
  fill_back (field.Step c) t at f ts k = step_back t at c f ts k
  fill_back (field.NegativeStep c) t at f ts k = negative_step_back t at c f ts k
  fill_back (field.AfterStep c) t at f ts k = after_step_back t at c f ts k
