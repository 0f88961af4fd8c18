-- A record that is read moves the tree on.
use Rattle.std.proofs.Common.{◌≡◌, ℕ, ◌≤◌, List, [], ◌∷◌, ◌++◌, length, take, drop, reverse, false, refl, sym, ap, ap₂, ◌∙◌, subst, arith, length-append}
use Rattle.std.proofs.lemmas.List.{take-append-le, length-take-le, take-append-drop, reverse-append}
use Rattle.std.proofs.lemmas.List.Sums.{fold_push}
use Rattle.std.proofs.Math.Seq.{take-length}
use Rattle.arr_law.specs.declared.fact.Fact.{Fact}
use Rattle.arr_law.specs.declared.record.Record.{Record}
use Rattle.arr_law.specs.Problem.{Problem}
use Rattle.arr_law.specs.Facts.{with_fact, root_facts, facts_of}
use Rattle.arr_law.specs.Trees.{subtrees}
use Rattle.arr_check.specs.declared.tree.Waiting.{Waiting}
use Rattle.arr_check.specs.Steps.{waiting, pending_of, AreWaits, IsNew, IsRight}

module _ (P : Problem) where
  pub facts_push : (trail : List Fact) (x : Fact) → facts_of P (trail ++ x ∷ []) ≡ with_fact x (facts_of P trail)
  facts_push trail x = fold_push (λ facts y. with_fact y facts) (root_facts P) trail x

  waits_more : (trail : List Fact) (n m : ℕ) (ws : List Waiting) → n ≤ m → AreWaits P trail n ws → AreWaits P trail m ws
  waits_more trail n m [] l a = tt
  waits_more trail n m (w ∷ ws) l a = (omega (arith, a.0), a.1, a.2)

  waiting_push : (trail more : List Fact) (n : ℕ) (ws : List Waiting) → n ≤ length trail → AreWaits P trail n ws → waiting P (trail ++ more) ws ≡ waiting P trail ws
  waiting_push trail more n [] l a = refl
  waiting_push trail more n (w ∷ ws) l a =
      let here : take w.mark (trail ++ more) ≡ take w.mark trail = take-append-le w.mark trail more (omega (arith, a.0)) in
      let rest : waiting P (trail ++ more) ws ≡ waiting P trail ws = waiting_push trail more w.mark ws (omega (arith, a.0)) a.2 in
      ap₂ (λ t us. facts_of P (t ++ w.second ∷ []) ∷ us) here rest

  waits_push : (trail more : List Fact) (n : ℕ) (ws : List Waiting) → n ≤ length trail → AreWaits P trail n ws → AreWaits P (trail ++ more) n ws
  waits_push trail more n [] l a = tt
  waits_push trail more n (w ∷ ws) l a =
      let here : take w.mark (trail ++ more) ≡ take w.mark trail = take-append-le w.mark trail more (omega (arith, a.0)) in
      (a.0, subst (λ t. IsNew P (facts_of P t) w.second) (sym here) a.1, waits_push trail more w.mark ws (omega (arith, a.0)) a.2)

  -- cutting the list at a mark keeps what waits below it
  waiting_take : (trail : List Fact) (n : ℕ) (ws : List Waiting) → n ≤ length trail → AreWaits P trail n ws → (waiting P (take n trail) ws ≡ waiting P trail ws) × AreWaits P (take n trail) n ws
  waiting_take trail n [] l a = (refl, tt)
  waiting_take trail n (w ∷ ws) l a =
      let here : take w.mark (take n trail) ≡ take w.mark trail =
      sym (take-append-le w.mark (take n trail) (drop n trail) (omega (arith, a.0, length-take-le n trail l))) ∙ ap (take w.mark) (take-append-drop n trail) in
      let rest = at_mark w.mark a.0 (waiting_take trail w.mark ws (omega (arith, a.0)) a.2) in
      (ap₂ (λ t us. facts_of P (t ++ w.second ∷ []) ∷ us) here rest.0, (a.0, subst (λ t. IsNew P (facts_of P t) w.second) (sym here) a.1, rest.1))
    where
      -- what is so of the list cut at a lower mark is so of the list cut here
      at_mark : (m : ℕ) → m ≤ n → (waiting P (take m trail) ws ≡ waiting P trail ws) × AreWaits P (take m trail) m ws → (waiting P (take n trail) ws ≡ waiting P trail ws) × AreWaits P (take n trail) m ws
      at_mark m le h =
          let low : m ≤ length (take n trail) = omega (arith, le, length-take-le n trail l) in
          let same : take m (take n trail) ≡ take m trail =
          sym (take-append-le m (take n trail) (drop n trail) low) ∙ ap (take m) (take-append-drop n trail) in
          let cut : take m (take n trail) ++ drop m (take n trail) ≡ take n trail = take-append-drop m (take n trail) in
          let long : m ≤ length (take m trail) = omega (arith, length-take-le m trail (let k : m ≤ length trail = omega (arith, le, l) in k)) in
          let w1 = waiting_push (take m trail) (drop m (take n trail)) m ws long h.1 in
          let w2 = waits_push (take m trail) (drop m (take n trail)) m ws long h.1 in
          let whole : take m trail ++ drop m (take n trail) ≡ take n trail = ap (λ t. t ++ drop m (take n trail)) (sym same) ∙ cut in
          (ap (λ t. waiting P t ws) (sym whole) ∙ w1 ∙ h.0, subst (λ t. AreWaits P t m ws) whole w2)

  pub added : (v b : ℕ) (trail trail' : List Fact) (ws : List Waiting) (r : Record) (x : Fact) → AreWaits P trail (length trail) ws → IsRight P v b (facts_of P trail) r (with_fact x (facts_of P trail) ∷ [])
      → trail' ≡ trail ++ x ∷ [] → (pending_of P trail' ws false ≡ subtrees P v (facts_of P trail) r ++ waiting P trail ws) × AreWaits P trail' (length trail') ws
  added v b trail trail' ws r x a right t =
      subst (λ (ts : List Fact). (pending_of P ts ws false ≡ subtrees P v (facts_of P trail) r ++ waiting P trail ws) × AreWaits P ts (length ts) ws) (sym t) (
        ap₂ (λ f us. f ∷ us) (facts_push trail x) (waiting_push trail (x ∷ []) (length trail) ws (omega arith) a) ∙ sym (ap (λ s. s ++ waiting P trail ws) right.leads),
        waits_more (trail ++ x ∷ []) (length trail) (length (trail ++ x ∷ [])) ws (omega (arith, length-append trail (x ∷ []))) (waits_push trail (x ∷ []) (length trail) ws (omega arith) a),
      )

  pub split : (v b : ℕ) (trail trail' : List Fact) (ws ws' : List Waiting) (r : Record) (x y : Fact) (n : ℕ) → AreWaits P trail (length trail) ws
      → IsRight P v b (facts_of P trail) r (with_fact x (facts_of P trail) ∷ with_fact y (facts_of P trail) ∷ []) → IsNew P (facts_of P trail) y
      → n ≡ length trail → trail' ≡ trail ++ x ∷ [] → ws' ≡ record { mark = n; second = y } ∷ ws
      → (pending_of P trail' ws' false ≡ subtrees P v (facts_of P trail) r ++ waiting P trail ws) × AreWaits P trail' (length trail') ws'
  split v b trail trail' ws ws' r x y n a right new long t w =
      let whole : take (length trail) (trail ++ x ∷ []) ≡ trail = take-append-le (length trail) trail (x ∷ []) (omega arith) ∙ take-length trail in
      subst (λ (us : List Waiting). (pending_of P trail' us false ≡ subtrees P v (facts_of P trail) r ++ waiting P trail ws) × AreWaits P trail' (length trail') us)
      (sym (w ∙ ap (λ (k : ℕ). record { mark = k; second = y } ∷ ws) long))
      (subst (λ (ts : List Fact). (pending_of P ts (record { mark = length trail; second = y } ∷ ws) false ≡ subtrees P v (facts_of P trail) r ++ waiting P trail ws) × AreWaits P ts (length ts) (record { mark = length trail; second = y } ∷ ws)) (sym t) (
        ap₂ (λ f us. f ∷ us) (facts_push trail x)
            (ap₂ (λ f us. f ∷ us) (ap (λ ts. facts_of P (ts ++ y ∷ [])) whole ∙ facts_push trail y) (waiting_push trail (x ∷ []) (length trail) ws (omega arith) a))
            ∙ sym (ap (λ s. s ++ waiting P trail ws) right.leads),
        (omega (arith, length-append trail (x ∷ [])), subst (λ ts. IsNew P (facts_of P ts) y) (sym whole) new, waits_push trail (x ∷ []) (length trail) ws (omega arith) a),
      ))

  pub closed : (trail trail' : List Fact) (ws : List Waiting) (w : Waiting) → AreWaits P trail (length trail) (w ∷ ws) → trail' ≡ take w.mark trail ++ w.second ∷ []
      → (pending_of P trail' ws false ≡ waiting P trail (w ∷ ws)) × AreWaits P trail' (length trail') ws
  closed trail trail' ws w a t =
      let cut = waiting_take trail w.mark ws a.0 a.2 in
      let long : length (take w.mark trail) ≡ w.mark = length-take-le w.mark trail a.0 in
      let low : w.mark ≤ length (take w.mark trail) = omega arith in
      subst (λ (ts : List Fact). (pending_of P ts ws false ≡ waiting P trail (w ∷ ws)) × AreWaits P ts (length ts) ws) (sym t) (
        ap (λ us. facts_of P (take w.mark trail ++ w.second ∷ []) ∷ us) (waiting_push (take w.mark trail) (w.second ∷ []) w.mark ws low cut.1 ∙ cut.0),
        waits_more (take w.mark trail ++ w.second ∷ []) w.mark (length (take w.mark trail ++ w.second ∷ [])) ws (omega (arith, long, length-append (take w.mark trail) (w.second ∷ [])))
            (waits_push (take w.mark trail) (w.second ∷ []) w.mark ws low cut.1),
      )

pub turned_end : (ws ws' : List Waiting) (w : Waiting) → ws ≡ ws' ++ w ∷ [] → reverse ws ≡ w ∷ reverse ws'
turned_end ws ws' w e = ap reverse e ∙ reverse-append ws' (w ∷ [])

pub none_left : (ws : List Waiting) → length ws ≡ 0 → ws ≡ []
none_left [] e = refl
none_left (w ∷ ws) e = absurd (omega arith)
