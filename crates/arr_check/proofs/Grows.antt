-- What reading a record leaves of a tree.
use Rattle.std.proofs.Common.{◌≡◌, ℕ, List, [], ◌∷◌, ◌++◌, length, take, reverse, true, false, None, sym, ap, ◌∙◌, subst}
use Rattle.std.proofs.lemmas.List.{reverse-append}
use Rattle.arr_law.specs.declared.fact.Fact.{Fact}
use Rattle.arr_law.specs.declared.record.Record.{Record}
use Rattle.arr_law.specs.Problem.{Problem}
use Rattle.arr_check.specs.declared.tree.Move.TheVariants.{Add, Split, Close}
use Rattle.arr_check.specs.declared.tree.Tree.{Tree}
use Rattle.arr_check.specs.declared.tree.Waiting.{Waiting}
use Rattle.arr_check.specs.Known.{known_of, IsFine}
use Rattle.arr_check.specs.Steps.{pending, pending_of, waiting, AreWaits, DoesMove, Grows, IsTree}
use Rattle.arr_check.proofs.Moves.{added, closed, split, turned_end}

pub next_waits : (P : Problem) (trail : List Fact) (n : ℕ) (ws ws' : List Waiting) (w : Waiting) → AreWaits P trail n (reverse ws) → ws ≡ ws' ++ w ∷ [] → AreWaits P trail n (w ∷ reverse ws')
next_waits P trail n ws ws' w a e = subst (λ us. AreWaits P trail n us) (turned_end ws ws' w e) a

pub closes : (P : Problem) (old new : Tree) (w : Waiting) (trail : List Fact) → IsTree P old → old.waits.items ≡ new.waits.items ++ w ∷ [] → trail ≡ take w.mark old.known.trail.items
    → new.known.trail.items ≡ trail ++ w.second ∷ [] → IsFine P new.known → new.whole ≡ false
    → (pending P new ≡ waiting P old.known.trail.items (reverse old.waits.items)) × IsTree P new
closes P old new w trail tree popped cut more fine going =
    let r = closed P old.known.trail.items new.known.trail.items (reverse new.waits.items) w
    (next_waits P old.known.trail.items (length old.known.trail.items) old.waits.items new.waits.items w tree.waits popped) (more ∙ ap (λ ts. ts ++ w.second ∷ []) cut) in (
      ap (pending_of P new.known.trail.items (reverse new.waits.items)) going ∙ r.0 ∙ ap (waiting P old.known.trail.items) (sym (turned_end old.waits.items new.waits.items w popped)),
      record { fine = fine; waits = r.1 },
    )

pub ends_whole : (P : Problem) (old new : Tree) → IsTree P old → old.waits.items ≡ [] → new.waits.items ≡ [] → new.known ≡ old.known → new.whole ≡ true
    → (pending P new ≡ waiting P old.known.trail.items (reverse old.waits.items)) × IsTree P new
ends_whole P old new tree none none' same whole = (
  ap (pending_of P new.known.trail.items (reverse new.waits.items)) whole ∙ sym (ap (λ ws. waiting P old.known.trail.items (reverse ws)) none),
  record { fine = subst (IsFine P) (sym same) tree.fine; waits = subst (λ ws. AreWaits P new.known.trail.items (length new.known.trail.items) (reverse ws)) (sym none') tt },
)

pub grows_add : (P : Problem) (v b : ℕ) (old new : Tree) (r : Record) (x : Fact) → IsTree P old → old.whole ≡ false → DoesMove P v b (known_of P old.known) r (Add x) → IsFine P new.known
    → new.known.trail.items ≡ old.known.trail.items ++ x ∷ [] → new.waits.items ≡ old.waits.items → new.whole ≡ old.whole → Grows P v b old new r None
grows_add P v b old new r x tree going move fine more same whole =
    let g = added P v b old.known.trail.items new.known.trail.items (reverse old.waits.items) r x tree.waits move.0 more in (
      move.0.right,
      ap (λ ws. pending_of P new.known.trail.items (reverse ws) new.whole) same ∙ ap (pending_of P new.known.trail.items (reverse old.waits.items)) (whole ∙ going) ∙ g.0,
      record { fine = fine; waits = subst (λ ws. AreWaits P new.known.trail.items (length new.known.trail.items) (reverse ws)) (sym same) g.1 },
    )

pub grows_split : (P : Problem) (v b : ℕ) (old new : Tree) (r : Record) (x y : Fact) (n : ℕ) → IsTree P old → old.whole ≡ false → DoesMove P v b (known_of P old.known) r (Split x y) → IsFine P new.known
    → new.known.trail.items ≡ old.known.trail.items ++ x ∷ [] → n ≡ length old.known.trail.items → new.waits.items ≡ old.waits.items ++ record { mark = n; second = y } ∷ [] → new.whole ≡ old.whole → Grows P v b old new r None
grows_split P v b old new r x y n tree going move fine more long pushed whole =
    let turned : reverse new.waits.items ≡ record { mark = n; second = y } ∷ reverse old.waits.items = ap reverse pushed ∙ reverse-append old.waits.items (record { mark = n; second = y } ∷ []) in
    let g = split P v b old.known.trail.items new.known.trail.items (reverse old.waits.items) (reverse new.waits.items) r x y n tree.waits move.0 move.2 long more turned in (
      move.0.right,
      ap (pending_of P new.known.trail.items (reverse new.waits.items)) (whole ∙ going) ∙ g.0,
      record { fine = fine; waits = g.1 },
    )

pub grows_close : (P : Problem) (v b : ℕ) (old new : Tree) (r : Record) → DoesMove P v b (known_of P old.known) r Close → IsTree P new
    → pending P new ≡ waiting P old.known.trail.items (reverse old.waits.items) → Grows P v b old new r None
grows_close P v b old new r move tree next = (move.right, next ∙ sym (ap (λ s. s ++ waiting P old.known.trail.items (reverse old.waits.items)) move.leads), tree)
