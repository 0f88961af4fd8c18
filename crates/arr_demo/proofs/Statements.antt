-- What statements of a script of the demo leave.
use Rattle.std.proofs.Common.{◌≡◌, ℕ, ◌≤◌, List, [], ◌∷◌, ◌++◌, length, map, refl, ap, arith, true, false, ◌||◌, nat_lt, ◌∙◌, Some, None}
use Rattle.std.specs.Prelude.{Ok, is_some}
use Rattle.std.specs.List.{count_by}
use Rattle.std.proofs.lemmas.Bool.{lt-ltb}
use Rattle.arr_num.specs.declared.code.Code.TheVariants.{Sync}
use Rattle.arr_num.specs.declared.elem.Elem.TheVariants.{I64}
use Rattle.arr_num.specs.Types.{same_elem}
use Rattle.arr_view.specs.Strided.{Strided}
use Rattle.arr_view.specs.Views.{same_lists}
use Rattle.arr_tree.specs.declared.refusal.Place.{Place}
use Rattle.arr_tree.specs.declared.tree.Cut.{Cut}
use Rattle.arr_tree.specs.declared.tree.Word.{Word}
use Rattle.arr_tree.specs.declared.tree.Expr.{Expr}
use Rattle.arr_tree.specs.declared.tree.Statement.{Statement}
use Rattle.arr_tree.specs.Trees.{name_of, word_at, index_at, print_of, bind_of, assign_of}
use Rattle.arr_elab.specs.declared.step.Step.TheVariants.{Act, Name, Done}
use Rattle.arr_elab.specs.State.{State, Names, stands_for, with_name, number_of, is_bound, most_names}
use Rattle.arr_elab.specs.Expressions.{operation, taken, onto, bounds}
use Rattle.arr_elab.specs.Outcome.{statement}
use Rattle.arr_elab.proofs.KindsKept.{lists_self}
use Rattle.arr_demo.proofs.Known.{Small, few_bound}
use Rattle.arr_demo.proofs.Parts.{Sees}
use Rattle.arr_demo.proofs.Values.{Pends, Shows, part_ready, or_true}

-- where a statement begins
abbrev pub begun : State → State
begun s = record s { first = length s.bases }

-- the statement is not refused, and leaves these names and bases
pub record Goes (statement_ : Statement) (s : State) (names : Names) (bases : List ℕ) : Type 0 where
  pub after : State
  pub is : statement statement_ s ≡ Ok (tt, after)
  pub names_are : after.names ≡ names
  pub bases_are : after.bases ≡ bases

pub binds : (s u : State) (word : Word) (e : Expr) (shape : List ℕ) (k : ℕ) → (a : Shows e (begun s) u shape) → Small k u.names u.bases → k ≤ 1000
    → Goes (bind_of word e) s (with_name u.names word.text (Some (record { view = a.view; elem = I64 }))) u.bases
binds s u word e shape k a small few =
    let room : nat_lt (count_by is_bound u.names) most_names ≡ true = lt-ltb _ most_names (omega (arith, few_bound u.names, small.named)) in
    let test : (is_some (stands_for u.names word.text) || nat_lt (count_by is_bound u.names) most_names) ≡ true =
    ap (λ b. is_some (stands_for u.names word.text) || b) room ∙ or_true (is_some (stands_for u.names word.text)) in
    record {
      after = record u {
        names = with_name u.names word.text (Some (record { view = a.view; elem = I64 }));
        steps = (u.steps ++ Name (number_of u.names word.text) a.view.base ∷ []) ++ Done ∷ [];
      };
      is = rw (a.is, test) refl;
      names_are = refl;
      bases_are = refl;
    }

pub assigns : (s u : State) (at name_at equals : Place) (name : List ℕ) (v : Strided) (cuts : List Cut) (e : Expr) (m n : ℕ) → stands_for s.names name ≡ Some (record { view = v; elem = I64 })
    → Sees v (map bounds cuts) m n → Pends e (begun s) u (m ∷ n ∷ []) → Goes (assign_of (index_at at (name_of (word_at name_at name)) cuts) equals e) s u.names u.bases
assigns s u at name_at equals name v cuts e m n bound seen p =
    let same : same_lists (m ∷ n ∷ []) seen.view.lengths ≡ true = ap (same_lists (m ∷ n ∷ [])) seen.lengths ∙ lists_self (m ∷ n ∷ []) in
    let type : same_elem I64 p.op.to ≡ true = ap (same_elem I64) p.type in
    record {
      after = record u { steps = (u.steps ++ Act (onto p.op seen.view false) ∷ []) ++ Done ∷ [] };
      is = rw (part_ready (begun s) at name_at name v cuts m n bound seen, p.is, same, type, seen.once) refl;
      names_are = refl;
      bases_are = refl;
    }

pub prints : (s u : State) (e : Expr) (shape : List ℕ) → Shows e (begun s) u shape → Goes (print_of e) s u.names u.bases
prints s u e shape a = record {
  after = record u { steps = (u.steps ++ Act (operation Sync I64 I64 (taken a.view) None None) ∷ []) ++ Done ∷ [] };
  is = rw a.is refl;
  names_are = refl;
  bases_are = refl;
}
