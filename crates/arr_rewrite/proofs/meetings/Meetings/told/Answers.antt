use Rattle.std.proofs.Common.{◌≡◌, ℕ, List, Bool, ◌&&◌, ap₂, sym, ◌∙◌, Option, Some, []}
use Rattle.std.proofs.lemmas.List.Quantifiers.{position-Some}
use Rattle.std.specs.Prelude.{◌==◌}
use Rattle.std.specs.List.{position}
use Rattle.arr_view.specs.Strided.{Strided}
use Rattle.arr_view.specs.Views.{identical, overlap, share}
use Rattle.arr_overlap.specs.Classes.{view_at}
use Rattle.arr_ops.proofs.Alike.{Alike, alike}
use Rattle.arr_rewrite.proofs.meetings.Meetings.told.Goals as goal

-- a view is like the one of its class
of_class : (views : List Strided) (v : Strided) (i : ℕ) (o : Option ℕ) → o ≡ position (identical v) views → o ≡ Some i → Alike v (view_at views i)
of_class views v i o e is = alike v (view_at views i) (position-Some (identical v) views i (record { base = 0; start = 0; lengths = []; strides = [] }) (sym e ∙ is)).1

as_classes : (v w x y : Strided) (b : Bool) → Alike v x → Alike w y → b ≡ overlap x y → b ≡ overlap v w
as_classes v w x y b left right told = told ∙ sym (ap₂ (λ s t. s && t) (ap₂ (λ i j. i == j) left.base right.base) (ap₂ share left.places right.places))

pub returns : goal.returns
returns c =
    as_classes _ _ _ _ _ (of_class _ _ _ _ c.class.ensures c.in-Some-class.is) (of_class _ _ _ _ c.class-2.ensures c.in-Some-class-2.is) c.meets.ensures
