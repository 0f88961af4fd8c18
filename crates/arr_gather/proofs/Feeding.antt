-- What a feed has, and that it is not changed by writing to another base.
use Rattle.std.proofs.Common.{◌≡◌, ◌≢◌, ℕ, ◌*◌, List, length, true, refl, ap, sym, subst, ◌∙◌, arith, Option}
use Rattle.std.specs.List.{list_all}
use Rattle.std.specs.Prelude.{nat_lt}
use Rattle.arr_num.specs.declared.elem.Elem.{Elem}
use Rattle.arr_view.specs.Strided.{Strided}
use Rattle.arr_view.specs.Views.{elements, positions}
use Rattle.arr_ops.specs.Costs.{weight_of}
use Rattle.arr_ops.specs.Memory.{Cell, read}
use Rattle.arr_store.specs.Cells.{assigned, size_at, width_at}
use Rattle.arr_gather.specs.declared.feed.Feed.{Feed}
use Rattle.arr_gather.specs.declared.feed.Feed.TheVariants.{Kept, Copied}
use Rattle.arr_gather.specs.Feeds.{Feeds, Inside, IsApart, owed, to_come}
use Rattle.arr_gather.specs.Steps.{Holds}
use Rattle.arr_gather.proofs.Bases.{at_other}
use Rattle.arr_gather.proofs.Numbers.{holds_width, length-read, places_inside}

pub kept_feeds : (f : ℕ → Option Cell) (t : Elem) (v : Strided) (written b : ℕ) (places : List ℕ) → Holds f t v → length (elements v) ≡ positions v.lengths → b ≡ v.base → places ≡ elements v → v.base ≢ written
    → Feeds f written (positions v.lengths) 0 (Kept b places)
kept_feeds f t v written b places h long e is apart =
    let count : length (read (f b) places) ≡ positions v.lengths = length-read (f b) places ∙ ap length is ∙ long in
    record {
      count_is = omega arith;
      inside = subst (λ c. list_all (λ e. nat_lt e (size_at c)) places ≡ true) (sym (ap f e)) (subst (λ ps. list_all (λ e. nat_lt e (size_at (f v.base))) ps ≡ true) (sym is) (places_inside (f v.base) t v h));
      apart = λ d. apart (sym e ∙ d);
    }

pub kept_weight : (f : ℕ → Option Cell) (t : Elem) (v : Strided) (b : ℕ) (places : List ℕ) → Holds f t v → length (elements v) ≡ positions v.lengths → b ≡ v.base → places ≡ elements v
    → length places * width_at (f b) ≡ weight_of t v
kept_weight f t v b places h long e is =
    ap (λ n. n * width_at (f b)) (ap length is ∙ long) ∙ ap (λ c. positions v.lengths * width_at c) (ap f e) ∙ ap (λ w. positions v.lengths * w) (holds_width f t v h)

-- ---- another base is written

pub same_to_come : (f : ℕ → Option Cell) (b position : ℕ) (c : Option Cell) (feed : Feed) → IsApart b feed → to_come (assigned f b c) position feed ≡ to_come f position feed
same_to_come f b position c (Kept a places) n = ap (λ d. read d places) (at_other f b a c n)
same_to_come f b position c (Copied numbers) n = refl

pub same_owed : (f : ℕ → Option Cell) (b : ℕ) (c : Option Cell) (feed : Feed) → IsApart b feed → owed (assigned f b c) feed ≡ owed f feed
same_owed f b c (Kept a places) n = ap (λ d. length places * width_at d) (at_other f b a c n)
same_owed f b c (Copied numbers) n = refl

pub same_inside : (f : ℕ → Option Cell) (b : ℕ) (c : Option Cell) (feed : Feed) → IsApart b feed → Inside f feed → Inside (assigned f b c) feed
same_inside f b c (Kept a places) n h = subst (λ d. list_all (λ e. nat_lt e (size_at d)) places ≡ true) (sym (at_other f b a c n)) h
same_inside f b c (Copied numbers) n h = tt
