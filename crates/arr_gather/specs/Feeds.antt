-- The numbers of a view that are still to come, and what writing them by an index does.
use Rattle.std.specs.Prelude.{◌≡◌, ◌≢◌, ℕ, ℤ, ◌+◌, ◌*◌, ◌^◌, ◌<◌, ◌≤◌, nat_lt, true, List, length, map, get_or, drop, Option}
use Rattle.std.specs.List.{list_all}
use Rattle.arr_num.specs.Numbers.{in_type, width}
use Rattle.arr_view.specs.Views.{elements, positions}
use Rattle.arr_ops.specs.Gathers.{position_named}
use Rattle.arr_ops.specs.Memory.{Cell, Writes, changed, read}
use Rattle.arr_ops.specs.declared.gather.Scatter.{Scatter}
use Rattle.arr_store.specs.Cells.{assigned, size_at, width_at}
use Rattle.arr_store.specs.Stored.{Stored, cells}
use Rattle.arr_gather.specs.Steps.{Holds}
use Rattle.arr_gather.specs.declared.feed.Feed.{Feed}
use Rattle.arr_gather.specs.declared.feed.Feed.TheVariants.{Kept, Copied}

-- from a position on
abbrev pub to_come : (ℕ → Option Cell) → ℕ → Feed → List ℤ
to_come f position (Kept b places) = read (f b) places
to_come f position (Copied numbers) = drop position numbers.items

-- each place that is still to be read lies inside its base
abbrev pub Inside : (ℕ → Option Cell) → Feed → Type 0
Inside f (Kept b places) = list_all (λ e. nat_lt e (size_at (f b))) places ≡ true
Inside f (Copied numbers) = Unit {0}

-- how many bytes are still to be loaded
abbrev pub owed : (ℕ → Option Cell) → Feed → ℕ
owed f (Kept b places) = length places * width_at (f b)
owed f (Copied numbers) = 0

-- it is not read from this base
abbrev pub IsApart : ℕ → Feed → Type 0
IsApart b (Kept c places) = c ≢ b
IsApart b (Copied numbers) = Unit {0}

-- the element of the target that a number of the index names
abbrev pub spot : List ℕ → ℤ → ℕ
spot places i = get_or places (position_named (length places) i) 0

-- A feed of so many numbers of a type, none of which is read from the base that is written.
pub record Feeds (f : ℕ → Option Cell) (written count position : ℕ) (feed : Feed) : Type 0 where
  pub count_is : position + length (to_come f position feed) ≡ count
  pub inside : Inside f feed
  pub apart : IsApart written feed

-- what writing numbers by an index leaves of a cell
abbrev pub with_placed : Scatter → List ℤ → List ℤ → Option Cell → Option Cell
with_placed op index values c = changed (Writes (map (spot (elements op.target)) index) values) c

-- The target is in the store, and so many numbers of their types are to come from both feeds.
pub record CanPlace (op : Scatter) (store : Stored) (index values : Feed) : Type 0 where
  pub target : Holds (cells store) op.to op.target
  pub index_feeds : Feeds (cells store) op.target.base (positions op.index.lengths) 0 index
  pub value_feeds : Feeds (cells store) op.target.base (positions op.index.lengths) 0 values
  pub typed_index : list_all (in_type op.of) (to_come (cells store) 0 index) ≡ true
  pub typed_values : list_all (in_type op.to) (to_come (cells store) 0 values) ≡ true
  pub loads : store.loads + (owed (cells store) index + owed (cells store) values) < 2 ^ 62
  pub stores : store.stores + positions op.index.lengths * width op.to ≤ 2 ^ 62

-- Every value was written to the element that its number of the index names, one after another.
pub record Places (op : Scatter) (old new : Stored) (index values : Feed) : Type 0 where
  pub bases : cells new ≡ assigned (cells old) op.target.base (with_placed op (to_come (cells old) 0 index) (to_come (cells old) 0 values) (cells old op.target.base))
  pub loads : new.loads ≡ old.loads + (owed (cells old) index + owed (cells old) values)
  pub stores : new.stores ≡ old.stores + positions op.index.lengths * width op.to
  pub made : new.made ≡ old.made
