-- Which record a line spells.
use Rattle.std.specs.Prelude.{ℕ, ◌≡◌, ◌≤◌, ◌^◌, Bool, true, nat_lt, List, length}
use Rattle.std.specs.List.{list_all}
use Rattle.arr_law.specs.declared.record.Record.{Record}
use Rattle.arr_law.specs.declared.record.Record.TheVariants.{Cost, Bound}
use Rattle.arr_cert.specs.Texts.{record_text, is_spelled}
use Rattle.arr_cert.specs.Laws.{numbers_of}

-- costs and bounds fit 64 bits, all other numbers 32
abbrev pub is_sized : Record → Bool
is_sized (Cost cost) = nat_lt cost (2 ^ 64)
is_sized (Bound bound) = nat_lt bound (2 ^ 64)
is_sized r = list_all (λ n. nat_lt n (2 ^ 32)) (numbers_of r)

-- the text is how the record is written
pub record IsText (text : List ℕ) (r : Record) : Type 0 where
  pub same : text ≡ record_text r
  pub spelled : is_spelled r ≡ true
  pub sized : is_sized r ≡ true

-- and it is not too long
pub record Spells (text : List ℕ) (r : Record) : Type 0 where
  pub written : IsText text r
  pub short : length text ≤ 65536
