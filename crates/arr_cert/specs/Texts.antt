-- How records and certificates are written.
use Rattle.std.specs.Prelude.{ℕ, List, [], ◌∷◌, ◌++◌, Bool, true, cond, not, ◌&&◌, ◌||◌, ◌==◌, nat_le, length, drop, codes, decimal}
use Rattle.std.specs.List.{flat_map, list_all}
use Rattle.arr_law.specs.declared.certificate.Certificate.{Certificate}
use Rattle.arr_law.specs.declared.charge.Charge.{Charge}
use Rattle.arr_law.specs.declared.record.Record.{Record}
use Rattle.arr_law.specs.declared.record.Record.TheVariants.{Flush, Plan, Cost, Bound, Step, Branch, Dead, Worth, End}
use Rattle.arr_law.specs.Verdict.{is_tree_record, records_of}

-- numbers in decimal, each behind a sign
abbrev pub behind : ℕ → List ℕ → List ℕ
behind sign ns = flat_map (λ n. sign ∷ decimal n) ns

-- each behind a blank
abbrev pub spaced : List ℕ → List ℕ
spaced ns = behind 32 ns

-- the first operation, behind a blank
abbrev pub first_text : List ℕ → List ℕ
first_text [] = 32 ∷ []
first_text (f ∷ fs) = 32 ∷ decimal f

-- then a point and the number of its view, and the further operations, each behind a comma
abbrev pub group_text : Charge → List ℕ
group_text c = (first_text c.ops ++ (46 ∷ decimal c.operand)) ++ behind 44 (drop 1 c.ops)

-- version 1 is not written
abbrev pub version_numbers : ℕ → List ℕ
version_numbers version = cond (version == 1) [] (version ∷ [])

-- rules 3, 5 and 9 take two operations
abbrev pub takes_two : ℕ → Bool
takes_two rule = (rule == 3) || ((rule == 5) || (rule == 9))

abbrev pub third_numbers : ℕ → ℕ → List ℕ
third_numbers rule h = cond (takes_two rule) [] (h ∷ [])

-- a record, without the end of its line
abbrev pub record_text : Record → List ℕ
record_text (Flush number count version) = codes "!flush" ++ spaced (number ∷ count ∷ version_numbers version)
record_text (Plan places) = codes "!plan" ++ spaced places
record_text (Cost cost) = codes "!cost" ++ spaced (cost ∷ [])
record_text (Bound bound) = codes "!bound" ++ spaced (bound ∷ [])
record_text (Step rule f g h) = codes "!step" ++ spaced (rule ∷ f ∷ g ∷ third_numbers rule h)
record_text (Branch f g) = codes "!branch" ++ spaced (f ∷ g ∷ [])
record_text (Dead f g) = codes "!dead" ++ spaced (f ∷ g ∷ [])
record_text (Worth charges) = codes "!worth" ++ flat_map group_text charges
record_text End = codes "!end"

abbrev pub line_text : Record → List ℕ
line_text r = record_text r ++ 10 ∷ []

abbrev pub certificate_text : Certificate → List ℕ
certificate_text c = flat_map line_text (records_of c)

-- ---- which certificates may be written

abbrev pub is_group_spelled : Charge → Bool
is_group_spelled c = nat_le c.operand 2 && nat_le 1 (length c.ops)

-- nothing of the record is lost in its line
abbrev pub is_spelled : Record → Bool
is_spelled (Flush number count version) = (version == 1) || (version == 2)
is_spelled (Step rule f g h) = (nat_le 3 rule && nat_le rule 9) && (not (takes_two rule) || (h == 0))
is_spelled (Worth charges) = list_all is_group_spelled charges
is_spelled r = true

-- its line is not too long
abbrev pub is_short : Record → Bool
is_short r = nat_le (length (record_text r)) 65536

abbrev pub is_spellable : Certificate → Bool
is_spellable c = list_all (λ r. is_spelled r && is_short r) (records_of c) && list_all is_tree_record c.tree
