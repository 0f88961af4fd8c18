-- What is promised of the text.
use Rattle.std.specs.Prelude.{ℕ, ◌≡◌, ◌^◌, List, [], ◌∷◌, nat_lt, Bool, ◌&&◌, IsTrue}
use Rattle.std.specs.List.{flat_map, list_all}
use Rattle.arr_law.specs.declared.certificate.Certificate.{Certificate}
use Rattle.arr_law.specs.declared.charge.Charge.{Charge}
use Rattle.arr_law.specs.declared.record.Record.{Record}
use Rattle.arr_law.specs.declared.record.Record.TheVariants.{Flush, Plan, Cost, Bound, Step, Branch, Dead, Worth, End}
use Rattle.arr_law.specs.Verdict.{records_of}
use Rattle.arr_cert.specs.Texts.{is_spelled, certificate_text}

-- the numbers of a record
abbrev pub numbers_of : Record → List ℕ
numbers_of (Flush number count version) = number ∷ count ∷ version ∷ []
numbers_of (Plan places) = places
numbers_of (Cost cost) = cost ∷ []
numbers_of (Bound bound) = bound ∷ []
numbers_of (Step rule f g h) = rule ∷ f ∷ g ∷ h ∷ []
numbers_of (Branch f g) = f ∷ g ∷ []
numbers_of (Dead f g) = f ∷ g ∷ []
numbers_of (Worth charges) = flat_map (λ (c : Charge). c.operand ∷ c.ops) charges
numbers_of End = []

-- nothing of the record is lost in its line, and its numbers fit 64 bits
abbrev pub is_plain : Record → Bool
is_plain r = is_spelled r && list_all (λ n. nat_lt n (2 ^ 64)) (numbers_of r)

-- no two certificates have one text
abbrev pub TextsDiffer : Type 0
TextsDiffer =
    (c d : Certificate) → IsTrue (list_all is_plain (records_of c)) → IsTrue (list_all is_plain (records_of d)) → certificate_text c ≡ certificate_text d → c ≡ d
