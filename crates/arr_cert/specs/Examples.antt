-- Worked proofs, computed.
use Rattle.std.specs.Prelude.{◌≡◌, ◌++◌, ℕ, List, [], ◌∷◌, codes, refl}
use Rattle.arr_cert.specs.Reading.{Nothing, Beyond, Has, lines, marked}

-- a line that is passed over, and a last line without a line feed
abbrev short_proof : List ℕ
short_proof = codes "x" ++ (10 ∷ codes "!end")

pub short_proof-lines : lines short_proof ≡ (120 ∷ 10 ∷ []) ∷ codes "!end" ∷ []
short_proof-lines = refl

pub short_proof-marked : marked 1 6 (lines short_proof) ≡ Has 2 (codes "!end") (Nothing 3)
short_proof-marked = refl

-- its sixth byte is too many, and stands in line 2
pub short_proof-beyond : marked 1 5 (lines short_proof) ≡ Beyond 2
short_proof-beyond = refl

-- the line feed that ends a line stands in that line
pub short_proof-first : marked 1 1 (lines short_proof) ≡ Beyond 1
short_proof-first = refl

pub empty_proof : marked 1 0 (lines []) ≡ Nothing 1
empty_proof = refl
