-- What a contract sees of the bytes that were read and not used.
use Rattle.std.specs.Prelude.{ℕ, ◌≡◌, true, List, take, drop, Option}
use Rattle.std.specs.Io.KnownBytes.{IsAtEnd, prepend_known}
use Rattle.arr_io.specs.declared.source.Source.{Ghosts}
use Rattle.arr_cert.specs.declared.pieces.Pieces.{Pieces}

-- the bytes that wait
abbrev pub waiting : Pieces → List ℕ
waiting pieces = drop pieces.at (take pieces.end pieces.buffer.items)

-- they, and then what the source has left
abbrev pub coming : {S : Type 0} → Ghosts S → Pieces → S → Option (List ℕ)
coming g pieces source = prepend_known (waiting pieces) (g.left source)

-- where the end of input was met, nothing is left
abbrev pub HasMet : {S : Type 0} → Ghosts S → Pieces → S → Type 0
HasMet g pieces source = pieces.ended ≡ true → IsAtEnd (g.left source)
