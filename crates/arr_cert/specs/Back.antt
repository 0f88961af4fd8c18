-- What is promised of reading: certificates are read back, and a proof is read in one way.
use Rattle.std.specs.Prelude.{◌≡◌, ◌≤◌, length, IsTrue}
use Rattle.std.specs.List.{list_all}
use Rattle.arr_law.specs.declared.certificate.Certificate.{Certificate}
use Rattle.arr_law.specs.Verdict.{Reading, reading_of, records_of}
use Rattle.arr_cert.specs.Texts.{certificate_text, is_spellable}
use Rattle.arr_cert.specs.Spelling.{is_sized}
use Rattle.arr_cert.specs.Reading.{IsRead, Marked, lines, marked}

-- the text of a certificate that may be written is read as its records, one a line, and then its end
abbrev pub TextsReadBack : Type 0
TextsReadBack =
    (c : Certificate) → IsTrue (is_spellable c) → IsTrue (list_all is_sized (records_of c)) → length (certificate_text c) ≤ 67108864
    → IsRead (marked 1 67108864 (lines (certificate_text c))) (reading_of 1 (records_of c))

-- marked lines are read as something, and as one thing at most
abbrev pub ReadAlways : Type 0
ReadAlways = (m : Marked) → (a : Reading) × IsRead m a

abbrev pub ReadOnce : Type 0
ReadOnce = (m : Marked) (a b : Reading) → IsRead m a → IsRead m b → a ≡ b
