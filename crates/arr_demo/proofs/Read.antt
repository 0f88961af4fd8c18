-- Every script is short, and has few rows, columns and turns.
use Rattle.std.proofs.Common.{◌≡◌, ℕ, zero, suc, ◌+◌, ◌*◌, ◌/◌, ◌%◌, ◌≤◌, List, [], ◌∷◌, ◌++◌, length, refl, ap, arith, Bool, true, nat_le, ◌∙◌, length-append}
use Rattle.std.specs.List.{flat_map, list_all}
use Rattle.std.proofs.lemmas.Bool.{and_parts, leb-true}
use Rattle.std.proofs.lemmas.Fmt.{length-decimal-le}
use Rattle.rand_core.specs.Steps.{first_words}
use Rattle.rand_pcg.specs.Lcg.{Lcg}
use Rattle.rand_pcg.specs.Pcg.{pcg32}
use Rattle.arr_demo.specs.Script.{script_by, word, behind, drawn_script}
use Rattle.arr_demo.specs.Laws.{most_bytes}
use Rattle.arr_demo.proofs.Pieces as piece
use Rattle.arr_demo.proofs.Pieces.{Piece, spell, spelled}
use Rattle.arr_demo.proofs.Lines.{closing_pieces, turn_pieces, turn_of, script_pieces, script_is}

-- ---- lengths

-- no word of it has more than 20 bytes, as no number has
abbrev is_short : Piece → Bool
is_short (piece.word w) = nat_le (length w) 20
is_short _ = true

spell_short : (p : Piece) → is_short p ≡ true → length (spell p) ≤ 20
spell_short (piece.word w) e = leb-true (length w) 20 e
spell_short (piece.number n h) e = length-decimal-le 20 n (omega arith) (omega arith) h
spell_short piece.blank e = omega arith
spell_short piece.feed e = omega arith
spell_short (piece.lone l) e = omega arith
spell_short piece.equals e = omega arith

all_short : (ps : List Piece) → list_all is_short ps ≡ true → length (spelled ps) ≤ 20 * length ps
all_short [] e = omega arith
all_short (p ∷ ps) e =
    let q = and_parts (is_short p) (list_all is_short ps) e in
    omega (arith, length-append (spell p) (spelled ps), spell_short p q.0, all_short ps q.1)

module _ (rows columns : ℕ) (r : rows ≤ 64) (c : columns ≤ 64) where
  turns_short : (words : List ℕ) → list_all is_short (flat_map (turn_of rows columns r c) words ++ closing_pieces) ≡ true
  turns_short [] = refl
  turns_short (w ∷ words) = by_form (w % 4) (w / 65536 % 100) (omega arith) ∙ turns_short words
    where
      by_form : (form added : ℕ) (h : added ≤ 65535) → list_all is_short ((turn_pieces rows columns r c form added h ++ flat_map (turn_of rows columns r c) words) ++ closing_pieces)
          ≡ list_all is_short (flat_map (turn_of rows columns r c) words ++ closing_pieces)
      by_form zero added h = refl
      by_form (suc zero) added h = refl
      by_form (suc (suc zero)) added h = refl
      by_form (suc (suc (suc zero))) added h = refl
      by_form (suc (suc (suc (suc n)))) added h = refl

  turns_few : (words : List ℕ) → length (flat_map (turn_of rows columns r c) words ++ closing_pieces) ≤ 92 * length words + 20
  turns_few [] = omega arith
  turns_few (w ∷ words) =
      let one = by_form (w % 4) (w / 65536 % 100) (omega arith) in
      omega (arith, one, turns_few words)
    where
      more : ℕ
      more = length (flat_map (turn_of rows columns r c) words ++ closing_pieces)

      by_form : (form added : ℕ) (h : added ≤ 65535) → length ((turn_pieces rows columns r c form added h ++ flat_map (turn_of rows columns r c) words) ++ closing_pieces)
          ≤ 92 + length (flat_map (turn_of rows columns r c) words ++ closing_pieces)
      by_form zero added h = omega arith
      by_form (suc zero) added h = omega arith
      by_form (suc (suc zero)) added h = omega arith
      by_form (suc (suc (suc zero))) added h = omega arith
      by_form (suc (suc (suc (suc n)))) added h = omega arith

  pub script_short : (words : List ℕ) → length words ≤ 16 → length (script_by rows columns words) ≤ most_bytes
  script_short words few =
      let s = all_short (script_pieces rows columns r c words) (turns_short words) in
      let l : length (script_pieces rows columns r c words) ≡ 24 + length (flat_map (turn_of rows columns r c) words ++ closing_pieces) = omega arith in
      omega (arith, ap length (script_is rows columns r c words), s, l, turns_few words, few)

-- ---- what is drawn

pub words_count : (n : ℕ) (g : Lcg) → length (first_words pcg32 n g) ≡ n
unfolding first_words
words_count zero g = refl
words_count (suc n) g = ap suc (words_count n (pcg32 g).1)

-- of the rows, columns and words that a script is drawn with
pub of_drawn : (P : List ℕ → Type 0) → ((rows columns : ℕ) (words : List ℕ) → 8 ≤ rows → rows ≤ 64 → 8 ≤ columns → columns ≤ 64 → length words ≤ 16 → P (script_by rows columns words))
    → (first : Lcg) → P (drawn_script first)
of_drawn P each first =
    go (word first) (word (behind first)) (word (behind (behind first))) (behind (behind (behind first)))
  where
    go : (a b n : ℕ) (g : Lcg) → P (script_by (8 + a % 57) (8 + b % 57) (first_words pcg32 (4 + n % 13) g))
    go a b n g =
        each (8 + a % 57) (8 + b % 57) (first_words pcg32 (4 + n % 13) g) (omega arith) (omega arith) (omega arith) (omega arith)
        (omega (arith, words_count (4 + n % 13) g))
