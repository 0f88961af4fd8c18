-- The lines of a script in pieces.
use Rattle.std.proofs.Common.{◌≡◌, ℕ, zero, suc, ◌+◌, ◌-◌, ◌*◌, ◌/◌, ◌%◌, ◌<◌, ◌≤◌, List, [], ◌∷◌, ◌++◌, refl, sym, ap, ap₂, arith, true, ◌∙◌, append_assoc, decimal, codes, get_or}
use Rattle.std.specs.Fmt.{digits}
use Rattle.std.specs.List.{flat_map}
use Rattle.std.proofs.lemmas.Fmt.{decimal_digit}
use Rattle.std.proofs.lemmas.Nat.{mul-le}
use Rattle.std.proofs.lemmas.List.Concat.{flat_map-append}
use Rattle.arr_demo.specs.Script.{opening, sums, inside, slide, turn, closing, script_by}
use Rattle.arr_demo.proofs.Pieces.{Piece, blank, feed, lone, equals, word, number, open_, close, open_index, close_index, comma, colon, plus, minus, slash, percent, both, spell, spelled, is_text}

ninety_seven : decimal 97 ≡ codes "97"
unfolding digits
ninety_seven = refl

low_bits : decimal 65535 ≡ codes "65535"
unfolding digits
low_bits = refl

digit : (n : ℕ) → n < 10 → decimal n ≡ (48 + n) ∷ []
digit n h = decimal_digit n h

abbrev num : (n : ℕ) → n ≤ 65535 → Piece
num n h = number n (omega arith)

abbrev pub part_pieces : (a b d e : ℕ) → a ≤ 64 → b ≤ 64 → d ≤ 64 → e ≤ 64 → List Piece
part_pieces a b d e p q s t =
    word (codes "g") ∷ lone open_index ∷ num a (omega arith) ∷ lone colon ∷ num b (omega arith) ∷ lone comma ∷ blank
    ∷ num d (omega arith) ∷ lone colon ∷ num e (omega arith) ∷ lone close_index ∷ []

abbrev plus_pieces : List Piece
plus_pieces = blank ∷ lone plus ∷ blank ∷ []

module _ (rows columns : ℕ) (r : rows ≤ 64) (c : columns ≤ 64) where
  pub size_small : rows * columns ≤ 65535
  size_small = omega (arith, mul-le rows columns 64 64 r c)

  abbrev pub opening_pieces : List Piece
  opening_pieces =
      word (codes "g") ∷ blank ∷ equals ∷ blank ∷ word (codes "reshape") ∷ lone open_ ∷ word (codes "range") ∷ lone open_ ∷ num (rows * columns) size_small ∷ lone close ∷ lone comma
      ∷ blank ∷ lone open_index ∷ num rows (omega arith) ∷ lone comma ∷ blank ∷ num columns (omega arith) ∷ lone close_index ∷ lone close ∷ blank ∷ lone percent ∷ blank
      ∷ num 97 (omega arith) ∷ feed ∷ []

  pub opening_is : opening rows columns ≡ spelled opening_pieces
  opening_is = rw ninety_seven refl

  abbrev pub sums_pieces : List Piece
  sums_pieces =
      word (codes "c") ∷ blank ∷ equals ∷ blank
      ∷ (part_pieces 1 (rows - 1) 1 (columns - 1) (omega arith) (omega arith) (omega arith) (omega arith) ++ (plus_pieces
      ++ (part_pieces 0 (rows - 2) 1 (columns - 1) (omega arith) (omega arith) (omega arith) (omega arith) ++ (plus_pieces
      ++ (part_pieces 2 rows 1 (columns - 1) (omega arith) (omega arith) (omega arith) (omega arith) ++ (plus_pieces
      ++ (part_pieces 1 (rows - 1) 0 (columns - 2) (omega arith) (omega arith) (omega arith) (omega arith) ++ (plus_pieces
      ++ (part_pieces 1 (rows - 1) 2 columns (omega arith) (omega arith) (omega arith) (omega arith) ++ (feed ∷ []))))))))))

  pub sums_is : sums rows columns ≡ spelled sums_pieces
  sums_is = simp (append_assoc {A = ℕ}) refl

  abbrev pub inside_pieces : List Piece
  inside_pieces =
      part_pieces 1 (rows - 1) 1 (columns - 1) (omega arith) (omega arith) (omega arith) (omega arith)
      ++ (blank ∷ equals ∷ blank ∷ word (codes "c") ∷ blank ∷ lone slash ∷ blank ∷ num 5 (omega arith) ∷ feed ∷ [])

  pub inside_is : inside rows columns ≡ spelled inside_pieces
  inside_is = let five = digit 5 (omega arith) in rw five (simp (append_assoc {A = ℕ}) refl)

  abbrev pub slide_pieces : (added : ℕ) → added ≤ 65535 → List Piece
  slide_pieces added h =
      word (codes "g") ∷ lone open_index ∷ lone colon ∷ lone comma ∷ blank ∷ num 1 (omega arith) ∷ lone colon ∷ num columns (omega arith) ∷ lone close_index
      ∷ blank ∷ equals ∷ blank ∷ word (codes "g") ∷ lone open_index ∷ lone colon ∷ lone comma ∷ blank ∷ num 0 (omega arith) ∷ lone colon ∷ num (columns - 1) (omega arith)
      ∷ lone close_index ∷ blank ∷ lone plus ∷ blank ∷ num added h ∷ feed ∷ []

  pub slide_is : (added : ℕ) (h : added ≤ 65535) → slide columns added ≡ spelled (slide_pieces added h)
  slide_is added h = rw (digit 1 (omega arith), digit 0 (omega arith)) refl

abbrev pub settle_pieces : List Piece
settle_pieces =
    word (codes "s") ∷ blank ∷ equals ∷ blank ∷ word (codes "sum") ∷ lone open_ ∷ word (codes "g") ∷ lone comma ∷ blank ∷ num 0 (omega arith) ∷ lone close ∷ feed
    ∷ word (codes "g") ∷ lone open_index ∷ lone colon ∷ lone close_index ∷ blank ∷ equals ∷ blank ∷ word (codes "g") ∷ blank ∷ lone minus ∷ blank ∷ word (codes "s")
    ∷ blank ∷ lone percent ∷ blank ∷ num 7 (omega arith) ∷ feed ∷ []

settle_is : codes "s = sum(g, 0)\ng[:] = g - s % 7\n" ≡ spelled settle_pieces
settle_is = rw (digit 0 (omega arith), digit 7 (omega arith)) refl

abbrev pub running_pieces : List Piece
running_pieces =
    word (codes "g") ∷ lone open_index ∷ lone colon ∷ lone close_index ∷ blank ∷ equals ∷ blank ∷ word (codes "cumsum") ∷ lone open_ ∷ word (codes "g") ∷ lone comma ∷ blank
    ∷ num 1 (omega arith) ∷ lone close ∷ blank ∷ lone both ∷ blank ∷ num 65535 (omega arith) ∷ feed ∷ []

running_is : codes "g[:] = cumsum(g, 1) & 65535\n" ≡ spelled running_pieces
running_is = rw (digit 1 (omega arith), low_bits) refl

abbrev pub closing_pieces : List Piece
closing_pieces =
    word (codes "print") ∷ blank ∷ word (codes "g") ∷ feed ∷ word (codes "print") ∷ blank ∷ word (codes "sum") ∷ lone open_ ∷ word (codes "sum") ∷ lone open_ ∷ word (codes "g")
    ∷ lone comma ∷ blank ∷ num 0 (omega arith) ∷ lone close ∷ lone comma ∷ blank ∷ num 0 (omega arith) ∷ lone close ∷ feed ∷ []

closing_is : closing ≡ spelled closing_pieces
closing_is = rw (digit 0 (omega arith)) refl

-- ---- all lines

module _ (rows columns : ℕ) (r : rows ≤ 64) (c : columns ≤ 64) where
  abbrev pub turn_pieces : (form added : ℕ) → added ≤ 65535 → List Piece
  turn_pieces zero added h = sums_pieces rows columns r c ++ inside_pieces rows columns r c
  turn_pieces (suc zero) added h = slide_pieces rows columns r c added h
  turn_pieces (suc (suc zero)) added h = settle_pieces
  turn_pieces (suc (suc (suc zero))) added h = running_pieces
  turn_pieces _ added h = []

  turn_is : (form added : ℕ) (h : added ≤ 65535) →
      get_or ((sums rows columns ++ inside rows columns) ∷ slide columns added ∷ codes "s = sum(g, 0)\ng[:] = g - s % 7\n" ∷ codes "g[:] = cumsum(g, 1) & 65535\n" ∷ []) form []
      ≡ spelled (turn_pieces form added h)
  turn_is zero added h =
      ap₂ (λ (x y : List ℕ). x ++ y) (sums_is rows columns r c) (inside_is rows columns r c)
      ∙ sym (flat_map-append spell (sums_pieces rows columns r c) (inside_pieces rows columns r c))
  turn_is (suc zero) added h = slide_is rows columns r c added h
  turn_is (suc (suc zero)) added h = settle_is
  turn_is (suc (suc (suc zero))) added h = running_is
  turn_is (suc (suc (suc (suc n)))) added h = refl

  abbrev pub turn_of : ℕ → List Piece
  turn_of w = turn_pieces (w % 4) (w / 65536 % 100) (omega arith)

  turns_are : (words : List ℕ) → flat_map (turn rows columns) words ≡ spelled (flat_map turn_of words)
  turns_are [] = refl
  turns_are (w ∷ words) =
      let one = turn_is (w % 4) (w / 65536 % 100) (omega arith) in
      rw (one, turns_are words) (sym (flat_map-append spell (turn_of w) (flat_map turn_of words)))

  abbrev pub script_pieces : List ℕ → List Piece
  script_pieces words = opening_pieces rows columns r c ++ (flat_map turn_of words ++ closing_pieces)

  pub script_is : (words : List ℕ) → script_by rows columns words ≡ spelled (script_pieces words)
  script_is words =
      ap₂ (λ (x y : List ℕ). (x ++ y) ++ closing) (opening_is rows columns r c) (turns_are words)
      ∙ ap (λ (z : List ℕ). (spelled (opening_pieces rows columns r c) ++ spelled (flat_map turn_of words)) ++ z) closing_is
      ∙ append_assoc (spelled (opening_pieces rows columns r c)) (spelled (flat_map turn_of words)) (spelled closing_pieces)
      ∙ ap (λ (xs : List ℕ). spelled (opening_pieces rows columns r c) ++ xs) (sym (flat_map-append spell (flat_map turn_of words) closing_pieces))
      ∙ sym (flat_map-append spell (opening_pieces rows columns r c) (flat_map turn_of words ++ closing_pieces))

  -- ---- they may stand together

  turns_stand : (words : List ℕ) → is_text (flat_map turn_of words ++ closing_pieces) ≡ true
  turns_stand [] = refl
  turns_stand (w ∷ words) = by_form (w % 4) (w / 65536 % 100) (omega arith) ∙ turns_stand words
    where
      by_form : (form added : ℕ) (h : added ≤ 65535) →
          is_text ((turn_pieces form added h ++ flat_map turn_of words) ++ closing_pieces) ≡ is_text (flat_map turn_of words ++ closing_pieces)
      by_form zero added h = refl
      by_form (suc zero) added h = refl
      by_form (suc (suc zero)) added h = refl
      by_form (suc (suc (suc zero))) added h = refl
      by_form (suc (suc (suc (suc n)))) added h = refl

  pub pieces_stand : (words : List ℕ) → is_text (script_pieces words) ≡ true
  pieces_stand words = turns_stand words
