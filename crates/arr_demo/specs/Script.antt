-- The script of the demo: a grid of numbers that some turns change, each by what one drawn word asks for.
use Rattle.std.specs.Prelude.{ℕ, ◌+◌, ◌-◌, ◌*◌, ◌/◌, ◌%◌, List, [], ◌∷◌, ◌++◌, codes, decimal, get_or}
use Rattle.std.specs.List.{concat, flat_map}
use Rattle.rand_core.specs.Steps.{first_words}
use Rattle.rand_core.specs.Pcg32Seed.{pcg32_seed}
use Rattle.rand_pcg.specs.Lcg.{Lcg}
use Rattle.rand_pcg.specs.Pcg.{pcg32, pcg32_of_seed}

-- ---- lines

-- the parts one after another, and a line feed
abbrev pub line : List (List ℕ) → List ℕ
line [] = codes "\n"
line (x ∷ parts) = x ++ line parts

-- `g[top:bottom, left:right]`
abbrev pub part : ℕ → ℕ → ℕ → ℕ → List ℕ
part top bottom left right =
    concat (codes "g[" ∷ decimal top ∷ codes ":" ∷ decimal bottom ∷ codes ", " ∷ decimal left ∷ codes ":" ∷ decimal right ∷ codes "]" ∷ [])

-- `g = reshape(range(SIZE), [ROWS, COLUMNS]) % 97`
abbrev pub opening : ℕ → ℕ → List ℕ
opening rows columns =
    line (codes "g = reshape(range(" ∷ decimal (rows * columns) ∷ codes "), [" ∷ decimal rows ∷ codes ", " ∷ decimal columns ∷ codes "]) % 97" ∷ [])

-- the sum of the grid's inside and of the four parts that lie one step up, down, left and right of it
abbrev pub sums : ℕ → ℕ → List ℕ
sums rows columns =
    line (codes "c = " ∷ part 1 (rows - 1) 1 (columns - 1) ∷ codes " + " ∷ part 0 (rows - 2) 1 (columns - 1) ∷ codes " + " ∷ part 2 rows 1 (columns - 1)
    ∷ codes " + " ∷ part 1 (rows - 1) 0 (columns - 2) ∷ codes " + " ∷ part 1 (rows - 1) 2 columns ∷ [])

-- `g[1:ROWS - 1, 1:COLUMNS - 1] = c / 5`
abbrev pub inside : ℕ → ℕ → List ℕ
inside rows columns = line (part 1 (rows - 1) 1 (columns - 1) ∷ codes " = c / 5" ∷ [])

-- `g[:, 1:COLUMNS] = g[:, 0:COLUMNS - 1] + ADDED`
abbrev pub slide : ℕ → ℕ → List ℕ
slide columns added =
    line (codes "g[:, 1:" ∷ decimal columns ∷ codes "] = g[:, 0:" ∷ decimal (columns - 1) ∷ codes "] + " ∷ decimal added ∷ [])

-- ---- the script

-- what a word asks for
abbrev pub turn : ℕ → ℕ → ℕ → List ℕ
turn rows columns word =
    get_or ((sums rows columns ++ inside rows columns)
    ∷ slide columns (word / 65536 % 100)
    ∷ codes "s = sum(g, 0)\ng[:] = g - s % 7\n"
    ∷ codes "g[:] = cumsum(g, 1) & 65535\n" ∷ []) (word % 4) []

abbrev pub closing : List ℕ
closing = codes "print g\nprint sum(sum(g, 0), 0)\n"

-- a turn for each word
abbrev pub script_by : ℕ → ℕ → List ℕ → List ℕ
script_by rows columns words = opening rows columns ++ flat_map (turn rows columns) words ++ closing

-- ---- what is drawn

abbrev pub word : Lcg → ℕ
word generator = (pcg32 generator).0

-- the generator behind its next word
abbrev pub behind : Lcg → Lcg
behind generator = (pcg32 generator).1

-- The first word gives the rows, the second the columns, the third the number of turns; each further word is a turn.
abbrev pub drawn_script : Lcg → List ℕ
drawn_script first =
    let second = behind first in
    let third = behind second in
    script_by (8 + word first % 57) (8 + word second % 57) (first_words pcg32 (4 + word third % 13) (behind third))

abbrev pub demo_script : ℕ → List ℕ
demo_script number = drawn_script (pcg32_of_seed (pcg32_seed 16 number))
