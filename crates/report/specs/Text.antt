-- The text of a report, as bytes: document 01, "The program `play`". Assumes nothing.
use Rattle.std.specs.Prelude.{ℕ, suc, ◌+◌, ◌/◌, ◌%◌, ◌≡◌, cond, List, [], ◌∷◌, ◌++◌, eqb, ltb, length}
use Rattle.std.proofs.lemmas.List.Edits.{sets}

-- ---- numbers

-- a digit, 0 to 9 and then A to F
unfoldable pub digit : ℕ → ℕ
digit d = cond (ltb d 10) (48 + d) (55 + d)

-- the digit of a number that counts 10, 100 or 1,000; nothing where the number is smaller
abbrev pub digit_from : ℕ → ℕ → List ℕ
digit_from least n = cond (ltb n least) [] (digit (n / least % 10) ∷ [])

-- in decimal, of a number below 10,000
unfoldable pub decimal : ℕ → List ℕ
decimal n = digit_from 1000 n ++ (digit_from 100 n ++ (digit_from 10 n ++ (digit (n % 10) ∷ [])))

-- in decimal, with a byte after it
abbrev pub number_then : ℕ → ℕ → List ℕ
number_then after n = decimal n ++ (after ∷ [])

-- a word in four capital hex digits
unfoldable pub hex : ℕ → List ℕ
hex w = digit (w / 4096 % 16) ∷ digit (w / 256 % 16) ∷ digit (w / 16 % 16) ∷ digit (w % 16) ∷ []

-- ---- lines

-- `answer`, the number, `at`, the place
unfoldable pub answer_line : ℕ → ℕ → List ℕ
answer_line number place =
    (97 ∷ 110 ∷ 115 ∷ 119 ∷ 101 ∷ 114 ∷ 32 ∷ []) ++ (number_then 32 number ++ ((97 ∷ 116 ∷ 32 ∷ []) ++ number_then 10 place))

-- row and column in decimal, the word in four capital hex digits
unfoldable pub word_line : ℕ → ℕ → List ℕ
word_line i w = number_then 32 (i / 512) ++ (number_then 32 (i % 512) ++ (hex w ++ (10 ∷ [])))

-- the line of a word, or nothing where it is 0
abbrev pub line_of : ℕ → ℕ → List ℕ
line_of i w = cond (eqb w 0) [] (word_line i w)

-- a line for each word not 0, by row and then column; the first word given is word i
unfoldable pub word_lines : ℕ → List ℕ → List ℕ
word_lines i [] = []
word_lines i (w ∷ ws) = line_of i w ++ word_lines (suc i) ws

-- the answer line, and after it the words not 0; after a refusal only the first line
abbrev pub all_lines : ℕ → ℕ → List ℕ → List ℕ
all_lines number place memory = answer_line number place ++ cond (eqb number 0) (word_lines 0 memory) []

-- `too long`
abbrev pub too_long : List ℕ
too_long = 116 ∷ 111 ∷ 111 ∷ 32 ∷ 108 ∷ 111 ∷ 110 ∷ 103 ∷ 10 ∷ []

-- ---- bytes written from a place of a buffer on, and the place after them

pub record Put (t : List ℕ) (at : ℕ) (bytes t' : List ℕ) (at' : ℕ) : Type 0 where
  pub text : t' ≡ sets t at bytes
  pub end : at' ≡ at + length bytes
