-- Source document 003's Table 2, the function table, row by row and for each gun: H high, L low, X either. Of the sheet's S1 and S0 overlay
-- is S0 low; S1 is high for every pixel, since an access is no clock. The sheet's rows for colour data 15 and 0, with the steps between,
-- are here one row for all data for each setting of blink and bit 12, three rows. Assumes nothing.
use Rattle.std.specs.Prelude.{◌≡◌, Bool, true, false, List, [], ◌∷◌, ◌⊎◌, ℕ, ◌-◌, ◌/◌, ◌%◌}
use Rattle.words.specs.Bit.{bit}
use Rattle.colours.specs.declared.Inputs.{Inputs}
use Rattle.colours.specs.declared.Level.{Level}
use Rattle.colours.specs.declared.Level.TheVariants as level
use Rattle.colours.specs.declared.Levels.{Levels}
use Rattle.colours.specs.Output.{asks, levels_of}

pub data Pin : Type 0 where
  H : Pin
  L : Pin
  X : Pin

abbrev pub is : Pin → Bool → Type 0
is H p = p ≡ true
is L p = p ≡ false
is X p = Unit {0}

-- ---- a gun: its input, its colour data, its level

pub data Gun : Type 0 where
  Red : Gun
  Green : Gun
  Blue : Gun

abbrev pub on_of : Gun → Inputs → Bool
on_of Red i = i.red
on_of Green i = i.green
on_of Blue i = i.blue

abbrev pub data_of : Gun → ℕ → ℕ
data_of Red word = word % 16
data_of Green word = word / 16 % 16
data_of Blue word = word / 256 % 16

abbrev pub level_of : Gun → Levels → Level
level_of Red l = l.red
level_of Green l = l.green
level_of Blue l = l.blue

-- ---- the table

-- what comes out, by the gun and its colour data
abbrev pub peak_white : Gun → ℕ → Level
peak_white g n = level.White

abbrev pub reference_black : Gun → ℕ → Level
reference_black g n = level.Black

abbrev pub step : Gun → ℕ → Level
step g n = level.Step n

abbrev pub inverse_step : Gun → ℕ → Level
inverse_step g n = level.Step (15 - n)

abbrev pub blanking : Gun → ℕ → Level
blanking g n = level.Blank

-- sync shows on green; red and blue have blank level
abbrev pub composite_sync : Gun → ℕ → Level
composite_sync Red n = level.Blank
composite_sync Green n = level.Sync
composite_sync Blue n = level.Blank

pub record Row : Type 0 where
  pub on : Pin
  pub overlay : Pin
  pub blank : Pin
  pub horizontal : Pin
  pub vertical : Pin
  pub blink : Pin
  pub twelve : Pin
  pub out : Gun → ℕ → Level

abbrev row : Pin → Pin → Pin → Pin → Pin → Pin → Pin → (Gun → ℕ → Level) → Row
row n o k h v b t out = record { on = n; overlay = o; blank = k; horizontal = h; vertical = v; blink = b; twelve = t; out = out }

-- gun on, overlay, blank, horizontal sync, vertical sync, blink, bit 12 of the word, and what comes out
abbrev pub table : List Row
table =
    row H H L L L X X peak_white ∷
    row X L L L L L X step ∷
    row X L L L L X L step ∷
    row X L L L L H H inverse_step ∷
    row L H L L L X X reference_black ∷
    row X X H L L X X blanking ∷
    row X X X H H X X blanking ∷
    row X X X H L X X composite_sync ∷
    row X X X L H X X composite_sync ∷
    []

-- a gun's inputs and its word are those of a row
pub record Fits (r : Row) (g : Gun) (i : Inputs) (word : ℕ) : Type 0 where
  pub on : is r.on (on_of g i)
  pub overlay : is r.overlay i.overlay
  pub blank : is r.blank i.blank
  pub horizontal : is r.horizontal i.horizontal
  pub vertical : is r.vertical i.vertical
  pub blink : is r.blink i.blink
  pub twelve : is r.twelve (bit word 12)

-- every gun of every pixel that fits the row has the row's level
abbrev pub Holds : Row → Type 0
Holds r = (g : Gun) (i : Inputs) (word : ℕ) → Fits r g i word → level_of g (levels_of (asks i word)) ≡ r.out g (data_of g word)

abbrev pub AllHold : List Row → Type 0
AllHold [] = Unit {0}
AllHold (r ∷ rows) = Holds r × AllHold rows

-- it fits one of them
abbrev pub FitsSome : List Row → Gun → Inputs → ℕ → Type 0
FitsSome [] g i word = ⊥
FitsSome (r ∷ rows) g i word = Fits r g i word ⊎ FitsSome rows g i word
