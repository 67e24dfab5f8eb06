-- The bench cases marked * in document 01, "Bench cases", in its order, the case of change request M-102 in document 02, and our own for
-- M-107 and M-111: one list that holds them and no other. Assumes nothing.
use Rattle.std.specs.Prelude.{ℕ, zero, suc, ◌%◌, ◌≡◌, Bool, true, false, length, take, replicate}
use Rattle.std.proofs.Common.{List, [], ◌∷◌, ◌++◌, map}
use mathlib.Core.List.{flatten}
use Rattle.vram.specs.declared.Vram.{Vram}
use Rattle.vram.specs.declared.Cycle.{Cycle}
use Rattle.vram.specs.declared.Cycle.TheVariants.{WordWrite, BlockWrite, LoadColour, ResetRefresh, FullTransfer, SplitTransfer, StopPoints}
use Rattle.vram.specs.declared.Word.{Word}
use Rattle.vram.specs.State.{fresh, with_colour, with_mask}
use Rattle.vram.specs.Board.{Board, board}
use Rattle.vram.specs.Step.{number, step, run}
use Rattle.vram.specs.Calls.{cycle_call, clock_call}
use Rattle.palette.specs.declared.Palette.{Palette}
use Rattle.palette.specs.State.{fresh as fresh_palette}
use Rattle.palette.specs.Calls.{Access, write, read}
use Rattle.palette.specs.Session.{session, done_with}
use Rattle.list.specs.Meaning.{bad, cycles_of, verdict_of}
use Rattle.planner.specs.Fill.{fill}
use Rattle.planner.specs.Calls.{fill_call}
use Rattle.planner.specs.Paint.{list_in}

-- ---- a case of each kind, and when it holds

pub data Case : Type 0 where
  -- masking, mask and strobes of a block write, and the block's four words afterwards
  block_write_case : (masking mask strobes : ℕ) (words : List ℕ) → Case
  -- transfers of row 0 and other cycles, none of them refused, and the places that so many clocks then answer
  serial : (cycles : List Cycle) (clocks : ℕ) (places : List ℕ) → Case
  -- accesses to a fresh palette, the bytes that they answer, the state and the table afterwards
  palette : (accesses : List Access) (bytes : List ℕ) (state : Palette) (table : List ℕ) → Case
  -- columns of a fill of one row, M FFFF, not persistent, the number of cycles and the cycles
  fill_row : (first_column end_column cycles : ℕ) (list : List Cycle) → Case
  -- a list field by field, on a row of zeros and a fresh state but for its persistence, and the number and place that it is answered with
  list_verdict : (persistent : Bool) (fields : List (List ℕ)) (number place : ℕ) → Case
  -- a word write to every memory of 512 rows: a row that is accepted, one that is refused, and its number
  row : (accepted refused number : ℕ) → Case

-- colour A5C3, a memory, and a serial register of zeros
abbrev pub coloured : List ℕ → Board
coloured m = board (with_colour fresh 0xA5C3) m (replicate 256 0)

-- n numbers from the one given on: as a memory, each word says its place
abbrev pub places : ℕ → ℕ → List ℕ
places at zero = []
places at (suc n) = at ∷ places (suc at) n

-- the numbers that cycles in order give back
abbrev pub given_back : List Cycle → Board → List ℕ
given_back [] b = []
given_back (c ∷ l) b = number c b ∷ given_back l (step c b)

-- the words that serial clocks answer, with their numbers
abbrev pub clocked : ℕ → Vram → List ℕ → List Word
clocked zero s r = []
clocked (suc n) s r =
    let c = clock_call s r in
    record { number = c.number; word = c.word } ∷ clocked n c.state r

abbrev pub done : List ℕ → List Word
done [] = []
done (w ∷ l) = record { number = 0; word = w } ∷ done l

-- a table in which each byte says its place, mod 256
abbrev pub numbered : List ℕ
numbered = map (λ place. place % 256) (places 0 768)

abbrev pub Holds : Case → Type 0
Holds (block_write_case masking mask strobes words) =
    cycle_call (BlockWrite 0 7 0x8421 masking mask strobes) (coloured (replicate 512 0))
    ≡ record { given = 0; after = coloured (replicate 4 0 ++ words ++ replicate 504 0) }
Holds (serial cycles clocks answered) =
    let start = board fresh (places 0 512) (replicate 256 0) in
    let b = run cycles start in
    (given_back cycles start ≡ replicate (length cycles) 0) × (clocked clocks b.state b.serial ≡ done answered)
Holds (palette accesses bytes state table) =
    session accesses fresh_palette numbered ≡ record { answers = map done_with bytes; state = state; table = table }
Holds (fill_row first_column end_column cycles list) =
    let o = fill_call (fill 1 0 1 first_column end_column 0xFFFF 0x0011 0) (replicate 32 0) in
    (o.answer.number ≡ 0) × (o.answer.cycles ≡ cycles) × (cycles_of (list_in o) ≡ list)
Holds (list_verdict persistent fields number place) =
    verdict_of (flatten fields) (board (with_mask fresh 0 persistent) (replicate 512 0) (replicate 256 0)) ≡ bad number place
Holds (row accepted refused number) =
    (m r : List ℕ) → length m ≡ 262144 → length r ≡ 256
    → (cycle_call (WordWrite refused 0 0 0 0 3) (board fresh m r) ≡ record { given = number; after = board fresh m r })
    × ((cycle_call (WordWrite accepted 0 0 0 0 3) (board fresh m r)).given ≡ 0)

-- the fields of M-111's cases
abbrev pub mask_load : List ℕ
mask_load = 4 ∷ 0 ∷ 3 ∷ 0x0F ∷ 0xF0 ∷ 3 ∷ []

abbrev pub colour_load : ℕ → List ℕ
colour_load strobes = 3 ∷ 0 ∷ 3 ∷ 0xA5 ∷ 0xC3 ∷ strobes ∷ []

abbrev pub reset : List ℕ
reset = 5 ∷ 0 ∷ 0 ∷ []

-- ---- the cases

abbrev pub starred : List Case
starred =
    -- Colour A5C3, four zero words in columns 4 to 7, block write at column 7, column mask 8421, plain, both: 0003, 00C0, 0500, A000.
    block_write_case 0 0 3 (0x0003 ∷ 0x00C0 ∷ 0x0500 ∷ 0xA000 ∷ [])
    -- The same, strobes 1: 0003, 00C0, 0000, 0000.
    ∷ block_write_case 0 0 1 (0x0003 ∷ 0x00C0 ∷ 0x0000 ∷ 0x0000 ∷ [])
    -- Masked 0FF0, both: 0000, 00C0, 0500, 0000.
    ∷ block_write_case 1 0x0FF0 3 (0x0000 ∷ 0x00C0 ∷ 0x0500 ∷ 0x0000 ∷ [])
    -- Full transfer tap 126, three clocks: places 126, 127, 128.
    ∷ serial (FullTransfer 0 0 126 ∷ []) 3 (126 ∷ 127 ∷ 128 ∷ [])
    -- With a split, tap 5, before them: 126, 127, 133.
    ∷ serial (FullTransfer 0 0 126 ∷ SplitTransfer 0 0 5 ∷ []) 3 (126 ∷ 127 ∷ 133 ∷ [])
    -- Tap 255, two clocks: 255, 0.
    ∷ serial (FullTransfer 0 0 255 ∷ []) 2 (255 ∷ 0 ∷ [])
    -- Fresh palette state, select 0 = 255, colours 63, 64, 1: entry 255 is (63, 0, 1), A is 0.
    ∷ palette (write 0 255 ∷ write 1 63 ∷ write 1 64 ∷ write 1 1 ∷ []) (0 ∷ 0 ∷ 0 ∷ 0 ∷ [])
    (record { address = 0; phase = 0; red = 63; green = 0; blue = 1; mask = 255 }) (take 765 numbered ++ 63 ∷ 0 ∷ 1 ∷ [])
    -- Fresh palette state, colours 10, 20, then select 0 = 5: no entry changes, phase 0.
    ∷ palette (write 1 10 ∷ write 1 20 ∷ write 0 5 ∷ []) (0 ∷ 0 ∷ 0 ∷ [])
    (record { address = 5; phase = 0; red = 10; green = 20; blue = 0; mask = 255 }) numbered
    -- Fill of one row, M FFFF, not persistent, columns 0 to 2 (end): 2 word writes.
    ∷ fill_row 0 2 2 (WordWrite 0 0 0x0011 1 0xFFFF 3 ∷ WordWrite 0 1 0x0011 1 0xFFFF 3 ∷ [])
    -- 0 to 3: colour, one block.
    ∷ fill_row 0 3 2 (LoadColour 0x0011 3 ∷ BlockWrite 0 0 0x7777 1 0xFFFF 3 ∷ [])
    -- 3 to 5: 2 word writes.
    ∷ fill_row 3 5 2 (WordWrite 0 3 0x0011 1 0xFFFF 3 ∷ WordWrite 0 4 0x0011 1 0xFFFF 3 ∷ [])
    -- Row 512 of 512: 5. Row 511 is accepted.
    ∷ row 511 512 5
    -- M-102: reading one colour after writing select 3 = 255 leaves A at 1. The colour is entry 255's; the registers have taken entry 0.
    ∷ palette (write 3 255 ∷ read 1 ∷ read 1 ∷ read 1 ∷ []) (0 ∷ 61 ∷ 62 ∷ 63 ∷ [])
    (record { address = 1; phase = 0; red = 0; green = 1; blue = 2; mask = 255 }) numbered
    -- M-107: length 16, a tap waiting, the pointer at 15: the clock there goes to the tap, which lies at 128 + 5.
    ∷ serial (StopPoints 16 ∷ FullTransfer 0 0 15 ∷ SplitTransfer 0 0 5 ∷ []) 3 (15 ∷ 133 ∷ 134 ∷ [])
    -- M-107: length 64 with nothing waiting walks on through its ends, 63, 127, 191 and 255, and round.
    ∷ serial (StopPoints 64 ∷ FullTransfer 0 0 62 ∷ []) 258 (places 62 194 ++ places 0 64)
    -- M-107: reset refresh brings 128 back: the tap set while the length was 16 is taken at 127 and not at 15, 31 and so on.
    ∷ serial (StopPoints 16 ∷ FullTransfer 0 0 14 ∷ SplitTransfer 0 0 5 ∷ ResetRefresh ∷ []) 115 (places 14 114 ++ 133 ∷ [])
    -- M-111: a mask load and a colour load: 20, at the mask load.
    ∷ list_verdict false (mask_load ∷ colour_load 3 ∷ []) 20 0
    -- M-111: with a reset refresh at the end it is accepted, and so is a list that only resets.
    ∷ list_verdict false (mask_load ∷ colour_load 3 ∷ reset ∷ []) 0 0
    ∷ list_verdict false (reset ∷ []) 0 0
    -- M-111: of two mask loads the last; a reset refresh closes only those before it.
    ∷ list_verdict false (mask_load ∷ mask_load ∷ []) 20 6
    ∷ list_verdict false (reset ∷ mask_load ∷ []) 20 3
    ∷ list_verdict false (mask_load ∷ reset ∷ mask_load ∷ []) 20 9
    -- M-111: a later field's own number comes first; a mask that came in persistent is not the list's.
    ∷ list_verdict false (mask_load ∷ colour_load 0 ∷ []) 7 6
    ∷ list_verdict true (colour_load 3 ∷ []) 0 0
    ∷ []

abbrev pub Every : List Case → Type 0
Every [] = Unit
Every (c ∷ l) = Holds c × Every l
