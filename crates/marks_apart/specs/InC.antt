-- The same for C: on two boards whose memories and serial registers agree in every high byte, whatever the exports are given besides, the same on
-- both, and in whatever order they are called. Change request M-110. Assumes nothing.
use Rattle.std.specs.Prelude.{ℕ, ◌≡◌, refl, List, [], ◌∷◌, length}
use Rattle.std.proofs.Common.{ap}
use Rattle.words.specs.Word.{high}
use Rattle.vram.specs.Serial.{clocked_words}
use Rattle.vram.specs.Calls.{word_read_call}
use Rattle.vram.specs.High.{Agree}
use Rattle.vram.proofs.HighLaws.{read_number, read_high}
use Rattle.palette.specs.declared.Palette.{Palette}
use Rattle.panel.specs.declared.Width.{Width}
use Rattle.panel.specs.declared.Width.TheVariants.{Six, Eight}
use Rattle.panel.specs.Panel.{part_at}
use Rattle.panel.proofs.PartLaws.{six_rule, eight_rule}
use Rattle.registers.specs.declared.Registers.{Registers}
use Rattle.registers.specs.State.{taken}
use Rattle.registers.specs.Lists.{list_call_by, list_call}
use Rattle.registers.specs.HighLaws.{list_twins}
use Rattle.marks_c.specs.Calls.{marked_call_by, marked_call}
use Rattle.marks_c.specs.HighLaws.{marked_twins}
use Rattle.pencil_c.specs.Calls.{pencil_call, pencil_marked_call}
use Rattle.pieces_c.specs.declared.Pieces.{Pieces}
use Rattle.pieces_c.specs.Calls.{take_call, end_call}
use Rattle.pieces_c.specs.HighLaws.{take_twins, end_twins}
use Rattle.host.specs.Calls.{clock_call, panel_call_by, panel_call, panel_six_call}
use Rattle.host.specs.HighLaws.{TwinClocked, clock_twins, TwinShown, panel_twins}
use Rattle.marks_apart.specs.Ways.{Which, fast, plain, engine_of}
use Rattle.marks_apart.specs.WayLaws.{engine_twins}

-- ---- the exports that are lent a memory or a serial register, each with all else that it is given: a state and a line of any bytes, also such as
-- no call makes

pub data Call : Type 0 where
  -- linkshoar_list_run, linkshoar_pencil_run
  list : (engine : Which) (state : Registers) (bytes : List ℕ) → Call
  -- linkshoar_list_run_marked, linkshoar_pencil_run_marked
  marked : (engine : Which) (state : Registers) (rows bytes : List ℕ) → Call
  -- linkshoar_pieces_take, linkshoar_pieces_end
  take : (state : Registers) (pieces : Pieces) (piece : List ℕ) → Call
  end : (state : Registers) (pieces : Pieces) → Call
  -- linkshoar_panel_run, linkshoar_panel_run_six
  panel : (width : Width) (state : Registers) (palette : Palette) (table : List ℕ) (clocks blank : ℕ) → Call
  -- linkshoar_serial_clock, linkshoar_word_read
  clock : (state : Registers) → Call
  read : (row column strobes : ℕ) → Call

pub record Lent : Type 0 where
  pub memory : List ℕ
  pub serial : List ℕ

abbrev pub lent : List ℕ → List ℕ → Lent
lent m q = record { memory = m; serial = q }

-- what a call leaves in what is lent
abbrev pub left : Call → Lent → Lent
left (list engine state bytes) x = let o = list_call_by (engine_of engine) state x.memory x.serial bytes in lent o.memory o.serial
left (marked engine state rows bytes) x =
    let o = marked_call_by (engine_of engine) state x.memory x.serial rows bytes in lent o.memory o.serial
left (take state pieces piece) x = let o = take_call state pieces x.memory x.serial piece in lent o.memory o.serial
left (end state pieces) x = let o = end_call state pieces x.memory x.serial in lent o.memory o.serial
left (panel width state palette table clocks blank) x = x
left (clock state) x = x
left (read row column strobes) x = x

-- by the names of their contracts
pub fast_list : list_call_by (engine_of fast) ≡ list_call
unfolding engine_of
fast_list = refl

pub plain_list : list_call_by (engine_of plain) ≡ pencil_call
unfolding engine_of
plain_list = refl

pub fast_marked_is : marked_call_by (engine_of fast) ≡ marked_call
unfolding engine_of
fast_marked_is = refl

pub plain_marked_is : marked_call_by (engine_of plain) ≡ pencil_marked_call
unfolding engine_of
plain_marked_is = refl

pub eight_bits : panel_call_by (part_at Eight) ≡ panel_call
eight_bits = ap panel_call_by eight_rule

pub six_bits : panel_call_by (part_at Six) ≡ panel_six_call
six_bits = ap panel_call_by six_rule

-- ---- what two boards have in common

pub record Agreeing (x y : Lent) : Type 0 where
  pub memory : Agree x.memory y.memory
  pub serial : Agree x.serial y.serial

-- a call's answers: of a list all members, with marks of rows those too; of a clock and a word read all but the word's low byte; of a run number
-- and state, and the colour of each pixel whose high byte is neither 0 nor 255, whatever was in the two buffers
abbrev pub Alike : Call → Lent → Lent → Type 0
Alike (list engine state bytes) x y =
    (list_call_by (engine_of engine) state x.memory x.serial bytes).answer ≡ (list_call_by (engine_of engine) state y.memory y.serial bytes).answer
Alike (marked engine state rows bytes) x y =
    let o = marked_call_by (engine_of engine) state x.memory x.serial rows bytes in
    let u = marked_call_by (engine_of engine) state y.memory y.serial rows bytes in
    (o.answer ≡ u.answer) × (o.marks ≡ u.marks)
Alike (take state pieces piece) x y =
    (take_call state pieces x.memory x.serial piece).answer ≡ (take_call state pieces y.memory y.serial piece).answer
Alike (end state pieces) x y = (end_call state pieces x.memory x.serial).answer ≡ (end_call state pieces y.memory y.serial).answer
Alike (panel width state palette table clocks blank) x y =
    (out out' : List ℕ) → length out ≡ length out'
    → TwinShown clocks (clocked_words clocks (taken state) x.serial) (panel_call_by (part_at width) state x.serial palette table clocks blank out)
    (panel_call_by (part_at width) state y.serial palette table clocks blank out')
Alike (clock state) x y = TwinClocked (clock_call state x.serial) (clock_call state y.serial)
Alike (read row column strobes) x y =
    let o = word_read_call x.memory row column strobes in
    let u = word_read_call y.memory row column strobes in
    (o.number ≡ u.number) × (high o.word ≡ high u.word)

-- each call on what those before it have left, and at the end high bytes that agree
abbrev pub AllAlike : List Call → Lent → Lent → Type 0
AllAlike [] x y = Agreeing x y
AllAlike (c ∷ cs) x y = Alike c x y × AllAlike cs (left c x) (left c y)

-- ---- one call: its answers, and what it leaves

call_twins : {x y : Lent} → Agreeing x y → (c : Call) → Alike c x y × Agreeing (left c x) (left c y)
call_twins t (list engine state bytes) =
    let k = list_twins (engine_of engine) (engine_twins engine) state t.memory t.serial bytes in
    (k.answer, record { memory = k.memory; serial = k.serial })
call_twins t (marked engine state rows bytes) =
    let k = marked_twins (engine_of engine) (engine_twins engine) state t.memory t.serial rows bytes in
    ((k.answer, k.marks), record { memory = k.memory; serial = k.serial })
call_twins t (take state pieces piece) =
    let k = take_twins state pieces t.memory t.serial piece in (k.answer, record { memory = k.memory; serial = k.serial })
call_twins t (end state pieces) =
    let k = end_twins state pieces t.memory t.serial in (k.answer, record { memory = k.memory; serial = k.serial })
call_twins t (panel width state palette table clocks blank) = (panel_twins (part_at width) state t.serial palette table clocks blank, t)
call_twins t (clock state) = (clock_twins state t.serial, t)
call_twins t (read row column strobes) = ((read_number t.memory row column strobes, read_high t.memory row column strobes), t)

-- ---- any calls, in any order

pub calls_apart : (calls : List Call) (x y : Lent) → Agreeing x y → AllAlike calls x y
calls_apart [] x y t = t
calls_apart (c ∷ cs) x y t = let k = call_twins t c in (k.0, calls_apart cs (left c x) (left c y) k.1)
