-- What is shown of the two boards, by computation. Assumes nothing.
use Rattle.std.specs.Prelude.{◌≡◌, refl, true, [], ◌∷◌}
use Rattle.words.specs.Bit.{bit, of_bits}
use Rattle.words.specs.Word.{merged, covers, lets, high}
use Rattle.refusals.specs.Refusal.{write_refusal, load_refusal, full_refusal}
use Rattle.vram.specs.State.{ruled}
use Rattle.vram.specs.Memory.{put, puts, copied}
use Rattle.vram.specs.Board.{effect}
use Rattle.vram.specs.Refusal.{given, refusal}
use Rattle.vram.specs.Step.{number, step_by, run_by}
use Rattle.vram.specs.Serial.{clock_in, clocks_in, clocked_words_in, length_of}
use Rattle.vram.specs.Calls.{clocks_refusal}
use Rattle.vram.specs.Kinds.{tag_of, loads}
use Rattle.vram.specs.High.{Twins}
use Rattle.palette.specs.State.{ruled as palette_ruled}
use Rattle.panel.specs.declared.Width.{Width}
use Rattle.panel.specs.declared.Width.TheVariants.{Six, Eight}
use Rattle.panel.specs.Panel.{inverted, pixel, widened, unwidened, part_at, colour_of, bytes_of}
use Rattle.panel.specs.Calls.{run_refusal, run_call_by}
use Rattle.list.specs.Tags.{word, known, len_of, cycle_of}
use Rattle.list.specs.Splits.{split}
use Rattle.list.specs.Fields.{whole as whole_field, field_of, size_of}
use Rattle.list.specs.Open.{opens, open_by, open_after}
use Rattle.list.specs.Meaning.{bad, number_of, made_by, verdict, cycles, left_behind, first_bad, judged, verdict_of, run_call_by as list_call_by}
use Rattle.pencil.specs.Bits.{with_bit, bit_by_bit, written, bits_left}
use Rattle.pencil.specs.Memory.{word_written, block_written}
use Rattle.pencil.specs.Pencil.{pencil}
use Rattle.marks_apart.specs.Ways.{Which, fast, plain, engine_of, whole, ran}
use Rattle.marks_apart.specs.OneWord.{with_results}
use Rattle.marks_apart.specs.Example.{one, other, all_differ, list, showing, marks_shown, differing}

-- they meet what is asked of two boards
pub both_boards : Twins one other
unfolding with_results high
both_boards = record { state = refl; memory = record { same = refl }; serial = record { same = refl } }

-- and no low byte is the same
pub low_bytes_differ : (all_differ one.memory other.memory ≡ true) × (all_differ one.serial other.serial ≡ true)
unfolding with_results high
low_bytes_differ = (refl, refl)

-- neither list nor run is refused; of the marks shown one is 255 and one is 0, and just these two pixels differ: neither can be left out of the
-- statement
pub two_differ : (engine : Which) (width : Width)
    → ((ran (whole engine list) one).given ≡ bad 0 0 ∷ [])
    × ((showing engine width one).answer.number ≡ 0)
    × (marks_shown engine width one
    ≡ 0xF8 ∷ 0xF9 ∷ 0xFA ∷ 0xFB ∷ 0xFC ∷ 0xFD ∷ 0xFE ∷ 0xFF ∷ 0x00 ∷ 0x01 ∷ 0x02 ∷ 0x05 ∷ 0x04 ∷ 0x05 ∷ 0x06 ∷ 0x07 ∷ 0x08 ∷ 0x09 ∷ 0x02 ∷ 0x1B ∷ [])
    × (differing 0 20 (showing engine width one).buffer (showing engine width other).buffer ≡ 7 ∷ 8 ∷ [])
unfolding with_results high bit of_bits merged covers lets write_refusal load_refusal full_refusal ruled put puts copied effect given refusal number step_by run_by clock_in clocks_in clocked_words_in length_of clocks_refusal tag_of loads palette_ruled inverted pixel widened unwidened part_at colour_of bytes_of run_refusal run_call_by word known len_of cycle_of whole_field split field_of size_of opens open_by open_after number_of made_by verdict cycles left_behind first_bad judged verdict_of list_call_by engine_of ran with_bit bit_by_bit written bits_left word_written block_written pencil
two_differ fast Eight = (refl, refl, refl, refl)
two_differ fast Six = (refl, refl, refl, refl)
two_differ plain Eight = (refl, refl, refl, refl)
two_differ plain Six = (refl, refl, refl, refl)
