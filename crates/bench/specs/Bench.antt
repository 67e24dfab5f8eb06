-- The starred bench cases, M-102's and ours for M-107 and M-111 hold, by computation over the definitions that the contracts cite. Assumes
-- nothing.
use Rattle.std.specs.Prelude.{refl}
use mathlib.Core.List.{flatten}
use Rattle.words.specs.Bit.{bit, of_bits}
use Rattle.words.specs.Word.{merged, covers, lets}
use Rattle.refusals.specs.Refusal.{write_refusal, load_refusal, full_refusal, split_refusal, stop_refusal}
use Rattle.vram.specs.State.{ruled}
use Rattle.vram.specs.Memory.{put, puts, copied}
use Rattle.vram.specs.Board.{effect}
use Rattle.vram.specs.Refusal.{given, refusal}
use Rattle.vram.specs.Step.{number, step_by, run_by}
use Rattle.vram.specs.Serial.{clock_in, length_of}
use Rattle.vram.specs.Calls.{cycle_call, clock_refusal, clock_call}
use Rattle.vram.specs.Kinds.{tag_of, loads}
use Rattle.palette.specs.State.{ruled as palette_ruled}
use Rattle.palette.specs.Access.{after_write, table_after_write, byte_read, after_read}
use Rattle.palette.specs.Calls.{access_refusal, write_call, read_call}
use Rattle.palette.specs.Session.{session}
use Rattle.list.specs.Tags.{word, known, len_of, cycle_of}
use Rattle.list.specs.Splits.{split}
use Rattle.list.specs.Fields.{whole, field_of, size_of}
use Rattle.list.specs.Encode.{encode, encode_all, body_of}
use Rattle.list.specs.Open.{opens, open_by, open_after}
use Rattle.list.specs.Meaning.{number_of, made_by, verdict, cycles, left_behind, first_bad, judged, verdict_of}
use Rattle.planner.specs.Fill.{inside, touched, picked, columns_of, plan}
use Rattle.planner.specs.Calls.{fill_refusal, fill_call}
use Rattle.bench.specs.Cases.{starred, Every}

pub starred_cases_hold : Every starred
unfolding bit of_bits merged covers lets write_refusal load_refusal full_refusal split_refusal stop_refusal ruled put puts copied effect given refusal number step_by run_by length_of clock_in cycle_call clock_refusal clock_call tag_of palette_ruled after_write table_after_write byte_read after_read access_refusal write_call read_call session word known len_of cycle_of whole field_of size_of split encode encode_all body_of number_of made_by loads verdict cycles opens open_by open_after left_behind first_bad judged verdict_of flatten inside touched picked columns_of plan fill_refusal fill_call
starred_cases_hold = (
  refl,
  (
    refl,
    (
      refl,
      (
        (refl, refl),
        (
          (refl, refl),
          (
            (refl, refl),
            (
              refl,
              (
                refl,
                (
                  (refl, refl, refl),
                  (
                    (refl, refl, refl),
                    (
                      (refl, refl, refl),
                      ((λ m r h k. (rw (h, k), rw (h, k))), (refl, ((refl, refl), ((refl, refl), ((refl, refl), (refl, (refl, (refl, (refl, (refl, (refl, (refl, (refl, tt))))))))))))),
                    ),
                  ),
                ),
              ),
            ),
          ),
        ),
      ),
    ),
  ),
)
