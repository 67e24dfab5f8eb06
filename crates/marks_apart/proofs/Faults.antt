-- Where the two faulty engines show. Assumes nothing.
use Rattle.std.specs.Prelude.{ℕ, ◌≡◌, refl, true, ◌++◌, replicate}
use Rattle.std.proofs.Common.{arith}
use Rattle.words.specs.Bit.{bit, of_bits}
use Rattle.words.specs.Word.{merged, covers, lets, high}
use Rattle.refusals.specs.Refusal.{write_refusal}
use Rattle.vram.specs.declared.Cycle.TheVariants.{WordWrite, BlockWrite, LoadColour, LoadMask, ResetRefresh, FullTransfer, SplitTransfer, StopPoints}
use Rattle.vram.specs.State.{ruled}
use Rattle.vram.specs.Memory.{put, puts}
use Rattle.vram.specs.Board.{effect}
use Rattle.vram.specs.Refusal.{given, refusal}
use Rattle.vram.specs.Step.{number, step_by, run_by}
use Rattle.vram.specs.Kinds.{tag_of, loads}
use Rattle.vram.specs.High.{KeepsTwins, spares}
use Rattle.vram.proofs.HighLaws.{agree_at, effect_twins}
use Rattle.list.specs.Tags.{word, known, len_of, cycle_of}
use Rattle.list.specs.Splits.{split}
use Rattle.list.specs.Fields.{whole as whole_field, field_of, size_of}
use Rattle.list.specs.Open.{opens, open_by, open_after}
use Rattle.list.specs.Meaning.{number_of, made_by, verdict, cycles, left_behind, first_bad, judged, verdict_of, run_call_by}
use Rattle.list.specs.HighLaws.{given_twins, after_twins}
use Rattle.marks_apart.specs.OneWord.{with_results}
use Rattle.marks_apart.specs.Example.{one, other}
use Rattle.marks_apart.proofs.Example.{both_boards}
use Rattle.marks_apart.specs.Faults.{MarksApart, leaking, one_write, version_one, preliminary, new_result}

-- on the two boards of the example the results 0 and 1 of the first word make the marks 0 and 1
pub leaking_refused : MarksApart leaking → ⊥
unfolding leaking with_results high bit of_bits merged covers write_refusal ruled put effect given refusal number step_by run_by tag_of loads word known len_of cycle_of whole_field split field_of size_of opens open_by open_after number_of made_by verdict cycles left_behind first_bad judged verdict_of run_call_by
leaking_refused k = let e : ◌≡◌ {A = ℕ} 0 1 = agree_at (k one_write one other both_boards).1.memory 0 in absurd (omega arith)

version_one_twins : KeepsTwins version_one
unfolding version_one
version_one_twins (WordWrite row column word masking mask strobes) = effect_twins (WordWrite row column word masking mask strobes)
version_one_twins (BlockWrite row column columns masking mask strobes) = effect_twins (BlockWrite row column columns masking mask 3)
version_one_twins (LoadColour word strobes) = effect_twins (LoadColour word strobes)
version_one_twins (LoadMask word strobes) = effect_twins (LoadMask word strobes)
version_one_twins ResetRefresh = effect_twins ResetRefresh
version_one_twins (FullTransfer row half tap) = effect_twins (FullTransfer row half tap)
version_one_twins (SplitTransfer row half tap) = effect_twins (SplitTransfer row half tap)
version_one_twins (StopPoints length) = effect_twins (StopPoints length)

-- it is true of it, so it does not tell it from ours: two boards that differ in low bytes alone lose the same marks
pub version_one_apart : MarksApart version_one
version_one_apart list a b t = (given_twins list t version_one version_one_twins, after_twins list t version_one version_one_twins)

-- it reaches no high byte
pub new_result_spares : spares new_result preliminary.state ≡ true
unfolding spares
new_result_spares = refl

-- the rules' engine leaves the marks, version one takes them: four results that look final
pub ours_leaves : (effect new_result preliminary).memory ≡ replicate 4 0x0211 ++ replicate 4 0x0244 ++ replicate 504 0x0211
unfolding bit of_bits merged covers lets put puts effect
ours_leaves = refl

pub version_one_takes : (version_one new_result preliminary).memory ≡ replicate 4 0x0211 ++ replicate 4 0x0044 ++ replicate 504 0x0211
unfolding version_one bit of_bits merged covers lets put puts effect
version_one_takes = refl
