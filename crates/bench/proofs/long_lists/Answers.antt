-- `bench::long_lists` meets its contract: the resets put leave the list as long as it was. Assumes nothing.
use Rattle.std.proofs.Common.{◌≡◌, length, sym, arith, take, length-take}
use Rattle.bench.proofs.long_lists.Goals as goal

pub slice_bounds-say_report-end-2 : goal.slice_bounds-say_report-end-2
slice_bounds-say_report-end-2 g c =
    let e : 4096 ≡ length (take 4096 c.put_resets.new.list) = sym (simp length-take (omega (arith, c.put_resets.auto.list))) in e

pub slice_bounds-say_report-end-6 : goal.slice_bounds-say_report-end-6
slice_bounds-say_report-end-6 g c =
    let e : 4095 ≡ length (take 4095 c.put_resets.new.list) = sym (simp length-take (omega (arith, c.put_resets.auto.list))) in e
