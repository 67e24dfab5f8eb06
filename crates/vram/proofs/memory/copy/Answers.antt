-- `vram::memory::copy` meets its contract: one turn of the loop is one more word pasted. Assumes nothing.
use Rattle.std.proofs.Common.{◌≡◌, ℕ, ◌+◌, ◌<◌, ◌≤◌, List, length, get_or, drop, set, ap, ◌∙◌, add-one, arith, length-drop, get_or-drop}
use lib.Seq.{paste, paste-zero, paste-suc, length-paste}
use Rattle.vram.specs.Memory.{copied}
use Rattle.vram.proofs.memory.copy.Goals as goal

module _ (d m s : List ℕ) (to from n i : ℕ) (hm : from + n ≤ length m) (hd : to + n ≤ length d) (e : s ≡ paste d to (drop from m) i) where
  turn : i < n → set s (to + i) (get_or m (from + i) 0) ≡ paste d to (drop from m) (i + 1)
  turn h =
      let k : i < length (drop from m) = simp length-drop (omega arith) in
      rw (e, ← get_or-drop from m i 0, paste-suc d to (drop from m) i 0 (omega arith) k, add-one)

  size : i ≤ n → length s ≡ length d
  size h = ap length e ∙ length-paste d to (drop from m) i (omega arith) (simp length-drop (omega arith))

pub loop-i-init : goal.loop-i-init
loop-i-init c = (omega arith, paste-zero c.args.serial.now c.args.to (drop c.args.from c.args.memory.now))

pub bounds-serial-to : goal.bounds-serial-to
bounds-serial-to c =
    let l = c.loop-i in
    omega (arith, size c.args.serial.now c.args.memory.now l.serial c.args.to c.args.from c.args.n l.i c.requires.0 c.requires.1 l.invariant.1 l.invariant.0)

pub loop-i-preserved : goal.loop-i-preserved
loop-i-preserved c =
    let l = c.loop-i in
    let s = c in (
      omega arith,
      turn s.args.serial.now s.args.memory.now l.serial s.args.to s.args.from s.args.n l.i s.requires.0 s.requires.1 l.invariant.1 c.loop-i-test.true,
    )

pub shape_of-serial : goal.shape_of-serial
shape_of-serial c =
    let l = c.loop-i in
    size c.args.serial.now c.args.memory.now l.serial c.args.to c.args.from c.args.n l.i c.requires.0 c.requires.1 l.invariant.1 l.invariant.0

pub returns : goal.returns
unfolding copied
returns c =
    let l = c.loop-i in
    let e : l.i ≡ c.args.n = omega arith in
    l.invariant.1 ∙ ap (paste c.args.serial.now c.args.to (drop c.args.from c.args.memory.now)) e
