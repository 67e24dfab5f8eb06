-- The video RAM's state as C has it, and as `vram` has it; the answer to a list. Assumes nothing.
use Rattle.std.specs.Prelude.{ℕ, Bool, not, ◌&&◌, ◌||◌, cond, eqb, leb}
use Rattle.words.specs.Bit.{digit}
use Rattle.refusals.specs.Refusal.{partition_ok}
use Rattle.vram.specs.declared.Vram.{Vram}
use Rattle.vram.specs.declared.Waiting.{Waiting}
use Rattle.vram.specs.declared.Waiting.TheVariants.{None, Tap}
use Rattle.vram.specs.State.{stop_length, stop_of}
use Rattle.list.specs.Meaning.{Bad}
use Rattle.list.specs.Meaning.{Ran as ListRan}
use Rattle.list.specs.Meaning.{bad}
use Rattle.registers.specs.declared.Registers.{Registers}
use Rattle.registers.specs.declared.Ran.{Ran}

-- a `Vram` can be so: yes-or-no bytes of 0 or 1, no tap where nothing waits, and a partition of one of the four lengths
unfoldable pub lawful : Registers → Bool
lawful s =
    (((leb s.persistent 1 && leb s.loaded 1) && leb s.waiting 1) && (eqb s.waiting 1 || eqb s.tap 0)) && partition_ok s.stop

abbrev pub waiting_of : ℕ → ℕ → Waiting
waiting_of waiting tap = cond (eqb waiting 0) None (Tap tap)

unfoldable pub taken : Registers → Vram
taken s =
    record {
      colour = s.colour;
      mask = s.mask;
      persistent = not (eqb s.persistent 0);
      loaded = not (eqb s.loaded 0);
      pointer = s.pointer;
      waiting = waiting_of s.waiting s.tap;
      stop = stop_of s.stop;
    }

-- the registers with what waits: 0 none, 1 tap
abbrev pub handed_with : Vram → ℕ → ℕ → Registers
handed_with v waiting tap =
    record {
      colour = v.colour;
      mask = v.mask;
      persistent = digit v.persistent;
      loaded = digit v.loaded;
      pointer = v.pointer;
      waiting = waiting;
      tap = tap;
      stop = stop_length v.stop;
    }

abbrev pub handed_by : Waiting → Vram → Registers
handed_by None v = handed_with v 0 0
handed_by (Tap tap) v = handed_with v 1 tap

unfoldable pub handed : Vram → Registers
handed v = handed_by v.waiting v

-- a call that takes the state from C: what it makes of the state, and where no `Vram` can be so the answer with number 1
abbrev pub taking : {A : Type 0} → Registers → (Vram → A) → A → A
taking s made excluded = cond (lawful s) (made (taken s)) excluded

-- the answer to a list: number, place and the state handed back; where no `Vram` can be so, 1 and the state as it came
abbrev pub handed_answer : Bad → Vram → Ran
handed_answer v s = record { state = handed s; number = v.number; place = v.place }

abbrev pub handed_ran : ListRan → Ran
handed_ran r = handed_answer (bad r.number r.place) r.state

abbrev pub excluded_ran : Registers → Ran
excluded_ran s = record { state = s; number = 1; place = 0 }
