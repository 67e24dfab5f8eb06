-- The controller's state as C has it, and as `controller` has it. Assumes nothing.
use Rattle.std.specs.Prelude.{Bool, not, ◌&&◌, cond, eqb, leb, Result}
use Rattle.std.specs.Prelude.Result.{Ok, Err}
use Rattle.numbers.specs.declared.Refusal.{Refusal}
use Rattle.numbers.specs.declared.Refusal.TheVariants.{StateExcluded}
use Rattle.words.specs.Bit.{digit}
use Rattle.controller.specs.declared.Controller.{Controller}
use Rattle.controller.specs.State.{controller, update_of, number_of}
use Rattle.controller_c.specs.declared.Held.{Held}

-- a `Controller` can be so: an update mode of 0 to 2, and yes-or-no bytes of 0 or 1
unfoldable pub lawful : Held → Bool
lawful h = ((leb h.update 2 && leb h.page 1) && leb h.video 1) && leb h.inhibited 1

unfoldable pub taken : Held → Controller
taken h =
    controller h.top h.counter h.offset h.refresh h.cycles (update_of h.update)
    (not (eqb h.page 0)) (not (eqb h.video 0)) (not (eqb h.inhibited 0))

-- a `Controller`, or 1 where none can be so
unfoldable pub taking : Held → Result Controller Refusal
taking h = cond (lawful h) (Ok (taken h)) (Err StateExcluded)

unfoldable pub handed : Controller → Held
handed s =
    record {
      top = s.top;
      counter = s.counter;
      offset = s.offset;
      refresh = s.refresh;
      cycles = s.cycles;
      update = number_of s.update;
      page = digit s.page;
      video = digit s.video;
      inhibited = digit s.inhibited;
    }
