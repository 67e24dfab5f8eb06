-- The controller's state: change request M-100. `top` is Top of Frame. Assumes nothing.
use Rattle.std.specs.Prelude.{ℕ, Bool, true, false, cond, not, ◌&&◌, ◌==◌, nat_le, nat_lt}
use Rattle.controller.specs.declared.Controller.{Controller}
use Rattle.controller.specs.declared.Update.{Update}
use Rattle.controller.specs.declared.Update.TheVariants.{Retrace, Override, Interleaved}

-- every field, in the order of the struct
abbrev pub controller : ℕ → ℕ → ℕ → ℕ → ℕ → Update → Bool → Bool → Bool → Controller
controller top counter offset refresh cycles update page video inhibited =
    record {
      top = top;
      counter = counter;
      offset = offset;
      refresh = refresh;
      cycles = cycles;
      update = update;
      page = page;
      video = video;
      inhibited = inhibited;
    }

-- all zeros, nothing inhibited
abbrev pub fresh : Controller
fresh = controller 0 0 0 0 0 Retrace false false false

-- ---- a state with one thing changed

module _ (s : Controller) where
  abbrev pub with_top : ℕ → Controller
  with_top n = controller n s.counter s.offset s.refresh s.cycles s.update s.page s.video s.inhibited

  abbrev pub with_counter : ℕ → Controller
  with_counter n = controller s.top n s.offset s.refresh s.cycles s.update s.page s.video s.inhibited

  abbrev pub with_offset : ℕ → Controller
  with_offset n = controller s.top s.counter n s.refresh s.cycles s.update s.page s.video s.inhibited

  abbrev pub with_refresh : ℕ → Controller
  with_refresh n = controller s.top s.counter s.offset n s.cycles s.update s.page s.video s.inhibited

  abbrev pub with_mode : ℕ → Bool → Update → Controller
  with_mode n p u = controller s.top s.counter s.offset s.refresh n u p s.video s.inhibited

  abbrev pub with_video : Bool → Bool → Controller
  with_video v i = controller s.top s.counter s.offset s.refresh s.cycles s.update s.page v i

-- ---- the update mode

abbrev pub overrides : Update → Bool
overrides Retrace = false
overrides Override = true
overrides Interleaved = false

abbrev pub interleaves : Update → Bool
interleaves Retrace = false
interleaves Override = false
interleaves Interleaved = true

-- 0 retrace only, 1 override, 2 interleaved
abbrev pub update_of : ℕ → Update
update_of n = cond (n == 0) Retrace (cond (n == 1) Override Interleaved)

-- the number of a mode
abbrev pub number_of : Update → ℕ
number_of Retrace = 0
number_of Override = 1
number_of Interleaved = 2

-- ---- the states that the rules allow

-- Top of Frame and counter of 18 bits, 0 to 3 refresh cycles, page mode not together with interleaved update
unfoldable pub ruled : Controller → Bool
ruled s = ((nat_lt s.top 262144 && nat_lt s.counter 262144) && nat_le s.cycles 3) && not (s.page && interleaves s.update)
