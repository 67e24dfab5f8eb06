-- The state's rule, part by part. Assumes nothing.
use Rattle.std.specs.Prelude.{◌≡◌, ◌<◌, ◌≤◌, true, false, not, ◌&&◌, nat_le, nat_lt, refl}
use Rattle.std.proofs.Common.{ltb-true, leb-true, lt-ltb, le-leb}
use Rattle.std.proofs.lemmas.Bool.{not-true}
use Rattle.numbers.specs.Between.{both}
use Rattle.controller.specs.declared.Controller.{Controller}
use Rattle.controller.specs.State.{fresh, interleaves, ruled}

-- Top of Frame and counter of 18 bits, 0 to 3 refresh cycles, page mode not together with interleaved update
pub record Ruled (s : Controller) : Type 0 where
  pub top : s.top < 262144
  pub counter : s.counter < 262144
  pub cycles : s.cycles ≤ 3
  pub apart : (s.page && interleaves s.update) ≡ false

pub ruled_parts : (s : Controller) → ruled s ≡ true → Ruled s
unfolding ruled
ruled_parts s e =
    let f = both ((nat_lt s.top 262144 && nat_lt s.counter 262144) && nat_le s.cycles 3) (not (s.page && interleaves s.update)) e in
    let g = both (nat_lt s.top 262144 && nat_lt s.counter 262144) (nat_le s.cycles 3) f.0 in
    let h = both (nat_lt s.top 262144) (nat_lt s.counter 262144) g.0 in
    record {
      top = ltb-true s.top 262144 h.0;
      counter = ltb-true s.counter 262144 h.1;
      cycles = leb-true s.cycles 3 g.1;
      apart = not-true (s.page && interleaves s.update) f.1;
    }

pub ruled_whole : (s : Controller) → Ruled s → ruled s ≡ true
unfolding ruled
ruled_whole s r =
    rw (lt-ltb s.top 262144 r.top, lt-ltb s.counter 262144 r.counter, le-leb s.cycles 3 r.cycles, r.apart)

pub fresh_ruled : ruled fresh ≡ true
unfolding ruled
fresh_ruled = refl
