-- The two cases of an addition at a horizontal sync. Assumes nothing.
use Rattle.std.specs.Prelude.{◌≡◌, ◌+◌, Bool, true, false, cond, ◌||◌}
use Rattle.controller.specs.declared.Controller.{Controller}
use Rattle.controller.specs.State.{with_counter, overrides}
use Rattle.controller.specs.Address.{wrap}
use Rattle.controller.specs.Effect.{advanced}

-- what holds in both holds
pub advanced_holds : (P : Controller → Type 0) (s : Controller) → P s → P (with_counter s (wrap (s.counter + s.offset))) → P (advanced s)
advanced_holds P s p q = go (s.inhibited || overrides s.update)
  where
    go : (b : Bool) → P (cond b s (with_counter s (wrap (s.counter + s.offset))))
    go true = p
    go false = q

-- by a test that says whether it is override
module _ (s : Controller) (b : Bool) (e : b ≡ overrides s.update) where
  pub advanced_stays : (s.inhibited || b) ≡ true → s ≡ advanced s
  advanced_stays h = rw (← e, h)

  pub advanced_adds : (s.inhibited || b) ≡ false → {t : Controller} → t ≡ with_counter s (wrap (s.counter + s.offset)) → t ≡ advanced s
  advanced_adds h f = rw (← e, h) f
