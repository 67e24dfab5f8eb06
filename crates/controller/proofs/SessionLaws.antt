-- Laws of calls and of calls in a row. Assumes nothing.
use Rattle.std.specs.Prelude.{◌≡◌, ℕ, ◌≤◌, Bool, true, false, cond, not, ◌&&◌, ◌||◌, List, [], ◌∷◌, ◌++◌, pos, ◌+ℤ◌, ◌==◌, refl}
use Rattle.std.proofs.Common.{arith, eqb-true, ltb-true}
use Rattle.std.proofs.lemmas.Bool.{eqb-false, not-true}
use Rattle.controller.specs.declared.Controller.{Controller}
use Rattle.controller.specs.declared.Update.TheVariants.{Retrace, Override, Interleaved}
use Rattle.controller.specs.State.{interleaves, update_of}
use Rattle.controller.specs.StateLaws.{Ruled}
use Rattle.controller.specs.AddressLaws.{wrapped_small}
use Rattle.controller.specs.Effect.{advanced}
use Rattle.controller.specs.EffectLaws.{advanced_holds}
use Rattle.controller.specs.Calls.{Call, SetTopOfFrame, Pan, SetOffset, SetMode, Video, HorizontalSync, VerticalSync, Fetch, allows, number, effect, after}
use Rattle.controller.specs.CallLaws.{Accepted, number_zero, mode_parts}
use Rattle.controller.specs.Session.{session}

-- what holds of a state, and of what an accepted call makes of it, holds after the call
pub after_holds : (P : Controller → Type 0) (c : Call) (s : Controller) → P s → (Accepted c s → P (effect c s)) → P (after c s)
after_holds P c s p f = go (number c s == 0) refl
  where
    go : (t : Bool) → (number c s == 0) ≡ t → P (cond t (effect c s) s)
    go true e = f (number_zero c s (eqb-true (number c s) 0 e))
    go false e = p

-- calls in a row are run one part after the other
pub session_append : (cs ds : List Call) (s : Controller) → session (cs ++ ds) s ≡ session ds (session cs s)
session_append [] ds s = refl
session_append (c ∷ cs) ds s = session_append cs ds (after c s)

-- ---- a state that the rules allow stays one

mode_apart : (p : Bool) (u : ℕ) → (p || not (u == 2)) ≡ true → u ≤ 2 → (not p && interleaves (update_of u)) ≡ false
mode_apart true u e h = refl
mode_apart false u e h = go (u == 0) refl (u == 1) refl
  where
    go : (a : Bool) → (u == 0) ≡ a → (b : Bool) → (u == 1) ≡ b → interleaves (cond a Retrace (cond b Override Interleaved)) ≡ false
    go true p b q = refl
    go false p true q = refl
    go false p false q =
        let z = eqb-false u 0 p in
        let o = eqb-false u 1 q in
        let t = eqb-false u 2 (not-true (u == 2) e) in
        absurd (omega arith)

effect_ruled : (c : Call) (s : Controller) → Accepted c s → Ruled (effect c s)
unfolding effect allows
effect_ruled (SetTopOfFrame address) s a =
    record { top = ltb-true address 262144 a.allowed; counter = a.rule.counter; cycles = a.rule.cycles; apart = a.rule.apart }
effect_ruled (Pan words) s a =
    record { top = wrapped_small (pos s.top +ℤ words); counter = a.rule.counter; cycles = a.rule.cycles; apart = a.rule.apart }
effect_ruled (SetOffset offset) s a =
    record { top = a.rule.top; counter = omega arith; cycles = a.rule.cycles; apart = a.rule.apart }
effect_ruled (SetMode cycles page update) s a =
    let m = mode_parts cycles page update a.allowed in
    record {
      top = a.rule.top;
      counter = a.rule.counter;
      cycles = m.0;
      apart = mode_apart (page == 0) update m.2 m.1;
    }
effect_ruled (Video on) s a =
    record { top = a.rule.top; counter = a.rule.counter; cycles = a.rule.cycles; apart = a.rule.apart }
effect_ruled HorizontalSync s a =
    let f : Ruled (advanced s) = advanced_holds Ruled s a.rule
    (record { top = a.rule.top; counter = omega arith; cycles = a.rule.cycles; apart = a.rule.apart }) in
    record { top = f.top; counter = f.counter; cycles = f.cycles; apart = f.apart }
effect_ruled VerticalSync s a =
    record { top = a.rule.top; counter = a.rule.top; cycles = a.rule.cycles; apart = a.rule.apart }
effect_ruled Fetch s a =
    record { top = a.rule.top; counter = omega arith; cycles = a.rule.cycles; apart = a.rule.apart }

pub after_ruled : (c : Call) (s : Controller) → Ruled s → Ruled (after c s)
after_ruled c s r = after_holds Ruled c s r (effect_ruled c s)

pub session_ruled : (cs : List Call) (s : Controller) → Ruled s → Ruled (session cs s)
session_ruled [] s r = r
session_ruled (c ∷ cs) s r = session_ruled cs (after c s) (after_ruled c s r)
