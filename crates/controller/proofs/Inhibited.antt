-- From a vertical sync until video next goes from off to on the counter stays at Top of Frame, however many horizontal syncs come.
-- Assumes nothing.
use Rattle.std.specs.Prelude.{◌≡◌, ℕ, zero, suc, Bool, true, false, ◌≢◌, ◌⊎◌, List, ◌∷◌, ◌==◌}
use Rattle.std.proofs.Math.Path.{refl}
use Rattle.std.proofs.Math.Bool.{and-true, or-true}
use Rattle.std.proofs.Common.{inl, inr, ne_eqb}
use Rattle.std.proofs.lemmas.Bool.{eqb-false}
use Rattle.controller.specs.declared.Controller.{Controller}
use Rattle.controller.specs.State.{overrides, ruled}
use Rattle.controller.specs.StateLaws.{ruled_parts}
use Rattle.controller.specs.EffectLaws.{advanced_holds}
use Rattle.controller.specs.Calls.{Call, SetTopOfFrame, Pan, SetOffset, SetMode, Video, HorizontalSync, VerticalSync, Fetch, allows, against, effect, after}
use Rattle.controller.specs.CallLaws.{Accepted}
use Rattle.controller.specs.Session.{session, times}
use Rattle.controller.proofs.SessionLaws.{after_holds, after_ruled}
use Rattle.controller.specs.Frame.{Gap, end, sync}
use Rattle.controller.proofs.FrameLaws.{vertical_is, gap_is}

-- after a vertical sync and a gap, the counter is at Top of Frame as it was then, whatever has been set since, and is still inhibited
pub inhibited : (s : Controller) → ruled s ≡ true → {gap : List Call} {v o : Bool} → Gap s.video (overrides s.update) gap v o
    → ((session (VerticalSync ∷ gap) s).counter ≡ s.top) × ((session (VerticalSync ∷ gap) s).inhibited ≡ true)
inhibited s e g =
    let r = ruled_parts s e in
    let h = vertical_is s r (record { counter = refl; offset = refl; lit = refl; held = refl; over = refl }) in
    let f = gap_is g (after VerticalSync s) (after_ruled VerticalSync s r) h in
    (f.counter, f.held)

-- among others after any number of horizontal syncs
syncs_gap : (n : ℕ) {v o : Bool} → Gap v o (times n HorizontalSync) v o
syncs_gap zero = end
syncs_gap (suc n) = sync (syncs_gap n)

pub syncs_inhibited : (s : Controller) → ruled s ≡ true → (n : ℕ) → (session (VerticalSync ∷ times n HorizontalSync) s).counter ≡ s.top
syncs_inhibited s r n = (inhibited s r (syncs_gap n)).0

-- ---- one call, whatever came before it

module _ (s : Controller) where
  -- while inhibited a horizontal sync leaves the counter
  pub sync_inhibited : s.inhibited ≡ true → (after HorizontalSync s).counter ≡ s.counter
  unfolding effect
  sync_inhibited h = after_holds (λ (t : Controller). t.counter ≡ s.counter) HorizontalSync s refl (λ a. rw h)

  -- setting video on where it is on changes nothing, so it ends nothing
  pub video_on_again : (value : ℕ) → s.video ≡ true → value ≢ 0 → after (Video value) s ≡ s
  unfolding effect
  video_on_again value v h =
      after_holds (λ (t : Controller). t ≡ s) (Video value) s refl (λ a. rw (ne_eqb value 0 h, v, and-true s.inhibited))

  -- any number but 0 sets video on, as 1 does
  pub video_any : (value : ℕ) → value ≢ 0 → after (Video value) s ≡ after (Video 1) s
  unfolding allows against effect
  video_any value h = rw (ne_eqb value 0 h)

-- what ends an inhibition: video that goes from off to on, and setting the Offset
pub data Ends : Call → Controller → Type 0 where
  on : {s : Controller} (value : ℕ) → value ≢ 0 → s.video ≡ false → Ends (Video value) s
  reset : {s : Controller} {offset : ℕ} → Ends (SetOffset offset) s

-- and nothing else does
pub inhibition_lasts : (c : Call) (s : Controller) → s.inhibited ≡ true → ((after c s).inhibited ≡ true) ⊎ Ends c s
unfolding effect
inhibition_lasts c s h = go c
  where
    stays : (c : Call) → (Accepted c s → (effect c s).inhibited ≡ true) → (after c s).inhibited ≡ true
    stays c f = after_holds (λ (t : Controller). t.inhibited ≡ true) c s h f

    video : (value : ℕ) (b : Bool) → (value == 0) ≡ b → (v : Bool) → s.video ≡ v
        → ((after (Video value) s).inhibited ≡ true) ⊎ Ends (Video value) s
    video value true e v f = inl (stays (Video value) (λ a. rw (e, h) (or-true s.video)))
    video value false e true f = inl (stays (Video value) (λ a. rw (f, h)))
    video value false e false f = inr (on value (eqb-false value 0 e) f)

    go : (c : Call) → ((after c s).inhibited ≡ true) ⊎ Ends c s
    go (SetTopOfFrame address) = inl (stays (SetTopOfFrame address) (λ a. h))
    go (Pan words) = inl (stays (Pan words) (λ a. h))
    go (SetOffset offset) = inr reset
    go (SetMode cycles page update) = inl (stays (SetMode cycles page update) (λ a. h))
    go (Video value) = video value (value == 0) refl s.video refl
    go HorizontalSync = inl (stays HorizontalSync (λ a. advanced_holds (λ (t : Controller). t.inhibited ≡ true) s h h))
    go VerticalSync = inl (stays VerticalSync (λ a. refl))
    go Fetch = inl (stays Fetch (λ a. h))
