-- What moves the counter: in override vertical sync and setting the Offset alone; never a setting, a pan or a refused call.
-- Assumes nothing.
use Rattle.std.specs.Prelude.{◌≡◌, ℕ, ◌<◌, true, false, not, ◌⊎◌, ℤ}
use Rattle.std.proofs.Math.Path.{refl}
use Rattle.std.proofs.Common.{sym, true≢false, arith, leb-true}
use Rattle.std.proofs.Math.Bool.{and-false, or-true}
use Rattle.std.proofs.Math.Logic.{inl, inr}
use Rattle.numbers.specs.Between.{both}
use Rattle.controller.specs.declared.Controller.{Controller}
use Rattle.controller.specs.State.{overrides, ruled}
use Rattle.controller.specs.Calls.{Call, SetTopOfFrame, Pan, SetOffset, SetMode, Video, HorizontalSync, VerticalSync, Fetch, allows, against, number, effect, after}
use Rattle.controller.specs.CallLaws.{Accepted, number_against}
use Rattle.controller.proofs.SessionLaws.{after_holds}

-- the calls that give the counter a new value
pub data Loads : Call → Type 0 where
  vertical : Loads VerticalSync
  reset : {offset : ℕ} → Loads (SetOffset offset)

module _ (s : Controller) where
  -- what leaves the counter where it is accepted leaves it
  keeps : (c : Call) → (Accepted c s → (effect c s).counter ≡ s.counter) → (after c s).counter ≡ s.counter
  keeps c f = after_holds (λ (t : Controller). t.counter ≡ s.counter) c s refl f

  -- ---- settings

  pub set_top_keeps : (address : ℕ) → (after (SetTopOfFrame address) s).counter ≡ s.counter
  unfolding effect
  set_top_keeps address = keeps (SetTopOfFrame address) (λ a. refl)

  pub pan_keeps : (words : ℤ) → (after (Pan words) s).counter ≡ s.counter
  unfolding effect
  pan_keeps words = keeps (Pan words) (λ a. refl)

  pub set_mode_keeps : (cycles page update : ℕ) → (after (SetMode cycles page update) s).counter ≡ s.counter
  unfolding effect
  set_mode_keeps cycles page update = keeps (SetMode cycles page update) (λ a. refl)

  -- a refused Offset does not reset: it changes nothing
  pub offset_refused : (offset : ℕ) → 255 < offset → after (SetOffset offset) s ≡ s
  unfolding allows
  offset_refused offset h = after_holds (λ (t : Controller). t ≡ s) (SetOffset offset) s refl (λ a. absurd (omega (arith, leb-true offset 255 a.allowed)))

  -- ---- override

  pub override_moves : (c : Call) → overrides s.update ≡ true → ((after c s).counter ≡ s.counter) ⊎ Loads c
  unfolding allows effect
  override_moves (SetTopOfFrame address) o = inl (set_top_keeps address)
  override_moves (Pan words) o = inl (pan_keeps words)
  override_moves (SetOffset offset) o = inr reset
  override_moves (SetMode cycles page update) o = inl (set_mode_keeps cycles page update)
  override_moves (Video on) o = inl (keeps (Video on) (λ a. refl))
  override_moves HorizontalSync o = inl (keeps HorizontalSync (λ a. rw (o, or-true s.inhibited)))
  override_moves VerticalSync o = inr vertical
  override_moves Fetch o =
      inl (keeps Fetch
      (λ a. let n = (both s.video (not (overrides s.update)) a.allowed).1 in absurd (true≢false (sym (rw o at n)))))

  -- and no word is fetched: 17, as with video off
  pub override_fetch : ruled s ≡ true → overrides s.update ≡ true → number Fetch s ≡ 17
  unfolding allows against
  override_fetch r o = number_against Fetch s r (rw (o, and-false s.video))

  pub off_fetch : ruled s ≡ true → s.video ≡ false → number Fetch s ≡ 17
  unfolding allows against
  off_fetch r v = number_against Fetch s r (rw v)
