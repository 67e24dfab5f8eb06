-- The refresh counter counts the cycles of every horizontal sync, in every mode, inhibited or not, with video on or off. Assumes nothing.
use Rattle.std.specs.Prelude.{◌≡◌, ℕ, zero, suc, ◌+◌, ◌*◌, ◌%◌, ◌<◌, true, List, [], ◌∷◌, ℤ}
use Rattle.std.proofs.Math.Path.{refl, ap, ap₂}
use Rattle.std.proofs.Common.{◌∙◌, arith, suc-mul}
use Rattle.controller.specs.declared.Controller.{Controller}
use Rattle.controller.specs.State.{ruled}
use Rattle.controller.specs.StateLaws.{Ruled, ruled_parts}
use Rattle.controller.specs.EffectLaws.{advanced_holds}
use Rattle.controller.specs.Calls.{Call, SetTopOfFrame, Pan, Video, HorizontalSync, VerticalSync, Fetch, allows, effect, after}
use Rattle.controller.specs.CallLaws.{after_done}
use Rattle.controller.specs.Session.{session, times}
use Rattle.controller.proofs.SessionLaws.{after_holds, after_ruled}

-- n horizontal syncs among calls that set neither Offset nor mode
pub data Syncs : ℕ → List Call → Type 0 where
  end : Syncs 0 []
  sync : {n : ℕ} {cs : List Call} → Syncs n cs → Syncs (suc n) (HorizontalSync ∷ cs)
  vertical : {n : ℕ} {cs : List Call} → Syncs n cs → Syncs n (VerticalSync ∷ cs)
  word : {n : ℕ} {cs : List Call} → Syncs n cs → Syncs n (Fetch ∷ cs)
  video : {n : ℕ} {cs : List Call} (value : ℕ) → Syncs n cs → Syncs n (Video value ∷ cs)
  top : {n : ℕ} {cs : List Call} (address : ℕ) → Syncs n cs → Syncs n (SetTopOfFrame address ∷ cs)
  pan : {n : ℕ} {cs : List Call} (words : ℤ) → Syncs n cs → Syncs n (Pan words ∷ cs)

-- the refresh counter is r, and a horizontal sync makes c cycles
record Counts (r c : ℕ) (s : Controller) : Type 0 where
  refresh : s.refresh ≡ r
  cycles : s.cycles ≡ c

module _ (s : Controller) (r c : ℕ) (l : Ruled s) (e : Counts r c s) where
  synced : Counts ((r + c) % 256) c (after HorizontalSync s)
  unfolding allows effect
  synced =
      let f = after_done HorizontalSync s (record { rule = l; allowed = refl }) in
      let a = advanced_holds (Counts r c) s e (record { refresh = e.refresh; cycles = e.cycles }) in
      record {
        refresh = ap (λ (t : Controller). t.refresh) f ∙ ap₂ (λ (x y : ℕ). (x + y) % 256) a.refresh a.cycles;
        cycles = ap (λ (t : Controller). t.cycles) f ∙ a.cycles;
      }

counts : {n : ℕ} {cs : List Call} → Syncs n cs → (s : Controller) (r c : ℕ) → r < 256 → Ruled s → Counts r c s
    → (session cs s).refresh ≡ (r + n * c) % 256
unfolding effect
counts end s r c h l e = let z : r ≡ (r + 0 * c) % 256 = omega arith in e.refresh ∙ z
counts (sync {n} w) s r c h l e =
    let z : ((r + c) % 256 + n * c) % 256 ≡ (r + suc n * c) % 256 = omega (arith, suc-mul n c) in
    counts w (after HorizontalSync s) ((r + c) % 256) c (omega arith) (after_ruled HorizontalSync s l) (synced s r c l e) ∙ z
counts (vertical w) s r c h l e =
    counts w (after VerticalSync s) r c h (after_ruled VerticalSync s l)
    (after_holds (Counts r c) VerticalSync s e (λ a. record { refresh = e.refresh; cycles = e.cycles }))
counts (word w) s r c h l e =
    counts w (after Fetch s) r c h (after_ruled Fetch s l)
    (after_holds (Counts r c) Fetch s e (λ a. record { refresh = e.refresh; cycles = e.cycles }))
counts (video value w) s r c h l e =
    counts w (after (Video value) s) r c h (after_ruled (Video value) s l)
    (after_holds (Counts r c) (Video value) s e (λ a. record { refresh = e.refresh; cycles = e.cycles }))
counts (top address w) s r c h l e =
    counts w (after (SetTopOfFrame address) s) r c h (after_ruled (SetTopOfFrame address) s l)
    (after_holds (Counts r c) (SetTopOfFrame address) s e (λ a. record { refresh = e.refresh; cycles = e.cycles }))
counts (pan words w) s r c h l e =
    counts w (after (Pan words) s) r c h (after_ruled (Pan words) s l)
    (after_holds (Counts r c) (Pan words) s e (λ a. record { refresh = e.refresh; cycles = e.cycles }))

-- n horizontal syncs, whatever else is called between them that sets neither Offset nor mode: n times the cycles further, wrapped at
-- 8 bits. (A refresh counter below 256 is what every `Controller` has by its type.)
pub refresh_after : (s : Controller) → ruled s ≡ true → s.refresh < 256 → {n : ℕ} {cs : List Call} → Syncs n cs
    → (session cs s).refresh ≡ (s.refresh + n * s.cycles) % 256
refresh_after s r h w = counts w s s.refresh s.cycles h (ruled_parts s r) (record { refresh = refl; cycles = refl })

-- among others nothing between them
pub syncs_count : (n : ℕ) → Syncs n (times n HorizontalSync)
syncs_count zero = end
syncs_count (suc n) = sync (syncs_count n)
