-- The address of every word of a frame: word k of line l is Top of Frame + l · (w + Offset) + k, wrapped at 18 bits. Assumes nothing.
use Rattle.std.specs.Prelude.{◌≡◌, ℕ, ◌+◌, ◌*◌, true, false, List, ◌∷◌, ◌++◌, refl}
use Rattle.std.proofs.Common.{arith}
use Rattle.controller.specs.declared.Controller.{Controller}
use Rattle.controller.specs.State.{overrides, ruled}
use Rattle.controller.specs.StateLaws.{ruled_parts}
use Rattle.controller.specs.Address.{wrap}
use Rattle.controller.specs.Calls.{Call, Video, VerticalSync, Fetch, after, fetch_call}
use Rattle.controller.specs.Session.{session, times}
use Rattle.controller.proofs.SessionLaws.{session_append, after_ruled, session_ruled}
use Rattle.controller.specs.Frame.{lines, frame, Gap, Answers}
use Rattle.controller.proofs.FrameLaws.{vertical_is, gap_is, on_is, fetch_answers, fetches_show, lines_show}

-- After a vertical sync and a gap at whose end video is off and the mode is not override, once video goes on. Top of Frame is the one of
-- the vertical sync: what is set or panned in the gap is for the next frame.
pub frame_address : (s : Controller) → ruled s ≡ true → {gap : List Call} → Gap s.video (overrides s.update) gap false false
    → (w l k : ℕ) → Answers (fetch_call (session (frame gap w l k) s)) (wrap (s.top + l * (w + s.offset) + k))
frame_address s e {gap} b w l k =
    let r = ruled_parts s e in
    let t = after VerticalSync s in
    let q = after_ruled VerticalSync s r in
    let g = session gap t in
    let y = session_ruled gap t q in
    let h = gap_is b t q (vertical_is s r (record { counter = refl; offset = refl; lit = refl; held = refl; over = refl })) in
    let u = after (Video 1) g in
    let z = after_ruled (Video 1) g y in
    let x = session (lines l w) u in
    let f : wrap (wrap (s.top + l * (w + s.offset)) + k) ≡ wrap (s.top + l * (w + s.offset) + k) = omega arith in
    rw (session_append gap (Video 1 ∷ (lines l w ++ times k Fetch)) t, session_append (lines l w) (times k Fetch) u)
    (rw (← f) (fetch_answers (session (times k Fetch) x) (session_ruled (times k Fetch) x (session_ruled (lines l w) u z))
    (fetches_show k x (session_ruled (lines l w) u z) (lines_show l w u z (on_is g y h)))))
