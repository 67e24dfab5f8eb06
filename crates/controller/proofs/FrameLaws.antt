-- What each call of a frame makes of the next word's address, of video, of the inhibition and of override; then gaps and lines of them.
-- Assumes nothing.
use Rattle.std.specs.Prelude.{◌≡◌, ℕ, zero, suc, ◌+◌, ◌*◌, Bool, true, false, cond, ◌≢◌, List, [], ◌∷◌, ℤ, ◌==◌}
use Rattle.std.proofs.Math.Path.{refl, ap, ap₂, subst}
use Rattle.std.proofs.Common.{sym, ◌∙◌, arith, suc-mul, eqb-true, ne_eqb}
use Rattle.std.proofs.Math.Bool.{or-true, and-true, and-false}
use Rattle.controller.specs.declared.Controller.{Controller}
use Rattle.controller.specs.declared.Update.TheVariants.{Retrace, Override, Interleaved}
use Rattle.controller.specs.State.{overrides, update_of}
use Rattle.controller.specs.StateLaws.{Ruled, ruled_whole}
use Rattle.controller.specs.Address.{wrap, bank_of, row_of, column_of}
use Rattle.controller.specs.Calls.{Call, SetTopOfFrame, Pan, SetMode, Video, HorizontalSync, VerticalSync, Fetch, mode_allowed, allows, against, effect, after, fetch_call}
use Rattle.controller.specs.CallLaws.{number_accepted, number_against, after_done, refused_keeps}
use Rattle.controller.specs.Session.{session, times}
use Rattle.controller.proofs.SessionLaws.{after_holds, session_append, after_ruled, session_ruled}
use Rattle.controller.specs.Frame.{line, lines, Gap, end, sync, off, again, top, pan, mode, refused, Answers}

-- ---- one call

-- the counter is at an address, and the Offset is o; video, the inhibition and override as given
pub record Is (o address : ℕ) (video inhibited override : Bool) (s : Controller) : Type 0 where
  pub counter : s.counter ≡ address
  pub offset : s.offset ≡ o
  pub lit : s.video ≡ video
  pub held : s.inhibited ≡ inhibited
  pub over : overrides s.update ≡ override

-- 1 is override, and no other number that a mode takes
override_one : (u : ℕ) → overrides (update_of u) ≡ (u == 1)
override_one u = go (u == 0) refl (u == 1) refl
  where
    go : (a : Bool) → (u == 0) ≡ a → (b : Bool) → (u == 1) ≡ b → overrides (cond a Retrace (cond b Override Interleaved)) ≡ b
    go true p true q = let z = eqb-true u 0 p in let w = eqb-true u 1 q in absurd (omega arith)
    go true p false q = refl
    go false p true q = refl
    go false p false q = refl

module _ {o a : ℕ} {v i p : Bool} (s : Controller) (r : Ruled s) (h : Is o a v i p s) where
  -- what an accepted call makes of the state is what stands after it
  made : {b : ℕ} {w j q : Bool} (c : Call) → allows c s ≡ true → Is o b w j q (effect c s) → Is o b w j q (after c s)
  made {b} {w} {j} {q} c e f = subst (Is o b w j q) (sym (after_done c s (record { rule = r; allowed = e }))) f

  pub vertical_is : Is o s.top v true p (after VerticalSync s)
  unfolding allows effect
  vertical_is = made VerticalSync refl (record { counter = refl; offset = h.offset; lit = h.lit; held = refl; over = h.over })

  off_is : Is o a false i p (after (Video 0) s)
  unfolding allows effect
  off_is =
      made (Video 0) refl
      (record {
        counter = h.counter;
        offset = h.offset;
        lit = refl;
        held = rw (or-true s.video, and-true s.inhibited) h.held;
        over = h.over;
      })

  -- a setting of Top of Frame, refused or not
  top_is : (address : ℕ) → Is o a v i p (after (SetTopOfFrame address) s)
  unfolding effect
  top_is address =
      after_holds (Is o a v i p) (SetTopOfFrame address) s h
      (λ z. record { counter = h.counter; offset = h.offset; lit = h.lit; held = h.held; over = h.over })

  pan_is : (words : ℤ) → Is o a v i p (after (Pan words) s)
  unfolding effect
  pan_is words =
      after_holds (Is o a v i p) (Pan words) s h
      (λ z. record { counter = h.counter; offset = h.offset; lit = h.lit; held = h.held; over = h.over })

  mode_is : (c g u : ℕ) → mode_allowed c g u ≡ true → Is o a v i (u == 1) (after (SetMode c g u) s)
  unfolding allows effect
  mode_is c g u e =
      made (SetMode c g u) e (record { counter = h.counter; offset = h.offset; lit = h.lit; held = h.held; over = override_one u })

  refused_is : (c g u : ℕ) → mode_allowed c g u ≡ false → Is o a v i p (after (SetMode c g u) s)
  unfolding allows against
  refused_is c g u e =
      subst (Is o a v i p)
      (sym (refused_keeps (SetMode c g u) s (λ z. let n = number_against (SetMode c g u) s (ruled_whole s r) e in absurd (omega arith)))) h

module _ {o a : ℕ} (s : Controller) (r : Ruled s) where
  -- video goes from off to on
  pub on_is : {i p : Bool} → Is o a false i p s → Is o a true false p (after (Video 1) s)
  unfolding allows effect
  on_is h =
      made s r h (Video 1) refl
      (record { counter = h.counter; offset = h.offset; lit = refl; held = rw h.lit (and-false s.inhibited); over = h.over })

  -- video set on where it is on
  again_is : {i p : Bool} (value : ℕ) → value ≢ 0 → Is o a true i p s → Is o a true i p (after (Video value) s)
  unfolding allows effect
  again_is value n h =
      made s r h (Video value) refl
      (rw (ne_eqb value 0 n)
      (record { counter = h.counter; offset = h.offset; lit = refl; held = rw (h.lit, and-true s.inhibited) h.held; over = h.over }))

  sync_is : {v : Bool} → Is o a v false false s → Is o (wrap (a + o)) v false false (after HorizontalSync s)
  unfolding allows effect
  sync_is h =
      made s r h HorizontalSync refl
      (rw (h.held, h.over)
      (record {
        counter = ap₂ (λ (m n : ℕ). wrap (m + n)) h.counter h.offset;
        offset = h.offset;
        lit = h.lit;
        held = refl;
        over = h.over;
      }))

  sync_held : {v p : Bool} → Is o a v true p s → Is o a v true p (after HorizontalSync s)
  unfolding allows effect
  sync_held h =
      made s r h HorizontalSync refl
      (rw h.held (record { counter = h.counter; offset = h.offset; lit = h.lit; held = refl; over = h.over }))

  fetch_allowed : {i : Bool} → Is o a true i false s → allows Fetch s ≡ true
  unfolding allows
  fetch_allowed h = rw (h.lit, h.over)

  fetch_is : {i : Bool} → Is o a true i false s → Is o (wrap (a + 1)) true i false (after Fetch s)
  unfolding effect
  fetch_is h =
      made s r h Fetch (fetch_allowed h)
      (record { counter = ap (λ (n : ℕ). wrap (n + 1)) h.counter; offset = h.offset; lit = h.lit; held = h.held; over = h.over })

  pub fetch_answers : {i : Bool} → Is o a true i false s → Answers (fetch_call s) a
  fetch_answers h =
      rw (number_accepted Fetch s (record { rule = r; allowed = fetch_allowed h }))
      (record { done = refl; bank = ap bank_of h.counter; row = ap row_of h.counter; column = ap column_of h.counter })

-- ---- a gap: the counter and the inhibition stay

pub gap_is : {o a : ℕ} {v p v' p' : Bool} {gap : List Call} → Gap v p gap v' p' → (s : Controller) → Ruled s → Is o a v true p s
    → Is o a v' true p' (session gap s)
gap_is end s r h = h
gap_is (sync g) s r h = gap_is g (after HorizontalSync s) (after_ruled HorizontalSync s r) (sync_held s r h)
gap_is (off g) s r h = gap_is g (after (Video 0) s) (after_ruled (Video 0) s r) (off_is s r h)
gap_is (again n z g) s r h = gap_is g (after (Video n) s) (after_ruled (Video n) s r) (again_is s r n z h)
gap_is (top n g) s r h = gap_is g (after (SetTopOfFrame n) s) (after_ruled (SetTopOfFrame n) s r) (top_is s r h n)
gap_is (pan n g) s r h = gap_is g (after (Pan n) s) (after_ruled (Pan n) s r) (pan_is s r h n)
gap_is (mode c d u e g) s r h = gap_is g (after (SetMode c d u) s) (after_ruled (SetMode c d u) s r) (mode_is s r h c d u e)
gap_is (refused c d u e g) s r h = gap_is g (after (SetMode c d u) s) (after_ruled (SetMode c d u) s r) (refused_is s r h c d u e)

-- ---- words and lines

-- words are shown from this address on: video on, nothing inhibited, not in override
abbrev pub Shows : ℕ → ℕ → Controller → Type 0
Shows o a = Is o a true false false

-- the address said in another way
moved : {o a b : ℕ} {s : Controller} → a ≡ b → Shows o a s → Shows o b s
moved e h = record { counter = h.counter ∙ e; offset = h.offset; lit = h.lit; held = h.held; over = h.over }

pub fetches_show : {o a : ℕ} (k : ℕ) (s : Controller) → Ruled s → Shows o a s → Shows o (wrap (a + k)) (session (times k Fetch) s)
fetches_show {o} {a} zero s r h = let e : a ≡ wrap (a + 0) = omega (arith, r.counter, h.counter) in moved e h
fetches_show {o} {a} (suc k) s r h =
    let e : wrap (wrap (a + 1) + k) ≡ wrap (a + suc k) = omega arith in
    moved e (fetches_show {o = o} {a = wrap (a + 1)} k (after Fetch s) (after_ruled Fetch s r) (fetch_is s r h))

line_shows : {o a : ℕ} (w : ℕ) (s : Controller) → Ruled s → Shows o a s → Shows o (wrap (a + (w + o))) (session (line w) s)
line_shows {o} {a} w s r h =
    let t = session (times w Fetch) s in
    let q = session_ruled (times w Fetch) s r in
    let d = after_ruled (Video 0) t q in
    let e : wrap (wrap (a + w) + o) ≡ wrap (a + (w + o)) = omega arith in
    rw (session_append (times w Fetch) (Video 0 ∷ HorizontalSync ∷ Video 1 ∷ []) s)
    (moved e (on_is (after HorizontalSync (after (Video 0) t)) (after_ruled HorizontalSync (after (Video 0) t) d)
    (sync_is (after (Video 0) t) d (off_is t q (fetches_show w s r h)))))

pub lines_show : {o a : ℕ} (l w : ℕ) (s : Controller) → Ruled s → Shows o a s → Shows o (wrap (a + l * (w + o))) (session (lines l w) s)
lines_show {o} {a} zero w s r h = let e : a ≡ wrap (a + 0 * (w + o)) = omega (arith, r.counter, h.counter) in moved e h
lines_show {o} {a} (suc l) w s r h =
    let e : wrap (wrap (a + (w + o)) + l * (w + o)) ≡ wrap (a + suc l * (w + o)) = omega (arith, suc-mul l (w + o)) in
    rw (session_append (line w) (lines l w) s)
    (moved e (lines_show {o = o} {a = wrap (a + (w + o))} l w (session (line w) s) (session_ruled (line w) s r) (line_shows w s r h)))
