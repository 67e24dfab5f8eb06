-- Calls in a row from C leave and answer what those of `colours` do. Assumes nothing.
use Rattle.std.specs.Prelude.{ℕ, ◌≡◌, refl, Bool, true, false, cond, List, [], ◌∷◌, map, eqb}
use Rattle.std.proofs.Common.{ap, ◌∙◌}
use Rattle.colours.specs.declared.Colours.{Colours}
use Rattle.colours.specs.State.{ruled}
use Rattle.colours.specs.Calls.{write_call, write_low_call, write_high_call, pixel_call}
use Rattle.colours.specs.Session.{Board, after, session, Passed, came, passing, passed}
use Rattle.colours.proofs.SessionLaws.{after_ruled}
use Rattle.colours_c.specs.declared.HeldInputs.{HeldInputs}
use Rattle.colours_c.specs.declared.HeldLevels.{HeldLevels}
use Rattle.colours_c.specs.declared.Emitted.{Emitted}
use Rattle.colours_c.specs.Levels.{handed_output}
use Rattle.colours_c.specs.State.{lawful, handed, taken_inputs}
use Rattle.colours_c.specs.Calls.{handed_on, held_excluded, held_low, Outcome, outcome, handed_outcome, held_write, held_high, handed_on_pixel, pixel_refused, held_pixel}
use Rattle.colours_c.specs.CallLaws.{taking_handed}
use Rattle.colours_c.specs.Session.{HeldBoard, held_board, handed_board, HeldEvent, HeldWrite, HeldLow, HeldHigh, HeldPixel, HeldLend, held_after, held_session, held_passing, held_came, below}

-- ---- one call on a state that was handed to C

module _ (s : Colours) (t : List ℕ) (r : ruled s ≡ true) where
  pub held_write_is : (address value : ℕ) → held_write (handed s) t address value ≡ handed_outcome (write_call s t address value)
  unfolding held_write
  held_write_is address value =
      taking_handed (λ x. handed_outcome (write_call x t address value)) (outcome (held_excluded (handed s)) t) s r

  pub held_high_is : (address high : ℕ) → held_high (handed s) t address high ≡ handed_outcome (write_high_call s t address high)
  unfolding held_high
  held_high_is address high =
      taking_handed (λ x. handed_outcome (write_high_call x t address high)) (outcome (held_excluded (handed s)) t) s r

  pub held_low_is : (low : ℕ) → held_low (handed s) low ≡ handed_on (write_low_call s low)
  unfolding held_low
  held_low_is low = taking_handed (λ x. handed_on (write_low_call x low)) (held_excluded (handed s)) s r

  pub held_pixel_is : (p : HeldInputs) → held_pixel (handed s) t p ≡ handed_on_pixel (pixel_call s t (taken_inputs p))
  unfolding held_pixel
  held_pixel_is p = taking_handed (λ x. handed_on_pixel (pixel_call x t (taken_inputs p))) (pixel_refused 1 (handed s)) s r

-- ---- calls in a row

pub held_after_is : (e : HeldEvent) (b : Board) → ruled b.state ≡ true → held_after e (handed_board b) ≡ handed_board (after (below e) b)
held_after_is (HeldWrite address value) b r =
    ap (λ (o : Outcome). held_board o.answer.state o.table) (held_write_is b.state b.table r address value)
held_after_is (HeldLow low) b r = ap (λ x. held_board x.state b.table) (held_low_is b.state b.table r low)
held_after_is (HeldHigh address high) b r =
    ap (λ (o : Outcome). held_board o.answer.state o.table) (held_high_is b.state b.table r address high)
held_after_is (HeldPixel p) b r = ap (λ x. held_board x.state b.table) (held_pixel_is b.state b.table r p)
held_after_is (HeldLend t) b r = refl

pub held_session_is : (es : List HeldEvent) (b : Board) → ruled b.state ≡ true
    → held_session es (handed_board b) ≡ handed_board (session (map below es) b)
held_session_is [] b r = refl
held_session_is (e ∷ es) b r =
    ap (held_session es) (held_after_is e b r) ∙ held_session_is es (after (below e) b) (after_ruled (below e) b r)

-- the levels of what came out
abbrev pub levels_came : Passed → HeldLevels
levels_came p = handed_output (came p)

held_passing_is : (e : HeldEvent) (b : Board) → ruled b.state ≡ true → (ps : List Passed)
    → held_passing e (handed_board b) (map levels_came ps) ≡ map levels_came (passing (below e) b ps)
held_passing_is (HeldWrite address value) b r ps = refl
held_passing_is (HeldLow low) b r ps = refl
held_passing_is (HeldHigh address high) b r ps = refl
held_passing_is (HeldPixel p) b r ps =
    let i = taken_inputs p in
    let out = pixel_call b.state b.table i in
    ap (λ (x : Emitted). cond (eqb x.number 0) (x.levels ∷ map levels_came ps) (map levels_came ps)) (held_pixel_is b.state b.table r p)
    ∙ go (eqb out.number 0) (record { inputs = i; table = b.table; output = out.output })
  where
    go : (t : Bool) (q : Passed)
        → cond t (levels_came q ∷ map levels_came ps) (map levels_came ps) ≡ map levels_came (cond t (q ∷ ps) ps)
    go true q = refl
    go false q = refl
held_passing_is (HeldLend t) b r ps = refl

-- and accepted pixels answer the levels of what came out below
pub held_came_is : (es : List HeldEvent) (b : Board) → ruled b.state ≡ true
    → held_came es (handed_board b) ≡ map levels_came (passed (map below es) b)
held_came_is [] b r = refl
held_came_is (e ∷ es) b r =
    let next = after (below e) b in
    ap (held_passing e (handed_board b))
    (ap (held_came es) (held_after_is e b r) ∙ held_came_is es next (after_ruled (below e) b r))
    ∙ held_passing_is e b r (passed (map below es) next)

-- ---- a state that is not lawful stays as it is, whatever is called

after_excluded : (e : HeldEvent) (b : HeldBoard) → lawful b.state ≡ false → (held_after e b).state ≡ b.state
unfolding held_write held_low held_high held_pixel
after_excluded (HeldWrite address value) b n = rw n
after_excluded (HeldLow low) b n = rw n
after_excluded (HeldHigh address high) b n = rw n
after_excluded (HeldPixel p) b n = rw n
after_excluded (HeldLend t) b n = refl

pub held_excluded_keeps : (es : List HeldEvent) (b : HeldBoard) → lawful b.state ≡ false → (held_session es b).state ≡ b.state
held_excluded_keeps [] b n = refl
held_excluded_keeps (e ∷ es) b n =
    let same = after_excluded e b n in held_excluded_keeps es (held_after e b) (ap lawful same ∙ n) ∙ same
