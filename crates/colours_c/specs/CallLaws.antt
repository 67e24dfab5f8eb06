-- The ways out of a call that takes the state from C; 1 is given exactly where the state is not lawful; a refusal hands everything back
-- as it came. Assumes nothing.
use Rattle.std.specs.Prelude.{ℕ, ◌≡◌, refl, Bool, true, false, cond, List, eqb, ◌≢◌, Result, MatchResult}
use Rattle.std.specs.Prelude.Result.{Ok, Err}
use Rattle.std.proofs.Common.{sym, ap₂, ◌∙◌, true≢false}
use Rattle.std.specs.Result.{is_ok}
use Rattle.std.proofs.Math.Path.{ap}
use Rattle.numbers.specs.declared.Refusal.{Refusal}
use Rattle.numbers.specs.declared.Refusal.TheVariants.{StateExcluded}
use Rattle.numbers.specs.Refusal.{number_of, left_by}
use Rattle.colours.specs.declared.Colours.{Colours}
use Rattle.colours.specs.declared.Output.{Output}
use Rattle.colours.specs.Output.{zeros}
use Rattle.colours.specs.State.{moved, ruled}
use Rattle.colours.specs.Calls.{Coloured as Below, Outcome as OutcomeBelow, outcome as below, coloured_by, asked_for, Asked, emitted, ask_call, write_call, write_low_call, write_high_call, pixel_call}
use Rattle.colours.proofs.CallLaws.{write_refused, low_refused, high_refused, refused_pixel, emitted_by, pixel_by}
use Rattle.colours.proofs.NumberLaws.{write_not_1, high_not_1, pixel_not_1, low_0}
use Rattle.colours_c.specs.declared.Held.{Held}
use Rattle.colours_c.specs.declared.HeldInputs.{HeldInputs}
use Rattle.colours_c.specs.declared.HeldLevels.{HeldLevels}
use Rattle.colours_c.specs.declared.Coloured.{Coloured}
use Rattle.colours_c.specs.Levels.{handed_output}
use Rattle.colours_c.specs.State.{lawful, taken, handed, taken_inputs}
use Rattle.colours_c.specs.StateLaws.{handed_taken, taken_ruled, taken_handed, handed_lawful}
use Rattle.colours_c.specs.Calls.{taken_or_excluded, answered, held_asked, taking, handed_on, held_excluded, held_low, outcome, handed_outcome, held_write, held_high, handed_on_pixel, pixel_refused, held_pixel, held_moved, moved_on}

-- ---- the ways out

module _ {A : Type 0} (made : Colours → A) (excluded : A) where
  pub taking_excluded : (h : Held) → lawful h ≡ false → excluded ≡ taking h made excluded
  taking_excluded h e = rw e

  pub taking_done : (h : Held) → lawful h ≡ true → (s : Colours) → s ≡ taken h → (x : A) → x ≡ made s → x ≡ taking h made excluded
  taking_done h e s f x g = g ∙ ap made f ∙ sym (rw e)

  -- on a state that was handed to C it is the call below
  pub taking_handed : (s : Colours) → ruled s ≡ true → taking (handed s) made excluded ≡ made s
  taking_handed s r = rw (handed_lawful s r, taken_handed s r)

  pub taking_either : (P : A → Type 0) (h : Held) → (lawful h ≡ true → P (made (taken h))) → (lawful h ≡ false → P excluded)
      → P (taking h made excluded)
  taking_either P h f g = go (lawful h) refl
    where
      go : (b : Bool) → lawful h ≡ b → P (cond b (made (taken h)) excluded)
      go true e = f e
      go false e = g e

-- ---- an answer below is that of the export

answered_taken : (h : Held) → lawful h ≡ true → (x : Result Colours Refusal) → answered h x ≡ handed_on (coloured_by (taken h) x)
answered_taken h e (Ok s) = refl
answered_taken h e (Err refusal) = ap (λ (y : Held). record { state = y; number = number_of refusal }) (sym (handed_taken h e))

-- x answers a call on the state taken, where the rules allow it: P is what the call says of it
module _ (h : Held) (P : Colours → Type 0) (x : Result Colours Refusal)
    (a : MatchResult (taken_or_excluded h) P (λ refusal. x ≡ Err refusal)) where
  pub answered_by : (call : Colours → Below) → ((s : Colours) → P s → coloured_by s x ≡ call s)
      → answered h x ≡ taking h (λ s. handed_on (call s)) (held_excluded h)
  answered_by call f = go (lawful h) refl a
    where
      go : (b : Bool) → lawful h ≡ b → MatchResult (cond b (Ok (taken h)) (Err StateExcluded)) P (λ refusal. x ≡ Err refusal)
          → answered h x ≡ cond b (handed_on (call (taken h))) (held_excluded h)
      go true e p = answered_taken h e x ∙ ap handed_on (f (taken h) p)
      go false e q = ap (answered h) q

module _ (h : Held) (call : Colours → OutcomeBelow) (t : List ℕ) {r : Coloured} where
  pub written_ok : {s : Colours} (x : Result Colours Refusal) {t' : List ℕ} → taken_or_excluded h ≡ Ok s → r ≡ answered h x
      → below (coloured_by s x) t' ≡ call s → outcome r t' ≡ taking h (λ s. handed_outcome (call s)) (outcome (held_excluded h) t)
  written_ok {s} x {t'} e q f = go (lawful h) refl e
    where
      go : (b : Bool) → lawful h ≡ b → cond b (Ok (taken h)) (Err StateExcluded) ≡ Ok s
          → outcome r t' ≡ cond b (handed_outcome (call (taken h))) (outcome (held_excluded h) t)
      go true l e =
          let k : s ≡ taken h = sym (ap (left_by s) e) in
          ap (λ (y : Coloured). outcome y t') (q ∙ answered_taken h l x) ∙ ap handed_outcome (rw k at f)
      go false l e = absurd (true≢false (sym (ap is_ok e)))

  pub written_err : (refusal : Refusal) → taken_or_excluded h ≡ Err refusal → r ≡ answered h (Err refusal)
      → outcome r t ≡ taking h (λ s. handed_outcome (call s)) (outcome (held_excluded h) t)
  written_err refusal e q = go (lawful h) e
    where
      go : (b : Bool) → cond b (Ok (taken h)) (Err StateExcluded) ≡ Err refusal
          → outcome r t ≡ cond b (handed_outcome (call (taken h))) (outcome (held_excluded h) t)
      go true e = absurd (true≢false (ap is_ok e))
      go false e = ap (λ (y : Coloured). outcome y t) (q ∙ ap (answered h) (sym e))

-- ---- 1 where the state is not lawful, and only there

module _ (h : Held) (t : List ℕ) where
  pub held_write_1 : (address value : ℕ) → lawful h ≡ false → (held_write h t address value).answer.number ≡ 1
  unfolding held_write
  held_write_1 address value e = rw e

  pub held_high_1 : (address high : ℕ) → lawful h ≡ false → (held_high h t address high).answer.number ≡ 1
  unfolding held_high
  held_high_1 address high e = rw e

  pub held_low_1 : (low : ℕ) → lawful h ≡ false → (held_low h low).number ≡ 1
  unfolding held_low
  held_low_1 low e = rw e

  pub held_pixel_1 : (p : HeldInputs) → lawful h ≡ false → (held_pixel h t p).number ≡ 1
  unfolding held_pixel
  held_pixel_1 p e = rw e

  module _ (e : lawful h ≡ true) where
    pub held_write_not_1 : (address value : ℕ) → (held_write h t address value).answer.number ≢ 1
    unfolding held_write
    held_write_not_1 address value = rw e (write_not_1 (taken h) t address value (taken_ruled h e))

    pub held_high_not_1 : (address high : ℕ) → (held_high h t address high).answer.number ≢ 1
    unfolding held_high
    held_high_not_1 address high = rw e (high_not_1 (taken h) t address high (taken_ruled h e))

    pub held_low_0 : (low : ℕ) → (held_low h low).number ≡ 0
    unfolding held_low
    held_low_0 low = rw e (low_0 (taken h) low (taken_ruled h e))

    pub held_pixel_not_1 : (p : HeldInputs) → (held_pixel h t p).number ≢ 1
    unfolding held_pixel
    held_pixel_not_1 p = rw e (pixel_not_1 (taken h) t (taken_inputs p) (taken_ruled h e))

-- ---- a refusal hands everything back as it came, and answers zeros

-- the state as it came, with a number
abbrev kept : Held → ℕ → Coloured
kept h n = record { state = h; number = n }

module _ (h : Held) (t : List ℕ) where
  pub held_write_refused : (address value : ℕ) → (held_write h t address value).answer.number ≢ 0
      → held_write h t address value ≡ outcome (kept h (held_write h t address value).answer.number) t
  unfolding held_write
  held_write_refused address value =
      taking_either (λ s. handed_outcome (write_call s t address value)) (outcome (held_excluded h) t)
      (λ o. o.answer.number ≢ 0 → o ≡ outcome (kept h o.answer.number) t) h
      (λ e n. ap handed_outcome (write_refused (taken h) t address value n)
      ∙ ap (λ (x : Held). outcome (kept x (write_call (taken h) t address value).answer.number) t) (handed_taken h e))
      (λ e n. refl)

  pub held_high_refused : (address high : ℕ) → (held_high h t address high).answer.number ≢ 0
      → held_high h t address high ≡ outcome (kept h (held_high h t address high).answer.number) t
  unfolding held_high
  held_high_refused address high =
      taking_either (λ s. handed_outcome (write_high_call s t address high)) (outcome (held_excluded h) t)
      (λ o. o.answer.number ≢ 0 → o ≡ outcome (kept h o.answer.number) t) h
      (λ e n. ap handed_outcome (high_refused (taken h) t address high n)
      ∙ ap (λ (x : Held). outcome (kept x (write_high_call (taken h) t address high).answer.number) t) (handed_taken h e))
      (λ e n. refl)

  pub held_low_refused : (low : ℕ) → (held_low h low).number ≢ 0 → held_low h low ≡ kept h (held_low h low).number
  unfolding held_low
  held_low_refused low =
      taking_either (λ s. handed_on (write_low_call s low)) (held_excluded h) (λ r. r.number ≢ 0 → r ≡ kept h r.number) h
      (λ e n. ap handed_on (low_refused (taken h) low n)
      ∙ ap (λ (x : Held). kept x (write_low_call (taken h) low).number) (handed_taken h e))
      (λ e n. refl)

  pub held_pixel_refused : (p : HeldInputs) → (held_pixel h t p).number ≢ 0
      → held_pixel h t p ≡ pixel_refused (held_pixel h t p).number h
  unfolding held_pixel handed_output
  held_pixel_refused p =
      taking_either (λ s. handed_on_pixel (pixel_call s t (taken_inputs p))) (pixel_refused 1 h)
      (λ r. r.number ≢ 0 → r ≡ pixel_refused r.number h) h
      (λ e n. ap handed_on_pixel (refused_pixel (taken h) t (taken_inputs p) n)
      ∙ ap (pixel_refused (pixel_call (taken h) t (taken_inputs p)).number) (handed_taken h e))
      (λ e n. refl)

-- ---- a pixel with no state taken

-- the outputs on their way, taken, moved and handed back, move up as they are
handed_moved : (h : Held) → lawful h ≡ true → (o : Output) → handed (moved (taken h) o) ≡ held_moved h (handed_output o)
unfolding handed
handed_moved h e o = ap (λ (x : Held). held_moved x (handed_output o)) (handed_taken h e)

handed_first : (h : Held) → lawful h ≡ true → handed_output (taken h).first ≡ h.first
unfolding handed
handed_first h e = ap (λ (x : Held). x.first) (handed_taken h e)

moved_by : (h : Held) → lawful h ≡ true → (r : Asked) → moved_on h r ≡ handed_on_pixel (emitted_by (taken h) r)
unfolding handed_output
moved_by h e r = go (eqb r.number 0)
  where
    go : (b : Bool)
        → cond b (record { state = held_moved h (handed_output r.output); levels = h.first; number = r.number }) (pixel_refused r.number h)
        ≡ handed_on_pixel (emitted r.number (cond b (moved (taken h) r.output) (taken h)) (cond b (taken h).first zeros))
    go true =
        ap₂ (λ (x : Held) (l : HeldLevels). record { state = x; levels = l; number = r.number })
        (sym (handed_moved h e r.output)) (sym (handed_first h e))
    go false = ap (pixel_refused r.number) (sym (handed_taken h e))

pub moved_on_is : (h : Held) (t : List ℕ) (p : HeldInputs) → lawful h ≡ true → {r : Asked} → r ≡ ask_call t (taken_inputs p)
    → moved_on h r ≡ held_pixel h t p
unfolding held_pixel
moved_on_is h t p e f =
    ap (moved_on h) f
    ∙ moved_by h e (ask_call t (taken_inputs p))
    ∙ rw e (ap handed_on_pixel (sym (pixel_by (taken h) t (taken_inputs p) (taken_ruled h e))))

-- an excluded state too
pub moved_asked : (h : Held) (t : List ℕ) (p : HeldInputs) → moved_on h (held_asked h t p) ≡ held_pixel h t p
unfolding held_pixel
moved_asked h t p = go (lawful h) refl
  where
    go : (b : Bool) → lawful h ≡ b
        → moved_on h (cond b (ask_call t (taken_inputs p)) (asked_for 1 zeros))
        ≡ cond b (handed_on_pixel (pixel_call (taken h) t (taken_inputs p))) (pixel_refused 1 h)
    go true e = moved_by h e (ask_call t (taken_inputs p)) ∙ ap handed_on_pixel (sym (pixel_by (taken h) t (taken_inputs p) (taken_ruled h e)))
    go false e = refl
