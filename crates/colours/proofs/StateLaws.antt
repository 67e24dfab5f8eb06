-- The state's rule is kept by every call, and what each call leaves of the low part and of the pipe. Assumes nothing.
use Rattle.std.specs.Prelude.{◌≡◌, true, ◌&&◌, List, ℕ, length, Option}
use Rattle.std.proofs.Math.Path.{refl}
use Rattle.numbers.specs.Between.{both}
use Rattle.numbers.specs.RefuseLaws.{leaves_holds}
use Rattle.colours.specs.declared.Colours.{Colours}
use Rattle.std.specs.Prelude.Option.{None, Some}
use Rattle.colours.specs.declared.Inputs.{Inputs}
use Rattle.colours.specs.Table.{word_at}
use Rattle.colours.specs.OutputLaws.{asks_ok}
use Rattle.colours.specs.State.{fresh, with_waiting, moved, pipe, steps_ok, ruled}
use Rattle.colours.specs.Calls.{write_refusal, low_refusal, high_refusal, pixel_refusal, write_call, write_low_call, write_high_call, asks_at, pixel_call}

-- ---- the rule

-- no output on its way has a step over 15
pub record Ruled (s : Colours) : Type 0 where
  pub first : steps_ok s.first ≡ true
  pub second : steps_ok s.second ≡ true
  pub third : steps_ok s.third ≡ true

pub ruled_parts : (s : Colours) → ruled s ≡ true → Ruled s
unfolding ruled
ruled_parts s e =
    let f = both (steps_ok s.first && steps_ok s.second) (steps_ok s.third) e in
    let g = both (steps_ok s.first) (steps_ok s.second) f.0 in
    record { first = g.0; second = g.1; third = f.1 }

pub ruled_whole : (s : Colours) → Ruled s → ruled s ≡ true
unfolding ruled
ruled_whole s r = rw (r.first, r.second, r.third)

pub fresh_ruled : ruled fresh ≡ true
unfolding ruled
fresh_ruled = refl

-- the rule asks nothing of the low part
pub waiting_ruled : (s : Colours) (w : Option ℕ) → ruled (with_waiting s w) ≡ ruled s
unfolding ruled
waiting_ruled s w = refl

-- what is asked for enters a pipe that the rules allow
pub moved_ruled : (s : Colours) (t : List ℕ) (i : Inputs) → ruled s ≡ true → ruled (moved s (asks_at t i)) ≡ true
moved_ruled s t i e =
    let p = ruled_parts s e in
    ruled_whole (moved s (asks_at t i)) (record { first = p.second; second = p.third; third = asks_ok i (word_at t i.address) })

pub low_ruled : (s : Colours) (low : ℕ) → ruled s ≡ true → ruled (write_low_call s low).state ≡ true
unfolding write_low_call
low_ruled s low r =
    leaves_holds (λ (x : Colours). ruled x ≡ true) (low_refusal s) s (with_waiting s (Some low)) r (rw (waiting_ruled s (Some low)) r)

module _ (s : Colours) (t : List ℕ) (r : ruled s ≡ true) where
  pub write_ruled : (address value : ℕ) → ruled (write_call s t address value).answer.state ≡ true
  unfolding write_call
  write_ruled address value =
      leaves_holds (λ (x : Colours). ruled x ≡ true) (write_refusal s (length t) address value) s (with_waiting s None) r (rw (waiting_ruled s None) r)

  pub high_ruled : (address high : ℕ) → ruled (write_high_call s t address high).answer.state ≡ true
  unfolding write_high_call
  high_ruled address high =
      leaves_holds (λ (x : Colours). ruled x ≡ true) (high_refusal s (length t) address) s (with_waiting s None) r (rw (waiting_ruled s None) r)

  pub pixel_ruled : (i : Inputs) → ruled (pixel_call s t i).state ≡ true
  unfolding pixel_call
  pixel_ruled i =
      leaves_holds (λ (x : Colours). ruled x ≡ true) (pixel_refusal s (length t) i.address) s (moved s (asks_at t i)) r (moved_ruled s t i r)

-- ---- a write moves nothing in the pipe, and a pixel leaves the low part

pub low_pipe : (s : Colours) (low : ℕ) → pipe (write_low_call s low).state ≡ pipe s
unfolding write_low_call
low_pipe s low = leaves_holds (λ (x : Colours). pipe x ≡ pipe s) (low_refusal s) s (with_waiting s (Some low)) refl refl

module _ (s : Colours) (t : List ℕ) where
  pub write_pipe : (address value : ℕ) → pipe (write_call s t address value).answer.state ≡ pipe s
  unfolding write_call
  write_pipe address value =
      leaves_holds (λ (x : Colours). pipe x ≡ pipe s) (write_refusal s (length t) address value) s (with_waiting s None) refl refl

  pub high_pipe : (address high : ℕ) → pipe (write_high_call s t address high).answer.state ≡ pipe s
  unfolding write_high_call
  high_pipe address high =
      leaves_holds (λ (x : Colours). pipe x ≡ pipe s) (high_refusal s (length t) address) s (with_waiting s None) refl refl

  pub pixel_waiting : (i : Inputs) → (pixel_call s t i).state.waiting ≡ s.waiting
  unfolding pixel_call
  pixel_waiting i =
      leaves_holds (λ (x : Colours). x.waiting ≡ s.waiting) (pixel_refusal s (length t) i.address) s (moved s (asks_at t i)) refl refl
