-- The two ways to write agree. Assumes nothing.
use Rattle.std.specs.Prelude.{◌≡◌, refl, Bool, true, false, List, ℕ, ◌%◌, ◌≤◌, ◌<◌, length, Option}
use Rattle.std.proofs.Common.{sym, ap, ◌∙◌, arith}
use Rattle.colours.specs.declared.Colours.{Colours}
use Rattle.std.specs.Prelude.Option.{None, Some}
use Rattle.colours.specs.Table.{low_of, high_of, joined}
use Rattle.colours.specs.State.{with_waiting, waits, ruled}
use Rattle.colours.specs.Calls.{Coloured, low_refusal, Outcome, write_call, write_low_call, write_high_call}
use Rattle.colours.proofs.CallLaws.{Reached, Ready, write_makes, low_makes, high_makes}
use Rattle.colours.proofs.NumberLaws.{high_22}
use Rattle.colours.proofs.StateLaws.{waiting_ruled}

-- ---- a word and its two parts

pub parts_joined : (value : ℕ) → value ≤ 8191 → joined (low_of value) (high_of value) ≡ value
parts_joined value h = omega arith

pub joined_small : (low high : ℕ) → low < 256 → joined low high ≤ 8191
joined_small low high h = omega arith

-- ---- the low part, then the high part

-- a state in which another low part waits is as ready
ready_waiting : (s : Colours) (words address : ℕ) (w : Option ℕ) → Ready s words address → Ready (with_waiting s w) words address
ready_waiting s words address w r = record { rule = waiting_ruled s w ∙ r.rule; reached = r.reached }

module _ (s : Colours) (t : List ℕ) (address : ℕ) (r : Ready s (length t) address) where
  -- low then high at an allowed address leaves what the 16-bit write of the two together leaves: answer, state and table
  pub parts_agree : (low high : ℕ) → low < 256
      → write_high_call (write_low_call s low).state t address high ≡ write_call s t address (joined low high)
  parts_agree low high h =
      ap (λ (x : Coloured). write_high_call x.state t address high) (low_makes s low r.rule)
      ∙ high_makes (with_waiting s (Some low)) t address high (ready_waiting s (length t) address (Some low) r) refl
      ∙ sym (write_makes s t address (joined low high) r (joined_small low high h))

  -- and every 16-bit write can be made so
  pub write_in_parts : (value : ℕ) → value ≤ 8191
      → write_high_call (write_low_call s (low_of value)).state t address (high_of value) ≡ write_call s t address value
  write_in_parts value h =
      parts_agree (low_of value) (high_of value) (omega arith) ∙ ap (write_call s t address) (parts_joined value h)

  -- a 16-bit write drops the part that waits, a high part uses it up: one high part more is refused, with 22
  none_waiting : (t' : List ℕ) (address' high : ℕ) → Reached (length t') address'
      → (write_high_call (with_waiting s None) t' address' high).answer.number ≡ 22
  none_waiting t' address' high g =
      high_22 (with_waiting s None) t' address' high (waiting_ruled s None ∙ r.rule) g.table g.within refl

  pub high_after_write : (value : ℕ) → value ≤ 8191 → (t' : List ℕ) (address' high : ℕ) → Reached (length t') address'
      → (write_high_call (write_call s t address value).answer.state t' address' high).answer.number ≡ 22
  high_after_write value h t' address' high g =
      ap (λ (o : Outcome). (write_high_call o.answer.state t' address' high).answer.number) (write_makes s t address value r h)
      ∙ none_waiting t' address' high g

  pub high_after_high : (high : ℕ) → waits s.waiting ≡ true → (t' : List ℕ) (address' high' : ℕ) → Reached (length t') address'
      → (write_high_call (write_high_call s t address high).answer.state t' address' high').answer.number ≡ 22
  high_after_high high w t' address' high' g =
      ap (λ (o : Outcome). (write_high_call o.answer.state t' address' high').answer.number) (high_makes s t address high r w)
      ∙ none_waiting t' address' high' g

-- bits 5 to 7 of the high part are ignored
pub high_bits_ignored : (s : Colours) (t : List ℕ) (address high : ℕ) → write_high_call s t address (high % 32) ≡ write_high_call s t address high
unfolding write_high_call
high_bits_ignored s t address high = let e : high % 32 % 32 ≡ high % 32 = omega arith in rw e

-- a new low part replaces the one that waits: as if there had been none
pub low_replaces : (s : Colours) (low low' : ℕ) → write_low_call (write_low_call s low).state low' ≡ write_low_call s low'
unfolding write_low_call low_refusal
low_replaces s low low' = go (ruled s) refl
  where
    go : (b : Bool) → ruled s ≡ b → write_low_call (write_low_call s low).state low' ≡ write_low_call s low'
    go true e = rw (e, waiting_ruled s (Some low), e)
    go false e = rw (e, e)
