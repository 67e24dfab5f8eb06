-- Which calls are accepted, and the two ways out: a call is refused and changes nothing, or is done. Assumes nothing.
use Rattle.std.specs.Prelude.{◌≡◌, refl, Bool, false, ◌&&◌, cond, List, ◌≢◌, ℕ, ◌≤◌, eqb, length, set}
use Rattle.std.proofs.Common.{leb-true, ne_eqb, le-leb}
use Rattle.std.proofs.Math.Path.{ap}
use Rattle.std.proofs.Math.Bool.{true}
use Rattle.std.proofs.Math.Dec.{leb}
use Rattle.numbers.specs.Between.{both}
use Rattle.numbers.specs.Refuse.{leaves}
use Rattle.numbers.specs.RefuseLaws.{refuse_zero}
use Rattle.colours.specs.declared.Colours.{Colours}
use Rattle.std.specs.Prelude.Option.{None, Some}
use Rattle.colours.specs.declared.Inputs.{Inputs}
use Rattle.colours.specs.declared.Word.{Word}
use Rattle.colours.specs.Table.{word_at, low_of, high_of, joined}
use Rattle.colours.specs.Output.{zeros}
use Rattle.colours.specs.State.{with_waiting, moved, waits, low_waiting, ruled}
use Rattle.colours.specs.Calls.{Asked, Emitted, table_refusal, write_refusal, low_refusal, high_refusal, read_refusal, pixel_refusal, coloured, outcome, written, write_call, write_low_call, write_high_call, worded, byted, read_call, read_low_call, read_high_call, emitted, asks_at, pixel_call, state_refusal, asked_for, ask_call}
use Rattle.colours.proofs.NumberLaws.{table_0, table_zero, low_accepted}

-- ---- which calls are accepted: these, and every one of them

-- a table of 64 words, and an address in it
pub record Reached (words address : ℕ) : Type 0 where
  pub table : words ≡ 64
  pub within : address ≤ 63

pub read_zero : (words address : ℕ) → read_refusal words address ≡ 0 → Reached words address
unfolding read_refusal
read_zero words address e =
    let f = table_zero words (leb address 63) true e in record { table = f.0; within = leb-true address 63 f.1 }

pub read_accepted : (words address : ℕ) → Reached words address → read_refusal words address ≡ 0
unfolding read_refusal
read_accepted words address r = table_0 words (leb address 63) true r.table (le-leb address 63 r.within) refl

-- the same with a state that the rules allow
pub record Ready (s : Colours) (words address : ℕ) : Type 0 where
  pub rule : ruled s ≡ true
  pub reached : Reached words address

module _ (s : Colours) (words address : ℕ) where
  pub write_zero : (value : ℕ) → write_refusal s words address value ≡ 0 → Ready s words address × (value ≤ 8191)
  unfolding write_refusal
  write_zero value e =
      let f = refuse_zero (ruled s) 0 (table_refusal words (leb address 63 && leb value 8191) true) e in
      let g = table_zero words (leb address 63 && leb value 8191) true f.1 in
      let h = both (leb address 63) (leb value 8191) g.1 in (
        record { rule = f.0; reached = record { table = g.0; within = leb-true address 63 h.0 } },
        leb-true value 8191 h.1,
      )

  pub write_accepted : (value : ℕ) → Ready s words address → value ≤ 8191 → write_refusal s words address value ≡ 0
  unfolding write_refusal
  write_accepted value r v = rw (r.rule, r.reached.table, le-leb address 63 r.reached.within, le-leb value 8191 v)

  pub high_zero : high_refusal s words address ≡ 0 → Ready s words address × (waits s.waiting ≡ true)
  unfolding high_refusal
  high_zero e =
      let f = refuse_zero (ruled s) 0 (table_refusal words (leb address 63) (waits s.waiting)) e in
      let g = table_zero words (leb address 63) (waits s.waiting) f.1 in (
        record { rule = f.0; reached = record { table = g.0; within = leb-true address 63 g.1 } },
        g.2,
      )

  pub high_accepted : Ready s words address → waits s.waiting ≡ true → high_refusal s words address ≡ 0
  unfolding high_refusal
  high_accepted r w = rw (r.rule, r.reached.table, le-leb address 63 r.reached.within, w)

  pub pixel_zero : pixel_refusal s words address ≡ 0 → Ready s words address
  unfolding pixel_refusal
  pixel_zero e =
      let f = refuse_zero (ruled s) 0 (read_refusal words address) e in
      record { rule = f.0; reached = read_zero words address f.1 }

  pub pixel_accepted : Ready s words address → pixel_refusal s words address ≡ 0
  unfolding pixel_refusal
  pixel_accepted r = rw r.rule (read_accepted words address r.reached)

-- ---- the two ways out of a call, for a number n that is the definition's, k

module _ (s : Colours) (t : List ℕ) (n k : ℕ) (s' : Colours) (t' : List ℕ) (e : n ≡ k) where
  pub written_refused : n ≢ 0 → outcome (coloured n s) t ≡ written k s t s' t'
  written_refused h = rw (← e, ne_eqb n 0 h)

  pub written_done : {u : Colours} {v : List ℕ} → n ≡ 0 → u ≡ s' → v ≡ t' → outcome (coloured 0 u) v ≡ written k s t s' t'
  written_done z f g = rw (← e, z, f, g)

-- a pixel's number is the state's, and then that of what it asks for
pub pixel_number : (s : Colours) (t : List ℕ) (i : Inputs) → state_refusal s (ask_call t i).number ≡ pixel_refusal s (length t) i.address
unfolding ask_call pixel_refusal
pixel_number s t i = refl

-- and where nothing is refused that is what enters
pub ask_zero : (s : Colours) (t : List ℕ) (i : Inputs) → pixel_refusal s (length t) i.address ≡ 0 → (ask_call t i).output ≡ asks_at t i
unfolding ask_call
ask_zero s t i z = rw (read_accepted (length t) i.address (pixel_zero s (length t) i.address z).reached)

module _ (s : Colours) (t : List ℕ) (i : Inputs) (n : ℕ) (e : n ≡ pixel_refusal s (length t) i.address) where
  pub emitted_refused : n ≢ 0 → emitted n s zeros ≡ pixel_call s t i
  unfolding pixel_call
  emitted_refused h = rw (← e, ne_eqb n 0 h)

  pub emitted_done : {u : Colours} → n ≡ 0 → u ≡ moved s (asks_at t i) → emitted 0 u s.first ≡ pixel_call s t i
  unfolding pixel_call
  emitted_done z f = rw (← e, z, f)

-- ---- a refusal changes nothing, and answers zeros

pub low_refused : (s : Colours) (low : ℕ) → (write_low_call s low).number ≢ 0 → write_low_call s low ≡ coloured (write_low_call s low).number s
unfolding write_low_call
low_refused s low h = rw (ne_eqb (low_refusal s) 0 h)

module _ (s : Colours) (t : List ℕ) where
  pub write_refused : (address value : ℕ) → (write_call s t address value).answer.number ≢ 0
      → write_call s t address value ≡ outcome (coloured (write_call s t address value).answer.number s) t
  unfolding write_call
  write_refused address value h = rw (ne_eqb (write_refusal s (length t) address value) 0 h)

  pub high_refused : (address high : ℕ) → (write_high_call s t address high).answer.number ≢ 0
      → write_high_call s t address high ≡ outcome (coloured (write_high_call s t address high).answer.number s) t
  unfolding write_high_call
  high_refused address high h = rw (ne_eqb (high_refusal s (length t) address) 0 h)

  pub refused_pixel : (i : Inputs) → (pixel_call s t i).number ≢ 0 → pixel_call s t i ≡ emitted (pixel_call s t i).number s zeros
  unfolding pixel_call
  refused_pixel i h = rw (ne_eqb (pixel_refusal s (length t) i.address) 0 h)

module _ (t : List ℕ) (address : ℕ) where
  pub read_refused : (read_call t address).number ≢ 0 → read_call t address ≡ worded (read_call t address).number 0
  unfolding read_call
  read_refused h = rw (ne_eqb (read_refusal (length t) address) 0 h)

  pub read_low_refused : (read_low_call t address).number ≢ 0 → read_low_call t address ≡ byted (read_low_call t address).number 0
  unfolding read_low_call
  read_low_refused h = ap (λ (r : Word). byted r.number (low_of r.word)) (read_refused h)

  pub read_high_refused : (read_high_call t address).number ≢ 0 → read_high_call t address ≡ byted (read_high_call t address).number 0
  unfolding read_high_call
  read_high_refused h = ap (λ (r : Word). byted r.number (high_of r.word)) (read_refused h)

-- ---- what is accepted is done

pub low_makes : (s : Colours) (low : ℕ) → ruled s ≡ true → write_low_call s low ≡ coloured 0 (with_waiting s (Some low))
unfolding write_low_call
low_makes s low r = rw (low_accepted s r)

module _ (s : Colours) (t : List ℕ) where
  pub write_makes : (address value : ℕ) → Ready s (length t) address → value ≤ 8191
      → write_call s t address value ≡ outcome (coloured 0 (with_waiting s None)) (set t address value)
  unfolding write_call
  write_makes address value r v = rw (write_accepted s (length t) address value r v)

  pub high_makes : (address high : ℕ) → Ready s (length t) address → waits s.waiting ≡ true
      → write_high_call s t address high
      ≡ outcome (coloured 0 (with_waiting s None)) (set t address (joined (low_waiting s.waiting) high))
  unfolding write_high_call
  high_makes address high r w = rw (high_accepted s (length t) address r w)

  pub pixel_makes : (i : Inputs) → Ready s (length t) i.address → pixel_call s t i ≡ emitted 0 (moved s (asks_at t i)) s.first
  unfolding pixel_call
  pixel_makes i r = rw (pixel_accepted s (length t) i.address r)

module _ (t : List ℕ) (address : ℕ) (r : Reached (length t) address) where
  pub read_makes : read_call t address ≡ worded 0 (word_at t address)
  unfolding read_call
  read_makes = rw (read_accepted (length t) address r)

  pub read_low_makes : read_low_call t address ≡ byted 0 (low_of (word_at t address))
  unfolding read_low_call
  read_low_makes = ap (λ (x : Word). byted x.number (low_of x.word)) read_makes

  pub read_high_makes : read_high_call t address ≡ byted 0 (high_of (word_at t address))
  unfolding read_high_call
  read_high_makes = ap (λ (x : Word). byted x.number (high_of x.word)) read_makes

-- ---- a pixel, by what it asks for

-- what was asked for enters the pipe, where it was not refused
abbrev pub emitted_by : Colours → Asked → Emitted
emitted_by s r = emitted r.number (leaves r.number s (moved s r.output)) (leaves r.number zeros s.first)

pub pixel_by : (s : Colours) (t : List ℕ) (i : Inputs) → ruled s ≡ true → pixel_call s t i ≡ emitted_by s (ask_call t i)
unfolding pixel_call ask_call pixel_refusal
pixel_by s t i r = rw r (go (read_refusal (length t) i.address))
  where
    go : (n : ℕ) → emitted n (leaves n s (moved s (asks_at t i))) (leaves n zeros s.first)
        ≡ emitted_by s (asked_for n (leaves n zeros (asks_at t i)))
    go n = by (eqb n 0)
      where
        by : (b : Bool) → emitted n (cond b (moved s (asks_at t i)) s) (cond b s.first zeros)
            ≡ emitted n (cond b (moved s (cond b (asks_at t i) zeros)) s) (cond b s.first zeros)
        by true = refl
        by false = refl
