-- The definitions case by case, so that other crates need not open them. Assumes nothing.
use Rattle.std.specs.Prelude.{◌≡◌, ℕ, ◌+◌, ◌*◌, ◌/◌, ◌<◌, ◌≤◌, Bool, true, false, cond, ◌&&◌, ◌||◌, ◌≢◌, List, [], ◌∷◌, ◌==◌}
use Rattle.std.proofs.Math.Path.{refl}
use Rattle.std.proofs.Common.{sym, ap, ◌∙◌, subst, true≢false, inl, ⊎_elim, arith, eqb-true}
use Rattle.numbers.specs.Refuse.{first_of, leaves}
use Rattle.numbers.specs.RefuseLaws.{first_of_later}
use Rattle.words.specs.Word.{lets}
use Rattle.vram.specs.declared.Cycle.{Cycle}
use Rattle.vram.specs.declared.Cycle.TheVariants.{WordWrite, BlockWrite, LoadColour, LoadMask, ResetRefresh, FullTransfer, SplitTransfer, StopPoints}
use Rattle.vram.specs.Memory.{put, puts}
use Rattle.vram.specs.Board.{Board, board, allowed, effect}
use Rattle.refusals.specs.Refusal.{refusing, write_refusal, load_refusal, full_refusal, split_refusal, stop_refusal}
use Rattle.vram.specs.Refusal.{refusal}
use Rattle.refusals.specs.RefusalLaws.{write_zero, masked_write, Range, write_among, load_among, full_among, split_among, stop_among}
use Rattle.vram.specs.Step.{given_of, rows_of, number, Engine, step_by, run_by, step, run}
use Rattle.vram.specs.StepLaws.{run_holds}
use Rattle.vram.proofs.RuleLaws.{step_sized, run_sized, step_given}
use Rattle.vram.specs.Calls.{cycle_call}
use Rattle.vram.specs.Kinds.{tag_of, target_of, names, loads, persists}

-- ---- a cycle's call answers its number, and leaves what a step leaves

pub cycle_number : (c : Cycle) (b : Board) → (cycle_call c b).given ≡ number c b
unfolding cycle_call
cycle_number c b = refl

pub cycle_after : (c : Cycle) (b : Board) → (cycle_call c b).after ≡ step c b
unfolding cycle_call
cycle_after c b = refl

-- ---- a step: the engine's doing where nothing is refused

pub step_is : (e : Engine) (c : Cycle) (b : Board) → step_by e c b ≡ leaves (number c b) b (e c b)
unfolding step_by
step_is e c b = refl

-- ---- what a write leaves

pub effect_word : (row column word masking mask strobes : ℕ) (b : Board)
    → effect (WordWrite row column word masking mask strobes) b
    ≡ board b.state (put b.memory (512 * row + column) word (allowed b.state masking mask strobes)) b.serial
unfolding effect
effect_word row column word masking mask strobes b = refl

pub effect_block : (row column columns masking mask strobes : ℕ) (b : Board)
    → effect (BlockWrite row column columns masking mask strobes) b
    ≡ board b.state
    (puts b.memory (512 * row + 4 * (column / 4)) b.state.colour (λ j i. lets columns j i && allowed b.state masking mask strobes i) 4)
    b.serial
unfolding effect
effect_block row column columns masking mask strobes b = refl

-- ---- a run, cycle by cycle

pub run_none : (e : Engine) (b : Board) → run_by e [] b ≡ b
unfolding run_by
run_none e b = refl

pub run_next : (e : Engine) (c : Cycle) (l : List Cycle) (b : Board) → run_by e (c ∷ l) b ≡ run_by e l (e c b)
unfolding run_by
run_next e c l b = refl

-- what is given stays as it was
pub run_given : (l : List Cycle) (b : Board) → given_of (run l b) ≡ given_of b
run_given l b = run_holds (λ x. given_of x ≡ given_of b) step (λ c x k. step_given c x ∙ k) l b refl

-- rows fitted stay as they were
pub step_rows : (c : Cycle) (b : Board) → rows_of (step c b) ≡ rows_of b
step_rows c b = ap (λ (n : ℕ). n / 512) (step_sized c b).memory

pub run_rows : (l : List Cycle) (b : Board) → rows_of (run l b) ≡ rows_of b
run_rows l b = ap (λ (n : ℕ). n / 512) (run_sized l b).memory

-- ---- a cycle's number: 1 to 3, and where the state and the lengths are as they should be its refusal

pub number_first : (c : Cycle) (b : Board) → number c b ≡ first_of (given_of b) (refusal (rows_of b) b.state.loaded c)
unfolding number
number_first c b = refl

pub number_is : (c : Cycle) (b : Board) → given_of b ≡ 0 → number c b ≡ refusal (rows_of b) b.state.loaded c
number_is c b g = number_first c b ∙ first_of_later (given_of b) (refusal (rows_of b) b.state.loaded c) g

-- ---- the refusal of each kind of cycle

module _ (rows : ℕ) (made : Bool) where
  pub refusal_word : (row column word masking mask strobes : ℕ)
      → refusal rows made (WordWrite row column word masking mask strobes) ≡ write_refusal rows row column masking mask strobes
  unfolding refusal
  refusal_word row column word masking mask strobes = refl

  pub refusal_block : (row column columns masking mask strobes : ℕ)
      → refusal rows made (BlockWrite row column columns masking mask strobes) ≡ write_refusal rows row column masking mask strobes
  unfolding refusal
  refusal_block row column columns masking mask strobes = refl

  pub refusal_colour : (word strobes : ℕ) → refusal rows made (LoadColour word strobes) ≡ load_refusal strobes
  unfolding refusal
  refusal_colour word strobes = refl

  pub refusal_mask : (word strobes : ℕ) → refusal rows made (LoadMask word strobes) ≡ load_refusal strobes
  unfolding refusal
  refusal_mask word strobes = refl

  pub refusal_reset : refusal rows made ResetRefresh ≡ 0
  unfolding refusal
  refusal_reset = refl

  pub refusal_full : (row half tap : ℕ) → refusal rows made (FullTransfer row half tap) ≡ full_refusal rows row half
  unfolding refusal
  refusal_full row half tap = refl

  pub refusal_split : (row half tap : ℕ) → refusal rows made (SplitTransfer row half tap) ≡ split_refusal rows made row half tap
  unfolding refusal
  refusal_split row half tap = refl

  pub refusal_stop : (length : ℕ) → refusal rows made (StopPoints length) ≡ stop_refusal length
  unfolding refusal
  refusal_stop length = refl

-- a write that is masked, with both strobes, in the rows fitted is not refused, nor is a colour load with both strobes

module _ (rows : ℕ) (made : Bool) where
  pub word_accepted : (row column word mask : ℕ) → row < rows → column ≤ 511 → refusal rows made (WordWrite row column word 1 mask 3) ≡ 0
  word_accepted row column word mask h k = refusal_word rows made row column word 1 mask 3 ∙ masked_write rows row column mask h k

  pub block_accepted : (row column columns mask : ℕ) → row < rows → column ≤ 511 → refusal rows made (BlockWrite row column columns 1 mask 3) ≡ 0
  block_accepted row column columns mask h k = refusal_block rows made row column columns 1 mask 3 ∙ masked_write rows row column mask h k

  pub colour_accepted : (word : ℕ) → refusal rows made (LoadColour word 3) ≡ 0
  unfolding load_refusal
  colour_accepted word = refusal_colour rows made word 3

-- what refuses a cycle is one of its numbers, 5 to 10 and 19

refusal_among : (rows : ℕ) (made : Bool) (c : Cycle) → Range (refusal rows made c)
unfolding refusal
refusal_among rows made (WordWrite row column word masking mask strobes) = write_among rows row column masking mask strobes
refusal_among rows made (BlockWrite row column columns masking mask strobes) = write_among rows row column masking mask strobes
refusal_among rows made (LoadColour word strobes) = load_among strobes
refusal_among rows made (LoadMask word strobes) = load_among strobes
refusal_among rows made ResetRefresh = inl refl
refusal_among rows made (FullTransfer row half tap) = full_among rows row half
refusal_among rows made (SplitTransfer row half tap) = split_among rows made row half tap
refusal_among rows made (StopPoints length) = stop_among length

pub refusal_range : (rows : ℕ) (made : Bool) (c : Cycle) → refusal rows made c ≢ 0 → refusing (refusal rows made c) ≡ true
refusal_range rows made c h = ⊎_elim (λ e. absurd (h e)) (λ r. r) (refusal_among rows made c)

-- ---- tags

pub tag_word : (row column word masking mask strobes : ℕ) → tag_of (WordWrite row column word masking mask strobes) ≡ 1
unfolding tag_of
tag_word row column word masking mask strobes = refl

pub tag_block : (row column columns masking mask strobes : ℕ) → tag_of (BlockWrite row column columns masking mask strobes) ≡ 2
unfolding tag_of
tag_block row column columns masking mask strobes = refl

pub tag_colour : (word strobes : ℕ) → tag_of (LoadColour word strobes) ≡ 3
unfolding tag_of
tag_colour word strobes = refl

pub tag_mask : (word strobes : ℕ) → tag_of (LoadMask word strobes) ≡ 4
unfolding tag_of
tag_mask word strobes = refl

pub tag_reset : tag_of ResetRefresh ≡ 5
unfolding tag_of
tag_reset = refl

pub tag_full : (row half tap : ℕ) → tag_of (FullTransfer row half tap) ≡ 6
unfolding tag_of
tag_full row half tap = refl

pub tag_split : (row half tap : ℕ) → tag_of (SplitTransfer row half tap) ≡ 7
unfolding tag_of
tag_split row half tap = refl

pub tag_stop : (length : ℕ) → tag_of (StopPoints length) ≡ 9
unfolding tag_of
tag_stop length = refl

-- ---- only a full transfer (6) counts as one made; a mask load (4) makes the mask persistent and a reset refresh (5) ends it

pub loads_tag : (c : Cycle) (made : Bool) → loads c made ≡ (made || tag_of c == 6)
unfolding loads
loads_tag c made = refl

pub persists_tag : (c : Cycle) (before : Bool) → persists c before ≡ cond (tag_of c == 4) true (cond (tag_of c == 5) false before)
unfolding persists
persists_tag c before = refl

-- ---- the row that a write names; no other cycle names one

pub names_word : (r row column word masking mask strobes : ℕ) → names r (WordWrite row column word masking mask strobes) ≡ (row == r)
unfolding names target_of
names_word r row column word masking mask strobes = refl

pub names_block : (r row column columns masking mask strobes : ℕ) → names r (BlockWrite row column columns masking mask strobes) ≡ (row == r)
unfolding names target_of
names_block r row column columns masking mask strobes = refl

pub names_other : (r : ℕ) (c : Cycle) → 2 < tag_of c → names r c ≡ false
unfolding names target_of tag_of
names_other r (WordWrite row column word masking mask strobes) h = absurd (omega arith)
names_other r (BlockWrite row column columns masking mask strobes) h = absurd (omega arith)
names_other r (LoadColour word strobes) h = refl
names_other r (LoadMask word strobes) h = refl
names_other r ResetRefresh h = refl
names_other r (FullTransfer row half tap) h = refl
names_other r (SplitTransfer row half tap) h = refl
names_other r (StopPoints length) h = refl

-- a write that is not refused names a row that is fitted
pub names_fitted : (rows : ℕ) (made : Bool) (r : ℕ) (c : Cycle) → names r c ≡ true → refusal rows made c ≡ 0 → r < rows
unfolding names target_of refusal
names_fitted rows made r (WordWrite row column word masking mask strobes) e z =
    subst (λ (n : ℕ). n < rows) (eqb-true row r e) (write_zero rows row column masking mask strobes z).row_fitted
names_fitted rows made r (BlockWrite row column columns masking mask strobes) e z =
    subst (λ (n : ℕ). n < rows) (eqb-true row r e) (write_zero rows row column masking mask strobes z).row_fitted
names_fitted rows made r (LoadColour word strobes) e z = absurd (true≢false (sym e))
names_fitted rows made r (LoadMask word strobes) e z = absurd (true≢false (sym e))
names_fitted rows made r ResetRefresh e z = absurd (true≢false (sym e))
names_fitted rows made r (FullTransfer row half tap) e z = absurd (true≢false (sym e))
names_fitted rows made r (SplitTransfer row half tap) e z = absurd (true≢false (sym e))
names_fitted rows made r (StopPoints length) e z = absurd (true≢false (sym e))
