-- What a cycle leaves, by its tag: one law by cases, in which another cycle adds one clause, and what follows from it. Assumes nothing.
use Rattle.std.specs.Prelude.{◌≡◌, ℕ, ◌+◌, ◌*◌, ◌/◌, ◌<◌, ◌≤◌, Bool, true, false, cond, ◌||◌, ◌≢◌, List, ◌==◌, nat_lt}
use Rattle.std.proofs.Math.Path.{refl, ap, ap₂}
use Rattle.std.proofs.Common.{sym, ◌∙◌, arith, lit≤, ne_eqb, ltb-true, ltb-false}
use Rattle.refusals.specs.RefusalLaws.{full_zero, split_zero, transfer_within}
use Rattle.vram.specs.declared.Vram.{Vram}
use Rattle.vram.specs.declared.Cycle.{Cycle}
use Rattle.vram.specs.declared.Cycle.TheVariants.{WordWrite, BlockWrite, LoadColour, LoadMask, ResetRefresh, FullTransfer, SplitTransfer, StopPoints}
use Rattle.vram.specs.State.{with_serial, other, ruled}
use Rattle.vram.specs.Memory.{puts, copied}
use Rattle.vram.specs.Board.{Board, board, effect}
use Rattle.vram.specs.Refusal.{refusal}
use Rattle.vram.specs.Step.{number, step}
use Rattle.vram.specs.StepLaws.{step_acts, step_holds}
use Rattle.vram.specs.Kinds.{tag_of, loads, persists}
use Rattle.vram.specs.Writes.{Writes, nothing, writes, written}
use Rattle.vram.proofs.Sets.{Sets, registers, sets, sent, effect_is, effect_writes}

pub record Kept (c : Cycle) (s : Vram) : Type 0 where
  -- only a word write (1) and a block write (2) touch the memory, and they touch nothing else
  pub memory : 2 < tag_of c → writes c s ≡ nothing
  pub others : tag_of c < 3 → sets c s ≡ registers s
  -- only a colour load (3) changes the colour register
  pub colour : tag_of c ≢ 3 → (sets c s).state.colour ≡ s.colour
  -- only a mask load (4) changes the mask register; it makes the mask persistent, and a reset refresh (5) ends that
  pub mask : tag_of c ≢ 4 → (sets c s).state.mask ≡ s.mask
  pub persistent : (sets c s).state.persistent ≡ persists c s.persistent
  -- only transfers (6 and 7) change the serial register, the pointer and the waiting tap
  pub serial : tag_of c ≢ 6 → tag_of c ≢ 7 → sets c s ≡ registers (with_serial (sets c s).state s.loaded s.pointer s.waiting)
  -- only a reset refresh (5) and stop points (9) change the length of a partition
  pub stop : tag_of c ≢ 5 → tag_of c ≢ 9 → (sets c s).state.stop ≡ s.stop
  -- only a full transfer (6) counts as one made
  pub loaded : (sets c s).state.loaded ≡ loads c s.loaded
  -- a cycle that is not refused keeps the state's rule, and copies within the memory and the serial register
  pub rule : (rows : ℕ) → refusal rows s.loaded c ≡ 0 → ruled s ≡ true → ruled (sets c s).state ≡ true
  pub copy : (words : ℕ) → refusal (words / 512) s.loaded c ≡ 0 → ((sets c s).from + (sets c s).count ≤ words) × ((sets c s).to + (sets c s).count ≤ 256)

either : (p : Bool) → p ≡ (p || false)
either true = refl
either false = refl

always : (p : Bool) → true ≡ (p || true)
always true = refl
always false = refl

other_within : (p : ℕ) → 128 * other p + 128 ≤ 256
other_within p = go (nat_lt p 128)
  where
    go : (t : Bool) → 128 * cond t 1 0 + 128 ≤ 256
    go true = omega arith
    go false = omega arith

-- the other half is another half
other_half : (p t : ℕ) → t ≤ 127 → ((128 * other p + t) / 128 == p / 128) ≡ false
other_half p t h = ne_eqb _ _ (go (nat_lt p 128) refl)
  where
    go : (u : Bool) → nat_lt p 128 ≡ u → (128 * cond u 1 0 + t) / 128 ≢ p / 128
    go true e q = let k : p < 128 = ltb-true p 128 e in omega arith
    go false e q = let k : 128 ≤ p = ltb-false p 128 e in omega arith

-- a write sets no register and copies nothing
draws : (c : Cycle) (s : Vram) → tag_of c < 3 → sets c s ≡ registers s → s.loaded ≡ loads c s.loaded → s.persistent ≡ persists c s.persistent → Kept c s
draws c s t e l p =
    record {
      memory = λ h. absurd (omega arith);
      others = λ h. e;
      colour = λ h. ap (λ (x : Sets). x.state.colour) e;
      mask = λ h. ap (λ (x : Sets). x.state.mask) e;
      persistent = ap (λ (x : Sets). x.state.persistent) e ∙ p;
      serial = λ h k. rw e;
      stop = λ h k. ap (λ (x : Sets). x.state.stop) e;
      loaded = ap (λ (x : Sets). x.state.loaded) e ∙ l;
      rule = λ rows z h. rw e h;
      copy = λ words z. rw e (omega arith, omega arith);
    }

pub kept : (c : Cycle) (s : Vram) → Kept c s
unfolding writes sets tag_of loads persists refusal ruled
kept (WordWrite row column word masking mask strobes) s = draws (WordWrite row column word masking mask strobes) s (lit≤ tt) refl (either s.loaded) refl
kept (BlockWrite row column columns masking mask strobes) s =
    draws (BlockWrite row column columns masking mask strobes) s (lit≤ tt) refl (either s.loaded) refl
kept (LoadColour word strobes) s =
    record {
      memory = λ h. refl;
      others = λ h. absurd (omega arith);
      colour = λ h. absurd (h refl);
      mask = λ h. refl;
      persistent = refl;
      serial = λ h k. refl;
      stop = λ h k. refl;
      loaded = either s.loaded;
      rule = λ rows z h. h;
      copy = λ words z. (omega arith, omega arith);
    }
kept (LoadMask word strobes) s =
    record {
      memory = λ h. refl;
      others = λ h. absurd (omega arith);
      colour = λ h. refl;
      mask = λ h. absurd (h refl);
      persistent = refl;
      serial = λ h k. refl;
      stop = λ h k. refl;
      loaded = either s.loaded;
      rule = λ rows z h. h;
      copy = λ words z. (omega arith, omega arith);
    }
kept ResetRefresh s =
    record {
      memory = λ h. refl;
      others = λ h. absurd (omega arith);
      colour = λ h. refl;
      mask = λ h. refl;
      persistent = refl;
      serial = λ h k. refl;
      stop = λ h k. absurd (h refl);
      loaded = either s.loaded;
      rule = λ rows z h. h;
      copy = λ words z. (omega arith, omega arith);
    }
kept (FullTransfer row half tap) s =
    record {
      memory = λ h. refl;
      others = λ h. absurd (omega arith);
      colour = λ h. refl;
      mask = λ h. refl;
      persistent = refl;
      serial = λ h k. absurd (h refl);
      stop = λ h k. refl;
      loaded = always s.loaded;
      rule = λ rows z h. refl;
      copy = λ words z. let f = full_zero (words / 512) row half z in (omega (arith, transfer_within words row half 0 256 f.0 f.1 (omega arith)), omega arith);
    }
kept (SplitTransfer row half tap) s =
    record {
      memory = λ h. refl;
      others = λ h. absurd (omega arith);
      colour = λ h. refl;
      mask = λ h. refl;
      persistent = refl;
      serial = λ h k. absurd (k refl);
      stop = λ h k. refl;
      loaded = either s.loaded;
      rule = λ rows z h. let f = split_zero rows s.loaded row half tap z in rw (f.made, other_half s.pointer tap f.tap_within);
      copy = λ words z.
          let f = split_zero (words / 512) s.loaded row half tap z in
          let o = other_within s.pointer in
          (transfer_within words row half (128 * other s.pointer) 128 f.row_fitted f.half_within o, o);
    }
kept (StopPoints length) s =
    record {
      memory = λ h. refl;
      others = λ h. absurd (omega arith);
      colour = λ h. refl;
      mask = λ h. refl;
      persistent = refl;
      serial = λ h k. refl;
      stop = λ h k. absurd (k refl);
      loaded = either s.loaded;
      rule = λ rows z h. h;
      copy = λ words z. (omega arith, omega arith);
    }

persists_other : (c : Cycle) → tag_of c ≢ 4 → tag_of c ≢ 5 → (before : Bool) → persists c before ≡ before
unfolding persists
persists_other c h k before = rw (ne_eqb (tag_of c) 4 h, ne_eqb (tag_of c) 5 k)

-- ---- so a cycle, refused or not, keeps what its tag does not change

module _ (b : Board) where
  state_is : (c : Cycle) → (effect c b).state ≡ (sets c b.state).state
  state_is c = ap (λ (x : Board). x.state) (effect_is c b)

  pub memory_kept : (c : Cycle) → 2 < tag_of c → (step c b).memory ≡ b.memory
  unfolding puts
  memory_kept c h =
      step_holds (λ x. x.memory ≡ b.memory) effect c b refl
      (λ z. effect_writes c b ∙ ap (λ (w : Writes). written w b.memory) ((kept c b.state).memory h))

  pub only_memory : (c : Cycle) → tag_of c < 3 → step c b ≡ board b.state (step c b).memory b.serial
  unfolding copied
  only_memory c h =
      step_holds (λ x. x ≡ board b.state x.memory b.serial) effect c b refl
      (λ z. effect_is c b ∙ ap₂ (λ (t : Sets) (m : List ℕ). board t.state m (sent t b.memory b.serial)) ((kept c b.state).others h) (sym (effect_writes c b)))

  pub colour_kept : (c : Cycle) → tag_of c ≢ 3 → (step c b).state.colour ≡ b.state.colour
  colour_kept c h =
      step_holds (λ x. x.state.colour ≡ b.state.colour) effect c b refl (λ z. ap (λ (x : Vram). x.colour) (state_is c) ∙ (kept c b.state).colour h)

  pub mask_kept : (c : Cycle) → tag_of c ≢ 4 → (step c b).state.mask ≡ b.state.mask
  mask_kept c h =
      step_holds (λ x. x.state.mask ≡ b.state.mask) effect c b refl (λ z. ap (λ (x : Vram). x.mask) (state_is c) ∙ (kept c b.state).mask h)

  effect_persistent : (c : Cycle) → (effect c b).state.persistent ≡ persists c b.state.persistent
  effect_persistent c = ap (λ (x : Vram). x.persistent) (state_is c) ∙ (kept c b.state).persistent

  pub persistent_kept : (c : Cycle) → tag_of c ≢ 4 → tag_of c ≢ 5 → (step c b).state.persistent ≡ b.state.persistent
  persistent_kept c h k =
      step_holds (λ x. x.state.persistent ≡ b.state.persistent) effect c b refl
      (λ z. effect_persistent c ∙ persists_other c h k b.state.persistent)

  pub stop_kept : (c : Cycle) → tag_of c ≢ 5 → tag_of c ≢ 9 → (step c b).state.stop ≡ b.state.stop
  stop_kept c h k =
      step_holds (λ x. x.state.stop ≡ b.state.stop) effect c b refl (λ z. ap (λ (x : Vram). x.stop) (state_is c) ∙ (kept c b.state).stop h k)

  -- ---- the serial register and the serial state

  pub record SerialKept (x : Board) : Type 0 where
    pub register : x.serial ≡ b.serial
    pub made : x.state.loaded ≡ b.state.loaded
    pub place : x.state.pointer ≡ b.state.pointer
    pub tap : x.state.waiting ≡ b.state.waiting

  effect_serial : (c : Cycle) → tag_of c ≢ 6 → tag_of c ≢ 7 → SerialKept (effect c b)
  unfolding copied
  effect_serial c h k =
      let e = (kept c b.state).serial h k in
      record {
        register = ap (λ (x : Board). x.serial) (effect_is c b) ∙ ap (λ (t : Sets). sent t b.memory b.serial) e;
        made = ap (λ (x : Vram). x.loaded) (state_is c) ∙ ap (λ (t : Sets). t.state.loaded) e;
        place = ap (λ (x : Vram). x.pointer) (state_is c) ∙ ap (λ (t : Sets). t.state.pointer) e;
        tap = ap (λ (x : Vram). x.waiting) (state_is c) ∙ ap (λ (t : Sets). t.state.waiting) e;
      }

  pub serial_kept : (c : Cycle) → tag_of c ≢ 6 → tag_of c ≢ 7 → SerialKept (step c b)
  serial_kept c h k = step_holds SerialKept effect c b (record { register = refl; made = refl; place = refl; tap = refl }) (λ z. effect_serial c h k)

  -- ---- what `loaded` is after a cycle

  pub effect_loaded : (c : Cycle) → (effect c b).state.loaded ≡ loads c b.state.loaded
  effect_loaded c = ap (λ (x : Vram). x.loaded) (state_is c) ∙ (kept c b.state).loaded

  pub step_loaded : (c : Cycle) → number c b ≡ 0 → (step c b).state.loaded ≡ loads c b.state.loaded
  step_loaded c z = ap (λ (x : Board). x.state.loaded) (step_acts effect c b z) ∙ effect_loaded c

  -- ---- and whether the mask is persistent

  pub step_persistent : (c : Cycle) → number c b ≡ 0 → (step c b).state.persistent ≡ persists c b.state.persistent
  step_persistent c z = ap (λ (x : Board). x.state.persistent) (step_acts effect c b z) ∙ effect_persistent c
