-- What a cycle writes lies where it aims, and a bit that is wrong stays wrong under every cycle that does not aim at it. Nothing is
-- asked of the cycle: a refused one is among them. Assumes nothing.
use Rattle.std.specs.Prelude.{◌≡◌, ℕ, ◌+◌, ◌-◌, ◌*◌, ◌/◌, ◌<◌, ◌≤◌, Bool, true, false, cond, ◌&&◌, ◌≢◌, ◌⊎◌, List, [], length, slice_index, refl}
use Rattle.std.proofs.Common.{ap, ◌∙◌, inl, inr, ⊎_elim, arith, lit≤, eq-eqb}
use mathlib.Core.List.{Memᴰ}
use Rattle.std.proofs.Math.Logic.{⊎_map}
use Rattle.std.proofs.lemmas.Bool.{eqb-false}
use Rattle.numbers.specs.Between.{between_says}
use Rattle.words.specs.Bit.{bit}
use Rattle.refusals.specs.RefusalLaws.{write_zero}
use Rattle.vram.specs.declared.Vram.{Vram}
use Rattle.vram.specs.declared.Cycle.{Cycle}
use Rattle.vram.specs.declared.Cycle.TheVariants.{WordWrite, BlockWrite, LoadColour, LoadMask, ResetRefresh, FullTransfer, SplitTransfer, StopPoints}
use Rattle.vram.specs.State.{fresh}
use Rattle.vram.specs.Refusal.{refusal}
use Rattle.vram.specs.MemoryLaws.{among}
use Rattle.vram.specs.Board.{Board, effect}
use Rattle.vram.specs.Step.{step}
use Rattle.vram.specs.StepLaws.{step_holds}
use Rattle.vram.specs.Kinds.{tag_of, target_of, names}
use Rattle.vram.specs.Writes.{Writes, nothing, writes, base, written_bit}
use Rattle.vram.proofs.Sets.{effect_is, effect_writes}
use Rattle.vram.proofs.KeptLaws.{kept}
use Rattle.vram.specs.Aims.{words_of, blocks_of, colours_of}

-- ---- by the kind of the cycle

-- place a is one that is written
abbrev Hits : Writes → ℕ → Type 0
Hits w a = (base w ≤ a) × (a < base w + w.count)

pub record Aimed (c : Cycle) (s : Vram) : Type 0 where
  -- it aims at one thing at most
  pub one_word : length (words_of c) ≤ 1
  pub one_block : length (blocks_of c) + colours_of c ≤ 1
  -- it writes to the block at which it aims; to the word at which it aims, or the colour register's bits
  pub block : (a : ℕ) → Hits (writes c s) a → Memᴰ (a / 4) (blocks_of c)
  pub word : ((a : ℕ) → Hits (writes c s) a → Memᴰ a (words_of c)) ⊎ ((writes c s).pen ≡ s.colour)
  -- within the row that it names
  pub within : (rows : ℕ) (made : Bool) → refusal rows made c ≡ 0 → (writes c s).column + (writes c s).count ≤ 512
  pub elsewhere : (r : ℕ) → names r c ≡ false → ((writes c s).count ≡ 0) ⊎ ((writes c s).row ≢ r)

module _ (c : Cycle) (s : Vram) (h : writes c s ≡ nothing) (w : words_of c ≡ []) (k : blocks_of c ≡ []) (n : colours_of c ≤ 1) where
  misses : (a : ℕ) → Hits (writes c s) a → ⊥
  misses a r = let z : Hits nothing a = rw h at r in omega (arith, z.1)

  -- a cycle that writes nothing
  idle : Aimed c s
  idle =
      record {
        one_word = rw w (lit≤ tt);
        one_block = rw k (omega (arith, n));
        block = λ a r. absurd (misses a r);
        word = inl (λ a r. absurd (misses a r));
        within = λ rows made z. rw h (lit≤ tt);
        elsewhere = λ r z. inl (ap (λ (x : Writes). x.count) h);
      }

pub aimed : (c : Cycle) (s : Vram) → Aimed c s
unfolding refusal tag_of target_of names writes words_of blocks_of colours_of
aimed (WordWrite row column word masking mask strobes) s =
    record {
      one_word = lit≤ tt;
      one_block = lit≤ tt;
      block = λ a r. let e : a / 4 ≡ 128 * row + column / 4 = omega (arith, r.0, r.1) in Memᴰ.head e;
      word = inl (λ a r. let e : a ≡ 512 * row + column = omega (arith, r.0, r.1) in Memᴰ.head e);
      within = λ rows made z. omega (arith, (write_zero rows row column masking mask strobes z).column_within);
      elsewhere = λ r z. inr (eqb-false row r z);
    }
aimed (BlockWrite row column columns masking mask strobes) s =
    record {
      one_word = lit≤ tt;
      one_block = lit≤ tt;
      block = λ a r. let e : a / 4 ≡ 128 * row + column / 4 = omega (arith, r.0, r.1) in Memᴰ.head e;
      word = inr refl;
      within = λ rows made z. omega (arith, (write_zero rows row column masking mask strobes z).column_within);
      elsewhere = λ r z. inr (eqb-false row r z);
    }
aimed (LoadColour word strobes) s = idle (LoadColour word strobes) s refl refl refl (lit≤ tt)
aimed (LoadMask word strobes) s = idle (LoadMask word strobes) s refl refl refl (lit≤ tt)
aimed ResetRefresh s = idle ResetRefresh s refl refl refl (lit≤ tt)
aimed (FullTransfer row half tap) s = idle (FullTransfer row half tap) s refl refl refl (lit≤ tt)
aimed (SplitTransfer row half tap) s = idle (SplitTransfer row half tap) s refl refl refl (lit≤ tt)
aimed (StopPoints length) s = idle (StopPoints length) s refl refl refl (lit≤ tt)

pub words_one : (c : Cycle) → length (words_of c) ≤ 1
words_one c = (aimed c fresh).one_word

pub blocks_one : (c : Cycle) → length (blocks_of c) + colours_of c ≤ 1
blocks_one c = (aimed c fresh).one_block

-- without a colour load the colour register stays
colours_tag : (c : Cycle) → colours_of c ≡ 0 → tag_of c ≢ 3
unfolding colours_of
colours_tag c z e = let k : ◌≡◌ {A = ℕ} 1 0 = rw (eq-eqb (tag_of c) 3 e) at z in omega arith

-- ---- bit i of word a, which is u

module _ (a i : ℕ) (u : Bool) (fits : i < 16) where
  -- a choice between two bits that are both u
  same : (t : Bool) {p q : Bool} → p ≡ u → q ≡ u → cond t p q ≡ u
  same true e f = e
  same false e f = f

  abbrev pub Stays : Board → Type 0
  Stays b = bit (slice_index b.memory a) i ≡ u

  -- where the colour register's bit is u too
  pub record Wrong (b : Board) : Type 0 where
    pub drawn_bit : Stays b
    pub colour_bit : bit b.state.colour i ≡ u

  module _ (c : Cycle) (b : Board) (inside : a < length b.memory) (h : Stays b) where
    abbrev hit : Bool
    hit = among (base (writes c b.state)) (writes c b.state).count a

    after : bit (slice_index (effect c b).memory a) i
        ≡ cond (hit && (writes c b.state).through (a - base (writes c b.state)) i) (bit (writes c b.state).pen i) (bit (slice_index b.memory a) i)
    after = ap (λ (m : List ℕ). bit (slice_index m a) i) (effect_writes c b) ∙ written_bit (writes c b.state) b.memory a i inside fits

    -- it stays unless a write reaches the word; and if the pen's bit is u too it stays whatever is written
    reached : {P : Type 0} → (Hits (writes c b.state) a → P) → P ⊎ Stays (effect c b)
    reached {P} f = go hit refl
      where
        go : (t : Bool) → hit ≡ t → P ⊎ Stays (effect c b)
        go true e = inl (f (between_says (base (writes c b.state)) (base (writes c b.state) + (writes c b.state).count) a e))
        go false e =
            inr (after
            ∙ ap (λ (t : Bool). cond (t && (writes c b.state).through (a - base (writes c b.state)) i) (bit (writes c b.state).pen i) (bit (slice_index b.memory a) i)) e
            ∙ h)

    drawn : bit (writes c b.state).pen i ≡ u → Stays (effect c b)
    drawn k = after ∙ same (hit && (writes c b.state).through (a - base (writes c b.state)) i) k h

  -- whatever the cycle: it aims at the word's block, or the bit stays
  pub miss_block : (c : Cycle) (b : Board) → a < length b.memory → Stays b → Memᴰ (a / 4) (blocks_of c) ⊎ Stays (step c b)
  miss_block c b l h =
      step_holds (λ x. Memᴰ (a / 4) (blocks_of c) ⊎ Stays x) effect c b (inr h) (λ z. reached c b l h ((aimed c b.state).block a))

  -- with no colour load: it aims at the word by a word write, or both bits stay
  pub miss_word : (c : Cycle) (b : Board) → a < length b.memory → colours_of c ≡ 0 → Wrong b → Memᴰ a (words_of c) ⊎ Wrong (step c b)
  miss_word c b l n h =
      step_holds (λ x. Memᴰ a (words_of c) ⊎ Wrong x) effect c b (inr h)
      (λ z. ⊎_map (λ x. x) (λ e. record { drawn_bit = e; colour_bit = colour }) stays)
    where
      colour : bit (effect c b).state.colour i ≡ u
      colour =
          ap (λ (x : Board). bit x.state.colour i) (effect_is c b)
          ∙ ap (λ (x : ℕ). bit x i) ((kept c b.state).colour (colours_tag c n))
          ∙ h.colour_bit

      stays : Memᴰ a (words_of c) ⊎ Stays (effect c b)
      stays =
          ⊎_elim (λ f. reached c b l h.drawn_bit (f a))
          (λ e. inr (drawn c b l h.drawn_bit (ap (λ (x : ℕ). bit x i) e ∙ h.colour_bit)))
          (aimed c b.state).word
