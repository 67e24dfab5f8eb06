-- From bytes to the bound: the board on which every bit is wrong, and what an accepted list does there. Assumes nothing.
use Rattle.std.specs.Prelude.{◌≡◌, Bool, false, ◌&&◌, ◌≢◌, length, get_or, replicate}
use Rattle.std.proofs.Common.{sym, ◌∙◌, true≢false, arith, ℕ, suc, ◌+◌, ◌*◌, ◌≤◌, ◌<◌, min, List}
use Rattle.std.proofs.Math.Path.{ap, subst}
use Rattle.std.proofs.Math.Bool.{true, not, cond}
use Rattle.std.proofs.Math.Decide.{dec_le}
use Rattle.std.proofs.Math.ListN.{length-replicate, get_or-replicate, get_or-eq_default}
use Rattle.words.specs.Bit.{bit, of_bits}
use Rattle.words.specs.BitLaws.{bit_of_bits, of_bits_lt, some_bit}
use Rattle.vram.specs.declared.Vram.{Vram}
use Rattle.vram.specs.Board.{Board}
use Rattle.vram.specs.Step.{run}
use Rattle.list.specs.Meaning.{cycles_of, count_of}
use Rattle.list.proofs.CountLaws.{count_cycles}
use Rattle.list.proofs.CallLaws.{call_runs}
use Rattle.list.proofs.JoinLaws.{call_readable}
use Rattle.planner.specs.Fill.{Fill, inside, W, B}
use Rattle.planner.proofs.FillLaws.{Sound, inside_says}
use Rattle.planner.specs.Paint.{painted, Wide, Memory, from, Paints}
use Rattle.planner.proofs.PaintLaws.{painted_bit}
use Rattle.planner.proofs.Bound.{bound}

opposite : (t : Bool) → not t ≢ t
opposite true e = true≢false (sym e)
opposite false e = true≢false e

module _ (f : Fill) (sound : Sound f) (wide : Wide f) (some : f.mask ≢ 0) (s : Vram) (r list : List ℕ) (paints : Paints f s r list) where
  -- a word with every bit of the colour wrong, and a memory of such words
  wrong : ℕ
  wrong = of_bits 16 (λ i. not (bit f.colour i))

  wrong_lt : wrong < 65536
  unfolding wrong
  wrong_lt = of_bits_lt 16 (λ i. not (bit f.colour i))

  words : List ℕ
  words = replicate (512 * f.rows) wrong

  words_at : (a : ℕ) → a < 512 * f.rows → get_or words a 0 ≡ wrong
  unfolding words
  words_at a h = get_or-replicate (512 * f.rows) a wrong 0 h

  words_size : length words ≡ 512 * f.rows
  unfolding words
  words_size = length-replicate (512 * f.rows) wrong

  memory : Memory f.rows words
  memory =
      record {
        size = words_size;
        words = λ a. elim (dec_le (suc a) (512 * f.rows)) [
          | yes h ↦ subst (λ (n : ℕ). n < 65536) (sym (words_at a h)) wrong_lt
          | no h ↦ subst (λ (n : ℕ). n < 65536) (sym (get_or-eq_default words 0 (omega (arith, words_size)))) (omega arith)
        ];
      }

  abbrev here : Board
  here = from s wrong 0 words r

  done : (run (cycles_of list) here).memory ≡ painted f words
  done =
      sym (ap (λ (x : Board). x.memory) (call_runs list here (paints.accepted wrong 0 words wrong_lt (omega arith) memory)))
      ∙ paints.paints wrong 0 words wrong_lt (omega arith) memory

  cycles : length (cycles_of list) ≡ count_of list
  cycles = count_cycles list (call_readable list here (paints.accepted wrong 0 words wrong_lt (omega arith) memory))

  -- one bit of M is enough
  pub least : min (W f) (1 + B f) ≤ count_of list
  unfolding wrong
  least =
      let p = some_bit 16 f.mask wide.mask (omega (arith, some)) in
      let i : ℕ = p.0 in
      let e : bit wrong i ≡ not (bit f.colour i) = bit_of_bits 16 (λ j. not (bit f.colour j)) i p.1 in
      subst (λ (n : ℕ). min (W f) (1 + B f) ≤ n) cycles
      (bound f i (not (bit f.colour i)) (bit f.colour i) p.1 (opposite (bit f.colour i)) (cycles_of list) here
      (λ a h. subst (λ (n : ℕ). a < n) (sym words_size) (placed a h))
      (λ a h. ap (λ (n : ℕ). bit n i) (words_at a (placed a h)) ∙ e)
      e
      (λ a h.
      ap (λ (m : List ℕ). bit (get_or m a 0) i) done
      ∙ painted_bit f words a i (subst (λ (n : ℕ). a < n) (sym words_size) (placed a h)) p.1
      ∙ ap (λ (t : Bool). cond (t && bit f.mask i) (bit f.colour i) (bit (get_or words a 0) i)) h
      ∙ ap (λ (t : Bool). cond t (bit f.colour i) (bit (get_or words a 0) i)) p.2))
    where
      placed : (a : ℕ) → inside f a ≡ true → a < 512 * f.rows
      placed a h = let q = (inside_says f a h).row_to in omega (arith, sound.row_end)
