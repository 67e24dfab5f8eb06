-- One stretch of a run, as the code writes it, is so many clocks of it. Assumes nothing.
use Rattle.std.proofs.Common.{◌≡◌, sym, ap, ap₂, ◌∙◌, List, ◌++◌, ℕ, ◌+◌, ◌-◌, ◌*◌, ◌≤◌, ◌<◌, arith, length, take, drop, length-take}
use borrow.Rule.Slice.PartMut.{put_mid}
use Rattle.vram.specs.declared.Vram.{Vram}
use Rattle.vram.specs.Serial.{through, clocks, clocked_words}
use Rattle.vram.specs.SerialLaws.{clocked_words_within}
use Rattle.panel.specs.Panel.{Panel, bytes_of, shown}
use Rattle.panel.proofs.PanelLaws.{bytes_length, shown_add, shown_length, over_more}
use Rattle.numbers.specs.BufferLaws.{over_length, tail_part, tail_back}
use Rattle.numbers.specs.Buffer.{over}

module _ (p : Panel) (r out part : List ℕ) (s : Vram) (at count : ℕ) (q : s.pointer < 256) (h : count ≤ through s) (l : s.pointer + count ≤ length r) where
  pub one_stretch : (k : ℕ) → k ≡ count → at ≤ length out
      → part ≡ over (bytes_of p (take (s.pointer + count - s.pointer) (drop s.pointer r))) (take (length out - at) (drop at out))
      → put_mid at (length out - at) out part ≡ take at out ++ over (bytes_of p (clocked_words k s r)) (drop at out)
  one_stretch k f a e =
      let n : s.pointer + count - s.pointer ≡ count = omega arith in
      let w : clocked_words count s r ≡ take count (drop s.pointer r) = clocked_words_within s q count r h l in
      tail_back out part at a
      ∙ ap (λ (x : List ℕ). take at out ++ x)
      (e
      ∙ ap₂ (λ (x : ℕ) (y : List ℕ). over (bytes_of p (take x (drop s.pointer r))) y) n (tail_part out at)
      ∙ ap (λ (x : List ℕ). over (bytes_of p x) (drop at out)) (sym w ∙ ap (λ (x : ℕ). clocked_words x s r) (sym f)))

-- the buffer keeps its length
pub words_size : (p : Panel) (ws out now : List ℕ) (i : ℕ) → i ≤ length ws → 3 * length ws ≤ length out → now ≡ over (bytes_of p (take i ws)) out → length now ≡ length out
words_size p ws out now i h l e =
    let k : length (bytes_of p (take i ws)) ≡ 3 * i = bytes_length p (take i ws) ∙ ap (λ (n : ℕ). 3 * n) (simp length-take (omega arith)) in
    ap length e ∙ over_length (bytes_of p (take i ws)) out (omega arith)

pub shown_size : (p : Panel) (r out now : List ℕ) (s : Vram) (k : ℕ) → 3 * k ≤ length out → now ≡ over (shown p k s r) out → length now ≡ length out
shown_size p r out now s k l e = ap length e ∙ over_length (shown p k s r) out (omega (arith, shown_length p k s r))

-- one turn of the loop: what was shown, and one stretch more
pub one_turn : (p : Panel) (r out now next : List ℕ) (s : Vram) (done more : ℕ) → done ≤ more → now ≡ over (shown p done s r) out
    → next ≡ take (3 * done) now ++ over (bytes_of p (clocked_words (more - done) (clocks done s) r)) (drop (3 * done) now) → next ≡ over (shown p more s r) out
one_turn p r out now next s done more h e f =
    let n : done + (more - done) ≡ more = omega arith in
    f
    ∙ ap (λ (x : List ℕ). take (3 * done) x ++ over (shown p (more - done) (clocks done s) r) (drop (3 * done) x)) e
    ∙ sym (over_more (shown p done s r) (shown p (more - done) (clocks done s) r) out (3 * done) (shown_length p done s r))
    ∙ ap (λ (x : List ℕ). over x out) (sym (shown_add p done (more - done) s r) ∙ ap (λ (x : ℕ). shown p x s r) n)
