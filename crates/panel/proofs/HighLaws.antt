-- A run on two serial registers that agree in every high byte: the same number and state, and each pixel whose high byte is neither 0 nor 255
-- shows the same colour. By any rule of parts, blanked or not. Change request M-110. Assumes nothing.
use Rattle.std.specs.Prelude.{◌≡◌, refl, Bool, true, false, cond, List, [], ◌∷◌, ◌≢◌, ℕ, zero, suc, ◌+◌, ◌*◌, ◌<◌, ◌≤◌, eqb, length, get_or, take, drop}
use Rattle.std.proofs.Common.{sym, ap, ◌∙◌, arith, length-drop}
use Rattle.std.specs.Int.Bits.{bit_and}
use Rattle.std.proofs.lemmas.List.{take-append-le, drop-append-le}
use Rattle.numbers.specs.Buffer.{over}
use Rattle.words.specs.Word.{high}
use Rattle.vram.specs.declared.Vram.{Vram}
use Rattle.vram.specs.Calls.{Answered}
use Rattle.vram.specs.Serial.{clocked_words}
use Rattle.vram.specs.SerialLaws.{clocked_words_length}
use Rattle.vram.specs.High.{Agree}
use Rattle.vram.proofs.HighLaws.{agree_length, agree_at, clocked_agree}
use Rattle.palette.specs.declared.Palette.{Palette}
use Rattle.palette.specs.Table.{gives}
use Rattle.panel.specs.Panel.{Panel, panel_of, shaded, colour_of, bytes_of, shown, zeros, pixel_at, run_bytes}
use Rattle.panel.proofs.PixelLaws.{mark_alone}
use Rattle.panel.proofs.PanelLaws.{bytes, run_bytes_length}
use Rattle.panel.specs.Calls.{Outcome, run_call_by}
use Rattle.panel.proofs.CallLaws.{run_number, run_made}

-- pixel i of words is the colour of word i
pixel_of_bytes : (p : Panel) (ws : List ℕ) (i : ℕ) → i < length ws → pixel_at i (bytes_of p ws) ≡ bytes (colour_of p (get_or ws i 0))
unfolding bytes_of
pixel_of_bytes p [] i h = absurd (omega arith)
pixel_of_bytes p (w ∷ ws) zero h = refl
pixel_of_bytes p (w ∷ ws) (suc i) h =
    let e : 3 * suc i ≡ suc (suc (suc (3 * i))) = omega arith in
    rw e (pixel_of_bytes p ws i (omega arith))

-- words with the same mark show the same colour, whatever their results
pub mark_colour : (parts : ℕ → ℕ) (mask : ℕ) (table : List ℕ) (v w : ℕ) → high v ≡ high w → high v ≢ 0 → high v ≢ 255
    → colour_of (panel_of parts mask table) v ≡ colour_of (panel_of parts mask table) w
unfolding colour_of
mark_colour parts mask table v w e h k = ap (λ (x : ℕ). shaded parts (gives table (bit_and x mask))) (mark_alone v w e h k)

-- what a run writes lies at the buffer's start
pixel_over : (bs out : List ℕ) (i : ℕ) → 3 * i + 3 ≤ length bs → pixel_at i (over bs out) ≡ pixel_at i bs
pixel_over bs out i h =
    let n : 3 * i ≤ length bs = omega arith in
    let m : 3 ≤ length (drop (3 * i) bs) = rw (length-drop (3 * i) bs) (omega arith) in
    ap (take 3) (drop-append-le (3 * i) bs (drop (length bs) out) n) ∙ take-append-le 3 (drop (3 * i) bs) (drop (length bs) out) m

module _ (parts : ℕ → ℕ) (s : Vram) (p : Palette) (t : List ℕ) (k blank : ℕ) {r q : List ℕ} (e : Agree r q) where
  -- ---- the bytes

  shown_twins : (i : ℕ) → i < k → (let w = get_or (clocked_words k s r) i 0 in high w ≢ 0 → high w ≢ 255
      → pixel_at i (run_bytes (panel_of parts p.mask t) blank k s r) ≡ pixel_at i (run_bytes (panel_of parts p.mask t) blank k s q))
  shown_twins i h z f = go (eqb blank 0)
    where
      panel : Panel
      panel = panel_of parts p.mask t

      -- blanked or not
      go : (u : Bool) → pixel_at i (cond u (shown panel k s r) (zeros (3 * k))) ≡ pixel_at i (cond u (shown panel k s q) (zeros (3 * k)))
      go true =
          pixel_of_bytes panel (clocked_words k s r) i (rw (clocked_words_length k s r) h)
          ∙ ap bytes (mark_colour parts p.mask t (get_or (clocked_words k s r) i 0) (get_or (clocked_words k s q) i 0) (agree_at (clocked_agree k s e) i) z f)
          ∙ sym (pixel_of_bytes panel (clocked_words k s q) i (rw (clocked_words_length k s q) h))
      go false = refl

  -- ---- the call, each with a buffer of its own, as long as the other's

  module _ (out out' : List ℕ) (l : length out ≡ length out') where
    pub answer_twins : (run_call_by parts s r p t k blank out).answer ≡ (run_call_by parts s q p t k blank out').answer
    unfolding run_call_by
    answer_twins = rw (agree_length e, l)

    pub pixel_twins : (run_call_by parts s r p t k blank out).answer.number ≡ 0 → (i : ℕ) → i < k
        → (let w = get_or (clocked_words k s r) i 0 in high w ≢ 0 → high w ≢ 255
        → pixel_at i (run_call_by parts s r p t k blank out).buffer ≡ pixel_at i (run_call_by parts s q p t k blank out').buffer)
    pixel_twins n i h z f =
        let m : (run_call_by parts s q p t k blank out').answer.number ≡ 0 = sym (ap (λ (a : Answered). a.number) answer_twins) ∙ n in
        let panel = panel_of parts p.mask t in
        ap (λ (o : Outcome). pixel_at i o.buffer) (run_made parts s r p t k blank out (sym (run_number parts s r p t k blank out) ∙ n))
        ∙ pixel_over (run_bytes panel blank k s r) out i (rw (run_bytes_length panel blank k s r) (omega arith))
        ∙ shown_twins i h z f
        ∙ sym (pixel_over (run_bytes panel blank k s q) out' i (rw (run_bytes_length panel blank k s q) (omega arith)))
        ∙ sym (ap (λ (o : Outcome). pixel_at i o.buffer) (run_made parts s q p t k blank out' (sym (run_number parts s q p t k blank out') ∙ m)))
