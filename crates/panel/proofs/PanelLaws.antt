-- Laws of what a run shows, over any panel. Assumes nothing.
use Rattle.std.specs.Prelude.{◌≡◌, refl, Bool, true, false, cond, List, [], ◌∷◌, ◌++◌, ℕ, zero, suc, ◌+◌, ◌*◌, ◌≤◌, ◌<◌, eqb, length, get_or, set, take, drop}
use Rattle.std.proofs.Common.{sym, ap, ◌∙◌, append_assoc, arith, zero-add, add-one, length-append, length-take, take-suc, drop-cons, drop-drop, take_at, drop_at}
use Rattle.std.proofs.lemmas.List.{length-replicate, set_at}
use Rattle.vram.specs.declared.Vram.{Vram}
use Rattle.vram.specs.Serial.{clocks, clocked_words}
use Rattle.vram.specs.SerialLaws.{clocked_words_none, clocked_words_add, clocked_words_length}
use Rattle.palette.specs.Table.{Colour, store}
use Rattle.panel.specs.Panel.{Panel, colour_of, bytes_of, shown, zeros, run_bytes}
use Rattle.numbers.specs.Buffer.{over}
use Rattle.numbers.specs.BufferLaws.{over_length}

abbrev pub bytes : Colour → List ℕ
bytes c = c.red ∷ c.green ∷ c.blue ∷ []

-- ---- three bytes a word

pub bytes_length : (p : Panel) (ws : List ℕ) → length (bytes_of p ws) ≡ 3 * length ws
unfolding bytes_of
bytes_length p [] = refl
bytes_length p (w ∷ ws) = omega (arith, bytes_length p ws)

pub bytes_append : (p : Panel) (v w : List ℕ) → bytes_of p (v ++ w) ≡ bytes_of p v ++ bytes_of p w
unfolding bytes_of
bytes_append p [] w = refl
bytes_append p (x ∷ v) w = ap (λ (t : List ℕ). bytes (colour_of p x) ++ t) (bytes_append p v w)

bytes_one : (p : Panel) (w : ℕ) → bytes_of p (w ∷ []) ≡ bytes (colour_of p w)
unfolding bytes_of
bytes_one p w = refl

pub shown_length : (p : Panel) (k : ℕ) (s : Vram) (r : List ℕ) → length (shown p k s r) ≡ 3 * k
shown_length p k s r = bytes_length p (clocked_words k s r) ∙ ap (λ (n : ℕ). 3 * n) (clocked_words_length k s r)

-- a run of j + k clocks shows what j show and then what k show
pub shown_add : (p : Panel) (j k : ℕ) (s : Vram) (r : List ℕ) → shown p (j + k) s r ≡ shown p j s r ++ shown p k (clocks j s) r
shown_add p j k s r = ap (bytes_of p) (clocked_words_add j k s r) ∙ bytes_append p (clocked_words j s r) (clocked_words k (clocks j s) r)

-- ---- bytes at the start of a buffer

-- no clocks show nothing
pub over_none : (p : Panel) (s : Vram) (r out : List ℕ) → out ≡ over (shown p 0 s r) out
unfolding bytes_of
over_none p s r out = rw (clocked_words_none s r)

-- more bytes, after the first
pub over_more : (bs cs out : List ℕ) (n : ℕ) → length bs ≡ n → over (bs ++ cs) out ≡ take n (over bs out) ++ over cs (drop n (over bs out))
over_more bs cs out n e =
    let k : length (bs ++ cs) ≡ n + length cs = length-append bs cs ∙ ap (λ (x : ℕ). x + length cs) e in
    let f : over bs out ≡ bs ++ drop n out = ap (λ (x : ℕ). bs ++ drop x out) e in
    rw (f, k, take_at bs (drop n out) n e, drop_at bs (drop n out) n e, drop-drop (length cs) n out) (append_assoc bs cs (drop (n + length cs) out))

-- one byte more
over_byte : (bs out : List ℕ) (b n : ℕ) → length bs ≡ n → n < length out → set (over bs out) n b ≡ over (bs ++ b ∷ []) out
over_byte bs out b n e h =
    let f : over bs out ≡ bs ++ (get_or out n 0 ∷ drop (suc n) out) = ap (λ (x : ℕ). bs ++ drop x out) e ∙ ap (λ (t : List ℕ). bs ++ t) (drop-cons out n 0 h) in
    let k : length (bs ++ b ∷ []) ≡ suc n = length-append bs (b ∷ []) ∙ (omega arith) in
    rw (f, k, set_at bs (get_or out n 0) (drop (suc n) out) b n e) (sym (append_assoc bs (b ∷ []) (drop (suc n) out)))

-- three bytes more: the colour that a word shows
over_colour : (bs out : List ℕ) (c : Colour) (i : ℕ) → length bs ≡ 3 * i → 3 * i + 3 ≤ length out → store (over bs out) i c ≡ over (bs ++ bytes c) out
over_colour bs out c i e h =
    let k₁ : length (bs ++ c.red ∷ []) ≡ 3 * i + 1 = length-append bs (c.red ∷ []) ∙ (omega arith) in
    let k₂ : length ((bs ++ c.red ∷ []) ++ c.green ∷ []) ≡ 3 * i + 2 = length-append (bs ++ c.red ∷ []) (c.green ∷ []) ∙ (omega arith) in
    ap (λ (t : List ℕ). set (set t (3 * i + 1) c.green) (3 * i + 2) c.blue) (over_byte bs out c.red (3 * i) e (omega arith))
    ∙ ap (λ (t : List ℕ). set t (3 * i + 2) c.blue) (over_byte (bs ++ c.red ∷ []) out c.green (3 * i + 1) k₁ (omega arith))
    ∙ over_byte ((bs ++ c.red ∷ []) ++ c.green ∷ []) out c.blue (3 * i + 2) k₂ (omega arith)
    ∙ ap (λ (t : List ℕ). over t out) (append_assoc (bs ++ c.red ∷ []) (c.green ∷ []) (c.blue ∷ []) ∙ append_assoc bs (c.red ∷ []) (c.green ∷ c.blue ∷ []))

-- one word more of a stretch
pub over_word : (p : Panel) (ws out : List ℕ) (i : ℕ) → i < length ws → 3 * length ws ≤ length out
    → store (over (bytes_of p (take i ws)) out) i (colour_of p (get_or ws i 0)) ≡ over (bytes_of p (take (i + 1) ws)) out
over_word p ws out i h l =
    let t : take (i + 1) ws ≡ take i ws ++ get_or ws i 0 ∷ [] = ap (λ (n : ℕ). take n ws) (add-one i) ∙ take-suc ws i 0 h in
    let k : length (bytes_of p (take i ws)) ≡ 3 * i = bytes_length p (take i ws) ∙ ap (λ (n : ℕ). 3 * n) (simp length-take (omega arith)) in
    over_colour (bytes_of p (take i ws)) out (colour_of p (get_or ws i 0)) i k (omega arith)
    ∙ ap (λ (bs : List ℕ). over bs out) (sym (ap (bytes_of p) t ∙ bytes_append p (take i ws) (get_or ws i 0 ∷ []) ∙ ap (λ (x : List ℕ). bytes_of p (take i ws) ++ x) (bytes_one p (get_or ws i 0))))

-- ---- zeros

zeros_more : (i : ℕ) → zeros (i + 1) ≡ zeros i ++ 0 ∷ []
zeros_more i = ap zeros (add-one i) ∙ go i
  where
    go : (i : ℕ) → zeros (suc i) ≡ zeros i ++ 0 ∷ []
    go zero = refl
    go (suc i) = ap (λ (l : List ℕ). 0 ∷ l) (go i)

pub zeros_size : (out now : List ℕ) (i : ℕ) → i ≤ length out → now ≡ over (zeros i) out → length now ≡ length out
zeros_size out now i h e = ap length e ∙ over_length (zeros i) out (rw (length-replicate {A = ℕ} i 0) h)

-- one zero more
pub over_zero : (out now : List ℕ) (i : ℕ) → i < length out → now ≡ over (zeros i) out → set now i 0 ≡ over (zeros (i + 1)) out
over_zero out now i h e =
    ap (λ (l : List ℕ). set l i 0) e ∙ over_byte (zeros i) out 0 i (length-replicate {A = ℕ} i 0) h ∙ ap (λ (l : List ℕ). over l out) (sym (zeros_more i))

zeros_add : (i j : ℕ) → zeros (i + j) ≡ zeros i ++ zeros j
zeros_add zero j = ap zeros (zero-add j)
zeros_add (suc i) j =
    let e : suc i + j ≡ suc (i + j) = omega arith in
    ap zeros e ∙ ap (λ (l : List ℕ). 0 ∷ l) (zeros_add i j)

-- ---- a run of j + k clocks, blanked or not, is a run of j and then a run of k

pub run_bytes_add : (p : Panel) (blank j k : ℕ) (s : Vram) (r : List ℕ) → run_bytes p blank (j + k) s r ≡ run_bytes p blank j s r ++ run_bytes p blank k (clocks j s) r
run_bytes_add p blank j k s r = go (eqb blank 0)
  where
    e : 3 * (j + k) ≡ 3 * j + 3 * k
    e = omega arith

    go : (t : Bool) → cond t (shown p (j + k) s r) (zeros (3 * (j + k)))
        ≡ cond t (shown p j s r) (zeros (3 * j)) ++ cond t (shown p k (clocks j s) r) (zeros (3 * k))
    go true = shown_add p j k s r
    go false = ap zeros e ∙ zeros_add (3 * j) (3 * k)

pub run_bytes_length : (p : Panel) (blank k : ℕ) (s : Vram) (r : List ℕ) → length (run_bytes p blank k s r) ≡ 3 * k
run_bytes_length p blank k s r = go (eqb blank 0)
  where
    go : (t : Bool) → length (cond t (shown p k s r) (zeros (3 * k))) ≡ 3 * k
    go true = shown_length p k s r
    go false = length-replicate {A = ℕ} (3 * k) 0
