-- Laws of texts: how one is written after another, and how long they are. Assumes nothing.
use Rattle.std.specs.Prelude.{◌≡◌, refl, Bool, true, false, cond, ◌≢◌, List, [], ◌∷◌, ◌++◌, ℕ, zero, suc, ◌+◌, ◌*◌, ◌/◌, ◌%◌, ◌≤◌, ◌<◌, eqb, ltb, length, get_or, set, take}
use Rattle.std.proofs.Common.{sym, ap, ap₂, ◌∙◌, subst, append_assoc, append-nil, arith, add-zero, add-one, eq-eqb, ne_eqb, length-append, length-take, take-suc, take_all}
use Rattle.std.proofs.lemmas.List.Edits.{sets}
use Rattle.std.proofs.Math.Seq.{length-sets}
use Rattle.numbers.specs.Buffer.{over}
use Rattle.numbers.specs.BufferLaws.{sets_append, over_sets}
use Rattle.report.specs.Text.{digit, digit_from, decimal, hex, answer_line, word_line, word_lines, all_lines, line_of, Put}

-- ---- bytes written from a place of a buffer on

pub length_take_is : (n : ℕ) (l : List ℕ) → n ≤ length l → length (take n l) ≡ n
length_take_is n l h = simp length-take (omega arith)

pub put_nothing : (t : List ℕ) (at : ℕ) → Put t at [] t at
put_nothing t at = record { text = refl; end = sym (add-zero at) }

-- one text after another
pub put_then : {t t₁ t₂ a b : List ℕ} {at at₁ at₂ : ℕ} → Put t at a t₁ at₁ → Put t₁ at₁ b t₂ at₂ → Put t at (a ++ b) t₂ at₂
put_then {t} {t₁} {t₂} {a} {b} {at} {at₁} {at₂} p q =
    record {
      text = q.text ∙ ap₂ (λ (x : List ℕ) (n : ℕ). sets x n b) p.text p.end ∙ sets_append a b t at;
      end = q.end ∙ ap (λ (n : ℕ). n + length b) p.end ∙ omega (arith, length-append a b);
    }

pub put_size : {t t' bs : List ℕ} {at at' : ℕ} → Put t at bs t' at' → length t' ≡ length t
put_size {t} {t'} {bs} {at} p = ap length p.text ∙ length-sets t at bs

-- one byte more of some
pub put_next : (t now bs : List ℕ) (at i : ℕ) → i < length bs → now ≡ sets t at (take i bs) → set now (at + i) (get_or bs i 0) ≡ sets t at (take (i + 1) bs)
put_next t now bs at i h e =
    let s : take (i + 1) bs ≡ take i bs ++ get_or bs i 0 ∷ [] = ap (λ (n : ℕ). take n bs) (add-one i) ∙ take-suc bs i 0 h in
    let n : at + i ≡ at + length (take i bs) = ap (λ (x : ℕ). at + x) (sym (length_take_is i bs (omega arith))) in
    ap₂ (λ (x : List ℕ) (k : ℕ). set x k (get_or bs i 0)) e n ∙ sets_append (take i bs) (get_or bs i 0 ∷ []) t at ∙ ap (sets t at) (sym s)

pub put_more : {t t₁ t₂ : List ℕ} {at at₁ at₂ b : ℕ} (bs : List ℕ) (i : ℕ) → i < length bs → b ≡ get_or bs i 0
    → Put t at (take i bs) t₁ at₁ → Put t₁ at₁ (b ∷ []) t₂ at₂ → Put t at (take (i + 1) bs) t₂ at₂
put_more {t} {t₁} {t₂} {at} {at₁} {at₂} {b} bs i h e p q =
    let n : at₁ ≡ at + i = p.end ∙ ap (λ (k : ℕ). at + k) (length_take_is i bs (omega arith)) in
    record {
      text = q.text ∙ ap₂ (λ (k x : ℕ). set t₁ k x) n e ∙ put_next t t₁ bs at i h p.text;
      end = q.end ∙ omega (arith, n, length_take_is (i + 1) bs (omega arith));
    }

-- from the start of a buffer, with room: the text, and the spare bytes as they were
pub put_over : {t t' bs : List ℕ} {at' : ℕ} → Put t 0 bs t' at' → length bs ≤ length t → t' ≡ over bs t
put_over {t} {t'} {bs} p h = p.text ∙ over_sets bs t h

-- ---- lengths

digit_from_most : (least n : ℕ) → length (digit_from least n) ≤ 1
digit_from_most least n = go (ltb n least)
  where
    go : (t : Bool) → length (cond t [] (digit (n / least % 10) ∷ [])) ≤ 1
    go true = omega arith
    go false = omega arith

decimal_most : (n : ℕ) → length (decimal n) ≤ 4
unfolding decimal
decimal_most n =
    let a = digit_from_most 1000 n in
    let b = digit_from_most 100 n in
    let c = digit_from_most 10 n in
    simp length-append (omega arith)

-- a line of a word has at most 15 bytes
pub line_most : (i w : ℕ) → length (word_line i w) ≤ 15
unfolding word_line hex
line_most i w =
    let a = decimal_most (i / 512) in
    let b = decimal_most (i % 512) in
    simp length-append (omega arith)

-- ---- lines, one word more

pub line_of_most : (i w : ℕ) → length (line_of i w) ≤ 15
line_of_most i w = go (eqb w 0)
  where
    go : (t : Bool) → length (cond t [] (word_line i w)) ≤ 15
    go true = omega arith
    go false = line_most i w

lines_append : (i : ℕ) (ws : List ℕ) (w : ℕ) → word_lines i (ws ++ w ∷ []) ≡ word_lines i ws ++ line_of (i + length ws) w
unfolding word_lines
lines_append i [] w = append-nil (line_of i w) ∙ ap (λ (n : ℕ). line_of n w) (sym (add-zero i))
lines_append i (v ∷ ws) w =
    let e : suc i + length ws ≡ i + suc (length ws) = omega arith in
    ap (λ (l : List ℕ). line_of i v ++ l) (lines_append (suc i) ws w ∙ ap (λ (n : ℕ). word_lines (suc i) ws ++ line_of n w) e)
    ∙ sym (append_assoc (line_of i v) (word_lines (suc i) ws) (line_of (i + suc (length ws)) w))

pub lines_more : (ws : List ℕ) (i : ℕ) → i < length ws → word_lines 0 (take (i + 1) ws) ≡ word_lines 0 (take i ws) ++ line_of i (get_or ws i 0)
lines_more ws i h =
    let t : take (i + 1) ws ≡ take i ws ++ get_or ws i 0 ∷ [] = ap (λ (n : ℕ). take n ws) (add-one i) ∙ take-suc ws i 0 h in
    let e : 0 + length (take i ws) ≡ i = simp length-take (omega arith) in
    ap (word_lines 0) t ∙ lines_append 0 (take i ws) (get_or ws i 0) ∙ ap (λ (n : ℕ). word_lines 0 (take i ws) ++ line_of n (get_or ws i 0)) e

word_lines_none : word_lines 0 [] ≡ []
unfolding word_lines
word_lines_none = refl

pub lines_most : (ws : List ℕ) (i : ℕ) → i ≤ length ws → length (word_lines 0 (take i ws)) ≤ 15 * i
lines_most ws i h = go i h
  where
    go : (i : ℕ) → i ≤ length ws → length (word_lines 0 (take i ws)) ≤ 15 * i
    go zero h = rw word_lines_none (omega arith)
    go (suc i) h =
        let m = go i (omega arith) in
        let k = line_of_most i (get_or ws i 0) in
        rw (← add-one i, lines_more ws i (omega arith), length-append) (omega arith)

answer_most : (number place : ℕ) → length (answer_line number place) ≤ 20
unfolding answer_line
answer_most number place =
    let a = decimal_most number in
    let b = decimal_most place in
    simp length-append (omega arith)

words_most : (ws : List ℕ) → length (word_lines 0 ws) ≤ 15 * length ws
words_most ws = subst (λ (l : List ℕ). length (word_lines 0 l) ≤ 15 * length ws) (take_all (length ws) ws (omega arith)) (lines_most ws (length ws) (omega arith))

-- the answer line and 15 bytes for each word
pub all_lines_most : (number place : ℕ) (memory : List ℕ) → length (all_lines number place memory) ≤ 20 + 15 * length memory
all_lines_most number place memory = go _
  where
    go : (t : Bool) → length (answer_line number place ++ cond t (word_lines 0 memory) []) ≤ 20 + 15 * length memory
    go true =
        let a = answer_most number place in
        let b = words_most memory in
        simp length-append (omega arith)
    go false =
        let a = answer_most number place in
        simp length-append (omega arith)

-- ---- where a text is written or not

pub put_no_line : {t : List ℕ} {at w : ℕ} (i : ℕ) → w ≡ 0 → Put t at (line_of i w) t at
put_no_line {t} {at} {w} i h = rw (eq-eqb w 0 h) (put_nothing t at)

pub put_a_line : {t t' : List ℕ} {at at' w : ℕ} (i : ℕ) → w ≢ 0 → Put t at (word_line i w) t' at' → Put t at (line_of i w) t' at'
put_a_line {w = w} i h p = rw (ne_eqb w 0 h) p

pub put_refused : {t t' : List ℕ} {at at' number : ℕ} (place : ℕ) (memory : List ℕ) → number ≢ 0
    → Put t at (answer_line number place) t' at' → Put t at (all_lines number place memory) t' at'
put_refused {number = number} place memory h p = rw (ne_eqb number 0 h, append-nil) p

pub put_done : {t t₁ t₂ : List ℕ} {at at₁ at₂ number : ℕ} (place : ℕ) (memory : List ℕ) → number ≡ 0
    → Put t at (answer_line number place) t₁ at₁ → Put t₁ at₁ (word_lines 0 memory) t₂ at₂ → Put t at (all_lines number place memory) t₂ at₂
put_done {number = number} place memory h p q = rw (eq-eqb number 0 h) (put_then p q)

-- the lines of all words, by those of the first and the last one
pub put_lines : {t t₁ t₂ : List ℕ} {at at₁ at₂ : ℕ} (ws : List ℕ) (i w : ℕ) → i < length ws → w ≡ get_or ws i 0
    → Put t at (word_lines 0 (take i ws)) t₁ at₁ → Put t₁ at₁ (line_of i w) t₂ at₂ → Put t at (word_lines 0 (take (i + 1) ws)) t₂ at₂
put_lines ws i w h e p q = rw (lines_more ws i h, ← e) (put_then p q)
